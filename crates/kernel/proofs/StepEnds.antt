-- The step of a sound kernel value: refused, or accepted.
use Rattle.std.proofs.Common.{◌≡◌, ℕ, Bool, true, false, List, length, sym, refl, ap, ◌∙◌, subst, eqb, Ok, Err, if◌then◌else◌}
use Rattle.numbers.specs.declared.TaskSlot.{TaskSlot}
use Rattle.calls.specs.declared.Asked.{Asked}
use Rattle.calls.specs.declared.Answer.{Answer}
use Rattle.calls.specs.declared.Call.{Call}
use Rattle.calls.specs.declared.refusals.Refusal.{Refusal}
use Rattle.calls.specs.declared.refusals.Refusal.TheVariants.{Unsound, StoreLength, NoCall, OutOfRange, NamesNone, WrongSize, NotForIdle, NotWithHold, NoneFree}
use Rattle.calls.specs.declared.refusals.Refusal.TheVariants.{InUse, NotHis, HisAlready, NotSuspended, MustWait, NoDepth, NoTick, Circle, CountFull}
use Rattle.calls.specs.Refusals.{number_of}
use Rattle.calls.specs.Behind.{asked}
use Rattle.calls.specs.Door.{fresh_uses}
use Rattle.calls.specs.Said.{says, said, done, made, waiting}
use Rattle.slots.specs.Places.{is_blocked}
use Rattle.slots.specs.Values.{task_at}
use Rattle.rules.specs.State.{State}
use Rattle.rules.specs.Tables.{with_uses}
use Rattle.rules.specs.Lines.{chosen}
use Rattle.rules.specs.Sound.{sound}
use Rattle.rows.specs.Asking.{makes}
use Rattle.rules.specs.Circles.{closes_circle}
use Rattle.rules.specs.Refusals.{new_slot}
use Rattle.rules.specs.Refusals.{held_or_waited, in_use, later_row, refusal}
use Rattle.rules.specs.Effects.{effect}
use Rattle.rules.specs.Steps.{new_number, stored, answered, uses_after, accepted, step, may_lend, after}
use Rattle.rules.proofs.SoundSays.{sound_says}
use Rattle.rules.proofs.Keeps.{ready_low}
use Rattle.rules.proofs.KeepChosen.{sound_with}
use Rattle.rules.proofs.TickJumps.{chosen_only}
use Rattle.rules.proofs.KeepTicks.{fresh_used}
use Rattle.kernel.specs.Types.{Core, Kernel, Uses, Step}
use Rattle.kernel.specs.Stands.{core_of, kernel_of, shown_core, shown, standing}
use Rattle.kernel.specs.Does.{Reads, Does, answer_of, Firm, Reckons}
use Rattle.kernel.specs.Promises.{came, SoundSteps, Steps}
use Rattle.rules.specs.Sentences.{Sound}
use Rattle.kernel.proofs.Stands.{same_running}
use Rattle.kernel.proofs.Shown.{shown_with_lem, shown_uses}
use Rattle.rules.specs.Loans.{worked_out}
use Rattle.rules.proofs.LoanWorks.{worked_place}
use Rattle.rules.proofs.RowPasses.{Passed, passed}
use Rattle.kernel.proofs.LevelWorks.{stands_reckons, Settled}
use Rattle.rules.proofs.KeepEvery.{effect_keeps}
use Rattle.rules.proofs.LoanStill.{settles}

-- no refusal's number is 0
never_0 : (r : Refusal) → eqb (number_of r) 0 ≡ false
never_0 Unsound = refl
never_0 StoreLength = refl
never_0 NoCall = refl
never_0 OutOfRange = refl
never_0 NamesNone = refl
never_0 WrongSize = refl
never_0 NotForIdle = refl
never_0 NotWithHold = refl
never_0 NoneFree = refl
never_0 InUse = refl
never_0 NotHis = refl
never_0 HisAlready = refl
never_0 NotSuspended = refl
never_0 MustWait = refl
never_0 NoDepth = refl
never_0 NoTick = refl
never_0 Circle = refl
never_0 CountFull = refl

pub stands_on : (k : Kernel) (e : State) → sound (shown k) ≡ true → standing k e ≡ kernel_of e
stands_on k e h = rw h

pub stays : (k : Kernel) (e : State) → sound (shown k) ≡ false → standing k e ≡ k
stays k e h = rw h

module _ (k : Kernel) (fine : sound (shown k) ≡ true) (h : k ≡ kernel_of (shown k)) where
  pub core_stands : k.core ≡ core_of (shown k)
  core_stands = ap (λ (x : Kernel). x.core) h

  behind : shown_core k.core ≡ with_uses (shown k) fresh_uses
  behind = ap shown_core core_stands ∙ shown_with_lem (shown k) fresh_uses

  S : Sound (shown k)
  S = sound_says (shown k) fine

  pub firm : Firm k.core
  unfolding core_of
  firm =
      record {
        stands = core_stands ∙ sym (ap core_of behind);
        sound = subst Sound (sym behind) (sound_with (shown k) S fresh_used);
        runs = rw (same_running k.core (shown k) core_stands) (ready_low (shown k).tasks (shown k).running S.tables.task_slots S.running.runs.ready);
      }

  -- no row looks at the uses
  pub same_row : (a : Asked) (item store : ℕ) → later_row (shown_core k.core) a item store ≡ later_row (shown k) a item store
  unfolding later_row in_use held_or_waited closes_circle
  same_row a item store = ap (λ (x : State). later_row x a item store) behind

  -- behind the door
  module _ (c : Call) (a : Asked) (door : a ≡ asked k.uses c) (item s : List ℕ) (r : Step) (after : List ℕ) where
    pub of_call : SoundSteps k a item s r after → SoundSteps k (asked k.uses c) item s r after
    of_call = subst (λ (x : Asked). SoundSteps k x item s r after) door

  pub refused : (a : Asked) (item s : List ℕ) (r : Refusal) → number_of r ≡ later_row (shown k) a (length item) (length s) → SoundSteps k a item s (came k (Err r)) s
  refused a item s r e =
      rw (← e, never_0 r) record { kernel = h ∙ sym (stands_on k (shown k) fine); answer = refl; store = refl }

  -- what the call answers, as the definition has it
  answer_is : (a : Asked) (n : ℕ) (u : TaskSlot) (e : State) → (makes a ≡ true → n ≡ new_slot (shown k) a) → u ≡ (shown k).running
      → answer_of a (new_number k.uses a n) u e ≡ answered (shown k) a (chosen (worked_out e))
  unfolding answered
  answer_is a n u e f r = go (makes a) f
    where
      go : (b : Bool) → (b ≡ true → n ≡ new_slot (shown k) a)
          → (if b then says made (new_number k.uses a n) else if is_blocked (task_at e.tasks u).place then says waiting 0 else says done 0)
          ≡ (if b then says made (new_number (shown k).uses a (new_slot (shown k) a)) else if is_blocked (task_at (chosen (worked_out e)).tasks (shown k).running).place then says waiting 0 else says done 0)
      go true g = rw (shown_uses k, g refl)
      go false g = rw ((chosen_only (worked_out e)).tasks, worked_place e (shown k).running, r)

  -- after most calls there is nothing to work out
  pub settled_after : (c : Call) (a : Asked) → a ≡ asked k.uses c → (item store : ℕ) → later_row (shown k) a item store ≡ 0 → (next : Core) → Does k.core (λ e. effect e a) next
      → may_lend a ≡ false → Reckons next
  settled_after c a door item store e next d quiet =
      let same : a ≡ asked (shown k).uses c = door ∙ ap (λ (us : Uses). asked us c) (sym (shown_uses k)) in
      let P : Passed (shown k) (asked (shown k).uses c) store = subst (λ (x : Asked). Passed (shown k) x store) same (passed (shown k) a item store e) in
      stands_reckons (effect (shown k) a) (d (shown k) core_stands)
      (subst (λ (x : Asked). Settled (effect (shown k) x)) (sym same)
      ((effect_keeps (shown k) S store c P).nearly.tables.task_slots, settles (shown k) S store c P (subst (λ (x : Asked). may_lend x ≡ false) same quiet)))

  pub done_so : (a : Asked) (item s after : List ℕ) (n : ℕ) (u : TaskSlot) (next worked last : Core) (end : Kernel) (answer : Answer)
      → later_row (shown k) a (length item) (length s) ≡ 0
      → (makes a ≡ true → Reads k.core (λ e. new_slot e a) n) → u ≡ k.core.running → end ≡ record { core = last; uses = uses_after k.uses a }
      → Does k.core (λ e. effect e a) next → Reads k.core (λ e. stored e a item s) after → Reads next (answer_of a (new_number k.uses a n) u) (said answer) → Does next worked_out worked → Does worked chosen last
      → SoundSteps k a item s (came end (Ok answer)) after
  unfolding accepted after core_of
  done_so a item s after n u next worked last end answer e f r v d t q o w =
      rw e record {
        kernel = v ∙ both ∙ sym (stands_on k (with_uses (chosen (worked_out (effect (shown k) a))) (uses_after (shown k).uses a)) fine);
        answer = q (effect (shown k) a) (d (shown k) core_stands) ∙ answer_is a n u (effect (shown k) a) (λ m. f m (shown k) core_stands) (r ∙ same_running k.core (shown k) core_stands);
        store = t (shown k) core_stands;
      }
    where
      parts : {c c' : Core} {x x' : Uses} → c ≡ c' → x ≡ x' → ◌≡◌ {A = Kernel} (record { core = c; uses = x }) (record { core = c'; uses = x' })
      parts p x = λ i. record { core = p i; uses = x i }

      both : ◌≡◌ {A = Kernel} (record { core = last; uses = uses_after k.uses a }) (kernel_of (with_uses (chosen (worked_out (effect (shown k) a))) (uses_after (shown k).uses a)))
      both = parts (w (worked_out (effect (shown k) a)) (o (effect (shown k) a) (d (shown k) core_stands))) (ap (λ (x : Uses). uses_after x a) (sym (shown_uses k)))

-- the step of any kernel value, by whether it is sound
pub sound_steps : (k : Kernel) (c : Call) (item s : List ℕ) (r : Step) (after : List ℕ) → sound (shown k) ≡ true → SoundSteps k (asked k.uses c) item s r after → Steps k c item s r after
unfolding step refusal
sound_steps k c item s r after e d =
    rw e (subst (λ (us : Uses). SoundSteps k (asked us c) item s r after) (sym (shown_uses k)) d)

pub unsound_steps : (k : Kernel) (c : Call) (item s : List ℕ) → sound (shown k) ≡ false → Steps k c item s (came k (Err Unsound)) s
unfolding step refusal
unsound_steps k c item s e = rw e record { kernel = rw e; answer = refl; store = refl }
