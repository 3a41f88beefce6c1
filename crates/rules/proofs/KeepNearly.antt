-- Soundness on the way: the parts of Sound but the effective priorities, who runs, the uses and the circles, with what is still open named. A call's effect takes nearly sound kernels to nearly
-- sound ones; then the effective priorities are worked out, and choose comes last.
use Prim.Native.Nat.{ℕ, ◌≤◌}
use mathlib.Core.Path.{◌≡◌, sym, ap, ◌∙◌}
use mathlib.Core.Bool.{Bool, true, false, false≢true}
use mathlib.Core.List.{List}
use native.Mathlib.Omega.{arith}
use lib.ListN.{length, length-take, length-append, length-replicate}
use Rattle.std.proofs.Common.{if◌then◌else◌}
use Rattle.numbers.specs.Numbers.{task}
use Rattle.order.specs.Order.{listed, ordered}
use Rattle.order.specs.Tidy.{count, tidy}
use Rattle.order.proofs.Counts.{CountsAre}
use Rattle.order.proofs.Orders.{listed-ordered}
use Rattle.order.proofs.Rooms.{tidy_few, tidy_zeros, exactly_room, exactly_tidy}
use Rattle.slots.specs.Places.{is_free, is_blocked, is_listed}
use Rattle.slots.specs.Values.{task_at}
use Rattle.slots.specs.SoundSlots.{not_due}
use Rattle.rules.specs.Types.{TaskSlot, Place, Task, Object, State}
use Rattle.rules.specs.Sentences.{TaskFits, Tables, Listing, Counts, Runs}
use Rattle.rules.proofs.TableSlots.{past_tasks}
use Rattle.rules.proofs.SoundLists.{listing_of}

-- what is open: which wake ticks may stand
abbrev pub Open : Type 0
Open = TaskSlot → Place → Bool

-- nothing is open at this tick count
abbrev pub settled : ℕ → Open
settled tick = λ t p. not_due tick p

-- the effective priorities are worked out later: of the priorities, that the own ones are in their range
pub record Nearly (w : Open) (k : State) : Type 0 where
  pub tables : Tables k.tasks k.objects
  pub range : (t : TaskSlot) → (task_at k.tasks t).own ≤ 31
  pub listing : Listing k.tasks k.order
  pub due : (t : TaskSlot) → w t (task_at k.tasks t).place ≡ true
  pub counts : Counts k.tick k.hold k.pended

-- what is asked of one task alone: t, whose slot holds x
pub record TaskFine (w : Open) (os : List Object) (t : TaskSlot) (x : Task) : Type 0 where
  pub fits : TaskFits os t x
  pub range : x.own ≤ 31
  pub due : w t x.place ≡ true

-- one that is neither free nor delayed nor waiting
pub unblocked_fits : (os : List Object) (t : TaskSlot) (x : Task) → is_blocked x.place ≡ false → is_free x.place ≡ false → x.outcome ≤ 3 → TaskFits os t x
unblocked_fits os t x b f h =
    record {
      waits = λ o w e. absurd (false≢true (sym b ∙ ap is_blocked e));
      outcome_range = h;
      delay_outcome = λ w e. absurd (false≢true (sym b ∙ ap is_blocked e));
      wait_outcome = λ o w e. absurd (false≢true (sym b ∙ ap is_blocked e));
      free = λ e. absurd (false≢true (sym f ∙ ap is_free e));
      spent = λ e. absurd (false≢true (sym f ∙ ap is_free e));
    }

-- the running task of the kernel is ready and heads its line
abbrev pub RunsIn : State → Type 0
RunsIn k = Runs k.tasks (listed k.order) k.running

-- ── an order made anew
-- a task stands once if it is ready, delayed or waiting, and else not at all
abbrev pub ones : List Task → ℕ → ℕ
ones ts n = if is_listed (task_at ts (task n)).place then 1 else 0

few : (b : Bool) → ◌≤◌ (if b then 1 else 0) 1
few true = omega arith
few false = omega arith

past : (ts : List Task) → length ts ≡ 16 → (n : ℕ) → 16 ≤ n → ones ts n ≡ 0
past ts l n h = let g : length ts ≤ n = omega arith in rw (past_tasks ts (task n) g)

pub record Relisted (ts : List Task) (l : List TaskSlot) : Type 0 where
  pub listing : Listing ts (ordered l)
  pub same : listed (ordered l) ≡ l

pub relisted : (ts : List Task) (l : List TaskSlot) → length ts ≡ 16 → ((n : ℕ) → count n l ≡ ones ts n) → Relisted ts l
unfolding ordered
relisted ts l h c =
    record {
      listing = listing_of ts (ordered l) (λ t. ap (count t.0) same ∙ c t.0) (rw (length-take, length-append, length-replicate) (omega arith))
          (tidy_few (ordered l) tidied) (tidy_zeros (ordered l) tidied);
      same = same;
    }
  where
    exact : CountsAre (ones ts) l
    exact = record { counts = c }

    same : listed (ordered l) ≡ l
    same = listed-ordered l (exactly_room l exact (λ n. few (is_listed (task_at ts (task n)).place)) (past ts h))

    tidied : tidy (ordered l) ≡ true
    tidied = exactly_tidy l exact (λ n. few (is_listed (task_at ts (task n)).place)) (past ts h)
