-- Event groups, of kernel values as the code holds them and of its steps; and where waiters stand, over any history.
use Prim.Native.Nat.{ℕ, ◌≤◌}
use mathlib.Core.Path.{◌≡◌, refl, sym, ap, subst, ◌∙◌}
use mathlib.Core.Bool.{Bool, true, false}
use mathlib.Core.List.{List}
use native.Mathlib.Omega.{arith}
use lib.Bits.{bit_or}
use lib.Dec.{eqb}
use lib.ListN.{length, replicate}
use borrow.Author.Tests.{eqb-true, eqb-false, ne_eqb, le-ltb}
use Rattle.calls.specs.declared.ObjNo.{ObjNo}
use Rattle.calls.specs.Door.{obj_slot}
use Rattle.calls.specs.Behind.{asked}
use Rattle.order.specs.Order.{listed}
use Rattle.slots.specs.Who.{waiters_of}
use Rattle.slots.specs.Wants.{all_bits, holds_of}
use Rattle.rows.specs.Applies.{out_of_range, names_none, table}
use Rattle.rules.specs.Tables.{fresh}
use Rattle.rules.specs.Lines.{those}
use Rattle.rules.specs.Events.{slip_bits, bits_set}
use Rattle.rules.specs.Sound.{sound}
use Rattle.rules.specs.Sentences.{MayWait, receiver, sender, taker, awaiter, Sound}
use Rattle.rules.specs.Refusals.{later_row, refusal}
use Rattle.rules.specs.Steps.{Stepped, turned_away, step}
use Rattle.rules.specs.Trace.{CallMade}
use Rattle.rules.proofs.SoundSays.{sound_says}
use Rattle.rules.proofs.Keeps.{ready_low}
use Rattle.kernel.specs.Stands.{kernel_of, shown}
use Rattle.kernel.specs.Promises.{Steps}
use Rattle.promises.specs.History.{reached}
use Rattle.promises.specs.Program.{answering}
use Rattle.promises.specs.Turns.{Turn}
use Rattle.promises.specs.Reached.{program_calls}
use Rattle.promises.specs.EventGroups.{SlipTold, SlipKept, SetTells, SameTasks, AnyOrder, HasBits, MakesGroup, SetsBits, ClearsBits, Accepts, MayAsk, AwaitsBits}
use Rattle.promises.proofs.Histories.{reached-sound}
use Rattle.promises.proofs.Reaches.{program_reached}
use Rattle.promises.proofs.EventSets.{set_wakes_so}
use Rattle.promises.proofs.EventOrder.{any_order}
use Rattle.promises.proofs.EventTells.{slip_told_so, set_tells_so}
use Rattle.promises.proofs.SlipKept.{slip_kept}
use Rattle.promises.proofs.EventGroups.{makes_group_so, sets_bits_so, clears_bits_so, awaits_so}
use Rattle.claims.specs.Types.{TaskSlot, ObjSlot, Call, MakeGroup, SetBits, ClearBits, Await, Want, Bits, Kind, Group, State, Kernel, Step}
use Rattle.claims.specs.Exact.{shown_step, behind}
use Rattle.claims.specs.Runs.{Called, Port, Turned, fresh_port}
use Rattle.claims.specs.Events.{SetComesTo, Unsatisfied, StandUnsatisfied, NoGroup, OnGroup, a_set, a_clear, a_wait}
use Rattle.claims.proofs.Values.{says_test}
use Rattle.claims.proofs.Exact.{shows_step}
use Rattle.claims.proofs.Reaching.{calls_sound, session_sound}

-- ── the four calls
module _ (k : Kernel) (e : sound (shown k) ≡ true) (item store : List ℕ) (r : Step) (after : List ℕ) (whole : length store ≡ 9216) where
  S : Sound (shown k)
  S = sound_says (shown k) e

  pub makes_on : Steps k MakeGroup item store r after → MakesGroup (shown k) store (shown_step r after)
  makes_on g = subst (MakesGroup (shown k) store) (shows_step k MakeGroup item store r after e g) (makes_group_so (shown k) e item store whole)

  module _ (n : ObjNo) (b : ℕ) (H : HasBits (shown k) n b) where
    pub sets_on : (m : ℕ) → Steps k (SetBits n m) item store r after → SetsBits (shown k) n b m store (shown_step r after)
    sets_on m g = subst (SetsBits (shown k) n b m store) (shows_step k (SetBits n m) item store r after e g) (sets_bits_so (shown k) e n b H item store whole m)

    pub clears_on : (m : ℕ) → Steps k (ClearBits n m) item store r after → ClearsBits (shown k) n b m store (shown_step r after)
    clears_on m g = subst (ClearsBits (shown k) n b m store) (shows_step k (ClearBits n m) item store r after e g) (clears_bits_so (shown k) e n b H item store whole m)

    -- what a set comes to
    pub set_comes_to : (m : ℕ) → m ≤ all_bits → Steps k (SetBits n m) item store r after → SetComesTo (shown k) (obj_slot (shown k).uses n) (bit_or b m) store (shown_step r after)
    set_comes_to m few g =
        let o = obj_slot (shown k).uses n in
        let d = (sets_on m g).sets few in
        record {
          next = bits_set (shown k) o (bit_or b m);
          wakes = set_wakes_so (shown k) S o b H (bit_or b m);
          kernel = ap (λ (x : Stepped). x.kernel) d;
          answer = ap (λ (x : Stepped). x.answer) d;
          tells = subst (SetTells (shown k) o (bit_or b m) store) (sym (ap (λ (x : Stepped). x.store) d)) (set_tells_so (shown k) S o (bit_or b m) store whole);
        }

    module _ (m all clear w : ℕ) (g : Steps k (Await n m all clear w) item store r after) where
      pub awaits_on : AwaitsBits (shown k) n b m all clear w store (shown_step r after)
      awaits_on = subst (AwaitsBits (shown k) n b m all clear w store) (shows_step k (Await n m all clear w) item store r after e g) (awaits_so (shown k) e n b H item store whole m all clear w)

      -- kept or cleared, the slip is the same
      pub told_on : Accepts m all clear → MayAsk (shown k) w → holds_of b m (eqb all 1) ≡ true → SlipTold (shown k).running b store after
      told_on A M q =
          subst (SlipTold (shown k).running b store) (sym (go (eqb clear 0) refl))
          (slip_told_so b (shown k).running store (ready_low (shown k).tasks (shown k).running S.tables.task_slots S.running.runs.ready) whole)
        where
          go : (y : Bool) → eqb clear 0 ≡ y → after ≡ slip_bits b (shown k).running store
          go true z = ap (λ (x : Stepped). x.store) (awaits_on.kept_at_once A M q (eqb-true clear 0 z))
          go false z = ap (λ (x : Stepped). x.store) (awaits_on.cleared_at_once A M q (omega (arith, eqb-false clear 0 z, A.clear_flag)))

-- of a step of any value
pub slip_kept_on : (k : Kernel) (c : Call) (item store : List ℕ) (r : Step) (after : List ℕ) → Steps k c item store r after → SlipKept (shown k) (behind k c) store after
slip_kept_on k c item store r after g = subst (SlipKept (shown k) (behind k c) store) (sym g.store) (slip_kept (shown k) c item store)

pub in_any_order : (k : Kernel) → sound (shown k) ≡ true → (o : ObjSlot) (b : ℕ) (q : List TaskSlot) → SameTasks q (those (shown k).tasks (waiters_of o) (listed (shown k).order))
    → AnyOrder (shown k) o b q
in_any_order k e o b q s = any_order (shown k) (sound_says (shown k) e) o b q s

-- ── what names no group
refuses_five : (k : State) → sound k ≡ true → (n : ObjNo) → NoGroup k n → (item store : List ℕ) → length store ≡ 9216 → {c : Call} → OnGroup n c → step k c item store ≡ turned_away k 5 store
unfolding step refusal later_row table out_of_range names_none asked
refuses_five k e n H item store whole (a_set {m} few) = rw (e, whole, le-ltb all_bits m few, H)
refuses_five k e n H item store whole (a_clear {m} few) = rw (e, whole, le-ltb all_bits m few, H)
refuses_five k e n H item store whole (a_wait {m} {all} {clear} A) =
    rw (e, whole, le-ltb all_bits m A.few, le-ltb 1 all A.all_flag, le-ltb 1 clear A.clear_flag, ne_eqb m 0 (λ z. omega (arith, A.some)), H)

pub no_group_on : (k : Kernel) → sound (shown k) ≡ true → (n : ObjNo) → NoGroup (shown k) n → (c : Call) → OnGroup n c → (item store : List ℕ) → length store ≡ 9216
    → (r : Step) (after : List ℕ) → Steps k c item store r after → shown_step r after ≡ turned_away (shown k) 5 store
no_group_on k e n H c O item store whole r after g = sym (shows_step k c item store r after e g) ∙ refuses_five (shown k) e n H item store whole O

-- ── where waiters stand
on_a_group : {t : TaskSlot} {x : Want} {y : Kind} → MayWait t x y → {b : ℕ} → y ≡ Group b → Unsatisfied b x
on_a_group (receiver f) q = absurd (let z : ◌≡◌ {A = ℕ} 0 1 = cc in omega arith)
on_a_group (sender f) q = absurd (let z : ◌≡◌ {A = ℕ} 0 1 = cc in omega arith)
on_a_group (taker d) q = absurd (let z : ◌≡◌ {A = ℕ} 0 1 = cc in omega arith)
on_a_group (awaiter {b = a} {m = m} {all = all} {clear = clear} l h f) {b} q =
    let z : a ≡ b = cc in
    record { mask = m; all = all; clear = clear; wants = refl; some = l; few = h; not_met = subst (λ (c : ℕ). holds_of c m all ≡ false) z f }

for_bits : {t : TaskSlot} {x : Want} {y : Kind} → MayWait t x y → {m : ℕ} {all clear : Bool} → x ≡ Bits m all clear → (b : ℕ) × (y ≡ Group b)
for_bits (receiver f) q = absurd (let z : ◌≡◌ {A = ℕ} 0 1 = cc in omega arith)
for_bits (sender f) q = absurd (let z : ◌≡◌ {A = ℕ} 0 1 = cc in omega arith)
for_bits (taker d) q = absurd (let z : ◌≡◌ {A = ℕ} 0 1 = cc in omega arith)
for_bits (awaiter {b = b} l h f) q = (b, refl)

stand_so : (k : State) → sound k ≡ true → StandUnsatisfied k
stand_so k e =
    record {
      on_groups = λ t y w b p q. on_a_group (((sound_says k e).tables.tasks t).waits y w p) q;
      nowhere_else = λ t y w m all clear p q. for_bits (((sound_says k e).tables.tasks t).waits y w p) q;
    }

pub stand_unsatisfied : (k : Kernel) → sound (shown k) ≡ true → StandUnsatisfied (shown k)
stand_unsatisfied k e = stand_so (shown k) e

pub calls_unsatisfied : (ms : List CallMade) (k : Kernel) → Called (kernel_of fresh) ms k → StandUnsatisfied (shown k)
calls_unsatisfied ms k f = stand_unsatisfied k (says_test k (calls_sound ms k f))

pub lines_unsatisfied : (ls : List (List ℕ)) → StandUnsatisfied (answering fresh (replicate 9216 0) ls).kernel
lines_unsatisfied ls = subst (λ (s : State). StandUnsatisfied s) (sym (program_reached ls)) (stand_so (reached (program_calls ls)) (reached-sound (program_calls ls)))

pub session_unsatisfied : (ts : List Turn) (p : Port) → Turned fresh_port ts p → StandUnsatisfied (shown p.session.kernel)
session_unsatisfied ts p f = stand_unsatisfied p.session.kernel (says_test p.session.kernel (session_sound ts p f))
