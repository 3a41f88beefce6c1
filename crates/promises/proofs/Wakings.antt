-- However many ticks there are, on at most fifteen of them somebody wakes: who has been woken does not begin again.
use Prim.Native.Nat.{ℕ, zero, suc, ◌+◌, ◌≤◌}
use mathlib.Core.Path.{◌≡◌, refl, ap, ◌∙◌}
use mathlib.Core.Bool.{Bool, true, false, not, ◌||◌}
use mathlib.Core.List.{List, [], ◌∷◌}
use native.Mathlib.Omega.{arith}
use lib.Dec.{eqb}
use lib.ListN.{length}
use borrow.Author.Tests.{eqb-true}
use Rattle.std.proofs.Common.{if◌then◌else◌}
use Rattle.lists.specs.Lists.{up_to, any, kept}
use Rattle.lists.proofs.Bools.{or_left, or_right}
use Rattle.numbers.specs.Numbers.{idle}
use Rattle.order.specs.Order.{listed}
use Rattle.order.specs.Tidy.{count}
use Rattle.order.proofs.Passing.{one_number}
use Rattle.order.proofs.Rooms.{exactly_room}
use Rattle.slots.specs.Places.{is_blocked}
use Rattle.rules.specs.Tables.{with_hold}
use Rattle.rules.specs.Lines.{has_begun, begun}
use Rattle.rules.specs.Sound.{sound}
use Rattle.rules.specs.Sentences.{Sound}
use Rattle.rules.specs.Ticks.{one_tick, turned_if, ticks}
use Rattle.rules.proofs.SoundSays.{sound_says}
use Rattle.rules.proofs.SoundLists.{once_of}
use Rattle.rules.proofs.TickJumps.{turn_only}
use Rattle.rules.proofs.KeepTicks.{sound_unheld, ticks_unheld}
use Rattle.rules.proofs.Begun.{Fade}
use Rattle.rules.proofs.BegunCalls.{tick_fades, one_by_one, advanced_fades, released_loop, roomy_in}
use Rattle.promises.specs.Types.{TaskSlot, State}
use Rattle.promises.specs.Advance.{wakes_some, wakings, FewWakings}

-- who fails a test is missing among those who pass
fewer_kept : (q : TaskSlot → Bool) (xs : List TaskSlot) → length (kept q xs) + (if any (λ x. not (q x)) xs then 1 else 0) ≤ length xs
unfolding kept any
fewer_kept q [] = omega arith
fewer_kept q (x ∷ xs) = go (q x) (any (λ y. not (q y)) xs) (fewer_kept q xs)
  where
    go : (b c : Bool) → length (kept q xs) + (if c then 1 else 0) ≤ length xs → length (if b then x ∷ kept q xs else kept q xs) + (if not b || c then 1 else 0) ≤ suc (length xs)
    go true true h = omega arith
    go true false h = omega arith
    go false true h = omega arith
    go false false h = omega arith

counted_any : (q : TaskSlot → Bool) (t : TaskSlot) → q t ≡ true → (xs : List TaskSlot) → 1 ≤ count t.0 xs → any q xs ≡ true
unfolding count any
counted_any q t e [] h = absurd (omega arith)
counted_any q t e (x ∷ xs) h = go (eqb x.0 t.0) refl h (counted_any q t e xs)
  where
    go : (b : Bool) → eqb x.0 t.0 ≡ b → 1 ≤ (if b then 1 else 0) + count t.0 xs → (1 ≤ count t.0 xs → any q xs ≡ true) → (q x || any q xs) ≡ true
    go true f m ih = or_left (q x) (any q xs) (ap q (one_number x t (eqb-true x.0 t.0 f)) ∙ e)
    go false f m ih = or_right (q x) (any q xs) (ih (omega arith))

abbrev left : State → ℕ
left k = length (begun k.tasks (listed k.order))

-- those who began are at most fifteen: idle is listed and has not
few_begun : (k : State) → Sound k → left k ≤ 15
unfolding begun
few_begun k S =
    let ts = k.tasks in
    let l = listed k.order in
    let R = (roomy_in k S).room in
    let idles : has_begun ts idle ≡ false = ap is_blocked S.tables.as_idle.ready in
    let once : count 0 l ≡ 1 = once_of ts k.order S.listing idle ∙ rw S.tables.as_idle.ready in
    let some : any (λ t. not (has_begun ts t)) l ≡ true = counted_any (λ t. not (has_begun ts t)) idle (rw idles) l (omega arith) in
    let all : length l ≤ 16 = exactly_room {e = λ n. count n l} l (record { counts = λ n. refl }) R.once R.low in
    omega (arith, rw some at (fewer_kept (has_begun ts) l))

-- each tick on which somebody wakes takes one from those who began
one_fewer : (turns : Bool) (j : State) → Fade j (turned_if turns (one_tick j)) → left (turned_if turns (one_tick j)) + (if wakes_some j then 1 else 0) ≤ left j
one_fewer turns j f =
    let l = begun j.tasks (listed j.order) in
    let who = f.stand ∙ ap (λ us. kept (has_begun us) l) (turn_only turns (one_tick j)).tasks in
    omega (arith, ap (λ (xs : List TaskSlot). length xs) who, fewer_kept (has_begun (one_tick j).tasks) l)

module _ (turns : Bool) (k : State) (fades : (n : ℕ) → Fade (ticks turns n k) (turned_if turns (one_tick (ticks turns n k)))) where
  waned : (n : ℕ) → wakings turns n k + left (ticks turns n k) ≤ left k
  unfolding wakings ticks up_to
  waned zero = omega arith
  waned (suc n) =
      let j = ticks turns n k in
      let h : left (ticks turns (suc n) k) + (if wakes_some j then 1 else 0) ≤ left j = one_fewer turns j (fades n) in
      omega (arith, waned n)

pub few_wakings : (k : State) → sound k ≡ true → FewWakings k
unfolding ticks up_to
few_wakings k e =
    let S = sound_says k e in
    let R = roomy_in k S in
    let few = few_begun k S in
    record {
      in_advance = λ n z.
          let U = sound_unheld k S z in
          omega (arith, few, waned true k (λ m. one_by_one (ticks true m k) (advanced_fades m k R U).roomy (ticks_unheld m k U)) n);
      in_release = λ n.
          let j = with_hold k 0 0 in
          omega (arith, few, waned false j (λ m. tick_fades (ticks false m j) (released_loop m j R).roomy) n);
    }
