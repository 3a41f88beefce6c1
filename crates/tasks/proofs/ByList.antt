-- Each walk of the columns that stand for a list is the walk of the list.
use Prim.Native.Nat.{ℕ, zero, suc, min, ◌<◌}
use mathlib.Core.Path.{◌≡◌, refl, sym, ap, ◌∙◌}
use mathlib.Core.Bool.{Bool, true, false, not, ◌&&◌}
use mathlib.Core.List.{List, [], ◌∷◌, map}
use native.Mathlib.Omega.{arith}
use lib.Dec.{eqb, ltb}
use lib.ListN.{length, get_or, set, length-map, get_or-map, get_or-eq_default}
use borrow.Author.Tests.{ltb-true, ltb-false}
use Rattle.std.proofs.Common.{if◌then◌else◌}
use Rattle.lists.specs.Lists.{foldl, any, kept, index, up_to, values, all_below}
use Rattle.lists.proofs.Bools.{all_below_lem}
use Rattle.numbers.specs.declared.TaskSlot.{TaskSlot}
use Rattle.numbers.specs.declared.ObjSlot.{ObjSlot}
use Rattle.numbers.specs.Numbers.{task, same_task}
use Rattle.order.specs.declared.Order.{Order}
use Rattle.heights.specs.Heights.{occupied, largest}
use Rattle.chains.specs.Chains.{within, largest_own}
use Rattle.chains.specs.Columns.{says}
use Rattle.slots.specs.Types.{Never, At}
use Rattle.slots.specs.declared.Place.{Place}
use Rattle.slots.specs.declared.Place.TheVariants.{Free, Ready, Delayed, Waiting, Suspended, Spent}
use Rattle.slots.specs.declared.Task.{Task}
use Rattle.slots.specs.Who.{Who}
use Rattle.std.specs.Prelude.{None}
use Rattle.slots.specs.Places.{is_ready, takes_task, waits_on, waited_on, wakes_at, away}
use Rattle.slots.specs.Values.{free_task, levelled, task_at, in_line}
use Rattle.slots.specs.Leads.{better}
use Rattle.tasks.specs.Numbering.{cells_of}
use Rattle.tasks.specs.Columns.{wake_cell, tasks_of, free_in, put, levelled_at, row_at}
use Rattle.tasks.specs.Walks.{lead_in, line_in, top_in, lines_in, waited_in}
use Rattle.tasks.specs.Dues.{until_in, wake_now, wait_ends, Woken, woken, ready_of, tailed, wake_in, wakes_in}
use Rattle.tasks.specs.Loans.{levels_in, reaches_in, fronted, level_in, worked_in}
use Rattle.tasks.proofs.Columns.{row_of, rows_of_lem, put_of, levelled_of}
use Rattle.tasks.proofs.Heads.{none_passes}

not_now : (now : ℕ) (p : Place) → eqb (cells_of p).wake now ≡ false → wakes_at now p ≡ false
not_now now Free e = refl
not_now now Ready e = refl
not_now now (Delayed w) e = e
not_now now (Waiting o Never) e = refl
not_now now (Waiting o (At w)) e = e
not_now now Suspended e = refl
not_now now Spent e = refl

-- a row is the task of that slot
pub task_of : (xs : List Task) (t : TaskSlot) → row_at (tasks_of xs) t.0 ≡ task_at xs t
unfolding task_at
task_of xs t = row_of xs t.0

pub lead_of : (xs : List Task) (w : Who) (l : List TaskSlot) → lead_in (tasks_of xs) w l ≡ foldl (λ b t. better w b t (task_at xs t)) None l
unfolding lead_in
lead_of xs w l = simp task_of

pub line_of : (xs : List Task) (p : ℕ) (l : List TaskSlot) → line_in (tasks_of xs) p l ≡ kept (λ t. in_line p (task_at xs t)) l
unfolding line_in
line_of xs p l = simp task_of

pub top_of : (xs : List Task) (l : List TaskSlot) → top_in (tasks_of xs) l ≡ largest (λ t. (task_at xs t).effective) (kept (λ t. is_ready (task_at xs t).place) l)
unfolding top_in
top_of xs l = ap (λ (row : TaskSlot → Task). largest (λ t. (row t).effective) (kept (λ t. is_ready (row t).place) l)) (λ i t. task_of xs t i)

pub lines_of_lem : (xs : List Task) (l : List TaskSlot) → lines_in (tasks_of xs) l ≡ occupied (λ t. is_ready (task_at xs t).place) (λ t. (task_at xs t).effective) l
unfolding lines_in
lines_of_lem xs l = ap (λ (row : TaskSlot → Task). occupied (λ t. is_ready (row t).place) (λ t. (row t).effective) l) (λ i t. task_of xs t i)

pub waited_of : (xs : List Task) (o : ObjSlot) → waited_in (tasks_of xs) o ≡ any (λ (x : Task). waits_on o x.place) xs
unfolding waited_in
waited_of xs o = rw (rows_of_lem xs)

pub free_of : (xs : List Task) → free_in (tasks_of xs) ≡ index (λ (x : Task). takes_task x.place) xs
unfolding free_in
free_of xs = rw (rows_of_lem xs)

pub until_of : (now : ℕ) (xs : List Task) → until_in now (tasks_of xs) ≡ foldl (λ n x. min n (away now x.place)) 4294967295 xs
unfolding until_in
until_of now xs = rw (rows_of_lem xs)

pub levels_of : (xs : List Task) (by : List ℕ)
    → levels_in (tasks_of xs) by ≡ values (λ u. largest_own (λ s. (task_at xs (task s)).own) (λ s. says by (waited_on (task_at xs (task s)).place)) u) 16
unfolding levels_in
levels_of xs by = ap (λ (row : ℕ → Task). values (λ u. largest_own (λ s. (row s).own) (λ s. says by (waited_on (row s).place)) u) 16) (λ i s. task_of xs (task s) i)

pub reaches_of : (xs : List Task) (by : List ℕ) (h u : ℕ) → reaches_in (tasks_of xs) by h u ≡ (ltb u 16 && within (λ s. says by (waited_on (task_at xs (task s)).place)) 16 h u)
unfolding reaches_in
reaches_of xs by h u = ap (λ (row : ℕ → Task). ltb u 16 && within (λ s. says by (waited_on (row s).place)) 16 h u) (λ i s. task_of xs (task s) i)

pub worked_of : (r : TaskSlot) (by : List ℕ) (xs : List Task) (o : Order) → worked_in r by (woken (tasks_of xs) o)
    ≡ up_to (level_in r (values (λ u. largest_own (λ s. (task_at xs (task s)).own) (λ s. says by (waited_on (task_at xs (task s)).place)) u) 16)) 16 (woken (tasks_of xs) o)
unfolding worked_in
worked_of r by xs o = rw (levels_of xs by)

-- where nobody's wake tick is now, nobody is due, and no wakes change anything
pub none_due : (xs : List Task) (now : ℕ) → wake_now (tasks_of xs) now ≡ false → (t : TaskSlot) → wakes_at now (task_at xs t).place ≡ false
unfolding wake_now tasks_of task_at
none_due xs now e t = go (ltb t.0 (length xs)) refl
  where
    go : (b : Bool) → ltb t.0 (length xs) ≡ b → wakes_at now (get_or xs t.0 free_task).place ≡ false
    go true l =
        let h : t.0 < length (map wake_cell xs) = rw (length-map xs wake_cell) (ltb-true t.0 (length xs) l) in
        not_now now (get_or xs t.0 free_task).place (rw (← get_or-map wake_cell xs t.0 free_task) (none_passes (λ w. eqb w now) (map wake_cell xs) 0 e t.0 h))
    go false l = rw (get_or-eq_default xs free_task {n = t.0} (ltb-false t.0 (length xs) l))

-- where no wait ends now, none does by the list
pub none_ends : (xs : List Task) (now : ℕ) → length xs ≡ 16 → all_below 16 (λ i. not (wait_ends now (row_at (tasks_of xs) i).place)) ≡ true → (t : TaskSlot) → wait_ends now (task_at xs t).place ≡ false
unfolding task_at
none_ends xs now full e t = go (ltb t.0 16) refl
  where
    off : (b : Bool) → not b ≡ true → b ≡ false
    off true q = sym q
    off false q = refl

    go : (b : Bool) → ltb t.0 16 ≡ b → wait_ends now (get_or xs t.0 free_task).place ≡ false
    go true l = ap (λ (x : Task). wait_ends now x.place) (sym (task_of xs t)) ∙ off (wait_ends now (row_at (tasks_of xs) t.0).place) (all_below_lem 16 _ e t.0 (ltb-true t.0 16 l))
    go false l = let h = ltb-false t.0 16 l in rw (get_or-eq_default xs free_task {n = t.0} (omega (arith, h, full)))

pub none_woken : (xs : List Task) (now : ℕ) → wake_now (tasks_of xs) now ≡ false → (o : Order) (l : List TaskSlot) → wakes_in now (woken (tasks_of xs) o) l ≡ woken (tasks_of xs) o
unfolding wakes_in foldl wake_in
none_woken xs now e o [] = refl
none_woken xs now e o (t ∷ l) = ap (λ (w : Woken). foldl (wake_in now) w l) (rw (task_of xs t, none_due xs now e t)) ∙ none_woken xs now e o l

-- the wakes: of a list and an order, and of whatever has a list, an order and a tick count
wake_of : (now : ℕ) (xs : List Task) (o : Order) (t : TaskSlot) → wake_in now (woken (tasks_of xs) o) t
    ≡ woken (tasks_of (if wakes_at now (task_at xs t).place then set xs t.0 (ready_of (task_at xs t)) else xs)) (if wakes_at now (task_at xs t).place then tailed o t else o)
unfolding wake_in
wake_of now xs o t = rw (task_of xs t) (go (wakes_at now (task_at xs t).place))
  where
    go : (b : Bool) → (if b then woken (put (tasks_of xs) t.0 (ready_of (task_at xs t))) (tailed o t) else woken (tasks_of xs) o)
        ≡ woken (tasks_of (if b then set xs t.0 (ready_of (task_at xs t)) else xs)) (if b then tailed o t else o)
    go true = rw (put_of xs t.0 (ready_of (task_at xs t)))
    go false = refl

module _ {S : Type 0} (tasks : S → List Task) (order : S → Order) (now : S → ℕ) (step : S → TaskSlot → S)
    (same : (s : S) (t : TaskSlot) → now (step s t) ≡ now s)
    (sets : (s : S) (t : TaskSlot) → tasks (step s t) ≡ (if wakes_at (now s) (task_at (tasks s) t).place then set (tasks s) t.0 (ready_of (task_at (tasks s) t)) else tasks s))
    (tails : (s : S) (t : TaskSlot) → order (step s t) ≡ (if wakes_at (now s) (task_at (tasks s) t).place then tailed (order s) t else order s)) where
  pub wakes_by : (s : S) (l : List TaskSlot) → wakes_in (now s) (woken (tasks_of (tasks s)) (order s)) l ≡ woken (tasks_of (tasks (foldl step s l))) (order (foldl step s l))
  unfolding wakes_in foldl
  wakes_by s [] = refl
  wakes_by s (t ∷ l) =
      ap (λ (w : Woken). foldl (wake_in (now s)) w l) (wake_of (now s) (tasks s) (order s) t ∙ sym (rw (sets s t, tails s t)))
      ∙ ap (λ (n : ℕ). foldl (wake_in n) (woken (tasks_of (tasks (step s t))) (order (step s t))) l) (sym (same s t))
      ∙ wakes_by (step s t) l

-- the task of the slot n is at its level; and the order where it was not
abbrev pub at_level : List ℕ → List Task → ℕ → Bool
at_level ls xs n = eqb (task_at xs (task n)).effective (get_or ls n 0)

abbrev pub shifted : TaskSlot → List Task → Order → ℕ → Order
shifted r xs o n = if is_ready (task_at xs (task n)).place then (if same_task (task n) r then fronted o (task n) else tailed o (task n)) else o

levelled_at_lem : (xs : List Task) (n eff : ℕ) → levelled_at (tasks_of xs) n eff ≡ tasks_of (set xs n (levelled (task_at xs (task n)) eff))
unfolding task_at
levelled_at_lem xs n eff = levelled_of xs n eff

-- the levels: of a list and an order, and of whatever has a list and an order
module _ (r : TaskSlot) (ls : List ℕ) where
  level_of : (xs : List Task) (o : Order) (n : ℕ) → level_in r ls (woken (tasks_of xs) o) n
      ≡ woken (tasks_of (if at_level ls xs n then xs else set xs n (levelled (task_at xs (task n)) (get_or ls n 0)))) (if at_level ls xs n then o else shifted r xs o n)
  unfolding level_in
  level_of xs o n = rw (task_of xs (task n)) (go (at_level ls xs n))
    where
      go : (b : Bool) → (if b then woken (tasks_of xs) o else woken (levelled_at (tasks_of xs) n (get_or ls n 0)) (shifted r xs o n))
          ≡ woken (tasks_of (if b then xs else set xs n (levelled (task_at xs (task n)) (get_or ls n 0)))) (if b then o else shifted r xs o n)
      go true = refl
      go false = rw (levelled_at_lem xs n (get_or ls n 0))

  module _ {S : Type 0} (tasks : S → List Task) (order : S → Order) (step : S → ℕ → S)
      (sets : (s : S) (n : ℕ) → tasks (step s n) ≡ (if at_level ls (tasks s) n then tasks s else set (tasks s) n (levelled (task_at (tasks s) (task n)) (get_or ls n 0))))
      (moves : (s : S) (n : ℕ) → order (step s n) ≡ (if at_level ls (tasks s) n then order s else shifted r (tasks s) (order s) n)) where
    pub levels_by : (s : S) (m : ℕ) → up_to (level_in r ls) m (woken (tasks_of (tasks s)) (order s)) ≡ woken (tasks_of (tasks (up_to step m s))) (order (up_to step m s))
    unfolding up_to
    levels_by s zero = refl
    levels_by s (suc m) =
        ap (λ (w : Woken). level_in r ls w m) (levels_by s m)
        ∙ level_of (tasks (up_to step m s)) (order (up_to step m s)) m
        ∙ sym (rw (sets (up_to step m s) m, moves (up_to step m s) m))
