-- The columns and the list of tasks that they stand for.
use Prim.Native.Nat.{ℕ, ◌<◌, ◌≤◌}
use mathlib.Core.Path.{◌≡◌, refl}
use mathlib.Core.Bool.{true, ◌&&◌}
use mathlib.Core.List.{List}
use native.Mathlib.Omega.{arith}
use lib.ListN.{length, get_or, set, length-map, get_or-map, get_or-eq_default}
use lib.Seq.{set_out, map-set_same}
use Rattle.slots.proofs.Sweeps.{map-set, values_of}
use Rattle.lists.proofs.Loops.{values_many, value_at}
use Rattle.slots.specs.Types.{Never, At}
use Rattle.slots.specs.declared.Place.{Place}
use Rattle.slots.specs.declared.Place.TheVariants.{Free, Ready, Delayed, Waiting, Suspended, Spent}
use Rattle.slots.specs.declared.Task.{Task}
use Rattle.slots.specs.Values.{free_task, placed, owned, levelled}
use Rattle.tasks.specs.declared.Tasks.{Tasks}
use Rattle.tasks.specs.Masks.{flags_of, mask_of, mask_fine}
use Rattle.tasks.specs.Numbering.{cells_of, place_of}
use Rattle.tasks.specs.Known.{known, wake_known}
use Rattle.tasks.specs.Columns.{state_of, object_cell, wake_cell, want_cell, tasks_of, put, placed_at, owned_at, levelled_at, row_at, rows_of}
use Rattle.tasks.proofs.Wanted.{want_back, cell_of, cell_put, lost_want}

-- the numbers of a place say it, and one that it does not use is 0
pub place_back : (p : Place) → (place_of (cells_of p) ≡ p)
    × ((known (cells_of p).state (cells_of p).object (flags_of (cells_of p).want)
    && (wake_known (cells_of p).state (cells_of p).wake && mask_fine (mask_of (cells_of p).want) (flags_of (cells_of p).want))) ≡ true)
unfolding place_of
place_back Free = (refl, refl)
place_back Ready = (refl, refl)
place_back (Delayed w) = (refl, refl)
place_back (Waiting x (At w)) = (refl, (want_back x.want).1)
place_back (Waiting x Never) = (refl, (want_back x.want).1)
place_back Suspended = (refl, refl)
place_back Spent = (refl, refl)

-- a row of the columns that stand for a list is the list's element
pub row_of : (xs : List Task) (n : ℕ) → row_at (tasks_of xs) n ≡ get_or xs n free_task
unfolding row_at tasks_of
row_of xs n =
    rw (get_or-map state_of xs n free_task, get_or-map object_cell xs n free_task, get_or-map wake_cell xs n free_task)
    (rw (get_or-map (λ (x : Task). x.own) xs n free_task, get_or-map (λ (x : Task). x.effective) xs n free_task)
    (rw (get_or-map (λ (x : Task). x.outcome) xs n free_task, cell_of xs n, (place_back (get_or xs n free_task).place).0)))

-- a store to them is a store to the list
pub put_of : (xs : List Task) (n : ℕ) (x : Task) → put (tasks_of xs) n x ≡ tasks_of (set xs n x)
unfolding put tasks_of
put_of xs n x =
    rw (map-set state_of xs n x, map-set object_cell xs n x, map-set wake_cell xs n x, map-set (λ (y : Task). y.own) xs n x, map-set (λ (y : Task). y.effective) xs n x)
    (rw (map-set (λ (y : Task). y.outcome) xs n x, cell_put xs n x))

-- and so is a store of a place and an outcome alone, or of a priority
pub placed_of : (xs : List Task) (n : ℕ) (p : Place) (o : ℕ) → placed_at (tasks_of xs) n p o ≡ tasks_of (set xs n (placed (get_or xs n free_task) p o))
unfolding placed_at tasks_of
placed_of xs n p o =
    let x : Task = placed (get_or xs n free_task) p o in
    rw (← map-set state_of xs n x, ← map-set object_cell xs n x, ← map-set wake_cell xs n x, map-set_same (λ (y : Task). y.own) xs n x free_task refl)
    (rw (map-set_same (λ (y : Task). y.effective) xs n x free_task refl, ← map-set (λ (y : Task). y.outcome) xs n x, ← cell_put xs n x))

pub owned_of : (xs : List Task) (n own : ℕ) → owned_at (tasks_of xs) n own ≡ tasks_of (set xs n (owned (get_or xs n free_task) own))
unfolding owned_at tasks_of
owned_of xs n own =
    let x : Task = owned (get_or xs n free_task) own in
    rw (map-set_same state_of xs n x free_task refl, map-set_same object_cell xs n x free_task refl, map-set_same wake_cell xs n x free_task refl, map-set_same want_cell xs n x free_task refl)
    (rw (← map-set (λ (y : Task). y.own) xs n x, map-set_same (λ (y : Task). y.effective) xs n x free_task refl, map-set_same (λ (y : Task). y.outcome) xs n x free_task refl))

pub levelled_of : (xs : List Task) (n effective : ℕ) → levelled_at (tasks_of xs) n effective ≡ tasks_of (set xs n (levelled (get_or xs n free_task) effective))
unfolding levelled_at tasks_of
levelled_of xs n effective =
    let x : Task = levelled (get_or xs n free_task) effective in
    rw (map-set_same state_of xs n x free_task refl, map-set_same object_cell xs n x free_task refl, map-set_same wake_cell xs n x free_task refl, map-set_same want_cell xs n x free_task refl)
    (rw (map-set_same (λ (y : Task). y.own) xs n x free_task refl, ← map-set (λ (y : Task). y.effective) xs n x, map-set_same (λ (y : Task). y.outcome) xs n x free_task refl))

-- each column has its sixteen numbers
pub record Full (ts : Tasks) : Type 0 where
  pub states : length ts.state ≡ 16
  pub objects : length ts.object ≡ 16
  pub wakes : length ts.wake ≡ 16
  pub masks : length ts.wants.mask ≡ 16
  pub flags : length ts.wants.flags ≡ 16
  pub owns : length ts.own ≡ 16
  pub effectives : length ts.effective ≡ 16
  pub outcomes : length ts.outcome ≡ 16

-- a number past the table names a free slot, and what is stored there is lost
module _ (ts : Tasks) (f : Full ts) (n : ℕ) (h : 16 ≤ n) where
  pub past_row : row_at ts n ≡ free_task
  unfolding row_at place_of
  past_row =
      rw (get_or-eq_default ts.state 0 {n = n} (omega arith), get_or-eq_default ts.own 0 {n = n} (omega arith))
      (rw (get_or-eq_default ts.effective 0 {n = n} (omega arith), get_or-eq_default ts.outcome 0 {n = n} (omega arith)))

  pub lost_row : (x : Task) → put ts n x ≡ ts
  unfolding put
  lost_row x =
      rw (set_out ts.state n (state_of x) (omega arith), set_out ts.object n (object_cell x) (omega arith), set_out ts.wake n (wake_cell x) (omega arith))
      (rw (set_out ts.own n x.own (omega arith), set_out ts.effective n x.effective (omega arith), set_out ts.outcome n x.outcome (omega arith))
      (rw (lost_want ts.wants f.masks f.flags n h (want_cell x))))

  pub lost_place : (p : Place) (o : ℕ) → placed_at ts n p o ≡ ts
  unfolding placed_at
  lost_place p o =
      rw (set_out ts.state n (cells_of p).state (omega arith), set_out ts.object n (cells_of p).object (omega arith))
      (rw (set_out ts.wake n (cells_of p).wake (omega arith), set_out ts.outcome n o (omega arith), lost_want ts.wants f.masks f.flags n h (cells_of p).want))

  pub lost_own : (own : ℕ) → owned_at ts n own ≡ ts
  unfolding owned_at
  lost_own own = rw (set_out ts.own n own (omega arith))

-- the list has sixteen tasks, and each is its row
pub row_at_lem : (ts : Tasks) (n : ℕ) → n < length ts.state → get_or (rows_of ts) n free_task ≡ row_at ts n
unfolding rows_of
row_at_lem ts n h = value_at (row_at ts) (length ts.state) n free_task h

pub rows_many : (ts : Tasks) → length (rows_of ts) ≡ length ts.state
unfolding rows_of
rows_many ts = values_many (row_at ts) (length ts.state)

-- the columns that stand for a list read as that list
pub rows_of_lem : (xs : List Task) → rows_of (tasks_of xs) ≡ xs
unfolding rows_of tasks_of
rows_of_lem xs = rw (length-map xs state_of) (values_of (row_at (tasks_of xs)) xs free_task (row_of xs))
