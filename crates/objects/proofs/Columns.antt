-- The columns and the list of objects that they stand for.
use Prim.Native.Nat.{ℕ, ◌<◌, ◌≤◌}
use mathlib.Core.Path.{◌≡◌, refl, sym, ap, ◌∙◌}
use mathlib.Core.Bool.{true, false, ◌&&◌, ◌||◌}
use mathlib.Core.List.{List, map}
use native.Mathlib.Omega.{arith}
use lib.Dec.{eqb, leb}
use lib.ListN.{length, get_or, set, length-map, get_or-map, get_or-eq_default}
use lib.Seq.{set_out}
use borrow.Author.Tests.{ne_eqb, lt-ltb, le-leb}
use Rattle.slots.proofs.Sweeps.{map-set, values_of, some_row, first_row}
use Rattle.lists.specs.FourBytes.{low_byte, second_byte, third_byte}
use Rattle.lists.proofs.Bytes.{bytes_back, bytes_small}
use Rattle.lists.proofs.Tests.{by_seven}
use Rattle.lists.proofs.Loops.{values_many, value_at}
use Rattle.lists.specs.Lists.{up_to, index}
use Rattle.numbers.specs.declared.TaskSlot.{TaskSlot}
use Rattle.numbers.specs.Numbers.{task}
use Rattle.slots.specs.Types.{Nobody, By}
use Rattle.slots.specs.declared.Sort.TheVariants.{Ordinary, Recursive}
use Rattle.slots.specs.declared.Kind.{Kind}
use Rattle.slots.specs.declared.Kind.TheVariants.{Unused, Spent as SpentObject, Queue, Mutex, Group}
use Rattle.slots.specs.declared.Object.{Object}
use Rattle.slots.specs.Kinds.{unused, takes_object, held_by}
use Rattle.objects.specs.declared.Cells.{Cells}
use Rattle.objects.specs.declared.Objects.{Objects}
use Rattle.objects.specs.Columns.{cells_of, cells_at, kind_of, objects_of, put_kind, kind_in, row_at, rows_of, held_in, unused_in, known}

-- the numbers of a kind say it, and one that it does not use is 0
pub kind_back : (k : Kind) → (kind_of (cells_of k) ≡ k) × (known (cells_of k) ≡ true)
unfolding kind_of
kind_back Unused = (refl, refl)
kind_back SpentObject = (refl, refl)
kind_back (Queue q) = (refl, refl)
kind_back (Mutex Ordinary Nobody) = (refl, refl)
kind_back (Mutex (Recursive n) Nobody) = (refl, refl)
kind_back (Group b) = (ap Group (bytes_back b), rw (lt-ltb (low_byte b) 256 (bytes_small b).0, lt-ltb (second_byte b) 256 (bytes_small b).1, lt-ltb (third_byte b) 256 (bytes_small b).2))
kind_back (Mutex Ordinary (By t)) = (refl, refl)
kind_back (Mutex (Recursive n) (By t)) = (refl, refl)

module _ (xs : List Object) (n : ℕ) where
  number : (f : Cells → ℕ) → get_or (map (λ (x : Object). f (cells_of x.kind)) xs) n (f (cells_of Unused)) ≡ f (cells_of (get_or xs n unused).kind)
  number f = get_or-map (λ (x : Object). f (cells_of x.kind)) xs n unused

  -- a row of the columns that stand for a list is the list's element
  pub cells_of_lem : cells_at (objects_of xs) n ≡ cells_of (get_or xs n unused).kind
  unfolding objects_of
  cells_of_lem =
      rw (number (λ c. c.state), number (λ c. c.capacity), number (λ c. c.size), number (λ c. c.first), number (λ c. c.count), number (λ c. c.holder))

  pub kind_of_lem : kind_in (objects_of xs) n ≡ (get_or xs n unused).kind
  unfolding kind_in
  kind_of_lem = rw cells_of_lem (kind_back (get_or xs n unused).kind).0

  stored : (k : Kind) (f : Cells → ℕ) → set (map (λ (x : Object). f (cells_of x.kind)) xs) n (f (cells_of k)) ≡ map (λ (x : Object). f (cells_of x.kind)) (set xs n (record { kind = k }))
  stored k f = map-set (λ (x : Object). f (cells_of x.kind)) xs n (record { kind = k })

  -- a store to them is a store to the list
  pub put_of : (k : Kind) → put_kind (objects_of xs) n k ≡ objects_of (set xs n (record { kind = k }))
  unfolding put_kind objects_of
  put_of k =
      rw (stored k (λ c. c.state), stored k (λ c. c.capacity), stored k (λ c. c.size), stored k (λ c. c.first), stored k (λ c. c.count), stored k (λ c. c.holder))

-- each column has its sixteen numbers
pub record Full (os : Objects) : Type 0 where
  pub states : length os.state ≡ 16
  pub capacities : length os.capacity ≡ 16
  pub sizes : length os.size ≡ 16
  pub firsts : length os.first ≡ 16
  pub counts : length os.count ≡ 16
  pub holders : length os.holder ≡ 16

-- a number past the table names an unused slot, and what is stored there is lost
module _ (os : Objects) (f : Full os) (n : ℕ) (h : 16 ≤ n) where
  pub past_kind : kind_in os n ≡ Unused
  unfolding kind_in kind_of
  past_kind = rw (get_or-eq_default os.state 0 {n = n} (omega arith))

  pub lost_kind : (k : Kind) → put_kind os n k ≡ os
  unfolding put_kind
  lost_kind k =
      rw (set_out os.state n (cells_of k).state (omega arith), set_out os.capacity n (cells_of k).capacity (omega arith))
      (rw (set_out os.size n (cells_of k).size (omega arith), set_out os.first n (cells_of k).first (omega arith))
      (rw (set_out os.count n (cells_of k).count (omega arith), set_out os.holder n (cells_of k).holder (omega arith))))

-- the list has sixteen objects, and each is its row
pub row_at_lem : (os : Objects) (n : ℕ) → n < length os.state → (get_or (rows_of os) n unused).kind ≡ kind_in os n
unfolding rows_of
row_at_lem os n h = ap (λ (x : Object). x.kind) (value_at (row_at os) (length os.state) n unused h)

pub rows_many : (os : Objects) → length (rows_of os) ≡ length os.state
unfolding rows_of
rows_many os = values_many (row_at os) (length os.state)

-- the columns that stand for a list read as that list
pub rows_of_lem : (xs : List Object) → rows_of (objects_of xs) ≡ xs
unfolding rows_of objects_of
rows_of_lem xs = rw (length-map xs (λ x. (cells_of x.kind).state)) (values_of (row_at (objects_of xs)) xs unused (λ n. λ j. record { kind = kind_of_lem xs n j }))

-- the tests in numbers are those in words
abbrev of : Objects → ℕ → ℕ → Cells
of os n s = record { state = s; capacity = get_or os.capacity n 0; size = get_or os.size n 0; first = get_or os.first n 0; count = get_or os.count n 0; holder = get_or os.holder n 0 }

pub held_kind : (os : Objects) (n s : ℕ) → 7 ≤ s → kind_of (of os n s) ≡ Mutex (Recursive (get_or os.count n 0)) (By (task (get_or os.holder n 0)))
unfolding kind_of
held_kind os n s h =
    rw (ne_eqb s 0 (λ e. omega arith), ne_eqb s 1 (λ e. omega arith), ne_eqb s 2 (λ e. omega arith), ne_eqb s 3 (λ e. omega arith), ne_eqb s 4 (λ e. omega arith), ne_eqb s 5 (λ e. omega arith), ne_eqb s 6 (λ e. omega arith))

row_held : (os : Objects) (n : ℕ) (t : TaskSlot) → n < length os.state → (leb 6 (get_or os.state n 0) && eqb (get_or os.holder n 0) t.0) ≡ held_by t (get_or (rows_of os) n unused).kind
unfolding kind_in kind_of
row_held os n t h =
    rw (row_at_lem os n h)
    (by_seven (λ s. (leb 6 s && eqb (get_or os.holder n 0) t.0) ≡ held_by t (kind_of (of os n s))) refl refl refl refl refl refl refl
    (λ s l. rw (held_kind os n s l, le-leb 6 s (omega (arith, l)))) (get_or os.state n 0))

pub held_some : (os : Objects) (t : TaskSlot) (n : ℕ) → length os.state ≡ n → held_in os t ≡ up_to (λ b i. b || (leb 6 (get_or os.state i 0) && eqb (get_or os.holder i 0) t.0)) n false
unfolding held_in
held_some os t n w =
    sym (some_row (λ (x : Object). held_by t x.kind) (λ i. leb 6 (get_or os.state i 0) && eqb (get_or os.holder i 0) t.0) (rows_of os) unused n (rows_many os ∙ w)
    (λ i h. row_held os i t (rw (← rows_many os) h)))

row_unused : (os : Objects) (n : ℕ) → n < length os.state → takes_object (get_or (rows_of os) n unused).kind ≡ eqb (get_or os.state n 0) 0
unfolding kind_in kind_of
row_unused os n h =
    rw (row_at_lem os n h) (by_seven (λ s. takes_object (kind_of (of os n s)) ≡ eqb s 0) refl refl refl refl refl refl refl (λ s l. rw (held_kind os n s l, ne_eqb s 0 (λ e. omega arith))) (get_or os.state n 0))

pub unused_first : (os : Objects) → index (λ s. eqb s 0) os.state ≡ unused_in os
unfolding unused_in
unused_first os = first_row (λ (x : Object). takes_object x.kind) (λ s. eqb s 0) (rows_of os) os.state unused 0 (rows_many os) (row_unused os)
