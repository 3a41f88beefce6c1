-- The table of objects as a list, in the words of the rules; and as the columns that stand for it.
use Rattle.std.specs.Prelude.{ℕ, Bool, not, ◌&&◌, ◌||◌, ◌≡◌, List, map, eqb, ltb, leb, length, get_or, set, if◌then◌else◌}
use Rattle.lists.specs.Lists.{any, index, all_below, values}
use Rattle.lists.specs.FourBytes.{low_byte, second_byte, third_byte, last_byte, of_bytes}
use Rattle.numbers.specs.Numbers.{task}
use Rattle.numbers.specs.declared.TaskSlot.{TaskSlot}
use Rattle.slots.specs.Types.{Nobody, By}
use Rattle.slots.specs.declared.Sort.{Sort}
use Rattle.slots.specs.declared.Sort.TheVariants.{Ordinary, Recursive}
use Rattle.slots.specs.declared.Kind.{Kind}
use Rattle.slots.specs.declared.Kind.TheVariants.{Unused, Spent as SpentObject, Queue, Mutex, Group}
use Rattle.slots.specs.declared.Ring.{Ring}
use Rattle.slots.specs.declared.Object.{Object}
use Rattle.slots.specs.Kinds.{takes_object, held_by, holder_of}
use Rattle.objects.specs.declared.Cells.{Cells}
use Rattle.objects.specs.declared.Objects.{Objects}

abbrev pub six : ℕ → ℕ → ℕ → ℕ → ℕ → ℕ → Cells
six s c z f k h = record { state = s; capacity = c; size = z; first = f; count = k; holder = h }

abbrev pub ring : ℕ → ℕ → ℕ → ℕ → Ring
ring c z f k = record { capacity = c; size = z; first = f; count = k }

-- one that has no ring
abbrev pub bare : ℕ → ℕ → ℕ → Cells
bare s k h = six s 0 0 0 k h

-- a mutex, in one state or another by its sort
abbrev pub mutex_cells : Sort → ℕ → ℕ → ℕ → Cells
mutex_cells Ordinary a b h = bare a 0 h
mutex_cells (Recursive n) a b h = bare b n h

-- an object in numbers: "a number that a state does not use is 0"
abbrev pub cells_of : Kind → Cells
cells_of Unused = bare 0 0 0
cells_of SpentObject = bare 3 0 0
cells_of (Queue q) = six 1 q.capacity q.size q.first q.count 0
cells_of (Mutex s Nobody) = mutex_cells s 2 4 0
cells_of (Group b) = six 5 (low_byte b) (second_byte b) (third_byte b) (last_byte b) 0
cells_of (Mutex s (By t)) = mutex_cells s 6 7 t.0

-- and back
unfoldable pub kind_of : Cells → Kind
kind_of c =
    if eqb c.state 0 then Unused
    else if eqb c.state 1 then Queue (ring c.capacity c.size c.first c.count)
    else if eqb c.state 2 then Mutex Ordinary Nobody
    else if eqb c.state 3 then SpentObject
    else if eqb c.state 4 then Mutex (Recursive c.count) Nobody
    else if eqb c.state 5 then Group (of_bytes c.capacity c.size c.first c.count)
    else if eqb c.state 6 then Mutex Ordinary (By (task c.holder))
    else Mutex (Recursive c.count) (By (task c.holder))

-- the columns that stand for a list of objects
unfoldable pub objects_of : List Object → Objects
objects_of xs =
    record {
      state = map (λ (x : Object). (cells_of x.kind).state) xs;
      capacity = map (λ (x : Object). (cells_of x.kind).capacity) xs;
      size = map (λ (x : Object). (cells_of x.kind).size) xs;
      first = map (λ (x : Object). (cells_of x.kind).first) xs;
      count = map (λ (x : Object). (cells_of x.kind).count) xs;
      holder = map (λ (x : Object). (cells_of x.kind).holder) xs;
    }

-- the columns with the row `n` changed
unfoldable pub put_kind : Objects → ℕ → Kind → Objects
put_kind os n k =
    record {
      state = set os.state n (cells_of k).state;
      capacity = set os.capacity n (cells_of k).capacity;
      size = set os.size n (cells_of k).size;
      first = set os.first n (cells_of k).first;
      count = set os.count n (cells_of k).count;
      holder = set os.holder n (cells_of k).holder;
    }

-- the numbers of the row `n`, and the kind that they say
abbrev pub cells_at : Objects → ℕ → Cells
cells_at os n =
    record {
      state = get_or os.state n 0;
      capacity = get_or os.capacity n 0;
      size = get_or os.size n 0;
      first = get_or os.first n 0;
      count = get_or os.count n 0;
      holder = get_or os.holder n 0;
    }

unfoldable pub kind_in : Objects → ℕ → Kind
kind_in os n = kind_of (cells_at os n)

-- the object that they say; and the table as a list
abbrev pub row_at : Objects → ℕ → Object
row_at os n = record { kind = kind_in os n }

unfoldable pub rows_of : Objects → List Object
rows_of os = values (row_at os) (length os.state)

-- the task holds a mutex
unfoldable pub held_in : Objects → TaskSlot → Bool
held_in os t = any (λ (x : Object). held_by t x.kind) (rows_of os)

-- who holds each; 16 where nobody does
unfoldable pub holders_in : Objects → List ℕ
holders_in os = map (λ (x : Object). (holder_of x.kind).0) (rows_of os)

-- all that is answered
pub record HoldersAre (os : Objects) (r : List ℕ) : Type 0 where
  pub many : length (rows_of os) ≡ 16
  pub said : r ≡ holders_in os

-- the lowest unused row, spent ones left out; their number where there is none
unfoldable pub unused_in : Objects → ℕ
unused_in os = index (λ (x : Object). takes_object x.kind) (rows_of os)

-- "a number that a state does not use is 0"
abbrev pub no_ring : ℕ → ℕ → ℕ → Bool
no_ring c z f = eqb c 0 && (eqb z 0 && eqb f 0)

-- a queue, and an event group, whose bits stand there in four bytes
abbrev pub filled : ℕ → Bool
filled s = eqb s 1 || eqb s 5

-- these and a recursive mutex count
abbrev pub counts : ℕ → Bool
counts s = filled s || (eqb s 4 || eqb s 7)

-- an event group's first three are bytes
abbrev pub in_bytes : ℕ → ℕ → ℕ → ℕ → Bool
in_bytes s c z f = not (eqb s 5) || (ltb c 256 && (ltb z 256 && ltb f 256))

abbrev pub known : Cells → Bool
known c =
    leb c.state 7
    && ((filled c.state || no_ring c.capacity c.size c.first)
    && (in_bytes c.state c.capacity c.size c.first
    && ((counts c.state || eqb c.count 0)
    && (leb 6 c.state || eqb c.holder 0))))

unfoldable pub canonical : Objects → Bool
canonical os = all_below 16 (λ i. known (cells_at os i))
