-- What soundness asks of the objects and must know of them.
use Rattle.std.specs.Prelude.{ℕ, ◌<◌, ◌≡◌, Bool, true, false, not, ◌&&◌, ◌||◌, List, eqb, ltb, leb, length, get_or, set, if◌then◌else◌}
use Rattle.lists.specs.Lists.{all_below}
use Rattle.numbers.specs.declared.TaskSlot.{TaskSlot}
use Rattle.slots.specs.declared.Kind.{Kind}
use Rattle.slots.specs.Kinds.{hands, marks_of}
use Rattle.slots.specs.SoundSlots.{awaits_turn, may_wait_on, holder_slot, ring_fine, kind_in_range}
use Rattle.objects.specs.declared.Cells.{Cells}
use Rattle.objects.specs.declared.Objects.{Objects}
use Rattle.objects.specs.declared.Holdings.{Holdings}
use Rattle.objects.specs.declared.Marks.{Marks}
use Rattle.objects.specs.Columns.{ring, no_ring, filled, in_bytes, known, cells_at, kind_in, objects_of, rows_of, holders_in}

-- what is asked of an object by itself, in words; and as the code tests it
abbrev pub ranges_fine : Kind → Bool
ranges_fine x = kind_in_range x && holder_slot (hands x)

abbrev pub fine_at : Objects → ℕ → Bool
fine_at os n = known (cells_at os n) && ranges_fine (kind_in os n)

-- a queue's is asked with its ring; only a held recursive mutex has another than 0, since the bits of an event group have no fourth byte
abbrev pub count_right : ℕ → ℕ → Bool
count_right s k = eqb s 1 || (if eqb s 7 then leb 1 k && leb k 255 else eqb k 0)

unfoldable pub row_fine : Cells → Bool
row_fine c =
    leb c.state 7
    && ((filled c.state || no_ring c.capacity c.size c.first)
    && (in_bytes c.state c.capacity c.size c.first
    && (count_right c.state c.count
    && ((leb 6 c.state || eqb c.holder 0)
    && ((not (eqb c.state 1) || ring_fine (ring c.capacity c.size c.first c.count)) && ltb c.holder 16)))))

-- a queue that is empty or full; a mutex that somebody holds
abbrev pub open_at : Objects → ℕ → Bool
open_at os n = eqb (get_or os.state n 0) 1 && (eqb (get_or os.count n 0) 0 || eqb (get_or os.count n 0) (get_or os.capacity n 0))

abbrev pub taken_at : Objects → ℕ → Bool
taken_at os n = leb 6 (get_or os.state n 0)

-- the mark of one who holds, in numbers
abbrev pub marking : List Bool → ℕ → List Bool
marking c t = set c t true

-- sixteen answers
pub record Each (f : ℕ → Bool) (r : List Bool) : Type 0 where
  pub each : (n : ℕ) → n < 16 → get_or r n false ≡ f n

-- who holds, by task slot and by object
pub record MarksAre (os : Objects) (r : Marks) : Type 0 where
  pub marks : r.held ≡ marks_of (rows_of os)
  pub by : r.by ≡ holders_in os

-- all that is answered: what is fine stands for the list that it reads as
pub record HoldingsAre (os : Objects) (r : Holdings) : Type 0 where
  pub many : length (rows_of os) ≡ 16
  pub marks : r.held ≡ marks_of (rows_of os)
  pub by : r.by ≡ holders_in os
  pub waited : (t : TaskSlot) (n : ℕ) → n < 16 → may_wait_on r.open r.taken r.holder t n ≡ awaits_turn t (kind_in os n)
  pub said : r.fine ≡ all_below 16 (fine_at os)
  pub whole : r.fine ≡ true → os ≡ objects_of (rows_of os)
