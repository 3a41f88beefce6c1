-- The door: a number that a caller writes names the slot that has it now, or none; and a slot's number is what a caller reads. Behind it there are slots alone.
use Rattle.std.specs.Prelude.{ℕ, ◌+◌, ◌*◌, ◌/◌, ◌%◌, Bool, ◌&&◌, List, [], ◌∷◌, eqb, leb, length, get_or, set, replicate, if◌then◌else◌}
use Rattle.lists.specs.Lists.{every, all_below}
use Rattle.numbers.specs.declared.TaskSlot.{TaskSlot}
use Rattle.numbers.specs.declared.ObjSlot.{ObjSlot}
use Rattle.numbers.specs.Numbers.{task, object}
use Rattle.calls.specs.Types.{TaskNo, ObjNo, Uses}
use Rattle.calls.specs.Named.{task_of, object_of}

-- "16 task slots, 0 to 15"; "16 object slots, 0 to 15": no table has a slot 16
abbrev pub no_slot : ℕ
no_slot = 16

abbrev pub no_task : TaskSlot
no_task = task no_slot

abbrev pub no_object : ObjSlot
no_object = object no_slot

-- ── one table: how often what stood in each of its slots was given up
abbrev pub use_in : List ℕ → ℕ → ℕ
use_in us s = get_or us s 0

-- "each number slot + 16 × use"
abbrev pub number_in : List ℕ → ℕ → ℕ
number_in us s = s + 16 * use_in us s

-- the slot that a number names. "A number whose use part differs from the slot's names nothing."
abbrev pub slot_in : List ℕ → ℕ → ℕ
slot_in us n = if eqb (n / 16) (use_in us (n % 16)) then n % 16 else no_slot

-- "A slot given up at use 65,535 then has use 65,536 and is not used again": it is then spent, which its table says, and the use that is kept here stays
abbrev pub last_in : List ℕ → ℕ → Bool
last_in us s = eqb (use_in us s) 65535

-- "goes up by one at each delete or remove"
abbrev pub next_use : ℕ → ℕ
next_use u = if eqb u 65535 then u else u + 1

abbrev pub given_up : List ℕ → ℕ → List ℕ
given_up us s = set us s (next_use (use_in us s))

-- "a use is at most 65,536, in a taken slot 65,535": that of a spent slot is 65,536, and any other is kept here
abbrev pub uses_in_range : List ℕ → Bool
uses_in_range us = eqb (length us) 16 && all_below 16 (λ n. leb (use_in us n) 65535)

-- ── the two tables
-- "a slot's use starts at 0"
unfoldable pub fresh_uses : Uses
fresh_uses = record { tasks = replicate 16 0; objects = replicate 16 0 }

-- "and idle's is 0"
unfoldable pub uses_fine : Uses → Bool
uses_fine us = every (uses_in_range us.tasks ∷ uses_in_range us.objects ∷ eqb (use_in us.tasks 0) 0 ∷ [])

abbrev pub task_slot : Uses → TaskNo → TaskSlot
task_slot us t = task (slot_in us.tasks t.0)

abbrev pub obj_slot : Uses → ObjNo → ObjSlot
obj_slot us o = object (slot_in us.objects o.0)

abbrev pub task_no : Uses → TaskSlot → TaskNo
task_no us t = task_of (number_in us.tasks t.0)

abbrev pub obj_no : Uses → ObjSlot → ObjNo
obj_no us o = object_of (number_in us.objects o.0)

abbrev pub without_task : Uses → TaskSlot → Uses
without_task us t = record { tasks = given_up us.tasks t.0; objects = us.objects }

abbrev pub without_object : Uses → ObjSlot → Uses
without_object us o = record { tasks = us.tasks; objects = given_up us.objects o.0 }
