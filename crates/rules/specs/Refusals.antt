-- "What is turned away": what the rows of the table look at in a state, and the number of the first that applies.
use Rattle.std.specs.Prelude.{ℕ, Bool, not, ◌&&◌, ◌||◌, if◌then◌else◌}
use Rattle.lists.specs.Lists.{is_none}
use Rattle.order.specs.Order.{listed}
use Rattle.slots.specs.Kinds.{is_held, kind_at}
use Rattle.slots.specs.Values.{task_at}
use Rattle.rows.specs.Asking.{is, makes}
use Rattle.rows.specs.Applies.{first_row, table}
use Rattle.rules.specs.Types.{ObjSlot, Asked, waiters_of, Seen, State}
use Rattle.rules.specs.Tables.{holds, free_slot, free_object}
use Rattle.rules.specs.Lines.{those}
use Rattle.rules.specs.Circles.{closes_circle}
use Rattle.rules.specs.Sound.{sound}

-- "lowest free slot", "lowest free object": the slot that a create or make takes
abbrev pub new_slot : State → Asked → ℕ
new_slot k a = if is 1 a then free_slot k.tasks else free_object k.objects

-- what row 10 asks: "delete of a task that holds a mutex; remove of a held mutex or an object with waiters"
unfoldable pub held_or_waited : State → ObjSlot → Bool
held_or_waited k o = is_held (kind_at k.objects o) || not (is_none (those k.tasks (waiters_of o) (listed k.order)))

unfoldable pub in_use : State → Asked → Bool
in_use k a = (is 2 a && holds k.objects a.task) || (is 12 a && held_or_waited k a.object)

-- what the rows look at; a call that is no create or make takes no slot, and 0 is never full
abbrev pub seen : State → Asked → Seen
seen k a =
    record {
      place = (task_at k.tasks a.task).place;
      kind = kind_at k.objects a.object;
      new = if makes a then new_slot k a else 0;
      used = in_use k a;
      circle = closes_circle k a;
      running = k.running;
      hold = k.hold;
      pended = k.pended;
    }

-- rows 2 to 18
unfoldable pub later_row : State → Asked → ℕ → ℕ → ℕ
later_row k a item store = first_row (table (seen k a) a item store)

-- the whole table: 1 "the kernel value is not sound" stands first
unfoldable pub refusal : State → Asked → ℕ → ℕ → ℕ
refusal k a item store = if sound k then later_row k a item store else 1
