-- The columns that stand for a list have 0 for every number that is not used.
use mathlib.Core.Path.{◌≡◌}
use mathlib.Core.Bool.{true}
use mathlib.Core.List.{List, map}
use lib.ListN.{get_or, get_or-map}
use Rattle.lists.proofs.Bools.{below_all}
use Rattle.slots.specs.declared.Want.TheVariants.{OwnTurn}
use Rattle.slots.specs.declared.Task.{Task}
use Rattle.slots.specs.Values.{free_task}
use Rattle.tasks.specs.Masks.{flags_of, mask_of, wants_of}
use Rattle.tasks.specs.Columns.{state_of, object_cell, wake_cell, want_cell, tasks_of}
use Rattle.tasks.specs.Known.{canonical}
use Rattle.tasks.proofs.Columns.{place_back}

pub tasks_plain : (xs : List Task) → canonical (tasks_of xs) ≡ true
unfolding canonical tasks_of wants_of
tasks_plain xs =
    below_all 16 _
    (λ i l. rw (get_or-map state_of xs i free_task, get_or-map object_cell xs i free_task, get_or-map wake_cell xs i free_task)
    (rw (get_or-map flags_of (map want_cell xs) i OwnTurn, get_or-map mask_of (map want_cell xs) i OwnTurn, get_or-map want_cell xs i free_task)
    (place_back (get_or xs i free_task).place).1))
