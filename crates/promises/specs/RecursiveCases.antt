-- The calibration routine that calls the meter routine, and the rows beside it: some calls, and what each is answered and who runs then.
use Rattle.std.specs.Prelude.{ℕ, List, [], ◌∷◌, ◌++◌, replicate}
use Rattle.numbers.specs.Numbers.{task, object}
use Rattle.calls.specs.Named.{task_of, object_of}
use Rattle.slots.specs.Kinds.{count_in, holder_of, kind_at}
use Rattle.rules.specs.Tables.{fresh}
use Rattle.rules.specs.Lines.{level}
use Rattle.rules.specs.Steps.{Stepped}
use Rattle.promises.specs.Types.{Call, Create, Delete, Hold, Release, MakeMutex, MakeRecursive, Remove, Receive, Take, Give}
use Rattle.promises.specs.Cases.{for_ever, view, Case, from_fresh, ok, ok_new, wait, refuses}
use Rattle.calls.specs.Said.{done, made, waiting, refused}

-- task 1 makes a recursive mutex and takes it n times
abbrev pub taken_times : ℕ → List Call
taken_times n = Create 3 ∷ MakeRecursive ∷ replicate n (Take (object_of 0) 0)

-- what is looked at: how often its holder has it, who that is, and what task 1 has of priority
abbrev pub how_often : Stepped → List ℕ
how_often d = let x = kind_at d.kernel.objects (object 0) in count_in x ∷ (holder_of x).0 ∷ level d.kernel.tasks (task 1) ∷ []

-- "The calibration routine calls the meter routine, and both take.": task 2 waits meanwhile, and lends its priority until the last give
unfoldable pub nested : Case
nested =
    record {
      start = fresh;
      look = how_often;
      calls = taken_times 2 ++ (Create 5 ∷ Take (object_of 0) for_ever ∷ Give (object_of 0) ∷ Give (object_of 0) ∷ Take (object_of 0) 0 ∷ Give (object_of 0) ∷ Give (object_of 0) ∷ Give (object_of 0) ∷ []);
      expected =
          view made 1 1 (0 ∷ 16 ∷ 3 ∷ [])
          ∷ view made 0 1 (0 ∷ 16 ∷ 3 ∷ [])
          ∷ view done 0 1 (1 ∷ 1 ∷ 3 ∷ [])
          ∷ view done 0 1 (2 ∷ 1 ∷ 3 ∷ [])
          ∷ view made 2 2 (2 ∷ 1 ∷ 3 ∷ [])
          ∷ view waiting 0 1 (2 ∷ 1 ∷ 5 ∷ [])
          ∷ view done 0 1 (1 ∷ 1 ∷ 5 ∷ [])
          ∷ view done 0 2 (1 ∷ 2 ∷ 3 ∷ [])
          ∷ view done 0 2 (2 ∷ 2 ∷ 3 ∷ [])
          ∷ view done 0 2 (1 ∷ 2 ∷ 3 ∷ [])
          ∷ view done 0 2 (0 ∷ 16 ∷ 3 ∷ [])
          ∷ view refused 11 2 (0 ∷ 16 ∷ 3 ∷ [])
          ∷ [];
    }

-- "Ordinary mutexes keep refusal 12"; of both sorts 10 for a holder's delete and a held one's remove, 5 for another kind; with a hold a wait other than 0 is refused 8, also
-- where its holder takes it again, and idle's take is refused 7
unfoldable pub rows_beside : Case
rows_beside = from_fresh
    (MakeRecursive ∷ Take (object_of 0) 0 ∷ Create 3 ∷ Take (object_of 0) 9 ∷ Take (object_of 0) 9 ∷ Delete (task_of 1) ∷ Give (object_of 0) ∷ MakeMutex ∷ Take (object_of 1) 0 ∷ Take (object_of 1) 0
    ∷ Remove (object_of 0) ∷ Remove (object_of 1) ∷ Receive (object_of 0) 0 ∷ Receive (object_of 1) 0 ∷ Hold ∷ Take (object_of 0) 9 ∷ Take (object_of 1) 9 ∷ Take (object_of 0) 0
    ∷ Release ∷ Give (object_of 0) ∷ Give (object_of 0) ∷ Delete (task_of 1) ∷ [])
    (ok_new 0 0 ∷ refuses 7 0 ∷ ok_new 1 1 ∷ ok 1 ∷ ok 1 ∷ refuses 10 1 ∷ ok 1 ∷ ok_new 1 1 ∷ ok 1 ∷ refuses 12 1
    ∷ refuses 10 1 ∷ refuses 10 1 ∷ refuses 5 1 ∷ refuses 5 1 ∷ ok 1 ∷ refuses 8 1 ∷ refuses 8 1 ∷ ok 1
    ∷ ok 1 ∷ ok 1 ∷ ok 1 ∷ refuses 10 1 ∷ [])

-- another's take of it waits, with wait 0 it is refused 14, and 17 where it would close a circle: tasks 1 and 2 hold a recursive mutex each
unfoldable pub others_take : Case
others_take = from_fresh
    (taken_times 2 ++ (Create 5 ∷ MakeRecursive ∷ Take (object_of 1) 0 ∷ Take (object_of 0) 0 ∷ Give (object_of 0) ∷ Take (object_of 0) for_ever ∷ Take (object_of 1) for_ever ∷ Take (object_of 0) 9 ∷ []))
    (ok_new 1 1 ∷ ok_new 0 1 ∷ ok 1 ∷ ok 1 ∷ ok_new 2 2 ∷ ok_new 1 2 ∷ ok 2 ∷ refuses 14 2 ∷ refuses 11 2 ∷ wait 1 ∷ refuses 17 1 ∷ ok 1 ∷ [])

unfoldable pub recursive_cases : List Case
recursive_cases = nested ∷ rows_beside ∷ others_take ∷ []
