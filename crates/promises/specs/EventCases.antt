-- The gate of the request, and the rows beside it: some calls, and what each is answered, who runs then, and what is in a group and in the slips.
use Rattle.std.specs.Prelude.{ℕ, List, [], ◌∷◌, ◌++◌, replicate}
use Rattle.numbers.specs.Numbers.{task, object}
use Rattle.calls.specs.Named.{task_of, object_of}
use Rattle.calls.specs.Said.{done, made, waiting, refused}
use Rattle.items.specs.Bytes.{bytes_at}
use Rattle.slots.specs.Kinds.{kind_at}
use Rattle.slots.specs.Values.{task_at}
use Rattle.rules.specs.Tables.{fresh}
use Rattle.rules.specs.Parts.{slip_of}
use Rattle.rules.specs.Steps.{Stepped}
use Rattle.promises.specs.Types.{Call, Create, Suspend, Yield, Hold, Release, MakeQueue, Remove, Send, Take, Tick, MakeGroup, SetBits, ClearBits, Await}
use Rattle.promises.specs.Types.{Kind, Unused, SpentObject, Queue, Mutex, Group}
use Rattle.promises.specs.Cases.{for_ever, view, Case, from_fresh, ok, ok_new, wait, refuses}

-- the bits of an event group; 0 of any other object
abbrev pub bits_in : Kind → ℕ
bits_in Unused = 0
bits_in SpentObject = 0
bits_in (Queue q) = 0
bits_in (Mutex s h) = 0
bits_in (Group b) = b

-- what is looked at: the bits of group 0; task n's outcome, and the first four bytes of its slip
abbrev pub bits_now : Stepped → ℕ
bits_now d = bits_in (kind_at d.kernel.objects (object 0))

abbrev pub told_to : ℕ → Stepped → List ℕ
told_to n d = (task_at d.kernel.tasks (task n)).outcome ∷ bytes_at (slip_of (task n)) 4 d.store

abbrev pub of_one : Stepped → List ℕ
of_one d = bits_now d ∷ told_to 1 d

abbrev pub of_two : Stepped → List ℕ
of_two d = bits_now d ∷ (told_to 1 d ++ told_to 2 d)

-- the calls on group 0
abbrev pub setting : ℕ → Call
setting b = SetBits (object_of 0) b

abbrev pub clearing : ℕ → Call
clearing b = ClearBits (object_of 0) b

-- "wait: object, mask, all, clear, wait"
abbrev pub awaiting : ℕ → ℕ → ℕ → ℕ → Call
awaiting m all clear w = Await (object_of 0) m all clear w

-- "The gate must open when tag, meter and washer are all ready.": tasks 2, 3 and 4 set a bit each, and task 1, the gate's, is woken by the third
unfoldable pub gate_opens : Case
gate_opens =
    record {
      start = fresh;
      look = of_one;
      calls = MakeGroup ∷ Create 5 ∷ awaiting 7 1 1 for_ever ∷ Create 2 ∷ setting 1 ∷ Create 3 ∷ setting 2 ∷ Create 4 ∷ setting 4 ∷ [];
      expected =
          view made 0 0 (0 ∷ 0 ∷ 0 ∷ 0 ∷ 0 ∷ 0 ∷ [])
          ∷ view made 1 1 (0 ∷ 0 ∷ 0 ∷ 0 ∷ 0 ∷ 0 ∷ [])
          ∷ view waiting 0 0 (0 ∷ 0 ∷ 0 ∷ 0 ∷ 0 ∷ 0 ∷ [])
          ∷ view made 2 2 (0 ∷ 0 ∷ 0 ∷ 0 ∷ 0 ∷ 0 ∷ [])
          ∷ view done 0 2 (1 ∷ 0 ∷ 0 ∷ 0 ∷ 0 ∷ 0 ∷ [])
          ∷ view made 3 3 (1 ∷ 0 ∷ 0 ∷ 0 ∷ 0 ∷ 0 ∷ [])
          ∷ view done 0 3 (3 ∷ 0 ∷ 0 ∷ 0 ∷ 0 ∷ 0 ∷ [])
          ∷ view made 4 4 (3 ∷ 0 ∷ 0 ∷ 0 ∷ 0 ∷ 0 ∷ [])
          ∷ view done 0 1 (0 ∷ 1 ∷ 7 ∷ 0 ∷ 0 ∷ 0 ∷ [])
          ∷ [];
    }

-- "any bit of the mask": task 1 waits for 2 or 4, and is told all the bits; "kept": they stay
unfoldable pub any_bit : Case
any_bit =
    record {
      start = fresh;
      look = of_one;
      calls = MakeGroup ∷ Create 5 ∷ awaiting 6 0 0 9 ∷ setting 1 ∷ setting 4 ∷ clearing 1 ∷ [];
      expected =
          view made 0 0 (0 ∷ 0 ∷ 0 ∷ 0 ∷ 0 ∷ 0 ∷ [])
          ∷ view made 1 1 (0 ∷ 0 ∷ 0 ∷ 0 ∷ 0 ∷ 0 ∷ [])
          ∷ view waiting 0 0 (0 ∷ 0 ∷ 0 ∷ 0 ∷ 0 ∷ 0 ∷ [])
          ∷ view done 0 0 (1 ∷ 0 ∷ 0 ∷ 0 ∷ 0 ∷ 0 ∷ [])
          ∷ view done 0 1 (5 ∷ 1 ∷ 5 ∷ 0 ∷ 0 ∷ 0 ∷ [])
          ∷ view done 0 1 (4 ∷ 1 ∷ 5 ∷ 0 ∷ 0 ∷ 0 ∷ [])
          ∷ [];
    }

-- tasks 1, 2 and 3 wait for all of 3, of 2 and of 12, each to be cleared
abbrev pub three_wait : List Call
three_wait = MakeGroup ∷ Create 5 ∷ awaiting 3 1 1 9 ∷ Create 4 ∷ awaiting 2 1 1 9 ∷ Create 3 ∷ awaiting 12 1 1 9 ∷ []

-- "all judged on the same bits, and the clears happen together afterwards": a set of 7 wakes tasks 1 and 2, though both clear bit 1; bit 2 stays, which task 3 asks for and which does not wake it
unfoldable pub clears_together : Case
clears_together =
    record {
      start = fresh;
      look = of_two;
      calls = three_wait ++ (setting 7 ∷ []);
      expected =
          view made 0 0 (0 ∷ 0 ∷ 0 ∷ 0 ∷ 0 ∷ 0 ∷ 0 ∷ 0 ∷ 0 ∷ 0 ∷ 0 ∷ [])
          ∷ view made 1 1 (0 ∷ 0 ∷ 0 ∷ 0 ∷ 0 ∷ 0 ∷ 0 ∷ 0 ∷ 0 ∷ 0 ∷ 0 ∷ [])
          ∷ view waiting 0 0 (0 ∷ 0 ∷ 0 ∷ 0 ∷ 0 ∷ 0 ∷ 0 ∷ 0 ∷ 0 ∷ 0 ∷ 0 ∷ [])
          ∷ view made 2 2 (0 ∷ 0 ∷ 0 ∷ 0 ∷ 0 ∷ 0 ∷ 0 ∷ 0 ∷ 0 ∷ 0 ∷ 0 ∷ [])
          ∷ view waiting 0 0 (0 ∷ 0 ∷ 0 ∷ 0 ∷ 0 ∷ 0 ∷ 0 ∷ 0 ∷ 0 ∷ 0 ∷ 0 ∷ [])
          ∷ view made 3 3 (0 ∷ 0 ∷ 0 ∷ 0 ∷ 0 ∷ 0 ∷ 0 ∷ 0 ∷ 0 ∷ 0 ∷ 0 ∷ [])
          ∷ view waiting 0 0 (0 ∷ 0 ∷ 0 ∷ 0 ∷ 0 ∷ 0 ∷ 0 ∷ 0 ∷ 0 ∷ 0 ∷ 0 ∷ [])
          ∷ view done 0 1 (4 ∷ 1 ∷ 7 ∷ 0 ∷ 0 ∷ 0 ∷ 1 ∷ 7 ∷ 0 ∷ 0 ∷ 0 ∷ [])
          ∷ [];
    }

-- "four bytes, low byte first", with wait 0: 66,051 is 3 + 256 × 2 + 65,536 × 1. "kept or cleared": the first keeps, the second clears; then it is not satisfied
unfoldable pub at_once : Case
at_once =
    record {
      start = fresh;
      look = of_one;
      calls = MakeGroup ∷ Create 5 ∷ setting 66051 ∷ awaiting 3 1 0 0 ∷ setting 4 ∷ awaiting 66048 0 1 0 ∷ awaiting 66048 0 1 0 ∷ [];
      expected =
          view made 0 0 (0 ∷ 0 ∷ 0 ∷ 0 ∷ 0 ∷ 0 ∷ [])
          ∷ view made 1 1 (0 ∷ 0 ∷ 0 ∷ 0 ∷ 0 ∷ 0 ∷ [])
          ∷ view done 0 1 (66051 ∷ 0 ∷ 0 ∷ 0 ∷ 0 ∷ 0 ∷ [])
          ∷ view done 0 1 (66051 ∷ 0 ∷ 3 ∷ 2 ∷ 1 ∷ 0 ∷ [])
          ∷ view done 0 1 (66055 ∷ 0 ∷ 3 ∷ 2 ∷ 1 ∷ 0 ∷ [])
          ∷ view done 0 1 (7 ∷ 0 ∷ 7 ∷ 2 ∷ 1 ∷ 0 ∷ [])
          ∷ view refused 14 1 (7 ∷ 0 ∷ 7 ∷ 2 ∷ 1 ∷ 0 ∷ [])
          ∷ [];
    }

-- a wait that runs out, outcome 2, and one that is broken off, outcome 3, leave the slip; and a set then wakes nobody
unfoldable pub runs_out : Case
runs_out =
    record {
      start = fresh;
      look = of_one;
      calls = MakeGroup ∷ Create 5 ∷ setting 5 ∷ awaiting 5 1 1 0 ∷ awaiting 2 1 1 1 ∷ setting 1 ∷ Tick ∷ awaiting 2 1 1 9 ∷ Suspend (task_of 1) ∷ setting 2 ∷ [];
      expected =
          view made 0 0 (0 ∷ 0 ∷ 0 ∷ 0 ∷ 0 ∷ 0 ∷ [])
          ∷ view made 1 1 (0 ∷ 0 ∷ 0 ∷ 0 ∷ 0 ∷ 0 ∷ [])
          ∷ view done 0 1 (5 ∷ 0 ∷ 0 ∷ 0 ∷ 0 ∷ 0 ∷ [])
          ∷ view done 0 1 (0 ∷ 0 ∷ 5 ∷ 0 ∷ 0 ∷ 0 ∷ [])
          ∷ view waiting 0 0 (0 ∷ 0 ∷ 5 ∷ 0 ∷ 0 ∷ 0 ∷ [])
          ∷ view done 0 0 (1 ∷ 0 ∷ 5 ∷ 0 ∷ 0 ∷ 0 ∷ [])
          ∷ view done 0 1 (1 ∷ 2 ∷ 5 ∷ 0 ∷ 0 ∷ 0 ∷ [])
          ∷ view waiting 0 0 (1 ∷ 0 ∷ 5 ∷ 0 ∷ 0 ∷ 0 ∷ [])
          ∷ view done 0 0 (1 ∷ 3 ∷ 5 ∷ 0 ∷ 0 ∷ 0 ∷ [])
          ∷ view done 0 0 (3 ∷ 3 ∷ 5 ∷ 0 ∷ 0 ∷ 0 ∷ [])
          ∷ [];
    }

-- "in first-waiter order": task 2 waits before task 1, and runs first; task 3, who comes later and has the higher priority, runs before both
unfoldable pub in_order : Case
in_order = from_fresh
    (MakeGroup ∷ Create 3 ∷ Create 3 ∷ Yield ∷ awaiting 1 1 0 9 ∷ awaiting 1 1 0 9 ∷ Create 5 ∷ awaiting 1 1 0 9 ∷ setting 1 ∷ awaiting 2 1 0 9 ∷ awaiting 2 1 0 9 ∷ awaiting 2 1 0 9 ∷ [])
    (ok_new 0 0 ∷ ok_new 1 1 ∷ ok_new 2 1 ∷ ok 2 ∷ wait 1 ∷ wait 0 ∷ ok_new 3 3 ∷ wait 0 ∷ ok 3 ∷ wait 2 ∷ wait 1 ∷ wait 0 ∷ [])

-- "4 for bits above the 24, a flag above 1 or an empty wait mask"; 5 for another kind, both ways; 7 and 8 for any wait other than 0 by idle and with a hold; 10 for a remove of one with waiters;
-- 14 with wait 0 unsatisfied
unfoldable pub rows_of_groups : Case
rows_of_groups = from_fresh
    (MakeGroup ∷ MakeQueue 1 0 ∷ setting 16777216 ∷ clearing 16777216 ∷ awaiting 16777216 0 0 0 ∷ awaiting 0 0 0 0 ∷ awaiting 1 2 0 0 ∷ awaiting 1 0 2 0
    ∷ SetBits (object_of 1) 1 ∷ ClearBits (object_of 1) 1 ∷ Await (object_of 1) 1 0 0 0 ∷ Send (object_of 0) 0 ∷ Take (object_of 0) 0 ∷ awaiting 1 0 0 9 ∷ awaiting 1 0 0 0
    ∷ Create 5 ∷ Hold ∷ awaiting 1 0 0 9 ∷ awaiting 1 0 0 0 ∷ Release ∷ awaiting 1 0 0 9 ∷ Remove (object_of 0) ∷ setting 16777215 ∷ Remove (object_of 0) ∷ setting 1 ∷ [])
    (ok_new 0 0 ∷ ok_new 1 0 ∷ refuses 4 0 ∷ refuses 4 0 ∷ refuses 4 0 ∷ refuses 4 0 ∷ refuses 4 0 ∷ refuses 4 0
    ∷ refuses 5 0 ∷ refuses 5 0 ∷ refuses 5 0 ∷ refuses 5 0 ∷ refuses 5 0 ∷ refuses 7 0 ∷ refuses 14 0
    ∷ ok_new 1 1 ∷ ok 1 ∷ refuses 8 1 ∷ refuses 14 1 ∷ ok 1 ∷ wait 0 ∷ refuses 10 0 ∷ ok 1 ∷ ok 1 ∷ refuses 5 1 ∷ [])

-- sixteen groups, and no slot for another
unfoldable pub sixteen_groups : Case
sixteen_groups = from_fresh
    (replicate 17 MakeGroup)
    (ok_new 0 0 ∷ ok_new 1 0 ∷ ok_new 2 0 ∷ ok_new 3 0 ∷ ok_new 4 0 ∷ ok_new 5 0 ∷ ok_new 6 0 ∷ ok_new 7 0 ∷ ok_new 8 0 ∷ ok_new 9 0 ∷ ok_new 10 0 ∷ ok_new 11 0 ∷ ok_new 12 0 ∷ ok_new 13 0
    ∷ ok_new 14 0 ∷ ok_new 15 0 ∷ refuses 9 0 ∷ [])

unfoldable pub event_cases : List Case
event_cases = gate_opens ∷ any_bit ∷ clears_together ∷ at_once ∷ runs_out ∷ in_order ∷ rows_of_groups ∷ sixteen_groups ∷ []
