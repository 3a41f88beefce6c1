-- "Both sides of the gate": P1 to P12, each a start, some calls, and what is then answered and shown.
use Rattle.std.specs.Prelude.{ℕ, List, [], ◌∷◌, ◌++◌, map, replicate}
use Rattle.numbers.specs.Numbers.{task}
use Rattle.calls.specs.Named.{task_of, object_of}
use Rattle.calls.specs.Door.{task_no}
use Rattle.calls.specs.Said.{Word, done, made, waiting, refused, Saying, says}
use Rattle.promises.specs.Types.{State, Call, Create, Delete, SetPriority, Delay, Hold, MakeQueue, MakeMutex, Send, Take, Give, Tick}
use Rattle.rules.specs.Tables.{fresh, with_tick}
use Rattle.rules.specs.Lines.{level}
use Rattle.rules.specs.Steps.{Stepped, step}
use Rattle.rules.specs.Trace.{trace, lending}

-- what is seen after a call: what it is answered, who runs then, and what a case looks at
pub record View : Type 0 where
  pub answer : Saying
  pub running : ℕ
  pub looked : List ℕ

abbrev pub view : Word → ℕ → ℕ → List ℕ → View
view w n r l = record { answer = says w n; running = r; looked = l }

abbrev pub view_of : (Stepped → List ℕ) → Stepped → View
view_of look d = record { answer = d.answer; running = (task_no d.kernel.uses d.kernel.running).0; looked = look d }

pub record Case : Type 0 where
  pub start : State
  pub look : Stepped → List ℕ
  pub calls : List Call
  pub expected : List View

-- a wait: "4,294,967,295 means for ever"
abbrev pub for_ever : ℕ
for_ever = 4294967295

-- the calls one after the other, each with an empty item, from a store of zeros
abbrev pub ran : Case → List View
ran c = map (λ m. view_of c.look m.gave) (trace (lending step []) c.start (replicate 9216 0) c.calls)

-- from the fresh kernel, with nothing looked at but the answers and who runs
abbrev pub from_fresh : List Call → List View → Case
from_fresh cs xs = record { start = fresh; look = λ d. []; calls = cs; expected = xs }

abbrev pub ok : ℕ → View
ok r = view done 0 r []

abbrev pub ok_new : ℕ → ℕ → View
ok_new n r = view made n r []

abbrev pub wait : ℕ → View
wait r = view waiting 0 r []

abbrev pub refuses : ℕ → ℕ → View
refuses n r = view refused n r []

-- P1: the session of the section "The journal line"
unfoldable pub p1 : Case
p1 = from_fresh
    (Create 3 ∷ MakeMutex ∷ Take (object_of 0) 0 ∷ Create 5 ∷ Take (object_of 0) 10 ∷ Create 4 ∷ Give (object_of 0) ∷ Give (object_of 0) ∷ Delete (task_of 0) ∷ [])
    (ok_new 1 1 ∷ ok_new 0 1 ∷ ok 1 ∷ ok_new 2 2 ∷ wait 1 ∷ ok_new 3 1 ∷ ok 2 ∷ ok 2 ∷ refuses 7 2 ∷ [])

-- P2: "priority 31 accepted, 32 refused 4"
unfoldable pub p2 : Case
p2 = from_fresh (Create 31 ∷ Create 32 ∷ []) (ok_new 1 1 ∷ refuses 4 1 ∷ [])

-- P3: "capacity 64 size 8 accepted"
unfoldable pub p3 : Case
p3 = from_fresh (MakeQueue 64 8 ∷ []) (ok_new 0 0 ∷ [])

-- P4: "capacity 64 size 9 refused 4"
unfoldable pub p4 : Case
p4 = from_fresh (MakeQueue 64 9 ∷ []) (refuses 4 0 ∷ [])

-- P5: "fifteen creates accepted, the next refused 9"
abbrev pub fifteen : List View
fifteen =
    ok_new 1 1
    ∷ ok_new 2 1
    ∷ ok_new 3 1
    ∷ ok_new 4 1
    ∷ ok_new 5 1
    ∷ ok_new 6 1
    ∷ ok_new 7 1
    ∷ ok_new 8 1
    ∷ ok_new 9 1
    ∷ ok_new 10 1
    ∷ ok_new 11 1
    ∷ ok_new 12 1
    ∷ ok_new 13 1
    ∷ ok_new 14 1
    ∷ ok_new 15 1
    ∷ []

unfoldable pub p5 : Case
p5 = from_fresh (replicate 16 (Create 1)) (fifteen ++ (refuses 9 1 ∷ []))

-- P6: "delay 1 at tick 4,294,967,295 is due at tick 0"; the tick count is looked at
unfoldable pub p6 : Case
p6 = record {
  start = with_tick fresh 4294967295;
  look = λ d. d.kernel.tick ∷ [];
  calls = Create 3 ∷ Delay 1 ∷ Tick ∷ [];
  expected = view made 1 1 (4294967295 ∷ []) ∷ view waiting 0 0 (4294967295 ∷ []) ∷ view done 0 1 (0 ∷ []) ∷ [];
}

-- P7: "create 40 with no free slot: 4, not 9"
unfoldable pub p7 : Case
p7 = from_fresh (replicate 15 (Create 1) ++ (Create 40 ∷ [])) (fifteen ++ (refuses 4 1 ∷ []))

-- P8: "delete of a holder: 10, and after its give accepted"
unfoldable pub p8 : Case
p8 = from_fresh
    (Create 3 ∷ MakeMutex ∷ Take (object_of 0) 0 ∷ Delete (task_of 1) ∷ Give (object_of 0) ∷ Delete (task_of 1) ∷ [])
    (ok_new 1 1 ∷ ok_new 0 1 ∷ ok 1 ∷ refuses 10 1 ∷ ok 1 ∷ ok 0 ∷ [])

-- P9: "the 255th nested hold accepted, the next 15"
unfoldable pub p9 : Case
p9 = from_fresh (replicate 256 Hold) (replicate 255 (ok 0) ++ (refuses 15 0 ∷ []))

-- P10: "the holder keeps only what its waiters lend"; task 1's effective priority is looked at. Set lower it keeps nothing while nobody waits, and just what task 2 lends
-- while that waits; it has its own again once the wait has ended, and once it gives
unfoldable pub p10 : Case
p10 = record {
  start = fresh;
  look = λ d. level d.kernel.tasks (task 1) ∷ [];
  calls =
      Create 5 ∷ MakeMutex ∷ Take (object_of 0) 0 ∷ SetPriority (task_of 1) 4 ∷ Create 7 ∷ Take (object_of 0) 1 ∷ SetPriority (task_of 1) 2 ∷ Tick
      ∷ Take (object_of 0) 10 ∷ Give (object_of 0) ∷ [];
  expected =
      view made 1 1 (5 ∷ [])
      ∷ view made 0 1 (5 ∷ [])
      ∷ view done 0 1 (5 ∷ [])
      ∷ view done 0 1 (4 ∷ [])
      ∷ view made 2 2 (4 ∷ [])
      ∷ view waiting 0 1 (7 ∷ [])
      ∷ view done 0 1 (7 ∷ [])
      ∷ view done 0 2 (2 ∷ [])
      ∷ view waiting 0 1 (7 ∷ [])
      ∷ view done 0 2 (2 ∷ [])
      ∷ [];
}

-- P11: "size 0, capacity 1: a second send with wait 0 gets 14"
unfoldable pub p11 : Case
p11 = from_fresh (MakeQueue 1 0 ∷ Send (object_of 0) 0 ∷ Send (object_of 0) 0 ∷ []) (ok_new 0 0 ∷ ok 0 ∷ refuses 14 0 ∷ [])

-- P12: "tick with two tasks at the running priority turns the line"
unfoldable pub p12 : Case
p12 = from_fresh (Create 3 ∷ Create 3 ∷ Tick ∷ Tick ∷ []) (ok_new 1 1 ∷ ok_new 2 1 ∷ ok 2 ∷ ok 1 ∷ [])

unfoldable pub cases : List Case
cases = p1 ∷ p2 ∷ p3 ∷ p4 ∷ p5 ∷ p6 ∷ p7 ∷ p8 ∷ p9 ∷ p10 ∷ p11 ∷ p12 ∷ []
