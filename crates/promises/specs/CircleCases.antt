-- The parlour that sat still, and other chains: some calls from the fresh kernel, and what each is answered and who runs then.
use Rattle.std.specs.Prelude.{ℕ, zero, suc, ◌-◌, List, [], ◌∷◌, ◌++◌}
use Rattle.calls.specs.Named.{object_of}
use Rattle.promises.specs.Types.{Call, Create, Hold, MakeQueue, MakeMutex, Receive, Take, Give}
use Rattle.promises.specs.Cases.{for_ever, View, Case, from_fresh, ok, ok_new, wait, refuses}

-- what is said of 0, 1, .. up to n, one after the other
abbrev pub one_by_one : {A : Type 0} → ℕ → (ℕ → List A) → List A
one_by_one zero f = []
one_by_one (suc n) f = one_by_one n f ++ f n

-- n tasks, each higher than those before it, and each holds a mutex of its own: task 1 mutex 0, and so on
abbrev pub each_holds : ℕ → List Call
each_holds n = one_by_one n (λ i. Create (suc i) ∷ MakeMutex ∷ Take (object_of i) 0 ∷ [])

abbrev pub each_held : ℕ → List View
each_held n = one_by_one n (λ i. ok_new (suc i) (suc i) ∷ ok_new i (suc i) ∷ ok (suc i) ∷ [])

-- the highest waits for the one below it, that one for the next, and so on: n waits, after which the lowest runs
abbrev pub waits_down : ℕ → List Call
waits_down n = one_by_one n (λ i. Take (object_of (n - suc i)) for_ever ∷ [])

abbrev pub waited_down : ℕ → List View
waited_down n = one_by_one n (λ i. wait (n - i) ∷ [])

-- "two tasks wait on each other": whatever the wait; task 1 then gives its mutex, and task 2 goes on
unfoldable pub circle_of_two : Case
circle_of_two = from_fresh
    (each_holds 2 ++ waits_down 1 ++ (Take (object_of 1) for_ever ∷ Take (object_of 1) 5 ∷ Take (object_of 1) 0 ∷ Give (object_of 0) ∷ []))
    (each_held 2 ++ waited_down 1 ++ (refuses 17 1 ∷ refuses 17 1 ∷ refuses 17 1 ∷ ok 2 ∷ []))

unfoldable pub circle_of_three : Case
circle_of_three = from_fresh
    (each_holds 3 ++ waits_down 2 ++ (Take (object_of 2) 5 ∷ Take (object_of 2) 0 ∷ Take (object_of 1) 5 ∷ []))
    (each_held 3 ++ waited_down 2 ++ (refuses 17 1 ∷ refuses 17 1 ∷ refuses 17 1 ∷ []))

-- a chain of fifteen that is no circle: task 15 comes last, and the chain from the holder that it waits for, over 13 links, ends at task 1
unfoldable pub chain_of_fifteen : Case
chain_of_fifteen = from_fresh
    (each_holds 14 ++ waits_down 13 ++ (Create 15 ∷ Take (object_of 13) 5 ∷ []))
    (each_held 14 ++ waited_down 13 ++ (ok_new 15 15 ∷ wait 1 ∷ []))

unfoldable pub circle_of_fifteen : Case
circle_of_fifteen = from_fresh
    (each_holds 15 ++ waits_down 14 ++ (Take (object_of 14) 5 ∷ Take (object_of 14) 0 ∷ []))
    (each_held 15 ++ waited_down 14 ++ (refuses 17 1 ∷ refuses 17 1 ∷ []))

-- two wait on one mutex: a circle through it by either, asked for twice
unfoldable pub same_mutex_twice : Case
same_mutex_twice = from_fresh
    (each_holds 2 ++ waits_down 1 ++ (Create 3 ∷ MakeMutex ∷ Take (object_of 2) 0 ∷ Take (object_of 0) 9 ∷ Take (object_of 1) 9 ∷ Take (object_of 2) 9 ∷ Take (object_of 1) 9 ∷ []))
    (each_held 2 ++ waited_down 1 ++ (ok_new 3 3 ∷ ok_new 2 3 ∷ ok 3 ∷ wait 1 ∷ refuses 17 1 ∷ refuses 17 1 ∷ refuses 17 1 ∷ []))

-- "8 and 12 stand before it": with a hold a wait other than 0 is refused 8, the caller's own mutex 12, and a wait 0 is refused 17, not 14
unfoldable pub rows_around : Case
rows_around = from_fresh
    (each_holds 2 ++ waits_down 1 ++ (Hold ∷ Take (object_of 1) 5 ∷ Take (object_of 0) 5 ∷ Take (object_of 0) 0 ∷ Take (object_of 1) 0 ∷ []))
    (each_held 2 ++ waited_down 1 ++ (ok 1 ∷ refuses 8 1 ∷ refuses 8 1 ∷ refuses 12 1 ∷ refuses 17 1 ∷ []))

-- a wait on a queue is no link: task 3 waits for task 2, and that one for an item; with wait 0 it is 14
unfoldable pub ends_at_a_Queue : Case
ends_at_a_Queue = from_fresh
    (each_holds 3 ++ (Take (object_of 1) 9 ∷ MakeQueue 1 1 ∷ Receive (object_of 3) 9 ∷ Take (object_of 2) 0 ∷ Take (object_of 2) 9 ∷ []))
    (each_held 3 ++ (wait 2 ∷ ok_new 3 2 ∷ wait 1 ∷ refuses 14 1 ∷ wait 0 ∷ []))

unfoldable pub circle_cases : List Case
circle_cases = circle_of_two ∷ circle_of_three ∷ chain_of_fifteen ∷ circle_of_fifteen ∷ same_mutex_twice ∷ rows_around ∷ ends_at_a_Queue ∷ []
