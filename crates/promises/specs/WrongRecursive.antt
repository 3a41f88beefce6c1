-- Mistakes with recursive mutexes: each is the step with one mistake made, or two where one alone does not show, with a few calls that tell the two apart.
use Rattle.std.specs.Prelude.{ℕ, ◌+◌, ◌-◌, Bool, false, not, ◌&&◌, List, [], ◌∷◌, ◌++◌, eqb, ltb, take, drop, if◌then◌else◌}
use Rattle.calls.specs.Named.{object_of}
use Rattle.calls.specs.Said.{done, waiting, refused}
use Rattle.slots.specs.Kinds.{count_of, count_in, counting, sort_of, kind_at, held_by, recursive_by, is_held, holder_of}
use Rattle.rows.specs.Asking.{is, waits}
use Rattle.rows.specs.Applies.{row, first_row, table}
use Rattle.rules.specs.Tables.{with_object}
use Rattle.rules.specs.Lines.{first, chosen}
use Rattle.rules.specs.Waits.{arrives}
use Rattle.rules.specs.Circles.{leads_to}
use Rattle.rules.specs.Refusals.{seen}
use Rattle.rules.specs.Effects.{taken}
use Rattle.promises.specs.Types.{TaskSlot, ObjSlot, Asked, Call, Create, Hold, MakeMutex, Take, Give, Ready, waiters_of, Nobody, By, Sort, Kind, Unused, SpentObject, Queue, Mutex, Group, State}
use Rattle.promises.specs.Cases.{for_ever, view}
use Rattle.promises.specs.RecursiveCases.{taken_times, how_often}
use Rattle.promises.specs.WholeRound.{alone, joined}
use Rattle.promises.specs.WrongCircles.{refuses_by, circle_by, instead_of}
use Rattle.promises.specs.Wrong.{step_by, changed, drops_giver, Wrong, fails_from, fails, says_nothing}

-- the mutex that the call names
abbrev pub mutex_in : State → Asked → Kind
mutex_in k a = kind_at k.objects a.object

-- "each give takes one off; only the last hands it on, at count 1, or frees it": another test whether it is not the last, another count with which it is handed on, or freed
abbrev pub handed_by : (ℕ → ℕ) → (ℕ → ℕ) → State → ObjSlot → Sort → List TaskSlot → State
handed_by handed freed k o s [] = with_object k o (Mutex (counting s (freed (count_of s))) Nobody)
handed_by handed freed k o s (t ∷ l) = with_object (arrives k t Ready 1) o (Mutex (counting s (handed (count_of s))) (By t))

abbrev pub given_back_by : (ℕ → Bool) → (ℕ → ℕ) → (ℕ → ℕ) → State → ObjSlot → Kind → State
given_back_by more handed freed k o Unused = k
given_back_by more handed freed k o SpentObject = k
given_back_by more handed freed k o (Queue q) = k
given_back_by more handed freed k o (Group b) = k
given_back_by more handed freed k o (Mutex s h) =
    if more (count_of s) then with_object k o (Mutex (counting s (count_of s - 1)) h)
    else handed_by handed freed k o s (first k (waiters_of o))

abbrev pub gives_by : (ℕ → Bool) → (ℕ → ℕ) → (ℕ → ℕ) → State → Asked → State
gives_by more handed freed = changed 16 (λ k a. given_back_by more handed freed k a.object (mutex_in k a))

-- the right ones: it is had more than once; 1; 0
abbrev pub more_than_once : ℕ → Bool
more_than_once n = ltb 1 n

abbrev pub at_one : ℕ → ℕ
at_one n = 1

abbrev pub at_none : ℕ → ℕ
at_none n = 0

-- every give hands it on; with the old count, which is 1 where only the last does, so that it shows where every give does; with what is left of it; with the new holder's take on
-- top of it; freed with the old count
abbrev pub every_give : State → Asked → State
every_give = gives_by (λ n. false) at_one at_none

abbrev pub old_count : State → Asked → State
old_count = gives_by (λ n. false) (λ n. n) at_none

abbrev pub what_is_left : State → Asked → State
what_is_left = gives_by more_than_once (λ n. n - 1) at_none

abbrev pub on_top : State → Asked → State
on_top = gives_by more_than_once (λ n. n + 1) at_none

abbrev pub freed_counted : State → Asked → State
freed_counted = gives_by more_than_once at_one (λ n. n)

-- "Its holder may take it again": so may anybody
abbrev pub anybody_again : State → Asked → State
anybody_again = changed 15 (λ k a.
    let x = mutex_in k a in
    if is_held x then with_object k a.object (Mutex (counting (sort_of x) (count_in x + 1)) (By k.running)) else taken k a.object a.wait)

-- "up to 255 times in all": the table with another test in row 18, which is the eleventh of those behind row 1
abbrev pub full_by : (State → Asked → Bool) → State → Asked → ℕ → ℕ → ℕ
full_by full k a item store = let rows = table (seen k a) a item store in first_row (take 10 rows ++ (row 18 (full k a) ∷ drop 11 rows))

abbrev pub full_at : ℕ → State → Asked → Bool
full_at n k a = is 15 a && (recursive_by k.running (mutex_in k a) && eqb (count_in (mutex_in k a)) n)

-- another number where the holder takes again and no row applies
abbrev pub again_told : ℕ → State → Asked → ℕ → ℕ → ℕ
again_told n = instead_of 0 n (λ k a. is 15 a && recursive_by k.running (mutex_in k a))

-- task 1 has it n times, task 2 waits for it, and task 1 gives it once
abbrev pub two_waits : ℕ → List Call
two_waits n = taken_times n ++ (Create 5 ∷ Take (object_of 0) for_ever ∷ Give (object_of 0) ∷ [])

unfoldable pub recursive_mistakes : List Wrong
recursive_mistakes =
    -- task 1 has it twice, and gives it once
    fails (step_by every_give chosen) (taken_times 2 ++ (Give (object_of 0) ∷ [])) how_often (view done 0 1 (1 ∷ 1 ∷ 3 ∷ [])) (view done 0 1 (0 ∷ 16 ∷ 3 ∷ []))
    -- task 2 waits for it, and task 1 gives it once of two times; once of one time; and where nobody waits
    ∷ fails (step_by old_count chosen) (two_waits 2) how_often (view done 0 1 (1 ∷ 1 ∷ 5 ∷ [])) (view done 0 2 (2 ∷ 2 ∷ 3 ∷ []))
    ∷ fails (step_by what_is_left chosen) (two_waits 1) how_often (view done 0 2 (1 ∷ 2 ∷ 3 ∷ [])) (view done 0 2 (0 ∷ 2 ∷ 3 ∷ []))
    ∷ fails (step_by on_top chosen) (two_waits 1) how_often (view done 0 2 (1 ∷ 2 ∷ 3 ∷ [])) (view done 0 2 (2 ∷ 2 ∷ 3 ∷ []))
    ∷ fails (step_by freed_counted chosen) (taken_times 1 ++ (Give (object_of 0) ∷ [])) how_often (view done 0 1 (0 ∷ 16 ∷ 3 ∷ [])) (view done 0 1 (1 ∷ 16 ∷ 3 ∷ []))
    -- task 2 waits for task 1, who gives it once of two times and keeps the loan
    ∷ fails (step_by drops_giver chosen) (two_waits 2) how_often (view done 0 1 (1 ∷ 1 ∷ 5 ∷ [])) (view done 0 1 (1 ∷ 1 ∷ 3 ∷ []))
    -- another's take waits
    ∷ fails (step_by anybody_again chosen) (taken_times 1 ++ (Create 5 ∷ Take (object_of 0) 9 ∷ [])) says_nothing (view waiting 0 1 []) (view done 0 2 [])
    -- the 256th take, and the 255th
    ∷ fails_from (alone 255) (refuses_by (full_by (full_at 256))) (Take (object_of 0) 0 ∷ []) says_nothing (view refused 18 1 []) (view done 0 1 [])
    ∷ fails_from (alone 254) (refuses_by (full_by (full_at 254))) (Take (object_of 0) 0 ∷ []) says_nothing (view done 0 1 []) (view refused 18 1 [])
    -- 18 is for its holder: another's take with wait 0 is told 14
    ∷ fails_from (joined 255) (refuses_by (instead_of 14 18 (λ k a. eqb (count_in (mutex_in k a)) 255))) (Take (object_of 0) 0 ∷ []) says_nothing (view refused 14 2 []) (view refused 18 2 [])
    -- 8 stands before 18
    ∷ fails_from (alone 255) (refuses_by (instead_of 8 18 (full_at 255))) (Hold ∷ Take (object_of 0) 9 ∷ []) says_nothing (view refused 8 1 []) (view refused 18 1 [])
    -- its holder's take is told as that of an ordinary mutex, as a circle, as a wait
    ∷ fails (refuses_by (again_told 12)) (taken_times 2) says_nothing (view done 0 1 []) (view refused 12 1 [])
    ∷ fails (refuses_by (circle_by (λ k a. is 15 a && leads_to k.tasks k.objects (holder_of (mutex_in k a)) k.running))) (taken_times 2) says_nothing (view done 0 1 []) (view refused 17 1 [])
    ∷ fails (refuses_by (instead_of 0 14 (λ k a. not (waits a) && (is 15 a && is_held (mutex_in k a))))) (taken_times 2) says_nothing (view done 0 1 []) (view refused 14 1 [])
    -- "Ordinary mutexes keep refusal 12"
    ∷ fails (refuses_by (instead_of 12 0 (λ k a. held_by k.running (mutex_in k a))))
    (Create 3 ∷ MakeMutex ∷ Take (object_of 0) 0 ∷ Take (object_of 0) 0 ∷ []) says_nothing (view refused 12 1 []) (view done 0 1 [])
    ∷ []
