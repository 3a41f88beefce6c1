-- The idle programs, the easy mistakes of document 01, those of numbers, of the highest line, of the order of wakes and of an advance: each is the step with one
-- mistake made, with a few calls that tell the two apart.
use Rattle.std.specs.Prelude.{ℕ, zero, suc, ◌+◌, ◌-◌, ◌%◌, Bool, true, false, not, ◌&&◌, ◌||◌, List, [], ◌∷◌, ◌++◌, map, eqb, ltb, leb, length, get_or, set, replicate, if◌then◌else◌}
use Rattle.std.specs.Int.Count.{count_leading_zeros, count_trailing_zeros}
use Rattle.lists.specs.Lists.{foldl, up_to, values, kept, head}
use Rattle.numbers.specs.Numbers.{task, object, same_task}
use Rattle.calls.specs.declared.Uses.{Uses}
use Rattle.calls.specs.declared.TaskNo.{TaskNo}
use Rattle.calls.specs.declared.ObjNo.{ObjNo}
use Rattle.calls.specs.Named.{task_of, object_of}
use Rattle.calls.specs.Door.{fresh_uses, task_no, obj_no, without_task}
use Rattle.calls.specs.Table.{Argument, a_task, an_object, a_queue, a_mutex, a_group, a_priority, some_ticks, a_capacity, a_size, a_wait, some_bits, an_all, a_clear, an_item, called}
use Rattle.calls.specs.Behind.{nothing, put_all, asked}
use Rattle.calls.specs.Said.{Word, done, made, waiting, refused, says}
use Rattle.order.specs.Order.{listed}
use Rattle.heights.specs.Heights.{top, occupied}
use Rattle.items.specs.Bytes.{put_at}
use Rattle.slots.specs.Places.{is_ready, is_delayed, is_waiting, is_suspended, waits_on, of_wake, wakes_at, outcome_due}
use Rattle.slots.specs.Values.{broken_off, task_at}
use Rattle.slots.specs.Kinds.{holder_of, kind_at}
use Rattle.promises.specs.Types.{TaskSlot, ObjSlot, Asked, Call, Create, Delete, Suspend, SetPriority, Delay, Yield, Hold, Release, MakeQueue, MakeMutex, Remove, Send, Receive}
use Rattle.promises.specs.Types.{Take, Give, Tick, Advance, Place, Ready, Task, State}
use Rattle.promises.specs.Cases.{View, view, view_of}
use Rattle.rules.specs.Tables.{fresh, free_slot, with_task, with_tick, with_hold, with_uses}
use Rattle.rules.specs.Lines.{line, has_begun, begun, level, leader, runs_if, chosen, to_tail}
use Rattle.rules.specs.Occupied.{lines_of}
use Rattle.rules.specs.Waits.{later, arrives}
use Rattle.rules.specs.Loans.{prioritized, worked_out, new_priority}
use Rattle.rules.specs.Ticks.{wakes, one_tick, turned, turned_if, ticked, released}
use Rattle.rules.specs.Parts.{slip_of}
use Rattle.rows.specs.Asking.{is}
use Rattle.rows.specs.Applies.{is_empty}
use Rattle.rules.specs.Refusals.{later_row, refusal}
use Rattle.rules.specs.Effects.{deleted, suspended, taken}
use Rattle.rules.specs.Steps.{Stepped, answered, stored, uses_after, after, turned_away, step}
use Rattle.rules.specs.Trace.{trace, at_last, lending}

abbrev pub Stepping : Type 0
Stepping = State → Call → List ℕ → List ℕ → Stepped

-- the uses after an accepted call
abbrev pub uses_then : State → Asked → Uses
uses_then k a = uses_after k.uses a

-- the step with another door, refusal, effect with the effective priorities worked out, choose, store and uses afterwards; with the kernel's own it is the step
unfoldable pub step_of : (Uses → Call → Asked) → (State → Asked → ℕ → ℕ → ℕ) → (State → Asked → State) → (State → State) → (State → Asked → List ℕ → List ℕ → List ℕ) → (State → Asked → Uses) → Stepping
step_of door refuses does choose stores raises k c item s =
    let a = door k.uses c in
    let n = refuses k a (length item) (length s) in
    let next = choose (does k a) in
    if eqb n 0 then record { kernel = with_uses next (raises k a); answer = answered k a next; store = stores k a item s } else turned_away k n s

abbrev pub step_by : (State → Asked → State) → (State → State) → Stepping
step_by does choose = step_of asked refusal does choose stored uses_then

-- the effect with the row of call n changed, and the effective priorities worked out
abbrev pub changed : ℕ → (State → Asked → State) → State → Asked → State
changed n does k a = if is n a then worked_out (does k a) else after k a

-- "One that turns every call away", with whatever number each gets
abbrev pub Numbers : Type 0
Numbers = State → Call → List ℕ → List ℕ → ℕ

unfoldable pub turns_all_away : Numbers → Stepping
turns_all_away number k c item s = turned_away k (number k c item s) s

-- "One that always answers done"
unfoldable pub always_done : Stepping
always_done k c item s = let r = step k c item s in record { kernel = r.kernel; answer = says done 0; store = r.store }

-- "and one that changes nothing"
unfoldable pub changes_nothing : Stepping
changes_nothing k c item s = record { kernel = k; answer = (step k c item s).answer; store = s }

-- whoever began a delay or wait, in that order
abbrev pub as_begun : State → List TaskSlot
as_begun k = begun k.tasks (listed k.order)

-- a tick's count with other wakes; a tick, and a release, with another count
abbrev pub one_tick_by : (State → State) → State → State
one_tick_by wake k = worked_out (wake (with_tick k (later k.tick 1)))

abbrev pub ticked_by : (State → State) → State → State
ticked_by count k = if ltb 0 k.hold then with_hold k k.hold (k.pended + 1) else turned (count k)

abbrev pub released_by : (State → State) → State → State
released_by count k = if eqb k.hold 1 then up_to (λ x i. count x) k.pended (with_hold k 0 0) else with_hold k (k.hold - 1) k.pended

-- "One that makes the first due task ready and skips the rest"
abbrev pub first_woken : State → State
first_woken k = wakes k (head (kept (λ t. wakes_at k.tick (task_at k.tasks t).place) (as_begun k)))

abbrev pub skips_the_rest : State → Asked → State
skips_the_rest = changed 17 (λ k a. ticked_by (one_tick_by first_woken) k)

-- "or runs one pended tick for all"
abbrev pub one_for_all : State → Asked → State
one_for_all = changed 9 (λ k a. if eqb k.hold 1 && ltb 0 k.pended then one_tick (with_hold k 0 0) else released k)

-- "One that keeps a made-up pended count": n, whatever n
abbrev pub made_up : ℕ → State → Asked → State
made_up n = changed 17 (λ k a. if ltb 0 k.hold then with_hold k k.hold n else ticked k)

-- "On give, dropping the giver although it still holds another mutex.": it gets its own priority, whatever a waiter of the other lends
abbrev pub drops_giver : State → Asked → State
drops_giver k a = if is 16 a then prioritized (after k a) k.running (task_at k.tasks k.running).own else after k a

-- "Treating a wake tick smaller than the count as past."
abbrev pub is_past : ℕ → Place → Bool
is_past n p = of_wake false (λ w. leb w n) p

abbrev pub woken_if_past : State → TaskSlot → State
woken_if_past k t =
    let p = (task_at k.tasks t).place in
    if is_past k.tick p then arrives k t Ready (outcome_due p) else k

abbrev pub wakes_the_past : State → Asked → State
wakes_the_past = changed 17 (λ k a. ticked_by (one_tick_by (λ j. foldl woken_if_past j (as_begun j))) k)

-- "Putting an overtaken task at the tail, so it loses its turn."
abbrev pub behind : State → TaskSlot → State
behind k t = if is_ready (task_at k.tasks t).place then to_tail k t else k

abbrev pub loses_turn : State → State
loses_turn k = let next = chosen k in if same_task next.running k.running then next else behind next k.running

-- "Letting a suspended task stay in an object's list, so an item lands in its slip.": a waiter that is suspended stays in the order, from which the lists are read,
-- and a send to an empty queue finds it there as if it still waited; a kernel that lists a suspended task is not sound, so this one does not ask that
abbrev pub stays_if_waiting : State → TaskSlot → State
stays_if_waiting k t =
    let x = task_at k.tasks t in
    if is_waiting x.place then with_task k t (broken_off x) else suspended k t

-- the first of those who wait on the queue or stand suspended in the order, if it is a suspended one: a list of one, or of none
abbrev pub still_first : State → ObjSlot → List TaskSlot
still_first k o =
    let at : TaskSlot → Place = λ t. (task_at k.tasks t).place in
    kept (λ t. is_suspended (at t)) (leader k.tasks (kept (λ t. waits_on o (at t) || is_suspended (at t)) (listed k.order)))

abbrev pub found_by : State → Asked → List TaskSlot
found_by k a = if is 13 a && is_empty (kind_at k.objects a.object) then still_first k a.object else []

-- it gets the item in its slip and is made ready, outcome 1; with none all is done as it should be, but for a suspend
abbrev pub woken_or : State → Asked → List TaskSlot → State
woken_or k a [] = changed 3 (λ k a. stays_if_waiting k a.task) k a
woken_or k a (t ∷ l) = worked_out (arrives k t Ready 1)

abbrev pub slip_or : State → Asked → List ℕ → List ℕ → List TaskSlot → List ℕ
slip_or k a item s [] = stored k a item s
slip_or k a item s (t ∷ l) = put_at (slip_of t) item s

abbrev pub stays_listed : Stepping
stays_listed = step_of asked later_row (λ k a. woken_or k a (found_by k a)) chosen (λ k a item s. slip_or k a item s (found_by k a)) uses_then

-- "Deleting a holder and leaving the next task in that slot as holder."; a kernel whose holder is gone is not sound, so neither does this one ask that
abbrev pub ten_lifted : State → Asked → ℕ → ℕ → ℕ
ten_lifted k a item store = let n = later_row k a item store in if is 2 a && eqb n 10 then 0 else n

abbrev pub deletes_holders : Stepping
deletes_holders = step_of asked ten_lifted after chosen stored uses_then

-- "where a slot's use .. goes up by one at each delete or remove": a step with other uses afterwards
abbrev pub raised_by : (State → Asked → Uses) → Stepping
raised_by raises = step_of asked refusal after chosen stored raises

-- not raised at a delete
abbrev pub not_at_delete : State → Asked → Uses
not_at_delete k a = if is 2 a then k.uses else uses_then k a

-- raised at create instead
abbrev pub at_create : State → Asked → Uses
at_create k a = if is 1 a then without_task k.uses (task (free_slot k.tasks)) else not_at_delete k a

-- "A number whose use part differs from the slot's names nothing.": a door that first makes other numbers of those in a call
abbrev pub renamed : (TaskNo → TaskNo) → (ObjNo → ObjNo) → Argument → Argument
renamed f g (a_task t) = a_task (f t)
renamed f g (an_object o) = an_object (g o)
renamed f g (a_queue o) = a_queue (g o)
renamed f g (a_mutex o) = a_mutex (g o)
renamed f g (a_group o) = a_group (g o)
renamed f g (a_priority p) = a_priority p
renamed f g (some_ticks n) = some_ticks n
renamed f g (a_capacity c) = a_capacity c
renamed f g (a_size n) = a_size n
renamed f g (a_wait w) = a_wait w
renamed f g (some_bits b) = some_bits b
renamed f g (an_all b) = an_all b
renamed f g (a_clear b) = a_clear b
renamed f g an_item = an_item

abbrev pub door_by : (Uses → TaskNo → TaskNo) → (Uses → ObjNo → ObjNo) → Uses → Call → Asked
door_by f g us c = put_all us (nothing (called c).number 0 0 1 0) (map (renamed (f us) (g us)) (called c).arguments)

-- the number that the slot n % 16 has now, whatever use n has: so n % 16 alone is looked at
abbrev pub task_now : Uses → TaskNo → TaskNo
task_now us t = task_no us (task (t.0 % 16))

abbrev pub object_now : Uses → ObjNo → ObjNo
object_now us o = obj_no us (object (o.0 % 16))

-- an old number still opens its slot
abbrev pub old_opens : Stepping
old_opens = step_of (door_by task_now object_now) refusal after chosen stored uses_then

-- the use is compared for tasks only
abbrev pub tasks_only : Stepping
tasks_only = step_of (door_by (λ us t. t) object_now) refusal after chosen stored uses_then

-- "A slot given up at use 65,535 then has use 65,536 and is not used again": one that is free and not spent
abbrev pub used_again : State → Asked → State
used_again = changed 2 (λ k a. deleted k a.task false)

-- the fresh kernel with task slot 1 at its last use
abbrev pub at_last_use : State
at_last_use = with_uses fresh (record { tasks = set fresh_uses.tasks 1 65535; objects = fresh_uses.objects })

-- "Form the 32-bit word of occupied lines and find the highest with the processor's count of leading zeros.": a choose by the line that another word or count finds
abbrev pub chosen_by : (State → ℕ) → State → State
chosen_by number k = if eqb k.hold 0 then runs_if k (head (line k.tasks (number k) (listed k.order))) else k

-- every bit one too high
abbrev pub bit_off : State → ℕ
bit_off k = top (occupied (λ t. is_ready (task_at k.tasks t).place) (λ t. suc (level k.tasks t)) (listed k.order)).word

-- tasks that are not ready counted
abbrev pub counts_blocked : State → ℕ
counts_blocked k = top (occupied (λ t. true) (level k.tasks) (listed k.order)).word

-- 32 instead of 31
abbrev pub from32 : State → ℕ
from32 k = 32 - count_leading_zeros 32 (lines_of k).word

-- the zeros counted at the other end
abbrev pub lowest_line : State → ℕ
lowest_line k = count_trailing_zeros 32 (lines_of k).word

-- "Among tasks due on one tick, make ready first whoever began its delay or wait earlier. This replaces document 01's order by task number, for a tick and for release.":
-- other lists along which a tick and a release wake
abbrev pub wakes_along_two : (State → List TaskSlot) → (State → List TaskSlot) → State → Asked → State
wakes_along_two at_tick at_release k a =
    if is 17 a then worked_out (ticked_by (one_tick_by (λ j. wakes j (at_tick j))) k)
    else changed 9 (λ k a. released_by (one_tick_by (λ j. wakes j (at_release j))) k) k a

abbrev pub wakes_along : (State → List TaskSlot) → State → Asked → State
wakes_along order = wakes_along_two order order

-- by slot number
abbrev pub by_number : State → List TaskSlot
by_number k = values (λ n. task n) 16

-- by own priority, the highest first
abbrev pub by_priority : State → List TaskSlot
by_priority k = up_to (λ l p. kept (λ t. eqb (task_at k.tasks t).own p) (as_begun k) ++ l) 32 []

-- the later first
abbrev pub later_first : State → List TaskSlot
later_first k = foldl (λ l t. t ∷ l) [] (as_begun k)

-- an order of the delayed and one of the waiting, and not of both together
abbrev pub delayed_first : State → List TaskSlot
delayed_first k =
    let at : TaskSlot → Place = λ t. (task_at k.tasks t).place in
    kept (λ t. is_delayed (at t)) (as_begun k) ++ kept (λ t. is_waiting (at t)) (as_begun k)

-- a delayed or waiting task whose priority is set, or to which one is lent, as if it began only now
abbrev pub begins_anew : State → TaskSlot → State
begins_anew k t = if has_begun k.tasks t then to_tail k t else k

abbrev pub set_anew : State → Asked → State
set_anew = changed 5 (λ k a. new_priority (begins_anew k a.task) a.task a.priority)

abbrev pub lent_anew : State → Asked → State
lent_anew = changed 15 (λ k a. taken (begins_anew k (holder_of (kind_at k.objects a.object))) a.object a.wait)

-- "n ticks .. and the result must equal n single ticks one by one, turns of the line and wakes included": an advance of other parts: how many ticks,
-- the list along which each wakes, which may look at the count from which the advance began, what comes after each one's wakes, and what after the last
abbrev pub advances_by : (ℕ → ℕ) → (ℕ → State → List TaskSlot) → (State → State) → (State → State) → State → Asked → State
advances_by many along each last = changed 18 (λ k a. last (up_to (λ x i. each (one_tick_by (λ j. wakes j (along k.tick j)) x)) (many a.ticks) k))

-- the right parts: as many as asked; along those who began; with turn and choose; and nothing more
abbrev pub as_asked : ℕ → ℕ
as_asked n = n

abbrev pub all_begun : ℕ → State → List TaskSlot
all_begun from k = as_begun k

abbrev pub nothing_more : State → State
nothing_more k = k

-- the count jumps over the wakes
abbrev pub jumps_wakes : State → Asked → State
jumps_wakes = advances_by as_asked (λ from k. []) (turned_if true) nothing_more

-- no turn of the line; one, however many the ticks
abbrev pub never_turns : State → Asked → State
never_turns = advances_by as_asked all_begun chosen nothing_more

abbrev pub turns_once : State → Asked → State
turns_once = advances_by as_asked all_begun chosen turned

-- "the wake tick minus the count", without the wrap: a wake tick that is no larger than the count at the start is never met
abbrev pub without_wrap : ℕ → State → List TaskSlot
without_wrap from k = kept (λ t. of_wake false (λ w. ltb from w) (task_at k.tasks t).place) (as_begun k)

abbrev pub misses_wrap : State → Asked → State
misses_wrap = advances_by as_asked without_wrap (turned_if true) nothing_more

-- a tick too few
abbrev pub one_too_few : State → Asked → State
one_too_few = advances_by (λ n. n - 1) all_begun (turned_if true) nothing_more

-- one choose, at the end, so that who is woken on the way does not run before it
abbrev pub chooses_once : State → Asked → State
chooses_once = advances_by as_asked all_begun turned nothing_more

-- by slot number
abbrev pub numbers_first : State → Asked → State
numbers_first = advances_by as_asked (λ from k. by_number k) (turned_if true) nothing_more

-- a wrong step; a start, and calls from there; what is looked at; and what the right step and the wrong one show after the last call
pub record Wrong : Type 0 where
  pub step : Stepping
  pub start : State
  pub calls : List Call
  pub look : Stepped → List ℕ
  pub right : View
  pub wrong : View

-- every call is lent this item
abbrev pub any_item : List ℕ
any_item = 7 ∷ []

-- what is seen after the last of the calls, one after the other, from a store of zeros
unfoldable pub shows_by : Stepping → Wrong → View
shows_by f w = at_last (view_of w.look) (view done 0 0 []) (trace (lending f any_item) w.start (replicate 9216 0) w.calls)

-- a test whether two are the same
abbrev pub of_word : Word → ℕ
of_word done = 0
of_word made = 1
of_word waiting = 2
of_word refused = 3

-- by counting down, so that it computes also where one of the two is any number above another
unfoldable pub same_number : ℕ → ℕ → Bool
same_number zero zero = true
same_number zero (suc n) = false
same_number (suc m) zero = false
same_number (suc m) (suc n) = same_number m n

unfoldable pub same_list : List ℕ → List ℕ → Bool
same_list [] [] = true
same_list [] (y ∷ ys) = false
same_list (x ∷ xs) [] = false
same_list (x ∷ xs) (y ∷ ys) = same_number x y && same_list xs ys

unfoldable pub same_view : View → View → Bool
same_view x y =
    (same_number (of_word x.answer.word) (of_word y.answer.word) && same_number x.answer.number y.answer.number)
    && (same_number x.running y.running && same_list x.looked y.looked)

-- what comes of a wrong step: shown by the right one, shown by the wrong one, and whether these are two
pub record Verdict : Type 0 where
  pub right : View
  pub wrong : View
  pub apart : Bool

abbrev pub found : Wrong → Verdict
found w = record { right = shows_by step w; wrong = shows_by w.step w; apart = not (same_view w.right w.wrong) }

-- what it is to come to
abbrev pub verdict : Wrong → Verdict
verdict w = record { right = w.right; wrong = w.wrong; apart = true }

-- from this kernel, and from the fresh one
abbrev pub fails_from : State → Stepping → List Call → (Stepped → List ℕ) → View → View → Wrong
fails_from k f cs look x y = record { step = f; start = k; calls = cs; look = look; right = x; wrong = y }

abbrev pub fails : Stepping → List Call → (Stepped → List ℕ) → View → View → Wrong
fails = fails_from fresh

abbrev pub says_nothing : Stepped → List ℕ
says_nothing r = []

abbrev pub outcomes : Stepped → List ℕ
outcomes r = (task_at r.kernel.tasks (task 1)).outcome ∷ (task_at r.kernel.tasks (task 2)).outcome ∷ []

-- a hold and ticks under it, after which m are pended, and not n
abbrev pub miscounts : ℕ → List Call → ℕ → Wrong
miscounts n ts m = fails (step_by (made_up n) chosen) (Hold ∷ ts) (λ r. r.kernel.pended ∷ []) (view done 0 0 (m ∷ [])) (view done 0 0 (n ∷ []))

unfoldable pub idle_programs : Numbers → ℕ → List Wrong
idle_programs number n =
    fails (turns_all_away number) (Create 3 ∷ []) says_nothing (view made 1 1 []) (view refused (number fresh (Create 3) any_item (replicate 9216 0)) 0 [])
    ∷ fails always_done (Create 3 ∷ []) says_nothing (view made 1 1 []) (view done 0 1 [])
    ∷ fails changes_nothing (Create 3 ∷ []) says_nothing (view made 1 1 []) (view made 1 0 [])
    -- two tasks are due at one tick
    ∷ fails (step_by skips_the_rest chosen) (Create 3 ∷ Delay 1 ∷ Create 3 ∷ Delay 1 ∷ Tick ∷ []) outcomes (view done 0 1 (1 ∷ 1 ∷ [])) (view done 0 1 (1 ∷ 0 ∷ []))
    -- the tick count after two pended ticks
    ∷ fails (step_by one_for_all chosen) (Hold ∷ Tick ∷ Tick ∷ Release ∷ []) (λ r. r.kernel.tick ∷ []) (view done 0 0 (2 ∷ [])) (view done 0 0 (1 ∷ []))
    -- whatever the count: none, one, or more
    ∷ miscounts 0 (Tick ∷ []) 1
    ∷ miscounts 1 (Tick ∷ Tick ∷ []) 2
    ∷ miscounts (suc (suc n)) (Tick ∷ []) 1
    ∷ []

-- the outcome of a suspended task; 0 of any other
abbrev pub broken_off_now : Task → ℕ
broken_off_now x = if is_suspended x.place then x.outcome else 0

unfoldable pub easy_mistakes : List Wrong
easy_mistakes =
    -- task 1 has a loan of 5 on mutex 0 and gives mutex 1
    fails (step_by drops_giver chosen)
    (Create 3 ∷ MakeMutex ∷ MakeMutex ∷ Take (object_of 0) 0 ∷ Take (object_of 1) 0 ∷ Create 5 ∷ Take (object_of 0) 10 ∷ Give (object_of 1) ∷ [])
    (λ r. level r.kernel.tasks (task 1) ∷ [])
    (view done 0 1 (5 ∷ []))
    (view done 0 1 (3 ∷ []))
    -- the wake tick is 1, the count 4,294,967,295
    ∷ fails_from (with_tick fresh 4294967294) (step_by wakes_the_past chosen) (Create 3 ∷ Delay 3 ∷ Tick ∷ []) outcomes (view done 0 0 (0 ∷ 0 ∷ [])) (view done 0 1 (1 ∷ 0 ∷ []))
    -- task 3 overtakes 1, ahead of 2 in its line, and leaves again
    ∷ fails (step_by after loses_turn) (Create 3 ∷ Create 3 ∷ Create 5 ∷ Suspend (task_of 3) ∷ []) says_nothing (view done 0 1 []) (view done 0 2 [])
    -- task 1's outcome, suspended as it is, and how many are listed
    ∷ fails stays_listed
    (MakeQueue 1 1 ∷ Create 3 ∷ Receive (object_of 0) 10 ∷ Suspend (task_of 1) ∷ [])
    (λ r. broken_off_now (task_at r.kernel.tasks (task 1)) ∷ length (listed r.kernel.order) ∷ [])
    (view done 0 0 (3 ∷ 1 ∷ []))
    (view done 0 0 (3 ∷ 2 ∷ []))
    -- then the first byte of its slip, and of the queue
    ∷ fails stays_listed
    (MakeQueue 1 1 ∷ Create 3 ∷ Receive (object_of 0) 10 ∷ Suspend (task_of 1) ∷ Send (object_of 0) 0 ∷ [])
    (λ r. get_or r.store (slip_of (task 1)) 0 ∷ get_or r.store 0 0 ∷ [])
    (view done 0 0 (0 ∷ 7 ∷ []))
    (view done 0 1 (7 ∷ 0 ∷ []))
    -- the new task's number, 17 (1 + 16 × 1) where slot 1 is used again, and the slot of who holds mutex 0
    ∷ fails deletes_holders
    (Create 3 ∷ MakeMutex ∷ Take (object_of 0) 0 ∷ Delete (task_of 1) ∷ Create 3 ∷ [])
    (λ r. (holder_of (kind_at r.kernel.objects (object 0))).0 ∷ [])
    (view made 2 1 (1 ∷ []))
    (view made 17 17 (1 ∷ []))
    ∷ []

unfoldable pub number_mistakes : List Wrong
number_mistakes =
    -- the number of the second task in slot 1
    fails (raised_by not_at_delete) (Create 3 ∷ Delete (task_of 1) ∷ Create 3 ∷ []) says_nothing (view made 17 17 []) (view made 1 1 [])
    -- the number that create gave names nothing
    ∷ fails (raised_by at_create) (Create 3 ∷ Suspend (task_of 1) ∷ []) says_nothing (view done 0 0 []) (view refused 5 17 [])
    -- 1 was the first task's in slot 1, and 17 is in it
    ∷ fails old_opens (Create 3 ∷ Delete (task_of 1) ∷ Create 3 ∷ Suspend (task_of 1) ∷ []) says_nothing (view refused 5 17 []) (view done 0 0 [])
    -- 0 was the first object's in slot 0, and 16 is in it
    ∷ fails tasks_only (MakeMutex ∷ Remove (object_of 0) ∷ MakeMutex ∷ Remove (object_of 0) ∷ []) says_nothing (view refused 5 0 []) (view done 0 0 [])
    -- 1,048,561 is 1 + 16 × 65,535, given twice
    ∷ fails_from at_last_use (step_by used_again chosen) (Create 3 ∷ Delete (task_of 1048561) ∷ Create 3 ∷ []) says_nothing (view made 2 2 []) (view made 1048561 1048561 [])
    ∷ []

unfoldable pub line_mistakes : List Wrong
line_mistakes =
    -- nobody stands in line 4, so idle goes on
    fails (step_by after (chosen_by bit_off)) (Create 3 ∷ []) says_nothing (view made 1 1 []) (view made 1 0 [])
    ∷ fails (step_by after (chosen_by from32)) (Create 3 ∷ []) says_nothing (view made 1 1 []) (view made 1 0 [])
    -- task 1 is delayed, and goes on
    ∷ fails (step_by after (chosen_by counts_blocked)) (Create 3 ∷ Delay 5 ∷ []) says_nothing (view waiting 0 0 []) (view waiting 0 1 [])
    -- idle's line is the lowest
    ∷ fails (step_by after (chosen_by lowest_line)) (Create 3 ∷ []) says_nothing (view made 1 1 []) (view made 1 0 [])
    ∷ []

unfoldable pub wake_mistakes : List Wrong
wake_mistakes =
    -- task 2 began before task 1
    fails (step_by (wakes_along by_number) chosen) (Create 3 ∷ Create 3 ∷ Yield ∷ Delay 1 ∷ Delay 1 ∷ Tick ∷ []) says_nothing (view done 0 2 []) (view done 0 1 [])
    -- task 1, which began first, has own priority 2, and 5 from task 2; task 3's own is 5
    ∷ fails (step_by (wakes_along by_priority) chosen)
    (Create 2 ∷ MakeMutex ∷ Take (object_of 0) 0 ∷ Create 5 ∷ Create 5 ∷ Take (object_of 0) 9 ∷ Yield ∷ Delay 1 ∷ Delay 1 ∷ Tick ∷ [])
    says_nothing
    (view done 0 1 [])
    (view done 0 3 [])
    ∷ fails (step_by (wakes_along later_first) chosen) (Create 3 ∷ Delay 1 ∷ Create 3 ∷ Delay 1 ∷ Tick ∷ []) says_nothing (view done 0 1 []) (view done 0 2 [])
    -- the first again, with the tick pended
    ∷ fails (step_by (wakes_along_two as_begun by_number) chosen)
    (Create 3 ∷ Create 3 ∷ Yield ∷ Delay 1 ∷ Delay 1 ∷ Hold ∷ Tick ∷ Release ∷ [])
    says_nothing
    (view done 0 2 [])
    (view done 0 1 [])
    -- task 1 waits, then task 2 is delayed
    ∷ fails (step_by (wakes_along delayed_first) chosen)
    (MakeQueue 1 1 ∷ Create 3 ∷ Receive (object_of 0) 1 ∷ Create 3 ∷ Delay 1 ∷ Tick ∷ [])
    says_nothing
    (view done 0 1 [])
    (view done 0 2 [])
    -- task 1, which began first, is set to task 2's priority
    ∷ fails (step_by set_anew chosen) (Create 4 ∷ Delay 1 ∷ Create 3 ∷ Delay 1 ∷ SetPriority (task_of 1) 3 ∷ Tick ∷ []) says_nothing (view done 0 1 []) (view done 0 2 [])
    -- or is lent it by task 3
    ∷ fails (step_by lent_anew chosen)
    (Create 3 ∷ MakeMutex ∷ Take (object_of 0) 0 ∷ Delay 1 ∷ Create 5 ∷ Delay 1 ∷ Create 5 ∷ Take (object_of 0) 10 ∷ Tick ∷ [])
    says_nothing
    (view done 0 1 [])
    (view done 0 2 [])
    ∷ []

unfoldable pub advance_mistakes : List Wrong
advance_mistakes =
    -- task 1 is due on the second of three ticks
    fails (step_by jumps_wakes chosen) (Create 3 ∷ Delay 2 ∷ Advance 3 ∷ []) outcomes (view done 0 1 (1 ∷ 0 ∷ [])) (view done 0 0 (0 ∷ 0 ∷ []))
    -- two tasks take turns, three times and twice
    ∷ fails (step_by never_turns chosen) (Create 3 ∷ Create 3 ∷ Advance 3 ∷ []) says_nothing (view done 0 2 []) (view done 0 1 [])
    ∷ fails (step_by turns_once chosen) (Create 3 ∷ Create 3 ∷ Advance 2 ∷ []) says_nothing (view done 0 1 []) (view done 0 2 [])
    -- the wake tick is 1, the count 4,294,967,294, and 2 after the advance
    ∷ fails_from (with_tick fresh 4294967294) (step_by misses_wrap chosen) (Create 3 ∷ Delay 3 ∷ Advance 4 ∷ []) (λ r. r.kernel.tick ∷ []) (view done 0 1 (2 ∷ [])) (view done 0 0 (2 ∷ []))
    -- the tick count
    ∷ fails (step_by one_too_few chosen) (Advance 5 ∷ []) (λ r. r.kernel.tick ∷ []) (view done 0 0 (5 ∷ [])) (view done 0 0 (4 ∷ []))
    -- the first tick wakes tasks 1 and 2, and the second turns their line
    ∷ fails (step_by chooses_once chosen) (Create 3 ∷ Delay 1 ∷ Create 3 ∷ Delay 1 ∷ Advance 2 ∷ []) says_nothing (view done 0 2 []) (view done 0 1 [])
    -- task 2 began before task 1
    ∷ fails (step_by numbers_first chosen) (Create 3 ∷ Create 3 ∷ Yield ∷ Delay 2 ∷ Delay 2 ∷ Advance 2 ∷ []) says_nothing (view done 0 2 []) (view done 0 1 [])
    ∷ []

unfoldable pub wrongs : Numbers → ℕ → List Wrong
wrongs number n = idle_programs number n ++ (easy_mistakes ++ (number_mistakes ++ (line_mistakes ++ (wake_mistakes ++ advance_mistakes))))
