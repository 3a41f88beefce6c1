-- "A kernel value is sound when", as propositions, in the seven parts of Sound.antt: for each task, each object, each line and each list what the sentence says.
use Rattle.std.specs.Prelude.{ℕ, ◌*◌, ◌<◌, ◌≤◌, ◌≡◌, Bool, true, false, List, [], ◌∷◌, length, get_or, if◌then◌else◌}
use Rattle.lists.specs.Lists.{head}
use Rattle.numbers.specs.Numbers.{idle}
use Rattle.calls.specs.Door.{use_in, fresh_uses}
use Rattle.order.specs.Order.{listed}
use Rattle.order.specs.Tidy.{count}
use Rattle.slots.specs.Places.{is_free, is_blocked, is_listed, waits_on}
use Rattle.slots.specs.Values.{free_task, spent_task, in_line, task_at}
use Rattle.rules.specs.Types.{TaskSlot, ObjSlot, Want, OwnTurn, Bits, Wait, Wake, At, Place, Free, Ready, Delayed, Waiting, Spent, Order, Uses, Task, Ring, Holder, Nobody, By, Sort, Ordinary, Recursive, Kind, Queue, Mutex, Group, Object, waiters_of, State}
use Rattle.slots.specs.Kinds.{is_unused, hands, kind_at}
use Rattle.slots.specs.Wants.{all_bits, holds_of}
use Rattle.rules.specs.Tables.{with_uses}
use Rattle.rules.specs.Lines.{line, those, begun, level}

-- the task t holds the mutex o, of whatever sort
abbrev pub Holds : List Object → TaskSlot → ObjSlot → Type 0
Holds os t o = hands (kind_at os o) ≡ By t

-- the task t holds nothing
abbrev pub HoldsNothing : List Object → TaskSlot → Type 0
HoldsNothing os t = (o : ObjSlot) → Holds os t o → ⊥

-- the task exists
abbrev pub Exists : List Task → TaskSlot → Type 0
Exists ts t = is_free (task_at ts t).place ≡ false

-- "receivers wait only on an empty queue, senders only on a full one, takers only on a mutex held by another", each for its turn; of an event group "Waiters stand only where
-- unsatisfied, with a mask and flags that the call accepts": the mask is not empty and within the 24 bits
pub data MayWait (t : TaskSlot) : Want → Kind → Type 0 where
  receiver : {q : Ring} → q.count ≡ 0 → MayWait t OwnTurn (Queue q)
  sender : {q : Ring} → q.count ≡ q.capacity → MayWait t OwnTurn (Queue q)
  taker : {s : Sort} {u : TaskSlot} → (u.0 ≡ t.0 → ⊥) → MayWait t OwnTurn (Mutex s (By u))
  awaiter : {b m : ℕ} {all clear : Bool} → 1 ≤ m → m ≤ all_bits → holds_of b m all ≡ false → MayWait t (Bits m all clear) (Group b)

-- "A queue has capacity 1 to 64 and item size 0 to 64 bytes, with capacity times size at most 512."
pub record RingFits (q : Ring) : Type 0 where
  pub some : 1 ≤ q.capacity
  pub few : q.capacity ≤ 64
  pub small : q.size ≤ 64
  pub whole : q.capacity * q.size ≤ 512
  pub starts : q.first < q.capacity
  pub counts : q.count ≤ q.capacity

-- of an object by itself: "up to 255 times in all" for a held recursive mutex, and a free one has no count; the bits of an event group are within the 24
pub data KindFits : Kind → Type 0 where
  vacant : {x : Kind} → is_unused x ≡ true → KindFits x
  a_queue : {q : Ring} → RingFits q → KindFits (Queue q)
  a_group : {b : ℕ} → b ≤ all_bits → KindFits (Group b)
  an_ordinary : {h : Holder} → KindFits (Mutex Ordinary h)
  free_recursive : {n : ℕ} → n ≡ 0 → KindFits (Mutex (Recursive n) Nobody)
  held_recursive : {n : ℕ} {t : TaskSlot} → 1 ≤ n → n ≤ 255 → KindFits (Mutex (Recursive n) (By t))

-- ── the tables: the tasks and the objects with each other
-- "idle is as above": "always there, always ready, priority 0"
pub record AsIdle (x : Task) : Type 0 where
  pub ready : x.place ≡ Ready
  pub own : x.own ≡ 0
  pub effective : x.effective ≡ 0

-- of the task t, whose slot holds x
pub record TaskFits (os : List Object) (t : TaskSlot) (x : Task) : Type 0 where
  -- "receivers wait only on an empty queue, senders only on a full one, takers only on a mutex held by another"
  -- and of an event group "only where unsatisfied, with a mask and flags that the call accepts"
  pub waits : (y : Wait) (w : Wake) → x.place ≡ Waiting y w → MayWait t y.want (kind_at os y.object)
  -- "an outcome is 0 to 3, and 0 if delayed or waiting"
  pub outcome_range : x.outcome ≤ 3
  pub delay_outcome : (w : ℕ) → x.place ≡ Delayed w → x.outcome ≡ 0
  pub wait_outcome : (y : Wait) (w : Wake) → x.place ≡ Waiting y w → x.outcome ≡ 0
  -- "free slots carry the fresh values"
  pub free : x.place ≡ Free → x ≡ free_task
  pub spent : x.place ≡ Spent → x ≡ spent_task

pub record Tables (ts : List Task) (os : List Object) : Type 0 where
  -- "16 task slots, 0 to 15"; "16 object slots, 0 to 15"
  pub task_slots : length ts ≡ 16
  pub object_slots : length os ≡ 16
  pub as_idle : AsIdle (task_at ts idle)
  pub tasks : (t : TaskSlot) → TaskFits os t (task_at ts t)
  -- "idle never waits or holds"; it is ready, so it does not wait
  pub idle_holds : HoldsNothing os idle
  -- "holders exist"
  pub holders : (t : TaskSlot) (o : ObjSlot) → Holds os t o → Exists ts t
  -- "counts and places obey the ranges": those of the queues, and the counts of the recursive mutexes
  pub ranges : (o : ObjSlot) → KindFits (kind_at os o)

-- ── the priorities
-- s is t, or waits "directly or along a chain of holders, on a mutex" that t holds: over any number of links
pub data Reaches (ts : List Task) (os : List Object) : TaskSlot → TaskSlot → Type 0 where
  itself : {t : TaskSlot} → Reaches ts os t t
  along : {s h t : TaskSlot} (y : Wait) (w : Wake) → (task_at ts s).place ≡ Waiting y w → Holds os h y.object → Reaches ts os h t → Reaches ts os s t

-- p is "the largest own priority among itself and all tasks that wait, directly or along a chain of holders, on a mutex it holds"
pub record LargestOwn (ts : List Task) (os : List Object) (t : TaskSlot) (p : ℕ) : Type 0 where
  pub at_least : (s : TaskSlot) → Reaches ts os s t → (task_at ts s).own ≤ p
  pub whose : TaskSlot
  pub reaches : Reaches ts os whose t
  pub own : (task_at ts whose).own ≡ p

-- of each slot
pub record Levels (ts : List Task) (os : List Object) : Type 0 where
  -- "a task's effective priority is the largest own priority .."
  pub rule : (t : TaskSlot) → t.0 < 16 → LargestOwn ts os t (level ts t)
  -- "Priorities 0 to 31": the own ones, and so the effective ones
  pub range : (t : TaskSlot) → (task_at ts t).own ≤ 31

-- ── the listing: the order and the tasks
-- no sentence of the documents, but our kernel value's own: one order carries the lines, the lists and the order of those who wait; nobody else stands in it, and it
-- has 16 places with zeros behind those taken
pub record OneOrder (ts : List Task) (o : Order) : Type 0 where
  pub none_else : (t : TaskSlot) → is_listed (task_at ts t).place ≡ false → count t.0 (listed o) ≡ 0
  pub places : length o.places ≡ 16
  pub room : o.living ≤ 16
  pub zeros : (i : ℕ) → o.living ≤ i → i < 16 → (get_or o.places i idle).0 ≡ 0

pub record Listing (ts : List Task) (o : Order) : Type 0 where
  -- "each ready task stands once in the line of its effective priority and nobody else stands in a line"
  pub lines : (p : ℕ) (t : TaskSlot) → count t.0 (line ts p (listed o)) ≡ (if in_line p (task_at ts t) then 1 else 0)
  -- "each object lists its waiters once, in order of arrival, and no one else"
  pub lists : (b : ObjSlot) (t : TaskSlot) → count t.0 (those ts (waiters_of b) (listed o)) ≡ (if waits_on b (task_at ts t).place then 1 else 0)
  -- of the order in which the delayed and the waiting began: "In a sound kernel it has each of them once and no one else,
  pub remembered : (t : TaskSlot) → count t.0 (begun ts (listed o)) ≡ (if is_blocked (task_at ts t).place then 1 else 0)
  -- and agrees with each object's list."
  pub agrees : (b : ObjSlot) → those ts (waiters_of b) (begun ts (listed o)) ≡ those ts (waiters_of b) (listed o)
  pub one_order : OneOrder ts o

-- ── the clock: tick, hold and pended, and the wake ticks
-- of a task in the place p
pub record WakeFits (tick : ℕ) (p : Place) : Type 0 where
  -- "no wake tick of a delayed or waiting task equals the tick count"
  pub delay_ahead : (w : ℕ) → p ≡ Delayed w → w ≡ tick → ⊥
  pub wait_ahead : (y : Wait) (w : ℕ) → p ≡ Waiting y (At w) → w ≡ tick → ⊥
  -- "counts and places obey the ranges": those of the wake ticks
  pub delay_range : (w : ℕ) → p ≡ Delayed w → w ≤ 4294967295
  pub wait_range : (y : Wait) (w : ℕ) → p ≡ Waiting y (At w) → w ≤ 4294967295

pub record Counts (tick hold pended : ℕ) : Type 0 where
  -- "Hold depth 0 to 255. Pended ticks 0 to 65,535. Tick count 0 to 4,294,967,295"
  pub tick_range : tick ≤ 4294967295
  pub hold_range : hold ≤ 255
  pub pended_range : pended ≤ 65535
  -- "with hold 0 nothing is pended"
  pub pends : hold ≡ 0 → pended ≡ 0

pub record Clock (ts : List Task) (tick hold pended : ℕ) : Type 0 where
  pub wakes : (t : TaskSlot) → WakeFits tick (task_at ts t).place
  pub counts : Counts tick hold pended

-- ── who runs
-- "the running task heads its line"
pub record Runs (ts : List Task) (l : List TaskSlot) (r : TaskSlot) : Type 0 where
  pub ready : (task_at ts r).place ≡ Ready
  pub heads : head (line ts (level ts r) l) ≡ r ∷ []

pub record Running (ts : List Task) (l : List TaskSlot) (r : TaskSlot) (hold : ℕ) : Type 0 where
  pub runs : Runs ts l r
  -- "and with hold 0 no higher line is occupied"
  pub no_higher : hold ≡ 0 → (p : ℕ) → level ts r < p → line ts p l ≡ []

-- ── the uses
pub record Used (us : Uses) : Type 0 where
  -- "a use is at most 65,536, in a taken slot 65,535": what is kept is at most 65,535, and a spent slot is not taken
  pub tasks : (t : TaskSlot) → use_in us.tasks t.0 ≤ 65535
  pub objects : (o : ObjSlot) → use_in us.objects o.0 ≤ 65535
  -- "and idle's is 0"
  pub idle_none : use_in us.tasks 0 ≡ 0
  pub task_slots : length us.tasks ≡ 16
  pub object_slots : length us.objects ≡ 16

-- ── the circles
-- the task s waits on a mutex whose holder is s, or waits, "directly or along a chain of holders, on a mutex" that s holds: over any number of links
pub data Circle (ts : List Task) (os : List Object) (s : TaskSlot) : Type 0 where
  back : {h : TaskSlot} (y : Wait) (w : Wake) → (task_at ts s).place ≡ Waiting y w → Holds os h y.object → Reaches ts os h s → Circle ts os s

-- "no circle can then arise"
abbrev pub NoCircle : List Task → List Object → Type 0
NoCircle ts os = (s : TaskSlot) → Circle ts os s → ⊥

-- ── every part: the first six, and what is said of circles
pub record SoundBy (C : List Task → List Object → Type 0) (k : State) : Type 0 where
  pub tables : Tables k.tasks k.objects
  pub levels : Levels k.tasks k.objects
  pub listing : Listing k.tasks k.order
  pub clock : Clock k.tasks k.tick k.hold k.pended
  pub running : Running k.tasks (listed k.order) k.running k.hold
  pub uses : Used k.uses
  pub circles : C k.tasks k.objects

-- "a kernel value with one is not sound"
abbrev pub Sound : State → Type 0
Sound k = SoundBy NoCircle k

-- what ticks with their turns lean on: no hold, and soundness but for the uses, which no tick looks at
pub record Unheld (k : State) : Type 0 where
  pub sound : Sound (with_uses k fresh_uses)
  pub free : k.hold ≡ 0
