-- What soundness asks of the tasks: in words, and as the code tests it in numbers.
use Rattle.std.specs.Prelude.{ℕ, ◌+◌, ◌≡◌, Bool, true, false, not, ◌&&◌, ◌||◌, List, [], ◌∷◌, eqb, ltb, leb, length, get_or, if◌then◌else◌}
use Rattle.lists.specs.Lists.{all_below, up_to}
use Rattle.numbers.specs.declared.TaskSlot.{TaskSlot}
use Rattle.numbers.specs.Numbers.{task, same_task}
use Rattle.slots.specs.declared.Want.{Want}
use Rattle.slots.specs.declared.Want.TheVariants.{OwnTurn, Bits}
use Rattle.slots.specs.declared.Place.{Place}
use Rattle.slots.specs.declared.Place.TheVariants.{Free, Ready, Delayed, Waiting, Suspended, Spent}
use Rattle.slots.specs.declared.Task.{Task}
use Rattle.slots.specs.SoundSlots.{idle_fine, stands_fine, remembers_fine, orders_fine, priorities_fine, outcome_fine, fresh_if_free, free_holds, not_due, may_wait_on}
use Rattle.tasks.specs.declared.Tasks.{Tasks}
use Rattle.tasks.specs.Columns.{tasks_of, row_at, rows_of}
use Rattle.tasks.specs.Walks.{line_in, ready_at, level_at, top_in}
use Rattle.tasks.specs.Dues.{timed}
use Rattle.tasks.specs.Known.{waits_state, known, known_at, wake_at, mask_at}

abbrev pub blocked : ℕ → Bool
blocked s = eqb s 2 || waits_state s

-- a row by itself, where it stands n times in the order and holds a mutex or not
abbrev pub alone_fine : ℕ → Bool → Task → Bool
alone_fine n held x =
    stands_fine n x.place
    && (remembers_fine n x.place
    && (orders_fine n x.place
    && (priorities_fine x
    && (outcome_fine x
    && (fresh_if_free x
    && free_holds held x.place)))))

unfoldable pub row_fine : ℕ → ℕ → ℕ → ℕ → ℕ → ℕ → ℕ → Bool → Bool
row_fine s o f own level outcome n held =
    known s o f
    && (eqb n (if eqb s 1 || blocked s then 1 else 0)
    && (leb own 31
    && ((leb outcome 3 && (not (blocked s) || eqb outcome 0))
    && (not (eqb s 0 || eqb s 5) || ((eqb own 0 && (eqb level 0 && eqb outcome 0)) && not held)))))

-- "idle is as above"; "idle never waits or holds"
abbrev pub idle_alone : Bool → Task → Bool
idle_alone held x = idle_fine x && not held

-- the same in numbers, asked of idle's row
abbrev pub idle_if : Bool → ℕ → ℕ → ℕ → Bool → Bool
idle_if idle s own level held = not idle || ((eqb s 1 && (eqb own 0 && eqb level 0)) && not held)

abbrev pub rows_fine : Tasks → List ℕ → List Bool → ℕ → Bool
rows_fine ts stands holds i = known_at ts i && alone_fine (get_or stands i 0) (get_or holds i false) (row_at ts i)

-- its wake tick
unfoldable pub wake_fine : ℕ → ℕ → ℕ → Bool
wake_fine s w tick = if timed s then leb w 4294967295 && not (eqb w tick) else eqb w 0

-- and its mask
abbrev pub wakes_fine : Tasks → ℕ → ℕ → Bool
wakes_fine ts tick i = (wake_at ts i && not_due tick (row_at ts i).place) && mask_at ts i

-- all that is answered: what is fine stands for the list that it reads as
pub record Fine (ts : Tasks) (tick : ℕ) (stands : List ℕ) (holds : List Bool) (r : Bool) : Type 0 where
  pub many : length (rows_of ts) ≡ 16
  pub said : r ≡ (idle_alone (get_or holds 0 false) (row_at ts 0) && (all_below 16 (rows_fine ts stands holds) && all_below 16 (wakes_fine ts tick)))
  pub whole : r ≡ true → ts ≡ tasks_of (rows_of ts)

-- "receivers wait only on an empty queue, senders only on a full one, takers only on a mutex held by another", by what is noted of each object; whoever waits for bits is not
-- asked here
abbrev pub waits_turn : List Bool → List Bool → List ℕ → TaskSlot → Want → ℕ → Bool
waits_turn opens takes holder t OwnTurn n = ltb n 16 && may_wait_on opens takes holder t n
waits_turn opens takes holder t (Bits m all clear) n = true

abbrev pub waits_by : List Bool → List Bool → List ℕ → TaskSlot → Place → Bool
waits_by opens takes holder t Free = true
waits_by opens takes holder t Ready = true
waits_by opens takes holder t (Delayed w) = true
waits_by opens takes holder t (Waiting x w) = waits_turn opens takes holder t x.want x.object.0
waits_by opens takes holder t Suspended = true
waits_by opens takes holder t Spent = true

abbrev pub waits_at : Tasks → List Bool → List Bool → List ℕ → ℕ → Bool
waits_at ts opens takes holder i = waits_by opens takes holder (task i) (row_at ts i).place

-- how many wait on an object
unfoldable pub waiting_in : Tasks → ℕ
waiting_in ts = up_to (λ n i. n + (if waits_state (get_or ts.state i 0) then 1 else 0)) 16 0

-- how many want bits
unfoldable pub wanting_in : Tasks → ℕ
wanting_in ts = up_to (λ n i. n + (if eqb (get_or ts.wants.flags i 0) 0 then 0 else 1)) 16 0

-- "the running task heads its line"
abbrev pub headed : List TaskSlot → TaskSlot → Bool
headed [] u = false
headed (t ∷ l) u = same_task t u

unfoldable pub heads_in : Tasks → List TaskSlot → TaskSlot → Bool
heads_in ts l u = ready_at ts u && headed (line_in ts (level_at ts u) l) u

-- "and with hold 0 no higher line is occupied"
abbrev pub runs_in : Tasks → List TaskSlot → TaskSlot → Bool → Bool
runs_in ts l u held = heads_in ts l u && (held || leb (top_in ts l) (level_at ts u))
