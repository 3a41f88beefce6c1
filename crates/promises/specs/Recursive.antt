-- "A task may take its own mutex again": what call 19 makes; what its holder's take and give of a recursive mutex do, and that they do nothing else; that an ordinary one keeps refusal
-- 12; and that a recursive mutex is otherwise what an ordinary one is.
use Rattle.std.specs.Prelude.{ℕ, ◌+◌, ◌-◌, ◌<◌, ◌≡◌, ◌⊎◌, Bool, false, ◌&&◌, ◌||◌, List, [], ◌∷◌, map, ltb}
use Rattle.numbers.specs.Numbers.{object}
use Rattle.calls.specs.declared.ObjNo.{ObjNo}
use Rattle.calls.specs.Door.{obj_no, obj_slot}
use Rattle.calls.specs.Behind.{asked}
use Rattle.calls.specs.Said.{says, made}
use Rattle.slots.specs.declared.Object.{Object}
use Rattle.slots.specs.Kinds.{count_in, recursive_by, held_by, kind_at}
use Rattle.rows.specs.Asking.{is}
use Rattle.rules.specs.Tables.{free_object, with_object}
use Rattle.rules.specs.Lines.{first, chosen}
use Rattle.rules.specs.Waits.{arrives}
use Rattle.rules.specs.Loans.{worked_out}
use Rattle.rules.specs.Steps.{Stepped, turned_away, step}
use Rattle.promises.specs.Types.{TaskSlot, Call, MakeMutex, MakeRecursive, Ready, Nobody, By, Sort, Ordinary, Recursive, Kind, Unused, SpentObject, Queue, Mutex, Group, waiters_of, State}
use Rattle.promises.specs.Advance.{done_with}

-- call 19; d is what the step gave
pub record MakesRecursive (k : State) (s : List ℕ) (d : Stepped) : Type 0 where
  -- as 11, "lowest free object": it is recursive and nobody's, and nothing else changes
  pub makes : let n = free_object k.objects in n < 16
      → d ≡ record { kernel = with_object k (object n) (Mutex (Recursive 0) Nobody); answer = says made (obj_no k.uses (object n)).0; store = s }
  -- "9 means no slot that may still be used"
  pub none_left : free_object k.objects ≡ 16 → d ≡ turned_away k 9 s

-- the caller has the mutex n, of this sort; a recursive one c times
abbrev pub HasOf : State → ObjNo → Sort → Type 0
HasOf k n s = kind_at k.objects (obj_slot k.uses n) ≡ Mutex s (By k.running)

abbrev pub Has : State → ObjNo → ℕ → Type 0
Has k n c = HasOf k n (Recursive c)

-- the same kernel, in which the caller has it c times
abbrev pub having : State → ObjNo → ℕ → State
having k n c = with_object k (obj_slot k.uses n) (Mutex (Recursive c) (By k.running))

-- "with a hold: .. any wait other than 0": a take that a hold does not forbid; that it forbids
abbrev pub HoldAllows : State → ℕ → Type 0
HoldAllows k w = (k.hold ≡ 0) ⊎ (w ≡ 0)

abbrev pub HoldForbids : State → ℕ → Type 0
HoldForbids k w = (0 < k.hold) × (0 < w)

-- its holder's take of a recursive one; d is what the step gave
pub record TakesAgain (k : State) (n : ObjNo) (c w : ℕ) (s : List ℕ) (d : Stepped) : Type 0 where
  -- "Its holder may take it again, up to 255 times in all": the count goes up by one, and nothing else changes
  pub again : HoldAllows k w → c < 255 → d ≡ done_with (having k n (c + 1)) s
  -- "18, count full"
  pub full : HoldAllows k w → c ≡ 255 → d ≡ turned_away k 18 s
  -- also where it would not have to wait
  pub forbidden : HoldForbids k w → d ≡ turned_away k 8 s

-- its holder's take of an ordinary one: "Ordinary mutexes keep refusal 12"
pub record KeepsTwelve (k : State) (w : ℕ) (s : List ℕ) (d : Stepped) : Type 0 where
  pub twelve : HoldAllows k w → d ≡ turned_away k 12 s
  pub forbidden : HoldForbids k w → d ≡ turned_away k 8 s

-- what an effect leads to: the effective priorities are worked out, and choose
abbrev pub ends_with : State → List ℕ → Stepped
ends_with j s = done_with (chosen (worked_out j)) s

-- its holder's give of a recursive one
pub record GivesBack (k : State) (n : ObjNo) (c : ℕ) (s : List ℕ) (d : Stepped) : Type 0 where
  -- "each give takes one off": and nothing else changes, so no wait ends and no loan
  pub less : 1 < c → d ≡ done_with (having k n (c - 1)) s
  -- "only the last hands it on, at count 1, or frees it"
  pub handed : c ≡ 1 → let o = obj_slot k.uses n in (t : TaskSlot) → first k (waiters_of o) ≡ t ∷ [] → d ≡ ends_with (with_object (arrives k t Ready 1) o (Mutex (Recursive 1) (By t))) s
  pub freed : c ≡ 1 → let o = obj_slot k.uses n in first k (waiters_of o) ≡ [] → d ≡ ends_with (with_object k o (Mutex (Recursive 0) Nobody)) s
  -- exactly the last takes it from the caller
  pub gone : c ≡ 1 → held_by k.running (kind_at d.kernel.objects (obj_slot k.uses n)) ≡ false
  pub only : held_by k.running (kind_at d.kernel.objects (obj_slot k.uses n)) ≡ false → c ≡ 1

-- ── "Everything else that is said of mutexes": an object, a kernel, and what a step gave, with every mutex ordinary
abbrev pub as_ordinary : Kind → Kind
as_ordinary Unused = Unused
as_ordinary SpentObject = SpentObject
as_ordinary (Queue q) = Queue q
as_ordinary (Mutex s h) = Mutex Ordinary h
as_ordinary (Group b) = Group b

abbrev pub ordinaries : List Object → List Object
ordinaries os = map (λ (x : Object). record { kind = as_ordinary x.kind }) os

abbrev pub all_ordinary : State → State
all_ordinary k =
    record { tasks = k.tasks; objects = ordinaries k.objects; order = k.order; running = k.running; tick = k.tick; hold = k.hold; pended = k.pended; uses = k.uses }

abbrev pub step_ordinary : Stepped → Stepped
step_ordinary d = record { kernel = all_ordinary d.kernel; answer = d.answer; store = d.store }

-- the caller takes a recursive mutex that it has, or gives it not for the last time
abbrev pub goes_by_count : State → Call → Bool
goes_by_count k c =
    let a = asked k.uses c in
    let x = kind_at k.objects a.object in
    recursive_by k.running x && (is 15 a || (is 16 a && ltb 1 (count_in x)))

-- any call but these does of a recursive mutex what it does of an ordinary one, and 19 what 11 does: the same answer, the same store, the same kernel but for the sorts
pub record AsOrdinary (k : State) (c : Call) (item s : List ℕ) (d : Stepped) : Type 0 where
  pub same : goes_by_count k c ≡ false → is 19 (asked k.uses c) ≡ false → step (all_ordinary k) c item s ≡ step_ordinary d
  pub made_so : c ≡ MakeRecursive → step (all_ordinary k) MakeMutex item s ≡ step_ordinary d
