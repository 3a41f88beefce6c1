-- Event groups: what a set comes to, where waiters stand, and what names no group.
use Rattle.std.specs.Prelude.{ℕ, ◌≤◌, ◌≡◌, Bool, false, List}
use Rattle.calls.specs.declared.ObjNo.{ObjNo}
use Rattle.calls.specs.Door.{obj_slot}
use Rattle.calls.specs.Said.{says, done}
use Rattle.slots.specs.Values.{task_at}
use Rattle.slots.specs.Kinds.{is_group, kind_at}
use Rattle.slots.specs.Wants.{all_bits, holds_of}
use Rattle.rules.specs.Lines.{chosen}
use Rattle.rules.specs.Steps.{Stepped}
use Rattle.promises.specs.EventGroups.{SetWakes, SetTells, Accepts}
use Rattle.claims.specs.Types.{TaskSlot, ObjSlot, Call, SetBits, ClearBits, Await, Want, Bits, Wait, Wake, Waiting, Group, State}

-- a set, as a whole step: k is the kernel before it, o the group, b its bits with those of the call joined in, and s the store
pub record SetComesTo (k : State) (o : ObjSlot) (b : ℕ) (s : List ℕ) (d : Stepped) : Type 0 where
  -- the wakes and the clears lead to this kernel, and choose to who then runs
  pub next : State
  pub wakes : SetWakes k o b next
  pub kernel : d.kernel ≡ chosen next
  pub answer : d.answer ≡ says done 0
  -- the slips
  pub tells : SetTells k o b s d.store

-- whoever wants this stands rightly where the bits are b
pub record Unsatisfied (b : ℕ) (x : Want) : Type 0 where
  -- "with a mask and flags that the call accepts": a flag is 0 or 1, which is false or true here
  pub mask : ℕ
  pub all : Bool
  pub clear : Bool
  pub wants : x ≡ Bits mask all clear
  pub some : 1 ≤ mask
  pub few : mask ≤ all_bits
  -- "only where unsatisfied"
  pub not_met : holds_of b mask all ≡ false

-- "Waiters stand only where unsatisfied": on a group; and nobody waits for bits elsewhere
pub record StandUnsatisfied (k : State) : Type 0 where
  pub on_groups : (t : TaskSlot) (y : Wait) (w : Wake) (b : ℕ) → (task_at k.tasks t).place ≡ Waiting y w → kind_at k.objects y.object ≡ Group b → Unsatisfied b y.want
  pub nowhere_else : (t : TaskSlot) (y : Wait) (w : Wake) (m : ℕ) (all clear : Bool) → (task_at k.tasks t).place ≡ Waiting y w → y.want ≡ Bits m all clear
      → (b : ℕ) × (kind_at k.objects y.object ≡ Group b)

-- n names no group: no object, or one of another kind
abbrev pub NoGroup : State → ObjNo → Type 0
NoGroup k n = is_group (kind_at k.objects (obj_slot k.uses n)) ≡ false

-- a call on n as on a group, with bits, a mask and flags in range
pub data OnGroup (n : ObjNo) : Call → Type 0 where
  a_set : {m : ℕ} → m ≤ all_bits → OnGroup n (SetBits n m)
  a_clear : {m : ℕ} → m ≤ all_bits → OnGroup n (ClearBits n m)
  a_wait : {m all clear w : ℕ} → Accepts m all clear → OnGroup n (Await n m all clear w)
