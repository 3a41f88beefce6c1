-- "Do not let two tasks wait on each other": a take is refused 17 exactly if accepting it would have made a circle, and every chain of waits ends.
use Rattle.std.specs.Prelude.{ℕ, ◌<◌, ◌≡◌, true, List, [], ◌∷◌, eqb, if◌then◌else◌}
use Rattle.calls.specs.declared.ObjNo.{ObjNo}
use Rattle.calls.specs.Door.{obj_slot}
use Rattle.calls.specs.Behind.{asked}
use Rattle.calls.specs.Said.{Saying, says, refused}
use Rattle.slots.specs.Values.{task_at}
use Rattle.slots.specs.Kinds.{is_mutex, kind_at}
use Rattle.rows.specs.Applies.{Row}
use Rattle.rules.specs.Types.{Wake, Wait, Waiting}
use Rattle.rules.specs.Sentences.{Holds, Exists, Reaches, Circle, SoundBy}
use Rattle.rules.specs.Steps.{accepted}
use Rattle.promises.specs.Types.{TaskSlot, Call, Take, State}
use Rattle.promises.specs.TurnedAway.{None}

-- "the chain from that mutex's holder, through mutexes being waited on, leads back to the caller": over any number of links, from another than the caller, since of a recursive
-- mutex "its holder's take is no circle", and of an ordinary one 12 is told
pub record ChainBack (k : State) (n : ObjNo) : Type 0 where
  pub holder : TaskSlot
  pub holds : Holds k.objects holder (obj_slot k.uses n)
  pub another : holder.0 ≡ k.running.0 → ⊥
  pub back : Reaches k.tasks k.objects holder k.running

-- what a call would have led to, had no row turned it away
abbrev pub accepting : State → Call → State
accepting k c = (accepted k (asked k.uses c) [] []).kernel

-- the task t is on a circle then
abbrev pub ClosedIn : State → Call → TaskSlot → Type 0
ClosedIn k c t = Circle (accepting k c).tasks (accepting k c).objects t

-- with whatever wait, accepting the take would have put the caller on a circle; and where the caller may wait, the kernel would not have been sound for just that reason
pub record WouldClose (k : State) (n : ObjNo) : Type 0 where
  pub closed : (w : ℕ) → ClosedIn k (Take n w) k.running
  pub but_for_it : k.hold ≡ 0 → (w : ℕ) → 0 < w → SoundBy (λ ts os. Circle ts os k.running) (accepting k (Take n w))

-- the rows that stand before the row n
unfoldable pub rows_before : ℕ → List Row → List Row
rows_before n [] = []
rows_before n (r ∷ rs) = if eqb r.number n then [] else r ∷ rows_before n rs

-- "Turn down a take, of any wait, exactly if": refused 17, no row before 17 applies, the chain leads back, and accepting it would have closed a circle; and where no row before 17
-- applies, and the chain leads back or accepting it would have put anybody on a circle, it is refused 17
pub record CirclesExactly (k : State) (n : ObjNo) (rows : List Row) (answer : Saying) : Type 0 where
  pub none_before : answer ≡ says refused 17 → None (rows_before 17 rows)
  pub chain : answer ≡ says refused 17 → ChainBack k n
  pub would_close : answer ≡ says refused 17 → WouldClose k n
  pub given : None (rows_before 17 rows) → ChainBack k n → answer ≡ says refused 17
  pub given_if_closed : None (rows_before 17 rows) → (w : ℕ) (t : TaskSlot) → ClosedIn k (Take n w) t → answer ≡ says refused 17

-- the chain of waits from t ends at a task that is there and waits on no mutex
pub record ChainEnds (k : State) (t : TaskSlot) : Type 0 where
  pub last : TaskSlot
  pub reaches : Reaches k.tasks k.objects t last
  pub there : Exists k.tasks last
  pub no_mutex : (y : Wait) (w : Wake) → (task_at k.tasks last).place ≡ Waiting y w → is_mutex (kind_at k.objects y.object) ≡ true → ⊥
