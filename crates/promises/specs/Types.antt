-- The declared records and variants, under one name.
pub use Rattle.numbers.specs.declared.TaskSlot.{TaskSlot}
pub use Rattle.numbers.specs.declared.ObjSlot.{ObjSlot}
pub use Rattle.calls.specs.declared.Call.{Call}
pub use Rattle.calls.specs.declared.Call.TheVariants.{Create, Delete, Suspend, Resume, SetPriority, Delay, Yield, Hold, Release}
pub use Rattle.calls.specs.declared.Call.TheVariants.{MakeQueue, MakeMutex, Remove, Send, Receive, Take, Give, Tick, Advance, MakeRecursive, MakeGroup, SetBits, ClearBits, Await}
pub use Rattle.calls.specs.declared.Asked.{Asked}
pub use Rattle.slots.specs.declared.Want.{Want}
pub use Rattle.slots.specs.declared.Want.TheVariants.{OwnTurn, Bits}
pub use Rattle.slots.specs.declared.Wait.{Wait}
pub use Rattle.slots.specs.Types.{Wake}
pub use Rattle.slots.specs.Types.{Never}
pub use Rattle.slots.specs.declared.Place.{Place}
pub use Rattle.slots.specs.declared.Place.TheVariants.{Free, Ready, Delayed, Waiting, Suspended, Spent}
pub use Rattle.slots.specs.declared.Task.{Task}
pub use Rattle.slots.specs.Types.{Holder, Nobody, By}
pub use Rattle.slots.specs.declared.Sort.{Sort}
pub use Rattle.slots.specs.declared.Sort.TheVariants.{Ordinary, Recursive}
pub use Rattle.slots.specs.declared.Kind.{Kind}
pub use Rattle.slots.specs.declared.Kind.TheVariants.{Unused, Spent as SpentObject, Queue, Mutex, Group}
pub use Rattle.slots.specs.Who.{all_ready, waiters_of, those_satisfied_on}
pub use Rattle.rules.specs.State.{State}
