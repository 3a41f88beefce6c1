-- The declared records and variants, under one name.
pub use Rattle.calls.specs.declared.TaskNo.{TaskNo}
pub use Rattle.calls.specs.declared.ObjNo.{ObjNo}
pub use Rattle.numbers.specs.declared.TaskSlot.{TaskSlot}
pub use Rattle.numbers.specs.declared.ObjSlot.{ObjSlot}
pub use Rattle.calls.specs.declared.Call.{Call}
pub use Rattle.calls.specs.declared.Call.TheVariants.{Create, Delete, Suspend, Resume, SetPriority, Delay, Yield, Hold, Release}
pub use Rattle.calls.specs.declared.Call.TheVariants.{MakeQueue, MakeMutex, Remove, Send, Receive, Take, Give, Tick, Advance, MakeRecursive, MakeGroup, SetBits, ClearBits, Await}
pub use Rattle.slots.specs.Types.{Wake}
pub use Rattle.slots.specs.declared.Want.{Want}
pub use Rattle.slots.specs.declared.Want.TheVariants.{OwnTurn}
pub use Rattle.slots.specs.declared.Place.{Place}
pub use Rattle.slots.specs.declared.Place.TheVariants.{Free, Ready, Delayed, Waiting, Suspended, Spent}
pub use Rattle.slots.specs.declared.Task.{Task}
pub use Rattle.slots.specs.declared.Ring.{Ring}
pub use Rattle.slots.specs.Types.{Holder, Nobody, By}
pub use Rattle.slots.specs.declared.Sort.{Sort}
pub use Rattle.slots.specs.declared.Sort.TheVariants.{Ordinary, Recursive}
pub use Rattle.slots.specs.declared.Kind.{Kind}
pub use Rattle.slots.specs.declared.Kind.TheVariants.{Unused, Spent as SpentObject, Queue, Mutex, Group}
pub use Rattle.slots.specs.declared.Object.{Object}
pub use Rattle.slots.specs.Who.{all_ready, waiters_of}
pub use Rattle.rules.specs.State.{State}
