-- The declared records and variants, under one name.
pub use Rattle.numbers.specs.declared.TaskSlot.{TaskSlot}
pub use Rattle.numbers.specs.declared.ObjSlot.{ObjSlot}
pub use Rattle.calls.specs.declared.TaskNo.{TaskNo}
pub use Rattle.calls.specs.declared.Call.{Call}
pub use Rattle.calls.specs.declared.Call.TheVariants.{Take, Give, Advance, MakeRecursive, MakeGroup, SetBits, ClearBits, Await}
pub use Rattle.calls.specs.declared.Answer.{Answer}
pub use Rattle.calls.specs.declared.Asked.{Asked}
pub use Rattle.slots.specs.declared.Want.{Want}
pub use Rattle.slots.specs.declared.Want.TheVariants.{Bits}
pub use Rattle.slots.specs.declared.Wait.{Wait}
pub use Rattle.slots.specs.Types.{Wake}
pub use Rattle.slots.specs.declared.Place.TheVariants.{Waiting}
pub use Rattle.slots.specs.declared.Sort.TheVariants.{Ordinary}
pub use Rattle.slots.specs.declared.Kind.{Kind}
pub use Rattle.slots.specs.declared.Kind.TheVariants.{Group}
pub use Rattle.journal.specs.declared.Read.{Read}
pub use Rattle.journal.specs.Told.{Written}
pub use Rattle.rules.specs.State.{State}
pub use Rattle.kernel.specs.declared.Kernel.{Kernel}
pub use Rattle.kernel.specs.Sleeps.{Sleep}
pub use Rattle.std.specs.declared.option.Option.TheVariants.{Some as Ticks, None as ForEver}
pub use Rattle.kernel.specs.declared.Step.{Step}
pub use Rattle.kernel.specs.declared.Session.{Session}
pub use Rattle.kernel.specs.declared.Served.{Served}
