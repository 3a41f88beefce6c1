-- The records and variants that the rows speak of, under one name.
pub use Rattle.calls.specs.declared.Names.{Names}
pub use Rattle.calls.specs.declared.Names.TheVariants.{Nothing, Task as ATask, Object as AnObject, Queue as AQueue, Mutex as AMutex, Group as AGroup}
pub use Rattle.calls.specs.declared.Asked.{Asked}
pub use Rattle.slots.specs.declared.Kind.{Kind}
pub use Rattle.slots.specs.declared.Kind.TheVariants.{Unused, Spent as SpentObject, Queue, Mutex, Group}
pub use Rattle.rows.specs.declared.Seen.{Seen}
