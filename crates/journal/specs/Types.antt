-- The declared records and variants, under one name.
pub use Rattle.calls.specs.declared.TaskNo.{TaskNo}
pub use Rattle.calls.specs.declared.Call.{Call}
pub use Rattle.calls.specs.declared.Answer.{Answer}
pub use Rattle.fields.specs.declared.Number.{Number}
pub use Rattle.fields.specs.declared.Item.{Item}
pub use Rattle.journal.specs.declared.Read.{Read}
pub use Rattle.calls.specs.Shapes.{Shape}
pub use Rattle.calls.specs.declared.Frame.{Frame}
pub use Rattle.calls.specs.declared.refusals.Refusal.{Refusal}
pub use Rattle.calls.specs.declared.refusals.Refusal.TheVariants.{StoreLength, NoCall, WrongSize}
