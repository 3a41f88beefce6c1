-- The code's own records and variants, under one name.
pub use Rattle.cuts.specs.declared.Cut.{Cut}
pub use Rattle.calls.specs.declared.Uses.{Uses}
pub use Rattle.kernel.specs.declared.Core.{Core}
pub use Rattle.kernel.specs.declared.Kernel.{Kernel}
pub use Rattle.kernel.specs.Sleeps.{Sleep}
pub use Rattle.std.specs.declared.option.Option.TheVariants.{Some as Ticks, None as ForEver}
pub use Rattle.kernel.specs.declared.Step.{Step}
pub use Rattle.kernel.specs.declared.Outlet.{Outlet}
pub use Rattle.kernel.specs.declared.Outlet.TheVariants.{Waiter, Ring as InRing, Caller}
pub use Rattle.kernel.specs.declared.Session.{Session}
pub use Rattle.kernel.specs.declared.Served.{Served}
