use Rattle.std.proofs.Common.{◌≡◌, length, sym, ap, ◌∙◌, inl, inr, ⊎_elim, arith, ne_eqb, eqb-true}
use Rattle.kernel.specs.Stands.{core_of}
use Rattle.kernel.proofs.Makes.{from_ten, at_most, Writes, writes_makes, writes_effect, writes_store}
use borrow.Author.Tests.{eqb-false}
use Rattle.kernel.proofs.LevelWorks.{firm_reckons}
use Rattle.kernel.proofs.RowPassed.{in_range, right_size, may_take, may_hold, may_release, may_tick, may_turn, object_slot}
use Rattle.kernel.proofs.Core.served.Goals as goal

pub overflow_cast-a : goal.overflow_cast-a
overflow_cast-a c =
    let r = in_range c.args.self.now c.requires.0 c.args.a (length c.args.item.now) (length c.args.store.now) c.requires.1 in omega (arith, r.low)

pub overflow_cast-a-in-5 : goal.overflow_cast-a-in-5
overflow_cast-a-in-5 c =
    let r = in_range c.args.self.now c.requires.0 c.args.a (length c.args.item.now) (length c.args.store.now) c.requires.1 in omega (arith, r.low)

pub hold_deeper-requires : goal.hold_deeper-requires
hold_deeper-requires c = may_hold c.args.self.now c.requires.0 c.args.a (length c.args.item.now) (length c.args.store.now) c.requires.1 c.in-8.is

pub time_passes-requires : goal.time_passes-requires
time_passes-requires c =
    let a = c.args.a in (
      λ e. may_turn c.args.self.now c.requires.0 a (length c.args.item.now) (length c.args.store.now) c.requires.1 (eqb-true a.number 18 e),
      λ e. may_release c.args.self.now c.requires.0 a (length c.args.item.now) (length c.args.store.now) c.requires.1
          (⊎_elim (λ (q : a.number ≡ 9). q) (λ (q : a.number ≡ 18). absurd (eqb-false a.number 18 e q)) c.in-9.is),
      firm_reckons c.requires.0,
    )

pub send-requires : goal.send-requires
send-requires c = (c.requires.0, right_size c.args.self.now c.requires.0 c.args.a (length c.args.item.now) (length c.args.store.now) c.requires.1 c.in-13.is)

pub take-requires : goal.take-requires
take-requires c = (c.requires.0, may_take c.args.self.now c.requires.0 c.args.a (length c.args.item.now) (length c.args.store.now) c.requires.1 c.in-15.is)

pub tick_on-requires : goal.tick_on-requires
tick_on-requires c =
    (may_tick c.args.self.now c.requires.0 c.args.a (length c.args.item.now) (length c.args.store.now) c.requires.1 c.in-17.is, firm_reckons c.requires.0)

pub make_or_remove-requires : goal.make_or_remove-requires
make_or_remove-requires c =
    let a = c.args.a in
    let r = c.in-10-to-12.in_default-own.rest in
    let W : Writes a.number = record {
      least = from_ten _ c.in-10-to-12.if-number-lt1-own.false r.0.0.0.0.0.0.0.0.0.0.0.0.0.1 r.0.0.0.0.0.0.0.0.0.0.0.0.1 r.0.0.0.0.0.0.0.0.0.0.0.1 r.0.0.0.0.0.0.0.0.0.0.1 r.0.0.0.0.0.0.0.0.0.1 r.0.0.0.0.0.0.0.0.1 r.0.0.0.0.0.0.0.1 r.0.0.0.0.0.0.1 (λ e. r.0.0.0.0.0.1 (inl e));
      most = at_most _ c.in-10-to-12.if-number-lt21-own.true;
      not_13 = r.0.0.0.0.1;
      not_14 = r.0.0.0.1;
      not_15 = r.0.0.1;
      not_16 = r.0.1;
      not_17 = r.1;
      not_18 = λ e. r.0.0.0.0.0.1 (inr e);
    } in
    let f = in_range c.args.self.now c.requires.0 a (length c.args.item.now) (length c.args.store.now) c.requires.1 in
    (λ e. object_slot a c.requires.2 (writes_makes a W e) (ne_eqb a.number 1 r.0.0.0.0.0.0.0.0.0.0.0.0.0.1), f.few, f.small)

pub returns-in-10-to-12 : goal.returns-in-10-to-12
returns-in-10-to-12 c =
    let a = c.args.a in
    let r = c.in-10-to-12.in_default-own.rest in
    let W : Writes a.number = record {
      least = from_ten _ c.in-10-to-12.if-number-lt1-own.false r.0.0.0.0.0.0.0.0.0.0.0.0.0.1 r.0.0.0.0.0.0.0.0.0.0.0.0.1 r.0.0.0.0.0.0.0.0.0.0.0.1 r.0.0.0.0.0.0.0.0.0.0.1 r.0.0.0.0.0.0.0.0.0.1 r.0.0.0.0.0.0.0.0.1 r.0.0.0.0.0.0.0.1 r.0.0.0.0.0.0.1 (λ e. r.0.0.0.0.0.1 (inl e));
      most = at_most _ c.in-10-to-12.if-number-lt21-own.true;
      not_13 = r.0.0.0.0.1;
      not_14 = r.0.0.0.1;
      not_15 = r.0.0.1;
      not_16 = r.0.1;
      not_17 = r.1;
      not_18 = λ e. r.0.0.0.0.0.1 (inr e);
    } in
    (λ s h. c.make_or_remove.ensures s h ∙ ap core_of (sym (writes_effect a W s)), λ s h. sym (writes_store a W s _ _))
