use Rattle.std.proofs.Common.{◌≡◌, ℕ, List, Err, length, sym, refl, ap, ◌∙◌, subst}
use Rattle.rules.specs.Loans.{worked_out}
use Rattle.rows.specs.Applies.{number_or_0}
use Rattle.rules.specs.Refusals.{later_row}
use Rattle.kernel.specs.Types.{Kernel}
use Rattle.calls.specs.Behind.{asked}
use Rattle.calls.specs.declared.refusals.Refusal.TheVariants.{StoreLength}
use Rattle.rules.specs.Steps.{stored}
use Rattle.kernel.specs.Promises.{came, SoundSteps}
use Rattle.kernel.specs.Does.{Reads, Does}
use Rattle.kernel.proofs.LevelWorks.{nothing_to_do}
use Rattle.kernel.proofs.StepEnds.{core_stands, firm, same_row, of_call, refused, settled_after, done_so}
use Rattle.kernel.proofs.RowPassed.{wrong_length, row_of, new_of}
use Rattle.kernel.specs.Stands.{shown}
use Rattle.kernel.proofs.Kernel.step_sound.Goals as goal
use Rattle.kernel.proofs.Kernel.step_sound.Goals.{then-may_lend, else-may_lend}

pub seen-s-requires : goal.seen-s-requires
seen-s-requires c = firm c.args.self.now c.requires.0 c.requires.1

-- row 2 stands first
pub returns-in_default : goal.returns-in_default
returns-in_default c =
    let k = c.args.self.now in
    let a = asked k.uses c.args.call in
    refused k c.requires.0 c.requires.1 a c.args.item.now c.args.store.now StoreLength (wrong_length (shown k) a _ _ c.in_default.ensures.cases)

pub returns-in-Some-row : goal.returns-in-Some-row
returns-in-Some-row c =
    let asked = c.asked-a in
    let k = c.args.self.now in
    let whole = c.in-Some.ensures.cases in
    of_call k c.requires.0 c.requires.1 c.args.call _ asked.ensures c.args.item.now c.args.store.now _ _
    (subst (λ (x : List ℕ). SoundSteps k asked.result c.args.item.now c.args.store.now (came k (Err c.in-Some-row.refusal)) x) (sym whole.same)
    (refused k c.requires.0 c.requires.1 asked.result c.args.item.now c.args.store.now c.in-Some-row.refusal
    (ap number_or_0 (sym c.in-Some-row.is) ∙ c.row.ensures ∙ row_of (shown k) _ _ (c.seen-s.ensures (shown k) (core_stands k c.requires.0 c.requires.1)) _ _ whole.long)))

pub served-requires : goal.served-requires
served-requires c =
    let seen = c.seen-s in
    let k = c.args.self.now in
    let whole = c.in-Some.ensures.cases in (
      firm k c.requires.0 c.requires.1,
      same_row k c.requires.0 c.requires.1 _ _ _
          ∙ sym (ap number_or_0 (sym c.in_default-row.is) ∙ c.row.ensures ∙ row_of (shown k) _ _ (seen.ensures (shown k) (core_stands k c.requires.0 c.requires.1)) _ _ (ap length whole.same ∙ whole.long)),
      λ m s h. new_of s _ _ (seen.ensures s h) m,
    )

-- the rule's effective priorities, worked out or there already
pub returns : goal.returns
returns c =
    let asked = c.asked-a in
    let seen = c.seen-s in
    let served = c.served in
    let k = c.args.self.now in
    let whole = c.in-Some.ensures.cases in
    let no : later_row (shown k) asked.result (length c.args.item.now) (length c.args.store.now) ≡ 0 =
    sym (ap number_or_0 (sym c.in_default-row.is) ∙ c.row.ensures ∙ row_of (shown k) _ _ (seen.ensures (shown k) (core_stands k c.requires.0 c.requires.1)) _ _ whole.long) in
    let same_uses : c.if-may_lend.self.uses ≡ k.uses =
    elim c.if-may_lend.branch [
      | then-may_lend v ↦ ap (λ (x : Kernel). x.uses) v.self-is
      | else-may_lend v ↦ ap (λ (x : Kernel). x.uses) v.self-is
    ] in
    let worked : Does served.new.self worked_out c.if-may_lend.self.core =
    elim c.if-may_lend.branch [
      | then-may_lend v ↦ subst (λ (r : Kernel). Does served.new.self worked_out r.core) (sym v.self-is) v.worked_out.ensures
      | else-may_lend v ↦ subst (λ (r : Kernel). Does served.new.self worked_out r.core) (sym v.self-is) (nothing_to_do (settled_after k c.requires.0 c.requires.1 c.args.call _ asked.ensures _ _ no _ served.ensures.0
          (sym c.may_lend.ensures ∙ v.if-may_lend.false)))
    ] in
    of_call k c.requires.0 c.requires.1 c.args.call _ asked.ensures c.args.item.now c.args.store.now _ _
    (done_so k c.requires.0 c.requires.1 asked.result c.args.item.now c.args.store.now _ seen.result.new k.core.running served.new.self _ c.chosen.new.self
    _ c.answered-answer.result no (λ m s h. new_of s _ _ (seen.ensures s h) m) refl (c.give_up.ensures ∙ rw same_uses)
    served.ensures.0 (subst (λ (x : List ℕ). Reads k.core (λ e. stored e asked.result c.args.item.now x) served.new.store) whole.same served.ensures.1) c.answered-answer.ensures worked c.chosen.ensures)
