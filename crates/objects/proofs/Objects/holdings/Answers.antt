use borrow.Author.Rules.{rules}
use Rattle.objects.proofs.Columns.{Full, rows_many}
use Rattle.objects.proofs.Fines.{waits_is, fine_canonical}
use Rattle.objects.proofs.WayBack.{objects_back}
use mathlib.Core.Path.{sym, ◌∙◌}
use Rattle.objects.proofs.Objects.holdings.Goals as goal

pub returns : goal.returns
returns c =
    let marks = c.marks in
    let os = c.args.self in
    let f : Full os = search (c.well_formed.0.1.1.1.1.1, c.well_formed, rules) in
    record {
      many = rows_many os ∙ f.states;
      marks = marks.ensures.marks;
      by = marks.ensures.by;
      waited = λ t n l. waits_is os t n c.opens-open.ensures c.takes-taken.ensures l;
      said = c.rows_fine-fine.ensures;
      whole = λ h. sym (objects_back os f (fine_canonical os (sym c.rows_fine-fine.ensures ∙ h)));
    }
