use borrow.Author.Rules.{rules}
use Rattle.objects.proofs.Columns.{Full, rows_many}
use Rattle.objects.proofs.Fines.{holders_done}
use mathlib.Core.Path.{◌∙◌}
use Rattle.objects.proofs.Objects.holders.Goals as goal

pub returns : goal.returns
returns c =
    let os = c.args.self in
    let f : Full os = search rules in
    record { many = rows_many os ∙ f.states; said = holders_done os f c.loop-i.invariant (search rules) }
