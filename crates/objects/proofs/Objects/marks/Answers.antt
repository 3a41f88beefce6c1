use Rattle.std.proofs.Common.{◌≡◌, ◌∙◌, sym, replicate}
use Rattle.std.specs.Cmp.Lexicographic.{same_text}
use Rattle.objects.proofs.Fines.{marks_are, none_marked}
use Rattle.objects.proofs.Objects.marks.Goals as goal

pub returns-then-eq : goal.returns-then-eq
returns-then-eq c =
    let none : c.holders-by.result ≡ replicate 16 16 = same_text c.holders-by.result (replicate 16 16) c.if-eq.ensures in
    record { marks = sym none_marked ∙ (rw (← none) (marks_are c.args.self c.holders-by.result c.holders-by.ensures.said)); by = c.holders-by.ensures.said }

pub returns-else-eq : goal.returns-else-eq
returns-else-eq c = record { marks = c.marked-held.ensures ∙ marks_are c.args.self c.holders-by.result c.holders-by.ensures.said; by = c.holders-by.ensures.said }
