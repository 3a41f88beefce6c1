use Rattle.std.proofs.Common.{◌∙◌, sym, true, false}
use Rattle.cuts.proofs.Storing.{gathers}
use Rattle.cuts.proofs.Cut.gather.Goals as goal

pub returns-then-is_some : goal.returns-then-is_some
returns-then-is_some c =
    gathers c.args.block.now c.rest-rest.result.now c.args.at _ _ _ true _ c.rest-rest.ensures c.newline-found.ensures c.unwrap_or-n.ensures c.extend.ensures (sym c.is_some.ensures ∙ c.if-is_some.true)

pub returns-else-is_some : goal.returns-else-is_some
returns-else-is_some c =
    gathers c.args.block.now c.rest-rest.result.now c.args.at _ _ _ false _ c.rest-rest.ensures c.newline-found.ensures c.unwrap_or-n.ensures c.extend.ensures (sym c.is_some.ensures ∙ c.if-is_some.false)
