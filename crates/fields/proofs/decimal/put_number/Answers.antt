use Rattle.fields.proofs.Digits.{dec_small}
use Rattle.fields.proofs.decimal.put_number.Goals as goal

pub returns-then-n-lt10 : goal.returns-then-n-lt10
returns-then-n-lt10 c = rw (dec_small _ c.if-n-lt10.true) c.put.ensures
