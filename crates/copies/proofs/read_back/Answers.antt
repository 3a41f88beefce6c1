use Rattle.copies.proofs.Backs.{came_back}
use Rattle.copies.proofs.read_back.Goals as goal

pub returns-in-Ok : goal.returns-in-Ok
returns-in-Ok c = came_back _ _ _ _ _ _ _ c.in-Ok.is c.write_call.ensures c.read_call.ensures
