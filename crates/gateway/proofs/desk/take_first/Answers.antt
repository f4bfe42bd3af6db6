use Rattle.std.proofs.Common.{rules}
use Rattle.std.proofs.iter.runs.Made.{chains}
use Rattle.gateway.proofs.desk.take_first.Goals as goal

pub returns : goal.returns
returns g c = search (rules, chains)
