use Rattle.std.proofs.Common.{refl}
use Rattle.parking.proofs.PairsHeld.{none_has}
use Rattle.parking.proofs.rank_heap.RankHeap+OrderWrapper+O.take_ranked.Goals as goal
use Rattle.parking.specs.Held.{used}

pub returns-in_err-at-clause-taken : goal.returns-in_err-at-clause-taken
returns-in_err-at-clause-taken g c = rw c.from_residual.ensures (none_has (used c.args.self.now) c.args.index c.in_err-at.ensures, refl)
