use Rattle.ordered.proofs.FixedLines.{sound_of}
use Rattle.ordered.proofs.futures_ordered_bounded.FuturesOrderedBounded.drop.Goals as goal

pub drop-requires : goal.drop-requires
drop-requires g c = sound_of g.F.Future.acts c.args.self.now
