use Rattle.ordered.proofs.FixedLines.{sound_of}
use Rattle.ordered.proofs.futures_ordered_bounded.FuturesOrderedBounded.len.Goals as goal

pub len-requires : goal.len-requires
len-requires g c = sound_of g.F.Future.acts c.args.self.now
