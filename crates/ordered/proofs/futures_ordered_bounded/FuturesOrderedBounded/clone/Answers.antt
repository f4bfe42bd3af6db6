use Rattle.ordered.proofs.FixedLines.{sound_of}
use Rattle.ordered.proofs.futures_ordered_bounded.FuturesOrderedBounded.clone.Goals as goal

pub clone-requires : goal.clone-requires
clone-requires g c = sound_of g.F.Future.acts c.args.self.now
