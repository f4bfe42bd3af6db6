use Rattle.ordered.proofs.FixedLines.{sound_of}
use Rattle.ordered.proofs.futures_ordered_bounded.FuturesOrderedBounded.wake.Goals as goal

pub wake-requires : goal.wake-requires
wake-requires g c = sound_of g.F.Future.acts c.args.self.now
