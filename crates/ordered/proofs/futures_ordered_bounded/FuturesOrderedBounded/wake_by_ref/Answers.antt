use Rattle.ordered.proofs.FixedLines.{sound_of}
use Rattle.ordered.proofs.futures_ordered_bounded.FuturesOrderedBounded.wake_by_ref.Goals as goal

pub wake_by_ref-requires : goal.wake_by_ref-requires
wake_by_ref-requires g c = sound_of g.F.Future.acts c.args.self.now
