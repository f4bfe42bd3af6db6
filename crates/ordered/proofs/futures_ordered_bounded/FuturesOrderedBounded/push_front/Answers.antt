use Rattle.ordered.proofs.FixedLines.{sound_of, even_of, ends_of, wraps_of, placed_of}
use Rattle.ordered.proofs.futures_ordered_bounded.FuturesOrderedBounded.push_front.Goals as goal

pub push_front-requires : goal.push_front-requires
push_front-requires g c = sound_of g.F.Future.acts c.args.self.now

pub invariant_of-self : goal.invariant_of-self
invariant_of-self g c =
    let acts = g.F.Future.acts in
    let k = c.push_front.ensures.sound in
    record { even = even_of acts _ k; ends = ends_of acts _ k; wraps = wraps_of acts _ k; placed = placed_of acts _ k }
