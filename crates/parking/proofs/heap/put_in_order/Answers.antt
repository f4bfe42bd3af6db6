use Rattle.parking.proofs.heap.put_in_order.Goals as goal
use Rattle.std.proofs.lemmas.List.Sorted.{IsPermutation-trans}

pub loop-i-preserved : goal.loop-i-preserved
loop-i-preserved g c = (
  c.sift_up.ensures.order c.loop-i.invariant.0,
  IsPermutation-trans c.args.entries.now c.loop-i.entries c.sift_up.new.entries c.loop-i.invariant.1 c.sift_up.ensures.same,
)
