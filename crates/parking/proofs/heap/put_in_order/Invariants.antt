use Rattle.parking.proofs.heap.put_in_order.Given as goal
use Rattle.parking.specs.Heaps.{rank_at, InOrder}
use Rattle.std.specs.List.Sorted.{IsPermutation}

abbrev pub invariant-loop-i : goal.invariant-loop-i
invariant-loop-i g l = InOrder (rank_at g.T.Rank.rank l.entries) l.i × IsPermutation l.initial.entries l.entries
