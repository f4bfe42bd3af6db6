use Rattle.std.proofs.Common.{◌+◌, ◌≤◌}
use Rattle.parking.proofs.heap.sift_up.Given as goal
use Rattle.parking.specs.Heaps.{rank_at, InOrder, ButAbove}
use Rattle.std.specs.List.Sorted.{IsPermutation}

abbrev pub invariant-loop-i : goal.invariant-loop-i
invariant-loop-i g l =
    (l.i ≤ l.at)
    × (InOrder (rank_at g.T.Rank.rank l.initial.entries) l.at → ButAbove (rank_at g.T.Rank.rank l.entries) (l.at + 1) l.i)
    × IsPermutation l.initial.entries l.entries

abbrev pub decreases-loop-i : goal.decreases-loop-i
decreases-loop-i g l = l.i
