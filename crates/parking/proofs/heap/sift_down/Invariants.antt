use Rattle.std.proofs.Common.{◌-◌, length}
use Rattle.parking.proofs.heap.sift_down.Given as goal
use Rattle.parking.specs.Heaps.{rank_at, ButBelow}
use Rattle.std.specs.List.Sorted.{IsPermutation}

abbrev pub invariant-loop-i : goal.invariant-loop-i
invariant-loop-i g l =
    (ButBelow (rank_at g.T.Rank.rank l.initial.entries) (length l.initial.entries) 0 → ButBelow (rank_at g.T.Rank.rank l.entries) (length l.entries) l.i)
    × IsPermutation l.initial.entries l.entries

abbrev pub decreases-loop-i : goal.decreases-loop-i
decreases-loop-i g l = length l.initial.entries - l.i
