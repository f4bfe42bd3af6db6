use Rattle.std.proofs.Common.{◌≡◌, ◌++◌, map, take, drop}
use Rattle.tasks.proofs.flip.flip_each.Given as goal

abbrev pub invariant-loop-value : goal.invariant-loop-value
invariant-loop-value g l = l.values ≡ map g.T.Flip.flipped (take l.value-index l.initial.values) ++ drop l.value-index l.initial.values
