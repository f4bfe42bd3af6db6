use Rattle.std.proofs.Common.{◌≡◌, ◌-◌, ◌≤◌}
use Rattle.sets.proofs.group.TaskGroup.take_turns.Given as goal
use Rattle.sets.specs.Ground.{ground_of, group_in, with_group}
use Rattle.sets.specs.Group.{polling}

-- what is left of the turns gives all of them, and the memory around the group stays
abbrev pub invariant-loop-turns : goal.invariant-loop-turns
invariant-loop-turns g l =
    (l.notices ≤ l.turns)
    × (ground_of l.self ≡ with_group (ground_of l.initial.self) (group_in (ground_of l.self)))
    × (polling g.P.PollFn.acts l.post (l.most - l.turns) l.notices l.turns (group_in (ground_of l.self))
    ≡ polling g.P.PollFn.acts l.post l.most 0 0 (group_in (ground_of l.initial.self)))
