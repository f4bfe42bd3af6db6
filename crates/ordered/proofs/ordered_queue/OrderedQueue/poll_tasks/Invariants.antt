use Rattle.ordered.proofs.ordered_queue.OrderedQueue.poll_tasks.Given as goal
use Rattle.ordered.proofs.Rounding.{SoFar}
use Rattle.ordered.specs.Queue.{line_of}

abbrev pub invariant-loop-poll : goal.invariant-loop-poll
invariant-loop-poll g l =
    SoFar g.S.TaskSet g.P.Parking l.post
    (line_of g.S.TaskSet g.P.Parking l.initial.self)
    (line_of g.S.TaskSet g.P.Parking l.self) l.notices l.turns

abbrev pub decreases-loop-poll : goal.decreases-loop-poll
decreases-loop-poll g l = g.S.TaskSet.below.kind.number (g.S.TaskSet.model l.self.in_progress_queue) g.S.TaskSet.below.len
