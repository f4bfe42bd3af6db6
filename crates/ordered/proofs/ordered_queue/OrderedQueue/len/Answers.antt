use Rattle.std.proofs.Common.{arith}
use Rattle.ordered.proofs.Queues.{held_few, length_ascending}
use Rattle.ordered.proofs.ordered_queue.OrderedQueue.len.Goals as goal
use Rattle.ordered.specs.Queue.{line_of}

pub returns : goal.returns
returns g c =
    let q = c.args.self.now in
    omega (arith, c.len.ensures, c.count.ensures, length_ascending (g.P.Parking.bag q.queued_outputs))

pub overflow_add-result : goal.overflow_add-result
overflow_add-result g c =
    let q = c.args.self.now in
    let few = held_few g.S.TaskSet g.P.Parking (line_of g.S.TaskSet g.P.Parking q) c.requires in
    omega (arith, few.0, few.1, c.len.ensures, c.count.ensures, length_ascending (g.P.Parking.bag q.queued_outputs))
