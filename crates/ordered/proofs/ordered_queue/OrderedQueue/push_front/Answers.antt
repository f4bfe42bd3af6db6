use Rattle.std.proofs.Common.{◌≡◌, Err, refl, ap, rules}
use Rattle.ordered.proofs.Queues.{handed_back, pushed_as}
use Rattle.ordered.proofs.ordered_queue.OrderedQueue.push_front.Goals as goal
use Rattle.ordered.specs.Ordered.{Ordered, front}
use Rattle.ordered.specs.Queue.{line_of}
use Rattle.tasks.specs.Orders.{index_lowered}

pub returns-in_err-address-clause-pushed : goal.returns-in_err-address-clause-pushed
returns-in_err-address-clause-pushed g c =
    let line = line_of g.S.TaskSet g.P.Parking in
    let possible = g.P.Parking.secures c.args.self.now.queued_outputs in
    let r = c.in_err-address.field-0.0 in
    let is : c.from_residual.result ≡ Err r = search rules in
    rw is (handed_back g.S.TaskSet g.P.Parking (line c.args.self.now) (line c.push.new.self) front (record { «data» = c.args.task; index = index_lowered c.args.self.now.next_outgoing_index }) r possible c.in_err-address.ensures c.requires).0

pub returns-clause-sound : goal.returns-clause-sound
returns-clause-sound g c =
    let line = line_of g.S.TaskSet g.P.Parking in
    (pushed_as g.S.TaskSet g.P.Parking (line c.args.self.now) (line c.push.new.self) front c.args.task c.in_ok-address.address c.push.new.self.next_incoming_index (index_lowered c.args.self.now.next_outgoing_index) (g.P.Parking.secures c.args.self.now.queued_outputs) c.in_ok-address.ensures c.requires (ap (λ (u : Ordered _ _ _). u.incoming) c.in_ok-address.ensures.2) refl).1
