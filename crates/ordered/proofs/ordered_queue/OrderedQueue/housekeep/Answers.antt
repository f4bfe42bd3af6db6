use Rattle.std.proofs.Common.{refl, ap, ◌∙◌}
use Rattle.ordered.proofs.Queues.{flips, housekept_is, order_same}
use Rattle.ordered.proofs.ordered_queue.OrderedQueue.housekeep.Goals as goal
use Rattle.ordered.specs.Ordered.{ascending}
use Rattle.ordered.specs.Queue.{line_of}
use Rattle.tasks.specs.Orders.{index_flipped, top_bit}

pub unwrap-requires : goal.unwrap-requires
unwrap-requires g c =
    let q = c.args.self.now in
    flips g.S.TaskSet g.P.Parking (line_of g.S.TaskSet g.P.Parking q) (g.P.Parking.bag q.queued_outputs) c.requires refl c.if-self-ge-MSB.true c.flip.result _ c.flip.ensures.bag

pub returns-then-self-ge-MSB : goal.returns-then-self-ge-MSB
returns-then-self-ge-MSB g c =
    let line = line_of g.S.TaskSet g.P.Parking in
    let q = c.args.self.now in
    let s = line q in
    let p = c.flip.new.self in
    let flat = g.P.Parking.bag p in
    let after = line (record { in_progress_queue = c.flip-then-self-ge-MSB.new.self; queued_outputs = p; next_incoming_index = c.flip-self-then-self-ge-MSB.result; next_outgoing_index = c.flip-self.result }) in
    let to = order_same (g.S.TaskSet.model c.flip-then-self-ge-MSB.new.self) (g.S.TaskSet.below.flipped s.below) (ascending flat) (ascending flat) (g.P.Parking.places p) s.places c.flip-self-then-self-ge-MSB.result (index_flipped s.incoming) c.flip-self.result (index_flipped s.outgoing) (g.P.Parking.rest p) s.beyond
    c.flip-then-self-ge-MSB.ensures refl c.flip.ensures.places c.flip-self-then-self-ge-MSB.ensures c.flip-self.ensures c.flip.ensures.rest in
    let all = housekept_is g.S.TaskSet g.P.Parking s (g.P.Parking.bag q.queued_outputs) c.requires refl c.if-self-ge-MSB.true c.flip.result flat after c.flip.ensures.bag to in
    record { after = all.0; sound = all.1; low = ap top_bit c.flip-self.ensures ∙ all.2 }
