use Rattle.std.proofs.Common.{◌≡◌, false, Some, None, eqb, sym, refl, ◌∙◌}
use Rattle.ordered.proofs.Queues.{order_same, parked_is, put_then, settled_parked}
use Rattle.ordered.proofs.ordered_queue.OrderedQueue.settle.Goals as goal
use Rattle.ordered.specs.Ordered.{ascending, parked_with}
use Rattle.ordered.specs.Queue.{line_of}
use Rattle.std.proofs.lemmas.Bool.{ne_eqb, cond-false}

pub returns : goal.returns
returns g c =
    let q = c.args.self.now in
    let s = line_of g.S.TaskSet g.P.Parking q in
    let p = c.put.new.self in
    let bag = g.P.Parking.bag q.queued_outputs in
    let w = c.args.output in
    let ne : eqb w.index q.next_outgoing_index ≡ false = ne_eqb w.index q.next_outgoing_index c.if-output-self.false in
    let put = c.put.ensures in
    record {
      answer = sym (cond-false (eqb w.index q.next_outgoing_index) (Some w.«data») None ne);
      after = order_same s.below s.below (ascending (g.P.Parking.bag p)) (parked_with w (ascending bag)) (g.P.Parking.places p) s.places s.incoming s.incoming s.outgoing s.outgoing (g.P.Parking.rest p) s.beyond
          refl (parked_is s.places w bag (g.P.Parking.bag p) (c.requires ne) (put_then s.places w bag c.put.result (g.P.Parking.bag p) put.bag (c.requires ne))) put.places refl refl put.rest
          ∙ sym (settled_parked s w ne);
    }
