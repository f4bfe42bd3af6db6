use Rattle.std.proofs.Common.{count_by, sym, refl, ap, ◌∙◌, subst}
use Rattle.ordered.proofs.Parkings.{count_ascending}
use Rattle.ordered.proofs.Queues.{order_same, none_bears, taken_first, poll_sound, yields_parked, polls_tasks}
use Rattle.ordered.proofs.ordered_queue.OrderedQueue.poll.Goals as goal
use Rattle.ordered.specs.Ordered.{Outcome, ascending}
use Rattle.ordered.specs.Queue.{line_of, Kept}
use Rattle.parking.specs.Bags.{bears_index}
use Rattle.tasks.specs.Orders.{index_raised}

pub poll_tasks-requires : goal.poll_tasks-requires
poll_tasks-requires g c =
    let line = line_of g.S.TaskSet g.P.Parking in
    let q = c.housekeep.new.self in
    let h = line q in
    let p = c.take.new.self in
    let e = c.in-None.ensures in
    let same = order_same h.below h.below (ascending (g.P.Parking.bag p)) h.parked (g.P.Parking.places p) h.places h.incoming h.incoming h.outgoing h.outgoing (g.P.Parking.rest p) h.beyond
    refl (ap ascending e.bag.1) e.places refl refl e.rest in
    let none = none_bears h.outgoing (ascending (g.P.Parking.bag p)) (count_ascending (bears_index h.outgoing) (g.P.Parking.bag p) ∙ ap (λ ws. count_by (bears_index h.outgoing) ws) e.bag.1 ∙ e.bag.0) in
    (subst (λ u. Kept g.S.TaskSet.below g.S.TaskSet.Inv g.S.TaskSet.labels u) (sym same) c.housekeep.ensures.sound, (c.housekeep.ensures.low, none))

pub returns-in-Some : goal.returns-in-Some
returns-in-Some g c =
    let line = line_of g.S.TaskSet g.P.Parking in
    let s = line c.args.self.now in
    let q = c.housekeep.new.self in
    let h = line q in
    let p = c.take.new.self in
    let e = c.in-Some.ensures in
    let bag = g.P.Parking.bag p in
    let first = taken_first g.S.TaskSet g.P.Parking h (g.P.Parking.bag q.queued_outputs) bag c.in-Some.output c.housekeep.ensures.sound refl c.housekeep.ensures.low e.bag in
    let to = order_same h.below h.below (ascending bag) (ascending bag) (g.P.Parking.places p) h.places h.incoming h.incoming (index_raised h.outgoing) (index_raised h.outgoing) (g.P.Parking.rest p) h.beyond
    refl refl e.places refl refl e.rest in
    let both = yields_parked g.S.TaskSet g.P.Parking s h (record { below = h.below; parked = ascending bag; places = g.P.Parking.places p; incoming = h.incoming; outgoing = index_raised h.outgoing; beyond = g.P.Parking.rest p }) c.args.post.now c.in-Some.output (ascending bag) c.housekeep.ensures.after first.0 first.1 to in
    record {
      answer = both.0;
      after = both.1;
      sound = poll_sound g.S.TaskSet g.P.Parking s _ c.args.post.now c.requires both.1;
    }

pub returns-in-None : goal.returns-in-None
returns-in-None g c =
    let line = line_of g.S.TaskSet g.P.Parking in
    let s = line c.args.self.now in
    let q = c.housekeep.new.self in
    let h = line q in
    let p = c.take.new.self in
    let e = c.in-None.ensures in
    let t = line (record { in_progress_queue = q.in_progress_queue; queued_outputs = p; next_incoming_index = q.next_incoming_index; next_outgoing_index = q.next_outgoing_index }) in
    let same = order_same h.below h.below (ascending (g.P.Parking.bag p)) h.parked (g.P.Parking.places p) h.places h.incoming h.incoming h.outgoing h.outgoing (g.P.Parking.rest p) h.beyond
    refl (ap ascending e.bag.1) e.places refl refl e.rest in
    let none = none_bears h.outgoing h.parked (count_ascending (bears_index h.outgoing) (g.P.Parking.bag q.queued_outputs) ∙ e.bag.0) in
    let is = polls_tasks g.S.TaskSet g.P.Parking s h t c.args.post.now c.housekeep.ensures.after same none in
    record {
      answer = c.poll_tasks.ensures.answer ∙ ap (λ (o : Outcome _ _ _). o.answer) (sym is);
      after = c.poll_tasks.ensures.after ∙ ap (λ (o : Outcome _ _ _). o.set) (sym is);
      sound = c.poll_tasks.ensures.sound;
    }
