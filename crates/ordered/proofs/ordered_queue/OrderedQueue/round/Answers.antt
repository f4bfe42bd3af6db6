use Rattle.std.proofs.Common.{sym, refl, ap, ◌∙◌}
use Rattle.ordered.proofs.Queues.{fits_round}
use Rattle.ordered.proofs.ordered_queue.OrderedQueue.round.Goals as goal
use Rattle.ordered.specs.Queue.{line_of}
use Rattle.tasks.specs.declared.poll.Poll.TheVariants.{Ready}
use Rattle.tasks.specs.declared.poll.Polled.{Polled}

pub settle-requires : goal.settle-requires
settle-requires g c = λ ne.
    let q = c.args.self.now in
    let r = c.in-Ready-Some in
    fits_round g.S.TaskSet g.P.Parking (line_of g.S.TaskSet g.P.Parking q) (g.P.Parking.bag q.queued_outputs) c.args.post.now r.output c.requires.0 refl c.requires.1
    (ap (λ (p : Polled _). p.poll) (sym c.poll-poll.ensures.answer) ∙ r.is ∙ ap (λ x. Ready x) r.field-0-is)
