use Rattle.std.proofs.Common.{sym, ◌∙◌}
use Rattle.ordered.proofs.Parkings.{none_at}
use Rattle.ordered.proofs.Rounding.{begins, finishes, goes_on}
use Rattle.ordered.proofs.ordered_queue.OrderedQueue.poll_tasks.Goals as goal
use Rattle.ordered.specs.Queue.{line_of}

pub loop-poll-init : goal.loop-poll-init
loop-poll-init g c =
    let s = line_of g.S.TaskSet g.P.Parking c.args.self.now in
    begins g.S.TaskSet g.P.Parking c.args.post.now s c.requires.0 c.requires.1.0 (none_at s.outgoing s.parked c.requires.1.1)

pub returns-in-Some : goal.returns-in-Some
returns-in-Some g c =
    let line = line_of g.S.TaskSet g.P.Parking in
    let s = line c.args.self.now in
    let r = c.round-poll in
    let all = finishes g.S.TaskSet g.P.Parking c.args.post.now s (line c.loop-poll.self) (line r.new.self) c.loop-poll.notices c.loop-poll.turns r.result.notices r.result.turns c.in-Some.poll
    c.requires.0 (none_at s.outgoing s.parked c.requires.1.1) c.loop-poll.invariant r.ensures.notices r.ensures.turns (sym c.in-Some.is ∙ r.ensures.answer) r.ensures.after in
    record { answer = all.0; after = all.1; sound = all.2 }

pub loop-poll-smaller : goal.loop-poll-smaller
loop-poll-smaller g c =
    let line = line_of g.S.TaskSet g.P.Parking in
    let r = c.round-poll in
    (goes_on g.S.TaskSet g.P.Parking c.args.post.now (line c.args.self.now) (line c.loop-poll.self) (line r.new.self) c.loop-poll.notices c.loop-poll.turns r.result.notices r.result.turns
    c.loop-poll.invariant r.ensures.notices r.ensures.turns r.ensures.few_notices r.ensures.few_turns (sym c.in_default.is ∙ r.ensures.answer) r.ensures.after).1

pub loop-poll-preserved : goal.loop-poll-preserved
loop-poll-preserved g c =
    let line = line_of g.S.TaskSet g.P.Parking in
    let r = c.round-poll in
    (goes_on g.S.TaskSet g.P.Parking c.args.post.now (line c.args.self.now) (line c.loop-poll.self) (line r.new.self) c.loop-poll.notices c.loop-poll.turns r.result.notices r.result.turns
    c.loop-poll.invariant r.ensures.notices r.ensures.turns r.ensures.few_notices r.ensures.few_turns (sym c.in_default.is ∙ r.ensures.answer) r.ensures.after).0
