use Rattle.std.proofs.Common.{◌≡◌, ◌+◌, ◌≤◌, Some, None, Option, sym, refl, ap, ◌∙◌, arith}
use Rattle.sets.proofs.Polling.{ends, finds, goes_on, runs_out, turn_few}
use Rattle.sets.proofs.group.TaskGroup.take_turns.Goals as goal
use Rattle.sets.specs.Ground.{ground_of, group_in}
use Rattle.sets.specs.declared.turn.Found.{Found}
use Rattle.sets.specs.declared.turn.Turn.{Turn}
use Rattle.tasks.specs.declared.poll.Poll.TheVariants.{Ready, Pending}
use Rattle.tasks.specs.declared.poll.Polled.{Polled}

pub returns-in_default : goal.returns-in_default
returns-in_default g c =
    let both = ends g.P.PollFn.acts c.args.post.now (ground_of c.args.self.now) (ground_of c.loop-turns.self) c.args.most c.loop-turns.notices c.loop-turns.turns
    c.loop-turns.invariant.1 c.loop-turns.invariant.2
    (ground_of c.turn.new.self) None (record { poll = Pending; notices = c.loop-turns.notices; turns = c.loop-turns.turns })
    c.loop-turns-test.true c.in_default.ensures.answer c.in_default.ensures.after refl in
    record { answer = both.0; after = both.1 }

pub returns-in-Some-found : goal.returns-in-Some-found
returns-in-Some-found g c =
    let both = finds g.P.PollFn.acts c.args.post.now (ground_of c.args.self.now) (ground_of c.loop-turns.self) c.args.most c.loop-turns.notices c.loop-turns.turns
    c.loop-turns.invariant.1 c.loop-turns.invariant.2
    (ground_of c.turn.new.self) c.in-Some.turn c.in-Some-found.found
    c.loop-turns-test.true c.in-Some-found.is c.in-Some.ensures.answer c.in-Some.ensures.after in
    record {
      answer = ap (λ f. let a : Polled (Option (Found g.row.P-Answer.Denot)) = record { poll = Ready (Some f); notices = c.loop-turns.notices + c.in-Some.turn.notices; turns = c.loop-turns.turns + 1 } in a) c.in-Some-found.found-is
          ∙ both.0;
      after = both.1;
    }

pub loop-turns-preserved : goal.loop-turns-preserved
loop-turns-preserved g c =
    let t : Turn g.row.P-Answer.Denot = c.in-Some.turn in
    let both = goes_on g.P.PollFn.acts c.args.post.now (ground_of c.args.self.now) (ground_of c.loop-turns.self) c.args.most c.loop-turns.notices c.loop-turns.turns
    c.loop-turns.invariant.1 c.loop-turns.invariant.2
    (ground_of c.turn.new.self) t.notices c.loop-turns-test.true
    (ap (λ o. let u : Turn g.row.P-Answer.Denot = record { notices = t.notices; found = o } in Some u) (sym c.in_default-found.is) ∙ c.in-Some.ensures.answer) c.in-Some.ensures.after in
    let few : t.notices ≤ 1 = turn_few g.P.PollFn.acts c.args.post.now (group_in (ground_of c.loop-turns.self)) (Some t) c.in-Some.ensures.answer in
    (omega (arith, few, c.loop-turns.invariant.0), both.0, both.1)

pub returns : goal.returns
returns g c =
    let all : c.loop-turns.turns ≡ c.args.most = omega arith in
    let both = runs_out g.P.PollFn.acts c.args.post.now (ground_of c.args.self.now) (ground_of c.loop-turns.self) c.args.most c.loop-turns.notices c.loop-turns.turns
    c.loop-turns.invariant.1 c.loop-turns.invariant.2 all in
    record {
      answer = ap (λ k. let a : Polled (Option (Found g.row.P-Answer.Denot)) = record { poll = Pending; notices = c.loop-turns.notices + 1; turns = k } in a) (sym all) ∙ both.0;
      after = both.1;
    }
