use Rattle.std.proofs.Common.{ap, arith}
use Rattle.ordered.proofs.bounded_tasks.FuturesUnorderedBoundedOrderWrapperTaskSet.poll.Goals as goal
use Rattle.sets.proofs.Polling.{polled_few}
use Rattle.sets.specs.BoundedSet.{set_of}
use Rattle.tasks.specs.Kinds.{wrapped_acts}
use Rattle.tasks.specs.declared.poll.Polled.{Polled}

pub returns : goal.returns
returns g c =
    let few = polled_few (wrapped_acts g.F.Future.acts) c.args.post.now (set_of c.args.self.now).group in
    let e = c.poll.ensures.answer in
    record {
      answer = e;
      after = c.poll.ensures.after;
      few_notices = omega (arith, few.0, ap (λ (p : Polled _). p.notices) e);
      few_turns = omega (arith, few.1, ap (λ (p : Polled _). p.turns) e);
    }
