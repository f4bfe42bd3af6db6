use Rattle.ordered.proofs.BoundedLines.{promises_at, wakers_at, deque_at, indices_at}
use Rattle.ordered.proofs.futures_ordered_bounded.FuturesOrderedBounded.new.Goals as goal

pub returns : goal.returns
returns g c =
    let keeps = g.met.F.Future.pending_keeps_the_ticket in
    let gives = g.met.F.Future.output_bears_the_ticket in
    record {
      fresh = c.empty.ensures;
      promises = promises_at g.F.Future.acts g.F.Ticketed.bearing g.F.Output.Ticketed.bearing keeps gives _ c.args.name c.args.slots.now c.args.records.now c.args.parking.now c.empty.ensures;
      wakers = wakers_at g.F.Future.acts g.F.Ticketed.bearing g.F.Output.Ticketed.bearing keeps gives _ c.args.name c.args.slots.now c.args.records.now c.args.parking.now c.empty.ensures;
      deque = deque_at g.F.Future.acts g.F.Ticketed.bearing g.F.Output.Ticketed.bearing keeps gives _ c.args.name c.args.slots.now c.args.records.now c.args.parking.now c.empty.ensures;
      in_a_run = indices_at g.F.Future.acts g.F.Ticketed.bearing g.F.Output.Ticketed.bearing keeps gives _ c.args.name c.args.slots.now c.args.records.now c.args.parking.now c.empty.ensures;
    }
