use Rattle.sets.proofs.BoundedLaws.{promises_at, wakers_at, never_again_at}
use Rattle.sets.proofs.futures_unordered_bounded.FuturesUnorderedBounded.new.Goals as goal

pub returns : goal.returns
returns g c =
    record {
      fresh = c.empty.ensures;
      promises = promises_at g.F.Future.acts g.F.Ticketed.bearing g.F.Output.Ticketed.bearing g.met.F.Future.pending_keeps_the_ticket g.met.F.Future.output_bears_the_ticket _ c.args.name c.args.slots.now c.args.records.now c.empty.ensures;
      wakers = wakers_at g.F.Future.acts g.F.Ticketed.bearing g.F.Output.Ticketed.bearing g.met.F.Future.pending_keeps_the_ticket g.met.F.Future.output_bears_the_ticket _ c.args.name c.args.slots.now c.args.records.now c.empty.ensures;
      never_again = never_again_at g.F.Future.acts g.F.Ticketed.bearing g.F.Output.Ticketed.bearing g.met.F.Future.pending_keeps_the_ticket g.met.F.Future.output_bears_the_ticket _ c.args.name c.args.slots.now c.args.records.now c.empty.ensures;
    }
