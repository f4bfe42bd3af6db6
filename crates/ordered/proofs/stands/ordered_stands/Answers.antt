use Rattle.ordered.proofs.BoundedLines.{ordered_stand}
use Rattle.ordered.proofs.stands.ordered_stands.Goals as goal

pub returns : goal.returns
returns g c =
    ordered_stand g.F.Future.acts g.F.Ticketed.bearing g.F.Output.Ticketed.bearing g.met.F.Future.pending_keeps_the_ticket g.met.F.Future.output_bears_the_ticket
