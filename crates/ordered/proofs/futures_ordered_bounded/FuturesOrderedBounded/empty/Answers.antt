use Rattle.std.proofs.Common.{rules}
use Rattle.ordered.proofs.FixedLines.{fresh_line}
use Rattle.ordered.proofs.futures_ordered_bounded.FuturesOrderedBounded.empty.Goals as goal
use Rattle.ordered.specs.LinedQueue.{line_in}

pub invariant_of-result : goal.invariant_of-result
invariant_of-result g c =
    let l = fresh_line (line_in c.new.result) c.args.name c.args.slots.now c.args.records.now c.args.parking.now (search rules) in
    record { even = l.0; ends = l.1; wraps = l.2; placed = l.3 }
