use Rattle.std.proofs.Common.{rules, false, length, get_or, ap, ◌∙◌}
use Rattle.wakes.proofs.Records.{none_flagged}
use Rattle.wakes.proofs.queue.fresh_in.Goals as goal
use Rattle.wakes.specs.Queue.{flags}

pub returns : goal.returns
returns c k =
    ap (λ rs. get_or (flags rs) k false) (c.fill.ensures.after (λ y same. search rules))
    ∙ none_flagged c.default-empty.result (length c.args.records.now) k c.default-empty.ensures.0
