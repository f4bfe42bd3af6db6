use Rattle.std.proofs.Common.{Some, sym, ap, ◌∙◌}
use Rattle.slots.proofs.table.poll_in.Goals as goal
use Rattle.slots.specs.Polls.{slots_after}
use Rattle.slots.specs.Table.{task_in}
use Rattle.std.proofs.lemmas.List.{set-get_or}
use Rattle.std.proofs.lemmas.Option.{slice_get-get_or}

pub returns-in-NextFree-clause-slots : goal.returns-in-NextFree-clause-slots
returns-in-NextFree-clause-slots g c =
    let slots = c.args.slots.now in
    let slot = c.index-slots-key.result in
    let none = ap task_in (slice_get-get_or slots c.args.key slot c.if-key-slots.false) ∙ ap (λ s. task_in (Some s)) c.in-NextFree.is in
    set-get_or slots c.args.key slot ∙ sym (ap (λ t. slots_after g.P.PollFn.acts c.args.post.now slots c.args.key t) none)
