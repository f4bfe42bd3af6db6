use Rattle.std.proofs.Common.{false, [], take, drop, ap, ◌∙◌}
use Rattle.std.proofs.lemmas.List.Edits.{length-between}
use Rattle.wakes.proofs.HeldParts.{change_part}
use Rattle.wakes.proofs.Steps.{nothing_waits}
use Rattle.wakes.proofs.waker_list.WakerList.new.Goals as goal
use Rattle.wakes.specs.Wakes.{Held, fresh}

pub invariant_of-result : goal.invariant_of-result
invariant_of-result c =
    let waits = nothing_waits c.fresh_in.new.records c.default.result c.default.ensures.1.1 c.fresh_in.ensures in
    let there = change_part c.args.records.now c.fresh_in.new.records c.args.part.start c.args.part.end c.default.result [] false
    c.requires.0 c.requires.1 c.fresh_in.auto.records waits.0 waits.1 in
    record { starts = there.sound.0; within = there.sound.1; queue_kept = there.sound.2 }

pub returns : goal.returns
returns c =
    let xs = c.args.records.now in
    let a = c.args.part.start in
    let e = c.args.part.end in
    let waits = nothing_waits c.fresh_in.new.records c.default.result c.default.ensures.1.1 c.fresh_in.ensures in
    let there = change_part xs c.fresh_in.new.records a e c.default.result [] false c.requires.0 c.requires.1 c.fresh_in.auto.records waits.0 waits.1 in
    there.held ∙ ap (λ n. let h : Held = record { before = take a xs; places = n; wakes = fresh; beyond = drop e xs } in h) (length-between xs a e c.requires.1)
