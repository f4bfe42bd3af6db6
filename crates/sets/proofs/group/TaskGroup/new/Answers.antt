use Rattle.std.proofs.Common.{◌+◌, ◌-◌, length, sym, ap, ◌∙◌}
use Rattle.sets.proofs.group.TaskGroup.new.Goals as goal
use Rattle.slots.specs.Held as slots
use Rattle.slots.specs.declared.slot.Slot.TheVariants.{NextFree}
use Rattle.std.proofs.lemmas.List.FromFn.{length-map-range_with_len}
use Rattle.wakes.specs.Wakes as wakes

pub invariant_of-result : goal.invariant_of-result
invariant_of-result g c =
    let long = ap (λ (h : slots.Held g.row.F.Denot). length h.table.slots) c.new-tasks.ensures
    ∙ length-map-range_with_len (λ i. NextFree (i + 1)) 0 (c.args.part.end - c.args.part.start)
    ∙ sym (ap (λ (h : wakes.Held). h.places) c.new-shared.ensures) in
    record { paired = long }
