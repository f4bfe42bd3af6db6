use Rattle.std.proofs.Common.{◌≡◌, ◌-◌, take, drop, ap, ◌∙◌}
use Rattle.slots.proofs.HeldParts.{fresh_part}
use Rattle.slots.proofs.slot_map.PinSlotMap.new.Goals as goal
use Rattle.slots.specs.Held.{Held}
use Rattle.slots.specs.Table.{fresh_slots}
use Rattle.std.proofs.lemmas.List.Edits.{length-between}

pub invariant_of-result : goal.invariant_of-result
invariant_of-result g c =
    let there = fresh_part c.args.slots.now c.fresh_in.new.slots c.args.part.start c.args.part.end c.requires.0 c.requires.1 c.fresh_in.ensures in
    record { starts = there.sound.0; within = there.sound.1; free_chained = there.sound.2; counted = there.sound.3 }

pub returns : goal.returns
returns g c =
    let xs = c.args.slots.now in
    let a = c.args.part.start in
    let e = c.args.part.end in
    let there = fresh_part xs c.fresh_in.new.slots a e c.requires.0 c.requires.1 c.fresh_in.ensures in
    let is : c.fresh_in.new.slots ≡ fresh_slots (e - a) = c.fresh_in.ensures ∙ ap (λ n. fresh_slots n) (length-between xs a e c.requires.1) in
    there.held ∙ ap (λ ss. let h : Held g.row.F.Denot = record { before = take a xs; table = record { slots = ss; head = 0 }; beyond = drop e xs } in h) is
