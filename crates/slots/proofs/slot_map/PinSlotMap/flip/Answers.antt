use Rattle.slots.proofs.HeldParts.{kept, flipped_part}
use Rattle.slots.proofs.slot_map.PinSlotMap.flip.Goals as goal

pub invariant_of-self : goal.invariant_of-self
invariant_of-self g c =
    let m = c.args.self.now in
    let both = flipped_part m.slots.now c.flip_each.new.values m.part.start m.part.end m.free_head m.filled (kept m) g.F.Flip.flipped c.flip_each.ensures in
    record { starts = both.1.0; within = both.1.1; free_chained = both.1.2; counted = both.1.3 }

pub returns : goal.returns
returns g c =
    let m = c.args.self.now in
    let both = flipped_part m.slots.now c.flip_each.new.values m.part.start m.part.end m.free_head m.filled (kept m) g.F.Flip.flipped c.flip_each.ensures in
    both.0
