use Rattle.std.proofs.Common.{sym}
use Rattle.slots.proofs.HeldParts.{kept, remove_part, same_part, removed_not}
use Rattle.slots.proofs.slot_map.PinSlotMap.remove.Goals as goal
use Rattle.slots.specs.Held.{held}
use Rattle.slots.specs.Table.{removed}

pub overflow_sub-self : goal.overflow_sub-self
overflow_sub-self g c =
    let m = c.args.self.now in
    let r = remove_part m.slots.now c.remove_in.new.slots m.part.start m.part.end m.free_head m.filled (kept m)
    c.args.key (sym c.if-remove_in.ensures.found) c.if-remove_in.ensures.slots in
    r.some

pub invariant_of-self : goal.invariant_of-self
invariant_of-self g c =
    let m = c.args.self.now in
    let r = remove_part m.slots.now c.remove_in.new.slots m.part.start m.part.end m.free_head m.filled (kept m)
    c.args.key (sym c.if-remove_in.ensures.found) c.if-remove_in.ensures.slots in
    record { starts = r.sound_then.0; within = r.sound_then.1; free_chained = r.sound_then.2; counted = r.sound_then.3 }

pub returns-then-remove_in : goal.returns-then-remove_in
returns-then-remove_in g c =
    let m = c.args.self.now in
    let r = remove_part m.slots.now c.remove_in.new.slots m.part.start m.part.end m.free_head m.filled (kept m)
    c.args.key (sym c.if-remove_in.ensures.found) c.if-remove_in.ensures.slots in
    r.held

pub invariant_of-self-else-remove_in : goal.invariant_of-self-else-remove_in
invariant_of-self-else-remove_in g c =
    let m = c.args.self.now in
    let t = (held m).table in
    let both = same_part m.slots.now c.remove_in.new.slots m.part.start m.part.end m.free_head m.filled (kept m)
    (removed t c.args.key) (removed_not t c.args.key (sym c.if-remove_in.ensures.found)) c.if-remove_in.ensures.slots in
    record { starts = both.1.0; within = both.1.1; free_chained = both.1.2; counted = both.1.3 }

pub returns-else-remove_in : goal.returns-else-remove_in
returns-else-remove_in g c =
    let m = c.args.self.now in
    let t = (held m).table in
    let both = same_part m.slots.now c.remove_in.new.slots m.part.start m.part.end m.free_head m.filled (kept m)
    (removed t c.args.key) (removed_not t c.args.key (sym c.if-remove_in.ensures.found)) c.if-remove_in.ensures.slots in
    both.0
