use Rattle.slots.proofs.HeldParts.{kept, polled_part}
use Rattle.slots.proofs.slot_map.PinSlotMap.poll_at.Goals as goal

pub invariant_of-self : goal.invariant_of-self
invariant_of-self g c =
    let m = c.args.self.now in
    let both = polled_part m.slots.now c.poll_in.new.slots m.part.start m.part.end m.free_head m.filled (kept m)
    g.P.PollFn.acts c.args.post.now c.args.key c.poll_in.ensures.slots in
    record { starts = both.1.0; within = both.1.1; free_chained = both.1.2; counted = both.1.3 }

pub returns : goal.returns
returns g c =
    let m = c.args.self.now in
    let both = polled_part m.slots.now c.poll_in.new.slots m.part.start m.part.end m.free_head m.filled (kept m)
    g.P.PollFn.acts c.args.post.now c.args.key c.poll_in.ensures.slots in
    record { pair = c.poll_in.ensures.pair; after = both.0 }
