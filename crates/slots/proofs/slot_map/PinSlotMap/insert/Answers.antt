use Rattle.std.proofs.Common.{◌≡◌, ◌<◌, ◌≤◌, true, length, sym, ap, subst, arith}
use Rattle.std.specs.List.{between}
use Rattle.slots.proofs.HeldParts.{kept, inserted_full, past_full, insert_part}
use Rattle.slots.proofs.slot_map.PinSlotMap.insert.Goals as goal
use Rattle.slots.specs.Held.{held, with_table}
use Rattle.slots.specs.Table.{full}
use Rattle.std.proofs.lemmas.List.Edits.{length-between}
use Rattle.std.proofs.lemmas.Bool.{cond-true, cond-false}

pub returns-then-key-len : goal.returns-then-key-len
returns-then-key-len g c =
    let m = c.args.self.now in
    let slots = between m.part.start m.part.end m.slots.now in
    let past : length slots ≤ m.free_head = omega (arith, length-between m.slots.now m.part.start m.part.end m.within) in
    let all : full slots ≡ true = past_full slots m.free_head c.args.task m.free_chained past in
    record {
      answer = sym (cond-true (full slots) _ _ all);
      after = ap (λ t. with_table (held m) t) (sym (inserted_full (held m).table c.args.task all));
      within = tt;
    }

pub overflow_add-self : goal.overflow_add-self
overflow_add-self g c =
    let m = c.args.self.now in
    let i = insert_part m.slots.now c.insert_in-next_free.new.slots m.part.start m.part.end m.free_head m.filled (kept m)
    c.insert_in-next_free.result c.args.task (omega arith) c.insert_in-next_free.ensures.slots c.insert_in-next_free.ensures.next in
    omega (arith, i.room, m.within)

pub invariant_of-self : goal.invariant_of-self
invariant_of-self g c =
    let m = c.args.self.now in
    let i = insert_part m.slots.now c.insert_in-next_free.new.slots m.part.start m.part.end m.free_head m.filled (kept m)
    c.insert_in-next_free.result c.args.task (omega arith) c.insert_in-next_free.ensures.slots c.insert_in-next_free.ensures.next in
    record { starts = i.sound_then.0; within = i.sound_then.1; free_chained = i.sound_then.2; counted = i.sound_then.3 }

pub returns : goal.returns
returns g c =
    let m = c.args.self.now in
    let i = insert_part m.slots.now c.insert_in-next_free.new.slots m.part.start m.part.end m.free_head m.filled (kept m)
    c.insert_in-next_free.result c.args.task (omega arith) c.insert_in-next_free.ensures.slots c.insert_in-next_free.ensures.next in
    record {
      answer = sym (cond-false (full (between m.part.start m.part.end m.slots.now)) _ _ i.is_open);
      after = i.held;
      within = subst (λ n. m.free_head < n) (sym (length-between m.slots.now m.part.start m.part.end m.within)) (omega arith);
    }
