use Rattle.std.proofs.Common.{false, get_or, sym, ap, ◌∙◌, subst}
use Rattle.lists.proofs.MemoryParts.{whole_from_parts, given}
use Rattle.sets.specs.Ground.{GivenBack}
use Rattle.wakes.specs.Queue.{flags}
use Rattle.wakes.specs.Wakes.{held}
use Rattle.sets.proofs.group.TaskGroup.take_apart.Goals as goal

pub returns-clause-all_slots : goal.returns-clause-all_slots
returns-clause-all_slots g c =
    let m = c.args.self.tasks in
    c.take_apart-slots.ensures ∙ sym (whole_from_parts m.slots.now m.part.start m.part.end m.starts)

pub returns-clause-all_records : goal.returns-clause-all_records
returns-clause-all_records g c =
    let l = c.args.self.shared in
    let parts = given l.records.now l.part.start l.part.end l.starts l.within in
    subst (λ rs. GivenBack (held l) rs) (sym c.take_apart-records.ensures) (record { before = parts.before; beyond = parts.beyond; long = parts.long; flagged = λ k. ap (λ rs. get_or (flags rs) k false) parts.part ∙ l.queue_kept.0.0 k })
