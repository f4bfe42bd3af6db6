use Rattle.wakes.proofs.HeldParts.{change_part}
use Rattle.wakes.proofs.waker_list.WakerList.push.Goals as goal

pub returns-clause-after : goal.returns-clause-after
returns-clause-after c =
    let l = c.args.self.now in
    (change_part l.records.now c.enqueue.new.records l.part.start l.part.end c.enqueue.new.self _ l.registered
    l.starts l.within c.enqueue.auto.records c.enqueue.ensures.waiting c.enqueue.ensures.kept).held
