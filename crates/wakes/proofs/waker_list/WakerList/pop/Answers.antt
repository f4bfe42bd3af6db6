use Rattle.wakes.proofs.HeldParts.{change_part}
use Rattle.wakes.proofs.waker_list.WakerList.pop.Goals as goal

pub returns-clause-after : goal.returns-clause-after
returns-clause-after c =
    let l = c.args.self.now in
    (change_part l.records.now c.dequeue.new.records l.part.start l.part.end c.dequeue.new.self _ l.registered
    l.starts l.within c.dequeue.auto.records c.dequeue.ensures.waiting c.dequeue.ensures.kept).held
