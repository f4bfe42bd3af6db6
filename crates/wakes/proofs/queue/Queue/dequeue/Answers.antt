use Rattle.std.proofs.Common.{◌<◌, false, length, subst, sym, arith}
use Rattle.std.proofs.lemmas.List.{length-set}
use Rattle.wakes.proofs.Records.{flagged, flags_flagged, links_flagged, link_at}
use Rattle.wakes.proofs.Steps.{leaves, head_within}
use Rattle.wakes.proofs.queue.Queue.dequeue.Goals as goal

pub offset_bounds-records-slot : goal.offset_bounds-records-slot
offset_bounds-records-slot c = omega (arith, head_within c.args.records.now c.args.self.now c.requires c.if-self-eq0.false)

pub bounds-records-slot : goal.bounds-records-slot
bounds-records-slot c = head_within c.args.records.now c.args.self.now c.requires c.if-self-eq0.false

pub returns : goal.returns
returns c =
    let rs = c.args.records.now in
    let q = c.args.self.now in
    let lt = head_within rs q c.requires c.if-self-eq0.false in
    let still : q.head < length (flagged rs q.head lt false) = subst (λ n. q.head < n) (sym (length-set rs q.head _)) lt in
    let gone = leaves rs (flagged rs q.head lt false) q _ c.requires c.if-self-eq0.false
    (flags_flagged rs q.head lt false) (links_flagged rs q.head lt false) (link_at (flagged rs q.head lt false) q.head still) in
    record { slot = gone.slot; waiting = gone.waiting; kept = gone.kept; within = lt }
