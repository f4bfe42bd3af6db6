use Rattle.std.proofs.Common.{◌≡◌, ◌+◌, ◌<◌, true, false, List, length, get_or, set, sym, ap, ◌∙◌, subst, arith}
use Rattle.std.proofs.lemmas.List.{length-set}
use Rattle.wakes.proofs.Records.{flagged, linked, flags_flagged, links_flagged, flags_linked, links_linked, flag_at}
use Rattle.wakes.proofs.Steps.{Joined, joins_empty, joins_behind, joined_yes, joined_no, stays, tail_within}
use Rattle.wakes.proofs.queue.Queue.enqueue.Goals as goal
use Rattle.wakes.proofs.queue.Queue.enqueue.Goals.{then-self-eq0, else-self-eq0}
use Rattle.wakes.specs.Queue.{flags}
use Rattle.wakes.specs.declared.queue.Queue.{Queue}
use Rattle.wakes.specs.declared.wake_record.WakeRecord.{WakeRecord}

pub returns-then-records-slot : goal.returns-then-records-slot
returns-then-records-slot c =
    let rs = c.args.records.now in
    let q = c.args.self.now in
    let waits = sym (flag_at rs c.args.slot c.requires.0) ∙ c.if-records-slot.true in
    record {
      joined = joined_no rs q c.args.slot c.requires.1 waits;
      waiting = stays rs q c.args.slot c.requires.1 waits;
      kept = c.requires.1;
    }

pub offset_bounds-records-self : goal.offset_bounds-records-self
offset_bounds-records-self c = omega (arith, tail_within c.args.records.now c.args.self.now c.requires.1 c.if-self-eq0.false)

pub bounds-records-self : goal.bounds-records-self
bounds-records-self c =
    let lt = tail_within c.args.records.now c.args.self.now c.requires.1 c.if-self-eq0.false in
    subst (λ n. c.args.self.now.tail < n) (sym (length-set c.args.records.now c.args.slot _)) lt

pub returns : goal.returns
returns c =
    let rs = c.args.records.now in
    let q = c.args.self.now in
    let i = c.args.slot in
    let lt = c.requires.0 in
    let clear : get_or (flags rs) i false ≡ false = sym (flag_at rs i lt) ∙ c.if-records-slot.false in
    let rs1 : List WakeRecord = flagged rs i lt true in
    let Here : List WakeRecord → Queue → Type 0 = λ rs' q'. Joined rs rs' q (record { head = q'.head; tail = i; waiting = q'.waiting + 1 }) i in
    let here : Here c.if-self-eq0.records c.if-self-eq0.self =
    elim c.if-self-eq0.branch [
      | then-self-eq0 w ↦
          subst (λ rs'. Here rs' c.if-self-eq0.self) (sym w.records-is) (subst (λ q'. Here rs1 q') (sym w.self-is)
          (joins_empty rs rs1 q i c.requires.1 lt clear w.if-self-eq0.true (flags_flagged rs i lt true) (links_flagged rs i lt true)))
      | else-self-eq0 w ↦
          let lt1 : q.tail < length rs1 = subst (λ n. q.tail < n) (sym (length-set rs i _)) (tail_within rs q c.requires.1 w.if-self-eq0.false) in
          subst (λ rs'. Here rs' c.if-self-eq0.self) (sym w.records-is) (subst (λ q'. Here (linked rs1 q.tail lt1 i) q') (sym w.self-is)
          (joins_behind rs (linked rs1 q.tail lt1 i) q i c.requires.1 lt clear w.if-self-eq0.false (flags_linked rs1 q.tail lt1 i ∙ flags_flagged rs i lt true)
          (links_linked rs1 q.tail lt1 i ∙ ap (λ ls. set ls q.tail i) (links_flagged rs i lt true))))
    ] in
    record {
      joined = joined_yes rs rs q i c.requires.1 lt clear;
      waiting = here.waiting;
      kept = here.kept;
    }
