use Rattle.std.proofs.Common.{◌+◌, length, arith}
use Rattle.slots.proofs.table.fresh_in.Goals as goal
use Rattle.slots.specs.declared.slot.Slot.TheVariants.{NextFree}
use Rattle.std.proofs.lemmas.List.FromFn.{fill_by_all}
use Rattle.std.proofs.lemmas.List.Edits.{fill_by_more}

pub loop-i-preserved : goal.loop-i-preserved
loop-i-preserved g c = fill_by_more (λ k. NextFree (k + 1)) c.loop-i.slots c.loop-i.i (NextFree 0) (omega arith) c.loop-i.invariant

pub returns : goal.returns
returns g c =
    fill_by_all (λ k. NextFree (k + 1)) c.loop-i.slots (length c.args.slots.now) (NextFree 0)
    c.loop-i.auto.slots (λ k h. c.loop-i.invariant k (omega arith))
