use Rattle.std.proofs.Common.{◌≡◌, ℕ, ◌+◌, ◌<◌, get_or}
use Rattle.slots.proofs.table.fresh_in.Given as goal
use Rattle.slots.specs.declared.slot.Slot.TheVariants.{NextFree}

abbrev pub invariant-loop-i : goal.invariant-loop-i
invariant-loop-i g l = (k : ℕ) → k < l.i → get_or l.slots k (NextFree 0) ≡ NextFree (k + 1)
