use Rattle.std.proofs.Common.{◌≡◌, length, take, drop, ap, ◌∙◌, subst}
use Rattle.ordered.proofs.FixedLines.{long_memory, parked_memory}
use Rattle.ordered.proofs.futures_ordered_bounded.FuturesOrderedBounded.abandon.Goals as goal
use Rattle.ordered.specs.Ordered.{ascending}
use Rattle.parking.specs.HeldPairs.{held_pairs}
use Rattle.parking.specs.Places.{entries_in}
use Rattle.sets.specs.BoundedSet.{set_of, MemoryOf}

pub returns : goal.returns
returns g c =
    let h = c.args.self.queue.queued_outputs in
    let parts = c.take_apart-tasks.ensures in
    let is : c.into_memory.result.now ≡ h.heap.memory.now = c.into_memory.ensures ∙ ap (λ o. o.heap.memory.now) parts.1 in (
      subst (λ t. MemoryOf (set_of t) c.abandon.result) parts.0 c.abandon.ensures.memory,
      ap (drop h.heap.places) is,
      ap length is ∙ long_memory h,
      ap (λ xs. ascending (entries_in (take (length (ascending (held_pairs h).bag)) xs))) is ∙ parked_memory h,
    )
