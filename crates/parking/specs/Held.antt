-- What a heap holds in the caller's memory.
use Rattle.std.specs.Prelude.{ℕ, List, drop, take, Option}
use Rattle.parking.specs.Heaps.{Heaped}
use Rattle.parking.specs.Places.{place_rank, entries_in}
use Rattle.parking.specs.declared.rank_heap.RankHeap.{RankHeap}

-- The entries in whatever order, the number of places, and the memory beyond them. What unused places hold is free.
pub record Held (E : Type 0) : Type 0 where
  pub bag : List E
  pub places : ℕ
  pub beyond : List (Option E)

abbrev pub used : {E : Type 0} → RankHeap E → List (Option E)
used h = take h.count h.memory.now

abbrev pub held : {E : Type 0} → RankHeap E → Held E
held h = record { bag = entries_in (used h); places = h.places; beyond = drop h.places h.memory.now }

abbrev pub with_bag : {E : Type 0} → Held E → List E → Held E
with_bag h bag = record { bag = bag; places = h.places; beyond = h.beyond }

-- The places that are used are in order.
abbrev pub Ranked : {E : Type 0} → (E → ℕ) → RankHeap E → Type 0
Ranked rank h = Heaped (place_rank rank) (used h)
