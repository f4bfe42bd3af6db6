-- Parking places, some of which hold an entry.
use Rattle.std.specs.Prelude.{◌≡◌, ℕ, suc, ◌<◌, List, length, Some, None, Option, ◌≢◌}
use Rattle.parking.specs.Heaps.{rank_at}
use Rattle.std.specs.List.{filter_map}
use Rattle.tasks.specs.declared.order_wrapper.OrderWrapper.{OrderWrapper}

-- An empty place ranks below any that holds an entry.
abbrev pub place_rank : {E : Type 0} → (E → ℕ) → Option E → ℕ
place_rank rank None = 0
place_rank rank (Some e) = suc (rank e)

-- The entries that places hold.
abbrev pub entries_in : {E : Type 0} → List (Option E) → List E
entries_in places = filter_map (λ place. place) places

-- Each place holds an entry.
abbrev pub Filled : {E : Type 0} → List (Option E) → Type 0
Filled places = length (entries_in places) ≡ length places

-- The index of a pair, by which it ranks.
abbrev pub index_of : {O : Type 0} → OrderWrapper O → ℕ
index_of w = w.index

-- A place whose pair has an index; nothing where none has it.
abbrev pub FoundAt : {O : Type 0} → List (Option (OrderWrapper O)) → ℕ → Option ℕ → Type 0
FoundAt places index None = (k : ℕ) → k < length places → rank_at (place_rank index_of) places k ≢ suc index
FoundAt places index (Some at) = (at < length places) × (rank_at (place_rank index_of) places at ≡ suc index)
