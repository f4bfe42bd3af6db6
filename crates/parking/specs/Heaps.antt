-- A heap: no place ranks below its parent. The parent of place k + 1 is place k / 2.
use Rattle.std.specs.Prelude.{◌≡◌, ℕ, ◌+◌, ◌-◌, ◌/◌, ◌<◌, ◌≤◌, List, map, length, ◌≢◌, slice_index}

-- The rank at each place; 0 past the end.
abbrev pub rank_at : {X : Type 0} → (X → ℕ) → List X → ℕ → ℕ
rank_at rank xs k = slice_index (map rank xs) k

-- The first n places are in order.
abbrev pub InOrder : (ℕ → ℕ) → ℕ → Type 0
InOrder r n = (k : ℕ) → k + 1 < n → r (k / 2) ≤ r (k + 1)

-- They are, but for place i and its parent. No child of i ranks below that parent.
abbrev pub ButAbove : (ℕ → ℕ) → ℕ → ℕ → Type 0
ButAbove r n i =
    ((k : ℕ) → k + 1 < n → (k + 1 ≢ i) → r (k / 2) ≤ r (k + 1))
    × ((k : ℕ) → k + 1 < n → k / 2 ≡ i → 0 < i → r ((i - 1) / 2) ≤ r (k + 1))

-- They are, but for place i and its children. No child of i ranks below its parent.
abbrev pub ButBelow : (ℕ → ℕ) → ℕ → ℕ → Type 0
ButBelow r n i =
    ((k : ℕ) → k + 1 < n → (k / 2 ≢ i) → r (k / 2) ≤ r (k + 1))
    × ((k : ℕ) → k + 1 < n → k / 2 ≡ i → 0 < i → r ((i - 1) / 2) ≤ r (k + 1))

-- c is a child of i, and none ranks below it.
pub record LeastChild (r : ℕ → ℕ) (n i c : ℕ) : Type 0 where
  pub within : c < n
  pub past : i < c
  pub child : (c - 1) / 2 ≡ i
  pub least : (k : ℕ) → k + 1 < n → k / 2 ≡ i → r c ≤ r (k + 1)

-- All places are in order.
abbrev pub Heaped : {X : Type 0} → (X → ℕ) → List X → Type 0
Heaped rank xs = InOrder (rank_at rank xs) (length xs)
