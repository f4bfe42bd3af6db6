-- A list of numbers that is kept as links: each place holds the number of the place after it.
use Rattle.std.specs.Prelude.{◌≡◌, ℕ, zero, suc, Bool, true, false, not, ◌&&◌, ◌||◌, List, [], ◌∷◌, length, count_by, ◌==◌, slice_index, slice_index_or}

-- The first n places on the way from h along the links.
abbrev pub walk : List ℕ → ℕ → ℕ → List ℕ
walk links zero h = []
walk links (suc n) h = h ∷ walk links n (slice_index links h)

-- The place to which n steps lead.
abbrev pub arrives : List ℕ → ℕ → ℕ → ℕ
arrives links zero h = h
arrives links (suc n) h = arrives links n (slice_index links h)

abbrev pub member : ℕ → List ℕ → Bool
member i [] = false
member i (j ∷ js) = i == j || member i js

-- No number comes twice.
abbrev pub distinct : List ℕ → Bool
distinct [] = true
distinct (i ∷ is) = not (member i is) && distinct is

-- The last number, or d where there is none.
abbrev pub last_or : ℕ → List ℕ → ℕ
last_or d [] = d
last_or d (i ∷ is) = last_or i is

-- Exactly the places of the list are marked.
abbrev pub Marks : List Bool → List ℕ → Type 0
Marks marks is = (i : ℕ) → slice_index_or marks i false ≡ member i is

-- A list of n places is kept in the links from h on: no place comes twice, and exactly its places are marked.
abbrev pub Chain : List Bool → List ℕ → ℕ → ℕ → Type 0
Chain marks links n h = Marks marks (walk links n h) × (distinct (walk links n h) ≡ true) × (count_by (λ b. b) marks ≡ n)

-- A free list: just the marked places are chained from h on, and the last one points past the end.
abbrev pub Free : List Bool → List ℕ → ℕ → Type 0
Free marks links h =
    Chain marks links (count_by (λ b. b) marks) h × (arrives links (count_by (λ b. b) marks) h ≡ length marks)
