-- What an ordered set keeps: its elements are lined up as a deque.
use Rattle.std.specs.Prelude.{◌≡◌, ℕ, ◌+◌, ◌%◌, ◌^◌, ◌<◌, ◌≤◌, Bool, List, [], ◌∷◌, map, length, count_by}
use Rattle.ordered.specs.Below.{Label, label}
use Rattle.ordered.specs.Ordered.{Ordered}
use Rattle.tasks.specs.Orders.{index_raised}

-- The labels of a deque whose head bears an index.
abbrev pub numbered : ℕ → List (ℕ × ℕ) → List Label
numbered i [] = []
numbered i (t ∷ d) = (i, t) ∷ numbered (index_raised i) d

-- The tasks below and the outputs that wait bear the labels of a deque whose head is next in turn, and there is a place
-- for each of them.
pub record Lined {S O R : Type 0} (bears : O → ℕ × ℕ) (InvB : S → Type 0) (insideB : S → List Label) (s : Ordered S O R) (d : List (ℕ × ℕ)) : Type 0 where
  pub kept : InvB s.below
  pub even : (test : Label → Bool) → count_by test (insideB s.below) + count_by test (map (label bears) s.parked) ≡ count_by test (numbered s.outgoing d)
  pub ends : s.incoming ≡ (s.outgoing + length d) % 2 ^ 64
  pub wraps : s.outgoing < 2 ^ 64
  pub placed : length d ≤ s.places
  pub most : s.places ≤ 65536
