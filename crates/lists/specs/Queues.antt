-- A first-in first-out queue of numbers, each in it at most once.
use Rattle.std.specs.Prelude.{ℕ, cond, List, [], ◌∷◌, ◌++◌, Some, None, Option}
use Rattle.lists.specs.Walks.{member}

-- Joining the end; nothing happens where the number is in the queue already.
abbrev pub enqueued : List ℕ → ℕ → List ℕ
enqueued waiting i = cond (member i waiting) waiting (waiting ++ i ∷ [])

abbrev pub first : List ℕ → Option ℕ
first [] = None
first (i ∷ is) = Some i

abbrev pub rest : List ℕ → List ℕ
rest [] = []
rest (i ∷ is) = is
