-- The size of a container, as the container requirements of ISO/IEC 14882 have it: the distance from begin to end,
-- which is how often an iterator at begin is incremented until it is at end.
use Rattle.std.specs.Prelude.{ℕ, suc, List, [], ◌∷◌}

-- An iterator is what it has still to pass of the elements that the container holds: begin has all of them to pass,
-- end none, and an increment passes one.
abbrev pub begin : {X : Type 0} → List X → List X
begin elements = elements

abbrev pub distance_to_end : {X : Type 0} → List X → ℕ
distance_to_end [] = 0
distance_to_end (x ∷ left) = suc (distance_to_end left)

abbrev pub size : {X : Type 0} → List X → ℕ
size elements = distance_to_end (begin elements)
