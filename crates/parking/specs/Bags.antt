-- The bag of parked pairs of index and output.
use Rattle.std.specs.Prelude.{◌≡◌, ℕ, ◌+◌, ◌^◌, ◌≤◌, Bool, cond, ◌&&◌, List, ◌∷◌, map, length, Some, None, Ok, Err, count_by, Option, Result, ◌==◌, nat_le, nat_lt}
use Rattle.std.specs.List.Sorted.{IsPermutation}
use Rattle.parking.specs.declared.parking.Unfit.{Unfit}
use Rattle.tasks.specs.Orders.{wrapper_flipped}
use Rattle.tasks.specs.declared.order_wrapper.OrderWrapper.{OrderWrapper}

abbrev pub in_run : ℕ → ℕ → ℕ → Bool
in_run from long i = nat_le from i && nat_lt i (from + long)

module _ {O : Type 0} where
  abbrev pub bears_index : ℕ → OrderWrapper O → Bool
  bears_index i w = w.index == i

  -- Pairs that every parking of so many places can hold: they are no more than the places, their indices differ, and
  -- lie in a run that does not wrap and is no longer than the places.
  pub record Fits (places : ℕ) (pairs : List (OrderWrapper O)) : Type 0 where
    pub few : length pairs ≤ places
    pub from : ℕ
    pub long : ℕ
    pub short : long ≤ places
    pub wraps_not : from + long ≤ 2 ^ 64
    pub apart : (i : ℕ) → count_by (bears_index i) pairs ≤ cond (in_run from long i) 1 0

  -- A pair of index and output is put in, or the output is handed back with nothing altered where the pairs would not fit.
  abbrev pub pair : ℕ → O → OrderWrapper O
  pair index x = record { «data» = x; index = index }

  abbrev pub Put : ℕ → ℕ → O → List (OrderWrapper O) → Result (Unit {0}) O → List (OrderWrapper O) → Type 0
  Put places i x bag (Ok u) after = IsPermutation (pair i x ∷ bag) after
  Put places i x bag (Err back) after = (back ≡ x) × (after ≡ bag) × (Fits places (pair i x ∷ bag) → ⊥)

  -- The output of the pair with an index is taken out, if there is one.
  abbrev pub Taken : ℕ → List (OrderWrapper O) → Option O → List (OrderWrapper O) → Type 0
  Taken i bag None after = (count_by (bears_index i) bag ≡ 0) × (after ≡ bag)
  Taken i bag (Some x) after = IsPermutation bag (pair i x ∷ after)

  -- The top bit of every index is flipped, or nothing is altered where the pairs would not fit.
  abbrev pub Flipped : ℕ → List (OrderWrapper O) → Result (Unit {0}) Unfit → List (OrderWrapper O) → Type 0
  Flipped places bag (Ok u) after = IsPermutation (map wrapper_flipped bag) after
  Flipped places bag (Err e) after = (after ≡ bag) × (Fits places (map wrapper_flipped bag) → ⊥)
