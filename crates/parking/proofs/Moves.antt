-- An entry is moved to the end, and what lies before the end is shuffled.
use Rattle.std.proofs.Common.{◌≡◌, ℕ, ◌+◌, ◌/◌, ◌<◌, List, [], ◌∷◌, ◌++◌, length, get_or, take, drop, sym, ap, ◌∙◌, subst, arith, rules}
use Rattle.parking.proofs.Ranks.{ranks_swapped, rank_taken}
use Rattle.parking.specs.Heaps.{rank_at, ButBelow, Heaped}
use Rattle.std.proofs.lemmas.List.Edits.{swapped_from_swap}
use Rattle.std.proofs.lemmas.List.{take-append-drop, length-take-le, drop_more, drop_all}
use Rattle.std.proofs.lemmas.List.Sorted.{IsPermutation-append_left, IsPermutation-trans, length_permutation}
use Rattle.std.proofs.lemmas.Slice.{overwrites}
use Rattle.std.specs.List.Sorted.{IsPermutation}
use Rattle.std.specs.List.{swap}

-- the last entry of a list
last_alone : {X : Type 0} (zs : List X) (last : ℕ) (d : X) → length zs ≡ last + 1 → drop last zs ≡ get_or zs last d ∷ []
last_alone zs last d long =
    drop_more zs last d (omega arith) ∙ ap (λ l. get_or zs last d ∷ l) (drop_all (last + 1) zs (omega arith))

-- what the list w is, once the entry at `at` of xs was exchanged with the last, and ys stands before it
pub record Moved {X : Type 0} (xs ys w : List X) (at last : ℕ) : Type 0 where
  pub front : take last w ≡ ys
  pub same : IsPermutation xs w
  pub whole : (x : X) → x ≡ get_or xs at x → w ≡ take last w ++ x ∷ []

pub moved : {X : Type 0} (xs zs ys : List X) (at last : ℕ) → length xs ≡ last + 1 → at < length xs → length zs ≡ length xs → zs ≡ swap xs at last → IsPermutation xs zs → IsPermutation (take last zs) ys
    → Moved xs ys (ys ++ drop last zs) at last
moved xs zs ys at last long within same is xz zy =
    let zlong : length zs ≡ last + 1 = same ∙ long in
    let ylong : length ys ≡ last = length_permutation (take last zs) ys zy ∙ length-take-le last zs (omega (arith, zlong)) in
    let front : take last (ys ++ drop last zs) ≡ ys = search (rules, overwrites) in
    let zw : IsPermutation (take last zs ++ drop last zs) (ys ++ drop last zs) = IsPermutation-append_left (drop last zs) (take last zs) ys zy in
    record {
      front = front;
      same = IsPermutation-trans xs zs (ys ++ drop last zs) xz (subst (λ l. IsPermutation l (ys ++ drop last zs)) (take-append-drop last zs) zw);
      whole = λ y read.
          let swapped = swapped_from_swap xs zs at last y within (omega (arith, long)) is in
          let there : get_or zs last y ≡ y = swapped.1 ∙ sym read in
          ap (λ l. ys ++ l) (last_alone zs last y zlong) ∙ ap (λ e. ys ++ e ∷ []) there ∙ ap (λ l. l ++ y ∷ []) (sym front);
    }

-- the first entry was exchanged with the last: the others before the end are in order still
pub first_out : {X : Type 0} (rank : X → ℕ) (xs zs : List X) (last : ℕ) → length xs ≡ last + 1 → zs ≡ swap xs 0 last → Heaped rank xs
    → ButBelow (rank_at rank (take last zs)) last 0
first_out rank xs zs last long is order =
    let swapped = ranks_swapped rank xs zs 0 last (omega arith) (omega arith) is in (
      λ k lt ne.
          let a : rank_at rank (take last zs) (k / 2) ≡ rank_at rank zs (k / 2) = rank_taken rank zs last (k / 2) (omega arith) in
          let b : rank_at rank (take last zs) (k + 1) ≡ rank_at rank zs (k + 1) = rank_taken rank zs last (k + 1) (omega arith) in
          let c = swapped.2 (k / 2) ne (λ x. omega arith) in
          let d = swapped.2 (k + 1) (λ x. omega arith) (λ x. omega arith) in
          omega (arith, a, b, c, d, order k (omega arith)),
      λ k lt e po. absurd (omega arith),
    )
