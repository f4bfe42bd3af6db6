-- Pairs in a heap: the one with an index is taken out, and all are flipped.
use Rattle.std.proofs.Common.{◌≡◌, ℕ, suc, ◌+◌, ◌/◌, ◌<◌, ◌≤◌, Bool, false, cond, eqb, List, [], ◌∷◌, map, length, Some, None, count_by, Option, sym, refl, ap, ◌∙◌, subst, arith}
use Rattle.parking.proofs.HeapParts.{front_is, Part, part}
use Rattle.parking.proofs.Holding.{hold_all, hold_shuffled, hold_from, length_held}
use Rattle.parking.proofs.Ranks.{rank_taken}
use Rattle.parking.specs.Bags.{bears_index}
use Rattle.parking.specs.Heaps.{rank_at, InOrder, Heaped}
use Rattle.parking.specs.Held.{used}
use Rattle.parking.specs.Places.{place_rank, index_of, entries_in, Filled, FoundAt}
use Rattle.parking.specs.declared.rank_heap.RankHeap.{RankHeap}
use Rattle.std.proofs.lemmas.List.Edits.{length-between}
use Rattle.std.proofs.lemmas.List.{get_or-map, length-map, length-take-le}
use Rattle.std.proofs.lemmas.List.Sorted.{length_permutation}
use Rattle.std.proofs.lemmas.List.Sums.{sum_by-cons}
use Rattle.std.proofs.lemmas.Bool.{ne_eqb}
use Rattle.std.proofs.lemmas.Option.{slice_get_within, get_or_from_slice_get}
use Rattle.std.specs.List.{AllWithin, HoldsAt, slice_get, between}
use Rattle.std.specs.List.Sorted.{IsPermutation}
use Rattle.std.specs.Option.{MatchOption}
use Rattle.tasks.specs.Orders.{wrapper_flipped, option_flipped}
use Rattle.tasks.specs.declared.order_wrapper.OrderWrapper.{OrderWrapper}

module _ {O : Type 0} where
  -- what a search through the places found
  pub found_at : (ps : List (Option (OrderWrapper O))) (i : ℕ) (r : Option ℕ)
      → MatchOption r (AllWithin (λ p. place_rank index_of p ≡ suc i → ⊥) ps 0 (length ps)) (λ k. (k < length ps) × HoldsAt (λ p. place_rank index_of p ≡ suc i) ps k × AllWithin (λ p. place_rank index_of p ≡ suc i → ⊥) ps 0 k)
      → FoundAt ps i r
  found_at ps i None none = λ k lt e. none k None (omega arith) lt (sym (get_or-map (place_rank index_of) ps k None 0 lt) ∙ e)
  found_at ps i (Some k) some = (some.0, get_or-map (place_rank index_of) ps k None 0 some.0 ∙ some.1 None)

  -- the first place was read
  pub first_read : (ps : List (Option (OrderWrapper O))) (w : OrderWrapper O) → slice_get ps 0 ≡ Some (Some w) → rank_at (place_rank index_of) ps 0 ≡ suc w.index
  first_read ps w got =
      get_or-map (place_rank index_of) ps 0 None 0 (slice_get_within ps 0 (Some w) got) ∙ ap (place_rank index_of) (get_or_from_slice_get ps 0 (Some w) None got)

  -- none of the places has the index
  pub none_has : (ps : List (Option (OrderWrapper O))) (i : ℕ) → ((k : ℕ) → k < length ps → rank_at (place_rank index_of) ps k ≡ suc i → ⊥) → count_by (bears_index i) (entries_in ps) ≡ 0
  none_has [] i none = refl
  none_has (None ∷ ps) i none = none_has ps i (λ k lt e. none (suc k) (omega arith) e)
  none_has (Some w ∷ ps) i none =
      let rest = none_has ps i (λ k lt e. none (suc k) (omega arith) e) in
      let ne : eqb w.index i ≡ false = ne_eqb w.index i (λ e. none 0 (omega arith) (ap suc e)) in
      let s = sum_by-cons (λ x. cond (bears_index i x) 1 0) w (entries_in ps) in
      let z : ◌≡◌ {A = ℕ} (cond (bears_index i w) 1 0) 0 = ap (λ (b : Bool). cond b 1 0) ne in
      omega (arith, s, z, rest)

  -- a rank in the used places is the rank in the memory
  rank_used : (xs : List (Option (OrderWrapper O))) (n k : ℕ) → k < n → rank_at (place_rank index_of) (between 0 n xs) k ≡ rank_at (place_rank index_of) xs k
  rank_used xs n k lt = ap (λ l. rank_at (place_rank index_of) l k) (front_is xs n) ∙ rank_taken (place_rank index_of) xs n k lt

  pub order_in_memory : (xs : List (Option (OrderWrapper O))) (n : ℕ) → n ≤ length xs → Heaped (place_rank index_of) (between 0 n xs) → InOrder (rank_at (place_rank index_of) xs) n
  order_in_memory xs n within order k lt =
      omega (arith, order k (omega (arith, length-between xs 0 n within)), rank_used xs n (k / 2) (omega arith), rank_used xs n (k + 1) lt)

  entries_flipped : (ps : List (Option (OrderWrapper O))) → entries_in (map (option_flipped wrapper_flipped) ps) ≡ map wrapper_flipped (entries_in ps)
  entries_flipped [] = refl
  entries_flipped (None ∷ ps) = entries_flipped ps
  entries_flipped (Some w ∷ ps) = ap (λ l. wrapper_flipped w ∷ l) (entries_flipped ps)

  held_flipped : (es : List (OrderWrapper O)) → map (option_flipped wrapper_flipped) (map (λ e. Some e) es) ≡ map (λ e. Some e) (map wrapper_flipped es)
  held_flipped [] = refl
  held_flipped (e ∷ es) = ap (λ l. Some (wrapper_flipped e) ∷ l) (held_flipped es)

  -- the memory after its used places were flipped and became ys
  pub record FlippedIn (h : RankHeap (OrderWrapper O)) (ys : List (Option (OrderWrapper O))) : Type 0 where
    pub part : Part h.memory.now ys h.count h.places
    pub filled : Filled ys
    pub bag : IsPermutation (map wrapper_flipped (entries_in (used h))) (entries_in ys)

  pub flipped_in : (h : RankHeap (OrderWrapper O)) (ys : List (Option (OrderWrapper O))) → IsPermutation (map (option_flipped wrapper_flipped) (used h)) ys → FlippedIn h ys
  flipped_in h ys same =
      let was : List (Option (OrderWrapper O)) = used h in
      let ylong : length ys ≡ h.count = length_permutation (map (option_flipped wrapper_flipped) was) ys same ∙ length-map was (option_flipped wrapper_flipped) ∙ length-take-le h.count h.memory.now (omega (arith, h.within, h.few)) in
      let is : map (option_flipped wrapper_flipped) was ≡ map (λ e. Some e) (map wrapper_flipped (entries_in was))
      = ap (λ l. map (option_flipped wrapper_flipped) l) (sym (hold_all was h.holding)) ∙ held_flipped (entries_in was) in
      let before = hold_from (map wrapper_flipped (entries_in was)) (map (option_flipped wrapper_flipped) was) is in
      let now = hold_shuffled (map (option_flipped wrapper_flipped) was) ys before.0 same in
      record {
        part = part h.memory.now ys h.count h.places h.few h.within ylong;
        filled = length_held ys now.0;
        bag = subst (λ l. IsPermutation l (entries_in ys)) before.1 now.1;
      }
