-- What a heap in the first places of a memory holds, as an entry is put in or taken out.
use Rattle.std.proofs.Common.{◌≡◌, ℕ, ◌+◌, ◌-◌, ◌/◌, ◌<◌, ◌≤◌, List, [], ◌∷◌, ◌++◌, map, length, take, drop, set, Some, None, Option, sym, refl, ap, ◌∙◌, subst, arith, rules}
use Rattle.parking.proofs.Holding.{AllHold, hold_all, hold_push, hold_shuffled, hold_taken, length_held, entries_append, entries_few}
use Rattle.parking.proofs.Ranks.{rank_taken}
use Rattle.parking.specs.Heaps.{rank_at, InOrder, Heaped}
use Rattle.parking.specs.Held.{used, Ranked}
use Rattle.parking.specs.Places.{place_rank, entries_in, Filled}
use Rattle.parking.specs.declared.rank_heap.RankHeap.{RankHeap}
use Rattle.std.proofs.lemmas.List.{take_all, take-take, take-append-le, take_more_set, length-set, length-take-le, length-append, length-drop, map-append, append_cancel_right}
use Rattle.std.proofs.lemmas.List.Sorted.{IsPermutation-trans, IsPermutation-to_front, IsPermutation-sym, length_permutation}
use Rattle.std.proofs.lemmas.Slice.{drop-append-drop, overwrites}
use Rattle.std.specs.List.Sorted.{IsPermutation}
use Rattle.std.specs.List.{between}

-- the first n places
pub front_is : {X : Type 0} (xs : List X) (n : ℕ) → between 0 n xs ≡ take n xs
front_is xs n = let z : n - 0 ≡ n = omega arith in ap (λ m. take m xs) z

-- a place gave an entry, which is out of the bag then
pub record Gave {E : Type 0} (bag : List E) (r : Option E) (after : List E) : Type 0 where
  pub entry : E
  pub is : r ≡ Some entry
  pub rest : IsPermutation bag (entry ∷ after)

pub gave_it : {E : Type 0} (bag after : List E) (r : Option E) (e : E) → Gave bag r after → r ≡ Some e → IsPermutation bag (e ∷ after)
gave_it bag after r e gave is =
    let same : gave.entry ≡ e = let was = gave.is in cc in
    subst (λ x. IsPermutation bag (x ∷ after)) same gave.rest

-- the memory xs, of whose first n places ys was made
pub record Part {X : Type 0} (xs ys : List X) (n places : ℕ) : Type 0 where
  pub used : take n (ys ++ drop n xs) ≡ ys
  pub beyond : drop places (ys ++ drop n xs) ≡ drop places xs
  pub long : length (ys ++ drop n xs) ≡ length xs

pub part : {X : Type 0} (xs ys : List X) (n places : ℕ) → n ≤ places → places ≤ length xs → length ys ≡ n → Part xs ys n places
part xs ys n places few within is = record {
  used = search (rules, overwrites);
  beyond = drop-append-drop n xs ys places few is;
  long = omega (arith, length-append ys (drop n xs), length-drop n xs, is);
}

module _ {E : Type 0} where
  pub order_fewer : (rank : E → ℕ) (xs : List (Option E)) (k n : ℕ) → k ≤ n → n ≤ length xs → Heaped (place_rank rank) (take n xs) → Heaped (place_rank rank) (take k xs)
  order_fewer rank xs k n le within order i lt =
      let long = length-take-le n xs within in
      let short = length-take-le k xs (omega arith) in
      let r = place_rank rank in
      omega (
        arith,
        order i (omega (arith, long, short)),
        rank_taken r xs n (i / 2) (omega (arith, short)),
        rank_taken r xs n (i + 1) (omega (arith, short)),
        rank_taken r xs k (i / 2) (omega (arith, short)),
        rank_taken r xs k (i + 1) (omega (arith, short)),
      )

  pub filled_fewer : (xs : List (Option E)) (k n : ℕ) → k ≤ n → Filled (take n xs) → Filled (take k xs)
  filled_fewer xs k n le filled =
      length_held (take k xs) (subst (λ l. AllHold l) (take-take k n xs le) (hold_taken k (take n xs) (hold_all (take n xs) filled)))

  module _ (h : RankHeap E) where
    hold : AllHold (used h)
    hold = hold_all (used h) h.holding

    -- before an entry is put last
    pub order_before : (rank : E → ℕ) → Ranked rank h → h.count < h.places → InOrder (rank_at (place_rank rank) (take (h.count + 1) h.memory.now)) (length (take (h.count + 1) h.memory.now) - 1)
    order_before rank order room k lt =
        let long = length-take-le (h.count + 1) h.memory.now (omega arith) in
        let short = length-take-le h.count h.memory.now (omega arith) in
        let r = place_rank rank in
        omega (
          arith,
          order k (omega (arith, long, short)),
          rank_taken r h.memory.now (h.count + 1) (k / 2) (omega (arith, long)),
          rank_taken r h.memory.now (h.count + 1) (k + 1) (omega (arith, long)),
          rank_taken r h.memory.now h.count (k / 2) (omega (arith, long)),
          rank_taken r h.memory.now h.count (k + 1) (omega (arith, long)),
        )

    -- after it was put
    pub record PutIn (e : E) (ys : List (Option E)) : Type 0 where
      pub part : Part h.memory.now ys (h.count + 1) h.places
      pub filled : Filled ys
      pub bag : IsPermutation (e ∷ entries_in (used h)) (entries_in ys)

    pub put_in : (e : E) (ys : List (Option E)) → h.count < h.places
        → IsPermutation (set (take (h.count + 1) h.memory.now) (length (take (h.count + 1) h.memory.now) - 1) (Some e)) ys → PutIn e ys
    put_in e ys room same =
        let was : List (Option E) = take (h.count + 1) h.memory.now in
        let long : length was ≡ h.count + 1 = length-take-le (h.count + 1) h.memory.now (omega arith) in
        let last : length was - 1 ≡ h.count = omega (arith, long) in
        let filled : set was h.count (Some e) ≡ used h ++ Some e ∷ []
        = sym (take_all (h.count + 1) (set was h.count (Some e)) (omega (arith, long, length-set was h.count (Some e)))) ∙ take_more_set was h.count (Some e) (omega (arith, long)) ∙ ap (λ l. l ++ Some e ∷ []) (take-take h.count (h.count + 1) h.memory.now (omega arith)) in
        let same2 : IsPermutation (used h ++ Some e ∷ []) ys = subst (λ l. IsPermutation l ys) filled (subst (λ k. IsPermutation (set was k (Some e)) ys) last same) in
        let whole = hold_shuffled (used h ++ Some e ∷ []) ys (hold_push (used h) e hold) same2 in
        let ylong : length ys ≡ h.count + 1 = length_permutation (set was (length was - 1) (Some e)) ys same ∙ length-set was (length was - 1) (Some e) ∙ long in
        let front : IsPermutation (e ∷ entries_in (used h)) (entries_in (used h) ++ e ∷ [])
        = IsPermutation-sym (entries_in (used h) ++ e ∷ []) (e ∷ entries_in (used h)) (IsPermutation-to_front (entries_in (used h)) e) in
        record {
          part = part h.memory.now ys (h.count + 1) h.places (omega arith) h.within ylong;
          filled = length_held ys whole.0;
          bag = IsPermutation-trans (e ∷ entries_in (used h)) (entries_in (used h) ++ e ∷ []) (entries_in ys) front
              (subst (λ l. IsPermutation l (entries_in ys)) (entries_append (used h) (Some e ∷ [])) whole.1);
        }

    -- after the last of the used h.places was taken away
    pub record TakenOut (r : Option E) (ys : List (Option E)) : Type 0 where
      pub front : take (h.count - 1) (ys ++ drop h.count h.memory.now) ≡ take (h.count - 1) ys
      pub part : Part h.memory.now ys h.count h.places
      pub filled : Filled (take (h.count - 1) ys)
      pub gave : Gave (entries_in (used h)) r (entries_in (take (h.count - 1) ys))

    last_holds : (zs : List (Option E)) (r : Option E) (bag : List E) → AllHold (zs ++ r ∷ []) → IsPermutation bag (entries_in (zs ++ r ∷ [])) → AllHold zs × Gave bag r (entries_in zs)
    last_holds zs None bag h s =
        let a = length_held (zs ++ None ∷ []) h in
        let b = ap length (entries_append zs (None ∷ [])) in
        let c = entries_few zs in
        absurd (omega (arith, a, b, c, length-append zs (None ∷ []), length-append (entries_in zs) []))
    last_holds zs (Some e) bag h s =
        let split : entries_in (zs ++ Some e ∷ []) ≡ entries_in zs ++ e ∷ [] = entries_append zs (Some e ∷ []) in
        let t : map (λ x. Some x) (entries_in zs) ++ Some e ∷ [] ≡ zs ++ Some e ∷ []
        = sym (map-append (λ x. Some x) (entries_in zs) (e ∷ [])) ∙ ap (λ l. map (λ x. Some x) l) (sym split) ∙ h in (
          append_cancel_right (map (λ x. Some x) (entries_in zs)) zs (Some e ∷ []) t,
          record {
            entry = e;
            is = refl;
            rest = IsPermutation-trans bag (entries_in zs ++ e ∷ []) (e ∷ entries_in zs) (subst (λ l. IsPermutation bag l) split s) (IsPermutation-to_front (entries_in zs) e);
          },
        )

    pub taken_out : (r : Option E) (ys : List (Option E)) → 0 < h.count → IsPermutation (used h) ys → ys ≡ take (length (used h) - 1) ys ++ r ∷ [] → TakenOut r ys
    taken_out r ys some same end =
        let long : length (used h) ≡ h.count = length-take-le h.count h.memory.now (omega arith) in
        let last : length (used h) - 1 ≡ h.count - 1 = omega (arith, long) in
        let ylong : length ys ≡ h.count = length_permutation (used h) ys same ∙ long in
        let end2 : ys ≡ take (h.count - 1) ys ++ r ∷ [] = end ∙ ap (λ k. take k ys ++ r ∷ []) last in
        let whole = hold_shuffled (used h) ys hold same in
        let split = last_holds (take (h.count - 1) ys) r (entries_in (used h)) (subst (λ l. AllHold l) end2 whole.0) (subst (λ l. IsPermutation (entries_in (used h)) (entries_in l)) end2 whole.1) in
        record {
          front = take-append-le (h.count - 1) ys (drop h.count h.memory.now) (omega (arith, ylong));
          part = part h.memory.now ys h.count h.places h.few h.within ylong;
          filled = length_held (take (h.count - 1) ys) split.0;
          gave = split.1;
        }
