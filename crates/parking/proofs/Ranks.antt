-- The ranks of a list of entries, as its entries change.
use Rattle.std.proofs.Common.{◌≡◌, ℕ, ◌<◌, List, [], ◌∷◌, map, length, get_or, take, set, sym, refl, ap, ◌∙◌, arith}
use Rattle.parking.specs.Heaps.{rank_at}
use Rattle.std.proofs.lemmas.List.Edits.{Swapped, swapped_from_swap}
use Rattle.std.proofs.lemmas.List.{get_or-map, get_or-take, get_or-set_other, map-set, length-map, take-map}
use Rattle.std.specs.List.{swap}

-- an entry that was read
pub rank_read : {X : Type 0} (rank : X → ℕ) (xs : List X) (i : ℕ) (x : X) → i < length xs → x ≡ get_or xs i x → rank x ≡ rank_at rank xs i
rank_read rank xs i x within is = ap rank is ∙ sym (get_or-map rank xs i x 0 within)

pub map_exchanged : {X Y : Type 0} (f : X → Y) (xs : List X) (i j : ℕ) → i < length xs → j < length xs → map f (swap xs i j) ≡ swap (map f xs) i j
map_exchanged f [] i j a b = refl
map_exchanged f (d ∷ xs) i j a b =
    let s = map-set f (set (d ∷ xs) i (get_or (d ∷ xs) j d)) j (get_or (d ∷ xs) i d) in
    let t = map-set f (d ∷ xs) i (get_or (d ∷ xs) j d) in
    s
    ∙ ap (λ l. set l j (f (get_or (d ∷ xs) i d))) t
    ∙ ap (λ y. set (set (map f (d ∷ xs)) i y) j (f (get_or (d ∷ xs) i d))) (sym (get_or-map f (d ∷ xs) j d (f d) b))
    ∙ ap (λ y. set (set (map f (d ∷ xs)) i (get_or (map f (d ∷ xs)) j (f d))) j y) (sym (get_or-map f (d ∷ xs) i d (f d) a))

-- two entries in each other's place
pub ranks_swapped : {X : Type 0} (rank : X → ℕ) (xs ys : List X) (i j : ℕ) → i < length xs → j < length xs → ys ≡ swap xs i j → Swapped (rank_at rank xs) (rank_at rank ys) i j
ranks_swapped rank xs ys i j a b is =
    let n = length-map xs rank in
    swapped_from_swap (map rank xs) (map rank ys) i j 0 (omega (arith, n, a)) (omega (arith, n, b)) (ap (λ l. map rank l) is ∙ map_exchanged rank xs i j a b)

-- the first entries alone
pub rank_taken : {X : Type 0} (rank : X → ℕ) (xs : List X) (n k : ℕ) → k < n → rank_at rank (take n xs) k ≡ rank_at rank xs k
rank_taken rank xs n k lt = ap (λ l. get_or l k 0) (sym (take-map rank n xs)) ∙ get_or-take n (map rank xs) k 0 lt

-- an entry was written elsewhere
pub rank_set_other : {X : Type 0} (rank : X → ℕ) (xs : List X) (i k : ℕ) (x : X) → (k ≡ i → ⊥) → rank_at rank (set xs i x) k ≡ rank_at rank xs k
rank_set_other rank xs i k x ne = ap (λ l. get_or l k 0) (map-set rank xs i x) ∙ get_or-set_other (map rank xs) i k (rank x) 0 ne
