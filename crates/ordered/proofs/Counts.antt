-- How often a test counts.
use Rattle.std.proofs.Common.{◌≡◌, ℕ, ◌+◌, ◌<◌, ◌≤◌, Bool, true, false, cond, List, [], ◌∷◌, ◌++◌, map, count_by, refl, ap, arith}
use Rattle.std.proofs.lemmas.List.Sums.{sum_by-cons, sum_by-append}
use Rattle.std.specs.List.{AllByRecursion as All}

abbrev pub one_if : Bool → ℕ
one_if b = cond b 1 0

pub count_cons : {X : Type 0} (test : X → Bool) (x : X) (xs : List X) → count_by test (x ∷ xs) ≡ one_if (test x) + count_by test xs
count_cons test x xs = sum_by-cons (λ y. cond (test y) 1 0) x xs

pub count_append : {X : Type 0} (test : X → Bool) (xs ys : List X) → count_by test (xs ++ ys) ≡ count_by test xs + count_by test ys
count_append test xs ys = sum_by-append (λ y. cond (test y) 1 0) xs ys

pub count_map : {X Y : Type 0} (test : Y → Bool) (f : X → Y) (xs : List X) → count_by test (map f xs) ≡ count_by (λ x. test (f x)) xs
count_map test f [] = refl
count_map test f (x ∷ xs) = omega (arith, count_cons test (f x) (map f xs), count_cons (λ y. test (f y)) x xs, count_map test f xs)

pub count_same : {X : Type 0} (p q : X → Bool) → ((x : X) → p x ≡ q x) → (xs : List X) → count_by p xs ≡ count_by q xs
count_same p q same [] = refl
count_same p q same (x ∷ xs) = omega (arith, count_cons p x xs, count_cons q x xs, ap one_if (same x), count_same p q same xs)

-- what is counted has passed the test
pub counted : (b : Bool) → 0 < one_if b → b ≡ true
counted true some = refl
counted false some = absurd (omega (arith, some))

uncounted : (b : Bool) → one_if b ≡ 0 → b ≡ false
uncounted true none = absurd (omega (arith, none))
uncounted false none = refl

one_if_le : (p q : Bool) → (p ≡ true → q ≡ true) → one_if p ≤ one_if q
one_if_le true q h = let e : one_if q ≡ 1 = ap one_if (h refl) in omega (arith, e)
one_if_le false q h = omega arith

-- nothing is counted, so nothing passes
pub none_passes : {X : Type 0} (test : X → Bool) (xs : List X) → count_by test xs ≡ 0 → All (λ x. test x ≡ false) xs
none_passes test [] e = tt
none_passes test (x ∷ xs) e =
    let c = count_cons test x xs in
    (uncounted (test x) (omega (arith, c, e)), none_passes test xs (omega (arith, c, e)))

-- what passes one test passes the other, so it is counted there too
pub count_le : {X : Type 0} (p q : X → Bool) (xs : List X) → All (λ x. p x ≡ true → q x ≡ true) xs → count_by p xs ≤ count_by q xs
count_le p q [] a = omega arith
count_le p q (x ∷ xs) a =
    omega (arith, count_cons p x xs, count_cons q x xs, one_if_le (p x) (q x) a.0, count_le p q xs a.1)
