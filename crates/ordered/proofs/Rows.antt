-- A deque's tickets in a row of indices.
use Rattle.std.proofs.Common.{◌≡◌, ℕ, suc, ◌+◌, ◌%◌, ◌^◌, ◌<◌, ◌≤◌, Bool, true, false, cond, ◌&&◌, eqb, ltb, leb, ◌⊎◌, List, [], ◌∷◌, ◌++◌, length, count_by, sym, refl, ap, ◌∙◌, inl, inr, ⊎_elim, arith}
use Rattle.ordered.proofs.Counts.{one_if, count_cons, count_same, counted}
use Rattle.ordered.specs.Below.{Label, label_flipped}
use Rattle.ordered.specs.Deques.{behind, indices_from}
use Rattle.ordered.specs.Lined.{numbered}
use Rattle.parking.specs.Bags.{in_run}
use Rattle.runs.proofs.TicketRuns.{count_all}
use Rattle.runs.specs.Tallies.{same_ticket}
use Rattle.std.proofs.lemmas.Bool.{and_parts, and_from, and_left, eqb-true, eq-eqb, ne_eqb, cases_eq, cases_lt, cond_both, both_ways, lt-leb, le-leb, lt-ltb, le-ltb}
use Rattle.tasks.specs.Orders.{index_raised, index_lowered, index_flipped}

pub raised_lowered : (i : ℕ) → i < 2 ^ 64 → index_raised (index_lowered i) ≡ i
raised_lowered i h = omega arith

pub count_joined : (test : Label → Bool) (i : ℕ) (d : List (ℕ × ℕ)) (t : ℕ × ℕ) → i < 2 ^ 64
    → count_by test (numbered i (d ++ t ∷ [])) ≡ count_by test (numbered i d) + one_if (test ((i + length d) % 2 ^ 64, t))
count_joined test i [] t h =
    let e : i ≡ (i + 0) % 2 ^ 64 = omega arith in
    count_cons test (i, t) [] ∙ omega (arith, ap (λ n. one_if (test (n, t))) e)
count_joined test i (u ∷ d) t h =
    let e : (index_raised i + length d) % 2 ^ 64 ≡ (i + suc (length d)) % 2 ^ 64 = omega arith in
    omega (
      arith,
      count_cons test (i, u) (numbered (index_raised i) (d ++ t ∷ [])),
      count_cons test (i, u) (numbered (index_raised i) d),
      count_joined test (index_raised i) d t (omega arith),
      ap (λ n. one_if (test (n, t))) e,
    )

pub count_flipped : (test : Label → Bool) (i : ℕ) (d : List (ℕ × ℕ))
    → count_by test (numbered (index_flipped i) d) ≡ count_by (λ l. test (label_flipped l)) (numbered i d)
count_flipped test i [] = refl
count_flipped test i (t ∷ d) =
    let e : index_raised (index_flipped i) ≡ index_flipped (index_raised i) = omega arith in
    omega (
      arith,
      count_cons test (index_flipped i, t) (numbered (index_raised (index_flipped i)) d),
      count_cons (λ l. test (label_flipped l)) (i, t) (numbered (index_raised i) d),
      ap (λ n. count_by test (numbered n d)) e,
      count_flipped test (index_raised i) d,
    )

pub count_tickets : (test : ℕ × ℕ → Bool) (i : ℕ) (d : List (ℕ × ℕ)) → count_by (λ (l : Label). test l.1) (numbered i d) ≡ count_by test d
count_tickets test i [] = refl
count_tickets test i (t ∷ d) =
    omega (arith, count_cons (λ (l : Label). test l.1) (i, t) (numbered (index_raised i) d), count_cons test t d, count_tickets test (index_raised i) d)

pub count_indices : (test : ℕ → Bool) (i : ℕ) (d : List (ℕ × ℕ)) → count_by (λ (l : Label). test l.0) (numbered i d) ≡ count_by test (indices_from i (length d))
count_indices test i [] = refl
count_indices test i (t ∷ d) =
    omega (arith, count_cons (λ (l : Label). test l.0) (i, t) (numbered (index_raised i) d), count_cons test i (indices_from (index_raised i) (length d)), count_indices test (index_raised i) d)

pub length_numbered : (i : ℕ) (d : List (ℕ × ℕ)) → count_by (λ l. true) (numbered i d) ≡ length d
length_numbered i d = count_tickets (λ t. true) i d ∙ count_all d

-- behind the head its index does not come again
not_again : (test : Label → Bool) (o k : ℕ) (d : List (ℕ × ℕ)) → o < 2 ^ 64 → 0 < k → k + length d ≤ 2 ^ 64
    → count_by (λ (l : Label). eqb l.0 o && test l) (numbered ((o + k) % 2 ^ 64) d) ≡ 0
not_again test o k [] small some short = refl
not_again test o k (t ∷ d) small some short =
    let i : ℕ = (o + k) % 2 ^ 64 in
    let other : i ≡ o → ⊥ = λ e. omega (arith, e, small, some, short) in
    let no : (eqb i o && test (i, t)) ≡ false = and_left (eqb i o) (test (i, t)) (ne_eqb i o other) in
    let z : one_if (eqb i o && test (i, t)) ≡ 0 = ap one_if no in
    let e : index_raised i ≡ (o + (k + 1)) % 2 ^ 64 = omega arith in
    omega (
      arith,
      z,
      count_cons (λ (l : Label). eqb l.0 o && test l) (i, t) (numbered (index_raised i) d),
      ap (λ n. count_by (λ (l : Label). eqb l.0 o && test l) (numbered n d)) e,
      not_again test o (k + 1) d small (omega arith) (omega (arith, short)),
    )

same_is : (t u : ℕ × ℕ) → same_ticket t u ≡ true → u ≡ t
same_is t u e =
    let p = and_parts (eqb t.0 u.0) (eqb t.1 u.1) e in
    let a : u.0 ≡ t.0 = sym (eqb-true t.0 u.0 p.0) in
    let c : u.1 ≡ t.1 = sym (eqb-true t.1 u.1 p.1) in
    ap (λ n. (n, u.1)) a ∙ ap (λ n. (t.0, n)) c

-- a ticket that is counted at the first index is the head
pub head_is : (i : ℕ) (d : List (ℕ × ℕ)) (t : ℕ × ℕ) → i < 2 ^ 64 → length d ≤ 65536
    → 0 < count_by (λ (l : Label). eqb l.0 i && same_ticket t l.1) (numbered i d) → d ≡ t ∷ behind d
head_is i [] t small short some = absurd (omega (arith, some))
head_is i (u ∷ d) t small short some =
    let test : Label → Bool = λ l. same_ticket t l.1 in
    let z = not_again test i 1 d small (omega arith) (omega (arith, short)) in
    let c = count_cons (λ (l : Label). eqb l.0 i && test l) (i, u) (numbered (index_raised i) d) in
    let yes : (eqb i i && same_ticket t u) ≡ true = counted (eqb i i && same_ticket t u) (omega (arith, some, z, c)) in
    ap (λ v. v ∷ d) (same_is t u (and_parts (eqb i i) (same_ticket t u) yes).1)

-- the head is counted at the first index
pub head_counted : (test : Label → Bool) (i : ℕ) (t : ℕ × ℕ) (d : List (ℕ × ℕ)) → test (i, t) ≡ true
    → 0 < count_by (λ (l : Label). eqb l.0 i && test l) (numbered i (t ∷ d))
head_counted test i t d e =
    let yes : one_if (eqb i i && test (i, t)) ≡ 1 = ap one_if (and_from (eqb i i) (test (i, t)) (eq-eqb i i refl) e) in
    omega (arith, yes, count_cons (λ (l : Label). eqb l.0 i && test l) (i, t) (numbered (index_raised i) d))

-- every index is below 2^64
pub none_beyond : (i : ℕ) (d : List (ℕ × ℕ)) → i < 2 ^ 64 → count_by (λ (l : Label). leb (2 ^ 64) l.0) (numbered i d) ≡ 0
none_beyond i [] small = refl
none_beyond i (t ∷ d) small =
    let z : one_if (leb (2 ^ 64) i) ≡ 0 = ap one_if (lt-leb (2 ^ 64) i small) in
    omega (arith, z, count_cons (λ (l : Label). leb (2 ^ 64) l.0) (i, t) (numbered (index_raised i) d), none_beyond (index_raised i) d (omega arith))

-- no index is below the first, where they do not wrap
pub none_before : (o i : ℕ) (d : List (ℕ × ℕ)) → o ≤ i → i + length d ≤ 2 ^ 64 → count_by (λ (l : Label). ltb l.0 o) (numbered i d) ≡ 0
none_before o i [] low short = refl
none_before o i (t ∷ []) low short =
    let z : one_if (ltb i o) ≡ 0 = ap one_if (le-ltb i o low) in
    omega (arith, z, count_cons (λ (l : Label). ltb l.0 o) (i, t) [])
none_before o i (t ∷ (u ∷ d)) low short =
    let z : one_if (ltb i o) ≡ 0 = ap one_if (le-ltb i o low) in
    omega (
      arith,
      z,
      count_cons (λ (l : Label). ltb l.0 o) (i, t) (numbered (index_raised i) (u ∷ d)),
      none_before o (index_raised i) (u ∷ d) (omega (arith, low, short)) (omega (arith, short)),
    )

one_if_most : (b : Bool) → one_if b ≤ 1
one_if_most true = omega arith
one_if_most false = omega arith

and_true : (b : Bool) → b ≡ (b && true)
and_true true = refl
and_true false = refl

-- no index comes twice
pub once_each : (j i : ℕ) (d : List (ℕ × ℕ)) → i < 2 ^ 64 → length d ≤ 2 ^ 64 → count_by (λ (l : Label). eqb l.0 j) (numbered i d) ≤ 1
once_each j i [] small short = omega arith
once_each j i (t ∷ d) small short =
    let rest : List Label = numbered (index_raised i) d in
    let c = count_cons (λ (l : Label). eqb l.0 j) (i, t) rest in
    ⊎_elim
    (λ (e : i ≡ j).
    let z : count_by (λ (l : Label). eqb l.0 j) rest ≡ 0
    = ap (λ k. count_by (λ (l : Label). eqb l.0 k) rest) (sym e)
    ∙ count_same (λ (l : Label). eqb l.0 i) (λ l. eqb l.0 i && true) (λ l. and_true (eqb l.0 i)) rest
    ∙ not_again (λ l. true) i 1 d small (omega arith) (omega (arith, short)) in
    omega (arith, c, z, one_if_most (eqb i j)))
    (λ (other : i ≡ j → ⊥).
    let z : one_if (eqb i j) ≡ 0 = ap one_if (ne_eqb i j other) in
    omega (arith, c, z, once_each j (index_raised i) d (omega arith) (omega (arith, short))))
    (cases_eq i j)

not_in_run : (i n j : ℕ) → in_run i n j ≡ false → (j < i) ⊎ (i + n ≤ j)
not_in_run i n j e =
    ⊎_elim (λ a. inl a)
    (λ a. ⊎_elim (λ c. absurd (both_ways (in_run i n j) e (and_from (leb i j) (ltb j (i + n)) (le-leb i j a) (lt-ltb j (i + n) c)))) (λ c. inr c) (cases_lt j (i + n)))
    (cases_lt j i)

-- no index outside the row
outside : (j i : ℕ) (d : List (ℕ × ℕ)) → i + length d ≤ 2 ^ 64 → (j < i) ⊎ (i + length d ≤ j) → count_by (λ (l : Label). eqb l.0 j) (numbered i d) ≡ 0
outside j i [] h out = refl
outside j i (t ∷ []) h out =
    let ne : eqb i j ≡ false = ne_eqb i j (λ e. ⊎_elim (λ a. omega (arith, a, e)) (λ a. omega (arith, a, e)) out) in
    omega (arith, count_cons (λ (l : Label). eqb l.0 j) (i, t) [], ap one_if ne)
outside j i (t ∷ u ∷ d) h out =
    let ne : eqb i j ≡ false = ne_eqb i j (λ e. ⊎_elim (λ a. omega (arith, a, e)) (λ a. omega (arith, a, e)) out) in
    let next : index_raised i ≡ i + 1 = omega arith in
    let there : (j < index_raised i) ⊎ (index_raised i + length (u ∷ d) ≤ j) = ⊎_elim (λ a. inl (omega (arith, a))) (λ a. inr (omega (arith, a, next))) out in
    omega (arith, count_cons (λ (l : Label). eqb l.0 j) (i, t) (numbered (index_raised i) (u ∷ d)), ap one_if ne, outside j (index_raised i) (u ∷ d) (omega (arith, h, next)) there)

-- each index of the row at most once, and no other
pub in_row : (j i : ℕ) (d : List (ℕ × ℕ)) → i < 2 ^ 64 → i + length d ≤ 2 ^ 64 → count_by (λ (l : Label). eqb l.0 j) (numbered i d) ≤ cond (in_run i (length d) j) 1 0
in_row j i d lt h =
    cond_both (in_run i (length d) j) 1 0 (λ n. count_by (λ (l : Label). eqb l.0 j) (numbered i d) ≤ n) (λ e. once_each j i d lt (omega arith))
    (λ e. let z = outside j i d h (not_in_run i (length d) j e) in omega (arith, z))
