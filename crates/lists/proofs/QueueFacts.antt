-- A queue in which each number waits at most once stays one.
use Rattle.std.proofs.Common.{◌≡◌, ℕ, Bool, true, false, cond, ◌||◌, eqb, List, [], ◌∷◌, ◌++◌, count_by, refl, ap, ◌∙◌, arith}
use Rattle.lists.proofs.Walks.{distinct_push, distinct_parts, member_push}
use Rattle.lists.specs.Queues.{enqueued, rest}
use Rattle.lists.specs.Walks.{member, distinct}
use Rattle.std.proofs.lemmas.List.Sums.{sum_by-cons}
use Rattle.std.proofs.lemmas.Bool.{both_ways, or_left, or_parts, eq-eqb, eqb-true}

distinct_if : (b : Bool) (w : List ℕ) (i : ℕ) → member i w ≡ b → distinct w ≡ true → distinct (cond b w (w ++ i ∷ [])) ≡ true
distinct_if true w i e d = d
distinct_if false w i e d = distinct_push i w d e

pub distinct_enqueued : (w : List ℕ) (i : ℕ) → distinct w ≡ true → distinct (enqueued w i) ≡ true
distinct_enqueued w i d = distinct_if (member i w) w i refl d

pub distinct_rest : (w : List ℕ) → distinct w ≡ true → distinct (rest w) ≡ true
distinct_rest [] d = d
distinct_rest (i ∷ w) d = (distinct_parts i w d).1

member_if : (b : Bool) (w : List ℕ) (i : ℕ) → member i w ≡ b → member i (cond b w (w ++ i ∷ [])) ≡ true
member_if true w i e = e
member_if false w i e = member_push i i w ∙ or_left (eqb i i) (member i w) (eq-eqb i i refl)

pub member_enqueued : (w : List ℕ) (i : ℕ) → member i (enqueued w i) ≡ true
member_enqueued w i = member_if (member i w) w i refl

count_none : (i : ℕ) (w : List ℕ) → member i w ≡ false → count_by (eqb i) w ≡ 0
count_none i [] e = refl
count_none i (j ∷ w) e =
    let p = or_parts (eqb i j) (member i w) e in
    let s = sum_by-cons (λ x. cond (eqb i x) 1 0) j w in
    let z : ◌≡◌ {A = ℕ} (cond (eqb i j) 1 0) 0 = ap (λ (b : Bool). cond b 1 0) p.0 in
    omega (arith, s, z, count_none i w p.1)

-- what waits, waits once
count_one_if : (b : Bool) (i j : ℕ) (w : List ℕ) → eqb i j ≡ b → member j w ≡ false → (b || member i w) ≡ true
    → (member i w ≡ true → count_by (eqb i) w ≡ 1) → count_by (eqb i) (j ∷ w) ≡ 1
count_one_if true i j w is out e later =
    let s = sum_by-cons (λ x. cond (eqb i x) 1 0) j w in
    let z : ◌≡◌ {A = ℕ} (cond (eqb i j) 1 0) 1 = ap (λ (b : Bool). cond b 1 0) is in
    omega (arith, s, z, count_none i w (ap (λ k. member k w) (eqb-true i j is) ∙ out))
count_one_if false i j w is out e later =
    let s = sum_by-cons (λ x. cond (eqb i x) 1 0) j w in
    let z : ◌≡◌ {A = ℕ} (cond (eqb i j) 1 0) 0 = ap (λ (b : Bool). cond b 1 0) is in
    omega (arith, s, z, later e)

pub count_one : (i : ℕ) (w : List ℕ) → distinct w ≡ true → member i w ≡ true → count_by (eqb i) w ≡ 1
count_one i [] d e = absurd (both_ways false refl e)
count_one i (j ∷ w) d e =
    let p = distinct_parts j w d in
    count_one_if (eqb i j) i j w refl p.0 e (count_one i w p.1)
