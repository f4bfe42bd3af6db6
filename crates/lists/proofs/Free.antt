-- A free list: what taking its first place and putting a place in front do to it.
use Rattle.std.proofs.Common.{◌≡◌, ℕ, zero, suc, ◌+◌, ◌<◌, ◌≤◌, Bool, true, false, cond, not, ◌||◌, eqb, List, ◌∷◌, map, length, get_or, set, count_by, sym, refl, ap, ◌∙◌, subst, arith}
use Rattle.lists.specs.Walks.{walk, arrives, member, distinct, Marks, Chain, Free}
use Rattle.lists.proofs.Walks.{arrives_set, first_within, chain_rest, first_not_rest, chain_set, chain_front}
use Rattle.std.proofs.lemmas.List.{get_or-set_same, length-set}
use Rattle.std.proofs.lemmas.List.FromFn.{get_or-map-range_with_len, length-map-range_with_len}
use Rattle.std.proofs.lemmas.List.Sums.{sum_by-cons}
use Rattle.std.proofs.lemmas.Bool.{or_from, or_left, and_from, not_from_false, eq-eqb, ne_eqb}
use Rattle.std.specs.List.{range_with_len}

-- the first free place is taken, and may be linked anew
pub free_pop : (marks : List Bool) (links : List ℕ) (x v h : ℕ) → Free marks links h → count_by (λ b. b) marks ≡ suc v
    → (h < length marks) × Free (set marks h false) (set links h x) (get_or links h 0)
free_pop marks links x v h free count =
    let chain : Chain marks links (suc v) h = subst (λ n. Chain marks links n h) count free.0 in
    let ends : arrives links v (get_or links h 0) ≡ length marks = subst (λ n. arrives links n h ≡ length marks) count free.1 in
    let rest : Chain (set marks h false) links v (get_or links h 0) = chain_rest marks links v h chain in
    let within : h < length marks = first_within marks links v h chain in
    let clear : get_or (set marks h false) h false ≡ false = get_or-set_same marks h false false within in
    let anew : Chain (set marks h false) (set links h x) v (get_or links h 0) = chain_set (set marks h false) links h x v (get_or links h 0) clear rest in
    let still : arrives (set links h x) v (get_or links h 0) ≡ length (set marks h false)
    = arrives_set links h x v (get_or links h 0) (first_not_rest marks links v h chain) ∙ ends ∙ sym (length-set marks h false) in (
      within,
      subst (λ n. Chain (set marks h false) (set links h x) n (get_or links h 0) × (arrives (set links h x) n (get_or links h 0) ≡ length (set marks h false)))
          (sym rest.2) (anew, still),
    )

-- a place is freed, and comes first
pub free_push : (marks : List Bool) (links : List ℕ) (i h : ℕ) → Free marks links h → get_or marks i false ≡ false → i < length marks → i < length links
    → Free (set marks i true) (set links i h) i
free_push marks links i h free clear within linked =
    let n : ℕ = count_by (λ b. b) marks in
    let anew : Chain marks (set links i h) n h = chain_set marks links i h n h clear free.0 in
    let to : get_or (set links i h) i 0 ≡ h = get_or-set_same links i h 0 linked in
    let more : Chain (set marks i true) (set links i h) (suc n) i = chain_front marks (set links i h) i n h clear within to anew in
    let out : member i (walk links n h) ≡ false = sym (free.0.0 i) ∙ clear in
    let ends : arrives (set links i h) (suc n) i ≡ length (set marks i true)
    = ap (λ k. arrives (set links i h) n k) to ∙ arrives_set links i h n h out ∙ free.1 ∙ sym (length-set marks i true) in
    subst (λ m. Chain (set marks i true) (set links i h) m i × (arrives (set links i h) m i ≡ length (set marks i true)))
    (sym more.2) (more, ends)

-- where no place is free, the head points past the end
pub free_none : (marks : List Bool) (links : List ℕ) (h : ℕ) → Free marks links h → count_by (λ b. b) marks ≡ 0 → h ≡ length marks
free_none marks links h free count = subst (λ n. arrives links n h ≡ length marks) count free.1

-- a fresh free list: every place is free, and each points to the next one
pub walk_counting : (links : List ℕ) (n k h : ℕ) → ((j : ℕ) → j < n → get_or links j 0 ≡ j + 1) → h + k ≤ n → walk links k h ≡ range_with_len h k
walk_counting links n zero h linked fits = refl
walk_counting links n (suc k) h linked fits =
    ap (λ j. h ∷ walk links k j) (linked h (omega arith)) ∙ ap (λ js. h ∷ js) (walk_counting links n k (h + 1) linked (omega arith))

pub arrives_counting : (links : List ℕ) (n k h : ℕ) → ((j : ℕ) → j < n → get_or links j 0 ≡ j + 1) → h + k ≤ n → arrives links k h ≡ h + k
arrives_counting links n zero h linked fits = omega arith
arrives_counting links n (suc k) h linked fits =
    let step : arrives links k (h + 1) ≡ h + 1 + k = arrives_counting links n k (h + 1) linked (omega arith) in
    ap (λ j. arrives links k j) (linked h (omega arith)) ∙ step ∙ omega arith

below_counting : (j a n : ℕ) → j < a → member j (range_with_len a n) ≡ false
below_counting j a zero lt = refl
below_counting j a (suc n) lt =
    or_from (eqb j a) (member j (range_with_len (a + 1) n)) (ne_eqb j a (λ e. omega arith)) (below_counting j (a + 1) n (omega arith))

distinct_counting : (a n : ℕ) → distinct (range_with_len a n) ≡ true
distinct_counting a zero = refl
distinct_counting a (suc n) =
    and_from (not (member a (range_with_len (a + 1) n))) (distinct (range_with_len (a + 1) n))
    (not_from_false (member a (range_with_len (a + 1) n)) (below_counting a (a + 1) n (omega arith))) (distinct_counting (a + 1) n)

marks_counting : (a n j : ℕ) → get_or (map (λ i. true) (range_with_len a n)) j false ≡ member (a + j) (range_with_len a n)
marks_counting a zero j = refl
marks_counting a (suc n) zero = sym (or_left (eqb (a + 0) a) (member (a + 0) (range_with_len (a + 1) n)) (eq-eqb (a + 0) a (omega arith)))
marks_counting a (suc n) (suc j) =
    let on : a + 1 + j ≡ a + suc j = omega arith in
    marks_counting (a + 1) n j ∙ ap (λ k. member k (range_with_len (a + 1) n)) on
    ∙ sym (ap (λ b. b || member (a + suc j) (range_with_len (a + 1) n)) (ne_eqb (a + suc j) a (λ e. omega arith)))

count_counting : (a n : ℕ) → count_by (λ b. b) (map (λ i. true) (range_with_len a n)) ≡ n
count_counting a zero = refl
count_counting a (suc n) =
    let c : count_by (λ b. b) (map (λ i. true) (range_with_len (a + 1) n)) ≡ n = count_counting (a + 1) n in
    let s : count_by (λ b. b) (true ∷ map (λ i. true) (range_with_len (a + 1) n)) ≡ 1 + count_by (λ b. b) (map (λ i. true) (range_with_len (a + 1) n))
    = sum_by-cons (λ (b : Bool). cond b 1 0) true (map (λ i. true) (range_with_len (a + 1) n)) in
    omega (arith, s, c)

pub free_fresh : (n : ℕ) → Free (map (λ i. true) (range_with_len 0 n)) (map (λ i. i + 1) (range_with_len 0 n)) 0
free_fresh n =
    let marks : List Bool = map (λ i. true) (range_with_len 0 n) in
    let links : List ℕ = map (λ i. i + 1) (range_with_len 0 n) in
    let linked : (j : ℕ) → j < n → get_or links j 0 ≡ j + 1 = λ j lt. get_or-map-range_with_len (λ i. i + 1) 0 n j j 0 lt (omega arith) in
    let fits : 0 + n ≤ n = omega arith in
    let way : walk links n 0 ≡ range_with_len 0 n = walk_counting links n n 0 linked fits in
    let all : count_by (λ b. b) marks ≡ n = count_counting 0 n in
    let m : Marks marks (range_with_len 0 n) = λ j. let same : 0 + j ≡ j = omega arith in marks_counting 0 n j ∙ ap (λ k. member k (range_with_len 0 n)) same in
    let ends : arrives links n 0 ≡ length marks = let to : 0 + n ≡ n = omega arith in arrives_counting links n n 0 linked fits ∙ to ∙ sym (length-map-range_with_len (λ i. true) 0 n) in
    subst (λ k. Chain marks links k 0 × (arrives links k 0 ≡ length marks)) (sym all) (
      (
        subst (λ is. Marks marks is) (sym way) m,
        ap distinct way ∙ distinct_counting 0 n,
        all,
      ),
      ends,
    )
