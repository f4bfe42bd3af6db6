-- What setting a mark and a link does to a list that is kept in links.
use Rattle.std.proofs.Common.{◌≡◌, ℕ, zero, suc, ◌+◌, ◌<◌, ◌≤◌, Bool, true, false, cond, not, ◌||◌, eqb, ◌≢◌, List, [], ◌∷◌, ◌++◌, length, get_or, set, count_by, sym, refl, ap, ◌∙◌, subst, ⊎_elim, arith}
use Rattle.lists.specs.Walks.{walk, arrives, member, distinct, last_or, Marks, Chain}
use Rattle.std.proofs.lemmas.List.{get_or-set_same, get_or-set_other, get_or_past, length-set}
use Rattle.std.proofs.lemmas.List.Sums.{sum_by-set, count_by-le-length}
use Rattle.std.proofs.lemmas.Bool.{or_parts, or_from, and_parts, and_from, not-true, not_from_false, eqb-false, eq-eqb, ne_eqb, cases_eq, cases_lt, both_ways, or_left, or_right}

-- a place that a walk does not pass may be linked anew
pub walk_set : (links : List ℕ) (i x n h : ℕ) → member i (walk links n h) ≡ false → walk (set links i x) n h ≡ walk links n h
walk_set links i x zero h out = refl
walk_set links i x (suc n) h out =
    let apart : (eqb i h ≡ false) × (member i (walk links n (get_or links h 0)) ≡ false) = or_parts (eqb i h) (member i (walk links n (get_or links h 0))) out in
    let other : h ≢ i = λ e. eqb-false i h apart.0 (sym e) in
    let same : get_or (set links i x) h 0 ≡ get_or links h 0 = get_or-set_other links i h x 0 other in
    ap (λ k. h ∷ walk (set links i x) n k) same ∙ ap (λ ks. h ∷ ks) (walk_set links i x n (get_or links h 0) apart.1)

pub arrives_set : (links : List ℕ) (i x n h : ℕ) → member i (walk links n h) ≡ false → arrives (set links i x) n h ≡ arrives links n h
arrives_set links i x zero h out = refl
arrives_set links i x (suc n) h out =
    let apart : (eqb i h ≡ false) × (member i (walk links n (get_or links h 0)) ≡ false) = or_parts (eqb i h) (member i (walk links n (get_or links h 0))) out in
    let other : h ≢ i = λ e. eqb-false i h apart.0 (sym e) in
    let same : get_or (set links i x) h 0 ≡ get_or links h 0 = get_or-set_other links i h x 0 other in
    ap (λ k. arrives (set links i x) n k) same ∙ arrives_set links i x n (get_or links h 0) apart.1

-- a marked place lies within the marks
pub marked_within : (marks : List Bool) (i : ℕ) → get_or marks i false ≡ true → i < length marks
marked_within marks i e =
    ⊎_elim (λ lt. lt) (λ past. absurd (both_ways (get_or marks i false) (get_or_past marks i false past) e)) (cases_lt i (length marks))

-- one mark less, one mark more
pub count_clear : (marks : List Bool) (i n : ℕ) → get_or marks i false ≡ true → count_by (λ b. b) marks ≡ suc n → count_by (λ b. b) (set marks i false) ≡ n
count_clear marks i n e c =
    let s : count_by (λ b. b) (set marks i false) + cond (get_or marks i false) 1 0 ≡ count_by (λ b. b) marks + 0 = sum_by-set (λ b. cond b 1 0) marks i false false (marked_within marks i e) in
    let k : ◌≡◌ {A = ℕ} (cond (get_or marks i false) 1 0) 1 = ap (λ (b : Bool). cond b 1 0) e in
    omega (arith, s, k, c)

pub count_mark : (marks : List Bool) (i n : ℕ) → get_or marks i false ≡ false → i < length marks → count_by (λ b. b) marks ≡ n → count_by (λ b. b) (set marks i true) ≡ suc n
count_mark marks i n e lt c =
    let s : count_by (λ b. b) (set marks i true) + cond (get_or marks i false) 1 0 ≡ count_by (λ b. b) marks + 1 = sum_by-set (λ b. cond b 1 0) marks i true false lt in
    let k : ◌≡◌ {A = ℕ} (cond (get_or marks i false) 1 0) 0 = ap (λ (b : Bool). cond b 1 0) e in
    omega (arith, s, k, c)

-- while a place is not marked there is room for one more
pub room : (marks : List Bool) (i : ℕ) → get_or marks i false ≡ false → i < length marks → count_by (λ b. b) marks < length marks
room marks i e lt =
    let more : count_by (λ b. b) (set marks i true) ≡ suc (count_by (λ b. b) marks) = count_mark marks i (count_by (λ b. b) marks) e lt refl in
    let most : count_by (λ b. b) (set marks i true) ≤ length (set marks i true) = count_by-le-length (λ b. b) (set marks i true) in
    omega (arith, more, most, length-set marks i true)

-- clearing the mark of the first place leaves the rest
marks_rest : (marks : List Bool) (h : ℕ) (is : List ℕ) → Marks marks (h ∷ is) → member h is ≡ false → Marks (set marks h false) is
marks_rest marks h is m out i =
    ⊎_elim
    (λ e. subst (λ k. get_or (set marks h false) k false ≡ member k is) (sym e)
    (get_or-set_same marks h false false (marked_within marks h (m h ∙ or_left (eqb h h) (member h is) (eq-eqb h h refl))) ∙ sym out))
    (λ ne. get_or-set_other marks h i false false ne ∙ m i ∙ ap (λ b. b || member i is) (ne_eqb i h ne))
    (cases_eq i h)

-- marking a place puts it in front
marks_more : (marks : List Bool) (h : ℕ) (is : List ℕ) → Marks marks is → h < length marks → Marks (set marks h true) (h ∷ is)
marks_more marks h is m lt i =
    ⊎_elim
    (λ e. subst (λ k. get_or (set marks h true) k false ≡ (eqb k h || member k is)) (sym e)
    (get_or-set_same marks h true false lt ∙ sym (or_left (eqb h h) (member h is) (eq-eqb h h refl))))
    (λ ne. get_or-set_other marks h i true false ne ∙ m i ∙ sym (ap (λ b. b || member i is) (ne_eqb i h ne)))
    (cases_eq i h)

pub distinct_parts : (h : ℕ) (is : List ℕ) → distinct (h ∷ is) ≡ true → (member h is ≡ false) × (distinct is ≡ true)
distinct_parts h is d =
    let p : (not (member h is) ≡ true) × (distinct is ≡ true) = and_parts (not (member h is)) (distinct is) d in
    (not-true (member h is) p.0, p.1)

-- the first place of a chain lies within the marks, and is marked
pub first_marked : (marks : List Bool) (links : List ℕ) (n h : ℕ) → Chain marks links (suc n) h → get_or marks h false ≡ true
first_marked marks links n h c = c.0 h ∙ or_left (eqb h h) (member h (walk links n (get_or links h 0))) (eq-eqb h h refl)

pub first_within : (marks : List Bool) (links : List ℕ) (n h : ℕ) → Chain marks links (suc n) h → h < length marks
first_within marks links n h c = marked_within marks h (first_marked marks links n h c)

-- a chain without its first place
pub chain_rest : (marks : List Bool) (links : List ℕ) (n h : ℕ) → Chain marks links (suc n) h → Chain (set marks h false) links n (get_or links h 0)
chain_rest marks links n h c =
    let p : (member h (walk links n (get_or links h 0)) ≡ false) × (distinct (walk links n (get_or links h 0)) ≡ true) = distinct_parts h (walk links n (get_or links h 0)) c.1 in (
      marks_rest marks h (walk links n (get_or links h 0)) c.0 p.0,
      p.1,
      count_clear marks h n (first_marked marks links n h c) c.2,
    )

-- the first place is no later one
pub first_not_rest : (marks : List Bool) (links : List ℕ) (n h : ℕ) → Chain marks links (suc n) h → member h (walk links n (get_or links h 0)) ≡ false
first_not_rest marks links n h c = (distinct_parts h (walk links n (get_or links h 0)) c.1).0

-- a place that is not marked may be linked anew
pub chain_set : (marks : List Bool) (links : List ℕ) (i x n h : ℕ) → get_or marks i false ≡ false → Chain marks links n h → Chain marks (set links i x) n h
chain_set marks links i x n h e c =
    let same : walk (set links i x) n h ≡ walk links n h = walk_set links i x n h (sym (c.0 i) ∙ e) in (
      subst (λ is. Marks marks is) (sym same) c.0,
      ap distinct same ∙ c.1,
      c.2,
    )

-- a place more in front
pub chain_front : (marks : List Bool) (links : List ℕ) (i n h : ℕ) → get_or marks i false ≡ false → i < length marks → get_or links i 0 ≡ h → Chain marks links n h → Chain (set marks i true) links (suc n) i
chain_front marks links i n h e lt to c =
    let at : Chain marks links n (get_or links i 0) = subst (λ k. Chain marks links n k) (sym to) c in (
      marks_more marks i (walk links n (get_or links i 0)) at.0 lt,
      and_from (not (member i (walk links n (get_or links i 0)))) (distinct (walk links n (get_or links i 0)))
          (not_from_false (member i (walk links n (get_or links i 0))) (sym (at.0 i) ∙ e)) at.1,
      count_mark marks i n e lt c.2,
    )

-- the last place of a list is in it
last_member : (h : ℕ) (is : List ℕ) → member (last_or h is) (h ∷ is) ≡ true
last_member h [] = or_left (eqb h h) false (eq-eqb h h refl)
last_member h (i ∷ is) = or_right (eqb (last_or i is) h) (member (last_or i is) (i ∷ is)) (last_member i is)

-- a place more at the end: the last place is linked to it
pub walk_back : (links : List ℕ) (t i n h : ℕ) → t < length links → distinct (walk links (suc n) h) ≡ true → last_or t (walk links (suc n) h) ≡ t
    → walk (set links t i) (suc (suc n)) h ≡ walk links (suc n) h ++ i ∷ []
walk_back links t i zero h lt d last =
    ap (λ k. h ∷ k ∷ []) (subst (λ k. get_or (set links t i) k 0 ≡ i) (sym last) (get_or-set_same links t i 0 lt))
walk_back links t i (suc n) h lt d last =
    let p : (member h (walk links (suc n) (get_or links h 0)) ≡ false) × (distinct (walk links (suc n) (get_or links h 0)) ≡ true) = distinct_parts h (walk links (suc n) (get_or links h 0)) d in
    let other : h ≢ t = λ e. both_ways (member h (walk links (suc n) (get_or links h 0))) p.0
    (subst (λ k. member k (walk links (suc n) (get_or links h 0)) ≡ true) (last ∙ sym e) (last_member (get_or links h 0) (walk links n (get_or links (get_or links h 0) 0)))) in
    let same : get_or (set links t i) h 0 ≡ get_or links h 0 = get_or-set_other links t h i 0 other in
    ap (λ k. h ∷ walk (set links t i) (suc (suc n)) k) same
    ∙ ap (λ ks. h ∷ ks) (walk_back links t i n (get_or links h 0) lt p.1 last)

or_swap : (a b c : Bool) → (a || (b || c)) ≡ (b || (a || c))
or_swap true true c = refl
or_swap true false c = refl
or_swap false true c = refl
or_swap false false c = refl

pub member_push : (j i : ℕ) (is : List ℕ) → member j (is ++ i ∷ []) ≡ (eqb j i || member j is)
member_push j i [] = refl
member_push j i (k ∷ is) =
    ap (λ b. eqb j k || b) (member_push j i is) ∙ or_swap (eqb j k) (eqb j i) (member j is)

pub distinct_push : (i : ℕ) (is : List ℕ) → distinct is ≡ true → member i is ≡ false → distinct (is ++ i ∷ []) ≡ true
distinct_push i [] d out = refl
distinct_push i (k ∷ is) d out =
    let p : (member k is ≡ false) × (distinct is ≡ true) = distinct_parts k is d in
    let q : (eqb i k ≡ false) × (member i is ≡ false) = or_parts (eqb i k) (member i is) out in
    and_from (not (member k (is ++ i ∷ []))) (distinct (is ++ i ∷ []))
    (not_from_false (member k (is ++ i ∷ [])) (member_push k i is ∙ or_from (eqb k i) (member k is) (ne_eqb k i (λ e. eqb-false i k q.0 (sym e))) p.0))
    (distinct_push i is p.1 q.1)

pub last_push : (d i : ℕ) (is : List ℕ) → last_or d (is ++ i ∷ []) ≡ i
last_push d i [] = refl
last_push d i (k ∷ is) = last_push k i is

-- the last place stays the last one while any is left
pub last_rest : (t h : ℕ) (is : List ℕ) → last_or t (h ∷ is) ≡ t → last_or t is ≡ t
last_rest t h [] e = refl
last_rest t h (k ∷ is) e = e

pub last_within : (marks : List Bool) (links : List ℕ) (t n h : ℕ) → Chain marks links (suc n) h → last_or t (walk links (suc n) h) ≡ t → t < length marks
last_within marks links t n h c last =
    marked_within marks t
    (c.0 t ∙ subst (λ k. member k (walk links (suc n) h) ≡ true) last (last_member h (walk links n (get_or links h 0))))

pub chain_back : (marks : List Bool) (links : List ℕ) (t i n h : ℕ) → get_or marks i false ≡ false → i < length marks → t < length links
    → Chain marks links (suc n) h → last_or t (walk links (suc n) h) ≡ t → Chain (set marks i true) (set links t i) (suc (suc n)) h
chain_back marks links t i n h e lt within c last =
    let is : List ℕ = walk links (suc n) h in
    let same : walk (set links t i) (suc (suc n)) h ≡ is ++ i ∷ [] = walk_back links t i n h within c.1 last in
    let m : Marks (set marks i true) (is ++ i ∷ []) = λ j. marks_more marks i is c.0 lt j ∙ sym (member_push j i is) in (
      subst (λ ks. Marks (set marks i true) ks) (sym same) m,
      ap distinct same ∙ distinct_push i is c.1 (sym (c.0 i) ∙ e),
      count_mark marks i (suc n) e lt c.2,
    )

-- the first and only place
pub chain_one : (marks : List Bool) (links : List ℕ) (i h : ℕ) → get_or marks i false ≡ false → i < length marks → Chain marks links 0 h → Chain (set marks i true) links 1 i
chain_one marks links i h e lt c =
    (marks_more marks i [] c.0 lt, refl, count_mark marks i 0 e lt c.2)
