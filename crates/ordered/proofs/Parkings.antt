-- Outputs that wait. If their indices differ, in ascending order they are one list, whichever order they came in.
use Rattle.std.proofs.Common.{◌≡◌, ℕ, ◌+◌, ◌^◌, ◌<◌, ◌≤◌, Bool, true, false, cond, ◌&&◌, eqb, ltb, ◌⊎◌, List, [], ◌∷◌, map, Some, None, count_by, sym, refl, ap, ◌∙◌, inl, inr, ⊎_elim, arith}
use Rattle.ordered.proofs.Counts.{one_if, count_cons, count_map, count_le}
use Rattle.ordered.specs.Ordered.{parked_with, ascending, bearing_index, without_index}
use Rattle.std.proofs.ByRecursion.{All-weaker, All-map, all_shuffled}
use Rattle.std.proofs.lemmas.List.Sorted.{IsPermutation-sym, sum_by-IsPermutation}
use Rattle.std.proofs.lemmas.Bool.{cond_both, and_left, le-ltb, ltb-true, ltb-false, eqb-true, eq-eqb, ne_eqb, cond-true, cond-false}
use Rattle.std.specs.List.Sorted.{IsPermutation}
use Rattle.std.specs.List.{AllByRecursion as All}
use Rattle.tasks.specs.Orders.{index_flipped, wrapper_flipped}
use Rattle.tasks.specs.declared.order_wrapper.OrderWrapper.{OrderWrapper}

-- how often a test counts them
module _ {O : Type 0} (test : OrderWrapper O → Bool) where
  count_placed : (w v : OrderWrapper O) (vs : List (OrderWrapper O)) (b : Bool) → count_by test (parked_with w vs) ≡ one_if (test w) + count_by test vs
      → count_by test (cond b (v ∷ parked_with w vs) (w ∷ (v ∷ vs))) ≡ one_if (test w) + count_by test (v ∷ vs)
  count_placed w v vs true e = omega (arith, e, count_cons test v (parked_with w vs), count_cons test v vs)
  count_placed w v vs false e = count_cons test w (v ∷ vs)

  pub count_parked_with : (w : OrderWrapper O) (vs : List (OrderWrapper O)) → count_by test (parked_with w vs) ≡ one_if (test w) + count_by test vs
  count_parked_with w [] = count_cons test w []
  count_parked_with w (v ∷ vs) = count_placed w v vs (ltb v.index w.index) (count_parked_with w vs)

  pub count_ascending : (ws : List (OrderWrapper O)) → count_by test (ascending ws) ≡ count_by test ws
  count_ascending [] = refl
  count_ascending (w ∷ ws) = omega (arith, count_parked_with w (ascending ws), count_cons test w ws, count_ascending ws)

-- the one that bears an index is taken out
pub record Taken {O : Type 0} (i : ℕ) (ws : List (OrderWrapper O)) (w : OrderWrapper O) : Type 0 where
  pub bears_it : w.index ≡ i
  pub rest : (test : OrderWrapper O → Bool) → count_by test ws ≡ one_if (test w) + count_by test (without_index i ws)

-- none bears an index
abbrev pub NoneAt : {O : Type 0} → ℕ → List (OrderWrapper O) → Type 0
NoneAt {O} i ws = (test : OrderWrapper O → Bool) → count_by (λ v. eqb v.index i && test v) ws ≡ 0

module _ {O : Type 0} (i : ℕ) where
  taken_by_test : (w v : OrderWrapper O) (vs : List (OrderWrapper O)) (b : Bool) → eqb v.index i ≡ b
      → (bearing_index i vs ≡ Some w → Taken i vs w) → cond b (Some v) (bearing_index i vs) ≡ Some w → Taken i (v ∷ vs) w
  taken_by_test w v vs true e later s =
      let same : v ≡ w = cc in
      record {
        bears_it = ap (λ x. x.index) (sym same) ∙ eqb-true v.index i e;
        rest = λ test.
            let here : without_index i (v ∷ vs) ≡ vs = cond-true (eqb v.index i) vs (v ∷ without_index i vs) e in
            count_cons test v vs ∙ ap (λ x. one_if (test x) + count_by test vs) same ∙ ap (λ us. one_if (test w) + count_by test us) (sym here);
      }
  taken_by_test w v vs false e later s =
      let t : Taken i vs w = later s in
      record {
        bears_it = t.bears_it;
        rest = λ test.
            let there : without_index i (v ∷ vs) ≡ v ∷ without_index i vs = cond-false (eqb v.index i) vs (v ∷ without_index i vs) e in
            omega (
              arith,
              count_cons test v vs,
              t.rest test,
              count_cons test v (without_index i vs),
              ap (λ us. count_by test us) there,
            );
      }

  pub taken : (w : OrderWrapper O) (ws : List (OrderWrapper O)) → bearing_index i ws ≡ Some w → Taken i ws w
  taken w [] e = let z : ◌≡◌ {A = ℕ} 0 1 = cc in absurd (omega arith)
  taken w (v ∷ vs) e = taken_by_test w v vs (eqb v.index i) refl (taken w vs) e

  none_by_test : (v : OrderWrapper O) (vs : List (OrderWrapper O)) (b : Bool) → eqb v.index i ≡ b
      → (bearing_index i vs ≡ None → NoneAt i vs) → cond b (Some v) (bearing_index i vs) ≡ None → NoneAt i (v ∷ vs)
  none_by_test v vs true e later s = let z : ◌≡◌ {A = ℕ} 0 1 = cc in absurd (omega arith)
  none_by_test v vs false e later s = λ test.
      let no : one_if (eqb v.index i && test v) ≡ 0 = ap one_if (and_left (eqb v.index i) (test v) e) in
      omega (arith, no, count_cons (λ u. eqb u.index i && test u) v vs, later s test)

  pub none_at : (ws : List (OrderWrapper O)) → bearing_index i ws ≡ None → NoneAt i ws
  none_at [] e = λ test. refl
  none_at (v ∷ vs) e = none_by_test v vs (eqb v.index i) refl (none_at vs) e

  pub none_at_parked : (w : OrderWrapper O) (ws : List (OrderWrapper O)) → eqb w.index i ≡ false → NoneAt i ws → NoneAt i (parked_with w ws)
  none_at_parked w ws e none = λ test.
      let no : one_if (eqb w.index i && test w) ≡ 0 = ap one_if (and_left (eqb w.index i) (test w) e) in
      omega (arith, no, count_parked_with (λ u. eqb u.index i && test u) w ws, none test)

all_both : {X : Type 0} (P Q : X → Type 0) (xs : List X) → All P xs → All (λ x. P x → Q x) xs → All Q xs
all_both P Q [] p f = tt
all_both P Q (x ∷ xs) p f = (f.0 p.0, all_both P Q xs p.1 f.1)

all_unmap : {X Y : Type 0} (P : Y → Type 0) (f : X → Y) (xs : List X) → All P (map f xs) → All (λ x. P (f x)) xs
all_unmap P f [] a = tt
all_unmap P f (x ∷ xs) a = (a.0, all_unmap P f xs a.1)

module _ {O : Type 0} where
  -- no index twice
  abbrev pub Apart : List (OrderWrapper O) → Type 0
  Apart ws = (i : ℕ) → count_by (λ w. eqb w.index i) ws ≤ 1

  -- each index is above those before it
  abbrev pub Rising : List (OrderWrapper O) → Type 0
  Rising [] = Unit {0}
  Rising (w ∷ ws) = All (λ v. w.index < v.index) ws × Rising ws

  -- what holds of each
  module _ (P : OrderWrapper O → Type 0) where
    pub all_parked_with : (w : OrderWrapper O) (vs : List (OrderWrapper O)) → P w → All P vs → All P (parked_with w vs)
    all_parked_with w [] p a = (p, tt)
    all_parked_with w (v ∷ vs) p a =
        cond_both (ltb v.index w.index) (v ∷ parked_with w vs) (w ∷ (v ∷ vs)) (λ us. All P us) (λ e. (a.0, all_parked_with w vs p a.1)) (λ e. (p, a))

    parts_placed : (w v : OrderWrapper O) (vs : List (OrderWrapper O)) (b : Bool) → (All P (parked_with w vs) → P w × All P vs)
        → All P (cond b (v ∷ parked_with w vs) (w ∷ (v ∷ vs))) → P w × All P (v ∷ vs)
    parts_placed w v vs true later a = ((later a.1).0, (a.0, (later a.1).1))
    parts_placed w v vs false later a = a

    pub all_parts : (w : OrderWrapper O) (vs : List (OrderWrapper O)) → All P (parked_with w vs) → P w × All P vs
    all_parts w [] a = a
    all_parts w (v ∷ vs) a = parts_placed w v vs (ltb v.index w.index) (all_parts w vs) a

    pub all_ascending : (ws : List (OrderWrapper O)) → All P ws → All P (ascending ws)
    all_ascending [] a = tt
    all_ascending (w ∷ ws) a = all_parked_with w (ascending ws) a.0 (all_ascending ws a.1)

    pub all_from_ascending : (ws : List (OrderWrapper O)) → All P (ascending ws) → All P ws
    all_from_ascending [] a = tt
    all_from_ascending (w ∷ ws) a =
        let p = all_parts w (ascending ws) a in
        (p.0, all_from_ascending ws p.1)

  others : (i : ℕ) (ws : List (OrderWrapper O)) → count_by (λ w. eqb w.index i) ws ≡ 0 → All (λ w. w.index ≡ i → ⊥) ws
  others i [] e = tt
  others i (w ∷ ws) e =
      let c = count_cons (λ (v : OrderWrapper O). eqb v.index i) w ws in (
        λ same.
            let one : one_if (eqb w.index i) ≡ 1 = ap one_if (eq-eqb w.index i same) in
            omega (arith, c, e, one),
        others i ws (omega (arith, c, e)),
      )

  pub rising_parked_with : (w : OrderWrapper O) (vs : List (OrderWrapper O)) → Rising vs → All (λ v. v.index ≡ w.index → ⊥) vs → Rising (parked_with w vs)
  rising_parked_with w [] r a = (tt, tt)
  rising_parked_with w (v ∷ vs) r a =
      cond_both (ltb v.index w.index) (v ∷ parked_with w vs) (w ∷ (v ∷ vs)) Rising
      (λ e. (all_parked_with (λ u. v.index < u.index) w vs (ltb-true v.index w.index e) r.0, rising_parked_with w vs r.1 a.1))
      (λ e.
      let least : w.index < v.index = omega (arith, ltb-false v.index w.index e, a.0) in
      ((least, All-weaker (λ u. v.index < u.index) (λ u. w.index < u.index) (λ u h. omega (arith, least, h)) vs r.0), r))

  apart_rest : (w : OrderWrapper O) (ws : List (OrderWrapper O)) → Apart (w ∷ ws) → Apart ws
  apart_rest w ws apart = λ i. omega (arith, apart i, count_cons (λ (v : OrderWrapper O). eqb v.index i) w ws)

  apart_others : (w : OrderWrapper O) (ws : List (OrderWrapper O)) → Apart (w ∷ ws) → All (λ v. v.index ≡ w.index → ⊥) ws
  apart_others w ws apart =
      let i : ℕ = w.index in
      let one : one_if (eqb i i) ≡ 1 = ap one_if (eq-eqb i i refl) in
      others i ws (omega (arith, one, apart i, count_cons (λ (v : OrderWrapper O). eqb v.index i) w ws))

  pub rising_ascending : (ws : List (OrderWrapper O)) → Apart ws → Rising (ascending ws)
  rising_ascending [] apart = tt
  rising_ascending (w ∷ ws) apart =
      rising_parked_with w (ascending ws) (rising_ascending ws (apart_rest w ws apart))
      (all_ascending (λ v. v.index ≡ w.index → ⊥) ws (apart_others w ws apart))

  -- two lists that rise and have the same elements are equal
  same_rising : (xs ys : List (OrderWrapper O)) → Rising xs → Rising ys
      → ((P : OrderWrapper O → Type 0) → All P xs → All P ys) → ((P : OrderWrapper O → Type 0) → All P ys → All P xs) → xs ≡ ys
  same_rising [] [] r q f g = refl
  same_rising [] (y ∷ ys) r q f g = absurd (f (λ v. ⊥) tt).0
  same_rising (x ∷ xs) [] r q f g = absurd (g (λ v. ⊥) tt).0
  same_rising (x ∷ xs) (y ∷ ys) r q f g =
      let low : y.index ≤ x.index = (g (λ v. y.index ≤ v.index) (omega arith, All-weaker (λ v. y.index < v.index) (λ v. y.index ≤ v.index) (λ v h. omega (arith, h)) ys q.0)).0 in
      let either : (y ≡ x) ⊎ (x.index < y.index)
      = (f (λ v. (v ≡ x) ⊎ (x.index < v.index)) (inl refl, All-weaker (λ v. x.index < v.index) (λ v. (v ≡ x) ⊎ (x.index < v.index)) (λ v h. inr h) xs r.0)).0 in
      let same : y ≡ x = ⊎_elim (λ e. e) (λ h. absurd (omega (arith, h, low))) either in
      let index : y.index ≡ x.index = ap (λ v. v.index) same in
      let rest : xs ≡ ys = same_rising xs ys r.1 q.1
      (λ P a. all_both (λ v. y.index < v.index) P ys q.0
      (All-weaker (λ v. x.index < v.index → P v) (λ v. y.index < v.index → P v) (λ v h k. h (omega (arith, k, index))) ys
      (f (λ v. x.index < v.index → P v) (λ k. absurd (omega (arith, k)), All-weaker P (λ v. x.index < v.index → P v) (λ v h k. h) xs a)).1))
      (λ P a. all_both (λ v. x.index < v.index) P xs r.0
      (All-weaker (λ v. y.index < v.index → P v) (λ v. x.index < v.index → P v) (λ v h k. h (omega (arith, k, index))) xs
      (g (λ v. y.index < v.index → P v) (λ k. absurd (omega (arith, k)), All-weaker P (λ v. y.index < v.index → P v) (λ v h k. h) ys a)).1)) in
      ap (λ v. v ∷ xs) (sym same) ∙ ap (λ us. y ∷ us) rest

  pub apart_shuffled : (xs ys : List (OrderWrapper O)) → IsPermutation xs ys → Apart xs → Apart ys
  apart_shuffled xs ys h apart = λ i. omega (arith, apart i, sum_by-IsPermutation (λ (w : OrderWrapper O). cond (eqb w.index i) 1 0) xs ys h)

  -- as Apart lists that have the same elements are, in ascending order
  ascending_same : (xs ys : List (OrderWrapper O)) → Apart xs → Apart ys
      → ((P : OrderWrapper O → Type 0) → All P xs → All P ys) → ((P : OrderWrapper O → Type 0) → All P ys → All P xs) → ascending xs ≡ ascending ys
  ascending_same xs ys p q f g =
      same_rising (ascending xs) (ascending ys) (rising_ascending xs p) (rising_ascending ys q)
      (λ P a. all_ascending P ys (f P (all_from_ascending P xs a)))
      (λ P a. all_ascending P xs (g P (all_from_ascending P ys a)))

  pub ascending_shuffled : (xs ys : List (OrderWrapper O)) → IsPermutation xs ys → Apart xs → ascending xs ≡ ascending ys
  ascending_shuffled xs ys h apart =
      ascending_same xs ys apart (apart_shuffled xs ys h apart) (λ P a. all_shuffled P xs ys h a) (λ P a. all_shuffled P ys xs (IsPermutation-sym xs ys h) a)

  -- putting them in order before a change of each makes no difference
  pub ascending_map : (f : OrderWrapper O → OrderWrapper O) (ws : List (OrderWrapper O)) → Apart (map f ws) → ascending (map f (ascending ws)) ≡ ascending (map f ws)
  ascending_map f ws apart =
      ascending_same (map f (ascending ws)) (map f ws)
      (λ i. omega (
        arith,
        apart i,
        count_map (λ (w : OrderWrapper O). eqb w.index i) f ws,
        count_map (λ (w : OrderWrapper O). eqb w.index i) f (ascending ws),
        count_ascending (λ w. eqb (f w).index i) ws,
      ))
      apart
      (λ P a. All-map P f ws (all_from_ascending (λ w. P (f w)) ws (all_unmap P f (ascending ws) a)))
      (λ P a. All-map P f (ascending ws) (all_ascending (λ w. P (f w)) ws (all_unmap P f ws a)))

  -- flipped indices still differ
  pub apart_flipped : (ws : List (OrderWrapper O)) → All (λ w. w.index < 2 ^ 64) ws → Apart ws → Apart (map wrapper_flipped ws)
  apart_flipped ws within apart = λ i. omega (
    arith,
    apart (index_flipped i),
    count_map (λ (w : OrderWrapper O). eqb w.index i) wrapper_flipped ws,
    count_le (λ w. eqb (index_flipped w.index) i) (λ w. eqb w.index (index_flipped i)) ws
        (All-weaker (λ (w : OrderWrapper O). w.index < 2 ^ 64) (λ w. eqb (index_flipped w.index) i ≡ true → eqb w.index (index_flipped i) ≡ true)
        (λ w small e. eq-eqb w.index (index_flipped i) (omega (arith, small, eqb-true (index_flipped w.index) i e))) ws within),
  )

  -- the least stands first
  first_placed : (w : OrderWrapper O) (vs : List (OrderWrapper O)) → All (λ v. w.index ≤ v.index) vs → parked_with w vs ≡ w ∷ vs
  first_placed w [] a = refl
  first_placed w (v ∷ vs) a = cond-false (ltb v.index w.index) (v ∷ parked_with w vs) (w ∷ (v ∷ vs)) (le-ltb v.index w.index a.0)

  pub ascending_least : (w : OrderWrapper O) (ws : List (OrderWrapper O)) → All (λ v. w.index ≤ v.index) ws → ascending (w ∷ ws) ≡ w ∷ ascending ws
  ascending_least w ws a = first_placed w (ascending ws) (all_ascending (λ v. w.index ≤ v.index) ws a)

  none_bears : (i : ℕ) (ws : List (OrderWrapper O)) → All (λ v. i < v.index) ws → bearing_index i ws ≡ None
  none_bears i [] a = refl
  none_bears i (w ∷ ws) a =
      cond-false (eqb w.index i) (Some w) (bearing_index i ws) (ne_eqb w.index i (λ e. omega (arith, e, a.0))) ∙ none_bears i ws a.1

  -- if none is below an index, only the first can bear it
  pub first_bears : (i : ℕ) (w : OrderWrapper O) (ws : List (OrderWrapper O)) → Rising (w ∷ ws) → i ≤ w.index
      → bearing_index i (w ∷ ws) ≡ cond (eqb w.index i) (Some w) None
  first_bears i w ws r low =
      ap (λ o. cond (eqb w.index i) (Some w) o) (none_bears i ws (All-weaker (λ v. w.index < v.index) (λ v. i < v.index) (λ v h. omega (arith, h, low)) ws r.0))

  -- one more
  pub ascending_cons : (w : OrderWrapper O) (ws : List (OrderWrapper O)) → ascending (w ∷ ws) ≡ parked_with w (ascending ws)
  ascending_cons w ws = refl
