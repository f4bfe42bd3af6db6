-- A swap of a place with its parent, or with the least of its children, moves the one place that is out of order.
use Rattle.std.proofs.Common.{◌≡◌, ℕ, zero, suc, ◌+◌, ◌-◌, ◌/◌, ◌<◌, ◌≤◌, ◌⊎◌, ap, inl, inr, arith}
use Rattle.parking.specs.Heaps.{InOrder, ButAbove, ButBelow, LeastChild}
use Rattle.std.proofs.lemmas.List.Edits.{Swapped}
use Rattle.std.proofs.lemmas.Bool.{cases_eq}

abbrev EitherWay : ℕ → ℕ → Type 0
EitherWay a b = (a ≡ b) ⊎ (a ≡ b → ⊥)

-- place i goes up to its parent p
module _ (r q : ℕ → ℕ) (n i p : ℕ) (pos : 0 < i) (parent : (i - 1) / 2 ≡ p) (swapped : Swapped r q i p) (was : ButAbove r n i) (up : r i < r p) where
  above_up : (k : ℕ) → k + 1 < n → (k + 1 ≡ p → ⊥) → EitherWay (k + 1) i → EitherWay (k / 2) i → EitherWay (k / 2) p → q (k / 2) ≤ q (k + 1)
  above_up k lt ne (inl e) b c =
      let h : k / 2 ≡ p = omega arith in
      omega (arith, up, ap q h, ap q e, swapped.0, swapped.1)
  above_up k lt ne (inr d) (inl e) c =
      let a : q (k + 1) ≡ r (k + 1) = swapped.2 (k + 1) d ne in
      let b : r ((i - 1) / 2) ≤ r (k + 1) = was.1 k lt e pos in
      omega (arith, ap q e, a, b, ap r parent, swapped.0)
  above_up k lt ne (inr d) (inr f) (inl e) =
      let a : q (k + 1) ≡ r (k + 1) = swapped.2 (k + 1) d ne in
      let b : r (k / 2) ≤ r (k + 1) = was.0 k lt d in
      omega (arith, up, ap q e, ap r e, a, b, swapped.1)
  above_up k lt ne (inr d) (inr f) (inr g) =
      let a : q (k + 1) ≡ r (k + 1) = swapped.2 (k + 1) d ne in
      let b : r (k / 2) ≤ r (k + 1) = was.0 k lt d in
      omega (arith, a, b, swapped.2 (k / 2) f g)

  below_up : (k : ℕ) → k + 1 < n → k / 2 ≡ p → 0 < p → EitherWay (k + 1) i → q ((p - 1) / 2) ≤ q (k + 1)
  below_up k lt e po (inl d) =
      let a : q ((p - 1) / 2) ≡ r ((p - 1) / 2) = swapped.2 ((p - 1) / 2) (λ x. omega arith) (λ x. omega arith) in
      let b : r ((p - 1) / 2) ≤ r (p - 1 + 1) = was.0 (p - 1) (omega arith) (λ x. omega arith) in
      let one : p - 1 + 1 ≡ p = omega arith in
      omega (arith, a, b, ap r one, ap q d, swapped.0)
  below_up k lt e po (inr d) =
      let a : q ((p - 1) / 2) ≡ r ((p - 1) / 2) = swapped.2 ((p - 1) / 2) (λ x. omega arith) (λ x. omega arith) in
      let b : r ((p - 1) / 2) ≤ r (p - 1 + 1) = was.0 (p - 1) (omega arith) (λ x. omega arith) in
      let one : p - 1 + 1 ≡ p = omega arith in
      let c : q (k + 1) ≡ r (k + 1) = swapped.2 (k + 1) d (λ x. omega arith) in
      let f : r (k / 2) ≤ r (k + 1) = was.0 k lt d in
      omega (arith, a, b, ap r one, ap r e, c, f)

  pub rises : ButAbove q n p
  rises = (
    λ k lt ne. above_up k lt ne (cases_eq (k + 1) i) (cases_eq (k / 2) i) (cases_eq (k / 2) p),
    λ k lt e po. below_up k lt e po (cases_eq (k + 1) i),
  )

-- it stays where it does not rank below its parent
pub risen : (r : ℕ → ℕ) (n i : ℕ) → ButAbove r n i → (0 < i → r ((i - 1) / 2) ≤ r i) → InOrder r n
risen r n i was stop k lt =
    let at : EitherWay (k + 1) i = cases_eq (k + 1) i in
    elim at [
      | inl e ↦
          let h : (i - 1) / 2 ≡ k / 2 = omega arith in
          let s : r ((i - 1) / 2) ≤ r i = stop (omega arith) in
          omega (arith, s, ap r h, ap r e)
      | inr d ↦ was.0 k lt d
    ]

-- a new last place
pub at_end : (r : ℕ → ℕ) (i : ℕ) → InOrder r i → ButAbove r (i + 1) i
at_end r i order = (λ k lt ne. order k (omega arith), λ k lt e po. absurd (omega arith))

-- place i goes down to its least child c
module _ (r q : ℕ → ℕ) (n i c : ℕ) (child : LeastChild r n i c) (swapped : Swapped r q i c) (was : ButBelow r n i) (down : r c < r i) where
  above_down : (k : ℕ) → k + 1 < n → (k / 2 ≡ c → ⊥) → EitherWay (k / 2) i → EitherWay (k + 1) c → EitherWay (k + 1) i → q (k / 2) ≤ q (k + 1)
  above_down k lt ne (inl e) (inl d) f = omega (arith, down, ap q e, ap q d, swapped.0, swapped.1)
  above_down k lt ne (inl e) (inr d) f =
      let a : q (k + 1) ≡ r (k + 1) = swapped.2 (k + 1) (λ x. omega (arith, child.past)) d in
      let b : r c ≤ r (k + 1) = child.least k lt e in
      omega (arith, ap q e, swapped.0, a, b)
  above_down k lt ne (inr e) (inl d) f = absurd (e (let h : (c - 1) / 2 ≡ k / 2 = omega arith in omega (arith, h, child.child)))
  above_down k lt ne (inr e) (inr d) (inl f) =
      let a : q (k / 2) ≡ r (k / 2) = swapped.2 (k / 2) e ne in
      let h : k / 2 ≡ (i - 1) / 2 = omega arith in
      let c1 : c - 1 + 1 ≡ c = omega (arith, child.past) in
      let b : r ((i - 1) / 2) ≤ r (c - 1 + 1) = was.1 (c - 1) (omega (arith, child.past, child.within)) child.child (omega arith) in
      omega (arith, a, b, ap r h, ap r c1, ap q f, swapped.0)
  above_down k lt ne (inr e) (inr d) (inr f) =
      let a : q (k + 1) ≡ r (k + 1) = swapped.2 (k + 1) f d in
      let b : r (k / 2) ≤ r (k + 1) = was.0 k lt e in
      omega (arith, a, b, swapped.2 (k / 2) e ne)

  below_down : (k : ℕ) → k + 1 < n → k / 2 ≡ c → 0 < c → q ((c - 1) / 2) ≤ q (k + 1)
  below_down k lt e po =
      let a : q (k + 1) ≡ r (k + 1) = swapped.2 (k + 1) (λ x. omega (arith, child.past)) (λ x. omega arith) in
      let b : r (k / 2) ≤ r (k + 1) = was.0 k lt (λ x. omega (arith, child.past)) in
      omega (arith, a, b, ap r e, ap q child.child, swapped.0)

  pub sinks : ButBelow q n c
  sinks = (
    λ k lt ne. above_down k lt ne (cases_eq (k / 2) i) (cases_eq (k + 1) c) (cases_eq (k + 1) i),
    λ k lt e po. below_down k lt e po,
  )

-- it stays where none of its children ranks below it
pub sunk : (r : ℕ → ℕ) (n i : ℕ) → ButBelow r n i → ((k : ℕ) → k + 1 < n → k / 2 ≡ i → r i ≤ r (k + 1)) → InOrder r n
sunk r n i was stop k lt =
    let at : EitherWay (k / 2) i = cases_eq (k / 2) i in
    elim at [ inl e ↦ omega (arith, stop k lt e, ap r e) | inr d ↦ was.0 k lt d ]

-- the first place ranks least
least_by : (r : ℕ → ℕ) (n : ℕ) → InOrder r n → (m k : ℕ) → k < m → k < n → r 0 ≤ r k
least_by r n order zero k lt within = absurd (omega arith)
least_by r n order (suc m) zero lt within = omega arith
least_by r n order (suc m) (suc k) lt within =
    let one : k + 1 ≡ suc k = omega arith in
    let a : r 0 ≤ r (k / 2) = least_by r n order m (k / 2) (omega arith) (omega arith) in
    omega (arith, a, order k (omega arith), ap r one)

pub least_first : (r : ℕ → ℕ) (n : ℕ) → InOrder r n → (k : ℕ) → k < n → r 0 ≤ r k
least_first r n order k within = least_by r n order (k + 1) k (omega arith) within
