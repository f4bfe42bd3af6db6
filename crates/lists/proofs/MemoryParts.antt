-- A part of a memory, before and after it was changed.
use Rattle.std.proofs.Common.{◌≡◌, ℕ, ◌+◌, ◌-◌, ◌≤◌, List, ◌++◌, length, take, drop, sym, ap, ◌∙◌, arith}
use borrow.Rule.Slice.PartMut.{put_mid}
use Rattle.std.proofs.lemmas.List.Edits.{length-between}
use Rattle.std.proofs.lemmas.List.{length-take, length-take-le, length-drop, length-append, drop-drop, take-append-drop}
use Rattle.std.proofs.lemmas.Slice.{take-put_mid_below, between-put_mid, drop-put_mid}
use Rattle.std.specs.List.{between}

-- what a memory holds after its part from a to e became ys
pub record Put {X : Type 0} (xs ys zs : List X) (a e : ℕ) : Type 0 where
  pub before : take a zs ≡ take a xs
  pub part : between a e zs ≡ ys
  pub beyond : drop e zs ≡ drop e xs
  pub long : length zs ≡ length xs

pub put_part : {X : Type 0} (xs ys : List X) (a e : ℕ) → a ≤ e → e ≤ length xs → length ys ≡ length (between a e xs)
    → Put xs ys (put_mid a (e - a) xs ys) a e
put_part xs ys a e ae within same =
    let long : length ys ≡ e - a = same ∙ length-between xs a e within in
    record {
      before = take-put_mid_below a (e - a) xs ys a (omega arith) (omega arith);
      part = between-put_mid a (e - a) xs ys e (omega arith) long;
      beyond = drop-put_mid a (e - a) xs ys e (omega arith) (omega arith) long;
      long = simp (length-append, length-take, length-drop) (omega arith);
    }

-- a memory is what lies before a part, the part, and what lies beyond it
pub whole_from_parts : {X : Type 0} (xs : List X) (a e : ℕ) → a ≤ e → take a xs ++ (between a e xs ++ drop e xs) ≡ xs
whole_from_parts xs a e ae =
    let to : a + (e - a) ≡ e = omega arith in
    ap (λ n. take a xs ++ (between a e xs ++ drop n xs)) (sym to)
    ∙ ap (λ ys. take a xs ++ (between a e xs ++ ys)) (sym (drop-drop (e - a) a xs))
    ∙ ap (λ ys. take a xs ++ ys) (take-append-drop (e - a) (drop a xs))
    ∙ take-append-drop a xs

pub record Given {X : Type 0} (xs : List X) (a e : ℕ) : Type 0 where
  pub before : take (length (take a xs)) xs ≡ take a xs
  pub beyond : drop (length (take a xs) + length (between a e xs)) xs ≡ drop e xs
  pub long : length xs ≡ length (take a xs) + length (between a e xs) + length (drop e xs)
  pub part : between (length (take a xs)) (length (take a xs) + length (between a e xs)) xs ≡ between a e xs

pub given : {X : Type 0} (xs : List X) (a e : ℕ) → a ≤ e → e ≤ length xs → Given xs a e
given xs a e ae within =
    let first : length (take a xs) ≡ a = length-take-le a xs (omega arith) in
    let mid : length (between a e xs) ≡ e - a = length-between xs a e within in
    let sum : length (take a xs) + length (between a e xs) ≡ e = omega (arith, first, mid) in
    record {
      before = ap (λ n. take n xs) first;
      beyond = ap (λ n. drop n xs) sum;
      long = omega (arith, sum, length-drop e xs);
      part = ap (λ n. between n (length (take a xs) + length (between a e xs)) xs) first ∙ ap (λ n. between a n xs) sum;
    }
