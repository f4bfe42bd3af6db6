-- Numerals without a sign.
use Rattle.std.proofs.Common.{◌≡◌, ℕ, Bool, cond, List, get_or, drop, ap}
use Rattle.std.proofs.lemmas.Bool.{ne_eqb}
use Rattle.std.specs.Str.Parse.{without_leading_plus}

-- A text that does not begin with a plus is read as it stands.
pub no_plus : (bs : List ℕ) → (get_or bs 0 0 ≡ 43 → ⊥) → without_leading_plus bs ≡ bs
no_plus bs ne = ap (λ (b : Bool). drop (cond b 1 0) bs) (ne_eqb (get_or bs 0 0) 43 ne)
