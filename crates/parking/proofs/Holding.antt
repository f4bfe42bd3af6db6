-- Places that all hold an entry, as they are shuffled, and as one is added or taken away.
use Rattle.std.proofs.Common.{◌≡◌, ℕ, ◌<◌, ◌≤◌, List, [], ◌∷◌, ◌++◌, map, length, take, Some, None, Option, sym, refl, ap, ◌∙◌, subst, arith}
use Rattle.parking.proofs.Ranks.{map_exchanged}
use Rattle.parking.specs.Places.{entries_in}
use Rattle.std.proofs.lemmas.List.Elements.{filter_map-append}
use Rattle.std.proofs.lemmas.List.{length-map, map-append, take-map}
use Rattle.std.proofs.lemmas.List.Sorted.{IsPermutation-refl, IsPermutation-trans, IsPermutation-swap, IsPermutation-keeps}
use Rattle.std.specs.List.Sorted.{IsPermutation}
use Rattle.std.specs.List.{swap}

module _ {E : Type 0} where
  abbrev held : List E → List (Option E)
  held es = map (λ e. Some e) es

  -- every place holds an entry
  abbrev pub AllHold : List (Option E) → Type 0
  AllHold places = held (entries_in places) ≡ places

  pub entries_held : (es : List E) → entries_in (held es) ≡ es
  entries_held [] = refl
  entries_held (e ∷ es) = ap (λ l. e ∷ l) (entries_held es)

  -- what is made of entries holds them
  pub hold_from : (es : List E) (ps : List (Option E)) → ps ≡ held es → AllHold ps × (entries_in ps ≡ es)
  hold_from es ps is =
      let e : entries_in ps ≡ es = ap entries_in is ∙ entries_held es in
      (ap held e ∙ sym is, e)

  -- the first of them
  pub hold_taken : (k : ℕ) (ps : List (Option E)) → AllHold ps → AllHold (take k ps)
  hold_taken k ps h = (hold_from (take k (entries_in ps)) (take k ps) (ap (λ l. take k l) (sym h) ∙ take-map (λ e. Some e) k (entries_in ps))).0

  pub length_held : (ps : List (Option E)) → AllHold ps → length (entries_in ps) ≡ length ps
  length_held ps h = sym (length-map (entries_in ps) (λ e. Some e)) ∙ ap length h

  pub entries_append : (ps qs : List (Option E)) → entries_in (ps ++ qs) ≡ entries_in ps ++ entries_in qs
  entries_append ps qs = filter_map-append (λ p. p) ps qs

  pub entries_few : (ps : List (Option E)) → length (entries_in ps) ≤ length ps
  entries_few [] = omega arith
  entries_few (None ∷ ps) = let h = entries_few ps in omega (arith, h)
  entries_few (Some e ∷ ps) = let h = entries_few ps in omega (arith, h)

  -- there are as many entries as places
  pub hold_all : (ps : List (Option E)) → length (entries_in ps) ≡ length ps → AllHold ps
  hold_all [] e = refl
  hold_all (None ∷ ps) e = let h = entries_few ps in absurd (omega (arith, h, e))
  hold_all (Some x ∷ ps) e = ap (λ l. Some x ∷ l) (hold_all ps (omega (arith, e)))

  -- one more at the end
  pub hold_push : (ps : List (Option E)) (e : E) → AllHold ps → AllHold (ps ++ Some e ∷ [])
  hold_push ps e h =
      ap held (entries_append ps (Some e ∷ [])) ∙ map-append (λ x. Some x) (entries_in ps) (e ∷ []) ∙ ap (λ l. l ++ Some e ∷ []) h

  hold_step : (xs l : List (Option E)) (i j : ℕ) → i < length l → j < length l → AllHold l × IsPermutation (entries_in xs) (entries_in l)
      → AllHold (swap l i j) × IsPermutation (entries_in xs) (entries_in (swap l i j))
  hold_step xs l i j a b was =
      let es : List E = entries_in l in
      let n : length es ≡ length l = length_held l was.0 in
      let ia : i < length es = omega (arith, n, a) in
      let jb : j < length es = omega (arith, n, b) in
      let is : swap l i j ≡ held (swap es i j)
      = ap (λ ps. swap ps i j) (sym was.0) ∙ sym (map_exchanged (λ e. Some e) es i j ia jb) in
      let now = hold_from (swap es i j) (swap l i j) is in (
        now.0,
        subst (λ fs. IsPermutation (entries_in xs) fs) (sym now.1) (IsPermutation-trans (entries_in xs) es (swap es i j) was.1 (IsPermutation-swap es (swap es i j) i j ia jb refl)),
      )

  -- places that are shuffled
  pub hold_shuffled : (xs ys : List (Option E)) → AllHold xs → IsPermutation xs ys → AllHold ys × IsPermutation (entries_in xs) (entries_in ys)
  hold_shuffled xs ys h s =
      IsPermutation-keeps xs (λ l. AllHold l × IsPermutation (entries_in xs) (entries_in l)) (h, IsPermutation-refl (entries_in xs)) (λ l i j a b was. hold_step xs l i j a b was) ys s
