-- The free slots stay chained, and the tasks counted, through each change of the table.
use Rattle.std.proofs.Common.{◌≡◌, ℕ, suc, ◌+◌, ◌-◌, ◌<◌, Bool, true, false, cond, not, List, [], ◌∷◌, map, length, get_or, set, is_some, Some, count_by, sym, refl, ap, ◌∙◌, subst, ⊎_elim, arith}
use Rattle.lists.proofs.Free.{free_pop, free_push, free_none, free_fresh}
use Rattle.lists.proofs.Walks.{first_marked}
use Rattle.lists.specs.Walks.{Free, Chain}
use Rattle.slots.specs.Flips.{slot_flipped}
use Rattle.slots.specs.Table.{vacant, occupied, next, task_in, next_link, occupied_at, len, full, Chained, fresh_slots}
use Rattle.slots.specs.declared.slot.Slot.{Slot}
use Rattle.slots.specs.declared.slot.Slot.TheVariants.{Occupied, NextFree}
use Rattle.std.proofs.lemmas.List.{get_or-map, length-map, map-set, set-get_or}
use Rattle.std.proofs.lemmas.Option.{slice_get-get_or, slice_get_past}
use Rattle.std.proofs.lemmas.List.Sums.{sum_by-cons, sum_by-set}
use Rattle.std.proofs.lemmas.Bool.{both_ways, eqb-true, eqb-false, cases_lt}
use Rattle.std.specs.List.{slice_get, range_with_len}

either : (b : Bool) → ◌≡◌ {A = ℕ} (cond (not b) 1 0 + cond b 1 0) 1
either true = refl
either false = refl

module _ {F : Type 0} where
  vacancies : List (Slot F) → ℕ
  vacancies slots = count_by (λ b. b) (map vacant slots)

  -- each slot is occupied or vacant
  len_vacancies : (slots : List (Slot F)) → len slots + vacancies slots ≡ length slots
  unfolding vacancies
  len_vacancies [] = refl
  len_vacancies (s ∷ ss) =
      let a : len (s ∷ ss) ≡ cond (occupied s) 1 0 + len ss = sum_by-cons (λ x. cond (occupied x) 1 0) s ss in
      let b : vacancies (s ∷ ss) ≡ cond (vacant s) 1 0 + vacancies ss = sum_by-cons (λ (x : Bool). cond x 1 0) (vacant s) (map vacant ss) in
      let one : ◌≡◌ {A = ℕ} (cond (occupied s) 1 0 + cond (vacant s) 1 0) 1 = either (vacant s) in
      let rest : len ss + vacancies ss ≡ length ss = len_vacancies ss in
      omega (arith, a, b, one, rest)

  -- what the slot of a number says of the lists that the chain is kept in
  pub vacant_at : (slots : List (Slot F)) (i : ℕ) → i < length slots → get_or (map vacant slots) i false ≡ vacant (get_or slots i (NextFree 0))
  vacant_at slots i lt = get_or-map vacant slots i (NextFree 0) false lt

  pub next_at : (slots : List (Slot F)) (i : ℕ) → i < length slots → get_or (map next slots) i 0 ≡ next_link (slice_get slots i)
  next_at slots i lt = get_or-map next slots i (NextFree 0) 0 lt ∙ ap next_link (sym (slice_get-get_or slots i (NextFree 0) lt))

  not_vacant : (s : Slot F) → is_some (task_in (Some s)) ≡ true → vacant s ≡ false
  not_vacant (Occupied f) e = refl
  not_vacant (NextFree n) e = absurd (both_ways false refl e)

  pub occupied_within : (slots : List (Slot F)) (i : ℕ) → occupied_at slots i ≡ true → i < length slots
  occupied_within slots i e =
      ⊎_elim (λ lt. lt)
      (λ past. absurd (both_ways (occupied_at slots i) (ap (λ o. is_some (task_in o)) (slice_get_past slots i past)) e))
      (cases_lt i (length slots))

  pub occupied_not_vacant : (slots : List (Slot F)) (i : ℕ) → occupied_at slots i ≡ true → vacant (get_or slots i (NextFree 0)) ≡ false
  occupied_not_vacant slots i e =
      not_vacant (get_or slots i (NextFree 0))
      (subst (λ o. is_some (task_in o) ≡ true) (slice_get-get_or slots i (NextFree 0) (occupied_within slots i e)) e)

  len_set : (slots : List (Slot F)) (i : ℕ) (s : Slot F) → i < length slots
      → len (set slots i s) + cond (not (vacant (get_or slots i (NextFree 0)))) 1 0 ≡ len slots + cond (not (vacant s)) 1 0
  len_set slots i s lt = sum_by-set (λ x. cond (occupied x) 1 0) slots i s (NextFree 0) lt

  -- an insert
  pub record Inserts (slots : List (Slot F)) (head : ℕ) (f : F) : Type 0 where
    pub within : head < length slots
    pub chained : Chained (set slots head (Occupied f)) (next_link (slice_get slots head))
    pub counted : len (set slots head (Occupied f)) ≡ len slots + 1
    pub room : len slots < length slots
    pub was_vacant : vacant (get_or slots head (NextFree 0)) ≡ true

  pub insert_chained : (slots : List (Slot F)) (head : ℕ) (f : F) → Chained slots head → full slots ≡ false → Inserts slots head f
  unfolding vacancies
  insert_chained slots head f chained open-yet =
      let sum : len slots + vacancies slots ≡ length slots = len_vacancies slots in
      let differ : len slots ≡ length slots → ⊥ = eqb-false (len slots) (length slots) open-yet in
      let v : ℕ = length slots - len slots - 1 in
      let some : vacancies slots ≡ suc v = omega (arith, sum, differ) in
      let p : (head < length (map vacant slots)) × Free (set (map vacant slots) head false) (set (map next slots) head 0) (get_or (map next slots) head 0)
      = free_pop (map vacant slots) (map next slots) 0 v head chained some in
      let lt : head < length slots = subst (λ n. head < n) (length-map slots vacant) p.0 in
      let was : vacant (get_or slots head (NextFree 0)) ≡ true
      = sym (vacant_at slots head lt) ∙ first_marked (map vacant slots) (map next slots) v head (subst (λ n. Chain (map vacant slots) (map next slots) n head) some chained.0) in
      let marks : set (map vacant slots) head false ≡ map vacant (set slots head (Occupied f)) = sym (map-set vacant slots head (Occupied f)) in
      let links : set (map next slots) head 0 ≡ map next (set slots head (Occupied f)) = sym (map-set next slots head (Occupied f)) in
      let counts : len (set slots head (Occupied f)) + cond (not (vacant (get_or slots head (NextFree 0)))) 1 0 ≡ len slots + 1 = len_set slots head (Occupied f) lt in
      let zero_was : ◌≡◌ {A = ℕ} (cond (not (vacant (get_or slots head (NextFree 0)))) 1 0) 0 = ap (λ (b : Bool). cond (not b) 1 0) was in
      record {
        within = lt;
        chained = subst (λ h. Chained (set slots head (Occupied f)) h) (next_at slots head lt)
            (subst (λ ms. Free ms (map next (set slots head (Occupied f))) (get_or (map next slots) head 0)) marks
            (subst (λ ls. Free (set (map vacant slots) head false) ls (get_or (map next slots) head 0)) links p.1));
        counted = omega (arith, counts, zero_was);
        room = omega (arith, sum, some);
        was_vacant = was;
      }

  pub full_head : (slots : List (Slot F)) (head : ℕ) → Chained slots head → full slots ≡ true → head ≡ length slots
  unfolding vacancies
  full_head slots head chained all =
      let sum : len slots + vacancies slots ≡ length slots = len_vacancies slots in
      let same : len slots ≡ length slots = eqb-true (len slots) (length slots) all in
      let nil : vacancies slots ≡ 0 = omega (arith, sum, same) in
      free_none (map vacant slots) (map next slots) head chained nil ∙ length-map slots vacant

  -- a removal
  pub record Removes (slots : List (Slot F)) (head i : ℕ) : Type 0 where
    pub within : i < length slots
    pub chained : Chained (set slots i (NextFree head)) i
    pub counted : len (set slots i (NextFree head)) + 1 ≡ len slots

  pub remove_chained : (slots : List (Slot F)) (head i : ℕ) → Chained slots head → occupied_at slots i ≡ true → Removes slots head i
  remove_chained slots head i chained there =
      let lt : i < length slots = occupied_within slots i there in
      let was : vacant (get_or slots i (NextFree 0)) ≡ false = occupied_not_vacant slots i there in
      let clear : get_or (map vacant slots) i false ≡ false = vacant_at slots i lt ∙ was in
      let lt_marks : i < length (map vacant slots) = subst (λ n. i < n) (sym (length-map slots vacant)) lt in
      let lt_links : i < length (map next slots) = subst (λ n. i < n) (sym (length-map slots next)) lt in
      let marks : set (map vacant slots) i true ≡ map vacant (set slots i (NextFree head)) = sym (map-set vacant slots i (NextFree head)) in
      let links : set (map next slots) i head ≡ map next (set slots i (NextFree head)) = sym (map-set next slots i (NextFree head)) in
      let counts : len (set slots i (NextFree head)) + cond (not (vacant (get_or slots i (NextFree 0)))) 1 0 ≡ len slots + 0 = len_set slots i (NextFree head) lt in
      let one_was : ◌≡◌ {A = ℕ} (cond (not (vacant (get_or slots i (NextFree 0)))) 1 0) 1 = ap (λ (b : Bool). cond (not b) 1 0) was in
      record {
        within = lt;
        chained = subst (λ ms. Free ms (map next (set slots i (NextFree head))) i) marks
            (subst (λ ls. Free (set (map vacant slots) i true) ls i) links
            (free_push (map vacant slots) (map next slots) i head chained clear lt_marks lt_links));
        counted = omega (arith, counts, one_was);
      }

  -- another task in an occupied slot
  pub record Replaces (slots : List (Slot F)) (head i : ℕ) (f : F) : Type 0 where
    pub chained : Chained (set slots i (Occupied f)) head
    pub counted : len (set slots i (Occupied f)) ≡ len slots

  same_next : (s : Slot F) → vacant s ≡ false → next s ≡ 0
  same_next (Occupied f) e = refl
  same_next (NextFree n) e = absurd (both_ways true e refl)

  pub replace_chained : (slots : List (Slot F)) (head i : ℕ) (f : F) → Chained slots head → occupied_at slots i ≡ true → Replaces slots head i f
  replace_chained slots head i f chained there =
      let lt : i < length slots = occupied_within slots i there in
      let was : vacant (get_or slots i (NextFree 0)) ≡ false = occupied_not_vacant slots i there in
      let marks : map vacant (set slots i (Occupied f)) ≡ map vacant slots
      = map-set vacant slots i (Occupied f) ∙ ap (λ b. set (map vacant slots) i b) (sym (vacant_at slots i lt ∙ was)) ∙ set-get_or (map vacant slots) i false in
      let links : map next (set slots i (Occupied f)) ≡ map next slots
      = map-set next slots i (Occupied f)
      ∙ ap (λ n. set (map next slots) i n) (sym (get_or-map next slots i (NextFree 0) 0 lt ∙ same_next (get_or slots i (NextFree 0)) was))
      ∙ set-get_or (map next slots) i 0 in
      let counts : len (set slots i (Occupied f)) + cond (not (vacant (get_or slots i (NextFree 0)))) 1 0 ≡ len slots + 1 = len_set slots i (Occupied f) lt in
      let one_was : ◌≡◌ {A = ℕ} (cond (not (vacant (get_or slots i (NextFree 0)))) 1 0) 1 = ap (λ (b : Bool). cond (not b) 1 0) was in
      record {
        chained = subst (λ ms. Free ms (map next (set slots i (Occupied f))) head) (sym marks)
            (subst (λ ls. Free (map vacant slots) ls head) (sym links) chained);
        counted = omega (arith, counts, one_was);
      }

-- a fresh table
module _ (F : Type 0) where
  pointing : List ℕ → List (Slot F)
  pointing is = map (λ i. NextFree (i + 1)) is

  vacant_fresh : (is : List ℕ) → map vacant (pointing is) ≡ map (λ i. true) is
  unfolding pointing
  vacant_fresh [] = refl
  vacant_fresh (i ∷ is) = ap (λ bs. true ∷ bs) (vacant_fresh is)

  next_fresh : (is : List ℕ) → map next (pointing is) ≡ map (λ i. i + 1) is
  unfolding pointing
  next_fresh [] = refl
  next_fresh (i ∷ is) = ap (λ ns. (i + 1) ∷ ns) (next_fresh is)

  pub fresh_chained : (n : ℕ) → Chained (fresh_slots {F = F} n) 0
  unfolding pointing
  fresh_chained n =
      subst (λ ms. Free ms (map next (pointing (range_with_len 0 n))) 0) (sym (vacant_fresh (range_with_len 0 n)))
      (subst (λ ls. Free (map (λ i. true) (range_with_len 0 n)) ls 0) (sym (next_fresh (range_with_len 0 n))) (free_fresh n))

  len_pointing : (is : List ℕ) → len (pointing is) ≡ 0
  unfolding pointing
  len_pointing [] = refl
  len_pointing (i ∷ is) =
      let s : len (pointing (i ∷ is)) ≡ 0 + len (pointing is) = sum_by-cons (λ x. cond (occupied x) 1 0) (NextFree (i + 1)) (pointing is) in
      omega (arith, s, len_pointing is)

  pub fresh_len : (n : ℕ) → len (fresh_slots {F = F} n) ≡ 0
  unfolding pointing
  fresh_len n = len_pointing (range_with_len 0 n)

-- the tasks are others, each in its slot
module _ {F : Type 0} (f : F → F) where
  vacant_flipped : (slots : List (Slot F)) → map vacant (map (slot_flipped f) slots) ≡ map vacant slots
  vacant_flipped [] = refl
  vacant_flipped (Occupied x ∷ slots) = ap (λ l. false ∷ l) (vacant_flipped slots)
  vacant_flipped (NextFree n ∷ slots) = ap (λ l. true ∷ l) (vacant_flipped slots)

  next_flipped : (slots : List (Slot F)) → map next (map (slot_flipped f) slots) ≡ map next slots
  next_flipped [] = refl
  next_flipped (Occupied x ∷ slots) = ap (λ l. 0 ∷ l) (next_flipped slots)
  next_flipped (NextFree n ∷ slots) = ap (λ l. n ∷ l) (next_flipped slots)

  pub flipped_len : (slots : List (Slot F)) → len (map (slot_flipped f) slots) ≡ len slots
  unfolding vacancies
  flipped_len slots =
      let a = len_vacancies slots in
      let b = len_vacancies (map (slot_flipped f) slots) in
      let v = ap (λ l. count_by (λ (x : Bool). x) l) (vacant_flipped slots) in
      omega (arith, a, b, v, length-map slots (slot_flipped f))

  pub flipped_chained : (slots : List (Slot F)) (head : ℕ) → Chained slots head → Chained (map (slot_flipped f) slots) head
  flipped_chained slots head c =
      subst (λ vs. Free vs (map next (map (slot_flipped f) slots)) head) (sym (vacant_flipped slots))
      (subst (λ ns. Free (map vacant slots) ns head) (sym (next_flipped slots)) c)
