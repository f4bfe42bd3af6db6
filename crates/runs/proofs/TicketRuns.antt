-- Tickets over runs: what was inside and was accepted is what is inside then and was yielded.
use Rattle.std.proofs.Common.{◌≡◌, ℕ, ◌+◌, Bool, true, cond, eqb, List, [], ◌∷◌, length, is_ok, Some, None, count_by, Option, sym, refl, ap, ◌∙◌, arith}
use Rattle.runs.proofs.KeptRuns.{kept_step, kept_run}
use Rattle.runs.proofs.TokenRuns.{tokens_even, tokens_end, tokens_owed, tokens_welcome}
use Rattle.runs.specs.Calls.{Call, push, poll, hand, clone, wake, wake_by_ref, drop, may_end, ask, Entry, entry, reached, log}
use Rattle.runs.specs.Kinds.{Kind, step}
use Rattle.runs.specs.Laws.{TokenLaws, TicketLaws}
use Rattle.runs.specs.Promises.{Promises}
use Rattle.runs.specs.Tallies.{accepts, yields, accepted, yielded, same_ticket}
use Rattle.runs.specs.Tokens.{answers, answers_lent, leaves, hand_fault, clone_fault, spend_fault, one_more, one_less}
use Rattle.std.proofs.lemmas.List.Sums.{sum_by-append, sum_by-cons}
use Rattle.std.proofs.lemmas.Bool.{and_from, eq-eqb}
use Rattle.tasks.specs.declared.fault.Fault.{Fault}

-- counting
pub count_all : {X : Type 0} (xs : List X) → count_by (λ x. true) xs ≡ length xs
count_all [] = refl
count_all (x ∷ xs) = let s = sum_by-cons (λ y. cond true 1 0) x xs in omega (arith, s, count_all xs)

same_itself : (t : ℕ × ℕ) → same_ticket t t ≡ true
same_itself t = and_from (eqb t.0 t.0) (eqb t.1 t.1) (eq-eqb t.0 t.0 refl) (eq-eqb t.1 t.1 refl)

none_counted : (xs : List (ℕ × ℕ)) → ((t : ℕ × ℕ) → count_by (same_ticket t) xs ≡ 0) → xs ≡ []
none_counted [] none = refl
none_counted (x ∷ xs) none =
    let s = sum_by-cons (λ u. cond (same_ticket x u) 1 0) x xs in
    let one : ◌≡◌ {A = ℕ} (cond (same_ticket x x) 1 0) 1 = ap (λ (b : Bool). cond b 1 0) (same_itself x) in
    absurd (omega (arith, s, one, none x))

module _ {S P Q T O X E : Type 0} (k : Kind S P Q T O) (bearing : P → X) (bears : O → X) (Inv : S → Type 0) (inside : S → List X) (elements : S → List E) (len : Q)
    (laws : TicketLaws k bearing bears Inv inside elements len) where
  -- a token call that is refused or not leaves what is inside
  same_if : (s s' : S) (o : Option Fault) → inside s' ≡ inside s → inside (leaves o s s') ≡ inside s
  same_if s s' None e = e
  same_if s s' (Some f) e = refl

  module _ (test : X → Bool) where
    quiet : (s s' : S) → inside s' ≡ inside s → count_by test (inside s) + 0 ≡ count_by test (inside s') + 0
    quiet s s' e = ap (λ xs. count_by test xs + 0) (sym e)

    conserve_step : (s : S) (c : Call P Q) → Inv s
        → count_by test (inside s) + count_by test (accepts bearing bears (entry (step k) s c)) ≡ count_by test (inside (step k s c).0) + count_by test (yields bearing bears (entry (step k) s c))
    conserve_step s (push p) i = let e = laws.inside_pushed s p test i in omega (arith, e)
    conserve_step s (poll post) i = let e = laws.inside_polled s post test i in omega (arith, e)
    conserve_step s (hand a) i = quiet s (step k s (hand a)).0 (same_if s (one_more k.tokened s) (hand_fault k.tokened s a) (laws.inside_set s _))
    conserve_step s (clone t) i = quiet s (step k s (clone t)).0 (same_if s (one_more k.tokened s) (clone_fault k.tokened s t) (laws.inside_set s _))
    conserve_step s (wake t) i =
        let w = k.tokened.woken s t.address in
        quiet s (step k s (wake t)).0 (same_if s (one_less k.tokened w) (spend_fault k.tokened s t) (laws.inside_set w _ ∙ laws.inside_woken s t.address))
    conserve_step s (wake_by_ref t) i =
        quiet s (step k s (wake_by_ref t)).0 (same_if s (k.tokened.woken s t.address) (spend_fault k.tokened s t) (laws.inside_woken s t.address))
    conserve_step s (drop t) i = quiet s (step k s (drop t)).0 (same_if s (one_less k.tokened s) (spend_fault k.tokened s t) (laws.inside_set s _))
    conserve_step s may_end i = refl
    conserve_step s (ask q) i = refl

    pub conserve : (s : S) (cs : List (Call P Q)) → Inv s
        → count_by test (inside s) + count_by test (accepted bearing bears (log (step k) s cs)) ≡ count_by test (inside (reached (step k) s cs)) + count_by test (yielded bearing bears (log (step k) s cs))
    conserve s [] i = refl
    conserve s (c ∷ cs) i =
        let e : Entry P Q T O = entry (step k) s c in
        let a = sum_by-append (λ x. cond (test x) 1 0) (accepts bearing bears e) (accepted bearing bears (log (step k) (step k s c).0 cs)) in
        let y = sum_by-append (λ x. cond (test x) 1 0) (yields bearing bears e) (yielded bearing bears (log (step k) (step k s c).0 cs)) in
        omega (arith, a, y, conserve_step s c i, conserve (step k s c).0 cs (kept_step k Inv laws.keeps s c i))

-- the promise over every run, for every kind of set that has the laws
module _ {S P Q T O E : Type 0} (k : Kind S P Q T O) (bearing : P → ℕ × ℕ) (bears : O → ℕ × ℕ) (Inv : S → Type 0) (inside : S → List (ℕ × ℕ)) (elements : S → List E) (len : Q)
    (tokens : TokenLaws k) (laws : TicketLaws k bearing bears Inv inside elements len)
    (fresh : S) (none_out : k.tokened.out fresh ≡ 0) (kept : Inv fresh) (none_in : inside fresh ≡ []) where
  balance : (test : ℕ × ℕ → Bool) (cs : List (Call P Q))
      → count_by test (accepted bearing bears (log (step k) fresh cs)) ≡ count_by test (inside (reached (step k) fresh cs)) + count_by test (yielded bearing bears (log (step k) fresh cs))
  balance test cs =
      let e = conserve k bearing bears Inv inside elements len laws test fresh cs kept in
      let z : count_by test (inside fresh) ≡ 0 = ap (λ xs. count_by test xs) none_in in
      omega (arith, e, z)

  inv : (cs : List (Call P Q)) → Inv (reached (step k) fresh cs)
  inv cs = kept_run k Inv laws.keeps fresh cs kept

  pub promises : Promises (step k) fresh bearing bears elements len
  promises = record {
    tickets = λ cs post. (
      λ same. (laws.none_inside (reached (step k) fresh cs) post (inv cs)).0
          (none_counted (inside (reached (step k) fresh cs)) (λ t. omega (arith, same t, balance (same_ticket t) cs))),
      λ ready t.
          let nil = (laws.none_inside (reached (step k) fresh cs) post (inv cs)).1 ready in
          let z : count_by (same_ticket t) (inside (reached (step k) fresh cs)) ≡ 0 = ap (λ xs. count_by (same_ticket t) xs) nil in
          omega (arith, z, balance (same_ticket t) cs),
    );
    numbers = λ cs.
        let b = balance (λ x. true) cs in
        omega (
          arith,
          b,
          count_all (accepted bearing bears (log (step k) fresh cs)),
          count_all (yielded bearing bears (log (step k) fresh cs)),
          count_all (inside (reached (step k) fresh cs)),
          laws.counts (reached (step k) fresh cs) (inv cs),
        );
    sizes = λ cs. laws.sizes (reached (step k) fresh cs) (inv cs);
    tokens = λ cs. (tokens_even k tokens fresh none_out cs, tokens_end k tokens fresh none_out cs);
    owed = λ cs f e. tokens_owed k tokens fresh none_out cs f e;
    welcome = λ cs honest t a.
        let s : S = reached (step k) fresh cs in
        let none : spend_fault k.tokened s t ≡ None = tokens_welcome k tokens fresh none_out cs honest t a in (
          ap (λ o. is_ok (answers o t (k.tokened.notices s t.address))) none,
          ap (λ o. is_ok (answers_lent o (k.tokened.notices s t.address))) none,
          ap (λ o. is_ok (answers {A = Unit {0}} o t tt)) none,
        );
  }
