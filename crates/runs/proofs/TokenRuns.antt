-- Tokens over runs: as many are out as were handed and not spent, and no unspent one is refused.
use Rattle.std.proofs.Common.{◌≡◌, ℕ, suc, ◌+◌, ◌-◌, ◌<◌, Bool, true, false, cond, ◌||◌, eqb, List, [], ◌∷◌, ◌++◌, length, is_ok, Some, None, Err, Option, sym, refl, ap, ◌∙◌, subst, ⊎_elim, arith}
use Rattle.runs.specs.Calls.{Call, push, poll, hand, clone, wake, wake_by_ref, drop, may_end, ask, Entry, entry, reached, log}
use Rattle.runs.specs.Kinds.{Kind, step}
use Rattle.runs.specs.Laws.{TokenLaws}
use Rattle.runs.specs.Promises.{among, without, without_all, unspent_after, unspent, Honest, AllAmong}
use Rattle.runs.specs.Tallies.{hands, spends, handed, spent, brings, in_ok, if_ok, same_token}
use Rattle.runs.specs.Tokens.{Tokened, some_out, unless, answers, answers_lent, leaves, below_most, hand_fault, token_fault, clone_fault, spend_fault, one_more, one_less}
use Rattle.std.proofs.lemmas.List.{length-append}
use Rattle.std.proofs.lemmas.Bool.{both_ways, eqb-true, eqb-false, eq-eqb, ne_eqb, not-true, not-false, not_from_false, or_cases, or_right, or_left, and_parts}
use Rattle.tasks.specs.Faults.{number_of, layer_of, place_of}
use Rattle.tasks.specs.declared.fault.Fault.{Fault}
use Rattle.tasks.specs.declared.fault.Fault.TheVariants.{NoSuchSlot, OtherName, NoTokenOut, TokensOut}
use Rattle.wakes.specs.declared.waker.Waker.{Waker}

-- a check that refuses nothing has passed
unless_none : (b : Bool) (f : Fault) (r : Option Fault) → unless b f r ≡ None → (b ≡ true) × (r ≡ None)
unless_none true f r e = (refl, e)
unless_none false f r e = let z : ◌≡◌ {A = ℕ} 0 1 = cc in absurd (omega arith)

unless_pass : (b : Bool) (f : Fault) (r : Option Fault) → b ≡ true → unless b f r ≡ r
unless_pass b f r e = ap (λ x. unless x f r) e

module _ {S : Type 0} (k : Tokened S) where
  pub record Passes (s : S) (t : Waker) : Type 0 where
    pub named : eqb t.name (k.name s) ≡ true
    pub some : 0 < k.out s
    pub there : k.known s t.address ≡ true

  pub passes : (s : S) (t : Waker) (r : Option Fault) → token_fault k s t r ≡ None → Passes s t × (r ≡ None)
  passes s t r e =
      let a = unless_none (eqb t.name (k.name s)) (OtherName t.name) (unless (some_out (k.out s)) NoTokenOut (unless (k.known s t.address) (NoSuchSlot t.address) r)) e in
      let b = unless_none (some_out (k.out s)) NoTokenOut (unless (k.known s t.address) (NoSuchSlot t.address) r) a.1 in
      let c = unless_none (k.known s t.address) (NoSuchSlot t.address) r b.1 in
      let not_zero : k.out s ≡ 0 → ⊥ = eqb-false (k.out s) 0 (not-true (eqb (k.out s) 0) b.0) in
      (record { named = a.0; some = omega (arith, not_zero); there = c.0 }, c.1)

  pub pass : (s : S) (t : Waker) → Passes s t → spend_fault k s t ≡ None
  pass s t p =
      let lots : some_out (k.out s) ≡ true = not_from_false (eqb (k.out s) 0) (ne_eqb (k.out s) 0 (λ e. omega (arith, e, p.some))) in
      unless_pass (eqb t.name (k.name s)) (OtherName t.name) (unless (some_out (k.out s)) NoTokenOut (unless (k.known s t.address) (NoSuchSlot t.address) None)) p.named
      ∙ unless_pass (some_out (k.out s)) NoTokenOut (unless (k.known s t.address) (NoSuchSlot t.address) None) lots
      ∙ unless_pass (k.known s t.address) (NoSuchSlot t.address) None p.there

module _ {S P Q T O : Type 0} (k : Kind S P Q T O) (laws : TokenLaws k) where
  out : S → ℕ
  out s = k.tokened.out s

  -- one call: what was out and is handed is what is out then and was spent
  hand_balance : (s : S) (a : ℕ) (t : Waker) (o : Option Fault)
      → out s + length (in_ok (answers o a t)) ≡ out (leaves o s (one_more k.tokened s)) + 0
  unfolding out
  hand_balance s a t None = let e = laws.out_set s (k.tokened.out s + 1) in omega (arith, e)
  hand_balance s a t (Some f) = refl

  clone_balance : (s : S) (t : Waker) (o : Option Fault)
      → out s + length (in_ok (answers_lent o t)) ≡ out (leaves o s (one_more k.tokened s)) + 0
  unfolding out
  clone_balance s t None = let e = laws.out_set s (k.tokened.out s + 1) in omega (arith, e)
  clone_balance s t (Some f) = refl

  wake_balance : (s : S) (t : Waker) (n : ℕ) (o : Option Fault) → (o ≡ None → 0 < out s)
      → out s + 0 ≡ out (leaves o s (one_less k.tokened (k.tokened.woken s t.address))) + length (if_ok t (answers o t n))
  unfolding out
  wake_balance s t n None some =
      let w = k.tokened.woken s t.address in
      let e = laws.out_set w (k.tokened.out w - 1) in
      let d = laws.out_woken s t.address in
      omega (arith, e, d, some refl)
  wake_balance s t n (Some f) some = refl

  drop_balance : (s : S) (t : Waker) (o : Option Fault) → (o ≡ None → 0 < out s)
      → out s + 0 ≡ out (leaves o s (one_less k.tokened s)) + length (if_ok t (answers {A = Unit {0}} o t tt))
  unfolding out
  drop_balance s t None some = let e = laws.out_set s (k.tokened.out s - 1) in omega (arith, e, some refl)
  drop_balance s t (Some f) some = refl

  lent_balance : (s : S) (a : ℕ) (o : Option Fault) → out s + 0 ≡ out (leaves o s (k.tokened.woken s a)) + 0
  unfolding out
  lent_balance s a None = let d = laws.out_woken s a in omega (arith, d)
  lent_balance s a (Some f) = refl

  spend_some : (s : S) (t : Waker) → spend_fault k.tokened s t ≡ None → 0 < out s
  unfolding out
  spend_some s t e = (passes k.tokened s t None e).0.some

  balance : (s : S) (c : Call P Q) → out s + length (hands (entry (step k) s c)) ≡ out (step k s c).0 + length (spends (entry (step k) s c))
  unfolding out
  balance s (push p) = ap (λ n. n + 0) (sym (laws.out_pushed s p))
  balance s (poll post) = ap (λ n. n + 0) (sym (laws.out_polled s post))
  balance s (hand a) = hand_balance s a (record { name = k.tokened.name s; address = a }) (hand_fault k.tokened s a)
  balance s (clone t) = clone_balance s t (clone_fault k.tokened s t)
  balance s (wake t) = wake_balance s t (k.tokened.notices s t.address) (spend_fault k.tokened s t) (spend_some s t)
  balance s (wake_by_ref t) = lent_balance s t.address (spend_fault k.tokened s t)
  balance s (drop t) = drop_balance s t (spend_fault k.tokened s t) (spend_some s t)
  balance s may_end = refl
  balance s (ask q) = refl

  pub balanced : (s : S) (cs : List (Call P Q)) → k.tokened.out s + length (handed (log (step k) s cs)) ≡ k.tokened.out (reached (step k) s cs) + length (spent (log (step k) s cs))
  unfolding out
  balanced s [] = refl
  balanced s (c ∷ cs) =
      let e : Entry P Q T O = entry (step k) s c in
      let h = length-append (hands e) (handed (log (step k) (step k s c).0 cs)) in
      let d = length-append (spends e) (spent (log (step k) (step k s c).0 cs)) in
      omega (arith, h, d, balance s c, balanced (step k s c).0 cs)

  -- what may-end answers, by how many are out
  ends_ok : (n : ℕ) → n ≡ 0 → is_ok (answers_lent {A = Unit {0}} (cond (some_out n) (Some (TokensOut n)) None) tt) ≡ true
  ends_ok n e = subst (λ m. is_ok (answers_lent {A = Unit {0}} (cond (some_out m) (Some (TokensOut m)) None) tt) ≡ true) (sym e) refl

  ends_by : (b : Bool) (n : ℕ) → is_ok (answers_lent {A = Unit {0}} (cond b (Some (TokensOut n)) None) tt) ≡ true → b ≡ false
  ends_by true n e = absurd (both_ways false refl e)
  ends_by false n e = refl

  ends_zero : (n : ℕ) → is_ok (answers_lent {A = Unit {0}} (cond (some_out n) (Some (TokensOut n)) None) tt) ≡ true → n ≡ 0
  ends_zero n e = eqb-true n 0 (not-false (eqb n 0) (ends_by (some_out n) n e))

  refused_by : (b : Bool) (n : ℕ) (f : Fault) → answers_lent {A = Unit {0}} (cond b (Some (TokensOut n)) None) tt ≡ Err f → (number_of f ≡ 7) × (layer_of f ≡ 2) × (place_of f ≡ n)
  refused_by true n f e = let is : TokensOut n ≡ f = cc in (ap number_of (sym is), ap layer_of (sym is), ap place_of (sym is))
  refused_by false n f e = let z : ◌≡◌ {A = ℕ} 0 1 = cc in absurd (omega arith)

  ends_refused : (n : ℕ) (f : Fault) → answers_lent {A = Unit {0}} (cond (some_out n) (Some (TokensOut n)) None) tt ≡ Err f → (number_of f ≡ 7) × (layer_of f ≡ 2) × (place_of f ≡ n)
  ends_refused n f e = refused_by (some_out n) n f e

  module _ (fresh : S) (none : k.tokened.out fresh ≡ 0) (cs : List (Call P Q)) where
    debt : k.tokened.out (reached (step k) fresh cs) + length (spent (log (step k) fresh cs)) ≡ length (handed (log (step k) fresh cs))
    debt = omega (arith, none, balanced fresh cs)

    pub tokens_even : length (handed (log (step k) fresh cs)) ≡ length (spent (log (step k) fresh cs)) → is_ok (step k (reached (step k) fresh cs) may_end).1 ≡ true
    tokens_even e = ends_ok (k.tokened.out (reached (step k) fresh cs)) (omega (arith, debt, e))

    pub tokens_end : is_ok (step k (reached (step k) fresh cs) may_end).1 ≡ true → length (handed (log (step k) fresh cs)) ≡ length (spent (log (step k) fresh cs))
    tokens_end e = omega (arith, debt, ends_zero (k.tokened.out (reached (step k) fresh cs)) e)

    pub tokens_owed : (f : Fault) → (step k (reached (step k) fresh cs) may_end).1 ≡ Err f
        → (number_of f ≡ 7) × (layer_of f ≡ 2) × (place_of f + length (spent (log (step k) fresh cs)) ≡ length (handed (log (step k) fresh cs)))
    tokens_owed f e =
        let r = ends_refused (k.tokened.out (reached (step k) fresh cs)) f e in
        (r.0, r.1, omega (arith, debt, r.2))

-- lists of tokens
among_cond : (b : Bool) (u v : Waker) (us ws : List Waker) → among u (cond b us (v ∷ ws)) ≡ true → (among u ws ≡ true → among u us ≡ true) → among u (v ∷ us) ≡ true
among_cond true u v us ws e rest = or_right (same_token u v) (among u us) e
among_cond false u v us ws e rest =
    ⊎_elim (λ here. or_left (same_token u v) (among u us) here) (λ later. or_right (same_token u v) (among u us) (rest later))
    (or_cases (same_token u v) (among u ws) e)

among_without : (t u : Waker) (us : List Waker) → among u (without t us) ≡ true → among u us ≡ true
among_without t u [] e = e
among_without t u (v ∷ us) e = among_cond (same_token t v) u v us (without t us) e (among_without t u us)

length_cond : (b : Bool) (t v : Waker) (us ws : List Waker) → (b || among t us) ≡ true → (among t us ≡ true → length us ≡ suc (length ws)) → suc (length us) ≡ suc (length (cond b us (v ∷ ws)))
length_cond true t v us ws e rest = refl
length_cond false t v us ws e rest = ap suc (rest e)

length_without : (t : Waker) (us : List Waker) → among t us ≡ true → length us ≡ suc (length (without t us))
length_without t [] e = absurd (both_ways false refl e)
length_without t (v ∷ us) e = length_cond (same_token t v) t v us (without t us) e (length_without t us)

among_some : (t : Waker) (us : List Waker) → among t us ≡ true → 0 < length us
among_some t us e = omega (arith, length_without t us e)

module _ {S P Q T O : Type 0} (k : Kind S P Q T O) (laws : TokenLaws k) where
  -- us are the tokens out: as many as the count, and each bears the set's name and a known address
  Mine : S → Waker → Type 0
  Mine s t = (eqb t.name (k.tokened.name s) ≡ true) × (k.tokened.known s t.address ≡ true)

  Good : List Waker → S → Type 0
  Good us s = (k.tokened.out s ≡ length us) × ((t : Waker) → among t us ≡ true → Mine s t)

  good_keep : (us : List Waker) (s s' : S) → k.tokened.out s' ≡ k.tokened.out s → k.tokened.name s' ≡ k.tokened.name s
      → ((b : ℕ) → k.tokened.known s b ≡ true → k.tokened.known s' b ≡ true) → Good us s → Good us s'
  unfolding Good Mine
  good_keep us s s' o n kn good = (
    o ∙ good.0,
    λ t a. (subst (λ m. eqb t.name m ≡ true) (sym n) (good.1 t a).0, kn t.address (good.1 t a).1),
  )

  good_woken : (us : List Waker) (s : S) (a : ℕ) → Good us s → Good us (k.tokened.woken s a)
  good_woken us s a good = good_keep us s (k.tokened.woken s a) (laws.out_woken s a) (laws.name_woken s a) (λ b e. laws.known_woken s a b e) good

  mine_set : (s : S) (n : ℕ) (t : Waker) → Mine s t → Mine (k.tokened.with_out s n) t
  unfolding Mine
  mine_set s n t m = (subst (λ x. eqb t.name x ≡ true) (sym (laws.name_set s n)) m.0, laws.known_set s n t.address m.1)

  same_mine : (s : S) (t u : Waker) → same_token u t ≡ true → Mine s t → Mine s u
  unfolding Mine
  same_mine s t u e m =
      let p = and_parts (eqb u.name t.name) (eqb u.address t.address) e in (
        subst (λ x. eqb x (k.tokened.name s) ≡ true) (sym (eqb-true u.name t.name p.0)) m.0,
        subst (λ x. k.tokened.known s x ≡ true) (sym (eqb-true u.address t.address p.1)) m.1,
      )

  good_more : (us : List Waker) (s : S) (t : Waker) → Mine s t → Good us s → Good (t ∷ us) (one_more k.tokened s)
  unfolding Good
  good_more us s t m good =
      let n : ℕ = k.tokened.out s + 1 in (
        omega (arith, laws.out_set s n, good.0),
        λ u e. mine_set s n u
            (⊎_elim (λ here. same_mine s t u here m) (λ later. good.1 u later) (or_cases (same_token u t) (among u us) e)),
      )

  good_less : (us : List Waker) (s : S) (t : Waker) → among t us ≡ true → Good us s → Good (without t us) (one_less k.tokened s)
  unfolding Good
  good_less us s t a good =
      let n : ℕ = k.tokened.out s - 1 in (
        omega (arith, laws.out_set s n, good.0, length_without t us a),
        λ u e. mine_set s n u (good.1 u (among_without t u us e)),
      )

  hand_good : (us : List Waker) (s : S) (a : ℕ) (o : Option Fault) → (o ≡ None → k.tokened.known s a ≡ true) → Good us s
      → Good (in_ok (answers o a (record { name = k.tokened.name s; address = a })) ++ us) (leaves o s (one_more k.tokened s))
  unfolding Mine
  hand_good us s a None there good =
      let t : Waker = record { name = k.tokened.name s; address = a } in
      good_more us s t (eq-eqb (k.tokened.name s) (k.tokened.name s) refl, there refl) good
  hand_good us s a (Some f) there good = good

  clone_good : (us : List Waker) (s : S) (t : Waker) (o : Option Fault) → among t us ≡ true → Good us s
      → Good (in_ok (answers_lent o t) ++ us) (leaves o s (one_more k.tokened s))
  unfolding Good
  clone_good us s t None a good = good_more us s t (good.1 t a) good
  clone_good us s t (Some f) a good = good

  wake_good : (us : List Waker) (s : S) (t : Waker) (n : ℕ) (o : Option Fault) → among t us ≡ true → Good us s
      → Good (without_all (if_ok t (answers o t n)) us) (leaves o s (one_less k.tokened (k.tokened.woken s t.address)))
  wake_good us s t n None a good = good_less us (k.tokened.woken s t.address) t a (good_woken us s t.address good)
  wake_good us s t n (Some f) a good = good

  drop_good : (us : List Waker) (s : S) (t : Waker) (o : Option Fault) → among t us ≡ true → Good us s
      → Good (without_all (if_ok t (answers {A = Unit {0}} o t tt)) us) (leaves o s (one_less k.tokened s))
  drop_good us s t None a good = good_less us s t a good
  drop_good us s t (Some f) a good = good

  lent_good : (us : List Waker) (s : S) (a : ℕ) (o : Option Fault) → Good us s → Good us (leaves o s (k.tokened.woken s a))
  lent_good us s a None good = good_woken us s a good
  lent_good us s a (Some f) good = good

  hand_known : (s : S) (a : ℕ) → hand_fault k.tokened s a ≡ None → k.tokened.known s a ≡ true
  hand_known s a e = laws.occupied_known s a (unless_none (k.tokened.occupied s a) (NoSuchSlot a) (below_most k.tokened s) e).0

  good_step : (us : List Waker) (s : S) (c : Call P Q) → AllAmong (brings c) us → Good us s → Good (unspent_after us (entry (step k) s c)) (step k s c).0
  good_step us s (push p) a good = good_keep us s (k.pushed s p) (laws.out_pushed s p) (laws.name_pushed s p) (λ b e. laws.known_pushed s p b e) good
  good_step us s (poll post) a good = good_keep us s (k.polled s post) (laws.out_polled s post) (laws.name_polled s post) (λ b e. laws.known_polled s post b e) good
  good_step us s (hand i) a good = hand_good us s i (hand_fault k.tokened s i) (hand_known s i) good
  good_step us s (clone t) a good = clone_good us s t (clone_fault k.tokened s t) a.0 good
  good_step us s (wake t) a good = wake_good us s t (k.tokened.notices s t.address) (spend_fault k.tokened s t) a.0 good
  good_step us s (wake_by_ref t) a good = lent_good us s t.address (spend_fault k.tokened s t) good
  good_step us s (drop t) a good = drop_good us s t (spend_fault k.tokened s t) a.0 good
  good_step us s may_end a good = good
  good_step us s (ask q) a good = good

  good_run : (us : List Waker) (s : S) (cs : List (Call P Q)) → Honest (step k) us s cs → Good us s → Good (unspent (step k) us s cs) (reached (step k) s cs)
  good_run us s [] honest good = good
  good_run us s (c ∷ cs) honest good =
      good_run (unspent_after us (entry (step k) s c)) (step k s c).0 cs honest.1 (good_step us s c honest.0 good)

  -- an unspent token is not refused
  pub tokens_welcome : (fresh : S) → k.tokened.out fresh ≡ 0 → (cs : List (Call P Q)) → Honest (step k) [] fresh cs → (t : Waker) → among t (unspent (step k) [] fresh cs) ≡ true
      → spend_fault k.tokened (reached (step k) fresh cs) t ≡ None
  unfolding Good Mine
  tokens_welcome fresh none cs honest t a =
      let us : List Waker = unspent (step k) [] fresh cs in
      let s : S = reached (step k) fresh cs in
      let good : Good us s = good_run [] fresh cs honest (none, λ u e. absurd (both_ways false refl e)) in
      let m : Mine s t = good.1 t a in
      pass k.tokened s t (record { named = m.0; some = omega (arith, good.0, among_some t us a); there = m.1 })
