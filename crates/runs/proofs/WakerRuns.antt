-- The laws of wakers over runs.
use Rattle.std.proofs.Common.{◌≡◌, ℕ, ◌+◌, ◌-◌, ◌<◌, true, eqb, ◌↔◌, List, is_ok, Some, None, Ok, count_by, Option, sym, refl, ap, ◌∙◌, subst, arith}
use Rattle.runs.proofs.KeptRuns.{kept_run}
use Rattle.runs.proofs.TicketRuns.{count_all}
use Rattle.runs.proofs.TokenRuns.{Passes, passes, pass}
use Rattle.runs.specs.Calls.{poll, clone, wake, drop, ask, reached}
use Rattle.runs.specs.Kinds.{Kind, step}
use Rattle.runs.specs.Laws.{TokenLaws, TicketLaws, WakeLaws}
use Rattle.runs.specs.Tallies.{output_in}
use Rattle.runs.specs.Tokens.{answers, answers_lent, leaves, below_most, clone_fault, spend_fault, one_more, one_less}
use Rattle.runs.specs.Wakers.{WakerLaws}
use Rattle.tasks.specs.declared.fault.Fault.{Fault}
use Rattle.tasks.specs.declared.poll.Poll.TheVariants.{Ready}
use Rattle.wakes.specs.declared.waker.Waker.{Waker}

-- an answer that is carried out was not refused
ok_none : {A I : Type 0} (o : Option Fault) (i : I) (a b : A) → answers o i a ≡ Ok b → (o ≡ None) × (a ≡ b)
ok_none None i a b e = (refl, cc)
ok_none (Some f) i a b e = let z : ◌≡◌ {A = ℕ} 0 1 = cc in absurd (omega arith)

lent_none : {A : Type 0} (o : Option Fault) (a b : A) → answers_lent o a ≡ Ok b → (o ≡ None) × (a ≡ b)
lent_none None a b e = (refl, cc)
lent_none (Some f) a b e = let z : ◌≡◌ {A = ℕ} 0 1 = cc in absurd (omega arith)

module _ {S P Q T O : Type 0} (k : Kind S P Q T O) (tokens : TokenLaws k) (Inv : S → Type 0) (queued : S → ℕ → ℕ) (laws : WakeLaws k Inv queued) where
  -- a token that passes still passes after a wake, and after one more was handed out
  pass_woken : (s : S) (a : ℕ) (t : Waker) → Passes k.tokened s t → Passes k.tokened (k.tokened.woken s a) t
  pass_woken s a t p = record {
    named = subst (λ n. eqb t.name n ≡ true) (sym (tokens.name_woken s a)) p.named;
    some = subst (λ n. 0 < n) (sym (tokens.out_woken s a)) p.some;
    there = tokens.known_woken s a t.address p.there;
  }

  pass_more : (s : S) (t : Waker) → Passes k.tokened s t → Passes k.tokened (one_more k.tokened s) t
  pass_more s t p = record {
    named = subst (λ n. eqb t.name n ≡ true) (sym (tokens.name_set s _)) p.named;
    some = let e = tokens.out_set s (k.tokened.out s + 1) in omega (arith, e);
    there = tokens.known_set s _ t.address p.there;
  }

  both_by : (s : S) (t : Waker) (o : Option Fault) → spend_fault k.tokened s t ≡ o
      → leaves o s (one_less k.tokened (k.tokened.woken s t.address))
      ≡ leaves (spend_fault k.tokened (leaves o s (k.tokened.woken s t.address)) t) (leaves o s (k.tokened.woken s t.address)) (one_less k.tokened (leaves o s (k.tokened.woken s t.address)))
  both_by s t None e =
      let w = k.tokened.woken s t.address in
      let p = (passes k.tokened s t None e).0 in
      sym (ap (λ o. leaves o w (one_less k.tokened w)) (pass k.tokened w t (pass_woken s t.address t p)))
  both_by s t (Some f) e = sym (ap (λ o. leaves o s (one_less k.tokened s)) e)

  same_notice : (s : S) (t : Waker) (m n : ℕ) (o : Option Fault) → (answers o t m ≡ Ok n) ↔ (answers_lent o m ≡ Ok n)
  same_notice s t m n None = (λ e. let d : m ≡ n = cc in ap (λ x. Ok x) d, λ e. let d : m ≡ n = cc in ap (λ x. Ok x) d)
  same_notice s t m n (Some f) = (λ e. let z : ◌≡◌ {A = ℕ} 0 1 = cc in absurd (omega arith), λ e. let z : ◌≡◌ {A = ℕ} 0 1 = cc in absurd (omega arith))

  cloned : (s : S) (t u : Waker) → (step k s (clone t)).1 ≡ Ok u
      → (u ≡ t) × (is_ok (step k (step k s (clone t)).0 (drop u)).1 ≡ true) × ((step k (step k s (clone t)).0 (drop u)).0 ≡ s)
  cloned s t u e =
      let got = lent_none (clone_fault k.tokened s t) t u e in
      let p : Passes k.tokened s t = (passes k.tokened s t (below_most k.tokened s) got.0).0 in
      let s' : S = one_more k.tokened s in
      let there : (step k s (clone t)).0 ≡ s' = ap (λ o. leaves o s s') got.0 in
      let none : spend_fault k.tokened s' t ≡ None = pass k.tokened s' t (pass_more s t p) in
      let fine : spend_fault k.tokened (step k s (clone t)).0 u ≡ None = ap (λ x. spend_fault k.tokened x u) there ∙ ap (λ v. spend_fault k.tokened s' v) (sym got.1) ∙ none in
      let count : k.tokened.out s' - 1 ≡ k.tokened.out s = let d = tokens.out_set s (k.tokened.out s + 1) in omega (arith, d) in
      let back : one_less k.tokened s' ≡ s = laws.set_twice s _ _ ∙ ap (λ n. k.tokened.with_out s n) count ∙ laws.set_same s in (
        sym got.1,
        ap (λ o. is_ok (answers {A = Unit {0}} o u tt)) fine,
        ap (λ o. leaves o (step k s (clone t)).0 (one_less k.tokened (step k s (clone t)).0)) fine
            ∙ ap (λ x. one_less k.tokened x) there ∙ back,
      )

  waits : (s : S) (t : Waker) (n : ℕ) → Inv s → (step k s (wake t)).1 ≡ Ok n → queued (step k s (wake t)).0 t.address ≡ 1
  waits s t n i e =
      let none = (ok_none (spend_fault k.tokened s t) t (k.tokened.notices s t.address) n e).0 in
      let w = k.tokened.woken s t.address in
      ap (λ o. queued (leaves o s (one_less k.tokened w)) t.address) none ∙ laws.queued_set w _ t.address ∙ laws.queued_woken s t.address i

  -- over every run, with the laws of its tickets
  module _ {X E : Type 0} (bearing : P → X) (bears : O → X) (InsideInv : S → Type 0) (inside : S → List X) (elements : S → List E) (len : Q)
      (tickets : TicketLaws k bearing bears InsideInv inside elements len) (fresh : S) (kept : Inv fresh) (kept_inside : InsideInv fresh) where
    ready_less : (s : S) (post : List ℕ) (x : O) → InsideInv s → (step k s (poll post)).1.poll ≡ Ready (Some x)
        → (step k (step k s (poll post)).0 (ask len)).1 + 1 ≡ (step k s (ask len)).1
    ready_less s post x i e =
        let s' : S = k.polled s post in
        let c = tickets.inside_polled s post (λ y. true) i in
        let one : count_by (λ y. true) (output_in bears (k.yields s post).poll) ≡ 1 = ap (λ p. count_by (λ y. true) (output_in bears p)) e in
        omega (arith, c, one, count_all (inside s), count_all (inside s'), tickets.counts s i, tickets.counts s' (tickets.keeps.polled s post i))

    pub waker_laws : WakerLaws (step k) fresh queued len
    waker_laws = record {
      wake_is_both = λ cs t.
          let s : S = reached (step k) fresh cs in (
            both_by s t (spend_fault k.tokened s t) refl,
            λ n. same_notice s t (k.tokened.notices s t.address) n (spend_fault k.tokened s t),
          );
      clone_and_drop = λ cs t u e. cloned (reached (step k) fresh cs) t u e;
      woken_waits = λ cs t n e. waits (reached (step k) fresh cs) t n (kept_run k Inv laws.keeps fresh cs kept) e;
      ready_leaves = λ cs post x e.
          ready_less (reached (step k) fresh cs) post x (kept_run k InsideInv tickets.keeps fresh cs kept_inside) e;
    }
