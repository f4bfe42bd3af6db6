-- What a kind of set owes, so that the promise over every run holds of it.
use Rattle.std.specs.Prelude.{◌≡◌, ℕ, ◌+◌, Bool, true, ◌↔◌, List, [], length, None, count_by}
use Rattle.runs.specs.Kinds.{Kind}
use Rattle.runs.specs.Size.{size}
use Rattle.runs.specs.Tallies.{if_ok, output_in}
use Rattle.tasks.specs.declared.poll.Poll.TheVariants.{Ready}

module _ {S P Q T O : Type 0} (k : Kind S P Q T O) where
  -- Of its tokens: the count is what it was set to, and nothing but a token call changes it. The name stays, and a
  -- slot that was ever known stays known; an occupied slot is known.
  pub record TokenLaws : Type 0 where
    pub out_set : (s : S) (n : ℕ) → k.tokened.out (k.tokened.with_out s n) ≡ n
    pub out_woken : (s : S) (a : ℕ) → k.tokened.out (k.tokened.woken s a) ≡ k.tokened.out s
    pub out_pushed : (s : S) (p : P) → k.tokened.out (k.pushed s p) ≡ k.tokened.out s
    pub out_polled : (s : S) (post : List ℕ) → k.tokened.out (k.polled s post) ≡ k.tokened.out s
    pub name_set : (s : S) (n : ℕ) → k.tokened.name (k.tokened.with_out s n) ≡ k.tokened.name s
    pub name_woken : (s : S) (a : ℕ) → k.tokened.name (k.tokened.woken s a) ≡ k.tokened.name s
    pub name_pushed : (s : S) (p : P) → k.tokened.name (k.pushed s p) ≡ k.tokened.name s
    pub name_polled : (s : S) (post : List ℕ) → k.tokened.name (k.polled s post) ≡ k.tokened.name s
    pub known_set : (s : S) (n b : ℕ) → k.tokened.known s b ≡ true → k.tokened.known (k.tokened.with_out s n) b ≡ true
    pub known_woken : (s : S) (a b : ℕ) → k.tokened.known s b ≡ true → k.tokened.known (k.tokened.woken s a) b ≡ true
    pub known_pushed : (s : S) (p : P) (b : ℕ) → k.tokened.known s b ≡ true → k.tokened.known (k.pushed s p) b ≡ true
    pub known_polled : (s : S) (post : List ℕ) (b : ℕ) → k.tokened.known s b ≡ true → k.tokened.known (k.polled s post) b ≡ true
    pub occupied_known : (s : S) (a : ℕ) → k.tokened.occupied s a ≡ true → k.tokened.known s a ≡ true

  -- What it keeps: a fact that no call breaks.
  pub record Keeps (Inv : S → Type 0) : Type 0 where
    pub set : (s : S) (n : ℕ) → Inv s → Inv (k.tokened.with_out s n)
    pub woken : (s : S) (a : ℕ) → Inv s → Inv (k.tokened.woken s a)
    pub pushed : (s : S) (p : P) → Inv s → Inv (k.pushed s p)
    pub polled : (s : S) (post : List ℕ) → Inv s → Inv (k.polled s post)

  -- Of its tickets: what is inside it, by labels, is what it was and what a push adds, and less what a poll yields, as
  -- often as any test counts them. A poll answers Ready(None) exactly if nothing is inside. Inv is what it keeps.
  pub record TicketLaws {X E : Type 0} (bearing : P → X) (bears : O → X) (Inv : S → Type 0) (inside : S → List X) (elements : S → List E) (len : Q) : Type 0 where
    pub keeps : Keeps Inv
    pub inside_set : (s : S) (n : ℕ) → inside (k.tokened.with_out s n) ≡ inside s
    pub inside_woken : (s : S) (a : ℕ) → inside (k.tokened.woken s a) ≡ inside s
    pub inside_pushed : (s : S) (p : P) (test : X → Bool) → Inv s
        → count_by test (inside s) + count_by test (if_ok (bearing p) (k.accepts s p)) ≡ count_by test (inside (k.pushed s p))
    pub inside_polled : (s : S) (post : List ℕ) (test : X → Bool) → Inv s
        → count_by test (inside s) ≡ count_by test (inside (k.polled s post)) + count_by test (output_in bears (k.yields s post).poll)
    pub none_inside : (s : S) (post : List ℕ) → Inv s → (inside s ≡ []) ↔ ((k.yields s post).poll ≡ Ready None)
    pub counts : (s : S) → Inv s → k.number s len ≡ length (inside s)
    pub sizes : (s : S) → Inv s → k.number s len ≡ size (elements s)

  -- Of its wakes: setting the count twice is setting it once, and to what it is changes nothing. A wake leaves its slot in
  -- the queue once. Inv is what it keeps.
  pub record WakeLaws (Inv : S → Type 0) (queued : S → ℕ → ℕ) : Type 0 where
    pub set_twice : (s : S) (n m : ℕ) → k.tokened.with_out (k.tokened.with_out s n) m ≡ k.tokened.with_out s m
    pub set_same : (s : S) → k.tokened.with_out s (k.tokened.out s) ≡ s
    pub queued_set : (s : S) (n a : ℕ) → queued (k.tokened.with_out s n) a ≡ queued s a
    pub queued_woken : (s : S) (a : ℕ) → Inv s → queued (k.tokened.woken s a) a ≡ 1
    pub keeps : Keeps Inv
