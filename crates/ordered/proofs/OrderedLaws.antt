-- An ordered set over a set that has the laws has them too, and follows the deque.
use Rattle.std.proofs.Common.{◌≡◌, ℕ, zero, suc, ◌+◌, ◌%◌, ◌^◌, Bool, true, false, eqb, ◌⊎◌, List, [], ◌∷◌, ◌++◌, map, length, is_ok, Some, None, Ok, Err, count_by, Option, Result, sym, refl, ap, ◌∙◌, inl, inr, arith}
use Rattle.ordered.proofs.Counts.{count_cons, count_append, count_map}
use Rattle.ordered.proofs.Lines.{Turned, held_length, push_line, poll_turn, set_line, woken_line, line_run}
use Rattle.ordered.specs.Lined.{Lined}
use Rattle.ordered.proofs.Rows.{count_tickets, count_indices}
use Rattle.ordered.specs.Below.{Below, Label, label, FlipLaws}
use Rattle.ordered.specs.Deques.{behind, joined_if, taken_by, deque, indices_from, DequeLaw, IndexLaw}
use Rattle.ordered.specs.Ordered.{Ordered, Outcome, Pushing, Side, back, front, made, with_below, held, number, accepts, pushed, wrapped, in_turn, after_poll, polling, from_parked, flipped_if, housekept, outcome, bearing_index, elements, indices, kind, step}
use Rattle.runs.proofs.TicketRuns.{count_all, conserve, promises}
use Rattle.runs.proofs.WakerRuns.{waker_laws}
use Rattle.runs.specs.Calls.{Call, reached, log}
use Rattle.runs.specs.Laws.{TokenLaws, TicketLaws, WakeLaws}
use Rattle.runs.specs.Promises.{Promises}
use Rattle.runs.specs.Size.{size}
use Rattle.runs.specs.Tallies.{if_ok, output_in, same_ticket}
use Rattle.runs.specs.Wakers.{WakerLaws}
use Rattle.std.proofs.lemmas.List.{nil_from_length, length-append, length-map}
use Rattle.std.proofs.lemmas.Bool.{cond_both, cond-true}
use Rattle.tasks.specs.Orders.{top_bit}
use Rattle.tasks.specs.declared.fault.Fault.{Fault}
use Rattle.tasks.specs.declared.order_wrapper.OrderWrapper.{OrderWrapper}
use Rattle.tasks.specs.declared.poll.Poll.{Poll}
use Rattle.tasks.specs.declared.poll.Poll.TheVariants.{Ready, Pending}

-- what polls of the set below and flips keep, a poll keeps
module _ {S Q F O R : Type 0} (b : Below S Q F O) (full : ℕ → ℕ → Fault) (post : List ℕ) (P : S → Type 0)
    (polls : (t : S) → P t → P (b.kind.polled t post)) where
  turn_keeps : (turn : Bool) (go : Ordered S O R → Outcome S O R) (s : Ordered S O R) (t : S) (w : OrderWrapper O) (notices turns : ℕ)
      → ((u : Ordered S O R) → P u.below → P (go u).set.below) → P t → P (in_turn b full turn go s t w notices turns).set.below
  turn_keeps true go s t w notices turns later i = i
  turn_keeps false go s t w notices turns later i = later _ i

  after_keeps : (go : Ordered S O R → Outcome S O R) (s : Ordered S O R) (t : S) (p : Poll (Option (OrderWrapper O))) (notices turns : ℕ)
      → ((u : Ordered S O R) → P u.below → P (go u).set.below) → P t → P (after_poll b full go s t p notices turns).set.below
  after_keeps go s t Pending notices turns later i = i
  after_keeps go s t (Ready None) notices turns later i = i
  after_keeps go s t (Ready (Some w)) notices turns later i = turn_keeps (eqb w.index s.outgoing) go s t w notices turns later i

  polling_keeps : (left notices turns : ℕ) (s : Ordered S O R) → P s.below → P (polling b full post left notices turns s).set.below
  unfolding polling
  polling_keeps zero notices turns s i = i
  polling_keeps (suc left) notices turns s i =
      let m : ℕ = notices + (b.kind.yields s.below post).notices in
      let n : ℕ = turns + (b.kind.yields s.below post).turns in
      after_keeps (λ u. polling b full post left m n u) s (b.kind.polled s.below post) (b.kind.yields s.below post).poll m n (polling_keeps left m n) (polls s.below i)

  parked_keeps : (s : Ordered S O R) (o : Option (OrderWrapper O)) → P s.below → P (from_parked b full post s o).set.below
  parked_keeps s (Some w) i = i
  parked_keeps s None i = polling_keeps (suc (b.kind.number s.below b.len)) 0 0 s i

  flip_keeps : (high : Bool) (s : Ordered S O R) → ((t : S) → P t → P (b.flipped t)) → P s.below → P (flipped_if b full high s).below
  flip_keeps true s flips i = flips s.below i
  flip_keeps false s flips i = i

  poll_keeps : (s : Ordered S O R) → ((t : S) → P t → P (b.flipped t)) → P s.below → P (outcome b full post s).set.below
  poll_keeps s flips i =
      let h : Ordered S O R = housekept b full s in
      parked_keeps h (bearing_index h.outgoing h.parked) (flip_keeps (top_bit s.outgoing) s flips i)

-- what pushes to the set below keep, a push keeps
push_keeps : {S Q F O R : Type 0} (b : Below S Q F O) (full : ℕ → ℕ → Fault) (P : S → Type 0)
    → ((t : S) (w : OrderWrapper F) → P t → P (b.kind.pushed t w)) → (s : Ordered S O R) (p : Pushing F) → P s.below → P (pushed b full s p).below
push_keeps b full P pushes s p i =
    let w = wrapped b full s p in
    cond_both (is_ok (accepts b full s p)) (b.kind.pushed s.below w) s.below P (λ e. pushes s.below w i) (λ e. i)

module _ {S Q F O R : Type 0} (b : Below S Q F O) (full : ℕ → ℕ → Fault) (InvB : S → Type 0) (insideB : S → List Label)
    (tokens : TokenLaws b.kind) (flips : FlipLaws b InvB insideB) where
  pub token_laws : TokenLaws (kind {R = R} b full)
  token_laws = record {
    out_set = λ s n. tokens.out_set s.below n;
    out_woken = λ s a. tokens.out_woken s.below a;
    out_pushed = λ s p. push_keeps b full (λ t. b.kind.tokened.out t ≡ b.kind.tokened.out s.below) (λ t w e. tokens.out_pushed t w ∙ e) s p refl;
    out_polled = λ s post. poll_keeps b full post (λ t. b.kind.tokened.out t ≡ b.kind.tokened.out s.below) (λ t e. tokens.out_polled t post ∙ e) s (λ t e. flips.out_flipped t ∙ e) refl;
    name_set = λ s n. tokens.name_set s.below n;
    name_woken = λ s a. tokens.name_woken s.below a;
    name_pushed = λ s p. push_keeps b full (λ t. b.kind.tokened.name t ≡ b.kind.tokened.name s.below) (λ t w e. tokens.name_pushed t w ∙ e) s p refl;
    name_polled = λ s post. poll_keeps b full post (λ t. b.kind.tokened.name t ≡ b.kind.tokened.name s.below) (λ t e. tokens.name_polled t post ∙ e) s (λ t e. flips.name_flipped t ∙ e) refl;
    known_set = λ s n a e. tokens.known_set s.below n a e;
    known_woken = λ s c a e. tokens.known_woken s.below c a e;
    known_pushed = λ s p a e. push_keeps b full (λ t. b.kind.tokened.known t a ≡ true) (λ t w k. tokens.known_pushed t w a k) s p e;
    known_polled = λ s post a e. poll_keeps b full post (λ t. b.kind.tokened.known t a ≡ true) (λ t k. tokens.known_polled t post a k) s (λ t k. flips.known_flipped t a ∙ k) e;
    occupied_known = λ s a e. tokens.occupied_known s.below a e;
  }

module _ {S Q F O R : Type 0} (b : Below S Q F O) (full : ℕ → ℕ → Fault) (OnceB : S → Type 0) (queuedB : S → ℕ → ℕ)
    (wakes : WakeLaws b.kind OnceB queuedB) (once_flipped : (s : S) → OnceB s → OnceB (b.flipped s)) where
  pub wake_laws : WakeLaws (kind {R = R} b full) (λ s. OnceB s.below) (λ s a. queuedB s.below a)
  wake_laws = record {
    set_twice = λ s n m. ap (λ t. with_below s t) (wakes.set_twice s.below n m);
    set_same = λ s. ap (λ t. with_below s t) (wakes.set_same s.below);
    queued_set = λ s n a. wakes.queued_set s.below n a;
    queued_woken = λ s a i. wakes.queued_woken s.below a i;
    keeps = record {
      set = λ s n i. wakes.keeps.set s.below n i;
      woken = λ s a i. wakes.keeps.woken s.below a i;
      pushed = λ s p i. push_keeps b full OnceB (λ t w j. wakes.keeps.pushed t w j) s p i;
      polled = λ s post i. poll_keeps b full post OnceB (λ t j. wakes.keeps.polled t post j) s once_flipped i;
    };
  }

pub size_length : {X : Type 0} (xs : List X) → length xs ≡ size xs
size_length [] = refl
size_length (x ∷ xs) = ap suc (size_length xs)

-- the deque's tickets, counted before and after a call
count_fed : {A E : Type 0} (test : ℕ × ℕ → Bool) (a : Result A E) (side : Side) (t : ℕ × ℕ) (d : List (ℕ × ℕ))
    → count_by test d + count_by test (if_ok t a) ≡ count_by test (joined_if a side t d)
count_fed test (Ok a) back t d = sym (count_append test d (t ∷ []))
count_fed test (Ok a) front t d = omega (arith, count_cons test t [], count_cons test t d)
count_fed test (Err e) side t d = omega arith

count_taken : {O : Type 0} (test : ℕ × ℕ → Bool) (bears : O → ℕ × ℕ) (p : Poll (Option O)) (d : List (ℕ × ℕ)) → ((x : O) → p ≡ Ready (Some x) → d ≡ bears x ∷ behind d)
    → count_by test d ≡ count_by test (taken_by p d) + count_by test (output_in bears p)
count_taken test bears Pending d heads = omega arith
count_taken test bears (Ready None) d heads = omega arith
count_taken test bears (Ready (Some x)) d heads =
    omega (arith, ap (λ e. count_by test e) (heads x refl), count_cons test (bears x) (behind d), count_cons test (bears x) [])

-- the tickets of what is inside
unfoldable pub tickets_of : {S O R : Type 0} → (O → ℕ × ℕ) → (S → List Label) → Ordered S O R → List (ℕ × ℕ)
tickets_of bears insideB s = map (λ (l : Label). l.1) (insideB s.below) ++ map (λ w. bears w.«data») s.parked

module _ {S O R : Type 0} (bears : O → ℕ × ℕ) (InvB : S → Type 0) (insideB : S → List Label) (s : Ordered S O R) (d : List (ℕ × ℕ)) (l : Lined bears InvB insideB s d) where
  tickets_lined : (test : ℕ × ℕ → Bool) → count_by test (tickets_of bears insideB s) ≡ count_by test d
  unfolding tickets_of
  tickets_lined test =
      omega (
        arith,
        count_append test (map (λ (x : Label). x.1) (insideB s.below)) (map (λ w. bears w.«data») s.parked),
        count_map test (λ (x : Label). x.1) (insideB s.below),
        count_map test (λ (w : OrderWrapper O). bears w.«data») s.parked,
        count_map (λ (x : Label). test x.1) (label bears) s.parked,
        l.even (λ x. test x.1),
        count_tickets test s.outgoing d,
      )

  length_lined : length (tickets_of bears insideB s) ≡ length d
  length_lined = omega (arith, count_all (tickets_of bears insideB s), count_all d, tickets_lined (λ t. true))

  indices_lined : (test : ℕ → Bool) → count_by test (indices (λ t. map (λ (x : Label). x.0) (insideB t)) s) ≡ count_by test (indices_from s.outgoing (length d))
  indices_lined test =
      omega (
        arith,
        count_append test (map (λ (x : Label). x.0) (insideB s.below)) (map (λ w. w.index) s.parked),
        count_map test (λ (x : Label). x.0) (insideB s.below),
        count_map test (λ (w : OrderWrapper O). w.index) s.parked,
        count_map (λ (x : Label). test x.0) (label bears) s.parked,
        l.even (λ x. test x.0),
        count_indices test s.outgoing d,
      )

-- some deque is lined up
unfoldable pub Inv : {S O R : Type 0} → (O → ℕ × ℕ) → (S → Type 0) → (S → List Label) → Ordered S O R → Type 0
Inv bears InvB insideB s = (d : List (ℕ × ℕ)) × Lined bears InvB insideB s d

module _ {S Q F O R E : Type 0} (b : Below S Q F O) (full : ℕ → ℕ → Fault) (bearing : F → ℕ × ℕ) (bears : O → ℕ × ℕ)
    (InvB : S → Type 0) (insideB : S → List Label) (elementsB : S → List E) (queuedB : S → ℕ → ℕ) (OnceB : S → Type 0)
    (tokens : TokenLaws b.kind)
    (tickets : TicketLaws b.kind (label bearing) (label bears) InvB insideB elementsB b.len)
    (wakes : WakeLaws b.kind OnceB queuedB)
    (flips : FlipLaws b InvB insideB) (once_flipped : (s : S) → OnceB s → OnceB (b.flipped s))
    (counts : b.counts b.len ≡ true) where
  number_held : (s : Ordered S O R) → number b full s b.len ≡ held b full s
  number_held s = ap (λ n. b.kind.number s.below b.len + n) (cond-true (b.counts b.len) (length s.parked) 0 counts)

  number_lined : (s : Ordered S O R) (d : List (ℕ × ℕ)) → Lined bears InvB insideB s d → number b full s b.len ≡ length d
  number_lined s d l = number_held s ∙ held_length b full bearing bears InvB insideB elementsB tickets flips s d l

  size_elements : (s : Ordered S O R) → size (elements elementsB s) ≡ size (elementsB s.below) + length s.parked
  size_elements s =
      omega (
        arith,
        size_length (elements elementsB s),
        size_length (elementsB s.below),
        length-append {A = E ⊎ OrderWrapper O} (map inl (elementsB s.below)) (map inr s.parked),
        length-map {B = E ⊎ OrderWrapper O} (elementsB s.below) inl,
        length-map {B = E ⊎ OrderWrapper O} s.parked inr,
      )

  pub ticket_laws : TicketLaws (kind {R = R} b full) (λ p. bearing p.task) bears (Inv bears InvB insideB) (tickets_of bears insideB) (elements elementsB) b.len
  unfolding Inv tickets_of
  ticket_laws = record {
    keeps = record {
      set = λ s n i. (i.0, set_line b full bearing bears InvB insideB elementsB tickets flips s i.0 n i.1);
      woken = λ s a i. (i.0, woken_line b full bearing bears InvB insideB elementsB tickets flips s i.0 a i.1);
      pushed = λ s p i. (_, push_line b full bearing bears InvB insideB elementsB tickets flips s p i.0 i.1);
      polled = λ s post i. (_, (poll_turn b full bearing bears InvB insideB elementsB tickets flips post s i.0 i.1).lined);
    };
    inside_set = λ s n. ap (λ ls. map (λ (x : Label). x.1) ls ++ map (λ w. bears w.«data») s.parked) (tickets.inside_set s.below n);
    inside_woken = λ s a. ap (λ ls. map (λ (x : Label). x.1) ls ++ map (λ w. bears w.«data») s.parked) (tickets.inside_woken s.below a);
    inside_pushed = λ s p test i.
        let m = push_line b full bearing bears InvB insideB elementsB tickets flips s p i.0 i.1 in
        omega (
          arith,
          tickets_lined bears InvB insideB s i.0 i.1 test,
          tickets_lined bears InvB insideB (pushed b full s p) (joined_if (accepts b full s p) p.side (bearing p.task) i.0) m test,
          count_fed test (accepts b full s p) p.side (bearing p.task) i.0,
        );
    inside_polled = λ s post test i.
        let o : Outcome S O R = outcome b full post s in
        let t : Turned bears InvB insideB i.0 o = poll_turn b full bearing bears InvB insideB elementsB tickets flips post s i.0 i.1 in
        omega (
          arith,
          tickets_lined bears InvB insideB s i.0 i.1 test,
          tickets_lined bears InvB insideB o.set (taken_by o.answer.poll i.0) t.lined test,
          count_taken test bears o.answer.poll i.0 t.heads,
        );
    none_inside = λ s post i.
        let t : Turned bears InvB insideB i.0 (outcome b full post s) = poll_turn b full bearing bears InvB insideB elementsB tickets flips post s i.0 i.1 in (
          λ e. t.empty (nil_from_length i.0 (sym (length_lined bears InvB insideB s i.0 i.1) ∙ ap length e)),
          λ e. nil_from_length (tickets_of bears insideB s) (length_lined bears InvB insideB s i.0 i.1 ∙ ap length (t.none e)),
        );
    counts = λ s i. number_lined s i.0 i.1 ∙ sym (length_lined bears InvB insideB s i.0 i.1);
    sizes = λ s i. omega (arith, number_held s, tickets.sizes s.below i.1.kept, size_elements s);
  }

  -- from a fresh set
  module _ (below : S) (places : ℕ) (beyond : R) (kept : InvB below) (once : OnceB below) (nothing : insideB below ≡ []) (none_out : b.kind.tokened.out below ≡ 0) where
    fresh_lined : Lined bears InvB insideB (made {R = R} below places beyond) []
    fresh_lined = record {
      kept = kept;
      even = λ test. let z : count_by test (insideB below) ≡ 0 = ap (λ ls. count_by test ls) nothing in omega (arith, z);
      ends = refl;
      wraps = omega arith;
      placed = omega arith;
      most = omega arith;
    }

    -- every run keeps the line
    pub reached_lined : (cs : List (Call (Pushing F) Q))
        → Lined bears InvB insideB (reached (step b full) (made below places beyond) cs) (deque bearing (log (step {R = R} b full) (made below places beyond) cs))
    reached_lined cs = line_run b full bearing bears InvB insideB elementsB tickets flips (made below places beyond) [] cs fresh_lined

    -- the promise over every run of an ordered set
    pub ordered_promises : Promises (step b full) (made {R = R} below places beyond) (λ p. bearing p.task) bears (elements elementsB) b.len
    unfolding Inv tickets_of
    ordered_promises =
        promises (kind b full) (λ p. bearing p.task) bears (Inv bears InvB insideB) (tickets_of bears insideB) (elements elementsB) b.len
        (token_laws b full InvB insideB tokens flips) ticket_laws (made below places beyond) none_out ([], fresh_lined)
        (ap (λ ls. map (λ (x : Label). x.1) ls ++ []) nothing)

    -- and the laws of its wakers
    pub ordered_wakers : WakerLaws (step b full) (made {R = R} below places beyond) (λ s a. queuedB s.below a) b.len
    unfolding Inv
    ordered_wakers =
        waker_laws (kind b full) (token_laws b full InvB insideB tokens flips) (λ s. OnceB s.below) (λ s a. queuedB s.below a) (wake_laws b full OnceB queuedB wakes once_flipped)
        (λ p. bearing p.task) bears (Inv bears InvB insideB) (tickets_of bears insideB) (elements elementsB) b.len ticket_laws (made below places beyond) once ([], fresh_lined)

    -- and it follows the deque
    pub ordered_deque : DequeLaw (step b full) (made {R = R} below places beyond) bearing bears
    unfolding Inv tickets_of
    ordered_deque = record {
      heads = λ cs post x e.
          (poll_turn b full bearing bears InvB insideB elementsB tickets flips post (reached (step b full) (made below places beyond) cs)
          (deque bearing (log (step b full) (made below places beyond) cs)) (reached_lined cs)).heads x e;
      holds = λ cs t.
          let s : Ordered S O R = made below places beyond in
          let none : count_by (same_ticket t) (tickets_of bears insideB s) ≡ 0 = tickets_lined bears InvB insideB s [] fresh_lined (same_ticket t) in
          omega (
            arith,
            none,
            conserve (kind b full) (λ p. bearing p.task) bears (Inv bears InvB insideB) (tickets_of bears insideB) (elements elementsB) b.len ticket_laws (same_ticket t) s cs ([], fresh_lined),
            tickets_lined bears InvB insideB (reached (step b full) s cs) (deque bearing (log (step b full) s cs)) (reached_lined cs) (same_ticket t),
          );
    }

    -- and its indices are one run
    pub ordered_indices : IndexLaw (step b full) (made {R = R} below places beyond) (indices (λ t. map (λ (l : Label). l.0) (insideB t))) (λ s. number b full s b.len) (λ s. s.incoming) (λ s. s.outgoing)
    ordered_indices = record {
      run = λ cs test.
          let s : Ordered S O R = reached (step b full) (made below places beyond) cs in
          let d : List (ℕ × ℕ) = deque bearing (log (step {R = R} b full) (made below places beyond) cs) in
          indices_lined bears InvB insideB s d (reached_lined cs) test
          ∙ ap (λ n. count_by test (indices_from s.outgoing n)) (sym (number_lined s d (reached_lined cs)));
      ends = λ cs.
          let s : Ordered S O R = reached (step b full) (made below places beyond) cs in
          let d : List (ℕ × ℕ) = deque bearing (log (step {R = R} b full) (made below places beyond) cs) in
          (reached_lined cs).ends ∙ ap (λ n. (s.outgoing + n) % 2 ^ 64) (sym (number_lined s d (reached_lined cs)));
    }
