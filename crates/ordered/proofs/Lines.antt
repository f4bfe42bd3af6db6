-- What an ordered set keeps: its elements are lined up as a deque of their tickets, and every step moves both alike.
use Rattle.std.proofs.Common.{◌≡◌, ℕ, zero, suc, ◌+◌, ◌%◌, ◌^◌, ◌<◌, ◌≤◌, Bool, true, false, cond, ◌&&◌, eqb, ltb, leb, List, [], ◌∷◌, map, length, is_ok, Some, None, Ok, Err, count_by, Option, Result, sym, refl, ap, ◌∙◌, arith}
use Rattle.ordered.proofs.Counts.{one_if, count_cons, count_map, none_passes}
use Rattle.ordered.proofs.Parkings.{count_parked_with, count_ascending, Taken, taken, NoneAt, none_at, none_at_parked, Apart}
use Rattle.ordered.proofs.Rows.{raised_lowered, count_joined, count_flipped, length_numbered, head_is, head_counted, none_beyond, none_before, once_each}
use Rattle.ordered.specs.Below.{Below, Label, label, label_flipped, FlipLaws}
use Rattle.ordered.specs.Lined.{Lined, numbered}
use Rattle.ordered.specs.Deques.{joined, behind, joined_if, taken_by, fed, deque_from}
use Rattle.ordered.specs.Ordered.{Ordered, Outcome, Pushing, Side, back, front, room_for, with_below, held, index_for, incoming_after, outgoing_after, wrapped, accepting, accepts, pushed_if, pushed, flipped_if, housekept, yielding, with_parked, in_turn, after_poll, polling, from_parked, outcome, parked_with, ascending, bearing_index, without_index, kind, step}
use Rattle.runs.proofs.TicketRuns.{count_all}
use Rattle.runs.specs.Calls.{Call, push, poll, hand, clone, wake, wake_by_ref, drop, may_end, ask, entry, reached, log}
use Rattle.runs.specs.Laws.{TicketLaws}
use Rattle.runs.specs.Tallies.{if_ok, output_in, same_ticket}
use Rattle.runs.specs.Tokens.{leaves, hand_fault, clone_fault, spend_fault, one_more, one_less}
use Rattle.std.proofs.ByRecursion.{All-weaker}
use Rattle.std.proofs.lemmas.List.{nil_from_length, length-append}
use Rattle.std.proofs.lemmas.Bool.{and_from, eqb-true, eq-eqb, ltb-true, ltb-false, leb-false}
use Rattle.std.specs.List.{AllByRecursion as All}
use Rattle.tasks.specs.Orders.{index_raised, index_lowered, top_bit, wrapper_flipped}
use Rattle.tasks.specs.declared.fault.Fault.{Fault}
use Rattle.tasks.specs.declared.fault.Refused.{Refused}
use Rattle.tasks.specs.declared.order_wrapper.OrderWrapper.{OrderWrapper}
use Rattle.tasks.specs.declared.poll.Poll.{Poll}
use Rattle.tasks.specs.declared.poll.Poll.TheVariants.{Ready, Pending}

-- What a poll does with the deque: it keeps the line, an output is the head's, and it answers Ready(None) exactly if the
-- deque is empty.
pub record Turned {S O R : Type 0} (bears : O → ℕ × ℕ) (InvB : S → Type 0) (insideB : S → List Label) (d : List (ℕ × ℕ)) (o : Outcome S O R) : Type 0 where
  pub lined : Lined bears InvB insideB o.set (taken_by o.answer.poll d)
  pub heads : (x : O) → o.answer.poll ≡ Ready (Some x) → d ≡ bears x ∷ behind d
  pub empty : d ≡ [] → o.answer.poll ≡ Ready None
  pub none : o.answer.poll ≡ Ready None → d ≡ []

-- the indices of the outputs that wait
module _ {S O R : Type 0} (bears : O → ℕ × ℕ) (InvB : S → Type 0) (insideB : S → List Label) (s : Ordered S O R) (d : List (ℕ × ℕ)) (l : Lined bears InvB insideB s d) where
  -- none comes twice
  pub apart_lined : Apart s.parked
  apart_lined = λ i. omega (
    arith,
    l.even (λ x. eqb x.0 i),
    count_map (λ (x : Label). eqb x.0 i) (label bears) s.parked,
    once_each i s.outgoing d l.wraps (omega (arith, l.placed, l.most)),
  )

  -- each is below 2^64
  pub within_lined : All (λ w. w.index < 2 ^ 64) s.parked
  within_lined =
      All-weaker (λ (w : OrderWrapper O). leb (2 ^ 64) w.index ≡ false) (λ w. w.index < 2 ^ 64) (λ w e. leb-false (2 ^ 64) w.index e) s.parked
      (none_passes (λ w. leb (2 ^ 64) w.index) s.parked (omega (
        arith,
        l.even (λ x. leb (2 ^ 64) x.0),
        count_map (λ (x : Label). leb (2 ^ 64) x.0) (label bears) s.parked,
        none_beyond s.outgoing d l.wraps,
      )))

  -- none is below outgoing, after housekeeping
  pub ahead_lined : top_bit s.outgoing ≡ false → All (λ w. s.outgoing ≤ w.index) s.parked
  ahead_lined low =
      All-weaker (λ (w : OrderWrapper O). ltb w.index s.outgoing ≡ false) (λ w. s.outgoing ≤ w.index) (λ w e. ltb-false w.index s.outgoing e) s.parked
      (none_passes (λ w. ltb w.index s.outgoing) s.parked (omega (
        arith,
        l.even (λ x. ltb x.0 s.outgoing),
        count_map (λ (x : Label). ltb x.0 s.outgoing) (label bears) s.parked,
        none_before s.outgoing s.outgoing d (omega arith) (omega (arith, leb-false (2 ^ 63) s.outgoing low, l.placed, l.most)),
      )))

-- what a push answers that the set below accepts
abbrev roomed : {F : Type 0} → Bool → ℕ → Refused F → Result ℕ (Refused F)
roomed fits a f = cond fits (Ok a) (Err f)

same_itself : (t : ℕ × ℕ) → same_ticket t t ≡ true
same_itself t = and_from (eqb t.0 t.0) (eqb t.1 t.1) (eq-eqb t.0 t.0 refl) (eq-eqb t.1 t.1 refl)

nil_not_cons : {X : Type 0} (x : X) (xs : List X) → x ∷ xs ≡ [] → ⊥
nil_not_cons x xs e = let z : ◌≡◌ {A = ℕ} 0 1 = cc in omega arith

module _ {S Q F O R E : Type 0} (b : Below S Q F O) (full : ℕ → ℕ → Fault) (bearing : F → ℕ × ℕ) (bears : O → ℕ × ℕ)
    (InvB : S → Type 0) (insideB : S → List Label) (elementsB : S → List E)
    (tickets : TicketLaws b.kind (label bearing) (label bears) InvB insideB elementsB b.len)
    (flips : FlipLaws b InvB insideB) where
  abbrev Line : Ordered S O R → List (ℕ × ℕ) → Type 0
  Line s d = Lined bears InvB insideB s d

  abbrev Turn : List (ℕ × ℕ) → Outcome S O R → Type 0
  Turn d o = Turned bears InvB insideB d o

  -- as many are held as the deque is long
  pub held_length : (s : Ordered S O R) (d : List (ℕ × ℕ)) → Line s d → held b full s ≡ length d
  held_length s d l =
      omega (
        arith,
        l.even (λ x. true),
        count_all (insideB s.below),
        count_map (λ x. true) (label bears) s.parked,
        count_all s.parked,
        tickets.counts s.below l.kept,
        length_numbered s.outgoing d,
      )

  -- there is a place for each task and for each output that waits
  pub held_placed : (s : Ordered S O R) (d : List (ℕ × ℕ)) → Line s d → held b full s ≤ s.places
  held_placed s d l = omega (arith, held_length s d l, l.placed)

  none_below : (s : Ordered S O R) (d : List (ℕ × ℕ)) → Line s d → d ≡ [] → insideB s.below ≡ []
  none_below s d l e =
      let z : count_by (λ (x : Label). true) (numbered s.outgoing d) ≡ 0 = ap (λ x. count_by (λ (y : Label). true) (numbered s.outgoing x)) e in
      nil_from_length (insideB s.below) (omega (arith, z, l.even (λ x. true), count_all (insideB s.below)))

  -- a push that is accepted, of a task for the back or the front
  accepted_line : (s : Ordered S O R) (d : List (ℕ × ℕ)) (t : S) (side : Side) (u : ℕ × ℕ) (room : ℕ)
      → Line s d → InvB t
      → ((test : Label → Bool) → count_by test (insideB s.below) + one_if (test (index_for b full s side, u)) ≡ count_by test (insideB t))
      → length d < room → room ≤ 65536
      → Line (record { below = t; parked = s.parked; places = room; incoming = incoming_after b full s side; outgoing = outgoing_after b full s side; beyond = s.beyond }) (joined side u d)
  accepted_line s d t back u room l i more fits most = record {
    kept = i;
    even = λ test.
        let j : (s.outgoing + length d) % 2 ^ 64 ≡ s.incoming = sym l.ends in
        omega (arith, l.even test, more test, count_joined test s.outgoing d u l.wraps, ap (λ n. one_if (test (n, u))) j);
    ends = omega (arith, l.ends, length-append d (u ∷ []));
    wraps = l.wraps;
    placed = omega (arith, fits, length-append d (u ∷ []));
    most = most;
  }
  accepted_line s d t front u room l i more fits most = record {
    kept = i;
    even = λ test.
        omega (
          arith,
          l.even test,
          more test,
          count_cons test (index_lowered s.outgoing, u) (numbered (index_raised (index_lowered s.outgoing)) d),
          ap (λ n. count_by test (numbered n d)) (raised_lowered s.outgoing l.wraps),
        );
    ends = omega (arith, l.ends, l.wraps);
    wraps = omega arith;
    placed = omega (arith, fits);
    most = most;
  }

  same_line : (s : Ordered S O R) (p : Pushing F) (d : List (ℕ × ℕ)) → Line s d → Line (pushed_if b full false s p) d
  same_line s p d l = l

  room_line : (s : Ordered S O R) (p : Pushing F) (d : List (ℕ × ℕ)) (a : ℕ) (f : Refused F) (fits : Bool) → ltb (held b full s) (room_for p) ≡ fits
      → b.kind.accepts s.below (wrapped b full s p) ≡ Ok a → Line s d
      → Line (pushed_if b full (is_ok (roomed fits a f)) s p) (joined_if (roomed fits a f) p.side (bearing p.task) d)
  room_line s p d a f true fits e l =
      let w : OrderWrapper F = wrapped b full s p in
      accepted_line s d (b.kind.pushed s.below w) p.side (bearing p.task) (room_for p) l
      (tickets.keeps.pushed s.below w l.kept)
      (λ test.
      let one = ap (λ r. count_by test (if_ok (label bearing w) r)) e in
      omega (arith, tickets.inside_pushed s.below w test l.kept, one, count_cons test (label bearing w) []))
      (omega (arith, ltb-true (held b full s) (room_for p) fits, held_length s d l))
      (omega arith)
  room_line s p d a f false fits e l = same_line s p d l

  push_line_by : (s : Ordered S O R) (p : Pushing F) (d : List (ℕ × ℕ)) (a : Result ℕ (Refused (OrderWrapper F)))
      → b.kind.accepts s.below (wrapped b full s p) ≡ a → Line s d
      → Line (pushed_if b full (is_ok (accepting b full s p a)) s p) (joined_if (accepting b full s p a) p.side (bearing p.task) d)
  push_line_by s p d (Ok a) e l =
      room_line s p d a (record { fault = full s.places (held b full s); input = p.task }) (ltb (held b full s) (room_for p)) refl e l
  push_line_by s p d (Err r) e l = same_line s p d l

  pub push_line : (s : Ordered S O R) (p : Pushing F) (d : List (ℕ × ℕ)) → Line s d
      → Line (pushed b full s p) (joined_if (accepts b full s p) p.side (bearing p.task) d)
  push_line s p d l = push_line_by s p d (b.kind.accepts s.below (wrapped b full s p)) refl l

  -- housekeeping flips every index, and the line with them
  pub flip_line : (high : Bool) (s : Ordered S O R) (d : List (ℕ × ℕ)) → Line s d → Line (flipped_if b full high s) d
  flip_line true s d l = record {
    kept = flips.keeps_flipped s.below l.kept;
    even = λ test.
        let flat : Label → Bool = λ x. test (label_flipped x) in
        omega (
          arith,
          flips.inside_flipped s.below test l.kept,
          count_map test (label bears) (ascending (map wrapper_flipped s.parked)),
          count_ascending (λ w. test (label bears w)) (map wrapper_flipped s.parked),
          count_map (λ w. test (label bears w)) wrapper_flipped s.parked,
          count_map flat (label bears) s.parked,
          l.even flat,
          count_flipped test s.outgoing d,
        );
    ends = omega (arith, l.ends);
    wraps = omega arith;
    placed = l.placed;
    most = l.most;
  }
  flip_line false s d l = l

  -- an output that is next in turn is the head's
  yield_turn : (s : Ordered S O R) (d : List (ℕ × ℕ)) (t : S) (parked : List (OrderWrapper O)) (x : O) (notices turns : ℕ)
      → Line s d → InvB t
      → ((test : Label → Bool) → (count_by test (insideB t) + count_by test (map (label bears) parked)) + one_if (test (s.outgoing, bears x)) ≡ count_by test (numbered s.outgoing d))
      → Turn d (yielding b full s t parked x notices turns)
  yield_turn s [] t parked x notices turns l i less = absurd (omega (arith, less (λ y. true)))
  yield_turn s (u ∷ d) t parked x notices turns l i less =
      let o : ℕ = s.outgoing in
      let test : Label → Bool = λ y. eqb y.0 o && same_ticket (bears x) y.1 in
      let own : test (o, bears x) ≡ true = and_from (eqb o o) (same_ticket (bears x) (bears x)) (eq-eqb o o refl) (same_itself (bears x)) in
      let one : one_if (test (o, bears x)) ≡ 1 = ap one_if own in
      let head : u ∷ d ≡ bears x ∷ d = head_is o (u ∷ d) (bears x) l.wraps (omega (arith, l.placed, l.most)) (omega (arith, less test, one)) in
      let same : u ≡ bears x = cc in
      record {
        lined = record {
          kept = i;
          even = λ check.
              omega (arith, less check, count_cons check (o, u) (numbered (index_raised o) d), ap (λ v. one_if (check (o, v))) same);
          ends = omega (arith, l.ends);
          wraps = omega arith;
          placed = omega (arith, l.placed);
          most = l.most;
        };
        heads = λ y e. let z : x ≡ y = cc in head ∙ ap (λ v. bears v ∷ d) z;
        empty = λ e. absurd (nil_not_cons u d e);
        none = λ e. let z : ◌≡◌ {A = ℕ} 0 1 = cc in absurd (omega arith);
      }

  -- the set below changes, and the labels in it do not
  with_line : (s : Ordered S O R) (d : List (ℕ × ℕ)) (t : S) → Line s d → InvB t
      → ((test : Label → Bool) → count_by test (insideB t) ≡ count_by test (insideB s.below)) → Line (with_below s t) d
  with_line s d t l i same = record {
    kept = i;
    even = λ test. omega (arith, same test, l.even test);
    ends = l.ends;
    wraps = l.wraps;
    placed = l.placed;
    most = l.most;
  }

  -- a poll of the set below: it yields nothing, or one label that was in it
  module _ (post : List ℕ) where
    pub quiet_line : (s : Ordered S O R) (d : List (ℕ × ℕ)) (p : Poll (Option (OrderWrapper O))) → (b.kind.yields s.below post).poll ≡ p → output_in (label bears) p ≡ [] → Line s d
        → Line (with_below s (b.kind.polled s.below post)) d
    quiet_line s d p e none l =
        with_line s d (b.kind.polled s.below post) l (tickets.keeps.polled s.below post l.kept) (λ test.
        let z : count_by test (output_in (label bears) (b.kind.yields s.below post).poll) ≡ 0 = ap (λ q. count_by test (output_in (label bears) q)) e ∙ ap (λ xs. count_by test xs) none in
        omega (arith, z, tickets.inside_polled s.below post test l.kept))

    one_less_below : (s : Ordered S O R) (w : OrderWrapper O) → (b.kind.yields s.below post).poll ≡ Ready (Some w) → InvB s.below
        → (test : Label → Bool) → count_by test (insideB s.below) ≡ count_by test (insideB (b.kind.polled s.below post)) + one_if (test (label bears w))
    one_less_below s w e i test =
        let one = ap (λ q. count_by test (output_in (label bears) q)) e in
        omega (arith, one, tickets.inside_polled s.below post test i, count_cons test (label bears w) [])

    pub fewer_below : (s : Ordered S O R) (w : OrderWrapper O) → (b.kind.yields s.below post).poll ≡ Ready (Some w) → InvB s.below
        → b.kind.number (b.kind.polled s.below post) b.len < b.kind.number s.below b.len
    fewer_below s w e i =
        let t : S = b.kind.polled s.below post in
        omega (
          arith,
          one_less_below s w e i (λ x. true),
          count_all (insideB s.below),
          count_all (insideB t),
          tickets.counts s.below i,
          tickets.counts t (tickets.keeps.polled s.below post i),
        )

    -- an output that is not next in turn joins those that wait
    pub park_line : (s : Ordered S O R) (d : List (ℕ × ℕ)) (w : OrderWrapper O) → (b.kind.yields s.below post).poll ≡ Ready (Some w) → Line s d
        → Line (with_parked b full s (b.kind.polled s.below post) w) d
    park_line s d w e l = record {
      kept = tickets.keeps.polled s.below post l.kept;
      even = λ test.
          omega (
            arith,
            l.even test,
            one_less_below s w e l.kept test,
            count_map test (label bears) s.parked,
            count_map test (label bears) (parked_with w s.parked),
            count_parked_with (λ v. test (label bears v)) w s.parked,
          );
      ends = l.ends;
      wraps = l.wraps;
      placed = l.placed;
      most = l.most;
    }

    turn_if : (turn : Bool) (go : Ordered S O R → Outcome S O R) (left : ℕ) (s : Ordered S O R) (d : List (ℕ × ℕ)) (w : OrderWrapper O) (notices turns : ℕ)
        → ((u : Ordered S O R) → Line u d → NoneAt u.outgoing u.parked → b.kind.number u.below b.len < left → Turn d (go u))
        → eqb w.index s.outgoing ≡ turn → (b.kind.yields s.below post).poll ≡ Ready (Some w)
        → Line s d → NoneAt s.outgoing s.parked → b.kind.number s.below b.len < suc left
        → Turn d (in_turn b full turn go s (b.kind.polled s.below post) w notices turns)
    turn_if true go left s d w notices turns later turn e l none enough =
        let at : w.index ≡ s.outgoing = eqb-true w.index s.outgoing turn in
        yield_turn s d (b.kind.polled s.below post) s.parked w.«data» notices turns l (tickets.keeps.polled s.below post l.kept) (λ test.
        omega (arith, l.even test, one_less_below s w e l.kept test, ap (λ n. one_if (test (n, bears w.«data»))) at))
    turn_if false go left s d w notices turns later turn e l none enough =
        later (with_parked b full s (b.kind.polled s.below post) w) (park_line s d w e l) (none_at_parked s.outgoing w s.parked turn none)
        (omega (arith, enough, fewer_below s w e l.kept))

    -- nothing is left below, and none that waits is next in turn
    none_left : (s : Ordered S O R) (d : List (ℕ × ℕ)) → Line s d → NoneAt s.outgoing s.parked → insideB s.below ≡ [] → d ≡ []
    none_left s [] l none e = refl
    none_left s (t ∷ d) l none e =
        let test : Label → Bool = λ x. eqb x.0 s.outgoing && true in
        let z : count_by test (insideB s.below) ≡ 0 = ap (λ xs. count_by test xs) e in
        absurd (omega (
          arith,
          z,
          l.even test,
          head_counted (λ x. true) s.outgoing t d refl,
          count_map test (label bears) s.parked,
          none (λ x. true),
        ))

    after_turn : (go : Ordered S O R → Outcome S O R) (left : ℕ) (s : Ordered S O R) (d : List (ℕ × ℕ)) (p : Poll (Option (OrderWrapper O))) (notices turns : ℕ)
        → ((u : Ordered S O R) → Line u d → NoneAt u.outgoing u.parked → b.kind.number u.below b.len < left → Turn d (go u))
        → (b.kind.yields s.below post).poll ≡ p
        → Line s d → NoneAt s.outgoing s.parked → b.kind.number s.below b.len < suc left
        → Turn d (after_poll b full go s (b.kind.polled s.below post) p notices turns)
    after_turn go left s d Pending notices turns later e l none enough = record {
      lined = quiet_line s d Pending e refl l;
      heads = λ x f. let z : ◌≡◌ {A = ℕ} 0 1 = cc in absurd (omega arith);
      empty = λ f.
          let n : (b.kind.yields s.below post).poll ≡ Ready None = (tickets.none_inside s.below post l.kept).0 (none_below s d l f) in
          let z : ◌≡◌ {A = ℕ} 0 1 = cc in absurd (omega arith);
      none = λ f. let z : ◌≡◌ {A = ℕ} 0 1 = cc in absurd (omega arith);
    }
    after_turn go left s d (Ready None) notices turns later e l none enough = record {
      lined = quiet_line s d (Ready None) e refl l;
      heads = λ x f. let z : ◌≡◌ {A = ℕ} 0 1 = cc in absurd (omega arith);
      empty = λ f. refl;
      none = λ f. none_left s d l none ((tickets.none_inside s.below post l.kept).1 e);
    }
    after_turn go left s d (Ready (Some w)) notices turns later e l none enough =
        turn_if (eqb w.index s.outgoing) go left s d w notices turns later refl e l none enough

    -- the polls of the set below, with one more of them left than tasks
    pub polling_turn : (left notices turns : ℕ) (s : Ordered S O R) (d : List (ℕ × ℕ)) → Line s d → NoneAt s.outgoing s.parked
        → b.kind.number s.below b.len < left → Turn d (polling b full post left notices turns s)
    unfolding polling
    polling_turn zero notices turns s d l none enough = absurd (omega (arith, enough))
    polling_turn (suc left) notices turns s d l none enough =
        let m : ℕ = notices + (b.kind.yields s.below post).notices in
        let n : ℕ = turns + (b.kind.yields s.below post).turns in
        after_turn (λ u. polling b full post left m n u) left s d (b.kind.yields s.below post).poll m n
        (λ u. polling_turn left m n u d) refl l none enough

    parked_turn : (s : Ordered S O R) (d : List (ℕ × ℕ)) (o : Option (OrderWrapper O)) → bearing_index s.outgoing s.parked ≡ o → Line s d
        → Turn d (from_parked b full post s o)
    parked_turn s d (Some w) e l =
        let t : Taken s.outgoing s.parked w = taken s.outgoing w s.parked e in
        yield_turn s d s.below (without_index s.outgoing s.parked) w.«data» 0 0 l l.kept (λ test.
        omega (
          arith,
          l.even test,
          t.rest (λ v. test (label bears v)),
          count_map test (label bears) s.parked,
          count_map test (label bears) (without_index s.outgoing s.parked),
          ap (λ n. one_if (test (n, bears w.«data»))) t.bears_it,
        ))
    parked_turn s d None e l =
        polling_turn (suc (b.kind.number s.below b.len)) 0 0 s d l (none_at s.outgoing s.parked e) (omega arith)

    -- a poll
    pub poll_turn : (s : Ordered S O R) (d : List (ℕ × ℕ)) → Line s d → Turn d (outcome b full post s)
    poll_turn s d l =
        let h : Ordered S O R = housekept b full s in
        parked_turn h d (bearing_index h.outgoing h.parked) refl (flip_line (top_bit s.outgoing) s d l)

  -- the token calls
  pub set_line : (s : Ordered S O R) (d : List (ℕ × ℕ)) (n : ℕ) → Line s d → Line ((kind b full).tokened.with_out s n) d
  set_line s d n l =
      with_line s d (b.kind.tokened.with_out s.below n) l (tickets.keeps.set s.below n l.kept) (λ test. ap (λ xs. count_by test xs) (tickets.inside_set s.below n))

  pub woken_line : (s : Ordered S O R) (d : List (ℕ × ℕ)) (a : ℕ) → Line s d → Line ((kind b full).tokened.woken s a) d
  woken_line s d a l =
      with_line s d (b.kind.tokened.woken s.below a) l (tickets.keeps.woken s.below a l.kept) (λ test. ap (λ xs. count_by test xs) (tickets.inside_woken s.below a))

  line_if : (s s' : Ordered S O R) (d : List (ℕ × ℕ)) (o : Option Fault) → Line s d → Line s' d → Line (leaves o s s') d
  line_if s s' d None l m = m
  line_if s s' d (Some f) l m = l

  -- every call, and every run, with the deque fed
  pub line_step : (s : Ordered S O R) (d : List (ℕ × ℕ)) (c : Call (Pushing F) Q) → Line s d → Line (step b full s c).0 (fed bearing d (entry (step b full) s c))
  line_step s d (push p) l = push_line s p d l
  line_step s d (poll post) l = (poll_turn post s d l).lined
  line_step s d (hand a) l =
      let k = (kind b full).tokened in
      line_if s (one_more k s) d (hand_fault k s a) l (set_line s d _ l)
  line_step s d (clone t) l =
      let k = (kind b full).tokened in
      line_if s (one_more k s) d (clone_fault k s t) l (set_line s d _ l)
  line_step s d (wake t) l =
      let k = (kind b full).tokened in
      let w : Ordered S O R = k.woken s t.address in
      line_if s (one_less k w) d (spend_fault k s t) l (set_line w d _ (woken_line s d t.address l))
  line_step s d (wake_by_ref t) l =
      let k = (kind b full).tokened in
      line_if s (k.woken s t.address) d (spend_fault k s t) l (woken_line s d t.address l)
  line_step s d (drop t) l =
      let k = (kind b full).tokened in
      line_if s (one_less k s) d (spend_fault k s t) l (set_line s d _ l)
  line_step s d may_end l = l
  line_step s d (ask q) l = l

  pub line_run : (s : Ordered S O R) (d : List (ℕ × ℕ)) (cs : List (Call (Pushing F) Q)) → Line s d
      → Line (reached (step b full) s cs) (deque_from bearing d (log (step b full) s cs))
  line_run s d [] l = l
  line_run s d (c ∷ cs) l = line_run (step b full s c).0 (fed bearing d (entry (step b full) s c)) cs (line_step s d c l)
