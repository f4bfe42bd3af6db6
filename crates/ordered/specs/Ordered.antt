-- The ordered set by its rules, over any set below it.
use Rattle.std.specs.Prelude.{ℕ, zero, suc, ◌+◌, min, Bool, true, false, cond, ◌⊎◌, List, [], ◌∷◌, ◌++◌, map, length, is_ok, Some, None, Ok, Err, Option, Result, ◌==◌, nat_lt}
use Rattle.std.proofs.Common.{inl, inr}
use Rattle.ordered.specs.Below.{Below}
use Rattle.runs.specs.Calls.{Step}
use Rattle.runs.specs.Kinds.{Kind}
use Rattle.runs.specs.Kinds as kinds
use Rattle.runs.specs.Tokens.{Tokened}
use Rattle.tasks.specs.Orders.{index_raised, index_lowered, index_flipped, top_bit, wrapper_flipped}
use Rattle.tasks.specs.declared.fault.Fault.{Fault}
use Rattle.tasks.specs.declared.fault.Refused.{Refused}
use Rattle.tasks.specs.declared.order_wrapper.OrderWrapper.{OrderWrapper}
use Rattle.tasks.specs.declared.poll.Poll.{Poll}
use Rattle.tasks.specs.declared.poll.Poll.TheVariants.{Ready, Pending}
use Rattle.tasks.specs.declared.poll.Polled.{Polled}

-- Outputs that wait for their turn, in the order of their indices.
module _ {O : Type 0} where
  abbrev pub parked_with : OrderWrapper O → List (OrderWrapper O) → List (OrderWrapper O)
  parked_with w [] = w ∷ []
  parked_with w (v ∷ vs) = cond (nat_lt v.index w.index) (v ∷ parked_with w vs) (w ∷ (v ∷ vs))

  -- Any list of them in that order.
  abbrev pub ascending : List (OrderWrapper O) → List (OrderWrapper O)
  ascending [] = []
  ascending (w ∷ ws) = parked_with w (ascending ws)

  -- The one that bears an index, and the others.
  abbrev pub bearing_index : ℕ → List (OrderWrapper O) → Option (OrderWrapper O)
  bearing_index i [] = None
  bearing_index i (w ∷ ws) = cond (w.index == i) (Some w) (bearing_index i ws)

  abbrev pub without_index : ℕ → List (OrderWrapper O) → List (OrderWrapper O)
  without_index i [] = []
  without_index i (w ∷ ws) = cond (w.index == i) ws (w ∷ without_index i ws)

-- An ordered set: the set below, the outputs that wait, how many places there are for them, the index of the next task
-- that joins the end, the index of the output that is next in turn, and memory that is not touched.
pub record Ordered (S O R : Type 0) : Type 0 where
  pub below : S
  pub parked : List (OrderWrapper O)
  pub places : ℕ
  pub incoming : ℕ
  pub outgoing : ℕ
  pub beyond : R

-- A push brings a task for the back or the front. The parking is asked for one more place, and then has `room` places.
pub data Side : Type 0 where
  back : Side
  front : Side

pub record Pushing (F : Type 0) : Type 0 where
  pub side : Side
  pub task : F
  pub room : ℕ

-- No parking has more than 65,536 places.
abbrev pub most_places : ℕ
most_places = 65536

abbrev pub room_for : {F : Type 0} → Pushing F → ℕ
room_for p = min p.room most_places

-- What a poll answered, and the set after it.
pub record Outcome (S O R : Type 0) : Type 0 where
  pub answer : Polled (Option O)
  pub set : Ordered S O R

abbrev pub with_below : {S O R : Type 0} → Ordered S O R → S → Ordered S O R
with_below s t = record { below = t; parked = s.parked; places = s.places; incoming = s.incoming; outgoing = s.outgoing; beyond = s.beyond }

-- A refusal by the parking, from its places and how many elements are held, is `full`.
module _ {S Q F O R : Type 0} (b : Below S Q F O) (full : ℕ → ℕ → Fault) where
  -- len counts tasks and parked outputs.
  abbrev pub number : Ordered S O R → Q → ℕ
  number s q = b.kind.number s.below q + cond (b.counts q) (length s.parked) 0

  abbrev pub held : Ordered S O R → ℕ
  held s = b.kind.number s.below b.len + length s.parked

  -- A task for the back gets the index incoming, which is then raised. For one for the front outgoing is lowered, and it
  -- gets that.
  abbrev pub index_for : Ordered S O R → Side → ℕ
  index_for s back = s.incoming
  index_for s front = index_lowered s.outgoing

  abbrev pub incoming_after : Ordered S O R → Side → ℕ
  incoming_after s back = index_raised s.incoming
  incoming_after s front = s.incoming

  abbrev pub outgoing_after : Ordered S O R → Side → ℕ
  outgoing_after s back = s.outgoing
  outgoing_after s front = index_lowered s.outgoing

  abbrev pub wrapped : Ordered S O R → Pushing F → OrderWrapper F
  wrapped s p = record { «data» = p.task; index = index_for s p.side }

  -- The set below is asked first, and then the parking: every element held has to find a place there.
  abbrev pub accepting : Ordered S O R → Pushing F → Result ℕ (Refused (OrderWrapper F)) → Result ℕ (Refused F)
  accepting s p (Err r) = Err (record { fault = r.fault; input = p.task })
  accepting s p (Ok a) = cond (nat_lt (held s) (room_for p)) (Ok a) (Err (record { fault = full s.places (held s); input = p.task }))

  abbrev pub accepts : Ordered S O R → Pushing F → Result ℕ (Refused F)
  accepts s p = accepting s p (b.kind.accepts s.below (wrapped s p))

  -- A refused push alters nothing.
  abbrev pub pushed_if : Bool → Ordered S O R → Pushing F → Ordered S O R
  pushed_if ok s p = record {
    below = cond ok (b.kind.pushed s.below (wrapped s p)) s.below;
    parked = s.parked;
    places = cond ok (room_for p) s.places;
    incoming = cond ok (incoming_after s p.side) s.incoming;
    outgoing = cond ok (outgoing_after s p.side) s.outgoing;
    beyond = s.beyond;
  }

  abbrev pub pushed : Ordered S O R → Pushing F → Ordered S O R
  pushed s p = pushed_if (is_ok (accepts s p)) s p

  -- If outgoing has its top bit set, a poll first flips that bit of incoming, of outgoing and of every index.
  abbrev pub flipped_if : Bool → Ordered S O R → Ordered S O R
  flipped_if high s = record {
    below = cond high (b.flipped s.below) s.below;
    parked = cond high (ascending (map wrapper_flipped s.parked)) s.parked;
    places = s.places;
    incoming = cond high (index_flipped s.incoming) s.incoming;
    outgoing = cond high (index_flipped s.outgoing) s.outgoing;
    beyond = s.beyond;
  }

  abbrev pub housekept : Ordered S O R → Ordered S O R
  housekept s = flipped_if (top_bit s.outgoing) s

  -- A yield raises outgoing.
  abbrev pub yielding : Ordered S O R → S → List (OrderWrapper O) → O → ℕ → ℕ → Outcome S O R
  yielding s t parked x notices turns = record {
    answer = record { poll = Ready (Some x); notices = notices; turns = turns };
    set = record { below = t; parked = parked; places = s.places; incoming = s.incoming; outgoing = index_raised s.outgoing; beyond = s.beyond };
  }

  abbrev pub with_parked : Ordered S O R → S → OrderWrapper O → Ordered S O R
  with_parked s t w = record { below = t; parked = parked_with w s.parked; places = s.places; incoming = s.incoming; outgoing = s.outgoing; beyond = s.beyond }

  -- An output that the set below gave is yielded if it is next in turn; otherwise it is parked.
  abbrev pub in_turn : Bool → (Ordered S O R → Outcome S O R) → Ordered S O R → S → OrderWrapper O → ℕ → ℕ → Outcome S O R
  in_turn true go s t w notices turns = yielding s t s.parked w.«data» notices turns
  in_turn false go s t w notices turns = go (with_parked s t w)

  abbrev pub after_poll : (Ordered S O R → Outcome S O R) → Ordered S O R → S → Poll (Option (OrderWrapper O)) → ℕ → ℕ → Outcome S O R
  after_poll go s t Pending notices turns = record { answer = record { poll = Pending; notices = notices; turns = turns }; set = with_below s t }
  after_poll go s t (Ready None) notices turns = record { answer = record { poll = Ready None; notices = notices; turns = turns }; set = with_below s t }
  after_poll go s t (Ready (Some w)) notices turns = in_turn (w.index == s.outgoing) go s t w notices turns

  module _ (post : List ℕ) where
    -- The set below is polled until it is Pending or empty, or gives the output that is next in turn. Notices and turns add
    -- up. Each poll that gives an output leaves a task less, so `left` is never used up.
    unfoldable pub polling : ℕ → ℕ → ℕ → Ordered S O R → Outcome S O R
    polling zero notices turns s = record { answer = record { poll = Pending; notices = notices; turns = turns }; set = s }
    polling (suc left) notices turns s =
        after_poll
        (λ u. polling left (notices + (b.kind.yields s.below post).notices) (turns + (b.kind.yields s.below post).turns) u)
        s
        (b.kind.polled s.below post)
        (b.kind.yields s.below post).poll
        (notices + (b.kind.yields s.below post).notices)
        (turns + (b.kind.yields s.below post).turns)

    -- A parked output that is next in turn is yielded with no notice and no turn.
    abbrev pub from_parked : Ordered S O R → Option (OrderWrapper O) → Outcome S O R
    from_parked s (Some w) = yielding s s.below (without_index s.outgoing s.parked) w.«data» 0 0
    from_parked s None = polling (suc (b.kind.number s.below b.len)) 0 0 s

    abbrev pub polled_by_turn : Ordered S O R → Outcome S O R
    polled_by_turn s = from_parked s (bearing_index s.outgoing s.parked)

    abbrev pub outcome : Ordered S O R → Outcome S O R
    outcome s = polled_by_turn (housekept s)

  -- The token calls go to the set below.
  abbrev pub tokened : Tokened (Ordered S O R)
  tokened = record {
    name = λ s. b.kind.tokened.name s.below;
    out = λ s. b.kind.tokened.out s.below;
    with_out = λ s n. with_below s (b.kind.tokened.with_out s.below n);
    occupied = λ s a. b.kind.tokened.occupied s.below a;
    known = λ s a. b.kind.tokened.known s.below a;
    woken = λ s a. with_below s (b.kind.tokened.woken s.below a);
    notices = λ s a. b.kind.tokened.notices s.below a;
  }

  abbrev pub kind : Kind (Ordered S O R) (Pushing F) Q F O
  kind = record {
    tokened = tokened;
    pushed = pushed;
    accepts = accepts;
    polled = λ s post. (outcome post s).set;
    yields = λ s post. (outcome post s).answer;
    number = number;
  }

  abbrev pub step : Step (Ordered S O R) (Pushing F) Q F O
  step = kinds.step kind

-- A fresh one over a fresh set below.
abbrev pub made : {S O R : Type 0} → S → ℕ → R → Ordered S O R
made below places beyond = record { below = below; parked = []; places = min places most_places; incoming = 0; outgoing = 0; beyond = beyond }

-- What is held: the tasks of the set below, and then the outputs that wait.
abbrev pub elements : {S O R E : Type 0} → (S → List E) → Ordered S O R → List (E ⊎ OrderWrapper O)
elements tasks s = map inl (tasks s.below) ++ map inr s.parked

-- The indices of what is held, in the same order.
abbrev pub indices : {S O R : Type 0} → (S → List ℕ) → Ordered S O R → List ℕ
indices of-tasks s = of-tasks s.below ++ map (λ w. w.index) s.parked
