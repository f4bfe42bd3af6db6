-- What an ordered queue is by the rules, and what it keeps.
use Rattle.std.specs.Prelude.{◌≡◌, ℕ, ◌≤◌, true, false, ◌⊎◌, List, Ok, Err, Result, nat_lt}
use Rattle.ordered.specs.Below.{Below, Label, label, FlipLaws, leave_of, unwrapped}
use Rattle.ordered.specs.BoundedBelow.{no_ticket}
use Rattle.ordered.specs.Lined.{Lined}
use Rattle.ordered.specs.Ordered.{Ordered, Side, accepts, pushed, ascending, held, most_places, with_below}
use Rattle.ordered.specs.declared.ordered_queue.OrderedQueue.{OrderedQueue}
use Rattle.ordered.specs.declared.task_set.TaskSet.{Ghosts as TaskSet}
use Rattle.parking.specs.declared.parking.Parking.{Ghosts as Parking}
use Rattle.runs.specs.Laws.{TicketLaws}
use Rattle.tasks.specs.declared.fault.Fault.{Fault}
use Rattle.tasks.specs.declared.fault.Refused.{Refused}
use Rattle.tasks.specs.declared.order_wrapper.OrderWrapper.{OrderWrapper}

-- The set below has its laws, told by indices alone, and the elements are lined up.
pub record Kept {M Q F O R : Type 0} (b : Below M Q F O) (Inv : M → Type 0) (labels : M → List Label) (s : Ordered M O R) : Type 0 where
  pub tickets : TicketLaws b.kind (label no_ticket) (label no_ticket) Inv labels labels b.len
  pub flips : FlipLaws b Inv labels
  pub deque : List (ℕ × ℕ)
  pub lined : Lined no_ticket Inv labels s deque

-- What a push did, where the parking had `room` places once it was asked for one more: one of the numbers that are
-- possible. It is asked only if the set below would accept.
pub record PushedBy {M Q F O R : Type 0} (b : Below M Q F O) (full : ℕ → ℕ → Fault) (possible : ℕ → ℕ → Type 0) (s : Ordered M O R) (side : Side) (task : F) (r : Result ℕ (Refused F)) (after : Ordered M O R) : Type 0 where
  pub room : ℕ
  pub can_be : ((w : OrderWrapper F) → leave_of (b.kind.accepts s.below w) ≡ Ok tt) → possible (held b full s) room
  pub answer : r ≡ accepts b full s (record { side = side; task = task; room = room })
  pub then : after ≡ pushed b full s (record { side = side; task = task; room = room })

-- A place for one more element is secured, or that is refused: by the set below, or else by the parking.
abbrev pub with_places : {M O R : Type 0} → Ordered M O R → ℕ → Ordered M O R
with_places s n = record { below = s.below; parked = s.parked; places = n; incoming = s.incoming; outgoing = s.outgoing; beyond = s.beyond }

module _ {M Q F O R : Type 0} (b : Below M Q F O) (full : ℕ → ℕ → Fault) where
  abbrev pub Accepting : Ordered M O R → Result (Unit {0}) Fault → Type 0
  Accepting s r = (w : OrderWrapper F) → leave_of (b.kind.accepts s.below w) ≡ r

  abbrev pub Secured : (ℕ → ℕ → Type 0) → Ordered M O R → Result (Unit {0}) Fault → Ordered M O R → Type 0
  Secured possible s (Ok u) after =
      Accepting s (Ok tt) × possible (held b full s) after.places × (nat_lt (held b full s) after.places ≡ true) × (after.places ≤ most_places) × (after ≡ with_places s after.places)
  Secured possible s (Err f) after =
      (after ≡ s) × (Accepting s (Err f) ⊎ (Accepting s (Ok tt) × possible (held b full s) s.places × (nat_lt (held b full s) s.places ≡ false) × (f ≡ full s.places (held b full s))))

  -- A place is secured and the set below takes the task under an index, or the task is handed back.
  abbrev pub PutUnder : (ℕ → ℕ → Type 0) → Ordered M O R → OrderWrapper F → Result ℕ (Refused F) → Ordered M O R → Type 0
  PutUnder possible s w (Ok a) after =
      Secured possible s (Ok tt) (with_places s after.places)
      × (Ok a ≡ unwrapped (b.kind.accepts s.below w))
      × (after ≡ with_below (with_places s after.places) (b.kind.pushed s.below w))
  PutUnder possible s w (Err r) after = Secured possible s (Err r.fault) after × (r.input ≡ w.«data»)

-- These, of a queue over a set of tasks and a parking.
module _ {S P F O : Type 0} (t : TaskSet S F O) (p : Parking P O) where
  -- The outputs that wait, in the order of their indices, whatever the order in which the parking keeps them.
  abbrev pub line_of : OrderedQueue S P → Ordered t.Model O p.Rest
  line_of q = record {
    below = t.model q.in_progress_queue;
    parked = ascending (p.bag q.queued_outputs);
    places = p.places q.queued_outputs;
    incoming = q.next_incoming_index;
    outgoing = q.next_outgoing_index;
    beyond = p.rest q.queued_outputs;
  }

  abbrev pub Sound : OrderedQueue S P → Type 0
  Sound q = Kept t.below t.Inv t.labels (line_of q)

  abbrev pub Secures : OrderedQueue S P → Result (Unit {0}) Fault → OrderedQueue S P → Type 0
  Secures q r after = Secured t.below p.full (p.secures q.queued_outputs) (line_of q) r (line_of after)

  abbrev pub Puts : OrderedQueue S P → OrderWrapper F → Result ℕ (Refused F) → OrderedQueue S P → Type 0
  Puts q w r after = PutUnder t.below p.full (p.secures q.queued_outputs) (line_of q) w r (line_of after)

  abbrev pub Pushes : OrderedQueue S P → Side → F → Result ℕ (Refused F) → OrderedQueue S P → Type 0
  Pushes q side task r after = PushedBy t.below p.full (p.secures q.queued_outputs) (line_of q) side task r (line_of after)
