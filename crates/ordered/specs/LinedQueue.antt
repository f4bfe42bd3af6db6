-- An ordered queue over a bounded set and a heap, by the rules, and that its elements are lined up.
use Rattle.std.specs.Prelude.{◌≡◌, ℕ, zero, suc, ◌+◌, ◌%◌, ◌^◌, ◌<◌, ◌≤◌, Bool, List, [], ◌∷◌, map, length, count_by}
use Rattle.ordered.specs.Below.{Label, label}
use Rattle.ordered.specs.BoundedBelow.{no_ticket, index_labels}
use Rattle.ordered.specs.Lined.{numbered}
use Rattle.ordered.specs.Ordered.{ascending}
use Rattle.ordered.specs.OrderedSet.{Line}
use Rattle.ordered.specs.declared.ordered_queue.OrderedQueue.{OrderedQueue}
use Rattle.parking.specs.HeldPairs.{held_pairs}
use Rattle.parking.specs.declared.index_heap.IndexHeap.{IndexHeap}
use Rattle.sets.specs.Bounded.{elements}
use Rattle.sets.specs.BoundedSet.{set_of}
use Rattle.sets.specs.declared.futures_unordered_bounded.FuturesUnorderedBounded.{FuturesUnorderedBounded}
use Rattle.tasks.specs.declared.order_wrapper.OrderWrapper.{OrderWrapper}

module _ {F O : Type 0} where
  abbrev pub line_in : OrderedQueue (FuturesUnorderedBounded (OrderWrapper F)) (IndexHeap O) → Line F O
  line_in q = record {
    below = set_of q.in_progress_queue;
    parked = ascending (held_pairs q.queued_outputs).bag;
    places = (held_pairs q.queued_outputs).places;
    incoming = q.next_incoming_index;
    outgoing = q.next_outgoing_index;
    beyond = (held_pairs q.queued_outputs).beyond;
  }

-- A deque of that many, whatever their tickets.
abbrev pub blank : ℕ → List (ℕ × ℕ)
blank zero = []
blank (suc n) = (0, 0) ∷ blank n

module _ {F O : Type 0} (s : Line F O) where
  -- How many elements are held.
  abbrev pub size : ℕ
  size = length (elements s.below) + length s.parked

  -- Their indices are one run from outgoing on, each once.
  abbrev pub Even : Type 0
  Even = (test : Label → Bool) → count_by test (index_labels s.below) + count_by test (map (label no_ticket) s.parked) ≡ count_by test (numbered s.outgoing (blank size))

  abbrev pub Ends : Type 0
  Ends = s.incoming ≡ (s.outgoing + size) % 2 ^ 64

  abbrev pub Wraps : Type 0
  Wraps = s.outgoing < 2 ^ 64

  -- There is a place for each of them.
  abbrev pub Placed : Type 0
  Placed = size ≤ s.places
