-- What an ordered queue over a bounded set keeps, told by indices alone, and what its calls ask for say the same.
use Rattle.std.proofs.Common.{◌≡◌, ℕ, zero, suc, ◌+◌, ◌%◌, ◌^◌, ◌≤◌, Bool, true, List, [], ◌∷◌, map, length, take, count_by, Option, sym, refl, ap, ◌∙◌, subst, arith}
use Rattle.ordered.proofs.BoundedLines.{bare_tickets, bare_flips}
use Rattle.ordered.proofs.Counts.{one_if, count_cons, count_map}
use Rattle.ordered.proofs.Queues.{length_ascending}
use Rattle.ordered.proofs.Rows.{length_numbered}
use Rattle.ordered.specs.Ordered.{ascending}
use Rattle.parking.specs.HeldPairs.{held_pairs}
use Rattle.parking.specs.Places.{entries_in}
use Rattle.parking.specs.declared.index_heap.IndexHeap.{IndexHeap}
use Rattle.ordered.specs.Below.{Label, label}
use Rattle.ordered.specs.BoundedBelow.{bounded_below, no_ticket, index_labels, FreeChain}
use Rattle.ordered.specs.FuturesOrdered.{ordered_of}
use Rattle.ordered.specs.Lined.{Lined, numbered}
use Rattle.ordered.specs.LinedQueue.{blank, size, Even, Ends, Wraps, Placed}
use Rattle.ordered.specs.OrderedSet.{Line, made}
use Rattle.ordered.specs.Queue.{Kept}
use Rattle.ordered.specs.declared.futures_ordered_bounded.FuturesOrderedBounded.{FuturesOrderedBounded}
use Rattle.runs.proofs.TicketRuns.{count_all}
use Rattle.sets.proofs.BoundedLaws.{fresh_held}
use Rattle.sets.specs.Bounded.{elements, capacity_of}
use Rattle.slots.proofs.Chained.{fresh_len}
use Rattle.slots.specs.Table.{fresh_slots}
use Rattle.slots.specs.declared.slot.Slot.{Slot}
use Rattle.wakes.specs.declared.wake_record.WakeRecord.{WakeRecord}
use Rattle.std.proofs.lemmas.List.{length-map, length-drop, length-take-le}
use Rattle.tasks.specs.Acts.{Acts}
use Rattle.tasks.specs.Orders.{index_raised}
use Rattle.tasks.specs.declared.future.Future.{Ghosts as Future}
use Rattle.tasks.specs.declared.ticket.Ticketed.{Ghosts as Ticketed}
use Rattle.tasks.specs.declared.order_wrapper.OrderWrapper.{OrderWrapper}

-- a label without its ticket
abbrev bare : Label → Label
bare l = (l.0, (0, 0))

length_blank : (n : ℕ) → length (blank n) ≡ n
length_blank zero = refl
length_blank (suc n) = let e = length_blank n in omega (arith, e)

numbered_bare : (test : Label → Bool) (i : ℕ) (d : List (ℕ × ℕ)) → count_by (λ l. test (bare l)) (numbered i d) ≡ count_by test (numbered i (blank (length d)))
numbered_bare test i [] = refl
numbered_bare test i (t ∷ d) =
    count_cons (λ l. test (bare l)) (i, t) (numbered (index_raised i) d)
    ∙ ap (λ n. one_if (test (i, (0, 0))) + n) (numbered_bare test (index_raised i) d)
    ∙ sym (count_cons test (i, (0, 0)) (numbered (index_raised i) (blank (length d))))

labels_bare : {X : Type 0} (test : Label → Bool) (ws : List (OrderWrapper X)) → count_by test (map (label no_ticket) ws) ≡ count_by (λ l. test (bare l)) (map (label no_ticket) ws)
labels_bare test ws = count_map test (label no_ticket) ws ∙ sym (count_map (λ l. test (bare l)) (label no_ticket) ws)

module _ {F O : Type 0} (acts : Acts F O) where
  abbrev pub Line_kept : Line F O → Type 0
  Line_kept s = Kept (bounded_below acts) FreeChain index_labels s

  -- the deque of a line is as long as the set is large
  long : (s : Line F O) (d : List (ℕ × ℕ)) → Lined no_ticket FreeChain index_labels s d → length d ≡ size s
  long s d l =
      omega (
        arith,
        l.even (λ x. true),
        count_all (index_labels s.below),
        count_all (map (label no_ticket) s.parked),
        length_numbered s.outgoing d,
        length-map (elements s.below) (label no_ticket),
        length-map s.parked (label no_ticket),
        count_all (numbered s.outgoing d),
      )

  module _ (s : Line F O) (k : Line_kept s) where
    size_is : length k.deque ≡ size s
    size_is = long s k.deque k.lined

    pub even_of : Even s
    even_of test =
        let whole = k.lined.even (λ l. test (bare l)) in
        let to : count_by test (numbered s.outgoing (blank (length k.deque))) ≡ count_by test (numbered s.outgoing (blank (size s))) = ap (λ n. count_by test (numbered s.outgoing (blank n))) size_is in
        omega (arith, labels_bare test (elements s.below), labels_bare test s.parked, whole, numbered_bare test s.outgoing k.deque, to)

    pub ends_of : Ends s
    ends_of = k.lined.ends ∙ ap (λ n. (s.outgoing + n) % 2 ^ 64) size_is

    pub wraps_of : Wraps s
    wraps_of = k.lined.wraps

    pub placed_of : Placed s
    placed_of = omega (arith, k.lined.placed, size_is)

  pub kept_of : (s : Line F O) → FreeChain s.below → Even s → Ends s → Placed s → Wraps s → s.places ≤ 65536 → Line_kept s
  kept_of s kept even ends placed wraps most =
      let n : length (blank (size s)) ≡ size s = length_blank (size s) in
      record {
        tickets = bare_tickets acts;
        flips = bare_flips acts;
        deque = blank (size s);
        lined = record {
          kept = kept;
          even = even;
          ends = ends ∙ ap (λ k. (s.outgoing + k) % 2 ^ 64) (sym n);
          wraps = wraps;
          placed = omega (arith, placed, n);
          most = most;
        };
      }

-- what a set keeps is what the calls of its queue ask for
module _ {F O : Type 0} {future : Future F O} {task : Ticketed F} {output : Ticketed O} (acts : Acts F O) where
  pub sound_of : (s : FuturesOrderedBounded F O future task output) → Line_kept acts (ordered_of s)
  sound_of s = kept_of acts (ordered_of s) s.queue.in_progress_queue.group.tasks.free_chained s.even s.ends s.placed s.wraps s.queue.queued_outputs.heap.cut

-- a fresh line
module _ {F O : Type 0} where
  abbrev Lines : Line F O → Type 0
  Lines s = Even s × Ends s × Wraps s × Placed s

  made_line : (name : ℕ) (slots : List (Slot (OrderWrapper F))) (records : List WakeRecord) (parking : List (Option (OrderWrapper O))) → Lines (made name slots records parking)
  made_line name slots records parking =
      let s : Line F O = made name slots records parking in
      let none : elements s.below ≡ [] = fresh_held (fresh_slots (capacity_of slots records)) (fresh_len (OrderWrapper F) (capacity_of slots records)) in
      let nil : size s ≡ 0 = let e = ap (λ ws. length ws) none in omega (arith, e) in (
        λ test. subst (λ ws. count_by test (map (label no_ticket) ws) + 0 ≡ count_by test (numbered 0 (blank (length ws + 0)))) (sym none) refl,
        omega (arith, nil),
        omega arith,
        omega (arith, nil),
      )

  pub fresh_line : (s : Line F O) (name : ℕ) (slots : List (Slot (OrderWrapper F))) (records : List WakeRecord) (parking : List (Option (OrderWrapper O))) → s ≡ made name slots records parking → Lines s
  fresh_line s name slots records parking is = subst Lines (sym is) (made_line name slots records parking)

-- the memory of a heap, where its places end and what they hold
module _ {O : Type 0} (h : IndexHeap O) where
  pub long_memory : length h.heap.memory.now ≡ (held_pairs h).places + length (held_pairs h).beyond
  long_memory = omega (arith, h.heap.within, length-drop h.heap.places h.heap.memory.now)

  used_long : length (ascending (held_pairs h).bag) ≡ h.heap.count
  used_long =
      let filled : length (held_pairs h).bag ≡ length (take h.heap.count h.heap.memory.now) = h.heap.holding in
      omega (arith, length_ascending (held_pairs h).bag, filled, length-take-le h.heap.count h.heap.memory.now (omega (arith, h.heap.few, h.heap.within)))

  pub parked_memory : ascending (entries_in (take (length (ascending (held_pairs h).bag)) h.heap.memory.now)) ≡ ascending (held_pairs h).bag
  parked_memory = ap (λ n. ascending (entries_in (take n h.heap.memory.now))) used_long
