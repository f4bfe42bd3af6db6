-- What a FuturesOrderedBounded holds.
use Rattle.std.specs.Prelude.{◌≡◌, ◌+◌, length, take, drop, Some, None, Ok, Err, Result}
use Rattle.ordered.specs.LinedQueue.{line_in}
use Rattle.ordered.specs.Ordered.{Side, Pushing, ascending}
use Rattle.ordered.specs.OrderedSet.{Line}
use Rattle.ordered.specs.declared.futures_ordered_bounded.FuturesOrderedBounded.{FuturesOrderedBounded}
use Rattle.ordered.specs.declared.ordered_memory.OrderedMemory.{OrderedMemory}
use Rattle.parking.specs.Places.{entries_in}
use Rattle.runs.specs.Tokens.{end_fault}
use Rattle.sets.specs.Bounded.{tokened}
use Rattle.sets.specs.BoundedSet as below
use Rattle.tasks.specs.declared.fault.Refused.{Refused}
use Rattle.tasks.specs.declared.future.Future.{Ghosts as Future}
use Rattle.tasks.specs.declared.ticket.Ticketed.{Ghosts as Ticketed}

module _ {F O : Type 0} where
  -- The memory of a set: that of its tasks, and the parking, whose places hold just the outputs that wait, and memory beyond them as it was.
  abbrev pub MemoryOf : Line F O → OrderedMemory F O → Type 0
  MemoryOf s m =
      below.MemoryOf s.below m.tasks
      × (drop s.places m.parking.now ≡ s.beyond)
      × (length m.parking.now ≡ s.places + length s.beyond)
      × (ascending (entries_in (take (length s.parked) m.parking.now)) ≡ s.parked)

module _ {F O : Type 0} {future : Future F O} {task : Ticketed F} {output : Ticketed O} where
  abbrev pub ordered_of : FuturesOrderedBounded F O future task output → Line F O
  ordered_of s = line_in s.queue

  -- A push brings a task for the back or the front. A parking in the caller's memory has the places that it always had.
  abbrev pub pushing : FuturesOrderedBounded F O future task output → Side → F → Pushing F
  pushing s side f = record { side = side; task = f; room = (ordered_of s).places }

  -- A set that may end gives its memory back. One that may not is handed back with the fault, as it was.
  abbrev pub TakenApart : Line F O → Result (OrderedMemory F O) (Refused (FuturesOrderedBounded F O future task output)) → Type 0
  TakenApart s (Ok m) = (end_fault tokened s.below ≡ None) × MemoryOf s m
  TakenApart s (Err r) = (end_fault tokened s.below ≡ Some r.fault) × (ordered_of r.input ≡ s)
