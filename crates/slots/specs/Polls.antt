-- A poll of the task in a slot, in place.
use Rattle.std.specs.Prelude.{ℕ, Bool, List, Some, None, Option, slice_set}
use Rattle.slots.specs.Table.{Table, task_at}
use Rattle.slots.specs.declared.slot.Slot.{Slot}
use Rattle.slots.specs.declared.slot.Slot.TheVariants.{Occupied}
use Rattle.tasks.specs.Acts.{Acts}
use Rattle.tasks.specs.declared.poll.Poll.{Poll}

module _ {F A : Type 0} (acts : Acts F A) (post : List ℕ) where
  -- The pair that the poll answers; nothing where there is no task.
  abbrev pub pair_of : Option F → Option (Bool × Poll A)
  pair_of None = None
  pair_of (Some f) = Some (acts.wakes f post, acts.answers f post)

  -- The slots after it.
  abbrev pub slots_after : List (Slot F) → ℕ → Option F → List (Slot F)
  slots_after slots i None = slots
  slots_after slots i (Some f) = slice_set slots i (Occupied (acts.after f post))

  abbrev pub polled_at : Table F → ℕ → Table F
  polled_at t i = record { slots = slots_after t.slots i (task_at t.slots i); head = t.head }
