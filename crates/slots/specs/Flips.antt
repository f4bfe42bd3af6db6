-- The top bit of the index of every task in a table is flipped.
use Rattle.std.specs.Prelude.{map}
use Rattle.slots.specs.Table.{Table}
use Rattle.slots.specs.declared.slot.Slot.{Slot}
use Rattle.slots.specs.declared.slot.Slot.TheVariants.{Occupied, NextFree}

module _ {F : Type 0} (flipped : F → F) where
  abbrev pub slot_flipped : Slot F → Slot F
  slot_flipped (Occupied f) = Occupied (flipped f)
  slot_flipped (NextFree n) = NextFree n

  abbrev pub table_flipped : Table F → Table F
  table_flipped t = record { slots = map slot_flipped t.slots; head = t.head }
