-- A table in its part of the caller's memory.
use Rattle.std.specs.Prelude.{List, take, drop}
use Rattle.slots.specs.Table.{Table}
use Rattle.slots.specs.declared.slot.Slot.{Slot}
use Rattle.slots.specs.declared.slot_map.PinSlotMap.{PinSlotMap}
use Rattle.std.specs.List.{between}

-- What a slot map holds: the memory before its part, its table, and the memory beyond its part.
pub record Held (F : Type 0) : Type 0 where
  pub before : List (Slot F)
  pub table : Table F
  pub beyond : List (Slot F)

abbrev pub slots_of : {F : Type 0} → PinSlotMap F → List (Slot F)
slots_of m = between m.part.start m.part.end m.slots.now

abbrev pub held : {F : Type 0} → PinSlotMap F → Held F
held m = record {
  before = take m.part.start m.slots.now;
  table = record { slots = slots_of m; head = m.free_head };
  beyond = drop m.part.end m.slots.now;
}

abbrev pub with_table : {F : Type 0} → Held F → Table F → Held F
with_table h t = record { before = h.before; table = t; beyond = h.beyond }
