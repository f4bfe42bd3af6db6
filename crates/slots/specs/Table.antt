-- The slot table by its rules.
use Rattle.std.specs.Prelude.{ℕ, ◌+◌, Bool, true, false, cond, not, List, map, length, is_some, Some, None, count_by, Option, ◌==◌, slice_set}
use Rattle.lists.specs.Walks.{Free}
use Rattle.slots.specs.declared.slot.Slot.{Slot}
use Rattle.slots.specs.declared.slot.Slot.TheVariants.{Occupied, NextFree}
use Rattle.std.specs.List.{slice_get, range_with_len}

-- A table is its slots and the free head, the number of the slot that the next insert takes.
pub record Table (F : Type 0) : Type 0 where
  pub slots : List (Slot F)
  pub head : ℕ

abbrev pub vacant : {F : Type 0} → Slot F → Bool
vacant (Occupied f) = false
vacant (NextFree n) = true

abbrev pub occupied : {F : Type 0} → Slot F → Bool
occupied s = not (vacant s)

-- The number in a vacant slot.
abbrev pub next : {F : Type 0} → Slot F → ℕ
next (Occupied f) = 0
next (NextFree n) = n

-- The task in a slot, where there is one.
abbrev pub task_in : {F : Type 0} → Option (Slot F) → Option F
task_in None = None
task_in (Some (Occupied f)) = Some f
task_in (Some (NextFree n)) = None

abbrev pub next_link : {F : Type 0} → Option (Slot F) → ℕ
next_link None = 0
next_link (Some s) = next s

abbrev pub task_at : {F : Type 0} → List (Slot F) → ℕ → Option F
task_at slots i = task_in (slice_get slots i)

abbrev pub occupied_at : {F : Type 0} → List (Slot F) → ℕ → Bool
occupied_at slots i = is_some (task_at slots i)

-- A fresh table of n slots has free head 0, and slot i points to i + 1.
abbrev pub fresh_slots : {F : Type 0} → ℕ → List (Slot F)
fresh_slots n = map (λ i. NextFree (i + 1)) (range_with_len 0 n)

abbrev pub fresh : {F : Type 0} → ℕ → Table F
fresh n = record { slots = fresh_slots n; head = 0 }

-- How many tasks there are, and how many there can be.
abbrev pub len : {F : Type 0} → List (Slot F) → ℕ
len slots = count_by occupied slots

abbrev pub full : {F : Type 0} → List (Slot F) → Bool
full slots = len slots == length slots

-- An insert takes the free head. Nothing happens if no slot is vacant.
abbrev pub inserted : {F : Type 0} → Table F → F → Table F
inserted t f = record {
  slots = cond (full t.slots) t.slots (slice_set t.slots t.head (Occupied f));
  head = cond (full t.slots) t.head (next_link (slice_get t.slots t.head));
}

-- A removal makes its slot the free head. It does nothing on a vacant slot.
abbrev pub removed : {F : Type 0} → Table F → ℕ → Table F
removed t i = record {
  slots = cond (occupied_at t.slots i) (slice_set t.slots i (NextFree t.head)) t.slots;
  head = cond (occupied_at t.slots i) i t.head;
}

-- The task of a slot is another one.
abbrev pub replaced : {F : Type 0} → Table F → ℕ → F → Table F
replaced t i f = record { slots = slice_set t.slots i (Occupied f); head = t.head }

-- The free slots are chained: from the free head on, the next free slots are just the vacant ones, each
-- once, and the last one points past the table.
abbrev pub Chained : {F : Type 0} → List (Slot F) → ℕ → Type 0
Chained slots head = Free (map vacant slots) (map next slots) head
