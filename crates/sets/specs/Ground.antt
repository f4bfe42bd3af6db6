-- A group in its part of the caller's memory.
use Rattle.std.specs.Prelude.{◌≡◌, ℕ, ◌+◌, ◌-◌, false, List, length, take, drop, slice_index_or}
use Rattle.lists.specs.Walks.{member}
use Rattle.sets.specs.Group.{Group, fresh}
use Rattle.sets.specs.declared.group.TaskGroup.{TaskGroup}
use Rattle.slots.specs.Held as slots
use Rattle.slots.specs.declared.slot.Slot.{Slot}
use Rattle.std.specs.List.{between}
use Rattle.wakes.specs.Queue.{flags}
use Rattle.wakes.specs.Wakes as wakes
use Rattle.wakes.specs.declared.wake_record.WakeRecord.{WakeRecord}

-- What a group holds, with the memory before and beyond its part.
pub record Ground (F : Type 0) : Type 0 where
  pub tasks : slots.Held F
  pub shared : wakes.Held

abbrev pub ground_of : {F : Type 0} → TaskGroup F → Ground F
ground_of t = record { tasks = slots.held t.tasks; shared = wakes.held t.shared }

-- A fresh group in the part from a to e of both memories.
abbrev pub fresh_ground : {F : Type 0} → List (Slot F) → List WakeRecord → ℕ → ℕ → Ground F
fresh_ground ss rs a e = record {
  tasks = record { before = take a ss; table = (fresh (e - a)).table; beyond = drop e ss };
  shared = record { before = take a rs; places = e - a; wakes = (fresh {F = Unit {0}} (e - a)).wakes; beyond = drop e rs };
}

abbrev pub group_in : {F : Type 0} → Ground F → Group F
group_in g = record { table = g.tasks.table; wakes = g.shared.wakes }

abbrev pub with_group : {F : Type 0} → Ground F → Group F → Ground F
with_group g h = record { tasks = slots.with_table g.tasks h.table; shared = wakes.with_wakes g.shared h.wakes }

-- A group whose part begins where the memory begins.
abbrev pub FromStart : {F : Type 0} → TaskGroup F → Type 0
FromStart t = (length (ground_of t).tasks.before ≡ 0) × (length (ground_of t).shared.before ≡ 0)

-- Wake memory that is given back: what lies before and beyond the part is as it was, and so is its length. In the part
-- the flags are set of just the slots that wait.
pub record GivenBack (h : wakes.Held) (records : List WakeRecord) : Type 0 where
  pub before : take (length h.before) records ≡ h.before
  pub beyond : drop (length h.before + h.places) records ≡ h.beyond
  pub long : length records ≡ length h.before + h.places + length h.beyond
  pub flagged : (k : ℕ) → slice_index_or (flags (between (length h.before) (length h.before + h.places) records)) k false ≡ member k h.wakes.waiting
