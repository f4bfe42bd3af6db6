-- What a FuturesUnorderedBounded holds.
use Rattle.std.specs.Prelude.{◌≡◌, ℕ, ◌+◌, false, ◌++◌, length, take, drop, Some, None, Ok, Err, Result, slice_index_or}
use Rattle.lists.specs.Walks.{member}
use Rattle.runs.specs.Tokens.{end_fault}
use Rattle.sets.specs.Bounded.{Bounded, slots_of, tokened}
use Rattle.sets.specs.Ground.{ground_of, group_in}
use Rattle.sets.specs.declared.futures_unordered_bounded.FuturesUnorderedBounded.{FuturesUnorderedBounded}
use Rattle.sets.specs.declared.memory.Memory.{Memory}
use Rattle.tasks.specs.declared.fault.Refused.{Refused}
use Rattle.wakes.specs.Queue.{flags}

abbrev pub set_of : {F : Type 0} → FuturesUnorderedBounded F → Bounded F
set_of s = record {
  name = s.name;
  out = s.tokens;
  group = group_in (ground_of s.group);
  slots_beyond = (ground_of s.group).tasks.beyond;
  records_beyond = (ground_of s.group).shared.beyond;
}

-- The memory of a set: the slots as they are, the flags of the slots that wait, and the wake memory beyond its part as it was.
abbrev pub MemoryOf : {F : Type 0} → Bounded F → Memory F → Type 0
MemoryOf s m =
    (m.slots.now ≡ slots_of s ++ s.slots_beyond)
    × (drop (length (slots_of s)) m.records.now ≡ s.records_beyond)
    × (length m.records.now ≡ length (slots_of s) + length s.records_beyond)
    × ((k : ℕ) → slice_index_or (flags (take (length (slots_of s)) m.records.now)) k false ≡ member k s.group.wakes.waiting)

-- A set that may end gives its memory back. One that may not is handed back with the fault, as it was.
abbrev pub TakenApart : {F : Type 0} → Bounded F → Result (Memory F) (Refused (FuturesUnorderedBounded F)) → Type 0
TakenApart s (Ok m) = (end_fault tokened s ≡ None) × MemoryOf s m
TakenApart s (Err r) = (end_fault tokened s ≡ Some r.fault) × (set_of r.input ≡ s)
