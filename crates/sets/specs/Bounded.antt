-- The bounded unordered set by its rules.
use Rattle.std.specs.Prelude.{◌≡◌, ℕ, min, cond, List, [], ◌∷◌, length, drop, Some, None, Ok, Err, count_by, Result, nat_eq, nat_lt}
use Rattle.lists.specs.Queues.{first}
use Rattle.runs.specs.Calls.{Call, poll, Step, reached}
use Rattle.runs.specs.Kinds.{Kind}
use Rattle.runs.specs.Kinds as kinds
use Rattle.runs.specs.Tokens.{Tokened}
use Rattle.sets.specs.Group.{Group, joined, found, polled, turn, woken_at, group_flipped}
use Rattle.sets.specs.Group as group
use Rattle.sets.specs.declared.turn.Found.{Found}
use Rattle.slots.specs.Table.{len, full, task_at, occupied_at}
use Rattle.slots.specs.declared.slot.Slot.{Slot}
use Rattle.slots.specs.declared.slot.Slot.TheVariants.{Occupied, NextFree}
use Rattle.tasks.specs.Acts.{Acts}
use Rattle.tasks.specs.declared.fault.Fault.TheVariants.{NoVacantSlot}
use Rattle.tasks.specs.declared.fault.Refused.{Refused}
use Rattle.tasks.specs.declared.poll.Poll.TheVariants.{Ready}
use Rattle.wakes.specs.Wakes as wakes
use Rattle.wakes.specs.declared.wake_record.WakeRecord.{WakeRecord}

-- A bounded set: its name, how many tokens are out, its one group, and the memory beyond it.
pub record Bounded (F : Type 0) : Type 0 where
  pub name : ℕ
  pub out : ℕ
  pub group : Group F
  pub slots_beyond : List (Slot F)
  pub records_beyond : List WakeRecord

-- The capacity is the lesser of slot and wake memory, at most 65,536. Memory beyond it is not touched.
abbrev pub capacity_of : {F : Type 0} → List (Slot F) → List WakeRecord → ℕ
capacity_of slots records = min (min (length slots) (length records)) 65536

abbrev pub made : {F : Type 0} → ℕ → List (Slot F) → List WakeRecord → Bounded F
made name slots records = record {
  name = name;
  out = 0;
  group = group.fresh (capacity_of slots records);
  slots_beyond = drop (capacity_of slots records) slots;
  records_beyond = drop (capacity_of slots records) records;
}

abbrev pub with_group : {F : Type 0} → Bounded F → Group F → Bounded F
with_group s g = record { name = s.name; out = s.out; group = g; slots_beyond = s.slots_beyond; records_beyond = s.records_beyond }

abbrev pub with_out : {F : Type 0} → Bounded F → ℕ → Bounded F
with_out s n = record { name = s.name; out = n; group = s.group; slots_beyond = s.slots_beyond; records_beyond = s.records_beyond }

-- The index of every task is flipped.
abbrev pub set_flipped : {F : Type 0} → (F → F) → Bounded F → Bounded F
set_flipped f s = with_group s (group_flipped f s.group)

abbrev pub slots_of : {F : Type 0} → Bounded F → List (Slot F)
slots_of s = s.group.table.slots

-- A push answers the address, or is refused where no slot is vacant.
abbrev pub push_answer : {F : Type 0} → Bounded F → F → Result ℕ (Refused F)
push_answer s f =
    cond (full (slots_of s)) (Err (record { fault = NoVacantSlot (length (slots_of s)); input = f })) (Ok s.group.table.head)

-- What the token calls need: every slot has one address, and a wake goes to the group's queue and registration.
abbrev pub tokened : {F : Type 0} → Tokened (Bounded F)
tokened = record {
  name = λ s. s.name;
  out = λ s. s.out;
  with_out = with_out;
  occupied = λ s a. occupied_at (slots_of s) a;
  known = λ s a. nat_lt a (length (slots_of s));
  woken = λ s a. with_group s (woken_at s.group a);
  notices = λ s a. wakes.notice s.group.wakes a;
}

-- The questions that are answered by a number.
pub data Question : Type 0 where
  how_many : Question
  how_many_can_be : Question

abbrev pub number : {F : Type 0} → Bounded F → Question → ℕ
number s how_many = len (slots_of s)
number s how_many_can_be = length (slots_of s)

-- The elements that the set holds, in the order of their slots.
abbrev pub held_in : {F : Type 0} → List (Slot F) → List F
held_in [] = []
held_in (Occupied f ∷ slots) = f ∷ held_in slots
held_in (NextFree n ∷ slots) = held_in slots

abbrev pub elements : {F : Type 0} → Bounded F → List F
elements s = held_in (slots_of s)

-- How often a slot waits in the queue.
abbrev pub queued : {F : Type 0} → Bounded F → ℕ → ℕ
queued s a = count_by (nat_eq a) s.group.wakes.waiting

module _ {F O : Type 0} (acts : Acts F O) where
  abbrev pub kind : Kind (Bounded F) F Question F O
  kind = record {
    tokened = tokened;
    pushed = λ s f. with_group s (joined s.group f);
    accepts = push_answer;
    polled = λ s post. with_group s (polled acts post s.group).group;
    yields = λ s post. (polled acts post s.group).answer;
    number = number;
  }

  abbrev pub step : Step (Bounded F) F Question F O
  step = kinds.step kind

  -- A future that is ready is never polled again: its slot is vacant after the poll that yields its output, and a turn
  -- polls nothing at a vacant slot.
  pub record NeverAgain (fresh : Bounded F) : Type 0 where
    pub ready_vacates : (calls : List (Call F Question)) (post : List ℕ) (f : Found O)
        → (found acts post (reached step fresh calls).group).answer.poll ≡ Ready (Some f)
        → ((step (reached step fresh calls) (poll post)).1.poll ≡ Ready (Some f.answer))
        × (task_at (slots_of (step (reached step fresh calls) (poll post)).0) f.slot ≡ None)
    pub vacant_passed : (g : Group F) (post : List ℕ) (i : ℕ) → first g.wakes.waiting ≡ Some i → task_at g.table.slots i ≡ None
        → turn acts post g ≡ (Some (record { notices = 0; found = None }), record { table = g.table; wakes = wakes.popped g.wakes })
