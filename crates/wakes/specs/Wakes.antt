-- The wake list by its rules.
use Rattle.std.specs.Prelude.{ℕ, Bool, true, false, cond, List, [], length, take, drop}
use Rattle.lists.specs.Queues.{enqueued, rest}
use Rattle.lists.specs.Walks.{member}
use Rattle.std.specs.List.{between}
use Rattle.wakes.specs.Queue.{waiting_in}
use Rattle.wakes.specs.declared.wake_record.WakeRecord.{WakeRecord}
use Rattle.wakes.specs.declared.waker_list.WakerList.{WakerList}

-- The slots that wait to be polled, first to last, and whether the parent is registered.
pub record Wakes : Type 0 where
  pub waiting : List ℕ
  pub registered : Bool

-- Nothing waits in a fresh one, and nobody is registered.
abbrev pub fresh : Wakes
fresh = record { waiting = []; registered = false }

-- A slot joins the queue without a notice.
abbrev pub pushed : Wakes → ℕ → Wakes
pushed w i = record { waiting = enqueued w.waiting i; registered = w.registered }

-- A wake joins it too. One that newly enqueues gives a notice to a registered parent, whose registration it clears.
abbrev pub woken : Wakes → ℕ → Wakes
woken w i = record { waiting = enqueued w.waiting i; registered = cond (member i w.waiting) w.registered false }

abbrev pub notice : Wakes → ℕ → ℕ
notice w i = cond (member i w.waiting) 0 (cond w.registered 1 0)

-- The first slot leaves the queue.
abbrev pub popped : Wakes → Wakes
popped w = record { waiting = rest w.waiting; registered = w.registered }

abbrev pub listening : Wakes → Wakes
listening w = record { waiting = w.waiting; registered = true }

-- What a wake list holds: the memory before its part, how many records its part has, its wakes, and the memory
-- beyond its part. Flags and links within the part say only what waits.
pub record Held : Type 0 where
  pub before : List WakeRecord
  pub places : ℕ
  pub wakes : Wakes
  pub beyond : List WakeRecord

abbrev pub records_of : WakerList → List WakeRecord
records_of l = between l.part.start l.part.end l.records.now

abbrev pub held : WakerList → Held
held l = record {
  before = take l.part.start l.records.now;
  places = length (records_of l);
  wakes = record { waiting = waiting_in (records_of l) l.queue; registered = l.registered };
  beyond = drop l.part.end l.records.now;
}

abbrev pub with_wakes : Held → Wakes → Held
with_wakes h w = record { before = h.before; places = h.places; wakes = w; beyond = h.beyond }
