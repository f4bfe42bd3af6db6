-- The queue that is kept in the wake records.
use Rattle.std.specs.Prelude.{◌≡◌, ℕ, Bool, List, map}
use Rattle.lists.specs.Walks.{walk, last_or, Chain}
use Rattle.wakes.specs.declared.queue.Queue.{Queue}
use Rattle.wakes.specs.declared.wake_record.WakeRecord.{WakeRecord}

abbrev pub flags : List WakeRecord → List Bool
flags records = map (λ r. r.queued) records

abbrev pub links : List WakeRecord → List ℕ
links records = map (λ r. r.next) records

-- The slots that wait, first to last.
abbrev pub waiting_in : List WakeRecord → Queue → List ℕ
waiting_in records q = walk (links records) q.waiting q.head

-- What the records keep: a slot's flag is set exactly if it waits, none waits twice, and the tail is the last one.
abbrev pub Queued : List WakeRecord → Queue → Type 0
Queued records q =
    Chain (flags records) (links records) q.waiting q.head
    × (last_or q.tail (waiting_in records q) ≡ q.tail)
