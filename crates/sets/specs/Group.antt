-- A group of tasks: a slot table, the slots that wait to be polled, and the registration of the parent.
use Rattle.std.specs.Prelude.{ℕ, zero, suc, ◌+◌, Bool, cond, List, Some, None, Option, ◌==◌, slice_set}
use Rattle.lists.specs.Queues.{first, enqueued}
use Rattle.sets.specs.declared.turn.Found.{Found}
use Rattle.sets.specs.declared.turn.Turn.{Turn}
use Rattle.slots.specs.Flips.{table_flipped}
use Rattle.slots.specs.Table.{Table, task_at, len, full, inserted, removed}
use Rattle.slots.specs.Table as table
use Rattle.slots.specs.declared.slot.Slot.TheVariants.{Occupied}
use Rattle.tasks.specs.Acts.{Acts}
use Rattle.tasks.specs.declared.poll.Poll.{Poll}
use Rattle.tasks.specs.declared.poll.Poll.TheVariants.{Ready, Pending}
use Rattle.tasks.specs.declared.poll.Polled.{Polled}
use Rattle.wakes.specs.Wakes.{Wakes, woken, notice, popped, listening}
use Rattle.wakes.specs.Wakes as wakes

pub record Group (F : Type 0) : Type 0 where
  pub table : Table F
  pub wakes : Wakes

abbrev pub fresh : {F : Type 0} → ℕ → Group F
fresh n = record { table = table.fresh n; wakes = wakes.fresh }

-- A push inserts the task and enqueues its slot without a notice. Nothing happens if no slot is vacant.
abbrev pub joined : {F : Type 0} → Group F → F → Group F
joined g f = record {
  table = inserted g.table f;
  wakes = record {
    waiting = cond (full g.table.slots) g.wakes.waiting (enqueued g.wakes.waiting g.table.head);
    registered = g.wakes.registered;
  };
}

-- The index of every task is flipped.
abbrev pub group_flipped : {F : Type 0} → (F → F) → Group F → Group F
group_flipped f g = record { table = table_flipped f g.table; wakes = g.wakes }

-- What a poll of the group answered, and the group after it.
pub record Outcome (F A : Type 0) : Type 0 where
  pub answer : Polled (Option A)
  pub group : Group F

-- A wake of a slot.
abbrev pub woken_at : {F : Type 0} → Group F → ℕ → Group F
woken_at g i = record { table = g.table; wakes = woken g.wakes i }

-- A slot is woken if its task woke itself.
abbrev pub woken_if : Bool → Wakes → ℕ → Wakes
woken_if woke w i = record {
  waiting = cond woke (woken w i).waiting w.waiting;
  registered = cond woke (woken w i).registered w.registered;
}

module _ {F A : Type 0} (acts : Acts F A) (post : List ℕ) where
  -- What a poll of the task f, in slot i, leaves: the task after the poll, and the slot woken if the task woke itself.
  abbrev pub served : Group F → ℕ → F → Group F
  served g i f = record {
    table = record { slots = slice_set g.table.slots i (Occupied (acts.after f post)); head = g.table.head };
    wakes = woken_if (acts.wakes f post) g.wakes i;
  }

  -- The notices of that self-wake.
  abbrev pub self_notice : Group F → ℕ → F → ℕ
  self_notice g i f = cond (acts.wakes f post) (notice g.wakes i) 0

  -- What a poll of the task in slot i found, where the task gave an answer.
  abbrev pub found_at : ℕ → Poll A → Option (Found A)
  found_at i (Ready x) = Some (record { slot = i; answer = x })
  found_at i Pending = None

  -- A turn dequeues one slot, if one waits. A vacant slot is passed over, and the task of an occupied one is polled.
  abbrev pub dequeued : Group F → Group F
  dequeued g = record { table = g.table; wakes = popped g.wakes }

  abbrev pub turn_at : Group F → ℕ → Option F → Option (Turn A) × Group F
  turn_at g i None = (Some (record { notices = 0; found = None }), g)
  turn_at g i (Some f) = (Some (record { notices = self_notice g i f; found = found_at i (acts.answers f post) }), served g i f)

  abbrev pub turn_from : Group F → Option ℕ → Option (Turn A) × Group F
  turn_from g None = (None, g)
  turn_from g (Some i) = turn_at (dequeued g) i (task_at g.table.slots i)

  abbrev pub turn : Group F → Option (Turn A) × Group F
  turn g = turn_from g (first g.wakes.waiting)

  -- Turns are taken until a task gives an answer, the queue is empty, or none of the turns is left. In the last case the
  -- parent gets one notice, and stays registered.
  abbrev pub after_found : (Group F → ℕ → Outcome F (Found A)) → ℕ → ℕ → Option (Found A) → Group F → Outcome F (Found A)
  after_found go notices turns None g = go g notices
  after_found go notices turns (Some f) g = record { answer = record { poll = Ready (Some f); notices = notices; turns = turns + 1 }; group = g }

  abbrev pub after_turn : (Group F → ℕ → Outcome F (Found A)) → ℕ → ℕ → Option (Turn A) → Group F → Outcome F (Found A)
  after_turn go notices turns None g = record { answer = record { poll = Pending; notices = notices; turns = turns }; group = g }
  after_turn go notices turns (Some t) g = after_found go (notices + t.notices) turns t.found g

  unfoldable pub polling : ℕ → ℕ → ℕ → Group F → Outcome F (Found A)
  polling zero notices turns g = record { answer = record { poll = Pending; notices = notices + 1; turns = turns }; group = g }
  polling (suc left) notices turns g =
      after_turn (λ h more. polling left more (turns + 1) h) notices turns (turn g).0 (turn g).1

  -- An empty group has nothing to wait for. Any other registers the parent, and takes at most 61 turns.
  abbrev pub registered : Group F → Group F
  registered g = record { table = g.table; wakes = listening g.wakes }

  abbrev pub found_if : Bool → Group F → Outcome F (Found A)
  found_if empty g = record {
    answer = record {
      poll = cond empty (Ready None) (polling 61 0 0 (registered g)).answer.poll;
      notices = cond empty 0 (polling 61 0 0 (registered g)).answer.notices;
      turns = cond empty 0 (polling 61 0 0 (registered g)).answer.turns;
    };
    group = cond empty g (polling 61 0 0 (registered g)).group;
  }

  abbrev pub found : Group F → Outcome F (Found A)
  found g = found_if (len g.table.slots == 0) g

  -- A poll of futures vacates the slot of the future that is ready.
  abbrev pub output_of : Poll (Option (Found A)) → Poll (Option A)
  output_of Pending = Pending
  output_of (Ready None) = Ready None
  output_of (Ready (Some f)) = Ready (Some f.answer)

  abbrev pub vacated : Group F → Poll (Option (Found A)) → Group F
  vacated g Pending = g
  vacated g (Ready None) = g
  vacated g (Ready (Some f)) = record { table = removed g.table f.slot; wakes = g.wakes }

  abbrev pub finishing : Outcome F (Found A) → Outcome F A
  finishing o = record {
    answer = record { poll = output_of o.answer.poll; notices = o.answer.notices; turns = o.answer.turns };
    group = vacated o.group o.answer.poll;
  }

  abbrev pub polled : Group F → Outcome F A
  polled g = finishing (found g)
