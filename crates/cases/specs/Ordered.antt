-- Worked runs of the bounded ordered set, one list, computed from the definitions.
use Rattle.std.specs.Prelude.{◌≡◌, ℕ, true, false, List, [], ◌∷◌, map, replicate, Some, None, Ok, Err, Option}
use Rattle.cases.specs.Bounded.{Task, Output, acts, C, L, token}
use Rattle.ordered.specs.Ordered.{Pushing, Side, back, front}
use Rattle.ordered.specs.OrderedSet as ordered
use Rattle.runs.specs.Calls.{Call, push, poll, hand, wake, may_end, ask, Entry, did, log}
use Rattle.sets.specs.Bounded.{Question, how_many, how_many_can_be}
use Rattle.slots.specs.declared.slot.Slot.TheVariants.{NextFree}
use Rattle.tasks.specs.declared.either.Either.TheVariants.{Left, Right}
use Rattle.tasks.specs.declared.fault.Fault.{Fault}
use Rattle.tasks.specs.declared.fault.Fault.TheVariants.{NoVacantSlot, ParkingFull}
use Rattle.tasks.specs.declared.poll.Poll.{Poll}
use Rattle.tasks.specs.declared.poll.Poll.TheVariants.{Ready, Pending}

abbrev pub Line : Type 0
Line = Entry (Pushing Task) Question Task Output

-- Lines of a run: a call, and what it answers. The parking has `room` places.
abbrev pub pushing : Side → ℕ → Task → Pushing Task
pushing side room task = record { side = side; task = task; room = room }

abbrev pub pushed_at : Side → ℕ → Task → ℕ → Line
pushed_at side room task address = did (push (pushing side room task)) (Ok address)

abbrev pub push_refused : Side → ℕ → Task → Fault → Line
push_refused side room task fault = did (push (pushing side room task)) (Err (record { fault = fault; input = task }))

abbrev pub polled : List ℕ → Poll (Option Output) → ℕ → ℕ → Line
polled post p notices turns = did (poll post) (record { poll = p; notices = notices; turns = turns })

abbrev pub word : ℕ → ℕ → Poll (Option Output)
word owner w = Ready (Some (Right (record { ticket = (owner, 0); word = w })))

abbrev pub bare : ℕ → Poll (Option Output)
bare owner = Ready (Some (Left (owner, 0)))

abbrev pub handed : ℕ → ℕ → Line
handed name address = did (hand address) (Ok (token name address))

abbrev pub woke : ℕ → ℕ → ℕ → Line
woke name address notice = did (wake (token name address)) (Ok notice)

abbrev pub holds : ℕ → Line
holds n = did (ask how_many) n

abbrev pub can_hold : ℕ → Line
can_hold n = did (ask how_many_can_be) n

-- A run begins with a set of the name 1, in memory of these lengths that holds anything.
pub record Case : Type 0 where
  pub slots : ℕ
  pub records : ℕ
  pub parking : ℕ
  pub lines : List Line

abbrev pub start : Case → ordered.Line Task Output
start c =
    ordered.made 1 (replicate c.slots (NextFree 9)) (replicate c.records (record { queued = true; next = 9 }))
    (replicate c.parking (Some (record { «data» = Left (9, 9); index = 9 })))

abbrev pub call_of : Line → Call (Pushing Task) Question
call_of (did c a) = c

-- Each call of the run answers what its line says.
abbrev pub Holds : Case → Type 0
Holds c = log (ordered.step acts) (start c) (map call_of c.lines) ≡ c.lines

abbrev pub AllHold : List Case → Type 0
AllHold [] = Unit {0}
AllHold (c ∷ cs) = Holds c × AllHold cs

-- An output waits for its turn, is counted all the while, and is yielded with no turn.
abbrev pub waits : Case
waits = record {
  slots = 3;
  records = 3;
  parking = 3;
  lines =
      pushed_at back 3 (L 1 0) 0
      ∷ pushed_at back 3 (C 2 0 false) 1
      ∷ pushed_at front 3 (L 3 1) 2
      ∷ polled (0 ∷ 0 ∷ []) Pending 0 3
      ∷ holds 3
      ∷ handed 1 0
      ∷ handed 1 2
      ∷ woke 1 2 1
      ∷ polled (7 ∷ 9 ∷ []) (word 3 9) 0 1
      ∷ woke 1 0 1
      ∷ polled (7 ∷ 9 ∷ []) (word 1 7) 0 1
      ∷ holds 1
      ∷ polled (7 ∷ 9 ∷ []) (bare 2) 0 0
      ∷ polled (7 ∷ 9 ∷ []) (Ready None) 0 0
      ∷ did may_end (Ok tt)
      ∷ [];
}

-- As many are held as there are places for outputs.
abbrev pub no_place : Case
no_place = record {
  slots = 3;
  records = 3;
  parking = 1;
  lines =
      pushed_at back 1 (L 1 0) 0
      ∷ push_refused back 1 (L 2 0) (ParkingFull 1)
      ∷ push_refused front 1 (L 3 0) (ParkingFull 1)
      ∷ holds 1
      ∷ can_hold 3
      ∷ [];
}

abbrev pub no_parking : Case
no_parking = record {
  slots = 2;
  records = 2;
  parking = 0;
  lines =
      push_refused back 0 (L 1 0) (ParkingFull 0)
      ∷ polled [] (Ready None) 0 0
      ∷ [];
}

-- The slots are asked before the parking.
abbrev pub no_slot : Case
no_slot = record {
  slots = 0;
  records = 2;
  parking = 2;
  lines =
      push_refused front 2 (L 1 0) (NoVacantSlot 0)
      ∷ can_hold 0
      ∷ polled [] (Ready None) 0 0
      ∷ [];
}

-- Tasks and a parked output lie on both sides of where the top bit is flipped.
abbrev pub flipped : Case
flipped = record {
  slots = 5;
  records = 5;
  parking = 5;
  lines =
      pushed_at back 5 (L 1 0) 0
      ∷ pushed_at back 5 (C 2 0 false) 1
      ∷ polled (0 ∷ []) Pending 0 2
      ∷ pushed_at front 5 (L 3 0) 1
      ∷ pushed_at front 5 (C 4 0 false) 2
      ∷ holds 4
      ∷ polled (5 ∷ []) (bare 4) 0 2
      ∷ holds 3
      ∷ polled (5 ∷ []) (word 3 5) 0 0
      ∷ polled (5 ∷ []) Pending 0 0
      ∷ handed 1 0
      ∷ woke 1 0 1
      ∷ polled (5 ∷ []) (word 1 5) 0 1
      ∷ polled (5 ∷ []) (bare 2) 0 0
      ∷ polled (5 ∷ []) (Ready None) 0 0
      ∷ [];
}

abbrev pub cases : List Case
cases = waits ∷ no_place ∷ no_parking ∷ no_slot ∷ flipped ∷ []
