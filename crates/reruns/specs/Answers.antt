-- The answers of the definitions, as a recording has them.
use Rattle.std.specs.Prelude.{◌≡◌, ℕ, Some, None, Ok, Err, Option, Result}
use Rattle.recordings.specs.Inputs.{input_of}
use Rattle.reruns.specs.declared.answer.Answer.{Answer}
use Rattle.reruns.specs.declared.answer.Answer.TheVariants as answer
use Rattle.reruns.specs.declared.answer.Yielded.{Yielded}
use Rattle.recordings.specs.declared.call.Call.{Call}
use Rattle.recordings.specs.declared.call.Input.{Input}
use Rattle.recordings.specs.declared.call.Input.TheVariants as input
use Rattle.recordings.specs.declared.call.Task.{Task}
use Rattle.runs.specs.Calls as runs
use Rattle.runs.specs.Calls.{push, poll, hand, clone, wake, wake_by_ref, drop, may_end, ask}
use Rattle.tasks.specs.declared.either.Either.{Either}
use Rattle.tasks.specs.declared.either.Either.TheVariants.{Left, Right}
use Rattle.tasks.specs.declared.fault.Fault.{Fault}
use Rattle.tasks.specs.declared.fault.Refused.{Refused}
use Rattle.tasks.specs.declared.letter.Delivery.{Delivery}
use Rattle.tasks.specs.declared.poll.Poll.{Poll}
use Rattle.tasks.specs.declared.poll.Poll.TheVariants.{Ready, Pending}
use Rattle.tasks.specs.declared.poll.Polled.{Polled}
use Rattle.wakes.specs.declared.waker.RawWaker.{RawWaker}
use Rattle.wakes.specs.declared.waker.Waker.{Waker}

-- What a poll of any set or merge yields: the output of a countdown or a ticker, or of a letter or a mailbag.
abbrev pub Output : Type 0
Output = Either (ℕ × ℕ) Delivery

-- A bare ticket has no word.
abbrev pub yielded_of : Output → Yielded
yielded_of (Left t) = record { ticket = t; word = None }
yielded_of (Right d) = record { ticket = d.ticket; word = Some d.word }

abbrev pub found_of : Poll (Option Output) → Poll (Option Yielded)
found_of Pending = Pending
found_of (Ready None) = Ready None
found_of (Ready (Some o)) = Ready (Some (yielded_of o))

abbrev pub polled_of : Polled (Option Output) → Answer
polled_of p = answer.Polled (record { poll = found_of p.poll; notices = p.notices; turns = p.turns })

abbrev pub raw_of : Waker → RawWaker
raw_of t = record { name = t.name; address = t.address }

abbrev pub token_of : RawWaker → Waker
token_of r = record { name = r.name; address = r.address }

abbrev pub token_answer_of : Waker → Answer
token_answer_of t = answer.Token (raw_of t)

abbrev pub refused_with : Fault → Option Input → Answer
refused_with f i = answer.Refused (record { fault = f; input = i })

-- A call that lent its token hands nothing back.
abbrev pub lent_of : Fault → Answer
lent_of f = refused_with f None

abbrev pub task_back_of : {T : Type 0} → (T → Task) → Refused T → Answer
task_back_of task_of r = refused_with r.fault (Some (input.Task (task_of r.input)))

abbrev pub address_back_of : Refused ℕ → Answer
address_back_of r = refused_with r.fault (Some (input.Address r.input))

abbrev pub token_back_of : Refused Waker → Answer
token_back_of r = refused_with r.fault (Some (input.Token (raw_of r.input)))

abbrev pub by_result : {A E : Type 0} → (A → Answer) → (E → Answer) → Result A E → Answer
by_result good bad (Ok a) = good a
by_result good bad (Err e) = bad e

-- The recorded answer of each call. T is the task that a refused push hands back.
module _ {P Q T : Type 0} (task_of : T → Task) where
  abbrev pub recorded : (c : runs.Call P Q) → runs.Answer T Output c → Answer
  recorded (push p) r = by_result answer.At (task_back_of task_of) r
  recorded (poll post) p = polled_of p
  recorded (hand a) r = by_result token_answer_of address_back_of r
  recorded (clone t) r = by_result token_answer_of lent_of r
  recorded (wake t) r = by_result answer.Notice token_back_of r
  recorded (wake_by_ref t) r = by_result answer.Notice lent_of r
  recorded (drop t) r = by_result (λ _. answer.Dropped) token_back_of r
  recorded may_end r = by_result (λ _. answer.Yes) lent_of r
  recorded (ask q) n = answer.Number n

-- What is handed back is what was given away.
abbrev pub OwnBack : Call → Answer → Type 0
OwnBack c (answer.At a) = Unit {0}
OwnBack c (answer.Token t) = Unit {0}
OwnBack c (answer.Notice n) = Unit {0}
OwnBack c answer.Dropped = Unit {0}
OwnBack c (answer.Polled p) = Unit {0}
OwnBack c (answer.Number n) = Unit {0}
OwnBack c answer.Yes = Unit {0}
OwnBack c (answer.Refused r) = r.input ≡ input_of c
