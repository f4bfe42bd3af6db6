-- Recorded calls, carried out by the step of a definition.
use Rattle.std.specs.Prelude.{ℕ, List, Some, None, Ok, Err, Option, option_map, Result}
use Rattle.reruns.specs.Answers.{Output, token_of, recorded}
use Rattle.reruns.specs.declared.answer.Answer.{Answer}
use Rattle.recordings.specs.declared.call.Call.{Call}
use Rattle.recordings.specs.declared.call.Call.TheVariants as call
use Rattle.recordings.specs.declared.call.Task.{Task}
use Rattle.recordings.specs.declared.call.Task.TheVariants as task
use Rattle.recordings.specs.declared.reason.Reason.{Reason}
use Rattle.recordings.specs.declared.reason.Reason.TheVariants.{OtherKind}
use Rattle.runs.specs.Calls as runs
use Rattle.runs.specs.Calls.{Step, push, poll, hand, clone, wake, wake_by_ref, drop, may_end, ask}
use Rattle.sets.specs.Bounded.{Question, how_many, how_many_can_be}
use Rattle.tasks.specs.Acts.{Acts}
use Rattle.tasks.specs.Kinds.{countdown_acts, letter_acts, either_acts}
use Rattle.tasks.specs.declared.countdown.Countdown.{Countdown}
use Rattle.tasks.specs.declared.either.Either.{Either}
use Rattle.tasks.specs.declared.letter.Letter.{Letter}

-- Recorded sets hold countdowns and letters side by side.
abbrev pub Futures : Type 0
Futures = Either Countdown Letter

abbrev pub acts : Acts Futures Output
acts = either_acts countdown_acts letter_acts

abbrev pub future_in : Task → Option Futures
future_in (task.Future f) = Some f
future_in (task.Stream s) = None

-- What each of the three pushes brings to a set. One that it does not have brings nothing.
pub record Pushes (P : Type 0) : Type 0 where
  pub anywhere : Task → Option P
  pub at_back : Task → Option P
  pub in_front : Task → Option P

abbrev pub no_push : {P : Type 0} → Task → Option P
no_push t = None

-- The definition's call, where a bounded set has the recorded one.
abbrev pub call_by : {P : Type 0} → Pushes P → Call → List ℕ → Option (runs.Call P Question)
call_by p (call.Push t) post = option_map push (p.anywhere t)
call_by p (call.PushBack t) post = option_map push (p.at_back t)
call_by p (call.PushFront t) post = option_map push (p.in_front t)
call_by p call.Poll post = Some (poll post)
call_by p (call.Hand a) post = Some (hand a)
call_by p (call.Clone t) post = Some (clone (token_of t))
call_by p (call.Wake t) post = Some (wake (token_of t))
call_by p (call.WakeByRef t) post = Some (wake_by_ref (token_of t))
call_by p (call.Drop t) post = Some (drop (token_of t))
call_by p call.MayEnd post = Some may_end
call_by p call.Len post = Some (ask how_many)
call_by p call.Capacity post = Some (ask how_many_can_be)

-- The recorded answer of a step, and the set after it. Where there is no such call, the set stays as it was.
module _ {S P Q : Type 0} (step : Step S P Q Futures Output) where
  abbrev pub answer_of : S → runs.Call P Q → Answer
  answer_of s c = recorded task.Future c (step s c).1

  abbrev pub after : S → runs.Call P Q → S
  after s c = (step s c).0

  abbrev pub answer_if : S → Option (runs.Call P Q) → Result Answer Reason
  answer_if s (Some c) = Ok (answer_of s c)
  answer_if s None = Err OtherKind

  abbrev pub after_if : S → Option (runs.Call P Q) → S
  after_if s (Some c) = after s c
  after_if s None = s
