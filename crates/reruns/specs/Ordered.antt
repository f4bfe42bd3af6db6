-- Recorded calls on a bounded ordered set, by its definition.
use Rattle.std.specs.Prelude.{ℕ, List, Option, option_map, Result}
use Rattle.reruns.specs.Answers.{Output}
use Rattle.reruns.specs.Steps.{Futures, acts, future_in, no_push, call_by, answer_if, after_if}
use Rattle.reruns.specs.declared.answer.Answer.{Answer}
use Rattle.ordered.specs.Ordered.{Pushing, Side, back, front}
use Rattle.ordered.specs.OrderedSet.{Line}
use Rattle.ordered.specs.OrderedSet as ordered
use Rattle.recordings.specs.declared.call.Call.{Call}
use Rattle.recordings.specs.declared.call.Task.{Task}
use Rattle.recordings.specs.declared.reason.Reason.{Reason}
use Rattle.runs.specs.Calls as runs
use Rattle.runs.specs.Calls.{Step}
use Rattle.sets.specs.Bounded.{Question}

abbrev pub step : Step (Line Futures Output) (Pushing Futures) Question Futures Output
step = ordered.step acts

-- A push to a side, where the parking has so many places.
abbrev pub pushing_in : ℕ → Side → Task → Option (Pushing Futures)
pushing_in room side t = option_map (λ f. record { side = side; task = f; room = room }) (future_in t)

-- The definition's call, where a bounded ordered set with so many parking places has the recorded one.
abbrev pub ordered_call : ℕ → Call → List ℕ → Option (runs.Call (Pushing Futures) Question)
ordered_call room c post = call_by (record { anywhere = no_push; at_back = pushing_in room back; in_front = pushing_in room front }) c post

abbrev pub ordered_answer : Line Futures Output → Call → List ℕ → Result Answer Reason
ordered_answer s c post = answer_if step s (ordered_call s.places c post)

abbrev pub ordered_after : Line Futures Output → Call → List ℕ → Line Futures Output
ordered_after s c post = after_if step s (ordered_call s.places c post)
