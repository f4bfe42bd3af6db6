-- Recorded calls on a bounded unordered set, by its definition.
use Rattle.std.specs.Prelude.{ℕ, List, Option, Result}
use Rattle.reruns.specs.Answers.{Output}
use Rattle.reruns.specs.Steps.{Futures, acts, future_in, no_push, call_by, answer_if, after_if}
use Rattle.reruns.specs.declared.answer.Answer.{Answer}
use Rattle.recordings.specs.declared.call.Call.{Call}
use Rattle.recordings.specs.declared.reason.Reason.{Reason}
use Rattle.runs.specs.Calls as runs
use Rattle.runs.specs.Calls.{Step}
use Rattle.sets.specs.Bounded.{Bounded, Question}
use Rattle.sets.specs.Bounded as sets

abbrev pub step : Step (Bounded Futures) Futures Question Futures Output
step = sets.step acts

-- The definition's call, where a bounded unordered set has the recorded one.
abbrev pub bounded_call : Call → List ℕ → Option (runs.Call Futures Question)
bounded_call c post = call_by (record { anywhere = future_in; at_back = no_push; in_front = no_push }) c post

abbrev pub bounded_answer : Bounded Futures → Call → List ℕ → Result Answer Reason
bounded_answer s c post = answer_if step s (bounded_call c post)

abbrev pub bounded_after : Bounded Futures → Call → List ℕ → Bounded Futures
bounded_after s c post = after_if step s (bounded_call c post)
