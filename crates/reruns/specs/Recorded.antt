-- What a kind of set says of the recorded calls: what each answers, and which set it leaves.
use Rattle.std.specs.Prelude.{ℕ, List, IfOk, Result}
use Rattle.reruns.specs.Answers.{OwnBack}
use Rattle.reruns.specs.declared.answer.Answer.{Answer}
use Rattle.recordings.specs.declared.call.Call.{Call}
use Rattle.recordings.specs.declared.reason.Reason.{Reason}

abbrev pub Answering : Type 0 → Type 0
Answering S = S → Call → List ℕ → Result Answer Reason

abbrev pub Leaving : Type 0 → Type 1
Leaving S = S → Call → List ℕ → S → Type 0

-- A refused call gets back what it gave away.
abbrev pub GivesBack : Call → Result Answer Reason → Type 0
GivesBack c r = IfOk r (OwnBack c)
