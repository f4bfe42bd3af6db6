-- The text of an answer.
use Rattle.std.specs.Prelude.{ℕ, List, ◌++◌, Some, None, codes, decimal, Option}
use Rattle.reruns.specs.declared.answer.Answer.{Answer}
use Rattle.reruns.specs.declared.answer.Answer.TheVariants.{At, Token, Notice, Dropped, Polled, Number, Yes, Refused}
use Rattle.reruns.specs.declared.answer.Yielded.{Yielded}
use Rattle.tasks.specs.Faults.{number_of, layer_of, place_of, inside_of}
use Rattle.tasks.specs.declared.fault.Fault.{Fault}
use Rattle.tasks.specs.declared.poll.Poll.{Poll}
use Rattle.tasks.specs.declared.poll.Poll.TheVariants.{Ready, Pending}

-- Two texts with a space between them.
infixr 60 ◌␣◌
abbrev pub ◌␣◌ : List ℕ → List ℕ → List ℕ
a ␣ b = a ++ (codes " " ++ b)

-- The word of a delivery; a bare ticket has none.
abbrev pub word_text : Option ℕ → List ℕ
word_text (Some w) = decimal w
word_text None = codes "-"

abbrev pub yielded_text : Yielded → List ℕ
yielded_text y = decimal y.ticket.0 ␣ decimal y.ticket.1 ␣ word_text y.word

abbrev pub found_text : Poll (Option Yielded) → List ℕ
found_text Pending = codes "pending"
found_text (Ready None) = codes "none"
found_text (Ready (Some y)) = codes "ready " ++ yielded_text y

abbrev pub numbers_text : Fault → List ℕ
numbers_text f = decimal (number_of f) ␣ decimal (layer_of f) ␣ decimal (place_of f)

abbrev pub inside_text : Fault → Option Fault → List ℕ
inside_text f None = codes "fault " ++ numbers_text f
inside_text f (Some g) = codes "fault " ++ (numbers_text f ++ (codes " inside " ++ numbers_text g))

abbrev pub fault_text : Fault → List ℕ
fault_text f = inside_text f (inside_of f)

abbrev pub answer_text : Answer → List ℕ
answer_text (At a) = codes "at " ++ decimal a
answer_text (Token t) = codes "token " ++ (decimal t.name ␣ decimal t.address)
answer_text (Notice n) = codes "notice " ++ decimal n
answer_text Dropped = codes "dropped"
answer_text (Polled p) = found_text p.poll ␣ decimal p.notices ␣ decimal p.turns
answer_text (Number n) = decimal n
answer_text Yes = codes "yes"
answer_text (Refused r) = fault_text r.fault
