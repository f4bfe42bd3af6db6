-- What a function makes of the answer of a poll, or of the input of a refused call. `post` is what a call of it ensures.
use Rattle.std.specs.Prelude.{◌≡◌}
use Rattle.tasks.specs.declared.fault.Refused.{Refused}
use Rattle.tasks.specs.declared.poll.Poll.{Poll}
use Rattle.tasks.specs.declared.poll.Poll.TheVariants.{Ready, Pending}

abbrev pub Callable : {T : Type 0} → (T → Type 0) → Poll T → Type 0
Callable pre (Ready x) = pre x
Callable pre Pending = Unit {0}

abbrev pub Mapped : {T U : Type 0} → (T → U → Type 0) → Poll T → Poll U → Type 0
Mapped {U = U} post (Ready x) answer = (y : U) × (answer ≡ Ready y) × post x y
Mapped post Pending answer = answer ≡ Pending

abbrev pub InputMapped : {T U : Type 0} → (T → U → Type 0) → Refused T → Refused U → Type 0
InputMapped post r answer = (answer.fault ≡ r.fault) × post r.input answer.input
