-- What an ordered set needs of the set below it, which holds its tasks, each with its index.
use Rattle.std.specs.Prelude.{◌≡◌, ℕ, Bool, List, Ok, Err, count_by, Result}
use Rattle.runs.specs.Kinds.{Kind}
use Rattle.tasks.specs.Orders.{index_flipped}
use Rattle.tasks.specs.declared.fault.Fault.{Fault}
use Rattle.tasks.specs.declared.fault.Refused.{Refused}
use Rattle.tasks.specs.declared.order_wrapper.OrderWrapper.{OrderWrapper}

-- A kind of set over tasks with an index; its set with the top bit of every task's index flipped; and which question
-- asks how many elements are held.
pub record Below (S Q F O : Type 0) : Type 0 where
  pub kind : Kind S (OrderWrapper F) Q (OrderWrapper F) (OrderWrapper O)
  pub flipped : S → S
  pub len : Q
  pub counts : Q → Bool

-- What is inside is told by index and ticket.
abbrev pub Label : Type 0
Label = ℕ × (ℕ × ℕ)

abbrev pub label : {T : Type 0} → (T → ℕ × ℕ) → OrderWrapper T → Label
label bearing w = (w.index, bearing w.«data»)

abbrev pub label_flipped : Label → Label
label_flipped l = (index_flipped l.0, l.1)

-- Whether a push is accepted, or why it is refused; and what it answers with the bare task.
abbrev pub leave_of : {F : Type 0} → Result ℕ (Refused (OrderWrapper F)) → Result (Unit {0}) Fault
leave_of (Ok a) = Ok tt
leave_of (Err r) = Err r.fault

abbrev pub unwrapped : {F : Type 0} → Result ℕ (Refused (OrderWrapper F)) → Result ℕ (Refused F)
unwrapped (Ok a) = Ok a
unwrapped (Err r) = Err (record { fault = r.fault; input = r.input.«data» })

module _ {S Q F O : Type 0} (b : Below S Q F O) where
  -- Flipping changes indices alone.
  pub record FlipLaws (Inv : S → Type 0) (inside : S → List Label) : Type 0 where
    pub inside_flipped : (s : S) (test : Label → Bool) → Inv s → count_by test (inside (b.flipped s)) ≡ count_by (λ l. test (label_flipped l)) (inside s)
    pub keeps_flipped : (s : S) → Inv s → Inv (b.flipped s)
    pub out_flipped : (s : S) → b.kind.tokened.out (b.flipped s) ≡ b.kind.tokened.out s
    pub name_flipped : (s : S) → b.kind.tokened.name (b.flipped s) ≡ b.kind.tokened.name s
    pub known_flipped : (s : S) (a : ℕ) → b.kind.tokened.known (b.flipped s) a ≡ b.kind.tokened.known s a
