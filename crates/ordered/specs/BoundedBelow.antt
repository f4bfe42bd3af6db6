-- The bounded set as a set below an ordered one.
use Rattle.std.specs.Prelude.{ℕ, Bool, true, false, List, map}
use Rattle.ordered.specs.Below.{Below, Label, label}
use Rattle.sets.specs.Bounded.{Bounded, Question, how_many, how_many_can_be, kind, set_flipped, slots_of, elements}
use Rattle.slots.specs.Table.{Chained}
use Rattle.tasks.specs.Acts.{Acts}
use Rattle.tasks.specs.Kinds.{wrapped_acts}
use Rattle.tasks.specs.Orders.{wrapper_flipped}
use Rattle.tasks.specs.declared.order_wrapper.OrderWrapper.{OrderWrapper}

abbrev pub counts_held : Question → Bool
counts_held how_many = true
counts_held how_many_can_be = false

abbrev pub bounded_below : {F O : Type 0} → Acts F O → Below (Bounded (OrderWrapper F)) Question F O
bounded_below acts = record { kind = kind (wrapped_acts acts); flipped = set_flipped wrapper_flipped; len = how_many; counts = counts_held }

-- No ticket: what is told of a task is its index alone.
abbrev pub no_ticket : {T : Type 0} → T → ℕ × ℕ
no_ticket x = (0, 0)

abbrev pub index_labels : {F : Type 0} → Bounded (OrderWrapper F) → List Label
index_labels s = map (label no_ticket) (elements s)

abbrev pub FreeChain : {F : Type 0} → Bounded F → Type 0
FreeChain s = Chained (slots_of s) s.group.table.head
