-- What a slot that was read says of the table.
use Rattle.std.proofs.Common.{◌≡◌, ℕ, ◌<◌, ◌≤◌, List, length, get_or, Some, None, ap, ◌∙◌}
use Rattle.slots.specs.Table.{task_in, task_at}
use Rattle.slots.specs.declared.slot.Slot.{Slot}
use Rattle.slots.specs.declared.slot.Slot.TheVariants.{Occupied, NextFree}
use Rattle.std.proofs.lemmas.Option.{slice_get-get_or, slice_get_past}

module _ {F : Type 0} (slots : List (Slot F)) (i : ℕ) where
  pub read_occupied : (x : Slot F) (f : F) → i < length slots → get_or slots i x ≡ Occupied f → task_at slots i ≡ Some f
  read_occupied x f lt e = ap task_in (slice_get-get_or slots i x lt) ∙ ap (λ s. task_in (Some s)) e

  pub read_vacant : (x : Slot F) (n : ℕ) → i < length slots → get_or slots i x ≡ NextFree n → task_at slots i ≡ None
  read_vacant x n lt e = ap task_in (slice_get-get_or slots i x lt) ∙ ap (λ s. task_in (Some s)) e

  pub read_past : length slots ≤ i → task_at slots i ≡ None
  read_past past = ap task_in (slice_get_past slots i past)
