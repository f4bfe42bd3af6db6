-- Places in an order: an index is below 2^64 and wraps there. Its top bit is flipped by adding the half of that.
use Rattle.std.specs.Prelude.{ℕ, ◌+◌, ◌-◌, ◌%◌, ◌^◌, Bool, Some, None, Option, nat_le}
use Rattle.tasks.specs.declared.order_wrapper.OrderWrapper.{OrderWrapper}

abbrev pub index_raised : ℕ → ℕ
index_raised i = (i + 1) % 2 ^ 64

abbrev pub index_lowered : ℕ → ℕ
index_lowered i = (i + (2 ^ 64 - 1)) % 2 ^ 64

abbrev pub index_flipped : ℕ → ℕ
index_flipped i = (i + 2 ^ 63) % 2 ^ 64

abbrev pub top_bit : ℕ → Bool
top_bit i = nat_le (2 ^ 63) i

-- A task or an output with its top bit flipped.
abbrev pub wrapper_flipped : {T : Type 0} → OrderWrapper T → OrderWrapper T
wrapper_flipped w = record { «data» = w.«data»; index = index_flipped w.index }

abbrev pub option_flipped : {T : Type 0} → (T → T) → Option T → Option T
option_flipped f None = None
option_flipped f (Some x) = Some (f x)
