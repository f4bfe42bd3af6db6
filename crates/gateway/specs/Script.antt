-- What a command that was read is good for.
use Rattle.std.specs.Prelude.{ℕ, ◌<◌, ◌≤◌, ◌==◌, ◌||◌, Bool, List, length, slice_index}
use Rattle.std.specs.Str.{trim_start}
use Rattle.gateway.specs.declared.script.Command.{Command}
use Rattle.gateway.specs.declared.script.Command.TheVariants.{Open, Order, Reply, Poll, Held, End}

-- The desk's post has 64 words, a reply is neither 0 nor the desk's own word for no answer, and a set has a token for
-- every order.
abbrev pub Good : Command → Type 0
Good (Open name slots) = slots ≤ 65535
Good (Order letter) = letter.place < 64
Good (Reply place word) = (place < 64) × (0 < word) × (word < 18446744073709551615)
Good Poll = Unit {0}
Good Held = Unit {0}
Good End = Unit {0}

-- A line that says nothing: after its white space it is empty, or begins with '#', which is 35.
abbrev pub silent : List ℕ → Bool
silent line = (length (trim_start line) == 0) || (slice_index (trim_start line) 0 == 35)
