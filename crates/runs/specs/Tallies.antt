-- What a log tells: the tickets accepted and yielded, and the tokens handed out and spent.
use Rattle.std.specs.Prelude.{ℕ, Bool, ◌&&◌, List, [], ◌∷◌, ◌++◌, Some, None, Ok, Err, Option, Result, ◌==◌}
use Rattle.runs.specs.Calls.{Call, push, poll, hand, clone, wake, wake_by_ref, drop, may_end, ask, Entry, did}
use Rattle.tasks.specs.declared.poll.Poll.{Poll}
use Rattle.tasks.specs.declared.poll.Poll.TheVariants.{Ready, Pending}
use Rattle.wakes.specs.declared.waker.Waker.{Waker}

-- A list of one if the call was carried out, of none if it was refused.
abbrev pub if_ok : {X A E : Type 0} → X → Result A E → List X
if_ok x (Ok a) = x ∷ []
if_ok x (Err e) = []

abbrev pub in_ok : {A E : Type 0} → Result A E → List A
in_ok (Ok a) = a ∷ []
in_ok (Err e) = []

abbrev pub output_in : {X O : Type 0} → (O → X) → Poll (Option O) → List X
output_in bears Pending = []
output_in bears (Ready None) = []
output_in bears (Ready (Some x)) = bears x ∷ []

module _ {P Q T O X : Type 0} (bearing : P → X) (bears : O → X) where
  -- A ticket is accepted by a push that is not refused.
  abbrev pub accepts : Entry P Q T O → List X
  accepts (did (push p) a) = if_ok (bearing p) a
  accepts (did (poll post) a) = []
  accepts (did (hand i) a) = []
  accepts (did (clone t) a) = []
  accepts (did (wake t) a) = []
  accepts (did (wake_by_ref t) a) = []
  accepts (did (drop t) a) = []
  accepts (did may_end a) = []
  accepts (did (ask q) a) = []

  -- A ticket is yielded by the output of a poll.
  abbrev pub yields : Entry P Q T O → List X
  yields (did (push p) a) = []
  yields (did (poll post) a) = output_in bears a.poll
  yields (did (hand i) a) = []
  yields (did (clone t) a) = []
  yields (did (wake t) a) = []
  yields (did (wake_by_ref t) a) = []
  yields (did (drop t) a) = []
  yields (did may_end a) = []
  yields (did (ask q) a) = []

  abbrev pub accepted : List (Entry P Q T O) → List X
  accepted [] = []
  accepted (e ∷ es) = accepts e ++ accepted es

  abbrev pub yielded : List (Entry P Q T O) → List X
  yielded [] = []
  yielded (e ∷ es) = yields e ++ yielded es

module _ {P Q T O : Type 0} where
  -- Tokens are handed out by hands and clones that are not refused.
  abbrev pub hands : Entry P Q T O → List Waker
  hands (did (push p) a) = []
  hands (did (poll post) a) = []
  hands (did (hand i) a) = in_ok a
  hands (did (clone t) a) = in_ok a
  hands (did (wake t) a) = []
  hands (did (wake_by_ref t) a) = []
  hands (did (drop t) a) = []
  hands (did may_end a) = []
  hands (did (ask q) a) = []

  -- They are spent by wakes, not by reference, and drops that are not refused.
  abbrev pub spends : Entry P Q T O → List Waker
  spends (did (push p) a) = []
  spends (did (poll post) a) = []
  spends (did (hand i) a) = []
  spends (did (clone t) a) = []
  spends (did (wake t) a) = if_ok t a
  spends (did (wake_by_ref t) a) = []
  spends (did (drop t) a) = if_ok t a
  spends (did may_end a) = []
  spends (did (ask q) a) = []

  abbrev pub handed : List (Entry P Q T O) → List Waker
  handed [] = []
  handed (e ∷ es) = hands e ++ handed es

  abbrev pub spent : List (Entry P Q T O) → List Waker
  spent [] = []
  spent (e ∷ es) = spends e ++ spent es

-- The token that a call brings.
module _ {P Q : Type 0} where
  abbrev pub brings : Call P Q → List Waker
  brings (push p) = []
  brings (poll post) = []
  brings (hand i) = []
  brings (clone t) = t ∷ []
  brings (wake t) = t ∷ []
  brings (wake_by_ref t) = t ∷ []
  brings (drop t) = t ∷ []
  brings may_end = []
  brings (ask q) = []

-- Two tokens are the same if their names and their addresses are.
abbrev pub same_token : Waker → Waker → Bool
same_token t u = t.name == u.name && t.address == u.address

-- Two tickets are the same if their owners and their numbers are.
abbrev pub same_ticket : ℕ × ℕ → ℕ × ℕ → Bool
same_ticket t u = t.0 == u.0 && t.1 == u.1
