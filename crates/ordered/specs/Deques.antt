-- The ordered set beside a deque of tickets.
use Rattle.std.specs.Prelude.{◌≡◌, ℕ, zero, suc, ◌+◌, ◌%◌, ◌^◌, Bool, List, [], ◌∷◌, ◌++◌, Some, None, Ok, Err, count_by, Option, Result}
use Rattle.ordered.specs.Ordered.{Pushing, Side, back, front}
use Rattle.runs.specs.Calls.{Call, push, poll, hand, clone, wake, wake_by_ref, drop, may_end, ask, Entry, did, Step, reached, log}
use Rattle.runs.specs.Tallies.{accepted, yielded, same_ticket}
use Rattle.tasks.specs.Orders.{index_raised}
use Rattle.tasks.specs.declared.poll.Poll.{Poll}
use Rattle.tasks.specs.declared.poll.Poll.TheVariants.{Ready, Pending}

-- A ticket joins the tail or the head.
abbrev pub joined : Side → ℕ × ℕ → List (ℕ × ℕ) → List (ℕ × ℕ)
joined back t d = d ++ t ∷ []
joined front t d = t ∷ d

-- The deque without its head.
abbrev pub behind : List (ℕ × ℕ) → List (ℕ × ℕ)
behind [] = []
behind (t ∷ d) = d

abbrev pub joined_if : {A E : Type 0} → Result A E → Side → ℕ × ℕ → List (ℕ × ℕ) → List (ℕ × ℕ)
joined_if (Ok a) side t d = joined side t d
joined_if (Err e) side t d = d

abbrev pub taken_by : {O : Type 0} → Poll (Option O) → List (ℕ × ℕ) → List (ℕ × ℕ)
taken_by Pending d = d
taken_by (Ready None) d = d
taken_by (Ready (Some x)) d = behind d

-- The deque is fed each call with its answer: an accepted push joins it, a poll that answers an output takes the head,
-- and all else leaves it.
module _ {Q F O : Type 0} (bearing : F → ℕ × ℕ) where
  abbrev pub fed : List (ℕ × ℕ) → Entry (Pushing F) Q F O → List (ℕ × ℕ)
  fed d (did (push p) a) = joined_if a p.side (bearing p.task) d
  fed d (did (poll post) a) = taken_by a.poll d
  fed d (did (hand i) a) = d
  fed d (did (clone t) a) = d
  fed d (did (wake t) a) = d
  fed d (did (wake_by_ref t) a) = d
  fed d (did (drop t) a) = d
  fed d (did may_end a) = d
  fed d (did (ask q) a) = d

  abbrev pub deque_from : List (ℕ × ℕ) → List (Entry (Pushing F) Q F O) → List (ℕ × ℕ)
  deque_from d [] = d
  deque_from d (e ∷ es) = deque_from (fed d e) es

  -- It is empty at making.
  abbrev pub deque : List (Entry (Pushing F) Q F O) → List (ℕ × ℕ)
  deque es = deque_from [] es

-- So many indices from one on.
abbrev pub indices_from : ℕ → ℕ → List ℕ
indices_from i zero = []
indices_from i (suc n) = i ∷ indices_from (index_raised i) n

module _ {S Q F O : Type 0} (step : Step S (Pushing F) Q F O) where
  -- What is promised of every run from a fresh ordered set, where a task and an output bear tickets.
  pub record DequeLaw (fresh : S) (bearing : F → ℕ × ℕ) (bears : O → ℕ × ℕ) : Type 0 where
    -- A poll that answers an output takes the head, which is there and is that output's ticket.
    pub heads : (calls : List (Call (Pushing F) Q)) (post : List ℕ) (x : O)
        → (step (reached step fresh calls) (poll post)).1.poll ≡ Ready (Some x)
        → deque bearing (log step fresh calls) ≡ bears x ∷ behind (deque bearing (log step fresh calls))
    -- The deque holds exactly the tickets accepted and not yet yielded.
    pub holds : (calls : List (Call (Pushing F) Q)) (t : ℕ × ℕ)
        → count_by (same_ticket t) (accepted (λ p. bearing p.task) bears (log step fresh calls))
        ≡ count_by (same_ticket t) (yielded (λ p. bearing p.task) bears (log step fresh calls)) + count_by (same_ticket t) (deque bearing (log step fresh calls))

  -- The indices of the elements held are one run from outgoing to incoming, also where it wraps.
  pub record IndexLaw (fresh : S) (indices : S → List ℕ) (len : S → ℕ) (incoming outgoing : S → ℕ) : Type 0 where
    pub run : (calls : List (Call (Pushing F) Q)) (test : ℕ → Bool)
        → count_by test (indices (reached step fresh calls)) ≡ count_by test (indices_from (outgoing (reached step fresh calls)) (len (reached step fresh calls)))
    pub ends : (calls : List (Call (Pushing F) Q))
        → incoming (reached step fresh calls) ≡ (outgoing (reached step fresh calls) + len (reached step fresh calls)) % 2 ^ 64
