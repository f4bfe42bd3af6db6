-- What is promised of every run.
use Rattle.std.specs.Prelude.{◌≡◌, ℕ, ◌+◌, Bool, true, false, cond, ◌||◌, ◌↔◌, List, [], ◌∷◌, ◌++◌, length, is_ok, None, Err, count_by}
use Rattle.runs.specs.Calls.{Call, poll, wake, wake_by_ref, drop, may_end, ask, Entry, entry, Step, reached, log}
use Rattle.runs.specs.Size.{size}
use Rattle.runs.specs.Tallies.{accepted, yielded, handed, spent, hands, spends, brings, same_token, same_ticket}
use Rattle.tasks.specs.Faults.{number_of, layer_of, place_of}
use Rattle.tasks.specs.declared.fault.Fault.{Fault}
use Rattle.tasks.specs.declared.poll.Poll.TheVariants.{Ready}
use Rattle.wakes.specs.declared.waker.Waker.{Waker}

-- Two lists hold the same tickets, each as often.
abbrev pub SameTickets : List (ℕ × ℕ) → List (ℕ × ℕ) → Type 0
SameTickets xs ys = (t : ℕ × ℕ) → count_by (same_ticket t) xs ≡ count_by (same_ticket t) ys

-- A token is among these.
abbrev pub among : Waker → List Waker → Bool
among t [] = false
among t (u ∷ us) = same_token t u || among t us

-- These without one such token.
abbrev pub without : Waker → List Waker → List Waker
without t [] = []
without t (u ∷ us) = cond (same_token t u) us (u ∷ without t us)

abbrev pub without_all : List Waker → List Waker → List Waker
without_all [] us = us
without_all (t ∷ ts) us = without_all ts (without t us)

-- Each of the tokens is among these.
abbrev pub AllAmong : List Waker → List Waker → Type 0
AllAmong [] us = Unit {0}
AllAmong (t ∷ ts) us = (among t us ≡ true) × AllAmong ts us

-- The tokens that a call leaves unspent, where us are those before it: these, less what it spends, and what it hands out.
abbrev pub unspent_after : {P Q T O : Type 0} → List Waker → Entry P Q T O → List Waker
unspent_after us e = hands e ++ without_all (spends e) us

module _ {S P Q T O : Type 0} (step : Step S P Q T O) where
  -- The unspent tokens of a run.
  abbrev pub unspent : List Waker → S → List (Call P Q) → List Waker
  unspent us s [] = us
  unspent us s (c ∷ cs) = unspent (unspent_after us (entry step s c)) (step s c).0 cs

  -- Every token that is brought comes from this run's hands and clones, and is unspent.
  abbrev pub Honest : List Waker → S → List (Call P Q) → Type 0
  Honest us s [] = Unit {0}
  Honest us s (c ∷ cs) =
      AllAmong (brings c) us × Honest (unspent_after us (entry step s c)) (step s c).0 cs

  -- The promise over every run from a fresh set, where a push and an output bear tickets, `elements` are what the set
  -- holds, and `len` is the question after their number.
  pub record Promises (fresh : S) (bearing : P → ℕ × ℕ) (bears : O → ℕ × ℕ) {E : Type 0} (elements : S → List E) (len : Q) : Type 0 where
    -- The tickets accepted and the tickets yielded are equal, each as often, exactly if a poll made then, whatever
    -- its post, answers Ready(None).
    pub tickets : (calls : List (Call P Q)) (post : List ℕ)
        → SameTickets (accepted bearing bears (log step fresh calls)) (yielded bearing bears (log step fresh calls))
        ↔ ((step (reached step fresh calls) (poll post)).1.poll ≡ Ready None)
    -- In number, accepted = yielded + len.
    pub numbers : (calls : List (Call P Q))
        → length (accepted bearing bears (log step fresh calls))
        ≡ length (yielded bearing bears (log step fresh calls)) + (step (reached step fresh calls) (ask len)).1
    -- And len is the size of what is held.
    pub sizes : (calls : List (Call P Q)) → (step (reached step fresh calls) (ask len)).1 ≡ size (elements (reached step fresh calls))
    -- Tokens handed out and tokens spent are equal in number exactly if the set may end.
    pub tokens : (calls : List (Call P Q))
        → (length (handed (log step fresh calls)) ≡ length (spent (log step fresh calls)))
        ↔ (is_ok (step (reached step fresh calls) may_end).1 ≡ true)
    -- Otherwise the refusal's place is the difference.
    pub owed : (calls : List (Call P Q)) (f : Fault) → (step (reached step fresh calls) may_end).1 ≡ Err f
        → (number_of f ≡ 7) × (layer_of f ≡ 2) × (place_of f + length (spent (log step fresh calls)) ≡ length (handed (log step fresh calls)))
    -- While every token brought comes from this run's hands and clones and is unspent, no wake and no drop of an
    -- unspent token is refused.
    pub welcome : (calls : List (Call P Q)) → Honest [] fresh calls → (t : Waker) → among t (unspent [] fresh calls) ≡ true
        → (is_ok (step (reached step fresh calls) (wake t)).1 ≡ true)
        × (is_ok (step (reached step fresh calls) (wake_by_ref t)).1 ≡ true)
        × (is_ok (step (reached step fresh calls) (drop t)).1 ≡ true)
