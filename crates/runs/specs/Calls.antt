-- The calls that touch a set or a merge, what they answer, and a run of them.
use Rattle.std.specs.Prelude.{ℕ, List, [], ◌∷◌, Option, Result}
use Rattle.tasks.specs.declared.fault.Fault.{Fault}
use Rattle.tasks.specs.declared.fault.Refused.{Refused}
use Rattle.tasks.specs.declared.poll.Polled.{Polled}
use Rattle.wakes.specs.declared.waker.Waker.{Waker}

-- P is what a push brings, and Q are the questions that are answered by a number.
pub data Call (P Q : Type 0) : Type 0 where
  push : P → Call P Q
  poll : List ℕ → Call P Q
  hand : ℕ → Call P Q
  clone : Waker → Call P Q
  wake : Waker → Call P Q
  wake_by_ref : Waker → Call P Q
  drop : Waker → Call P Q
  may_end : Call P Q
  ask : Q → Call P Q

-- T is the task that a refused push hands back, and O the output of a poll. A refusal hands back the very input; a
-- token that was only lent stays with the caller.
abbrev pub Answer : {P Q : Type 0} → Type 0 → Type 0 → Call P Q → Type 0
Answer T O (push p) = Result ℕ (Refused T)
Answer T O (poll post) = Polled (Option O)
Answer T O (hand a) = Result Waker (Refused ℕ)
Answer T O (clone t) = Result Waker Fault
Answer T O (wake t) = Result ℕ (Refused Waker)
Answer T O (wake_by_ref t) = Result ℕ Fault
Answer T O (drop t) = Result (Unit {0}) (Refused Waker)
Answer T O may_end = Result (Unit {0}) Fault
Answer T O (ask q) = ℕ

-- A kind of set: from a set and a call, the set after the call and what it answers.
abbrev pub Step : (S P Q T O : Type 0) → Type 0
Step S P Q T O = S → (c : Call P Q) → S × Answer T O c

-- A log is a list of calls, each with its answer.
pub data Entry (P Q T O : Type 0) : Type 0 where
  did : (c : Call P Q) → Answer T O c → Entry P Q T O

module _ {S P Q T O : Type 0} (step : Step S P Q T O) where
  abbrev pub entry : S → Call P Q → Entry P Q T O
  entry s c = did c (step s c).1

  -- The set that a list of calls leads to, and the log of that run.
  abbrev pub reached : S → List (Call P Q) → S
  reached s [] = s
  reached s (c ∷ cs) = reached (step s c).0 cs

  abbrev pub log : S → List (Call P Q) → List (Entry P Q T O)
  log s [] = []
  log s (c ∷ cs) = entry s c ∷ log (step s c).0 cs
