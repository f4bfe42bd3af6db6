-- A kind of set: what it does with a push, a poll and a question, and what the token calls need of it.
use Rattle.std.specs.Prelude.{ℕ, List, Option, Result}
use Rattle.runs.specs.Calls.{push, poll, hand, clone, wake, wake_by_ref, drop, may_end, ask, Step}
use Rattle.runs.specs.Tokens.{Tokened, answers, answers_lent, leaves, hand_fault, clone_fault, spend_fault, end_fault, one_more, one_less}
use Rattle.tasks.specs.declared.fault.Refused.{Refused}
use Rattle.tasks.specs.declared.poll.Polled.{Polled}

pub record Kind (S P Q T O : Type 0) : Type 0 where
  pub tokened : Tokened S
  pub pushed : S → P → S
  pub accepts : S → P → Result ℕ (Refused T)
  pub polled : S → List ℕ → S
  pub yields : S → List ℕ → Polled (Option O)
  pub number : S → Q → ℕ

-- A refused call leaves the set as it was, and questions alter nothing. A wake not by reference and a drop spend
-- their token.
module _ {S P Q T O : Type 0} (k : Kind S P Q T O) where
  abbrev pub step : Step S P Q T O
  step s (push p) = (k.pushed s p, k.accepts s p)
  step s (poll post) = (k.polled s post, k.yields s post)
  step s (hand a) = (
    leaves (hand_fault k.tokened s a) s (one_more k.tokened s),
    answers (hand_fault k.tokened s a) a (record { name = k.tokened.name s; address = a }),
  )
  step s (clone t) = (
    leaves (clone_fault k.tokened s t) s (one_more k.tokened s),
    answers_lent (clone_fault k.tokened s t) t,
  )
  step s (wake t) = (
    leaves (spend_fault k.tokened s t) s (one_less k.tokened (k.tokened.woken s t.address)),
    answers (spend_fault k.tokened s t) t (k.tokened.notices s t.address),
  )
  step s (wake_by_ref t) = (
    leaves (spend_fault k.tokened s t) s (k.tokened.woken s t.address),
    answers_lent (spend_fault k.tokened s t) (k.tokened.notices s t.address),
  )
  step s (drop t) = (
    leaves (spend_fault k.tokened s t) s (one_less k.tokened s),
    answers (spend_fault k.tokened s t) t tt,
  )
  step s may_end = (s, answers_lent (end_fault k.tokened s) tt)
  step s (ask q) = (s, k.number s q)
