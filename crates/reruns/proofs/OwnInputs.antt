-- A refused call gets back what it gave away.
use Rattle.std.proofs.Common.{ℕ, Bool, true, false, cond, List, Some, None, Ok, Err, Option, refl}
use Rattle.reruns.specs.Answers.{OwnBack, by_result}
use Rattle.reruns.specs.Bounded.{bounded_answer}
use Rattle.reruns.specs.Recorded.{GivesBack}
use Rattle.reruns.specs.Steps.{Futures}
use Rattle.reruns.specs.declared.answer.Answer.{Answer}
use Rattle.recordings.specs.declared.call.Call.{Call}
use Rattle.recordings.specs.declared.call.Call.TheVariants as call
use Rattle.recordings.specs.declared.call.Task.TheVariants as task
use Rattle.runs.specs.Tokens.{answers, answers_lent, hand_fault, clone_fault, spend_fault, end_fault}
use Rattle.sets.specs.Bounded.{Bounded, slots_of, tokened}
use Rattle.slots.specs.Table.{full}
use Rattle.tasks.specs.declared.fault.Fault.{Fault}
use Rattle.tasks.specs.declared.fault.Refused.{Refused}

module _ (c : Call) {A : Type 0} (good : A → Answer) (goods : (a : A) → OwnBack c (good a)) where
  own_answers : {I : Type 0} (bad : Refused I → Answer) (i : I) → ((f : Fault) → OwnBack c (bad (record { fault = f; input = i })))
      → (o : Option Fault) (a : A) → OwnBack c (by_result good bad (answers o i a))
  own_answers bad i bads None a = goods a
  own_answers bad i bads (Some f) a = bads f

  own_lent : (bad : Fault → Answer) → ((f : Fault) → OwnBack c (bad f))
      → (o : Option Fault) (a : A) → OwnBack c (by_result good bad (answers_lent o a))
  own_lent bad bads None a = goods a
  own_lent bad bads (Some f) a = bads f

  own_cond : {E : Type 0} (bad : E → Answer) (e : E) → OwnBack c (bad e)
      → (b : Bool) (a : A) → OwnBack c (by_result good bad (cond b (Err e) (Ok a)))
  own_cond bad e bads true a = bads
  own_cond bad e bads false a = goods a

pub own_inputs : (s : Bounded Futures) (c : Call) (post : List ℕ) → GivesBack c (bounded_answer s c post)
own_inputs s (call.Push (task.Future f)) post = own_cond (call.Push (task.Future f)) _ (λ a. tt) _ _ refl (full (slots_of s)) _
own_inputs s (call.Push (task.Stream t)) post = tt
own_inputs s (call.PushBack t) post = tt
own_inputs s (call.PushFront t) post = tt
own_inputs s call.Poll post = tt
own_inputs s (call.Hand a) post = own_answers (call.Hand a) _ (λ a. tt) _ a (λ f. refl) (hand_fault tokened s a) _
own_inputs s (call.Clone t) post = own_lent (call.Clone t) _ (λ a. tt) _ (λ f. refl) (clone_fault tokened s _) _
own_inputs s (call.Wake t) post = own_answers (call.Wake t) _ (λ a. tt) _ _ (λ f. refl) (spend_fault tokened s _) _
own_inputs s (call.WakeByRef t) post = own_lent (call.WakeByRef t) _ (λ a. tt) _ (λ f. refl) (spend_fault tokened s _) _
own_inputs s (call.Drop t) post = own_answers (call.Drop t) _ (λ a. tt) _ _ (λ f. refl) (spend_fault tokened s _) _
own_inputs s call.MayEnd post = own_lent call.MayEnd _ (λ a. tt) _ (λ f. refl) (end_fault tokened s) _
own_inputs s call.Len post = tt
own_inputs s call.Capacity post = tt
