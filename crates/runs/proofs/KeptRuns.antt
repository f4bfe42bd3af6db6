-- What a kind of set keeps, it keeps over every run.
use Rattle.std.proofs.Common.{List, [], ◌∷◌, Some, None, Option}
use Rattle.runs.specs.Calls.{Call, push, poll, hand, clone, wake, wake_by_ref, drop, may_end, ask, reached}
use Rattle.runs.specs.Kinds.{Kind, step}
use Rattle.runs.specs.Laws.{Keeps}
use Rattle.runs.specs.Tokens.{leaves, hand_fault, clone_fault, spend_fault, one_more, one_less}
use Rattle.tasks.specs.declared.fault.Fault.{Fault}

module _ {S P Q T O : Type 0} (k : Kind S P Q T O) (Inv : S → Type 0) (keeps : Keeps k Inv) where
  -- a token call is carried out or refused
  kept_if : (s s' : S) (o : Option Fault) → Inv s → Inv s' → Inv (leaves o s s')
  kept_if s s' None i j = j
  kept_if s s' (Some f) i j = i

  pub kept_step : (s : S) (c : Call P Q) → Inv s → Inv (step k s c).0
  kept_step s (push p) i = keeps.pushed s p i
  kept_step s (poll post) i = keeps.polled s post i
  kept_step s (hand a) i = kept_if s (one_more k.tokened s) (hand_fault k.tokened s a) i (keeps.set s _ i)
  kept_step s (clone t) i = kept_if s (one_more k.tokened s) (clone_fault k.tokened s t) i (keeps.set s _ i)
  kept_step s (wake t) i =
      let w = k.tokened.woken s t.address in
      kept_if s (one_less k.tokened w) (spend_fault k.tokened s t) i (keeps.set w _ (keeps.woken s t.address i))
  kept_step s (wake_by_ref t) i = kept_if s (k.tokened.woken s t.address) (spend_fault k.tokened s t) i (keeps.woken s t.address i)
  kept_step s (drop t) i = kept_if s (one_less k.tokened s) (spend_fault k.tokened s t) i (keeps.set s _ i)
  kept_step s may_end i = i
  kept_step s (ask q) i = i

  pub kept_run : (s : S) (cs : List (Call P Q)) → Inv s → Inv (reached (step k) s cs)
  kept_run s [] i = i
  kept_run s (c ∷ cs) i = kept_run (step k s c).0 cs (kept_step s c i)
