-- What a poll does to the tasks of a group: none is lost or doubled, and the one that is ready leaves.
use Rattle.std.proofs.Common.{◌≡◌, ℕ, zero, suc, ◌+◌, ◌<◌, Bool, true, false, cond, eqb, List, [], ◌∷◌, map, length, get_or, set, is_some, Some, None, sum_by, count_by, Option, sym, refl, ap, ◌∙◌, subst, arith}
use Rattle.lists.specs.Queues.{first}
use Rattle.sets.specs.Bounded.{held_in}
use Rattle.sets.specs.Group.{Group, Outcome, turn, turn_at, turn_from, found_at, dequeued, served, after_found, after_turn, polling, registered, found, found_if, polled, output_of, vacated, finishing}
use Rattle.sets.specs.declared.turn.Found.{Found}
use Rattle.sets.specs.declared.turn.Turn.{Turn}
use Rattle.slots.proofs.Chained.{remove_chained, replace_chained, occupied_within}
use Rattle.slots.proofs.HeldParts.{removed_there}
use Rattle.slots.specs.Table.{Table, task_in, task_at, occupied, occupied_at, len, removed, Chained}
use Rattle.slots.specs.declared.slot.Slot.{Slot}
use Rattle.slots.specs.declared.slot.Slot.TheVariants.{Occupied, NextFree}
use Rattle.std.proofs.lemmas.List.{length-set, set-set, get_or-set_same}
use Rattle.std.proofs.lemmas.Option.{slice_get-get_or}
use Rattle.std.proofs.lemmas.List.Sums.{sum_by-cons, sum_by-set}
use Rattle.std.proofs.lemmas.Bool.{eqb-true, eq-eqb}
use Rattle.tasks.specs.Acts.{Acts}
use Rattle.tasks.specs.declared.poll.Poll.{Poll}
use Rattle.tasks.specs.declared.poll.Poll.TheVariants.{Ready, Pending}
use Rattle.runs.specs.Tallies.{output_in}

-- the task that is found in a slot
task_found : {F : Type 0} (s : Slot F) (f : F) → task_in (Some s) ≡ Some f → s ≡ Occupied f
task_found (Occupied g) f e = cc
task_found (NextFree n) f e = let z : ◌≡◌ {A = ℕ} 0 1 = cc in absurd (omega arith)

task_slot : {F : Type 0} (slots : List (Slot F)) (i : ℕ) (f : F) → task_at slots i ≡ Some f → get_or slots i (NextFree 0) ≡ Occupied f
task_slot slots i f e =
    let lt : i < length slots = occupied_within slots i (ap is_some e) in
    task_found (get_or slots i (NextFree 0)) f (ap task_in (sym (slice_get-get_or slots i (NextFree 0) lt)) ∙ e)

still_occupied : {F : Type 0} (slots : List (Slot F)) (i : ℕ) (f : F) → i < length slots → occupied_at (set slots i (Occupied f)) i ≡ true
still_occupied slots i f lt =
    let within : i < length (set slots i (Occupied f)) = subst (λ n. i < n) (sym (length-set slots i (Occupied f))) lt in
    ap (λ o. is_some (task_in o)) (slice_get-get_or (set slots i (Occupied f)) i (Occupied f) within)
    ∙ ap (λ s. is_some (task_in (Some s))) (get_or-set_same slots i (Occupied f) (Occupied f) lt)

-- how many tasks there are
pub length_held : {F : Type 0} (slots : List (Slot F)) → length (held_in slots) ≡ len slots
length_held [] = refl
length_held (Occupied f ∷ slots) =
    let s = sum_by-cons (λ x. cond (occupied x) 1 0) (Occupied f) slots in omega (arith, s, length_held slots)
length_held (NextFree n ∷ slots) =
    let s = sum_by-cons (λ x. cond (occupied x) 1 0) (NextFree n) slots in omega (arith, s, length_held slots)

module _ {F X : Type 0} (bearing : F → X) where
  -- how many tasks bear a label that passes a test
  abbrev pub weight : (X → Bool) → Slot F → ℕ
  weight test (Occupied f) = cond (test (bearing f)) 1 0
  weight test (NextFree n) = 0

  unfoldable pub weigh : (X → Bool) → List (Slot F) → ℕ
  weigh test slots = sum_by (weight test) slots

  pub count_inside : (test : X → Bool) (slots : List (Slot F)) → count_by test (map bearing (held_in slots)) ≡ weigh test slots
  unfolding weigh
  count_inside test [] = refl
  count_inside test (Occupied f ∷ slots) =
      let a = sum_by-cons (λ x. cond (test x) 1 0) (bearing f) (map bearing (held_in slots)) in
      let b = sum_by-cons (weight test) (Occupied f) slots in
      omega (arith, a, b, count_inside test slots)
  count_inside test (NextFree n ∷ slots) =
      let b = sum_by-cons (weight test) (NextFree n) slots in
      omega (arith, b, count_inside test slots)

  -- one slot changes
  pub weigh_set : (test : X → Bool) (slots : List (Slot F)) (i : ℕ) (s : Slot F) → i < length slots
      → weigh test (set slots i s) + weight test (get_or slots i (NextFree 0)) ≡ weigh test slots + weight test s
  unfolding weigh
  weigh_set test slots i s lt = sum_by-set (weight test) slots i s (NextFree 0) lt

-- a poll of tasks that keep their ticket while pending, and whose output bears it
module _ {F O X : Type 0} (acts : Acts F O) (bearing : F → X) (bears : O → X) (post : List ℕ)
    (keeps : (f : F) → acts.answers f post ≡ Pending → bearing (acts.after f post) ≡ bearing f)
    (gives : (f : F) (x : O) → acts.answers f post ≡ Ready x → bears x ≡ bearing f) where
  -- the same labels lie in the slots
  pub Same : Group F → Group F → Type 0
  Same g g' = (test : X → Bool) → weigh bearing test g'.table.slots ≡ weigh bearing test g.table.slots

  -- the task in slot i is done: without it, and with the output x, they are the same
  pub Done : Group F → Group F → ℕ → O → Type 0
  Done g g' i x =
      (occupied_at g'.table.slots i ≡ true)
      × ((test : X → Bool) → weigh bearing test (set g'.table.slots i (NextFree g'.table.head)) + cond (test (bears x)) 1 0 ≡ weigh bearing test g.table.slots)

  pub FoundDid : Group F → Group F → Option (Found O) → Type 0
  FoundDid g g' None = Same g g'
  FoundDid g g' (Some f) = Done g g' f.slot f.answer

  pub TurnDid : Group F → Group F → Option (Turn O) → Type 0
  TurnDid g g' None = Same g g'
  TurnDid g g' (Some t) = FoundDid g g' t.found

  pub PollDid : Group F → Group F → Poll (Option (Found O)) → Type 0
  PollDid g g' Pending = Same g g'
  PollDid g g' (Ready None) = ⊥
  PollDid g g' (Ready (Some f)) = Done g g' f.slot f.answer

  -- the table is as long as it was, and its free slots are chained
  pub record TableKept (g g' : Group F) : Type 0 where
    pub long : length g'.table.slots ≡ length g.table.slots
    pub chained : Chained g.table.slots g.table.head → Chained g'.table.slots g'.table.head

  module _ (g : Group F) (i : ℕ) (f : F) (there : task_at g.table.slots i ≡ Some f) where
    within : i < length g.table.slots
    within = occupied_within g.table.slots i (ap is_some there)

    was : (test : X → Bool) → weight bearing test (get_or g.table.slots i (NextFree 0)) ≡ cond (test (bearing f)) 1 0
    was test = ap (weight bearing test) (task_slot g.table.slots i f there)

    served_kept : TableKept g (served acts post g i f)
    served_kept = record {
      long = length-set g.table.slots i (Occupied (acts.after f post));
      chained = λ c. (replace_chained g.table.slots g.table.head i (acts.after f post) c (ap is_some there)).chained;
    }

    answered : (p : Poll O) → acts.answers f post ≡ p → FoundDid g (served acts post g i f) (found_at acts post i p)
    unfolding FoundDid Same Done
    answered Pending e = λ test.
        let w = weigh_set bearing test g.table.slots i (Occupied (acts.after f post)) within in
        let same : ◌≡◌ {A = ℕ} (cond (test (bearing (acts.after f post))) 1 0) (cond (test (bearing f)) 1 0) = ap (λ x. cond (test x) 1 0) (keeps f e) in
        omega (arith, w, was test, same)
    answered (Ready x) e = (
      still_occupied g.table.slots i (acts.after f post) within,
      λ test.
          let w = weigh_set bearing test g.table.slots i (NextFree g.table.head) within in
          let twice : weigh bearing test (set (set g.table.slots i (Occupied (acts.after f post))) i (NextFree g.table.head)) ≡ weigh bearing test (set g.table.slots i (NextFree g.table.head))
          = ap (weigh bearing test) (set-set g.table.slots i (Occupied (acts.after f post)) (NextFree g.table.head)) in
          let same : ◌≡◌ {A = ℕ} (cond (test (bears x)) 1 0) (cond (test (bearing f)) 1 0) = ap (λ y. cond (test y) 1 0) (gives f x e) in
          omega (arith, w, was test, same, twice),
    )

  self_kept : (g g' : Group F) → g'.table ≡ g.table → TableKept g g'
  self_kept g g' e = record {
    long = ap (λ (t : Table F). length t.slots) e;
    chained = λ c. subst (λ (t : Table F). Chained t.slots t.head) (sym e) c;
  }

  self_same : (g g' : Group F) → g'.table ≡ g.table → Same g g'
  unfolding Same
  self_same g g' e test = ap (λ (t : Table F). weigh bearing test t.slots) e

  record Turned (g g' : Group F) (r : Option (Turn O)) : Type 0 where
    kept : TableKept g g'
    outcome : TurnDid g g' r

  -- only the table counts
  found_moved : (g h g' : Group F) (o : Option (Found O)) → h.table ≡ g.table → FoundDid h g' o → FoundDid g g' o
  unfolding FoundDid Same Done
  found_moved g h g' None e d = λ test. d test ∙ ap (λ (t : Table F). weigh bearing test t.slots) e
  found_moved g h g' (Some f) e d = (d.0, λ test. d.1 test ∙ ap (λ (t : Table F). weigh bearing test t.slots) e)

  moved_to : (g h g' : Group F) (r : Option (Turn O)) → h.table ≡ g.table → TurnDid h g' r → TurnDid g g' r
  unfolding TurnDid Same
  moved_to g h g' None e d = λ test. d test ∙ ap (λ (t : Table F). weigh bearing test t.slots) e
  moved_to g h g' (Some u) e d = found_moved g h g' u.found e d

  at_turned : (h : Group F) (i : ℕ) (o : Option F) → task_at h.table.slots i ≡ o → Turned h (turn_at acts post h i o).1 (turn_at acts post h i o).0
  unfolding TurnDid FoundDid
  at_turned h i None there = record { kept = self_kept h h refl; outcome = self_same h h refl }
  at_turned h i (Some f) there = record {
    kept = served_kept h i f there;
    outcome = answered h i f there (acts.answers f post) refl;
  }

  from_turned : (g : Group F) (o : Option ℕ) → Turned g (turn_from acts post g o).1 (turn_from acts post g o).0
  unfolding TurnDid FoundDid Same Done
  from_turned g None = record { kept = self_kept g g refl; outcome = self_same g g refl }
  from_turned g (Some i) =
      let t = at_turned (dequeued acts post g) i (task_at g.table.slots i) refl in
      record { kept = record { long = t.kept.long; chained = t.kept.chained }; outcome = moved_to g (dequeued acts post g) (turn_from acts post g (Some i)).1 (turn_from acts post g (Some i)).0 refl t.outcome }

  turned : (g : Group F) → Turned g (turn acts post g).1 (turn acts post g).0
  turned g = from_turned g (first g.wakes.waiting)

  pub record PolledWell (g g' : Group F) (p : Poll (Option (Found O))) : Type 0 where
    pub kept : TableKept g g'
    pub outcome : PollDid g g' p

  -- after a turn that gave nothing the rest of the poll counts from where it was
  kept_on : (g h k : Group F) → TableKept g h → TableKept h k → TableKept g k
  kept_on g h k a b = record { long = b.long ∙ a.long; chained = λ c. b.chained (a.chained c) }

  did_on : (g h k : Group F) (p : Poll (Option (Found O))) → Same g h → PollDid h k p → PollDid g k p
  unfolding PollDid Same Done
  did_on g h k Pending s d = λ test. d test ∙ s test
  did_on g h k (Ready None) s d = d
  did_on g h k (Ready (Some f)) s d = (d.0, λ test. d.1 test ∙ s test)

  found_well : (g h : Group F) (go : Group F → ℕ → Outcome F (Found O)) (m t : ℕ) (o : Option (Found O)) → TableKept g h → FoundDid g h o
      → ((k : Group F) (j : ℕ) → PolledWell k (go k j).group (go k j).answer.poll)
      → PolledWell g (after_found acts post go m t o h).group (after_found acts post go m t o h).answer.poll
  unfolding FoundDid PollDid
  found_well g h go m t None kept did rest =
      let w = rest h m in
      record { kept = kept_on g h (go h m).group kept w.kept; outcome = did_on g h (go h m).group (go h m).answer.poll did w.outcome }
  found_well g h go m t (Some f) kept did rest = record { kept = kept; outcome = did }

  step_well : (g h : Group F) (go : Group F → ℕ → Outcome F (Found O)) (n t : ℕ) (r : Option (Turn O)) → Turned g h r
      → ((k : Group F) (m : ℕ) → PolledWell k (go k m).group (go k m).answer.poll)
      → PolledWell g (after_turn acts post go n t r h).group (after_turn acts post go n t r h).answer.poll
  unfolding TurnDid PollDid
  step_well g h go n t None d rest = record { kept = d.kept; outcome = d.outcome }
  step_well g h go n t (Some u) d rest = found_well g h go (n + u.notices) t u.found d.kept d.outcome rest

  pub polling_well : (left n t : ℕ) (g : Group F) → PolledWell g (polling acts post left n t g).group (polling acts post left n t g).answer.poll
  unfolding polling PollDid
  polling_well zero n t g = record { kept = self_kept g g refl; outcome = self_same g g refl }
  polling_well (suc left) n t g =
      step_well g (turn acts post g).1 (λ h more. polling acts post left more (t + 1) h) n t (turn acts post g).0 (turned g)
      (λ k m. polling_well left m (t + 1) k)

  -- the whole poll: as many slots, chained, and the labels inside are those that were, less the one that is yielded
  pub record Fair (g : Group F) (g' : Group F) (p : Poll (Option O)) : Type 0 where
    pub long : length g'.table.slots ≡ length g.table.slots
    pub chained : Chained g.table.slots g.table.head → Chained g'.table.slots g'.table.head
    pub yields : (test : X → Bool) → weigh bearing test g.table.slots ≡ weigh bearing test g'.table.slots + count_by test (output_in bears p)

  -- the slot of a ready task is vacated
  vacates : (g h : Group F) (p : Poll (Option (Found O))) → PolledWell g h p → Fair g (vacated acts post h p) (output_of acts post p)
  unfolding PollDid Same Done
  vacates g h Pending w = record {
    long = w.kept.long;
    chained = w.kept.chained;
    yields = λ test. omega (arith, w.outcome test);
  }
  vacates g h (Ready None) w = absurd w.outcome
  vacates g h (Ready (Some f)) w =
      let there : occupied_at h.table.slots f.slot ≡ true = w.outcome.0 in
      let is : removed h.table f.slot ≡ record { slots = set h.table.slots f.slot (NextFree h.table.head); head = f.slot } = removed_there h.table f.slot there in
      record {
        long = ap (λ (t : Table F). length t.slots) is ∙ length-set h.table.slots f.slot (NextFree h.table.head) ∙ w.kept.long;
        chained = λ c. subst (λ (t : Table F). Chained t.slots t.head) (sym is) (remove_chained h.table.slots h.table.head f.slot (w.kept.chained c) there).chained;
        yields = λ test.
            let e = ap (λ (t : Table F). weigh bearing test t.slots) is in
            let s = sum_by-cons (λ x. cond (test x) 1 0) (bears f.answer) [] in
            omega (arith, e, s, w.outcome.1 test);
      }

  -- by whether there is any task
  fair_if : (b : Bool) (g : Group F) → Fair g (finishing acts post (found_if acts post b g)).group (finishing acts post (found_if acts post b g)).answer.poll
  fair_if true g = record { long = refl; chained = λ c. c; yields = λ test. omega arith }
  fair_if false g =
      let w = polling_well 61 0 0 (registered acts post g) in
      let v = vacates (registered acts post g) (polling acts post 61 0 0 (registered acts post g)).group (polling acts post 61 0 0 (registered acts post g)).answer.poll w in
      record { long = v.long; chained = v.chained; yields = v.yields }

  pub fair : (g : Group F) → Fair g (polled acts post g).group (polled acts post g).answer.poll
  fair g = fair_if (eqb (len g.table.slots) 0) g

  -- a group that has a task does not answer Ready(None)
  never_none : (g h : Group F) (p : Poll (Option (Found O))) → PolledWell g h p → output_of acts post p ≡ Ready None → ⊥
  unfolding PollDid
  never_none g h Pending w e = let z : ◌≡◌ {A = ℕ} 0 1 = cc in omega arith
  never_none g h (Ready None) w e = w.outcome
  never_none g h (Ready (Some f)) w e = let z : ◌≡◌ {A = ℕ} 0 1 = cc in omega arith

  none_if : (b : Bool) (g : Group F) → (finishing acts post (found_if acts post b g)).answer.poll ≡ Ready None → b ≡ true
  none_if true g e = refl
  none_if false g e =
      absurd (never_none (registered acts post g) (polling acts post 61 0 0 (registered acts post g)).group (polling acts post 61 0 0 (registered acts post g)).answer.poll
      (polling_well 61 0 0 (registered acts post g)) e)

  pub none_empty : (g : Group F) → (polled acts post g).answer.poll ≡ Ready None → len g.table.slots ≡ 0
  none_empty g e = eqb-true (len g.table.slots) 0 (none_if (eqb (len g.table.slots) 0) g e)

  pub empty_none : (g : Group F) → len g.table.slots ≡ 0 → (polled acts post g).answer.poll ≡ Ready None
  empty_none g e =
      ap (λ b. (finishing acts post (found_if acts post b g)).answer.poll) (eq-eqb (len g.table.slots) 0 e)

  -- the slot of the one that is ready is vacated
  vacated_slot : (g h : Group F) (p : Poll (Option (Found O))) (f : Found O) → PolledWell g h p → p ≡ Ready (Some f) → task_at (vacated acts post h p).table.slots f.slot ≡ None
  unfolding PollDid Done
  vacated_slot g h Pending f w e = let z : ◌≡◌ {A = ℕ} 0 1 = cc in absurd (omega arith)
  vacated_slot g h (Ready None) f w e = let z : ◌≡◌ {A = ℕ} 0 1 = cc in absurd (omega arith)
  vacated_slot g h (Ready (Some d)) f w e =
      let same : d ≡ f = cc in
      let there : occupied_at h.table.slots d.slot ≡ true = w.outcome.0 in
      let lt : d.slot < length h.table.slots = occupied_within h.table.slots d.slot there in
      let free : Slot F = NextFree h.table.head in
      let long : d.slot < length (set h.table.slots d.slot free) = subst (λ n. d.slot < n) (sym (length-set h.table.slots d.slot free)) lt in
      ap (λ (x : Found O). task_at (removed h.table d.slot).slots x.slot) (sym same)
      ∙ ap (λ (t : Table F). task_at t.slots d.slot) (removed_there h.table d.slot there)
      ∙ ap task_in (slice_get-get_or (set h.table.slots d.slot free) d.slot free long)
      ∙ ap (λ s. task_in (Some s)) (get_or-set_same h.table.slots d.slot free free lt)

  vacated_if : (b : Bool) (g : Group F) (f : Found O) → (found_if acts post b g).answer.poll ≡ Ready (Some f)
      → task_at (finishing acts post (found_if acts post b g)).group.table.slots f.slot ≡ None
  vacated_if true g f e = let z : ◌≡◌ {A = ℕ} 0 1 = cc in absurd (omega arith)
  vacated_if false g f e =
      vacated_slot (registered acts post g) (polling acts post 61 0 0 (registered acts post g)).group (polling acts post 61 0 0 (registered acts post g)).answer.poll f
      (polling_well 61 0 0 (registered acts post g)) e

  pub ready_vacated : (g : Group F) (f : Found O) → (found acts post g).answer.poll ≡ Ready (Some f) → task_at (polled acts post g).group.table.slots f.slot ≡ None
  ready_vacated g f e = vacated_if (eqb (len g.table.slots) 0) g f e

-- what every turn keeps, a poll keeps
module _ {F O : Type 0} (acts : Acts F O) (post : List ℕ) (Kept : Group F → Type 0) (keeps : (g : Group F) → Kept g → Kept (turn acts post g).1) where
  found_keeps : (h : Group F) (go : Group F → ℕ → Outcome F (Found O)) (m t : ℕ) (o : Option (Found O)) → Kept h
      → ((k : Group F) (j : ℕ) → Kept k → Kept (go k j).group) → Kept (after_found acts post go m t o h).group
  found_keeps h go m t None i rest = rest h m i
  found_keeps h go m t (Some f) i rest = i

  step_keeps : (h : Group F) (go : Group F → ℕ → Outcome F (Found O)) (n t : ℕ) (r : Option (Turn O)) → Kept h
      → ((k : Group F) (m : ℕ) → Kept k → Kept (go k m).group) → Kept (after_turn acts post go n t r h).group
  step_keeps h go n t None i rest = i
  step_keeps h go n t (Some u) i rest = found_keeps h go (n + u.notices) t u.found i rest

  pub polling_keeps : (left n t : ℕ) (g : Group F) → Kept g → Kept (polling acts post left n t g).group
  unfolding polling
  polling_keeps zero n t g i = i
  polling_keeps (suc left) n t g i =
      step_keeps (turn acts post g).1 (λ h more. polling acts post left more (t + 1) h) n t (turn acts post g).0 (keeps g i) (λ k m j. polling_keeps left m (t + 1) k j)
