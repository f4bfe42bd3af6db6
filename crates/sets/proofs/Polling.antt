-- How the turns of a poll add up to it.
use Rattle.std.proofs.Common.{◌≡◌, ℕ, zero, suc, ◌+◌, ◌-◌, ◌<◌, ◌≤◌, Bool, true, false, cond, eqb, List, Some, None, Option, sym, refl, ap, ◌∙◌, subst, arith}
use Rattle.lists.specs.Queues.{first}
use Rattle.lists.specs.Walks.{member}
use Rattle.sets.specs.Ground.{Ground, group_in, with_group}
use Rattle.sets.specs.Group.{Group, Outcome, turn, turn_at, turn_from, self_notice, dequeued, after_found, after_turn, polling, registered, found_if, polled}
use Rattle.sets.specs.declared.turn.Found.{Found}
use Rattle.sets.specs.declared.turn.Turn.{Turn}
use Rattle.slots.specs.Table.{task_at, len}
use Rattle.std.proofs.lemmas.Bool.{cond_both}
use Rattle.tasks.specs.Acts.{Acts}
use Rattle.tasks.specs.declared.poll.Poll.TheVariants.{Ready, Pending}
use Rattle.tasks.specs.declared.poll.Polled.{Polled}
use Rattle.wakes.specs.Wakes.{Wakes, notice}

pub notice_few : (w : Wakes) (i : ℕ) → notice w i ≤ 1
notice_few w i =
    cond_both (member i w.waiting) 0 (cond w.registered 1 0) (λ n. n ≤ 1) (λ e. omega arith)
    (λ e. cond_both w.registered 1 0 (λ n. n ≤ 1) (λ e. omega arith) (λ e. omega arith))

-- a turn gives at most one notice
abbrev pub few : {A : Type 0} → Option (Turn A) → Type 0
few None = Unit {0}
few (Some t) = t.notices ≤ 1

module _ {F A : Type 0} (acts : Acts F A) (post : List ℕ) where
  self_few : (g : Group F) (i : ℕ) (f : F) → self_notice acts post g i f ≤ 1
  self_few g i f = cond_both (acts.wakes f post) (notice g.wakes i) 0 (λ n. n ≤ 1) (λ e. notice_few g.wakes i) (λ e. omega arith)

  at_few : (g : Group F) (i : ℕ) (o : Option F) → few (turn_at acts post g i o).0
  at_few g i None = omega arith
  at_few g i (Some f) = self_few g i f

  from_few : (g : Group F) (o : Option ℕ) → few (turn_from acts post g o).0
  from_few g None = tt
  from_few g (Some i) = at_few (dequeued acts post g) i (task_at g.table.slots i)

  pub turn_few : (g : Group F) (r : Option (Turn A)) → r ≡ (turn acts post g).0 → few r
  turn_few g r e = subst (λ x. few x) (sym e) (from_few g (first g.wakes.waiting))

  -- one turn of those that are left
  polling_step : (most t n : ℕ) (g : Group F) → t < most
      → polling acts post (most - t) n t g ≡ after_turn acts post (λ h more. polling acts post (most - (t + 1)) more (t + 1) h) n t (turn acts post g).0 (turn acts post g).1
  unfolding polling
  polling_step most t n g lt =
      let left : most - t ≡ suc (most - (t + 1)) = omega arith in
      ap (λ k. polling acts post k n t g) left

  -- a poll in progress: entry is where its turns began, and here is after t turns with n notices
  module _ (entry here : Ground F) (most n t : ℕ)
      (around : here ≡ with_group entry (group_in here))
      (so_far : polling acts post (most - t) n t (group_in here) ≡ polling acts post most 0 0 (group_in entry)) where
    -- it ends with a turn that gives the answer a
    pub ends : (end : Ground F) (r : Option (Turn A)) (a : Polled (Option (Found A))) → t < most
        → r ≡ (turn acts post (group_in here)).0
        → end ≡ with_group here (turn acts post (group_in here)).1
        → after_turn acts post (λ h more. polling acts post (most - (t + 1)) more (t + 1) h) n t r (turn acts post (group_in here)).1 ≡ record { answer = a; group = (turn acts post (group_in here)).1 }
        → (a ≡ (polling acts post most 0 0 (group_in entry)).answer) × (end ≡ with_group entry (polling acts post most 0 0 (group_in entry)).group)
    ends end r a lt is to gives =
        let g : Group F = group_in here in
        let o : polling acts post most 0 0 (group_in entry) ≡ record { answer = a; group = (turn acts post g).1 }
        = sym so_far ∙ polling_step most t n g lt
        ∙ ap (λ x. after_turn acts post (λ h more. polling acts post (most - (t + 1)) more (t + 1) h) n t x (turn acts post g).1) (sym is)
        ∙ gives in (
          sym (ap (λ (x : Outcome F (Found A)). x.answer) o),
          to ∙ ap (λ s. with_group s (turn acts post g).1) around ∙ ap (λ (x : Outcome F (Found A)). with_group entry x.group) (sym o),
        )

    -- it ends with a turn that finds f
    pub finds : (end : Ground F) (u : Turn A) (f : Found A) → t < most → u.found ≡ Some f
        → Some u ≡ (turn acts post (group_in here)).0
        → end ≡ with_group here (turn acts post (group_in here)).1
        → (record { poll = Ready (Some f); notices = n + u.notices; turns = t + 1 } ≡ (polling acts post most 0 0 (group_in entry)).answer)
        × (end ≡ with_group entry (polling acts post most 0 0 (group_in entry)).group)
    finds end u f lt has is to =
        ends end (Some u) (record { poll = Ready (Some f); notices = n + u.notices; turns = t + 1 }) lt is to
        (ap (λ o. after_found acts post (λ h more. polling acts post (most - (t + 1)) more (t + 1) h) (n + u.notices) t o (turn acts post (group_in here)).1) has)

    -- it goes on after a turn that gives no answer
    pub goes_on : (next : Ground F) (more : ℕ) → t < most → Some (record { notices = more; found = None }) ≡ (turn acts post (group_in here)).0 → next ≡ with_group here (turn acts post (group_in here)).1
        → (next ≡ with_group entry (group_in next))
        × (polling acts post (most - (t + 1)) (n + more) (t + 1) (group_in next) ≡ polling acts post most 0 0 (group_in entry))
    goes_on next more lt is to =
        let g : Group F = group_in here in
        let there : group_in next ≡ (turn acts post g).1 = ap group_in to in (
          to ∙ ap (λ s. with_group s (turn acts post g).1) around ∙ ap (λ k. with_group entry k) (sym there),
          ap (λ k. polling acts post (most - (t + 1)) (n + more) (t + 1) k) there
              ∙ ap (λ x. after_turn acts post (λ h m. polling acts post (most - (t + 1)) m (t + 1) h) n t x (turn acts post g).1) is
              ∙ sym (polling_step most t n g lt) ∙ so_far,
        )

    -- it ends with no turn left
    pub runs_out : t ≡ most
        → (record { poll = Pending; notices = n + 1; turns = t } ≡ (polling acts post most 0 0 (group_in entry)).answer)
        × (here ≡ with_group entry (polling acts post most 0 0 (group_in entry)).group)
    unfolding polling
    runs_out all =
        let none : most - t ≡ 0 = omega arith in
        let o : polling acts post most 0 0 (group_in entry) ≡ record { answer = record { poll = Pending; notices = n + 1; turns = t }; group = group_in here }
        = sym so_far ∙ ap (λ k. polling acts post k n t (group_in here)) none in (
          sym (ap (λ (x : Outcome F (Found A)). x.answer) o),
          around ∙ ap (λ (x : Outcome F (Found A)). with_group entry x.group) (sym o),
        )

  -- a poll takes no more turns than it may, and gives at most one notice for each of them and one more
  pub record FewIn (n t left : ℕ) (o : Outcome F (Found A)) : Type 0 where
    pub notices : o.answer.notices ≤ n + left + 1
    pub turns : o.answer.turns ≤ t + left

  found_few : (go : Group F → ℕ → Outcome F (Found A)) (n m t left : ℕ) (o : Option (Found A)) (g : Group F) → m ≤ n + 1
      → ((h : Group F) (k : ℕ) → FewIn k (t + 1) left (go h k)) → FewIn n t (suc left) (after_found acts post go m t o g)
  found_few go n m t left None g small later =
      let f = later g m in
      record { notices = omega (arith, f.notices, small); turns = omega (arith, f.turns) }
  found_few go n m t left (Some x) g small later = record { notices = omega (arith, small); turns = omega arith }

  after_few : (go : Group F → ℕ → Outcome F (Found A)) (n t left : ℕ) (r : Option (Turn A)) (g : Group F) → few r
      → ((h : Group F) (m : ℕ) → FewIn m (t + 1) left (go h m)) → FewIn n t (suc left) (after_turn acts post go n t r g)
  after_few go n t left None g small later = record { notices = omega arith; turns = omega arith }
  after_few go n t left (Some u) g small later = found_few go n (n + u.notices) t left u.found g (omega (arith, small)) later

  polling_few : (left n t : ℕ) (g : Group F) → FewIn n t left (polling acts post left n t g)
  unfolding polling
  polling_few zero n t g = record { notices = omega arith; turns = omega arith }
  polling_few (suc left) n t g =
      after_few (λ h more. polling acts post left more (t + 1) h) n t left (turn acts post g).0 (turn acts post g).1 (turn_few g (turn acts post g).0 refl)
      (λ h m. polling_few left m (t + 1) h)

  polled_if_few : (empty : Bool) (g : Group F) → ((found_if acts post empty g).answer.notices ≤ 62) × ((found_if acts post empty g).answer.turns ≤ 61)
  polled_if_few true g = (omega arith, omega arith)
  polled_if_few false g =
      let f = polling_few 61 0 0 (registered acts post g) in
      (omega (arith, f.notices), omega (arith, f.turns))

  pub polled_few : (g : Group F) → ((polled acts post g).answer.notices ≤ 62) × ((polled acts post g).answer.turns ≤ 61)
  polled_few g = polled_if_few (eqb (len g.table.slots) 0) g
