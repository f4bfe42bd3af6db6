-- The bounded set has the laws that the promise over every run asks for.
use Rattle.std.proofs.Common.{◌≡◌, ℕ, suc, ◌+◌, Bool, true, false, cond, eqb, ltb, List, [], ◌∷◌, map, length, get_or, set, Some, None, Ok, Err, count_by, Option, sym, refl, ap, ◌∙◌, subst, arith}
use Rattle.lists.proofs.QueueFacts.{distinct_enqueued, distinct_rest, member_enqueued, count_one}
use Rattle.lists.specs.Queues.{enqueued, first}
use Rattle.lists.specs.Walks.{distinct}
use Rattle.runs.proofs.TicketRuns.{promises}
use Rattle.runs.proofs.WakerRuns.{waker_laws}
use Rattle.runs.specs.Calls.{reached}
use Rattle.runs.specs.Laws.{TokenLaws, TicketLaws, WakeLaws}
use Rattle.runs.specs.Promises.{Promises}
use Rattle.runs.specs.Size.{size}
use Rattle.runs.specs.Tallies.{if_ok}
use Rattle.runs.specs.Wakers.{WakerLaws}
use Rattle.sets.proofs.FairPolls.{Fair, fair, weight, weigh, weigh_set, count_inside, length_held, none_empty, empty_none, ready_vacated, polling_keeps}
use Rattle.sets.specs.Bounded.{Bounded, how_many, made, kind, step, slots_of, elements, held_in, push_answer, capacity_of, queued, NeverAgain}
use Rattle.sets.specs.Group.{Group, polled, polling, registered, found_if, finishing, output_of, vacated, turn, turn_at, turn_from, dequeued, woken_if}
use Rattle.sets.specs.declared.turn.Found.{Found}
use Rattle.slots.proofs.Chained.{Inserts, insert_chained, fresh_chained, fresh_len, occupied_within}
use Rattle.slots.proofs.HeldParts.{inserted_full, inserted_open}
use Rattle.slots.specs.Table.{Table, len, full, inserted, task_at, vacant, Chained, fresh_slots}
use Rattle.slots.specs.declared.slot.Slot.{Slot}
use Rattle.slots.specs.declared.slot.Slot.TheVariants.{Occupied, NextFree}
use Rattle.std.proofs.lemmas.List.{length-set, length-map, nil_from_length}
use Rattle.std.proofs.lemmas.List.Sums.{sum_by-cons}
use Rattle.std.proofs.lemmas.Bool.{both_ways, lt-ltb, cond_both, cond-true, cond-false}
use Rattle.tasks.specs.Acts.{Acts}
use Rattle.tasks.specs.declared.fault.Fault.TheVariants.{NoVacantSlot}
use Rattle.tasks.specs.declared.poll.Poll.{Poll}
use Rattle.tasks.specs.declared.poll.Poll.TheVariants.{Ready, Pending}
use Rattle.wakes.specs.Wakes.{Wakes}
use Rattle.wakes.specs.declared.wake_record.WakeRecord.{WakeRecord}

size_length : {X : Type 0} (xs : List X) → length xs ≡ size xs
size_length [] = refl
size_length (x ∷ xs) = ap suc (size_length xs)

length_cond : {F : Type 0} (b : Bool) (slots : List (Slot F)) (i : ℕ) (s : Slot F) → length (cond b slots (set slots i s)) ≡ length slots
length_cond true slots i s = refl
length_cond false slots i s = length-set slots i s

weight_vacant : {F X : Type 0} (bearing : F → X) (test : X → Bool) (s : Slot F) → vacant s ≡ true → weight bearing test s ≡ 0
weight_vacant bearing test (Occupied f) e = absurd (both_ways false refl e)
weight_vacant bearing test (NextFree n) e = refl

-- a push, by whether the set is full
module _ {F X : Type 0} (bearing : F → X) (s : Bounded F) (f : F) (chained : Chained (slots_of s) s.group.table.head) where
  push_chained : (b : Bool) → full (slots_of s) ≡ b → Chained (inserted s.group.table f).slots (inserted s.group.table f).head
  push_chained true e = subst (λ (t : Table F). Chained t.slots t.head) (sym (inserted_full s.group.table f e)) chained
  push_chained false e =
      subst (λ (t : Table F). Chained t.slots t.head) (sym (inserted_open s.group.table f e)) (insert_chained (slots_of s) s.group.table.head f chained e).chained

  push_counts : (test : X → Bool) (b : Bool) → full (slots_of s) ≡ b
      → weigh bearing test (slots_of s) + count_by test (if_ok (bearing f) (push_answer s f)) ≡ weigh bearing test (inserted s.group.table f).slots
  push_counts test true e =
      let a : count_by test (if_ok (bearing f) (push_answer s f)) ≡ 0
      = ap (λ r. count_by test (if_ok (bearing f) r)) (cond-true (full (slots_of s)) (Err (record { fault = NoVacantSlot (length (slots_of s)); input = f })) (Ok s.group.table.head) e) in
      let w = ap (λ (t : Table F). weigh bearing test t.slots) (inserted_full s.group.table f e) in
      omega (arith, a, w)
  push_counts test false e =
      let i : Inserts (slots_of s) s.group.table.head f = insert_chained (slots_of s) s.group.table.head f chained e in
      let a : count_by test (if_ok (bearing f) (push_answer s f)) ≡ count_by test (bearing f ∷ [])
      = ap (λ r. count_by test (if_ok (bearing f) r)) (cond-false (full (slots_of s)) (Err (record { fault = NoVacantSlot (length (slots_of s)); input = f })) (Ok s.group.table.head) e) in
      let one = sum_by-cons (λ x. cond (test x) 1 0) (bearing f) [] in
      let w = ap (λ (t : Table F). weigh bearing test t.slots) (inserted_open s.group.table f e) in
      let d = weigh_set bearing test (slots_of s) s.group.table.head (Occupied f) i.within in
      let z = weight_vacant bearing test (get_or (slots_of s) s.group.table.head (NextFree 0)) i.was_vacant in
      omega (arith, a, one, w, d, z)

pub fresh_held : {F : Type 0} (slots : List (Slot F)) → len slots ≡ 0 → held_in slots ≡ []
fresh_held slots e = nil_from_length (held_in slots) (length_held slots ∙ e)

-- for every kind of future that keeps its label while pending, and whose output bears it
module _ {F O X : Type 0} (acts : Acts F O) (bearing : F → X) (bears : O → X)
    (keeps : (f : F) (post : List ℕ) → acts.answers f post ≡ Pending → bearing (acts.after f post) ≡ bearing f)
    (gives : (f : F) (post : List ℕ) (x : O) → acts.answers f post ≡ Ready x → bears x ≡ bearing f) where
  unfoldable pub Inv : Bounded F → Type 0
  Inv s = Chained (slots_of s) s.group.table.head

  unfoldable pub inside : Bounded F → List X
  inside s = map bearing (elements s)

  poll_fair : (s : Bounded F) (post : List ℕ) → Fair acts bearing bears post (λ f e. keeps f post e) (λ f x e. gives f post x e) s.group (polled acts post s.group).group (polled acts post s.group).answer.poll
  poll_fair s post = fair acts bearing bears post (λ f e. keeps f post e) (λ f x e. gives f post x e) s.group

  pub token_laws : TokenLaws (kind acts)
  token_laws = record {
    out_set = λ s n. refl;
    out_woken = λ s a. refl;
    out_pushed = λ s f. refl;
    out_polled = λ s post. refl;
    name_set = λ s n. refl;
    name_woken = λ s a. refl;
    name_pushed = λ s f. refl;
    name_polled = λ s post. refl;
    known_set = λ s n b e. e;
    known_woken = λ s a b e. e;
    known_pushed = λ s f b e.
        ap (λ n. ltb b n) (length_cond (full (slots_of s)) (slots_of s) s.group.table.head (Occupied f)) ∙ e;
    known_polled = λ s post b e. ap (λ n. ltb b n) (poll_fair s post).long ∙ e;
    occupied_known = λ s a e. lt-ltb a (length (slots_of s)) (occupied_within (slots_of s) a e);
  }

  length_inside : (s : Bounded F) → length (inside s) ≡ len (slots_of s)
  unfolding inside
  length_inside s = length-map (elements s) bearing ∙ length_held (slots_of s)

  pub ticket_laws : TicketLaws (kind acts) bearing bears Inv inside elements how_many
  unfolding Inv inside
  ticket_laws = record {
    keeps = record {
      set = λ s n i. i;
      woken = λ s a i. i;
      pushed = λ s f i. push_chained bearing s f i (full (slots_of s)) refl;
      polled = λ s post i. (poll_fair s post).chained i;
    };
    inside_set = λ s n. refl;
    inside_woken = λ s a. refl;
    inside_pushed = λ s f test i.
        omega (arith, count_inside bearing test (slots_of s), count_inside bearing test (inserted s.group.table f).slots, push_counts bearing s f i test (full (slots_of s)) refl);
    inside_polled = λ s post test i.
        omega (arith, count_inside bearing test (slots_of s), count_inside bearing test (polled acts post s.group).group.table.slots, (poll_fair s post).yields test);
    none_inside = λ s post i. (
      λ e. empty_none acts bearing bears post (λ f d. keeps f post d) (λ f x d. gives f post x d) s.group (sym (length_inside s) ∙ ap length e),
      λ e. nil_from_length (inside s) (length_inside s ∙ none_empty acts bearing bears post (λ f d. keeps f post d) (λ f x d. gives f post x d) s.group e),
    );
    counts = λ s i. sym (length_inside s);
    sizes = λ s i. sym (length_held (slots_of s)) ∙ size_length (elements s);
  }

  -- no slot waits twice
  unfoldable pub Once : Bounded F → Type 0
  Once s = distinct s.group.wakes.waiting ≡ true

  self_once : (b : Bool) (w : Wakes) (i : ℕ) → distinct w.waiting ≡ true → distinct (woken_if b w i).waiting ≡ true
  self_once true w i d = distinct_enqueued w.waiting i d
  self_once false w i d = d

  at_once : (post : List ℕ) (g : Group F) (i : ℕ) (o : Option F) → distinct g.wakes.waiting ≡ true → distinct (turn_at acts post g i o).1.wakes.waiting ≡ true
  at_once post g i None d = d
  at_once post g i (Some f) d = self_once (acts.wakes f post) g.wakes i d

  from_once : (post : List ℕ) (g : Group F) (o : Option ℕ) → distinct g.wakes.waiting ≡ true → distinct (turn_from acts post g o).1.wakes.waiting ≡ true
  from_once post g None d = d
  from_once post g (Some i) d = at_once post (dequeued acts post g) i (task_at g.table.slots i) (distinct_rest g.wakes.waiting d)

  vacated_once : (post : List ℕ) (g : Group F) (p : Poll (Option (Found O))) → distinct g.wakes.waiting ≡ true → distinct (vacated acts post g p).wakes.waiting ≡ true
  vacated_once post g Pending d = d
  vacated_once post g (Ready None) d = d
  vacated_once post g (Ready (Some f)) d = d

  turn_once : (post : List ℕ) (g : Group F) → distinct g.wakes.waiting ≡ true → distinct (turn acts post g).1.wakes.waiting ≡ true
  turn_once post g d = from_once post g (first g.wakes.waiting) d

  polled_once : (post : List ℕ) (g : Group F) (b : Bool) → distinct g.wakes.waiting ≡ true → distinct (finishing acts post (found_if acts post b g)).group.wakes.waiting ≡ true
  polled_once post g true d = d
  polled_once post g false d =
      vacated_once post (polling acts post 61 0 0 (registered acts post g)).group (polling acts post 61 0 0 (registered acts post g)).answer.poll
      (polling_keeps acts post (λ h. distinct h.wakes.waiting ≡ true) (turn_once post) 61 0 0 (registered acts post g) d)

  pub wake_laws : WakeLaws (kind acts) Once queued
  unfolding Once
  wake_laws = record {
    set_twice = λ s n m. refl;
    set_same = λ s. refl;
    queued_set = λ s n a. refl;
    queued_woken = λ s a d. count_one a (enqueued s.group.wakes.waiting a) (distinct_enqueued s.group.wakes.waiting a d) (member_enqueued s.group.wakes.waiting a);
    keeps = record {
      set = λ s n d. d;
      woken = λ s a d. distinct_enqueued s.group.wakes.waiting a d;
      pushed = λ s f d. cond_both (full (slots_of s)) s.group.wakes.waiting (enqueued s.group.wakes.waiting s.group.table.head) (λ w. distinct w ≡ true) (λ e. d) (λ e. distinct_enqueued s.group.wakes.waiting s.group.table.head d);
      polled = λ s post d. polled_once post s.group (eqb (len (slots_of s)) 0) d;
    };
  }

-- for every kind of future that keeps its ticket while pending, and whose output bears it
module _ {F O : Type 0} (acts : Acts F O) (bearing : F → ℕ × ℕ) (bears : O → ℕ × ℕ)
    (keeps : (f : F) (post : List ℕ) → acts.answers f post ≡ Pending → bearing (acts.after f post) ≡ bearing f)
    (gives : (f : F) (post : List ℕ) (x : O) → acts.answers f post ≡ Ready x → bears x ≡ bearing f) where
  -- the promise over every run of a bounded set
  pub bounded_promises : (name : ℕ) (slots : List (Slot F)) (records : List WakeRecord)
      → Promises (step acts) (made name slots records) bearing bears elements how_many
  unfolding Inv inside
  bounded_promises name slots records =
      let n : ℕ = capacity_of slots records in
      promises (kind acts) bearing bears (Inv acts bearing bears keeps gives) (inside acts bearing bears keeps gives) elements how_many (token_laws acts bearing bears keeps gives) (ticket_laws acts bearing bears keeps gives) (made name slots records) refl
      (fresh_chained F n)
      (ap (λ fs. map bearing fs) (fresh_held (fresh_slots n) (fresh_len F n)))

  -- and the laws of its wakers
  pub bounded_wakers : (name : ℕ) (slots : List (Slot F)) (records : List WakeRecord)
      → WakerLaws (step acts) (made name slots records) queued how_many
  unfolding Inv Once
  bounded_wakers name slots records =
      waker_laws (kind acts) (token_laws acts bearing bears keeps gives) (Once acts bearing bears keeps gives) queued (wake_laws acts bearing bears keeps gives) bearing bears (Inv acts bearing bears keeps gives) (inside acts bearing bears keeps gives) elements how_many (ticket_laws acts bearing bears keeps gives) (made name slots records) refl
      (fresh_chained F (capacity_of slots records))

  -- and a future that is ready is never polled again
  passed_by : (g : Group F) (post : List ℕ) (i : ℕ) (o : Option ℕ) → o ≡ Some i → task_at g.table.slots i ≡ None
      → turn_from acts post g o ≡ (Some (record { notices = 0; found = None }), dequeued acts post g)
  passed_by g post i o e none =
      ap (λ p. turn_from acts post g p) e ∙ ap (λ f. turn_at acts post (dequeued acts post g) i f) none

  pub bounded_never_again : (name : ℕ) (slots : List (Slot F)) (records : List WakeRecord) → NeverAgain acts (made name slots records)
  bounded_never_again name slots records = record {
    ready_vacates = λ cs post f e.
        let s : Bounded F = reached (step acts) (made name slots records) cs in (
          ap (λ p. output_of acts post p) e,
          ready_vacated acts bearing bears post (λ g d. keeps g post d) (λ g x d. gives g post x d) s.group f e,
        );
    vacant_passed = λ g post i e none. passed_by g post i (first g.wakes.waiting) e none;
  }

  -- of every set that is as it was made
  module _ (s : Bounded F) (name : ℕ) (slots : List (Slot F)) (records : List WakeRecord) (fresh : s ≡ made name slots records) where
    pub promises_at : Promises (step acts) s bearing bears elements how_many
    promises_at = subst (λ x. Promises (step acts) x bearing bears elements how_many) (sym fresh) (bounded_promises name slots records)

    pub wakers_at : WakerLaws (step acts) s queued how_many
    wakers_at = subst (λ x. WakerLaws (step acts) x queued how_many) (sym fresh) (bounded_wakers name slots records)

    pub never_again_at : NeverAgain acts s
    never_again_at = subst (λ x. NeverAgain acts x) (sym fresh) (bounded_never_again name slots records)
