-- The bounded set has the laws that an ordered set asks of the set below it.
use Rattle.std.proofs.Common.{◌≡◌, ℕ, ltb, List, [], ◌∷◌, ◌++◌, map, drop, count_by, Option, sym, refl, ap, ◌∙◌, subst, arith}
use Rattle.ordered.proofs.Counts.{count_map}
use Rattle.ordered.proofs.OrderedLaws.{ordered_promises, ordered_wakers, ordered_deque, ordered_indices, size_length}
use Rattle.ordered.specs.Below.{Label, label, label_flipped, FlipLaws}
use Rattle.ordered.specs.BoundedBelow.{bounded_below, no_ticket, index_labels, FreeChain}
use Rattle.ordered.specs.Deques.{DequeLaw, IndexLaw}
use Rattle.ordered.specs.OrderedSet.{OrderedPromises, heap_full, places_of}
use Rattle.ordered.specs.OrderedSet as ordered
use Rattle.runs.specs.Calls.{reached}
use Rattle.runs.specs.Laws.{TicketLaws}
use Rattle.runs.specs.Promises.{Promises}
use Rattle.runs.specs.Wakers.{WakerLaws}
use Rattle.sets.proofs.BoundedLaws.{Inv, inside, Once, token_laws, ticket_laws, wake_laws, fresh_held}
use Rattle.sets.specs.Bounded.{Bounded, how_many, made, kind, queued, elements, held_in, slots_of, set_flipped, capacity_of}
use Rattle.slots.proofs.Chained.{flipped_chained, fresh_chained, fresh_len}
use Rattle.slots.specs.Flips.{slot_flipped}
use Rattle.slots.specs.Table.{fresh_slots}
use Rattle.slots.specs.declared.slot.Slot.{Slot}
use Rattle.slots.specs.declared.slot.Slot.TheVariants.{Occupied, NextFree}
use Rattle.std.proofs.lemmas.List.{length-map}
use Rattle.tasks.specs.Acts.{Acts}
use Rattle.tasks.specs.Kinds.{wrapped_acts, wrapped_answers}
use Rattle.tasks.specs.Orders.{wrapper_flipped}
use Rattle.tasks.specs.declared.order_wrapper.OrderWrapper.{OrderWrapper}
use Rattle.tasks.specs.declared.poll.Poll.{Poll}
use Rattle.tasks.specs.declared.poll.Poll.TheVariants.{Ready, Pending}
use Rattle.wakes.specs.declared.wake_record.WakeRecord.{WakeRecord}

held_flipped : {F : Type 0} (f : F → F) (slots : List (Slot F)) → held_in (map (slot_flipped f) slots) ≡ map f (held_in slots)
held_flipped f [] = refl
held_flipped f (Occupied x ∷ slots) = ap (λ l. f x ∷ l) (held_flipped f slots)
held_flipped f (NextFree n ∷ slots) = held_flipped f slots

module _ {F O : Type 0} (acts : Acts F O) (bearing : F → ℕ × ℕ) (bears : O → ℕ × ℕ)
    (keeps : (f : F) (post : List ℕ) → acts.answers f post ≡ Pending → bearing (acts.after f post) ≡ bearing f)
    (gives : (f : F) (post : List ℕ) (x : O) → acts.answers f post ≡ Ready x → bears x ≡ bearing f) where
  -- a wrapper keeps its index, and so does its output
  pending_within : (i : ℕ) (p : Poll O) → wrapped_answers i p ≡ Pending → p ≡ Pending
  pending_within i (Ready x) e = let z : ◌≡◌ {A = ℕ} 0 1 = cc in absurd (omega arith)
  pending_within i Pending e = refl

  keeps_label : (w : OrderWrapper F) (post : List ℕ) → (wrapped_acts acts).answers w post ≡ Pending → label bearing ((wrapped_acts acts).after w post) ≡ label bearing w
  keeps_label w post e = ap (λ (t : ℕ × ℕ). let l : Label = (w.index, t) in l) (keeps w.«data» post (pending_within w.index (acts.answers w.«data» post) e))

  gives_by : (w : OrderWrapper F) (post : List ℕ) (x : OrderWrapper O) (p : Poll O) → acts.answers w.«data» post ≡ p → wrapped_answers w.index p ≡ Ready x → label bears x ≡ label bearing w
  gives_by w post x Pending is e = let z : ◌≡◌ {A = ℕ} 0 1 = cc in absurd (omega arith)
  gives_by w post x (Ready y) is e =
      let v : OrderWrapper O = record { «data» = y; index = w.index } in
      let same : v ≡ x = cc in
      ap (label bears) (sym same) ∙ ap (λ (t : ℕ × ℕ). let l : Label = (w.index, t) in l) (gives w.«data» post y is)

  gives_label : (w : OrderWrapper F) (post : List ℕ) (x : OrderWrapper O) → (wrapped_acts acts).answers w post ≡ Ready x → label bears x ≡ label bearing w
  gives_label w post x e = gives_by w post x (acts.answers w.«data» post) refl e

  tickets : TicketLaws (kind (wrapped_acts acts)) (label bearing) (label bears) (Inv (wrapped_acts acts) (label bearing) (label bears) keeps_label gives_label) (inside (wrapped_acts acts) (label bearing) (label bears) keeps_label gives_label) elements how_many
  tickets = ticket_laws (wrapped_acts acts) (label bearing) (label bears) keeps_label gives_label

  flips : FlipLaws (bounded_below acts) (Inv (wrapped_acts acts) (label bearing) (label bears) keeps_label gives_label) (inside (wrapped_acts acts) (label bearing) (label bears) keeps_label gives_label)
  unfolding Inv inside
  flips = record {
    inside_flipped = λ s test i.
        let flat = held_flipped wrapper_flipped (slots_of s) in
        ap (λ ws. count_by test (map (label bearing) ws)) flat
        ∙ count_map test (label bearing) (map wrapper_flipped (elements s))
        ∙ count_map (λ w. test (label bearing w)) wrapper_flipped (elements s)
        ∙ sym (count_map (λ l. test (label_flipped l)) (label bearing) (elements s));
    keeps_flipped = λ s i. flipped_chained wrapper_flipped (slots_of s) s.group.table.head i;
    out_flipped = λ s. refl;
    name_flipped = λ s. refl;
    known_flipped = λ s a. ap (λ n. ltb a n) (length-map (slots_of s) (slot_flipped wrapper_flipped));
  }

  once_flipped : (s : Bounded (OrderWrapper F)) → Once (wrapped_acts acts) (label bearing) (label bears) keeps_label gives_label s → Once (wrapped_acts acts) (label bearing) (label bears) keeps_label gives_label (set_flipped wrapper_flipped s)
  unfolding Once
  once_flipped s d = d

  first_of_labels : (ws : List (OrderWrapper F)) → map (λ (l : Label). l.0) (map (label bearing) ws) ≡ map (λ w. w.index) ws
  first_of_labels [] = refl
  first_of_labels (w ∷ ws) = ap (λ l. w.index ∷ l) (first_of_labels ws)

  -- the promises over every run of the ordered set over it
  module _ (name : ℕ) (slots : List (Slot (OrderWrapper F))) (records : List WakeRecord) (parking : List (Option (OrderWrapper O))) where
    none_inside : inside (wrapped_acts acts) (label bearing) (label bears) keeps_label gives_label (made name slots records) ≡ []
    unfolding inside
    none_inside = ap (λ fs. map (label bearing) fs) (fresh_held (fresh_slots (capacity_of slots records)) (fresh_len (OrderWrapper F) (capacity_of slots records)))

    chained : Inv (wrapped_acts acts) (label bearing) (label bears) keeps_label gives_label (made name slots records)
    unfolding Inv
    chained = fresh_chained (OrderWrapper F) (capacity_of slots records)

    once : Once (wrapped_acts acts) (label bearing) (label bears) keeps_label gives_label (made name slots records)
    unfolding Once
    once = refl

    pub promises_of : Promises (ordered.step acts) (ordered.made name slots records parking) (λ p. bearing p.task) bears ordered.elements how_many
    promises_of =
        ordered_promises (bounded_below acts) heap_full bearing bears (Inv (wrapped_acts acts) (label bearing) (label bears) keeps_label gives_label) (inside (wrapped_acts acts) (label bearing) (label bears) keeps_label gives_label) elements queued (Once (wrapped_acts acts) (label bearing) (label bears) keeps_label gives_label)
        (token_laws (wrapped_acts acts) (label bearing) (label bears) keeps_label gives_label) tickets (wake_laws (wrapped_acts acts) (label bearing) (label bears) keeps_label gives_label) flips once_flipped refl
        (made name slots records) (places_of parking) (drop (places_of parking) parking) chained once none_inside refl

    pub wakers_of : WakerLaws (ordered.step acts) (ordered.made name slots records parking) ordered.queued how_many
    wakers_of =
        ordered_wakers (bounded_below acts) heap_full bearing bears (Inv (wrapped_acts acts) (label bearing) (label bears) keeps_label gives_label) (inside (wrapped_acts acts) (label bearing) (label bears) keeps_label gives_label) elements queued (Once (wrapped_acts acts) (label bearing) (label bears) keeps_label gives_label)
        (token_laws (wrapped_acts acts) (label bearing) (label bears) keeps_label gives_label) tickets (wake_laws (wrapped_acts acts) (label bearing) (label bears) keeps_label gives_label) flips once_flipped refl
        (made name slots records) (places_of parking) (drop (places_of parking) parking) chained once none_inside refl

    pub deque_of : DequeLaw (ordered.step acts) (ordered.made name slots records parking) bearing bears
    deque_of =
        ordered_deque (bounded_below acts) heap_full bearing bears (Inv (wrapped_acts acts) (label bearing) (label bears) keeps_label gives_label) (inside (wrapped_acts acts) (label bearing) (label bears) keeps_label gives_label) elements queued (Once (wrapped_acts acts) (label bearing) (label bears) keeps_label gives_label)
        (token_laws (wrapped_acts acts) (label bearing) (label bears) keeps_label gives_label) tickets (wake_laws (wrapped_acts acts) (label bearing) (label bears) keeps_label gives_label) flips once_flipped refl
        (made name slots records) (places_of parking) (drop (places_of parking) parking) chained once none_inside refl

    pub indices_of : IndexLaw (ordered.step acts) (ordered.made name slots records parking) ordered.indices (ordered.len acts) (λ s. s.incoming) (λ s. s.outgoing)
    unfolding inside
    indices_of =
        let law = ordered_indices (bounded_below acts) heap_full bearing bears (Inv (wrapped_acts acts) (label bearing) (label bears) keeps_label gives_label) (inside (wrapped_acts acts) (label bearing) (label bears) keeps_label gives_label) elements queued (Once (wrapped_acts acts) (label bearing) (label bears) keeps_label gives_label)
        (token_laws (wrapped_acts acts) (label bearing) (label bears) keeps_label gives_label) tickets (wake_laws (wrapped_acts acts) (label bearing) (label bears) keeps_label gives_label) flips once_flipped refl
        (made name slots records) (places_of parking) (drop (places_of parking) parking) chained once none_inside refl in
        record {
          run = λ cs test.
              let s : ordered.Line F O = reached (ordered.step acts) (ordered.made name slots records parking) cs in
              ap (λ is. count_by test (is ++ map (λ (w : OrderWrapper O). w.index) s.parked)) (sym (first_of_labels (elements s.below))) ∙ law.run cs test;
          ends = law.ends;
        }

  pub ordered_stand : OrderedPromises acts bearing bears
  ordered_stand = record { promises = promises_of; wakers = wakers_of; deque = deque_of; in_a_run = indices_of }

  -- of every set that is as it was made
  module _ (s : ordered.Line F O) (name : ℕ) (slots : List (Slot (OrderWrapper F))) (records : List WakeRecord) (parking : List (Option (OrderWrapper O))) (fresh : s ≡ ordered.made name slots records parking) where
    pub promises_at : Promises (ordered.step acts) s (λ p. bearing p.task) bears ordered.elements how_many
    promises_at = subst (λ x. Promises (ordered.step acts) x (λ p. bearing p.task) bears ordered.elements how_many) (sym fresh) (promises_of name slots records parking)

    pub wakers_at : WakerLaws (ordered.step acts) s ordered.queued how_many
    wakers_at = subst (λ x. WakerLaws (ordered.step acts) x ordered.queued how_many) (sym fresh) (wakers_of name slots records parking)

    pub deque_at : DequeLaw (ordered.step acts) s bearing bears
    deque_at = subst (λ x. DequeLaw (ordered.step acts) x bearing bears) (sym fresh) (deque_of name slots records parking)

    pub indices_at : IndexLaw (ordered.step acts) s ordered.indices (ordered.len acts) (λ t. t.incoming) (λ t. t.outgoing)
    indices_at = subst (λ x. IndexLaw (ordered.step acts) x ordered.indices (ordered.len acts) (λ t. t.incoming) (λ t. t.outgoing)) (sym fresh) (indices_of name slots records parking)

-- the laws, told by indices alone
module _ {F O : Type 0} (acts : Acts F O) where
  pub bare_tickets : TicketLaws (kind (wrapped_acts acts)) (label no_ticket) (label no_ticket) FreeChain index_labels index_labels how_many
  unfolding Inv inside
  bare_tickets =
      let t = tickets acts no_ticket no_ticket (λ f post e. refl) (λ f post x e. refl) in
      record {
        keeps = t.keeps;
        inside_set = t.inside_set;
        inside_woken = t.inside_woken;
        inside_pushed = t.inside_pushed;
        inside_polled = t.inside_polled;
        none_inside = t.none_inside;
        counts = t.counts;
        sizes = λ s i. t.counts s i ∙ size_length (index_labels s);
      }

  pub bare_flips : FlipLaws (bounded_below acts) FreeChain index_labels
  unfolding Inv inside
  bare_flips = flips acts no_ticket no_ticket (λ f post e. refl) (λ f post x e. refl)
