-- What joining and leaving do to the queue that is kept in the wake records.
use Rattle.std.proofs.Common.{◌≡◌, ℕ, zero, suc, ◌+◌, ◌-◌, ◌<◌, Bool, true, false, cond, not, List, [], ◌∷◌, ◌++◌, length, get_or, set, Some, count_by, sym, refl, ap, ◌∙◌, subst, arith}
use Rattle.lists.proofs.Walks.{chain_one, chain_back, walk_back, chain_rest, first_within, last_within, last_push, last_rest, room}
use Rattle.lists.specs.Queues.{enqueued, first, rest}
use Rattle.lists.specs.Walks.{walk, member, last_or, Chain}
use Rattle.std.proofs.lemmas.List.{length-map}
use Rattle.std.proofs.lemmas.List.Sums.{sum_by-cons}
use Rattle.std.proofs.lemmas.Bool.{cond-true, cond-false}
use Rattle.wakes.specs.Queue.{flags, links, waiting_in, Queued}
use Rattle.wakes.specs.declared.queue.Queue.{Queue}
use Rattle.wakes.specs.declared.wake_record.WakeRecord.{WakeRecord}

-- over the flags and the links alone: the queue has n places from h on, and its last is t
module _ (fl : List Bool) (li : List ℕ) (t i : ℕ) where
  first_joins : (n h : ℕ) → n ≡ 0 → Chain fl li n h → get_or fl i false ≡ false → i < length fl
      → (walk li (n + 1) i ≡ walk li n h ++ i ∷ []) × Chain (set fl i true) li (n + 1) i
  first_joins zero h e c clear lt = (refl, chain_one fl li i h clear lt c)
  first_joins (suc n) h e c clear lt = absurd (omega arith)

  last_joins : (n h : ℕ) → (n ≡ 0 → ⊥) → Chain fl li n h → last_or t (walk li n h) ≡ t → get_or fl i false ≡ false → i < length fl → length li ≡ length fl
      → (walk (set li t i) (n + 1) h ≡ walk li n h ++ i ∷ []) × Chain (set fl i true) (set li t i) (n + 1) h
  last_joins zero h e c last clear lt same = absurd (e refl)
  last_joins (suc n) h e c last clear lt same =
      let within : t < length li = subst (λ k. t < k) (sym same) (last_within fl li t n h c last) in
      let more : suc (suc n) ≡ suc n + 1 = omega arith in (
        subst (λ k. walk (set li t i) k h ≡ walk li (suc n) h ++ i ∷ []) more (walk_back li t i n h within c.1 last),
        subst (λ k. Chain (set fl i true) (set li t i) k h) more (chain_back fl li t i n h clear lt within c last),
      )

module _ (fl : List Bool) (li : List ℕ) (t : ℕ) where
  pub record Leaves (n h : ℕ) : Type 0 where
    pub was_first : Some h ≡ first (walk li n h)
    pub others : walk li (n - 1) (get_or li h 0) ≡ rest (walk li n h)
    pub chain : Chain (set fl h false) li (n - 1) (get_or li h 0)
    pub last : last_or t (walk li (n - 1) (get_or li h 0)) ≡ t
    pub within : h < length fl

  first_leaves : (n h : ℕ) → (n ≡ 0 → ⊥) → Chain fl li n h → last_or t (walk li n h) ≡ t → Leaves n h
  first_leaves zero h e c last = absurd (e refl)
  first_leaves (suc n) h e c last =
      let less : n ≡ suc n - 1 = omega arith in
      record {
        was_first = refl;
        others = subst (λ k. walk li k (get_or li h 0) ≡ walk li n (get_or li h 0)) less refl;
        chain = subst (λ k. Chain (set fl h false) li k (get_or li h 0)) less (chain_rest fl li n h c);
        last = subst (λ k. last_or t (walk li k (get_or li h 0)) ≡ t) less (last_rest t h (walk li n (get_or li h 0)) last);
        within = first_within fl li n h c;
      }

same_length : (records : List WakeRecord) → length (links records) ≡ length (flags records)
same_length records = length-map records (λ r. r.next) ∙ sym (length-map records (λ r. r.queued))

-- a slot that does not wait joins
pub record Joined (records records' : List WakeRecord) (q q' : Queue) (i : ℕ) : Type 0 where
  pub waiting : waiting_in records' q' ≡ enqueued (waiting_in records q) i
  pub kept : Queued records' q'

module _ (records records' : List WakeRecord) (q : Queue) (i : ℕ) (queue : Queued records q) (lt : i < length records) (clear : get_or (flags records) i false ≡ false) where
  out : member i (waiting_in records q) ≡ false
  out = sym (queue.0.0 i) ∙ clear

  lt_flags : i < length (flags records)
  lt_flags = subst (λ n. i < n) (sym (length-map records (λ r. r.queued))) lt

  joined : (q' : Queue) → q'.tail ≡ i → waiting_in records' q' ≡ waiting_in records q ++ i ∷ [] → Chain (flags records') (links records') q'.waiting q'.head → Joined records records' q q' i
  joined q' tail way chain = record {
    waiting = way ∙ sym (cond-false (member i (waiting_in records q)) (waiting_in records q) (waiting_in records q ++ i ∷ []) out);
    kept = (chain, ap (λ is. last_or q'.tail is) way ∙ last_push q'.tail i (waiting_in records q) ∙ sym tail);
  }

  pub joins_empty : q.waiting ≡ 0 → flags records' ≡ set (flags records) i true → links records' ≡ links records
      → Joined records records' q (record { head = i; tail = i; waiting = q.waiting + 1 }) i
  joins_empty none f l =
      let both = first_joins (flags records) (links records) 0 i q.waiting q.head none queue.0 clear lt_flags in
      joined (record { head = i; tail = i; waiting = q.waiting + 1 }) refl
      (subst (λ li. walk li (q.waiting + 1) i ≡ waiting_in records q ++ i ∷ []) (sym l) both.0)
      (subst (λ li. Chain (flags records') li (q.waiting + 1) i) (sym l) (subst (λ fl. Chain fl (links records) (q.waiting + 1) i) (sym f) both.1))

  pub joins_behind : (q.waiting ≡ 0 → ⊥) → flags records' ≡ set (flags records) i true → links records' ≡ set (links records) q.tail i
      → Joined records records' q (record { head = q.head; tail = i; waiting = q.waiting + 1 }) i
  joins_behind some f l =
      let both = last_joins (flags records) (links records) q.tail i q.waiting q.head some queue.0 queue.1 clear lt_flags (same_length records) in
      joined (record { head = q.head; tail = i; waiting = q.waiting + 1 }) refl
      (subst (λ li. walk li (q.waiting + 1) q.head ≡ waiting_in records q ++ i ∷ []) (sym l) both.0)
      (subst (λ li. Chain (flags records') li (q.waiting + 1) q.head) (sym l)
      (subst (λ fl. Chain fl (set (links records) q.tail i) (q.waiting + 1) q.head) (sym f) both.1))

  pub room_for : q.waiting < length records
  room_for =
      let r = room (flags records) i clear lt_flags in
      omega (arith, r, queue.0.2, length-map records (λ r. r.queued))

  pub joined_yes : true ≡ not (member i (waiting_in records q))
  joined_yes = sym (ap not out)

-- a slot that waits does not join again
module _ (records : List WakeRecord) (q : Queue) (i : ℕ) (queue : Queued records q) (set_yet : get_or (flags records) i false ≡ true) where
  inside : member i (waiting_in records q) ≡ true
  inside = sym (queue.0.0 i) ∙ set_yet

  pub joined_no : false ≡ not (member i (waiting_in records q))
  joined_no = sym (ap not inside)

  pub stays : waiting_in records q ≡ enqueued (waiting_in records q) i
  stays = sym (cond-true (member i (waiting_in records q)) (waiting_in records q) (waiting_in records q ++ i ∷ []) inside)

-- the tail is a slot while any waits
pub tail_within : (records : List WakeRecord) (q : Queue) → Queued records q → (q.waiting ≡ 0 → ⊥) → q.tail < length records
tail_within records q queue some =
    let m : ℕ = q.waiting - 1 in
    let more : q.waiting ≡ suc m = omega (arith, some) in
    let c : Chain (flags records) (links records) (suc m) q.head = subst (λ n. Chain (flags records) (links records) n q.head) more queue.0 in
    let last : last_or q.tail (walk (links records) (suc m) q.head) ≡ q.tail = subst (λ n. last_or q.tail (walk (links records) n q.head) ≡ q.tail) more queue.1 in
    subst (λ n. q.tail < n) (length-map records (λ r. r.queued)) (last_within (flags records) (links records) q.tail m q.head c last)

-- the first slot leaves
pub record Left (records records' : List WakeRecord) (q : Queue) (head : ℕ) : Type 0 where
  pub slot : Some q.head ≡ first (waiting_in records q)
  pub waiting : waiting_in records' (record { head = head; tail = q.tail; waiting = q.waiting - 1 }) ≡ rest (waiting_in records q)
  pub kept : Queued records' (record { head = head; tail = q.tail; waiting = q.waiting - 1 })

pub head_within : (records : List WakeRecord) (q : Queue) → Queued records q → (q.waiting ≡ 0 → ⊥) → q.head < length records
head_within records q queue some =
    subst (λ n. q.head < n) (length-map records (λ r. r.queued))
    (first_leaves (flags records) (links records) q.tail q.waiting q.head some queue.0 queue.1).within

pub leaves : (records records' : List WakeRecord) (q : Queue) (head : ℕ) → Queued records q → (q.waiting ≡ 0 → ⊥)
    → flags records' ≡ set (flags records) q.head false → links records' ≡ links records → head ≡ get_or (links records') q.head 0
    → Left records records' q head
leaves records records' q head queue some f l to =
    let li : List ℕ = links records in
    let gone = first_leaves (flags records) li q.tail q.waiting q.head some queue.0 queue.1 in
    let at : head ≡ get_or li q.head 0 = to ∙ ap (λ ks. get_or ks q.head 0) l in
    let way : walk (links records') (q.waiting - 1) head ≡ walk li (q.waiting - 1) (get_or li q.head 0)
    = ap (λ ks. walk ks (q.waiting - 1) head) l ∙ ap (λ k. walk li (q.waiting - 1) k) at in
    record {
      slot = gone.was_first;
      waiting = way ∙ gone.others;
      kept = (
        subst (λ k. Chain (flags records') (links records') (q.waiting - 1) k) (sym at)
            (subst (λ ks. Chain (flags records') ks (q.waiting - 1) (get_or li q.head 0)) (sym l)
            (subst (λ bs. Chain bs li (q.waiting - 1) (get_or li q.head 0)) (sym f) gone.chain)),
        ap (λ is. last_or q.tail is) way ∙ gone.last,
      );
    }

-- nothing waits
none_marked : (marks : List Bool) → ((k : ℕ) → get_or marks k false ≡ false) → count_by (λ b. b) marks ≡ 0
none_marked [] e = refl
none_marked (b ∷ bs) e =
    let s : count_by (λ x. x) (b ∷ bs) ≡ cond b 1 0 + count_by (λ x. x) bs = sum_by-cons (λ (x : Bool). cond x 1 0) b bs in
    let z : ◌≡◌ {A = ℕ} (cond b 1 0) 0 = ap (λ (x : Bool). cond x 1 0) (e 0) in
    let r : count_by (λ x. x) bs ≡ 0 = none_marked bs (λ k. e (suc k)) in
    omega (arith, s, z, r)

pub nothing_waits : (records : List WakeRecord) (q : Queue) → q.waiting ≡ 0 → ((k : ℕ) → get_or (flags records) k false ≡ false)
    → (waiting_in records q ≡ []) × Queued records q
nothing_waits records q none e =
    let At : ℕ → Type 0 = λ n. (walk (links records) n q.head ≡ []) × Chain (flags records) (links records) n q.head × (last_or q.tail (walk (links records) n q.head) ≡ q.tail) in
    let here : At q.waiting = subst At (sym none) (refl, (e, refl, none_marked (flags records) e), refl) in
    (here.0, (here.1, here.2))
