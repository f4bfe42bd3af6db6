-- How the rounds of a poll add up to it.
use Rattle.std.proofs.Common.{◌≡◌, ℕ, suc, ◌+◌, ◌-◌, ◌*◌, ◌<◌, ◌≤◌, Bool, true, false, cond, eqb, List, Some, None, Option, sym, refl, ap, ◌∙◌, subst, arith}
use Rattle.ordered.proofs.Lines.{park_line, fewer_below, held_placed, polling_turn}
use Rattle.ordered.proofs.Parkings.{NoneAt, none_at_parked}
use Rattle.ordered.proofs.Queues.{settled_parked}
use Rattle.ordered.specs.declared.task_set.TaskSet.{Ghosts as TaskSet}
use Rattle.parking.specs.declared.parking.Parking.{Ghosts as Parking}
use Rattle.ordered.specs.Below.{Below, Label}
use Rattle.ordered.specs.BoundedBelow.{no_ticket}
use Rattle.ordered.specs.Deques.{taken_by}
use Rattle.ordered.specs.Lined.{Lined}
use Rattle.ordered.specs.Ordered.{Ordered, Outcome, with_below, with_parked, parked_with, in_turn, after_poll, polling}
use Rattle.ordered.specs.Queue.{Kept}
use Rattle.ordered.specs.Rounds.{round_by, set_by, round_of, set_of_round, polled_below}
use Rattle.std.specs.Option.{option_map}
use Rattle.tasks.specs.declared.fault.Fault.{Fault}
use Rattle.tasks.specs.declared.order_wrapper.OrderWrapper.{OrderWrapper}
use Rattle.tasks.specs.declared.poll.Poll.{Poll}
use Rattle.tasks.specs.declared.poll.Poll.TheVariants.{Ready, Pending}
use Rattle.tasks.specs.Orders.{index_raised, top_bit}

-- what a poll is after a round: it ends, or goes on
abbrev pub ended : {M O R : Type 0} → (Ordered M O R → Outcome M O R) → Option (Poll (Option O)) → Ordered M O R → ℕ → ℕ → Outcome M O R
ended go (Some p) s n t = record { answer = record { poll = p; notices = n; turns = t }; set = s }
ended go None s n t = go s

module _ {S P F O : Type 0} (T : TaskSet S F O) (K : Parking P O) (post : List ℕ) where
  abbrev M : Type 0
  M = T.Model

  abbrev Q : Type 0
  Q = T.Ask

  abbrev R : Type 0
  R = K.Rest

  abbrev b : Below M Q F O
  b = T.below

  abbrev full : ℕ → ℕ → Fault
  full = K.full

  abbrev Inv : M → Type 0
  Inv = T.Inv

  abbrev labels : M → List Label
  labels = T.labels

  abbrev tasks : Ordered M O R → ℕ
  tasks s = b.kind.number s.below b.len

  turn_round : (go : Ordered M O R → Outcome M O R) (s : Ordered M O R) (t : M) (w : OrderWrapper O) (n m : ℕ) (e : Bool)
      → in_turn b full e go s t w n m
      ≡ ended go (option_map (λ x. Ready (Some x)) (cond e (Some w.«data») None)) (record { below = t; parked = cond e s.parked (parked_with w s.parked); places = s.places; incoming = s.incoming; outgoing = cond e (index_raised s.outgoing) s.outgoing; beyond = s.beyond }) n m
  turn_round go s t w n m true = refl
  turn_round go s t w n m false = refl

  after_round : (go : Ordered M O R → Outcome M O R) (s : Ordered M O R) (t : M) (p : Poll (Option (OrderWrapper O))) (n m : ℕ)
      → after_poll b full go s t p n m ≡ ended go (round_by (with_below s t) p) (set_by (with_below s t) p) n m
  after_round go s t Pending n m = refl
  after_round go s t (Ready None) n m = refl
  after_round go s t (Ready (Some w)) n m = turn_round go s t w n m (eqb w.index s.outgoing)

  -- one round of those that are left
  pub round_step : (left n t : ℕ) (s : Ordered M O R)
      → polling b full post (suc left) n t s
      ≡ ended (λ u. polling b full post left (n + (b.kind.yields s.below post).notices) (t + (b.kind.yields s.below post).turns) u) (round_of b post s) (set_of_round b post s)
      (n + (b.kind.yields s.below post).notices) (t + (b.kind.yields s.below post).turns)
  unfolding polling
  round_step left n t s =
      let m : ℕ = n + (b.kind.yields s.below post).notices in
      let k : ℕ = t + (b.kind.yields s.below post).turns in
      after_round (λ u. polling b full post left m k u) s (b.kind.polled s.below post) (b.kind.yields s.below post).poll m k

  -- a poll in progress: where it began, and where it is with n notices and t turns
  pub record SoFar (start here : Ordered M O R) (n t : ℕ) : Type 0 where
    pub sound : Kept b Inv labels here
    pub low : top_bit here.outgoing ≡ false
    pub none : NoneAt here.outgoing here.parked
    pub left : ℕ
    pub enough : tasks here < suc left
    pub goes : polling b full post (suc left) n t here ≡ polling b full post (suc (tasks start)) 0 0 start
    pub few_notices : n + 1024 * tasks here ≤ 1024 * tasks start
    pub few_turns : t + 1024 * tasks here ≤ 1024 * tasks start
    pub most : tasks start ≤ 65536

  tasks_most : (s : Ordered M O R) → Kept b Inv labels s → tasks s ≤ 65536
  tasks_most s k = omega (arith, held_placed b full no_ticket no_ticket Inv labels labels k.tickets k.flips s k.deque k.lined, k.lined.most)

  pub begins : (s : Ordered M O R) → Kept b Inv labels s → top_bit s.outgoing ≡ false → NoneAt s.outgoing s.parked → SoFar s s 0 0
  begins s k low none = record {
    sound = k;
    low = low;
    none = none;
    left = tasks s;
    enough = omega arith;
    goes = refl;
    few_notices = omega arith;
    few_turns = omega arith;
    most = tasks_most s k;
  }

  -- it ends with a round that does not park
  pub ends : (start here : Ordered M O R) (n t more taken : ℕ) (r : Option (Poll (Option O))) (o : Outcome M O R) → SoFar start here n t
      → more ≡ (b.kind.yields here.below post).notices → taken ≡ (b.kind.yields here.below post).turns → r ≡ round_of b post here
      → ((go : Ordered M O R → Outcome M O R) → ended go r (set_of_round b post here) (n + more) (t + taken) ≡ o)
      → polling b full post (suc (tasks start)) 0 0 start ≡ o
  ends start here n t more taken r o f em et er gives =
      let left : ℕ = f.left in
      let m : ℕ = n + (b.kind.yields here.below post).notices in
      let k : ℕ = t + (b.kind.yields here.below post).turns in
      let go : Ordered M O R → Outcome M O R = λ u. polling b full post left m k u in
      sym f.goes ∙ round_step left n t here
      ∙ ap (λ x. ended go x (set_of_round b post here) m k) (sym er)
      ∙ ap (λ x. ended go r (set_of_round b post here) (n + x) k) (sym em)
      ∙ ap (λ x. ended go r (set_of_round b post here) (n + more) (t + x)) (sym et)
      ∙ gives go

  -- a round that parks was given an output that is not next in turn
  record Parks (s : Ordered M O R) (p : Poll (Option (OrderWrapper O))) : Type 0 where
    w : OrderWrapper O
    is : p ≡ Ready (Some w)
    late : eqb w.index s.outgoing ≡ false
    to : set_by (polled_below b post s) p ≡ with_parked b full s (b.kind.polled s.below post) w

  parks_if : (s : Ordered M O R) (w : OrderWrapper O) (e : Bool) → eqb w.index s.outgoing ≡ e → option_map (λ x. let p : Poll (Option O) = Ready (Some x) in p) (cond e (Some w.«data») None) ≡ None → Parks s (Ready (Some w))
  parks_if s w true e p = let z : ◌≡◌ {A = ℕ} 0 1 = cc in absurd (omega arith)
  parks_if s w false e p = record { w = w; is = refl; late = e; to = settled_parked (polled_below b post s) w e }

  parks : (s : Ordered M O R) (p : Poll (Option (OrderWrapper O))) → round_by (polled_below b post s) p ≡ None → Parks s p
  parks s Pending e = let z : ◌≡◌ {A = ℕ} 0 1 = cc in absurd (omega arith)
  parks s (Ready None) e = let z : ◌≡◌ {A = ℕ} 0 1 = cc in absurd (omega arith)
  parks s (Ready (Some w)) e = parks_if s w (eqb w.index s.outgoing) refl e

  -- it goes on after a round that parks, with fewer tasks
  pub goes_on : (start here next : Ordered M O R) (n t more taken : ℕ) → SoFar start here n t
      → more ≡ (b.kind.yields here.below post).notices → taken ≡ (b.kind.yields here.below post).turns → more ≤ 1024 → taken ≤ 1024
      → None ≡ round_of b post here → next ≡ set_of_round b post here
      → SoFar start next (n + more) (t + taken) × (tasks next < tasks here)
  goes_on start here next n t more taken f em et small few er to =
      let p = parks here (b.kind.yields here.below post).poll (sym er) in
      let k = f.sound in
      let there : next ≡ with_parked b full here (b.kind.polled here.below post) p.w = to ∙ p.to in
      let line = park_line b full no_ticket no_ticket Inv labels labels k.tickets k.flips post here k.deque p.w p.is k.lined in
      let fewer : tasks next < tasks here
      = subst (λ (u : Ordered M O R). tasks u < tasks here) (sym there) (fewer_below b full no_ticket no_ticket Inv labels labels k.tickets k.flips post here p.w p.is k.lined.kept) in
      let one = f.enough in
      let less : ℕ = f.left - 1 in
      let is : f.left ≡ suc less = omega (arith, fewer, one) in
      let go : ℕ → Ordered M O R → Outcome M O R = λ l u. polling b full post l (n + (b.kind.yields here.below post).notices) (t + (b.kind.yields here.below post).turns) u in (
        record {
          sound = record { tickets = k.tickets; flips = k.flips; deque = k.deque; lined = subst (λ u. Lined no_ticket Inv labels u k.deque) (sym there) line };
          low = subst (λ (u : Ordered M O R). top_bit u.outgoing ≡ false) (sym there) f.low;
          none = subst (λ (u : Ordered M O R). NoneAt u.outgoing u.parked) (sym there) (none_at_parked here.outgoing p.w here.parked p.late f.none);
          left = less;
          enough = omega (arith, fewer, one, is);
          goes = ap (λ x. polling b full post (suc less) (n + x) (t + taken) next) em ∙ ap (λ x. polling b full post (suc less) (n + (b.kind.yields here.below post).notices) (t + x) next) et
              ∙ ap (λ l. go l next) (sym is)
              ∙ ap (λ u. go f.left u) to
              ∙ ap (λ x. ended (go f.left) x (set_of_round b post here) (n + (b.kind.yields here.below post).notices) (t + (b.kind.yields here.below post).turns)) er
              ∙ sym (round_step f.left n t here) ∙ f.goes;
          few_notices = omega (arith, f.few_notices, small, fewer);
          few_turns = omega (arith, f.few_turns, few, fewer);
          most = f.most;
        },
        fewer,
      )

  -- the whole poll keeps the line
  pub polled_sound : (start after : Ordered M O R) → Kept b Inv labels start → NoneAt start.outgoing start.parked → after ≡ (polling b full post (suc (tasks start)) 0 0 start).set → Kept b Inv labels after
  polled_sound start after k none is =
      let turn = polling_turn b full no_ticket no_ticket Inv labels labels k.tickets k.flips post (suc (tasks start)) 0 0 start k.deque k.lined none (omega arith) in
      record {
        tickets = k.tickets;
        flips = k.flips;
        deque = taken_by (polling b full post (suc (tasks start)) 0 0 start).answer.poll k.deque;
        lined = subst (λ u. Lined no_ticket Inv labels u (taken_by (polling b full post (suc (tasks start)) 0 0 start).answer.poll k.deque)) (sym is) turn.lined;
      }

  pub finishes : (start here after : Ordered M O R) (n t more taken : ℕ) (p : Poll (Option O)) → Kept b Inv labels start → NoneAt start.outgoing start.parked → SoFar start here n t
      → more ≡ (b.kind.yields here.below post).notices → taken ≡ (b.kind.yields here.below post).turns → Some p ≡ round_of b post here → after ≡ set_of_round b post here
      → (record { poll = p; notices = n + more; turns = t + taken } ≡ (polling b full post (suc (tasks start)) 0 0 start).answer) × (after ≡ (polling b full post (suc (tasks start)) 0 0 start).set) × Kept b Inv labels after
  finishes start here after n t more taken p k none f em et er to =
      let o : Outcome M O R = record { answer = record { poll = p; notices = n + more; turns = t + taken }; set = set_of_round b post here } in
      let e : polling b full post (suc (tasks start)) 0 0 start ≡ o = ends start here n t more taken (Some p) o f em et er (λ go. refl) in
      let there : after ≡ (polling b full post (suc (tasks start)) 0 0 start).set = to ∙ ap (λ (x : Outcome M O R). x.set) (sym e) in
      (ap (λ (x : Outcome M O R). x.answer) (sym e), there, polled_sound start after k none there)
