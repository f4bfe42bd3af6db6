-- The steps of an ordered queue's code: pushes, housekeeping, and outputs that are taken or parked.
use Rattle.std.proofs.Common.{◌≡◌, ℕ, ◌^◌, ◌<◌, ◌≤◌, Bool, true, false, cond, eqb, ltb, ◌⊎◌, List, [], ◌∷◌, map, length, is_ok, Some, None, Ok, Err, count_by, Option, Result, sym, refl, ap, ◌∙◌, subst, inl, inr, ⊎_elim, arith}
use Rattle.ordered.proofs.Counts.{one_if, count_cons, count_map}
use Rattle.ordered.proofs.Lines.{held_placed, push_line, flip_line, park_line, poll_turn, line_step, apart_lined, within_lined, ahead_lined}
use Rattle.ordered.proofs.Parkings.{count_ascending, count_parked_with, Apart, ascending_shuffled, ascending_map, ascending_least, all_from_ascending, apart_flipped}
use Rattle.ordered.proofs.Rows.{in_row, length_numbered}
use Rattle.ordered.specs.declared.task_set.TaskSet.{Ghosts as TaskSet}
use Rattle.parking.specs.declared.parking.Parking.{Ghosts as Parking}
use Rattle.ordered.specs.Below.{Below, Label, label, leave_of, unwrapped}
use Rattle.ordered.specs.BoundedBelow.{no_ticket}
use Rattle.ordered.specs.Deques.{joined_if, taken_by, fed}
use Rattle.ordered.specs.Lined.{Lined}
use Rattle.ordered.specs.Ordered.{Ordered, Outcome, Pushing, Side, room_for, held, index_for, incoming_after, outgoing_after, wrapped, accepting, accepts, pushed_if, pushed, flipped_if, housekept, with_parked, from_parked, polled_by_turn, outcome, ascending, parked_with, bearing_index, without_index, with_below, step}
use Rattle.ordered.specs.Queue.{Kept, PushedBy, PutUnder, Accepting}
use Rattle.ordered.specs.Rounds.{settled}
use Rattle.parking.specs.declared.parking.Unfit.{Unfit}
use Rattle.parking.specs.Bags.{Fits, Put, Flipped, bears_index, in_run, pair}
use Rattle.runs.proofs.TicketRuns.{count_all}
use Rattle.runs.specs.Calls.{Call, entry}
use Rattle.runs.specs.Tokens.{leaves}
use Rattle.std.proofs.lemmas.Bool.{leb-false, le-leb, lt-leb, eq-eqb, cases_Bool, cond-true, cond-false, cond_both}
use Rattle.std.proofs.ByRecursion.{all_shuffled}
use Rattle.std.specs.List.Sorted.{IsPermutation}
use Rattle.std.specs.Result.{IsOk}
use Rattle.std.specs.List.{AllByRecursion as All}
use Rattle.tasks.specs.Orders.{index_raised, index_flipped, top_bit, wrapper_flipped}
use Rattle.tasks.specs.declared.fault.Fault.{Fault}
use Rattle.tasks.specs.declared.fault.Refused.{Refused}
use Rattle.tasks.specs.declared.order_wrapper.OrderWrapper.{OrderWrapper}
use Rattle.tasks.specs.declared.poll.Poll.TheVariants.{Ready}

pub length_ascending : {O : Type 0} (ws : List (OrderWrapper O)) → length (ascending ws) ≡ length ws
length_ascending ws = sym (count_all (ascending ws)) ∙ count_ascending (λ w. true) ws ∙ count_all ws

-- sets that agree in each part
pub order_same : {M O R : Type 0} (m m' : M) (ws ws' : List (OrderWrapper O)) (n n' i i' o o' : ℕ) (r r' : R) → m ≡ m' → ws ≡ ws' → n ≡ n' → i ≡ i' → o ≡ o' → r ≡ r'
    → ◌≡◌ {A = Ordered M O R} (record { below = m; parked = ws; places = n; incoming = i; outgoing = o; beyond = r })
    (record { below = m'; parked = ws'; places = n'; incoming = i'; outgoing = o'; beyond = r' })
order_same m m' ws ws' n n' i i' o o' r r' em ew en ei eo er = cc

-- pairs that fit have indices that differ
apart_fits : {O : Type 0} (places : ℕ) (ws : List (OrderWrapper O)) → Fits places ws → Apart ws
apart_fits places ws fits i =
    cond_both (in_run fits.from fits.long i) 1 0 (λ n. count_by (bears_index i) ws ≤ n → count_by (bears_index i) ws ≤ 1) (λ e h. h) (λ e h. omega (arith, h)) (fits.apart i)

-- a pair that was put in waits in its order
pub parked_is : {O : Type 0} (places : ℕ) (w : OrderWrapper O) (bag after : List (OrderWrapper O)) → Fits places (w ∷ bag) → IsPermutation (w ∷ bag) after → ascending after ≡ parked_with w (ascending bag)
parked_is places w bag after fits same = sym (ascending_shuffled (w ∷ bag) after same (apart_fits places (w ∷ bag) fits))

pub settled_parked : {S O R : Type 0} (s : Ordered S O R) (w : OrderWrapper O) → eqb w.index s.outgoing ≡ false
    → settled s w ≡ record { below = s.below; parked = parked_with w s.parked; places = s.places; incoming = s.incoming; outgoing = s.outgoing; beyond = s.beyond }
settled_parked {S = S} {O = O} {R = R} s w e =
    ap (λ (t : Bool). let u : Ordered S O R = record { below = s.below; parked = cond t s.parked (parked_with w s.parked); places = s.places; incoming = s.incoming; outgoing = cond t (index_raised s.outgoing) s.outgoing; beyond = s.beyond } in u) e

-- no pair has the index
pub none_bears : {O : Type 0} (i : ℕ) (ws : List (OrderWrapper O)) → count_by (bears_index i) ws ≡ 0 → bearing_index i ws ≡ None
none_bears i [] e = refl
none_bears i (w ∷ ws) e =
    let c = count_cons (bears_index i) w ws in
    let no : eqb w.index i ≡ false = ⊎_elim (λ t. absurd (omega (arith, e, c, ap one_if t))) (λ f. f) (cases_Bool (eqb w.index i)) in
    cond-false (eqb w.index i) (Some w) (bearing_index i ws) no ∙ none_bears i ws (omega (arith, e, c))

-- a call of the set below that is refused or not
pub leaves_below : {M O R : Type 0} (s : Ordered M O R) (o : Option Fault) (t : M) → with_below s (leaves o s.below t) ≡ leaves o s (with_below s t)
leaves_below s None t = refl
leaves_below s (Some f) t = refl

pub put_then : {O : Type 0} (places : ℕ) (w : OrderWrapper O) (bag : List (OrderWrapper O)) (r : Result (Unit {0}) O) (after : List (OrderWrapper O)) → Put places w.index w.«data» bag r after → Fits places (w ∷ bag) → IsPermutation (w ∷ bag) after
put_then places w bag (Ok u) after done fits = done
put_then places w bag (Err x) after done fits = absurd (done.2 fits)

module _ {S P F O : Type 0} (T : TaskSet S F O) (K : Parking P O) where
  abbrev M : Type 0
  M = T.Model

  abbrev Q : Type 0
  Q = T.Ask

  abbrev R : Type 0
  R = K.Rest

  abbrev b : Below M Q F O
  b = T.below

  abbrev full : ℕ → ℕ → Fault
  full = K.full

  abbrev Inv : M → Type 0
  Inv = T.Inv

  abbrev labels : M → List Label
  labels = T.labels

  -- as many are held as there are places, at most
  pub held_few : (s : Ordered M O R) → Kept b Inv labels s → (held b full s ≤ s.places) × (s.places ≤ 65536)
  held_few s k = (held_placed b full no_ticket no_ticket Inv labels labels k.tickets k.flips s k.deque k.lined, k.lined.most)

  -- a push that finds a place
  module _ (s : Ordered M O R) (side : Side) (task : F) (room : ℕ) (most : room ≤ 65536) where
    abbrev push : Pushing F
    push = record { side = side; task = task; room = room }

    cut : room_for push ≡ room
    cut = omega (arith, most)

    answer_ok : (x : Result ℕ (Refused (OrderWrapper F))) → leave_of x ≡ Ok tt → ltb (held b full s) room ≡ true → (unwrapped x ≡ accepting b full s push x) × (is_ok (accepting b full s push x) ≡ true)
    answer_ok (Ok a) none fits =
        let e : ltb (held b full s) (room_for push) ≡ true = ap (λ n. ltb (held b full s) n) cut ∙ fits in
        let c = cond-true (ltb (held b full s) (room_for push)) (Ok a) (Err (record { fault = full s.places (held b full s); input = task })) e in
        (sym c, ap is_ok c)
    answer_ok (Err r) none fits = let z : ◌≡◌ {A = ℕ} 0 1 = cc in absurd (omega arith)

    pub push_ok : (after : Ordered M O R) (r : Result ℕ (Refused F)) (possible : ℕ → ℕ → Type 0) → Accepting b full s (Ok tt) → possible (held b full s) room → ltb (held b full s) room ≡ true
        → r ≡ unwrapped (b.kind.accepts s.below (wrapped b full s push))
        → after ≡ record { below = b.kind.pushed s.below (wrapped b full s push); parked = s.parked; places = room; incoming = incoming_after b full s side; outgoing = outgoing_after b full s side; beyond = s.beyond }
        → Kept b Inv labels s
        → PushedBy b full possible s side task r after × Kept b Inv labels after
    push_ok after r possible none can fits is to k =
        let a = answer_ok (b.kind.accepts s.below (wrapped b full s push)) (none (wrapped b full s push)) fits in
        let then : after ≡ pushed b full s push
        = to ∙ ap (λ n. let t : Ordered M O R = record { below = b.kind.pushed s.below (wrapped b full s push); parked = s.parked; places = n; incoming = incoming_after b full s side; outgoing = outgoing_after b full s side; beyond = s.beyond } in t) (sym cut)
        ∙ ap (λ ok. pushed_if b full ok s push) (sym a.1) in (
          record { room = room; can_be = λ x. can; answer = is ∙ a.0; then = then },
          record {
            tickets = k.tickets;
            flips = k.flips;
            deque = joined_if (accepts b full s push) side (0, 0) k.deque;
            lined = subst (λ t. Lined no_ticket Inv labels t (joined_if (accepts b full s push) side (0, 0) k.deque)) (sym then)
                (push_line b full no_ticket no_ticket Inv labels labels k.tickets k.flips s push k.deque k.lined);
          },
        )

    refused_below : (x : Result ℕ (Refused (OrderWrapper F))) (f : Fault) → leave_of x ≡ Err f → accepting b full s push x ≡ Err (record { fault = f; input = task })
    refused_below (Ok a) f e = let z : ◌≡◌ {A = ℕ} 0 1 = cc in absurd (omega arith)
    refused_below (Err r) f e = let g : r.fault ≡ f = cc in ap (λ h. Err (record { fault = h; input = task })) g

    refused_parking : (x : Result ℕ (Refused (OrderWrapper F))) → leave_of x ≡ Ok tt → ltb (held b full s) room ≡ false
        → accepting b full s push x ≡ Err (record { fault = full s.places (held b full s); input = task })
    refused_parking (Ok a) none fits =
        let e : ltb (held b full s) (room_for push) ≡ false = ap (λ n. ltb (held b full s) n) cut ∙ fits in
        cond-false (ltb (held b full s) (room_for push)) (Ok a) (Err (record { fault = full s.places (held b full s); input = task })) e
    refused_parking (Err r) none fits = let z : ◌≡◌ {A = ℕ} 0 1 = cc in absurd (omega arith)

    as_it_was : (after : Ordered M O R) (r : Refused F) → after ≡ s → accepts b full s push ≡ Err r → after ≡ pushed b full s push
    as_it_was after r same e = same ∙ ap (λ x. pushed_if b full (is_ok x) s push) (sym e)

  -- a push that is refused
  pub push_refused : (s : Ordered M O R) (side : Side) (task : F) (after : Ordered M O R) (f : Fault) (possible : ℕ → ℕ → Type 0) → after ≡ s
      → Accepting b full s (Err f) ⊎ (Accepting b full s (Ok tt) × possible (held b full s) s.places × (ltb (held b full s) s.places ≡ false) × (f ≡ full s.places (held b full s)))
      → Kept b Inv labels s
      → PushedBy b full possible s side task (Err (record { fault = f; input = task })) after × Kept b Inv labels after
  push_refused s side task after f possible same (inl below) k =
      let most = k.lined.most in
      let p : Pushing F = record { side = side; task = task; room = s.places } in
      let e : accepts b full s p ≡ Err (record { fault = f; input = task }) = refused_below s side task s.places most (b.kind.accepts s.below (wrapped b full s p)) f (below (wrapped b full s p)) in (
        record {
          room = s.places;
          can_be = λ none. let x = none (wrapped b full s p) in let y = below (wrapped b full s p) in let z : ◌≡◌ {A = ℕ} 0 1 = cc in absurd (omega arith);
          answer = sym e;
          then = as_it_was s side task s.places most after (record { fault = f; input = task }) same e;
        },
        subst (λ t. Kept b Inv labels t) (sym same) k,
      )
  push_refused s side task after f possible same (inr parking) k =
      let most = k.lined.most in
      let p : Pushing F = record { side = side; task = task; room = s.places } in
      let e : accepts b full s p ≡ Err (record { fault = full s.places (held b full s); input = task }) = refused_parking s side task s.places most (b.kind.accepts s.below (wrapped b full s p)) (parking.0 (wrapped b full s p)) parking.2 in (
        record {
          room = s.places;
          can_be = λ none. parking.1;
          answer = ap (λ h. Err (record { fault = h; input = task })) parking.3 ∙ sym e;
          then = as_it_was s side task s.places most after (record { fault = full s.places (held b full s); input = task }) same e;
        },
        subst (λ t. Kept b Inv labels t) (sym same) k,
      )

  -- a task was not put under an index, or it was, under that of the back or the front
  pub handed_back : (s after : Ordered M O R) (side : Side) (w : OrderWrapper F) (r : Refused F) (possible : ℕ → ℕ → Type 0) → PutUnder b full possible s w (Err r) after → Kept b Inv labels s
      → PushedBy b full possible s side w.«data» (Err r) after × Kept b Inv labels after
  handed_back s after side w r possible put k =
      let same : r ≡ record { fault = r.fault; input = w.«data» } = ap (λ (x : F). let v : Refused F = record { fault = r.fault; input = x } in v) put.1 in
      subst (λ x. PushedBy b full possible s side w.«data» (Err x) after × Kept b Inv labels after) (sym same) (push_refused s side w.«data» after r.fault possible put.0.0 put.0.1 k)

  pub pushed_as : (s t : Ordered M O R) (side : Side) (task : F) (a i o : ℕ) (possible : ℕ → ℕ → Type 0)
      → PutUnder b full possible s (record { «data» = task; index = index_for b full s side }) (Ok a) t → Kept b Inv labels s → i ≡ incoming_after b full s side → o ≡ outgoing_after b full s side
      → PushedBy b full possible s side task (Ok a) (record { below = t.below; parked = t.parked; places = t.places; incoming = i; outgoing = o; beyond = t.beyond })
      × Kept b Inv labels (record { below = t.below; parked = t.parked; places = t.places; incoming = i; outgoing = o; beyond = t.beyond })
  pushed_as s t side task a i o possible put k ei eo =
      let made = put.0 in
      let w : OrderWrapper F = record { «data» = task; index = index_for b full s side } in
      push_ok s side task t.places made.3 _ (Ok a) possible made.0 made.1 made.2 put.1
      (order_same t.below (b.kind.pushed s.below w) t.parked s.parked t.places t.places i (incoming_after b full s side) o (outgoing_after b full s side) t.beyond s.beyond
      (ap (λ (u : Ordered M O R). u.below) put.2) (ap (λ (u : Ordered M O R). u.parked) put.2) refl ei eo (ap (λ (u : Ordered M O R). u.beyond) put.2))
      k

  -- the pairs that wait fit any parking of so many places, after housekeeping
  pub fits_lined : (t : Ordered M O R) (d : List (ℕ × ℕ)) (ws : List (OrderWrapper O)) → Lined no_ticket Inv labels t d → top_bit t.outgoing ≡ false
      → ((test : OrderWrapper O → Bool) → count_by test ws ≡ count_by test t.parked) → Fits t.places ws
  fits_lined t d ws l low same =
      let below : t.outgoing < 2 ^ 63 = leb-false (2 ^ 63) t.outgoing low in
      record {
        few = omega (arith, count_all ws, same (λ w. true), l.even (λ x. true), count_map (λ (x : Label). true) (label no_ticket) t.parked, length_numbered t.outgoing d, l.placed);
        from = t.outgoing;
        long = length d;
        short = l.placed;
        wraps_not = omega (arith, below, l.placed, l.most);
        apart = λ i.
            omega (
              arith,
              same (λ w. eqb w.index i),
              l.even (λ x. eqb x.0 i),
              count_map (λ (x : Label). eqb x.0 i) (label no_ticket) t.parked,
              in_row i t.outgoing d l.wraps (omega (arith, below, l.placed, l.most)),
            );
      }

  apart_bag : (s : Ordered M O R) (d : List (ℕ × ℕ)) (bag : List (OrderWrapper O)) → Lined no_ticket Inv labels s d → s.parked ≡ ascending bag → Apart bag
  apart_bag s d bag l is i =
      omega (arith, apart_lined no_ticket Inv labels s d l i, ap (λ ws. count_by (λ (w : OrderWrapper O). eqb w.index i) ws) is, count_ascending (λ w. eqb w.index i) bag)

  -- where the top bit of outgoing is set, the pairs that wait fit after it was flipped
  module _ (s : Ordered M O R) (bag : List (OrderWrapper O)) (k : Kept b Inv labels s) (is : s.parked ≡ ascending bag) (high : 2 ^ 63 ≤ s.outgoing) where
    apart_before : Apart bag
    apart_before = apart_bag s k.deque bag k.lined is

    apart_after : Apart (map wrapper_flipped bag)
    apart_after =
        apart_flipped bag (all_from_ascending (λ w. w.index < 2 ^ 64) bag (subst (λ ws. All (λ (w : OrderWrapper O). w.index < 2 ^ 64) ws) is (within_lined no_ticket Inv labels s k.deque k.lined))) apart_before

    low_after : top_bit (index_flipped s.outgoing) ≡ false
    low_after = lt-leb (2 ^ 63) (index_flipped s.outgoing) (omega (arith, k.lined.wraps, high))

    line_after : Lined no_ticket Inv labels (flipped_if b full true s) k.deque
    line_after = flip_line b full no_ticket no_ticket Inv labels labels k.tickets k.flips true s k.deque k.lined

    sorted_after : ascending (map wrapper_flipped s.parked) ≡ ascending (map wrapper_flipped bag)
    sorted_after = ap (λ ws. ascending (map wrapper_flipped ws)) is ∙ ascending_map wrapper_flipped bag apart_after

    fits_after : Fits s.places (map wrapper_flipped bag)
    fits_after =
        fits_lined (flipped_if b full true s) k.deque (map wrapper_flipped bag) line_after low_after (λ test. sym (count_ascending test (map wrapper_flipped bag)) ∙ ap (λ ws. count_by test ws) (sym sorted_after))

    -- so the parking flips them
    pub flips : (r : Result (Unit {0}) Unfit) (after : List (OrderWrapper O)) → Flipped s.places bag r after → IsOk r
    flips (Ok u) after done = refl
    flips (Err e) after done = absurd (done.1 fits_after)

    shuffled_after : (r : Result (Unit {0}) Unfit) (after : List (OrderWrapper O)) → Flipped s.places bag r after → IsPermutation (map wrapper_flipped bag) after
    shuffled_after (Ok u) after done = done
    shuffled_after (Err e) after done = absurd (done.1 fits_after)

    -- and then the set below is flipped too
    pub housekept_is : (r : Result (Unit {0}) Unfit) (flat : List (OrderWrapper O)) (after : Ordered M O R) → Flipped s.places bag r flat
        → after ≡ record { below = b.flipped s.below; parked = ascending flat; places = s.places; incoming = index_flipped s.incoming; outgoing = index_flipped s.outgoing; beyond = s.beyond }
        → (after ≡ housekept b full s) × Kept b Inv labels after × (top_bit (index_flipped s.outgoing) ≡ false)
    housekept_is r flat after done to =
        let parked : ascending flat ≡ ascending (map wrapper_flipped s.parked) = sym (ascending_shuffled (map wrapper_flipped bag) flat (shuffled_after r flat done) apart_after) ∙ sym sorted_after in
        let there : after ≡ flipped_if b full true s
        = to ∙ ap (λ ws. let u : Ordered M O R = record { below = b.flipped s.below; parked = ws; places = s.places; incoming = index_flipped s.incoming; outgoing = index_flipped s.outgoing; beyond = s.beyond } in u) parked in (
          there ∙ ap (λ h. flipped_if b full h s) (sym (le-leb (2 ^ 63) s.outgoing high)),
          record { tickets = k.tickets; flips = k.flips; deque = k.deque; lined = subst (λ u. Lined no_ticket Inv labels u k.deque) (sym there) line_after },
          low_after,
        )

  -- an output that the set below gives and that is not next in turn fits the parking
  pub fits_round : (s : Ordered M O R) (bag : List (OrderWrapper O)) (post : List ℕ) (w : OrderWrapper O) → Kept b Inv labels s → s.parked ≡ ascending bag → top_bit s.outgoing ≡ false
      → (b.kind.yields s.below post).poll ≡ Ready (Some w) → Fits s.places (w ∷ bag)
  fits_round s bag post w k is low e =
      let t : Ordered M O R = with_parked b full s (b.kind.polled s.below post) w in
      fits_lined t k.deque (w ∷ bag) (park_line b full no_ticket no_ticket Inv labels labels k.tickets k.flips post s k.deque w e k.lined) low
      (λ test. omega (arith, count_cons test w bag, count_parked_with test w s.parked, ap (λ ws. count_by test ws) is, count_ascending test bag))

  -- the pair that was taken was the first that waited
  pub taken_first : (s : Ordered M O R) (bag after : List (OrderWrapper O)) (x : O) → Kept b Inv labels s → s.parked ≡ ascending bag → top_bit s.outgoing ≡ false
      → IsPermutation bag (pair s.outgoing x ∷ after)
      → (bearing_index s.outgoing s.parked ≡ Some (pair s.outgoing x)) × (without_index s.outgoing s.parked ≡ ascending after)
  taken_first s bag after x k is low same =
      let w : OrderWrapper O = pair s.outgoing x in
      let apart : Apart bag = apart_bag s k.deque bag k.lined is in
      let ahead : All (λ v. s.outgoing ≤ v.index) bag = all_from_ascending (λ v. s.outgoing ≤ v.index) bag (subst (λ ws. All (λ (v : OrderWrapper O). s.outgoing ≤ v.index) ws) is (ahead_lined no_ticket Inv labels s k.deque k.lined low)) in
      let behind : All (λ v. s.outgoing ≤ v.index) (w ∷ after) = all_shuffled (λ v. s.outgoing ≤ v.index) bag (w ∷ after) same ahead in
      let row : s.parked ≡ w ∷ ascending after = is ∙ ascending_shuffled bag (w ∷ after) same apart ∙ ascending_least w after behind.1 in
      let own : eqb s.outgoing s.outgoing ≡ true = eq-eqb s.outgoing s.outgoing refl in (
        ap (λ ws. bearing_index s.outgoing ws) row ∙ cond-true (eqb s.outgoing s.outgoing) (Some w) (bearing_index s.outgoing (ascending after)) own,
        ap (λ ws. without_index s.outgoing ws) row ∙ cond-true (eqb s.outgoing s.outgoing) (ascending after) (w ∷ without_index s.outgoing (ascending after)) own,
      )

  -- a poll keeps the line
  pub poll_sound : (s after : Ordered M O R) (post : List ℕ) → Kept b Inv labels s → after ≡ (outcome b full post s).set → Kept b Inv labels after
  poll_sound s after post k is =
      let turn = poll_turn b full no_ticket no_ticket Inv labels labels k.tickets k.flips post s k.deque k.lined in
      record {
        tickets = k.tickets;
        flips = k.flips;
        deque = taken_by (outcome b full post s).answer.poll k.deque;
        lined = subst (λ u. Lined no_ticket Inv labels u (taken_by (outcome b full post s).answer.poll k.deque)) (sym is) turn.lined;
      }

  -- what waited and was next in turn is yielded
  pub yields_parked : (s h after : Ordered M O R) (post : List ℕ) (x : O) (rest : List (OrderWrapper O)) → h ≡ housekept b full s
      → bearing_index h.outgoing h.parked ≡ Some (pair h.outgoing x) → without_index h.outgoing h.parked ≡ rest
      → after ≡ record { below = h.below; parked = rest; places = h.places; incoming = h.incoming; outgoing = index_raised h.outgoing; beyond = h.beyond }
      → (record { poll = Ready (Some x); notices = 0; turns = 0 } ≡ (outcome b full post s).answer) × (after ≡ (outcome b full post s).set)
  yields_parked s h after post x rest is bears others to =
      let e : polled_by_turn b full post h ≡ from_parked b full post h (Some (pair h.outgoing x)) = ap (λ o. from_parked b full post h o) bears in
      let t : outcome b full post s ≡ polled_by_turn b full post h = ap (λ u. polled_by_turn b full post u) (sym is) in
      let all : outcome b full post s ≡ from_parked b full post h (Some (pair h.outgoing x)) = t ∙ e in (
        sym (ap (λ (o : Outcome M O R). o.answer) all),
        to ∙ ap (λ ws. let u : Ordered M O R = record { below = h.below; parked = ws; places = h.places; incoming = h.incoming; outgoing = index_raised h.outgoing; beyond = h.beyond } in u) (sym others)
            ∙ ap (λ (o : Outcome M O R). o.set) (sym all),
      )

  pub polls_tasks : (s h t : Ordered M O R) (post : List ℕ) → h ≡ housekept b full s → t ≡ h → bearing_index h.outgoing h.parked ≡ None
      → outcome b full post s ≡ from_parked b full post t None
  polls_tasks s h t post is same none =
      ap (λ u. polled_by_turn b full post u) (sym is) ∙ ap (λ o. from_parked b full post h o) none ∙ ap (λ u. from_parked b full post u None) (sym same)

  -- every call keeps the line
  pub call_sound : (s after : Ordered M O R) (c : Call (Pushing F) Q) → Kept b Inv labels s → after ≡ (step b full s c).0 → Kept b Inv labels after
  call_sound s after c k is =
      let d : List (ℕ × ℕ) = fed no_ticket k.deque (entry (step b full) s c) in
      record {
        tickets = k.tickets;
        flips = k.flips;
        deque = d;
        lined = subst (λ u. Lined no_ticket Inv labels u d) (sym is) (line_step b full no_ticket no_ticket Inv labels labels k.tickets k.flips s k.deque c k.lined);
      }
