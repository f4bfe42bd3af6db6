-- A poll of an ordered set by its rounds: each polls the set below once.
use Rattle.std.specs.Prelude.{ℕ, cond, List, Some, None, Option, ◌==◌}
use Rattle.std.specs.Option.{option_map}
use Rattle.ordered.specs.Below.{Below}
use Rattle.ordered.specs.Ordered.{Ordered, with_below, parked_with}
use Rattle.tasks.specs.Orders.{index_raised}
use Rattle.tasks.specs.declared.order_wrapper.OrderWrapper.{OrderWrapper}
use Rattle.tasks.specs.declared.poll.Poll.{Poll}
use Rattle.tasks.specs.declared.poll.Poll.TheVariants.{Ready, Pending}

-- An output is yielded if it is next in turn, and parked otherwise.
abbrev pub yielded : {S O R : Type 0} → Ordered S O R → OrderWrapper O → Option O
yielded s w = cond (w.index == s.outgoing) (Some w.«data») None

abbrev pub settled : {S O R : Type 0} → Ordered S O R → OrderWrapper O → Ordered S O R
settled s w = record {
  below = s.below;
  parked = cond (w.index == s.outgoing) s.parked (parked_with w s.parked);
  places = s.places;
  incoming = s.incoming;
  outgoing = cond (w.index == s.outgoing) (index_raised s.outgoing) s.outgoing;
  beyond = s.beyond;
}

-- What a round ends the poll with; nothing where an output was parked, and the poll goes on.
abbrev pub round_by : {S O R : Type 0} → Ordered S O R → Poll (Option (OrderWrapper O)) → Option (Poll (Option O))
round_by s Pending = Some Pending
round_by s (Ready None) = Some (Ready None)
round_by s (Ready (Some w)) = option_map (λ x. Ready (Some x)) (yielded s w)

abbrev pub set_by : {S O R : Type 0} → Ordered S O R → Poll (Option (OrderWrapper O)) → Ordered S O R
set_by s Pending = s
set_by s (Ready None) = s
set_by s (Ready (Some w)) = settled s w

module _ {S Q F O R : Type 0} (b : Below S Q F O) (post : List ℕ) where
  abbrev pub polled_below : Ordered S O R → Ordered S O R
  polled_below s = with_below s (b.kind.polled s.below post)

  abbrev pub round_of : Ordered S O R → Option (Poll (Option O))
  round_of s = round_by (polled_below s) (b.kind.yields s.below post).poll

  abbrev pub set_of_round : Ordered S O R → Ordered S O R
  set_of_round s = set_by (polled_below s) (b.kind.yields s.below post).poll
