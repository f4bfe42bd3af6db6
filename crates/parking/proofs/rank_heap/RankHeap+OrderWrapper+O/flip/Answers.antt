use Rattle.std.proofs.Common.{◌≤◌, List, ◌++◌, drop, map, take, Option, sym, ap, subst}
use Rattle.parking.proofs.PairsHeld.{flipped_in}
use Rattle.parking.proofs.rank_heap.RankHeap+OrderWrapper+O.flip.Goals as goal
use Rattle.parking.specs.Heaps.{Heaped}
use Rattle.parking.specs.Held.{Held, used}
use Rattle.parking.specs.Places.{place_rank, index_of, entries_in, Filled}
use Rattle.std.specs.List.Sorted.{IsPermutation}
use Rattle.tasks.specs.Orders.{wrapper_flipped}
use Rattle.tasks.specs.declared.order_wrapper.OrderWrapper.{OrderWrapper}

pub invariant_of-self : goal.invariant_of-self
invariant_of-self g c =
    let h = c.args.self.now in
    let f = flipped_in h c.flip_in.new.places c.flip_in.ensures.same in
    record {
      within = subst (λ n. h.places ≤ n) (sym f.part.long) h.within;
      cut = h.cut;
      few = h.few;
      holding = subst (λ l. Filled l) (sym f.part.used) f.filled;
    }

pub returns-clause-bag : goal.returns-clause-bag
returns-clause-bag g c =
    let h = c.args.self.now in
    let f = flipped_in h c.flip_in.new.places c.flip_in.ensures.same in
    subst (λ l. IsPermutation (map wrapper_flipped (entries_in (used h))) (entries_in l)) (sym f.part.used) f.bag

pub returns-clause-rest : goal.returns-clause-rest
returns-clause-rest g c =
    let h = c.args.self.now in
    let f = flipped_in h c.flip_in.new.places c.flip_in.ensures.same in
    ap (λ (l : List (Option (OrderWrapper g.row.O.Denot))). let k : Held (OrderWrapper g.row.O.Denot) = record { bag = entries_in (take h.count (c.flip_in.new.places ++ drop h.count h.memory.now)); places = h.places; beyond = l } in k) f.part.beyond

pub returns-clause-order : goal.returns-clause-order
returns-clause-order g c =
    let h = c.args.self.now in
    let f = flipped_in h c.flip_in.new.places c.flip_in.ensures.same in
    subst (λ l. Heaped (place_rank index_of) l) (sym f.part.used) c.flip_in.ensures.order
