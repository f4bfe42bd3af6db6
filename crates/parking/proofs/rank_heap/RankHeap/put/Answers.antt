use Rattle.std.proofs.Common.{◌+◌, ◌≤◌, List, ◌∷◌, ◌++◌, drop, take, Option, sym, ap, subst, arith}
use Rattle.parking.proofs.HeapParts.{put_in, order_before}
use Rattle.parking.proofs.rank_heap.RankHeap.put.Goals as goal
use Rattle.parking.specs.Heaps.{Heaped}
use Rattle.parking.specs.Held.{Held, used}
use Rattle.parking.specs.Places.{place_rank, entries_in, Filled}
use Rattle.std.proofs.lemmas.List.{length-take-le}
use Rattle.std.specs.List.Sorted.{IsPermutation}

pub put_last-requires : goal.put_last-requires
put_last-requires g c =
    let h = c.args.self.now in
    omega (arith, length-take-le (h.count + 1) h.memory.now (omega (arith, c.requires, h.within)))

pub invariant_of-self : goal.invariant_of-self
invariant_of-self g c =
    let h = c.args.self.now in
    let p = put_in h c.args.entry c.put_last.new.places c.requires c.put_last.ensures.same in
    record {
      within = subst (λ n. h.places ≤ n) (sym p.part.long) h.within;
      cut = h.cut;
      few = omega (arith, c.requires);
      holding = subst (λ l. Filled l) (sym p.part.used) p.filled;
    }

pub returns-clause-bag : goal.returns-clause-bag
returns-clause-bag g c =
    let h = c.args.self.now in
    let p = put_in h c.args.entry c.put_last.new.places c.requires c.put_last.ensures.same in
    subst (λ l. IsPermutation (c.args.entry ∷ (entries_in (used h))) (entries_in l)) (sym p.part.used) p.bag

pub returns-clause-rest : goal.returns-clause-rest
returns-clause-rest g c =
    let h = c.args.self.now in
    let p = put_in h c.args.entry c.put_last.new.places c.requires c.put_last.ensures.same in
    ap (λ (l : List (Option g.row.E.Denot)). let k : Held g.row.E.Denot = record { bag = entries_in (take (h.count + 1) (c.put_last.new.places ++ drop (h.count + 1) h.memory.now)); places = h.places; beyond = l } in k) p.part.beyond

pub returns-clause-order : goal.returns-clause-order
returns-clause-order g c =
    let h = c.args.self.now in
    let p = put_in h c.args.entry c.put_last.new.places c.requires c.put_last.ensures.same in
    λ order. subst (λ l. Heaped (place_rank g.E.Rank.rank) l) (sym p.part.used) (c.put_last.ensures.order (order_before h g.E.Rank.rank order c.requires))
