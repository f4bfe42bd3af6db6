use Rattle.std.proofs.Common.{◌≡◌, ◌-◌, ◌≤◌, List, ◌++◌, drop, length, take, is_some, Option, sym, ap, ◌∙◌, subst, arith}
use Rattle.parking.proofs.HeapParts.{Gave, gave_it, taken_out, filled_fewer}
use Rattle.parking.proofs.rank_heap.RankHeap.take_at.Goals as goal
use Rattle.parking.specs.Heaps.{Heaped}
use Rattle.parking.specs.Held.{Held, used}
use Rattle.parking.specs.Places.{place_rank, entries_in, Filled}
use Rattle.std.proofs.lemmas.List.{length-take-le}

pub invariant_of-self : goal.invariant_of-self
invariant_of-self g c =
    let h = c.args.self.now in
    record {
      within = h.within;
      cut = h.cut;
      few = omega (arith, h.few);
      holding = filled_fewer h.memory.now (h.count - 1) h.count (omega arith) h.holding;
    }

pub invariant_of-self-2 : goal.invariant_of-self-2
invariant_of-self-2 g c =
    let h = c.args.self.now in
    let xs = h.memory.now in
    let ys = c.move_to_end.new.entries in
    let t = taken_out h c.move_to_end.result ys (omega (arith, c.requires)) c.move_to_end.ensures.same c.move_to_end.ensures.last in
    record {
      within = subst (λ n. h.places ≤ n) (sym t.part.long) h.within;
      cut = h.cut;
      few = omega (arith, h.few);
      holding = subst (λ l. Filled l) (sym t.front) t.filled;
    }

pub unwrap-requires : goal.unwrap-requires
unwrap-requires g c =
    let h = c.args.self.now in
    let t = taken_out h c.move_to_end.result c.move_to_end.new.entries (omega (arith, c.requires)) c.move_to_end.ensures.same c.move_to_end.ensures.last in
    ap is_some t.gave.is

pub returns-clause-bag : goal.returns-clause-bag
returns-clause-bag g c =
    let h = c.args.self.now in
    let t = taken_out h c.move_to_end.result c.move_to_end.new.entries (omega (arith, c.requires)) c.move_to_end.ensures.same c.move_to_end.ensures.last in
    gave_it (entries_in (used h)) _ c.move_to_end.result c.unwrap.result (subst (λ l. Gave (entries_in (used h)) c.move_to_end.result (entries_in l)) (sym t.front) t.gave) c.unwrap.ensures

pub returns-clause-rest : goal.returns-clause-rest
returns-clause-rest g c =
    let h = c.args.self.now in
    let t = taken_out h c.move_to_end.result c.move_to_end.new.entries (omega (arith, c.requires)) c.move_to_end.ensures.same c.move_to_end.ensures.last in
    ap (λ (l : List (Option g.row.E.Denot)). let k : Held g.row.E.Denot = record { bag = entries_in (take (h.count - 1) (c.move_to_end.new.entries ++ drop h.count h.memory.now)); places = h.places; beyond = l } in k) t.part.beyond

pub returns-clause-order : goal.returns-clause-order
returns-clause-order g c =
    let h = c.args.self.now in
    let xs = h.memory.now in
    let ys = c.move_to_end.new.entries in
    let t = taken_out h c.move_to_end.result ys (omega (arith, c.requires)) c.move_to_end.ensures.same c.move_to_end.ensures.last in
    let last : length (take h.count xs) - 1 ≡ h.count - 1 = omega (arith, length-take-le h.count xs (omega (arith, h.within, h.few))) in
    λ order. subst (λ l. Heaped (place_rank g.E.Rank.rank) l) (ap (λ n. take n ys) last ∙ sym t.front) (c.move_to_end.ensures.order order)
