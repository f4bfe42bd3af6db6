use Rattle.std.proofs.Common.{◌≡◌, ◌-◌, length, take, sym, ap, ◌∙◌, subst, arith}
use Rattle.parking.proofs.Moves.{moved, first_out}
use Rattle.parking.proofs.Ranks.{rank_read}
use Rattle.parking.proofs.heap.move_to_end.Goals as goal
use Rattle.parking.specs.Heaps.{rank_at, ButBelow, Heaped}
use Rattle.std.proofs.lemmas.List.{length-take-le}
use Rattle.std.specs.List.{swap}

pub returns-then-at-eq0 : goal.returns-then-at-eq0
returns-then-at-eq0 g c =
    let xs = c.args.entries.now in
    let zs = c.swap.new.self in
    let last = length xs - 1 in
    let n : length (take last zs) ≡ last = length-take-le last zs (omega (arith, c.swap.ensures.len)) in
    let m = moved xs zs c.sift_down.new.entries c.args.at last (omega arith) c.requires c.swap.ensures.len c.swap.ensures.after c.swap.ensures.permutation c.sift_down.ensures.same in
    record {
      order = λ o.
          let first : ButBelow (rank_at g.T.Rank.rank (take last zs)) last 0
          = first_out g.T.Rank.rank xs zs last (omega arith) (c.swap.ensures.after ∙ ap (λ a. swap xs a last) c.if-at-eq0.true) o in
          subst (λ l. Heaped g.T.Rank.rank l) (sym m.front) (c.sift_down.ensures.order (subst (λ m. ButBelow (rank_at g.T.Rank.rank (take last zs)) m 0) (sym n) first));
      same = m.same;
      last = m.whole c.index-entries-at.result c.index-entries-at.is;
      rank = rank_read g.T.Rank.rank xs c.args.at c.index-entries-at.result c.requires c.index-entries-at.is;
    }

pub returns-else-at-eq0 : goal.returns-else-at-eq0
returns-else-at-eq0 g c =
    let xs = c.args.entries.now in
    let m = moved xs c.swap.new.self c.put_in_order.new.entries c.args.at (length xs - 1) (omega arith) c.requires c.swap.ensures.len c.swap.ensures.after c.swap.ensures.permutation c.put_in_order.ensures.same in
    record {
      order = λ o. subst (λ l. Heaped g.T.Rank.rank l) (sym m.front) c.put_in_order.ensures.order;
      same = m.same;
      last = m.whole c.index-entries-at.result c.index-entries-at.is;
      rank = rank_read g.T.Rank.rank xs c.args.at c.index-entries-at.result c.requires c.index-entries-at.is;
    }
