use Rattle.std.proofs.Common.{◌≡◌, ◌<◌, length, sym, ◌∙◌, subst, arith, ltb-true}
use Rattle.parking.proofs.Ranks.{ranks_swapped}
use Rattle.parking.proofs.Sifts.{sinks}
use Rattle.parking.proofs.heap.sift_down.Goals as goal
use Rattle.parking.specs.Heaps.{rank_at, ButBelow}
use Rattle.std.proofs.lemmas.List.Sorted.{IsPermutation-trans}

pub loop-i-preserved : goal.loop-i-preserved
loop-i-preserved g c =
    let i = c.loop-i.i in
    let d = c.least_child-child.result in
    let r = rank_at g.T.Rank.rank c.loop-i.entries in
    let q = rank_at g.T.Rank.rank c.swap.new.self in
    let a : i < length c.loop-i.entries = omega arith in
    let b : d < length c.loop-i.entries = c.least_child-child.ensures.within in
    let down : r d < r i = ltb-true (r d) (r i) (sym c.ranks_below.ensures ∙ c.if-not-ranks_below.false) in
    let n : length c.loop-i.entries ≡ length c.swap.new.self = sym c.swap.ensures.len in (
      λ order.
          subst (λ m. ButBelow q m d) n
          (sinks r q (length c.loop-i.entries) i d c.least_child-child.ensures (ranks_swapped g.T.Rank.rank c.loop-i.entries c.swap.new.self i d a b c.swap.ensures.after) (c.loop-i.invariant.0 order) down),
      IsPermutation-trans c.args.entries.now c.loop-i.entries c.swap.new.self c.loop-i.invariant.1 c.swap.ensures.permutation,
    )
