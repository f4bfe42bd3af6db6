use Rattle.std.proofs.Common.{◌+◌, ◌-◌, ◌/◌, ◌<◌, length, sym, refl, ◌∙◌, arith, ltb-true}
use Rattle.parking.proofs.Ranks.{ranks_swapped}
use Rattle.parking.proofs.Sifts.{rises}
use Rattle.parking.proofs.heap.sift_up.Goals as goal
use Rattle.parking.specs.Heaps.{rank_at}
use Rattle.std.proofs.lemmas.List.Sorted.{IsPermutation-trans}

pub loop-i-preserved : goal.loop-i-preserved
loop-i-preserved g c =
    let i = c.loop-i.i in
    let p = (c.loop-i.i - 1) / 2 in
    let r = rank_at g.T.Rank.rank c.loop-i.entries in
    let q = rank_at g.T.Rank.rank c.swap.new.self in
    let a : i < length c.loop-i.entries = omega arith in
    let b : p < length c.loop-i.entries = omega arith in
    let up : r i < r p = ltb-true (r i) (r p) (sym c.ranks_below.ensures ∙ c.if-not-ranks_below.false) in (
      omega arith,
      λ order. rises r q (c.args.at + 1) i p (omega arith) refl (ranks_swapped g.T.Rank.rank c.loop-i.entries c.swap.new.self i p a b c.swap.ensures.after) (c.loop-i.invariant.1 order) up,
      IsPermutation-trans c.args.entries.now c.loop-i.entries c.swap.new.self c.loop-i.invariant.2 c.swap.ensures.permutation,
    )
