use Rattle.std.proofs.Common.{◌≡◌, ◌+◌, ◌-◌, ◌/◌, length, Some, set, arith, subst}
use Rattle.parking.proofs.Ranks.{rank_set_other}
use Rattle.parking.proofs.rank_heap.put_last.Goals as goal
use Rattle.parking.specs.Heaps.{rank_at, InOrder}
use Rattle.parking.specs.Places.{place_rank}
use Rattle.std.proofs.lemmas.List.{length-set}
use Rattle.std.proofs.lemmas.List.Sorted.{length_permutation}

pub returns-clause-order : goal.returns-clause-order
returns-clause-order g c = λ order.
    let xs = c.args.places.now in
    let last = length xs - 1 in
    let ys = set xs last (Some c.args.entry) in
    let r = place_rank g.E.Rank.rank in
    let long : last + 1 ≡ length c.sift_up.new.entries
    = omega (arith, c.requires, length-set xs last (Some c.args.entry), length_permutation ys c.sift_up.new.entries c.sift_up.ensures.same) in
    subst (λ n. InOrder (rank_at r c.sift_up.new.entries) n) long (
    c.sift_up.ensures.order
    (λ k lt.
    omega (
      arith,
      order k lt,
      rank_set_other r xs last (k / 2) (Some c.args.entry) (λ x. omega arith),
      rank_set_other r xs last (k + 1) (Some c.args.entry) (λ x. omega arith),
    ))
    )
