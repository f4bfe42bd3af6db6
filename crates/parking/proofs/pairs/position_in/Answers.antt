use Rattle.std.proofs.Common.{◌≡◌, suc, rules}
use borrow.Author.Tests.{tests}
use Rattle.parking.proofs.PairsHeld.{found_at}
use Rattle.parking.proofs.pairs.position_in.Goals as goal
use Rattle.parking.specs.Places.{place_rank, index_of}
use Rattle.std.proofs.lemmas.Iterator.{IsFirst-from_position, YieldsList-from_slice}

pub returns : goal.returns
returns g c =
    let ps = c.args.places.now in
    let i = c.args.index in
    found_at ps i c.position.result (IsFirst-from_position _ _ _ (λ p. place_rank index_of p ≡ suc i) (λ p. place_rank index_of p ≡ suc i → ⊥) c.position.ensures.ran (YieldsList-from_slice ps cc) (λ x q k. search (rules, tests)) (λ x q k. search (rules, tests)))
