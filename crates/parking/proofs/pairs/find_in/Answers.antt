use Rattle.std.proofs.Common.{Some, sym, ap, ◌∙◌, arith}
use Rattle.parking.proofs.PairsHeld.{first_read}
use Rattle.parking.proofs.Sifts.{least_first}
use Rattle.parking.proofs.pairs.find_in.Goals as goal
use Rattle.parking.specs.Heaps.{rank_at}
use Rattle.parking.specs.Places.{place_rank, index_of}
use Rattle.std.specs.Option.{option_copied}

pub returns-then-index-least : goal.returns-then-index-least
returns-then-index-least g c = λ k lt e.
    let ps = c.args.places.now in
    let f = c.in-Some-Some in
    let first = first_read ps f.least (sym c.first.ensures.value ∙ ap option_copied f.is ∙ ap (λ p. Some p) f.field-0-is) in
    omega (arith, e, first, c.if-index-least.true, least_first (rank_at (place_rank index_of) ps) _ c.requires k lt)
