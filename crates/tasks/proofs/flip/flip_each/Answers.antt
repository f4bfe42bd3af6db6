use Rattle.std.proofs.Common.{◌++◌, map, drop, set, sym, ap, ◌∙◌, arith}
use Rattle.std.proofs.lemmas.List.Edits.{map_over_more}
use Rattle.std.proofs.lemmas.List.{take_all, drop_all, append-nil}
use Rattle.tasks.proofs.flip.flip_each.Goals as goal

pub loop-value-preserved : goal.loop-value-preserved
loop-value-preserved g c =
    let f = g.T.Flip.flipped in
    let ys = c.loop-value.values in
    let i = c.loop-value.value-index in
    let x = c.value-item.result in
    ap (set ys i) c.flipped.ensures
    ∙ ap (λ y. set ys i (f y)) (sym c.value-item.is)
    ∙ map_over_more f c.args.values.now ys i x (omega arith) c.loop-value.invariant c.value-item.is

pub returns : goal.returns
returns g c =
    let xs = c.args.values.now in
    let f = g.T.Flip.flipped in
    let i = c.loop-value.value-index in
    c.loop-value.invariant ∙ ap (λ l. map f l ++ drop i xs) (take_all i xs c.loop-value-test.false) ∙ ap (λ l. map f xs ++ l) (drop_all i xs c.loop-value-test.false) ∙ append-nil (map f xs)
