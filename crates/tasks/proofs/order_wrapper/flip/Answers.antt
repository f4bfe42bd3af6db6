use Rattle.std.proofs.Common.{◌≡◌, ℕ, ◌+◌, ◌-◌, ◌*◌, ◌^◌, ◌<◌, ◌≤◌, sym, ap, ◌∙◌, ⊎_elim, arith}
use lib.Bits.{bit_xor, xor_block, xor_zero_r}
use Rattle.std.proofs.lemmas.Bool.{cases_lt}
use Rattle.tasks.proofs.order_wrapper.flip.Goals as goal
use Rattle.tasks.specs.Orders.{index_flipped}

low : (i : ℕ) → i < 2 ^ 63 → bit_xor i (2 ^ 63) ≡ index_flipped i
low i lt =
    let x : bit_xor (0 * 2 ^ 63 + i) (1 * 2 ^ 63 + 0) ≡ bit_xor 0 1 * 2 ^ 63 + bit_xor i 0 = xor_block 63 0 1 i 0 lt (omega arith) in
    let a : 0 * 2 ^ 63 + i ≡ i = omega arith in
    let f : index_flipped i ≡ i + 2 ^ 63 = omega arith in
    ap (λ n. bit_xor n (2 ^ 63)) (sym a) ∙ x ∙ (let z = xor_zero_r i in omega (arith, z, f))

high : (i : ℕ) → 2 ^ 63 ≤ i → i < 2 ^ 64 → bit_xor i (2 ^ 63) ≡ index_flipped i
high i le lt =
    let r : ℕ = i - 2 ^ 63 in
    let x : bit_xor (1 * 2 ^ 63 + r) (1 * 2 ^ 63 + 0) ≡ bit_xor 1 1 * 2 ^ 63 + bit_xor r 0 = xor_block 63 1 1 r 0 (omega arith) (omega arith) in
    let a : 1 * 2 ^ 63 + r ≡ i = omega arith in
    let f : index_flipped i ≡ r = omega arith in
    ap (λ n. bit_xor n (2 ^ 63)) (sym a) ∙ x ∙ (let z = xor_zero_r r in omega (arith, z, f))

pub returns : goal.returns
returns c = ⊎_elim (λ lt. low c.args.index lt) (λ le. high c.args.index le (omega arith)) (cases_lt c.args.index (2 ^ 63))
