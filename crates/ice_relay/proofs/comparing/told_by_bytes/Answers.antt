use Rattle.std.proofs.Common.{rules, arith, codes, ◌≡◌, ◌-◌, length, take, drop, true, false}
use Rattle.std.proofs.lemmas.Bool.Decides.{Decides-eqb}
use Rattle.std.proofs.lemmas.Slice.Eq.{slice_eq-Decides}
use Rattle.ice_relay.proofs.OwnForms.{compared_same, compared_different}
use Rattle.ice_relay.proofs.comparing.told_by_bytes.Goals as goal

pub returns-then-eq : goal.returns-then-eq
returns-then-eq c =
    let input = c.args.input.now in
    let n = c.in_ok-length.length in
    let test = slice_eq-Decides Decides-eqb (take n input) (take (length input - n) (drop n input)) c.eq.result c.eq.ensures in
    compared_same c.args.schema.now c.args.kind input n c.rules.ensures (λ i. omega (arith, c.type_inv.input i)) (c.is_canonical_input.ensures (search rules) (codes "$value")) (test.0 c.if-eq.true)

pub returns-then-is_canonical_input : goal.returns-then-is_canonical_input
returns-then-is_canonical_input c =
    let input = c.args.input.now in
    let n = c.in_ok-length.length in
    let test = slice_eq-Decides Decides-eqb (take n input) (take (length input - n) (drop n input)) c.eq.result c.eq.ensures in
    let unlike : c.eq.result ≡ false = c.if-eq.false in
    compared_different c.args.schema.now c.args.kind input n c.rules.ensures (λ i. omega (arith, c.type_inv.input i)) (c.is_canonical_input.ensures (search rules) (codes "$value"))
    (c.is_canonical_input-else-eq.ensures (search rules) (codes "$value")) (λ e. let alike : c.eq.result ≡ true = test.1 e in cc)
