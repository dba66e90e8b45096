use Rattle.std.proofs.Common.{◌≡◌, ℕ, suc, ◌-◌, None, refl, sym, ap, ◌∙◌, arith}
use Rattle.std.specs.Prelude.{Bool, ◌∷◌, [], filter, option_map}
use Rattle.slice_meaning.specs.Names.{Declared}
use Rattle.slice_meaning.specs.Meaning.{is_undefined}
use Rattle.slice_meaning.specs.Checking.{earlier}
use Rattle.slice_meaning.specs.Numbers.{declared_at}
use Rattle.slice_meaning.specs.Numbers.{stands_at}
use Rattle.slice_faults.specs.Held.{known_of}
use Rattle.slice_faults.proofs.Earliest.{up_to, up_to_all, up_to_none, next, earlier_next}
use Rattle.slice_faults.proofs.undefined.first_undefined.Goals as goal

pub loop-number-init : goal.loop-number-init
loop-number-init c =
    let k = known_of c.args.known.now in
    let n = c.len-number.result in
    (None, refl, omega (arith, c.len-number.ensures), ap (λ ds. earlier None (filter (is_undefined k.tables) ds)) (up_to_all k.declared n (omega (arith, c.len-number.ensures))))

pub loop-number-preserved : goal.loop-number-preserved
loop-number-preserved c =
    let k = known_of c.args.known.now in
    let so = c.loop-number.invariant in
    let n : ℕ = c.loop-number.number - 1 in
    let is : c.loop-number.number ≡ suc n = omega (arith, c.loop-number-test.true) in
    let r = next k.declared n (omega (arith, so.2)) in
    let at = ap (declared_at k.declared) is ∙ r.at in
    let undefined : Declared → Bool = is_undefined k.tables in
    let e = earlier so.0 (filter undefined (r.declared ∷ [])) in (
      e,
      c.with_class-first.ensures so.0 r.declared at so.1,
      omega (arith, so.2),
      earlier_next undefined k.declared n r.declared so.0 _ r.first (sym (ap (λ m. earlier so.0 (filter undefined (up_to k.declared m))) is) ∙ so.3),
    )

pub returns : goal.returns
returns c =
    let k = known_of c.args.known.now in
    let so = c.loop-number.invariant in
    so.1 ∙ ap (option_map stands_at) (sym (ap (λ ds. earlier so.0 (filter (is_undefined k.tables) ds)) (up_to_none k.declared c.loop-number.number c.loop-number-test.false)) ∙ so.3)
