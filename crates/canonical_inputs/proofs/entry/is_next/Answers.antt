use Rattle.std.proofs.Common.{◌≡◌, List, Option, ℕ, Some, length, refl, subst}
use Rattle.std.specs.Prelude.{slice_get}
use Rattle.std.proofs.lemmas.Option.{slice_get_read}
use Rattle.canonical_inputs.proofs.entry.is_next.Goals as goal

pub returns-in-Some : goal.returns-in-Some
returns-in-Some c = λ yes.
    let f = c.args.frame.now in
    let need = c.in-Some.need.now in
    let lookup = c.in-Some.ensures.lookup in
    let there : slice_get f.needs.items f.next ≡ Some need =
    subst (λ (l : List (Option ℕ)). slice_get l f.next ≡ Some need) c.deref.ensures.value (slice_get_read c.deref.result.now (length c.deref.result.now) f.next need refl lookup.3.0 lookup.1) in
    record { need = need; there = there; above = c.is_above.ensures c.if-is_above.true; fits = c.fits.ensures yes }
