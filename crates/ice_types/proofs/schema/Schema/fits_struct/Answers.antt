use Rattle.std.proofs.Common.{◌≢◌, [], sym, subst, ap, ◌∙◌, Bool}
use Rattle.std.specs.Prelude.{IsTrue, is_some, ◌↔◌}
use Rattle.ice_types.specs.Measures.{struct_of}
use Rattle.ice_types.specs.Fits.{small_members, StructFits}
use Rattle.ice_types.proofs.StructSizes.{fits_struct_is}
use Rattle.ice_types.proofs.schema.Schema.fits_struct.Goals as goal

pub returns-then-not-is_empty : goal.returns-then-not-is_empty
returns-then-not-is_empty c =
    let t = c.args.self.now in
    let members = c.args.members.now in
    let some : members ≢ [] = λ none. let empty = c.is_empty.ensures.1 none in absurd cc in
    let says = c.is_some.ensures ∙ ap is_some (c.measure_struct.ensures ∙ ap (λ ms. struct_of (small_members t ms)) c.as_slice.ensures) in
    subst (λ (b : Bool). IsTrue b ↔ StructFits t members) (sym says) (fits_struct_is t members some c.requires.names c.requires.required)
