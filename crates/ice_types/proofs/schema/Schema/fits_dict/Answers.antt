use Rattle.std.proofs.Common.{◌≡◌, ◌∙◌, None, Some, sym}
use Rattle.ice_types.proofs.StructSizes.{dict_fits_is}
use Rattle.ice_types.proofs.schema.Schema.fits_dict.Goals as goal

pub returns-then-found : goal.returns-then-found
returns-then-found c =
    dict_fits_is c.args.self.now c.args.key c.args.value c.in-Some.found (sym c.in-Some.ensures.found) c.if-found.true c.measure_within-then-found.result c.measure_within-then-found.ensures.found
    c.is_some.result c.is_some.ensures

pub returns-in-None : goal.returns-in-None
returns-in-None c = (λ h. absurd cc, λ fit. let clash : None ≡ Some fit.0 = c.in-None.ensures.found ∙ fit.2 in absurd cc)
