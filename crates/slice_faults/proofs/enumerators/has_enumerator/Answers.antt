use Rattle.std.proofs.Common.{length, refl, sym, ap, ◌∙◌}
use Rattle.std.specs.Prelude.{slice_get}
use Rattle.std.proofs.lemmas.Option.{slice_get_read, slice_get_past}
use Rattle.slice_faults.proofs.Beside.{held_some, held_none}
use Rattle.slice_faults.proofs.enumerators.has_enumerator.Goals as goal

pub returns-in-Some : goal.returns-in-Some
returns-in-Some c =
    let k = c.args.known.now in
    let sets = c.deref.result.now in
    let got = ap (λ l. slice_get l c.args.at) (sym c.deref.ensures.value)
    ∙ slice_get_read sets (length sets) c.args.at c.in-Some.names.now refl c.in-Some.ensures.lookup.3.0 c.in-Some.ensures.lookup.1 in
    c.contains.ensures ∙ (held_some k.enumerators.items c.args.at c.in-Some.names.now c.args.name.now got ∙ k.held.1 c.args.at c.args.name.now)

pub returns-in-None : goal.returns-in-None
returns-in-None c =
    let k = c.args.known.now in
    let sets = c.deref.result.now in
    let got = ap (λ l. slice_get l c.args.at) (sym c.deref.ensures.value) ∙ slice_get_past sets c.args.at c.in-None.ensures.lookup.3 in
    held_none k.enumerators.items c.args.at c.args.name.now got ∙ k.held.1 c.args.at c.args.name.now
