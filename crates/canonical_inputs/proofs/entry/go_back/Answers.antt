use Rattle.std.proofs.Common.{arith, ◌≡◌, ℕ, List, Some, length, refl, subst}
use Rattle.std.specs.Prelude.{slice_get}
use Rattle.std.proofs.lemmas.Option.{slice_get_read, slice_get_within}
use Rattle.canonical_inputs.specs.Looks.{IsNext}
use Rattle.canonical_inputs.proofs.Looked.{gone_back}
use Rattle.canonical_inputs.proofs.entry.go_back.Goals as goal

pub overflow_add-frame : goal.overflow_add-frame
overflow_add-frame c =
    let f = c.args.frame.now in
    let next : IsNext c.args.schema.now f c.args.name c.in-Some.class.now = c.is_next.ensures c.if-not-is_next.false in
    omega (arith, slice_get_within f.needs.items f.next next.need next.there)

pub returns : goal.returns
returns c =
    let lookup = c.in-Some.ensures.lookup in
    let class = c.in-Some.class.now in
    let there : slice_get c.args.met.now.classes.items c.args.name ≡ Some class =
    subst (λ (l : List ℕ). slice_get l c.args.name ≡ Some class) c.deref.ensures.value (slice_get_read c.deref.result.now (length c.deref.result.now) c.args.name class refl lookup.3.0 lookup.1) in
    gone_back c.args.schema.now c.args.input.now c.args.at c.args.end c.args.name c.in-Some.class.now c.args.met.now c.args.frame.now c.requires there (c.is_next.ensures c.if-not-is_next.false)
