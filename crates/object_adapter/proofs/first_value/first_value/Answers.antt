use Rattle.std.proofs.Common.{[], Option, None, codes, refl, sym, subst}
use Rattle.ice_types.specs.declared.declarations.OpDecl.{OpDecl}
use Rattle.ice_encoding.specs.Graph.{Graph}
use Rattle.ice_encoding.specs.TypedGraph.{OfType}
use Rattle.value_parts.specs.Shapes.{told_apart}
use Rattle.object_adapter.specs.FirstValue.{HoldsZeros}
use Rattle.object_adapter.proofs.Zeros.{kind_fits, op_fits, zeros_typed}
use Rattle.object_adapter.proofs.first_value.first_value.Goals as goal

pub zeros-requires : goal.zeros-requires
zeros-requires c =
    let fits = op_fits c.args.schema.now c.rules.ensures c.args.interface (codes "put") c.in-Some.op.now (sym c.in-Some.ensures) in
    kind_fits c.args.schema.now c.rules.ensures c.in-Some.op.now.arguments c.in-Some-put_type.kind fits.0 c.in-Some-put_type.ensures.2

pub written-requires : goal.written-requires
written-requires c =
    let t = c.args.schema.now in
    let kind = c.in-Some-put_type.kind in
    let fits = op_fits t c.rules.ensures c.args.interface (codes "put") c.in-Some.op.now (sym c.in-Some.ensures) in
    let is = kind_fits t c.rules.ensures c.in-Some.op.now.arguments kind fits.0 c.in-Some-put_type.ensures.2 in
    subst (λ (g : Graph). OfType t (told_apart c.in-Some.op.now.arguments) g) (sym c.in_ok-values-in-Some-put_type.ensures)
    (zeros_typed t c.in-Some.op.now.arguments kind c.in-Some-put_type.ensures.2 (c.zeros_have_types.ensures.inside t kind [] c.rules.ensures is))

pub returns-in-None : goal.returns-in-None
returns-in-None c =
    subst (λ (put : Option OpDecl). HoldsZeros c.args.schema.now put None) c.in-Some.ensures
    (λ kind is. absurd (c.in-None.ensures kind is), λ none. refl)
