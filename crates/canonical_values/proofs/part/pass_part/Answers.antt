use Rattle.std.proofs.Common.{arith, ◌≡◌, ◌-◌, ℕ, List, suc, sym, subst}
use Rattle.std.proofs.lemmas.List.{take_rest}
use Rattle.ice_types.specs.declared.kind.TypeRef.{TypeRef}
use Rattle.ice_types.specs.declared.kind.TypeRef.TheVariants as kinds
use Rattle.ice_types.specs.Tables.{Tables}
use Rattle.canonical_values.specs.declared.frame.Part.{Part}
use Rattle.canonical_values.specs.Frames.{PartFound}
use Rattle.canonical_values.proofs.Joined.{leaf_part}
use Rattle.canonical_values.proofs.part.pass_part.Goals as goal

of_kind : (t : Tables) (input : List ℕ) (levels at : ℕ) (kind other : TypeRef) (p : Part) → kind ≡ other → suc (levels - 1) ≡ levels → PartFound t input (suc (levels - 1)) other at p → PartFound t input levels kind at p
of_kind t input levels at kind other p is e h = subst (λ (k : TypeRef). PartFound t input levels k at p) (sym is) (subst (λ (n : ℕ). PartFound t input n other at p) e h)

pub returns-in-Seq : goal.returns-in-Seq
returns-in-Seq c = of_kind c.args.schema.now c.args.input.now c.args.levels c.args.at c.args.kind (kinds.Seq c.in-Seq.place) c.sequence.result c.in-Seq.is (omega arith) c.sequence.ensures

pub returns-in-Dict : goal.returns-in-Dict
returns-in-Dict c = of_kind c.args.schema.now c.args.input.now c.args.levels c.args.at c.args.kind (kinds.Dict c.in-Dict.place) c.dictionary.result c.in-Dict.is (omega arith) c.dictionary.ensures

pub returns-in-Struct : goal.returns-in-Struct
returns-in-Struct c =
    of_kind c.args.schema.now c.args.input.now c.args.levels c.args.at c.args.kind (kinds.Struct c.in-Struct.place) c.structure.result c.in-Struct.is (omega arith) (c.structure.ensures c.args.input.now (omega arith))

pub returns-in-Some : goal.returns-in-Some
returns-in-Some c =
    leaf_part c.args.schema.now c.args.input.now c.args.levels c.args.at c.in-Some.length c.args.kind (omega arith) (omega arith)
    (rw (take_rest c.args.input.now c.args.at) at c.in-Some.ensures.within) (rw (take_rest c.args.input.now c.args.at) at c.in-Some.ensures.stands)
