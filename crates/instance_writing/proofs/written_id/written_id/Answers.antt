use Rattle.std.proofs.Common.{ap, sym, ◌∙◌}
use Rattle.std.specs.Prelude.{slice_get}
use Rattle.ice_encoding.specs.CanonicalGraph as spec
use Rattle.graph_arena.specs.Seen.{view_slice}
use Rattle.value_parts.specs.SlicedType.{rows_of}
use Rattle.instance_writing.proofs.WrittenIds.{number_of_row, text_of_row, number_told, type_id_told}
use Rattle.instance_writing.proofs.written_id.written_id.Goals as goal

pub returns-in-Some : goal.returns-in-Some
returns-in-Some c =
    let t = c.args.schema.now in
    let u = rows_of c.args.sort t in
    let number = sym c.in-Some.is ∙ c.compact_of.ensures in
    record {
      id = number_of_row (slice_get u.classes c.in-Known.class) c.in-Some.number number ∙ ap (λ s. spec.written_id u (view_slice s)) (sym c.in-Known.is);
      told = number_told c.args.sort t c.rules.ensures c.in-Known.class c.in-Some.number number;
    }

pub returns-in-None : goal.returns-in-None
returns-in-None c =
    let t = c.args.schema.now in
    let u = rows_of c.args.sort t in
    record {
      id = c.id_of.ensures ∙ text_of_row (slice_get u.classes c.in-Known.class) (sym c.in-None.is ∙ c.compact_of.ensures) ∙ ap (λ s. spec.written_id u (view_slice s)) (sym c.in-Known.is);
      told = type_id_told c.args.sort t c.rules.ensures c.in-Known.class c.id_of.result c.id_of.ensures;
    }
