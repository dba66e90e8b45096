use Rattle.ice_types.specs.declared.kind.TypeRef.TheVariants as kinds
use Rattle.canonical_inputs.proofs.Places.{class_put, kind_put, canonical_found}
use Rattle.canonical_inputs.proofs.member.pass_value.Goals as goal

pub returns-in-Class-clause-put : goal.returns-in-Class-clause-put
returns-in-Class-clause-put c =
    class_put c.args.schema.now c.args.needs.now.items c.pass_place.new.needs.items c.args.bytes.now c.args.kind c.in-Class.declared c.pass_place.result c.in-Class.is c.pass_place.ensures.put

pub returns-in-Class-element-clause-put : goal.returns-in-Class-element-clause-put
returns-in-Class-element-clause-put c =
    kind_put c.args.schema.now c.args.needs.now.items c.pass_places.new.needs.items c.args.bytes.now c.args.kind (kinds.Seq c.in-Seq.place) c.pass_places.result c.in-Seq.is c.pass_places.ensures.put

pub returns-in_default-element : goal.returns-in_default-element
returns-in_default-element c = record {
  within = c.pass_plain.ensures.within;
  put = kind_put c.args.schema.now c.args.needs.now.items c.args.needs.now.items c.args.bytes.now c.args.kind (kinds.Seq c.in-Seq.place) c.pass_plain.result c.in-Seq.is
      (canonical_found c.args.schema.now (kinds.Seq c.in-Seq.place) c.args.needs.now.items c.args.bytes.now c.pass_plain.result c.pass_plain.ensures.canonical);
}

pub returns-in_default : goal.returns-in_default
returns-in_default c = record {
  within = c.pass_plain-in_default.ensures.within;
  put = canonical_found c.args.schema.now c.args.kind c.args.needs.now.items c.args.bytes.now c.pass_plain-in_default.result c.pass_plain-in_default.ensures.canonical;
}
