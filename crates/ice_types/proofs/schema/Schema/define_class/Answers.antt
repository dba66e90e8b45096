use Rattle.std.proofs.Common.{◌<◌, length, arith, sym, subst}
use Rattle.std.specs.Option.{is_some}
use Rattle.std.proofs.lemmas.List.{length-map}
use Rattle.ice_types.specs.Tables.{Tables}
use Rattle.ice_types.specs.Ids.{class_in, room_in, row_in}
use Rattle.ice_types.proofs.Defined.{defined_class, filled_with, filled_without, room_for_one, view_class}
use Rattle.ice_types.proofs.schema.Schema.define_class.Goals as goal

pub put-requires-in-Some : goal.put-requires-in-Some
put-requires-in-Some c =
    room_for_one c.self.inside.rows c.fill_class.new.classes c.put.new.self c.args.self.now (row_in c.self.inside.ids) c.self.invariant.0 c.self.view_is (class_in c.self.inside.compact_ids) (room_in c.self.inside.compact_ids) c.self.invariant.1
    c.args.at c.args.base c.args.compact c.args.members (record { bases = c.class_bases_from-bases.result; far = c.far_base-far.result }) c.fill_class.ensures c.put.ensures c.requires.there c.requires.undefined

pub invariant_of-self : goal.invariant_of-self
invariant_of-self c = (
  defined_class c.self.inside.rows c.fill_class.new.classes c.put.new.self c.args.self.now (row_in c.self.inside.ids) c.self.invariant.0 c.self.view_is c.args.at c.args.base c.args.compact c.args.members (record { bases = c.class_bases_from-bases.result; far = c.far_base-far.result })
      c.fill_class.ensures c.put.ensures c.requires.there c.requires.undefined c.requires.fits c.requires.compact c.class_bases_from-bases.ensures.bases c.class_bases_from-bases.ensures.most c.far_base-far.ensures,
  filled_with c.self.inside.rows c.fill_class.new.classes c.put.new.self c.args.self.now (row_in c.self.inside.ids) c.self.invariant.0 c.self.view_is (class_in c.self.inside.compact_ids) (room_in c.self.inside.compact_ids) c.self.invariant.1
      c.args.at c.args.base c.args.compact c.args.members (record { bases = c.class_bases_from-bases.result; far = c.far_base-far.result }) c.fill_class.ensures c.put.ensures c.requires.there c.requires.undefined
      c.in-Some.number c.in-Some.is (class_in c.put-in-Some.new.self) (room_in c.put-in-Some.new.self) c.put-in-Some.ensures.put c.put-in-Some.ensures.room,
)

pub invariant_of-self-in_default : goal.invariant_of-self-in_default
invariant_of-self-in_default c = (
  defined_class c.self.inside.rows c.fill_class.new.classes c.put.new.self c.args.self.now (row_in c.self.inside.ids) c.self.invariant.0 c.self.view_is c.args.at c.args.base c.args.compact c.args.members (record { bases = c.class_bases_from-bases.result; far = c.far_base-far.result })
      c.fill_class.ensures c.put.ensures c.requires.there c.requires.undefined c.requires.fits c.requires.compact c.class_bases_from-bases.ensures.bases c.class_bases_from-bases.ensures.most c.far_base-far.ensures,
  filled_without c.self.inside.rows c.fill_class.new.classes c.put.new.self c.args.self.now (row_in c.self.inside.ids) c.self.invariant.0 c.self.view_is (class_in c.self.inside.compact_ids) (room_in c.self.inside.compact_ids) c.self.invariant.1
      c.args.at c.args.base c.args.compact c.args.members (record { bases = c.class_bases_from-bases.result; far = c.far_base-far.result }) c.fill_class.ensures c.put.ensures c.requires.there c.requires.undefined
      c.in_default.is,
)

pub returns-in-Some-clause-filled : goal.returns-in-Some-clause-filled
returns-in-Some-clause-filled c = sym (view_class c.self.inside.rows c.fill_class.new.classes c.put.new.self c.args.self.now c.self.view_is c.args.at c.args.base c.args.compact c.args.members (record { bases = c.class_bases_from-bases.result; far = c.far_base-far.result }) c.fill_class.ensures c.put.ensures)

pub returns-in-Some-clause-rules : goal.returns-in-Some-clause-rules
returns-in-Some-clause-rules c = (invariant_of-self c).0.kept.rules

pub returns-in_default-clause-filled : goal.returns-in_default-clause-filled
returns-in_default-clause-filled c = sym (view_class c.self.inside.rows c.fill_class.new.classes c.put.new.self c.args.self.now c.self.view_is c.args.at c.args.base c.args.compact c.args.members (record { bases = c.class_bases_from-bases.result; far = c.far_base-far.result }) c.fill_class.ensures c.put.ensures)

pub returns-in_default-clause-rules : goal.returns-in_default-clause-rules
returns-in_default-clause-rules c = (invariant_of-self-in_default c).0.kept.rules

pub fill_class-requires : goal.fill_class-requires
fill_class-requires c = subst (λ (t : Tables). c.args.at < length t.classes) (sym c.self.view_is) c.requires.there

pub put-requires : goal.put-requires
put-requires c =
    let rows = c.self.inside.rows.classes in
    let there : c.args.at < length rows.decls = subst (λ (t : Tables). c.args.at < length t.classes) (sym c.self.view_is) c.requires.there in
    omega (arith, there, length-map rows.beside is_some, c.self.invariant.0.kept.rules.class_flags)
