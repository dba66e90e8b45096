use Rattle.std.proofs.Common.{List, Option, None, [], ◌∷◌, ◌++◌, length, sym, ap, subst, ◌∙◌}
use Rattle.ice_types.specs.declared.declarations.Member.{Member}
use Rattle.ice_types.specs.declared.declarations.ClassDecl.{ClassDecl}
use Rattle.ice_types.specs.declared.rows.Above.{Above}
use Rattle.ice_types.specs.declared.rows.Rows.{Rows}
use Rattle.ice_types.specs.Tables.{Tables}
use Rattle.ice_types.specs.Kept.{beside_of, tables_of}
use Rattle.ice_types.specs.Ids.{IsHeld, row_in, AreNumbered, class_in, room_in}
use Rattle.ice_types.proofs.AddedRows.{added_class, view_class, numbered_class}
use Rattle.ice_types.proofs.CompactIds.{roomier}
use Rattle.ice_types.proofs.Told.{told, if_ok, on_err, held_same}
use Rattle.ice_types.proofs.schema.Schema.add_class.Goals as goal

pub invariant_of-self-2 : goal.invariant_of-self-2
invariant_of-self-2 c =
    let old = c.self.inside.rows in
    let was = row_in c.self.inside.ids in
    let now = row_in c.add_row.new.ids in (
      told c.add_row.result c.add_row.ensures.ok c.add_row.ensures.err
          (λ place is. added_class old c.add_row.new.rows c.args.self.now was now c.self.invariant.0 c.self.view_is c.args.id (is.1 ∙ ap (λ (members : List Member). old.classes.decls ++ record { id = c.args.id; base = None; compact = None; members = members } ∷ []) c.new.ensures) is.2 c.len-classes.result c.len-classes.ensures is.3
          c.requires.room c.requires.type_id c.requires.new_id)
          (λ same. subst (λ (after : Rows ClassDecl (Option Above)). IsHeld (tables_of (record old { classes = after })) (beside_of (record old { classes = after })) now) (sym same.0)
          (held_same (tables_of old) (beside_of old) was now same.1 c.self.invariant.0)),
      told c.add_row.result c.add_row.ensures.ok c.add_row.ensures.err
          (λ place is. numbered_class old c.add_row.new.rows c.args.self.now (class_in c.self.inside.compact_ids) (class_in c.make_room.new.self) (room_in c.self.inside.compact_ids) (room_in c.make_room.new.self) c.self.invariant.1
          c.self.view_is c.args.id (is.1 ∙ ap (λ (members : List Member). old.classes.decls ++ record { id = c.args.id; base = None; compact = None; members = members } ∷ []) c.new.ensures) is.2 c.len-classes.result c.len-classes.ensures c.make_room.ensures.same c.in_ok-make_room.ensures.room)
          (λ same. subst (λ (after : Rows ClassDecl (Option Above)). AreNumbered (tables_of (record old { classes = after })) (class_in c.make_room.new.self) (room_in c.make_room.new.self)) (sym same.0)
          (roomier c.make_room.ensures.same c.make_room.ensures.kept c.self.invariant.1)),
    )

pub returns-clause-ok : goal.returns-clause-ok
returns-clause-ok c =
    let old = c.self.inside.rows in
    if_ok c.add_row.result c.add_row.ensures.ok
    (λ place is. (is.0 ∙ (c.len-classes.ensures ∙ ap (λ (t : Tables). length t.classes) c.self.view_is), sym (view_class old c.add_row.new.rows c.args.self.now c.self.view_is c.args.id (is.1 ∙ ap (λ (members : List Member). old.classes.decls ++ record { id = c.args.id; base = None; compact = None; members = members } ∷ []) c.new.ensures) is.2)))

pub returns-clause-err : goal.returns-clause-err
returns-clause-err c = on_err c.add_row.result c.add_row.ensures.err
    (λ same. ap (λ (after : Rows ClassDecl (Option Above)). tables_of (record c.self.inside.rows { classes = after })) same.0 ∙ c.self.view_is)

pub returns-clause-rules : goal.returns-clause-rules
returns-clause-rules c = (invariant_of-self-2 c).0.kept.rules
