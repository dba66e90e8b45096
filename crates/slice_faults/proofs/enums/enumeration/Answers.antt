use Rattle.std.proofs.Common.{List, sym, subst, ap, ◌∙◌}
use Rattle.slice_syntax.specs.declared.tree.Item.TheVariants as items
use Rattle.ice_types.specs.declared.declarations.Entry.{Entry}
use Rattle.ice_types.specs.declared.kind.TypeRef.TheVariants as kinds
use Rattle.ice_types.specs.Fits.{EnumFits}
use Rattle.slice_meaning.specs.declared.standing.Standing.TheVariants as standings
use Rattle.slice_meaning.specs.Known as meaning
use Rattle.slice_meaning.specs.Faults.{faults}
use Rattle.slice_meaning.specs.Checking.{noted}
use Rattle.slice_meaning.proofs.Fitting.{enum_fits}
use Rattle.slice_faults.specs.Held.{known_of}
use Rattle.slice_faults.proofs.Free.{unfaulted, free_new}
use Rattle.slice_faults.proofs.Inside.{free_behind, names_apart}
use Rattle.slice_faults.proofs.enums.enumeration.Goals as goal

pub new_id-requires-clause-new : goal.new_id-requires-clause-new
new_id-requires-clause-new c =
    let k = known_of c.args.known.now in
    let fs = faults k (items.Enum c.args.word.now c.args.entries.now) in
    free_new k c.args.word.now c.note_enum.new.found.first _ _ c.is_none.ensures c.if-is_none.true (c.in_ok-rows.ensures.found ∙ ap (λ o. noted o fs) c.new-found.ensures)

pub add_enum-requires-clause-fits : goal.add_enum-requires-clause-fits
add_enum-requires-clause-fits c =
    let k = known_of c.args.known.now in
    let fs = faults k (items.Enum c.args.word.now c.args.entries.now) in
    subst (λ (entries : List Entry). EnumFits entries) (sym c.in_ok-rows.ensures.rows)
    (enum_fits k c.args.word.now c.args.entries.now (unfaulted c.note_enum.new.found.first _ _ c.is_none.ensures c.if-is_none.true (c.in_ok-rows.ensures.found ∙ ap (λ o. noted o fs) c.new-found.ensures)))

pub declare-requires : goal.declare-requires
declare-requires c =
    let k = known_of c.args.known.now in
    let fs = faults k (items.Enum c.args.word.now c.args.entries.now) in
    free_new k c.args.word.now c.note_enum.new.found.first _ _ c.is_none.ensures c.if-is_none.true (c.in_ok-rows.ensures.found ∙ ap (λ o. noted o fs) c.new-found.ensures)

pub declare_inside-requires : goal.declare_inside-requires
declare_inside-requires c =
    let k = known_of c.args.known.now in
    let fs = faults k (items.Enum c.args.word.now c.args.entries.now) in
    let found = c.in_ok-rows.ensures.found ∙ ap (λ o. noted o fs) c.new-found.ensures in
    let mid : meaning.Known = record k { tables = c.add_enum.new.rows } in
    let new = free_new k c.args.word.now c.note_enum.new.found.first _ _ c.is_none.ensures c.if-is_none.true found in
    let none = unfaulted c.note_enum.new.found.first _ fs c.is_none.ensures c.if-is_none.true found in
    free_behind mid (known_of c.declare.new.known) c.args.word.now (standings.Type (kinds.Enum c.in_ok-at.at)) c.in_ok-at.at c.args.entries.now c.as_slice.result.now
    c.in_ok-declare.ensures c.as_slice.ensures c.requires.kept.names.inside new (names_apart k c.args.word.now c.args.entries.now none)
