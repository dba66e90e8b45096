use Rattle.std.proofs.Common.{List, sym, ap, ◌∙◌, subst}
use Rattle.ice_types.specs.declared.declarations.Member.{Member}
use Rattle.ice_types.specs.Fits.{StructFits}
use Rattle.slice_meaning.specs.Members.{members_of}
use Rattle.slice_meaning.proofs.Fitting.{struct_fits}
use Rattle.slice_faults.specs.Held.{known_of}
use Rattle.slice_faults.proofs.Free.{unfaulted, free_new}
use Rattle.slice_faults.proofs.structs.structure.Goals as goal

pub new_id-requires-clause-new : goal.new_id-requires-clause-new
new_id-requires-clause-new c = free_new (known_of c.args.known.now) c.args.word.now c.in_ok-fault.fault _ _ c.is_none.ensures c.if-is_none.true c.in_ok-fault.ensures

pub add_struct-requires-clause-fits : goal.add_struct-requires-clause-fits
add_struct-requires-clause-fits c =
    let k = known_of c.args.known.now in
    subst (λ (members : List Member). StructFits k.tables members) (sym (c.in_ok-members.ensures ∙ ap (members_of k) c.as_slice.ensures))
    (struct_fits k c.args.word.now c.args.fields.now c.requires.no_tags (unfaulted c.in_ok-fault.fault _ _ c.is_none.ensures c.if-is_none.true c.in_ok-fault.ensures))

pub declare-requires : goal.declare-requires
declare-requires c = free_new (known_of c.args.known.now) c.args.word.now c.in_ok-fault.fault _ _ c.is_none.ensures c.if-is_none.true c.in_ok-fault.ensures
