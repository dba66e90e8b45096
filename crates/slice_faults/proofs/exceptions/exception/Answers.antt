use Rattle.std.proofs.Common.{List, ℕ, Option, sym, ap, ◌∙◌, subst}
use Rattle.ice_types.specs.declared.declarations.Member.{Member}
use Rattle.ice_types.specs.Fits.{ExceptionFits}
use Rattle.slice_meaning.specs.Uses.{exception_of}
use Rattle.slice_meaning.specs.Members.{members_of}
use Rattle.slice_meaning.specs.After.{base_at}
use Rattle.slice_meaning.proofs.FittingMembers.{exception_fits}
use Rattle.slice_faults.specs.Held.{known_of}
use Rattle.slice_faults.proofs.Free.{unfaulted, free_new}
use Rattle.slice_faults.proofs.exceptions.exception.Goals as goal

pub new_id-requires-clause-new : goal.new_id-requires-clause-new
new_id-requires-clause-new c = free_new (known_of c.args.known.now) c.args.word.now c.in_ok-fault.fault _ _ c.is_none.ensures c.if-is_none.true c.in_ok-fault.ensures

pub add_exception-requires-clause-fits : goal.add_exception-requires-clause-fits
add_exception-requires-clause-fits c =
    let k = known_of c.args.known.now in
    subst (λ (base : Option ℕ). ExceptionFits k.tables base c.in_ok-members.members) (sym c.base_at-base.ensures)
    (subst (λ (members : List Member). ExceptionFits k.tables (base_at (exception_of k) c.args.base.now) members) (sym (c.in_ok-members.ensures ∙ ap (members_of k) c.as_slice.ensures))
    (exception_fits k c.args.word.now c.args.base.now c.args.fields.now c.requires.kept.rows (unfaulted c.in_ok-fault.fault _ _ c.is_none.ensures c.if-is_none.true c.in_ok-fault.ensures)))

pub declare-requires : goal.declare-requires
declare-requires c = free_new (known_of c.args.known.now) c.args.word.now c.in_ok-fault.fault _ _ c.is_none.ensures c.if-is_none.true c.in_ok-fault.ensures
