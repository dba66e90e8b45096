use Rattle.std.proofs.Common.{sym, subst}
use Rattle.ice_types.specs.declared.kind.TypeRef.{TypeRef}
use Rattle.ice_types.specs.Fits.{SeqFits}
use Rattle.slice_meaning.proofs.Fitting.{seq_fits}
use Rattle.slice_faults.specs.Held.{known_of}
use Rattle.slice_faults.proofs.Free.{unfaulted, free_new}
use Rattle.slice_faults.proofs.containers.sequence.Goals as goal

pub new_id-requires-clause-new : goal.new_id-requires-clause-new
new_id-requires-clause-new c = free_new (known_of c.args.known.now) c.args.word.now c.in_ok-fault.fault _ _ c.is_none.ensures c.if-is_none.true c.in_ok-fault.ensures

pub add_seq-requires-clause-fits : goal.add_seq-requires-clause-fits
add_seq-requires-clause-fits c =
    let k = known_of c.args.known.now in
    subst (λ (kind : TypeRef). SeqFits k.tables kind) (sym c.kind_of-element.ensures)
    (seq_fits k c.args.word.now c.args.element.now (unfaulted c.in_ok-fault.fault _ _ c.is_none.ensures c.if-is_none.true c.in_ok-fault.ensures))

pub declare-requires : goal.declare-requires
declare-requires c = free_new (known_of c.args.known.now) c.args.word.now c.in_ok-fault.fault _ _ c.is_none.ensures c.if-is_none.true c.in_ok-fault.ensures
