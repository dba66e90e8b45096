use Rattle.std.proofs.Common.{sym, subst}
use Rattle.ice_types.specs.declared.kind.TypeRef.{TypeRef}
use Rattle.ice_types.specs.Fits.{DictFits}
use Rattle.slice_meaning.specs.After.{kind_of}
use Rattle.slice_meaning.proofs.Fitting.{dict_fits}
use Rattle.slice_faults.specs.Held.{known_of}
use Rattle.slice_faults.proofs.Free.{unfaulted, free_new}
use Rattle.slice_faults.proofs.containers.dictionary.Goals as goal

pub new_id-requires-clause-new : goal.new_id-requires-clause-new
new_id-requires-clause-new c = free_new (known_of c.args.known.now) c.args.word.now c.in_ok-fault.fault _ _ c.is_none.ensures c.if-is_none.true c.in_ok-fault.ensures

pub add_dict-requires-clause-fits : goal.add_dict-requires-clause-fits
add_dict-requires-clause-fits c =
    let k = known_of c.args.known.now in
    subst (λ (kind : TypeRef). DictFits k.tables kind c.kind_of-value.result) (sym c.kind_of-key.ensures)
    (subst (λ (kind : TypeRef). DictFits k.tables (kind_of k c.args.key.now) kind) (sym c.kind_of-value.ensures)
    (dict_fits k c.args.word.now c.args.key.now c.args.value.now (unfaulted c.in_ok-fault.fault _ _ c.is_none.ensures c.if-is_none.true c.in_ok-fault.ensures)))

pub declare-requires : goal.declare-requires
declare-requires c = free_new (known_of c.args.known.now) c.args.word.now c.in_ok-fault.fault _ _ c.is_none.ensures c.if-is_none.true c.in_ok-fault.ensures
