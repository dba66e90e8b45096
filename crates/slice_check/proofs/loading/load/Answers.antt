use Rattle.std.proofs.Common.{sym, ap, ◌∙◌}
use Rattle.ice_ports.specs.Failures.{count_after}
use Rattle.slice_meaning.specs.declared.fault.Fault.{Fault}
use Rattle.slice_check.proofs.Faults.{breaks_at, fault_within, not_failed, is_break}
use Rattle.slice_check.proofs.loading.load.Goals as goal

pub fault-requires : goal.fault-requires
fault-requires g c =
    let files = c.in_ok-files.files in
    let w = c.in_ok-files.ensures.answer in
    let fault : Fault = record { place = c.in-Err-At.place; kind = c.in-Err-At.kind } in
    fault_within files w.complete c.in-Err-At.file fault w.those (breaks_at files.trees c.as_slice.result.now c.in-Err-At.field-0 c.in-Err-At.file fault c.as_slice.ensures c.in-Err-At.field-0-is c.in-Err-At.ensures)

pub returns-in-Err-At-clause-answer : goal.returns-in-Err-At-clause-answer
returns-in-Err-At-clause-answer g c =
    let files = c.in_ok-files.files in
    let w = c.in_ok-files.ensures.answer in
    let fault : Fault = record { place = c.in-Err-At.place; kind = c.in-Err-At.kind } in
    is_break (g.H.Shelf.files c.args.shelf.now) c.args.name.now files c.in-Err-At.file fault c.fault.result w
    (breaks_at files.trees c.as_slice.result.now c.in-Err-At.field-0 c.in-Err-At.file fault c.as_slice.ensures c.in-Err-At.field-0-is c.in-Err-At.ensures) c.fault.ensures

pub returns-in-Err-At-clause-count : goal.returns-in-Err-At-clause-count
returns-in-Err-At-clause-count g c =
    let files = c.in_ok-files.files in
    let w = c.in_ok-files.ensures.answer in
    let fault : Fault = record { place = c.in-Err-At.place; kind = c.in-Err-At.kind } in
    c.in_ok-files.ensures.count
    ∙ sym (ap (count_after (g.H.Shelf.failures c.args.shelf.now)) (not_failed files w.complete c.in-Err-At.file fault c.fault.result w.those
    (breaks_at files.trees c.as_slice.result.now c.in-Err-At.field-0 c.in-Err-At.file fault c.as_slice.ensures c.in-Err-At.field-0-is c.in-Err-At.ensures) c.fault.ensures))
