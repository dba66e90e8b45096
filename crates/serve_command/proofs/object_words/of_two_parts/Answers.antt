use Rattle.std.proofs.Common.{codes, None, Some}
use Rattle.serve_command.proofs.Cuts.{parted, two_of, no_two_parts, no_sort}
use Rattle.serve_command.proofs.object_words.of_two_parts.Goals as goal

pub returns-in_err-name : goal.returns-in_err-name
returns-in_err-name c = rw c.from_residual.ensures (no_two_parts c.args.sort.now c.args.parts.now c.requires.sort c.requires.other (parted c.args.parts.now None c.in_err-name.ensures.cases))

pub returns-in-store : goal.returns-in-store
returns-in-store c = two_of c.args.sort.now (codes "store") c.args.parts.now c.in_ok-name.name.now c.in_ok-name.second.now c.in-store.is (parted c.args.parts.now (Some (c.in_ok-name.name, c.in_ok-name.second)) c.in_ok-name.ensures.cases)

pub returns-in-echo : goal.returns-in-echo
returns-in-echo c = two_of c.args.sort.now (codes "echo") c.args.parts.now c.in_ok-name.name.now c.in_ok-name.second.now c.in-echo.is (parted c.args.parts.now (Some (c.in_ok-name.name, c.in_ok-name.second)) c.in_ok-name.ensures.cases)

pub returns-in-place : goal.returns-in-place
returns-in-place c = two_of c.args.sort.now (codes "place") c.args.parts.now c.in_ok-name.name.now c.in_ok-name.second.now c.in-place.is (parted c.args.parts.now (Some (c.in_ok-name.name, c.in_ok-name.second)) c.in_ok-name.ensures.cases)

pub returns-in-adapter : goal.returns-in-adapter
returns-in-adapter c = two_of c.args.sort.now (codes "adapter") c.args.parts.now c.in_ok-name.name.now c.in_ok-name.second.now c.in-adapter.is (parted c.args.parts.now (Some (c.in_ok-name.name, c.in_ok-name.second)) c.in_ok-name.ensures.cases)

pub returns-in_default : goal.returns-in_default
returns-in_default c = no_sort c.args.sort.now c.args.parts.now c.requires.sort c.requires.other c.in_default.not-store c.in_default.not-echo c.in_default.not-place c.in_default.not-adapter
