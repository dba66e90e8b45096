use Rattle.ice_relay.proofs.Inputs.{first_is_enough, rest_is_enough, rest_is_frugal, reads_frugally}
use Rattle.ice_relay.proofs.input.read_input.Goals as goal

pub returns-in_default-clause-read : goal.returns-in_default-clause-read
returns-in_default-clause-read g c =
    first_is_enough (g.S.Source.left c.args.source.now) (g.S.Source.left c.read_up_to.new.source) c.new-input.result.items c.read_up_to.new.bytes.items c.new-input.ensures.items c.in_ok-read_up_to.ensures.read (rw c.as_slice.ensures.value at c.in_default.ensures)

pub returns-clause-read : goal.returns-clause-read
returns-clause-read g c =
    rest_is_enough (g.S.Source.left c.args.source.now) (g.S.Source.left c.read_up_to.new.source) (g.S.Source.left c.read_up_to-2.new.source) c.new-input.result.items c.read_up_to.new.bytes.items c.read_up_to-2.new.bytes.items c.in-Some.size
    c.new-input.ensures.items c.in_ok-read_up_to.ensures.read (rw c.as_slice.ensures.value at c.in-Some.ensures) c.in_ok-read_up_to-2.ensures.read

pub returns-clause-taken : goal.returns-clause-taken
returns-clause-taken g c =
    reads_frugally (g.S.Source.left c.args.source.now) (g.S.Source.left c.read_up_to-2.new.source) c.read_up_to-2.new.bytes.items (rest_is_enough (g.S.Source.left c.args.source.now) (g.S.Source.left c.read_up_to.new.source) (g.S.Source.left c.read_up_to-2.new.source) c.new-input.result.items c.read_up_to.new.bytes.items c.read_up_to-2.new.bytes.items c.in-Some.size
    c.new-input.ensures.items c.in_ok-read_up_to.ensures.read (rw c.as_slice.ensures.value at c.in-Some.ensures) c.in_ok-read_up_to-2.ensures.read)

pub returns-in_err-read_up_to-2-clause-taken : goal.returns-in_err-read_up_to-2-clause-taken
returns-in_err-read_up_to-2-clause-taken g c =
    rest_is_frugal (g.S.Source.left c.args.source.now) (g.S.Source.left c.read_up_to.new.source) (g.S.Source.left c.read_up_to-2.new.source) c.new-input.result.items c.read_up_to.new.bytes.items c.in-Some.size
    c.new-input.ensures.items c.in_ok-read_up_to.ensures.read (rw c.as_slice.ensures.value at c.in-Some.ensures) c.in_err-read_up_to-2.ensures.taken
