use Rattle.ice_relay.proofs.TwoInputs.{size_is_enough, second_is_enough, reads_two_frugally, size_taken, second_taken}
use Rattle.ice_relay.proofs.input.read_two.Goals as goal

pub returns-in_err-read_up_to-2-clause-taken : goal.returns-in_err-read_up_to-2-clause-taken
returns-in_err-read_up_to-2-clause-taken g c =
    size_taken (g.S.Source.left c.args.source.now) (g.S.Source.left c.read_up_to.new.source) (g.S.Source.left c.read_up_to-2.new.source) c.new-input.result.items c.read_up_to.new.bytes.items c.in-Some.first
    c.new-input.ensures.items c.in_ok-read_up_to.ensures.read (rw c.as_slice.ensures.value at c.in-Some.ensures) c.in_err-read_up_to-2.ensures.taken

pub returns-in_default-claimed_bytes-clause-read : goal.returns-in_default-claimed_bytes-clause-read
returns-in_default-claimed_bytes-clause-read g c =
    size_is_enough (g.S.Source.left c.args.source.now) (g.S.Source.left c.read_up_to.new.source) (g.S.Source.left c.read_up_to-2.new.source) c.new-input.result.items c.read_up_to.new.bytes.items c.read_up_to-2.new.bytes.items c.in-Some.first
    c.new-input.ensures.items c.in_ok-read_up_to.ensures.read (rw c.as_slice.ensures.value at c.in-Some.ensures) c.in_ok-read_up_to-2.ensures.read (rw (c.behind.ensures, c.as_slice-2.ensures.value) at c.in_default-claimed_bytes.ensures)

pub returns-in_default-claimed_bytes-clause-taken : goal.returns-in_default-claimed_bytes-clause-taken
returns-in_default-claimed_bytes-clause-taken g c = reads_two_frugally (g.S.Source.left c.args.source.now) (g.S.Source.left c.read_up_to-2.new.source) c.read_up_to-2.new.bytes.items
    (size_is_enough (g.S.Source.left c.args.source.now) (g.S.Source.left c.read_up_to.new.source) (g.S.Source.left c.read_up_to-2.new.source) c.new-input.result.items c.read_up_to.new.bytes.items c.read_up_to-2.new.bytes.items c.in-Some.first
    c.new-input.ensures.items c.in_ok-read_up_to.ensures.read (rw c.as_slice.ensures.value at c.in-Some.ensures) c.in_ok-read_up_to-2.ensures.read (rw (c.behind.ensures, c.as_slice-2.ensures.value) at c.in_default-claimed_bytes.ensures))

pub returns-in_err-read_up_to-3-clause-taken : goal.returns-in_err-read_up_to-3-clause-taken
returns-in_err-read_up_to-3-clause-taken g c =
    second_taken (g.S.Source.left c.args.source.now) (g.S.Source.left c.read_up_to.new.source) (g.S.Source.left c.read_up_to-2.new.source) (g.S.Source.left c.read_up_to-3.new.source) c.new-input.result.items c.read_up_to.new.bytes.items c.read_up_to-2.new.bytes.items c.in-Some.first c.in-Some-claimed_bytes.second
    c.new-input.ensures.items c.in_ok-read_up_to.ensures.read (rw c.as_slice.ensures.value at c.in-Some.ensures) c.in_ok-read_up_to-2.ensures.read (rw (c.behind.ensures, c.as_slice-2.ensures.value) at c.in-Some-claimed_bytes.ensures) c.in_err-read_up_to-3.ensures.taken

pub returns-clause-read : goal.returns-clause-read
returns-clause-read g c =
    second_is_enough (g.S.Source.left c.args.source.now) (g.S.Source.left c.read_up_to.new.source) (g.S.Source.left c.read_up_to-2.new.source) (g.S.Source.left c.read_up_to-3.new.source) c.new-input.result.items c.read_up_to.new.bytes.items c.read_up_to-2.new.bytes.items c.read_up_to-3.new.bytes.items c.in-Some.first c.in-Some-claimed_bytes.second
    c.new-input.ensures.items c.in_ok-read_up_to.ensures.read (rw c.as_slice.ensures.value at c.in-Some.ensures) c.in_ok-read_up_to-2.ensures.read (rw (c.behind.ensures, c.as_slice-2.ensures.value) at c.in-Some-claimed_bytes.ensures) c.in_ok-read_up_to-3.ensures.read

pub returns-clause-taken : goal.returns-clause-taken
returns-clause-taken g c = reads_two_frugally (g.S.Source.left c.args.source.now) (g.S.Source.left c.read_up_to-3.new.source) c.read_up_to-3.new.bytes.items
    (second_is_enough (g.S.Source.left c.args.source.now) (g.S.Source.left c.read_up_to.new.source) (g.S.Source.left c.read_up_to-2.new.source) (g.S.Source.left c.read_up_to-3.new.source) c.new-input.result.items c.read_up_to.new.bytes.items c.read_up_to-2.new.bytes.items c.read_up_to-3.new.bytes.items c.in-Some.first c.in-Some-claimed_bytes.second
    c.new-input.ensures.items c.in_ok-read_up_to.ensures.read (rw c.as_slice.ensures.value at c.in-Some.ensures) c.in_ok-read_up_to-2.ensures.read (rw (c.behind.ensures, c.as_slice-2.ensures.value) at c.in-Some-claimed_bytes.ensures) c.in_ok-read_up_to-3.ensures.read)
