use Rattle.ice_messages.proofs.Runs.{is_stream, one_stream}
use Rattle.ice_messages.proofs.laws.one_stream.Goals as goal

pub returns-clause-some : goal.returns-clause-some
returns-clause-some c = is_stream

pub returns-clause-one : goal.returns-clause-one
returns-clause-one c bytes ms ns rest left a b one two = one_stream ms ns bytes rest left a b one two
