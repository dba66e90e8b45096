use Rattle.std.proofs.Common.{◌∙◌, sym, arith}
use Rattle.ice_proxy.proofs.Digits.{passed}
use Rattle.ice_proxy.proofs.numbers.natural_within.Goals as goal

pub returns-then-longer-from : goal.returns-then-longer-from
returns-then-longer-from c = sym (passed c.args.most c.loop-rest.value c.loop-rest.rest.now c.in-len1-up.len_at_least (cc) (omega arith)) ∙ c.loop-rest.invariant.0
