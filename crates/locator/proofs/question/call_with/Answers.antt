use Rattle.std.proofs.Common.{rules, [], arith, sym, subst, List}
use Rattle.std.specs.List.Sorted.{IsStrictlySortedBy}
use Rattle.ice_messages.specs.Context.{Entry, AreRising}
use Rattle.locator.proofs.Bodies.{is_body}
use Rattle.locator.proofs.question.call_with.Goals as goal

no_entries : AreRising []
unfolding IsStrictlySortedBy
no_entries = tt

pub returns : goal.returns
returns c = (
  search rules,
  record {
    mode = omega arith;
    context = subst (λ (es : List Entry). AreRising es) (sym c.new.ensures) no_entries;
    body = is_body c.args.key.now c.args.body c.requires.is c.requires.short;
  },
)
