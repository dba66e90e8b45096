use Rattle.std.proofs.Common.{List, Option, subst, sym, ◌∙◌}
use Rattle.serve_command.specs.declared.apart.Named.{Named}
use Rattle.serve_command.specs.ObjectWords.{AreShort, object_of, Differ}
use Rattle.serve_command.specs.Reading.{Holds}
use Rattle.serve_command.proofs.Differing.{holds_there, is_not, named_twice, names_more, differ_more, not_held}
use Rattle.serve_command.proofs.apart.name_all.Goals as goal

pub named_by-requires : goal.named_by-requires
named_by-requires c = holds_there AreShort object_of c.args.objects.now c.loop-object.object-index _ c.loop-object-test.true c.requires.short

pub returns-then-holds : goal.returns-then-holds
returns-then-holds c = is_not _ (named_twice c.args.objects.now c.loop-object.object-index _ c.loop-object.names.items c.in_ok-named.named c.loop-object-test.true c.loop-object.invariant.0 c.in_ok-named.ensures
    (subst (λ (ns : List (Option Named)). Holds ns c.in_ok-named.named) c.as_slice.ensures.value (c.holds.ensures.0 c.if-holds.true)))

pub loop-object-preserved : goal.loop-object-preserved
loop-object-preserved c = (
  c.in_ok-push.ensures.items ∙ names_more c.args.objects.now c.loop-object.object-index _ c.loop-object.names.items c.in_ok-named.named c.loop-object-test.true c.loop-object.invariant.0 c.in_ok-named.ensures,
  subst Differ (sym c.in_ok-push.ensures.items) (differ_more c.loop-object.names.items c.in_ok-named.named c.loop-object.invariant.1
      (not_held c.as_slice.result.now c.loop-object.names.items c.in_ok-named.named c.holds.result c.as_slice.ensures.value c.holds.ensures.1 c.if-holds.false)),
)
