use Rattle.std.proofs.Common.{length, refl, sym, ◌∙◌}
use Rattle.std.proofs.lemmas.Option.{slice_get_past, slice_get_read}
use Rattle.object_adapter.proofs.Sole.{no_text_at, text_there_at}
use Rattle.object_adapter.proofs.arguments.text_at.Goals as goal

pub returns-in-Some : goal.returns-in-Some
returns-in-Some c =
    let values = c.args.values.now in
    c.text_of.ensures ∙ text_there_at values c.args.at c.in-Some.value.now (sym (slice_get_read values (length values) c.args.at c.in-Some.value.now refl c.in-Some.ensures.lookup.3.0 c.in-Some.ensures.lookup.1))

pub returns-in-None : goal.returns-in-None
returns-in-None c = no_text_at c.args.values.now c.args.at (sym (slice_get_past c.args.values.now c.args.at c.in-None.ensures.lookup.3))
