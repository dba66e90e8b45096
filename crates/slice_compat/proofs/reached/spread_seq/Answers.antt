use Rattle.std.proofs.Common.{List, sym, ap, ◌∙◌}
use Rattle.std.specs.Prelude.{slice_get}
use Rattle.std.specs.Option.{option_copied}
use Rattle.std.proofs.lemmas.Result.{on_ok_weaker}
use Rattle.ice_types.specs.declared.declarations.SeqDecl.{SeqDecl}
use Rattle.slice_compat.proofs.Stepping.{seq_met, no_seq}
use Rattle.slice_compat.proofs.reached.spread_seq.Goals as goal

pub returns-in_default : goal.returns-in_default
returns-in_default c = no_seq c.args.schema.now c.args.at c.args.marks.now
    (ap (λ (rows : List SeqDecl). slice_get rows c.args.at) (sym c.seqs.ensures) ∙ (sym c.get.ensures ∙ ap option_copied c.in_default.is))

pub returns : goal.returns
returns c = on_ok_weaker c.meet_kind.result
    (λ met. seq_met c.args.schema.now c.args.at c.in-Some.decl.now c.args.marks.now c.meet_kind.new.self
    (ap (λ (rows : List SeqDecl). slice_get rows c.args.at) (sym c.seqs.ensures) ∙ (sym c.get.ensures ∙ ap option_copied c.in-Some.is)) met)
    c.meet_kind.ensures
