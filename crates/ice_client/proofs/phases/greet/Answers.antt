use Rattle.std.proofs.Common.{◌++◌, List, ℕ, Option, Ok, sym, subst}
use Rattle.std.specs.declared.alloc.AllocError.{AllocError}
use Rattle.ice_client.specs.declared.outcome.End.{End}
use Rattle.talking.specs.Hearing.{Hears, ReadsFrugally, heard_part}
use Rattle.ice_client.specs.Steps.{Greets}
use Rattle.ice_client.proofs.Reading.{greets}
use Rattle.ice_client.proofs.phases.greet.Goals as goal

pub returns-clause-talk : goal.returns-clause-talk
returns-clause-talk g c =
    let heard = c.in_ok-heard.ensures.heard in
    let new = c.hear.new.frames in
    let t = heard_part {E = AllocError} heard.0 (Ok c.in_ok-heard.heard) in (
      t,
      heard.1,
      c.in_ok-heard.ensures.reads,
      subst (λ (e : Option End). Greets {E = AllocError} c.args.cached new t (Ok e)) (sym c.end_of.ensures)
          (greets AllocError c.args.cached heard.0 new (subst (λ (z : List ℕ). ReadsFrugally z heard.0) c.requires.fresh heard.3) c.in_ok-heard.heard (subst (λ (z : List ℕ). Hears {E = AllocError} (z ++ heard.0) new (Ok c.in_ok-heard.heard)) c.requires.fresh heard.2)),
    )
