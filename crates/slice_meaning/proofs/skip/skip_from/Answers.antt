use Rattle.std.proofs.Common.{arith}
use Rattle.std.specs.Prelude.{reverse}
use Rattle.std.proofs.lemmas.List.{length-reverse}
use Rattle.slice_meaning.proofs.Outer.{skip_read, outer_below}
use Rattle.slice_meaning.proofs.skip.skip_from.Goals as goal

pub returns-clause-within : goal.returns-clause-within
returns-clause-within c = outer_below (reverse c.args.entries.now) c.args.scope _ c.requires.entries (let l = length-reverse c.args.entries.now in let h = c.requires.within in omega arith)
    (skip_read c.args.entries.now c.args.scope _ c.requires.entries c.requires.skips (let n = c.if-scope-eq0.false in omega arith) c.requires.within)

pub returns-clause-outer : goal.returns-clause-outer
returns-clause-outer c = skip_read c.args.entries.now c.args.scope _ c.requires.entries c.requires.skips (let n = c.if-scope-eq0.false in omega arith) c.requires.within
