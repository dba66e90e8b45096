use Rattle.slice_syntax.proofs.Texts.{ok_text}
use Rattle.slice_syntax.proofs.directive.if_text.Goals as goal

pub returns : goal.returns
returns c = ok_text _ c.args.bytes.now c.from_utf8.result c.ok.result c.from_utf8.ensures.cases c.ok.ensures.value
