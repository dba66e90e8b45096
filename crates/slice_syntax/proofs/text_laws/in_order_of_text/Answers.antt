use Rattle.slice_syntax.proofs.Orders.{in_order_of_text}
use Rattle.slice_syntax.proofs.text_laws.in_order_of_text.Goals as goal

pub returns : goal.returns
returns c = in_order_of_text
