use Rattle.canonical_values.proofs.Compared.{bytes_rise}
use Rattle.canonical_values.proofs.order.is_byte_below.Goals as goal

pub returns-in-len1-up-len1-up : goal.returns-in-len1-up-len1-up
returns-in-len1-up-len1-up c = λ less t levels. bytes_rise t c.args.first.now c.args.second.now levels less
