-- What was read and what is left are the bytes that were left.
use Rattle.std.proofs.Common.{rules, ◌+◌, sym, ap, ◌∙◌}
use Rattle.ice_ports.specs.Memory.{Supply}
use Rattle.ice_ports.proofs.Reading.{left_splits, nothing_left}
use Rattle.ice_ports.proofs.mem_source.MemSourceSource.read.Goals as goal

pub returns-clause-bytes : goal.returns-clause-bytes
returns-clause-bytes c = (
  ap (λ (s : Supply). s.left) (sym c.self.view_is) ∙ left_splits c.self.inside.bytes c.copy_from_slice.new.self _ c.self.inside.at c.min-count.result (search rules) (search rules),
  λ none room. nothing_left c.self.inside.bytes (c.self.inside.at + c.min-count.result) (search rules),
)
