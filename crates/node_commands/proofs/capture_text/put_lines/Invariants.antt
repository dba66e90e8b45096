use Rattle.std.proofs.Common.{◌≡◌, ◌++◌, drop}
use Rattle.std.specs.List.{flat_map}
use Rattle.node_commands.specs.Audits.{capture_line}
use Rattle.node_commands.proofs.capture_text.put_lines.Given as goal

-- what was put, and the lines that are left
abbrev pub invariant-loop-line : goal.invariant-loop-line
invariant-loop-line l = l.text.items ++ flat_map capture_line (drop l.line-index l.lines) ≡ l.fn.text.items ++ flat_map capture_line l.fn.lines
