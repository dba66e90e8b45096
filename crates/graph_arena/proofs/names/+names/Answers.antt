use Rattle.std.proofs.Common.{rules}
use Rattle.graph_arena.proofs.ByteTrees.{bytes_name_nothing}
use Rattle.graph_arena.proofs.Shapes.{view_bytes}
use Rattle.graph_arena.proofs.names.+names.Goals as goal

pub push_names-returns-in-Bool-7 : goal.push_names-returns-in-Bool-7
push_names-returns-in-Bool-7 t c = search (rules, view_bytes, bytes_name_nothing)
