use Rattle.std.specs.Prelude.{Some}
use Rattle.dispatch_pool.proofs.serving.serve_all.Given as goal

abbrev pub ghosts-serve_under-A-Ledger : goal.ghosts-serve_under-A-Ledger
ghosts-serve_under-A-Ledger g a = record { name = a.asks.name; parts = a.asks.parts }

abbrev pub ghosts-serve_under-L-Ledger : goal.ghosts-serve_under-L-Ledger
ghosts-serve_under-L-Ledger g a = record { name = a.takes.name; parts = a.takes.parts }

abbrev pub ghosts-serve_under-O-Opening : goal.ghosts-serve_under-O-Opening
ghosts-serve_under-O-Opening g a = record {
  first = g.D.Listener.told a.door;
  failures = g.D.Listener.failures a.door;
  nones = g.D.Listener.nones a.door;
  passes = Some a.passes;
}
