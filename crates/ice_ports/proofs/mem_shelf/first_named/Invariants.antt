-- No file before the index has the name.
use Rattle.std.proofs.Common.{◌≡◌, drop}
use Rattle.ice_ports.specs.Files.{file_named}
use Rattle.ice_ports.proofs.mem_shelf.first_named.Given as goal

abbrev pub invariant-loop-file : goal.invariant-loop-file
invariant-loop-file l = file_named (drop l.file-index l.files) l.name ≡ file_named l.files l.name
