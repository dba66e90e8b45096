-- A sequence of bytes, written at once.
use Rattle.std.specs.Prelude.{ℕ, List, ◌++◌, length}
use Rattle.ice_prims.specs.Bytes.{size_bytes}

-- what is written for the bytes as a sequence
abbrev pub sequence_bytes : List ℕ → List ℕ
sequence_bytes bytes = size_bytes (length bytes) ++ bytes
