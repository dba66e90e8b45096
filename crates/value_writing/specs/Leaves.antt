-- What is written for values without parts.
use Rattle.std.specs.Prelude.{ℕ, List, [], ◌∷◌}
use Rattle.std.specs.Int.{w16, w32, w64}
use Rattle.ice_prims.specs.Bytes.{bool_bytes, signed_bytes, size_bytes, text_bytes}
use Rattle.ice_encoding.specs.Proxy as parts
use Rattle.ice_encoding.specs.Tree.{Tree, boolean, byte, short, int, long, text, sequence, dictionary, struct, enumerator, proxy, reference}

-- what is written for a value without parts, and nothing for any other
abbrev pub leaf_bytes : Tree → List ℕ
leaf_bytes (boolean b) = bool_bytes b
leaf_bytes (byte n) = n ∷ []
leaf_bytes (short z) = signed_bytes w16 z
leaf_bytes (int z) = signed_bytes w32 z
leaf_bytes (long z) = signed_bytes w64 z
leaf_bytes (text s) = text_bytes s
leaf_bytes (enumerator n) = size_bytes n
leaf_bytes (proxy p) = parts.proxy.put p
leaf_bytes (sequence items) = []
leaf_bytes (dictionary pairs) = []
leaf_bytes (struct members) = []
leaf_bytes (reference n) = []
