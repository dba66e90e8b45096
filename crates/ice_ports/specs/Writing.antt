-- What a sink gets of bytes.
use Rattle.std.specs.Prelude.{ℕ, ◌≡◌, ◌<◌, List, ◌++◌, length, Option, Result, Ok, Err}
use Rattle.std.specs.Io.KnownBytes.{Appends}
use Rattle.ice_ports.specs.Failures.{one_more}

-- a prefix of the bytes was taken, and not all of them
abbrev pub AppendsPrefix : Option (List ℕ) → Option (List ℕ) → List ℕ → Type 0
AppendsPrefix old new bytes =
    (prefix rest : List ℕ) × (bytes ≡ prefix ++ rest) × Appends old new prefix × (0 < length rest)

-- The sink got the bytes, and no write failed; or it got a part of them from the first on, and then one failed.
abbrev pub Writes : {X E : Type 0} → (old new : Option (List ℕ)) → (before after : ℕ)
    → Result X E → List ℕ → Type 0
Writes old new before after (Ok x) bytes = Appends old new bytes × (after ≡ before)
Writes old new before after (Err e) bytes =
    AppendsPrefix old new bytes × (after ≡ one_more before)
