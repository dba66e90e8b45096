-- What tells its bytes keeps them where nothing is done to it.
use Rattle.std.proofs.Common.{List, ℕ, Option, None, Some, refl}
use Rattle.std.specs.Io.KnownBytes.{Keeps}

pub keeps_itself : (old : Option (List ℕ)) → Keeps old old
keeps_itself None = tt
keeps_itself (Some bytes) = refl
