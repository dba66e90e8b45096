-- What writing bytes to their end makes.
use Rattle.std.specs.Prelude.{ℕ, List, [], false, length, take, nat_lt}
use Rattle.ice_ports.specs.declared.talk.Talk.{Talk}

-- so many of the bytes were taken: fewer than all only where a write failed
abbrev pub writes_part : List ℕ → ℕ → Talk
writes_part bytes n = record { given = []; taken = take n bytes; ended = false; failed = nat_lt n (length bytes) }
