-- What a net tells of attempts.
use Rattle.std.specs.Prelude.{ℕ, Bool, true, false, List, [], ◌∷◌, Option, None, Some}
use Rattle.ice_ports.specs.declared.talk.Talk.{Talk}
use Rattle.ice_ports.specs.Nets.{ToldNet, told_after, connected, came_back}

-- after an attempt at this place, with its talk, or without a connection
abbrev pub attempted : Option (List ℕ × ℕ) → Option Talk → Option ToldNet → Option ToldNet
attempted None talk told = told
attempted (Some place) None told = told_after (connected place.0 place.1 true) told
attempted (Some place) (Some t) told = came_back (Some (t ∷ [])) (told_after (connected place.0 place.1 false) told)

-- the connect failed, or a read or a write of its link
abbrev pub is_failure : Option Talk → Bool
is_failure None = true
is_failure (Some t) = t.failed
