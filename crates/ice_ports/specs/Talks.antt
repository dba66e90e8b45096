-- What goes over a link, part by part.
use Rattle.std.specs.Prelude.{ℕ, zero, suc, Bool, true, false, List, [], ◌∷◌, ◌++◌, ◌||◌, take, Option, None, Some, Result, Ok, Err}
use Rattle.ice_ports.specs.declared.talk.Talk.{Talk}

-- nothing was said yet
abbrev pub silent : Talk
silent = record { given = []; taken = []; ended = false; failed = false }

-- one part and then another
abbrev pub and_then : Talk → Talk → Talk
and_then a b = record {
  given = a.given ++ b.given;
  taken = a.taken ++ b.taken;
  ended = a.ended || b.ended;
  failed = a.failed || b.failed;
}

-- what a link tells after this part: nothing where it told nothing
abbrev pub adds : Option Talk → Talk → Option Talk
adds None part = None
adds (Some before) part = Some (and_then before part)

-- ---- the parts that single calls make

-- a call failed
abbrev pub failing : Talk
failing = record { given = []; taken = []; ended = false; failed = true }

-- these bytes were given
abbrev pub gives : List ℕ → Talk
gives bytes = record { given = bytes; taken = []; ended = false; failed = false }

-- these bytes were taken
abbrev pub takes : List ℕ → Talk
takes bytes = record { given = []; taken = bytes; ended = false; failed = false }

-- a read of so many bytes into this slice is the end: of none, where there is room
abbrev pub is_end : ℕ → List ℕ → Bool
is_end zero [] = false
is_end zero (byte ∷ others) = true
is_end (suc n) into = false

-- a read with this result, after which `into` has the bytes at its front
abbrev pub read_part : {E : Type 0} → Result ℕ E → List ℕ → Talk
read_part (Ok n) into =
    record { given = take n into; taken = []; ended = is_end n into; failed = false }
read_part (Err failed) into = failing

-- a write of this piece with this result
abbrev pub write_part : {E : Type 0} → Result ℕ E → List ℕ → Talk
write_part (Ok n) piece = takes (take n piece)
write_part (Err failed) piece = failing
