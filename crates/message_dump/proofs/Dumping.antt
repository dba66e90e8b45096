-- One piece of a source after another.
use Rattle.std.proofs.Common.{◌≡◌, ℕ, ◌+◌, ◌-◌, ◌*◌, ◌≤◌, ◌<◌, List, [], ◌++◌, length, Option, Err, refl, sym, ap, subst, ◌∙◌, arith, inr, append-nil}
use Rattle.std.specs.Io.KnownBytes.{Appends, Consumes, IsAtEnd, Keeps}
use Rattle.std.proofs.KnownBytes.{Consumes-trans, Consumes-kept}
use Rattle.std.proofs.lemmas.List.{length-append}
use Rattle.ice_ports.specs.declared.ports.TheConstants.{MOST_OF_A_READ}
use Rattle.ice_encoding.specs.declared.limits.TheConstants.{LARGEST}
use Rattle.message_dump.specs.declared.dump.Dump.{Dump}
use Rattle.message_dump.specs.declared.dump.Dump.TheVariants.{Finished, Refused, ReadFailed, WriteFailed, Memory}
use Rattle.message_dump.specs.declared.dump.TheConstants.{MOST_MESSAGES}
use Rattle.message_dump.specs.declared.telling.Telling.{Telling}
use Rattle.message_dump.specs.Sources.{Waits, IsTold, ReadsFrugally, GetsLines}
use Rattle.message_dump.specs.Steps.{IsSound, Advances, untold, fed, ComesTo, TellsOn}
use Rattle.message_dump.proofs.Advancing.{advances_none, advances_fed, gets_then}
use Rattle.message_dump.proofs.Decided.{none_is_none, all_told, stopped, ended, total_small}

-- what a dump says of a source and a sink
abbrev pub Says : Option (List ℕ) → Option (List ℕ) → Option (List ℕ) → Option (List ℕ) → Dump → Type 0
Says left rest taken got r = (read lines : List ℕ) × Consumes left rest read × IsTold rest read lines r × GetsLines r taken got lines

gets_all : (t : Telling) (r : Dump) (old new : Option (List ℕ)) (lines : List ℕ) → ComesTo t r → Appends old new lines → GetsLines r old new lines
gets_all t Finished old new lines h p = p
gets_all t (Refused fault) old new lines h p = p
gets_all t ReadFailed old new lines h p = absurd h
gets_all t WriteFailed old new lines h p = absurd h
gets_all t Memory old new lines h p = absurd h

-- behind what was read and told so far
module _ (a b c : Option (List ℕ)) (got lines : List ℕ) (t : Telling) (read : Consumes a b got) (told : Advances (untold got) t lines) (waits : Waits t.count t.frames.bytes) where
  pub frugal : (piece : List ℕ) → length piece ≤ MOST_OF_A_READ → Consumes b c piece → ReadsFrugally a c
  frugal piece few next = record { before = got; piece = piece; lines = lines; consumed = Consumes-trans a b c got piece read next; most = few; told = all_told got lines t told waits }

  pub frugal_kept : Keeps b c → ReadsFrugally a c
  frugal_kept kept = record {
    before = got;
    piece = [];
    lines = lines;
    consumed = subst (Consumes a c) (sym (append-nil got)) (Consumes-kept a b c got read kept);
    most = omega arith;
    told = all_told got lines t told waits;
  }

  pub says_ended : (k l : Option (List ℕ)) (piece : List ℕ) (r : Dump) → Appends k l lines → piece ≡ [] → Consumes b c piece → IsAtEnd c → ComesTo t r → Says a c k l r
  says_ended k l piece r written none next end comes =
      let all : got ++ piece ≡ got = ap (λ (z : List ℕ). got ++ z) none ∙ append-nil got in
      (got, lines, subst (Consumes a c) all (Consumes-trans a b c got piece read next), ended got lines t told c r waits end comes, gets_all t r k l lines comes written)

  pub says_stopped : (X : Type 0) (piece : List ℕ) (new : Telling) (j k l : Option (List ℕ)) (f g : ℕ) (stop : Dump) → Consumes b c piece → Appends j k lines
      → TellsOn {X = X} (fed t piece) new k l f g (Err stop) → Says a c j l stop
  says_stopped X piece new j k l f g stop next written more =
      let all = advances_fed (untold got) t more.0 piece lines more.1 told more.2 in
      (got ++ piece, lines ++ more.1, Consumes-trans a b c got piece read next, stopped (got ++ piece) (lines ++ more.1) more.0 all c stop more.3, gets_then stop j k l lines more.1 written more.4)

-- the input grows towards the most that is not refused
pub grows : (t new : Telling) (piece lines : List ℕ) → 0 < length piece → Advances (fed t piece) new lines → Waits new.count new.frames.bytes
    → (MOST_MESSAGES + 1) * LARGEST - (new.place + length new.frames.bytes) < (MOST_MESSAGES + 1) * LARGEST - (t.place + length t.frames.bytes)
grows t new piece lines some p waits = omega (arith, some, p.place, length-append t.frames.bytes piece, total_small new p.sound waits)

-- at first nothing is held
pub begun : (t : Telling) → t ≡ untold [] → Advances (untold []) t [] × Waits t.count t.frames.bytes
begun t is = rw is (advances_none (untold []) nothing, inr (omega arith, none_is_none))
  where
    nothing : IsSound (untold [])
    nothing = record { few = omega arith; near = omega arith; going = refl; fits = λ i. omega arith }
