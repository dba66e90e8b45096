-- What is told of a source, by how far it was told.
use Rattle.std.proofs.Common.{◌≡◌, ℕ, ◌+◌, ◌-◌, ◌*◌, ◌≤◌, List, [], ◌∷◌, ◌++◌, length, Option, None, Some, Ok, Err, refl, sym, ap, subst, ◌∙◌, inl, inr, arith, append-nil}
use Rattle.std.specs.Prelude.{◌≢◌}
use Rattle.std.specs.Io.KnownBytes.{Consumes, IsAtEnd}
use Rattle.std.proofs.lemmas.List.{length-append}
use Rattle.ice_prims.specs.declared.fault.Fault.{Fault}
use Rattle.ice_encoding.specs.declared.limits.TheConstants.{LARGEST}
use Rattle.ice_messages.specs.Streams.{next_at}
use Rattle.message_dump.specs.declared.dump.Dump.{Dump}
use Rattle.message_dump.specs.declared.dump.Dump.TheVariants.{Finished, Refused, ReadFailed, WriteFailed, Memory}
use Rattle.message_dump.specs.declared.dump.TheConstants.{MOST_MESSAGES}
use Rattle.message_dump.specs.declared.telling.Telling.{Telling}
use Rattle.message_dump.specs.Dumps.{Tells, EndsInput, IsDump}
use Rattle.message_dump.specs.Sources.{Waits, TellsSome, TellsAll, IsTold}
use Rattle.message_dump.specs.Steps.{IsSound, Advances, untold, IsFaultHere, Stops, ComesTo}
use Rattle.message_dump.proofs.Tellings.{tells_more}
use Rattle.ice_messages.proofs.Faults.{no_fault, fault_stands, waits_short}

pub none_is_none : next_at [] ≡ Ok None
none_is_none = refl

-- bytes with a fault are some
pub some_left : (rest : List ℕ) (e : Fault) → next_at rest ≡ Err e → rest ≢ []
some_left rest e bad none = no_fault (sym none_is_none ∙ ap next_at (sym none) ∙ bad)

more_left : (rest more : List ℕ) → rest ≢ [] → rest ++ more ≢ []
more_left [] more some none = some refl
more_left (b ∷ bs) more some none = absurd cc

-- ---- by what was told of all that was read

module _ (got lines : List ℕ) (t : Telling) (p : Advances (untold got) t lines) where
  tells : Tells t.count got lines t.frames.bytes
  tells = let same : p.more ≡ t.count = omega (arith, p.count) in subst (λ (n : ℕ). Tells n got lines t.frames.bytes) same p.tells

  pub some_told : TellsSome got lines
  some_told = record { count = t.count; rest = t.frames.bytes; few = p.sound.few; tells = tells }

  pub all_told : Waits t.count t.frames.bytes → TellsAll got lines
  all_told waits = record { count = t.count; rest = t.frames.bytes; tells = tells; waits = waits }

  place_is : (more : List ℕ) → t.place ≡ length (got ++ more) - length (t.frames.bytes ++ more)
  place_is more = omega (arith, p.place, length-append got more, length-append t.frames.bytes more)

  ends_here : (more : List ℕ) (fault : Fault) → IsFaultHere t fault → EndsInput t.count t.place (t.frames.bytes ++ more) (Some fault)
  ends_here more fault (inl full) = (more_left t.frames.bytes more full.1, inl (full.0, full.2))
  ends_here more fault (inr bad) = (more_left t.frames.bytes more (some_left t.frames.bytes bad.1 bad.2), inr (inr (bad.0, bad.1, (fault_stands t.frames.bytes bad.1 bad.2).stays more, bad.3)))

  refused : (fault : Fault) → IsFaultHere t fault → (more : List ℕ) → IsDump (got ++ more) lines (Some fault)
  refused fault here more =
      (t.count, t.frames.bytes ++ more, p.sound.few, tells_more t.count got t.frames.bytes lines more tells, subst (λ (place : ℕ). EndsInput t.count place (t.frames.bytes ++ more) (Some fault)) (place_is more) (ends_here more fault here))

  pub stopped : (left : Option (List ℕ)) (stop : Dump) → Stops t stop → IsTold left got lines stop
  stopped left Finished h = absurd h
  stopped left (Refused fault) h = inr (refused fault h)
  stopped left ReadFailed h = absurd h
  stopped left WriteFailed h = some_told
  stopped left Memory h = some_told

  place_at_end : t.place ≡ length got - length t.frames.bytes
  place_at_end = omega (arith, p.place)

  short_ends : (fault : Fault) → Waits t.count t.frames.bytes → ComesTo t (Refused fault) → EndsInput t.count t.place t.frames.bytes (Some fault)
  short_ends fault (inl none) h = absurd (h.0 none.1)
  short_ends fault (inr waits) h = (h.0, inr (inl (waits.0, waits.1, h.1)))

  pub ended : (left : Option (List ℕ)) (r : Dump) → Waits t.count t.frames.bytes → IsAtEnd left → ComesTo t r → IsTold left got lines r
  ended left Finished waits end h = (end, (t.count, t.frames.bytes, p.sound.few, tells, h))
  ended left (Refused fault) waits end h =
      inl (end, (t.count, t.frames.bytes, p.sound.few, tells, subst (λ (place : ℕ). EndsInput t.count place t.frames.bytes (Some fault)) place_at_end (short_ends fault waits h)))
  ended left ReadFailed waits end h = absurd h
  ended left WriteFailed waits end h = absurd h
  ended left Memory waits end h = absurd h

-- ---- of all of the input

pub whole_refused : (input got lines : List ℕ) (left : Option (List ℕ)) (fault : Fault) → Consumes (Some input) left got → IsTold left got lines (Refused fault) → IsDump input lines (Some fault)
whole_refused input got lines None fault read told = absurd read
whole_refused input got lines (Some rest) fault read (inl told) = subst (λ (z : List ℕ). IsDump z lines (Some fault)) (sym (read ∙ ap (λ (z : List ℕ). got ++ z) told.0 ∙ append-nil got)) told.1
whole_refused input got lines (Some rest) fault read (inr told) = subst (λ (z : List ℕ). IsDump z lines (Some fault)) (sym read) (told rest)

pub whole_finished : (input got lines : List ℕ) (left : Option (List ℕ)) → Consumes (Some input) left got → IsTold left got lines Finished → IsDump input lines None
whole_finished input got lines None read told = absurd read
whole_finished input got lines (Some rest) read told = subst (λ (z : List ℕ). IsDump z lines None) (sym (read ∙ ap (λ (z : List ℕ). got ++ z) told.0 ∙ append-nil got)) told.1

-- ---- how much there may be of an input that is not refused

pub total_small : (t : Telling) → IsSound t → Waits t.count t.frames.bytes → t.place + length t.frames.bytes ≤ (MOST_MESSAGES + 1) * LARGEST
total_small t sound (inl none) = omega (arith, sound.few, sound.near, ap length none.1)
total_small t sound (inr waits) = omega (arith, sound.few, sound.near, waits_short t.frames.bytes sound.fits waits.1)
