-- Telling goes on, and what the sink gets with it.
use Rattle.std.proofs.Common.{◌≡◌, ℕ, ◌+◌, ◌<◌, List, [], ◌++◌, length, Option, Some, Result, Ok, Err, refl, sym, ap, subst, ◌∙◌, arith, append_assoc}
use Rattle.std.specs.Io.KnownBytes.{Appends}
use Rattle.std.proofs.KnownBytes.{Appends-nil, Appends-trans}
use Rattle.std.proofs.lemmas.List.{length-append}
use Rattle.ice_prims.specs.Rest.{IsBytes}
use Rattle.ice_ports.specs.Failures.{count_after}
use Rattle.ice_messages.specs.declared.message.Message.{Message}
use Rattle.ice_messages.proofs.Streams.{message_long}
use Rattle.message_dump.specs.declared.dump.Dump.{Dump}
use Rattle.message_dump.specs.declared.dump.Dump.TheVariants.{Finished, Refused, ReadFailed, WriteFailed, Memory}
use Rattle.message_dump.specs.declared.telling.Telling.{Telling}
use Rattle.message_dump.specs.Lines.{message_line}
use Rattle.message_dump.specs.Dumps.{Tells}
use Rattle.ice_ports.specs.Writing.{Writes}
use Rattle.message_dump.specs.Sources.{GetsLines, is_write_failed}
use Rattle.message_dump.specs.Steps.{IsSound, Advances, fed, TakesNext, TellsOn}
use Rattle.message_dump.proofs.Tellings.{tells_one, tells_then, tells_more, joined_fit}

-- ---- what is told

pub advances_none : (t : Telling) → IsSound t → Advances t t []
advances_none t sound = record { more = 0; tells = (refl, refl); count = omega arith; place = refl; sound = sound }

pub advances_then : (a b c : Telling) (lines more : List ℕ) → Advances a b lines → Advances b c more → Advances a c (lines ++ more)
advances_then a b c lines more p q = record {
  more = p.more + q.more;
  tells = tells_then p.more q.more (p.more + q.more) a.frames.bytes b.frames.bytes c.frames.bytes lines more refl p.tells q.tells;
  count = omega (arith, p.count, q.count);
  place = q.place ∙ p.place;
  sound = q.sound;
}

pub advances_one : (old new : Telling) (n : ℕ) (m : Message) → TakesNext old new (Ok (Some (n, m))) → Advances old new (message_line n m)
advances_one old new n m h = record {
  more = 1;
  tells = subst (λ (k : ℕ). Tells 1 old.frames.bytes (message_line k m) new.frames.bytes) (sym h.3) (tells_one old.frames.bytes h.0 new.frames.bytes m h.1 h.2);
  count = h.4;
  place = omega (arith, h.5, ap length h.1, length-append h.0 new.frames.bytes);
  sound = h.6;
}

pub less_held : (old new : Telling) (n : ℕ) (m : Message) → TakesNext old new (Ok (Some (n, m))) → length new.frames.bytes < length old.frames.bytes
less_held old new n m h = omega (arith, ap length h.1, length-append h.0 new.frames.bytes, message_long h.0 m h.2)

pub fed_sound : (t : Telling) (piece : List ℕ) → IsBytes piece → IsSound t → IsSound (fed t piece)
fed_sound t piece fits sound = record { few = sound.few; near = sound.near; going = refl; fits = joined_fit t.frames.bytes piece sound.fits fits }

-- and on behind a piece
pub advances_fed : (a b c : Telling) (piece lines more : List ℕ) → Advances a b lines → Advances (fed b piece) c more → Advances (fed a piece) c (lines ++ more)
advances_fed a b c piece lines more p q = record {
  more = p.more + q.more;
  tells = tells_then p.more q.more (p.more + q.more) (a.frames.bytes ++ piece) (b.frames.bytes ++ piece) c.frames.bytes lines more refl (tells_more p.more a.frames.bytes b.frames.bytes lines piece p.tells) q.tells;
  count = omega (arith, p.count, q.count);
  place = omega (arith, p.place, q.place, length-append a.frames.bytes piece, length-append b.frames.bytes piece);
  sound = q.sound;
}

-- ---- what the sink gets

pub gets_then : (stop : Dump) (a b c : Option (List ℕ)) (lines more : List ℕ) → Appends a b lines → GetsLines stop b c more → GetsLines stop a c (lines ++ more)
gets_then Finished a b c lines more p q = Appends-trans a b c lines more p q
gets_then (Refused fault) a b c lines more p q = Appends-trans a b c lines more p q
gets_then ReadFailed a b c lines more p q = Appends-trans a b c lines more p q
gets_then WriteFailed a b c lines more p q = (lines ++ q.0, q.1, ap (λ (z : List ℕ). lines ++ z) q.2 ∙ sym (append_assoc lines q.0 q.1), Appends-trans a b c lines q.0 p q.3, q.4)
gets_then Memory a b c lines more p q = Appends-trans a b c lines more p q

-- lines were told and written, and then more
pub goes_on : {X : Type 0} (a b c : Telling) (s t u : Option (List ℕ)) (f g h : ℕ) (lines : List ℕ) (r : Result X Dump)
    → Advances a b lines → Appends s t lines → g ≡ f → TellsOn b c t u g h r → TellsOn a c s u f h r
goes_on a b c s t u f g h lines (Ok x) p q same more = (lines ++ more.0, advances_then a b c lines more.0 p more.1, Appends-trans s t u lines more.0 q more.2, more.3 ∙ same)
goes_on a b c s t u f g h lines (Err stop) p q same more =
    (more.0, lines ++ more.1, advances_then a b more.0 lines more.1 p more.2, more.3, gets_then stop s t u lines more.1 q more.4, more.5 ∙ ap (λ (n : ℕ). count_after n (is_write_failed stop)) same)

-- nothing was told
pub tells_nothing : {X : Type 0} (t new : Telling) (x : X) (s : Option (List ℕ)) (f : ℕ) → IsSound t → new ≡ t → TellsOn t new s s f f (Ok x)
tells_nothing t new x s f sound same = ([], subst (λ (z : Telling). Advances t z []) (sym same) (advances_none t sound), Appends-nil s, refl)

pub out_of_memory : (X : Type 0) (t new : Telling) (s : Option (List ℕ)) (f : ℕ) → IsSound t → TellsOn {X = X} t new s s f f (Err Memory)
out_of_memory X t new s f sound = (t, [], advances_none t sound, tt, Appends-nil s, refl)

pub none_taken : (X : Type 0) (t new : Telling) (stop : Dump) (s : Option (List ℕ)) (f : ℕ) → IsSound t → TakesNext t new (Err stop) → TellsOn {X = X} t new s s f f (Err stop)
none_taken X t new Finished s f sound h = absurd h
none_taken X t new (Refused fault) s f sound h = (t, [], advances_none t sound, h, Appends-nil s, refl)
none_taken X t new ReadFailed s f sound h = absurd h
none_taken X t new WriteFailed s f sound h = absurd h
none_taken X t new Memory s f sound h = out_of_memory X t new s f sound

-- the line of a message was told, and written
pub tells_line : {X Y : Type 0} (E : Type 0) (old new : Telling) (n : ℕ) (m : Message) (line : List ℕ) (s t : Option (List ℕ)) (f g : ℕ) (y : Y) (x : X) → line ≡ message_line n m → TakesNext old new (Ok (Some (n, m)))
    → Writes {E = E} s t f g (Ok y) line → TellsOn old new s t f g (Ok x)
tells_line E old new n m line s t f g y x is h w = (line, subst (Advances old new) (sym is) (advances_one old new n m h), w.0, w.1)

-- or a write failed
pub loses_line : {E : Type 0} (X Y : Type 0) (old new : Telling) (n : ℕ) (m : Message) (line : List ℕ) (s t : Option (List ℕ)) (f g : ℕ) (e : E) → line ≡ message_line n m → TakesNext old new (Ok (Some (n, m)))
    → Writes {X = Y} s t f g (Err e) line → TellsOn {X = X} old new s t f g (Err WriteFailed)
loses_line X Y old new n m line s t f g e is h w = (new, line, subst (Advances old new) (sym is) (advances_one old new n m h), tt, w.0, w.1)
