-- How a session that ends goes on from what was read and said before.
use Rattle.std.proofs.Common.{◌≡◌, ℕ, ◌+◌, ◌<◌, inl, inr, Bool, true, false, ◌||◌, List, [], ◌∷◌, ◌++◌, length, refl, sym, ap, ◌∙◌, subst, arith, append_assoc}
use Rattle.std.specs.Prelude.{Option, Some, Result, Ok, Err}
use Rattle.ice_encoding.specs.Parts.{Each}
use Rattle.ice_ports.specs.declared.talk.Talk.{Talk}
use Rattle.ice_ports.specs.Talks.{and_then}
use Rattle.ice_messages.specs.declared.message.Message.{Message}
use Rattle.ice_messages.specs.Streams.{Stream}
use Rattle.talking.specs.declared.end.End.{End}
use Rattle.talking.specs.declared.end.End.TheVariants as ends
use Rattle.talking.specs.Ends.{end_behind_reply, IsTaken, Shows, WasSaid, IsStill, EndsBy}
use Rattle.talking.specs.Said.{all_of, IsFine, IsSaid}
use Rattle.talking.proofs.Said.{steps_said, steps_cut}

-- ---- messages that were read

pub stream_then : (ms ns : List Message) (bytes rest more left : List ℕ) → Stream bytes ms rest → Stream (rest ++ more) ns left → Stream (bytes ++ more) (ms ++ ns) left
stream_then [] ns bytes rest more left h k = subst (λ (z : List ℕ). Stream (z ++ more) ns left) (sym h) k
stream_then (m ∷ ms) ns bytes rest more left h k =
    (h.0, h.1 ++ more, ap (λ (z : List ℕ). z ++ more) h.2 ∙ append_assoc h.0 h.1 more, h.3, stream_then ms ns h.1 rest more left h.4 k)

pub taken_append : (ms ns : List Message) → Each IsTaken ms → Each IsTaken ns → Each IsTaken (ms ++ ns)
taken_append [] ns a b = b
taken_append (m ∷ ms) ns a b = (a.0, taken_append ms ns a.1 b)

-- ---- one message

-- what a message that was handled comes to
abbrev pub stepped : {E : Type 0} → Result Bool E → Result (Option End) E
stepped (Ok b) = Ok (end_behind_reply b)
stepped (Err e) = Err e

-- ---- behind what was read and said before

pub or_right : (a b : Bool) → b ≡ true → (a || b) ≡ true
or_right true b e = refl
or_right false b e = e

or_none : (a b : Bool) → a ≡ false → b ≡ false → (a || b) ≡ false
or_none true b e f = absurd cc
or_none false b e f = f

pub both_fine : (a s : Talk) → IsFine a → IsFine s → IsFine (and_then a s)
both_fine a s h k = (or_none a.ended s.ended h.0 k.0, or_none a.failed s.failed h.1 k.1)

pub shows_later : (a s : Talk) (left : List ℕ) (e : End) → Shows s left (Some e) → Shows (and_then a s) left (Some e)
shows_later a s left ends.PeerEnded h = (h.0, or_right a.ended s.ended h.1)
shows_later a s left ends.PeerClosed h = h
shows_later a s left (ends.PeerBroke fault) h = h
shows_later a s left ends.LinkFailed h = or_right a.failed s.failed h
shows_later a s left ends.Enough h = h

-- the end of the next message is the end of all
module _ (before total most : ℕ) (left : List ℕ) (reads : List Message) (a b : List (List Message)) (x y : List ℕ) (h : IsSaid (all_of a) x) (lt : before < most) (is : total ≡ before + length reads) where
  still : IsStill reads b y → (total < most) × IsSaid (all_of (a ++ b)) (x ++ y)
  still k = (let none = ap (λ (z : List Message). length z) k.0 in omega (arith, lt, is), steps_said a b x y h k.1)

  pub said_later : (e : End) → EndsBy e left reads b y → WasSaid (Some e) left total most (a ++ b) (x ++ y)
  said_later ends.PeerEnded k = still k
  said_later ends.PeerClosed k = still k
  said_later (ends.PeerBroke fault) k = still k
  said_later ends.LinkFailed (inl k) = inl (let s = still k.1 in (k.0, s.0, s.1))
  said_later ends.LinkFailed (inr k) = inr (inl (steps_cut a b x y h k))
  said_later ends.Enough k = absurd k
