-- A capture has one verdict.
use Rattle.std.proofs.Common.{◌≡◌, ℕ, ℤ, pos, zero, suc, ◌+◌, ◌<◌, ◌≤◌, ◌⊎◌, inl, inr, List, [], ◌∷◌, length, Option, None, Some, refl, ap, sym, ◌∙◌, subst, arith, Bool, true, false}
use Rattle.std.specs.Prelude.{slice_get, get_or}
use Rattle.std.proofs.lemmas.Option.{slice_get-get_or}
use Rattle.call_world.specs.World.{World, Seat}
use Rattle.call_world.specs.Counts.{count}
use Rattle.ice_prims.specs.declared.fault.Fault.{Fault}
use Rattle.ice_prims.specs.declared.fault.Kind.TheVariants.{NotValidated}
use Rattle.ice_messages.specs.declared.message.Call.{Call}
use Rattle.ice_messages.specs.declared.message.Answer.{Answer}
use Rattle.ice_messages.specs.declared.message.Message.{Message}
use Rattle.ice_messages.specs.declared.message.Message.TheVariants.{Request, Batch, Reply, Validate, Close}
use Rattle.call_world.specs.Asked.{Wanted, wanted, twoways_of}
use Rattle.ice_audit.specs.declared.stop.Stop.{Stop}
use Rattle.ice_audit.specs.declared.stop.Stage.TheVariants.{Fresh, Open}
use Rattle.ice_audit.specs.declared.verdict.Seen.{Seen}
use Rattle.ice_audit.specs.declared.verdict.Seen.TheVariants.{Once, Never, Either}
use Rattle.ice_audit.specs.declared.verdict.Line.{Line}
use Rattle.ice_audit.specs.declared.verdict.Side.{Side}
use Rattle.ice_audit.specs.declared.verdict.Side.TheVariants.{Client, Server}
use Rattle.ice_audit.specs.declared.verdict.Why.{Why}
use Rattle.ice_audit.specs.declared.verdict.Why.TheVariants.{Bytes}
use Rattle.ice_audit.specs.declared.verdict.Verdict.{Verdict}
use Rattle.ice_audit.specs.declared.verdict.Verdict.TheVariants.{Yes, No}
use Rattle.ice_audit.specs.Pieces.{Piece, IsRead}
use Rattle.ice_audit.specs.Captured.{is_asked, asked_in, seat_ids, ids_by, batch_ids, due}
use Rattle.ice_audit.specs.Traces.{flags, TellsIn}
use Rattle.ice_audit.specs.Stops.{client_stop, server_stop}
use Rattle.ice_audit.specs.Captures.{Trace, RequestTells, BatchTells, SomeTell, OneTells, LinesTell}
use Rattle.ice_audit.specs.Verdicts.{AreShort, Stops, client_long, server_long, client_wrong, server_wrong, no_validate, IsTold, Judges}
use Rattle.ice_audit.proofs.Said.{ids_twoways}
use Rattle.ice_audit.proofs.Bytes.{read_one}

-- ---- the lines

abbrev Run : Type 0
Run = World Call Answer (Unit {0})

-- the calls with these ids have seats in the run, the first of them this one
abbrev AreSeated : Run → ℕ → List ℤ → Type 0
AreSeated w seat ids = (n : ℕ) → n < length ids → (s : Seat) × (slice_get (w.connections 0).asked (seat + n) ≡ Some s)

seated_later : (w : Run) (seat : ℕ) (id : ℤ) (ids : List ℤ) → AreSeated w seat (id ∷ ids) → AreSeated w (suc seat) ids
seated_later w seat id ids seats n within =
    let s = seats (suc n) (omega (arith, within)) in
    (s.0, ap (slice_get (w.connections 0).asked) (let q : suc seat + n ≡ seat + suc n = omega arith in q) ∙ s.1)

seated_behind : (w : Run) (cs : List Call) (seat : ℕ) (ids : List ℤ) → AreSeated w seat (batch_ids cs ids) → AreSeated w (seat + length cs) ids
seated_behind w [] seat ids seats = subst (λ (m : ℕ). AreSeated w m ids) (let q : seat ≡ seat + 0 = omega arith in q) seats
seated_behind w (c ∷ cs) seat ids seats =
    subst (λ (m : ℕ). AreSeated w m ids) (let q : suc seat + length cs ≡ seat + suc (length cs) = omega arith in q)
    (seated_behind w cs (suc seat) ids (seated_later w seat (pos 0) (batch_ids cs ids) seats))

same_line : (l k : Line) → l.id ≡ k.id → l.calls ≡ k.calls → l.batch ≡ k.batch → l.seen ≡ k.seen → l ≡ k
same_line l k id calls batch seen = λ i. record { id = id i; calls = calls i; batch = batch i; seen = seen i }

module _ (IsRun : Run → Type 0) (w : Run) (run : IsRun w) where
  -- a call with a seat in a run has one number of dispatches there
  one_seen : (seat : ℕ) (s : Seat) → slice_get (w.connections 0).asked seat ≡ Some s → (a b : Seen) → TellsIn IsRun seat a → TellsIn IsRun seat b → a ≡ b
  one_seen seat s at Once Once p q = refl
  one_seen seat s at Once Never p q = absurd (omega (arith, p w s run at, q w s run at))
  one_seen seat s at Once Either p (q, _) = absurd (omega (arith, p q.0 q.1 q.2 q.3, q.4))
  one_seen seat s at Never Once p q = absurd (omega (arith, p w s run at, q w s run at))
  one_seen seat s at Never Never p q = refl
  one_seen seat s at Never Either p (_, q) = absurd (omega (arith, p q.0 q.1 q.2 q.3, q.4))
  one_seen seat s at Either Once (p, _) q = absurd (omega (arith, q p.0 p.1 p.2 p.3, p.4))
  one_seen seat s at Either Never (_, p) q = absurd (omega (arith, q p.0 p.1 p.2 p.3, p.4))
  one_seen seat s at Either Either p q = refl

  request_seen : (seat : ℕ) (id : ℤ) (s : Seat) → slice_get (w.connections 0).asked seat ≡ Some s → (l k : Line) → RequestTells IsRun seat id l → RequestTells IsRun seat id k
      → (asks : Bool) → is_asked id ≡ asks → l.seen ≡ k.seen
  request_seen seat id s at l k p q true e = one_seen seat s at l.seen k.seen (p.replied e) (q.replied e)
  request_seen seat id s at l k p q false e = p.oneway e ∙ sym (q.oneway e)

  one_request : (seat : ℕ) (id : ℤ) (s : Seat) → slice_get (w.connections 0).asked seat ≡ Some s → (l k : Line) → RequestTells IsRun seat id l → RequestTells IsRun seat id k → l ≡ k
  one_request seat id s at l k p q =
      same_line l k (p.named ∙ sym q.named) (p.single.0 ∙ sym q.single.0) (p.single.1 ∙ sym q.single.1) (request_seen seat id s at l k p q (is_asked id) refl)

  one_batch : (seat : ℕ) (cs : List Call) (l k : Line) → BatchTells IsRun seat cs l → BatchTells IsRun seat cs k → l ≡ k
  one_batch seat cs l k p q =
      same_line l k (p.named ∙ sym q.named) (p.several.0 ∙ sym q.several.0) (p.several.1 ∙ sym q.several.1) (p.oneway ∙ sym q.oneway)

  joined : (l k : Line) (ls ks others more : List Line) → ls ≡ l ∷ others → ks ≡ k ∷ more → l ≡ k → others ≡ more → ls ≡ ks
  joined l k ls ks others more p q line rest = p ∙ (λ i. line i ∷ rest i) ∙ sym q

  one_lines : (ps : List Piece) (seat : ℕ) → AreSeated w seat (seat_ids ps) → (ls ks : List Line) → LinesTell IsRun seat ps ls → LinesTell IsRun seat ps ks → ls ≡ ks
  one_lines [] seat seats ls ks p q = p ∙ sym q
  one_lines (piece ∷ ps) seat seats ls ks p q = by piece.0 (λ s others. one_lines ps s others) seats p q where
    batch : (cs : List Call) → (AreSeated w (seat + length cs) (seat_ids ps) → (a b : List Line) → LinesTell IsRun (seat + length cs) ps a → LinesTell IsRun (seat + length cs) ps b → a ≡ b)
        → AreSeated w seat (batch_ids cs (seat_ids ps)) → SomeTell IsRun cs seat (λ s others. LinesTell IsRun s ps others) ls
        → SomeTell IsRun cs seat (λ s others. LinesTell IsRun s ps others) ks → ls ≡ ks
    batch [] go seats p q =
        let here : seat ≡ seat + 0 = omega arith in
        go (subst (λ (m : ℕ). AreSeated w m (seat_ids ps)) here seats) ls ks (subst (λ (m : ℕ). LinesTell IsRun m ps ls) here p) (subst (λ (m : ℕ). LinesTell IsRun m ps ks) here q)
    batch (c ∷ cs) go seats (l, others, e, tells, rest) (k, more, f, told, behind) =
        joined l k ls ks others more e f (one_batch seat (c ∷ cs) l k tells told) (go (seated_behind w (c ∷ cs) seat (seat_ids ps) seats) others more rest behind)

    by : (m : Message) → ((s : ℕ) → AreSeated w s (seat_ids ps) → (a b : List Line) → LinesTell IsRun s ps a → LinesTell IsRun s ps b → a ≡ b)
        → AreSeated w seat (ids_by m (seat_ids ps)) → OneTells IsRun seat m (λ s others. LinesTell IsRun s ps others) ls
        → OneTells IsRun seat m (λ s others. LinesTell IsRun s ps others) ks → ls ≡ ks
    by (Request id c) go seats (l, others, e, tells, rest) (k, more, f, told, behind) =
        let s = seats 0 (omega arith) in
        let at : slice_get (w.connections 0).asked seat ≡ Some s.0 = ap (slice_get (w.connections 0).asked) (let q : seat ≡ seat + 0 = omega arith in q) ∙ s.1 in
        joined l k ls ks others more e f (one_request seat id s.0 at l k tells told) (go (suc seat) (seated_later w seat id (seat_ids ps) seats) others more rest behind)
    by (Batch calls) go seats p q = batch calls (go (seat + length calls)) seats p q
    by (Reply id a) go seats p q = go seat seats ls ks p q
    by Validate go seats p q = go seat seats ls ks p q
    by Close go seats p q = go seat seats ls ks p q

-- ---- the seats of a run

flags_length : (ids : List ℤ) → length (flags ids) ≡ length ids
flags_length [] = refl
flags_length (id ∷ ids) = ap suc (flags_length ids)

twoways_length : (xs : List (Wanted Call)) → length (twoways_of xs) ≡ length xs
twoways_length [] = refl
twoways_length (x ∷ xs) = ap suc (twoways_length xs)

trace_seated : (client server : List ℕ) (w : Run) (t : Trace client server w) → AreSeated w 0 (seat_ids t.asked)
trace_seated client server w t n within =
    let items = wanted 0 (asked_in t.asked) in
    let same : length items ≡ length (seat_ids t.asked) = sym (twoways_length items) ∙ (ap (λ (l : List Bool). length l) (ids_twoways t.asked 0) ∙ flags_length (seat_ids t.asked)) in
    let number : length (w.connections 0).asked ≡ length items = t.trace.fits.asked.number in
    let none : Seat = record { invocation = 0; twoway = false; ends = 0 } in
    let here : 0 + n ≡ n = omega arith in
    (get_or (w.connections 0).asked n none, ap (slice_get (w.connections 0).asked) here ∙ slice_get-get_or (w.connections 0).asked n none (omega (arith, within, same, number)))

told_once : (client server : List ℕ) (ls ks : List Line) → IsTold client server ls → IsTold client server ks → ls ≡ ks
told_once client server ls ks p q =
    let w = p.run.0 in
    let t = p.run.1 in
    let asked : t.asked ≡ p.good.asked = (read_one client t.asked p.good.asked None None t.whole.asked_whole p.good.whole.asked_whole).0 in
    let same : q.good.asked ≡ p.good.asked = (read_one client q.good.asked p.good.asked None None q.good.whole.asked_whole p.good.whole.asked_whole).0 in
    let seats = subst (λ (ps : List Piece). AreSeated w 0 (seat_ids ps)) asked (trace_seated client server w t) in
    one_lines (Trace client server) w t p.good.asked 0 seats ls ks p.lines_tell (subst (λ (ps : List Piece). LinesTell (Trace client server) 0 ps ks) same q.lines_tell)

-- ---- the first cause

no_stop : {s : Stop} → ◌≡◌ {A = Option Stop} None (Some s) → ⊥
no_stop e = cc

same_stop : {s t : Stop} → ◌≡◌ {A = Option Stop} (Some s) (Some t) → s ≡ t
same_stop e = cc

module _ (client server : List ℕ) where
  -- what the client's bytes are read as, and their first cause
  client_one : (ps qs : List Piece) (end other : Option Fault) (a b : Option Stop) → IsRead client ps end → client_stop 0 Open ps end ≡ a → IsRead client qs other → client_stop 0 Open qs other ≡ b → a ≡ b
  client_one ps qs end other a b r e s f =
      let same = read_one client ps qs end other r s in
      sym e ∙ ((λ i. client_stop 0 Open (same.0 i) (same.1 i)) ∙ f)

  -- of the server's bytes
  server_one : (asked posed ps qs : List Piece) (end other : Option Fault) (a b : Option Stop) → IsRead client asked None → IsRead server ps end → server_stop 0 Fresh (due (seat_ids asked)) ps end ≡ a
      → IsRead client posed None → IsRead server qs other → server_stop 0 Fresh (due (seat_ids posed)) qs other ≡ b → a ≡ b
  server_one asked posed ps qs end other a b q r e p s f =
      let both = read_one client asked posed None None q p in
      let same = read_one server ps qs end other r s in
      sym e ∙ ((λ i. server_stop 0 Fresh (due (seat_ids (both.0 i))) (same.0 i) (same.1 i)) ∙ f)

  one_stop : (a b : Side) (n m : ℕ) (v w : Why) → Stops client server a n v → Stops client server b m w → No a n v ≡ No b m w
  one_stop a b n m v w (client_long h) (client_long k) = refl
  one_stop a b n m v w (client_long h) (server_long k l) = absurd (omega (arith, h, k))
  one_stop a b n m v w (client_long h) (client_wrong k ps end stop r e) = absurd (omega (arith, h, k.0))
  one_stop a b n m v w (client_long h) (server_wrong k ps qs end stop r e s f) = absurd (omega (arith, h, k.0))
  one_stop a b n m v w (client_long h) (no_validate k ps r e s some) = absurd (omega (arith, h, k.0))
  one_stop a b n m v w (server_long h g) (client_long k) = absurd (omega (arith, h, k))
  one_stop a b n m v w (server_long h g) (server_long k l) = refl
  one_stop a b n m v w (server_long h g) (client_wrong k ps end stop r e) = absurd (omega (arith, g, k.1))
  one_stop a b n m v w (server_long h g) (server_wrong k ps qs end stop r e s f) = absurd (omega (arith, g, k.1))
  one_stop a b n m v w (server_long h g) (no_validate k ps r e s some) = absurd (omega (arith, g, k.1))
  one_stop a b n m v w (client_wrong h xs end stop r e) (client_long k) = absurd (omega (arith, k, h.0))
  one_stop a b n m v w (client_wrong h xs end stop r e) (server_long k l) = absurd (omega (arith, l, h.1))
  one_stop a b n m v w (client_wrong h xs end stop r e) (client_wrong k ps other next_ s f) =
      let same = same_stop (client_one xs ps end other (Some stop) (Some next_) r e s f) in
      λ i. No Client (same i).place (same i).why
  one_stop a b n m v w (client_wrong h xs end stop r e) (server_wrong k ps qs other next_ s f t g) = absurd (no_stop (sym (client_one xs ps end None (Some stop) None r e s f)))
  one_stop a b n m v w (client_wrong h xs end stop r e) (no_validate k ps s f t some) = absurd (no_stop (sym (client_one xs ps end None (Some stop) None r e s f)))
  one_stop a b n m v w (server_wrong h xs ys end stop r e s f) (client_long k) = absurd (omega (arith, k, h.0))
  one_stop a b n m v w (server_wrong h xs ys end stop r e s f) (server_long k l) = absurd (omega (arith, l, h.1))
  one_stop a b n m v w (server_wrong h xs ys end stop r e s f) (client_wrong k ps other next_ t g) = absurd (no_stop (client_one xs ps None other None (Some next_) r e t g))
  one_stop a b n m v w (server_wrong h xs ys end stop r e s f) (server_wrong k ps qs other next_ t g u l) =
      let same = same_stop (server_one xs ps ys qs end other (Some stop) (Some next_) r s f t u l) in
      λ i. No Server (same i).place (same i).why
  one_stop a b n m v w (server_wrong h xs ys end stop r e s f) (no_validate k ps t g u some) = absurd (no_stop (sym (server_one xs ps ys [] end None (Some stop) None r s f t u refl)))
  one_stop a b n m v w (no_validate h xs r e s some) (client_long k) = absurd (omega (arith, k, h.0))
  one_stop a b n m v w (no_validate h xs r e s some) (server_long k l) = absurd (omega (arith, l, h.1))
  one_stop a b n m v w (no_validate h xs r e s some) (client_wrong k ps other next_ t g) = absurd (no_stop (client_one xs ps None other None (Some next_) r e t g))
  one_stop a b n m v w (no_validate h xs r e s some) (server_wrong k ps qs other next_ t g u l) = absurd (no_stop (server_one xs ps [] qs None other None (Some next_) r s refl t u l))
  one_stop a b n m v w (no_validate h xs r e s some) (no_validate k ps t g u others) = refl

  pub one_verdict : (a b : Verdict) → Judges client server a → Judges client server b → a ≡ b
  one_verdict (Yes ls) (Yes ks) p q = ap Yes (told_once client server ls ks p q)
  one_verdict (Yes ls) (No side place why) p q = absurd (q.1 (p.short, p.good))
  one_verdict (No side place why) (Yes ks) p q = absurd (p.1 (q.short, q.good))
  one_verdict (No a n v) (No b m w) p q = one_stop a b n m v w p.0 q.0
