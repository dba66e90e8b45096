-- The runs that show a good capture, and what each of them tells.
use Rattle.std.proofs.Common.{◌≡◌, ℕ, zero, suc, ◌+◌, ◌<◌, ◌≤◌, ◌⊎◌, inl, inr, List, [], ◌∷◌, ◌++◌, length, Option, None, Some, refl, ap, sym, ◌∙◌, subst, arith, Bool, true, false, append-nil, zero-add, length-append}
use Rattle.std.specs.Prelude.{slice_get}
use Rattle.call_world.specs.Service.{IsRefusal, free_rules}
use Rattle.call_world.specs.World.{World, Sent, Seat}
use Rattle.call_world.specs.World as world
use Rattle.call_world.specs.Step.{IsReached}
use Rattle.call_world.proofs.Lists.{get_within, get_last, get_cases}
use Rattle.ice_messages.specs.declared.message.Call.{Call}
use Rattle.ice_messages.specs.declared.message.Answer.{Answer}
use Rattle.ice_messages.specs.declared.message.Answer.TheVariants.{Done}
use Rattle.ice_messages.specs.declared.message.Message.{Message}
use Rattle.ice_messages.specs.declared.message.Message.TheVariants.{Validate}
use Rattle.ice_messages.specs.Calls.{status_of}
use Rattle.call_world.specs.Asked.{Asked, Wanted, wanted, told, twoways_of, closing, shown}
use Rattle.call_world.specs.Fits.{Fits}
use Rattle.call_world.proofs.Counted.{get_front, get_before, at_most_lem, answered_lem, refused_lem, closed_lem}
use Rattle.call_world.proofs.Showing.{get_some, show_lem}
use Rattle.call_world.proofs.Either.{either_lem, twoway_at}
use Rattle.call_world.proofs.Ordered.{order_lem}
use Rattle.call_world.proofs.Rows.{answers, replies, row_told}
use Rattle.ice_audit.specs.declared.verdict.Seen.TheVariants.{Once, Never, Either}
use Rattle.ice_audit.specs.Pieces.{Piece}
use Rattle.ice_audit.specs.Captured.{asked_in, seat_ids, first_validate, without_validates, IsGood, replies_in, reply_answers, closes}
use Rattle.ice_audit.specs.Traces.{repeatable, AreSaid, IsTrace, HasSome, GoodHasTrace, EachIsTold, NoneTwice, reply_at, flags, seen_of, seen_by, TellsIn}
use Rattle.ice_audit.proofs.Said.{ids_twoways, said_replies, said_close, kept_lem, said_told, answers_of}

-- ---- a good capture has a run

-- what the world shows of a good capture
shown_of : List Piece → List Message → List (Sent Answer)
shown_of client others = shown (asked_in client) (reply_answers (replies_in others)) (closes others)

good_said : (client : List Piece) (server : List Message) → (g : IsGood client server) → AreSaid (seat_ids client) (first_validate server) (shown_of client g.others)
unfolding shown_of
good_said client server g =
    let ids = seat_ids client in
    let rs = replies_in g.others in
    let closed = closes g.others in
    let t = said_told ids ids 0 (λ m id h. ap (slice_get ids) (zero-add m) ∙ h) rs g.more g.answered closed in
    let t1 : AreSaid ids (without_validates g.others) (told 0 (flags ids) (reply_answers rs) ++ closing closed) =
    subst (λ (ms : List Message). AreSaid ids ms (told 0 (flags ids) (reply_answers rs) ++ closing closed)) (sym (kept_lem g.others g.server_side)) t in
    let t2 : AreSaid ids (without_validates g.others) (told 0 (twoways_of (wanted 0 (asked_in client))) (reply_answers rs) ++ closing closed) =
    subst (λ (ts : List Bool). AreSaid ids (without_validates g.others) (told 0 ts (reply_answers rs) ++ closing closed)) (sym (ids_twoways client 0)) t1 in
    subst (λ (ms : List Message). AreSaid ids (first_validate ms) (shown (asked_in client) (reply_answers rs) closed)) (sym g.greeted)
    (world.Validate, told 0 (twoways_of (wanted 0 (asked_in client))) (reply_answers rs) ++ closing closed, refl, refl, t2)

done_good : ¬ IsRefusal (status_of (Done []))
done_good h = elim h [ inl a ↦ omega arith | inr a ↦ omega arith ]

good_trace : (client : List Piece) (server : List Message) (g : IsGood client server) (w : World Call Answer (Unit {0})) → IsReached (free_rules status_of) tt w
    → Fits repeatable (asked_in client) (shown_of client g.others) w → IsTrace client server w
good_trace client server g w reached fits = record {
  reached = reached;
  sent = shown_of client g.others;
  said = good_said client server g;
  fits = fits;
}

pub good_lem : GoodHasTrace
unfolding shown_of
good_lem client server g =
    let r = show_lem status_of repeatable (Done []) done_good (asked_in client) (reply_answers (replies_in g.others)) (closes g.others) in
    (r.0, good_trace client server g r.0 r.1 r.2)

-- ---- each run shows the same

answers_at : (l : List (ℕ × Answer)) (i : ℕ) (x : ℕ × Answer) → slice_get l i ≡ Some x → slice_get (answers l) i ≡ Some (world.Answer x.0 x.1)
answers_at [] i x h = absurd (let z : None ≡ Some x = h in cc)
answers_at (y ∷ l) zero x h = let e : y ≡ x = cc in ap (λ (z : ℕ × Answer). Some (world.Answer z.0 z.1)) e
answers_at (y ∷ l) (suc i) x h = answers_at l i x h

answers_from : (l : List (ℕ × Answer)) (i m : ℕ) (q : Answer) → i < length l → slice_get (answers l) i ≡ Some (world.Answer m q) → (y : ℕ × Answer) × (slice_get l i ≡ Some y) × (y.0 ≡ m)
answers_from [] i m q k h = absurd (omega arith)
answers_from (y ∷ l) zero m q k h = (y, refl, (let z : Some (world.Answer y.0 y.1) ≡ Some (world.Answer m q) = h in cc))
answers_from (y ∷ l) (suc i) m q k h = answers_from l i m q (omega arith) h

answers_length : (l : List (ℕ × Answer)) → length (answers l) ≡ length l
answers_length [] = refl
answers_length (x ∷ l) = ap suc (answers_length l)

wanted_at : (xs : List (Wanted Call)) (m : ℕ) → slice_get (twoways_of xs) m ≡ Some true → (x : Wanted Call) × (slice_get xs m ≡ Some x) × (x.twoway ≡ true)
wanted_at [] m h = absurd (let z : None ≡ Some true = h in cc)
wanted_at (x ∷ xs) zero h = (x, refl, (let z : Some x.twoway ≡ Some true = h in cc))
wanted_at (x ∷ xs) (suc m) h = wanted_at xs m h

Two : World Call Answer (Unit {0}) → ℕ → Type 0
Two w n = (s : Seat) × (slice_get (w.connections 0).asked n ≡ Some s) × (s.twoway ≡ true)

shows_told : (client : List (Asked Call)) (l : List (ℕ × Answer)) (closed : Bool) (w : World Call Answer (Unit {0})) → IsReached (free_rules status_of) tt w
    → Fits repeatable client (world.Validate ∷ (answers l ++ closing closed)) w → answers l ≡ told 0 (twoways_of (wanted 0 client)) (replies l)
unfolding Two
shows_told client l closed w reached f =
    let order = order_lem (free_rules status_of) tt w reached 0 in
    let xs = wanted 0 client in
    let k = w.connections 0 in
    let num = f.asked.number in
    let at : (i : ℕ) (x : ℕ × Answer) → slice_get l i ≡ Some x → slice_get k.answered (suc i) ≡ Some (world.Answer x.0 x.1) =
    λ i x h. ap (λ (ms : List (Sent Answer)). slice_get ms (suc i)) f.answered
    ∙ get_front (answers l ++ closing closed) f.more i (world.Answer x.0 x.1) (get_front (answers l) (closing closed) i (world.Answer x.0 x.1) (answers_at l i x h)) in
    row_told (Two w) 0 (twoways_of xs) l (record {
      seats = λ m t.
          let zero_is : 0 + m ≡ m = zero-add m in
          let s_at : slice_get k.asked m ≡ Some t.0 = ap (slice_get k.asked) (sym zero_is) ∙ t.1 in
          let within = get_within k.asked m t.0 s_at in
          let x = get_some xs m (omega arith) in
          let c = f.asked.calls m t.0 x.0 s_at x.1 in
          twoway_at xs m x.0 x.1 ∙ ap (λ (b : Bool). Some b) (sym c.asks ∙ t.2);
      twos = λ m h.
          let x = wanted_at xs m h in
          let within = get_within xs m x.0 x.1 in
          let s = get_some k.asked m (omega arith) in
          let c = f.asked.calls m s.0 x.0 s.1 x.1 in
          (s.0, ap (slice_get k.asked) (zero-add m) ∙ s.1, c.asks ∙ x.2);
      above = λ i x h. omega arith;
      asks = λ i x h. order.asks (suc i) x.0 x.1 (at i x h);
      rising = λ i j x y h g l. order.rising (suc i) (suc j) x.0 y.0 x.1 y.1 (at i x h) (at j y g) (omega arith);
      full = λ i x m h lo hi t.
          let z = order.full (suc i) x.0 x.1 m t.0 (at i x h) hi t.1 t.2 in
          let within = get_within l i x h in
          back i m z.0 z.1 within z.2 (ap (λ (ms : List (Sent Answer)). slice_get ms z.0) (sym f.answered) ∙ z.3);
    })
  where
    back : (i m j : ℕ) (q : Answer) → i < length l → j < suc i → slice_get ((world.Validate ∷ (answers l ++ closing closed)) ++ f.more) j ≡ Some (world.Answer m q)
        → (j : ℕ) × (y : ℕ × Answer) × (j < i) × (slice_get l j ≡ Some y) × (y.0 ≡ m)
    back i m zero q within low h = absurd (let z : Some world.Validate ≡ Some (world.Answer m q) = h in cc)
    back i m (suc j) q within low h =
        let len = answers_length l in
        let lens = length-append (answers l) (closing closed) in
        let a = get_before (answers l ++ closing closed) f.more j (world.Answer m q) (omega arith) h in
        let b = get_before (answers l) (closing closed) j (world.Answer m q) (omega arith) a in
        let y = answers_from l j m q (omega arith) b in
        (j, y.0, omega arith, y.1, y.2)

trace_shown : (client : List Piece) (server : List Message) (g : IsGood client server) (w : World Call Answer (Unit {0})) → IsTrace client server w
    → Fits repeatable (asked_in client) (shown_of client g.others) w
unfolding shown_of
trace_shown client server g w t =
    let ids = seat_ids client in
    let rs = replies_in g.others in
    let closed = closes g.others in
    let said : AreSaid ids (world_first g.others) t.sent = subst (λ (ms : List Message). AreSaid ids (first_validate ms) t.sent) g.greeted t.said in
    let rest : AreSaid ids (said_replies rs ++ said_close closed) said.1 =
    subst (λ (ms : List Message). AreSaid ids ms said.1) (kept_lem g.others g.server_side) said.4 in
    let a = answers_of ids rs closed said.1 rest in
    let sent : t.sent ≡ world.Validate ∷ (answers a.0 ++ closing closed) =
    said.2 ∙ (ap (λ (x : Sent Answer). x ∷ said.1) said.3 ∙ ap (λ (ms : List (Sent Answer)). world.Validate ∷ ms) a.1) in
    let f = subst (λ (ms : List (Sent Answer)). Fits repeatable (asked_in client) ms w) sent t.fits in
    let told_is = shows_told (asked_in client) a.0 closed w t.reached f in
    let same : answers a.0 ≡ told 0 (twoways_of (wanted 0 (asked_in client))) (reply_answers rs) =
    told_is ∙ ap (λ (qs : List Answer). told 0 (twoways_of (wanted 0 (asked_in client))) qs) a.2 in
    subst (λ (ms : List (Sent Answer)). Fits repeatable (asked_in client) (world.Validate ∷ (ms ++ closing closed)) w) same f
  where
    world_first : List Message → List Message
    world_first ms = Validate ∷ without_validates ms

-- ---- what is told of a call

reply_told : (b : ℕ) (ts : List Bool) (rs : List Answer) (n : ℕ) (r : Answer) → reply_at ts rs n ≡ Some r → (m : ℕ) × (slice_get (told b ts rs) m ≡ Some (world.Answer (b + n) r))
reply_told b [] rs n r h = absurd (let z : None ≡ Some r = h in cc)
reply_told b (false ∷ ts) rs zero r h = absurd (let z : None ≡ Some r = h in cc)
reply_told b (false ∷ ts) rs (suc n) r h =
    let t = reply_told (suc b) ts rs n r h in
    (t.0, t.1 ∙ ap (λ (m : ℕ). Some (world.Answer m r)) (let e : suc b + n ≡ b + suc n = omega arith in e))
reply_told b (true ∷ ts) [] n r h = absurd (let z : None ≡ Some r = h in cc)
reply_told b (true ∷ ts) (q ∷ rs) zero r h =
    (0, ap (λ (x : Answer). Some (world.Answer b x)) (let e : q ≡ r = cc in e) ∙ ap (λ (m : ℕ). Some (world.Answer m r)) (let e : b ≡ b + 0 = omega arith in e))
reply_told b (true ∷ ts) (q ∷ rs) (suc n) r h =
    let t = reply_told (suc b) ts rs n r h in
    (suc t.0, t.1 ∙ ap (λ (m : ℕ). Some (world.Answer m r)) (let e : suc b + n ≡ b + suc n = omega arith in e))

no_reply : (b : ℕ) (ts : List Bool) (rs : List Answer) (n : ℕ) → reply_at ts rs n ≡ None → slice_get ts n ≡ Some true
    → (m : ℕ) (r : Answer) → ¬ (slice_get (told b ts rs) m ≡ Some (world.Answer (b + n) r))
no_reply b [] rs n h two m r g = let z : None ≡ Some true = two in cc
no_reply b (false ∷ ts) rs zero h two m r g = let z : Some false ≡ Some true = two in cc
no_reply b (false ∷ ts) rs (suc n) h two m r g =
    no_reply (suc b) ts rs n h two m r (g ∙ ap (λ (i : ℕ). Some (world.Answer i r)) (let e : b + suc n ≡ suc b + n = omega arith in e))
no_reply b (true ∷ ts) [] n h two m r g = let z : None ≡ Some (world.Answer (b + n) r) = g in cc
no_reply b (true ∷ ts) (q ∷ rs) zero h two m r g = let z : Some q ≡ None = h in cc
no_reply b (true ∷ ts) (q ∷ rs) (suc n) h two zero r g =
    let z : Some (world.Answer b q) ≡ Some (world.Answer (b + suc n) r) = g in
    let e : b ≡ b + suc n = cc in
    omega arith
no_reply b (true ∷ ts) (q ∷ rs) (suc n) h two (suc m) r g =
    no_reply (suc b) ts rs n h two m r (g ∙ ap (λ (i : ℕ). Some (world.Answer i r)) (let e : b + suc n ≡ suc b + n = omega arith in e))

seen_cases : (n : ℕ) → (IsRefusal n × (seen_by n ≡ Never)) ⊎ ((¬ IsRefusal n) × (seen_by n ≡ Once))
seen_cases zero = inr ((λ h. elim h [ inl a ↦ omega arith | inr a ↦ omega arith ]), refl)
seen_cases (suc zero) = inr ((λ h. elim h [ inl a ↦ omega arith | inr a ↦ omega arith ]), refl)
seen_cases (suc (suc zero)) = inl (inl refl, refl)
seen_cases (suc (suc (suc zero))) = inl (inr refl, refl)
seen_cases (suc (suc (suc (suc n)))) = inr ((λ h. elim h [ inl a ↦ omega arith | inr a ↦ omega arith ]), refl)

module _ (client : List Piece) (server : List Message) (g : IsGood client server) (seat : ℕ) (two : slice_get (flags (seat_ids client)) seat ≡ Some true) where
  ts : List Bool
  ts = twoways_of (wanted 0 (asked_in client))

  rs : List Answer
  rs = reply_answers (replies_in g.others)

  two_here : slice_get ts seat ≡ Some true
  unfolding ts
  two_here = ap (λ (l : List Bool). slice_get l seat) (ids_twoways client 0) ∙ two

  stands : (a : Answer) → reply_at ts rs seat ≡ Some a → (m : ℕ) × (slice_get (shown_of client g.others) m ≡ Some (world.Answer seat a))
  unfolding shown_of ts rs
  stands a h =
      let t = reply_told 0 ts rs seat a h in
      (suc t.0, get_front (told 0 ts rs) (closing (closes g.others)) t.0 (world.Answer seat a) (t.1 ∙ ap (λ (m : ℕ). Some (world.Answer m a)) (zero-add seat)))

  lacks : (closed : Bool) → reply_at ts rs seat ≡ None → (n : ℕ) (r : Answer) → ¬ (slice_get (shown (asked_in client) rs closed) n ≡ Some (world.Answer seat r))
  unfolding ts
  lacks closed h zero r e = let z : Some world.Validate ≡ Some (world.Answer seat r) = e in cc
  lacks closed h (suc n) r e = behind closed (split closed n (world.Answer seat r) e) where
    split : (closed : Bool) (n : ℕ) (x : Sent Answer) → slice_get (told 0 ts rs ++ closing closed) n ≡ Some x → (slice_get (told 0 ts rs) n ≡ Some x) ⊎ (world.Close ≡ x)
    split true n x k = elim (get_cases (told 0 ts rs) world.Close n x k) [ inl a ↦ inl a | inr b ↦ inr b.1 ]
    split false n x k = inl (ap (λ (l : List (Sent Answer)). slice_get l n) (sym (append-nil (told 0 ts rs))) ∙ k)

    behind : (closed : Bool) → (slice_get (told 0 ts rs) n ≡ Some (world.Answer seat r)) ⊎ (world.Close ≡ world.Answer seat r) → ⊥
    behind closed (inl a) = no_reply 0 ts rs seat h two_here n r (a ∙ ap (λ (m : ℕ). Some (world.Answer m r)) (sym (zero-add seat)))
    behind closed (inr b) = let z : world.Close ≡ world.Answer seat r = b in cc

  has_reply : (a : Answer) → reply_at ts rs seat ≡ Some a → TellsIn (IsTrace client server) seat (seen_by (status_of a))
  has_reply a h =
      let s = stands a h in
      elim (seen_cases (status_of a)) [
        | inl bad ↦ subst (TellsIn (IsTrace client server) seat) (sym bad.1) (λ w x t at.
            refused_lem status_of repeatable (asked_in client) (shown_of client g.others) seat s.0 a s.1 bad.0 w x t.reached (trace_shown client server g w t) at)
        | inr good ↦ subst (TellsIn (IsTrace client server) seat) (sym good.1) (λ w x t at.
            answered_lem status_of repeatable (asked_in client) (shown_of client g.others) seat s.0 a s.1 good.0 w x t.reached (trace_shown client server g w t) at)
      ]

  no_reply_closed : reply_at ts rs seat ≡ None → closes g.others ≡ true → TellsIn (IsTrace client server) seat Never
  unfolding shown_of ts rs
  no_reply_closed h closed w s t at =
      let x = wanted_at (wanted 0 (asked_in client)) seat two_here in
      let shows = subst (λ (b : Bool). Fits repeatable (asked_in client) (shown (asked_in client) rs b) w) closed (trace_shown client server g w t) in
      closed_lem status_of repeatable (asked_in client) (shown (asked_in client) rs true) seat (suc (length (told 0 ts rs))) x.0 x.1 x.2
      (get_last (told 0 ts rs) world.Close) (lacks true h) w s t.reached shows at

  no_reply_open : reply_at ts rs seat ≡ None → closes g.others ≡ false → TellsIn (IsTrace client server) seat Either
  unfolding shown_of ts rs
  no_reply_open h closed =
      let x = wanted_at (wanted 0 (asked_in client)) seat two_here in
      let each = either_lem status_of repeatable (Done []) done_good (asked_in client) rs seat x.0 x.1 x.2 (lacks false h) in
      let run : (n : ℕ) → n ≤ 1 → HasSome (IsTrace client server) seat n = λ n l.
      let r = each n l in
      (r.0, r.1, good_trace client server g r.0 r.2 (subst (λ (b : Bool). Fits repeatable (asked_in client) (shown (asked_in client) rs b) r.0) (sym closed) r.3), r.4, r.5) in
      (run 0 (omega arith), run 1 (omega arith))

  told_by : (o : Option Answer) → reply_at ts rs seat ≡ o → (b : Bool) → closes g.others ≡ b → TellsIn (IsTrace client server) seat (seen_of o b)
  told_by (Some a) h b c = has_reply a h
  told_by None h true c = no_reply_closed h c
  told_by None h false c = no_reply_open h c

  is_told : TellsIn (IsTrace client server) seat (seen_of (reply_at ts rs seat) (closes g.others))
  is_told = told_by (reply_at ts rs seat) refl (closes g.others) refl

pub told_lem : EachIsTold
unfolding ts rs
told_lem client server g seat two =
    let a = is_told client server g seat two in
    let b = subst (λ (l : List Bool). TellsIn (IsTrace client server) seat (seen_of (reply_at l (reply_answers (replies_in g.others)) seat) (closes g.others))) (ids_twoways client 0) a in
    subst (λ (ms : List Message). TellsIn (IsTrace client server) seat (seen_of (reply_at (flags (seat_ids client)) (reply_answers (replies_in ms)) seat) (closes ms))) (sym g.greeted) b

pub twice_lem : NoneTwice
twice_lem client server seat w s t at = at_most_lem status_of repeatable (asked_in client) t.sent seat w s t.reached t.fits at
