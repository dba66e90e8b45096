-- Clients and servers that are matched, each session within its attempt.
use Rattle.std.proofs.Common.{◌≡◌, ℕ, zero, suc, ◌+◌, List, [], ◌∷◌, Option, None, Some, refl, ap, sym, ◌∙◌, subst, arith, map, zero-add}
use Rattle.std.specs.Prelude.{slice_get}
use Rattle.ice_encoding.specs.Parts.{Each}
use Rattle.ice_client.specs.ClientDid.{ClientDid, Tried}
use Rattle.once_law.specs.Ends.{Session, Attempted, Delivery, tried_of, IsMet, HasOtherEnd, IsDelivery}
use Rattle.once_law.specs.Shown.{CallWorld}
use Rattle.once_law.specs.Matched.{Client, IsClient, Matching, session_at, AreMatched, attempts_from, joined_from, joined}
use Rattle.once_law.specs.Laws.{IsWorldOf, SessionsDispatched, MatchedEndsAreOneWorld}
use Rattle.once_law.proofs.Lists.{none_some, none_at, first_is}
use Rattle.once_law.proofs.Deliveries.{one_world}

module _ (sessions : List Session) (other : Matching) where
  tried_are : (d n : ℕ) (tried : List Tried) → map tried_of (attempts_from sessions other d n tried) ≡ tried
  tried_are d n [] = refl
  tried_are d n (t ∷ tried) = ap (λ (ts : List Tried). t ∷ ts) (tried_are d (suc n) tried)

  ends_fit : (d n : ℕ) (tried : List Tried)
      → ((k : ℕ) (t : Tried) → slice_get tried k ≡ Some t → IsMet t.talk (session_at sessions (other d (n + k))))
      → Each HasOtherEnd (attempts_from sessions other d n tried)
  ends_fit d n [] fit = tt
  ends_fit d n (t ∷ tried) fit = (
    subst (λ (k : ℕ). IsMet t.talk (session_at sessions (other d k))) (let e : n + 0 ≡ n = omega arith in e) (fit 0 t refl),
    ends_fit d (suc n) tried (λ k u h.
        subst (λ (j : ℕ). IsMet u.talk (session_at sessions (other d j))) (let e : n + suc k ≡ suc n + k = omega arith in e) (fit (suc k) u h)),
  )

  deliveries : (d : ℕ) (clients : List Client)
      → ((k : ℕ) (c : Client) → slice_get clients k ≡ Some c
      → IsClient c × ((n : ℕ) (t : Tried) → slice_get c.tried n ≡ Some t → IsMet t.talk (session_at sessions (other (d + k) n))))
      → Each IsDelivery (joined_from sessions other d clients)
  deliveries d [] each = tt
  deliveries d (c ∷ clients) each =
      let one = each 0 c refl in
      let same : d + 0 ≡ d = omega arith in (
        record {
          sent = one.0.0;
          client = subst (λ (ts : List Tried). ClientDid c.message c.retries ts c.outcome) (sym (tried_are d 0 c.tried)) one.0.1;
          ends = ends_fit d 0 c.tried (λ k t h.
              subst (λ (j : ℕ). IsMet t.talk (session_at sessions (other d j))) (let e : k ≡ 0 + k = omega arith in e)
              (subst (λ (j : ℕ). IsMet t.talk (session_at sessions (other j k))) same (one.1 k t h)));
        },
        deliveries (suc d) clients (λ k b h.
            let more = each (suc k) b h in
            let e : d + suc k ≡ suc d + k = omega arith in
            (more.0, λ n t g. subst (λ (j : ℕ). IsMet t.talk (session_at sessions (other j n))) e (more.1 n t g))),
      )

-- ---- which session is where

module _ (sessions : List Session) (other : Matching) where
  attempt_back : (d k : ℕ) (tried : List Tried) (n : ℕ) (a : Attempted) → slice_get (attempts_from sessions other d k tried) n ≡ Some a
      → a.session ≡ session_at sessions (other d (k + n))
  attempt_back d k [] n a h = absurd (none_at n a h)
  attempt_back d k (t ∷ tried) zero a h =
      let e : k ≡ k + 0 = omega arith in
      sym (ap (λ (x : Attempted). x.session) (first_is (record { tried = t; session = session_at sessions (other d k) }) a h))
      ∙ ap (λ (j : ℕ). session_at sessions (other d j)) e
  attempt_back d k (t ∷ tried) (suc n) a h =
      let e : suc k + n ≡ k + suc n = omega arith in
      attempt_back d (suc k) tried n a h ∙ ap (λ (j : ℕ). session_at sessions (other d j)) e

  session_back : (d : ℕ) (clients : List Client) (number n : ℕ) (x : Delivery) (a : Attempted) → slice_get (joined_from sessions other d clients) number ≡ Some x
      → slice_get x.attempts n ≡ Some a → a.session ≡ session_at sessions (other (d + number) n)
  session_back d [] number n x a h g = absurd (none_at number x h)
  session_back d (c ∷ clients) zero n x a h g =
      let same = first_is (record { message = c.message; retries = c.retries; attempts = attempts_from sessions other d 0 c.tried; outcome = c.outcome }) x h in
      let e : d ≡ d + 0 = omega arith in
      attempt_back d 0 c.tried n a (ap (λ (y : Delivery). slice_get y.attempts n) same ∙ g)
      ∙ (ap (λ (j : ℕ). session_at sessions (other d j)) (zero-add n) ∙ ap (λ (j : ℕ). session_at sessions (other j n)) e)
  session_back d (c ∷ clients) (suc number) n x a h g =
      let e : suc d + number ≡ d + suc number = omega arith in
      session_back (suc d) clients number n x a h g ∙ ap (λ (j : ℕ). session_at sessions (other j n)) e

  numbered : (o : Option ℕ) (x : Session) → session_at sessions o ≡ Some x → (s : ℕ) × (o ≡ Some s) × (slice_get sessions s ≡ Some x)
  numbered None x e = absurd (none_some e)
  numbered (Some s) x e = (s, refl, e)

  attempt_in : (d k : ℕ) (tried : List Tried) (n : ℕ) (t : Tried) → slice_get tried n ≡ Some t
      → slice_get (attempts_from sessions other d k tried) n ≡ Some (record { tried = t; session = session_at sessions (other d (k + n)) })
  attempt_in d k [] n t h = absurd (none_at n t h)
  attempt_in d k (u ∷ tried) zero t h =
      let e : k ≡ k + 0 = omega arith in
      ap (λ (v : Tried). Some (record { tried = v; session = session_at sessions (other d k) })) (first_is u t h)
      ∙ ap (λ (j : ℕ). Some (record { tried = t; session = session_at sessions (other d j) })) e
  attempt_in d k (u ∷ tried) (suc n) t h =
      let e : suc k + n ≡ k + suc n = omega arith in
      attempt_in d (suc k) tried n t h ∙ ap (λ (j : ℕ). Some (record { tried = t; session = session_at sessions (other d j) })) e

  client_in : (d : ℕ) (clients : List Client) (number n : ℕ) (c : Client) (t : Tried) → slice_get clients number ≡ Some c → slice_get c.tried n ≡ Some t
      → (x : Delivery) × (slice_get (joined_from sessions other d clients) number ≡ Some x)
      × (slice_get x.attempts n ≡ Some (record { tried = t; session = session_at sessions (other (d + number) n) }))
  client_in d [] number n c t h g = absurd (none_at number c h)
  client_in d (b ∷ clients) zero n c t h g =
      let same : b ≡ c = first_is b c h in
      let e : d ≡ d + 0 = omega arith in (
        record { message = b.message; retries = b.retries; attempts = attempts_from sessions other d 0 b.tried; outcome = b.outcome },
        refl,
        attempt_in d 0 b.tried n t (ap (λ (y : Client). slice_get y.tried n) same ∙ g)
            ∙ (ap (λ (j : ℕ). Some (record { tried = t; session = session_at sessions (other d j) })) (zero-add n)
            ∙ ap (λ (j : ℕ). Some (record { tried = t; session = session_at sessions (other j n) })) e),
      )
  client_in d (b ∷ clients) (suc number) n c t h g =
      let m = client_in (suc d) clients number n c t h g in
      let e : suc d + number ≡ d + suc number = omega arith in
      (m.0, m.1, m.2 ∙ ap (λ (j : ℕ). Some (record { tried = t; session = session_at sessions (other j n) })) e)

sessions_dispatched : (clients : List Client) (sessions : List Session) (other : Matching) → AreMatched clients sessions other → (w : CallWorld)
    → IsWorldOf w (joined clients sessions other) → SessionsDispatched w clients sessions other
sessions_dispatched clients sessions other m w k = record {
  entries = λ index x at.
      let t = k.dispatches index x at in
      let turn = t.5 in
      let back = session_back sessions other 0 clients t.0 t.1 t.2 turn.attempt t.3 turn.at in
      let s = numbered sessions other (other (0 + t.0) t.1) turn.session (sym back ∙ turn.served) in
      let met : other t.0 t.1 ≡ Some s.0 = ap (λ (j : ℕ). other j t.1) (sym (zero-add t.0)) ∙ s.1 in (
        s.0,
        record { number = t.0; n = t.1; delivery = t.2; at = t.3; met = met; numbered = t.4 },
        (turn.session, s.2, turn.gave),
      );
  dispatched = λ s seat answer e.
      let b = m.belongs s e.0 e.1 in
      let t = b.2 in
      let c = b.3 in
      let x = client_in sessions other 0 clients b.0 b.1 c.0 t c.1 c.2 in
      let served : session_at sessions (other (0 + b.0) b.1) ≡ Some e.0 =
      ap (λ (j : ℕ). session_at sessions (other j b.1)) (zero-add b.0) ∙ (ap (session_at sessions) b.4 ∙ e.1) in
      let y = k.turns b.0 b.1 x.0 seat answer x.1 (record {
        attempt = record { tried = t; session = session_at sessions (other (0 + b.0) b.1) };
        at = x.2;
        session = e.0;
        served = served;
        gave = e.2;
      }) in
      (y.0, y.1, y.2, y.3, y.4, record { number = b.0; n = b.1; delivery = x.0; at = x.1; met = b.4; numbered = y.5 });
}

pub matched_world : MatchedEndsAreOneWorld
matched_world clients sessions other m =
    let o = one_world (joined clients sessions other)
    (deliveries sessions other 0 clients (λ k c h.
    let e : k ≡ 0 + k = omega arith in
    (m.clients_are k c h, λ n t g. subst (λ (j : ℕ). IsMet t.talk (session_at sessions (other j n))) e (m.fit k n t (c, h, g))))) in
    (o.0, o.1, sessions_dispatched clients sessions other m o.0 o.1)
