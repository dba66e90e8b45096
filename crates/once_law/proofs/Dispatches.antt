-- Which connection is which attempt's, and which dispatch is which turn.
use Rattle.std.proofs.Common.{◌≡◌, ℕ, zero, suc, ◌+◌, ◌<◌, ◌≤◌, ◌⊎◌, inl, inr, List, [], ◌∷◌, ◌++◌, length, take, Option, None, Some, refl, ap, sym, ◌∙◌, subst, arith, map}
use Rattle.std.specs.List.{flat_map}
use Rattle.std.specs.Prelude.{slice_get}
use Rattle.ice_encoding.specs.Parts.{Each}
use Rattle.ice_ports.specs.declared.talk.Talk.{Talk}
use Rattle.ice_messages.specs.declared.message.Answer.{Answer}
use Rattle.ice_messages.specs.declared.message.Message.{Message}
use Rattle.dispatch_pool.specs.Handled.{Handled}
use Rattle.call_world.specs.World.{Connection, Turn, Dispatched, fresh}
use Rattle.call_world.specs.Reached.{IsLogged}
use Rattle.once_law.specs.Placed.{after, connection_of, connections, after_all}
use Rattle.once_law.specs.Ends.{Session, Attempted, Delivery, talk_of, talks, IsMet, HasOtherEnd, IsDelivery}
use Rattle.once_law.specs.Shown.{CallWorld, calls_of, turn_at, ShowsTalk, ShowsAttempt, ShowsAttempts, ShowsDelivery, ShowsFrom}
use Rattle.once_law.specs.Laws.{HasTurn, DispatchesAreTurns, TurnsAreDispatches}
use Rattle.once_law.proofs.Lists.{none_some, none_at, first_is, get_mapped}

pub got : {A B : Type 0} (f : A → B) (xs : List A) (n : ℕ) (x : A) → slice_get xs n ≡ Some x → slice_get (map f xs) n ≡ Some (f x)
got f [] n x h = absurd (none_at n x h)
got {A} f (y ∷ xs) zero x h = ap (λ (z : A). Some (f z)) (first_is y x h)
got f (y ∷ xs) (suc n) x h = got f xs n x h

lt_or : (a b : ℕ) → (a < b) ⊎ (b ≤ a)
lt_or zero zero = inr (omega arith)
lt_or zero (suc b) = inl (omega arith)
lt_or (suc a) zero = inr (omega arith)
lt_or (suc a) (suc b) = elim (lt_or a b) [ inl l ↦ inl (omega arith) | inr l ↦ inr (omega arith) ]

module _ (w : CallWorld) (i : ℕ) (message : Message) (bytes : List ℕ) where
  -- the connection of an attempt with a session
  pub record IsAt (c : ℕ) (others : List Attempted) (n : ℕ) (session : Option Session) : Type 0 where
    pub connection : ℕ
    pub numbered : slice_get (connections c (map talk_of others)) n ≡ Some (Some connection)
    pub talk : Talk
    pub shown : ShowsTalk (w.connections connection) i message bytes talk session

  met_at : (c : ℕ) (talk : Option Talk) (session : Option Session) (s : Session) → session ≡ Some s → (talk ≡ None → session ≡ None)
      → ShowsAttempt w i message bytes c talk session → (t : Talk) × (connection_of c talk ≡ Some c) × ShowsTalk (w.connections c) i message bytes t session
  met_at c None session s e none h = absurd (none_some (sym (none refl) ∙ e))
  met_at c (Some t) session s e none h = (t, refl, h)

  pub attempt_at : (c : ℕ) (others : List Attempted) (n : ℕ) (a : Attempted) (s : Session) → slice_get others n ≡ Some a → a.session ≡ Some s
      → Each HasOtherEnd others → ShowsAttempts w i message bytes c others → IsAt c others n (Some s)
  attempt_at c [] n a s at e ends h = absurd (none_at n a at)
  attempt_at c (b ∷ others) zero a s at e ends h =
      let same : b ≡ a = first_is b a at in
      let f : b.session ≡ Some s = ap (λ (x : Attempted). x.session) same ∙ e in
      let m = met_at c b.tried.talk b.session s f (unmet b ends.0) h.0 in
      record {
        connection = c;
        numbered = ap (λ (x : Option ℕ). Some x) m.1;
        talk = m.0;
        shown = subst (λ (x : Option Session). ShowsTalk (w.connections c) i message bytes m.0 x) f m.2;
      }
    where
      unmet : (b : Attempted) → HasOtherEnd b → b.tried.talk ≡ None → b.session ≡ None
      unmet b ends none = by b.tried.talk none ends where
        by : (t : Option Talk) → t ≡ None → IsMet t b.session → b.session ≡ None
        by None e h = h
        by (Some t) e h = absurd (let z : Some t ≡ None = e in cc)
  attempt_at c (b ∷ others) (suc n) a s at e ends h =
      let m = attempt_at (after c b.tried.talk) others n a s at e ends.1 h.1 in
      record { connection = m.connection; numbered = m.numbered; talk = m.talk; shown = m.shown }

  -- the attempt that has this connection
  pub connection_at : (c : ℕ) (others : List Attempted) (n d : ℕ) → slice_get (connections c (map talk_of others)) n ≡ Some (Some d) → ShowsAttempts w i message bytes c others
      → (a : Attempted) × (slice_get others n ≡ Some a) × ((t : Talk) × ShowsTalk (w.connections d) i message bytes t a.session)
  connection_at c [] n d e h = absurd (none_at n (Some d) e)
  connection_at c (b ∷ others) zero d e h = (b, refl, by b.tried.talk (first_is (connection_of c b.tried.talk) (Some d) e) h.0) where
    by : (talk : Option Talk) → connection_of c talk ≡ Some d → ShowsAttempt w i message bytes c talk b.session → (t : Talk) × ShowsTalk (w.connections d) i message bytes t b.session
    by None f g = absurd (none_some f)
    by (Some t) f g = (t, subst (λ (x : ℕ). ShowsTalk (w.connections x) i message bytes t b.session) (first_is c d f) g)
  connection_at c (b ∷ others) (suc n) d e h = connection_at (after c b.tried.talk) others n d e h.1

  -- an attempt that this connection is of, where theirs are numbered from c on
  pub record IsOn (c k : ℕ) (others : List Attempted) : Type 0 where
    pub number : ℕ
    pub attempt : Attempted
    pub at : slice_get others number ≡ Some attempt
    pub numbered : slice_get (connections c (map talk_of others)) number ≡ Some (Some k)
    pub talk : Talk
    pub shown : ShowsTalk (w.connections k) i message bytes talk attempt.session

  later : (c k : ℕ) (b : Attempted) (others : List Attempted) → IsOn (after c b.tried.talk) k others → IsOn c k (b ∷ others)
  later c k b others o = record { number = suc o.number; attempt = o.attempt; at = o.at; numbered = o.numbered; talk = o.talk; shown = o.shown }

  pub on_attempt : (c k : ℕ) (others : List Attempted) → c ≤ k → k < after_all c (map talk_of others) → ShowsAttempts w i message bytes c others → IsOn c k others
  on_attempt c k [] low high h = absurd (omega arith)
  on_attempt c k (b ∷ others) low high h = by b.tried.talk refl (λ d l m s. on_attempt d k others l m s) high h.0 h.1 where
    by : (talk : Option Talk) → b.tried.talk ≡ talk → ((d : ℕ) → d ≤ k → k < after_all d (map talk_of others) → ShowsAttempts w i message bytes d others → IsOn d k others)
        → k < after_all (after c talk) (map talk_of others) → ShowsAttempt w i message bytes c talk b.session → ShowsAttempts w i message bytes (after c talk) others → IsOn c k (b ∷ others)
    by None is again m one rest = later c k b others (subst (λ (x : Option Talk). IsOn (after c x) k others) (sym is) (again c low m rest))
    by (Some t) is again m one rest = elim (lt_or c k) [
      | inl less ↦ later c k b others (subst (λ (x : Option Talk). IsOn (after c x) k others) (sym is) (again (suc c) (omega arith) m rest))
      | inr more ↦
          let same : c ≡ k = omega arith in
          record {
            number = 0;
            attempt = b;
            at = refl;
            numbered = ap (λ (x : Option Talk). Some (connection_of c x)) is ∙ ap (λ (x : ℕ). Some (Some x)) same;
            talk = t;
            shown = subst (λ (x : ℕ). ShowsTalk (w.connections x) i message bytes t b.session) same one;
          }
    ]

-- ---- all messages

-- the first connection of those of message number `number`, where those of the first begin with c
abbrev first_from : ℕ → List Delivery → ℕ → ℕ
first_from c ds number = after_all c (flat_map talks (take number ds))

first_later : (c : ℕ) (d : Delivery) (ds : List Delivery) (number : ℕ) → first_from c (d ∷ ds) (suc number) ≡ first_from (after_all c (talks d)) ds number
first_later c d ds number = both c (talks d)
  where
    both : (first : ℕ) (ts : List (Option Talk)) → after_all first (ts ++ flat_map talks (take number ds)) ≡ after_all (after_all first ts) (flat_map talks (take number ds))
    both first [] = refl
    both first (t ∷ ts) = both (after first t) ts

-- a connection that was used is that of an attempt of one of them
record IsUsed (w : CallWorld) (c k : ℕ) (ds : List Delivery) : Type 0 where
  number : ℕ
  delivery : Delivery
  at : slice_get ds number ≡ Some delivery
  first : ℕ
  bytes : List ℕ
  on : IsOn w first delivery.message bytes (first_from c ds number) k delivery.attempts

used : (w : CallWorld) (i c k : ℕ) (ds : List Delivery) → c ≤ k → ¬ (w.connections k ≡ fresh) → ShowsFrom w i c ds → IsUsed w c k ds
used w i c k [] low some h = absurd (some (h.1 k low))
used w i c k (d ∷ ds) low some h = elim (lt_or k (after_all c (talks d))) [
  | inl here ↦ record {
    number = 0;
    delivery = d;
    at = refl;
    first = i;
    bytes = h.0.bytes;
    on = on_attempt w i d.message h.0.bytes c k d.attempts low here h.0.attempts;
  }
  | inr behind ↦
      let u = used w (i + length (calls_of d.message)) (after_all c (talks d)) k ds behind some h.1 in
      record {
        number = suc u.number;
        delivery = u.delivery;
        at = u.at;
        first = u.first;
        bytes = u.bytes;
        on = subst (λ (x : ℕ). IsOn w u.first u.delivery.message u.bytes x k u.delivery.attempts) (sym (first_later c d ds u.number)) u.on;
      }
]

-- a turn of a connection is that of the session at its other end
pub turn_in : (d : Delivery) (n seat : ℕ) (a : Attempted) (k : Connection Answer) (i : ℕ) (bytes : List ℕ) (t : Talk) (answer : Answer) → slice_get d.attempts n ≡ Some a
    → ShowsTalk k i d.message bytes t a.session → slice_get k.turns seat ≡ Some (Dispatched answer) → HasTurn d n seat answer
turn_in d n seat a k i bytes t answer at shown had = by a.session refl shown where
  by : (s : Option Session) → a.session ≡ s → ShowsTalk k i d.message bytes t s → HasTurn d n seat answer
  by None e shown = absurd (none_at seat (Dispatched answer) (sym (ap (λ (ts : List (Turn Answer)). slice_get ts seat) shown.server.1) ∙ had))
  by (Some s) e shown =
      let g = get_mapped turn_at s.handled seat (Dispatched answer) (sym (ap (λ (ts : List (Turn Answer)). slice_get ts seat) shown.server.1) ∙ had) in
      record { attempt = a; at = at; session = s; served = e; gave = g }

pub dispatches_are_turns : (w : CallWorld) (ds : List Delivery) → ShowsFrom w 0 0 ds → IsLogged w → DispatchesAreTurns w ds
dispatches_are_turns w ds h logged index x at =
    let had = logged.recorded index x at in
    let u = used w 0 0 x.connection ds (omega arith)
    (λ e. none_at x.seat (Dispatched x.reply) (sym (ap (λ (k : Connection Answer). slice_get k.turns x.seat) e) ∙ had)) h in (
      u.number,
      u.on.number,
      u.delivery,
      u.at,
      u.on.numbered,
      turn_in u.delivery u.on.number x.seat u.on.attempt (w.connections x.connection) u.first u.bytes u.on.talk x.reply u.on.at u.on.shown had,
    )

-- the place of one of the messages in the world
shown_at : (w : CallWorld) (i c : ℕ) (ds : List Delivery) (number : ℕ) (d : Delivery) → slice_get ds number ≡ Some d → ShowsFrom w i c ds → Each IsDelivery ds
    → (first connection : ℕ) × (connection ≡ first_from c ds number) × ShowsDelivery w first connection d × IsDelivery d
shown_at w i c [] number d at h fit = absurd (none_at number d at)
shown_at w i c (b ∷ ds) zero d at h fit =
    let same : b ≡ d = first_is b d at in
    (i, c, refl, subst (λ (x : Delivery). ShowsDelivery w i c x) same h.0, subst IsDelivery same fit.0)
shown_at w i c (b ∷ ds) (suc number) d at h fit =
    let s = shown_at w (i + length (calls_of b.message)) (after_all c (talks b)) ds number d at h.1 fit.1 in
    (s.0, s.1, s.2 ∙ sym (first_later c b ds number), s.3, s.4)

pub had_turn : (w : CallWorld) (message : Message) (i : ℕ) (bytes : List ℕ) (k seat : ℕ) (talk : Talk) (s : Session) (call : Handled) (answer : Answer)
    → ShowsTalk (w.connections k) i message bytes talk (Some s) → slice_get s.handled seat ≡ Some call → turn_at call ≡ Dispatched answer
    → slice_get (w.connections k).turns seat ≡ Some (Dispatched answer)
had_turn w message i bytes k seat talk s call answer shown at turn =
    ap (λ (ts : List (Turn Answer)). slice_get ts seat) shown.server.1
    ∙ (got turn_at s.handled seat call at ∙ ap (λ (u : Turn Answer). Some u) turn)

pub turns_are_dispatches : (w : CallWorld) (ds : List Delivery) → Each IsDelivery ds → ShowsFrom w 0 0 ds → IsLogged w → TurnsAreDispatches w ds
turns_are_dispatches w ds fit h logged number n d seat answer at t =
    let s = shown_at w 0 0 ds number d at h fit in
    let x = attempt_at w s.0 d.message s.3.bytes s.1 d.attempts n t.attempt t.session t.at t.served s.4.ends s.3.attempts in
    let log = logged.known x.connection seat answer
    (had_turn w d.message s.0 s.3.bytes x.connection seat x.talk t.session t.gave.0 answer x.shown t.gave.1 t.gave.2) in
    (log.0, record { connection = x.connection; seat = seat; reply = answer }, log.1, refl, refl, subst (λ (c : ℕ). slice_get (connections c (talks d)) n ≡ Some (Some x.connection)) s.2 x.numbered)
