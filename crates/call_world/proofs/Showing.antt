-- There are runs that show a capture.
use Rattle.std.proofs.Common.{◌≡◌, ℕ, zero, suc, ◌+◌, ◌<◌, ◌≤◌, List, [], ◌∷◌, ◌++◌, length, Option, None, Some, refl, ap, sym, ◌∙◌, subst, arith, Bool, true, false, append-nil, zero-add}
use Rattle.std.specs.Prelude.{slice_get}
use Rattle.call_world.specs.Service.{free_rules}
use Rattle.call_world.specs.World.{World, Connection, Seat, Sent, Validate, Close, Invocation}
use Rattle.call_world.specs.Connection.{Validates, Hands, Arrives, Closes, Reads, says}
use Rattle.call_world.specs.Step.{IsReached}
use Rattle.call_world.specs.World.{Dispatched}
use Rattle.call_world.proofs.Lists.{get_within}
use Rattle.call_world.specs.Asked.{Asked, Wanted, wanted, each_wanted, total, size_of, asks_reply, calls_in, told, twoways_of, shown}
use Rattle.call_world.specs.Fits.{Fits, HasAsked}
use Rattle.call_world.specs.CaptureLaws.{CanShow}
use Rattle.call_world.proofs.Building.{asked_world, asking, seats_of, seat_of}
use Rattle.call_world.proofs.Serving.{Moved, moved_on, IsServing, Awaits, serve}

pub get_some : {A : Type 0} (xs : List A) (n : ℕ) → n < length xs → (x : A) × (slice_get xs n ≡ Some x)
get_some [] n l = absurd (omega arith)
get_some (x ∷ xs) zero l = (x, refl)
get_some (x ∷ xs) (suc n) l = get_some xs n (omega arith)

-- ---- where a message ends

total_above : {C : Type 0} (before : ℕ) (client : List (Asked C)) → before ≤ total before client
total_above before [] = omega arith
total_above before (a ∷ client) = let r = total_above (before + size_of a) client in omega arith

ends_within : {C : Type 0} (two : Bool) (ends : ℕ) (cs : List C) (rest : List (Wanted C)) (most : ℕ) → ends ≤ most
    → ((n : ℕ) (x : Wanted C) → slice_get rest n ≡ Some x → x.ends ≤ most)
    → (n : ℕ) (x : Wanted C) → slice_get (each_wanted two ends cs ++ rest) n ≡ Some x → x.ends ≤ most
ends_within two ends [] rest most l others n x h = others n x h
ends_within {C} two ends (c ∷ cs) rest most l others zero x h =
    let e : record { call = c; twoway = two; ends = ends } ≡ x = cc in
    subst (λ (y : Wanted C). y.ends ≤ most) e l
ends_within two ends (c ∷ cs) rest most l others (suc n) x h = ends_within two ends cs rest most l others n x h

wanted_within : {C : Type 0} (before : ℕ) (client : List (Asked C)) (n : ℕ) (x : Wanted C) → slice_get (wanted before client) n ≡ Some x → x.ends ≤ total before client
wanted_within before [] n x h = absurd (let z : None ≡ Some x = h in cc)
wanted_within before (a ∷ client) n x h =
    ends_within (asks_reply a) (before + size_of a) (calls_in a) (wanted (before + size_of a) client) (total (before + size_of a) client)
    (total_above (before + size_of a) client) (λ m y k. wanted_within (before + size_of a) client m y k) n x h

-- ---- the connection is greeted, and all is handed over

ready : {C R : Type 0} → List (Wanted C) → ℕ → Connection R
ready xs bytes = record {
  asked = seats_of 0 xs;
  asked_bytes = bytes;
  handed = 0 + bytes;
  arrived = 0 + bytes;
  turns = [];
  answered = Validate ∷ [];
  read = 0 + 1;
  client_left = false;
  server_left = false;
}

greeted : {C R : Type 0} (status : R → ℕ) (w : World C R (Unit {0})) (xs : List (Wanted C)) (bytes : ℕ) → Moved status w (asking xs bytes) → Moved status w (ready xs bytes)
unfolding asking ready
greeted {C} {R} status w xs bytes m =
    let k = asking {R = R} xs bytes in
    let k1 : Connection R = record k { answered = Validate ∷ [] } in
    let k2 : Connection R = record k1 { read = 0 + 1 } in
    let k3 : Connection R = record k2 { handed = 0 + bytes } in
    let k4 : Connection R = record k3 { arrived = 0 + bytes } in
    moved_on status w k3 (Arrives bytes) k4 (refl, omega arith, refl)
    (moved_on status w k2 (Hands bytes) k3 (refl, (0, omega arith, refl), omega arith, refl)
    (moved_on status w k1 Reads k2 (refl, omega arith, refl)
    (moved_on status w k Validates k1 (refl, refl, refl) m)))

validate_open : {R : Type 0} (m : Sent R) (n : ℕ) → m ≡ Close → ¬ (slice_get (Validate ∷ []) n ≡ Some m)
validate_open m zero e h = cc
validate_open m (suc n) e h = let z : None ≡ Some m = h in cc

is_serving : {C R : Type 0} (client : List (Asked C)) → IsServing (ready {R = R} (wanted 0 client) (total 0 client))
unfolding ready
is_serving {C} {R} client = record {
  whole = λ n s h.
      let o = seat_of 0 (wanted 0 client) n s h in
      let l = wanted_within 0 client n o.0 o.1 in
      let e = o.4 in
      omega arith;
  settled = λ n r s h. absurd (let z : None ≡ Some (Dispatched r) = h in cc);
  unclosed = λ n h. validate_open Close n refl h;
  here = refl;
}

-- what was asked stays so
asked_stays : {C R : Type 0} (repeatable : C → Bool) (xs : List (Wanted C)) (w w' : World C R (Unit {0})) → w'.invocations ≡ w.invocations
    → (w'.connections 0).asked ≡ (w.connections 0).asked → ((c : ℕ) → ¬ (c ≡ 0) → w'.connections c ≡ w.connections c)
    → HasAsked repeatable xs w → HasAsked repeatable xs w'
asked_stays {C} {R} repeatable xs w w' invs seats others a =
    let at : (n : ℕ) (s : Seat) → slice_get (w'.connections 0).asked n ≡ Some s → slice_get (w.connections 0).asked n ≡ Some s =
    λ n s h. ap (λ (ss : List Seat). slice_get ss n) (sym seats) ∙ h in
    record {
      number = ap (λ (ss : List Seat). length ss) seats ∙ a.number;
      calls = λ n s x h g.
          let c = a.calls n s x (at n s h) g in
          record {
            invocation = c.invocation;
            started = ap (λ (f : ℕ → Option (Invocation C R)). f s.invocation) invs ∙ c.started;
            call = c.call;
            repeats = c.repeats;
            twoway = c.twoway;
            asks = c.asks;
            ends = c.ends;
          };
      own = λ m n s t h g e. a.own m n s t (at m s h) (at n t g) e;
      alone = λ c other. ap (λ (k : Connection R). k.asked) (others c other) ∙ a.alone c other;
    }

module _ {C R : Type 0} (status : R → ℕ) (repeatable : C → Bool) where
  fits_from : (client : List (Asked C)) (w : World C R (Unit {0})) (k : Connection R) (sent : List (Sent R))
      → HasAsked repeatable (wanted 0 client) w → (w.connections 0).asked ≡ k.asked → Moved status w k
      → k.handed ≡ total 0 client → k.answered ≡ sent
      → (w' : World C R (Unit {0})) × IsReached (free_rules status) tt w' × Fits repeatable client sent w'
  fits_from client w k sent asked same m handed answered = (
    m.world,
    m.reached,
    record {
      asked = asked_stays repeatable (wanted 0 client) w m.world m.invocations (ap (λ (x : Connection R). x.asked) m.here ∙ sym same) m.others asked;
      handed = ap (λ (x : Connection R). x.handed) m.here ∙ handed;
      more = [];
      answered = ap (λ (x : Connection R). x.answered) m.here ∙ (answered ∙ sym (append-nil sent));
    },
  )

  pub show_lem : CanShow status repeatable
  unfolding ready asking
  show_lem other good client rs closed =
      let a = asked_world status repeatable client in
      let xs = wanted 0 client in
      let k : Connection R = ready xs (total 0 client) in
      let m0 : Moved status a.world (asking xs (total 0 client)) = record { world = a.world; reached = a.reached; here = a.here; others = λ d h. refl; invocations = refl } in
      let awaits : Awaits a.world k xs = λ n x h.
      let l = get_within xs n x h in
      let num = a.asked.number in
      let g = get_some (a.world.connections 0).asked n (omega arith) in
      let c = a.asked.calls n g.0 x g.1 h in
      (g.0, c.invocation, (ap (slice_get k.asked) (zero-add n) ∙ (ap (λ (y : Connection R). slice_get y.asked n) (sym a.here) ∙ g.1)), c.asks, c.started) in
      let g = serve status other good a.world k xs rs (is_serving client) awaits (greeted status a.world xs (total 0 client) m0) in
      let same : (a.world.connections 0).asked ≡ k.asked = ap (λ (y : Connection R). y.asked) a.here in
      let handed : g.next_.handed ≡ total 0 client = g.handed ∙ zero-add (total 0 client) in
      finish client rs closed a.world g.next_ a.asked (same ∙ sym g.asked) g.moved handed g.answered g.serving
    where
      finish : (client : List (Asked C)) (rs : List R) (closed : Bool) (w : World C R (Unit {0})) (k : Connection R)
          → HasAsked repeatable (wanted 0 client) w → (w.connections 0).asked ≡ k.asked → Moved status w k
          → k.handed ≡ total 0 client → k.answered ≡ Validate ∷ told 0 (twoways_of (wanted 0 client)) rs → IsServing k
          → (w' : World C R (Unit {0})) × IsReached (free_rules status) tt w' × Fits repeatable client (shown client rs closed) w'
      finish client rs false w k asked same m handed answered serving =
          fits_from client w k (shown client rs false) asked same m handed
          (answered ∙ ap (λ (ms : List (Sent R)). Validate ∷ ms) (sym (append-nil (told 0 (twoways_of (wanted 0 client)) rs))))
      finish client rs true w k asked same m handed answered serving =
          fits_from client w (says k Close) (shown client rs true) asked same
          (moved_on status w k Closes (says k Close) (serving.here, serving.settled, serving.unclosed, refl) m) handed
          (ap (λ (ms : List (Sent R)). ms ++ Close ∷ []) answered)
