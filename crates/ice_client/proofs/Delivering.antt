-- One attempt after another.
use Rattle.std.proofs.Common.{◌≡◌, ◌≢◌, ◌⊎◌, ℕ, suc, ◌+◌, ◌-◌, ◌<◌, ◌≤◌, ◌%◌, Bool, true, false, ◌&&◌, inl, inr, List, [], ◌∷◌, ◌++◌, length, Option, None, Some, IsSome, Err, refl, sym, ap, subst, ◌∙◌, arith, if◌then◌else◌}
use Rattle.std.specs.Prelude.{nat_lt, slice_get, option_map, is_some}
use Rattle.std.proofs.lemmas.Bool.{ltb-true, ltb-false}
use Rattle.std.proofs.lemmas.List.{length-append}
use Rattle.std.proofs.lemmas.Nat.{mod_below}
use Rattle.std.proofs.lemmas.Option.{slice_get-get_or}
use Rattle.ice_types.specs.declared.proxy.Endpoint.{Endpoint}
use Rattle.ice_encoding.specs.Parts.{Each}
use Rattle.ice_ports.specs.Failures.{count_after}
use Rattle.ice_ports.specs.Nets.{ToldNet}
use Rattle.ice_ports.specs.declared.talk.Talk.{Talk}
use Rattle.encaps_optionals.specs.Usable.{usable, tcp_at}
use Rattle.retry_core.specs.declared.attempt.Attempt.{Attempt}
use Rattle.retry_core.specs.declared.attempt.Attempt.TheVariants as tries
use Rattle.retry_core.specs.declared.client_table.ClientAction.TheVariants as actions
use Rattle.retry_core.specs.declared.client_table.ClientState.TheVariants as states
use Rattle.retry_core.specs.Retries.{may_follow}
use Rattle.retry_core.specs.Client.{Invoking, began, ended, goes_on}
use Rattle.ice_client.specs.declared.outcome.Outcome.{Outcome}
use Rattle.ice_client.specs.declared.outcome.Outcome.TheVariants as outcomes
use Rattle.ice_client.specs.declared.outcome.Once.{Once}
use Rattle.ice_client.specs.declared.outgoing.Outgoing.{Outgoing}
use Rattle.ice_encoding.specs.declared.limits.TheConstants.{LARGEST}
use Rattle.ice_messages.specs.declared.fault.WriteFault.TheVariants.{Memory}
use Rattle.ice_messages.specs.declared.message.Message.{Message}
use Rattle.ice_messages.specs.Messages.{message_bytes}
use Rattle.ice_client.specs.Sending.{IsOf}
use Rattle.ice_client.specs.Rows.{IsLoss}
use Rattle.ice_client.specs.Attempted.{attempted, is_failure}
use Rattle.ice_client.specs.Asking.{IsFor, IsOver, HasRow, CutsOff}
use Rattle.ice_client.specs.ClientDid.{Tried, IsFollowed, Ended, attempted_all, failures_after, Made, is_uncached, attempts_of, had, goes_again, Delivers, IsPlaced, IsCutOff, Brings, Invokes}

-- ---- a proxy with an endpoint has one for each number

some_at : {A : Type 0} (xs : List A) (n : ℕ) → IsSome (slice_get xs 0) → IsSome (slice_get xs (n % length xs))
some_at [] n h = absurd cc
some_at (x ∷ xs) n h = let e = slice_get-get_or (x ∷ xs) (n % length (x ∷ xs)) x (mod_below n (length (x ∷ xs)) (omega arith)) in rw e refl

first_at : {A : Type 0} (xs : List A) (n : ℕ) → IsSome (slice_get xs n) → IsSome (slice_get xs 0)
first_at [] n h = absurd cc
first_at (x ∷ xs) n h = refl

pub each_number : (endpoints : List Endpoint) (n : ℕ) → IsSome (tcp_at 0 endpoints) → IsSome (tcp_at n endpoints)
each_number endpoints n h = some_at (usable endpoints) n (first_at (usable endpoints) (0 % length (usable endpoints)) h)

-- ---- the net, after one attempt more

attempted_more : (endpoints : List Endpoint) (number : ℕ) (ts : List Tried) (t : Tried) (net : Option ToldNet)
    → attempted_all endpoints number (ts ++ t ∷ []) net ≡ attempted (tcp_at (number + length ts) endpoints) t.talk (attempted_all endpoints number ts net)
attempted_more endpoints number [] t net = ap (λ (k : ℕ). attempted (tcp_at k endpoints) t.talk net) (omega arith)
attempted_more endpoints number (u ∷ ts) t net =
    attempted_more endpoints (suc number) ts t (attempted (tcp_at number endpoints) u.talk net)
    ∙ ap (λ (k : ℕ). attempted (tcp_at k endpoints) t.talk (attempted_all endpoints (suc number) ts (attempted (tcp_at number endpoints) u.talk net))) (omega arith)

pub failures_more : (ts : List Tried) (t : Tried) (n : ℕ) → failures_after (ts ++ t ∷ []) n ≡ count_after (failures_after ts n) (is_failure t.talk)
failures_more [] t n = refl
failures_more (u ∷ ts) t n = failures_more ts t (count_after n (is_failure u.talk))

pub made_more : (endpoints : List Endpoint) (number : ℕ) (ts : List Tried) (t : Tried) (n0 n1 n2 : Option ToldNet) (f0 f1 f2 : ℕ) → number ≡ length ts → Made endpoints ts n0 n1 f0 f1
    → n2 ≡ attempted (tcp_at number endpoints) t.talk n1 → f2 ≡ count_after f1 (is_failure t.talk) → Made endpoints (ts ++ t ∷ []) n0 n2 f0 f2
made_more endpoints number ts t n0 n1 n2 f0 f1 f2 is before told count = record {
  net = told ∙ ap (λ (z : Option ToldNet). attempted (tcp_at number endpoints) t.talk z) before.net
      ∙ ap (λ (k : ℕ). attempted (tcp_at k endpoints) t.talk (attempted_all endpoints 0 ts n0)) (omega (arith, is)) ∙ sym (attempted_more endpoints 0 ts t n0);
  failures = count ∙ ap (λ (k : ℕ). count_after k (is_failure t.talk)) before.failures ∙ sym (failures_more ts t f0);
}

pub made_none : (endpoints : List Endpoint) (net : Option ToldNet) (f : ℕ) → Made endpoints [] net net f f
made_none endpoints net f = record { net = refl; failures = refl }

-- ---- lists of attempts

each_more : {A : Type 0} (P : A → Type 0) (xs : List A) (x : A) → Each P xs → P x → Each P (xs ++ x ∷ [])
each_more P [] x h p = (p, tt)
each_more P (y ∷ ys) x h p = (h.0, each_more P ys x h.1 p)

attempts_more : (ts : List Tried) (t : Tried) → attempts_of (ts ++ t ∷ []) ≡ attempts_of ts ++ t.attempt ∷ []
attempts_more [] t = refl
attempts_more (u ∷ ts) t = ap (λ (z : List Attempt). u.attempt ∷ z) (attempts_more ts t)

-- ---- whether another follows

going : (b : Bool) (a : Attempt) → goes_again (if b then actions.Connect else actions.Finish a) ≡ b
going true a = refl
going false a = refl

both_true : (a b : Bool) → (a && b) ≡ true → (a ≡ true) × (b ≡ true)
both_true true true e = (refl, refl)
both_true true false e = absurd cc
both_true false b e = absurd cc

one_false : (a b : Bool) → (a && b) ≡ false → a ≡ true → b ≡ false
one_false true true e h = absurd cc
one_false true false e h = refl
one_false false b e h = absurd cc

goes_by : (i j : Invoking) (a : Attempt) (once : Once) → IsOver i j a once → goes_again once.action ≡ goes_on i a
goes_by i j a once h = ap goes_again h.1 ∙ going (goes_on i a) a

ended_again : (i : Invoking) (a : Attempt) → goes_on i a ≡ true → ended i a ≡ record i { retries = i.retries - 1; state = states.Connecting; attempts = i.attempts ++ a ∷ [] }
ended_again i a e = rw e refl

-- ---- the outcome of a row

IsOutcome : Outcome → Type 0
IsOutcome outcome = (had outcome ≡ Some outcome) × (outcome ≢ outcomes.NoEndpoint)

lost_outcome : (outcome : Outcome) (t : Talk) → IsLoss outcome t → IsOutcome outcome
unfolding IsOutcome
lost_outcome outcome t (inl h) = rw h.0 (refl, λ e. cc)
lost_outcome outcome t (inr h) = rw h.0 (refl, λ e. cc)

row_outcome : (o : Outgoing) (cached : Bool) (a : Attempt) (outcome : Outcome) (talk : Option Talk) → HasRow o cached a outcome talk → IsOutcome outcome
unfolding IsOutcome
row_outcome o cached a outcome None h = rw h.1 (refl, λ e. cc)
row_outcome o cached tries.NotConnected outcome (Some t) h = absurd h.0
row_outcome o cached tries.NotWhole outcome (Some t) h = lost_outcome outcome t h.0.2
row_outcome o cached tries.Sent outcome (Some t) h = rw h.0.5 (refl, λ e. cc)
row_outcome o cached tries.Lost outcome (Some t) h = lost_outcome outcome t h.0.4
row_outcome o cached tries.Closed outcome (Some t) h = rw h.0.2 (refl, λ e. cc)
row_outcome o cached tries.Stale outcome (Some t) h = rw h.0.2 (refl, λ e. cc)
row_outcome o cached tries.Broke outcome (Some t) h = rw h.0.2 (refl, λ e. cc)
row_outcome o cached tries.Replied outcome (Some t) h = rw h.0.2 (refl, λ e. cc)

-- ---- what holds before each attempt

pub record IsUnderWay (o : Outgoing) (retries number : ℕ) (tried : List Tried) (i : Invoking) : Type 0 where
  pub state : i.state ≡ states.Connecting
  pub made : IsFor i o
  pub left : i.retries + length tried ≡ retries
  pub followed : Each (IsFollowed o) tried
  pub listed : i.attempts ≡ attempts_of tried
  pub uncached : Each is_uncached tried
  pub counted : number ≡ length tried

pub begun : (o : Outgoing) (retries : ℕ) (i : Invoking) → 0 < length o.bytes → i ≡ began o.idempotent o.replies (length o.bytes) retries → IsUnderWay o retries 0 [] i
begun o retries i some is = rw is (record {
  state = refl;
  made = record { idempotent = refl; replies = refl; length_is = refl; some = some };
  left = omega arith;
  followed = tt;
  listed = refl;
  uncached = tt;
  counted = refl;
})

none_some : {A : Type 0} (p : Option A) → IsSome p → p ≡ None → ⊥
none_some None some e = absurd (let z : false ≡ true = some in cc)
none_some (Some x) some e = cc

-- an attempt
abbrev pub newest : Attempt → Option Talk → Tried
newest a talk = record { cached = false; talk = talk; attempt = a }

-- memory cut it off
pub cut_off : (o : Outgoing) (endpoints : List Endpoint) (retries number : ℕ) (tried : List Tried) (i : Invoking) (a : Attempt) (talk : Option Talk) → IsSome (tcp_at 0 endpoints) → IsUnderWay o retries number tried i → CutsOff o talk
    → ((tried ++ (newest a talk) ∷ [] ≡ []) ⊎ IsCutOff o retries (tried ++ (newest a talk) ∷ [])) × Each is_uncached (tried ++ (newest a talk) ∷ []) × (tcp_at 0 endpoints ≡ None → tried ++ (newest a talk) ∷ [] ≡ [])
cut_off o endpoints retries number tried i a talk some p cut = (
  inr (record {
    before = tried;
    last = newest a talk;
    parts = refl;
    followed = p.followed;
    few = omega (arith, p.left);
    cut = cut;
  }),
  each_more is_uncached tried (newest a talk) p.uncached refl,
  λ e. absurd (none_some (tcp_at 0 endpoints) some e),
)

-- of a message, whose bytes were made
pub starves : {E : Type 0} (m : Message) (o : Outgoing) (endpoints : List Endpoint) (retries : ℕ) (tried : List Tried) (e : E) → IsOf o m → length (message_bytes m) ≤ LARGEST
    → Brings {E = E} o endpoints retries tried (Err e) → Invokes m endpoints retries tried (Err Memory)
starves m o endpoints retries tried e is few (inl none, uncached, placed) = (inl none, uncached, placed, few)
starves m o endpoints retries tried e is few (inr cut, uncached, placed) = (inr (record { outgoing = o; is_of = is; cut = cut }), uncached, placed, few)

-- and then
module _ (o : Outgoing) (retries number : ℕ) (tried : List Tried) (i j : Invoking) (a : Attempt) (talk : Option Talk) (once : Once) (p : IsUnderWay o retries number tried i) (row : HasRow o false a once.outcome talk)
    (is_over : IsOver i j a once) where
  same_attempts : j.attempts ≡ attempts_of (tried ++ (newest a talk) ∷ [])
  same_attempts = ap (λ (x : Invoking). x.attempts) is_over.0 ∙ ap (λ (z : List Attempt). z ++ a ∷ []) p.listed ∙ sym (attempts_more tried (newest a talk))

  pub another : goes_again once.action ≡ true → IsUnderWay o retries (number + 1) (tried ++ (newest a talk) ∷ []) j × (j.retries < i.retries) × (number + 1 ≤ retries)
  another again =
      let on : goes_on i a ≡ true = sym (goes_by i j a once is_over) ∙ again in
      let may = both_true (may_follow i.idempotent a) (nat_lt 0 i.retries) on in
      let some : 0 < i.retries = ltb-true 0 i.retries may.1 in
      let is : j ≡ record i { retries = i.retries - 1; state = states.Connecting; attempts = i.attempts ++ a ∷ [] } = is_over.0 ∙ ended_again i a on in
      let follows : may_follow o.idempotent a ≡ true = subst (λ (b : Bool). may_follow b a ≡ true) p.made.idempotent may.0 in
      let left : j.retries ≡ i.retries - 1 = ap (λ (x : Invoking). x.retries) is in
      let long = length-append tried ((newest a talk) ∷ []) in (
        record {
          state = ap (λ (x : Invoking). x.state) is;
          made = record {
            idempotent = ap (λ (x : Invoking). x.idempotent) is ∙ p.made.idempotent;
            replies = ap (λ (x : Invoking). x.replies) is ∙ p.made.replies;
            length_is = ap (λ (x : Invoking). x.length) is ∙ p.made.length_is;
            some = p.made.some;
          };
          left = omega (arith, some, p.left, left, long);
          followed = each_more (IsFollowed o) tried (newest a talk) p.followed ((once.outcome, row), follows);
          listed = same_attempts;
          uncached = each_more is_uncached tried (newest a talk) p.uncached refl;
          counted = omega (arith, p.counted, long);
        },
        omega (arith, some, left),
        omega (arith, some, p.left, p.counted),
      )

  pub the_last : goes_again once.action ≡ false → (j.attempts ≡ attempts_of (tried ++ (newest a talk) ∷ [])) × Ended o retries (tried ++ (newest a talk) ∷ []) (had once.outcome) × (once.outcome ≢ outcomes.NoEndpoint) × Each is_uncached (tried ++ (newest a talk) ∷ [])
  unfolding IsOutcome
  the_last again =
      let on : goes_on i a ≡ false = sym (goes_by i j a once is_over) ∙ again in
      let long = length-append tried ((newest a talk) ∷ []) in
      let out = row_outcome o false a once.outcome talk row in (
        same_attempts,
        subst (Ended o retries (tried ++ (newest a talk) ∷ [])) (sym out.0) (
          tried,
          (newest a talk),
          refl,
          p.followed,
          row,
          omega (arith, p.left, long),
          λ may.
              let none = ltb-false 0 i.retries (one_false (may_follow i.idempotent a) (nat_lt 0 i.retries) on (subst (λ (b : Bool). may_follow b a ≡ true) (sym p.made.idempotent) may)) in
              omega (arith, none, p.left, long),
        ),
        out.1,
        each_more is_uncached tried (newest a talk) p.uncached refl,
      )

-- ---- whether there is a place

pub no_place : {A B : Type 0} (f : A → B) (r : Option A) (p : Option B) → is_some r ≡ false → option_map f r ≡ p → p ≡ None
no_place f None p none e = sym e
no_place f (Some x) p none e = absurd cc

pub some_place : {A B : Type 0} (f : A → B) (r : Option A) (p : Option B) → is_some r ≡ true → option_map f r ≡ p → IsSome p
some_place f None p some e = absurd cc
some_place f (Some x) p some e = subst IsSome e refl

pub unplaced : (o : Outgoing) (endpoints : List Endpoint) (retries : ℕ) (attempts : List Attempt) → attempts ≡ [] → tcp_at 0 endpoints ≡ None → Delivers o endpoints retries [] (record { outcome = outcomes.NoEndpoint; attempts = attempts })
unplaced o endpoints retries attempts none place = record {
  attempts = none;
  ended = (tt, omega arith);
  placed = record { exactly = (λ e. place, λ e. refl); none = λ e. refl };
  uncached = tt;
}

pub placed : (endpoints : List Endpoint) (tried : List Tried) (outcome : Outcome) → IsSome (tcp_at 0 endpoints) → outcome ≢ outcomes.NoEndpoint → IsPlaced endpoints tried outcome
placed endpoints tried outcome some other = record {
  exactly = (λ e. absurd (other e), λ e. absurd (none_some (tcp_at 0 endpoints) some e));
  none = λ e. absurd (other e);
}
