-- One attempt after another, each behind a resolution.
use Rattle.std.proofs.Common.{◌≡◌, ℕ, suc, ◌+◌, ◌-◌, ◌<◌, ◌≤◌, Bool, true, false, ◌&&◌, inl, inr, List, [], ◌∷◌, ◌++◌, length, Option, None, Some, IsSome, refl, sym, ap, subst, ◌∙◌, arith, append_assoc, if◌then◌else◌}
use Rattle.std.specs.Prelude.{nat_lt}
use Rattle.std.proofs.lemmas.Bool.{ltb-true, ltb-false}
use Rattle.std.proofs.lemmas.List.{length-append}
use Rattle.ice_encoding.specs.Parts.{Each}
use Rattle.ice_ports.specs.declared.talk.Talk.{Talk}
use Rattle.encaps_optionals.specs.Usable.{tcp_at}
use Rattle.retry_core.specs.declared.attempt.Attempt.{Attempt}
use Rattle.retry_core.specs.declared.attempt.Attempt.TheVariants as tries
use Rattle.retry_core.specs.declared.client_table.ClientAction.TheVariants as actions
use Rattle.retry_core.specs.declared.client_table.ClientState.TheVariants as states
use Rattle.retry_core.specs.Retries.{may_follow}
use Rattle.retry_core.specs.Client.{Invoking, began, ended, goes_on}
use Rattle.ice_client.specs.declared.outcome.Outcome.{Outcome}
use Rattle.ice_client.specs.declared.outcome.Outcome.TheVariants as outcomes
use Rattle.ice_client.specs.declared.outcome.Once.{Once}
use Rattle.ice_client.specs.declared.outgoing.Outgoing.{Outgoing}
use Rattle.ice_client.specs.Rows.{IsLoss}
use Rattle.ice_client.specs.Attempted.{is_failure}
use Rattle.ice_client.specs.Asking.{IsFor, IsOver, HasRow}
use Rattle.ice_client.specs.ClientDid.{Tried, IsFollowed, Ended, attempts_of, had, goes_again}
use Rattle.locator.specs.declared.resolving.Resolved.TheVariants.{Direct}
use Rattle.locator.specs.Caches.{Kept}
use Rattle.locator.specs.Keys.{key_of}
use Rattle.locator.specs.Resolving.{Resolves}
use Rattle.locator.specs.Rounds.{Round, attempt}
use Rattle.locator.specs.Steps.{Target, left_by}
use Rattle.locator.specs.Through.{Leg, tried_of, rounds_of, Went}

-- ---- one leg more

behind : ℕ → Leg → List Round
behind number l = l.asked ++ (attempt l.place number l.tried ∷ [])

pub rounds_more : (number : ℕ) (ls : List Leg) (l : Leg) → rounds_of number (ls ++ l ∷ []) ≡ rounds_of number ls ++ (l.asked ++ (attempt l.place (number + length ls) l.tried ∷ []))
unfolding behind
rounds_more number [] l = ap (λ (k : ℕ). behind k l) (omega arith)
rounds_more number (m ∷ ms) l =
    ap (λ (rs : List Round). m.asked ++ (attempt m.place number m.tried ∷ rs)) (rounds_more (suc number) ms l)
    ∙ ap (λ (k : ℕ). m.asked ++ (attempt m.place number m.tried ∷ (rounds_of (suc number) ms ++ behind k l))) (omega arith)
    ∙ sym (append_assoc m.asked (attempt m.place number m.tried ∷ rounds_of (suc number) ms) (behind (number + suc (length ms)) l))

pub went_more : (t : Target) (number : ℕ) (old : Kept) (ls : List Leg) (mid : Kept) (l : Leg) (there new : Kept) → Went t number old ls mid
    → Resolves mid t.locator t.proxy t.retries l.asked there (Some (Direct l.place l.tried.cached)) → IsSome (tcp_at (number + length ls) l.place.endpoints)
    → new ≡ left_by (key_of t.proxy) l.tried.cached l.tried.attempt there → Went t number old (ls ++ l ∷ []) new
went_more t number old [] mid l there new went resolved place left = (
  there,
  subst (λ (k : Kept). Resolves k t.locator t.proxy t.retries l.asked there (Some (Direct l.place l.tried.cached))) went resolved,
  subst (λ (k : ℕ). IsSome (tcp_at k l.place.endpoints)) (omega arith) place,
  left,
)
went_more t number old (m ∷ ms) mid l there new went resolved place left = (
  went.0,
  went.1,
  went.2,
  went_more t (suc number) (left_by (key_of t.proxy) m.tried.cached m.tried.attempt went.0) ms mid l there new went.3 resolved (subst (λ (k : ℕ). IsSome (tcp_at k l.place.endpoints)) (omega arith) place) left,
)

tried_more : (ls : List Leg) (l : Leg) → tried_of (ls ++ l ∷ []) ≡ tried_of ls ++ l.tried ∷ []
tried_more [] l = refl
tried_more (m ∷ ms) l = ap (λ (ts : List Tried). m.tried ∷ ts) (tried_more ms l)

tried_long : (ls : List Leg) → length (tried_of ls) ≡ length ls
tried_long [] = refl
tried_long (m ∷ ms) = ap suc (tried_long ms)

attempts_more : (ts : List Tried) (t : Tried) → attempts_of (ts ++ t ∷ []) ≡ attempts_of ts ++ t.attempt ∷ []
attempts_more [] t = refl
attempts_more (u ∷ ts) t = ap (λ (z : List Attempt). u.attempt ∷ z) (attempts_more ts t)

each_more : {A : Type 0} (P : A → Type 0) (xs : List A) (x : A) → Each P xs → P x → Each P (xs ++ x ∷ [])
each_more P [] x h p = (p, tt)
each_more P (y ∷ ys) x h p = (h.0, each_more P ys x h.1 p)

-- ---- whether another follows

going : (b : Bool) (a : Attempt) → goes_again (if b then actions.Connect else actions.Finish a) ≡ b
going true a = refl
going false a = refl

both_true : (a b : Bool) → (a && b) ≡ true → (a ≡ true) × (b ≡ true)
both_true true true e = (refl, refl)
both_true true false e = absurd cc
both_true false b e = absurd cc

one_false : (a b : Bool) → (a && b) ≡ false → a ≡ true → b ≡ false
one_false true true e h = absurd cc
one_false true false e h = refl
one_false false b e h = absurd cc

goes_by : (i j : Invoking) (a : Attempt) (once : Once) → IsOver i j a once → goes_again once.action ≡ goes_on i a
goes_by i j a once h = ap goes_again h.1 ∙ going (goes_on i a) a

ended_again : (i : Invoking) (a : Attempt) → goes_on i a ≡ true → ended i a ≡ record i { retries = i.retries - 1; state = states.Connecting; attempts = i.attempts ++ a ∷ [] }
ended_again i a e = rw e refl

-- ---- the outcome of a row

lost_had : (outcome : Outcome) (t : Talk) → IsLoss outcome t → had outcome ≡ Some outcome
lost_had outcome t (inl h) = rw h.0 refl
lost_had outcome t (inr h) = rw h.0 refl

pub row_had : (o : Outgoing) (cached : Bool) (a : Attempt) (outcome : Outcome) (talk : Option Talk) → HasRow o cached a outcome talk → had outcome ≡ Some outcome
row_had o cached a outcome None h = rw h.1 refl
row_had o cached tries.NotConnected outcome (Some t) h = absurd h.0
row_had o cached tries.NotWhole outcome (Some t) h = lost_had outcome t h.0.2
row_had o cached tries.Sent outcome (Some t) h = rw h.0.5 refl
row_had o cached tries.Lost outcome (Some t) h = lost_had outcome t h.0.4
row_had o cached tries.Closed outcome (Some t) h = rw h.0.2 refl
row_had o cached tries.Stale outcome (Some t) h = rw h.0.2 refl
row_had o cached tries.Broke outcome (Some t) h = rw h.0.2 refl
row_had o cached tries.Replied outcome (Some t) h = rw h.0.2 refl

lost_failed : (t : Talk) → IsLoss outcomes.NetFailed t → t.failed ≡ true
lost_failed t (inl h) = h.1
lost_failed t (inr h) = absurd (let z : outcomes.NetFailed ≡ outcomes.Ended = h.0 in cc)

net_failed : (o : Outgoing) (cached : Bool) (a : Attempt) (talk : Option Talk) → HasRow o cached a outcomes.NetFailed talk → is_failure talk ≡ true
net_failed o cached a None h = refl
net_failed o cached tries.NotConnected (Some t) h = absurd h.0
net_failed o cached tries.NotWhole (Some t) h = lost_failed t h.0.2
net_failed o cached tries.Sent (Some t) h = absurd (let z : outcomes.NetFailed ≡ outcomes.Sent = h.0.5 in cc)
net_failed o cached tries.Lost (Some t) h = lost_failed t h.0.4
net_failed o cached tries.Closed (Some t) h = absurd (let z : outcomes.NetFailed ≡ outcomes.Closed = h.0.2 in cc)
net_failed o cached tries.Stale (Some t) h = absurd (let z : outcomes.NetFailed ≡ outcomes.Replied h.0.0 = h.0.2 in cc)
net_failed o cached tries.Broke (Some t) h = absurd (let z : outcomes.NetFailed ≡ outcomes.Broke h.0.0 = h.0.2 in cc)
net_failed o cached tries.Replied (Some t) h = absurd (let z : outcomes.NetFailed ≡ outcomes.Replied h.0.0 = h.0.2 in cc)

-- a failure of the net was one of its connect or its link
pub row_failed : (o : Outgoing) (cached : Bool) (a : Attempt) (outcome : Outcome) (talk : Option Talk) → outcome ≡ outcomes.NetFailed → HasRow o cached a outcome talk → is_failure talk ≡ true
row_failed o cached a outcome talk is row = net_failed o cached a talk (subst (λ (x : Outcome). HasRow o cached a x talk) is row)

-- ---- what holds before each attempt

pub record IsUnderWay (o : Outgoing) (retries number : ℕ) (legs : List Leg) (i : Invoking) : Type 0 where
  pub state : i.state ≡ states.Connecting
  pub made : IsFor i o
  pub left : i.retries + length legs ≡ retries
  pub followed : Each (IsFollowed o) (tried_of legs)
  pub listed : i.attempts ≡ attempts_of (tried_of legs)
  pub counted : number ≡ length legs

pub begun : (o : Outgoing) (retries : ℕ) (i : Invoking) → 0 < length o.bytes → i ≡ began o.idempotent o.replies (length o.bytes) retries → IsUnderWay o retries 0 [] i
begun o retries i some is = rw is (record {
  state = refl;
  made = record { idempotent = refl; replies = refl; length_is = refl; some = some };
  left = omega arith;
  followed = tt;
  listed = refl;
  counted = refl;
})

-- so far no outcome was had
pub unended : (o : Outgoing) (retries number : ℕ) (legs : List Leg) (i : Invoking) → IsUnderWay o retries number legs i → Ended o retries (tried_of legs) None
unended o retries number legs i p = (p.followed, omega (arith, p.left, tried_long legs))

module _ (o : Outgoing) (retries number : ℕ) (legs : List Leg) (i j : Invoking) (l : Leg) (once : Once) (p : IsUnderWay o retries number legs i) (row : HasRow o l.tried.cached l.tried.attempt once.outcome l.tried.talk)
    (is_over : IsOver i j l.tried.attempt once) where
  same_attempts : j.attempts ≡ attempts_of (tried_of (legs ++ l ∷ []))
  same_attempts = ap (λ (x : Invoking). x.attempts) is_over.0 ∙ ap (λ (z : List Attempt). z ++ l.tried.attempt ∷ []) p.listed
      ∙ sym (attempts_more (tried_of legs) l.tried) ∙ sym (ap attempts_of (tried_more legs l))

  pub another : goes_again once.action ≡ true → IsUnderWay o retries (number + 1) (legs ++ l ∷ []) j × (j.retries < i.retries) × (number + 1 ≤ retries)
  another again =
      let a = l.tried.attempt in
      let on : goes_on i a ≡ true = sym (goes_by i j a once is_over) ∙ again in
      let may = both_true (may_follow i.idempotent a) (nat_lt 0 i.retries) on in
      let some : 0 < i.retries = ltb-true 0 i.retries may.1 in
      let is : j ≡ record i { retries = i.retries - 1; state = states.Connecting; attempts = i.attempts ++ a ∷ [] } = is_over.0 ∙ ended_again i a on in
      let follows : may_follow o.idempotent a ≡ true = subst (λ (b : Bool). may_follow b a ≡ true) p.made.idempotent may.0 in
      let left : j.retries ≡ i.retries - 1 = ap (λ (x : Invoking). x.retries) is in
      let long = length-append legs (l ∷ []) in (
        record {
          state = ap (λ (x : Invoking). x.state) is;
          made = record {
            idempotent = ap (λ (x : Invoking). x.idempotent) is ∙ p.made.idempotent;
            replies = ap (λ (x : Invoking). x.replies) is ∙ p.made.replies;
            length_is = ap (λ (x : Invoking). x.length) is ∙ p.made.length_is;
            some = p.made.some;
          };
          left = omega (arith, some, p.left, left, long);
          followed = subst (Each (IsFollowed o)) (sym (tried_more legs l)) (each_more (IsFollowed o) (tried_of legs) l.tried p.followed ((once.outcome, row), follows));
          listed = same_attempts;
          counted = omega (arith, p.counted, long);
        },
        omega (arith, some, left),
        omega (arith, some, p.left, p.counted),
      )

  pub the_last : goes_again once.action ≡ false → (j.attempts ≡ attempts_of (tried_of (legs ++ l ∷ []))) × Ended o retries (tried_of (legs ++ l ∷ [])) (had once.outcome) × (had once.outcome ≡ Some once.outcome)
  the_last again =
      let a = l.tried.attempt in
      let on : goes_on i a ≡ false = sym (goes_by i j a once is_over) ∙ again in
      let long = length-append (tried_of legs) (l.tried ∷ []) in
      let short = tried_long legs in
      let out = row_had o l.tried.cached a once.outcome l.tried.talk row in
      let whole : Ended o retries (tried_of legs ++ l.tried ∷ []) (Some once.outcome) = (
        tried_of legs,
        l.tried,
        refl,
        p.followed,
        row,
        omega (arith, p.left, long, short),
        λ may.
            let none = ltb-false 0 i.retries (one_false (may_follow i.idempotent a) (nat_lt 0 i.retries) on (subst (λ (b : Bool). may_follow b a ≡ true) (sym p.made.idempotent) may)) in
            omega (arith, none, p.left, long, short),
      ) in (
        same_attempts,
        subst (λ (ts : List Tried). Ended o retries ts (had once.outcome)) (sym (tried_more legs l)) (subst (Ended o retries (tried_of legs ++ l.tried ∷ [])) (sym out) whole),
        out,
      )
