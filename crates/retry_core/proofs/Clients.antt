-- Every run of a client keeps to its retries.
use Rattle.std.proofs.Common.{◌≡◌, ℕ, ◌+◌, ◌-◌, ◌<◌, ◌≤◌, inl, inr, List, [], ◌∷◌, ◌++◌, length, Option, None, Some, refl, ap, sym, ◌∙◌, subst, arith, Bool, true, false, length-append}
use Rattle.std.specs.Prelude.{slice_get, if◌then◌else◌, nat_lt, ◌==◌, ◌&&◌, IsSome}
use Rattle.std.proofs.lemmas.Bool.Decides.{nat_tests}
use Rattle.retry_core.specs.declared.attempt.Attempt.{Attempt}
use Rattle.retry_core.specs.declared.attempt.Attempt.TheVariants as ends
use Rattle.retry_core.specs.declared.client_table.ClientEvent.{ClientEvent}
use Rattle.retry_core.specs.declared.client_table.ClientEvent.TheVariants.{Connected, ConnectFailed, Validated, Taken, Lost, CloseRead, Refused2, ReplyRead, Broken}
use Rattle.retry_core.specs.declared.client_table.ClientAction.TheVariants.{Send}
use Rattle.retry_core.specs.declared.client_table.ClientState.{ClientState}
use Rattle.retry_core.specs.declared.client_table.ClientState.TheVariants.{Connecting, AwaitingValidate, Sending, AwaitingReply, Finished}
use Rattle.retry_core.specs.declared.client_table.ClientNext.{ClientNext}
use Rattle.retry_core.specs.declared.client_table.ClientNext.TheVariants.{Goes, Ends}
use Rattle.retry_core.specs.Retries.{may_follow}
use Rattle.retry_core.specs.ClientTable.{client_row, whole_row}
use Rattle.retry_core.specs.Client.{Invoking, began, row_of, goes_on, next_of, running}
use Rattle.retry_core.specs.ClientRuns.{ClientRun, IsFollowed, ClientsKeepToTheirRetries}
use Rattle.retry_core.proofs.Lists.{get_cases, get_within}

-- a row that leads on leads to an attempt under way
IsLive : Option ClientNext → Type 0
IsLive None = Unit {0}
IsLive (Some (Ends a)) = Unit {0}
IsLive (Some (Goes s action)) = running s ≡ 1

either_way : (b : Bool) (x y : Option ClientNext) → IsLive x → IsLive y → IsLive (if b then x else y)
either_way true x y p q = p
either_way false x y p q = q

whole_live : (replies : Bool) → IsLive (Some (whole_row replies))
unfolding IsLive
whole_live true = refl
whole_live false = tt

live : (replies : Bool) (size : ℕ) (s : ClientState) (e : ClientEvent) → IsLive (client_row replies size s e)
unfolding IsLive
live replies size Connecting Connected = refl
live replies size AwaitingValidate Validated = refl
live replies size (Sending taken) Validated = refl
live replies size (Sending taken) (Taken n) =
    either_way (nat_lt (taken + n) size) (Some (Goes (Sending (taken + n)) Send)) (if taken + n == size then Some (whole_row replies) else None) refl
    (either_way (taken + n == size) (Some (whole_row replies)) None (whole_live replies) tt)
live replies size AwaitingReply Validated = refl
live replies size s e = tt

no_row : false ≡ true → ⊥
no_row h = cc

finished_none : (replies : Bool) (size : ℕ) (e : ClientEvent) → IsSome (client_row replies size Finished e) → ⊥
finished_none replies size Connected h = no_row h
finished_none replies size ConnectFailed h = no_row h
finished_none replies size Validated h = no_row h
finished_none replies size (Taken n) h = no_row h
finished_none replies size Lost h = no_row h
finished_none replies size CloseRead h = no_row h
finished_none replies size (Refused2 cached) h = no_row h
finished_none replies size ReplyRead h = no_row h
finished_none replies size Broken h = no_row h

pub running_from : (replies : Bool) (size : ℕ) (s : ClientState) (e : ClientEvent) → IsSome (client_row replies size s e) → running s ≡ 1
running_from replies size Connecting e h = refl
running_from replies size AwaitingValidate e h = refl
running_from replies size (Sending n) e h = refl
running_from replies size AwaitingReply e h = refl
running_from replies size Finished e h = absurd (finished_none replies size e h)

-- what holds while and after it runs, with the retries that are left
record IsOrderly (retries : ℕ) (i : Invoking) : Type 0 where
  followed : (n : ℕ) (a : Attempt) → slice_get i.attempts n ≡ Some a → IsFollowed i n → may_follow i.idempotent a ≡ true
  counted : running i.state ≡ 1 → length i.attempts + i.retries ≡ retries
  at_most : length i.attempts + running i.state ≤ retries + 1
  given_up :
      running i.state ≡ 0 → (n : ℕ) (a : Attempt) → slice_get i.attempts n ≡ Some a → n + 1 ≡ length i.attempts
      → may_follow i.idempotent a ≡ true → length i.attempts ≡ retries + 1

both : (a b : Bool) → a && b ≡ true → (a ≡ true) × (b ≡ true)
both true b h = (refl, h)
both false b h = absurd (let z : false ≡ true = h in cc)

second : (p q : Bool) → p ≡ true → p && q ≡ false → q ≡ false
second true q h k = k
second false q h k = absurd (let z : false ≡ true = h in cc)

-- an attempt has ended, by whether another follows
orderly_end : (retries : ℕ) (i : Invoking) (a : Attempt) (b : Bool) → goes_on i a ≡ b → running i.state ≡ 1 → IsOrderly retries i → IsOrderly retries (record i {
  retries = if b then i.retries - 1 else i.retries;
  state = if b then Connecting else Finished;
  attempts = i.attempts ++ a ∷ [];
})
orderly_end retries i a true e run o =
    let parts = both (may_follow i.idempotent a) (nat_lt 0 i.retries) e in
    let some : 0 < i.retries = let t = parts.1 in grind (arith, nat_tests) in
    let c = o.counted run in
    let l = length-append i.attempts (a ∷ []) in
    record {
      followed = λ n x h k. elim (get_cases i.attempts a n x h) [
        | inl old ↦ let w = get_within i.attempts n x old in o.followed n x old (omega arith)
        | inr new ↦ ap (may_follow i.idempotent) (sym new.1) ∙ parts.0
      ];
      counted = λ r. omega arith;
      at_most = omega arith;
      given_up = λ r. absurd (omega arith);
    }
orderly_end retries i a false e run o =
    let c = o.counted run in
    let l = length-append i.attempts (a ∷ []) in
    record {
      followed = λ n x h k. elim (get_cases i.attempts a n x h) [
        | inl old ↦ let w = get_within i.attempts n x old in o.followed n x old (omega arith)
        | inr new ↦ absurd (let z = new.0 in omega arith)
      ];
      counted = λ r. absurd (omega arith);
      at_most = omega arith;
      given_up = λ r n x h last may.
          elim (get_cases i.attempts a n x h) [
            | inl old ↦ absurd (let w = get_within i.attempts n x old in omega arith)
            | inr new ↦
                let m : may_follow i.idempotent a ≡ true = ap (may_follow i.idempotent) new.1 ∙ may in
                let z = second (may_follow i.idempotent a) (nat_lt 0 i.retries) m e in
                let none : i.retries ≡ 0 = grind (arith, nat_tests) in
                omega arith
          ];
    }

orderly_next : (retries : ℕ) (i : Invoking) (row : Option ClientNext) → IsSome row → IsLive row → running i.state ≡ 1 → IsOrderly retries i → IsOrderly retries (next_of i row)
unfolding IsLive
orderly_next retries i None some lives run o = absurd (no_row some)
orderly_next retries i (Some (Ends a)) some lives run o = orderly_end retries i a (goes_on i a) refl run o
orderly_next retries i (Some (Goes s action)) some lives run o =
    let c = o.counted run in
    record {
      followed = λ n a h k. o.followed n a h (omega arith);
      counted = λ r. c;
      at_most = omega arith;
      given_up = λ r. absurd (omega arith);
    }

run_orderly : (retries : ℕ) (i : Invoking) (es : List ClientEvent) (j : Invoking) → IsOrderly retries i → ClientRun i es j → IsOrderly retries j
run_orderly retries i [] j o e = subst (IsOrderly retries) e o
run_orderly retries i (x ∷ es) j o (some, rest) =
    run_orderly retries (next_of i (row_of i x)) es j
    (orderly_next retries i (row_of i x) some (live i.replies i.length i.state x) (running_from i.replies i.length i.state x some) o) rest

pub keeps_lem : ClientsKeepToTheirRetries
keeps_lem idempotent replies size retries es i run =
    let o = run_orderly retries (began idempotent replies size retries) es i (record {
      followed = λ n a h k. absurd (let z : None ≡ Some a = h in cc);
      counted = λ r. omega arith;
      at_most = omega arith;
      given_up = λ r. absurd (omega arith);
    }) run in
    record {
      at_most = o.at_most;
      followed = o.followed;
      lost = λ n h k. o.followed n ends.Lost h k;
      given_up = λ over. o.given_up (ap running over);
    }
