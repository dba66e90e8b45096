-- No server may dispatch a message that is not idempotent from any attempt but the last.
use Rattle.std.proofs.Common.{◌≡◌, ℕ, Bool, true, false, List, [], ◌∷◌, ◌++◌, Option, None, Some, refl, subst, inl, inr}
use Rattle.std.specs.Prelude.{IsTrue}
use Rattle.ice_encoding.specs.Parts.{Each}
use Rattle.ice_ports.specs.declared.talk.Talk.{Talk}
use Rattle.retry_core.specs.declared.attempt.Attempt.{Attempt}
use Rattle.retry_core.specs.declared.attempt.Attempt.TheVariants as tries
use Rattle.retry_core.specs.Retries.{may_follow}
use Rattle.ice_messages.specs.declared.message.Answer.{Answer}
use Rattle.ice_client.specs.declared.outcome.Outcome.{Outcome}
use Rattle.ice_client.specs.declared.outgoing.Outgoing.{Outgoing}
use Rattle.ice_messages.specs.declared.message.Message.{Message}
use Rattle.ice_client.specs.Rows.{is_stale}
use Rattle.ice_client.specs.Sending.{IsOf, IsIdempotent}
use Rattle.ice_client.specs.Asking.{HasRow}
use Rattle.ice_client.specs.ClientDid.{Tried, IsFollowed, ClientStarved, is_uncached}
use Rattle.ice_gateway.specs.Laws.{ForwardsOnce, IsDead, OnlyLastCounts}

-- at a place that came from no cache no answer is stale
not_stale : (cached : Bool) (answer : Answer) → cached ≡ false → is_stale cached answer ≡ true → ⊥
not_stale true answer fresh stale = cc
not_stale false answer fresh stale = cc

row_dead : (o : Outgoing) (cached : Bool) (a : Attempt) (outcome : Outcome) (talk : Option Talk) → cached ≡ false → HasRow o cached a outcome talk → may_follow false a ≡ true → IsDead o talk
row_dead o cached a outcome None fresh h may = tt
row_dead o cached tries.NotConnected outcome (Some t) fresh h may = absurd h.0
row_dead o cached tries.NotWhole outcome (Some t) fresh h may = inl h.0.0
row_dead o cached tries.Sent outcome (Some t) fresh h may = absurd cc
row_dead o cached tries.Lost outcome (Some t) fresh h may = absurd cc
row_dead o cached tries.Closed outcome (Some t) fresh h may = inr (h.0.0, h.0.1)
row_dead o cached tries.Stale outcome (Some t) fresh h may = absurd (not_stale cached h.0.0 fresh h.0.1.2)
row_dead o cached tries.Broke outcome (Some t) fresh h may = absurd cc
row_dead o cached tries.Replied outcome (Some t) fresh h may = absurd cc

not_true : (b : Bool) → (IsTrue b → ⊥) → b ≡ false
not_true true fresh = absurd (fresh refl)
not_true false fresh = refl

each_dead : (o : Outgoing) (before : List Tried) → o.idempotent ≡ false → Each (IsFollowed o) before → ((x : Tried) → x.cached ≡ false → IsFollowed o x → IsDead o x.talk) → Each is_uncached before → Each (λ (x : Tried). IsDead o x.talk) before
each_dead o [] fresh followed dead uncached = tt
each_dead o (x ∷ xs) fresh followed dead uncached = (dead x uncached.0 followed.0, each_dead o xs fresh followed.1 dead uncached.1)

front : {A : Type 0} (P : A → Type 0) (xs ys : List A) → Each P (xs ++ ys) → Each P xs
front P [] ys each = tt
front P (x ∷ xs) ys each = (each.0, front P xs ys each.1)

only_last : (m : Message) (o : Outgoing) (tried before : List Tried) (last : Tried) → (IsIdempotent m → ⊥) → IsOf o m → tried ≡ before ++ last ∷ [] → Each (IsFollowed o) before → Each is_uncached tried → OnlyLastCounts m tried
only_last m o tried before last twice is_of parts followed uncached =
    let fresh : o.idempotent ≡ false = not_true o.idempotent (λ is. twice (is_of.idempotent.0 is)) in
    let all = front is_uncached before (last ∷ []) (subst (Each is_uncached) parts uncached) in
    inr (
      o,
      before,
      last,
      is_of,
      parts,
      each_dead o before fresh followed (λ x free follows. row_dead o x.cached x.attempt follows.0.0 x.talk free follows.0.1 (subst (λ (b : Bool). may_follow b x.attempt ≡ true) fresh follows.1)) all,
    )

starved_once : (m : Message) (retries : ℕ) (tried : List Tried) → (IsIdempotent m → ⊥) → ClientStarved m retries tried → Each is_uncached tried → OnlyLastCounts m tried
starved_once m retries tried twice (inl none) uncached = inl none
starved_once m retries tried twice (inr did) uncached = only_last m did.outgoing tried did.cut.before did.cut.last twice did.is_of did.cut.parts did.cut.followed uncached

pub forwards_once : ForwardsOnce
forwards_once = record {
  done = λ m retries tried outcome twice did uncached. only_last m did.outgoing tried did.ended.0 did.ended.1 twice did.is_of did.ended.2 did.ended.3 uncached;
  starved = starved_once;
}
