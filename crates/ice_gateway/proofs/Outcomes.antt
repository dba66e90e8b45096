-- What a message that was tried can come to.
use Rattle.std.proofs.Common.{◌≡◌, ℕ, Bool, true, false, List, [], ◌∷◌, Option, None, Some, IsSome, Ok, Err, refl, sym, subst, ◌∙◌, inl, inr}
use Rattle.ice_encoding.specs.Parts.{Each}
use Rattle.ice_ports.specs.declared.talk.Talk.{Talk}
use Rattle.encaps_optionals.specs.Usable.{tcp_at}
use Rattle.ice_messages.specs.declared.fault.WriteFault.{WriteFault}
use Rattle.ice_messages.specs.declared.fault.WriteFault.TheVariants.{Memory}
use Rattle.ice_messages.specs.declared.message.Answer.{Answer}
use Rattle.ice_messages.specs.declared.message.Message.{Message}
use Rattle.retry_core.specs.declared.attempt.Attempt.{Attempt}
use Rattle.retry_core.specs.declared.attempt.Attempt.TheVariants as tries
use Rattle.ice_client.specs.declared.outcome.Outcome.{Outcome}
use Rattle.ice_client.specs.declared.outcome.Outcome.TheVariants as outcomes
use Rattle.ice_client.specs.declared.outcome.Invoked.{Invoked}
use Rattle.ice_client.specs.declared.outgoing.Outgoing.{Outgoing}
use Rattle.ice_client.specs.Rows.{IsLoss, IsReplied}
use Rattle.ice_client.specs.Asking.{HasRow}
use Rattle.ice_client.specs.Sending.{asks_reply}
use Rattle.ice_client.specs.ClientDid.{Tried, ClientDid, Invokes, had, is_uncached}
use Rattle.ice_gateway.specs.Gate.{Gate}
use Rattle.ice_gateway.specs.Handled.{WasStarved, DueStarved}
use Rattle.ice_gateway.specs.Laws.{CameBack, CanCome}

replied_came : (o : Outgoing) (cached : Bool) (t : Talk) (answer : Answer) (stale : Bool) → IsReplied o cached t answer stale → CameBack answer
replied_came o cached t answer stale h = let begins = h.1.2 in (begins.1.0, begins.1.3)

loss_comes : (outcome : Outcome) (t : Talk) → IsLoss outcome t → CanCome outcome
loss_comes outcome t (inl h) = subst CanCome (sym h.0) tt
loss_comes outcome t (inr h) = subst CanCome (sym h.0) tt

row_comes : (o : Outgoing) (cached : Bool) (a : Attempt) (outcome : Outcome) (talk : Option Talk) → o.replies ≡ true → HasRow o cached a outcome talk → CanCome outcome
row_comes o cached a outcome None replies h = subst CanCome (sym h.1) tt
row_comes o cached tries.NotConnected outcome (Some t) replies h = absurd h.0
row_comes o cached tries.NotWhole outcome (Some t) replies h = loss_comes outcome t h.0.2
row_comes o cached tries.Sent outcome (Some t) replies h = absurd (let e : true ≡ false = sym replies ∙ h.0.1 in cc)
row_comes o cached tries.Lost outcome (Some t) replies h = loss_comes outcome t h.0.4
row_comes o cached tries.Closed outcome (Some t) replies h = subst CanCome (sym h.0.2) tt
row_comes o cached tries.Stale outcome (Some t) replies h = subst CanCome (sym h.0.2) (replied_came o cached t h.0.0 true h.0.1)
row_comes o cached tries.Broke outcome (Some t) replies h = subst CanCome (sym h.0.2) tt
row_comes o cached tries.Replied outcome (Some t) replies h = subst CanCome (sym h.0.2) (replied_came o cached t h.0.0 false h.0.1)

pub outcome_comes : (m : Message) (retries : ℕ) (tried : List Tried) (outcome : Outcome) → asks_reply m ≡ true → ClientDid m retries tried (Some outcome) → CanCome outcome
outcome_comes m retries tried outcome asks did =
    let last = did.ended.1 in
    row_comes did.outgoing last.cached last.attempt outcome last.talk (did.is_of.replies ∙ asks) did.ended.4

-- ---- where an endpoint can be used

had_some : (outcome : Outcome) → (outcome ≡ outcomes.NoEndpoint → ⊥) → had outcome ≡ Some outcome
had_some (outcomes.Replied answer) other = refl
had_some outcomes.Sent other = refl
had_some outcomes.NetFailed other = refl
had_some outcomes.Ended other = refl
had_some outcomes.Closed other = refl
had_some (outcomes.Broke fault) other = refl
had_some outcomes.NoEndpoint other = absurd (other refl)

not_none : {A : Type 0} (p : Option A) → IsSome p → p ≡ None → ⊥
not_none None some e = absurd (let z : false ≡ true = some in cc)
not_none (Some x) some e = cc

pub was_tried : (gate : Gate) (m : Message) (tried : List Tried) (r : Invoked) → IsSome (tcp_at 0 gate.endpoints) → Invokes m gate.endpoints gate.retries tried (Ok r)
    → ClientDid m gate.retries tried (Some r.outcome) × Each is_uncached tried
was_tried gate m tried r some (attempts, did, placed, uncached, short) =
    (subst (ClientDid m gate.retries tried) (had_some r.outcome (λ e. not_none (tcp_at 0 gate.endpoints) some (placed.exactly.0 e))) did, uncached)

-- ---- where memory ran out

pub starved_behind : (gate : Gate) (m : Message) (runs : List (List Tried)) (tried : List Tried) (outcome : Outcome) → runs ≡ tried ∷ [] → ClientDid m gate.retries tried (Some outcome) → Each is_uncached tried → WasStarved gate m runs
starved_behind gate m runs tried outcome is did uncached = inr (tried, is, uncached, inr (outcome, did))

pub starved_in : (gate : Gate) (m : Message) (tried : List Tried) (e : WriteFault) → e ≡ Memory → Invokes m gate.endpoints gate.retries tried (Err e) → WasStarved gate m (tried ∷ [])
starved_in gate m tried e is h =
    let so = subst (λ (x : WriteFault). Invokes m gate.endpoints gate.retries tried (Err x)) is h in
    inr (tried, refl, so.1, inl so.0)

pub none_starved : (gate : Gate) (due : Option Message) → DueStarved gate due []
none_starved gate None = refl
none_starved gate (Some m) = inl refl
