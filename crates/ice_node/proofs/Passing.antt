-- What goes through a gateway is a delivery, and what its caller is told is an answer of a server.
use Rattle.std.proofs.Common.{◌≡◌, ◌⊎◌, map, ℕ, ℤ, pos, negsuc, zero, suc, Bool, true, false, List, [], ◌∷◌, Option, Some, None, refl, sym, ap, subst, inl, inr, ◌∙◌}
use Rattle.std.specs.Prelude.{is_some, nat_le, length, if◌then◌else◌}
use Rattle.ice_encoding.specs.Parts.{Each}
use Rattle.ice_encoding.specs.declared.limits.TheConstants.{LARGEST}
use Rattle.ice_messages.specs.declared.message.Answer.{Answer}
use Rattle.ice_messages.specs.declared.message.Answer.TheVariants.{Done, Raised, Missing, Unknown}
use Rattle.ice_messages.specs.declared.message.Call.{Call}
use Rattle.ice_messages.specs.declared.message.Message.{Message}
use Rattle.ice_messages.specs.declared.message.Message.TheVariants.{Request, Batch, Reply, Validate, Close}
use Rattle.ice_messages.specs.Messages.{message_bytes}
use Rattle.encaps_optionals.specs.Usable.{tcp_at}
use Rattle.ice_client.specs.declared.outcome.Outcome.{Outcome}
use Rattle.ice_client.specs.declared.outcome.Outcome.TheVariants.{Replied, Sent, NetFailed, Ended, Closed, Broke, NoEndpoint}
use Rattle.ice_client.specs.ClientDid.{ClientDid, ClientStarved, Tried}
use Rattle.ice_gateway.specs.declared.admitting.Admitted.TheVariants.{Goes}
use Rattle.ice_gateway.specs.declared.renewing.Renewed.{Renewed}
use Rattle.ice_gateway.specs.declared.renewing.Renewed.TheVariants as renewals
use Rattle.ice_gateway.specs.Anew.{body_anew, exception_anew}
use Rattle.ice_gateway.specs.Gate.{Gate, Operation, operation_of}
use Rattle.ice_gateway.specs.Forwarded.{forwarded, placed, request_anew, batch_anew, calls_anew, id_anew, going}
use Rattle.ice_gateway.specs.Handled.{Handled, Invocation, Answered, WasAnswered, WasForwarded, WasStarved, outcome_of}
use Rattle.ice_gateway.specs.Mapped.{Mapped, ByArguments, ByOperation, IsOutcomes, admitted, admitted_by, given_back, with_arguments, wrapped}
use Rattle.gate_command.proofs.Arriving.{goes_out}
use Rattle.once_law.specs.Ends.{Delivery, HasOtherEnd, IsDelivery, IsSent, RunsOut, tried_of}
use Rattle.once_law.specs.Laws.{HasTurn, HasSingleTurns}
use Rattle.once_law.proofs.Turns.{single_turns, own_turns}
use Rattle.once_law.proofs.Lists.{head_is}
use Rattle.once_law.proofs.Starved.{runs_out, starved_turns}
use Rattle.ice_node.specs.Through.{IsThrough, IsLeftThrough, GatedTurnsAreSingle, StarvedGatedTurnsAreSingle, GatedSuccessesHaveTurns}

-- ---- what is forwarded is what clients send

some_same : {A : Type 0} (x y : A) → Some x ≡ Some y → x ≡ y
some_same x y e = cc

none_some : {A : Type 0} (x : A) → None ≡ Some x → ⊥
none_some x e = cc

by_place : (m x : Message) (b : Bool) → IsSent m → (if b then Some m else None) ≡ Some x → IsSent x
by_place m x true sent e = subst IsSent (some_same m x e) sent
by_place m x false sent e = absurd (none_some x e)

if_placed : (gate : Gate) (m x : Message) → IsSent m → placed gate m ≡ Some x → IsSent x
if_placed gate m x sent e = by_place m x (is_some (tcp_at 0 gate.endpoints)) sent e

id_sent : (id : ℤ) (c : Call) → IsSent (Request (id_anew id) c)
id_sent (pos zero) c = inr refl
id_sent (pos (suc n)) c = inl (c, refl)
id_sent (negsuc n) c = inl (c, refl)

request_sent : (gate : Gate) (id : ℤ) (o : Option Call) (x : Message) → request_anew gate (id_anew id) o ≡ Some x → IsSent x
request_sent gate id None x e = absurd (none_some x e)
request_sent gate id (Some c) x e = if_placed gate (Request (id_anew id) c) x (id_sent id c) e

fits_sent : (gate : Gate) (m x : Message) (b : Bool) → IsSent m → (if b then placed gate m else None) ≡ Some x → IsSent x
fits_sent gate m x true sent e = if_placed gate m x sent e
fits_sent gate m x false sent e = absurd (none_some x e)

batch_sent : (gate : Gate) (cs : List Call) (x : Message) → batch_anew gate cs ≡ Some x → IsSent x
batch_sent gate [] x e = absurd (none_some x e)
batch_sent gate (c ∷ cs) x e = fits_sent gate (Batch (c ∷ cs)) x (nat_le (length (message_bytes (Batch (c ∷ cs)))) LARGEST) (inr (λ none. cc)) e

forwarded_sent : (gate : Gate) (m x : Message) → forwarded gate m ≡ Some x → IsSent x
forwarded_sent gate (Request id c) x e = request_sent gate id (going (admitted gate c)) x e
forwarded_sent gate (Batch cs) x e = batch_sent gate (calls_anew gate cs) x e
forwarded_sent gate (Reply id answer) x e = absurd (none_some x e)
forwarded_sent gate Validate x e = absurd (none_some x e)
forwarded_sent gate Close x e = absurd (none_some x e)

-- ---- it is a delivery

module _ (gate : Gate) (h : Handled) (d : Delivery) (t : IsThrough gate h d) where
  forwards : WasForwarded gate (forwarded gate h.message) (Some t.invocation)
  forwards = subst (WasForwarded gate (forwarded gate h.message)) t.invoked t.handled.0

  by_due : (due : Option Message) → ((x : Message) → due ≡ Some x → IsSent x) → WasForwarded gate due (Some t.invocation) → IsDelivery d
  by_due None sent was = absurd was
  by_due (Some m) sent (is, did, uncached) = record {
    sent = subst IsSent (sym (t.message_is ∙ is)) (sent m refl);
    client = subst (λ (x : Message × ℕ × List Tried × Option Outcome). ClientDid x.0 x.1 x.2 x.3)
        (λ j. (sym (t.message_is ∙ is) j, sym t.retries_are j, sym t.attempts_are j, sym t.outcome_is j)) did;
    ends = t.ends;
  }

  pub is_delivery : IsDelivery d
  is_delivery = by_due (forwarded gate h.message) (forwarded_sent gate h.message) forwards

pub gated_turns : GatedTurnsAreSingle
gated_turns gate h d t = single_turns d (is_delivery gate h d t)

-- ---- a message whatever came of it, or where memory ran out

module _ (d : Delivery) (sent : IsSent d.message) (ends : Each HasOtherEnd d.attempts) where
  -- the same message with this outcome, or none
  abbrev ended : Option Outcome → Delivery
  ended outcome = record { message = d.message; retries = d.retries; attempts = d.attempts; outcome = outcome }

  turn_there : (outcome : Option Outcome) (n seat : ℕ) (a : Answer) → HasTurn d n seat a → HasTurn (ended outcome) n seat a
  turn_there outcome n seat a u = record { attempt = u.attempt; at = u.at; session = u.session; served = u.served; gave = u.gave }

  pub by_outcome : (outcome : Option Outcome) → ClientDid d.message d.retries (map tried_of d.attempts) outcome → HasSingleTurns d
  by_outcome outcome did =
      λ seat call asked i j a b u v. single_turns (ended outcome) (record { sent = sent; client = did; ends = ends })
      seat call asked i j a b (turn_there outcome i seat a u) (turn_there outcome j seat b v)

  pub by_want : RunsOut d.message d.retries (map tried_of d.attempts) → HasSingleTurns d
  by_want out = starved_turns d (record { sent = sent; client = out; ends = ends })

module _ (gate : Gate) (m : Message) (d : Delivery) (t : IsLeftThrough gate m d) where
  sent_on : IsSent d.message
  sent_on = forwarded_sent gate m d.message t.message_is

  by_starved : (tried : List Tried) → tried ≡ map tried_of d.attempts → ClientStarved d.message gate.retries tried ⊎ ((outcome : Outcome) × ClientDid d.message gate.retries tried (Some outcome)) → HasSingleTurns d
  by_starved tried is (inl starved) =
      by_want d sent_on t.ends (runs_out d.message d.retries (map tried_of d.attempts)
      (subst (λ (x : ℕ × List Tried). ClientStarved d.message x.0 x.1) (λ j. (sym t.retries_are j, is j)) starved))
  by_starved tried is (inr (outcome, did)) =
      by_outcome d sent_on t.ends (Some outcome) (subst (λ (x : ℕ × List Tried). ClientDid d.message x.0 x.1 (Some outcome)) (λ j. (sym t.retries_are j, is j)) did)

  by_was : WasStarved gate d.message (map tried_of d.attempts ∷ []) → HasSingleTurns d
  by_was (inl none) = absurd cc
  by_was (inr (tried, runs, uncached, how)) = by_starved tried (sym (head_is runs)) how

pub starved_gated_turns : StarvedGatedTurnsAreSingle
starved_gated_turns gate m d t = by_was gate m d t t.starved

-- ---- what is told

done_body : Answer → List ℕ
done_body (Done body) = body
done_body (Raised body) = body
done_body (Missing status i f o) = []
done_body (Unknown status what) = []

written_done : (r : Renewed) (body : List ℕ) → Done body ≡ wrapped Done r → r ≡ renewals.Written body
unfolding done_body
written_done (renewals.Written x) body e = ap renewals.Written (ap done_body (sym e))
written_done renewals.TooLong body e = absurd cc
written_done (renewals.Broken fault) body e = absurd cc

raised_done : (r : Renewed) (body : List ℕ) → Done body ≡ wrapped Raised r → ⊥
raised_done (renewals.Written x) body e = cc
raised_done renewals.TooLong body e = cc
raised_done (renewals.Broken fault) body e = cc

-- a success is told of a success alone
abbrev IsSuccess : Operation → List ℕ → Outcome → Type 0
IsSuccess op body outcome = (came : List ℕ) × (outcome ≡ Replied (Done came)) × (body_anew op.tables op.declared.results came ≡ renewals.Written body)

of_answer : (gate : Gate) (op : Operation) (body : List ℕ) (came : Answer) → Done body ≡ given_back gate op came → IsSuccess op body (Replied came)
of_answer gate op body (Done x) e = (x, refl, written_done (body_anew op.tables op.declared.results x) body e)
of_answer gate op body (Raised x) e = absurd (raised_done (exception_anew gate.tables x) body e)
of_answer gate op body (Missing status i f o) e = absurd cc
of_answer gate op body (Unknown status what) e = absurd cc

of_outcome : (gate : Gate) (op : Operation) (body : List ℕ) (outcome : Outcome) → IsOutcomes gate op outcome (Done body) → IsSuccess op body outcome
of_outcome gate op body (Replied came) e = of_answer gate op body came e
of_outcome gate op body Sent e = absurd e
of_outcome gate op body NetFailed e = absurd cc
of_outcome gate op body Ended e = absurd cc
of_outcome gate op body Closed e = absurd cc
of_outcome gate op body (Broke fault) e = absurd cc
of_outcome gate op body NoEndpoint e = absurd e

module _ (gate : Gate) (i : Invocation) (c : Call) (op : Operation) (body : List ℕ) (known : operation_of gate c.operation ≡ Some op) where
  of_mapped : (id : ℤ) → WasForwarded gate (request_anew gate (id_anew id) (going (admitted gate c))) (Some i) → Mapped gate c (Some i.outcome) (Done body) → IsSuccess op body i.outcome
  of_mapped id was mapped =
      let goes = goes_out gate id c (admitted gate c) i was in
      let args : with_arguments c (body_anew op.tables op.declared.arguments c.body) ≡ Goes goes.0 = sym (ap (admitted_by c) known) ∙ goes.1 in
      let by : ByOperation gate c (Some i.outcome) (Done body) (Some op) = subst (ByOperation gate c (Some i.outcome) (Done body)) known mapped in
      of_outcome gate op body i.outcome (subst (ByArguments gate op (Some i.outcome) (Done body)) args by)

  told_done : (id : ℤ) (answer : Answer) → Reply id answer ∷ [] ≡ Reply id (Done body) ∷ [] → answer ≡ Done body
  told_done id answer e = cc

  of_answered : (id : ℤ) → WasForwarded gate (forwarded gate (Request id c)) (Some i) → Answered gate id c (Some i.outcome) (Reply id (Done body) ∷ []) → IsSuccess op body i.outcome
  of_answered id was (answer, are, mapped) = of_mapped id was (subst (Mapped gate c (Some i.outcome)) (told_done id answer (sym are)) mapped)

  of_request : (id : ℤ) → WasForwarded gate (forwarded gate (Request id c)) (Some i) → WasAnswered gate (Request id c) (Some i.outcome) (Reply id (Done body) ∷ []) → IsSuccess op body i.outcome
  of_request (pos zero) was none = absurd cc
  of_request (pos (suc n)) was answered = of_answered (pos (suc n)) was answered
  of_request (negsuc n) was answered = of_answered (negsuc n) was answered

pub gated_successes : GatedSuccessesHaveTurns
gated_successes gate h d t id c op body request known told =
    let i = t.invocation in
    let parts : WasForwarded gate (forwarded gate (Request id c)) (Some i) × WasAnswered gate (Request id c) (Some i.outcome) (Reply id (Done body) ∷ []) =
    subst (λ (x : Message × Option Invocation × List Message). WasForwarded gate (forwarded gate x.0) x.1 × WasAnswered gate x.0 (outcome_of x.1) x.2) (λ j. (request j, t.invoked j, told j)) t.handled in
    let success = of_request gate i c op body known id parts.0 parts.1 in
    let turn = own_turns d (is_delivery gate h d t) (Done success.0) (t.outcome_is ∙ ap (λ (o : Outcome). Some o) success.1) refl in
    (turn.0, success.0, turn.1, success.2)
