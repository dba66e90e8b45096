-- A success that a server gave to a request is the caller's reply.
use Rattle.std.proofs.Common.{◌≡◌, ◌≢◌, ℕ, ℤ, pos, negsuc, zero, suc, List, [], ◌∷◌, ◌++◌, Option, Some, None, Bool, false, refl, sym, ap, subst, ◌∙◌}
use Rattle.ice_encoding.specs.Parts.{Each}
use Rattle.ice_ports.specs.declared.talk.Talk.{Talk}
use Rattle.ice_messages.specs.declared.message.Answer.{Answer}
use Rattle.ice_messages.specs.declared.message.Answer.TheVariants.{Done}
use Rattle.ice_messages.specs.declared.message.Call.{Call}
use Rattle.ice_messages.specs.declared.message.Message.{Message}
use Rattle.ice_messages.specs.declared.message.Message.TheVariants.{Request, Reply}
use Rattle.retry_core.specs.declared.attempt.Attempt.{Attempt}
use Rattle.retry_core.specs.declared.attempt.Attempt.TheVariants as tries
use Rattle.ice_client.specs.declared.outcome.Outcome.{Outcome}
use Rattle.ice_client.specs.declared.outcome.Outcome.TheVariants.{Replied}
use Rattle.ice_client.specs.declared.outgoing.Outgoing.{Outgoing}
use Rattle.ice_client.specs.Asking.{HasRow}
use Rattle.ice_client.specs.ClientDid.{Tried, ClientDid, is_uncached}
use Rattle.ice_client.specs.Rows.{Row, IsReplied}
use Rattle.ice_client.specs.Sending.{IsOf}
use Rattle.ice_client.proofs.OneRow.{one_row, one_answer}
use Rattle.ice_gateway.specs.declared.admitting.Admitted.{Admitted}
use Rattle.ice_gateway.specs.declared.admitting.Admitted.TheVariants.{Goes, Refused}
use Rattle.ice_gateway.specs.declared.renewing.Renewed.TheVariants.{Written}
use Rattle.ice_gateway.specs.Anew.{body_anew}
use Rattle.ice_gateway.specs.Gate.{Gate, Operation, operation_of}
use Rattle.ice_gateway.specs.Forwarded.{forwarded, going, id_anew, request_anew}
use Rattle.ice_gateway.specs.Handled.{Invocation, Answered, WasAnswered, WasForwarded, outcome_of}
use Rattle.ice_gateway.specs.Mapped.{Mapped, ByArguments, ByOperation, admitted, admitted_by, with_arguments, wrapped}
use Rattle.gate_command.specs.Laws.{SuccessesArrive}

-- ---- the last attempt tells the outcome

last_same : (xs ys : List Tried) (x y : Tried) → xs ++ x ∷ [] ≡ ys ++ y ∷ [] → x ≡ y
last_same [] [] x y e = cc
last_same [] (b ∷ []) x y e = absurd cc
last_same [] (b ∷ c ∷ ys) x y e = absurd cc
last_same (a ∷ []) [] x y e = absurd cc
last_same (a ∷ d ∷ xs) [] x y e = absurd cc
last_same (a ∷ xs) (b ∷ ys) x y e = last_same xs ys x y cc

last_of : (P : Tried → Type 0) (xs : List Tried) (x : Tried) → Each P (xs ++ x ∷ []) → P x
last_of P [] x each = each.0
last_of P (y ∷ ys) x each = last_of P ys x each.1

-- over this talk came these results, so they are what the attempt came to
row_tells : (o : Outgoing) (t : Talk) (a : Attempt) (outcome : Outcome) (answer : Answer) → IsReplied o false t answer false → Row o false a outcome t → outcome ≡ Replied answer
row_tells o t a outcome answer replied row =
    let same : a ≡ tries.Replied = one_row o false t a tries.Replied outcome (Replied answer) row (answer, replied, refl) in
    let other : Row o false tries.Replied outcome t = subst (λ (x : Attempt). Row o false x outcome t) same row in
    other.2 ∙ ap Replied (one_answer o false t other.0 answer false false other.1 replied)

attempt_tells : (o : Outgoing) (last : Tried) (t : Talk) (outcome : Outcome) (answer : Answer) → last.cached ≡ false → last.talk ≡ Some t → IsReplied o false t answer false
    → HasRow o last.cached last.attempt outcome last.talk → outcome ≡ Replied answer
attempt_tells o last t outcome answer uncached connected replied has =
    let row : HasRow o false last.attempt outcome (Some t) = subst (λ (x : Bool × Option Talk). HasRow o x.0 last.attempt outcome x.1) (λ j. (uncached j, connected j)) has in
    row_tells o t last.attempt outcome answer replied row.0

pub outcome_told : (m : Message) (retries : ℕ) (i : Invocation) (before : List Tried) (last : Tried) (t : Talk) (answer : Answer) → ClientDid m retries i.tried (Some i.outcome) → Each is_uncached i.tried
    → i.tried ≡ before ++ last ∷ [] → last.talk ≡ Some t → ((o : Outgoing) → IsOf o m → IsReplied o false t answer false) → i.outcome ≡ Replied answer
outcome_told m retries i before last t answer did uncached are connected replied =
    let same : did.ended.1 ≡ last = last_same did.ended.0 before did.ended.1 last (sym did.ended.2 ∙ are) in
    let free : last.cached ≡ false = last_of is_uncached before last (subst (Each is_uncached) are uncached) in
    let row : HasRow did.outgoing last.cached last.attempt i.outcome last.talk = subst (λ (x : Tried). HasRow did.outgoing x.cached x.attempt i.outcome x.talk) same did.ended.4 in
    attempt_tells did.outgoing last t i.outcome answer free connected (replied did.outgoing did.is_of) row

-- ---- a request that was forwarded

-- one that is refused is not forwarded
pub goes_out : (gate : Gate) (id : ℤ) (c : Call) (a : Admitted) (i : Invocation) → WasForwarded gate (request_anew gate (id_anew id) (going a)) (Some i) → (call : Call) × (a ≡ Goes call)
goes_out gate id c (Goes call) i was = (call, refl)
goes_out gate id c (Refused answer) i was = absurd was

-- by the operation, its answer is what was given back
pub given_so : (gate : Gate) (c : Call) (op : Operation) (i : Invocation) (id : ℤ) (came body : List ℕ) (answer : Answer) → operation_of gate c.operation ≡ Some op
    → WasForwarded gate (request_anew gate (id_anew id) (going (admitted gate c))) (Some i) → i.outcome ≡ Replied (Done came)
    → body_anew op.tables op.declared.results came ≡ Written body → Mapped gate c (Some i.outcome) answer → answer ≡ Done body
given_so gate c op i id came body answer known was is anew mapped =
    let goes = goes_out gate id c (admitted gate c) i was in
    let args : with_arguments c (body_anew op.tables op.declared.arguments c.body) ≡ Goes goes.0 = sym (ap (admitted_by c) known) ∙ goes.1 in
    let by : ByOperation gate c (Some (Replied (Done came))) answer (Some op) = subst (λ (x : Option Operation × Outcome). ByOperation gate c (Some x.1) answer x.0) (λ j. (known j, is j)) mapped in
    let told : ByArguments gate op (Some (Replied (Done came))) answer (Goes goes.0) = subst (ByArguments gate op (Some (Replied (Done came))) answer) args by in
    told ∙ ap (wrapped Done) anew

module _ (gate : Gate) (i : Invocation) (c : Call) (op : Operation) (came body : List ℕ) (known : operation_of gate c.operation ≡ Some op) (is : i.outcome ≡ Replied (Done came))
    (anew : body_anew op.tables op.declared.results came ≡ Written body) where
  of_answered : (id : ℤ) (replies : List Message) → WasForwarded gate (forwarded gate (Request id c)) (Some i) → Answered gate id c (Some i.outcome) replies → replies ≡ Reply id (Done body) ∷ []
  of_answered id replies was (answer, are, mapped) = are ∙ ap (λ (x : Answer). Reply id x ∷ []) (given_so gate c op i id came body answer known was is anew mapped)

  pub replies_so : (id : ℤ) (replies : List Message) → id ≢ pos 0 → WasForwarded gate (forwarded gate (Request id c)) (Some i) → WasAnswered gate (Request id c) (Some i.outcome) replies → replies ≡ Reply id (Done body) ∷ []
  replies_so (pos zero) replies some was answered = absurd (some refl)
  replies_so (pos (suc n)) replies some was answered = of_answered (pos (suc n)) replies was answered
  replies_so (negsuc n) replies some was answered = of_answered (negsuc n) replies was answered

pub successes_arrive : SuccessesArrive
successes_arrive gate h i id c op before last t came body handled invoked request some known are connected replied anew =
    let parts : WasForwarded gate (forwarded gate (Request id c)) (Some i) × WasAnswered gate (Request id c) (Some i.outcome) h.replies =
    subst (λ (x : Message × Option Invocation). WasForwarded gate (forwarded gate x.0) x.1 × WasAnswered gate x.0 (outcome_of x.1) h.replies) (λ j. (request j, invoked j)) handled in
    replies_so gate i c op came body known (told (forwarded gate (Request id c)) parts.0) anew id h.replies some parts.0 parts.1
  where
    told : (due : Option Message) → WasForwarded gate due (Some i) → i.outcome ≡ Replied (Done came)
    told None was = absurd was
    told (Some m) (is, did, uncached) = outcome_told m gate.retries i before last t (Done came) did uncached are connected (λ o of. replied o (subst (IsOf o) (sym is) of))
