-- A success of a server comes back to the caller.
use Rattle.std.proofs.Common.{◌≡◌, Bool, false, List, [], ◌∷◌, ◌++◌, Option, Some, refl, sym, ap, subst, ◌∙◌}
use Rattle.ice_ports.specs.declared.talk.Talk.{Talk}
use Rattle.retry_core.specs.declared.attempt.Attempt.{Attempt}
use Rattle.retry_core.specs.declared.attempt.Attempt.TheVariants as tries
use Rattle.ice_messages.specs.declared.message.Answer.{Answer}
use Rattle.ice_messages.specs.declared.message.Answer.TheVariants.{Done}
use Rattle.ice_client.specs.declared.outcome.Outcome.{Outcome}
use Rattle.ice_client.specs.declared.outcome.Outcome.TheVariants as outcomes
use Rattle.ice_client.specs.declared.outgoing.Outgoing.{Outgoing}
use Rattle.ice_client.specs.Rows.{IsReplied, Row}
use Rattle.ice_client.specs.Asking.{HasRow}
use Rattle.ice_client.specs.ClientDid.{Comes, Tried}
use Rattle.ice_client.proofs.OneRow.{one_answer, one_row}
use Rattle.ice_gateway.specs.declared.admitting.Admitted.TheVariants.{Goes}
use Rattle.ice_gateway.specs.Gate.{Operation}
use Rattle.ice_gateway.specs.Mapped.{ByArguments, ByOperation, IsOutcomes, admitted_by, wrapped}
use Rattle.ice_gateway.specs.Laws.{SuccessesComeBack}

last_is : {A : Type 0} (xs ys : List A) (x y : A) → xs ++ x ∷ [] ≡ ys ++ y ∷ [] → x ≡ y
last_is [] [] x y e = cc
last_is [] (w ∷ []) x y e = absurd (let z = e in cc)
last_is [] (w ∷ v ∷ ys) x y e = absurd (let z = e in cc)
last_is (z ∷ []) [] x y e = absurd (let f = e in cc)
last_is (z ∷ v ∷ xs) [] x y e = absurd (let f = e in cc)
last_is (z ∷ xs) (w ∷ ys) x y e = last_is xs ys x y (let f = e in cc)

-- the reply that a talk shows is the outcome of its attempt
replied_so : (o : Outgoing) (cached : Bool) (a : Attempt) (outcome : Outcome) (t : Talk) (answer : Answer) → IsReplied o cached t answer false → Row o cached a outcome t → outcome ≡ outcomes.Replied answer
replied_so o cached a outcome t answer replied row =
    let same : a ≡ tries.Replied = one_row o cached t a tries.Replied outcome (outcomes.Replied answer) row (answer, replied, refl) in
    let r = subst (λ (b : Attempt). Row o cached b outcome t) same row in
    r.2 ∙ ap outcomes.Replied (one_answer o cached t r.0 answer false false r.1 replied)

pub come_back : SuccessesComeBack
come_back gate c call op m tried before last t outcome body out answer known goes did is talk_is replied results mapped =
    let o = did.outgoing in
    let same : did.ended.1 ≡ last = last_is did.ended.0 before did.ended.1 last (sym did.ended.2 ∙ is) in
    let comes = subst (λ (x : Tried). Comes o x outcome) same did.ended.4 in
    let row = (subst (λ (z : Option Talk). HasRow o last.cached last.attempt outcome z) talk_is comes).0 in
    let outcome_is = replied_so o last.cached last.attempt outcome t (Done body) replied row in
    let by = subst (ByOperation gate c (Some outcome) answer) known mapped in
    let went = subst (λ (z : Option Operation). admitted_by c z ≡ Goes call) known goes in
    let came = subst (ByArguments gate op (Some outcome) answer) went by in
    subst (λ (z : Outcome). IsOutcomes gate op z answer) outcome_is came ∙ ap (wrapped Done) results
