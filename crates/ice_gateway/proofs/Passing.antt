-- How a message that is due was forwarded, and what that makes of a request.
use Rattle.std.proofs.Common.{◌≡◌, ◌≢◌, ℕ, pos, ◌<◌, ◌≤◌, ◌⊎◌, inl, inr, Bool, List, [], ◌∷◌, length, refl, sym, ap, subst, ◌++◌, ◌+◌, ◌∙◌, drop, get_or, append_assoc, append-nil}
use Rattle.std.specs.Prelude.{Option, Some, None, IsSome, IfOk, OnOk, Result, Ok, Err, is_some, if◌then◌else◌}
use Rattle.std.proofs.lemmas.Bool.{le-leb, lt-leb}
use Rattle.std.proofs.lemmas.List.{drop_all, drop_more}
use Rattle.ice_encoding.specs.declared.limits.TheConstants.{LARGEST}
use Rattle.encaps_optionals.specs.Usable.{tcp_at}
use Rattle.ice_messages.specs.declared.fault.WriteFault.{WriteFault}
use Rattle.ice_messages.specs.declared.fault.WriteFault.TheVariants.{Memory}
use Rattle.ice_messages.specs.declared.message.Call.{Call}
use Rattle.ice_messages.specs.declared.message.Answer.{Answer}
use Rattle.ice_messages.specs.declared.message.Message.{Message}
use Rattle.ice_messages.specs.declared.message.Message.TheVariants.{Batch}
use Rattle.ice_encoding.specs.Parts.{Each}
use Rattle.ice_messages.specs.Messages.{message_bytes}
use Rattle.ice_messages.specs.Written.{IsWritableCall}
use Rattle.ice_client.specs.declared.outcome.Outcome.{Outcome}
use Rattle.ice_client.specs.declared.outcome.Invoked.{Invoked}
use Rattle.ice_client.specs.ClientDid.{Tried, Invokes}
use Rattle.object_adapter.specs.Refusals.{missed}
use Rattle.object_adapter.specs.Replies.{CanReply, IsReply}
use Rattle.object_adapter.proofs.Short.{replies}
use Rattle.ice_gateway.specs.declared.admitting.Admitted.{Admitted}
use Rattle.ice_gateway.specs.Gate.{Gate, Operation, operation_of}
use Rattle.ice_gateway.specs.Mapped.{Mapped, ByOperation, ByArguments, admitted, admitted_by}
use Rattle.ice_gateway.specs.Forwarded.{placed, going, request_anew, with_call, calls_anew, batch_anew}
use Rattle.ice_gateway.specs.Laws.{CanGo}
use Rattle.ice_gateway.specs.Handled.{Invocation, WasForwarded, WasStarved, DueStarved}
use Rattle.ice_gateway.specs.Parts.{Answers, CameTo, Passed}
use Rattle.ice_gateway.proofs.Outcomes.{was_tried, starved_behind, starved_in, none_starved}

-- ---- whether an endpoint can be used

pub placed_none : (gate : Gate) (m : Message) → tcp_at 0 gate.endpoints ≡ None → placed gate m ≡ None
placed_none gate m none = ap (λ (p : Option (List ℕ × ℕ)). if is_some p then Some m else None) none

pub placed_some : (gate : Gate) (m : Message) → IsSome (tcp_at 0 gate.endpoints) → placed gate m ≡ Some m
placed_some gate m some = ap (λ (b : Bool). if b then Some m else None) some

-- ---- a message for which no reply comes

pub passed_by : (gate : Gate) (due : Option Message) → due ≡ None → Passed gate due []
passed_by gate due none = (None, refl, subst (λ (d : Option Message). WasForwarded gate d None) (sym none) tt)

pub was_sent : (gate : Gate) (m : Message) (tried : List Tried) (r : Invoked) → IsSome (tcp_at 0 gate.endpoints) → Invokes m gate.endpoints gate.retries tried (Ok r) → Passed gate (placed gate m) (tried ∷ [])
was_sent gate m tried r some h =
    let i : Invocation = record { message = m; tried = tried; outcome = r.outcome } in
    let was = was_tried gate m tried r some h in
    (Some i, refl, subst (λ (d : Option Message). WasForwarded gate d (Some i)) (sym (placed_some gate m some)) (refl, was.0, was.1))

-- where memory ran out
pub due_starved : (gate : Gate) (m : Message) (runs : List (List Tried)) → IsSome (tcp_at 0 gate.endpoints) → WasStarved gate m runs → DueStarved gate (placed gate m) runs
due_starved gate m runs some h = subst (λ (d : Option Message). DueStarved gate d runs) (sym (placed_some gate m some)) h

pub send_starved : (gate : Gate) (m : Message) (tried : List Tried) (e : WriteFault) → IsSome (tcp_at 0 gate.endpoints) → e ≡ Memory → Invokes m gate.endpoints gate.retries tried (Err e) → DueStarved gate (placed gate m) (tried ∷ [])
send_starved gate m tried e some is h = due_starved gate m (tried ∷ []) some (starved_in gate m tried e is h)

-- ---- the calls of a batch

pub batch_stays : (gate : Gate) (cs : List Call) → (cs ≡ []) ⊎ (LARGEST < length (message_bytes (Batch cs))) → batch_anew gate cs ≡ None
batch_stays gate [] why = refl
batch_stays gate (c ∷ cs) (inl none) = absurd cc
batch_stays gate (c ∷ cs) (inr long) = ap (λ (b : Bool). if b then placed gate (Batch (c ∷ cs)) else None) (lt-leb (length (message_bytes (Batch (c ∷ cs)))) LARGEST long)

pub batch_goes : (gate : Gate) (cs : List Call) → cs ≢ [] → length (message_bytes (Batch cs)) ≤ LARGEST → batch_anew gate cs ≡ placed gate (Batch cs)
batch_goes gate [] some short = absurd (some refl)
batch_goes gate (c ∷ cs) some short = ap (λ (b : Bool). if b then placed gate (Batch (c ∷ cs)) else None) (le-leb (length (message_bytes (Batch (c ∷ cs)))) LARGEST short)

-- ---- a request that asks for a reply

pub not_forwarded : {E : Type 0} (gate : Gate) (due : Option Message) (Is : Option Outcome → Answer → Type 0) (r : Result Answer E) → due ≡ None → IfOk r (Is None) → Answers gate due Is [] r
not_forwarded gate due Is (Ok answer) none is = (None, refl, subst (λ (d : Option Message). WasForwarded gate d None) (sym none) tt, is)
not_forwarded gate due Is (Err e) none is = none_starved gate due

pub was_forwarded : {E : Type 0} (gate : Gate) (m : Message) (Is : Option Outcome → Answer → Type 0) (runs : List (List Tried)) (outcome : Outcome) (r : Result Answer E) → IsSome (tcp_at 0 gate.endpoints)
    → CameTo gate m runs outcome → IfOk r (Is (Some outcome)) → Answers gate (placed gate m) Is runs r
was_forwarded gate m Is runs outcome (Ok answer) some h is =
    let i : Invocation = record { message = m; tried = h.0; outcome = outcome } in
    (Some i, h.1, subst (λ (d : Option Message). WasForwarded gate d (Some i)) (sym (placed_some gate m some)) (refl, h.2, h.3), is)
was_forwarded gate m Is runs outcome (Err e) some h is = subst (λ (d : Option Message). DueStarved gate d runs) (sym (placed_some gate m some)) (starved_behind gate m runs h.0 outcome h.1 h.2 h.3)

-- by what became of its call
abbrev pub AnswersIn : {E : Type 0} → Gate → Operation → List (List Tried) → Result Answer E → Admitted → Type 0
AnswersIn gate op runs r a = Answers gate (request_anew gate (pos 1) (going a)) (λ (o : Option Outcome) (answer : Answer). ByArguments gate op o answer a) runs r

-- by its operation
abbrev pub AnswersBy : {E : Type 0} → Gate → Call → List (List Tried) → Result Answer E → Option Operation → Type 0
AnswersBy gate c runs r op = Answers gate (request_anew gate (pos 1) (going (admitted_by c op))) (λ (o : Option Outcome) (answer : Answer). ByOperation gate c o answer op) runs r

pub not_known : {E : Type 0} (gate : Gate) (c : Call) (r : Result Answer E) → None ≡ operation_of gate c.operation → IfOk r (λ answer. answer ≡ missed 4 c)
    → Answers gate (request_anew gate (pos 1) (going (admitted gate c))) (Mapped gate c) [] r
not_known gate c r none is = subst (AnswersBy gate c [] r) none (not_forwarded gate None (λ (o : Option Outcome) (answer : Answer). answer ≡ missed 4 c) r refl is)

-- its call was tried by this operation
pub known_so : {E : Type 0} (gate : Gate) (c : Call) (op : Operation) (a : Admitted) (runs : List (List Tried)) (r : Result Answer E) → Some op ≡ operation_of gate c.operation → a ≡ admitted_by c (Some op) → AnswersIn gate op runs r a
    → Answers gate (request_anew gate (pos 1) (going (admitted gate c))) (Mapped gate c) runs r
known_so gate c op a runs r found is h = subst (AnswersBy gate c runs r) found (subst (AnswersIn gate op runs r) is h)

pub each_reply : {E : Type 0} (c : Call) (r : Result Answer E) → IfOk r IsReply → IfOk r (CanReply c)
each_reply c (Ok answer) is = replies c answer is
each_reply c (Err e) is = is

-- ---- calls that are put behind others

pub put_behind : (all rest : List Call) (o : Option Call) → (all ++ with_call o []) ++ rest ≡ all ++ with_call o rest
put_behind all rest None = ap (λ (l : List Call). l ++ rest) (append-nil all)
put_behind all rest (Some c) = append_assoc all (c ∷ []) rest

pub each_behind : (P : Call → Type 0) (all : List Call) (c : Call) → P c → Each P all → Each P (all ++ c ∷ [])
each_behind P [] c p each = (p, tt)
each_behind P (x ∷ xs) c p each = (each.0, each_behind P xs c p each.1)

pub each_writable : (cs : List Call) → Each CanGo cs → Each IsWritableCall cs
each_writable [] each = tt
each_writable (c ∷ cs) each = (each.0.0, each_writable cs each.1)

next_is : (xs : List Call) (i : ℕ) (x : Call) → i < length xs → x ≡ get_or xs i x → drop i xs ≡ x ∷ drop (i + 1) xs
next_is xs i x lt at = drop_more xs i x lt ∙ ap (λ (y : Call). y ∷ drop (i + 1) xs) (sym at)

-- one call more, and none more
pub put_next : (gate : Gate) (xs : List Call) (i : ℕ) (x : Call) (all more : List Call) → i < length xs → x ≡ get_or xs i x → more ≡ all ++ with_call (going (admitted gate x)) []
    → all ++ calls_anew gate (drop i xs) ≡ calls_anew gate xs → more ++ calls_anew gate (drop (i + 1) xs) ≡ calls_anew gate xs
put_next gate xs i x all more lt at is before =
    let rest = calls_anew gate (drop (i + 1) xs) in
    ap (λ (l : List Call). l ++ rest) is ∙ (put_behind all rest (going (admitted gate x)) ∙ (ap (λ (l : List Call). all ++ calls_anew gate l) (sym (next_is xs i x lt at)) ∙ before))

pub put_all : (gate : Gate) (xs : List Call) (i : ℕ) (all : List Call) → length xs ≤ i → all ++ calls_anew gate (drop i xs) ≡ calls_anew gate xs → all ≡ calls_anew gate xs
put_all gate xs i all le before = sym (append-nil all) ∙ (ap (λ (l : List Call). all ++ calls_anew gate l) (sym (drop_all i xs le)) ∙ before)

pub put_some : {X E : Type 0} (r : Result X E) (old new : List Call) (o : Option Call) (c : Call) → Some c ≡ o → OnOk r (new ≡ old ++ c ∷ []) → OnOk r (new ≡ old ++ with_call o [])
put_some r old new o c is h = subst (λ (z : Option Call). OnOk r (new ≡ old ++ with_call z [])) is h

pub put_sends : {X E : Type 0} (r : Result X E) (old new : List Call) (c : Call) → CanGo c → OnOk r (new ≡ old ++ c ∷ []) → OnOk r (Each CanGo old → Each CanGo new)
put_sends (Ok x) old new c can is = λ each. subst (Each CanGo) (sym is) (each_behind CanGo old c can each)
put_sends (Err e) old new c can is = is

pub put_none : (old : List Call) (o : Option Call) → None ≡ o → old ≡ old ++ with_call o []
put_none old o is = subst (λ (z : Option Call). old ≡ old ++ with_call z []) is (sym (append-nil old))
