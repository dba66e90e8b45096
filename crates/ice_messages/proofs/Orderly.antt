-- A message that there is keeps to what is asked of one that is written.
use Rattle.std.proofs.Common.{ℕ, suc, zero, ◌≤◌, List, [], ◌∷◌, arith}
use Rattle.std.proofs.lemmas.Bool.{leb-true}
use Rattle.ice_types.specs.declared.identity.Identity.{Identity}
use Rattle.ice_encoding.specs.Parts.{Each}
use Rattle.ice_messages.specs.declared.message.Call.{Call}
use Rattle.ice_messages.specs.declared.message.Answer.{Answer}
use Rattle.ice_messages.specs.declared.message.Answer.TheVariants.{Done, Raised, Missing, Unknown}
use Rattle.ice_messages.specs.declared.message.Message.{Message}
use Rattle.ice_messages.specs.declared.message.Message.TheVariants.{Request, Batch, Reply, Validate, Close}
use Rattle.ice_messages.specs.Calls.{call, answer, answer_by}
use Rattle.ice_messages.specs.Messages.{IsMessage}
use Rattle.ice_messages.specs.Written.{IsCall, IsAnswer, IsOrderly}

call_orderly : (c : Call) → call.Is c → IsCall c
call_orderly c is = let parts = is.0.1.1.1 in record { mode = leb-true _ _ parts.0.1; context = parts.1.0.1.1; body = parts.1.1 }

calls_orderly : (cs : List Call) → Each call.Is cs → Each IsCall cs
calls_orderly [] is = tt
calls_orderly (c ∷ cs) is = (call_orderly c is.0, calls_orderly cs is.1)

missing_status : (status : ℕ) (i : Identity) (f o : List ℕ) → (answer_by status).Is (Missing status i f o) → (2 ≤ status) × (status ≤ 4)
missing_status zero i f o is = absurd cc
missing_status (suc zero) i f o is = absurd cc
missing_status (suc (suc zero)) i f o is = (omega arith, omega arith)
missing_status (suc (suc (suc zero))) i f o is = (omega arith, omega arith)
missing_status (suc (suc (suc (suc zero)))) i f o is = (omega arith, omega arith)
missing_status (suc (suc (suc (suc (suc n))))) i f o is = absurd cc

unknown_status : (status : ℕ) (what : List ℕ) → (answer_by status).Is (Unknown status what) → 5 ≤ status
unknown_status zero what is = absurd cc
unknown_status (suc zero) what is = absurd cc
unknown_status (suc (suc zero)) what is = absurd cc
unknown_status (suc (suc (suc zero))) what is = absurd cc
unknown_status (suc (suc (suc (suc zero)))) what is = absurd cc
unknown_status (suc (suc (suc (suc (suc n))))) what is = omega arith

answer_orderly : (a : Answer) → answer.Is a → IsAnswer a
answer_orderly (Done body) is = is.1.0
answer_orderly (Raised body) is = is.1.0
answer_orderly (Missing status i f o) is = missing_status status i f o is.1
answer_orderly (Unknown status what) is = (unknown_status status what is.1, leb-true _ _ is.0.1)

pub orderly : (m : Message) → IsMessage m → IsOrderly m
orderly (Request id c) is = call_orderly c is.0.1
orderly (Batch items) is = calls_orderly items is.0.1.1
orderly (Reply id a) is = answer_orderly a is.0.1
orderly Validate is = tt
orderly Close is = tt
