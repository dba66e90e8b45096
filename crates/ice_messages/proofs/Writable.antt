-- A message as one is read may be written.
use Rattle.std.proofs.Common.{List, [], ◌∷◌, Result, Ok, Err, inl}
use Rattle.std.specs.Result.{IfOk}
use Rattle.ice_encoding.specs.Parts.{Each}
use Rattle.ice_messages.specs.declared.message.Call.{Call}
use Rattle.ice_messages.specs.declared.message.Answer.{Answer}
use Rattle.ice_messages.specs.declared.message.Answer.TheVariants.{Done, Raised, Missing, Unknown}
use Rattle.ice_messages.specs.declared.message.Message.{Message}
use Rattle.ice_messages.specs.declared.message.Message.TheVariants.{Request, Batch, Reply, Validate, Close}
use Rattle.ice_messages.specs.Written.{IsCall, IsAnswer, IsOrderly, IsWritableCall, IsWritableAnswer, IsWritable}

pub call_writable : (c : Call) → IsCall c → IsWritableCall c
call_writable c is = record { mode = is.mode; context = is.context; body = inl is.body }

calls_writable : (cs : List Call) → Each IsCall cs → Each IsWritableCall cs
calls_writable [] is = tt
calls_writable (c ∷ cs) is = (call_writable c is.0, calls_writable cs is.1)

pub answer_writable : (a : Answer) → IsAnswer a → IsWritableAnswer a
answer_writable (Done body) is = inl is
answer_writable (Raised body) is = inl is
answer_writable (Missing status i f o) is = is
answer_writable (Unknown status what) is = is

pub orderly_writable : (m : Message) → IsOrderly m → IsWritable m
orderly_writable (Request id c) is = call_writable c is
orderly_writable (Batch items) is = calls_writable items is
orderly_writable (Reply id a) is = answer_writable a is
orderly_writable Validate is = tt
orderly_writable Close is = tt

pub read_writable : {E : Type 0} (r : Result Message E) → IfOk r IsOrderly → IfOk r IsWritable
read_writable (Ok m) is = orderly_writable m is
read_writable (Err e) is = tt
