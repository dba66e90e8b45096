-- A call is forwarded where its request is no longer than a message may be.
use Rattle.std.proofs.Common.{◌≡◌, ℕ, pos, ◌<◌, ◌≤◌, Bool, List, length, sym, ap, subst, ◌∙◌, arith, inl}
use Rattle.std.specs.Prelude.{if◌then◌else◌}
use Rattle.std.proofs.lemmas.Bool.{le-leb, lt-leb}
use Rattle.ice_encoding.specs.declared.limits.TheConstants.{LARGEST}
use Rattle.ice_messages.specs.declared.message.Call.{Call}
use Rattle.ice_messages.specs.declared.message.Answer.{Answer}
use Rattle.ice_messages.specs.declared.message.Message.TheVariants.{Request, Batch}
use Rattle.ice_messages.specs.Messages.{message_bytes}
use Rattle.ice_messages.specs.Written.{told, IsWritableCall}
use Rattle.object_adapter.specs.Results.{AreResults}
use Rattle.object_adapter.proofs.Written.{encapsulations}
use Rattle.ice_gateway.specs.declared.admitting.Admitted.TheVariants.{Goes, Refused}
use Rattle.ice_gateway.specs.Mapped.{fitting, too_long}
use Rattle.ice_gateway.specs.Laws.{Comes}

module _ (c : Call) (n : ℕ) (is : n ≡ told (length (message_bytes (Request (pos 1) c)))) where
  pub fits : n ≤ LARGEST → length (message_bytes (Request (pos 1) c)) ≤ LARGEST
  fits few = omega (arith, few, is)

  pub goes : n ≤ LARGEST → Goes c ≡ fitting c
  goes few = sym (ap (λ (b : Bool). if b then Goes c else Refused too_long) (le-leb (length (message_bytes (Request (pos 1) c))) LARGEST (fits few)))

  longer : LARGEST < n → LARGEST < length (message_bytes (Request (pos 1) c))
  longer long = omega (arith, long, is)

  pub stays : (answer : Answer) → LARGEST < n → answer ≡ too_long → Refused answer ≡ fitting c
  stays answer long told = ap (λ (a : Answer). Refused a) told ∙ sym (ap (λ (b : Bool). if b then Goes c else Refused too_long) (lt-leb (length (message_bytes (Request (pos 1) c))) LARGEST (longer long)))

-- a call that came, with a body that was written anew
pub call_writable : (c call : Call) (body : List ℕ) → call ≡ record c { body = body } → Comes c → AreResults body → IsWritableCall call
call_writable c call body is comes are = subst IsWritableCall (sym is) (record { mode = comes.mode; context = comes.context; body = inl (encapsulations body are) })

-- a batch, likewise
pub batch_long : (cs : List Call) (n : ℕ) → n ≡ told (length (message_bytes (Batch cs))) → LARGEST < n → LARGEST < length (message_bytes (Batch cs))
batch_long cs n is long = omega (arith, long, is)

pub batch_short : (cs : List Call) (n : ℕ) → n ≡ told (length (message_bytes (Batch cs))) → n ≤ LARGEST → length (message_bytes (Batch cs)) ≤ LARGEST
batch_short cs n is few = omega (arith, few, is)
