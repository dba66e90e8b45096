-- Results that are a text.
use Rattle.std.proofs.Common.{ℕ, ◌≡◌, ◌<◌, List, length, Vec, Result, Ok, Err, ap, ◌∙◌, arith, length-append}
use Rattle.std.specs.declared.alloc.Global.{Global}
use Rattle.std.specs.Prelude.{slice_get}
use Rattle.ice_types.specs.Tables.{Tables}
use Rattle.ice_prims.specs.Bytes.{size_bytes, text_bytes}
use Rattle.ice_encoding.specs.Opening.{encapsulated_bytes}
use Rattle.ice_encoding.specs.Graph.{Graph}
use Rattle.object_adapter.specs.declared.refusal.Refusal.{Refusal}
use Rattle.object_adapter.specs.declared.refusal.Refusal.TheVariants.{TooLong}
use Rattle.object_adapter.specs.declared.refusal.Unanswered.{Unanswered}
use Rattle.object_adapter.specs.declared.refusal.Unanswered.TheVariants.{Refused, Memory}
use Rattle.object_adapter.specs.declared.refusal.TheConstants.{LONGEST}
use Rattle.object_adapter.specs.declared.own.Own.TheVariants.{Id}
use Rattle.object_adapter.specs.Refusals.{Outcome}
use Rattle.object_adapter.specs.Own.{OwnGives, OwnOverflows, id_in}

longer : (s : List ℕ) → LONGEST < length s → LONGEST < length (encapsulated_bytes (text_bytes s))
longer s long = omega (arith, long, length-append (size_bytes (length s)) s)

pub id_given : (t : Tables) (interface : ℕ) (g : Graph) (s : List ℕ) (result : Result (Vec ℕ Global) Unanswered) → s ≡ id_in (slice_get t.interfaces interface)
    → Outcome (λ (content : Vec ℕ Global). content.items ≡ text_bytes s) (λ (refusal : Refusal). (refusal ≡ TooLong) × (LONGEST < length s)) result
    → Outcome (λ (content : Vec ℕ Global). OwnGives t interface Id g content.items) (OwnOverflows t interface Id g) result
id_given t interface g s (Ok content) has is = is ∙ ap text_bytes has
id_given t interface g s (Err (Refused refusal)) has (is, long) = (is, (text_bytes s, ap text_bytes has, longer s long))
id_given t interface g s (Err Memory) has is = tt
