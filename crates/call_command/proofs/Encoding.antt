-- What comes of arguments that a text lists.
use Rattle.std.proofs.Common.{◌≡◌, ℕ, List, Ok, Err, Vec, ap, subst}
use Rattle.std.specs.declared.alloc.Global.{Global}
use Rattle.ice_types.specs.declared.declarations.Shape.{Shape}
use Rattle.ice_types.specs.Tables.{Tables}
use Rattle.ice_prims.specs.Rest.{whole, IsBytes}
use Rattle.ice_prims.specs.declared.fault.Fault.{Fault}
use Rattle.ice_encoding.specs.Graph.{Graph}
use Rattle.ice_encoding.specs.Flags.{all_slices}
use Rattle.ice_encoding.specs.CanonicalGraph.{Format}
use Rattle.ice_encoding.specs.Instances.{SpellsNumbered, numbered_at}
use Rattle.ice_encoding.proofs.Graphs.{numbered_found}
use Rattle.class_slices.specs.Encoding.{Writes}
use Rattle.class_slices.specs.declared.write_fault.WriteFault.{WriteFault}
use Rattle.class_slices.specs.declared.write_fault.WriteFault.TheVariants as write_faults
use Rattle.graph_json.specs.declared.fault.JsonFault.{JsonFault}
use Rattle.graph_json.specs.declared.fault.JsonFault.TheVariants as json_faults
use Rattle.graph_json.specs.Texts.{IsRefused, Parses, graph_text}
use Rattle.ice_relay.specs.Faults.{of_json, of_write}
use Rattle.call_command.specs.declared.arguments.TheConstants.{MOST_OF_ARGUMENTS}
use Rattle.call_command.specs.Steps.{EncodesArguments}

module _ (t : Tables) (s asked : Shape) (is : asked ≡ s) where
  -- a text that lists none
  pub unread : (f : Format) (text : List ℕ) (fault : JsonFault) → Parses t asked text (Err fault) → EncodesArguments t s f text (Err (of_json fault))
  unread f text (json_faults.Refused why) h = subst (λ (x : Shape). IsRefused t x text why) is h
  unread f text json_faults.Memory h = tt

  module _ (f : Format) (text : List ℕ) (g : Graph) (listed : Parses t asked text (Ok g)) where
    parsed : Parses t s text (Ok g)
    parsed = subst (λ (x : Shape). Parses t x text (Ok g)) is listed

    pub written : (out : Vec ℕ Global) → Writes t asked f g MOST_OF_ARGUMENTS (Ok out) → EncodesArguments t s f text (Ok out.items)
    written out e = let h = subst (λ (x : Shape). Writes t x f g MOST_OF_ARGUMENTS (Ok out)) is e in (g, parsed, h.0, h.1, h.2)

    -- an unknown slice, or its length, unless memory ran out
    pub unwritten : (fault : WriteFault) → Writes t asked f g MOST_OF_ARGUMENTS (Err fault) → EncodesArguments t s f text (Err (of_write fault))
    unwritten write_faults.Memory e = tt
    unwritten (write_faults.UnknownNeedsSliced n) e = (g, parsed, e.0)
    unwritten (write_faults.TooLong n) e = let h = subst (λ (x : Shape). Writes t x f g MOST_OF_ARGUMENTS (Err (write_faults.TooLong n))) is e in (g, parsed, h.0, h.1, h.2)

  -- ---- results

  pub spelled : (body : List ℕ) (g : Graph) → IsBytes body → numbered_at t all_slices asked (whole body) ≡ Ok g → SpellsNumbered t all_slices s body g
  spelled body g fits read = numbered_found t all_slices s body g fits (subst (λ (x : Shape). numbered_at t all_slices x (whole body) ≡ Ok g) is read)

  pub text_same : (g : Graph) → graph_text t asked g ≡ graph_text t s g
  text_same g = ap (λ (x : Shape). graph_text t x g) is

  pub fault_same : (body : List ℕ) (fault : Fault) → numbered_at t all_slices asked (whole body) ≡ Err fault → numbered_at t all_slices s (whole body) ≡ Err fault
  fault_same body fault = subst (λ (x : Shape). numbered_at t all_slices x (whole body) ≡ Err fault) is
