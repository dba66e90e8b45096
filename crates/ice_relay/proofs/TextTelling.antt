-- What comes of a value that was read, as bytes or as text.
use Rattle.std.proofs.Common.{◌≡◌, ℕ, List, Result, Ok, Err, Vec, subst}
use Rattle.std.specs.declared.alloc.Global.{Global}
use Rattle.ice_types.specs.declared.kind.TypeRef.{TypeRef}
use Rattle.ice_types.specs.declared.declarations.Member.{Member}
use Rattle.ice_types.specs.declared.declarations.Shape.{Shape}
use Rattle.ice_types.specs.Tables.{Tables}
use Rattle.ice_encoding.specs.declared.limits.TheConstants.{LARGEST}
use Rattle.ice_encoding.specs.Graph.{Graph}
use Rattle.ice_encoding.specs.CanonicalGraph.{Format}
use Rattle.class_slices.specs.Encoding.{Writes}
use Rattle.class_slices.specs.declared.write_fault.WriteFault.{WriteFault}
use Rattle.class_slices.specs.declared.write_fault.WriteFault.TheVariants as write_faults
use Rattle.graph_json.specs.Texts.{Parses}
use Rattle.graph_json.specs.declared.fault.JsonFault.{JsonFault}
use Rattle.graph_json.specs.declared.fault.JsonFault.TheVariants as json_faults
use Rattle.ice_relay.specs.Relaying.{root_of, one_value}
use Rattle.ice_relay.proofs.Holding.{asked, asked_is, writes}
use Rattle.ice_relay.specs.Encoding.{EncodesText}
use Rattle.ice_relay.specs.Faults.{of_json, of_write}

module _ (t : Tables) (kind : TypeRef) (root : Member) (is : root ≡ root_of kind) where
  -- ---- an encapsulation

  parses : (text : List ℕ) (result : Result Graph JsonFault) → Parses t (asked t kind root is) text result → Parses t (one_value kind) text result
  parses text result = subst (λ (s : Shape). Parses t s text result) (asked_is t kind root is)

  pub unparsed : (f : Format) (text : List ℕ) (fault : JsonFault) → Parses t (asked t kind root is) text (Err fault) → EncodesText t kind f text (Err (of_json fault))
  unparsed f text (json_faults.Refused why) h = parses text (Err (json_faults.Refused why)) h
  unparsed f text json_faults.Memory h = tt

  module _ (f : Format) (text : List ℕ) (g : Graph) (listed : Parses t (asked t kind root is) text (Ok g)) where
    pub written : (out : Vec ℕ Global) → Writes t (asked t kind root is) f g LARGEST (Ok out) → EncodesText t kind f text (Ok out)
    written out e = let bytes = writes t kind root is f g (Ok out) e in (g, parses text (Ok g) listed, bytes.0, bytes.1, bytes.2)

    -- an unknown slice, or its length, unless memory ran out
    pub unwritten : (fault : WriteFault) → Writes t (asked t kind root is) f g LARGEST (Err fault) → EncodesText t kind f text (Err (of_write fault))
    unwritten write_faults.Memory e = tt
    unwritten (write_faults.UnknownNeedsSliced n) e = (g, parses text (Ok g) listed, e.0)
    unwritten (write_faults.TooLong n) e =
        let bytes = writes t kind root is f g (Err (write_faults.TooLong n)) e in
        (g, parses text (Ok g) listed, bytes.0, bytes.1, bytes.2)
