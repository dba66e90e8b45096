-- The graph of an input, as reading finds it.
use Rattle.std.proofs.Common.{◌≡◌, ℕ, ℤ, pos, ◌+◌, List, [], ◌∷◌, ◌++◌, length, take, Result, Ok, Err, Vec, sym, ap, subst, ◌∙◌, arith}
use Rattle.std.specs.declared.alloc.Global.{Global}
use Rattle.std.specs.Int.{w32, from_le_bytes, cast_signed}
use Rattle.std.proofs.lemmas.List.{take_at}
use Rattle.std.proofs.lemmas.Int.{fits_signed_from_abs}
use Rattle.ice_types.specs.declared.kind.TypeRef.{TypeRef}
use Rattle.ice_types.specs.declared.declarations.Member.{Member}
use Rattle.ice_types.specs.declared.declarations.Shape.{Shape}
use Rattle.ice_types.specs.Tables.{Tables}
use Rattle.ice_prims.specs.Rest.{whole, IsBytes}
use Rattle.ice_prims.specs.Bytes.{signed_bytes}
use Rattle.ice_prims.proofs.Spelled.{int_exact}
use Rattle.ice_encoding.specs.declared.limits.TheConstants.{LARGEST, SMALLEST}
use Rattle.ice_encoding.proofs.Encapsulations.{encapsulated_length}
use Rattle.ice_encoding.specs.Graph.{Graph}
use Rattle.ice_encoding.specs.Flags.{all_slices}
use Rattle.ice_encoding.specs.CanonicalGraph.{Format}
use Rattle.ice_encoding.specs.Instances.{numbered_at}
use Rattle.ice_encoding.proofs.Graphs.{numbered_found}
use Rattle.value_parts.specs.Shapes.{told_apart}
use Rattle.class_slices.specs.Encoding.{Writes}
use Rattle.class_slices.specs.declared.write_fault.WriteFault.{WriteFault}
use Rattle.class_slices.specs.declared.write_fault.WriteFault.TheVariants as write_faults
use Rattle.ice_relay.specs.Faults.{of_write}
use Rattle.ice_relay.specs.Streams.{Claims, GoesOn}
use Rattle.ice_relay.specs.Relaying.{root_of, one_value, Holds, Canonicalizes}

module _ (t : Tables) (kind : TypeRef) where
  -- an encapsulation claims its own length
  pub claims_length : (got : List ℕ) (g : Graph) (z : ℤ) → Claims got z → Holds t kind got g → GoesOn z (length got)
  claims_length got g z c h =
      let n = SMALLEST + length h.0 in
      let size = signed_bytes w32 (pos n) in
      let long : length got ≡ n = ap length h.1 ∙ encapsulated_length h.0 in
      let spelled = int_exact.put (pos n) (fits_signed_from_abs w32 (pos n) (omega (arith, long, h.2))) in
      let all : c.size ++ c.more ≡ size ++ 1 ∷ 1 ∷ h.0 = sym c.parts ∙ h.1 in
      let same : c.size ≡ size = sym (take_at c.size c.more 4 c.spelled.0) ∙ ap (take 4) all ∙ take_at size (1 ∷ 1 ∷ h.0) 4 spelled.0 in
      let claimed : z ≡ pos n = c.spelled.1 ∙ ap (λ (l : List ℕ). cast_signed w32 (from_le_bytes w32 l)) same ∙ sym spelled.1 in
      (claimed ∙ ap pos (sym long), omega (arith, long), h.2)

  -- ---- where the member is the one that stands for a value

  module _ (root : Member) (is : root ≡ root_of kind) where
    abbrev pub asked : Shape
    asked = told_apart (record { required = root ∷ []; optional = [] })

    -- it is all that is asked for
    pub asked_is : asked ≡ one_value kind
    asked_is = ap (λ (m : Member). told_apart (record { required = m ∷ []; optional = [] })) is

    pub holds : (input : List ℕ) (g : Graph) → IsBytes input → numbered_at t all_slices asked (whole input) ≡ Ok g → Holds t kind input g
    holds input g fits read = numbered_found t all_slices (one_value kind) input g fits (subst (λ (s : Shape). numbered_at t all_slices s (whole input) ≡ Ok g) asked_is read)

    pub writes : (f : Format) (g : Graph) (result : Result (Vec ℕ Global) WriteFault) → Writes t asked f g LARGEST result → Writes t (one_value kind) f g LARGEST result
    writes f g result = subst (λ (s : Shape). Writes t s f g LARGEST result) asked_is

    pub relayed : (f : Format) (input : List ℕ) (g : Graph) (out : Vec ℕ Global) → IsBytes input → numbered_at t all_slices asked (whole input) ≡ Ok g → Writes t asked f g LARGEST (Ok out) → Canonicalizes t kind f input (Ok out)
    relayed f input g out fits read e = let written = writes f g (Ok out) e in (g, holds input g fits read, written.0, written.1, written.2)

    -- an unknown slice, or its length, unless memory ran out
    pub unwritten : (f : Format) (input : List ℕ) (g : Graph) (fault : WriteFault) → IsBytes input → numbered_at t all_slices asked (whole input) ≡ Ok g → Writes t asked f g LARGEST (Err fault) → Canonicalizes t kind f input (Err (of_write fault))
    unwritten f input g write_faults.Memory fits read e = tt
    unwritten f input g (write_faults.UnknownNeedsSliced n) fits read e = (g, holds input g fits read, e.0)
    unwritten f input g (write_faults.TooLong n) fits read e = let told = writes f g (Err (write_faults.TooLong n)) e in (g, holds input g fits read, told.0, told.1, told.2)
