-- What the encapsulations of a graph are that is relayed.
use Rattle.std.proofs.Common.{◌≡◌, ℕ, ◌<◌, ◌≤◌, Bool, true, List, [], ◌∷◌, length, Result, Ok, Err, Vec, refl, sym, ap, subst, ◌∙◌, arith, inl, inr}
use Rattle.std.specs.Prelude.{IsTrue, String, string_bytes}
use Rattle.std.specs.declared.alloc.Global.{Global}
use Rattle.ice_types.specs.declared.declarations.Shape.{Shape}
use Rattle.ice_types.specs.Tables.{Tables}
use Rattle.ice_types.specs.Rules.{IsSchema}
use Rattle.ice_prims.specs.Rest.{whole}
use Rattle.ice_encoding.specs.declared.limits.TheConstants.{LARGEST}
use Rattle.ice_encoding.specs.Graph.{Graph}
use Rattle.ice_encoding.specs.Flags.{all_slices}
use Rattle.ice_encoding.specs.Instances.{most_instances, numbered_at}
use Rattle.ice_encoding.specs.Visiting.{order}
use Rattle.ice_encoding.specs.SameGraph.{Spells}
use Rattle.ice_encoding.specs.TypedGraph.{OfType}
use Rattle.ice_encoding.specs.CanonicalGraph.{Format, sliced, compact, graph_bytes, IsWritable}
use Rattle.ice_encoding.proofs.Graphs.{numbered_only}
use Rattle.graph_arena.specs.Arena.{IsSound}
use Rattle.graph_arena.proofs.Formed.{order-few}
use Rattle.graph_laws.proofs.Canonicity.{same_bytes}
use Rattle.graph_laws.proofs.Schemas.{canonical_spelled}
use Rattle.ice_relay.specs.declared.drill_fault.DrillFault.{DrillFault}
use Rattle.ice_relay.specs.declared.drill_fault.DrillFault.TheVariants as faults
use Rattle.ice_relay.specs.Telling.{EncodesDrawn, Tells, line}

-- ---- what is spelled is read

module _ (t : Tables) (shape : Shape) (input : List ℕ) where
  pub spelled_read : (g : Graph) → Spells t all_slices shape input g → (k : Graph) × (numbered_at t all_slices shape (whole input) ≡ Ok k)
  spelled_read g (k, spelled, same) = (k, numbered_only t all_slices shape input k spelled)

  read_same : (g h : Graph) → Spells t all_slices shape input g → numbered_at t all_slices shape (whole input) ≡ Ok h → (f : Format) → graph_bytes t shape f h ≡ graph_bytes t shape f g
  read_same g h (k, spelled, same) read f =
      let e : Ok k ≡ Ok h = sym (numbered_only t all_slices shape input k spelled) ∙ read in
      let k_is : k ≡ h = cc in
      subst (λ (j : Graph). graph_bytes t shape f j ≡ graph_bytes t shape f g) k_is (same_bytes t shape f k g same)

  -- the encapsulation of what was read
  pub encodes_same : (g h : Graph) (result : Result (Vec ℕ Global) DrillFault) → Spells t all_slices shape input g → numbered_at t all_slices shape (whole input) ≡ Ok h → EncodesDrawn t shape sliced h result → EncodesDrawn t shape sliced g result
  encodes_same g h (Ok bytes) spells read e = (e.0 ∙ read_same g h spells read sliced, e.1)
  encodes_same g h (Err (faults.TooLong n)) spells read e = (e.0 ∙ ap length (read_same g h spells read sliced), e.1)
  encodes_same g h (Err faults.Memory) spells read e = tt

-- ---- the line

module _ (t : Tables) (shape : Shape) (g : Graph) (rules : IsSchema t) (typed : OfType t shape g) (can : IsWritable compact g) (few : length g.instances ≤ most_instances) (sound : IsSound g) where
  reached_few : length (order g) ≤ most_instances
  reached_few = omega (arith, order-few g sound, few)

  writable_in : (f : Format) → IsWritable f g
  writable_in sliced = λ n lt. tt
  writable_in compact = can

  -- an encapsulation of the graph spells it
  pub encoded_spells : (f : Format) (bytes : Vec ℕ Global) → EncodesDrawn t shape f g (Ok bytes) → (input : List ℕ) → input ≡ bytes.items → Spells t all_slices shape input g
  encoded_spells f bytes (is, small) input same =
      subst (λ (l : List ℕ). Spells t all_slices shape l g) (sym (same ∙ is)) (canonical_spelled t shape f g rules typed (writable_in f) reached_few (omega (arith, ap length is, small)))

  module _ (nodes : ℕ) where
    -- each fault is told as it is
    pub compact_fails : (fault : DrillFault) → EncodesDrawn t shape compact g (Err fault) → Tells t shape nodes g (Err fault)
    compact_fails (faults.TooLong n) e = (e.1, inl e.0)
    compact_fails faults.Memory e = tt

    pub sliced_fails : (a : Vec ℕ Global) (fault : DrillFault) → EncodesDrawn t shape compact g (Ok a) → EncodesDrawn t shape sliced g (Err fault) → Tells t shape nodes g (Err fault)
    sliced_fails a (faults.TooLong n) first e = (e.1, inr (omega (arith, ap length first.0, first.1), e.0))
    sliced_fails a faults.Memory first e = tt

    pub tells : (a b c : Vec ℕ Global) (reached first second : ℕ) (same : Bool) (text : String Global) → EncodesDrawn t shape compact g (Ok a) → EncodesDrawn t shape sliced g (Ok b) → EncodesDrawn t shape sliced g (Ok c)
        → reached ≡ length (order g) → first ≡ length a.items → second ≡ length b.items → (b.items ≡ c.items → IsTrue same) → string_bytes text ≡ line nodes reached first second same → Tells t shape nodes g (Ok text)
    tells a b c reached first second same text x y z reached_is first_is second_is test is =
        let yes : same ≡ true = test (y.0 ∙ sym z.0) in (
          is ∙ (λ i. line nodes (reached_is i) ((first_is ∙ ap length x.0) i) ((second_is ∙ ap length y.0) i) (yes i)),
          (omega (arith, ap length x.0, x.1), omega (arith, ap length y.0, y.1)),
        )
