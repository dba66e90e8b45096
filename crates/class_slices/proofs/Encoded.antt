-- What the steps of encoding put is the canonical encapsulation.
use Rattle.std.proofs.Common.{◌≡◌, ℕ, pos, ◌+◌, ◌<◌, ◌≤◌, List, [], ◌++◌, length, drop, sym, ap, ◌∙◌, subst, arith, Ok, Err}
use Rattle.std.specs.Prelude.{Vec}
use Rattle.std.specs.declared.alloc.Global.{Global}
use Rattle.std.specs.Int.{w32, to_le_bytes}
use Rattle.ice_types.specs.declared.declarations.Shape.{Shape}
use Rattle.ice_types.specs.Tables.{Tables}
use Rattle.ice_prims.specs.Bytes.{byte_bytes, signed_bytes}
use Rattle.ice_encoding.specs.declared.limits.TheConstants.{SMALLEST}
use Rattle.ice_encoding.specs.Opening.{encapsulated_bytes}
use Rattle.ice_encoding.specs.Writing.{Piece, ◌>>◌, written_each}
use Rattle.ice_encoding.specs.Pausing.{written_in_place}
use Rattle.ice_encoding.specs.Graph.{Graph}
use Rattle.ice_encoding.specs.CanonicalGraph.{Pen, Format, put_inline, written_instance, blank, bytes_of, canonical_graph, IsWritable}
use Rattle.ice_encoding.specs.Visiting.{most}
use Rattle.ice_encoding.specs.SameGraph.{form}
use Rattle.value_parts.specs.declared.fields.DeclaredMembers.{DeclaredMembers}
use Rattle.value_parts.specs.Shapes.{shape_seen}
use Rattle.value_writing.proofs.WritingSteps.{options-of-tagged}
use Rattle.instance_writing.specs.Remains.{with_options}
use Rattle.class_slices.specs.declared.write_fault.WriteFault.TheVariants.{TooLong}
use Rattle.class_slices.specs.Enclosing.{Closes, unsized}
use Rattle.class_slices.specs.Encoding.{Writes}

-- of the optional members that are handed over, those without a tag are never written
canonical-is : (t : Tables) (f : DeclaredMembers) (format : Format) (g : Graph) → bytes_of t (with_options f.optional.now) format (form g) ≡ canonical_graph t (shape_seen f) format g
unfolding canonical_graph
canonical-is t f format g =
    let refer = written_in_place put_inline (written_instance t format (form g) most) in
    ap (λ (p : Piece Pen). ((written_each refer (form g).roots.required >> p) blank).0) (options-of-tagged refer t f.optional.now [] (form g).roots.optional)

pub written-is : (t : Tables) (f : DeclaredMembers) (format : Format) (g numbered : Graph) (begun out : List ℕ) → numbered ≡ form g → begun ≡ unsized [] → out ≡ begun ++ bytes_of t (with_options f.optional.now) format numbered
    → out ≡ unsized (canonical_graph t (shape_seen f) format g)
written-is t f format g numbered begun out is begun_is out_is =
    let content : bytes_of t (with_options f.optional.now) format numbered ≡ canonical_graph t (shape_seen f) format g = ap (bytes_of t (with_options f.optional.now) format) is ∙ canonical-is t f format g in
    out_is ∙ (λ i. begun_is i ++ content i)

pub closed : (t : Tables) (shape : Shape) (format : Format) (g : Graph) (limit : ℕ) → IsWritable format g → (bytes : List ℕ) (out : Vec ℕ Global) → bytes ≡ unsized (canonical_graph t shape format g) → Closes bytes limit (Ok out) → Writes t shape format g limit (Ok out)
closed t shape format g limit can bytes out is closes = let h = closes (canonical_graph t shape format g) is in (can, h.0, h.1)

pub too-long : (t : Tables) (shape : Shape) (format : Format) (g : Graph) (limit : ℕ) → IsWritable format g → (bytes : List ℕ) (n : ℕ) → bytes ≡ unsized (canonical_graph t shape format g) → Closes bytes limit (Err n) → Writes t shape format g limit (Err (TooLong n))
too-long t shape format g limit can bytes n is closes = let h = closes (canonical_graph t shape format g) is in (can, h.0, h.1)

-- ---- the size, when all else is put

pub begun-is : (a b c d : List ℕ) → a ≡ [] → b ≡ a ++ signed_bytes w32 (pos 0) → c ≡ b ++ byte_bytes 1 → d ≡ c ++ byte_bytes 1 → d ≡ unsized []
begun-is a b c d a_is b_is c_is d_is = d_is ∙ ap (λ (l : List ℕ). l ++ byte_bytes 1) (c_is ∙ ap (λ (l : List ℕ). l ++ byte_bytes 1) (b_is ∙ ap (λ (l : List ℕ). l ++ signed_bytes w32 (pos 0)) a_is))

length-is : (content out : List ℕ) (n : ℕ) → n ≡ length out → out ≡ unsized content → n ≡ length (encapsulated_bytes content)
length-is content out n long is = long ∙ ap length is

patched-is : (content out patched : List ℕ) (n : ℕ) → n ≡ length out → out ≡ unsized content → patched ≡ to_le_bytes w32 n ++ drop 4 out → patched ≡ encapsulated_bytes content
patched-is content out patched n long is p =
    let size : n ≡ SMALLEST + length content = long ∙ (ap length is ∙ omega arith) in
    p ∙ (λ i. to_le_bytes w32 (size i) ++ drop 4 (is i))

-- what is put over the place of the size, and what is too long
pub patched-closes : (bytes : List ℕ) (out : Vec ℕ Global) (n limit : ℕ) → n ≡ length bytes → n ≤ limit → out.items ≡ to_le_bytes w32 n ++ drop 4 bytes → Closes bytes limit (Ok out)
patched-closes bytes out n limit long small p content is =
    let patched = patched-is content bytes out.items n long is p in
    (patched, subst (λ (k : ℕ). k ≤ limit) (length-is content bytes n long is ∙ sym (ap length patched)) small)

pub longer-closes : (bytes : List ℕ) (n limit : ℕ) → n ≡ length bytes → limit < n → Closes bytes limit (Err n)
longer-closes bytes n limit long over content is = (length-is content bytes n long is, over)
