-- What is written for members spells them.
use Rattle.std.proofs.Common.{ℕ, suc, ◌<◌, ◌≤◌, ◌^◌, ◌≡◌, Bool, true, false, List, [], ◌∷◌, ◌++◌, refl, sym, ap, ◌∙◌, subst, arith, append_assoc, Option, Some, None}
use Rattle.std.specs.Prelude.{slice_get, ◌&&◌}
use Rattle.std.proofs.lemmas.Bool.{eq-eqb}
use Rattle.ice_types.specs.declared.kind.TypeRef.{TypeRef}
use Rattle.ice_types.specs.declared.kind.TypeRef.TheVariants as kinds
use Rattle.ice_types.specs.declared.declarations.SeqDecl.{SeqDecl}
use Rattle.ice_types.specs.declared.declarations.DictDecl.{DictDecl}
use Rattle.ice_types.specs.declared.declarations.Member.{Member}
use Rattle.ice_types.specs.declared.declarations.Shape.{Shape}
use Rattle.ice_types.specs.declared.schema.TheConstants.{MOST_DEPTH}
use Rattle.ice_types.specs.declared.optional_format.TheConstants.{FORMAT_FSIZE}
use Rattle.ice_types.specs.Tables.{Tables}
use Rattle.ice_types.specs.Formats.{optional_format, of_parts, is_fixed}
use Rattle.ice_prims.specs.Rest.{IsBytes}
use Rattle.ice_encoding.specs.Parts.{size}
use Rattle.ice_encoding.specs.Skipping.{count}
use Rattle.ice_encoding.specs.Tags.{tag}
use Rattle.ice_encoding.proofs.Tagged.{tag_lawful, tag_is}
use Rattle.ice_encoding.specs.Tree.{Tree}
use Rattle.ice_encoding.specs.Port.{Port, Speller}
use Rattle.ice_encoding.specs.Spelling.{Each, SpellsValue}
use Rattle.ice_encoding.specs.Typed.{Refers, HasType}
use Rattle.ice_encoding.specs.Writing.{Piece, exactly, ◌>>◌, written, written_each}
use Rattle.ice_encoding.specs.Prefixes.{Prefix, no_length, own_size, as_size, as_int, prefix_of, Framed}
use Rattle.ice_encoding.specs.Optionals.{Present, kind_tagged, SpellsEnd, Tagged, Options, AllOptions}
use Rattle.ice_encoding.specs.OptionalMembers.{Members, required_kinds, IfFlagged, SpellsSliceMembers, SpellsContent}
use Rattle.ice_encoding.specs.Names.{names, names_each, names_present, names_of}
use Rattle.ice_encoding.specs.TypedGraph.{AreOptions, AreMembers}
use Rattle.ice_encoding.specs.Members.{framing, written_option, written_options, marked_options, written_slice_members, written_content}
use Rattle.ice_encoding.specs.CanonicalGraph.{is_there}
use Rattle.graph_laws.proofs.PutBytes.{none_bytes, more_bytes, size_put, count_put, tag_put}
use Rattle.graph_laws.proofs.WrittenValues.{Relation, Chain, Rules, ReferGood, value_good, each_good, size_spelled, count_spelled, Limits}

-- ---- formats are numbers up to 7

parts_few : (fixed : Bool) → of_parts fixed ≤ 7
parts_few true = omega arith
parts_few false = omega arith

seq_few : (t : Tables) (row : Option SeqDecl) → elim row [ None ↦ FORMAT_FSIZE | Some q ↦ of_parts (is_fixed t q.element) ] ≤ 7
seq_few t None = omega arith
seq_few t (Some q) = parts_few (is_fixed t q.element)

dict_few : (t : Tables) (row : Option DictDecl) → elim row [ None ↦ FORMAT_FSIZE | Some d ↦ of_parts (is_fixed t d.key && is_fixed t d.value) ] ≤ 7
dict_few t None = omega arith
dict_few t (Some d) = parts_few (is_fixed t d.key && is_fixed t d.value)

formats_few : (t : Tables) (kind : TypeRef) → optional_format t kind ≤ 7
formats_few t kinds.Bool = omega arith
formats_few t kinds.Byte = omega arith
formats_few t kinds.Short = omega arith
formats_few t kinds.Int = omega arith
formats_few t kinds.Long = omega arith
formats_few t kinds.Text = omega arith
formats_few t (kinds.Seq at) = seq_few t (slice_get t.seqs at)
formats_few t (kinds.Dict at) = dict_few t (slice_get t.dicts at)
formats_few t (kinds.Struct at) = parts_few (is_fixed t (kinds.Struct at))
formats_few t (kinds.Enum at) = omega arith
formats_few t (kinds.Proxy at) = omega arith
formats_few t (kinds.Class at) = omega arith

module _ {P R S : Type 0} {l : Limits} (rules : Rules P S l) (t : Tables) (port : Port R S) (refer : Option ℕ → Piece P) (Refer : Refers) (good : ReferGood rules t port refer Refer) where
  abbrev Good : Piece P → List ℕ → Relation S → Type 0
  Good = rules.Good

  framed_good : (p : Prefix) (w : Piece P) (ns : List ℕ) (Spells : Speller S Tree) (v : Tree) → Good w ns (λ b from to. Spells b v from to) → Good (framing p w) ns (λ b from to. Framed p Spells b v from to)
  framed_good no_length w ns Spells v h = h
  framed_good own_size w ns Spells v h = h
  framed_good as_size w ns Spells v h = rules.behind size size_spelled size_put w ns (λ b from to. Spells b v from to) h
  framed_good as_int w ns Spells v h = rules.behind count count_spelled count_put w ns (λ b from to. Spells b v from to) h

  -- a tag, and what stands under it
  abbrev UnderTag : ℕ → ℕ → Option TypeRef → Tree → Relation S
  UnderTag number format kind v = Chain (λ b from to. tag.Spells b (number, format) × (to ≡ from)) (λ b from to. Tagged port t kind format b (Some v) from to)

  option_good : (number : ℕ) (kind : TypeRef) (v : Tree) → number < 2 ^ 31 → HasType t Refer MOST_DEPTH kind v → Good (written_option refer t number (Some kind) v) (names v) (UnderTag number (optional_format t kind) (Some kind) v)
  option_good number kind v lt h =
      let format : ℕ = optional_format t kind in
      let p : Prefix = prefix_of t kind in
      let Value : Speller S Tree = SpellsValue port t MOST_DEPTH kind in
      let value = framed_good p (written refer v) (names v) Value v (value_good rules t port refer Refer good MOST_DEPTH kind v h) in
      rules.joined (exactly (tag.put (number, format))) (framing p (written refer v)) [] (names v) (λ b from to. tag.Spells b (number, format) × (to ≡ from)) (λ b from to. Tagged port t (Some kind) format b (Some v) from to)
      (rules.exact (tag.put (number, format)) (λ b from to. tag.Spells b (number, format) × (to ≡ from)) (tag_put number format (formats_few t kind)) (λ small s. (tag_lawful.put (number, format) (tag_is (number, format) lt (formats_few t kind)), refl)))
      (rules.mapped (framing p (written refer v)) (names v) (λ b from to. Framed p Value b v from to) (λ b from to. Tagged port t (Some kind) format b (Some v) from to) (λ b from to z. (eq-eqb format format refl, (v, refl, z))) value)

  module _ (marked : Bool) (end : List ℕ) (fits : IsBytes end) (ends : SpellsEnd marked end) (members : List Member) where
    options_good : (last : Option ℕ) (os : Present) → AreOptions t Refer members last os → Good (written_options refer t members end os) (names_present os) (λ b from to. (n : ℕ) × Options port t marked members n last b os from to)
    options_good last [] h = rules.exact end (λ b from to. (n : ℕ) × Options port t marked members n last b [] from to) fits (λ small s. (0, (ends, refl, refl)))
    options_good last (o ∷ os) (le, lt, kind, is, typed, more) =
        let format : ℕ = optional_format t kind in
        let One : Relation S = UnderTag o.0 format (Some kind) o.1 in
        let Others : Relation S = λ b from to. (n : ℕ) × Options port t marked members n (Some o.0) b os from to in
        let one : Good (written_option refer t o.0 (kind_tagged o.0 members) o.1) (names o.1) One = subst (λ (k : Option TypeRef). Good (written_option refer t o.0 k o.1) (names o.1) One) (sym is) (option_good o.0 kind o.1 lt typed) in
        rules.mapped (written_option refer t o.0 (kind_tagged o.0 members) o.1 >> written_options refer t members end os) (names o.1 ++ names_present os) (Chain One Others) (λ b from to. (n : ℕ) × Options port t marked members n last b (o ∷ os) from to)
        (λ b from to z.
        let x = z.4 in
        let under : Tagged port t (kind_tagged o.0 members) format x.1 (Some o.1) from z.2 =
        subst (λ (s : S). Tagged port t (kind_tagged o.0 members) format x.1 (Some o.1) s z.2) x.4.1 (subst (λ (k : Option TypeRef). Tagged port t k format x.1 (Some o.1) x.2 z.2) (sym is) x.5) in
        (suc z.5.0, (o.0, format, Some o.1, os, x.0, x.1, z.1, z.2, z.3 ∙ ap (λ (l : List ℕ). l ++ z.1) x.3 ∙ append_assoc x.0 x.1 z.1, x.4.0, le, under, refl, z.5.1)))
        (rules.joined (written_option refer t o.0 (kind_tagged o.0 members) o.1) (written_options refer t members end os) (names o.1) (names_present os) One Others one (options_good (Some o.0) os more))

  required_good : (shape : Shape) (c : Members) → AreMembers t Refer shape c → Good (written_each refer c.required) (names_each c.required) (λ b from to. Each (SpellsValue port t MOST_DEPTH) (required_kinds shape) b c.required from to)
  required_good shape c h = each_good rules t port refer (HasType t Refer MOST_DEPTH) (SpellsValue port t MOST_DEPTH) (value_good rules t port refer Refer good MOST_DEPTH) (required_kinds shape) c.required h.required

  flagged_good : (members : List Member) (os : Present) → AreOptions t Refer members None os → Good (marked_options refer t members os) (names_present os) (λ b from to. IfFlagged port t (is_there os) (AllOptions port t true members) b os from to)
  flagged_good members [] h = rules.exact [] (λ b from to. IfFlagged port t false (AllOptions port t true members) b [] from to) none_bytes (λ small s. (refl, refl, refl))
  flagged_good members (o ∷ os) h = options_good true (255 ∷ []) (more_bytes 255 [] (omega arith) none_bytes) refl members None (o ∷ os) h

  -- the members of a slice
  pub members_good : (shape : Shape) (c : Members) → AreMembers t Refer shape c → Good (written_slice_members refer t shape c) (names_of c) (λ b from to. SpellsSliceMembers port t (is_there c.optional) shape b c from to)
  members_good shape c h =
      let One : Relation S = λ b from to. Each (SpellsValue port t MOST_DEPTH) (required_kinds shape) b c.required from to in
      let Two : Relation S = λ b from to. IfFlagged port t (is_there c.optional) (AllOptions port t true shape.optional) b c.optional from to in
      rules.mapped (written_slice_members refer t shape c) (names_of c) (Chain One Two) (λ b from to. SpellsSliceMembers port t (is_there c.optional) shape b c from to)
      (λ b from to z. (c.required, z.0, z.1, z.2, z.3, z.4, (c.optional, refl, z.5)))
      (rules.joined (written_each refer c.required) (marked_options refer t shape.optional c.optional) (names_each c.required) (names_present c.optional) One Two (required_good shape c h) (flagged_good shape.optional c.optional h.optional))

  -- a whole content
  pub content_good : (shape : Shape) (c : Members) → AreMembers t Refer shape c → Good (written_content refer t shape c) (names_of c) (λ b from to. SpellsContent port t shape b c from to)
  content_good shape c h =
      let One : Relation S = λ b from to. Each (SpellsValue port t MOST_DEPTH) (required_kinds shape) b c.required from to in
      let Two : Relation S = λ b from to. AllOptions port t false shape.optional b c.optional from to in
      rules.mapped (written_content refer t shape c) (names_of c) (Chain One Two) (λ b from to. SpellsContent port t shape b c from to)
      (λ b from to z. (c.required, z.0, z.1, z.2, z.3, z.4, (c.optional, refl, z.5)))
      (rules.joined (written_each refer c.required) (written_options refer t shape.optional [] c.optional) (names_each c.required) (names_present c.optional) One Two (required_good shape c h) (options_good false [] none_bytes refl shape.optional None c.optional h.optional))
