-- Values and members are the same in the tables whose classes are the exceptions: no type of a value says which classes there are.
use Rattle.std.proofs.Common.{ℕ, zero, suc, ◌+◌, ◌==◌, ◌<◌, ◌^◌, ◌≡◌, Bool, true, false, ◌&&◌, List, [], ◌∷◌, ◌++◌, map, refl, sym, ap, ◌∙◌, subst, Option, Some, None}
use Rattle.std.specs.Prelude.{length, slice_get, if◌then◌else◌, IsTrue}
use Rattle.std.specs.Option.{is_some}
use Rattle.ice_types.specs.declared.kind.TypeRef.{TypeRef}
use Rattle.ice_types.specs.declared.kind.TypeRef.TheVariants as kinds
use Rattle.ice_types.specs.declared.declarations.Member.{Member}
use Rattle.ice_types.specs.declared.declarations.Shape.{Shape}
use Rattle.ice_types.specs.declared.declarations.SeqDecl.{SeqDecl}
use Rattle.ice_types.specs.declared.declarations.DictDecl.{DictDecl}
use Rattle.ice_types.specs.declared.declarations.StructDecl.{StructDecl}
use Rattle.ice_types.specs.declared.measure.Measure.{Measure}
use Rattle.ice_types.specs.declared.optional_format.TheConstants.{FORMAT_FSIZE, FORMAT_CLASS}
use Rattle.ice_types.specs.declared.schema.TheConstants.{MOST_DEPTH}
use Rattle.ice_types.specs.Tables.{Tables}
use Rattle.ice_types.specs.Measures.{measure, measured, measure_members, with_member, sequence_of, dictionary_of, struct_of, fixed_size}
use Rattle.ice_types.specs.Formats.{of_parts, optional_format}
use Rattle.ice_prims.specs.declared.fault.Kind.TheVariants.{BadFormat}
use Rattle.ice_prims.specs.Rest.{◌>>=◌}
use Rattle.ice_encoding.specs.Tags.{tag, rises, next_tag_at}
use Rattle.ice_encoding.specs.Tree.{Tree, sequence, dictionary, struct, Trees, tree_count, Entries, entry_count}
use Rattle.ice_encoding.specs.Order.{IsRising}
use Rattle.ice_encoding.specs.Port.{Port, Reader, Speller, nowhere}
use Rattle.ice_encoding.specs.Spelling.{Made, Each, SpellsParts, SpellsValue}
use Rattle.ice_encoding.specs.Reading.{made, each_at, value_step, value_at}
use Rattle.ice_encoding.specs.Writing.{Writer, exactly, ◌>>◌, written, written_each}
use Rattle.ice_encoding.specs.Typed.{AllOf, EachOf, PairsOf, Refers, no_reference, HasType}
use Rattle.ice_encoding.specs.Steps.{followed, tested, Followed, Where}
use Rattle.ice_encoding.specs.Prefixes.{is_one, counts_itself, prefix_by, prefix_of, framed, Framed}
use Rattle.ice_encoding.specs.Optionals.{Present, with_option, kind_tagged, skipped_by, tagged, option_then, options_at, all_options, SkippedBy, Tagged, Options, AllOptions}
use Rattle.ice_encoding.specs.OptionalMembers.{Members, with_optional, required_kinds, if_flagged, slice_members_at, IfFlagged, SpellsSliceMembers}
use Rattle.ice_encoding.specs.Exceptions.{of_exceptions}
use Rattle.ice_encoding.specs.Members.{framing, written_option, written_options, marked_options, written_slice_members}
use Rattle.ice_encoding.specs.TypedGraph.{AreOptions, AreMembers}

-- ---- lengths that are fixed

abbrev fixed_in : Option Measure → Option ℕ
fixed_in o = measured o (λ m. if m.is_fixed then Some m.smallest else None)

abbrev both : Option ℕ → Option ℕ → Option ℕ
both None b = None
both (Some m) None = None
both (Some m) (Some n) = Some (m + n)

sequence_varies : (o : Option Measure) → fixed_in (sequence_of o) ≡ None
sequence_varies None = refl
sequence_varies (Some m) = refl

sequences_vary : (f : SeqDecl → Option Measure) (row : Option SeqDecl) → fixed_in (measured row (λ q. sequence_of (f q))) ≡ None
sequences_vary f None = refl
sequences_vary f (Some q) = sequence_varies (f q)

dictionary_varies : (k v : Option Measure) → fixed_in (dictionary_of k v) ≡ None
dictionary_varies None v = refl
dictionary_varies (Some k) None = refl
dictionary_varies (Some k) (Some v) = refl

dictionaries_vary : (f g : DictDecl → Option Measure) (row : Option DictDecl) → fixed_in (measured row (λ d. dictionary_of (f d) (g d))) ≡ None
dictionaries_vary f g None = refl
dictionaries_vary f g (Some d) = dictionary_varies (f d) (g d)

struct_fixed : (o : Option Measure) → fixed_in (struct_of o) ≡ fixed_in o
struct_fixed None = refl
struct_fixed (Some m) = refl

one_fixed : (b : Bool) (n : ℕ) → None ≡ both (if b then Some n else None) None
one_fixed true n = refl
one_fixed false n = refl

both_fixed : (a b : Bool) (m n : ℕ) → (if a && b then Some (m + n) else None) ≡ both (if a then Some m else None) (if b then Some n else None)
both_fixed true true m n = refl
both_fixed true false m n = refl
both_fixed false true m n = refl
both_fixed false false m n = refl

member_fixed : (x y : Option Measure) → fixed_in (measured x (λ first. measured y (λ others. Some (with_member first others)))) ≡ both (fixed_in x) (fixed_in y)
member_fixed None y = refl
member_fixed (Some m) None = one_fixed m.is_fixed m.smallest
member_fixed (Some m) (Some n) = both_fixed m.is_fixed n.is_fixed m.smallest n.smallest

members_fixed : (f g : TypeRef → Option Measure) → ((kind : TypeRef) → fixed_in (f kind) ≡ fixed_in (g kind)) → (ms : List Member) → fixed_in (measure_members f ms) ≡ fixed_in (measure_members g ms)
members_fixed f g one [] = refl
members_fixed f g one (m ∷ ms) =
    member_fixed (f m.kind) (measure_members f ms) ∙ (λ i. both (one m.kind i) (members_fixed f g one ms i)) ∙ sym (member_fixed (g m.kind) (measure_members g ms))

module _ (t : Tables) where
  abbrev u : Tables
  u = of_exceptions t

  struct_same : (f g : TypeRef → Option Measure) → ((kind : TypeRef) → fixed_in (f kind) ≡ fixed_in (g kind)) → (row : Option StructDecl)
      → fixed_in (measured row (λ d. struct_of (measure_members f d.members))) ≡ fixed_in (measured row (λ d. struct_of (measure_members g d.members)))
  struct_same f g one None = refl
  struct_same f g one (Some d) = struct_fixed (measure_members f d.members) ∙ members_fixed f g one d.members ∙ sym (struct_fixed (measure_members g d.members))

  class_varies : {A : Type 0} (row : Option A) → fixed_in (measured row (λ c. Some (record { depth = 1; smallest = 1; is_fixed = false; is_key = false; is_built = false }))) ≡ None
  class_varies None = refl
  class_varies (Some c) = refl

  fixed_same : (levels : ℕ) (kind : TypeRef) → fixed_in (measure u levels kind) ≡ fixed_in (measure t levels kind)
  unfolding measure
  fixed_same zero kind = refl
  fixed_same (suc levels) kinds.Bool = refl
  fixed_same (suc levels) kinds.Byte = refl
  fixed_same (suc levels) kinds.Short = refl
  fixed_same (suc levels) kinds.Int = refl
  fixed_same (suc levels) kinds.Long = refl
  fixed_same (suc levels) kinds.Text = refl
  fixed_same (suc levels) (kinds.Seq at) = sequences_vary (λ q. measure u levels q.element) (slice_get t.seqs at) ∙ sym (sequences_vary (λ q. measure t levels q.element) (slice_get t.seqs at))
  fixed_same (suc zero) (kinds.Dict at) = refl
  fixed_same (suc (suc levels)) (kinds.Dict at) =
      dictionaries_vary (λ d. measure u levels d.key) (λ d. measure u levels d.value) (slice_get t.dicts at) ∙ sym (dictionaries_vary (λ d. measure t levels d.key) (λ d. measure t levels d.value) (slice_get t.dicts at))
  fixed_same (suc levels) (kinds.Struct at) = struct_same (measure u levels) (measure t levels) (fixed_same levels) (slice_get t.structs at)
  fixed_same (suc levels) (kinds.Enum at) = refl
  fixed_same (suc levels) (kinds.Proxy None) = refl
  fixed_same (suc levels) (kinds.Proxy (Some at)) = refl
  fixed_same (suc levels) (kinds.Class None) = refl
  fixed_same (suc levels) (kinds.Class (Some at)) = class_varies (slice_get u.classes at) ∙ sym (class_varies (slice_get t.classes at))

  size_same : fixed_size u ≡ fixed_size t
  size_same = λ i kind. fixed_same MOST_DEPTH kind i

  pub format_same : (kind : TypeRef) → optional_format u kind ≡ optional_format t kind
  format_same kinds.Bool = refl
  format_same kinds.Byte = refl
  format_same kinds.Short = refl
  format_same kinds.Int = refl
  format_same kinds.Long = refl
  format_same kinds.Text = refl
  format_same (kinds.Seq at) = ap (λ (f : TypeRef → Option ℕ). elim (slice_get t.seqs at) [ None ↦ FORMAT_FSIZE | Some q ↦ of_parts (is_some (f q.element)) ]) size_same
  format_same (kinds.Dict at) = ap (λ (f : TypeRef → Option ℕ). elim (slice_get t.dicts at) [ None ↦ FORMAT_FSIZE | Some d ↦ of_parts (is_some (f d.key) && is_some (f d.value)) ]) size_same
  format_same (kinds.Struct at) = ap (λ (f : TypeRef → Option ℕ). of_parts (is_some (f (kinds.Struct at)))) size_same
  format_same (kinds.Enum at) = refl
  format_same (kinds.Proxy at) = refl
  format_same (kinds.Class at) = refl

  counts_same : (kind : TypeRef) → counts_itself u kind ≡ counts_itself t kind
  counts_same kinds.Bool = refl
  counts_same kinds.Byte = refl
  counts_same kinds.Short = refl
  counts_same kinds.Int = refl
  counts_same kinds.Long = refl
  counts_same kinds.Text = refl
  counts_same (kinds.Seq at) = ap (λ (f : TypeRef → Option ℕ). elim (slice_get t.seqs at) [ None ↦ false | Some q ↦ is_one (f q.element) ]) size_same
  counts_same (kinds.Dict at) = refl
  counts_same (kinds.Struct at) = refl
  counts_same (kinds.Enum at) = refl
  counts_same (kinds.Proxy at) = refl
  counts_same (kinds.Class at) = refl

  pub prefix_same : (kind : TypeRef) → prefix_of u kind ≡ prefix_of t kind
  prefix_same kind = λ i. prefix_by (counts_same kind i) (format_same kind i)

  -- ---- what is read

  module _ {R : Type 0} (refer : Option ℕ → Reader R (Option ℕ)) where
    step_same : (one two : TypeRef → Reader R Tree) → one ≡ two → (kind : TypeRef) → value_step refer u one kind ≡ value_step refer t two kind
    step_same one two e kinds.Bool = refl
    step_same one two e kinds.Byte = refl
    step_same one two e kinds.Short = refl
    step_same one two e kinds.Int = refl
    step_same one two e kinds.Long = refl
    step_same one two e kinds.Text = refl
    step_same one two e (kinds.Seq at) = ap (λ (x : TypeRef → Reader R Tree). value_step refer t x (kinds.Seq at)) e
    step_same one two e (kinds.Dict at) = ap (λ (x : TypeRef → Reader R Tree). value_step refer t x (kinds.Dict at)) e
    step_same one two e (kinds.Struct at) = ap (λ (x : TypeRef → Reader R Tree). value_step refer t x (kinds.Struct at)) e
    step_same one two e (kinds.Enum at) = refl
    step_same one two e (kinds.Proxy at) = refl
    step_same one two e (kinds.Class at) = refl

    value_read_same : (levels : ℕ) → value_at refer u levels ≡ value_at refer t levels
    value_read_same zero = λ i kind s r. nowhere r
    value_read_same (suc levels) = λ i kind. step_same (value_at refer u levels) (value_at refer t levels) (value_read_same levels) kind i

    passed_same : (reference : Bool) (format : ℕ) → skipped_by refer u reference format ≡ skipped_by refer t reference format
    passed_same true format = refl
    passed_same false format = refl

    tagged_read_same : (place : ℕ) (kind : Option TypeRef) (format : ℕ) → tagged refer u place kind format ≡ tagged refer t place kind format
    tagged_read_same place None format = passed_same (format == FORMAT_CLASS) format
    tagged_read_same place (Some kind) format = λ i. tested (format == format_same kind i) place BadFormat (made Some (framed (prefix_same kind i) (value_read_same MOST_DEPTH i kind)))

    module _ (marked : Bool) (members : List Member) where
      then_same : (one two : Option ℕ → Reader R Present) → ((last : Option ℕ) → one last ≡ two last) → (place : ℕ) (it : Option (ℕ × ℕ))
          → option_then refer u marked members one place it ≡ option_then refer t marked members two place it
      then_same one two e place None = refl
      then_same one two e place (Some it) = λ i. followed (tagged_read_same place (kind_tagged it.0 members) it.1 i) (λ v. made (with_option it.0 v) (e (Some it.0) i))

      options_read_same : (steps : ℕ) (last : Option ℕ) → options_at refer u marked members steps last ≡ options_at refer t marked members steps last
      options_read_same zero last = λ i s r. nowhere r
      options_read_same (suc steps) last = λ i s r. next_tag_at last marked r
          >>= λ next. then_same (options_at refer u marked members steps) (options_at refer t marked members steps) (options_read_same steps) r.place next.0 i s next.1

    flagged_read_same : (flagged : Bool) (members : List Member) → if_flagged refer u flagged (all_options refer u true members) ≡ if_flagged refer t flagged (all_options refer t true members)
    flagged_read_same true members = λ i s r. options_read_same true members (suc (length r.bytes)) None i s r
    flagged_read_same false members = refl

    pub read_same : (flagged : Bool) (shape : Shape) → slice_members_at refer u flagged shape ≡ slice_members_at refer t flagged shape
    read_same flagged shape = λ i. followed (each_at (value_read_same MOST_DEPTH i) (required_kinds shape)) (λ required. made (with_optional required) (flagged_read_same flagged shape.optional i))

  -- ---- what bytes spell

  module _ {R S : Type 0} (port : Port R S) where
    parts_same : (One Two : TypeRef → Speller S Tree) → One ≡ Two → (kind : TypeRef) → SpellsParts port u One kind ≡ SpellsParts port t Two kind
    parts_same One Two e kinds.Bool = refl
    parts_same One Two e kinds.Byte = refl
    parts_same One Two e kinds.Short = refl
    parts_same One Two e kinds.Int = refl
    parts_same One Two e kinds.Long = refl
    parts_same One Two e kinds.Text = refl
    parts_same One Two e (kinds.Seq at) = ap (λ (X : TypeRef → Speller S Tree). SpellsParts port t X (kinds.Seq at)) e
    parts_same One Two e (kinds.Dict at) = ap (λ (X : TypeRef → Speller S Tree). SpellsParts port t X (kinds.Dict at)) e
    parts_same One Two e (kinds.Struct at) = ap (λ (X : TypeRef → Speller S Tree). SpellsParts port t X (kinds.Struct at)) e
    parts_same One Two e (kinds.Enum at) = refl
    parts_same One Two e (kinds.Proxy at) = refl
    parts_same One Two e (kinds.Class at) = refl

    values_same : (levels : ℕ) → SpellsValue port u levels ≡ SpellsValue port t levels
    values_same zero = λ i kind bytes v from to. ⊥
    values_same (suc levels) = λ i kind. parts_same (SpellsValue port u levels) (SpellsValue port t levels) (values_same levels) kind i

    skipped_same : (reference : Bool) (format : ℕ) → SkippedBy port u reference format ≡ SkippedBy port t reference format
    skipped_same true format = refl
    skipped_same false format = refl

    tagged_same : (kind : Option TypeRef) (format : ℕ) → Tagged port u kind format ≡ Tagged port t kind format
    tagged_same None format = skipped_same (format == FORMAT_CLASS) format
    tagged_same (Some kind) format = λ i. Where (format == format_same kind i) (Made Some (Framed (prefix_same kind i) (values_same MOST_DEPTH i kind)))

    options_same : (marked : Bool) (members : List Member) (n : ℕ) (last : Option ℕ) → Options port u marked members n last ≡ Options port t marked members n last
    options_same marked members zero last = refl
    options_same marked members (suc n) last = λ i bytes values from to. (number format : ℕ) × (v : Option Tree) × (others : Present) × (lead a b : List ℕ) × (mid : S)
        × (bytes ≡ lead ++ (a ++ b)) × tag.Spells lead (number, format) × IsTrue (rises last number) × tagged_same (kind_tagged number members) format i a v from mid
        × (values ≡ with_option number v others) × options_same marked members n (Some number) i b others mid to

    all_same : (marked : Bool) (members : List Member) → AllOptions port u marked members ≡ AllOptions port t marked members
    all_same marked members = λ i bytes values from to. (n : ℕ) × options_same marked members n None i bytes values from to

    flagged_same : (flagged : Bool) (members : List Member) → IfFlagged port u flagged (AllOptions port u true members) ≡ IfFlagged port t flagged (AllOptions port t true members)
    flagged_same true members = all_same true members
    flagged_same false members = refl

    pub spelled_same : (flagged : Bool) (shape : Shape) → SpellsSliceMembers port u flagged shape ≡ SpellsSliceMembers port t flagged shape
    spelled_same flagged shape = λ i. Followed (Each (values_same MOST_DEPTH i) (required_kinds shape)) (λ required. Made (with_optional required) (flagged_same flagged shape.optional i))

  -- ---- what is written

  module _ {P : Type 0} (refer : Writer P (Option ℕ)) where
    option_same : (number : ℕ) (kind : Option TypeRef) (v : Tree) → written_option refer u number kind v ≡ written_option refer t number kind v
    option_same number None v = refl
    option_same number (Some kind) v = λ i. exactly (tag.put (number, format_same kind i)) >> framing (prefix_same kind i) (written refer v)

    list_same : (members : List Member) (end : List ℕ) (os : Present) → written_options refer u members end os ≡ written_options refer t members end os
    list_same members end [] = refl
    list_same members end (o ∷ os) = λ i. option_same o.0 (kind_tagged o.0 members) o.1 i >> list_same members end os i

    marked_same : (members : List Member) (os : Present) → marked_options refer u members os ≡ marked_options refer t members os
    marked_same members [] = refl
    marked_same members (o ∷ os) = list_same members (255 ∷ []) (o ∷ os)

    pub written_same : (shape : Shape) (c : Members) → written_slice_members refer u shape c ≡ written_slice_members refer t shape c
    written_same shape c = λ i. written_each refer c.required >> marked_same shape.optional c.optional i

  -- ---- what is of a type

  pub typed_same : (levels : ℕ) (Refer : Refers) (kind : TypeRef) (v : Tree) → HasType u Refer levels kind v ≡ HasType t Refer levels kind v
  typed_same zero Refer kind v = refl
  typed_same (suc levels) Refer kinds.Bool v = refl
  typed_same (suc levels) Refer kinds.Byte v = refl
  typed_same (suc levels) Refer kinds.Short v = refl
  typed_same (suc levels) Refer kinds.Int v = refl
  typed_same (suc levels) Refer kinds.Long v = refl
  typed_same (suc levels) Refer kinds.Text v = refl
  typed_same (suc levels) Refer (kinds.Seq at) v =
      λ i. (q : SeqDecl) × (slice_get t.seqs at ≡ Some q) × (items : Trees) × (v ≡ sequence items) × (tree_count items < 2 ^ 31) × AllOf (λ w. typed_same levels Refer q.element w i) items
  typed_same (suc levels) Refer (kinds.Dict at) v =
      λ i. (d : DictDecl) × (slice_get t.dicts at ≡ Some d) × (pairs : Entries) × (v ≡ dictionary pairs) × (entry_count pairs < 2 ^ 31) × IsRising pairs
      × PairsOf (λ w. typed_same levels no_reference d.key w i) (λ w. typed_same levels Refer d.value w i) pairs
  typed_same (suc levels) Refer (kinds.Struct at) v =
      λ i. (d : StructDecl) × (slice_get t.structs at ≡ Some d) × (members : Trees) × (v ≡ struct members) × EachOf (λ kind w. typed_same levels Refer kind w i) (map (λ m. m.kind) d.members) members
  typed_same (suc levels) Refer (kinds.Enum at) v = refl
  typed_same (suc levels) Refer (kinds.Proxy at) v = refl
  typed_same (suc levels) Refer (kinds.Class declared) v = refl

  pub present_same : (Refer : Refers) (members : List Member) (last : Option ℕ) (os : Present) → AreOptions u Refer members last os ≡ AreOptions t Refer members last os
  present_same Refer members last [] = refl
  present_same Refer members last (o ∷ os) = λ i. IsTrue (rises last o.0) × (o.0 < 2 ^ 31) × (kind : TypeRef) × (kind_tagged o.0 members ≡ Some kind) × typed_same MOST_DEPTH Refer kind o.1 i
      × present_same Refer members (Some o.0) os i

  pub required_same : (Refer : Refers) (kinds : List TypeRef) (vs : Trees) → EachOf (HasType u Refer MOST_DEPTH) kinds vs ≡ EachOf (HasType t Refer MOST_DEPTH) kinds vs
  required_same Refer kinds vs = λ i. EachOf (λ kind w. typed_same MOST_DEPTH Refer kind w i) kinds vs

  pub members_to : (Refer : Refers) (shape : Shape) (c : Members) → AreMembers t Refer shape c → AreMembers u Refer shape c
  members_to Refer shape c h = record {
    required = subst (λ (X : Type 0). X) (sym (required_same Refer (required_kinds shape) c.required)) h.required;
    optional = subst (λ (X : Type 0). X) (sym (present_same Refer shape.optional None c.optional)) h.optional;
  }

  pub members_from : (Refer : Refers) (shape : Shape) (c : Members) → AreMembers u Refer shape c → AreMembers t Refer shape c
  members_from Refer shape c h = record {
    required = subst (λ (X : Type 0). X) (required_same Refer (required_kinds shape) c.required) h.required;
    optional = subst (λ (X : Type 0). X) (present_same Refer shape.optional None c.optional) h.optional;
  }
