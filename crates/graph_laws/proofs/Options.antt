-- Optional members under another schema: those of a tag that it has, and those that it passes over.
use Rattle.std.proofs.Common.{ℕ, zero, suc, ◌≡◌, ◌==◌, Bool, true, false, List, refl, sym, ◌∙◌, ap, subst, Option, Some, None}
use Rattle.std.specs.Prelude.{◌&&◌, slice_get}
use Rattle.std.proofs.lemmas.Bool.{eq-eqb}
use Rattle.ice_types.specs.declared.kind.TypeRef.{TypeRef}
use Rattle.ice_types.specs.declared.kind.TypeRef.TheVariants as kinds
use Rattle.ice_types.specs.declared.declarations.Member.{Member}
use Rattle.ice_types.specs.declared.declarations.Shape.{Shape}
use Rattle.ice_types.specs.declared.declarations.SeqDecl.{SeqDecl}
use Rattle.ice_types.specs.declared.declarations.DictDecl.{DictDecl}
use Rattle.ice_types.specs.declared.schema.TheConstants.{MOST_DEPTH}
use Rattle.ice_types.specs.declared.optional_format.TheConstants.{FORMAT_CLASS, FORMAT_FSIZE}
use Rattle.ice_types.specs.Tables.{Tables}
use Rattle.ice_types.specs.Lacking.{AreSame}
use Rattle.ice_types.specs.Measures.{built_in}
use Rattle.ice_types.specs.Formats.{optional_format, of_parts, is_fixed}
use Rattle.ice_types.proofs.Levels.{says_bool, says_byte, says_short, says_int, says_long}
use Rattle.ice_encoding.specs.Skipping.{Passes, one, two, four, eight, sized, behind_size, behind_int}
use Rattle.ice_encoding.specs.Tree.{Tree}
use Rattle.ice_encoding.specs.Port.{Port, Speller}
use Rattle.ice_encoding.specs.Spelling.{SpellsValue}
use Rattle.ice_encoding.specs.Prefixes.{counts_itself, prefix_by, prefix_of, Framed}
use Rattle.ice_encoding.specs.Optionals.{kind_tagged, SkippedBy, Tagged, Options, AllOptions}
use Rattle.ice_encoding.specs.OptionalMembers.{required_kinds, IfFlagged, SpellsSliceMembers}
use Rattle.slice_compat.specs.Reading.{ReadsClass, ReadsWithin}
use Rattle.graph_laws.specs.PlainSlices.{KnownOptions, KnownIfFlagged, KnownMembers}
use Rattle.graph_laws.specs.SeeingOther.{if_typed, left, left_members}
use Rattle.graph_laws.proofs.MeasuredThere.{same_optional, same_prefix}
use Rattle.graph_laws.proofs.Fixed.{value_fixed, CountsItself, itself_counted}
use Rattle.graph_laws.proofs.CarriedOver.{Goes, GoesAs, framed_carried, value_carried, required_carried}

-- a format by parts
abbrev ByParts : Tables → TypeRef → Type 0
ByParts t kind = (b : Bool) × (optional_format t kind ≡ of_parts b)

seq_parts : (t : Tables) (o : Option SeqDecl) → (b : Bool) × (elim o [ None ↦ FORMAT_FSIZE | Some q ↦ of_parts (is_fixed t q.element) ] ≡ of_parts b)
seq_parts t None = (false, refl)
seq_parts t (Some q) = (is_fixed t q.element, refl)

dict_parts : (t : Tables) (o : Option DictDecl) → (b : Bool) × (elim o [ None ↦ FORMAT_FSIZE | Some d ↦ of_parts (is_fixed t d.key && is_fixed t d.value) ] ≡ of_parts b)
dict_parts t None = (false, refl)
dict_parts t (Some d) = (is_fixed t d.key && is_fixed t d.value, refl)

no_class : (b : Bool) → (of_parts b == FORMAT_CLASS) ≡ true → ⊥
no_class true e = absurd cc
no_class false e = absurd cc

module _ {R S : Type 0} (port : Port R S) (t : Tables) where
  parts_pass : (Spells : Speller S Tree) (itself fixed : Bool) → (itself ≡ true → CountsItself port t Spells) → (bytes : List ℕ) (v : Tree) (from to : S)
      → Framed (prefix_by itself (of_parts fixed)) Spells bytes v from to → Passes (of_parts fixed) bytes
  parts_pass Spells true true counts bytes v from to h = let c = counts refl bytes v from to h in behind_size bytes c.1 (c.0, c.2, c.3)
  parts_pass Spells false true counts bytes v from to h = behind_size bytes h.1 (h.0, h.2, h.3)
  parts_pass Spells true false counts bytes v from to h = behind_int bytes h.1 (h.0, h.2, h.3)
  parts_pass Spells false false counts bytes v from to h = behind_int bytes h.1 (h.0, h.2, h.3)

  by_parts : (levels : ℕ) (kind : TypeRef) → ByParts t kind → (bytes : List ℕ) (v : Tree) (from to : S) → Framed (prefix_of t kind) (SpellsValue port t levels kind) bytes v from to → Passes (optional_format t kind) bytes
  by_parts levels kind (b, is) bytes v from to h = subst (λ (f : ℕ). Passes f bytes) (sym is)
      (parts_pass (SpellsValue port t levels kind) (counts_itself t kind) b (itself_counted port t levels kind) bytes v from to
      (subst (λ (f : ℕ). Framed (prefix_by (counts_itself t kind) f) (SpellsValue port t levels kind) bytes v from to) is h))

  -- a value that is no reference is passed over by its format
  pub value_passes : (levels : ℕ) (kind : TypeRef) → (optional_format t kind == FORMAT_CLASS) ≡ false → (bytes : List ℕ) (v : Tree) (from to : S)
      → Framed (prefix_of t kind) (SpellsValue port t (suc levels) kind) bytes v from to → Passes (optional_format t kind) bytes
  value_passes levels kinds.Bool e bytes v from to h = one bytes (value_fixed port t 1 (suc levels) kinds.Bool (built_in 1 true) bytes v from to (says_bool t 0) refl h)
  value_passes levels kinds.Byte e bytes v from to h = one bytes (value_fixed port t 1 (suc levels) kinds.Byte (built_in 1 true) bytes v from to (says_byte t 0) refl h)
  value_passes levels kinds.Short e bytes v from to h = two bytes (value_fixed port t 1 (suc levels) kinds.Short (built_in 2 true) bytes v from to (says_short t 0) refl h)
  value_passes levels kinds.Int e bytes v from to h = four bytes (value_fixed port t 1 (suc levels) kinds.Int (built_in 4 true) bytes v from to (says_int t 0) refl h)
  value_passes levels kinds.Long e bytes v from to h = eight bytes (value_fixed port t 1 (suc levels) kinds.Long (built_in 8 true) bytes v from to (says_long t 0) refl h)
  value_passes levels kinds.Text e bytes v from to h = by_parts (suc levels) kinds.Text (true, refl) bytes v from to h
  value_passes levels (kinds.Seq at) e bytes v from to h = by_parts (suc levels) (kinds.Seq at) (seq_parts t (slice_get t.seqs at)) bytes v from to h
  value_passes levels (kinds.Dict at) e bytes v from to h = by_parts (suc levels) (kinds.Dict at) (dict_parts t (slice_get t.dicts at)) bytes v from to h
  value_passes levels (kinds.Struct at) e bytes v from to h = by_parts (suc levels) (kinds.Struct at) (is_fixed t (kinds.Struct at), refl) bytes v from to h
  value_passes levels (kinds.Enum at) e bytes v from to h = sized bytes h.2.0 h.2.2.0.0
  value_passes levels (kinds.Proxy at) e bytes v from to h = by_parts (suc levels) (kinds.Proxy at) (false, refl) bytes v from to h
  value_passes levels (kinds.Class at) e bytes v from to h = absurd cc

-- the types of format 7
class_format : (t : Tables) (kind : TypeRef) → (optional_format t kind == FORMAT_CLASS) ≡ true → (declared : Option ℕ) × (kind ≡ kinds.Class declared)
class_format t kinds.Bool e = absurd cc
class_format t kinds.Byte e = absurd cc
class_format t kinds.Short e = absurd cc
class_format t kinds.Int e = absurd cc
class_format t kinds.Long e = absurd cc
class_format t kinds.Text e = absurd cc
class_format t (kinds.Seq at) e = let p = seq_parts t (slice_get t.seqs at) in absurd (no_class p.0 (ap (λ (f : ℕ). f == FORMAT_CLASS) (sym p.1) ∙ e))
class_format t (kinds.Dict at) e = let p = dict_parts t (slice_get t.dicts at) in absurd (no_class p.0 (ap (λ (f : ℕ). f == FORMAT_CLASS) (sym p.1) ∙ e))
class_format t (kinds.Struct at) e = absurd (no_class (is_fixed t (kinds.Struct at)) e)
class_format t (kinds.Enum at) e = absurd cc
class_format t (kinds.Proxy at) e = absurd cc
class_format t (kinds.Class at) e = (at, refl)

module _ {R S Q Z : Type 0} (Rel : S → Z → Type 0) (first : Port R S) (second : Port Q Z) (t u : Tables)
    (refer : (a b : Option ℕ) → ReadsClass t u a b → Goes Rel (first.Spells a) (second.Spells b)) where
  moved : (from to : S) (begin : Z) → to ≡ from → Rel from begin → Rel to begin
  moved from to begin e r = subst (λ (s : S). Rel s begin) (sym e) r

  -- a value whose tag is passed over, by whether it is a reference
  lost_carried : (kind : TypeRef) (isClass : Bool) → (optional_format t kind == FORMAT_CLASS) ≡ isClass → (bytes : List ℕ) (v : Tree) (from to : S) (begin : Z)
      → ((optional_format t kind == FORMAT_CLASS) ≡ false → Rel from begin → Rel to begin) → Framed (prefix_of t kind) (SpellsValue first t MOST_DEPTH kind) bytes v from to → Rel from begin
      → (end : Z) × SkippedBy second u isClass (optional_format t kind) bytes None begin end × Rel to end
  lost_carried kind true e bytes v from to begin still h r =
      let c = class_format t kind e in
      let g : Framed (prefix_of t (kinds.Class c.0)) (SpellsValue first t MOST_DEPTH (kinds.Class c.0)) bytes v from to = subst (λ (k : TypeRef). Framed (prefix_of t k) (SpellsValue first t MOST_DEPTH k) bytes v from to) c.1 h in
      let p = refer c.0 None tt bytes g.0 from to begin g.2 r in
      (p.0, (g.0, refl, p.1), p.2)
  lost_carried kind false e bytes v from to begin still h r = (begin, (value_passes first t 99 kind e bytes v from to h, refl, refl), still e r)

  module _ (May : ℕ → TypeRef → Type 0) (ms ns : List Member)
      (reads : (number : ℕ) (k l : TypeRef) → kind_tagged number ms ≡ Some k → kind_tagged number ns ≡ Some l → ReadsWithin t u MOST_DEPTH k l)
      (still : (number : ℕ) (kind : TypeRef) → May number kind → kind_tagged number ns ≡ None → (optional_format t kind == FORMAT_CLASS) ≡ false → (bytes : List ℕ) (v : Tree) (from to : S) (begin : Z)
      → Framed (prefix_of t kind) (SpellsValue first t MOST_DEPTH kind) bytes v from to → Rel from begin → Rel to begin) where
    tagged_carried : (number : ℕ) (kind : TypeRef) (o : Option TypeRef) → kind_tagged number ns ≡ o → kind_tagged number ms ≡ Some kind → May number kind → (bytes : List ℕ) (v : Tree) (from to : S) (begin : Z)
        → Framed (prefix_of t kind) (SpellsValue first t MOST_DEPTH kind) bytes v from to → Rel from begin
        → (end : Z) × Tagged second u o (optional_format t kind) bytes (if_typed o v) begin end × Rel to end
    tagged_carried number kind None there here may bytes v from to begin h r =
        lost_carried kind (optional_format t kind == FORMAT_CLASS) refl bytes v from to begin (λ e. still number kind may there e bytes v from to begin h) h r
    tagged_carried number kind (Some l) there here may bytes v from to begin h r =
        let read = reads number kind l here there in
        let p = framed_carried Rel first second t u refer (prefix_of t kind) (SpellsValue first t MOST_DEPTH kind) (SpellsValue second u MOST_DEPTH l) (value_carried Rel first second t u refer MOST_DEPTH kind l read) bytes v from to begin h r in (
          p.0,
          (
            eq-eqb (optional_format t kind) (optional_format u l) (same_optional t u MOST_DEPTH kind l read),
            (v, refl, subst (λ (prefix : _). Framed prefix (SpellsValue second u MOST_DEPTH l) bytes v begin p.0) (same_prefix t u MOST_DEPTH kind l read) p.1),
          ),
          p.2,
        )

    options_carried : (marked : Bool) (n : ℕ) (last : Option ℕ) → GoesAs Rel (left ns) (KnownOptions first t May marked ms n last) (Options second u marked ns n last)
    options_carried marked zero last bytes x from to begin h r = (begin, (h.0, ap (left ns) h.1, refl), moved from to begin h.2 r)
    options_carried marked (suc n) last bytes x from to begin (number, format, kind, v, others, lead, a, b, mid, parts, is_tag, rise, here, may, is_format, is_value, is_list, rest) r =
        let p = tagged_carried number kind (kind_tagged number ns) refl here may a v from mid begin is_value r in
        let q = options_carried marked n (Some number) b others mid to p.0 rest p.2 in (
          q.0,
          (
            number,
            format,
            if_typed (kind_tagged number ns) v,
            left ns others,
            lead,
            a,
            b,
            p.0,
            parts,
            is_tag,
            rise,
            subst (λ (f : ℕ). Tagged second u (kind_tagged number ns) f a (if_typed (kind_tagged number ns) v) begin p.0) (sym is_format) p.1,
            ap (left ns) is_list,
            q.1,
          ),
          q.2,
        )

    flagged_carried : (flagged : Bool) → GoesAs Rel (left ns) (KnownIfFlagged first t May flagged ms) (IfFlagged second u flagged (AllOptions second u true ns))
    flagged_carried true bytes x from to begin h r = let p = options_carried true h.0 None bytes x from to begin h.1 r in (p.0, (h.0, p.1), p.2)
    flagged_carried false bytes x from to begin h r = (begin, (h.0, ap (left ns) h.1, refl), moved from to begin h.2 r)

  pub members_carried : (May : ℕ → TypeRef → Type 0) (shape other : Shape) → AreSame (ReadsWithin t u MOST_DEPTH) (required_kinds shape) (required_kinds other)
      → ((number : ℕ) (k l : TypeRef) → kind_tagged number shape.optional ≡ Some k → kind_tagged number other.optional ≡ Some l → ReadsWithin t u MOST_DEPTH k l)
      → ((number : ℕ) (kind : TypeRef) → May number kind → kind_tagged number other.optional ≡ None → (optional_format t kind == FORMAT_CLASS) ≡ false → (bytes : List ℕ) (v : Tree) (from to : S) (begin : Z)
      → Framed (prefix_of t kind) (SpellsValue first t MOST_DEPTH kind) bytes v from to → Rel from begin → Rel to begin)
      → (flagged : Bool) → GoesAs Rel (left_members other.optional) (KnownMembers first t May flagged shape) (SpellsSliceMembers second u flagged other)
  members_carried May shape other tied reads still flagged bytes c from to begin (required, a, b, mid, parts, each, (optional, is, h)) r =
      let p = required_carried Rel first second t u refer MOST_DEPTH (required_kinds shape) (required_kinds other) tied a required from mid begin each r in
      let q = flagged_carried May shape.optional other.optional reads still flagged b optional mid to p.0 h p.2 in
      (q.0, (required, a, b, p.0, parts, p.1, (left other.optional optional, ap (left_members other.optional) is, q.1)), q.2)
