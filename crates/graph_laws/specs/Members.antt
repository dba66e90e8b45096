-- The first fault of the members of a shape, by that of a reference. (Ice manual, "Data Encoding for Optional Values", "Data Encoding for Class and Exception Types".)
use Rattle.std.specs.Prelude.{ℕ, zero, suc, ◌≡◌, ◌≤◌, ◌<◌, ◌+◌, ◌⊎◌, ◌==◌, Bool, true, false, IsTrue, List, [], ◌∷◌, ◌++◌, length, Option, None, Some, nat_lt}
use Rattle.ice_types.specs.declared.declarations.Member.{Member}
use Rattle.ice_types.specs.declared.declarations.Shape.{Shape}
use Rattle.ice_types.specs.declared.kind.TypeRef.{TypeRef}
use Rattle.ice_types.specs.declared.optional_format.TheConstants.{FORMAT_CLASS}
use Rattle.ice_types.specs.declared.schema.TheConstants.{MOST_DEPTH}
use Rattle.ice_types.specs.Formats.{optional_format}
use Rattle.ice_types.specs.Tables.{Tables}
use Rattle.ice_prims.specs.declared.fault.Kind.TheVariants.{Short, BadSize, BadTag, BadFormat, LeftOver}
use Rattle.ice_prims.specs.Number.{SpellsSize}
use Rattle.ice_encoding.specs.Parts.{Part, byte, int, size, chosen, made, tested}
use Rattle.ice_encoding.specs.Port.{Port, Speller}
use Rattle.ice_encoding.specs.Skipping.{is_natural, count}
use Rattle.ice_encoding.specs.Spelling.{Each, SpellsValue}
use Rattle.ice_encoding.specs.Tags.{behind_leading, tag, rises}
use Rattle.ice_encoding.specs.Tree.{Tree}
use Rattle.ice_encoding.specs.OptionalMembers.{required_kinds}
use Rattle.ice_encoding.specs.Optionals.{kind_tagged, Tagged}
use Rattle.ice_encoding.specs.Prefixes.{Prefix, no_length, own_size, as_size, as_int, prefix_of}
use Rattle.graph_laws.specs.Defects.{Defect, At, Never, Lacks, Unfit, Or, Then, Followed, SizeBreaks}
use Rattle.graph_laws.specs.Values.{EachBreaks, ValueBreaks}

-- ---- what stands behind a length

-- a negative count
abbrev pub CountBreaks : Defect
CountBreaks = Or (Lacks 4) (Unfit int (λ z. is_natural z ≡ false) BadSize)

-- the length has the defect, or fewer bytes are left than it counts
abbrev pub BoundBreaks : Part ℕ → Defect → Defect
BoundBreaks number NumberBreaks = λ place bytes fault. NumberBreaks place bytes fault
    ⊎ ((n : ℕ) × (front rest : List ℕ) × (bytes ≡ front ++ rest) × number.Spells front n × (length rest < n) × At place Short fault)

-- a length with what it counts, which has to fill it
abbrev pub PrefixedBreaks : {S A : Type 0} → Part ℕ → Defect → Speller S A → (S → Defect) → S → Defect
PrefixedBreaks {S} {A} number NumberBreaks Spells Inside = λ from place bytes fault. BoundBreaks number NumberBreaks place bytes fault
    ⊎ ((front body rest : List ℕ) × (bytes ≡ front ++ (body ++ rest)) × number.Spells front (length body)
    × (Inside from (place + length front) body fault
    ⊎ ((x : A) × (to : S) × (a : List ℕ) × (byte : ℕ) × (left : List ℕ) × (body ≡ a ++ byte ∷ left) × Spells a x from to × At (place + length front + length a) LeftOver fault)))

-- what begins with its own size
abbrev pub CountedBreaks : {S : Type 0} → (S → Defect) → S → Defect
CountedBreaks Inside = λ from place bytes fault. BoundBreaks size SizeBreaks place bytes fault
    ⊎ ((n : ℕ) × (front rest : List ℕ) × (bytes ≡ front ++ rest) × SpellsSize front n × (n ≤ length rest) × Inside from place bytes fault)

abbrev pub FramedBreaks : {S A : Type 0} → Prefix → Speller S A → (S → Defect) → S → Defect
FramedBreaks no_length Spells Inside = Inside
FramedBreaks own_size Spells Inside = CountedBreaks Inside
FramedBreaks as_size Spells Inside = PrefixedBreaks size SizeBreaks Spells Inside
FramedBreaks as_int Spells Inside = PrefixedBreaks count CountBreaks Spells Inside

-- by format: bytes that are passed over
abbrev pub PassBreaks : ℕ → Defect
PassBreaks zero = Lacks 1
PassBreaks (suc zero) = Lacks 2
PassBreaks (suc (suc zero)) = Lacks 4
PassBreaks (suc (suc (suc zero))) = Lacks 8
PassBreaks (suc (suc (suc (suc zero)))) = SizeBreaks
PassBreaks (suc (suc (suc (suc (suc zero))))) = BoundBreaks size SizeBreaks
PassBreaks (suc (suc (suc (suc (suc (suc n)))))) = BoundBreaks count CountBreaks

-- ---- a tag

-- a leading byte: not 248 to 255
abbrev pub lead : Part ℕ
lead = tested (λ b. nat_lt b 248) BadTag byte

-- with the tag behind it
abbrev pub led : Part (ℕ × ℕ)
led = chosen lead (λ b. made (λ number. (b, number)) (λ x. x.1) (behind_leading b)) (λ x. x.0)

-- the long form of a tag below 30
abbrev pub IsOffTag : ℕ × ℕ → Type 0
IsOffTag x = (240 ≤ x.0) × (x.1 < 30)

-- behind the leading byte: nothing in the short form, in the long one the tag as a size
abbrev pub BehindLeadBreaks : Bool → Defect
BehindLeadBreaks true = Never
BehindLeadBreaks false = SizeBreaks

abbrev pub TagBreaks : Defect
TagBreaks = Or (Then lead (Or (Lacks 1) (Unfit byte (λ b. 248 ≤ b) BadTag)) (λ b. BehindLeadBreaks (nat_lt b 240))) (Unfit led IsOffTag BadTag)

-- where the members end: at the byte 255 where that marks it, else at the end of the bound
abbrev pub AtEnd : Bool → List ℕ → Type 0
AtEnd true bytes = (rest : List ℕ) × (bytes ≡ 255 ∷ rest)
AtEnd false bytes = bytes ≡ []

-- elsewhere a tag is due, above the one before it
abbrev pub NextBreaks : Bool → Option ℕ → Defect
NextBreaks marked last = λ place bytes fault. ¬ AtEnd marked bytes × Or TagBreaks (Unfit tag (λ it. rises last it.0 ≡ false) BadTag) place bytes fault

-- ---- optional members

module _ {R S : Type 0} (port : Port R S) (ReferenceBreaks : Option ℕ → S → Defect) (t : Tables) where
  -- of a value of an unknown tag, by whether its format is that of references
  abbrev pub SkippedBreaks : Bool → ℕ → S → Defect
  SkippedBreaks true format = ReferenceBreaks None
  SkippedBreaks false format = λ from. PassBreaks format

  -- another format than that of the member is told at the tag
  abbrev pub TaggedBreaks : ℕ → Option TypeRef → ℕ → S → Defect
  TaggedBreaks tag_place None format = SkippedBreaks (format == FORMAT_CLASS) format
  TaggedBreaks tag_place (Some kind) format = λ from place bytes fault. (((format == optional_format t kind) ≡ false) × At tag_place BadFormat fault)
      ⊎ (((format == optional_format t kind) ≡ true) × FramedBreaks (prefix_of t kind) (SpellsValue port t MOST_DEPTH kind) (ValueBreaks port ReferenceBreaks t MOST_DEPTH kind) from place bytes fault)

  module _ (marked : Bool) (members : List Member) where
    -- So many of them stand; then there is neither a tag nor the end, or a tag stands and its value has the defect.
    abbrev pub OptionsBreak : ℕ → Option ℕ → S → Defect
    OptionsBreak zero last = λ from place bytes fault. NextBreaks marked last place bytes fault
        ⊎ ((number format : ℕ) × (front rest : List ℕ) × (bytes ≡ front ++ rest) × tag.Spells front (number, format) × IsTrue (rises last number)
        × TaggedBreaks place (kind_tagged number members) format from (place + length front) rest fault)
    OptionsBreak (suc n) last = λ from place bytes fault. (number format : ℕ) × (v : Option Tree) × (mid : S) × (front a rest : List ℕ) × (bytes ≡ front ++ (a ++ rest))
        × tag.Spells front (number, format) × IsTrue (rises last number) × Tagged port t (kind_tagged number members) format a v from mid
        × OptionsBreak n (Some number) mid (place + length front + length a) rest fault

    abbrev pub AllOptionsBreak : S → Defect
    AllOptionsBreak = λ from place bytes fault. (n : ℕ) × OptionsBreak n None from place bytes fault

  -- ---- all members

  abbrev pub MembersBreak : (S → Defect) → Shape → S → Defect
  MembersBreak OptionalBreaks shape = Followed (Each (SpellsValue port t MOST_DEPTH) (required_kinds shape)) (EachBreaks (SpellsValue port t MOST_DEPTH) (ValueBreaks port ReferenceBreaks t MOST_DEPTH) (required_kinds shape)) (λ required. OptionalBreaks)

  -- of a whole content
  abbrev pub ContentBreaks : Shape → S → Defect
  ContentBreaks shape = MembersBreak (AllOptionsBreak false shape.optional) shape

  abbrev pub IfFlaggedBreaks : Bool → (S → Defect) → S → Defect
  IfFlaggedBreaks true Breaks = Breaks
  IfFlaggedBreaks false Breaks = λ from. Never

  -- of a slice
  abbrev pub SliceMembersBreak : Bool → Shape → S → Defect
  SliceMembersBreak flagged shape = MembersBreak (IfFlaggedBreaks flagged (AllOptionsBreak true shape.optional)) shape
