-- Optional members by rising tag, among which those of unknown tags are passed over. (Ice manual, "Data Encoding for Optional Values".)
use Rattle.std.specs.Prelude.{ℕ, zero, suc, ◌≡◌, ◌==◌, Bool, true, false, IsTrue, List, [], ◌∷◌, ◌++◌, length, Option, None, Some, Ok, if◌then◌else◌}
use Rattle.std.specs.Option.{is_some}
use Rattle.ice_types.specs.declared.kind.TypeRef.{TypeRef}
use Rattle.ice_types.specs.declared.declarations.Member.{Member}
use Rattle.ice_types.specs.declared.schema.TheConstants.{MOST_DEPTH}
use Rattle.ice_types.specs.declared.optional_format.TheConstants.{FORMAT_CLASS}
use Rattle.ice_types.specs.Tables.{Tables}
use Rattle.ice_types.specs.Formats.{optional_format}
use Rattle.ice_prims.specs.declared.fault.Kind.TheVariants.{BadFormat}
use Rattle.ice_prims.specs.Rest.{◌>>=◌}
use Rattle.ice_encoding.specs.Tags.{tag, rises, next_tag_at}
use Rattle.ice_encoding.specs.Skipping.{Passes, passed_at}
use Rattle.ice_encoding.specs.Tree.{Tree}
use Rattle.ice_encoding.specs.Port.{Port, Reader, Speller, nowhere}
use Rattle.ice_encoding.specs.Spelling.{Made, SpellsValue}
use Rattle.ice_encoding.specs.Reading.{made, value_at}
use Rattle.ice_encoding.specs.Steps.{followed, given, tested, Where}
use Rattle.ice_encoding.specs.Prefixes.{prefix_of, framed, Framed}

-- the members that are present, each with its tag
abbrev pub Present : Type 0
Present = List (ℕ × Tree)

-- one that is known is kept, before those behind it
abbrev pub with_option : ℕ → Option Tree → Present → Present
with_option number None others = others
with_option number (Some v) others = (number, v) ∷ others

-- what is passed over is not kept
abbrev pub not_unknown : {A : Type 0} → A → Option Tree
not_unknown x = None

-- the type of the member with this tag, None where there is none
abbrev pub kind_tagged : ℕ → List Member → Option TypeRef
kind_tagged number [] = None
kind_tagged number (m ∷ ms) = elim m.tag [ None ↦ kind_tagged number ms | Some other ↦ if number == other then Some m.kind else kind_tagged number ms ]

-- each with the tag of a member, which is above the one before it
abbrev pub ArePresent : List Member → Option ℕ → Present → Type 0
ArePresent members last [] = Unit {0}
ArePresent members last ((number, v) ∷ others) = IsTrue (rises last number) × IsTrue (is_some (kind_tagged number members)) × ArePresent members (Some number) others

-- The end of the members: the byte 255 where it is marked, else the end of the bound.
abbrev pub SpellsEnd : Bool → List ℕ → Type 0
SpellsEnd true bytes = bytes ≡ 255 ∷ []
SpellsEnd false bytes = bytes ≡ []

-- ---- reading, by how a reference is read

module _ {R : Type 0} (refer : Option ℕ → Reader R (Option ℕ)) (t : Tables) where
  -- a value of an unknown tag: bytes of the format, whatever they say
  abbrev pub passed_over : ℕ → Reader R (Option Tree)
  passed_over format s r = passed_at format r >>= λ behind. Ok (None, s, behind)

  -- by whether the format is that of references, which may change the state
  abbrev pub skipped_by : Bool → ℕ → Reader R (Option Tree)
  skipped_by true format = made not_unknown (refer None)
  skipped_by false format = passed_over format

  -- what stands behind a tag, by the type of the member that has it
  abbrev pub tagged : ℕ → Option TypeRef → ℕ → Reader R (Option Tree)
  tagged place None format = skipped_by (format == FORMAT_CLASS) format
  tagged place (Some kind) format = tested (format == optional_format t kind) place BadFormat (made Some (framed (prefix_of t kind) (value_at refer t MOST_DEPTH kind)))

  module _ (marked : Bool) (members : List Member) where
    -- what follows a tag and its format, whose place this is, or the end
    abbrev pub option_then : (Option ℕ → Reader R Present) → ℕ → Option (ℕ × ℕ) → Reader R Present
    option_then next place None = given []
    option_then next place (Some it) = followed (tagged place (kind_tagged it.0 members) it.1) (λ v. made (with_option it.0 v) (next (Some it.0)))

    -- Each but the end takes a byte at least, so they are read within one step more than there are bytes.
    abbrev pub options_at : ℕ → Option ℕ → Reader R Present
    options_at zero last = λ s r. nowhere r
    options_at (suc steps) last = λ s r. next_tag_at last marked r >>= λ next. option_then (options_at steps) r.place next.0 s next.1

    -- all of them, known and unknown, and the end
    abbrev pub all_options : Reader R Present
    all_options s r = options_at (suc (length r.bytes)) None s r

-- ---- spelling

module _ {R S : Type 0} (port : Port R S) (t : Tables) where
  abbrev pub PassedOver : ℕ → Speller S (Option Tree)
  PassedOver format bytes v from to = Passes format bytes × (v ≡ None) × (to ≡ from)

  abbrev pub SkippedBy : Bool → ℕ → Speller S (Option Tree)
  SkippedBy true format = Made not_unknown (port.Spells None)
  SkippedBy false format = PassedOver format

  -- which bytes spell what stands under a tag: the value of the member of this type, or of one that is not known
  abbrev pub Tagged : Option TypeRef → ℕ → Speller S (Option Tree)
  Tagged None format = SkippedBy (format == FORMAT_CLASS) format
  Tagged (Some kind) format = Where (format == optional_format t kind) (Made Some (Framed (prefix_of t kind) (SpellsValue port t MOST_DEPTH kind)))

  module _ (marked : Bool) (members : List Member) where
    -- so many of them behind the last tag, known and unknown, and then the end
    abbrev pub Options : ℕ → Option ℕ → Speller S Present
    Options zero last bytes values from to = SpellsEnd marked bytes × (values ≡ []) × (to ≡ from)
    Options (suc n) last bytes values from to = (number format : ℕ) × (v : Option Tree) × (others : Present) × (lead a b : List ℕ) × (mid : S)
        × (bytes ≡ lead ++ (a ++ b)) × tag.Spells lead (number, format) × IsTrue (rises last number) × Tagged (kind_tagged number members) format a v from mid
        × (values ≡ with_option number v others) × Options n (Some number) b others mid to

    -- which bytes spell all of them
    abbrev pub AllOptions : Speller S Present
    AllOptions bytes values from to = (n : ℕ) × Options n None bytes values from to
