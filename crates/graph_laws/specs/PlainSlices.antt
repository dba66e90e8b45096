-- Spellings without kept slices and without skipped tags, in which each instance is of classes that were reached, and in
-- which one without slice sizes has no member of format 6 that the reader lacks. (Ice manual, "Data Encoding for Class and Exception Types".)
use Rattle.std.specs.Prelude.{ℕ, zero, suc, ◌≡◌, Bool, true, false, IsTrue, List, [], ◌∷◌, ◌++◌, Option, None, Some}
use Rattle.ice_types.specs.declared.kind.TypeRef.{TypeRef}
use Rattle.ice_types.specs.declared.kind.RowRef.TheVariants as rows
use Rattle.ice_types.specs.declared.declarations.Member.{Member}
use Rattle.ice_types.specs.declared.declarations.Shape.{Shape}
use Rattle.ice_types.specs.declared.schema.TheConstants.{MOST_DEPTH}
use Rattle.ice_types.specs.declared.optional_format.TheConstants.{FORMAT_FSIZE}
use Rattle.ice_types.specs.Tables.{Tables}
use Rattle.ice_types.specs.Lacking.{SameId}
use Rattle.ice_types.specs.Formats.{optional_format}
use Rattle.ice_encoding.specs.Tags.{tag, rises}
use Rattle.ice_encoding.specs.Tree.{Tree, none, tree}
use Rattle.ice_encoding.specs.Port.{Port, Speller, nowhere}
use Rattle.ice_encoding.specs.Encapsulation.{Encapsulated}
use Rattle.ice_encoding.specs.Spelling.{Plain, Made, Each, SpellsValue}
use Rattle.ice_encoding.specs.Steps.{Followed, Given}
use Rattle.ice_encoding.specs.Prefixes.{prefix_of, Framed, Prefixed}
use Rattle.ice_encoding.specs.Optionals.{Present, kind_tagged, SpellsEnd}
use Rattle.ice_encoding.specs.OptionalMembers.{Members, with_optional, required_kinds}
use Rattle.ice_encoding.specs.Classes.{own_members}
use Rattle.ice_encoding.specs.Graph.{Slice, known, Graph}
use Rattle.ice_encoding.specs.Joining.{ByItself}
use Rattle.ice_encoding.specs.References.{State, opening, inline, in_table, SpellsTable}
use Rattle.ice_encoding.specs.Flags.{Flags, all_slices, Before, first, may_stand, SpellsFlags}
use Rattle.ice_encoding.specs.TypeIds.{SpellsId, class_in, is_base, ends_well, before_next}
use Rattle.ice_encoding.specs.Slices.{slice_size, by_table, one_more, Behind, instance_at}
use Rattle.ice_encoding.specs.Instances.{most_instances, AllFit}
use Rattle.slice_compat.specs.Reached.{IsReached}

-- ---- members, of which each has a known tag and may stand there

module _ {R S : Type 0} (port : Port R S) (t : Tables) (May : ℕ → TypeRef → Type 0) where
  module _ (marked : Bool) (members : List Member) where
    abbrev pub KnownOptions : ℕ → Option ℕ → Speller S Present
    KnownOptions zero last bytes values from to = SpellsEnd marked bytes × (values ≡ []) × (to ≡ from)
    KnownOptions (suc n) last bytes values from to = (number format : ℕ) × (kind : TypeRef) × (v : Tree) × (others : Present) × (lead a b : List ℕ) × (mid : S)
        × (bytes ≡ lead ++ (a ++ b)) × tag.Spells lead (number, format) × IsTrue (rises last number) × (kind_tagged number members ≡ Some kind) × May number kind
        × (format ≡ optional_format t kind) × Framed (prefix_of t kind) (SpellsValue port t MOST_DEPTH kind) a v from mid
        × (values ≡ (number, v) ∷ others) × KnownOptions n (Some number) b others mid to

    abbrev pub AllKnownOptions : Speller S Present
    AllKnownOptions bytes values from to = (n : ℕ) × KnownOptions n None bytes values from to

  abbrev pub KnownIfFlagged : Bool → List Member → Speller S Present
  KnownIfFlagged true members = AllKnownOptions true members
  KnownIfFlagged false members = Given []

  abbrev pub KnownMembers : Bool → Shape → Speller S Members
  KnownMembers flagged shape = Followed (Each (SpellsValue port t MOST_DEPTH) (required_kinds shape)) (λ required. Made (with_optional required) (KnownIfFlagged flagged shape.optional))

-- ---- instances

module _ (t u : Tables) (root : TypeRef) where
  -- where the reader lacks the tag, the format is none of those in which instances may stand unseen
  abbrev pub StandsOpen : ℕ → ℕ → TypeRef → Type 0
  StandsOpen class number kind = (other : ℕ) → SameId t u (rows.Class class) (rows.Class other) → kind_tagged number ((own_members u other).optional) ≡ None → optional_format t kind ≡ FORMAT_FSIZE → ⊥

  abbrev pub any_member : ℕ → TypeRef → Type 0
  any_member number kind = Unit {0}

  module _ (port : Port (State ℕ) (State (Unit {0}))) where
    abbrev pub PlainBody : Flags → Bool → ℕ → Speller (State (Unit {0})) Slice
    PlainBody f true class = ByItself [] (Prefixed slice_size (KnownMembers (in_table f.has_table) t any_member f.has_optional (own_members t class)))
        (λ content uses. Made (by_table class content) (SpellsTable port f.has_table uses))
    PlainBody f false class = Made (known class) (KnownMembers port t (StandsOpen class) f.has_optional (own_members t class))

    abbrev pub FromKnown : Speller (State (Unit {0})) (List Slice) → Bool → Before → Flags → Option ℕ → Speller (State (Unit {0})) (List Slice)
    FromKnown Next ends before f named bytes slices from to = (class : ℕ) × (named ≡ Some class) × IsReached t root class × (is_base before named ≡ true) × (ends ≡ true)
        × Followed (PlainBody f f.has_size class) (λ slice. Made (one_more slice) Next) bytes slices from to

    abbrev pub PlainSlices : ℕ → Before → Speller (State (Unit {0})) (List Slice)
    PlainSlices zero before bytes slices from to = ⊥
    PlainSlices (suc n) before bytes slices from to = Followed (Plain (SpellsFlags (may_stand before))) (λ f. Followed (SpellsId f.id)
        (λ id. let class = class_in t before id in FromKnown (Behind port t (PlainSlices n) f.is_last (before_next t class f)) (ends_well t class f) before f class)) bytes slices from to

    abbrev pub PlainInstance : Speller (State (Unit {0})) (List Slice)
    PlainInstance bytes slices from to = (n : ℕ) × PlainSlices n first bytes slices from to

  -- so many instances may still begin, one inside the other
  abbrev pub plain_instances : ℕ → ℕ → Port (State ℕ) (State (Unit {0}))
  plain_instances limit zero = inline limit (λ s r. nowhere r) (λ bytes slices from to. ⊥)
  plain_instances limit (suc more) = inline limit (instance_at (plain_instances limit more).read t all_slices) (PlainInstance (plain_instances limit more))

  -- the value of the root and the instances that begin in it, and no tag behind it
  unfoldable pub SpellsPlainGraph : List ℕ → Graph → Type 0
  SpellsPlainGraph bytes g = (v : Tree) × (end : State (Unit {0})) × SpellsValue (plain_instances most_instances most_instances) t MOST_DEPTH root bytes v opening end
      × (g.roots ≡ with_optional (tree v none) []) × (end.instances ≡ g.instances) × AllFit t end.instances end.met

  -- an encapsulation that holds the graph alone
  abbrev pub SpellsPlainNumbered : List ℕ → Graph → Type 0
  SpellsPlainNumbered = Encapsulated SpellsPlainGraph
