-- What a graph under one schema looks like under another that lacks some classes: slices of these are kept as bytes.
use Rattle.std.specs.Prelude.{ℕ, ◌≡◌, ◌⊎◌, Bool, List, [], ◌∷◌, length, None, Some}
use Rattle.ice_types.specs.declared.kind.RowRef.TheVariants as rows
use Rattle.ice_types.specs.Tables.{Tables}
use Rattle.ice_types.specs.Lacking.{SameId}
use Rattle.ice_encoding.specs.OptionalMembers.{Members, SpellsSliceMembers}
use Rattle.ice_encoding.specs.Classes.{class_by_id, own_members}
use Rattle.ice_encoding.specs.Graph.{Slice, known, unknown, Graph}
use Rattle.ice_encoding.specs.References.{Reference, in_table, resolved, AreWithin}
use Rattle.ice_encoding.specs.Slices.{by_table, unknown_bytes}
use Rattle.ice_encoding.specs.Instances.{AllFit}
use Rattle.ice_encoding.specs.CanonicalGraph.{is_there}

-- The bytes that were kept are members of the class, with places in the table, and the table has what they name: of these
-- instances, each of a class that fits.
abbrev pub OpensAs : Tables → List (List Slice) → ℕ → List ℕ → Bool → List ℕ → Members → Type 0
OpensAs t is class bytes optionals table content = (raw : Members) × (uses : List (Reference (Unit {0})))
    × SpellsSliceMembers (in_table (is_there table)) t optionals (own_members t class) (unknown_bytes optionals bytes) raw [] uses
    × AreWithin (length table) uses × AllFit t is (resolved table uses) × (known class content ≡ by_table class raw table)

module _ (t u : Tables) where
  -- a class of both
  abbrev pub SameClassId : ℕ → ℕ → Type 0
  SameClassId a b = SameId t u (rows.Class a) (rows.Class b)

  -- among these instances of the first schema
  module _ (is : List (List Slice)) where
    -- a slice of a class that the second schema lacks, kept
    abbrev pub UnknownAs : ℕ → Members → Slice → Type 0
    UnknownAs a content s = (id bytes : List ℕ) × (optionals : Bool) × (table : List ℕ) × (s ≡ unknown id bytes optionals table)
        × (class_by_id t id ≡ Some a) × (class_by_id u id ≡ None) × OpensAs t is a bytes optionals table content

    -- A slice under the first schema, and the same under the second: of a class that is left, or kept.
    abbrev pub SeenAs : Slice → Slice → Type 0
    SeenAs (known a content) s = ((b : ℕ) × (s ≡ known b content) × SameClassId a b) ⊎ UnknownAs a content s
    SeenAs (unknown id bytes optionals table) s = (s ≡ unknown id bytes optionals table) × (class_by_id u id ≡ None)

    -- one by one
    abbrev pub AllSeen : List Slice → List Slice → Type 0
    AllSeen [] others = others ≡ []
    AllSeen (s ∷ ss) others = (r : Slice) × (rs : List Slice) × (others ≡ r ∷ rs) × SeenAs s r × AllSeen ss rs

    -- instance by instance
    abbrev pub EachSeen : List (List Slice) → List (List Slice) → Type 0
    EachSeen [] others = others ≡ []
    EachSeen (i ∷ is) others = (j : List Slice) × (js : List (List Slice)) × (others ≡ j ∷ js) × AllSeen i j × EachSeen is js

  -- the graph as the second schema has it: the same roots, and under the same name each instance slice by slice
  pub record Seen (g h : Graph) : Type 0 where
    pub roots : h.roots ≡ g.roots
    pub instances : EachSeen g.instances g.instances h.instances
