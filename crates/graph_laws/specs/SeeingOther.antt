-- What a graph looks like to a reader whose classes lack some optional members: the same without those.
use Rattle.std.specs.Prelude.{ℕ, ◌≡◌, List, [], ◌∷◌, Option, None, Some}
use Rattle.ice_types.specs.declared.kind.TypeRef.{TypeRef}
use Rattle.ice_types.specs.declared.kind.RowRef.TheVariants as rows
use Rattle.ice_types.specs.declared.declarations.Member.{Member}
use Rattle.ice_types.specs.Tables.{Tables}
use Rattle.ice_types.specs.Lacking.{SameId}
use Rattle.ice_encoding.specs.Tree.{Tree}
use Rattle.ice_encoding.specs.Optionals.{Present, kind_tagged, with_option}
use Rattle.ice_encoding.specs.OptionalMembers.{Members, with_optional}
use Rattle.ice_encoding.specs.Classes.{own_members}
use Rattle.ice_encoding.specs.Graph.{Slice, known, unknown, Graph}
use Rattle.slice_compat.specs.Reached.{IsReached}

-- it is kept where there is a type for it
abbrev pub if_typed : Option TypeRef → Tree → Option Tree
if_typed None v = None
if_typed (Some kind) v = Some v

-- the present members that have a tag of these
abbrev pub left : List Member → Present → Present
left members [] = []
left members (o ∷ os) = with_option o.0 (if_typed (kind_tagged o.0 members) o.1) (left members os)

abbrev pub left_members : List Member → Members → Members
left_members members c = with_optional c.required (left members c.optional)

module _ (t u : Tables) (root : TypeRef) where
  -- a slice of a class that was reached, and the same of the class of its type id, without the members that this one lacks
  abbrev pub SeenAs : Slice → Slice → Type 0
  SeenAs (known a content) s = (b : ℕ) × IsReached t root a × SameId t u (rows.Class a) (rows.Class b) × (s ≡ known b (left_members ((own_members u b).optional) content))
  SeenAs (unknown id bytes optionals table) s = ⊥

  -- one by one
  abbrev pub AllSeen : List Slice → List Slice → Type 0
  AllSeen [] others = others ≡ []
  AllSeen (s ∷ ss) others = (r : Slice) × (rs : List Slice) × (others ≡ r ∷ rs) × SeenAs s r × AllSeen ss rs

  -- instance by instance
  abbrev pub EachSeen : List (List Slice) → List (List Slice) → Type 0
  EachSeen [] others = others ≡ []
  EachSeen (i ∷ is) others = (j : List Slice) × (js : List (List Slice)) × (others ≡ j ∷ js) × AllSeen i j × EachSeen is js

  -- the same roots, and under the same name each instance
  pub record Seen (g h : Graph) : Type 0 where
    pub roots : h.roots ≡ g.roots
    pub instances : EachSeen g.instances h.instances
