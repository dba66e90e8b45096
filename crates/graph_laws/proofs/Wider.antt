-- What is of its type with endpoints up to one size is so up to a greater one, and where more references may stand.
use Rattle.std.proofs.Common.{ℕ, zero, suc, ◌≤◌, List, [], ◌∷◌, map, Option, Some, None}
use Rattle.ice_types.specs.declared.kind.TypeRef.{TypeRef}
use Rattle.ice_types.specs.declared.declarations.Member.{Member}
use Rattle.ice_types.specs.declared.declarations.Shape.{Shape}
use Rattle.ice_types.specs.declared.schema.TheConstants.{MOST_DEPTH}
use Rattle.ice_types.specs.Tables.{Tables}
use Rattle.ice_encoding.specs.Typed.{Refers, HasType}
use Rattle.ice_encoding.proofs.Wider.{typed_wider, each_wider}
use Rattle.ice_encoding.specs.Optionals.{Present}
use Rattle.ice_encoding.specs.OptionalMembers.{Members, required_kinds}
use Rattle.ice_encoding.specs.Classes.{base_of, own_members}
use Rattle.ice_encoding.specs.Graph.{Slice, known, unknown, Graph}
use Rattle.ice_encoding.specs.Instances.{slices_of}
use Rattle.ice_encoding.specs.TypedGraph.{AreReferred, AreOptions, AreMembers, IsKnown, AreBases, IsInstance, RefersUpTo, OfTypeTo}

module _ (t : Tables) (Refer Other : Refers) (le : Refer.most ≤ Other.most) (more : (declared n : Option ℕ) → Refer.Held declared n → Other.Held declared n) where
  options_wider : (members : List Member) (last : Option ℕ) (os : Present) → AreOptions t Refer members last os → AreOptions t Other members last os
  options_wider members last [] h = tt
  options_wider members last (o ∷ os) h = (h.0, h.1, h.2, h.3, typed_wider t Refer Other le more MOST_DEPTH h.2 o.1 h.4, options_wider members (Some o.0) os h.5)

  pub members_wider : (shape : Shape) (c : Members) → AreMembers t Refer shape c → AreMembers t Other shape c
  members_wider shape c h = record {
    required = each_wider (HasType t Refer MOST_DEPTH) (HasType t Other MOST_DEPTH) (typed_wider t Refer Other le more MOST_DEPTH) (required_kinds shape) c.required h.required;
    optional = options_wider shape.optional None c.optional h.optional;
  }

  referred_wider : (table : List ℕ) → AreReferred Refer table → AreReferred Other table
  referred_wider [] h = tt
  referred_wider (n ∷ table) h = (more None (Some n) h.0, referred_wider table h.1)

  known_wider : (class : ℕ) (c : Members) → IsKnown t Refer class c → IsKnown t Other class c
  known_wider class c h = (h.0, h.1, members_wider (own_members t class) c h.2)

  bases_wider : (base : Option ℕ) (ss : List Slice) → AreBases t Refer base ss → AreBases t Other base ss
  bases_wider None ss h = h
  bases_wider (Some class) [] h = h
  bases_wider (Some class) (unknown id bytes optionals table ∷ ss) h = h
  bases_wider (Some class) (known other content ∷ ss) h = (h.0, known_wider class content h.1, bases_wider (base_of t class) ss h.2)

  pub instance_wider : (ss : List Slice) → IsInstance t Refer ss → IsInstance t Other ss
  instance_wider [] h = h
  instance_wider (unknown id bytes optionals table ∷ []) h = (h.0, h.1, referred_wider table h.2, h.3)
  instance_wider (unknown id bytes optionals table ∷ s ∷ ss) h = ((h.0.0, h.0.1, referred_wider table h.0.2, h.0.3), instance_wider (s ∷ ss) h.1)
  instance_wider (known class content ∷ ss) h = (known_wider class content h.0, bases_wider (base_of t class) ss h.1)

pub graph_wider : (t : Tables) (most other : ℕ) → most ≤ other → (shape : Shape) (g : Graph) → OfTypeTo t most shape g → OfTypeTo t other shape g
graph_wider t most other le shape g h =
    let Refer : Refers = RefersUpTo t most g.instances in
    let Other : Refers = RefersUpTo t other g.instances in
    record {
      roots = members_wider t Refer Other le (λ declared n held. held) shape g.roots h.roots;
      instances = λ n lt. instance_wider t Refer Other le (λ declared m held. held) (slices_of g.instances n) (h.instances n lt);
    }
