-- The class of the nodes may be added and defined.
use Rattle.std.proofs.Common.{◌≡◌, ◌≢◌, ◌≤◌, ℕ, true, false, List, [], ◌∷◌, All, None, Some, codes, refl}
use Rattle.std.specs.Str.{bytes_eq, str_to_ascii_lowercase}
use Rattle.std.proofs.lemmas.Slice.Eq.{bytes_eq-Decides}
use Rattle.std.proofs.lemmas.List.Elements.{All-nil, All-cons}
use Rattle.ice_types.specs.declared.kind.TypeRef.TheVariants as kinds
use Rattle.ice_types.specs.declared.kind.RowRef.TheVariants as rows
use Rattle.ice_types.specs.declared.declarations.Member.{Member}
use Rattle.ice_types.specs.Object.{required}
use Rattle.ice_types.specs.Names.{IsFree, AreNew}
use Rattle.ice_types.specs.Tables.{IsNewId, no_types}
use Rattle.ice_types.specs.Measures.{measure, built_in, reference}
use Rattle.ice_types.specs.Fits.{IsOf, AreOf, names_of, NumbersFit, ClassFits}
use Rattle.ice_relay.specs.Nodes.{node_declared, node_members}

pub node_new : IsNewId no_types (codes "::D::N")
node_new (rows.Seq at) h = cc
node_new (rows.Dict at) h = cc
node_new (rows.Struct at) h = cc
node_new (rows.Enum at) h = cc
node_new (rows.Class at) h = cc
node_new (rows.Exception at) h = cc
node_new (rows.Interface at) h = cc

int_of : IsOf node_declared kinds.Int
unfolding measure
int_of = (built_in 4 true, refl)

node_of : IsOf node_declared (kinds.Class (Some 0))
unfolding measure
node_of = (reference, refl)

abbrev v : Member
v = required (codes "v") kinds.Int

abbrev left : Member
left = required (codes "left") (kinds.Class (Some 0))

abbrev right : Member
right = required (codes "right") (kinds.Class (Some 0))

members_of : AreOf node_declared node_members
members_of =
    let Of : Member → Type 0 = λ m. IsOf node_declared m.kind in
    All-cons Of v (left ∷ right ∷ []) int_of (All-cons Of left (right ∷ []) node_of (All-cons Of right [] node_of (All-nil Of)))

differ : (a b : List ℕ) → bytes_eq a b ≡ false → a ≢ b
differ a b apart same = let yes : bytes_eq a b ≡ true = (bytes_eq-Decides a b).1 same in cc

members_new : AreNew [] (names_of node_members)
members_new =
    let Other : List ℕ → List ℕ → Type 0 = λ name other. str_to_ascii_lowercase other ≢ str_to_ascii_lowercase name in
    let v_left : Other (codes "left") (codes "v") = differ (codes "v") (codes "left") refl in
    let v_right : Other (codes "right") (codes "v") = differ (codes "v") (codes "right") refl in
    let left_right : Other (codes "right") (codes "left") = differ (codes "left") (codes "right") refl in
    let second : IsFree (codes "v" ∷ []) (codes "left") = All-cons (Other (codes "left")) (codes "v") [] v_left (All-nil (Other (codes "left"))) in
    let third : IsFree (codes "left" ∷ codes "v" ∷ []) (codes "right") = All-cons (Other (codes "right")) (codes "left") (codes "v" ∷ []) left_right (All-cons (Other (codes "right")) (codes "v") [] v_right (All-nil (Other (codes "right")))) in
    (All-nil (Other (codes "v")), (second, (third, tt)))

no_numbers : NumbersFit []
no_numbers = (All-nil (λ n. n ≤ 2147483647), tt)

pub node_fits : ClassFits node_declared None node_members
node_fits = (tt, (members_of, members_new, no_numbers))
