-- The graph that is drawn is one of its type, which an arena may hold.
use Rattle.std.proofs.Common.{◌≡◌, ℕ, pos, zero, suc, ◌+◌, ◌*◌, ◌%◌, ◌<◌, ◌≤◌, ◌^◌, Bool, true, false, List, [], ◌∷◌, ◌++◌, length, map, Option, None, Some, codes, refl, sym, ap, subst, ◌∙◌, arith}
use Rattle.std.specs.Prelude.{FitsSigned, nat_lt, if◌then◌else◌}
use Rattle.std.specs.Int.{w32}
use Rattle.std.specs.List.{range_with_len}
use Rattle.std.proofs.lemmas.Bool.{ltb-true}
use Rattle.std.proofs.lemmas.Nat.{mod_below}
use Rattle.std.proofs.lemmas.Int.{fits_signed_from_abs}
use Rattle.std.proofs.lemmas.List.FromFn.{length-map-range_with_len, get_or-map-range_with_len}
use Rattle.ice_types.specs.declared.declarations.ClassDecl.{ClassDecl}
use Rattle.ice_encoding.specs.Tree.{int, reference, none, tree}
use Rattle.ice_encoding.specs.Typed.{Refers}
use Rattle.ice_encoding.specs.Graph.{Slice}
use Rattle.ice_encoding.specs.Names.{listed_name}
use Rattle.ice_encoding.specs.Instances.{most_instances, class_of, class_fits, slices_of}
use Rattle.ice_encoding.specs.Visiting.{most, order}
use Rattle.ice_encoding.specs.TypedGraph.{IsInstance, RefersIn, OfType}
use Rattle.ice_encoding.specs.CanonicalGraph.{compact, Compact, IsWritable}
use Rattle.graph_arena.specs.Arena.{AreBelow, InstanceFits, EachFits, IsSound}
use Rattle.graph_arena.proofs.Closed.{order-is}
use Rattle.graph_laws.proofs.Formed.{listed-below}
use Rattle.ice_relay.specs.declared.drilling.TheConstants.{MOST_NODES}
use Rattle.ice_relay.specs.Drawn.{after, given, draw, target, node, drawn}
use Rattle.ice_relay.specs.Nodes.{node_members, drill_tables, one_node}

-- ---- how many nodes there are, and which

module _ (start count : ℕ) where
  abbrev node_at : ℕ → List Slice
  node_at at = node count (after start (6 * at))

  abbrev nodes : List (List Slice)
  nodes = (drawn start count).instances

  many : length nodes ≡ count
  many = length-map-range_with_len node_at 0 count

  slices-at : (n : ℕ) → n < count → slices_of nodes n ≡ node_at n
  slices-at n lt = get_or-map-range_with_len node_at 0 count n n [] lt (omega arith)

-- ---- what an arena may hold

below-target : (count n : ℕ) (b : Bool) → nat_lt n count ≡ b → AreBelow count (listed_name (if b then Some n else None))
below-target count n true e = (ltb-true n count e, tt)
below-target count n false e = tt

below-two : (count : ℕ) (l r : Option ℕ) → AreBelow count (listed_name l) → AreBelow count (listed_name r) → AreBelow count (((listed_name l ++ (listed_name r ++ [])) ++ []) ++ [])
below-two count None None a b = tt
below-two count None (Some m) a b = (b.0, tt)
below-two count (Some n) None a b = (a.0, tt)
below-two count (Some n) (Some m) a b = (a.0, (b.0, tt))

node-fits : (count x : ℕ) → InstanceFits count (node count x)
node-fits count x =
    let left = draw (after x 2) (count + 1) in
    let right = draw (after x 4) (count + 1) in
    record {
      names = below-two count (target count left) (target count right) (below-target count left (nat_lt left count) refl) (below-target count right (nat_lt right count) refl);
      order = (((tt, (tt, (tt, tt))), tt), tt);
    }

nodes-fit : (start count : ℕ) (places : List ℕ) → EachFits count (map (node_at start count) places)
nodes-fit start count [] = tt
nodes-fit start count (at ∷ others) = (node-fits count (after start (6 * at)), nodes-fit start count others)

pub drawn-sound : (start count : ℕ) → 0 < count → count ≤ MOST_NODES → IsSound (drawn start count)
unfolding most
drawn-sound start count some few = record {
  few = omega (arith, many start count, few);
  roots = record { names = (omega (arith, many start count, some), tt); order = ((tt, tt), tt) };
  instances = subst (λ (n : ℕ). EachFits n (nodes start count)) (sym (many start count)) (nodes-fit start count (range_with_len 0 count));
}

-- ---- types

module _ (start count : ℕ) where
  abbrev Refer : Refers
  Refer = RefersIn drill_tables (nodes start count)

  refers-at : (n : ℕ) → n < count → Refer.Held (Some 0) (Some n)
  refers-at n lt = (omega (arith, many start count, lt), ap (λ (ss : List Slice). class_fits drill_tables (Some 0) (class_of ss)) (slices-at start count n lt))

  refers-target : (n : ℕ) (b : Bool) → nat_lt n count ≡ b → Refer.Held (Some 0) (if b then Some n else None)
  refers-target n true e = refers-at n (ltb-true n count e)
  refers-target n false e = tt

  small : (n : ℕ) → FitsSigned w32 (pos (n % 1000))
  small n = fits_signed_from_abs w32 (pos (n % 1000)) (omega (arith, mod_below n 1000 (omega arith)))

  abbrev row : ClassDecl
  row = record { id = codes "::D::N"; base = None; compact = None; members = node_members }

  node-typed : (x : ℕ) → IsInstance drill_tables Refer (node count x)
  node-typed x =
      let v = pos (draw x 1000) in
      let left = draw (after x 2) (count + 1) in
      let right = draw (after x 4) (count + 1) in
      let first = target count left in
      let second = target count right in (
        (
          row,
          refl,
          record {
            required = (
              int v,
              tree (reference first) (tree (reference second) none),
              refl,
              (v, small (given (after x 1) * 32768 + given (after x 2)), refl),
              (
                reference first,
                tree (reference second) none,
                refl,
                (first, refers-target left (nat_lt left count) refl, refl),
                (reference second, none, refl, (second, refers-target right (nat_lt right count) refl, refl), refl),
              ),
            );
            optional = tt;
          },
        ),
        refl,
      )

  pub drawn-typed : 0 < count → OfType drill_tables one_node (drawn start count)
  drawn-typed some = record {
    roots = record { required = (reference (Some 0), none, refl, (Some 0, refers-at 0 some, refl), refl); optional = tt };
    instances = λ n lt. let within : n < count = omega (arith, many start count, lt) in subst (IsInstance drill_tables Refer) (sym (slices-at start count n within)) (node-typed (after start (6 * n)));
  }

  -- ---- what compact format can carry

  pub drawn-writable : 0 < count → count ≤ MOST_NODES → IsWritable compact (drawn start count)
  drawn-writable some few n lt =
      let below = listed-below (length (nodes start count)) (order (drawn start count)) n (order-is (drawn start count) (drawn-sound start count some few)).below lt in
      subst Compact (sym (slices-at start count n (omega (arith, many start count, below)))) tt

  pub drawn-few : count ≤ MOST_NODES → length (drawn start count).instances ≤ most_instances
  unfolding most_instances
  drawn-few few = omega (arith, many start count, few)
