-- Reading values one after the other, as a loop does.
use Rattle.std.proofs.Common.{◌≡◌, ℕ, zero, suc, true, false, length, get_or, drop, ◌+◌, ◌≤◌, ◌<◌, List, [], ◌∷◌, ◌++◌, Option, None, Some, option_map, refl, sym, ap, ◌∙◌, arith}
use Rattle.std.proofs.lemmas.List.{drop_more}
use Rattle.serde_json.specs.Data.{Data, Items, no_items, item, Members}
use Rattle.serde_json.specs.Find.{get_member}
use Rattle.graph_json.specs.View.{view as json_view, items_view}
use Rattle.graph_json.specs.declared.tree.Json.{Json}
use Rattle.ice_types.specs.declared.kind.TypeRef.{TypeRef}
use Rattle.ice_types.specs.declared.declarations.Member.{Member}
use Rattle.ice_encoding.specs.Tree.{Tree, Trees, none, tree, Entries}
use Rattle.ice_encoding.specs.Order.{has_key, insert}
use Rattle.graph_arena.specs.View.{trees_of}
use Rattle.graph_json.specs.ReadingValues.{Read, each_of, members_of, pairs_of, both_of}

abbrev pub join : Trees → Trees → Trees
join none others = others
join (tree t ts) others = tree t (join ts others)

pub join-none : (ts : Trees) → join ts none ≡ ts
join-none none = refl
join-none (tree t ts) = ap (tree t) (join-none ts)

join-tree : (ts : Trees) (t : Tree) (others : Trees) → join ts (tree t others) ≡ join (join ts (tree t none)) others
join-tree none t others = refl
join-tree (tree x ts) t others = ap (tree x) (join-tree ts t others)

pub trees-push : (ts : List Tree) (t : Tree) → trees_of (ts ++ t ∷ []) ≡ join (trees_of ts) (tree t none)
trees-push [] t = refl
trees-push (x ∷ ts) t = ap (tree x) (trees-push ts t)

pub regroup : (front : Trees) (t : Tree) (read : Option Trees) → option_map (join front) (option_map (tree t) read) ≡ option_map (join (join front (tree t none))) read
regroup front t (Some x) = ap (λ (ts : Trees). Some ts) (join-tree front t x)
regroup front t None = refl

pub nothing_before : (read : Option Trees) → option_map (join none) read ≡ read
nothing_before (Some x) = refl
nothing_before None = refl

-- ---- items of an array

pub item_left : (ds : List Json) (i : ℕ) (d : Json) → i < length ds → d ≡ get_or ds i d → items_view (drop i ds) ≡ item (json_view d) (items_view (drop (i + 1) ds))
item_left ds i d lt is = ap items_view (drop_more ds i d lt ∙ ap (λ (x : Json). x ∷ drop (i + 1) ds) (sym is))

pub no_item_left : (ds : List Json) (i : ℕ) → length ds ≤ i → items_view (drop i ds) ≡ no_items
no_item_left [] zero le = refl
no_item_left [] (suc i) le = refl
no_item_left (d ∷ ds) zero le = absurd (omega (arith, le))
no_item_left (d ∷ ds) (suc i) le = no_item_left ds i (omega (arith, le))

module _ (of : Read Tree) (left behind : Items) (d : Data) (is : left ≡ item d behind) (front : Trees) (total : Option Trees) (so_far : option_map (join front) (each_of of left) ≡ total) where
  pub each_goes_on : (v : Tree) → Some v ≡ of d → option_map (join (join front (tree v none))) (each_of of behind) ≡ total
  each_goes_on v h =
      let first : option_map (join front) (each_of of left) ≡ option_map (join (join front (tree v none))) (each_of of behind) = rw (is, ← h) (regroup front v (each_of of behind)) in
      sym first ∙ so_far

  pub each_stops : None ≡ of d → None ≡ total
  each_stops h =
      let first : option_map (join front) (each_of of left) ≡ None = rw (is, ← h) refl in
      sym first ∙ so_far

pub each_done : (of : Read Tree) (left : Items) (front : Trees) (total : Option Trees) → left ≡ no_items → option_map (join front) (each_of of left) ≡ total → Some front ≡ total
each_done of left front total is so_far =
    let first : option_map (join front) (each_of of left) ≡ Some front = rw (is, join-none front) refl in
    sym first ∙ so_far

-- ---- members

pub member_left : (ms : List Member) (i : ℕ) (m : Member) → i < length ms → m ≡ get_or ms i m → drop i ms ≡ m ∷ drop (i + 1) ms
member_left ms i m lt is = drop_more ms i m lt ∙ ap (λ (x : Member). x ∷ drop (i + 1) ms) (sym is)

pub no_member_left : (ms : List Member) (i : ℕ) → length ms ≤ i → drop i ms ≡ []
no_member_left [] zero le = refl
no_member_left [] (suc i) le = refl
no_member_left (m ∷ ms) zero le = absurd (omega (arith, le))
no_member_left (m ∷ ms) (suc i) le = no_member_left ms i (omega (arith, le))

module _ (of : TypeRef → Read Tree) (left behind : List Member) (m : Member) (is : left ≡ m ∷ behind) (found : Members) (front : Trees) (total : Option Trees) (so_far : option_map (join front) (members_of of left found) ≡ total) where
  pub members_go_on : (d : Data) (v : Tree) → Some d ≡ get_member m.name found → Some v ≡ of m.kind d → option_map (join (join front (tree v none))) (members_of of behind found) ≡ total
  members_go_on d v g h =
      let first : option_map (join front) (members_of of left found) ≡ option_map (join (join front (tree v none))) (members_of of behind found) = rw (is, ← g, ← h) (regroup front v (members_of of behind found)) in
      sym first ∙ so_far

  pub members_lack : None ≡ get_member m.name found → None ≡ total
  members_lack g =
      let first : option_map (join front) (members_of of left found) ≡ None = rw (is, ← g) refl in
      sym first ∙ so_far

  pub members_stop : (d : Data) → Some d ≡ get_member m.name found → None ≡ of m.kind d → None ≡ total
  members_stop d g h =
      let first : option_map (join front) (members_of of left found) ≡ None = rw (is, ← g, ← h) refl in
      sym first ∙ so_far

pub members_done : (of : TypeRef → Read Tree) (left : List Member) (found : Members) (front : Trees) (total : Option Trees) → left ≡ [] → option_map (join front) (members_of of left found) ≡ total → Some front ≡ total
members_done of left found front total is so_far =
    let first : option_map (join front) (members_of of left found) ≡ Some front = rw (is, join-none front) refl in
    sym first ∙ so_far

-- ---- pairs, each put at its place

module _ (key held : Read Tree) (left behind : Items) (d : Data) (is : left ≡ item d behind) (before : Entries) (total : Option Entries) (so_far : pairs_of key held before left ≡ total) where
  pub pairs_go_on : (k v : Tree) → Some (k, v) ≡ both_of key held d → has_key k before ≡ false → pairs_of key held (insert k v before) behind ≡ total
  pairs_go_on k v p new =
      let first : pairs_of key held before left ≡ pairs_of key held (insert k v before) behind = rw (is, ← p, new) refl in
      sym first ∙ so_far

  pub pairs_no_pair : None ≡ both_of key held d → None ≡ total
  pairs_no_pair p =
      let first : pairs_of key held before left ≡ None = rw (is, ← p) refl in
      sym first ∙ so_far

  pub pairs_equal : (k v : Tree) → Some (k, v) ≡ both_of key held d → has_key k before ≡ true → None ≡ total
  pairs_equal k v p old =
      let first : pairs_of key held before left ≡ None = rw (is, ← p, old) refl in
      sym first ∙ so_far

pub pairs_done : (key held : Read Tree) (left : Items) (before : Entries) (total : Option Entries) → left ≡ no_items → pairs_of key held before left ≡ total → Some before ≡ total
pairs_done key held left before total is so_far =
    let first : pairs_of key held before left ≡ Some before = rw is refl in
    sym first ∙ so_far

-- what was made of a value in a `Some`
pub some_is : {X Y : Type 0} (f : X → Y) (o : Option X) (x : X) (r : Option Y) → o ≡ Some x → option_map f o ≡ r → Some (f x) ≡ r
some_is f o x r is h = sym (ap (option_map f) is) ∙ h
