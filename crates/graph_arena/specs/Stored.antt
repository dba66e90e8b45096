-- Values, and graphs of them, as the logic stores them: each is told apart from every other one.
use Rattle.std.specs.Prelude.{ℕ, ℤ, zero, suc, pos, negsuc, ◌≡◌, Bool, true, false, List, [], ◌∷◌, Option, None, Some, slice_index_or, refl}
use Rattle.std.specs.Coded.{Coded, code_by, coded×, coded_list}
use base.Stored.{Gv, gnil, gnum, gcons, num}
use mathlib.Core.Path.{ap, sym, ◌∙◌}
use Rattle.ice_types.specs.declared.identity.Identity.{Identity}
use Rattle.ice_types.specs.declared.proxy.Proxy.{Proxy}
use Rattle.ice_types.specs.declared.proxy.Endpoint.{Endpoint}
use Rattle.ice_types.specs.declared.proxy.Endpoint.TheVariants.{Tcp, Opaque}
use Rattle.ice_encoding.specs.Tree.{Tree, boolean, byte, short, int, long, text, sequence, dictionary, struct, enumerator, proxy, reference, Trees, none, tree, Entries, no_entry, entry}
use Rattle.ice_encoding.specs.OptionalMembers.{Members}
use Rattle.ice_encoding.specs.Graph.{Slice, known, unknown, Graph}

-- how the values of a type are stored, and got back
record Stores (A : Type 0) : Type 0 where
  to : A → Gv
  from : Gv → A
  back : (x : A) → from (to x) ≡ x

abbrev first : Gv → Gv
first gnil = gnil
first (gnum n) = gnil
first (gcons a b) = a

abbrev second : Gv → Gv
second gnil = gnil
second (gnum n) = gnil
second (gcons a b) = b

-- ---- numbers, truth values, pairs, lists and options

abbrev numbers : Stores ℕ
numbers = record { to = gnum; from = num; back = λ n. refl }

abbrev bit : Bool → ℕ
bit false = 0
bit true = 1

abbrev is_set : ℕ → Bool
is_set zero = false
is_set (suc n) = true

set-bit : (b : Bool) → is_set (bit b) ≡ b
set-bit false = refl
set-bit true = refl

abbrev truths : Stores Bool
truths = record { to = λ b. gnum (bit b); from = λ g. is_set (num g); back = set-bit }

abbrev signed_to : ℤ → Gv
signed_to (pos n) = gcons (gnum 0) (gnum n)
signed_to (negsuc n) = gcons (gnum 1) (gnum n)

abbrev with_sign : ℕ → ℕ → ℤ
with_sign zero n = pos n
with_sign (suc k) n = negsuc n

signed-back : (z : ℤ) → with_sign (num (first (signed_to z))) (num (second (signed_to z))) ≡ z
signed-back (pos n) = refl
signed-back (negsuc n) = refl

abbrev signed : Stores ℤ
signed = record { to = signed_to; from = λ g. with_sign (num (first g)) (num (second g)); back = signed-back }

abbrev pairs : {A B : Type 0} → Stores A → Stores B → Stores (A × B)
pairs a b = record { to = λ p. gcons (a.to p.0) (b.to p.1); from = λ g. (a.from (first g), b.from (second g)); back = λ p i. (a.back p.0 i, b.back p.1 i) }

-- by the type that it maps into
abbrev by_way : {A B : Type 0} → Stores B → (f : A → B) → (g : B → A) → ((x : A) → g (f x) ≡ x) → Stores A
by_way b f g returns = record { to = λ x. b.to (f x); from = λ s. g (b.from s); back = λ x. ap g (b.back (f x)) ∙ returns x }

module _ {A : Type 0} (a : Stores A) where
  abbrev list_to : List A → Gv
  list_to [] = gnil
  list_to (x ∷ xs) = gcons (a.to x) (list_to xs)

  abbrev list_from : Gv → List A
  list_from gnil = []
  list_from (gnum n) = []
  list_from (gcons g h) = a.from g ∷ list_from h

  list-back : (xs : List A) → list_from (list_to xs) ≡ xs
  list-back [] = refl
  list-back (x ∷ xs) = λ i. a.back x i ∷ list-back xs i

  abbrev lists : Stores (List A)
  lists = record { to = list_to; from = list_from; back = list-back }

  abbrev option_to : Option A → Gv
  option_to None = gnil
  option_to (Some x) = gcons gnil (a.to x)

  abbrev option_from : Gv → Option A
  option_from gnil = None
  option_from (gnum n) = None
  option_from (gcons g h) = Some (a.from h)

  option-back : (o : Option A) → option_from (option_to o) ≡ o
  option-back None = refl
  option-back (Some x) = ap Some (a.back x)

  abbrev options : Stores (Option A)
  options = record { to = option_to; from = option_from; back = option-back }

-- ---- proxies

abbrev texts : Stores (List ℕ)
texts = lists numbers

abbrev tcps : Stores (List ℕ × (ℤ × (ℤ × Bool)))
tcps = pairs texts (pairs signed (pairs signed truths))

abbrev opaques : Stores (ℤ × (ℕ × (ℕ × List ℕ)))
opaques = pairs signed (pairs numbers (pairs numbers texts))

abbrev endpoint_to : Endpoint → Gv
endpoint_to (Tcp host port timeout compress) = gcons (gnum 0) (tcps.to (host, (port, (timeout, compress))))
endpoint_to (Opaque kind major minor bytes) = gcons (gnum 1) (opaques.to (kind, (major, (minor, bytes))))

abbrev as_tcp : List ℕ × (ℤ × (ℤ × Bool)) → Endpoint
as_tcp e = Tcp e.0 e.1.0 e.1.1.0 e.1.1.1

abbrev as_opaque : ℤ × (ℕ × (ℕ × List ℕ)) → Endpoint
as_opaque e = Opaque e.0 e.1.0 e.1.1.0 e.1.1.1

abbrev endpoint_by : ℕ → Gv → Endpoint
endpoint_by zero g = as_tcp (tcps.from g)
endpoint_by (suc k) g = as_opaque (opaques.from g)

endpoint-back : (e : Endpoint) → endpoint_by (num (first (endpoint_to e))) (second (endpoint_to e)) ≡ e
endpoint-back (Tcp host port timeout compress) = ap as_tcp (tcps.back (host, (port, (timeout, compress))))
endpoint-back (Opaque kind major minor bytes) = ap as_opaque (opaques.back (kind, (major, (minor, bytes))))

abbrev endpoints : Stores Endpoint
endpoints = record { to = endpoint_to; from = λ g. endpoint_by (num (first g)) (second g); back = endpoint-back }

abbrev identities : Stores Identity
identities = by_way (pairs texts texts) (λ i. (i.name, i.category)) (λ p. record { name = p.0; category = p.1 }) (λ _. refl)

abbrev calling : Stores (ℕ × (Bool × ((ℕ × ℕ) × (ℕ × ℕ))))
calling = pairs numbers (pairs truths (pairs (pairs numbers numbers) (pairs numbers numbers)))

abbrev proxies : Stores Proxy
proxies = by_way (pairs identities (pairs texts (pairs calling (pairs (lists endpoints) texts))))
    (λ p. (p.identity, (p.facet, ((p.mode, (p.secure, (p.protocol, p.encoding))), (p.endpoints, p.adapter)))))
    (λ p. record { identity = p.0; facet = p.1.0; mode = p.1.1.0.0; secure = p.1.1.0.1.0; protocol = p.1.1.0.1.1.0; encoding = p.1.1.0.1.1.1; endpoints = p.1.1.1.0; adapter = p.1.1.1.1 })
    (λ _. refl)

-- ---- values

abbrev mutual
  tree_to : Tree → Gv
  tree_to (boolean b) = gcons (gnum 0) (truths.to b)
  tree_to (byte n) = gcons (gnum 1) (gnum n)
  tree_to (short z) = gcons (gnum 2) (signed.to z)
  tree_to (int z) = gcons (gnum 3) (signed.to z)
  tree_to (long z) = gcons (gnum 4) (signed.to z)
  tree_to (text s) = gcons (gnum 5) (texts.to s)
  tree_to (sequence items) = gcons (gnum 6) (trees_to items)
  tree_to (dictionary pairs) = gcons (gnum 7) (entries_to pairs)
  tree_to (struct members) = gcons (gnum 8) (trees_to members)
  tree_to (enumerator n) = gcons (gnum 9) (gnum n)
  tree_to (proxy p) = gcons (gnum 10) ((options proxies).to p)
  tree_to (reference n) = gcons (gnum 11) ((options numbers).to n)

  trees_to : Trees → Gv
  trees_to none = gnil
  trees_to (tree v vs) = gcons (tree_to v) (trees_to vs)

  entries_to : Entries → Gv
  entries_to no_entry = gnil
  entries_to (entry k v rest) = gcons (tree_to k) (gcons (tree_to v) (entries_to rest))

-- each sort of value, in the order of their numbers
abbrev sorts : Gv → Trees → Entries → List Tree
sorts g vs es = boolean (truths.from g) ∷ byte (num g) ∷ short (signed.from g) ∷ int (signed.from g) ∷ long (signed.from g) ∷ text (texts.from g) ∷ sequence vs ∷ dictionary es ∷ struct vs
    ∷ enumerator (num g) ∷ proxy ((options proxies).from g) ∷ reference ((options numbers).from g) ∷ []

abbrev mutual
  tree_from : Gv → Tree
  tree_from gnil = struct none
  tree_from (gnum n) = struct none
  tree_from (gcons g h) = slice_index_or (sorts h (trees_from h) (entries_from h)) (num g) (struct none)

  trees_from : Gv → Trees
  trees_from gnil = none
  trees_from (gnum n) = none
  trees_from (gcons g h) = tree (tree_from g) (trees_from h)

  entries_from : Gv → Entries
  entries_from gnil = no_entry
  entries_from (gnum n) = no_entry
  entries_from (gcons g h) = valued (tree_from g) h

  valued : Tree → Gv → Entries
  valued k gnil = no_entry
  valued k (gnum n) = no_entry
  valued k (gcons g h) = entry k (tree_from g) (entries_from h)

mutual
  tree-back : (v : Tree) → tree_from (tree_to v) ≡ v
  tree-back (boolean b) = ap boolean (truths.back b)
  tree-back (byte n) = refl
  tree-back (short z) = ap short (signed.back z)
  tree-back (int z) = ap int (signed.back z)
  tree-back (long z) = ap long (signed.back z)
  tree-back (text s) = ap text (texts.back s)
  tree-back (sequence items) = ap sequence (trees-back items)
  tree-back (dictionary pairs) = ap dictionary (entries-back pairs)
  tree-back (struct members) = ap struct (trees-back members)
  tree-back (enumerator n) = refl
  tree-back (proxy p) = ap proxy ((options proxies).back p)
  tree-back (reference n) = ap reference ((options numbers).back n)

  trees-back : (vs : Trees) → trees_from (trees_to vs) ≡ vs
  trees-back none = refl
  trees-back (tree v vs) = λ i. tree (tree-back v i) (trees-back vs i)

  entries-back : (es : Entries) → entries_from (entries_to es) ≡ es
  entries-back no_entry = refl
  entries-back (entry k v rest) = λ i. entry (tree-back k i) (tree-back v i) (entries-back rest i)

-- ---- members, slices and graphs

abbrev trees : Stores Tree
trees = record { to = tree_to; from = tree_from; back = tree-back }

abbrev members : Stores Members
members = by_way (pairs (record { to = trees_to; from = trees_from; back = trees-back }) (lists (pairs numbers trees))) (λ c. (c.required, c.optional)) (λ p. record { required = p.0; optional = p.1 }) (λ _. refl)

abbrev known_slices : Stores (ℕ × Members)
known_slices = pairs numbers members

abbrev unknown_slices : Stores (List ℕ × (List ℕ × (Bool × List ℕ)))
unknown_slices = pairs texts (pairs texts (pairs truths texts))

abbrev slice_to : Slice → Gv
slice_to (known class content) = gcons (gnum 0) (known_slices.to (class, content))
slice_to (unknown id bytes optionals table) = gcons (gnum 1) (unknown_slices.to (id, (bytes, (optionals, table))))

abbrev as_known : ℕ × Members → Slice
as_known s = known s.0 s.1

abbrev as_unknown : List ℕ × (List ℕ × (Bool × List ℕ)) → Slice
as_unknown s = unknown s.0 s.1.0 s.1.1.0 s.1.1.1

abbrev slice_by : ℕ → Gv → Slice
slice_by zero g = as_known (known_slices.from g)
slice_by (suc k) g = as_unknown (unknown_slices.from g)

slice-back : (s : Slice) → slice_by (num (first (slice_to s))) (second (slice_to s)) ≡ s
slice-back (known class content) = ap as_known (known_slices.back (class, content))
slice-back (unknown id bytes optionals table) = ap as_unknown (unknown_slices.back (id, (bytes, (optionals, table))))

abbrev slices : Stores Slice
slices = record { to = slice_to; from = λ g. slice_by (num (first g)) (second g); back = slice-back }

abbrev coded_by : {A : Type 0} → Stores A → Coded A
coded_by a = record { code = a.to; inj = λ x y p. sym (a.back x) ∙ ap a.from p ∙ a.back y }

-- members as the logic stores them: each is told apart from every other one
pub members_code : Coded Members
members_code = coded_by members

-- so instances
pub instances_code : Coded (List (List Slice))
instances_code = coded_list (coded_list (coded_by slices))

-- so graphs
pub graph_code : Coded Graph
graph_code = code_by (Members × List (List Slice)) (coded× members_code instances_code) (λ g. (g.roots, g.instances)) (λ p. record { roots = p.0; instances = p.1 }) (λ _. refl)
