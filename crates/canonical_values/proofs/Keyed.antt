-- Keys with parts: their members one after the other, and in order.
use Rattle.std.proofs.Common.{◌≡◌, ℕ, zero, suc, true, ◌+◌, ◌<◌, ◌≤◌, List, [], ◌∷◌, ◌++◌, length, take, drop, Option, None, Some, refl, sym, ap, ◌∙◌, subst, arith, append_assoc}
use Rattle.std.specs.Prelude.{slice_get, IfSome}
use Rattle.std.specs.declared.cmp.Ordering.{Ordering}
use Rattle.std.specs.declared.cmp.Ordering.TheVariants.{Less, Equal}
use Rattle.std.specs.Ordering.{ordering_then}
use Rattle.std.proofs.lemmas.List.{take-append-drop, length-take-le, drop_at, append-nil}
use Rattle.ice_types.specs.declared.kind.TypeRef.{TypeRef}
use Rattle.ice_types.specs.declared.kind.TypeRef.TheVariants as kinds
use Rattle.ice_types.specs.declared.declarations.Member.{Member}
use Rattle.ice_types.specs.declared.declarations.StructDecl.{StructDecl}
use Rattle.ice_types.specs.Tables.{Tables}
use Rattle.ice_encoding.specs.Tree.{Tree, Trees}
use Rattle.ice_encoding.specs.Port.{by_number}
use Rattle.ice_encoding.specs.Reading.{value_at}
use Rattle.ice_encoding.specs.Spelling.{SpellsValue}
use Rattle.ice_encoding.specs.Writing.{as_number}
use Rattle.ice_encoding.specs.Typed.{HasType, EachOf, no_reference}
use Rattle.ice_encoding.specs.Canonical.{canonical}
use Rattle.ice_encoding.specs.Order.{tree_cmp, trees_cmp}
use Rattle.ice_encoding.proofs.Order.{equal_self}
use Rattle.ice_encoding.proofs.Values.{value_lawful, spelled_apart, number_lawful}
use Rattle.ice_encoding.proofs.Written.{value_written}
use Rattle.canonical_values.specs.Standing.{LeafStands, kinds_of}
use Rattle.canonical_values.specs.Keys.{KeyStands, KeysStand, AreRising, EachRising, HaveFront, each_bytes, is_simple}
use Rattle.canonical_values.proofs.Fronts.{take_two}
use Rattle.canonical_values.proofs.Rows.{each_less, struct_stands}

past_kinds : (n : ℕ) (members : List Member) → length members ≤ n → drop n (kinds_of members) ≡ []
past_kinds zero [] le = refl
past_kinds zero (m ∷ ms) le = absurd (omega (arith, le))
past_kinds (suc n) [] le = refl
past_kinds (suc n) (m ∷ ms) le = past_kinds n ms (omega (arith, le))

-- ---- without parts

key_of : (t : Tables) (kind : TypeRef) (bytes : List ℕ) → is_simple kind ≡ true → LeafStands t kind bytes → (levels : ℕ) → KeyStands t (suc levels) kind bytes
key_of t kinds.Bool bytes e h levels = h levels
key_of t kinds.Byte bytes e h levels = h levels
key_of t kinds.Short bytes e h levels = h levels
key_of t kinds.Int bytes e h levels = h levels
key_of t kinds.Long bytes e h levels = h levels
key_of t kinds.Text bytes e h levels = h levels
key_of t (kinds.Enum at) bytes e h levels = h levels
key_of t (kinds.Seq at) bytes e h levels = absurd cc
key_of t (kinds.Dict at) bytes e h levels = absurd cc
key_of t (kinds.Struct at) bytes e h levels = absurd cc
key_of t (kinds.Proxy at) bytes e h levels = absurd cc
key_of t (kinds.Class at) bytes e h levels = absurd cc

pub leaf_key : (t : Tables) (levels : ℕ) (kind : TypeRef) (bytes : List ℕ) (found : Option ℕ) → 0 < levels → is_simple kind ≡ true → IfSome found (λ n. LeafStands t kind (take n bytes))
    → IfSome found (λ n. KeyStands t levels kind (take n bytes))
leaf_key t zero kind bytes found lt e h = absurd (omega (arith, lt))
leaf_key t (suc levels) kind bytes None lt e h = tt
leaf_key t (suc levels) kind bytes (Some n) lt e h = key_of t kind (take n bytes) e h levels

-- two keys that begin the same bytes are one
key_apart : (t : Tables) (levels : ℕ) (kind : TypeRef) (k l : Tree) (x y : List ℕ) → HasType t no_reference levels kind k → HasType t no_reference levels kind l
    → canonical k ++ x ≡ canonical l ++ y → (canonical k ≡ canonical l) × (k ≡ l)
key_apart t levels kind k l x y h g e =
    let spelled : (v : Tree) → HasType t no_reference levels kind v → SpellsValue by_number t levels kind (canonical v) v tt tt
    = λ v typed. value_written by_number t as_number (λ u. u) no_reference (omega arith, λ declared n never. absurd never) levels kind v typed tt in
    let p = spelled_apart (λ u. u) (value_at by_number.read t levels kind) (SpellsValue by_number t levels kind) (value_lawful by_number number_lawful t levels kind).only
    (canonical k) (canonical l) x y k l tt tt tt (spelled k h) (spelled l g) e in
    (p.0, p.1)

module _ (t : Tables) (levels : ℕ) where
  -- ---- how long

  -- the members up to this one have these bytes
  abbrev pub KeysPassed : List TypeRef → List ℕ → ℕ → ℕ → Type 0
  KeysPassed kinds bytes next at = (more : List ℕ) → KeysStand t levels (drop next kinds) more → KeysStand t levels kinds (take at bytes ++ more)

  pub keys_none : (kinds : List TypeRef) (bytes : List ℕ) → KeysPassed kinds bytes 0 0
  keys_none kinds bytes more h = h

  pub keys_one_more : (kinds others : List TypeRef) (kind : TypeRef) (bytes : List ℕ) (next at n : ℕ) → drop next kinds ≡ kind ∷ others → KeyStands t levels kind (take n (drop at bytes))
      → KeysPassed kinds bytes next at → KeysPassed kinds bytes (next + 1) (at + n)
  keys_one_more kinds others kind bytes next at n is stands had more h =
      let one = take n (drop at bytes) in
      let parts : take (at + n) bytes ++ more ≡ take at bytes ++ (one ++ more) = ap (λ (l : List ℕ). l ++ more) (take_two at n bytes) ∙ append_assoc (take at bytes) one more in
      subst (λ (l : List ℕ). KeysStand t levels kinds l) (sym parts) (had (one ++ more) (each_less t no_reference levels next kinds others kind is one more stands h))

  pub keys_all : (members : List Member) (bytes : List ℕ) (next at : ℕ) → length members ≤ next → KeysPassed (kinds_of members) bytes next at → KeysStand t levels (kinds_of members) (take at bytes)
  keys_all members bytes next at le had =
      subst (λ (l : List ℕ). KeysStand t levels (kinds_of members) l) (append-nil (take at bytes)) (had [] (subst (λ (ks : List TypeRef). KeysStand t levels ks []) (sym (past_kinds next members le)) refl))

  -- a struct, by its members
  pub struct_key : (place : ℕ) (d : StructDecl) (bytes : List ℕ) (found : Option ℕ) → slice_get t.structs place ≡ Some d → IfSome found (λ n. KeysStand t levels (kinds_of d.members) (take n bytes))
      → IfSome found (λ n. KeyStands t (suc levels) (kinds.Struct place) (take n bytes))
  struct_key place d bytes None row h = tt
  struct_key place d bytes (Some n) row h = struct_stands t no_reference levels place d (take n bytes) row h

  -- ---- in order

  -- the members up to this one are the same, so those from it on decide
  abbrev pub Decide : List TypeRef → List ℕ → List ℕ → ℕ → ℕ → Type 0
  Decide kinds first second next at = EachRising t levels (drop next kinds) (drop at first) (drop at second) → EachRising t levels kinds first second

  pub first_below : (kind : TypeRef) (others : List TypeRef) (first second : List ℕ) → AreRising t levels kind first second → EachRising t levels (kind ∷ others) first second
  first_below kind others first second rise ks ls rest more (k, ks', e, h, hs) (l, ls', f, g, gs) p q =
      let one : first ≡ canonical k ++ (each_bytes ks' ++ rest) = p ∙ ap (λ (vs : Trees). each_bytes vs ++ rest) e ∙ append_assoc (canonical k) (each_bytes ks') rest in
      let other : second ≡ canonical l ++ (each_bytes ls' ++ more) = q ∙ ap (λ (vs : Trees). each_bytes vs ++ more) f ∙ append_assoc (canonical l) (each_bytes ls') more in
      let less : tree_cmp k l ≡ Less = rise k l (each_bytes ks' ++ rest) (each_bytes ls' ++ more) h g one other in
      (λ i. trees_cmp (e i) (f i)) ∙ ap (λ (o : Ordering). ordering_then o (trees_cmp ks' ls')) less

  -- the first is the same key, so the others decide
  pub first_same : (kind : TypeRef) (others : List TypeRef) (first second : List ℕ) (n : ℕ) → HaveFront n first second → KeyStands t levels kind (take n second)
      → EachRising t levels others (drop n first) (drop n second) → EachRising t levels (kind ∷ others) first second
  first_same kind others first second n (few, little, same) (m, typed, is) rise ks ls rest more (k, ks', e, h, hs) (l, ls', f, g, gs) p q =
      let one : first ≡ canonical k ++ (each_bytes ks' ++ rest) = p ∙ ap (λ (vs : Trees). each_bytes vs ++ rest) e ∙ append_assoc (canonical k) (each_bytes ks') rest in
      let other : second ≡ canonical l ++ (each_bytes ls' ++ more) = q ∙ ap (λ (vs : Trees). each_bytes vs ++ more) f ∙ append_assoc (canonical l) (each_bytes ls') more in
      let front : canonical m ++ drop n first ≡ first = ap (λ (x : List ℕ). x ++ drop n first) (sym (same ∙ is)) ∙ take-append-drop n first in
      let back : canonical m ++ drop n second ≡ second = ap (λ (x : List ℕ). x ++ drop n second) (sym is) ∙ take-append-drop n second in
      let a = key_apart t levels kind m k (drop n first) (each_bytes ks' ++ rest) typed h (front ∙ one) in
      let b = key_apart t levels kind m l (drop n second) (each_bytes ls' ++ more) typed g (back ∙ other) in
      let long : length (canonical m) ≡ n = ap length (sym is) ∙ length-take-le n second little in
      let left : drop n first ≡ each_bytes ks' ++ rest = ap (drop n) one ∙ drop_at (canonical k) (each_bytes ks' ++ rest) n (ap length (sym a.0) ∙ long) in
      let right : drop n second ≡ each_bytes ls' ++ more = ap (drop n) other ∙ drop_at (canonical l) (each_bytes ls' ++ more) n (ap length (sym b.0) ∙ long) in
      let equal : tree_cmp k l ≡ Equal = (λ i. tree_cmp (sym a.1 i) (sym b.1 i)) ∙ equal_self m in
      (λ i. trees_cmp (e i) (f i)) ∙ ap (λ (o : Ordering). ordering_then o (trees_cmp ks' ls')) equal ∙ rise ks' ls' rest more hs gs left right

  -- a struct, by its members
  pub struct_below : (place : ℕ) (d : StructDecl) (first second : List ℕ) → slice_get t.structs place ≡ Some d → EachRising t levels (kinds_of d.members) first second → AreRising t (suc levels) (kinds.Struct place) first second
  struct_below place d first second row rise k l rest more (e, at, ks, is, h) (f, there, ls, so, g) p q =
      let one = same e at in
      let other = same f there in
      (λ i. tree_cmp (is i) (so i))
      ∙ rise ks ls rest more (subst (λ (x : StructDecl). EachOf (HasType t no_reference levels) (kinds_of x.members) ks) one h) (subst (λ (x : StructDecl). EachOf (HasType t no_reference levels) (kinds_of x.members) ls) other g)
      (p ∙ ap (λ (v : Tree). canonical v ++ rest) is) (q ∙ ap (λ (v : Tree). canonical v ++ more) so)
    where
      same : (x : StructDecl) → slice_get t.structs place ≡ Some x → x ≡ d
      same x at = let e : Some x ≡ Some d = sym at ∙ row in cc
