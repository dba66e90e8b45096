-- JSON is read as what it notes, and as nothing else.
use Rattle.std.proofs.Common.{◌≡◌, ℕ, ℤ, pos, negsuc, zero, suc, ◌<◌, ◌-◌, ◌^◌, true, List, [], ◌∷◌, length, map, Option, Some, None, Ok, Err, refl, sym, ap, subst, ◌∙◌, arith}
use Rattle.std.specs.Prelude.{codes, slice_get, option_map, option_and_then, nat_lt, nat_le, nat_eq, ◌&&◌, FitsSigned}
use Rattle.std.specs.Int.{Width, w16, w32, w64}
use mir.Val.{hbits}
use Rattle.std.specs.Str.{is_utf8}
use Rattle.std.specs.Ordering.{nat_cmp, match_ordering}
use Rattle.std.specs.Cmp.Lexicographic.{slice_cmp}
use Rattle.std.specs.declared.cmp.Ordering.{Ordering}
use Rattle.std.specs.declared.cmp.Ordering.TheVariants.{Less, Equal, Greater}
use Rattle.std.proofs.lemmas.Map.Lookups.{exact_bytes}
use Rattle.serde_json.proofs.Views.{get_member-put}
use Rattle.std.proofs.lemmas.Str.{IsUtf8-from_is_utf8, is_utf8-from_IsUtf8}
use Rattle.std.proofs.lemmas.Bool.{ltb-true, lt-ltb, leb-true, le-leb, eqb-true, eq-eqb, and_parts}
use Rattle.std.proofs.lemmas.Option.{none-some, same_Some, cond_some}
use Rattle.serde_json.specs.Data.{Num, unsigned, negative, float, Data, null, boolean, number, string, array, object, Items, no_items, item, Members, no_members, member}
use Rattle.serde_json.specs.Find.{as_bool, as_number, as_str, as_array, as_object, as_integer, get_member}
use Rattle.serde_json.specs.Events.{items_len, members_len}
use Rattle.ice_types.specs.declared.kind.TypeRef.{TypeRef}
use Rattle.ice_types.specs.declared.kind.TypeRef.TheVariants as kinds
use Rattle.ice_types.specs.declared.declarations.Member.{Member}
use Rattle.ice_types.specs.declared.declarations.Entry.{Entry}
use Rattle.ice_types.specs.declared.proxy.Proxy.{Proxy}
use Rattle.ice_types.specs.declared.schema.TheConstants.{MOST_DEPTH}
use Rattle.ice_types.specs.Tables.{Tables}
use Rattle.ice_types.specs.Rules.{IsSchema}
use Rattle.ice_encoding.specs.Tree as tree
use Rattle.ice_encoding.specs.Tree.{Tree, Trees, none, Entries, no_entry}
use Rattle.ice_encoding.specs.Order.{has_key, insert}
use Rattle.ice_encoding.proofs.Order.{is_new, has_none}
use Rattle.ice_encoding.specs.Port.{size_of}
use Rattle.ice_proxy.specs.Looking.{Parsed}
use Rattle.ice_proxy.specs.Grammar.{proxy_text}
use Rattle.graph_json.specs.ValueNotation.{Noting, NotesInteger, NotesSigned, NotesEnumerator, NotesProxy, NotesName, NotesReference, NotesEach, NotesMembers, NotesPairs, NotesLevels, Notes, name_noted}
use Rattle.graph_json.specs.ReadingValues.{Read, where_true, fits, integer_of, some, number_named, enumerator_of, parsed, text_proxy, some_proxy_of, proxy_of, name_from, name_in, name_of, reference_of, signed_of, byte_from, text_from, each_of, members_of, pair_from, pair_of, both_of, where_new, pairs_of, few, whole, value_levels, noted_value}
use Rattle.graph_json.proofs.Shapes.{then_some, map_some, false_then, true_then, bool_is, number_is, str_is, array_is, object_is, pair_is}
use Rattle.graph_json.proofs.Names.{are_apart, named_found, named_only}

-- ---- numbers

fits_is : (w : Width) (z : ℤ) → fits w z ≡ true → FitsSigned w z
fits_is w (pos n) e = record { sfits = ltb-true n (2 ^ hbits w) e }
fits_is w (negsuc n) e = record { sfits = ltb-true n (2 ^ hbits w) e }

is_fits : (w : Width) (z : ℤ) → FitsSigned w z → fits w z ≡ true
is_fits w (pos n) h = lt-ltb n (2 ^ hbits w) h.sfits
is_fits w (negsuc n) h = lt-ltb n (2 ^ hbits w) h.sfits

integer_found : (d : Data) (z : ℤ) → integer_of d ≡ Some z → NotesInteger d z
integer_found d z e = let n = then_some (as_number d) as_integer z e in (n.0, number_is d n.0 n.1, n.2)

integer_only : (d : Data) (z : ℤ) → NotesInteger d z → integer_of d ≡ Some z
integer_only d z h = rw h.1 h.2

signed_found : (w : Width) (make : ℤ → Tree) (d : Data) (v : Tree) → signed_of w make d ≡ Some v → NotesSigned w make d v
signed_found w make d v e =
    let z = then_some (integer_of d) (λ z. where_true (fits w z) (make z)) v e in
    let f = cond_some (fits w z.0) (make z.0) v z.2 in
    (z.0, integer_found d z.0 z.1, fits_is w z.0 f.0, sym f.1)

signed_only : (w : Width) (make : ℤ → Tree) (d : Data) (v : Tree) → NotesSigned w make d v → signed_of w make d ≡ Some v
signed_only w make d v h = rw (integer_only d h.0 h.1, is_fits w h.0 h.2, h.3) refl

byte_found : (z : ℤ) (v : Tree) → byte_from z ≡ Some v → (n : ℕ) × (z ≡ pos n) × (n < 256) × (v ≡ tree.byte n)
byte_found (pos n) v e = let f = cond_some (nat_lt n 256) (tree.byte n) v e in (n, refl, ltb-true n 256 f.0, sym f.1)
byte_found (negsuc n) v e = absurd cc

byte_only : (n : ℕ) → n < 256 → byte_from (pos n) ≡ Some (tree.byte n)
byte_only n lt = let t : nat_lt n 256 ≡ true = lt-ltb n 256 lt in rw t refl

-- ---- enumerators, proxies, references

enumerator_found : (entries : List Entry) (d : Data) (v : Tree) → enumerator_of entries d ≡ Some v → (n : ℕ) × NotesEnumerator entries d n × (v ≡ tree.enumerator n)
enumerator_found entries d v e =
    let n = map_some (option_and_then (λ name. number_named name entries) (as_str d)) tree.enumerator v e in
    let name = then_some (as_str d) (λ name. number_named name entries) n.0 n.1 in
    (n.0, (name.0, str_is d name.0 name.1, named_found name.0 n.0 entries name.2), sym n.2)

parsed_is : {A : Type 0} (r : Parsed A) (x : A) → parsed r ≡ Some x → r ≡ Ok x
parsed_is {A} (Ok y) x e = ap (λ (z : A). ok z) (same_Some y x e)
  where
    ok : A → Parsed A
    ok z = Ok z
parsed_is (Err place) x e = absurd (none-some x e)

pub text_is : (text : List ℕ) (p : Proxy) → text_proxy text ≡ Some p → (length text < 2 ^ 30) × (proxy_text text ≡ Ok p)
text_is text p e =
    let short = true_then (nat_lt (length text) (2 ^ 30)) (parsed (proxy_text text)) p e in
    (ltb-true (length text) (2 ^ 30) short.0, parsed_is (proxy_text text) p short.1)

some_proxy_found : (s : List ℕ) (p : Option Proxy) → some_proxy_of (string s) ≡ Some p → NotesProxy (string s) p
some_proxy_found s p e =
    let q = map_some (text_proxy s) some p e in
    let is = text_is s q.0 q.1 in
    subst (NotesProxy (string s)) q.2 (s, refl, is.0, is.1)

proxy_found : (d : Data) (p : Option Proxy) → proxy_of d ≡ Some p → NotesProxy d p
proxy_found null p e = subst (NotesProxy null) (same_Some None p e) refl
proxy_found (boolean b) p e = absurd (none-some p e)
proxy_found (number n) p e = absurd (none-some p e)
proxy_found (string s) p e = some_proxy_found s p e
proxy_found (array ds) p e = absurd (none-some p e)
proxy_found (object ms) p e = absurd (none-some p e)

proxy_only : (d : Data) (p : Option Proxy) → NotesProxy d p → proxy_of d ≡ Some p
proxy_only d None h = rw h refl
proxy_only d (Some p) h = rw (h.1, lt-ltb (length h.0) (2 ^ 30) h.2, h.3) refl

name_is : (x : Num) (n : ℕ) → name_from x ≡ Some n → (size_of (Some n) < 2 ^ 31) × (x ≡ unsigned (suc (suc n)))
name_is (unsigned k) n e =
    let f = cond_some (nat_le 2 k && nat_le k (2 ^ 31)) (k - 2) n e in
    let both = and_parts (nat_le 2 k) (nat_le k (2 ^ 31)) f.0 in
    let low = leb-true 2 k both.0 in
    let high = leb-true k (2 ^ 31) both.1 in
    let is : k ≡ suc (suc n) = omega (arith, low, f.1) in
    (omega (arith, high, is), ap unsigned is)
name_is (negative z) n e = absurd (none-some n e)
name_is (float x) n e = absurd (none-some n e)

only_member_at : (o : Ordering) (k l : List ℕ) (e x : Data) → slice_cmp nat_cmp k l ≡ o → match_ordering o None (Some e) None ≡ Some x → member l e no_members ≡ member k x no_members
only_member_at Less k l e x is h = absurd (none-some x h)
only_member_at Equal k l e x is h = ap (λ (z : List ℕ). member z e no_members) (sym (exact_bytes k l is)) ∙ ap (λ (z : Data). member k z no_members) (same_Some e x h)
only_member_at Greater k l e x is h = absurd (none-some x h)

-- an object of one name, at which this stands
only_member : (k : List ℕ) (ms : Members) (x : Data) → members_len ms ≡ 1 → get_member k ms ≡ Some x → ms ≡ member k x no_members
only_member k no_members x one h = absurd (omega (arith, one))
only_member k (member l e no_members) x one h = only_member_at (slice_cmp nat_cmp k l) k l e x refl h
only_member k (member l e (member m f ms)) x one h = absurd (omega (arith, one))

pub name_found : (d : Data) (n : ℕ) → name_of d ≡ Some n → NotesName d n
name_found d n e =
    let o = then_some (as_object d) name_in n e in
    let one = true_then (nat_eq (members_len o.0) 1) (option_and_then (λ x. option_and_then name_from (as_number x)) (get_member (codes "$") o.0)) n o.2 in
    let x = then_some (get_member (codes "$") o.0) (λ x. option_and_then name_from (as_number x)) n one.1 in
    let k = then_some (as_number x.0) name_from n x.2 in
    let is = name_is k.0 n k.2 in
    let alone = only_member (codes "$") o.0 x.0 (eqb-true (members_len o.0) 1 one.0) x.1 in
    (is.0, object_is d o.0 o.1 ∙ ap object (alone ∙ ap (λ (y : Data). member (codes "$") y no_members) (number_is x.0 k.0 k.1 ∙ ap number is.1)))

pub name_only : (d : Data) (n : ℕ) → NotesName d n → name_of d ≡ Some n
name_only d n h =
    let x = number (unsigned (suc (suc n))) in
    let low : nat_le 2 (suc (suc n)) ≡ true = le-leb _ _ (omega arith) in
    let high : nat_le (suc (suc n)) (2 ^ 31) ≡ true = le-leb _ _ (omega (arith, h.0)) in
    let back : suc (suc n) - 2 ≡ n = omega arith in
    let there : name_of (name_noted n) ≡ name_from (unsigned (suc (suc n))) = ap (option_and_then (λ d. option_and_then name_from (as_number d))) (get_member-put (codes "$") x no_members) in
    ap name_of h.1 ∙ there ∙ rw (low, high, back) refl

reference_found : (d : Data) (n : Option ℕ) → reference_of d ≡ Some n → NotesReference d n
reference_found null n e = subst (NotesReference null) (same_Some None n e) refl
reference_found (boolean b) n e = absurd (none-some n e)
reference_found (number x) n e = absurd (none-some n e)
reference_found (string s) n e = absurd (none-some n e)
reference_found (array ds) n e = absurd (none-some n e)
reference_found (object ms) n e =
    let k = map_some (name_of (object ms)) some n e in
    subst (NotesReference (object ms)) k.2 (name_found (object ms) k.0 k.1)

reference_only : (d : Data) (n : Option ℕ) → NotesReference d n → reference_of d ≡ Some n
reference_only d None h = rw h refl
reference_only d (Some n) h = rw h.1 (ap (option_map some) (name_only (name_noted n) n (h.0, refl)))

-- ---- what is read is noted

abbrev pub Found : {A : Type 0} → Read A → Noting A → Type 0
Found {A} read Noted = (d : Data) (v : A) → read d ≡ Some v → Noted d v

abbrev pub Only : {A : Type 0} → Read A → Noting A → Type 0
Only {A} read Noted = (d : Data) (v : A) → Noted d v → read d ≡ Some v

each_found : (read : Read Tree) (One : Noting Tree) → Found read One → (ds : Items) (vs : Trees) → each_of read ds ≡ Some vs → NotesEach One ds vs
each_found read One one no_items vs e = sym (same_Some none vs e)
each_found read One one (item d ds) vs e =
    let v = then_some (read d) (λ v. option_map (tree.tree v) (each_of read ds)) vs e in
    let rest = map_some (each_of read ds) (tree.tree v.0) vs v.2 in
    (v.0, rest.0, sym rest.2, one d v.0 v.1, each_found read One one ds rest.0 rest.1)

each_only : (read : Read Tree) (One : Noting Tree) → Only read One → (ds : Items) (vs : Trees) → NotesEach One ds vs → each_of read ds ≡ Some vs
each_only read One one no_items vs h = rw h refl
each_only read One one (item d ds) vs h = rw (h.2, one d h.0 h.3, each_only read One one ds h.1 h.4) refl

pub members_found : (read : TypeRef → Read Tree) (One : TypeRef → Noting Tree) → ((kind : TypeRef) → Found (read kind) (One kind)) → (ms : List Member) (found : Members) (vs : Trees) → members_of read ms found ≡ Some vs → NotesMembers One ms found vs
members_found read One one [] found vs e = sym (same_Some none vs e)
members_found read One one (m ∷ ms) found vs e =
    let v = then_some (option_and_then (read m.kind) (get_member m.name found)) (λ v. option_map (tree.tree v) (members_of read ms found)) vs e in
    let d = then_some (get_member m.name found) (read m.kind) v.0 v.1 in
    let rest = map_some (members_of read ms found) (tree.tree v.0) vs v.2 in
    (d.0, v.0, rest.0, sym rest.2, d.1, one m.kind d.0 v.0 d.2, members_found read One one ms found rest.0 rest.1)

pub members_only : (read : TypeRef → Read Tree) (One : TypeRef → Noting Tree) → ((kind : TypeRef) → Only (read kind) (One kind)) → (ms : List Member) (found : Members) (vs : Trees) → NotesMembers One ms found vs → members_of read ms found ≡ Some vs
members_only read One one [] found vs h = rw h refl
members_only read One one (m ∷ ms) found vs h = rw (h.3, h.4, one m.kind h.0 h.1 h.5, members_only read One one ms found h.2 h.6) refl

pairs_found : (key held : Read Tree) (Key Held : Noting Tree) → Found key Key → Found held Held → (before : Entries) (ds : Items) (ps : Entries) → pairs_of key held before ds ≡ Some ps → NotesPairs Key Held before ds ps
pairs_found key held Key Held one two before no_items ps e = sym (same_Some before ps e)
pairs_found key held Key Held one two before (item d ds) ps e =
    let x = then_some (both_of key held d) (λ p. where_new (has_key p.0 before) (pairs_of key held (insert p.0 p.1 before) ds)) ps e in
    let new = false_then (has_key x.0.0 before) (pairs_of key held (insert x.0.0 x.0.1 before) ds) ps x.2 in
    let p = then_some (pair_of d) (λ p. option_and_then (λ k. option_map (λ v. (k, v)) (held p.1)) (key p.0)) x.0 x.1 in
    let a = then_some (as_array d) pair_from p.0 p.1 in
    let k = then_some (key p.0.0) (λ k. option_map (λ v. (k, v)) (held p.0.1)) x.0 p.2 in
    let v = map_some (held p.0.1) (λ v. (k.0, v)) x.0 k.2 in
    let same_key : k.0 ≡ x.0.0 = ap (λ (q : Tree × Tree). q.0) v.2 in
    let same_value : v.0 ≡ x.0.1 = ap (λ (q : Tree × Tree). q.1) v.2 in (
      p.0.0,
      p.0.1,
      x.0.0,
      x.0.1,
      array_is d a.0 a.1 ∙ pair_is a.0 p.0 a.2,
      subst (Key p.0.0) same_key (one p.0.0 k.0 k.1),
      is_new x.0.0 before new.0,
      subst (Held p.0.1) same_value (two p.0.1 v.0 v.1),
      pairs_found key held Key Held one two (insert x.0.0 x.0.1 before) ds ps new.1,
    )

pairs_only : (key held : Read Tree) (Key Held : Noting Tree) → Only key Key → Only held Held → (before : Entries) (ds : Items) (ps : Entries) → NotesPairs Key Held before ds ps → pairs_of key held before ds ≡ Some ps
pairs_only key held Key Held one two before no_items ps h = rw h refl
pairs_only key held Key Held one two before (item d ds) ps h =
    rw (h.4, one h.0 h.2 h.5, two h.1 h.3 h.7, has_none h.2 before h.6) (pairs_only key held Key Held one two (insert h.2 h.3 before) ds ps h.8)

module _ (t : Tables) where
  pub value_found : (levels : ℕ) (kind : TypeRef) → Found (value_levels t levels kind) (NotesLevels t levels kind)
  value_found zero kind d v e = absurd (none-some v e)
  value_found (suc n) kinds.Bool d v e = let b = map_some (as_bool d) tree.boolean v e in (b.0, bool_is d b.0 b.1, sym b.2)
  value_found (suc n) kinds.Byte d v e =
      let z = then_some (integer_of d) byte_from v e in
      let b = byte_found z.0 v z.2 in
      (b.0, integer_found d (pos b.0) (z.1 ∙ ap (λ (y : ℤ). Some y) b.1), b.2, b.3)
  value_found (suc n) kinds.Short d v e = signed_found w16 tree.short d v e
  value_found (suc n) kinds.Int d v e = signed_found w32 tree.int d v e
  value_found (suc n) kinds.Long d v e = signed_found w64 tree.long d v e
  value_found (suc n) kinds.Text d v e =
      let s = then_some (as_str d) text_from v e in
      let f = cond_some (is_utf8 s.0 && nat_lt (length s.0) (2 ^ 31)) (tree.text s.0) v s.2 in
      let both = and_parts (is_utf8 s.0) (nat_lt (length s.0) (2 ^ 31)) f.0 in
      (s.0, str_is d s.0 s.1, IsUtf8-from_is_utf8 s.0 both.0, ltb-true (length s.0) (2 ^ 31) both.1, sym f.1)
  value_found (suc n) (kinds.Seq at) d v e =
      let q = then_some (slice_get t.seqs at) (λ q. option_and_then (few (λ ds. option_map tree.sequence (each_of (value_levels t n q.element) ds))) (as_array d)) v e in
      let ds = then_some (as_array d) (few (λ ds. option_map tree.sequence (each_of (value_levels t n q.0.element) ds))) v q.2 in
      let size = true_then (nat_lt (items_len ds.0) (2 ^ 31)) (option_map tree.sequence (each_of (value_levels t n q.0.element) ds.0)) v ds.2 in
      let vs = map_some (each_of (value_levels t n q.0.element) ds.0) tree.sequence v size.1 in
      (q.0, q.1, ds.0, array_is d ds.0 ds.1, ltb-true (items_len ds.0) (2 ^ 31) size.0, vs.0, sym vs.2, each_found (value_levels t n q.0.element) (NotesLevels t n q.0.element) (value_found n q.0.element) ds.0 vs.0 vs.1)
  value_found (suc n) (kinds.Dict at) d v e =
      let r = then_some (slice_get t.dicts at) (λ r. option_and_then (few (λ ds. option_map tree.dictionary (pairs_of (value_levels t n r.key) (value_levels t n r.value) no_entry ds))) (as_array d)) v e in
      let ds = then_some (as_array d) (few (λ ds. option_map tree.dictionary (pairs_of (value_levels t n r.0.key) (value_levels t n r.0.value) no_entry ds))) v r.2 in
      let size = true_then (nat_lt (items_len ds.0) (2 ^ 31)) (option_map tree.dictionary (pairs_of (value_levels t n r.0.key) (value_levels t n r.0.value) no_entry ds.0)) v ds.2 in
      let ps = map_some (pairs_of (value_levels t n r.0.key) (value_levels t n r.0.value) no_entry ds.0) tree.dictionary v size.1 in (
        r.0,
        r.1,
        ds.0,
        array_is d ds.0 ds.1,
        ltb-true (items_len ds.0) (2 ^ 31) size.0,
        ps.0,
        sym ps.2,
        pairs_found (value_levels t n r.0.key) (value_levels t n r.0.value) (NotesLevels t n r.0.key) (NotesLevels t n r.0.value) (value_found n r.0.key) (value_found n r.0.value) no_entry ds.0 ps.0 ps.1,
      )
  value_found (suc n) (kinds.Struct at) d v e =
      let r = then_some (slice_get t.structs at) (λ r. option_and_then (whole (length r.members) (λ found. option_map tree.struct (members_of (value_levels t n) r.members found))) (as_object d)) v e in
      let o = then_some (as_object d) (whole (length r.0.members) (λ found. option_map tree.struct (members_of (value_levels t n) r.0.members found))) v r.2 in
      let size = true_then (nat_eq (members_len o.0) (length r.0.members)) (option_map tree.struct (members_of (value_levels t n) r.0.members o.0)) v o.2 in
      let vs = map_some (members_of (value_levels t n) r.0.members o.0) tree.struct v size.1 in
      (r.0, r.1, o.0, object_is d o.0 o.1, eqb-true (members_len o.0) (length r.0.members) size.0, vs.0, sym vs.2, members_found (value_levels t n) (NotesLevels t n) (value_found n) r.0.members o.0 vs.0 vs.1)
  value_found (suc n) (kinds.Enum at) d v e =
      let r = then_some (slice_get t.enums at) (λ r. enumerator_of r.entries d) v e in
      let found = enumerator_found r.0.entries d v r.2 in
      (r.0, r.1, found.0, found.1, found.2)
  value_found (suc n) (kinds.Proxy at) d v e = let p = map_some (proxy_of d) tree.proxy v e in (p.0, proxy_found d p.0 p.1, sym p.2)
  value_found (suc n) (kinds.Class declared) d v e = let r = map_some (reference_of d) tree.reference v e in (r.0, reference_found d r.0 r.1, sym r.2)

-- ---- what is noted is read

module _ (t : Tables) (rules : IsSchema t) where
  pub value_only : (levels : ℕ) (kind : TypeRef) → Only (value_levels t levels kind) (NotesLevels t levels kind)
  value_only zero kind d v h = absurd h
  value_only (suc n) kinds.Bool d v h = rw (h.1, h.2) refl
  value_only (suc n) kinds.Byte d v h = rw (integer_only d (pos h.0) h.1, h.3) (byte_only h.0 h.2)
  value_only (suc n) kinds.Short d v h = signed_only w16 tree.short d v h
  value_only (suc n) kinds.Int d v h = signed_only w32 tree.int d v h
  value_only (suc n) kinds.Long d v h = signed_only w64 tree.long d v h
  value_only (suc n) kinds.Text d v h = rw (h.1, h.4, is_utf8-from_IsUtf8 h.0 h.2, lt-ltb (length h.0) (2 ^ 31) h.3) refl
  value_only (suc n) (kinds.Seq at) d v h = rw (h.1, h.3, lt-ltb (items_len h.2) (2 ^ 31) h.4, h.6, each_only (value_levels t n h.0.element) (NotesLevels t n h.0.element) (value_only n h.0.element) h.2 h.5 h.7) refl
  value_only (suc n) (kinds.Dict at) d v h = rw (
    h.1,
    h.3,
    lt-ltb (items_len h.2) (2 ^ 31) h.4,
    h.6,
    pairs_only (value_levels t n h.0.key) (value_levels t n h.0.value) (NotesLevels t n h.0.key) (NotesLevels t n h.0.value) (value_only n h.0.key) (value_only n h.0.value) no_entry h.2 h.5 h.7,
  ) refl
  value_only (suc n) (kinds.Struct at) d v h = rw (h.1, h.3, eq-eqb (members_len h.2) (length h.0.members) h.4, h.6, members_only (value_levels t n) (NotesLevels t n) (value_only n) h.0.members h.2 h.5 h.7) refl
  value_only (suc n) (kinds.Enum at) d v h =
      let apart = are_apart [] (map (λ e. e.name) h.0.entries) (rules.enums at h.0 h.1).1 in
      rw (h.1, h.4, h.3.1, named_only h.3.0 h.2 h.0.entries apart h.3.2) refl
  value_only (suc n) (kinds.Proxy at) d v h = rw (proxy_only d h.0 h.1, h.2) refl
  value_only (suc n) (kinds.Class declared) d v h = rw (reference_only d h.0 h.1, h.2) refl

pub plain_found : (t : Tables) (kind : TypeRef) (d : Data) (v : Tree) → noted_value t kind d ≡ Some v → Notes t kind d v
unfolding noted_value Notes
plain_found t kind d v e = value_found t MOST_DEPTH kind d v e

pub plain_only : (t : Tables) (kind : TypeRef) (d : Data) (v : Tree) → IsSchema t → Notes t kind d v → noted_value t kind d ≡ Some v
unfolding noted_value Notes
plain_only t kind d v rules h = value_only t rules MOST_DEPTH kind d v h

pub plain_apart : (t : Tables) (kind : TypeRef) (d : Data) (v w : Tree) → IsSchema t → Notes t kind d v → Notes t kind d w → v ≡ w
plain_apart t kind d v w rules h g = same_Some v w (sym (plain_only t kind d v rules h) ∙ plain_only t kind d w rules g)
