-- A set of ids as the list of them, in order.
use Rattle.std.proofs.Common.{ℕ, zero, suc, ◌≡◌, ◌<◌, ◌≤◌, Bool, true, false, List, [], ◌∷◌, ◌++◌, length, map, Some, String, string_bytes, refl, sym, ap, ◌∙◌, arith, length-append}
use Rattle.std.specs.Prelude.{◌||◌, slice_get, nat_lt, if◌then◌else◌}
use Rattle.std.specs.Int.{w32, to_le_bytes}
use Rattle.std.specs.List.{flat_map, AllByRecursion, list_any}
use Rattle.std.specs.List.Sorted.{IsStrictlySortedBy}
use Rattle.std.specs.Ordering.{nat_cmp, is_eq}
use Rattle.std.specs.Cmp.Lexicographic.{slice_cmp}
use Rattle.std.specs.BTreeSet.{BTreeSet}
use Rattle.std.specs.String.{string_cmp}
use Rattle.std.specs.declared.cmp.Ordering.TheVariants.{Less}
use Rattle.std.specs.declared.alloc.Global.{Global}
use Rattle.std.proofs.lemmas.Map.Text.{is_eq-slice_cmp}
use Rattle.std.proofs.lemmas.Slice.Eq.{bytes_eq-Decides}
use Rattle.ice_types.specs.Tables.{Tables}
use Rattle.ice_prims.specs.Bytes.{size_bytes, text_bytes}
use Rattle.object_adapter.specs.Ids.{HoldsIds}
use Rattle.object_adapter.specs.Own.{AreIds, IsListed, texts_bytes}

-- ---- the same ids

abbrev is_text : {Y : Type 0} → List ℕ → String Y → Bool
is_text id k = is_eq (slice_cmp nat_cmp id (string_bytes k))

listed_at : {Y : Type 0} (k : String Y) (ks : List (String Y)) (id : List ℕ) → (list_any (is_text id) ks ≡ true → IsListed (map string_bytes ks) id)
    → (b : Bool) → is_text id k ≡ b → (b || list_any (is_text id) ks) ≡ true → IsListed (map string_bytes (k ∷ ks)) id
listed_at k ks id behind true is e = (zero, ap Some (sym ((bytes_eq-Decides id (string_bytes k)).0 (sym (is_eq-slice_cmp id (string_bytes k)) ∙ is))))
listed_at k ks id behind false is e = let rest = behind e in (suc rest.0, rest.1)

listed : {Y : Type 0} (keys : List (String Y)) (id : List ℕ) → list_any (is_text id) keys ≡ true → IsListed (map string_bytes keys) id
listed [] id e = absurd cc
listed (k ∷ ks) id e = listed_at k ks id (listed ks id) (is_text id k) refl e

or_true : (b r : Bool) → r ≡ true → (b || r) ≡ true
or_true true r e = refl
or_true false r e = e

held : {Y : Type 0} (keys : List (String Y)) (id : List ℕ) (at : ℕ) → slice_get (map string_bytes keys) at ≡ Some id → list_any (is_text id) keys ≡ true
held [] id at e = absurd cc
held (k ∷ ks) id zero e =
    let same : id ≡ string_bytes k = cc in
    ap (λ (b : Bool). b || list_any (is_text id) ks) (is_eq-slice_cmp id (string_bytes k) ∙ (bytes_eq-Decides id (string_bytes k)).1 same)
held (k ∷ ks) id (suc at) e = or_true (is_text id k) (list_any (is_text id) ks) (held ks id at e)

-- ---- in order

above : (k : String Global) (ks : List (String Global)) → AllByRecursion (λ y. string_cmp k y ≡ Less) ks → AllByRecursion (λ y. slice_cmp nat_cmp (string_bytes k) y ≡ Less) (map string_bytes ks)
above k [] h = tt
above k (l ∷ ls) h = (h.0, above k ls h.1)

strictly : (keys : List (String Global)) → IsStrictlySortedBy string_cmp keys → IsStrictlySortedBy (slice_cmp nat_cmp) (map string_bytes keys)
unfolding IsStrictlySortedBy
strictly [] h = tt
strictly (k ∷ ks) h = (above k ks h.0, strictly ks h.1)

pub ids_listed : (t : Tables) (interface : ℕ) (ids : BTreeSet (String Global)) → IsStrictlySortedBy string_cmp ids.keys → HoldsIds t interface ids → AreIds t interface (map string_bytes ids.keys)
ids_listed t interface ids sorted holds = (strictly ids.keys sorted, λ id. (λ has. (holds id).0 (held ids.keys id has.0 has.1), λ is. listed ids.keys id ((holds id).1 is)))

-- ---- their bytes

some_size : (b : Bool) (n : ℕ) → 1 ≤ length (if b then n ∷ [] else 255 ∷ to_le_bytes w32 n)
some_size true n = omega arith
some_size false n = omega arith

-- each has a byte at least
pub as_many : (texts : List (List ℕ)) → length texts ≤ length (flat_map text_bytes texts)
as_many [] = omega arith
as_many (s ∷ ss) = omega (arith, as_many ss, some_size (nat_lt (length s) 255) (length s), length-append (size_bytes (length s)) s, length-append (text_bytes s) (flat_map text_bytes ss))

-- and as many as it is long
pub as_long : (s : List ℕ) (ss : List (List ℕ)) → length s ≤ length (flat_map text_bytes (s ∷ ss))
as_long s ss = omega (arith, length-append (size_bytes (length s)) s, length-append (text_bytes s) (flat_map text_bytes ss))

-- so these are too many bytes
pub too_many : (limit : ℕ) (texts : List (List ℕ)) → limit < length texts → limit < length (texts_bytes texts)
too_many limit texts many = omega (arith, many, as_many texts, length-append (size_bytes (length texts)) (flat_map text_bytes texts))

pub too_long : (limit : ℕ) (texts : List (List ℕ)) → limit < length (flat_map text_bytes texts) → limit < length (texts_bytes texts)
too_long limit texts long = omega (arith, long, length-append (size_bytes (length texts)) (flat_map text_bytes texts))

-- a size, and then the texts
pub all_put : (out first start : List ℕ) (n : ℕ) (texts : List (List ℕ)) → out ≡ first ++ flat_map text_bytes texts → first ≡ start ++ size_bytes n → start ≡ [] → n ≡ length texts → out ≡ texts_bytes texts
all_put out first start n texts is begins none many = rw (is, begins, none, many) refl
