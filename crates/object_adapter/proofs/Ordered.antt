-- The order of keys, and of identities among them.
use Rattle.std.proofs.Common.{ℕ, ◌≡◌, ◌<◌, ◌≤◌, ◌+◌, inl, inr, Bool, false, List, length, get_or, Some, Result, Ok, Err, refl, sym, ap, ◌∙◌, arith}
use Rattle.std.specs.Prelude.{◌↔◌, IsTrue, is_ok}
use Rattle.std.proofs.lemmas.Bool.{false≢true}
use Rattle.std.specs.List.Sorted.{IsSortedBy, IsSearchInRange, IsBinarySearchResult}
use Rattle.std.specs.Ordering.{is_lt, nat_cmp, ordering_then, ordering_reverse}
use Rattle.std.specs.Cmp.{IsTotalOrder, on_total, tied_itself}
use Rattle.std.specs.Cmp.Lexicographic.{slice_cmp, on_texts}
use Rattle.std.specs.declared.cmp.Ordering.{Ordering}
use Rattle.std.specs.declared.cmp.Ordering.TheVariants.{Less, Equal, Greater}
use Rattle.std.proofs.lemmas.Cmp.{then_total}
use Rattle.std.proofs.lemmas.List.Sorted.{searchable_from_sorted}
use Rattle.std.proofs.lemmas.Map.Lookups.{CmpEqualImpliesEq, exact_bytes}
use Rattle.std.proofs.lemmas.Option.{slice_get_within, slice_get-get_or, get_or_from_slice_get}
use Rattle.ice_types.specs.declared.identity.Identity.{Identity}
use Rattle.ice_encoding.specs.Proxies.{identity_cmp}
use Rattle.ice_encoding.proofs.Proxies.{then_equal}
use Rattle.object_adapter.specs.Rising.{IsSearched}
use Rattle.object_adapter.specs.Keys.{Key, KeysRise, HasIdentity, itself, key_cmp}
use Rattle.object_adapter.proofs.Rising.{there, searched, below_or_not}

pub identities_total : IsTotalOrder identity_cmp
identities_total = then_total (on_texts (λ i. i.name)) (on_texts (λ i. i.category))

pub keys_total : IsTotalOrder key_cmp
keys_total = then_total (on_total (λ k. k.0) identities_total) (on_texts (λ k. k.1))

pub identities_equal : CmpEqualImpliesEq identity_cmp
identities_equal a b e =
    let h = then_equal (slice_cmp nat_cmp a.name b.name) (slice_cmp nat_cmp a.category b.category) e in
    let name = exact_bytes a.name b.name h.0 in
    let category = exact_bytes a.category b.category h.1 in
    λ i. record { name = name i; category = category i }

pub keys_equal : CmpEqualImpliesEq key_cmp
keys_equal a b e =
    let h = then_equal (identity_cmp a.0 b.0) (slice_cmp nat_cmp a.1 b.1) e in
    let identity = identities_equal a.0 b.0 h.0 in
    let facet = exact_bytes a.1 b.1 h.1 in
    λ i. (identity i, facet i)

pub key_searched : (keys : List Key) (key : Key) (r : Result ℕ ℕ) → KeysRise keys → IsSearchInRange r (length keys) → IsBinarySearchResult (λ k. key_cmp k key) keys r → IsSearched key_cmp itself keys key r
key_searched keys key r = searched key_cmp keys_total itself keys key r keys_equal

-- where keys rise, their identities do not fall
not_below : (one facet other : Ordering) → other ≡ ordering_reverse one → ordering_then one facet ≡ Less → is_lt other ≡ false
not_below Less facet other is less = rw is refl
not_below Equal facet other is less = rw is refl
not_below Greater facet other is less = absurd cc

identities_sorted : (keys : List Key) → KeysRise keys → IsSortedBy (λ a b. is_lt (identity_cmp a.0 b.0)) keys
identities_sorted keys rises k d low high =
    let a = get_or keys k d in
    let b = get_or keys (k + 1) d in
    not_below (identity_cmp a.0 b.0) (slice_cmp nat_cmp a.1 b.1) (identity_cmp b.0 a.0) (identities_total.antisymm b.0 a.0)
    (rises k (k + 1) a b (omega arith) (slice_get-get_or keys k d (omega (arith, high))) (slice_get-get_or keys (k + 1) d high))

pub identity_there : (keys : List Key) (identity : Identity) (at : ℕ) → at < length keys → IsBinarySearchResult (λ k. identity_cmp k.0 identity) keys (Ok at) → HasIdentity keys identity
identity_there keys identity at within holds =
    let item = there keys at within in
    let same = identities_equal item.0.0 identity (ap (λ (k : Key). identity_cmp k.0 identity) (sym (get_or_from_slice_get keys at item.0 item.0 item.1)) ∙ holds item.0) in
    (at, item.0.1, item.1 ∙ ap (λ (i : Identity). Some (i, item.0.1)) same)

pub identity_not_there : (keys : List Key) (identity : Identity) (at : ℕ) → KeysRise keys → IsBinarySearchResult (λ k. identity_cmp k.0 identity) keys (Err at) → HasIdentity keys identity → ⊥
identity_not_there keys identity at rises parted has =
    let parts = parted (searchable_from_sorted identities_total (λ (k : Key). k.0) keys identity (identities_sorted keys rises)) in
    let key : Key = (identity, has.1) in
    let own = ap (λ (k : Key). identity_cmp k.0 identity) (get_or_from_slice_get keys has.0 key key has.2) in
    let equal : identity_cmp (get_or keys has.0 key).0 identity ≡ Equal = own ∙ tied_itself identities_total identity in
    neither keys identity at has.0 key (slice_get_within keys has.0 key has.2) (parts.0 has.0 key (omega arith)) (parts.1 has.0 key) equal
  where
    neither : (keys : List Key) (identity : Identity) (at k : ℕ) (key : Key) → k < length keys → (k < at → identity_cmp (get_or keys k key).0 identity ≡ Less)
        → (at ≤ k → k < length keys → identity_cmp (get_or keys k key).0 identity ≡ Greater) → identity_cmp (get_or keys k key).0 identity ≡ Equal → ⊥
    neither keys identity at k key within below above equal = elim (below_or_not k at) [
      | inl lt ↦ let both : Equal ≡ Less = sym equal ∙ below lt in cc
      | inr le ↦ let both : Equal ≡ Greater = sym equal ∙ above le within in cc
    ]

-- whether a binary search finds it
pub identity_found : (keys : List Key) (identity : Identity) (r : Result ℕ ℕ) (found : Bool) → found ≡ is_ok r → KeysRise keys → IsSearchInRange r (length keys)
    → IsBinarySearchResult (λ k. identity_cmp k.0 identity) keys r → IsTrue found ↔ HasIdentity keys identity
identity_found keys identity (Ok at) found is rises within holds = (λ yes. identity_there keys identity at within holds, λ has. is)
identity_found keys identity (Err at) found is rises within parted = (λ yes. absurd (false≢true (sym is ∙ yes)), λ has. absurd (identity_not_there keys identity at rises parted has))
