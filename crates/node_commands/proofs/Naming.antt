-- What TYPE names.
use Rattle.std.proofs.Common.{◌≡◌, ℕ, List, [], ◌∷◌, ◌++◌, Option, None, Some, codes, refl, sym, ap, subst, ◌∙◌, inl, inr}
use Rattle.std.specs.Prelude.{IfSome}
use Rattle.ice_types.specs.declared.kind.TypeRef.{TypeRef}
use Rattle.ice_types.specs.declared.kind.TypeRef.TheVariants as kinds
use Rattle.ice_types.specs.declared.kind.RowRef.TheVariants as rows
use Rattle.ice_types.specs.Tables.{Tables, Names, FindsKind, HasId, interface_ids}
use Rattle.ice_types.specs.Rules.{IsSchema}
use Rattle.node_commands.specs.Words.{Word}
use Rattle.node_commands.specs.TypeWords.{IsProxyWord, IsTypeWord}

module _ (t : Tables) (word : Word) where
  abbrev pub Only : (TypeRef → Type 0) → Option TypeRef → Type 0
  Only Is result = IfSome result (λ kind. (other : TypeRef) → Is other → other ≡ kind)

  pub type_only : (kind : TypeRef) → Names t word kind → ((other : TypeRef) → Names t word other → other ≡ kind) → (other : TypeRef) → IsTypeWord t word other → other ≡ kind
  type_only kind named only other (inl h) = only other h
  type_only kind named only other (inr h) = absurd (h.0 kind named)

  -- where no type has the word for its own
  pub as_proxy : (result : Option TypeRef) → ((other : TypeRef) → Names t word other → ⊥) → FindsKind (IsProxyWord t word) result → FindsKind (IsTypeWord t word) result
  as_proxy None none h = λ kind w. elim w [ inl named ↦ none kind named | inr proxy ↦ h kind proxy.1 ]
  as_proxy (Some kind) none h = inr (none, h)

  pub as_only_proxy : (result : Option TypeRef) → ((other : TypeRef) → Names t word other → ⊥) → Only (IsProxyWord t word) result → Only (IsTypeWord t word) result
  as_only_proxy None none h = tt
  as_only_proxy (Some kind) none h = λ other w. elim w [ inl named ↦ absurd (none other named) | inr proxy ↦ h other proxy.1 ]

-- the id of an interface stands at one place, and the word has one id before its `*`
pub one_front : (a b : List ℕ) (c : ℕ) → a ++ (c ∷ []) ≡ b ++ (c ∷ []) → a ≡ b
one_front [] [] c e = refl
one_front [] (y ∷ []) c e = absurd (cc e)
one_front [] (y ∷ (z ∷ ys)) c e = absurd (cc e)
one_front (x ∷ []) [] c e = absurd (cc e)
one_front (x ∷ (z ∷ xs)) [] c e = absurd (cc e)
one_front (x ∷ xs) (y ∷ ys) c e = cc (e, one_front xs ys c (cc e))

pub one_proxy : (t : Tables) (word id : List ℕ) (at : ℕ) → IsSchema t → word ≡ id ++ codes "*" → HasId (interface_ids t) id at → (other : TypeRef) → IsProxyWord t word other → other ≡ kinds.Proxy (Some at)
one_proxy t word id at rules is here other w =
    let same : w.0 ≡ id = one_front w.0 id 42 (sym w.2 ∙ is) in
    let rows_same : rows.Interface w.1 ≡ rows.Interface at = rules.apart id (rows.Interface w.1) (rows.Interface at) (subst (λ (x : List ℕ). HasId (interface_ids t) x w.1) same w.3) here in
    let place : w.1 ≡ at = cc rows_same in
    w.4 ∙ ap (λ (n : ℕ). kinds.Proxy (Some n)) place

-- the word ends with `*`, and no interface has the id before it
pub no_interface : (t : Tables) (word id : List ℕ) → word ≡ id ++ codes "*" → ((at : ℕ) → HasId (interface_ids t) id at → ⊥) → (kind : TypeRef) → IsProxyWord t word kind → ⊥
no_interface t word id is none kind w = none w.1 (subst (λ (x : List ℕ). HasId (interface_ids t) x w.1) (one_front w.0 id 42 (sym w.2 ∙ is)) w.3)
