-- Ids that are collected.
use Rattle.std.proofs.Common.{ℕ, zero, suc, ◌≡◌, ◌<◌, ◌≤◌, ◌+◌, ◌⊎◌, inl, inr, Bool, true, false, List, [], ◌∷◌, map, length, Some, String, refl, sym, subst, ◌∙◌, arith}
use Rattle.std.specs.Prelude.{bytes_eq, slice_get, if◌then◌else◌}
use Rattle.std.specs.BTreeSet.{BTreeSet, contains_text}
use Rattle.std.proofs.lemmas.List.{length-map}
use Rattle.std.proofs.lemmas.Option.{slice_get_within}
use Rattle.std.proofs.lemmas.Slice.Eq.{bytes_eq-Decides}
use Rattle.ice_types.specs.declared.declarations.InterfaceDecl.{InterfaceDecl}
use Rattle.ice_types.specs.Tables.{Tables, HasId, interface_ids}
use Rattle.ice_types.specs.Inherited.{InterfaceIsA}
use Rattle.object_adapter.specs.Ids.{HasIdBefore, HoldsBefore, HoldsIds}
use Rattle.object_adapter.specs.Own.{id_in}
use Rattle.object_adapter.proofs.Below.{below_or_at}

split : (test n o : Bool) → n ≡ (if test then true else o) → n ≡ true → (test ≡ true) ⊎ (o ≡ true)
split true n o e y = inl refl
split false n o e y = inr (sym e ∙ y)

was_in : (test n o : Bool) → n ≡ (if test then true else o) → o ≡ true → n ≡ true
was_in true n o e y = e
was_in false n o e y = e ∙ y

is_in : (test n o : Bool) → n ≡ (if test then true else o) → test ≡ true → n ≡ true
is_in true n o e y = e
is_in false n o e y = absurd cc

-- the id of the interface at a place
pub id_there : (rows : List InterfaceDecl) (at : ℕ) → at < length rows → HasId (map (λ (r : InterfaceDecl). r.id) rows) (id_in (slice_get rows at)) at
id_there [] at lt = absurd (omega (arith, lt))
id_there (r ∷ rows) zero lt = refl
id_there (r ∷ rows) (suc at) lt = id_there rows at (omega (arith, lt))

module _ (t : Tables) (interface : ℕ) where
  wider : (at : ℕ) (id : List ℕ) → HasIdBefore t interface at id → HasIdBefore t interface (at + 1) id
  wider at id (inl object) = inl object
  wider at id (inr (k, lt, has, isa)) = inr (k, omega (arith, lt), has, isa)

  -- the interface at this place is one, and its id is added
  pub grown : {Y : Type 0} (at : ℕ) (key : List ℕ) (old new : BTreeSet (String Y)) → HasId (interface_ids t) key at → InterfaceIsA t.interfaces interface at → HoldsBefore t interface at old
      → ((other : List ℕ) → contains_text new other ≡ (if bytes_eq key other then true else contains_text old other)) → HoldsBefore t interface (at + 1) new
  grown at key old new has isa holds updates id = (
    λ there. elim (split (bytes_eq key id) (contains_text new id) (contains_text old id) (updates id) there) [
      | inl same ↦ inr (at, omega arith, subst (λ (x : List ℕ). HasId (interface_ids t) x at) ((bytes_eq-Decides key id).0 same) has, isa)
      | inr before ↦ wider at id ((holds id).0 before)
    ],
    λ is. elim is [
      | inl object ↦ was_in (bytes_eq key id) (contains_text new id) (contains_text old id) (updates id) ((holds id).1 (inl object))
      | inr found ↦ elim (below_or_at found.0 at (omega (arith, found.1))) [
        | inl less ↦ was_in (bytes_eq key id) (contains_text new id) (contains_text old id) (updates id) ((holds id).1 (inr (found.0, less, found.2, found.3)))
        | inr here ↦
            let both : Some key ≡ Some id = sym has ∙ subst (λ (n : ℕ). HasId (interface_ids t) id n) here found.2 in
            let same : key ≡ id = cc in
            is_in (bytes_eq key id) (contains_text new id) (contains_text old id) (updates id) ((bytes_eq-Decides key id).1 same)
      ]
    ],
  )

  -- it is none
  pub kept : {Y : Type 0} (at : ℕ) (ids : BTreeSet (String Y)) → (InterfaceIsA t.interfaces interface at → ⊥) → HoldsBefore t interface at ids → HoldsBefore t interface (at + 1) ids
  kept at ids none holds id = (
    λ there. wider at id ((holds id).0 there),
    λ is. elim is [
      | inl object ↦ (holds id).1 (inl object)
      | inr found ↦ elim (below_or_at found.0 at (omega (arith, found.1))) [
        | inl less ↦ (holds id).1 (inr (found.0, less, found.2, found.3))
        | inr here ↦ absurd (none (subst (λ (n : ℕ). InterfaceIsA t.interfaces interface n) here found.3))
      ]
    ],
  )

  -- all interfaces were looked at
  pub all_held : {Y : Type 0} (n : ℕ) (ids : BTreeSet (String Y)) → length t.interfaces ≤ n → HoldsBefore t interface n ids → HoldsIds t interface ids
  all_held n ids le holds id = (
    λ there. elim ((holds id).0 there) [
      | inl object ↦ inl object
      | inr found ↦ inr (found.0, found.2, found.3)
    ],
    λ is. elim is [
      | inl object ↦ (holds id).1 (inl object)
      | inr found ↦ (holds id).1 (inr (found.0, omega (arith, le, slice_get_within (interface_ids t) found.0 id found.1, length-map t.interfaces (λ (r : InterfaceDecl). r.id)), found.1, found.2))
    ],
  )
