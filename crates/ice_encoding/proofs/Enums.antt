-- An enumerator is read as it is spelled, and nothing else is.
use Rattle.std.proofs.Common.{◌≡◌, ℕ, true, List, Ok, refl, subst, inl, inr}
use Rattle.std.specs.Prelude.{nat_eq, if◌then◌else◌}
use Rattle.std.specs.Cmp.{unsigned_Decides}
use Rattle.std.proofs.lemmas.List.Folds.{Any-from_list_any, list_any-from_Any}
use Rattle.ice_types.specs.declared.declarations.Entry.{Entry}
use Rattle.ice_prims.specs.declared.fault.Kind.TheVariants.{BadEnum}
use Rattle.ice_prims.specs.Rest.{Rest, fault, Took}
use Rattle.ice_prims.specs.Number.{size_at}
use Rattle.ice_prims.specs.Laws.{FoundPart, OnlyPart}
use Rattle.ice_prims.proofs.Parts.{then_ok, ok_is, chosen}
use Rattle.ice_prims.proofs.Numbers.{size_found, size_only}
use Rattle.ice_encoding.specs.Enum.{HasNumber, has_number, SpellsEnumerator, enumerator_at}

module _ (entries : List Entry) where
  is_listed : (n : ℕ) → has_number entries n ≡ true → HasNumber entries n
  is_listed n e =
      let h = Any-from_list_any (λ x. nat_eq x.number n) entries e in
      (h.0, h.1, h.2, h.3, (unsigned_Decides h.1.number n).0 h.4)

  listed_is : (n : ℕ) → HasNumber entries n → has_number entries n ≡ true
  listed_is n h = list_any-from_Any (λ x. nat_eq x.number n) entries (h.0, h.1, h.2, h.3, (unsigned_Decides h.1.number n).1 h.4)

  pub enumerator_found : FoundPart (enumerator_at entries) (SpellsEnumerator entries)
  enumerator_found r x fits e =
      then_ok (size_at r) (λ n. if has_number entries n.0 then Ok n else fault r.place BadEnum) x e λ n n_is last.
      elim (chosen (has_number entries n.0) (Ok n) (fault r.place BadEnum) (Ok x) last) [
        | inl c ↦
            let f = size_found r n fits n_is in
            subst (λ (y : ℕ × Rest). (bytes : List ℕ) × Took r bytes y.1 × SpellsEnumerator entries bytes y.0) (ok_is n x c.1) (f.0, f.1, (f.2, is_listed n.0 c.0))
        | inr c ↦ absurd cc
      ]

  pub enumerator_only : OnlyPart (enumerator_at entries) (SpellsEnumerator entries)
  enumerator_only r s bytes v k h = rw (size_only r s bytes v k h.0, listed_is v h.1) refl
