-- What a schema keeps of compact ids.
use Rattle.std.proofs.Common.{◌≡◌, ℕ, zero, suc, ◌+◌, ◌<◌, ◌≤◌, Bool, true, false, cond, List, [], ◌∷◌, ◌++◌, length, map, Option, Some, None, refl, sym, ap, subst, ◌∙◌, arith, inl, inr, ◌⊎◌}
use Rattle.std.specs.Prelude.{slice_get, IsTrue, nat_eq}
use Rattle.std.proofs.lemmas.Bool.{eqb-true, eq-eqb}
use Rattle.std.proofs.lemmas.List.{length-append, map-append}
use Rattle.ice_types.specs.declared.declarations.ClassDecl.{ClassDecl}
use Rattle.ice_types.specs.declared.declarations.Member.{Member}
use Rattle.ice_types.specs.Tables.{Tables, changed, define_class, with_class, is_defined, compact_ids, HasCompactId, IsNewCompactId, Finds}
use Rattle.ice_types.specs.Fits.{CompactIdFits}
use Rattle.ice_types.specs.Rules.{IsSchema, defined}
use Rattle.ice_types.specs.Ids.{AreNumbered}
use Rattle.ice_types.proofs.Items.{slice_get-front, slice_get-push, length-changed, map-changed, get_other, get_changed, where_from}
use Rattle.ice_types.proofs.BaseChains.{get_within}
use Rattle.ice_types.proofs.Flags.{flag_front, flag_stays, defined_more, defined_most, another, now_defined}

-- within the limit, none of two classes
pub record AreCompactIds (ids : List (Option ℕ)) : Type 0 where
  pub most : (number at : ℕ) → slice_get ids at ≡ Some (Some number) → number ≤ 2147483647
  pub apart : (number a b : ℕ) → slice_get ids a ≡ Some (Some number) → slice_get ids b ≡ Some (Some number) → a ≡ b

pub compact_of : (t : Tables) → IsSchema t → AreCompactIds (compact_ids t)
compact_of t kept = record { most = kept.compact_ids; apart = kept.compact_apart }

-- a compact id that may be added
pub fits_at : (t : Tables) (compact : Option ℕ) → CompactIdFits t compact → (number : ℕ) → compact ≡ Some number → (number ≤ 2147483647) × IsNewCompactId t number
fits_at t None fits number e = absurd cc
fits_at t (Some own) fits number e = subst (λ (n : ℕ). (n ≤ 2147483647) × IsNewCompactId t n) (some_is own number e) fits
  where
    some_is : (m n : ℕ) → Some m ≡ Some n → m ≡ n
    some_is m n e = cc

-- of other rows it says nothing
pub numbered_same : {t u : Tables} {class_of : ℕ → Option ℕ} {room : ℕ} → t.classes ≡ u.classes → t.defined_classes ≡ u.defined_classes → AreNumbered t class_of room → AreNumbered u class_of room
numbered_same {t} {u} {class_of} {room} classes flags was = record {
  found = rw (← classes) was.found;
  declared = rw (← classes, ← flags) was.declared;
  enough = rw (← classes, ← flags) was.enough;
}

-- with more room
pub roomier : {t : Tables} {class_of now : ℕ → Option ℕ} {was_room room : ℕ} → ((number : ℕ) → now number ≡ class_of number) → was_room ≤ room → AreNumbered t class_of was_room → AreNumbered t now room
roomier {t} {class_of} {now} {was_room} {room} same more was = record {
  found = λ number. subst (Finds (HasCompactId t number)) (sym (same number)) (was.found number);
  declared = was.declared;
  enough = omega (arith, more, was.enough);
}

-- ---- a class that is only declared

among_old : (ids : List (Option ℕ)) (number at : ℕ) → slice_get (ids ++ None ∷ []) at ≡ Some (Some number) → slice_get ids at ≡ Some (Some number)
among_old ids number at h = elim (slice_get-push ids None at (Some number) h) [
  | inl there ↦ there
  | inr last ↦ absurd (none_some number last.1)
]
  where
    none_some : (n : ℕ) → None ≡ Some n → ⊥
    none_some n e = cc

module _ (t : Tables) (id : List ℕ) where
  ids_declared : compact_ids (with_class t id) ≡ compact_ids t ++ None ∷ []
  ids_declared = map-append (λ (c : ClassDecl). c.compact) t.classes (record { id = id; base = None; compact = None; members = [] } ∷ [])

  was_there : (number at : ℕ) → HasCompactId (with_class t id) number at → HasCompactId t number at
  was_there number at h = among_old (compact_ids t) number at (subst (λ (ids : List (Option ℕ)). slice_get ids at ≡ Some (Some number)) ids_declared h)

  is_there : (number at : ℕ) → HasCompactId t number at → HasCompactId (with_class t id) number at
  is_there number at h = subst (λ (ids : List (Option ℕ)). slice_get ids at ≡ Some (Some number)) (sym ids_declared) (slice_get-front (compact_ids t) (None ∷ []) at (Some number) h)

  pub compact_declared : AreCompactIds (compact_ids t) → AreCompactIds (compact_ids (with_class t id))
  compact_declared kept = record {
    most = λ number at h. kept.most number at (was_there number at h);
    apart = λ number a b h i. kept.apart number a b (was_there number a h) (was_there number b i);
  }

  pub numbered_declared : (class_of now : ℕ → Option ℕ) (old room : ℕ) → AreNumbered t class_of old → ((number : ℕ) → now number ≡ class_of number) → length t.classes + 1 ≤ room → AreNumbered (with_class t id) now room
  numbered_declared class_of now old room was same enough = record {
    found = λ number. subst (Finds (HasCompactId (with_class t id) number)) (sym (same number)) (by_class number (class_of number) (was.found number));
    declared = λ number at h. flag_front t.defined_classes at (was.declared number at (was_there number at h));
    enough = omega (arith, enough, length-append t.classes (record { id = id; base = None; compact = None; members = [] } ∷ []));
  }
    where
      by_class : (number : ℕ) (class : Option ℕ) → Finds (HasCompactId t number) class → Finds (HasCompactId (with_class t id) number) class
      by_class number None none = λ at h. none at (was_there number at h)
      by_class number (Some at) there = is_there number at there

-- ---- a class that is defined

where_changed : (ids : List (Option ℕ)) (at : ℕ) (compact : Option ℕ) (number other : ℕ) → slice_get (changed (λ _. compact) ids at) other ≡ Some (Some number)
    → (slice_get ids other ≡ Some (Some number)) ⊎ ((other ≡ at) × (compact ≡ Some number))
where_changed ids at compact number other h = elim (where_from (λ _. compact) ids at other (Some number) h) [
  | inl old ↦ inl old.1
  | inr new ↦ inr (new.0, new.1.2)
]

module _ (t : Tables) (at : ℕ) (base compact : Option ℕ) (members : List Member) where
  abbrev after : Tables
  after = define_class t at base compact members

  ids_defined : compact_ids after ≡ changed (λ _. compact) (compact_ids t) at
  ids_defined = map-changed (λ (c : ClassDecl). c.compact) (λ (c : ClassDecl). record { id = c.id; base = base; compact = compact; members = members }) (λ _. compact) (λ c. refl) t.classes at

  was_or : (number other : ℕ) → HasCompactId after number other → HasCompactId t number other ⊎ ((other ≡ at) × (compact ≡ Some number))
  was_or number other h = where_changed (compact_ids t) at compact number other (subst (λ (ids : List (Option ℕ)). slice_get ids other ≡ Some (Some number)) ids_defined h)

  pub compact_defined : AreCompactIds (compact_ids t) → CompactIdFits t compact → AreCompactIds (compact_ids after)
  compact_defined kept fits = record { most = most; apart = apart }
    where
      most : (number other : ℕ) → HasCompactId after number other → number ≤ 2147483647
      most number other h = elim (was_or number other h) [
        | inl old ↦ kept.most number other old
        | inr new ↦ (fits_at t compact fits number new.1).0
      ]

      apart : (number a b : ℕ) → HasCompactId after number a → HasCompactId after number b → a ≡ b
      apart number a b h i = elim (was_or number a h) [
        | inl old ↦ elim (was_or number b i) [
          | inl older ↦ kept.apart number a b old older
          | inr new ↦ absurd ((fits_at t compact fits number new.1).1 a old)
        ]
        | inr new ↦ elim (was_or number b i) [
          | inl older ↦ absurd ((fits_at t compact fits number new.1).1 b older)
          | inr same ↦ new.0 ∙ sym same.0
        ]
      ]

  module _ (there : at < length t.classes) (not_yet : is_defined t.defined_classes at ≡ false) (flags : length t.defined_classes ≡ length t.classes) (class_of : ℕ → Option ℕ) (old : ℕ) (was : AreNumbered t class_of old) where
    -- a class that is defined now had no compact id before
    is_still : (number other : ℕ) → HasCompactId t number other → HasCompactId after number other
    is_still number other h = subst (λ (ids : List (Option ℕ)). slice_get ids other ≡ Some (Some number)) (sym ids_defined)
        (get_other (λ _. compact) (compact_ids t) at other (another t.defined_classes at other not_yet (was.declared number other h)) ∙ h)

    has_new : (number : ℕ) → compact ≡ Some number → HasCompactId after number at
    has_new number is =
        let row = get_within t.classes at there in
        ap (λ (l : List ClassDecl). slice_get (map (λ c. c.compact) l) at) refl
        ∙ mapped (changed (λ (c : ClassDecl). record { id = c.id; base = base; compact = compact; members = members }) t.classes at) (record { id = row.0.id; base = base; compact = compact; members = members })
        (get_changed (λ (c : ClassDecl). record { id = c.id; base = base; compact = compact; members = members }) t.classes at row.0 row.1) ∙ ap Some is
      where
        mapped : (classes : List ClassDecl) (c : ClassDecl) → slice_get classes at ≡ Some c → slice_get (map (λ (c : ClassDecl). c.compact) classes) at ≡ Some c.compact
        mapped classes c e = by_place classes at e
          where
            by_place : (classes : List ClassDecl) (at : ℕ) → slice_get classes at ≡ Some c → slice_get (map (λ (c : ClassDecl). c.compact) classes) at ≡ Some c.compact
            by_place [] at e = absurd cc
            by_place (d ∷ ds) zero e = let same : d ≡ c = cc in ap (λ (c : ClassDecl). Some c.compact) same
            by_place (d ∷ ds) (suc at) e = by_place ds at e

    declared : (number other : ℕ) → HasCompactId after number other → IsTrue (is_defined (changed (λ _. true) t.defined_classes at) other)
    declared number other h = elim (was_or number other h) [
      | inl older ↦ flag_stays t.defined_classes at other (was.declared number other older)
      | inr new ↦ subst (λ (place : ℕ). IsTrue (is_defined (changed (λ _. true) t.defined_classes at) place)) (sym new.0) (now_defined t.defined_classes at (omega (arith, there, flags)))
    ]

    -- there is room for one
    pub one_more : 0 < old
    one_more = omega (arith, was.enough, defined_more t.defined_classes at (omega (arith, there, flags)) not_yet, defined_most (changed (λ _. true) t.defined_classes at), length-changed (λ _. true) t.defined_classes at, flags)

    enough : (room : ℕ) → old ≤ room + 1 → length after.classes ≤ defined after.defined_classes + room
    enough room room_is = omega (
      arith,
      was.enough,
      room_is,
      defined_more t.defined_classes at (omega (arith, there, flags)) not_yet,
      length-changed (λ (c : ClassDecl). record { id = c.id; base = base; compact = compact; members = members }) t.classes at,
    )

    -- without a compact id
    pub numbered_without : compact ≡ None → AreNumbered after class_of old
    numbered_without none = record {
      found = λ number. by_class number (class_of number) (was.found number);
      declared = declared;
      enough = enough old (omega arith);
    }
      where
        no_number : (number : ℕ) → compact ≡ Some number → ⊥
        no_number number e = clash (sym none ∙ e)
          where
            clash : None ≡ Some number → ⊥
            clash e = cc

        by_class : (number : ℕ) (class : Option ℕ) → Finds (HasCompactId t number) class → Finds (HasCompactId after number) class
        by_class number None nowhere = λ other h. elim (was_or number other h) [ inl older ↦ nowhere other older | inr new ↦ no_number number new.1 ]
        by_class number (Some other) is = is_still number other is

    -- with one, which is held
    pub numbered_with : (own : ℕ) → compact ≡ Some own → (now : ℕ → Option ℕ) (room : ℕ) → ((number : ℕ) → now number ≡ cond (nat_eq own number) (Some at) (class_of number)) → old ≤ room + 1 → AreNumbered after now room
    numbered_with own is now room put room_is = record {
      found = λ number. by_test number (nat_eq own number) refl;
      declared = declared;
      enough = enough room room_is;
    }
      where
        by_class : (number : ℕ) → nat_eq own number ≡ false → (class : Option ℕ) → Finds (HasCompactId t number) class → Finds (HasCompactId after number) class
        by_class number differ None nowhere = λ other h. elim (was_or number other h) [
          | inl older ↦ nowhere other older
          | inr new ↦ clash (nat_eq own number) (eq-eqb own number (some_is own number (sym is ∙ new.1))) differ
        ]
          where
            some_is : (m n : ℕ) → Some m ≡ Some n → m ≡ n
            some_is m n e = cc

            clash : (b : Bool) → b ≡ true → b ≡ false → ⊥
            clash b p q = cc
        by_class number differ (Some other) there = is_still number other there

        by_test : (number : ℕ) (b : Bool) → nat_eq own number ≡ b → Finds (HasCompactId after number) (now number)
        by_test number true same = subst (Finds (HasCompactId after number)) (sym (put number ∙ ap (λ (b : Bool). cond b (Some at) (class_of number)) same)) (has_new number (is ∙ ap Some (eqb-true own number same)))
        by_test number false differ = subst (Finds (HasCompactId after number)) (sym (put number ∙ ap (λ (b : Bool). cond b (Some at) (class_of number)) differ)) (by_class number differ (class_of number) (was.found number))
