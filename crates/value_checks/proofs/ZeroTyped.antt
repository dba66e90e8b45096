-- The value of zeros is of its type.
use Rattle.std.proofs.Common.{rules, ◌≡◌, ℕ, zero, suc, pos, ◌<◌, ◌^◌, false, List, [], ◌∷◌, map, refl, ap, arith, Option, None, Some}
use Rattle.std.specs.Prelude.{slice_get}
use Rattle.ice_types.specs.declared.kind.TypeRef.{TypeRef}
use Rattle.ice_types.specs.declared.kind.TypeRef.TheVariants as kinds
use Rattle.ice_types.specs.declared.declarations.Entry.{Entry}
use Rattle.ice_types.specs.declared.declarations.EnumDecl.{EnumDecl}
use Rattle.ice_types.specs.declared.declarations.StructDecl.{StructDecl}
use Rattle.ice_types.specs.declared.declarations.Member.{Member}
use Rattle.ice_types.specs.declared.measure.Measure.{Measure}
use Rattle.ice_types.specs.Tables.{Tables}
use Rattle.ice_types.specs.Rules.{IsSchema}
use Rattle.ice_types.specs.Fits.{EnumFits}
use Rattle.ice_types.specs.Measures.{measure, measured, measure_members, with_member, structure, enumeration, sequence_of, dictionary_of, struct_of}
use Rattle.ice_types.proofs.Levels.{found_by}
use Rattle.ice_encoding.specs.Enum.{HasNumber}
use Rattle.ice_encoding.specs.Tree.{Tree, struct, enumerator, none, no_entry}
use Rattle.ice_encoding.specs.Typed.{EachOf, Refers, HasType}
use Rattle.graph_arena.specs.View.{trees_of}
use Rattle.value_checks.specs.Zeros.{first_number, entries_in, members_in, zero_of}

-- ---- the first enumerator

has_first : (es : List Entry) → EnumFits es → HasNumber es (first_number es) × (first_number es < 2 ^ 31)
has_first [] fits = absurd (fits.0 refl)
has_first (e ∷ es) fits = ((0, e, omega arith, refl, refl), omega (arith, fits.2.0 0 e.number (omega arith)))

-- ---- the members of a struct

zeros_typed : (of : TypeRef → Option Measure) (One : TypeRef → Tree → Type 0) (zero_by : TypeRef → Tree) → ((kind : TypeRef) (m : Measure) → of kind ≡ Some m → One kind (zero_by kind))
    → (members : List Member) (m : Measure) → measure_members of members ≡ Some m → EachOf One (map (λ x. x.kind) members) (trees_of (map (λ x. zero_by x.kind) members))
zeros_typed of One zero_by one [] m e = refl
zeros_typed of One zero_by one (first ∷ others) m e =
    found_by (of first.kind) (λ a. measured (measure_members of others) (λ b. Some (with_member a b))) m e (λ a is rest.
    found_by (measure_members of others) (λ b. Some (with_member a b)) m rest (λ b are same.
    (zero_by first.kind, trees_of (map (λ x. zero_by x.kind) others), refl, one first.kind a is, zeros_typed of One zero_by one others b are)))

-- ---- each type that nests at most so deep

module _ (t : Tables) (rules_kept : IsSchema t) (Refer : Refers) (null : (declared : Option ℕ) → Refer.Held declared None) where
  pub zero_typed : (levels : ℕ) (kind : TypeRef) (m : Measure) → measure t levels kind ≡ Some m → HasType t Refer levels kind (zero_of t levels kind)
  unfolding measure zero_of
  zero_typed zero kind m e = absurd cc
  zero_typed (suc levels) kinds.Bool m e = (false, refl)
  zero_typed (suc levels) kinds.Byte m e = (0, omega arith, refl)
  zero_typed (suc levels) kinds.Short m e = (pos 0, search rules, refl)
  zero_typed (suc levels) kinds.Int m e = (pos 0, search rules, refl)
  zero_typed (suc levels) kinds.Long m e = (pos 0, search rules, refl)
  zero_typed (suc levels) kinds.Text m e = ([], ([], (refl, refl)), omega arith, refl)
  zero_typed (suc levels) (kinds.Seq at) m e =
      found_by (slice_get t.seqs at) (λ q. sequence_of (measure t levels q.element)) m e (λ q row rest. (q, row, none, refl, omega arith, tt))
  zero_typed (suc zero) (kinds.Dict at) m e = absurd cc
  zero_typed (suc (suc levels)) (kinds.Dict at) m e =
      found_by (slice_get t.dicts at) (λ d. dictionary_of (measure t levels d.key) (measure t levels d.value)) m e (λ d row rest. (d, row, no_entry, refl, omega arith, tt, tt))
  zero_typed (suc levels) (kinds.Struct at) m e =
      found_by (slice_get t.structs at) (λ d. struct_of (measure_members (measure t levels) d.members)) m e (λ d row rest.
      found_by (measure_members (measure t levels) d.members) (λ x. Some (structure x)) m rest (λ x are same. (
        d,
        row,
        trees_of (map (λ y. zero_of t levels y.kind) d.members),
        ap (λ (o : Option StructDecl). struct (trees_of (map (λ y. zero_of t levels y.kind) (members_in o)))) row,
        zeros_typed (measure t levels) (HasType t Refer levels) (zero_of t levels) (zero_typed levels) d.members x are,
      )))
  zero_typed (suc levels) (kinds.Enum at) m e =
      found_by (slice_get t.enums at) (λ _. Some enumeration) m e (λ x row same.
      let h = has_first x.entries (rules_kept.enums at x row) in
      (x, row, first_number x.entries, h.0, h.1, ap (λ (o : Option EnumDecl). enumerator (first_number (entries_in o))) row))
  zero_typed (suc levels) (kinds.Proxy at) m e = (None, search rules, refl)
  zero_typed (suc levels) (kinds.Class declared) m e = (None, null declared, refl)
