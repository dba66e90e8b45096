-- A type of a schema can be read at every number of levels within which it nests, if at any.
use Rattle.std.proofs.Common.{ℕ, zero, suc, ◌+◌, ◌<◌, ◌≡◌, Bool, IsTrue, List, [], ◌∷◌, ◌≤◌, refl, sym, ◌∙◌, subst, arith, max, ◌&&◌, Option, Some}
use Rattle.std.specs.Prelude.{◌↔◌, slice_get}
use Rattle.ice_types.specs.declared.kind.TypeRef.{TypeRef}
use Rattle.ice_types.specs.declared.kind.TypeRef.TheVariants as kinds
use Rattle.ice_types.specs.declared.declarations.Member.{Member}
use Rattle.ice_types.specs.declared.measure.Measure.{Measure}
use Rattle.ice_types.specs.Tables.{Tables}
use Rattle.ice_types.specs.Measures.{measure, measured, measure_members, with_member, sequence_of, dictionary_of, struct_of, container, structure}
use Rattle.ice_types.proofs.Levels.{found_by, measure_more}
use Rattle.ice_types.specs.declared.schema.TheConstants.{MOST_DEPTH}
use Rattle.ice_types.specs.Lacking.{BothAre}
use Rattle.slice_compat.specs.Reading.{Reads, ReadsMembers, ReadsStruct, ReadsWithin}

same_row : {A : Type 0} (o : Option A) (x y : A) → o ≡ Some x → o ≡ Some y → x ≡ y
same_row o x y e f = let both : Some x ≡ Some y = sym e ∙ f in cc

module _ (t u : Tables) where
  members_suffice : (One Two : TypeRef → TypeRef → Type 0) (of : TypeRef → Option Measure) → ((k l : TypeRef) (m : Measure) → of k ≡ Some m → One k l → Two k l)
      → (ms ns : List Member) (m : Measure) → measure_members of ms ≡ Some m → ReadsMembers t u One ms ns → ReadsMembers t u Two ms ns
  members_suffice One Two of one [] [] m e h = tt
  members_suffice One Two of one [] (n ∷ ns) m e h = absurd h
  members_suffice One Two of one (x ∷ ms) [] m e h = absurd h
  members_suffice One Two of one (x ∷ ms) (n ∷ ns) m e h =
      found_by (of x.kind) (λ first. measured (measure_members of ms) (λ others. Some (with_member first others))) m e λ first first_is rest.
      found_by (measure_members of ms) (λ others. Some (with_member first others)) m rest λ others others_is last.
      (one x.kind n.kind first first_is h.0, members_suffice One Two of one ms ns others others_is h.1)

  pub levels_suffice : (n levels : ℕ) (k l : TypeRef) (m : Measure) → measure t levels k ≡ Some m → ReadsWithin t u n k l → ReadsWithin t u levels k l
  unfolding measure
  levels_suffice zero levels k l m e h = absurd h
  levels_suffice (suc n) zero k l m e h = absurd cc
  levels_suffice (suc n) (suc levels) kinds.Bool l m e h = h
  levels_suffice (suc n) (suc levels) kinds.Byte l m e h = h
  levels_suffice (suc n) (suc levels) kinds.Short l m e h = h
  levels_suffice (suc n) (suc levels) kinds.Int l m e h = h
  levels_suffice (suc n) (suc levels) kinds.Long l m e h = h
  levels_suffice (suc n) (suc levels) kinds.Text l m e h = h
  levels_suffice (suc n) (suc levels) (kinds.Enum a) l m e h = h
  levels_suffice (suc n) (suc levels) (kinds.Proxy a) l m e h = h
  levels_suffice (suc n) (suc levels) (kinds.Class a) l m e h = h
  levels_suffice (suc n) (suc levels) (kinds.Seq a) l m e (b, is, (q, r, here, there, one)) =
      found_by (slice_get t.seqs a) (λ q. sequence_of (measure t levels q.element)) m e λ x row parts.
      found_by (measure t levels x.element) (λ y. Some (container (suc y.depth) y.is_built)) m parts λ y y_is last.
      (b, is, (q, r, here, there, levels_suffice n levels q.element r.element y (subst (λ (z : _). measure t levels z.element ≡ Some y) (same_row (slice_get t.seqs a) x q row here) y_is) one))
  levels_suffice (suc n) (suc zero) (kinds.Dict a) l m e h = absurd cc
  levels_suffice (suc n) (suc (suc levels)) (kinds.Dict a) l m e (b, is, (d, r, here, there, (key, value))) =
      found_by (slice_get t.dicts a) (λ d. dictionary_of (measure t levels d.key) (measure t levels d.value)) m e λ x row parts.
      found_by (measure t levels x.key) (λ k. measured (measure t levels x.value) (λ v. Some (container (suc (suc (max k.depth v.depth))) (k.is_built && v.is_built)))) m parts λ k k_is more.
      found_by (measure t levels x.value) (λ v. Some (container (suc (suc (max k.depth v.depth))) (k.is_built && v.is_built))) m more λ v v_is last.
      let same = same_row (slice_get t.dicts a) x d row here in
      let of_key = measure_more t levels (suc levels) (omega arith) d.key k (subst (λ (z : _). measure t levels z.key ≡ Some k) same k_is) in
      let of_value = measure_more t levels (suc levels) (omega arith) d.value v (subst (λ (z : _). measure t levels z.value ≡ Some v) same v_is) in
      (b, is, (d, r, here, there, (levels_suffice n (suc levels) d.key r.key k of_key key, levels_suffice n (suc levels) d.value r.value v of_value value)))
  levels_suffice (suc n) (suc levels) (kinds.Struct a) l m e (b, is, (d, r, here, there, all)) =
      found_by (slice_get t.structs a) (λ d. struct_of (measure_members (measure t levels) d.members)) m e λ x row parts.
      found_by (measure_members (measure t levels) x.members) (λ y. Some (structure y)) m parts λ y y_is last.
      let of = subst (λ (z : _). measure_members (measure t levels) z.members ≡ Some y) (same_row (slice_get t.structs a) x d row here) y_is in
      (b, is, (d, r, here, there, members_suffice (ReadsWithin t u n) (ReadsWithin t u levels) (measure t levels) (levels_suffice n levels) d.members r.members y of all))

-- ---- structs at the most levels, and at those within which they nest

struct_place : (b other : ℕ) → kinds.Struct b ≡ kinds.Struct other → other ≡ b
struct_place b other e = cc

pub struct_levels : (t u : Tables) (levels a b : ℕ) (m : Measure) → suc levels ≤ MOST_DEPTH → measure t (suc levels) (kinds.Struct a) ≡ Some m
    → Reads t u (kinds.Struct a) (kinds.Struct b) ↔ BothAre (ReadsStruct t u (ReadsWithin t u levels)) (slice_get t.structs a) (slice_get u.structs b)
unfolding Reads
struct_levels t u levels a b m le e = (
  λ h. let w = levels_suffice t u MOST_DEPTH (suc levels) (kinds.Struct a) (kinds.Struct b) m e h in
      subst (λ (k : ℕ). BothAre (ReadsStruct t u (ReadsWithin t u levels)) (slice_get t.structs a) (slice_get u.structs k)) (struct_place b w.0 w.1) w.2,
  λ h. levels_suffice t u (suc levels) MOST_DEPTH (kinds.Struct a) (kinds.Struct b) m (measure_more t (suc levels) MOST_DEPTH le (kinds.Struct a) m e) (b, refl, h),
)

-- ---- what is remembered, at the levels at hand

module _ (t u : Tables) (levels a b : ℕ) (m : Measure) (lt : levels < MOST_DEPTH) (nests : measure t (levels + 1) (kinds.Struct a) ≡ Some m) (said : Bool) where
  both_levels : Reads t u (kinds.Struct a) (kinds.Struct b) ↔ BothAre (ReadsStruct t u (ReadsWithin t u levels)) (slice_get t.structs a) (slice_get u.structs b)
  both_levels =
      let one : levels + 1 ≡ suc levels = omega arith in
      struct_levels t u levels a b m (omega (arith, lt)) (subst (λ (n : ℕ). measure t n (kinds.Struct a) ≡ Some m) one nests)

  pub remembered : (IsTrue said ↔ Reads t u (kinds.Struct a) (kinds.Struct b)) → IsTrue said ↔ BothAre (ReadsStruct t u (ReadsWithin t u levels)) (slice_get t.structs a) (slice_get u.structs b)
  remembered h = (λ on. both_levels.0 (h.0 on), λ both. h.1 (both_levels.1 both))

  pub to_remember : (IsTrue said ↔ BothAre (ReadsStruct t u (ReadsWithin t u levels)) (slice_get t.structs a) (slice_get u.structs b)) → IsTrue said ↔ Reads t u (kinds.Struct a) (kinds.Struct b)
  to_remember h = (λ on. both_levels.1 (h.0 on), λ reads. h.1 (both_levels.0 reads))
