-- A type that can be read is of the same fixed length as the other, so optional members of both stand in one format.
use Rattle.std.proofs.Common.{ℕ, zero, suc, ◌≡◌, ◌+◌, Bool, true, false, List, [], ◌∷◌, refl, sym, ap, ◌∙◌, Option, Some, None}
use Rattle.std.specs.Prelude.{◌&&◌, slice_get, if◌then◌else◌}
use Rattle.std.specs.Option.{is_some}
use Rattle.ice_types.specs.declared.kind.TypeRef.{TypeRef}
use Rattle.ice_types.specs.declared.kind.TypeRef.TheVariants as kinds
use Rattle.ice_types.specs.declared.declarations.Member.{Member}
use Rattle.ice_types.specs.declared.measure.Measure.{Measure}
use Rattle.ice_types.specs.declared.optional_format.TheConstants.{FORMAT_FSIZE}
use Rattle.ice_types.specs.declared.schema.TheConstants.{MOST_DEPTH}
use Rattle.ice_types.specs.Tables.{Tables}
use Rattle.ice_types.specs.Measures.{measure, measured, measure_members, with_member, sequence_of, dictionary_of, struct_of, of_any, fixed_size, enumeration, proxy, reference}
use Rattle.ice_types.specs.Formats.{optional_format, of_parts, is_fixed}
use Rattle.ice_encoding.specs.Prefixes.{counts_itself, is_one, prefix_by, prefix_of}
use Rattle.slice_compat.specs.Reading.{ReadsMembers, ReadsWithin}

-- the one length, where there is one
abbrev fixed : Option Measure → Option ℕ
fixed o = measured o (λ m. if m.is_fixed then Some m.smallest else None)

-- the lengths together
abbrev together : Option ℕ → Option ℕ → Option ℕ
together None o = None
together (Some a) None = None
together (Some a) (Some b) = Some (a + b)

with_fixed : (a b : Measure) → fixed (Some (with_member a b)) ≡ together (fixed (Some a)) (fixed (Some b))
with_fixed a b = by_tests a.is_fixed b.is_fixed a.smallest b.smallest
  where
    by_tests : (x y : Bool) (m n : ℕ) → (if (x && y) then Some (m + n) else None) ≡ together (if x then Some m else None) (if y then Some n else None)
    by_tests true true m n = refl
    by_tests true false m n = refl
    by_tests false y m n = refl

none_after : (o : Option ℕ) → together o None ≡ None
none_after None = refl
none_after (Some a) = refl

members_fixed : (of : TypeRef → Option Measure) (m : Member) (ms : List Member) → fixed (measure_members of (m ∷ ms)) ≡ together (fixed (of m.kind)) (fixed (measure_members of ms))
members_fixed of m ms = by_both (of m.kind) (measure_members of ms)
  where
    by_both : (o p : Option Measure) → fixed (measured o (λ first. measured p (λ others. Some (with_member first others)))) ≡ together (fixed o) (fixed p)
    by_both None p = refl
    by_both (Some a) None = sym (none_after (fixed (Some a)))
    by_both (Some a) (Some b) = with_fixed a b

struct_fixed : (o : Option Measure) → fixed (struct_of o) ≡ fixed o
struct_fixed None = refl
struct_fixed (Some m) = refl

-- a sequence and a dictionary have no one length
seq_fixed : (o : Option Measure) → fixed (sequence_of o) ≡ None
seq_fixed None = refl
seq_fixed (Some m) = refl

dict_fixed : (o p : Option Measure) → fixed (dictionary_of o p) ≡ None
dict_fixed None p = refl
dict_fixed (Some k) None = refl
dict_fixed (Some k) (Some v) = refl

any_fixed : {A : Type 0} (rows : List A) (at : Option ℕ) (m : Measure) → m.is_fixed ≡ false → fixed (of_any rows at m) ≡ None
any_fixed rows None m e = rw e refl
any_fixed {A} rows (Some at) m e = by_row (slice_get rows at)
  where
    by_row : (o : Option A) → fixed (measured o (λ _. Some m)) ≡ None
    by_row None = refl
    by_row (Some x) = rw e refl

row_fixed : {A : Type 0} (o : Option A) (next : A → Option Measure) → ((x : A) → fixed (next x) ≡ None) → fixed (measured o next) ≡ None
row_fixed None next h = refl
row_fixed (Some x) next h = h x

module _ (t u : Tables) where
  both_fixed : (One : TypeRef → TypeRef → Type 0) (of other : TypeRef → Option Measure) → ((k l : TypeRef) → One k l → fixed (of k) ≡ fixed (other l))
      → (ms ns : List Member) → ReadsMembers t u One ms ns → fixed (measure_members of ms) ≡ fixed (measure_members other ns)
  both_fixed One of other one [] [] h = refl
  both_fixed One of other one [] (n ∷ ns) h = absurd h
  both_fixed One of other one (m ∷ ms) [] h = absurd h
  both_fixed One of other one (m ∷ ms) (n ∷ ns) h =
      members_fixed of m ms ∙ ap (λ (o : Option ℕ). together o (fixed (measure_members of ms))) (one m.kind n.kind h.0)
      ∙ ap (λ (o : Option ℕ). together (fixed (other n.kind)) o) (both_fixed One of other one ms ns h.1) ∙ sym (members_fixed other n ns)

  dict_none : (s : Tables) (levels at : ℕ) → fixed (measure s levels (kinds.Dict at)) ≡ None
  unfolding measure
  dict_none s zero at = refl
  dict_none s (suc zero) at = refl
  dict_none s (suc (suc levels)) at = row_fixed (slice_get s.dicts at) (λ d. dictionary_of (measure s levels d.key) (measure s levels d.value)) (λ d. dict_fixed (measure s levels d.key) (measure s levels d.value))

  pub read_fixed : (n levels : ℕ) (k l : TypeRef) → ReadsWithin t u n k l → fixed (measure t levels k) ≡ fixed (measure u levels l)
  unfolding measure
  read_fixed zero levels k l h = absurd h
  read_fixed (suc n) zero k l h = refl
  read_fixed (suc n) (suc levels) kinds.Bool l e = ap (λ (l : TypeRef). fixed (measure u (suc levels) l)) (sym e)
  read_fixed (suc n) (suc levels) kinds.Byte l e = ap (λ (l : TypeRef). fixed (measure u (suc levels) l)) (sym e)
  read_fixed (suc n) (suc levels) kinds.Short l e = ap (λ (l : TypeRef). fixed (measure u (suc levels) l)) (sym e)
  read_fixed (suc n) (suc levels) kinds.Int l e = ap (λ (l : TypeRef). fixed (measure u (suc levels) l)) (sym e)
  read_fixed (suc n) (suc levels) kinds.Long l e = ap (λ (l : TypeRef). fixed (measure u (suc levels) l)) (sym e)
  read_fixed (suc n) (suc levels) kinds.Text l e = ap (λ (l : TypeRef). fixed (measure u (suc levels) l)) (sym e)
  read_fixed (suc n) (suc levels) (kinds.Seq a) l (b, is, both) =
      row_fixed (slice_get t.seqs a) (λ q. sequence_of (measure t levels q.element)) (λ q. seq_fixed (measure t levels q.element))
      ∙ sym (row_fixed (slice_get u.seqs b) (λ q. sequence_of (measure u levels q.element)) (λ q. seq_fixed (measure u levels q.element))) ∙ ap (λ (l : TypeRef). fixed (measure u (suc levels) l)) (sym is)
  read_fixed (suc n) (suc levels) (kinds.Dict a) l (b, is, both) =
      dict_none t (suc levels) a ∙ sym (dict_none u (suc levels) b) ∙ ap (λ (l : TypeRef). fixed (measure u (suc levels) l)) (sym is)
  read_fixed (suc n) (suc levels) (kinds.Struct a) l (b, is, (d, e, here, there, same)) =
      ap (λ (o : Option _). fixed (measured o (λ d. struct_of (measure_members (measure t levels) d.members)))) here
      ∙ struct_fixed (measure_members (measure t levels) d.members)
      ∙ both_fixed (ReadsWithin t u n) (measure t levels) (measure u levels) (read_fixed n levels) d.members e.members same
      ∙ sym (struct_fixed (measure_members (measure u levels) e.members))
      ∙ ap (λ (o : Option _). fixed (measured o (λ d. struct_of (measure_members (measure u levels) d.members)))) (sym there) ∙ ap (λ (l : TypeRef). fixed (measure u (suc levels) l)) (sym is)
  read_fixed (suc n) (suc levels) (kinds.Enum a) l (b, is, both) =
      row_fixed (slice_get t.enums a) (λ _. Some enumeration) (λ e. refl)
      ∙ sym (row_fixed (slice_get u.enums b) (λ _. Some enumeration) (λ e. refl)) ∙ ap (λ (l : TypeRef). fixed (measure u (suc levels) l)) (sym is)
  read_fixed (suc n) (suc levels) (kinds.Proxy a) l (b, is) =
      any_fixed t.interfaces a proxy refl ∙ sym (any_fixed u.interfaces b proxy refl) ∙ ap (λ (l : TypeRef). fixed (measure u (suc levels) l)) (sym is)
  read_fixed (suc n) (suc levels) (kinds.Class a) l (b, is, below) =
      any_fixed t.classes a reference refl ∙ sym (any_fixed u.classes b reference refl) ∙ ap (λ (l : TypeRef). fixed (measure u (suc levels) l)) (sym is)

  pub same_fixed : (n : ℕ) (k l : TypeRef) → ReadsWithin t u n k l → fixed_size t k ≡ fixed_size u l
  same_fixed n k l h = read_fixed n MOST_DEPTH k l h

  pub same_optional : (n : ℕ) (k l : TypeRef) → ReadsWithin t u n k l → optional_format t k ≡ optional_format u l
  same_optional zero k l h = absurd h
  same_optional (suc n) kinds.Bool l e = ap (optional_format u) (sym e)
  same_optional (suc n) kinds.Byte l e = ap (optional_format u) (sym e)
  same_optional (suc n) kinds.Short l e = ap (optional_format u) (sym e)
  same_optional (suc n) kinds.Int l e = ap (optional_format u) (sym e)
  same_optional (suc n) kinds.Long l e = ap (optional_format u) (sym e)
  same_optional (suc n) kinds.Text l e = ap (optional_format u) (sym e)
  same_optional (suc n) (kinds.Enum a) l (b, is, both) = ap (optional_format u) (sym is)
  same_optional (suc n) (kinds.Proxy a) l (b, is) = ap (optional_format u) (sym is)
  same_optional (suc n) (kinds.Class a) l (b, is, below) = ap (optional_format u) (sym is)
  same_optional (suc n) (kinds.Seq a) l (b, is, (q, r, here, there, one)) =
      ap (λ (o : Option _). elim o [ None ↦ FORMAT_FSIZE | Some q ↦ of_parts (is_fixed t q.element) ]) here
      ∙ ap (λ (o : Option ℕ). of_parts (is_some o)) (same_fixed n q.element r.element one)
      ∙ ap (λ (o : Option _). elim o [ None ↦ FORMAT_FSIZE | Some q ↦ of_parts (is_fixed u q.element) ]) (sym there) ∙ ap (optional_format u) (sym is)
  same_optional (suc n) (kinds.Dict a) l (b, is, (d, e, here, there, (key, value))) =
      ap (λ (o : Option _). elim o [ None ↦ FORMAT_FSIZE | Some d ↦ of_parts (is_fixed t d.key && is_fixed t d.value) ]) here
      ∙ ap (λ (o : Option ℕ). of_parts (is_some o && is_fixed t d.value)) (same_fixed n d.key e.key key)
      ∙ ap (λ (o : Option ℕ). of_parts (is_fixed u e.key && is_some o)) (same_fixed n d.value e.value value)
      ∙ ap (λ (o : Option _). elim o [ None ↦ FORMAT_FSIZE | Some d ↦ of_parts (is_fixed u d.key && is_fixed u d.value) ]) (sym there) ∙ ap (optional_format u) (sym is)
  same_optional (suc n) (kinds.Struct a) l (b, is, both) =
      ap (λ (o : Option ℕ). of_parts (is_some o)) (same_fixed (suc n) (kinds.Struct a) (kinds.Struct b) (b, refl, both)) ∙ ap (optional_format u) (sym is)

  pub same_counts : (n : ℕ) (k l : TypeRef) → ReadsWithin t u n k l → counts_itself t k ≡ counts_itself u l
  same_counts zero k l h = absurd h
  same_counts (suc n) kinds.Bool l e = ap (counts_itself u) (sym e)
  same_counts (suc n) kinds.Byte l e = ap (counts_itself u) (sym e)
  same_counts (suc n) kinds.Short l e = ap (counts_itself u) (sym e)
  same_counts (suc n) kinds.Int l e = ap (counts_itself u) (sym e)
  same_counts (suc n) kinds.Long l e = ap (counts_itself u) (sym e)
  same_counts (suc n) kinds.Text l e = ap (counts_itself u) (sym e)
  same_counts (suc n) (kinds.Dict a) l (b, is, both) = ap (counts_itself u) (sym is)
  same_counts (suc n) (kinds.Struct a) l (b, is, both) = ap (counts_itself u) (sym is)
  same_counts (suc n) (kinds.Enum a) l (b, is, both) = ap (counts_itself u) (sym is)
  same_counts (suc n) (kinds.Proxy a) l (b, is) = ap (counts_itself u) (sym is)
  same_counts (suc n) (kinds.Class a) l (b, is, below) = ap (counts_itself u) (sym is)
  same_counts (suc n) (kinds.Seq a) l (b, is, (q, r, here, there, one)) =
      ap (λ (o : Option _). elim o [ None ↦ false | Some q ↦ is_one (fixed_size t q.element) ]) here
      ∙ ap is_one (same_fixed n q.element r.element one)
      ∙ ap (λ (o : Option _). elim o [ None ↦ false | Some q ↦ is_one (fixed_size u q.element) ]) (sym there) ∙ ap (counts_itself u) (sym is)

  pub same_prefix : (n : ℕ) (k l : TypeRef) → ReadsWithin t u n k l → prefix_of t k ≡ prefix_of u l
  same_prefix n k l h = ap (λ (b : Bool). prefix_by b (optional_format t k)) (same_counts n k l h) ∙ ap (prefix_by (counts_itself u l)) (same_optional n k l h)
