-- Members, one after the other.
use Rattle.std.proofs.Common.{◌≡◌, ℕ, ◌+◌, ◌≤◌, List, [], ◌∷◌, ◌++◌, length, drop, Option, Some, None, Result, Ok, Err, refl, sym, ap, ◌∙◌, append_assoc, arith}
use Rattle.std.specs.Prelude.{min, nat_lt}
use Rattle.std.proofs.lemmas.Bool.Decides.{nat_tests}
use Rattle.slice_syntax.specs.declared.tree.Field.{Field}
use Rattle.ice_types.specs.declared.kind.TypeRef.{TypeRef}
use Rattle.ice_types.specs.declared.declarations.Member.{Member}
use Rattle.ice_types.specs.declared.measure.Measure.{Measure}
use Rattle.ice_types.specs.Measures.{measured, measure_members, with_member}
use Rattle.slice_meaning.specs.declared.fault.CheckKind.{CheckKind}
use Rattle.slice_meaning.specs.declared.fault.CheckKind.TheVariants as rows
use Rattle.slice_meaning.specs.declared.fault.Fault.{Fault}
use Rattle.slice_meaning.specs.Known.{Known}
use Rattle.slice_meaning.specs.Uses.{fault_at, where_true, type_of}
use Rattle.slice_meaning.specs.Members.{with_field, members_of}
use Rattle.slice_faults.specs.Held.{limits_from}
use Rattle.slice_faults.proofs.Noting.{drop_end}

member_more : (k : Known) (f : Field) (r : Result TypeRef CheckKind) (others : List Member) → with_field k f r others ≡ with_field k f r [] ++ others
member_more k f (Ok kind) others = refl
member_more k f (Err row) others = refl

-- a member more
pub member_next : (k : Known) (fields : List Field) (i : ℕ) (f : Field) (held now all : List Member) → drop i fields ≡ f ∷ drop (i + 1) fields
    → held ++ members_of k (drop i fields) ≡ all → now ≡ held ++ with_field k f (type_of k f.kind) [] → now ++ members_of k (drop (i + 1) fields) ≡ all
member_next k fields i f held now all at so step =
    let rest = members_of k (drop (i + 1) fields) in
    ap (λ l. l ++ rest) step
    ∙ (append_assoc held (with_field k f (type_of k f.kind) []) rest
    ∙ (sym (ap (λ l. held ++ l) (member_more k f (type_of k f.kind) rest))
    ∙ (sym (ap (λ l. held ++ members_of k l) at) ∙ so)))

same_test : (s a b : ℕ) → nat_lt 1048576 (s + (a + b)) ≡ nat_lt 1048576 (min (s + a) 1048577 + b)
same_test s a b = grind (arith, nat_tests)

-- the limits of a member more
limits_more : (place s : ℕ) (of : TypeRef → Option Measure) (m : Member) (ms : List Member) (first : Measure) → of m.kind ≡ Some first
    → limits_from place s (measure_members of (m ∷ ms)) ≡ limits_from place (min (s + first.smallest) 1048577) (measure_members of ms)
limits_more place s of m ms first is =
    ap (λ o. limits_from place s (measured o (λ first. measured (measure_members of ms) (λ others. Some (with_member first others))))) is ∙ by_rest (measure_members of ms)
  where
    by_rest : (o : Option Measure) → limits_from place s (measured o (λ others. Some (with_member first others))) ≡ limits_from place (min (s + first.smallest) 1048577) o
    by_rest None = refl
    by_rest (Some others) = ap (λ b. where_true b place rows.TooBig) (same_test s first.smallest others.smallest)

-- a member nests too deep
pub limits_none : (place s : ℕ) (of : TypeRef → Option Measure) (members : List Member) (i : ℕ) (m : Member) (all : List Fault) → drop i members ≡ m ∷ drop (i + 1) members → of m.kind ≡ None
    → limits_from place s (measure_members of (drop i members)) ≡ all → fault_at place rows.TooDeep ∷ [] ≡ all
limits_none place s of members i m all at is so =
    sym (ap (λ l. limits_from place s (measure_members of l)) at
    ∙ ap (λ o. limits_from place s (measured o (λ first. measured (measure_members of (drop (i + 1) members)) (λ others. Some (with_member first others))))) is) ∙ so

-- no member is left
pub limits_end : (place s : ℕ) (of : TypeRef → Option Measure) (members : List Member) (i : ℕ) (all : List Fault) → length members ≤ i
    → limits_from place s (measure_members of (drop i members)) ≡ all → where_true (nat_lt 1048576 s) place rows.TooBig ≡ all
limits_end place s of members i all h so =
    sym (ap (λ l. limits_from place s (measure_members of l)) (drop_end members i h) ∙ ap (λ n. where_true (nat_lt 1048576 n) place rows.TooBig) (omega arith)) ∙ so
