-- Values in a slice, one after the other, in which references are places by first use.
use Rattle.std.proofs.Common.{◌≡◌, ℕ, zero, suc, ◌+◌, ◌-◌, ◌<◌, ◌≤◌, ◌^◌, Bool, true, false, List, [], ◌∷◌, ◌++◌, length, take, drop, replicate, get_or, Option, None, Some, nat_lt, nat_eq, refl, sym, ap, ◌∙◌, subst, arith, append_assoc}
use Rattle.std.specs.Prelude.{slice_get, IfSome, MatchOption}
use Rattle.std.specs.Option.{option_eq}
use Rattle.std.proofs.lemmas.Bool.{lt-ltb, le-ltb}
use Rattle.std.proofs.lemmas.List.{append-nil, length-append, drop_more}
use Rattle.std.proofs.lemmas.Option.{slice_get_within}
use Rattle.ice_types.specs.declared.kind.TypeRef.{TypeRef}
use Rattle.ice_types.specs.declared.kind.TypeRef.TheVariants as kinds
use Rattle.ice_types.specs.declared.declarations.Member.{Member}
use Rattle.ice_types.specs.declared.declarations.SeqDecl.{SeqDecl}
use Rattle.ice_types.specs.Tables.{Tables}
use Rattle.ice_prims.specs.Bytes.{size_bytes}
use Rattle.ice_encoding.specs.Tree.{sequence, reference, Trees, none, tree, tree_count}
use Rattle.ice_encoding.specs.Typed.{HasType, AllOf, EachOf, Refers}
use Rattle.ice_encoding.specs.Canonical.{canonical}
use Rattle.ice_encoding.specs.Writing.{as_number}
use Rattle.ice_encoding.proofs.Wider.{typed_wider}
use Rattle.ice_encoding.specs.OptionalMembers.{shape_of, required_kinds}
use Rattle.ice_encoding.specs.Names.{names, names_each}
use Rattle.canonical_values.specs.Standing.{IsCanonical, only_null}
use Rattle.canonical_inputs.specs.Tables.{by_first_use}
use Rattle.canonical_inputs.specs.Places.{IsPlace, by_place, ArePut, Grown, ValuePut, ValuesPut, FrontPut, MemberPut, kinds_from}
use Rattle.canonical_inputs.proofs.Plain.{NullAlone, value_plain}
use Rattle.canonical_inputs.proofs.Tables.{same_eq, nat_eq_is}

-- ---- places that come

pub grown_same : (l : List (Option ℕ)) → Grown l l
grown_same l = ([], sym (append-nil l))

pub grown_then : (a b c : List (Option ℕ)) → Grown a b → Grown b c → Grown a c
grown_then a b c (m, e) (n, f) = (m ++ n, f ∙ ap (λ (l : List (Option ℕ)). l ++ n) e ∙ append_assoc a m n)

pub grown_length : (a b : List (Option ℕ)) → Grown a b → length a ≤ length b
grown_length a b (m, e) = let long : length b ≡ length a + length m = ap length e ∙ length-append a m in omega (arith, long)

there_still : (a b : List (Option ℕ)) (i : ℕ) (x : Option ℕ) → slice_get a i ≡ Some x → slice_get (a ++ b) i ≡ Some x
there_still [] b i x e = absurd cc
there_still (y ∷ a) b zero x e = e
there_still (y ∷ a) b (suc i) x e = there_still a b i x e

there_next : (a b : List (Option ℕ)) (x : Option ℕ) → slice_get (a ++ x ∷ b) (length a) ≡ Some x
there_next [] b x = refl
there_next (y ∷ a) b x = there_next a b x

pub first_use_both : (us ws : List ℕ) (n k m : ℕ) → by_first_use n us ≡ Some k → by_first_use k ws ≡ Some m → by_first_use n (us ++ ws) ≡ Some m
first_use_both [] ws n k m e f = let same : n ≡ k = cc in ap (λ (i : ℕ). by_first_use i ws) same ∙ f
first_use_both (u ∷ us) ws n k m e f = by_test (nat_lt u n) (nat_eq u n) e (first_use_both us ws n k m) (first_use_both us ws (suc n) k m)
  where
    by_test : (b c : Bool) → elim b [ true ↦ by_first_use n us | false ↦ elim c [ true ↦ by_first_use (suc n) us | false ↦ None ] ] ≡ Some k
        → (by_first_use n us ≡ Some k → by_first_use k ws ≡ Some m → by_first_use n (us ++ ws) ≡ Some m)
        → (by_first_use (suc n) us ≡ Some k → by_first_use k ws ≡ Some m → by_first_use (suc n) (us ++ ws) ≡ Some m)
        → elim b [ true ↦ by_first_use n (us ++ ws) | false ↦ elim c [ true ↦ by_first_use (suc n) (us ++ ws) | false ↦ None ] ] ≡ Some m
    by_test true c h one other = one h f
    by_test false true h one other = other h f
    by_test false false h one other = absurd cc

use_next : (n : ℕ) → by_first_use n (n ∷ []) ≡ Some (suc n)
use_next n = rw (le-ltb n n (omega arith), same_eq n, by_first_use) refl

use_again : (n u : ℕ) → u < n → by_first_use n (u ∷ []) ≡ Some n
use_again n u lt = rw (lt-ltb u n lt, by_first_use) refl

-- ---- a reference

pub same_option : (a b : Option ℕ) → option_eq nat_eq a b ≡ true → a ≡ b
same_option None None e = refl
same_option None (Some y) e = absurd cc
same_option (Some x) None e = absurd cc
same_option (Some x) (Some y) e = ap Some (nat_eq_is x y e)

module _ (t : Tables) (levels : ℕ) (declared : Option ℕ) (bytes : List ℕ) where
  pub null_put : (needs : List (Option ℕ)) (size : ℕ) → bytes ≡ size_bytes size → size ≡ 0 → ValuePut t (suc levels) (kinds.Class declared) needs needs bytes
  null_put needs size is zero_is = (grown_same needs, λ all grown. (reference None, (None, tt, refl), is ∙ ap size_bytes zero_is, refl))

  pub next_put : (needs : List (Option ℕ)) (size : ℕ) → bytes ≡ size_bytes size → size ≡ suc (length needs) → ValuePut t (suc levels) (kinds.Class declared) needs (needs ++ declared ∷ []) bytes
  next_put needs size is next_is = (
    (declared ∷ [], refl),
    λ all (more, e). (
      reference (Some (length needs)),
      (Some (length needs), ap (λ (l : List (Option ℕ)). slice_get l (length needs)) (e ∙ append_assoc needs (declared ∷ []) more) ∙ there_next needs more declared, refl),
      is ∙ ap size_bytes next_is,
      use_next (length needs) ∙ ap Some (sym (length-append needs (declared ∷ []) ∙ omega arith)),
    ),
  )

  pub again_put : (needs : List (Option ℕ)) (size place : ℕ) → bytes ≡ size_bytes size → size ≡ suc place → slice_get needs place ≡ Some declared → ValuePut t (suc levels) (kinds.Class declared) needs needs bytes
  again_put needs size place is place_is there = (
    grown_same needs,
    λ all (more, e). (
      reference (Some place),
      (Some place, ap (λ (l : List (Option ℕ)). slice_get l place) e ∙ there_still needs more place declared there, refl),
      is ∙ ap size_bytes place_is,
      use_again (length needs) place (slice_get_within needs place declared there),
    ),
  )

-- ---- a value without references

null_alone : NullAlone only_null
null_alone declared n h = h

pub canonical_put : (t : Tables) (kind : TypeRef) (needs : List (Option ℕ)) (bytes : List ℕ) → IsCanonical t kind bytes → ValuePut t 100 kind needs needs bytes
unfolding IsCanonical
canonical_put t kind needs bytes (v, typed, is) = (
  grown_same needs,
  λ all grown.
      let free : names v ≡ [] = (value_plain as_number (λ s. refl) (λ n. n) t only_null null_alone 100 kind v typed).free in (
        v,
        typed_wider t only_null (by_place all) (omega arith) (λ declared n h. subst (IsPlace all declared) (sym h) tt) 100 kind v typed,
        is,
        ap (by_first_use (length needs)) free,
      ),
)

pub canonical_found : (t : Tables) (kind : TypeRef) (needs : List (Option ℕ)) (bytes : List ℕ) (found : Option ℕ) → IfSome found (λ n. IsCanonical t kind (take n bytes)) → IfSome found (λ n. ValuePut t 100 kind needs needs (take n bytes))
canonical_found t kind needs bytes None h = tt
canonical_found t kind needs bytes (Some n) h = canonical_put t kind needs (take n bytes) h

-- ---- one after the other

module _ (t : Tables) (levels : ℕ) where
  pub front_none : (kinds : List TypeRef) (needs : List (Option ℕ)) → FrontPut t levels kinds kinds needs needs []
  front_none kinds needs = (grown_same needs, λ all grown end more h. h)

  pub front_more : (kinds others : List TypeRef) (kind : TypeRef) (before mid behind : List (Option ℕ)) (a b : List ℕ) → FrontPut t levels kinds (kind ∷ others) before mid a → ValuePut t levels kind mid behind b
      → FrontPut t levels kinds others before behind (a ++ b)
  front_more kinds others kind before mid behind a b (grown, front) (grown', value) = (
    grown_then before mid behind grown grown',
    λ all later end more (vs, typed, is, used).
        let v = value all later in
        subst (λ (l : List ℕ). ArePut t all levels kinds (length before) end l) (sym (append_assoc a b more))
        (front all (grown_then mid behind all grown' later) end (b ++ more) (
          tree v.0 vs,
          (v.0, vs, refl, v.1, typed),
          ap (λ (l : List ℕ). l ++ more) v.2 ∙ ap (λ (l : List ℕ). canonical v.0 ++ l) is,
          first_use_both (names v.0) (names_each vs) (length mid) (length behind) end v.3 used,
        )),
  )

  pub front_all : (kinds : List TypeRef) (before behind : List (Option ℕ)) (front : List ℕ) → FrontPut t levels kinds [] before behind front → ValuesPut t levels kinds before behind front
  front_all kinds before behind front (grown, h) = (
    grown,
    λ all later. subst (λ (l : List ℕ). ArePut t all levels kinds (length before) (length behind) l) (append-nil front) (h all later (length behind) [] (none, refl, refl, refl)),
  )

  -- one less of so many
  pub each_more : (kinds : List TypeRef) (kind : TypeRef) (left : ℕ) (before mid behind : List (Option ℕ)) (a b : List ℕ) → 0 < left → FrontPut t levels kinds (replicate left kind) before mid a → ValuePut t levels kind mid behind b
      → FrontPut t levels kinds (replicate (left - 1) kind) before behind (a ++ b)
  each_more kinds kind zero before mid behind a b lt front value = absurd (omega (arith, lt))
  each_more kinds kind (suc left) before mid behind a b lt front value =
      let e : left ≡ suc left - 1 = omega arith in
      subst (λ (n : ℕ). FrontPut t levels kinds (replicate n kind) before behind (a ++ b)) e (front_more kinds (replicate left kind) kind before mid behind a b front value)

  all_of : (Refer : Refers) (kind : TypeRef) (n : ℕ) (vs : Trees) → EachOf (HasType t Refer levels) (replicate n kind) vs → AllOf (HasType t Refer levels kind) vs × (tree_count vs ≡ n)
  all_of Refer kind zero vs e = subst (λ (ws : Trees). AllOf (HasType t Refer levels kind) ws × (tree_count ws ≡ 0)) (sym e) (tt {0}, refl)
  all_of Refer kind (suc n) vs (v, others, is, one, more) =
      let rest = all_of Refer kind n others more in
      subst (λ (ws : Trees). AllOf (HasType t Refer levels kind) ws × (tree_count ws ≡ suc n)) (sym is) ((one, rest.0), ap suc rest.1)

  -- a sequence, by its items
  pub sequence_put : (at n : ℕ) (q : SeqDecl) (kind : TypeRef) (before behind : List (Option ℕ)) (front body : List ℕ) → slice_get t.seqs at ≡ Some q → q.element ≡ kind → n < 2 ^ 31 → front ≡ size_bytes n
      → ValuesPut t levels (replicate n kind) before behind body → ValuePut t (suc levels) (kinds.Seq at) before behind (front ++ body)
  sequence_put at n q kind before behind front body row element few is (grown, each) = (
    grown,
    λ all later.
        let items = each all later in
        let typed = all_of (by_place all) kind n items.0 items.1 in (
          sequence items.0,
          (
            q,
            row,
            items.0,
            refl,
            subst (λ (m : ℕ). m < 2 ^ 31) (sym typed.1) few,
            subst (λ (k : TypeRef). AllOf (HasType t (by_place all) levels k) items.0) (sym element) typed.0,
          ),
          ap (λ (l : List ℕ). l ++ body) (is ∙ ap size_bytes (sym typed.1)) ∙ ap (λ (l : List ℕ). size_bytes (tree_count items.0) ++ l) items.2,
          items.3,
        ),
  )

-- ---- the members that are always there

pub kinds_more : (members : List Member) (i : ℕ) (member : Member) → i < length members → member ≡ get_or members i member → member.tag ≡ None → kinds_from i members ≡ member.kind ∷ kinds_from (i + 1) members
kinds_more members i member lt is untagged =
    ap (λ (ms : List Member). required_kinds (shape_of ms)) (drop_more members i member lt) ∙ ap (λ (m : Member). required_kinds (shape_of (m ∷ drop (i + 1) members))) (sym is) ∙ first member (drop (i + 1) members) untagged
  where
    first : (m : Member) (ms : List Member) → m.tag ≡ None → required_kinds (shape_of (m ∷ ms)) ≡ m.kind ∷ required_kinds (shape_of ms)
    first m ms e = rw e refl

pub kinds_same : (members : List Member) (i : ℕ) (member : Member) (number : ℕ) → i < length members → member ≡ get_or members i member → member.tag ≡ Some number → kinds_from i members ≡ kinds_from (i + 1) members
kinds_same members i member number lt is tagged =
    ap (λ (ms : List Member). required_kinds (shape_of ms)) (drop_more members i member lt) ∙ ap (λ (m : Member). required_kinds (shape_of (m ∷ drop (i + 1) members))) (sym is) ∙ first member (drop (i + 1) members) tagged
  where
    first : (m : Member) (ms : List Member) → m.tag ≡ Some number → required_kinds (shape_of (m ∷ ms)) ≡ required_kinds (shape_of ms)
    first m ms e = rw e refl

pub kinds_none : (members : List Member) (i : ℕ) → length members ≤ i → kinds_from i members ≡ []
kinds_none [] zero le = refl
kinds_none [] (suc i) le = refl
kinds_none (m ∷ ms) zero le = absurd (omega (arith, le))
kinds_none (m ∷ ms) (suc i) le = kinds_none ms i (omega (arith, le))

-- a member in front of others
pub member_more : (t : Tables) (all : List TypeRef) (members : List Member) (i : ℕ) (member : Member) (before mid behind : List (Option ℕ)) (a b : List ℕ) → i < length members → member ≡ get_or members i member
    → FrontPut t 100 all (kinds_from i members) before mid a → MemberPut t member mid behind b → FrontPut t 100 all (kinds_from (i + 1) members) before behind (a ++ b)
member_more t all members i member before mid behind a b lt is front put = by_tag member.tag refl put
  where
    by_tag : (o : Option ℕ) → member.tag ≡ o → MatchOption o (ValuePut t 100 member.kind mid behind b) (λ number. (behind ≡ mid) × (b ≡ [])) → FrontPut t 100 all (kinds_from (i + 1) members) before behind (a ++ b)
    by_tag None e h =
        front_more t 100 all (kinds_from (i + 1) members) member.kind before mid behind a b (subst (λ (ks : List TypeRef). FrontPut t 100 all ks before mid a) (kinds_more members i member lt is e) front) h
    by_tag (Some number) e (same, nil) =
        subst (λ (l : List ℕ). FrontPut t 100 all (kinds_from (i + 1) members) before behind l) (sym (ap (λ (l : List ℕ). a ++ l) nil ∙ append-nil a))
        (subst (λ (m : List (Option ℕ)). FrontPut t 100 all (kinds_from (i + 1) members) before m a) (sym same)
        (subst (λ (ks : List TypeRef). FrontPut t 100 all ks before mid a) (kinds_same members i member number lt is e) front))

-- ---- by what was found

module _ (t : Tables) (before behind : List (Option ℕ)) (bytes : List ℕ) where
  pub member_absent : (member : Member) (number : ℕ) → member.tag ≡ Some number → MemberPut t member before before []
  member_absent member number is = subst (λ (o : Option ℕ). MatchOption o (ValuePut t 100 member.kind before before []) (λ _. (before ≡ before) × (◌≡◌ {A = List ℕ} [] []))) (sym is) (refl, refl)

  pub member_there : (member : Member) (found : Option ℕ) → member.tag ≡ None → IfSome found (λ n. ValuePut t 100 member.kind before behind (take n bytes)) → IfSome found (λ n. MemberPut t member before behind (take n bytes))
  member_there member None is h = tt
  member_there member (Some n) is h = subst (λ (o : Option ℕ). MatchOption o (ValuePut t 100 member.kind before behind (take n bytes)) (λ _. (behind ≡ before) × (take n bytes ≡ []))) (sym is) h

  pub class_put : (kind : TypeRef) (declared found : Option ℕ) → kind ≡ kinds.Class declared → IfSome found (λ n. (levels : ℕ) → ValuePut t (suc levels) (kinds.Class declared) before behind (take n bytes))
      → IfSome found (λ n. ValuePut t 100 kind before behind (take n bytes))
  class_put kind declared None is h = tt
  class_put kind declared (Some n) is h = subst (λ (k : TypeRef). ValuePut t 100 k before behind (take n bytes)) (sym is) (h 99)

  pub kind_put : (kind other : TypeRef) (found : Option ℕ) → kind ≡ other → IfSome found (λ n. ValuePut t 100 other before behind (take n bytes)) → IfSome found (λ n. ValuePut t 100 kind before behind (take n bytes))
  kind_put kind other found is h = subst (λ (k : TypeRef). IfSome found (λ n. ValuePut t 100 k before behind (take n bytes))) (sym is) h
