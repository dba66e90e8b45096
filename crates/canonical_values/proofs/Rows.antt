-- Rows of numbers.
use Rattle.std.proofs.Common.{◌≡◌, ℕ, zero, suc, ◌+◌, ◌*◌, ◌<◌, ◌≤◌, ◌^◌, List, [], ◌∷◌, ◌++◌, length, take, drop, get_or, replicate, Option, None, Some, refl, sym, ap, ◌∙◌, subst, arith}
use Rattle.std.specs.Prelude.{slice_get, IfSome}
use Rattle.std.proofs.lemmas.List.{take-append-drop, length-take-le, length-drop, drop-drop, map_more}
use Rattle.ice_types.specs.declared.kind.TypeRef.{TypeRef}
use Rattle.ice_types.specs.declared.kind.TypeRef.TheVariants as kinds
use Rattle.ice_types.specs.declared.declarations.Member.{Member}
use Rattle.ice_types.specs.declared.declarations.SeqDecl.{SeqDecl}
use Rattle.ice_types.specs.declared.declarations.StructDecl.{StructDecl}
use Rattle.ice_types.specs.Tables.{Tables}
use Rattle.ice_prims.specs.Rest.{IsBytes}
use Rattle.ice_prims.specs.Bytes.{size_bytes}
use Rattle.ice_prims.proofs.Parts.{IsBytes-front, IsBytes-rest}
use Rattle.ice_encoding.specs.Tree.{Trees, none, tree, tree_count, sequence, struct}
use Rattle.ice_encoding.specs.Typed.{HasType, EachOf, AllOf, Refers}
use Rattle.ice_encoding.specs.Canonical.{canonical}
use Rattle.canonical_values.specs.Standing.{IsPut, ArePut, StandEach, IsPlain, AreNumbers, only_null, number_length, kinds_of}
use Rattle.canonical_values.specs.Keys.{each_bytes}
use Rattle.canonical_values.proofs.Leaves.{number_stands}

-- two parts of a list by the length of the first
pub parted : (bytes : List ℕ) (one others : ℕ) → IsBytes bytes → length bytes ≡ one + others
    → (a b : List ℕ) × (bytes ≡ a ++ b) × IsBytes a × IsBytes b × (length a ≡ one) × (length b ≡ others)
parted bytes one others fits long =
    let a = take one bytes in
    let b = drop one bytes in
    let all : IsBytes (a ++ b) = subst IsBytes (sym (take-append-drop one bytes)) fits in
    (a, b, sym (take-append-drop one bytes), IsBytes-front a b all, IsBytes-rest a b all, length-take-le one bytes (omega (arith, long)), length-drop one bytes ∙ omega (arith, long))

-- ---- numbers one after the other

with_none : (n m : ℕ) → n ≡ 0 → (n + m ≡ m + 0)
with_none n m e = omega (arith, e)

pub numbers_and : (kinds : List TypeRef) (kind : TypeRef) (n m : ℕ) → AreNumbers kinds n → number_length kind ≡ Some m → AreNumbers (kinds ++ kind ∷ []) (n + m)
numbers_and [] kind n m e one = (m, 0, with_none n m e, one, refl)
numbers_and (first ∷ kinds) kind n m (a, b, sum, is, more) one = (a, b + m, omega (arith, sum), is, numbers_and kinds kind b m more one)

pub numbers_more : (members : List Member) (i : ℕ) (member : Member) (n m : ℕ) → i < length members → member ≡ get_or members i member
    → AreNumbers (kinds_of (take i members)) n → number_length member.kind ≡ Some m → AreNumbers (kinds_of (take (i + 1) members)) (n + m)
numbers_more members i member n m lt is had one =
    let next : number_length (get_or members i member).kind ≡ Some m = subst (λ (x : Member). number_length x.kind ≡ Some m) is one in
    subst (λ (ks : List TypeRef). AreNumbers ks (n + m)) (sym (map_more (λ (x : Member). x.kind) members i member lt))
    (numbers_and (kinds_of (take i members)) (get_or members i member).kind n m had next)

pub numbers_short : (kind : TypeRef) (n : ℕ) → number_length kind ≡ Some n → n ≤ 8
numbers_short kinds.Byte n e = let is : 1 ≡ n = cc in omega (arith, is)
numbers_short kinds.Short n e = let is : 2 ≡ n = cc in omega (arith, is)
numbers_short kinds.Int n e = let is : 4 ≡ n = cc in omega (arith, is)
numbers_short kinds.Long n e = let is : 8 ≡ n = cc in omega (arith, is)
numbers_short kinds.Bool n e = absurd cc
numbers_short kinds.Text n e = absurd cc
numbers_short (kinds.Seq at) n e = absurd cc
numbers_short (kinds.Dict at) n e = absurd cc
numbers_short (kinds.Struct at) n e = absurd cc
numbers_short (kinds.Enum at) n e = absurd cc
numbers_short (kinds.Proxy at) n e = absurd cc
numbers_short (kinds.Class at) n e = absurd cc

-- ---- the values

module _ (t : Tables) (Refer : Refers) where
  -- they are put for values of these types
  abbrev pub Values : ℕ → List TypeRef → List ℕ → Type 0
  Values levels kinds bytes = (vs : Trees) × EachOf (HasType t Refer levels) kinds vs × (bytes ≡ each_bytes vs)

  pub values_of : (levels : ℕ) (kinds : List TypeRef) (bytes : List ℕ) → ArePut t Refer levels kinds bytes → Values levels kinds bytes
  values_of levels [] bytes e = (none, refl, e)
  values_of levels (kind ∷ kinds) bytes (a, b, parts, (v, typed, is), more) =
      let rest = values_of levels kinds b more in
      (tree v rest.0, (v, rest.0, refl, typed, rest.1), parts ∙ ap (λ (l : List ℕ). l ++ b) is ∙ ap (λ (l : List ℕ). canonical v ++ l) rest.2)

  -- one more in front of those that are left
  pub each_less : (levels next : ℕ) (kinds others : List TypeRef) (kind : TypeRef) → drop next kinds ≡ kind ∷ others → (a b : List ℕ) → IsPut t Refer levels kind a
      → ArePut t Refer levels (drop (next + 1) kinds) b → ArePut t Refer levels (drop next kinds) (a ++ b)
  each_less levels next kinds others kind e a b h g =
      let behind : drop (next + 1) kinds ≡ others = sym (drop-drop 1 next kinds) ∙ ap (drop 1) e in
      subst (λ (ks : List TypeRef). ArePut t Refer levels ks (a ++ b)) (sym e) (a, b, refl, h, subst (λ (ks : List TypeRef). ArePut t Refer levels ks b) behind g)

  all_of : (levels : ℕ) (kind : TypeRef) (n : ℕ) (vs : Trees) → EachOf (HasType t Refer levels) (replicate n kind) vs → AllOf (HasType t Refer levels kind) vs × (tree_count vs ≡ n)
  all_of levels kind zero vs e = subst (λ (ws : Trees). AllOf (HasType t Refer levels kind) ws × (tree_count ws ≡ 0)) (sym e) (tt {0}, refl)
  all_of levels kind (suc n) vs (v, others, is, one, more) =
      let rest = all_of levels kind n others more in
      subst (λ (ws : Trees). AllOf (HasType t Refer levels kind) ws × (tree_count ws ≡ suc n)) (sym is) ((one, rest.0), ap suc rest.1)

  -- a sequence, by its items
  pub sequence_stands : (levels at n : ℕ) (q : SeqDecl) (front body : List ℕ) → slice_get t.seqs at ≡ Some q → n < 2 ^ 31 → front ≡ size_bytes n
      → ArePut t Refer levels (replicate n q.element) body → IsPut t Refer (suc levels) (kinds.Seq at) (front ++ body)
  sequence_stands levels at n q front body row fits is each =
      let items = values_of levels (replicate n q.element) body each in
      let all = all_of levels q.element n items.0 items.1 in (
        sequence items.0,
        (q, row, items.0, refl, subst (λ (m : ℕ). m < 2 ^ 31) (sym all.1) fits, all.0),
        ap (λ (l : List ℕ). l ++ body) (is ∙ ap size_bytes (sym all.1)) ∙ ap (λ (l : List ℕ). size_bytes (tree_count items.0) ++ l) items.2,
      )

  -- a struct, by its members
  pub struct_stands : (levels at : ℕ) (d : StructDecl) (body : List ℕ) → slice_get t.structs at ≡ Some d
      → ArePut t Refer levels (kinds_of d.members) body → IsPut t Refer (suc levels) (kinds.Struct at) body
  struct_stands levels at d body row each =
      let members = values_of levels (kinds_of d.members) body each in
      (struct members.0, (d, row, members.0, refl, members.1), members.2)

module _ (t : Tables) where
  -- ---- rows

  pub numbers_stand : (levels : ℕ) (kinds : List TypeRef) (n : ℕ) → AreNumbers kinds n → (bytes : List ℕ) → IsBytes bytes → length bytes ≡ n → StandEach t (suc levels) kinds bytes
  numbers_stand levels [] n e bytes fits long = nothing bytes (long ∙ e)
    where
      nothing : (bytes : List ℕ) → length bytes ≡ 0 → bytes ≡ []
      nothing [] is = refl
      nothing (b ∷ bs) is = absurd (omega (arith, is))
  numbers_stand levels (kind ∷ kinds) n (one, others, sum, first, more) bytes fits long =
      let p = parted bytes one others fits (long ∙ sum) in
      (p.0, p.1, p.2, number_stands t kind one first p.0 p.3 p.5 levels, numbers_stand levels kinds others more p.1 p.4 p.6)

  pub row_plain : (at n : ℕ) (d : StructDecl) → slice_get t.structs at ≡ Some d → AreNumbers (kinds_of d.members) n → (levels : ℕ) → IsPlain t (suc (suc levels)) (kinds.Struct at) n
  row_plain at n d row numbers levels bytes fits long = struct_stands t only_null (suc levels) at d bytes row (numbers_stand levels (kinds_of d.members) n numbers bytes fits long)

  -- what is found of a struct's members
  pub row_found : (at : ℕ) (d : StructDecl) (kind : TypeRef) (found : Option ℕ) → kind ≡ kinds.Struct at → slice_get t.structs at ≡ Some d → IfSome found (AreNumbers (kinds_of d.members))
      → IfSome found (λ n. (levels : ℕ) → IsPlain t (suc (suc levels)) kind n)
  row_found at d kind None is row numbers = tt
  row_found at d kind (Some n) is row numbers = λ levels. subst (λ (k : TypeRef). IsPlain t (suc (suc levels)) k n) (sym is) (row_plain at n d row numbers levels)

  pub number_found : (kind : TypeRef) (found : Option ℕ) → found ≡ number_length kind → IfSome found (λ n. n ≤ 65536) × IfSome found (λ n. (levels : ℕ) → IsPlain t (suc (suc levels)) kind n)
  number_found kind None e = (tt, tt)
  number_found kind (Some n) e = (let few = numbers_short kind n (sym e) in omega (arith, few), λ levels bytes fits many. number_stands t kind n (sym e) bytes fits many (suc levels))

  pub rows_stand : (levels row : ℕ) (kind : TypeRef) → IsPlain t levels kind row → (n : ℕ) (bytes : List ℕ) → IsBytes bytes → length bytes ≡ n * row → StandEach t levels (replicate n kind) bytes
  rows_stand levels row kind plain zero [] fits long = refl
  rows_stand levels row kind plain zero (b ∷ bs) fits long = absurd (omega (arith, long))
  rows_stand levels row kind plain (suc n) bytes fits long =
      let p = parted bytes row (n * row) fits (long ∙ more n row) in
      (p.0, p.1, p.2, plain p.0 p.3 p.5, rows_stand levels row kind plain n p.1 p.4 p.6)
    where
      more : (n row : ℕ) → suc n * row ≡ row + n * row
      more n row = grind arith
