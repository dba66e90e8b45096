-- The rows of operations, part by part.
use Rattle.std.proofs.Common.{◌≡◌, ℕ, ◌+◌, Bool, true, false, not, cond, List, [], ◌∷◌, ◌++◌, drop, Result, Ok, Err, refl, sym, ap, ◌∙◌, append_assoc}
use Rattle.slice_syntax.specs.declared.tree.Param.{Param}
use Rattle.slice_syntax.specs.declared.tree.Path.{Path}
use Rattle.slice_syntax.specs.declared.tree.Field.{Field}
use Rattle.ice_types.specs.declared.kind.TypeRef.{TypeRef}
use Rattle.ice_types.specs.declared.declarations.Member.{Member}
use Rattle.slice_meaning.specs.declared.fault.CheckKind.{CheckKind}
use Rattle.slice_meaning.specs.Known.{Known}
use Rattle.slice_meaning.specs.Uses.{type_of}
use Rattle.slice_meaning.specs.Members.{with_field, members_of, with_meaning, named}
use Rattle.slice_faults.specs.Sides.{side, side_members}

field_more : (k : Known) (f : Field) (r : Result TypeRef CheckKind) (others : List Member) → with_field k f r others ≡ with_field k f r [] ++ others
field_more k f (Ok kind) others = refl
field_more k f (Err row) others = refl

members_more : (k : Known) (out : Bool) (p : Param) (ps : List Param) → members_of k (side out (p ∷ ps)) ≡ side_members k out p ++ members_of k (side out ps)
members_more k true p ps = by_out p.out
  where
    by_out : (b : Bool) → members_of k (cond b (p.field ∷ side true ps) (side true ps)) ≡ cond b (with_field k p.field (type_of k p.field.kind) []) [] ++ members_of k (side true ps)
    by_out true = field_more k p.field (type_of k p.field.kind) (members_of k (side true ps))
    by_out false = refl
members_more k false p ps = by_out p.out
  where
    by_out : (b : Bool) → members_of k (cond b (side false ps) (p.field ∷ side false ps)) ≡ cond (not b) (with_field k p.field (type_of k p.field.kind) []) [] ++ members_of k (side false ps)
    by_out true = refl
    by_out false = field_more k p.field (type_of k p.field.kind) (members_of k (side false ps))

-- a part more at the end
next : {A B : Type 0} (of : List A → List B) (xs : List A) (i : ℕ) (x : A) (part held now all : List B) → drop i xs ≡ x ∷ drop (i + 1) xs → of (x ∷ drop (i + 1) xs) ≡ part ++ of (drop (i + 1) xs)
    → held ++ of (drop i xs) ≡ all → now ≡ held ++ part → now ++ of (drop (i + 1) xs) ≡ all
next of xs i x part held now all at more so step =
    ap (λ l. l ++ of (drop (i + 1) xs)) step
    ∙ (append_assoc held part (of (drop (i + 1) xs))
    ∙ (sym (ap (λ l. held ++ l) (ap of at ∙ more)) ∙ so))

pub side_member_next : (k : Known) (out : Bool) (params : List Param) (i : ℕ) (p : Param) (held now all : List Member) → drop i params ≡ p ∷ drop (i + 1) params
    → held ++ members_of k (side out (drop i params)) ≡ all → now ≡ held ++ side_members k out p → now ++ members_of k (side out (drop (i + 1) params)) ≡ all
side_member_next k out params i p held now all at so step =
    next (λ ps. members_of k (side out ps)) params i p (side_members k out p) held now all at (members_more k out p (drop (i + 1) params)) so step

meaning_more : {A : Type 0} (r : Result A CheckKind) (others : List A) → with_meaning r others ≡ with_meaning r [] ++ others
meaning_more (Ok x) others = refl
meaning_more (Err row) others = refl

-- a name more
pub named_next : {A : Type 0} (meaning : Path → Result A CheckKind) (paths : List Path) (i : ℕ) (path : Path) (held now all : List A) → drop i paths ≡ path ∷ drop (i + 1) paths
    → held ++ named meaning (drop i paths) ≡ all → now ≡ held ++ with_meaning (meaning path) [] → now ++ named meaning (drop (i + 1) paths) ≡ all
named_next meaning paths i path held now all at so step =
    next (named meaning) paths i path (with_meaning (meaning path) []) held now all at (meaning_more (meaning path) (named meaning (drop (i + 1) paths))) so step
