-- An answer is put in: what is remembered stays right.
use Rattle.std.proofs.Common.{ℕ, ◌≡◌, Bool, cond, Some, refl, sym, ◌∙◌, subst}
use Rattle.std.specs.Prelude.{◌↔◌, IsTrue, slice_get}
use Rattle.std.specs.Ordering.{nat_cmp, is_eq}
use Rattle.std.specs.declared.cmp.Ordering.{Ordering}
use Rattle.std.specs.declared.cmp.Ordering.TheVariants.{Less, Equal, Greater}
use Rattle.std.specs.BTreeMap.{BTreeMap, get}
use Rattle.std.proofs.lemmas.Map.Lookups.{exact_pairs, exact_unsigned}
use Rattle.std.proofs.lemmas.Option.{same_Some}
use Rattle.ice_types.specs.declared.kind.TypeRef.TheVariants as kinds
use Rattle.ice_types.specs.Tables.{Tables}
use Rattle.ice_types.specs.Lacking.{BothAre}
use Rattle.slice_compat.specs.declared.answers.Answers.{Answers}
use Rattle.slice_compat.specs.Answers.{pair_cmp, answer_in, AreAnswers}
use Rattle.slice_compat.specs.Reading.{Reads, ReadsEnum}

-- the new map has the new answer at its pair, and at each other pair what the old one had
abbrev pub PutsAnswer : BTreeMap (ℕ × ℕ) Bool → BTreeMap (ℕ × ℕ) Bool → ℕ → ℕ → Bool → Type 0
PutsAnswer old new a b said = (q : ℕ × ℕ) → get pair_cmp new q ≡ cond (is_eq (pair_cmp (a, b) q)) (Some said) (get pair_cmp old q)

pub put_answer : (Right : ℕ → ℕ → Bool → Type 0) (old new : BTreeMap (ℕ × ℕ) Bool) (a b : ℕ) (said : Bool) → PutsAnswer old new a b said
    → ((x y : ℕ) (z : Bool) → answer_in old x y ≡ Some z → Right x y z) → Right a b said → (x y : ℕ) (z : Bool) → answer_in new x y ≡ Some z → Right x y z
put_answer Right old new a b said puts were right x y z e = by_order (pair_cmp (a, b) (x, y)) refl (sym (puts (x, y)) ∙ e)
  where
    by_order : (o : Ordering) → pair_cmp (a, b) (x, y) ≡ o → cond (is_eq o) (Some said) (answer_in old x y) ≡ Some z → Right x y z
    by_order Less is h = were x y z h
    by_order Greater is h = were x y z h
    by_order Equal is h =
        let pair : (a, b) ≡ (x, y) = exact_pairs nat_cmp nat_cmp exact_unsigned exact_unsigned (a, b) (x, y) is in
        subst (λ (p : ℕ × ℕ). Right p.0 p.1 z) pair (subst (λ (w : Bool). Right a b w) (same_Some said z h) right)

module _ (t u : Tables) (answers : Answers) (are : AreAnswers t u answers) (a b : ℕ) (said : Bool) (after : BTreeMap (ℕ × ℕ) Bool) where
  pub structs_put : PutsAnswer answers.structs after a b said → (IsTrue said ↔ Reads t u (kinds.Struct a) (kinds.Struct b)) → AreAnswers t u (record answers { structs = after })
  structs_put puts right = record {
    structs = put_answer (λ x y z. IsTrue z ↔ Reads t u (kinds.Struct x) (kinds.Struct y)) answers.structs after a b said puts are.structs right;
    enums = are.enums;
  }

  pub enums_put : PutsAnswer answers.enums after a b said → (IsTrue said ↔ BothAre ReadsEnum (slice_get t.enums a) (slice_get u.enums b)) → AreAnswers t u (record answers { enums = after })
  enums_put puts right = record {
    structs = are.structs;
    enums = put_answer (λ x y z. IsTrue z ↔ BothAre ReadsEnum (slice_get t.enums x) (slice_get u.enums y)) answers.enums after a b said puts are.enums right;
  }
