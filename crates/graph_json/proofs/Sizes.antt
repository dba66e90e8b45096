-- Sizes that are tested before the parts are read.
use Rattle.std.proofs.Common.{rules, ◌≡◌, ℕ, true, false, length, ◌^◌, ◌≤◌, ◌<◌, List, [], ◌∷◌, Option, None, Some, option_map, refl, sym, ap, ◌∙◌, arith}
use Rattle.std.specs.Prelude.{codes, nat_lt, nat_eq, option_and_then}
use Rattle.std.proofs.lemmas.Bool.{lt-ltb, le-ltb, eq-eqb, ne_eqb}
use Rattle.std.specs.Str.{IsUtf8, is_utf8}
use Rattle.std.proofs.lemmas.Str.{is_utf8-from_IsUtf8}
use Rattle.serde_json.specs.Data.{Data, Items, Members}
use Rattle.serde_json.specs.Find.{as_array, as_number, as_object, get_member}
use Rattle.serde_json.specs.Events.{items_len, members_len}
use Rattle.graph_json.specs.View.{items_view, members_view}
use Rattle.graph_json.specs.declared.tree.Json.{Json}
use Rattle.graph_json.specs.View.{Entry}
use Rattle.graph_json.proofs.Views.{items_len-items_view, members_len-members_view}
use Rattle.ice_encoding.specs.Tree.{Tree, text, sequence, dictionary, struct, Trees, Entries}
use Rattle.graph_arena.specs.declared.value.Value.{Value, the_lemmas}
use Rattle.graph_arena.specs.declared.value.Value.TheVariants as variants
use Rattle.graph_arena.proofs.Shapes.{view_seq, view_dict, view_members}
use Rattle.graph_arena.specs.View.{view, view_all, view_pairs}
use Rattle.graph_json.specs.ReadingValues.{text_from, few, whole, pair_from, pair_of, name_from, name_of}

few_within : (js : List Json) (n : ℕ) → n ≡ length js → n < 2147483648 → nat_lt (items_len (items_view js)) (2 ^ 31) ≡ true
few_within js n len lt = let size = items_len-items_view js in lt-ltb _ _ (omega (arith, size))

pub few_above : {A : Type 0} (read : Items → Option A) (js : List Json) (n : ℕ) → n ≡ length js → 2147483648 ≤ n → None ≡ few read (items_view js)
few_above read js n len le =
    let size = items_len-items_view js in
    let above : nat_lt (items_len (items_view js)) (2 ^ 31) ≡ false = le-ltb _ _ (omega (arith, size)) in
    rw above refl

pub seq_is : (read : Items → Option Trees) (js ks : List Json) (n : ℕ) (o : Option (List Value)) (items : List Value) → o ≡ Some items → ks ≡ js → n ≡ length js → n < 2147483648
    → option_map view_all o ≡ read (items_view ks) → Some (view (variants.Seq items)) ≡ few (λ ds. option_map sequence (read ds)) (items_view js)
seq_is read js ks n o items is same len lt h =
    let all : read (items_view js) ≡ Some (view_all items) = ap (λ (l : List Json). read (items_view l)) (sym same) ∙ sym h ∙ ap (option_map view_all) is in
    rw (few_within js n len lt, all, view_seq items) refl

pub dict_is : (read : Items → Option Entries) (js ks : List Json) (n : ℕ) (o : Option (List (Value × Value))) (pairs : List (Value × Value)) → o ≡ Some pairs → ks ≡ js → n ≡ length js → n < 2147483648
    → option_map view_pairs o ≡ read (items_view ks) → Some (view (variants.Pairs pairs)) ≡ few (λ ds. option_map dictionary (read ds)) (items_view js)
dict_is read js ks n o pairs is same len lt h =
    let all : read (items_view js) ≡ Some (view_pairs pairs) = ap (λ (l : List Json). read (items_view l)) (sym same) ∙ sym h ∙ ap (option_map view_pairs) is in
    rw (few_within js n len lt, all, view_dict pairs) refl

pub struct_is : (read : Members → Option Trees) (es : List Entry) (n k : ℕ) (o : Option (List Value)) (items : List Value) → o ≡ Some items → n ≡ length es → n ≡ k
    → option_map view_all o ≡ read (members_view es) → Some (view (variants.Members items)) ≡ whole k (λ ms. option_map struct (read ms)) (members_view es)
struct_is read es n k o items is len same h =
    let all : read (members_view es) ≡ Some (view_all items) = sym h ∙ ap (option_map view_all) is in
    let count : nat_eq (members_len (members_view es)) k ≡ true = eq-eqb _ _ (members_len-members_view es ∙ sym len ∙ same) in
    rw (count, all, view_members items) refl

pub struct_is_not : (read : Members → Option Trees) (es : List Entry) (n k : ℕ) → n ≡ length es → (n ≡ k → ⊥) → None ≡ whole k (λ ms. option_map struct (read ms)) (members_view es)
struct_is_not read es n k len other =
    let count : nat_eq (members_len (members_view es)) k ≡ false = ne_eqb _ _ (λ e. other (len ∙ sym (members_len-members_view es) ∙ e)) in
    rw count refl

not_two : (js : List Json) → (length js ≡ 2 → ⊥) → pair_from (items_view js) ≡ None
not_two [] other = refl
not_two (a ∷ []) other = refl
not_two (a ∷ b ∷ []) other = absurd (other refl)
not_two (a ∷ b ∷ d ∷ js) other = refl

pub no_pair : (js : List Json) (d : Data) → Some (items_view js) ≡ as_array d → (length js ≡ 2 → ⊥) → None ≡ pair_of d
no_pair js d is other = rw (← is, not_two js other) refl

pub text_is : (s : List ℕ) → IsUtf8 s → length s < 2147483648 → text_from s ≡ Some (text s)
text_is s valid short =
    let a : is_utf8 s ≡ true = is_utf8-from_IsUtf8 s valid in
    let b : nat_lt (length s) (2 ^ 31) ≡ true = lt-ltb _ _ (omega (arith, short)) in
    rw (a, b) refl

pub view_text : (s : List ℕ) → view (variants.Text s) ≡ text s
view_text s = search (rules, the_lemmas)

pub some_text : (s r : List ℕ) → IsUtf8 s → length s < 2147483648 → r ≡ s → Some (view (variants.Text r)) ≡ text_from s
some_text s r valid short same = ap (λ (v : Tree). some_tree v) (view_text r ∙ ap text same) ∙ sym (text_is s valid short)
  where
    some_tree : Tree → Option Tree
    some_tree v = Some v

-- ---- the one name of an object

alone : (es : List Entry) (n : ℕ) → n ≡ length es → n ≡ 1 → nat_eq (members_len (members_view es)) 1 ≡ true
alone es n len one = eq-eqb _ _ (members_len-members_view es ∙ sym len ∙ one)

pub name_there : (es : List Entry) (d x : Data) (n : ℕ) (r : Option ℕ) → Some (members_view es) ≡ as_object d → n ≡ length es → n ≡ 1 → Some x ≡ get_member (codes "$") (members_view es) → r ≡ option_and_then name_from (as_number x) → r ≡ name_of d
name_there es d x n r is len one there told = rw (← is, alone es n len one, ← there) told

pub name_not_alone : (es : List Entry) (d : Data) (n : ℕ) → Some (members_view es) ≡ as_object d → n ≡ length es → (n ≡ 1 → ⊥) → None ≡ name_of d
name_not_alone es d n is len other =
    let count : nat_eq (members_len (members_view es)) 1 ≡ false = ne_eqb _ _ (λ e. other (len ∙ sym (members_len-members_view es) ∙ e)) in
    rw (← is, count) refl
