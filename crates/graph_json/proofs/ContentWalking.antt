-- Members read and written one after the other, as a loop does.
use Rattle.std.proofs.Common.{◌≡◌, ℕ, suc, ◌+◌, length, Bool, true, false, List, [], ◌∷◌, Option, None, Some, option_map, refl, sym, ap, ◌∙◌, arith}
use Rattle.std.specs.Prelude.{option_and_then, nat_eq}
use Rattle.std.specs.Option.{is_none, is_some}
use Rattle.std.specs.Ordering.{nat_cmp, match_ordering}
use Rattle.std.specs.BTreeMap.{insert_entry}
use Rattle.std.specs.declared.cmp.Ordering.{Ordering}
use Rattle.std.specs.declared.cmp.Ordering.TheVariants.{Less, Equal, Greater}
use Rattle.serde_json.specs.Data.{Data, Members}
use Rattle.serde_json.specs.Find.{as_object, get_member}
use Rattle.serde_json.specs.Events.{members_len}
use Rattle.graph_json.specs.View.{members_view}
use Rattle.graph_json.specs.View.{Entry}
use Rattle.graph_json.proofs.Views.{members_len-members_view}
use Rattle.ice_types.specs.declared.kind.TypeRef.{TypeRef}
use Rattle.ice_types.specs.declared.declarations.Member.{Member}
use Rattle.ice_types.specs.declared.declarations.Shape.{Shape}
use Rattle.ice_types.specs.Tables.{Tables}
use Rattle.ice_encoding.specs.Tree.{Tree, Trees, none, tree, tree_count}
use Rattle.ice_encoding.specs.Optionals.{Present}
use Rattle.ice_encoding.specs.OptionalMembers.{with_optional}
use Rattle.graph_arena.specs.declared.value.Value.{Value}
use Rattle.graph_arena.specs.View.{view, view_all}
use Rattle.graph_arena.specs.Seen.{view_present}
use Rattle.graph_arena.proofs.Shapes.{count_all}
use Rattle.value_parts.specs.Shapes.{without_tag, with_tag}
use Rattle.graph_json.specs.ReadingValues.{Read, members_of, noted_value}
use Rattle.graph_json.specs.Contents.{put_at, options_of, noted_content}
use Rattle.graph_json.proofs.WalkingValues.{join, join-none, regroup}

untagged : (tag : Option ℕ) → is_some tag ≡ false → is_none tag ≡ true
untagged None e = refl
untagged (Some n) e = absurd cc

tagged : (tag : Option ℕ) → is_some tag ≡ true → is_none tag ≡ false
tagged None e = absurd cc
tagged (Some n) e = refl

-- ---- the members without a tag

module _ (of : TypeRef → Read Tree) (left behind : List Member) (m : Member) (is : left ≡ m ∷ behind) (found : Members) (front : Trees) (total : Option Trees) (so_far : option_map (join front) (members_of of (without_tag left) found) ≡ total) where
  pub required_skips : is_some m.tag ≡ true → option_map (join front) (members_of of (without_tag behind) found) ≡ total
  required_skips has =
      let first : option_map (join front) (members_of of (without_tag left) found) ≡ option_map (join front) (members_of of (without_tag behind) found) = rw (is, tagged m.tag has) refl in
      sym first ∙ so_far

  pub required_goes_on : (v : Tree) → is_some m.tag ≡ false → Some v ≡ option_and_then (of m.kind) (get_member m.name found) → option_map (join (join front (tree v none))) (members_of of (without_tag behind) found) ≡ total
  required_goes_on v lacks h =
      let first : option_map (join front) (members_of of (without_tag left) found) ≡ option_map (join (join front (tree v none))) (members_of of (without_tag behind) found) = rw (is, untagged m.tag lacks, ← h) (regroup front v (members_of of (without_tag behind) found)) in
      sym first ∙ so_far

  pub required_stops : is_some m.tag ≡ false → None ≡ option_and_then (of m.kind) (get_member m.name found) → None ≡ total
  required_stops lacks h =
      let first : option_map (join front) (members_of of (without_tag left) found) ≡ None = rw (is, untagged m.tag lacks, ← h) refl in
      sym first ∙ so_far

pub required_done : (of : TypeRef → Read Tree) (left : List Member) (found : Members) (front : Trees) (total : Option Trees) → left ≡ [] → option_map (join front) (members_of of (without_tag left) found) ≡ total → Some front ≡ total
required_done of left found front total is so_far =
    let first : option_map (join front) (members_of of (without_tag left) found) ≡ Some front = rw (is, join-none front) refl in
    sym first ∙ so_far

-- ---- the members with a tag

module _ (of : TypeRef → Read Tree) (left behind : List Member) (m : Member) (is : left ≡ m ∷ behind) (found : Members) (before : Present) (total : Option Present) (so_far : options_of of (with_tag left) found before ≡ total) where
  pub options_skip : m.tag ≡ None → options_of of (with_tag behind) found before ≡ total
  options_skip lacks =
      let first : options_of of (with_tag left) found before ≡ options_of of (with_tag behind) found before = rw (is, lacks) refl in
      sym first ∙ so_far

  pub options_lack : (tag : ℕ) → m.tag ≡ Some tag → None ≡ get_member m.name found → options_of of (with_tag behind) found before ≡ total
  options_lack tag has g =
      let first : options_of of (with_tag left) found before ≡ options_of of (with_tag behind) found before = rw (is, has, ← g) refl in
      sym first ∙ so_far

  pub options_go_on : (tag : ℕ) (d : Data) (v : Tree) → m.tag ≡ Some tag → Some d ≡ get_member m.name found → Some v ≡ of m.kind d → options_of of (with_tag behind) found (put_at tag v before) ≡ total
  options_go_on tag d v has g h =
      let first : options_of of (with_tag left) found before ≡ options_of of (with_tag behind) found (put_at tag v before) = rw (is, has, ← g, ← h) refl in
      sym first ∙ so_far

  pub options_stop : (tag : ℕ) (d : Data) → m.tag ≡ Some tag → Some d ≡ get_member m.name found → None ≡ of m.kind d → None ≡ total
  options_stop tag d has g h =
      let first : options_of of (with_tag left) found before ≡ None = rw (is, has, ← g, ← h) refl in
      sym first ∙ so_far

present_at : (o : Ordering) (es : List (ℕ × Value)) (e : ℕ × Value) (tag : ℕ) (v : Value) → view_present (insert_entry nat_cmp es tag v) ≡ put_at tag (view v) (view_present es)
    → view_present (match_ordering o ((tag, v) ∷ e ∷ es) ((e.0, v) ∷ es) (e ∷ insert_entry nat_cmp es tag v))
    ≡ match_ordering o ((tag, view v) ∷ (e.0, view e.1) ∷ view_present es) ((e.0, view v) ∷ view_present es) ((e.0, view e.1) ∷ put_at tag (view v) (view_present es))
present_at Less es e tag v later = refl
present_at Equal es e tag v later = refl
present_at Greater es e tag v later = ap (λ (l : Present). (e.0, view e.1) ∷ l) later

pub present_put : (es : List (ℕ × Value)) (tag : ℕ) (v : Value) → view_present (insert_entry nat_cmp es tag v) ≡ put_at tag (view v) (view_present es)
present_put [] tag v = refl
present_put (e ∷ es) tag v = present_at (nat_cmp tag e.0) es e tag v (present_put es tag v)

-- ---- how many they are

counted_present : (os : List (ℕ × Value)) → length (view_present os) ≡ length os
counted_present [] = refl
counted_present (o ∷ os) = ap suc (counted_present os)

module _ (t : Tables) (shape : Shape) (es : List Entry) (d : Data) (n a b : ℕ) (sum : Bool) (all : Option (List Value)) (required : List Value) (some : Option (List (ℕ × Value))) (optional : List (ℕ × Value))
    (is : Some (members_view es) ≡ as_object d) (all_is : all ≡ Some required) (all_told : option_map view_all all ≡ members_of (noted_value t) shape.required (members_view es))
    (some_are : some ≡ Some optional) (some_told : option_map view_present some ≡ options_of (noted_value t) shape.optional (members_view es) [])
    (names : n ≡ length es) (first : a ≡ length required) (second : b ≡ length optional) (told : sum ≡ nat_eq n (a + b)) where
  required_is : members_of (noted_value t) shape.required (members_view es) ≡ Some (view_all required)
  required_is = sym all_told ∙ ap (option_map view_all) all_is

  optional_is : options_of (noted_value t) shape.optional (members_view es) [] ≡ Some (view_present optional)
  optional_is = sym some_told ∙ ap (option_map view_present) some_are

  sum_is : nat_eq (members_len (members_view es)) (tree_count (view_all required) + length (view_present optional)) ≡ sum
  sum_is =
      let whole : members_len (members_view es) ≡ n = members_len-members_view es ∙ sym names in
      let parts : tree_count (view_all required) + length (view_present optional) ≡ a + b = omega (arith, first, second, count_all required, counted_present optional) in
      ap (λ (k : ℕ). nat_eq k (tree_count (view_all required) + length (view_present optional))) whole ∙ ap (nat_eq n) parts ∙ sym told

  pub content_is : sum ≡ true → Some (with_optional (view_all required) (view_present optional)) ≡ noted_content t shape d
  content_is test = rw (← is, required_is, optional_is, sum_is, test) refl

  pub content_is_not : sum ≡ false → None ≡ noted_content t shape d
  content_is_not test = rw (← is, required_is, optional_is, sum_is, test) refl
