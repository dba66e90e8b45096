-- What JSON notes as members is of their types.
use Rattle.std.proofs.Common.{◌≡◌, ◌≢◌, ℕ, ◌<◌, ◌≤◌, ◌^◌, Bool, true, false, List, [], ◌∷◌, All, Option, Some, None, refl, sym, ap, subst, ◌∙◌, inl, inr, arith}
use Rattle.std.specs.Prelude.{nat_eq, option_map}
use Rattle.std.proofs.lemmas.Bool.{eqb-true, ne_eqb, lt-ltb}
use Rattle.std.proofs.lemmas.Option.{none-some, same_Some}
use Rattle.std.proofs.lemmas.List.Elements.{All-head, All-tail}
use Rattle.serde_json.specs.Data as json
use Rattle.serde_json.specs.Data.{Data}
use Rattle.ice_types.specs.declared.kind.TypeRef.{TypeRef}
use Rattle.ice_types.specs.declared.declarations.Member.{Member}
use Rattle.ice_types.specs.declared.declarations.Shape.{Shape}
use Rattle.ice_types.specs.declared.schema.TheConstants.{MOST_DEPTH, MOST_NUMBER}
use Rattle.ice_types.specs.Fits.{tags_of}
use Rattle.ice_types.specs.Tables.{Tables}
use Rattle.ice_types.specs.Rules.{IsSchema}
use Rattle.ice_encoding.specs.Tree.{Tree}
use Rattle.ice_encoding.specs.Typed.{HasType, Refers, by_size}
use Rattle.ice_encoding.specs.TypedGraph.{AreOptions, AreMembers}
use Rattle.ice_encoding.specs.Optionals.{Present, kind_tagged}
use Rattle.ice_encoding.specs.OptionalMembers.{Members}
use Rattle.graph_json.specs.ValueNotation.{Notes}
use Rattle.graph_json.specs.Contents.{HasOwnNames, put_at, NotesOption, NotesOptions, NotesContent}
use Rattle.graph_json.proofs.OfType.{members_typed, noted_type}
use Rattle.graph_json.proofs.ContentCanon.{In, tags_none, tags_some, tagged_own, ApartTags, tags_apart, value_tagged, Above, Rising, none_above, stands, passes, put_rises, put_found, put_others, kind_is}

small_at : (o : Option ℕ) (most : ℕ) (x : Member) (xs : List Member) (m : Member) (k : ℕ) → x.tag ≡ o → All (λ n. n ≤ most) (tags_of (x ∷ xs)) → In m (x ∷ xs) → m.tag ≡ Some k → (All (λ n. n ≤ most) (tags_of xs) → In m xs → k ≤ most) → k ≤ most
small_at None most x xs m k is all (inl same) it later = absurd (none-some k (sym is ∙ ap (λ (y : Member). y.tag) (sym same) ∙ it))
small_at None most x xs m k is all (inr in_it) it later = later (subst (All (λ n. n ≤ most)) (tags_none x xs is) all) in_it
small_at (Some n) most x xs m k is all (inl same) it later =
    let first = All-head (λ j. j ≤ most) n (tags_of xs) (subst (All (λ j. j ≤ most)) (tags_some x xs n is) all) in
    subst (λ (j : ℕ). j ≤ most) (same_Some n k (sym is ∙ ap (λ (y : Member). y.tag) (sym same) ∙ it)) first
small_at (Some n) most x xs m k is all (inr in_it) it later = later (All-tail (λ j. j ≤ most) n (tags_of xs) (subst (All (λ j. j ≤ most)) (tags_some x xs n is) all)) in_it

small_tag : (most : ℕ) (ms : List Member) (m : Member) (k : ℕ) → All (λ n. n ≤ most) (tags_of ms) → In m ms → m.tag ≡ Some k → k ≤ most
small_tag most [] m k all in_it is = absurd in_it
small_tag most (x ∷ xs) m k all in_it is = small_at x.tag most x xs m k refl all in_it is (λ rest later. small_tag most xs m k rest later is)

module _ (t : Tables) (Refer : Refers) (ms : List Member) where
  -- each value is of the type of the member with its tag
  abbrev IsTyped : ℕ → Tree → Type 0
  IsTyped k v = (k < 2 ^ 31) × (kind : TypeRef) × (kind_tagged k ms ≡ Some kind) × HasType t Refer MOST_DEPTH kind v

  abbrev AreTyped : Present → Type 0
  AreTyped ps = (k : ℕ) (v : Tree) → value_tagged k ps ≡ Some v → IsTyped k v

  rest_typed : (o : ℕ × Tree) (ps : Present) → Above o.0 ps → AreTyped (o ∷ ps) → AreTyped ps
  rest_typed o ps above all k v here =
      let other : k ≢ o.0 = λ e. none-some v (sym (none_above o.0 ps above) ∙ ap (λ (n : ℕ). value_tagged n ps) (sym e) ∙ here) in
      all k v (passes k o ps (ne_eqb k o.0 other) ∙ here)

  options_behind : (last : ℕ) (ps : Present) → Above last ps → Rising ps → AreTyped ps → AreOptions t Refer ms (Some last) ps
  options_behind last [] above rising all = tt
  options_behind last (o ∷ ps) above rising all =
      let here = all o.0 o.1 (stands o ps) in
      (lt-ltb last o.0 above.0, here.0, here.1, here.2, here.3, options_behind o.0 ps rising.0 rising.1 (rest_typed o ps rising.0 all))

  are_options : (ps : Present) → Rising ps → AreTyped ps → AreOptions t Refer ms None ps
  are_options [] rising all = tt
  are_options (o ∷ ps) rising all =
      let here = all o.0 o.1 (stands o ps) in
      (refl, here.0, here.1, here.2, here.3, options_behind o.0 ps rising.0 rising.1 (rest_typed o ps rising.0 all))

  put_typed_at : (b : Bool) (k : ℕ) (v : Tree) (ps : Present) (q : ℕ) (w : Tree) → nat_eq q k ≡ b → IsTyped k v → AreTyped ps → value_tagged q (put_at k v ps) ≡ Some w → IsTyped q w
  put_typed_at true k v ps q w test is all here =
      let same = eqb-true q k test in
      let value : v ≡ w = same_Some v w (sym (put_found k v ps) ∙ ap (λ (n : ℕ). value_tagged n (put_at k v ps)) (sym same) ∙ here) in
      subst (λ (n : ℕ). IsTyped n w) (sym same) (subst (IsTyped k) value is)
  put_typed_at false k v ps q w test is all here = all q w (sym (put_others q k v ps test) ∙ here)

module _ (t : Tables) (rules : IsSchema t) (all : List Member) (tags : ApartTags all) (small : All (λ n. n ≤ MOST_NUMBER) (tags_of all)) where
  tag_typed : (d : Data) (m : Member) (k : ℕ) (v : Tree) → In m all → m.tag ≡ Some k → Notes t m.kind d v → IsTyped t by_size all k v
  tag_typed d m k v in_it is h =
      let le = small_tag MOST_NUMBER all m k small in_it is in
      let own : kind_tagged k all ≡ Some m.kind = kind_is k all ∙ ap (option_map (λ (x : Member). x.kind)) (tagged_own k all m tags in_it is) in
      (omega (arith, le), m.kind, own, noted_type t rules m.kind d v h)

  option_typed : (m : Member) (found : json.Members) (before after : Present) → In m all → NotesOption (Notes t) m found before after → Rising before → AreTyped t by_size all before → Rising after × AreTyped t by_size all after
  option_typed m found before after in_it (inl h) rising typed = rw h.1 (rising, typed)
  option_typed m found before after in_it (inr h) rising typed =
      let is = tag_typed h.0 m h.1 h.2 in_it h.4 h.5 in
      rw h.6 (put_rises h.1 h.2 before rising, λ q w here. put_typed_at t by_size all (nat_eq q h.1) h.1 h.2 before q w refl is typed here)

  all_typed : (ms : List Member) (found : json.Members) (before present : Present) → ((m : Member) → In m ms → In m all) → NotesOptions (Notes t) ms found before present → Rising before → AreTyped t by_size all before
      → Rising present × AreTyped t by_size all present
  all_typed [] found before present inside h rising typed = rw h (rising, typed)
  all_typed (m ∷ ms) found before present inside h rising typed =
      let next = option_typed m found before h.0 (inside m (inl refl)) h.1 rising typed in
      all_typed ms found h.0 present (λ x in_it. inside x (inr in_it)) h.2 next.0 next.1

pub content_is_typed : (t : Tables) (shape : Shape) (d : Data) (c : Members) → IsSchema t → HasOwnNames shape → NotesContent t shape d c → AreMembers t by_size shape c
content_is_typed t shape d c rules own h =
    let tags = tags_apart [] shape.optional own.tags.1 in
    let options = all_typed t rules shape.optional tags own.tags.0 shape.optional h.0 [] c.optional (λ m in_it. in_it) h.3 tt (λ k v e. absurd (none-some v e)) in
    record {
      required = members_typed (Notes t) (HasType t by_size MOST_DEPTH) (λ kind x v is. noted_type t rules kind x v is) shape.required h.0 c.required h.2;
      optional = are_options t by_size shape.optional c.optional options.0 options.1;
    }
