-- The members that bytes spell are of their types, where each reference may stand.
use Rattle.std.proofs.Common.{◌≤◌, ℕ, zero, suc, ◌<◌, ◌^◌, ◌≡◌, ◌==◌, ltb, Bool, true, false, List, [], ◌∷◌, ◌++◌, refl, sym, subst, arith, Option, Some, None}
use Rattle.std.proofs.lemmas.Bool.{ltb-true, lt-ltb}
use Rattle.ice_types.specs.declared.kind.TypeRef.{TypeRef}
use Rattle.ice_types.specs.declared.declarations.Member.{Member}
use Rattle.ice_types.specs.declared.declarations.Shape.{Shape}
use Rattle.ice_types.specs.declared.optional_format.TheConstants.{FORMAT_CLASS}
use Rattle.ice_types.specs.declared.schema.TheConstants.{MOST_DEPTH}
use Rattle.ice_types.specs.Tables.{Tables}
use Rattle.ice_types.specs.Rules.{IsSchema}
use Rattle.ice_prims.specs.Rest.{IsBytes}
use Rattle.ice_prims.proofs.Parts.{IsBytes-front, IsBytes-rest}
use Rattle.ice_encoding.specs.declared.limits.TheConstants.{LARGEST}
use Rattle.ice_encoding.specs.Tags.{tag, rises}
use Rattle.ice_encoding.proofs.Tagged.{tag_lawful, tag_within}
use Rattle.ice_encoding.specs.Tree.{Tree}
use Rattle.ice_encoding.specs.Port.{Port, Speller}
use Rattle.ice_encoding.specs.Spelling.{Each, SpellsValue}
use Rattle.ice_encoding.specs.Typed.{Refers, EachOf, HasType}
use Rattle.ice_encoding.proofs.Typed.{Spelled, value_typed}
use Rattle.ice_encoding.specs.Prefixes.{Prefix, no_length, own_size, as_size, as_int, prefix_of, Framed}
use Rattle.ice_encoding.specs.Optionals.{Present, with_option, kind_tagged, SkippedBy, Tagged, Options, AllOptions}
use Rattle.ice_encoding.specs.OptionalMembers.{required_kinds, IfFlagged, SpellsSliceMembers, SpellsContent}
use Rattle.ice_encoding.specs.TypedGraph.{AreOptions, AreMembers}
use Rattle.graph_laws.proofs.Carried.{Steps, known_by, slice_carried, content_carried, front_fits, rest_fits}

tag_below : (bytes : List ℕ) (number format : ℕ) → IsBytes bytes → tag.Spells bytes (number, format) → number < 2 ^ 31
tag_below bytes number format fits h = (tag_within (number, format) (tag_lawful.sort bytes (number, format) fits h)).0

rises_on : (last : Option ℕ) (number other : ℕ) → rises last number ≡ true → ltb number other ≡ true → rises last other ≡ true
rises_on None number other p q = refl
rises_on (Some last) number other p q = lt-ltb last other (omega (arith, ltb-true last number p, ltb-true number other q))

each_typed : {S : Type 0} (One : TypeRef → Speller S Tree) (Typed : TypeRef → Tree → Type 0) → ((kind : TypeRef) → Spelled (One kind) (Typed kind)) → (ks : List TypeRef) → Spelled (Each One ks) (EachOf Typed ks)
each_typed One Typed one [] bytes values from to fits h = h.1
each_typed One Typed one (kind ∷ ks) bytes values from to fits h =
    (h.0, h.1, h.5, one kind h.2 h.0 from h.4 (front_fits bytes h.2 h.3 h.6 fits) h.7, each_typed One Typed one ks h.3 h.1 h.4 to (rest_fits bytes h.2 h.3 h.6 fits) h.8)

module _ {R S : Type 0} (port : Port R S) (t : Tables) (rules : IsSchema t) (Refer : Refers) (wide : LARGEST ≤ Refer.most) (refers : (declared : Option ℕ) → Spelled (port.Spells declared) (Refer.Held declared)) where
  one_typed : (kind : TypeRef) → Spelled (SpellsValue port t MOST_DEPTH kind) (HasType t Refer MOST_DEPTH kind)
  one_typed = value_typed port t rules Refer wide refers MOST_DEPTH

  framed_typed : (prefix : Prefix) (Spells : Speller S Tree) (Is : Tree → Type 0) → Spelled Spells Is → Spelled (Framed prefix Spells) Is
  framed_typed no_length Spells Is one = one
  framed_typed own_size Spells Is one = one
  framed_typed as_size Spells Is one = λ bytes v from to fits h. one h.1 v from to (rest_fits bytes h.0 h.1 h.2 fits) h.4
  framed_typed as_int Spells Is one = λ bytes v from to fits h. one h.1 v from to (rest_fits bytes h.0 h.1 h.2 fits) h.4

  skipped_none : (reference : Bool) (format : ℕ) → Spelled (SkippedBy port t reference format) (λ v. v ≡ None)
  skipped_none true format bytes v from to fits h = h.1
  skipped_none false format bytes v from to fits h = h.1

  -- under a tag that is not known nothing is kept
  abbrev Under : Option TypeRef → Option Tree → Type 0
  Under None v = v ≡ None
  Under (Some kind) v = (x : Tree) × (v ≡ Some x) × HasType t Refer MOST_DEPTH kind x

  tagged_typed : (kind : Option TypeRef) (format : ℕ) → Spelled (Tagged port t kind format) (Under kind)
  tagged_typed None format bytes v from to fits h = skipped_none (format == FORMAT_CLASS) format bytes v from to fits h
  tagged_typed (Some kind) format bytes v from to fits (test, (x, is, h)) =
      (x, is, framed_typed (prefix_of t kind) (SpellsValue port t MOST_DEPTH kind) (HasType t Refer MOST_DEPTH kind) (one_typed kind) bytes x from to fits h)

  -- what is above a tag is above those below it
  from_below : (members : List Member) (last : Option ℕ) (number : ℕ) (os : Present) → rises last number ≡ true → AreOptions t Refer members (Some number) os → AreOptions t Refer members last os
  from_below members last number [] rise h = tt
  from_below members last number (o ∷ os) rise h = (rises_on last number o.0 rise h.0, h.1, h.2, h.3, h.4, h.5)

  with_under : (members : List Member) (last : Option ℕ) (number : ℕ) (kind : Option TypeRef) (v : Option Tree) (others : Present) → kind_tagged number members ≡ kind → rises last number ≡ true → number < 2 ^ 31 → Under kind v
      → AreOptions t Refer members (Some number) others → AreOptions t Refer members last (with_option number v others)
  with_under members last number None v others is rise lt h more =
      subst (λ (o : Option Tree). AreOptions t Refer members last (with_option number o others)) (sym h) (from_below members last number others rise more)
  with_under members last number (Some kind) v others is rise lt (x, v_is, h) more =
      subst (λ (o : Option Tree). AreOptions t Refer members last (with_option number o others)) (sym v_is) (rise, lt, kind, is, h, more)

  options_typed : (marked : Bool) (members : List Member) (n : ℕ) (last : Option ℕ) → Spelled (Options port t marked members n last) (AreOptions t Refer members last)
  options_typed marked members zero last bytes os from to fits h = subst (AreOptions t Refer members last) (sym h.1) tt
  options_typed marked members (suc n) last bytes os from to fits (number, format, v, others, lead, a, b, mid, parts, is_tag, rise, is_value, is_list, rest) =
      let behind = rest_fits bytes lead (a ++ b) parts fits in
      let more = options_typed marked members n (Some number) b others mid to (IsBytes-rest a b behind) rest in
      let one = tagged_typed (kind_tagged number members) format a v from mid (IsBytes-front a b behind) is_value in
      let small = tag_below lead number format (front_fits bytes lead (a ++ b) parts fits) is_tag in
      subst (AreOptions t Refer members last) (sym is_list) (with_under members last number (kind_tagged number members) v others refl rise small one more)

  all_typed : (marked : Bool) (members : List Member) → Spelled (AllOptions port t marked members) (AreOptions t Refer members None)
  all_typed marked members bytes os from to fits h = options_typed marked members h.0 None bytes os from to fits h.1

  flagged_typed : (flagged : Bool) (members : List Member) → Spelled (IfFlagged port t flagged (AllOptions port t true members)) (AreOptions t Refer members None)
  flagged_typed true members = all_typed true members
  flagged_typed false members = λ bytes os from to fits h. subst (AreOptions t Refer members None) (sym h.1) tt

  required_typed : (shape : Shape) → Spelled (Each (SpellsValue port t MOST_DEPTH) (required_kinds shape)) (EachOf (HasType t Refer MOST_DEPTH) (required_kinds shape))
  required_typed shape = each_typed (SpellsValue port t MOST_DEPTH) (HasType t Refer MOST_DEPTH) one_typed (required_kinds shape)

  slice_known : (flagged : Bool) (shape : Shape) → Spelled (SpellsSliceMembers port t flagged shape) (AreMembers t Refer shape)
  slice_known flagged shape bytes c from to fits (required, a, b, mid, parts, each, (optional, is, h)) =
      let one = required_typed shape a required from mid (front_fits bytes a b parts fits) each in
      let two = flagged_typed flagged shape.optional b optional mid to (rest_fits bytes a b parts fits) h in
      subst (AreMembers t Refer shape) (sym is) (record { required = one; optional = two })

  content_known : (shape : Shape) → Spelled (SpellsContent port t shape) (AreMembers t Refer shape)
  content_known shape bytes c from to fits (required, a, b, mid, parts, each, (optional, is, h)) =
      let one = required_typed shape a required from mid (front_fits bytes a b parts fits) each in
      let two = all_typed false shape.optional b optional mid to (rest_fits bytes a b parts fits) h in
      subst (AreMembers t Refer shape) (sym is) (record { required = one; optional = two })

-- ---- where references refer well if the state is well at the end

module _ {R S : Type 0} (port : Port R S) (t : Tables) (rules : IsSchema t) (steps : Steps S) (Refer : Refers) (wide : LARGEST ≤ Refer.most)
    (refers : (declared n : Option ℕ) (bytes : List ℕ) (from to : S) → IsBytes bytes → port.Spells declared bytes n from to → steps.Fine to → steps.Step from to × Refer.Held declared n) where
  abbrev other : Port R S
  other = known_by Refer port

  abbrev pub Sound : {A : Type 0} → Speller S A → (A → Type 0) → Type 0
  Sound {A} Spells Typed = (bytes : List ℕ) (v : A) (from to : S) → IsBytes bytes → Spells bytes v from to → steps.Fine to → steps.Step from to × Typed v

  pub slice_typed : (flagged : Bool) (shape : Shape) → Sound (SpellsSliceMembers port t flagged shape) (AreMembers t Refer shape)
  slice_typed flagged shape bytes c from to fits h fine =
      let r = slice_carried port t steps Refer refers flagged shape bytes c from to fits h fine in
      (r.0, slice_known other t rules Refer wide (λ declared bytes n from to fits h. h) flagged shape bytes c from to fits r.1)

  pub content_typed : (shape : Shape) → Sound (SpellsContent port t shape) (AreMembers t Refer shape)
  content_typed shape bytes c from to fits h fine =
      let r = content_carried port t steps Refer refers shape bytes c from to fits h fine in
      (r.0, content_known other t rules Refer wide (λ declared bytes n from to fits h. h) shape bytes c from to fits r.1)
