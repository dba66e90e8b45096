-- What few enough bytes spell can be noted: the texts of its proxies are short, and what is kept is bytes.
use Rattle.std.proofs.Common.{ℕ, zero, suc, ◌≤◌, ◌≡◌, ◌==◌, Bool, true, false, List, [], ◌∷◌, ◌++◌, length, map, replicate, sym, subst, arith, Option, Some, None}
use Rattle.std.proofs.lemmas.List.{length-append}
use Rattle.ice_types.specs.declared.kind.TypeRef.{TypeRef}
use Rattle.ice_types.specs.declared.kind.TypeRef.TheVariants as kinds
use Rattle.ice_types.specs.declared.declarations.Member.{Member}
use Rattle.ice_types.specs.declared.declarations.Shape.{Shape}
use Rattle.ice_types.specs.declared.optional_format.TheConstants.{FORMAT_CLASS}
use Rattle.ice_types.specs.declared.schema.TheConstants.{MOST_DEPTH}
use Rattle.ice_types.specs.Tables.{Tables}
use Rattle.ice_prims.specs.Rest.{IsBytes}
use Rattle.ice_prims.proofs.Parts.{IsBytes-front, IsBytes-rest}
use Rattle.ice_encoding.specs.declared.limits.TheConstants.{LARGEST}
use Rattle.ice_encoding.specs.Tree.{Tree, Entries, no_entry, InEach, InPairs}
use Rattle.ice_encoding.specs.Order.{insert}
use Rattle.ice_encoding.specs.Port.{Port, Speller}
use Rattle.ice_encoding.specs.Spelling.{Each, Pairs, SpellsValue}
use Rattle.ice_encoding.proofs.Inserting.{insert_inside}
use Rattle.ice_encoding.specs.Prefixes.{Prefix, no_length, own_size, as_size, as_int, prefix_of, Framed}
use Rattle.ice_encoding.specs.Optionals.{Present, kind_tagged, with_option, SkippedBy, Tagged, Options, AllOptions}
use Rattle.ice_encoding.specs.OptionalMembers.{required_kinds, IfFlagged, SpellsSliceMembers, SpellsContent}
use Rattle.graph_json.specs.TypedValues.{IsShort, HasShortTexts}
use Rattle.graph_json.specs.Contents.{AreShort, ContentIsShort}
use Rattle.graph_json.proofs.ShortTexts.{spelled_short}

-- bytes, and no more of them than an encapsulation may have
pub record Few (bytes : List ℕ) : Type 0 where
  pub fits : IsBytes bytes
  pub small : length bytes ≤ LARGEST

few_both : (a b : List ℕ) → Few (a ++ b) → Few a × Few b
few_both a b h = (
  record { fits = IsBytes-front a b h.fits; small = omega (arith, h.small, length-append a b) },
  record { fits = IsBytes-rest a b h.fits; small = omega (arith, h.small, length-append a b) },
)

pub front_few : (bytes a b : List ℕ) → bytes ≡ a ++ b → Few bytes → Few a
front_few bytes a b e h = (few_both a b (subst Few e h)).0

pub rest_few : (bytes a b : List ℕ) → bytes ≡ a ++ b → Few bytes → Few b
rest_few bytes a b e h = (few_both a b (subst Few e h)).1

-- A step between states that what is spelled makes.
pub record Keeping (S : Type 0) : Type 1 where
  pub Keeps : S → S → Type 0
  pub same : (s : S) → Keeps s s
  pub joined : (a b c : S) → Keeps a b → Keeps b c → Keeps a c

module _ {R S : Type 0} (port : Port R S) (t : Tables) (keeping : Keeping S)
    (refers : (declared n : Option ℕ) (bytes : List ℕ) (from to : S) → Few bytes → port.Spells declared bytes n from to → keeping.Keeps from to) where
  -- what few enough bytes spell is so, and makes such a step
  abbrev pub Shows : {A : Type 0} → Speller S A → (A → Type 0) → Type 0
  Shows {A} Spells Is = (bytes : List ℕ) (v : A) (from to : S) → Few bytes → Spells bytes v from to → keeping.Keeps from to × Is v

  still : (from to : S) → to ≡ from → keeping.Keeps from to
  still from to e = subst (λ (s : S). keeping.Keeps from s) (sym e) (keeping.same from)

  each_short : (One : TypeRef → Speller S Tree) → ((kind : TypeRef) → Shows (One kind) HasShortTexts) → (ks : List TypeRef) → Shows (Each One ks) (InEach IsShort)
  each_short One one [] bytes vs from to few h = (still from to h.2, subst (InEach IsShort) (sym h.1) tt)
  each_short One one (kind ∷ ks) bytes vs from to few (v, others, a, b, mid, is, parts, first, rest) =
      let x = one kind a v from mid (front_few bytes a b parts few) first in
      let y = each_short One one ks b others mid to (rest_few bytes a b parts few) rest in
      (keeping.joined from mid to x.0 y.0, subst (InEach IsShort) (sym is) (x.1, y.1))

  pairs_short : (Key Held : Speller S Tree) → Shows Key HasShortTexts → Shows Held HasShortTexts → (n : ℕ) (earlier : Entries) → InPairs IsShort earlier → Shows (Pairs Key Held n earlier) (InPairs IsShort)
  pairs_short Key Held key held zero earlier so bytes pairs from to few h = (still from to h.2, subst (InPairs IsShort) (sym h.1) so)
  pairs_short Key Held key held (suc n) earlier so bytes pairs from to few h =
      let behind = few_both h.3 h.4 (rest_few bytes h.2 (h.3 ++ h.4) h.7 few) in
      let x = key h.2 h.0 from h.5 (front_few bytes h.2 (h.3 ++ h.4) h.7 few) h.8 in
      let y = held h.3 h.1 h.5 h.6 behind.0 h.10 in
      let z = pairs_short Key Held key held n (insert h.0 h.1 earlier) (insert_inside IsShort h.0 h.1 earlier x.1 y.1 so) h.4 pairs h.6 to behind.1 h.11 in
      (keeping.joined from h.5 to x.0 (keeping.joined h.5 h.6 to y.0 z.0), z.1)

  value_short : (levels : ℕ) (kind : TypeRef) → Shows (SpellsValue port t levels kind) HasShortTexts
  value_short zero kind bytes v from to few h = absurd h
  value_short (suc levels) kinds.Bool bytes v from to few h = (still from to h.2.1, subst HasShortTexts (sym h.1) tt)
  value_short (suc levels) kinds.Byte bytes v from to few h = (still from to h.2.1, subst HasShortTexts (sym h.1) tt)
  value_short (suc levels) kinds.Short bytes v from to few h = (still from to h.2.1, subst HasShortTexts (sym h.1) tt)
  value_short (suc levels) kinds.Int bytes v from to few h = (still from to h.2.1, subst HasShortTexts (sym h.1) tt)
  value_short (suc levels) kinds.Long bytes v from to few h = (still from to h.2.1, subst HasShortTexts (sym h.1) tt)
  value_short (suc levels) kinds.Text bytes v from to few h = (still from to h.2.1, subst HasShortTexts (sym h.1) tt)
  value_short (suc levels) (kinds.Enum at) bytes v from to few h = (still from to h.2.2.1, subst HasShortTexts (sym h.2.1) tt)
  value_short (suc levels) (kinds.Proxy at) bytes v from to few h = (still from to h.2.1, subst HasShortTexts (sym h.1) (spelled_short bytes h.0 few.fits few.small h.2.0))
  value_short (suc levels) (kinds.Class declared) bytes v from to few h = (refers declared h.0 bytes from to few h.2, subst HasShortTexts (sym h.1) tt)
  value_short (suc levels) (kinds.Seq at) bytes v from to few (q, row, (items, is, (n, front, body, parts, size, each))) =
      let x = each_short (SpellsValue port t levels) (value_short levels) (replicate n q.element) body items from to (rest_few bytes front body parts few) each in
      (x.0, subst HasShortTexts (sym is) (tt, x.1))
  value_short (suc levels) (kinds.Dict at) bytes v from to few (d, row, (pairs, is, (n, front, body, parts, size, some))) =
      let x = pairs_short (SpellsValue port t levels d.key) (SpellsValue port t levels d.value) (value_short levels d.key) (value_short levels d.value) n no_entry tt body pairs from to (rest_few bytes front body parts few) some in
      (x.0, subst HasShortTexts (sym is) (tt, x.1))
  value_short (suc levels) (kinds.Struct at) bytes v from to few (d, row, (members, is, each)) =
      let x = each_short (SpellsValue port t levels) (value_short levels) (map (λ m. m.kind) d.members) bytes members from to few each in
      (x.0, subst HasShortTexts (sym is) (tt, x.1))

  framed_short : (prefix : Prefix) (Spells : Speller S Tree) → Shows Spells HasShortTexts → Shows (Framed prefix Spells) HasShortTexts
  framed_short no_length Spells one = one
  framed_short own_size Spells one = one
  framed_short as_size Spells one = λ bytes v from to few h. one h.1 v from to (rest_few bytes h.0 h.1 h.2 few) h.4
  framed_short as_int Spells one = λ bytes v from to few h. one h.1 v from to (rest_few bytes h.0 h.1 h.2 few) h.4

  -- under a tag that is not known nothing is kept
  abbrev Under : Option Tree → Type 0
  Under None = Unit {0}
  Under (Some v) = HasShortTexts v

  skipped_short : (reference : Bool) (format : ℕ) → Shows (SkippedBy port t reference format) Under
  skipped_short true format bytes v from to few h = (refers None h.0 bytes from to few h.2, subst Under (sym h.1) tt)
  skipped_short false format bytes v from to few h = (still from to h.2, subst Under (sym h.1) tt)

  tagged_short : (kind : Option TypeRef) (format : ℕ) → Shows (Tagged port t kind format) Under
  tagged_short None format bytes v from to few h = skipped_short (format == FORMAT_CLASS) format bytes v from to few h
  tagged_short (Some kind) format bytes v from to few (test, (x, is, h)) =
      let y = framed_short (prefix_of t kind) (SpellsValue port t MOST_DEPTH kind) (value_short MOST_DEPTH kind) bytes x from to few h in
      (y.0, subst Under (sym is) y.1)

  with_under : (number : ℕ) (v : Option Tree) (others : Present) → Under v → AreShort others → AreShort (with_option number v others)
  with_under number None others h more = more
  with_under number (Some v) others h more = (h, more)

  options_short : (marked : Bool) (members : List Member) (n : ℕ) (last : Option ℕ) → Shows (Options port t marked members n last) AreShort
  options_short marked members zero last bytes os from to few h = (still from to h.2, subst AreShort (sym h.1) tt)
  options_short marked members (suc n) last bytes os from to few (number, format, v, others, lead, a, b, mid, parts, is_tag, rise, is_value, is_list, rest) =
      let both = few_both a b (rest_few bytes lead (a ++ b) parts few) in
      let x = tagged_short (kind_tagged number members) format a v from mid both.0 is_value in
      let y = options_short marked members n (Some number) b others mid to both.1 rest in
      (keeping.joined from mid to x.0 y.0, subst AreShort (sym is_list) (with_under number v others x.1 y.1))

  all_short : (marked : Bool) (members : List Member) → Shows (AllOptions port t marked members) AreShort
  all_short marked members bytes os from to few h = options_short marked members h.0 None bytes os from to few h.1

  flagged_short : (flagged : Bool) (members : List Member) → Shows (IfFlagged port t flagged (AllOptions port t true members)) AreShort
  flagged_short true members = all_short true members
  flagged_short false members = λ bytes os from to few h. (still from to h.2, subst AreShort (sym h.1) tt)

  required_short : (shape : Shape) → Shows (Each (SpellsValue port t MOST_DEPTH) (required_kinds shape)) (InEach IsShort)
  required_short shape = each_short (SpellsValue port t MOST_DEPTH) (value_short MOST_DEPTH) (required_kinds shape)

  pub slice_short : (flagged : Bool) (shape : Shape) → Shows (SpellsSliceMembers port t flagged shape) ContentIsShort
  slice_short flagged shape bytes c from to few (required, a, b, mid, parts, each, (optional, is, h)) =
      let x = required_short shape a required from mid (front_few bytes a b parts few) each in
      let y = flagged_short flagged shape.optional b optional mid to (rest_few bytes a b parts few) h in
      (keeping.joined from mid to x.0 y.0, subst ContentIsShort (sym is) (x.1, y.1))

  pub content_short : (shape : Shape) → Shows (SpellsContent port t shape) ContentIsShort
  content_short shape bytes c from to few (required, a, b, mid, parts, each, (optional, is, h)) =
      let x = required_short shape a required from mid (front_few bytes a b parts few) each in
      let y = all_short false shape.optional b optional mid to (rest_few bytes a b parts few) h in
      (keeping.joined from mid to x.0 y.0, subst ContentIsShort (sym is) (x.1, y.1))
