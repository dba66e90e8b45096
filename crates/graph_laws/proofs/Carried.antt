-- What each reference does to the state, all that is spelled does; and what is said of each reference goes with it.
use Rattle.std.proofs.Common.{ℕ, zero, suc, ◌≡◌, ◌==◌, Bool, true, false, List, [], ◌∷◌, ◌++◌, map, replicate, sym, subst, Option, Some, None}
use Rattle.ice_types.specs.declared.kind.TypeRef.{TypeRef}
use Rattle.ice_types.specs.declared.kind.TypeRef.TheVariants as kinds
use Rattle.ice_types.specs.declared.declarations.Member.{Member}
use Rattle.ice_types.specs.declared.declarations.Shape.{Shape}
use Rattle.ice_types.specs.declared.optional_format.TheConstants.{FORMAT_CLASS}
use Rattle.ice_types.specs.declared.schema.TheConstants.{MOST_DEPTH}
use Rattle.ice_types.specs.Tables.{Tables}
use Rattle.ice_prims.specs.Rest.{IsBytes}
use Rattle.ice_prims.proofs.Parts.{IsBytes-front, IsBytes-rest}
use Rattle.ice_encoding.specs.Tree.{Tree, Entries, no_entry}
use Rattle.ice_encoding.specs.Order.{insert}
use Rattle.ice_encoding.specs.Port.{Port, Speller}
use Rattle.ice_encoding.specs.Spelling.{Each, Pairs, SpellsValue}
use Rattle.ice_encoding.specs.Typed.{Refers}
use Rattle.ice_encoding.specs.Prefixes.{Prefix, no_length, own_size, as_size, as_int, prefix_of, Framed}
use Rattle.ice_encoding.specs.Optionals.{kind_tagged, SkippedBy, Tagged, Options, AllOptions}
use Rattle.ice_encoding.specs.OptionalMembers.{required_kinds, IfFlagged, SpellsSliceMembers, SpellsContent}

pub front_fits : (bytes a b : List ℕ) → bytes ≡ a ++ b → IsBytes bytes → IsBytes a
front_fits bytes a b e fits = IsBytes-front a b (subst IsBytes e fits)

pub rest_fits : (bytes a b : List ℕ) → bytes ≡ a ++ b → IsBytes bytes → IsBytes b
rest_fits bytes a b e fits = IsBytes-rest a b (subst IsBytes e fits)

-- A step between states leads well from the first to the second, where the second is well; then the first is well too.
pub record Steps (S : Type 0) : Type 1 where
  pub Fine : S → Type 0
  pub Step : S → S → Type 0
  pub same : (s : S) → Step s s
  pub joined : (a b c : S) → Step a b → Step b c → Step a c
  pub back : (a b : S) → Step a b → Fine b → Fine a

-- the port of which no more is known than what may stand as a reference
abbrev pub known_by : {R S : Type 0} → Refers → Port R S → Port R S
known_by Refer port = record { seen = port.seen; read = port.read; Spells = λ declared bytes n from to. Refer.Held declared n }

module _ {R S : Type 0} (port : Port R S) (t : Tables) (steps : Steps S) (Refer : Refers)
    (refers : (declared n : Option ℕ) (bytes : List ℕ) (from to : S) → IsBytes bytes → port.Spells declared bytes n from to → steps.Fine to → steps.Step from to × Refer.Held declared n) where
  abbrev other : Port R S
  other = known_by Refer port

  abbrev pub Carried : {A : Type 0} → Speller S A → Speller S A → Type 0
  Carried {A} Spells Others = (bytes : List ℕ) (v : A) (from to : S) → IsBytes bytes → Spells bytes v from to → steps.Fine to → steps.Step from to × Others bytes v from to

  still : (from to : S) → to ≡ from → steps.Step from to
  still from to e = subst (λ (s : S). steps.Step from s) (sym e) (steps.same from)

  each_carried : (One Two : TypeRef → Speller S Tree) → ((kind : TypeRef) → Carried (One kind) (Two kind)) → (ks : List TypeRef) → Carried (Each One ks) (Each Two ks)
  each_carried One Two one [] bytes vs from to fits h fine = (still from to h.2, h)
  each_carried One Two one (kind ∷ ks) bytes vs from to fits h fine =
      let rest = each_carried One Two one ks h.3 h.1 h.4 to (rest_fits bytes h.2 h.3 h.6 fits) h.8 fine in
      let first = one kind h.2 h.0 from h.4 (front_fits bytes h.2 h.3 h.6 fits) h.7 (steps.back h.4 to rest.0 fine) in
      (steps.joined from h.4 to first.0 rest.0, (h.0, h.1, h.2, h.3, h.4, h.5, h.6, first.1, rest.1))

  pairs_carried : (Key Held Key' Held' : Speller S Tree) → Carried Key Key' → Carried Held Held' → (n : ℕ) (earlier : Entries) → Carried (Pairs Key Held n earlier) (Pairs Key' Held' n earlier)
  pairs_carried Key Held Key' Held' key held zero earlier bytes ps from to fits h fine = (still from to h.2, h)
  pairs_carried Key Held Key' Held' key held (suc n) earlier bytes ps from to fits h fine =
      let behind = rest_fits bytes h.2 (h.3 ++ h.4) h.7 fits in
      let rest = pairs_carried Key Held Key' Held' key held n (insert h.0 h.1 earlier) h.4 ps h.6 to (IsBytes-rest h.3 h.4 behind) h.11 fine in
      let fine_held = steps.back h.6 to rest.0 fine in
      let value = held h.3 h.1 h.5 h.6 (IsBytes-front h.3 h.4 behind) h.10 fine_held in
      let first = key h.2 h.0 from h.5 (front_fits bytes h.2 (h.3 ++ h.4) h.7 fits) h.8 (steps.back h.5 h.6 value.0 fine_held) in
      (steps.joined from h.5 to first.0 (steps.joined h.5 h.6 to value.0 rest.0), (h.0, h.1, h.2, h.3, h.4, h.5, h.6, h.7, first.1, h.9, value.1, rest.1))

  value_carried : (levels : ℕ) (kind : TypeRef) → Carried (SpellsValue port t levels kind) (SpellsValue other t levels kind)
  value_carried zero kind bytes v from to fits h fine = absurd h
  value_carried (suc levels) kinds.Bool bytes v from to fits h fine = (still from to h.2.1, h)
  value_carried (suc levels) kinds.Byte bytes v from to fits h fine = (still from to h.2.1, h)
  value_carried (suc levels) kinds.Short bytes v from to fits h fine = (still from to h.2.1, h)
  value_carried (suc levels) kinds.Int bytes v from to fits h fine = (still from to h.2.1, h)
  value_carried (suc levels) kinds.Long bytes v from to fits h fine = (still from to h.2.1, h)
  value_carried (suc levels) kinds.Text bytes v from to fits h fine = (still from to h.2.1, h)
  value_carried (suc levels) (kinds.Enum at) bytes v from to fits h fine = (still from to h.2.2.1, h)
  value_carried (suc levels) (kinds.Proxy at) bytes v from to fits h fine = (still from to h.2.1, h)
  value_carried (suc levels) (kinds.Class declared) bytes v from to fits h fine =
      let r = refers declared h.0 bytes from to fits h.2 fine in
      (r.0, (h.0, h.1, r.1))
  value_carried (suc levels) (kinds.Seq at) bytes v from to fits (q, row, (items, is, (n, front, body, parts, size, each))) fine =
      let all = each_carried (SpellsValue port t levels) (SpellsValue other t levels) (value_carried levels) (replicate n q.element) body items from to (rest_fits bytes front body parts fits) each fine in
      (all.0, (q, row, (items, is, (n, front, body, parts, size, all.1))))
  value_carried (suc levels) (kinds.Dict at) bytes v from to fits (d, row, (pairs, is, (n, front, body, parts, size, some))) fine =
      let all = pairs_carried (SpellsValue port t levels d.key) (SpellsValue port t levels d.value) (SpellsValue other t levels d.key) (SpellsValue other t levels d.value) (value_carried levels d.key) (value_carried levels d.value) n no_entry body pairs from to
      (rest_fits bytes front body parts fits) some fine in
      (all.0, (d, row, (pairs, is, (n, front, body, parts, size, all.1))))
  value_carried (suc levels) (kinds.Struct at) bytes v from to fits (d, row, (members, is, each)) fine =
      let all = each_carried (SpellsValue port t levels) (SpellsValue other t levels) (value_carried levels) (map (λ m. m.kind) d.members) bytes members from to fits each fine in
      (all.0, (d, row, (members, is, all.1)))

  framed_carried : (prefix : Prefix) (Spells Others : Speller S Tree) → Carried Spells Others → Carried (Framed prefix Spells) (Framed prefix Others)
  framed_carried no_length Spells Others one = one
  framed_carried own_size Spells Others one = one
  framed_carried as_size Spells Others one = λ bytes v from to fits h fine. let r = one h.1 v from to (rest_fits bytes h.0 h.1 h.2 fits) h.4 fine in (r.0, (h.0, h.1, h.2, h.3, r.1))
  framed_carried as_int Spells Others one = λ bytes v from to fits h fine. let r = one h.1 v from to (rest_fits bytes h.0 h.1 h.2 fits) h.4 fine in (r.0, (h.0, h.1, h.2, h.3, r.1))

  skipped_carried : (reference : Bool) (format : ℕ) → Carried (SkippedBy port t reference format) (SkippedBy other t reference format)
  skipped_carried true format bytes v from to fits h fine =
      let r = refers None h.0 bytes from to fits h.2 fine in
      (r.0, (h.0, h.1, r.1))
  skipped_carried false format bytes v from to fits h fine = (still from to h.2, h)

  tagged_carried : (kind : Option TypeRef) (format : ℕ) → Carried (Tagged port t kind format) (Tagged other t kind format)
  tagged_carried None format bytes v from to fits h fine = skipped_carried (format == FORMAT_CLASS) format bytes v from to fits h fine
  tagged_carried (Some kind) format bytes v from to fits (test, (x, is, h)) fine =
      let r = framed_carried (prefix_of t kind) (SpellsValue port t MOST_DEPTH kind) (SpellsValue other t MOST_DEPTH kind) (value_carried MOST_DEPTH kind) bytes x from to fits h fine in
      (r.0, (test, (x, is, r.1)))

  options_carried : (marked : Bool) (members : List Member) (n : ℕ) (last : Option ℕ) → Carried (Options port t marked members n last) (Options other t marked members n last)
  options_carried marked members zero last bytes os from to fits h fine = (still from to h.2, h)
  options_carried marked members (suc n) last bytes os from to fits (number, format, v, others, lead, a, b, mid, parts, is_tag, rise, is_value, is_list, rest) fine =
      let behind = rest_fits bytes lead (a ++ b) parts fits in
      let more = options_carried marked members n (Some number) b others mid to (IsBytes-rest a b behind) rest fine in
      let one = tagged_carried (kind_tagged number members) format a v from mid (IsBytes-front a b behind) is_value (steps.back mid to more.0 fine) in
      (steps.joined from mid to one.0 more.0, (number, format, v, others, lead, a, b, mid, parts, is_tag, rise, one.1, is_list, more.1))

  all_carried : (marked : Bool) (members : List Member) → Carried (AllOptions port t marked members) (AllOptions other t marked members)
  all_carried marked members bytes os from to fits h fine =
      let r = options_carried marked members h.0 None bytes os from to fits h.1 fine in
      (r.0, (h.0, r.1))

  flagged_carried : (flagged : Bool) (members : List Member) → Carried (IfFlagged port t flagged (AllOptions port t true members)) (IfFlagged other t flagged (AllOptions other t true members))
  flagged_carried true members = all_carried true members
  flagged_carried false members = λ bytes os from to fits h fine. (still from to h.2, h)

  pub slice_carried : (flagged : Bool) (shape : Shape) → Carried (SpellsSliceMembers port t flagged shape) (SpellsSliceMembers other t flagged shape)
  slice_carried flagged shape bytes c from to fits (required, a, b, mid, parts, each, (optional, is, h)) fine =
      let two = flagged_carried flagged shape.optional b optional mid to (rest_fits bytes a b parts fits) h fine in
      let one = each_carried (SpellsValue port t MOST_DEPTH) (SpellsValue other t MOST_DEPTH) (value_carried MOST_DEPTH) (required_kinds shape) a required from mid (front_fits bytes a b parts fits) each (steps.back mid to two.0 fine) in
      (steps.joined from mid to one.0 two.0, (required, a, b, mid, parts, one.1, (optional, is, two.1)))

  pub content_carried : (shape : Shape) → Carried (SpellsContent port t shape) (SpellsContent other t shape)
  content_carried shape bytes c from to fits (required, a, b, mid, parts, each, (optional, is, h)) fine =
      let two = all_carried false shape.optional b optional mid to (rest_fits bytes a b parts fits) h fine in
      let one = each_carried (SpellsValue port t MOST_DEPTH) (SpellsValue other t MOST_DEPTH) (value_carried MOST_DEPTH) (required_kinds shape) a required from mid (front_fits bytes a b parts fits) each (steps.back mid to two.0 fine) in
      (steps.joined from mid to one.0 two.0, (required, a, b, mid, parts, one.1, (optional, is, two.1)))
