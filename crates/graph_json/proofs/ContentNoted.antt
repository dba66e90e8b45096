-- Members are read as what JSON notes, and as nothing else.
use Rattle.std.proofs.Common.{◌≡◌, List, [], ◌∷◌, Option, Some, None, refl, sym, subst, ◌∙◌, inl, inr}
use Rattle.std.specs.Prelude.{option_map, option_and_then, nat_eq}
use Rattle.std.proofs.lemmas.Bool.{eqb-true, eq-eqb}
use Rattle.std.proofs.lemmas.Option.{same_Some, cond_some}
use Rattle.serde_json.specs.Data as json
use Rattle.serde_json.specs.Data.{Data}
use Rattle.serde_json.specs.Find.{as_object, get_member}
use Rattle.serde_json.specs.Events.{members_len}
use Rattle.ice_types.specs.declared.kind.TypeRef.{TypeRef}
use Rattle.ice_types.specs.declared.declarations.Member.{Member}
use Rattle.ice_types.specs.declared.declarations.Shape.{Shape}
use Rattle.ice_types.specs.Tables.{Tables}
use Rattle.ice_types.specs.Rules.{IsSchema}
use Rattle.ice_encoding.specs.Tree.{Tree}
use Rattle.ice_encoding.specs.Optionals.{Present}
use Rattle.ice_encoding.specs.OptionalMembers.{Members, with_optional}
use Rattle.graph_json.specs.ValueNotation.{Noting, Notes}
use Rattle.graph_json.specs.ReadingValues.{Read, members_of, noted_value}
use Rattle.graph_json.specs.Contents.{put_at, count_of, NotesOption, NotesOptions, NotesContent, option_there, options_of, counted, content_in, noted_content}
use Rattle.graph_json.proofs.Shapes.{then_some, map_some, object_is}
use Rattle.graph_json.proofs.NotedValues.{Found, Only, members_found, members_only, plain_found, plain_only}

option_found : (read : TypeRef → Read Tree) (One : TypeRef → Noting Tree) → ((kind : TypeRef) → Found (read kind) (One kind)) → (m : Member) (found : json.Members) (before after : Present) (o : Option Data) → get_member m.name found ≡ o
    → option_there read m before o ≡ Some after → NotesOption One m found before after
option_found read One one m found before after None is e = inl (is, sym (same_Some before after e))
option_found read One one m found before after (Some d) is e =
    let tag = then_some m.tag (λ tag. option_map (λ v. put_at tag v before) (read m.kind d)) after e in
    let v = map_some (read m.kind d) (λ v. put_at tag.0 v before) after tag.2 in
    inr (d, tag.0, v.0, is, tag.1, one m.kind d v.0 v.1, sym v.2)

options_found : (read : TypeRef → Read Tree) (One : TypeRef → Noting Tree) → ((kind : TypeRef) → Found (read kind) (One kind)) → (ms : List Member) (found : json.Members) (before present : Present) → options_of read ms found before ≡ Some present
    → NotesOptions One ms found before present
options_found read One one [] found before present e = sym (same_Some before present e)
options_found read One one (m ∷ ms) found before present e =
    let next = then_some (option_there read m before (get_member m.name found)) (λ next. options_of read ms found next) present e in
    (next.0, option_found read One one m found before next.0 (get_member m.name found) refl next.1, options_found read One one ms found next.0 present next.2)

option_only : (read : TypeRef → Read Tree) (One : TypeRef → Noting Tree) → ((kind : TypeRef) → Only (read kind) (One kind)) → (m : Member) (found : json.Members) (before after : Present) → NotesOption One m found before after
    → option_there read m before (get_member m.name found) ≡ Some after
option_only read One one m found before after (inl h) = rw (h.0, h.1) refl
option_only read One one m found before after (inr h) = rw (h.3, h.4, one m.kind h.0 h.2 h.5, h.6) refl

options_only : (read : TypeRef → Read Tree) (One : TypeRef → Noting Tree) → ((kind : TypeRef) → Only (read kind) (One kind)) → (ms : List Member) (found : json.Members) (before present : Present) → NotesOptions One ms found before present
    → options_of read ms found before ≡ Some present
options_only read One one [] found before present h = rw h refl
options_only read One one (m ∷ ms) found before present h = rw (option_only read One one m found before h.0 h.1) (options_only read One one ms found h.0 present h.2)

module _ (t : Tables) (shape : Shape) where
  pub content_found : Found (noted_content t shape) (NotesContent t shape)
  content_found d c e =
      let o = then_some (as_object d) (content_in t shape) c e in
      let required = then_some (members_of (noted_value t) shape.required o.0) (λ required. option_and_then (λ optional. counted (members_len o.0) (with_optional required optional)) (options_of (noted_value t) shape.optional o.0 [])) c o.2 in
      let optional = then_some (options_of (noted_value t) shape.optional o.0 []) (λ optional. counted (members_len o.0) (with_optional required.0 optional)) c required.2 in
      let count = cond_some (nat_eq (members_len o.0) (count_of (with_optional required.0 optional.0))) (with_optional required.0 optional.0) c optional.2 in
      let all : NotesContent t shape d (with_optional required.0 optional.0) = (
        o.0,
        object_is d o.0 o.1,
        members_found (noted_value t) (Notes t) (λ kind. plain_found t kind) shape.required o.0 required.0 required.1,
        options_found (noted_value t) (Notes t) (λ kind. plain_found t kind) shape.optional o.0 [] optional.0 optional.1,
        eqb-true (members_len o.0) (count_of (with_optional required.0 optional.0)) count.0,
      ) in
      subst (NotesContent t shape d) count.1 all

  pub content_only : IsSchema t → Only (noted_content t shape) (NotesContent t shape)
  content_only rules d c h =
      let one = λ (kind : TypeRef) (x : Data) (v : Tree) (is : Notes t kind x v). plain_only t kind x v rules is in
      rw (
        h.1,
        members_only (noted_value t) (Notes t) one shape.required h.0 c.required h.2,
        options_only (noted_value t) (Notes t) one shape.optional h.0 [] c.optional h.3,
        eq-eqb (members_len h.0) (count_of c) h.4,
      ) refl

pub content_apart : (t : Tables) (shape : Shape) (d : Data) (a b : Members) → IsSchema t → NotesContent t shape d a → NotesContent t shape d b → a ≡ b
content_apart t shape d a b rules h g = same_Some a b (sym (content_only t shape rules d a h) ∙ content_only t shape rules d b g)
