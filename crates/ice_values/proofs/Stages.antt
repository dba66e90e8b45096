-- How the two stages follow one another, and what is read in one piece.
use Rattle.std.proofs.Common.{◌≡◌, ℕ, suc, Bool, true, false, List, [], ◌++◌, length, Result, Ok, Err, Option, None, Some, ◌⊎◌, inl, inr, refl, sym, ap, ◌∙◌}
use Rattle.ice_prims.specs.declared.fault.Fault.{Fault}
use Rattle.ice_prims.specs.Rest.{Rest, ◌>>=◌}
use Rattle.ice_types.specs.declared.kind.TypeRef.{TypeRef}
use Rattle.ice_types.specs.declared.declarations.Member.{Member}
use Rattle.ice_types.specs.declared.declarations.Shape.{Shape}
use Rattle.ice_types.specs.Tables.{Tables}
use Rattle.ice_encoding.specs.Tree.{Trees, none}
use Rattle.ice_encoding.specs.Port.{Reader}
use Rattle.ice_encoding.specs.Reading.{made, each_at, value_at}
use Rattle.ice_encoding.specs.Pausing.{Met, Inside, in_place}
use Rattle.ice_encoding.specs.Steps.{given}
use Rattle.ice_encoding.specs.Optionals.{Present, all_options, options_at}
use Rattle.ice_encoding.specs.OptionalMembers.{Members, with_optional, members_by, content_at, slice_members_at}
use Rattle.ice_values.specs.Frames.{join}
use Rattle.ice_values.specs.Going.{whole_at}
use Rattle.ice_values.specs.Rests.{then}
use Rattle.ice_values.proofs.Frames.{then-same}
use Rattle.value_parts.specs.declared.fields.Optionals.{Optionals}
use Rattle.value_parts.specs.declared.fields.Optionals.TheVariants.{Absent, Marked, ToEnd}
use Rattle.value_parts.specs.Shapes.{without_tag, with_tag, told_apart}
use Rattle.ice_values.specs.Unread.{kinds_of, required_behind, options_behind, options_from, options_by, left_required, from_stage, left_of_members}
use Rattle.graph_arena.specs.View.{view_all}
use Rattle.ice_values.specs.declared.required.RequiredReader.{RequiredReader}
use Rattle.ice_values.specs.declared.options.OptionsReader.{OptionsReader}
use Rattle.ice_values.specs.Advancing.{fresh_options, fresh_members, members_at}

marked-not : Marked ≡ Absent → ⊥
marked-not h = cc

to-end-not : ToEnd ≡ Absent → ⊥
to-end-not h = cc

pub not-absent : (o : Optionals) → (o ≡ Marked) ⊎ (o ≡ ToEnd) → o ≡ Absent → ⊥
not-absent o (inl is) absent = marked-not (sym is ∙ absent)
not-absent o (inr is) absent = to-end-not (sym is ∙ absent)

all-read : {S : Type 0} (read : Result (Trees × S × Rest) Fault) → then read (λ others s r. Ok (join none others, s, r)) ≡ read
all-read (Ok x) = refl
all-read (Err e) = refl

all-present : {S : Type 0} (read : Result (Present × S × Rest) Fault) → then read (λ others s r. Ok ([] ++ others, s, r)) ≡ read
all-present (Ok x) = refl
all-present (Err e) = refl

abbrev as_optional : {S : Type 0} → Trees → Present × S × Rest → Result (Members × S × Rest) Fault
as_optional values x = Ok (with_optional values x.0, x.1, x.2)

module _ {S : Type 0} (take : Option ℕ → Reader S Met) (t : Tables) (inside : Inside S) where
  required-all : (kinds : List TypeRef) (s : S) (r : Rest) → required_behind take t inside none kinds s r ≡ each_at (value_at (in_place take inside) t 100) kinds s r
  unfolding required_behind whole_at
  required-all kinds s r = all-read (each_at (value_at (in_place take inside) t 100) kinds s r)

  options-all : (marked : Bool) (members : List Member) (s : S) (r : Rest) → options_from take t inside marked members s r ≡ all_options (in_place take inside) t marked members s r
  unfolding options_behind
  options-all marked members s r = all-present (options_at (in_place take inside) t marked members (suc (length r.bytes)) None s r)

  by-optional : (from to : Reader S Present) → ((s : S) (r : Rest) → from s r ≡ to s r) → (shape : Shape) (s : S) (r : Rest)
      → members_by (in_place take inside) t to (told_apart shape) s r ≡ then (required_behind take t inside none (kinds_of (without_tag shape.required)) s r) (λ values. made (with_optional values) from)
  by-optional from to same shape s r =
      then-same (each_at (value_at (in_place take inside) t 100) (kinds_of (without_tag shape.required)) s r) (λ values. made (with_optional values) to) (λ values. made (with_optional values) from)
      (λ values s' r'. ap (λ (x : Result (Present × S × Rest) Fault). x >>= as_optional values) (sym (same s' r')))
      ∙ ap (λ (x : Result (Trees × S × Rest) Fault). then x (λ values. made (with_optional values) from)) (sym (required-all (kinds_of (without_tag shape.required)) s r))

  -- ---- before the first byte a reader still reads all members

  -- a whole content
  pub left-content : (shape : Shape) (s : S) (r : Rest) → content_at (in_place take inside) t (told_apart shape) s r ≡ left_of_members take t inside shape (fresh_members ToEnd) s r
  left-content shape s r =
      by-optional (options_from take t inside false (with_tag shape.optional)) (all_options (in_place take inside) t false (with_tag shape.optional)) (options-all false (with_tag shape.optional)) shape s r

  -- a slice with the flag
  pub left-slice : (shape : Shape) (s : S) (r : Rest) → slice_members_at (in_place take inside) t true (told_apart shape) s r ≡ left_of_members take t inside shape (fresh_members Marked) s r
  left-slice shape s r =
      by-optional (options_from take t inside true (with_tag shape.optional)) (all_options (in_place take inside) t true (with_tag shape.optional)) (options-all true (with_tag shape.optional)) shape s r

  -- a slice without it
  pub left-bare : (shape : Shape) (s : S) (r : Rest) → slice_members_at (in_place take inside) t false (told_apart shape) s r ≡ left_of_members take t inside shape (fresh_members Absent) s r
  left-bare shape s r = by-optional (given []) (given []) (λ s' r'. refl) shape s r

  pub left-fresh : (optionals : Optionals) (shape : Shape) (s : S) (r : Rest) → members_at take t inside optionals (told_apart shape) s r ≡ left_of_members take t inside shape (fresh_members optionals) s r
  unfolding members_at
  left-fresh Absent shape s r = left-bare shape s r
  left-fresh Marked shape s r = left-slice shape s r
  left-fresh ToEnd shape s r = left-content shape s r

  -- the optional members begin where the required ones end
  pub options-begin : (optionals : Optionals) (shape : Shape) (required now : RequiredReader) (s s' : S) (r r' : Rest) → (optionals ≡ Absent → ⊥) → left_required take t inside shape.required required s r ≡ Ok (view_all now.done, s', r')
      → from_stage take t inside optionals shape required None s r ≡ from_stage take t inside optionals shape now (Some (fresh_options (suc (length r'.bytes)))) s' r'
  options-begin Absent shape required now s s' r r' some read = absurd (some refl)
  options-begin Marked shape required now s s' r r' some read = ap (λ (x : Result (Trees × S × Rest) Fault). then x (λ values. made (with_optional values) (options_by take t inside Marked (with_tag shape.optional)))) read
  options-begin ToEnd shape required now s s' r r' some read = ap (λ (x : Result (Trees × S × Rest) Fault). then x (λ values. made (with_optional values) (options_by take t inside ToEnd (with_tag shape.optional)))) read

  -- nothing is left of the required ones, and there are no optional ones
  pub required-end : (optionals : Optionals) (shape : Shape) (required : RequiredReader) (options : Option OptionsReader) (values : Trees) (s : S) (r : Rest) → options ≡ None → optionals ≡ Absent
      → left_required take t inside shape.required required s r ≡ Ok (values, s, r) → from_stage take t inside optionals shape required options s r ≡ Ok (with_optional values [], s, r)
  required-end optionals shape required options values s r nothing absent read =
      ap (λ (o : Option OptionsReader). from_stage take t inside optionals shape required o s r) nothing
      ∙ ap (λ (o : Optionals). from_stage take t inside o shape required None s r) absent
      ∙ ap (λ (x : Result (Trees × S × Rest) Fault). then x (λ vs. made (with_optional vs) (options_by take t inside Absent (with_tag shape.optional)))) read
