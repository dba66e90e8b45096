-- Of the members that are read, each has the tag of a member, and the tags rise.
use Rattle.std.proofs.Common.{◌≡◌, ℕ, zero, suc, Bool, true, false, eqb, ltb, List, [], ◌∷◌, Option, Some, None, refl, sym, subst, arith}
use Rattle.std.specs.Option.{is_some}
use Rattle.std.proofs.lemmas.Bool.{ltb-true, lt-ltb}
use Rattle.ice_types.specs.declared.kind.TypeRef.{TypeRef}
use Rattle.ice_types.specs.declared.declarations.Member.{Member}
use Rattle.ice_types.specs.declared.declarations.Shape.{Shape}
use Rattle.ice_types.specs.declared.optional_format.TheConstants.{FORMAT_CLASS}
use Rattle.ice_types.specs.Tables.{Tables}
use Rattle.ice_encoding.specs.Tags.{rises}
use Rattle.ice_encoding.specs.Tree.{Tree}
use Rattle.ice_encoding.specs.Port.{Port}
use Rattle.ice_encoding.specs.Optionals.{Present, with_option, kind_tagged, ArePresent, SkippedBy, Tagged, Options}
use Rattle.ice_encoding.specs.OptionalMembers.{Members, SpellsContent, SpellsSliceMembers, IfFlagged}
use Rattle.ice_encoding.specs.Optionals.{AllOptions}

rises_on : (last : Option ℕ) (number other : ℕ) → rises last number ≡ true → ltb number other ≡ true → rises last other ≡ true
rises_on None number other p q = refl
rises_on (Some last) number other p q = lt-ltb last other (omega (arith, ltb-true last number p, ltb-true number other q))

-- what is above a tag is above those below it
from_below : (members : List Member) (last : Option ℕ) (number : ℕ) (values : Present) → rises last number ≡ true → ArePresent members (Some number) values → ArePresent members last values
from_below members last number [] rise are = tt
from_below members last number ((other, v) ∷ others) rise are = (rises_on last number other rise are.0, are.1, are.2)

module _ {R S : Type 0} (port : Port R S) (t : Tables) where
  skipped_none : (reference : Bool) (format : ℕ) (bytes : List ℕ) (v : Option Tree) (from to : S) → SkippedBy port t reference format bytes v from to → v ≡ None
  skipped_none true format bytes v from to h = h.1
  skipped_none false format bytes v from to h = h.1

  -- what is kept is of a known tag
  unknown_known : (kind : Option TypeRef) (format : ℕ) (bytes : List ℕ) (v : Tree) (from to : S) → Tagged port t kind format bytes (Some v) from to → is_some kind ≡ true
  unknown_known None format bytes v from to h = let other : Some v ≡ None = skipped_none (eqb format FORMAT_CLASS) format bytes (Some v) from to h in absurd cc
  unknown_known (Some kind) format bytes v from to h = refl

  module _ (marked : Bool) (members : List Member) where
    one_present : (last : Option ℕ) (number format : ℕ) (bytes : List ℕ) (v : Option Tree) (others : Present) (from to : S) → rises last number ≡ true → Tagged port t (kind_tagged number members) format bytes v from to
        → ArePresent members (Some number) others → ArePresent members last (with_option number v others)
    one_present last number format bytes None others from to rise is are = from_below members last number others rise are
    one_present last number format bytes (Some v) others from to rise is are = (rise, unknown_known (kind_tagged number members) format bytes v from to is, are)

    pub options_present : (n : ℕ) (last : Option ℕ) (bytes : List ℕ) (values : Present) (from to : S) → Options port t marked members n last bytes values from to → ArePresent members last values
    options_present zero last bytes values from to h = subst (ArePresent members last) (sym h.1) tt
    options_present (suc n) last bytes values from to (number, format, v, others, lead, a, b, mid, parts, is_tag, rise, is_value, is_list, rest) =
        subst (ArePresent members last) (sym is_list) (one_present last number format a v others from mid rise is_value (options_present n (Some number) b others mid to rest))

  all_present : (marked : Bool) (shape : Shape) (bytes : List ℕ) (values : Present) (from to : S) → AllOptions port t marked shape.optional bytes values from to → ArePresent shape.optional None values
  all_present marked shape bytes values from to h = options_present marked shape.optional h.0 None bytes values from to h.1

  pub content_present : (shape : Shape) (bytes : List ℕ) (v : Members) (from to : S) → SpellsContent port t shape bytes v from to → ArePresent shape.optional None v.optional
  content_present shape bytes v from to h = rw h.6.1 (all_present false shape h.2 h.6.0 h.3 to h.6.2)

  flagged_present : (flagged : Bool) (shape : Shape) (bytes : List ℕ) (values : Present) (from to : S) → IfFlagged port t flagged (AllOptions port t true shape.optional) bytes values from to → ArePresent shape.optional None values
  flagged_present true shape bytes values from to h = all_present true shape bytes values from to h
  flagged_present false shape bytes values from to h = subst (ArePresent shape.optional None) (sym h.1) tt

  pub slice_present : (flagged : Bool) (shape : Shape) (bytes : List ℕ) (v : Members) (from to : S) → SpellsSliceMembers port t flagged shape bytes v from to → ArePresent shape.optional None v.optional
  slice_present flagged shape bytes v from to h = rw h.6.1 (flagged_present flagged shape h.2 h.6.0 h.3 to h.6.2)
