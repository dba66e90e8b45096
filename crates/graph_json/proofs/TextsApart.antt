-- A text lists one graph, or there is one reason why it lists none.
use Rattle.std.proofs.Common.{ap, ◌≡◌, ◌<◌, ℕ, List, Some, refl, sym, ◌∙◌, subst, arith}
use Rattle.std.specs.Prelude.{length}
use Rattle.std.proofs.lemmas.Option.{same_Some}
use Rattle.serde_json.specs.Data.{Data}
use Rattle.ice_types.specs.declared.declarations.Shape.{Shape}
use Rattle.ice_types.specs.Tables.{Tables}
use Rattle.ice_encoding.specs.Graph.{Graph}
use Rattle.ice_encoding.specs.TypedGraph.{OfType}
use Rattle.graph_json.specs.declared.fault.JsonKind.{JsonKind}
use Rattle.graph_json.specs.declared.fault.JsonKind.TheVariants as kinds
use Rattle.graph_json.specs.declared.text.TheConstants.{MOST_TEXT}
use Rattle.graph_json.specs.Reading.{listed_graph}
use Rattle.graph_json.specs.Texts.{IsJson, IsRefused, Lists, ListsTooMany, WithJson}

pub one_json : (text : List ℕ) (d e : Data) → IsJson text d → IsJson text e → d ≡ e
one_json text d e p q = same_Some d e (sym p.1 ∙ q.1)

pub one_listed : (t : Tables) (shape : Shape) (text : List ℕ) (g h : Graph) → Lists t shape text g → Lists t shape text h → g ≡ h
one_listed t shape text g h (le, d, is, (few, listed, typed)) (le', e, is', (few', listed', typed')) =
    same_Some g h (sym listed ∙ ap (listed_graph t shape) (one_json text d e is is') ∙ listed')

-- what is said of one JSON is not denied of another
json_clash : (text : List ℕ) (P Q : Data → Type 0) → ((d : Data) → P d → Q d → ⊥) → WithJson text P → WithJson text Q → ⊥
json_clash text P Q never (le, d, is, p) (le', e, is', q) = never e (subst P (one_json text d e is is') p) q

json_none : (text : List ℕ) (P : Data → Type 0) → ((d : Data) → IsJson text d → ⊥) → WithJson text P → ⊥
json_none text P none (le, d, is, p) = none d is

too_long : (text : List ℕ) (P : Data → Type 0) → MOST_TEXT < length text → WithJson text P → ⊥
too_long text P long (le, d, is, p) = absurd (omega (arith, long, le))

abbrev AreFit : Tables → Shape → Graph → Data → Type 0
AreFit t shape g d = (ListsTooMany d → ⊥) × (listed_graph t shape d ≡ Some g) × OfType t shape g

abbrev IsMisfit : Tables → Shape → Data → Type 0
IsMisfit t shape d = (ListsTooMany d → ⊥) × ((g : Graph) → listed_graph t shape d ≡ Some g → OfType t shape g → ⊥)

pub never_refused : (t : Tables) (shape : Shape) (text : List ℕ) (g : Graph) (a : JsonKind) → Lists t shape text g → IsRefused t shape text a → ⊥
never_refused t shape text g kinds.TooLong p q = too_long text (AreFit t shape g) q p
never_refused t shape text g kinds.NotJson p q = json_none text (AreFit t shape g) q.1 p
never_refused t shape text g kinds.TooMany p q = json_clash text (AreFit t shape g) ListsTooMany (λ d fits many. fits.0 many) p q
never_refused t shape text g kinds.Misfit p q = json_clash text (AreFit t shape g) (IsMisfit t shape) (λ d fits none. none.1 g fits.1 fits.2) p q

pub one_reason : (t : Tables) (shape : Shape) (text : List ℕ) (a b : JsonKind) → IsRefused t shape text a → IsRefused t shape text b → a ≡ b
one_reason t shape text kinds.TooLong kinds.TooLong p q = refl
one_reason t shape text kinds.TooLong kinds.NotJson p q = absurd (omega (arith, p, q.0))
one_reason t shape text kinds.TooLong kinds.TooMany p q = absurd (too_long text ListsTooMany p q)
one_reason t shape text kinds.TooLong kinds.Misfit p q = absurd (too_long text (IsMisfit t shape) p q)
one_reason t shape text kinds.NotJson kinds.TooLong p q = absurd (omega (arith, q, p.0))
one_reason t shape text kinds.NotJson kinds.NotJson p q = refl
one_reason t shape text kinds.NotJson kinds.TooMany p q = absurd (json_none text ListsTooMany p.1 q)
one_reason t shape text kinds.NotJson kinds.Misfit p q = absurd (json_none text (IsMisfit t shape) p.1 q)
one_reason t shape text kinds.TooMany kinds.TooLong p q = absurd (too_long text ListsTooMany q p)
one_reason t shape text kinds.TooMany kinds.NotJson p q = absurd (json_none text ListsTooMany q.1 p)
one_reason t shape text kinds.TooMany kinds.TooMany p q = refl
one_reason t shape text kinds.TooMany kinds.Misfit p q = absurd (json_clash text ListsTooMany (IsMisfit t shape) (λ d many none. none.0 many) p q)
one_reason t shape text kinds.Misfit kinds.TooLong p q = absurd (too_long text (IsMisfit t shape) q p)
one_reason t shape text kinds.Misfit kinds.NotJson p q = absurd (json_none text (IsMisfit t shape) q.1 p)
one_reason t shape text kinds.Misfit kinds.TooMany p q = absurd (json_clash text (IsMisfit t shape) ListsTooMany (λ d none many. none.0 many) p q)
one_reason t shape text kinds.Misfit kinds.Misfit p q = refl
