-- What comes of a text, step by step.
use Rattle.std.proofs.Common.{◌≡◌, ◌≤◌, ◌↔◌, ℕ, List, length, Result, Some, None, Ok, Err, IfOk, IsTrue, Bool, true, false, sym, ◌∙◌, subst}
use Rattle.std.specs.Prelude.{String, string_bytes}
use Rattle.std.specs.declared.alloc.Global.{Global}
use Rattle.std.specs.declared.alloc.AllocError.{AllocError}
use Rattle.std.proofs.lemmas.Option.{none-some, same_Some}
use Rattle.serde_json.specs.Data.{Data}
use Rattle.ice_types.specs.declared.declarations.Shape.{Shape}
use Rattle.ice_types.specs.Tables.{Tables}
use Rattle.ice_types.specs.Rules.{IsSchema}
use Rattle.ice_encoding.specs.Graph.{Graph}
use Rattle.ice_encoding.specs.TypedGraph.{OfType}
use Rattle.ice_encoding.specs.SameGraph.{form}
use Rattle.graph_arena.specs.Arena.{IsSound}
use Rattle.graph_json.specs.declared.fault.JsonFault.{JsonFault}
use Rattle.graph_json.specs.declared.fault.JsonFault.TheVariants as faults
use Rattle.graph_json.specs.declared.fault.JsonKind.TheVariants as kinds
use Rattle.graph_json.specs.declared.text.TheConstants.{MOST_TEXT}
use Rattle.graph_json.specs.Notation.{NotesGraph}
use Rattle.graph_json.specs.Reading.{listed_graph}
use Rattle.graph_json.specs.Canonical.{canonical_noted, graph_noted}
use Rattle.graph_json.specs.Listed.{CanBeNamed}
use Rattle.graph_json.specs.Texts.{AreNotable, IsJson, IsRefused, IsText, Lists, ListsTooMany, NotesText, Parses, ReadsJson, graph_text}
use Rattle.graph_json.proofs.Noted.{read_found, read_only}
use Rattle.graph_json.proofs.Depths.{graph_deep}
use Rattle.graph_json.proofs.Sound.{listed_within, typed_sound}
use Rattle.graph_json.proofs.TextsApart.{one_json}

pub not_many : (b : Bool) (P : Type 0) → IsTrue b ↔ P → b ≡ false → P → ⊥
not_many b P told e p = never (sym e ∙ told.1 p)
  where
    never : false ≡ true → ⊥
    never e = cc

-- what is no JSON, or too long, is refused as that
pub unread : (t : Tables) (shape : Shape) (text : List ℕ) (e : JsonFault) → ReadsJson text (Err e) → Parses t shape text (Err e)
unread t shape text (faults.Refused kinds.TooLong) h = h
unread t shape text (faults.Refused kinds.NotJson) h = h
unread t shape text (faults.Refused kinds.TooMany) h = absurd h
unread t shape text (faults.Refused kinds.Misfit) h = absurd h
unread t shape text faults.Memory h = h

module _ (t : Tables) (shape : Shape) (text : List ℕ) (d : Data) (le : length text ≤ MOST_TEXT) (is : IsJson text d) where
  module _ (few : ListsTooMany d → ⊥) where
    pub no_graph : None ≡ listed_graph t shape d → IsRefused t shape text kinds.Misfit
    no_graph none = (le, d, is, (few, λ g e typed. none-some g (none ∙ e)))

    module _ (g : Graph) (listed : Some g ≡ listed_graph t shape d) where
      other : (P : Graph → Type 0) → (P g → ⊥) → (h : Graph) → listed_graph t shape d ≡ Some h → P h → ⊥
      other P never h e p = never (subst P (same_Some h g (sym (listed ∙ e))) p)

      pub unnamed : CanBeNamed g → (IsSound g → ⊥) → IsRefused t shape text kinds.Misfit
      unnamed can unsound = (le, d, is, (few, other (OfType t shape) (λ typed. unsound (typed_sound t shape g can typed))))

      pub ill_typed : (OfType t shape g → ⊥) → IsRefused t shape text kinds.Misfit
      ill_typed never = (le, d, is, (few, other (OfType t shape) never))

      pub whole : OfType t shape g → Lists t shape text g
      whole typed = (le, d, is, (few, sym listed, typed))

-- no graph is noted by a misfit
misfit_notes : (t : Tables) (shape : Shape) (text : List ℕ) → IsSchema t → IsRefused t shape text kinds.Misfit → (g : Graph) → NotesText t shape text g → ⊥
misfit_notes t shape text rules (le, d, is, (few, none)) g (e, is', notes) =
    let found = read_only t shape d g rules (subst (λ (x : Data). NotesGraph t shape x g) (one_json text e d is' is) notes) in
    none found.0 found.1 found.2

-- the graph that is listed is noted
listed_notes : (t : Tables) (shape : Shape) (text : List ℕ) (g : Graph) → Lists t shape text g → NotesText t shape text g
listed_notes t shape text g (le, d, is, (less, listed, typed)) = (d, is, read_found t shape d g listed typed (listed_within t shape d g listed less))

pub parsed_notes : (t : Tables) (shape : Shape) (text : List ℕ) (r : Result Graph JsonFault) → Parses t shape text r → IfOk r (NotesText t shape text)
parsed_notes t shape text (Ok g) h = listed_notes t shape text g h
parsed_notes t shape text (Err e) h = tt

pub parsed_misfit : (t : Tables) (shape : Shape) (text : List ℕ) (r : Result Graph JsonFault) → IsSchema t → Parses t shape text r → r ≡ Err (faults.Refused kinds.Misfit) → (g : Graph) → NotesText t shape text g → ⊥
parsed_misfit t shape text r rules h is = misfit_notes t shape text rules (subst (Parses t shape text) is h)

-- ---- written

module _ (t : Tables) (shape : Shape) (g k : Graph) (is : k ≡ form g) where
  text_here : (text : List ℕ) → IsText text (graph_noted t shape k) → IsText text (canonical_noted t shape g)
  text_here text h = subst (λ (x : Graph). IsText text (graph_noted t shape x)) is h

  pub text_is : (r : Result (String Global) AllocError) → IfOk r (λ s. IsText (string_bytes s) (graph_noted t shape k)) → IfOk r (λ s. string_bytes s ≡ graph_text t shape g)
  text_is (Ok s) h = let here = text_here (string_bytes s) h in here.is
  text_is (Err e) h = tt

  pub text_reads : (r : Result (String Global) AllocError) → IsSchema t → IfOk r (λ s. IsText (string_bytes s) (graph_noted t shape k))
      → IfOk r (λ s. AreNotable t shape → IsJson (string_bytes s) (canonical_noted t shape g))
  text_reads (Ok s) rules h = λ fit. let here = text_here (string_bytes s) h in (here.utf8, here.reads (graph_deep t shape g rules fit.0 fit.1))
  text_reads (Err e) rules h = tt
