-- The laws of canonical bytes, of graphs of types under schemas.
use Rattle.std.proofs.Common.{ℕ, ◌≤◌, ◌<◌, ◌^◌, ◌≡◌, List, [], ◌∷◌, length, refl, arith, Option, Some, None, inl}
use Rattle.std.specs.Prelude.{◌↔◌, slice_get}
use Rattle.std.proofs.lemmas.Str.{IsUtf8-nil}
use Rattle.ice_types.specs.declared.declarations.ClassDecl.{ClassDecl}
use Rattle.ice_types.specs.declared.declarations.Shape.{Shape}
use Rattle.ice_types.specs.Tables.{Tables}
use Rattle.ice_types.specs.CompactIds.{IsSliceId}
use Rattle.ice_types.specs.Rules.{IsSchema}
use Rattle.ice_prims.specs.Rest.{IsBytes}
use Rattle.ice_encoding.specs.declared.limits.TheConstants.{GREATEST, LARGEST}
use Rattle.ice_encoding.specs.Graph.{Slice, known, unknown, Graph}
use Rattle.ice_encoding.specs.Flags.{Reach, all_slices, known_classes}
use Rattle.ice_encoding.specs.Instances.{slices_of, most_instances, SpellsNumbered}
use Rattle.ice_encoding.specs.Visiting.{most, order}
use Rattle.ice_encoding.specs.SameGraph.{Same, Spells, form}
use Rattle.ice_encoding.specs.TypedGraph.{OfTypeTo, OfType, OfReadType}
use Rattle.ice_encoding.specs.CanonicalGraph.{Format, compact, graph_bytes, spelled_by, row_id, IsWritable}
use Rattle.graph_laws.proofs.Sound.{numbered_read, numbered_typed}
use Rattle.graph_laws.proofs.Wider.{graph_wider}
use Rattle.graph_laws.proofs.WrittenValues.{Limits, written_limits, read_limits}
use Rattle.graph_arena.proofs.Closed.{few}
use Rattle.graph_laws.proofs.TypeIds.{HaveTexts}
use Rattle.graph_laws.proofs.ClassIds.{are_spelled, spelled_id}
use Rattle.graph_laws.proofs.Formed.{Reached}
use Rattle.graph_laws.proofs.Reached.{reached-small, reached-few}
use Rattle.graph_laws.proofs.OnlyKnown.{read_compact}
use Rattle.graph_laws.proofs.Canonicity.{same_bytes, same_from_bytes, read_is_form, read_is_same, numbered_spelled, graph_spelled}

-- ---- each class of a schema is written under an id

pub row_text : (row : Option ClassDecl) → ((d : ClassDecl) → row ≡ Some d → IsSliceId (spelled_by d)) → IsSliceId (row_id row)
row_text None texts = (IsUtf8-nil, inl refl)
row_text (Some d) texts = texts d refl

pub utf8_texts : (t : Tables) → IsSchema t → (ss : List Slice) → HaveTexts t ss
utf8_texts t rules [] = tt
utf8_texts t rules (known class content ∷ ss) = (row_text (slice_get t.classes class) (λ d is. spelled_id t rules class d is), utf8_texts t rules ss)
utf8_texts t rules (unknown id bytes optionals table ∷ ss) = utf8_texts t rules ss

equal_within : (l : Limits) (t : Tables) (shape : Shape) (format : Format) (g h : Graph) → l.most ≤ GREATEST → IsSchema t → OfTypeTo t l.most shape g → OfTypeTo t l.most shape h → IsWritable format g → IsWritable format h
    → length g.instances ≤ most → length h.instances ≤ most → length (graph_bytes t shape format g) ≤ l.bound → (graph_bytes t shape format g ≡ graph_bytes t shape format h) ↔ Same g h
equal_within l t shape format g h le rules g-typed h-typed g-can h-can g-few h-few small = (
  λ e. same_from_bytes l t (are_spelled t rules) shape all_slices format g h (reached-small t shape g (graph_wider t l.most GREATEST le shape g g-typed) g-few) (reached-small t shape h (graph_wider t l.most GREATEST le shape h h-typed) h-few) g-typed h-typed
      (λ n lt. (g-can n lt, utf8_texts t rules (slices_of g.instances n))) (λ n lt. (h-can n lt, utf8_texts t rules (slices_of h.instances n))) small e,
  same_bytes t shape format g h,
)

-- of graphs whose proxies can be read again, and of all that are no longer than what can be read
pub equal_is_same : (t : Tables) (shape : Shape) (format : Format) (g h : Graph) → IsSchema t → OfReadType t shape g → OfReadType t shape h → IsWritable format g → IsWritable format h
    → length g.instances ≤ most → length h.instances ≤ most → length (graph_bytes t shape format g) < 2 ^ 31 → (graph_bytes t shape format g ≡ graph_bytes t shape format h) ↔ Same g h
equal_is_same t shape format g h rules g-typed h-typed g-can h-can g-few h-few small = equal_within read_limits t shape format g h (omega arith) rules g-typed h-typed g-can h-can g-few h-few (omega (arith, small))

pub written_equal_is_same : (t : Tables) (shape : Shape) (format : Format) (g h : Graph) → IsSchema t → OfType t shape g → OfType t shape h → IsWritable format g → IsWritable format h
    → length g.instances ≤ most → length h.instances ≤ most → length (graph_bytes t shape format g) ≤ LARGEST → (graph_bytes t shape format g ≡ graph_bytes t shape format h) ↔ Same g h
written_equal_is_same t shape format g h rules g-typed h-typed g-can h-can g-few h-few small = equal_within written_limits t shape format g h (omega arith) rules g-typed h-typed g-can h-can g-few h-few small

pub few-enough : (n : ℕ) → n ≤ most_instances → n < most
unfolding most_instances most
few-enough n le = omega (arith, le)

pub canonical_spelled : (t : Tables) (shape : Shape) (format : Format) (g : Graph) → IsSchema t → OfType t shape g → IsWritable format g
    → length (order g) ≤ most_instances → length (graph_bytes t shape format g) ≤ LARGEST → Spells t all_slices shape (graph_bytes t shape format g) g
canonical_spelled t shape format g rules typed can few =
    graph_spelled t (are_spelled t rules) shape all_slices format g (reached-few t shape g typed (few-enough (length (order g)) few)) typed (λ n lt. (can n lt, utf8_texts t rules (slices_of g.instances n))) few

pub known_spelled : (t : Tables) (shape : Shape) (format : Format) (g : Graph) → IsSchema t → OfType t shape g → IsWritable compact g
    → length (order g) ≤ most_instances → length (graph_bytes t shape format g) ≤ LARGEST → Spells t known_classes shape (graph_bytes t shape format g) g
known_spelled t shape format g rules typed can few =
    graph_spelled t (are_spelled t rules) shape known_classes format g (reached-few t shape g typed (few-enough (length (order g)) few)) typed (λ n lt. (can n lt, utf8_texts t rules (slices_of g.instances n))) few

pub canonical_read : (t : Tables) (reach : Reach) (shape : Shape) (format : Format) (g h : Graph) → IsSchema t → OfType t shape g → IsWritable format g → length (order g) ≤ most_instances
    → SpellsNumbered t reach shape (graph_bytes t shape format g) h → Same h g
canonical_read t reach shape format g h rules typed can few =
    read_is_same t (are_spelled t rules) reach shape format g h (reached-few t shape g typed (few-enough (length (order g)) few)) typed (λ n lt. (can n lt, utf8_texts t rules (slices_of g.instances n))) few

-- the form, name by name

pub form_spelled : (t : Tables) (shape : Shape) (format : Format) (g : Graph) → IsSchema t → OfType t shape g → IsWritable format g
    → length (order g) ≤ most_instances → length (graph_bytes t shape format g) ≤ LARGEST → SpellsNumbered t all_slices shape (graph_bytes t shape format g) (form g)
form_spelled t shape format g rules typed can few =
    numbered_spelled t (are_spelled t rules) shape all_slices format g (reached-few t shape g typed (few-enough (length (order g)) few)) typed (λ n lt. (can n lt, utf8_texts t rules (slices_of g.instances n))) few

pub known_form_spelled : (t : Tables) (shape : Shape) (format : Format) (g : Graph) → IsSchema t → OfType t shape g → IsWritable compact g
    → length (order g) ≤ most_instances → length (graph_bytes t shape format g) ≤ LARGEST → SpellsNumbered t known_classes shape (graph_bytes t shape format g) (form g)
known_form_spelled t shape format g rules typed can few =
    numbered_spelled t (are_spelled t rules) shape known_classes format g (reached-few t shape g typed (few-enough (length (order g)) few)) typed (λ n lt. (can n lt, utf8_texts t rules (slices_of g.instances n))) few

pub form_read : (t : Tables) (reach : Reach) (shape : Shape) (format : Format) (g h : Graph) → IsSchema t → OfType t shape g → IsWritable format g → length (order g) ≤ most_instances
    → SpellsNumbered t reach shape (graph_bytes t shape format g) h → h ≡ form g
form_read t reach shape format g h rules typed can few =
    read_is_form t (are_spelled t rules) reach shape format g h (reached-few t shape g typed (few-enough (length (order g)) few)) typed (λ n lt. (can n lt, utf8_texts t rules (slices_of g.instances n))) few

-- ---- what was read and is written again

module _ (t : Tables) (reach : Reach) (shape : Shape) (rules : IsSchema t) (bytes : List ℕ) (g : Graph) (fits : IsBytes bytes) (h : SpellsNumbered t reach shape bytes g) where
  read : OfReadType t shape g
  read = (numbered_read t reach shape rules bytes g fits h).0

  typed : OfType t shape g
  typed = (numbered_typed t reach shape rules bytes g fits h).0

  few_there : length g.instances ≤ most
  few_there = omega (arith, few-enough (length g.instances) (numbered_typed t reach shape rules bytes g fits h).1)

  reached : Reached g
  reached = reached-small t shape g typed few_there

  few_reached : length (order g) ≤ most_instances
  few_reached = omega (arith, few (length g.instances) (order g) reached.is.holds.once reached.is.below, (numbered_typed t reach shape rules bytes g fits h).1)

  pub relayed : (format : Format) → IsWritable format g → length (graph_bytes t shape format g) ≤ LARGEST → Spells t all_slices shape (graph_bytes t shape format g) g
  relayed format can small = canonical_spelled t shape format g rules typed can few_reached small

  pub relayed_same : (again : Reach) (format : Format) (h : Graph) → IsWritable format g → SpellsNumbered t again shape (graph_bytes t shape format g) h → Same h g
  relayed_same again format h can held = canonical_read t again shape format g h rules typed can few_reached held

pub read_equal_is_same : (t : Tables) (reach : Reach) (shape : Shape) (format : Format) (a b : List ℕ) (g h : Graph) → IsSchema t → IsBytes a → IsBytes b → SpellsNumbered t reach shape a g → SpellsNumbered t reach shape b h
    → IsWritable format g → IsWritable format h → length (graph_bytes t shape format g) < 2 ^ 31 → (graph_bytes t shape format g ≡ graph_bytes t shape format h) ↔ Same g h
read_equal_is_same t reach shape format a b g h rules a-fits b-fits g-read h-read g-can h-can small =
    equal_is_same t shape format g h rules (read t reach shape rules a g a-fits g-read) (read t reach shape rules b h b-fits h-read) g-can h-can (few_there t reach shape rules a g a-fits g-read) (few_there t reach shape rules b h b-fits h-read) small

-- where known classes are read alone
pub known_relayed : (t : Tables) (shape : Shape) (format : Format) → IsSchema t → (bytes : List ℕ) (g : Graph) → IsBytes bytes → SpellsNumbered t known_classes shape bytes g
    → length (graph_bytes t shape format g) ≤ LARGEST → Spells t known_classes shape (graph_bytes t shape format g) g
known_relayed t shape format rules bytes g fits h small =
    let of_type = typed t known_classes shape rules bytes g fits h in
    known_spelled t shape format g rules of_type (read_compact t shape bytes g fits h of_type (reached t known_classes shape rules bytes g fits h)) (few_reached t known_classes shape rules bytes g fits h) small
