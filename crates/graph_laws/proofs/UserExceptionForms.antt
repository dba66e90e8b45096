-- The form of an exception: its names are numbers by first visit, its type is that of the exception, and it is the same exception.
use Rattle.std.proofs.Common.{ℕ, ◌≡◌, List, [], ◌∷◌, length, map, refl, sym, ap, ◌∙◌, subst, Some, None, Option}
use Rattle.std.specs.Prelude.{slice_get}
use Rattle.std.proofs.lemmas.List.{append-nil, length-map}
use Rattle.ice_types.specs.declared.kind.RowRef.TheVariants as rows
use Rattle.ice_types.specs.declared.kind.TypeRef.TheVariants as kinds
use Rattle.ice_types.specs.declared.declarations.ClassDecl.{ClassDecl}
use Rattle.ice_types.specs.declared.declarations.Member.{Member}
use Rattle.ice_types.specs.declared.declarations.Shape.{Shape}
use Rattle.ice_types.specs.declared.schema.TheConstants.{MOST_DEPTH}
use Rattle.ice_types.specs.Tables.{Tables, exception_ids}
use Rattle.ice_types.specs.Rules.{IsSchema}
use Rattle.ice_encoding.specs.declared.limits.TheConstants.{GREATEST}
use Rattle.ice_encoding.specs.Tree.{Trees, reference, tree}
use Rattle.ice_encoding.specs.Typed.{Refers, EachOf, HasType}
use Rattle.ice_encoding.specs.OptionalMembers.{with_optional}
use Rattle.ice_encoding.specs.Exceptions.{of_exceptions, UserException}
use Rattle.ice_encoding.specs.Graph.{Slice, known, unknown, Graph}
use Rattle.ice_encoding.specs.Instances.{slices_of}
use Rattle.ice_encoding.specs.Names.{names_each, names_of, instance_names, renamed_each, renamed_slice}
use Rattle.ice_encoding.specs.SameGraph.{AreListed, Holds, numbered}
use Rattle.ice_encoding.specs.TypedGraph.{IsInstance, RefersIn, OfType}
use Rattle.ice_encoding.specs.Visiting.{place}
use Rattle.graph_arena.proofs.Keeping as keeping
use Rattle.graph_laws.proofs.ExceptionRows.{ids_are}
use Rattle.graph_laws.proofs.Ranged.{AreBelow, instance_below, in_instances}
use Rattle.graph_laws.proofs.Formed.{Reached, instance-typed, form-moves, upto-holds, form-in_order, places-upto}
use Rattle.graph_laws.proofs.Named.{Apart, own_place, AreNamed, id_of_row}
use Rattle.graph_laws.proofs.Places.{place-map, slices-fused}
use Rattle.graph_laws.proofs.Renumbered.{renumbered}
use Rattle.graph_laws.proofs.Sameness.{listed-within}
use Rattle.graph_laws.proofs.ClassIds.{IsText}
use Rattle.graph_laws.proofs.TypeIds.{HaveTypeTexts}
use Rattle.ice_types.proofs.SliceIds.{type_id_plain}
use Rattle.std.proofs.lemmas.Str.{IsUtf8-nil}
use Rattle.ice_encoding.specs.CanonicalGraph.{id_in}
use Rattle.graph_laws.proofs.Upto.{upto}
use Rattle.ice_encoding.specs.UserExceptionTyped.{HaveTypeIds, OfUserException}
use Rattle.ice_encoding.specs.UserExceptionWritten.{references_to, graph_of, order_of, numbered_user_exception, form_of, SameUserException}

-- ---- in a schema each exception is found by its type id, which is UTF-8

id_at : (t : Tables) (at : ℕ) (d : ClassDecl) → slice_get (of_exceptions t).classes at ≡ Some d → slice_get (exception_ids t) at ≡ Some d.id
id_at t at d is = ap (λ (l : List (List ℕ)). slice_get l at) (sym (ids_are t.exceptions)) ∙ id_of_row (of_exceptions t).classes at d is

same_exception : (a b : ℕ) → rows.Exception a ≡ rows.Exception b → a ≡ b
same_exception a b e = cc

pub exceptions_named : (t : Tables) → IsSchema t → AreNamed (of_exceptions t)
exceptions_named t rules class d is = own_place (of_exceptions t).classes apart class d is
  where
    apart : Apart (of_exceptions t).classes
    apart = λ a b c d a_is b_is same. same_exception a b (rules.apart d.id (rows.Exception a) (rows.Exception b) (id_at t a c a_is ∙ ap Some same) (id_at t b d b_is))

row_text : (t : Tables) → IsSchema t → (class : ℕ) (row : Option ClassDecl) → slice_get (of_exceptions t).classes class ≡ row → IsText (id_in row)
row_text t rules class None is = (IsUtf8-nil, refl)
row_text t rules class (Some d) is = let id = rules.type_ids d.id (rows.Exception class) (id_at t class d is) in (id.1, type_id_plain d.id id)

pub exception_texts : (t : Tables) → IsSchema t → (ss : List Slice) → HaveTypeIds ss → HaveTypeTexts (of_exceptions t) ss
exception_texts t rules [] ids = tt
exception_texts t rules (known class content ∷ ss) ids = (row_text t rules class (slice_get (of_exceptions t).classes class) refl, exception_texts t rules ss ids.1)
exception_texts t rules (unknown id bytes optionals table ∷ ss) ids = (ids.0, exception_texts t rules ss ids.1)

pub type_ids-renamed : (f : ℕ → ℕ) (ss : List Slice) → HaveTypeIds ss → HaveTypeIds (map (renamed_slice f) ss)
type_ids-renamed f [] ids = tt
type_ids-renamed f (known class content ∷ ss) ids = (tt, type_ids-renamed f ss ids.1)
type_ids-renamed f (unknown id bytes optionals table ∷ ss) ids = (ids.0, type_ids-renamed f ss ids.1)

-- ---- the graph of an exception

names_are : (ns : List ℕ) → names_each (references_to ns) ≡ ns
names_are [] = refl
names_are (n ∷ ns) = ap (λ (l : List ℕ). n ∷ l) (names_are ns)

pub root_names : (x : UserException) → names_of (graph_of x).roots ≡ instance_names x.slices
root_names x = append-nil (names_each (references_to (instance_names x.slices))) ∙ names_are (instance_names x.slices)

references-renamed : (f : ℕ → ℕ) (ns : List ℕ) → references_to (map f ns) ≡ renamed_each f (references_to ns)
references-renamed f [] = refl
references-renamed f (n ∷ ns) = ap (λ (vs : Trees). tree (reference (Some (f n))) vs) (references-renamed f ns)

pub graph_numbered : (ns : List ℕ) (x : UserException) → graph_of (numbered_user_exception ns x) ≡ numbered ns (graph_of x)
graph_numbered ns x =
    let same : references_to (instance_names (map (renamed_slice (place ns)) x.slices)) ≡ renamed_each (place ns) (references_to (instance_names x.slices)) =
    ap references_to (keeping.instance-renamed (place ns) x.slices) ∙ references-renamed (place ns) (instance_names x.slices) in
    λ i. record { roots = with_optional (same i) []; instances = (numbered ns (graph_of x)).instances }

-- any instance may stand at its roots
abbrev objects : List ℕ → List Member
objects [] = []
objects (n ∷ ns) = record { name = []; kind = kinds.Class None; tag = None } ∷ objects ns

abbrev pub shape_of : UserException → Shape
shape_of x = record { required = objects (instance_names x.slices); optional = [] }

module _ (t : Tables) (x : UserException) (typed : OfUserException t x) where
  abbrev limit : ℕ
  limit = length x.instances

  abbrev Refer : Refers
  Refer = RefersIn t x.instances

  abbrev u : Tables
  u = of_exceptions t

  each_referred : (ns : List ℕ) → AreBelow limit ns → EachOf (HasType t Refer MOST_DEPTH) (map (λ m. m.kind) (objects ns)) (references_to ns)
  each_referred [] h = refl
  each_referred (n ∷ ns) h = (reference (Some n), references_to ns, refl, (Some n, (h.0, refl), refl), each_referred ns h.1)

  pub graph_typed : OfType t (shape_of x) (graph_of x)
  graph_typed = record { roots = record { required = each_referred (instance_names x.slices) (instance_below u limit Refer (in_instances t x.instances) x.slices typed.slices); optional = tt }; instances = typed.instances }

-- ---- its slices

pub names_listed : (x : UserException) → Reached (graph_of x) → AreListed (order_of x) (instance_names x.slices)
names_listed x reached = subst (AreListed (order_of x)) (root_names x) reached.is.holds.roots

pub slices_typed : (t : Tables) (x : UserException) → OfUserException t x → Reached (graph_of x) → IsInstance (of_exceptions t) (RefersIn t (numbered (order_of x) (graph_of x)).instances) (map (renamed_slice (place (order_of x))) x.slices)
slices_typed t x typed reached =
    let g : Graph = graph_of x in
    let ns : List ℕ = order_of x in
    instance-typed (of_exceptions t) (place ns) ns (RefersIn t g.instances) (RefersIn t (numbered ns g).instances) (form-moves t GREATEST g) x.slices (names_listed x reached) typed.slices

-- ---- it is the same exception

pub form_same : (x : UserException) → Reached (graph_of x) → SameUserException (form_of x) x
unfolding form_of
form_same x reached =
    let g : Graph = graph_of x in
    let ns : List ℕ = order_of x in
    let kg : Graph = numbered ns g in
    let size : length kg.instances ≡ length ns = length-map ns (λ n. map (renamed_slice (place ns)) (slices_of g.instances n)) in
    let left : List ℕ = upto (length kg.instances) in
    let are : left ≡ map (place ns) ns = ap upto size ∙ sym (places-upto ns reached.is.holds.once) in
    let self : AreListed ns ns = listed-within ns ns (λ n lt. lt) in
    let slices : map (renamed_slice (place left)) (map (renamed_slice (place ns)) x.slices) ≡ map (renamed_slice (place ns)) x.slices =
    ap (λ (l : List ℕ). map (renamed_slice (place l)) (map (renamed_slice (place ns)) x.slices)) are
    ∙ slices-fused (place (map (place ns) ns)) (place ns) (place ns) ns (λ n n-in. place-map ns ns n self n-in) x.slices (names_listed x reached) in
    let graphs : numbered left (graph_of (numbered_user_exception ns x)) ≡ numbered ns g =
    ap (numbered left) (graph_numbered ns x) ∙ ap (λ (l : List ℕ). numbered l kg) are ∙ renumbered ns g reached.is.holds ns self in
    record {
      left = left;
      right = ns;
      left_holds = subst (Holds left) (sym (graph_numbered ns x)) (upto-holds kg (form-in_order g reached));
      right_holds = reached.is.holds;
      equal = λ i. record { slices = slices i; instances = (graphs i).instances };
    }
