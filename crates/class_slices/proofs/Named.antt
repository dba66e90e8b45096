-- The slices of an exception stand for the roots of its graph.
use Rattle.std.proofs.Common.{◌≡◌, ◌≤◌, ℕ, List, [], ◌∷◌, length, map, take, refl, sym, ap, ◌∙◌, subst, Some}
use Rattle.std.proofs.lemmas.List.{take_all}
use Rattle.ice_types.specs.Tables.{Tables}
use Rattle.ice_encoding.specs.Tree.{InEach, reference, tree}
use Rattle.ice_encoding.specs.Order.{KeysRise}
use Rattle.ice_encoding.specs.OptionalMembers.{Members}
use Rattle.ice_encoding.specs.Exceptions.{of_exceptions, UserException}
use Rattle.ice_encoding.specs.Graph.{Slice, Graph}
use Rattle.ice_encoding.specs.Names.{names_of, instance_names, renamed_slice}
use Rattle.ice_encoding.specs.UserExceptionTyped.{OfUserException}
use Rattle.ice_encoding.specs.UserExceptionWritten.{references_to, graph_of, numbered_user_exception, form_of}
use Rattle.ice_encoding.specs.References.{entry_in}
use Rattle.ice_encoding.specs.SameGraph.{form}
use Rattle.ice_encoding.specs.TypedGraph.{RefersIn}
use Rattle.ice_encoding.specs.Visiting.{order, place}
use Rattle.graph_laws.proofs.Ranged.{instance_below, in_instances}
use Rattle.graph_arena.specs.Arena.{AreBelow, ContentFits, IsSound}
use Rattle.graph_arena.specs.Renumbering.{IsIndex}
use Rattle.graph_arena.specs.View.{trees_of, view, view_all}
use Rattle.graph_arena.specs.declared.value.Value.{Value}
use Rattle.graph_arena.proofs.Agreeing.{slices-agree}
use Rattle.graph_arena.proofs.Closed.{order-is}
use Rattle.graph_arena.proofs.Formed.{numbered-sound}
use Rattle.instance_writing.specs.Writable.{UserExceptionCanBeWritten}
use Rattle.graph_laws.proofs.UserExceptionForms.{root_names, graph_numbered}
use Rattle.class_slices.proofs.Sound.{below}
use Rattle.class_slices.proofs.Writable.{instance-writable, each-writable, moves-to-places}
use Rattle.class_slices.specs.ExceptionEncoding.{AreUserException}

-- the names in its slices are those of its instances
pub own-below : (t : Tables) (x : UserException) → AreUserException t x → AreBelow (length x.instances) (instance_names x.slices)
own-below t x are = below (length x.instances) (instance_names x.slices) (instance_below (of_exceptions t) (length x.instances) (RefersIn t x.instances) (in_instances t x.instances) x.slices are.0)

-- ---- the roots

references-rise : (ns : List ℕ) → InEach KeysRise (references_to ns)
references-rise [] = tt
references-rise (n ∷ ns) = (tt, references-rise ns)

pub roots-fit : (count : ℕ) (x : UserException) (roots : Members) → roots ≡ (graph_of x).roots → AreBelow count (instance_names x.slices) → ContentFits count roots
roots-fit count x roots is names =
    subst (ContentFits count) (sym is) (record { names = subst (AreBelow count) (sym (root_names x)) names; order = (references-rise (instance_names x.slices), tt) })

-- ---- its form

module _ (x : UserException) (sound : IsSound (graph_of x)) where
  abbrev g : Graph
  g = graph_of x

  abbrev ns : List ℕ
  ns = order g

  names-below : AreBelow (length x.instances) (instance_names x.slices)
  names-below = subst (AreBelow (length x.instances)) (root_names x) sound.roots.names

  form-is : (index : List ℕ) (slices : List Slice) (k : Graph) → IsIndex (length x.instances) ns index → slices ≡ map (renamed_slice (entry_in index)) x.slices → k ≡ form g
      → record { slices = slices; instances = k.instances } ≡ form_of x
  unfolding form form_of
  form-is index slices k indexed slices_are is =
      let same : slices ≡ map (renamed_slice (place ns)) x.slices = slices_are ∙ slices-agree (length x.instances) (entry_in index) (place ns) indexed.places x.slices names-below in
      λ i. record { slices = same i; instances = (is i).instances }

  -- it can be written
  pub form-writable : (t : Tables) → OfUserException t x → UserExceptionCanBeWritten t (form_of x)
  unfolding form_of
  form-writable t typed =
      let k : UserException = numbered_user_exception ns x in
      let moves = moves-to-places t g sound in
      let in_order = numbered-sound g ns sound (order-is g sound) in
      record {
        names = subst (AreBelow (length k.instances)) (sym (ap (λ (h : Graph). names_of h.roots) (graph_numbered ns x)) ∙ root_names k) in_order.roots.names;
        slices = instance-writable (of_exceptions t) (RefersIn t x.instances) (place ns) moves x.slices typed.slices;
        instances = each-writable t x.instances (place ns) moves typed.instances ns (order-is g sound).below;
      }

-- from what each step of the renumbering answers
pub numbered-is : (x : UserException) (arena : Graph) → arena ≡ graph_of x → IsSound arena → (count : ℕ) → count ≡ length arena.instances → (places index table : List ℕ) → places ≡ order arena → IsIndex count places index → table ≡ index
    → (slices : List Slice) → slices ≡ map (renamed_slice (entry_in table)) x.slices → (k : Graph) → k ≡ form arena → record { slices = slices; instances = k.instances } ≡ form_of x
numbered-is x arena rooted sound count size places index table listed indexed tabled slices slices_are k is =
    let count_is : count ≡ length x.instances = size ∙ ap (λ (h : Graph). length h.instances) rooted in
    let places_are : places ≡ order (graph_of x) = listed ∙ ap order rooted in
    let all = subst (λ (l : List ℕ). IsIndex (length x.instances) l index) places_are (subst (λ (n : ℕ). IsIndex n places index) count_is indexed) in
    form-is x (subst IsSound rooted sound) table slices k (subst (IsIndex (length x.instances) (order (graph_of x))) (sym tabled) all) slices_are (is ∙ ap form rooted)

-- ---- references that are put one by one

references-are : (ns : List ℕ) → trees_of (map (λ n. reference (Some n)) ns) ≡ references_to ns
references-are [] = refl
references-are (n ∷ ns) = ap (tree (reference (Some n))) (references-are ns)

pub all-put : (values : List Value) (ns : List ℕ) (i : ℕ) → length ns ≤ i → map view values ≡ map (λ n. reference (Some n)) (take i ns) → view_all values ≡ references_to ns
all-put values ns i le put = ap trees_of put ∙ (ap (λ (l : List ℕ). trees_of (map (λ n. reference (Some n)) l)) (take_all i ns le) ∙ references-are ns)
