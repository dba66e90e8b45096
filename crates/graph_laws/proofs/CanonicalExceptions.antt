-- What is written for an exception spells one that is the same.
use Rattle.std.proofs.Common.{ℕ, ◌+◌, ◌<◌, ◌≤◌, ◌^◌, ◌≡◌, List, [], length, map, refl, sym, ap, ◌∙◌, subst, arith}
use Rattle.std.proofs.lemmas.List.{length-map, ext_get_or}
use Rattle.ice_types.specs.Tables.{Tables}
use Rattle.ice_types.specs.Rules.{IsSchema}
use Rattle.ice_encoding.specs.declared.limits.TheConstants.{LARGEST}
use Rattle.ice_encoding.specs.Pausing.{written_in_place}
use Rattle.ice_encoding.specs.CanonicalGraph.{Format, compact, put_inline, written_instance, blank}
use Rattle.ice_encoding.specs.Exceptions.{of_exceptions, UserException, UserExceptionSlices, SpellsUserException, SpellsException}
use Rattle.ice_encoding.specs.Flags.{Reach, all_slices, known_classes, first}
use Rattle.ice_encoding.specs.Graph.{Slice, Graph}
use Rattle.ice_encoding.specs.Instances.{instances, slices_of, most_instances, AllFit}
use Rattle.ice_encoding.specs.Names.{instance_names, renamed_slice}
use Rattle.ice_encoding.specs.References.{opening}
use Rattle.ice_encoding.specs.TypedGraph.{IsInstance, RefersUpTo}
use Rattle.ice_encoding.specs.Visiting.{place, visit_each, visit_at, most, order}
use Rattle.ice_encoding.proofs.Exceptions.{exception_apart}
use Rattle.graph_arena.specs.Arena.{AreBelow}
use Rattle.graph_laws.proofs.Canonicity.{six_more}
use Rattle.graph_laws.proofs.Formed.{Asked, EachAsked, Reached, InOrder, form-in_order, form-typed, asked-renamed}
use Rattle.graph_laws.proofs.ClassIds.{AreSpelled, are_spelled}
use Rattle.graph_laws.proofs.Named.{AreNamed}
use Rattle.graph_laws.proofs.Once.{once-run}
use Rattle.graph_laws.proofs.Reached.{reached-few}
use Rattle.graph_laws.proofs.Schemas.{utf8_texts, few-enough}
use Rattle.graph_laws.proofs.TypeIds.{Spelled, HaveTexts, HaveTypeTexts}
use Rattle.graph_laws.proofs.Upto.{upto, visit-grows}
use Rattle.ice_encoding.specs.UserExceptionTyped.{OfUserException}
use Rattle.ice_encoding.specs.UserExceptionWritten.{graph_of, order_of, numbered_user_exception, form_of, SameUserException, SpellsSame, user_exception_bytes, canonical_user_exception, exception_bytes, CanBeWritten}
use Rattle.graph_laws.proofs.UserExceptionForms.{exceptions_named, exception_texts, type_ids-renamed, root_names, graph_numbered, shape_of, graph_typed, slices_typed, form_same}
use Rattle.graph_laws.proofs.WrittenValues.{written_limits}
use Rattle.graph_laws.proofs.WrittenGraphs.{rising, refer_long, inline_instances}
use Rattle.graph_laws.proofs.WrittenUserException.{user_exception_good}

-- ---- an exception whose names are numbers by first visit

module _ (t : Tables) (named : AreSpelled t) (named_user_exception : AreNamed (of_exceptions t)) (reach : Reach) (format : Format) (k : UserException) (room : ℕ) (fits : length k.instances ≤ room) (small_graph : length k.instances + 2 < 2 ^ 31)
    (typed : (n : ℕ) → n < length k.instances → IsInstance t (RefersUpTo t written_limits.most k.instances) (slices_of k.instances n)) (asked : (n : ℕ) → n < length k.instances → Asked reach format (slices_of k.instances n) × HaveTexts t (slices_of k.instances n))
    (range : (n : ℕ) → n < length k.instances → AreBelow (length k.instances) (instance_names (slices_of k.instances n))) where
  abbrev g : Graph
  g = graph_of k

  abbrev limit : ℕ
  limit = length k.instances

  slices_written : (more : ℕ) → Asked reach format k.slices → HaveTypeTexts (of_exceptions t) k.slices → IsInstance (of_exceptions t) (RefersUpTo t written_limits.most k.instances) k.slices → AreBelow limit (instance_names k.slices) → limit ≤ most → limit ≤ more
      → visit_each (visit_at most g) (instance_names k.slices) [] ≡ upto limit → length (user_exception_bytes t format k) ≤ LARGEST
      → (end : Spelled) × ((n : ℕ) × UserExceptionSlices (instances t reach room more) (of_exceptions t) reach n first (user_exception_bytes t format k) k.slices opening end) × (end.instances ≡ k.instances) × AllFit t k.instances end.met
  slices_written more can texts is below deep wide run small =
      let e = user_exception_good t named_user_exception reach g written_limits (visit_at most g) (visit-grows most g) (λ i. (limit ≤ most + i) × (limit ≤ more + i)) (λ i j h le. (omega (arith, h.0, le), omega (arith, h.1, le))) (instances t reach room more)
      (written_in_place put_inline (written_instance t format g most))
      (written_limits.fit, rising t named reach format written_limits g room fits small_graph typed asked range (instances t reach room) (inline_instances t reach format room) most more)
      (refer_long t named reach format written_limits g room fits small_graph typed asked range (instances t reach room) (inline_instances t reach format room) most)
      (λ ns i j h below run. once-run g limit most [] ns i j h.0 tt below run) format k.slices can texts is below opening blank limit (record { count = refl; ids = refl }) (omega (arith, deep), omega (arith, wide)) run (omega (arith, small)) in
      (e.end, e.spelled, ext_get_or [] e.end.instances k.instances e.count (λ n lt. e.inside n (omega arith) (omega (arith, e.count, lt))), e.fit tt)

-- ---- the form of an exception

small_enough : (a b : ℕ) → a ≡ b → b ≤ most_instances → a + 2 < 2 ^ 31
unfolding most_instances
small_enough a b e le = omega (arith, e, le)

module _ (t : Tables) (rules : IsSchema t) (reach : Reach) (format : Format) (x : UserException) (typed : OfUserException t x) (can : Asked reach format x.slices) (asked : (n : ℕ) → place (order_of x) n < length (order_of x) → Asked reach format (slices_of x.instances n))
    (few : length (order_of x) ≤ most_instances) where
  reached : Reached (graph_of x)
  reached = reached-few t (shape_of x) (graph_of x) (graph_typed t x typed) (few-enough (length (order_of x)) few)

  each_asked : EachAsked t reach format (graph_of x)
  each_asked n lt = (asked n lt, utf8_texts t rules (slices_of x.instances n))

  form_spelled : length (canonical_user_exception t format x) ≤ LARGEST → SpellsUserException t reach (canonical_user_exception t format x) (form_of x)
  unfolding canonical_user_exception form_of SpellsUserException order
  form_spelled small =
      let ns : List ℕ = order_of x in
      let k : UserException = numbered_user_exception ns x in
      let size : length k.instances ≡ length ns = length-map ns (λ n. map (renamed_slice (place ns)) (slices_of x.instances n)) in
      let in_order : InOrder (graph_of k) = subst InOrder (sym (graph_numbered ns x)) (form-in_order (graph_of x) reached) in
      let of_type = form-typed t written_limits.most (shape_of x) reach format (graph_of x) reached (graph_typed t x typed) each_asked in
      let tiny : length k.instances + 2 < 2 ^ 31 = small_enough (length k.instances) (length ns) size few in
      let w = slices_written t (are_spelled t rules) (exceptions_named t rules) reach format k most_instances (omega (arith, size, few)) tiny of_type.typed.instances of_type.asked in_order.instances most_instances
      (asked-renamed reach format (place ns) x.slices can) (exception_texts t rules k.slices (type_ids-renamed (place ns) x.slices typed.type_ids)) (slices_typed t x typed reached) (subst (AreBelow (length k.instances)) (root_names k) in_order.roots) in_order.size (omega (arith, size, few))
      (ap (λ (l : List ℕ). visit_each (visit_at most (graph_of k)) l []) (sym (root_names k)) ∙ in_order.order) small in
      (w.0, w.1.0, w.1.1, w.2, subst (λ (is : List (List Slice)). AllFit t is w.0.met) (sym w.2) w.3)

  pub form_written : length (exception_bytes t format x) ≤ LARGEST → SpellsException t reach (exception_bytes t format x) (form_of x)
  form_written small = (canonical_user_exception t format x, refl, small, form_spelled (omega (arith, six_more (canonical_user_exception t format x), small)))

  pub written_same : length (exception_bytes t format x) ≤ LARGEST → SpellsSame t reach (exception_bytes t format x) x
  written_same small = (form_of x, form_written small, form_same x reached)

  -- no other exception is read from its bytes
  pub read_same : (y : UserException) → SpellsException t reach (exception_bytes t format x) y → SameUserException y x
  read_same y h = subst (λ (z : UserException). SameUserException z x) (exception_apart t reach (exception_bytes t format x) (form_of x) y (form_written h.2) h) (form_same x reached)

-- ---- of schemas

pub exception_written : (t : Tables) (format : Format) (x : UserException) → IsSchema t → OfUserException t x → CanBeWritten format x → length (order_of x) ≤ most_instances → length (exception_bytes t format x) ≤ LARGEST
    → SpellsSame t all_slices (exception_bytes t format x) x
exception_written t format x rules typed can few small = written_same t rules all_slices format x typed can.0 can.1 few small

pub exception_known : (t : Tables) (format : Format) (x : UserException) → IsSchema t → OfUserException t x → CanBeWritten compact x → length (order_of x) ≤ most_instances → length (exception_bytes t format x) ≤ LARGEST
    → SpellsSame t known_classes (exception_bytes t format x) x
exception_known t format x rules typed can few small = written_same t rules known_classes format x typed can.0 can.1 few small

pub exception_read : (t : Tables) (format : Format) (x y : UserException) → IsSchema t → OfUserException t x → CanBeWritten format x → length (order_of x) ≤ most_instances → SpellsException t all_slices (exception_bytes t format x) y → SameUserException y x
exception_read t format x y rules typed can few h = read_same t rules all_slices format x typed can.0 can.1 few y h

pub known_read : (t : Tables) (format : Format) (x y : UserException) → IsSchema t → OfUserException t x → CanBeWritten compact x → length (order_of x) ≤ most_instances → SpellsException t known_classes (exception_bytes t format x) y → SameUserException y x
known_read t format x y rules typed can few h = read_same t rules known_classes format x typed can.0 can.1 few y h
