-- A graph, and an input that has to be one encapsulation of it, is refused exactly where it has the defect.
use Rattle.std.proofs.Common.{◌≡◌, ℕ, ◌≤◌, ◌⊎◌, Bool, true, false, cond, leb, List, [], ◌∷◌, Option, None, Some, Result, Ok, refl, sym, ap, subst, ◌∙◌, inl, inr, arith}
use Rattle.std.specs.Prelude.{slice_get, min}
use Rattle.std.specs.Option.{is_none, is_some}
use Rattle.std.proofs.lemmas.Bool.{leb-true, leb-false}
use Rattle.std.proofs.lemmas.List.Elements.{All-nil, All-filter}
use Rattle.ice_types.specs.declared.declarations.ClassDecl.{ClassDecl}
use Rattle.ice_types.specs.declared.declarations.Shape.{Shape}
use Rattle.ice_types.specs.Fits.{IsOf, AreOf}
use Rattle.ice_types.specs.Rules.{IsSchema}
use Rattle.ice_types.specs.Tables.{Tables}
use Rattle.ice_prims.specs.declared.fault.Fault.{Fault}
use Rattle.ice_prims.specs.declared.fault.Kind.TheVariants.{WrongClass}
use Rattle.ice_prims.specs.Rest.{Rest, IsBytes}
use Rattle.ice_prims.proofs.Parts.{then_ok}
use Rattle.ice_encoding.specs.Bounds.{ended, filled}
use Rattle.ice_encoding.specs.Encapsulation.{encapsulated_at}
use Rattle.ice_encoding.specs.Classes.{members_in, own_members}
use Rattle.ice_encoding.specs.Flags.{Reach}
use Rattle.ice_encoding.specs.Graph.{Slice, Graph}
use Rattle.ice_encoding.specs.Instances.{most_instances, references, fits, earlier, misfit, unless_misfit, graph_at, SpellsNumbered, numbered_at}
use Rattle.ice_encoding.specs.OptionalMembers.{Members, shape_of, content_at}
use Rattle.ice_encoding.specs.References.{Reference, State, opening, seen}
use Rattle.ice_encoding.proofs.Contents.{content_found}
use Rattle.ice_encoding.proofs.Graphs.{references_seen, references_lawful, unless_ok, next_found, next_only}
use Rattle.graph_laws.specs.Defects.{Defect, At}
use Rattle.graph_laws.specs.Encapsulations.{EncapsulatedBreaks}
use Rattle.graph_laws.specs.Graphs.{HasMisfit, FirstMisfit, GraphBreaks, GraphInputBreaks}
use Rattle.graph_laws.specs.Members.{ContentBreaks}
use Rattle.graph_laws.specs.Slices.{InstancesBreak}
use Rattle.graph_laws.proofs.Breaking.{failed, same_err, no_err, then_err, Agrees, filled_agrees}
use Rattle.graph_laws.proofs.Encapsulations.{encapsulated_agrees}
use Rattle.graph_laws.proofs.From.{goes, stops, Tells}
use Rattle.graph_laws.proofs.Members.{content_tells}
use Rattle.graph_laws.proofs.Slices.{Room, port_keeps, references_tell}

-- ---- members of classes are of the types of a schema

own_are : (t : Tables) → IsSchema t → (class : ℕ) → AreOf t (own_members t class).required × AreOf t (own_members t class).optional
own_are t rules class = by_row (slice_get t.classes class) refl
  where
    by_row : (row : Option ClassDecl) → slice_get t.classes class ≡ row → AreOf t (shape_of (members_in row)).required × AreOf t (shape_of (members_in row)).optional
    by_row None is = (All-nil (λ m. IsOf t m.kind), All-nil (λ m. IsOf t m.kind))
    by_row (Some d) is =
        let are : AreOf t d.members = (rules.classes class d is).1.0 in
        (All-filter (λ m. is_none m.tag) (λ m. IsOf t m.kind) d.members are, All-filter (λ m. is_some m.tag) (λ m. IsOf t m.kind) d.members are)

-- ---- the first that does not fit

module _ (t : Tables) (is : List (List Slice)) where
  abbrev Told : List (Reference ℕ) → Option ℕ → Type 0
  Told ms None = (place : ℕ) → HasMisfit t is ms place → ⊥
  Told ms (Some place) = FirstMisfit t is ms place

  lesser : (a b : ℕ) → ((min a b ≡ a) × (a ≤ b)) ⊎ ((min a b ≡ b) × (b ≤ a))
  lesser a b = by_test (leb a b) refl
    where
      by_test : (c : Bool) → leb a b ≡ c → ((min a b ≡ a) × (a ≤ b)) ⊎ ((min a b ≡ b) × (b ≤ a))
      by_test true c = inl (omega (arith, leb-true _ _ c), leb-true _ _ c)
      by_test false c = inr (omega (arith, leb-false _ _ c), omega (arith, leb-false _ _ c))

  with_later : (m : Reference ℕ) (ms : List (Reference ℕ)) (later : Option ℕ) → Told ms later → fits t is m ≡ false → Told (m ∷ ms) (earlier m.place later)
  with_later m ms None told off = (inl (off, refl), least)
    where
      least : (other : ℕ) → HasMisfit t is (m ∷ ms) other → m.place ≤ other
      least other (inl h) = omega (arith, h.1)
      least other (inr h) = absurd (told other h)
  with_later m ms (Some place) told off = by_lesser (lesser m.place place)
    where
      by_lesser : ((min m.place place ≡ m.place) × (m.place ≤ place)) ⊎ ((min m.place place ≡ place) × (place ≤ m.place)) → FirstMisfit t is (m ∷ ms) (min m.place place)
      by_lesser (inl (same, le)) = subst (FirstMisfit t is (m ∷ ms)) (sym same) (inl (off, refl), least)
        where
          least : (other : ℕ) → HasMisfit t is (m ∷ ms) other → m.place ≤ other
          least other (inl h) = omega (arith, h.1)
          least other (inr h) = omega (arith, le, told.1 other h)
      by_lesser (inr (same, le)) = subst (FirstMisfit t is (m ∷ ms)) (sym same) (inr told.0, least)
        where
          least : (other : ℕ) → HasMisfit t is (m ∷ ms) other → place ≤ other
          least other (inl h) = omega (arith, h.1, le)
          least other (inr h) = told.1 other h

  fitting : {C : Type 0} (b : Bool) → b ≡ true → b ≡ false → C
  fitting true fit off = absurd cc
  fitting false fit off = absurd cc

  no_more : (m : Reference ℕ) (ms : List (Reference ℕ)) (later : Option ℕ) → Told ms later → fits t is m ≡ true → Told (m ∷ ms) later
  no_more m ms None told fit = none
    where
      none : (place : ℕ) → HasMisfit t is (m ∷ ms) place → ⊥
      none place (inl h) = fitting (fits t is m) fit h.0
      none place (inr h) = told place h
  no_more m ms (Some place) told fit = (inr told.0, least)
    where
      least : (other : ℕ) → HasMisfit t is (m ∷ ms) other → place ≤ other
      least other (inl h) = fitting (fits t is m) fit h.0
      least other (inr h) = told.1 other h

  by_fit : (m : Reference ℕ) (ms : List (Reference ℕ)) (later : Option ℕ) → Told ms later → (b : Bool) → fits t is m ≡ b → Told (m ∷ ms) (cond b later (earlier m.place later))
  by_fit m ms later told true fit = no_more m ms later told fit
  by_fit m ms later told false off = with_later m ms later told off

  misfits : (ms : List (Reference ℕ)) → Told ms (misfit t is ms)
  misfits [] = λ place h. h
  misfits (m ∷ ms) = by_fit m ms (misfit t is ms) (misfits ms) (fits t is m) refl

  -- the first one is told
  told_is : (ms : List (Reference ℕ)) (found : Option ℕ) (place : ℕ) → Told ms found → FirstMisfit t is ms place → found ≡ Some place
  told_is ms None place told h = absurd (told place h.0)
  told_is ms (Some other) place told h = let same : other ≡ place = omega (arith, told.1 place h.0, h.1 other told.0) in ap Some same

-- ---- a graph

module _ (t : Tables) (rules : IsSchema t) (reach : Reach) (shape : Shape) (required : AreOf t shape.required) (optional : AreOf t shape.optional) where
  abbrev Content : State (Unit {0}) → Defect
  Content = ContentBreaks (references t reach) (InstancesBreak t reach most_instances most_instances) t shape

  abbrev reading : State ℕ → Rest → Result (Members × State ℕ × Rest) Fault
  reading = content_at (references t reach).read t shape

  abbrev graph_of : Members × State ℕ × Rest → Graph × Rest
  graph_of x = (record { roots = x.0; instances = x.1.instances }, x.2)

  abbrev judged : Members × State ℕ × Rest → Result (Graph × Rest) Fault
  judged x = unless_misfit (misfit t x.1.instances x.1.met) (graph_of x)

  abbrev Roomy : State (Unit {0}) → Type 0
  Roomy = Room most_instances most_instances

  content_told : Tells seen Roomy reading Content
  content_told = subst (λ (see : State ℕ → State (Unit {0})). Tells see Roomy reading Content) (references_seen t reach)
      (content_tells (references t reach) (references_lawful t reach) Roomy (port_keeps most_instances most_instances t reach most_instances most_instances) (InstancesBreak t reach most_instances most_instances)
      (λ at. subst (λ (see : State ℕ → State (Unit {0})). Tells see Roomy ((references t reach).read at) (InstancesBreak t reach most_instances most_instances at)) (sym (references_seen t reach)) (references_tell t (own_are t rules) reach most_instances most_instances at))
      t shape required optional)

  room : Roomy opening
  room = omega arith

  unless_err : (found : Option ℕ) (y : Graph × Rest) (e : Fault) → unless_misfit found y ≡ failed e → (place : ℕ) × (found ≡ Some place) × At place WrongClass e
  unless_err None y e h = no_err y e h
  unless_err (Some place) y e h = (place, refl, sym (same_err (record { place = place; kind = WrongClass }) e h))

  graph_broken : (r : Rest) (e : Fault) → IsBytes r.bytes → graph_at t reach shape r ≡ failed e → GraphBreaks t reach shape r.place r.bytes e
  unfolding graph_at GraphBreaks
  graph_broken r e fits h = then_err (reading opening r) judged e h
      (λ bad. inl (content_told.broken opening r e room fits bad))
      (λ x x_is later.
      let k = unless_err (misfit t x.1.instances x.1.met) (graph_of x) e later in
      inr (x, x_is, k.0, subst (Told t x.1.instances x.1.met) k.1 (misfits t x.1.instances x.1.met), k.2))

  graph_breaks : (r : Rest) (e : Fault) → GraphBreaks t reach shape r.place r.bytes e → graph_at t reach shape r ≡ failed e
  unfolding graph_at GraphBreaks
  graph_breaks r e (inl h) = stops (reading opening r) judged e (content_told.breaks opening r e h)
  graph_breaks r e (inr (x, x_is, wrong, first, at)) =
      let found : misfit t x.1.instances x.1.met ≡ Some wrong = told_is t x.1.instances x.1.met (misfit t x.1.instances x.1.met) wrong (misfits t x.1.instances x.1.met) first in
      goes (reading opening r) judged x x_is ∙ ap (λ (o : Option ℕ). unless_misfit o (graph_of x)) found ∙ ap failed (sym at)

  -- a content goes on to the end of its bound
  at_end : (r : Rest) (y : Graph × Rest) → IsBytes r.bytes → graph_at t reach shape r ≡ Ok y → y.1.bytes ≡ []
  unfolding graph_at
  at_end r y fits h =
      then_ok (reading opening r) judged y h λ x x_is later.
      unless_ok (misfit t x.1.instances x.1.met) (graph_of x) y later λ none same.
      let f = content_found (references t reach) (references_lawful t reach) t shape opening r x fits x_is in
      ap (λ (z : Graph × Rest). z.1.bytes) (sym same) ∙ f.1

  none_over : (left : List ℕ) (place : ℕ) (g : Graph) (e : Fault) → left ≡ [] → ended left place g ≡ failed e → ⊥
  none_over [] place g e none h = no_err g e h
  none_over (b ∷ bs) place g e none h = absurd cc

  filled_graph : Agrees (filled (graph_at t reach shape)) (GraphBreaks t reach shape)
  filled_graph = record {
    broken = λ r e fits h. then_err (graph_at t reach shape r) (λ x. ended x.1.bytes x.1.place x.0) e h
        (λ bad. graph_broken r e fits bad)
        (λ x x_is later. absurd (none_over x.1.bytes x.1.place x.0 e (at_end r x fits x_is) later));
    breaks = λ r e h. stops (graph_at t reach shape r) (λ x. ended x.1.bytes x.1.place x.0) e (graph_breaks r e h);
  }

  pub graph_input_agrees : Agrees (numbered_at t reach shape) (GraphInputBreaks t reach shape)
  graph_input_agrees = filled_agrees (encapsulated_at (graph_at t reach shape)) (SpellsNumbered t reach shape) (record { found = next_found t reach shape; only = next_only t reach shape })
      (EncapsulatedBreaks (GraphBreaks t reach shape)) (encapsulated_agrees (graph_at t reach shape) (GraphBreaks t reach shape) filled_graph)
