-- The laws of graphs.
use Rattle.std.proofs.Common.{◌≡◌, ℕ, List, [], ◌∷◌, ◌++◌, map, Option, Some, None, Ok, refl, sym, ap, subst, ◌∙◌, inl, inr, append-nil}
use Rattle.ice_types.specs.declared.declarations.Shape.{Shape}
use Rattle.ice_types.specs.Tables.{Tables}
use Rattle.ice_prims.specs.Rest.{Rest, whole, Took, IsBytes}
use Rattle.ice_prims.specs.Laws.{FoundPart, OnlyPart}
use Rattle.ice_prims.proofs.Parts.{chosen, then_ok, ok_is}
use Rattle.ice_encoding.specs.Port.{IsLawful}
use Rattle.ice_encoding.specs.Encapsulation.{encapsulated_at}
use Rattle.ice_encoding.proofs.Encapsulations.{OnlyAtEnd, encapsulated_found, encapsulated_only}
use Rattle.ice_encoding.specs.OptionalMembers.{Members, SpellsContent, content_at}
use Rattle.ice_encoding.proofs.Contents.{content_found, content_only}
use Rattle.ice_encoding.specs.Graph.{Slice, Graph}
use Rattle.ice_encoding.specs.References.{State, Reference, opening, seen, unplaced}
use Rattle.ice_encoding.specs.Flags.{Reach}
use Rattle.ice_encoding.specs.Instances.{most_instances, references, fits, AllFit, earlier, misfit, unless_misfit, SpellsGraph, graph_at, SpellsNumbered, numbered_at}
use Rattle.ice_encoding.proofs.Ending.{ends, took_all, ends_is, left_found, left_only}
use Rattle.ice_encoding.proofs.Slices.{instances_seen, instances_lawful}

pub references_seen : (t : Tables) (reach : Reach) → (references t reach).seen ≡ seen
references_seen t reach = instances_seen t reach most_instances most_instances

pub references_lawful : (t : Tables) (reach : Reach) → IsLawful (references t reach)
references_lawful t reach = instances_lawful t reach most_instances most_instances

-- ---- classes that fit

earlier_some : {C : Type 0} (place : ℕ) (other : Option ℕ) → earlier place other ≡ None → C
earlier_some place None e = absurd cc
earlier_some place (Some n) e = absurd cc

pub none_misfits : (t : Tables) (is : List (List Slice)) (ms : List (Reference ℕ)) → misfit t is ms ≡ None → AllFit t is (map unplaced ms)
none_misfits t is [] e = tt
none_misfits t is (m ∷ ms) e = elim (chosen (fits t is m) (misfit t is ms) (earlier m.place (misfit t is ms)) None e) [
  | inl c ↦ (c.0, none_misfits t is ms c.1)
  | inr c ↦ earlier_some m.place (misfit t is ms) c.1
]

pub all_fit : (t : Tables) (is : List (List Slice)) (ms : List (Reference ℕ)) → AllFit t is (map unplaced ms) → misfit t is ms ≡ None
all_fit t is [] h = refl
all_fit t is (m ∷ ms) h = rw h.0 (all_fit t is ms h.1)

pub unless_ok : {A C : Type 0} (place : Option ℕ) (x y : A) → unless_misfit place x ≡ Ok y → (place ≡ None → x ≡ y → C) → C
unless_ok None x y e go = go refl (ok_is x y e)
unless_ok (Some n) x y e go = absurd cc

-- ---- a whole content

module _ (t : Tables) (reach : Reach) (shape : Shape) where
  abbrev result : Members × State ℕ × Rest → Graph × Rest
  result x = (record { roots = x.0; instances = x.1.instances }, x.2)

  -- the content goes on to the end of its bound
  graph_found : FoundPart (graph_at t reach shape) (SpellsGraph t reach shape)
  unfolding SpellsGraph graph_at
  graph_found r y fits e =
      then_ok (content_at (references t reach).read t shape opening r) (λ x. unless_misfit (misfit t x.1.instances x.1.met) (result x)) y e λ x x_is last.
      unless_ok (misfit t x.1.instances x.1.met) (result x) y last λ none same.
      let f = content_found (references t reach) (references_lawful t reach) t shape opening r x fits x_is in
      let o = content_only (references t reach) (references_lawful t reach) t shape opening ((references t reach).seen x.1) r x.0 f.0 in
      let at_end : ends r ≡ x.2 = ap (λ (z : Members × State ℕ × Rest). z.2) (ok_is (x.0, o.0, ends r) x (sym o.2 ∙ x_is)) in
      let h : SpellsContent (references t reach) t shape r.bytes x.0 opening (seen x.1) = subst (λ (see : State ℕ → State (Unit {0})). SpellsContent (references t reach) t shape r.bytes x.0 (see opening) (see x.1)) (references_seen t reach) f.0 in
      subst (λ (z : Graph × Rest). (bytes : List ℕ) × Took r bytes z.1 × SpellsGraph t reach shape bytes z.0) same (r.bytes, subst (λ (s : Rest). Took r r.bytes s) at_end (took_all r), (seen x.1, h, refl, none_misfits t x.1.instances x.1.met none))

  graph_is : (r s : Rest) (roots : Members) (end : State ℕ) → content_at (references t reach).read t shape opening r ≡ Ok (roots, end, s) → misfit t end.instances end.met ≡ None → graph_at t reach shape r ≡ Ok (record { roots = roots; instances = end.instances }, s)
  unfolding graph_at
  graph_is r s roots end is none = rw (is, none) refl

  graph_only : OnlyAtEnd (graph_at t reach shape) (SpellsGraph t reach shape)
  unfolding SpellsGraph
  graph_only r s bytes g k none h =
      let all : bytes ≡ r.bytes = sym (k.parts ∙ ap (λ (l : List ℕ). bytes ++ l) none ∙ append-nil bytes) in
      let start : SpellsContent (references t reach) t shape r.bytes g.roots ((references t reach).seen opening) h.0 =
      subst (λ (see : State ℕ → State (Unit {0})). SpellsContent (references t reach) t shape r.bytes g.roots (see opening) h.0) (sym (references_seen t reach))
      (subst (λ (l : List ℕ). SpellsContent (references t reach) t shape l g.roots opening h.0) all h.1) in
      let o = content_only (references t reach) (references_lawful t reach) t shape opening h.0 r g.roots start in
      let end_is : seen o.0 ≡ h.0 = ap (λ (see : State ℕ → State (Unit {0})). see o.0) (sym (references_seen t reach)) ∙ o.1 in
      let fit : AllFit t o.0.instances (map unplaced o.0.met) = subst (λ (u : State (Unit {0})). AllFit t u.instances u.met) (sym end_is) h.3 in
      let instances_is : o.0.instances ≡ g.instances = ap (λ (u : State (Unit {0})). u.instances) end_is ∙ h.2 in
      graph_is r (ends r) g.roots o.0 o.2 (all_fit t o.0.instances o.0.met fit) ∙ (λ i. Ok (record { roots = g.roots; instances = instances_is i }, sym (ends_is r s bytes k none) i))

  -- an encapsulation that begins where reading stands, whatever follows it
  pub next_found : FoundPart (encapsulated_at (graph_at t reach shape)) (SpellsNumbered t reach shape)
  next_found = encapsulated_found (graph_at t reach shape) (SpellsGraph t reach shape) graph_found

  pub next_only : OnlyPart (encapsulated_at (graph_at t reach shape)) (SpellsNumbered t reach shape)
  next_only = encapsulated_only (graph_at t reach shape) (SpellsGraph t reach shape) graph_only

  -- one that is all that is left
  pub last_found : (r : Rest) (g : Graph) → IsBytes r.bytes → numbered_at t reach shape r ≡ Ok g → SpellsNumbered t reach shape r.bytes g
  last_found = left_found (encapsulated_at (graph_at t reach shape)) (SpellsNumbered t reach shape) next_found

  pub last_only : (r : Rest) (g : Graph) → SpellsNumbered t reach shape r.bytes g → numbered_at t reach shape r ≡ Ok g
  last_only = left_only (encapsulated_at (graph_at t reach shape)) (SpellsNumbered t reach shape) next_only

  -- and that is all
  pub numbered_found : (bytes : List ℕ) (g : Graph) → IsBytes bytes → numbered_at t reach shape (whole bytes) ≡ Ok g → SpellsNumbered t reach shape bytes g
  numbered_found bytes = last_found (whole bytes)

  pub numbered_only : (bytes : List ℕ) (g : Graph) → SpellsNumbered t reach shape bytes g → numbered_at t reach shape (whole bytes) ≡ Ok g
  numbered_only bytes = last_only (whole bytes)

  pub numbered_apart : (bytes : List ℕ) (g h : Graph) → SpellsNumbered t reach shape bytes g → SpellsNumbered t reach shape bytes h → g ≡ h
  numbered_apart bytes g h p q = ok_is g h (sym (numbered_only bytes g p) ∙ numbered_only bytes h q)
