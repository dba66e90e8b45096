-- What a graph keeps where it changes.
use Rattle.std.proofs.Common.{◌≡◌, ◌≢◌, ℕ, zero, suc, ◌<◌, ◌≤◌, List, [], ◌∷◌, ◌++◌, length, map, slice_set, nat_eq, IsTrue, refl, inl, inr, sym, ap, ◌∙◌, subst, length-append, arith}
use Rattle.std.proofs.lemmas.List.{map-set, length-map, map-append}
use Rattle.std.proofs.lemmas.Bool.{cases_eq, eqb-true, eq-eqb}
use Rattle.ice_encoding.specs.OptionalMembers.{Members}
use Rattle.ice_encoding.specs.Graph.{Slice, Graph}
use Rattle.ice_encoding.specs.Instances.{slices_of}
use Rattle.ice_encoding.specs.References.{replaced}
use Rattle.ice_encoding.specs.Visiting.{most}
use Rattle.graph_arena.specs.Arena.{AreBelow, ContentFits, InstanceFits, EachFits, IsSound, with_reserved, with_filled}

pub most-is : most ≡ 100000000
unfolding most
most-is = refl

pub below-more : (count more : ℕ) (ns : List ℕ) → count ≤ more → AreBelow count ns → AreBelow more ns
below-more count more [] le below = tt
below-more count more (n ∷ ns) le below = (omega (arith, le, below.0), below-more count more ns le below.1)

content-more : (count more : ℕ) (c : Members) → count ≤ more → ContentFits count c → ContentFits more c
content-more count more c le fits = record { names = below-more count more _ le fits.names; order = fits.order }

each-more : (count more : ℕ) (is : List (List Slice)) → count ≤ more → EachFits count is → EachFits more is
each-more count more [] le fits = tt
each-more count more (i ∷ is) le fits = (record { names = below-more count more _ le fits.0.names; order = fits.0.order }, each-more count more is le fits.1)

each-end : (count : ℕ) (is : List (List Slice)) → EachFits count is → EachFits count (is ++ [] ∷ [])
each-end count [] fits = (record { names = tt; order = tt }, tt)
each-end count (i ∷ is) fits = (fits.0, each-end count is fits.1)

each-replaced : (count at : ℕ) (slices : List Slice) (is : List (List Slice)) → InstanceFits count slices → EachFits count is → EachFits count (replaced at slices is)
each-replaced count zero slices [] one fits = tt
each-replaced count (suc at) slices [] one fits = tt
each-replaced count zero slices (i ∷ is) one fits = (one, fits.1)
each-replaced count (suc at) slices (i ∷ is) one fits = (fits.0, each-replaced count at slices is one fits.1)

pub fits-at : (count at : ℕ) (is : List (List Slice)) → EachFits count is → at < length is → InstanceFits count (slices_of is at)
fits-at count at [] fits lt = absurd (omega (arith, lt))
fits-at count zero (i ∷ is) fits lt = fits.0
fits-at count (suc at) (i ∷ is) fits lt = fits-at count at is fits.1 (omega (arith, lt))

pub length-replaced : (at : ℕ) (slices : List Slice) (is : List (List Slice)) → length (replaced at slices is) ≡ length is
length-replaced zero slices [] = refl
length-replaced (suc at) slices [] = refl
length-replaced zero slices (i ∷ is) = refl
length-replaced (suc at) slices (i ∷ is) = ap suc (length-replaced at slices is)

replaced-set : (at : ℕ) (slices : List Slice) (is : List (List Slice)) → replaced at slices is ≡ slice_set is at slices
replaced-set zero slices [] = refl
replaced-set (suc at) slices [] = refl
replaced-set zero slices (i ∷ is) = refl
replaced-set (suc at) slices (i ∷ is) = ap (λ (js : List (List Slice)). i ∷ js) (replaced-set at slices is)

pub view-set : {A : Type 0} (view : A → List Slice) (items : List A) (at : ℕ) (x : A) → map view (slice_set items at x) ≡ replaced at (view x) (map view items)
view-set view items at x = map-set view items at x ∙ sym (replaced-set at (view x) (map view items))

-- ---- each change

pub reserved-sound : (g : Graph) → IsSound g → length g.instances < most → IsSound (with_reserved g)
reserved-sound g sound lt =
    let more : length (g.instances ++ [] ∷ []) ≡ suc (length g.instances) = length-append g.instances ([] ∷ []) ∙ omega arith in
    let le : length g.instances ≤ length (g.instances ++ [] ∷ []) = omega (arith, more) in
    record {
      few = omega (arith, more, lt);
      roots = content-more (length g.instances) (length (g.instances ++ [] ∷ [])) g.roots le sound.roots;
      instances = each-end (length (g.instances ++ [] ∷ [])) g.instances (each-more (length g.instances) (length (g.instances ++ [] ∷ [])) g.instances le sound.instances);
    }

pub filled-sound : (g : Graph) (at : ℕ) (slices : List Slice) → IsSound g → InstanceFits (length g.instances) slices → IsSound (with_filled at slices g)
filled-sound g at slices sound one =
    let same : length g.instances ≡ length (replaced at slices g.instances) = sym (length-replaced at slices g.instances) in
    record {
      few = subst (λ (n : ℕ). n ≤ most) same sound.few;
      roots = subst (λ (n : ℕ). ContentFits n g.roots) same sound.roots;
      instances = subst (λ (n : ℕ). EachFits n (replaced at slices g.instances)) same (each-replaced (length g.instances) at slices g.instances one sound.instances);
    }

-- ---- as the fields of a graph are seen

abbrev pub graph_of : Members → List (List Slice) → Graph
graph_of roots instances = record { roots = roots; instances = instances }

pub sound-at : (g h : Graph) (at : ℕ) → g ≡ h → IsSound g → at < length h.instances → InstanceFits (length h.instances) (slices_of h.instances at)
sound-at g h at same sound lt =
    let whole : IsSound h = subst IsSound same sound in
    fits-at (length h.instances) at h.instances whole.instances lt

pub count-small : {A : Type 0} (view : A → List Slice) (items : List A) (n : ℕ) → n ≡ length items → length (map view items) ≤ most → n < 4294967296
count-small view items n is few = omega (arith, is, length-map {A = _} {B = List Slice} items view, few, most-is)

pub full-is : (n count : ℕ) → n ≡ count → (IsTrue (nat_eq n 100000000) → count ≡ most) × (count ≡ most → IsTrue (nat_eq n 100000000))
full-is n count is = (λ full. sym is ∙ (eqb-true n 100000000 full ∙ sym most-is), λ all. eq-eqb n 100000000 (is ∙ (all ∙ most-is)))

pub filled-view : {A : Type 0} (view : A → List Slice) (roots : Members) (items : List A) (at : ℕ) (x : A) (g : Graph) → graph_of roots (map view items) ≡ g → graph_of roots (map view (slice_set items at x)) ≡ with_filled at (view x) g
filled-view view roots items at x g is = ap (graph_of roots) (view-set view items at x) ∙ ap (with_filled at (view x)) is

pub filled-keeps : {A : Type 0} (view : A → List Slice) (roots : Members) (items : List A) (at : ℕ) (x : A) (g : Graph) → graph_of roots (map view items) ≡ g → IsSound (graph_of roots (map view items)) → InstanceFits (length g.instances) (view x) → IsSound (graph_of roots (map view (slice_set items at x)))
filled-keeps view roots items at x g is sound one =
    subst IsSound (sym (filled-view view roots items at x g is)) (filled-sound g at (view x) (subst IsSound is sound) one)

below-most : (n : ℕ) → n ≤ most → n ≢ most → n < most
below-most n le apart = elim (cases_eq n most) [ inl all ↦ absurd (apart all) | inr less ↦ omega (arith, le, less) ]

pub reserved-keeps : {A : Type 0} (view : A → List Slice) (roots : Members) (items : List A) (x : A) (g : Graph) → graph_of roots (map view items) ≡ g → view x ≡ [] → IsSound (graph_of roots (map view items)) → length g.instances ≢ most → IsSound (graph_of roots (map view (items ++ x ∷ [])))
reserved-keeps view roots items x g is none sound room =
    let seen : map view (items ++ x ∷ []) ≡ map view items ++ [] ∷ [] = map-append view items (x ∷ []) ∙ ap (λ (s : List Slice). map view items ++ s ∷ []) none in
    subst IsSound (sym (ap (graph_of roots) seen ∙ ap with_reserved is)) (reserved-sound g (subst IsSound is sound) (below-most (length g.instances) (subst IsSound is sound).few room))
