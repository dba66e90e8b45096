-- The form of a graph: its names are numbers in rising order of first visit, and its type is that of the graph.
use Rattle.std.proofs.Common.{ℕ, zero, suc, ◌<◌, ◌≤◌, ◌≡◌, List, [], ◌∷◌, length, map, get_or, refl, sym, ap, ◌∙◌, subst, arith, inl, inr, Option, Some, None}
use Rattle.std.proofs.lemmas.Bool.{cases_eq, cases_lt}
use Rattle.std.proofs.lemmas.List.{length-map, ext_get_or, get_or-map}
use Rattle.ice_types.specs.declared.declarations.Shape.{Shape}
use Rattle.ice_types.specs.Tables.{Tables}
use Rattle.ice_encoding.specs.Typed.{Refers}
use Rattle.ice_encoding.specs.OptionalMembers.{Members}
use Rattle.ice_encoding.specs.Classes.{base_of, own_members}
use Rattle.ice_encoding.specs.Graph.{Slice, known, unknown, Graph}
use Rattle.ice_encoding.specs.Names.{listed_name, names_of, instance_names, renamed_name, renamed_members, renamed_slice}
use Rattle.ice_encoding.specs.Instances.{class_of, slices_of, class_fits}
use Rattle.ice_encoding.specs.Visiting.{place, order, most}
use Rattle.ice_encoding.specs.SameGraph.{AreListed, HasEachOnce, Holds, numbered, Same, form}
use Rattle.ice_encoding.specs.TypedGraph.{AreReferred, IsKnown, AreBases, IsInstance, IsHeldIn, RefersUpTo, OfTypeTo}
use Rattle.ice_encoding.specs.Flags.{Reach, all_slices, known_classes}
use Rattle.ice_encoding.specs.CanonicalGraph.{Format, sliced, compact, Compact, Writable}
use Rattle.graph_laws.proofs.Renamed.{Moves, members-renamed}
use Rattle.graph_arena.specs.Arena.{AreBelow}
use Rattle.graph_arena.proofs.Closed.{place-tail, once-end, IsOrder}
use Rattle.graph_arena.proofs.Keeping as keeping
use Rattle.graph_laws.proofs.Places.{get-place, AreListed-left, AreListed-right}
use Rattle.graph_laws.proofs.Renumbered.{order-numbered, instance-numbered, renumbered}
use Rattle.graph_laws.proofs.Sameness.{place-get, listed-within}
use Rattle.graph_laws.proofs.TypeIds.{HaveTexts}
use Rattle.graph_laws.proofs.Narrowed.{Narrow, members-narrowed}
use Rattle.graph_laws.proofs.Upto.{upto, length-upto, place-upto, unlisted-upto}

-- ---- places of the names themselves

pub get_or-upto : (j i : ℕ) → i < j → get_or (upto j) i 0 ≡ i
get_or-upto j i lt =
    let at = place-upto j i lt in
    ap (λ (k : ℕ). get_or (upto j) k 0) (sym at) ∙ get-place (upto j) i 0 (omega (arith, at, length-upto j))

pub places-upto : (ns : List ℕ) → HasEachOnce ns → map (place ns) ns ≡ upto (length ns)
places-upto ns once = ext_get_or 0 (map (place ns) ns) (upto (length ns)) (length-map {A = ℕ} {B = ℕ} ns (place ns) ∙ sym (length-upto (length ns)))
    (λ i lt. let i-in : i < length ns = omega (arith, length-map {A = ℕ} {B = ℕ} ns (place ns)) in
    get_or-map (place ns) ns i 0 0 i-in ∙ place-get ns i once i-in ∙ sym (get_or-upto (length ns) i i-in))

-- ---- types of instances that were renamed

module _ (t : Tables) (f : ℕ → ℕ) (ns : List ℕ) (Refer Other : Refers) (moves : Moves f (Narrow Refer ns) Other) where
  known-renamed : (class : ℕ) (c : Members) → AreListed ns (names_of c) → IsKnown t Refer class c → IsKnown t Other class (renamed_members f c)
  known-renamed class c listed h = (h.0, h.1, members-renamed t f (Narrow Refer ns) Other moves (own_members t class) c (members-narrowed t ns Refer (own_members t class) c listed h.2))

  bases-renamed : (base : Option ℕ) (ss : List Slice) → AreListed ns (instance_names ss) → AreBases t Refer base ss → AreBases t Other base (map (renamed_slice f) ss)
  bases-renamed None ss listed h = ap (map (renamed_slice f)) h
  bases-renamed (Some class) [] listed h = absurd h
  bases-renamed (Some class) (unknown id bytes optionals table ∷ ss) listed h = absurd h
  bases-renamed (Some class) (known other content ∷ ss) listed h =
      (h.0, known-renamed class content (AreListed-left ns (names_of content) (instance_names ss) listed) h.1, bases-renamed (base_of t class) ss (AreListed-right ns (names_of content) (instance_names ss) listed) h.2)

  referred-renamed : (table : List ℕ) → AreListed ns table → AreReferred Refer table → AreReferred Other (map f table)
  referred-renamed [] listed h = tt
  referred-renamed (n ∷ table) listed h = (moves.1 None (Some n) (h.0, (listed.0, tt)), referred-renamed table listed.1 h.1)

  pub instance-typed : (ss : List Slice) → AreListed ns (instance_names ss) → IsInstance t Refer ss → IsInstance t Other (map (renamed_slice f) ss)
  instance-typed [] listed h = absurd h
  instance-typed (unknown id bytes optionals table ∷ []) listed h = (h.0, h.1, referred-renamed table (AreListed-left ns table [] listed) h.2, h.3)
  instance-typed (unknown id bytes optionals table ∷ s ∷ ss) listed h =
      ((h.0.0, h.0.1, referred-renamed table (AreListed-left ns table (instance_names (s ∷ ss)) listed) h.0.2, h.0.3), instance-typed (s ∷ ss) (AreListed-right ns table (instance_names (s ∷ ss)) listed) h.1)
  instance-typed (known class content ∷ ss) listed h =
      (known-renamed class content (AreListed-left ns (names_of content) (instance_names ss) listed) h.0, bases-renamed (base_of t class) ss (AreListed-right ns (names_of content) (instance_names ss) listed) h.1)

pub class-renamed : (f : ℕ → ℕ) (ss : List Slice) → class_of (map (renamed_slice f) ss) ≡ class_of ss
class-renamed f [] = refl
class-renamed f (known class content ∷ ss) = refl
class-renamed f (unknown id bytes optionals table ∷ ss) = class-renamed f ss

-- ---- what can be written, and read within a reach

-- where known classes alone are read, the first slice is of one, and so all are
abbrev pub Asked : Reach → Format → List Slice → Type 0
Asked all_slices format slices = Writable format slices
Asked known_classes format slices = Compact slices

-- and each type id is UTF-8
abbrev pub EachAsked : Tables → Reach → Format → Graph → Type 0
EachAsked t reach format g = (n : ℕ) → place (order g) n < length (order g) → Asked reach format (slices_of g.instances n) × HaveTexts t (slices_of g.instances n)

texts-renamed : (t : Tables) (f : ℕ → ℕ) (ss : List Slice) → HaveTexts t ss → HaveTexts t (map (renamed_slice f) ss)
texts-renamed t f [] h = tt
texts-renamed t f (known class content ∷ ss) h = (h.0, texts-renamed t f ss h.1)
texts-renamed t f (unknown id bytes optionals table ∷ ss) h = texts-renamed t f ss h

compact-renamed : (f : ℕ → ℕ) (ss : List Slice) → Compact ss → Compact (map (renamed_slice f) ss)
compact-renamed f [] h = h
compact-renamed f (known class content ∷ ss) h = tt
compact-renamed f (unknown id bytes optionals table ∷ ss) h = h

pub asked-renamed : (reach : Reach) (format : Format) (f : ℕ → ℕ) (ss : List Slice) → Asked reach format ss → Asked reach format (map (renamed_slice f) ss)
asked-renamed all_slices sliced f ss h = tt
asked-renamed all_slices compact f ss h = compact-renamed f ss h
asked-renamed known_classes format f ss h = compact-renamed f ss h

-- ---- the form

-- a graph whose names are numbers by first visit
pub record InOrder (k : Graph) : Type 0 where
  pub size : length k.instances ≤ most
  pub order : order k ≡ upto (length k.instances)
  pub roots : AreBelow (length k.instances) (names_of k.roots)
  pub instances : (n : ℕ) → n < length k.instances → AreBelow (length k.instances) (instance_names (slices_of k.instances n))

-- the name of a number
pub record Named (g : Graph) (n : ℕ) : Type 0 where
  pub name : ℕ
  pub listed : place (order g) name < length (order g)
  pub is : n ≡ place (order g) name

-- what is asked of the order of first visits: it holds the names that are reached, and there are not too many
pub record Reached (g : Graph) : Type 0 where
  pub is : IsOrder g (order g)
  pub few : length (order g) ≤ most

named : (g : Graph) → Reached g → (n : ℕ) → n < length (order g) → Named g n
named g reached n lt =
    let at = place-get (order g) n reached.is.holds.once lt in
    record { name = get_or (order g) n 0; listed = omega (arith, at, lt); is = sym at }

below-places : (ns xs : List ℕ) → AreListed ns xs → AreBelow (length ns) (map (place ns) xs)
below-places ns [] listed = tt
below-places ns (x ∷ xs) listed = (listed.0, below-places ns xs listed.1)

-- names that were replaced by their places
pub placed-below : (ns ms xs : List ℕ) (count : ℕ) → count ≡ length ns → ms ≡ map (place ns) xs → AreListed ns xs → AreBelow count ms
placed-below ns ms xs count size is listed = subst (λ (c : ℕ). AreBelow c ms) (sym size) (subst (AreBelow (length ns)) (sym is) (below-places ns xs listed))

pub form-in_order : (g : Graph) → Reached g → InOrder (numbered (order g) g)
form-in_order g reached =
    let ns : List ℕ = order g in
    let holds : Holds ns g = reached.is.holds in
    let k : Graph = numbered ns g in
    let size : length k.instances ≡ length ns = length-map ns (λ n. map (renamed_slice (place ns)) (slices_of g.instances n)) in
    record {
      size = omega (arith, size, reached.few);
      order = (order-numbered ns g holds).renamed ∙ places-upto ns holds.once ∙ ap upto (sym size);
      roots = placed-below ns (names_of k.roots) (names_of g.roots) (length k.instances) size (keeping.members-renamed (place ns) g.roots) holds.roots;
      instances = λ n lt.
          let m = named g reached n (omega (arith, size, lt)) in
          let slices : slices_of k.instances n ≡ map (renamed_slice (place ns)) (slices_of g.instances m.name) = ap (slices_of k.instances) m.is ∙ instance-numbered ns g m.name m.listed in
          placed-below ns (instance_names (slices_of k.instances n)) (instance_names (slices_of g.instances m.name)) (length k.instances) size
          (ap instance_names slices ∙ keeping.instance-renamed (place ns) (slices_of g.instances m.name)) (holds.instances m.name m.listed);
    }

pub listed-below : (limit : ℕ) (ns : List ℕ) (n : ℕ) → AreBelow limit ns → place ns n < length ns → n < limit
listed-below limit [] n below lt = absurd (omega arith)
listed-below limit (m ∷ ns) n below lt = elim (cases_eq m n) [
  | inl e ↦ subst (λ (k : ℕ). k < limit) e below.0
  | inr apart ↦ listed-below limit ns n below.1 (omega (arith, place-tail m ns n apart))
]

-- a class fits under the other name
form-held : (t : Tables) (g : Graph) (declared n : Option ℕ) → IsHeldIn t g.instances declared n × AreListed (order g) (listed_name n) → IsHeldIn t (numbered (order g) g).instances declared (renamed_name (place (order g)) n)
form-held t g declared None h = tt
form-held t g declared (Some n) h =
    let ns : List ℕ = order g in
    let class : class_of (slices_of (numbered ns g).instances (place ns n)) ≡ class_of (slices_of g.instances n) = ap class_of (instance-numbered ns g n h.1.0) ∙ class-renamed (place ns) (slices_of g.instances n) in
    (omega (arith, h.1.0, length-map ns (λ n. map (renamed_slice (place ns)) (slices_of g.instances n))), ap (class_fits t declared) class ∙ h.0.1)

pub form-moves : (t : Tables) (most : ℕ) (g : Graph) → Moves (place (order g)) (Narrow (RefersUpTo t most g.instances) (order g)) (RefersUpTo t most (numbered (order g) g).instances)
form-moves t most g = (omega arith, form-held t g)

pub record Typed (t : Tables) (most : ℕ) (shape : Shape) (reach : Reach) (format : Format) (g : Graph) : Type 0 where
  pub typed : OfTypeTo t most shape g
  pub asked : (n : ℕ) → n < length g.instances → Asked reach format (slices_of g.instances n) × HaveTexts t (slices_of g.instances n)

pub form-typed : (t : Tables) (most : ℕ) (shape : Shape) (reach : Reach) (format : Format) (g : Graph) → Reached g → OfTypeTo t most shape g → EachAsked t reach format g → Typed t most shape reach format (numbered (order g) g)
form-typed t most shape reach format g reached h asked =
    let ns : List ℕ = order g in
    let is : IsOrder g ns = reached.is in
    let k : Graph = numbered ns g in
    let size : length k.instances ≡ length ns = length-map ns (λ n. map (renamed_slice (place ns)) (slices_of g.instances n)) in
    let Refer : Refers = RefersUpTo t most g.instances in
    let Other : Refers = RefersUpTo t most k.instances in
    record {
      typed = record {
        roots = members-renamed t (place ns) (Narrow Refer ns) Other (form-moves t most g) shape g.roots (members-narrowed t ns Refer shape g.roots is.holds.roots h.roots);
        instances = λ n lt.
            let m = named g reached n (omega (arith, size, lt)) in
            let slices : slices_of k.instances n ≡ map (renamed_slice (place ns)) (slices_of g.instances m.name) = ap (slices_of k.instances) m.is ∙ instance-numbered ns g m.name m.listed in
            let one = h.instances m.name (listed-below (length g.instances) ns m.name is.below m.listed) in
            subst (IsInstance t Other) (sym slices) (instance-typed t (place ns) ns Refer Other (form-moves t most g) (slices_of g.instances m.name) (is.holds.instances m.name m.listed) one);
      };
      asked = λ n lt.
          let m = named g reached n (omega (arith, size, lt)) in
          let slices : slices_of k.instances n ≡ map (renamed_slice (place ns)) (slices_of g.instances m.name) = ap (slices_of k.instances) m.is ∙ instance-numbered ns g m.name m.listed in
          let one = asked m.name m.listed in (
            subst (Asked reach format) (sym slices) (asked-renamed reach format (place ns) (slices_of g.instances m.name) one.0),
            subst (HaveTexts t) (sym slices) (texts-renamed t (place ns) (slices_of g.instances m.name) one.1),
          );
    }

-- ---- the form is the same graph

pub once-upto : (n : ℕ) → HasEachOnce (upto n)
once-upto zero = tt
once-upto (suc n) = once-end (upto n) n (once-upto n) (unlisted-upto n n (omega arith))

pub upto-listed : (count : ℕ) (ms : List ℕ) → AreBelow count ms → AreListed (upto count) ms
upto-listed count [] below = tt
upto-listed count (m ∷ ms) below = (omega (arith, place-upto count m below.0, below.0, length-upto count), upto-listed count ms below.1)

pub listed-upto : (count n : ℕ) → place (upto count) n < length (upto count) → n < count
listed-upto count n lt = elim (cases_lt n count) [ inl less ↦ less | inr le ↦ absurd (omega (arith, lt, unlisted-upto count n le)) ]

pub upto-holds : (k : Graph) → InOrder k → Holds (upto (length k.instances)) k
upto-holds k in_order = record {
  once = once-upto (length k.instances);
  roots = upto-listed (length k.instances) (names_of k.roots) in_order.roots;
  instances = λ n lt. upto-listed (length k.instances) (instance_names (slices_of k.instances n)) (in_order.instances n (listed-upto (length k.instances) n lt));
}

pub form-same-graph : (g : Graph) → Reached g → Same (form g) g
unfolding form
form-same-graph g reached =
    let ns : List ℕ = order g in
    let k : Graph = numbered ns g in
    let size : length k.instances ≡ length ns = length-map ns (λ n. map (renamed_slice (place ns)) (slices_of g.instances n)) in
    let are : upto (length k.instances) ≡ map (place ns) ns = ap upto size ∙ sym (places-upto ns reached.is.holds.once) in
    record {
      left = upto (length k.instances);
      right = ns;
      left_holds = upto-holds k (form-in_order g reached);
      right_holds = reached.is.holds;
      equal = ap (λ (l : List ℕ). numbered l k) are ∙ renumbered ns g reached.is.holds ns (listed-within ns ns (λ n lt. lt));
    }
