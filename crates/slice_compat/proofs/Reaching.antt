-- What a type reaches, a base of it reaches too.
use Rattle.std.proofs.Common.{ℕ, ◌<◌, ◌≡◌, ◌⊎◌, List, length, Option, None, Some, refl, sym, ◌∙◌, subst, inl, inr, arith}
use Rattle.std.specs.Prelude.{slice_get, IsTrue}
use Rattle.std.proofs.lemmas.Option.{slice_get_within, option_and_then_some}
use Rattle.ice_types.specs.declared.kind.TypeRef.{TypeRef}
use Rattle.ice_types.specs.declared.kind.TypeRef.TheVariants as kinds
use Rattle.ice_types.specs.declared.declarations.ClassDecl.{ClassDecl}
use Rattle.ice_types.specs.Tables.{Tables, is_defined}
use Rattle.ice_types.specs.Rules.{IsSchema}
use Rattle.ice_types.specs.Fits.{ClassBaseFits}
use Rattle.ice_types.specs.Inherited.{base_in, IsA, Here, Onward}
use Rattle.ice_types.proofs.BaseChains.{flag_within}
use Rattle.slice_compat.specs.Reached.{IsOfPlace, MayName, Names, AtPlace, InElement, InValue, InMember, IsReached, AtOnce, Through}

some_same : {A : Type 0} (o : Option A) (x y : A) → o ≡ Some x → o ≡ Some y → x ≡ y
some_same o x y e f = let both : Some x ≡ Some y = sym e ∙ f in cc

-- from base to base
pub chain_joined : (classes : List ClassDecl) (a b c : ℕ) → IsA classes a b → IsA classes b c → IsA classes a c
chain_joined classes a b c (Here _) h = h
chain_joined classes a b c (Onward _ next _ step rest) h = Onward a next c step (chain_joined classes next b c rest h)

-- ---- the base of a class is a class of the tables

base_fits : (t : Tables) (stated : Option ℕ) (base : ℕ) → stated ≡ Some base → ClassBaseFits t stated → IsTrue (is_defined t.defined_classes base)
base_fits t None base e h = absurd cc
base_fits t (Some other) base e h = let same : other ≡ base = cc in subst (λ (c : ℕ). IsTrue (is_defined t.defined_classes c)) same h

pub base_within : (t : Tables) → IsSchema t → (class base : ℕ) → base_in t.classes class ≡ Some base → base < length t.classes
base_within t rules class base e =
    option_and_then_some (λ (c : ClassDecl). c.base) (slice_get t.classes class) base e
    (λ d row own. omega (arith, flag_within t.defined_classes base (base_fits t d.base base own (rules.classes class d row).0), rules.class_flags))

-- a class with a base is a class of the tables
pub class_within : (t : Tables) (class base : ℕ) → base_in t.classes class ≡ Some base → class < length t.classes
class_within t class base e =
    option_and_then_some (λ (c : ClassDecl). c.base) (slice_get t.classes class) base e (λ d row own. slice_get_within t.classes class d row)

-- ---- by the place

module _ (t : Tables) where
  -- what is named is a class of the tables
  pub named_within : (class : ℕ) (kind : TypeRef) → Names t class kind → class < length t.classes
  named_within class kind (AtPlace declared may) = may.0
  named_within class kind (InElement at q row names) = named_within class q.element names
  named_within class kind (InValue at d row names) = named_within class d.value names
  named_within class kind (InMember at d place m row there names) = named_within class m.kind names

  pub reached_within : (root : TypeRef) (class : ℕ) → IsReached t root class → class < length t.classes
  reached_within root class (AtOnce _ names) = named_within class root names
  reached_within root class (Through from _ reached (d, place, m, row, there, names)) = named_within class m.kind names

  module _ (rules : IsSchema t) (class base : ℕ) (e : base_in t.classes class ≡ Some base) where
    step : IsA t.classes class base
    step = Onward class base base e (Here base)

    down_base : (declared other : ℕ) → other ≡ class → IsA t.classes other declared → IsA t.classes base declared ⊎ IsA t.classes declared base
    down_base declared other same (Here _) = inr (subst (λ (k : ℕ). IsA t.classes k base) (sym same) step)
    down_base declared other same (Onward _ next _ first rest) =
        inl (subst (λ (k : ℕ). IsA t.classes k declared) (some_same (base_in t.classes class) next base (subst (λ (k : ℕ). base_in t.classes k ≡ Some next) same first) e) rest)

    place_base : (declared : Option ℕ) → IsOfPlace t declared class → IsOfPlace t declared base
    place_base None h = tt
    place_base (Some declared) (inl down) = down_base declared class refl down
    place_base (Some declared) (inr up) = inr (chain_joined t.classes declared class base up step)

    names_base : (kind : TypeRef) → Names t class kind → Names t base kind
    names_base kind (AtPlace declared may) = AtPlace declared (base_within t rules class base e, place_base declared may.1)
    names_base kind (InElement at q row names) = InElement at q row (names_base q.element names)
    names_base kind (InValue at d row names) = InValue at d row (names_base d.value names)
    names_base kind (InMember at d place m row there names) = InMember at d place m row there (names_base m.kind names)

    pub base_reached : (root : TypeRef) → IsReached t root class → IsReached t root base
    base_reached root (AtOnce _ names) = AtOnce base (names_base root names)
    base_reached root (Through from _ reached (d, place, m, row, there, names)) = Through from base reached (d, place, m, row, there, names_base m.kind names)

  -- ---- what a place names

  abbrev AtPlaceOf : ℕ → TypeRef → Type 0
  AtPlaceOf class kinds.Bool = Unit {0}
  AtPlaceOf class kinds.Byte = Unit {0}
  AtPlaceOf class kinds.Short = Unit {0}
  AtPlaceOf class kinds.Int = Unit {0}
  AtPlaceOf class kinds.Long = Unit {0}
  AtPlaceOf class kinds.Text = Unit {0}
  AtPlaceOf class (kinds.Seq at) = Unit {0}
  AtPlaceOf class (kinds.Dict at) = Unit {0}
  AtPlaceOf class (kinds.Struct at) = Unit {0}
  AtPlaceOf class (kinds.Enum at) = Unit {0}
  AtPlaceOf class (kinds.Proxy at) = Unit {0}
  AtPlaceOf class (kinds.Class declared) = MayName t declared class

  place_names : (class : ℕ) (kind : TypeRef) → Names t class kind → AtPlaceOf class kind
  place_names class kind (AtPlace declared may) = may
  place_names class kind (InElement at q row names) = tt
  place_names class kind (InValue at d row names) = tt
  place_names class kind (InMember at d place m row there names) = tt

  -- what the place of a class that extends another one reaches, the place of that one reaches
  pub child_names : (declared child class : ℕ) → base_in t.classes child ≡ Some declared → Names t class (kinds.Class (Some child)) → Names t class (kinds.Class (Some declared))
  child_names declared child class e names = let may = place_names class (kinds.Class (Some child)) names in AtPlace (Some declared) (may.0, by_place may.1)
    where
      up_or_down : (other : ℕ) → other ≡ child → IsA t.classes other class → IsA t.classes class declared ⊎ IsA t.classes declared class
      up_or_down other same (Here _) = inl (subst (λ (k : ℕ). IsA t.classes k declared) (sym same) (Onward child declared declared e (Here declared)))
      up_or_down other same (Onward _ next _ first rest) =
          inr (subst (λ (k : ℕ). IsA t.classes k class) (some_same (base_in t.classes child) next declared (subst (λ (k : ℕ). base_in t.classes k ≡ Some next) same first) e) rest)

      by_place : IsA t.classes class child ⊎ IsA t.classes child class → IsA t.classes class declared ⊎ IsA t.classes declared class
      by_place (inl down) = inl (chain_joined t.classes class child declared down (Onward child declared declared e (Here declared)))
      by_place (inr up) = up_or_down child refl up
