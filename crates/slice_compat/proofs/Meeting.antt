-- What a loop meets, one after the other.
use Rattle.std.proofs.Common.{ℕ, ◌+◌, ◌<◌, ◌≤◌, ◌≡◌, ◌⊎◌, List, length, Option, None, Some, refl, sym, ◌∙◌, ap, subst, inl, inr, arith}
use Rattle.std.specs.Prelude.{slice_get}
use Rattle.std.proofs.lemmas.Bool.{cases_eq}
use Rattle.std.proofs.lemmas.Option.{slice_get_within, same_Some}
use Rattle.ice_types.specs.declared.declarations.Member.{Member}
use Rattle.ice_types.specs.Inherited.{base_in}
use Rattle.ice_types.specs.Tables.{Tables}
use Rattle.slice_compat.specs.declared.marks.Marks.{Marks}
use Rattle.slice_compat.specs.declared.node.Node.{Node}
use Rattle.slice_compat.specs.declared.node.Node.TheVariants as nodes
use Rattle.slice_compat.specs.Nodes.{IsNodeOf, AmongMembers, IsChild}
use Rattle.slice_compat.specs.Marks.{Spreads}
use Rattle.slice_compat.specs.Children.{link_at, OnList, First, Later, AreLinked}
use Rattle.slice_compat.proofs.Spreading.{either, nothing_met, both_met, met_as}

-- ---- members

-- the type of one of the members before this place leads there
abbrev pub AmongBefore : ℕ → List Member → Node → Type 0
AmongBefore count members n = (place : ℕ) × (m : Member) × (place < count) × (slice_get members place ≡ Some m) × IsNodeOf m.kind n

pub no_member : (members : List Member) (m : Marks) → Spreads (AmongBefore 0 members) m m
no_member members m = nothing_met (AmongBefore 0 members) m (λ n h. absurd (omega (arith, h.2)))

pub member_more : (members : List Member) (at : ℕ) (x : Member) → slice_get members at ≡ Some x → (a b c : Marks) → Spreads (AmongBefore at members) a b → Spreads (IsNodeOf x.kind) b c
    → Spreads (AmongBefore (at + 1) members) a c
member_more members at x row a b c = both_met (AmongBefore at members) (IsNodeOf x.kind) (AmongBefore (at + 1) members) a b c
    (λ n h. either (cases_eq h.0 at)
    (λ is. inr (subst (λ (m : Member). IsNodeOf m.kind n) (same_Some h.1 x (sym (subst (λ (k : ℕ). slice_get members k ≡ Some h.1) is h.3) ∙ row)) h.4))
    (λ apart. inl (h.0, h.1, omega (arith, h.2, apart), h.3, h.4)))
    (λ n h. (h.0, h.1, omega (arith, h.2), h.3, h.4))
    (λ n is. (at, x, omega arith, row, is))

pub all_members : (members : List Member) (count : ℕ) → length members ≤ count → (a b : Marks) → Spreads (AmongBefore count members) a b → Spreads (AmongMembers members) a b
all_members members count le a b = met_as (AmongBefore count members) (AmongMembers members) a b
    (λ n h. (h.0, h.1, h.3, h.4))
    (λ n h. (h.0, h.1, omega (arith, slice_get_within members h.0 h.1 h.2, le), h.2, h.3))

-- ---- classes

abbrev pub ClassBefore : ℕ → Node → Type 0
ClassBefore count n = (class : ℕ) × (class < count) × (n ≡ nodes.Class class)

pub no_class : (m : Marks) → Spreads (ClassBefore 0) m m
no_class m = nothing_met (ClassBefore 0) m (λ n h. absurd (omega (arith, h.1)))

pub class_more : (at : ℕ) (a b c : Marks) → Spreads (ClassBefore at) a b → Spreads (λ n. n ≡ nodes.Class at) b c → Spreads (ClassBefore (at + 1)) a c
class_more at a b c = both_met (ClassBefore at) (λ n. n ≡ nodes.Class at) (ClassBefore (at + 1)) a b c
    (λ n h. either (cases_eq h.0 at)
    (λ is. inr (h.2 ∙ ap nodes.Class is))
    (λ apart. inl (h.0, omega (arith, h.1, apart), h.2)))
    (λ n h. (h.0, omega (arith, h.1), h.2))
    (λ n is. (at, omega arith, is))

-- ---- the classes that extend one

-- all that stands on the list from the link on lies below
abbrev pub Above : Option ℕ → ℕ → Type 0
Above None class = Unit {0}
Above (Some other) class = other < class

-- those on the list from the start on that lie above the link
abbrev pub VisitedOf : List (Option ℕ) → Option ℕ → Option ℕ → Node → Type 0
VisitedOf next start link n = (class : ℕ) × OnList next start class × Above link class × (n ≡ nodes.Place class)

-- the link is of the list, and what lies above it is not
pub record IsRest (next : List (Option ℕ)) (start link : Option ℕ) : Type 0 where
  pub inside : (class : ℕ) → OnList next link class → OnList next start class
  pub parted : (class : ℕ) → OnList next start class → Above link class ⊎ OnList next link class

module _ (next : List (Option ℕ)) (falls : (class other : ℕ) → link_at next class ≡ Some other → other < class) where
  abbrev Below : Option ℕ → ℕ → Type 0
  Below None class = ⊥
  Below (Some head) class = class ≤ head

  below_next : (head class : ℕ) (link : Option ℕ) → link_at next head ≡ link → Below link class → class ≤ head
  below_next head class None e h = absurd h
  below_next head class (Some other) e h = omega (arith, falls head other e, h)

  on_list : (link : Option ℕ) (class : ℕ) → OnList next link class → Below link class
  on_list link class (First _) = omega arith
  on_list link class (Later head _ rest) = below_next head class (link_at next head) refl (on_list (link_at next head) class rest)

  not_both : (link : Option ℕ) (class : ℕ) → Below link class → Above link class → ⊥
  not_both None class below above = below
  not_both (Some other) class below above = omega (arith, below, above)

  on_below : (link : Option ℕ) (class : ℕ) → OnList next link class → Above link class → ⊥
  on_below link class on above = not_both link class (on_list link class on) above

  pub whole_rest : (start : Option ℕ) → IsRest next start start
  whole_rest start = record { inside = λ class h. h; parted = λ class h. inr h }

  pub none_visited : (start : Option ℕ) (m : Marks) → Spreads (VisitedOf next start start) m m
  none_visited start m = nothing_met (VisitedOf next start start) m (λ n h. absurd (on_below start h.0 h.1 h.2))

  head_or_rest : (link : Option ℕ) (head class : ℕ) → link ≡ Some head → OnList next link class → (class ≡ head) ⊎ OnList next (link_at next head) class
  head_or_rest link head class is (First _) = inl (same_Some class head is)
  head_or_rest link head class is (Later other _ rest) = inr (subst (λ (k : ℕ). OnList next (link_at next k) class) (same_Some other head is) rest)

  above_next : (head class : ℕ) → head ≤ class → Above (link_at next head) class
  above_next head class le = by_link (link_at next head) (λ other is. falls head other is)
    where
      by_link : (link : Option ℕ) → ((other : ℕ) → link ≡ Some other → other < head) → Above link class
      by_link None below = tt
      by_link (Some other) below = omega (arith, below other refl, le)

  module _ (start : Option ℕ) (head : ℕ) (here : IsRest next start (Some head)) where
    pub rest_next : IsRest next start (link_at next head)
    rest_next = record {
      inside = λ class h. here.inside class (Later head class h);
      parted = λ class h. either (here.parted class h)
          (λ above. inl (above_next head class (omega (arith, above))))
          (λ on. either (head_or_rest (Some head) head class refl on) (λ is. inl (above_next head class (omega (arith, is)))) (λ rest. inr rest));
    }

    pub visited_more : (a b c : Marks) → Spreads (VisitedOf next start (Some head)) a b → Spreads (λ n. n ≡ nodes.Place head) b c → Spreads (VisitedOf next start (link_at next head)) a c
    visited_more a b c = both_met (VisitedOf next start (Some head)) (λ n. n ≡ nodes.Place head) (VisitedOf next start (link_at next head)) a b c
        (λ n h. either (here.parted h.0 h.1)
        (λ above. inl (h.0, h.1, above, h.3))
        (λ on. either (head_or_rest (Some head) head h.0 refl on)
        (λ is. inr (h.3 ∙ ap nodes.Place is))
        (λ rest. absurd (on_below (link_at next head) h.0 rest h.2))))
        (λ n h. (h.0, h.1, above_next head h.0 (omega (arith, h.2)), h.3))
        (λ n is. (head, here.inside head (First head), above_next head head (omega arith), is))

pub all_visited : (t : Tables) (first next : List (Option ℕ)) (linked : AreLinked t.classes (length t.classes) first next) (base : ℕ)
    → ((class : ℕ) → base_in t.classes class ≡ Some base → class < length t.classes) → (a b : Marks)
    → Spreads (VisitedOf next (link_at first base) None) a b → Spreads (IsChild t base) a b
all_visited t first next linked base within a b = met_as (VisitedOf next (link_at first base) None) (IsChild t base) a b
    (λ n h. (h.0, ((linked.listed base h.0).0 h.1).1, h.3))
    (λ n h. (h.0, (linked.listed base h.0).1 (within h.0 h.1, h.1), tt, h.2))
