-- The line of a sequence on its way: its head, its items, and its end.
use Rattle.std.proofs.Common.{◌≡◌, ℕ, List, [], ◌++◌, codes, false, Option, Result, Ok, Vec, refl, ap, subst, ◌∙◌}
use Rattle.std.specs.declared.alloc.Global.{Global}
use Rattle.ice_types.specs.declared.kind.TypeRef.{TypeRef}
use Rattle.ice_types.specs.Tables.{Tables}
use Rattle.ice_encoding.specs.Tree.{Trees}
use Rattle.ice_relay.specs.Items.{each_text, sequence_text}
use Rattle.ice_relay.specs.Pages.{Stops, Tells, TellsAll}
use Rattle.ice_ports.specs.declared.ports.PortFault.{PortFault}
use Rattle.ice_ports.specs.declared.ports.PortFault.TheVariants as faults
use Rattle.ice_relay.proofs.Pages.{IsLeft, all_left, less_left, left_stops, left_without_memory, left_all}

abbrev head : List ℕ
head = codes "{\"instances\":[],\"roots\":{\"$value\":["

abbrev tail : List ℕ
tail = codes "}}\n"

module _ (t : Tables) (element : TypeRef) (items : Trees) (start page : Vec ℕ Global) (empty : start.items ≡ []) (headed : page.items ≡ start.items ++ head) (old : Option (List ℕ)) (before : ℕ) where
  abbrev body : List ℕ
  body = each_text t element false items

  abbrev all : List ℕ
  all = page.items ++ (body ++ tail)

  all_is : all ≡ sequence_text t element items
  all_is = ap (λ (l : List ℕ). l ++ (body ++ tail)) (headed ∙ ap (λ (l : List ℕ). l ++ head) empty)

  before_items : IsLeft all (body ++ tail) old old before before page
  before_items = all_left (body ++ tail) old before page

  pub items_stop : (new : Option (List ℕ)) (after : ℕ) (fault : PortFault) → Stops (page.items ++ body) old new before after fault → Stops (sequence_text t element items) old new before after fault
  items_stop new after fault stops =
      subst (λ (l : List ℕ). Stops l old new before after fault) all_is
      (left_stops all (body ++ tail) old old new before before after page before_items body tail refl fault stops)

  module _ (mid : Option (List ℕ)) (m : ℕ) (next : Vec ℕ Global) (told : Tells (page.items ++ body) old mid before m (Ok next)) where
    behind_items : IsLeft all tail old mid before m next
    behind_items = less_left all (body ++ tail) old old mid before before m page before_items body tail refl next told

    pub items_alone : Stops (sequence_text t element items) old mid before m faults.Memory
    items_alone = subst (λ (l : List ℕ). Stops l old mid before m faults.Memory) all_is (left_without_memory all tail old mid before m next behind_items)

    pub all_told : (last : Vec ℕ Global) → last.items ≡ next.items ++ tail → (new : Option (List ℕ)) (after : ℕ) (r : Result (Unit {0}) PortFault) → TellsAll last.items mid new m after r
        → TellsAll (sequence_text t element items) old new before after r
    all_told last is new after r tells =
        subst (λ (l : List ℕ). TellsAll l old new before after r) all_is
        (left_all all tail old mid new before m after next behind_items r (subst (λ (l : List ℕ). TellsAll l mid new m after r) is tells))
