-- What is left of the items of a sequence, one by one.
use Rattle.std.proofs.Common.{◌≡◌, ℕ, ◌+◌, ◌<◌, ◌≤◌, Bool, false, true, nat_lt, List, [], ◌∷◌, ◌++◌, IfOk, Option, Result, Ok, Err, Vec, sym, ap, subst, ◌∙◌, append_assoc, arith}
use Rattle.std.specs.declared.alloc.Global.{Global}
use Rattle.std.specs.declared.alloc.AllocError.{AllocError}
use Rattle.serde_json.specs.Written.{comma_if, compact_text}
use Rattle.ice_types.specs.declared.kind.TypeRef.{TypeRef}
use Rattle.ice_types.specs.Tables.{Tables}
use Rattle.ice_encoding.specs.Tree.{Tree, Trees, none, tree, tree_count}
use Rattle.ice_encoding.specs.Canonical.{canonical}
use Rattle.graph_json.specs.CanonicalValues.{notation_levels}
use Rattle.ice_relay.specs.Items.{AreItems, IsItem, each_bytes, each_text, item_noted, item_text}
use Rattle.ice_relay.specs.Pages.{Stops, Tells}
use Rattle.ice_ports.specs.declared.ports.PortFault.{PortFault}
use Rattle.ice_ports.specs.declared.ports.PortFault.TheVariants as faults
use Rattle.ice_relay.proofs.Pages.{IsLeft, all_left, less_left, left_stops, left_without_memory, none_left}

-- ---- the text of one item

pub item_put : (t : Tables) (element : TypeRef) (later : Bool) (page comma : Vec ℕ Global) (v : Tree) (r : Result (Vec ℕ Global) AllocError) → comma.items ≡ page.items ++ comma_if later
    → IfOk r (λ longer. longer.items ≡ comma.items ++ compact_text (notation_levels t 99 element v)) → IfOk r (λ longer. longer.items ≡ page.items ++ item_text t element later v)
unfolding item_noted
item_put t element later page comma v (Err e) before put = tt
item_put t element later page comma v (Ok longer) before put =
    let text = compact_text (notation_levels t 99 element v) in
    put ∙ ap (λ (l : List ℕ). l ++ text) before ∙ append_assoc page.items (comma_if later) text

pub item_there : (t : Tables) (element : TypeRef) (later : Bool) (page : Vec ℕ Global) (v value : Tree) (bytes rest : List ℕ) → (value ≡ v) × (bytes ≡ rest) → (r : Result (Vec ℕ Global) AllocError)
    → IfOk r (λ longer. longer.items ≡ page.items ++ item_text t element later value) → IfOk r (λ longer. (longer.items ≡ page.items ++ item_text t element later v) × (bytes ≡ rest))
item_there t element later page v value bytes rest is (Err e) put = tt
item_there t element later page v value bytes rest is (Ok longer) put = (put ∙ ap (λ (x : Tree). page.items ++ item_text t element later x) is.0, is.1)

-- ---- those that are left

behind_one : (i : ℕ) → nat_lt 0 (i + 1) ≡ true
behind_one i = grind arith

-- so many items are told of those whose count this is, and the others stand in the bytes
pub record Remain (t : Tables) (element : TypeRef) (count at : ℕ) (bytes whole : List ℕ) (old new : Option (List ℕ)) (before after : ℕ) (page : Vec ℕ Global) : Type 0 where
  pub others : Trees
  pub items : AreItems t element others bytes
  pub counted : tree_count others + at ≡ count
  pub is_left : IsLeft whole (each_text t element (nat_lt 0 at) others) old new before after page

-- none is told
pub all_remain : (t : Tables) (element : TypeRef) (items : Trees) (count : ℕ) (bytes : List ℕ) (known : Option (List ℕ)) (failures : ℕ) (page : Vec ℕ Global)
    → AreItems t element items bytes → tree_count items ≡ count → Remain t element count 0 bytes (page.items ++ each_text t element false items) known known failures failures page
all_remain t element items count bytes known failures page are counted = record {
  others = items;
  items = are;
  counted = omega (arith, counted);
  is_left = all_left (each_text t element false items) known failures page;
}

module _ (t : Tables) (element : TypeRef) (count at : ℕ) (bytes whole : List ℕ) (old mid new : Option (List ℕ)) (before m after : ℕ) (page longer : Vec ℕ Global) (less : at < count)
    (behind : List ℕ) (puts : (v : Tree) (rest : List ℕ) → IsItem t element v → bytes ≡ canonical v ++ rest → (longer.items ≡ page.items ++ item_text t element (nat_lt 0 at) v) × (behind ≡ rest)) where
  one_told : (others : Trees) → AreItems t element others bytes → tree_count others + at ≡ count → IsLeft whole (each_text t element (nat_lt 0 at) others) old mid before m page
      → (next : Vec ℕ Global) → Tells longer.items mid new m after (Ok next) → Remain t element count (at + 1) behind whole old new before after next
  one_told none are counted left next tells = absurd (omega (arith, counted, less))
  one_told (tree v vs) are counted left next tells =
      let put = puts v (each_bytes vs) are.typed.0 are.are in
      let piece = item_text t element (nat_lt 0 at) v in
      let more = each_text t element true vs in
      let told = subst (λ (l : List ℕ). Tells l mid new m after (Ok next)) put.0 tells in
      let rest = less_left whole (each_text t element (nat_lt 0 at) (tree v vs)) old mid new before m after page left piece more (sym (append_assoc (comma_if (nat_lt 0 at)) (compact_text (item_noted t element v)) more)) next told in
      record {
        others = vs;
        items = record { typed = are.typed.1; are = put.1 };
        counted = omega (arith, counted);
        is_left = subst (λ (b : Bool). IsLeft whole (each_text t element b vs) old new before after next) (sym (behind_one at)) rest;
      }

  one_stops : (others : Trees) → AreItems t element others bytes → tree_count others + at ≡ count → IsLeft whole (each_text t element (nat_lt 0 at) others) old mid before m page
      → (fault : PortFault) → Stops longer.items mid new m after fault → Stops whole old new before after fault
  one_stops none are counted left fault stops = absurd (omega (arith, counted, less))
  one_stops (tree v vs) are counted left fault stops =
      let put = puts v (each_bytes vs) are.typed.0 are.are in
      let more = each_text t element true vs in
      left_stops whole (each_text t element (nat_lt 0 at) (tree v vs)) old mid new before m after page left (item_text t element (nat_lt 0 at) v) more (sym (append_assoc (comma_if (nat_lt 0 at)) (compact_text (item_noted t element v)) more)) fault
      (subst (λ (l : List ℕ). Stops l mid new m after fault) put.0 stops)

  -- one more is told
  pub less_remain : Remain t element count at bytes whole old mid before m page → (next : Vec ℕ Global) → Tells longer.items mid new m after (Ok next) → Remain t element count (at + 1) behind whole old new before after next
  less_remain r = one_told r.others r.items r.counted r.is_left

  -- it is not told to its end
  pub remain_stops : Remain t element count at bytes whole old mid before m page → (fault : PortFault) → Stops longer.items mid new m after fault → Stops whole old new before after fault
  remain_stops r = one_stops r.others r.items r.counted r.is_left

module _ (t : Tables) (element : TypeRef) (count at : ℕ) (bytes whole : List ℕ) (old new : Option (List ℕ)) (before after : ℕ) (page : Vec ℕ Global) where
  pub remain_without_memory : Remain t element count at bytes whole old new before after page → Stops whole old new before after faults.Memory
  remain_without_memory r = left_without_memory whole (each_text t element (nat_lt 0 at) r.others) old new before after page r.is_left

  last_told : (others : Trees) → count ≤ at → tree_count others + at ≡ count → IsLeft whole (each_text t element (nat_lt 0 at) others) old new before after page
      → (next : Vec ℕ Global) → next.items ≡ page.items ++ 93 ∷ [] → Tells whole old new before after (Ok next)
  last_told none le counted left next is = none_left whole (93 ∷ []) old new before after page left next is
  last_told (tree v vs) le counted left next is = absurd (omega (arith, counted, le))

  -- all are told, and the end of their array
  pub none_remain : Remain t element count at bytes whole old new before after page → count ≤ at → (next : Vec ℕ Global) → next.items ≡ page.items ++ 93 ∷ [] → Tells whole old new before after (Ok next)
  none_remain r le = last_told r.others le r.counted r.is_left
