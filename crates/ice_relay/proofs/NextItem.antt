-- The item that stands first in canonical bytes is read as it is, whatever follows it.
use Rattle.std.proofs.Common.{◌≡◌, ℕ, ◌+◌, ◌<◌, ◌^◌, List, ◌++◌, length, Option, Result, Ok, Err, refl, sym, ap, ◌∙◌, subst, arith}
use Rattle.ice_types.specs.declared.kind.TypeRef.{TypeRef}
use Rattle.ice_types.specs.Tables.{Tables}
use Rattle.ice_prims.specs.declared.fault.Fault.{Fault}
use Rattle.ice_prims.specs.declared.fault.ReadFault.{ReadFault}
use Rattle.ice_prims.specs.declared.fault.ReadFault.TheVariants as faults
use Rattle.ice_prims.specs.Rest.{Rest, whole}
use Rattle.ice_prims.specs.Bytes.{size_bytes}
use Rattle.ice_prims.specs.Number.{size_at}
use Rattle.ice_prims.proofs.Parts.{ok_is}
use Rattle.ice_prims.proofs.Spelled.{size_exact}
use Rattle.ice_encoding.specs.declared.limits.TheConstants.{LARGEST}
use Rattle.ice_encoding.specs.Tree.{Tree, Trees, sequence, tree_count}
use Rattle.ice_encoding.specs.Typed.{IsReadValue, sized_to}
use Rattle.ice_encoding.specs.Canonical.{canonical}
use Rattle.ice_encoding.specs.Port.{size_of}
use Rattle.ice_encoding.specs.Value.{plain_value_at}
use Rattle.ice_encoding.specs.Pausing.{Inside}
use Rattle.ice_encoding.proofs.Plain.{plain_only, value_spelled}
use Rattle.ice_encoding.proofs.Wider.{typed_wider}
use Rattle.canonical_values.specs.Standing.{only_null}
use Rattle.graph_arena.specs.declared.value.Value.{Value}
use Rattle.graph_arena.specs.View.{view}
use Rattle.value_parts.specs.Numbering.{number_taken}
use Rattle.ice_values.specs.Going.{ReadsValue, whole_at}
use Rattle.ice_values.specs.Numbering.{stateless}
use Rattle.ice_values.proofs.Plain.{plain-is}
use Rattle.ice_relay.specs.Items.{IsItem, TakesItem, each_bytes}
use Rattle.ice_relay.proofs.MoreLevels.{typed_deeper}

null_small : (declared n : Option ℕ) → only_null.Held declared n → size_of n < 2 ^ 31
null_small declared n e = subst (λ (m : Option ℕ). size_of m < 2 ^ 31) (sym e) (omega arith)

item_read : (t : Tables) (kind : TypeRef) (v : Tree) → IsItem t kind v → IsReadValue t kind v
unfolding IsItem IsReadValue
item_read t kind v typed = typed_wider t only_null (sized_to LARGEST) (omega arith) null_small 100 kind v (typed_deeper t only_null 99 kind v typed)

-- behind so many bytes
abbrev behind : Rest → List ℕ → List ℕ → Rest
behind r front rest = record { place = r.place + length front; bytes = rest }

value_read : (t : Tables) (kind : TypeRef) (v : Tree) (rest : List ℕ) → IsItem t kind v → (r : Rest) → r.bytes ≡ canonical v ++ rest → plain_value_at t kind r ≡ Ok (v, behind r (canonical v) rest)
value_read t kind v rest typed r is =
    plain_only t kind r (behind r (canonical v) rest) (canonical v) v (record { parts = is; moved = refl }) (value_spelled t kind v (item_read t kind v typed))

-- no instance begins
abbrev nothing_inside : Inside (Unit {0})
nothing_inside n s r = Ok (s, r)

answered : (v : Tree) (rest : List ℕ) (read : Result (Tree × (Unit {0}) × Rest) Fault) (s : Rest) → stateless read ≡ Ok (v, s) → s.bytes ≡ rest
    → (result : Result Value ReadFault) (port : Unit {0}) (after : Rest) → ReadsValue result read port after → TakesItem v rest result after
answered v rest read s e same (Ok value) port after reads =
    let p : (view value, after) ≡ (v, s) = ok_is (view value, after) (v, s) (sym (ap stateless reads) ∙ e) in
    (ap (λ (x : Tree × Rest). x.0) p, ap (λ (x : Tree × Rest). x.1.bytes) p ∙ same)
answered v rest read s e same (Err faults.Memory) port after reads = refl
answered v rest read s e same (Err (faults.Broken fault)) port after reads = absurd (never fault (v, s) (sym (ap stateless reads) ∙ e))
  where
    never : (f : Fault) (x : Tree × Rest) → Err f ≡ Ok x → ⊥
    never f x h = cc

pub item_taken : (t : Tables) (kind : TypeRef) (r after : Rest) (result : Result Value ReadFault) (port : Unit {0})
    → ((inside : Inside (Unit {0})) → ReadsValue result (whole_at number_taken t inside kind tt r) port after)
    → (v : Tree) (rest : List ℕ) → IsItem t kind v → r.bytes ≡ canonical v ++ rest → TakesItem v rest result after
item_taken t kind r after result port reads v rest typed is =
    answered v rest (whole_at number_taken t nothing_inside kind tt r) (behind r (canonical v) rest) (plain-is t nothing_inside kind r ∙ value_read t kind v rest typed r is) refl result port after (reads nothing_inside)

-- ---- the size before the items

module _ (items : Trees) (content : List ℕ) (few : tree_count items < 2 ^ 31) (is : content ≡ canonical (sequence items)) where
  size_read : size_at (whole content) ≡ Ok (tree_count items, behind (whole content) (size_bytes (tree_count items)) (each_bytes items))
  size_read =
      let n = tree_count items in
      size_exact.only (whole content) (behind (whole content) (size_bytes n) (each_bytes items)) (size_bytes n) n (record { parts = is; moved = refl }) (size_exact.put n few)

  pub size_taken : (count : ℕ) (after : Rest) → size_at (whole content) ≡ Ok (count, after) → (tree_count items ≡ count) × (after.bytes ≡ each_bytes items)
  size_taken count after e =
      let p : (tree_count items, behind (whole content) (size_bytes (tree_count items)) (each_bytes items)) ≡ (count, after) = ok_is _ (count, after) (sym size_read ∙ e) in
      (ap (λ (x : ℕ × Rest). x.0) p, sym (ap (λ (x : ℕ × Rest). x.1.bytes) p))
