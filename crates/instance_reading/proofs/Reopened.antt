-- What is read of the bytes that were kept, once their members are read.
use Rattle.std.proofs.Common.{ℕ, ◌≡◌, Bool, List, [], ◌∷◌, length, Result, Ok, Err, refl, sym, ap, subst, ◌∙◌}
use Rattle.ice_types.specs.Tables.{Tables}
use Rattle.ice_prims.specs.declared.fault.Fault.{Fault}
use Rattle.ice_prims.specs.declared.fault.Kind.TheVariants.{LeftOver}
use Rattle.ice_prims.specs.declared.fault.ReadFault.{ReadFault}
use Rattle.ice_prims.specs.Rest.{Rest, whole, ◌>>=◌}
use Rattle.ice_prims.specs.Taking.{Fails, GivesUnlessMemory}
use Rattle.ice_encoding.specs.Bounds.{ended}
use Rattle.ice_encoding.specs.OptionalMembers.{Members, slice_members_at}
use Rattle.ice_encoding.specs.CanonicalGraph.{is_there}
use Rattle.ice_encoding.specs.Classes.{own_members}
use Rattle.ice_encoding.specs.Graph.{Slice}
use Rattle.ice_encoding.specs.References.{Reference, entry_at, within}
use Rattle.ice_encoding.specs.Reopening.{reopened}
use Rattle.ice_encoding.specs.Slices.{by_table, unknown_bytes}
use Rattle.graph_arena.specs.declared.instance.Slice as stored
use Rattle.graph_arena.specs.Seen.{view_slice}
use Rattle.instance_reading.specs.Reopened.{members_reopened, resolved_by}
use Rattle.instance_reading.proofs.Heads.{fails_then}
use Rattle.instance_reading.proofs.Places.{fault_along}

-- the first byte that is left is one too many
abbrev pub IsLeftOver : Rest → Fault → Type 0
IsLeftOver r e = (byte : ℕ) × (bytes : List ℕ) × (r.bytes ≡ byte ∷ bytes) × (e ≡ record { place = r.place; kind = LeftOver })

-- all bytes of the members, the end marker among them
pub all_bytes : (t : Tables) (class : ℕ) (bytes : List ℕ) (optionals : Bool) (table : List ℕ) → reopened t class bytes optionals table ≡ members_reopened t class optionals table (whole (unknown_bytes optionals bytes))
unfolding reopened
all_bytes t class bytes optionals table = refl

module _ (t : Tables) (class : ℕ) (optionals : Bool) (table bytes : List ℕ) (tabled : Bool) (is_tabled : tabled ≡ is_there table) (r : Rest) (is_whole : r ≡ whole bytes) where
  abbrev members : Result (Members × List (Reference ℕ) × Rest) Fault
  members = slice_members_at (entry_at tabled) t optionals (own_members t class) [] r

  abbrev to_slice : Members × List (Reference ℕ) × Rest → Result Slice Fault
  to_slice x = ended x.2.bytes x.2.place x >>= λ x. within (length table) x.1 (Ok (by_table class x.0 table))

  by_members : (members >>= to_slice) ≡ members_reopened t class optionals table (whole bytes)
  by_members = λ i. slice_members_at (entry_at (is_tabled i)) t optionals (own_members t class) [] (is_whole i) >>= to_slice

  pub members_refused : (e : ReadFault) → Fails e members → Fails e (members_reopened t class optionals table (whole bytes))
  members_refused e h = fault_along e _ _ by_members (fails_then e members to_slice h)

  module _ (content : Members) (uses : List (Reference ℕ)) (after : Rest) (is : members ≡ Ok (content, uses, after)) where
    abbrev read : Members × List (Reference ℕ) × Rest
    read = (content, uses, after)

    behind_members : members_reopened t class optionals table (whole bytes) ≡ to_slice read
    behind_members = sym by_members ∙ ap (λ (read : Result (Members × List (Reference ℕ) × Rest) Fault). read >>= to_slice) is

    pub bytes_left : (e : Fault) → IsLeftOver after e → members_reopened t class optionals table (whole bytes) ≡ Err e
    bytes_left e (byte, others, left, e_is) = behind_members ∙ rw (left, e_is) refl

    none_left : after.bytes ≡ [] → members_reopened t class optionals table (whole bytes) ≡ resolved_by class content uses table
    none_left empty = behind_members ∙ ap (λ (l : List ℕ). ended l after.place read >>= λ x. within (length table) x.1 (Ok (by_table class x.0 table))) empty

    pub resolves : after.bytes ≡ [] → (result : Result stored.Slice ReadFault) → GivesUnlessMemory view_slice result (resolved_by class content uses table)
        → GivesUnlessMemory view_slice result (members_reopened t class optionals table (whole bytes))
    resolves empty result h = subst (λ (x : Result Slice Fault). GivesUnlessMemory view_slice result x) (sym (none_left empty)) h

-- the bytes are all that were kept
pub whole_along : (t : Tables) (class : ℕ) (bytes all : List ℕ) (optionals : Bool) (table : List ℕ) → unknown_bytes optionals bytes ≡ all → (result : Result stored.Slice ReadFault)
    → GivesUnlessMemory view_slice result (members_reopened t class optionals table (whole all)) → GivesUnlessMemory view_slice result (reopened t class bytes optionals table)
whole_along t class bytes all optionals table is result h =
    subst (λ (x : Result Slice Fault). GivesUnlessMemory view_slice result x) (sym (all_bytes t class bytes optionals table ∙ ap (λ (l : List ℕ). members_reopened t class optionals table (whole l)) is)) h
