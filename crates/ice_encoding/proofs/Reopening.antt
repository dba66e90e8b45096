-- The laws of reopening.
use Rattle.std.proofs.Common.{◌≡◌, ℕ, Bool, List, length, map, Ok, refl, sym, subst, ◌∙◌, []}
use Rattle.ice_types.specs.Tables.{Tables}
use Rattle.ice_prims.specs.Rest.{Rest, whole, ◌>>=◌, IsBytes}
use Rattle.ice_prims.proofs.Parts.{then_ok, ok_is}
use Rattle.ice_encoding.specs.Bounds.{ended}
use Rattle.ice_encoding.specs.OptionalMembers.{Members, SpellsSliceMembers, slice_members_at}
use Rattle.ice_encoding.proofs.Contents.{slice_members_lawful}
use Rattle.ice_encoding.specs.Classes.{own_members}
use Rattle.ice_encoding.specs.Graph.{Slice}
use Rattle.ice_encoding.specs.References.{Reference, unplaced, in_table, entry_at, AreWithin, within}
use Rattle.ice_encoding.specs.Slices.{by_table, unknown_bytes}
use Rattle.ice_encoding.specs.CanonicalGraph.{is_there}
use Rattle.ice_encoding.specs.Reopening.{Reopens, reopened}
use Rattle.ice_encoding.proofs.Ending.{LawfulToEnd, ends, ended_ok, to_end}
use Rattle.ice_encoding.proofs.References.{in_table_lawful, within_ok, within_is}

module _ (t : Tables) (class : ℕ) (bytes : List ℕ) (optionals : Bool) (table : List ℕ) where
  abbrev all : List ℕ
  all = unknown_bytes optionals bytes

  members : LawfulToEnd (map unplaced) (slice_members_at (entry_at (is_there table)) t optionals (own_members t class)) (SpellsSliceMembers (in_table (is_there table)) t optionals (own_members t class))
  members = to_end (map unplaced) _ _ (slice_members_lawful (in_table (is_there table)) (in_table_lawful (is_there table)) t (own_members t class) optionals)

  pub reopened_found : (s : Slice) → IsBytes all → reopened t class bytes optionals table ≡ Ok s → Reopens t class bytes optionals table s
  unfolding reopened
  reopened_found s fits e =
      then_ok (slice_members_at (entry_at (is_there table)) t optionals (own_members t class) [] (whole all)) (λ x. ended x.2.bytes x.2.place x >>= λ x. within (length table) x.1 (Ok (by_table class x.0 table))) s e λ x x_is later.
      then_ok (ended x.2.bytes x.2.place x) (λ x. within (length table) x.1 (Ok (by_table class x.0 table))) s later λ z z_is last.
      ended_ok x.2.bytes x.2.place x z z_is λ empty same.
      within_ok (length table) z.1 (Ok (by_table class z.0 table)) s last λ below s_is.
      let spelled = members.found [] (whole all) x fits x_is empty in
      (z.0, map unplaced z.1, subst (λ (w : Members × List (Reference ℕ) × Rest). SpellsSliceMembers (in_table (is_there table)) t optionals (own_members t class) all w.0 [] (map unplaced w.1)) same spelled, below, sym (ok_is (by_table class z.0 table) s s_is))

  reopened_is : (raw : Members) (uses : List (Reference ℕ)) (last : Rest) → slice_members_at (entry_at (is_there table)) t optionals (own_members t class) [] (whole all) ≡ Ok (raw, uses, last) → last.bytes ≡ [] → AreWithin (length table) (map unplaced uses)
      → reopened t class bytes optionals table ≡ Ok (by_table class raw table)
  unfolding reopened
  reopened_is raw uses last is empty below = rw (is, empty) (within_is (length table) uses (Ok (by_table class raw table)) below)

  pub reopened_only : (s : Slice) → Reopens t class bytes optionals table s → reopened t class bytes optionals table ≡ Ok s
  reopened_only s (raw, uses, h, below, s_is) =
      let o = members.only [] uses (whole all) raw h in
      reopened_is raw o.0 (ends (whole all)) o.2 refl (subst (λ (us : List (Reference (Unit {0}))). AreWithin (length table) us) (sym o.1) below) ∙ (λ i. Ok (sym s_is i))
