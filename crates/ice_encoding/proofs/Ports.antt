-- The laws of each way in which a reference stands.
use Rattle.std.proofs.Common.{◌≡◌, ℕ, Bool, List, [], ◌∷◌, map, refl, sym, ap, subst, ◌∙◌}
use Rattle.ice_types.specs.declared.kind.TypeRef.{TypeRef}
use Rattle.ice_types.specs.declared.schema.TheConstants.{MOST_DEPTH}
use Rattle.ice_types.specs.Tables.{Tables}
use Rattle.ice_encoding.specs.Port.{Port, IsLawful, by_number}
use Rattle.ice_encoding.proofs.Values.{value_lawful, spelled_apart, number_lawful}
use Rattle.ice_encoding.specs.Flags.{Reach}
use Rattle.ice_encoding.specs.Instances.{references}
use Rattle.ice_encoding.specs.Ports.{AreApart, AreRead}
use Rattle.ice_encoding.specs.References.{Reference, met_at, unplaced, State, seen, in_table}
use Rattle.ice_encoding.proofs.Graphs.{references_seen, references_lawful}
use Rattle.ice_encoding.proofs.References.{in_table_lawful}

module _ {R S : Type 0} (port : Port R S) (lawful : IsLawful port) where
  -- each state is what is seen of one that reading remembers
  references_apart : ((s : S) → (r : R) × (port.seen r ≡ s)) → AreApart port
  references_apart remembered declared v w a b x y from to end h g e =
      let r = remembered from in
      spelled_apart port.seen (port.read declared) (port.Spells declared) (lawful.only declared) a b x y v w r.0 to end
      (subst (λ (s : S). port.Spells declared a v s to) (sym r.1) h) (subst (λ (s : S). port.Spells declared b w s end) (sym r.1) g) e

  values_read : (t : Tables) (kind : TypeRef) → AreRead port t kind
  values_read t kind = let law = value_lawful port lawful t MOST_DEPTH kind in record { found = law.found; only = law.only }

-- ---- places that are made up

abbrev placed : Reference (Unit {0}) → Reference ℕ
placed m = met_at 0 m.declared m.name

placed_seen : (ms : List (Reference (Unit {0}))) → map unplaced (map placed ms) ≡ ms
placed_seen [] = refl
placed_seen (m ∷ ms) = ap (λ (l : List (Reference (Unit {0}))). m ∷ l) (placed_seen ms)

placed_state : (s : State (Unit {0})) → (r : State ℕ) × (seen r ≡ s)
placed_state s = (record { instances = s.instances; ids = s.ids; met = map placed s.met }, λ i. record { instances = s.instances; ids = s.ids; met = placed_seen s.met i })

-- ---- for each

pub numbers_apart : AreApart by_number
numbers_apart = references_apart by_number number_lawful (λ s. (s, refl))

pub places_apart : (tabled : Bool) → AreApart (in_table tabled)
places_apart tabled = references_apart (in_table tabled) (in_table_lawful tabled) (λ s. (map placed s, placed_seen s))

pub inline_apart : (t : Tables) (reach : Reach) → AreApart (references t reach)
inline_apart t reach = references_apart (references t reach) (references_lawful t reach) (λ s. let r = placed_state s in (r.0, ap (λ (see : State ℕ → State (Unit {0})). see r.0) (references_seen t reach) ∙ r.1))

pub numbers_read : (t : Tables) (kind : TypeRef) → AreRead by_number t kind
numbers_read = values_read by_number number_lawful

pub places_read : (tabled : Bool) (t : Tables) (kind : TypeRef) → AreRead (in_table tabled) t kind
places_read tabled = values_read (in_table tabled) (in_table_lawful tabled)

pub inline_read : (reach : Reach) (t : Tables) (kind : TypeRef) → AreRead (references t reach) t kind
inline_read reach t kind = values_read (references t reach) (references_lawful t reach) t kind
