-- The content of a sized slice, of the tables u: places in its table as references.
use Rattle.std.proofs.Common.{◌≤◌, Option, ℕ, suc, ◌<◌, ◌^◌, ◌≡◌, true, List, [], ◌∷◌, ◌++◌, length, refl, ap, ◌∙◌, arith, Some, None}
use Rattle.std.proofs.lemmas.List.{length-append}
use Rattle.ice_types.specs.declared.declarations.Shape.{Shape}
use Rattle.ice_types.specs.Tables.{Tables}
use Rattle.ice_encoding.specs.Typed.{Refers}
use Rattle.ice_encoding.specs.Writing.{Piece}
use Rattle.ice_encoding.specs.OptionalMembers.{Members, SpellsSliceMembers}
use Rattle.ice_encoding.specs.Graph.{Slice}
use Rattle.ice_encoding.specs.Names.{listed_name, names_of, renamed_name, renamed_members}
use Rattle.ice_encoding.specs.References.{Reference, met_at, in_table, entry_in, resolved, AreWithin}
use Rattle.ice_encoding.specs.Instances.{class_of, slices_of, class_fits, fits, AllFit}
use Rattle.ice_encoding.specs.Visiting.{place}
use Rattle.ice_encoding.specs.SameGraph.{AreListed}
use Rattle.ice_encoding.specs.TypedGraph.{AreMembers, IsHeldIn, RefersUpTo}
use Rattle.ice_encoding.specs.Members.{written_slice_members}
use Rattle.ice_encoding.specs.CanonicalGraph.{by_size, is_there}
use Rattle.graph_laws.proofs.Renamed.{Moves, members-renamed}
use Rattle.graph_laws.proofs.Places.{get-place}
use Rattle.graph_laws.proofs.Narrowed.{Narrow, members-narrowed}
use Rattle.graph_laws.proofs.WrittenValues.{Relation, Limits, Rules, ReferGood, size_spelled}
use Rattle.graph_laws.proofs.WrittenMembers.{members_good}

abbrev pub Uses : Type 0
Uses = List (Reference (Unit {0}))

module _ (l : Limits) (t : Tables) (is : List (List Slice)) (table : List ℕ) where
  within_more : (us : Uses) (m : Reference (Unit {0})) → AreWithin (length table) us → m.name < length table → AreWithin (length table) (us ++ m ∷ [])
  within_more [] m h lt = (lt, tt)
  within_more (u ∷ us) m h lt = (h.0, within_more us m h.1 lt)

  fit_more : (us : Uses) (m : Reference (Unit {0})) → AllFit t is (resolved table us) → fits {P = Unit {0}} t is (met_at tt m.declared (entry_in table m.name)) ≡ true → AllFit t is (resolved table (us ++ m ∷ []))
  fit_more [] m h e = (e, tt {0})
  fit_more (u ∷ us) m h e = (h.0, fit_more us m h.1 e)

  -- places within the table, of instances whose classes fit
  abbrev Placed : Uses → Type 0
  Placed us = AreWithin (length table) us × AllFit t is (resolved table us)

  abbrev GoodIn : Piece (Unit {0}) → List ℕ → Relation Uses → Type 0
  GoodIn w ns R = (p : Unit {0}) (us : Uses) → length (w p).0 ≤ l.bound → Placed us → (end : Uses) × R (w p).0 us end × Placed end

  abbrev table_rules : Rules (Unit {0}) Uses l
  table_rules = record {
    Good = GoodIn;
    exact = λ bytes R fits h p us lt placed. (us, h lt us, placed);
    joined = λ w w' a b R R' one two p us lt placed.
        let x = w p in
        let y = w' x.1 in
        let long = length-append x.0 y.0 in
        let f = one p us (omega (arith, lt, long)) placed in
        let g = two x.1 f.0 (omega (arith, lt, long)) f.2 in
        (g.0, (x.0, y.0, f.0, refl, f.1, g.1), g.2);
    mapped = λ w ns R R' f good p us lt placed. let g = good p us lt placed in (g.0, f (w p).0 us g.0 g.1, g.2);
    behind = λ number spelled fits w ns R good p us lt placed.
        let x = w p in
        let small : length x.0 ≤ l.bound = omega (arith, lt, length-append (number.put (length x.0)) x.0) in
        let g = good p us small placed in
        (g.0, (number.put (length x.0), x.0, refl, spelled (length x.0) (omega (arith, small, l.bounded)), g.1), g.2);
  }

  -- a place in the table, of an instance whose class fits, or null
  abbrev pub IsPlaced : Option ℕ → Option ℕ → Type 0
  IsPlaced declared None = Unit {0}
  IsPlaced declared (Some place) = (place < length table) × (class_fits t declared (class_of (slices_of is (entry_in table place))) ≡ true)

  abbrev pub RefersTo : Refers
  RefersTo = record { Held = IsPlaced; most = l.most }

  there : (place : ℕ) (ns : List ℕ) → place < length ns → is_there ns ≡ true
  there place [] lt = absurd (omega arith)
  there place (n ∷ ns) lt = refl

  entry_is_good : length table < 2 ^ 31 → (declared n : Option ℕ) → IsPlaced declared n → GoodIn (by_size n) (listed_name n) (λ b from to. (in_table (is_there table)).Spells declared b n from to)
  entry_is_good few declared None h p us lt placed = (us, (size_spelled 0 (omega arith), refl), placed)
  entry_is_good few declared (Some place) h p us lt placed = (
    us ++ met_at tt declared place ∷ [],
    (size_spelled (suc place) (omega (arith, few, h.0)), there place table h.0, refl),
    (within_more us (met_at tt declared place) placed.0 h.0, fit_more us (met_at tt declared place) placed.1 h.1),
  )

  entry_good : length table < 2 ^ 31 → ReferGood table_rules t (in_table (is_there table)) by_size RefersTo
  entry_good few = (l.fit, entry_is_good few)

  -- the members of a sized slice, with places as references
  placed_members : (u : Tables) → length table < 2 ^ 31 → (shape : Shape) (c : Members) → AreMembers u RefersTo shape c → length (written_slice_members by_size u shape c tt).0 ≤ l.bound
      → (end : Uses) × SpellsSliceMembers (in_table (is_there table)) u (is_there c.optional) shape (written_slice_members by_size u shape c tt).0 c [] end × AreWithin (length table) end × AllFit t is (resolved table end)
  placed_members u few shape c h lt =
      let g = members_good table_rules u (in_table (is_there table)) by_size RefersTo (entry_good few) shape c h tt [] lt (tt, tt) in
      (g.0, g.1, g.2.0, g.2.1)

  -- from names to their places
  to_place : (declared n : Option ℕ) → IsHeldIn t is declared n × AreListed table (listed_name n) → IsPlaced declared (renamed_name (place table) n)
  to_place declared None h = tt
  to_place declared (Some n) h =
      let back : entry_in table (place table n) ≡ n = get-place table n 0 h.1.0 in
      (h.1.0, ap (λ (m : ℕ). class_fits t declared (class_of (slices_of is m))) back ∙ h.0.1)

  pub to_places : Moves (place table) (Narrow (RefersUpTo t l.most is) table) RefersTo
  to_places = (omega arith, to_place)

-- the members of a slice with the places of their names, each name once
pub sized_members : (l : Limits) (u t : Tables) (is : List (List Slice)) (shape : Shape) (c : Members) (table : List ℕ) → AreListed table (names_of c) → length table < 2 ^ 31 → AreMembers u (RefersUpTo t l.most is) shape c
    → length (written_slice_members by_size u shape (renamed_members (place table) c) tt).0 ≤ l.bound
    → (end : Uses) × SpellsSliceMembers (in_table (is_there table)) u (is_there (renamed_members (place table) c).optional) shape (written_slice_members by_size u shape (renamed_members (place table) c) tt).0 (renamed_members (place table) c) [] end
    × AreWithin (length table) end × AllFit t is (resolved table end)
sized_members l u t is shape c table listed few h lt =
    placed_members l t is table u few shape (renamed_members (place table) c)
    (members-renamed u (place table) (Narrow (RefersUpTo t l.most is) table) (RefersTo l t is table) (to_places l t is table) shape c (members-narrowed u table (RefersUpTo t l.most is) shape c listed h)) lt
