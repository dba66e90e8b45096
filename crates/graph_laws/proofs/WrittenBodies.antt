-- What is written for the bodies of slices spells them, of the tables u; references are those of t.
use Rattle.std.proofs.Common.{ℕ, pos, suc, ◌+◌, ◌<◌, ◌≤◌, ◌^◌, ◌≡◌, Bool, true, false, ◌&&◌, List, [], ◌∷◌, ◌++◌, length, refl, sym, ap, subst, arith, Option, Some, None}
use Rattle.std.specs.Int.{w32}
use Rattle.std.proofs.lemmas.Bool.{le-leb}
use Rattle.std.proofs.lemmas.Int.{fits_signed_from_abs}
use Rattle.std.proofs.lemmas.List.{length-append}
use Rattle.ice_types.specs.declared.declarations.Shape.{Shape}
use Rattle.ice_types.specs.Tables.{Tables}
use Rattle.ice_prims.specs.Number.{SpellsSize}
use Rattle.ice_prims.specs.Bytes.{size_bytes}
use Rattle.ice_encoding.specs.Port.{Port}
use Rattle.ice_encoding.specs.Writing.{Piece, exactly, ◌>>◌}
use Rattle.ice_encoding.specs.Optionals.{Present}
use Rattle.ice_encoding.specs.OptionalMembers.{Members, SpellsSliceMembers}
use Rattle.ice_encoding.specs.Classes.{own_members}
use Rattle.ice_encoding.specs.Graph.{Slice, known, unknown, Graph}
use Rattle.ice_encoding.specs.Names.{names_of, renamed_present, renamed_members}
use Rattle.ice_encoding.specs.References.{State, in_table, resolved, AreWithin, SpellsEntries, SpellsTable, with_met}
use Rattle.ice_encoding.specs.Flags.{no_id, Before, first, only_unknown, derived}
use Rattle.ice_encoding.specs.TypeIds.{is_base}
use Rattle.ice_encoding.specs.Slices.{slice_size, unknown_bytes, by_table, SpellsBody}
use Rattle.ice_encoding.specs.Instances.{AllFit}
use Rattle.ice_encoding.specs.Visiting.{place, visit_each}
use Rattle.ice_encoding.specs.TypedGraph.{IsKnown, RefersUpTo}
use Rattle.ice_encoding.specs.CanonicalGraph.{Pen, is_there, each_once, table_of, sized_bytes, written_names, written_table, sized_body, members_bytes}
use Rattle.ice_encoding.proofs.GraphSizes.{slice_size_lawful}
use Rattle.graph_arena.specs.Arena.{AreBelow}
use Rattle.graph_laws.proofs.TypeIds.{Spelled}
use Rattle.graph_laws.proofs.Upto.{upto, Grows}
use Rattle.graph_laws.proofs.Once.{once-listed, once-below}
use Rattle.graph_laws.proofs.Places.{members-back}
use Rattle.graph_laws.proofs.WrittenValues.{Relation, Chain, Limits, ReferGood, size_spelled}
use Rattle.graph_laws.proofs.WrittenMembers.{members_good}
use Rattle.graph_laws.proofs.TableRules.{Uses, sized_members}
use Rattle.graph_laws.proofs.InlineRules.{Good, inline_rules, exact_good, joined_good, mapped_good, noted_good}

-- ---- only unknown slices, or nothing, stand before

abbrev pub IsOpen : Before → Type 0
IsOpen first = Unit {0}
IsOpen only_unknown = Unit {0}
IsOpen (derived sized base) = ⊥

pub open_base : (ahead : Before) → IsOpen ahead → (class : Option ℕ) → is_base ahead class ≡ true
open_base first free class = refl
open_base only_unknown free class = refl
open_base (derived sized base) free class = absurd free

pub with_size : (b : Bool) → b ≡ true → (b && true) ≡ true
with_size b p = rw p refl

still_there : (f : ℕ → ℕ) (os : Present) → is_there (renamed_present f os) ≡ is_there os
still_there f [] = refl
still_there f (o ∷ os) = refl

slice_size_spelled : (n : ℕ) → n + 4 < 2 ^ 31 → slice_size.Spells (slice_size.put n) n
slice_size_spelled n lt = slice_size_lawful.put n ((((fits_signed_from_abs w32 (pos (n + 4)) lt, refl), refl), le-leb 4 (n + 4) (omega arith)), omega arith)

module _ (u t : Tables) (k : Graph) (l : Limits) (visit : ℕ → List ℕ → List ℕ) (grows : Grows visit) (Ready : ℕ → Type 0) (ready : (i j : ℕ) → Ready i → i ≤ j → Ready j) (P : Port (State ℕ) (State (Unit {0}))) (refer : Option ℕ → Piece Pen)
    (port_good : ReferGood (inline_rules t k l visit grows Ready ready) t P refer (RefersUpTo t l.most k.instances)) where
  abbrev limit : ℕ
  limit = length k.instances

  abbrev Ends : Piece Pen → List ℕ → Relation Spelled → Type 0
  Ends = Good t k l visit grows Ready ready

  abbrev exact : (bytes : List ℕ) (R : Relation Spelled) → ((s : Spelled) → R bytes s s) → Ends (exactly bytes) [] R
  exact = λ bytes R h. exact_good t k l visit grows Ready ready bytes R (λ small. h)

  abbrev joined : (w w' : Piece Pen) (a b : List ℕ) (R R' : Relation Spelled) → Ends w a R → Ends w' b R' → Ends (w >> w') (a ++ b) (Chain R R')
  joined = joined_good t k l visit grows Ready ready

  abbrev mapped : (w : Piece Pen) (ns : List ℕ) (R R' : Relation Spelled) → ((bytes : List ℕ) (from to : Spelled) → R bytes from to → R' bytes from to) → Ends w ns R → Ends w ns R'
  mapped = mapped_good t k l visit grows Ready ready

  -- ---- tables

  names_good : (ns : List ℕ) → AreBelow limit ns → Ends (written_names u refer ns) ns (λ b from to. SpellsEntries P (length ns) b ns from to)
  names_good [] below = exact [] (λ b from to. SpellsEntries P 0 b [] from to) (λ s. (refl, refl, refl))
  names_good (n ∷ ns) below =
      mapped (refer (Some n) >> written_names u refer ns) (n ∷ ns) (Chain (λ b from to. P.Spells None b (Some n) from to) (λ b from to. SpellsEntries P (length ns) b ns from to)) (λ b from to. SpellsEntries P (suc (length ns)) b (n ∷ ns) from to)
      (λ b from to z. (n, ns, z.0, z.1, z.2, refl, z.3, z.4, z.5))
      (joined (refer (Some n)) (written_names u refer ns) (n ∷ []) ns (λ b from to. P.Spells None b (Some n) from to) (λ b from to. SpellsEntries P (length ns) b ns from to) (port_good.1 None (Some n) (below.0, refl)) (names_good ns below.1))

  -- ---- the bodies of sized slices

  abbrev size_part : ℕ → List ℕ
  size_part n = slice_size.put n

  sized_parts : (s : Slice) (p : Pen) → length (sized_body u refer s p).0 ≡ suc (suc (suc (suc (length (sized_bytes u s))))) + length (written_table u refer (table_of s) p).0
  sized_parts s p = length-append (size_part (length (sized_bytes u s)) ++ sized_bytes u s) (written_table u refer (table_of s) p).0

  -- a size and what it counts, and then the table
  abbrev Counted : List ℕ → Relation Spelled
  Counted content b from to = (b ≡ size_part (length content) ++ content) × (to ≡ from)

  abbrev pub KnownBody : ℕ → Members → Relation Spelled
  KnownBody class content b from to = SpellsBody P u (record { id = no_id; has_optional = is_there content.optional; has_table = is_there (each_once [] (names_of content)); has_size = true; is_last = true }) [] true (Some class) b (known class content) from to

  abbrev pub UnknownBody : List ℕ → List ℕ → Bool → List ℕ → Relation Spelled
  UnknownBody id bytes optionals table b from to = SpellsBody P u (record { id = no_id; has_optional = optionals; has_table = is_there table; has_size = true; is_last = true }) id true None b (unknown id bytes optionals table) from to

  -- ---- without a size

  abbrev pub PlainBody : ℕ → Members → Relation Spelled
  PlainBody class content b from to = SpellsBody P u (record { id = no_id; has_optional = is_there content.optional; has_table = false; has_size = false; is_last = true }) [] false (Some class) b (known class content) from to

  pub plain_body : (class : ℕ) (content : Members) → IsKnown u (RefersUpTo t l.most k.instances) class content → Ends (members_bytes u refer (known class content)) (names_of content) (PlainBody class content)
  plain_body class content (d, row, h) =
      let shape : Shape = own_members u class in
      mapped (members_bytes u refer (known class content)) (names_of content) (λ b from to. SpellsSliceMembers P u (is_there content.optional) shape b content from to) (PlainBody class content) (λ b from to z. (content, refl, z))
      (members_good (inline_rules t k l visit grows Ready ready) u P refer (RefersUpTo t l.most k.instances) port_good shape content h)

  -- ---- with one

  module _ (refer_long : (n : ℕ) (p : Pen) → 1 ≤ length (refer (Some n) p).0)
      (once : (ns : List ℕ) (i j : ℕ) → Ready i → AreBelow limit ns → visit_each visit ns (upto i) ≡ upto j → visit_each visit (each_once [] ns) (upto i) ≡ upto j) where
    names_long : (ns : List ℕ) (p : Pen) → length ns ≤ length (written_names u refer ns p).0
    names_long [] p = omega arith
    names_long (n ∷ ns) p = omega (arith, refer_long n p, names_long ns (refer (Some n) p).1, length-append (refer (Some n) p).0 (written_names u refer ns (refer (Some n) p).1).0)

    table_long : (ns : List ℕ) (p : Pen) → length ns ≤ length (written_table u refer ns p).0
    table_long [] p = omega arith
    table_long (n ∷ ns) p = omega (arith, names_long (n ∷ ns) p, length-append (size_bytes (length (n ∷ ns))) (written_names u refer (n ∷ ns) p).0)

    table_good : (ns : List ℕ) (uses : Uses) → length ns < 2 ^ 31 → AreBelow limit ns → AreWithin (length ns) uses → AllFit t k.instances (resolved ns uses) → Ends (written_table u refer ns) ns (λ b from to. SpellsTable P (is_there ns) uses b ns from to)
    table_good [] uses few below within fit = exact [] (λ b from to. SpellsTable P false uses b [] from to) (λ s. (refl, refl, refl))
    table_good (n ∷ ns) uses few below within fit =
        let all : List ℕ = n ∷ ns in
        let Size : Relation Spelled = λ b from to. SpellsSize b (length all) × (to ≡ from) in
        let Names : Relation Spelled = λ b from to. SpellsEntries P (length all) b all from to in
        mapped (exactly (size_bytes (length all)) >> written_names u refer all) all (λ b from to. (end : Spelled) × Chain Size Names b from end × (to ≡ with_met (resolved all uses) end)) (λ b from to. SpellsTable P true uses b all from to)
        (λ b from to z. (length all, z.1.0, z.1.1, z.0, z.1.3, z.1.4.0, within, subst (λ (s : Spelled). SpellsEntries P (length all) z.1.1 all s z.0) z.1.4.1 z.1.5, z.2))
        (noted_good t k l visit grows Ready ready (exactly (size_bytes (length all)) >> written_names u refer all) all (Chain Size Names) (resolved all uses) fit
        (joined (exactly (size_bytes (length all))) (written_names u refer all) [] all Size Names (exact (size_bytes (length all)) Size (λ s. (size_spelled (length all) few, refl))) (names_good all below)))

    pub known_good : (class : ℕ) (content : Members) → IsKnown u (RefersUpTo t l.most k.instances) class content → AreBelow limit (names_of content) → Ends (sized_body u refer (known class content)) (names_of content) (KnownBody class content)
    known_good class content (d, row, h) below from p j stands is_ready run small =
        let s : Slice = known class content in
        let ns : List ℕ = names_of content in
        let table : List ℕ = each_once [] ns in
        let raw : Members = renamed_members (place table) content in
        let bytes : List ℕ = sized_bytes u s in
        let parts = sized_parts s p in
        let few : length table < 2 ^ 31 = omega (arith, l.bounded, small, parts, table_long table p) in
        let fits : length bytes + 4 < 2 ^ 31 = omega (arith, l.bounded, small, parts) in
        let shape : Shape = own_members u class in
        let m = sized_members l u t k.instances shape content table (once-listed ns) few h (omega (arith, small, parts)) in
        let spelled : SpellsSliceMembers (in_table (is_there table)) u (is_there content.optional) shape bytes raw [] m.0 =
        subst (λ (o : Bool). SpellsSliceMembers (in_table (is_there table)) u o shape bytes raw [] m.0) (still_there (place table) content.optional) m.1 in
        let back : known class content ≡ by_table class raw table = ap (known class) (sym (members-back table content (once-listed ns))) in
        let Table : Relation Spelled = λ b from to. SpellsTable P (is_there table) m.0 b table from to in
        mapped (sized_body u refer s) table (Chain (Counted bytes) Table) (KnownBody class content)
        (λ b from to z. (raw, m.0, z.0, z.1, z.3, (size_part (length bytes), bytes, z.4.0, slice_size_spelled (length bytes) fits, spelled), (table, back, subst (λ (x : Spelled). SpellsTable P (is_there table) m.0 z.1 table x to) z.4.1 z.5)))
        (joined (exactly (size_part (length bytes) ++ bytes)) (written_table u refer table) [] table (Counted bytes) Table
        (exact (size_part (length bytes) ++ bytes) (Counted bytes) (λ s. (refl, refl))) (table_good table m.0 few (once-below limit [] ns below) m.2 m.3))
        from p j stands is_ready (once ns p.begun j is_ready below run) small

    pub unknown_good : (id bytes : List ℕ) (optionals : Bool) (table : List ℕ) → AreBelow limit table → Ends (sized_body u refer (unknown id bytes optionals table)) table (UnknownBody id bytes optionals table)
    unknown_good id bytes optionals table below from p j stands is_ready run small =
        let s : Slice = unknown id bytes optionals table in
        let all : List ℕ = unknown_bytes optionals bytes in
        let parts = sized_parts s p in
        let few : length table < 2 ^ 31 = omega (arith, l.bounded, small, parts, table_long table p) in
        let fits : length all + 4 < 2 ^ 31 = omega (arith, l.bounded, small, parts) in
        let Table : Relation Spelled = λ b from to. SpellsTable P (is_there table) [] b table from to in
        mapped (sized_body u refer s) table (Chain (Counted all) Table) (UnknownBody id bytes optionals table)
        (λ b from to z. (bytes, z.0, z.1, from, z.3, ((size_part (length all), z.4.0, slice_size_spelled (length all) fits), refl), (table, refl, subst (λ (x : Spelled). SpellsTable P (is_there table) [] z.1 table x to) z.4.1 z.5)))
        (joined (exactly (size_part (length all) ++ all)) (written_table u refer table) [] table (Counted all) Table
        (exact (size_part (length all) ++ all) (Counted all) (λ s. (refl, refl))) (table_good table [] few below tt tt))
        from p j stands is_ready run small
