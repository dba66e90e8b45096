-- A slice that was found, with the entries of its table and the slices behind it, is one of an instance.
use Rattle.std.proofs.Common.{◌≡◌, ℕ, zero, suc, ◌<◌, ◌≤◌, Bool, true, false, cond, List, [], ◌∷◌, ◌++◌, length, Option, None, Some, nat_eq, refl, sym, ap, ◌∙◌, subst, arith, append_assoc}
use Rattle.std.specs.Prelude.{slice_get, is_none}
use Rattle.std.proofs.lemmas.List.{append-nil}
use Rattle.std.specs.Option.{option_and_then}
use Rattle.ice_types.specs.declared.declarations.ClassDecl.{ClassDecl}
use Rattle.ice_types.specs.declared.declarations.Shape.{Shape}
use Rattle.ice_types.specs.Tables.{Tables}
use Rattle.ice_prims.specs.Bytes.{size_bytes}
use Rattle.ice_encoding.specs.Classes.{base_of, members_in, own_members}
use Rattle.ice_encoding.specs.Flags.{IdForm}
use Rattle.ice_encoding.specs.Graph.{Slice, known, unknown}
use Rattle.ice_encoding.specs.Instances.{class_fits}
use Rattle.ice_encoding.specs.Names.{names_each, renamed_name, renamed_members}
use Rattle.ice_encoding.specs.OptionalMembers.{Members, with_optional, shape_of}
use Rattle.ice_encoding.specs.References.{entry_in}
use Rattle.ice_encoding.specs.SameGraph.{HasEachOnce}
use Rattle.ice_encoding.specs.Slices.{slice_size}
use Rattle.ice_encoding.specs.TypedGraph.{AreMembers, IsKnown, AreBases}
use Rattle.ice_encoding.specs.Visiting.{place}
use Rattle.ice_encoding.specs.CanonicalGraph.{Pen, table_of, sized_bytes, has_optional, is_there, flags_byte, row_id, written_id, spelled_by, written_head}
use Rattle.graph_laws.proofs.Renamed.{Moves, members-renamed}
use Rattle.canonical_values.specs.Keys.{each_bytes}
use Rattle.canonical_inputs.specs.declared.slice.Passed.{Passed}
use Rattle.canonical_inputs.specs.Standing.{Stretch, Then, Instances, NamesStand, TableStands, head_of, SliceStands, InstanceStands, ends}
use Rattle.canonical_inputs.specs.Tables.{by_first_use}
use Rattle.canonical_inputs.specs.Places.{by_place, IsPlace}
use Rattle.canonical_inputs.specs.Heads.{pen_at}
use Rattle.canonical_inputs.specs.Slices.{table_size, SliceFound}
use Rattle.canonical_inputs.specs.Fitting.{Classes, by_class, IsFitting, IsOf, AreEntries, EntriesStand, BasesStand}
use Rattle.canonical_inputs.proofs.Slices.{slice_stands}

-- ---- the entries of a table

module _ (t : Tables) (classes : Classes) where
  pub entries_many : (needs : List (Option ℕ)) (last : Option ℕ) (names : List ℕ) → AreEntries t classes needs last names → length names ≡ length needs
  entries_many [] last [] h = refl
  entries_many [] last (n ∷ ns) h = absurd h
  entries_many (declared ∷ needs) last [] h = absurd h
  entries_many (declared ∷ needs) last (n ∷ ns) h = ap suc (entries_many needs (Some n) ns h.2)

  not_among : (needs : List (Option ℕ)) (last m : ℕ) (names : List ℕ) → AreEntries t classes needs (Some last) names → m ≤ last → place names m ≡ length names
  not_among [] last m [] h le = refl
  not_among [] last m (n ∷ ns) h le = absurd h
  not_among (declared ∷ needs) last m [] h le = refl
  not_among (declared ∷ needs) last m (n ∷ ns) h le =
      let other : nat_eq n m ≡ false = let above : last < n = h.0 in grind (arith, above, le) in
      ap (λ (b : Bool). cond b 0 (suc (place ns m))) other ∙ ap suc (not_among needs n m ns h.2 (let above : last < n = h.0 in omega (arith, above, le)))

  pub entries_once : (needs : List (Option ℕ)) (last : Option ℕ) (names : List ℕ) → AreEntries t classes needs last names → HasEachOnce names
  entries_once [] last [] h = tt
  entries_once [] last (n ∷ ns) h = absurd h
  entries_once (declared ∷ needs) last [] h = absurd h
  entries_once (declared ∷ needs) last (n ∷ ns) h = (not_among needs n n ns h.2 (omega arith), entries_once needs (Some n) ns h.2)

  pub entries_fit : (needs : List (Option ℕ)) (last : Option ℕ) (names : List ℕ) → AreEntries t classes needs last names → (u : ℕ) (declared : Option ℕ) → slice_get needs u ≡ Some declared → class_fits t declared (classes (entry_in names u)) ≡ true
  entries_fit [] last [] h u declared e = absurd cc
  entries_fit [] last (n ∷ ns) h u declared e = absurd h
  entries_fit (need ∷ needs) last [] h u declared e = absurd h
  entries_fit (need ∷ needs) last (n ∷ ns) h zero declared e = let same : need ≡ declared = cc in subst (λ (d : Option ℕ). class_fits t d (classes n) ≡ true) same h.1
  entries_fit (need ∷ needs) last (n ∷ ns) h (suc u) declared e = entries_fit needs (Some n) ns h.2 u declared e

  held : (needs : List (Option ℕ)) (names : List ℕ) → AreEntries t classes needs None names → (declared n : Option ℕ) → IsPlace needs declared n → IsFitting t classes declared (renamed_name (entry_in names) n)
  held needs names h declared None there = tt
  held needs names h declared (Some u) there = entries_fit needs None names h u declared there

  pub entries_move : (needs : List (Option ℕ)) (names : List ℕ) → AreEntries t classes needs None names → Moves (entry_in names) (by_place needs) (by_class t classes)
  entries_move needs names h = (omega arith, held needs names h)

  both_there : (needs : List (Option ℕ)) (names : List ℕ) → length names ≡ length needs → is_there names ≡ is_there needs
  both_there [] [] e = refl
  both_there [] (n ∷ ns) e = absurd (omega (arith, e))
  both_there (d ∷ ds) [] e = absurd (omega (arith, e))
  both_there (d ∷ ds) (n ∷ ns) e = refl

  bases_end : (base : Option ℕ) (slices : List Slice) → AreBases t (by_class t classes) base slices → ends slices ≡ is_none base
  bases_end None slices h = ap ends h
  bases_end (Some class) [] h = absurd h
  bases_end (Some class) (unknown id bytes optionals table ∷ ss) h = absurd h
  bases_end (Some class) (known other content ∷ ss) h = refl

-- ---- a slice by what is written for it

module _ (t : Tables) (Good : Instances) (Inside : List Slice → Stretch) where
  slice_is : (s : Slice) (ss : List Slice) (names sized id : List ℕ) (tabled last : Bool) → table_of s ≡ names → sized_bytes t s ≡ sized → has_optional s ≡ false → is_there names ≡ tabled → ends ss ≡ last → written_id t s ≡ id
      → (head : List ℕ) (p after : Pen) → written_head (λ form. flags_byte form false tabled true last) id p ≡ (head, after)
      → (table : List ℕ) (q : Pen) (news : List (List Slice)) → TableStands Good Inside names after table q news
      → SliceStands Good Inside t s ss p (head ++ ((slice_size.put (length sized) ++ sized) ++ table)) q news
  slice_is s ss names sized id tabled last is_table is_sized bare is_tabled is_last is_id head p after wrote table q news h =
      let there : is_there (table_of s) ≡ tabled = ap is_there is_table ∙ is_tabled in
      let e : head_of Good Inside t s ss p ≡ (head, after) =
      ap (λ (b : Bool). written_head (λ (form : IdForm). flags_byte form b (is_there (table_of s)) true (ends ss)) (written_id t s) p) bare
      ∙ ap (λ (b : Bool). written_head (λ (form : IdForm). flags_byte form false b true (ends ss)) (written_id t s) p) there
      ∙ ap (λ (b : Bool). written_head (λ (form : IdForm). flags_byte form false tabled true b) (written_id t s) p) is_last
      ∙ ap (λ (x : List ℕ). written_head (λ (form : IdForm). flags_byte form false tabled true last) x p) is_id ∙ wrote in (
        table,
        ap (λ (x : List ℕ × Pen). x.0 ++ ((slice_size.put (length sized) ++ sized) ++ table)) (sym e) ∙ ap (λ (l : List ℕ). (head_of Good Inside t s ss p).0 ++ ((slice_size.put (length l) ++ l) ++ table)) (sym is_sized),
        subst (λ (ns : List ℕ). TableStands Good Inside ns (head_of Good Inside t s ss p).1 table q news) (sym is_table) (subst (λ (x : List ℕ × Pen). TableStands Good Inside names x.1 table q news) (sym e) h),
      )

  table_is : (names : List ℕ) (many : ℕ) → length names ≡ many → (p : Pen) (body : List ℕ) (q : Pen) (news : List (List Slice)) → NamesStand Good Inside names p body q news → TableStands Good Inside names p (table_size many ++ body) q news
  table_is [] zero e p body q news h = h
  table_is [] (suc many) e p body q news h = absurd (omega (arith, e))
  table_is (n ∷ ns) zero e p body q news h = absurd (omega (arith, e))
  table_is (n ∷ ns) (suc many) e p body q news h = (body, ap (λ (k : ℕ). size_bytes k ++ body) (sym e), h)

-- ---- a slice that was found

grouped : (head sized table a : List ℕ) → head ++ (sized ++ (table ++ a)) ≡ (head ++ (sized ++ table)) ++ a
grouped head sized table a = ap (λ (l : List ℕ). head ++ l) (sym (append_assoc sized table a)) ∙ sym (append_assoc head (sized ++ table) a)

-- the bytes of a slice up to the entries of its table
abbrev pub slice_front : List ℕ → List ℕ → ℕ → List ℕ
slice_front head members many = head ++ ((slice_size.put (length members) ++ members) ++ table_size many)

-- a slice of the class in front of others
pub record SliceOf (t : Tables) (classes : Classes) (depth class : ℕ) (slices : List Slice) (p : Pen) (bytes : List ℕ) (q : Pen) (news : List (List Slice)) : Type 0 where
  pub content : Members
  pub typed : IsKnown t (by_class t classes) class content
  pub stands : BasesStand t classes depth (known class content ∷ slices) p bytes q news

pub found_base : (t : Tables) (class : ℕ) (row : ClassDecl) → slice_get t.classes class ≡ Some row → base_of t class ≡ row.base
found_base t class row is = ap (option_and_then (λ (c : ClassDecl). c.base)) is

abbrev pub found_front : (t : Tables) (input : List ℕ) (at : ℕ) (before behind : List ℕ) (s : Passed) → SliceFound t input at before behind s → List ℕ
found_front t input at before behind s found = slice_front found.head found.members (length s.needs.items)

module _ (t : Tables) (input : List ℕ) (at : ℕ) (before behind : List ℕ) (s : Passed) (found : SliceFound t input at before behind s) (classes : Classes) (depth begun : ℕ) where
  pub slice_found : (names : List ℕ) (slices : List Slice) (more : List ℕ) (q : Pen) (news : List (List Slice)) → AreEntries t classes s.needs.items None names → AreBases t (by_class t classes) s.base slices
      → Then (EntriesStand t classes depth names) (BasesStand t classes depth slices) (pen_at t begun behind) more q news → SliceOf t classes depth s.class slices (pen_at t begun before) (found_front t input at before behind s found ++ more) q news
  slice_found names slices more q news entries bases (a, b, mid, first, others, parts, all, table, behind_it) =
      let needs = s.needs.items in
      let front = found_front t input at before behind s found in
      let vs = found.put.0 in
      let c = with_optional vs [] in
      let content = renamed_members (entry_in names) c in
      let many = entries_many t classes needs None names entries in
      let own : own_members t s.class ≡ shape_of found.row.members = ap (λ (o : Option ClassDecl). shape_of (members_in o)) found.is_row in
      let members : AreMembers t (by_place needs) (own_members t s.class) c =
      subst (λ (shape : Shape). AreMembers t (by_place needs) shape c) (sym own) (record { required = found.put.1; optional = tt }) in
      let stood = slice_stands t s.class names c (record {
        once = entries_once t classes needs None names entries;
        all = ap (by_first_use 0) (append-nil (names_each vs)) ∙ found.put.3 ∙ ap Some (sym many);
      }) in
      let sized : sized_bytes t (known s.class content) ≡ found.members = stood.1 ∙ append-nil (each_bytes vs) ∙ sym found.put.2 in
      let last : ends slices ≡ is_none found.row.base = bases_end t classes s.base slices bases ∙ ap is_none found.base in
      let id : written_id t (known s.class content) ≡ spelled_by found.row = ap row_id found.is_row in
      record {
        content = content;
        typed = (found.row, found.is_row, members-renamed t (entry_in names) (by_place needs) (by_class t classes) (entries_move t classes needs names entries) (own_members t s.class) c members);
        stands = (
          front ++ a,
          b,
          mid,
          first,
          others,
          ap (λ (l : List ℕ). front ++ l) parts ∙ sym (append_assoc front a b),
          all,
          subst (λ (l : List ℕ). SliceStands (IsOf t classes) (InstanceStands t (IsOf t classes) depth) t (known s.class content) slices (pen_at t begun before) l mid first) (grouped found.head (slice_size.put (length found.members) ++ found.members) (table_size (length needs)) a)
              (slice_is t (IsOf t classes) (InstanceStands t (IsOf t classes) depth) (known s.class content) slices names found.members (spelled_by found.row) (is_there needs) (is_none found.row.base) stood.0 sized refl (both_there t classes needs names many) last id
              found.head (pen_at t begun before) (pen_at t begun behind) (found.written begun) (table_size (length needs) ++ a) mid first
              (table_is t (IsOf t classes) (InstanceStands t (IsOf t classes) depth) names (length needs) many (pen_at t begun behind) a mid first table)),
          behind_it,
        );
      }
