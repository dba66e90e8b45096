-- What a schema keeps when a class or an interface is defined.
use Rattle.std.proofs.Common.{◌≡◌, ◌≢◌, ℕ, zero, suc, ◌+◌, ◌<◌, ◌≤◌, Bool, true, false, cond, List, [], ◌∷◌, length, map, Option, Some, None, refl, sym, ap, subst, ◌∙◌, arith, inl, inr}
use Rattle.std.specs.Prelude.{slice_get, slice_set, slice_index_or, is_some, All, nat_eq, unwrap_or}
use Rattle.std.specs.Option.{option_map}
use Rattle.std.proofs.lemmas.List.{length-map}
use Rattle.ice_types.specs.declared.declarations.ClassDecl.{ClassDecl}
use Rattle.ice_types.specs.declared.declarations.InterfaceDecl.{InterfaceDecl}
use Rattle.ice_types.specs.declared.declarations.Member.{Member}
use Rattle.ice_types.specs.declared.declarations.OpDecl.{OpDecl}
use Rattle.ice_types.specs.declared.kind.RowRef.{RowRef}
use Rattle.ice_types.specs.declared.kind.RowRef.TheVariants as rows
use Rattle.ice_types.specs.declared.rows.Above.{Above}
use Rattle.ice_types.specs.declared.rows.TableRows.{TableRows}
use Rattle.ice_types.specs.Tables.{Tables, changed, define_class, define_interface, is_defined, row_ids}
use Rattle.ice_types.specs.Measures.{bases_in, paths_of}
use Rattle.ice_types.specs.Fits.{SeqFits, DictFits, StructFits, EnumFits, ClassBaseFits, ClassFits, CompactIdFits, ExceptionFits, InterfaceFits, paths_over}
use Rattle.ice_types.specs.Bases.{HasBases, HasBasesFrom, class_base}
use Rattle.ice_types.specs.Rules.{Beside, IsSchema, IsKept, bases_by, defined}
use Rattle.ice_types.specs.Inherited.{IsFarBase}
use Rattle.ice_types.specs.Kept.{tables_of, beside_of}
use Rattle.ice_types.specs.Ids.{AreNumbered, IsHeld}
use Rattle.ice_types.proofs.Items.{set_to, length-changed, map-changed, map-kept, get_other, get_changed, where_from, still_there}
use Rattle.ice_types.proofs.Flags.{flag_stays, defined_more, another}
use Rattle.ice_types.proofs.CompactIds.{compact_of, compact_defined, one_more, numbered_without, numbered_with}
use Rattle.ice_types.proofs.Levels.{Keeps}
use Rattle.ice_types.proofs.Staying.{Grows}
use Rattle.ice_types.proofs.BaseChains.{based_on, row_of_base, bases_stay, all_counted}
use Rattle.ice_types.proofs.BasePaths.{bases_other, bases_changed, all_bases, other_paths, paths_now}
use Rattle.ice_types.proofs.RowIds.{ids_of, same_ids, same_found}
use Rattle.ice_types.proofs.Grown.{all_old, IsSchema-grown}
use Rattle.ice_types.proofs.Measured.{measured_kept}
use Rattle.ice_types.proofs.FarBases.{base_undefined, far_defined}

-- ---- a class

abbrev pub filled_class : Option ℕ → Option ℕ → List Member → ClassDecl → ClassDecl
filled_class base compact members c = record { id = c.id; base = base; compact = compact; members = members }

module _ (t : Tables) (at : ℕ) (base compact : Option ℕ) (members : List Member) where
  abbrev after_class : Tables
  after_class = define_class t at base compact members

  types_class : Keeps t after_class
  types_class = record {
    seqs = λ at x e. e;
    dicts = λ at x e. e;
    structs = λ at x e. e;
    enums = λ at x e. e;
    classes = still_there (filled_class base compact members) t.classes at;
    interfaces = λ at x e. (x, e);
  }

  rows_class : (row : RowRef) → row_ids after_class row ≡ row_ids t row
  rows_class (rows.Seq place) = refl
  rows_class (rows.Dict place) = refl
  rows_class (rows.Struct place) = refl
  rows_class (rows.Enum place) = refl
  rows_class (rows.Class place) = map-kept (λ c. c.id) (filled_class base compact members) (λ c. refl) t.classes at
  rows_class (rows.Exception place) = refl
  rows_class (rows.Interface place) = refl

  module _ (kept : IsSchema t) (there : at < length t.classes) (not_yet : is_defined t.defined_classes at ≡ false) (fits : ClassFits t base members) (compact_fits : CompactIdFits t compact) where
    grows_class : Grows t after_class
    grows_class = record { types = types_class; classes = flag_stays t.defined_classes at; interfaces = λ at h. h; exceptions = omega arith; paths = λ at h. refl }

    schema_class : ((place : ℕ) → place < length after_class.classes → (bases : ℕ) × HasBases (class_base after_class) place bases) → IsSchema after_class
    schema_class counted = IsSchema-grown t after_class kept record {
      grows = grows_class;
      room = record { seqs = kept.room.seqs; dicts = kept.room.dicts; structs = kept.room.structs; enums = kept.room.enums; classes = omega (arith, kept.room.classes, length-changed (filled_class base compact members) t.classes at); exceptions = kept.room.exceptions; interfaces = kept.room.interfaces };
      class_flags = length-changed (λ _. true) t.defined_classes at ∙ kept.class_flags ∙ sym (length-changed (filled_class base compact members) t.classes at);
      interface_flags = kept.interface_flags;
      ids = same_ids t after_class rows_class (ids_of t kept);
      compact = compact_defined t at base compact members (compact_of t kept) compact_fits;
      seqs = all_old t.seqs (λ q. SeqFits t q.element);
      dicts = all_old t.dicts (λ d. DictFits t d.key d.value);
      structs = all_old t.structs (λ d. StructFits t d.members);
      enums = all_old t.enums (λ e. EnumFits e.entries);
      classes = λ place c e. elim (where_from (filled_class base compact members) t.classes at place c e) [
        | inl old ↦ inl old.1
        | inr new ↦ inr (subst (λ (c : ClassDecl). ClassFits t c.base c.members) new.1.2 fits)
      ];
      exceptions = all_old t.exceptions (λ e. ExceptionFits t e.base e.members);
      interfaces = all_old t.interfaces (λ i. InterfaceFits t i.bases i.ops);
      class_bases = counted;
      exception_bases = kept.exception_bases;
    }

module _ (t : Tables) (beside : Beside) (kept : IsKept t beside) (at : ℕ) (base compact : Option ℕ) (members : List Member) (there : at < length t.classes) (not_yet : is_defined t.defined_classes at ≡ false)
    (fits : ClassFits t base members) (compact_fits : CompactIdFits t compact) (above : Above) (from : HasBasesFrom (class_base t) base above.bases) (most : above.bases ≤ suc (defined t.defined_classes)) where
  others : (other : ℕ) → other ≢ at → class_base t other ≡ class_base (define_class t at base compact members) other
  others other apart = ap (option_map (λ c. c.base)) (sym (get_other (filled_class base compact members) t.classes at other apart))

  no_base_yet : (other : ℕ) → ClassBaseFits t (Some other) → other ≢ at
  no_base_yet other h = another t.defined_classes at other not_yet h

  base_apart : (place over : ℕ) → class_base t place ≡ Some (Some over) → over ≢ at
  base_apart place over e =
      let row = row_of_base (λ c. c.base) (slice_get t.classes place) (Some over) e in
      no_base_yet over (subst (ClassBaseFits t) row.2 (kept.rules.classes place row.0 row.1).0)

  stays_class : (place n : ℕ) → place ≢ at → HasBases (class_base t) place n → HasBases (class_base (define_class t at base compact members)) place n
  stays_class = bases_stay (class_base t) (class_base (define_class t at base compact members)) at others base_apart

  filled_base : class_base (define_class t at base compact members) at ≡ Some base
  filled_base = by_row (slice_get t.classes at) refl
    where
      by_row : (row : Option ClassDecl) → slice_get t.classes at ≡ row → class_base (define_class t at base compact members) at ≡ Some base
      by_row (Some c) e = ap (option_map (λ c. c.base)) (get_changed (filled_class base compact members) t.classes at c e)
      by_row None e = absurd (none_there t.classes at there e)
        where
          none_there : {A : Type 0} (xs : List A) (at : ℕ) → at < length xs → slice_get xs at ≡ None → ⊥
          none_there [] at lt e = omega (arith, lt)
          none_there (x ∷ xs) zero lt e = cc
          none_there (x ∷ xs) (suc at) lt e = none_there xs at (omega (arith, lt)) e

  counts_class : (place : ℕ) (n : Option Above) → slice_get (changed (λ _. Some above) beside.classes at) place ≡ Some n
      → HasBases (class_base (define_class t at base compact members)) place (bases_by n) × (bases_by n ≤ defined (changed (λ _. true) t.defined_classes at))
  counts_class place n e =
      let more = defined_more t.defined_classes at (omega (arith, there, kept.rules.class_flags)) not_yet in
      elim (where_from (λ _. Some above) beside.classes at place n e) [
        | inl old ↦ let was = kept.classes place n old.1 in (stays_class place (bases_by n) old.0 was.0, omega (arith, was.1, more))
        | inr new ↦ (
          subst (λ (place : ℕ). HasBases (class_base (define_class t at base compact members)) place (bases_by n)) (sym new.0)
              (subst (λ (n : Option Above). HasBases (class_base (define_class t at base compact members)) at (bases_by n)) new.1.2
              (based_on (class_base t) (class_base (define_class t at base compact members)) at above.bases base (λ over more is h. stays_class over more (no_base_yet over (subst (ClassBaseFits t) is fits.0)) h) filled_base from)),
          subst (λ (n : Option Above). bases_by n ≤ defined (changed (λ _. true) t.defined_classes at)) new.1.2 (omega (arith, most, more)),
        )
      ]

  kept_class : IsKept (define_class t at base compact members) (record beside { classes = changed (λ _. Some above) beside.classes at })
  kept_class =
      let u = define_class t at base compact members in
      let same = measured_kept t u (types_class t at base compact members) beside kept in
      let as_many : length (changed (λ _. Some above) beside.classes at) ≡ length (changed (filled_class base compact members) t.classes at) =
      omega (arith, length-changed (λ _. Some above) beside.classes at, length-changed (filled_class base compact members) t.classes at, length-map beside.classes is_some, ap length kept.class_flags, kept.rules.class_flags) in
      record {
        rules = schema_class t at base compact members kept.rules there not_yet fits compact_fits
            (all_counted (changed (filled_class base compact members) t.classes at) (changed (λ _. Some above) beside.classes at) (λ n. bases_by n) (class_base u) as_many (λ place n e. (counts_class place n e).0));
        seqs = same.seqs refl;
        dicts = same.dicts refl;
        structs = same.structs refl;
        enums = same.enums refl;
        class_flags = ap (λ (flags : List Bool). changed (λ _. true) flags at) kept.class_flags ∙ sym (map-changed is_some (λ _. Some above) (λ _. true) (λ x. refl) beside.classes at);
        interface_flags = kept.interface_flags;
        exceptions_beside = kept.exceptions_beside;
        classes = counts_class;
        exceptions = kept.exceptions;
        interfaces = kept.interfaces;
      }

-- the tables that contracts see then
pub view_class : (old : TableRows) (decls : List ClassDecl) (beside : List (Option Above)) (t : Tables) → tables_of old ≡ t → (at : ℕ) (base compact : Option ℕ) (members : List Member) (above : Above) → decls ≡ changed (filled_class base compact members) old.classes.decls at → beside ≡ slice_set old.classes.beside at (Some above)
    → define_class t at base compact members ≡ tables_of (record old { classes = record { decls = decls; beside = beside } })
view_class old decls beside t view_is at base compact members above row count =
    let flags : map is_some beside ≡ changed (λ _. true) (map is_some old.classes.beside) at =
    ap (map is_some) (count ∙ set_to old.classes.beside at (Some above)) ∙ map-changed is_some (λ _. Some above) (λ _. true) (λ x. refl) old.classes.beside at in
    rw (row, flags, ← view_is) refl

-- the same of a schema's fields, where contracts see them as these tables
pub defined_class : (old : TableRows) (decls : List ClassDecl) (beside : List (Option Above)) (t : Tables) (row_of : List ℕ → Option RowRef) → IsHeld (tables_of old) (beside_of old) row_of → tables_of old ≡ t
    → (at : ℕ) (base compact : Option ℕ) (members : List Member) (above : Above) → decls ≡ changed (filled_class base compact members) old.classes.decls at → beside ≡ slice_set old.classes.beside at (Some above)
    → at < length t.classes → is_defined t.defined_classes at ≡ false → ClassFits t base members → CompactIdFits t compact → HasBasesFrom (class_base t) base above.bases → above.bases ≤ suc (defined t.defined_classes) → IsFarBase t.classes at base above.far
    → IsHeld (tables_of (record old { classes = record { decls = decls; beside = beside } })) (beside_of (record old { classes = record { decls = decls; beside = beside } })) row_of
defined_class old decls beside t row_of held view_is at base compact members above row count there not_yet fits compact_fits from most far =
    let was : IsHeld t (beside_of old) row_of = subst (λ (t : Tables). IsHeld t (beside_of old) row_of) view_is held in
    let beside_there : at < length old.classes.beside = omega (arith, there, length-map old.classes.beside is_some, ap length was.kept.class_flags, was.kept.rules.class_flags) in
    let now : changed (λ _. Some above) old.classes.beside at ≡ beside = sym (count ∙ set_to old.classes.beside at (Some above)) in
    subst (λ (u : Tables). IsHeld u (beside_of (record old { classes = record { decls = decls; beside = beside } })) row_of) (view_class old decls beside t view_is at base compact members above row count)
    (subst (λ (rows : List (Option Above)). IsHeld (define_class t at base compact members) (record (beside_of old) { classes = rows }) row_of) now (record {
      kept = kept_class t (beside_of old) was.kept at base compact members there not_yet fits compact_fits above from most;
      far_bases = far_defined t.classes old.classes.beside (filled_class base compact members) at above base (λ c. refl) there beside_there (base_undefined t (beside_of old) was.kept at beside_there not_yet) was.far_bases far;
      found = same_found t (define_class t at base compact members) (rows_class t at base compact members) row_of was.found;
    }))

-- and of its compact ids
module _ (old : TableRows) (decls : List ClassDecl) (beside : List (Option Above)) (t : Tables) (row_of : List ℕ → Option RowRef) (held : IsHeld (tables_of old) (beside_of old) row_of) (view_is : tables_of old ≡ t)
    (class_of : ℕ → Option ℕ) (room : ℕ) (numbered : AreNumbered (tables_of old) class_of room) (at : ℕ) (base compact : Option ℕ) (members : List Member) (above : Above)
    (row : decls ≡ changed (filled_class base compact members) old.classes.decls at) (count : beside ≡ slice_set old.classes.beside at (Some above))
    (there : at < length t.classes) (not_yet : is_defined t.defined_classes at ≡ false) where
  flags_are : length t.defined_classes ≡ length t.classes
  flags_are = (subst (λ (t : Tables). IsHeld t (beside_of old) row_of) view_is held).kept.rules.class_flags

  was_numbered : AreNumbered t class_of room
  was_numbered = subst (λ (t : Tables). AreNumbered t class_of room) view_is numbered

  pub room_for_one : 0 < room
  room_for_one = one_more t at base compact members there not_yet flags_are class_of room was_numbered

  pub filled_without : compact ≡ None → AreNumbered (tables_of (record old { classes = record { decls = decls; beside = beside } })) class_of room
  filled_without none = subst (λ (u : Tables). AreNumbered u class_of room) (view_class old decls beside t view_is at base compact members above row count)
      (numbered_without t at base compact members there not_yet flags_are class_of room was_numbered none)

  pub filled_with : (number : ℕ) → compact ≡ Some number → (now : ℕ → Option ℕ) (left : ℕ) → ((other : ℕ) → now other ≡ cond (nat_eq number other) (Some at) (class_of other)) → room ≤ left + 1
      → AreNumbered (tables_of (record old { classes = record { decls = decls; beside = beside } })) now left
  filled_with number is now left put spare = subst (λ (u : Tables). AreNumbered u now left) (view_class old decls beside t view_is at base compact members above row count)
      (numbered_with t at base compact members there not_yet flags_are class_of room was_numbered number is now left put spare)

-- ---- an interface

abbrev pub filled_interface : List ℕ → List OpDecl → InterfaceDecl → InterfaceDecl
filled_interface bases ops c = record { id = c.id; bases = bases; ops = ops }

module _ (t : Tables) (at : ℕ) (bases : List ℕ) (ops : List OpDecl) where
  abbrev after_interface : Tables
  after_interface = define_interface t at bases ops

  types_interface : Keeps t after_interface
  types_interface = record {
    seqs = λ at x e. e;
    dicts = λ at x e. e;
    structs = λ at x e. e;
    enums = λ at x e. e;
    classes = λ at x e. (x, e);
    interfaces = still_there (filled_interface bases ops) t.interfaces at;
  }

  rows_interface : (row : RowRef) → row_ids after_interface row ≡ row_ids t row
  rows_interface (rows.Seq place) = refl
  rows_interface (rows.Dict place) = refl
  rows_interface (rows.Struct place) = refl
  rows_interface (rows.Enum place) = refl
  rows_interface (rows.Class place) = refl
  rows_interface (rows.Exception place) = refl
  rows_interface (rows.Interface place) = map-kept (λ c. c.id) (filled_interface bases ops) (λ c. refl) t.interfaces at

  module _ (kept : IsSchema t) (there : at < length t.interfaces) (not_yet : is_defined t.defined_interfaces at ≡ false) (fits : InterfaceFits t bases ops) where
    same_bases : (other : ℕ) → other ≢ at → bases_in t.interfaces other ≡ bases_in after_interface.interfaces other
    same_bases = bases_other (filled_interface bases ops) t.interfaces at

    no_base : (place : ℕ) → All (λ base. base ≢ at) (bases_in t.interfaces place)
    no_base = all_bases t.interfaces (λ base. base ≢ at) (λ place i row k d lt. another t.defined_interfaces at (slice_index_or i.bases k d) not_yet ((kept.interfaces place i row).0.0 k d lt))

    pub paths_stay : (levels other : ℕ) → other ≢ at → paths_of t levels other ≡ paths_of after_interface levels other
    paths_stay = other_paths t.interfaces after_interface.interfaces at same_bases no_base

    pub paths_here : paths_over t bases ≡ paths_of after_interface 1001 at
    paths_here = paths_now t.interfaces after_interface.interfaces 1000 at bases (bases_changed (filled_interface bases ops) bases (λ i. refl) t.interfaces at there) fits.0.2
        (λ k d lt. paths_stay 1000 (slice_index_or bases k d) (another t.defined_interfaces at (slice_index_or bases k d) not_yet (fits.0.0 k d lt)))

    grows_interface : Grows t after_interface
    grows_interface = record {
      types = types_interface;
      classes = λ at h. h;
      interfaces = flag_stays t.defined_interfaces at;
      exceptions = omega arith;
      paths = λ other h. paths_stay 1001 other (another t.defined_interfaces at other not_yet h);
    }

    schema_interface : IsSchema after_interface
    schema_interface = IsSchema-grown t after_interface kept record {
      grows = grows_interface;
      room = record { seqs = kept.room.seqs; dicts = kept.room.dicts; structs = kept.room.structs; enums = kept.room.enums; classes = kept.room.classes; exceptions = kept.room.exceptions; interfaces = omega (arith, kept.room.interfaces, length-changed (filled_interface bases ops) t.interfaces at) };
      class_flags = kept.class_flags;
      interface_flags = length-changed (λ _. true) t.defined_interfaces at ∙ kept.interface_flags ∙ sym (length-changed (filled_interface bases ops) t.interfaces at);
      ids = same_ids t after_interface rows_interface (ids_of t kept);
      compact = compact_of t kept;
      seqs = all_old t.seqs (λ q. SeqFits t q.element);
      dicts = all_old t.dicts (λ d. DictFits t d.key d.value);
      structs = all_old t.structs (λ d. StructFits t d.members);
      enums = all_old t.enums (λ e. EnumFits e.entries);
      classes = all_old t.classes (λ c. ClassFits t c.base c.members);
      exceptions = all_old t.exceptions (λ e. ExceptionFits t e.base e.members);
      interfaces = λ place c e. elim (where_from (filled_interface bases ops) t.interfaces at place c e) [
        | inl old ↦ inl old.1
        | inr new ↦ inr (subst (λ (c : InterfaceDecl). InterfaceFits t c.bases c.ops) new.1.2 fits)
      ];
      class_bases = kept.class_bases;
      exception_bases = kept.exception_bases;
    }

module _ (t : Tables) (beside : Beside) (kept : IsKept t beside) (at : ℕ) (bases : List ℕ) (ops : List OpDecl) (there : at < length t.interfaces) (not_yet : is_defined t.defined_interfaces at ≡ false)
    (fits : InterfaceFits t bases ops) (paths : ℕ) (over : paths ≡ paths_over t bases) where
  counts_interface : (place : ℕ) (n : Option ℕ) → slice_get (changed (λ _. Some paths) beside.interfaces at) place ≡ Some n → unwrap_or n 0 ≡ paths_of (define_interface t at bases ops) 1001 place
  counts_interface place n e = elim (where_from (λ _. Some paths) beside.interfaces at place n e) [
    | inl old ↦ kept.interfaces place n old.1 ∙ paths_stay t at bases ops kept.rules there not_yet fits 1001 place old.0
    | inr new ↦ subst (λ (place : ℕ). unwrap_or n 0 ≡ paths_of (define_interface t at bases ops) 1001 place) (sym new.0)
        (subst (λ (n : Option ℕ). unwrap_or n 0 ≡ paths_of (define_interface t at bases ops) 1001 at) new.1.2 (over ∙ paths_here t at bases ops kept.rules there not_yet fits))
  ]

  kept_interface : IsKept (define_interface t at bases ops) (record beside { interfaces = changed (λ _. Some paths) beside.interfaces at })
  kept_interface =
      let same = measured_kept t (define_interface t at bases ops) (types_interface t at bases ops) beside kept in record {
        rules = schema_interface t at bases ops kept.rules there not_yet fits;
        seqs = same.seqs refl;
        dicts = same.dicts refl;
        structs = same.structs refl;
        enums = same.enums refl;
        class_flags = kept.class_flags;
        interface_flags = ap (λ (flags : List Bool). changed (λ _. true) flags at) kept.interface_flags ∙ sym (map-changed is_some (λ _. Some paths) (λ _. true) (λ x. refl) beside.interfaces at);
        exceptions_beside = kept.exceptions_beside;
        classes = kept.classes;
        exceptions = kept.exceptions;
        interfaces = counts_interface;
      }

-- the tables that contracts see then
pub view_interface : (old : TableRows) (decls : List InterfaceDecl) (beside : List (Option ℕ)) (t : Tables) → tables_of old ≡ t → (at : ℕ) (bases : List ℕ) (ops : List OpDecl) (paths : ℕ) → decls ≡ changed (filled_interface bases ops) old.interfaces.decls at → beside ≡ slice_set old.interfaces.beside at (Some paths)
    → define_interface t at bases ops ≡ tables_of (record old { interfaces = record { decls = decls; beside = beside } })
view_interface old decls beside t view_is at bases ops paths row count =
    let flags : map is_some beside ≡ changed (λ _. true) (map is_some old.interfaces.beside) at =
    ap (map is_some) (count ∙ set_to old.interfaces.beside at (Some paths)) ∙ map-changed is_some (λ _. Some paths) (λ _. true) (λ x. refl) old.interfaces.beside at in
    rw (row, flags, ← view_is) refl

-- the same of a schema's fields, where contracts see them as these tables
pub defined_interface : (old : TableRows) (decls : List InterfaceDecl) (beside : List (Option ℕ)) (t : Tables) (row_of : List ℕ → Option RowRef) → IsHeld (tables_of old) (beside_of old) row_of → tables_of old ≡ t
    → (at : ℕ) (bases : List ℕ) (ops : List OpDecl) (paths : ℕ) → decls ≡ changed (filled_interface bases ops) old.interfaces.decls at → beside ≡ slice_set old.interfaces.beside at (Some paths)
    → at < length t.interfaces → is_defined t.defined_interfaces at ≡ false → InterfaceFits t bases ops → paths ≡ paths_over t bases
    → IsHeld (tables_of (record old { interfaces = record { decls = decls; beside = beside } })) (beside_of (record old { interfaces = record { decls = decls; beside = beside } })) row_of
defined_interface old decls beside t row_of held view_is at bases ops paths row count there not_yet fits over =
    let was : IsHeld t (beside_of old) row_of = subst (λ (t : Tables). IsHeld t (beside_of old) row_of) view_is held in
    let now : changed (λ _. Some paths) old.interfaces.beside at ≡ beside = sym (count ∙ set_to old.interfaces.beside at (Some paths)) in
    subst (λ (u : Tables). IsHeld u (beside_of (record old { interfaces = record { decls = decls; beside = beside } })) row_of) (view_interface old decls beside t view_is at bases ops paths row count)
    (subst (λ (counts : List (Option ℕ)). IsHeld (define_interface t at bases ops) (record (beside_of old) { interfaces = counts }) row_of) now (record {
      kept = kept_interface t (beside_of old) was.kept at bases ops there not_yet fits paths over;
      far_bases = was.far_bases;
      found = same_found t (define_interface t at bases ops) (rows_interface t at bases ops) row_of was.found;
    }))
