-- What a schema keeps when an exception is added, or a class or an interface is declared.
use Rattle.std.proofs.Common.{◌≡◌, ℕ, ◌+◌, ◌<◌, ◌≤◌, Bool, false, cond, List, [], ◌∷◌, ◌++◌, length, map, Option, Some, None, refl, sym, ap, subst, ◌∙◌, arith, inl, inr, ◌⊎◌, bytes_eq}
use Rattle.std.specs.Prelude.{slice_get, is_some, IsTrue, unwrap_or}
use Rattle.std.specs.Option.{option_map}
use Rattle.std.proofs.lemmas.List.{length-append, length-map, map-append}
use Rattle.std.proofs.lemmas.List.Elements.{All-nil}
use Rattle.ice_types.specs.declared.declarations.ExceptionDecl.{ExceptionDecl}
use Rattle.ice_types.specs.declared.declarations.ClassDecl.{ClassDecl}
use Rattle.ice_types.specs.declared.declarations.InterfaceDecl.{InterfaceDecl}
use Rattle.ice_types.specs.declared.kind.RowRef.{RowRef}
use Rattle.ice_types.specs.declared.kind.RowRef.TheVariants as rows
use Rattle.ice_types.specs.declared.rows.Above.{Above}
use Rattle.ice_types.specs.declared.rows.Rows.{Rows}
use Rattle.ice_types.specs.declared.rows.TableRows.{TableRows}
use Rattle.ice_types.specs.Tables.{Tables, with_exception, with_class, with_interface, is_defined, IsTypeId, IsNewId, row_ids, row_at, exception_ids, class_ids, interface_ids}
use Rattle.ice_types.specs.Measures.{paths_of}
use Rattle.ice_types.specs.Fits.{SeqFits, DictFits, StructFits, EnumFits, IsOf, MembersFit, ClassFits, ExceptionFits, OpFits, InterfaceFits}
use Rattle.ice_types.specs.Bases.{HasBases, HasBasesFrom, Lone, class_base, exception_base}
use Rattle.ice_types.specs.Rules.{Beside, IsSchema, IsKept, bases_by, defined}
use Rattle.ice_types.specs.Kept.{tables_of, beside_of}
use Rattle.ice_types.specs.Ids.{AreNumbered, IsHeld}
use Rattle.ice_types.proofs.Items.{slice_get-front, slice_get-push, slice_get-last}
use Rattle.ice_types.proofs.Flags.{flag_front, defined_front}
use Rattle.ice_types.proofs.CompactIds.{compact_of, compact_declared, numbered_declared}
use Rattle.ice_types.proofs.Levels.{Keeps}
use Rattle.ice_types.proofs.Staying.{Grows}
use Rattle.ice_types.proofs.BaseChains.{mapped_front, bases_grow, based_on, all_counted}
use Rattle.ice_types.proofs.BasePaths.{bases_front, no_paths, no_bases, same_paths}
use Rattle.ice_types.proofs.RowIds.{IsLast, ids_of, ids_more, id_last, found_more}
use Rattle.ice_types.proofs.Grown.{all_old, one_new, IsSchema-grown}
use Rattle.ice_types.proofs.Measured.{measured_kept}
use Rattle.ice_types.proofs.FarBases.{far_declared}

-- ---- an exception

last_exception : (t : Tables) (new : ExceptionDecl) → IsLast t (with_exception t new) new.id (rows.Exception (length t.exceptions))
last_exception t new = record { ids = more; at = sym (length-map t.exceptions (λ x. x.id)); others = others }
  where
    more : exception_ids (with_exception t new) ≡ exception_ids t ++ new.id ∷ []
    more = id_last (λ x. x.id) t.exceptions new

    others : (row : RowRef) → (row_ids (with_exception t new) row ≡ row_ids t row) ⊎ ((row_ids (with_exception t new) row ≡ row_ids t row ++ new.id ∷ []) × (row_at row ≡ length (row_ids t row) → row ≡ rows.Exception (length t.exceptions)))
    others (rows.Seq at) = inl refl
    others (rows.Dict at) = inl refl
    others (rows.Struct at) = inl refl
    others (rows.Enum at) = inl refl
    others (rows.Class at) = inl refl
    others (rows.Exception at) = inr (more, λ end. ap rows.Exception (end ∙ length-map t.exceptions (λ x. x.id)))
    others (rows.Interface at) = inl refl

types_exception : (t : Tables) (new : ExceptionDecl) → Keeps t (with_exception t new)
types_exception t new = record {
  seqs = λ at x e. e;
  dicts = λ at x e. e;
  structs = λ at x e. e;
  enums = λ at x e. e;
  classes = λ at x e. (x, e);
  interfaces = λ at x e. (x, e);
}

grows_exception : (t : Tables) (new : ExceptionDecl) → Grows t (with_exception t new)
grows_exception t new = record { types = types_exception t new; classes = λ at h. h; interfaces = λ at h. h; exceptions = omega (arith, length-append t.exceptions (new ∷ [])); paths = λ at h. refl }

schema_exception : (t : Tables) (new : ExceptionDecl) → IsSchema t → length t.exceptions + 1 < 100000000 → IsTypeId new.id → IsNewId t new.id → ExceptionFits t new.base new.members → ((at : ℕ) → at < length (with_exception t new).exceptions → (bases : ℕ) × HasBases (exception_base (with_exception t new)) at bases) → IsSchema (with_exception t new)
schema_exception t new kept room type_id lacks fits counted = IsSchema-grown t (with_exception t new) kept record {
  grows = grows_exception t new;
  room = record { seqs = kept.room.seqs; dicts = kept.room.dicts; structs = kept.room.structs; enums = kept.room.enums; classes = kept.room.classes; exceptions = omega (arith, length-append t.exceptions (new ∷ [])); interfaces = kept.room.interfaces };
  class_flags = kept.class_flags;
  interface_flags = kept.interface_flags;
  ids = ids_more t (with_exception t new) new.id (rows.Exception (length t.exceptions)) (last_exception t new) (ids_of t kept) type_id lacks;
  compact = compact_of t kept;
  seqs = all_old t.seqs (λ q. SeqFits t q.element);
  dicts = all_old t.dicts (λ d. DictFits t d.key d.value);
  structs = all_old t.structs (λ d. StructFits t d.members);
  enums = all_old t.enums (λ e. EnumFits e.entries);
  classes = all_old t.classes (λ c. ClassFits t c.base c.members);
  exceptions = one_new t.exceptions (λ e. ExceptionFits t e.base e.members) new fits;
  interfaces = all_old t.interfaces (λ i. InterfaceFits t i.bases i.ops);
  class_bases = kept.class_bases;
  exception_bases = counted;
}

module _ (t : Tables) (beside : Beside) (kept : IsKept t beside) (new : ExceptionDecl) (bases : ℕ) (from : HasBasesFrom (exception_base t) new.base bases) (most : bases ≤ length t.exceptions) where
  counts_exception : (at n : ℕ) → slice_get (beside.exceptions ++ bases ∷ []) at ≡ Some n → HasBases (exception_base (with_exception t new)) at n × (n ≤ at)
  counts_exception at n e = elim (slice_get-push beside.exceptions bases at n e) [
    | inl there ↦ let was = kept.exceptions at n there in (grow at n was.0, was.1)
    | inr last ↦ let place : at ≡ length t.exceptions = last.0 ∙ kept.exceptions_beside in (
      subst (λ (place : ℕ). HasBases (exception_base (with_exception t new)) place n) (sym place) (subst (HasBases (exception_base (with_exception t new)) (length t.exceptions)) last.1
          (based_on (exception_base t) (exception_base (with_exception t new)) (length t.exceptions) bases new.base (λ over others is. grow over others) (ap (option_map (λ x. x.base)) (slice_get-last t.exceptions new)) from)),
      omega (arith, most, place, last.1),
    )
  ]
    where
      grow : (at n : ℕ) → HasBases (exception_base t) at n → HasBases (exception_base (with_exception t new)) at n
      grow = bases_grow (exception_base t) (exception_base (with_exception t new)) (mapped_front (λ x. x.base) t.exceptions (new ∷ []))

  kept_exception : length t.exceptions + 1 < 100000000 → IsTypeId new.id → IsNewId t new.id → ExceptionFits t new.base new.members → IsKept (with_exception t new) (record beside { exceptions = beside.exceptions ++ bases ∷ [] })
  kept_exception room type_id lacks fits =
      let same = measured_kept t (with_exception t new) (types_exception t new) beside kept in
      let beside_them : length (beside.exceptions ++ bases ∷ []) ≡ length (t.exceptions ++ new ∷ []) = omega (arith, length-append beside.exceptions (bases ∷ []), length-append t.exceptions (new ∷ []), kept.exceptions_beside) in record {
        rules = schema_exception t new kept.rules room type_id lacks fits
            (all_counted (t.exceptions ++ new ∷ []) (beside.exceptions ++ bases ∷ []) (λ n. n) (exception_base (with_exception t new)) beside_them (λ at n e. (counts_exception at n e).0));
        seqs = same.seqs refl;
        dicts = same.dicts refl;
        structs = same.structs refl;
        enums = same.enums refl;
        class_flags = kept.class_flags;
        interface_flags = kept.interface_flags;
        exceptions_beside = beside_them;
        classes = kept.classes;
        exceptions = counts_exception;
        interfaces = kept.interfaces;
      }

-- the tables that contracts see then
pub view_exception : (old : TableRows) (after : Rows ExceptionDecl ℕ) (t : Tables) → tables_of old ≡ t → (new : ExceptionDecl) → after.decls ≡ old.exceptions.decls ++ new ∷ [] → with_exception t new ≡ tables_of (record old { exceptions = after })
view_exception old after t view_is new row = rw (row, ← view_is) refl

-- the same of a schema's fields, where contracts see them as these tables
pub added_exception : (old : TableRows) (after : Rows ExceptionDecl ℕ) (t : Tables) (row_of now : List ℕ → Option RowRef) → IsHeld (tables_of old) (beside_of old) row_of → tables_of old ≡ t → (new : ExceptionDecl) (bases : ℕ)
    → after.decls ≡ old.exceptions.decls ++ new ∷ [] → after.beside ≡ old.exceptions.beside ++ bases ∷ [] → (at : ℕ) → at ≡ length old.exceptions.decls
    → ((id : List ℕ) → now id ≡ cond (bytes_eq new.id id) (Some (rows.Exception at)) (row_of id))
    → length t.exceptions + 1 < 100000000 → IsTypeId new.id → IsNewId t new.id → ExceptionFits t new.base new.members → HasBasesFrom (exception_base t) new.base bases → bases ≤ length t.exceptions
    → IsHeld (tables_of (record old { exceptions = after })) (beside_of (record old { exceptions = after })) now
added_exception old after t row_of now held view_is new bases row beside at end put room type_id lacks fits from most =
    let pushed = view_exception old after t view_is new row in
    let was : IsHeld t (beside_of old) row_of = subst (λ (t : Tables). IsHeld t (beside_of old) row_of) view_is held in
    rw beside (subst (λ (u : Tables). IsHeld u (record (beside_of old) { exceptions = old.exceptions.beside ++ bases ∷ [] }) now) pushed (record {
      kept = kept_exception t (beside_of old) was.kept new bases from most room type_id lacks fits;
      far_bases = was.far_bases;
      found = found_more t (with_exception t new) new.id (rows.Exception (length t.exceptions)) (last_exception t new) row_of now was.found
          (subst (λ (at : ℕ). (id : List ℕ) → now id ≡ cond (bytes_eq new.id id) (Some (rows.Exception at)) (row_of id)) (end ∙ ap (λ (t : Tables). length t.exceptions) view_is) put);
    }))

-- ---- a class that is only declared

no_members_fit : (t : Tables) → MembersFit t []
no_members_fit t = (All-nil (λ m. IsOf t m.kind), tt, (All-nil (λ n. n ≤ 2147483647), tt))

abbrev pub new_class : List ℕ → ClassDecl
new_class id = record { id = id; base = None; compact = None; members = [] }

last_class : (t : Tables) (id : List ℕ) → IsLast t (with_class t id) id (rows.Class (length t.classes))
last_class t id = record { ids = more; at = sym (length-map t.classes (λ x. x.id)); others = others }
  where
    more : class_ids (with_class t id) ≡ class_ids t ++ id ∷ []
    more = id_last (λ x. x.id) t.classes (new_class id)

    others : (row : RowRef) → (row_ids (with_class t id) row ≡ row_ids t row) ⊎ ((row_ids (with_class t id) row ≡ row_ids t row ++ id ∷ []) × (row_at row ≡ length (row_ids t row) → row ≡ rows.Class (length t.classes)))
    others (rows.Seq at) = inl refl
    others (rows.Dict at) = inl refl
    others (rows.Struct at) = inl refl
    others (rows.Enum at) = inl refl
    others (rows.Class at) = inr (more, λ end. ap rows.Class (end ∙ length-map t.classes (λ x. x.id)))
    others (rows.Exception at) = inl refl
    others (rows.Interface at) = inl refl

types_class : (t : Tables) (id : List ℕ) → Keeps t (with_class t id)
types_class t id = record {
  seqs = λ at x e. e;
  dicts = λ at x e. e;
  structs = λ at x e. e;
  enums = λ at x e. e;
  classes = λ at x e. (x, slice_get-front t.classes (new_class id ∷ []) at x e);
  interfaces = λ at x e. (x, e);
}

grows_class : (t : Tables) (id : List ℕ) → Grows t (with_class t id)
grows_class t id = record { types = types_class t id; classes = flag_front t.defined_classes; interfaces = λ at h. h; exceptions = omega arith; paths = λ at h. refl }

schema_class : (t : Tables) (id : List ℕ) → IsSchema t → length t.classes + 1 < 100000000 → IsTypeId id → IsNewId t id → ((at : ℕ) → at < length (with_class t id).classes → (bases : ℕ) × HasBases (class_base (with_class t id)) at bases) → IsSchema (with_class t id)
schema_class t id kept room type_id lacks counted = IsSchema-grown t (with_class t id) kept record {
  grows = grows_class t id;
  room = record { seqs = kept.room.seqs; dicts = kept.room.dicts; structs = kept.room.structs; enums = kept.room.enums; classes = omega (arith, length-append t.classes (new_class id ∷ [])); exceptions = kept.room.exceptions; interfaces = kept.room.interfaces };
  class_flags = omega (arith, length-append t.defined_classes (false ∷ []), length-append t.classes (new_class id ∷ []), kept.class_flags);
  interface_flags = kept.interface_flags;
  ids = ids_more t (with_class t id) id (rows.Class (length t.classes)) (last_class t id) (ids_of t kept) type_id lacks;
  compact = compact_declared t id (compact_of t kept);
  seqs = all_old t.seqs (λ q. SeqFits t q.element);
  dicts = all_old t.dicts (λ d. DictFits t d.key d.value);
  structs = all_old t.structs (λ d. StructFits t d.members);
  enums = all_old t.enums (λ e. EnumFits e.entries);
  classes = one_new t.classes (λ c. ClassFits t c.base c.members) (new_class id) (tt, no_members_fit t);
  exceptions = all_old t.exceptions (λ e. ExceptionFits t e.base e.members);
  interfaces = all_old t.interfaces (λ i. InterfaceFits t i.bases i.ops);
  class_bases = counted;
  exception_bases = kept.exception_bases;
}

module _ (t : Tables) (beside : Beside) (kept : IsKept t beside) (id : List ℕ) where
  counts_class : (at : ℕ) (n : Option Above) → slice_get (beside.classes ++ None ∷ []) at ≡ Some n → HasBases (class_base (with_class t id)) at (bases_by n) × (bases_by n ≤ defined (t.defined_classes ++ false ∷ []))
  counts_class at n e = elim (slice_get-push beside.classes None at n e) [
    | inl there ↦ let was = kept.classes at n there in
        (bases_grow (class_base t) (class_base (with_class t id)) (mapped_front (λ x. x.base) t.classes (new_class id ∷ [])) at (bases_by n) was.0, omega (arith, was.1, defined_front t.defined_classes))
    | inr last ↦ let place : at ≡ length t.classes = last.0 ∙ sym (length-map beside.classes is_some) ∙ sym (ap length kept.class_flags) ∙ kept.rules.class_flags in (
      subst (λ (place : ℕ). HasBases (class_base (with_class t id)) place (bases_by n)) (sym place) (subst (λ (n : Option Above). HasBases (class_base (with_class t id)) (length t.classes) (bases_by n)) last.1
          (Lone (length t.classes) (ap (option_map (λ x. x.base)) (slice_get-last t.classes (new_class id))))),
      subst (λ (n : Option Above). bases_by n ≤ defined (t.defined_classes ++ false ∷ [])) last.1 (omega arith),
    )
  ]

  kept_class : length t.classes + 1 < 100000000 → IsTypeId id → IsNewId t id → IsKept (with_class t id) (record beside { classes = beside.classes ++ None ∷ [] })
  kept_class room type_id lacks =
      let same = measured_kept t (with_class t id) (types_class t id) beside kept in
      let as_many : length (beside.classes ++ None ∷ []) ≡ length (t.classes ++ new_class id ∷ []) =
      omega (arith, length-append beside.classes (None ∷ []), length-append t.classes (new_class id ∷ []), length-map beside.classes is_some, ap length kept.class_flags, kept.rules.class_flags) in
      record {
        rules = schema_class t id kept.rules room type_id lacks (all_counted (t.classes ++ new_class id ∷ []) (beside.classes ++ None ∷ []) (λ n. bases_by n) (class_base (with_class t id)) as_many (λ at n e. (counts_class at n e).0));
        seqs = same.seqs refl;
        dicts = same.dicts refl;
        structs = same.structs refl;
        enums = same.enums refl;
        class_flags = ap (λ (flags : List Bool). flags ++ false ∷ []) kept.class_flags ∙ sym (map-append is_some beside.classes (None ∷ []));
        interface_flags = kept.interface_flags;
        exceptions_beside = kept.exceptions_beside;
        classes = counts_class;
        exceptions = kept.exceptions;
        interfaces = kept.interfaces;
      }

-- the tables that contracts see then
pub view_class : (old : TableRows) (after : Rows ClassDecl (Option Above)) (t : Tables) → tables_of old ≡ t → (id : List ℕ) → after.decls ≡ old.classes.decls ++ new_class id ∷ [] → after.beside ≡ old.classes.beside ++ None ∷ []
    → with_class t id ≡ tables_of (record old { classes = after })
view_class old after t view_is id row beside =
    let flags : map is_some after.beside ≡ map is_some old.classes.beside ++ false ∷ [] = ap (map is_some) beside ∙ map-append is_some old.classes.beside (None ∷ []) in
    rw (row, flags, ← view_is) refl

-- the same of a schema's fields, where contracts see them as these tables
pub added_class : (old : TableRows) (after : Rows ClassDecl (Option Above)) (t : Tables) (row_of now : List ℕ → Option RowRef) → IsHeld (tables_of old) (beside_of old) row_of → tables_of old ≡ t → (id : List ℕ)
    → after.decls ≡ old.classes.decls ++ new_class id ∷ [] → after.beside ≡ old.classes.beside ++ None ∷ [] → (at : ℕ) → at ≡ length old.classes.decls
    → ((other : List ℕ) → now other ≡ cond (bytes_eq id other) (Some (rows.Class at)) (row_of other))
    → length t.classes + 1 < 100000000 → IsTypeId id → IsNewId t id → IsHeld (tables_of (record old { classes = after })) (beside_of (record old { classes = after })) now
added_class old after t row_of now held view_is id row beside at end put room type_id lacks =
    let was : IsHeld t (beside_of old) row_of = subst (λ (t : Tables). IsHeld t (beside_of old) row_of) view_is held in
    subst (λ (u : Tables). IsHeld u (beside_of (record old { classes = after })) now) (view_class old after t view_is id row beside) (rw beside (record {
      kept = kept_class t (beside_of old) was.kept id room type_id lacks;
      far_bases = far_declared t.classes old.classes.beside (new_class id) refl was.far_bases;
      found = found_more t (with_class t id) id (rows.Class (length t.classes)) (last_class t id) row_of now was.found
          (subst (λ (at : ℕ). (other : List ℕ) → now other ≡ cond (bytes_eq id other) (Some (rows.Class at)) (row_of other)) (end ∙ ap (λ (t : Tables). length t.classes) view_is) put);
    }))

-- and of its compact ids, where there is room for one more
pub numbered_class : (old : TableRows) (after : Rows ClassDecl (Option Above)) (t : Tables) (class_of now : ℕ → Option ℕ) (was_room room : ℕ) → AreNumbered (tables_of old) class_of was_room → tables_of old ≡ t → (id : List ℕ)
    → after.decls ≡ old.classes.decls ++ new_class id ∷ [] → after.beside ≡ old.classes.beside ++ None ∷ [] → (at : ℕ) → at ≡ length old.classes.decls
    → ((number : ℕ) → now number ≡ class_of number) → at + 1 ≤ room → AreNumbered (tables_of (record old { classes = after })) now room
numbered_class old after t class_of now was_room room was view_is id row beside at end same enough =
    subst (λ (u : Tables). AreNumbered u now room) (view_class old after t view_is id row beside)
    (numbered_declared t id class_of now was_room room (subst (λ (u : Tables). AreNumbered u class_of was_room) view_is was) same (omega (arith, enough, end, ap (λ (u : Tables). length u.classes) view_is)))

-- ---- an interface that is only declared

abbrev pub new_interface : List ℕ → InterfaceDecl
new_interface id = record { id = id; bases = []; ops = [] }

last_interface : (t : Tables) (id : List ℕ) → IsLast t (with_interface t id) id (rows.Interface (length t.interfaces))
last_interface t id = record { ids = more; at = sym (length-map t.interfaces (λ x. x.id)); others = others }
  where
    more : interface_ids (with_interface t id) ≡ interface_ids t ++ id ∷ []
    more = id_last (λ x. x.id) t.interfaces (new_interface id)

    others : (row : RowRef) → (row_ids (with_interface t id) row ≡ row_ids t row) ⊎ ((row_ids (with_interface t id) row ≡ row_ids t row ++ id ∷ []) × (row_at row ≡ length (row_ids t row) → row ≡ rows.Interface (length t.interfaces)))
    others (rows.Seq at) = inl refl
    others (rows.Dict at) = inl refl
    others (rows.Struct at) = inl refl
    others (rows.Enum at) = inl refl
    others (rows.Class at) = inl refl
    others (rows.Exception at) = inl refl
    others (rows.Interface at) = inr (more, λ end. ap rows.Interface (end ∙ length-map t.interfaces (λ x. x.id)))

types_interface : (t : Tables) (id : List ℕ) → Keeps t (with_interface t id)
types_interface t id = record {
  seqs = λ at x e. e;
  dicts = λ at x e. e;
  structs = λ at x e. e;
  enums = λ at x e. e;
  classes = λ at x e. (x, e);
  interfaces = λ at x e. (x, slice_get-front t.interfaces (new_interface id ∷ []) at x e);
}

grows_interface : (t : Tables) (id : List ℕ) → Grows t (with_interface t id)
grows_interface t id = record { types = types_interface t id; classes = λ at h. h; interfaces = flag_front t.defined_interfaces; exceptions = omega arith; paths = λ at h. same_paths t.interfaces (t.interfaces ++ new_interface id ∷ []) (bases_front t.interfaces (new_interface id) refl) 1001 at }

schema_interface : (t : Tables) (id : List ℕ) → IsSchema t → length t.interfaces + 1 < 100000000 → IsTypeId id → IsNewId t id → IsSchema (with_interface t id)
schema_interface t id kept room type_id lacks = IsSchema-grown t (with_interface t id) kept record {
  grows = grows_interface t id;
  room = record { seqs = kept.room.seqs; dicts = kept.room.dicts; structs = kept.room.structs; enums = kept.room.enums; classes = kept.room.classes; exceptions = kept.room.exceptions; interfaces = omega (arith, length-append t.interfaces (new_interface id ∷ [])) };
  class_flags = kept.class_flags;
  interface_flags = omega (arith, length-append t.defined_interfaces (false ∷ []), length-append t.interfaces (new_interface id ∷ []), kept.interface_flags);
  ids = ids_more t (with_interface t id) id (rows.Interface (length t.interfaces)) (last_interface t id) (ids_of t kept) type_id lacks;
  compact = compact_of t kept;
  seqs = all_old t.seqs (λ q. SeqFits t q.element);
  dicts = all_old t.dicts (λ d. DictFits t d.key d.value);
  structs = all_old t.structs (λ d. StructFits t d.members);
  enums = all_old t.enums (λ e. EnumFits e.entries);
  classes = all_old t.classes (λ c. ClassFits t c.base c.members);
  exceptions = all_old t.exceptions (λ e. ExceptionFits t e.base e.members);
  interfaces = one_new t.interfaces (λ i. InterfaceFits t i.bases i.ops) (new_interface id) ((All-nil (λ base. IsTrue (is_defined t.defined_interfaces base)), tt, omega arith), All-nil (OpFits t), tt);
  class_bases = kept.class_bases;
  exception_bases = kept.exception_bases;
}

module _ (t : Tables) (beside : Beside) (kept : IsKept t beside) (id : List ℕ) where
  counts_interface : (at : ℕ) (n : Option ℕ) → slice_get (beside.interfaces ++ None ∷ []) at ≡ Some n → unwrap_or n 0 ≡ paths_of (with_interface t id) 1001 at
  counts_interface at n e = elim (slice_get-push beside.interfaces None at n e) [
    | inl there ↦ kept.interfaces at n there ∙ same 1001 at
    | inr last ↦ let place : at ≡ length t.interfaces = last.0 ∙ sym (length-map beside.interfaces is_some) ∙ sym (ap length kept.interface_flags) ∙ kept.rules.interface_flags in
        subst (λ (n : Option ℕ). unwrap_or n 0 ≡ paths_of (with_interface t id) 1001 at) last.1 (no_paths t.interfaces 1001 at (no_bases t.interfaces at (omega (arith, place))) ∙ same 1001 at)
  ]
    where
      same : (levels at : ℕ) → paths_of t levels at ≡ paths_of (with_interface t id) levels at
      same = same_paths t.interfaces (t.interfaces ++ new_interface id ∷ []) (bases_front t.interfaces (new_interface id) refl)

  kept_interface : length t.interfaces + 1 < 100000000 → IsTypeId id → IsNewId t id → IsKept (with_interface t id) (record beside { interfaces = beside.interfaces ++ None ∷ [] })
  kept_interface room type_id lacks =
      let same = measured_kept t (with_interface t id) (types_interface t id) beside kept in
      record {
        rules = schema_interface t id kept.rules room type_id lacks;
        seqs = same.seqs refl;
        dicts = same.dicts refl;
        structs = same.structs refl;
        enums = same.enums refl;
        class_flags = kept.class_flags;
        interface_flags = ap (λ (flags : List Bool). flags ++ false ∷ []) kept.interface_flags ∙ sym (map-append is_some beside.interfaces (None ∷ []));
        exceptions_beside = kept.exceptions_beside;
        classes = kept.classes;
        exceptions = kept.exceptions;
        interfaces = counts_interface;
      }

-- the tables that contracts see then
pub view_interface : (old : TableRows) (after : Rows InterfaceDecl (Option ℕ)) (t : Tables) → tables_of old ≡ t → (id : List ℕ) → after.decls ≡ old.interfaces.decls ++ new_interface id ∷ [] → after.beside ≡ old.interfaces.beside ++ None ∷ []
    → with_interface t id ≡ tables_of (record old { interfaces = after })
view_interface old after t view_is id row beside =
    let flags : map is_some after.beside ≡ map is_some old.interfaces.beside ++ false ∷ [] = ap (map is_some) beside ∙ map-append is_some old.interfaces.beside (None ∷ []) in
    rw (row, flags, ← view_is) refl

-- the same of a schema's fields, where contracts see them as these tables
pub added_interface : (old : TableRows) (after : Rows InterfaceDecl (Option ℕ)) (t : Tables) (row_of now : List ℕ → Option RowRef) → IsHeld (tables_of old) (beside_of old) row_of → tables_of old ≡ t → (id : List ℕ)
    → after.decls ≡ old.interfaces.decls ++ new_interface id ∷ [] → after.beside ≡ old.interfaces.beside ++ None ∷ [] → (at : ℕ) → at ≡ length old.interfaces.decls
    → ((other : List ℕ) → now other ≡ cond (bytes_eq id other) (Some (rows.Interface at)) (row_of other))
    → length t.interfaces + 1 < 100000000 → IsTypeId id → IsNewId t id → IsHeld (tables_of (record old { interfaces = after })) (beside_of (record old { interfaces = after })) now
added_interface old after t row_of now held view_is id row beside at end put room type_id lacks =
    let was : IsHeld t (beside_of old) row_of = subst (λ (t : Tables). IsHeld t (beside_of old) row_of) view_is held in
    subst (λ (u : Tables). IsHeld u (beside_of (record old { interfaces = after })) now) (view_interface old after t view_is id row beside) (rw beside (record {
      kept = kept_interface t (beside_of old) was.kept id room type_id lacks;
      far_bases = was.far_bases;
      found = found_more t (with_interface t id) id (rows.Interface (length t.interfaces)) (last_interface t id) row_of now was.found
          (subst (λ (at : ℕ). (other : List ℕ) → now other ≡ cond (bytes_eq id other) (Some (rows.Interface at)) (row_of other)) (end ∙ ap (λ (t : Tables). length t.interfaces) view_is) put);
    }))
