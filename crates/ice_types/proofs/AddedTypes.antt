-- What a schema keeps when a sequence, a dictionary, a struct or an enum is added.
use Rattle.std.proofs.Common.{◌≡◌, ℕ, ◌+◌, ◌<◌, cond, List, [], ◌∷◌, ◌++◌, length, Option, Some, refl, sym, ap, subst, ◌∙◌, arith, inl, inr, ◌⊎◌, bytes_eq}
use Rattle.std.proofs.lemmas.List.{length-append, length-map}
use Rattle.ice_types.specs.declared.declarations.SeqDecl.{SeqDecl}
use Rattle.ice_types.specs.declared.declarations.DictDecl.{DictDecl}
use Rattle.ice_types.specs.declared.declarations.StructDecl.{StructDecl}
use Rattle.ice_types.specs.declared.declarations.EnumDecl.{EnumDecl}
use Rattle.ice_types.specs.declared.kind.RowRef.{RowRef}
use Rattle.ice_types.specs.declared.kind.RowRef.TheVariants as rows
use Rattle.ice_types.specs.declared.kind.TypeRef.TheVariants as kinds
use Rattle.ice_types.specs.declared.measure.Measure.{Measure}
use Rattle.ice_types.specs.declared.rows.Rows.{Rows}
use Rattle.ice_types.specs.declared.rows.TableRows.{TableRows}
use Rattle.ice_types.specs.Tables.{Tables, with_seq, with_dict, with_struct, with_enum, IsTypeId, IsNewId, row_ids, row_at, seq_ids, dict_ids, struct_ids, enum_ids}
use Rattle.ice_types.specs.Measures.{measure, measure_members, sequence_of, dictionary_of, struct_of, enumeration}
use Rattle.ice_types.specs.Fits.{SeqFits, DictFits, StructFits, EnumFits, ClassFits, ExceptionFits, InterfaceFits, small_members}
use Rattle.ice_types.specs.Rules.{Beside, IsSchema, IsKept}
use Rattle.ice_types.specs.Kept.{tables_of, beside_of}
use Rattle.ice_types.specs.Ids.{IsHeld}
use Rattle.ice_types.proofs.Items.{slice_get-front, slice_get-last}
use Rattle.ice_types.proofs.Levels.{Keeps, measure_kept, members_kept}
use Rattle.ice_types.proofs.Said.{seq_says, dict_says, struct_says, enum_says, no_seq, no_dict, no_struct, no_enum, of_seqs_says, of_dicts_says, of_structs_says, of_enums_says, are_pushed}
use Rattle.ice_types.proofs.Staying.{Grows}
use Rattle.ice_types.proofs.RowIds.{IsLast, ids_of, ids_more, id_last, found_more}
use Rattle.ice_types.proofs.CompactIds.{compact_of}
use Rattle.ice_types.proofs.Grown.{all_old, one_new, IsSchema-grown}
use Rattle.ice_types.proofs.StructSizes.{small_fits}
use Rattle.ice_types.proofs.Measured.{measured_kept}

-- ---- a sequence

last_seq : (t : Tables) (new : SeqDecl) → IsLast t (with_seq t new) new.id (rows.Seq (length t.seqs))
last_seq t new = record { ids = more; at = sym (length-map t.seqs (λ x. x.id)); others = others }
  where
    more : seq_ids (with_seq t new) ≡ seq_ids t ++ new.id ∷ []
    more = id_last (λ x. x.id) t.seqs new

    others : (row : RowRef) → (row_ids (with_seq t new) row ≡ row_ids t row) ⊎ ((row_ids (with_seq t new) row ≡ row_ids t row ++ new.id ∷ []) × (row_at row ≡ length (row_ids t row) → row ≡ rows.Seq (length t.seqs)))
    others (rows.Seq at) = inr (more, λ end. ap rows.Seq (end ∙ length-map t.seqs (λ x. x.id)))
    others (rows.Dict at) = inl refl
    others (rows.Struct at) = inl refl
    others (rows.Enum at) = inl refl
    others (rows.Class at) = inl refl
    others (rows.Exception at) = inl refl
    others (rows.Interface at) = inl refl

types_seq : (t : Tables) (new : SeqDecl) → Keeps t (with_seq t new)
types_seq t new = record {
  seqs = λ at x. slice_get-front t.seqs (new ∷ []) at x;
  dicts = λ at x e. e;
  structs = λ at x e. e;
  enums = λ at x e. e;
  classes = λ at x e. (x, e);
  interfaces = λ at x e. (x, e);
}

grows_seq : (t : Tables) (new : SeqDecl) → Grows t (with_seq t new)
grows_seq t new = record { types = types_seq t new; classes = λ at h. h; interfaces = λ at h. h; exceptions = omega arith; paths = λ at h. refl }

schema_seq : (t : Tables) (new : SeqDecl) → IsSchema t → length t.seqs + 1 < 100000000 → IsTypeId new.id → IsNewId t new.id → SeqFits t new.element → IsSchema (with_seq t new)
schema_seq t new kept room type_id lacks fits = IsSchema-grown t (with_seq t new) kept record {
  grows = grows_seq t new;
  room = record { seqs = omega (arith, length-append t.seqs (new ∷ [])); dicts = kept.room.dicts; structs = kept.room.structs; enums = kept.room.enums; classes = kept.room.classes; exceptions = kept.room.exceptions; interfaces = kept.room.interfaces };
  class_flags = kept.class_flags;
  interface_flags = kept.interface_flags;
  ids = ids_more t (with_seq t new) new.id (rows.Seq (length t.seqs)) (last_seq t new) (ids_of t kept) type_id lacks;
  compact = compact_of t kept;
  seqs = one_new t.seqs (λ q. SeqFits t q.element) new fits;
  dicts = all_old t.dicts (λ d. DictFits t d.key d.value);
  structs = all_old t.structs (λ d. StructFits t d.members);
  enums = all_old t.enums (λ e. EnumFits e.entries);
  classes = all_old t.classes (λ c. ClassFits t c.base c.members);
  exceptions = all_old t.exceptions (λ e. ExceptionFits t e.base e.members);
  interfaces = all_old t.interfaces (λ i. InterfaceFits t i.bases i.ops);
  class_bases = kept.class_bases;
  exception_bases = kept.exception_bases;
}

kept_seq : (t : Tables) (beside : Beside) → IsKept t beside → (new : SeqDecl) (m : Measure) → length t.seqs + 1 < 100000000 → IsTypeId new.id → IsNewId t new.id → SeqFits t new.element
    → Some m ≡ sequence_of (measure t 99 new.element) → IsKept (with_seq t new) (record beside { seqs = beside.seqs ++ m ∷ [] })
kept_seq t beside kept new m room type_id lacks fits is =
    let u = with_seq t new in
    let types = types_seq t new in
    let stays : measure u 99 new.element ≡ Some fits.0 = measure_kept t u types 99 new.element fits.0 fits.1 in
    let says : sequence_of (measure u 99 new.element) ≡ Some m = ap sequence_of (stays ∙ sym fits.1) ∙ sym is in
    let same = measured_kept t u types beside kept in record {
      rules = schema_seq t new kept.rules room type_id lacks fits;
      seqs = are_pushed t.seqs beside.seqs (λ at. measure t 100 (kinds.Seq at)) (λ at. measure u 100 (kinds.Seq at)) (of_seqs_says t kept.rules) kept.seqs
          (λ at. measure_kept t u types 100 (kinds.Seq at)) new m (seq_says u 99 (length t.seqs) new m (slice_get-last t.seqs new) says) (no_seq u 100);
      dicts = same.dicts refl;
      structs = same.structs refl;
      enums = same.enums refl;
      class_flags = kept.class_flags;
      interface_flags = kept.interface_flags;
      exceptions_beside = kept.exceptions_beside;
      classes = kept.classes;
      exceptions = kept.exceptions;
      interfaces = kept.interfaces;
    }

-- the tables that contracts see then
pub view_seq : (old : TableRows) (after : Rows SeqDecl Measure) (t : Tables) → tables_of old ≡ t → (new : SeqDecl) → after.decls ≡ old.seqs.decls ++ new ∷ [] → with_seq t new ≡ tables_of (record old { seqs = after })
view_seq old after t view_is new row = rw (row, ← view_is) refl

-- the same of a schema's fields, where contracts see them as these tables
pub added_seq : (old : TableRows) (after : Rows SeqDecl Measure) (t : Tables) (row_of now : List ℕ → Option RowRef) → IsHeld (tables_of old) (beside_of old) row_of → tables_of old ≡ t → (new : SeqDecl) (m : Measure)
    → after.decls ≡ old.seqs.decls ++ new ∷ [] → after.beside ≡ old.seqs.beside ++ m ∷ [] → (at : ℕ) → at ≡ length old.seqs.decls → ((id : List ℕ) → now id ≡ cond (bytes_eq new.id id) (Some (rows.Seq at)) (row_of id))
    → length t.seqs + 1 < 100000000 → IsTypeId new.id → IsNewId t new.id → SeqFits t new.element → Some m ≡ sequence_of (measure t 99 new.element) → IsHeld (tables_of (record old { seqs = after })) (beside_of (record old { seqs = after })) now
added_seq old after t row_of now held view_is new m row beside at end put room type_id lacks fits is =
    let pushed = view_seq old after t view_is new row in
    let was : IsHeld t (beside_of old) row_of = subst (λ (t : Tables). IsHeld t (beside_of old) row_of) view_is held in
    rw beside (subst (λ (u : Tables). IsHeld u (record (beside_of old) { seqs = old.seqs.beside ++ m ∷ [] }) now) pushed (record {
      kept = kept_seq t (beside_of old) was.kept new m room type_id lacks fits is;
      far_bases = was.far_bases;
      found = found_more t (with_seq t new) new.id (rows.Seq (length t.seqs)) (last_seq t new) row_of now was.found
          (subst (λ (at : ℕ). (id : List ℕ) → now id ≡ cond (bytes_eq new.id id) (Some (rows.Seq at)) (row_of id)) (end ∙ ap (λ (t : Tables). length t.seqs) view_is) put);
    }))

-- ---- a dictionary

last_dict : (t : Tables) (new : DictDecl) → IsLast t (with_dict t new) new.id (rows.Dict (length t.dicts))
last_dict t new = record { ids = more; at = sym (length-map t.dicts (λ x. x.id)); others = others }
  where
    more : dict_ids (with_dict t new) ≡ dict_ids t ++ new.id ∷ []
    more = id_last (λ x. x.id) t.dicts new

    others : (row : RowRef) → (row_ids (with_dict t new) row ≡ row_ids t row) ⊎ ((row_ids (with_dict t new) row ≡ row_ids t row ++ new.id ∷ []) × (row_at row ≡ length (row_ids t row) → row ≡ rows.Dict (length t.dicts)))
    others (rows.Seq at) = inl refl
    others (rows.Dict at) = inr (more, λ end. ap rows.Dict (end ∙ length-map t.dicts (λ x. x.id)))
    others (rows.Struct at) = inl refl
    others (rows.Enum at) = inl refl
    others (rows.Class at) = inl refl
    others (rows.Exception at) = inl refl
    others (rows.Interface at) = inl refl

types_dict : (t : Tables) (new : DictDecl) → Keeps t (with_dict t new)
types_dict t new = record {
  seqs = λ at x e. e;
  dicts = λ at x. slice_get-front t.dicts (new ∷ []) at x;
  structs = λ at x e. e;
  enums = λ at x e. e;
  classes = λ at x e. (x, e);
  interfaces = λ at x e. (x, e);
}

grows_dict : (t : Tables) (new : DictDecl) → Grows t (with_dict t new)
grows_dict t new = record { types = types_dict t new; classes = λ at h. h; interfaces = λ at h. h; exceptions = omega arith; paths = λ at h. refl }

schema_dict : (t : Tables) (new : DictDecl) → IsSchema t → length t.dicts + 1 < 100000000 → IsTypeId new.id → IsNewId t new.id → DictFits t new.key new.value → IsSchema (with_dict t new)
schema_dict t new kept room type_id lacks fits = IsSchema-grown t (with_dict t new) kept record {
  grows = grows_dict t new;
  room = record { seqs = kept.room.seqs; dicts = omega (arith, length-append t.dicts (new ∷ [])); structs = kept.room.structs; enums = kept.room.enums; classes = kept.room.classes; exceptions = kept.room.exceptions; interfaces = kept.room.interfaces };
  class_flags = kept.class_flags;
  interface_flags = kept.interface_flags;
  ids = ids_more t (with_dict t new) new.id (rows.Dict (length t.dicts)) (last_dict t new) (ids_of t kept) type_id lacks;
  compact = compact_of t kept;
  seqs = all_old t.seqs (λ q. SeqFits t q.element);
  dicts = one_new t.dicts (λ d. DictFits t d.key d.value) new fits;
  structs = all_old t.structs (λ d. StructFits t d.members);
  enums = all_old t.enums (λ e. EnumFits e.entries);
  classes = all_old t.classes (λ c. ClassFits t c.base c.members);
  exceptions = all_old t.exceptions (λ e. ExceptionFits t e.base e.members);
  interfaces = all_old t.interfaces (λ i. InterfaceFits t i.bases i.ops);
  class_bases = kept.class_bases;
  exception_bases = kept.exception_bases;
}

kept_dict : (t : Tables) (beside : Beside) → IsKept t beside → (new : DictDecl) (m : Measure) → length t.dicts + 1 < 100000000 → IsTypeId new.id → IsNewId t new.id → DictFits t new.key new.value
    → Some m ≡ dictionary_of (measure t 98 new.key) (measure t 98 new.value) → IsKept (with_dict t new) (record beside { dicts = beside.dicts ++ m ∷ [] })
kept_dict t beside kept new m room type_id lacks fits is =
    let u = with_dict t new in
    let types = types_dict t new in
    let key : measure u 98 new.key ≡ measure t 98 new.key = measure_kept t u types 98 new.key fits.0 fits.2 ∙ sym fits.2 in
    let value : measure u 98 new.value ≡ measure t 98 new.value = measure_kept t u types 98 new.value fits.1 fits.4 ∙ sym fits.4 in
    let says : dictionary_of (measure u 98 new.key) (measure u 98 new.value) ≡ Some m = rw (key, value) (sym is) in
    let same = measured_kept t u types beside kept in record {
      rules = schema_dict t new kept.rules room type_id lacks fits;
      seqs = same.seqs refl;
      dicts = are_pushed t.dicts beside.dicts (λ at. measure t 100 (kinds.Dict at)) (λ at. measure u 100 (kinds.Dict at)) (of_dicts_says t kept.rules) kept.dicts
          (λ at. measure_kept t u types 100 (kinds.Dict at)) new m (dict_says u 98 (length t.dicts) new m (slice_get-last t.dicts new) says) (no_dict u 100);
      structs = same.structs refl;
      enums = same.enums refl;
      class_flags = kept.class_flags;
      interface_flags = kept.interface_flags;
      exceptions_beside = kept.exceptions_beside;
      classes = kept.classes;
      exceptions = kept.exceptions;
      interfaces = kept.interfaces;
    }

-- the tables that contracts see then
pub view_dict : (old : TableRows) (after : Rows DictDecl Measure) (t : Tables) → tables_of old ≡ t → (new : DictDecl) → after.decls ≡ old.dicts.decls ++ new ∷ [] → with_dict t new ≡ tables_of (record old { dicts = after })
view_dict old after t view_is new row = rw (row, ← view_is) refl

-- the same of a schema's fields, where contracts see them as these tables
pub added_dict : (old : TableRows) (after : Rows DictDecl Measure) (t : Tables) (row_of now : List ℕ → Option RowRef) → IsHeld (tables_of old) (beside_of old) row_of → tables_of old ≡ t → (new : DictDecl) (m : Measure)
    → after.decls ≡ old.dicts.decls ++ new ∷ [] → after.beside ≡ old.dicts.beside ++ m ∷ [] → (at : ℕ) → at ≡ length old.dicts.decls → ((id : List ℕ) → now id ≡ cond (bytes_eq new.id id) (Some (rows.Dict at)) (row_of id))
    → length t.dicts + 1 < 100000000 → IsTypeId new.id → IsNewId t new.id → DictFits t new.key new.value → Some m ≡ dictionary_of (measure t 98 new.key) (measure t 98 new.value) → IsHeld (tables_of (record old { dicts = after })) (beside_of (record old { dicts = after })) now
added_dict old after t row_of now held view_is new m row beside at end put room type_id lacks fits is =
    let pushed = view_dict old after t view_is new row in
    let was : IsHeld t (beside_of old) row_of = subst (λ (t : Tables). IsHeld t (beside_of old) row_of) view_is held in
    rw beside (subst (λ (u : Tables). IsHeld u (record (beside_of old) { dicts = old.dicts.beside ++ m ∷ [] }) now) pushed (record {
      kept = kept_dict t (beside_of old) was.kept new m room type_id lacks fits is;
      far_bases = was.far_bases;
      found = found_more t (with_dict t new) new.id (rows.Dict (length t.dicts)) (last_dict t new) row_of now was.found
          (subst (λ (at : ℕ). (id : List ℕ) → now id ≡ cond (bytes_eq new.id id) (Some (rows.Dict at)) (row_of id)) (end ∙ ap (λ (t : Tables). length t.dicts) view_is) put);
    }))

-- ---- a struct

last_struct : (t : Tables) (new : StructDecl) → IsLast t (with_struct t new) new.id (rows.Struct (length t.structs))
last_struct t new = record { ids = more; at = sym (length-map t.structs (λ x. x.id)); others = others }
  where
    more : struct_ids (with_struct t new) ≡ struct_ids t ++ new.id ∷ []
    more = id_last (λ x. x.id) t.structs new

    others : (row : RowRef) → (row_ids (with_struct t new) row ≡ row_ids t row) ⊎ ((row_ids (with_struct t new) row ≡ row_ids t row ++ new.id ∷ []) × (row_at row ≡ length (row_ids t row) → row ≡ rows.Struct (length t.structs)))
    others (rows.Seq at) = inl refl
    others (rows.Dict at) = inl refl
    others (rows.Struct at) = inr (more, λ end. ap rows.Struct (end ∙ length-map t.structs (λ x. x.id)))
    others (rows.Enum at) = inl refl
    others (rows.Class at) = inl refl
    others (rows.Exception at) = inl refl
    others (rows.Interface at) = inl refl

types_struct : (t : Tables) (new : StructDecl) → Keeps t (with_struct t new)
types_struct t new = record {
  seqs = λ at x e. e;
  dicts = λ at x e. e;
  structs = λ at x. slice_get-front t.structs (new ∷ []) at x;
  enums = λ at x e. e;
  classes = λ at x e. (x, e);
  interfaces = λ at x e. (x, e);
}

grows_struct : (t : Tables) (new : StructDecl) → Grows t (with_struct t new)
grows_struct t new = record { types = types_struct t new; classes = λ at h. h; interfaces = λ at h. h; exceptions = omega arith; paths = λ at h. refl }

schema_struct : (t : Tables) (new : StructDecl) → IsSchema t → length t.structs + 1 < 100000000 → IsTypeId new.id → IsNewId t new.id → StructFits t new.members → IsSchema (with_struct t new)
schema_struct t new kept room type_id lacks fits = IsSchema-grown t (with_struct t new) kept record {
  grows = grows_struct t new;
  room = record { seqs = kept.room.seqs; dicts = kept.room.dicts; structs = omega (arith, length-append t.structs (new ∷ [])); enums = kept.room.enums; classes = kept.room.classes; exceptions = kept.room.exceptions; interfaces = kept.room.interfaces };
  class_flags = kept.class_flags;
  interface_flags = kept.interface_flags;
  ids = ids_more t (with_struct t new) new.id (rows.Struct (length t.structs)) (last_struct t new) (ids_of t kept) type_id lacks;
  compact = compact_of t kept;
  seqs = all_old t.seqs (λ q. SeqFits t q.element);
  dicts = all_old t.dicts (λ d. DictFits t d.key d.value);
  structs = one_new t.structs (λ d. StructFits t d.members) new fits;
  enums = all_old t.enums (λ e. EnumFits e.entries);
  classes = all_old t.classes (λ c. ClassFits t c.base c.members);
  exceptions = all_old t.exceptions (λ e. ExceptionFits t e.base e.members);
  interfaces = all_old t.interfaces (λ i. InterfaceFits t i.bases i.ops);
  class_bases = kept.class_bases;
  exception_bases = kept.exception_bases;
}

kept_struct : (t : Tables) (beside : Beside) → IsKept t beside → (new : StructDecl) (m : Measure) → length t.structs + 1 < 100000000 → IsTypeId new.id → IsNewId t new.id → StructFits t new.members
    → Some m ≡ struct_of (small_members t new.members) → IsKept (with_struct t new) (record beside { structs = beside.structs ++ m ∷ [] })
kept_struct t beside kept new m room type_id lacks fits is =
    let u = with_struct t new in
    let types = types_struct t new in
    let stays : measure_members (measure u 99) new.members ≡ Some fits.0 = members_kept t u types 99 new.members fits.0 fits.1 in
    let says : struct_of (measure_members (measure u 99) new.members) ≡ Some m = ap struct_of (stays ∙ sym (small_fits t new.members fits)) ∙ sym is in
    let same = measured_kept t u types beside kept in record {
      rules = schema_struct t new kept.rules room type_id lacks fits;
      seqs = same.seqs refl;
      dicts = same.dicts refl;
      structs = are_pushed t.structs beside.structs (λ at. measure t 100 (kinds.Struct at)) (λ at. measure u 100 (kinds.Struct at)) (of_structs_says t kept.rules) kept.structs
          (λ at. measure_kept t u types 100 (kinds.Struct at)) new m (struct_says u 99 (length t.structs) new m (slice_get-last t.structs new) says) (no_struct u 100);
      enums = same.enums refl;
      class_flags = kept.class_flags;
      interface_flags = kept.interface_flags;
      exceptions_beside = kept.exceptions_beside;
      classes = kept.classes;
      exceptions = kept.exceptions;
      interfaces = kept.interfaces;
    }

-- the tables that contracts see then
pub view_struct : (old : TableRows) (after : Rows StructDecl Measure) (t : Tables) → tables_of old ≡ t → (new : StructDecl) → after.decls ≡ old.structs.decls ++ new ∷ [] → with_struct t new ≡ tables_of (record old { structs = after })
view_struct old after t view_is new row = rw (row, ← view_is) refl

-- the same of a schema's fields, where contracts see them as these tables
pub added_struct : (old : TableRows) (after : Rows StructDecl Measure) (t : Tables) (row_of now : List ℕ → Option RowRef) → IsHeld (tables_of old) (beside_of old) row_of → tables_of old ≡ t → (new : StructDecl) (m : Measure)
    → after.decls ≡ old.structs.decls ++ new ∷ [] → after.beside ≡ old.structs.beside ++ m ∷ [] → (at : ℕ) → at ≡ length old.structs.decls → ((id : List ℕ) → now id ≡ cond (bytes_eq new.id id) (Some (rows.Struct at)) (row_of id))
    → length t.structs + 1 < 100000000 → IsTypeId new.id → IsNewId t new.id → StructFits t new.members → Some m ≡ struct_of (small_members t new.members) → IsHeld (tables_of (record old { structs = after })) (beside_of (record old { structs = after })) now
added_struct old after t row_of now held view_is new m row beside at end put room type_id lacks fits is =
    let pushed = view_struct old after t view_is new row in
    let was : IsHeld t (beside_of old) row_of = subst (λ (t : Tables). IsHeld t (beside_of old) row_of) view_is held in
    rw beside (subst (λ (u : Tables). IsHeld u (record (beside_of old) { structs = old.structs.beside ++ m ∷ [] }) now) pushed (record {
      kept = kept_struct t (beside_of old) was.kept new m room type_id lacks fits is;
      far_bases = was.far_bases;
      found = found_more t (with_struct t new) new.id (rows.Struct (length t.structs)) (last_struct t new) row_of now was.found
          (subst (λ (at : ℕ). (id : List ℕ) → now id ≡ cond (bytes_eq new.id id) (Some (rows.Struct at)) (row_of id)) (end ∙ ap (λ (t : Tables). length t.structs) view_is) put);
    }))

-- ---- an enum

last_enum : (t : Tables) (new : EnumDecl) → IsLast t (with_enum t new) new.id (rows.Enum (length t.enums))
last_enum t new = record { ids = more; at = sym (length-map t.enums (λ x. x.id)); others = others }
  where
    more : enum_ids (with_enum t new) ≡ enum_ids t ++ new.id ∷ []
    more = id_last (λ x. x.id) t.enums new

    others : (row : RowRef) → (row_ids (with_enum t new) row ≡ row_ids t row) ⊎ ((row_ids (with_enum t new) row ≡ row_ids t row ++ new.id ∷ []) × (row_at row ≡ length (row_ids t row) → row ≡ rows.Enum (length t.enums)))
    others (rows.Seq at) = inl refl
    others (rows.Dict at) = inl refl
    others (rows.Struct at) = inl refl
    others (rows.Enum at) = inr (more, λ end. ap rows.Enum (end ∙ length-map t.enums (λ x. x.id)))
    others (rows.Class at) = inl refl
    others (rows.Exception at) = inl refl
    others (rows.Interface at) = inl refl

types_enum : (t : Tables) (new : EnumDecl) → Keeps t (with_enum t new)
types_enum t new = record {
  seqs = λ at x e. e;
  dicts = λ at x e. e;
  structs = λ at x e. e;
  enums = λ at x. slice_get-front t.enums (new ∷ []) at x;
  classes = λ at x e. (x, e);
  interfaces = λ at x e. (x, e);
}

grows_enum : (t : Tables) (new : EnumDecl) → Grows t (with_enum t new)
grows_enum t new = record { types = types_enum t new; classes = λ at h. h; interfaces = λ at h. h; exceptions = omega arith; paths = λ at h. refl }

schema_enum : (t : Tables) (new : EnumDecl) → IsSchema t → length t.enums + 1 < 100000000 → IsTypeId new.id → IsNewId t new.id → EnumFits new.entries → IsSchema (with_enum t new)
schema_enum t new kept room type_id lacks fits = IsSchema-grown t (with_enum t new) kept record {
  grows = grows_enum t new;
  room = record { seqs = kept.room.seqs; dicts = kept.room.dicts; structs = kept.room.structs; enums = omega (arith, length-append t.enums (new ∷ [])); classes = kept.room.classes; exceptions = kept.room.exceptions; interfaces = kept.room.interfaces };
  class_flags = kept.class_flags;
  interface_flags = kept.interface_flags;
  ids = ids_more t (with_enum t new) new.id (rows.Enum (length t.enums)) (last_enum t new) (ids_of t kept) type_id lacks;
  compact = compact_of t kept;
  seqs = all_old t.seqs (λ q. SeqFits t q.element);
  dicts = all_old t.dicts (λ d. DictFits t d.key d.value);
  structs = all_old t.structs (λ d. StructFits t d.members);
  enums = one_new t.enums (λ e. EnumFits e.entries) new fits;
  classes = all_old t.classes (λ c. ClassFits t c.base c.members);
  exceptions = all_old t.exceptions (λ e. ExceptionFits t e.base e.members);
  interfaces = all_old t.interfaces (λ i. InterfaceFits t i.bases i.ops);
  class_bases = kept.class_bases;
  exception_bases = kept.exception_bases;
}

kept_enum : (t : Tables) (beside : Beside) → IsKept t beside → (new : EnumDecl) (m : Measure) → length t.enums + 1 < 100000000 → IsTypeId new.id → IsNewId t new.id → EnumFits new.entries
    → m ≡ enumeration → IsKept (with_enum t new) (record beside { enums = beside.enums ++ m ∷ [] })
kept_enum t beside kept new m room type_id lacks fits is =
    let u = with_enum t new in
    let types = types_enum t new in
    let same = measured_kept t u types beside kept in record {
      rules = schema_enum t new kept.rules room type_id lacks fits;
      seqs = same.seqs refl;
      dicts = same.dicts refl;
      structs = same.structs refl;
      enums = are_pushed t.enums beside.enums (λ at. measure t 100 (kinds.Enum at)) (λ at. measure u 100 (kinds.Enum at)) (of_enums_says t) kept.enums
          (λ at. measure_kept t u types 100 (kinds.Enum at)) new m (enum_says u 99 (length t.enums) new (slice_get-last t.enums new) ∙ ap Some (sym is)) (no_enum u 100);
      class_flags = kept.class_flags;
      interface_flags = kept.interface_flags;
      exceptions_beside = kept.exceptions_beside;
      classes = kept.classes;
      exceptions = kept.exceptions;
      interfaces = kept.interfaces;
    }

-- the tables that contracts see then
pub view_enum : (old : TableRows) (after : Rows EnumDecl Measure) (t : Tables) → tables_of old ≡ t → (new : EnumDecl) → after.decls ≡ old.enums.decls ++ new ∷ [] → with_enum t new ≡ tables_of (record old { enums = after })
view_enum old after t view_is new row = rw (row, ← view_is) refl

-- the same of a schema's fields, where contracts see them as these tables
pub added_enum : (old : TableRows) (after : Rows EnumDecl Measure) (t : Tables) (row_of now : List ℕ → Option RowRef) → IsHeld (tables_of old) (beside_of old) row_of → tables_of old ≡ t → (new : EnumDecl) (m : Measure)
    → after.decls ≡ old.enums.decls ++ new ∷ [] → after.beside ≡ old.enums.beside ++ m ∷ [] → (at : ℕ) → at ≡ length old.enums.decls → ((id : List ℕ) → now id ≡ cond (bytes_eq new.id id) (Some (rows.Enum at)) (row_of id))
    → length t.enums + 1 < 100000000 → IsTypeId new.id → IsNewId t new.id → EnumFits new.entries → m ≡ enumeration → IsHeld (tables_of (record old { enums = after })) (beside_of (record old { enums = after })) now
added_enum old after t row_of now held view_is new m row beside at end put room type_id lacks fits is =
    let pushed = view_enum old after t view_is new row in
    let was : IsHeld t (beside_of old) row_of = subst (λ (t : Tables). IsHeld t (beside_of old) row_of) view_is held in
    rw beside (subst (λ (u : Tables). IsHeld u (record (beside_of old) { enums = old.enums.beside ++ m ∷ [] }) now) pushed (record {
      kept = kept_enum t (beside_of old) was.kept new m room type_id lacks fits is;
      far_bases = was.far_bases;
      found = found_more t (with_enum t new) new.id (rows.Enum (length t.enums)) (last_enum t new) row_of now was.found
          (subst (λ (at : ℕ). (id : List ℕ) → now id ≡ cond (bytes_eq new.id id) (Some (rows.Enum at)) (row_of id)) (end ∙ ap (λ (t : Tables). length t.enums) view_is) put);
    }))
