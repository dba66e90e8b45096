-- Names stand for rows that the tables have, from one declaration to the next.
use Rattle.std.proofs.Common.{◌≡◌, ℕ, zero, suc, ◌≤◌, ◌<◌, List, [], ◌∷◌, ◌++◌, length, Option, Some, None, Result, Ok, Err, refl, ap, arith, length-append}
use Rattle.std.specs.Prelude.{slice_get, max, ◌&&◌}
use Rattle.slice_syntax.specs.declared.tree.Word.{Word}
use Rattle.slice_syntax.specs.declared.tree.Path.{Path}
use Rattle.slice_syntax.specs.declared.tree.Constant.{Constant}
use Rattle.slice_syntax.specs.declared.tree.Field.{Field}
use Rattle.slice_syntax.specs.declared.tree.OpTree.{OpTree}
use Rattle.slice_syntax.specs.declared.tree.Item.{Item}
use Rattle.slice_syntax.specs.declared.tree.Item.TheVariants as items
use Rattle.slice_syntax.specs.Places.{Each, HasNoTags}
use Rattle.ice_types.specs.declared.kind.TypeRef.TheVariants as kinds
use Rattle.ice_types.specs.declared.declarations.SeqDecl.{SeqDecl}
use Rattle.ice_types.specs.declared.declarations.DictDecl.{DictDecl}
use Rattle.ice_types.specs.declared.declarations.StructDecl.{StructDecl}
use Rattle.ice_types.specs.declared.declarations.EnumDecl.{EnumDecl}
use Rattle.ice_types.specs.declared.declarations.ExceptionDecl.{ExceptionDecl}
use Rattle.ice_types.specs.declared.declarations.Member.{Member}
use Rattle.ice_types.specs.declared.declarations.OpDecl.{OpDecl}
use Rattle.ice_types.specs.Tables.{Tables, with_seq, with_dict, with_struct, with_enum, with_class, with_exception, with_interface, changed, define_class, define_interface}
use Rattle.ice_types.specs.Measures.{measure, container, enumeration, reference, structure}
use Rattle.ice_types.specs.Fits.{SeqFits, DictFits, StructFits, IsOf}
use Rattle.ice_types.proofs.Items.{slice_get-front, slice_get-last}
use Rattle.ice_types.proofs.Levels.{Keeps, measure_kept, members_kept}
use Rattle.slice_meaning.specs.declared.standing.Standing.{Standing}
use Rattle.slice_meaning.specs.declared.standing.Standing.TheVariants as standings
use Rattle.slice_meaning.specs.declared.standing.Value.{Value}
use Rattle.slice_meaning.specs.declared.fault.CheckKind.{CheckKind}
use Rattle.slice_meaning.specs.Names.{Scope, Declared}
use Rattle.slice_meaning.specs.Known.{Known, nothing_known, with_name, with_new_class, with_new_interface, with_class_name, with_interface_name, standing_here, id_here}
use Rattle.slice_meaning.specs.Values.{typed}
use Rattle.slice_meaning.specs.Faults.{faults}
use Rattle.slice_meaning.specs.After.{after, kind_of, with_entries, with_enum_name, with_class_body, with_interface_body, enum_decl, struct_decl, seq_decl, dict_decl, exception_decl, enumerator}
use Rattle.slice_meaning.specs.Meaning.{next_file}
use Rattle.slice_meaning.specs.Rows.{HasRow, KnowsRows}
use Rattle.slice_meaning.proofs.Fitting.{seq_fits, dict_fits, struct_fits}

-- ---- tables that keep what names stand for

record Stays (t u : Tables) : Type 0 where
  pub types : Keeps t u
  pub interfaces : length t.interfaces ≤ length u.interfaces
  pub exceptions : length t.exceptions ≤ length u.exceptions

row_stays : (t u : Tables) → Stays t u → (s : Standing) → HasRow t s → HasRow u s
row_stays t u stays standings.Module h = tt
row_stays t u stays (standings.Type kind) h = (h.0, measure_kept t u stays.types 100 kind h.0 h.1)
row_stays t u stays (standings.Interface at) h = let le = stays.interfaces in omega (arith, h, le)
row_stays t u stays (standings.Exception at) h = let le = stays.exceptions in omega (arith, h, le)
row_stays t u stays (standings.Value v) h = tt

rows_stay : (t u : Tables) → Stays t u → (ds : List Declared) → Each (λ d. HasRow t d.standing) ds → Each (λ d. HasRow u d.standing) ds
rows_stay t u stays [] h = tt
rows_stay t u stays (d ∷ ds) h = (row_stays t u stays d.standing h.0, rows_stay t u stays ds h.1)

one_more : {A : Type 0} (xs : List A) (x : A) → length xs ≤ length (xs ++ x ∷ [])
one_more xs x = let e = length-append xs (x ∷ []) in omega (arith, e)

stays_seq : (t : Tables) (new : SeqDecl) → Stays t (with_seq t new)
stays_seq t new = record { types = record { seqs = slice_get-front t.seqs (new ∷ []); dicts = λ at d e. e; structs = λ at d e. e; enums = λ at x e. e; classes = λ at c e. (c, e); interfaces = λ at i e. (i, e) }; interfaces = omega arith; exceptions = omega arith }

stays_dict : (t : Tables) (new : DictDecl) → Stays t (with_dict t new)
stays_dict t new = record { types = record { seqs = λ at q e. e; dicts = slice_get-front t.dicts (new ∷ []); structs = λ at d e. e; enums = λ at x e. e; classes = λ at c e. (c, e); interfaces = λ at i e. (i, e) }; interfaces = omega arith; exceptions = omega arith }

stays_struct : (t : Tables) (new : StructDecl) → Stays t (with_struct t new)
stays_struct t new = record { types = record { seqs = λ at q e. e; dicts = λ at d e. e; structs = slice_get-front t.structs (new ∷ []); enums = λ at x e. e; classes = λ at c e. (c, e); interfaces = λ at i e. (i, e) }; interfaces = omega arith; exceptions = omega arith }

stays_enum : (t : Tables) (new : EnumDecl) → Stays t (with_enum t new)
stays_enum t new = record { types = record { seqs = λ at q e. e; dicts = λ at d e. e; structs = λ at d e. e; enums = slice_get-front t.enums (new ∷ []); classes = λ at c e. (c, e); interfaces = λ at i e. (i, e) }; interfaces = omega arith; exceptions = omega arith }

stays_exception : (t : Tables) (new : ExceptionDecl) → Stays t (with_exception t new)
stays_exception t new = record { types = record { seqs = λ at q e. e; dicts = λ at d e. e; structs = λ at d e. e; enums = λ at x e. e; classes = λ at c e. (c, e); interfaces = λ at i e. (i, e) }; interfaces = omega arith; exceptions = one_more t.exceptions new }

stays_class : (t : Tables) (id : List ℕ) → Stays t (with_class t id)
stays_class t id = record {
  types = record { seqs = λ at q e. e; dicts = λ at d e. e; structs = λ at d e. e; enums = λ at x e. e; classes = λ at c e. (c, slice_get-front t.classes (record { id = id; base = None; compact = None; members = [] } ∷ []) at c e); interfaces = λ at i e. (i, e) };
  interfaces = omega arith;
  exceptions = omega arith;
}

stays_interface : (t : Tables) (id : List ℕ) → Stays t (with_interface t id)
stays_interface t id = record {
  types = record { seqs = λ at q e. e; dicts = λ at d e. e; structs = λ at d e. e; enums = λ at x e. e; classes = λ at c e. (c, e); interfaces = λ at i e. (i, slice_get-front t.interfaces (record { id = id; bases = []; ops = [] } ∷ []) at i e) };
  interfaces = one_more t.interfaces (record { id = id; bases = []; ops = [] });
  exceptions = omega arith;
}

changed_there : {A : Type 0} (change : A → A) (xs : List A) (at i : ℕ) (x : A) → slice_get xs i ≡ Some x → (y : A) × (slice_get (changed change xs at) i ≡ Some y)
changed_there change [] at i x e = absurd cc
changed_there change (y ∷ ys) zero zero x e = (change y, refl)
changed_there change (y ∷ ys) zero (suc i) x e = (x, e)
changed_there change (y ∷ ys) (suc at) zero x e = (y, refl)
changed_there change (y ∷ ys) (suc at) (suc i) x e = changed_there change ys at i x e

changed_length : {A : Type 0} (change : A → A) (xs : List A) (at : ℕ) → length (changed change xs at) ≡ length xs
changed_length change [] at = refl
changed_length change (x ∷ xs) zero = refl
changed_length change (x ∷ xs) (suc at) = ap suc (changed_length change xs at)

stays_defined_class : (t : Tables) (at : ℕ) (base compact : Option ℕ) (members : List Member) → Stays t (define_class t at base compact members)
stays_defined_class t at base compact members = record {
  types = record { seqs = λ at q e. e; dicts = λ at d e. e; structs = λ at d e. e; enums = λ at x e. e; classes = λ i c e. changed_there (λ d. record { id = d.id; base = base; compact = compact; members = members }) t.classes at i c e; interfaces = λ at i e. (i, e) };
  interfaces = omega arith;
  exceptions = omega arith;
}

stays_defined_interface : (t : Tables) (at : ℕ) (bases : List ℕ) (ops : List OpDecl) → Stays t (define_interface t at bases ops)
stays_defined_interface t at bases ops = record {
  types = record { seqs = λ at q e. e; dicts = λ at d e. e; structs = λ at d e. e; enums = λ at x e. e; classes = λ at c e. (c, e); interfaces = λ i d e. changed_there (λ j. record { id = j.id; bases = bases; ops = ops }) t.interfaces at i d e };
  interfaces = let e = changed_length (λ j. record { id = j.id; bases = bases; ops = ops }) t.interfaces at in omega (arith, e);
  exceptions = omega arith;
}

-- ---- the new row

new_seq : (t : Tables) (new : SeqDecl) → SeqFits t new.element → IsOf (with_seq t new) (kinds.Seq (length t.seqs))
unfolding measure
new_seq t new fits =
    let kept = measure_kept t (with_seq t new) (stays_seq t new).types 99 new.element fits.0 fits.1 in
    (container (suc fits.0.depth) fits.0.is_built, rw (slice_get-last t.seqs new, kept) refl)

new_dict : (t : Tables) (new : DictDecl) → DictFits t new.key new.value → IsOf (with_dict t new) (kinds.Dict (length t.dicts))
unfolding measure
new_dict t new fits =
    let key = measure_kept t (with_dict t new) (stays_dict t new).types 98 new.key fits.0 fits.2 in
    let value = measure_kept t (with_dict t new) (stays_dict t new).types 98 new.value fits.1 fits.4 in
    (container (suc (suc (max fits.0.depth fits.1.depth))) (fits.0.is_built && fits.1.is_built), rw (slice_get-last t.dicts new, key, value) refl)

new_struct : (t : Tables) (new : StructDecl) → StructFits t new.members → IsOf (with_struct t new) (kinds.Struct (length t.structs))
unfolding measure
new_struct t new fits =
    let kept = members_kept t (with_struct t new) (stays_struct t new).types 99 new.members fits.0 fits.1 in
    (structure fits.0, rw (slice_get-last t.structs new, kept) refl)

new_enum : (t : Tables) (new : EnumDecl) → IsOf (with_enum t new) (kinds.Enum (length t.enums))
unfolding measure
new_enum t new = (enumeration, rw (slice_get-last t.enums new) refl)

new_class : (t : Tables) (id : List ℕ) → IsOf (with_class t id) (kinds.Class (Some (length t.classes)))
unfolding measure
new_class t id = (reference, rw (slice_get-last t.classes (record { id = id; base = None; compact = None; members = [] })) refl)

new_last : {A : Type 0} (xs : List A) (x : A) → length xs < length (xs ++ x ∷ [])
new_last xs x = let e = length-append xs (x ∷ []) in omega (arith, e)

-- ---- declarations

pub rows_at_start : KnowsRows nothing_known
rows_at_start = tt

pub rows_next_file : (k : Known) → KnowsRows k → KnowsRows (next_file k)
rows_next_file k h = h

by_name : (k j : Known) (o : Option Standing) → KnowsRows j → KnowsRows k → KnowsRows (elim o as (λ _. Known) [ None ↦ j | Some s ↦ k ])
by_name k j None a h = a
by_name k j (Some s) a h = h

pub rows_class_name : (k : Known) (word : Word) → KnowsRows k → KnowsRows (with_class_name k word)
rows_class_name k word h =
    let id = id_here k word in
    by_name k (with_new_class k word) (standing_here k word) (new_class k.tables id, rows_stay k.tables (with_class k.tables id) (stays_class k.tables id) k.declared h) h

pub rows_interface_name : (k : Known) (word : Word) → KnowsRows k → KnowsRows (with_interface_name k word)
rows_interface_name k word h =
    let id = id_here k word in
    by_name k (with_new_interface k word) (standing_here k word)
    (new_last k.tables.interfaces (record { id = id; bases = []; ops = [] }), rows_stay k.tables (with_interface k.tables id) (stays_interface k.tables id) k.declared h) h

by_value : (k : Known) (word : Word) (r : Result Value CheckKind) → KnowsRows k → KnowsRows (elim r as (λ _. Known) [ Err row ↦ k | Ok v ↦ with_name k word (standings.Value v) ])
by_value k word (Err row) h = h
by_value k word (Ok v) h = (tt, h)

entries_known : (t : Tables) (file at : ℕ) (inside : Scope) (es : List (Word × Option Constant)) (ds : List Declared) → Each (λ d. HasRow t d.standing) ds
    → Each (λ d. HasRow t d.standing) (with_entries file at inside es ds)
entries_known t file at inside [] ds h = h
entries_known t file at inside (e ∷ es) ds h = entries_known t file at inside es (enumerator file at inside e.0 ∷ ds) (tt, h)

class_body : (k : Known) (word : Word) (compact : Option Constant) (base : Option Path) (fields : Option (List Field)) → KnowsRows k → KnowsRows (with_class_body k word compact base fields)
class_body k word compact base None h = h
class_body k word compact base (Some fields) h = rows_stay k.tables _ (stays_defined_class k.tables _ _ _ _) k.declared h

interface_body : (k : Known) (word : Word) (bases : List Path) (ops : Option (List OpTree)) → KnowsRows k → KnowsRows (with_interface_body k word bases ops)
interface_body k word bases None h = h
interface_body k word bases (Some ops) h = rows_stay k.tables _ (stays_defined_interface k.tables _ _ _) k.declared h

pub rows_after : (k : Known) (item : Item) → KnowsRows k → HasNoTags item → faults k item ≡ [] → KnowsRows (after k item)
rows_after k (items.Enter word) h plain none = by_name k (with_name k word standings.Module) (standing_here k word) (tt, h) h
rows_after k items.Exit h plain none = h
rows_after k (items.Const kind word value) h plain none = by_value k word (typed k (kind_of k kind) value.value) h
rows_after k (items.Enum word entries) h plain none =
    let new = enum_decl k word entries in
    entries_known (with_enum k.tables new) k.file (length k.tables.enums) (word.name ∷ k.scope) entries (with_enum_name k word entries).declared
    (new_enum k.tables new, rows_stay k.tables (with_enum k.tables new) (stays_enum k.tables new) k.declared h)
rows_after k (items.Struct word fields) h plain none =
    let new = struct_decl k word fields in
    (new_struct k.tables new (struct_fits k word fields plain none), rows_stay k.tables (with_struct k.tables new) (stays_struct k.tables new) k.declared h)
rows_after k (items.Seq word element) h plain none =
    let new = seq_decl k word element in
    (new_seq k.tables new (seq_fits k word element none), rows_stay k.tables (with_seq k.tables new) (stays_seq k.tables new) k.declared h)
rows_after k (items.Dict word key value) h plain none =
    let new = dict_decl k word key value in
    (new_dict k.tables new (dict_fits k word key value none), rows_stay k.tables (with_dict k.tables new) (stays_dict k.tables new) k.declared h)
rows_after k (items.Class word compact base fields) h plain none = class_body (with_class_name k word) word compact base fields (rows_class_name k word h)
rows_after k (items.Exception word base fields) h plain none =
    let new = exception_decl k word base fields in
    (new_last k.tables.exceptions new, rows_stay k.tables (with_exception k.tables new) (stays_exception k.tables new) k.declared h)
rows_after k (items.Interface word bases ops) h plain none = interface_body (with_interface_name k word) word bases ops (rows_interface_name k word h)
