-- What holds before a declaration holds after it.
use Rattle.std.proofs.Common.{◌≡◌, ℕ, zero, suc, ◌⊎◌, Bool, true, false, cond, List, [], ◌∷◌, ◌++◌, length, map, Option, Some, None, Result, Ok, Err, refl, sym, ap, ◌∙◌, subst, inl, inr}
use Rattle.std.specs.Prelude.{◌&&◌, drop, slice_get, bytes_eq, option_map}
use Rattle.std.specs.Option.{is_some}
use Rattle.std.proofs.lemmas.List.{map-append}
use Rattle.std.proofs.lemmas.Slice.Eq.{bytes_eq-Decides, slice_eq-Decides}
use Rattle.slice_syntax.specs.declared.tree.Word.{Word}
use Rattle.slice_syntax.specs.declared.tree.Path.{Path}
use Rattle.slice_syntax.specs.declared.tree.Constant.{Constant}
use Rattle.slice_syntax.specs.declared.tree.Field.{Field}
use Rattle.slice_syntax.specs.declared.tree.OpTree.{OpTree}
use Rattle.slice_syntax.specs.declared.tree.Item.{Item}
use Rattle.slice_syntax.specs.declared.tree.Item.TheVariants as items
use Rattle.slice_syntax.specs.Places.{Each, Where, IsPlain, HasPlainNames, IsRegular}
use Rattle.ice_types.specs.declared.kind.RowRef.{RowRef}
use Rattle.ice_types.specs.declared.kind.RowRef.TheVariants as rows
use Rattle.ice_types.specs.declared.kind.TypeRef.TheVariants as kinds
use Rattle.ice_types.specs.declared.declarations.ClassDecl.{ClassDecl}
use Rattle.ice_types.specs.declared.declarations.InterfaceDecl.{InterfaceDecl}
use Rattle.ice_types.specs.declared.declarations.Member.{Member}
use Rattle.ice_types.specs.declared.declarations.OpDecl.{OpDecl}
use Rattle.ice_types.specs.Tables.{Tables, HasRowId, no_types, with_seq, with_dict, with_struct, with_enum, with_exception, with_class, with_interface, changed, define_class, define_interface}
use Rattle.slice_meaning.specs.declared.fault.CheckKind.{CheckKind}
use Rattle.slice_meaning.specs.declared.standing.Standing.{Standing}
use Rattle.slice_meaning.specs.declared.standing.Standing.TheVariants as standings
use Rattle.slice_meaning.specs.declared.standing.Value.{Value}
use Rattle.slice_meaning.specs.Names.{Name, Scope, Declared, same_scope, is_called, declared_in, type_id}
use Rattle.slice_meaning.specs.Known.{Known, nothing_known, standing_here, new_declared, with_name, id_here, with_new_class, with_class_name, with_new_interface, with_interface_name}
use Rattle.slice_meaning.specs.Values.{typed}
use Rattle.slice_meaning.specs.After.{after, with_tables, kind_of, enumerator, with_entries, enum_decl, struct_decl, seq_decl, dict_decl, exception_decl, with_enum_name, with_class_body, with_interface_body}
use Rattle.slice_meaning.specs.Faults.{faults}
use Rattle.slice_meaning.specs.Meaning.{next_file}
use Rattle.slice_meaning.proofs.TypeIds.{ids_apart}
use Rattle.slice_meaning.proofs.KnownRows.{rows_at_start, rows_next_file, rows_after}
use Rattle.slice_faults.specs.Kept.{IsDeclared, IsInside, HasPlainName, HasNames, IsKept}

-- ---- names

found_some : (o : Option Declared) → o ≡ None → is_some o ≡ true → ⊥
found_some None is h = cc
found_some (Some d) is h = cc

more : (b : Bool) (d : Declared) (o : Option Declared) → is_some o ≡ true → is_some (cond b (Some d) o) ≡ true
more true d o h = refl
more false d o h = h

inside_more : (d : Declared) (ds : List Declared) (scope : Scope) → IsInside ds scope → IsInside (d ∷ ds) scope
inside_more d ds [] h = tt
inside_more d ds (name ∷ scope) h = (more (is_called scope name d) d (declared_in ds name scope) h.0, inside_more d ds scope h.1)

each_inside : (d : Declared) (ds es : List Declared) → Each (λ e. IsInside ds e.scope) es → Each (λ e. IsInside (d ∷ ds) e.scope) es
each_inside d ds [] h = tt
each_inside d ds (e ∷ es) h = (inside_more d ds e.scope h.0, each_inside d ds es h.1)

itself : (d : Declared) → is_called d.scope d.name d ≡ true
itself d = ap (λ (b : Bool). b && bytes_eq d.name d.name) ((slice_eq-Decides bytes_eq-Decides d.scope d.scope (same_scope d.scope d.scope) refl).1 refl) ∙ (bytes_eq-Decides d.name d.name).1 refl

-- what is declared is there
there : (d : Declared) (ds : List Declared) → is_some (declared_in (d ∷ ds) d.name d.scope) ≡ true
there d ds = ap (λ (b : Bool). is_some (cond b (Some d) (declared_in ds d.name d.scope))) (itself d)

-- ---- ids

-- an id of a table with one row more
get_more : {A : Type 0} (xs : List A) (y : A) (at : ℕ) (x : A) → slice_get (xs ++ y ∷ []) at ≡ Some x → (slice_get xs at ≡ Some x) ⊎ (x ≡ y)
get_more [] y zero x h = inr cc
get_more [] y (suc at) x h = absurd cc
get_more (z ∷ xs) y zero x h = inl h
get_more (z ∷ xs) y (suc at) x h = get_more xs y at x h

id_more : {A : Type 0} (of : A → List ℕ) (rows : List A) (row : A) (at : ℕ) (id : List ℕ) → slice_get (map of (rows ++ row ∷ [])) at ≡ Some id → (slice_get (map of rows) at ≡ Some id) ⊎ (id ≡ of row)
id_more of rows row at id h = get_more (map of rows) (of row) at id (ap (λ l. slice_get l at) (sym (map-append of rows (row ∷ []))) ∙ h)

-- each id of the tables is one of the others or this one
abbrev HasMore : Tables → Tables → List ℕ → Type 0
HasMore t more new = (id : List ℕ) (row : RowRef) → HasRowId more id row → HasRowId t id row ⊎ (id ≡ new)

more_seqs : (t : Tables) (d : _) → HasMore t (with_seq t d) d.id
more_seqs t d id (rows.Seq at) h = id_more (λ q. q.id) t.seqs d at id h
more_seqs t d id (rows.Dict at) h = inl h
more_seqs t d id (rows.Struct at) h = inl h
more_seqs t d id (rows.Enum at) h = inl h
more_seqs t d id (rows.Class at) h = inl h
more_seqs t d id (rows.Exception at) h = inl h
more_seqs t d id (rows.Interface at) h = inl h

more_dicts : (t : Tables) (d : _) → HasMore t (with_dict t d) d.id
more_dicts t d id (rows.Seq at) h = inl h
more_dicts t d id (rows.Dict at) h = id_more (λ q. q.id) t.dicts d at id h
more_dicts t d id (rows.Struct at) h = inl h
more_dicts t d id (rows.Enum at) h = inl h
more_dicts t d id (rows.Class at) h = inl h
more_dicts t d id (rows.Exception at) h = inl h
more_dicts t d id (rows.Interface at) h = inl h

more_structs : (t : Tables) (d : _) → HasMore t (with_struct t d) d.id
more_structs t d id (rows.Seq at) h = inl h
more_structs t d id (rows.Dict at) h = inl h
more_structs t d id (rows.Struct at) h = id_more (λ q. q.id) t.structs d at id h
more_structs t d id (rows.Enum at) h = inl h
more_structs t d id (rows.Class at) h = inl h
more_structs t d id (rows.Exception at) h = inl h
more_structs t d id (rows.Interface at) h = inl h

more_enums : (t : Tables) (d : _) → HasMore t (with_enum t d) d.id
more_enums t d id (rows.Seq at) h = inl h
more_enums t d id (rows.Dict at) h = inl h
more_enums t d id (rows.Struct at) h = inl h
more_enums t d id (rows.Enum at) h = id_more (λ q. q.id) t.enums d at id h
more_enums t d id (rows.Class at) h = inl h
more_enums t d id (rows.Exception at) h = inl h
more_enums t d id (rows.Interface at) h = inl h

more_exceptions : (t : Tables) (d : _) → HasMore t (with_exception t d) d.id
more_exceptions t d id (rows.Seq at) h = inl h
more_exceptions t d id (rows.Dict at) h = inl h
more_exceptions t d id (rows.Struct at) h = inl h
more_exceptions t d id (rows.Enum at) h = inl h
more_exceptions t d id (rows.Class at) h = inl h
more_exceptions t d id (rows.Exception at) h = id_more (λ q. q.id) t.exceptions d at id h
more_exceptions t d id (rows.Interface at) h = inl h

more_classes : (t : Tables) (new : List ℕ) → HasMore t (with_class t new) new
more_classes t new id (rows.Seq at) h = inl h
more_classes t new id (rows.Dict at) h = inl h
more_classes t new id (rows.Struct at) h = inl h
more_classes t new id (rows.Enum at) h = inl h
more_classes t new id (rows.Class at) h = id_more (λ q. q.id) t.classes (record { id = new; base = None; compact = None; members = [] }) at id h
more_classes t new id (rows.Exception at) h = inl h
more_classes t new id (rows.Interface at) h = inl h

more_interfaces : (t : Tables) (new : List ℕ) → HasMore t (with_interface t new) new
more_interfaces t new id (rows.Seq at) h = inl h
more_interfaces t new id (rows.Dict at) h = inl h
more_interfaces t new id (rows.Struct at) h = inl h
more_interfaces t new id (rows.Enum at) h = inl h
more_interfaces t new id (rows.Class at) h = inl h
more_interfaces t new id (rows.Exception at) h = inl h
more_interfaces t new id (rows.Interface at) h = id_more (λ q. q.id) t.interfaces (record { id = new; bases = []; ops = [] }) at id h

-- a row that is changed keeps its id
ids_stay : {A : Type 0} (of : A → List ℕ) (change : A → A) → ((x : A) → of (change x) ≡ of x) → (rows : List A) (at : ℕ) → map of (changed change rows at) ≡ map of rows
ids_stay of change same [] at = refl
ids_stay of change same (x ∷ xs) zero = ap (λ id. id ∷ map of xs) (same x)
ids_stay of change same (x ∷ xs) (suc at) = ap (λ ids. of x ∷ ids) (ids_stay of change same xs at)

class_ids : (t : Tables) (place : ℕ) (base compact : Option ℕ) (members : List Member) (id : List ℕ) (row : RowRef) → HasRowId (define_class t place base compact members) id row → HasRowId t id row
class_ids t place base compact members id (rows.Seq at) h = h
class_ids t place base compact members id (rows.Dict at) h = h
class_ids t place base compact members id (rows.Struct at) h = h
class_ids t place base compact members id (rows.Enum at) h = h
class_ids t place base compact members id (rows.Class at) h =
    let change : ClassDecl → ClassDecl = λ c. record { id = c.id; base = base; compact = compact; members = members } in
    ap (λ l. slice_get l at) (sym (ids_stay (λ c. c.id) change (λ _. refl) t.classes place)) ∙ h
class_ids t place base compact members id (rows.Exception at) h = h
class_ids t place base compact members id (rows.Interface at) h = h

interface_ids : (t : Tables) (place : ℕ) (bases : List ℕ) (ops : List OpDecl) (id : List ℕ) (row : RowRef) → HasRowId (define_interface t place bases ops) id row → HasRowId t id row
interface_ids t place bases ops id (rows.Seq at) h = h
interface_ids t place bases ops id (rows.Dict at) h = h
interface_ids t place bases ops id (rows.Struct at) h = h
interface_ids t place bases ops id (rows.Enum at) h = h
interface_ids t place bases ops id (rows.Class at) h = h
interface_ids t place bases ops id (rows.Exception at) h = h
interface_ids t place bases ops id (rows.Interface at) h =
    let change : InterfaceDecl → InterfaceDecl = λ c. record { id = c.id; bases = bases; ops = ops } in
    ap (λ l. slice_get l at) (sym (ids_stay (λ c. c.id) change (λ _. refl) t.interfaces place)) ∙ h

-- ---- one declaration more

-- a name alone
named : (k : Known) (word : Word) (s : Standing) → IsPlain word.name → HasNames k → HasNames (with_name k word s)
named k word s plain kept =
    let d = new_declared k word s in record {
      ids = λ id row h. inr (kept.ids id row h);
      names = ((plain, kept.scope), kept.names);
      scope = kept.scope;
      inside = (inside_more d k.declared k.scope kept.innermost, each_inside d k.declared k.declared kept.inside);
      innermost = inside_more d k.declared k.scope kept.innermost;
    }

-- a name and its row
with_row : (k : Known) (word : Word) (s : Standing) (t : Tables) → HasMore k.tables t (id_here k word) → IsPlain word.name → HasNames k → HasNames (with_tables (with_name k word s) t)
with_row k word s t wider plain kept =
    let name = named k word s plain kept in record {
      ids = λ id row h. by_row id row (wider id row h) (kept.ids id row);
      names = name.names;
      scope = name.scope;
      inside = name.inside;
      innermost = name.innermost;
    }
  where
    by_row : (id : List ℕ) (row : RowRef) → HasRowId k.tables id row ⊎ (id ≡ id_here k word) → (HasRowId k.tables id row → IsDeclared k.declared id)
        → IsDeclared (with_name k word s).declared id
    by_row id row (inl old) held = inr (held old)
    by_row id row (inr new) held = inl new

-- rows that are changed, with their ids
same_ids : (k : Known) (t : Tables) → ((id : List ℕ) (row : RowRef) → HasRowId t id row → HasRowId k.tables id row) → HasNames k → HasNames (with_tables k t)
same_ids k t same kept = record {
  ids = λ id row h. kept.ids id row (same id row h);
  names = kept.names;
  scope = kept.scope;
  inside = kept.inside;
  innermost = kept.innermost;
}

-- an inner scope
opened : (k : Known) (word : Word) → IsPlain word.name → is_some (declared_in k.declared word.name k.scope) ≡ true → HasNames k → HasNames (record k { scope = word.name ∷ k.scope })
opened k word plain found kept = record {
  ids = kept.ids;
  names = kept.names;
  scope = (plain, kept.scope);
  inside = kept.inside;
  innermost = (found, kept.innermost);
}

after_enter : (k : Known) (word : Word) → IsPlain word.name → HasNames k → HasNames (after k (items.Enter word))
after_enter k word plain kept = by_name (declared_in k.declared word.name k.scope) refl
  where
    by_name : (o : Option Declared) → declared_in k.declared word.name k.scope ≡ o
        → HasNames (record (elim (option_map (λ d. d.standing) o) as (λ _. Known) [ None ↦ with_name k word standings.Module | Some s ↦ k ]) { scope = word.name ∷ k.scope })
    by_name None is = opened (with_name k word standings.Module) word plain (there (new_declared k word standings.Module) k.declared) (named k word standings.Module plain kept)
    by_name (Some d) is = opened k word plain (ap is_some is) kept

after_exit : (k : Known) → HasNames k → HasNames (after k items.Exit)
after_exit k kept = record { ids = kept.ids; names = kept.names; scope = outer k.scope kept.scope; inside = kept.inside; innermost = around k.scope kept.innermost }
  where
    outer : (s : Scope) → Each IsPlain s → Each IsPlain (drop 1 s)
    outer [] h = tt
    outer (name ∷ s) h = h.1

    around : (s : Scope) → IsInside k.declared s → IsInside k.declared (drop 1 s)
    around [] h = tt
    around (name ∷ s) h = h.1

after_constant : (k : Known) (word : Word) (r : Result Value CheckKind) → IsPlain word.name → HasNames k → HasNames (elim r as (λ _. Known) [ Err row ↦ k | Ok v ↦ with_name k word (standings.Value v) ])
after_constant k word (Err row) plain kept = kept
after_constant k word (Ok v) plain kept = named k word (standings.Value v) plain kept

-- an enumerator, inside what is declared
abbrev Tree : Type 0
Tree = Word × Option Constant

after_entries : (k : Known) (at : ℕ) (inner : Scope) (es : List Tree) → Each (λ e. IsPlain e.0.name × Where (λ c. Unit {0}) e.1) es → Each IsPlain inner → IsInside k.declared inner → HasNames k
    → HasNames (record k { declared = with_entries k.file at inner es k.declared })
after_entries k at inner [] plain scope around kept = kept
after_entries k at inner (e ∷ es) plain scope around kept =
    let d = enumerator k.file at inner e.0 in
    after_entries (record k { declared = d ∷ k.declared }) at inner es plain.1 scope (inside_more d k.declared inner around) record {
      ids = λ id row h. inr (kept.ids id row h);
      names = ((plain.0.0, scope), kept.names);
      scope = kept.scope;
      inside = (inside_more d k.declared inner around, each_inside d k.declared k.declared kept.inside);
      innermost = inside_more d k.declared k.scope kept.innermost;
    }

pub class_named : (k : Known) (word : Word) → IsPlain word.name → HasNames k → HasNames (with_class_name k word)
class_named k word plain kept = by_name (standing_here k word)
  where
    by_name : (o : Option Standing) → HasNames (elim o as (λ _. Known) [ None ↦ with_new_class k word | Some s ↦ k ])
    by_name None = with_row k word (standings.Type (kinds.Class (Some (length k.tables.classes)))) (with_class k.tables (id_here k word)) (more_classes k.tables (id_here k word)) plain kept
    by_name (Some s) = kept

pub interface_named : (k : Known) (word : Word) → IsPlain word.name → HasNames k → HasNames (with_interface_name k word)
interface_named k word plain kept = by_name (standing_here k word)
  where
    by_name : (o : Option Standing) → HasNames (elim o as (λ _. Known) [ None ↦ with_new_interface k word | Some s ↦ k ])
    by_name None = with_row k word (standings.Interface (length k.tables.interfaces)) (with_interface k.tables (id_here k word)) (more_interfaces k.tables (id_here k word)) plain kept
    by_name (Some s) = kept

class_body : (k : Known) (word : Word) (compact : Option Constant) (base : Option Path) (fields : Option (List Field)) → HasNames k → HasNames (with_class_body k word compact base fields)
class_body k word compact base None kept = kept
class_body k word compact base (Some fields) kept = same_ids k (define_class k.tables _ _ _ _) (class_ids k.tables _ _ _ _) kept

interface_body : (k : Known) (word : Word) (bases : List Path) (ops : Option (List OpTree)) → HasNames k → HasNames (with_interface_body k word bases ops)
interface_body k word bases None kept = kept
interface_body k word bases (Some ops) kept = same_ids k (define_interface k.tables _ _ _) (interface_ids k.tables _ _ _) kept

-- a declaration more
names_after : (k : Known) (item : Item) → HasPlainNames item → HasNames k → HasNames (after k item)
names_after k (items.Enter word) plain kept = after_enter k word plain kept
names_after k items.Exit plain kept = after_exit k kept
names_after k (items.Const kind word value) plain kept = after_constant k word (typed k (kind_of k kind) value.value) plain.0 kept
names_after k (items.Enum word entries) plain kept =
    let s = standings.Type (kinds.Enum (length k.tables.enums)) in
    let d = new_declared k word s in
    after_entries (with_enum_name k word entries) (length k.tables.enums) (word.name ∷ k.scope) entries plain.1 (plain.0, kept.scope)
    (there d k.declared, inside_more d k.declared k.scope kept.innermost)
    (with_row k word s (with_enum k.tables (enum_decl k word entries)) (more_enums k.tables (enum_decl k word entries)) plain.0 kept)
names_after k (items.Struct word fields) plain kept =
    with_row k word (standings.Type (kinds.Struct (length k.tables.structs))) (with_struct k.tables (struct_decl k word fields)) (more_structs k.tables (struct_decl k word fields)) plain.0 kept
names_after k (items.Seq word element) plain kept =
    with_row k word (standings.Type (kinds.Seq (length k.tables.seqs))) (with_seq k.tables (seq_decl k word element)) (more_seqs k.tables (seq_decl k word element)) plain.0 kept
names_after k (items.Dict word key value) plain kept =
    with_row k word (standings.Type (kinds.Dict (length k.tables.dicts))) (with_dict k.tables (dict_decl k word key value)) (more_dicts k.tables (dict_decl k word key value)) plain.0 kept
names_after k (items.Class word compact base fields) plain kept = class_body (with_class_name k word) word compact base fields (class_named k word plain.0 kept)
names_after k (items.Exception word base fields) plain kept =
    with_row k word (standings.Exception (length k.tables.exceptions)) (with_exception k.tables (exception_decl k word base fields)) (more_exceptions k.tables (exception_decl k word base fields)) plain.0 kept
names_after k (items.Interface word bases ops) plain kept = interface_body (with_interface_name k word) word bases ops (interface_named k word plain.0 kept)

-- before the first file, and before the next one
no_names : HasNames nothing_known
no_names = record { ids = none; names = tt; scope = tt; inside = tt; innermost = tt }
  where
    none : (id : List ℕ) (row : RowRef) → HasRowId no_types id row → ⊥
    none id (rows.Seq at) h = cc
    none id (rows.Dict at) h = cc
    none id (rows.Struct at) h = cc
    none id (rows.Enum at) h = cc
    none id (rows.Class at) h = cc
    none id (rows.Exception at) h = cc
    none id (rows.Interface at) h = cc

names_next : (k : Known) → HasNames k → HasNames (next_file k)
names_next k kept = record { ids = kept.ids; names = kept.names; scope = tt; inside = kept.inside; innermost = tt }

pub nothing_kept : IsKept nothing_known
nothing_kept = record { names = no_names; rows = rows_at_start }

pub kept_next : (k : Known) → IsKept k → IsKept (next_file k)
kept_next k kept = record { names = names_next k kept.names; rows = rows_next_file k kept.rows }

pub kept_after : (k : Known) (item : Item) → IsRegular item → IsKept k → faults k item ≡ [] → IsKept (after k item)
kept_after k item regular kept none = record { names = names_after k item regular.0 kept.names; rows = rows_after k item kept.rows regular.1 none }

-- ---- what it gives

-- the id of a new name is none of those that are declared
not_declared : (ds : List Declared) (scope : Scope) (name : Name) → Each HasPlainName ds → Each IsPlain (name ∷ scope) → declared_in ds name scope ≡ None → IsDeclared ds (type_id scope name) → ⊥
not_declared [] scope name plain own new h = h
not_declared (d ∷ ds) scope name plain own new h = by_test (is_called scope name d) refl new h (not_declared ds scope name plain.1 own)
  where
    by_test : (b : Bool) → is_called scope name d ≡ b → cond b (Some d) (declared_in ds name scope) ≡ None → (type_id scope name ≡ type_id d.scope d.name) ⊎ IsDeclared ds (type_id scope name)
        → (declared_in ds name scope ≡ None → IsDeclared ds (type_id scope name) → ⊥) → ⊥
    by_test true is new h later = cc
    by_test false is new (inl e) later =
        let same = ids_apart scope d.scope name d.name own plain.0 e in
        let called : is_called scope name d ≡ true = ap (λ (s : Scope). is_called s name d) same.0 ∙ (ap (λ (n : Name). is_called d.scope n d) same.1 ∙ itself d) in
        let both : true ≡ false = sym called ∙ is in cc
    by_test false is new (inr old) later = later new old

pub is_new_id : (k : Known) (word : Word) → IsPlain word.name → HasNames k → declared_in k.declared word.name k.scope ≡ None → (row : RowRef) → HasRowId k.tables (id_here k word) row → ⊥
is_new_id k word plain kept new row h = not_declared k.declared k.scope word.name kept.names (plain, kept.scope) new (kept.ids (id_here k word) row h)

-- nothing stands inside what is not declared
pub none_inside : (ds es : List Declared) (name inner : Name) (scope : Scope) → Each (λ e. IsInside ds e.scope) es → declared_in ds inner scope ≡ None → declared_in es name (inner ∷ scope) ≡ None
none_inside ds [] name inner scope h new = refl
none_inside ds (e ∷ es) name inner scope h new = by_test (same_scope e.scope (inner ∷ scope)) refl (none_inside ds es name inner scope h.1 new)
  where
    by_test : (b : Bool) → same_scope e.scope (inner ∷ scope) ≡ b → declared_in es name (inner ∷ scope) ≡ None → cond (b && bytes_eq e.name name) (Some e) (declared_in es name (inner ∷ scope)) ≡ None
    by_test true is others =
        let same : e.scope ≡ inner ∷ scope = (slice_eq-Decides bytes_eq-Decides e.scope (inner ∷ scope) (same_scope e.scope (inner ∷ scope)) refl).0 is in
        let within : IsInside ds (inner ∷ scope) = subst (λ (s : Scope). IsInside ds s) same h.0 in
        absurd (found_some (declared_in ds inner scope) new within.0)
    by_test false is others = others
