-- What a name stands for is one of the declarations, and its row is there.
use Rattle.std.proofs.Common.{◌≡◌, ℕ, zero, suc, ◌<◌, Bool, true, false, cond, List, [], ◌∷◌, length, Option, Some, None, Result, Ok, refl, subst, arith}
use Rattle.std.specs.Prelude.{find, option_map, option_and_then, ok_or, slice_get, if◌then◌else◌, ◌==◌}
use Rattle.std.specs.Option.{option_or}
use Rattle.slice_syntax.specs.declared.tree.Path.{Path}
use Rattle.slice_syntax.specs.declared.tree.Word.{Word}
use Rattle.slice_syntax.specs.declared.tree.TypeWord.{TypeWord}
use Rattle.slice_syntax.specs.declared.tree.TypeWord.TheVariants as words
use Rattle.slice_syntax.specs.Lexemes.{code as code_of}
use Rattle.slice_syntax.specs.Terminals.{word_bool, word_byte, word_short, word_int, word_long, word_string, word_object, word_value}
use Rattle.slice_syntax.specs.Places.{Each}
use Rattle.ice_types.specs.declared.kind.TypeRef.{TypeRef}
use Rattle.ice_types.specs.declared.kind.TypeRef.TheVariants as kinds
use Rattle.ice_types.specs.Tables.{Tables}
use Rattle.ice_types.specs.Measures.{measure, proxy, reference, built_in as plain}
use Rattle.std.proofs.lemmas.Option.{slice_get_within}
use Rattle.ice_types.proofs.Levels.{found_by}
use Rattle.ice_types.specs.Fits.{IsOf}
use Rattle.slice_meaning.specs.declared.standing.Standing.{Standing}
use Rattle.slice_meaning.specs.declared.standing.Standing.TheVariants as standings
use Rattle.slice_meaning.specs.declared.fault.CheckKind.{CheckKind}
use Rattle.slice_meaning.specs.declared.fault.CheckKind.TheVariants as rows
use Rattle.slice_meaning.specs.Names.{Name, Scope, Declared, is_called, declared_in, outwards, inwards, first_of, in_words, stands_for}
use Rattle.slice_meaning.specs.Known.{Known, standing, standing_here}
use Rattle.slice_meaning.specs.Uses.{use_of, as_type, as_interface, as_exception, as_class, as_proxy, class_of, built_in, type_of, exception_of, class_named, interface_named}
use Rattle.slice_meaning.specs.Rows.{HasRow, KnowsRows}

pub got_there : {A : Type 0} (xs : List A) (at : ℕ) → at < length xs → (x : A) × (slice_get xs at ≡ Some x)
got_there [] at lt = absurd (omega arith)
got_there (y ∷ xs) zero lt = (y, refl)
got_there (y ∷ xs) (suc at) lt = got_there xs at (omega arith)

-- ---- what holds of each declaration holds of the one that a name stands for

module _ (P : Declared → Type 0) (ds : List Declared) (all : Each P ds) where
  found_in : (p : Declared → Bool) (rest : List Declared) → Each P rest → (d : Declared) → find p rest ≡ Some d → P d
  found_in p [] h d e = absurd cc
  found_in p (x ∷ xs) h d e = by_test (p x) e (found_in p xs h.1 d)
    where
      by_test : (b : Bool) → cond {A = Option Declared} b (Some x) (find p xs) ≡ Some d → (find p xs ≡ Some d → P d) → P d
      by_test true e later = let same : x ≡ d = cc in subst P same h.0
      by_test false e later = later e

  pub declared_so : (name : Name) (scope : Scope) (d : Declared) → declared_in ds name scope ≡ Some d → P d
  declared_so name scope d e = found_in (is_called scope name) ds all d e

  either_so : (a b : Option Declared) (d : Declared) → (a ≡ Some d → P d) → (b ≡ Some d → P d) → option_or a b ≡ Some d → P d
  either_so None b d first second e = second e
  either_so (Some x) b d first second e = first e

  outwards_so : (name : Name) (scope : Scope) (d : Declared) → outwards ds name scope ≡ Some d → P d
  outwards_so name [] d e = declared_so name [] d e
  outwards_so name (inner ∷ outer) d e = either_so (declared_in ds name (inner ∷ outer)) (outwards ds name outer) d (declared_so name (inner ∷ outer) d) (outwards_so name outer d) e

  then_so : (a : Option Declared) (next : Declared → Option Declared) (d : Declared) → ((x : Declared) → a ≡ Some x → P x) → ((x : Declared) → P x → next x ≡ Some d → P d) → option_and_then next a ≡ Some d → P d
  then_so None next d first second e = absurd cc
  then_so (Some x) next d first second e = second x (first x refl) e

  inwards_so : (names : List Name) (from d : Declared) → P from → inwards ds names from ≡ Some d → P d
  inwards_so [] from d h e = let same : from ≡ d = cc in subst P same h
  inwards_so (name ∷ names) from d h e = then_so (declared_in ds name (from.name ∷ from.scope)) (inwards ds names) d (declared_so name (from.name ∷ from.scope)) (λ x i. inwards_so names x d i) e

  first_so : (scope : Scope) (outer : Bool) (name : Name) (d : Declared) → first_of ds scope outer name ≡ Some d → P d
  first_so scope true name d e = declared_so name [] d e
  first_so scope false name d e = outwards_so name scope d e

  words_so : (scope : Scope) (outer : Bool) (names : List Name) (d : Declared) → in_words ds scope outer names ≡ Some d → P d
  words_so scope outer [] d e = absurd cc
  words_so scope outer (name ∷ names) d e = then_so (first_of ds scope outer name) (inwards ds names) d (first_so scope outer name) (λ x i. inwards_so names x d i) e

  pub stands_so : (scope : Scope) (path : Path) (d : Declared) → stands_for ds scope path ≡ Some d → P d
  stands_so scope path d e = words_so scope path.outer path.words d e

-- ---- rows

mapped_so : (P : Standing → Type 0) (o : Option Declared) (s : Standing) → ((d : Declared) → o ≡ Some d → P d.standing) → option_map (λ d. d.standing) o ≡ Some s → P s
mapped_so P None s h e = absurd cc
mapped_so P (Some d) s h e = let same : d.standing ≡ s = cc in subst P same (h d refl)

-- the row of what a name stands for
pub standing_row : (k : Known) → KnowsRows k → (path : Path) (s : Standing) → standing k path ≡ Some s → HasRow k.tables s
standing_row k knows path s e =
    mapped_so (HasRow k.tables) (stands_for k.declared k.scope path) s (λ d is. stands_so (λ d. HasRow k.tables d.standing) k.declared knows k.scope path d is) e

pub here_row : (k : Known) → KnowsRows k → (word : Word) (s : Standing) → standing_here k word ≡ Some s → HasRow k.tables s
here_row k knows word s e =
    mapped_so (HasRow k.tables) (declared_in k.declared word.name k.scope) s (λ d is. declared_so (λ d. HasRow k.tables d.standing) k.declared knows word.name k.scope d is) e

-- what a name means has its row, where its sort says so
module _ {A : Type 0} (t : Tables) (sort : Standing → Option A) (Is : A → Type 0) (says : (s : Standing) (x : A) → HasRow t s → sort s ≡ Some x → Is x) where
  sort_so : (s : Standing) (x : A) (o : Option A) → HasRow t s → sort s ≡ o → ok_or o rows.WrongUse ≡ Ok x → Is x
  sort_so s x None h is e = absurd cc
  sort_so s x (Some y) h is e = let same : y ≡ x = cc in subst Is same (says s y h is)

  pub use_so : (o : Option Standing) (x : A) → ((s : Standing) → o ≡ Some s → HasRow t s) → use_of sort o ≡ Ok x → Is x
  use_so None x h e = absurd cc
  use_so (Some s) x h e = sort_so s x (sort s) (h s refl) refl e

type_says : (t : Tables) (s : Standing) (kind : TypeRef) → HasRow t s → as_type s ≡ Some kind → IsOf t kind
type_says t standings.Module kind h e = absurd cc
type_says t (standings.Type found) kind h e = let same : found ≡ kind = cc in subst (IsOf t) same h
type_says t (standings.Interface at) kind h e = absurd cc
type_says t (standings.Exception at) kind h e = absurd cc
type_says t (standings.Value v) kind h e = absurd cc

pub interface_says : (t : Tables) (s : Standing) (at : ℕ) → HasRow t s → as_interface s ≡ Some at → at < length t.interfaces
interface_says t standings.Module at h e = absurd cc
interface_says t (standings.Type found) at h e = absurd cc
interface_says t (standings.Interface place) at h e = let same : place ≡ at = cc in subst (λ (n : ℕ). n < length t.interfaces) same h
interface_says t (standings.Exception place) at h e = absurd cc
interface_says t (standings.Value v) at h e = absurd cc

exception_says : (t : Tables) (s : Standing) (at : ℕ) → HasRow t s → as_exception s ≡ Some at → at < length t.exceptions
exception_says t standings.Module at h e = absurd cc
exception_says t (standings.Type found) at h e = absurd cc
exception_says t (standings.Interface place) at h e = absurd cc
exception_says t (standings.Exception place) at h e = let same : place ≡ at = cc in subst (λ (n : ℕ). n < length t.exceptions) same h
exception_says t (standings.Value v) at h e = absurd cc

-- the class of a type of the tables is there
class_there : (t : Tables) (at : ℕ) → IsOf t (kinds.Class (Some at)) → at < length t.classes
unfolding measure
class_there t at of = found_by (slice_get t.classes at) (λ _. Some reference) of.0 of.1 (λ c is same. slice_get_within t.classes at c is)

class_says : (t : Tables) (kind : TypeRef) (at : ℕ) → IsOf t kind → class_of kind ≡ Some at → at < length t.classes
class_says t kinds.Bool at h e = absurd cc
class_says t kinds.Byte at h e = absurd cc
class_says t kinds.Short at h e = absurd cc
class_says t kinds.Int at h e = absurd cc
class_says t kinds.Long at h e = absurd cc
class_says t kinds.Text at h e = absurd cc
class_says t (kinds.Seq place) at h e = absurd cc
class_says t (kinds.Dict place) at h e = absurd cc
class_says t (kinds.Struct place) at h e = absurd cc
class_says t (kinds.Enum place) at h e = absurd cc
class_says t (kinds.Proxy place) at h e = absurd cc
class_says t (kinds.Class place) at h e = class_there t at (subst (λ (o : Option ℕ). IsOf t (kinds.Class o)) e h)

pub as_class_says : (t : Tables) (s : Standing) (at : ℕ) → HasRow t s → as_class s ≡ Some at → at < length t.classes
as_class_says t standings.Module at h e = absurd cc
as_class_says t (standings.Type kind) at h e = class_says t kind at h e
as_class_says t (standings.Interface place) at h e = absurd cc
as_class_says t (standings.Exception place) at h e = absurd cc
as_class_says t (standings.Value v) at h e = absurd cc

proxy_there : (t : Tables) (at : ℕ) → at < length t.interfaces → IsOf t (kinds.Proxy (Some at))
unfolding measure
proxy_there t at lt = (proxy, let row = got_there t.interfaces at lt in rw (row.1) refl)

proxy_says : (t : Tables) (s : Standing) (kind : TypeRef) → HasRow t s → as_proxy s ≡ Some kind → IsOf t kind
proxy_says t standings.Module kind h e = absurd cc
proxy_says t (standings.Type found) kind h e = absurd cc
proxy_says t (standings.Interface at) kind h e = let same : kinds.Proxy (Some at) ≡ kind = cc in subst (IsOf t) same (proxy_there t at h)
proxy_says t (standings.Exception at) kind h e = absurd cc
proxy_says t (standings.Value v) kind h e = absurd cc

-- ---- what types, bases and exceptions mean

-- where the type is known, it is one of the tables
abbrev Fine : Tables → Result TypeRef CheckKind → Type 0
Fine t r = (kind : TypeRef) → r ≡ Ok kind → IsOf t kind

fine_if : (t : Tables) (b : Bool) (x y : Result TypeRef CheckKind) → Fine t x → Fine t y → Fine t (if b then x else y)
fine_if t true x y a b = a
fine_if t false x y a b = b

fine_ok : (t : Tables) (found : TypeRef) → IsOf t found → Fine t (Ok found)
fine_ok t found of kind e = let same : found ≡ kind = cc in subst (IsOf t) same of

fine_object : (t : Tables) (star : Bool) → IsOf t (if star then kinds.Proxy None else kinds.Class None)
unfolding measure
fine_object t true = (proxy, refl)
fine_object t false = (reference, refl)

fine_built : (t : Tables) (code : ℕ) (star : Bool) → Fine t (built_in code star)
unfolding measure
fine_built t code star =
    fine_if t (code == code_of word_bool) _ _ (fine_ok t kinds.Bool (plain 1 true, refl))
    (fine_if t (code == code_of word_byte) _ _ (fine_ok t kinds.Byte (plain 1 true, refl))
    (fine_if t (code == code_of word_short) _ _ (fine_ok t kinds.Short (plain 2 true, refl))
    (fine_if t (code == code_of word_int) _ _ (fine_ok t kinds.Int (plain 4 true, refl))
    (fine_if t (code == code_of word_long) _ _ (fine_ok t kinds.Long (plain 8 true, refl))
    (fine_if t (code == code_of word_string) _ _ (fine_ok t kinds.Text (plain 1 false, refl))
    (fine_if t (code == code_of word_object) _ _ (fine_ok t (if star then kinds.Proxy None else kinds.Class None) (fine_object t star))
    (fine_if t (code == code_of word_value) _ _ (fine_ok t (kinds.Class None) (reference, refl)) (λ kind e. absurd cc))))))))

named_by : (k : Known) → KnowsRows k → (path : Path) (star : Bool) → Fine k.tables (use_of (if star then as_proxy else as_type) (standing k path))
named_by k knows path true kind e = use_so k.tables as_proxy (IsOf k.tables) (proxy_says k.tables) (standing k path) kind (standing_row k knows path) e
named_by k knows path false kind e = use_so k.tables as_type (IsOf k.tables) (type_says k.tables) (standing k path) kind (standing_row k knows path) e

pub type_row : (k : Known) → KnowsRows k → (word : TypeWord) (kind : TypeRef) → type_of k word ≡ Ok kind → IsOf k.tables kind
type_row k knows (words.Built code star place) kind e = fine_built k.tables code star kind e
type_row k knows (words.Named path star) kind e = named_by k knows path star kind e

pub exception_row : (k : Known) → KnowsRows k → (path : Path) (at : ℕ) → exception_of k path ≡ Ok at → at < length k.tables.exceptions
exception_row k knows path at e = use_so k.tables as_exception (λ (n : ℕ). n < length k.tables.exceptions) (exception_says k.tables) (standing k path) at (standing_row k knows path) e

pub class_row : (k : Known) → KnowsRows k → (path : Path) (at : ℕ) → class_named k path ≡ Ok at → at < length k.tables.classes
class_row k knows path at e = use_so k.tables as_class (λ (n : ℕ). n < length k.tables.classes) (as_class_says k.tables) (standing k path) at (standing_row k knows path) e

pub interface_row : (k : Known) → KnowsRows k → (path : Path) (at : ℕ) → interface_named k path ≡ Ok at → at < length k.tables.interfaces
interface_row k knows path at e = use_so k.tables as_interface (λ (n : ℕ). n < length k.tables.interfaces) (interface_says k.tables) (standing k path) at (standing_row k knows path) e
