-- Names of classes and interfaces, which may be declared before they are defined.
use Rattle.std.proofs.Common.{◌≡◌, ℕ, zero, suc, ◌+◌, ◌<◌, Bool, true, false, not, cond, List, [], ◌∷◌, ◌++◌, length, Option, Some, None, refl, sym, ap, ◌∙◌, subst, arith, length-append}
use Rattle.std.specs.Prelude.{◌&&◌, bytes_eq, unwrap_or, option_map}
use Rattle.std.proofs.lemmas.Slice.Eq.{bytes_eq-Decides, slice_eq-Decides}
use Rattle.slice_syntax.specs.declared.tree.Word.{Word}
use Rattle.ice_types.specs.declared.kind.TypeRef.TheVariants as kinds
use Rattle.ice_types.specs.Tables.{Tables, is_defined, with_class, with_interface}
use Rattle.ice_types.specs.Rules.{IsSchema}
use Rattle.slice_meaning.specs.declared.standing.Standing.{Standing}
use Rattle.slice_meaning.specs.declared.standing.Standing.TheVariants as standings
use Rattle.slice_meaning.specs.declared.fault.CheckKind.TheVariants as rows
use Rattle.slice_meaning.specs.Names.{Declared, same_scope, is_called, declared_in}
use Rattle.slice_meaning.specs.Known.{Known, standing_here, new_declared, with_name, with_new_class, with_class_name, with_new_interface, with_interface_name}
use Rattle.slice_meaning.specs.Uses.{as_class, as_interface}
use Rattle.slice_meaning.specs.Clashes.{is_taken, again, reopened_name, may_stand, is_class, is_interface}
use Rattle.slice_meaning.specs.After.{class_at, interface_at}
use Rattle.slice_meaning.specs.Rows.{KnowsRows}
use Rattle.slice_meaning.proofs.KnownNames.{here_row, as_class_says, interface_says}
use Rattle.slice_meaning.proofs.Lookup.{taken_some}
use Rattle.slice_faults.proofs.Free.{test_off}

-- ---- a name that is declared

called : (d : Declared) → is_called d.scope d.name d ≡ true
called d = ap (λ (b : Bool). b && bytes_eq d.name d.name) ((slice_eq-Decides bytes_eq-Decides d.scope d.scope (same_scope d.scope d.scope) refl).1 refl) ∙ (bytes_eq-Decides d.name d.name).1 refl

here_new : (k : Known) (word : Word) (s : Standing) → standing_here (with_name k word s) word ≡ Some s
here_new k word s = ap (λ (b : Bool). option_map (λ (d : Declared). d.standing) (cond b (Some (new_declared k word s)) (declared_in k.declared word.name k.scope))) (called (new_declared k word s))

-- the place that a name stands for
abbrev at_of : (Standing → Option ℕ) → Option Standing → ℕ
at_of sort o = elim o [ None ↦ 0 | Some s ↦ unwrap_or (sort s) 0 ]

-- the flag of a new row
last_flag : (flags : List Bool) (at : ℕ) → at ≡ length flags → is_defined (flags ++ false ∷ []) at ≡ false
last_flag [] zero h = refl
last_flag [] (suc at) h = absurd (omega arith)
last_flag (b ∷ flags) zero h = absurd (omega arith)
last_flag (b ∷ flags) (suc at) h = last_flag flags at (omega arith)

flag_at : (flags : List Bool) (at n : ℕ) (all : ℕ) → length (flags ++ false ∷ []) ≡ all → all ≡ n + 1 → at ≡ n → is_defined (flags ++ false ∷ []) at ≡ false
flag_at flags at n all h more is = last_flag flags at (let l = length-append flags (false ∷ []) in omega arith)

-- a class of a new name is not defined
pub class_undefined : (k new : Known) (word : Word) (at : ℕ) (t : Tables) (id : List ℕ) → new ≡ with_name k word (standings.Type (kinds.Class (Some at))) → k.tables ≡ with_class t id → at ≡ length t.classes → IsSchema k.tables
    → is_defined new.tables.defined_classes (class_at new word) ≡ false
class_undefined k new word at t id named tables is rules =
    let place : class_at new word ≡ at = ap (λ (m : Known). class_at m word) named ∙ ap (at_of as_class) (here_new k word (standings.Type (kinds.Class (Some at)))) in
    let flags : new.tables.defined_classes ≡ t.defined_classes ++ false ∷ [] = ap (λ (m : Known). m.tables.defined_classes) named ∙ ap (λ (u : Tables). u.defined_classes) tables in
    let same : length (t.defined_classes ++ false ∷ []) ≡ length k.tables.classes = sym (ap (λ (u : Tables). length u.defined_classes) tables) ∙ rules.class_flags in
    let more : length k.tables.classes ≡ length t.classes + 1 = ap (λ (u : Tables). length u.classes) tables ∙ length-append t.classes (record { id = id; base = None; compact = None; members = [] } ∷ []) in
    ap (λ (f : List Bool). is_defined f (class_at new word)) flags ∙ flag_at t.defined_classes (class_at new word) (length t.classes) (length k.tables.classes) same more (place ∙ is)

-- an interface of a new name is not defined
pub interface_undefined : (k new : Known) (word : Word) (at : ℕ) (t : Tables) (id : List ℕ) → new ≡ with_name k word (standings.Interface at) → k.tables ≡ with_interface t id → at ≡ length t.interfaces → IsSchema k.tables
    → is_defined new.tables.defined_interfaces (interface_at new word) ≡ false
interface_undefined k new word at t id named tables is rules =
    let place : interface_at new word ≡ at = ap (λ (m : Known). interface_at m word) named ∙ ap (at_of as_interface) (here_new k word (standings.Interface at)) in
    let flags : new.tables.defined_interfaces ≡ t.defined_interfaces ++ false ∷ [] = ap (λ (m : Known). m.tables.defined_interfaces) named ∙ ap (λ (u : Tables). u.defined_interfaces) tables in
    let same : length (t.defined_interfaces ++ false ∷ []) ≡ length k.tables.interfaces = sym (ap (λ (u : Tables). length u.defined_interfaces) tables) ∙ rules.interface_flags in
    let more : length k.tables.interfaces ≡ length t.interfaces + 1 = ap (λ (u : Tables). length u.interfaces) tables ∙ length-append t.interfaces (record { id = id; bases = []; ops = [] } ∷ []) in
    ap (λ (f : List Bool). is_defined f (interface_at new word)) flags ∙ flag_at t.defined_interfaces (interface_at new word) (length t.interfaces) (length k.tables.interfaces) same more (place ∙ is)

-- ---- a name that may stand again

not_off : (b : Bool) → not b ≡ false → b ≡ true
not_off true h = refl
not_off false h = absurd cc

not_on : (b : Bool) → not b ≡ true → b ≡ false
not_on true h = absurd cc
not_on false h = refl

taken_here : (k : Known) (word : Word) (s : Standing) → standing_here k word ≡ Some s → is_taken k word ≡ true
taken_here k word s h = by_found (declared_in k.declared word.name k.scope) refl h
  where
    by_found : (o : Option Declared) → declared_in k.declared word.name k.scope ≡ o → option_map (λ (d : Declared). d.standing) o ≡ Some s → is_taken k word ≡ true
    by_found None is h = absurd cc
    by_found (Some d) is h = taken_some k.declared word.name k.scope d is

-- without a clash what has the name is of the sort
stands_again : (k : Known) (word : Word) (sort : Standing → Bool) (s : Standing) → standing_here k word ≡ Some s → reopened_name k sort word ≡ [] → sort s ≡ true
stands_again k word sort s here none =
    let off : (is_taken k word && not (again sort (standing_here k word))) ≡ false = test_off (is_taken k word && not (again sort (standing_here k word))) word.place rows.Clash none in
    not_off (sort s) (sym (ap (λ (b : Bool). b && not (again sort (standing_here k word))) (taken_here k word s here) ∙ ap (λ (o : Option Standing). not (again sort o)) here) ∙ off)

-- and is not defined yet
still_open : (flags : List Bool) (sort : Standing → Option ℕ) (s : Standing) (o : Option ℕ) → sort s ≡ o → may_stand flags true o ≡ true → (at : ℕ) × (sort s ≡ Some at) × (is_defined flags at ≡ false)
still_open flags sort s None is h = absurd cc
still_open flags sort s (Some at) is h = (at, is, not_on (is_defined flags at) h)

-- the place of a row that may be defined
pub record IsOpen (flags : List Bool) (at rows : ℕ) : Type 0 where
  pub there : at < rows
  pub undefined : is_defined flags at ≡ false

module _ (k : Known) (word : Word) where
  class_open_by : (o : Option Standing) → standing_here k word ≡ o → reopened_name k (is_class k true) word ≡ [] → (m : Known) → m ≡ elim o [ None ↦ with_new_class k word | Some s ↦ k ] → KnowsRows m
      → (o ≡ None → is_defined m.tables.defined_classes (class_at m word) ≡ false) → IsOpen m.tables.defined_classes (class_at m word) (length m.tables.classes)
  class_open_by None is none m same knows fresh =
      let place : class_at m word ≡ length k.tables.classes = ap (λ (m : Known). class_at m word) same ∙ ap (at_of as_class) (here_new k word (standings.Type (kinds.Class (Some (length k.tables.classes))))) in
      let more : length m.tables.classes ≡ length k.tables.classes + 1 = ap (λ (m : Known). length m.tables.classes) same ∙ length-append k.tables.classes _ in
      record { there = omega arith; undefined = fresh refl }
  class_open_by (Some s) is none m same knows fresh =
      let o = still_open k.tables.defined_classes as_class s (as_class s) refl (stands_again k word (is_class k true) s is none) in
      let row = here_row k (subst KnowsRows same knows) word s is in
      let place : class_at k word ≡ o.0 = ap (at_of as_class) is ∙ ap (λ (p : Option ℕ). unwrap_or p 0) o.1 in
      let below = as_class_says k.tables s o.0 row o.1 in
      subst (λ (m : Known). IsOpen m.tables.defined_classes (class_at m word) (length m.tables.classes)) (sym same)
      (record { there = omega arith; undefined = ap (is_defined k.tables.defined_classes) place ∙ o.2 })

  pub class_open : (m : Known) → m ≡ with_class_name k word → reopened_name k (is_class k true) word ≡ [] → KnowsRows m → (standing_here k word ≡ None → is_defined m.tables.defined_classes (class_at m word) ≡ false)
      → IsOpen m.tables.defined_classes (class_at m word) (length m.tables.classes)
  class_open m same none knows fresh = class_open_by (standing_here k word) refl none m same knows fresh

  interface_open_by : (o : Option Standing) → standing_here k word ≡ o → reopened_name k (is_interface k true) word ≡ [] → (m : Known) → m ≡ elim o [ None ↦ with_new_interface k word | Some s ↦ k ] → KnowsRows m
      → (o ≡ None → is_defined m.tables.defined_interfaces (interface_at m word) ≡ false) → IsOpen m.tables.defined_interfaces (interface_at m word) (length m.tables.interfaces)
  interface_open_by None is none m same knows fresh =
      let place : interface_at m word ≡ length k.tables.interfaces = ap (λ (m : Known). interface_at m word) same ∙ ap (at_of as_interface) (here_new k word (standings.Interface (length k.tables.interfaces))) in
      let more : length m.tables.interfaces ≡ length k.tables.interfaces + 1 = ap (λ (m : Known). length m.tables.interfaces) same ∙ length-append k.tables.interfaces _ in
      record { there = omega arith; undefined = fresh refl }
  interface_open_by (Some s) is none m same knows fresh =
      let o = still_open k.tables.defined_interfaces as_interface s (as_interface s) refl (stands_again k word (is_interface k true) s is none) in
      let row = here_row k (subst KnowsRows same knows) word s is in
      let place : interface_at k word ≡ o.0 = ap (at_of as_interface) is ∙ ap (λ (p : Option ℕ). unwrap_or p 0) o.1 in
      let below = interface_says k.tables s o.0 row o.1 in
      subst (λ (m : Known). IsOpen m.tables.defined_interfaces (interface_at m word) (length m.tables.interfaces)) (sym same)
      (record { there = omega arith; undefined = ap (is_defined k.tables.defined_interfaces) place ∙ o.2 })

  pub interface_open : (m : Known) → m ≡ with_interface_name k word → reopened_name k (is_interface k true) word ≡ [] → KnowsRows m → (standing_here k word ≡ None → is_defined m.tables.defined_interfaces (interface_at m word) ≡ false)
      → IsOpen m.tables.defined_interfaces (interface_at m word) (length m.tables.interfaces)
  interface_open m same none knows fresh = interface_open_by (standing_here k word) refl none m same knows fresh
