-- Without faults the name of a declaration is new.
use Rattle.std.proofs.Common.{◌≡◌, ℕ, suc, ◌≤◌, Bool, true, false, not, cond, List, [], ◌∷◌, ◌++◌, length, Option, Some, None, refl, sym, ap, ◌∙◌, arith}
use Rattle.std.specs.Prelude.{◌&&◌, ◌||◌, ◌==◌, bytes_eq}
use Rattle.std.specs.Option.{is_some}
use Rattle.std.specs.Str.{str_to_ascii_lowercase, str_eq_ignore_ascii_case}
use Rattle.std.proofs.lemmas.Slice.Eq.{bytes_eq-Decides}
use Rattle.std.proofs.lemmas.Bool.Decides.{nat_tests}
use Rattle.slice_syntax.specs.declared.tree.Word.{Word}
use Rattle.slice_meaning.specs.declared.fault.CheckKind.{CheckKind}
use Rattle.slice_meaning.specs.declared.fault.CheckKind.TheVariants as rows
use Rattle.slice_meaning.specs.declared.fault.Fault.{Fault}
use Rattle.slice_meaning.specs.Names.{Name, Scope, Declared, same_scope, is_called, declared_in, taken_in}
use Rattle.slice_meaning.specs.Known.{Known}
use Rattle.slice_meaning.specs.Uses.{where_true}
use Rattle.slice_meaning.specs.Clashes.{new_name, is_taken}
use Rattle.slice_meaning.specs.Checking.{comes_before, noted}
use Rattle.slice_meaning.specs.Numbers.{scope_at}

-- ---- nothing is noted where no fault is

stays : (fs : List Fault) (found : Fault) → noted (Some found) fs ≡ None → ⊥
stays [] found h = absurd cc
stays (f ∷ fs) found h = stays fs (cond (comes_before found f) found f) h

pub none_noted : (fs : List Fault) → noted None fs ≡ None → fs ≡ []
none_noted [] h = refl
none_noted (f ∷ fs) h = absurd (stays fs f h)

pub both_none : {A : Type 0} (xs ys : List A) → xs ++ ys ≡ [] → (xs ≡ []) × (ys ≡ [])
both_none [] ys h = (refl, h)
both_none (x ∷ xs) ys h = absurd cc

pub test_off : (b : Bool) (place : ℕ) (row : CheckKind) → where_true b place row ≡ [] → b ≡ false
test_off true place row h = absurd cc
test_off false place row h = refl

-- ---- names

pub parts_off : (a b : Bool) → a || b ≡ false → (a ≡ false) × (b ≡ false)
parts_off true b h = absurd cc
parts_off false b h = (refl, h)

pub not_called : (d : Declared) (w : Name) (p : Scope) → same_scope d.scope p && str_eq_ignore_ascii_case d.name w ≡ false → is_called p w d ≡ false
not_called d w p h = by_scope (same_scope d.scope p) h
  where
    by_name : (b : Bool) → bytes_eq d.name w ≡ b → str_eq_ignore_ascii_case d.name w ≡ false → b ≡ false
    by_name false is h = refl
    by_name true is h = sym ((bytes_eq-Decides (str_to_ascii_lowercase d.name) (str_to_ascii_lowercase w)).1 (ap str_to_ascii_lowercase ((bytes_eq-Decides d.name w).0 is))) ∙ h

    by_scope : (b : Bool) → b && str_eq_ignore_ascii_case d.name w ≡ false → b && bytes_eq d.name w ≡ false
    by_scope true h = by_name (bytes_eq d.name w) refl h
    by_scope false h = refl

pub not_declared : (ds : List Declared) (w : Name) (p : Scope) → taken_in ds w p ≡ false → declared_in ds w p ≡ None
not_declared [] w p h = refl
not_declared (d ∷ ds) w p h =
    let parts = parts_off _ _ h in
    ap (λ (b : Bool). cond b (Some d) (declared_in ds w p)) (not_called d w p parts.0) ∙ not_declared ds w p parts.1

pub free_name : (k : Known) (word : Word) (others : List Fault) → noted None (new_name k word ++ others) ≡ None → declared_in k.declared word.name k.scope ≡ None
free_name k word others h =
    not_declared k.declared word.name k.scope (test_off (is_taken k word) word.place rows.Clash (both_none (new_name k word) others (none_noted _ h)).0)

-- ---- scopes stay

below : (n m : ℕ) → n ≤ m → (n == suc m) ≡ false
below n m h = grind (arith, nat_tests)

pub scope_stays : (d : Declared) (ds : List Declared) (n : ℕ) → n ≤ length ds → scope_at (d ∷ ds) n ≡ scope_at ds n
scope_stays d ds n h = ap (λ (b : Bool). cond b (d.name ∷ d.scope) (scope_at ds n)) (below n (length ds) h)

-- ---- what follows where no fault was answered

no_fault : (fault : Option Fault) (none : Bool) → is_some fault ≡ not none → none ≡ true → fault ≡ None
no_fault None none is h = refl
no_fault (Some f) none is h = absurd (let off : not none ≡ false = ap not h in let e : true ≡ false = is ∙ off in cc)

pub unfaulted : (fault : Option Fault) (none : Bool) (fs : List Fault) → is_some fault ≡ not none → none ≡ true → fault ≡ noted None fs → fs ≡ []
unfaulted fault none fs is h noted = none_noted fs (sym noted ∙ no_fault fault none is h)

pub free_new : (k : Known) (word : Word) (fault : Option Fault) (none : Bool) (others : List Fault) → is_some fault ≡ not none → none ≡ true → fault ≡ noted None (new_name k word ++ others)
    → declared_in k.declared word.name k.scope ≡ None
free_new k word fault none others is h noted = free_name k word others (sym noted ∙ no_fault fault none is h)
