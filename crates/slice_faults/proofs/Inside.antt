-- Enumerators are declared inside their enum.
use Rattle.std.proofs.Common.{◌≡◌, ℕ, suc, ◌≤◌, Bool, true, false, cond, List, [], ◌∷◌, ◌++◌, length, map, Option, None, refl, sym, ap, ◌∙◌, subst, arith}
use Rattle.std.specs.Prelude.{◌&&◌, ◌==◌, bytes_eq}
use Rattle.std.specs.Str.{str_eq_ignore_ascii_case}
use Rattle.std.proofs.lemmas.Bool.Decides.{nat_tests}
use Rattle.slice_syntax.specs.declared.tree.Word.{Word}
use Rattle.slice_syntax.specs.declared.tree.Constant.{Constant}
use Rattle.slice_syntax.specs.Places.{Each}
use Rattle.ice_types.specs.Tables.{Tables}
use Rattle.slice_meaning.specs.declared.fault.CheckKind.TheVariants as rows
use Rattle.slice_meaning.specs.declared.standing.Standing.{Standing}
use Rattle.slice_meaning.specs.Names.{Name, Scope, Declared, same_scope, declared_in}
use Rattle.slice_meaning.specs.Known.{Known, new_declared, with_name}
use Rattle.slice_meaning.specs.Clashes.{new_name, is_among, second_names}
use Rattle.slice_meaning.specs.Uses.{where_true}
use Rattle.slice_meaning.specs.Members.{entry_faults}
use Rattle.slice_meaning.specs.Faults.{is_empty, enum_faults}
use Rattle.slice_meaning.specs.After.{enumerator, with_entries}
use Rattle.slice_meaning.specs.Numbers.{scope_at}
use Rattle.slice_meaning.proofs.Numbering.{scope_test}
use Rattle.slice_faults.specs.Held.{AreFree}
use Rattle.slice_faults.specs.Kept.{IsInside}
use Rattle.slice_faults.proofs.Free.{both_none, test_off, parts_off, not_called, scope_stays}
use Rattle.slice_faults.proofs.Keeping.{none_inside}

abbrev Tree : Type 0
Tree = Word × Option Constant

-- ---- scopes

more_entries : (file at : ℕ) (inner : Scope) (es : List Tree) (ds : List Declared) → length ds ≤ length (with_entries file at inner es ds)
more_entries file at inner [] ds = omega arith
more_entries file at inner (e ∷ es) ds = let h = more_entries file at inner es (enumerator file at inner e.0 ∷ ds) in omega (arith, h)

entries_scope : (file at : ℕ) (inner : Scope) (es : List Tree) (ds : List Declared) (n : ℕ) → n ≤ length ds → scope_at (with_entries file at inner es ds) n ≡ scope_at ds n
entries_scope file at inner [] ds n h = refl
entries_scope file at inner (e ∷ es) ds n h =
    let d = enumerator file at inner e.0 in
    entries_scope file at inner es (d ∷ ds) n (omega arith) ∙ scope_stays d ds n h

newest : (n : ℕ) → (suc n == suc n) ≡ true
newest n = grind (arith, nat_tests)

pub newest_scope : (d : Declared) (ds : List Declared) → scope_at (d ∷ ds) (length (d ∷ ds)) ≡ d.name ∷ d.scope
newest_scope d ds = ap (λ (b : Bool). cond b (d.name ∷ d.scope) (scope_at ds (suc (length ds)))) (newest (length ds))

-- what is known with the enumerators
pub known_inside : (file scope at inside : ℕ) (old new : List Declared) (t : Tables) (es : List Tree) → scope ≤ length old → inside ≡ length old → new ≡ with_entries file at (scope_at old inside) es old
    → ◌≡◌ {A = Known} (record { file = file; scope = scope_at new scope; declared = new; tables = t }) (record { file = file; scope = scope_at old scope; declared = with_entries file at (scope_at old (length old)) es old; tables = t })
known_inside file scope at inside old new t es h last is =
    let make : Scope → List Declared → Known = λ s ds. record { file = file; scope = s; declared = ds; tables = t } in
    let all : new ≡ with_entries file at (scope_at old (length old)) es old = is ∙ ap (λ n. with_entries file at (scope_at old n) es old) last in
    ap (λ ds. make (scope_at ds scope) ds) all ∙ ap (λ s. make s (with_entries file at (scope_at old (length old)) es old)) (entries_scope file at (scope_at old (length old)) es old scope h)

-- ---- names

-- what is declared stands inside declarations
abbrev AreInside : Known → Type 0
AreInside k = Each (λ d. IsInside k.declared d.scope) k.declared

-- what is not among some names is not declared inside
abbrev IsFreeBut : Scope → List Name → List Declared → Type 0
IsFreeBut inner before ds = (n : Name) → is_among before n ≡ false → declared_in ds n inner ≡ None

one_more : (inner : Scope) (before : List Name) (ds : List Declared) (d : Declared) → IsFreeBut inner before ds → IsFreeBut inner (d.name ∷ before) (d ∷ ds)
one_more inner before ds d free n h =
    let parts = parts_off (str_eq_ignore_ascii_case d.name n) (is_among before n) h in
    ap (λ (b : Bool). cond b (Option.Some d) (declared_in ds n inner)) (not_called d n inner (off (same_scope d.scope inner) (str_eq_ignore_ascii_case d.name n) parts.0)) ∙ free n parts.1
  where
    off : (a b : Bool) → b ≡ false → a && b ≡ false
    off true b h = h
    off false b h = refl

free_entries : (file at : ℕ) (inner : Scope) (es : List Tree) (before : List Name) (ds : List Declared) → IsFreeBut inner before ds → second_names before (map (λ e. e.0) es) ≡ [] → AreFree file at inner es ds
free_entries file at inner [] before ds free h = tt
free_entries file at inner (e ∷ es) before ds free h =
    let parts = both_none (where_true (is_among before e.0.name) e.0.place rows.Clash) (second_names (e.0.name ∷ before) (map (λ e. e.0) es)) h in
    let d = enumerator file at inner e.0 in
    (free e.0.name (test_off (is_among before e.0.name) e.0.place rows.Clash parts.0), free_entries file at inner es (e.0.name ∷ before) (d ∷ ds) (one_more inner before ds d free) parts.1)

longer : (s : Scope) (w : Name) → s ≡ w ∷ s → ⊥
longer s w h = let l = ap length h in omega (arith, l)

-- nothing is inside a new name
none_yet : (k : Known) (word : Word) (s : Standing) → AreInside k → declared_in k.declared word.name k.scope ≡ None → (n : Name) → declared_in (new_declared k word s ∷ k.declared) n (word.name ∷ k.scope) ≡ None
none_yet k word s kept new n =
    let d = new_declared k word s in
    ap (λ (b : Bool). cond (b && bytes_eq d.name n) (Option.Some d) (declared_in k.declared n (word.name ∷ k.scope))) (apart (same_scope k.scope (word.name ∷ k.scope)) refl)
    ∙ none_inside k.declared k.declared n word.name k.scope kept new
  where
    apart : (b : Bool) → same_scope k.scope (word.name ∷ k.scope) ≡ b → same_scope k.scope (word.name ∷ k.scope) ≡ false
    apart true is = absurd (longer k.scope word.name ((scope_test k.scope (word.name ∷ k.scope)).0 is))
    apart false is = is

-- the names of an enum's entries are free inside it
free_inside : (k : Known) (word : Word) (s : Standing) (at : ℕ) (es : List Tree) → AreInside k → declared_in k.declared word.name k.scope ≡ None → second_names [] (map (λ e. e.0) es) ≡ []
    → AreFree k.file at (word.name ∷ k.scope) es (new_declared k word s ∷ k.declared)
free_inside k word s at es kept new apart = free_entries k.file at (word.name ∷ k.scope) es [] (new_declared k word s ∷ k.declared) (λ n h. none_yet k word s kept new n) apart

pub names_apart : (k : Known) (word : Word) (es : List Tree) → enum_faults k word es ≡ [] → second_names [] (map (λ e. e.0) es) ≡ []
names_apart k word es none =
    let a = both_none (new_name k word) (where_true (is_empty es) word.place rows.NoMembers ++ (entry_faults k 0 [] es ++ second_names [] (map (λ e. e.0) es))) none in
    let b = both_none (where_true (is_empty es) word.place rows.NoMembers) (entry_faults k 0 [] es ++ second_names [] (map (λ e. e.0) es)) a.1 in
    (both_none (entry_faults k 0 [] es) (second_names [] (map (λ e. e.0) es)) b.1).1

-- what is known behind the enum's name
abbrev IsFreeInside : Known → ℕ → List Tree → Type 0
IsFreeInside k at es = AreFree k.file at (scope_at k.declared (length k.declared)) es k.declared

pub free_behind : (k now : Known) (word : Word) (s : Standing) (at : ℕ) (es fs : List Tree) → now ≡ with_name k word s → fs ≡ es → AreInside k → declared_in k.declared word.name k.scope ≡ None → second_names [] (map (λ e. e.0) es) ≡ []
    → AreFree now.file at (scope_at now.declared (length now.declared)) fs now.declared
free_behind k now word s at es fs is same kept new none =
    let d = new_declared k word s in
    let here : AreFree k.file at (scope_at (d ∷ k.declared) (length (d ∷ k.declared))) es (d ∷ k.declared) =
    subst (λ (inner : Scope). AreFree k.file at inner es (d ∷ k.declared)) (sym (newest_scope d k.declared)) (free_inside k word s at es kept new none) in
    subst (λ (l : List Tree). IsFreeInside now at l) (sym same) (subst (λ (x : Known). IsFreeInside x at es) (sym is) here)
