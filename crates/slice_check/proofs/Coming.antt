-- A walk comes further.
use Rattle.std.proofs.Common.{◌≡◌, ℕ, zero, suc, ◌+◌, ◌-◌, ◌*◌, ◌<◌, ◌≤◌, Bool, true, false, IsTrue, List, [], ◌∷◌, ◌++◌, map, reverse, length, take, drop, slice_get, get_or, Contains, Option, Some, None, Result, Ok, Err, String, Global, refl, sym, ap, ◌∙◌, subst, arith}
use Rattle.std.specs.List.{AllByRecursion}
use Rattle.std.specs.Result.{IsErrAnd}
use Rattle.std.specs.BTreeSet.{BTreeSet, contains_text}
use Rattle.std.proofs.lemmas.Bool.{false≢true}
use Rattle.std.proofs.lemmas.Option.{get_or_from_slice_get, slice_get_within, slice_get_read, slice_get_past}
use Rattle.std.proofs.lemmas.List.{append-nil, reverse-append, map-append, drop_more, length-append}
use Rattle.std.proofs.lemmas.List.Elements.{All-nil, All-cons, All-head, All-tail}
use Rattle.slice_syntax.specs.declared.tree.File.{File}
use Rattle.slice_syntax.specs.Places.{AreRegular, Each}
use Rattle.slice_meaning.specs.declared.limits.TheConstants.{MOST_FILES}
use Rattle.slice_meaning.specs.Names.{Name}
use Rattle.slice_meaning.specs.Printed.{broken_at}
use Rattle.slice_meaning.specs.Loading.{Shelf, Includes, Loaded, WalkBreaks}
use Rattle.slice_check.specs.declared.fault.LoadFault.{LoadFault}
use Rattle.slice_check.specs.declared.fault.LoadFault.TheVariants as faults
use Rattle.slice_check.specs.declared.open.Open.{Open}
use Rattle.slice_check.specs.declared.files.Files.{Files}
use Rattle.slice_check.specs.declared.walk.Walk.{Walk}
use Rattle.slice_check.specs.Answers.{IfText}
use Rattle.slice_check.specs.Held.{Holds, unloaded}
use Rattle.slice_check.specs.Opening.{Told, IsNew, BreaksThere}
use Rattle.slice_check.specs.Walking.{Inside, GoesOn}
use Rattle.slice_check.specs.Standing.{inside, HasCome, IsFirst, StepsWalk, AreWalked, Walks}
use Rattle.slice_check.proofs.Steps.{starts, completes, passes, enters, ended, fails}

-- ---- the next include

-- some includes before the first one of no loaded file are of loaded ones
abbrev Parts : (Name → Bool) → Includes → Includes → Type 0
Parts is_loaded includes left = (skipped : Includes) × AllByRecursion (λ i. IsTrue (is_loaded i.0)) skipped × (includes ≡ skipped ++ left)

parts_more : (is_loaded : Name → Bool) (i : Name × ℕ) (others : Includes) (b : Bool) → is_loaded i.0 ≡ b → Parts is_loaded others (unloaded is_loaded others)
    → Parts is_loaded (i ∷ others) (elim b [ true ↦ unloaded is_loaded others | false ↦ i ∷ others ])
parts_more is_loaded i others true e rest = (i ∷ rest.0, (e, rest.1), ap (λ (is : Includes). i ∷ is) rest.2)
parts_more is_loaded i others false e rest = ([], tt, refl)

unloaded_parts : (is_loaded : Name → Bool) (includes : Includes) → Parts is_loaded includes (unloaded is_loaded includes)
unloaded_parts is_loaded [] = ([], tt, refl)
unloaded_parts is_loaded (i ∷ others) = parts_more is_loaded i others (is_loaded i.0) refl (unloaded_parts is_loaded others)

-- the first one of no loaded file is so
first_more : (is_loaded : Name → Bool) (i first : Name × ℕ) (behind others : Includes) (b : Bool) → is_loaded i.0 ≡ b → (unloaded is_loaded behind ≡ first ∷ others → is_loaded first.0 ≡ false)
    → elim b [ true ↦ unloaded is_loaded behind | false ↦ i ∷ behind ] ≡ first ∷ others → is_loaded first.0 ≡ false
first_more is_loaded i first behind others true h rest e = rest e
first_more is_loaded i first behind others false h rest e = let same : i ≡ first = cc in subst (λ (x : Name × ℕ). is_loaded x.0 ≡ false) same h

unloaded_first : (is_loaded : Name → Bool) (includes : Includes) (first : Name × ℕ) (others : Includes) → unloaded is_loaded includes ≡ first ∷ others → is_loaded first.0 ≡ false
unloaded_first is_loaded [] first others e = absurd cc
unloaded_first is_loaded (i ∷ behind) first others e = first_more is_loaded i first behind others (is_loaded i.0) refl (unloaded_first is_loaded behind first others) e

all_weaker : {A : Type 0} (P Q : A → Type 0) → ((x : A) → P x → Q x) → (xs : List A) → AllByRecursion P xs → AllByRecursion Q xs
all_weaker P Q f [] h = tt
all_weaker P Q f (x ∷ xs) h = (f x h.0, all_weaker P Q f xs h.1)

none_left : {A : Type 0} (xs : List A) (at : ℕ) → slice_get xs at ≡ None → drop at xs ≡ []
none_left [] zero e = refl
none_left [] (suc at) e = refl
none_left (x ∷ xs) zero e = absurd cc
none_left (x ∷ xs) (suc at) e = none_left xs at e

some_left : {A : Type 0} (xs : List A) (at : ℕ) (x : A) → slice_get xs at ≡ Some x → drop at xs ≡ x ∷ drop (at + 1) xs
some_left xs at x e = rw (sym (get_or_from_slice_get xs at x x e)) (drop_more xs at x (slice_get_within xs at x e))

-- the innermost file, of which includes of loaded files were passed over
pub passing : (files : Option Shelf) (file : Name) (names : BTreeSet (String Global)) (f : Files) (user : Open) (around : List Open) (next : ℕ)
    → drop next user.tree.included ≡ unloaded (contains_text names) (drop user.next user.tree.included) → (s : HasCome files file names f (user ∷ around))
    → Told files (λ shelf. GoesOn shelf file s.loaded s.complete (record { name = user.name; tree = user.tree; left = drop next user.tree.included } ∷ map inside around))
passing files file names f user around next e s shelf is =
    let old = drop user.next user.tree.included in
    let left = drop next user.tree.included in
    let parts = unloaded_parts (contains_text names) old in
    passes shelf file s.loaded s.complete user.name user.tree parts.0 left (map inside around)
    (all_weaker (λ i. IsTrue (contains_text names i.0)) (λ i. Contains s.loaded i.0) (λ i h. (s.held.those i.0).0 h) parts.0 parts.1)
    (subst (λ (l : Includes). GoesOn shelf file s.loaded s.complete (record { name = user.name; tree = user.tree; left = l } ∷ map inside around))
    (parts.2 ∙ ap (λ (l : Includes). parts.0 ++ l) (sym e)) (s.goes_on shelf is))

each_pushed : {A : Type 0} (P : A → Type 0) (xs : List A) (x : A) → Each P xs → P x → Each P (xs ++ x ∷ [])
each_pushed P [] x h is = (is, tt)
each_pushed P (y ∷ ys) x h is = (h.0, each_pushed P ys x h.1 is)

-- the walk comes out of a file
pub comes_out : (files : Option Shelf) (file : Name) (names : BTreeSet (String Global)) (f g : Files) (user : Open) (around : List Open) (next : ℕ)
    → drop next user.tree.included ≡ unloaded (contains_text names) (drop user.next user.tree.included) → slice_get user.tree.included next ≡ None → g.names ≡ f.names ++ user.name ∷ [] → g.trees ≡ f.trees ++ user.tree ∷ []
    → HasCome files file names f (user ∷ around) → HasCome files file names g around
comes_out files file names f g user around next e none named read s = record {
  loaded = s.loaded;
  complete = s.complete ++ (user.name, user.tree) ∷ [];
  held = s.held;
  few = s.few;
  those = record {
    named = named ∙ (ap (λ (n : List Name). n ++ user.name ∷ []) s.those.named ∙ sym (map-append (λ (l : Loaded). l.0) s.complete ((user.name, user.tree) ∷ [])));
    read = read ∙ (ap (λ (t : List File). t ++ user.tree ∷ []) s.those.read ∙ sym (map-append (λ (l : Loaded). l.1) s.complete ((user.name, user.tree) ∷ [])));
    regular = subst (Each AreRegular) (sym read) (each_pushed AreRegular f.trees user.tree s.those.regular (All-head (λ (o : Open). AreRegular o.tree) user around s.regular));
  };
  regular = All-tail (λ (o : Open). AreRegular o.tree) user around s.regular;
  goes_on = λ shelf is. completes shelf file s.loaded s.complete (record { name = user.name; tree = user.tree; left = drop next user.tree.included }) (map inside around) (none_left user.tree.included next none)
      (passing files file names f user around next e s shelf is);
}

-- a file that was opened just now
just_opened : (name : Name) (o : Open) → o.name ≡ name → o.next ≡ 0 → inside o ≡ record { name = name; tree = o.tree; left = o.tree.included }
just_opened name o e f = ap (λ (n : Name). record { name = n; tree = o.tree; left = drop o.next o.tree.included }) e ∙ ap (λ (n : ℕ). record { name = name; tree = o.tree; left = drop n o.tree.included }) f

-- the next include is of no loaded file
pub not_loaded : (names : BTreeSet (String Global)) (loaded : List Name) (includes : Includes) (from next : ℕ) (name : Name) (place : ℕ)
    → drop next includes ≡ unloaded (contains_text names) (drop from includes) → slice_get includes next ≡ Some (name, place) → Holds names loaded → Contains loaded name → ⊥
not_loaded names loaded includes from next name place e some held h =
    false≢true (sym (unloaded_first (contains_text names) (drop from includes) (name, place) (drop (next + 1) includes) (sym e ∙ some_left includes next (name, place) some)) ∙ (held.those name).1 h)

-- the walk goes into the file of the next include
pub goes_in : (files : Option Shelf) (file : Name) (names more : BTreeSet (String Global)) (f : Files) (user inner : Open) (around : List Open) (next : ℕ) (name : Name) (place : ℕ)
    → drop next user.tree.included ≡ unloaded (contains_text names) (drop user.next user.tree.included) → slice_get user.tree.included next ≡ Some (name, place)
    → (s : HasCome files file names f (user ∷ around)) → IsNew files s.loaded name more inner → HasCome files file more f (inner ∷ record { name = user.name; tree = user.tree; next = next + 1 } ∷ around)
goes_in files file names more f user inner around next name place e some s is = record {
  loaded = name ∷ s.loaded;
  complete = s.complete;
  held = is.held;
  few = omega (arith, is.few);
  those = s.those;
  regular = All-cons (λ (o : Open). AreRegular o.tree) inner (record { name = user.name; tree = user.tree; next = next + 1 } ∷ around) is.regular
      (All-cons (λ (o : Open). AreRegular o.tree) (record { name = user.name; tree = user.tree; next = next + 1 }) around (All-head (λ (o : Open). AreRegular o.tree) user around s.regular)
      (All-tail (λ (o : Open). AreRegular o.tree) user around s.regular));
  goes_on = λ shelf told.
      let found = is.found shelf told in
      let there = passing files file names f user around next e s shelf told in
      let rest = drop (next + 1) user.tree.included in
      subst (λ (i : Inside). GoesOn shelf file (name ∷ s.loaded) s.complete (i ∷ record { name = user.name; tree = user.tree; left = rest } ∷ map inside around)) (sym (just_opened name inner is.named is.next))
      (enters shelf file s.loaded s.complete user.name user.tree name place rest found.0 inner.tree (map inside around)
      (record { new = not_loaded names s.loaded user.tree.included user.next next name place e some s.held; found = found.1; room = is.few }) found.2
      (subst (λ (l : Includes). GoesOn shelf file s.loaded s.complete (record { name = user.name; tree = user.tree; left = l } ∷ map inside around)) (some_left user.tree.included next (name, place) some) there));
}

-- the next include has a fault
pub stops : (files : Option Shelf) (file : Name) (names : BTreeSet (String Global)) (f : Files) (user : Open) (around : List Open) (next : ℕ) (name : Name) (place : ℕ) (fault : LoadFault)
    → drop next user.tree.included ≡ unloaded (contains_text names) (drop user.next user.tree.included) → slice_get user.tree.included next ≡ Some (name, place)
    → (s : HasCome files file names f (user ∷ around)) → IfText (BreaksThere files s.loaded user.name name place) fault → IsFirst files file fault
stops files file names f user around next name place (faults.Text at spot kind) e some s h = λ shelf told.
    fails shelf file s.loaded s.complete (record { name = user.name; tree = user.tree; left = drop next user.tree.included }) (map inside around) (broken_at at spot kind) (passing files file names f user around next e s shelf told)
    (subst (λ (l : Includes). WalkBreaks shelf s.loaded user.name l (broken_at at spot kind)) (sym (some_left user.tree.included next (name, place) some)) (h shelf told (drop (next + 1) user.tree.included)))
stops files file names f user around next name place faults.Shelf e some s h = tt
stops files file names f user around next name place faults.Memory e some s h = tt

-- ---- what the code sees of the includes

pub included_at : (seen includes : Includes) (at : ℕ) (i : Name × ℕ) → seen ≡ includes → at < length seen → i ≡ get_or seen at i → slice_get includes at ≡ Some i
included_at seen includes at i same within is = subst (λ (l : Includes). slice_get l at ≡ Some i) same (slice_get_read seen (length seen) at i refl within is)

pub included_past : (seen includes : Includes) (at : ℕ) → seen ≡ includes → length seen ≤ at → slice_get includes at ≡ None
included_past seen includes at same past = subst (λ (l : Includes). slice_get l at ≡ None) same (slice_get_past seen at past)

pub next_is : (names : BTreeSet (String Global)) (seen includes : Includes) (from next : ℕ) → seen ≡ includes → drop next seen ≡ unloaded (contains_text names) (drop from seen)
    → drop next includes ≡ unloaded (contains_text names) (drop from includes)
next_is names seen includes from next same e = subst (λ (l : Includes). drop next l ≡ unloaded (contains_text names) (drop from l)) same e

-- two more files are open, the last one innermost
pub two_pushed : {A : Type 0} (xs ys zs : List A) (x y : A) → ys ≡ xs ++ x ∷ [] → zs ≡ ys ++ y ∷ [] → reverse zs ≡ y ∷ x ∷ reverse xs
two_pushed xs ys zs x y e f = ap reverse f ∙ (reverse-append ys (y ∷ []) ∙ ap (λ l. y ∷ l) (ap reverse e ∙ reverse-append xs (x ∷ [])))

-- the measure falls where one more file is loaded, and one more is open
pub work_falls : {A : Type 0} (xs ys zs : List A) (x y : A) (loaded : List Name) (name : Name) (before after : ℕ) → ys ≡ xs ++ x ∷ [] → zs ≡ ys ++ y ∷ [] → before ≡ length loaded → after ≡ length (name ∷ loaded)
    → length loaded < MOST_FILES → 2 * (MOST_FILES - after) + length zs < 2 * (MOST_FILES - before) + length xs + 1
work_falls xs ys zs x y loaded name before after e f old new few =
    let more : length zs ≡ length xs + 2 = ap length f ∙ (length-append ys (y ∷ []) ∙ (ap (λ (n : ℕ). n + 1) (ap length e ∙ length-append xs (x ∷ [])) ∙ omega arith)) in
    omega (arith, more, old, new, few)

-- a fault is passed on
pub first_passed : (files : Option Shelf) (file : Name) (w : Walk) (fault : LoadFault) (answer : Result (Unit {0}) LoadFault) → IsErrAnd answer (λ e. e ≡ fault) → IsFirst files file fault → StepsWalk files file w answer
first_passed files file w fault (Ok x) e h = absurd e
first_passed files file w fault (Err other) e h = subst (IsFirst files file) (sym e) h

pub fault_passed : (files : Option Shelf) (file : Name) (fault : LoadFault) (answer : Result Files LoadFault) → IsErrAnd answer (λ e. e ≡ fault) → IsFirst files file fault → Walks files file answer
fault_passed files file fault (Ok x) e h = absurd e
fault_passed files file fault (Err other) e h = subst (IsFirst files file) (sym e) h

-- ---- the whole walk

-- FILE itself is open
pub begins : (files : Option Shelf) (file : Name) (names : BTreeSet (String Global)) (f : Files) (o : Open) → f.names ≡ [] → f.trees ≡ [] → IsNew files [] file names o → HasCome files file names f (o ∷ [])
begins files file names f o named read is = record {
  loaded = file ∷ [];
  complete = [];
  held = is.held;
  few = omega arith;
  those = record { named = named; read = read; regular = subst (Each AreRegular) (sym read) tt };
  regular = All-cons (λ (o : Open). AreRegular o.tree) o [] is.regular (All-nil (λ (o : Open). AreRegular o.tree));
  goes_on = λ shelf told. let found = is.found shelf told in
      subst (λ (i : Inside). GoesOn shelf file (file ∷ []) [] (i ∷ [])) (sym (just_opened file o is.named is.next)) (starts shelf file found.0 o.tree found.1 found.2);
}

-- the walk is out of all files
pub is_over : (files : Option Shelf) (file : Name) (names : BTreeSet (String Global)) (f : Files) (around : List Open) → around ≡ [] → HasCome files file names f around → AreWalked files file f
is_over files file names f around e s = record {
  loaded = s.loaded;
  complete = s.complete;
  those = s.those;
  walked = λ shelf told. ended shelf file s.loaded s.complete (subst (λ (o : List Open). GoesOn shelf file s.loaded s.complete (map inside o)) e (s.goes_on shelf told));
}

-- FILE itself has a fault
pub first_fault : (files : Option Shelf) (file : Name) (fault : LoadFault) → IfText (BreaksThere files [] file file 0) fault → IsFirst files file fault
first_fault files file (faults.Text at spot kind) h = λ shelf told. h shelf told []
first_fault files file faults.Shelf h = tt
first_fault files file faults.Memory h = tt

-- ---- what the code sees of the open files

pub one_pushed : {A : Type 0} (xs ys : List A) (x : A) → xs ≡ [] → ys ≡ xs ++ x ∷ [] → reverse ys ≡ x ∷ []
one_pushed xs ys x e f = ap reverse (f ∙ ap (λ l. l ++ x ∷ []) e)

pub one_popped : {A : Type 0} (xs ys : List A) (x : A) → ys ≡ xs ++ x ∷ [] → reverse ys ≡ x ∷ reverse xs
one_popped xs ys x e = ap reverse e ∙ reverse-append xs (x ∷ [])

pub none_popped : {A : Type 0} (all left : List A) (size : ℕ) → all ≡ left ++ [] → left ≡ take (size - 1) all → size ≡ 0 → reverse all ≡ []
none_popped all left size is cut none = ap reverse (is ∙ (append-nil left ∙ (cut ∙ ap (λ (n : ℕ). take (n - 1) all) none)))

-- the measure before a file was taken off
pub work_before : {A : Type 0} (xs ys : List A) (x : A) (rest now : ℕ) → ys ≡ xs ++ x ∷ [] → now < rest + length xs + 1 → now < rest + length ys
work_before xs ys x rest now e less = omega (arith, less, ap length e ∙ length-append xs (x ∷ []))
