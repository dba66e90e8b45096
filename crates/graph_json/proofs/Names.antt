-- Names of one scope differ, and what that tells of members and enumerators.
use Rattle.std.proofs.Common.{◌≡◌, ◌≢◌, ◌≤◌, ◌<◌, ◌^◌, ℕ, zero, suc, Bool, true, false, cond, List, [], ◌∷◌, Option, Some, refl, sym, ap, subst, ◌∙◌, inl, inr, ◌⊎◌, arith}
use Rattle.std.specs.Prelude.{nat_eq, map, All}
use Rattle.std.specs.List.{Any}
use Rattle.std.specs.Str.{bytes_eq, str_to_ascii_lowercase}
use Rattle.std.proofs.lemmas.Bool.{eqb-true, eq-eqb}
use Rattle.std.proofs.lemmas.Option.{none-some, same_Some}
use Rattle.std.proofs.lemmas.List.Elements.{All-head, All-tail}
use Rattle.std.proofs.lemmas.Slice.Eq.{bytes_eq-Decides}
use Rattle.ice_types.specs.declared.declarations.Entry.{Entry}
use Rattle.ice_types.specs.declared.schema.TheConstants.{MOST_NUMBER}
use Rattle.ice_types.specs.Names.{IsFree, AreNew}
use Rattle.ice_encoding.specs.Enum.{HasNumber}
use Rattle.graph_json.specs.ValueNotation.{IsEnumerator}
use Rattle.graph_json.specs.ReadingValues.{number_named}
use Rattle.graph_json.specs.CanonicalValues.{name_numbered}

-- ---- some of a list

module _ {A : Type 0} (P : A → Type 0) where
  any_here : (x : A) (xs : List A) → P x → Any P (x ∷ xs)
  any_here x xs p = (0, x, omega arith, refl, p)

  any_later : (x : A) (xs : List A) → Any P xs → Any P (x ∷ xs)
  any_later x xs h = (suc h.0, h.1, omega (arith, h.2), h.3, h.4)

  any_cases : (x : A) (xs : List A) → Any P (x ∷ xs) → P x ⊎ Any P xs
  any_cases x xs (zero, y, lt, is, p) = inl (subst P (sym is) p)
  any_cases x xs (suc k, y, lt, is, p) = inr (k, y, omega (arith, lt), is, p)

  no_any : Any P [] → ⊥
  no_any (k, y, lt, is, p) = absurd (omega (arith, lt))

  all_any : (Q : A → Type 0) (xs : List A) → All Q xs → Any P xs → (x : A) × P x × Q x
  all_any Q [] all h = absurd (no_any h)
  all_any Q (x ∷ xs) all h = elim (any_cases x xs h) [
    | inl p ↦ (x, p, All-head Q x xs all)
    | inr rest ↦ all_any Q xs (All-tail Q x xs all) rest
  ]

-- ---- names

-- none of the names is this one
abbrev pub LacksName : List ℕ → List (List ℕ) → Type 0
LacksName name [] = Unit {0}
LacksName name (x ∷ xs) = (name ≢ x) × LacksName name xs

-- no two are equal
abbrev pub AreApart : List (List ℕ) → Type 0
AreApart [] = Unit {0}
AreApart (x ∷ xs) = LacksName x xs × AreApart xs

abbrev Other : List ℕ → List ℕ → Type 0
Other name other = str_to_ascii_lowercase other ≢ str_to_ascii_lowercase name

lacks_name : (name : List ℕ) (before names : List (List ℕ)) → ((x : List ℕ) → IsFree before x → name ≢ x) → AreNew before names → LacksName name names
lacks_name name before [] has new = tt
lacks_name name before (x ∷ xs) has new = (has x new.0, lacks_name name (x ∷ before) xs (λ y free. has y (All-tail (Other y) x before free)) new.1)

pub are_apart : (before names : List (List ℕ)) → AreNew before names → AreApart names
are_apart before [] new = tt
are_apart before (x ∷ xs) new =
    (lacks_name x (x ∷ before) xs (λ y free same. All-head (Other y) x before free (ap str_to_ascii_lowercase same)) new.1, are_apart (x ∷ before) xs new.1)

-- ---- enumerators by name and number

abbrev Is : List ℕ → ℕ → Entry → Type 0
Is name n e = (e.name ≡ name) × (e.number ≡ n)

abbrev pub entry_names : List Entry → List (List ℕ)
entry_names entries = map (λ e. e.name) entries

lacks_any : (key name : List ℕ) (n : ℕ) (es : List Entry) → LacksName key (entry_names es) → IsEnumerator es name n → key ≢ name
lacks_any key name n [] lacks h same = no_any (Is name n) h
lacks_any key name n (x ∷ xs) lacks h same = elim (any_cases (Is name n) x xs h) [
  | inl is ↦ lacks.0 (same ∙ sym is.0)
  | inr rest ↦ lacks_any key name n xs lacks.1 rest same
]

named_at : (b : Bool) (name : List ℕ) (n : ℕ) (x : Entry) (xs : List Entry) → bytes_eq x.name name ≡ b → cond b (Some x.number) (number_named name xs) ≡ Some n → (number_named name xs ≡ Some n → IsEnumerator xs name n) → IsEnumerator (x ∷ xs) name n
named_at true name n x xs test e later = any_here (Is name n) x xs ((bytes_eq-Decides x.name name).0 test, same_Some x.number n e)
named_at false name n x xs test e later = any_later (Is name n) x xs (later e)

pub named_found : (name : List ℕ) (n : ℕ) (es : List Entry) → number_named name es ≡ Some n → IsEnumerator es name n
named_found name n [] e = absurd (none-some n e)
named_found name n (x ∷ xs) e = named_at (bytes_eq x.name name) name n x xs refl e (named_found name n xs)

differ : (a b : List ℕ) (test : Bool) → bytes_eq a b ≡ test → a ≢ b → bytes_eq a b ≡ false
differ a b true is other = absurd (other ((bytes_eq-Decides a b).0 is))
differ a b false is other = is

pub named_only : (name : List ℕ) (n : ℕ) (es : List Entry) → AreApart (entry_names es) → IsEnumerator es name n → number_named name es ≡ Some n
named_only name n [] apart h = absurd (no_any (Is name n) h)
named_only name n (x ∷ xs) apart h = elim (any_cases (Is name n) x xs h) [
  | inl is ↦ rw ((bytes_eq-Decides x.name name).1 is.0) (ap some_number is.1)
  | inr rest ↦ rw (differ x.name name (bytes_eq x.name name) refl (lacks_any x.name name n xs apart.0 rest)) (named_only name n xs apart.1 rest)
]
  where
    some_number : ℕ → Option ℕ
    some_number k = Some k

numbered_at : (b : Bool) (n : ℕ) (x : Entry) (xs : List Entry) → nat_eq x.number n ≡ b → HasNumber (x ∷ xs) n → (HasNumber xs n → (name : List ℕ) × (name_numbered n xs ≡ Some name) × IsEnumerator xs name n)
    → (name : List ℕ) × (cond b (Some x.name) (name_numbered n xs) ≡ Some name) × IsEnumerator (x ∷ xs) name n
numbered_at true n x xs test has later = (x.name, refl, any_here (Is x.name n) x xs (refl, eqb-true x.number n test))
numbered_at false n x xs test has later = elim (any_cases (λ e. e.number ≡ n) x xs has) [
  | inl is ↦ clash (nat_eq x.number n) (eq-eqb x.number n is) test
  | inr rest ↦ let found = later rest in (found.0, found.1, any_later (Is found.0 n) x xs found.2)
]
  where
    clash : {C : Type 0} (b : Bool) → b ≡ true → b ≡ false → C
    clash b p q = absurd cc

-- an enumerator of this number has a name, by which it is found
pub numbered : (n : ℕ) (es : List Entry) → HasNumber es n → (name : List ℕ) × (name_numbered n es ≡ Some name) × IsEnumerator es name n
numbered n [] has = absurd (no_any (λ e. e.number ≡ n) has)
numbered n (x ∷ xs) has = numbered_at (nat_eq x.number n) n x xs refl has (numbered n xs)

pub has_number : (name : List ℕ) (n : ℕ) (es : List Entry) → IsEnumerator es name n → HasNumber es n
has_number name n es (k, e, lt, is, here) = (k, e, lt, is, here.1)

abbrev pub entry_numbers : List Entry → List ℕ
entry_numbers entries = map (λ e. e.number) entries

within : (most n : ℕ) (es : List Entry) → All (λ k. k ≤ most) (entry_numbers es) → HasNumber es n → n ≤ most
within most n [] all h = absurd (no_any (λ e. e.number ≡ n) h)
within most n (x ∷ xs) all h = elim (any_cases (λ e. e.number ≡ n) x xs h) [
  | inl is ↦ subst (λ (k : ℕ). k ≤ most) is (All-head (λ k. k ≤ most) x.number (entry_numbers xs) all)
  | inr rest ↦ within most n xs (All-tail (λ k. k ≤ most) x.number (entry_numbers xs) all) rest
]

pub small_number : (n : ℕ) (es : List Entry) → All (λ k. k ≤ MOST_NUMBER) (entry_numbers es) → HasNumber es n → n < 2 ^ 31
small_number n es all h = let le = within MOST_NUMBER n es all h in omega (arith, le)
