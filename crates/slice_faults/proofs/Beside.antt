-- The enumerators beside the enums.
use Rattle.std.proofs.Common.{◌≡◌, ℕ, zero, suc, ◌+◌, ◌≤◌, Bool, true, false, cond, List, [], ◌∷◌, ◌++◌, length, drop, Some, None, refl, sym, ap, ◌∙◌, arith, length-append}
use Rattle.std.specs.Prelude.{◌||◌, String, slice_get, bytes_eq}
use Rattle.std.specs.BTreeSet.{BTreeSet, contains_text}
use Rattle.ice_types.specs.declared.declarations.Entry.{Entry}
use Rattle.ice_types.specs.declared.declarations.EnumDecl.{EnumDecl}
use Rattle.slice_meaning.specs.Names.{Name}
use Rattle.ice_types.specs.Tables.{Tables, with_enum}
use Rattle.slice_faults.specs.Enumerators.{has_name, HoldsEntries, holds_at, AreHeld}
use Rattle.slice_faults.proofs.Noting.{drop_end}

or_none : (b : Bool) → b || false ≡ b
or_none true = refl
or_none false = refl

moved : (a b rest : Bool) → cond a true b || rest ≡ b || (a || rest)
moved true true rest = refl
moved true false rest = refl
moved false true rest = refl
moved false false rest = refl

-- a name more
pub held_next : (entries : List Entry) (i : ℕ) (e : Entry) (text name : Name) (was now all : Bool) → drop i entries ≡ e ∷ drop (i + 1) entries → text ≡ e.name
    → was || has_name (drop i entries) name ≡ all → now ≡ cond (bytes_eq text name) true was → now || has_name (drop (i + 1) entries) name ≡ all
held_next entries i e text name was now all at is so step =
    let rest = has_name (drop (i + 1) entries) name in
    ap (λ b. b || rest) (step ∙ ap (λ (t : Name). cond (bytes_eq t name) true was) is)
    ∙ (moved (bytes_eq e.name name) was rest ∙ (sym (ap (λ l. was || has_name l name) at) ∙ so))

pub held_end : (entries : List Entry) (i : ℕ) (name : Name) (was all : Bool) → length entries ≤ i → was || has_name (drop i entries) name ≡ all → was ≡ all
held_end entries i name was all h so = sym (ap (λ l. was || has_name l name) (drop_end entries i h) ∙ or_none was) ∙ so

-- the set at a place, where there is one
pub held_some : {Y : Type 0} (ss : List (BTreeSet (String Y))) (at : ℕ) (s : BTreeSet (String Y)) (name : Name) → slice_get ss at ≡ Some s → contains_text s name ≡ holds_at ss at name
held_some ss at s name h = rw (h, holds_at) refl

pub held_none : {Y : Type 0} (ss : List (BTreeSet (String Y))) (at : ℕ) (name : Name) → slice_get ss at ≡ None → false ≡ holds_at ss at name
held_none ss at name h = rw (h, holds_at) refl

-- the enum at a place has an enumerator of this name
abbrev named_at : List EnumDecl → ℕ → Name → Bool
named_at es at name = elim (slice_get es at) [
  | None ↦ false
  | Some e ↦ has_name e.entries name
]

-- an enum more
more_at : {Y : Type 0} (ss : List (BTreeSet (String Y))) (es : List EnumDecl) (s : BTreeSet (String Y)) (e : EnumDecl) (name : Name) → length ss ≡ length es
    → ((at : ℕ) → holds_at ss at name ≡ named_at es at name) → contains_text s name ≡ has_name e.entries name
    → (at : ℕ) → holds_at (ss ++ s ∷ []) at name ≡ named_at (es ++ e ∷ []) at name
more_at [] [] s e name l h is zero = is
more_at [] [] s e name l h is (suc at) = refl
more_at [] (y ∷ es) s e name l h is at = absurd cc
more_at (x ∷ ss) [] s e name l h is at = absurd cc
more_at (x ∷ ss) (y ∷ es) s e name l h is zero = h zero
more_at (x ∷ ss) (y ∷ es) s e name l h is (suc at) = more_at ss es s e name (cc) (λ i. h (suc i)) is at

pub held_more : {Y : Type 0} (ss : List (BTreeSet (String Y))) (t : Tables) (s : BTreeSet (String Y)) (e : EnumDecl) → AreHeld ss t → HoldsEntries s e.entries → AreHeld (ss ++ s ∷ []) (with_enum t e)
held_more ss t s e held holds =
    let long : length (ss ++ s ∷ []) ≡ length (t.enums ++ e ∷ []) = omega (arith, held.0, length-append ss (s ∷ []), length-append t.enums (e ∷ [])) in
    (long, λ at name. more_at ss t.enums s e name held.0 (λ i. held.1 i name) (holds name) at)
