-- What the quotes of a word leave of its letters.
use Rattle.std.proofs.Common.{ℕ, ◌<◌, ◌≡◌, Bool, true, false, cond, eqb, List, [], ◌∷◌, ◌++◌, length, Option, None, Some, refl, sym, ap, subst, ◌∙◌, arith}
use Rattle.std.specs.Option.{option_and_then}
use Rattle.std.specs.List.{list_any}
use Rattle.std.proofs.lemmas.Bool.{eqb-true, or_parts}
use Rattle.std.proofs.lemmas.List.Folds.{list_any-append}
use Rattle.ice_proxy.specs.Escapes.{Letter, plain, escaped, Escape, escape, with_front, letters, is_quote, until_quote, unquoted}
use Rattle.ice_proxy.specs.Taking.{is_quoted, inside, is_closed, closing, remains}
use Rattle.ice_proxy.proofs.Letters.{some_is, escape_takes, letters_plain, letters_escape, letters_broken, front_none, front_then}

-- The first letter of bytes is a quote where their first byte is.
pub record Headed (c : ℕ) (ls : List Letter) : Type 0 where
  pub first : Letter
  pub others : List Letter
  pub parts : ls ≡ first ∷ others
  pub quote : is_quote first ≡ eqb c 34

front_some : (front ls : List Letter) (found : Option (List Letter)) → with_front front found ≡ Some ls → (others : List Letter) × (ls ≡ front ++ others)
front_some front ls None e = absurd cc
front_some front ls (Some others) e = (others, sym (some_is (front ++ others) ls e))

headed_escape : (made : List ℕ) (others ls : List Letter) → 0 < length made → ls ≡ escaped made ++ others → Headed 92 ls
headed_escape [] others ls lt e = absurd (omega arith)
headed_escape (b ∷ bs) others ls lt e = record { first = record { byte = b; is_escaped = true }; others = escaped bs ++ others; parts = e; quote = refl }

pub letters_head : (c : ℕ) (cs : List ℕ) (ls : List Letter) → letters (c ∷ cs) ≡ Some ls → Headed c ls
letters_head c cs ls e = by_backslash (eqb c 92) refl
  where
    by_escape : (x : Escape) → escape cs ≡ x → letters (92 ∷ cs) ≡ Some ls → Headed 92 ls
    by_escape None is e = absurd (let h = letters_broken cs is in cc)
    by_escape (Some x) is e = let found = front_some (escaped x.0) ls (letters x.1) (sym (letters_escape cs x is) ∙ e) in headed_escape x.0 found.0 ls (escape_takes cs x is).1 found.1

    by_backslash : (b : Bool) → eqb c 92 ≡ b → Headed c ls
    by_backslash true is = let same = eqb-true c 92 is in rw same (by_escape (escape cs) refl (subst (λ (d : ℕ). letters (d ∷ cs) ≡ Some ls) same e))
    by_backslash false is = let found = front_some (plain c ∷ []) ls (letters cs) (sym (letters_plain c cs is) ∙ e) in record { first = plain c; others = found.0; parts = found.1; quote = refl }

-- ---- what stands within the quotes

behind_quote : (found : Option (List Letter)) → option_and_then unquoted (with_front (plain 34 ∷ []) found) ≡ option_and_then until_quote found
behind_quote None = refl
behind_quote (Some ls) = refl

bare_word : (c : ℕ) → eqb c 34 ≡ false → (cs : List ℕ) (found : Option (List Letter)) → letters (c ∷ cs) ≡ found → option_and_then unquoted found ≡ option_and_then (closing false) found
bare_word c no_quote cs None is = refl
bare_word c no_quote cs (Some ls) is =
    let h = letters_head c cs ls is in
    let test : is_quote h.first ≡ false = h.quote ∙ no_quote in
    rw h.parts (rw test refl)

pub word_remains : (word : List ℕ) → option_and_then unquoted (letters word) ≡ remains (is_quoted word) (inside word)
word_remains [] = refl
word_remains (c ∷ cs) = by_quote (eqb c 34) refl
  where
    by_quote : (b : Bool) → eqb c 34 ≡ b → option_and_then unquoted (letters (c ∷ cs)) ≡ remains b (cond b cs (c ∷ cs))
    by_quote true e = rw (eqb-true c 34 e) (ap (option_and_then unquoted) (letters_plain 34 cs refl) ∙ behind_quote (letters cs))
    by_quote false e = bare_word c e cs (letters (c ∷ cs)) refl

-- ---- letters that are no quotes before others

until_one : (l : Letter) (ls : List Letter) → is_quote l ≡ false → until_quote (l ∷ ls) ≡ with_front (l ∷ []) (until_quote ls)
until_one l [] e = rw e refl
until_one l (m ∷ ls) e = rw e refl

until_front : (front ls : List Letter) → list_any is_quote front ≡ false → until_quote (front ++ ls) ≡ with_front front (until_quote ls)
until_front [] ls e = front_none (until_quote ls)
until_front (l ∷ front) ls e =
    let tests = or_parts (is_quote l) (list_any is_quote front) e in
    until_one l (front ++ ls) tests.0 ∙ ap (with_front (l ∷ [])) (until_front front ls tests.1) ∙ front_then (l ∷ []) front (until_quote ls)

bare_front : (front ls : List Letter) → list_any is_quote front ≡ false → closing false (front ++ ls) ≡ with_front front (closing false ls)
bare_front front ls e = by_test (list_any is_quote ls) refl
  where
    by_test : (b : Bool) → list_any is_quote ls ≡ b → closing false (front ++ ls) ≡ with_front front (cond b None (Some ls))
    by_test true is = rw (list_any-append is_quote front ls, e, is) refl
    by_test false is = rw (list_any-append is_quote front ls, e, is) refl

closing_front : (quoted : Bool) (front ls : List Letter) → list_any is_quote front ≡ false → closing quoted (front ++ ls) ≡ with_front front (closing quoted ls)
closing_front true front ls e = until_front front ls e
closing_front false front ls e = bare_front front ls e

closing_found : (quoted : Bool) (front : List Letter) (found : Option (List Letter)) → list_any is_quote front ≡ false → option_and_then (closing quoted) (with_front front found) ≡ with_front front (option_and_then (closing quoted) found)
closing_found quoted front None e = refl
closing_found quoted front (Some ls) e = closing_front quoted front ls e

pub remains_front : (quoted : Bool) (bytes rest : List ℕ) (front : List Letter) → letters bytes ≡ with_front front (letters rest) → list_any is_quote front ≡ false → remains quoted bytes ≡ with_front front (remains quoted rest)
remains_front quoted bytes rest front is e = ap (option_and_then (closing quoted)) is ∙ closing_found quoted front (letters rest) e

-- ---- where a word ends

pub remains_closed : (quoted : Bool) (rest : List ℕ) → is_closed quoted rest ≡ true → remains quoted rest ≡ Some []
remains_closed true [] e = absurd cc
remains_closed false [] e = refl
remains_closed true (c ∷ []) e = rw (eqb-true c 34 e) refl
remains_closed false (c ∷ []) e = absurd cc
remains_closed quoted (c ∷ d ∷ cs) e = absurd cc

more_than_quote : (found : Option (List Letter)) (c : ℕ) (cs : List ℕ) → letters (c ∷ cs) ≡ found → option_and_then until_quote (with_front (plain 34 ∷ []) found) ≡ None
more_than_quote None c cs is = refl
more_than_quote (Some ls) c cs is = let h = letters_head c cs ls is in rw h.parts refl

quote_in_bare : (found : Option (List Letter)) → option_and_then (closing false) (with_front (plain 34 ∷ []) found) ≡ None
quote_in_bare None = refl
quote_in_bare (Some ls) = refl

-- no quote is left where one is wanted
pub remains_none : (quoted : Bool) → is_closed quoted [] ≡ false → remains quoted [] ≡ None
remains_none true e = refl
remains_none false e = absurd cc

-- a quote that is not the last of a word that begins with one
pub remains_quote : (quoted : Bool) (cs : List ℕ) → is_closed quoted (34 ∷ cs) ≡ false → remains quoted (34 ∷ cs) ≡ None
remains_quote true [] e = absurd cc
remains_quote true (c ∷ cs) e = ap (option_and_then (closing true)) (letters_plain 34 (c ∷ cs) refl) ∙ more_than_quote (letters (c ∷ cs)) c cs refl
remains_quote false cs e = ap (option_and_then (closing false)) (letters_plain 34 cs refl) ∙ quote_in_bare (letters cs)
