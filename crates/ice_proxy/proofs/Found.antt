-- What was found in a word is what it stands for.
use Rattle.std.proofs.Common.{ℕ, ◌≡◌, Bool, true, false, eqb, List, [], ◌∷◌, ◌++◌, Option, None, Some, refl, sym, ap, subst, ◌∙◌, ◌⊎◌, inl, inr}
use Rattle.std.specs.Option.{option_and_then}
use Rattle.std.specs.List.{list_any}
use Rattle.std.proofs.lemmas.Bool.{eqb-true, or_cases, or_right}
use Rattle.std.proofs.lemmas.List.{append-nil}
use Rattle.std.proofs.lemmas.List.Folds.{list_any-append}
use Rattle.ice_proxy.specs.Escapes.{Letter, plain, with_front, letters, is_plain, unquoted, bytes_of, utf8, utf8_of, text_of, parted, joined, with_category, named, identity_of}
use Rattle.ice_proxy.specs.Taking.{is_stop, Stops, Front, Appends, is_quoted, inside, is_closed, closing, remains, behind_slash}
use Rattle.ice_prims.proofs.Parts.{chosen}
use Rattle.ice_proxy.proofs.Letters.{letters_plain}
use Rattle.ice_proxy.proofs.Readings.{no_stop, parted_none, parted_at}
use Rattle.ice_proxy.proofs.Quotes.{word_remains, remains_front, remains_closed, remains_none, remains_quote}

-- what the letters before the rest leave
pub front_remains : (mark : ℕ) (quoted : Bool) (bytes rest : List ℕ) (front : List Letter) → Front mark bytes front rest → remains quoted bytes ≡ with_front front (remains quoted rest)
front_remains mark quoted bytes rest front h = remains_front quoted bytes rest front h.reads (no_stop mark front h.goes_on).0

-- ---- texts

stop_is_quote : (c : ℕ) → is_stop 34 (plain c) ≡ true → c ≡ 34
stop_is_quote c e = elim (or_cases (eqb c 34) (eqb c 34) e) [ inl h ↦ eqb-true c 34 h | inr h ↦ eqb-true c 34 h ]

open_at_quote : (quoted : Bool) (rest : List ℕ) → is_closed quoted rest ≡ false → Stops 34 rest → remains quoted rest ≡ None
open_at_quote quoted [] e h = remains_none quoted e
open_at_quote quoted (c ∷ cs) e h =
    let is = stop_is_quote c h in
    subst (λ (d : ℕ). is_closed quoted (d ∷ cs) ≡ false → remains quoted (d ∷ cs) ≡ None) (sym is) (remains_quote quoted cs) e

module _ (word within : List ℕ) (quoted : Bool) (is : quoted ≡ is_quoted word) (cut : within ≡ inside word) where
  held : (found : Option (List Letter)) → remains quoted within ≡ found → option_and_then unquoted (letters word) ≡ found
  held found e = word_remains word ∙ (let same : remains (is_quoted word) (inside word) ≡ remains quoted within = rw (is, cut) refl in same) ∙ e

  text_is : (found : Option (List Letter)) → remains quoted within ≡ found → text_of word ≡ option_and_then utf8_of found
  text_is found e = ap (option_and_then utf8_of) (held found e)

  pub text_broken : letters within ≡ None → None ≡ text_of word
  text_broken e = sym (text_is None (ap (option_and_then (closing quoted)) e))

  module _ (rest old bytes : List ℕ) (none : old ≡ []) (found : Appends 34 within old bytes (Some rest)) where
    pub text_open : is_closed quoted rest ≡ false → Stops 34 rest → None ≡ text_of word
    text_open e h = sym (text_is None (front_remains 34 quoted within rest found.0 found.1 ∙ ap (with_front found.0) (open_at_quote quoted rest e h)))

    pub text_closed : is_closed quoted rest ≡ true → text_of word ≡ utf8 bytes
    text_closed e =
        let all : bytes ≡ bytes_of found.0 = found.2 ∙ ap (λ (l : List ℕ). l ++ bytes_of found.0) none in
        text_is (Some found.0) (front_remains 34 quoted within rest found.0 found.1 ∙ ap (with_front found.0) (remains_closed quoted rest e) ∙ ap (λ (l : List Letter). Some l) (append-nil found.0))
        ∙ ap utf8 (sym all)

-- ---- identities

-- what stands behind a `/` that no escape made
slash_remains : (quoted : Bool) (bytes : List ℕ) → remains quoted (47 ∷ bytes) ≡ with_front (plain 47 ∷ []) (remains quoted bytes)
slash_remains quoted bytes = remains_front quoted (47 ∷ bytes) bytes (plain 47 ∷ []) (letters_plain 47 bytes refl) refl

parts_remain : (front : List Letter) (found : Option (List Letter)) → list_any (is_plain 47) front ≡ false → option_and_then (λ ls. named (parted ls)) (with_front front (with_front (plain 47 ∷ []) found)) ≡ option_and_then (with_category (bytes_of front)) found
parts_remain front None e = refl
parts_remain front (Some ls) e = ap named (parted_at front ls e)

second_slash : (category : List ℕ) (front : List Letter) (found : Option (List Letter)) → option_and_then (with_category category) (with_front front (with_front (plain 47 ∷ []) found)) ≡ None
second_slash category front None = refl
second_slash category front (Some ls) =
    let test : list_any (is_plain 47) (front ++ plain 47 ∷ ls) ≡ true = list_any-append (is_plain 47) front (plain 47 ∷ ls) ∙ or_right (list_any (is_plain 47) front) true refl in
    rw test refl

stop_is : (c : ℕ) → is_stop 47 (plain c) ≡ true → (c ≡ 34) ⊎ (c ≡ 47)
stop_is c e = elim (or_cases (eqb c 34) (eqb c 47) e) [ inl h ↦ inl (eqb-true c 34 h) | inr h ↦ inr (eqb-true c 47 h) ]

-- the part behind a category and its `/`
module _ (category within : List ℕ) (quoted : Bool) where
  name_is : (found : Option (List Letter)) → remains quoted within ≡ found → option_and_then (with_category category) (remains quoted within) ≡ option_and_then (with_category category) found
  name_is found e = ap (option_and_then (with_category category)) e

  pub name_broken : letters within ≡ None → None ≡ option_and_then (with_category category) (remains quoted within)
  name_broken e = sym (name_is None (ap (option_and_then (closing quoted)) e))

  module _ (rest old bytes : List ℕ) (none : old ≡ []) (found : Appends 47 within old bytes (Some rest)) where
    before : remains quoted within ≡ with_front found.0 (remains quoted rest)
    before = front_remains 47 quoted within rest found.0 found.1

    at_stop : (c : ℕ) (cs : List ℕ) → rest ≡ c ∷ cs → is_closed quoted rest ≡ false → (c ≡ 34) ⊎ (c ≡ 47) → option_and_then (with_category category) (remains quoted within) ≡ None
    at_stop c cs is e (inl h) =
        let here : rest ≡ 34 ∷ cs = is ∙ ap (λ (d : ℕ). d ∷ cs) h in
        name_is None (before ∙ ap (with_front found.0) (ap (remains quoted) here ∙ remains_quote quoted cs (subst (λ (l : List ℕ). is_closed quoted l ≡ false) here e)))
    at_stop c cs is e (inr h) =
        let here : rest ≡ 47 ∷ cs = is ∙ ap (λ (d : ℕ). d ∷ cs) h in
        name_is _ (before ∙ ap (with_front found.0) (ap (remains quoted) here ∙ slash_remains quoted cs)) ∙ second_slash category found.0 (remains quoted cs)

    at_rest : (left : List ℕ) → rest ≡ left → is_closed quoted rest ≡ false → Stops 47 left → option_and_then (with_category category) (remains quoted within) ≡ None
    at_rest [] is e h = name_is None (before ∙ ap (with_front found.0) (ap (remains quoted) is ∙ remains_none quoted (subst (λ (l : List ℕ). is_closed quoted l ≡ false) is e)))
    at_rest (c ∷ cs) is e h = at_stop c cs is e (stop_is c h)

    pub name_open : is_closed quoted rest ≡ false → Stops 47 rest → None ≡ option_and_then (with_category category) (remains quoted within)
    name_open e h = sym (at_rest rest refl e h)

    pub name_closed : is_closed quoted rest ≡ true → option_and_then (with_category category) (remains quoted within) ≡ joined category bytes
    name_closed e =
        let all : bytes ≡ bytes_of found.0 = found.2 ∙ ap (λ (l : List ℕ). l ++ bytes_of found.0) none in
        let whole : remains quoted within ≡ Some found.0 = before ∙ ap (with_front found.0) (remains_closed quoted rest e) ∙ ap (λ (l : List Letter). Some l) (append-nil found.0) in
        name_is (Some found.0) whole ∙ rw (no_stop 47 found.0 found.1.goes_on).1 (ap (joined category) (sym all))

pub slash_there : (rest others : List ℕ) → Some others ≡ behind_slash rest → rest ≡ 47 ∷ others
slash_there [] others e = absurd cc
slash_there (c ∷ cs) others e = elim (chosen (eqb c 47) (Some cs) None (Some others) (sym e)) [
  | inl h ↦ let is = eqb-true c 47 h.0 in let same = h.1 in cc
  | inr h ↦ absurd (let same = h.1 in cc)
]

slash_none : (others : List ℕ) → None ≡ behind_slash (47 ∷ others) → ⊥
slash_none others e = cc

-- a whole word
module _ (word within : List ℕ) (quoted : Bool) (is : quoted ≡ is_quoted word) (cut : within ≡ inside word) where
  identity_is : (found : Option (List Letter)) → remains quoted within ≡ found → identity_of word ≡ option_and_then (λ ls. named (parted ls)) found
  identity_is found e = ap (option_and_then (λ ls. named (parted ls))) (held word within quoted is cut found e)

  pub identity_broken : letters within ≡ None → None ≡ identity_of word
  identity_broken e = sym (identity_is None (ap (option_and_then (closing quoted)) e))

  module _ (rest old bytes : List ℕ) (none : old ≡ []) (found : Appends 47 within old bytes (Some rest)) where
    all_before : remains quoted within ≡ with_front found.0 (remains quoted rest)
    all_before = front_remains 47 quoted within rest found.0 found.1

    all_bytes : bytes ≡ bytes_of found.0
    all_bytes = found.2 ∙ ap (λ (l : List ℕ). l ++ bytes_of found.0) none

    free : list_any (is_plain 47) found.0 ≡ false
    free = (no_stop 47 found.0 found.1.goes_on).1

    pub identity_parted : (others : List ℕ) → rest ≡ 47 ∷ others → identity_of word ≡ option_and_then (with_category bytes) (remains quoted others)
    identity_parted others here =
        identity_is _ (all_before ∙ ap (with_front found.0) (ap (remains quoted) here ∙ slash_remains quoted others)) ∙ parts_remain found.0 (remains quoted others) free
        ∙ ap (λ (l : List ℕ). option_and_then (with_category l) (remains quoted others)) (sym all_bytes)

    pub identity_alone : is_closed quoted rest ≡ true → identity_of word ≡ joined [] bytes
    identity_alone e =
        identity_is (Some found.0) (all_before ∙ ap (with_front found.0) (remains_closed quoted rest e) ∙ ap (λ (l : List Letter). Some l) (append-nil found.0))
        ∙ ap named (parted_none found.0 free) ∙ ap (joined []) (sym all_bytes)

    open_at : (left : List ℕ) → rest ≡ left → is_closed quoted left ≡ false → Stops 47 left → ((others : List ℕ) → left ≡ 47 ∷ others → ⊥) → identity_of word ≡ None
    open_at [] here e h no_slash = identity_is None (all_before ∙ ap (with_front found.0) (ap (remains quoted) here ∙ remains_none quoted e))
    open_at (c ∷ cs) here e h no_slash = elim (stop_is c h) [
      | inl k ↦
          let quote : c ∷ cs ≡ 34 ∷ cs = ap (λ (d : ℕ). d ∷ cs) k in
          identity_is None (all_before ∙ ap (with_front found.0) (ap (remains quoted) (here ∙ quote) ∙ remains_quote quoted cs (subst (λ (l : List ℕ). is_closed quoted l ≡ false) quote e)))
      | inr k ↦ absurd (no_slash cs (ap (λ (d : ℕ). d ∷ cs) k))
    ]

    pub identity_open : is_closed quoted rest ≡ false → Stops 47 rest → None ≡ behind_slash rest → None ≡ identity_of word
    identity_open e h no_slash = sym (open_at rest refl e h (λ others is. slash_none others (no_slash ∙ ap behind_slash is)))
