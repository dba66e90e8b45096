-- Keywords and symbols are text.
use Rattle.std.proofs.Common.{ℕ, zero, suc, ◌≡◌, ◌<◌, Bool, true, false, ◌&&◌, List, [], ◌∷◌, length, get_or, Option, Some, None, refl, sym, ap, subst, arith}
use Rattle.std.specs.Char.{is_ascii}
use Rattle.std.specs.List.{list_all, position}
use Rattle.std.specs.Str.{bytes_eq, IsAscii, IsUtf8}
use Rattle.std.proofs.lemmas.List.Quantifiers.{position-Some}
use Rattle.std.proofs.lemmas.Slice.Eq.{bytes_eq-Decides}
use Rattle.std.proofs.lemmas.Str.{IsUtf8-from_ascii}
use Rattle.std.proofs.lemmas.Str.Ascii.{IsAscii-nil, IsAscii-cons}
use borrow.Author.Tests.{ltb-true}
use Rattle.case_tables.specs.Tables.{keyword_names, symbol_names}
use Rattle.slice_lexer.specs.declared.token.TokenKind.TheVariants as kinds
use Rattle.slice_lexer.specs.Pieces.{kind_of, symbol_code, word_kind}

both : (a b : Bool) → (a && b) ≡ true → (a ≡ true) × (b ≡ true)
both true b e = (refl, e)
both false b e = absurd cc

ascii : (bytes : List ℕ) → list_all is_ascii bytes ≡ true → IsAscii bytes
ascii [] h = IsAscii-nil
ascii (byte ∷ bytes) h =
    let parts = both (is_ascii byte) (list_all is_ascii bytes) h in
    IsAscii-cons byte bytes (ltb-true byte 128 parts.0) (ascii bytes parts.1)

text_at : (names : List (List ℕ)) → list_all (list_all is_ascii) names ≡ true → (at : ℕ) → at < length names → IsUtf8 (get_or names at [])
text_at [] h at k = absurd (omega arith)
text_at (name ∷ names) h zero k = IsUtf8-from_ascii name (ascii name (both (list_all is_ascii name) (list_all (list_all is_ascii) names) h).0)
text_at (name ∷ names) h (suc at) k = text_at names (both (list_all is_ascii name) (list_all (list_all is_ascii) names) h).1 at (omega arith)

-- what is no text is none of these names
found_none : (names : List (List ℕ)) → list_all (list_all is_ascii) names ≡ true → (name : List ℕ) → (IsUtf8 name → ⊥) → (o : Option ℕ) → position (bytes_eq name) names ≡ o → o ≡ None
found_none names all name h None e = refl
found_none names all name h (Some at) e =
    let found = position-Some (bytes_eq name) names at [] e in
    let is : get_or names at [] ≡ name = sym ((bytes_eq-Decides name (get_or names at [])).0 found.1) in
    absurd (h (subst (λ (n : List ℕ). IsUtf8 n) is (text_at names all at found.0)))

pub no_keyword : (name : List ℕ) → (IsUtf8 name → ⊥) → word_kind name ≡ kinds.Word
unfolding word_kind
no_keyword name h = ap kind_of (found_none keyword_names refl name h (position (bytes_eq name) keyword_names) refl)

pub no_symbol : (name : List ℕ) → (IsUtf8 name → ⊥) → symbol_code name ≡ None
no_symbol name h = found_none symbol_names refl name h (symbol_code name) refl
