-- No token is longer than the one that is read.
use Rattle.std.proofs.Common.{ℕ, ◌≡◌, ◌≤◌, true, nat_le, List, [], ◌∷◌, ◌++◌, length, Contains, slice_get, Option, Some, None, Ok, refl, sym, ap, subst, ◌∙◌, inl, inr, arith}
use Rattle.std.specs.List.{position}
use Rattle.std.specs.Str.{bytes_eq}
use borrow.Author.Tests.{leb-true}
use Rattle.std.proofs.lemmas.Option.{slice_get_within, get_or_from_slice_get}
use Rattle.case_tables.specs.Tables.{are_distinct, keyword_names, symbol_names}
use Rattle.case_tables.proofs.Places.{row_found, no_row, one_place}
use Rattle.slice_lexer.specs.declared.token.TokenKind.{TokenKind}
use Rattle.slice_lexer.specs.declared.token.TokenKind.TheVariants as kinds
use Rattle.slice_lexer.specs.declared.piece.Piece.TheVariants as pieces
use Rattle.slice_lexer.specs.Pieces.{symbol_code, front}
use Rattle.slice_lexer.specs.Tokens.{IsToken, IsLongest, MayStand, Begins}
use Rattle.slice_lexer.proofs.Sizes.{front_fits}
use Rattle.slice_lexer.proofs.Stretches.{both}
use Rattle.slice_lexer.proofs.Branches.{is_other, symbol_start, front_symbol, keyword_identifier, same_size, symbol_size, word_bound, escaped_bound, number_bound, string_bound, directive_bound}

-- the row of a name of a table is found
pub found : (names : List (List ℕ)) (code : ℕ) (name : List ℕ) → slice_get names code ≡ Some name → Contains names name
found names code name e = (code, slice_get_within names code name e, get_or_from_slice_get names code name name e)

pub code_by : (names : List (List ℕ)) → are_distinct names ≡ true → (code : ℕ) (name : List ℕ) → slice_get names code ≡ Some name
    → (o : Option ℕ) → position (bytes_eq name) names ≡ o → position (bytes_eq name) names ≡ Some code
code_by names apart code name e (Some other) p =
    let row = row_found names name other p in
    p ∙ ap (λ (n : ℕ). Some n) (one_place names apart other code name row.1 e)
code_by names apart code name e None p = absurd (no_row names name p (found names code name e))

pub symbol_found : (code : ℕ) (name : List ℕ) → slice_get symbol_names code ≡ Some name → symbol_code name ≡ Some code
symbol_found code name e = code_by symbol_names refl code name e (symbol_code name) refl

pub keyword_found : (code : ℕ) (name : List ℕ) → slice_get keyword_names code ≡ Some name → position (bytes_eq name) keyword_names ≡ Some code
keyword_found code name e = code_by keyword_names refl code name e (position (bytes_eq name) keyword_names) refl

-- a symbol has one byte or two
pub symbol_length : (code byte : ℕ) (bytes : List ℕ) → slice_get symbol_names code ≡ Some (byte ∷ bytes) → (is_other byte ≡ true) × (length bytes ≤ 1)
symbol_length code byte bytes e =
    let start = both (is_other byte) (nat_le (length bytes) 1) (symbol_start code (byte ∷ bytes) e) in
    (start.0, leb-true (length bytes) 1 start.1)

pub no_empty_symbol : (code : ℕ) → slice_get symbol_names code ≡ Some [] → ⊥
no_empty_symbol code e = let start = symbol_start code [] e in cc

symbol_bound : (place : ℕ) (before : List ℕ) (code : ℕ) (longer rest : List ℕ) → slice_get symbol_names code ≡ Some longer → (kind : TokenKind) (n : ℕ) → front place before (longer ++ rest) ≡ Ok (pieces.Token kind n) → length longer ≤ n
symbol_bound place before code [] rest h kind n e = omega arith
symbol_bound place before code (byte ∷ []) rest h kind n e = let fits = (front_fits place before (byte ∷ rest) (pieces.Token kind n) e).0 in omega arith
symbol_bound place before code (byte ∷ next ∷ []) rest h kind n e =
    let is = symbol_size place (byte ∷ next ∷ rest) code (symbol_found code (byte ∷ next ∷ []) h) in
    let other = (symbol_length code byte (next ∷ []) h).0 in
    let size = same_size (kinds.Symbol code) kind 2 n (sym is ∙ sym (front_symbol place before byte (next ∷ rest) other) ∙ e) in
    omega arith
symbol_bound place before code (byte ∷ next ∷ more ∷ bytes) rest h kind n e = let short = (symbol_length code byte (next ∷ more ∷ bytes) h).1 in absurd (omega arith)

-- whatever token begins there is no longer than the one that is read
pub bound : (place : ℕ) (before : List ℕ) (other : TokenKind) (longer rest : List ℕ) → IsToken other longer → (kind : TokenKind) (n : ℕ) → front place before (longer ++ rest) ≡ Ok (pieces.Token kind n) → length longer ≤ n
bound place before kinds.Word longer rest (inl h) kind n e = word_bound place before longer rest h.0 kind n e
bound place before kinds.Word [] rest (inr h) kind n e = omega arith
bound place before kinds.Word (byte ∷ bytes) rest (inr h) kind n e =
    escaped_bound place before bytes rest h.1 kind n (subst (λ (b : ℕ). front place before (b ∷ bytes ++ rest) ≡ Ok (pieces.Token kind n)) h.0 e)
bound place before (kinds.Keyword code) longer rest h kind n e = word_bound place before longer rest (keyword_identifier code longer h) kind n e
bound place before (kinds.Number value) longer rest h kind n e = number_bound place before longer rest value h.0 kind n e
bound place before kinds.Text longer rest h kind n e =
    let there = subst (λ (bs : List ℕ). front place before (bs ++ rest) ≡ Ok (pieces.Token kind n)) h.1 e in
    let most = string_bound place before h.0 rest h.2 kind n there in
    subst (λ (bs : List ℕ). length bs ≤ n) (sym h.1) most
bound place before (kinds.Symbol code) longer rest h kind n e = symbol_bound place before code longer rest h kind n e
bound place before kinds.Directive [] rest h kind n e = omega arith
bound place before kinds.Directive (byte ∷ bytes) rest h kind n e =
    directive_bound place before bytes rest h.1 kind n (subst (λ (b : ℕ). front place before (b ∷ bytes ++ rest) ≡ Ok (pieces.Token kind n)) h.0 e)

-- what is read as a token and has the form of one is the longest token there
pub stands : (place : ℕ) (before bytes : List ℕ) (kind : TokenKind) (n : ℕ) (own after : List ℕ) → front place before bytes ≡ Ok (pieces.Token kind n) → bytes ≡ own ++ after → length own ≡ n
    → IsToken kind own → MayStand before kind after → Begins before bytes (pieces.Token kind n)
stands place before bytes kind n own after e parts size is may =
    (own, after, parts, size, record { is = is; longest = longest; may = may }) where
      longest : IsLongest own after
      longest other longer rest same h =
          let there : front place before (longer ++ rest) ≡ Ok (pieces.Token kind n) = ap (front place before) (sym same ∙ sym parts) ∙ e in
          let most = bound place before other longer rest h kind n there in
          omega arith
