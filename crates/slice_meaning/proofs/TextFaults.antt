-- Each text is one tree or has one fault, and never both.
use Rattle.std.proofs.Common.{◌≡◌, ℕ, ◌<◌, ◌≤◌, ◌⊎◌, Bool, true, false, List, [], ◌∷◌, length, Option, Some, None, refl, sym, ap, ◌∙◌, subst, inl, inr, arith}
use Rattle.std.specs.Prelude.{codes, nat_le}
use Rattle.std.proofs.lemmas.Bool.Decides.{nat_tests}
use Rattle.slice_lexer.specs.declared.lexer.TheConstants.{MOST_BYTES}
use Rattle.slice_lexer.specs.declared.token.Token.{Token}
use Rattle.slice_lexer.specs.declared.token.TokenKind.{TokenKind}
use Rattle.slice_lexer.specs.declared.fault.LexFault.{LexFault}
use Rattle.slice_lexer.specs.declared.fault.LexFault.TheVariants as lexing
use Rattle.slice_lexer.specs.Lexing.{Lexes}
use Rattle.slice_lexer.proofs.Standing.{one_lexing, one_break as one_defect, lexes_whole}
use Rattle.slice_lexer.proofs.Total.{answered}
use Rattle.slice_syntax.specs.declared.tree.File.{File}
use Rattle.slice_syntax.specs.declared.fault.SyntaxFault.{SyntaxFault}
use Rattle.slice_syntax.specs.declared.fault.SyntaxFault.TheVariants as syntax
use Rattle.slice_syntax.specs.Lexemes.{Lexemes, lexemes}
use Rattle.slice_syntax.specs.Files.{ReadsFile}
use Rattle.slice_syntax.specs.Syntax.{SyntaxBreaks, FaultOf, fault_at}
use Rattle.slice_syntax.proofs.Breaking.{file_or_break, one_file, one_break as one_refusal, never_both as never_both_trees}
use Rattle.slice_meaning.specs.Names.{Name}
use Rattle.slice_meaning.specs.Printed.{LoadBreak, broken_at, lexer_name, lexer_place}
use Rattle.slice_meaning.specs.Loading.{IsTree, TextBreaks, too_long, by_lexer, by_parser}

-- the place of a fault of the parser
place_of : ℕ → SyntaxFault → ℕ
place_of other (syntax.Expected place found) = place
place_of other syntax.Memory = other

same_place : (place other : ℕ) (found another : Option TokenKind) → syntax.Expected place found ≡ syntax.Expected other another → place ≡ other
unfolding place_of
same_place place other found another e = ap (place_of 0) e

-- the fault of tokens that are no file
parser_fault : (text : List ℕ) (tokens : List Token) (before behind : Lexemes) → SyntaxBreaks (lexemes text tokens) before behind → (place : ℕ) × (found : Option TokenKind) × FaultOf (length text) (lexemes text tokens) (syntax.Expected place found)
parser_fault text tokens before [] b = (length text, None, (before, [], b, refl))
parser_fault text tokens before (l ∷ ls) b = (l.from, Some l.kind, (before, l ∷ ls, b, refl))

by_tokens : (file : Name) (text : List ℕ) (tokens : List Token) → length text ≤ MOST_BYTES → Lexes text tokens → ((tree : File) × IsTree text tree) ⊎ ((fault : LoadBreak) × TextBreaks file text fault)
by_tokens file text tokens short lexes = elim (file_or_break (lexemes text tokens)) [
  | inl f ↦ inl (f.0, record { tokens = tokens; short = short; lexes = lexes; reads = f.1 })
  | inr b ↦ let p = parser_fault text tokens b.0 b.1 b.2 in inr (broken_at file p.0 (codes "Expected"), by_parser tokens p.0 p.1 short lexes p.2)
]

-- each text is a tree or has a fault
pub tree_or_break : (file : Name) (text : List ℕ) → ((tree : File) × IsTree text tree) ⊎ ((fault : LoadBreak) × TextBreaks file text fault)
tree_or_break file text = by_length (nat_le (length text) MOST_BYTES) refl
  where
    by_length : (b : Bool) → nat_le (length text) MOST_BYTES ≡ b → ((tree : File) × IsTree text tree) ⊎ ((fault : LoadBreak) × TextBreaks file text fault)
    by_length true e =
        let short : length text ≤ MOST_BYTES = grind (arith, nat_tests) in
        elim (answered text) [
          | inl t ↦ by_tokens file text t.0 short t.1
          | inr d ↦ inr (broken_at file (lexer_place d.0) (lexer_name d.0), by_lexer d.0 short d.1)
        ]
    by_length false e = let long : MOST_BYTES < length text = grind (arith, nat_tests) in inr (broken_at file (lexer_place lexing.TooLong) (lexer_name lexing.TooLong), too_long long)

-- a text is one tree
pub one_tree : (text : List ℕ) (tree other : File) → IsTree text tree → IsTree text other → tree ≡ other
one_tree text tree other a b =
    let same : a.tokens ≡ b.tokens = one_lexing text a.tokens b.tokens a.lexes b.lexes in
    one_file (lexemes text b.tokens) tree other (subst (λ (ts : List Token). ReadsFile (lexemes text ts) tree) same a.reads) b.reads

same_fault : (end : ℕ) (ls : Lexemes) (place other : ℕ) (found another : Option TokenKind) → FaultOf end ls (syntax.Expected place found) → FaultOf end ls (syntax.Expected other another) → place ≡ other
same_fault end ls place other found another a b =
    let same : a.1 ≡ b.1 = one_refusal ls a.0 a.1 b.0 b.1 a.2 b.2 in
    same_place place other found another (a.3 ∙ (ap (fault_at end) same ∙ sym b.3))

-- a text has one fault
pub one_text_break : (file : Name) (text : List ℕ) (a b : LoadBreak) → TextBreaks file text a → TextBreaks file text b → a ≡ b
one_text_break file text _ _ (too_long l) (too_long m) = refl
one_text_break file text _ _ (too_long l) (by_lexer fault short d) = absurd (omega (arith, l, short))
one_text_break file text _ _ (too_long l) (by_parser tokens place found short lexes p) = absurd (omega (arith, l, short))
one_text_break file text _ _ (by_lexer fault short d) (too_long l) = absurd (omega (arith, l, short))
one_text_break file text _ _ (by_lexer fault short d) (by_lexer other also e) = ap (λ (f : LexFault). broken_at file (lexer_place f) (lexer_name f)) (one_defect text fault other d e)
one_text_break file text _ _ (by_lexer fault short d) (by_parser tokens place found also lexes p) = absurd (lexes_whole text tokens fault lexes d)
one_text_break file text _ _ (by_parser tokens place found short lexes p) (too_long l) = absurd (omega (arith, l, short))
one_text_break file text _ _ (by_parser tokens place found short lexes p) (by_lexer fault also d) = absurd (lexes_whole text tokens fault lexes d)
one_text_break file text _ _ (by_parser tokens place found short lexes p) (by_parser others other another also again q) =
    let same : tokens ≡ others = one_lexing text tokens others lexes again in
    ap (λ (n : ℕ). broken_at file n (codes "Expected"))
    (same_fault (length text) (lexemes text others) place other found another (subst (λ (ts : List Token). FaultOf (length text) (lexemes text ts) (syntax.Expected place found)) same p) q)

-- a tree has no fault
pub tree_no_break : (file : Name) (text : List ℕ) (tree : File) (fault : LoadBreak) → IsTree text tree → TextBreaks file text fault → ⊥
tree_no_break file text tree _ t (too_long l) = omega (arith, t.short, l)
tree_no_break file text tree _ t (by_lexer fault short d) = lexes_whole text t.tokens fault t.lexes d
tree_no_break file text tree _ t (by_parser tokens place found short lexes p) =
    let same : t.tokens ≡ tokens = one_lexing text t.tokens tokens t.lexes lexes in
    never_both_trees (lexemes text tokens) tree p.0 p.1 (subst (λ (ts : List Token). ReadsFile (lexemes text ts) tree) same t.reads) p.2
