-- A whole file, and the first token that no file goes on with.
use Rattle.std.proofs.Common.{ℕ, ◌≡◌, Bool, true, false, cond, ◌&&◌, List, [], ◌∷◌, ◌++◌, length, Some, Ok, Err, inl, inr, ◌⊎◌, refl, sym, ap, subst, ◌∙◌, append_assoc}
use Rattle.slice_syntax.specs.declared.terminal.Terminal.{Terminal}
use Rattle.slice_syntax.specs.declared.terminal.Terminal.TheVariants as terminals
use Rattle.slice_syntax.specs.declared.tree.Item.{Item}
use Rattle.slice_syntax.specs.declared.tree.File.{File}
use Rattle.slice_syntax.specs.Lexemes.{Lexeme, Lexemes, lexemes, has, next, terminal_of}
use Rattle.slice_syntax.specs.Grammar.{Spells, one}
use Rattle.slice_syntax.specs.Reading.{Reading, ◌>>=◌, is_empty, starts, read}
use Rattle.slice_syntax.specs.Rules.{word, name, texts, file_metadata, metadata, names, scoped, plain_type, object_type, named_type, type_word, signed_number, number, text, truth, named, value, given, tag, close, constant_item, entry, entry_comma, entries, enum_item, member, members, struct_item, sequence_item, dictionary_item, tagged_member, tagged_members, body, base, compact, class_body, class_item, exception_item, paths, bases, thrown, parameter, parameter_list, parameters, answered, operation, operations, interface_body, interface_item, definition}
use Rattle.slice_syntax.specs.Files.{Head, head, directive, directives, Body, Closes, is_guarded, ReadsFile}
use Rattle.slice_syntax.specs.Moving.{outer_move, inner_move, modules_at, closing_at, rest_at, file_of, file_at, end_at, whole_at}
use Rattle.slice_lexer.specs.declared.token.Token.{Token}
use Rattle.slice_syntax.specs.declared.fault.SyntaxFault.{SyntaxFault}
use Rattle.slice_syntax.specs.Syntax.{Begins, GoesOn, Refuses, SyntaxBreaks, fault_at, FaultOf, Answers}
use Rattle.slice_syntax.proofs.Sets.{disjoint}
use Rattle.slice_syntax.proofs.Laws.{Lawful, lawful_nothing, lawful_made, lawful_both, then_ok, then_err, ok_parts}
use Rattle.slice_syntax.proofs.Fitting.{goes, fits, lawful}
use Rattle.slice_syntax.proofs.Nesting.{lawful_same, modules_lawful, ending, append_none}

fits_directives : fits directives ≡ true
unfolding texts file_metadata directive directives
fits_directives = refl

directives_bare : is_empty directives ≡ true
unfolding directives
directives_bare = refl

pub fits_end : fits (one terminals.EndGuard) ≡ true
fits_end = refl

abbrev end_terminals : List Terminal
end_terminals = terminals.EndGuard ∷ []

abbrev Closed : Bool → Lexemes → Unit {0} → Type 0
Closed guarded ls x = Closes guarded ls

-- the laws where fewer are claimed
loose : {A : Type 0} (P : Lexemes → A → Type 0) (r : Lexemes → Reading A) (bare : Bool) (set others : List Terminal) → Lawful P r bare set others → (wide : List Terminal) → ((s : Terminal) → has set s ≡ true → has wide s ≡ true) → Lawful P r true wide others
loose P r bare set others g wide more = record {
  empty = λ x h. refl;
  first = λ l ls x h. more (terminal_of l) (g.first l ls x h);
  some = g.some;
  real = g.real;
  value = g.value;
  spelled = g.spelled;
  found = g.found;
  stopped = g.stopped;
  only = g.only;
}

abbrev Made : Lexemes → Unit {0} → Type 0
Made ls x = (place : ℕ) × Spells (one terminals.EndGuard) ls place × (x ≡ tt)

abbrev Nothing : Lexemes → Unit {0} → Type 0
Nothing ls x = (ls ≡ []) × (x ≡ tt)

closed_lawful : (guarded : Bool) → Lawful (Closed guarded) (closing_at guarded) true end_terminals []
closed_lawful true = loose (Closed true) (closing_at true) false end_terminals []
    (lawful_same Made (Closed true) (closing_at true) false end_terminals [] (λ ls x h. (h.0, h.1)) (λ ls x h. (h.0, h.1, refl))
    (lawful_made (λ place. tt) (Spells (one terminals.EndGuard)) (read (one terminals.EndGuard)) false end_terminals [] (lawful (one terminals.EndGuard) fits_end))) end_terminals (λ s h. h)
closed_lawful false = loose (Closed false) (closing_at false) true [] []
    (lawful_same Nothing (Closed false) (closing_at false) true [] [] (λ ls x h. h.0) (λ ls x h. (h, refl)) (lawful_nothing tt)) end_terminals (λ s h. absurd cc)

abbrev Tail : Bool → Lexemes → List Item → Type 0
Tail guarded ls items = (held : List Item) × (u : Unit {0}) × (before behind : Lexemes) × (ls ≡ before ++ behind) × Body false before held × Closed guarded behind u × (items ≡ held)

ending_clear : disjoint ending end_terminals ≡ true
unfolding word name texts file_metadata metadata names scoped plain_type object_type named_type type_word signed_number number text truth named value given tag close constant_item entry entry_comma entries enum_item member members struct_item sequence_item dictionary_item tagged_member tagged_members body base compact class_body class_item exception_item paths bases thrown parameter parameter_list parameters answered operation operations interface_body interface_item definition head outer_move inner_move
ending_clear = refl

abbrev tail_starts : List Terminal
tail_starts = starts outer_move ++ end_terminals

abbrev tail_goes : List Terminal
tail_goes = [] ++ ending

tail_lawful : (guarded : Bool) → Lawful (Tail guarded) (rest_at guarded) true tail_starts tail_goes
tail_lawful guarded = lawful_both (λ items u. items) (Body false) modules_at (λ items. Closed guarded) (λ items. closing_at guarded) true (starts outer_move) ending true end_terminals [] modules_lawful (λ items. closed_lawful guarded) ending_clear

abbrev Whole : Lexemes → File → Type 0
Whole ls file = (heads : List Head) × (items : List Item) × (before behind : Lexemes) × (ls ≡ before ++ behind) × Spells directives before heads × Tail (is_guarded heads) behind items × (file ≡ file_of heads items)

heads_clear : disjoint (goes directives) tail_starts ≡ true
unfolding word name texts file_metadata metadata names scoped plain_type object_type named_type type_word signed_number number text truth named value given tag close constant_item entry entry_comma entries enum_item member members struct_item sequence_item dictionary_item tagged_member tagged_members body base compact class_body class_item exception_item paths bases thrown parameter parameter_list parameters answered operation operations interface_body interface_item definition head directive directives outer_move
heads_clear = refl

abbrev file_goes : List Terminal
file_goes = tail_goes ++ goes directives

whole_lawful : Lawful Whole file_at (is_empty directives && true) (cond (is_empty directives) (starts directives ++ tail_starts) (starts directives)) file_goes
whole_lawful = lawful_both file_of (Spells directives) (read directives) (λ heads. Tail (is_guarded heads)) (λ heads. rest_at (is_guarded heads)) (is_empty directives) (starts directives) (goes directives) true tail_starts tail_goes
    (lawful directives fits_directives) (λ heads. tail_lawful (is_guarded heads)) heads_clear

whole_reads : (ls : Lexemes) (file : File) → Whole ls file → ReadsFile ls file
whole_reads ls file h =
    let t = h.6 in
    record {
      heads = h.0;
      front = h.2;
      inner = t.2;
      last = t.3;
      parts = h.4 ∙ ap (λ (z : Lexemes). h.2 ++ z) t.4;
      opening = h.5;
      modules = subst (λ (z : List Item). Body false t.2 z) (sym (ap (λ (f : File). f.items) h.7 ∙ t.7)) t.5;
      closing = t.6;
      includes = ap (λ (f : File). f.included) h.7;
    }

abbrev built : File → List (List ℕ × ℕ) → File
built file z = record { items = file.items; included = z }

reads_whole : (ls : Lexemes) (file : File) → ReadsFile ls file → Whole ls file
reads_whole ls file r = (r.heads, file.items, r.front, r.inner ++ r.last, r.parts, r.opening, (file.items, tt, r.inner, r.last, refl, r.modules, r.closing, refl), ap (built file) r.includes)

pub file_lawful : Lawful ReadsFile file_at (is_empty directives && true) (cond (is_empty directives) (starts directives ++ tail_starts) (starts directives)) file_goes
file_lawful = lawful_same Whole ReadsFile file_at (is_empty directives && true) (cond (is_empty directives) (starts directives ++ tail_starts) (starts directives)) file_goes whole_reads reads_whole whole_lawful

-- a file is read whole
pub reads_file : (ls : Lexemes) (file : File) → ReadsFile ls file → file_at ls ≡ Ok (file, [])
reads_file ls file h = ap file_at (sym (append_none ls)) ∙ file_lawful.only ls [] file h refl

pub reads_at : (ls : Lexemes) (file : File) → ReadsFile ls file → whole_at ls ≡ Ok (file, [])
reads_at ls file h = let e = reads_file ls file h in rw e refl

abbrev at_end : File → Lexemes → Reading File
at_end file ls = end_at ls >>= (λ u. Ok (file, u.1))

end_ok : (file found : File) (mid rest : Lexemes) → at_end file mid ≡ Ok (found, rest) → (mid ≡ []) × (file ≡ found)
end_ok file found [] rest e = (refl, (ok_parts file found [] rest e).0)
end_ok file found (l ∷ mid) rest e = absurd cc

-- what is read whole is a file
pub whole_file : (ls rest : Lexemes) (file : File) → whole_at ls ≡ Ok (file, rest) → ReadsFile ls file
unfolding file_lawful
whole_file ls rest file e = then_ok (ReadsFile ls file) (file_at ls) (λ f. at_end f.0 f.1) (file, rest) e (λ found mid d f.
    let is = end_ok found file mid rest f in
    let t = file_lawful.found ls mid found d in
    let same : t.taken ≡ ls = sym (append_none t.taken) ∙ ap (λ (z : Lexemes). t.taken ++ z) (sym is.0) ∙ sym t.parts in
    subst (λ (z : Lexemes). ReadsFile z file) same (subst (λ (z : File). ReadsFile t.taken z) is.1 t.spelled))

regroup : (before : Lexemes) (l : Lexeme) (more : Lexemes) → (before ++ l ∷ []) ++ more ≡ before ++ l ∷ more
regroup before l more = append_assoc before (l ∷ []) more

-- no file begins with tokens after which reading refuses one
stuck : (before left : Lexemes) → ((other : Lexemes) → next left ≡ next other → file_at (before ++ other) ≡ Err other) → Refuses before left
stuck before [] kept = λ file h. let one = kept [] refl in let two = reads_file before file h in let same = ap file_at (append_none before) in absurd cc
stuck before (l ∷ left) kept = λ h.
    let one = kept (l ∷ h.0) refl in
    let two = reads_file ((before ++ l ∷ []) ++ h.0) h.1 h.2 in
    let same = ap file_at (regroup before l h.0) in
    absurd cc

-- no file goes on after tokens that are one where reading takes no further one
over : (before : Lexemes) (l : Lexeme) (file : File) → ((other : Lexemes) → Some l ≡ next other → file_at (before ++ other) ≡ Ok (file, other)) → Refuses before (l ∷ [])
over before l file kept h =
    let one = kept (l ∷ h.0) refl in
    let two = reads_file ((before ++ l ∷ []) ++ h.0) h.1 h.2 in
    let same = ap file_at (regroup before l h.0) in
    let both : ◌≡◌ {A = Reading File} (Ok (file, l ∷ h.0)) (Ok (h.1, [])) = sym one ∙ sym same ∙ two in
    let tails : l ∷ h.0 ≡ [] = (ok_parts file h.1 (l ∷ h.0) [] both).1 in
    absurd cc

end_err : (file : File) (mid left : Lexemes) → at_end file mid ≡ Err left → (l : Lexeme) × (ls : Lexemes) × (mid ≡ l ∷ ls) × (left ≡ l ∷ ls)
end_err file [] left e = absurd cc
end_err file (l ∷ mid) left e = let same : left ≡ l ∷ mid = cc in (l, mid, refl, same)

abbrev Found : Lexemes → Lexemes → Type 0
Found ls left = (before : Lexemes) × SyntaxBreaks ls before left

-- what reading refuses is the first token that no file goes on with
pub whole_breaks : (ls left : Lexemes) → whole_at ls ≡ Err left → (before : Lexemes) × SyntaxBreaks ls before left
unfolding file_lawful
whole_breaks ls left e = then_err (Found ls left) (file_at ls) (λ f. at_end f.0 f.1) left e
    (λ d. let s = file_lawful.stopped ls left d in (s.front, record { parts = s.parts; alive = (s.more, s.value, s.real, s.spelled); refused = stuck s.front left s.kept }))
    (λ file mid d f.
    let t = file_lawful.found ls mid file d in
    let is = end_err file mid left f in
    let parts : ls ≡ t.taken ++ left = t.parts ∙ ap (λ (z : Lexemes). t.taken ++ z) (is.2 ∙ sym is.3) in
    let alive : GoesOn t.taken = ([], file, tt, subst (λ (z : Lexemes). ReadsFile z file) (sym (append_none t.taken)) t.spelled) in
    let refused : Refuses t.taken (is.0 ∷ []) = over t.taken is.0 file (λ other n. t.kept other (ap next is.2 ∙ n)) in
    (t.taken, record { parts = parts; alive = alive; refused = subst (λ (z : Lexemes). Refuses t.taken z) (sym is.3) refused }))

-- each list of tokens is a file or has a break
pub file_or_break : (ls : Lexemes) → ((file : File) × ReadsFile ls file) ⊎ ((before behind : Lexemes) × SyntaxBreaks ls before behind)
file_or_break ls = by (whole_at ls) refl where
  by : (r : Reading File) → whole_at ls ≡ r → ((file : File) × ReadsFile ls file) ⊎ ((before behind : Lexemes) × SyntaxBreaks ls before behind)
  by (Ok x) e = inl (x.0, whole_file ls x.1 x.0 e)
  by (Err left) e = let b = whole_breaks ls left e in inr (b.0, left, b.1)

-- tokens are one file at most
pub one_file : (ls : Lexemes) (file other : File) → ReadsFile ls file → ReadsFile ls other → file ≡ other
one_file ls file other h k = (ok_parts file other [] [] (sym (reads_file ls file h) ∙ reads_file ls other k)).0

-- tokens that are a file have no break
pub never_both : (ls : Lexemes) (file : File) (before behind : Lexemes) → ReadsFile ls file → SyntaxBreaks ls before behind → ⊥
never_both ls file before [] h b = b.refused file (subst (λ (z : Lexemes). ReadsFile z file) (b.parts ∙ append_none before) h)
never_both ls file before (l ∷ behind) h b = b.refused (behind, file, subst (λ (z : Lexemes). ReadsFile z file) (b.parts ∙ sym (regroup before l behind)) h)

-- what a file begins with, with fewer tokens
begins_front : (front more : Lexemes) → Begins (front ++ more) → Begins front
begins_front front more h = (more ++ h.0, h.1, subst (λ (z : Lexemes). ReadsFile z h.1) (append_assoc front more h.0) h.2)

-- one of two fronts of a list is a front of the other
fronts : (a b c d : Lexemes) → a ++ b ≡ c ++ d → ((a ≡ c) × (b ≡ d)) ⊎ (((l : Lexeme) × (m : Lexemes) × (c ≡ a ++ l ∷ m) × (b ≡ (l ∷ m) ++ d)) ⊎ ((l : Lexeme) × (m : Lexemes) × (a ≡ c ++ l ∷ m) × (d ≡ (l ∷ m) ++ b)))
fronts [] b [] d e = inl (refl, e)
fronts [] b (l ∷ c) d e = inr (inl (l, c, refl, e))
fronts (l ∷ a) b [] d e = inr (inr (l, a, refl, sym e))
fronts (x ∷ a) b (y ∷ c) d e =
    let first : x ≡ y = cc in
    let rest : a ++ b ≡ c ++ d = cc in
    elim (fronts a b c d rest) [
      | inl h ↦ let one = h.0 in inl (cc, h.1)
      | inr h ↦ elim h [
        | inl k ↦ let one = k.2 in inr (inl (k.0, k.1, cc, k.3))
        | inr k ↦ let one = k.2 in inr (inr (k.0, k.1, cc, k.3))
      ]
    ]

-- a break with fewer tokens before it is none
shorter_break : (ls before behind front : Lexemes) (l : Lexeme) (m : Lexemes) (rest : Lexemes) → SyntaxBreaks ls before behind → before ≡ front ++ l ∷ m → Refuses front (l ∷ rest) → ⊥
shorter_break ls before behind front l m rest b e refused = refused (begins_front (front ++ l ∷ []) m (subst Begins (e ∙ sym (regroup front l m)) (b.alive.0, b.alive.1, b.alive.3)))

refuses_at : (before behind : Lexemes) (l : Lexeme) (m : Lexemes) → behind ≡ l ∷ m → Refuses before behind → Refuses before (l ∷ m)
refuses_at before behind l m e h = subst (λ (z : Lexemes). Refuses before z) e h

-- tokens have one break at most
pub one_break : (ls before behind others rest : Lexemes) → SyntaxBreaks ls before behind → SyntaxBreaks ls others rest → behind ≡ rest
one_break ls before behind others rest a b =
    elim (fronts before behind others rest (sym a.parts ∙ b.parts)) [
      | inl h ↦ h.1
      | inr h ↦ elim h [
        | inl k ↦ absurd (shorter_break ls others rest before k.0 k.1 (k.1 ++ rest) b k.2 (refuses_at before behind k.0 (k.1 ++ rest) k.3 a.refused))
        | inr k ↦ absurd (shorter_break ls before behind others k.0 k.1 (k.1 ++ behind) a k.2 (refuses_at others rest k.0 (k.1 ++ behind) k.3 b.refused))
      ]
    ]

break_answer : (bytes : List ℕ) (tokens : List Token) (left : Lexemes) → FaultOf (length bytes) (lexemes bytes tokens) (fault_at (length bytes) left) → Answers bytes tokens (Err (fault_at (length bytes) left))
break_answer bytes tokens [] h = h
break_answer bytes tokens (l ∷ ls) h = h

-- what is answered where reading refuses a token
pub refused_answer : (bytes : List ℕ) (tokens : List Token) (left : Lexemes) (fault : SyntaxFault) → whole_at (lexemes bytes tokens) ≡ Err left → fault ≡ fault_at (length bytes) left → Answers bytes tokens (Err fault)
refused_answer bytes tokens left fault e is =
    let b = whole_breaks (lexemes bytes tokens) left e in
    subst (λ (f : SyntaxFault). Answers bytes tokens (Err f)) (sym is) (break_answer bytes tokens left (b.0, left, b.1, refl))
