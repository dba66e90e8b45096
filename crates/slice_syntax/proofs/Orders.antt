-- What a text declares stands in its order.
use Rattle.std.proofs.Common.{ℕ, zero, suc, ◌<◌, ◌≤◌, Bool, true, false, List, [], ◌∷◌, ◌++◌, length, sym, ◌∙◌, subst, arith}
use Rattle.slice_syntax.specs.declared.tree.Word.{Word}
use Rattle.slice_syntax.specs.declared.tree.Item.{Item}
use Rattle.slice_lexer.specs.declared.token.Token.{Token}
use Rattle.slice_lexer.specs.Lexing.{Lexes, AreSpans}
use Rattle.slice_lexer.proofs.Standing.{lexes_spans}
use Rattle.slice_syntax.specs.Lexemes.{Lexemes, lexemes}
use Rattle.slice_syntax.specs.Grammar.{Spells, Runs, one, both}
use Rattle.slice_syntax.specs.Grammar as grammar
use Rattle.slice_syntax.specs.Rules as rules
use Rattle.slice_syntax.specs.Files.{Body, none, plain, nested, head, enters, exits, ReadsFile}
use Rattle.slice_syntax.specs.declared.tree.File.{File}
use Rattle.slice_syntax.specs.Terminals.{colons}
use Rattle.slice_syntax.specs.Places.{Each, AtPlaces, AreInOrder}
use Rattle.slice_syntax.proofs.Transfers.{in_definition, in_word, in_next_word}
use Rattle.slice_syntax.specs.declared.terminal.Terminal.{Terminal}

-- the tokens rise from a place to another
abbrev Rise : ℕ → Lexemes → ℕ → Type 0
Rise from [] to = from ≤ to
Rise from (l ∷ ls) to = (from ≤ l.from) × Rise (suc l.from) ls to

module _ (P : ℕ → Type 0) where
  definition_at : (ls : Lexemes) (item : Item) → Spells (both (λ x y. y) rules.metadata rules.definition) ls item → Each (λ l. P l.from) ls → AtPlaces P item
  definition_at ls item s h = in_definition (λ l. P l.from) (λ w. P w.place) P (λ l is p. p) (λ l p. p) ls item s h

  word_at : (ls : Lexemes) (w : Word) → Spells rules.word ls w → Each (λ l. P l.from) ls → P w.place
  word_at ls w s h = in_word (λ l. P l.from) (λ w. P w.place) P (λ l is p. p) (λ l p. p) ls w s h

  next_word_at : (terminal : Terminal) (ls : Lexemes) (w : Word) → Spells (both (λ x y. y) (one terminal) rules.word) ls w → Each (λ l. P l.from) ls → P w.place
  next_word_at terminal ls w s h = in_next_word (λ l. P l.from) (λ w. P w.place) P (λ l is p. p) (λ l p. p) terminal ls w s h

rise_up : (from to : ℕ) (ls : Lexemes) → Rise from ls to → from ≤ to
rise_up from to [] h = h
rise_up from to (l ∷ ls) h = let r = rise_up (suc l.from) to ls h.1 in omega (arith, h.0)

-- tokens in two parts
parts : (from to : ℕ) (xs ys : Lexemes) → Rise from (xs ++ ys) to → (mid : ℕ) × Rise from xs mid × Rise mid ys to
parts from to [] ys h = (from, omega arith, h)
parts from to (x ∷ xs) ys h = let r = parts (suc x.from) to xs ys h.1 in (r.0, (h.0, r.1), r.2)

-- a place from one to another
abbrev Within : ℕ → ℕ → ℕ → Type 0
Within from to place = (from ≤ place) × (place < to)

wider : (low from to : ℕ) (ls : Lexemes) → low ≤ from → Each (λ l. Within from to l.from) ls → Each (λ l. Within low to l.from) ls
wider low from to [] h e = tt
wider low from to (l ∷ ls) h e = ((omega (arith, e.0.0), e.0.1), wider low from to ls h e.1)

within : (from to : ℕ) (ls : Lexemes) → Rise from ls to → Each (λ l. Within from to l.from) ls
within from to [] h = tt
within from to (l ∷ ls) h =
    let up = rise_up (suc l.from) to ls h.1 in
    ((h.0, omega arith), wider from (suc l.from) to ls (let a = h.0 in omega arith) (within (suc l.from) to ls h.1))

-- declarations in order from a place to another
abbrev pub Ordered : ℕ → List Item → ℕ → Type 0
Ordered from [] to = from ≤ to
Ordered from (item ∷ others) to = (start mid : ℕ) × (from ≤ start) × (start ≤ mid) × AtPlaces (λ place. (start ≤ place) × (place < mid)) item × Ordered mid others to

later : (low from to : ℕ) (xs : List Item) → low ≤ from → Ordered from xs to → Ordered low xs to
later low from to [] h o = omega arith
later low from to (x ∷ xs) h o = (o.0, o.1, (let a = o.2 in omega arith), o.3, o.4, o.5)

joined : (from mid to : ℕ) (xs ys : List Item) → Ordered from xs mid → Ordered mid ys to → Ordered from (xs ++ ys) to
joined from mid to [] ys a b = later from mid to ys a b
joined from mid to (x ∷ xs) ys a b = (a.0, a.1, a.2, a.3, a.4, joined a.1 mid to xs ys a.5 b)

in_order : (from to : ℕ) (xs : List Item) → Ordered from xs to → AreInOrder from xs
in_order from to [] o = tt
in_order from to (x ∷ xs) o = (o.0, o.1, o.2, o.3, o.4, in_order o.1 to xs o.5)

exits_in : (from to n : ℕ) → from ≤ to → Ordered from (exits n) to
exits_in from to zero h = h
exits_in from to (suc n) h = (from, from, omega arith, omega arith, tt, exits_in from to n h)

-- further names of a module
words_in : (from to : ℕ) (state : Bool) (ls : Lexemes) (ws : List Word) → Runs (grammar.Where (Spells (both (λ (x : ℕ) (y : Word). y) (one colons) rules.word))) (λ s x. true) (λ s. true) state ls ws → Rise from ls to → Ordered from (enters ws) to
words_in from to state ls [] s h = rise_up from to ls h
words_in from to state ls (w ∷ ws) s h =
    let r = parts from to s.0 s.1 (subst (λ (l : Lexemes). Rise from l to) s.2 h) in
    (from, r.0, omega arith, rise_up from r.0 s.0 r.1, by_state (λ place. (from ≤ place) × (place < r.0)) state s.3 (within from r.0 s.0 r.1), words_in r.0 to true s.1 ws s.4 r.2)
  where
    by_state : (P : ℕ → Type 0) (b : Bool) → grammar.Where (Spells (both (λ (x : ℕ) (y : Word). y) (one colons) rules.word)) b s.0 w → Each (λ l. P l.from) s.0 → P w.place
    by_state P true spelled places = next_word_at P colons s.0 w spelled places
    by_state P false spelled places = absurd spelled

head_in : (from to : ℕ) (ls : Lexemes) (ws : List Word) → Spells head ls ws → Rise from ls to → Ordered from (enters ws) to
unfolding head
head_in from to ls ws s h =
    let front = parts from to s.2 s.3 (subst (λ (l : Lexemes). Rise from l to) s.4 h) in
    let t = s.5 in
    let keyword = parts from front.0 t.2 t.3 (subst (λ (l : Lexemes). Rise from l front.0) t.4 front.1) in
    let u = t.6 in
    let first = parts keyword.0 front.0 u.2 u.3 (subst (λ (l : Lexemes). Rise keyword.0 l front.0) u.4 keyword.2) in
    let words = words_in first.0 front.0 true u.3 u.1 u.6 first.2 in
    let begins = rise_up from keyword.0 t.2 keyword.1 in
    let ends = rise_up front.0 to s.3 front.2 in
    let all : Ordered from (enters (u.0 ∷ u.1)) to =
    (keyword.0, first.0, begins, rise_up keyword.0 first.0 u.2 first.1, word_at (λ place. (keyword.0 ≤ place) × (place < first.0)) u.2 u.0 u.5 (within keyword.0 first.0 u.2 first.1), longer first.0 front.0 to (enters u.1) ends words) in
    subst (λ (l : List Word). Ordered from (enters l) to) (sym u.7 ∙ (sym t.7 ∙ sym s.7)) all
  where
    longer : (from mid to : ℕ) (xs : List Item) → mid ≤ to → Ordered from xs mid → Ordered from xs to
    longer from mid to [] h o = omega arith
    longer from mid to (x ∷ xs) h o = (o.0, o.1, o.2, o.3, o.4, longer o.1 mid to xs h o.5)

-- a head behind metadata
opening_in : (from to : ℕ) (ls : Lexemes) (ws : List Word) → Spells (both (λ x y. y) rules.metadata head) ls ws → Rise from ls to → Ordered from (enters ws) to
opening_in from to ls ws s h =
    let r = parts from to s.2 s.3 (subst (λ (l : Lexemes). Rise from l to) s.4 h) in
    subst (λ (l : List Word). Ordered from (enters l) to) (sym s.7) (later from r.0 to (enters s.1) (rise_up from r.0 s.2 r.1) (head_in r.0 to s.3 s.1 s.6 r.2))

body_in : (from to : ℕ) (inner : Bool) (ls : Lexemes) (is : List Item) → Body inner ls is → Rise from ls to → Ordered from is to
body_in from to inner [] [] (none _) h = h
body_in from to inner ls is (plain before behind item others spelled rest) h =
    let r = parts from to before behind h in
    (from, r.0, omega arith, rise_up from r.0 before r.1, definition_at (λ place. (from ≤ place) × (place < r.0)) before item spelled (within from r.0 before r.1), body_in r.0 to true behind others rest r.2)
body_in from to inner ls is (nested _ opening inside closing behind words held others opens holds closes rest) h =
    let a = parts from to opening (inside ++ (closing ++ behind)) h in
    let b = parts a.0 to inside (closing ++ behind) a.2 in
    let c = parts b.0 to closing behind b.2 in
    joined from a.0 to (enters words) (held ++ (exits (length words) ++ others)) (opening_in from a.0 opening words opens a.1)
    (joined a.0 b.0 to held (exits (length words) ++ others) (body_in a.0 b.0 true inside held holds b.1)
    (joined b.0 c.0 to (exits (length words)) others (exits_in b.0 c.0 (length words) (rise_up b.0 c.0 closing c.1)) (body_in c.0 to inner behind others rest c.2)))

-- tokens of a text rise to its end
rising : (text : List ℕ) (from end : ℕ) (tokens : List Token) → AreSpans from tokens end → Rise from (lexemes text tokens) end
rising text from end [] h = h
rising text from end (token ∷ tokens) h = (h.0, sooner (suc token.from) token.to end (lexemes text tokens) h.1 (rising text token.to end tokens h.2))
  where
    sooner : (low from to : ℕ) (ls : Lexemes) → low ≤ from → Rise from ls to → Rise low ls to
    sooner low from to [] h r = omega arith
    sooner low from to (l ∷ ls) h r = (let a = r.0 in omega arith, r.1)

-- the declarations of a file stand in the order of the text
pub in_order_of_text : (text : List ℕ) (tokens : List Token) (file : File) → Lexes text tokens → ReadsFile (lexemes text tokens) file → AreInOrder 0 file.items
in_order_of_text text tokens file lexes reads =
    let ls = lexemes text tokens in
    let to = length text in
    let h : Rise 0 ls to = rising text 0 to tokens (lexes_spans text tokens lexes) in
    let a = parts 0 to reads.front (reads.inner ++ reads.last) (subst (λ (l : Lexemes). Rise 0 l to) reads.parts h) in
    let b = parts a.0 to reads.inner reads.last a.2 in
    in_order 0 b.0 file.items (later 0 a.0 b.0 file.items (omega arith) (body_in a.0 b.0 false reads.inner file.items reads.modules b.1))
