-- Reading modules by moves, and their spellings.
use Rattle.std.proofs.Common.{◌≡◌, Bool, true, false, List, [], ◌∷◌, ◌++◌, length, inl, inr, refl, sym, ap, subst, ◌∙◌, append_assoc}
use Rattle.slice_syntax.specs.declared.terminal.Terminal.{Terminal}
use Rattle.slice_syntax.specs.declared.tree.Word.{Word}
use Rattle.slice_syntax.specs.declared.tree.Item.{Item}
use Rattle.slice_syntax.specs.Lexemes.{AreTokens, Lexeme, Lexemes, has, begins, terminal_of}
use Rattle.slice_syntax.specs.Grammar.{Spells, Runs, ◌▸◌}
use Rattle.slice_syntax.specs.Reading.{Reading, is_empty, starts, read}
use Rattle.slice_syntax.specs.Rules.{word, name, texts, file_metadata, metadata, names, scoped, plain_type, object_type, named_type, type_word, signed_number, number, text, truth, named, value, given, tag, close, constant_item, entry, entry_comma, entries, enum_item, member, members, struct_item, sequence_item, dictionary_item, tagged_member, tagged_members, body, base, compact, class_body, class_item, exception_item, paths, bases, thrown, parameter, parameter_list, parameters, answered, operation, operations, interface_body, interface_item, definition}
use Rattle.slice_syntax.specs.Files.{head, enters, exits, Body, none, plain, nested}
use Rattle.slice_syntax.specs.Moving.{Move, enter, hold, leave, outer_move, inner_move, Open, move, moved, is_shut, items_of, all_items, moves_at, modules_at}
use Rattle.slice_syntax.proofs.Sets.{disjoint, apart, begins_append}
use Rattle.slice_syntax.proofs.Laws.{are_append, Lawful, lawful_made}
use Rattle.slice_syntax.proofs.Loops.{Stepping, lawful_runs}
use Rattle.slice_syntax.proofs.Fitting.{goes, fits, lawful, full, stepping}

pub fits_close : fits close ≡ true
unfolding close
fits_close = refl

pub fits_outer : fits outer_move ≡ true
unfolding word name texts file_metadata metadata names scoped plain_type object_type named_type type_word signed_number number text truth named value given tag close constant_item entry entry_comma entries enum_item member members struct_item sequence_item dictionary_item tagged_member tagged_members body base compact class_body class_item exception_item paths bases thrown parameter parameter_list parameters answered operation operations interface_body interface_item definition head outer_move
fits_outer = refl

pub fits_inner : fits inner_move ≡ true
unfolding word name texts file_metadata metadata names scoped plain_type object_type named_type type_word signed_number number text truth named value given tag close constant_item entry entry_comma entries enum_item member members struct_item sequence_item dictionary_item tagged_member tagged_members body base compact class_body class_item exception_item paths bases thrown parameter parameter_list parameters answered operation operations interface_body interface_item definition head outer_move inner_move
fits_inner = refl

outer_full : is_empty outer_move ≡ false
unfolding word name texts file_metadata metadata names scoped plain_type object_type named_type type_word signed_number number text truth named value given tag close constant_item entry entry_comma entries enum_item member members struct_item sequence_item dictionary_item tagged_member tagged_members body base compact class_body class_item exception_item paths bases thrown parameter parameter_list parameters answered operation operations interface_body interface_item definition head outer_move
outer_full = refl

pub inner_full : is_empty inner_move ≡ false
unfolding word name texts file_metadata metadata names scoped plain_type object_type named_type type_word signed_number number text truth named value given tag close constant_item entry entry_comma entries enum_item member members struct_item sequence_item dictionary_item tagged_member tagged_members body base compact class_body class_item exception_item paths bases thrown parameter parameter_list parameters answered operation operations interface_body interface_item definition head outer_move inner_move
inner_full = refl

outer_goes : goes outer_move ≡ []
unfolding word name texts file_metadata metadata names scoped plain_type object_type named_type type_word signed_number number text truth named value given tag close constant_item entry entry_comma entries enum_item member members struct_item sequence_item dictionary_item tagged_member tagged_members body base compact class_body class_item exception_item paths bases thrown parameter parameter_list parameters answered operation operations interface_body interface_item definition head outer_move
outer_goes = refl

inner_outer : disjoint (goes inner_move) (starts outer_move) ≡ true
unfolding word name texts file_metadata metadata names scoped plain_type object_type named_type type_word signed_number number text truth named value given tag close constant_item entry entry_comma entries enum_item member members struct_item sequence_item dictionary_item tagged_member tagged_members body base compact class_body class_item exception_item paths bases thrown parameter parameter_list parameters answered operation operations interface_body interface_item definition head outer_move inner_move
inner_outer = refl

inner_inner : disjoint (goes inner_move) (starts inner_move) ≡ true
unfolding word name texts file_metadata metadata names scoped plain_type object_type named_type type_word signed_number number text truth named value given tag close constant_item entry entry_comma entries enum_item member members struct_item sequence_item dictionary_item tagged_member tagged_members body base compact class_body class_item exception_item paths bases thrown parameter parameter_list parameters answered operation operations interface_body interface_item definition head outer_move inner_move
inner_inner = refl

abbrev Moves : Open → Lexemes → List Move → Type 0
Moves = Runs (λ o. Spells (move o)) moved is_shut

pub moves_steps : (o : Open) → Stepping (Spells (move o)) (read (move o)) (starts (move o)) (goes (move o))
moves_steps [] = stepping (Spells outer_move) (read outer_move) (starts outer_move) (goes outer_move) (full (Spells outer_move) (read outer_move) (is_empty outer_move) (starts outer_move) (goes outer_move) outer_full (lawful outer_move fits_outer))
moves_steps (n ∷ o) = stepping (Spells inner_move) (read inner_move) (starts inner_move) (goes inner_move) (full (Spells inner_move) (read inner_move) (is_empty inner_move) (starts inner_move) (goes inner_move) inner_full (lawful inner_move fits_inner))

not_in_none : (set : List Terminal) (s : Terminal) → set ≡ [] → has set s ≡ true → ⊥
not_in_none [] s e h = absurd cc
not_in_none (x ∷ set) s e h = absurd cc

pub moves_clear : (o : Open) (m : Move) (l : Lexeme) → has (goes (move o)) (terminal_of l) ≡ true → has (starts (move (moved o m))) (terminal_of l) ≡ false
moves_clear [] m l h = absurd (not_in_none (goes outer_move) (terminal_of l) outer_goes h)
moves_clear (n ∷ o) m l h = by (moved (n ∷ o) m) where
  by : (next : Open) → has (starts (move next)) (terminal_of l) ≡ false
  by [] = apart (goes inner_move) (starts outer_move) (terminal_of l) inner_outer h
  by (k ∷ next) = apart (goes inner_move) (starts inner_move) (terminal_of l) inner_inner h

abbrev pub ending : List Terminal
ending = starts outer_move ++ goes inner_move

pub moves_end : (o : Open) → is_shut o ≡ true → (rest : Lexemes) → begins ending rest ≡ false → begins (starts (move o)) rest ≡ false
moves_end [] e rest h = (begins_append (starts outer_move) (goes inner_move) rest h).0
moves_end (n ∷ o) e rest h = absurd cc

none_begins : (set : List Terminal) (rest : Lexemes) → set ≡ [] → begins set rest ≡ false
none_begins set [] e = refl
none_begins set (l ∷ rest) e = rw e refl

pub moves_steps_end : (o : Open) (rest : Lexemes) → begins ending rest ≡ false → begins (goes (move o)) rest ≡ false
moves_steps_end [] rest h = none_begins (goes outer_move) rest outer_goes
moves_steps_end (n ∷ o) rest h = (begins_append (starts outer_move) (goes inner_move) rest h).1

close_laws : Lawful (Spells close) (read close) (is_empty close) (starts close) (goes close)
close_laws = lawful close fits_close

left_inner : (ls : Lexemes) → Spells close ls tt → Spells inner_move ls leave
unfolding inner_move
left_inner ls h = inl (tt, h, refl)

pub moves_done : (o : Open) → (ls : Lexemes) × (ms : List Move) × Moves o ls ms × AreTokens ls
unfolding close_laws
moves_done [] = ([], [], (refl, refl), tt)
moves_done (n ∷ o) = let d = moves_done o in (close_laws.some ++ d.0, leave ∷ d.1, (close_laws.some, d.0, refl, left_inner close_laws.some close_laws.spelled, d.2), are_append close_laws.some d.0 close_laws.real d.3)

pub moves_lawful : Lawful (Moves []) (moves_at []) true (starts outer_move) ending
moves_lawful = lawful_runs (λ o. Spells (move o)) (λ o. read (move o)) moved is_shut (λ o. starts (move o)) (λ o. goes (move o)) ending moves_steps moves_clear moves_end moves_steps_end moves_done []

-- What a move is.
outer_enter : (ls : Lexemes) (words : List Word) → Spells outer_move ls (enter words) → Spells (metadata ▸ head) ls words
unfolding outer_move
outer_enter ls words h = let same : words ≡ h.0 = cc in subst (λ (w : List Word). Spells (metadata ▸ head) ls w) (sym same) h.1

enter_outer : (ls : Lexemes) (words : List Word) → Spells (metadata ▸ head) ls words → Spells outer_move ls (enter words)
unfolding outer_move
enter_outer ls words h = (words, h, refl)

outer_hold : (ls : Lexemes) (item : Item) → Spells outer_move ls (hold item) → ⊥
unfolding outer_move
outer_hold ls item h = let e = h.2 in cc

outer_leave : (ls : Lexemes) → Spells outer_move ls leave → ⊥
unfolding outer_move
outer_leave ls h = let e = h.2 in cc

inner_enter : (ls : Lexemes) (words : List Word) → Spells inner_move ls (enter words) → Spells (metadata ▸ head) ls words
unfolding inner_move
inner_enter ls words (inl h) = let e = h.2 in absurd cc
inner_enter ls words (inr (x, y, before, behind, e, m, inl k, is)) = let a = k.2 in let same : words ≡ k.0 = cc in (x, k.0, before, behind, e, m, k.1, same)
inner_enter ls words (inr (x, y, before, behind, e, m, inr k, is)) = let a = k.2 in absurd cc

enter_inner : (ls : Lexemes) (words : List Word) → Spells (metadata ▸ head) ls words → Spells inner_move ls (enter words)
unfolding inner_move
enter_inner ls words h = inr (h.0, enter h.1, h.2, h.3, h.4, h.5, inl (h.1, h.6, refl), ap (λ (w : List Word). enter w) h.7)

inner_hold : (ls : Lexemes) (item : Item) → Spells inner_move ls (hold item) → Spells (metadata ▸ definition) ls item
unfolding inner_move
inner_hold ls item (inl h) = let e = h.2 in absurd cc
inner_hold ls item (inr (x, y, before, behind, e, m, inl k, is)) = let a = k.2 in absurd cc
inner_hold ls item (inr (x, y, before, behind, e, m, inr k, is)) = let a = k.2 in let same : item ≡ k.0 = cc in (x, k.0, before, behind, e, m, k.1, same)

hold_inner : (ls : Lexemes) (item : Item) → Spells (metadata ▸ definition) ls item → Spells inner_move ls (hold item)
unfolding inner_move
hold_inner ls item h = inr (h.0, hold h.1, h.2, h.3, h.4, h.5, inr (h.1, h.6, refl), ap (λ (i : Item). hold i) h.7)

inner_leave : (ls : Lexemes) → Spells inner_move ls leave → Spells close ls tt
unfolding inner_move
inner_leave ls (inl h) = h.1
inner_leave ls (inr (x, y, before, behind, e, m, inl k, is)) = let a = k.2 in absurd cc
inner_leave ls (inr (x, y, before, behind, e, m, inr k, is)) = let a = k.2 in absurd cc

-- The tokens complete the modules that are open.
abbrev Rest : Open → Lexemes → List Item → Type 0
Rest [] ls all = Body false ls all
Rest (n ∷ o) ls all = (inside closing behind : Lexemes) × (held others : List Item) × (ls ≡ inside ++ (closing ++ behind)) × (all ≡ held ++ (exits n ++ others)) × Body true inside held
    × Spells close closing tt × Rest o behind others

move_rest : (o : Open) (m : Move) (before behind : Lexemes) (all : List Item) → Spells (move o) before m → Rest (moved o m) behind all → Rest o (before ++ behind) (items_of o m ++ all)
move_rest [] (enter words) before behind all step h =
    let built = nested false before h.0 h.1 h.2 words h.3 h.4 (outer_enter before words step) h.7 h.8 h.9 in
    let tokens : before ++ (h.0 ++ (h.1 ++ h.2)) ≡ before ++ behind = ap (λ (z : Lexemes). before ++ z) (sym h.5) in
    let leaves : enters words ++ (h.3 ++ (exits (length words) ++ h.4)) ≡ enters words ++ all = ap (λ (z : List Item). enters words ++ z) (sym h.6) in
    subst (λ (z : Lexemes). Body false z (enters words ++ all)) tokens (subst (λ (z : List Item). Body false (before ++ (h.0 ++ (h.1 ++ h.2))) z) leaves built)
move_rest [] (hold item) before behind all step h = absurd (outer_hold before item step)
move_rest [] leave before behind all step h = absurd (outer_leave before step)
move_rest (n ∷ o) (enter words) before behind all step h =
    let k = h.9 in
    let built = nested true before h.0 h.1 k.0 words h.3 k.3 (inner_enter before words step) h.7 h.8 k.7 in
    let tail : behind ≡ h.0 ++ (h.1 ++ (k.0 ++ (k.1 ++ k.2))) = h.5 ∙ ap (λ (z : Lexemes). h.0 ++ (h.1 ++ z)) k.5 in
    let leaves : all ≡ h.3 ++ (exits (length words) ++ (k.3 ++ (exits n ++ k.4))) = h.6 ∙ ap (λ (z : List Item). h.3 ++ (exits (length words) ++ z)) k.6 in (
      before ++ (h.0 ++ (h.1 ++ k.0)),
      k.1,
      k.2,
      enters words ++ (h.3 ++ (exits (length words) ++ k.3)),
      k.4,
      ap (λ (z : Lexemes). before ++ z) tail ∙ simp append_assoc,
      ap (λ (z : List Item). enters words ++ z) leaves ∙ simp append_assoc,
      built,
      k.8,
      k.9,
    )
move_rest (n ∷ o) (hold item) before behind all step h = (
  before ++ h.0,
  h.1,
  h.2,
  item ∷ h.3,
  h.4,
  ap (λ (z : Lexemes). before ++ z) h.5 ∙ sym (append_assoc before h.0 (h.1 ++ h.2)),
  ap (λ (z : List Item). item ∷ z) h.6,
  plain before h.0 item h.3 (inner_hold before item step) h.7,
  h.8,
  h.9,
)
move_rest (n ∷ o) leave before behind all step h =
    let closing = inner_leave before step in
    ([], before, behind, [], all, refl, refl, none true, closing, h)

pub moves_rest : (ms : List Move) (o : Open) (ls : Lexemes) → Moves o ls ms → Rest o ls (all_items o ms)
moves_rest [] [] ls h = subst (λ (z : Lexemes). Body false z []) (sym h.0) (none false)
moves_rest [] (n ∷ o) ls h = let e = h.1 in absurd cc
moves_rest (m ∷ ms) o ls h = subst (λ (z : Lexemes). Rest o z (items_of o m ++ all_items (moved o m) ms)) (sym h.2) (move_rest o m h.0 h.1 (all_items (moved o m) ms) h.3 (moves_rest ms (moved o m) h.1 h.4))

-- Where a body stands: in a module, or not.
abbrev Level : Bool → Open → Type 0
Level true [] = ⊥
Level true (n ∷ o) = Unit {0}
Level false [] = Unit {0}
Level false (n ∷ o) = ⊥

enter_move : (o : Open) (ls : Lexemes) (words : List Word) → Spells (metadata ▸ head) ls words → Spells (move o) ls (enter words)
enter_move [] ls words h = enter_outer ls words h
enter_move (n ∷ o) ls words h = enter_inner ls words h

hold_move : (o : Open) (ls : Lexemes) (item : Item) → Level true o → Spells (metadata ▸ definition) ls item → Spells (move o) ls (hold item)
hold_move [] ls item at h = absurd at
hold_move (n ∷ o) ls item at h = hold_inner ls item h

pub body_moves : {inner : Bool} {ls : Lexemes} {items : List Item} → Body inner ls items → (o : Open) → Level inner o → (behind : Lexemes) (ms : List Move) → Moves o behind ms
    → (all : List Move) × Moves o (ls ++ behind) all × (all_items o all ≡ items ++ all_items o ms)
body_moves (none inner) o at behind ms h = (ms, h, refl)
body_moves (plain before inside item others step body) o at behind ms h =
    let r = body_moves body o at behind ms h in
    (hold item ∷ r.0, (before, inside ++ behind, append_assoc before inside behind, hold_move o before item at step, r.1), ap (λ (z : List Item). item ∷ z) r.2)
body_moves (nested inner opening inside closing tail words held others step body shut rest) o at behind ms h =
    let r = body_moves rest o at behind ms h in
    let closed : Moves (length words ∷ o) (closing ++ (tail ++ behind)) (leave ∷ r.0) = (closing, tail ++ behind, refl, left_inner closing shut, r.1) in
    let q = body_moves body (length words ∷ o) tt (closing ++ (tail ++ behind)) (leave ∷ r.0) closed in (
      enter words ∷ q.0,
      (opening, inside ++ (closing ++ (tail ++ behind)), simp append_assoc, enter_move o opening words step, q.1),
      ap (λ (z : List Item). enters words ++ z) (q.2 ∙ ap (λ (z : List Item). held ++ (exits (length words) ++ z)) r.2) ∙ simp append_assoc,
    )

-- the laws of other spellings that are the same
pub lawful_same : {A : Type 0} (P Q : Lexemes → A → Type 0) (r : Lexemes → Reading A) (bare : Bool) (set others : List Terminal) → ((ls : Lexemes) (x : A) → P ls x → Q ls x) → ((ls : Lexemes) (x : A) → Q ls x → P ls x)
    → Lawful P r bare set others → Lawful Q r bare set others
lawful_same P Q r bare set others to back g = record {
  empty = λ x h. g.empty x (back [] x h);
  first = λ l ls x h. g.first l ls x (back (l ∷ ls) x h);
  some = g.some;
  real = g.real;
  value = g.value;
  spelled = to g.some g.value g.spelled;
  found = λ ls rest x e. let t = g.found ls rest x e in record { taken = t.taken; parts = t.parts; spelled = to t.taken x t.spelled; kept = t.kept };
  stopped = λ ls left e. let s = g.stopped ls left e in record { front = s.front; parts = s.parts; kept = s.kept; more = s.more; real = s.real; value = s.value; spelled = to (s.front ++ s.more) s.value s.spelled };
  only = λ taken rest x h none. g.only taken rest x (back taken x h) none;
}

abbrev Left : Lexemes → List Item → Type 0
Left ls items = (ms : List Move) × Moves [] ls ms × (items ≡ all_items [] ms)

left_body : (ls : Lexemes) (items : List Item) → Left ls items → Body false ls items
left_body ls items h = subst (λ (z : List Item). Body false ls z) (sym h.2) (moves_rest h.0 [] ls h.1)

pub append_none : {A : Type 0} (xs : List A) → xs ++ [] ≡ xs
append_none [] = refl
append_none (x ∷ xs) = ap (λ (z : List _). x ∷ z) (append_none xs)

body_left : (ls : Lexemes) (items : List Item) → Body false ls items → Left ls items
body_left ls items h =
    let r = body_moves h [] tt [] [] (refl, refl) in
    (r.0, subst (λ (z : Lexemes). Moves [] z r.0) (append_none ls) r.1, sym (r.2 ∙ append_none items))

pub modules_lawful : Lawful (Body false) modules_at true (starts outer_move) ending
modules_lawful = lawful_same Left (Body false) modules_at true (starts outer_move) ending left_body body_left (lawful_made (all_items []) (Moves []) (moves_at []) true (starts outer_move) ending moves_lawful)
