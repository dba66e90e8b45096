-- Reading modules, move by move.
use Rattle.std.proofs.Common.{ℕ, ◌≡◌, ◌<◌, Bool, true, false, OnOk, OnErr, List, [], ◌∷◌, ◌++◌, length, reverse, Result, Ok, Err, refl, sym, ap, subst, ◌∙◌, append_assoc}
use Rattle.std.proofs.lemmas.Bool.{false≢true}
use Rattle.std.proofs.lemmas.List.{reverse-append}
use Rattle.slice_syntax.specs.declared.fault.Stop.{Stop}
use Rattle.slice_syntax.specs.declared.fault.Stop.TheVariants as stops
use Rattle.slice_syntax.specs.declared.terminal.Terminal.{Terminal}
use Rattle.slice_syntax.specs.declared.tree.Word.{Word}
use Rattle.slice_syntax.specs.declared.tree.Item.{Item}
use Rattle.slice_syntax.specs.Lexemes.{Lexemes, begins}
use Rattle.slice_syntax.specs.Grammar.{Spells, ◌▸◌}
use Rattle.slice_syntax.specs.Reading.{Reading, ◌>>=◌, is_empty, starts, read}
use Rattle.slice_syntax.specs.Terminals.{word_module, open_square, close_brace}
use Rattle.slice_syntax.specs.Rules.{word, name, texts, file_metadata, metadata, names, scoped, plain_type, object_type, named_type, type_word, signed_number, number, text, truth, named, value, given, tag, close, constant_item, entry, entry_comma, entries, enum_item, member, members, struct_item, sequence_item, dictionary_item, tagged_member, tagged_members, body, base, compact, class_body, class_item, exception_item, paths, bases, thrown, parameter, parameter_list, parameters, answered, operation, operations, interface_body, interface_item, definition}
use Rattle.slice_syntax.specs.Files.{head}
use Rattle.slice_syntax.specs.Moving.{Move, enter, hold, leave, outer_move, inner_move, Open, move, moved, is_shut, items_of, all_items, moves_at, modules_at, resume}
use Rattle.slice_syntax.specs.Taking.{TakesWith}
use Rattle.slice_syntax.proofs.Laws.{Lawful}
use Rattle.slice_syntax.proofs.Loops.{whole_more, whole_err, whole_end, whole_less}
use Rattle.slice_syntax.proofs.Fitting.{goes, lawful, full}
use Rattle.slice_syntax.proofs.Nesting.{fits_inner, inner_full, ending, moves_steps, moves_clear, moves_end, moves_steps_end, moves_done, append_none}
use Rattle.slice_syntax.proofs.Starts.{begun, not_begun}

pub starts_outer : starts outer_move ≡ open_square ∷ word_module ∷ []
unfolding word name texts file_metadata metadata names scoped plain_type object_type named_type type_word signed_number number text truth named value given tag close constant_item entry entry_comma entries enum_item member members struct_item sequence_item dictionary_item tagged_member tagged_members body base compact class_body class_item exception_item paths bases thrown parameter parameter_list parameters answered operation operations interface_body interface_item definition head outer_move
starts_outer = refl

starts_close : starts close ≡ close_brace ∷ []
unfolding close
starts_close = refl

starts_head : starts head ≡ word_module ∷ []
unfolding word name texts file_metadata metadata names scoped plain_type object_type named_type type_word signed_number number text truth named value given tag close constant_item entry entry_comma entries enum_item member members struct_item sequence_item dictionary_item tagged_member tagged_members body base compact class_body class_item exception_item paths bases thrown parameter parameter_list parameters answered operation operations interface_body interface_item definition head
starts_head = refl

-- what does not begin a part is refused at once
pub refused_at_once : {A : Type 0} (P : Lexemes → A → Type 0) (r : Lexemes → Reading A) (set others : List Terminal) → Lawful P r false set others → (ls : Lexemes) → begins set ls ≡ false → r ls ≡ Err ls
refused_at_once {A = A} P r set others g ls none = by (r ls) refl where
  front_none : (front rest : Lexemes) (x : A) → ls ≡ front ++ rest → P front x → ⊥
  front_none [] rest x e h = false≢true (g.empty x h)
  front_none (l ∷ front) rest x e h = let one = g.first l front x h in let two : begins set (l ∷ front ++ rest) ≡ false = ap (begins set) (sym e) ∙ none in absurd cc

  stop_none : (front left more : Lexemes) (x : A) → ls ≡ front ++ left → P (front ++ more) x → left ≡ ls
  stop_none [] left more x e h = sym e
  stop_none (l ∷ front) left more x e h = let one = g.first l (front ++ more) x h in let two : begins set (l ∷ front ++ left) ≡ false = ap (begins set) (sym e) ∙ none in absurd cc

  by : (q : Reading A) → r ls ≡ q → r ls ≡ Err ls
  by (Ok x) e = let t = g.found ls x.1 x.0 e in absurd (front_none t.taken x.1 x.0 t.parts t.spelled)
  by (Err left) e = let s = g.stopped ls left e in e ∙ ap (λ (z : Lexemes). stop z) (stop_none s.front left s.more s.value s.parts s.spelled) where
    stop : Lexemes → Reading A
    stop z = Err z

inner_laws : Lawful (Spells inner_move) (read inner_move) false (starts inner_move) (goes inner_move)
inner_laws = full (Spells inner_move) (read inner_move) (is_empty inner_move) (starts inner_move) (goes inner_move) inner_full (lawful inner_move fits_inner)

pub inner_begun : (ls mid : Lexemes) (m : Move) → read inner_move ls ≡ Ok (m, mid) → begins (starts inner_move) ls ≡ true
inner_begun ls mid m e = by (begins (starts inner_move) ls) refl where
  by : (b : Bool) → begins (starts inner_move) ls ≡ b → begins (starts inner_move) ls ≡ true
  by true h = h
  by false h = let f = refused_at_once (Spells inner_move) (read inner_move) (starts inner_move) (goes inner_move) inner_laws ls h in absurd cc

moves_more : (o : Open) (ls mid : Lexemes) (m : Move) → begins (starts (move o)) ls ≡ true → read (move o) ls ≡ Ok (m, mid) → moves_at o ls ≡ (moves_at (moved o m) mid >>= (λ ms. Ok (m ∷ ms.0, ms.1)))
moves_more o ls mid m b e = whole_more (λ p. Spells (move p)) (λ p. read (move p)) moved is_shut (λ p. starts (move p)) (λ p. goes (move p)) ending moves_steps moves_clear moves_end moves_steps_end moves_done o ls mid m b e

moves_err : (o : Open) (ls left : Lexemes) → begins (starts (move o)) ls ≡ true → read (move o) ls ≡ Err left → moves_at o ls ≡ Err left
moves_err o ls left b e = whole_err (λ p. Spells (move p)) (λ p. read (move p)) moved is_shut (λ p. starts (move p)) (λ p. goes (move p)) ending moves_steps moves_clear moves_end moves_steps_end moves_done o ls left b e

pub moves_less : (o : Open) (ls mid : Lexemes) (m : Move) → begins (starts (move o)) ls ≡ true → read (move o) ls ≡ Ok (m, mid) → length mid < length ls
moves_less o ls mid m b e = whole_less (λ p. Spells (move p)) (λ p. read (move p)) moved is_shut (λ p. starts (move p)) (λ p. goes (move p)) ending moves_steps moves_clear moves_end moves_steps_end moves_done o ls mid m b e

joined : (items after : List Item) (o : Open) (m : Move) (q : Reading (List Move)) → after ≡ items ++ items_of o m
    → (q >>= (λ ms. Ok (after ++ all_items (moved o m) ms.0, ms.1))) ≡ ((q >>= (λ ms. Ok (m ∷ ms.0, ms.1))) >>= (λ ms. Ok (items ++ all_items o ms.0, ms.1)))
joined items after o m (Ok ms) is = ap (λ (z : List Item). ok z ms.1) (ap (λ (z : List Item). z ++ all_items (moved o m) ms.0) is ∙ append_assoc items (items_of o m) (all_items (moved o m) ms.0)) where
  ok : List Item → Lexemes → Reading (List Item)
  ok z rest = Ok (z, rest)
joined items after o m (Err left) is = refl

-- a move more
pub resume_more : (items after : List Item) (o next : Open) (ls mid : Lexemes) (m : Move) (r : Reading (List Item)) → begins (starts (move o)) ls ≡ true → read (move o) ls ≡ Ok (m, mid) → after ≡ items ++ items_of o m → next ≡ moved o m
    → resume items o ls ≡ r → resume after next mid ≡ r
resume_more items after o next ls mid m r b e is same h =
    ap (λ (n : Open). resume after n mid) same ∙ joined items after o m (moves_at (moved o m) mid) is ∙ ap (λ (q : Reading (List Move)). q >>= (λ ms. Ok (items ++ all_items o ms.0, ms.1))) (sym (moves_more o ls mid m b e)) ∙ h

-- a move refused
pub resume_err : (items : List Item) (o : Open) (ls left : Lexemes) → begins (starts (move o)) ls ≡ true → read (move o) ls ≡ Err left → resume items o ls ≡ Err left
resume_err items o ls left b e = ap (λ (q : Reading (List Move)). q >>= (λ ms. Ok (items ++ all_items o ms.0, ms.1))) (moves_err o ls left b e)

inner_stop : (n : ℕ) (o : Open) (ls left : Lexemes) → read inner_move ls ≡ Err left → moves_at (n ∷ o) ls ≡ Err left
inner_stop n o ls left e = by (begins (starts inner_move) ls) refl where
  ended : begins (starts inner_move) ls ≡ false → moves_at (n ∷ o) ls ≡ Err ls
  ended h = whole_end (λ p. Spells (move p)) (λ p. read (move p)) moved is_shut (λ p. starts (move p)) (λ p. goes (move p)) ending moves_steps moves_clear moves_end moves_steps_end moves_done (n ∷ o) ls h

  by : (b : Bool) → begins (starts inner_move) ls ≡ b → moves_at (n ∷ o) ls ≡ Err left
  by true h = moves_err (n ∷ o) ls left h e
  by false h = let f = refused_at_once (Spells inner_move) (read inner_move) (starts inner_move) (goes inner_move) inner_laws ls h in let g = ended h in cc

pub resume_stop : (items : List Item) (n : ℕ) (o : Open) (ls left : Lexemes) → read inner_move ls ≡ Err left → resume items (n ∷ o) ls ≡ Err left
resume_stop items n o ls left e = ap (λ (q : Reading (List Move)). q >>= (λ ms. Ok (items ++ all_items (n ∷ o) ms.0, ms.1))) (inner_stop n o ls left e)

-- no module more
pub resume_end : (items : List Item) (ls : Lexemes) → begins (starts outer_move) ls ≡ false → resume items [] ls ≡ Ok (items, ls)
resume_end items ls h =
    ap (λ (q : Reading (List Move)). q >>= (λ ms. Ok (items ++ all_items [] ms.0, ms.1)))
    (whole_end (λ p. Spells (move p)) (λ p. read (move p)) moved is_shut (λ p. starts (move p)) (λ p. goes (move p)) ending moves_steps moves_clear moves_end moves_steps_end moves_done [] ls h)
    ∙ ap (λ (z : List Item). ok z) (append_none items) where
      ok : List Item → Reading (List Item)
      ok z = Ok (z, ls)

pub resume_none : (ls : Lexemes) → resume [] [] ls ≡ modules_at ls
resume_none ls = refl

-- What a move reads.
pub outer_read : (ls mid : Lexemes) (words : List Word) → read (metadata ▸ head) ls ≡ Ok (words, mid) → read outer_move ls ≡ Ok (enter words, mid)
unfolding outer_move
outer_read ls mid words e = rw e refl

pub outer_stop : (ls left : Lexemes) → read (metadata ▸ head) ls ≡ Err left → read outer_move ls ≡ Err left
unfolding outer_move
outer_stop ls left e = rw e refl

pub leave_read : (ls mid : Lexemes) → begins (close_brace ∷ []) ls ≡ true → read close ls ≡ Ok (tt, mid) → read inner_move ls ≡ Ok (leave, mid)
unfolding inner_move
leave_read ls mid b e = let h = begun close (close_brace ∷ []) ls starts_close b in rw (h, e) refl

pub leave_stop : (ls left : Lexemes) → begins (close_brace ∷ []) ls ≡ true → read close ls ≡ Err left → read inner_move ls ≡ Err left
unfolding inner_move
leave_stop ls left b e = let h = begun close (close_brace ∷ []) ls starts_close b in rw (h, e) refl

pub meta_stop : (ls left : Lexemes) → begins (close_brace ∷ []) ls ≡ false → read metadata ls ≡ Err left → read inner_move ls ≡ Err left
unfolding inner_move
meta_stop ls left b e = let h = not_begun close (close_brace ∷ []) ls starts_close b in rw (h, e) refl

pub enter_read : (ls mid rest : Lexemes) (words : List Word) → begins (close_brace ∷ []) ls ≡ false → read metadata ls ≡ Ok (tt, mid) → begins (word_module ∷ []) mid ≡ true → read head mid ≡ Ok (words, rest) → read inner_move ls ≡ Ok (enter words, rest)
unfolding inner_move
enter_read ls mid rest words b e d f = let h = not_begun close (close_brace ∷ []) ls starts_close b in let k = begun head (word_module ∷ []) mid starts_head d in rw (h, e, k, f) refl

pub enter_stop : (ls mid left : Lexemes) → begins (close_brace ∷ []) ls ≡ false → read metadata ls ≡ Ok (tt, mid) → begins (word_module ∷ []) mid ≡ true → read head mid ≡ Err left → read inner_move ls ≡ Err left
unfolding inner_move
enter_stop ls mid left b e d f = let h = not_begun close (close_brace ∷ []) ls starts_close b in let k = begun head (word_module ∷ []) mid starts_head d in rw (h, e, k, f) refl

pub hold_read : (ls mid rest : Lexemes) (item : Item) → begins (close_brace ∷ []) ls ≡ false → read metadata ls ≡ Ok (tt, mid) → begins (word_module ∷ []) mid ≡ false → read definition mid ≡ Ok (item, rest) → read inner_move ls ≡ Ok (hold item, rest)
unfolding inner_move
hold_read ls mid rest item b e d f = let h = not_begun close (close_brace ∷ []) ls starts_close b in let k = not_begun head (word_module ∷ []) mid starts_head d in rw (h, e, k, f) refl

pub hold_stop : (ls mid left : Lexemes) → begins (close_brace ∷ []) ls ≡ false → read metadata ls ≡ Ok (tt, mid) → begins (word_module ∷ []) mid ≡ false → read definition mid ≡ Err left → read inner_move ls ≡ Err left
unfolding inner_move
hold_stop ls mid left b e d f = let h = not_begun close (close_brace ∷ []) ls starts_close b in let k = not_begun head (word_module ∷ []) mid starts_head d in rw (h, e, k, f) refl

-- what a last call answers, which fails out of memory alone
pub last_with : {A B : Type 0} (Holds : A → B → Type 0) (P : Type 0) (result : Result A Stop) (new : Lexemes) (r : Reading B) (b : B) → OnOk result P → OnErr result (result ≡ Err stops.Memory) → r ≡ Ok (b, new) → ((a : A) → P → Holds a b) → TakesWith Holds result new r
last_with Holds P (Ok a) new r b ok err e make = (b, e, make a ok)
last_with Holds P (Err stop) new r b ok err e make = let same : stop ≡ stops.Memory = cc in subst (λ (s : Stop). TakesWith Holds (Err s) new r) (sym same) tt

pub reverse_last : (xs : List ℕ) (x : ℕ) → reverse (xs ++ x ∷ []) ≡ x ∷ reverse xs
reverse_last xs x = reverse-append xs (x ∷ [])

pub reverse_pushed : (xs ys : List ℕ) (x : ℕ) → ys ≡ xs ++ x ∷ [] → reverse ys ≡ x ∷ reverse xs
reverse_pushed xs ys x e = ap reverse e ∙ reverse_last xs x
