-- Options that are gathered from the words.
use Rattle.std.proofs.Common.{◌≡◌, ◌≤◌, ◌<◌, ◌+◌, ℕ, zero, suc, true, false, List, [], ◌∷◌, length, take, get_or, String, string_bytes, Option, Some, None, refl, sym, ap, subst, inl, inr, ◌∙◌, codes, arith}
use Rattle.std.specs.declared.alloc.Global.{Global}
use Rattle.std.specs.List.{All}
use Rattle.std.proofs.lemmas.Fmt.{decimal_injective}
use Rattle.std.proofs.lemmas.List.{map_more, take_all}
use Rattle.std.proofs.lemmas.List.Elements.{All-nil, All-cons, All-head, All-tail, All-append}
use Rattle.node_commands.specs.Words.{Word, IsWord, words_of}
use Rattle.call_command.specs.declared.words.Options.{Options}
use Rattle.call_command.specs.Words.{Given, Gives, Gathers, Takes, IsCompacted, IsNumbered, IsValued, given_of}

-- ---- words that are not too long

-- one more of them
pub short_more : (words : List (String Global)) (i : ℕ) (item : String Global) → i < length words → item ≡ get_or words i item → All IsWord (words_of (take i words)) → IsWord (string_bytes item)
    → All IsWord (words_of (take (i + 1) words))
short_more words i item lt is all one =
    let last : IsWord (string_bytes (get_or words i item)) = subst (λ (w : String Global). IsWord (string_bytes w)) is one in
    subst (All IsWord) (sym (map_more string_bytes words i item lt))
    (All-append IsWord (words_of (take i words)) (string_bytes (get_or words i item) ∷ []) all (All-cons IsWord (string_bytes (get_or words i item)) [] last (All-nil IsWord)))

-- all of them
pub all_short : (words : List (String Global)) (i : ℕ) → length words ≤ i → All IsWord (words_of (take i words)) → All IsWord (words_of words)
all_short words i le all = subst (λ (l : List (String Global)). All IsWord (words_of l)) (take_all i words le) all

pub one_short : (words : List (String Global)) (i : ℕ) (item : String Global) → i < length words → item ≡ get_or words i item → All IsWord (words_of words) → IsWord (string_bytes item)
one_short [] i item lt is all = absurd (omega (arith, lt))
one_short (w ∷ ws) zero item lt is all = subst IsWord (ap string_bytes (sym is)) (All-head IsWord (string_bytes w) (words_of ws) all)
one_short (w ∷ ws) (suc i) item lt is all = one_short ws i item (omega (arith, lt)) is (All-tail IsWord (string_bytes w) (words_of ws) all)

-- ---- one option

abbrev letter : ℕ → Word → ℕ
letter n word = get_or word n 0

-- an option with a value is not the one without
pub value_of_none : (before after : Given) (name value : Word) → name ≡ codes "--compact" → IsValued before name value after → ⊥
value_of_none before after name value is (inl (inl (n, also, spelled, none, same))) = let e : 99 ≡ 114 = ap (letter 2) (sym is ∙ also) in omega (arith, e)
value_of_none before after name value is (inl (inr (n, also, spelled, none, same))) = let e : 99 ≡ 116 = ap (letter 2) (sym is ∙ also) in omega (arith, e)
value_of_none before after name value is (inr (also, short, none, same)) = let e : 99 ≡ 108 = ap (letter 2) (sym is ∙ also) in omega (arith, e)

pub compacted_same : (before a b : Given) (name : Word) → IsCompacted before name a → IsCompacted before name b → a ≡ b
compacted_same before a b name (is, none, same) (also, never, other) = same ∙ sym other

numbers_differ : (name : Word) → name ≡ codes "--retries" → name ≡ codes "--times" → ⊥
numbers_differ name is also = let e : 114 ≡ 116 = ap (letter 2) (sym is ∙ also) in omega (arith, e)

numbered_same : (before a b : Given) (name value : Word) → IsNumbered before name value a → IsNumbered before name value b → a ≡ b
numbered_same before a b name value (inl (n, is, (spelled, low, high), none, same)) (inl (m, also, (other, least, most), never, alike)) =
    let e : n ≡ m = decimal_injective n m (omega (arith, high)) (omega (arith, most)) (sym spelled ∙ other) in
    same ∙ (ap (λ (k : ℕ). record before { retries = Some k }) e ∙ sym alike)
numbered_same before a b name value (inl (n, is, spelled, none, same)) (inr (m, also, other, never, alike)) = absurd (numbers_differ name is also)
numbered_same before a b name value (inr (n, is, spelled, none, same)) (inl (m, also, other, never, alike)) = absurd (numbers_differ name also is)
numbered_same before a b name value (inr (n, is, (spelled, low, high), none, same)) (inr (m, also, (other, least, most), never, alike)) =
    let e : n ≡ m = decimal_injective n m (omega (arith, high)) (omega (arith, most)) (sym spelled ∙ other) in
    same ∙ (ap (λ (k : ℕ). record before { times = Some k }) e ∙ sym alike)

number_no_locator : (before a : Given) (name value : Word) → IsNumbered before name value a → name ≡ codes "--locator" → ⊥
number_no_locator before a name value (inl (n, is, spelled, none, same)) also = let e : 114 ≡ 108 = ap (letter 2) (sym is ∙ also) in omega (arith, e)
number_no_locator before a name value (inr (n, is, spelled, none, same)) also = let e : 116 ≡ 108 = ap (letter 2) (sym is ∙ also) in omega (arith, e)

pub valued_same : (before a b : Given) (name value : Word) → IsValued before name value a → IsValued before name value b → a ≡ b
valued_same before a b name value (inl p) (inl q) = numbered_same before a b name value p q
valued_same before a b name value (inl p) (inr (also, short, none, same)) = absurd (number_no_locator before a name value p also)
valued_same before a b name value (inr (is, short, none, same)) (inl q) = absurd (number_no_locator before b name value q is)
valued_same before a b name value (inr (is, short, none, same)) (inr (also, fits, never, alike)) = same ∙ sym alike

-- ---- one more, in front of those that follow

pub compact_given : (before : Given) (name : Word) (words : List Word) (result : Option Options) → name ≡ codes "--compact" → before.compact ≡ false
    → Gathers (record before { compact = true }) words result → Gathers before (name ∷ words) result
compact_given before name [] None is off h = λ after g. h (record before { compact = true }) refl
compact_given before name [] (Some after) is off h = (is, off, h)
compact_given before name (value ∷ words) None is off h = back
  where
    back : (after : Given) → Gives before (name ∷ value ∷ words) after → ⊥
    back after (inl (next, (also, none, same), more)) = h after (subst (λ (o : Given). Gives o (value ∷ words) after) same more)
    back after (inr (next, valued, more)) = value_of_none before next name value is valued
compact_given before name (value ∷ words) (Some after) is off h = inl (record before { compact = true }, (is, off, refl), h)

module _ (before : Given) (name value : Word) (words : List Word) (other : name ≡ codes "--compact" → ⊥) where
  -- what stands behind it is no value for it
  pub value_refused : Takes before name value None → Gathers before (name ∷ value ∷ words) None
  value_refused h = back
    where
      back : (after : Given) → Gives before (name ∷ value ∷ words) after → ⊥
      back after (inl (next, compacted, more)) = other compacted.0
      back after (inr (next, valued, more)) = h next valued

  pub value_given : (next : Options) (result : Option Options) → Takes before name value (Some next) → Gathers (given_of next) words result → Gathers before (name ∷ value ∷ words) result
  value_given next None valued h = back
    where
      back : (after : Given) → Gives before (name ∷ value ∷ words) after → ⊥
      back after (inl (found, compacted, more)) = other compacted.0
      back after (inr (found, also, more)) = h after (subst (λ (o : Given). Gives o words after) (valued_same before found (given_of next) name value also valued) more)
  value_given next (Some after) valued h = inr (given_of next, valued, h)
