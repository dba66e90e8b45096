-- Words that are a form of `gate`, in one way, and such as are none.
use Rattle.std.proofs.Common.{◌≡◌, ◌≤◌, ℕ, zero, suc, ◌+◌, List, [], ◌∷◌, ◌++◌, length, take, drop, get_or, String, string_bytes, Option, Some, None, sym, ap, subst, refl, inl, inr, ◌∙◌, codes, arith}
use Rattle.std.specs.Prelude.{IfSome, unwrap_or}
use Rattle.std.specs.Fmt.{decimal}
use Rattle.std.specs.List.{AllByRecursion}
use Rattle.std.specs.declared.alloc.Global.{Global}
use Rattle.std.proofs.lemmas.Fmt.{decimal_injective}
use Rattle.std.proofs.lemmas.List.{length-append}
use Rattle.node_commands.specs.Words.{Word, IsWord, words_of}
use Rattle.node_commands.specs.declared.limits.TheConstants.{MOST_RETRIES}
use Rattle.node_commands.specs.declared.limits.TheConstants.{MOST_CONNECTIONS, MOST_PORT}
use Rattle.node_commands.specs.Once.{Exactly}
use Rattle.node_commands.proofs.NetWords.{exactly_by}
use Rattle.gate_command.specs.declared.words.GateCommand.{GateCommand}
use Rattle.gate_command.specs.declared.words.Options.{Options}
use Rattle.gate_command.specs.Words.{GateWords, GateForm, AreNamed, Gathers, Gives, IsNamed, IsNumbered, IsOption, IsSetBy, IsWithin, asked_of, no_options, seen}
use Rattle.gate_command.proofs.Giving.{gives_same}

abbrev pub word_at : ℕ → List Word → Word
word_at n words = get_or words n []

abbrev pub five : GateWords → List Word
five c = c.file ∷ c.interface ∷ c.host ∷ decimal c.port ∷ c.proxy ∷ []

-- ---- the last five words

pub five_words : (words : List (String Global)) (a b c d e : String Global) → 5 ≤ length words → length words ≤ 5
    → a ≡ get_or words 0 a → b ≡ get_or words 1 b → c ≡ get_or words 2 c → d ≡ get_or words 3 d → e ≡ get_or words 4 e
    → words_of words ≡ string_bytes a ∷ string_bytes b ∷ string_bytes c ∷ string_bytes d ∷ string_bytes e ∷ []
five_words [] a b c d e least most p q r s t = absurd (omega (arith, least))
five_words (v ∷ []) a b c d e least most p q r s t = absurd (omega (arith, least))
five_words (v ∷ w ∷ []) a b c d e least most p q r s t = absurd (omega (arith, least))
five_words (v ∷ w ∷ x ∷ []) a b c d e least most p q r s t = absurd (omega (arith, least))
five_words (v ∷ w ∷ x ∷ y ∷ []) a b c d e least most p q r s t = absurd (omega (arith, least))
five_words (v ∷ w ∷ x ∷ y ∷ z ∷ []) a b c d e least most p q r s t =
    sym (λ i. string_bytes (p i) ∷ string_bytes (q i) ∷ string_bytes (r i) ∷ string_bytes (s i) ∷ string_bytes (t i) ∷ [])
five_words (v ∷ w ∷ x ∷ y ∷ z ∷ u ∷ more) a b c d e least most p q r s t = absurd (omega (arith, most))

named_once : (given : Options) (words : List Word) (c d : GateWords) → IsNamed given words c → IsNamed given words d → d ≡ c
named_once given words c d p q =
    let e : five d ≡ five c = sym q.0.words_are ∙ p.0.words_are in
    let port : d.port ≡ c.port = decimal_injective d.port c.port (omega (arith, q.0.port)) (omega (arith, p.0.port)) (ap (word_at 3) e) in
    let connections : d.connections ≡ c.connections = q.1.connections ∙ sym p.1.connections in
    let retries : d.retries ≡ c.retries = q.1.retries ∙ sym p.1.retries in
    λ i. record {
      connections = connections i;
      retries = retries i;
      file = ap (word_at 0) e i;
      interface = ap (word_at 1) e i;
      host = ap (word_at 2) e i;
      port = port i;
      proxy = ap (word_at 4) e i;
    }

pub is_named : (given : Options) (words : List Word) (c : GateWords) → words ≡ five c → (IsOption c.file → ⊥) → c.port ≤ MOST_PORT → AllByRecursion IsWord words → IsSetBy given c
    → Exactly (IsNamed given words) (Some c)
is_named given words c are not port short set =
    let one : IsNamed given words c = (record { words_are = are; no_option = not; port = port; short = short }, set) in (one, λ d h. named_once given words c d one h)

-- FILE is an option
pub option_ahead : (given : Options) (words : List Word) (file : Word) → file ≡ word_at 0 words → IsOption file → (c : GateWords) → IsNamed given words c → ⊥
option_ahead given words file is option c named = named.0.no_option (subst IsOption (is ∙ ap (word_at 0) named.0.words_are) option)

-- a word is too long
pub one_long : (given : Options) (words : List Word) → (AllByRecursion IsWord words → ⊥) → (c : GateWords) → IsNamed given words c → ⊥
one_long given words long c named = long named.0.short

-- PORT is no number
pub no_port : (given : Options) (words : List Word) (port : Word) → port ≡ word_at 3 words → ((n : ℕ) → port ≡ decimal n → 0 ≤ n → n ≤ MOST_PORT → ⊥) → (c : GateWords) → IsNamed given words c → ⊥
no_port given words port is none c named = none c.port (is ∙ ap (word_at 3) named.0.words_are) (omega arith) named.0.port

-- they are not five
pub not_five : (given : Options) (words : List (String Global)) → (length words ≡ 5 → ⊥) → (c : GateWords) → IsNamed given (words_of words) c → ⊥
not_five given words other c named = other (sym (as_many words) ∙ ap length named.0.words_are)
  where
    as_many : (ws : List (String Global)) → length (words_of ws) ≡ length ws
    as_many [] = refl
    as_many (w ∷ ws) = ap suc (as_many ws)

-- ---- options, and the words behind them

five_long : (named : List Word) (c : GateWords) → AreNamed named c → length named ≡ 5
five_long named c names = ap length names.words_are

take_front : (xs ys : List Word) → take (length xs) (xs ++ ys) ≡ xs
take_front [] ys = refl
take_front (x ∷ xs) ys = ap (λ (l : List Word). x ∷ l) (take_front xs ys)

drop_front : (xs ys : List Word) → drop (length xs) (xs ++ ys) ≡ ys
drop_front [] ys = refl
drop_front (x ∷ xs) ys = drop_front xs ys

front_back : (n : ℕ) (xs : List Word) → xs ≡ take n xs ++ drop n xs
front_back zero xs = refl
front_back (suc n) [] = refl
front_back (suc n) (x ∷ xs) = ap (λ (l : List Word). x ∷ l) (front_back n xs)

-- the options are all but the last five words
parted : (words rest : List Word) (c : GateWords) (n : ℕ) (form : GateForm words c) → words ≡ codes "gate" ∷ rest → n + 5 ≡ length rest → (take n rest ≡ form.options) × (drop n rest ≡ form.named)
parted words rest c n form are long =
    let tail : List Word → List Word = λ l. drop 1 l in
    let same : rest ≡ form.options ++ form.named = ap tail (sym are ∙ form.words_are) in
    let counted : n ≡ length form.options = omega (arith, long, ap length same, length-append form.options form.named, five_long form.named c form.names) in (
      ap (λ (k : ℕ). take k rest) counted ∙ ap (take (length form.options)) same ∙ take_front form.options form.named,
      ap (λ (k : ℕ). drop k rest) counted ∙ ap (drop (length form.options)) same ∙ drop_front form.options form.named,
    )

module _ (words rest : List Word) (n : ℕ) (are : words ≡ codes "gate" ∷ rest) (long : n + 5 ≡ length rest) where
  -- no list of options stands before the last five words
  pub none_given : Gathers no_options (take n rest) None → (c : GateWords) → GateForm words c → ⊥
  none_given none c form = none form.given (subst (λ (l : List Word). Gives no_options l form.given) (sym (parted words rest c n form are long).0) form.gives)

  pub asked : (given : Options) (o : Option GateWords) → Gives no_options (take n rest) given → Exactly (IsNamed given (drop n rest)) o → Exactly (GateForm words) o
  asked given o gives e = exactly_by to from o e
    where
      to : (c : GateWords) → IsNamed given (drop n rest) c → GateForm words c
      to c h = record {
        options = take n rest;
        named = drop n rest;
        given = given;
        words_are = are ∙ ap (λ (l : List Word). codes "gate" ∷ l) (front_back n rest);
        gives = gives;
        set_by = h.1;
        names = h.0;
      }

      from : (c : GateWords) → GateForm words c → IsNamed given (drop n rest) c
      from c form =
          let p = parted words rest c n form are long in
          let same : form.given ≡ given = gives_same no_options (take n rest) form.given given (subst (λ (l : List Word). Gives no_options l form.given) (sym p.0) form.gives) gives in
          (subst (λ (l : List Word). AreNamed l c) (sym p.1) form.names, subst (λ (o : Options). IsSetBy o c) same form.set_by)

-- fewer than five words
pub too_few : (words rest : List Word) → words ≡ codes "gate" ∷ rest → (length rest ≤ 4) → (c : GateWords) → GateForm words c → ⊥
too_few words rest are few c form =
    let tail : List Word → List Word = λ l. drop 1 l in
    let same : rest ≡ form.options ++ form.named = ap tail (sym are ∙ form.words_are) in
    omega (arith, few, ap length same, length-append form.options form.named, five_long form.named c form.names)

-- ---- limits

abbrev AreWithin : Options → Type 0
AreWithin o = IfSome o.connections (λ n. (1 ≤ n) × (n ≤ MOST_CONNECTIONS)) × IfSome o.retries (λ n. n ≤ MOST_RETRIES)

numbered_within : (before after : Options) (name value : Word) → AreWithin before → IsNumbered before name value after → AreWithin after
numbered_within before after name value w (inl (n, is, spelled, none, same)) = subst AreWithin (sym same) ((spelled.1, spelled.2), w.1)
numbered_within before after name value w (inr (n, is, spelled, none, same)) = subst AreWithin (sym same) (w.0, spelled.2)

gives_within : (before : Options) (words : List Word) (after : Options) → AreWithin before → Gives before words after → AreWithin after
gives_within before [] after w same = subst AreWithin (sym same) w
gives_within before (name ∷ []) after w gives = absurd gives
gives_within before (name ∷ value ∷ words) after w (next, numbered, more) = gives_within next words after (numbered_within before next name value w numbered) more

connections_within : (o : Option ℕ) → IfSome o (λ n. (1 ≤ n) × (n ≤ MOST_CONNECTIONS)) → (1 ≤ unwrap_or o MOST_CONNECTIONS) × (unwrap_or o MOST_CONNECTIONS ≤ MOST_CONNECTIONS)
connections_within None h = (omega arith, omega arith)
connections_within (Some n) h = h

retries_within : (o : Option ℕ) → IfSome o (λ n. n ≤ MOST_RETRIES) → unwrap_or o 1 ≤ MOST_RETRIES
retries_within None h = omega arith
retries_within (Some n) h = h

within : (words : List Word) (c : GateWords) → GateForm words c → IsWithin c
within words c form =
    let w = gives_within no_options form.options form.given (tt, tt) form.gives in
    let short : AllByRecursion IsWord (five c) = subst (AllByRecursion IsWord) form.names.words_are form.names.short in
    record {
      proxy = short.1.1.1.1.0;
      port = form.names.port;
      connections = subst (λ (n : ℕ). (1 ≤ n) × (n ≤ MOST_CONNECTIONS)) (sym form.set_by.connections) (connections_within form.given.connections w.0);
      retries = subst (λ (n : ℕ). n ≤ MOST_RETRIES) (sym form.set_by.retries) (retries_within form.given.retries w.1);
    }

pub within_asked : (words : List Word) (o : Option GateCommand) → Exactly (GateForm words) (asked_of o) → IfSome o (λ (c : GateCommand). IsWithin (seen c))
within_asked words None e = tt
within_asked words (Some c) e = within words (seen c) e.0
