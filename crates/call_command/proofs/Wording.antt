-- Words that are a form of `call`, and such as are none.
use Rattle.std.proofs.Common.{◌≡◌, ◌≤◌, ℕ, zero, suc, ◌+◌, ◌*◌, get_or, List, [], ◌∷◌, ◌++◌, length, take, drop, Option, Some, None, refl, sym, ap, subst, inl, inr, ◌∙◌, codes, arith}
use Rattle.std.specs.List.{All}
use Rattle.std.proofs.lemmas.List.{length-append}
use Rattle.std.proofs.lemmas.List.Elements.{All-head, All-tail}
use Rattle.node_commands.specs.declared.words.Task.{Task}
use Rattle.instance_writing.specs.declared.format.Format.TheVariants as formats
use Rattle.node_commands.specs.declared.words.Task.TheVariants as tasks
use Rattle.node_commands.specs.Words.{Word, Command, IsWord, values, check, proxy, audit, compat, drill, messages, help, version, Form, task_words}
use Rattle.node_commands.proofs.CommandForms.{page_few}
use Rattle.call_command.specs.declared.words.CallCommand.{CallCommand}
use Rattle.std.specs.Prelude.{IfSome, unwrap_or}
use Rattle.node_commands.specs.declared.limits.TheConstants.{MOST_RETRIES}
use Rattle.call_command.specs.declared.words.TheConstants.{MOST_TIMES}
use Rattle.call_command.specs.declared.words.Options.{Options}
use Rattle.call_command.specs.Words.{CallWords, CallForm, AreNamed, AsksCall, Gathers, Given, Gives, IsNamed, IsNoOption, IsOption, IsValued, IsWithin, given_of, no_options, seen}

-- the first word, and a number that tells those of all commands apart
abbrev first_word : List Word → Word
first_word [] = []
first_word (w ∷ ws) = w

abbrev mark : List Word → ℕ
mark words = get_or (first_word words) 0 0 * 256 + get_or (first_word words) 1 0

of_call : (words : List Word) (c : CallWords) → CallForm words c → mark words ≡ 25441
of_call words c form = ap mark form.words_are

no_task_word : (task : Task) (file kind : Word) (words : List Word) → words ≡ task_words task ++ file ∷ kind ∷ [] → mark words ≡ 25441 → ⊥
no_task_word (tasks.Relay formats.Sliced) file kind words are first = let e : 29285 ≡ 25441 = sym (ap mark are) ∙ first in omega (arith, e)
no_task_word (tasks.Relay formats.Compact) file kind words are first = let e : 29285 ≡ 25441 = sym (ap mark are) ∙ first in omega (arith, e)
no_task_word tasks.Same file kind words are first = let e : 29537 ≡ 25441 = sym (ap mark are) ∙ first in omega (arith, e)
no_task_word tasks.Dump file kind words are first = let e : 25717 ≡ 25441 = sym (ap mark are) ∙ first in omega (arith, e)
no_task_word (tasks.Encode formats.Sliced) file kind words are first = let e : 25966 ≡ 25441 = sym (ap mark are) ∙ first in omega (arith, e)
no_task_word (tasks.Encode formats.Compact) file kind words are first = let e : 25966 ≡ 25441 = sym (ap mark are) ∙ first in omega (arith, e)

-- there are five words or more
long : (words : List Word) (c : CallWords) → CallForm words c → 5 ≤ length words
long words c form = omega (arith, ap length form.words_are, length-append form.options form.named, ap length form.names.words_are)

pub apart : (words : List Word) (c : CallWords) (other : Command) → CallForm words c → Form words other → ⊥
apart words c (values task file kind) form other = no_task_word task file kind words other.0 (of_call words c form)
apart words c (check file) form other = let e : 25448 ≡ 25441 = sym (ap mark other.0) ∙ of_call words c form in omega (arith, e)
apart words c (proxy text) form other = let e : 28786 ≡ 25441 = sym (ap mark other.0) ∙ of_call words c form in omega (arith, e)
apart words c (audit client server) form other = let e : 24949 ≡ 25441 = sym (ap mark other.0) ∙ of_call words c form in omega (arith, e)
apart words c (compat old new kind) form other = let e : 25455 ≡ 25441 = sym (ap mark other.0) ∙ of_call words c form in omega (arith, e)
apart words c (drill start count) form other = let e : 25714 ≡ 25441 = sym (ap mark other.0) ∙ of_call words c form in omega (arith, e)
apart words c messages form other = let e : 28005 ≡ 25441 = sym (ap mark other) ∙ of_call words c form in omega (arith, e)
apart words c (help page) form other = omega (arith, long words c form, ap length other, page_few page)
apart words c version form other = let e : 11565 ≡ 25441 = sym (ap mark other) ∙ of_call words c form in omega (arith, e)

-- ---- the limits of options

abbrev AreWithin : Given → Type 0
AreWithin o = IfSome o.retries (λ n. n ≤ MOST_RETRIES) × IfSome o.times (λ n. (1 ≤ n) × (n ≤ MOST_TIMES)) × IfSome o.locator IsWord

valued_within : (before after : Given) (name value : Word) → AreWithin before → IsValued before name value after → AreWithin after
valued_within before after name value w (inl (inl (n, is, spelled, none, same))) = subst AreWithin (sym same) (spelled.2, w.1, w.2)
valued_within before after name value w (inl (inr (n, is, spelled, none, same))) = subst AreWithin (sym same) (w.0, (spelled.1, spelled.2), w.2)
valued_within before after name value w (inr (is, short, none, same)) = subst AreWithin (sym same) (w.0, w.1, short)

gives_within : (before : Given) (words : List Word) (after : Given) → AreWithin before → Gives before words after → AreWithin after
gives_within before [] after w same = subst AreWithin (sym same) w
gives_within before (name ∷ []) after w (is, none, same) = subst AreWithin (sym same) w
gives_within before (name ∷ value ∷ words) after w (inl (next, (is, none, same), more)) = gives_within next (value ∷ words) after (subst AreWithin (sym same) w) more
gives_within before (name ∷ value ∷ words) after w (inr (next, valued, more)) = gives_within next words after (valued_within before next name value w valued) more

retries_within : (o : Option ℕ) → IfSome o (λ n. n ≤ MOST_RETRIES) → unwrap_or o 1 ≤ MOST_RETRIES
retries_within None h = omega arith
retries_within (Some n) h = h

times_within : (o : Option ℕ) → IfSome o (λ n. (1 ≤ n) × (n ≤ MOST_TIMES)) → (1 ≤ unwrap_or o 1) × (unwrap_or o 1 ≤ MOST_TIMES)
times_within None h = (omega arith, omega arith)
times_within (Some n) h = h

pub within : (words : List Word) (c : CallWords) → CallForm words c → IsWithin c
within words c form =
    let w = gives_within no_options form.options form.given (tt, tt, tt) form.gives in
    let times = subst (λ (n : ℕ). (1 ≤ n) × (n ≤ MOST_TIMES)) (sym form.set_by.times) (times_within form.given.times w.1) in
    record {
      proxy = form.names.words_short.2;
      locator = subst (λ (o : Option Word). IfSome o IsWord) (sym form.set_by.locator) w.2;
      retries = subst (λ (n : ℕ). n ≤ MOST_RETRIES) (sym form.set_by.retries) (retries_within form.given.retries w.0);
      least = times.0;
      times = times.1;
    }

-- ---- words that are no form

four_long : (named : List Word) (c : CallWords) → AreNamed named c → length named ≡ 4
four_long named c names = ap length names.words_are

-- the options are all but the last four words
take_front : (xs ys : List Word) → take (length xs) (xs ++ ys) ≡ xs
take_front [] ys = refl
take_front (x ∷ xs) ys = ap (λ (l : List Word). x ∷ l) (take_front xs ys)

drop_front : (xs ys : List Word) → drop (length xs) (xs ++ ys) ≡ ys
drop_front [] ys = refl
drop_front (x ∷ xs) ys = drop_front xs ys

pub parted : (words rest : List Word) (c : CallWords) (n : ℕ) (form : CallForm words c) → words ≡ codes "call" ∷ rest → n + 4 ≡ length rest → (take n rest ≡ form.options) × (drop n rest ≡ form.named)
parted words rest c n form are long =
    let tail : List Word → List Word = λ l. drop 1 l in
    let same : rest ≡ form.options ++ form.named = ap tail (sym are ∙ form.words_are) in
    let counted : n ≡ length form.options = omega (arith, long, ap length same, length-append form.options form.named, four_long form.named c form.names) in (
      ap (λ (k : ℕ). take k rest) counted ∙ ap (take (length form.options)) same ∙ take_front form.options form.named,
      ap (λ (k : ℕ). drop k rest) counted ∙ ap (drop (length form.options)) same ∙ drop_front form.options form.named,
    )

-- ---- what the words ask for

front_back : (n : ℕ) (xs : List Word) → xs ≡ take n xs ++ drop n xs
front_back zero xs = refl
front_back (suc n) [] = refl
front_back (suc n) (x ∷ xs) = ap (λ (l : List Word). x ∷ l) (front_back n xs)

module _ (words rest : List Word) (n : ℕ) (are : words ≡ codes "call" ∷ rest) (long : n + 4 ≡ length rest) where
  -- no list of options stands before the last four words
  pub none_given : Gathers no_options (take n rest) None → (c : CallWords) → CallForm words c → ⊥
  none_given none c form = none form.given (subst (λ (l : List Word). Gives no_options l form.given) (sym (parted words rest c n form are long).0) form.gives)

  pub asked : (given : Options) (result : Option CallCommand) → Gathers no_options (take n rest) (Some given) → IsNamed (given_of given) (drop n rest) result → AsksCall words result
  asked given None gives named = λ c form. named c (subst (λ (l : List Word). AreNamed l c) (sym (parted words rest c n form are long).1) form.names)
  asked given (Some c) gives named = record {
    options = take n rest;
    named = drop n rest;
    given = given_of given;
    words_are = are ∙ ap (λ (l : List Word). codes "call" ∷ l) (front_back n rest);
    gives = gives;
    set_by = named.1;
    names = named.0;
  }

-- what they ask for is within the limits
pub within_asked : (words : List Word) (result : Option CallCommand) → AsksCall words result → IfSome result (λ c. IsWithin (seen c))
within_asked words None h = tt
within_asked words (Some c) h = within words (seen c) h

-- ---- the last four words

no_option : (word : Word) → (IsOption word → ⊥) → IsNoOption word
no_option word h = (λ e. h (inl e), λ e. h (inr (inl e)), λ e. h (inr (inr (inl e))), λ e. h (inr (inr (inr e))))

pub are_named : (words : List Word) (c : CallWords) → words ≡ c.file ∷ c.interface ∷ c.proxy ∷ c.operation ∷ [] → (IsOption c.file → ⊥) → All IsWord words → AreNamed words c
are_named words c are not short =
    let all : All IsWord (c.file ∷ c.interface ∷ c.proxy ∷ c.operation ∷ []) = subst (All IsWord) are short in
    let more : All IsWord (c.interface ∷ c.proxy ∷ c.operation ∷ []) = All-tail IsWord c.file (c.interface ∷ c.proxy ∷ c.operation ∷ []) all in
    let last : All IsWord (c.proxy ∷ c.operation ∷ []) = All-tail IsWord c.interface (c.proxy ∷ c.operation ∷ []) more in
    let end : All IsWord (c.operation ∷ []) = All-tail IsWord c.proxy (c.operation ∷ []) last in
    record {
      words_are = are;
      no_option = no_option c.file not;
      words_short = (All-head IsWord c.file (c.interface ∷ c.proxy ∷ c.operation ∷ []) all, All-head IsWord c.interface (c.proxy ∷ c.operation ∷ []) more, All-head IsWord c.proxy (c.operation ∷ []) last, All-head IsWord c.operation [] end);
    }
