-- Words are a form of `call` in one way.
use Rattle.std.proofs.Common.{◌≡◌, ◌+◌, ℕ, List, [], ◌∷◌, ◌++◌, length, sym, ap, subst, inl, inr, ◌∙◌, get_or, arith}
use Rattle.std.specs.Prelude.{unwrap_or, if◌then◌else◌}
use Rattle.std.proofs.lemmas.List.{length-append}
use Rattle.instance_writing.specs.declared.format.Format.TheVariants.{Sliced, Compact}
use Rattle.node_commands.specs.Words.{Word}
use Rattle.call_command.specs.Words.{CallWords, CallForm, Given, Gives, no_options}
use Rattle.call_command.proofs.Giving.{compacted_same, valued_same, value_of_none}
use Rattle.call_command.proofs.Wording.{parted}

-- ---- options

gives_same : (before : Given) (words : List Word) (a b : Given) → Gives before words a → Gives before words b → a ≡ b
gives_same before [] a b p q = p ∙ sym q
gives_same before (name ∷ []) a b p q = compacted_same before a b name p q
gives_same before (name ∷ value ∷ words) a b (inl (next, is, more)) (inl (other, also, rest)) =
    gives_same next (value ∷ words) a b more (subst (λ (o : Given). Gives o (value ∷ words) b) (compacted_same before other next name also is) rest)
gives_same before (name ∷ value ∷ words) a b (inl (next, is, more)) (inr (other, also, rest)) = absurd (value_of_none before other name value is.0 also)
gives_same before (name ∷ value ∷ words) a b (inr (next, is, more)) (inl (other, also, rest)) = absurd (value_of_none before next name value also.0 is)
gives_same before (name ∷ value ∷ words) a b (inr (next, is, more)) (inr (other, also, rest)) =
    gives_same next words a b more (subst (λ (o : Given). Gives o words b) (valued_same before other next name value also is) rest)

-- ---- the form

abbrev word_at : ℕ → List Word → Word
word_at n words = get_or words n []

four_long : (named : List Word) (c : CallWords) → named ≡ c.file ∷ c.interface ∷ c.proxy ∷ c.operation ∷ [] → length named ≡ 4
four_long named c are = ap length are

module _ (words : List Word) (c d : CallWords) (form : CallForm words c) (other : CallForm words d) where
  counted : length form.options + 4 ≡ length (form.options ++ form.named)
  counted = omega (arith, length-append form.options form.named, four_long form.named c form.names.words_are)

  ones : form.options ≡ other.options
  ones = sym (parted words (form.options ++ form.named) c (length form.options) form form.words_are counted).0
      ∙ (parted words (form.options ++ form.named) d (length form.options) other form.words_are counted).0

  names_same : (c.file ∷ c.interface ∷ c.proxy ∷ c.operation ∷ []) ≡ (d.file ∷ d.interface ∷ d.proxy ∷ d.operation ∷ [])
  names_same = sym form.names.words_are
      ∙ ((sym (parted words (form.options ++ form.named) c (length form.options) form form.words_are counted).1
      ∙ (parted words (form.options ++ form.named) d (length form.options) other form.words_are counted).1) ∙ other.names.words_are)

  given_same : form.given ≡ other.given
  given_same = gives_same no_options form.options form.given other.given form.gives
      (subst (λ (l : List Word). Gives no_options l other.given) (sym ones) other.gives)

  pub one_form : c ≡ d
  one_form =
      let retries : c.retries ≡ d.retries = form.set_by.retries ∙ (ap (λ (o : Given). unwrap_or o.retries 1) given_same ∙ sym other.set_by.retries) in
      let times : c.times ≡ d.times = form.set_by.times ∙ (ap (λ (o : Given). unwrap_or o.times 1) given_same ∙ sym other.set_by.times) in
      let format : c.format ≡ d.format = form.set_by.format ∙ (ap (λ (o : Given). if o.compact then Compact else Sliced) given_same ∙ sym other.set_by.format) in
      let locator : c.locator ≡ d.locator = form.set_by.locator ∙ (ap (λ (o : Given). o.locator) given_same ∙ sym other.set_by.locator) in
      let file : c.file ≡ d.file = ap (word_at 0) names_same in
      let interface : c.interface ≡ d.interface = ap (word_at 1) names_same in
      let proxy : c.proxy ≡ d.proxy = ap (word_at 2) names_same in
      let operation : c.operation ≡ d.operation = ap (word_at 3) names_same in
      λ i. record {
        retries = retries i;
        times = times i;
        format = format i;
        locator = locator i;
        file = file i;
        interface = interface i;
        proxy = proxy i;
        operation = operation i;
      }
