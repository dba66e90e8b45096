-- Options that are gathered from the words.
use Rattle.std.proofs.Common.{◌≡◌, ℕ, List, [], ◌∷◌, get_or, Option, Some, None, sym, ap, subst, inl, inr, ◌∙◌, codes, arith}
use Rattle.std.proofs.lemmas.Fmt.{decimal_injective}
use Rattle.node_commands.specs.Words.{Word}
use Rattle.gate_command.specs.declared.words.Options.{Options}
use Rattle.gate_command.specs.Words.{Gives, Gathers, Takes, IsCounted, IsRetried, IsNumbered}

abbrev letter : ℕ → Word → ℕ
letter n word = get_or word n 0

options_differ : (name : Word) → name ≡ codes "--connections" → name ≡ codes "--retries" → ⊥
options_differ name is also = let e : 99 ≡ 114 = ap (letter 2) (sym is ∙ also) in omega (arith, e)

-- ---- one option

counted_same : (before a b : Options) (name value : Word) → IsCounted before name value a → IsCounted before name value b → a ≡ b
counted_same before a b name value (n, is, (spelled, low, high), none, same) (m, also, (other, least, most), never, alike) =
    let e : n ≡ m = decimal_injective n m (omega (arith, high)) (omega (arith, most)) (sym spelled ∙ other) in
    same ∙ (ap (λ (k : ℕ). record before { connections = Some k }) e ∙ sym alike)

retried_same : (before a b : Options) (name value : Word) → IsRetried before name value a → IsRetried before name value b → a ≡ b
retried_same before a b name value (n, is, (spelled, low, high), none, same) (m, also, (other, least, most), never, alike) =
    let e : n ≡ m = decimal_injective n m (omega (arith, high)) (omega (arith, most)) (sym spelled ∙ other) in
    same ∙ (ap (λ (k : ℕ). record before { retries = Some k }) e ∙ sym alike)

pub numbered_same : (before a b : Options) (name value : Word) → IsNumbered before name value a → IsNumbered before name value b → a ≡ b
numbered_same before a b name value (inl p) (inl q) = counted_same before a b name value p q
numbered_same before a b name value (inl p) (inr q) = absurd (options_differ name p.1 q.1)
numbered_same before a b name value (inr p) (inl q) = absurd (options_differ name q.1 p.1)
numbered_same before a b name value (inr p) (inr q) = retried_same before a b name value p q

-- ---- one more, in front of those that follow

module _ (before : Options) (name value : Word) (words : List Word) where
  -- what stands there is no option, or was given
  pub value_refused : Takes before name value None → Gathers before (name ∷ value ∷ words) None
  value_refused h = λ after gives. h gives.0 gives.1

  pub value_given : (next : Options) (result : Option Options) → Takes before name value (Some next) → Gathers next words result → Gathers before (name ∷ value ∷ words) result
  value_given next None valued h = λ after gives. h after (subst (λ (o : Options). Gives o words after) (numbered_same before gives.0 next name value gives.1 valued) gives.2)
  value_given next (Some after) valued h = (next, valued, h)

-- ---- all of them

pub gives_same : (before : Options) (words : List Word) (a b : Options) → Gives before words a → Gives before words b → a ≡ b
gives_same before [] a b p q = p ∙ sym q
gives_same before (name ∷ []) a b p q = absurd p
gives_same before (name ∷ value ∷ words) a b (next, is, more) (other, also, rest) =
    gives_same next words a b more (subst (λ (o : Options). Gives o words b) (numbered_same before other next name value also is) rest)
