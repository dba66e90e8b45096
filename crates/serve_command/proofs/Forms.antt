-- What stands behind the options, and what the words ask for.
use Rattle.std.proofs.Common.{◌≡◌, ◌≤◌, ◌<◌, ℕ, List, [], ◌∷◌, ◌⊎◌, ◌^◌, Option, None, Some, refl, sym, ap, ◌∙◌, subst, arith, inl, inr, get_or, codes, String, string_bytes, length, take, drop, ◌-◌, ap₂, Bool, true, false}
use Rattle.std.proofs.Math.Bool.{not}
use Rattle.std.specs.Str.{bytes_eq}
use Rattle.std.specs.Fmt.{decimal}
use Rattle.std.specs.declared.alloc.Global.{Global}
use Rattle.std.proofs.lemmas.List.{take_all}
use Rattle.std.proofs.lemmas.Slice.Eq.{bytes_eq-Decides}
use Rattle.std.proofs.lemmas.Fmt.{decimal_injective}
use Rattle.node_commands.specs.Words.{Word, words_of}
use Rattle.node_commands.specs.declared.limits.TheConstants.{MOST_CONNECTIONS}
use Rattle.serve_command.specs.declared.operands.TheConstants.{MOST_WORKERS}
use Rattle.node_commands.specs.Once.{Exactly}
use Rattle.node_commands.proofs.NetWords.{exactly_by}
use Rattle.serve_command.specs.Words.{Plain, operand_words, Finds, IsCount, Behind, WithNumber, BehindWorkers, BehindConnections, BehindServe, PlainForm}

-- ---- lists

abbrev rest_of : List Word → List Word
rest_of [] = []
rest_of (w ∷ ws) = ws

abbrev first_of : List Word → Word
first_of ws = get_or ws 0 []

-- ---- operands

abbrev from_third : List Word → List Word
from_third [] = []
from_third (a ∷ []) = []
from_third (a ∷ b ∷ []) = []
from_third (a ∷ b ∷ c ∷ ws) = ws

behind_once : (w n : ℕ) (words : List Word) (p q : Plain) → Behind w n words p → Behind w n words q → q ≡ p
behind_once w n words p q a b =
    let e : operand_words q ≡ operand_words p = sym b.0.words_are ∙ a.0.words_are in
    let port : q.port ≡ p.port = decimal_injective q.port p.port (omega (arith, b.0.port)) (omega (arith, a.0.port)) (ap (λ (z : List Word). get_or z 2 []) e) in
    let workers : q.workers ≡ p.workers = b.1 ∙ sym a.1 in
    let connections : q.connections ≡ p.connections = b.2 ∙ sym a.2 in
    λ i. record {
      workers = workers i;
      connections = connections i;
      file = ap first_of e i;
      host = ap (λ (z : List Word). get_or z 1 []) e i;
      port = port i;
      objects = ap from_third e i;
    }

pub strong : (w n : ℕ) (words : List Word) (o : Option Plain) → Finds (Behind w n words) o → Exactly (Behind w n words) o
strong w n words None f = f
strong w n words (Some p) f = (f, λ q h. behind_once w n words p q f h)

-- ---- behind `serve`

pub by_serve : (words rest : List Word) (o : Option Plain) → words ≡ codes "serve" ∷ rest → Exactly (BehindServe rest) o → Exactly (PlainForm words) o
by_serve words rest o is e = exactly_by (λ p b. (rest, is, b)) (λ p f. subst (λ (z : List Word). BehindServe z p) (ap rest_of (sym f.1 ∙ is)) f.2) o e

-- FILE is no option
not_workers : (words rest : List Word) (w n : ℕ) (p : Plain) → words ≡ codes "--workers" ∷ rest → Behind w n words p → ⊥
not_workers words rest w n p is b = b.0.no_workers (ap first_of (sym b.0.words_are ∙ is))

not_connections : (words rest : List Word) (w n : ℕ) (p : Plain) → words ≡ codes "--connections" ∷ rest → Behind w n words p → ⊥
not_connections words rest w n p is b = b.0.no_connections (ap first_of (sym b.0.words_are ∙ is))

differ : (words a b : List Word) → words ≡ codes "--workers" ∷ a → words ≡ codes "--connections" ∷ b → ⊥
differ words a b p q = never (ap first_of (sym p ∙ q))
  where
    never : codes "--workers" ≡ codes "--connections" → ⊥
    never e = cc

pub by_workers : (words rest : List Word) (o : Option Plain) → words ≡ codes "--workers" ∷ rest → Exactly (BehindWorkers rest) o → Exactly (BehindServe words) o
by_workers words rest o is e = exactly_by (λ p b. inr (inl (rest, is, b))) back o e
  where
    back : (p : Plain) → BehindServe words p → BehindWorkers rest p
    back p (inl b) = absurd (not_workers words rest 1 MOST_CONNECTIONS p is b)
    back p (inr (inl f)) = subst (λ (z : List Word). BehindWorkers z p) (ap rest_of (sym f.1 ∙ is)) f.2
    back p (inr (inr f)) = absurd (differ words rest f.0 is f.1)

pub by_connections : (words rest : List Word) (o : Option Plain) → words ≡ codes "--connections" ∷ rest → Exactly (BehindConnections rest) o → Exactly (BehindServe words) o
by_connections words rest o is e = exactly_by (λ p b. inr (inr (rest, is, b))) back o e
  where
    back : (p : Plain) → BehindServe words p → BehindConnections rest p
    back p (inl b) = absurd (not_connections words rest 1 MOST_CONNECTIONS p is b)
    back p (inr (inl f)) = absurd (differ words f.0 rest f.1 is)
    back p (inr (inr f)) = subst (λ (z : List Word). BehindConnections z p) (ap rest_of (sym f.1 ∙ is)) f.2

pub by_neither : (words : List Word) (o : Option Plain) → ((rest : List Word) → words ≡ codes "--workers" ∷ rest → ⊥) → ((rest : List Word) → words ≡ codes "--connections" ∷ rest → ⊥)
    → Exactly (Behind 1 MOST_CONNECTIONS words) o → Exactly (BehindServe words) o
by_neither words o no_workers no_connections e = exactly_by (λ p b. inl b) back o e
  where
    back : (p : Plain) → BehindServe words p → Behind 1 MOST_CONNECTIONS words p
    back p (inl b) = b
    back p (inr (inl f)) = absurd (no_workers f.0 f.1)
    back p (inr (inr f)) = absurd (no_connections f.0 f.1)

-- ---- numbers

-- the number of an option, which is below 2 ^ 64
same_number : (most m n : ℕ) (words a b : List Word) → most < 2 ^ 64 → words ≡ decimal m ∷ a → words ≡ decimal n ∷ b → IsCount most m → IsCount most n → m ≡ n
same_number most m n words a b few p q im inn = decimal_injective m n (omega (arith, few, im.1)) (omega (arith, few, inn.1)) (ap first_of (sym p ∙ q))

pub by_number : (most n : ℕ) (words rest : List Word) (Then : ℕ → List Word → Plain → Type 0) (o : Option Plain) → most < 2 ^ 64 → words ≡ decimal n ∷ rest → IsCount most n
    → Exactly (Then n rest) o → Exactly (λ p. WithNumber most words (λ m z. Then m z p)) o
by_number most n words rest Then o few is count e = exactly_by (λ p t. (n, rest, is, count, t)) back o e
  where
    back : (p : Plain) → WithNumber most words (λ m z. Then m z p) → Then n rest p
    back p f =
        let same : f.0 ≡ n = same_number most f.0 n words f.1 rest few f.2 is f.3 count in
        subst (λ (m : ℕ). Then m rest p) same (subst (λ (z : List Word). Then f.0 z p) (ap rest_of (sym f.2 ∙ is)) f.4)

pub by_no_number : (most : ℕ) (words : List Word) (Then : ℕ → List Word → Plain → Type 0) → ((n : ℕ) (rest : List Word) → words ≡ decimal n ∷ rest → IsCount most n → ⊥)
    → Exactly (λ p. WithNumber most words (λ m z. Then m z p)) None
by_no_number most words Then never = λ p f. never f.0 f.1 f.2 f.3

-- the other option, or none
pub by_other : (word : Word) (words more : List Word) (Here Next : List Word → Plain → Type 0) (o : Option Plain) → words ≡ word ∷ more
    → ((p : Plain) → Here words p → ⊥) → Exactly (Next more) o → Exactly (λ p. Here words p ⊎ ((z : List Word) × (words ≡ word ∷ z) × Next z p)) o
by_other word words more Here Next o is never e = exactly_by (λ p t. inr (more, is, t)) back o e
  where
    back : (p : Plain) → Here words p ⊎ ((z : List Word) × (words ≡ word ∷ z) × Next z p) → Next more p
    back p (inl h) = absurd (never p h)
    back p (inr f) = subst (λ (z : List Word). Next z p) (ap rest_of (sym f.1 ∙ is)) f.2

pub by_no_other : (word : Word) (words : List Word) (Here Next : List Word → Plain → Type 0) (o : Option Plain) → ((z : List Word) → words ≡ word ∷ z → ⊥)
    → Exactly (Here words) o → Exactly (λ p. Here words p ⊎ ((z : List Word) × (words ≡ word ∷ z) × Next z p)) o
by_no_other word words Here Next o never e = exactly_by (λ p h. inl h) back o e
  where
    back : (p : Plain) → Here words p ⊎ ((z : List Word) × (words ≡ word ∷ z) × Next z p) → Here words p
    back p (inl h) = h
    back p (inr f) = absurd (never f.0 f.1)

-- ---- behind `--workers`

abbrev ThenWorkers : ℕ → List Word → Plain → Type 0
ThenWorkers workers rest p = Behind workers MOST_CONNECTIONS rest p
    ⊎ ((more : List Word) × (rest ≡ codes "--connections" ∷ more) × WithNumber MOST_CONNECTIONS more (λ connections last. Behind workers connections last p))

pub workers_then : (words rest : List Word) (w : ℕ) (o : Option Plain) → words ≡ decimal w ∷ rest → IsCount MOST_WORKERS w → ((z : List Word) → rest ≡ codes "--connections" ∷ z → ⊥)
    → Exactly (Behind w MOST_CONNECTIONS rest) o → Exactly (BehindWorkers words) o
workers_then words rest w o is count never e = by_number MOST_WORKERS w words rest ThenWorkers o (omega arith) is count
    (by_no_other (codes "--connections") rest (λ z p. Behind w MOST_CONNECTIONS z p) (λ z p. WithNumber MOST_CONNECTIONS z (λ connections last. Behind w connections last p)) o never e)

workers_other : (words rest more : List Word) (w : ℕ) (o : Option Plain) → words ≡ decimal w ∷ rest → IsCount MOST_WORKERS w → rest ≡ codes "--connections" ∷ more
    → Exactly (λ p. WithNumber MOST_CONNECTIONS more (λ connections last. Behind w connections last p)) o → Exactly (BehindWorkers words) o
workers_other words rest more w o is count other e = by_number MOST_WORKERS w words rest ThenWorkers o (omega arith) is count
    (by_other (codes "--connections") rest more (λ z p. Behind w MOST_CONNECTIONS z p) (λ z p. WithNumber MOST_CONNECTIONS z (λ connections last. Behind w connections last p)) o other
    (λ p h. not_connections rest more w MOST_CONNECTIONS p other h) e)

pub workers_and : (words rest more last : List Word) (w n : ℕ) (o : Option Plain) → words ≡ decimal w ∷ rest → IsCount MOST_WORKERS w → rest ≡ codes "--connections" ∷ more → more ≡ decimal n ∷ last → IsCount MOST_CONNECTIONS n
    → Exactly (Behind w n last) o → Exactly (BehindWorkers words) o
workers_and words rest more last w n o is count other also counts e = workers_other words rest more w o is count other
    (by_number MOST_CONNECTIONS n more last (λ connections z p. Behind w connections z p) o (omega arith) also counts e)

pub workers_not : (words rest more : List Word) (w : ℕ) → words ≡ decimal w ∷ rest → IsCount MOST_WORKERS w → rest ≡ codes "--connections" ∷ more
    → ((n : ℕ) (last : List Word) → more ≡ decimal n ∷ last → IsCount MOST_CONNECTIONS n → ⊥) → Exactly (BehindWorkers words) None
workers_not words rest more w is count other never = workers_other words rest more w None is count other
    (by_no_number MOST_CONNECTIONS more (λ connections z p. Behind w connections z p) never)

-- ---- behind `--connections`

abbrev ThenConnections : ℕ → List Word → Plain → Type 0
ThenConnections connections rest p = Behind 1 connections rest p
    ⊎ ((more : List Word) × (rest ≡ codes "--workers" ∷ more) × WithNumber MOST_WORKERS more (λ workers last. Behind workers connections last p))

pub connections_then : (words rest : List Word) (n : ℕ) (o : Option Plain) → words ≡ decimal n ∷ rest → IsCount MOST_CONNECTIONS n → ((z : List Word) → rest ≡ codes "--workers" ∷ z → ⊥)
    → Exactly (Behind 1 n rest) o → Exactly (BehindConnections words) o
connections_then words rest n o is count never e = by_number MOST_CONNECTIONS n words rest ThenConnections o (omega arith) is count
    (by_no_other (codes "--workers") rest (λ z p. Behind 1 n z p) (λ z p. WithNumber MOST_WORKERS z (λ workers last. Behind workers n last p)) o never e)

connections_other : (words rest more : List Word) (n : ℕ) (o : Option Plain) → words ≡ decimal n ∷ rest → IsCount MOST_CONNECTIONS n → rest ≡ codes "--workers" ∷ more
    → Exactly (λ p. WithNumber MOST_WORKERS more (λ workers last. Behind workers n last p)) o → Exactly (BehindConnections words) o
connections_other words rest more n o is count other e = by_number MOST_CONNECTIONS n words rest ThenConnections o (omega arith) is count
    (by_other (codes "--workers") rest more (λ z p. Behind 1 n z p) (λ z p. WithNumber MOST_WORKERS z (λ workers last. Behind workers n last p)) o other
    (λ p h. not_workers rest more 1 n p other h) e)

pub connections_and : (words rest more last : List Word) (n w : ℕ) (o : Option Plain) → words ≡ decimal n ∷ rest → IsCount MOST_CONNECTIONS n → rest ≡ codes "--workers" ∷ more → more ≡ decimal w ∷ last → IsCount MOST_WORKERS w
    → Exactly (Behind w n last) o → Exactly (BehindConnections words) o
connections_and words rest more last n w o is count other also counts e = connections_other words rest more n o is count other
    (by_number MOST_WORKERS w more last (λ workers z p. Behind workers n z p) o (omega arith) also counts e)

pub connections_not : (words rest more : List Word) (n : ℕ) → words ≡ decimal n ∷ rest → IsCount MOST_CONNECTIONS n → rest ≡ codes "--workers" ∷ more
    → ((w : ℕ) (last : List Word) → more ≡ decimal w ∷ last → IsCount MOST_WORKERS w → ⊥) → Exactly (BehindConnections words) None
connections_not words rest more n is count other never = connections_other words rest more n None is count other
    (by_no_number MOST_WORKERS more (λ workers z p. Behind workers n z p) never)

-- ---- words where they lie in memory

pub first_word : (words : List (String Global)) (first : String Global) (word : Word) → 1 ≤ length words → first ≡ get_or words 0 first → string_bytes first ≡ word
    → words_of words ≡ word ∷ words_of (take (length words - 1) (drop 1 words))
first_word [] first word le is e = absurd (omega (arith, le))
first_word (v ∷ vs) first word le is e = ap₂ (λ (a : Word) (b : List (String Global)). a ∷ words_of b) (ap string_bytes (sym is) ∙ e) (sym (take_all (length (v ∷ vs) - 1) vs (omega arith)))

pub equal_words : (x y : Word) (b : Bool) → b ≡ not (bytes_eq x y) → b ≡ false → x ≡ y
equal_words x y b is off = (bytes_eq-Decides x y).0 (turned (bytes_eq x y) (sym is ∙ off))
  where
    turned : (c : Bool) → not c ≡ false → c ≡ true
    turned true e = refl
    turned false e = absurd cc
