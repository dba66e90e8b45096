-- What the words of `serve` ask for.
use Rattle.std.specs.Prelude.{ℕ, ◌≡◌, ◌≢◌, ◌<◌, ◌≤◌, ◌⊎◌, List, ◌∷◌, length, map, codes, Option, Some, None}
use Rattle.std.specs.Fmt.{decimal}
use Rattle.std.specs.List.{AllByRecursion}
use Rattle.node_commands.specs.Words.{Word, IsWord, Command, Form, words_of}
use Rattle.node_commands.specs.declared.limits.TheConstants.{MOST_CONNECTIONS, MOST_PORT}
use Rattle.serve_command.specs.declared.operands.TheConstants.{MOST_WORKERS}
use Rattle.serve_command.specs.declared.operands.Operands.{Operands as ReadOperands}
use Rattle.serve_command.specs.declared.words.TheConstants.{MOST_WORDS}
use Rattle.serve_command.specs.declared.words.ServeCommand.{ServeCommand}
use Rattle.serve_command.specs.declared.object_words.ObjectWord.{ObjectWord}
use Rattle.serve_command.specs.ObjectWords.{Object, object_word, object_of, IsCut, AreApart}

-- what they ask for but for the objects, whose words are as they stand
pub record Plain : Type 0 where
  pub workers : ℕ
  pub connections : ℕ
  pub file : Word
  pub host : Word
  pub port : ℕ
  pub objects : List Word

-- FILE HOST PORT OBJECT ..
abbrev pub operand_words : Plain → List Word
operand_words p = p.file ∷ p.host ∷ decimal p.port ∷ p.objects

-- from 1 to so many
abbrev pub IsCount : ℕ → ℕ → Type 0
IsCount most n = (1 ≤ n) × (n ≤ most)

-- FILE is no word for an option
pub record AreOperands (words : List Word) (p : Plain) : Type 0 where
  pub words_are : words ≡ operand_words p
  pub no_workers : p.file ≢ codes "--workers"
  pub no_connections : p.file ≢ codes "--connections"
  pub port : p.port ≤ MOST_PORT

-- behind the options, or some of them: with these numbers
abbrev pub Behind : (workers connections : ℕ) → List Word → Plain → Type 0
Behind workers connections words p = AreOperands words p × (p.workers ≡ workers) × (p.connections ≡ connections)

-- the number of an option, and what stands behind it
abbrev pub WithNumber : ℕ → List Word → (ℕ → List Word → Type 0) → Type 0
WithNumber most words Then = (n : ℕ) × (rest : List Word) × (words ≡ decimal n ∷ rest) × IsCount most n × Then n rest

-- behind `--workers`: its number, and then `--connections` with its number or not
abbrev pub BehindWorkers : List Word → Plain → Type 0
BehindWorkers words p = WithNumber MOST_WORKERS words (λ workers rest. Behind workers MOST_CONNECTIONS rest p
    ⊎ ((more : List Word) × (rest ≡ codes "--connections" ∷ more) × WithNumber MOST_CONNECTIONS more (λ connections last. Behind workers connections last p)))

-- behind `--connections`, likewise
abbrev pub BehindConnections : List Word → Plain → Type 0
BehindConnections words p = WithNumber MOST_CONNECTIONS words (λ connections rest. Behind 1 connections rest p
    ⊎ ((more : List Word) × (rest ≡ codes "--workers" ∷ more) × WithNumber MOST_WORKERS more (λ workers last. Behind workers connections last p)))

-- the options in any order, each at most once; without them there is one worker, and as many connections as may be
abbrev pub BehindServe : List Word → Plain → Type 0
BehindServe words p = Behind 1 MOST_CONNECTIONS words p
    ⊎ (((rest : List Word) × (words ≡ codes "--workers" ∷ rest) × BehindWorkers rest p)
    ⊎ ((rest : List Word) × (words ≡ codes "--connections" ∷ rest) × BehindConnections rest p))

-- they begin with `serve`
abbrev pub IsServe : List Word → Type 0
IsServe words = (rest : List Word) × (words ≡ codes "serve" ∷ rest)

-- `serve [--workers W] [--connections C] FILE HOST PORT OBJECT ..`
abbrev pub PlainForm : List Word → Plain → Type 0
PlainForm words p = (rest : List Word) × (words ≡ codes "serve" ∷ rest) × BehindServe rest p

-- what the words ask for
pub record Serve : Type 0 where
  pub workers : ℕ
  pub connections : ℕ
  pub file : Word
  pub host : Word
  pub port : ℕ
  pub objects : List Object

abbrev pub plain : Serve → Plain
plain c = record {
  workers = c.workers;
  connections = c.connections;
  file = c.file;
  host = c.host;
  port = c.port;
  objects = map object_word c.objects;
}

-- what the OBJECT words ask for, behind these operands
pub record Completes (p : Plain) (c : Serve) : Type 0 where
  pub plain_is : p ≡ plain c
  -- one OBJECT at least
  pub some : 0 < length c.objects
  pub cut : AllByRecursion IsCut c.objects
  pub apart : AreApart c.objects

-- THE FORM of `serve`
pub record ServeForm (words : List Word) (c : Serve) : Type 0 where
  pub few : length words ≤ MOST_WORDS
  pub short : AllByRecursion IsWord words
  pub operands : Plain
  pub form : PlainForm words operands
  pub completes : Completes operands c

-- no form of `serve` is one of another command
abbrev pub IsNoOther : Type 0
IsNoOther = (words : List Word) (c : Serve) (other : Command) → ServeForm words c → Form words other → ⊥

-- ---- words where they lie in memory

-- what it holds of, or there is nothing of which it does
abbrev pub Finds : {A : Type 0} → (A → Type 0) → Option A → Type 0
Finds {A = A} Is None = (x : A) → Is x → ⊥
Finds Is (Some x) = Is x

abbrev pub plain_from : ReadOperands → Plain
plain_from o = record {
  workers = o.workers;
  connections = o.connections;
  file = o.file.now;
  host = o.host.now;
  port = o.port;
  objects = words_of o.objects.now;
}

abbrev pub plain_of : Option ReadOperands → Option Plain
plain_of None = None
plain_of (Some o) = Some (plain_from o)

abbrev pub objects_of : List ObjectWord → List Object
objects_of objects = map object_of objects

abbrev pub command_of : ServeCommand → Serve
command_of c = record {
  workers = c.workers;
  connections = c.connections;
  file = c.file.now;
  host = c.host.now;
  port = c.port;
  objects = objects_of c.objects.items;
}

abbrev pub asked_of : Option ServeCommand → Option Serve
asked_of None = None
asked_of (Some c) = Some (command_of c)
