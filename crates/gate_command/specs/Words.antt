-- The words of `gate`.
use Rattle.std.specs.Prelude.{ℕ, ◌≡◌, ◌≤◌, ◌⊎◌, List, [], ◌∷◌, ◌++◌, codes, Option, Some, None, unwrap_or}
use Rattle.std.specs.Fmt.{decimal}
use Rattle.std.specs.List.{AllByRecursion}
use Rattle.node_commands.specs.Words.{Word, Command, IsWord, Form, SpellsWithin}
use Rattle.node_commands.specs.declared.limits.TheConstants.{MOST_RETRIES}
use Rattle.node_commands.specs.declared.limits.TheConstants.{MOST_CONNECTIONS, MOST_PORT}
use Rattle.gate_command.specs.declared.words.GateCommand.{GateCommand}
use Rattle.gate_command.specs.declared.words.Options.{Options}

-- what the words ask for
pub record GateWords : Type 0 where
  -- how many connections are accepted
  pub connections : ℕ
  -- how often a message is tried again, at most
  pub retries : ℕ
  pub file : Word
  pub interface : Word
  pub host : Word
  pub port : ℕ
  -- the proxy's text
  pub proxy : Word

-- wherever its words lie in memory
abbrev pub seen : GateCommand → GateWords
seen c = record {
  connections = c.connections;
  retries = c.retries;
  file = c.file.now;
  interface = c.interface.now;
  host = c.host.now;
  port = c.port;
  proxy = c.proxy.now;
}

abbrev pub asked_of : Option GateCommand → Option GateWords
asked_of None = None
asked_of (Some c) = Some (seen c)

-- ---- options

abbrev pub no_options : Options
no_options = record { connections = None; retries = None }

-- `--connections` with its number, or `--retries` with its number, which was not given yet
abbrev pub IsCounted : Options → Word → Word → Options → Type 0
IsCounted before name value after = (n : ℕ) × (name ≡ codes "--connections") × SpellsWithin value 1 MOST_CONNECTIONS (Some n)
    × (before.connections ≡ None) × (after ≡ record before { connections = Some n })

abbrev pub IsRetried : Options → Word → Word → Options → Type 0
IsRetried before name value after = (n : ℕ) × (name ≡ codes "--retries") × SpellsWithin value 0 MOST_RETRIES (Some n)
    × (before.retries ≡ None) × (after ≡ record before { retries = Some n })

abbrev pub IsNumbered : Options → Word → Word → Options → Type 0
IsNumbered before name value after = IsCounted before name value after ⊎ IsRetried before name value after

-- the words are options, in any order, each at most once, beside those that were given before
abbrev pub Gives : Options → List Word → Options → Type 0
Gives before [] after = after ≡ before
Gives before (name ∷ []) after = ⊥
Gives before (name ∷ value ∷ words) after = (next : Options) × IsNumbered before name value next × Gives next words after

-- ---- the form

-- as many connections as may be, and one retry, where it is not said
pub record IsSetBy (given : Options) (c : GateWords) : Type 0 where
  pub connections : c.connections ≡ unwrap_or given.connections MOST_CONNECTIONS
  pub retries : c.retries ≡ unwrap_or given.retries 1

abbrev pub IsOption : Word → Type 0
IsOption word = (word ≡ codes "--connections") ⊎ (word ≡ codes "--retries")

-- the five words, of which FILE is no option, and none is too long
pub record AreNamed (words : List Word) (c : GateWords) : Type 0 where
  pub words_are : words ≡ c.file ∷ c.interface ∷ c.host ∷ decimal c.port ∷ c.proxy ∷ []
  pub no_option : IsOption c.file → ⊥
  pub port : c.port ≤ MOST_PORT
  pub short : AllByRecursion IsWord words

-- `gate [--connections C] [--retries R] FILE INTERFACE HOST PORT PROXY`
pub record GateForm (words : List Word) (c : GateWords) : Type 0 where
  pub options : List Word
  pub named : List Word
  pub given : Options
  pub words_are : words ≡ codes "gate" ∷ (options ++ named)
  pub gives : Gives no_options options given
  pub set_by : IsSetBy given c
  pub names : AreNamed named c

-- no form of `gate` is one of another command
abbrev pub IsNoOther : Type 0
IsNoOther = (words : List Word) (c : GateWords) → GateForm words c → (other : Command) → Form words other → ⊥

-- within the limits of words, ports, connections and retries
pub record IsWithin (c : GateWords) : Type 0 where
  pub proxy : IsWord c.proxy
  pub port : c.port ≤ MOST_PORT
  pub connections : (1 ≤ c.connections) × (c.connections ≤ MOST_CONNECTIONS)
  pub retries : c.retries ≤ MOST_RETRIES

-- ---- on the way to it

-- the options with those of the words, or there is no such list of options
abbrev pub Gathers : Options → List Word → Option Options → Type 0
Gathers before words (Some after) = Gives before words after
Gathers before words None = (after : Options) → Gives before words after → ⊥

-- the options with this one, or it is none, or was given
abbrev pub Takes : Options → Word → Word → Option Options → Type 0
Takes before name value (Some after) = IsNumbered before name value after
Takes before name value None = (after : Options) → IsNumbered before name value after → ⊥

-- the words behind the options, with what these say
abbrev pub IsNamed : Options → List Word → GateWords → Type 0
IsNamed given words c = AreNamed words c × IsSetBy given c
