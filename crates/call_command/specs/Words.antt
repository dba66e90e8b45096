-- The words of `call`.
use Rattle.std.specs.Prelude.{ℕ, ◌≡◌, ◌≢◌, ◌≤◌, ◌⊎◌, Bool, true, false, List, [], ◌∷◌, ◌++◌, codes, Option, Some, None, IfSome, option_copied, unwrap_or, if◌then◌else◌}
use Rattle.instance_writing.specs.declared.format.Format.{Format}
use Rattle.instance_writing.specs.declared.format.Format.TheVariants.{Sliced, Compact}
use Rattle.node_commands.specs.Words.{Word, Command, IsWord, Form, SpellsWithin}
use Rattle.call_command.specs.declared.words.CallCommand.{CallCommand}
use Rattle.call_command.specs.declared.words.Options.{Options}
use Rattle.node_commands.specs.declared.limits.TheConstants.{MOST_RETRIES}
use Rattle.call_command.specs.declared.words.TheConstants.{MOST_TIMES}

-- what the words ask for
pub record CallWords : Type 0 where
  -- how often a message is tried again, at most
  pub retries : ℕ
  -- how many invocations there are
  pub times : ℕ
  -- how the arguments are written
  pub format : Format
  -- the text of the locator's proxy
  pub locator : Option Word
  pub file : Word
  pub interface : Word
  -- the proxy's text
  pub proxy : Word
  pub operation : Word

-- wherever its words lie in memory
abbrev pub seen : CallCommand → CallWords
seen c = record {
  retries = c.retries;
  times = c.times;
  format = c.format;
  locator = option_copied c.locator;
  file = c.file.now;
  interface = c.interface.now;
  proxy = c.proxy.now;
  operation = c.operation.now;
}

-- ---- options

-- those that were given
pub record Given : Type 0 where
  pub retries : Option ℕ
  pub times : Option ℕ
  pub compact : Bool
  pub locator : Option Word

-- wherever its word lies in memory
abbrev pub given_of : Options → Given
given_of o = record { retries = o.retries; times = o.times; compact = o.compact; locator = option_copied o.locator }

abbrev pub no_options : Given
no_options = record { retries = None; times = None; compact = false; locator = None }

-- `--compact`, which was not given yet
abbrev pub IsCompacted : Given → Word → Given → Type 0
IsCompacted before name after = (name ≡ codes "--compact") × (before.compact ≡ false) × (after ≡ record before { compact = true })

-- an option with its number, which was not given yet
abbrev pub IsNumbered : Given → Word → Word → Given → Type 0
IsNumbered before name value after =
    ((n : ℕ) × (name ≡ codes "--retries") × SpellsWithin value 0 MOST_RETRIES (Some n) × (before.retries ≡ None) × (after ≡ record before { retries = Some n }))
    ⊎ ((n : ℕ) × (name ≡ codes "--times") × SpellsWithin value 1 MOST_TIMES (Some n) × (before.times ≡ None) × (after ≡ record before { times = Some n }))

-- `--locator` with the text of a proxy, which was not given yet
abbrev pub IsLocated : Given → Word → Word → Given → Type 0
IsLocated before name value after = (name ≡ codes "--locator") × IsWord value × (before.locator ≡ None) × (after ≡ record before { locator = Some value })

-- an option with its value
abbrev pub IsValued : Given → Word → Word → Given → Type 0
IsValued before name value after = IsNumbered before name value after ⊎ IsLocated before name value after

-- the words are options, in any order, each at most once, beside those that were given before
abbrev pub Gives : Given → List Word → Given → Type 0
Gives before [] after = after ≡ before
Gives before (name ∷ []) after = IsCompacted before name after
Gives before (name ∷ value ∷ words) after = ((next : Given) × IsCompacted before name next × Gives next (value ∷ words) after)
    ⊎ ((next : Given) × IsValued before name value next × Gives next words after)

-- where an option may stand, FILE is none
abbrev pub IsNoOption : Word → Type 0
IsNoOption word = (word ≢ codes "--retries") × (word ≢ codes "--times") × (word ≢ codes "--compact") × (word ≢ codes "--locator")

-- ---- the form

-- one retry and one invocation, in sliced format and without a locator, where it is not said
pub record IsSetBy (given : Given) (c : CallWords) : Type 0 where
  pub retries : c.retries ≡ unwrap_or given.retries 1
  pub times : c.times ≡ unwrap_or given.times 1
  pub format : c.format ≡ (if given.compact then Compact else Sliced)
  pub locator : c.locator ≡ given.locator

-- the four words, of which FILE is no option, and none is too long
pub record AreNamed (words : List Word) (c : CallWords) : Type 0 where
  pub words_are : words ≡ c.file ∷ c.interface ∷ c.proxy ∷ c.operation ∷ []
  pub no_option : IsNoOption c.file
  pub words_short : IsWord c.file × IsWord c.interface × IsWord c.proxy × IsWord c.operation

-- `call [--retries R] [--times T] [--compact] [--locator PROXY] FILE INTERFACE PROXY OPERATION`
pub record CallForm (words : List Word) (c : CallWords) : Type 0 where
  pub options : List Word
  pub named : List Word
  pub given : Given
  pub words_are : words ≡ codes "call" ∷ (options ++ named)
  pub gives : Gives no_options options given
  pub set_by : IsSetBy given c
  pub names : AreNamed named c

-- the call that the words ask for, or, where they are no form of it, none
abbrev pub AsksCall : List Word → Option CallCommand → Type 0
AsksCall words (Some c) = CallForm words (seen c)
AsksCall words None = (c : CallWords) → CallForm words c → ⊥

-- ---- on the way to it

-- the options with those of the words, or there is no such list of options
abbrev pub Gathers : Given → List Word → Option Options → Type 0
Gathers before words (Some after) = Gives before words (given_of after)
Gathers before words None = (after : Given) → Gives before words after → ⊥

-- the options with this one, or it is none, or was given
abbrev pub Takes : Given → Word → Word → Option Options → Type 0
Takes before name value (Some after) = IsValued before name value (given_of after)
Takes before name value None = (after : Given) → IsValued before name value after → ⊥

abbrev pub IsOption : Word → Type 0
IsOption word = (word ≡ codes "--retries") ⊎ ((word ≡ codes "--times") ⊎ ((word ≡ codes "--compact") ⊎ (word ≡ codes "--locator")))

-- the call of these words, with what was given; or they name none
abbrev pub IsNamed : Given → List Word → Option CallCommand → Type 0
IsNamed given words (Some c) = AreNamed words (seen c) × IsSetBy given (seen c)
IsNamed given words None = (c : CallWords) → AreNamed words c → ⊥

-- ---- what is asked of a command

-- within the limits of words, retries and invocations
pub record IsWithin (c : CallWords) : Type 0 where
  pub proxy : IsWord c.proxy
  pub locator : IfSome c.locator IsWord
  pub retries : c.retries ≤ MOST_RETRIES
  pub least : 1 ≤ c.times
  pub times : c.times ≤ MOST_TIMES

-- no words are a form of `call` and of another command
abbrev pub IsApart : Type 0
IsApart = (words : List Word) (c : CallWords) (other : Command) → CallForm words c → Form words other → ⊥

-- words are a form of `call` in one way
abbrev pub HasOneForm : Type 0
HasOneForm = (words : List Word) (c d : CallWords) → CallForm words c → CallForm words d → c ≡ d
