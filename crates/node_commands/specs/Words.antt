-- What the words of the command line ask for.
use Rattle.std.specs.Prelude.{ℕ, ◌≡◌, ◌≢◌, ◌<◌, ◌≤◌, List, [], ◌∷◌, ◌++◌, length, map, codes, Option, Some, None, String, string_bytes}
use Rattle.std.specs.Fmt.{decimal}
use Rattle.std.specs.declared.alloc.Global.{Global}
use Rattle.ice_relay.specs.declared.drilling.TheConstants.{MOST_NODES}
use Rattle.node_commands.specs.declared.words.TheConstants.{MOST_OF_A_WORD, MOST_OF_A_START}
use Rattle.instance_writing.specs.declared.format.Format.TheVariants as formats
use Rattle.node_commands.specs.declared.words.Task.{Task}
use Rattle.node_commands.specs.declared.words.Task.TheVariants as tasks
use Rattle.node_commands.specs.declared.words.Page.{Page}
use Rattle.node_commands.specs.declared.words.Page.TheVariants as pages
use Rattle.node_commands.specs.declared.words.Command.{Command as Written}
use Rattle.node_commands.specs.declared.words.Command.TheVariants as written

-- the bytes of a word of the command line
abbrev pub Word : Type 0
Word = List ℕ

-- what the words ask for; `values` stands for each task with values of a type: `relay`, `same`, `dump` and `encode`
pub data Command : Type 0 where
  -- a task with values: the Slice file, and the name of their type
  values : Task → Word → Word → Command
  -- the Slice file
  check : Word → Command
  -- the text of a proxy
  proxy : Word → Command
  -- the files of what the client sent on a connection, and of what the server sent
  audit : Word → Word → Command
  -- the Slice file of what was spelled, that of what is read, and the name of its type in both
  compat : Word → Word → Word → Command
  -- the number that the graph is drawn from, and how many nodes it has
  drill : ℕ → ℕ → Command
  messages : Command
  -- on all commands, or on one
  help : Page → Command
  version : Command

-- not longer than the longest word
abbrev pub IsWord : Word → Type 0
IsWord word = length word ≤ MOST_OF_A_WORD

-- the word for the task, and its options
abbrev pub task_words : Task → List Word
task_words (tasks.Relay formats.Sliced) = codes "relay" ∷ []
task_words (tasks.Relay formats.Compact) = codes "relay" ∷ codes "--compact" ∷ []
task_words tasks.Same = codes "same" ∷ []
task_words tasks.Dump = codes "dump" ∷ []
task_words (tasks.Encode formats.Sliced) = codes "encode" ∷ []
task_words (tasks.Encode formats.Compact) = codes "encode" ∷ codes "--compact" ∷ []

-- the words for a page of help
abbrev pub page_words : Page → List Word
page_words pages.All = codes "--help" ∷ []
page_words pages.Relay = codes "relay" ∷ codes "--help" ∷ []
page_words pages.Same = codes "same" ∷ codes "--help" ∷ []
page_words pages.Dump = codes "dump" ∷ codes "--help" ∷ []
page_words pages.Encode = codes "encode" ∷ codes "--help" ∷ []
page_words pages.Check = codes "check" ∷ codes "--help" ∷ []
page_words pages.Proxy = codes "proxy" ∷ codes "--help" ∷ []
page_words pages.Call = codes "call" ∷ codes "--help" ∷ []
page_words pages.Serve = codes "serve" ∷ codes "--help" ∷ []
page_words pages.Gate = codes "gate" ∷ codes "--help" ∷ []
page_words pages.Messages = codes "messages" ∷ codes "--help" ∷ []
page_words pages.Audit = codes "audit" ∷ codes "--help" ∷ []
page_words pages.Compat = codes "compat" ∷ codes "--help" ∷ []
page_words pages.Drill = codes "drill" ∷ codes "--help" ∷ []

-- behind a command the word for help is no file and no text
abbrev pub IsNoHelp : Word → Type 0
IsNoHelp word = word ≢ codes "--help"

-- where an option may stand, FILE is none
abbrev pub IsNoOption : Task → Word → Type 0
IsNoOption (tasks.Relay format) word = word ≢ codes "--compact"
IsNoOption tasks.Same word = Unit {0}
IsNoOption tasks.Dump word = Unit {0}
IsNoOption (tasks.Encode format) word = word ≢ codes "--compact"

-- The listed forms. Words that are none of them are a faulty command line.
abbrev pub Form : List Word → Command → Type 0
Form words (values task file kind) =
    (words ≡ task_words task ++ file ∷ kind ∷ []) × IsWord file × IsWord kind × IsNoOption task file
Form words (check file) = (words ≡ codes "check" ∷ file ∷ []) × IsWord file × IsNoHelp file
Form words (proxy text) = (words ≡ codes "proxy" ∷ text ∷ []) × IsWord text × IsNoHelp text
Form words (audit client server) = (words ≡ codes "audit" ∷ client ∷ server ∷ []) × IsWord client × IsWord server
Form words (compat old new kind) = (words ≡ codes "compat" ∷ old ∷ new ∷ kind ∷ []) × IsWord old × IsWord new × IsWord kind
Form words (drill start count) = (words ≡ codes "drill" ∷ decimal start ∷ decimal count ∷ [])
    × (start ≤ MOST_OF_A_START) × (0 < count) × (count ≤ MOST_NODES)
Form words messages = words ≡ codes "messages" ∷ []
Form words (help page) = words ≡ page_words page
Form words version = words ≡ codes "--version" ∷ []

-- the words ask for this command, or, where they are no listed form, for none
abbrev pub Asks : List Word → Option Command → Type 0
Asks words (Some command) = Form words command
Asks words None = (command : Command) → Form words command → ⊥

-- the number from the least to the most whose decimal digits the word is, without a sign or a leading zero; or there is none
abbrev pub SpellsWithin : Word → (least most : ℕ) → Option ℕ → Type 0
SpellsWithin word least most (Some n) = (word ≡ decimal n) × (least ≤ n) × (n ≤ most)
SpellsWithin word least most None = (n : ℕ) → word ≡ decimal n → least ≤ n → n ≤ most → ⊥

-- the words' bytes
abbrev pub words_of : List (String Global) → List Word
words_of words = map string_bytes words

-- the command, wherever its words lie in memory
abbrev pub asked_of : Option Written → Option Command
asked_of (Some (written.Values task file kind)) = Some (values task file.now kind.now)
asked_of (Some (written.Check file)) = Some (check file.now)
asked_of (Some (written.Proxy text)) = Some (proxy text.now)
asked_of (Some (written.Audit client server)) = Some (audit client.now server.now)
asked_of (Some (written.Compat old new kind)) = Some (compat old.now new.now kind.now)
asked_of (Some (written.Drill start count)) = Some (drill start count)
asked_of (Some written.Messages) = Some messages
asked_of (Some (written.Help page)) = Some (help page)
asked_of (Some written.Version) = Some version
asked_of None = None
