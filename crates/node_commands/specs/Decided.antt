-- What each command comes to by its words, the files and the input, where the outside tells them.
-- Each step decides only what those before it let through: the Slice file, the name of the type,
-- the input, the length of what is to be written.
use Rattle.std.specs.Prelude.{ℕ, ◌≡◌, ◌+◌, ◌<◌, ◌≤◌, ◌⊎◌, List, [], ◌∷◌, ◌++◌, length, Option, Some, None, IfSome, Result, Ok, Err, codes}
use Rattle.std.specs.Fmt.{decimal}
use Rattle.ice_types.specs.declared.kind.TypeRef.{TypeRef}
use Rattle.ice_types.specs.Tables.{Tables}
use Rattle.ice_prims.specs.declared.fault.Fault.{Fault}
use Rattle.ice_encoding.specs.declared.limits.TheConstants.{LARGEST}
use Rattle.ice_encoding.specs.Graph.{Graph}
use Rattle.ice_encoding.specs.CanonicalGraph.{Format, IsWritable}
use Rattle.ice_encoding.specs.SameGraph.{Same}
use Rattle.instance_writing.specs.Formats.{view_format}
use Rattle.class_slices.specs.Encoding.{NeedsSliced}
use Rattle.ice_relay.specs.Relaying.{one_value, Holds, held, canonical_bytes}
use Rattle.ice_relay.specs.Comparing.{HoldTwo, two_held, CanBeCompared, IsFirstLong}
use Rattle.graph_json.specs.declared.fault.JsonKind.{JsonKind}
use Rattle.graph_json.specs.Texts.{IsRefused, Lists}
use Rattle.ice_relay.specs.Dumping.{dump_line}
use Rattle.ice_relay.specs.Drawn.{drawn}
use Rattle.ice_relay.specs.Nodes.{drill_tables, one_node}
use Rattle.ice_relay.specs.Telling.{drill_line, CanBeRelayed, IsTooLong}
use Rattle.ice_types.specs.declared.proxy.Proxy.{Proxy}
use Rattle.ice_encoding.specs.Proxy as parts
use Rattle.hex.specs.Hex.{encode_lower}
use Rattle.ice_proxy.specs.Grammar.{proxy_text}
use Rattle.ice_proxy.specs.Printed.{printed_proxy}
use Rattle.message_dump.specs.Dumps.{IsDump}
use Rattle.ice_audit.specs.declared.verdict.Verdict.{Verdict}
use Rattle.ice_audit.specs.declared.verdict.Verdict.TheVariants.{Yes, No}
use Rattle.ice_audit.specs.Verdicts.{Judges}
use Rattle.slice_compat.specs.declared.verdict.Verdict.{Verdict as CompatVerdict}
use Rattle.slice_compat.specs.declared.verdict.Verdict.TheVariants as compats
use Rattle.slice_compat.specs.Verdicts as compatibility
use Rattle.ice_ports.specs.Files.{file_named}
use Rattle.slice_meaning.specs.Printed.{LoadBreak}
use Rattle.slice_meaning.specs.Loading.{Loads, LoadBreaks}
use Rattle.node_commands.specs.declared.help.TheConstants.{VERSION}
use Rattle.node_commands.specs.Pages.{page_text}
use Rattle.node_commands.specs.Words.{Word, Command, values, check, proxy, audit, compat, drill, messages, help, version, Asks}
use Rattle.node_commands.specs.declared.words.Task.{Task}
use Rattle.node_commands.specs.declared.words.Task.TheVariants as tasks
use Rattle.node_commands.specs.TypeWords.{IsTypeWord}
use Rattle.node_commands.specs.Audits.{verdict_text}
use Rattle.node_commands.specs.Compats.{compat_line}
use Rattle.node_commands.specs.Outside.{Files}
use Rattle.node_commands.specs.Answers.{Answer, done, different, usage, no_such_name, slice_refused, input_refused, json_refused, too_long, needs_sliced, text_refused, refused_after}

-- ---- the steps

-- FILE and what it includes mean this schema, where the shelf tells its files
abbrev pub IsSchema : Option Files → Word → Tables → Type 0
IsSchema files file t = IfSome files (λ known. Loads known file t)

-- this is their first fault
abbrev pub IsFault : Option Files → Word → LoadBreak → Type 0
IsFault files file broken = IfSome files (λ known. LoadBreaks known file broken)

-- FILE is refused, or means a schema, from which it goes on
abbrev pub WithSchema : Option Files → Word → Answer → (Tables → Type 0) → Type 0
WithSchema files file answer Next =
    ((broken : LoadBreak) × IsFault files file broken × (answer ≡ slice_refused broken))
    ⊎ ((t : Tables) × IsSchema files file t × Next t)

-- the word names this type, and no other
abbrev pub IsNamed : Tables → Word → TypeRef → Type 0
IsNamed t word kind = IsTypeWord t word kind
    × ((other : TypeRef) → IsTypeWord t word other → other ≡ kind)

-- the word names no type, or one, from which it goes on
abbrev pub WithType : Tables → Word → Answer → (TypeRef → Type 0) → Type 0
WithType t word answer Next =
    (((kind : TypeRef) → IsTypeWord t word kind → ⊥) × (answer ≡ no_such_name word))
    ⊎ ((kind : TypeRef) × IsNamed t word kind × Next kind)

-- the input is one encapsulation of a value of the type, of this graph, where the source tells it
abbrev pub IsHeld : Option (List ℕ) → Tables → TypeRef → Graph → Type 0
IsHeld input t kind g = IfSome input (λ known. Holds t kind known g)

-- read as one, the whole input has this first fault, where the source tells it
abbrev pub IsInputFault : Option (List ℕ) → Tables → TypeRef → Fault → Type 0
IsInputFault input t kind fault = IfSome input (λ known. held t kind known ≡ Err fault)

-- the input is refused, or holds a graph, from which it goes on
abbrev pub WithGraph : Option (List ℕ) → Tables → TypeRef → Answer → (Graph → Type 0) → Type 0
WithGraph input t kind answer Next =
    ((fault : Fault) × IsInputFault input t kind fault × (answer ≡ input_refused fault))
    ⊎ ((g : Graph) × IsHeld input t kind g × Next g)

-- the input is a text of JSON that lists this graph, which is of the type, where the source tells it
abbrev pub IsListed : Option (List ℕ) → Tables → TypeRef → Graph → Type 0
IsListed input t kind g = IfSome input (λ known. Lists t (one_value kind) known g)

-- as a text the whole input is refused for this reason, where the source tells it
abbrev pub IsTextFault : Option (List ℕ) → Tables → TypeRef → JsonKind → Type 0
IsTextFault input t kind why = IfSome input (λ known. IsRefused t (one_value kind) known why)

-- the text is refused, or lists a graph, from which it goes on
abbrev pub WithText : Option (List ℕ) → Tables → TypeRef → Answer → (Graph → Type 0) → Type 0
WithText input t kind answer Next =
    ((why : JsonKind) × IsTextFault input t kind why × (answer ≡ json_refused why))
    ⊎ ((g : Graph) × IsListed input t kind g × Next g)

-- in this format the graph can be written, from where it goes on; or an instance that it reaches has an unknown slice
abbrev pub WithFormat : Format → Graph → Answer → Type 0 → Type 0
WithFormat f g answer Next = (NeedsSliced f g × (answer ≡ needs_sliced)) ⊎ (IsWritable f g × Next)

-- the encapsulation is written, or refused with its length, where that is above the limit
abbrev pub WithinLimit : List ℕ → Answer → Type 0
WithinLimit bytes answer = ((length bytes ≤ LARGEST) × (answer ≡ done bytes))
    ⊎ ((LARGEST < length bytes) × (answer ≡ too_long (length bytes)))

-- the canonical encapsulation of the graph, in the format
abbrev pub Encapsulates : Format → Tables → TypeRef → Answer → Graph → Type 0
Encapsulates f t kind answer g = WithFormat f g answer (WithinLimit (canonical_bytes t kind f g) answer)

-- the input is two encapsulations of values of the type, of these graphs, where the source tells it
abbrev pub AreHeld : Option (List ℕ) → Tables → TypeRef → Graph → Graph → Type 0
AreHeld input t kind g h = IfSome input (λ known. HoldTwo t kind known g h)

-- read as two, the whole input has this first fault, where the source tells it
abbrev pub IsFaultOfTwo : Option (List ℕ) → Tables → TypeRef → Fault → Type 0
IsFaultOfTwo input t kind fault = IfSome input (λ known. two_held t kind known ≡ Err fault)

-- the input is refused, or holds two graphs, from which it goes on
abbrev pub WithTwo : Option (List ℕ) → Tables → TypeRef → Answer → (Graph → Graph → Type 0) → Type 0
WithTwo input t kind answer Next =
    ((fault : Fault) × IsFaultOfTwo input t kind fault × (answer ≡ input_refused fault))
    ⊎ ((g h : Graph) × AreHeld input t kind g h × Next g h)

-- the graphs are the same but for the names of their instances, or not
abbrev pub IsVerdict : Graph → Graph → Answer → Type 0
IsVerdict g h answer = (Same g h × (answer ≡ done (codes "same\n")))
    ⊎ ((Same g h → ⊥) × (answer ≡ different (codes "different\n")))

-- they are compared, or refused with the length of the first of their encapsulations that is above the limit
abbrev pub WithinBoth : Tables → TypeRef → Graph → Graph → Answer → Type 0
WithinBoth t kind g h answer = (CanBeCompared t kind g h × IsVerdict g h answer)
    ⊎ ((n : ℕ) × IsFirstLong t kind g h n × (answer ≡ too_long n))

-- a file of this name has these bytes, where the shelf tells its files
abbrev pub HasFile : Option Files → Word → List ℕ → Type 0
HasFile files name bytes = IfSome files (λ known. file_named known name ≡ Some bytes)

-- no file has this name
abbrev pub HasNoFile : Option Files → Word → Type 0
HasNoFile files name = IfSome files (λ known. file_named known name ≡ None)

-- the word names no file, or one, from whose bytes it goes on
abbrev pub WithFile : Option Files → Word → Answer → (List ℕ → Type 0) → Type 0
WithFile files name answer Next =
    (HasNoFile files name × (answer ≡ no_such_name name))
    ⊎ ((bytes : List ℕ) × HasFile files name bytes × Next bytes)

-- ---- the commands

-- `relay`: the canonical encapsulation of the graph, in the format
abbrev pub Relays : Format → Option (List ℕ) → Tables → TypeRef → Answer → Type 0
Relays f input t kind answer = WithGraph input t kind answer (Encapsulates f t kind answer)

-- `same`: whether the two graphs are the same
abbrev pub Compares : Option (List ℕ) → Tables → TypeRef → Answer → Type 0
Compares input t kind answer =
    WithTwo input t kind answer (λ g h. WithinBoth t kind g h answer)

-- `dump`: the line of JSON that tells the graph
abbrev pub Dumps : Option (List ℕ) → Tables → TypeRef → Answer → Type 0
Dumps input t kind answer = WithGraph input t kind answer (λ g. answer ≡ done (dump_line t kind g))

-- `encode`: the canonical encapsulation of the graph that the text lists, in the format
abbrev pub EncodesInput : Format → Option (List ℕ) → Tables → TypeRef → Answer → Type 0
EncodesInput f input t kind answer = WithText input t kind answer (Encapsulates f t kind answer)

-- what a task comes to
abbrev pub Does : Task → Option (List ℕ) → Tables → TypeRef → Answer → Type 0
Does (tasks.Relay format) input t kind answer = Relays (view_format format) input t kind answer
Does tasks.Same input t kind answer = Compares input t kind answer
Does tasks.Dump input t kind answer = Dumps input t kind answer
Does (tasks.Encode format) input t kind answer = EncodesInput (view_format format) input t kind answer

-- `relay [--compact] FILE TYPE`, `same FILE TYPE`, `dump FILE TYPE`, `encode [--compact] FILE TYPE`
abbrev pub DoesTask : Task → Option Files → Option (List ℕ) → Word → Word → Answer → Type 0
DoesTask task files input file word answer =
    WithSchema files file answer (λ t.
    WithType t word answer (λ kind.
    Does task input t kind answer))

-- what `check` says of so many definitions
abbrev pub count_line : (types classes exceptions interfaces : ℕ) → List ℕ
count_line types classes exceptions interfaces = codes "ok: " ++ (decimal types
    ++ (codes " types, " ++ (decimal classes ++ (codes " classes, " ++ (decimal exceptions
    ++ (codes " exceptions, " ++ (decimal interfaces ++ codes " interfaces\n")))))))

-- of the rows of the tables: the types are the sequences, dictionaries, structs and enums
abbrev pub summary : Tables → List ℕ
summary t = count_line (length t.seqs + length t.dicts + length t.structs + length t.enums)
    (length t.classes) (length t.exceptions) (length t.interfaces)

-- `check FILE`: how many there are of each sort of definition
abbrev pub Checks : Option Files → Word → Answer → Type 0
Checks files file answer = WithSchema files file answer (λ t. answer ≡ done (summary t))

-- the printed text of a proxy, and its bytes in hexadecimal
abbrev pub proxy_lines : Proxy → List ℕ
proxy_lines p = printed_proxy p ++ 10 ∷ (encode_lower (parts.proxy.put (Some p)) ++ 10 ∷ [])

-- of a proxy that was read, or of the place of the first word that cannot stand
abbrev pub read_text : Result Proxy ℕ → Answer
read_text (Ok p) = done (proxy_lines p)
read_text (Err place) = text_refused place

-- a capture that is good has lines, and of any other the answer is no
abbrev pub judged : Verdict → Answer
judged (Yes lines) = done (verdict_text (Yes lines))
judged (No side place why) = different (verdict_text (No side place why))

-- `audit CLIENT SERVER`: what the bytes of both ends of a connection tell of its calls
abbrev pub Audits : Option Files → Word → Word → Answer → Type 0
Audits files client server answer =
    WithFile files client answer (λ asked.
    WithFile files server answer (λ sent.
    (verdict : Verdict) × Judges asked sent verdict × (answer ≡ judged verdict)))

-- the verdict on a type of both schemas, the one that there is
abbrev pub IsCompatVerdict : (t u : Tables) (kind other : TypeRef) → CompatVerdict → Type 0
IsCompatVerdict t u kind other verdict = compatibility.IsVerdict t u kind other verdict
    × ((another : CompatVerdict) → compatibility.IsVerdict t u kind other another → another ≡ verdict)

-- what was spelled can be read, or of any other verdict the answer is no
abbrev pub compared : Tables → CompatVerdict → Answer
compared t compats.Yes = done (compat_line t compats.Yes)
compared t compats.NoRoot = different (compat_line t compats.NoRoot)
compared t (compats.NoClass class why) = different (compat_line t (compats.NoClass class why))

-- whether what was spelled of a type of the one schema can be read of a type of the other
abbrev pub TellsCompat : (t u : Tables) (kind other : TypeRef) → Answer → Type 0
TellsCompat t u kind other answer = (verdict : CompatVerdict) × IsCompatVerdict t u kind other verdict × (answer ≡ compared t verdict)

-- `compat OLD NEW TYPE`: the same of the type that the word names in each of the two files
abbrev pub ComparesFiles : Option Files → (old new word : Word) → Answer → Type 0
ComparesFiles files old new word answer =
    WithSchema files old answer (λ t.
    WithSchema files new answer (λ u.
    WithType t word answer (λ kind.
    WithType u word answer (λ other.
    TellsCompat t u kind other answer))))

-- `drill`: the line on the graph that is drawn, or the length of its first encapsulation that is above the limit
abbrev pub Drills : (start count : ℕ) → Answer → Type 0
Drills start count answer =
    (CanBeRelayed drill_tables one_node (drawn start count) × (answer ≡ done (drill_line start count)))
    ⊎ ((n : ℕ) × IsTooLong drill_tables one_node (drawn start count) n × (answer ≡ too_long n))

-- the lines of the messages, and where a fault follows them a refusal
abbrev pub told : List ℕ → Option Fault → Answer
told lines None = done lines
told lines (Some fault) = refused_after lines fault

-- `messages`: a line for each message of the input, up to its end or its first fault, where the source tells it
abbrev pub TellsMessages : Option (List ℕ) → Answer → Type 0
TellsMessages input answer = (lines : List ℕ) × (end : Option Fault) × IfSome input (λ known. IsDump known lines end) × (answer ≡ told lines end)

-- what a command comes to, and words that are none
abbrev pub Decides : Option Command → Option Files → Option (List ℕ) → Answer → Type 0
Decides (Some (values task file word)) files input answer = DoesTask task files input file word answer
Decides (Some (check file)) files input answer = Checks files file answer
Decides (Some (proxy text)) files input answer = answer ≡ read_text (proxy_text text)
Decides (Some (audit client server)) files input answer = Audits files client server answer
Decides (Some (compat old new word)) files input answer = ComparesFiles files old new word answer
Decides (Some (drill start count)) files input answer = Drills start count answer
Decides (Some messages) files input answer = TellsMessages input answer
Decides (Some (help page)) files input answer = answer ≡ done (page_text page)
Decides (Some version) files input answer = answer ≡ done VERSION.now
Decides None files input answer = answer ≡ usage

-- what the words come to, with these files and this input
abbrev pub Decided : List Word → Files → List ℕ → Answer → Type 0
Decided words files input answer = (asked : Option Command)
    × Asks words asked × Decides asked (Some files) (Some input) answer
