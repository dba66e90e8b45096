-- The pages of help.
use Rattle.std.specs.Prelude.{ℕ, List, [], ◌∷◌, codes}
use Rattle.node_commands.specs.declared.words.Page.{Page}
use Rattle.node_commands.specs.declared.words.Page.TheVariants as pages
use Rattle.node_commands.specs.declared.help.TheConstants.{HELP}
use Rattle.node_commands.specs.declared.pages.TheConstants.{RELAY, SAME, DUMP, ENCODE, CHECK, PROXY, CALL, SERVE, GATE, MESSAGES, AUDIT, COMPAT, DRILL}

-- what is written of it
abbrev pub page_text : Page → List ℕ
page_text pages.All = HELP.now
page_text pages.Relay = RELAY.now
page_text pages.Same = SAME.now
page_text pages.Dump = DUMP.now
page_text pages.Encode = ENCODE.now
page_text pages.Check = CHECK.now
page_text pages.Proxy = PROXY.now
page_text pages.Call = CALL.now
page_text pages.Serve = SERVE.now
page_text pages.Gate = GATE.now
page_text pages.Messages = MESSAGES.now
page_text pages.Audit = AUDIT.now
page_text pages.Compat = COMPAT.now
page_text pages.Drill = DRILL.now
