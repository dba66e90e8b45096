-- The line that tells a message.
use Rattle.std.specs.Prelude.{ℕ, ◌-◌, List, [], ◌∷◌, ◌++◌, length, codes}
use Rattle.std.specs.Fmt.{decimal, signed_decimal}
use Rattle.ice_messages.specs.declared.message.Call.{Call}
use Rattle.ice_messages.specs.declared.message.Message.{Message}
use Rattle.ice_messages.specs.declared.message.Message.TheVariants.{Request, Batch, Reply, Validate, Close}
use Rattle.ice_messages.specs.Calls.{status_of}
use Rattle.ice_proxy.specs.PrintedWords.{in_quotes, quoted_text, identity_escapes}
use Rattle.message_dump.specs.declared.lines.TheConstants.{BEFORE_REPLY_BODY}

-- one after the other, with a blank between
infixr 20 ◌&◌
abbrev pub ◌&◌ : List ℕ → List ℕ → List ℕ
a & b = a ++ 32 ∷ b

-- identity, facet and operation in quotes, mode, entries of the context, bytes of the arguments
abbrev pub call_words : Call → List ℕ
call_words c = in_quotes (identity_escapes c.identity) & (quoted_text c.facet & (quoted_text c.operation & (decimal c.mode & (decimal (length c.context) & decimal (length c.body)))))

-- of a message of so many bytes; of a reply, the bytes behind the status are counted
abbrev pub message_words : ℕ → Message → List ℕ
message_words n (Request id c) = codes "request" & (signed_decimal id & call_words c)
message_words n (Batch calls) = codes "batch" & decimal (length calls)
message_words n (Reply id a) = codes "reply" & (signed_decimal id & (decimal (status_of a) & decimal (n - BEFORE_REPLY_BODY)))
message_words n Validate = codes "validate"
message_words n Close = codes "close"

-- the line that tells a message of so many bytes
abbrev pub message_line : ℕ → Message → List ℕ
message_line n m = message_words n m ++ 10 ∷ []
