use Rattle.std.proofs.Common.{◌≡◌, ◌++◌, string_bytes}
use Rattle.std.specs.Str.{encode_utf8_all}
use Rattle.ice_proxy.specs.PrintedWords.{escapes}
use Rattle.ice_proxy.proofs.printing.push_escapes.Given as goal

abbrev pub invariant-loop-character : goal.invariant-loop-character
invariant-loop-character l = string_bytes l.out ≡ string_bytes l.initial.out ++ escapes (encode_utf8_all l.yielded)
