use Rattle.std.proofs.Common.{◌≡◌, ◌++◌, string_bytes}
use Rattle.std.specs.List.{flat_map}
use Rattle.std.specs.Str.{encode_utf8_all}
use Rattle.ice_proxy.specs.PrintedWords.{escape_in_identity}
use Rattle.ice_proxy.proofs.printing.push_name_escapes.Given as goal

abbrev pub invariant-loop-character : goal.invariant-loop-character
invariant-loop-character l = string_bytes l.out ≡ string_bytes l.initial.out ++ flat_map escape_in_identity (encode_utf8_all l.yielded)
