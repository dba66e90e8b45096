-- Which proxies have a text that can note them.
use Rattle.std.specs.Prelude.{◌<◌, ◌^◌, length, Option, None, Some}
use Rattle.ice_types.specs.declared.proxy.Proxy.{Proxy}
use Rattle.ice_encoding.specs.Tree.{Tree, boolean, byte, short, int, long, text, sequence, dictionary, struct, enumerator, proxy, reference, Everywhere}
use Rattle.ice_proxy.specs.Printed.{printed_proxy}

-- the printed text is shorter than 1,073,741,824 bytes
abbrev pub HasShortText : Option Proxy → Type 0
HasShortText None = Unit {0}
HasShortText (Some p) = length (printed_proxy p) < 2 ^ 30

-- the printed text of a proxy is short enough; nothing is asked of another value
abbrev pub IsShort : Tree → Type 0
IsShort (boolean b) = Unit {0}
IsShort (byte n) = Unit {0}
IsShort (short z) = Unit {0}
IsShort (int z) = Unit {0}
IsShort (long z) = Unit {0}
IsShort (text s) = Unit {0}
IsShort (sequence items) = Unit {0}
IsShort (dictionary pairs) = Unit {0}
IsShort (struct members) = Unit {0}
IsShort (enumerator n) = Unit {0}
IsShort (proxy p) = HasShortText p
IsShort (reference n) = Unit {0}

-- so is that of each proxy in the value
abbrev pub HasShortTexts : Tree → Type 0
HasShortTexts v = Everywhere IsShort v
