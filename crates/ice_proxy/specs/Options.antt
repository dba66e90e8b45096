-- The options of a proxy and of an endpoint of TCP: each stands once at most. (Ice manual, "Proxy and Endpoint Syntax".)
use Rattle.std.specs.Prelude.{ℕ, zero, suc, Bool, true, false, List, [], ◌∷◌, length, Option, None, Some, Ok, Err, codes, if◌then◌else◌}
use Rattle.std.specs.Option.{is_some}
use Rattle.std.specs.Str.{bytes_eq}
use Rattle.ice_prims.specs.Rest.{Rest}
use Rattle.ice_proxy.specs.Escapes.{text_of}
use Rattle.ice_proxy.specs.declared.options.Options.{Options}
use Rattle.ice_proxy.specs.declared.options.Flag.{Flag}
use Rattle.ice_proxy.specs.declared.options.Flag.TheVariants as kinds
use Rattle.ice_proxy.specs.declared.tcp.TcpOptions.{TcpOptions}
use Rattle.ice_proxy.specs.declared.tcp.TcpFlag.{TcpFlag}
use Rattle.ice_proxy.specs.declared.tcp.TcpFlag.TheVariants as tcp_kinds
use Rattle.ice_proxy.specs.Looking.{Parsed, ◌>>=◌, word_ahead, word_as}
use Rattle.ice_proxy.specs.Numbers.{number, timeout, version}

-- the meaning of a word in a table
abbrev pub listed : {A : Type 0} → List (List ℕ × A) → List ℕ → Option A
listed [] bytes = None
listed (row ∷ rows) bytes = if bytes_eq bytes row.0 then Some row.1 else listed rows bytes

-- ---- the options of a proxy

abbrev pub no_options : Options
no_options = record { facet = None; mode = None; secure = false; protocol = None; encoding = None }

-- the options of a proxy
abbrev pub flags : List (List ℕ × Flag)
flags = (codes "-f", kinds.Facet) ∷ (codes "-t", kinds.Mode 0) ∷ (codes "-o", kinds.Mode 1) ∷ (codes "-O", kinds.Mode 2) ∷ (codes "-d", kinds.Mode 3) ∷ (codes "-D", kinds.Mode 4)
    ∷ (codes "-s", kinds.Secure) ∷ (codes "-p", kinds.Protocol) ∷ (codes "-e", kinds.Encoding) ∷ []

-- it stands already; of the modes one alone may stand
abbrev pub is_given : Flag → Options → Bool
is_given kinds.Facet o = is_some o.facet
is_given (kinds.Mode n) o = is_some o.mode
is_given kinds.Secure o = o.secure
is_given kinds.Protocol o = is_some o.protocol
is_given kinds.Encoding o = is_some o.encoding

-- with what follows it
abbrev pub with_flag : Flag → Options → Rest → Parsed (Options × Rest)
with_flag kinds.Facet o r = word_as text_of r >>= λ x. Ok (record o { facet = Some x.0 }, x.1)
with_flag (kinds.Mode n) o r = Ok (record o { mode = Some n }, r)
with_flag kinds.Secure o r = Ok (record o { secure = true }, r)
with_flag kinds.Protocol o r = word_as version r >>= λ x. Ok (record o { protocol = Some x.0 }, x.1)
with_flag kinds.Encoding o r = word_as version r >>= λ x. Ok (record o { encoding = Some x.0 }, x.1)

-- ---- options of any sort, as many as stand

module _ {O F : Type 0} (rows : List (List ℕ × F)) (given : F → O → Bool) (taken : F → O → Rest → Parsed (O × Rest)) where
  -- a word that is no option, or one that stands already, is refused
  abbrev pub option_of : Option F → ℕ → O → Rest → Parsed (O × Rest)
  option_of None place o r = Err place
  option_of (Some flag) place o r = if given flag o then Err place else taken flag o r

  -- up to what is no word
  abbrev pub option_from : (O → Rest → Parsed (O × Rest)) → O → Rest → Option (List ℕ × ℕ × Rest) → Parsed (O × Rest)
  option_from more o r None = Ok (o, r)
  option_from more o r (Some w) = option_of (listed rows w.0) w.1 o w.2 >>= λ x. more x.0 x.1

  -- Each has a byte at least, so there are fewer than this many steps.
  abbrev pub options_within : ℕ → O → Rest → Parsed (O × Rest)
  options_within zero o r = Err r.place
  options_within (suc steps) o r = option_from (options_within steps) o r (word_ahead r)

  -- options in any order, each once at most, and of the modes one alone
  abbrev pub options_at : O → Rest → Parsed (O × Rest)
  options_at none r = options_within (suc (length r.bytes)) none r

-- ---- the options of an endpoint of TCP

abbrev pub no_tcp_options : TcpOptions
no_tcp_options = record { host = None; port = None; timeout = None; compress = false }

-- the options of an endpoint of TCP
abbrev pub tcp_flags : List (List ℕ × TcpFlag)
tcp_flags = (codes "-h", tcp_kinds.Host) ∷ (codes "-p", tcp_kinds.Port) ∷ (codes "-t", tcp_kinds.Timeout) ∷ (codes "-z", tcp_kinds.Compress) ∷ []

abbrev pub is_tcp_given : TcpFlag → TcpOptions → Bool
is_tcp_given tcp_kinds.Host o = is_some o.host
is_tcp_given tcp_kinds.Port o = is_some o.port
is_tcp_given tcp_kinds.Timeout o = is_some o.timeout
is_tcp_given tcp_kinds.Compress o = o.compress

abbrev pub with_tcp_flag : TcpFlag → TcpOptions → Rest → Parsed (TcpOptions × Rest)
with_tcp_flag tcp_kinds.Host o r = word_as text_of r >>= λ x. Ok (record o { host = Some x.0 }, x.1)
with_tcp_flag tcp_kinds.Port o r = word_as (number 32) r >>= λ x. Ok (record o { port = Some x.0 }, x.1)
with_tcp_flag tcp_kinds.Timeout o r = word_as timeout r >>= λ x. Ok (record o { timeout = Some x.0 }, x.1)
with_tcp_flag tcp_kinds.Compress o r = Ok (record o { compress = true }, r)
