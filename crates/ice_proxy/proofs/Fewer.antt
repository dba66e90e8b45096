-- An option that is taken leaves no more bytes.
use Rattle.std.proofs.Common.{◌≡◌, ℕ, zero, suc, ◌<◌, ◌≤◌, Bool, true, false, List, length, Option, None, Some, Ok, Err, refl, ap, arith, codes, ℤ}
use Rattle.std.specs.Prelude.{if◌then◌else◌}
use Rattle.std.specs.Str.{bytes_eq}
use Rattle.ice_types.specs.declared.proxy.Endpoint.{Endpoint}
use Rattle.ice_types.specs.declared.proxy.Endpoint.TheVariants.{Opaque}
use Rattle.ice_prims.specs.Rest.{Rest}
use Rattle.ice_proxy.specs.Escapes.{text_of}
use Rattle.ice_proxy.specs.declared.options.Options.{Options}
use Rattle.ice_proxy.specs.declared.options.Flag.{Flag}
use Rattle.ice_proxy.specs.declared.options.Flag.TheVariants as kinds
use Rattle.ice_proxy.specs.declared.tcp.TcpOptions.{TcpOptions}
use Rattle.ice_proxy.specs.declared.tcp.TcpFlag.{TcpFlag}
use Rattle.ice_proxy.specs.declared.tcp.TcpFlag.TheVariants as tcp_kinds
use Rattle.ice_proxy.specs.declared.endpoints.Transport.{Transport}
use Rattle.ice_proxy.specs.declared.endpoints.Transport.TheVariants as transport_kinds
use Rattle.ice_proxy.specs.Numbers.{number, timeout, version, hexadecimal}
use Rattle.ice_proxy.specs.Looking.{Parsed, ◌>>=◌, place_at, word_ahead, word_as}
use Rattle.ice_proxy.specs.Options.{listed, option_of, option_from, options_within, options_at, flags, is_given, with_flag, no_tcp_options, tcp_flags, is_tcp_given, with_tcp_flag}
use Rattle.ice_proxy.specs.Grammar.{tcp_of, exactly, not_tcp, opaque_at, transports, endpoint_by, endpoint_at}
use Rattle.ice_proxy.proofs.Progress.{ok_is, meant_fewer, ahead_fewer}

abbrev pair_answer : {O : Type 0} → O → Rest → Parsed (O × Rest)
pair_answer o r = Ok (o, r)

module _ {A O : Type 0} (meaning : List ℕ → Option A) (with : A → O) (s t : Rest) (last : O) where
  worded : (word_as meaning s >>= λ x. pair_answer (with x.0) x.1) ≡ Ok (last, t) → length t.bytes ≤ length s.bytes
  worded e = by (word_as meaning s) refl e
    where
      by : (w : Parsed (A × Rest)) → word_as meaning s ≡ w → (w >>= λ x. pair_answer (with x.0) x.1) ≡ Ok (last, t) → length t.bytes ≤ length s.bytes
      by (Ok w) is e =
          let same : w.1 ≡ t = ap (λ (x : O × Rest). x.1) (ok_is _ _ e) in
          let fewer : length w.1.bytes < length s.bytes = meant_fewer meaning s w.1 w.0 is in
          rw (← same) (omega (arith, fewer))
      by (Err place) is e = absurd cc

unchanged : {O : Type 0} (o last : O) (s t : Rest) → pair_answer o s ≡ Ok (last, t) → length t.bytes ≤ length s.bytes
unchanged {O} o last s t e = let same : s ≡ t = ap (λ (x : O × Rest). x.1) (ok_is _ _ e) in rw same (omega arith)

flag_fewer : (flag : Flag) (o last : Options) (s t : Rest) → with_flag flag o s ≡ Ok (last, t) → length t.bytes ≤ length s.bytes
flag_fewer kinds.Facet o last s t e = worded text_of (λ x. record o { facet = Some x }) s t last e
flag_fewer (kinds.Mode n) o last s t e = unchanged (record o { mode = Some n }) last s t e
flag_fewer kinds.Secure o last s t e = unchanged (record o { secure = true }) last s t e
flag_fewer kinds.Protocol o last s t e = worded version (λ x. record o { protocol = Some x }) s t last e
flag_fewer kinds.Encoding o last s t e = worded version (λ x. record o { encoding = Some x }) s t last e

tcp_flag_fewer : (flag : TcpFlag) (o last : TcpOptions) (s t : Rest) → with_tcp_flag flag o s ≡ Ok (last, t) → length t.bytes ≤ length s.bytes
tcp_flag_fewer tcp_kinds.Host o last s t e = worded text_of (λ x. record o { host = Some x }) s t last e
tcp_flag_fewer tcp_kinds.Port o last s t e = worded (number 32) (λ x. record o { port = Some x }) s t last e
tcp_flag_fewer tcp_kinds.Timeout o last s t e = worded timeout (λ x. record o { timeout = Some x }) s t last e
tcp_flag_fewer tcp_kinds.Compress o last s t e = unchanged (record o { compress = true }) last s t e

module _ {O F : Type 0} (rows : List (List ℕ × F)) (given : F → O → Bool) (taken : F → O → Rest → Parsed (O × Rest)) (taken_fewer : (flag : F) (o last : O) (s t : Rest) → taken flag o s ≡ Ok (last, t) → length t.bytes ≤ length s.bytes) where
  by_flag : (found : Option F) (place : ℕ) (o last : O) (s t : Rest) → option_of rows given taken found place o s ≡ Ok (last, t) → length t.bytes ≤ length s.bytes
  by_flag None place o last s t e = absurd cc
  by_flag (Some flag) place o last s t e = by (given flag o) e
    where
      by : (b : Bool) → (if b then Err place else taken flag o s) ≡ Ok (last, t) → length t.bytes ≤ length s.bytes
      by true e = absurd cc
      by false e = taken_fewer flag o last s t e

pub option_fewer : (found : Option Flag) (place : ℕ) (o last : Options) (s t : Rest) → option_of flags is_given with_flag found place o s ≡ Ok (last, t) → length t.bytes ≤ length s.bytes
option_fewer = by_flag flags is_given with_flag flag_fewer

pub tcp_option_fewer : (found : Option TcpFlag) (place : ℕ) (o last : TcpOptions) (s t : Rest) → option_of tcp_flags is_tcp_given with_tcp_flag found place o s ≡ Ok (last, t) → length t.bytes ≤ length s.bytes
tcp_option_fewer = by_flag tcp_flags is_tcp_given with_tcp_flag tcp_flag_fewer

-- ---- endpoints

-- what is read with this leaves no more bytes
pub record Advances {A : Type 0} (read : Rest → Parsed (A × Rest)) : Type 0 where
  pub fewer : (r t : Rest) (x : A) → read r ≡ Ok (x, t) → length t.bytes ≤ length r.bytes

word_advances : {A : Type 0} (meaning : List ℕ → Option A) → Advances (word_as meaning)
word_advances meaning = record { fewer = λ r t x e. let h = meant_fewer meaning r t x e in omega (arith, h) }

then_advances : {A B : Type 0} (first : Rest → Parsed (A × Rest)) (second : A → Rest → Parsed (B × Rest)) → Advances first → ((x : A) → Advances (second x)) → Advances (λ r. first r >>= λ x. second x.0 x.1)
then_advances {A} {B} first second p q = record { fewer = all }
  where
    by : (r t : Rest) (y : B) (w : Parsed (A × Rest)) → first r ≡ w → (w >>= λ x. second x.0 x.1) ≡ Ok (y, t) → length t.bytes ≤ length r.bytes
    by r t y (Ok x) is e = let a = p.fewer r x.1 x.0 is in let b = (q x.0).fewer x.1 t y e in omega (arith, a, b)
    by r t y (Err place) is e = absurd cc

    all : (r t : Rest) (y : B) → (first r >>= λ x. second x.0 x.1) ≡ Ok (y, t) → length t.bytes ≤ length r.bytes
    all r t y e = by r t y (first r) refl e

made_advances : {A B : Type 0} (first : Rest → Parsed (A × Rest)) (make : A → B) → Advances first → Advances (λ r. first r >>= λ x. pair_answer (make x.0) x.1)
made_advances first make p = then_advances first (λ x r. pair_answer (make x) r) p (λ x. record { fewer = λ r t y e. unchanged (make x) y r t e })

module _ {O F : Type 0} (rows : List (List ℕ × F)) (given : F → O → Bool) (taken : F → O → Rest → Parsed (O × Rest)) (taken_fewer : (flag : F) (o last : O) (s t : Rest) → taken flag o s ≡ Ok (last, t) → length t.bytes ≤ length s.bytes) where
  -- what is read in so many steps leaves no more bytes
  abbrev Within : ℕ → Type 0
  Within steps = (o last : O) (r t : Rest) → options_within rows given taken steps o r ≡ Ok (last, t) → length t.bytes ≤ length r.bytes

  option_then : (steps : ℕ) → Within steps → (found : Option F) (place : ℕ) (o last : O) (s t : Rest) → (option_of rows given taken found place o s >>= λ x. options_within rows given taken steps x.0 x.1) ≡ Ok (last, t) → length t.bytes ≤ length s.bytes
  option_then steps more found place o last s t e = by (option_of rows given taken found place o s) refl e
    where
      by : (w : Parsed (O × Rest)) → option_of rows given taken found place o s ≡ w → (w >>= λ x. options_within rows given taken steps x.0 x.1) ≡ Ok (last, t) → length t.bytes ≤ length s.bytes
      by (Ok x) is e =
          let a = by_flag rows given taken taken_fewer found place o x.0 s x.1 is in
          let b = more x.0 last x.1 t e in
          omega (arith, a, b)
      by (Err broken) is e = absurd cc

  steps_fewer : (steps : ℕ) → Within steps
  steps_fewer zero o last r t e = absurd cc
  steps_fewer (suc steps) o last r t e = by (word_ahead r) refl (steps_fewer steps) e
    where
      by : (w : Option (List ℕ × ℕ × Rest)) → word_ahead r ≡ w → Within steps → option_from rows given taken (options_within rows given taken steps) o r w ≡ Ok (last, t) → length t.bytes ≤ length r.bytes
      by None is more e = unchanged o last r t e
      by (Some w) is more e =
          let a = ahead_fewer r w.2 w.0 w.1 is in
          let b = option_then steps more (listed rows w.0) w.1 o last w.2 t e in
          omega (arith, a, b)

  options_advance : (o : O) → Advances (λ r. options_at rows given taken o r)
  options_advance o = record { fewer = λ r t last e. steps_fewer (suc (length r.bytes)) o last r t e }

tcp_advances : Advances (endpoint_by transport_kinds.Tcp)
tcp_advances = made_advances (λ r. options_at tcp_flags is_tcp_given with_tcp_flag no_tcp_options r) tcp_of (options_advance tcp_flags is_tcp_given with_tcp_flag tcp_flag_fewer no_tcp_options)

exactly_advances : (known : List ℕ) → Advances (exactly known)
exactly_advances known = word_advances (λ bytes. if bytes_eq bytes known then Some tt else None)

-- the parts of another transport, from the last on
abbrev content_at : ℤ → ℕ × ℕ → Rest → Parsed (Endpoint × Rest)
content_at kind v r = word_as hexadecimal r >>= λ content. pair_answer (Opaque kind v.0 v.1 content.0) content.1

abbrev marked_at : ℤ → ℕ × ℕ → Rest → Parsed (Endpoint × Rest)
marked_at kind v r = exactly (codes "-x") r >>= λ x. content_at kind v x.1

abbrev tested_at : ℕ → ℤ → ℕ × ℕ → Rest → Parsed (Endpoint × Rest)
tested_at place kind v r = not_tcp place kind v >>= λ other. marked_at kind v r

abbrev versioned_at : ℕ → ℤ → Rest → Parsed (Endpoint × Rest)
versioned_at place kind r = word_as version r >>= λ v. tested_at place kind v.0 v.1

abbrev parted_at : ℕ → ℤ → Rest → Parsed (Endpoint × Rest)
parted_at place kind r = exactly (codes "-e") r >>= λ e. versioned_at place kind e.1

abbrev kind_at : Rest → Parsed (Endpoint × Rest)
kind_at r = word_as (number 16) r >>= λ kind. parted_at (place_at r) kind.0 kind.1

content_advances : (kind : ℤ) (v : ℕ × ℕ) → Advances (content_at kind v)
content_advances kind v = made_advances (word_as hexadecimal) (λ content. Opaque kind v.0 v.1 content) (word_advances hexadecimal)

marked_advances : (kind : ℤ) (v : ℕ × ℕ) → Advances (marked_at kind v)
marked_advances kind v = then_advances (exactly (codes "-x")) (λ x. content_at kind v) (exactly_advances (codes "-x")) (λ x. content_advances kind v)

tested_advances : (place : ℕ) (kind : ℤ) (v : ℕ × ℕ) → Advances (tested_at place kind v)
tested_advances place kind v = record { fewer = λ r t e is. by (not_tcp place kind v) r t e is }
  where
    by : (w : Parsed (Unit {0})) (r t : Rest) (e : Endpoint) → (w >>= λ other. marked_at kind v r) ≡ Ok (e, t) → length t.bytes ≤ length r.bytes
    by (Ok x) r t e is = (marked_advances kind v).fewer r t e is
    by (Err broken) r t e is = absurd cc

versioned_advances : (place : ℕ) (kind : ℤ) → Advances (versioned_at place kind)
versioned_advances place kind = then_advances (word_as version) (tested_at place kind) (word_advances version) (λ v. tested_advances place kind v)

parted_advances : (place : ℕ) (kind : ℤ) → Advances (parted_at place kind)
parted_advances place kind = then_advances (exactly (codes "-e")) (λ e. versioned_at place kind) (exactly_advances (codes "-e")) (λ e. versioned_advances place kind)

kind_advances : Advances kind_at
kind_advances = record { fewer = λ r t e is. (then_advances (word_as (number 16)) (parted_at (place_at r)) (word_advances (number 16)) (λ kind. parted_advances (place_at r) kind)).fewer r t e is }

opaque_advances : Advances opaque_at
opaque_advances = then_advances (exactly (codes "-t")) (λ t. kind_at) (exactly_advances (codes "-t")) (λ t. kind_advances)

transport_advances : (t : Transport) → Advances (endpoint_by t)
transport_advances transport_kinds.Tcp = tcp_advances
transport_advances transport_kinds.Opaque = opaque_advances

pub endpoint_advances : Advances endpoint_at
endpoint_advances = then_advances (word_as (listed transports)) endpoint_by (word_advances (listed transports)) transport_advances
