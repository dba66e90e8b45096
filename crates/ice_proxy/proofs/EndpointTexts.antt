-- Endpoints are read as they are printed.
use Rattle.std.proofs.Common.{◌≡◌, ℕ, ℤ, pos, negsuc, zero, suc, ◌+◌, ◌<◌, ◌&&◌, Bool, true, false, List, [], ◌∷◌, ◌++◌, length, Option, None, Some, Ok, Err, refl, ◌∙◌, ap, arith, codes, eqb, length-append}
use Rattle.std.specs.Prelude.{FitsSigned, if◌then◌else◌}
use Rattle.std.specs.Str.{bytes_eq}
use Rattle.std.specs.Int.{w32}
use Rattle.std.specs.Str.{IsUtf8}
use Rattle.std.specs.Fmt.{signed_decimal}
use Rattle.std.proofs.lemmas.Bool.{eqb-true, and_parts}
use Rattle.ice_prims.specs.Rest.{Rest, Took}
use Rattle.ice_types.specs.declared.proxy.Endpoint.{Endpoint}
use Rattle.ice_types.specs.declared.proxy.Endpoint.TheVariants.{Tcp, Opaque}
use Rattle.ice_proxy.specs.Escapes.{text_of}
use Rattle.ice_proxy.specs.PrintedWords.{printed_text}
use Rattle.ice_proxy.specs.Laws.{EndsWord, IsWord}
use Rattle.ice_proxy.proofs.StandingWords.{texts_stand}
use Rattle.ice_proxy.proofs.Readings.{texts_read}
use Rattle.ice_proxy.specs.Numbers.{number, timeout, version, hexadecimal, printed_timeout, printed_version, printed_bytes}
use Rattle.ice_proxy.specs.declared.tcp.TcpOptions.{TcpOptions}
use Rattle.ice_proxy.specs.declared.tcp.TcpFlag.TheVariants as tcp_kinds
use Rattle.ice_proxy.specs.declared.endpoints.Transport.{Transport}
use Rattle.ice_proxy.specs.declared.endpoints.Transport.TheVariants as transport_kinds
use Rattle.ice_proxy.specs.Looking.{Parsed, ◌>>=◌, place_at, word_ahead, word_as}
use Rattle.ice_proxy.specs.Options.{listed, no_tcp_options, tcp_flags, is_tcp_given, with_tcp_flag}
use Rattle.ice_proxy.specs.Grammar.{or, tcp_of, exactly, not_tcp, opaque_at, transports, endpoint_by, endpoint_at, endpoints_from, endpoints_within, endpoints_at}
use Rattle.ice_proxy.specs.Printed.{unless_empty, when, printed_tcp, printed_opaque, printed_endpoint, printed_endpoints, HasEndpointText, HaveEndpointTexts}
use Rattle.ice_proxy.proofs.ReadBack.{short_read, int_read, timeout_read, version_read, bytes_read}
use Rattle.ice_proxy.proofs.Standing.{plain_word, signed_stands, timeout_stands, version_stands, bytes_stand}
use Rattle.ice_proxy.proofs.Parts.{Part, no_part, both_parts, lone_part, word_part, stops, colon_stands, end_stands, read_as, between, took_first, took_last}
use Rattle.ice_proxy.proofs.OptionTexts.{given_text}

-- ---- the options of an endpoint of TCP

abbrev TcpPart : List ℕ → TcpOptions → TcpOptions → Type 0
TcpPart bytes o last = Part tcp_flags is_tcp_given with_tcp_flag bytes o last

both : (a b : List ℕ) (o m last : TcpOptions) → TcpPart a o m → TcpPart b m last → TcpPart (a ++ b) o last
both = both_parts tcp_flags is_tcp_given with_tcp_flag

abbrev with_host : Option (List ℕ) → TcpOptions
with_host host = record { host = host; port = None; timeout = None; compress = false }

abbrev with_port : Option (List ℕ) → ℤ → TcpOptions
with_port host port = record { host = host; port = Some port; timeout = None; compress = false }

abbrev with_timeout : Option (List ℕ) → ℤ → ℤ → TcpOptions
with_timeout host port time = record { host = host; port = Some port; timeout = Some time; compress = false }

host_part : (text : List ℕ) → IsUtf8 text → TcpPart (unless_empty (codes " -h ") text) no_tcp_options (with_host (given_text text))
host_part [] utf8 = no_part tcp_flags is_tcp_given with_tcp_flag no_tcp_options
host_part (c ∷ cs) utf8 = word_part tcp_flags is_tcp_given with_tcp_flag text_of (codes "-h") (printed_text (c ∷ cs)) (c ∷ cs) no_tcp_options (λ x. with_host (Some x)) tcp_kinds.Host
    (plain_word (codes "-h") (omega arith) refl) refl refl (λ s. refl) (texts_read (c ∷ cs) utf8) (texts_stand (c ∷ cs))

port_part : (host : Option (List ℕ)) (z : ℤ) → FitsSigned w32 z → TcpPart (codes " -p " ++ signed_decimal z) (with_host host) (with_port host z)
port_part host z fit = word_part tcp_flags is_tcp_given with_tcp_flag (number 32) (codes "-p") (signed_decimal z) z (with_host host) (with_port host) tcp_kinds.Port
    (plain_word (codes "-p") (omega arith) refl) refl refl (λ s. refl) (int_read z fit) (signed_stands z (omega (arith, fit.sfits)))

timeout_part : (host : Option (List ℕ)) (port z : ℤ) → FitsSigned w32 z → TcpPart (codes " -t " ++ printed_timeout z) (with_port host port) (with_timeout host port z)
timeout_part host port z fit = word_part tcp_flags is_tcp_given with_tcp_flag timeout (codes "-t") (printed_timeout z) z (with_port host port) (with_timeout host port) tcp_kinds.Timeout
    (plain_word (codes "-t") (omega arith) refl) refl refl (λ s. refl) (timeout_read z fit) (timeout_stands z (omega (arith, fit.sfits)))

compress_part : (host : Option (List ℕ)) (port time : ℤ) (compress : Bool) → TcpPart (when compress (codes " -z")) (with_timeout host port time) (record (with_timeout host port time) { compress = compress })
compress_part host port time false = no_part tcp_flags is_tcp_given with_tcp_flag (with_timeout host port time)
compress_part host port time true = lone_part tcp_flags is_tcp_given with_tcp_flag (with_timeout host port time) (record (with_timeout host port time) { compress = true }) (codes "-z") tcp_kinds.Compress
    (plain_word (codes "-z") (omega arith) refl) refl refl (λ s. refl)

tcp_part : (host : List ℕ) (port time : ℤ) (compress : Bool) → IsUtf8 host → FitsSigned w32 port → FitsSigned w32 time
    → TcpPart (printed_tcp host port time compress) no_tcp_options (record (with_timeout (given_text host) port time) { compress = compress })
tcp_part host port time compress utf8 port_fit time_fit =
    let h = given_text host in
    let all : TcpOptions = record (with_timeout h port time) { compress = compress } in
    both (unless_empty (codes " -h ") host) _ no_tcp_options (with_host h) all (host_part host utf8)
    (both (codes " -p " ++ signed_decimal port) _ (with_host h) (with_port h port) all (port_part h port port_fit)
    (both (codes " -t " ++ printed_timeout time) _ (with_port h port) (with_timeout h port time) all (timeout_part h port time time_fit)
    (compress_part h port time compress)))

pub or_text : (text : List ℕ) → or (given_text text) [] ≡ text
or_text [] = refl
or_text (c ∷ cs) = refl

-- ---- another transport

exactly_read : (known : List ℕ) (r s : Rest) → bytes_eq known known ≡ true → IsWord known → Took r (32 ∷ known) s → EndsWord s.bytes → exactly known r ≡ Ok (tt, s)
exactly_read known r s same is took ends = read_as (λ bytes. if bytes_eq bytes known then Some tt else None) (32 ∷ []) known tt r s (rw same refl) refl is took ends

opaque_steps : (r : Rest) (t e x : Unit {0} × Rest) (kind : ℤ × Rest) (v : (ℕ × ℕ) × Rest) (content : List ℕ × Rest) → exactly (codes "-t") r ≡ Ok t → word_as (number 16) t.1 ≡ Ok kind → exactly (codes "-e") kind.1 ≡ Ok e
    → word_as version e.1 ≡ Ok v → not_tcp (place_at t.1) kind.0 v.0 ≡ Ok tt → exactly (codes "-x") v.1 ≡ Ok x → word_as hexadecimal x.1 ≡ Ok content → opaque_at r ≡ Ok (Opaque kind.0 v.0.0 v.0.1 content.0, content.1)
opaque_steps r t e x kind v content a b c d f g h = rw (a, b, c, d, f, g, h) refl

abbrev other_or_not : ℕ → Bool → Parsed (Unit {0})
other_or_not place b = if b then Err place else Ok tt

another : (place : ℕ) (kind : ℤ) (v : ℕ × ℕ) → ((kind ≡ pos 1) × (v.0 ≡ 1) × (v.1 ≡ 1) → ⊥) → not_tcp place kind v ≡ Ok tt
another place (negsuc n) v other = refl
another place (pos n) v other = by (eqb n 1 && (eqb v.0 1 && eqb v.1 1)) refl
  where
    by : (b : Bool) → (eqb n 1 && (eqb v.0 1 && eqb v.1 1)) ≡ b → other_or_not place b ≡ Ok tt
    by false e = refl
    by true e =
        let both_are = and_parts (eqb n 1) (eqb v.0 1 && eqb v.1 1) e in
        let versions = and_parts (eqb v.0 1) (eqb v.1 1) both_are.1 in
        absurd (other (ap pos (eqb-true n 1 both_are.0), eqb-true v.0 1 versions.0, eqb-true v.1 1 versions.1))

opaque_read : (kind : ℤ) (v : ℕ × ℕ) (bytes : List ℕ) (r s : Rest) → HasEndpointText (Opaque kind v.0 v.1 bytes) → Took r (printed_opaque kind v bytes) s → EndsWord s.bytes → opaque_at r ≡ Ok (Opaque kind v.0 v.1 bytes, s)
opaque_read kind v bytes r s has took ends =
    let k = 32 ∷ signed_decimal kind in
    let w = 32 ∷ printed_version v in
    let b = 32 ∷ printed_bytes bytes in
    let x = codes " -x" ++ b in
    let e = codes " -e" ++ (w ++ x) in
    let r1 = between r (codes " -t") (k ++ e) s in
    let t1 : Took r1 (k ++ e) s = took_last r s (codes " -t") (k ++ e) took in
    let r2 = between r1 k e s in
    let t2 : Took r2 e s = took_last r1 s k e t1 in
    let r3 = between r2 (codes " -e") (w ++ x) s in
    let t3 : Took r3 (w ++ x) s = took_last r2 s (codes " -e") (w ++ x) t2 in
    let r4 = between r3 w x s in
    let t4 : Took r4 x s = took_last r3 s w x t3 in
    let r5 = between r4 (codes " -x") b s in
    let t5 : Took r5 b s = took_last r4 s (codes " -x") b t4 in
    opaque_steps r (tt, r1) (tt, r3) (tt, r5) (kind, r2) (v, r4) (bytes, s)
    (exactly_read (codes "-t") r r1 refl (plain_word (codes "-t") (omega arith) refl) (took_first r s (codes " -t") (k ++ e) took) refl)
    (read_as (number 16) (32 ∷ []) (signed_decimal kind) kind r1 r2 (short_read kind has.0) refl (signed_stands kind (omega (arith, has.0.sfits))) (took_first r1 s k e t1) refl)
    (exactly_read (codes "-e") r2 r3 refl (plain_word (codes "-e") (omega arith) refl) (took_first r2 s (codes " -e") (w ++ x) t2) refl)
    (read_as version (32 ∷ []) (printed_version v) v r3 r4 (version_read v has.1.0 has.1.1) refl (version_stands v has.1.0 has.1.1) (took_first r3 s w x t3) refl)
    (another (place_at r1) kind v has.3)
    (exactly_read (codes "-x") r4 r5 refl (plain_word (codes "-x") (omega arith) refl) (took_first r4 s (codes " -x") b t4) refl)
    (read_as hexadecimal (32 ∷ []) (printed_bytes bytes) bytes r5 s (bytes_read bytes has.2) refl (bytes_stand bytes has.2) t5 ends)

-- ---- an endpoint, and endpoints

transport_read : (name : List ℕ) (t : Transport) (r m : Rest) → IsWord name → listed transports name ≡ Some t → Took r name m → EndsWord m.bytes → endpoint_at r ≡ endpoint_by t m
transport_read name t r m is row took ends =
    let read : word_as (listed transports) r ≡ Ok (t, m) = read_as (listed transports) [] name t r m row refl is took ends in
    ap (λ p. p >>= λ x. endpoint_by x.0 x.1) read

abbrev made_endpoint : Endpoint → Rest → Parsed (Endpoint × Rest)
made_endpoint e s = Ok (e, s)

tcp_read : (host : List ℕ) (port time : ℤ) (compress : Bool) (r s : Rest) → HasEndpointText (Tcp host port time compress) → Took r (printed_tcp host port time compress) s → EndsWord s.bytes → word_ahead s ≡ None
    → endpoint_by transport_kinds.Tcp r ≡ Ok (Tcp host port time compress, s)
tcp_read host port time compress r s has took ends none =
    let last : TcpOptions = record (with_timeout (given_text host) port time) { compress = compress } in
    let part = tcp_part host port time compress has.0 has.1 has.2 in
    let come = part.part r s (Ok (last, s)) took ends (stops tcp_flags is_tcp_given with_tcp_flag last s none) in
    ap (λ p. p >>= λ o. Ok (tcp_of o.0, o.1)) (come.comes (suc (length r.bytes)) (omega arith)) ∙ ap (λ h. made_endpoint (Tcp h port time compress) s) (or_text host)

endpoint_read : (e : Endpoint) (r s : Rest) → HasEndpointText e → Took r (printed_endpoint e) s → EndsWord s.bytes → word_ahead s ≡ None → endpoint_at r ≡ Ok (e, s)
endpoint_read (Tcp host port time compress) r s has took ends none =
    let bytes = printed_tcp host port time compress in
    let front : EndsWord (bytes ++ s.bytes) = (tcp_part host port time compress has.0 has.1 has.2).front s.bytes ends in
    transport_read (codes "tcp") transport_kinds.Tcp r (between r (codes "tcp") bytes s) (plain_word (codes "tcp") (omega arith) refl) refl (took_first r s (codes "tcp") bytes took) front
    ∙ tcp_read host port time compress (between r (codes "tcp") bytes s) s has (took_last r s (codes "tcp") bytes took) ends none
endpoint_read (Opaque kind major minor content) r s has took ends none =
    let bytes = printed_opaque kind (major, minor) content in
    transport_read (codes "opaque") transport_kinds.Opaque r (between r (codes "opaque") bytes s) (plain_word (codes "opaque") (omega arith) refl) refl (took_first r s (codes "opaque") bytes took) refl
    ∙ opaque_read kind (major, minor) content (between r (codes "opaque") bytes s) s has (took_last r s (codes "opaque") bytes took) ends

-- nothing, or `:` at the front
abbrev pub Closes : List ℕ → Type 0
Closes [] = Unit {0}
Closes (c ∷ cs) = c ≡ 58

closed : (es : List Endpoint) → Closes (printed_endpoints es)
closed [] = tt
closed (e ∷ es) = refl

closes_end : (bytes : List ℕ) → Closes bytes → EndsWord bytes
closes_end [] h = tt
closes_end (c ∷ cs) h = rw h refl

closes_word : (s : Rest) → Closes s.bytes → word_ahead s ≡ None
closes_word s h = by s.bytes refl h
  where
    by : (bytes : List ℕ) → s.bytes ≡ bytes → Closes bytes → word_ahead s ≡ None
    by [] e h = (end_stands s e).no_word
    by (c ∷ cs) e h = (colon_stands s (record { place = s.place + 1; bytes = cs }) (record { parts = e ∙ ap (λ (x : ℕ). x ∷ cs) h; moved = refl })).no_word

endpoints_within_read : (es : List Endpoint) (r : Rest) (steps : ℕ) → HaveEndpointTexts es → r.bytes ≡ printed_endpoints es → length r.bytes < steps → endpoints_within steps r ≡ Ok es
endpoints_within_read es r zero has e lt = absurd (omega arith)
endpoints_within_read [] r (suc steps) has e lt = ap (λ c. c >>= endpoints_from (endpoints_within steps)) (end_stands r e).no_colon
endpoints_within_read (first ∷ es) r (suc steps) has e lt =
    let others = printed_endpoints es in
    let m : Rest = record { place = r.place + 1; bytes = printed_endpoint first ++ others } in
    let s : Rest = record { place = m.place + length (printed_endpoint first); bytes = others } in
    let start : Took r (58 ∷ []) m = record { parts = e; moved = refl } in
    let took : Took m (printed_endpoint first) s = record { parts = refl; moved = refl } in
    let read : endpoint_at m ≡ Ok (first, s) = endpoint_read first m s has.0 took (closes_end others (closed es)) (closes_word s (closed es)) in
    let fewer : length others < steps = omega (arith, ap length e, length-append (printed_endpoint first) others) in
    let more : endpoints_within steps s ≡ Ok es = endpoints_within_read es s steps has.1 refl fewer in
    ap (λ c. c >>= endpoints_from (endpoints_within steps)) (colon_stands r m start).colon
    ∙ ap (λ p. p >>= λ x. endpoints_within steps x.1 >>= λ xs. Ok (x.0 ∷ xs)) read
    ∙ ap (λ p. p >>= λ xs. Ok (first ∷ xs)) more

pub endpoints_read : (es : List Endpoint) (r : Rest) → HaveEndpointTexts es → r.bytes ≡ printed_endpoints es → endpoints_at r ≡ Ok es
endpoints_read es r has e = endpoints_within_read es r (suc (length r.bytes)) has e (omega arith)
