-- What a text is read as can be printed.
use Rattle.std.proofs.Common.{◌≡◌, ℕ, ℤ, pos, negsuc, zero, suc, ◌≤◌, Bool, true, false, List, [], ◌∷◌, length, Option, None, Some, Ok, Err, refl, subst, arith, codes, ◌⊎◌, inl, inr}
use Rattle.std.specs.Prelude.{if◌then◌else◌, FitsSigned}
use Rattle.std.specs.Int.{w16, w32}
use Rattle.std.specs.Str.{IsUtf8, bytes_eq}
use Rattle.std.proofs.lemmas.Str.{IsUtf8-nil}
use Rattle.ice_prims.specs.Rest.{Rest, IsBytes, whole}
use Rattle.ice_types.specs.declared.identity.Identity.{Identity}
use Rattle.ice_types.specs.declared.proxy.Endpoint.{Endpoint}
use Rattle.ice_types.specs.declared.proxy.Endpoint.TheVariants.{Opaque}
use Rattle.ice_types.specs.declared.proxy.Proxy.{Proxy}
use Rattle.ice_proxy.specs.Escapes.{text_of, identity_of}
use Rattle.ice_proxy.specs.declared.options.Options.{Options}
use Rattle.ice_proxy.specs.declared.options.Flag.{Flag}
use Rattle.ice_proxy.specs.declared.options.Flag.TheVariants as kinds
use Rattle.ice_proxy.specs.declared.tcp.TcpOptions.{TcpOptions}
use Rattle.ice_proxy.specs.declared.tcp.TcpFlag.{TcpFlag}
use Rattle.ice_proxy.specs.declared.tcp.TcpFlag.TheVariants as tcp_kinds
use Rattle.ice_proxy.specs.declared.endpoints.Transport.{Transport}
use Rattle.ice_proxy.specs.declared.endpoints.Transport.TheVariants as transport_kinds
use Rattle.ice_proxy.specs.Numbers.{number, timeout, version, hexadecimal}
use Rattle.ice_proxy.specs.Looking.{Parsed, ◌>>=◌, place_at, word_ahead, or_refused, word_at, word_as, at_ahead, colon_at, end_at}
use Rattle.ice_proxy.specs.Options.{listed, option_of, option_from, options_within, options_at, no_options, flags, is_given, with_flag, no_tcp_options, tcp_flags, is_tcp_given, with_tcp_flag}
use Rattle.ice_proxy.specs.Grammar.{or, tcp_of, exactly, not_tcp, opaque_at, transports, endpoint_by, endpoint_at, endpoints_from, endpoints_within, endpoints_at, location_from, location_at, proxy_of, proxy_text}
use Rattle.ice_proxy.specs.Printed.{IsVersion, HasEndpointText, HaveEndpointTexts, HasText}
use Rattle.ice_proxy.proofs.Progress.{answer, ok_is}
use Rattle.ice_proxy.proofs.WordsTyped.{HasName, text_typed, identity_typed, short_typed, int_typed, timeout_typed, version_typed, bytes_typed}

-- ---- what is read, where it has a sort

-- whatever it is, it is of this sort
pub record Gives {A : Type 0} (P : A → Type 0) (read : Parsed A) : Type 0 where
  pub gives : (x : A) → read ≡ Ok x → P x

gives_ok : {A : Type 0} (P : A → Type 0) (x : A) → P x → Gives P (answer x)
gives_ok {A} P x h = record { gives = λ y e. subst P (ok_is x y e) h }

gives_then : {A B : Type 0} (P : A → Type 0) (Q : B → Type 0) (read : Parsed A) (f : A → Parsed B) → Gives P read → ((x : A) → P x → Gives Q (f x)) → Gives Q (read >>= f)
gives_then {A} {B} P Q read f p q = record { gives = λ y e. by read p e }
  where
    by : (w : Parsed A) → Gives P w → {y : B} → (w >>= f) ≡ Ok y → Q y
    by (Ok x) g {y} e = (q x (g.gives x refl)).gives y e
    by (Err place) g e = absurd cc

gives_word : {A : Type 0} (P : A → Type 0) (meaning : List ℕ → Option A) (r : Rest) → ((bytes : List ℕ) (x : A) → meaning bytes ≡ Some x → P x) → Gives (λ x. P x.0) (word_as meaning r)
gives_word {A} P meaning r typed =
    gives_then (λ w. Unit {0}) (λ x. P x.0) (word_at r) (λ w. or_refused w.1 (meaning w.0) >>= λ x. Ok (x, w.2)) (record { gives = λ w e. tt }) λ w h.
    gives_then P (λ x. P x.0) (or_refused w.1 (meaning w.0)) (λ x. Ok (x, w.2)) (meant w.1 w.0) λ x p.
    gives_ok (λ x. P x.0) (x, w.2) p
  where
    meant : (place : ℕ) (bytes : List ℕ) → Gives P (or_refused place (meaning bytes))
    meant place bytes = by (meaning bytes) refl
      where
        by : (o : Option A) → meaning bytes ≡ o → Gives P (or_refused place o)
        by None is = record { gives = λ x e. absurd cc }
        by (Some y) is = gives_ok P y (typed bytes y is)

-- ---- options

abbrev Holds : {A : Type 0} → (A → Type 0) → Option A → Type 0
Holds P None = Unit {0}
Holds P (Some x) = P x

abbrev AllRows : {F : Type 0} → (F → Type 0) → List (List ℕ × F) → Type 0
AllRows P [] = Unit {0}
AllRows P (row ∷ rows) = P row.1 × AllRows P rows

listed_holds : {F : Type 0} (P : F → Type 0) (rows : List (List ℕ × F)) (bytes : List ℕ) → AllRows P rows → Holds P (listed rows bytes)
listed_holds P [] bytes all = tt
listed_holds P (row ∷ rows) bytes all = by (bytes_eq bytes row.0) (listed_holds P rows bytes all.1)
  where
    by : (b : Bool) → Holds P (listed rows bytes) → Holds P (if b then Some row.1 else listed rows bytes)
    by true others = all.0
    by false others = others

module _ {O F : Type 0} (rows : List (List ℕ × F)) (given : F → O → Bool) (taken : F → O → Rest → Parsed (O × Rest)) (P : F → Type 0) (Q : O → Type 0) (rows_fit : AllRows P rows)
    (keeps : (flag : F) (o : O) (r : Rest) → P flag → Q o → Gives (λ x. Q x.0) (taken flag o r)) where
  option_gives : (found : Option F) (place : ℕ) (o : O) (r : Rest) → Holds P found → Q o → Gives (λ x. Q x.0) (option_of rows given taken found place o r)
  option_gives None place o r h q = record { gives = λ x e. absurd cc }
  option_gives (Some flag) place o r h q = by (given flag o)
    where
      by : (b : Bool) → Gives (λ x. Q x.0) (if b then Err place else taken flag o r)
      by true = record { gives = λ x e. absurd cc }
      by false = keeps flag o r h q

  steps_give : (steps : ℕ) (o : O) (r : Rest) → Q o → Gives (λ x. Q x.0) (options_within rows given taken steps o r)
  steps_give zero o r q = record { gives = λ x e. absurd cc }
  steps_give (suc steps) o r q = by (word_ahead r) (steps_give steps)
    where
      by : (w : Option (List ℕ × ℕ × Rest)) → ((o : O) (r : Rest) → Q o → Gives (λ x. Q x.0) (options_within rows given taken steps o r)) → Gives (λ x. Q x.0) (option_from rows given taken (options_within rows given taken steps) o r w)
      by None more = gives_ok (λ x. Q x.0) (o, r) q
      by (Some w) more = gives_then (λ x. Q x.0) (λ x. Q x.0) (option_of rows given taken (listed rows w.0) w.1 o w.2) (λ x. options_within rows given taken steps x.0 x.1)
          (option_gives (listed rows w.0) w.1 o w.2 (listed_holds P rows w.0 rows_fit) q) (λ x kept. more x.0 x.1 kept)

abbrev pair_answer : {O : Type 0} → O → Rest → Parsed (O × Rest)
pair_answer o r = Ok (o, r)

-- an option with a word of this sort
taken_gives : {A O : Type 0} (P : A → Type 0) (Q : O → Type 0) (meaning : List ℕ → Option A) (with : A → O) (r : Rest) → ((bytes : List ℕ) (x : A) → meaning bytes ≡ Some x → P x) → ((x : A) → P x → Q (with x)) → Gives (λ (x : O × Rest). Q x.0) (word_as meaning r >>= λ x. pair_answer (with x.0) x.1)
taken_gives {A} {O} P Q meaning with r typed fits = gives_then (λ (x : A × Rest). P x.0) (λ (x : O × Rest). Q x.0) (word_as meaning r) (λ x. pair_answer (with x.0) x.1) (gives_word P meaning r typed) (λ x p. gives_ok (λ (y : O × Rest). Q y.0) (with x.0, x.1) (fits x.0 p))

record OptionsFit (o : Options) : Type 0 where
  pub facet : Holds IsUtf8 o.facet
  pub mode : Holds (λ n. n ≤ 4) o.mode
  pub protocol : Holds IsVersion o.protocol
  pub encoding : Holds IsVersion o.encoding

abbrev FlagFits : Flag → Type 0
FlagFits kinds.Facet = Unit {0}
FlagFits (kinds.Mode n) = n ≤ 4
FlagFits kinds.Secure = Unit {0}
FlagFits kinds.Protocol = Unit {0}
FlagFits kinds.Encoding = Unit {0}

flag_gives : (flag : Flag) (o : Options) (r : Rest) → FlagFits flag → OptionsFit o → Gives (λ x. OptionsFit x.0) (with_flag flag o r)
flag_gives kinds.Facet o r h fit = taken_gives IsUtf8 OptionsFit text_of (λ x. record o { facet = Some x }) r text_typed (λ x p. record { facet = p; mode = fit.mode; protocol = fit.protocol; encoding = fit.encoding })
flag_gives (kinds.Mode n) o r h fit = gives_ok (λ x. OptionsFit x.0) (record o { mode = Some n }, r) (record { facet = fit.facet; mode = h; protocol = fit.protocol; encoding = fit.encoding })
flag_gives kinds.Secure o r h fit = gives_ok (λ x. OptionsFit x.0) (record o { secure = true }, r) (record { facet = fit.facet; mode = fit.mode; protocol = fit.protocol; encoding = fit.encoding })
flag_gives kinds.Protocol o r h fit = taken_gives IsVersion OptionsFit version (λ x. record o { protocol = Some x }) r version_typed (λ x p. record { facet = fit.facet; mode = fit.mode; protocol = p; encoding = fit.encoding })
flag_gives kinds.Encoding o r h fit = taken_gives IsVersion OptionsFit version (λ x. record o { encoding = Some x }) r version_typed (λ x p. record { facet = fit.facet; mode = fit.mode; protocol = fit.protocol; encoding = p })

flags_fit : AllRows FlagFits flags
flags_fit = (tt, (omega arith, (omega arith, (omega arith, (omega arith, (omega arith, (tt, (tt, (tt, tt)))))))))

options_give : (r : Rest) → Gives (λ x. OptionsFit x.0) (options_at flags is_given with_flag no_options r)
options_give r = steps_give flags is_given with_flag FlagFits OptionsFit flags_fit flag_gives (suc (length r.bytes)) no_options r (record { facet = tt; mode = tt; protocol = tt; encoding = tt })

record TcpFit (o : TcpOptions) : Type 0 where
  pub host : Holds IsUtf8 o.host
  pub port : Holds (FitsSigned w32) o.port
  pub timeout : Holds (FitsSigned w32) o.timeout

tcp_flag_gives : (flag : TcpFlag) (o : TcpOptions) (r : Rest) → Unit {0} → TcpFit o → Gives (λ x. TcpFit x.0) (with_tcp_flag flag o r)
tcp_flag_gives tcp_kinds.Host o r h fit = taken_gives IsUtf8 TcpFit text_of (λ x. record o { host = Some x }) r text_typed (λ x p. record { host = p; port = fit.port; timeout = fit.timeout })
tcp_flag_gives tcp_kinds.Port o r h fit = taken_gives (FitsSigned w32) TcpFit (number 32) (λ x. record o { port = Some x }) r int_typed (λ x p. record { host = fit.host; port = p; timeout = fit.timeout })
tcp_flag_gives tcp_kinds.Timeout o r h fit = taken_gives (FitsSigned w32) TcpFit timeout (λ x. record o { timeout = Some x }) r timeout_typed (λ x p. record { host = fit.host; port = fit.port; timeout = p })
tcp_flag_gives tcp_kinds.Compress o r h fit = gives_ok (λ x. TcpFit x.0) (record o { compress = true }, r) (record { host = fit.host; port = fit.port; timeout = fit.timeout })

tcp_options_give : (r : Rest) → Gives (λ x. TcpFit x.0) (options_at tcp_flags is_tcp_given with_tcp_flag no_tcp_options r)
tcp_options_give r = steps_give tcp_flags is_tcp_given with_tcp_flag (λ flag. Unit {0}) TcpFit (tt, (tt, (tt, (tt, tt)))) tcp_flag_gives (suc (length r.bytes)) no_tcp_options r (record { host = tt; port = tt; timeout = tt })

-- ---- endpoints

or_text_fits : (o : Option (List ℕ)) → Holds IsUtf8 o → IsUtf8 (or o [])
or_text_fits None h = IsUtf8-nil
or_text_fits (Some text) h = h

or_int_fits : (o : Option ℤ) (z : ℤ) → Holds (FitsSigned w32) o → FitsSigned w32 z → FitsSigned w32 (or o z)
or_int_fits None z h fit = fit
or_int_fits (Some y) z h fit = h

no_port : FitsSigned w32 (pos 0)
no_port = omega arith

usual_timeout : FitsSigned w32 (pos 60000)
usual_timeout = omega arith

tcp_gives : (r : Rest) → Gives (λ x. HasEndpointText x.0) (endpoint_by transport_kinds.Tcp r)
tcp_gives r = gives_then (λ x. TcpFit x.0) (λ x. HasEndpointText x.0) (options_at tcp_flags is_tcp_given with_tcp_flag no_tcp_options r) (λ o. pair_answer (tcp_of o.0) o.1) (tcp_options_give r)
    (λ o fit. gives_ok (λ (x : Endpoint × Rest). HasEndpointText x.0) (tcp_of o.0, o.1) (or_text_fits o.0.host fit.host, or_int_fits o.0.port (pos 0) fit.port no_port, or_int_fits o.0.timeout (pos 60000) fit.timeout usual_timeout))

-- not TCP, where it is not refused
another_gives : (place : ℕ) (kind : ℤ) (v : ℕ × ℕ) → Gives (λ x. (kind ≡ pos 1) × (v.0 ≡ 1) × (v.1 ≡ 1) → ⊥) (not_tcp place kind v)
another_gives place (negsuc n) v = record { gives = λ x e is. cc (is.0) }
another_gives place (pos n) v = record { gives = λ x e is. refused n v x e (pos_is is.0) is.1 is.2 }
  where
    pos_is : {m n : ℕ} → pos m ≡ pos n → m ≡ n
    pos_is e = cc

    refused : (n : ℕ) (v : ℕ × ℕ) (x : Unit {0}) → not_tcp place (pos n) v ≡ Ok x → n ≡ 1 → v.0 ≡ 1 → v.1 ≡ 1 → ⊥
    refused n v x e a b c = cc (rw (a, b, c) at e)

opaque_gives : (r : Rest) → Gives (λ x. HasEndpointText x.0) (opaque_at r)
opaque_gives r =
    gives_then Any Typed (exactly (codes "-t") r) (λ t. word_as (number 16) t.1 >>= λ kind. exactly (codes "-e") kind.1 >>= λ e. word_as version e.1 >>= λ v. not_tcp (place_at t.1) kind.0 v.0 >>= λ other. exactly (codes "-x") v.1 >>= λ x. word_as hexadecimal x.1 >>= λ content. pair_answer (Opaque kind.0 v.0.0 v.0.1 content.0) content.1) (any (exactly (codes "-t") r)) λ t none.
    gives_then (λ kind. FitsSigned w16 kind.0) Typed (word_as (number 16) t.1) (λ kind. exactly (codes "-e") kind.1 >>= λ e. word_as version e.1 >>= λ v. not_tcp (place_at t.1) kind.0 v.0 >>= λ other. exactly (codes "-x") v.1 >>= λ x. word_as hexadecimal x.1 >>= λ content. pair_answer (Opaque kind.0 v.0.0 v.0.1 content.0) content.1) (gives_word (FitsSigned w16) (number 16) t.1 short_typed) λ kind kind_fits.
    gives_then Any Typed (exactly (codes "-e") kind.1) (λ e. word_as version e.1 >>= λ v. not_tcp (place_at t.1) kind.0 v.0 >>= λ other. exactly (codes "-x") v.1 >>= λ x. word_as hexadecimal x.1 >>= λ content. pair_answer (Opaque kind.0 v.0.0 v.0.1 content.0) content.1) (any (exactly (codes "-e") kind.1)) λ e none.
    gives_then (λ v. IsVersion v.0) Typed (word_as version e.1) (λ v. not_tcp (place_at t.1) kind.0 v.0 >>= λ other. exactly (codes "-x") v.1 >>= λ x. word_as hexadecimal x.1 >>= λ content. pair_answer (Opaque kind.0 v.0.0 v.0.1 content.0) content.1) (gives_word IsVersion version e.1 version_typed) λ v v_fits.
    gives_then (λ other. (kind.0 ≡ pos 1) × (v.0.0 ≡ 1) × (v.0.1 ≡ 1) → ⊥) Typed (not_tcp (place_at t.1) kind.0 v.0) (λ other. exactly (codes "-x") v.1 >>= λ x. word_as hexadecimal x.1 >>= λ content. pair_answer (Opaque kind.0 v.0.0 v.0.1 content.0) content.1) (another_gives (place_at t.1) kind.0 v.0) λ other another.
    gives_then Any Typed (exactly (codes "-x") v.1) (λ x. word_as hexadecimal x.1 >>= λ content. pair_answer (Opaque kind.0 v.0.0 v.0.1 content.0) content.1) (any (exactly (codes "-x") v.1)) λ x none.
    gives_then (λ content. IsBytes content.0) Typed (word_as hexadecimal x.1) (λ content. pair_answer (Opaque kind.0 v.0.0 v.0.1 content.0) content.1) (gives_word IsBytes hexadecimal x.1 bytes_typed) λ content content_fits.
    gives_ok Typed (Opaque kind.0 v.0.0 v.0.1 content.0, content.1) (kind_fits, v_fits, content_fits, another)
  where
    Any : Unit {0} × Rest → Type 0
    Any x = Unit {0}

    any : (read : Parsed (Unit {0} × Rest)) → Gives Any read
    any read = record { gives = λ x e. tt }

    Typed : Endpoint × Rest → Type 0
    Typed x = HasEndpointText x.0

transport_gives : (t : Transport) (r : Rest) → Gives (λ x. HasEndpointText x.0) (endpoint_by t r)
transport_gives transport_kinds.Tcp r = tcp_gives r
transport_gives transport_kinds.Opaque r = opaque_gives r

endpoint_gives : (r : Rest) → Gives (λ x. HasEndpointText x.0) (endpoint_at r)
endpoint_gives r = gives_then (λ x. Unit {0}) (λ x. HasEndpointText x.0) (word_as (listed transports) r) (λ t. endpoint_by t.0 t.1) (record { gives = λ x e. tt }) (λ t none. transport_gives t.0 t.1)

-- endpoints in so many steps
endpoints_give : (steps : ℕ) (r : Rest) → Gives HaveEndpointTexts (endpoints_within steps r)
endpoints_give zero r = record { gives = λ x e. absurd cc }
endpoints_give (suc steps) r = gives_then (λ c. Unit {0}) HaveEndpointTexts (colon_at r) (endpoints_from (endpoints_within steps)) (record { gives = λ c e. tt }) (λ c none. by c (endpoints_give steps))
  where
    by : (c : Option Rest) → ((r : Rest) → Gives HaveEndpointTexts (endpoints_within steps r)) → Gives HaveEndpointTexts (endpoints_from (endpoints_within steps) c)
    by None more = gives_ok HaveEndpointTexts [] tt
    by (Some s) more =
        gives_then (λ x. HasEndpointText x.0) HaveEndpointTexts (endpoint_at s) (λ e. endpoints_within steps e.1 >>= λ others. answer (e.0 ∷ others)) (endpoint_gives s) λ e first.
        gives_then HaveEndpointTexts HaveEndpointTexts (endpoints_within steps e.1) (λ others. answer (e.0 ∷ others)) (more e.1) λ others rest.
        gives_ok HaveEndpointTexts (e.0 ∷ others) (first, rest)

-- ---- where it is found

abbrev IsLocation : List Endpoint × List ℕ → Type 0
IsLocation l = HaveEndpointTexts l.0 × IsUtf8 l.1 × ((l.0 ≡ []) ⊎ (l.1 ≡ []))

abbrev located : List Endpoint → List ℕ → Parsed (List Endpoint × List ℕ)
located es adapter = Ok (es, adapter)

location_gives : (r : Rest) → Gives IsLocation (location_at r)
location_gives r = by (at_ahead r)
  where
    by : (a : Option Rest) → Gives IsLocation (location_from r a)
    by None = gives_then HaveEndpointTexts IsLocation (endpoints_at r) (λ es. located es []) (endpoints_give (suc (length r.bytes)) r) λ es fit. gives_ok IsLocation (es, []) (fit, IsUtf8-nil, inr refl)
    by (Some s) =
        gives_then (λ x. IsUtf8 x.0) IsLocation (word_as text_of s) (λ adapter. end_at adapter.1 >>= λ e. located [] adapter.0) (gives_word IsUtf8 text_of s text_typed) λ adapter utf8.
        gives_then (λ e. Unit {0}) IsLocation (end_at adapter.1) (λ e. located [] adapter.0) (record { gives = λ x e. tt }) λ e none.
        gives_ok IsLocation ([], adapter.0) (tt, utf8, inl refl)

-- ---- a proxy

or_mode : (o : Option ℕ) → Holds (λ n. n ≤ 4) o → or o 0 ≤ 4
or_mode None h = omega arith
or_mode (Some n) h = h

or_version : (o : Option (ℕ × ℕ)) (v : ℕ × ℕ) → Holds IsVersion o → IsVersion v → IsVersion (or o v)
or_version None v h fit = fit
or_version (Some w) v h fit = h

proxy_typed : (i : Identity) (o : Options) (l : List Endpoint × List ℕ) → HasName i → OptionsFit o → IsLocation l → HasText (proxy_of i o l)
proxy_typed i o l named fit placed = record {
  name = named.name;
  name_text = named.name_text;
  category = named.category;
  facet = or_text_fits o.facet fit.facet;
  mode = or_mode o.mode fit.mode;
  protocol = or_version o.protocol (1, 0) fit.protocol (omega arith, omega arith);
  encoding = or_version o.encoding (1, 1) fit.encoding (omega arith, omega arith);
  endpoints = placed.0;
  adapter = placed.1;
  place = placed.2;
}

text_gives : (bytes : List ℕ) → Gives HasText (proxy_text bytes)
text_gives bytes =
    gives_then (λ i. HasName i.0) HasText (word_as identity_of (whole bytes)) (λ i. options_at flags is_given with_flag no_options i.1 >>= λ o. location_at o.1 >>= λ l. answer (proxy_of i.0 o.0 l)) (gives_word HasName identity_of (whole bytes) identity_typed) λ i named.
    gives_then (λ o. OptionsFit o.0) HasText (options_at flags is_given with_flag no_options i.1) (λ o. location_at o.1 >>= λ l. answer (proxy_of i.0 o.0 l)) (options_give i.1) λ o fit.
    gives_then IsLocation HasText (location_at o.1) (λ l. answer (proxy_of i.0 o.0 l)) (location_gives o.1) λ l placed.
    gives_ok HasText (proxy_of i.0 o.0 l) (proxy_typed i.0 o.0 l named fit placed)

pub whole_text_typed : (text : List ℕ) (p : Proxy) → proxy_text text ≡ Ok p → HasText p
whole_text_typed text p e = (text_gives text).gives p e
