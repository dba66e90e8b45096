-- A proxy that is read from pieces is the one that the pieces stand for.
use Rattle.std.proofs.Common.{ℕ, ℤ, pos, negsuc, zero, suc, ◌<◌, ◌≤◌, ◌≡◌, Bool, true, false, eqb, ◌&&◌, List, [], ◌∷◌, ◌++◌, length, length-append, Option, None, Some, Ok, Err, inl, inr, codes, refl, sym, ap, subst, ◌∙◌, append_assoc, arith}
use Rattle.std.specs.Option.{option_and_then}
use Rattle.std.proofs.lemmas.Bool.{eqb-true}
use Rattle.std.proofs.lemmas.List.{append-nil}
use Rattle.ice_proxy.specs.Breaks.{AreReal}
use Rattle.std.specs.Str.{is_utf8, chars}
use lib.Utf8.{encode}
use Rattle.ice_types.specs.declared.identity.Identity.{Identity}
use Rattle.ice_types.specs.declared.proxy.Endpoint.{Endpoint}
use Rattle.ice_types.specs.declared.proxy.Endpoint.TheVariants.{Opaque}
use Rattle.ice_types.specs.declared.proxy.Proxy.{Proxy}
use Rattle.ice_proxy.specs.declared.options.Options.{Options}
use Rattle.ice_proxy.specs.declared.options.Flag.{Flag}
use Rattle.ice_proxy.specs.declared.options.Flag.TheVariants as kinds
use Rattle.ice_proxy.specs.declared.tcp.TcpOptions.{TcpOptions}
use Rattle.ice_proxy.specs.declared.tcp.TcpFlag.{TcpFlag}
use Rattle.ice_proxy.specs.declared.tcp.TcpFlag.TheVariants as tcp_kinds
use Rattle.ice_proxy.specs.declared.endpoints.Transport.{Transport}
use Rattle.ice_proxy.specs.declared.endpoints.Transport.TheVariants as transport_kinds
use Rattle.ice_proxy.specs.Words.{Token, word, colon, at, end}
use Rattle.ice_proxy.specs.Laws.{IsWord}
use Rattle.ice_proxy.specs.Escapes.{text_of, identity_of}
use Rattle.ice_proxy.specs.Numbers.{number, timeout, version, hexadecimal}
use Rattle.ice_proxy.specs.Options.{listed, no_options, flags, is_given, no_tcp_options, tcp_flags, is_tcp_given}
use Rattle.ice_proxy.specs.Grammar.{transports, tcp_of, proxy_of}
use Rattle.ice_proxy.specs.Pieces.{Piece, Pieces}
use Rattle.ice_proxy.specs.Spelled.{meant, this, Word, Then, Made, Nothing, Value, TcpValue, AreOptions, IsOpaque, EndpointBy, AnEndpoint, AreEndpoints, AnAdapter, IsLocation, AreNamed, IsProxy}
use Rattle.ice_proxy.proofs.Standing.{plain_word}
use Rattle.ice_proxy.proofs.StandingWords.{quotes_stand}
use Rattle.ice_proxy.proofs.PieceLaws.{Stop, Reading, ◌>>>◌, first, first_append, answered, Took, Stopped, Sample, Lawful, then_ok, then_err, ok_parts, err_same, took_both, stopped_first, stopped_second, lawful_both, took_made, stopped_made, lawful_made, lawful_same, lawful_nothing, One, one_at, one_took, one_refused, one_only, lawful_one, lawful_before}
use Rattle.ice_proxy.proofs.PieceReading.{is_word, is_at, next_word, next_at, no_blame, seen_as, word_as, colon_token, colon_piece, at_token, at_piece, end_at, options_at, value_at, tcp_value_at, is_tcp, typed, versioned, blame_type, opaque_at, endpoint_by, endpoint_at, endpoints_within, endpoints_at, adapter_at, location_at, named_at, proxy_at}
use Rattle.ice_proxy.proofs.PieceOptions.{Anything, NoWord, same_bind, options_lawful}

-- ---- words that may stand

abbrev piece : Token → Piece
piece t = record { token = t; place = 0 }

abbrev some : {A : Type 0} → A → Option A
some x = Some x

-- one word for a meaning
one_word : {A : Type 0} (meaning : List ℕ → Option A) (bytes : List ℕ) (x : A) → IsWord bytes → meaning bytes ≡ Some x → Sample (Word meaning)
one_word meaning bytes x is e = record { some = piece (word bytes) ∷ []; real = (is, tt); value = x; spelled = (piece (word bytes), refl, e) }

word_lawful : {A : Type 0} (meaning : List ℕ → Option A) (bytes : List ℕ) (x : A) → IsWord bytes → meaning bytes ≡ Some x → Lawful (Word meaning) (word_as meaning) Anything
word_lawful meaning bytes x is e = lawful_one (seen_as meaning) no_blame (one_word meaning bytes x is e) Anything

abbrev letter : List ℕ
letter = 97 ∷ []

letter_stands : IsWord letter
letter_stands = plain_word letter (omega arith) refl

letter_text : text_of letter ≡ Some letter
unfolding is_utf8 chars encode
letter_text = refl

letter_identity : identity_of letter ≡ Some (record { name = letter; category = [] })
unfolding is_utf8 chars encode
letter_identity = refl

abbrev one_zero : List ℕ
one_zero = codes "1.0"

version_word : version one_zero ≡ Some (1, 0)
version_word = refl

one_zero_stands : IsWord one_zero
one_zero_stands = plain_word one_zero (omega arith) refl

abbrev two : List ℕ
two = codes "2"

two_stands : IsWord two
two_stands = plain_word two (omega arith) refl

text_lawful : Lawful (Word text_of) (word_as text_of) Anything
text_lawful = word_lawful text_of letter letter letter_stands letter_text

pub identity_lawful : Lawful (Word identity_of) (word_as identity_of) Anything
identity_lawful = word_lawful identity_of letter (record { name = letter; category = [] }) letter_stands letter_identity

version_lawful : Lawful (Word version) (word_as version) Anything
version_lawful = word_lawful version one_zero (1, 0) one_zero_stands version_word

int_lawful : Lawful (Word (number 32)) (word_as (number 32)) Anything
int_lawful = word_lawful (number 32) two (pos 2) two_stands refl

timeout_lawful : Lawful (Word timeout) (word_as timeout) Anything
timeout_lawful = word_lawful timeout two (pos 2) two_stands refl

bytes_lawful : Lawful (Word hexadecimal) (word_as hexadecimal) Anything
bytes_lawful = word_lawful hexadecimal (34 ∷ 34 ∷ []) [] (quotes_stand []) refl

-- ---- options

pub value_lawful : (flag : Flag) (o : Options) → Lawful (Value flag o) (value_at flag o) Anything
value_lawful kinds.Facet o = lawful_made (λ x. record o { facet = Some x }) (Word text_of) (word_as text_of) Anything text_lawful
value_lawful (kinds.Mode n) o = lawful_nothing (record o { mode = Some n }) Anything
value_lawful kinds.Secure o = lawful_nothing (record o { secure = true }) Anything
value_lawful kinds.Protocol o = lawful_made (λ x. record o { protocol = Some x }) (Word version) (word_as version) Anything version_lawful
value_lawful kinds.Encoding o = lawful_made (λ x. record o { encoding = Some x }) (Word version) (word_as version) Anything version_lawful

pub tcp_value_lawful : (flag : TcpFlag) (o : TcpOptions) → Lawful (TcpValue flag o) (tcp_value_at flag o) Anything
tcp_value_lawful tcp_kinds.Host o = lawful_made (λ x. record o { host = Some x }) (Word text_of) (word_as text_of) Anything text_lawful
tcp_value_lawful tcp_kinds.Port o = lawful_made (λ x. record o { port = Some x }) (Word (number 32)) (word_as (number 32)) Anything int_lawful
tcp_value_lawful tcp_kinds.Timeout o = lawful_made (λ x. record o { timeout = Some x }) (Word timeout) (word_as timeout) Anything timeout_lawful
tcp_value_lawful tcp_kinds.Compress o = lawful_nothing (record o { compress = true }) Anything

abbrev pub TheOptions : Pieces → Options → Type 0
TheOptions = AreOptions flags is_given Value no_options

abbrev pub the_options : Pieces → Reading Options
the_options = options_at flags is_given value_at no_options

pub the_options_lawful : Lawful TheOptions the_options NoWord
the_options_lawful = options_lawful flags is_given Value value_at value_lawful no_options

abbrev pub TcpParts : Pieces → TcpOptions → Type 0
TcpParts = AreOptions tcp_flags is_tcp_given TcpValue no_tcp_options

abbrev pub tcp_parts : Pieces → Reading TcpOptions
tcp_parts = options_at tcp_flags is_tcp_given tcp_value_at no_tcp_options

pub tcp_parts_lawful : Lawful TcpParts tcp_parts NoWord
tcp_parts_lawful = options_lawful tcp_flags is_tcp_given TcpValue tcp_value_at tcp_value_lawful no_tcp_options

-- ---- an opaque endpoint

abbrev pub Typed : Pieces → ℤ × Piece → Type 0
Typed = One typed no_blame

abbrev pub Versioned : ℤ × Piece → Pieces → ℕ × ℕ → Type 0
Versioned kind = One (versioned kind) (blame_type kind)

abbrev pub made : ℤ × Piece → ℕ × ℕ → List ℕ → Endpoint
made kind v content = Opaque kind.0 v.0 v.1 content

abbrev pub Last : ℤ × Piece → ℕ × ℕ → Pieces → Endpoint → Type 0
Last kind v = Made (made kind v) (Word hexadecimal)

abbrev pub last : ℤ × Piece → ℕ × ℕ → Pieces → Reading Endpoint
last kind v ps = word_as hexadecimal ps >>> λ content. Ok (made kind v content.0, content.1)

abbrev pub Fourth : ℤ × Piece → ℕ × ℕ → Pieces → Endpoint → Type 0
Fourth kind v = Then (Word (this (codes "-x"))) (λ x. Last kind v)

abbrev pub fourth : ℤ × Piece → ℕ × ℕ → Pieces → Reading Endpoint
fourth kind v ps = word_as (this (codes "-x")) ps >>> λ x. last kind v x.1

abbrev pub Third : ℤ × Piece → Pieces → Endpoint → Type 0
Third kind = Then (Versioned kind) (Fourth kind)

abbrev pub third : ℤ × Piece → Pieces → Reading Endpoint
third kind ps = one_at (versioned kind) (blame_type kind) ps >>> λ v. fourth kind v.0 v.1

abbrev pub Second : ℤ × Piece → Pieces → Endpoint → Type 0
Second kind = Then (Word (this (codes "-e"))) (λ e. Third kind)

abbrev pub second : ℤ × Piece → Pieces → Reading Endpoint
second kind ps = word_as (this (codes "-e")) ps >>> λ e. third kind e.1

abbrev pub First : Pieces → Endpoint → Type 0
First = Then Typed Second

abbrev pub begin : Pieces → Reading Endpoint
begin ps = one_at typed no_blame ps >>> λ kind. second kind.0 kind.1

abbrev OpaqueParts : Pieces → Endpoint → Type 0
OpaqueParts = Then (Word (this (codes "-t"))) (λ t. First)

this_lawful : (known : List ℕ) → IsWord known → this known known ≡ Some tt → Lawful (Word (this known)) (word_as (this known)) Anything
this_lawful known is e = word_lawful (this known) known tt is e

pub x_lawful : Lawful (Word (this (codes "-x"))) (word_as (this (codes "-x"))) Anything
x_lawful = this_lawful (codes "-x") (plain_word (codes "-x") (omega arith) refl) refl

pub e_lawful : Lawful (Word (this (codes "-e"))) (word_as (this (codes "-e"))) Anything
e_lawful = this_lawful (codes "-e") (plain_word (codes "-e") (omega arith) refl) refl

pub t_lawful : Lawful (Word (this (codes "-t"))) (word_as (this (codes "-t"))) Anything
t_lawful = this_lawful (codes "-t") (plain_word (codes "-t") (omega arith) refl) refl

no_tcp_type : (z : ℤ) → is_tcp z (1, 0) ≡ false
no_tcp_type (pos n) = by (eqb n 1)
  where
    by : (b : Bool) → (b && false) ≡ false
    by true = refl
    by false = refl
no_tcp_type (negsuc n) = refl

abbrev kept_version : Bool → Option (ℕ × ℕ)
kept_version b = elim b [ true ↦ None | false ↦ Some (1, 0) ]

pub versioned_lawful : (kind : ℤ × Piece) → Lawful (Versioned kind) (one_at (versioned kind) (blame_type kind)) Anything
versioned_lawful kind = lawful_one (versioned kind) (blame_type kind)
    (record { some = piece (word one_zero) ∷ []; real = (one_zero_stands, tt); value = (1, 0); spelled = (piece (word one_zero), refl, ap kept_version (no_tcp_type kind.0)) }) Anything

pub typed_lawful : Lawful Typed (one_at typed no_blame) Anything
typed_lawful = lawful_one typed no_blame (record { some = piece (word two) ∷ []; real = (two_stands, tt); value = (pos 2, piece (word two)); spelled = (piece (word two), refl, refl) }) Anything

fourth_lawful : (kind : ℤ × Piece) (v : ℕ × ℕ) → Lawful (Fourth kind v) (fourth kind v) Anything
fourth_lawful kind v = lawful_both (Word (this (codes "-x"))) (word_as (this (codes "-x"))) (λ x. Last kind v) (λ x. last kind v) Anything Anything x_lawful
    (λ x. lawful_made (made kind v) (Word hexadecimal) (word_as hexadecimal) Anything bytes_lawful) (λ x y b rest s f. tt)

third_lawful : (kind : ℤ × Piece) → Lawful (Third kind) (third kind) Anything
third_lawful kind = lawful_both (Versioned kind) (one_at (versioned kind) (blame_type kind)) (Fourth kind) (fourth kind) Anything Anything (versioned_lawful kind) (fourth_lawful kind) (λ x y b rest s f. tt)

second_lawful : (kind : ℤ × Piece) → Lawful (Second kind) (second kind) Anything
second_lawful kind = lawful_both (Word (this (codes "-e"))) (word_as (this (codes "-e"))) (λ e. Third kind) (λ e. third kind) Anything Anything e_lawful (λ e. third_lawful kind) (λ x y b rest s f. tt)

first_lawful : Lawful First begin Anything
first_lawful = lawful_both Typed (one_at typed no_blame) Second second Anything Anything typed_lawful second_lawful (λ x y b rest s f. tt)

parts_lawful : Lawful OpaqueParts opaque_at Anything
parts_lawful = lawful_both (Word (this (codes "-t"))) (word_as (this (codes "-t"))) (λ t. First) (λ t. begin) Anything Anything t_lawful (λ t. first_lawful) (λ x y b rest s f. tt)

-- what a type and a version that may stand say
typed_parts : (p : Piece) (o : Option ℤ) (kind : ℤ × Piece) → option_and_then (λ z. some (z, p)) o ≡ Some kind → (o ≡ Some kind.0) × (kind.1 ≡ p)
typed_parts p None kind e = absurd cc
typed_parts p (Some z) kind e = let same : (z, p) ≡ kind = cc in (ap some (ap (λ (k : ℤ × Piece). k.0) same), sym (ap (λ (k : ℤ × Piece). k.1) same))

abbrev unless_tcp : ℤ → ℕ × ℕ → Option (ℕ × ℕ)
unless_tcp z v = elim (is_tcp z v) [ true ↦ None | false ↦ Some v ]

pub tcp_is : (z : ℤ) (v : ℕ × ℕ) → z ≡ pos 1 → v ≡ (1, 1) → is_tcp z v ≡ true
tcp_is z v e f = ap (λ (k : ℤ). is_tcp k v) e ∙ ap (is_tcp (pos 1)) f

versioned_parts : (z : ℤ) (o : Option (ℕ × ℕ)) (v : ℕ × ℕ) → option_and_then (unless_tcp z) o ≡ Some v → (o ≡ Some v) × (is_tcp z v ≡ false)
versioned_parts z None v e = absurd cc
versioned_parts z (Some w) v e = by (is_tcp z w) refl e
  where
    by : (b : Bool) → is_tcp z w ≡ b → elim b as (λ c. Option (ℕ × ℕ)) [ true ↦ None | false ↦ Some w ] ≡ Some v → (some w ≡ Some v) × (is_tcp z v ≡ false)
    by true is e = absurd cc
    by false is e = let same : w ≡ v = cc in (ap some same, ap (is_tcp z) (sym same) ∙ is)

no_tcp_from : (z : ℤ) (v : ℕ × ℕ) → is_tcp z v ≡ false → (z ≡ pos 1) × (v.0 ≡ 1) × (v.1 ≡ 1) → ⊥
no_tcp_from z (a, b) e h = let is = tcp_is z (a, b) h.0 (pair a b h.1 h.2) in absurd (true_false (sym is ∙ e))
  where
    pair : (a b : ℕ) → a ≡ 1 → b ≡ 1 → ◌≡◌ {A = ℕ × ℕ} (a, b) (1, 1)
    pair a b e f = rw (e, f) refl

    true_false : true ≡ false → ⊥
    true_false e = cc

is_tcp_from : (z : ℤ) (v : ℕ × ℕ) → ((z ≡ pos 1) × (v.0 ≡ 1) × (v.1 ≡ 1) → ⊥) → is_tcp z v ≡ false
is_tcp_from (negsuc n) v never = refl
is_tcp_from (pos n) v never = by (eqb n 1) (eqb v.0 1) (eqb v.1 1) refl refl refl
  where
    by : (a b c : Bool) → eqb n 1 ≡ a → eqb v.0 1 ≡ b → eqb v.1 1 ≡ c → (a && (b && c)) ≡ false
    by false b c d e f = refl
    by true false c d e f = refl
    by true true false d e f = refl
    by true true true d e f = absurd (never (ap pos (eqb-true n 1 d), eqb-true v.0 1 e, eqb-true v.1 1 f))

joined : (a b : Pieces) (p : Piece) → a ≡ p ∷ [] → a ++ b ≡ p ∷ b
joined a b p e = ap (λ (z : Pieces). z ++ b) e

opaque_to : (ps : Pieces) (e : Endpoint) → OpaqueParts ps e → IsOpaque ps e
opaque_to ps e h =
    let a = h.5 in let b = a.5 in let c = b.5 in let d = c.5 in let f = d.5 in
    let t = h.4 in let k = a.4 in let m = b.4 in let v = c.4 in let x = d.4 in let y = f.1 in
    let kinds = typed_parts k.0 (meant (number 16) k.0.token) a.0 k.2 in
    let versions = versioned_parts a.0.0 (meant version v.0.token) c.0 v.2 in
    record {
      type_option = t.0;
      type = k.0;
      version_option = m.0;
      versions = v.0;
      bytes_option = x.0;
      bytes = y.0;
      kind = a.0.0;
      major = c.0.0;
      minor = c.0.1;
      content = f.0;
      words = h.3 ∙ (joined h.1 h.2 t.0 t.1 ∙ ap (λ (z : Pieces). t.0 ∷ z) (a.3 ∙ (joined a.1 a.2 k.0 k.1 ∙ ap (λ (z : Pieces). k.0 ∷ z) (b.3 ∙ (joined b.1 b.2 m.0 m.1 ∙ ap (λ (z : Pieces). m.0 ∷ z)
          (c.3 ∙ (joined c.1 c.2 v.0 v.1 ∙ ap (λ (z : Pieces). v.0 ∷ z) (d.3 ∙ (joined d.1 d.2 x.0 x.1 ∙ ap (λ (z : Pieces). x.0 ∷ z) y.1)))))))));
      is_type_option = t.2;
      is_type = kinds.0;
      is_version_option = m.2;
      is_version = versions.0;
      no_tcp = no_tcp_from a.0.0 c.0 versions.1;
      is_bytes_option = x.2;
      is_bytes = y.2;
      is = f.2;
    }

abbrev kept_as : ℕ × ℕ → Bool → Option (ℕ × ℕ)
kept_as v b = elim b [ true ↦ None | false ↦ Some v ]

opaque_from : (ps : Pieces) (e : Endpoint) → IsOpaque ps e → OpaqueParts ps e
opaque_from ps e r =
    let kind : ℤ × Piece = (r.kind, r.type) in
    let v : ℕ × ℕ = (r.major, r.minor) in
    let off = is_tcp_from r.kind v r.no_tcp in (
      tt,
      r.type_option ∷ [],
      r.type ∷ r.version_option ∷ r.versions ∷ r.bytes_option ∷ r.bytes ∷ [],
      r.words,
      (r.type_option, refl, r.is_type_option),
      (
        kind,
        r.type ∷ [],
        r.version_option ∷ r.versions ∷ r.bytes_option ∷ r.bytes ∷ [],
        refl,
        (r.type, refl, ap (option_and_then (λ z. some (z, r.type))) r.is_type),
        (
          tt,
          r.version_option ∷ [],
          r.versions ∷ r.bytes_option ∷ r.bytes ∷ [],
          refl,
          (r.version_option, refl, r.is_version_option),
          (
            v,
            r.versions ∷ [],
            r.bytes_option ∷ r.bytes ∷ [],
            refl,
            (r.versions, refl, ap (option_and_then (unless_tcp r.kind)) r.is_version ∙ ap (λ (b : Bool). kept_as v b) off),
            (
              tt,
              r.bytes_option ∷ [],
              r.bytes ∷ [],
              refl,
              (r.bytes_option, refl, r.is_bytes_option),
              (r.content, (r.bytes, refl, r.is_bytes), r.is),
            ),
          ),
        ),
      ),
    )

pub opaque_lawful : Lawful IsOpaque opaque_at Anything
opaque_lawful = lawful_same OpaqueParts IsOpaque opaque_at Anything opaque_to opaque_from parts_lawful

-- ---- endpoints

endpoint_by_lawful : (t : Transport) → Lawful (EndpointBy t) (endpoint_by t) NoWord
endpoint_by_lawful transport_kinds.Tcp = lawful_made tcp_of TcpParts tcp_parts NoWord tcp_parts_lawful
endpoint_by_lawful transport_kinds.Opaque = lawful_before IsOpaque opaque_at Anything NoWord (λ o h. tt) opaque_lawful

pub transport_lawful : Lawful (Word (listed transports)) (word_as (listed transports)) Anything
transport_lawful = word_lawful (listed transports) (codes "tcp") transport_kinds.Tcp (plain_word (codes "tcp") (omega arith) refl) refl

pub endpoint_lawful : Lawful AnEndpoint endpoint_at NoWord
endpoint_lawful = lawful_both (Word (listed transports)) (word_as (listed transports)) EndpointBy endpoint_by Anything NoWord transport_lawful endpoint_by_lawful (λ x y b rest s f. tt)

-- ---- endpoints, each behind `:`

abbrev Colon : Pieces → Unit {0} → Type 0
Colon = One colon_piece no_blame

abbrev Others : Endpoint → Pieces → List Endpoint → Type 0
Others e = Made (λ es. e ∷ es) AreEndpoints

abbrev pub others : Endpoint → Pieces → Reading (List Endpoint)
others e ps = endpoints_at ps >>> λ es. Ok (e ∷ es.0, es.1)

abbrev Behind : Unit {0} → Pieces → List Endpoint → Type 0
Behind c = Then AnEndpoint Others

abbrev pub behind : Unit {0} → Pieces → Reading (List Endpoint)
behind c ps = endpoint_at ps >>> λ e. others e.0 e.1

abbrev Chain : Pieces → List Endpoint → Type 0
Chain = Then Colon Behind

abbrev chain : Pieces → Reading (List Endpoint)
chain ps = one_at colon_piece no_blame ps >>> λ c. behind c.0 c.1

colon_is : (t : Token) → colon_token t ≡ Some tt → t ≡ colon
colon_is (word bytes) e = absurd cc
colon_is colon e = refl
colon_is at e = absurd cc
colon_is end e = absurd cc

pub endpoint_fewer : (ps rest : Pieces) (e : Endpoint) → endpoint_at ps ≡ Ok (e, rest) → length rest ≤ length ps
endpoint_fewer ps rest e h =
    let t = endpoint_lawful.found ps rest e h in
    let a : length ps ≡ length (t.taken ++ rest) = ap length t.parts in
    omega (arith, a, length-append t.taken rest)

abbrev rest_within : ℕ → Endpoint × Pieces → Reading (List Endpoint)
rest_within n e = endpoints_within n e.1 >>> λ es. Ok (e.0 ∷ es.0, es.1)

abbrev with_first : Endpoint → Reading (List Endpoint) → Reading (List Endpoint)
with_first e m = m >>> λ es. Ok (e ∷ es.0, es.1)

pub colon_fewer : (ps rest : Pieces) (u : Unit {0}) → one_at colon_piece no_blame ps ≡ Ok (u, rest) → length rest < length ps
colon_fewer ps rest u e =
    let t = one_took colon_piece no_blame ps rest u e in
    let a : length ps ≡ length (t.taken ++ rest) = ap length t.parts in
    let b : length t.taken ≡ 1 = ap length t.spelled.1 in
    omega (arith, a, b, length-append t.taken rest)

enough : (n m : ℕ) (ps : Pieces) → length ps < n → length ps < m → endpoints_within n ps ≡ endpoints_within m ps
enough zero m ps lt gt = absurd (omega arith)
enough (suc n) zero ps lt gt = absurd (omega arith)
enough (suc n) (suc m) [] lt gt = refl
enough (suc n) (suc m) (p ∷ ps) lt gt = same_bind (one_at colon_piece no_blame (p ∷ ps)) (λ c. endpoint_at c.1 >>> rest_within n) (λ c. endpoint_at c.1 >>> rest_within m) (λ c mid d.
    let short = colon_fewer (p ∷ ps) mid c d in
    same_bind (endpoint_at mid) (rest_within n) (rest_within m) (λ e left f.
    let few = endpoint_fewer mid left e f in
    ap (with_first e) (enough n m left (omega (arith, short, few, lt)) (omega (arith, short, few, gt)))))

abbrev pub step : Pieces → Reading (List Endpoint)
step [] = Ok ([], [])
step (p ∷ ps) = chain (p ∷ ps)

pub unrolled : (ps : Pieces) → endpoints_at ps ≡ step ps
unfolding endpoints_at
unrolled [] = refl
unrolled (p ∷ ps) = same_bind (one_at colon_piece no_blame (p ∷ ps)) (λ c. endpoint_at c.1 >>> rest_within (suc (length ps))) (λ c. endpoint_at c.1 >>> λ e. rest_within (suc (length e.1)) e) (λ c mid d.
    let short = colon_fewer (p ∷ ps) mid c d in
    same_bind (endpoint_at mid) (rest_within (suc (length ps))) (λ e. rest_within (suc (length e.1)) e) (λ e left f.
    let few = endpoint_fewer mid left e f in
    ap (with_first e) (enough (suc (length ps)) (suc (length left)) left (omega (arith, short, few)) (omega arith))))

chain_to : (ps : Pieces) (es : List Endpoint) → Chain ps es → AreEndpoints ps es
chain_to ps es h =
    let c = h.4 in let b = h.5 in let m = b.5 in
    let whole : ps ≡ c.0 ∷ (b.1 ++ b.2) = h.3 ∙ (joined h.1 h.2 c.0 c.1 ∙ ap (λ (z : Pieces). c.0 ∷ z) b.3) in
    subst (λ (z : List Endpoint). AreEndpoints ps z) (sym m.2) (c.0, b.1, b.2, whole, colon_is c.0.token c.2, b.4, m.1)

chain_from : (ps : Pieces) (e : Endpoint) (es : List Endpoint) → AreEndpoints ps (e ∷ es) → Chain ps (e ∷ es)
chain_from ps e es h = (tt, h.0 ∷ [], h.1 ++ h.2, h.3, (h.0, refl, ap colon_token h.4), (e, h.1, h.2, refl, h.5, (es, h.6, refl)))

abbrev pub AtEnd : Option Piece → Type 0
AtEnd o = o ≡ None

no_more : (ps : Pieces) → first ps ≡ None → ps ≡ []
no_more [] e = refl
no_more (p ∷ ps) e = absurd cc

-- what endpoints begin with is no word
pub endpoints_begin : (ps rest : Pieces) (es : List Endpoint) → AreEndpoints ps es → next_word (first rest) ≡ false → next_word (first (ps ++ rest)) ≡ false
endpoints_begin ps rest [] h e = ap (λ (z : Pieces). next_word (first (z ++ rest))) h ∙ e
endpoints_begin ps rest (x ∷ es) h e = ap (λ (z : Pieces). next_word (first (z ++ rest))) h.3 ∙ ap is_word h.4

pub endpoints_no_at : (ps rest : Pieces) (es : List Endpoint) → AreEndpoints ps es → next_at (first rest) ≡ false → next_at (first (ps ++ rest)) ≡ false
endpoints_no_at ps rest [] h e = ap (λ (z : Pieces). next_at (first (z ++ rest))) h ∙ e
endpoints_no_at ps rest (x ∷ es) h e = ap (λ (z : Pieces). next_at (first (z ++ rest))) h.3 ∙ ap is_at h.4

end_word : (rest : Pieces) → AtEnd (first rest) → next_word (first rest) ≡ false
end_word rest e = ap next_word e

no_endpoints : Sample AreEndpoints
no_endpoints = record { some = []; real = tt; value = []; spelled = refl }

other_sample : (e : Endpoint) → Sample (Others e)
other_sample e = record { some = []; real = tt; value = e ∷ []; spelled = ([], refl, refl) }

behind_sample : (c : Unit {0}) → Sample (Behind c)
behind_sample c =
    let s = endpoint_lawful.sample in
    record { some = s.some ++ []; real = subst AreReal (sym (append-nil s.some)) s.real; value = s.value ∷ []; spelled = (s.value, s.some, [], refl, s.spelled, ([], refl, refl)) }

chain_first : (p : Piece) (ps other : Pieces) → first (p ∷ ps) ≡ first other → endpoints_at other ≡ chain other
chain_first p ps [] e = absurd cc
chain_first p ps (q ∷ other) e = unrolled (q ∷ other)

found_within : (n : ℕ) (ps rest : Pieces) (es : List Endpoint) → length ps < n → endpoints_at ps ≡ Ok (es, rest) → Took AreEndpoints endpoints_at ps es rest
found_within zero ps rest es lt e = absurd (omega arith)
found_within (suc n) [] rest es lt e =
    let same = ok_parts [] es [] rest (sym (unrolled []) ∙ e) in
    record {
      taken = [];
      parts = same.1;
      spelled = subst (AreEndpoints []) same.0 refl;
      kept = λ other m. let empty = no_more other (sym m ∙ ap first (sym same.1)) in ap endpoints_at empty ∙ (unrolled [] ∙ (ap (λ (v : List Endpoint). answered v []) same.0 ∙ ap (answered es) (sym empty)));
    }
found_within (suc n) (p ∷ ps) rest es lt e = then_ok (Took AreEndpoints endpoints_at (p ∷ ps) es rest) (one_at colon_piece no_blame (p ∷ ps)) (λ c. behind c.0 c.1) (es, rest) (sym (unrolled (p ∷ ps)) ∙ e) (λ c mid d f.
    then_ok (Took AreEndpoints endpoints_at (p ∷ ps) es rest) (endpoint_at mid) (λ x. others x.0 x.1) (es, rest) f (λ x left g h.
    let short = colon_fewer (p ∷ ps) mid c d in
    let few = endpoint_fewer mid left x g in
    let tail = took_made (λ es. x ∷ es) AreEndpoints endpoints_at left rest es (λ ys end k. found_within n left end ys (omega (arith, short, few, lt)) k) h in
    let t = took_both Colon (one_at colon_piece no_blame) Behind behind (p ∷ ps) mid rest c es (one_took colon_piece no_blame (p ∷ ps) mid c d)
    (took_both AnEndpoint endpoint_at Others others mid left rest x es (endpoint_lawful.found mid left x g) tail) in
    record {
      taken = t.taken;
      parts = t.parts;
      spelled = chain_to t.taken es t.spelled;
      kept = λ other m. chain_first p ps (t.taken ++ other) (ap first t.parts ∙ first_append t.taken rest other m) ∙ t.kept other m;
    }))

stopped_within : (n : ℕ) (ps : Pieces) (stop : Stop) → length ps < n → endpoints_at ps ≡ Err stop → Stopped AreEndpoints endpoints_at ps stop
stopped_within zero ps stop lt e = absurd (omega arith)
stopped_within (suc n) [] stop lt e = let never = sym (unrolled []) ∙ e in absurd cc
stopped_within (suc n) (p ∷ ps) stop lt e = then_err (Stopped AreEndpoints endpoints_at (p ∷ ps) stop) (one_at colon_piece no_blame (p ∷ ps)) (λ c. behind c.0 c.1) stop (sym (unrolled (p ∷ ps)) ∙ e)
    (λ d.
    let r = one_refused colon_piece no_blame (p ∷ ps) stop d in
    record {
      front = [];
      parts = r.0;
      kept = λ other m.
          let same : first (p ∷ ps) ≡ first other = ap first r.0 ∙ m in
          let k = r.1 other same in
          (k.0, chain_first p ps other same ∙ ap (λ (q : Reading (Unit {0})). q >>> λ c. behind c.0 c.1) k.1);
      more = [];
      real = tt;
      value = [];
      spelled = refl;
    })
    (λ c mid d f. again (stopped_second Colon (one_at colon_piece no_blame) Behind behind (p ∷ ps) mid c stop (one_took colon_piece no_blame (p ∷ ps) mid c d)
    (then_err (Stopped (Behind c) (behind c) mid stop) (endpoint_at mid) (λ x. others x.0 x.1) stop f
    (λ g. stopped_first AnEndpoint endpoint_at Others others mid stop other_sample (endpoint_lawful.stopped mid stop g))
    (λ x left g h.
    let short = colon_fewer (p ∷ ps) mid c d in
    let few = endpoint_fewer mid left x g in
    stopped_second AnEndpoint endpoint_at Others others mid left x stop (endpoint_lawful.found mid left x g)
    (stopped_made (λ es. x ∷ es) AreEndpoints endpoints_at left stop (λ k. stopped_within n left stop (omega (arith, short, few, lt)) k) h)))))
  where
    again : Stopped Chain chain (p ∷ ps) stop → Stopped AreEndpoints endpoints_at (p ∷ ps) stop
    again s = record {
      front = s.front;
      parts = s.parts;
      kept = λ other m. let k = s.kept other m in (k.0, chain_first p ps (s.front ++ other) (ap first s.parts ∙ first_append s.front stop.behind other m) ∙ k.1);
      more = s.more;
      real = s.real;
      value = s.value;
      spelled = chain_to (s.front ++ s.more) s.value s.spelled;
    }

-- endpoints that stand, whatever follows that is no word
pub endpoints_before : (es : List Endpoint) (ps rest : Pieces) → AreEndpoints ps es → next_word (first rest) ≡ false → endpoints_at (ps ++ rest) ≡ (endpoints_at rest >>> λ ys. Ok (es ++ ys.0, ys.1))
endpoints_before [] ps rest h none = ap (λ (z : Pieces). endpoints_at (z ++ rest)) h ∙ sym (same_of (endpoints_at rest))
  where
    same_of : (m : Reading (List Endpoint)) → (m >>> λ ys. Ok ([] ++ ys.0, ys.1)) ≡ m
    same_of (Ok x) = refl
    same_of (Err s) = refl
endpoints_before (e ∷ es) ps rest h none =
    let p = h.0 in let a = h.1 in let b = h.2 in
    let whole : ps ++ rest ≡ p ∷ (a ++ (b ++ rest)) = ap (λ (z : Pieces). z ++ rest) h.3 ∙ ap (λ (z : Pieces). p ∷ z) (append_assoc a b rest) in
    let one : one_at colon_piece no_blame (p ∷ (a ++ (b ++ rest))) ≡ Ok (tt, a ++ (b ++ rest)) = one_only colon_piece no_blame (p ∷ []) (a ++ (b ++ rest)) tt (p, refl, ap colon_token h.4) in
    let two = endpoint_lawful.only a (b ++ rest) e h.5 (endpoints_begin b rest es h.6 none) in
    let three = endpoints_before es b rest h.6 none in
    ap endpoints_at whole ∙ (unrolled (p ∷ (a ++ (b ++ rest))) ∙ (ap (λ (m : Reading (Unit {0})). m >>> λ c. behind c.0 c.1) one ∙ (ap (λ (m : Reading Endpoint). m >>> λ x. others x.0 x.1) two
    ∙ (ap (with_first e) three ∙ grouped (endpoints_at rest)))))
  where
    grouped : (m : Reading (List Endpoint)) → with_first e (m >>> λ ys. Ok (es ++ ys.0, ys.1)) ≡ (m >>> λ ys. Ok ((e ∷ es) ++ ys.0, ys.1))
    grouped (Ok x) = refl
    grouped (Err s) = refl

pub endpoints_lawful : Lawful AreEndpoints endpoints_at AtEnd
endpoints_lawful = record {
  sample = no_endpoints;
  found = λ ps rest es e. found_within (suc (length ps)) ps rest es (omega arith) e;
  stopped = λ ps stop e. stopped_within (suc (length ps)) ps stop (omega arith) e;
  only = λ ps rest es h follows.
      let none = no_more rest follows in
      endpoints_before es ps rest h (ap next_word follows) ∙ (ap (λ (z : Pieces). endpoints_at z >>> λ ys. Ok (es ++ ys.0, ys.1)) none
      ∙ (ap (λ (m : Reading (List Endpoint)). m >>> λ ys. Ok (es ++ ys.0, ys.1)) (unrolled []) ∙ (ap (λ (v : List Endpoint). answered v []) (append-nil es) ∙ ap (answered es) (sym none))));
}

-- ---- where it is found

abbrev End : Pieces → Unit {0} → Type 0
End = Nothing tt

pub end_lawful : Lawful End end_at AtEnd
end_lawful = record {
  sample = record { some = []; real = tt; value = tt; spelled = (refl, refl) };
  found = found;
  stopped = stopped;
  only = λ taken rest u h follows.
      let none = no_more rest follows in
      ap (λ (z : Pieces). end_at (z ++ rest)) h.0 ∙ (ap end_at none ∙ ap (answered tt) (sym none));
} where
  found : (ps rest : Pieces) (u : Unit {0}) → end_at ps ≡ Ok (u, rest) → Took End end_at ps u rest
  found [] rest u e =
      let same = ok_parts tt u [] rest e in
      record { taken = []; parts = same.1; spelled = (refl, refl); kept = λ other m. let none = no_more other (sym m ∙ ap first (sym same.1)) in ap end_at none ∙ ap (answered tt) (sym none) }
  found (p ∷ ps) rest u e = absurd cc

  stopped : (ps : Pieces) (stop : Stop) → end_at ps ≡ Err stop → Stopped End end_at ps stop
  stopped [] stop e = absurd cc
  stopped (p ∷ ps) stop e =
      let same : p ∷ ps ≡ stop.behind = ap (λ (t : Stop). t.behind) (err_same {A = Unit {0}} (record { behind = p ∷ ps; blamed = None }) stop e) in
      record { front = []; parts = same; kept = λ other m. refuse other (ap first same ∙ m); more = []; real = tt; value = tt; spelled = (refl, refl) }
    where
      refuse : (other : Pieces) → Some p ≡ first other → (s : Stop) × (end_at other ≡ Err s)
      refuse [] m = absurd cc
      refuse (q ∷ other) m = (record { behind = q ∷ other; blamed = None }, refl)

abbrev At : Pieces → Unit {0} → Type 0
At = One at_piece no_blame

abbrev Located : Type 0
Located = List Endpoint × List ℕ

abbrev of_adapter : List ℕ → Unit {0} → Located
of_adapter x u = ([], x)

abbrev Closing : List ℕ → Pieces → Located → Type 0
Closing x = Made (of_adapter x) End

abbrev closing : List ℕ → Pieces → Reading Located
closing x ps = end_at ps >>> λ e. Ok (([], x), e.1)

abbrev Adapter : Unit {0} → Pieces → Located → Type 0
Adapter a = Then (Word text_of) Closing

abbrev adapter : Unit {0} → Pieces → Reading Located
adapter a ps = word_as text_of ps >>> λ x. closing x.0 x.1

at_is : (t : Token) → at_token t ≡ Some tt → t ≡ at
at_is (word bytes) e = absurd cc
at_is colon e = absurd cc
at_is at e = refl
at_is end e = absurd cc

at_lawful : Lawful At (one_at at_piece no_blame) Anything
at_lawful = lawful_one at_piece no_blame (record { some = piece at ∷ []; real = (tt, tt); value = tt; spelled = (piece at, refl, refl) }) Anything

adapters_lawful : Lawful (Then At Adapter) adapter_at AtEnd
adapters_lawful = lawful_both At (one_at at_piece no_blame) Adapter adapter Anything AtEnd at_lawful
    (λ a. lawful_both (Word text_of) (word_as text_of) Closing closing Anything AtEnd text_lawful (λ x. lawful_made (of_adapter x) End end_at AtEnd end_lawful) (λ x y b rest s f. tt)) (λ x y b rest s f. tt)

-- endpoints, or an adapter
abbrev pub Part : Bool → Pieces → Located → Type 0
Part true = Made (λ x. ([], x)) AnAdapter
Part false = Made (λ es. (es, [])) AreEndpoints

abbrev pub part_at : Bool → Pieces → Reading Located
part_at b ps = elim b [ true ↦ adapter_at ps | false ↦ endpoints_at ps >>> λ es. Ok ((es.0, []), es.1) ]

adapter_to : (ps : Pieces) (l : Located) → Then At Adapter ps l → Part true ps l
adapter_to ps l h =
    let p = h.4 in let a = h.5 in let m = a.5 in
    let rest : h.2 ≡ a.1 = a.3 ∙ (ap (λ (z : Pieces). a.1 ++ z) m.1.0 ∙ append-nil a.1) in
    (a.0, (p.0, a.1, h.3 ∙ (joined h.1 h.2 p.0 p.1 ∙ ap (λ (z : Pieces). p.0 ∷ z) rest), at_is p.0.token p.2, a.4), m.2)

adapter_from : (ps : Pieces) (l : Located) → Part true ps l → Then At Adapter ps l
adapter_from ps l h =
    let a = h.1 in
    (tt, a.0 ∷ [], a.1, a.2, (a.0, refl, ap at_token a.3), (h.0, a.1, [], sym (append-nil a.1), a.4, (tt, (refl, refl), h.2)))

part_lawful : (b : Bool) → Lawful (Part b) (part_at b) AtEnd
part_lawful true = lawful_same (Then At Adapter) (Part true) adapter_at AtEnd adapter_to adapter_from adapters_lawful
part_lawful false = lawful_made (λ es. (es, [])) AreEndpoints endpoints_at AtEnd endpoints_lawful

part_in : (b : Bool) (ps : Pieces) (l : Located) → Part b ps l → IsLocation ps l
part_in true ps l h = inr h
part_in false ps l h = inl h

pub by_part : (ps : Pieces) (b : Bool) → next_at (first ps) ≡ b → location_at ps ≡ part_at b ps
by_part ps b e = ap (λ (c : Bool). part_at c ps) e

location_found : (ps rest : Pieces) (l : Located) → location_at ps ≡ Ok (l, rest) → Took IsLocation location_at ps l rest
location_found ps rest l e =
    let b = next_at (first ps) in
    let t = (part_lawful b).found ps rest l e in
    record {
      taken = t.taken;
      parts = t.parts;
      spelled = part_in b t.taken l t.spelled;
      kept = λ other m. by_part (t.taken ++ other) b (ap next_at (sym (first_append t.taken rest other m) ∙ ap first (sym t.parts))) ∙ t.kept other m;
    }

location_stopped : (ps : Pieces) (stop : Stop) → location_at ps ≡ Err stop → Stopped IsLocation location_at ps stop
location_stopped ps stop e =
    let b = next_at (first ps) in
    let s = (part_lawful b).stopped ps stop e in
    record {
      front = s.front;
      parts = s.parts;
      kept = λ other m. let k = s.kept other m in (k.0, by_part (s.front ++ other) b (ap next_at (sym (first_append s.front stop.behind other m) ∙ ap first (sym s.parts))) ∙ k.1);
      more = s.more;
      real = s.real;
      value = s.value;
      spelled = part_in b (s.front ++ s.more) s.value s.spelled;
    }

location_only : (ps rest : Pieces) (l : Located) → IsLocation ps l → AtEnd (first rest) → location_at (ps ++ rest) ≡ Ok (l, rest)
location_only ps rest l (inl h) follows = by_part (ps ++ rest) false (endpoints_no_at ps rest h.0 h.1 (ap next_at follows)) ∙ (part_lawful false).only ps rest l h follows
location_only ps rest l (inr h) follows =
    let a = h.1 in
    by_part (ps ++ rest) true (ap (λ (z : Pieces). next_at (first (z ++ rest))) a.2 ∙ ap is_at a.3) ∙ (part_lawful true).only ps rest l h follows

pub location_lawful : Lawful IsLocation location_at AtEnd
location_lawful = record {
  sample = record { some = []; real = tt; value = ([], []); spelled = inl ([], refl, refl) };
  found = location_found;
  stopped = location_stopped;
  only = location_only;
}

location_begins : (ps rest : Pieces) (l : Located) → IsLocation ps l → AtEnd (first rest) → next_word (first (ps ++ rest)) ≡ false
location_begins ps rest l (inl h) follows = endpoints_begin ps rest h.0 h.1 (end_word rest follows)
location_begins ps rest l (inr h) follows = let a = h.1 in ap (λ (z : Pieces). next_word (first (z ++ rest))) a.2 ∙ ap is_word a.3

-- ---- a proxy

abbrev Given : Identity → Pieces → Identity × Options → Type 0
Given i = Made (λ o. (i, o)) TheOptions

abbrev given : Identity → Pieces → Reading (Identity × Options)
given i ps = the_options ps >>> λ o. Ok ((i, o.0), o.1)

pub named_lawful : Lawful AreNamed named_at NoWord
named_lawful = lawful_both (Word identity_of) (word_as identity_of) Given given Anything NoWord identity_lawful (λ i. lawful_made (λ o. (i, o)) TheOptions the_options NoWord the_options_lawful) (λ x y b rest s f. tt)

abbrev pub Found : Identity × Options → Pieces → Proxy → Type 0
Found named = Made (proxy_of named.0 named.1) IsLocation

abbrev pub found_at : Identity × Options → Pieces → Reading Proxy
found_at named ps = location_at ps >>> λ l. Ok (proxy_of named.0 named.1 l.0, l.1)

pub proxy_lawful : Lawful IsProxy proxy_at AtEnd
proxy_lawful = lawful_both AreNamed named_at Found found_at NoWord AtEnd named_lawful (λ named. lawful_made (proxy_of named.0 named.1) IsLocation location_at AtEnd location_lawful)
    (λ named p b rest s follows. location_begins b rest s.0 s.1 follows)

-- one identity and nothing behind it
abbrev pub sole_at : Pieces → Reading Identity
sole_at ps = word_as identity_of ps >>> λ i. end_at i.1 >>> λ e. Ok (i.0, e.1)

abbrev Alone : Identity → Pieces → Identity → Type 0
Alone i = Made (λ u. i) End

sole_to : (ps : Pieces) (i : Identity) → Then (Word identity_of) Alone ps i → Word identity_of ps i
sole_to ps i h =
    let m = h.5 in
    let rest : ps ≡ h.1 = h.3 ∙ (ap (λ (z : Pieces). h.1 ++ z) m.1.0 ∙ append-nil h.1) in
    subst (λ (z : Pieces). Word identity_of z i) (sym rest) (subst (Word identity_of h.1) (sym m.2) h.4)

sole_from : (ps : Pieces) (i : Identity) → Word identity_of ps i → Then (Word identity_of) Alone ps i
sole_from ps i h = (i, ps, [], sym (append-nil ps), h, (tt, (refl, refl), refl))

pub sole_lawful : Lawful (Word identity_of) sole_at AtEnd
sole_lawful = lawful_same (Then (Word identity_of) Alone) (Word identity_of) sole_at AtEnd sole_to sole_from
    (lawful_both (Word identity_of) (word_as identity_of) Alone (λ i ps. end_at ps >>> λ e. Ok (i, e.1)) Anything AtEnd identity_lawful (λ i. lawful_made (λ u. i) End end_at AtEnd end_lawful) (λ x y b rest s f. tt))
