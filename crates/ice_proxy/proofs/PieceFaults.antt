-- Where reading stops, a text breaks, and the place that is told is that of the piece, or of a type.
use Rattle.std.proofs.Common.{ℕ, ℤ, pos, negsuc, zero, suc, ◌<◌, ◌≡◌, Bool, true, false, eqb, cond, ◌&&◌, List, [], ◌∷◌, ◌++◌, length, Option, None, Some, Ok, Err, ◌⊎◌, inl, inr, codes, refl, sym, ap, subst, ◌∙◌, append_assoc, arith, zero-add}
use Rattle.std.specs.Option.{option_and_then}
use Rattle.std.specs.Str.{bytes_eq}
use Rattle.std.proofs.lemmas.Bool.{and_parts, eqb-true}
use Rattle.std.proofs.lemmas.List.{append_cancel_right}
use Rattle.std.proofs.lemmas.Slice.Eq.{bytes_eq-Decides}
use Rattle.ice_types.specs.declared.identity.Identity.{Identity}
use Rattle.ice_types.specs.declared.proxy.Endpoint.{Endpoint}
use Rattle.ice_types.specs.declared.proxy.Proxy.{Proxy}
use Rattle.ice_prims.specs.Rest.{whole}
use Rattle.ice_proxy.specs.declared.options.Options.{Options}
use Rattle.ice_proxy.specs.declared.options.Flag.{Flag}
use Rattle.ice_proxy.specs.declared.options.Flag.TheVariants as kinds
use Rattle.ice_proxy.specs.declared.tcp.TcpOptions.{TcpOptions}
use Rattle.ice_proxy.specs.declared.tcp.TcpFlag.{TcpFlag}
use Rattle.ice_proxy.specs.declared.tcp.TcpFlag.TheVariants as tcp_kinds
use Rattle.ice_proxy.specs.declared.endpoints.Transport.{Transport}
use Rattle.ice_proxy.specs.declared.endpoints.Transport.TheVariants as transport_kinds
use Rattle.ice_proxy.specs.Words.{Token, word, colon, at, end}
use Rattle.ice_proxy.specs.Looking.{Parsed}
use Rattle.ice_proxy.specs.Escapes.{text_of, identity_of}
use Rattle.ice_proxy.specs.Numbers.{number, timeout, version, hexadecimal}
use Rattle.ice_proxy.specs.Options.{listed, no_options, flags, is_given, no_tcp_options, tcp_flags, is_tcp_given}
use Rattle.ice_proxy.specs.Grammar.{transports, tcp_of, proxy_of, proxy_text}
use Rattle.ice_proxy.specs.IdentityText.{identity_text}
use Rattle.ice_proxy.specs.Pieces.{Piece, Pieces, HasPieces, first_place}
use Rattle.ice_proxy.specs.Spelled.{meant, this, Means, Word, Value, TcpValue, AreEndpoints, IsProxy, SpellsProxy, SpellsIdentity}
use Rattle.ice_proxy.specs.Breaks.{Breaks, IdentityBreaks, NamesTcp, Told, there, at_type, ProxyBreaks}
use Rattle.ice_proxy.proofs.PieceLaws.{Stop, Reading, ◌>>>◌, first, answered, Lawful, then_err, err_same, one_at, one_split, one_blame, one_refused, viewed}
use Rattle.ice_proxy.proofs.PieceReading.{is_word, is_at, next_word, next_at, no_blame, seen_as, word_as, colon_token, colon_piece, at_piece, end_at, options_at, value_at, tcp_value_at, is_tcp, typed, versioned, blamed_by, blame_type, opaque_at, endpoint_by, endpoint_at, endpoints_at, adapter_at, location_at, named_at, proxy_at}
use Rattle.ice_proxy.proofs.PieceOptions.{options_quiet}
use Rattle.ice_proxy.proofs.PieceProxy.{AtEnd, value_lawful, tcp_value_lawful, colon_fewer, endpoint_fewer, unrolled, endpoint_lawful, endpoints_before, endpoints_begin, endpoints_no_at, by_part, named_lawful, proxy_lawful, sole_lawful, sole_at, last, fourth, third, second, begin, made, behind, others, part_at, found_at}
use Rattle.ice_proxy.proofs.PieceBreaks as pieces_break
use Rattle.ice_proxy.proofs.PieceText.{pieces, Stands, told_by, told, Agree}
use Rattle.ice_proxy.proofs.PieceBridge.{proxy_agree, sole_agree}

-- ---- refusals that blame no other piece

abbrev Quiet : Stop → Type 0
Quiet stop = stop.blamed ≡ None

loud : (stop : Stop) (k : Piece) → Quiet stop → stop.blamed ≡ Some k → ⊥
loud stop k e f = let g = sym e ∙ f in absurd (never g)
  where
    never : ◌≡◌ {A = Option Piece} None (Some k) → ⊥
    never e = cc

word_quiet : {A : Type 0} (meaning : List ℕ → Option A) (ps : Pieces) (stop : Stop) → word_as meaning ps ≡ Err stop → Quiet stop
word_quiet meaning ps stop e = one_blame (seen_as meaning) no_blame ps stop e

-- what is made of a word
made_quiet : {A B : Type 0} (r : Reading A) (make : A → B) (stop : Stop) → (r ≡ Err stop → Quiet stop) → (r >>> λ x. Ok (make x.0, x.1)) ≡ Err stop → Quiet stop
made_quiet r make stop quiet e = then_err (Quiet stop) r (λ x. Ok (make x.0, x.1)) stop e quiet (λ x mid d f. absurd cc)

value_quiet : (flag : Flag) (o : Options) (ps : Pieces) (stop : Stop) → value_at flag o ps ≡ Err stop → Quiet stop
value_quiet kinds.Facet o ps stop e = made_quiet (word_as text_of ps) (λ x. record o { facet = Some x }) stop (word_quiet text_of ps stop) e
value_quiet (kinds.Mode n) o ps stop e = absurd cc
value_quiet kinds.Secure o ps stop e = absurd cc
value_quiet kinds.Protocol o ps stop e = made_quiet (word_as version ps) (λ x. record o { protocol = Some x }) stop (word_quiet version ps stop) e
value_quiet kinds.Encoding o ps stop e = made_quiet (word_as version ps) (λ x. record o { encoding = Some x }) stop (word_quiet version ps stop) e

tcp_value_quiet : (flag : TcpFlag) (o : TcpOptions) (ps : Pieces) (stop : Stop) → tcp_value_at flag o ps ≡ Err stop → Quiet stop
tcp_value_quiet tcp_kinds.Host o ps stop e = made_quiet (word_as text_of ps) (λ x. record o { host = Some x }) stop (word_quiet text_of ps stop) e
tcp_value_quiet tcp_kinds.Port o ps stop e = made_quiet (word_as (number 32) ps) (λ x. record o { port = Some x }) stop (word_quiet (number 32) ps stop) e
tcp_value_quiet tcp_kinds.Timeout o ps stop e = made_quiet (word_as timeout ps) (λ x. record o { timeout = Some x }) stop (word_quiet timeout ps stop) e
tcp_value_quiet tcp_kinds.Compress o ps stop e = absurd cc

named_quiet : (ps : Pieces) (stop : Stop) → named_at ps ≡ Err stop → Quiet stop
named_quiet ps stop e = then_err (Quiet stop) (word_as identity_of ps) (λ i. options_at flags is_given value_at no_options i.1 >>> λ o. Ok ((i.0, o.0), o.1)) stop e (word_quiet identity_of ps stop) (λ i mid d f.
    made_quiet (options_at flags is_given value_at no_options mid) (λ o. (i, o)) stop (options_quiet flags is_given Value value_at value_lawful value_quiet no_options mid stop) f)

end_quiet : (ps : Pieces) (stop : Stop) → end_at ps ≡ Err stop → Quiet stop
end_quiet [] stop e = absurd cc
end_quiet (p ∷ ps) stop e = sym (ap (λ (s : Stop). s.blamed) (err_same {A = Unit {0}} (record { behind = p ∷ ps; blamed = None }) stop e))

adapter_quiet : (ps : Pieces) (stop : Stop) → adapter_at ps ≡ Err stop → Quiet stop
adapter_quiet ps stop e = then_err (Quiet stop) (one_at at_piece no_blame ps) (λ a. word_as text_of a.1 >>> λ x. end_at x.1 >>> λ e. Ok (([], x.0), e.1)) stop e (one_blame at_piece no_blame ps stop) (λ a mid d f.
    then_err (Quiet stop) (word_as text_of mid) (λ x. end_at x.1 >>> λ e. Ok (([], x.0), e.1)) stop f (word_quiet text_of mid stop) (λ x left g h.
    made_quiet (end_at left) (λ u. ([], x)) stop (end_quiet left stop) h))

fourth_quiet : (kind : ℤ × Piece) (v : ℕ × ℕ) (ps : Pieces) (stop : Stop) → fourth kind v ps ≡ Err stop → Quiet stop
fourth_quiet kind v ps stop e = then_err (Quiet stop) (word_as (this (codes "-x")) ps) (λ x. last kind v x.1) stop e (word_quiet (this (codes "-x")) ps stop) (λ x mid d f.
    made_quiet (word_as hexadecimal mid) (made kind v) stop (word_quiet hexadecimal mid stop) f)

-- ---- the refusal that blames a type

tcp_parts : (z : ℤ) (v : ℕ × ℕ) → is_tcp z v ≡ true → (z ≡ pos 1) × (v ≡ (1, 1))
tcp_parts (negsuc n) v e = absurd cc
tcp_parts (pos n) (a, b) e =
    let one = and_parts (eqb n 1) (eqb a 1 && eqb b 1) e in
    let two = and_parts (eqb a 1) (eqb b 1) one.1 in
    (ap pos (eqb-true n 1 one.0), pair a b (eqb-true a 1 two.0) (eqb-true b 1 two.1))
  where
    pair : (a b : ℕ) → a ≡ 1 → b ≡ 1 → ◌≡◌ {A = ℕ × ℕ} (a, b) (1, 1)
    pair a b e f = rw (e, f) refl

-- Behind `opaque`: type 1, and version 1.1 is next.
record TcpNext (ps : Pieces) (stop : Stop) (k : Piece) : Type 0 where
  pub t : Piece
  pub m : Piece
  pub v : Piece
  pub rest : Pieces
  pub words : ps ≡ t ∷ k ∷ m ∷ v ∷ rest
  pub next : stop.behind ≡ v ∷ rest
  pub is_t : Means (this (codes "-t")) t tt
  pub is_k : Means (number 16) k (pos 1)
  pub is_m : Means (this (codes "-e")) m tt
  pub is_v : Means version v (1, 1)

record Named (kind : ℤ × Piece) (ps : Pieces) (k : Piece) : Type 0 where
  pub v : Piece
  pub rest : Pieces
  pub words : ps ≡ v ∷ rest
  pub same : kind.1 ≡ k
  pub is_k : kind.0 ≡ pos 1
  pub is_v : Means version v (1, 1)

abbrev some_version : ℕ × ℕ → Option (ℕ × ℕ)
some_version v = Some v

abbrev some_type : ℤ → Option ℤ
some_type z = Some z

abbrev pub with_piece : ℤ → Piece → Option (ℤ × Piece)
with_piece z p = Some (z, p)

named_type : (kind : ℤ × Piece) (ps : Pieces) (k : Piece) → blame_type kind ps ≡ Some k → Named kind ps k
named_type kind [] k e = absurd cc
named_type kind (v ∷ rest) k e = by (meant version v.token) refl e
  where
    tested : (b : Bool) (w : ℕ × ℕ) → is_tcp kind.0 w ≡ b → meant version v.token ≡ Some w → elim b as (λ c. Option Piece) [ true ↦ Some kind.1 | false ↦ None ] ≡ Some k → Named kind (v ∷ rest) k
    tested true w is seen e =
        let parts = tcp_parts kind.0 w is in
        record { v = v; rest = rest; words = refl; same = cc; is_k = parts.0; is_v = seen ∙ ap (λ (x : ℕ × ℕ). some_version x) parts.1 }
    tested false w is seen e = absurd cc

    by : (o : Option (ℕ × ℕ)) → meant version v.token ≡ o → blamed_by kind o ≡ Some k → Named kind (v ∷ rest) k
    by None seen e = absurd cc
    by (Some w) seen e = tested (is_tcp kind.0 w) w refl seen e

pub typed_is : (p : Piece) (o : Option ℤ) (kind : ℤ × Piece) → option_and_then (λ z. with_piece z p) o ≡ Some kind → (o ≡ Some kind.0) × (kind.1 ≡ p)
typed_is p None kind e = absurd cc
typed_is p (Some z) kind e = let same : (z, p) ≡ kind = cc in (ap (λ (k : ℤ × Piece). some_type k.0) same, sym (ap (λ (k : ℤ × Piece). k.1) same))

opaque_blame : (ps : Pieces) (stop : Stop) (k : Piece) → opaque_at ps ≡ Err stop → stop.blamed ≡ Some k → TcpNext ps stop k
opaque_blame ps stop k e is = then_err (TcpNext ps stop k) (word_as (this (codes "-t")) ps) (λ t. begin t.1) stop e (λ d. absurd (loud stop k (word_quiet (this (codes "-t")) ps stop d) is)) (λ u one d f.
    then_err (TcpNext ps stop k) (one_at typed no_blame one) (λ kind. second kind.0 kind.1) stop f (λ d2. absurd (loud stop k (one_blame typed no_blame one stop d2) is)) (λ kind two d2 f2.
    then_err (TcpNext ps stop k) (word_as (this (codes "-e")) two) (λ e. third kind e.1) stop f2 (λ d3. absurd (loud stop k (word_quiet (this (codes "-e")) two stop d3) is)) (λ w three d3 f3.
    then_err (TcpNext ps stop k) (one_at (versioned kind) (blame_type kind) three) (λ v. fourth kind v.0 v.1) stop f3
    (λ d4.
    let t = one_split (seen_as (this (codes "-t"))) no_blame ps one u d in
    let q = one_split typed no_blame one two kind d2 in
    let m = one_split (seen_as (this (codes "-e"))) no_blame two three w d3 in
    let n = named_type kind three k (sym (one_blame (versioned kind) (blame_type kind) three stop d4) ∙ is) in
    let left = (one_refused (versioned kind) (blame_type kind) three stop d4).0 in
    let parts = typed_is q.0 (meant (number 16) q.0.token) kind q.2 in
    let same : q.0 ≡ k = sym parts.1 ∙ n.same in
    let type_is : Means (number 16) q.0 (pos 1) = parts.0 ∙ ap some_type n.is_k in
    record {
      t = t.0;
      m = m.0;
      v = n.v;
      rest = n.rest;
      words = t.1 ∙ ap (λ (z : Pieces). t.0 ∷ z) (q.1 ∙ (ap (λ (x : Piece). x ∷ two) same ∙ ap (λ (z : Pieces). k ∷ z) (m.1 ∙ ap (λ (z : Pieces). m.0 ∷ z) n.words)));
      next = sym left ∙ n.words;
      is_t = t.2;
      is_k = subst (λ (x : Piece). Means (number 16) x (pos 1)) same type_is;
      is_m = m.2;
      is_v = n.is_v;
    })
    (λ v four d4 f4. absurd (loud stop k (fourth_quiet kind v four stop f4) is)))))

abbrev opaque_is : Bool → Option (Unit {0})
opaque_is b = cond b (Some tt) None

opaque_word : (t : Token) → meant (listed transports) t ≡ Some transport_kinds.Opaque → meant (this (codes "opaque")) t ≡ Some tt
opaque_word (word bytes) e = by (bytes_eq bytes (codes "tcp")) (bytes_eq bytes (codes "default")) (bytes_eq bytes (codes "opaque")) e
  where
    by : (a b c : Bool) → cond {A = Option Transport} a (Some transport_kinds.Tcp) (cond b (Some transport_kinds.Tcp) (cond c (Some transport_kinds.Opaque) None)) ≡ Some transport_kinds.Opaque → opaque_is c ≡ Some tt
    by true b c e = absurd cc
    by false true c e = absurd cc
    by false false true e = refl
    by false false false e = absurd cc
opaque_word colon e = absurd cc
opaque_word at e = absurd cc
opaque_word end e = absurd cc

word_opaque : (t : Token) → meant (this (codes "opaque")) t ≡ Some tt → meant (listed transports) t ≡ Some transport_kinds.Opaque
word_opaque (word bytes) e = by (bytes_eq bytes (codes "opaque")) refl e
  where
    by : (b : Bool) → bytes_eq bytes (codes "opaque") ≡ b → opaque_is b ≡ Some tt → listed transports bytes ≡ Some transport_kinds.Opaque
    by true is e = ap (listed transports) ((bytes_eq-Decides bytes (codes "opaque")).0 is)
    by false is e = absurd cc
word_opaque colon e = absurd cc
word_opaque at e = absurd cc
word_opaque end e = absurd cc

record EndpointNext (ps : Pieces) (stop : Stop) (k : Piece) : Type 0 where
  pub transport : Piece
  pub rest : Pieces
  pub words : ps ≡ transport ∷ rest
  pub is_opaque : Means (this (codes "opaque")) transport tt
  pub tcp : TcpNext rest stop k

endpoint_blame : (ps : Pieces) (stop : Stop) (k : Piece) → endpoint_at ps ≡ Err stop → stop.blamed ≡ Some k → EndpointNext ps stop k
endpoint_blame ps stop k e is = then_err (EndpointNext ps stop k) (word_as (listed transports) ps) (λ t. endpoint_by t.0 t.1) stop e (λ d. absurd (loud stop k (word_quiet (listed transports) ps stop d) is)) (λ t mid d f. by t mid d f)
  where
    by : (t : Transport) (mid : Pieces) → word_as (listed transports) ps ≡ Ok (t, mid) → endpoint_by t mid ≡ Err stop → EndpointNext ps stop k
    by transport_kinds.Tcp mid d f = absurd (loud stop k (made_quiet (options_at tcp_flags is_tcp_given tcp_value_at no_tcp_options mid) tcp_of stop
        (options_quiet tcp_flags is_tcp_given TcpValue tcp_value_at tcp_value_lawful tcp_value_quiet no_tcp_options mid stop) f) is)
    by transport_kinds.Opaque mid d f =
        let o = one_split (seen_as (listed transports)) no_blame ps mid transport_kinds.Opaque d in
        record { transport = o.0; rest = mid; words = o.1; is_opaque = opaque_word o.0.token o.2; tcp = opaque_blame mid stop k f is }

record Blamed (ps : Pieces) (stop : Stop) (k : Piece) : Type 0 where
  pub middle : Pieces
  pub endpoints : List Endpoint
  pub mark : Piece
  pub rest : Pieces
  pub words : ps ≡ middle ++ mark ∷ rest
  pub are_endpoints : AreEndpoints middle endpoints
  pub is_mark : mark.token ≡ colon
  pub next : EndpointNext rest stop k

colon_is : (t : Token) → colon_token t ≡ Some tt → t ≡ colon
colon_is (word bytes) e = absurd cc
colon_is colon e = refl
colon_is at e = absurd cc
colon_is end e = absurd cc

endpoints_blame : (n : ℕ) (ps : Pieces) (stop : Stop) (k : Piece) → length ps < n → endpoints_at ps ≡ Err stop → stop.blamed ≡ Some k → Blamed ps stop k
endpoints_blame zero ps stop k lt e is = absurd (omega arith)
endpoints_blame (suc n) [] stop k lt e is = let never = sym (unrolled []) ∙ e in absurd cc
endpoints_blame (suc n) (p ∷ ps) stop k lt e is = then_err (Blamed (p ∷ ps) stop k) (one_at colon_piece no_blame (p ∷ ps)) (λ c. behind c.0 c.1) stop (sym (unrolled (p ∷ ps)) ∙ e) (λ d. absurd (loud stop k (one_blame colon_piece no_blame (p ∷ ps) stop d) is)) (λ c mid d f.
    then_err (Blamed (p ∷ ps) stop k) (endpoint_at mid) (λ x. others x.0 x.1) stop f
    (λ g.
    let m = one_split colon_piece no_blame (p ∷ ps) mid c d in
    record { middle = []; endpoints = []; mark = m.0; rest = mid; words = m.1; are_endpoints = refl; is_mark = colon_is m.0.token m.2; next = endpoint_blame mid stop k g is })
    (λ x left g h.
    then_err (Blamed (p ∷ ps) stop k) (endpoints_at left) (λ es. Ok (x ∷ es.0, es.1)) stop h
    (λ a.
    let short = colon_fewer (p ∷ ps) mid c d in
    let few = endpoint_fewer mid left x g in
    let b = endpoints_blame n left stop k (omega (arith, short, few, lt)) a is in
    let m = one_split colon_piece no_blame (p ∷ ps) mid c d in
    let t = endpoint_lawful.found mid left x g in
    record {
      middle = m.0 ∷ (t.taken ++ b.middle);
      endpoints = x ∷ b.endpoints;
      mark = b.mark;
      rest = b.rest;
      words = m.1 ∙ ap (λ (z : Pieces). m.0 ∷ z) (t.parts ∙ (ap (λ (z : Pieces). t.taken ++ z) b.words ∙ sym (append_assoc t.taken b.middle (b.mark ∷ b.rest))));
      are_endpoints = (m.0, t.taken, b.middle, refl, colon_is m.0.token m.2, t.spelled, b.are_endpoints);
      is_mark = b.is_mark;
      next = b.next;
    })
    (λ es end a b. absurd cc)))

abbrev Reached : Pieces → Stop → Piece → Type 0
Reached ps stop k = (before : Pieces) × (ps ≡ before ++ stop.behind) × NamesTcp before stop.behind k

location_blame : (ps : Pieces) (stop : Stop) (k : Piece) → location_at ps ≡ Err stop → stop.blamed ≡ Some k → Blamed ps stop k
location_blame ps stop k e is = by (next_at (first ps)) e
  where
    by : (b : Bool) → part_at b ps ≡ Err stop → Blamed ps stop k
    by true e = absurd (loud stop k (adapter_quiet ps stop e) is)
    by false e = then_err (Blamed ps stop k) (endpoints_at ps) (λ es. Ok ((es.0, []), es.1)) stop e (λ d. endpoints_blame (suc (length ps)) ps stop k (omega arith) d is) (λ es mid d f. absurd cc)

proxy_blame : (ps : Pieces) (stop : Stop) (k : Piece) → proxy_at ps ≡ Err stop → stop.blamed ≡ Some k → Reached ps stop k
proxy_blame ps stop k e is = then_err (Reached ps stop k) (named_at ps) (λ named. found_at named.0 named.1) stop e (λ d. absurd (loud stop k (named_quiet ps stop d) is)) (λ named mid d f.
    then_err (Reached ps stop k) (location_at mid) (λ l. Ok (proxy_of named.0 named.1 l.0, l.1)) stop f
    (λ g.
    let t = named_lawful.found ps mid named d in
    let b = location_blame mid stop k g is in
    let x = b.next in
    let y = x.tcp in
    let front : Pieces = b.mark ∷ x.transport ∷ y.t ∷ k ∷ y.m ∷ [] in
    let tail : b.mark ∷ b.rest ≡ front ++ (y.v ∷ y.rest) = ap (λ (z : Pieces). b.mark ∷ z) (x.words ∙ ap (λ (z : Pieces). x.transport ∷ z) y.words) in
    let inner : mid ≡ (b.middle ++ front) ++ (y.v ∷ y.rest) = b.words ∙ (ap (λ (z : Pieces). b.middle ++ z) tail ∙ sym (append_assoc b.middle front (y.v ∷ y.rest))) in
    let parts : ps ≡ (t.taken ++ (b.middle ++ front)) ++ (y.v ∷ y.rest) = t.parts ∙ (ap (λ (z : Pieces). t.taken ++ z) inner ∙ sym (append_assoc t.taken (b.middle ++ front) (y.v ∷ y.rest))) in (
      t.taken ++ (b.middle ++ front),
      parts ∙ ap (λ (z : Pieces). (t.taken ++ (b.middle ++ front)) ++ z) (sym y.next),
      record {
        head = t.taken;
        middle = b.middle;
        rest = y.rest;
        mark = b.mark;
        transport = x.transport;
        type_option = y.t;
        version_option = y.m;
        versions = y.v;
        named = named;
        endpoints = b.endpoints;
        is_named = t.spelled;
        are_endpoints = b.are_endpoints;
        words = refl;
        next = y.next;
        is_mark = b.is_mark;
        is_opaque = x.is_opaque;
        is_type_option = y.is_t;
        is_type = y.is_k;
        is_version_option = y.is_m;
        is_version = y.is_v;
      },
    ))
    (λ l left g h. absurd cc))

-- ---- the type that is blamed wherever it names TCP

abbrev seen_unit : Option (Unit {0}) → Piece → Pieces → Reading (Unit {0})
seen_unit o p ps = viewed (λ q. Some tt) no_blame o (p ∷ ps) ps

opaque_named : (t k m v : Piece) (rest : Pieces) → Means (this (codes "-t")) t tt → Means (number 16) k (pos 1) → Means (this (codes "-e")) m tt → Means version v (1, 1)
    → opaque_at (t ∷ k ∷ m ∷ v ∷ rest) ≡ Err (record { behind = v ∷ rest; blamed = Some k })
opaque_named t k m v rest is_t is_k is_m is_v =
    ap (λ (o : Option (Unit {0})). seen_unit o t (k ∷ m ∷ v ∷ rest) >>> λ u. begin u.1) is_t
    ∙ (ap (λ (o : Option ℤ). seen_kind (option_and_then (λ z. with_piece z k) o) >>> λ kind. second kind.0 kind.1) is_k
    ∙ (ap (λ (o : Option (Unit {0})). seen_unit o m (v ∷ rest) >>> λ u. third (pos 1, k) u.1) is_m
    ∙ (ap (λ (o : Option (ℕ × ℕ)). seen_version (option_and_then unless_tcp o) >>> λ w. fourth (pos 1, k) w.0 w.1) is_v
    ∙ ap (λ (b : Option Piece). refusing b) (ap (blamed_by (pos 1, k)) is_v))))
  where
    unless_tcp : ℕ × ℕ → Option (ℕ × ℕ)
    unless_tcp w = elim (is_tcp (pos 1) w) [ true ↦ None | false ↦ Some w ]

    seen_kind : Option (ℤ × Piece) → Reading (ℤ × Piece)
    seen_kind o = viewed typed no_blame o (k ∷ m ∷ v ∷ rest) (m ∷ v ∷ rest)

    seen_version : Option (ℕ × ℕ) → Reading (ℕ × ℕ)
    seen_version o = viewed (versioned (pos 1, k)) (blame_type (pos 1, k)) o (v ∷ rest) rest

    refusing : Option Piece → Reading Endpoint
    refusing b = Err (record { behind = v ∷ rest; blamed = b })

endpoint_named : (o : Piece) (rest : Pieces) (stop : Stop) → Means (this (codes "opaque")) o tt → opaque_at rest ≡ Err stop → endpoint_at (o ∷ rest) ≡ Err stop
endpoint_named o rest stop is e = ap (λ (v : Option Transport). seen v >>> λ t. endpoint_by t.0 t.1) (word_opaque o.token is) ∙ e
  where
    seen : Option Transport → Reading Transport
    seen v = viewed (seen_as (listed transports)) no_blame v (o ∷ rest) rest

abbrev failing : {A B : Type 0} → (A × Pieces → Reading B) → Reading A → Reading B
failing f m = m >>> f

endpoints_named : (c : Piece) (rest : Pieces) (stop : Stop) → c.token ≡ colon → endpoint_at rest ≡ Err stop → endpoints_at (c ∷ rest) ≡ Err stop
endpoints_named c rest stop is e = unrolled (c ∷ rest) ∙ (ap (λ (o : Option (Unit {0})). seen_unit o c rest >>> λ u. behind u.0 u.1) (ap colon_token is) ∙ ap (failing (λ x. others x.0 x.1)) e)

proxy_named : (before left : Pieces) (k : Piece) → NamesTcp before left k → proxy_at (before ++ left) ≡ Err (record { behind = left; blamed = Some k })
proxy_named before left k n =
    let stop : Stop = record { behind = n.versions ∷ n.rest; blamed = Some k } in
    let tail : Pieces = n.mark ∷ n.transport ∷ n.type_option ∷ k ∷ n.version_option ∷ n.versions ∷ n.rest in
    let front : Pieces = n.mark ∷ n.transport ∷ n.type_option ∷ k ∷ n.version_option ∷ [] in
    let parts : before ++ left ≡ n.head ++ (n.middle ++ tail) =
    ap (λ (z : Pieces). z ++ left) n.words ∙ (ap (λ (z : Pieces). (n.head ++ (n.middle ++ front)) ++ z) n.next ∙ (append_assoc n.head (n.middle ++ front) (n.versions ∷ n.rest) ∙ ap (λ (z : Pieces). n.head ++ z) (append_assoc n.middle front (n.versions ∷ n.rest)))) in
    let no_word : next_word (first (n.middle ++ tail)) ≡ false = endpoints_begin n.middle tail n.endpoints n.are_endpoints (ap is_word n.is_mark) in
    let no_at : next_at (first (n.middle ++ tail)) ≡ false = endpoints_no_at n.middle tail n.endpoints n.are_endpoints (ap is_at n.is_mark) in
    let opaque = opaque_named n.type_option k n.version_option n.versions n.rest n.is_type_option n.is_type n.is_version_option n.is_version in
    let refused = endpoints_named n.mark (n.transport ∷ n.type_option ∷ k ∷ n.version_option ∷ n.versions ∷ n.rest) stop n.is_mark (endpoint_named n.transport (n.type_option ∷ k ∷ n.version_option ∷ n.versions ∷ n.rest) stop n.is_opaque opaque) in
    let ends = endpoints_before n.endpoints n.middle tail n.are_endpoints (ap is_word n.is_mark) ∙ ap (failing (λ ys. Ok (n.endpoints ++ ys.0, ys.1))) refused in
    let located : location_at (n.middle ++ tail) ≡ Err stop = by_part (n.middle ++ tail) false no_at ∙ ap (failing (λ es. Ok ((es.0, []), es.1))) ends in
    ap proxy_at parts ∙ (ap (failing (λ named. found_at named.0 named.1)) (named_lawful.only n.head (n.middle ++ tail) n.named n.is_named no_word)
    ∙ (ap (failing (λ l. Ok (proxy_of n.named.0 n.named.1 l.0, l.1))) located ∙ ap (λ (z : Pieces). refusing z) (sym n.next)))
  where
    refusing : Pieces → Reading Proxy
    refusing z = Err (record { behind = z; blamed = Some k })

-- ---- texts of proxies

pub whole_stands : (text : List ℕ) (ps : Pieces) → HasPieces (whole text) ps → Stands (length text) (whole text) ps
whole_stands text ps h = record { has = h; ends = zero-add (length text) }

abbrev ok : {A : Type 0} → A → Parsed A
ok x = Ok x

agree_ok : {A : Type 0} (size : ℕ) (m : Parsed A) (x : A) (rest : Pieces) → Agree size m (Ok (x, rest)) → (m ≡ Ok x) × (rest ≡ [])
agree_ok size (Ok y) x rest h = (ap ok h.0, h.1)
agree_ok size (Err place) x rest h = absurd h

agree_err : {A : Type 0} (size : ℕ) (m : Parsed A) (stop : Stop) → Agree size m (Err stop) → m ≡ Err (told size stop)
agree_err size (Ok y) stop h = absurd h
agree_err size (Err place) stop h = ap (λ (n : ℕ). Err n) h

same_ok : {A : Type 0} (m : Parsed A) (x y : A) → m ≡ Ok x → m ≡ Ok y → x ≡ y
same_ok m x y e f = let g = sym e ∙ f in only g
  where
    only : ok x ≡ ok y → x ≡ y
    only g = cc

same_err : {A : Type 0} (m : Parsed A) (a b : ℕ) → m ≡ Err a → m ≡ Err b → a ≡ b
same_err {A = A} m a b e f = let g = sym e ∙ f in only g
  where
    only : ◌≡◌ {A = Parsed A} (Err a) (Err b) → a ≡ b
    only g = cc

never_ok : {A : Type 0} (m : Parsed A) (x : A) (a : ℕ) → m ≡ Ok x → m ≡ Err a → ⊥
never_ok m x a e f = let g = sym e ∙ f in differ g
  where
    differ : ok x ≡ Err a → ⊥
    differ g = cc

-- Whatever a text is read as piece by piece, told of it and of where it breaks.
module _ {A : Type 0} (P : Pieces → A → Type 0) (r : Pieces → Reading A) (g : Lawful P r AtEnd) (m : Parsed A) (size : ℕ) (ps : Pieces) (agree : Agree size m (r ps)) where
  read_from : (x : A) → P ps x → m ≡ Ok x
  read_from x h = (agree_ok size m x [] (subst (Agree size m) (pieces_break.reads P r g ps x h) agree)).0

  read_to : (x : A) → m ≡ Ok x → P ps x
  read_to x e = by (r ps) refl agree
    where
      by : (n : Reading A) → r ps ≡ n → Agree size m n → P ps x
      by (Ok y) is h =
          let k = agree_ok size m y.0 y.1 h in
          let same = same_ok m y.0 x k.0 e in
          pieces_break.stands P r g ps x (is ∙ (ap (answered y.0) k.1 ∙ ap (λ (v : A). answered v []) same))
      by (Err stop) is h = absurd (never_ok m x (told size stop) e (agree_err size m stop h))

  fault_to : (place : ℕ) → m ≡ Err place → (stop : Stop) × (before : Pieces) × (r ps ≡ Err stop) × (place ≡ told size stop) × Breaks P ps before stop.behind
  fault_to place e = by (r ps) refl agree
    where
      by : (n : Reading A) → r ps ≡ n → Agree size m n → (stop : Stop) × (before : Pieces) × (r ps ≡ Err stop) × (place ≡ told size stop) × Breaks P ps before stop.behind
      by (Ok y) is h = absurd (never_ok m y.0 place (agree_ok size m y.0 y.1 h).0 e)
      by (Err stop) is h =
          let b = pieces_break.breaks P r g ps stop is in
          (stop, b.0, is, same_err m place (told size stop) e (agree_err size m stop h), b.1)

  pub fault_from : (before left : Pieces) → Breaks P ps before left → (stop : Stop) × (r ps ≡ Err stop) × (stop.behind ≡ left) × (m ≡ Err (told size stop))
  fault_from before left b =
      let k = pieces_break.refused P r g ps before left (λ x rest e. (agree_ok size m x rest (subst (Agree size m) e agree)).1) b in
      (k.0, k.1, k.2, agree_err size m k.0 (subst (Agree size m) k.1 agree))

pub spelled_proxy : (text : List ℕ) (p : Proxy) → proxy_text text ≡ Ok p → SpellsProxy text p
spelled_proxy text p e =
    let ps = pieces (whole text) in
    (ps.0, ps.1, read_to IsProxy proxy_at proxy_lawful (proxy_text text) (length text) ps.0 (proxy_agree (length text) text ps.0 (whole_stands text ps.0 ps.1)) p e)

pub proxy_spelled : (text : List ℕ) (p : Proxy) → SpellsProxy text p → proxy_text text ≡ Ok p
proxy_spelled text p h = read_from IsProxy proxy_at proxy_lawful (proxy_text text) (length text) h.0 (proxy_agree (length text) text h.0 (whole_stands text h.0 h.1)) p h.2

told_here : (size : ℕ) (ps before : Pieces) (stop : Stop) (place : ℕ) → proxy_at ps ≡ Err stop → ps ≡ before ++ stop.behind → place ≡ told size stop → Told size before stop.behind place
told_here size ps before stop place e parts is = by stop.blamed refl
  where
    by : (o : Option Piece) → stop.blamed ≡ o → Told size before stop.behind place
    by None none = there (λ k n.
        let again = proxy_named before stop.behind k n in
        let same = err_same {A = Proxy} stop (record { behind = stop.behind; blamed = Some k }) (sym e ∙ (ap proxy_at parts ∙ again)) in
        loud stop k none (ap (λ (s : Stop). s.blamed) same)) (is ∙ ap (λ (o : Option Piece). told_by size o stop.behind) none)
    by (Some k) some =
        let b = proxy_blame ps stop k e some in
        let same : b.0 ≡ before = append_cancel_right b.0 before stop.behind (sym b.1 ∙ parts) in
        at_type k (subst (λ (z : Pieces). NamesTcp z stop.behind k) same b.2) (is ∙ ap (λ (o : Option Piece). told_by size o stop.behind) some)

told_of : (size : ℕ) (ps before left : Pieces) (stop : Stop) (place : ℕ) → proxy_at ps ≡ Err stop → ps ≡ before ++ left → stop.behind ≡ left → Told size before left place → told size stop ≡ place
told_of size ps before left stop place e parts same (there none is) = by stop.blamed refl
  where
    by : (o : Option Piece) → stop.blamed ≡ o → told size stop ≡ place
    by None none = ap (λ (o : Option Piece). told_by size o stop.behind) none ∙ (ap (first_place size) same ∙ sym is)
    by (Some k) some =
        let b = proxy_blame ps stop k e some in
        let before_is : b.0 ≡ before = append_cancel_right b.0 before stop.behind (sym b.1 ∙ (parts ∙ ap (λ (z : Pieces). before ++ z) (sym same))) in
        absurd (none k (subst (λ (z : Pieces). NamesTcp z left k) before_is (subst (λ (z : Pieces). NamesTcp b.0 z k) same b.2)))
told_of size ps before left stop place e parts same (at_type k n is) =
    let again = proxy_named before left k n in
    let stops = err_same {A = Proxy} stop (record { behind = left; blamed = Some k }) (sym e ∙ (ap proxy_at parts ∙ again)) in
    ap (told size) stops ∙ sym is

pub proxy_broken : (text : List ℕ) (place : ℕ) → proxy_text text ≡ Err place → ProxyBreaks text place
proxy_broken text place e =
    let ps = pieces (whole text) in
    let f = fault_to IsProxy proxy_at proxy_lawful (proxy_text text) (length text) ps.0 (proxy_agree (length text) text ps.0 (whole_stands text ps.0 ps.1)) place e in
    let b = f.4 in
    (ps.0, f.1, f.0.behind, ps.1, b, told_here (length text) ps.0 f.1 f.0 place f.2 b.parts f.3)

pub broken_proxy : (text : List ℕ) (place : ℕ) → ProxyBreaks text place → proxy_text text ≡ Err place
broken_proxy text place h =
    let b = h.4 in
    let f = fault_from IsProxy proxy_at proxy_lawful (proxy_text text) (length text) h.0 (proxy_agree (length text) text h.0 (whole_stands text h.0 h.3)) h.1 h.2 b in
    f.3 ∙ ap (λ (n : ℕ). Err n) (told_of (length text) h.0 h.1 h.2 f.0 place f.1 b.parts f.2 h.5)

-- ---- texts of identities

pub spelled_identity : (text : List ℕ) (i : Identity) → identity_text text ≡ Ok i → SpellsIdentity text i
spelled_identity text i e =
    let ps = pieces (whole text) in
    (ps.0, ps.1, read_to (Word identity_of) sole_at sole_lawful (identity_text text) (length text) ps.0 (sole_agree (length text) (whole text) ps.0 (whole_stands text ps.0 ps.1)) i e)

pub identity_spelled : (text : List ℕ) (i : Identity) → SpellsIdentity text i → identity_text text ≡ Ok i
identity_spelled text i h = read_from (Word identity_of) sole_at sole_lawful (identity_text text) (length text) h.0 (sole_agree (length text) (whole text) h.0 (whole_stands text h.0 h.1)) i h.2

sole_quiet : (ps : Pieces) (stop : Stop) → sole_at ps ≡ Err stop → Quiet stop
sole_quiet ps stop e = then_err (Quiet stop) (word_as identity_of ps) (λ i. end_at i.1 >>> λ u. Ok (i.0, u.1)) stop e (word_quiet identity_of ps stop) (λ i mid d f. made_quiet (end_at mid) (λ u. i) stop (end_quiet mid stop) f)

pub identity_broken : (text : List ℕ) (place : ℕ) → identity_text text ≡ Err place → IdentityBreaks text place
identity_broken text place e =
    let ps = pieces (whole text) in
    let f = fault_to (Word identity_of) sole_at sole_lawful (identity_text text) (length text) ps.0 (sole_agree (length text) (whole text) ps.0 (whole_stands text ps.0 ps.1)) place e in
    (ps.0, f.1, f.0.behind, ps.1, f.4, f.3 ∙ ap (λ (o : Option Piece). told_by (length text) o f.0.behind) (sole_quiet ps.0 f.0 f.2))

pub broken_identity : (text : List ℕ) (place : ℕ) → IdentityBreaks text place → identity_text text ≡ Err place
broken_identity text place h =
    let f = fault_from (Word identity_of) sole_at sole_lawful (identity_text text) (length text) h.0 (sole_agree (length text) (whole text) h.0 (whole_stands text h.0 h.3)) h.1 h.2 h.4 in
    f.3 ∙ ap (λ (n : ℕ). Err n) (ap (λ (o : Option Piece). told_by (length text) o f.0.behind) (sole_quiet h.0 f.0 f.1) ∙ (ap (first_place (length text)) f.2 ∙ sym h.5))

-- ---- one or the other

-- Whatever is read of a text, it stands for something or breaks.
module _ {A : Type 0} (m : List ℕ → Parsed A) (S : List ℕ → A → Type 0) (B : List ℕ → ℕ → Type 0) (spelled : (text : List ℕ) (x : A) → m text ≡ Ok x → S text x) (read : (text : List ℕ) (x : A) → S text x → m text ≡ Ok x)
    (broken : (text : List ℕ) (place : ℕ) → m text ≡ Err place → B text place) (refused : (text : List ℕ) (place : ℕ) → B text place → m text ≡ Err place) where
  pub one_or_other : (text : List ℕ) → ((x : A) × S text x) ⊎ ((place : ℕ) × B text place)
  one_or_other text = by (m text) refl
    where
      by : (r : Parsed A) → m text ≡ r → ((x : A) × S text x) ⊎ ((place : ℕ) × B text place)
      by (Ok x) e = inl (x, spelled text x e)
      by (Err place) e = inr (place, broken text place e)

  pub one_value : (text : List ℕ) (x y : A) → S text x → S text y → x ≡ y
  one_value text x y h k = same_ok (m text) x y (read text x h) (read text y k)

  pub one_place : (text : List ℕ) (a b : ℕ) → B text a → B text b → a ≡ b
  one_place text a b h k = same_err (m text) a b (refused text a h) (refused text b k)

  pub not_both : (text : List ℕ) (x : A) (place : ℕ) → S text x → ¬ B text place
  not_both text x place h k = never_ok (m text) x place (read text x h) (refused text place k)
