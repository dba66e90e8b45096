-- A text is read as its pieces are.
use Rattle.std.proofs.Common.{ℕ, ℤ, pos, negsuc, zero, suc, ◌<◌, ◌≤◌, ◌≡◌, ◌≢◌, Bool, true, false, cond, List, [], ◌∷◌, length, Option, None, Some, Ok, Err, codes, refl, sym, ap, subst, ◌∙◌, arith}
use Rattle.std.specs.Option.{option_and_then}
use Rattle.ice_types.specs.declared.identity.Identity.{Identity}
use Rattle.ice_types.specs.declared.proxy.Endpoint.{Endpoint}
use Rattle.ice_types.specs.declared.proxy.Endpoint.TheVariants.{Opaque}
use Rattle.ice_types.specs.declared.proxy.Proxy.{Proxy}
use Rattle.ice_prims.specs.Rest.{Rest, whole}
use Rattle.ice_proxy.specs.declared.options.Options.{Options}
use Rattle.ice_proxy.specs.declared.options.Flag.{Flag}
use Rattle.ice_proxy.specs.declared.options.Flag.TheVariants as kinds
use Rattle.ice_proxy.specs.declared.tcp.TcpOptions.{TcpOptions}
use Rattle.ice_proxy.specs.declared.tcp.TcpFlag.{TcpFlag}
use Rattle.ice_proxy.specs.declared.tcp.TcpFlag.TheVariants as tcp_kinds
use Rattle.ice_proxy.specs.declared.endpoints.Transport.{Transport}
use Rattle.ice_proxy.specs.declared.endpoints.Transport.TheVariants as transport_kinds
use Rattle.ice_proxy.specs.Words.{Token, word, colon, at, end, next}
use Rattle.ice_proxy.specs.Escapes.{text_of, identity_of}
use Rattle.ice_proxy.specs.Numbers.{number, timeout, version, hexadecimal}
use Rattle.ice_proxy.specs.Looking as looking
use Rattle.ice_proxy.specs.Looking.{Parsed, ◌>>=◌}
use Rattle.ice_proxy.specs.Options as given_options
use Rattle.ice_proxy.specs.Options.{listed, no_options, flags, is_given, no_tcp_options, tcp_flags, is_tcp_given}
use Rattle.ice_proxy.specs.Grammar as grammar
use Rattle.ice_proxy.specs.Grammar.{transports, tcp_of, proxy_of, proxy_text}
use Rattle.ice_proxy.specs.IdentityText.{alone, sole, identity_from}
use Rattle.ice_proxy.specs.Pieces.{Piece, Pieces, HasPieces}
use Rattle.ice_proxy.specs.Spelled.{meant, this, fresh, Value, TcpValue}
use Rattle.ice_proxy.proofs.PieceLaws.{Reading, ◌>>>◌, first, Lawful, one_at, viewed}
use Rattle.ice_proxy.proofs.PieceReading.{is_word, next_word, no_blame, seen_as, word_as, colon_token, colon_piece, at_token, at_piece, is_at, end_at, option_at, options_at, value_at, tcp_value_at, is_tcp, typed, versioned, blamed_by, blame_type, opaque_at, endpoint_by, endpoint_at, endpoints_at, adapter_at, location_at, proxy_at}
use Rattle.ice_proxy.proofs.PieceOptions as reading
use Rattle.ice_proxy.proofs.PieceOptions.{Anything}
use Rattle.ice_proxy.proofs.PieceProxy.{value_lawful, tcp_value_lawful, endpoint_fewer, unrolled, sole_at, last, fourth, third, second, begin}
use Rattle.ice_proxy.proofs.PieceText.{pieces_short, end_place, Stands, behind_next, Alike, Agree, Same, alike_then, agree_then, agree_made, word_by}

-- ---- one word

meant_none : {A : Type 0} (meaning : List ℕ → Option A) (t : Token) → ((bytes : List ℕ) → t ≡ word bytes → ⊥) → meant meaning t ≡ None
meant_none meaning (word bytes) h = absurd (h bytes refl)
meant_none meaning colon h = refl
meant_none meaning at h = refl
meant_none meaning end h = refl

abbrev giving : {A : Type 0} → A × Rest → Parsed (A × Rest)
giving x = Ok x

abbrev taking : {A : Type 0} → A × Pieces → Reading A
taking x = Ok x

give_same : {A : Type 0} (m : Parsed (A × Rest)) → (m >>= giving) ≡ m
give_same (Ok x) = refl
give_same (Err place) = refl

take_same : {A : Type 0} (m : Reading A) → (m >>> taking) ≡ m
take_same (Ok x) = refl
take_same (Err s) = refl

-- a word of the same meaning
pub word_alike : {A : Type 0} (meaning : List ℕ → Option A) (size : ℕ) (r : Rest) (ps : Pieces) → Stands size r ps → Alike size Same (looking.word_as meaning r) (word_as meaning ps)
word_alike {A = A} meaning size r ps h =
    subst (λ (m : Parsed (A × Rest)). Alike size Same m (word_as meaning ps)) (give_same (looking.word_as meaning r))
    (subst (λ (m : Reading A). Alike size Same (looking.word_as meaning r >>= giving) m) (take_same (word_as meaning ps))
    (word_by size meaning (seen_as meaning) no_blame giving taking (λ m n. Alike size Same m n) (λ place stop e. e) r ps h refl
    (λ p rest never. (meant_none meaning p.token never, refl)) each))
  where
    by : (o : Option A) (p : Piece) (rest : Pieces) → Stands size (next r).rest rest → Alike size Same (looking.or_refused p.place o >>= λ x. giving (x, (next r).rest)) (viewed (seen_as meaning) no_blame o (p ∷ rest) rest >>> taking)
    by None p rest k = refl
    by (Some x) p rest k = (refl, k)

    each : (bytes : List ℕ) (p : Piece) (rest : Pieces) → p.token ≡ word bytes → ps ≡ p ∷ rest → Stands size (next r).rest rest
        → Alike size Same (looking.or_refused p.place (meaning bytes) >>= λ x. giving (x, (next r).rest)) (viewed (seen_as meaning) no_blame (meant meaning p.token) (p ∷ rest) rest >>> taking)
    each bytes p rest e f k = subst (λ (o : Option A). Alike size Same (looking.or_refused p.place (meaning bytes) >>= λ x. giving (x, (next r).rest)) (viewed (seen_as meaning) no_blame o (p ∷ rest) rest >>> taking))
        (sym (ap (meant meaning) e)) (by (meaning bytes) p rest k)

-- ---- options

module _ {O F : Type 0} (rows : List (List ℕ × F)) (given : F → O → Bool) (V : F → O → Pieces → O → Type 0) (value : F → O → Pieces → Reading O) (lawful : (flag : F) (o : O) → Lawful (V flag o) (value flag o) Anything)
    (taken : F → O → Rest → Parsed (O × Rest)) (alike : (flag : F) (o : O) (size : ℕ) (r : Rest) (ps : Pieces) → Stands size r ps → Alike size Same (taken flag o r) (value flag o ps)) where
  abbrev spec_one : Option F → ℕ → O → Rest → Parsed (O × Rest)
  spec_one = given_options.option_of rows given taken

  abbrev spec_within : ℕ → O → Rest → Parsed (O × Rest)
  spec_within = given_options.options_within rows given taken

  abbrev spec_from : ℕ → O → Rest → Option (List ℕ × ℕ × Rest) → Parsed (O × Rest)
  spec_from n = given_options.option_from rows given taken (spec_within n)

  abbrev one : O → Pieces → Reading O
  one o ps = option_at rows given value o ps

  abbrev options : O → Pieces → Reading O
  options o ps = options_at rows given value o ps

  abbrev viewed_one : Option F → O → Piece → Pieces → Reading O
  viewed_one v o p ps = viewed (seen_as (fresh rows given o)) no_blame v (p ∷ ps) ps >>> λ flag. value flag.0 o flag.1

  abbrev known : O → F → Option F
  known o flag = cond (given flag o) None (Some flag)

  one_alike : (size : ℕ) (found : Option F) (o : O) (p : Piece) (rest : Rest) (ps : Pieces) → Stands size rest ps → Alike size Same (spec_one found p.place o rest) (viewed_one (option_and_then (known o) found) o p ps)
  one_alike size None o p rest ps h = refl
  one_alike size (Some flag) o p rest ps h = by (given flag o)
    where
      by : (b : Bool) → Alike size Same (cond b (Err p.place) (taken flag o rest)) (viewed_one (cond b None (Some flag)) o p ps)
      by true = refl
      by false = alike flag o size rest ps h

  abbrev step : Bool → O → Pieces → Reading O
  step b o ps = elim b [ true ↦ one o ps >>> λ x. options x.0 x.1 | false ↦ Ok (o, ps) ]

  at_step : (o : O) (ps : Pieces) → options o ps ≡ step (next_word (first ps)) o ps
  at_step o ps = reading.unrolled rows given V value lawful o ps

  within_alike : (n : ℕ) (o : O) (size : ℕ) (r : Rest) (ps : Pieces) → length ps < n → Stands size r ps → Alike size Same (spec_within n o r) (options o ps)
  unfolding looking.word_ahead
  within_alike zero o size r ps lt h = absurd (omega arith)
  within_alike (suc n) o size r [] lt h =
      subst (λ (t : Token). Alike size Same (spec_from n o r (looking.word_from t (next r).place (next r).rest)) (options o [])) (sym h.has)
      (subst (λ (m : Reading O). Alike size Same (Ok (o, r)) m) (sym (at_step o [])) (refl, h))
  within_alike (suc n) o size r (p ∷ ps) lt h =
      let k = h.has in
      subst (λ (q : ℕ). Alike size Same (spec_from n o r (looking.word_from (next r).token q (next r).rest)) (options o (p ∷ ps))) (sym k.1)
      (subst (λ (t : Token). Alike size Same (spec_from n o r (looking.word_from t p.place (next r).rest)) (options o (p ∷ ps))) (sym k.0)
      (subst (λ (m : Reading O). Alike size Same (spec_from n o r (looking.word_from p.token p.place (next r).rest)) m) (sym (at_step o (p ∷ ps)))
      (by p.token refl (λ x rest mid e st. let short = reading.one_shorter rows given V value lawful o x (p ∷ ps) mid e in within_alike n x size rest mid (omega (arith, short, lt)) st))))
    where
      by : (t : Token) → p.token ≡ t → ((x : O) (rest : Rest) (mid : Pieces) → one o (p ∷ ps) ≡ Ok (x, mid) → Stands size rest mid → Alike size Same (spec_within n x rest) (options x mid))
          → Alike size Same (spec_from n o r (looking.word_from t p.place (next r).rest)) (step (is_word t) o (p ∷ ps))
      by (word bytes) e more = alike_then size (Same {A = O}) (Same {A = O}) (spec_one (listed rows bytes) p.place o (next r).rest) (one o (p ∷ ps)) (λ x. spec_within n x.0 x.1) (λ x. options x.0 x.1)
          (subst (λ (v : Option F). Alike size Same (spec_one (listed rows bytes) p.place o (next r).rest) (viewed_one v o p ps)) (sym (ap (meant (fresh rows given o)) e)) (one_alike size (listed rows bytes) o p (next r).rest ps (behind_next size r p ps h)))
          (λ x rest y mid d same st. subst (λ (z : O). Alike size Same (spec_within n z rest) (options y mid)) (sym same) (more y rest mid d st))
      by colon e more = (refl, h)
      by at e more = (refl, h)
      by end e more = (refl, h)

  pub options_alike : (o : O) (size : ℕ) (r : Rest) (ps : Pieces) → Stands size r ps → Alike size Same (given_options.options_at rows given taken o r) (options o ps)
  options_alike o size r ps h = let short = pieces_short ps r h.has in within_alike (suc (length r.bytes)) o size r ps (omega (arith, short)) h

-- what is made of a word
made_alike : {A B : Type 0} (make : A → B) (size : ℕ) (m : Parsed (A × Rest)) (n : Reading A) → Alike size Same m n → Alike size Same (m >>= λ x. Ok (make x.0, x.1)) (n >>> λ x. Ok (make x.0, x.1))
made_alike make size (Ok x) (Ok y) h = (ap make h.0, h.1)
made_alike make size (Err place) (Err stop) h = h
made_alike make size (Ok x) (Err stop) h = absurd h
made_alike make size (Err place) (Ok y) h = absurd h

value_alike : (flag : Flag) (o : Options) (size : ℕ) (r : Rest) (ps : Pieces) → Stands size r ps → Alike size Same (given_options.with_flag flag o r) (value_at flag o ps)
value_alike kinds.Facet o size r ps h = made_alike (λ x. record o { facet = Some x }) size (looking.word_as text_of r) (word_as text_of ps) (word_alike text_of size r ps h)
value_alike (kinds.Mode n) o size r ps h = (refl, h)
value_alike kinds.Secure o size r ps h = (refl, h)
value_alike kinds.Protocol o size r ps h = made_alike (λ x. record o { protocol = Some x }) size (looking.word_as version r) (word_as version ps) (word_alike version size r ps h)
value_alike kinds.Encoding o size r ps h = made_alike (λ x. record o { encoding = Some x }) size (looking.word_as version r) (word_as version ps) (word_alike version size r ps h)

tcp_value_alike : (flag : TcpFlag) (o : TcpOptions) (size : ℕ) (r : Rest) (ps : Pieces) → Stands size r ps → Alike size Same (given_options.with_tcp_flag flag o r) (tcp_value_at flag o ps)
tcp_value_alike tcp_kinds.Host o size r ps h = made_alike (λ x. record o { host = Some x }) size (looking.word_as text_of r) (word_as text_of ps) (word_alike text_of size r ps h)
tcp_value_alike tcp_kinds.Port o size r ps h = made_alike (λ x. record o { port = Some x }) size (looking.word_as (number 32) r) (word_as (number 32) ps) (word_alike (number 32) size r ps h)
tcp_value_alike tcp_kinds.Timeout o size r ps h = made_alike (λ x. record o { timeout = Some x }) size (looking.word_as timeout r) (word_as timeout ps) (word_alike timeout size r ps h)
tcp_value_alike tcp_kinds.Compress o size r ps h = (refl, h)

the_options_alike : (size : ℕ) (r : Rest) (ps : Pieces) → Stands size r ps → Alike size Same (given_options.options_at flags is_given given_options.with_flag no_options r) (options_at flags is_given value_at no_options ps)
the_options_alike size r ps h = options_alike flags is_given Value value_at value_lawful given_options.with_flag value_alike no_options size r ps h

tcp_alike : (size : ℕ) (r : Rest) (ps : Pieces) → Stands size r ps → Alike size Same (given_options.options_at tcp_flags is_tcp_given given_options.with_tcp_flag no_tcp_options r) (options_at tcp_flags is_tcp_given tcp_value_at no_tcp_options ps)
tcp_alike size r ps h = options_alike tcp_flags is_tcp_given TcpValue tcp_value_at tcp_value_lawful given_options.with_tcp_flag tcp_value_alike no_tcp_options size r ps h

-- ---- an opaque endpoint

-- the same type, and its piece stands here
record Kind (r : Rest) (z : ℤ) (kind : ℤ × Piece) : Type 0 where
  pub same : z ≡ kind.0
  pub there : looking.place_at r ≡ kind.1.place

place_next : (r : Rest) → looking.place_at r ≡ (next r).place
unfolding looking.place_at
place_next r = refl

kind_alike : (size : ℕ) (r : Rest) (ps : Pieces) → Stands size r ps → Alike size (Kind r) (looking.word_as (number 16) r) (one_at typed no_blame ps)
kind_alike size r ps h =
    subst (λ (m : Parsed (ℤ × Rest)). Alike size (Kind r) m (one_at typed no_blame ps)) (give_same (looking.word_as (number 16) r))
    (subst (λ (m : Reading (ℤ × Piece)). Alike size (Kind r) (looking.word_as (number 16) r >>= giving) m) (take_same (one_at typed no_blame ps))
    (word_by size (number 16) typed no_blame giving taking (λ m n. Alike size (Kind r) m n) (λ place stop e. e) r ps h refl
    (λ p rest never. (ap (option_and_then (λ z. with_piece z p)) (meant_none (number 16) p.token never), refl)) each))
  where
    with_piece : ℤ → Piece → Option (ℤ × Piece)
    with_piece z p = Some (z, p)

    by : (o : Option ℤ) (p : Piece) (rest : Pieces) → ps ≡ p ∷ rest → Stands size (next r).rest rest
        → Alike size (Kind r) (looking.or_refused p.place o >>= λ x. giving (x, (next r).rest)) (viewed typed no_blame (option_and_then (λ z. Some (z, p)) o) (p ∷ rest) rest >>> taking)
    by None p rest f k = refl
    by (Some z) p rest f k = (record { same = refl; there = place_next r ∙ (subst (λ (qs : Pieces). HasPieces r qs) f h.has).1 }, k)

    each : (bytes : List ℕ) (p : Piece) (rest : Pieces) → p.token ≡ word bytes → ps ≡ p ∷ rest → Stands size (next r).rest rest
        → Alike size (Kind r) (looking.or_refused p.place (number 16 bytes) >>= λ x. giving (x, (next r).rest)) (viewed typed no_blame (typed p) (p ∷ rest) rest >>> taking)
    each bytes p rest e f k = subst (λ (o : Option ℤ). Alike size (Kind r) (looking.or_refused p.place (number 16 bytes) >>= λ x. giving (x, (next r).rest)) (viewed typed no_blame (option_and_then (λ z. Some (z, p)) o) (p ∷ rest) rest >>> taking))
        (sym (ap (meant (number 16)) e)) (by (number 16 bytes) p rest f k)

abbrev unless_tcp : ℤ → ℕ × ℕ → Option (ℕ × ℕ)
unless_tcp z v = elim (is_tcp z v) [ true ↦ None | false ↦ Some v ]

abbrev by_tcp : {C : Type 0} → ℕ → Bool → Parsed C → Parsed C
by_tcp place b m = cond {A = Parsed (Unit {0})} b (Err place) (Ok tt) >>= λ other. m

tcp_tested : {C : Type 0} (place : ℕ) (z : ℤ) (v : ℕ × ℕ) (m : Parsed C) → (grammar.not_tcp place z v >>= λ other. m) ≡ by_tcp place (is_tcp z v) m
tcp_tested place (pos n) v m = refl
tcp_tested place (negsuc n) v m = refl

-- a version, and what follows it
version_then : {C D : Type 0} (size : ℕ) (S : C → D → Type 0) (before : Rest) (z : ℤ) (kind : ℤ × Piece) (f : (ℕ × ℕ) × Rest → Parsed (C × Rest)) (g : (ℕ × ℕ) × Pieces → Reading D) → Kind before z kind
    → ((v : ℕ × ℕ) (rest : Rest) (ps : Pieces) → Stands size rest ps → Alike size S (f (v, rest)) (g (v, ps)))
    → (r : Rest) (ps : Pieces) → Stands size r ps
    → Alike size S (looking.word_as version r >>= λ v. grammar.not_tcp (looking.place_at before) z v.0 >>= λ other. f v) (one_at (versioned kind) (blame_type kind) ps >>> g)
version_then {C = C} {D = D} size S before z kind f g known more r ps h =
    word_by size version (versioned kind) (blame_type kind) (λ v. grammar.not_tcp (looking.place_at before) z v.0 >>= λ other. f v) g (λ m n. Alike size S m n) (λ place stop e. e) r ps h refl
    (λ p rest never. (ap (option_and_then (unless_tcp kind.0)) (meant_none version p.token never), ap (blamed_by kind) (meant_none version p.token never))) each
  where
    refused : Bool → ℕ × ℕ → Option (ℕ × ℕ)
    refused b v = elim b [ true ↦ None | false ↦ Some v ]

    blamed : Bool → Option Piece
    blamed b = elim b [ true ↦ Some kind.1 | false ↦ None ]

    viewing : (seen : Option (ℕ × ℕ)) (left : Option Piece) (p : Piece) (rest : Pieces) → Reading D
    viewing None left p rest = Err (record { behind = p ∷ rest; blamed = left })
    viewing (Some v) left p rest = g (v, rest)

    viewing_is : (seen : Option (ℕ × ℕ)) (p : Piece) (rest : Pieces) → (viewed (versioned kind) (blame_type kind) seen (p ∷ rest) rest >>> g) ≡ viewing seen (blame_type kind (p ∷ rest)) p rest
    viewing_is None p rest = refl
    viewing_is (Some v) p rest = refl

    tested : (b : Bool) (v : ℕ × ℕ) (p : Piece) (rest : Pieces) → Stands size (next r).rest rest → Alike size S (by_tcp (looking.place_at before) b (f (v, (next r).rest))) (viewing (refused b v) (blamed b) p rest)
    tested true v p rest k = known.there
    tested false v p rest k = more v (next r).rest rest k

    by : (o : Option (ℕ × ℕ)) (p : Piece) (rest : Pieces) → Stands size (next r).rest rest
        → Alike size S (looking.or_refused p.place o >>= λ v. grammar.not_tcp (looking.place_at before) z v >>= λ other. f (v, (next r).rest)) (viewing (option_and_then (unless_tcp kind.0) o) (blamed_by kind o) p rest)
    by None p rest k = refl
    by (Some v) p rest k =
        subst (λ (m : Parsed (C × Rest)). Alike size S m (viewing (unless_tcp kind.0 v) (blamed_by kind (Some v)) p rest)) (sym (tcp_tested (looking.place_at before) z v (f (v, (next r).rest))))
        (subst (λ (y : ℤ). Alike size S (by_tcp (looking.place_at before) (is_tcp y v) (f (v, (next r).rest))) (viewing (unless_tcp kind.0 v) (blamed_by kind (Some v)) p rest)) (sym known.same)
        (tested (is_tcp kind.0 v) v p rest k))

    each : (bytes : List ℕ) (p : Piece) (rest : Pieces) → p.token ≡ word bytes → ps ≡ p ∷ rest → Stands size (next r).rest rest
        → Alike size S (looking.or_refused p.place (version bytes) >>= λ v. grammar.not_tcp (looking.place_at before) z v >>= λ other. f (v, (next r).rest)) (viewed (versioned kind) (blame_type kind) (versioned kind p) (p ∷ rest) rest >>> g)
    each bytes p rest e d k =
        subst (λ (m : Reading D). Alike size S (looking.or_refused p.place (version bytes) >>= λ v. grammar.not_tcp (looking.place_at before) z v >>= λ other. f (v, (next r).rest)) m) (sym (viewing_is (versioned kind p) p rest))
        (subst (λ (o : Option (ℕ × ℕ)). Alike size S (looking.or_refused p.place (version bytes) >>= λ v. grammar.not_tcp (looking.place_at before) z v >>= λ other. f (v, (next r).rest)) (viewing (option_and_then (unless_tcp kind.0) o) (blamed_by kind o) p rest))
        (sym (ap (meant version) e)) (by (version bytes) p rest k))

abbrev spec_content : ℤ → ℕ × ℕ → List ℕ × Rest → Parsed (Endpoint × Rest)
spec_content z v x = Ok (Opaque z v.0 v.1 x.0, x.1)

abbrev spec_bytes : ℤ → ℕ × ℕ → Rest → Parsed (Endpoint × Rest)
spec_bytes z v r = looking.word_as hexadecimal r >>= spec_content z v

abbrev spec_fourth : ℤ → ℕ × ℕ → Rest → Parsed (Endpoint × Rest)
spec_fourth z v r = grammar.exactly (codes "-x") r >>= λ x. spec_bytes z v x.1

abbrev spec_third : Rest → ℤ → Rest → Parsed (Endpoint × Rest)
spec_third before z r = looking.word_as version r >>= λ v. grammar.not_tcp (looking.place_at before) z v.0 >>= λ other. spec_fourth z v.0 v.1

abbrev spec_second : Rest → ℤ → Rest → Parsed (Endpoint × Rest)
spec_second before z r = grammar.exactly (codes "-e") r >>= λ e. spec_third before z e.1

abbrev spec_begin : Rest → Parsed (Endpoint × Rest)
spec_begin r = looking.word_as (number 16) r >>= λ kind. spec_second r kind.0 kind.1

last_alike : (z : ℤ) (kind : ℤ × Piece) (v : ℕ × ℕ) (size : ℕ) (r : Rest) (ps : Pieces) → z ≡ kind.0 → Stands size r ps → Alike size Same (spec_bytes z v r) (last kind v ps)
last_alike z kind v size r ps same h =
    subst (λ (y : ℤ). Alike size Same (spec_bytes y v r) (last kind v ps)) (sym same)
    (made_alike (λ content. Opaque kind.0 v.0 v.1 content) size (looking.word_as hexadecimal r) (word_as hexadecimal ps) (word_alike hexadecimal size r ps h))

fourth_alike : (z : ℤ) (kind : ℤ × Piece) (v : ℕ × ℕ) (size : ℕ) (r : Rest) (ps : Pieces) → z ≡ kind.0 → Stands size r ps → Alike size Same (spec_fourth z v r) (fourth kind v ps)
fourth_alike z kind v size r ps same h = alike_then size (Same {A = Unit {0}}) (Same {A = Endpoint}) (grammar.exactly (codes "-x") r) (word_as (this (codes "-x")) ps) (λ x. spec_bytes z v x.1) (λ x. last kind v x.1)
    (word_alike (this (codes "-x")) size r ps h) (λ x rest y others d e k. last_alike z kind v size rest others same k)

second_alike : (before : Rest) (z : ℤ) (kind : ℤ × Piece) (size : ℕ) (r : Rest) (ps : Pieces) → Kind before z kind → Stands size r ps → Alike size Same (spec_second before z r) (second kind ps)
second_alike before z kind size r ps known h = alike_then size (Same {A = Unit {0}}) (Same {A = Endpoint}) (grammar.exactly (codes "-e") r) (word_as (this (codes "-e")) ps) (λ e. spec_third before z e.1) (λ e. third kind e.1)
    (word_alike (this (codes "-e")) size r ps h) (λ x rest y others d e k.
    version_then size (Same {A = Endpoint}) before z kind (λ v. spec_fourth z v.0 v.1) (λ v. fourth kind v.0 v.1) known (λ v left mid m. fourth_alike z kind v size left mid known.same m) rest others k)

begin_alike : (size : ℕ) (r : Rest) (ps : Pieces) → Stands size r ps → Alike size Same (spec_begin r) (begin ps)
begin_alike size r ps h = alike_then size (Kind r) (Same {A = Endpoint}) (looking.word_as (number 16) r) (one_at typed no_blame ps) (λ kind. spec_second r kind.0 kind.1) (λ kind. second kind.0 kind.1)
    (kind_alike size r ps h) (λ z rest kind others d known k. second_alike r z kind size rest others known k)

opaque_alike : (size : ℕ) (r : Rest) (ps : Pieces) → Stands size r ps → Alike size Same (grammar.opaque_at r) (opaque_at ps)
opaque_alike size r ps h = alike_then size (Same {A = Unit {0}}) (Same {A = Endpoint}) (grammar.exactly (codes "-t") r) (word_as (this (codes "-t")) ps) (λ t. spec_begin t.1) (λ t. begin t.1)
    (word_alike (this (codes "-t")) size r ps h) (λ x rest y others d e k. begin_alike size rest others k)

-- ---- endpoints

by_alike : (t : Transport) (size : ℕ) (r : Rest) (ps : Pieces) → Stands size r ps → Alike size Same (grammar.endpoint_by t r) (endpoint_by t ps)
by_alike transport_kinds.Tcp size r ps h =
    made_alike tcp_of size (given_options.options_at tcp_flags is_tcp_given given_options.with_tcp_flag no_tcp_options r) (options_at tcp_flags is_tcp_given tcp_value_at no_tcp_options ps) (tcp_alike size r ps h)
by_alike transport_kinds.Opaque size r ps h = opaque_alike size r ps h

endpoint_alike : (size : ℕ) (r : Rest) (ps : Pieces) → Stands size r ps → Alike size Same (grammar.endpoint_at r) (endpoint_at ps)
endpoint_alike size r ps h = alike_then size (Same {A = Transport}) (Same {A = Endpoint}) (looking.word_as (listed transports) r) (word_as (listed transports) ps) (λ t. grammar.endpoint_by t.0 t.1) (λ t. endpoint_by t.0 t.1)
    (word_alike (listed transports) size r ps h) (λ t rest u others d same k. subst (λ (z : Transport). Alike size Same (grammar.endpoint_by z rest) (endpoint_by u others)) (sym same) (by_alike u size rest others k))

abbrev spec_more : ℕ → Option Rest → Parsed (List Endpoint)
spec_more n o = grammar.endpoints_from (grammar.endpoints_within n) o

abbrev spec_others : ℕ → Endpoint × Rest → Parsed (List Endpoint)
spec_others n e = grammar.endpoints_within n e.1 >>= λ others. Ok (e.0 ∷ others)

abbrev others : Endpoint × Pieces → Reading (List Endpoint)
others e = endpoints_at e.1 >>> λ es. Ok (e.0 ∷ es.0, es.1)

abbrev chained : Token → Piece → Pieces → Reading (List Endpoint)
chained t p ps = viewed colon_piece no_blame (colon_token t) (p ∷ ps) ps >>> λ c. endpoint_at c.1 >>> others

within_agree : (n size : ℕ) (r : Rest) (ps : Pieces) → length ps < n → Stands size r ps → Agree size (grammar.endpoints_within n r) (endpoints_at ps)
unfolding looking.colon_at
within_agree zero size r ps lt h = absurd (omega arith)
within_agree (suc n) size r [] lt h =
    subst (λ (t : Token). Agree size (looking.colon_from t (next r).place (next r).rest >>= spec_more n) (endpoints_at [])) (sym h.has)
    (subst (λ (m : Reading (List Endpoint)). Agree size (Ok []) m) (sym (unrolled [])) (refl, refl))
within_agree (suc n) size r (p ∷ ps) lt h =
    let k = h.has in
    subst (λ (q : ℕ). Agree size (looking.colon_from (next r).token q (next r).rest >>= spec_more n) (endpoints_at (p ∷ ps))) (sym k.1)
    (subst (λ (t : Token). Agree size (looking.colon_from t p.place (next r).rest >>= spec_more n) (endpoints_at (p ∷ ps))) (sym k.0)
    (subst (λ (m : Reading (List Endpoint)). Agree size (looking.colon_from p.token p.place (next r).rest >>= spec_more n) m) (sym (unrolled (p ∷ ps)))
    (by p.token k.2 (λ rest mid few st. within_agree n size rest mid (omega (arith, few, lt)) st))))
  where
    by : (t : Token) → (t ≢ end) → ((rest : Rest) (mid : Pieces) → length mid ≤ length ps → Stands size rest mid → Agree size (grammar.endpoints_within n rest) (endpoints_at mid))
        → Agree size (looking.colon_from t p.place (next r).rest >>= spec_more n) (chained t p ps)
    by (word bytes) some more = refl
    by colon some more = agree_then size (Same {A = Endpoint}) (grammar.endpoint_at (next r).rest) (endpoint_at ps) (spec_others n) others (endpoint_alike size (next r).rest ps (behind_next size r p ps h))
        (λ e rest e2 mid d same st. subst (λ (z : Endpoint). Agree size (spec_others n (z, rest)) (others (e2, mid))) (sym same)
        (agree_made size (λ es. e2 ∷ es) (grammar.endpoints_within n rest) (endpoints_at mid) (more rest mid (endpoint_fewer ps mid e2 d) st)))
    by at some more = refl
    by end some more = absurd (some refl)

endpoints_agree : (size : ℕ) (r : Rest) (ps : Pieces) → Stands size r ps → Agree size (grammar.endpoints_at r) (endpoints_at ps)
endpoints_agree size r ps h = let short = pieces_short ps r h.has in within_agree (suc (length r.bytes)) size r ps (omega (arith, short)) h

-- ---- where it is found

end_agree : (size : ℕ) (r : Rest) (ps : Pieces) → Stands size r ps → Agree size (looking.end_at r) (end_at ps)
unfolding looking.end_at
end_agree size r [] h = subst (λ (t : Token). Agree size (looking.end_from t (next r).place) (end_at [])) (sym h.has) (refl, refl)
end_agree size r (p ∷ ps) h =
    let k = h.has in
    subst (λ (t : Token). Agree size (looking.end_from t (next r).place) (end_at (p ∷ ps))) (sym k.0) (by p.token k.2 k.1)
  where
    by : (t : Token) → (t ≢ end) → (next r).place ≡ p.place → Agree size (looking.end_from t (next r).place) (end_at (p ∷ ps))
    by (word bytes) some e = e
    by colon some e = e
    by at some e = e
    by end some e = absurd (some refl)

abbrev Located : Type 0
Located = List Endpoint × List ℕ

adapter_agree : (size : ℕ) (r : Rest) (ps : Pieces) → Stands size r ps
    → Agree {A = Located} size (looking.word_as text_of r >>= λ adapter. looking.end_at adapter.1 >>= λ e. Ok ([], adapter.0)) (word_as text_of ps >>> λ x. end_at x.1 >>> λ e. Ok (([], x.0), e.1))
adapter_agree size r ps h = agree_then size (Same {A = List ℕ}) (looking.word_as text_of r) (word_as text_of ps) (λ adapter. looking.end_at adapter.1 >>= λ e. Ok ([], adapter.0)) (λ x. end_at x.1 >>> λ e. Ok (([], x.0), e.1))
    (word_alike text_of size r ps h) (λ x rest y mid d same st. by (looking.end_at rest) (end_at mid) x y same (end_agree size rest mid st))
  where
    by : (m : Parsed (Unit {0})) (n : Reading (Unit {0})) (x y : List ℕ) → x ≡ y → Agree size m n → Agree {A = Located} size (m >>= λ e. Ok ([], x)) (n >>> λ e. Ok (([], y), e.1))
    by (Ok u) (Ok w) x y same k = (ap (λ (z : List ℕ). ([], z)) same, k.1)
    by (Err place) (Err stop) x y same k = k
    by (Ok u) (Err stop) x y same k = absurd k
    by (Err place) (Ok w) x y same k = absurd k

abbrev with_none : List Endpoint → Located
with_none es = (es, [])

abbrev located : Bool → Pieces → Reading Located
located b ps = elim b [ true ↦ adapter_at ps | false ↦ endpoints_at ps >>> λ es. Ok ((es.0, []), es.1) ]

abbrev adapted : Option (Unit {0}) → Piece → Pieces → Reading Located
adapted v p ps = viewed at_piece no_blame v (p ∷ ps) ps >>> λ a. word_as text_of a.1 >>> λ x. end_at x.1 >>> λ e. Ok (([], x.0), e.1)

location_agree : (size : ℕ) (r : Rest) (ps : Pieces) → Stands size r ps → Agree size (grammar.location_at r) (location_at ps)
unfolding looking.at_ahead
location_agree size r [] h =
    subst (λ (t : Token). Agree size (grammar.location_from r (looking.at_from t (next r).rest)) (location_at [])) (sym h.has) (agree_made size with_none (grammar.endpoints_at r) (endpoints_at []) (endpoints_agree size r [] h))
location_agree size r (p ∷ ps) h =
    let k = h.has in
    subst (λ (t : Token). Agree size (grammar.location_from r (looking.at_from t (next r).rest)) (location_at (p ∷ ps))) (sym k.0) (by p.token refl k.2)
  where
    ends : Agree size (grammar.endpoints_at r >>= λ es. Ok (es, [])) (located false (p ∷ ps))
    ends = agree_made size with_none (grammar.endpoints_at r) (endpoints_at (p ∷ ps)) (endpoints_agree size r (p ∷ ps) h)

    by : (t : Token) → p.token ≡ t → (t ≢ end) → Agree size (grammar.location_from r (looking.at_from t (next r).rest)) (located (is_at t) (p ∷ ps))
    by (word bytes) e some = ends
    by colon e some = ends
    by at e some = subst (λ (v : Option (Unit {0})). Agree size (grammar.location_from r (Some (next r).rest)) (adapted v p ps)) (sym (ap at_token e)) (adapter_agree size (next r).rest ps (behind_next size r p ps h))
    by end e some = absurd (some refl)

-- ---- a proxy

grouped : {A B C : Type 0} (m : Reading A) (f : A × Pieces → Reading B) (g : B × Pieces → Reading C) → ((m >>> f) >>> g) ≡ (m >>> λ x. f x >>> g)
grouped (Ok x) f g = refl
grouped (Err s) f g = refl

abbrev spec_found : Identity → Options × Rest → Parsed Proxy
spec_found i o = grammar.location_at o.1 >>= λ l. Ok (proxy_of i o.0 l)

abbrev spec_options : Rest → Parsed (Options × Rest)
spec_options r = given_options.options_at flags is_given given_options.with_flag no_options r

abbrev the_options : Pieces → Reading Options
the_options ps = options_at flags is_given value_at no_options ps

abbrev found : Identity → Options × Pieces → Reading Proxy
found i o = location_at o.1 >>> λ l. Ok (proxy_of i o.0 l.0, l.1)

abbrev naming : Identity → Options × Pieces → Reading (Identity × Options)
naming i o = Ok ((i, o.0), o.1)

abbrev named_found : (Identity × Options) × Pieces → Reading Proxy
named_found named = location_at named.1 >>> λ l. Ok (proxy_of named.0.0 named.0.1 l.0, l.1)

regrouped : (m : Reading Identity) → ((m >>> λ i. the_options i.1 >>> naming i.0) >>> named_found) ≡ (m >>> λ i. the_options i.1 >>> found i.0)
regrouped (Ok i) = grouped (the_options i.1) (naming i.0) named_found
regrouped (Err s) = refl

pub proxy_agree : (size : ℕ) (text : List ℕ) (ps : Pieces) → Stands size (whole text) ps → Agree size (proxy_text text) (proxy_at ps)
proxy_agree size text ps h =
    subst (λ (m : Reading Proxy). Agree size (proxy_text text) m) (sym (regrouped (word_as identity_of ps)))
    (agree_then size (Same {A = Identity}) (looking.word_as identity_of (whole text)) (word_as identity_of ps) (λ i. spec_options i.1 >>= spec_found i.0) (λ i. the_options i.1 >>> found i.0) (word_alike identity_of size (whole text) ps h)
    (λ i rest j mid d same st. subst (λ (z : Identity). Agree size (spec_options rest >>= spec_found z) (the_options mid >>> found j)) (sym same)
    (agree_then size (Same {A = Options}) (spec_options rest) (the_options mid) (spec_found j) (found j) (the_options_alike size rest mid st)
    (λ o left q end c is k. subst (λ (z : Options). Agree size (spec_found j (z, left)) (found j (q, end))) (sym is)
    (agree_made size (proxy_of j q) (grammar.location_at left) (location_at end) (location_agree size left end k))))))

-- ---- an identity

abbrev spec_sole : Token → ℕ → Rest → Parsed Identity
spec_sole t place rest = elim t [ word bytes ↦ sole place (identity_of bytes) rest | colon ↦ Err place | at ↦ Err place | end ↦ Err place ]

abbrev spec_alone : Identity → Token → ℕ → Parsed Identity
spec_alone i t place = elim t [ word bytes ↦ Err place | colon ↦ Err place | at ↦ Err place | end ↦ Ok i ]

alone_agree : (i : Identity) (size : ℕ) (r : Rest) (ps : Pieces) → Stands size r ps → Agree size (alone i (next r)) (end_at ps >>> λ e. Ok (i, e.1))
alone_agree i size r [] h = subst (λ (t : Token). Agree size (spec_alone i t (next r).place) (Ok (i, []))) (sym h.has) (refl, refl)
alone_agree i size r (p ∷ ps) h =
    let k = h.has in
    subst (λ (t : Token). Agree size (spec_alone i t (next r).place) (Err (record { behind = p ∷ ps; blamed = None }))) (sym k.0) (by p.token k.2 k.1)
  where
    by : (t : Token) → (t ≢ end) → (next r).place ≡ p.place → Agree size (spec_alone i t (next r).place) (Err (record { behind = p ∷ ps; blamed = None }))
    by (word bytes) some e = e
    by colon some e = e
    by at some e = e
    by end some e = absurd (some refl)

abbrev viewed_sole : Option Identity → Piece → Pieces → Reading Identity
viewed_sole v p ps = viewed (seen_as identity_of) no_blame v (p ∷ ps) ps >>> λ i. end_at i.1 >>> λ e. Ok (i.0, e.1)

pub sole_agree : (size : ℕ) (r : Rest) (ps : Pieces) → Stands size r ps → Agree size (identity_from (next r)) (sole_at ps)
sole_agree size r [] h =
    let e : (next r).token ≡ end = h.has in
    subst (λ (t : Token). Agree size (spec_sole t (next r).place (next r).rest) (sole_at [])) (sym e) (end_place r e ∙ h.ends)
sole_agree size r (p ∷ ps) h =
    let k = h.has in
    subst (λ (q : ℕ). Agree size (spec_sole (next r).token q (next r).rest) (sole_at (p ∷ ps))) (sym k.1)
    (subst (λ (t : Token). Agree size (spec_sole t p.place (next r).rest) (sole_at (p ∷ ps))) (sym k.0) (by p.token k.2))
  where
    word_is : (o : Option Identity) → Agree size (sole p.place o (next r).rest) (viewed_sole o p ps)
    word_is None = refl
    word_is (Some i) = alone_agree i size (next r).rest ps (behind_next size r p ps h)

    by : (t : Token) → (t ≢ end) → Agree size (spec_sole t p.place (next r).rest) (viewed_sole (meant identity_of t) p ps)
    by (word bytes) some = word_is (identity_of bytes)
    by colon some = refl
    by at some = refl
    by end some = absurd (some refl)
