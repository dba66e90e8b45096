-- Reading stops exactly where a word of some kind is due and is not there.
use Rattle.std.proofs.Common.{ℕ, ℤ, pos, negsuc, zero, suc, ◌<◌, ◌≡◌, ◌≢◌, Bool, true, false, eqb, cond, ◌&&◌, List, [], ◌∷◌, ◌++◌, length, Option, None, Some, Ok, Err, ◌⊎◌, inl, inr, codes, refl, sym, ap, subst, ◌∙◌, append_assoc, arith}
use Rattle.std.specs.Option.{option_and_then}
use Rattle.std.proofs.lemmas.List.{append_cancel_right, append-nil}
use Rattle.ice_types.specs.declared.identity.Identity.{Identity}
use Rattle.ice_types.specs.declared.proxy.Endpoint.{Endpoint}
use Rattle.ice_types.specs.declared.proxy.Proxy.{Proxy}
use Rattle.ice_prims.specs.Rest.{Rest, whole}
use Rattle.ice_proxy.specs.declared.options.Options.{Options}
use Rattle.ice_proxy.specs.declared.options.Flag.{Flag}
use Rattle.ice_proxy.specs.declared.options.Flag.TheVariants as kinds
use Rattle.ice_proxy.specs.declared.tcp.TcpOptions.{TcpOptions}
use Rattle.ice_proxy.specs.declared.tcp.TcpFlag.{TcpFlag}
use Rattle.ice_proxy.specs.declared.tcp.TcpFlag.TheVariants as tcp_kinds
use Rattle.ice_proxy.specs.declared.endpoints.Transport.{Transport}
use Rattle.ice_proxy.specs.declared.endpoints.Transport.TheVariants as transport_kinds
use Rattle.ice_proxy.specs.Words.{Token, word, colon, at, end, next}
use Rattle.ice_proxy.specs.Escapes.{text_of, identity_of}
use Rattle.ice_proxy.specs.Numbers.{number, timeout, version, hexadecimal}
use Rattle.ice_proxy.specs.Options.{listed, no_options, flags, is_given, no_tcp_options, tcp_flags, is_tcp_given}
use Rattle.ice_proxy.specs.Grammar.{transports, tcp_of, proxy_of, proxy_text}
use Rattle.ice_proxy.specs.Pieces.{Piece, Pieces, HasPieces}
use Rattle.ice_proxy.specs.Spelled.{meant, this, fresh, Word, Value, TcpValue, SoMany, AnEndpoint, AreEndpoints, IsProxy}
use Rattle.ice_proxy.specs.Breaks.{Breaks}
use Rattle.ice_proxy.specs.Misplaced.{Misplaced, Never, Lacks, StartsWord, StartsAt, No, After, NoOption, NoOptions, NoValue, NoTcpValue, are_tcp, version_of, NoOpaque, NoEndpointBy, NoEndpoint, NoEndpoints, adapter_too, word_behind, no_endpoint, NoAdapter, no_adapter, behind_adapter, NoProxy}
use Rattle.ice_proxy.proofs.PieceLaws.{Stop, Reading, ◌>>>◌, first, answered, Lawful, then_ok, then_err, ok_parts, err_same, One, one_at, one_took, one_split, one_refused, one_only, viewed}
use Rattle.ice_proxy.proofs.PieceReading.{is_word, is_at, next_word, next_at, no_blame, seen_as, word_as, colon_token, colon_piece, at_token, at_piece, end_at, option_at, options_at, value_at, tcp_value_at, is_tcp, typed, versioned, blame_type, opaque_at, endpoint_by, endpoint_at, endpoints_at, location_at, named_at, proxy_at}
use Rattle.ice_proxy.proofs.PieceOptions as reading
use Rattle.ice_proxy.proofs.PieceOptions.{Anything, meant_word}
use Rattle.ice_proxy.proofs.PieceProxy.{value_lawful, tcp_value_lawful, colon_fewer, endpoint_fewer, unrolled, endpoint_lawful, opaque_lawful, endpoints_before, endpoints_begin, endpoints_no_at, by_part, named_lawful, proxy_lawful, last, fourth, third, second, begin, made, behind, others, found_at, identity_lawful, transport_lawful, typed_lawful, versioned_lawful, t_lawful, e_lawful, x_lawful}
use Rattle.ice_proxy.proofs.PieceFaults.{with_piece, typed_is, whole_stands, fault_from}
use Rattle.ice_proxy.proofs.PieceBridge.{proxy_agree}
use Rattle.ice_proxy.proofs.PieceBreaks as pieces_break

-- A reading stops before what is misplaced, and there alone.
pub record Exact {A : Type 0} (M : Misplaced) (r : Pieces → Reading A) : Type 0 where
  pub to : (ps : Pieces) (stop : Stop) → r ps ≡ Err stop → (before : Pieces) × (ps ≡ before ++ stop.behind) × M before stop.behind
  pub from : (before left : Pieces) → M before left → (stop : Stop) × (r (before ++ left) ≡ Err stop) × (stop.behind ≡ left)

-- ---- one word

module _ {A B : Type 0} (meaning : List ℕ → Option A) (view : Piece → Option B) (blame : Pieces → Option Piece) (sees : (p : Piece) → (view p ≡ None → meant meaning p.token ≡ None) × (meant meaning p.token ≡ None → view p ≡ None)) where
  lacks_view : (ps : Pieces) (stop : Stop) → one_at view blame ps ≡ Err stop → Lacks meaning ps
  lacks_view [] stop e = tt
  lacks_view (p ∷ ps) stop e = (sees p).0 (by (view p) refl e)
    where
      by : (o : Option B) → view p ≡ o → viewed view blame o (p ∷ ps) ps ≡ Err stop → view p ≡ None
      by None is e = is
      by (Some x) is e = absurd cc

  view_lacks : (ps : Pieces) → Lacks meaning ps → one_at view blame ps ≡ Err (record { behind = ps; blamed = blame ps })
  view_lacks [] h = refl
  view_lacks (p ∷ ps) h = ap (λ (o : Option B). viewed view blame o (p ∷ ps) ps) ((sees p).1 h)

  exact_one : Exact (No meaning) (one_at view blame)
  exact_one = record {
    to = λ ps stop e. let same = (one_refused view blame ps stop e).0 in ([], same, (refl, subst (Lacks meaning) same (lacks_view ps stop e)));
    from = λ before left h. (record { behind = left; blamed = blame left }, ap (λ (z : Pieces). one_at view blame (z ++ left)) h.0 ∙ view_lacks left h.1, refl);
  }

sees_same : {A : Type 0} (meaning : List ℕ → Option A) (p : Piece) → (seen_as meaning p ≡ None → meant meaning p.token ≡ None) × (meant meaning p.token ≡ None → seen_as meaning p ≡ None)
sees_same meaning p = (λ e. e, λ e. e)

exact_word : {A : Type 0} (meaning : List ℕ → Option A) → Exact (No meaning) (word_as meaning)
exact_word meaning = exact_one meaning (seen_as meaning) no_blame (sees_same meaning)

-- ---- one part behind another

-- the part that is read here is the one that is meant there
pub record Matches {X Y : Type 0} (P : Pieces → X → Type 0) (Q : Pieces → Y → Type 0) (value : Y → X) : Type 0 where
  pub to : (ps : Pieces) (y : Y) → Q ps y → P ps (value y)
  pub from : (ps : Pieces) (x : X) → P ps x → (y : Y) × Q ps y × (value y ≡ x)

matches_same : {X : Type 0} (P : Pieces → X → Type 0) → Matches P P (λ x. x)
matches_same P = record { to = λ ps y h. h; from = λ ps x h. (x, h, refl) }

module _ {X Y B : Type 0} (P : Pieces → X → Type 0) (NoP : Misplaced) (NoNext : X → Misplaced) (Q : Pieces → Y → Type 0) (value : Y → X) (p : Pieces → Reading Y) (q : Y → Pieces → Reading B) (F : Option Piece → Type 0) where
  abbrev onward : Y × Pieces → Reading B
  onward x = q x.0 x.1

  exact_after : Matches P Q value → Lawful Q p F → Exact NoP p → ((y : Y) → Exact (NoNext (value y)) (q y)) → ((x : X) (b left : Pieces) → NoNext x b left → F (first (b ++ left))) → Exact (After P NoP NoNext) (λ ps. p ps >>> onward)
  exact_after m g one each follows = record {
    to = λ ps stop e. then_err ((before : Pieces) × (ps ≡ before ++ stop.behind) × After P NoP NoNext before stop.behind) (p ps) onward stop e
        (λ d. let k = one.to ps stop d in (k.0, k.1, inl k.2))
        (λ y mid d f.
        let t = g.found ps mid y d in
        let k = (each y).to mid stop f in
        (t.taken ++ k.0, t.parts ∙ (ap (λ (z : Pieces). t.taken ++ z) k.1 ∙ sym (append_assoc t.taken k.0 stop.behind)), inr (value y, t.taken, k.0, refl, m.to t.taken y t.spelled, k.2)));
    from = from;
  } where
    from : (before left : Pieces) → After P NoP NoNext before left → (stop : Stop) × ((p (before ++ left) >>> onward) ≡ Err stop) × (stop.behind ≡ left)
    from before left (inl h) = let k = one.from before left h in (k.0, ap (λ (n : Reading Y). n >>> onward) k.1, k.2)
    from before left (inr h) =
        let y = m.from h.1 h.0 h.4 in
        let lacks = subst (λ (x : X). NoNext x h.2 left) (sym y.2) h.5 in
        let k = (each y.0).from h.2 left lacks in
        let reads = g.only h.1 (h.2 ++ left) y.0 y.1 (follows h.0 h.2 left h.5) in
        (k.0, ap (λ (z : Pieces). p z >>> onward) (ap (λ (z : Pieces). z ++ left) h.3 ∙ append_assoc h.1 h.2 left) ∙ (ap (λ (n : Reading Y). n >>> onward) reads ∙ k.1), k.2)

-- what is made of a part
module _ {X Y : Type 0} (M : Misplaced) (make : X → Y) (r : Pieces → Reading X) where
  exact_made : Exact M r → Exact M (λ ps. r ps >>> λ x. Ok (make x.0, x.1))
  exact_made g = record {
    to = λ ps stop e. then_err ((before : Pieces) × (ps ≡ before ++ stop.behind) × M before stop.behind) (r ps) (λ x. Ok (make x.0, x.1)) stop e (λ d. g.to ps stop d) (λ x mid d f. absurd cc);
    from = λ before left h. let k = g.from before left h in (k.0, ap (λ (n : Reading X). n >>> λ x. Ok (make x.0, x.1)) k.1, k.2);
  }

-- nothing is read
exact_never : {A : Type 0} (x : A) → Exact Never (λ ps. Ok (x, ps))
exact_never x = record { to = λ ps stop e. absurd cc; from = λ before left h. absurd h }

-- ---- options

starts_word : (ps : Pieces) → next_word (first ps) ≡ true → StartsWord ps
starts_word [] e = absurd cc
starts_word (p ∷ ps) e = by p.token refl e
  where
    by : (t : Token) → p.token ≡ t → is_word t ≡ true → (bytes : List ℕ) × (p.token ≡ word bytes)
    by (word bytes) is e = (bytes, is)
    by colon is e = absurd cc
    by at is e = absurd cc
    by end is e = absurd cc

word_starts : (ps : Pieces) → StartsWord ps → next_word (first ps) ≡ true
word_starts [] h = absurd h
word_starts (p ∷ ps) h = ap is_word h.1

module _ {O F : Type 0} (rows : List (List ℕ × F)) (given : F → O → Bool) (V : F → O → Pieces → O → Type 0) (NoV : F → Misplaced) (value : F → O → Pieces → Reading O) (lawful : (flag : F) (o : O) → Lawful (V flag o) (value flag o) Anything)
    (exact : (flag : F) (o : O) → Exact (NoV flag) (value flag o)) where
  abbrev options : O → Pieces → Reading O
  options o ps = options_at rows given value o ps

  abbrev one : O → Pieces → Reading O
  one o ps = option_at rows given value o ps

  abbrev begun : O → Pieces → Reading F
  begun o = word_as (fresh rows given o)

  abbrev valued : O → F × Pieces → Reading O
  valued o x = value x.0 o x.1

  abbrev NoOne : O → Misplaced
  NoOne o = NoOption rows given V NoV o

  abbrev NoMore : O → Misplaced
  NoMore o = NoOptions rows given V NoV o

  abbrev Found : Misplaced → Pieces → Stop → Type 0
  Found M ps stop = (before : Pieces) × (ps ≡ before ++ stop.behind) × M before stop.behind

  abbrev Stops : Reading O → Pieces → Type 0
  Stops m left = (stop : Stop) × (m ≡ Err stop) × (stop.behind ≡ left)

  abbrev step : Bool → O → Pieces → Reading O
  step b o ps = elim b [ true ↦ one o ps >>> λ x. options x.0 x.1 | false ↦ Ok (o, ps) ]

  unroll : (o : O) (ps : Pieces) → options o ps ≡ step (next_word (first ps)) o ps
  unroll o ps = reading.unrolled rows given V value lawful o ps

  on_word : (o : O) (ps : Pieces) → next_word (first ps) ≡ true → options o ps ≡ (one o ps >>> λ x. options x.0 x.1)
  on_word o ps e = unroll o ps ∙ ap (λ (b : Bool). step b o ps) e

  to_one : (o : O) (ps : Pieces) (stop : Stop) → next_word (first ps) ≡ true → one o ps ≡ Err stop → Found (NoOne o) ps stop
  to_one o ps stop is e = then_err (Found (NoOne o) ps stop) (begun o ps) (valued o) stop e
      (λ d.
      let k = (exact_word (fresh rows given o)).to ps stop d in
      let none = k.2 in
      (k.0, k.1, inl (none.0, subst StartsWord (one_refused (seen_as (fresh rows given o)) no_blame ps stop d).0 (starts_word ps is), none.1)))
      (λ flag mid d f.
      let t = one_took (seen_as (fresh rows given o)) no_blame ps mid flag d in
      let k = (exact flag o).to mid stop f in
      (t.taken ++ k.0, t.parts ∙ (ap (λ (z : Pieces). t.taken ++ z) k.1 ∙ sym (append_assoc t.taken k.0 stop.behind)), inr (flag, t.taken, k.0, refl, t.spelled, k.2)))

  no_one_word : (o : O) (before left : Pieces) → NoOne o before left → next_word (first (before ++ left)) ≡ true
  no_one_word o before left (inl h) = ap (λ (z : Pieces). next_word (first (z ++ left))) h.0 ∙ word_starts left h.1
  no_one_word o before left (inr h) =
      let p = h.4 in
      ap (λ (z : Pieces). next_word (first (z ++ left))) (h.3 ∙ ap (λ (z : Pieces). z ++ h.2) p.1) ∙ meant_word (fresh rows given o) p.0.token h.0 p.2

  from_one : (o : O) (before left : Pieces) → NoOne o before left → Stops (one o (before ++ left)) left
  from_one o before left (inl h) = let k = (exact_word (fresh rows given o)).from before left (h.0, h.2) in (k.0, ap (λ (m : Reading F). m >>> valued o) k.1, k.2)
  from_one o before left (inr h) =
      let k = (exact h.0 o).from h.2 left h.5 in
      let reads = one_only (seen_as (fresh rows given o)) no_blame h.1 (h.2 ++ left) h.0 h.4 in
      (k.0, ap (λ (z : Pieces). one o z) (ap (λ (z : Pieces). z ++ left) h.3 ∙ append_assoc h.1 h.2 left) ∙ (ap (λ (m : Reading F). m >>> valued o) reads ∙ k.1), k.2)

  to_within : (n : ℕ) (o : O) (ps : Pieces) (stop : Stop) → length ps < n → options o ps ≡ Err stop → Found (NoMore o) ps stop
  to_within zero o ps stop lt e = absurd (omega arith)
  to_within (suc n) o ps stop lt e = by (next_word (first ps)) refl (sym (unroll o ps) ∙ e) (λ x mid d f. let short = reading.one_shorter rows given V value lawful o x ps mid d in to_within n x mid stop (omega (arith, short, lt)) f)
    where
      by : (b : Bool) → next_word (first ps) ≡ b → step b o ps ≡ Err stop → ((x : O) (mid : Pieces) → one o ps ≡ Ok (x, mid) → options x mid ≡ Err stop → Found (NoMore x) mid stop) → Found (NoMore o) ps stop
      by false is e later = absurd cc
      by true is e later = then_err (Found (NoMore o) ps stop) (one o ps) (λ x. options x.0 x.1) stop e
          (λ d. let k = to_one o ps stop is d in (k.0, k.1, (o, [], k.0, refl, (0, (refl, refl)), k.2)))
          (λ x mid d f.
          let k = later x mid d f in
          let t = reading.one_took_option rows given V value lawful o x ps mid d in
          let lacks = k.2 in
          let many = lacks.4 in (
            t.taken ++ k.0,
            t.parts ∙ (ap (λ (z : Pieces). t.taken ++ z) k.1 ∙ sym (append_assoc t.taken k.0 stop.behind)),
            (lacks.0, t.taken ++ lacks.1, lacks.2, ap (λ (z : Pieces). t.taken ++ z) lacks.3 ∙ sym (append_assoc t.taken lacks.1 lacks.2), (suc many.0, (x, t.taken, lacks.1, refl, t.spelled, many.1)), lacks.5),
          ))

  -- options that stand, whatever follows
  before_more : (n : ℕ) (o last : O) (a more : Pieces) → SoMany rows given V n o a last → options o (a ++ more) ≡ options last more
  before_more zero o last a more h = ap (λ (z : Pieces). options o (z ++ more)) h.0 ∙ ap (λ (v : O). options v more) (sym h.1)
  before_more (suc n) o last a more h =
      let grouped : a ++ more ≡ h.1 ++ (h.2 ++ more) = ap (λ (z : Pieces). z ++ more) h.3 ∙ append_assoc h.1 h.2 more in
      ap (λ (z : Pieces). options o z) grouped
      ∙ (on_word o (h.1 ++ (h.2 ++ more)) (reading.option_word rows given V value lawful o h.0 h.1 (h.2 ++ more) h.4)
      ∙ (ap (λ (m : Reading O). m >>> λ x. options x.0 x.1) (reading.option_only rows given V value lawful o h.0 h.1 (h.2 ++ more) h.4) ∙ before_more n h.0 last h.2 more h.5))

  pub exact_options : (o : O) → Exact (NoMore o) (options o)
  exact_options o = record {
    to = λ ps stop e. to_within (suc (length ps)) o ps stop (omega arith) e;
    from = λ before left h.
        let many = h.4 in
        let k = from_one h.0 h.2 left h.5 in
        (k.0, ap (λ (z : Pieces). options o z) (ap (λ (z : Pieces). z ++ left) h.3 ∙ append_assoc h.1 h.2 left) ∙ (before_more many.0 o h.0 h.1 (h.2 ++ left) many.1 ∙ (on_word h.0 (h.2 ++ left) (no_one_word h.0 h.2 left h.5) ∙ ap (λ (m : Reading O). m >>> λ x. options x.0 x.1) k.1)), k.2);
  }

  end_within : (n : ℕ) (o last : O) (ps rest : Pieces) → length ps < n → options o ps ≡ Ok (last, rest) → next_word (first rest) ≡ false
  end_within zero o last ps rest lt e = absurd (omega arith)
  end_within (suc n) o last ps rest lt e = by (next_word (first ps)) refl (sym (unroll o ps) ∙ e) (λ x mid d f. let short = reading.one_shorter rows given V value lawful o x ps mid d in end_within n x last mid rest (omega (arith, short, lt)) f)
    where
      by : (b : Bool) → next_word (first ps) ≡ b → step b o ps ≡ Ok (last, rest) → ((x : O) (mid : Pieces) → one o ps ≡ Ok (x, mid) → options x mid ≡ Ok (last, rest) → next_word (first rest) ≡ false) → next_word (first rest) ≡ false
      by false is e later = ap (λ (z : Pieces). next_word (first z)) (sym (ok_parts o last ps rest e).1) ∙ is
      by true is e later = then_ok (next_word (first rest) ≡ false) (one o ps) (λ x. options x.0 x.1) (last, rest) e later

  -- behind options no word stands
  pub options_end : (o last : O) (ps rest : Pieces) → options o ps ≡ Ok (last, rest) → next_word (first rest) ≡ false
  options_end o last ps rest e = end_within (suc (length ps)) o last ps rest (omega arith) e

value_exact : (flag : Flag) (o : Options) → Exact (NoValue flag) (value_at flag o)
value_exact kinds.Facet o = exact_made (No text_of) (λ x. record o { facet = Some x }) (word_as text_of) (exact_word text_of)
value_exact (kinds.Mode n) o = exact_never (record o { mode = Some n })
value_exact kinds.Secure o = exact_never (record o { secure = true })
value_exact kinds.Protocol o = exact_made (No version) (λ x. record o { protocol = Some x }) (word_as version) (exact_word version)
value_exact kinds.Encoding o = exact_made (No version) (λ x. record o { encoding = Some x }) (word_as version) (exact_word version)

tcp_value_exact : (flag : TcpFlag) (o : TcpOptions) → Exact (NoTcpValue flag) (tcp_value_at flag o)
tcp_value_exact tcp_kinds.Host o = exact_made (No text_of) (λ x. record o { host = Some x }) (word_as text_of) (exact_word text_of)
tcp_value_exact tcp_kinds.Port o = exact_made (No (number 32)) (λ x. record o { port = Some x }) (word_as (number 32)) (exact_word (number 32))
tcp_value_exact tcp_kinds.Timeout o = exact_made (No timeout) (λ x. record o { timeout = Some x }) (word_as timeout) (exact_word timeout)
tcp_value_exact tcp_kinds.Compress o = exact_never (record o { compress = true })

abbrev NoTheOptions : Misplaced
NoTheOptions = NoOptions flags is_given Value NoValue no_options

options_exact : Exact NoTheOptions (options_at flags is_given value_at no_options)
options_exact = exact_options flags is_given Value NoValue value_at value_lawful value_exact no_options

tcp_exact : Exact (NoOptions tcp_flags is_tcp_given TcpValue NoTcpValue no_tcp_options) (options_at tcp_flags is_tcp_given tcp_value_at no_tcp_options)
tcp_exact = exact_options tcp_flags is_tcp_given TcpValue NoTcpValue tcp_value_at tcp_value_lawful tcp_value_exact no_tcp_options

-- ---- an opaque endpoint

typed_sees : (p : Piece) → (typed p ≡ None → meant (number 16) p.token ≡ None) × (meant (number 16) p.token ≡ None → typed p ≡ None)
typed_sees p = by (meant (number 16) p.token)
  where
    by : (o : Option ℤ) → (option_and_then (λ z. with_piece z p) o ≡ None → o ≡ None) × (o ≡ None → option_and_then (λ z. with_piece z p) o ≡ None)
    by None = (λ e. refl, λ e. refl)
    by (Some z) = (λ e. absurd cc, λ e. absurd cc)

chosen_same : (b : Bool) (v : ℕ × ℕ) → elim b as (λ b. Option (ℕ × ℕ)) [ true ↦ None | false ↦ Some v ] ≡ cond b None (Some v)
chosen_same true v = refl
chosen_same false v = refl

versioned_same : (kind : ℤ × Piece) (p : Piece) → versioned kind p ≡ meant (version_of kind.0) p.token
versioned_same kind p = by p.token
  where
    tested : (z : ℤ) (v : ℕ × ℕ) → elim (is_tcp z v) as (λ b. Option (ℕ × ℕ)) [ true ↦ None | false ↦ Some v ] ≡ cond (are_tcp z v) None (Some v)
    tested (pos n) v = chosen_same (eqb n 1 && (eqb v.0 1 && eqb v.1 1)) v
    tested (negsuc n) v = refl

    seen : (o : Option (ℕ × ℕ)) → option_and_then (λ v. elim (is_tcp kind.0 v) as (λ b. Option (ℕ × ℕ)) [ true ↦ None | false ↦ Some v ]) o ≡ option_and_then (λ v. cond (are_tcp kind.0 v) None (Some v)) o
    seen None = refl
    seen (Some v) = tested kind.0 v

    by : (t : Token) → option_and_then (λ v. elim (is_tcp kind.0 v) as (λ b. Option (ℕ × ℕ)) [ true ↦ None | false ↦ Some v ]) (meant version t) ≡ meant (version_of kind.0) t
    by (word bytes) = seen (version bytes)
    by colon = refl
    by at = refl
    by end = refl

versioned_sees : (kind : ℤ × Piece) (p : Piece) → (versioned kind p ≡ None → meant (version_of kind.0) p.token ≡ None) × (meant (version_of kind.0) p.token ≡ None → versioned kind p ≡ None)
versioned_sees kind p = let same = versioned_same kind p in (λ e. sym same ∙ e, λ e. same ∙ e)

typed_matches : Matches (Word (number 16)) (One typed no_blame) (λ k. k.0)
typed_matches = record {
  to = λ ps k h. (h.0, h.1, (typed_is h.0 (meant (number 16) h.0.token) k h.2).0);
  from = λ ps z h. ((z, h.0), (h.0, h.1, ap (option_and_then (λ z. with_piece z h.0)) h.2), refl);
}

versioned_matches : (kind : ℤ × Piece) → Matches (Word (version_of kind.0)) (One (versioned kind) (blame_type kind)) (λ v. v)
versioned_matches kind = record {
  to = λ ps v h. (h.0, h.1, sym (versioned_same kind h.0) ∙ h.2);
  from = λ ps v h. (v, (h.0, h.1, versioned_same kind h.0 ∙ h.2), refl);
}

-- a very word, and what follows it
this_then : {B : Type 0} (known : List ℕ) (NoNext : Misplaced) (q : Pieces → Reading B) → Lawful (Word (this known)) (word_as (this known)) Anything → Exact NoNext q → Exact (After (Word (this known)) (No (this known)) (λ u. NoNext)) (λ ps. word_as (this known) ps >>> λ u. q u.1)
this_then known NoNext q g e = exact_after (Word (this known)) (No (this known)) (λ u. NoNext) (Word (this known)) (λ u. u) (word_as (this known)) (λ u. q) Anything (matches_same (Word (this known))) g (exact_word (this known)) (λ u. e) (λ u b left h. tt)

abbrev NoFourth : Misplaced
NoFourth = After (Word (this (codes "-x"))) (No (this (codes "-x"))) (λ x. No hexadecimal)

abbrev NoThird : ℤ → Misplaced
NoThird z = After (Word (version_of z)) (No (version_of z)) (λ v. NoFourth)

abbrev NoSecond : ℤ → Misplaced
NoSecond z = After (Word (this (codes "-e"))) (No (this (codes "-e"))) (λ e. NoThird z)

abbrev NoFirst : Misplaced
NoFirst = After (Word (number 16)) (No (number 16)) NoSecond

fourth_exact : (kind : ℤ × Piece) (v : ℕ × ℕ) → Exact NoFourth (fourth kind v)
fourth_exact kind v = this_then (codes "-x") (No hexadecimal) (last kind v) x_lawful (exact_made (No hexadecimal) (made kind v) (word_as hexadecimal) (exact_word hexadecimal))

third_exact : (kind : ℤ × Piece) → Exact (NoThird kind.0) (third kind)
third_exact kind = exact_after (Word (version_of kind.0)) (No (version_of kind.0)) (λ v. NoFourth) (One (versioned kind) (blame_type kind)) (λ v. v) (one_at (versioned kind) (blame_type kind)) (fourth kind) Anything (versioned_matches kind) (versioned_lawful kind)
    (exact_one (version_of kind.0) (versioned kind) (blame_type kind) (versioned_sees kind)) (fourth_exact kind) (λ v b left h. tt)

second_exact : (kind : ℤ × Piece) → Exact (NoSecond kind.0) (second kind)
second_exact kind = this_then (codes "-e") (NoThird kind.0) (third kind) e_lawful (third_exact kind)

begin_exact : Exact NoFirst begin
begin_exact = exact_after (Word (number 16)) (No (number 16)) NoSecond (One typed no_blame) (λ k. k.0) (one_at typed no_blame) second Anything typed_matches typed_lawful (exact_one (number 16) typed no_blame typed_sees) second_exact (λ z b left h. tt)

opaque_exact : Exact NoOpaque opaque_at
opaque_exact = this_then (codes "-t") NoFirst begin t_lawful begin_exact

-- ---- endpoints

by_exact : (t : Transport) → Exact (NoEndpointBy t) (endpoint_by t)
by_exact transport_kinds.Tcp = exact_made (NoOptions tcp_flags is_tcp_given TcpValue NoTcpValue no_tcp_options) tcp_of (options_at tcp_flags is_tcp_given tcp_value_at no_tcp_options) tcp_exact
by_exact transport_kinds.Opaque = opaque_exact

endpoint_exact : Exact NoEndpoint endpoint_at
endpoint_exact = exact_after (Word (listed transports)) (No (listed transports)) NoEndpointBy (Word (listed transports)) (λ t. t) (word_as (listed transports)) endpoint_by Anything (matches_same (Word (listed transports))) transport_lawful (exact_word (listed transports)) by_exact (λ t b left h. tt)

-- ---- endpoints, each behind `:`

-- all are pieces of a text
abbrev Known : Pieces → Type 0
Known [] = Unit {0}
Known (p ∷ ps) = (p.token ≢ end) × Known ps

known_behind : (a b : Pieces) → Known (a ++ b) → Known b
known_behind [] b h = h
known_behind (p ∷ a) b h = known_behind a b h.1

known_rest : (ps a b : Pieces) → ps ≡ a ++ b → Known ps → Known b
known_rest ps a b e h = known_behind a b (subst Known e h)

pub known_text : (ps : Pieces) (r : Rest) → HasPieces r ps → Known ps
known_text [] r h = tt
known_text (p ∷ ps) r h = (h.2, known_text ps (next r).rest h.3)

-- another piece than `:`
record NoColon (ps : Pieces) : Type 0 where
  pub other : Piece
  pub rest : Pieces
  pub words : ps ≡ other ∷ rest
  pub none : colon_token other.token ≡ None

-- a word or `@`
abbrev Other : Pieces → Type 0
Other ps = StartsWord ps ⊎ StartsAt ps

other_piece : (ps : Pieces) → Known ps → NoColon ps → Other ps
other_piece ps known lacks = subst Other (sym lacks.words) (by lacks.other.token refl lacks.none (subst Known lacks.words known).0)
  where
    by : (t : Token) → lacks.other.token ≡ t → colon_token t ≡ None → (lacks.other.token ≢ end) → Other (lacks.other ∷ lacks.rest)
    by (word bytes) is none some = inl (bytes, is)
    by colon is none some = absurd cc
    by at is none some = inr is
    by end is none some = absurd (some is)

-- endpoints that stop
abbrev Stopping : Pieces → Stop → Type 0
Stopping ps stop = (before : Pieces) × (ps ≡ before ++ stop.behind) × NoEndpoints before stop.behind

-- the same, or they do not begin
abbrev Ended : Pieces → Stop → Type 0
Ended ps stop = ((ps ≡ stop.behind) × Other ps) ⊎ Stopping ps stop

colon_seen : (t : Token) → colon_token t ≡ Some tt → t ≡ colon
colon_seen (word bytes) e = absurd cc
colon_seen colon e = refl
colon_seen at e = absurd cc
colon_seen end e = absurd cc

colon_refused : (p : Piece) (ps : Pieces) (stop : Stop) → one_at colon_piece no_blame (p ∷ ps) ≡ Err stop → NoColon (p ∷ ps)
colon_refused p ps stop e = record { other = p; rest = ps; words = refl; none = by (colon_token p.token) refl e }
  where
    by : (o : Option (Unit {0})) → colon_token p.token ≡ o → viewed colon_piece no_blame o (p ∷ ps) ps ≡ Err stop → colon_token p.token ≡ None
    by None is e = is
    by (Some u) is e = absurd cc

-- endpoints with one more before them
more_endpoints : (m : Piece) (taken before left : Pieces) (e : Endpoint) → m.token ≡ colon → AnEndpoint taken e → NoEndpoints before left → NoEndpoints (m ∷ (taken ++ before)) left
more_endpoints m taken before left e is one (adapter_too f fs are starts) = adapter_too e (f ∷ fs) (m, taken, before, refl, is, one, are) starts
more_endpoints m taken before left e is one (word_behind es a c mark transport f parts are marks names opaque starts) =
    word_behind (e ∷ es) (m ∷ (taken ++ a)) c mark transport f (ap (λ (z : Pieces). m ∷ (taken ++ z)) parts ∙ ap (λ (z : Pieces). m ∷ z) (sym (append_assoc taken a (mark ∷ transport ∷ c)))) (m, taken, a, refl, is, one, are) marks names opaque starts
more_endpoints m taken before left e is one (no_endpoint es a c mark parts are marks lacks) =
    no_endpoint (e ∷ es) (m ∷ (taken ++ a)) c mark (ap (λ (z : Pieces). m ∷ (taken ++ z)) parts ∙ ap (λ (z : Pieces). m ∷ z) (sym (append_assoc taken a (mark ∷ c)))) (m, taken, a, refl, is, one, are) marks lacks

abbrev Bad : Piece → Pieces → Pieces → Type 0
Bad m mid left = (before : Pieces) × (m ∷ mid ≡ before ++ left) × NoEndpoints before left

-- a word behind one endpoint, which is opaque
bad_word : (m : Piece) (mid left : Pieces) (e : Endpoint) → m.token ≡ colon → endpoint_at mid ≡ Ok (e, left) → StartsWord left → Bad m mid left
bad_word m mid left e is read starts = then_ok (Bad m mid left) (word_as (listed transports) mid) (λ t. endpoint_by t.0 t.1) (e, left) read by
  where
    by : (t : Transport) (rest : Pieces) → word_as (listed transports) mid ≡ Ok (t, rest) → endpoint_by t rest ≡ Ok (e, left) → Bad m mid left
    by transport_kinds.Tcp rest d f = then_ok (Bad m mid left) (options_at tcp_flags is_tcp_given tcp_value_at no_tcp_options rest) (λ o. Ok (tcp_of o.0, o.1)) (e, left) f (λ o end g h.
        let none = options_end tcp_flags is_tcp_given TcpValue NoTcpValue tcp_value_at tcp_value_lawful tcp_value_exact no_tcp_options o rest end g in
        let same = (ok_parts (tcp_of o) e end left h).1 in
        absurd (let word_is = word_starts left starts in let no_word = ap (λ (z : Pieces). next_word (first z)) (sym same) ∙ none in cc))
    by transport_kinds.Opaque rest d f =
        let o = one_split (seen_as (listed transports)) no_blame mid rest transport_kinds.Opaque d in
        let t = opaque_lawful.found rest left e f in
        (m ∷ o.0 ∷ t.taken, ap (λ (z : Pieces). m ∷ z) (o.1 ∙ ap (λ (z : Pieces). o.0 ∷ z) t.parts), word_behind [] [] t.taken m o.0 e refl refl is o.2 t.spelled starts)

-- `@` behind one endpoint
bad_at : (m : Piece) (mid left : Pieces) (e : Endpoint) → m.token ≡ colon → endpoint_at mid ≡ Ok (e, left) → StartsAt left → Bad m mid left
bad_at m mid left e is read starts =
    let t = endpoint_lawful.found mid left e read in
    (m ∷ (t.taken ++ []), ap (λ (z : Pieces). m ∷ z) (t.parts ∙ ap (λ (z : Pieces). z ++ left) (sym (append-nil t.taken))), adapter_too e [] (m, t.taken, [], refl, is, t.spelled, refl) starts)

loop_to : (n : ℕ) (ps : Pieces) (stop : Stop) → length ps < n → Known ps → endpoints_at ps ≡ Err stop → Ended ps stop
loop_to zero ps stop lt known e = absurd (omega arith)
loop_to (suc n) [] stop lt known e = let never = sym (unrolled []) ∙ e in absurd cc
loop_to (suc n) (p ∷ ps) stop lt known e = then_err (Ended (p ∷ ps) stop) (one_at colon_piece no_blame (p ∷ ps)) (λ c. behind c.0 c.1) stop (sym (unrolled (p ∷ ps)) ∙ e)
    (λ d. inl ((one_refused colon_piece no_blame (p ∷ ps) stop d).0, other_piece (p ∷ ps) known (colon_refused p ps stop d)))
    (λ c mid d f.
    then_err (Ended (p ∷ ps) stop) (endpoint_at mid) (λ x. others x.0 x.1) stop f
    (λ g.
    let m = one_split colon_piece no_blame (p ∷ ps) mid c d in
    let k = endpoint_exact.to mid stop g in
    inr (m.0 ∷ k.0, m.1 ∙ ap (λ (z : Pieces). m.0 ∷ z) k.1, no_endpoint [] [] k.0 m.0 refl refl (colon_seen m.0.token m.2) k.2))
    (λ x left g h.
    then_err (Ended (p ∷ ps) stop) (endpoints_at left) (λ es. Ok (x ∷ es.0, es.1)) stop h
    (λ a.
    let m = one_split colon_piece no_blame (p ∷ ps) mid c d in
    let t = endpoint_lawful.found mid left x g in
    let short = colon_fewer (p ∷ ps) mid c d in
    let few = endpoint_fewer mid left x g in
    let known_left = known_rest mid t.taken left t.parts (known_rest (p ∷ ps) (m.0 ∷ []) mid m.1 known) in
    inr (joined m.0 mid left x (colon_seen m.0.token m.2) m.1 g (loop_to n left stop (omega (arith, short, few, lt)) known_left a)))
    (λ es end a b. absurd cc)))
  where
    bad : (m : Piece) (mid left : Pieces) → p ∷ ps ≡ m ∷ mid → left ≡ stop.behind → Bad m mid left → Stopping (p ∷ ps) stop
    bad m mid left whole same k = (k.0, whole ∙ (k.1 ∙ ap (λ (z : Pieces). k.0 ++ z) same), subst (λ (z : Pieces). NoEndpoints k.0 z) same k.2)

    joined : (m : Piece) (mid left : Pieces) (x : Endpoint) → m.token ≡ colon → p ∷ ps ≡ m ∷ mid → endpoint_at mid ≡ Ok (x, left) → Ended left stop → Stopping (p ∷ ps) stop
    joined m mid left x is whole read (inl (same, inl starts)) = bad m mid left whole same (bad_word m mid left x is read starts)
    joined m mid left x is whole read (inl (same, inr starts)) = bad m mid left whole same (bad_at m mid left x is read starts)
    joined m mid left x is whole read (inr k) =
        let t = endpoint_lawful.found mid left x read in
        (m ∷ (t.taken ++ k.0), whole ∙ ap (λ (z : Pieces). m ∷ z) (t.parts ∙ (ap (λ (z : Pieces). t.taken ++ z) k.1 ∙ sym (append_assoc t.taken k.0 stop.behind))), more_endpoints m t.taken k.0 stop.behind x is t.spelled k.2)

abbrev Refused : Pieces → Pieces → Type 0
Refused ps left = (stop : Stop) × (endpoints_at ps ≡ Err stop) × (stop.behind ≡ left)

-- another piece than `:` is refused
other_refused : (left : Pieces) → Other left → Refused left left
other_refused [] (inl h) = absurd h
other_refused [] (inr h) = absurd h
other_refused (p ∷ ps) (inl h) = (record { behind = p ∷ ps; blamed = None }, unrolled (p ∷ ps) ∙ ap (λ (o : Option (Unit {0})). viewed colon_piece no_blame o (p ∷ ps) ps >>> λ c. behind c.0 c.1) (ap colon_token h.1), refl)
other_refused (p ∷ ps) (inr h) = (record { behind = p ∷ ps; blamed = None }, unrolled (p ∷ ps) ∙ ap (λ (o : Option (Unit {0})). viewed colon_piece no_blame o (p ∷ ps) ps >>> λ c. behind c.0 c.1) (ap colon_token h), refl)

-- a refusal behind endpoints that stand
refused_behind : (es : List Endpoint) (a more left : Pieces) → AreEndpoints a es → next_word (first more) ≡ false → Refused more left → Refused (a ++ more) left
refused_behind es a more left are none k = (k.0, endpoints_before es a more are none ∙ ap (λ (m : Reading (List Endpoint)). m >>> λ ys. Ok (es ++ ys.0, ys.1)) k.1, k.2)

-- an endpoint that is refused, behind its `:`
endpoint_refused : (mark : Piece) (ps left : Pieces) (stop : Stop) → mark.token ≡ colon → endpoint_at ps ≡ Err stop → stop.behind ≡ left → Refused (mark ∷ ps) left
endpoint_refused mark ps left stop is e same =
    (stop, unrolled (mark ∷ ps) ∙ (ap (λ (o : Option (Unit {0})). viewed colon_piece no_blame o (mark ∷ ps) ps >>> λ c. behind c.0 c.1) (ap colon_token is) ∙ ap (λ (m : Reading Endpoint). m >>> λ x. others x.0 x.1) e), same)

other_word : (left : Pieces) → StartsAt left → next_word (first left) ≡ false
other_word [] h = absurd h
other_word (p ∷ ps) h = ap is_word h

endpoints_from : (before left : Pieces) → NoEndpoints before left → Refused (before ++ left) left
endpoints_from before left (adapter_too e es are starts) = refused_behind (e ∷ es) before left left are (other_word left starts) (other_refused left (inr starts))
endpoints_from before left (word_behind es a c mark transport e parts are is names opaque starts) =
    let tail : Pieces = mark ∷ transport ∷ (c ++ left) in
    let whole : before ++ left ≡ a ++ tail = ap (λ (z : Pieces). z ++ left) parts ∙ append_assoc a (mark ∷ transport ∷ c) left in
    let reads : endpoint_at (transport ∷ (c ++ left)) ≡ Ok (e, left) = ap (λ (o : Option Transport). viewed (seen_as (listed transports)) no_blame o (transport ∷ (c ++ left)) (c ++ left) >>> λ t. endpoint_by t.0 t.1) names ∙ opaque_lawful.only c left e opaque tt in
    let k = other_refused left (inl starts) in
    let one : endpoints_at tail ≡ Err k.0 = unrolled tail ∙ (ap (λ (o : Option (Unit {0})). viewed colon_piece no_blame o tail (transport ∷ (c ++ left)) >>> λ u. behind u.0 u.1) (ap colon_token is)
    ∙ (ap (λ (m : Reading Endpoint). m >>> λ x. others x.0 x.1) reads ∙ ap (λ (m : Reading (List Endpoint)). m >>> λ es. Ok (e ∷ es.0, es.1)) k.1)) in
    let all = refused_behind es a tail left are (ap is_word is) (k.0, one, k.2) in
    (all.0, ap endpoints_at whole ∙ all.1, all.2)
endpoints_from before left (no_endpoint es a c mark parts are is lacks) =
    let whole : before ++ left ≡ a ++ (mark ∷ (c ++ left)) = ap (λ (z : Pieces). z ++ left) parts ∙ append_assoc a (mark ∷ c) left in
    let k = endpoint_exact.from c left lacks in
    let all = refused_behind es a (mark ∷ (c ++ left)) left are (ap is_word is) (endpoint_refused mark (c ++ left) left k.0 is k.1 k.2) in
    (all.0, ap endpoints_at whole ∙ all.1, all.2)

-- they begin with `:`
no_endpoints_begin : (before left : Pieces) → NoEndpoints before left → (next_word (first (before ++ left)) ≡ false) × (next_at (first (before ++ left)) ≡ false)
no_endpoints_begin before left (adapter_too e es are starts) =
    let whole = are.3 in
    (ap (λ (z : Pieces). next_word (first (z ++ left))) whole ∙ ap is_word are.4, ap (λ (z : Pieces). next_at (first (z ++ left))) whole ∙ ap is_at are.4)
no_endpoints_begin before left (word_behind es a c mark transport e parts are is names opaque starts) =
    let whole : before ++ left ≡ a ++ (mark ∷ transport ∷ (c ++ left)) = ap (λ (z : Pieces). z ++ left) parts ∙ append_assoc a (mark ∷ transport ∷ c) left in
    (ap (λ (z : Pieces). next_word (first z)) whole ∙ endpoints_begin a (mark ∷ transport ∷ (c ++ left)) es are (ap is_word is), ap (λ (z : Pieces). next_at (first z)) whole ∙ endpoints_no_at a (mark ∷ transport ∷ (c ++ left)) es are (ap is_at is))
no_endpoints_begin before left (no_endpoint es a c mark parts are is lacks) =
    let whole : before ++ left ≡ a ++ (mark ∷ (c ++ left)) = ap (λ (z : Pieces). z ++ left) parts ∙ append_assoc a (mark ∷ c) left in
    (ap (λ (z : Pieces). next_word (first z)) whole ∙ endpoints_begin a (mark ∷ (c ++ left)) es are (ap is_word is), ap (λ (z : Pieces). next_at (first z)) whole ∙ endpoints_no_at a (mark ∷ (c ++ left)) es are (ap is_at is))

-- ---- adapters

at_seen : (t : Token) → at_token t ≡ Some tt → t ≡ at
at_seen (word bytes) e = absurd cc
at_seen colon e = absurd cc
at_seen at e = refl
at_seen end e = absurd cc

abbrev closes : List ℕ × Pieces → Reading (List Endpoint × List ℕ)
closes x = end_at x.1 >>> λ e. Ok (([], x.0), e.1)

abbrev adapting : Unit {0} × Pieces → Reading (List Endpoint × List ℕ)
adapting a = word_as text_of a.1 >>> closes

end_some : (ps : Pieces) (stop : Stop) → end_at ps ≡ Err stop → (ps ≡ stop.behind) × (ps ≢ [])
end_some [] stop e = absurd cc
end_some (p ∷ ps) stop e = (ap (λ (s : Stop). s.behind) (err_same {A = Unit {0}} (record { behind = p ∷ ps; blamed = None }) stop e), λ f. cc)

some_end : (ps : Pieces) → ps ≢ [] → (stop : Stop) × (end_at ps ≡ Err stop) × (stop.behind ≡ ps)
some_end [] some = absurd (some refl)
some_end (p ∷ ps) some = (record { behind = p ∷ ps; blamed = None }, refl, refl)

-- behind `@`
adapter_to : (mark : Piece) (ps : Pieces) (stop : Stop) → mark.token ≡ at → adapting (tt, ps) ≡ Err stop → (before : Pieces) × (mark ∷ ps ≡ before ++ stop.behind) × NoAdapter before stop.behind
adapter_to mark ps stop is e = then_err ((before : Pieces) × (mark ∷ ps ≡ before ++ stop.behind) × NoAdapter before stop.behind) (word_as text_of ps) closes stop e
    (λ d. let k = (exact_word text_of).to ps stop d in let none = k.2 in (mark ∷ k.0, ap (λ (z : Pieces). mark ∷ z) k.1, no_adapter mark is (ap (λ (z : Pieces). mark ∷ z) none.0) none.1))
    (λ x mid d f.
    let w = one_split (seen_as text_of) no_blame ps mid x d in
    then_err ((before : Pieces) × (mark ∷ ps ≡ before ++ stop.behind) × NoAdapter before stop.behind) (end_at mid) (λ e. Ok (([], x), e.1)) stop f
    (λ g.
    let k = end_some mid stop g in
    (mark ∷ w.0 ∷ [], ap (λ (z : Pieces). mark ∷ z) (w.1 ∙ ap (λ (z : Pieces). w.0 ∷ z) k.0), behind_adapter mark w.0 x is w.2 refl (subst (λ (z : Pieces). z ≢ []) k.0 k.1)))
    (λ u end g h. absurd cc))

abbrev Unfit : Pieces → Pieces → Type 0
Unfit ps left = (stop : Stop) × (location_at ps ≡ Err stop) × (stop.behind ≡ left)

abbrev seen_at : Option (Unit {0}) → Piece → Pieces → Reading (List Endpoint × List ℕ)
seen_at o mark ps = viewed at_piece no_blame o (mark ∷ ps) ps >>> adapting

at_location : (mark : Piece) (ps : Pieces) → mark.token ≡ at → location_at (mark ∷ ps) ≡ adapting (tt, ps)
at_location mark ps is = by_part (mark ∷ ps) true (ap is_at is) ∙ ap (λ (o : Option (Unit {0})). seen_at o mark ps) (ap at_token is)

adapter_from : (before left : Pieces) → NoAdapter before left → Unfit (before ++ left) left
adapter_from before left (no_adapter mark is parts none) =
    let k = (exact_word text_of).from [] left (refl, none) in
    (k.0, ap (λ (z : Pieces). location_at (z ++ left)) parts ∙ (at_location mark left is ∙ ap (λ (m : Reading (List ℕ)). m >>> closes) k.1), k.2)
adapter_from before left (behind_adapter mark adapter x is names parts some) =
    let k = some_end left some in
    let reads : word_as text_of (adapter ∷ left) ≡ Ok (x, left) = one_only (seen_as text_of) no_blame (adapter ∷ []) left x (adapter, refl, names) in
    (k.0, ap (λ (z : Pieces). location_at (z ++ left)) parts ∙ (at_location mark (adapter ∷ left) is ∙ (ap (λ (m : Reading (List ℕ)). m >>> closes) reads ∙ ap (λ (m : Reading (Unit {0})). m >>> λ e. Ok (([], x), e.1)) k.1)), k.2)

adapter_begins : (before left : Pieces) → NoAdapter before left → next_word (first (before ++ left)) ≡ false
adapter_begins before left (no_adapter mark is parts none) = ap (λ (z : Pieces). next_word (first (z ++ left))) parts ∙ ap is_word is
adapter_begins before left (behind_adapter mark adapter x is names parts some) = ap (λ (z : Pieces). next_word (first (z ++ left))) parts ∙ ap is_word is

-- ---- where it is found

abbrev NoLocation : Misplaced
NoLocation = λ before behind. NoEndpoints before behind ⊎ NoAdapter before behind

location_to : (ps : Pieces) (stop : Stop) → Known ps → next_word (first ps) ≡ false → location_at ps ≡ Err stop → (before : Pieces) × (ps ≡ before ++ stop.behind) × NoLocation before stop.behind
location_to [] stop known none e = let never = ap (λ (m : Reading (List Endpoint)). m >>> λ es. answered (es.0, []) es.1) (sym (unrolled [])) ∙ e in absurd cc
location_to (p ∷ ps) stop known none e = by p.token refl e none
  where
    Goal : Type 0
    Goal = (before : Pieces) × (p ∷ ps ≡ before ++ stop.behind) × NoLocation before stop.behind

    ended : is_word p.token ≡ false → is_at p.token ≡ false → Ended (p ∷ ps) stop → Goal
    ended no_word no_at (inl (same, inl h)) = absurd (let is = ap is_word h.1 in cc)
    ended no_word no_at (inl (same, inr h)) = absurd (let is = ap is_at h in cc)
    ended no_word no_at (inr k) = (k.0, k.1, inl k.2)

    plain : is_word p.token ≡ false → is_at p.token ≡ false → location_at (p ∷ ps) ≡ Err stop → Goal
    plain no_word no_at e = then_err Goal (endpoints_at (p ∷ ps)) (λ es. Ok ((es.0, []), es.1)) stop (sym (by_part (p ∷ ps) false no_at) ∙ e)
        (λ d. ended no_word no_at (loop_to (suc (length (p ∷ ps))) (p ∷ ps) stop (omega arith) known d)) (λ es mid d f. absurd cc)

    by : (t : Token) → p.token ≡ t → location_at (p ∷ ps) ≡ Err stop → is_word p.token ≡ false → Goal
    by (word bytes) is e no_word = absurd (let word_is = ap is_word is in cc)
    by colon is e no_word = plain no_word (ap is_at is) e
    by end is e no_word = plain no_word (ap is_at is) e
    by at is e no_word = let k = adapter_to p ps stop is (sym (at_location p ps is) ∙ e) in (k.0, k.1, inr k.2)

location_from : (before left : Pieces) → NoLocation before left → (next_word (first (before ++ left)) ≡ false) × Unfit (before ++ left) left
location_from before left (inl h) =
    let begins = no_endpoints_begin before left h in
    let k = endpoints_from before left h in
    (begins.0, (k.0, by_part (before ++ left) false begins.1 ∙ ap (λ (m : Reading (List Endpoint)). m >>> λ es. answered (es.0, []) es.1) k.1, k.2))
location_from before left (inr h) = (adapter_begins before left h, adapter_from before left h)

-- ---- a proxy

abbrev naming : Identity × Pieces → Reading (Identity × Options)
naming i = options_at flags is_given value_at no_options i.1 >>> λ o. Ok ((i.0, o.0), o.1)

named_exact : Exact (After (Word identity_of) (No identity_of) (λ i. NoTheOptions)) named_at
named_exact = exact_after (Word identity_of) (No identity_of) (λ i. NoTheOptions) (Word identity_of) (λ i. i) (word_as identity_of) (λ i ps. naming (i, ps)) Anything (matches_same (Word identity_of)) identity_lawful (exact_word identity_of)
    (λ i. exact_made NoTheOptions (λ o. (i, o)) (options_at flags is_given value_at no_options) options_exact) (λ i b left h. tt)

named_end : (named : Identity × Options) (ps mid : Pieces) → named_at ps ≡ Ok (named, mid) → next_word (first mid) ≡ false
named_end named ps mid e = then_ok (next_word (first mid) ≡ false) (word_as identity_of ps) naming (named, mid) e (λ i rest d f.
    then_ok (next_word (first mid) ≡ false) (options_at flags is_given value_at no_options rest) (λ o. Ok ((i, o.0), o.1)) (named, mid) f (λ o end g h.
    let none = options_end flags is_given Value NoValue value_at value_lawful value_exact no_options o rest end g in
    ap (λ (z : Pieces). next_word (first z)) (sym (ok_parts (i, o) named end mid h).1) ∙ none))

abbrev making : Identity × Options → (List Endpoint × List ℕ) × Pieces → Reading Proxy
making named l = Ok (proxy_of named.0 named.1 l.0, l.1)

pub kind_of : (ps : Pieces) (stop : Stop) → Known ps → proxy_at ps ≡ Err stop → (before : Pieces) × (ps ≡ before ++ stop.behind) × NoProxy before stop.behind
kind_of ps stop known e = then_err ((before : Pieces) × (ps ≡ before ++ stop.behind) × NoProxy before stop.behind) (named_at ps) (λ named. found_at named.0 named.1) stop e
    (λ d. let k = named_exact.to ps stop d in (k.0, k.1, inl k.2))
    (λ named mid d f.
    then_err ((before : Pieces) × (ps ≡ before ++ stop.behind) × NoProxy before stop.behind) (location_at mid) (making named) stop f
    (λ g.
    let t = named_lawful.found ps mid named d in
    let k = location_to mid stop (known_rest ps t.taken mid t.parts known) (named_end named ps mid d) g in
    (t.taken ++ k.0, t.parts ∙ (ap (λ (z : Pieces). t.taken ++ z) k.1 ∙ sym (append_assoc t.taken k.0 stop.behind)), inr (named, t.taken, k.0, refl, t.spelled, k.2)))
    (λ l end g h. absurd cc))

pub of_kind : (before left : Pieces) → NoProxy before left → (stop : Stop) × (proxy_at (before ++ left) ≡ Err stop) × (stop.behind ≡ left)
of_kind before left (inl h) = let k = named_exact.from before left h in (k.0, ap (λ (m : Reading (Identity × Options)). m >>> λ named. found_at named.0 named.1) k.1, k.2)
of_kind before left (inr h) =
    let k = location_from h.2 left h.5 in
    let u = k.1 in
    let reads = named_lawful.only h.1 (h.2 ++ left) h.0 h.4 k.0 in
    (u.0, ap proxy_at (ap (λ (z : Pieces). z ++ left) h.3 ∙ append_assoc h.1 h.2 left) ∙ (ap (λ (m : Reading (Identity × Options)). m >>> λ named. found_at named.0 named.1) reads ∙ ap (λ (m : Reading (List Endpoint × List ℕ)). m >>> making h.0) u.1), u.2)

-- what breaks has a piece of some kind that is due and not there
pub breaks_kind : (text : List ℕ) (ps before left : Pieces) → HasPieces (whole text) ps → Breaks IsProxy ps before left → (ps ≡ before ++ left) × NoProxy before left
breaks_kind text ps before left has b =
    let agree = proxy_agree (length text) text ps (whole_stands text ps has) in
    let f = fault_from IsProxy proxy_at proxy_lawful (proxy_text text) (length text) ps agree before left b in
    let k = kind_of ps f.0 (known_text ps (whole text) has) f.1 in
    let same : k.0 ≡ before = append_cancel_right k.0 before left (sym (k.1 ∙ ap (λ (z : Pieces). k.0 ++ z) f.2) ∙ b.parts) in
    (b.parts, subst (λ (z : Pieces). NoProxy z left) same (subst (λ (z : Pieces). NoProxy k.0 z) f.2 k.2))

-- and where there is such a one they break
pub kind_breaks : (ps before left : Pieces) → ps ≡ before ++ left → NoProxy before left → Breaks IsProxy ps before left
kind_breaks ps before left parts h =
    let k = of_kind before left h in
    let b = pieces_break.breaks IsProxy proxy_at proxy_lawful ps k.0 (ap proxy_at parts ∙ k.1) in
    let c = b.1 in
    let same : b.0 ≡ before = append_cancel_right b.0 before left (ap (λ (z : Pieces). b.0 ++ z) (sym k.2) ∙ (sym c.parts ∙ parts)) in
    subst (λ (z : Pieces). Breaks IsProxy ps z left) same (subst (λ (z : Pieces). Breaks IsProxy ps b.0 z) k.2 c)
