-- What is read is no longer than the bytes that it takes.
use Rattle.std.proofs.Common.{◌≡◌, ℕ, zero, suc, ◌+◌, ◌≤◌, Bool, true, false, cond, eqb, List, [], ◌∷◌, length, take, drop, Option, None, Some, Ok, Err, refl, sym, ◌∙◌, ap, subst, arith, codes, ℤ}
use Rattle.std.specs.Prelude.{if◌then◌else◌}
use Rattle.std.specs.Str.{bytes_eq}
use Rattle.std.proofs.lemmas.List.{length-append, length-drop, take-append-drop}
use Rattle.ice_types.specs.declared.proxy.Endpoint.{Endpoint}
use Rattle.ice_types.specs.declared.proxy.Endpoint.TheVariants.{Tcp, Opaque}
use Rattle.ice_prims.specs.Rest.{Rest}
use Rattle.ice_proxy.specs.Words.{bare, word_length, blanks, Token, word, colon, at, end, Next, first_token, next}
use Rattle.ice_proxy.specs.Escapes.{text_of}
use Rattle.ice_proxy.specs.declared.options.Options.{Options}
use Rattle.ice_proxy.specs.declared.options.Flag.{Flag}
use Rattle.ice_proxy.specs.declared.options.Flag.TheVariants as kinds
use Rattle.ice_proxy.specs.declared.tcp.TcpOptions.{TcpOptions}
use Rattle.ice_proxy.specs.declared.tcp.TcpFlag.{TcpFlag}
use Rattle.ice_proxy.specs.declared.tcp.TcpFlag.TheVariants as tcp_kinds
use Rattle.ice_proxy.specs.declared.endpoints.Transport.{Transport}
use Rattle.ice_proxy.specs.declared.endpoints.Transport.TheVariants as transport_kinds
use Rattle.ice_proxy.specs.Numbers.{number, timeout, version, hexadecimal}
use Rattle.ice_proxy.specs.Looking.{Parsed, ◌>>=◌, place_at, word_from, word_ahead, or_refused, word_as, at_from, at_ahead}
use Rattle.ice_proxy.specs.Options.{listed, option_of, option_from, options_within, options_at, flags, is_given, with_flag, no_tcp_options, tcp_flags, is_tcp_given, with_tcp_flag}
use Rattle.ice_proxy.specs.Grammar.{or, tcp_of, exactly, not_tcp, opaque_at, transports, endpoint_by, endpoint_at}
use Rattle.ice_proxy.proofs.Progress.{ok_is}
use Rattle.ice_proxy.proofs.Shorter.{text_shorter, content_shorter}

abbrev pub answered : {A : Type 0} → A → Rest → Parsed (A × Rest)
answered x r = Ok (x, r)

some_is : {A : Type 0} (x y : A) → Some x ≡ Some y → x ≡ y
some_is x y e = cc

-- what stands behind a step that gave something
pub then_ok : {A B : Type 0} {C : Type 0} (r : Parsed A) (f : A → Parsed B) (y : B) → (r >>= f) ≡ Ok y → ((x : A) → r ≡ Ok x → f x ≡ Ok y → C) → C
then_ok (Ok x) f y e go = go x refl e
then_ok (Err place) f y e go = absurd cc

refused_ok : {A : Type 0} (place : ℕ) (o : Option A) (x : A) → or_refused place o ≡ Ok x → o ≡ Some x
refused_ok place None x e = absurd cc
refused_ok place (Some y) x e = ap (λ z. Some z) (ok_is y x e)

-- ---- words

parts_length : (n : ℕ) (bytes : List ℕ) → length (take n bytes) + length (drop n bytes) ≡ length bytes
parts_length n bytes = sym (length-append (take n bytes) (drop n bytes)) ∙ ap length (take-append-drop n bytes)

word_is : (a b : List ℕ) → word a ≡ word b → a ≡ b
word_is a b e = cc

first_takes : (bytes found : List ℕ) → (first_token bytes).0 ≡ word found → length found + length (drop (first_token bytes).1 bytes) ≤ length bytes
first_takes [] found e = absurd cc
first_takes (c ∷ cs) found e = by (eqb c 58) (eqb c 64) e
  where
    n : ℕ
    n = word_length bare (c ∷ cs)

    picked : Bool → Bool → Token × ℕ
    picked b d = cond b (colon, 1) (cond d (at, 1) (word (take n (c ∷ cs)), n))

    by : (b d : Bool) → (picked b d).0 ≡ word found → length found + length (drop (picked b d).1 (c ∷ cs)) ≤ length (c ∷ cs)
    by true d e = absurd cc
    by false true e = absurd cc
    by false false e = subst (λ (f : List ℕ). length f + length (drop n (c ∷ cs)) ≤ length (c ∷ cs)) (word_is (take n (c ∷ cs)) found e) (omega (arith, parts_length n (c ∷ cs)))

next_takes : (r : Rest) (found : List ℕ) → (next r).token ≡ word found → length found + length (next r).rest.bytes ≤ length r.bytes
next_takes r found e =
    let bytes = drop (blanks r.bytes) r.bytes in
    let took : length found + length (drop (first_token bytes).1 bytes) ≤ length bytes = first_takes bytes found e in
    omega (arith, took, length-drop (blanks r.bytes) r.bytes)

rest_short : (r : Rest) → length (next r).rest.bytes ≤ length r.bytes
rest_short r =
    let bytes = drop (blanks r.bytes) r.bytes in
    omega (arith, length-drop (blanks r.bytes) r.bytes, length-drop (first_token bytes).1 bytes)

ahead_takes : (r s : Rest) (bytes : List ℕ) (place : ℕ) → word_ahead r ≡ Some (bytes, place, s) → length bytes + length s.bytes ≤ length r.bytes
unfolding word_ahead
ahead_takes r s bytes place e = by (next r).token (next r).rest (next r).place refl e
  where
    by : (t : Token) (rest : Rest) (at_place : ℕ) → next r ≡ record { token = t; place = at_place; rest = rest } → word_from t at_place rest ≡ Some (bytes, place, s) → length bytes + length s.bytes ≤ length r.bytes
    by (word found) rest at_place is e =
        let took = next_takes r found (ap (λ (n : Next). n.token) is) in
        subst (λ (w : List ℕ × ℕ × Rest). length w.0 + length w.2.bytes ≤ length r.bytes) (some_is (found, at_place, rest) (bytes, place, s) e) (subst (λ (n : Next). length found + length n.rest.bytes ≤ length r.bytes) is took)
    by colon rest at_place is e = absurd cc
    by at rest at_place is e = absurd cc
    by end rest at_place is e = absurd cc

pub at_short : (r s : Rest) → at_ahead r ≡ Some s → length s.bytes ≤ length r.bytes
unfolding at_ahead
at_short r s e = by (next r).token e
  where
    by : (t : Token) → at_from t (next r).rest ≡ Some s → length s.bytes ≤ length r.bytes
    by (word found) e = absurd cc
    by colon e = absurd cc
    by at e = subst (λ (x : Rest). length x.bytes ≤ length r.bytes) (some_is (next r).rest s e) (rest_short r)
    by end e = absurd cc

-- ---- a measure of what is read

-- What is read is longer than what stood before it by no more than the bytes that were taken.
pub record Keeps {A : Type 0} (before : ℕ) (size : A → ℕ) (read : Rest → Parsed (A × Rest)) : Type 0 where
  pub fits : (r t : Rest) (x : A) → read r ≡ Ok (x, t) → size x + length t.bytes ≤ before + length r.bytes

pub word_keeps : {A : Type 0} (before : ℕ) (meaning : List ℕ → Option A) (size : A → ℕ) → ((bytes : List ℕ) (x : A) → meaning bytes ≡ Some x → size x ≤ before + length bytes) → Keeps before size (word_as meaning)
word_keeps {A} before meaning size each = record { fits = all }
  where
    all : (r t : Rest) (x : A) → word_as meaning r ≡ Ok (x, t) → size x + length t.bytes ≤ before + length r.bytes
    all r t x e = then_ok (or_refused (place_at r) (word_ahead r)) (λ w. or_refused w.1 (meaning w.0) >>= λ y. answered y w.2) (x, t) e
        (λ w is rest. then_ok (or_refused w.1 (meaning w.0)) (λ y. answered y w.2) (x, t) rest
        (λ y y_is last.
        let a = ahead_takes r w.2 w.0 w.1 (refused_ok (place_at r) (word_ahead r) w is) in
        let b = each w.0 y (refused_ok w.1 (meaning w.0) y y_is) in
        subst (λ (z : A × Rest). size z.0 + length z.1.bytes ≤ before + length r.bytes) (ok_is (y, w.2) (x, t) last) (omega (arith, a, b))))

-- a word that adds nothing
sizeless : {A : Type 0} (before : ℕ) (meaning : List ℕ → Option A) → Keeps before (λ (x : A). before) (word_as meaning)
sizeless {A} before meaning = word_keeps before meaning (λ (x : A). before) (λ bytes x e. omega arith)

pub then_keeps : {A B : Type 0} (before : ℕ) (one : A → ℕ) (two : B → ℕ) (first : Rest → Parsed (A × Rest)) (second : A → Rest → Parsed (B × Rest)) → Keeps before one first → ((x : A) → Keeps (one x) two (second x)) → Keeps before two (λ r. first r >>= λ x. second x.0 x.1)
then_keeps {A} {B} before one two first second p q = record { fits = all }
  where
    all : (r t : Rest) (y : B) → (first r >>= λ x. second x.0 x.1) ≡ Ok (y, t) → two y + length t.bytes ≤ before + length r.bytes
    all r t y e = then_ok (first r) (λ x. second x.0 x.1) (y, t) e
        (λ x is last. let a = p.fits r x.1 x.0 is in let b = (q x.0).fits x.1 t y last in omega (arith, a, b))

same_keeps : {A : Type 0} (before : ℕ) (size : A → ℕ) (x : A) → size x ≤ before → Keeps before size (answered x)
same_keeps {A} before size x le = record { fits = all }
  where
    all : (r t : Rest) (y : A) → answered x r ≡ Ok (y, t) → size y + length t.bytes ≤ before + length r.bytes
    all r t y e = subst (λ (z : A × Rest). size z.0 + length z.1.bytes ≤ before + length r.bytes) (ok_is (x, r) (y, t) e) (omega (arith, le))

made_keeps : {A B : Type 0} (before : ℕ) (one : A → ℕ) (two : B → ℕ) (first : Rest → Parsed (A × Rest)) (make : A → B) → ((x : A) → two (make x) ≤ one x) → Keeps before one first → Keeps before two (λ r. first r >>= λ x. answered (make x.0) x.1)
made_keeps before one two first make le p = then_keeps before one two first (λ x r. answered (make x) r) p (λ x. same_keeps (one x) two (make x) (le x))

-- ---- options

-- how many bytes a text has where one stands
abbrev pub text_size : Option (List ℕ) → ℕ
text_size None = 0
text_size (Some s) = length s

abbrev pub options_size : Options → ℕ
options_size o = text_size o.facet

abbrev pub tcp_options_size : TcpOptions → ℕ
tcp_options_size o = text_size o.host

module _ {O : Type 0} (size : O → ℕ) (before : ℕ) where
  -- a text that is taken, in place of another
  with_text : (make : List ℕ → O) → ((s : List ℕ) → size (make s) ≤ length s) → Keeps before size (λ r. word_as text_of r >>= λ x. answered (make x.0) x.1)
  with_text make le = made_keeps before length size (word_as text_of) make le (word_keeps before text_of length (λ bytes s e. let short = text_shorter bytes s e in omega (arith, short)))

  -- a word that adds nothing
  with_word : {A : Type 0} (meaning : List ℕ → Option A) (make : A → O) → ((x : A) → size (make x) ≤ before) → Keeps before size (λ r. word_as meaning r >>= λ x. answered (make x.0) x.1)
  with_word {A} meaning make le = made_keeps before (λ (x : A). before) size (word_as meaning) make le (sizeless before meaning)

flag_keeps : (flag : Flag) (o : Options) → Keeps (options_size o) options_size (with_flag flag o)
flag_keeps kinds.Facet o = with_text options_size (options_size o) (λ x. record o { facet = Some x }) (λ s. omega arith)
flag_keeps (kinds.Mode n) o = same_keeps (options_size o) options_size (record o { mode = Some n }) (omega arith)
flag_keeps kinds.Secure o = same_keeps (options_size o) options_size (record o { secure = true }) (omega arith)
flag_keeps kinds.Protocol o = with_word options_size (options_size o) version (λ x. record o { protocol = Some x }) (λ x. omega arith)
flag_keeps kinds.Encoding o = with_word options_size (options_size o) version (λ x. record o { encoding = Some x }) (λ x. omega arith)

tcp_flag_keeps : (flag : TcpFlag) (o : TcpOptions) → Keeps (tcp_options_size o) tcp_options_size (with_tcp_flag flag o)
tcp_flag_keeps tcp_kinds.Host o = with_text tcp_options_size (tcp_options_size o) (λ x. record o { host = Some x }) (λ s. omega arith)
tcp_flag_keeps tcp_kinds.Port o = with_word tcp_options_size (tcp_options_size o) (number 32) (λ x. record o { port = Some x }) (λ x. omega arith)
tcp_flag_keeps tcp_kinds.Timeout o = with_word tcp_options_size (tcp_options_size o) timeout (λ x. record o { timeout = Some x }) (λ x. omega arith)
tcp_flag_keeps tcp_kinds.Compress o = same_keeps (tcp_options_size o) tcp_options_size (record o { compress = true }) (omega arith)

module _ {O F : Type 0} (rows : List (List ℕ × F)) (given : F → O → Bool) (taken : F → O → Rest → Parsed (O × Rest)) (size : O → ℕ) (taken_keeps : (flag : F) (o : O) → Keeps (size o) size (taken flag o)) where
  option_keeps : (found : Option F) (place : ℕ) (o last : O) (s t : Rest) → option_of rows given taken found place o s ≡ Ok (last, t) → size last + length t.bytes ≤ size o + length s.bytes
  option_keeps None place o last s t e = absurd cc
  option_keeps (Some flag) place o last s t e = by (given flag o) e
    where
      by : (b : Bool) → cond b (Err place) (taken flag o s) ≡ Ok (last, t) → size last + length t.bytes ≤ size o + length s.bytes
      by true e = absurd cc
      by false e = (taken_keeps flag o).fits s t last e

  -- what is read in so many steps
  abbrev Within : ℕ → Type 0
  Within steps = (o last : O) (r t : Rest) → options_within rows given taken steps o r ≡ Ok (last, t) → size last + length t.bytes ≤ size o + length r.bytes

  steps_keep : (steps : ℕ) → Within steps
  steps_keep zero o last r t e = absurd cc
  steps_keep (suc steps) o last r t e = by (word_ahead r) refl (steps_keep steps) e
    where
      by : (w : Option (List ℕ × ℕ × Rest)) → word_ahead r ≡ w → Within steps → option_from rows given taken (options_within rows given taken steps) o r w ≡ Ok (last, t) → size last + length t.bytes ≤ size o + length r.bytes
      by None is more e = (same_keeps (size o) size o (omega arith)).fits r t last e
      by (Some w) is more e = then_ok (option_of rows given taken (listed rows w.0) w.1 o w.2) (λ x. options_within rows given taken steps x.0 x.1) (last, t) e
          (λ x x_is later.
          let a = ahead_takes r w.2 w.0 w.1 is in
          let b = option_keeps (listed rows w.0) w.1 o x.0 w.2 x.1 x_is in
          let d = more x.0 last x.1 t later in
          omega (arith, a, b, d))

  options_keep : (o : O) → Keeps (size o) size (λ r. options_at rows given taken o r)
  options_keep o = record { fits = λ r t last e. steps_keep (suc (length r.bytes)) o last r t e }

pub proxy_options_keep : (o : Options) → Keeps (options_size o) options_size (λ r. options_at flags is_given with_flag o r)
proxy_options_keep o = options_keep flags is_given with_flag options_size flag_keeps o

-- ---- endpoints

-- how many bytes the host or the content has
abbrev pub endpoint_size : Endpoint → ℕ
endpoint_size (Tcp host port timeout compress) = length host
endpoint_size (Opaque kind major minor bytes) = length bytes

or_size : (s : Option (List ℕ)) → length (or s []) ≤ text_size s
or_size None = omega arith
or_size (Some s) = omega arith

tcp_keeps : Keeps 0 endpoint_size (endpoint_by transport_kinds.Tcp)
tcp_keeps = made_keeps 0 tcp_options_size endpoint_size (λ r. options_at tcp_flags is_tcp_given with_tcp_flag no_tcp_options r) tcp_of (λ o. or_size o.host)
    (options_keep tcp_flags is_tcp_given with_tcp_flag tcp_options_size tcp_flag_keeps no_tcp_options)

exactly_keeps : (known : List ℕ) → Keeps 0 (λ x. 0) (exactly known)
exactly_keeps known = sizeless 0 (λ bytes. if bytes_eq bytes known then Some tt else None)

-- the parts of another transport, from the last on
abbrev content_at : ℤ → ℕ × ℕ → Rest → Parsed (Endpoint × Rest)
content_at kind v r = word_as hexadecimal r >>= λ content. answered (Opaque kind v.0 v.1 content.0) content.1

abbrev marked_at : ℤ → ℕ × ℕ → Rest → Parsed (Endpoint × Rest)
marked_at kind v r = exactly (codes "-x") r >>= λ x. content_at kind v x.1

abbrev tested_at : ℕ → ℤ → ℕ × ℕ → Rest → Parsed (Endpoint × Rest)
tested_at place kind v r = not_tcp place kind v >>= λ other. marked_at kind v r

abbrev versioned_at : ℕ → ℤ → Rest → Parsed (Endpoint × Rest)
versioned_at place kind r = word_as version r >>= λ v. tested_at place kind v.0 v.1

abbrev parted_at : ℕ → ℤ → Rest → Parsed (Endpoint × Rest)
parted_at place kind r = exactly (codes "-e") r >>= λ e. versioned_at place kind e.1

abbrev kind_at : Rest → Parsed (Endpoint × Rest)
kind_at r = word_as (number 16) r >>= λ kind. parted_at (place_at r) kind.0 kind.1

abbrev none : {A : Type 0} → A → ℕ
none x = 0

content_keeps : (kind : ℤ) (v : ℕ × ℕ) → Keeps 0 endpoint_size (content_at kind v)
content_keeps kind v = made_keeps 0 length endpoint_size (word_as hexadecimal) (λ content. Opaque kind v.0 v.1 content) (λ x. omega arith) (word_keeps 0 hexadecimal length (λ bytes x e. let short = content_shorter bytes x e in omega (arith, short)))

marked_keeps : (kind : ℤ) (v : ℕ × ℕ) → Keeps 0 endpoint_size (marked_at kind v)
marked_keeps kind v = then_keeps 0 none endpoint_size (exactly (codes "-x")) (λ x. content_at kind v) (exactly_keeps (codes "-x")) (λ x. content_keeps kind v)

tested_keeps : (place : ℕ) (kind : ℤ) (v : ℕ × ℕ) → Keeps 0 endpoint_size (tested_at place kind v)
tested_keeps place kind v = record { fits = λ r t e is. then_ok (not_tcp place kind v) (λ other. marked_at kind v r) (e, t) is (λ x x_is last. (marked_keeps kind v).fits r t e last) }

versioned_keeps : (place : ℕ) (kind : ℤ) → Keeps 0 endpoint_size (versioned_at place kind)
versioned_keeps place kind = then_keeps 0 none endpoint_size (word_as version) (tested_at place kind) (sizeless 0 version) (λ v. tested_keeps place kind v)

parted_keeps : (place : ℕ) (kind : ℤ) → Keeps 0 endpoint_size (parted_at place kind)
parted_keeps place kind = then_keeps 0 none endpoint_size (exactly (codes "-e")) (λ e. versioned_at place kind) (exactly_keeps (codes "-e")) (λ e. versioned_keeps place kind)

kind_keeps : Keeps 0 endpoint_size kind_at
kind_keeps = record { fits = λ r t e is. (then_keeps 0 none endpoint_size (word_as (number 16)) (parted_at (place_at r)) (sizeless 0 (number 16)) (λ kind. parted_keeps (place_at r) kind)).fits r t e is }

opaque_keeps : Keeps 0 endpoint_size opaque_at
opaque_keeps = then_keeps 0 none endpoint_size (exactly (codes "-t")) (λ t. kind_at) (exactly_keeps (codes "-t")) (λ t. kind_keeps)

transport_keeps : (t : Transport) → Keeps 0 endpoint_size (endpoint_by t)
transport_keeps transport_kinds.Tcp = tcp_keeps
transport_keeps transport_kinds.Opaque = opaque_keeps

pub endpoint_keeps : Keeps 0 endpoint_size endpoint_at
endpoint_keeps = then_keeps 0 none endpoint_size (word_as (listed transports)) endpoint_by (sizeless 0 (listed transports)) transport_keeps
