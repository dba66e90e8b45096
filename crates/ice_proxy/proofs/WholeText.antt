-- The whole text of a proxy is read as it is printed.
use Rattle.std.proofs.Common.{◌≡◌, ℕ, suc, ◌+◌, ◌<◌, Bool, true, false, List, [], ◌∷◌, ◌++◌, length, None, Some, Ok, refl, sym, ◌∙◌, ap, arith, codes, eqb, inl, inr, ◌⊎◌, append-nil}
use Rattle.std.specs.Prelude.{if◌then◌else◌}
use Rattle.std.specs.Str.{IsUtf8}
use Rattle.std.proofs.lemmas.Bool.{eqb-true, and_parts}
use Rattle.ice_prims.specs.Rest.{Rest, Took, whole}
use Rattle.ice_types.specs.declared.proxy.Endpoint.{Endpoint}
use Rattle.ice_types.specs.declared.proxy.Proxy.{Proxy}
use Rattle.ice_proxy.specs.Escapes.{text_of, identity_of}
use Rattle.ice_proxy.specs.PrintedWords.{printed_text, printed_identity}
use Rattle.ice_proxy.specs.Laws.{EndsWord}
use Rattle.ice_proxy.proofs.StandingWords.{texts_stand, identities_stand}
use Rattle.ice_proxy.proofs.Readings.{texts_read, identities_read}
use Rattle.ice_proxy.specs.Looking.{Parsed, ◌>>=◌, word_ahead, word_as, at_ahead, end_at}
use Rattle.ice_proxy.specs.Options.{no_options, flags, is_given, with_flag, options_at}
use Rattle.ice_proxy.specs.Grammar.{or, location_from, location_at, proxy_of, proxy_text}
use Rattle.ice_proxy.specs.Printed.{unless_empty, printed_options, printed_endpoints, printed_proxy, HaveEndpointTexts, HasText}
use Rattle.ice_proxy.proofs.Parts.{stops, colon_stands, at_stands, end_stands, read_as}
use Rattle.ice_proxy.proofs.OptionTexts.{is_old, given_text, given_version, given_options, options_part}
use Rattle.ice_proxy.proofs.EndpointTexts.{or_text, endpoints_read}

-- ---- where it is found

abbrev printed_place : List Endpoint → List ℕ → List ℕ
printed_place es adapter = printed_endpoints es ++ unless_empty (codes " @ ") adapter

place_ends : (es : List Endpoint) (adapter : List ℕ) → EndsWord (printed_place es adapter)
place_ends [] [] = tt
place_ends [] (c ∷ cs) = refl
place_ends (e ∷ es) adapter = refl

place_no_word : (es : List Endpoint) (adapter : List ℕ) (r : Rest) → r.bytes ≡ printed_place es adapter → word_ahead r ≡ None
place_no_word [] [] r e = (end_stands r e).no_word
place_no_word [] (c ∷ cs) r e = (at_stands r (record { place = r.place + 2; bytes = 32 ∷ printed_text (c ∷ cs) }) (record { parts = e; moved = refl })).no_word
place_no_word (first ∷ es) adapter r e = (colon_stands r (record { place = r.place + 1; bytes = _ }) (record { parts = e; moved = refl })).no_word

adapter_read : (c : ℕ) (cs : List ℕ) (r : Rest) → IsUtf8 (c ∷ cs) → r.bytes ≡ codes " @ " ++ printed_text (c ∷ cs) → location_at r ≡ Ok ([], c ∷ cs)
adapter_read c cs r utf8 e =
    let bytes = printed_text (c ∷ cs) in
    let m : Rest = record { place = r.place + 2; bytes = 32 ∷ bytes } in
    let s : Rest = record { place = m.place + suc (length bytes); bytes = [] } in
    let took : Took m (32 ∷ bytes) s = record { parts = ap (λ (l : List ℕ). 32 ∷ l) (sym (append-nil bytes)); moved = refl } in
    let read : word_as text_of m ≡ Ok (c ∷ cs, s) = read_as text_of (32 ∷ []) bytes (c ∷ cs) m s (texts_read (c ∷ cs) utf8) refl (texts_stand (c ∷ cs)) took tt in
    ap (location_from r) (at_stands r m (record { parts = e; moved = refl })).at
    ∙ ap (λ p. p >>= λ x. end_at x.1 >>= λ e. Ok ([], x.0)) read
    ∙ ap (λ p. p >>= λ e. Ok ([], c ∷ cs)) (end_stands s refl).end

located : (es : List Endpoint) (r : Rest) → HaveEndpointTexts es → r.bytes ≡ printed_endpoints es → location_at r ≡ Ok (es, [])
located es r has e = ap (location_from r) (no_at es e) ∙ ap (λ p. p >>= λ xs. Ok (xs, [])) (endpoints_read es r has e)
  where
    no_at : (es : List Endpoint) → r.bytes ≡ printed_endpoints es → at_ahead r ≡ None
    no_at [] e = (end_stands r e).no_at
    no_at (first ∷ es) e = (colon_stands r (record { place = r.place + 1; bytes = _ }) (record { parts = e; moved = refl })).no_at

location_read : (es : List Endpoint) (adapter : List ℕ) (r : Rest) → HaveEndpointTexts es → IsUtf8 adapter → (es ≡ []) ⊎ (adapter ≡ []) → r.bytes ≡ printed_place es adapter → location_at r ≡ Ok (es, adapter)
location_read es [] r has utf8 one e = located es r has (e ∙ append-nil (printed_endpoints es))
location_read [] (c ∷ cs) r has utf8 one e = adapter_read c cs r utf8 e
location_read (first ∷ es) (c ∷ cs) r has utf8 (inl none) e = absurd cc
location_read (first ∷ es) (c ∷ cs) r has utf8 (inr none) e = absurd cc

-- ---- a proxy

abbrev made_version : ℕ → ℕ → ℕ × ℕ
made_version major minor = (major, minor)

or_version : (v : ℕ × ℕ) → or (given_version v) (1, 0) ≡ v
or_version v = by (is_old v) refl
  where
    same : (major minor : ℕ) → major ≡ 1 → minor ≡ 0 → made_version 1 0 ≡ made_version major minor
    same major minor p q = rw (p, q) refl

    by : (b : Bool) → is_old v ≡ b → or (if b then None else Some v) (1, 0) ≡ v
    by false e = refl
    by true e = let parts = and_parts (eqb v.0 1) (eqb v.1 0) e in same v.0 v.1 (eqb-true v.0 1 parts.0) (eqb-true v.1 0 parts.1)

same_proxy : (p : Proxy) → proxy_of p.identity (given_options p) (p.endpoints, p.adapter) ≡ p
same_proxy p = by (or (given_text p.facet) []) (or (given_version p.protocol) (1, 0)) (or_text p.facet) (or_version p.protocol)
  where
    by : (facet : List ℕ) (protocol : ℕ × ℕ) → facet ≡ p.facet → protocol ≡ p.protocol → record p { facet = facet; protocol = protocol } ≡ p
    by facet protocol same also = rw (same, also) refl

name_there : (name : List ℕ) → (name ≡ [] → ⊥) → 0 < length name
name_there [] some = absurd (some refl)
name_there (c ∷ cs) some = omega arith

abbrev made_proxy : Proxy → Parsed Proxy
made_proxy p = Ok p

pub text_read_back : (p : Proxy) → HasText p → proxy_text (printed_proxy p) ≡ Ok p
text_read_back p has =
    let name = printed_identity p.identity in
    let options = printed_options p in
    let place = printed_place p.endpoints p.adapter in
    let r0 = whole (name ++ (options ++ place)) in
    let r1 : Rest = record { place = 0 + length name; bytes = options ++ place } in
    let r2 : Rest = record { place = r1.place + length options; bytes = place } in
    let part = options_part p has in
    let front : EndsWord (options ++ place) = part.front place (place_ends p.endpoints p.adapter) in
    let named : word_as identity_of r0 ≡ Ok (p.identity, r1) = read_as identity_of [] name p.identity r0 r1 (identities_read p.identity (name_there p.identity.name has.name) has.name_text has.category) refl (identities_stand p.identity) (record { parts = refl; moved = refl }) front in
    let none : word_ahead r2 ≡ None = place_no_word p.endpoints p.adapter r2 refl in
    let come = part.part r1 r2 (Ok (given_options p, r2)) (record { parts = refl; moved = refl }) (place_ends p.endpoints p.adapter) (stops flags is_given with_flag (given_options p) r2 none) in
    let optioned : options_at flags is_given with_flag no_options r1 ≡ Ok (given_options p, r2) = come.comes (suc (length r1.bytes)) (omega arith) in
    let found : location_at r2 ≡ Ok (p.endpoints, p.adapter) = location_read p.endpoints p.adapter r2 has.endpoints has.adapter has.place refl in
    ap (λ q. q >>= λ i. options_at flags is_given with_flag no_options i.1 >>= λ o. location_at o.1 >>= λ l. Ok (proxy_of i.0 o.0 l)) named
    ∙ ap (λ q. q >>= λ o. location_at o.1 >>= λ l. Ok (proxy_of p.identity o.0 l)) optioned
    ∙ ap (λ q. q >>= λ l. Ok (proxy_of p.identity (given_options p) l)) found
    ∙ ap made_proxy (same_proxy p)
