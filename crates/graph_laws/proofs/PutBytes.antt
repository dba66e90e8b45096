-- What is put for a part is bytes.
use Rattle.std.proofs.Common.{ℕ, ℤ, pos, zero, suc, ◌+◌, ◌*◌, ◌/◌, ◌%◌, ◌<◌, ◌≤◌, ◌^◌, ◌≡◌, Bool, true, false, cond, ltb, List, [], ◌∷◌, ◌++◌, length, Option, refl, subst, inl, inr, arith}
use Rattle.std.specs.Prelude.{◌&&◌, nat_lt, if◌then◌else◌}
use Rattle.std.specs.Int.{Width, w16, w32, to_le_bytes, byte_at, byte_len, cast_unsigned, bytes_low_first}
use Rattle.std.specs.List.{flat_map}
use Rattle.std.specs.Str.{IsUtf8}
use Rattle.std.proofs.lemmas.Bool.{ltb-true}
use lib.Utf8.{scalar, scalars, encode, encodes, scalar_cases}
use Rattle.ice_types.specs.declared.proxy.Endpoint.{Endpoint}
use Rattle.ice_types.specs.declared.proxy.Endpoint.TheVariants.{Tcp, Opaque}
use Rattle.ice_types.specs.declared.proxy.Proxy.{Proxy}
use Rattle.ice_prims.specs.Rest.{IsBytes}
use Rattle.ice_prims.specs.Bytes.{bool_bytes, signed_bytes, size_bytes, text_bytes}
use Rattle.ice_prims.proofs.Parts.{IsBytes-front}
use Rattle.ice_encoding.specs.Bounds.{size_with}
use Rattle.ice_encoding.specs.Parts.{Each}
use Rattle.ice_encoding.specs.Identity.{identity, facet}
use Rattle.ice_encoding.specs.Endpoint.{endpoint, kind_of, said, said_bytes, endpoint_to}
use Rattle.ice_encoding.specs.Proxy.{location, details_of, identity_of, named, proxy, location_to, named_to, proxy_to}
use Rattle.ice_encoding.specs.Skipping.{count}
use Rattle.ice_encoding.specs.Tags.{leading_byte, tag_by, behind_leading, tag}
use Rattle.ice_encoding.specs.Slices.{unknown_bytes}

pub none_bytes : IsBytes []
none_bytes i = omega arith

pub more_bytes : (n : ℕ) (ns : List ℕ) → n < 256 → IsBytes ns → IsBytes (n ∷ ns)
more_bytes n ns lt h zero = lt
more_bytes n ns lt h (suc i) = h i

pub both_bytes : (a b : List ℕ) → IsBytes a → IsBytes b → IsBytes (a ++ b)
both_bytes [] b p q = q
both_bytes (n ∷ a) b p q = more_bytes n (a ++ b) (p 0) (both_bytes a b (λ i. p (suc i)) q)

-- ---- numbers and texts

low_mod : (x : ℕ) → x % 256 < 256
low_mod x = omega arith

low_one : (i n : ℕ) → byte_at i n < 256
low_one zero n = low_mod n
low_one (suc i) n = low_mod (n / 256 ^ suc i)

low_bytes : (i k n : ℕ) → IsBytes (bytes_low_first i k n)
low_bytes i zero n = none_bytes
low_bytes i (suc k) n = more_bytes (byte_at i n) (bytes_low_first (suc i) k n) (low_one i n) (low_bytes (suc i) k n)

pub signed_put : (w : Width) (z : ℤ) → IsBytes (signed_bytes w z)
signed_put w z = low_bytes 0 (byte_len w) (cast_unsigned w z)

pub bool_put : (b : Bool) → IsBytes (bool_bytes b)
bool_put true = more_bytes 1 [] (omega arith) none_bytes
bool_put false = more_bytes 0 [] (omega arith) none_bytes

size_by : (n : ℕ) (b : Bool) → nat_lt n 255 ≡ b → IsBytes (if b then n ∷ [] else 255 ∷ to_le_bytes w32 n)
size_by n true e = more_bytes n [] (omega (arith, ltb-true n 255 e)) none_bytes
size_by n false e = more_bytes 255 (to_le_bytes w32 n) (omega arith) (low_bytes 0 4 n)

pub size_put : (n : ℕ) → IsBytes (size_bytes n)
size_put n = size_by n (nat_lt n 255) refl

character_by : (c : ℕ) → c < 1114112 → (x y z : Bool) → ltb c 128 ≡ x → ltb c 2048 ≡ y → ltb c 65536 ≡ z
    → IsBytes (cond x (c ∷ []) (cond y ((192 + c / 64) ∷ (128 + c % 64) ∷ []) (cond z ((224 + c / 4096) ∷ (128 + c / 64 % 64) ∷ (128 + c % 64) ∷ []) ((240 + c / 262144) ∷ (128 + c / 4096 % 64) ∷ (128 + c / 64 % 64) ∷ (128 + c % 64) ∷ []))))
character_by c lt true y z p q r = more_bytes c [] (omega (arith, ltb-true c 128 p)) none_bytes
character_by c lt false true z p q r = more_bytes (192 + c / 64) ((128 + c % 64) ∷ []) (omega (arith, ltb-true c 2048 q)) (more_bytes (128 + c % 64) [] (omega arith) none_bytes)
character_by c lt false false true p q r =
    more_bytes (224 + c / 4096) ((128 + c / 64 % 64) ∷ (128 + c % 64) ∷ []) (omega (arith, ltb-true c 65536 r))
    (more_bytes (128 + c / 64 % 64) ((128 + c % 64) ∷ []) (omega arith) (more_bytes (128 + c % 64) [] (omega arith) none_bytes))
character_by c lt false false false p q r =
    more_bytes (240 + c / 262144) ((128 + c / 4096 % 64) ∷ (128 + c / 64 % 64) ∷ (128 + c % 64) ∷ []) (omega (arith, lt))
    (more_bytes (128 + c / 4096 % 64) ((128 + c / 64 % 64) ∷ (128 + c % 64) ∷ []) (omega arith)
    (more_bytes (128 + c / 64 % 64) ((128 + c % 64) ∷ []) (omega arith) (more_bytes (128 + c % 64) [] (omega arith) none_bytes)))

character_bytes : (c : ℕ) → scalar c ≡ true → IsBytes (encode c)
unfolding encode
character_bytes c is = character_by c (elim (scalar_cases c is) [ inl h ↦ omega (arith, h) | inr h ↦ h.1 ]) (ltb c 128) (ltb c 2048) (ltb c 65536) refl refl refl

both_true : (a b : Bool) → (a && b) ≡ true → (a ≡ true) × (b ≡ true)
both_true true b e = (refl, e)
both_true false b e = absurd cc

characters_bytes : (cs : List ℕ) → scalars cs ≡ true → IsBytes (encodes cs)
characters_bytes [] is = none_bytes
characters_bytes (c ∷ cs) is =
    let h = both_true (scalar c) (scalars cs) is in
    both_bytes (encode c) (encodes cs) (character_bytes c h.0) (characters_bytes cs h.1)

pub utf8_bytes : (s : List ℕ) → IsUtf8 s → IsBytes s
utf8_bytes s (cs, (is, same)) = subst IsBytes same (characters_bytes cs is)

pub text_put : (s : List ℕ) → IsUtf8 s → IsBytes (text_bytes s)
text_put s utf8 = both_bytes (size_bytes (length s)) s (size_put (length s)) (utf8_bytes s utf8)

-- ---- proxies

flat_put : {A : Type 0} (put : A → List ℕ) (Is : A → Type 0) → ((x : A) → Is x → IsBytes (put x)) → (xs : List A) → Each Is xs → IsBytes (flat_map put xs)
flat_put put Is one [] h = none_bytes
flat_put put Is one (x ∷ xs) h = both_bytes (put x) (flat_map put xs) (one x h.0) (flat_put put Is one xs h.1)

facet_put : (f : List ℕ) → facet.Is f → IsBytes (facet.put f)
facet_put [] is = both_bytes (size_bytes 0) [] (size_put 0) none_bytes
facet_put (c ∷ cs) is = both_bytes (size_bytes 1) (text_bytes (c ∷ cs) ++ []) (size_put 1) (both_bytes (text_bytes (c ∷ cs)) [] (text_put (c ∷ cs) is.0.1.1.0.0) none_bytes)

module _ (most : ℕ) where
  said_put : (e : Endpoint) → (endpoint_to most).Is e → IsBytes (said_bytes e)
  said_put (Tcp host port timeout compress) is =
      let rest = signed_bytes w32 port ++ (signed_bytes w32 timeout ++ bool_bytes compress) in
      more_bytes 1 (1 ∷ (text_bytes host ++ rest)) (omega arith) (more_bytes 1 (text_bytes host ++ rest) (omega arith)
      (both_bytes (text_bytes host) rest (text_put host is.1.0.1.0.0.0)
      (both_bytes (signed_bytes w32 port) (signed_bytes w32 timeout ++ bool_bytes compress) (signed_put w32 port) (both_bytes (signed_bytes w32 timeout) (bool_bytes compress) (signed_put w32 timeout) (bool_put compress)))))
  said_put (Opaque other major minor bytes) is = let parts = is.1.0 in more_bytes major (minor ∷ bytes) parts.1 (more_bytes minor bytes parts.2 parts.4)

  endpoint_put : (e : Endpoint) → (endpoint_to most).Is e → IsBytes (endpoint.put e)
  endpoint_put e is =
      let kind = kind_of e in
      let size = pos (size_with (said kind) e) in
      both_bytes (signed_bytes w16 kind) (signed_bytes w32 size ++ said_bytes e) (signed_put w16 kind) (both_bytes (signed_bytes w32 size) (said_bytes e) (signed_put w32 size) (said_put e is))

  location_put : (es : List Endpoint) (adapter : List ℕ) → (location_to most).Is (es, adapter) → IsBytes (location.put (es, adapter))
  location_put [] adapter is = both_bytes (size_bytes 0) (text_bytes adapter) (size_put 0) (text_put adapter is.1.0.0)
  location_put (e ∷ es) adapter is = both_bytes (size_bytes (suc (length es))) (flat_map endpoint.put (e ∷ es)) (size_put (suc (length es))) (flat_put endpoint.put (endpoint_to most).Is endpoint_put (e ∷ es) is.1.0.1)

  named_put : (name : List ℕ) (p : Option Proxy) → (named_to most (identity_of p) name).Is p → IsBytes ((named (identity_of p) name).put p)
  named_put [] p is = none_bytes
  named_put (c ∷ cs) p is =
      let d = details_of p in
      let versions = (d.1.1.1.0.0 ∷ d.1.1.1.0.1 ∷ []) ++ ((d.1.1.1.1.0.0 ∷ d.1.1.1.1.0.1 ∷ []) ++ location.put d.1.1.1.1.1) in
      let i = is.0 in
      let two : (v : ℕ × ℕ) → (v.0 < 256) × (v.1 < 256) → IsBytes (v.0 ∷ v.1 ∷ []) = λ v h. more_bytes v.0 (v.1 ∷ []) h.0 (more_bytes v.1 [] h.1 none_bytes) in
      both_bytes (facet.put d.0) ((d.1.0 ∷ []) ++ (bool_bytes d.1.1.0 ++ versions)) (facet_put d.0 i.0)
      (more_bytes d.1.0 (bool_bytes d.1.1.0 ++ versions) i.1.0.0
      (both_bytes (bool_bytes d.1.1.0) versions (bool_put d.1.1.0)
      (both_bytes (d.1.1.1.0.0 ∷ d.1.1.1.0.1 ∷ []) ((d.1.1.1.1.0.0 ∷ d.1.1.1.1.0.1 ∷ []) ++ location.put d.1.1.1.1.1) (two d.1.1.1.0 i.1.1.1.0)
      (both_bytes (d.1.1.1.1.0.0 ∷ d.1.1.1.1.0.1 ∷ []) (location.put d.1.1.1.1.1) (two d.1.1.1.1.0 i.1.1.1.1.0) (location_put d.1.1.1.1.1.0 d.1.1.1.1.1.1 i.1.1.1.1.1)))))

  proxy_put_in : (p : Option Proxy) → (proxy_to most).Is p → IsBytes (proxy.put p)
  proxy_put_in p is =
      let i = identity_of p in
      both_bytes (identity.put i) ((named i i.name).put p) (both_bytes (text_bytes i.name) (text_bytes i.category) (text_put i.name is.0.0.0.0.0) (text_put i.category is.0.0.0.1.0)) (named_put i.name p is.1)

pub proxy_put : (most : ℕ) (p : Option Proxy) → (proxy_to most).Is p → IsBytes (proxy.put p)
proxy_put most p is = proxy_put_in most p is

-- ---- what stands before an optional member

pub count_put : (n : ℕ) → IsBytes (count.put n)
count_put n = signed_put w32 (pos n)

tag_put_by : (b n : ℕ) (c : Bool) → IsBytes ((tag_by c b).put n)
tag_put_by b n true = none_bytes
tag_put_by b n false = size_put n

leading_small : (t format : ℕ) → format ≤ 7 → (b : Bool) → nat_lt t 30 ≡ b → (if b then t else 30) * 8 + format < 256
leading_small t format le true e = omega (arith, le, ltb-true t 30 e)
leading_small t format le false e = omega (arith, le)

pub tag_put : (t format : ℕ) → format ≤ 7 → IsBytes (tag.put (t, format))
tag_put t format le = more_bytes (leading_byte t format) ((behind_leading (leading_byte t format)).put t) (leading_small t format le (nat_lt t 30) refl) (tag_put_by (leading_byte t format) t (nat_lt (leading_byte t format) 240))

-- ---- what is kept of a slice: the end marker behind it is not

pub kept_bytes : (flagged : Bool) (bytes : List ℕ) → IsBytes (unknown_bytes flagged bytes) → IsBytes bytes
kept_bytes true bytes fits = IsBytes-front bytes (255 ∷ []) fits
kept_bytes false bytes fits = fits
