-- What the definitions answer at bytes that are written out.
use Rattle.std.proofs.Common.{◌≡◌, ℕ, false, List, [], ◌∷◌, ◌++◌, codes, None, Some, Ok, refl}
use Rattle.std.specs.Prelude.{pos}
use Rattle.std.specs.Str.{is_utf8, chars}
use lib.Utf8.{encode}
use Rattle.ice_types.specs.declared.proxy.Proxy.{Proxy}
use Rattle.ice_types.specs.declared.proxy.Endpoint.TheVariants.{Tcp, Opaque}
use Rattle.ice_prims.specs.declared.fault.Kind.TheVariants.{Short, TooLarge, BadSize, BadIdentity, BadFacet, BadMode, LeftOver}
use Rattle.ice_prims.specs.Rest.{Rest, fault, whole}
use Rattle.ice_encoding.specs.Identity.{facet}
use Rattle.ice_encoding.specs.Endpoint.{endpoint}
use Rattle.ice_encoding.specs.Proxy.{location, proxy}

-- all bytes were read, and so many they were
abbrev at_end : ℕ → Rest
at_end n = record { place = n; bytes = [] }

-- the identity `hello`, without a category
abbrev hello : List ℕ
hello = 5 ∷ 104 ∷ 101 ∷ 108 ∷ 108 ∷ 111 ∷ 0 ∷ []

-- a version, the host `localhost`, the port 10000, a timeout of 60000, and no compression
abbrev local_host : ℕ → ℕ → List ℕ
local_host major minor = major ∷ minor ∷ 9 ∷ 108 ∷ 111 ∷ 99 ∷ 97 ∷ 108 ∷ 104 ∷ 111 ∷ 115 ∷ 116 ∷ 16 ∷ 39 ∷ 0 ∷ 0 ∷ 96 ∷ 234 ∷ 0 ∷ 0 ∷ 0 ∷ []

-- ---- proxies

no_proxy : proxy.read (whole (0 ∷ 0 ∷ [])) ≡ Ok (None, at_end 2)
unfolding is_utf8 chars encode
no_proxy = refl

no_proxy_put : proxy.put None ≡ 0 ∷ 0 ∷ []
no_proxy_put = refl

abbrev two_way : List ℕ
two_way = hello ++ 0 ∷ 0 ∷ 0 ∷ 1 ∷ 0 ∷ 1 ∷ 1 ∷ 1 ∷ 1 ∷ 0 ∷ 25 ∷ 0 ∷ 0 ∷ 0 ∷ local_host 1 1

abbrev hello_there : Proxy
hello_there = record {
  identity = record { name = codes "hello"; category = [] };
  facet = [];
  mode = 0;
  secure = false;
  protocol = (1, 0);
  encoding = (1, 1);
  endpoints = Tcp (codes "localhost") (pos 10000) (pos 60000) false ∷ [];
  adapter = [];
}

served : proxy.read (whole two_way) ≡ Ok (Some hello_there, at_end 42)
unfolding is_utf8 chars encode
served = refl

served_put : proxy.put (Some hello_there) ≡ two_way
served_put = refl

-- no endpoint, and the adapter `a`
adapted : location.read (whole (0 ∷ 1 ∷ 97 ∷ [])) ≡ Ok (([], codes "a"), at_end 3)
unfolding is_utf8 chars encode
adapted = refl

-- a category without a name
nameless : proxy.read (whole (0 ∷ 1 ∷ 97 ∷ [])) ≡ fault 0 BadIdentity
unfolding is_utf8 chars encode
nameless = refl

two_facets : proxy.read (whole (hello ++ 2 ∷ 1 ∷ 97 ∷ 1 ∷ 98 ∷ [])) ≡ fault 7 BadFacet
unfolding is_utf8 chars encode
two_facets = refl

unknown_mode : proxy.read (whole (hello ++ 0 ∷ 5 ∷ 0 ∷ [])) ≡ fault 8 BadMode
unfolding is_utf8 chars encode
unknown_mode = refl

-- ---- facets

no_text : facet.read (whole (0 ∷ [])) ≡ Ok ([], at_end 1)
no_text = refl

-- the same facet, which is put as no text
empty_text : facet.read (whole (1 ∷ 0 ∷ [])) ≡ Ok ([], at_end 2)
unfolding is_utf8 chars encode
empty_text = refl

no_facet_put : facet.put [] ≡ 0 ∷ []
no_facet_put = refl

-- ---- endpoints

-- another transport: its bytes are kept
other_type : endpoint.read (whole (2 ∷ 0 ∷ 9 ∷ 0 ∷ 0 ∷ 0 ∷ 1 ∷ 0 ∷ 7 ∷ 8 ∷ 9 ∷ [])) ≡ Ok (Opaque (pos 2) 1 0 (7 ∷ 8 ∷ 9 ∷ []), at_end 11)
other_type = refl

other_type_put : endpoint.put (Opaque (pos 2) 1 0 (7 ∷ 8 ∷ 9 ∷ [])) ≡ 2 ∷ 0 ∷ 9 ∷ 0 ∷ 0 ∷ 0 ∷ 1 ∷ 0 ∷ 7 ∷ 8 ∷ 9 ∷ []
other_type_put = refl

-- TCP of another version is kept as bytes too
other_version : endpoint.read (whole (1 ∷ 0 ∷ 6 ∷ 0 ∷ 0 ∷ 0 ∷ 1 ∷ 0 ∷ [])) ≡ Ok (Opaque (pos 1) 1 0 [], at_end 8)
other_version = refl

-- the place is that of the first byte after the content
one_byte_more : endpoint.read (whole (1 ∷ 0 ∷ 26 ∷ 0 ∷ 0 ∷ 0 ∷ local_host 1 1 ++ 7 ∷ [])) ≡ fault 27 LeftOver
unfolding is_utf8 chars encode
one_byte_more = refl

-- the content goes past its bound, and not past the input
past_the_bound : endpoint.read (whole (1 ∷ 0 ∷ 24 ∷ 0 ∷ 0 ∷ 0 ∷ local_host 1 1)) ≡ fault 26 Short
unfolding is_utf8 chars encode
past_the_bound = refl

-- ---- the size of an endpoint, whose place is 2

below_six : endpoint.read (whole (1 ∷ 0 ∷ 5 ∷ 0 ∷ 0 ∷ 0 ∷ 1 ∷ [])) ≡ fault 2 BadSize
below_six = refl

past_the_end : endpoint.read (whole (1 ∷ 0 ∷ 7 ∷ 0 ∷ 0 ∷ 0 ∷ 1 ∷ 0 ∷ [])) ≡ fault 2 Short
past_the_end = refl

-- 1,048,577
too_large : endpoint.read (whole (1 ∷ 0 ∷ 1 ∷ 0 ∷ 16 ∷ 0 ∷ 1 ∷ 0 ∷ [])) ≡ fault 2 TooLarge
too_large = refl

-- 1,048,576
largest : endpoint.read (whole (1 ∷ 0 ∷ 0 ∷ 0 ∷ 16 ∷ 0 ∷ 1 ∷ 0 ∷ [])) ≡ fault 2 Short
largest = refl

negative : endpoint.read (whole (1 ∷ 0 ∷ 255 ∷ 255 ∷ 255 ∷ 255 ∷ [])) ≡ fault 2 BadSize
negative = refl
