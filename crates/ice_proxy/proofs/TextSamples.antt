-- Where texts that are written out break, and what some stand for.
use Rattle.std.proofs.Common.{ℕ, ◌≡◌, false, List, [], ◌∷◌, codes, Err, refl}
use Rattle.std.specs.Prelude.{pos}
use Rattle.std.specs.Str.{is_utf8, chars}
use lib.Utf8.{encode}
use Rattle.ice_types.specs.declared.proxy.Endpoint.TheVariants.{Tcp, Opaque}
use Rattle.ice_proxy.specs.Looking.{word_ahead, at_ahead, colon_at, end_at, place_at}
use Rattle.ice_proxy.specs.Grammar.{proxy_text}
use Rattle.ice_proxy.specs.Spelled.{SpellsProxy, SpellsIdentity}
use Rattle.ice_proxy.specs.Breaks.{IdentityBreaks, ProxyBreaks}
use Rattle.ice_proxy.proofs.PieceFaults.{spelled_proxy, proxy_broken, spelled_identity, identity_broken}

breaks : (text : List ℕ) (place : ℕ) → proxy_text text ≡ Err place → ProxyBreaks text place
breaks = proxy_broken

-- an identity lacks, or what stands there is none
nothing : ProxyBreaks [] 0
unfolding is_utf8 chars encode word_ahead at_ahead colon_at end_at place_at
nothing = breaks [] 0 refl

two_slashes : ProxyBreaks (codes "a//b") 0
unfolding is_utf8 chars encode word_ahead at_ahead colon_at end_at place_at
two_slashes = breaks (codes "a//b") 0 refl

-- a word that is no option, and an option that stands twice
no_option : ProxyBreaks (codes "a -x") 2
unfolding is_utf8 chars encode word_ahead at_ahead colon_at end_at place_at
no_option = breaks (codes "a -x") 2 refl

two_modes : ProxyBreaks (codes "a -t -o") 5
unfolding is_utf8 chars encode word_ahead at_ahead colon_at end_at place_at
two_modes = breaks (codes "a -t -o") 5 refl

-- whatever its value, which is not looked at
two_facets : ProxyBreaks (codes "a -f b -f") 7
unfolding is_utf8 chars encode word_ahead at_ahead colon_at end_at place_at
two_facets = breaks (codes "a -f b -f") 7 refl

-- what an option lacks, or what stands in its place
no_facet : ProxyBreaks (codes "a -f:tcp") 4
unfolding is_utf8 chars encode word_ahead at_ahead colon_at end_at place_at
no_facet = breaks (codes "a -f:tcp") 4 refl

no_version : ProxyBreaks (codes "a -e 256.0") 5
unfolding is_utf8 chars encode word_ahead at_ahead colon_at end_at place_at
no_version = breaks (codes "a -e 256.0") 5 refl

version_lacks : ProxyBreaks (codes "a -e") 4
unfolding is_utf8 chars encode word_ahead at_ahead colon_at end_at place_at
version_lacks = breaks (codes "a -e") 4 refl

-- an endpoint of no such name, one with an option of a proxy, and an adapter behind one
no_transport : ProxyBreaks (codes "a:udp -h b") 2
unfolding is_utf8 chars encode word_ahead at_ahead colon_at end_at place_at
no_transport = breaks (codes "a:udp -h b") 2 refl

no_tcp_option : ProxyBreaks (codes "a:tcp -s") 6
unfolding is_utf8 chars encode word_ahead at_ahead colon_at end_at place_at
no_tcp_option = breaks (codes "a:tcp -s") 6 refl

adapter_too : ProxyBreaks (codes "a:tcp@b") 5
unfolding is_utf8 chars encode word_ahead at_ahead colon_at end_at place_at
adapter_too = breaks (codes "a:tcp@b") 5 refl

-- behind an adapter nothing may stand
behind_adapter : ProxyBreaks (codes "a@b c") 4
unfolding is_utf8 chars encode word_ahead at_ahead colon_at end_at place_at
behind_adapter = breaks (codes "a@b c") 4 refl

-- TCP as an opaque endpoint breaks at its type, as soon as the version is read, and a version that lacks at its own place
pub opaque_tcp : ProxyBreaks (codes "a:opaque -t 1 -e 1.1 -y") 12
unfolding is_utf8 chars encode word_ahead at_ahead colon_at end_at place_at
opaque_tcp = breaks (codes "a:opaque -t 1 -e 1.1 -y") 12 refl

opaque_version : ProxyBreaks (codes "a:opaque -t 1 -e 1") 17
unfolding is_utf8 chars encode word_ahead at_ahead colon_at end_at place_at
opaque_version = breaks (codes "a:opaque -t 1 -e 1") 17 refl

-- an identity with a word behind it
second_word : IdentityBreaks (codes " a b") 3
unfolding is_utf8 chars encode word_ahead at_ahead colon_at end_at place_at
second_word = identity_broken (codes " a b") 3 refl

-- ---- what stands for something

category : SpellsIdentity (codes " c/n ") (record { name = codes "n"; category = codes "c" })
unfolding is_utf8 chars encode word_ahead at_ahead colon_at end_at place_at
category = spelled_identity (codes " c/n ") (record { name = codes "n"; category = codes "c" }) refl

whole : SpellsProxy (codes "n -o : default -p 1 : opaque -t 2 -e 1.1 -x \"\"") (record {
  identity = record { name = codes "n"; category = [] };
  facet = [];
  mode = 1;
  secure = false;
  protocol = (1, 0);
  encoding = (1, 1);
  endpoints = Tcp [] (pos 1) (pos 60000) false ∷ Opaque (pos 2) 1 1 [] ∷ [];
  adapter = [];
})
unfolding is_utf8 chars encode word_ahead at_ahead colon_at end_at place_at
whole = spelled_proxy (codes "n -o : default -p 1 : opaque -t 2 -e 1.1 -x \"\"") (record {
  identity = record { name = codes "n"; category = [] };
  facet = [];
  mode = 1;
  secure = false;
  protocol = (1, 0);
  encoding = (1, 1);
  endpoints = Tcp [] (pos 1) (pos 60000) false ∷ Opaque (pos 2) 1 1 [] ∷ [];
  adapter = [];
}) refl
