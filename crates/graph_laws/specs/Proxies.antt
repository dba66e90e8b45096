-- The first fault of a bool, an enumerator, a proxy. (Ice manual, "Basic Data Encoding", "Data Encoding for Enumerations", "Data Encoding for Proxies".)
use Rattle.std.specs.Prelude.{ℕ, ℤ, zero, suc, ◌≡◌, ◌≢◌, ◌<◌, Bool, true, false, List, [], ◌∷◌, nat_le}
use Rattle.ice_types.specs.declared.declarations.Entry.{Entry}
use Rattle.ice_types.specs.declared.identity.Identity.{Identity}
use Rattle.ice_prims.specs.declared.fault.Kind.TheVariants.{BadBool, BadEnum, BadIdentity, BadFacet, BadMode}
use Rattle.ice_encoding.specs.Enum.{HasNumber}
use Rattle.ice_encoding.specs.Endpoint.{is_tcp, tcp, endpoint}
use Rattle.ice_encoding.specs.Identity.{identity, facet}
use Rattle.ice_encoding.specs.Parts.{Part, bool, byte, int, short, size, text, version, tested}
use Rattle.ice_encoding.specs.Proxy.{is_whole, mode}
use Rattle.graph_laws.specs.Defects.{Defect, Never, Lacks, Unfit, Or, Then, Times, InBound, SizeBreaks, TextBreaks, EnclosedBreaks}

abbrev pub BoolBreaks : Defect
BoolBreaks = Or (Lacks 1) (Unfit byte (λ b. 1 < b) BadBool)

-- a number that no entry has
abbrev pub EnumeratorBreaks : List Entry → Defect
EnumeratorBreaks entries = Or SizeBreaks (Unfit size (λ n. ¬ HasNumber entries n) BadEnum)

-- ---- an identity and a facet

-- a category without a name
abbrev pub IsNameless : Identity → Type 0
IsNameless i = (i.name ≡ []) × (i.category ≢ [])

-- told when the category has been read
abbrev pub IdentityBreaks : Defect
IdentityBreaks = Or (Then text TextBreaks (λ name. TextBreaks)) (Unfit identity IsNameless BadIdentity)

-- how many texts a facet has
abbrev pub facet_count : Part ℕ
facet_count = tested (λ n. nat_le n 1) BadFacet size

abbrev pub FacetBreaks : Defect
FacetBreaks = Then facet_count (Or SizeBreaks (Unfit size (λ n. 1 < n) BadFacet)) (Times text TextBreaks)

-- ---- endpoints

-- host, port, timeout, and whether it compresses
abbrev pub TcpBreaks : Defect
TcpBreaks = Then text TextBreaks (λ host. Then int (Lacks 4) (λ port. Then int (Lacks 4) (λ timeout. BoolBreaks)))

-- whatever stands in another one is kept
abbrev pub SaidBreaks : Bool → Defect
SaidBreaks true = InBound tcp.Spells TcpBreaks
SaidBreaks false = Never

abbrev pub ServedBreaks : ℤ → Defect
ServedBreaks kind = Then version (Lacks 2) (λ v. SaidBreaks (is_tcp kind v))

abbrev pub EndpointBreaks : Defect
EndpointBreaks = Then short (Lacks 2) (λ kind. EnclosedBreaks (ServedBreaks kind))

-- endpoints, or where there is none an adapter
abbrev pub LocatedBreaks : ℕ → Defect
LocatedBreaks zero = TextBreaks
LocatedBreaks (suc n) = Times endpoint EndpointBreaks (suc n)

-- ---- a proxy

abbrev pub ModeBreaks : Defect
ModeBreaks = Or (Lacks 1) (Unfit byte (λ m. 4 < m) BadMode)

-- facet, mode, whether it is secure, two versions, and where it is found
abbrev pub DetailsBreak : Defect
DetailsBreak = Then facet FacetBreaks (λ f. Then mode ModeBreaks (λ m. Then bool BoolBreaks (λ s. Then version (Lacks 2) (λ p. Then version (Lacks 2) (λ e.
    Then size SizeBreaks LocatedBreaks)))))

-- nothing follows the null proxy
abbrev pub NamedBreaks : List ℕ → Defect
NamedBreaks [] = Never
NamedBreaks (c ∷ cs) = DetailsBreak

-- an identity with a name, or the empty one
abbrev pub whole_identity : Part Identity
whole_identity = tested is_whole BadIdentity identity

abbrev pub ProxyBreaks : Defect
ProxyBreaks = Then whole_identity IdentityBreaks (λ i. NamedBreaks i.name)
