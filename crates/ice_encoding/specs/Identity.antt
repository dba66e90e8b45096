-- What an object is called, and its facet. (Ice manual, "Object Identity", "Facets".)
use Rattle.std.specs.Prelude.{ℕ, List, [], ◌∷◌, length, nat_le}
use Rattle.ice_types.specs.declared.identity.Identity.{Identity}
use Rattle.ice_prims.specs.declared.fault.Kind.TheVariants.{BadFacet}
use Rattle.ice_encoding.specs.Parts.{Part, size, text, both, made, tested, chosen, times}

-- name and category
abbrev pub identity : Part Identity
identity = made (λ x. record { name = x.0; category = x.1 }) (λ i. (i.name, i.category)) (both text text)

abbrev pub no_identity : Identity
no_identity = record { name = []; category = [] }

-- a sequence of at most one text; none is the facet of no name
abbrev pub facet_of : List (List ℕ) → List ℕ
facet_of [] = []
facet_of (name ∷ others) = name

-- the texts of a facet: none of the default one
abbrev pub facet_texts : List ℕ → List (List ℕ)
facet_texts [] = []
facet_texts (c ∷ cs) = (c ∷ cs) ∷ []

-- at most one text
abbrev pub texts : Part (List (List ℕ))
texts = chosen (tested (λ n. nat_le n 1) BadFacet size) (times text) length

-- a sequence of at most one text (else `BadFacet` at its size), of which none, and an empty one, are the default
-- facet
abbrev pub facet : Part (List ℕ)
facet = made facet_of facet_texts texts
