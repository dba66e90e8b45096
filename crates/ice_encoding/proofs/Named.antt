-- Identities and facets are read as they are spelled, and what is put spells them.
use Rattle.std.proofs.Common.{◌≡◌, ℕ, suc, ◌≤◌, List, [], ◌∷◌, length, refl, arith}
use Rattle.std.proofs.lemmas.Bool.{leb-true}
use Rattle.ice_encoding.specs.Parts.{IsLawful, text}
use Rattle.ice_encoding.specs.Identity.{identity, facet_of, facet_texts, texts, facet}
use Rattle.ice_encoding.proofs.Joined.{size_lawful, text_lawful, both_lawful, made_sorted, made_lawful, tested_lawful, chosen_lawful, times_lawful, times_length}

pub identity_lawful : IsLawful identity
identity_lawful = made_lawful _ _ _ (λ x. refl) (both_lawful text text text_lawful text_lawful)

pub texts_lawful : IsLawful texts
texts_lawful = chosen_lawful _ _ _ (tested_lawful _ _ _ size_lawful) (times_lawful text text_lawful) (λ n a b items first second. times_length text.Spells n b items second)

facet_again : (names : List (List ℕ)) → texts.Is names → texts.Is (facet_texts (facet_of names)) × (facet_of names ≡ facet_of (facet_texts (facet_of names)))
facet_again [] is = (is, refl)
facet_again ((c ∷ cs) ∷ []) is = (is, refl)
facet_again ([] ∷ []) is = (((omega arith, refl), (refl, tt)), refl)
facet_again (a ∷ (b ∷ others)) is = let few : suc (suc (length others)) ≤ 1 = leb-true (suc (suc (length others))) 1 is.0.1 in absurd (omega (arith, few))

-- one empty text is put as none
facet_short : (names : List (List ℕ)) → texts.Is names → length (texts.put (facet_texts (facet_of names))) ≤ length (texts.put names)
facet_short [] is = omega arith
facet_short ((c ∷ cs) ∷ []) is = omega arith
facet_short ([] ∷ []) is = omega arith
facet_short (a ∷ (b ∷ others)) is = let few : suc (suc (length others)) ≤ 1 = leb-true (suc (suc (length others))) 1 is.0.1 in absurd (omega (arith, few))

pub facet_lawful : IsLawful facet
facet_lawful = made_sorted _ _ _ facet_again facet_short texts_lawful
