-- What is printed of an identity is a text that stands for it.
use Rattle.std.proofs.Common.{ℕ, ◌+◌, ◌<◌, ◌≡◌, List, [], length, Option, Ok, Some, sym, ap, ◌∙◌}
use Rattle.std.specs.Str.{IsUtf8}
use Rattle.std.proofs.lemmas.List.{append-nil}
use Rattle.ice_types.specs.declared.identity.Identity.{Identity}
use Rattle.ice_prims.specs.Rest.{whole}
use Rattle.ice_proxy.specs.Words.{word, next}
use Rattle.ice_proxy.specs.Escapes.{identity_of}
use Rattle.ice_proxy.specs.PrintedWords.{printed_identity}
use Rattle.ice_proxy.specs.IdentityText.{sole, identity_from, identity_text}
use Rattle.ice_proxy.specs.Laws.{IsWord}
use Rattle.ice_proxy.proofs.Readings.{identities_read}
use Rattle.ice_proxy.proofs.StandingWords.{identities_stand}
use Rattle.ice_proxy.proofs.Following.{word_next}

word_alone : (bytes : List ℕ) (i : Identity) → IsWord bytes → identity_of bytes ≡ Some i → identity_text bytes ≡ Ok i
word_alone bytes i is e =
    let stands : next (whole bytes) ≡ record { token = word bytes; place = 0; rest = record { place = 0 + length bytes; bytes = [] } } =
    ap (λ (l : List ℕ). next (whole l)) (sym (append-nil bytes)) ∙ word_next 0 bytes [] is tt in
    ap identity_from stands ∙ ap (λ (found : Option Identity). sole 0 found (record { place = 0 + length bytes; bytes = [] })) e

pub identities_alone : (i : Identity) → 0 < length i.name → IsUtf8 i.name → IsUtf8 i.category → identity_text (printed_identity i) ≡ Ok i
identities_alone i filled name_utf8 category_utf8 = word_alone (printed_identity i) i (identities_stand i) (identities_read i filled name_utf8 category_utf8)
