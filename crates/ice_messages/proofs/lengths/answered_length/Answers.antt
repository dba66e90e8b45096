use Rattle.std.proofs.Common.{◌++◌, subst, arith}
use Rattle.std.proofs.lemmas.List.{length-append}
use Rattle.ice_encoding.specs.Parts.{text}
use Rattle.ice_encoding.specs.Identity.{identity, facet}
use Rattle.ice_messages.specs.Written.{IsWritableAnswer}
use Rattle.ice_messages.proofs.Sums.{missing_put}
use Rattle.ice_messages.proofs.lengths.answered_length.Goals as goal

pub returns-in-Missing : goal.returns-in-Missing
returns-in-Missing c =
    let i = c.in-Missing.identity in let f = c.in-Missing.facet in let o = c.in-Missing.operation in
    let ok = subst IsWritableAnswer c.in-Missing.is c.requires in
    rw (c.in-Missing.is, missing_put c.in-Missing.status i f o ok.0 ok.1)
    (omega (arith, c.saturating_add-in-Missing.ensures, c.saturating_add.ensures, c.identity_length.ensures, c.facet_length.ensures, c.text_length.ensures.exact, length-append (identity.put i) (facet.put f ++ text.put o), length-append (facet.put f) (text.put o)))
