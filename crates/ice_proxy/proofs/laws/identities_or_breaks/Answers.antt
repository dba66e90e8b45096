use Rattle.ice_proxy.specs.IdentityText.{identity_text}
use Rattle.ice_proxy.specs.Spelled.{SpellsIdentity}
use Rattle.ice_proxy.specs.Breaks.{IdentityBreaks}
use Rattle.ice_proxy.proofs.PieceFaults.{spelled_identity, identity_spelled, identity_broken, broken_identity, one_or_other, one_value, one_place, not_both}
use Rattle.ice_proxy.proofs.laws.identities_or_breaks.Goals as goal

pub returns-clause-each : goal.returns-clause-each
returns-clause-each c = one_or_other identity_text SpellsIdentity IdentityBreaks spelled_identity identity_spelled identity_broken broken_identity

pub returns-clause-one_identity : goal.returns-clause-one_identity
returns-clause-one_identity c = one_value identity_text SpellsIdentity IdentityBreaks spelled_identity identity_spelled identity_broken broken_identity

pub returns-clause-one_place : goal.returns-clause-one_place
returns-clause-one_place c = one_place identity_text SpellsIdentity IdentityBreaks spelled_identity identity_spelled identity_broken broken_identity

pub returns-clause-apart : goal.returns-clause-apart
returns-clause-apart c = not_both identity_text SpellsIdentity IdentityBreaks spelled_identity identity_spelled identity_broken broken_identity
