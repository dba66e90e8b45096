use Rattle.std.proofs.Common.{true, subst}
use Rattle.ice_types.specs.declared.declarations.Shape.{Shape}
use Rattle.ice_types.specs.Tables.{Tables}
use Rattle.object_adapter.specs.Admitting.{Comes}
use Rattle.object_adapter.specs.Locators.{sought_shape}
use Rattle.object_adapter.proofs.Looked.{acted}
use Rattle.object_adapter.proofs.locator.Locator.find.Goals as goal

pub returns-clause-acts : goal.returns-clause-acts
returns-clause-acts c =
    let self = c.args.self.now in
    let call = c.args.call.now in
    let sought = c.args.sought in
    let g = c.in_ok-arguments.arguments in
    acted self.places call sought g c.give-answer.result c.requires.named
    (subst (λ (t : Tables). Comes t true (sought_shape sought) call g) self.declared
    (subst (λ (s : Shape). Comes self.schema true s call g) c.requires.shape c.in_ok-arguments.ensures.admits))
    c.give-answer.ensures.gives
