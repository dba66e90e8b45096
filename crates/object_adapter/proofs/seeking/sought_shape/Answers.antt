use Rattle.std.proofs.Common.{◌≡◌, ◌∙◌, refl, ap, subst}
use Rattle.std.specs.Prelude.{IfOk}
use Rattle.ice_types.specs.declared.declarations.Shape.{Shape}
use Rattle.object_adapter.specs.declared.seeking.Sought.{Sought}
use Rattle.object_adapter.specs.declared.seeking.Sought.TheVariants.{Object, Adapter}
use Rattle.object_adapter.specs.Admitting.{only_id}
use Rattle.object_adapter.specs.Locators.{id_type, sought_shape}
use Rattle.object_adapter.proofs.seeking.sought_shape.Goals as goal

an_id : (sought : Sought) → only_id (id_type sought) ≡ sought_shape sought
an_id Object = refl
an_id Adapter = refl

pub returns : goal.returns
returns c = subst (λ (s : Shape). IfOk c.only_id.result (λ (shape : Shape). shape ≡ s)) (ap only_id c.id_type.ensures ∙ an_id c.args.sought) c.only_id.ensures
