use Rattle.std.proofs.Common.{refl}
use Rattle.object_adapter.proofs.keys.identity_order.Goals as goal

pub returns : goal.returns
returns c = rw (c.then.ensures, c.cmp.ensures, c.cmp-categories.ensures, c.as_str.ensures, c.as_str-2.ensures, c.as_str-3.ensures, c.as_str-4.ensures) refl
