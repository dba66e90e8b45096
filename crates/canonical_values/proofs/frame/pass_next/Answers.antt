use Rattle.std.proofs.Common.{◌≡◌, ℕ, List, sym, subst}
use Rattle.ice_types.specs.Tables.{Tables}
use Rattle.canonical_values.specs.declared.frame.Left.{Left}
use Rattle.canonical_values.specs.declared.frame.Left.TheVariants.{Items, Members, Pairs}
use Rattle.canonical_values.specs.declared.frame.Frame.{Frame}
use Rattle.canonical_values.specs.declared.frame.Step.{Step}
use Rattle.canonical_values.specs.Frames.{Steps}
use Rattle.canonical_values.proofs.frame.pass_next.Goals as goal

-- of what is left of the frame
of_left : (t : Tables) (input : List ℕ) (at : ℕ) (f : Frame) (left : Left) (s : Step) → f.left ≡ left → Steps t input at (record { levels = f.levels; left = left }) s → Steps t input at f s
of_left t input at f left s is h = subst (λ (l : Left). Steps t input at (record { levels = f.levels; left = l }) s) (sym is) h

pub returns-in-Items : goal.returns-in-Items
returns-in-Items c = of_left c.args.schema.now c.args.input.now c.args.at c.args.frame (Items c.in-Items.kind c.in-Items.count) c.pass_item.result c.in-Items.is c.pass_item.ensures

pub returns-in-Members : goal.returns-in-Members
returns-in-Members c = of_left c.args.schema.now c.args.input.now c.args.at c.args.frame (Members c.in-Members.place c.in-Members.next) c.pass_member.result c.in-Members.is c.pass_member.ensures

pub returns-in-Pairs : goal.returns-in-Pairs
returns-in-Pairs c =
    of_left c.args.schema.now c.args.input.now c.args.at c.args.frame (Pairs c.in-Pairs.key c.in-Pairs.value c.in-Pairs.count c.in-Pairs.last) c.pass_pair.result c.in-Pairs.is c.pass_pair.ensures
