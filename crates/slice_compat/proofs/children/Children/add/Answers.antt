use Rattle.std.proofs.Common.{ℕ, ◌+◌, List, Option, None, Some, set, sym, subst}
use Rattle.slice_compat.specs.Children.{AreLinked}
use Rattle.slice_compat.proofs.Linked.{own_base, with_base, without_base}
use Rattle.slice_compat.proofs.children.Children.add.Goals as goal

pub returns-in-Some : goal.returns-in-Some
returns-in-Some c =
    let classes = c.args.classes.now in
    let old = c.args.self.now in
    let own = own_base classes c.args.class _ (Some c.in-Some.base) c.requires.class c.in-Some.is in
    subst (λ (first : List (Option ℕ)). AreLinked classes (c.args.class + 1) first c.put.new.self.next.items) (sym c.put.ensures.first)
    (subst (λ (next : List (Option ℕ)). AreLinked classes (c.args.class + 1) (set old.first.items c.in-Some.base (Some c.args.class)) next) (sym c.put.ensures.next)
    (with_base classes c.args.class old.first.items old.next.items c.requires.linked c.in-Some.base own (c.requires.base c.in-Some.base own) c.requires.class))

pub returns-in-None : goal.returns-in-None
returns-in-None c =
    without_base c.args.classes.now c.args.class c.args.self.now.first.items c.args.self.now.next.items c.requires.linked (own_base c.args.classes.now c.args.class _ None c.requires.class c.in-None.is)
