use Rattle.std.proofs.Common.{rules, ◌≡◌, List, Option, Some, sym, subst}
use Rattle.std.specs.Prelude.{slice_get}
use Rattle.ice_types.specs.declared.declarations.Member.{Member}
use Rattle.ice_types.specs.declared.declarations.StructDecl.{StructDecl}
use Rattle.canonical_values.specs.Standing.{kinds_of, members_of}
use Rattle.canonical_values.specs.Frames.{MembersPassed}
use Rattle.canonical_values.proofs.member.pass_members.Goals as goal

pub returns-in-Some : goal.returns-in-Some
returns-in-Some c =
    let e : slice_get c.args.schema.now.structs c.args.place ≡ Some c.in-Some.decl.now = search rules in
    subst (λ (o : Option StructDecl). MembersPassed c.args.schema.now c.args.input.now (members_of o) c.args.first c.args.start c.pass_leaves.result.0 c.pass_leaves.result.1) (sym e)
    (subst (λ (ms : List Member). MembersPassed c.args.schema.now c.args.input.now (kinds_of ms) c.args.first c.args.start c.pass_leaves.result.0 c.pass_leaves.result.1) c.as_slice.ensures c.pass_leaves.ensures)
