use Rattle.std.proofs.Common.{◌≡◌, drop}
use Rattle.ice_encoding.specs.Optionals.{kind_tagged}
use Rattle.value_parts.specs.Shapes.{with_tag}
use Rattle.value_parts.proofs.tagged.kind_tagged.Given as goal

abbrev pub invariant-loop-member : goal.invariant-loop-member
invariant-loop-member l = record {
  among_all : kind_tagged l.tag l.members ≡ kind_tagged l.tag (drop l.member-index l.members);
  among_tagged : kind_tagged l.tag (with_tag l.members) ≡ kind_tagged l.tag (with_tag (drop l.member-index l.members));
}
