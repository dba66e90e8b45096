use Rattle.std.proofs.Common.{◌≡◌, ℕ, ◌≤◌, Bool, true, false, List, length, drop, Option, Some, None, sym, ap, ◌∙◌, refl, arith}
use Rattle.std.specs.Prelude.{nat_lt}
use Rattle.std.proofs.lemmas.Bool.Decides.{nat_tests}
use Rattle.ice_types.specs.declared.declarations.Member.{Member}
use Rattle.ice_types.specs.Tables.{Tables}
use Rattle.ice_types.specs.Measures.{measure, measure_members}
use Rattle.slice_meaning.specs.declared.fault.CheckKind.{CheckKind}
use Rattle.slice_meaning.specs.declared.fault.Fault.{Fault}
use Rattle.slice_meaning.specs.declared.fault.CheckKind.TheVariants as rows
use Rattle.slice_meaning.specs.Uses.{where_true}
use Rattle.slice_faults.specs.Held.{where_row, limits_from}
use Rattle.slice_faults.proofs.Noting.{front}
use Rattle.slice_faults.proofs.Gathering.{limits_none, limits_end}
use Rattle.slice_faults.proofs.structs.limit.Goals as goal

pub returns-in-None : goal.returns-in-None
returns-in-None c = λ place.
    let i = c.loop-member.member-index in
    limits_none place c.loop-member.smallest (measure c.args.known.now.rows 99) c.args.members.now i c.member-item.result _
    (front c.args.members.now i c.member-item.result c.loop-member-test.true c.member-item.is) (sym c.measure_within.ensures.found ∙ c.in-None.is) (c.loop-member.invariant.0 place)

at_end : (small : ℕ) (b : Bool) (row : Option CheckKind) (members : List Member) (i : ℕ) (t : Tables) (place : ℕ) (all : List Fault) → length members ≤ i → nat_lt 1048576 small ≡ b → where_row place row ≡ where_true b place rows.TooBig
    → limits_from place small (measure_members (measure t 99) (drop i members)) ≡ all → where_row place row ≡ all
at_end small b row members i t place all h is same so = same ∙ (sym (ap (λ x. where_true x place rows.TooBig) is) ∙ limits_end place small (measure t 99) members i all h so)

pub returns-then-smallest-most : goal.returns-then-smallest-most
returns-then-smallest-most c = λ place.
    let big = c.if-smallest-most.true in
    at_end c.loop-member.smallest true (Some rows.TooBig) c.args.members.now c.loop-member.member-index c.args.known.now.rows place _ c.loop-member-test.false (grind (arith, nat_tests)) refl (c.loop-member.invariant.0 place)

pub returns-else-smallest-most : goal.returns-else-smallest-most
returns-else-smallest-most c = λ place.
    let small = c.if-smallest-most.false in
    at_end c.loop-member.smallest false None c.args.members.now c.loop-member.member-index c.args.known.now.rows place _ c.loop-member-test.false (grind (arith, nat_tests)) refl (c.loop-member.invariant.0 place)
