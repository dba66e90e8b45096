use Rattle.std.proofs.Common.{arith, rules, ◌≡◌, ◌++◌, ◌∷◌, [], length}
use Rattle.std.proofs.lemmas.Option.{slice_get_within}
use Rattle.canonical_inputs.specs.Looks.{IsNext}
use Rattle.canonical_inputs.proofs.Looked.{begun_as}
use Rattle.canonical_inputs.proofs.entry.begin.Goals as goal

pub overflow_add-frame : goal.overflow_add-frame
overflow_add-frame c =
    let f = c.args.frame.now in
    let next : IsNext c.args.schema.now f c.len-number.result c.in-Some.slice.class = c.is_next.ensures c.if-not-is_next.false in
    omega (arith, slice_get_within f.needs.items f.next next.need next.there)

pub returns : goal.returns
returns c =
    let met = c.args.met.now in
    let grown : c.push.new.self.items ≡ met.classes.items ++ c.in-Some.slice.class ∷ [] = search rules in
    let many : c.len-number.result ≡ length met.classes.items = omega (arith, c.len-number.ensures, met.classes.ok.0) in
    begun_as c.args.schema.now c.args.input.now c.args.at c.args.front met (record { classes = c.push.new.self; ids = c.pass_slice.new.ids }) c.args.frame.now c.frame_of.result c.in-Some.slice c.len-number.result many c.frame_of.ensures
    (omega arith) (omega (arith, many)) c.requires (c.is_next.ensures c.if-not-is_next.false) c.in-Some.ensures grown
