use Rattle.std.proofs.Common.{rules, arith, ◌≡◌, ◌+◌, ℕ, [], sym, ◌∙◌, subst, Option, None, Some}
use Rattle.std.specs.Prelude.{slice_range}
use Rattle.std.proofs.lemmas.List.{take_rest, append-nil}
use Rattle.canonical_values.specs.Frames.{key_in, KeyFound}
use Rattle.canonical_values.proofs.Joined.{key_found, range_is}
use Rattle.canonical_values.proofs.pair.next_key.Goals as goal

pub returns-in_default : goal.returns-in_default
returns-in_default c =
    let t = c.args.schema.now in
    let input = c.args.input.now in
    let none : c.args.last ≡ None = c.in_default.is in
    subst (λ (o : Option (ℕ × ℕ)). KeyFound t input c.args.levels c.args.key (key_in input o) c.args.at (c.args.at + c.in_ok-length.length)) (sym none)
    (key_found t input c.args.levels c.args.at c.in_ok-length.length c.args.key None (omega arith) (rw (take_rest input c.args.at) at c.in_ok-length.ensures.within) (rw (take_rest input c.args.at) at c.in_ok-length.ensures.stands) (range_is input c.args.at c.in_ok-length.length) (λ k typed is. tt))

pub returns-else-not-is_below : goal.returns-else-not-is_below
returns-else-not-is_below c =
    let t = c.args.schema.now in
    let input = c.args.input.now in
    let some : c.args.last ≡ Some (c.in-Some.start, c.in-Some.stop) = c.in-Some.is in
    let before : c.in_ok-before.before.now ≡ slice_range input c.in-Some.start c.in-Some.stop = search rules in
    subst (λ (o : Option (ℕ × ℕ)). KeyFound t input c.args.levels c.args.key (key_in input o) c.args.at (c.args.at + c.in_ok-length.length)) (sym some)
    (key_found t input c.args.levels c.args.at c.in_ok-length.length c.args.key (Some (slice_range input c.in-Some.start c.in-Some.stop)) (omega arith) (rw (take_rest input c.args.at) at c.in_ok-length.ensures.within) (rw (take_rest input c.args.at) at c.in_ok-length.ensures.stands) (range_is input c.args.at c.in_ok-length.length)
    (λ k typed is l typed' is'. c.is_below.ensures (search rules) l k [] [] typed' typed (before ∙ is' ∙ sym (append-nil _)) (range_is input c.args.at c.in_ok-length.length ∙ is ∙ sym (append-nil _))))
