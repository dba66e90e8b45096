use Rattle.std.proofs.Common.{ℕ, ◌∙◌, ◌≤◌, Bool, List, length, sym, ap, arith}
use Rattle.std.specs.Prelude.{bytes_eq}
use Rattle.std.specs.List.{flat_map}
use Rattle.std.specs.Option.{option_copied}
use Rattle.std.proofs.lemmas.Option.{slice_get_past}
use Rattle.ice_types.specs.declared.declarations.OpDecl.{OpDecl}
use Rattle.ice_types.specs.Inherited.{ops_in, bases_by_path, first_named}
use Rattle.ice_types.proofs.ByPaths.{bases_counted}
use Rattle.ice_types.proofs.Searching.{found_first, found_later, found_at_base, not_at_base, no_base_left}
use Rattle.ice_types.proofs.inheritance.operation_of.Goals as goal

abbrev has_name : List ℕ → OpDecl → Bool
has_name name op = bytes_eq op.name name

pub returns-in-Some : goal.returns-in-Some
returns-in-Some c =
    let interfaces = c.args.interfaces.now in
    let at = c.args.interface in
    found_first (has_name c.args.name.now) (ops_in interfaces at) (flat_map (ops_in interfaces) (bases_by_path interfaces at)) c.in-Some.found.now
    (c.in-Some.ensures ∙ ap (first_named c.args.name.now) c.ops_of.ensures)

pub loop-place-init : goal.loop-place-init
loop-place-init c =
    let interfaces = c.args.interfaces.now in
    let at = c.args.interface in
    found_later (has_name c.args.name.now) (ops_in interfaces at) (flat_map (ops_in interfaces) (bases_by_path interfaces at))
    (c.in_default.ensures ∙ ap (first_named c.args.name.now) c.ops_of.ensures)

pub returns-in_err-base : goal.returns-in_err-base
returns-in_err-base c =
    let interfaces = c.args.interfaces.now in
    ap option_copied c.from_residual.ensures
    ∙ no_base_left (has_name c.args.name.now) (ops_in interfaces) (bases_by_path interfaces c.args.interface) c.loop-place.place (sym c.in_err-base.ensures)
    ∙ c.loop-place.invariant

pub returns-in-Some-named : goal.returns-in-Some-named
returns-in-Some-named c =
    let interfaces = c.args.interfaces.now in
    found_at_base (has_name c.args.name.now) (ops_in interfaces) (bases_by_path interfaces c.args.interface) c.loop-place.place c.in_ok-base.base c.in-Some-named.found.now
    c.in_ok-base.ensures (c.in-Some-named.ensures ∙ ap (first_named c.args.name.now) c.ops_of-in-loop-place.ensures)
    ∙ c.loop-place.invariant

pub loop-place-preserved : goal.loop-place-preserved
loop-place-preserved c =
    let interfaces = c.args.interfaces.now in
    not_at_base (has_name c.args.name.now) (ops_in interfaces) (bases_by_path interfaces c.args.interface) c.loop-place.place c.in_ok-base.base
    c.in_ok-base.ensures (c.in_default-named.ensures ∙ ap (first_named c.args.name.now) c.ops_of-in-loop-place.ensures)
    ∙ c.loop-place.invariant

pub returns : goal.returns
returns c =
    let interfaces = c.args.interfaces.now in
    let bases = bases_by_path interfaces c.args.interface in
    let past : length bases ≤ c.loop-place.place = omega (arith, bases_counted interfaces c.args.counts.now c.requires c.args.interface, c.counted-place-end.ensures, c.loop-place-test.false) in
    no_base_left (has_name c.args.name.now) (ops_in interfaces) bases c.loop-place.place (slice_get_past bases c.loop-place.place past)
    ∙ c.loop-place.invariant
