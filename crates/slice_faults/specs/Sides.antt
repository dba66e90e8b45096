-- The parameters of one side of a call.
use Rattle.std.specs.Prelude.{ℕ, Bool, true, false, not, List, [], ◌++◌, map, flat_map, cond, None, Some}
use Rattle.std.specs.Ordering.{ordering_then, nat_cmp}
use Rattle.std.specs.BTreeMap.{insert_entry}
use Rattle.ice_types.specs.declared.declarations.Member.{Member}
use Rattle.slice_syntax.specs.declared.tree.Word.{Word}
use Rattle.slice_syntax.specs.declared.tree.Path.{Path}
use Rattle.slice_syntax.specs.declared.tree.OpTree.{OpTree}
use Rattle.slice_syntax.specs.declared.tree.Field.{Field}
use Rattle.slice_syntax.specs.declared.tree.Param.{Param}
use Rattle.slice_meaning.specs.Known.{Known}
use Rattle.slice_meaning.specs.Uses.{type_of}
use Rattle.slice_meaning.specs.Members.{ins, outs, with_field, op_faults}
use Rattle.slice_meaning.specs.Clashes.{second_names}
use Rattle.slice_meaning.specs.Faults.{base_limits, bases_faults}
use Rattle.slice_meaning.specs.declared.fault.Fault.{Fault}

-- a parameter is of this side, of the results where `out`
abbrev pub is_side : Bool → Param → Bool
is_side true p = p.out
is_side false p = not p.out

-- the `out` parameters, or the `in` parameters
abbrev pub side : Bool → List Param → List Field
side true params = outs params
side false params = ins params

-- the entries with one more, where the member has a tag
abbrev pub put_in : List ((ℕ × ℕ) × Member) → ℕ → Member → List ((ℕ × ℕ) × Member)
put_in entries place m = elim m.tag [
  | None ↦ entries
  | Some tag ↦ insert_entry (λ x y. ordering_then (nat_cmp x.0 y.0) (nat_cmp x.1 y.1)) entries (tag, place) m
]

-- a parameter as a member, where it is of this side and its type has no fault
abbrev pub side_members : Known → Bool → Param → List Member
side_members k out p = cond (is_side out p) (with_field k p.field (type_of k p.field.kind) []) []

-- what an interface holds, once it has its name
abbrev pub body_faults : Known → Word → List Path → List OpTree → List Fault
body_faults k word bases ops = base_limits k word bases
    ++ (bases_faults k [] bases ++ (flat_map (op_faults k) ops ++ second_names [] (map (λ op. op.word) ops)))
