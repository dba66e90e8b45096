use Rattle.std.proofs.Common.{ℕ, ◌≡◌, Bool, true, false, List, [], Option, Result, Ok, sym, subst, ◌∙◌}
use Rattle.ice_prims.specs.declared.fault.Fault.{Fault}
use Rattle.ice_prims.specs.Number.{size_at}
use Rattle.ice_prims.specs.Rest.{Rest, ◌>>=◌}
use Rattle.ice_encoding.specs.Port.{Reader}
use Rattle.ice_encoding.specs.References.{State, Reference, entries_at, table_at, within, resolved, with_met}
use Rattle.slice_heads.specs.Seen.{view_references}
use Rattle.instance_reading.specs.Slices.{uses_in}
use Rattle.instance_reading.proofs.Places.{none_met, all_inside, one_outside}
use Rattle.instance_reading.proofs.sized.take_table.Goals as goal

without : (tabled : Bool) (refer : Option ℕ → Reader (State ℕ) (Option ℕ)) (uses : List (Reference ℕ)) (s : State ℕ) (r : Rest) → tabled ≡ false → uses_in tabled uses
    → table_at refer tabled uses s r ≡ (entries_at refer 0 s r >>= λ x. Ok (x.0, with_met (resolved x.0 uses) x.1, x.2))
without tabled refer uses s r none no_uses =
    let empty : uses ≡ [] = subst (λ (b : Bool). uses_in b uses) none no_uses in
    rw (none, empty) (λ i. Ok ([], none_met s i, r))

pub returns-then-not-is_odd : goal.returns-then-not-is_odd
returns-then-not-is_odd c refer s no_uses = without _ refer (view_references c.args.uses.now) s c.args.cursor.now (sym c.if-not-is_odd.ensures) no_uses

with_table : (tabled : Bool) (refer : Option ℕ → Reader (State ℕ) (Option ℕ)) (uses : List (Reference ℕ)) (s : State ℕ) (r after : Rest) (n : ℕ) (there : Result (List ℕ × State ℕ × Rest) Fault) → true ≡ tabled → size_at r ≡ Ok (n, after)
    → within n uses (entries_at refer n s after >>= λ x. Ok (x.0, with_met (resolved x.0 uses) x.1, x.2)) ≡ there → table_at refer tabled uses s r ≡ there
with_table tabled refer uses s r after n there is size found = rw (sym is, size) found

pub returns-in-Some : goal.returns-in-Some
returns-in-Some c refer s = with_table _ refer (view_references c.args.uses.now) s c.args.cursor.now c.take_size.new.self c.in_ok-count.count _ c.if-not-is_odd.ensures c.in_ok-count.ensures (one_outside _ (view_references c.args.uses.now) _ c.in-Some.place (sym c.first_outside.ensures ∙ c.in-Some.is))

pub returns-in-None : goal.returns-in-None
returns-in-None c refer s uses = with_table _ refer (view_references c.args.uses.now) s c.args.cursor.now c.take_size.new.self c.in_ok-count.count _ c.if-not-is_odd.ensures c.in_ok-count.ensures (all_inside _ (view_references c.args.uses.now) _ (sym c.first_outside.ensures ∙ c.in-None.is))
