-- Where the value of an optional member begins behind its prefix, and where reading goes on behind it.
use Rattle.std.specs.Prelude.{ℕ, ◌≡◌, Option, None, Some, Result, Ok, Err}
use Rattle.ice_prims.specs.declared.fault.Fault.{Fault}
use Rattle.ice_prims.specs.Rest.{Rest, ◌>>=◌}
use Rattle.ice_encoding.specs.Parts.{size}
use Rattle.ice_encoding.specs.Bounds.{ended}
use Rattle.ice_encoding.specs.Skipping.{count, bound_behind}
use Rattle.ice_types.specs.declared.kind.TypeRef.{TypeRef}
use Rattle.ice_encoding.specs.Tree.{Tree}
use Rattle.ice_encoding.specs.Port.{Reader}
use Rattle.ice_encoding.specs.Prefixes.{no_length, own_size, as_size, as_int}
use Rattle.ice_encoding.specs.Prefixes as prefixes
use Rattle.ice_values.specs.Going.{fresh}
use Rattle.ice_values.specs.declared.options.Item.{Item}

-- a bound, and what stands behind it
abbrev pub inside_bound : Rest × Rest → Result (Option Rest × Rest) Fault
inside_bound bound = Ok (Some bound.1, bound.0)

-- what stands behind the bound that the prefix sets, if it sets one; and where the value begins
abbrev pub entered_at : prefixes.Prefix → Rest → Result (Option Rest × Rest) Fault
entered_at no_length r = Ok (None, r)
entered_at own_size r = bound_behind size r >>= λ bound. Ok (None, r)
entered_at as_size r = bound_behind size r >>= inside_bound
entered_at as_int r = bound_behind count r >>= inside_bound

-- Where reading goes on behind a value that ends here: it has to fill its bound.
abbrev pub left_at : Option Rest → Rest → Result Rest Fault
left_at None r = Ok r
left_at (Some behind) r = ended r.bytes r.place behind

abbrev pub leaving : {S : Type 0} → Option Rest → Tree → Reader S Tree
leaving behind v s r = left_at behind r >>= λ r'. Ok (v, s, r')

-- a value of the type has begun, behind its tag
abbrev pub Begun : ℕ → TypeRef → Result Item Fault → Rest → Result (Option Rest × Rest) Fault → Type 0
Begun number kind (Ok item) r read = (read ≡ Ok (item.behind, r)) × (item ≡ record { tag = number; reader = fresh kind; behind = item.behind })
Begun number kind (Err e) r read = read ≡ Err e

-- a call that goes on to a value
abbrev pub Enters : Result (Option Rest) Fault → Rest → Result (Option Rest × Rest) Fault → Type 0
Enters (Ok behind) r read = read ≡ Ok (behind, r)
Enters (Err e) r read = read ≡ Err e

-- a call that goes on behind something
abbrev pub Leaves : Result (Unit {0}) Fault → Rest → Result Rest Fault → Type 0
Leaves (Ok x) r read = read ≡ Ok r
Leaves (Err e) r read = read ≡ Err e
