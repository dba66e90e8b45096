use Rattle.std.proofs.Common.{◌≡◌, ℕ, Option, Some, None, sym, ◌∙◌, ap, refl}
use Rattle.std.specs.Prelude.{option_map}
use Rattle.ice_types.specs.Tables.{Tables}
use Rattle.slice_meaning.specs.declared.fault.CheckKind.TheVariants as rows
use Rattle.slice_meaning.specs.Names.{Declared}
use Rattle.slice_meaning.specs.Uses.{fault_at}
use Rattle.slice_meaning.specs.Meaning.{undefined}
use Rattle.slice_meaning.specs.Checking.{at_end, earlier}
use Rattle.slice_meaning.specs.Numbers.{stands_at}
use Rattle.slice_faults.specs.Held.{known_of}
use Rattle.slice_faults.specs.Answer.{answer_of}
use Rattle.slice_faults.proofs.files.never_defined.Goals as goal

none : (t : Tables) (e : Option Declared) → option_map {U = ℕ × ℕ} stands_at e ≡ None → at_end t e ≡ answer_of t None
none t None h = refl
none t (Some d) h = absurd cc

some : (t : Tables) (e : Option Declared) (at : ℕ × ℕ) → option_map {U = ℕ × ℕ} stands_at e ≡ Some at → at_end t e ≡ answer_of t (Some (at.0, fault_at at.1 rows.Undefined))
some t None at h = absurd cc
some t (Some d) at h = let same : stands_at d ≡ at = cc in ap (λ (x : ℕ × ℕ). answer_of t (Some (x.0, fault_at x.1 rows.Undefined))) same

pub returns-in-None : goal.returns-in-None
returns-in-None c = let k = known_of c.args.known.now in none k.tables (earlier None (undefined k)) (sym c.first_undefined.ensures ∙ c.in-None.is)

pub returns-in-Some : goal.returns-in-Some
returns-in-Some c = let k = known_of c.args.known.now in some k.tables (earlier None (undefined k)) (c.in-Some.file, c.in-Some.place) (sym c.first_undefined.ensures ∙ c.in-Some.is)
