-- What is kept beside the types stays right when other rows come.
use Rattle.std.proofs.Common.{◌≡◌, ap, ◌∙◌}
use Rattle.std.specs.Prelude.{slice_get}
use Rattle.ice_types.specs.declared.kind.TypeRef.TheVariants as kinds
use Rattle.ice_types.specs.Tables.{Tables}
use Rattle.ice_types.specs.Measures.{measure}
use Rattle.ice_types.specs.Rules.{Beside, IsKept, AreMeasures}
use Rattle.ice_types.proofs.Levels.{Keeps, measure_kept}
use Rattle.ice_types.proofs.Said.{no_seq, no_dict, no_struct, no_enum, of_seqs_says, of_dicts_says, of_structs_says, of_enums_says, are_kept}

-- of each table that has no other rows
pub record AreMeasured (t u : Tables) (beside : Beside) : Type 0 where
  pub seqs : u.seqs ≡ t.seqs → AreMeasures u kinds.Seq beside.seqs
  pub dicts : u.dicts ≡ t.dicts → AreMeasures u kinds.Dict beside.dicts
  pub structs : u.structs ≡ t.structs → AreMeasures u kinds.Struct beside.structs
  pub enums : u.enums ≡ t.enums → AreMeasures u kinds.Enum beside.enums

pub measured_kept : (t u : Tables) → Keeps t u → (beside : Beside) → IsKept t beside → AreMeasured t u beside
measured_kept t u types beside kept = record {
  seqs = λ e. are_kept t.seqs beside.seqs (λ at. measure t 100 (kinds.Seq at)) (λ at. measure u 100 (kinds.Seq at)) (of_seqs_says t kept.rules) kept.seqs
      (λ at. measure_kept t u types 100 (kinds.Seq at)) (λ at none. no_seq u 100 at (ap (λ rows. slice_get rows at) e ∙ none));
  dicts = λ e. are_kept t.dicts beside.dicts (λ at. measure t 100 (kinds.Dict at)) (λ at. measure u 100 (kinds.Dict at)) (of_dicts_says t kept.rules) kept.dicts
      (λ at. measure_kept t u types 100 (kinds.Dict at)) (λ at none. no_dict u 100 at (ap (λ rows. slice_get rows at) e ∙ none));
  structs = λ e. are_kept t.structs beside.structs (λ at. measure t 100 (kinds.Struct at)) (λ at. measure u 100 (kinds.Struct at)) (of_structs_says t kept.rules) kept.structs
      (λ at. measure_kept t u types 100 (kinds.Struct at)) (λ at none. no_struct u 100 at (ap (λ rows. slice_get rows at) e ∙ none));
  enums = λ e. are_kept t.enums beside.enums (λ at. measure t 100 (kinds.Enum at)) (λ at. measure u 100 (kinds.Enum at)) (of_enums_says t) kept.enums
      (λ at. measure_kept t u types 100 (kinds.Enum at)) (λ at none. no_enum u 100 at (ap (λ rows. slice_get rows at) e ∙ none));
}
