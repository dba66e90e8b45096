-- A schema without rows.
use Rattle.std.proofs.Common.{◌≡◌, ℕ, List, refl, sym, subst, arith}
use Rattle.ice_types.specs.declared.kind.RowRef.{RowRef}
use Rattle.ice_types.specs.declared.kind.RowRef.TheVariants as rows
use Rattle.std.specs.Prelude.{Option, None}
use Rattle.ice_types.specs.Tables.{no_types, IsNewId, HasRowId, HasCompactId, Finds}
use Rattle.ice_types.specs.Ids.{IsHeld, AreNumbered}
use Rattle.ice_types.specs.Rules.{nothing, IsKept}
use Rattle.ice_types.proofs.Said.{no_seq, no_dict, no_struct, no_enum}

no_id : (id : List ℕ) → IsNewId no_types id
no_id id (rows.Seq at) h = cc
no_id id (rows.Dict at) h = cc
no_id id (rows.Struct at) h = cc
no_id id (rows.Enum at) h = cc
no_id id (rows.Class at) h = cc
no_id id (rows.Exception at) h = cc
no_id id (rows.Interface at) h = cc

pub kept_nothing : IsKept no_types nothing
kept_nothing = record {
  rules = record {
    room = record { seqs = omega arith; dicts = omega arith; structs = omega arith; enums = omega arith; classes = omega arith; exceptions = omega arith; interfaces = omega arith };
    class_flags = refl;
    interface_flags = refl;
    type_ids = λ id row h. absurd (no_id id row h);
    apart = λ id a b h i. absurd (no_id id a h);
    compact_ids = λ number at h. absurd cc;
    compact_apart = λ number a b h i. absurd cc;
    seqs = λ at q e. absurd cc;
    dicts = λ at d e. absurd cc;
    structs = λ at d e. absurd cc;
    enums = λ at x e. absurd cc;
    classes = λ at c e. absurd cc;
    exceptions = λ at x e. absurd cc;
    interfaces = λ at i e. absurd cc;
    class_bases = λ at lt. absurd (omega (arith, lt));
    exception_bases = λ at lt. absurd (omega (arith, lt));
  };
  seqs = λ at. sym (no_seq no_types 100 at refl);
  dicts = λ at. sym (no_dict no_types 100 at refl);
  structs = λ at. sym (no_struct no_types 100 at refl);
  enums = λ at. sym (no_enum no_types 100 at refl);
  class_flags = refl;
  interface_flags = refl;
  exceptions_beside = refl;
  classes = λ at n e. absurd cc;
  exceptions = λ at n e. absurd cc;
  interfaces = λ at n e. absurd cc;
}

pub held_nothing : (row_of : List ℕ → Option RowRef) → ((id : List ℕ) → row_of id ≡ None) → IsHeld no_types nothing row_of
held_nothing row_of none = record { kept = kept_nothing; far_bases = λ at. refl; found = λ id. subst (Finds (HasRowId no_types id)) (sym (none id)) (λ row h. no_id id row h) }

pub numbered_nothing : (class_of : ℕ → Option ℕ) (room : ℕ) → ((number : ℕ) → class_of number ≡ None) → AreNumbered no_types class_of room
numbered_nothing class_of room none = record {
  found = λ number. subst (Finds (HasCompactId no_types number)) (sym (none number)) (λ at h. cc);
  declared = λ number at h. absurd cc;
  enough = omega arith;
}
