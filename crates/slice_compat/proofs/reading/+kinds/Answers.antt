use Rattle.std.proofs.Common.{Bool, ◌≡◌, ℕ, suc, ◌-◌, length, IsTrue, IfOk, sym, ◌∙◌, subst, arith}
use Rattle.std.specs.Prelude.{◌↔◌, slice_get}
use Rattle.std.proofs.lemmas.Bool.{eqb-true, eq-eqb}
use Rattle.ice_types.proofs.Alike.{same_length, both_done}
use Rattle.ice_types.specs.declared.kind.TypeRef.{TypeRef}
use Rattle.ice_types.specs.declared.kind.TypeRef.TheVariants as kinds
use Rattle.ice_types.specs.Lacking.{BothAre}
use Rattle.slice_compat.specs.Reading.{ReadsDict, ReadsEnum, ReadsMember, ReadsParts, ReadsSeq, ReadsStruct, ReadsWithin}
use Rattle.slice_compat.proofs.Pairs.{dict_place, enum_place, pair_said, seq_place, struct_place}
use Rattle.slice_compat.proofs.Levels.{remembered, to_remember}
use Rattle.slice_compat.proofs.reading.+kinds.Goals as goal

pub reads_within-returns-clause-yes : goal.reads_within-returns-clause-yes
reads_within-returns-clause-yes t c =
    let more : suc (c.args.levels - 1) ≡ c.args.levels = omega arith in
    subst (λ (n : ℕ). IfOk c.reads_parts.result (λ yes. IsTrue yes ↔ ReadsWithin c.args.old.now c.args.new.now n c.args.kind c.args.other)) more c.reads_parts.ensures.yes

pub read_members-returns-clause-yes : goal.read_members-returns-clause-yes
read_members-returns-clause-yes t c =
    let Same = ReadsMember c.args.old.now c.args.new.now (ReadsWithin c.args.old.now c.args.new.now c.args.levels) in
    let own = c.args.own.now in
    let others = c.args.members.now in (
      λ e. c.loop-at.invariant.decides.0 (both_done Same own others c.loop-at.at c.loop-at-test.false (eqb-true (length own) (length others) e)),
      λ h. eq-eqb (length own) (length others) (same_length Same own others h),
    )

pub reads_struct-returns-in-Some-of_structs-clause-yes : goal.reads_struct-returns-in-Some-of_structs-clause-yes
reads_struct-returns-in-Some-of_structs-clause-yes t c =
    remembered c.args.old.now c.args.new.now c.args.levels c.args.a c.args.b c.in-Some.field-0 c.requires.levels (sym c.measure_within.ensures.found ∙ c.in-Some.is) c.in-Some-of_structs.yes
    (c.requires.answers.structs c.args.a c.args.b c.in-Some-of_structs.yes (sym c.of_structs.ensures ∙ c.in-Some-of_structs.is))

pub reads_struct-returns-clause-answers : goal.reads_struct-returns-clause-answers
reads_struct-returns-clause-answers t c =
    c.in_ok-put_structs.ensures c.args.old.now c.args.new.now c.in_ok-yes.ensures.answers
    (to_remember c.args.old.now c.args.new.now c.args.levels c.args.a c.args.b c.in-Some.field-0 c.requires.levels (sym c.measure_within.ensures.found ∙ c.in-Some.is) c.in_ok-yes.yes c.in_ok-yes.ensures.yes)

pub reads_parts-returns-in-Seq-other-clause-yes : goal.reads_parts-returns-in-Seq-other-clause-yes
reads_parts-returns-in-Seq-other-clause-yes t c =
    subst (λ (kind : TypeRef). IfOk c.reads_seq.result (λ (said : Bool). IsTrue said ↔ ReadsParts c.args.old.now c.args.new.now (ReadsWithin c.args.old.now c.args.new.now c.args.levels) kind c.args.other)) (sym c.in-Seq.is)
    (subst (λ (other : TypeRef). IfOk c.reads_seq.result (λ (said : Bool). IsTrue said ↔ ReadsParts c.args.old.now c.args.new.now (ReadsWithin c.args.old.now c.args.new.now c.args.levels) (kinds.Seq c.in-Seq.a) other)) (sym c.in-Seq-other.is)
    (pair_said kinds.Seq seq_place (λ (b : ℕ). BothAre (ReadsSeq c.args.old.now c.args.new.now (ReadsWithin c.args.old.now c.args.new.now c.args.levels)) (slice_get c.args.old.now.seqs c.in-Seq.a) (slice_get c.args.new.now.seqs b)) c.in-Seq-other.b c.reads_seq.result c.reads_seq.ensures.yes))

pub reads_parts-returns-in-Dict-other-clause-yes : goal.reads_parts-returns-in-Dict-other-clause-yes
reads_parts-returns-in-Dict-other-clause-yes t c =
    subst (λ (kind : TypeRef). IfOk c.reads_dict.result (λ (said : Bool). IsTrue said ↔ ReadsParts c.args.old.now c.args.new.now (ReadsWithin c.args.old.now c.args.new.now c.args.levels) kind c.args.other)) (sym c.in-Dict.is)
    (subst (λ (other : TypeRef). IfOk c.reads_dict.result (λ (said : Bool). IsTrue said ↔ ReadsParts c.args.old.now c.args.new.now (ReadsWithin c.args.old.now c.args.new.now c.args.levels) (kinds.Dict c.in-Dict.a) other)) (sym c.in-Dict-other.is)
    (pair_said kinds.Dict dict_place (λ (b : ℕ). BothAre (ReadsDict c.args.old.now c.args.new.now (ReadsWithin c.args.old.now c.args.new.now c.args.levels)) (slice_get c.args.old.now.dicts c.in-Dict.a) (slice_get c.args.new.now.dicts b)) c.in-Dict-other.b c.reads_dict.result c.reads_dict.ensures.yes))

pub reads_parts-returns-in-Struct-other-clause-yes : goal.reads_parts-returns-in-Struct-other-clause-yes
reads_parts-returns-in-Struct-other-clause-yes t c =
    subst (λ (kind : TypeRef). IfOk c.reads_struct.result (λ (said : Bool). IsTrue said ↔ ReadsParts c.args.old.now c.args.new.now (ReadsWithin c.args.old.now c.args.new.now c.args.levels) kind c.args.other)) (sym c.in-Struct.is)
    (subst (λ (other : TypeRef). IfOk c.reads_struct.result (λ (said : Bool). IsTrue said ↔ ReadsParts c.args.old.now c.args.new.now (ReadsWithin c.args.old.now c.args.new.now c.args.levels) (kinds.Struct c.in-Struct.a) other)) (sym c.in-Struct-other.is)
    (pair_said kinds.Struct struct_place (λ (b : ℕ). BothAre (ReadsStruct c.args.old.now c.args.new.now (ReadsWithin c.args.old.now c.args.new.now c.args.levels)) (slice_get c.args.old.now.structs c.in-Struct.a) (slice_get c.args.new.now.structs b)) c.in-Struct-other.b c.reads_struct.result c.reads_struct.ensures.yes))

pub reads_parts-returns-in-Enum-other-clause-yes : goal.reads_parts-returns-in-Enum-other-clause-yes
reads_parts-returns-in-Enum-other-clause-yes t c =
    subst (λ (kind : TypeRef). IfOk c.reads_enum.result (λ (said : Bool). IsTrue said ↔ ReadsParts c.args.old.now c.args.new.now (ReadsWithin c.args.old.now c.args.new.now c.args.levels) kind c.args.other)) (sym c.in-Enum.is)
    (subst (λ (other : TypeRef). IfOk c.reads_enum.result (λ (said : Bool). IsTrue said ↔ ReadsParts c.args.old.now c.args.new.now (ReadsWithin c.args.old.now c.args.new.now c.args.levels) (kinds.Enum c.in-Enum.a) other)) (sym c.in-Enum-other.is)
    (pair_said kinds.Enum enum_place (λ (b : ℕ). BothAre ReadsEnum (slice_get c.args.old.now.enums c.in-Enum.a) (slice_get c.args.new.now.enums b)) c.in-Enum-other.b c.reads_enum.result c.reads_enum.ensures.yes))
