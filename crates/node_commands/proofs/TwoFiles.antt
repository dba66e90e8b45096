-- What was loaded of two Slice files, and what it comes to.
use Rattle.std.proofs.Common.{◌≡◌, ℕ, List, Option, Some, Vec, refl, ap, subst, inl, inr}
use Rattle.std.specs.declared.alloc.Global.{Global}
use Rattle.ice_types.specs.declared.kind.TypeRef.{TypeRef}
use Rattle.ice_types.specs.Tables.{Tables}
use Rattle.ice_types.specs.Rules.{IsSchema as Rules}
use Rattle.slice_compat.specs.declared.verdict.Why.{Why}
use Rattle.slice_compat.specs.declared.verdict.Verdict.{Verdict}
use Rattle.slice_compat.specs.declared.verdict.Verdict.TheVariants.{Yes, NoRoot, NoClass}
use Rattle.slice_compat.specs.Verdicts.{IsVerdict}
use Rattle.node_commands.specs.declared.found.Found.{Found}
use Rattle.node_commands.specs.declared.found.Found.TheVariants as founds
use Rattle.node_commands.specs.Words.{Word, compat}
use Rattle.node_commands.specs.Outside.{Files, Failures, NoneFailed, counts}
use Rattle.node_commands.specs.Answers.{Answer, done, different, slice_refused, read_failed, no_memory}
use Rattle.node_commands.specs.Compats.{compat_line}
use Rattle.node_commands.specs.Decided.{IsSchema, IsNamed, WithType, Decides}
use Rattle.node_commands.specs.Causes.{Causes}
use Rattle.node_commands.specs.Outcomes.{GivesNoSchema, FindsCompat, found_answer}
use Rattle.node_commands.proofs.OneCompat.{one_compat}

-- the verdict as it is written
module _ (t u : Tables) (rules : Rules u) (kind other : TypeRef) (text : Vec ℕ Global) where
  pub finds_yes : IsVerdict t u kind other Yes → text.items ≡ compat_line t Yes → FindsCompat t u kind other (founds.Bytes text)
  finds_yes is said = (Yes, (is, λ (another : Verdict) (v : IsVerdict t u kind other another). one_compat t u rules kind other another Yes v is), ap done said)

  pub finds_no_root : IsVerdict t u kind other NoRoot → text.items ≡ compat_line t NoRoot → FindsCompat t u kind other (founds.Denial text)
  finds_no_root is said = (NoRoot, (is, λ (another : Verdict) (v : IsVerdict t u kind other another). one_compat t u rules kind other another NoRoot v is), ap different said)

  pub finds_no_class : (class : ℕ) (why : Why) → IsVerdict t u kind other (NoClass class why) → text.items ≡ compat_line t (NoClass class why) → FindsCompat t u kind other (founds.Denial text)
  finds_no_class class why is said =
      (NoClass class why, (is, λ (another : Verdict) (v : IsVerdict t u kind other another). one_compat t u rules kind other another (NoClass class why) v is), ap different said)

module _ (files : Option Files) (input : Option (List ℕ)) (old new word : Word) where
  -- the old file gives no schema
  pub no_old : (before after source sink : ℕ) (answer : Answer) → GivesNoSchema files old before after answer → Causes (Some (compat old new word)) files input (counts before source sink) (counts after source sink) answer
  no_old before after source sink (slice_refused broken) h = (inl (broken, h.0, refl), (h.1, refl, refl))
  no_old before after source sink read_failed h = (h, refl, refl)
  no_old before after source sink no_memory h = (tt, (h, refl, refl))
  no_old before after source sink answer h = absurd h

  -- the old file does, and the shelf is as it was
  module _ (t : Tables) (loads : IsSchema files old t) (now : Option Files) (kept : now ≡ files) where
    -- the new file gives none
    pub no_new : (before between after source sink : ℕ) (answer : Answer) → between ≡ before → GivesNoSchema now new between after answer → Causes (Some (compat old new word)) files input (counts before source sink) (counts after source sink) answer
    no_new before between after source sink answer same gives = by answer (subst (λ (n : ℕ). GivesNoSchema files new n after answer) same (subst (λ (x : Option Files). GivesNoSchema x new between after answer) kept gives)) where
      by : (answer : Answer) → GivesNoSchema files new before after answer → Causes (Some (compat old new word)) files input (counts before source sink) (counts after source sink) answer
      by (slice_refused broken) h = (inr (t, loads, inl (broken, h.0, refl)), (h.1, refl, refl))
      by read_failed h = (h, refl, refl)
      by no_memory h = (tt, (h, refl, refl))
      by answer h = absurd h

    -- it does too
    module _ (u : Tables) (reads : IsSchema now new u) where
      stands : IsSchema files new u
      stands = subst (λ (x : Option Files). IsSchema x new u) kept reads

      -- the word names no type of the old one
      pub no_kind : (before after : Failures) (answer : Answer) → NoneFailed before after → WithType t word answer (λ kind. ⊥) → Causes (Some (compat old new word)) files input before after answer
      no_kind before after answer none (inl unnamed) = rw unnamed.1 (inr (t, loads, inr (u, stands, inl (unnamed.0, refl))), none)
      no_kind before after answer none (inr (kind, named, never)) = absurd never

      module _ (kind : TypeRef) (named : IsNamed t word kind) where
        -- of the new one
        pub no_other : (before after : Failures) (answer : Answer) → NoneFailed before after → WithType u word answer (λ other. ⊥) → Causes (Some (compat old new word)) files input before after answer
        no_other before after answer none (inl unnamed) = rw unnamed.1 (inr (t, loads, inr (u, stands, inr (kind, named, inl (unnamed.0, refl)))), none)
        no_other before after answer none (inr (other, named_too, never)) = absurd never

        -- it names one of both
        pub both_named : (other : TypeRef) → IsNamed u word other → (found : Found) → FindsCompat t u kind other found → Decides (Some (compat old new word)) files input (found_answer found)
        both_named other named_too found finds = inr (t, loads, inr (u, stands, inr (kind, named, inr (other, named_too, finds))))
