-- What was loaded of a capture, and what it comes to.
use Rattle.std.proofs.Common.{◌≡◌, ℕ, List, Option, Some, refl, subst, inl, inr}
use Rattle.node_commands.specs.declared.found.Found.{Found}
use Rattle.node_commands.specs.Words.{Word, audit}
use Rattle.node_commands.specs.Outside.{Files, counts}
use Rattle.node_commands.specs.Answers.{Answer}
use Rattle.node_commands.specs.Decided.{HasFile, Decides}
use Rattle.node_commands.specs.Causes.{Causes}
use Rattle.node_commands.specs.Outcomes.{GivesNoFile, FindsVerdict, found_answer}

module _ (files : Option Files) (input : Option (List ℕ)) (client server : Word) where
  -- the client's file gives no bytes
  pub no_client : (before after source sink : ℕ) (answer : Answer) → GivesNoFile files client before after answer → Causes (Some (audit client server)) files input (counts before source sink) (counts after source sink) answer
  no_client before after source sink answer (inl (none, is, count)) = rw is (inl (none, refl), (count, refl, refl))
  no_client before after source sink answer (inr (inl (is, failed))) = rw is (failed, refl, refl)
  no_client before after source sink answer (inr (inr (is, count))) = rw is (tt, (count, refl, refl))

  -- the client's does, and the shelf is as it was
  module _ (asked : List ℕ) (has : HasFile files client asked) (now : Option Files) (kept : now ≡ files) where
    -- the server's file gives none
    pub no_server : (before between after source sink : ℕ) (answer : Answer) → between ≡ before → GivesNoFile now server between after answer → Causes (Some (audit client server)) files input (counts before source sink) (counts after source sink) answer
    no_server before between after source sink answer same gives = by answer (subst (λ (n : ℕ). GivesNoFile files server n after answer) same (subst (λ (x : Option Files). GivesNoFile x server between after answer) kept gives)) where
      by : (answer : Answer) → GivesNoFile files server before after answer → Causes (Some (audit client server)) files input (counts before source sink) (counts after source sink) answer
      by answer (inl (none, is, count)) = rw is (inr (asked, has, inl (none, refl)), (count, refl, refl))
      by answer (inr (inl (is, failed))) = rw is (failed, refl, refl)
      by answer (inr (inr (is, count))) = rw is (tt, (count, refl, refl))

    -- it does too
    pub both_give : (sent : List ℕ) → HasFile now server sent → (client_bytes server_bytes : List ℕ) → client_bytes ≡ asked → server_bytes ≡ sent → (found : Found) → FindsVerdict client_bytes server_bytes found → Decides (Some (audit client server)) files input (found_answer found)
    both_give sent stands client_bytes server_bytes a b found verdict =
        inr (
          asked,
          has,
          inr (
            sent,
            subst (λ (x : Option Files). HasFile x server sent) kept stands,
            subst (λ (l : List ℕ). FindsVerdict asked l found) b (subst (λ (l : List ℕ). FindsVerdict l server_bytes found) a verdict),
          ),
        )
