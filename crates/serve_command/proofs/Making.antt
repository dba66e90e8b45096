-- Lanes of the objects of the words, or why there are none.
use Rattle.std.proofs.Common.{◌≡◌, ℕ, ap, inl, inr}
use Rattle.std.specs.Prelude.{Option, Err}
use Rattle.ice_types.specs.Tables.{Tables}
use Rattle.node_commands.specs.declared.outcome.Outcome.{Outcome}
use Rattle.node_commands.specs.declared.outcome.Outcome.TheVariants as outcomes
use Rattle.node_commands.specs.Outside.{Files}
use Rattle.node_commands.specs.Decided.{IsSchema}
use Rattle.serve_command.specs.Words.{Serve}
use Rattle.serve_command.specs.Adapters.{Never, LacksInterface}
use Rattle.serve_command.specs.Steps.{ChecksAll, NamesAll, ReadsAll, MakesNone, answered_by}

module _ (c : Serve) (files : Option Files) (before after : ℕ) where
  -- memory lacked
  pub no_memory_left : (outcome : Outcome) → outcome ≡ outcomes.Memory → after ≡ before → MakesNone c files before after (answered_by outcome)
  no_memory_left outcome is kept = inr (inr (ap answered_by is, kept))

  module _ (t : Tables) (is : IsSchema files c.file t) (kept : after ≡ before) where
    -- an interface is not there
    no_interface : (outcome : Outcome) → NamesAll t c.objects (Err outcome) → MakesNone c files before after (answered_by outcome)
    no_interface outcome h = inl (inr (t, is, inl h), kept)

    -- a text stands for nothing
    no_text : (outcome : Outcome) → Never (LacksInterface t) c.objects → ReadsAll c.objects (Err outcome) → MakesNone c files before after (answered_by outcome)
    no_text outcome named (inl (at, first, refused)) = inl (inr (t, is, inr (named, inl (at, first, ap answered_by refused))), kept)
    no_text outcome named (inr lacked) = no_memory_left outcome lacked kept

    pub unchecked : (outcome : Outcome) → ChecksAll t c.objects (Err outcome) → MakesNone c files before after (answered_by outcome)
    unchecked outcome (inl h) = no_interface outcome h
    unchecked outcome (inr (named, h)) = no_text outcome named h
