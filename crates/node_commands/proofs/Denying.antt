-- The answer is no to `same` alone.
use Rattle.std.proofs.Common.{◌≡◌, ℕ, List, Option, Some, refl, inl, inr}
use Rattle.ice_types.specs.declared.kind.TypeRef.{TypeRef}
use Rattle.ice_types.specs.Tables.{Tables}
use Rattle.ice_encoding.specs.Graph.{Graph}
use Rattle.ice_encoding.specs.CanonicalGraph.{Format}
use Rattle.instance_writing.specs.Formats.{view_format}
use Rattle.node_commands.specs.declared.words.Task.{Task}
use Rattle.node_commands.specs.declared.words.Task.TheVariants as tasks
use Rattle.node_commands.specs.Words.{Word, values}
use Rattle.node_commands.specs.Outside.{Files}
use Rattle.node_commands.specs.Answers.{different}
use Rattle.node_commands.specs.Decided.{Encapsulates, Does, Decides}
use Rattle.node_commands.specs.Causes.{IsToBeWritten}

no_denial : (f : Format) (t : Tables) (kind : TypeRef) (g : Graph) (bytes : List ℕ) → Encapsulates f t kind (different bytes) g → ⊥
no_denial f t kind g bytes (inl (needs, e)) = cc
no_denial f t kind g bytes (inr (writable, inl (small, e))) = cc
no_denial f t kind g bytes (inr (writable, inr (above, e))) = cc

never_denied : (task : Task) (input : Option (List ℕ)) (t : Tables) (kind : TypeRef) (bytes : List ℕ) → (task ≡ tasks.Same → ⊥) → Does task input t kind (different bytes) → ⊥
never_denied (tasks.Relay format) input t kind bytes other (inl (fault, broken, e)) = cc
never_denied (tasks.Relay format) input t kind bytes other (inr (g, held, more)) = no_denial (view_format format) t kind g bytes more
never_denied tasks.Same input t kind bytes other d = other refl
never_denied tasks.Dump input t kind bytes other (inl (fault, broken, e)) = cc
never_denied tasks.Dump input t kind bytes other (inr (g, held, e)) = cc
never_denied (tasks.Encode format) input t kind bytes other (inl (why, refused, e)) = cc
never_denied (tasks.Encode format) input t kind bytes other (inr (g, listed, more)) = no_denial (view_format format) t kind g bytes more

task_never_denied : (task : Task) (files : Option Files) (input : Option (List ℕ)) (file word : Word) (bytes : List ℕ) → (task ≡ tasks.Same → ⊥) → Decides (Some (values task file word)) files input (different bytes) → ⊥
task_never_denied task files input file word bytes other (inl (broken, fault, e)) = cc
task_never_denied task files input file word bytes other (inr (t, schema, inl (unnamed, e))) = cc
task_never_denied task files input file word bytes other (inr (t, schema, inr (kind, named, d))) = never_denied task input t kind bytes other d

pub no_is_to_be_written : (task : Task) (files : Option Files) (input : Option (List ℕ)) (file word : Word) (bytes : List ℕ) → Decides (Some (values task file word)) files input (different bytes) → IsToBeWritten (Some (values task file word)) files input bytes
no_is_to_be_written tasks.Same files input file word bytes d = inr d
no_is_to_be_written task files input file word bytes d = absurd (task_never_denied task files input file word bytes (λ e. cc) d)
