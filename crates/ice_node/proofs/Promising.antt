-- One answer, that came for its cause and with its effects, keeps all promises.
use Rattle.std.proofs.Common.{ℕ, List}
use Rattle.node_commands.specs.Words.{Word}
use Rattle.node_commands.specs.Outside.{Outside}
use Rattle.node_commands.specs.Answers.{Answer}
use Rattle.node_commands.specs.Statuses.{Answered}
use Rattle.node_commands.proofs.OneAnswer.{ends}
use Rattle.ice_node.specs.Promises.{KeepsLocally}
use Rattle.ice_node.proofs.Carrying.{answer_carries}

pub promises : (words : List Word) (before after : Outside) (status : ℕ) (answer : Answer) → Answered words before after status answer → KeepsLocally words before after status
promises words before after status answer came = record {
  answered = (answer, came);
  exactly = ends words before after status answer came;
  carried = answer_carries words before after status answer came;
}
