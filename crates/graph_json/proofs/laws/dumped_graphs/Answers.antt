use Rattle.graph_json.proofs.Dumped.{dump_notes, dump_lists, dump_encodes}
use Rattle.graph_json.proofs.laws.dumped_graphs.Goals as goal

pub returns-clause-noted : goal.returns-clause-noted
returns-clause-noted c = λ t reach shape bytes g rules named fits read. dump_notes t reach shape rules named bytes g fits read

pub returns-clause-listed : goal.returns-clause-listed
returns-clause-listed c = λ t reach shape bytes text g rules named fits read is short. dump_lists t reach shape rules named bytes g fits read text is short

pub returns-clause-encoded : goal.returns-clause-encoded
returns-clause-encoded c = λ t reach shape format bytes text g k rules named fits read is lists. dump_encodes t reach shape rules named bytes g fits read format text k is lists
