use Rattle.std.proofs.Common.{Some, string_bytes}
use Rattle.std.proofs.lemmas.Map.Text.{btree_map_updates_text}
use Rattle.instance_writing.proofs.id_places.IdPlaces.insert.Goals as goal

pub returns-clause-ok : goal.returns-clause-ok
returns-clause-ok c = btree_map_updates_text (string_bytes c.args.id) c.args.self.now.places c.insert.new.self (Some c.args.place) c.in_ok-insert.ensures.updates
