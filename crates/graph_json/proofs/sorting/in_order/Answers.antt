use Rattle.std.proofs.Common.{sym, subst}
use Rattle.graph_json.specs.View.{NamesRise}
use Rattle.graph_json.proofs.Views.{put_each-rising}
use Rattle.graph_json.proofs.sorting.in_order.Goals as goal

pub returns-then-names_rise : goal.returns-then-names_rise
returns-then-names_rise c = sym (put_each-rising c.args.entries.items (subst NamesRise c.as_slice.ensures.value (c.names_rise.ensures c.if-names_rise.true)))
