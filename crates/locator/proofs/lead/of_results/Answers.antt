use Rattle.std.proofs.Common.{◌∙◌}
use Rattle.locator.proofs.Leading.{results_lead, none_found}
use Rattle.locator.proofs.lead.of_results.Goals as goal

pub returns-in-Ok : goal.returns-in-Ok
returns-in-Ok c =
    results_lead c.args.schema.now c.args.body.now c.as_slice-2.result.now c.requires c.as_slice-2.ensures c.as_slice.result.now (c.as_slice.ensures ∙ c.in_ok-required.ensures) c.in-Ok.results c.of_graph.result c.in-Ok.ensures.reads c.of_graph.ensures

pub returns-in-Err-Broken : goal.returns-in-Err-Broken
returns-in-Err-Broken c =
    none_found c.args.schema.now c.args.body.now c.as_slice-2.result.now c.requires c.as_slice-2.ensures c.as_slice.result.now (c.as_slice.ensures ∙ c.in_ok-required.ensures) c.in-Err-Broken.field-0 c.in-Err-Broken.field-0-0 c.in-Err-Broken.field-0-is c.in-Err-Broken.ensures.reads
