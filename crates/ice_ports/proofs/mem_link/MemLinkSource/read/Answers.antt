-- What was read is behind what was given before.
use Rattle.std.proofs.Common.{rules, ◌++◌, ◌||◌, [], Bool, false, take, drop, ap, ◌∙◌}
use Rattle.ice_ports.specs.MemLinks.{MemTalk}
use Rattle.ice_ports.specs.Talks.{and_then, is_end}
use Rattle.ice_ports.specs.Nets.{has_failed}
use Rattle.ice_ports.proofs.Giving.{given_more}
use Rattle.ice_ports.proofs.mem_link.MemLinkSource.read.Goals as goal

pub returns-clause-talk : goal.returns-clause-talk
returns-clause-talk c =
    let rest = drop c.min-count.result c.args.into.now in
    let ends = is_end c.min-count.result (c.copy_from_slice.new.self ++ rest) in
    let now = c.either-self-inside.ensures ∙ ap (λ (b : Bool). c.self.inside.ended || b) c.is_end.ensures in
    given_more c.self.inside.gives.items c.copy_from_slice.new.self rest c.self.inside.taken.items c.self.inside.at c.min-count.result c.self.inside.ended ends c.either-self-inside.result (has_failed c.self.inside.reads_failed c.self.inside.writes_failed) (search rules) (search rules) now
    ∙ ap (λ (s : MemTalk). and_then s.talk (record { given = take c.min-count.result (c.copy_from_slice.new.self ++ rest); taken = []; ended = ends; failed = false })) c.self.view_is
