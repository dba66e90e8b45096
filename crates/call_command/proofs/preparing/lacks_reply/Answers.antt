use Rattle.call_command.proofs.preparing.lacks_reply.Goals as goal

pub returns-then-proxy-gt0 : goal.returns-then-proxy-gt0
returns-then-proxy-gt0 c = (λ t. (c.if-proxy-gt0.true, c.wants_reply.ensures.0 t), λ l. c.wants_reply.ensures.1 l.1)
