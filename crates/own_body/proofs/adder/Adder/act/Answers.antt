use Rattle.own_body.proofs.adder.Adder.act.Goals as goal

-- who sends spawns nobody
pub returns-in-Sends-clause-child : goal.returns-in-Sends-clause-child
returns-in-Sends-clause-child c = λ child spawned. absurd (c.send.ensures.child child spawned)

pub returns-in-Hears-clause-child : goal.returns-in-Hears-clause-child
returns-in-Hears-clause-child c = λ child spawned. absurd (c.send-in-Hears.ensures.child child spawned)
