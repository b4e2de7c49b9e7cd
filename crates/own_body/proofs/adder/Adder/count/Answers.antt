use Rattle.own_body.proofs.adder.Adder.count.Goals as goal

pub returns-clause-counts : goal.returns-clause-counts
returns-clause-counts c = λ task asked seen now next takes counted heard.
    c.hear.ensures task asked seen now (λ turns. next (c.turns-turns.ensures turns)) takes counted heard
