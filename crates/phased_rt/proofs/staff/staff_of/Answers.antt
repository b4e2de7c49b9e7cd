use Rattle.std.proofs.Common.{◌≡◌, map, sym, subst}
use Rattle.std.proofs.lemmas.Result.{IfOk-weaker}
use Rattle.task_queue.specs.Accounts.{AreTogether}
use Rattle.phased_rt.proofs.staff.staff_of.Goals as goal

pub returns-clause-together : goal.returns-clause-together
returns-clause-together g c =
    IfOk-weaker c.seated.result (λ v. map (λ w. w.hand.seat) v.items ≡ c.args.seats.items) (λ v. AreTogether (map (λ w. w.hand.seat) v.items))
    (λ v same. subst (λ l. AreTogether l) (sym same) c.requires.together) c.seated.ensures.staff
