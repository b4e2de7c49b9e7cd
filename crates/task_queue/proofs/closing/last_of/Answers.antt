use Rattle.std.proofs.Common.{◌≡◌, ◌++◌, ◌∷◌, [], Some, length, map, subst}
use Rattle.std.proofs.lemmas.List.Elements.{All-pop}
use Rattle.crossbeam_deque.specs.Handles.{worker_deque, IsPassOf}
use Rattle.task_queue.specs.Reaches.{reach_deque, stolen_of, IsReach}
use Rattle.task_queue.proofs.Fairs.{last_leaves}
use Rattle.task_queue.proofs.Emptying.{each_last, same_length}
use Rattle.task_queue.proofs.closing.last_of.Goals as goal

pub returns-clause-fits : goal.returns-clause-fits
returns-clause-fits g c =
    let is : c.args.row.items ≡ c.pop.new.self.items ++ c.in-Some.reach ∷ [] = c.in-Some.ensures.items in
    (last_leaves reach_deque c.args.row.items c.pop.new.self.items c.in-Some.reach (map worker_deque c.args.owns.now.items) (worker_deque c.args.own.now) c.requires.fits is).0

pub returns-clause-ready : goal.returns-clause-ready
returns-clause-ready g c =
    let is : c.args.row.items ≡ c.pop.new.self.items ++ c.in-Some.reach ∷ [] = c.in-Some.ensures.items in
    (All-pop IsReach c.args.row.items c.pop.new.self.items (Some c.in-Some.reach) is c.requires.ready).0

pub returns-clause-pass : goal.returns-clause-pass
returns-clause-pass g c =
    let reach = c.in-Some.reach in
    let rest = c.pop.new.self in
    let is : c.args.row.items ≡ rest.items ++ reach ∷ [] = c.in-Some.ensures.items in
    let left = last_leaves reach_deque c.args.row.items rest.items reach (map worker_deque c.args.owns.now.items) (worker_deque c.args.own.now) c.requires.fits is in
    let ready = All-pop IsReach c.args.row.items rest.items (Some reach) is c.requires.ready in
    (subst (λ d. IsPassOf d reach.pass) left.1 ready.1.0, ready.1.2, ready.1.3)

pub returns-clause-taken : goal.returns-clause-taken
returns-clause-taken g c = λ h.
    let reach = c.in-Some.reach in
    let rest = c.pop.new.self in
    let owns = c.args.owns.now.items in
    let is : c.args.row.items ≡ rest.items ++ reach ∷ [] = c.in-Some.ensures.items in
    let left = last_leaves reach_deque c.args.row.items rest.items reach (map worker_deque owns) (worker_deque c.args.own.now) c.requires.fits is in
    let at : length rest.items ≡ length owns = same_length reach_deque worker_deque rest.items owns left.0 in
    each_last h stolen_of c.args.row.items rest.items reach (length owns) is at
