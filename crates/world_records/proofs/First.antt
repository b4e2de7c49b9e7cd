-- A new world stands for the history in which nothing has happened.
use Rattle.std.proofs.Common.{◌≡◌, ℕ, ◌<◌, ◌==◌, Bool, true, false, cond, List, [], ◌∷◌, length, replicate, Option, None, refl, ap, ◌∙◌, arith}
use Rattle.std.proofs.lemmas.List.{length-replicate, length-set}
use Rattle.phase_modes.specs.declared.limits.Limits.{Limits}
use Rattle.phase_modes.specs.Limits.{limits_fit}
use Rattle.finish_core.specs.Finish.{FinishStory, fresh}
use Rattle.finish_core.specs.declared.event.FinishEvent.TheVariants.{Opened}
use Rattle.world_records.specs.Kept.{blank_task, root_task, blank_story, first_state}
use Rattle.world_records.specs.StandsFor.{TaskStands, StandsFor}
use Rattle.world_records.proofs.Fits.{fitting}
use Rattle.world_records.proofs.TableReads.{same_everywhere, read_set}

-- the root's line and every other task's
first_line : (outers : List (Option ℕ)) (t : ℕ) (b : Bool) → (0 == t) ≡ b → (t == 0) ≡ b → TaskStands outers [] t (cond b root_task blank_task)
first_line outers t true e k = record {
  due_is = refl;
  idle = refl;
  plan = refl;
  left = refl;
  chain = refl;
  phasers = refl;
  clock = refl;
  acts = refl;
  home = refl;
  spawner = refl;
  named = rw k refl;
  born = rw k refl;
  ended = refl;
  refused = refl;
}
first_line outers t false e k = record {
  due_is = refl;
  idle = refl;
  plan = refl;
  left = refl;
  chain = refl;
  phasers = refl;
  clock = refl;
  acts = refl;
  home = refl;
  spawner = refl;
  named = rw k refl;
  born = rw k refl;
  ended = refl;
  refused = refl;
}

story_of_one : (b : Bool) (tasks : ℕ) → ◌≡◌ {A = FinishStory} (cond b (record { tasks = tasks; past = Opened 0 ∷ [] }) (fresh tasks)) (record { tasks = tasks; past = cond b (Opened 0 ∷ []) [] })
story_of_one true tasks = refl
story_of_one false tasks = refl

eqb_swap : (n m : ℕ) → (n == m) ≡ (m == n)
eqb_swap n m = grind arith

pub first_stands : (l : Limits) → limits_fit l ≡ true → StandsFor [] (first_state l)
first_stands l fit =
    let finishes = replicate l.finishes (fresh l.tasks) in
    let in_finishes : 0 < length finishes = omega (arith, (fitting l fit).finishes, length-replicate l.finishes (fresh l.tasks)) in
    let in_tasks : 0 < length (replicate l.tasks blank_task) = omega (arith, (fitting l fit).tasks, length-replicate l.tasks blank_task) in
    record {
      fit = fit;
      finishes_size = length-set finishes 0 (record { tasks = l.tasks; past = Opened 0 ∷ [] }) ∙ length-replicate l.finishes (fresh l.tasks);
      owners_size = length-replicate l.finishes 0;
      outers_size = length-replicate l.finishes None;
      legal = refl;
      phasers = λ n. record { story = same_everywhere l.phasers n (blank_story l); enclosing = same_everywhere l.phasers n 0 };
      finishes = λ f. record {
        story =
            read_set finishes 0 f (record { tasks = l.tasks; past = Opened 0 ∷ [] }) (fresh l.tasks) in_finishes
            ∙ (ap (λ (s : FinishStory). cond (0 == f) (record { tasks = l.tasks; past = Opened 0 ∷ [] }) s) (same_everywhere l.finishes f (fresh l.tasks))
            ∙ (story_of_one (0 == f) l.tasks ∙ ap (λ b. record { tasks = l.tasks; past = cond b (Opened 0 ∷ []) [] }) (eqb_swap 0 f)));
        owner = same_everywhere l.finishes f 0;
      };
      tasks = λ t.
          rw (read_set (replicate l.tasks blank_task) 0 t root_task blank_task in_tasks, same_everywhere l.tasks t blank_task)
          (first_line (replicate l.finishes None) t (0 == t) refl (eqb_swap t 0));
    }
