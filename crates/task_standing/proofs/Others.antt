-- An event of another task leaves what a task knows.
use Rattle.std.proofs.Common.{◌≡◌, ℕ, true, false, ◌==◌, List, ◌∷◌, refl, sym, ◌∙◌}
use Rattle.phase_modes.specs.declared.limits.Limits.{Limits}
use Rattle.finish_core.specs.declared.event.FinishEvent.TheVariants.{Opened}
use Rattle.world_model.specs.declared.event.Step.TheVariants.{Make, Send, Look}
use Rattle.world_model.specs.declared.event.Begun.TheVariants.{End}
use Rattle.world_model.specs.declared.event.WorldEvent.{WorldEvent}
use Rattle.world_model.specs.declared.event.WorldEvent.TheVariants.{Phaser, Finish, Begin, Refuse, Fail}
use Rattle.world_model.specs.Actors.{actor}
use Rattle.world_model.specs.Tasks.{acts, spawns}
use Rattle.world_model.specs.Replies.{is_legal_world}
use Rattle.world_model.proofs.MadeMeans.{last_accepted}
use Rattle.world_model.proofs.AgentOfTask.{touches, untouched_born, born_once}
use Rattle.world_model.proofs.OthersLeave.{due_other}
use Rattle.world_model.proofs.OpenFinishes.{opens_by_others, home_later}
use Rattle.world_model.proofs.UntouchedStays.{alike, phasers_same}
use Rattle.task_standing.specs.Known.{Known}
use Rattle.task_standing.specs.Histories.{IsOf}
use Rattle.task_standing.specs.Laws.{OthersLeave}
use Rattle.task_standing.proofs.Kept.{holding_kept}

acts_other : (t : ℕ) (e : WorldEvent) (w : List WorldEvent) → (actor w e == t) ≡ false → acts t (e ∷ w) ≡ acts t w
acts_other t (Phaser n (Make u m terms)) w o = rw o refl
acts_other t (Phaser n (Send u a v)) w o = rw o refl
acts_other t (Phaser n (Look u a)) w o = rw o refl
acts_other t (Phaser n s) w o = refl
acts_other t (Finish f (Opened u)) w o = rw o refl
acts_other t (Finish f d) w o = refl
acts_other t (Begin u End) w o = refl
acts_other t (Begin u b) w o = rw o refl
acts_other t (Refuse u a n) w o = refl
acts_other t (Fail u n) w o = refl

-- the same of a task that wasn't born, where the event isn't about it
pub of_by_others : (l : Limits) (e : WorldEvent) (w : List WorldEvent) (k : Known) → is_legal_world l (e ∷ w) ≡ true
    → (actor w e == k.number) ≡ false → touches k.number e ≡ false → spawns k.number e ≡ false → IsOf w k
    → IsOf (e ∷ w) k
of_by_others l e w k legal o u s st =
    let a = last_accepted l e w legal in
    let t = k.number in
    record {
      holding = st.holding ∙ holding_kept l e w t a.0 a.1 (phasers_same t e w u) (λ n v. alike t n e w u);
      finishes = st.finishes ∙ sym (opens_by_others l w a.1 t e o);
      home = st.home ∙ sym (home_later l w a.1 t e s);
      acts = st.acts ∙ sym (acts_other t e w o);
    }

pub others_leave : OthersLeave
others_leave l e w k legal born o st =
    let a = last_accepted l e w legal in
    let t = k.number in
    record {
      of = of_by_others l e w k legal o (untouched_born l w a.1 e t a.0 born o) (born_once l w e t a.1 a.0 born) st.of;
      due_is = due_other t e w o ∙ st.due_is;
    }
