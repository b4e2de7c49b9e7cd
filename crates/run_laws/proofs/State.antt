-- What a task is in a history, as far as it decides what the task does next: alike in two histories. And that what
-- others do leaves it as it was.
use Rattle.std.proofs.Common.{◌≡◌, ℕ, true, false, ◌&&◌, ◌==◌, not, List, [], ◌∷◌, None, refl, sym, subst, ap, ◌∙◌, inl, inr}
use Rattle.std.specs.Prelude.{filter_map}
use Rattle.std.proofs.lemmas.Bool.{and_parts, cases_Bool, eqb-true, eq-eqb, true≢false, false≢true, false_from_ne_true, and_right}
use Rattle.phase_modes.specs.Lists.{is_empty}
use Rattle.phase_modes.specs.declared.limits.Limits.{Limits}
use Rattle.phase_model.specs.declared.history.Event.{Event}
use Rattle.phase_model.specs.Tasks.{is_registered}
use Rattle.finish_core.specs.declared.event.FinishEvent.TheVariants.{Opened, Ended, Shut as Shutting}
use Rattle.job_script.specs.declared.act.Answer.{Answer}
use Rattle.world_model.specs.declared.event.Step.TheVariants.{Make, Claim, Did, Send, Look}
use Rattle.world_model.specs.declared.event.WorldEvent.{WorldEvent}
use Rattle.world_model.specs.declared.event.WorldEvent.TheVariants.{Phaser, Finish, Begin, Refuse}
use Rattle.world_model.specs.Actors.{actor}
use Rattle.world_model.specs.Due.{due, is_of_single}
use Rattle.world_model.specs.Numbers.{is_phaser}
use Rattle.world_model.specs.Parts.{phaser_past, terms_of}
use Rattle.world_model.specs.Scopes.{open_finishes, enclosing, owner}
use Rattle.world_model.specs.Tasks.{home, is_ended, ends, joined_by, spawns}
use Rattle.world_model.specs.TaskConditions.{last_entry}
use Rattle.world_model.specs.Replies.{is_legal_world, is_accepted}
use Rattle.world_model.proofs.AgentOfTask.{touches}
use Rattle.world_model.proofs.UntouchedStays.{IsAlike, alike, alike_single, not_joined}
use Rattle.world_model.proofs.OthersLeave.{due_other, last_other}
use Rattle.world_model.proofs.OpenFinishes.{opens_by_others, home_later}
use Rattle.world_model.proofs.LeavesAtEnds.{root_owner}
use Rattle.world_model.proofs.PhasersLegal.{new_past}
use Rattle.world_model.proofs.RegistrationsStand.{enclosing_later}
use Rattle.trace_walk.specs.Going.{does}
use Rattle.trace_walk.specs.Walking.{Does}
use Rattle.trace_walk.specs.Scripts.{act_of, is_of, parent_by}
use Rattle.run_laws.specs.Telling.{told}

-- what a task has on a phaser, and what the phaser is where the task is on it
pub record IsKept (t n : ℕ) (v w : List WorldEvent) : Type 0 where
  pub same : IsAlike t (phaser_past n v) (phaser_past n w)
  pub terms : is_registered t (phaser_past n v) ≡ true → terms_of n v ≡ terms_of n w
  pub scope : is_registered t (phaser_past n v) ≡ true → enclosing n v ≡ enclosing n w

pub record IsSame {B : Type 0} (next : Answer → B → Does B) (root : B) (t : ℕ) (v w : List WorldEvent) : Type 0 where
  pub ended : is_ended t v ≡ is_ended t w
  pub doing : does next root v t ≡ does next root w t
  pub waiting : due t v ≡ due t w
  pub last : last_entry t v ≡ last_entry t w
  pub said : told t v ≡ told t w
  pub opens : open_finishes t v ≡ open_finishes t w
  pub lives : home t v ≡ home t w
  pub joins : filter_map (joined_by t) v ≡ filter_map (joined_by t) w
  pub on : (n : ℕ) → IsKept t n v w

alike_back : (t : ℕ) (g h : List Event) → IsAlike t g h → IsAlike t h g
alike_back t g h a =
    record {
      registered = sym a.registered;
      live = sym a.live;
      mode = sym a.mode;
      waited = sym a.waited;
      signalled = sym a.signalled;
    }

alike_on : (t : ℕ) (f g h : List Event) → IsAlike t f g → IsAlike t g h → IsAlike t f h
alike_on t f g h a b =
    record {
      registered = a.registered ∙ b.registered;
      live = a.live ∙ b.live;
      mode = a.mode ∙ b.mode;
      waited = a.waited ∙ b.waited;
      signalled = a.signalled ∙ b.signalled;
    }

pub kept_back : (t n : ℕ) (v w : List WorldEvent) → IsKept t n v w → IsKept t n w v
kept_back t n v w k =
    record {
      same = alike_back t (phaser_past n v) (phaser_past n w) k.same;
      terms = λ r. sym (k.terms (k.same.registered ∙ r));
      scope = λ r. sym (k.scope (k.same.registered ∙ r));
    }

pub kept_on : (t n : ℕ) (u v w : List WorldEvent) → IsKept t n u v → IsKept t n v w → IsKept t n u w
kept_on t n u v w k m =
    record {
      same = alike_on t (phaser_past n u) (phaser_past n v) (phaser_past n w) k.same m.same;
      terms = λ r. k.terms r ∙ m.terms (sym k.same.registered ∙ r);
      scope = λ r. k.scope r ∙ m.scope (sym k.same.registered ∙ r);
    }

-- where the task was on the phaser, the phaser was there
there : (t : ℕ) (h : List Event) → is_registered t h ≡ true → not (is_empty h) ≡ true
there t [] r = absurd (false≢true r)
there t (e ∷ h) r = refl

terms_later : (l : Limits) (n : ℕ) (e : WorldEvent) (w : List WorldEvent) → is_accepted l w e ≡ true
    → is_phaser n w ≡ true → terms_of n (e ∷ w) ≡ terms_of n w
terms_later l n (Phaser m (Make u mode terms)) w a k =
    elim (cases_Bool (m == n)) [
      | inl s ↦
          absurd (true≢false (sym k ∙ subst (λ v. is_phaser v w ≡ false) (eqb-true m n s)
          (ap (λ h. not (is_empty h)) (new_past l w m u mode terms a))))
      | inr s ↦ rw s refl
    ]
terms_later l n e w a k = refl

-- what is alike after an event is kept
kept_by : (l : Limits) (t n : ℕ) (e : WorldEvent) (w : List WorldEvent) → is_accepted l w e ≡ true
    → IsAlike t (phaser_past n (e ∷ w)) (phaser_past n w) → IsKept t n w (e ∷ w)
kept_by l t n e w a s =
    record {
      same = alike_back t (phaser_past n (e ∷ w)) (phaser_past n w) s;
      terms = λ r. sym (terms_later l n e w a (there t (phaser_past n w) r));
      scope = λ r. sym (enclosing_later l n e w a (there t (phaser_past n w) r));
    }

-- the event is none of t's, and not about it
pub record IsOther (t : ℕ) (e : WorldEvent) (w : List WorldEvent) : Type 0 where
  pub maker : (actor w e == t) ≡ false
  pub touch : touches t e ≡ false
  pub birth : spawns t e ≡ false
  pub child : parent_by t e ≡ None

no_end : (l : Limits) (t : ℕ) (e : WorldEvent) (w : List WorldEvent) → is_legal_world l w ≡ true
    → (actor w e == t) ≡ false → ends t e ≡ false
no_end l t (Finish f (Ended u)) w k o = o
no_end l t (Finish f Shutting) w k o =
    false_from_ne_true (f == 0 && t == 0) (λ b.
    let p = and_parts (f == 0) (t == 0) b in
    let mine : owner f w ≡ t =
    ap (λ x. owner x w) (eqb-true f 0 p.0) ∙ (root_owner l w k ∙ sym (eqb-true t 0 p.1)) in
    true≢false (sym (eq-eqb (owner f w) t mine) ∙ o))
no_end l t e w k o = refl

pub not_of : (t : ℕ) (e : WorldEvent) (w : List WorldEvent) → (actor w e == t) ≡ false
    → is_of t (act_of e) ≡ false
not_of t (Phaser n (Make u m terms)) w o = o
not_of t (Phaser n (Send u a v)) w o = o
not_of t (Phaser n (Look u a)) w o = o
not_of t (Finish f (Opened u)) w o = o
not_of t (Begin u b) w o = o
not_of t (Refuse u a x) w o = o
not_of t e w o = refl

module _ {B : Type 0} (next : Answer → B → Does B) (root : B) where
  pub same_back : (t : ℕ) (v w : List WorldEvent) → IsSame next root t v w → IsSame next root t w v
  same_back t v w s =
      record {
        ended = sym s.ended;
        doing = sym s.doing;
        waiting = sym s.waiting;
        last = sym s.last;
        said = sym s.said;
        opens = sym s.opens;
        lives = sym s.lives;
        joins = sym s.joins;
        on = λ n. kept_back t n v w (s.on n);
      }

  pub same_on : (t : ℕ) (u v w : List WorldEvent) → IsSame next root t u v → IsSame next root t v w
      → IsSame next root t u w
  same_on t u v w s r =
      record {
        ended = s.ended ∙ r.ended;
        doing = s.doing ∙ r.doing;
        waiting = s.waiting ∙ r.waiting;
        last = s.last ∙ r.last;
        said = s.said ∙ r.said;
        opens = s.opens ∙ r.opens;
        lives = s.lives ∙ r.lives;
        joins = s.joins ∙ r.joins;
        on = λ n. kept_on t n u v w (s.on n) (r.on n);
      }

  -- what others do leaves a task as it was
  pub others_leave : (l : Limits) (t : ℕ) (e : WorldEvent) (w : List WorldEvent) → is_legal_world l w ≡ true
      → is_accepted l w e ≡ true → IsOther t e w → IsSame next root t w (e ∷ w)
  others_leave l t e w k a o =
      record {
        ended = rw (no_end l t e w k o.maker) refl;
        doing = rw (o.child, not_of t e w o.maker) refl;
        waiting = sym (due_other t e w o.maker);
        last = sym (last_other t e w o.maker);
        said = rw o.maker refl;
        opens = sym (opens_by_others l w k t e o.maker);
        lives = sym (home_later l w k t e o.birth);
        joins = rw (not_joined t e o.touch) refl;
        on = λ n. kept_by l t n e w a (alike t n e w o.touch);
      }

  -- and so do claims and their reports, its own too
  pub singles_leave : (l : Limits) (t : ℕ) (e : WorldEvent) (w : List WorldEvent) → is_legal_world l w ≡ true
      → is_accepted l w e ≡ true → is_of_single e ≡ true → IsSame next root t w (e ∷ w)
  singles_leave l t (Phaser m (Claim u)) w k a s =
      record {
        ended = refl;
        doing = refl;
        waiting = rw (and_right (u == t) false refl) refl;
        last = refl;
        said = rw (and_right (u == t) false refl) refl;
        opens = refl;
        lives = refl;
        joins = refl;
        on = λ n. kept_by l t n (Phaser m (Claim u)) w a (alike_single t n (Phaser m (Claim u)) w s);
      }
  singles_leave l t (Phaser m (Did u)) w k a s =
      record {
        ended = refl;
        doing = refl;
        waiting = rw (and_right (u == t) false refl) refl;
        last = refl;
        said = rw (and_right (u == t) false refl) refl;
        opens = refl;
        lives = refl;
        joins = refl;
        on = λ n. kept_by l t n (Phaser m (Did u)) w a (alike_single t n (Phaser m (Did u)) w s);
      }
  singles_leave l t e w k a s = absurd (false≢true s)
