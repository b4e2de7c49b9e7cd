-- A task's own signal marks that it is ahead.
use Rattle.std.proofs.Common.{◌≡◌, ℕ, ◌+◌, ◌≤◌, ◌==◌, Bool, true, false, ◌&&◌, not, List, [], ◌∷◌, ◌++◌, map, filter, Option, refl, sym, ap, subst, ◌∙◌, inl, inr, arith}
use Rattle.std.proofs.lemmas.Bool.{cases_Bool, eqb-true, and_parts, false_from_ne_true}
use Rattle.phase_modes.specs.declared.limits.Limits.{Limits}
use Rattle.phase_modes.specs.Mode.{can_signal}
use Rattle.phase_model.specs.declared.history.Event.TheVariants.{Sig as Signed}
use Rattle.phase_model.specs.Tasks.{is_live, has_mode}
use Rattle.phase_model.specs.Phases.{waits, signals}
use Rattle.phase_model.specs.Rules.{is_permitted, has_room}
use Rattle.phase_model.proofs.Legal.{SigFollows, sig_follows}
use Rattle.world_model.specs.declared.event.Step.TheVariants.{Sig}
use Rattle.world_model.specs.declared.event.WorldEvent.{WorldEvent}
use Rattle.world_model.specs.declared.event.WorldEvent.TheVariants.{Phaser}
use Rattle.world_model.specs.Parts.{phaser_past, terms_of}
use Rattle.world_model.specs.Tasks.{phasers_of}
use Rattle.world_model.specs.Replies.{is_legal_world, is_accepted}
use Rattle.world_model.proofs.MadeMeans.{last_accepted, part_made}
use Rattle.world_model.proofs.PhasersLegal.{step_allowed}
use Rattle.world_model.proofs.PhasersOnce.{times, phasers_once}
use Rattle.world_model.proofs.SmallWords.{eq_self}
use Rattle.task_standing.specs.declared.held.Held.{Held}
use Rattle.task_standing.specs.declared.plan.Plan.{Plan}
use Rattle.task_standing.specs.declared.plan.Plan.TheVariants as plan
use Rattle.task_standing.specs.Known.{Known}
use Rattle.task_standing.specs.Standing.{marked, owes}
use Rattle.task_standing.specs.StillToMake.{planned, signals_of, passes_of}
use Rattle.task_standing.specs.Histories.{held_in, IsOf}
use Rattle.task_standing.specs.Laws.{SignalMarks}
use Rattle.task_standing.proofs.Plain.{one_at_most, swapped}
use Rattle.task_standing.proofs.Kept.{map_same, phasers_like, live_by}
use Rattle.task_standing.proofs.Marks.{numbers, numbers_held, map_after, owed_less, passes_kept}
use Rattle.task_standing.proofs.Starts.{starts, never_starts, turning_not, spawning_not, shutting_not, ending_not, Continues, continuing}

-- no phaser is held twice
pub held_once : (l : Limits) (w : List WorldEvent) (k : Known) → is_legal_world l w ≡ true → IsOf w k → (n : ℕ)
    → times n (numbers k.holding) ≤ 1
held_once l w k legal st n =
    subst (λ ns. times n ns ≤ 1) (sym (ap numbers st.holding ∙ numbers_held w k.number (phasers_of k.number w)))
    (subst (λ x. x ≤ 1) (sym (phasers_once l w legal k.number n)) (one_at_most (is_live k.number (phaser_past n w))))

more_than : (n : ℕ) → (n + 1 == n) ≡ false
more_than n = false_from_ne_true (n + 1 == n) (λ e. more n (eqb-true (n + 1) n e))
  where
    more : (n : ℕ) → n + 1 ≡ n → ⊥
    more n h = omega (arith, h)

module _ (l : Limits) (w : List WorldEvent) (n t : ℕ) (x : Option ℕ) (a : is_accepted l w (Phaser n (Sig t x)) ≡ true) where
  follows : SigFollows (phaser_past n w) t x
  follows =
      let h = phaser_past n w in
      sig_follows l (terms_of n w) h t x
      (and_parts (is_permitted l (terms_of n w) h (Signed t x)) (has_room l (Signed t x ∷ h)) (step_allowed l w n (Sig t x) a)).0

  marked_here : marked n true (held_in w t n) ≡ held_in (Phaser n (Sig t x) ∷ w) t n
  marked_here =
      let h = phaser_past n w in
      let leads : true ≡ (has_mode can_signal t h && not (signals t h + 1 == waits t h)) =
      rw (follows.signaller, follows.behind, more_than (waits t h)) refl in
      rw (eq_self n, eq_self t) (ap (λ b. record (held_in w t n) { ahead = b }) leads)

  pub marked_by : (m : ℕ) → marked n true (held_in w t m) ≡ held_in (Phaser n (Sig t x) ∷ w) t m
  marked_by m =
      elim (cases_Bool (m == n)) [
        | inl s ↦ subst (λ i. marked n true (held_in w t i) ≡ held_in (Phaser n (Sig t x) ∷ w) t i) (sym (eqb-true m n s)) marked_here
        | inr s ↦ rw (s, swapped m n s) refl
      ]

abbrev is_signal : WorldEvent → Bool
is_signal (Phaser n (Sig t x)) = true
is_signal _ = false

no_signal_in : (t n u : ℕ) (x : Option ℕ) (hs : List Held) (es : List WorldEvent) → passes_of t hs ≡ Phaser n (Sig u x) ∷ es → ⊥
no_signal_in t n u x [] es e = absurd cc
no_signal_in t n u x (h ∷ hs) es e = absurd cc

module _ (k : Known) (n : ℕ) (x : Option ℕ) (rest : List WorldEvent) (once : times n (numbers k.holding) ≤ 1) where
  abbrev after : Known
  after = record k { holding = map (marked n true) k.holding }

  other : (p : Plan) → planned k p ≡ Phaser n (Sig k.number x) ∷ rest → starts is_signal (planned k p) ≡ false
      → rest ≡ planned after p
  other p e s = absurd (never_starts is_signal (planned k p) rest (Phaser n (Sig k.number x)) e refl s)

  signalled_plan : (p : Plan) → planned k p ≡ Phaser n (Sig k.number x) ∷ rest → rest ≡ planned after p
  signalled_plan plan.Idle e = absurd cc
  signalled_plan (plan.Signalling y true) e =
      sym (ap (λ ps. signals_of k.number y (filter owes (map (marked n true) k.holding)) ++ ps) (passes_kept k.number n true k.holding)
      ∙ owed_less k.number n k.number x y k.holding (passes_of k.number k.holding) rest once
      (no_signal_in k.number n k.number x k.holding) e)
  signalled_plan (plan.Signalling y false) e =
      sym (owed_less k.number n k.number x y k.holding [] rest once (λ es h. absurd cc) e)
  signalled_plan (plan.Turning next) e = other (plan.Turning next) e (turning_not is_signal k next (λ m. refl))
  signalled_plan (plan.Spawning c pairs made) e =
      other (plan.Spawning c pairs made) e (spawning_not is_signal k c pairs made (λ q. refl) (λ f. refl))
  signalled_plan plan.Shutting e = other plan.Shutting e (shutting_not is_signal k (λ m. refl) (λ f. refl))
  signalled_plan plan.Ending e = other plan.Ending e (ending_not is_signal k (λ m. refl) (λ f. refl) (λ f u. refl))

pub signal_marks : SignalMarks
signal_marks l w k n x legal st =
    let e = Phaser n (Sig k.number x) in
    let t = k.number in
    let a = last_accepted l e w legal in
    let c : Continues t e w = continuing l e w t refl (part_made l w e a.0).0 refl refl in
    let kept : phasers_of t (e ∷ w) ≡ phasers_of t w = phasers_like t e w refl (λ m. live_by t n m (Sig t x) w refl) in
    record {
      of = record {
        holding =
            ap (λ hs. map (marked n true) hs) st.of.holding
            ∙ (map_after (marked n true) (held_in w t) (phasers_of t w)
            ∙ (map_same (λ m. marked n true (held_in w t m)) (held_in (e ∷ w) t) (phasers_of t w) (λ m h. marked_by l w n t x a.0 m)
            ∙ ap (λ ns. map (held_in (e ∷ w) t) ns) (sym kept)));
        finishes = st.of.finishes;
        home = st.of.home;
        acts = st.of.acts;
      };
      due_is = c.after ∙ signalled_plan k n x c.rest (held_once l w k a.1 st.of n) k.plan (sym st.due_is ∙ c.before);
    }
