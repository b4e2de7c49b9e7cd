-- A task's own events that leave it alike on all its phasers: a single's claim and report, a value sent and a look.
use Rattle.std.proofs.Common.{◌≡◌, ℕ, ◌+◌, ◌<◌, ◌≤◌, ◌^◌, ◌==◌, Bool, true, false, min, cond, List, [], ◌∷◌, drop, refl, ap, ◌∙◌, arith}
use Rattle.std.proofs.lemmas.List.Sums.{sum_by-cons}
use Rattle.phase_modes.specs.declared.limits.Limits.{Limits}
use Rattle.phase_model.specs.declared.history.Event.{Event}
use Rattle.world_model.specs.declared.event.Step.TheVariants.{Claim, Did, Send, Look}
use Rattle.world_model.specs.declared.event.Tried.TheVariants.{Send as Sending, Look as Looking}
use Rattle.world_model.specs.declared.event.WorldEvent.{WorldEvent}
use Rattle.world_model.specs.declared.event.WorldEvent.TheVariants.{Phaser}
use Rattle.world_model.specs.Actors.{actor}
use Rattle.world_model.specs.Due.{due, is_entry, is_of_single, is_idle}
use Rattle.world_model.specs.Parts.{phaser_past, terms_of, event_for}
use Rattle.world_model.specs.Tasks.{acts, is_act}
use Rattle.world_model.specs.Replies.{is_legal_world}
use Rattle.world_model.proofs.AbleComputed.{idle_in_act}
use Rattle.world_model.proofs.AbruptEnds.{nothing_due}
use Rattle.world_model.proofs.ActsWithinLimits.{acts_within}
use Rattle.world_model.proofs.MadeMeans.{last_accepted}
use Rattle.world_model.proofs.OthersLeave.{due_own}
use Rattle.world_model.proofs.SmallWords.{eq_self, empty_is}
use Rattle.world_model.proofs.UntouchedStays.{IsAlike, alike_same, alike_single}
use Rattle.task_standing.specs.Known.{Known}
use Rattle.task_standing.specs.Histories.{IsOf}
use Rattle.task_standing.specs.Laws.{ActsFit, SinglesLeave, SendsAreActs, LooksAreActs}
use Rattle.task_standing.proofs.Kept.{holding_kept, phasers_like}

-- a single's claim and report leave all
pub singles_leave : SinglesLeave
singles_leave = record {
  claims = λ l w k n legal st.
      let e = Phaser n (Claim k.number) in
      let a = last_accepted l e w legal in
      let same = λ (m : ℕ). alike_single k.number m e w refl in
      record {
        of = record {
          holding = st.of.holding ∙ holding_kept l e w k.number a.0 a.1 (phasers_like k.number e w refl (λ m. (same m).live)) (λ m v. same m);
          finishes = st.of.finishes;
          home = st.of.home;
          acts = st.of.acts;
        };
        due_is = rw (eq_self k.number) st.due_is;
      };
  reports = λ l w k n legal st.
      let e = Phaser n (Did k.number) in
      let a = last_accepted l e w legal in
      let same = λ (m : ℕ). alike_single k.number m e w refl in
      record {
        of = record {
          holding = st.of.holding ∙ holding_kept l e w k.number a.0 a.1 (phasers_like k.number e w refl (λ m. (same m).live)) (λ m v. same m);
          finishes = st.of.finishes;
          home = st.of.home;
          acts = st.of.acts;
        };
        due_is = rw (eq_self k.number) st.due_is;
      };
}

-- an act that is counted is one more, and the count is within its type
pub one_act_more : (l : Limits) (e : WorldEvent) (w : List WorldEvent) (k : Known) → ActsFit l
    → is_legal_world l (e ∷ w) ≡ true → is_act k.number e ≡ true → IsOf w k
    → min (k.acts + 1) 18446744073709551615 ≡ acts k.number (e ∷ w)
one_act_more l e w k fit legal act st =
    let now : acts k.number (e ∷ w) ≡ 1 + acts k.number w =
    sum_by-cons (λ d. cond (is_act k.number d) 1 0) e w ∙ ap (λ b. cond b 1 0 + acts k.number w) act in
    least k.acts (acts k.number w) (acts k.number (e ∷ w)) l.acts st.acts now (acts_within l (e ∷ w) legal k.number) fit
  where
    least : (x y z i : ℕ) → x ≡ y → z ≡ 1 + y → z ≤ i → i < 2 ^ 64 → min (x + 1) 18446744073709551615 ≡ z
    least x y z i e f g h = omega (arith, e, f, g, h)

-- who tries an act has nothing due, and has nothing after it if it is of one event
pub idle_after : (t : ℕ) (e : WorldEvent) (w : List WorldEvent) → is_idle t w ≡ true → is_entry t e ≡ false
    → (actor w e == t) ≡ true → is_of_single e ≡ false → due t (e ∷ w) ≡ []
idle_after t e w i n m s =
    due_own t e w n m s ∙ ap (λ ds. drop 1 ds) (empty_is (due t w) (nothing_due t w i).0)

alike_by : (b : Bool) (t : ℕ) (e : Event) (h : List Event) → IsAlike t (e ∷ h) h → IsAlike t (cond b (e ∷ h) h) h
alike_by true t e h k = k
alike_by false t e h k = alike_same t h

pub sends_are_acts : SendsAreActs
sends_are_acts l w k n i v fit legal st =
    let t = k.number in
    let e = Phaser n (Send t i v) in
    let a = last_accepted l e w legal in
    let same : (m : ℕ) → IsAlike t (phaser_past m (e ∷ w)) (phaser_past m w) =
    λ m. alike_by (n == m) t (event_for (terms_of m w) (phaser_past m w) (Send t i v)) (phaser_past m w)
    (record { registered = refl; live = refl; mode = refl; waited = refl; signalled = refl }) in
    record {
      of = record {
        holding = st.of.holding ∙ holding_kept l e w t a.0 a.1 (phasers_like t e w refl (λ m. (same m).live)) (λ m x. same m);
        finishes = st.of.finishes;
        home = st.of.home;
        acts = one_act_more l e w k fit legal (eq_self t) st.of;
      };
      due_is = idle_after t e w (idle_in_act l w t (Sending n i v) a.0) refl (eq_self t) refl;
    }

pub looks_are_acts : LooksAreActs
looks_are_acts l w k n i fit legal st =
    let t = k.number in
    let e = Phaser n (Look t i) in
    let a = last_accepted l e w legal in
    let same : (m : ℕ) → IsAlike t (phaser_past m (e ∷ w)) (phaser_past m w) =
    λ m. alike_by (n == m) t (event_for (terms_of m w) (phaser_past m w) (Look t i)) (phaser_past m w)
    (record { registered = refl; live = refl; mode = refl; waited = refl; signalled = refl }) in
    record {
      of = record {
        holding = st.of.holding ∙ holding_kept l e w t a.0 a.1 (phasers_like t e w refl (λ m. (same m).live)) (λ m x. same m);
        finishes = st.of.finishes;
        home = st.of.home;
        acts = one_act_more l e w k fit legal (eq_self t) st.of;
      };
      due_is = idle_after t e w (idle_in_act l w t (Looking n i) a.0) refl (eq_self t) refl;
    }
