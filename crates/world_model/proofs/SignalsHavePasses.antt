-- In a turn, as long as a signal is due on a phaser, so is the pass of it: a task that signals has passed nothing.
use Rattle.std.proofs.Common.{◌≡◌, ℕ, Bool, true, false, ◌&&◌, not, List, [], ◌∷◌, ◌++◌, Option, Some, None, refl, sym, ap, ◌∙◌, inl, inr}
use Rattle.std.specs.Prelude.{drop, filter}
use Rattle.std.specs.List.{list_any}
use Rattle.std.proofs.lemmas.Bool.{and_parts, or_cases, or_right, cases_Bool, not-true, true≢false, false≢true}
use Rattle.std.proofs.lemmas.List.Folds.{list_any-append}
use Rattle.phase_modes.specs.Lists.{is_empty}
use Rattle.phase_modes.specs.declared.limits.Limits.{Limits}
use Rattle.phase_model.proofs.LiveTasks.{has, has-filter}
use Rattle.world_model.specs.declared.event.Step.TheVariants.{Pass}
use Rattle.world_model.specs.declared.event.Begun.{Begun}
use Rattle.world_model.specs.declared.event.Begun.TheVariants.{Wait, Next, NextSingle}
use Rattle.world_model.specs.declared.event.WorldEvent.{WorldEvent}
use Rattle.world_model.specs.declared.event.WorldEvent.TheVariants.{Phaser, Finish, Begin, Refuse, Fail}
use Rattle.world_model.specs.Parts.{phaser_past}
use Rattle.world_model.specs.Tasks.{phasers_of}
use Rattle.world_model.specs.Due.{due, fixed, fixed_by, is_entry, is_behind}
use Rattle.world_model.specs.Clock.{is_turn}
use Rattle.world_model.specs.Replies.{is_legal_world}
use Rattle.world_model.specs.TaskConditions.{last_entry}
use Rattle.world_model.specs.ClockLaws.{begins_turn, has_passed, is_pass_on}
use Rattle.world_model.proofs.DueHolds.{due_has}
use Rattle.world_model.proofs.SignalsComeFirst.{moves_act, is_any_sig, sigs_first, Moves, less_moves, entry_moves, passes_of, sigs_of}
use Rattle.world_model.proofs.TurnsStand.{is_sig_on, sigs_there, sigs_not, passes_there}
use Rattle.world_model.proofs.TurnsStandAlways.{any_sig}

pub turn_moves : (o : Option WorldEvent) → begins_turn o ≡ true → moves_act o ≡ true
turn_moves (Some (Begin u Wait)) s = refl
turn_moves (Some (Begin u Next)) s = refl
turn_moves (Some (Begin u (NextSingle x))) s = refl
turn_moves o s = absurd cc

-- each signal that is due has the pass of its phaser after it
record Followed (t : ℕ) (ds : List WorldEvent) : Type 0 where
  pub moves : Moves t ds
  pub passes : (n : ℕ) → list_any (is_sig_on n) ds ≡ true → list_any (is_pass_on n) ds ≡ true

less_followed : (t : ℕ) (ds : List WorldEvent) → Followed t ds → Followed t (drop 1 ds)
less_followed t [] p = p
less_followed t (d ∷ ds) p =
    record { moves = less_moves t (d ∷ ds) p.moves; passes = λ n h. later d n h p.moves.first (p.passes n) }
  where
    later : (d : WorldEvent) (n : ℕ) → list_any (is_sig_on n) ds ≡ true → sigs_first (d ∷ ds) ≡ true
        → (list_any (is_sig_on n) (d ∷ ds) ≡ true → list_any (is_pass_on n) (d ∷ ds) ≡ true)
        → list_any (is_pass_on n) ds ≡ true
    later (Phaser m (Pass u)) n h f q =
        absurd (true≢false (sym (any_sig t [] ds n n ds h)
        ∙ not-true (list_any is_any_sig ds) (and_parts (not (list_any is_any_sig ds)) (sigs_first ds) f).0))
    later d n h f q = q (or_right (is_sig_on n d) (list_any (is_sig_on n) ds) h)

-- signals on some phasers of a list, and passes on all of it
both_followed : (t n : ℕ) (x : Option ℕ) (p : ℕ → Bool) (ns : List ℕ)
    → list_any (is_sig_on n) (sigs_of t x (filter p ns) ++ passes_of t ns) ≡ true
    → list_any (is_pass_on n) (sigs_of t x (filter p ns) ++ passes_of t ns) ≡ true
both_followed t n x p ns h =
    let sigs = sigs_of t x (filter p ns) in
    elim (or_cases (list_any (is_sig_on n) sigs) (list_any (is_sig_on n) (passes_of t ns))
    (sym (list_any-append (is_sig_on n) sigs (passes_of t ns)) ∙ h)) [
      | inr y ↦ absurd (true≢false (sym y ∙ sigs_not t n ns))
      | inl y ↦
          let listed =
          (and_parts (p n) (has n ns) (sym (has-filter p n ns) ∙ (sym (sigs_there t n x (filter p ns)) ∙ y))).1 in
          list_any-append (is_pass_on n) sigs (passes_of t ns)
          ∙ or_right (list_any (is_pass_on n) sigs) (list_any (is_pass_on n) (passes_of t ns))
          (passes_there t n ns ∙ listed)
    ]

fixed_followed : (t n : ℕ) (b : Begun) (w : List WorldEvent) → is_turn b ≡ true
    → list_any (is_sig_on n) (fixed_by t b w) ≡ true → list_any (is_pass_on n) (fixed_by t b w) ≡ true
fixed_followed t n Wait w k h = absurd (true≢false (sym h ∙ sigs_not t n (phasers_of t w)))
fixed_followed t n Next w k h =
    both_followed t n None (λ m. is_behind t (phaser_past m w)) (phasers_of t w) h
fixed_followed t n (NextSingle x) w k h =
    both_followed t n (Some x) (λ m. is_behind t (phaser_past m w)) (phasers_of t w) h
fixed_followed t n b w k h = absurd cc

entry_followed : (l : Limits) (t : ℕ) (e : WorldEvent) (w : List WorldEvent) → is_legal_world l (e ∷ w) ≡ true
    → is_entry t e ≡ true → begins_turn (Some e) ≡ true → Followed t (fixed e w)
entry_followed l t (Begin u b) w k n q =
    record {
      moves = entry_moves l t (Begin u b) w k n (turn_moves (Some (Begin u b)) q);
      passes = λ m h. fixed_followed u m b w q h;
    }
entry_followed l t (Refuse u b x) w k n q = absurd cc
entry_followed l t (Fail u x) w k n q = absurd cc
entry_followed l t (Phaser m s) w k n q = absurd cc
entry_followed l t (Finish f s) w k n q = absurd cc

-- where a signal on n is due, n isn't passed yet in the turn, if there is one
pub signal_before_pass : (l : Limits) (t n : ℕ) (w : List WorldEvent) → is_legal_world l w ≡ true
    → list_any (is_sig_on n) (due t w) ≡ true → has_passed t n w ≡ false
signal_before_pass l t n w k h =
    elim (cases_Bool (begins_turn (last_entry t w))) [
      | inr q ↦ ap (λ b. b && not (is_empty (due t w)) && not (list_any (is_pass_on n) (due t w))) q
      | inl q ↦
          let p : Followed t (due t w) =
          due_has l t begins_turn (Followed t)
          (record { moves = record { own = refl; first = refl; lone = refl }; passes = λ m y. absurd (false≢true y) })
          (less_followed t) (λ e v g x y. entry_followed l t e v g x y) w k q in
          not_passed (begins_turn (last_entry t w)) (is_empty (due t w)) (list_any (is_pass_on n) (due t w))
          (p.passes n h)
    ]
  where
    not_passed : (a b c : Bool) → c ≡ true → (a && not b && not c) ≡ false
    not_passed true true c x = refl
    not_passed true false c x = rw x refl
    not_passed false b c x = refl
