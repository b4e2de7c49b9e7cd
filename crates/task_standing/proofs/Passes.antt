-- A task's own pass takes the mark off, and a turn comes to its next phaser.
use Rattle.std.proofs.Common.{◌≡◌, ℕ, zero, suc, ◌+◌, ◌<◌, ◌≤◌, ◌==◌, Bool, true, false, ◌&&◌, not, min, List, [], ◌∷◌, ◌++◌, map, drop, filter, length, Option, refl, sym, ap, subst, ◌∙◌, inl, inr, arith}
use Rattle.std.proofs.lemmas.Bool.{cases_Bool, eqb-true, eq-eqb, and_parts}
use Rattle.phase_modes.specs.declared.limits.Limits.{Limits}
use Rattle.phase_modes.specs.Mode.{can_signal}
use Rattle.phase_model.specs.declared.history.Event.TheVariants.{Pass as Passed}
use Rattle.phase_model.specs.Tasks.{has_mode}
use Rattle.phase_model.specs.Phases.{waits, signals}
use Rattle.phase_model.specs.Rules.{is_permitted, has_room}
use Rattle.phase_model.proofs.Legal.{PassFollows, pass_follows}
use Rattle.world_model.specs.declared.event.Step.TheVariants.{Pass}
use Rattle.world_model.specs.declared.event.WorldEvent.{WorldEvent}
use Rattle.world_model.specs.declared.event.WorldEvent.TheVariants.{Phaser}
use Rattle.world_model.specs.Parts.{phaser_past, terms_of}
use Rattle.world_model.specs.Tasks.{phasers_of}
use Rattle.world_model.specs.Replies.{is_legal_world, is_accepted}
use Rattle.world_model.proofs.MadeMeans.{last_accepted, part_made}
use Rattle.world_model.proofs.PhasersLegal.{step_allowed}
use Rattle.world_model.proofs.HeldAreFew.{phasers_held_are_few}
use Rattle.world_model.proofs.SmallWords.{eq_self, cons_parts}
use Rattle.task_standing.specs.declared.held.Held.{Held}
use Rattle.task_standing.specs.declared.plan.Plan.{Plan}
use Rattle.task_standing.specs.declared.plan.Plan.TheVariants as plan
use Rattle.task_standing.specs.Known.{Known}
use Rattle.task_standing.specs.Standing.{marked, owes, passed_by}
use Rattle.task_standing.specs.StillToMake.{planned, signals_of, passes_of}
use Rattle.task_standing.specs.Histories.{held_in, IsOf}
use Rattle.task_standing.specs.Laws.{PassUnmarks}
use Rattle.task_standing.proofs.Plain.{swapped, next_fits}
use Rattle.task_standing.proofs.Kept.{map_same, phasers_like, live_by}
use Rattle.task_standing.proofs.Marks.{map_after, passes_kept, drop_map}
use Rattle.task_standing.proofs.Starts.{starts, never_starts, spawning_not, shutting_not, ending_not, Continues, continuing}

module _ (l : Limits) (w : List WorldEvent) (n t : ℕ) (a : is_accepted l w (Phaser n (Pass t)) ≡ true) where
  follows : PassFollows (phaser_past n w) t
  follows =
      let h = phaser_past n w in
      pass_follows l (terms_of n w) h t
      (and_parts (is_permitted l (terms_of n w) h (Passed t)) (has_room l (Passed t ∷ h)) (step_allowed l w n (Pass t) a)).0

  level : (b : Bool) (x y : ℕ) → (b ≡ true → x ≡ y) → false ≡ (b && not (x == y))
  level true x y s = ap (λ c. not c) (sym (eq-eqb x y (s refl)))
  level false x y s = refl

  unmarked_here : marked n false (held_in w t n) ≡ held_in (Phaser n (Pass t) ∷ w) t n
  unmarked_here =
      let h = phaser_past n w in
      let behind : false ≡ (has_mode can_signal t h && not (signals t h == waits t h + 1)) =
      level (has_mode can_signal t h) (signals t h) (waits t h + 1) follows.signalled in
      rw (eq_self n, eq_self t) (ap (λ b. record (held_in w t n) { ahead = b }) behind)

  pub unmarked_by : (m : ℕ) → marked n false (held_in w t m) ≡ held_in (Phaser n (Pass t) ∷ w) t m
  unmarked_by m =
      elim (cases_Bool (m == n)) [
        | inl s ↦ subst (λ i. marked n false (held_in w t i) ≡ held_in (Phaser n (Pass t) ∷ w) t i) (sym (eqb-true m n s)) unmarked_here
        | inr s ↦ rw (s, swapped m n s) refl
      ]

abbrev is_passing : WorldEvent → Bool
is_passing (Phaser n (Pass t)) = true
is_passing _ = false

-- the passes from a place on, the first of which is made
next_passes : (t : ℕ) (hs : List Held) (rest : List WorldEvent) (e : WorldEvent) → passes_of t hs ≡ e ∷ rest
    → rest ≡ passes_of t (drop 1 hs)
next_passes t [] rest e h = absurd cc
next_passes t (x ∷ hs) rest e h = sym (cons_parts (Phaser x.phaser (Pass t)) e (passes_of t hs) rest h).1

drop_one : (next : ℕ) (hs : List Held) → drop 1 (drop next hs) ≡ drop (next + 1) hs
drop_one zero hs = refl
drop_one (suc next) [] = let e : suc next + 1 ≡ suc (next + 1) = omega arith in ap (λ i. drop i []) (sym e)
drop_one (suc next) (h ∷ hs) =
    let e : suc next + 1 ≡ suc (next + 1) = omega arith in
    drop_one next hs ∙ ap (λ i. drop i (h ∷ hs)) (sym e)

is_within : (t next : ℕ) (hs : List Held) (rest : List WorldEvent) (e : WorldEvent) → passes_of t (drop next hs) ≡ e ∷ rest
    → next < length hs
is_within t next [] rest e h = none next h
  where
    none : (i : ℕ) → passes_of t (drop i []) ≡ e ∷ rest → i < 0
    none zero h = absurd cc
    none (suc i) h = absurd cc
is_within t zero (x ∷ hs) rest e h = omega arith
is_within t (suc next) (x ∷ hs) rest e h = omega (arith, is_within t next hs rest e h)

not_signalled : (t n u : ℕ) (y : Option ℕ) (fs : List Held) (ps rest : List WorldEvent)
    → signals_of t y fs ++ ps ≡ Phaser n (Pass u) ∷ rest → ps ≡ Phaser n (Pass u) ∷ rest
not_signalled t n u y [] ps rest e = e
not_signalled t n u y (f ∷ fs) ps rest e = absurd cc

module _ (k : Known) (n : ℕ) (rest : List WorldEvent) (few : length k.holding ≤ 16) where
  abbrev after : Plan → Known
  after p = record k { plan = passed_by p; holding = map (marked n false) k.holding }

  other : (p : Plan) → planned k p ≡ Phaser n (Pass k.number) ∷ rest → starts is_passing (planned k p) ≡ false
      → rest ≡ planned (after p) (passed_by p)
  other p e s = absurd (never_starts is_passing (planned k p) rest (Phaser n (Pass k.number)) e refl s)

  -- what is left from the next place on
  from_next : (next : ℕ) → passes_of k.number (drop next k.holding) ≡ Phaser n (Pass k.number) ∷ rest
      → rest ≡ passes_of k.number (drop (next + 1) (map (marked n false) k.holding))
  from_next next e =
      next_passes k.number (drop next k.holding) rest (Phaser n (Pass k.number)) e
      ∙ (ap (λ hs. passes_of k.number hs) (drop_one next k.holding)
      ∙ (sym (passes_kept k.number n false (drop (next + 1) k.holding))
      ∙ ap (λ hs. passes_of k.number hs) (sym (drop_map (marked n false) (next + 1) k.holding))))

  passed_plan : (p : Plan) → planned k p ≡ Phaser n (Pass k.number) ∷ rest → rest ≡ planned (after p) (passed_by p)
  passed_plan plan.Idle e = absurd cc
  passed_plan (plan.Signalling y true) e =
      from_next 0 (not_signalled k.number n k.number y (filter owes k.holding) (passes_of k.number k.holding) rest e)
  passed_plan (plan.Signalling y false) e =
      other (plan.Signalling y false) e
      (starts_none (filter owes k.holding))
    where
      starts_none : (fs : List Held) → starts is_passing (signals_of k.number y fs ++ []) ≡ false
      starts_none [] = refl
      starts_none (f ∷ fs) = refl
  passed_plan (plan.Turning next) e =
      let within : next < length k.holding = is_within k.number next k.holding rest (Phaser n (Pass k.number)) e in
      let small : min (next + 1) 4294967295 ≡ next + 1 = next_fits next (length k.holding) within few in
      from_next next e ∙ ap (λ i. passes_of k.number (drop i (map (marked n false) k.holding))) (sym small)
  passed_plan (plan.Spawning c pairs made) e =
      other (plan.Spawning c pairs made) e (spawning_not is_passing k c pairs made (λ q. refl) (λ f. refl))
  passed_plan plan.Shutting e = other plan.Shutting e (shutting_not is_passing k (λ m. refl) (λ f. refl))
  passed_plan plan.Ending e = other plan.Ending e (ending_not is_passing k (λ m. refl) (λ f. refl) (λ f u. refl))

length_held : (w : List WorldEvent) (t : ℕ) (ns : List ℕ) → length (map (held_in w t) ns) ≡ length ns
length_held w t [] = refl
length_held w t (n ∷ ns) = ap (λ i. suc i) (length_held w t ns)

-- a task holds few phasers
pub held_few : (l : Limits) (w : List WorldEvent) (k : Known) → is_legal_world l w ≡ true → IsOf w k
    → length k.holding ≤ 16
held_few l w k legal st =
    subst (λ i. i ≤ 16) (sym (ap (λ hs. length hs) st.holding ∙ length_held w k.number (phasers_of k.number w)))
    (phasers_held_are_few l w legal k.number)

pub pass_unmarks : PassUnmarks
pass_unmarks l w k n legal st =
    let e = Phaser n (Pass k.number) in
    let t = k.number in
    let a = last_accepted l e w legal in
    let c : Continues t e w = continuing l e w t refl (part_made l w e a.0).0 refl refl in
    let kept : phasers_of t (e ∷ w) ≡ phasers_of t w = phasers_like t e w refl (λ m. live_by t n m (Pass t) w refl) in
    record {
      of = record {
        holding =
            ap (λ hs. map (marked n false) hs) st.of.holding
            ∙ (map_after (marked n false) (held_in w t) (phasers_of t w)
            ∙ (map_same (λ m. marked n false (held_in w t m)) (held_in (e ∷ w) t) (phasers_of t w) (λ m h. unmarked_by l w n t a.0 m)
            ∙ ap (λ ns. map (held_in (e ∷ w) t) ns) (sym kept)));
        finishes = st.of.finishes;
        home = st.of.home;
        acts = st.of.acts;
      };
      due_is = c.after ∙ passed_plan k n c.rest (held_few l w k a.1 st.of) k.plan (sym st.due_is ∙ c.before);
    }
