-- The clock law after each event that moves no clock, and after the making of a phaser.
use Rattle.phase_modes.specs.Lists.{is_empty}
use Rattle.std.proofs.Common.{◌≡◌, ℕ, ◌+◌, Bool, true, false, ◌&&◌, ◌||◌, ◌==◌, not, cond, List, [], ◌∷◌, Option, refl, sym, subst, ap, ◌∙◌, inl, inr, arith}
use Rattle.std.specs.Prelude.{ℤ}
use Rattle.std.specs.List.{list_any}
use Rattle.std.proofs.lemmas.Bool.{and_parts, or_cases, cases_Bool, eqb-true, true≢false}
use Rattle.phase_modes.specs.declared.reg.Mode.{Mode}
use Rattle.phase_modes.specs.declared.limits.Limits.{Limits}
use Rattle.phase_model.specs.declared.terms.Terms.{Terms}
use Rattle.phase_model.specs.declared.history.Event.{Event}
use Rattle.phase_model.specs.declared.history.Event.TheVariants.{Make as Made}
use Rattle.phase_model.specs.Tasks.{is_registered, is_dropped, is_live}
use Rattle.phase_model.specs.Phases.{waits}
use Rattle.finish_core.specs.declared.event.FinishEvent.TheVariants.{Opened, Ended, Shut as Shutting}
use Rattle.world_model.specs.declared.event.Step.{Step}
use Rattle.world_model.specs.declared.event.Step.TheVariants.{Make, Sig, Claim, Did, Send, Look, Drop}
use Rattle.world_model.specs.declared.event.Tried.TheVariants.{New, Open, Send as Sending, Look as Looking}
use Rattle.world_model.specs.declared.event.WorldEvent.{WorldEvent}
use Rattle.world_model.specs.declared.event.WorldEvent.TheVariants.{Phaser, Finish}
use Rattle.world_model.specs.Parts.{terms_of, phaser_past, event_for}
use Rattle.world_model.specs.Tasks.{is_born, spawns, spawner}
use Rattle.world_model.specs.Due.{due, is_entry, is_idle}
use Rattle.world_model.specs.Clock.{clock, base}
use Rattle.world_model.specs.Replies.{is_legal_world, is_accepted}
use Rattle.world_model.specs.TaskConditions.{last_entry}
use Rattle.world_model.specs.ClockLaws.{has_passed, begins_turn, is_pass_on, leads_to_end}
use Rattle.world_model.proofs.MadeMeans.{part_made}
use Rattle.world_model.proofs.AbleComputed.{idle_in_act}
use Rattle.world_model.proofs.OthersLeave.{last_plain}
use Rattle.world_model.proofs.PhasersLegal.{new_past}
use Rattle.world_model.proofs.ClockAfterPass.{ClockLaw}
use Rattle.world_model.proofs.ClockNeeds.{moved, passed_idle, passed_single, passed_part, passed_sig}
use Rattle.world_model.proofs.AbruptEnds.{nothing_due}
use Rattle.world_model.proofs.PassesInTurns.{idle_is_born}
use Rattle.world_model.proofs.SmallWords.{eq_self}

abbrev pub IsLiveOn : ℕ → ℕ → List WorldEvent → Type 0
IsLiveOn t n w = is_live t (phaser_past n w) ≡ true

-- the law of a task that was born, and of a child that wasn't
abbrev pub OfBorn : ℕ → ℕ → List WorldEvent → Type 0
OfBorn t n w = IsLiveOn t n w → is_born t w ≡ true → leads_to_end (last_entry t w) ≡ false → ClockLaw t n w

abbrev pub OfUnborn : ℕ → ℕ → List WorldEvent → Type 0
OfUnborn t n w =
    IsLiveOn t n w → is_born t w ≡ false → leads_to_end (last_entry (spawner t w) w) ≡ false
    → waits t (phaser_past n w) + base n w ≡ clock (spawner t w) w

abbrev pub Both : List WorldEvent → Type 0
Both w = ((t n : ℕ) → OfBorn t n w) × ((t n : ℕ) → OfUnborn t n w)

-- an event that leaves a task on a phaser as it was
pub waits_by : (b : Bool) (t : ℕ) (e : Event) (h : List Event) → waits t (e ∷ h) ≡ waits t h
    → waits t (cond b (e ∷ h) h) ≡ waits t h
waits_by true t e h k = k
waits_by false t e h k = refl

pub live_by : (b : Bool) (t : ℕ) (e : Event) (h : List Event) → (is_live t (e ∷ h) ≡ true
    → is_live t h ≡ true) → is_live t (cond b (e ∷ h) h) ≡ true → is_live t h ≡ true
live_by true t e h k g = k g
live_by false t e h k g = g

undropped : (a b c : Bool) → (a && not (b || c)) ≡ true → (a && not c) ≡ true
undropped true false c k = k
undropped true true c k = absurd cc
undropped false b c k = absurd cc

-- where nothing is due, no phaser has been passed in a turn
pub not_passed : (w : List WorldEvent) (t n : ℕ) → is_empty (due t w) ≡ true → has_passed t n w ≡ false
not_passed w t n d =
    rw d (elim (begins_turn (last_entry t w))
    as (λ b. (b && false && not (list_any (is_pass_on n) (due t w))) ≡ false) [
      | true ↦ refl
      | false ↦ refl
    ])

module _ (l : Limits) (w : List WorldEvent) (k : is_legal_world l w ≡ true) (before : Both w) where
  -- an event whose own parts of the law stay, for born tasks and for others
  module _ (e : WorldEvent) (plain : (t : ℕ) → is_entry t e ≡ false) (births : (t : ℕ) → spawns t e ≡ false)
      (live : (t n : ℕ) → IsLiveOn t n (e ∷ w) → IsLiveOn t n w)
      (same_waits : (t n : ℕ) → IsLiveOn t n w → waits t (phaser_past n (e ∷ w)) ≡ waits t (phaser_past n w))
      (same_base : (n : ℕ) → base n (e ∷ w) ≡ base n w)
      (same_clock : (t : ℕ) → clock t (e ∷ w) ≡ clock t w)
      (same_spawner : (t : ℕ) → spawner t (e ∷ w) ≡ spawner t w)
      (same_passed : (t n : ℕ) → has_passed t n (e ∷ w) ≡ has_passed t n w) where
    born_same : (t : ℕ) → is_born t (e ∷ w) ≡ is_born t w
    born_same t = ap (λ b. (t == 0) || (b || list_any (spawns t) w)) (births t)

    last_same : (t : ℕ) → last_entry t (e ∷ w) ≡ last_entry t w
    last_same t = last_plain t e w (plain t)

    kept : Both (e ∷ w)
    kept = (
      λ t n a b c.
          let a' = live t n a in
          moved t n e w (same_waits t n a') (same_base n) (same_clock t) (same_passed t n)
          (before.0 t n a' (sym (born_same t) ∙ b) (ap leads_to_end (sym (last_same t)) ∙ c)),
      λ t n a b c.
          let a' = live t n a in
          let s = same_spawner t in
          let d : leads_to_end (last_entry (spawner t w) w) ≡ false =
          ap leads_to_end (sym (last_same (spawner t w)))
          ∙ subst (λ q. leads_to_end (last_entry q (e ∷ w)) ≡ false) s c in
          rw (same_waits t n a', same_base n, s, same_clock (spawner t w))
          (before.1 t n a' (sym (born_same t) ∙ b) d),
    )

  abbrev added : ℕ → Step → Event
  added n s = event_for (terms_of n w) (phaser_past n w) s

  -- a step that registers nobody, and is no pass
  module _ (m : ℕ) (s : Step) (plain_base : (n : ℕ) → base n (Phaser m s ∷ w) ≡ base n w)
      (live_step : (t n : ℕ) → is_live t (added n s ∷ phaser_past n w) ≡ true → IsLiveOn t n w)
      (waits_step : (t n : ℕ) → waits t (added n s ∷ phaser_past n w) ≡ waits t (phaser_past n w))
      (clock_step : (t : ℕ) → clock t (Phaser m s ∷ w) ≡ clock t w)
      (passed_step : (t n : ℕ) → has_passed t n (Phaser m s ∷ w) ≡ has_passed t n w) where
    stepped : Both (Phaser m s ∷ w)
    stepped =
        kept (Phaser m s) (λ t. refl) (λ t. refl)
        (λ t n g. live_by (m == n) t (added n s) (phaser_past n w) (live_step t n) g)
        (λ t n g. waits_by (m == n) t (added n s) (phaser_past n w) (waits_step t n))
        plain_base clock_step (λ t. refl) passed_step

  pub after_send : (m u a : ℕ) (v : ℤ) → is_accepted l w (Phaser m (Send u a v)) ≡ true
      → Both (Phaser m (Send u a v) ∷ w)
  after_send m u a v h =
      stepped m (Send u a v) (λ n. refl) (λ t n g. g) (λ t n. refl) (λ t. refl)
      (λ t n. passed_idle t n (Phaser m (Send u a v)) w refl refl (idle_in_act l w u (Sending m a v) h))

  pub after_look : (m u a : ℕ) → is_accepted l w (Phaser m (Look u a)) ≡ true → Both (Phaser m (Look u a) ∷ w)
  after_look m u a h =
      stepped m (Look u a) (λ n. refl) (λ t n g. g) (λ t n. refl) (λ t. refl)
      (λ t n. passed_idle t n (Phaser m (Look u a)) w refl refl (idle_in_act l w u (Looking m a) h))

  pub after_claim : (m u : ℕ) → Both (Phaser m (Claim u) ∷ w)
  after_claim m u =
      stepped m (Claim u) (λ n. refl) (λ t n g. g) (λ t n. refl) (λ t. refl)
      (λ t n. passed_single t n (Phaser m (Claim u)) w refl refl)

  pub after_did : (m u : ℕ) → Both (Phaser m (Did u) ∷ w)
  after_did m u =
      stepped m (Did u) (λ n. refl) (λ t n g. g) (λ t n. refl) (λ t. refl)
      (λ t n. passed_single t n (Phaser m (Did u)) w refl refl)

  pub after_sig : (m u : ℕ) (x : Option ℕ) → is_accepted l w (Phaser m (Sig u x)) ≡ true
      → Both (Phaser m (Sig u x) ∷ w)
  after_sig m u x h =
      stepped m (Sig u x) (λ n. refl) (λ t n g. g) (λ t n. refl) (λ t. refl)
      (λ t n. passed_sig l t n m u x w (part_made l w (Phaser m (Sig u x)) h).0)

  pub after_drop : (m u : ℕ) → is_accepted l w (Phaser m (Drop u)) ≡ true → Both (Phaser m (Drop u) ∷ w)
  after_drop m u h =
      stepped m (Drop u) (λ n. refl) (λ t n g. undropped (is_registered t (phaser_past n w)) (u == t)
      (is_dropped t (phaser_past n w)) g) (λ t n. refl) (λ t. refl)
      (λ t n. passed_part l t n (Phaser m (Drop u)) w refl (part_made l w (Phaser m (Drop u)) h).0 refl)

  pub after_opened : (f u : ℕ) → is_accepted l w (Finish f (Opened u)) ≡ true → Both (Finish f (Opened u) ∷ w)
  after_opened f u h =
      kept (Finish f (Opened u)) (λ t. refl) (λ t. refl) (λ t n g. g) (λ t n g. refl) (λ n. refl)
      (λ t. refl) (λ t. refl)
      (λ t n. passed_idle t n (Finish f (Opened u)) w refl refl (idle_in_act l w u (Open f) h))

  pub after_ended : (f u : ℕ) → is_accepted l w (Finish f (Ended u)) ≡ true → Both (Finish f (Ended u) ∷ w)
  after_ended f u h =
      kept (Finish f (Ended u)) (λ t. refl) (λ t. refl) (λ t n g. g) (λ t n g. refl) (λ n. refl)
      (λ t. refl) (λ t. refl)
      (λ t n. passed_part l t n (Finish f (Ended u)) w refl (part_made l w (Finish f (Ended u)) h).0 refl)

  pub after_shut : (f : ℕ) → is_accepted l w (Finish f Shutting) ≡ true → Both (Finish f Shutting ∷ w)
  after_shut f h =
      kept (Finish f Shutting) (λ t. refl) (λ t. refl) (λ t n g. g) (λ t n g. refl) (λ n. refl)
      (λ t. refl) (λ t. refl)
      (λ t n. passed_part l t n (Finish f Shutting) w refl (part_made l w (Finish f Shutting) h).0 refl)

  -- a phaser is made
  module _ (m u : ℕ) (mode : Mode) (terms : Terms)
      (h : is_accepted l w (Phaser m (Make u mode terms)) ≡ true) where
    abbrev making : WorldEvent
    making = Phaser m (Make u mode terms)

    maker_idle : is_idle u w ≡ true
    maker_idle = idle_in_act l w u (New m mode terms) h

    only_maker : (t : ℕ) (b : Bool) (g : List Event) → b ≡ true → g ≡ []
        → is_live t (cond b (Made u mode ∷ g) g) ≡ true → (u == t) ≡ true
    only_maker t true (x ∷ g) e p a = absurd cc
    only_maker t true [] e p a =
        elim (or_cases (u == t) false (and_parts ((u == t) || false) true a).0) [
          | inl x ↦ x
          | inr x ↦ absurd (true≢false (sym x))
        ]
    only_maker t false g e p a = absurd (true≢false (sym e))

    zero_law : (c : ℕ) → 0 + c ≡ c + 0
    zero_law c = omega arith

    made_here : (t : ℕ) → OfBorn t m (making ∷ w)
    made_here t a b c =
        let ut : (u == t) ≡ true =
        only_maker t (m == m) (phaser_past m w) (eq_self m) (new_past l w m u mode terms h) a in
        let same : u ≡ t = eqb-true u t ut in
        let none : has_passed t m (making ∷ w) ≡ false =
        passed_idle t m making w refl refl maker_idle
        ∙ not_passed w t m (subst (λ v. is_empty (due v w) ≡ true) same (nothing_due u w maker_idle).0) in
        rw (none, eq_self m, ut) (ap (λ v. 0 + clock v w) same ∙ zero_law (clock t w))

    made_there : (t n : ℕ) → (m == n) ≡ false → OfBorn t n (making ∷ w)
    made_there t n e a b c =
        moved t n making w (ap (λ x. waits t (cond x (Made u mode ∷ phaser_past n w) (phaser_past n w))) e)
        (ap (λ x. cond x (clock u w) (base n w)) e) refl
        (passed_idle t n making w refl refl maker_idle)
        (before.0 t n (subst (λ x.
        is_live t (cond x (Made u mode ∷ phaser_past n w) (phaser_past n w)) ≡ true) e a) b c)

    unborn_there : (t n : ℕ) → (m == n) ≡ false → OfUnborn t n (making ∷ w)
    unborn_there t n e a b c =
        rw (e) (before.1 t n (subst
        (λ x. is_live t (cond x (Made u mode ∷ phaser_past n w) (phaser_past n w)) ≡ true) e a) b c)

    unborn_here : (t : ℕ) → OfUnborn t m (making ∷ w)
    unborn_here t a b c =
        let ut : (u == t) ≡ true =
        only_maker t (m == m) (phaser_past m w) (eq_self m) (new_past l w m u mode terms h) a in
        absurd (true≢false
        (sym (subst (λ v. is_born v w ≡ true) (eqb-true u t ut) (idle_is_born u w maker_idle)) ∙ b))

    pub after_make : Both (making ∷ w)
    after_make = (
      λ t n. elim (cases_Bool (m == n)) [
        | inl e ↦ subst (λ v. OfBorn t v (making ∷ w)) (eqb-true m n e) (made_here t)
        | inr e ↦ made_there t n e
      ],
      λ t n. elim (cases_Bool (m == n)) [
        | inl e ↦ subst (λ v. OfUnborn t v (making ∷ w)) (eqb-true m n e) (unborn_here t)
        | inr e ↦ unborn_there t n e
      ],
    )
