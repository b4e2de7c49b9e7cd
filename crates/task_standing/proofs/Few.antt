-- A spawn names no more pairs than its task holds phasers, so no plan names more than its type holds.
use Rattle.std.proofs.Common.{◌≡◌, ℕ, suc, ◌+◌, ◌≤◌, ◌==◌, true, false, cond, List, [], ◌∷◌, map, length, None, refl, sym, ap, subst, ◌∙◌, inl, inr, arith}
use Rattle.std.proofs.lemmas.Bool.{cases_Bool, eqb-true, or_left, or_right, true≢false}
use Rattle.std.specs.Prelude.{nat_lt}
use Rattle.phase_modes.specs.declared.limits.Limits.{Limits}
use Rattle.phase_modes.specs.declared.phased.Pair.{Pair}
use Rattle.phase_modes.specs.declared.refusal.Refusal.TheVariants.{TasksFull}
use Rattle.phase_modes.specs.Refusal.{first_refusal}
use Rattle.phase_model.specs.Tasks.{is_live}
use Rattle.phase_model.proofs.LiveTasks.{has}
use Rattle.finish_core.specs.declared.event.FinishEvent.TheVariants.{Opened, Spawned, Ended, Shut as Shutting}
use Rattle.world_model.specs.declared.event.Begun.TheVariants.{Async, Signal, Wait, Next, NextSingle, Shut, End}
use Rattle.world_model.specs.declared.event.Step.TheVariants.{Make, Reg, Sig, Claim, Did, Pass, Send, Look, Drop}
use Rattle.world_model.specs.declared.event.WorldEvent.{WorldEvent}
use Rattle.world_model.specs.declared.event.WorldEvent.TheVariants.{Phaser, Finish, Begin, Refuse, Fail}
use Rattle.world_model.specs.Acts.{facts}
use Rattle.world_model.specs.ActConditions.{pair_conditions}
use Rattle.world_model.specs.Actors.{actor}
use Rattle.world_model.specs.Parts.{phaser_past}
use Rattle.world_model.specs.Replies.{is_legal_world}
use Rattle.world_model.specs.Tasks.{phasers_of}
use Rattle.world_model.proofs.FewerWithin.{no_longer}
use Rattle.world_model.proofs.HeldAreFew.{phasers_held_are_few}
use Rattle.world_model.proofs.MadeMeans.{last_accepted, no_refusal, begin_asked}
use Rattle.world_model.proofs.PairsAsked.{PairStands, pair_stands}
use Rattle.world_model.proofs.PhasersOnce.{times, phasers_once}
use Rattle.task_standing.specs.declared.plan.Plan.{Plan}
use Rattle.task_standing.specs.declared.plan.Plan.TheVariants as plan
use Rattle.task_standing.specs.Known.{Known}
use Rattle.task_standing.specs.Standing.{passed_by, registered_by, shut_by}
use Rattle.task_standing.specs.Laws.{NamesFew}
use Rattle.task_standing.specs.Noted.{noted}
use Rattle.task_standing.specs.AfterEvents.{PlansNameFew}

abbrev named_in : List Pair → List ℕ
named_in ps = map (λ p. p.phaser) ps

length_named : (ps : List Pair) → length (named_in ps) ≡ length ps
length_named [] = refl
length_named (p ∷ ps) = ap (λ i. suc i) (length_named ps)

module _ (w : List WorldEvent) (t n : ℕ) where
  -- a phaser that was named isn't named again
  not_again : (named : List ℕ) (ps : List Pair) → first_refusal (pair_conditions (facts w t) named ps) ≡ None → has n named ≡ true
      → times n (named_in ps) ≡ 0
  not_again named [] k h = refl
  not_again named (p ∷ ps) k h =
      let s : PairStands w t named p ps = pair_stands w t named p ps k in
      elim (cases_Bool (p.phaser == n)) [
        | inl e ↦ absurd (true≢false (sym h ∙ subst (λ v. has v named ≡ false) (eqb-true p.phaser n e) s.new))
        | inr e ↦ rw e (not_again (p.phaser ∷ named) ps s.rest (or_right (p.phaser == n) (has n named) h))
      ]

  -- and each that is named is held
  named_held : (held : ℕ) → held ≡ cond (is_live t (phaser_past n w)) 1 0 → (named : List ℕ) (ps : List Pair)
      → first_refusal (pair_conditions (facts w t) named ps) ≡ None → times n (named_in ps) ≤ held
  named_held held by named [] k = omega arith
  named_held held by named (p ∷ ps) k =
      let s : PairStands w t named p ps = pair_stands w t named p ps k in
      elim (cases_Bool (p.phaser == n)) [
        | inl e ↦
            let again : times n (named_in ps) ≡ 0 =
            not_again (p.phaser ∷ named) ps s.rest (or_left (p.phaser == n) (has n named) e) in
            let live : is_live t (phaser_past n w) ≡ true = subst (λ v. is_live t (phaser_past v w) ≡ true) (eqb-true p.phaser n e) s.live in
            let one : held ≡ 1 = by ∙ ap (λ b. cond b 1 0) live in
            rw e (at_most (times n (named_in ps)) held again one)
        | inr e ↦ rw e (named_held held by (p.phaser ∷ named) ps s.rest)
      ]
    where
      at_most : (x y : ℕ) → x ≡ 0 → y ≡ 1 → x + 1 ≤ y
      at_most x y e f = omega (arith, e, f)

named_few : (l : Limits) (w : List WorldEvent) (t c : ℕ) (ps : List Pair) → is_legal_world l (Begin t (Async c ps) ∷ w) ≡ true
    → length ps ≤ 16
named_few l w t c ps legal =
    let a = last_accepted l (Begin t (Async c ps)) w legal in
    let asked =
    (no_refusal TasksFull (nat_lt c l.tasks) (pair_conditions (facts w t) [] ps) (begin_asked l w t (Async c ps) a.0)).1 in
    let within : length (named_in ps) ≤ length (phasers_of t w) =
    no_longer (named_in ps) (phasers_of t w) (λ n. named_held w t n (times n (phasers_of t w)) (phasers_once l w a.1 t n) [] ps asked) in
    let most : length (phasers_of t w) ≤ 16 = phasers_held_are_few l w a.1 t in
    subst (λ i. i ≤ 16) (length_named ps) (both (length (named_in ps)) (length (phasers_of t w)) within most)
  where
    both : (x y : ℕ) → x ≤ y → y ≤ 16 → x ≤ 16
    both x y h g = omega (arith, h, g)

after_pass : (p : Plan) → NamesFew p → NamesFew (passed_by p)
after_pass (plan.Spawning c ps i) few = few
after_pass (plan.Signalling x true) few = tt
after_pass (plan.Signalling x false) few = tt
after_pass (plan.Turning i) few = tt
after_pass plan.Idle few = tt
after_pass plan.Shutting few = tt
after_pass plan.Ending few = tt

after_registration : (p : Plan) → NamesFew p → NamesFew (registered_by p)
after_registration (plan.Spawning c ps i) few = few
after_registration (plan.Signalling x b) few = tt
after_registration (plan.Turning i) few = tt
after_registration plan.Idle few = tt
after_registration plan.Shutting few = tt
after_registration plan.Ending few = tt

after_shut : (p : Plan) → NamesFew p → NamesFew (shut_by p)
after_shut (plan.Spawning c ps i) few = few
after_shut (plan.Signalling x b) few = tt
after_shut (plan.Turning i) few = tt
after_shut plan.Idle few = tt
after_shut plan.Shutting few = tt
after_shut plan.Ending few = tt

noted_few : (l : Limits) (e : WorldEvent) (w : List WorldEvent) (k : Known) → is_legal_world l (e ∷ w) ≡ true → NamesFew k.plan
    → NamesFew (noted e k).plan
noted_few l (Phaser n (Make t m terms)) w k legal few = tt
noted_few l (Phaser n (Reg t c m)) w k legal few = after_registration k.plan few
noted_few l (Phaser n (Sig t x)) w k legal few = few
noted_few l (Phaser n (Claim t)) w k legal few = few
noted_few l (Phaser n (Did t)) w k legal few = few
noted_few l (Phaser n (Pass t)) w k legal few = after_pass k.plan few
noted_few l (Phaser n (Send t i v)) w k legal few = tt
noted_few l (Phaser n (Look t i)) w k legal few = tt
noted_few l (Phaser n (Drop t)) w k legal few = few
noted_few l (Finish f (Opened t)) w k legal few = tt
noted_few l (Finish f (Spawned c)) w k legal few = tt
noted_few l (Finish f (Ended t)) w k legal few = few
noted_few l (Finish f Shutting) w k legal few = after_shut k.plan few
noted_few l (Begin t (Async c ps)) w k legal few = named_few l w t c ps legal
noted_few l (Begin t Signal) w k legal few = tt
noted_few l (Begin t Wait) w k legal few = tt
noted_few l (Begin t Next) w k legal few = tt
noted_few l (Begin t (NextSingle x)) w k legal few = tt
noted_few l (Begin t Shut) w k legal few = tt
noted_few l (Begin t End) w k legal few = tt
noted_few l (Refuse t a n) w k legal few = tt
noted_few l (Fail t n) w k legal few = tt

pub plans_name_few : PlansNameFew
plans_name_few l e w k legal few =
    elim (cases_Bool (actor w e == k.number)) [
      | inl own ↦ rw own (noted_few l e w k legal few)
      | inr other ↦ rw other few
    ]
