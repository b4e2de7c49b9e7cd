-- What a spawn asks of its pairs as it begins, and so what each registration that is due finds.
use Rattle.std.proofs.Common.{◌≡◌, ℕ, Bool, true, false, ◌&&◌, ◌==◌, not, cond, List, [], ◌∷◌, ◌++◌, map, Option, Some, None, refl, sym, subst, ap, ◌∙◌}
use Rattle.std.specs.List.{list_any, list_all}
use Rattle.std.proofs.lemmas.Bool.{and_from, or_from, or_left, or_right, eqb-true, eq-eqb, true≢false, false_from_ne_true}
use Rattle.phase_modes.specs.Lists.{is_empty}
use Rattle.phase_modes.specs.declared.phased.Pair.{Pair}
use Rattle.phase_modes.specs.declared.refusal.Refusal.{Refusal}
use Rattle.phase_modes.specs.Refusal.{first_refusal}
use Rattle.phase_model.specs.declared.history.Event.{Event}
use Rattle.phase_model.specs.Tasks.{is_registered, is_live}
use Rattle.phase_model.specs.Conditions.{is_within_task}
use Rattle.phase_model.proofs.LiveTasks.{has}
use Rattle.finish_core.specs.declared.event.FinishEvent.TheVariants.{Spawned}
use Rattle.world_model.specs.declared.event.Step.TheVariants.{Reg}
use Rattle.world_model.specs.declared.event.WorldEvent.{WorldEvent}
use Rattle.world_model.specs.declared.event.WorldEvent.TheVariants.{Phaser, Finish}
use Rattle.world_model.specs.Parts.{phaser_past}
use Rattle.world_model.specs.Scopes.{inner, enclosing}
use Rattle.world_model.specs.Acts.{facts}
use Rattle.world_model.specs.ActConditions.{pair_conditions}

-- a due registration of c by q can be made, and its spawn is in q's innermost finish
abbrev pub may_join : ℕ → ℕ → List WorldEvent → WorldEvent → Bool
may_join q c w (Phaser n (Reg r x m)) =
    is_live q (phaser_past n w) && is_within_task m q (phaser_past n w) && (enclosing n w == inner q w)
    && not (is_registered c (phaser_past n w))
may_join q c w (Finish f (Spawned x)) = f == inner q w
may_join q c w _ = true

abbrev pub registers_on : ℕ → WorldEvent → Bool
registers_on n (Phaser m (Reg q c mode)) = m == n
registers_on n _ = false

-- no two registrations are on one phaser
abbrev pub joins_apart : List WorldEvent → Bool
joins_apart [] = true
joins_apart (Phaser n (Reg q c m) ∷ ds) = not (list_any (registers_on n) ds) && joins_apart ds
joins_apart (_ ∷ ds) = joins_apart ds

pub record MayJoin (q c : ℕ) (w ds : List WorldEvent) : Type 0 where
  pub each : list_all (may_join q c w) ds ≡ true
  pub apart : joins_apart ds ≡ true
  pub scope : is_empty ds ≡ false → (n : ℕ) → is_registered c (phaser_past n w) ≡ true
      → (enclosing n w == inner q w) ≡ true

pub nothing_joins : (q c : ℕ) (w : List WorldEvent) → MayJoin q c w []
nothing_joins q c w = record { each = refl; apart = refl; scope = λ some n r. absurd (true≢false some) }

-- where somebody is registered, the history has begun
pub some_registered : (t : ℕ) (h : List Event) → is_registered t h ≡ true → is_empty h ≡ false
some_registered t [] k = absurd cc
some_registered t (e ∷ h) k = refl

-- what the spawn's own refusals asked of a pair
pub record PairStands (w : List WorldEvent) (t : ℕ) (named : List ℕ) (p : Pair)
    (ps : List Pair) : Type 0 where
  pub live : is_live t (phaser_past p.phaser w) ≡ true
  pub within : is_within_task p.mode t (phaser_past p.phaser w) ≡ true
  pub scope : (enclosing p.phaser w == inner t w) ≡ true
  pub new : has p.phaser named ≡ false
  pub rest : first_refusal (pair_conditions (facts w t) (p.phaser ∷ named) ps) ≡ None

pub pair_stands : (w : List WorldEvent) (t : ℕ) (named : List ℕ) (p : Pair) (ps : List Pair)
    → first_refusal (pair_conditions (facts w t) named (p ∷ ps)) ≡ None → PairStands w t named p ps
pair_stands w t named p ps k =
    let o = first_refusal (pair_conditions (facts w t) (p.phaser ∷ named) ps) in
    let h = phaser_past p.phaser w in
    let f =
    four (is_live t h) (is_within_task p.mode t h) (enclosing p.phaser w == inner t w)
    (has p.phaser named) o _ _ _ _ k in
    record { live = f.0; within = f.1; scope = f.2; new = f.3; rest = f.4 }
  where
    four : (a b c d : Bool) (o : Option Refusal) (r s u v : Refusal)
        → cond a (cond b (cond c (cond (not d) o (Some v)) (Some u)) (Some s)) (Some r) ≡ None
        → (a ≡ true) × (b ≡ true) × (c ≡ true) × (d ≡ false) × (o ≡ None)
    four true true true false o r s u v k = (refl, refl, refl, refl, k)
    four true true true true o r s u v k = absurd cc
    four true true false d o r s u v k = absurd cc
    four true false c d o r s u v k = absurd cc
    four false b c d o r s u v k = absurd cc

abbrev pub joining : ℕ → ℕ → ℕ → List Pair → List WorldEvent
joining q c f ps = map (λ p. Phaser p.phaser (Reg q c p.mode)) ps ++ Finish f (Spawned c) ∷ []

module _ (w : List WorldEvent) (q c : ℕ) (fresh : (n : ℕ) → is_registered c (phaser_past n w) ≡ false) where
  pub pairs_join : (named : List ℕ) (ps : List Pair) → first_refusal (pair_conditions (facts w q) named ps) ≡ None
      → list_all (may_join q c w) (joining q c (inner q w) ps) ≡ true
  pairs_join named [] k = and_from (inner q w == inner q w) true (eq-eqb (inner q w) (inner q w) refl) refl
  pairs_join named (p ∷ ps) k =
      let s = pair_stands w q named p ps k in
      let h = phaser_past p.phaser w in
      let ok : not (is_registered c h) ≡ true = ap (λ b. not b) (fresh p.phaser) in
      let abc =
      and_from (is_live q h && is_within_task p.mode q h) (enclosing p.phaser w == inner q w)
      (and_from (is_live q h) (is_within_task p.mode q h) s.live s.within) s.scope in
      and_from (is_live q h && is_within_task p.mode q h && (enclosing p.phaser w == inner q w)
      && not (is_registered c h)) (list_all (may_join q c w) (joining q c (inner q w) ps))
      (and_from (is_live q h && is_within_task p.mode q h && (enclosing p.phaser w == inner q w))
      (not (is_registered c h)) abc ok) (pairs_join (p.phaser ∷ named) ps s.rest)

  -- a phaser that was named isn't named again
  not_again : (n : ℕ) (named : List ℕ) (ps : List Pair) → has n named ≡ true → first_refusal
      (pair_conditions (facts w q) named ps) ≡ None → list_any (registers_on n) (joining q c (inner q w) ps) ≡ false
  not_again n named [] h k = refl
  not_again n named (p ∷ ps) h k =
      let s = pair_stands w q named p ps k in
      or_from (p.phaser == n) (list_any (registers_on n) (joining q c (inner q w) ps))
      (false_from_ne_true (p.phaser == n)
      (λ e. true≢false (sym h ∙ subst (λ v. has v named ≡ false) (eqb-true p.phaser n e) s.new)))
      (not_again n (p.phaser ∷ named) ps (or_right (p.phaser == n) (has n named) h) s.rest)

  pub pairs_apart : (named : List ℕ) (ps : List Pair) → first_refusal (pair_conditions (facts w q) named ps) ≡ None
      → joins_apart (joining q c (inner q w) ps) ≡ true
  pairs_apart named [] k = refl
  pairs_apart named (p ∷ ps) k =
      let s = pair_stands w q named p ps k in
      and_from (not (list_any (registers_on p.phaser) (joining q c (inner q w) ps)))
      (joins_apart (joining q c (inner q w) ps))
      (ap (λ b. not b) (not_again p.phaser (p.phaser ∷ named) ps
      (or_left (p.phaser == p.phaser) (has p.phaser named) (eq-eqb p.phaser p.phaser refl)) s.rest))
      (pairs_apart (p.phaser ∷ named) ps s.rest)
