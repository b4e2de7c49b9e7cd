-- Sums over the phasers of a world: over its steps, and over what its spawns hand out.
use Rattle.std.proofs.Common.{◌≡◌, ℕ, ◌+◌, ◌<◌, Bool, true, false, ◌==◌, not, cond, List, [], ◌∷◌, ◌++◌, map, Some, is_some, refl, sym, subst, ap, add-one, ◌∙◌, inl, inr, arith}
use Rattle.std.specs.Prelude.{count_by}
use Rattle.std.specs.List.{list_all, sum_by, filter, range_with_len}
use Rattle.std.proofs.lemmas.List.Sums.{sum_by-cons}
use Rattle.std.proofs.lemmas.Bool.{and_parts, and_from, cases_Bool, eqb-true, eq-eqb, ne_eqb, not-true, true≢false, false≢true, false_from_ne_true, not-false}
use Rattle.phase_modes.specs.Lists.{is_empty}
use Rattle.phase_modes.specs.declared.limits.Limits.{Limits}
use Rattle.phase_modes.specs.declared.phased.Pair.{Pair}
use Rattle.phase_modes.specs.declared.reg.Mode.{Mode}
use Rattle.phase_model.specs.declared.history.Event.{Event}
use Rattle.phase_model.specs.declared.history.Event.TheVariants as events
use Rattle.phase_model.specs.declared.terms.Terms.{Terms}
use Rattle.phase_model.specs.Tasks.{registered_by}
use Rattle.phase_model.proofs.LiveTasks.{empty_is as no_events}
use Rattle.finish_core.specs.declared.event.FinishEvent.TheVariants.{Spawned}
use Rattle.world_model.specs.declared.event.Step.{Step}
use Rattle.world_model.specs.declared.event.Step.TheVariants.{Make, Reg, Sig, Pass, Drop}
use Rattle.world_model.specs.declared.event.Begun.{Begun}
use Rattle.world_model.specs.declared.event.Begun.TheVariants.{Async, Next, End}
use Rattle.world_model.specs.declared.event.Tried.TheVariants.{Begun as Beginning}
use Rattle.world_model.specs.declared.event.WorldEvent.{WorldEvent}
use Rattle.world_model.specs.declared.event.WorldEvent.TheVariants.{Phaser, Finish, Begin, Refuse, Fail}
use Rattle.world_model.specs.Due.{due, is_entry}
use Rattle.world_model.specs.Numbers.{is_phaser}
use Rattle.world_model.specs.Parts.{phaser_past, terms_of, event_for}
use Rattle.world_model.specs.Replies.{is_legal_world, is_accepted}
use Rattle.world_model.specs.Report.{below}
use Rattle.world_model.specs.Scopes.{inner}
use Rattle.world_model.specs.TaskConditions.{last_entry}
use Rattle.world_model.proofs.AbleComputed.{idle_in_act}
use Rattle.world_model.proofs.AbruptEnds.{nothing_due}
use Rattle.world_model.proofs.BornWhereNamed.{registering}
use Rattle.world_model.proofs.DropsStandAlways.{leaves_only}
use Rattle.world_model.proofs.LeavesAtEnds.{is_leave}
use Rattle.world_model.proofs.MadeMeans.{last_accepted, part_made}
use Rattle.world_model.proofs.MovesInTurns.{is_any_move, move_act}
use Rattle.world_model.proofs.OthersLeave.{due_other}
use Rattle.world_model.proofs.SignalsComeFirst.{moves_act}
use Rattle.world_model.proofs.SmallWords.{empty_is}
use Rattle.world_model.proofs.SpawnUnderWay.{named_by_spawn}
use Rattle.job_kernels.proofs.Numbers.{lt_zero_plus, same_not_lt, zero_least}
use Rattle.job_kernels.proofs.Plain.{IsPlain, last_of_plain, is_plain, due_moves, due_next, spawned, child_at, spawner_is_root}
use Rattle.job_kernels.proofs.Children.{at_below}
use Rattle.job_kernels.proofs.Joined.{joined, is_still}
use Rattle.job_kernels.proofs.Joining.{SpawnsBy, regs_of}
use Rattle.job_kernels.proofs.Making.{phaser_fits}
use Rattle.job_kernels.proofs.RunSums.{up_to, sum_both, sum_same, sum_none, sum_mapped, sum_filter, sum_picked}

-- the sum over all steps, by the step
abbrev pub weight : (Step → ℕ) → WorldEvent → ℕ
weight by (Phaser n s) = by s
weight by _ = 0

abbrev pub weigh : (Step → ℕ) → List WorldEvent → ℕ
weigh by [] = 0
weigh by (e ∷ w) = weight by e + weigh by w

none_before : (x : ℕ) → x ≡ 0 + x
none_before x = omega arith

-- ---- phaser by phaser

-- a sum over a phaser's events, where the weight of each is its step's
pub record IsSum (sum : List Event → ℕ) (by : Step → ℕ) : Type 0 where
  pub none : sum [] ≡ 0
  pub more : (terms : Terms) (h : List Event) (s : Step) → sum (event_for terms h s ∷ h) ≡ by s + sum h

-- the phasers that were made, and the history of each
abbrev pub pasts : Limits → List WorldEvent → List (List Event)
pasts l w = map (λ n. phaser_past n w) (filter (λ n. is_phaser n w) (below l.phasers))

module _ (l : Limits) (sum : List Event → ℕ) (by : Step → ℕ) (k : IsSum sum by) where
  on_each : (b : Bool) (terms : Terms) (h : List Event) (s : Step)
      → sum (cond b (event_for terms h s ∷ h) h) ≡ cond b (by s) 0 + sum h
  on_each true terms h s = k.more terms h s
  on_each false terms h s = none_before (sum h)

  pub spread : (w : List WorldEvent) → is_legal_world l w ≡ true
      → sum_by (λ n. sum (phaser_past n w)) (range_with_len 0 l.phasers) ≡ weigh by w
  spread [] legal = sum_none (λ n. sum (phaser_past n [])) (range_with_len 0 l.phasers) (λ n. k.none)
  spread (Phaser m s ∷ w) legal =
      let ns = range_with_len 0 l.phasers in
      let fits : m < l.phasers = phaser_fits l m (Phaser m s ∷ w) legal (rw (eq-eqb m m refl) refl) in
      let each =
      sum_same (λ n. sum (phaser_past n (Phaser m s ∷ w))) (λ n. cond (m == n) (by s) 0 + sum (phaser_past n w)) ns
      (λ n. on_each (m == n) (terms_of n w) (phaser_past n w) s) in
      let both = sum_both (λ n. cond (m == n) (by s) 0) (λ n. sum (phaser_past n w)) ns in
      let one = sum_picked (by s) m 0 l.phasers (zero_least m) (lt_zero_plus m l.phasers fits) in
      let rest = spread w (last_accepted l (Phaser m s) w legal).1 in
      omega (arith, each, both, one, rest)
  spread (e ∷ w) legal = spread w (last_accepted l e w legal).1 ∙ none_before (weigh by w)

  -- so the sum over all phasers is that over all steps
  pub over_all : (w : List WorldEvent) → is_legal_world l w ≡ true → sum_by sum (pasts l w) ≡ weigh by w
  over_all w legal =
      sum_mapped sum (λ n. phaser_past n w) (filter (λ n. is_phaser n w) (below l.phasers))
      ∙ (sum_filter (λ n. sum (phaser_past n w)) (λ n. is_phaser n w) (below l.phasers)
      (λ n e. ap (λ h. sum h) (no_events (phaser_past n w) (not-false (is_empty (phaser_past n w)) e)) ∙ k.none)
      ∙ spread w legal)

-- two sums that agree on each phaser
pub all_same : (l : Limits) (w : List WorldEvent) (f g : List Event → ℕ)
    → ((n : ℕ) → f (phaser_past n w) ≡ g (phaser_past n w)) → sum_by f (pasts l w) ≡ sum_by g (pasts l w)
all_same l w f g same =
    let ns = filter (λ n. is_phaser n w) (below l.phasers) in
    sum_mapped f (λ n. phaser_past n w) ns
    ∙ (sum_same (λ n. f (phaser_past n w)) (λ n. g (phaser_past n w)) ns same
    ∙ sym (sum_mapped g (λ n. phaser_past n w) ns))

-- ---- registrations: by the root for itself as it makes a phaser, and for those whom it spawns

abbrev pub by_made : (ℕ → Mode → ℕ) → Step → ℕ
by_made g (Make t m terms) = g t m
by_made g _ = 0

abbrev pub by_reg : (ℕ → Mode → ℕ) → Step → ℕ
by_reg g (Reg q t m) = g t m
by_reg g _ = 0

abbrev by_joined : (ℕ → Mode → ℕ) → Step → ℕ
by_joined g (Make t m terms) = g t m
by_joined g (Reg q t m) = g t m
by_joined g _ = 0

joined_sum : (g : ℕ → Mode → ℕ) → IsSum (joined g) (by_joined g)
joined_sum g = record { none = refl; more = more }
  where
    more : (terms : Terms) (h : List Event) (s : Step) → joined g (event_for terms h s ∷ h) ≡ by_joined g s + joined g h
    more terms h (Make t m o) = refl
    more terms h (Reg q t m) = refl
    more terms h s = none_before (joined g h)

joined_apart : (g : ℕ → Mode → ℕ) (w : List WorldEvent)
    → weigh (by_joined g) w ≡ weigh (by_made g) w + weigh (by_reg g) w
joined_apart g [] = refl
joined_apart g (Phaser n (Make t m o) ∷ w) = omega (arith, joined_apart g w)
joined_apart g (Phaser n (Reg q t m) ∷ w) = omega (arith, joined_apart g w)
joined_apart g (e ∷ w) = omega (arith, joined_apart g w)

pub registrations : (l : Limits) (g : ℕ → Mode → ℕ) (w : List WorldEvent) → is_legal_world l w ≡ true
    → sum_by (joined g) (pasts l w) ≡ weigh (by_made g) w + weigh (by_reg g) w
registrations l g w legal = over_all l (joined g) (by_joined g) (joined_sum g) w legal ∙ joined_apart g w

-- each is counted as 1
pub counted : (h : List Event) → count_by (λ e. is_some (registered_by e)) h ≡ joined (λ t m. 1) h
counted [] = refl
counted (events.Make t m ∷ h) =
    omega (arith, sum_by-cons (λ e. cond (is_some (registered_by e)) 1 0) (events.Make t m) h, counted h)
counted (events.Reg q t m ∷ h) =
    omega (arith, sum_by-cons (λ e. cond (is_some (registered_by e)) 1 0) (events.Reg q t m) h, counted h)
counted (e ∷ h) = omega (arith, sum_by-cons (λ x. cond (is_some (registered_by x)) 1 0) e h, counted h)

-- what the root adds for itself
pub made_none : (g : ℕ → Mode → ℕ) (w : List WorldEvent) → list_all is_plain w ≡ true → ((m : Mode) → g 0 m ≡ 0)
    → weigh (by_made g) w ≡ 0
made_none g [] k none = refl
made_none g (Phaser n (Make u m o) ∷ w) k none =
    let p = and_parts (u == 0) (list_all is_plain w) k in
    let zero : g u m ≡ 0 = ap (λ v. g v m) (eqb-true u 0 p.0) ∙ none m in
    omega (arith, zero, made_none g w p.1 none)
made_none g (e ∷ w) k none =
    omega (arith, made_none g w (and_parts (is_plain e) (list_all is_plain w) k).1 none)

-- ---- what the spawns hand out

abbrev pub of_pairs : (ℕ → Mode → ℕ) → ℕ → List Pair → ℕ
of_pairs g c [] = 0
of_pairs g c (p ∷ ps) = g c p.mode + of_pairs g c ps

abbrev pub handed : (ℕ → Mode → ℕ) → List WorldEvent → ℕ
handed g [] = 0
handed g (Begin u (Async c ps) ∷ w) = of_pairs g c ps + handed g w
handed g (_ ∷ w) = handed g w

module _ (g : ℕ → Mode → ℕ) where
  leaves_weigh : (ds : List WorldEvent) → list_all is_leave ds ≡ true → weigh (by_reg g) ds ≡ 0
  leaves_weigh [] k = refl
  leaves_weigh (Phaser m (Drop u) ∷ ds) k = omega (arith, leaves_weigh ds k)
  leaves_weigh (Finish f s ∷ ds) k =
      omega (arith, leaves_weigh ds (and_parts (is_leave (Finish f s)) (list_all is_leave ds) k).1)
  leaves_weigh (d ∷ ds) k = absurd (false≢true k)

  pairs_weigh : (c f : ℕ) (ps : List Pair)
      → weigh (by_reg g) (regs_of 0 c ps ++ Finish f (Spawned c) ∷ []) ≡ of_pairs g c ps
  pairs_weigh c f [] = refl
  pairs_weigh c f (p ∷ ps) = ap (λ x. g c p.mode + x) (pairs_weigh c f ps)

  module _ (l : Limits) (w : List WorldEvent) (k : IsPlain l w)
      (before : weigh (by_reg g) w + weigh (by_reg g) (due 0 w) ≡ handed g w) where
    -- an event that is no entry of the root, and registers nobody
    kept : (e : WorldEvent) → is_accepted l w e ≡ true → is_entry 0 e ≡ false → weight (by_reg g) e ≡ 0
        → weigh (by_reg g) (e ∷ w) + weigh (by_reg g) (due 0 (e ∷ w)) ≡ handed g w
    kept e a o none = omega (arith, before, none, same)
      where
        same : weigh (by_reg g) (due 0 (e ∷ w)) ≡ weigh (by_reg g) (due 0 w)
        same =
            elim (due_moves l w e 0 a o) [
              | inl s ↦ ap (λ ds. weigh (by_reg g) ds) s
              | inr s ↦
                  let next : weigh (by_reg g) (due 0 w) ≡ weight (by_reg g) e + weigh (by_reg g) (due 0 (e ∷ w)) =
                  ap (λ ds. weigh (by_reg g) ds) s in
                  omega (arith, next, none)
            ]

    by_reg_own : (m q u : ℕ) (o : Mode) → is_accepted l w (Phaser m (Reg q u o)) ≡ true
        → weigh (by_reg g) (Phaser m (Reg q u o) ∷ w) + weigh (by_reg g) (due 0 (Phaser m (Reg q u o) ∷ w)) ≡ handed g w
    by_reg_own m q u o a =
        let e = Phaser m (Reg q u o) in
        let root : q ≡ 0 =
        sym (named_by_spawn l q u w k.legal (registering l w m q u o k.legal a).begun).1
        ∙ spawner_is_root u w k.plain in
        let next : weigh (by_reg g) (due 0 w) ≡ g u o + weigh (by_reg g) (due 0 (e ∷ w)) =
        ap (λ ds. weigh (by_reg g) ds) (due_next l w e 0 (part_made l w e a).0 refl refl root) in
        omega (arith, before, next)

    -- an entry of the root, to which nothing is due
    root_entry : (b : Begun) → is_accepted l w (Begin 0 b) ≡ true → is_plain (Begin 0 b) ≡ true
        → weigh (by_reg g) (Begin 0 b ∷ w) + weigh (by_reg g) (due 0 (Begin 0 b ∷ w)) ≡ handed g (Begin 0 b ∷ w)
    root_entry b a p = by_begun b a p
      where
        gone : (b : Begun) → is_accepted l w (Begin 0 b) ≡ true → weigh (by_reg g) (due 0 w) ≡ 0
        gone b a =
            ap (λ ds. weigh (by_reg g) ds)
            (empty_is (due 0 w) (nothing_due 0 w (idle_in_act l w 0 (Beginning b) a)).0)

        by_begun : (b : Begun) → is_accepted l w (Begin 0 b) ≡ true → is_plain (Begin 0 b) ≡ true
            → weigh (by_reg g) (Begin 0 b ∷ w) + weigh (by_reg g) (due 0 (Begin 0 b ∷ w)) ≡ handed g (Begin 0 b ∷ w)
        by_begun End a p =
            let none =
            leaves_weigh (due 0 (Begin 0 End ∷ w))
            (leaves_only l 0 (Begin 0 End ∷ w)
            (and_from (is_accepted l w (Begin 0 End)) (is_legal_world l w) a k.legal) refl) in
            omega (arith, before, gone End a, none)
        by_begun (Async c ps) a p =
            omega (arith, before, gone (Async c ps) a, pairs_weigh c (inner 0 w) ps)
        by_begun b a p = absurd (false≢true p)

    other_entry : (u : ℕ) (b : Begun) → is_plain (Begin u b) ≡ true → (u == 0) ≡ false
        → weigh (by_reg g) (Begin u b ∷ w) + weigh (by_reg g) (due 0 (Begin u b ∷ w)) ≡ handed g (Begin u b ∷ w)
    other_entry u (Async c ps) p z = absurd (true≢false (sym p ∙ z))
    other_entry u b p z =
        omega (arith, before, ap (λ ds. weigh (by_reg g) ds) (due_other 0 (Begin u b) w z))

    regs_step : (e : WorldEvent) → is_accepted l w e ≡ true → is_plain e ≡ true
        → weigh (by_reg g) (e ∷ w) + weigh (by_reg g) (due 0 (e ∷ w)) ≡ handed g (e ∷ w)
    regs_step (Phaser m (Reg q u o)) a p = by_reg_own m q u o a
    regs_step (Phaser m s) a p = kept (Phaser m s) a refl refl
    regs_step (Finish f s) a p = kept (Finish f s) a refl refl
    regs_step (Begin u b) a p =
        elim (cases_Bool (u == 0)) [
          | inl e ↦
              let root : u ≡ 0 = eqb-true u 0 e in
              subst (λ v. weigh (by_reg g) (Begin v b ∷ w) + weigh (by_reg g) (due 0 (Begin v b ∷ w))
              ≡ handed g (Begin v b ∷ w)) (sym root)
              (root_entry b (subst (λ v. is_accepted l w (Begin v b) ≡ true) root a)
              (subst (λ v. is_plain (Begin v b) ≡ true) root p))
          | inr e ↦ other_entry u b p e
        ]
    regs_step (Refuse u b x) a p = absurd (false≢true p)
    regs_step (Fail u x) a p = absurd (false≢true p)

  regs_and_due : (l : Limits) (w : List WorldEvent) → IsPlain l w
      → weigh (by_reg g) w + weigh (by_reg g) (due 0 w) ≡ handed g w
  regs_and_due l [] k = refl
  regs_and_due l (e ∷ w) k =
      let f = last_of_plain l e w k in
      regs_step l w f.before (regs_and_due l w f.before) e f.accepted f.plain

  -- once the root is on its way to its end, all that was handed out stands
  pub regs_handed : (l : Limits) (w : List WorldEvent) → IsPlain l w → list_all is_leave (due 0 w) ≡ true
      → weigh (by_reg g) w ≡ handed g w
  regs_handed l w k over = omega (arith, regs_and_due l w k, leaves_weigh (due 0 w) over)

  -- place by place
  pub handed_by : (pairs : ℕ → List Pair) (f : ℕ → ℕ) (w : List WorldEvent) → SpawnsBy pairs w
      → ((i c : ℕ) → child_at i w ≡ Some c → of_pairs g c (pairs i) ≡ f i) → handed g w ≡ up_to f (spawned w)
  handed_by pairs f [] s all = refl
  handed_by pairs f (Begin u (Async x ps) ∷ w) s all =
      let first : of_pairs g x ps ≡ f (spawned w) =
      ap (λ qs. of_pairs g x qs) s.0 ∙ all (spawned w) x (rw (eq-eqb (spawned w) (spawned w) refl) refl) in
      let rest =
      handed_by pairs f w s.1
      (λ i c h. all i c (rw (ne_eqb (spawned w) i (λ e. same_not_lt (spawned w) i e (at_below i c w h))) h)) in
      let next : up_to f (spawned w + 1) ≡ f (spawned w) + up_to f (spawned w) =
      ap (λ n. up_to f n) (add-one (spawned w)) in
      omega (arith, first, rest, next)
  handed_by pairs f (e ∷ w) s all = handed_by pairs f w s all

-- ---- the root signals and passes nothing

root_still : (w : List WorldEvent) → list_all is_plain w ≡ true → moves_act (last_entry 0 w) ≡ false
root_still [] k = refl
root_still (Begin u b ∷ w) k =
    let p = and_parts (is_plain (Begin u b)) (list_all is_plain w) k in
    by_begun u b p.0 (root_still w p.1)
  where
    by_begun : (u : ℕ) (b : Begun) → is_plain (Begin u b) ≡ true → moves_act (last_entry 0 w) ≡ false
        → moves_act (last_entry 0 (Begin u b ∷ w)) ≡ false
    by_begun u Next p q = rw (not-true (u == 0) p) q
    by_begun u End p q = at_end (u == 0) u q
      where
        at_end : (c : Bool) (u : ℕ) → moves_act (last_entry 0 w) ≡ false
            → moves_act (cond c (Some (Begin u End)) (last_entry 0 w)) ≡ false
        at_end true u q = refl
        at_end false u q = q
    by_begun u (Async c ps) p q = rw p refl
    by_begun u b p q = absurd (false≢true p)
root_still (Refuse u a x ∷ w) k = absurd (false≢true k)
root_still (Fail u x ∷ w) k = absurd (false≢true k)
root_still (Phaser m s ∷ w) k = root_still w (and_parts (is_plain (Phaser m s)) (list_all is_plain w) k).1
root_still (Finish f s ∷ w) k = root_still w (and_parts (is_plain (Finish f s)) (list_all is_plain w) k).1

-- so each phaser's history is still
module _ (l : Limits) where
  mover_is_child : (w : List WorldEvent) → IsPlain l w → (u : ℕ) (e : WorldEvent) (ds : List WorldEvent)
      → due u w ≡ e ∷ ds → is_any_move e ≡ true → (u == 0) ≡ false
  mover_is_child w k u e ds here y =
      false_from_ne_true (u == 0) (λ z. true≢false
      (sym (subst (λ v. moves_act (last_entry v w) ≡ true) (eqb-true u 0 z) (move_act l u w ds e k.legal here y))
      ∙ root_still w k.plain))

  still_or : (b : Bool) (e : Event) (h : List Event) → is_still e ≡ true → list_all is_still h ≡ true
      → list_all is_still (cond b (e ∷ h) h) ≡ true
  still_or true e h x k = and_from (is_still e) (list_all is_still h) x k
  still_or false e h x k = k

  pub still_past : (n : ℕ) (w : List WorldEvent) → IsPlain l w → list_all is_still (phaser_past n w) ≡ true
  still_past n [] k = refl
  still_past n (Phaser m s ∷ w) k =
      let f = last_of_plain l (Phaser m s) w k in
      still_or (m == n) (event_for (terms_of n w) (phaser_past n w) s) (phaser_past n w)
      (by_step s f.accepted f.before) (still_past n w f.before)
    where
      by_step : (s : Step) → is_accepted l w (Phaser m s) ≡ true → IsPlain l w
          → is_still (event_for (terms_of n w) (phaser_past n w) s) ≡ true
      by_step (Sig u x) a b =
          let e = Phaser m (Sig u x) in
          ap (λ y. not y) (mover_is_child w b u e (due u (e ∷ w)) (due_next l w e u (part_made l w e a).0 refl refl refl) refl)
      by_step (Pass u) a b =
          let e = Phaser m (Pass u) in
          ap (λ y. not y) (mover_is_child w b u e (due u (e ∷ w)) (due_next l w e u (part_made l w e a).0 refl refl refl) refl)
      by_step (Reg q u o) a b =
          eq-eqb q 0 (sym (named_by_spawn l q u w b.legal (registering l w m q u o b.legal a).begun).1
          ∙ spawner_is_root u w b.plain)
      by_step s a b = refl
  still_past n (e ∷ w) k = still_past n w (last_of_plain l e w k).before
