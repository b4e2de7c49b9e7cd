-- A task begins an act that goes on by a plan, is refused one, or gives up.
use Rattle.std.proofs.Common.{◌≡◌, ℕ, ◌+◌, ◌==◌, Bool, true, false, ◌&&◌, not, min, cond, List, [], ◌∷◌, ◌++◌, map, append_assoc, Option, Some, None, unwrap_or, refl, sym, ap, ◌∙◌}
use Rattle.std.specs.Prelude.{filter}
use Rattle.std.specs.Option.{option_map_or}
use Rattle.std.proofs.lemmas.List.{append-nil}
use Rattle.phase_modes.specs.declared.limits.Limits.{Limits}
use Rattle.phase_modes.specs.declared.reg.Mode.{Mode}
use Rattle.phase_modes.specs.declared.reg.Mode.TheVariants.{Wait as Waiting}
use Rattle.phase_modes.specs.Mode.{can_signal}
use Rattle.phase_model.specs.Tasks.{mode_of}
use Rattle.phase_model.specs.Phases.{waits, signals}
use Rattle.finish_core.specs.declared.event.FinishEvent.TheVariants.{Spawned, Ended, Shut as Shutting}
use Rattle.world_model.specs.declared.event.Begun.{Begun}
use Rattle.world_model.specs.declared.event.Begun.TheVariants.{Async, Signal, Wait, Next, NextSingle, Shut, End}
use Rattle.world_model.specs.declared.event.Step.TheVariants.{Reg, Sig, Pass, Drop}
use Rattle.world_model.specs.declared.event.WorldEvent.{WorldEvent}
use Rattle.world_model.specs.declared.event.WorldEvent.TheVariants.{Phaser, Finish, Begin}
use Rattle.world_model.specs.Due.{fixed_by, ending, drops_due, passes_due, signals_due, is_behind, unborn}
use Rattle.world_model.specs.Parts.{phaser_past}
use Rattle.world_model.specs.Scopes.{inner, enclosing, open_finishes}
use Rattle.world_model.specs.Tasks.{phasers_of, acts, home}
use Rattle.world_model.proofs.SmallWords.{eq_self}
use Rattle.task_standing.specs.declared.plan.Plan.TheVariants as plan
use Rattle.task_standing.specs.Known.{Known}
use Rattle.task_standing.specs.Standing.{owes}
use Rattle.task_standing.specs.StillToMake.{planned, signals_of, passes_of, drops_of, shuts_of}
use Rattle.task_standing.specs.Histories.{held_in, IsOf, IsAbout}
use Rattle.task_standing.specs.Noted.{plan_of}
use Rattle.task_standing.specs.Laws.{BeginsBegin, RefusalsEnd, FailuresEnd}
use Rattle.task_standing.specs.Children.{FailuresEndWith}
use Rattle.task_standing.proofs.Alike.{one_act_more}
use Rattle.task_standing.proofs.Making.{inner_is}
use Rattle.task_standing.proofs.Named.{unborn_are_named}

both_ways : (c e : Bool) → (c && not (c && not e)) ≡ (c && e)
both_ways true true = refl
both_ways true false = refl
both_ways false e = refl

by_mode : (o : Option Mode) (e : Bool) → (can_signal (unwrap_or o Waiting) && not (option_map_or can_signal o false && not e)) ≡ (option_map_or can_signal o false && e)
by_mode None e = refl
by_mode (Some m) e = both_ways (can_signal m) e

-- a signal is owed where the task is behind
owes_is : (w : List WorldEvent) (t n : ℕ) → owes (held_in w t n) ≡ is_behind t (phaser_past n w)
owes_is w t n =
    by_mode (mode_of t (phaser_past n w)) (signals t (phaser_past n w) == waits t (phaser_past n w))

signals_are : (w : List WorldEvent) (t : ℕ) (x : Option ℕ) (ns : List ℕ)
    → map (λ n. Phaser n (Sig t x)) (filter (λ n. is_behind t (phaser_past n w)) ns)
    ≡ signals_of t x (filter owes (map (held_in w t) ns))
signals_are w t x [] = refl
signals_are w t x (n ∷ ns) =
    ap (λ b. map (λ i. Phaser i (Sig t x)) (cond b (n ∷ filter (λ i. is_behind t (phaser_past i w)) ns) (filter (λ i. is_behind t (phaser_past i w)) ns))) (sym (owes_is w t n))
    ∙ by (signals_are w t x ns) (owes (held_in w t n))
  where
    by : map (λ i. Phaser i (Sig t x)) (filter (λ i. is_behind t (phaser_past i w)) ns) ≡ signals_of t x (filter owes (map (held_in w t) ns))
        → (b : Bool) → map (λ i. Phaser i (Sig t x)) (cond b (n ∷ filter (λ i. is_behind t (phaser_past i w)) ns) (filter (λ i. is_behind t (phaser_past i w)) ns))
        ≡ signals_of t x (cond b (held_in w t n ∷ filter owes (map (held_in w t) ns)) (filter owes (map (held_in w t) ns)))
    by rest true = ap (λ es. Phaser n (Sig t x) ∷ es) rest
    by rest false = rest

passes_are : (w : List WorldEvent) (t : ℕ) (ns : List ℕ) → map (λ n. Phaser n (Pass t)) ns ≡ passes_of t (map (held_in w t) ns)
passes_are w t [] = refl
passes_are w t (n ∷ ns) = ap (λ es. Phaser n (Pass t) ∷ es) (passes_are w t ns)

drops_are : (w : List WorldEvent) (t : ℕ) (ns : List ℕ) → map (λ n. Phaser n (Drop t)) ns ≡ drops_of t (map (held_in w t) ns)
drops_are w t [] = refl
drops_are w t (n ∷ ns) = ap (λ es. Phaser n (Drop t) ∷ es) (drops_are w t ns)

inside_are : (w : List WorldEvent) (t f : ℕ) (ns : List ℕ)
    → map (λ n. Phaser n (Drop t)) (filter (λ n. enclosing n w == f) ns)
    ≡ drops_of t (filter (λ h. h.finish == f) (map (held_in w t) ns))
inside_are w t f [] = refl
inside_are w t f (n ∷ ns) = by (inside_are w t f ns) (enclosing n w == f)
  where
    by : map (λ i. Phaser i (Drop t)) (filter (λ i. enclosing i w == f) ns) ≡ drops_of t (filter (λ h. h.finish == f) (map (held_in w t) ns))
        → (b : Bool) → map (λ i. Phaser i (Drop t)) (cond b (n ∷ filter (λ i. enclosing i w == f) ns) (filter (λ i. enclosing i w == f) ns))
        ≡ drops_of t (cond b (held_in w t n ∷ filter (λ h. h.finish == f) (map (held_in w t) ns)) (filter (λ h. h.finish == f) (map (held_in w t) ns)))
    by rest true = ap (λ es. Phaser n (Drop t) ∷ es) rest
    by rest false = rest

module _ (w : List WorldEvent) (k : Known) (st : IsOf w k) where
  signals_here : (x : Option ℕ) → signals_due k.number x w ≡ signals_of k.number x (filter owes k.holding)
  signals_here x =
      signals_are w k.number x (phasers_of k.number w) ∙ ap (λ hs. signals_of k.number x (filter owes hs)) (sym st.holding)

  passes_here : passes_due k.number w ≡ passes_of k.number k.holding
  passes_here = passes_are w k.number (phasers_of k.number w) ∙ ap (λ hs. passes_of k.number hs) (sym st.holding)

  turn_here : (x : Option ℕ) → signals_due k.number x w ++ passes_due k.number w ≡ planned k (plan.Signalling x true)
  turn_here x =
      ap (λ es. es ++ passes_due k.number w) (signals_here x)
      ∙ ap (λ es. signals_of k.number x (filter owes k.holding) ++ es) passes_here

  -- what leads to its end
  pub ending_here : ending k.number w ≡ planned k plan.Ending
  ending_here =
      let t = k.number in
      let last = λ (h : ℕ). cond (t == 0) (Finish 0 Shutting) (Finish h (Ended t)) ∷ [] in
      append_assoc (drops_due t w) (map (λ f. Finish f Shutting) (open_finishes t w)) (last (home t w))
      ∙ (ap (λ ds. ds ++ (map (λ f. Finish f Shutting) (open_finishes t w) ++ last (home t w))) (drops_are w t (phasers_of t w))
      ∙ (ap (λ hs. drops_of t hs ++ (map (λ f. Finish f Shutting) (open_finishes t w) ++ last (home t w))) (sym st.holding)
      ∙ (ap (λ fs. drops_of t k.holding ++ (shuts_of fs ++ last (home t w))) (sym st.finishes)
      ∙ ap (λ h. drops_of t k.holding ++ (shuts_of k.finishes ++ last h)) (sym st.home))))

  -- what an act fixes is its plan
  fixed_here : (b : Begun) → fixed_by k.number b w ≡ planned k (plan_of b)
  fixed_here (Async c pairs) =
      ap (λ f. map (λ p. Phaser p.phaser (Reg k.number c p.mode)) pairs ++ Finish f (Spawned c) ∷ []) (inner_is w k st)
  fixed_here Signal = signals_here None ∙ sym (append-nil (signals_of k.number None (filter owes k.holding)))
  fixed_here Wait = passes_here
  fixed_here Next = turn_here None
  fixed_here (NextSingle x) = turn_here (Some x)
  fixed_here Shut =
      ap (λ ds. ds ++ Finish (inner k.number w) Shutting ∷ []) (inside_are w k.number (inner k.number w) (phasers_of k.number w))
      ∙ (ap (λ hs. drops_of k.number (filter (λ h. h.finish == inner k.number w) hs) ++ Finish (inner k.number w) Shutting ∷ []) (sym st.holding)
      ∙ ap (λ f. drops_of k.number (filter (λ h. h.finish == f) k.holding) ++ Finish f Shutting ∷ []) (inner_is w k st))
  fixed_here End = ending_here

module _ (l : Limits) (w : List WorldEvent) (k : Known) where
  -- an act that is counted
  counted : (b : Begun) → min (k.acts + 1) 18446744073709551615 ≡ acts k.number (Begin k.number b ∷ w) → IsOf w k
      → planned k (plan_of b) ≡ planned (record k { plan = plan_of b; acts = min (k.acts + 1) 18446744073709551615 }) (plan_of b)
      → IsAbout (Begin k.number b ∷ w) (record k { plan = plan_of b; acts = min (k.acts + 1) 18446744073709551615 })
  counted b more st same = record {
    of = record { holding = st.holding; finishes = st.finishes; home = st.home; acts = more };
    due_is = rw (eq_self k.number) (fixed_here w k st b ∙ same);
  }

pub begins_begin : BeginsBegin
begins_begin l w k (Async c pairs) fit legal st =
    counted l w k (Async c pairs) (one_act_more l (Begin k.number (Async c pairs)) w k fit legal (eq_self k.number) st.of) st.of refl
begins_begin l w k Signal fit legal st =
    counted l w k Signal (one_act_more l (Begin k.number Signal) w k fit legal (eq_self k.number) st.of) st.of refl
begins_begin l w k Wait fit legal st =
    counted l w k Wait (one_act_more l (Begin k.number Wait) w k fit legal (eq_self k.number) st.of) st.of refl
begins_begin l w k Next fit legal st =
    counted l w k Next (one_act_more l (Begin k.number Next) w k fit legal (eq_self k.number) st.of) st.of refl
begins_begin l w k (NextSingle x) fit legal st =
    counted l w k (NextSingle x) (one_act_more l (Begin k.number (NextSingle x)) w k fit legal (eq_self k.number) st.of) st.of refl
begins_begin l w k Shut fit legal st =
    counted l w k Shut (one_act_more l (Begin k.number Shut) w k fit legal (eq_self k.number) st.of) st.of refl
begins_begin l w k End fit legal st = record {
  of = record { holding = st.of.holding; finishes = st.of.finishes; home = st.of.home; acts = st.of.acts };
  due_is = rw (eq_self k.number) (ending_here w k st.of);
}

pub refusals_end : RefusalsEnd
refusals_end l w k a n legal st = record {
  of = record { holding = st.holding; finishes = st.finishes; home = st.home; acts = st.acts };
  due_is = rw (eq_self k.number) (ending_here w k st);
}

pub failures_end : FailuresEnd
failures_end l w k n legal named st =
    let none : unborn k.number w ≡ [] = unborn_are_named l w k n legal st ∙ named in
    record {
      of = record { holding = st.of.holding; finishes = st.of.finishes; home = st.of.home; acts = st.of.acts };
      due_is = rw (eq_self k.number, none) (ending_here w k st.of);
    }

pub failures_end_with : FailuresEndWith
failures_end_with l w child k n legal named un st =
    let one : unborn k.number w ≡ child.number ∷ [] = unborn_are_named l w k n legal st ∙ named in
    let left : drops_due child.number w ≡ drops_of child.number child.holding =
    drops_are w child.number (phasers_of child.number w) ∙ ap (λ hs. drops_of child.number hs) (sym un.holding) in (
      record { unborn = un.unborn; holding = un.holding; finishes = un.finishes; acts = un.acts; plan = un.plan },
      record {
        of = record { holding = st.of.holding; finishes = st.of.finishes; home = st.of.home; acts = st.of.acts };
        due_is =
            rw (eq_self k.number, one)
            (ap (λ ds. ds ++ ending k.number w) (append-nil (drops_due child.number w) ∙ left)
            ∙ ap (λ es. drops_of child.number child.holding ++ es) (ending_here w k st.of));
      },
    )
