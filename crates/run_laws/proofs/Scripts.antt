-- A legal history that follows a program goes by the program's bodies; so the laws hold of programs.
use Rattle.std.proofs.Common.{◌≡◌, ℕ, Bool, true, false, ◌||◌, ◌==◌, cond, List, [], ◌∷◌, Option, Some, None, refl, sym, subst, ap, ◌∙◌, inl, inr}
use Rattle.std.specs.Prelude.{drop, slice_get}
use Rattle.std.specs.List.{list_any}
use Rattle.std.proofs.lemmas.Bool.{and_parts, and_from, or_cases, cases_Bool, eqb-true, false≢true}
use Rattle.phase_modes.specs.declared.limits.Limits.{Limits}
use Rattle.phase_modes.specs.declared.phased.Pair.{Pair}
use Rattle.finish_core.specs.declared.event.FinishEvent.TheVariants.{Opened}
use Rattle.job_script.specs.Acts as texts
use Rattle.job_script.specs.Acts.{Acts, no_acts, flat}
use Rattle.job_script.specs.Program.{Program}
use Rattle.job_script.specs.Steps.{Script, given_name, named, next_for, act_for}
use Rattle.job_script.specs.declared.head.Head.{Head}
use Rattle.job_script.specs.declared.head.Head.TheVariants as heads
use Rattle.world_model.specs.declared.event.Step.TheVariants.{Make, Send, Look}
use Rattle.world_model.specs.declared.event.Begun.TheVariants.{Async}
use Rattle.world_model.specs.declared.event.Tried.{Tried}
use Rattle.world_model.specs.declared.event.Tried.TheVariants.{Begun as Beginning, New, Open, Send as Sending, Look as Looking}
use Rattle.world_model.specs.declared.event.WorldEvent.{WorldEvent}
use Rattle.world_model.specs.declared.event.WorldEvent.TheVariants.{Phaser, Finish, Begin, Refuse}
use Rattle.world_model.specs.Drawing.{own_pairs}
use Rattle.world_model.specs.Due.{is_idle}
use Rattle.world_model.specs.GivingUp.{may_refuse}
use Rattle.world_model.specs.Numbers.{is_named, names}
use Rattle.world_model.specs.Replies.{is_legal_world, is_accepted}
use Rattle.world_model.proofs.MadeMeans.{last_accepted}
use Rattle.world_model.proofs.AbleComputed.{idle_in_act, refuse_idle, made_done_where}
use Rattle.world_model.proofs.PassesInTurns.{idle_is_born}
use Rattle.world_model.proofs.BornWhereNamed.{born_named}
use Rattle.trace_walk.specs.Going.{does, heard, child_does, is_next, goes_by}
use Rattle.trace_walk.specs.Walking.{Does, script_next}
use Rattle.trace_walk.specs.Scripts.{Made, Numbers, act_of, is_of, parent_by}
use Rattle.trace_walk.specs.Given.{tried_of}
use Rattle.trace_walk.specs.Follows.{drawn, same_act}
use Rattle.trace_walk.specs.Scripts.{body_of, acts_left, next_act, meanings, meant_after, tried_as, tried_next}
use Rattle.trace_walk.specs.Follows.{is_next as is_its_next, follows}
use Rattle.run_laws.specs.Programs.{script_root, FollowersGoByScripts, IsProgramRun, ProgramsComeToTheSame}
use Rattle.run_laws.specs.Determinacy.{IsRun}
use Rattle.run_laws.specs.Telling.{Told}
use Rattle.trace_walk.proofs.Giving.{next_given}
use Rattle.run_laws.proofs.Main.{tasks_do_the_same}
use Rattle.run_laws.proofs.Reports.{runs_come_to_the_same}

-- a body that has these acts left, with these meanings, as it gives the first
abbrev standing : List ℕ → List texts.Act → Does Script
standing ms left = (
  next_for ms (slice_get left 0),
  record { left = drop 1 left; meanings = ms; naming = given_name (slice_get left 0) },
)

-- the body that a spawn hands to its child
spawned : (w : List WorldEvent) (u c : ℕ) (ps : List Pair) (ms : List ℕ) (new : Numbers) (h : Head) (body : Acts) (before : Does Script)
    → same_act (Beginning (Async c ps)) (tried_as w u ms new h) ≡ true
    → child_does script_next (act_for ms h body) before ≡ standing ms (flat body)
spawned w u c ps ms new (heads.Async xs) body before k = refl
spawned w u c ps ms new heads.AsyncAll body before k = refl
spawned w u c ps ms new (heads.New name m terms) body before k = absurd (false≢true k)
spawned w u c ps ms new heads.OpenFinish body before k = absurd (false≢true k)
spawned w u c ps ms new heads.ShutFinish body before k = absurd (false≢true k)
spawned w u c ps ms new heads.Signal body before k = absurd (false≢true k)
spawned w u c ps ms new heads.Wait body before k = absurd (false≢true k)
spawned w u c ps ms new heads.Next body before k = absurd (false≢true k)
spawned w u c ps ms new (heads.NextSingle n) body before k = absurd (false≢true k)
spawned w u c ps ms new (heads.Send name a v) body before k = absurd (false≢true k)
spawned w u c ps ms new (heads.Look name a) body before k = absurd (false≢true k)
spawned w u c ps ms new (heads.Repeat n) body before k = absurd (false≢true k)

spawned_by : (w : List WorldEvent) (u c : ℕ) (ps : List Pair) (ms : List ℕ) (new : Numbers) (o : Option texts.Act) (before : Does Script)
    → same_act (Beginning (Async c ps)) (tried_next w u ms new o) ≡ true
    → child_does script_next (next_for ms o) before ≡ standing ms (flat (body_of o))
spawned_by w u c ps ms new None before k = absurd (false≢true k)
spawned_by w u c ps ms new (Some a) before k = spawned w u c ps ms new a.head a.body before k

abbrev task_or : Option Made → ℕ
task_or None = 0
task_or (Some m) = m.task

-- who makes or is refused an act is named
pub maker_named : (l : Limits) (e : WorldEvent) (w : List WorldEvent) (m : Made) → is_legal_world l w ≡ true
    → is_accepted l w e ≡ true → act_of e ≡ Some m → is_named m.task w ≡ true
maker_named l e w m k a h = subst (λ u. is_named u w ≡ true) (ap task_or h) (by_event e a h)
  where
    idle_named : (u : ℕ) → is_idle u w ≡ true → is_named u w ≡ true
    idle_named u i = born_named l u w k (idle_is_born u w i)

    none_some : None ≡ Some m → ⊥
    none_some x = cc

    by_event : (e : WorldEvent) → is_accepted l w e ≡ true → act_of e ≡ Some m → is_named (task_or (act_of e)) w ≡ true
    by_event (Phaser n (Make u o terms)) a h = idle_named u (idle_in_act l w u (New n o terms) a)
    by_event (Phaser n (Send u x v)) a h = idle_named u (idle_in_act l w u (Sending n x v) a)
    by_event (Phaser n (Look u x)) a h = idle_named u (idle_in_act l w u (Looking n x) a)
    by_event (Finish f (Opened u)) a h = idle_named u (idle_in_act l w u (Open f) a)
    by_event (Begin u b) a h = idle_named u (idle_in_act l w u (Beginning b) a)
    by_event (Refuse u b x) a h = idle_named u (refuse_idle l w u b x (made_done_where (may_refuse l w u b x) a))
    by_event e a h = absurd (none_some h)

same_meant : (b : Bool) (ms : List ℕ) → ms ≡ cond b ms ms
same_meant true ms = refl
same_meant false ms = refl

module _ (p : Program) where
  abbrev root : Script
  root = script_root p

  abbrev IsThere : List WorldEvent → ℕ → Type 0
  IsThere w t = does script_next root w t ≡ standing (meanings p w t) (acts_left p w t)

  -- what names mean to a task after an event by which nobody spawns it
  meant : (w : List WorldEvent) (t : ℕ) (e : WorldEvent)
      → meant_after p w t e None (meanings p w)
      ≡ cond (is_of t (act_of e)) (named (heard w e) (given_name (next_act p w t)) (meanings p w t)) (meanings p w t)
  meant w t (Phaser n (Make u o terms)) = refl
  meant w t (Phaser n (Send u a v)) = same_meant (u == t) (meanings p w t)
  meant w t (Phaser n (Look u a)) = same_meant (u == t) (meanings p w t)
  meant w t (Finish f (Opened u)) = same_meant (u == t) (meanings p w t)
  meant w t (Begin u (Async c ps)) = same_meant (u == t) (meanings p w t)
  meant w t (Begin u b) = same_meant (u == t) (meanings p w t)
  meant w t (Refuse u b x) = same_meant (u == t) (meanings p w t)
  meant w t e = refl

  goes_past : (w : List WorldEvent) (t : ℕ) (e : WorldEvent) → parent_by t e ≡ None → IsThere w t → IsThere (e ∷ w) t
  goes_past w t e none k =
      rw none
      (by_test (is_of t (act_of e))
      ∙ ap (λ ms. standing ms (cond (is_of t (act_of e)) (drop 1 (acts_left p w t)) (acts_left p w t))) (sym (meant w t e)))
    where
      by_test : (b : Bool) → cond b (script_next (heard w e) (does script_next root w t).1) (does script_next root w t)
          ≡ standing (cond b (named (heard w e) (given_name (next_act p w t)) (meanings p w t)) (meanings p w t))
          (cond b (drop 1 (acts_left p w t)) (acts_left p w t))
      by_test true = ap (λ (d : Does Script). script_next (heard w e) d.1) k
      by_test false = k

  there : (w : List WorldEvent) → is_legal_world p.limits w ≡ true → follows p w ≡ true → (t : ℕ)
      → is_named t w ≡ true → IsThere w t
  there [] k f t n =
      elim (or_cases (t == 0) false n) [
        | inl z ↦ subst (λ x. IsThere [] x) (sym (eqb-true t 0 z)) refl
        | inr z ↦ absurd (false≢true z)
      ]
  there (Begin u (Async c ps) ∷ w) k f t n =
      let a = last_accepted p.limits (Begin u (Async c ps)) w k in
      let g = and_parts (is_its_next p w (act_of (Begin u (Async c ps)))) (follows p w) f in
      let by = there w a.1 g.1 u (maker_named p.limits (Begin u (Async c ps)) w (record { task = u; act = Beginning (Async c ps) }) a.1 a.0 refl) in
      elim (cases_Bool (c == t)) [
        | inl e ↦
            rw e (ap (λ (d : Does Script). child_does script_next d.0 (does script_next root w t)) by
            ∙ spawned_by w u c ps (meanings p w u) (drawn (Beginning (Async c ps))) (next_act p w u) (does script_next root w t) g.0)
        | inr e ↦
            goes_past w t (Begin u (Async c ps)) (rw e refl)
            (there w a.1 g.1 t (subst (λ b. ((t == 0) || (b || list_any (names t) w)) ≡ true) e n))
      ]
  there (e ∷ w) k f t n =
      let a = last_accepted p.limits e w k in
      let g = and_parts (is_its_next p w (act_of e)) (follows p w) f in
      goes_past w t e refl (there w a.1 g.1 t n)

  goes : (w : List WorldEvent) → is_legal_world p.limits w ≡ true → follows p w ≡ true
      → goes_by script_next root w ≡ true
  goes [] k f = refl
  goes (e ∷ w) k f =
      let a = last_accepted p.limits e w k in
      let g = and_parts (is_its_next p w (act_of e)) (follows p w) f in
      and_from (is_next script_next root w (act_of e)) (goes_by script_next root w)
      (by_act (act_of e) (λ m h. maker_named p.limits e w m a.1 a.0 h) g.0 (λ t n. there w a.1 g.1 t n)) (goes w a.1 g.1)
    where
      by_act : (o : Option Made) → ((m : Made) → o ≡ Some m → is_named m.task w ≡ true) → is_its_next p w o ≡ true
          → ((t : ℕ) → is_named t w ≡ true → IsThere w t) → is_next script_next root w o ≡ true
      by_act None n h at = refl
      by_act (Some m) n h at =
          subst (λ (d : Does Script). same_act m.act (tried_of (own_pairs m.task w) (drawn m.act) d.0) ≡ true)
          (sym (at m.task (n m refl)))
          (subst (λ (x : Tried). same_act m.act x ≡ true)
          (sym (next_given w m.task (meanings p w m.task) (drawn m.act) (next_act p w m.task))) h)

pub followers_go_by_scripts : FollowersGoByScripts
followers_go_by_scripts p w k f = goes p w k f

pub run_of : (p : Program) (names : ℕ → List Told → Numbers) (w : List WorldEvent) → IsProgramRun p names w
    → IsRun script_next (script_root p) names p.limits w
run_of p names w r =
    record {
      whole = record {
        smooth = record { legal = r.legal; goes = goes p w r.legal r.follows_it; unrefused = r.unrefused };
        ended = r.ended;
      };
      draws = r.draws;
    }

pub programs_come_to_the_same : ProgramsComeToTheSame
programs_come_to_the_same p names v w one other =
    let a = run_of p names v one in
    let b = run_of p names w other in (
      tasks_do_the_same script_next (script_root p) names p.limits v w a b,
      runs_come_to_the_same script_next (script_root p) names p.limits v w a b,
    )
