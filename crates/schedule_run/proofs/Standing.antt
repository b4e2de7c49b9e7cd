-- Where a task of a program stands after each event.
use Rattle.std.proofs.Common.{ℕ, ◌≡◌, ◌≢◌, Bool, true, false, ◌==◌, List, ◌∷◌, drop, Option, Some, None, refl, sym, ◌∙◌}
use Rattle.std.proofs.lemmas.Bool.{eqb-true, false_from_ne_true}
use Rattle.phase_modes.specs.declared.reg.Mode.{Mode}
use Rattle.phase_modes.specs.declared.phased.Pair.{Pair}
use Rattle.phase_model.specs.declared.terms.Terms.{Terms}
use Rattle.finish_core.specs.declared.event.FinishEvent.TheVariants.{Opened, Spawned, Ended, Shut as Shutting}
use Rattle.job_script.specs.Acts.{flat}
use Rattle.job_script.specs.Program.{Program}
use Rattle.job_script.specs.Steps.{named_as, given_name}
use Rattle.world_model.specs.declared.event.Step.TheVariants.{Make, Reg, Sig, Claim, Did, Pass, Send, Look, Drop}
use Rattle.world_model.specs.declared.event.Begun.TheVariants.{Async, Signal, Wait, Next, NextSingle, Shut, End}
use Rattle.world_model.specs.declared.event.WorldEvent.{WorldEvent}
use Rattle.world_model.specs.declared.event.WorldEvent.TheVariants.{Phaser, Finish, Begin, Refuse, Fail}
use Rattle.trace_walk.specs.Scripts.{Made, act_of, is_of, parent_by, body_of, acts_left, meanings, next_act}
use Rattle.trace_walk.proofs.Events.{eq_self}
use Rattle.schedule_run.specs.inner.Bodies.{Standing, standing}

-- an act has one task
pub one_task : (t u : ℕ) (o : Option Made) → is_of t o ≡ true → u ≢ t → is_of u o ≡ false
one_task t u None h k = absurd cc
one_task t u (Some m) h k =
    false_from_ne_true (m.task == u) (λ e. k (sym (eqb-true m.task u e) ∙ eqb-true m.task t h))

-- the event makes a phaser
abbrev pub is_making : WorldEvent → Bool
is_making (Phaser n (Make t m terms)) = true
is_making _ = false

-- an event that is no act of u, and names nobody u, leaves u where it is
pub unmoved : (p : Program) (w : List WorldEvent) (u : ℕ) (e : WorldEvent) → is_of u (act_of e) ≡ false
    → parent_by u e ≡ None → standing p (e ∷ w) u ≡ standing p w u
unmoved p w u (Phaser n (Make v m terms)) h k = let own : (v == u) ≡ false = h in rw own refl
unmoved p w u (Phaser n (Reg q v m)) h k = refl
unmoved p w u (Phaser n (Sig v x)) h k = refl
unmoved p w u (Phaser n (Claim v)) h k = refl
unmoved p w u (Phaser n (Did v)) h k = refl
unmoved p w u (Phaser n (Pass v)) h k = refl
unmoved p w u (Phaser n (Send v a x)) h k = let own : (v == u) ≡ false = h in rw own refl
unmoved p w u (Phaser n (Look v a)) h k = let own : (v == u) ≡ false = h in rw own refl
unmoved p w u (Phaser n (Drop v)) h k = refl
unmoved p w u (Finish f (Opened v)) h k = let own : (v == u) ≡ false = h in rw own refl
unmoved p w u (Finish f (Spawned v)) h k = refl
unmoved p w u (Finish f (Ended v)) h k = refl
unmoved p w u (Finish f Shutting) h k = refl
unmoved p w u (Begin v (Async c pairs)) h k = let own : (v == u) ≡ false = h in rw (k, own) refl
unmoved p w u (Begin v Signal) h k = let own : (v == u) ≡ false = h in rw own refl
unmoved p w u (Begin v Wait) h k = let own : (v == u) ≡ false = h in rw own refl
unmoved p w u (Begin v Next) h k = let own : (v == u) ≡ false = h in rw own refl
unmoved p w u (Begin v (NextSingle n)) h k = let own : (v == u) ≡ false = h in rw own refl
unmoved p w u (Begin v Shut) h k = let own : (v == u) ≡ false = h in rw own refl
unmoved p w u (Begin v End) h k = let own : (v == u) ≡ false = h in rw own refl
unmoved p w u (Refuse v a n) h k = let own : (v == u) ≡ false = h in rw own refl
unmoved p w u (Fail v n) h k = refl

-- an event that is no act names nobody, and leaves each task where it is
pub quiet : (p : Program) (w : List WorldEvent) (u : ℕ) (e : WorldEvent) → act_of e ≡ None
    → standing p (e ∷ w) u ≡ standing p w u
quiet p w u (Phaser n (Make v m terms)) h = absurd cc
quiet p w u (Phaser n (Reg q v m)) h = refl
quiet p w u (Phaser n (Sig v x)) h = refl
quiet p w u (Phaser n (Claim v)) h = refl
quiet p w u (Phaser n (Did v)) h = refl
quiet p w u (Phaser n (Pass v)) h = refl
quiet p w u (Phaser n (Send v a x)) h = absurd cc
quiet p w u (Phaser n (Look v a)) h = absurd cc
quiet p w u (Phaser n (Drop v)) h = refl
quiet p w u (Finish f (Opened v)) h = absurd cc
quiet p w u (Finish f (Spawned v)) h = refl
quiet p w u (Finish f (Ended v)) h = refl
quiet p w u (Finish f Shutting) h = refl
quiet p w u (Begin v b) h = absurd cc
quiet p w u (Refuse v a n) h = absurd cc
quiet p w u (Fail v n) h = refl

-- an act of t that makes no phaser takes one act off t's list
pub acted : (p : Program) (w : List WorldEvent) (t : ℕ) (e : WorldEvent) → is_of t (act_of e) ≡ true
    → parent_by t e ≡ None → is_making e ≡ false
    → ◌≡◌ {A = Standing} (standing p (e ∷ w) t) (record {
      left = drop 1 (acts_left p w t);
      meanings =
          meanings p w t;
    })
acted p w t (Phaser n (Make v m terms)) h k s = absurd cc
acted p w t (Phaser n (Reg q v m)) h k s = absurd cc
acted p w t (Phaser n (Sig v x)) h k s = absurd cc
acted p w t (Phaser n (Claim v)) h k s = absurd cc
acted p w t (Phaser n (Did v)) h k s = absurd cc
acted p w t (Phaser n (Pass v)) h k s = absurd cc
acted p w t (Phaser n (Send v a x)) h k s = let own : (v == t) ≡ true = h in rw own refl
acted p w t (Phaser n (Look v a)) h k s = let own : (v == t) ≡ true = h in rw own refl
acted p w t (Phaser n (Drop v)) h k s = absurd cc
acted p w t (Finish f (Opened v)) h k s = let own : (v == t) ≡ true = h in rw own refl
acted p w t (Finish f (Spawned v)) h k s = absurd cc
acted p w t (Finish f (Ended v)) h k s = absurd cc
acted p w t (Finish f Shutting) h k s = absurd cc
acted p w t (Begin v (Async c pairs)) h k s = let own : (v == t) ≡ true = h in rw (k, own) refl
acted p w t (Begin v Signal) h k s = let own : (v == t) ≡ true = h in rw own refl
acted p w t (Begin v Wait) h k s = let own : (v == t) ≡ true = h in rw own refl
acted p w t (Begin v Next) h k s = let own : (v == t) ≡ true = h in rw own refl
acted p w t (Begin v (NextSingle n)) h k s = let own : (v == t) ≡ true = h in rw own refl
acted p w t (Begin v Shut) h k s = let own : (v == t) ≡ true = h in rw own refl
acted p w t (Begin v End) h k s = let own : (v == t) ≡ true = h in rw own refl
acted p w t (Refuse v a n) h k s = let own : (v == t) ≡ true = h in rw own refl
acted p w t (Fail v n) h k s = absurd cc

-- a phaser that t makes has the name of the `new`
pub making : (p : Program) (w : List WorldEvent) (t n : ℕ) (m : Mode) (terms : Terms)
    → ◌≡◌ {A = Standing} (standing p (Phaser n (Make t m terms) ∷ w) t)
    (record {
      left = drop 1 (acts_left p w t);
      meanings =
          named_as (given_name (next_act p w t)) n (meanings p w t);
    })
making p w t n m terms = rw (eq_self t) refl

-- a child begins with the body of the spawn, and with its parent's names
pub naming : (p : Program) (w : List WorldEvent) (t c : ℕ) (pairs : List Pair)
    → ◌≡◌ {A = Standing} (standing p (Begin t (Async c pairs) ∷ w) c)
    (record { left = flat (body_of (next_act p w t)); meanings = meanings p w t })
naming p w t c pairs = rw (eq_self c) refl
