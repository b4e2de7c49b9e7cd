-- Which task an event is about on a phaser, who makes it, and what it leaves of others.
use Rattle.std.proofs.Common.{◌≡◌, ℕ, Bool, true, false, ◌==◌, cond, List, [], ◌∷◌, refl, sym, subst, ap, ◌∙◌, inl, inr}
use Rattle.std.proofs.lemmas.Bool.{cases_Bool, eqb-true, eq-eqb, true≢false, false_from_ne_true}
use Rattle.phase_modes.specs.Lists.{is_empty}
use Rattle.phase_modes.specs.declared.reg.Mode.{Mode}
use Rattle.phase_modes.specs.declared.limits.Limits.{Limits}
use Rattle.finish_core.specs.declared.event.FinishEvent.TheVariants.{Spawned}
use Rattle.world_model.specs.declared.event.Step.{Step}
use Rattle.world_model.specs.declared.event.Step.TheVariants.{Make, Reg, Sig, Claim, Did, Pass, Send, Look, Drop}
use Rattle.world_model.specs.declared.event.Tried.TheVariants.{New, Send as Sending, Look as Looking}
use Rattle.world_model.specs.declared.event.WorldEvent.{WorldEvent}
use Rattle.world_model.specs.declared.event.WorldEvent.TheVariants.{Phaser, Finish, Begin, Refuse, Fail}
use Rattle.world_model.specs.Tasks.{spawner, spawns, is_born}
use Rattle.world_model.specs.Actors.{actor}
use Rattle.world_model.specs.Due.{due}
use Rattle.world_model.specs.Replies.{is_legal_world, is_accepted}
use Rattle.world_model.proofs.MadeMeans.{IsNext, part_made}
use Rattle.world_model.proofs.AbleComputed.{idle_in_act}
use Rattle.world_model.proofs.NextIsDue.{First, first_due}
use Rattle.world_model.proofs.SpawnUnderWay.{named_by_spawn}
use Rattle.world_model.proofs.BornWhereNamed.{birth, registering, unborn_child}
use Rattle.world_model.proofs.PassesInTurns.{idle_is_born, unborn_none, no_entry_due}

-- the step is about t
abbrev pub is_about : ℕ → Step → Bool
is_about t (Make u m terms) = u == t
is_about t (Reg q u m) = u == t
is_about t (Sig u x) = u == t
is_about t (Claim u) = u == t
is_about t (Did u) = u == t
is_about t (Pass u) = u == t
is_about t (Send u a v) = u == t
is_about t (Look u a) = u == t
is_about t (Drop u) = u == t

abbrev pub touches : ℕ → WorldEvent → Bool
touches t (Phaser n s) = is_about t s
touches t _ = false

-- who makes t's steps: t itself, and before its birth its spawner
abbrev pub agent : ℕ → List WorldEvent → ℕ
agent t w = cond (is_born t w) t (spawner t w)

pub none_first : (l : Limits) (w : List WorldEvent) (e : WorldEvent) (ds : List WorldEvent) → ds ≡ []
    → First l w ds e → ⊥
none_first l w e ds n f = no_more f.due f.rest (sym n ∙ f.is)
  where
    no_more : (d : WorldEvent) (rest : List WorldEvent) → [] ≡ d ∷ rest → ⊥
    no_more d rest h = absurd cc

-- a task that isn't born has nothing due
pub unborn_idle : (l : Limits) (t : ℕ) (w : List WorldEvent) → is_legal_world l w ≡ true
    → is_born t w ≡ false → due t w ≡ []
unborn_idle l t w k b = no_entry_due t w (unborn_none l t w k b)

-- who continues an act was born
pub next_is_born : (l : Limits) (w : List WorldEvent) (e : WorldEvent) → is_legal_world l w ≡ true
    → IsNext l w e → is_born (actor w e) w ≡ true
next_is_born l w e k n =
    elim (cases_Bool (is_born (actor w e) w)) [
      | inl b ↦ b
      | inr b ↦
          absurd (none_first l w e (due (actor w e) w) (unborn_idle l (actor w e) w k b) (first_due l w e n))
    ]

-- a child that is born was not there before
pub birth_unborn : (l : Limits) (w : List WorldEvent) (f c : ℕ) → is_legal_world l w ≡ true
    → is_accepted l w (Finish f (Spawned c)) ≡ true → is_born c w ≡ false
birth_unborn l w f c k a =
    let b = birth l w f c k a in unborn_child l (spawner c w) c w k b.0 (ap (λ ds. is_empty ds) b.1)

-- nor a child that is registered
pub reg_unborn : (l : Limits) (w : List WorldEvent) (n q c : ℕ) (m : Mode) → is_legal_world l w ≡ true
    → is_accepted l w (Phaser n (Reg q c m)) ≡ true → is_born c w ≡ false
reg_unborn l w n q c m k a =
    let r = registering l w n q c m k a in unborn_child l q c w k r.begun (ap (λ ds. is_empty ds) r.here)

pub born_once : (l : Limits) (w : List WorldEvent) (e : WorldEvent) (t : ℕ) → is_legal_world l w ≡ true
    → is_accepted l w e ≡ true → is_born t w ≡ true → spawns t e ≡ false
born_once l w (Finish f (Spawned u)) t k a b =
    false_from_ne_true (u == t) (λ s. true≢false
    (sym (subst (λ v. is_born v w ≡ true) (sym (eqb-true u t s)) b) ∙ birth_unborn l w f u k a))
born_once l w e t k a b = refl

module _ (l : Limits) (w : List WorldEvent) (k : is_legal_world l w ≡ true) where
  own_agent : (u : ℕ) → is_born u w ≡ true → u ≡ agent u w
  own_agent u b = rw b refl

  by_part : (n : ℕ) (s : Step) → IsNext l w (Phaser n s) → is_born (actor w (Phaser n s)) w ≡ true
  by_part n s x = next_is_born l w (Phaser n s) k x

  -- who makes the step is the agent of whom it is about
  agent_of : (n t : ℕ) (s : Step) → is_accepted l w (Phaser n s) ≡ true → is_about t s ≡ true
      → actor w (Phaser n s) ≡ agent t w
  agent_of n t (Make u m terms) a s =
      own_agent u (idle_is_born u w (idle_in_act l w u (New n m terms) a))
      ∙ ap (λ v. agent v w) (eqb-true u t s)
  agent_of n t (Send u c v) a s =
      own_agent u (idle_is_born u w (idle_in_act l w u (Sending n c v) a))
      ∙ ap (λ x. agent x w) (eqb-true u t s)
  agent_of n t (Look u c) a s =
      own_agent u (idle_is_born u w (idle_in_act l w u (Looking n c) a))
      ∙ ap (λ v. agent v w) (eqb-true u t s)
  agent_of n t (Reg q u m) a s =
      let r = registering l w n q u m k a in
      let by : spawner u w ≡ q = (named_by_spawn l q u w k r.begun).1 in
      let here : q ≡ agent u w = rw (reg_unborn l w n q u m k a) (sym by) in
      here ∙ ap (λ v. agent v w) (eqb-true u t s)
  agent_of n t (Sig u x) a s =
      own_agent u (by_part n (Sig u x) (part_made l w (Phaser n (Sig u x)) a).0)
      ∙ ap (λ v. agent v w) (eqb-true u t s)
  agent_of n t (Claim u) a s =
      own_agent u (by_part n (Claim u) (part_made l w (Phaser n (Claim u)) a).0)
      ∙ ap (λ v. agent v w) (eqb-true u t s)
  agent_of n t (Did u) a s =
      own_agent u (by_part n (Did u) (part_made l w (Phaser n (Did u)) a).0)
      ∙ ap (λ v. agent v w) (eqb-true u t s)
  agent_of n t (Pass u) a s =
      own_agent u (by_part n (Pass u) (part_made l w (Phaser n (Pass u)) a).0)
      ∙ ap (λ v. agent v w) (eqb-true u t s)
  agent_of n t (Drop u) a s = ap (λ v. agent v w) (eqb-true u t s)

  pub touched_by : (e : WorldEvent) (t : ℕ) → is_accepted l w e ≡ true → touches t e ≡ true
      → actor w e ≡ agent t w
  touched_by (Phaser n s) t a h = agent_of n t s a h
  touched_by (Finish f s) t a h = absurd (true≢false (sym h))
  touched_by (Begin u b) t a h = absurd (true≢false (sym h))
  touched_by (Refuse u b x) t a h = absurd (true≢false (sym h))
  touched_by (Fail u x) t a h = absurd (true≢false (sym h))

  -- others don't touch a task
  pub untouched : (e : WorldEvent) (t q : ℕ) → is_accepted l w e ≡ true → agent t w ≡ q
      → (actor w e == q) ≡ false → touches t e ≡ false
  untouched e t q a g o =
      false_from_ne_true (touches t e) (λ h. same_not (actor w e) q (touched_by e t a h ∙ g) o)
    where
      same_not : (x y : ℕ) → x ≡ y → (x == y) ≡ false → ⊥
      same_not x y s n = true≢false (sym (eq-eqb x y s) ∙ n)

  pub untouched_born : (e : WorldEvent) (t : ℕ) → is_accepted l w e ≡ true → is_born t w ≡ true
      → (actor w e == t) ≡ false → touches t e ≡ false
  untouched_born e t a b o = untouched e t t a (sym (own_agent t b)) o
