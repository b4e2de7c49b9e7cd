-- A step on a phaser that registers and drops nobody: what it leaves as it was.
use Rattle.std.proofs.Common.{◌≡◌, ℕ, Bool, true, false, ◌==◌, min, cond, List, [], ◌∷◌, reverse, Option, None, refl, sym, ap, ◌∙◌}
use Rattle.std.specs.Prelude.{filter, filter_map}
use Rattle.phase_modes.specs.Lists.{is_empty}
use Rattle.phase_model.specs.declared.history.Event.{Event}
use Rattle.phase_model.specs.declared.terms.Terms.{Terms}
use Rattle.phase_model.specs.Tasks.{is_live}
use Rattle.world_model.specs.declared.event.Step.{Step}
use Rattle.world_model.specs.declared.event.Step.TheVariants.{Make, Reg, Sig, Claim, Did, Pass, Send, Look, Drop}
use Rattle.world_model.specs.declared.event.WorldEvent.{WorldEvent}
use Rattle.world_model.specs.declared.event.WorldEvent.TheVariants.{Phaser}
use Rattle.world_records.specs.TaskState.{TaskState}
use Rattle.world_model.specs.Parts.{terms_of, phaser_past, event_for}
use Rattle.world_model.specs.Tasks.{phasers_of, joined_by, acts}
use Rattle.world_model.specs.Actors.{actor}
use Rattle.world_records.specs.StandsFor.{TaskStands}
use Rattle.world_model.proofs.OthersLeave.{due_other, clock_other}

-- it registers and drops nobody
abbrev pub IsQuiet : Step → Type 0
IsQuiet (Make t m terms) = ⊥
IsQuiet (Reg q t m) = ⊥
IsQuiet (Drop t) = ⊥
IsQuiet _ = Unit {0}

live_same : (u : ℕ) (terms : Terms) (h : List Event) (s : Step) → IsQuiet s → is_live u (event_for terms h s ∷ h) ≡ is_live u h
live_same u terms h (Make t m o) q = absurd q
live_same u terms h (Reg p t m) q = absurd q
live_same u terms h (Drop t) q = absurd q
live_same u terms h (Sig t x) q = refl
live_same u terms h (Claim t) q = refl
live_same u terms h (Did t) q = refl
live_same u terms h (Pass t) q = refl
live_same u terms h (Send t a v) q = refl
live_same u terms h (Look t a) q = refl

live_after : (u m n : ℕ) (s : Step) (w : List WorldEvent) → IsQuiet s → is_live u (phaser_past m (Phaser n s ∷ w)) ≡ is_live u (phaser_past m w)
live_after u m n s w q =
    elim (n == m) as (λ b. is_live u (cond b (event_for (terms_of m w) (phaser_past m w) s ∷ phaser_past m w) (phaser_past m w)) ≡ is_live u (phaser_past m w))
    [ true ↦ live_same u (terms_of m w) (phaser_past m w) s q | false ↦ refl ]

same_filter : (p q : ℕ → Bool) (xs : List ℕ) → ((n : ℕ) → p n ≡ q n) → filter p xs ≡ filter q xs
same_filter p q [] e = refl
same_filter p q (x ∷ xs) e =
    let rest : filter p xs ≡ filter q xs = same_filter p q xs e in
    rw (e x) (ap (λ ys. cond (q x) (x ∷ ys) ys) rest)

joins_nobody : (u n : ℕ) (s : Step) → IsQuiet s → joined_by u (Phaser n s) ≡ None
joins_nobody u n (Make t m o) q = absurd q
joins_nobody u n (Reg p t m) q = absurd q
joins_nobody u n (Drop t) q = absurd q
joins_nobody u n (Sig t x) q = refl
joins_nobody u n (Claim t) q = refl
joins_nobody u n (Did t) q = refl
joins_nobody u n (Pass t) q = refl
joins_nobody u n (Send t a v) q = refl
joins_nobody u n (Look t a) q = refl

-- each task is on the phasers on which it was
pub phasers_same : (u n : ℕ) (s : Step) (w : List WorldEvent) → IsQuiet s → phasers_of u (Phaser n s ∷ w) ≡ phasers_of u w
phasers_same u n s w q =
    rw (joins_nobody u n s q)
    (same_filter (λ m. is_live u (phaser_past m (Phaser n s ∷ w))) (λ m. is_live u (phaser_past m w)) (reverse (filter_map (joined_by u) w)) (λ m. live_after u m n s w q))

acts_other : (t n : ℕ) (s : Step) (w : List WorldEvent) → IsQuiet s → (actor w (Phaser n s) == t) ≡ false → acts t (Phaser n s ∷ w) ≡ acts t w
acts_other t n (Make u m o) w q k = absurd q
acts_other t n (Reg p u m) w q k = absurd q
acts_other t n (Drop u) w q k = absurd q
acts_other t n (Sig u x) w q k = refl
acts_other t n (Claim u) w q k = refl
acts_other t n (Did u) w q k = refl
acts_other t n (Pass u) w q k = refl
acts_other t n (Send u a v) w q k = rw k refl
acts_other t n (Look u a) w q k = rw k refl

-- another task's line after it
pub other_step : (outers : List (Option ℕ)) (w : List WorldEvent) (t n : ℕ) (k : TaskState) (s : Step) → IsQuiet s → (actor w (Phaser n s) == t) ≡ false → TaskStands outers w t k → TaskStands outers (Phaser n s ∷ w) t k
other_step outers w t n k s q other st = record {
  due_is = due_other t (Phaser n s) w other ∙ st.due_is;
  idle = st.idle ∙ ap (λ ds. is_empty ds) (sym (due_other t (Phaser n s) w other));
  plan = st.plan;
  left = st.left;
  chain = st.chain;
  phasers = st.phasers ∙ sym (phasers_same t n s w q);
  clock = st.clock ∙ ap (λ c. min c 4294967295) (sym (clock_other t (Phaser n s) w other refl));
  acts = st.acts ∙ sym (acts_other t n s w q other);
  home = st.home;
  spawner = st.spawner;
  named = st.named;
  born = st.born;
  ended = st.ended;
  refused = st.refused;
}
