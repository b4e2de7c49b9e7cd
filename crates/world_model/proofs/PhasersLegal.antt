-- The history of each phaser of a legal world is legal.
use Rattle.std.proofs.Common.{◌≡◌, ℕ, Bool, true, false, ◌==◌, cond, nat_lt, List, [], ◌∷◌, Option, Some, None, refl, sym, subst, inl, inr}
use Rattle.std.specs.Prelude.{option_map, slice_get}
use Rattle.std.specs.Option.{option_map_or}
use Rattle.std.proofs.lemmas.Bool.{and_parts, and_from, cases_Bool, eqb-true}
use Rattle.phase_modes.specs.declared.reg.Mode.{Mode}
use Rattle.phase_modes.specs.declared.limits.Limits.{Limits}
use Rattle.phase_modes.specs.Lists.{is_empty}
use Rattle.phase_model.specs.declared.terms.Terms.{Terms}
use Rattle.phase_model.specs.declared.history.Event.{Event}
use Rattle.phase_model.specs.declared.history.Event.TheVariants.{Make as Made, Claim as Claimed, Did as Done, Pass as Passed}
use Rattle.phase_model.specs.Rules.{is_permitted, is_allowed, is_legal, has_room as phase_room}
use Rattle.phase_model.specs.Replies as phaser
use Rattle.phase_model.specs.Ordering.{IsOrdered}
use Rattle.phase_model.proofs.OrderingLaw.{legal_is_ordered}
use Rattle.world_model.specs.declared.event.Step.{Step}
use Rattle.world_model.specs.declared.event.Step.TheVariants.{Make, Reg, Sig, Claim, Did, Pass, Send, Look, Drop}
use Rattle.world_model.specs.declared.event.Tried.TheVariants.{New, Send as Sending, Look as Looking}
use Rattle.world_model.specs.declared.event.WorldEvent.{WorldEvent}
use Rattle.world_model.specs.declared.event.WorldEvent.TheVariants.{Phaser}
use Rattle.world_model.specs.Parts.{terms_of, phaser_past, event_for, story_of}
use Rattle.world_model.specs.Due.{due, or_single}
use Rattle.world_model.specs.Replies.{is_accepted, is_legal_world, is_made}
use Rattle.world_model.specs.Continuing.{same_event, next_reply}
use Rattle.world_model.specs.PartReplies.{phaser_reply, call_for}
use Rattle.world_model.proofs.MadeMeans.{last_accepted, call_allowed, act_made, part_made, IsNext}
use Rattle.world_model.proofs.SinglesComeFirst.{plain_due, plain_first, is_plain}

false_is_not : false ≡ true → ⊥
false_is_not h = absurd cc

-- what is next on phaser n: the claim where it is permitted, the report next, the pass else
claim_by : (b c : Bool) (m u n t : ℕ) → same_event
    (cond b (Phaser m (Claim u)) (cond c (Phaser m (Did u)) (Phaser m (Pass u)))) (Phaser n (Claim t)) ≡ true
    → (b ≡ true) × (m ≡ n) × (u ≡ t)
claim_by true c m u n t k =
    let a = and_parts (m == n) (u == t) k in
    (refl, eqb-true m n a.0, eqb-true u t a.1)
claim_by false true m u n t k = absurd (false_is_not (and_parts (m == n) false k).1)
claim_by false false m u n t k = absurd (false_is_not (and_parts (m == n) false k).1)

pass_by : (b c : Bool) (m u n t : ℕ) → same_event
    (cond b (Phaser m (Claim u)) (cond c (Phaser m (Did u)) (Phaser m (Pass u)))) (Phaser n (Pass t)) ≡ true
    → (b ≡ false) × (m ≡ n) × (u ≡ t)
pass_by false false m u n t k =
    let a = and_parts (m == n) (u == t) k in
    (refl, eqb-true m n a.0, eqb-true u t a.1)
pass_by true c m u n t k = absurd (false_is_not (and_parts (m == n) false k).1)
pass_by false true m u n t k = absurd (false_is_not (and_parts (m == n) false k).1)

-- the claim of t's single is permitted on phaser n
abbrev pub may_claim : Limits → List WorldEvent → ℕ → ℕ → Bool
may_claim l w n t = is_permitted l (terms_of n w) (phaser_past n w) (Claimed t)

module _ (l : Limits) (w : List WorldEvent) (n t : ℕ) where
  -- a claim that is next is permitted
  claim_from : (o : Option WorldEvent) → ((d : WorldEvent) → o ≡ Some d → is_plain d ≡ true)
      → option_map_or (λ d. same_event d (Phaser n (Claim t))) (option_map (or_single l w) o) false ≡ true
      → may_claim l w n t ≡ true
  claim_from None p k = absurd cc
  claim_from (Some (Phaser m (Pass u))) p k =
      let a =
      claim_by (may_claim l w m u) (is_permitted l (terms_of m w) (phaser_past m w) (Done u)) m u n t k in
      subst (λ v. may_claim l w n v ≡ true) a.2 (subst (λ v. may_claim l w v u ≡ true) a.1 a.0)
  claim_from (Some (Phaser m (Claim u))) p k = absurd (false_is_not (p (Phaser m (Claim u)) refl))
  claim_from (Some (Phaser m s)) p k = absurd (false_is_not (and_parts (m == n) false k).1)
  claim_from (Some d) p k = absurd cc

  -- a pass that is next comes where no claim is permitted
  pass_from : (o : Option WorldEvent) → option_map_or (λ d. same_event d (Phaser n (Pass t)))
      (option_map (or_single l w) o) false ≡ true → may_claim l w n t ≡ false
  pass_from None k = absurd cc
  pass_from (Some (Phaser m (Pass u))) k =
      let a =
      pass_by (may_claim l w m u) (is_permitted l (terms_of m w) (phaser_past m w) (Done u)) m u n t k in
      subst (λ v. may_claim l w n v ≡ false) a.2 (subst (λ v. may_claim l w v u ≡ false) a.1 a.0)
  pass_from (Some (Phaser m s)) k = absurd (false_is_not (and_parts (m == n) false k).1)
  pass_from (Some d) k = absurd cc

  next_claim : IsNext l w (Phaser n (Claim t)) → may_claim l w n t ≡ true
  next_claim k = claim_from (slice_get (due t w) 0) (plain_first (due t w) (plain_due t w)) k

  next_pass : IsNext l w (Phaser n (Pass t)) → may_claim l w n t ≡ false
  next_pass k = pass_from (slice_get (due t w) 0) k

-- the event of a step
abbrev pub event_of : ℕ → List WorldEvent → Step → Event
event_of n w s = event_for (terms_of n w) (phaser_past n w) s

abbrev pub IsAllowedStep : Limits → List WorldEvent → ℕ → Step → Type 0
IsAllowedStep l w n s = is_allowed l (terms_of n w) (phaser_past n w) (event_of n w s) ≡ true

module _ (l : Limits) (w : List WorldEvent) (n : ℕ) where
  acted : (s : Step) → is_made (phaser_reply l w n s) ≡ true → is_allowed l (terms_of n w) (phaser_past n w)
      (phaser.event_for l (terms_of n w) (phaser_past n w) (call_for s)) ≡ true
  acted s k = call_allowed (story_of l n w) (call_for s) k

  part_acted : (s : Step) → is_made (next_reply l w (Phaser n s)) ≡ true → is_allowed l (terms_of n w)
      (phaser_past n w) (phaser.event_for l (terms_of n w) (phaser_past n w) (call_for s)) ≡ true
  part_acted s k = acted s (part_made l w (Phaser n s) k).1

  -- an accepted step is one that the phaser's history allows
  pub step_allowed : (s : Step) → is_accepted l w (Phaser n s) ≡ true → IsAllowedStep l w n s
  step_allowed (Make t m terms) k = acted (Make t m terms) (act_made l w t (New n m terms) k).1
  step_allowed (Send t a v) k = acted (Send t a v) (act_made l w t (Sending n a v) k).1
  step_allowed (Look t a) k = acted (Look t a) (act_made l w t (Looking n a) k).1
  step_allowed (Reg q t m) k = part_acted (Reg q t m) k
  step_allowed (Sig t x) k = part_acted (Sig t x) k
  step_allowed (Did t) k = part_acted (Did t) k
  step_allowed (Drop t) k = part_acted (Drop t) k
  step_allowed (Claim t) k =
      subst (λ b. is_allowed l (terms_of n w) (phaser_past n w) (cond b (Claimed t) (Passed t)) ≡ true)
      (next_claim l w n t (part_made l w (Phaser n (Claim t)) k).0) (part_acted (Claim t) k)
  step_allowed (Pass t) k =
      subst (λ b. is_allowed l (terms_of n w) (phaser_past n w) (cond b (Claimed t) (Passed t)) ≡ true)
      (next_pass l w n t (part_made l w (Phaser n (Pass t)) k).0) (part_acted (Pass t) k)

no_events : (h : List Event) → is_empty h ≡ true → h ≡ []
no_events [] e = refl
no_events (x ∷ h) e = absurd cc

-- a phaser that is made was not there before
pub new_past : (l : Limits) (w : List WorldEvent) (n t : ℕ) (m : Mode) (terms : Terms)
    → is_accepted l w (Phaser n (Make t m terms)) ≡ true → phaser_past n w ≡ []
new_past l w n t m terms k =
    let h = phaser_past n w in
    let a =
    and_parts (is_permitted l (terms_of n w) h (Made t m)) (phase_room l (Made t m ∷ h))
    (step_allowed l w n (Make t m terms) k) in
    no_events h (and_parts (is_empty h) (nat_lt t l.tasks) a.0).0

-- a made phaser's first event stays allowed under its own operators
make_alone : (l : Limits) (o terms : Terms) (h : List Event) (t : ℕ) (m : Mode) → h ≡ []
    → is_allowed l o h (Made t m) ≡ true → is_legal l terms (Made t m ∷ h) ≡ true
make_alone l o terms h t m e k =
    subst (λ g. is_legal l terms (Made t m ∷ g) ≡ true) (sym e)
    (and_from (is_allowed l terms [] (Made t m)) true
    (subst (λ g. is_allowed l o g (Made t m) ≡ true) e k) refl)

abbrev pub PhaserLegal : Limits → ℕ → List WorldEvent → Type 0
PhaserLegal l n w = is_legal l (terms_of n w) (phaser_past n w) ≡ true

module _ (l : Limits) (w : List WorldEvent) (n : ℕ) where
  -- a step that makes no phaser
  stepped : (m : ℕ) (s : Step) → PhaserLegal l n w → IsAllowedStep l w m s
      → is_legal l (terms_of n w) (cond (m == n) (event_of n w s ∷ phaser_past n w) (phaser_past n w)) ≡ true
  stepped m s p k =
      elim (cases_Bool (m == n)) [
        | inl e ↦
            rw e (and_from (is_allowed l (terms_of n w) (phaser_past n w) (event_of n w s))
            (is_legal l (terms_of n w) (phaser_past n w))
            (subst (λ v. is_allowed l (terms_of v w) (phaser_past v w) (event_of v w s) ≡ true)
            (eqb-true m n e) k) p)
        | inr e ↦ rw e p
      ]

  made : (m t : ℕ) (mode : Mode) (terms : Terms) → PhaserLegal l n w → IsAllowedStep l w m (Make t mode terms)
      → phaser_past m w ≡ []
      → PhaserLegal l n (Phaser m (Make t mode terms) ∷ w)
  made m t mode terms p k e =
      elim (cases_Bool (m == n)) [
        | inl same ↦
            let here : m ≡ n = eqb-true m n same in
            rw same (make_alone l (terms_of n w) terms (phaser_past n w) t mode
            (subst (λ v. phaser_past v w ≡ []) here e)
            (subst (λ v. is_allowed l (terms_of v w) (phaser_past v w) (Made t mode) ≡ true) here k))
        | inr other ↦ rw other p
      ]

pub phasers_legal : (l : Limits) (w : List WorldEvent) → is_legal_world l w ≡ true → (n : ℕ)
    → PhaserLegal l n w
phasers_legal l [] k n = refl
phasers_legal l (Phaser m (Make t mode terms) ∷ w) k n =
    let a = last_accepted l (Phaser m (Make t mode terms)) w k in
    made l w n m t mode terms (phasers_legal l w a.1 n) (step_allowed l w m (Make t mode terms) a.0)
    (new_past l w m t mode terms a.0)
phasers_legal l (Phaser m s ∷ w) k n =
    let a = last_accepted l (Phaser m s) w k in
    stepped l w n m s (phasers_legal l w a.1 n) (step_allowed l w m s a.0)
phasers_legal l (e ∷ w) k n = phasers_legal l w (last_accepted l e w k).1 n

pub phasers_ordered : (l : Limits) (w : List WorldEvent) → is_legal_world l w ≡ true → (n : ℕ)
    → IsOrdered (phaser_past n w)
phasers_ordered l w k n = legal_is_ordered l (terms_of n w) (phaser_past n w) (phasers_legal l w k n)
