-- What holds of each phaser that the root made, on which it stays a signaller until it is dropped.
use Rattle.std.proofs.Common.{ℕ, ◌≡◌, ◌<◌, ◌∙◌, Bool, true, false, ◌||◌, ◌==◌, not, nat_lt, List, [], ◌∷◌, length, refl, sym, ap, subst, inl, inr}
use Rattle.std.specs.List.{list_any}
use Rattle.std.specs.Option.{option_map_or}
use Rattle.std.proofs.lemmas.Bool.{or_parts, or_right, cases_Bool, eqb-true, ltb-true, true≢false, false≢true}
use Rattle.phase_modes.specs.Lists.{is_empty}
use Rattle.phase_modes.specs.declared.limits.Limits.{Limits}
use Rattle.phase_modes.specs.declared.refusal.Refusal.{Refusal}
use Rattle.phase_modes.specs.declared.refusal.Refusal.TheVariants.{NotNow, ActsFull, PhasersFull}
use Rattle.phase_modes.specs.declared.reg.Mode.{Mode}
use Rattle.phase_modes.specs.declared.reg.Mode.TheVariants.{SigWait}
use Rattle.phase_modes.specs.Mode.{can_signal}
use Rattle.phase_model.specs.declared.history.Event.{Event}
use Rattle.phase_model.specs.declared.history.Event.TheVariants.{Make as Made}
use Rattle.phase_model.specs.declared.op.Op.{Op}
use Rattle.phase_model.specs.declared.terms.Terms.{Terms}
use Rattle.phase_model.specs.Tasks.{is_registered, has_mode, mode_of}
use Rattle.phase_model.specs.Rules.{is_allowed}
use Rattle.world_model.specs.declared.event.Step.{Step}
use Rattle.world_model.specs.declared.event.Step.TheVariants.{Make, Reg}
use Rattle.world_model.specs.declared.event.Tried.{Tried}
use Rattle.world_model.specs.declared.event.Tried.TheVariants.{New}
use Rattle.world_model.specs.declared.event.WorldEvent.{WorldEvent}
use Rattle.world_model.specs.declared.event.WorldEvent.TheVariants.{Phaser}
use Rattle.world_model.specs.Parts.{ops_of, phaser_past, terms_of}
use Rattle.world_model.specs.Numbers.{is_phaser}
use Rattle.world_model.specs.Tasks.{acts, phasers_of, spawns}
use Rattle.world_model.specs.ActConditions.{is_counted, most_phasers_held}
use Rattle.world_model.specs.Acts.{is_number_used}
use Rattle.world_model.specs.Due.{is_idle}
use Rattle.world_model.specs.Replies.{is_legal_world, is_accepted}
use Rattle.world_model.proofs.MadeMeans.{last_accepted, act_made, no_refusal}
use Rattle.world_model.proofs.PhasersLegal.{step_allowed, event_of}
use Rattle.world_model.proofs.AgentOfTask.{reg_unborn}
use Rattle.job_kernels.proofs.Plain.{IsPlain, last_of_plain}

-- ---- a phaser that was made

-- each phaser was made by the root for its values to be combined so, and for whoever makes it to signal on it
abbrev pub AllMade : Op → List WorldEvent → Type 0
AllMade op [] = Unit {0}
AllMade op (Phaser n (Make t m terms) ∷ w) = (m ≡ SigWait) × (terms.ops ≡ op ∷ []) × AllMade op w
AllMade op (_ ∷ w) = AllMade op w

pub record IsMade (op : Op) (j : ℕ) (w : List WorldEvent) : Type 0 where
  pub ops : ops_of j w ≡ op ∷ []
  pub there : is_registered 0 (phaser_past j w) ≡ true
  pub mode : has_mode can_signal 0 (phaser_past j w) ≡ true

abbrev pub is_make : Event → Bool
is_make (Made t m) = true
is_make _ = false

-- only the making comes first
pub some_before : (l : Limits) (terms : Terms) (h : List Event) (e : Event) → is_allowed l terms h e ≡ true
    → is_make e ≡ false → is_empty h ≡ false
some_before l terms (x ∷ h) e k n = refl
some_before l terms [] (Made t m) k n = absurd (true≢false n)
some_before l terms [] e k n = absurd (false≢true k)

module _ (l : Limits) (op : Op) (j : ℕ) where
  -- a step by which a phaser that was made stays what it is
  still_made : (w : List WorldEvent) (m : ℕ) (s : Step) → is_accepted l w (Phaser m s) ≡ true
      → is_make (event_of m w s) ≡ false
      → ops_of j (Phaser m s ∷ w) ≡ ops_of j w
      → (is_registered 0 (phaser_past j w) ≡ true → is_registered 0 (event_of j w s ∷ phaser_past j w) ≡ true)
      → (is_registered 0 (phaser_past j w) ≡ true
      → mode_of 0 (event_of j w s ∷ phaser_past j w) ≡ mode_of 0 (phaser_past j w))
      → (is_empty (phaser_past j w) ≡ false → IsMade op j w)
      → is_empty (phaser_past j (Phaser m s ∷ w)) ≡ false → IsMade op j (Phaser m s ∷ w)
  still_made w m s ok no_make ops reg mode before some =
      elim (cases_Bool (m == j)) [
        | inr o ↦
            let past : phaser_past j (Phaser m s ∷ w) ≡ phaser_past j w = rw o refl in
            let p = before (subst (λ h. is_empty h ≡ false) past some) in
            record {
              ops = ops ∙ p.ops;
              there = subst (λ h. is_registered 0 h ≡ true) (sym past) p.there;
              mode = subst (λ h. has_mode can_signal 0 h ≡ true) (sym past) p.mode;
            }
        | inl o ↦
            let same : m ≡ j = eqb-true m j o in
            let past : phaser_past j (Phaser m s ∷ w) ≡ event_of j w s ∷ phaser_past j w = rw o refl in
            let there : is_empty (phaser_past j w) ≡ false =
            subst (λ v. is_empty (phaser_past v w) ≡ false) same
            (some_before l (terms_of m w) (phaser_past m w) (event_of m w s) (step_allowed l w m s ok)
            no_make) in
            let p = before there in
            record {
              ops = ops ∙ p.ops;
              there = subst (λ h. is_registered 0 h ≡ true) (sym past) (reg p.there);
              mode = subst (λ h. has_mode can_signal 0 h ≡ true) (sym past)
                  (ap (λ o. option_map_or can_signal o false) (mode p.there) ∙ p.mode);
            }
      ]

  made_first : (w : List WorldEvent) (m u : ℕ) (o : Mode) (terms : Terms) → (u == 0) ≡ true → o ≡ SigWait
      → terms.ops ≡ op ∷ [] → (is_empty (phaser_past j w) ≡ false → IsMade op j w)
      → is_empty (phaser_past j (Phaser m (Make u o terms) ∷ w)) ≡ false
      → IsMade op j (Phaser m (Make u o terms) ∷ w)
  made_first w m u o terms z e f before some =
      elim (cases_Bool (m == j)) [
        | inr i ↦
            let past : phaser_past j (Phaser m (Make u o terms) ∷ w) ≡ phaser_past j w = rw i refl in
            let p = before (subst (λ h. is_empty h ≡ false) past some) in
            record {
              ops = rw (i, ops_of) p.ops;
              there = subst (λ h. is_registered 0 h ≡ true) (sym past) p.there;
              mode = subst (λ h. has_mode can_signal 0 h ≡ true) (sym past) p.mode;
            }
        | inl i ↦
            record {
              ops = rw (i, ops_of) f;
              there = rw (i, z) refl;
              mode = rw (i, z) (ap can_signal e);
            }
      ]

  pub made : (w : List WorldEvent) → IsPlain l w → AllMade op w → is_empty (phaser_past j w) ≡ false
      → IsMade op j w
  made [] k a some = absurd (true≢false some)
  made (Phaser m (Make u o terms) ∷ w) k a some =
      let f = last_of_plain l (Phaser m (Make u o terms)) w k in
      made_first w m u o terms f.plain a.0 a.1 (λ s. made w f.before a.2 s) some
  made (Phaser m (Reg q u o) ∷ w) k a some =
      let f = last_of_plain l (Phaser m (Reg q u o)) w k in
      let other : (u == 0) ≡ false =
      (or_parts (u == 0) (list_any (spawns u) w) (reg_unborn l w m q u o f.before.legal f.accepted)).0 in
      still_made w m (Reg q u o) f.accepted refl refl
      (λ r. or_right (u == 0) (is_registered 0 (phaser_past j w)) r) (λ r. rw other refl)
      (λ s. made w f.before a s) some
  made (Phaser m x ∷ w) k a some =
      let f = last_of_plain l (Phaser m x) w k in
      still_made w m x f.accepted refl refl (λ r. r) (λ r. refl) (λ s. made w f.before a s) some
  made (e ∷ w) k a some =
      let p = made w (last_of_plain l e w k).before a some in
      record { ops = p.ops; there = p.there; mode = p.mode }

-- ---- numbers of phasers are within the limit

pub phaser_fits : (l : Limits) (j : ℕ) (w : List WorldEvent) → is_legal_world l w ≡ true
    → is_phaser j w ≡ true
    → j < l.phasers
phaser_fits l j [] k h = absurd (false≢true h)
phaser_fits l j (Phaser m (Make u o terms) ∷ w) k h =
    let e = Phaser m (Make u o terms) in
    let a = last_accepted l e w k in
    elim (cases_Bool (m == j)) [
      | inl i ↦
          let t : Tried = New m o terms in
          let used : Refusal × Bool = (NotNow, not (is_number_used w t)) in
          let counted : Refusal × Bool = (ActsFull, not (is_counted t) || nat_lt (acts u w) l.acts) in
          let held : Refusal × Bool = (PhasersFull, nat_lt (length (phasers_of u w)) most_phasers_held) in
          let fits : Refusal × Bool = (PhasersFull, nat_lt m l.phasers) in
          let c = (act_made l w u t a.0).0 in
          let c1 = (no_refusal NotNow (is_idle u w) (used ∷ counted ∷ fits ∷ held ∷ []) c).1 in
          let c2 = (no_refusal NotNow used.1 (counted ∷ fits ∷ held ∷ []) c1).1 in
          let c3 = (no_refusal ActsFull counted.1 (fits ∷ held ∷ []) c2).1 in
          subst (λ v. v < l.phasers) (eqb-true m j i)
          (ltb-true m l.phasers (no_refusal PhasersFull fits.1 (held ∷ []) c3).0)
      | inr i ↦ phaser_fits l j w a.1 (rw i at h)
    ]
phaser_fits l j (Phaser m s ∷ w) k h =
    let a = last_accepted l (Phaser m s) w k in
    elim (cases_Bool (m == j)) [
      | inl i ↦
          phaser_fits l j w a.1 (ap (λ b. not b)
          (subst (λ v. is_empty (phaser_past v w) ≡ false) (eqb-true m j i)
          (some_before l (terms_of m w) (phaser_past m w) (event_of m w s) (step_allowed l w m s a.0) refl)))
      | inr i ↦ phaser_fits l j w a.1 (rw i at h)
    ]
phaser_fits l j (e ∷ w) k h = phaser_fits l j w (last_accepted l e w k).1 h
