-- What holds of the events due to a task at every moment of an act, where it follows from the moment before.
use Rattle.std.proofs.Common.{◌≡◌, ℕ, Bool, true, false, ◌&&◌, ◌==◌, not, cond, List, [], ◌∷◌, Option, Some, None, refl, sym, subst, inl, inr}
use Rattle.std.specs.Prelude.{drop}
use Rattle.std.proofs.lemmas.Bool.{and_parts, cases_Bool, eqb-true, not-true, true≢false}
use Rattle.phase_modes.specs.Lists.{is_empty}
use Rattle.phase_modes.specs.declared.limits.Limits.{Limits}
use Rattle.phase_model.specs.declared.history.Event.TheVariants.{Claim as Claimed, Did as Done}
use Rattle.phase_model.specs.Rules.{is_permitted}
use Rattle.world_model.specs.declared.event.Step.TheVariants.{Claim, Did, Pass}
use Rattle.world_model.specs.declared.event.WorldEvent.{WorldEvent}
use Rattle.world_model.specs.declared.event.WorldEvent.TheVariants.{Phaser}
use Rattle.world_model.specs.Parts.{terms_of, phaser_past}
use Rattle.world_model.specs.Actors.{actor}
use Rattle.world_model.specs.Due.{due, fixed, is_entry, is_of_single, or_single}
use Rattle.world_model.specs.Replies.{is_legal_world, is_accepted}
use Rattle.world_model.specs.TaskConditions.{last_entry}
use Rattle.world_model.proofs.MadeMeans.{last_accepted, IsNext}
use Rattle.world_model.proofs.OthersLeave.{last_plain, due_own}
use Rattle.world_model.proofs.NextIsDue.{First, first_due}
use Rattle.world_model.proofs.AbruptEnds.{continues}
use Rattle.world_model.proofs.SmallWords.{empty_is}

single_first : (b c : Bool) (n t : ℕ) (e : WorldEvent) → cond b (Phaser n (Claim t))
    (cond c (Phaser n (Did t)) (Phaser n (Pass t))) ≡ e → is_of_single e ≡ false → Phaser n (Pass t) ≡ e
single_first true c n t e k s = absurd (true≢false (subst (λ x. is_of_single x ≡ false) (sym k) s))
single_first false true n t e k s = absurd (true≢false (subst (λ x. is_of_single x ≡ false) (sym k) s))
single_first false false n t e k s = k

-- an event that is neither a claim nor a report stands for itself
pub stands_itself : (l : Limits) (w : List WorldEvent) (d e : WorldEvent) → or_single l w d ≡ e
    → is_of_single e ≡ false → d ≡ e
stands_itself l w (Phaser n (Pass t)) e k s =
    single_first (is_permitted l (terms_of n w) (phaser_past n w) (Claimed t))
    (is_permitted l (terms_of n w) (phaser_past n w) (Done t)) n t e k s
stands_itself l w d e k s = k

-- e is the first that is due to t
pub record IsFirstDue (t : ℕ) (w : List WorldEvent) (e : WorldEvent) : Type 0 where
  pub rest : List WorldEvent
  pub is : due t w ≡ e ∷ rest

pub first_is : (l : Limits) (w : List WorldEvent) (e : WorldEvent) → IsNext l w e → is_of_single e ≡ false
    → IsFirstDue (actor w e) w e
first_is l w e n s =
    let f : First l w (due (actor w e) w) e = first_due l w e n in
    record {
      rest = f.rest;
      is = subst (λ d. due (actor w e) w ≡ d ∷ f.rest)
          (stands_itself l w f.due e f.stands s) f.is;
    }

due_entry : (t : ℕ) (e : WorldEvent) (w : List WorldEvent) → is_entry t e ≡ true → due t (e ∷ w) ≡ fixed e w
due_entry t e w n = rw n refl

due_kept : (t : ℕ) (e : WorldEvent) (w : List WorldEvent) → is_entry t e ≡ false
    → (actor w e == t && not (is_of_single e)) ≡ false → due t (e ∷ w) ≡ due t w
due_kept t e w n o = rw (n, o) refl

pub last_of_entry : (t : ℕ) (e : WorldEvent) (w : List WorldEvent) → is_entry t e ≡ true
    → last_entry t (e ∷ w) ≡ Some e
last_of_entry t e w n = rw n refl

-- Q picks the acts by the entry that began them, P holds of a history and what is due in it
module _ (l : Limits) (t : ℕ) (Q : Option WorldEvent → Bool) (P : List WorldEvent → List WorldEvent → Type 0)
    (begun : Q None ≡ true → ⊥)
    (idle : (e : WorldEvent) (w : List WorldEvent) → is_legal_world l w ≡ true → is_accepted l w e ≡ true
    → Q (last_entry t w) ≡ true → is_entry t e ≡ false
    → actor w e ≡ t → due t w ≡ [] → P w [] → P (e ∷ w) [])
    (entry : (e : WorldEvent) (w : List WorldEvent) → is_legal_world l w ≡ true → is_accepted l w e ≡ true
    → is_entry t e ≡ true → Q (Some e) ≡ true → P (e ∷ w) (fixed e w))
    (own : (e : WorldEvent) (w ds : List WorldEvent) → is_legal_world l w ≡ true → is_accepted l w e ≡ true
    → Q (last_entry t w) ≡ true → is_entry t e ≡ false → is_of_single e ≡ false
    → actor w e ≡ t → due t w ≡ e ∷ ds → P w (e ∷ ds) → P (e ∷ w) ds)
    (other : (e : WorldEvent) (w : List WorldEvent) → is_legal_world l w ≡ true → is_accepted l w e ≡ true
    → Q (last_entry t w) ≡ true → is_entry t e ≡ false
    → (actor w e == t && not (is_of_single e)) ≡ false → P w (due t w) → P (e ∷ w) (due t w)) where
  made : (e : WorldEvent) (w : List WorldEvent) → is_legal_world l w ≡ true → is_accepted l w e ≡ true
      → Q (last_entry t w) ≡ true → is_entry t e ≡ false → is_of_single e ≡ false
      → actor w e ≡ t → P w (due t w) → P (e ∷ w) (drop 1 (due t w))
  made e w k a q n s m p =
      elim (cases_Bool (is_empty (due t w))) [
        | inl none ↦
            let gone : due t w ≡ [] = empty_is (due t w) none in
            subst (λ ds. P (e ∷ w) (drop 1 ds)) (sym gone)
            (idle e w k a q n m gone (subst (λ ds. P w ds) gone p))
        | inr some ↦
            let f : IsFirstDue t w e =
            subst (λ v. IsFirstDue v w e) m
            (first_is l w e (continues l w e a (subst (λ v. is_entry v e ≡ false) (sym m) n)
            (subst (λ v. is_empty (due v w) ≡ false) (sym m) some)) s) in
            subst (λ ds. P (e ∷ w) (drop 1 ds)) (sym f.is)
            (own e w f.rest k a q n s m f.is (subst (λ ds. P w ds) f.is p))
      ]

  pub due_stays : (w : List WorldEvent) → is_legal_world l w ≡ true
      → Q (last_entry t w) ≡ true → P w (due t w)
  due_stays [] k q = absurd (begun q)
  due_stays (e ∷ w) k q =
      let a = last_accepted l e w k in
      elim (cases_Bool (is_entry t e)) [
        | inl n ↦
            subst (λ ds. P (e ∷ w) ds) (sym (due_entry t e w n))
            (entry e w a.1 a.0 n (subst (λ o. Q o ≡ true) (last_of_entry t e w n) q))
        | inr n ↦
            let r : Q (last_entry t w) ≡ true = subst (λ o. Q o ≡ true) (last_plain t e w n) q in
            let before : P w (due t w) = due_stays w a.1 r in
            elim (cases_Bool (actor w e == t && not (is_of_single e))) [
              | inl m ↦
                  let p = and_parts (actor w e == t) (not (is_of_single e)) m in
                  let s : is_of_single e ≡ false = not-true (is_of_single e) p.1 in
                  subst (λ ds. P (e ∷ w) ds) (sym (due_own t e w n p.0 s))
                  (made e w a.1 a.0 r n s (eqb-true (actor w e) t p.0) before)
              | inr o ↦ subst (λ ds. P (e ∷ w) ds) (sym (due_kept t e w n o)) (other e w a.1 a.0 r n o before)
            ]
      ]
