-- Where a report says of no task that it was refused, nobody was.
use Rattle.std.proofs.Common.{ℕ, ◌+◌, ◌<◌, ◌≤◌, ◌≡◌, zero, suc, Bool, true, false, ◌||◌, ◌==◌, cond, if◌then◌else◌, List, [], ◌∷◌, map, Option, Some, None, refl, sym, ap, subst, arith, ◌∙◌, inl, inr}
use Rattle.std.specs.Prelude.{filter, is_some, option_and_then}
use Rattle.std.specs.List.{find, list_any, range_with_len}
use Rattle.std.proofs.lemmas.Bool.{cases_Bool, cases_lt, eqb-true, eq-eqb, true≢false, or_cases, or_right}
use Rattle.phase_modes.specs.declared.limits.Limits.{Limits}
use Rattle.phase_modes.specs.RefusalNumbers.{refusal_with}
use Rattle.world_model.specs.declared.event.WorldEvent.{WorldEvent}
use Rattle.world_model.specs.declared.event.WorldEvent.TheVariants.{Phaser, Finish, Begin, Refuse, Fail}
use Rattle.world_model.specs.declared.report.TaskLine.{TaskLine}
use Rattle.world_model.specs.Due.{is_entry}
use Rattle.world_model.specs.GivingUp.{may_fail, may_refuse}
use Rattle.world_model.specs.Replies.{is_accepted, is_legal_world}
use Rattle.world_model.specs.Report.{below, refused_by, report_of, task_line}
use Rattle.world_model.specs.Tasks.{is_born, spawns}
use Rattle.world_model.proofs.AbleComputed.{made_done_where}
use Rattle.world_model.proofs.ActsWithinLimits.{born_fits}
use Rattle.world_model.proofs.MadeMeans.{last_accepted}
use Rattle.world_model.proofs.NotedNumbers.{number_of_fail, number_of_refuse}
use Rattle.world_model.proofs.PassesInTurns.{entry_born, unborn_none}
use Rattle.job_kernels.specs.Results.{lowest_refused, refusal_of}

-- ---- who was refused was born, and by a refusal's number

record Told (w : List WorldEvent) (t n : ℕ) : Type 0 where
  pub born : is_born t w ≡ true
  pub number : is_some (refusal_with n) ≡ true

still_born : (t : ℕ) (e : WorldEvent) (w : List WorldEvent) → is_born t w ≡ true → is_born t (e ∷ w) ≡ true
still_born t e w b =
    elim (or_cases (t == 0) (list_any (spawns t) w) b) [
      | inl z ↦ ap (λ v. v || list_any (spawns t) (e ∷ w)) z
      | inr s ↦ or_right (t == 0) (list_any (spawns t) (e ∷ w)) (or_right (spawns t e) (list_any (spawns t) w) s)
    ]

entry_of_born : (l : Limits) (w : List WorldEvent) (t : ℕ) (e : WorldEvent) → is_legal_world l w ≡ true
    → is_accepted l w e ≡ true → is_entry t e ≡ true → is_born t w ≡ true
entry_of_born l w t e k a n =
    elim (cases_Bool (is_born t w)) [
      | inl b ↦ b
      | inr b ↦ entry_born l w t e a n (unborn_none l t w k b)
    ]

same_number : (x y : ℕ) → Some x ≡ Some y → x ≡ y
same_number x y h = cc

-- of an entry of u that says so, or of what was said before it
entry_told : (l : Limits) (e : WorldEvent) (w : List WorldEvent) (t u m n : ℕ) (x : Bool)
    → is_legal_world l w ≡ true → is_accepted l w e ≡ true → is_entry t e ≡ (u == t) → (u == t) ≡ x
    → is_some (refusal_with m) ≡ true → (refused_by t w ≡ Some n → Told w t n)
    → (if x then Some m else refused_by t w) ≡ Some n → Told (e ∷ w) t n
entry_told l e w t u m n true k a entry own number before h = record {
  born = still_born t e w (entry_of_born l w t e k a (entry ∙ own));
  number = subst (λ v. is_some (refusal_with v) ≡ true) (same_number m n h) number;
}
entry_told l e w t u m n false k a entry own number before h =
    let s = before h in record { born = still_born t e w s.born; number = s.number }

told_by : (l : Limits) (e : WorldEvent) (w : List WorldEvent) (t n : ℕ)
    → is_legal_world l w ≡ true → is_accepted l w e ≡ true
    → (refused_by t w ≡ Some n → Told w t n) → refused_by t (e ∷ w) ≡ Some n → Told (e ∷ w) t n
told_by l (Refuse u b m) w t n k a before h =
    entry_told l (Refuse u b m) w t u m n (u == t) k a refl refl
    (number_of_refuse l w u m b (made_done_where (may_refuse l w u b m) a)) before h
told_by l (Fail u m) w t n k a before h =
    entry_told l (Fail u m) w t u m n (u == t) k a refl refl
    (number_of_fail l w u m (made_done_where (may_fail l w u m) a)) before h
told_by l (Phaser i x) w t n k a before h =
    let s = before h in record { born = still_born t (Phaser i x) w s.born; number = s.number }
told_by l (Finish i x) w t n k a before h =
    let s = before h in record { born = still_born t (Finish i x) w s.born; number = s.number }
told_by l (Begin i x) w t n k a before h =
    let s = before h in record { born = still_born t (Begin i x) w s.born; number = s.number }

told : (l : Limits) (w : List WorldEvent) (t n : ℕ) → is_legal_world l w ≡ true → refused_by t w ≡ Some n → Told w t n
told l [] t n k h = absurd cc
told l (e ∷ w) t n k h =
    let a = last_accepted l e w k in
    told_by l e w t n a.1 a.0 (λ is. told l w t n a.1 is) h

-- ---- what a search of lines finds

module _ (p : TaskLine → Bool) (line : ℕ → TaskLine) (q : ℕ → Bool) where
  some_line : (y z : TaskLine) → Some y ≡ Some z → y ≡ z
  some_line y z h = cc

  none_some : (y : TaskLine) → Some y ≡ None → ⊥
  none_some y h = cc

  -- a line that is found is that of a task, and passes
  abbrev Found : TaskLine → Type 0
  Found x = (t : ℕ) × (x ≡ line t) × (p (line t) ≡ true)

  found_here : (t : ℕ) (ts : List ℕ) (x : TaskLine) (b d : Bool) → p (line t) ≡ d
      → (find p (map line ts) ≡ Some x → Found x)
      → find p (map line (cond b (t ∷ ts) ts)) ≡ Some x → Found x
  found_here t ts x false d has later h = later h
  found_here t ts x true true has later h =
      (t, sym (some_line (line t) x (sym (ap (λ v. cond v (Some (line t)) (find p (map line ts))) has) ∙ h)), has)
  found_here t ts x true false has later h =
      later (sym (ap (λ v. cond v (Some (line t)) (find p (map line ts))) has) ∙ h)

  found : (ts : List ℕ) (x : TaskLine) → find p (map line (filter q ts)) ≡ Some x → Found x
  found [] x h = absurd cc
  found (t ∷ ts) x h = found_here t (filter q ts) x (q t) (p (line t)) refl (λ later. found ts x later) h

  -- where none is found, the line of each task that is counted doesn't pass
  none_here : (k t : ℕ) (more : List ℕ) (b d : Bool) → q k ≡ b → p (line k) ≡ d → q t ≡ true
      → ((k ≡ t → ⊥) → find p (map line more) ≡ None → p (line t) ≡ false)
      → find p (map line (cond b (k ∷ more) more)) ≡ None → p (line t) ≡ false
  none_here k t more false d is has counted later h =
      later (λ same. true≢false (sym counted ∙ (ap q (sym same) ∙ is))) h
  none_here k t more true true is has counted later h =
      absurd (none_some (line k) (sym (ap (λ v. cond v (Some (line k)) (find p (map line more))) has) ∙ h))
  none_here k t more true false is has counted later h =
      elim (cases_Bool (k == t)) [
        | inl x ↦ subst (λ v. p (line v) ≡ false) (eqb-true k t x) has
        | inr x ↦ later (λ same. true≢false (sym (eq-eqb k t same) ∙ x))
            (sym (ap (λ v. cond v (Some (line k)) (find p (map line more))) has) ∙ h)
      ]

  none_found : (m k t : ℕ) → k ≤ t → t < k + m → q t ≡ true → find p (map line (filter q (range_with_len k m))) ≡ None
      → p (line t) ≡ false
  none_found zero k t low high counted h = absurd (omega (arith, low, high))
  none_found (suc m) k t low high counted h =
      none_here k t (filter q (range_with_len (k + 1) m)) (q k) (p (line k)) refl refl counted
      (λ other none. none_found m (k + 1) t (above k t low other) (omega (arith, high)) counted none) h
    where
      above : (k t : ℕ) → k ≤ t → (k ≡ t → ⊥) → k + 1 ≤ t
      above k t low other =
          elim (cases_lt k t) [
            | inl less ↦ omega (arith, less)
            | inr greater ↦ absurd (other (omega (arith, low, greater)))
          ]

-- ---- nobody was refused

pub unrefused : (l : Limits) (w : List WorldEvent) → is_legal_world l w ≡ true → 1 ≤ l.tasks
    → refusal_of (report_of l w) ≡ None → (t : ℕ) → refused_by t w ≡ None
unrefused l w k some none t = by (lowest_refused (report_of l w)) refl
  where
    is_refused : TaskLine → Bool
    is_refused x = is_some x.refused

    by : (o : Option TaskLine) → lowest_refused (report_of l w) ≡ o → refused_by t w ≡ None
    by None is = at (refused_by t w) refl
      where
        at : (o : Option ℕ) → refused_by t w ≡ o → refused_by t w ≡ None
        at None here = here
        at (Some n) here =
            let s = told l w t n k here in
            absurd (true≢false (sym (ap (λ o. is_some o) here)
            ∙ none_found is_refused (task_line w) (λ u. is_born u w) l.tasks 0 t (omega arith)
            (omega (arith, born_fits l w k some t s.born)) s.born is))
    by (Some x) is =
        let f = found is_refused (task_line w) (λ u. is_born u w) (below l.tasks) x is in
        at f.0 f.1 f.2 (refused_by f.0 w) refl
      where
        at : (u : ℕ) → x ≡ task_line w u → is_some (refused_by u w) ≡ true
            → (o : Option ℕ) → refused_by u w ≡ o → refused_by t w ≡ None
        at u line has None here = absurd (true≢false (sym has ∙ ap (λ o. is_some o) here))
        at u line has (Some n) here =
            let s = told l w u n k here in
            let number : refusal_of (report_of l w) ≡ refusal_with n =
            ap (λ o. option_and_then (λ (y : TaskLine). option_and_then refusal_with y.refused) o) is
            ∙ (ap (λ (y : TaskLine). option_and_then refusal_with y.refused) line
            ∙ ap (λ o. option_and_then refusal_with o) here) in
            absurd (true≢false (sym s.number ∙ ap (λ o. is_some o) (sym number ∙ none)))
