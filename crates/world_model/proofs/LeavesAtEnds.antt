-- Drops, shuts and ends are due only in a shut and on the way to an end; and an ended task has nothing due.
use Rattle.std.proofs.Common.{◌≡◌, ℕ, Bool, true, false, ◌&&◌, ◌||◌, ◌==◌, not, cond, List, [], ◌∷◌, ◌++◌, map, Option, Some, None, refl, sym, subst, ap, ◌∙◌, inl, inr}
use Rattle.std.specs.Prelude.{drop, filter, slice_index_or}
use Rattle.std.specs.List.{list_any, list_all}
use Rattle.std.proofs.lemmas.Bool.{and_parts, or_cases, or_parts, or_from, or_left, cases_Bool, eqb-true, eq-eqb, true≢false, false≢true}
use Rattle.std.proofs.lemmas.List.Folds.{list_any-append}
use Rattle.phase_modes.specs.Lists.{is_empty}
use Rattle.phase_modes.specs.declared.limits.Limits.{Limits}
use Rattle.phase_model.proofs.LiveTasks.{has, has-filter}
use Rattle.finish_core.specs.declared.event.FinishEvent.TheVariants.{Spawned, Ended, Shut as Shutting}
use Rattle.finish_core.specs.Finish.{is_open}
use Rattle.world_model.specs.declared.event.Step.TheVariants.{Reg, Sig, Pass, Drop}
use Rattle.world_model.specs.declared.event.Begun.{Begun}
use Rattle.world_model.specs.declared.event.Begun.TheVariants.{Async, Signal, Wait, Next, NextSingle, Shut, End}
use Rattle.world_model.specs.declared.event.Tried.TheVariants.{Begun as Beginning}
use Rattle.world_model.specs.declared.event.WorldEvent.{WorldEvent}
use Rattle.world_model.specs.declared.event.WorldEvent.TheVariants.{Phaser, Finish, Begin, Refuse, Fail}
use Rattle.world_model.specs.Parts.{phaser_past, finish_past}
use Rattle.world_model.specs.Tasks.{home, phasers_of, is_ended, ends}
use Rattle.world_model.specs.Scopes.{open_finishes, inner, owner}
use Rattle.world_model.specs.Actors.{actor}
use Rattle.world_model.specs.Due.{due, fixed, fixed_by, signals_due, passes_due, is_behind, is_entry, is_of_single}
use Rattle.world_model.specs.Replies.{is_legal_world, is_accepted}
use Rattle.world_model.specs.TaskConditions.{last_entry}
use Rattle.world_model.proofs.MadeMeans.{last_accepted, part_made}
use Rattle.world_model.proofs.AbleComputed.{idle_in_act, refuse_idle, made_done_where}
use Rattle.world_model.proofs.OthersLeave.{last_plain, due_own}
use Rattle.world_model.proofs.DueHolds.{due_has}
use Rattle.world_model.proofs.PassesInTurns.{fail_born}
use Rattle.world_model.proofs.AbruptEnds.{nothing_due}
use Rattle.world_model.proofs.OpenFinishes.{opened, never_root, owner_later, root_finish}
use Rattle.world_model.proofs.DueStays.{IsFirstDue, first_is}
use Rattle.world_model.proofs.LeavingList.{ends_act, is_drop, last_of, tail_of, DropsFirst, Leaving}
use Rattle.world_model.proofs.LeavingAlways.{tail_first}
use Rattle.world_model.proofs.EndingStays.{leaving}
use Rattle.world_model.proofs.ShutterDropsFirst.{shuts_act, Shutter, shutting}
use Rattle.world_model.proofs.SmallWords.{cons_parts}

-- a drop, a shut or an end
abbrev pub is_leave : WorldEvent → Bool
is_leave (Phaser n (Drop t)) = true
is_leave (Finish f Shutting) = true
is_leave (Finish f (Ended t)) = true
is_leave _ = false

abbrev pub leaves_act : Option WorldEvent → Bool
leaves_act o = ends_act o || shuts_act o

-- the test finds nothing in a list that a rule writes, where it finds nothing that the rule gives
pub none_in_map : {X : Type 0} (p : WorldEvent → Bool) (f : X → WorldEvent) (xs : List X)
    → ((x : X) → p (f x) ≡ false) → list_any p (map f xs) ≡ false
none_in_map p f [] k = refl
none_in_map p f (x ∷ xs) k = or_from (p (f x)) (list_any p (map f xs)) (k x) (none_in_map p f xs k)

pub none_in_both : (p : WorldEvent → Bool) (xs ys : List WorldEvent) → list_any p xs ≡ false
    → list_any p ys ≡ false → list_any p (xs ++ ys) ≡ false
none_in_both p xs ys a b = list_any-append p xs ys ∙ or_from (list_any p xs) (list_any p ys) a b

pub none_in_drop : (p : WorldEvent → Bool) (ds : List WorldEvent) → list_any p ds ≡ false
    → list_any p (drop 1 ds) ≡ false
none_in_drop p [] k = refl
none_in_drop p (d ∷ ds) k = (or_parts (p d) (list_any p ds) k).1

stays_sig : (t : ℕ) (x : Option ℕ) (w : List WorldEvent) → list_any is_leave (signals_due t x w) ≡ false
stays_sig t x w =
    none_in_map is_leave (λ n. Phaser n (Sig t x))
    (filter (λ n. is_behind t (phaser_past n w)) (phasers_of t w)) (λ n. refl)

stays_pass : (t : ℕ) (w : List WorldEvent) → list_any is_leave (passes_due t w) ≡ false
stays_pass t w = none_in_map is_leave (λ n. Phaser n (Pass t)) (phasers_of t w) (λ n. refl)

fixed_stays : (u : ℕ) (b : Begun) (w : List WorldEvent) → not (leaves_act (Some (Begin u b))) ≡ true
    → list_any is_leave (fixed_by u b w) ≡ false
fixed_stays u (Async c ps) w k =
    none_in_both is_leave (map (λ p. Phaser p.phaser (Reg u c p.mode)) ps) (Finish (inner u w) (Spawned c)
    ∷ []) (none_in_map is_leave (λ p. Phaser p.phaser (Reg u c p.mode)) ps (λ p. refl)) refl
fixed_stays u Signal w k = stays_sig u None w
fixed_stays u Wait w k = stays_pass u w
fixed_stays u Next w k =
    none_in_both is_leave (signals_due u None w) (passes_due u w) (stays_sig u None w) (stays_pass u w)
fixed_stays u (NextSingle x) w k =
    none_in_both is_leave (signals_due u (Some x) w) (passes_due u w)
    (stays_sig u (Some x) w) (stays_pass u w)
fixed_stays u Shut w k = absurd (false≢true k)
fixed_stays u End w k = absurd (false≢true k)

entry_stays : (t : ℕ) (e : WorldEvent) (w : List WorldEvent) → is_entry t e ≡ true
    → not (leaves_act (Some e)) ≡ true → list_any is_leave (fixed e w) ≡ false
entry_stays t (Begin u b) w n k = fixed_stays u b w k
entry_stays t (Refuse u b x) w n k = absurd (false≢true k)
entry_stays t (Fail u x) w n k = absurd (false≢true k)
entry_stays t (Phaser m s) w n k = refl
entry_stays t (Finish f s) w n k = refl

pub nobody_leaves : (l : Limits) (t : ℕ) (w : List WorldEvent) → is_legal_world l w ≡ true
    → not (leaves_act (last_entry t w)) ≡ true → list_any is_leave (due t w) ≡ false
nobody_leaves l t w k q =
    due_has l t (λ o. not (leaves_act o)) (λ ds. list_any is_leave ds ≡ false) refl (none_in_drop is_leave)
    (λ e v h x y. entry_stays t e v x y) w k q

-- the act in which one of these is due
pub leave_act : (l : Limits) (t : ℕ) (w ds : List WorldEvent) (e : WorldEvent) → is_legal_world l w ≡ true
    → due t w ≡ e ∷ ds → is_leave e ≡ true → leaves_act (last_entry t w) ≡ true
leave_act l t w ds e k here y =
    elim (cases_Bool (leaves_act (last_entry t w))) [
      | inl a ↦ a
      | inr a ↦
          absurd (true≢false (sym y ∙ (or_parts (is_leave e) (list_any is_leave ds) (subst (λ xs.
          list_any is_leave xs ≡ false) here (nobody_leaves l t w k (ap (λ b. not b) a)))).0))
    ]

-- a shut or an end that is due comes after all drops
no_drops : (e : WorldEvent) (ds tail drops : List WorldEvent) → is_drop e ≡ false
    → list_all is_drop drops ≡ true → e ∷ ds ≡ drops ++ tail → e ∷ ds ≡ tail
no_drops e ds tail [] n a is = is
no_drops e ds tail (d ∷ drops) n a is =
    absurd (true≢false (sym (and_parts (is_drop d) (list_all is_drop drops) a).0
    ∙ subst (λ c. is_drop c ≡ false) (cons_parts e d ds (drops ++ tail) is).0 n))

pub after_drops : (e : WorldEvent) (ds tail : List WorldEvent) → is_drop e ≡ false
    → DropsFirst (e ∷ ds) tail → e ∷ ds ≡ tail
after_drops e ds tail n f = no_drops e ds tail f.drops n f.all_drops f.is

-- in the act of a shut, the shut of the innermost finish is all that is left
pub shut_left : (l : Limits) (t : ℕ) (w ds : List WorldEvent) (e : WorldEvent) → is_legal_world l w ≡ true
    → due t w ≡ e ∷ ds → is_drop e ≡ false → shuts_act (last_entry t w) ≡ true
    → (e ≡ Finish (inner t w) Shutting) × (ds ≡ [])
shut_left l t w ds e k here n q =
    let s : Shutter t w (e ∷ ds) = subst (λ xs. Shutter t w xs) here (shutting l t w k q) in
    cons_parts e (Finish (inner t w) Shutting) ds []
    (after_drops e ds (Finish (inner t w) Shutting ∷ []) n (s.form refl))

-- on the way to the end, the shuts and the end
pub end_left : (l : Limits) (t : ℕ) (w ds : List WorldEvent) (e : WorldEvent) → is_legal_world l w ≡ true
    → due t w ≡ e ∷ ds → is_drop e ≡ false → ends_act (last_entry t w) ≡ true
    → e ∷ ds ≡ tail_of t w
end_left l t w ds e k here n q =
    let s : Leaving t w (e ∷ ds) = subst (λ xs. Leaving t w xs) here (leaving l t w k q) in
    after_drops e ds (tail_of t w) n (s.form refl)

-- the innermost finish of a task that shuts one is its own
pub shut_is_own : (l : Limits) (t : ℕ) (w ds : List WorldEvent) (e : WorldEvent) → is_legal_world l w ≡ true
    → due t w ≡ e ∷ ds → shuts_act (last_entry t w) ≡ true
    → has (inner t w) (open_finishes t w) ≡ true
shut_is_own l t w ds e k here q =
    let s : Shutter t w (e ∷ ds) = subst (λ xs. Shutter t w xs) here (shutting l t w k q) in
    head_in (open_finishes t w) (s.own refl)
  where
    head_in : (fs : List ℕ) → is_empty fs ≡ false → has (slice_index_or fs 0 (home t w)) fs ≡ true
    head_in [] x = absurd (true≢false x)
    head_in (f ∷ fs) x = or_left (f == f) (has f fs) (eq-eqb f f refl)

-- finish 0 is nobody's open one
pub never_open_root : (l : Limits) (w : List WorldEvent) (t f : ℕ) → is_legal_world l w ≡ true
    → has f (open_finishes t w) ≡ true → f ≡ 0 → ⊥
never_open_root l w t f k h z =
    let listed =
    (and_parts (is_open (finish_past f w)) (has f (opened t w))
    (sym (has-filter (λ g. is_open (finish_past g w)) f (opened t w)) ∙ h)).1 in
    true≢false (sym (eq-eqb 0 f (sym z)) ∙ never_root l w k t f listed)

-- nobody opened finish 0
pub root_owner : (l : Limits) (w : List WorldEvent) → is_legal_world l w ≡ true → owner 0 w ≡ 0
root_owner l [] k = refl
root_owner l (e ∷ w) k =
    let a = last_accepted l e w k in owner_later l 0 e w a.0 (root_finish w) ∙ root_owner l w a.1

-- where a task's own end is due, it is the last
module _ (l : Limits) (t : ℕ) (w ds : List WorldEvent) (k : is_legal_world l w ≡ true) where
  of_ended : (f : ℕ) → due t w ≡ Finish f (Ended t) ∷ ds → (ends_act (last_entry t w) ≡ true) × (ds ≡ [])
  of_ended f here =
      elim (or_cases (ends_act (last_entry t w)) (shuts_act (last_entry t w))
      (leave_act l t w ds (Finish f (Ended t)) k here refl)) [
        | inl q ↦
            elim (tail_first (Finish f (Ended t)) (last_of t w) ds (open_finishes t w)
            (end_left l t w ds (Finish f (Ended t)) k here refl q)) [
              | inl z ↦ (q, z.2)
              | inr z ↦ absurd (no_shut z.0 z.3)
            ]
        | inr q ↦ absurd (no_shut (inner t w) (shut_left l t w ds (Finish f (Ended t)) k here refl q).0)
      ]
    where
      no_shut : (g : ℕ) → Finish f (Ended t) ≡ Finish g Shutting → ⊥
      no_shut g h = absurd cc

  same_number : (f g : ℕ) → Finish f Shutting ≡ Finish g Shutting → f ≡ g
  same_number f g h = cc

  of_root : due t w ≡ Finish 0 Shutting ∷ ds → (ends_act (last_entry t w) ≡ true) × (ds ≡ [])
  of_root here =
      elim (or_cases (ends_act (last_entry t w)) (shuts_act (last_entry t w))
      (leave_act l t w ds (Finish 0 Shutting) k here refl)) [
        | inl q ↦
            elim (tail_first (Finish 0 Shutting) (last_of t w) ds (open_finishes t w)
            (end_left l t w ds (Finish 0 Shutting) k here refl q)) [
              | inl z ↦ (q, z.2)
              | inr z ↦
                  absurd (never_open_root l w t z.0 k (subst (λ fs. has z.0 fs ≡ true) (sym z.2)
                  (or_left (z.0 == z.0) (has z.0 z.1) (eq-eqb z.0 z.0 refl)))
                  (sym (same_number 0 z.0 z.3)))
            ]
        | inr q ↦
            absurd (never_open_root l w t (inner t w) k (shut_is_own l t w ds (Finish 0 Shutting) k here q)
            (sym (same_number 0 (inner t w) (shut_left l t w ds (Finish 0 Shutting) k here refl q).0)))
      ]

-- an ended task has gone all its way, and nothing is due to it
abbrev pub IsOver : ℕ → List WorldEvent → Type 0
IsOver t w = (ends_act (last_entry t w) ≡ true) × (due t w ≡ [])

module _ (l : Limits) (w : List WorldEvent) (k : is_legal_world l w ≡ true) where
  after_end : (t : ℕ) (e : WorldEvent) (ds : List WorldEvent) → is_entry t e ≡ false → is_of_single e ≡ false
      → actor w e ≡ t → due t w ≡ e ∷ ds → (ends_act (last_entry t w) ≡ true) × (ds ≡ []) → IsOver t (e ∷ w)
  after_end t e ds n s m here p = (
    ap ends_act (last_plain t e w n) ∙ p.0,
    due_own t e w n (eq-eqb (actor w e) t m) s
        ∙ (ap (λ xs. drop 1 xs) here ∙ p.1),
  )

  ends_now : (t : ℕ) (e : WorldEvent) → is_accepted l w e ≡ true → ends t e ≡ true → IsOver t (e ∷ w)
  ends_now t (Finish f (Ended u)) a y =
      let same : u ≡ t = eqb-true u t y in
      let d : IsFirstDue u w (Finish f (Ended u)) =
      first_is l w (Finish f (Ended u)) (part_made l w (Finish f (Ended u)) a).0 refl in
      subst (λ v. IsOver v (Finish f (Ended u) ∷ w)) same
      (after_end u (Finish f (Ended u)) d.rest refl refl refl d.is (of_ended l u w d.rest k f d.is))
  ends_now t (Finish f Shutting) a y =
      let z = and_parts (f == 0) (t == 0) y in
      let f0 : f ≡ 0 = eqb-true f 0 z.0 in
      let t0 : t ≡ 0 = eqb-true t 0 z.1 in
      let d : IsFirstDue (owner f w) w (Finish f Shutting) =
      first_is l w (Finish f Shutting) (part_made l w (Finish f Shutting) a).0 refl in
      let mine : owner f w ≡ t = ap (λ g. owner g w) f0 ∙ (root_owner l w k ∙ sym t0) in
      let here : due t w ≡ Finish f Shutting ∷ d.rest =
      subst (λ v. due v w ≡ Finish f Shutting ∷ d.rest) mine d.is in
      after_end t (Finish f Shutting) d.rest refl refl mine here
      (of_root l t w d.rest k (subst (λ g. due t w ≡ Finish g Shutting ∷ d.rest) f0 here))
  ends_now t (Finish f s) a y = absurd (false≢true y)
  ends_now t (Phaser m s) a y = absurd (false≢true y)
  ends_now t (Begin u b) a y = absurd (false≢true y)
  ends_now t (Refuse u b x) a y = absurd (false≢true y)
  ends_now t (Fail u x) a y = absurd (false≢true y)

  -- an ended task enters nothing more
  no_entry : (t : ℕ) (e : WorldEvent) → is_accepted l w e ≡ true → is_entry t e ≡ true
      → is_ended t w ≡ true → due t w ≡ [] → ⊥
  no_entry t (Begin u b) a n x d =
      true≢false (sym x ∙ subst (λ v. is_ended v w ≡ false) (eqb-true u t n)
      (nothing_due u w (idle_in_act l w u (Beginning b) a)).1)
  no_entry t (Refuse u b y) a n x d =
      true≢false (sym x ∙ subst (λ v. is_ended v w ≡ false) (eqb-true u t n)
      (nothing_due u w (refuse_idle l w u b y (made_done_where _ a))).1)
  no_entry t (Fail u y) a n x d =
      let same : u ≡ t = eqb-true u t n in
      let idle = fail_born l w u y (subst (λ v. due v w ≡ []) (sym same) d) (made_done_where _ a) in
      true≢false (sym x ∙ subst (λ v. is_ended v w ≡ false) same (nothing_due u w idle).1)
  no_entry t (Phaser m s) a n x d = false≢true n
  no_entry t (Finish f s) a n x d = false≢true n

  still_over : (t : ℕ) (e : WorldEvent) → is_entry t e ≡ false → IsOver t w → IsOver t (e ∷ w)
  still_over t e n p = (
    ap ends_act (last_plain t e w n)
        ∙ p.0,
    rw (n, p.1) (nothing_left (actor w e == t && not (is_of_single e))),
  )
    where
      nothing_left : (b : Bool) → cond b (drop {A = WorldEvent} 1 []) [] ≡ []
      nothing_left true = refl
      nothing_left false = refl

pub ended_is_over : (l : Limits) (w : List WorldEvent) → is_legal_world l w ≡ true → (t : ℕ)
    → is_ended t w ≡ true → IsOver t w
ended_is_over l [] k t x = absurd (false≢true x)
ended_is_over l (e ∷ w) k t x =
    let a = last_accepted l e w k in
    elim (or_cases (ends t e) (is_ended t w) x) [
      | inl now ↦ ends_now l w a.1 t e a.0 now
      | inr old ↦
          let before = ended_is_over l w a.1 t old in
          elim (cases_Bool (is_entry t e)) [
            | inl n ↦ absurd (no_entry l w a.1 t e a.0 n old before.1)
            | inr n ↦ still_over l w a.1 t e n before
          ]
    ]
