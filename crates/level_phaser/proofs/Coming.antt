-- The steps of coming and of going on keep the rule of the table.
use Rattle.std.proofs.Common.{◌*◌, ◌≡◌, ◌≢◌, ◌⊎◌, ⊎_elim, inl, inr, ℕ, suc, ◌+◌, ◌-◌, ◌%◌, ◌^◌, ◌<◌, ◌≤◌, max, eqb, List, [], ◌∷◌, Bool, true, false, length, get_or, set, sym, refl, ap, ◌∙◌, subst, arith, length-set, get_or-set_other, get_or-set_same, eq-eqb, ne_eqb, if◌then◌else◌}
use mathlib.Core.Logic.{dite}
use mathlib.Core.Option.{Option, some, none}
use native.Mathlib.Decide.{ℕ_discrete, dec_le}
use lib.ListN.{get_elem?}
use lib.Seq.{set-get_or}
use Rattle.atomic_table.specs.Table.{State, Me, step, keeps, takes, gives, stepped, carried_after, Allows}
use Rattle.atomic_table.proofs.Lists.{at_set, set_again}
use Rattle.level_phaser.specs.declared.view.SeatView.{SeatView}
use Rattle.level_phaser.specs.declared.view.SeatedTask.{SeatedTask}
use Rattle.level_phaser.specs.declared.view.Role.{Role}
use Rattle.level_phaser.specs.declared.view.Role.TheVariants.{Stands, Came, Last, Holder, Gone}
use Rattle.phase_model.specs.declared.history.Event.{Event}
use Rattle.phase_model.specs.declared.call.Call.{Call}
use Rattle.phase_model.specs.Replies.{Reply}
use Rattle.level_phaser.specs.Deeds.{deeds_of, with_signal}
use Rattle.level_phaser.specs.Views.{signalled, with_role, role_after, gone_on}
use Rattle.level_phaser.specs.Seen.{AreSeated, GoneOn, IsClosed}
use Rattle.level_phaser.specs.inner.Board.{busy, total, parts_of, missing_in, missing, Each, FitsIn, Fits, Homes, IsLevel, IsUnopened, IsBoard}
use Rattle.level_phaser.specs.inner.Plays.{came, looked, looked_shut, ended, raised}
use Rattle.level_phaser.specs.inner.Board.{sent_in, IsFound, Shown, Rows, Told, AllTold}
use Rattle.level_phaser.specs.Deeds.{with_sends}
use Rattle.level_phaser.proofs.Rows.{beside, unchanged, shown_signalled, found_moves, found_after, rows_after, rows_on}
use Rattle.told_history.specs.Tails.{IsTail}
use Rattle.level_phaser.specs.Changes.{IsKept}
use Rattle.level_phaser.specs.inner.Folds.{fold_in, IsNoted, AreFolds, AreFresh, IsBehind, Began}
use Rattle.level_phaser.proofs.Begins.{same_folds, below_folds, began_moves, begins_on, all_fresh, began_standing}
use Rattle.level_phaser.proofs.Totals.{total_set, total_same, total_at}
use Rattle.level_phaser.proofs.Keeps.{is_in, not_unopened, tail_on, tail_same, after, fits_as, missing_as, cases, none_holds, at_home, unmoved, are_seated, set_home, no_keeper, not_shut, shut_beside, shut_here}

missing_here : (at phase parts : ℕ) → at ≡ phase → (if eqb at phase then 0 else parts) ≡ 0
missing_here at phase parts e = ap (λ b. if b then 0 else parts) (eq-eqb at phase e)

missing_there : (at phase parts : ℕ) → at ≢ phase → (if eqb at phase then 0 else parts) ≡ parts
missing_there at phase parts ne = ap (λ b. if b then 0 else parts) (ne_eqb at phase ne)

length_signalled : (cs : List SeatedTask) → length (signalled cs) ≡ length cs
length_signalled [] = refl
length_signalled (c ∷ cs) = ap suc (length_signalled cs)

module _ {S : Type 0} (events : S → List Event) (registered : ℕ → S → Bool) (count : S → ℕ) (width : S → ℕ) (newest : S → ℕ) (replies : S → Call → Reply)
    (ready : ℕ → S → Type 0) where
  abbrev H : Type 0
  H = SeatView S

  abbrev St : Type 0
  St = State S H

  abbrev Mine : Type 0
  Mine = Me S H

  abbrev Rule : St → Type 0
  Rule = IsLevel events registered count width replies ready

  abbrev Board : State S (SeatView S) → Type 0
  Board = IsBoard events registered count width replies ready

  abbrev Ok : (ℕ → ℕ) → S → ℕ → List SeatedTask → Type 0
  Ok = Each events registered count width ready

  abbrev Suits : (ℕ → ℕ) → Role S → List SeatedTask → ℕ → ℕ → ℕ → S → ℕ → ℕ → Type 0
  Suits = FitsIn events registered count width ready

  abbrev Fit : (ℕ → ℕ) → ℕ → ℕ → S → ℕ → ℕ → H → Type 0
  Fit = Fits events registered count width ready

  abbrev Telling : List ℕ → S → S → Type 0
  Telling = Told events registered count width ready

  abbrev House : ℕ → S → List (Option S) → Type 0
  House = Homes events registered count width ready

  abbrev word0 : St → ℕ
  word0 s = get_or s.words 0 0

  -- nobody is the last while the count isn't 0, and if it is as great afterwards for a holder there may be one
  word_moves : (seat : ℕ → ℕ) (role : Role S) (tasks : List SeatedTask) (at phase word word' : ℕ) (value : S)
      (holder i : ℕ) → 0 < word → (busy ≤ word → busy ≤ word')
      → Suits seat role tasks at phase word value holder i → Suits seat role tasks at phase word' value holder
      i
  word_moves seat Stands tasks at phase word word' value holder i some_missing stays f = f
  word_moves seat Came tasks at phase word word' value holder i some_missing stays f = f
  word_moves seat (Last x ws) tasks at phase word word' value holder i some_missing stays f = let z = f.1 in
      absurd (omega arith)
  word_moves seat (Holder x) tasks at phase word word' value holder i some_missing stays f =
      (f.0, stays f.1, f.2, f.3, f.4)
  word_moves seat Gone tasks at phase word word' value holder i some_missing stays f = f

  comes_open : (slots id : ℕ) (me : Mine) → length me.0.tasks ≡ 1 → me.0.role ≡ Stands → me.1 ≡ []
      → Allows Rule slots id me 0 (λ x. (x + (2 ^ 64 - 1)) % 2 ^ 64)
      (came events registered width newest replies ready (step slots 0 1 0 none) me)
  comes_open slots id me one stands bare s r _ at small =
      let x : ℕ = word0 s in
      let v : H = me.0 in
      let level = fits_as events registered count width newest replies ready s r id v Stands at stands in
      let mine : missing r.phase v ≡ 1 = missing_as events registered count width newest replies ready v Stands r.phase stands ∙ one in
      let most = total_at (missing r.phase) s.views id v at in
      let word = r.word in
      let n : ℕ = total (missing r.phase) s.views in
      let which = cases events registered count width newest replies ready s r in
      let some_missing : 0 < x = ⊎_elim (λ (t : (x < busy) × (x ≡ n) × (r.held ≡ false)). let e = t.1 in
      omega arith) (λ (t : (busy ≤ x) × (x ≡ n + busy) × (r.held ≡ true)). let e = t.1 in omega arith)
      which in
      let fits : x < 18446744073709551616 = small in
      let less : x - 1 ≡ (x + 18446744073709551615) % 18446744073709551616 = omega arith in
      let now : get_or (set s.words 0 (x - 1)) 0 0 ≡ x - 1 = get_or-set_same s.words 0 (x - 1) 0
      (let wide = r.wide in omega arith) in
      let over : get_or (set s.words 0 (x - 1)) 16 0 ≤ r.phase = subst (λ (z : ℕ). z ≤ r.phase)
      (sym (get_or-set_other s.words 0 16 (x - 1) 0 (λ e. absurd (omega arith)))) r.over in
      let parts = r.parts in
      let is_ready : ready v.phase r.value = subst (λ (z : ℕ). ready z r.value) (sym level.1) r.stands in
      dite (ℕ_discrete x 1)
      (λ last.
      let w : H = with_role v (Last r.value s.words) in
      let k = r.rows.each id v at in
      let free : r.held ≡ false = ⊎_elim (λ (t : (x < busy) × (x ≡ n) × (r.held ≡ false)). t.2)
      (λ (t : (busy ≤ x) × (x ≡ n + busy) × (r.held ≡ true)). let e = t.0 in absurd (omega arith))
      which in
      let home : s.homes ≡ some r.value ∷ [] = at_home events registered count width newest replies ready x r.value s.homes some_missing (omega arith) r.home in
      let sum = total_set (missing r.phase) s.views id v w at in
      let none_more : missing r.phase w ≡ 0 = refl in
      let is_n : x ≡ n + (if r.held then busy else 0) = word in
      let same_held : (if r.held then busy else 0) ≡ 0 = ap (λ (b : Bool). if b then busy else 0) free in (
        w,
        takes 0 r.value,
        ap (λ hs. get_elem? hs 0) home,
        subst (λ (z : ℕ). Rule (stepped s 0 z id me.1 w (takes 0 r.value))) less
            (after events registered count width newest replies ready s r (set s.words 0 (x - 1)) (set s.homes 0 none) id v w r.phase r.value id r.seat r.held at
            (length-set s.words 0 (x - 1) ∙ r.wide) (ap (λ (z : ℕ). z + length v.tasks) parts) r.small
            (now ∙ omega arith) over
            (shut_beside events registered count width newest replies ready s r 0 (x - 1) id v w at (no_keeper v w (Stands) stands refl) (λ e. absurd (omega arith)))
            (inr (ap (λ hs. set hs 0 none) home, inl (now ∙ omega arith)))
            ((r.each id v at).0, (level.1, now ∙ omega arith, refl, refl, level.2))
            (λ i h other e. let f = r.each i h e in (
              f.0,
              none_holds events registered count width newest replies ready r.seat h.role h.tasks h.phase r.phase x _ r.value r.holder id i some_missing
                  (omega arith) f.1,
            ))
            r.stands
            (rows_on (width r.value) s.words 0 (x - 1) s.views id w (omega arith) r.rows k.0
            (beside s.words 0 (x - 1) (omega arith)) k.2)
            (begins_on events registered replies ready width r.phase s.words (set s.words 0 (x - 1)) s.views id w r.value r.value
            (below_folds s.words 0 (x - 1) (omega arith)) (λ _. some_missing) (tail_same (events r.value)) refl r.begins
            (tt, (r.begins.each id v at).1, below_folds s.words 0 (x - 1) (omega arith)))),
        (
          (λ _. ((r.value, s.words), ap (λ c. (w, (0, r.value) ∷ c)) bare, is_ready, (r.each id v at).0.0, r.wide)),
          λ not. absurd (not last),
        ),
      ))
      (λ more.
      let w : H = with_role v Came in
      let k = r.rows.each id v at in
      let sum = total_set (missing r.phase) s.views id v w at in
      let gone : missing r.phase w ≡ 0 = missing_here v.phase r.phase (length v.tasks) level.1 in
      let stays : busy ≤ x → busy ≤ get_or (set s.words 0 (x - 1)) 0 0 =
      λ b. ⊎_elim (λ (t : (x < busy) × (x ≡ n) × (r.held ≡ false)). let e = t.0 in absurd (omega arith))
      (λ (t : (busy ≤ x) × (x ≡ n + busy) × (r.held ≡ true)). let e = t.1 in let g = now in omega arith)
      which in
      let home : House (get_or (set s.words 0 (x - 1)) 0 0) r.value s.homes =
      ⊎_elim (λ (t : (s.homes ≡ some r.value ∷ []) × (x < busy)). let e = t.1 in let g = now in
      inl (t.0, omega arith))
      (λ (t : (s.homes ≡ none ∷ []) × ((x ≡ 0) ⊎ (busy ≤ x))). ⊎_elim (λ (z : x ≡ 0). absurd (omega arith))
      (λ (z : busy ≤ x). inr (t.0, inr (stays z))) t.1) r.home in (
        w,
        keeps,
        tt,
        subst (λ (z : ℕ). Rule (stepped s 0 z id me.1 w keeps)) less
            (after events registered count width newest replies ready s r (set s.words 0 (x - 1)) s.homes id v w r.phase r.value r.holder r.seat r.held at
            (length-set s.words 0 (x - 1) ∙ r.wide) (ap (λ (z : ℕ). z + length v.tasks) parts) r.small
            (now ∙ omega arith) over
            (shut_beside events registered count width newest replies ready s r 0 (x - 1) id v w at (no_keeper v w (Stands) stands refl) (λ e. absurd (omega arith))) home
            ((r.each id v at).0, (level.0, inl (level.1, level.2)))
            (λ i h other e. let f = r.each i h e in (
              f.0,
              word_moves r.seat h.role h.tasks h.phase r.phase x _ r.value r.holder i some_missing
                  stays f.1,
            ))
            r.stands
            (rows_on (width r.value) s.words 0 (x - 1) s.views id w (omega arith) r.rows k.0 tt k.2)
            (begins_on events registered replies ready width r.phase s.words (set s.words 0 (x - 1)) s.views id w r.value r.value
            (below_folds s.words 0 (x - 1) (omega arith)) (λ _. some_missing) (tail_same (events r.value)) refl r.begins
            ((λ e. absurd (let l = level.1 in omega arith)), (r.begins.each id v at).1, tt))),
        ((λ last. absurd (more last)), λ _. ap (λ c. (w, c)) bare),
      ))

  pub comes : (slots id : ℕ) (me : Mine) → length me.0.tasks ≡ 1 → me.0.role ≡ Stands → me.1 ≡ []
      → Allows Board slots id me 0 (λ x. (x + (2 ^ 64 - 1)) % 2 ^ 64)
      (came events registered width newest replies ready (step slots 0 1 0 none) me)
  comes slots id me one stands bare s r sized at small = ⊎_elim (λ (u : IsUnopened s). absurd (not_unopened s id me.0 (is_in me.0 Stands stands (omega arith)) at u))
      (λ (k : Rule s). let m = comes_open slots id me one stands bare s k sized at small in (m.0, m.1, m.2, inr m.3, m.4)) r

  role_of_some : (cs : List SeatedTask) → 0 < length cs → role_after {S = S} cs ≡ Stands
  role_of_some [] h = absurd (omega arith)
  role_of_some (c ∷ cs) h = refl

  -- the round of the seat's phase is over
  moves_on : (s : St) (r : Rule s) (i id : ℕ) (v : H) → get_elem? s.views id ≡ some v → v.role ≡ Came → v.phase < r.phase
      → Rule record {
        words = set s.words i (get_or s.words i 0);
        homes = s.homes;
        views = set s.views id (gone_on v (events r.begins.begun));
      } × GoneOn events registered ready v (gone_on v (events r.begins.begun))
  moves_on s r i id v at waits over =
      let f = fits_as events registered count width newest replies ready s r id v Came at waits in
      let next : (v.phase + 1 ≡ r.phase) × Ok r.seat r.value id (signalled v.tasks) =
      ⊎_elim (λ (e : (v.phase ≡ r.phase) × Ok r.seat r.value id v.tasks). let q = e.0 in
      absurd (omega arith)) (λ (e : (v.phase + 1 ≡ r.phase) × Ok r.seat r.value id (signalled v.tasks)).
      e) f.1 in
      let b = r.begins in
      let w : H = gone_on v (events b.begun) in
      let k = r.rows.each id v at in
      let behind : IsTail v.seen (events b.begun) × AreSeated events registered ready (signalled v.tasks) b.begun =
      subst (λ (z : Role S). IsBehind events registered replies ready b.begun z v.tasks v.phase r.phase v.seen) waits (b.each id v at).0 next.0 in
      let before : missing r.phase v ≡ length v.tasks = missing_as events registered count width newest replies ready v Came r.phase waits
      ∙ missing_there v.phase r.phase (length v.tasks) (λ e. let q = next.0 in omega arith) in
      let role : w.role ≡ Stands = role_of_some v.tasks f.0 in
      let len : length w.tasks ≡ length v.tasks = length_signalled v.tasks in
      let now : missing r.phase w ≡ length v.tasks = missing_as events registered count width newest replies ready w Stands r.phase role ∙ len in
      let sum = total_set (missing r.phase) s.views id v w at in
      let parts = r.parts in (
        subst (λ (z : List ℕ). Rule record { words = z; homes = s.homes; views = set s.views id w })
            (sym (set-get_or s.words i 0))
            (after events registered count width newest replies ready s r s.words s.homes id v w r.phase r.value r.holder r.seat r.held at r.wide
            (omega arith) r.small (r.word ∙ omega arith) r.over
            (shut_here events registered count width newest replies ready s r id v w at (no_keeper v w Came waits refl)) r.home (
              (b.longer, (r.each id v at).0.1),
              subst (λ (z : Role S). Suits r.seat z w.tasks w.phase r.phase (word0 s) r.value r.holder id)
                  (sym role) (omega (arith, f.0), next.0, next.1),
            )
            (λ i h other e. r.each i h e) r.stands
            (rows_after (width r.value) s.words s.words s.views id w (unchanged s.words) r.rows (
              shown_signalled s.words v.tasks k.0,
              found_after S s.words v.tasks,
              k.2,
            ))
            (begins_on events registered replies ready width r.phase s.words s.words s.views id w r.value r.value (same_folds s.words) (λ m. m)
            (tail_same (events r.value)) refl b
            (began_standing events registered replies ready b.begun r.phase w.phase s.words w.role w.tasks w.seen role
            (all_fresh events registered replies ready b.begun w.seen w.tasks (tail_same (events b.begun)) behind.1)))),
        (
          b.begun,
          refl,
          behind.0,
          subst (λ (z : ℕ). ready z b.begun) (sym next.0) b.stood,
          behind.1,
        ),
      )

  looks_open : (slots id : ℕ) (me : Mine) → me.0.role ≡ Came → Allows Rule slots id me 16 (λ x. x)
      (looked events registered width newest replies ready (step slots 16 0 0 none) me)
  looks_open slots id me waits s r _ at _ =
      let n : ℕ = get_or s.words 16 0 in
      let v : H = me.0 in
      dite (dec_le n v.phase)
      (λ still. (v, keeps, tt, unmoved events registered count width newest replies ready s r 16 id v at, ((λ over. absurd (omega arith)), λ _. refl)))
      (λ over.
      let most = r.over in
      let on = moves_on s r 16 id v at waits (omega arith) in (
        gone_on v (events r.begins.begun),
        keeps,
        tt,
        on.0,
        ((λ _. (on.1, refl)), λ still. absurd (over still)),
      ))

  pub looks : (slots id : ℕ) (me : Mine) → me.0.role ≡ Came → 0 < length me.0.tasks → Allows Board slots id me 16 (λ x. x)
      (looked events registered width newest replies ready (step slots 16 0 0 none) me)
  looks slots id me waits some_task s r sized at small = ⊎_elim (λ (u : IsUnopened s). absurd (not_unopened s id me.0 (is_in me.0 Came waits some_task) at u))
      (λ (k : Rule s). let m = looks_open slots id me waits s k sized at small in (m.0, m.1, m.2, inr m.3, m.4)) r

  shut_looks_open : (slots id : ℕ) (me : Mine) → me.0.role ≡ Came → Allows Rule slots id me 17 (λ x. x)
      (looked_shut events registered width newest replies ready (step slots 17 0 0 none) me)
  shut_looks_open slots id me waits s r _ at _ =
      let n : ℕ = get_or s.words 17 0 in
      let v : H = me.0 in
      let f = fits_as events registered count width newest replies ready s r id v Came at waits in
      let is : (n ≡ 0) ⊎ (n ≡ r.phase + 1) = ⊎_elim (λ (z : n ≡ 0). inl z)
      (λ (t : (n ≡ r.phase + 1) × (i : ℕ) × (u : H) × (x : S) × (get_elem? s.views i ≡ some u)
      × (u.role ≡ Holder x) × (u.tasks ≡ [])). inr t.0) r.shut in
      dite (dec_le n (v.phase + 1))
      (λ still.
      let closed : 0 < n → IsClosed events registered ready v =
      λ some_word. (let e : (v.phase ≡ r.phase) × Ok r.seat r.value id v.tasks =
      ⊎_elim (λ (e : (v.phase ≡ r.phase) × Ok r.seat r.value id v.tasks). e)
      (λ (e : (v.phase + 1 ≡ r.phase) × Ok r.seat r.value id (signalled v.tasks)). let q = e.0 in
      ⊎_elim (λ (z : n ≡ 0). absurd (omega arith)) (λ (z : n ≡ r.phase + 1). absurd (omega arith)) is) f.1 in (
        r.value,
        (r.each id v at).0.0,
        subst (λ (z : ℕ). ready z r.value) (sym e.0) r.stands,
        are_seated events registered count width newest replies ready r.seat r.value id v.tasks e.1,
      )) in
      (v, keeps, tt, unmoved events registered count width newest replies ready s r 17 id v at, ((λ over. absurd (omega arith)), λ _. (refl, closed))))
      (λ over.
      let later : v.phase < r.phase = ⊎_elim (λ (z : n ≡ 0). absurd (omega arith))
      (λ (z : n ≡ r.phase + 1). omega arith) is in
      let on = moves_on s r 17 id v at waits later in (
        gone_on v (events r.begins.begun),
        keeps,
        tt,
        on.0,
        ((λ _. (on.1, refl)), λ still. absurd (over still)),
      ))

  pub shut_looks : (slots id : ℕ) (me : Mine) → me.0.role ≡ Came → 0 < length me.0.tasks
      → Allows Board slots id me 17 (λ x. x)
      (looked_shut events registered width newest replies ready (step slots 17 0 0 none) me)
  shut_looks slots id me waits some_task s r sized at small = ⊎_elim
      (λ (u : IsUnopened s). absurd (not_unopened s id me.0 (is_in me.0 Came waits some_task) at u))
      (λ (k : Rule s). let m = shut_looks_open slots id me waits s k sized at small in (m.0, m.1, m.2, inr m.3, m.4)) r

  each_signalled : (seat : ℕ → ℕ) (words : List ℕ) (x y : S) (i : ℕ) (cs : List SeatedTask)
      → Telling words x y → Shown words cs → Ok seat x i cs → Ok seat y i (signalled cs)
  each_signalled seat words x y i [] round shown e = tt
  each_signalled seat words x y i (c ∷ cs) round shown e = let t = round c.task e.0 in (
    t.0,
    e.1,
    t.1 ∙ (λ k. with_signal (with_sends (shown.0 k) (e.2 k))),
    each_signalled seat words x y i cs round shown.1 e.3,
  )

  -- once all have come, whoever came stands in the phase that follows as one that came before
  ended_role : (words : List ℕ) (seat : ℕ → ℕ) (role : Role S) (tasks : List SeatedTask) (at phase word word' : ℕ) (x y : S)
      (holder i id : ℕ) → missing_in role (length tasks) at phase ≡ 0 → i ≢ id → id ≡ holder → word ≡ 0
      → Telling words x y → Shown words tasks
      → Suits seat role tasks at phase word x holder i → Suits seat role tasks at (phase + 1) word' y holder i
      × (missing_in role (length tasks) at (phase + 1) ≡ length tasks)
  ended_role words seat Stands tasks at phase word word' x y holder i id none_left other mine z round shown f = let p =
      f.0 in absurd (omega arith)
  ended_role words seat Came tasks at phase word word' x y holder i id none_left other mine z round shown f =
      ⊎_elim (λ (e : (at ≡ phase) × Ok seat x i tasks). (
        (f.0, inr (let q = e.0 in omega arith, each_signalled seat words x y i tasks round shown e.1)),
        missing_there at (phase + 1) (length tasks) (λ c. let q = e.0 in omega arith),
      ))
      (λ (e : (at + 1 ≡ phase) × Ok seat x i (signalled tasks)). let q = e.0 in let p = f.0 in
      let n : length tasks ≡ 0 = sym (missing_there at phase (length tasks) (λ c. omega arith))
      ∙ none_left in absurd (omega arith)) f.1
  ended_role words seat (Last u us) tasks at phase word word' x y holder i id none_left other mine z round shown f =
      absurd (other (f.3 ∙ sym mine))
  ended_role words seat (Holder u) tasks at phase word word' x y holder i id none_left other mine z round shown f =
      let q = f.1 in absurd (omega arith)
  ended_role words seat Gone tasks at phase word word' x y holder i id none_left other mine z round shown f =
      ((let q = f.0 in omega arith, f.1), sym (ap length f.1))

  -- how the last stands then
  ended_last : (seat : ℕ → ℕ) (tasks : List SeatedTask) (at phase word : ℕ) (y : S) (holder i : ℕ)
      → at ≡ phase → Ok seat y i (signalled tasks)
      → Suits seat (role_after tasks) (signalled tasks) (at + 1) (phase + 1) word y holder i
      × (missing_in {S = S} (role_after tasks) (length (signalled tasks)) (at + 1) (phase + 1) ≡ length
      (signalled tasks))
  ended_last seat [] at phase word y holder i same each = ((omega arith, refl), refl)
  ended_last seat (c ∷ cs) at phase word y holder i same each = ((omega arith, omega arith, each), refl)

  -- what was told in the round was told, whatever was looked at since
  kept_told : (words : List ℕ) (x z y : S) → AllTold events registered count width ready words x z
      → IsKept events registered count width z y → AllTold events registered count width ready words x y
  kept_told words x z y round kept = (
    tail_on (events x) (events z) (events y) round.0 kept.0,
    kept.1 ∙ round.1,
    kept.3 ∙ round.2,
    λ task live. (let t = round.3 task live in let u = kept.2 task t.0 in (u.0, u.1 ∙ t.1)),
  )

  -- how the last stands to the phase that begins
  began_last : (z : S) (phase at : ℕ) (words : List ℕ) (cs : List SeatedTask)
      → AreSeated events registered ready (signalled cs) z
      → IsBehind events registered replies ready z (role_after cs) (signalled cs) at phase (events z)
      × AreFresh events registered replies ready z (events z) (signalled cs) × IsNoted {S = S} words (role_after cs)
  began_last z phase at words [] k = (tt, tt, tt)
  began_last z phase at words (c ∷ cs) k =
      (tt, all_fresh events registered replies ready z (events z) (signalled (c ∷ cs)) (tail_same (events z)) k, tt)

  each_registered : (seat : ℕ → ℕ) (x : S) (i : ℕ) (seen : List Event) (z : S) (cs : List SeatedTask)
      → ((task : ℕ) → registered task x ≡ true → registered task z ≡ true) → IsTail seen (events z)
      → Ok seat x i cs → AreFresh events registered replies ready z seen cs
  each_registered seat x i seen z [] stays longer e = tt
  each_registered seat x i seen z (c ∷ cs) stays longer e =
      ((λ _. (stays c.task e.0, longer)), each_registered seat x i seen z cs stays longer e.3)

  -- and how the others do
  began_next : (words words' : List ℕ) (seat : ℕ → ℕ) (role : Role S) (tasks : List SeatedTask) (at phase word : ℕ)
      (x z : S) (holder i id : ℕ) (seen : List Event) → missing_in role (length tasks) at phase ≡ 0 → i ≢ id
      → id ≡ holder → word ≡ 0 → Telling words x z → Shown words tasks → IsTail seen (events z)
      → Suits seat role tasks at phase word x holder i
      → IsBehind events registered replies ready z role tasks at (phase + 1) seen
      × AreFresh events registered replies ready z seen tasks × IsNoted words' role
  began_next words words' seat Stands tasks at phase word x z holder i id seen none_left other mine zero_is round shown longer f =
      let p = f.0 in absurd (omega arith)
  began_next words words' seat Came tasks at phase word x z holder i id seen none_left other mine zero_is round shown longer f =
      ⊎_elim (λ (e : (at ≡ phase) × Ok seat x i tasks). (
        (λ _. (
          longer,
          are_seated events registered count width newest replies ready seat z i (signalled tasks)
              (each_signalled seat words x z i tasks round shown e.1),
        )),
        each_registered seat x i seen z tasks (λ task live. (round task live).0) longer e.1,
        tt,
      ))
      (λ (e : (at + 1 ≡ phase) × Ok seat x i (signalled tasks)). let q = e.0 in let p = f.0 in
      let n : length tasks ≡ 0 = sym (missing_there at phase (length tasks) (λ c. omega arith))
      ∙ none_left in absurd (omega arith)) f.1
  began_next words words' seat (Last u us) tasks at phase word x z holder i id seen none_left other mine zero_is round shown longer f =
      absurd (other (f.3 ∙ sym mine))
  began_next words words' seat (Holder u) tasks at phase word x z holder i id seen none_left other mine zero_is round shown longer f =
      let q = f.1 in absurd (omega arith)
  began_next words words' seat Gone tasks at phase word x z holder i id seen none_left other mine zero_is round shown longer f =
      (tt, subst (λ (cs : List SeatedTask). AreFresh events registered replies ready z seen cs) (sym f.1) tt, tt)

  none_left : (s : St) (r : Rule s) → word0 s ≡ 0 → (i : ℕ) (h : H) → get_elem? s.views i ≡ some h
      → missing r.phase h ≡ 0
  none_left s r zero_missing i h e = let most = total_at (missing r.phase) s.views i h e in
      ⊎_elim (λ (t : (word0 s < busy) × (word0 s ≡ total (missing r.phase) s.views) × (r.held ≡ false)).
      let q = t.1 in omega arith)
      (λ (t : (busy ≤ word0 s) × (word0 s ≡ total (missing r.phase) s.views + busy) × (r.held ≡ true)).
      let q = t.0 in absurd (omega arith)) (cases events registered count width newest replies ready s r)

  ends_open : (slots id : ℕ) (me : Mine) (x z y : S) (found : List ℕ) (new : ℕ) → me.0.role ≡ Last x found → me.1 ≡ (0, y) ∷ []
      → new ≡ count y → AllTold events registered count width ready found x z → ready (me.0.phase + 1) z
      → IsKept events registered count width z y → ready (me.0.phase + 1) y
      → AreFolds events registered replies ready (width z) found z → width z ≤ 4
      → Allows Rule slots id me 0 (λ _. new)
      (λ _. ended events registered width newest replies ready (step slots 0 new 0 none) me new)
  ends_open slots id me x z y found new last carried is_count round_z ready_z kept is_ready folds few s r _ at _ =
      let v : H = me.0 in
      let f = fits_as events registered count width newest replies ready s r id v (Last x found) at last in
      let zero_missing : word0 s ≡ 0 = f.1 in
      let here : v.phase ≡ r.phase = f.0 in
      let same : x ≡ r.value = f.2 in
      let w : H = gone_on v (events z) in
      let ws : List ℕ = set s.words 0 new in
      let round : AllTold events registered count width ready found x y = kept_told found x z y round_z kept in
      let round'z : AllTold events registered count width ready found r.value z =
      subst (λ (u : S). AllTold events registered count width ready found u z) same round_z in
      let round' : AllTold events registered count width ready found r.value y =
      subst (λ (z : S). AllTold events registered count width ready found z y) same round in
      let k = r.rows.each id v at in
      let as_found : (t : ℕ) → get_or s.words (32 + 8 * t) 0 ≡ get_or found (32 + 8 * t) 0 =
      subst (λ (z : Role S). IsFound s.words z) last k.1 in
      let telling : Telling s.words r.value y =
      λ task live. (let t = round'.3 task live in (
        t.0,
        t.1 ∙ ap (λ (n : ℕ). with_signal (with_sends (sent_in task n) (deeds_of task (events r.value))))
            (sym (as_found task)),
      )) in
      let telling_z : Telling s.words r.value z =
      λ task live. (let t = round'z.3 task live in (
        t.0,
        t.1 ∙ ap (λ (n : ℕ). with_signal (with_sends (sent_in task n) (deeds_of task (events r.value))))
            (sym (as_found task)),
      )) in
      let now : get_or ws 0 0 ≡ new = get_or-set_same s.words 0 new 0 (let wide = r.wide in omega arith) in
      let others : (i : ℕ) (h : H) → i ≢ id → get_elem? s.views i ≡ some h
      → Fit r.seat (r.phase + 1) (get_or ws 0 0) y r.holder i h
      × (missing (r.phase + 1) h ≡ length h.tasks) =
      λ i h other e. (let fs = r.each i h e in
      let t = ended_role s.words r.seat h.role h.tasks h.phase r.phase (word0 s) (get_or ws 0 0) r.value y r.holder i
      id (none_left s r zero_missing i h e) other f.3 zero_missing telling (r.rows.each i h e).0 fs.1 in (
        ((tail_on h.seen (events r.value) (events y) fs.0.0 round'.0, (let q = fs.0.1 in omega arith)), t.0),
        t.1,
      )) in
      let each_now : Ok r.seat y id (signalled v.tasks) = each_signalled r.seat s.words r.value y id v.tasks
      telling k.0 f.4 in
      let seated_z : AreSeated events registered ready (signalled v.tasks) z =
      are_seated events registered count width newest replies ready r.seat z id (signalled v.tasks)
      (each_signalled r.seat s.words r.value z id v.tasks telling_z k.0 f.4) in
      let noted : (a : ℕ) → a < 4 → get_or s.words (24 + a) 0 ≡ get_or found (24 + a) 0 =
      subst (λ (u : Role S). IsNoted s.words u) last (r.begins.each id v at).2 in
      let mine = ended_last r.seat v.tasks v.phase r.phase (get_or ws 0 0) y r.holder id here each_now in
      let all_missing : total (missing (r.phase + 1)) (set s.views id w) ≡ total parts_of (set s.views id w) =
      total_same (missing (r.phase + 1)) parts_of (set s.views id w)
      (λ i h e. ⊎_elim
      (λ (t : (i ≡ id) × (w ≡ h)). subst (λ (z : H). missing (r.phase + 1) z ≡ length z.tasks) t.1 mine.1)
      (λ (t : (i ≢ id) × (get_elem? s.views i ≡ some h)). (others i h t.0 t.1).1)
      (at_set s.views id i w h e)) in
      let sum = total_set parts_of s.views id v w at in
      let len : length w.tasks ≡ length v.tasks = length_signalled v.tasks in
      let pv : parts_of v ≡ length v.tasks = refl in
      let pw : parts_of w ≡ length w.tasks = refl in
      let parts = r.parts in
      let counts : count y ≡ count r.value = round'.1 in
      let small = r.small in
      let few_y : count y < 4294967296 = omega arith in
      let rule : Rule (stepped s 0 new id ((0, y) ∷ []) w gives) =
      after events registered count width newest replies ready s r ws (set s.homes 0 (some y)) id v w (r.phase + 1) y r.holder r.seat false at
      (length-set s.words 0 new ∙ r.wide) (omega arith) few_y
      (now ∙ omega arith)
      (subst (λ (z : ℕ). z ≤ r.phase + 1)
      (sym (get_or-set_other s.words 0 16 new 0 (λ e. absurd (omega arith)))) (let o = r.over in
      omega arith))
      (inl (get_or-set_other s.words 0 17 new 0 (λ e. absurd (omega arith)) ∙ not_shut events registered count width newest replies ready s r (let z = f.1 in omega arith)))
      (inl (set_home events registered count width newest replies ready (word0 s) r.value y s.homes r.home, omega arith))
      ((kept.0, (let q = (r.each id v at).0.1 in omega arith)), mine.0)
      (λ i h other e. (others i h other e).0)
      (subst (λ (z : ℕ). ready (z + 1) y) here is_ready)
      (subst (λ (z : ℕ). Rows z ws (set s.views id w)) (sym round'.2)
      (rows_on (width r.value) s.words 0 new s.views id w (omega arith) r.rows
      (shown_signalled s.words v.tasks k.0) (found_after S ws v.tasks) k.2))
      record {
        begun = z;
        stood = subst (λ (u : ℕ). ready (u + 1) z) here ready_z;
        longer = kept.0;
        wide = kept.3;
        narrow = few;
        folds = λ _ a l low is. folds a l low (ap fold_in (sym (noted a (omega arith))
            ∙ sym (below_folds s.words 0 new (omega arith) a (omega arith))) ∙ is);
        each = λ i h e. ⊎_elim
            (λ (t : (i ≡ id) × (w ≡ h)). subst (λ (u : H). Began events registered replies ready z (r.phase + 1) ws u) t.1
            (began_last z (r.phase + 1) (v.phase + 1) ws v.tasks seated_z))
            (λ (t : (i ≢ id) × (get_elem? s.views i ≡ some h)). (let fs = r.each i h t.1 in
            began_next s.words ws r.seat h.role h.tasks h.phase r.phase (word0 s) r.value z r.holder i id h.seen
            (none_left s r zero_missing i h t.1) t.0 f.3 zero_missing telling_z (r.rows.each i h t.1).0
            (tail_on h.seen (events r.value) (events z) fs.0.0 round'z.0) fs.1))
            (at_set s.views id i w h e);
      } in (
        w,
        gives,
        tt,
        subst (λ (c : List (ℕ × S)). Rule (stepped s 0 new id c w gives)) (sym carried) rule,
        (
          (
            z,
            refl,
            tail_on v.seen (events r.value) (events z) (r.each id v at).0.0 round'z.0,
            ready_z,
            seated_z,
          ),
          ap (λ l. carried_after l gives) carried,
        ),
      )

  pub ends : (slots id : ℕ) (me : Mine) (x z y : S) (found : List ℕ) (new : ℕ) → me.0.role ≡ Last x found → me.1 ≡ (0, y) ∷ []
      → new ≡ count y → AllTold events registered count width ready found x z → ready (me.0.phase + 1) z
      → IsKept events registered count width z y → ready (me.0.phase + 1) y
      → AreFolds events registered replies ready (width z) found z → width z ≤ 4
      → Allows Board slots id me 0 (λ _. new)
      (λ _. ended events registered width newest replies ready (step slots 0 new 0 none) me new)
  ends slots id me x z y found new last carried is_count round_z ready_z kept is_ready folds few s r sized at small = ⊎_elim (λ (u : IsUnopened s). absurd (not_unopened s id me.0 (is_in me.0 (Last x found) last tt) at u))
      (λ (k : Rule s). let m = ends_open slots id me x z y found new last carried is_count round_z ready_z kept is_ready folds few s k sized at small in (m.0, m.1, m.2, inr m.3, m.4)) r

  raises_open : (slots id : ℕ) (me : Mine) (new : ℕ) → me.0.role ≡ Stands → new ≡ me.0.phase
      → Allows Rule slots id me 16 (λ _. new)
      (λ _. raised events registered width newest replies ready (step slots 16 new 0 none) me new)
  raises_open slots id me new stands is s r _ at _ =
      let v : H = me.0 in
      let level = fits_as events registered count width newest replies ready s r id v Stands at stands in
      let ws : List ℕ = set s.words 16 new in
      let same : get_or ws 0 0 ≡ word0 s = get_or-set_other s.words 16 0 new 0 (λ e. absurd (omega arith)) in
      let now : get_or ws 16 0 ≡ new = get_or-set_same s.words 16 new 0 (let wide = r.wide in omega arith) in
      let fit : (i : ℕ) (h : H) → get_elem? s.views i ≡ some h
      → Fit r.seat r.phase (get_or ws 0 0) r.value r.holder i h =
      λ i h e. subst (λ (z : ℕ). Fit r.seat r.phase z r.value r.holder i h) (sym same) (r.each i h e) in (
        v,
        keeps,
        tt,
        after events registered count width newest replies ready s r ws s.homes id v v r.phase r.value r.holder r.seat r.held at (length-set s.words 16 new
            ∙ r.wide) (ap (λ (z : ℕ). z + length v.tasks) r.parts) r.small
            (same ∙ r.word ∙ ap (λ (vs : List H). total (missing r.phase) vs + (if r.held then busy else 0))
            (sym (set_again s.views id v at)))
            (let l = level.1 in omega arith)
            (shut_beside events registered count width newest replies ready s r 16 new id v v at (no_keeper v v (Stands) stands refl) (λ e. absurd (omega arith)))
            (subst (λ (z : ℕ). House z r.value s.homes) (sym same) r.home)
            (fit id v at) (λ i h other e. fit i h e) r.stands
            (let k = r.rows.each id v at in rows_on (width r.value) s.words 16 new s.views id v (omega arith) r.rows k.0
            (found_moves s.words ws (beside s.words 16 new (omega arith)) v.role k.1) k.2)
            (begins_on events registered replies ready width r.phase s.words ws s.views id v r.value r.value
            (below_folds s.words 16 new (omega arith)) (λ (m : 0 < get_or ws 0 0). omega arith)
            (tail_same (events r.value)) refl r.begins
            (began_moves events registered replies ready r.begins.begun r.phase s.words ws (below_folds s.words 16 new (omega arith)) v
            (r.begins.each id v at))),
        refl,
      )

  pub raises : (slots id : ℕ) (me : Mine) (new : ℕ) → me.0.role ≡ Stands → 0 < length me.0.tasks → new ≡ me.0.phase
      → Allows Board slots id me 16 (λ _. new)
      (λ _. raised events registered width newest replies ready (step slots 16 new 0 none) me new)
  raises slots id me new stands some_task is s r sized at small = ⊎_elim (λ (u : IsUnopened s). absurd (not_unopened s id me.0 (is_in me.0 Stands stands some_task) at u))
      (λ (k : Rule s). let m = raises_open slots id me new stands is s k sized at small in (m.0, m.1, m.2, inr m.3, m.4)) r

  raises_late_open : (slots id : ℕ) (me : Mine) (new : ℕ) → me.0.role ≡ Gone → new ≡ me.0.phase
      → Allows Rule slots id me 16 (λ n. max n new)
      (raised events registered width newest replies ready (step slots 16 new 0 none) me)
  raises_late_open slots id me new gone is s r _ at _ =
      let v : H = me.0 in
      let f = fits_as events registered count width newest replies ready s r id v Gone at gone in
      let o = r.over in
      let new' : ℕ = max (get_or s.words 16 0) new in
      let ws : List ℕ = set s.words 16 new' in
      let same : get_or ws 0 0 ≡ word0 s = get_or-set_other s.words 16 0 new' 0 (λ e. absurd (omega arith)) in
      let now : get_or ws 16 0 ≡ new' = get_or-set_same s.words 16 new' 0 (let wide = r.wide in
      omega arith) in
      let low : max (get_or s.words 16 0) new ≤ r.phase = (let l = f.0 in omega arith) in
      let fit : (i : ℕ) (h : H) → get_elem? s.views i ≡ some h
      → Fit r.seat r.phase (get_or ws 0 0) r.value r.holder i h =
      λ i h e. subst (λ (z : ℕ). Fit r.seat r.phase z r.value r.holder i h) (sym same) (r.each i h e) in (
        v,
        keeps,
        tt,
        after events registered count width newest replies ready s r ws s.homes id v v r.phase r.value r.holder r.seat r.held at (length-set s.words 16 new'
            ∙ r.wide) (ap (λ (z : ℕ). z + length v.tasks) r.parts) r.small
            (same ∙ r.word ∙ ap (λ (vs : List H). total (missing r.phase) vs + (if r.held then busy else 0))
            (sym (set_again s.views id v at)))
            (subst (λ (z : ℕ). z ≤ r.phase) (sym now) low)
            (shut_beside events registered count width newest replies ready s r 16 new' id v v at (no_keeper v v (Gone) gone refl) (λ e. absurd (omega arith)))
            (subst (λ (z : ℕ). House z r.value s.homes) (sym same) r.home)
            (fit id v at) (λ i h other e. fit i h e) r.stands
            (let k = r.rows.each id v at in rows_on (width r.value) s.words 16 new' s.views id v (omega arith) r.rows k.0
            (found_moves s.words ws (beside s.words 16 new' (omega arith)) v.role k.1) k.2)
            (begins_on events registered replies ready width r.phase s.words ws s.views id v r.value r.value
            (below_folds s.words 16 new' (omega arith)) (λ (m : 0 < get_or ws 0 0). omega arith)
            (tail_same (events r.value)) refl r.begins
            (began_moves events registered replies ready r.begins.begun r.phase s.words ws (below_folds s.words 16 new' (omega arith)) v
            (r.begins.each id v at))),
        refl,
      )

  pub raises_late : (slots id : ℕ) (me : Mine) (new : ℕ) → me.0.role ≡ Gone → new ≡ me.0.phase
      → Allows Board slots id me 16 (λ n. max n new)
      (raised events registered width newest replies ready (step slots 16 new 0 none) me)
  raises_late slots id me new gone is s r sized at small = ⊎_elim (λ (u : IsUnopened s). absurd (not_unopened s id me.0 (is_in me.0 Gone gone tt) at u))
      (λ (k : Rule s). let m = raises_late_open slots id me new gone is s k sized at small in (m.0, m.1, m.2, inr m.3, m.4)) r
