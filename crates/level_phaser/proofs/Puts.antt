-- A row's own task writes it, and the last reads it: both keep the rule of the table.
use Rattle.std.proofs.Common.{◌*◌, ◌≡◌, ◌≢◌, ⊎_elim, ℕ, zero, suc, ◌+◌, ◌<◌, ◌≤◌, List, [], ◌∷◌, Bool, length, get_or, set, sym, refl, ap, ◌∙◌, subst, arith, length-set, get_or-set_other, get_or-set_same, if◌then◌else◌, inr}
use mathlib.Core.Logic.{dite}
use mathlib.Core.Option.{Option, some, none}
use native.Mathlib.Decide.{ℕ_discrete}
use lib.ListN.{get_elem?}
use Rattle.atomic_table.specs.Table.{State, Me, step, keeps, Allows}
use Rattle.atomic_table.proofs.Lists.{at_set}
use Rattle.level_phaser.specs.declared.view.SeatView.{SeatView}
use Rattle.level_phaser.specs.declared.view.SeatedTask.{SeatedTask}
use Rattle.level_phaser.specs.declared.view.Deeds.{Deeds}
use Rattle.level_phaser.specs.declared.view.Role.{Role}
use Rattle.level_phaser.specs.declared.view.Role.TheVariants.{Stands, Came, Last, Holder, Gone}
use Rattle.phase_model.specs.declared.history.Event.{Event}
use Rattle.phase_model.specs.declared.call.Call.{Call}
use Rattle.phase_model.specs.Replies.{Reply}
use Rattle.level_phaser.specs.Views.{seated_as, signalled, showing, with_pending}
use Rattle.level_phaser.specs.inner.Board.{busy, missing, sent_in, accumulator_in, IsSound, Shown, IsFound, Knows, Each, FitsIn, Fits, Homes, IsLevel, IsUnopened, IsBoard}
use Rattle.level_phaser.specs.inner.Plays.{showed, found}
use Rattle.level_phaser.proofs.Totals.{total_set, total_at}
use Rattle.level_phaser.proofs.Begins.{above_folds, begins_on, began_standing, showing_fresh}
use Rattle.level_phaser.proofs.Keeps.{IsIn, is_in, not_unopened, no_keeper, shut_beside, tail_same, after, fits_as, missing_as, unmoved}

pub sound_more : (a b n : ℕ) → a ≤ b → IsSound a n → IsSound b n
sound_more a b zero most k = tt
sound_more a b (suc n) most k = omega (arith, k)

-- a word that stands for a value names an accumulator that there is
pub sound_names : (width n : ℕ) → n ≢ 0 → IsSound width n → accumulator_in n < width
sound_names width zero some_word k = absurd (some_word refl)
sound_names width (suc n) some_word k = k

length_showing : (es : List Event) (cs : List SeatedTask) → length (showing es cs) ≡ length cs
length_showing es [] = refl
length_showing es (c ∷ cs) = ap suc (length_showing es cs)

-- each of these tasks is of this seat
OfSeat : (ℕ → ℕ) → ℕ → List SeatedTask → Type 0
OfSeat seat i [] = Unit {0}
OfSeat seat i (c ∷ cs) = (seat c.task ≡ i) × OfSeat seat i cs

-- another task's row changes
shown_else : (seat : ℕ → ℕ) (words : List ℕ) (task n i : ℕ) → seat task ≢ i → (cs : List SeatedTask)
    → OfSeat seat i cs → Shown words cs → Shown (set words (32 + 8 * task) n) cs
unfolding OfSeat
shown_else seat words task n i other [] of k = tt
shown_else seat words task n i other (c ∷ cs) of k = (
  ap (sent_in c.task) (get_or-set_other words (32 + 8 * task) (32 + 8 * c.task) n 0
      (λ e. other (ap seat (same_row task c.task e) ∙ of.0))) ∙ k.0,
  shown_else seat words task n i other cs of.1 k.1,
)
  where
    same_row : (a b : ℕ) → 32 + 8 * b ≡ 32 + 8 * a → a ≡ b
    same_row a b e = omega arith

module _ {S : Type 0} (events : S → List Event) (registered : ℕ → S → Bool) (count : S → ℕ) (width : S → ℕ)
    (newest : S → ℕ) (replies : S → Call → Reply) (ready : ℕ → S → Type 0) where
  abbrev H : Type 0
  H = SeatView S

  abbrev St : Type 0
  St = State S H

  abbrev Mine : Type 0
  Mine = Me S H

  abbrev Rule : St → Type 0
  Rule = IsLevel events registered count width replies ready

  abbrev Board : State S (SeatView S) → Type 0
  Board = IsBoard events registered count width replies ready

  abbrev Ok : (ℕ → ℕ) → S → ℕ → List SeatedTask → Type 0
  Ok = Each events registered count width ready

  abbrev Suits : (ℕ → ℕ) → Role S → List SeatedTask → ℕ → ℕ → ℕ → S → ℕ → ℕ → Type 0
  Suits = FitsIn events registered count width ready

  abbrev Fit : (ℕ → ℕ) → ℕ → ℕ → S → ℕ → ℕ → H → Type 0
  Fit = Fits events registered count width ready

  abbrev House : ℕ → S → List (Option S) → Type 0
  House = Homes events registered count width ready

  of_each : (seat : ℕ → ℕ) (x : S) (i : ℕ) (cs : List SeatedTask) → Ok seat x i cs → OfSeat seat i cs
  unfolding OfSeat
  of_each seat x i [] k = tt
  of_each seat x i (c ∷ cs) k = (k.1, of_each seat x i cs k.3)

  of_signalled : (seat : ℕ → ℕ) (x : S) (i : ℕ) (cs : List SeatedTask) → Ok seat x i (signalled cs)
      → OfSeat seat i cs
  unfolding OfSeat
  of_signalled seat x i [] k = tt
  of_signalled seat x i (c ∷ cs) k = (k.1, of_signalled seat x i cs k.3)

  of_role : (seat : ℕ → ℕ) (role : Role S) (cs : List SeatedTask) (at phase word : ℕ) (x : S) (holder i : ℕ)
      → Suits seat role cs at phase word x holder i → OfSeat seat i cs
  unfolding OfSeat
  of_role seat Stands cs at phase word x holder i f = of_each seat x i cs f.2
  of_role seat Came cs at phase word x holder i f =
      ⊎_elim (λ (e : (at ≡ phase) × Ok seat x i cs). of_each seat x i cs e.1)
      (λ (e : (at + 1 ≡ phase) × Ok seat x i (signalled cs)). of_signalled seat x i cs e.1) f.1
  of_role seat (Last u us) cs at phase word x holder i f = of_each seat x i cs f.4
  of_role seat (Holder u) cs at phase word x holder i f = of_each seat x i cs f.4
  of_role seat Gone cs at phase word x holder i f = subst (λ (z : List SeatedTask). OfSeat seat i z) (sym f.1) tt

  -- nobody is the last while one is missing
  found_role : (seat : ℕ → ℕ) (role : Role S) (cs : List SeatedTask) (at phase word : ℕ) (x : S) (holder i : ℕ)
      (words : List ℕ) → 0 < word → Suits seat role cs at phase word x holder i → IsFound words role
  found_role seat Stands cs at phase word x holder i words missed f = tt
  found_role seat Came cs at phase word x holder i words missed f = tt
  found_role seat (Last u us) cs at phase word x holder i words missed f = let z = f.1 in absurd (omega arith)
  found_role seat (Holder u) cs at phase word x holder i words missed f = tt
  found_role seat Gone cs at phase word x holder i words missed f = tt

  each_showing : (seat : ℕ → ℕ) (x : S) (i : ℕ) (es : List Event) (cs : List SeatedTask) → Ok seat x i cs
      → Ok seat x i (showing es cs)
  each_showing seat x i es [] k = tt
  each_showing seat x i es (c ∷ cs) k = (k.0, k.1, k.2, each_showing seat x i es cs k.3)

  puts_open : (slots id task : ℕ) (me : Mine) (d : Deeds) (es : List Event) (fresh : Bool) (new : ℕ) → task < 256
      → me.0.tasks ≡ seated_as task d es fresh ∷ [] → me.0.role ≡ Stands → IsSound me.0.width new
      → Allows Rule slots id me (32 + 8 * task) (λ _. new)
      (λ _. showed events registered width newest replies ready (step slots (32 + 8 * task) new 0 none) me new)
  puts_open slots id task me d es fresh new low one stands sound s r _ at _ =
      let v : H = me.0 in
      let w : H = with_pending v (sent_in task new) in
      let k = r.rows.each id v at in
      let level = fits_as events registered count width newest replies ready s r id v Stands at stands in
      let ws : List ℕ = set s.words (32 + 8 * task) new in
      let same0 : get_or ws 0 0 ≡ get_or s.words 0 0 =
      get_or-set_other s.words (32 + 8 * task) 0 new 0 (λ e. absurd (omega arith)) in
      let same16 : get_or ws 16 0 ≡ get_or s.words 16 0 =
      get_or-set_other s.words (32 + 8 * task) 16 new 0 (λ e. absurd (omega arith)) in
      let now : get_or ws (32 + 8 * task) 0 ≡ new = get_or-set_same s.words (32 + 8 * task) new 0
      (let wide = r.wide in omega arith) in
      let lv : length v.tasks ≡ 1 = ap length one in
      let lw : length w.tasks ≡ length v.tasks = length_showing (sent_in task new) v.tasks in
      let mv : missing r.phase v ≡ length v.tasks = missing_as events registered count width newest replies ready v Stands r.phase stands in
      let mw : missing r.phase w ≡ length w.tasks = missing_as events registered count width newest replies ready w Stands r.phase stands in
      let sum = total_set (missing r.phase) s.views id v w at in
      let most = total_at (missing r.phase) s.views id v at in
      let word = r.word in
      let missed : 0 < get_or s.words 0 0 = omega arith in
      let tw : w.tasks ≡ seated_as task d (sent_in task new) fresh ∷ [] = ap (showing (sent_in task new)) one in
      let own = subst (λ (cs : List SeatedTask). Ok r.seat r.value id cs) one level.2 in
      let parts = r.parts in (
        w,
        keeps,
        tt,
        after events registered count width newest replies ready s r ws s.homes id v w r.phase r.value r.holder r.seat
            r.held at (length-set s.words (32 + 8 * task) new ∙ r.wide) (omega arith) r.small
            (same0 ∙ word ∙ ap (λ (z : ℕ). z + (if r.held then busy else 0)) (omega arith))
            (subst (λ (z : ℕ). z ≤ r.phase) (sym same16) r.over)
            (shut_beside events registered count width newest replies ready s r (32 + 8 * task) new id v w at (no_keeper v w (Stands) stands refl) (λ e. absurd (omega arith)))
            (subst (λ (z : ℕ). House z r.value s.homes) (sym same0) r.home) (
              (r.each id v at).0,
              subst (λ (z : Role S). Suits r.seat z w.tasks v.phase r.phase (get_or ws 0 0) r.value
                  r.holder id) (sym stands) (omega arith, level.1, each_showing r.seat r.value id (sent_in task new) v.tasks level.2),
            )
            (λ i h other e. subst (λ (z : ℕ). Fit r.seat r.phase z r.value r.holder i h) (sym same0) (r.each i h e))
            r.stands record {
              sound = λ t. dite (ℕ_discrete t task)
                  (λ (here : t ≡ task). subst (λ (n : ℕ). IsSound (width r.value) n)
                  (sym (ap (λ (u : ℕ). get_or ws (32 + 8 * u) 0) here ∙ now))
                  (sound_more v.width (width r.value) new k.2 sound))
                  (λ (there : t ≢ task). subst (λ (n : ℕ). IsSound (width r.value) n)
                  (sym (get_or-set_other s.words (32 + 8 * task) (32 + 8 * t) new 0 (λ e. there (omega arith))))
                  (r.rows.sound t));
              each = λ i h e. ⊎_elim
                  (λ (t : (i ≡ id) × (w ≡ h)). subst (λ (z : H). Knows (width r.value) ws z) t.1 (
                    subst (λ (cs : List SeatedTask). Shown ws cs) (sym tw) (ap (sent_in task) now, tt),
                    subst (λ (z : Role S). IsFound ws z) (sym stands) tt,
                    k.2,
                  ))
                  (λ (t : (i ≢ id) × (get_elem? s.views i ≡ some h)). (let f = r.each i h t.1 in
                  let q = r.rows.each i h t.1 in (
                    shown_else r.seat s.words task new i (λ z. t.0 (sym z ∙ own.1)) h.tasks
                        (of_role r.seat h.role h.tasks h.phase r.phase (get_or s.words 0 0) r.value r.holder i f.1)
                        q.0,
                    found_role r.seat h.role h.tasks h.phase r.phase (get_or s.words 0 0) r.value r.holder i ws
                        missed f.1,
                    q.2,
                  )))
                  (at_set s.views id i w h e);
            }
            (begins_on events registered replies ready width r.phase s.words ws s.views id w r.value r.value
            (above_folds s.words (32 + 8 * task) new (omega arith)) (λ _. missed) (tail_same (events r.value)) refl
            r.begins (began_standing events registered replies ready r.begins.begun r.phase w.phase ws w.role w.tasks w.seen stands
            (showing_fresh events registered replies ready r.begins.begun v.seen (sent_in task new) v.tasks (r.begins.each id v at).1))),
        λ task' is. let t : task ≡ task' = omega arith in
            λ j. (with_pending v (sent_in (t j) new), me.1),
      )

  pub puts : (slots id task : ℕ) (me : Mine) (d : Deeds) (es : List Event) (fresh : Bool) (new : ℕ) → task < 256
      → me.0.tasks ≡ seated_as task d es fresh ∷ [] → me.0.role ≡ Stands → IsSound me.0.width new
      → Allows Board slots id me (32 + 8 * task) (λ _. new)
      (λ _. showed events registered width newest replies ready (step slots (32 + 8 * task) new 0 none) me new)
  puts slots id task me d es fresh new low one stands sound s r sized at small = ⊎_elim (λ (u : IsUnopened s). absurd (not_unopened s id me.0 (is_in me.0 Stands stands (let k : length me.0.tasks ≡ 1 = ap length one in omega arith)) at u))
      (λ (k : Rule s). let m = puts_open slots id task me d es fresh new low one stands sound s k sized at small in (m.0, m.1, m.2, inr m.3, m.4)) r

  finds_open : (slots id task : ℕ) (me : Mine) → Allows Rule slots id me (32 + 8 * task) (λ x. x)
      (found events registered width newest replies ready (step slots (32 + 8 * task) 0 0 none) me)
  finds_open slots id task me s r _ at _ = (
    me.0,
    keeps,
    tt,
    unmoved events registered count width newest replies ready s r (32 + 8 * task) id me.0 at,
    (
      refl,
      λ x ws last.
          let f = fits_as events registered count width newest replies ready s r id me.0 (Last x ws) at last in
          let k = subst (λ (z : Role S). IsFound s.words z) last (r.rows.each id me.0 at).1 in
          (k task, subst (λ (z : S). IsSound (width z) (get_or s.words (32 + 8 * task) 0)) (sym f.2) (r.rows.sound task)),
    ),
  )

  pub finds : (slots id task : ℕ) (me : Mine) → IsIn me.0 → Allows Board slots id me (32 + 8 * task) (λ x. x)
      (found events registered width newest replies ready (step slots (32 + 8 * task) 0 0 none) me)
  finds slots id task me inside s r sized at small = ⊎_elim (λ (u : IsUnopened s). absurd (not_unopened s id me.0 inside at u))
      (λ (k : Rule s). let m = finds_open slots id task me s k sized at small in (m.0, m.1, m.2, inr m.3, m.4)) r
