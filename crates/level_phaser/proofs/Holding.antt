-- The steps of a holder keep the rule of the table.
use Rattle.std.proofs.Common.{◌*◌, ◌≡◌, ◌≢◌, ◌⊎◌, ⊎_elim, inl, inr, ℕ, suc, ◌+◌, ◌-◌, ◌%◌, ◌^◌, ◌<◌, ◌≤◌, eqb, List, [], ◌∷◌, Bool, true, false, length, get_or, set, sym, refl, ap, ◌∙◌, subst, arith, true≢false, length-set, get_or-set_other, get_or-set_same, eq-eqb, ne_eqb}
use mathlib.Core.Logic.{dite}
use mathlib.Core.Option.{Option, some, none}
use native.Mathlib.Decide.{ℕ_discrete}
use lib.ListN.{get_elem?}
use prog.Atomic.{either}
use Rattle.atomic_table.specs.Table.{State, Me, step, keeps, takes, gives, stepped, carried_after, Allows}
use Rattle.level_phaser.specs.declared.view.SeatView.{SeatView}
use Rattle.level_phaser.specs.declared.view.SeatedTask.{SeatedTask}
use Rattle.level_phaser.specs.declared.view.Role.{Role}
use Rattle.level_phaser.specs.declared.view.Role.TheVariants.{Stands, Came, Last, Holder, Gone}
use Rattle.phase_model.specs.declared.history.Event.{Event}
use Rattle.phase_model.specs.declared.call.Call.{Call}
use Rattle.phase_model.specs.Replies.{Reply}
use Rattle.told_history.specs.Tails.{IsTail}
use Rattle.level_phaser.specs.Deeds.{deeds, deeds_of}
use Rattle.level_phaser.specs.Changes.{IsJoined, IsSent, IsLeft, IsKept}
use Rattle.level_phaser.specs.Views.{seated, signalled, known_by, view_of, with_role, with_seen, without_tasks}
use Rattle.level_phaser.specs.inner.Board.{busy, total, missing, Each, FitsIn, Fits, Homes, IsLevel, IsUnopened, IsBoard}
use Rattle.level_phaser.specs.inner.Plays.{claimed, joined, left, released, shown}
use Rattle.level_phaser.specs.inner.Board.{sent_in, IsFound, Shown, Rows}
use Rattle.level_phaser.proofs.Rows.{beside, beyond_last, shown_known, rows_on}
use Rattle.std.proofs.lemmas.Bool.{false≢true}
use Rattle.level_phaser.specs.inner.Folds.{Began}
use Rattle.level_phaser.proofs.Begins.{below_folds, begins_on, known_fresh}
use Rattle.level_phaser.proofs.Totals.{total_set, total_at}
use Rattle.level_phaser.proofs.Keeps.{is_in, not_unopened, tail_on, tail_same, put, put_here, put_else, after, fits_as, missing_as, few, cases, none_holds, at_home, unmoved, are_seated, set_home, each_moves, no_keeper, some_tasks, shut_beside}

module _ {S : Type 0} (events : S → List Event) (registered : ℕ → S → Bool) (count : S → ℕ) (width : S → ℕ) (newest : S → ℕ) (replies : S → Call → Reply)
    (ready : ℕ → S → Type 0) where
  abbrev H : Type 0
  H = SeatView S

  abbrev St : Type 0
  St = State S H

  abbrev Mine : Type 0
  Mine = Me S H

  abbrev Rule : St → Type 0
  Rule = IsLevel events registered count width replies ready

  abbrev Board : State S (SeatView S) → Type 0
  Board = IsBoard events registered count width replies ready

  abbrev Ok : (ℕ → ℕ) → S → ℕ → List SeatedTask → Type 0
  Ok = Each events registered count width ready

  abbrev Suits : (ℕ → ℕ) → Role S → List SeatedTask → ℕ → ℕ → ℕ → S → ℕ → ℕ → Type 0
  Suits = FitsIn events registered count width ready

  abbrev Fit : (ℕ → ℕ) → ℕ → ℕ → S → ℕ → ℕ → H → Type 0
  Fit = Fits events registered count width ready

  abbrev House : ℕ → S → List (Option S) → Type 0
  House = Homes events registered count width ready

  abbrev word0 : St → ℕ
  word0 s = get_or s.words 0 0

  claims_open : (slots id : ℕ) (me : Mine) (old new : ℕ) → 0 < old → old < busy → new ≡ old + busy
      → me.0.role ≡ Stands → me.1 ≡ []
      → Allows Rule slots id me 0 (λ x. either (eqb x old) new x)
      (claimed events registered width newest replies ready (step slots 0 old new none) me)
  claims_open slots id me old new some_old free_old is_new stands bare s r _ at _ =
      let x : ℕ = word0 s in
      let v : H = me.0 in
      let level = fits_as events registered count width newest replies ready s r id v Stands at stands in
      let n : ℕ = total (missing r.phase) s.views in
      dite (ℕ_discrete x old)
      (λ hit.
      let w : H = with_role v (Holder r.value) in
      let home : s.homes ≡ some r.value ∷ [] = at_home events registered count width newest replies ready x r.value s.homes (omega arith) (omega arith) r.home in
      let is_n : x ≡ n = ⊎_elim (λ (t : (x < busy) × (x ≡ n) × (r.held ≡ false)). t.1)
      (λ (t : (busy ≤ x) × (x ≡ n + busy) × (r.held ≡ true)). let q = t.0 in absurd (omega arith))
      (cases events registered count width newest replies ready s r) in
      let now : get_or (set s.words 0 new) 0 0 ≡ new = get_or-set_same s.words 0 new 0 (let wide = r.wide in
      omega arith) in
      let mv : missing r.phase v ≡ length v.tasks = missing_as events registered count width newest replies ready v Stands r.phase stands in
      let mw : missing r.phase w ≡ length v.tasks = refl in
      let sum = total_set (missing r.phase) s.views id v w at in (
        w,
        takes 0 r.value,
        ap (λ hs. get_elem? hs 0) home,
        subst (λ b. Rule (stepped s 0 (either b new x) id me.1 w (takes 0 r.value))) (sym (eq-eqb x old hit))
            (after events registered count width newest replies ready s r (set s.words 0 new) (set s.homes 0 none) id v w r.phase r.value id r.seat true at
            (length-set s.words 0 new ∙ r.wide) (ap (λ (z : ℕ). z + length v.tasks) r.parts) r.small
            (now ∙ omega arith)
            (subst (λ (z : ℕ). z ≤ r.phase)
            (sym (get_or-set_other s.words 0 16 new 0 (λ e. absurd (omega arith)))) r.over)
            (shut_beside events registered count width newest replies ready s r 0 new id v w at (no_keeper v w (Stands) stands refl) (λ e. absurd (omega arith)))
            (inr (ap (λ hs. set hs 0 none) home, inr (omega arith)))
            ((r.each id v at).0, (level.1, omega arith, refl, refl, level.2))
            (λ i h other e. let f = r.each i h e in (
              f.0,
              none_holds events registered count width newest replies ready r.seat h.role h.tasks h.phase r.phase x _ r.value r.holder id i (omega arith)
                  (omega arith) f.1,
            ))
            r.stands
            (let k = r.rows.each id v at in rows_on (width r.value) s.words 0 new s.views id w (omega arith) r.rows
            k.0 tt k.2)
            (begins_on events registered replies ready width r.phase s.words (set s.words 0 new) s.views id w r.value r.value
            (below_folds s.words 0 new (omega arith)) (λ _. omega arith) (tail_same (events r.value)) refl r.begins
            (tt, (r.begins.each id v at).1, tt))),
        (
          (λ _. (
            r.value,
            ap (λ c. (w, (0, r.value) ∷ c)) bare,
            subst (λ (z : ℕ). ready z r.value)
                (sym level.1) r.stands,
            are_seated events registered count width newest replies ready r.seat r.value id v.tasks level.2,
            (r.each id v at).0.0,
          )),
          λ not. absurd (not hit),
        ),
      ))
      (λ miss. (
        v,
        keeps,
        tt,
        subst (λ b. Rule (stepped s 0 (either b new x) id me.1 v keeps))
            (sym (ne_eqb x old miss)) (unmoved events registered count width newest replies ready s r 0 id v at),
        ((λ hit. absurd (miss hit)), λ _. refl),
      ))

  pub claims : (slots id : ℕ) (me : Mine) (old new : ℕ) → 0 < old → old < busy → new ≡ old + busy
      → me.0.role ≡ Stands → 0 < length me.0.tasks → me.1 ≡ []
      → Allows Board slots id me 0 (λ x. either (eqb x old) new x)
      (claimed events registered width newest replies ready (step slots 0 old new none) me)
  claims slots id me old new some_old free_old is_new stands some_task bare s r sized at small = ⊎_elim (λ (u : IsUnopened s). absurd (not_unopened s id me.0 (is_in me.0 Stands stands some_task) at u))
      (λ (k : Rule s). let m = claims_open slots id me old new some_old free_old is_new stands bare s k sized at small in (m.0, m.1, m.2, inr m.3, m.4)) r

  given_role : (seat seat' : ℕ → ℕ) (role : Role S) (tasks : List SeatedTask) (at phase word word' : ℕ)
      (x y : S) (holder i id : ℕ) → busy ≤ word → i ≢ id → id ≡ holder
      → ((task : ℕ) → seat task ≡ i → registered task x ≡ true → (registered task y ≡ true) × (seat' task ≡ i)
      × (deeds_of task (events y) ≡ deeds_of task (events x)))
      → Suits seat role tasks at phase word x holder i → Suits seat' role tasks at phase word' y holder i
  given_role seat seat' Stands tasks at phase word word' x y holder i id held other mine moves f =
      (f.0, f.1, each_moves events registered count width newest replies ready seat seat' x y i tasks moves f.2)
  given_role seat seat' Came tasks at phase word word' x y holder i id held other mine moves f = (
    f.0,
    ⊎_elim (λ (e : (at ≡ phase) × Ok seat x i tasks). inl (e.0, each_moves events registered count width newest replies ready seat seat' x y i tasks moves e.1))
        (λ (e : (at + 1 ≡ phase) × Ok seat x i (signalled tasks)). inr
        (e.0, each_moves events registered count width newest replies ready seat seat' x y i (signalled tasks) moves e.1)) f.1,
  )
  given_role seat seat' (Last u us) tasks at phase word word' x y holder i id held other mine moves f = let q =
      f.1 in absurd (omega arith)
  given_role seat seat' (Holder u) tasks at phase word word' x y holder i id held other mine moves f =
      absurd (other (f.3 ∙ sym mine))
  given_role seat seat' Gone tasks at phase word word' x y holder i id held other mine moves f = f

  -- the holder's value is y now: what the word and the homes become is the step's
  given : (s : St) (r : Rule s) (id : ℕ) (v w : H) (x y : S) (word : ℕ) (homes : List (Option S))
      (seat' : ℕ → ℕ) → get_elem? s.views id ≡ some v → v.role ≡ Holder x → 0 < length v.tasks
      → count y + length v.tasks ≡ count x + length w.tasks → count y < 4294967296
      → word ≡ total (missing r.phase) (set s.views id w) → House word y homes
      → IsTail (events x) (events y) → IsTail w.seen (events y) → w.heard ≡ v.heard
      → Shown s.words w.tasks → IsFound (set s.words 0 word) w.role → w.width ≡ v.width → width y ≡ width x
      → Suits seat' w.role w.tasks w.phase r.phase word y r.holder id
      → ((i task : ℕ) → i ≢ id → r.seat task ≡ i → registered task x ≡ true → (registered task y ≡ true)
      × (seat' task ≡ i) × (deeds_of task (events y) ≡ deeds_of task (events x)))
      → ready v.phase y → Began events registered replies ready r.begins.begun r.phase (set s.words 0 word) w
      → Rule record { words = set s.words 0 word; homes = homes; views = set s.views id w }
  given s r id v w x y word homes seat' at holds some_of counts small is_word home longer seen heard shown found wide widths mine moves
      is_ready began =
      let f = fits_as events registered count width newest replies ready s r id v (Holder x) at holds in
      let same : x ≡ r.value = f.2 in
      let now : get_or (set s.words 0 word) 0 0 ≡ word = get_or-set_same s.words 0 word 0
      (let wide = r.wide in omega arith) in
      let counts' : count y + length v.tasks ≡ count r.value + length w.tasks = counts
      ∙ ap (λ (z : S). count z + length w.tasks) same in
      let parts = r.parts in
      let fit : (i : ℕ) (h : H) → i ≢ id → get_elem? s.views i ≡ some h
      → Fit seat' r.phase word y r.holder i h =
      λ i h other e. let fs = r.each i h e in (
        (
          tail_on h.seen (events x) (events y) (subst (λ (z : S). IsTail h.seen (events z)) (sym same) fs.0.0)
              longer,
          fs.0.1,
        ),
        given_role r.seat seat' h.role h.tasks h.phase r.phase (word0 s) word x y r.holder i id f.1 other f.3
            (λ task. moves i task other)
            (subst (λ (z : S). Suits r.seat h.role h.tasks h.phase r.phase (word0 s) z r.holder i)
            (sym same) fs.1),
      ) in
      after events registered count width newest replies ready s r (set s.words 0 word) homes id v w r.phase y r.holder seat' false at (length-set s.words 0 word
      ∙ r.wide) (omega arith) small (now ∙ is_word ∙ omega arith)
      (subst (λ (z : ℕ). z ≤ r.phase) (sym (get_or-set_other s.words 0 16 word 0 (λ e. absurd (omega arith))))
      r.over)
      (shut_beside events registered count width newest replies ready s r 0 word id v w at (some_tasks v w some_of) (λ e. absurd (omega arith)))
      (subst (λ (z : ℕ). House z y homes) (sym now) home)
      (subst (λ (z : ℕ). Fit seat' r.phase z y r.holder id w) (sym now)
      ((seen, (let q = (r.each id v at).0.1 in omega arith)), mine))
      (λ i h other e. subst (λ (z : ℕ). Fit seat' r.phase z y r.holder i h) (sym now) (fit i h other e))
      (subst (λ (z : ℕ). ready z y) f.0 is_ready)
      (subst (λ (z : ℕ). Rows z (set s.words 0 word) (set s.views id w))
      (ap width (sym same) ∙ sym widths)
      (rows_on (width r.value) s.words 0 word s.views id w (omega arith) r.rows shown found
      (let k = r.rows.each id v at in let k2 = k.2 in omega arith)))
      (begins_on events registered replies ready width r.phase s.words (set s.words 0 word) s.views id w r.value y
      (below_folds s.words 0 word (omega arith)) (λ _. let q = f.1 in omega arith)
      (subst (λ (z : S). IsTail (events z) (events y)) same longer) (widths ∙ ap width same) r.begins began)

  held_word : (s : St) (r : Rule s) → busy ≤ word0 s → word0 s ≡ total (missing r.phase) s.views + busy
  held_word s r held =
      ⊎_elim (λ (t : (word0 s < busy) × (word0 s ≡ total (missing r.phase) s.views) × (r.held ≡ false)).
      let q = t.0 in absurd (omega arith))
      (λ (t : (busy ≤ word0 s) × (word0 s ≡ total (missing r.phase) s.views + busy) × (r.held ≡ true)). t.1)
      (cases events registered count width newest replies ready s r)

  releases_open : (slots id : ℕ) (me : Mine) (x y : S) → 0 < length me.0.tasks → me.0.role ≡ Holder x
      → me.1 ≡ (0, y) ∷ [] → IsKept events registered count width x y → ready me.0.phase y
      → Allows Rule slots id me 0 (λ n. (n + (2 ^ 64 - 4611686018427387904)) % 2 ^ 64)
      (released events registered width newest replies ready (step slots 0 4611686018427387904 0 none) me)
  releases_open slots id me x y some_task holds carried kept is_ready s r _ at small =
      let v : H = me.0 in
      let f = fits_as events registered count width newest replies ready s r id v (Holder x) at holds in
      let same : x ≡ r.value = f.2 in
      let w : H = with_role v Stands in
      let n : ℕ = total (missing r.phase) s.views in
      let is_word = held_word s r f.1 in
      let few_n = few events registered count width newest replies ready s r in
      let mv : missing r.phase v ≡ length v.tasks = missing_as events registered count width newest replies ready v (Holder x) r.phase holds in
      let mw : missing r.phase w ≡ length v.tasks = refl in
      let sum = total_set (missing r.phase) s.views id v w at in
      let less : n ≡ (word0 s + 13835058055282163712) % 18446744073709551616 = omega arith in
      let counts : count y ≡ count x = kept.1 in
      let small_x : count x < 4294967296 = subst (λ (z : S). count z < 4294967296) (sym same) r.small in (
        w,
        gives,
        tt,
        subst (λ (z : ℕ × List (ℕ × S)). Rule (stepped s 0 z.0 id z.1 w gives)) (λ k. (less k, sym carried k))
            (given s r id v w x y n (set s.homes 0 (some y)) r.seat at holds some_task
            (ap (λ (z : ℕ). z + length v.tasks) counts) (omega arith) (omega arith)
            (inl (set_home events registered count width newest replies ready (word0 s) r.value y s.homes r.home, omega arith)) kept.0
            (tail_on v.seen (events x) (events y) (subst (λ (z : S). IsTail v.seen (events z)) (sym same)
            (r.each id v at).0.0) kept.0) refl (r.rows.each id v at).0 tt refl kept.3 (
              some_task,
              f.0,
              each_moves events registered count width newest replies ready r.seat r.seat x y id v.tasks
                  (λ task is there. let t = kept.2 task there in (t.0, is, t.1))
                  (subst (λ (z : S). Ok r.seat z id v.tasks) (sym same) f.4),
            )
            (λ i task other is there. let t = kept.2 task there in (t.0, is, t.1)) is_ready
            (tt, (r.begins.each id v at).1, tt)),
        ap (λ l. (w, carried_after l gives)) carried,
      )

  pub releases : (slots id : ℕ) (me : Mine) (x y : S) → 0 < length me.0.tasks → me.0.role ≡ Holder x
      → me.1 ≡ (0, y) ∷ [] → IsKept events registered count width x y → ready me.0.phase y
      → Allows Board slots id me 0 (λ n. (n + (2 ^ 64 - 4611686018427387904)) % 2 ^ 64)
      (released events registered width newest replies ready (step slots 0 4611686018427387904 0 none) me)
  releases slots id me x y some_task holds carried kept is_ready s r sized at small = ⊎_elim (λ (u : IsUnopened s). absurd (not_unopened s id me.0 (is_in me.0 (Holder x) holds tt) at u))
      (λ (k : Rule s). let m = releases_open slots id me x y some_task holds carried kept is_ready s k sized at small in (m.0, m.1, m.2, inr m.3, m.4)) r

  shows_open : (slots id : ℕ) (me : Mine) (c : SeatedTask) (e : Event) (x y : S) → me.0.tasks ≡ c ∷ []
      → me.0.role ≡ Holder x → me.1 ≡ (0, y) ∷ [] → IsSent events registered count width c.task e x y
      → ready me.0.phase y
      → Allows Rule slots id me 0 (λ n. (n + (2 ^ 64 - 4611686018427387904)) % 2 ^ 64)
      (shown events registered width newest replies ready (step slots 0 4611686018427387904 0 none) me)
  shows_open slots id me c e x y one holds carried sent is_ready s r _ at small =
      let v : H = me.0 in
      let f = fits_as events registered count width newest replies ready s r id v (Holder x) at holds in
      let same : x ≡ r.value = f.2 in
      let w : H = with_seen v (events y) in
      let n : ℕ = total (missing r.phase) s.views in
      let is_word = held_word s r f.1 in
      let few_n = few events registered count width newest replies ready s r in
      let lv : length v.tasks ≡ 1 = ap length one in
      let tw : w.tasks ≡ seated c.task (deeds_of c.task (events y)) c.pending ∷ [] = ap (known_by (events y)) one in
      let lw : length w.tasks ≡ 1 = ap length tw in
      let mv : missing r.phase v ≡ length v.tasks = missing_as events registered count width newest replies ready v (Holder x) r.phase holds in
      let mw : missing r.phase w ≡ length w.tasks = refl in
      let sum = total_set (missing r.phase) s.views id v w at in
      let less : n ≡ (word0 s + 13835058055282163712) % 18446744073709551616 = omega arith in
      let counts : count y ≡ count x = sent.1 in
      let small_x : count x < 4294967296 = subst (λ (z : S). count z < 4294967296) (sym same) r.small in
      let own = subst (λ (z : S × List SeatedTask). Ok r.seat z.0 id z.1) (λ k. (sym same k, one k)) f.4 in
      let did = sent.2 own.0 in (
        w,
        gives,
        tt,
        subst (λ (z : ℕ × List (ℕ × S)). Rule (stepped s 0 z.0 id z.1 w gives)) (λ k. (less k, sym carried k))
            (given s r id v w x y n (set s.homes 0 (some y)) r.seat at holds (omega arith) (omega arith) (omega arith)
            (omega arith)
            (inl (set_home events registered count width newest replies ready (word0 s) r.value y s.homes r.home, omega arith)) (e ∷ [], sent.0)
            (tail_same (events y)) refl (shown_known (events y) s.words v.tasks (r.rows.each id v at).0) tt refl
            sent.4 (
              omega arith,
              f.0,
              subst (λ (cs : List SeatedTask). Ok r.seat y id cs) (sym tw)
                  (did.0, own.1, refl, tt),
            )
            (λ i task other is there. let t = sent.3 task (λ k. other (sym is ∙ ap r.seat k ∙ own.1)) there in
            (t.0, is, t.1)) is_ready
            (tt, known_fresh events registered replies ready r.begins.begun (events y) (events y) v.tasks, tt)),
        λ y' is. let yy : y ≡ y' = ap (λ (l : List (ℕ × S)). (get_or l 0 (0, y)).1) (sym carried ∙ is) in
            λ k. (with_seen v (events (yy k)), (ap (λ l. carried_after l gives) carried) k),
      )

  pub shows : (slots id : ℕ) (me : Mine) (c : SeatedTask) (e : Event) (x y : S) → me.0.tasks ≡ c ∷ []
      → me.0.role ≡ Holder x → me.1 ≡ (0, y) ∷ [] → IsSent events registered count width c.task e x y
      → ready me.0.phase y
      → Allows Board slots id me 0 (λ n. (n + (2 ^ 64 - 4611686018427387904)) % 2 ^ 64)
      (shown events registered width newest replies ready (step slots 0 4611686018427387904 0 none) me)
  shows slots id me c e x y one holds carried sent is_ready s r sized at small = ⊎_elim (λ (u : IsUnopened s). absurd (not_unopened s id me.0 (is_in me.0 (Holder x) holds tt) at u))
      (λ (k : Rule s). let m = shows_open slots id me c e x y one holds carried sent is_ready s k sized at small in (m.0, m.1, m.2, inr m.3, m.4)) r

  joins_open : (slots id : ℕ) (me : Mine) (x y : S) → 0 < length me.0.tasks → me.0.role ≡ Holder x
      → me.1 ≡ (0, y) ∷ [] → IsJoined events registered count width (newest y) me.0.phase x y → count y < 4294967296
      → ready me.0.phase y
      → Allows Rule slots id me 0 (λ n. (n + (2 ^ 64 - 4611686018427387903)) % 2 ^ 64)
      (joined events registered width newest replies ready (step slots 0 4611686018427387903 0 none) me)
  joins_open slots id me x y some_task holds carried new few_y is_ready s r _ at small =
      let v : H = me.0 in
      let f = fits_as events registered count width newest replies ready s r id v (Holder x) at holds in
      let same : x ≡ r.value = f.2 in
      let t : ℕ = newest y in
      let es : List Event = sent_in t (get_or s.words (32 + 8 * t) 0) in
      let w : H = view_of (seated t (deeds v.phase []) es ∷ v.tasks) v.phase Stands v.seen v.heard v.width in
      let seat' : ℕ → ℕ = put r.seat t id in
      let n : ℕ = total (missing r.phase) s.views in
      let is_word = held_word s r f.1 in
      let few_n = few events registered count width newest replies ready s r in
      let mv : missing r.phase v ≡ length v.tasks = missing_as events registered count width newest replies ready v (Holder x) r.phase holds in
      let mw : missing r.phase w ≡ suc (length v.tasks) = refl in
      let sum = total_set (missing r.phase) s.views id v w at in
      let less : n + 1 ≡ (word0 s + 13835058055282163713) % 18446744073709551616 = omega arith in
      let counts = new.1 in
      let others : (i task : ℕ) → r.seat task ≡ i → registered task x ≡ true → (registered task y ≡ true)
      × (seat' task ≡ i) × (deeds_of task (events y) ≡ deeds_of task (events x)) =
      λ i task is there. (let m = new.5 task there in
      (m.0, put_else r.seat t id task (λ e. no_such task t x e there new.2) ∙ is, m.1)) in (
        w,
        gives,
        tt,
        subst (λ (z : ℕ × List (ℕ × S)). Rule (stepped s 0 z.0 id z.1 w gives)) (λ k. (less k, sym carried k))
            (given s r id v w x y (n + 1) (set s.homes 0 (some y)) seat' at holds some_task (omega arith) few_y
            (omega arith)
            (inl (set_home events registered count width newest replies ready (word0 s) r.value y s.homes r.home, omega arith)) new.0
            (tail_on v.seen (events x) (events y) (subst (λ (z : S). IsTail v.seen (events z)) (sym same)
            (r.each id v at).0.0) new.0) refl (refl, (r.rows.each id v at).0) tt refl new.6 (
              omega arith,
              f.0,
              (
                new.3,
                put_here r.seat t id,
                new.4,
                each_moves events registered count width newest replies ready r.seat seat' x y id v.tasks
                    (λ task is there. others id task is there)
                    (subst (λ (z : S). Ok r.seat z id v.tasks) (sym same) f.4),
              ),
            )
            (λ i task other is there. others i task is there) is_ready
            (tt, ((λ e. absurd (false≢true e)), (r.begins.each id v at).1), tt)),
        λ y' is. let c : (0, y) ∷ [] ≡ (0, y') ∷ [] = sym carried ∙ is in
            let yy : y ≡ y' = ap (λ (l : List (ℕ × S)). (get_or l 0 (0, y)).1) c in (
              es,
              (λ k. (
                view_of (seated (newest (yy k)) (deeds v.phase []) es ∷ v.tasks) v.phase Stands v.seen v.heard
                    v.width,
                (ap (λ l. carried_after l gives) carried) k,
              )),
              λ beyond. ap (sent_in t) (beyond_last s.words (32 + 8 * t)
                  (let wide = r.wide in let n = ap newest yy in omega arith)),
            ),
      )
    where
      no_such : (task t : ℕ) (z : S) → task ≡ t → registered task z ≡ true → registered t z ≡ false → ⊥
      no_such task t z e a b = true≢false (sym a ∙ ap (λ (k : ℕ). registered k z) e ∙ b)

  pub joins : (slots id : ℕ) (me : Mine) (x y : S) → 0 < length me.0.tasks → me.0.role ≡ Holder x
      → me.1 ≡ (0, y) ∷ [] → IsJoined events registered count width (newest y) me.0.phase x y → count y < 4294967296
      → ready me.0.phase y
      → Allows Board slots id me 0 (λ n. (n + (2 ^ 64 - 4611686018427387903)) % 2 ^ 64)
      (joined events registered width newest replies ready (step slots 0 4611686018427387903 0 none) me)
  joins slots id me x y some_task holds carried new few_y is_ready s r sized at small = ⊎_elim (λ (u : IsUnopened s). absurd (not_unopened s id me.0 (is_in me.0 (Holder x) holds tt) at u))
      (λ (k : Rule s). let m = joins_open slots id me x y some_task holds carried new few_y is_ready s k sized at small in (m.0, m.1, m.2, inr m.3, m.4)) r

  leaves_open : (slots id : ℕ) (me : Mine) (c : SeatedTask) (x y : S) → me.0.tasks ≡ c ∷ []
      → me.0.role ≡ Holder x → me.1 ≡ (0, y) ∷ [] → IsLeft events registered count width c.task x y
      → ready me.0.phase y
      → Allows Rule slots id me 0 (λ n. (n + (2 ^ 64 - 4611686018427387905)) % 2 ^ 64)
      (left events registered width newest replies ready (step slots 0 4611686018427387905 0 none) me)
  leaves_open slots id me c x y one holds carried gone is_ready s r _ at small =
      let v : H = me.0 in
      let f = fits_as events registered count width newest replies ready s r id v (Holder x) at holds in
      let same : x ≡ r.value = f.2 in
      let n : ℕ = total (missing r.phase) s.views in
      let is_word = held_word s r f.1 in
      let few_n = few events registered count width newest replies ready s r in
      let mv : missing r.phase v ≡ 1 = missing_as events registered count width newest replies ready v (Holder x) r.phase holds ∙ ap length one in
      let most = total_at (missing r.phase) s.views id v at in
      let own = subst (λ (cs : List SeatedTask). Ok r.seat r.value id cs) one f.4 in
      let less : n - 1 ≡ (word0 s + 13835058055282163711) % 18446744073709551616 = omega arith in
      let counts : count y + 1 ≡ count x = gone.1 in
      let lv : length v.tasks ≡ 1 = ap length one in
      let small_x : count x < 4294967296 = subst (λ (z : S). count z < 4294967296) (sym same) r.small in
      let out : (s.homes ≡ none ∷ []) =
      ⊎_elim (λ (t : (s.homes ≡ some r.value ∷ []) × (word0 s < busy)). let q = t.1 in let p = f.1 in
      absurd (omega arith)) (λ (t : (s.homes ≡ none ∷ []) × ((word0 s ≡ 0) ⊎ (busy ≤ word0 s))). t.0)
      r.home in
      let seen : IsTail (events y) (events y) = tail_same (events y) in
      let moves : (i task : ℕ) → i ≢ id → r.seat task ≡ i → registered task x ≡ true
      → (registered task y ≡ true) × (r.seat task ≡ i)
      × (deeds_of task (events y) ≡ deeds_of task (events x)) =
      λ i task other is there. (let t = gone.3 task (λ e. other (sym is ∙ ap r.seat e ∙ own.1)) there in
      (t.0, is, t.1)) in
      let whose : (y' : S) → me.1 ≡ (0, y') ∷ []
      → y ≡ y' = λ y' is. ap (λ (l : List (ℕ × S)). (get_or l 0 (0, y)).1) (sym carried ∙ is) in
      dite (ℕ_discrete (word0 s) (busy + 1))
      (λ last.
      let w : H = without_tasks v (Last y s.words) (events y) in
      let sum = total_set (missing r.phase) s.views id v w at in
      let mw : missing r.phase w ≡ 0 = refl in (
        w,
        keeps,
        tt,
        subst (λ (z : ℕ). Rule (stepped s 0 z id me.1 w keeps)) less
            (given s r id v w x y (n - 1) s.homes r.seat at holds (omega arith) (omega arith) (omega arith) (omega arith)
            (inr (out, inl (omega arith))) gone.0 seen refl tt (beside s.words 0 (n - 1) (omega arith)) refl gone.4
            (f.0, omega arith, refl, f.3, tt) moves is_ready
            (tt, tt, below_folds s.words 0 (n - 1) (omega arith))),
        λ y' is. (
          (λ _. let yy = whose y' is in (s.words, λ k. (without_tasks v (Last (yy k) s.words) (events (yy k)), is k), r.wide)),
          λ not. absurd (not last),
        ),
      ))
      (λ more.
      let w : H = without_tasks v Gone (events y) in
      let sum = total_set (missing r.phase) s.views id v w at in
      let mw : missing r.phase w ≡ 0 = refl in (
        w,
        gives,
        tt,
        subst (λ (z : ℕ × List (ℕ × S)). Rule (stepped s 0 z.0 id z.1 w gives)) (λ k. (less k, sym carried k))
            (given s r id v w x y (n - 1) (set s.homes 0 (some y)) r.seat at holds (omega arith) (omega arith) (omega arith)
            (omega arith)
            (inl (set_home events registered count width newest replies ready (word0 s) r.value y s.homes r.home, omega arith)) gone.0 seen refl tt tt refl
            gone.4
            (omega arith, refl) moves is_ready (tt, tt, tt)),
        λ y' is. (
          (λ last. absurd (more last)),
          λ _. let yy = whose y' is in
              λ k. (without_tasks v Gone (events (yy k)), (ap (λ l. carried_after l gives) carried) k),
        ),
      ))

  pub leaves : (slots id : ℕ) (me : Mine) (c : SeatedTask) (x y : S) → me.0.tasks ≡ c ∷ []
      → me.0.role ≡ Holder x → me.1 ≡ (0, y) ∷ [] → IsLeft events registered count width c.task x y
      → ready me.0.phase y
      → Allows Board slots id me 0 (λ n. (n + (2 ^ 64 - 4611686018427387905)) % 2 ^ 64)
      (left events registered width newest replies ready (step slots 0 4611686018427387905 0 none) me)
  leaves slots id me c x y one holds carried gone is_ready s r sized at small = ⊎_elim (λ (u : IsUnopened s). absurd (not_unopened s id me.0 (is_in me.0 (Holder x) holds tt) at u))
      (λ (k : Rule s). let m = leaves_open slots id me c x y one holds carried gone is_ready s k sized at small in (m.0, m.1, m.2, inr m.3, m.4)) r
