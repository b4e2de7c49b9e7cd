-- The steps of who opens a table and closes it keep the rule.
use Rattle.std.proofs.Common.{◌*◌, ◌≡◌, ◌≢◌, ⊎_elim, inl, inr, ℕ, ℤ, zero, suc, ◌+◌, ◌%◌, ◌^◌, ◌<◌, ◌≤◌, eqb, ◌==◌, not, Some, None, List, [], ◌∷◌, Bool, true, false, length, get_or, set, sym, refl, ap, ◌∙◌, subst, arith, length-set, get_or-set_other, get_or-set_same, eq-eqb, ne_eqb, if◌then◌else◌}
use Rattle.std.proofs.lemmas.Bool.{false≢true, and_from, and_parts, or_parts, or_left, or_right, eq-eqb as same_eq}
use Rattle.std.specs.Prelude.{drop, slice_get}
use mathlib.Core.Logic.{dite}
use mathlib.Core.Option.{Option, some, none, some-ne-none, some-injective}
use native.Mathlib.Decide.{ℕ_discrete, dec_le}
use lib.ListN.{get_elem?}
use lib.Seq.{set-get_or}
use prog.Atomic.{either}
use Rattle.atomic_table.specs.Table.{State, Me, step, keeps, takes, gives, stepped, put_back, carried_after, Allows, opening}
use Rattle.atomic_table.proofs.Lists.{set_again}
use Rattle.phase_model.specs.declared.history.Event.{Event}
use Rattle.phase_model.specs.declared.call.Call.{Call}
use Rattle.phase_model.specs.declared.op.Look.{Look}
use Rattle.phase_model.specs.Replies.{Reply}
use Rattle.level_phaser.specs.declared.view.SeatView.{SeatView}
use Rattle.level_phaser.specs.declared.view.SeatedTask.{SeatedTask}
use Rattle.level_phaser.specs.declared.view.Role.{Role}
use Rattle.level_phaser.specs.declared.view.Role.TheVariants.{Stands, Came, Holder, Gone}
use Rattle.level_phaser.specs.RoundLaws.{is_among, AreApart}
use Rattle.level_phaser.specs.Keeping.{are_apart}
use Rattle.level_phaser.specs.inner.Keeping.{slots_in, AreUntaken}
use Rattle.level_phaser.specs.inner.Steps.{Without, rest_of}
use Rattle.level_phaser.specs.Views.{seats_in, view_of, with_phase, role_after, idle_view, opening_view}
use Rattle.level_phaser.specs.inner.Board.{busy, total, parts_of, missing, sent_in, IsSound, Shown, Knows, Each, Fits, Homes, IsLevel, IsUnopened, IsBoard}
use Rattle.level_phaser.specs.inner.Folds.{fold_in, AreFresh, Began}
use Rattle.level_phaser.specs.inner.Plays.{taken, opened, seized, raised}
use Rattle.level_phaser.proofs.Rows.{beside, found_moves, rows_on}
use Rattle.level_phaser.proofs.Begins.{below_folds, began_moves, begins_on}
use Rattle.level_phaser.proofs.Totals.{total_set}
use Rattle.level_phaser.proofs.Keeps.{total_le, tail_same, after, fits_as, missing_as, missing_le, cases, none_holds, at_home, unmoved, set_same, is_in, not_unopened, no_keeper, shut_beside}

alone_at : {A : Type 0} (l : List A) (u v : A) (i : ℕ) → l ≡ u ∷ [] → get_elem? l i ≡ some v → v ≡ u
alone_at l u v zero is at = some-injective v u (sym at ∙ ap (λ vs. get_elem? vs 0) is)
alone_at l u v (suc i) is at = absurd (some-ne-none v (sym at ∙ ap (λ vs. get_elem? vs (suc i)) is))

alone_set : {A : Type 0} (l : List A) (u v w : A) (i : ℕ) → l ≡ u ∷ [] → get_elem? l i ≡ some v → set l i w ≡ w ∷ []
alone_set l u v w zero is at = ap (λ vs. set vs 0 w) is
alone_set l u v w (suc i) is at = absurd (some-ne-none v (sym at ∙ ap (λ vs. get_elem? vs (suc i)) is))

pub length_seats : (h : List Event) (ts : List ℕ) → length (seats_in h ts) ≡ length ts
length_seats h [] = refl
length_seats h (t ∷ ts) = ap suc (length_seats h ts)

-- whoever stands among them once stands there once as a Bool says it
pub apart_so : (ts : List ℕ) → AreApart ts → are_apart ts ≡ true
apart_so [] k = refl
apart_so (t ∷ ts) k = and_from (not (is_among t ts)) (are_apart ts) (ap not k.0) (apart_so ts k.1)

not_true : (b : Bool) → not b ≡ true → b ≡ false
not_true true e = absurd (false≢true e)
not_true false e = refl

other_number : (t u : ℕ) (us : List ℕ) → is_among t (u ∷ us) ≡ false → u ≢ t
other_number t u us absent e = false≢true (sym absent ∙ or_left (u == t) (is_among t us) (same_eq u t e))

without_so : (h : List Event) (t : ℕ) (ts : List ℕ) → is_among t ts ≡ false → Without t (seats_in h ts)
without_so h t [] absent = tt
without_so h t (u ∷ us) absent = (other_number t u us absent, without_so h t us (or_parts (u == t) (is_among t us) absent).1)

pub without : (h : List Event) (t : ℕ) (ts : List ℕ) → are_apart (t ∷ ts) ≡ true → Without t (seats_in h ts)
without h t ts k = without_so h t ts (not_true (is_among t ts) (and_parts (not (is_among t ts)) (are_apart ts) k).0)

pub drop_next : (ts : List ℕ) (n t : ℕ) → slice_get ts n ≡ Some t → drop n ts ≡ t ∷ drop (n + 1) ts
drop_next [] n t e = cc
drop_next (x ∷ xs) zero t e = let k : x ≡ t = cc in ap (λ (z : ℕ). z ∷ xs) k
drop_next (x ∷ xs) (suc n) t e = let k : suc (n + 1) ≡ suc n + 1 = omega arith in
    drop_next xs n t e ∙ ap (λ (i : ℕ). t ∷ drop i (x ∷ xs)) k

pub held_one : {S : Type 0} (held : List (ℕ × S)) → slots_in held ≡ 0 ∷ [] → (x : S) × (held ≡ (0, x) ∷ [])
held_one [] e = cc
held_one (c ∷ []) e = let k : c.0 ≡ 0 = ap (λ (l : List ℕ). get_or l 0 0) e in (c.1, λ j. (k j, c.1) ∷ [])
held_one (c ∷ d ∷ ds) e = let k : suc (suc (length (slots_in ds))) ≡ 1 = ap length e in absurd (omega arith)

-- nobody has taken one of these tasks
pub none_taken : {S : Type 0} (h : List Event) (ts numbers : List ℕ) (phase width : ℕ) (me : Me S (SeatView S))
    → numbers ≡ ts → 0 < length ts → AreApart ts → me ≡ (view_of (seats_in h ts) phase Stands h 0 width, [])
    → AreUntaken phase width 0 numbers h me
none_taken h [] numbers phase width me same any apart is = absurd (omega arith)
none_taken h (t ∷ ts) numbers phase width me same any apart is = (
  ap (λ m. m.0) is ∙ ap (λ (us : List ℕ). view_of (seats_in h us) phase (role_after (seats_in h us)) h 0 width) (sym same),
  ap (λ m. m.1) is,
  ap are_apart same ∙ apart_so (t ∷ ts) apart,
)

-- the next of those that nobody has taken
pub next_of : {S : Type 0} (phase width n : ℕ) (numbers : List ℕ) (h : List Event) (t : ℕ) (me : Me S (SeatView S))
    → AreUntaken phase width n numbers h me → slice_get numbers n ≡ Some t
    → (me.0 ≡ view_of (seats_in h (t ∷ drop (n + 1) numbers)) phase Stands h 0 width)
    × (are_apart (t ∷ drop (n + 1) numbers) ≡ true)
next_of phase width n numbers h t me k at =
    let d = drop_next numbers n t at in (
      k.0 ∙ ap (λ (us : List ℕ). view_of (seats_in h us) phase (role_after (seats_in h us)) h 0 width) d,
      sym (ap are_apart d) ∙ k.2,
    )

-- and then the others
pub taken_one : {S : Type 0} (phase width n : ℕ) (numbers : List ℕ) (h : List Event) (t : ℕ) (me m : Me S (SeatView S))
    → AreUntaken phase width n numbers h me → slice_get numbers n ≡ Some t → m ≡ (rest_of me.0, me.1)
    → AreUntaken phase width (n + 1) numbers h m
taken_one phase width n numbers h t me m k at is =
    let next = next_of phase width n numbers h t me k at in (
      ap (λ z. z.0) is ∙ ap rest_of next.0,
      ap (λ z. z.1) is ∙ k.1,
      (and_parts (not (is_among t (drop (n + 1) numbers))) (are_apart (drop (n + 1) numbers)) next.1).1,
    )

seats_shown : (words : List ℕ) (h : List Event) (ts : List ℕ) → ((t : ℕ) → get_or words (32 + 8 * t) 0 ≡ 0)
    → Shown words (seats_in h ts)
seats_shown words h [] clear = tt
seats_shown words h (t ∷ ts) clear = (ap (sent_in t) (clear t), seats_shown words h ts clear)

module _ {S : Type 0} (events : S → List Event) (registered : ℕ → S → Bool) (count : S → ℕ) (width : S → ℕ) (newest : S → ℕ) (replies : S → Call → Reply)
    (ready : ℕ → S → Type 0) where
  abbrev H : Type 0
  H = SeatView S

  abbrev St : Type 0
  St = State S H

  abbrev Mine : Type 0
  Mine = Me S H

  abbrev Rule : St → Type 0
  Rule = IsLevel events registered count width replies ready

  abbrev Board : St → Type 0
  Board = IsBoard events registered count width replies ready

  abbrev Ok : (ℕ → ℕ) → S → ℕ → List SeatedTask → Type 0
  Ok = Each events registered count width ready

  abbrev Fit : (ℕ → ℕ) → ℕ → ℕ → S → ℕ → ℕ → H → Type 0
  Fit = Fits events registered count width ready

  abbrev House : ℕ → S → List (Option S) → Type 0
  House = Homes events registered count width ready

  abbrev word0 : St → ℕ
  word0 s = get_or s.words 0 0

  not_both : (role : Role S) → role ≡ Stands → role ≡ Came → ⊥
  not_both role a b = cc

  -- a table that nobody has opened
  pub begins_idle : (words : List ℕ) (x : S) → length words ≡ 2080 → ((i : ℕ) → get_or words i 0 ≡ 0)
      → Board (opening words (x ∷ []) idle_view)
  begins_idle words x wide clear = inl (wide, clear, inl (x, refl, refl))

  pub takes_idle : (slots id : ℕ) (me : Mine) → me.0 ≡ idle_view → me.1 ≡ []
      → Allows Board slots id me 0 (λ x. x) (taken (step slots 0 0 0 none) me)
  takes_idle slots id me idle bare s r _ at _ = ⊎_elim
      (λ (u : IsUnopened s). ⊎_elim
      (λ (t : (x : S) × (s.homes ≡ some x ∷ []) × (s.views ≡ idle_view ∷ [])). (
        opening_view,
        takes 0 t.0,
        ap (λ hs. get_elem? hs 0) t.1,
        inl (
          length-set s.words 0 (get_or s.words 0 0) ∙ u.0,
          (λ i. ap (λ (ws : List ℕ). get_or ws i 0) (set-get_or s.words 0 0) ∙ u.1 i),
          inr (ap (λ hs. set hs 0 none) t.1, alone_set s.views idle_view me.0 opening_view id t.2 at),
        ),
        (t.0, ap (λ c. (opening_view, (0, t.0) ∷ c)) bare),
      ))
      (λ (t : (s.homes ≡ none ∷ []) × (s.views ≡ opening_view ∷ [])). absurd (not_both me.0.role
      (ap (λ (v : H). v.role) idle) (ap (λ (v : H). v.role) (alone_at s.views opening_view me.0 id t.1 at)))) u.2)
      (λ (k : Rule s). absurd (let f = fits_as events registered count width newest replies ready s k id me.0 Stands at (ap (λ (v : H). v.role) idle) in
      let n : length me.0.tasks ≡ 0 = ap (λ (v : H). length v.tasks) idle in let q = f.0 in omega arith)) r

  -- all tasks of a value stand
  stands_first : (words : List ℕ) (y : S) (p : ℕ) (ts : List ℕ) → length words ≡ 2080 → get_or words 0 0 ≡ count y
      → ((i : ℕ) → 0 < i → get_or words i 0 ≡ 0) → count y ≡ length ts → 0 < count y → count y < 4294967296
      → ((t : ℕ) → is_among t ts ≡ true → registered t y ≡ true) → width y ≤ 4 → ready p y
      → Rule record {
        words = words;
        homes = some y ∷ [];
        views = view_of (seats_in (events y) ts) p Stands (events y) 0 (width y) ∷ [];
      }
  stands_first words y p ts wide first clear long some_task small there narrow is_ready =
      let w : H = view_of (seats_in (events y) ts) p Stands (events y) 0 (width y) in
      let len : length w.tasks ≡ length ts = length_seats (events y) ts in record {
        phase = p;
        value = y;
        holder = 0;
        seat = λ _. 0;
        held = false;
        wide = wide;
        parts = omega arith;
        small = small;
        word = first ∙ omega arith;
        over = (let z = clear 16 (omega arith) in omega arith);
        shut = inl (clear 17 (omega arith));
        home = inl (refl, omega arith);
        each = λ i h e. fit w len i h e;
        rows = record {
          sound = λ t. subst (λ (n : ℕ). IsSound (width y) n) (sym (clear (32 + 8 * t) (omega arith))) tt;
          each = λ i h e. subst (λ (z : H). Knows (width y) words z) (sym (alone_at (w ∷ []) w h i refl e))
              (seats_shown words (events y) ts (λ t. clear (32 + 8 * t) (omega arith)), tt, omega arith);
        };
        begins = record {
          begun = y;
          stood = is_ready;
          longer = tail_same (events y);
          wide = refl;
          narrow = narrow;
          folds = λ _ a l low is. absurd (none_some l (sym (ap fold_in (clear (24 + a) (omega arith))) ∙ is));
          each = λ i h e. subst (λ (z : H). Began events registered replies ready y p words z)
              (sym (alone_at (w ∷ []) w h i refl e)) (tt, seats_fresh (events y) (events y) ts, tt);
        };
        stands = is_ready;
      }
    where
      none_some : (l : Look ℤ) → None ≡ Some l → ⊥
      none_some l e = cc

      seats_fresh : (seen h : List Event) (us : List ℕ)
          → AreFresh events registered replies ready y seen (seats_in h us)
      seats_fresh seen h [] = tt
      seats_fresh seen h (u ∷ us) = ((λ e. absurd (false≢true e)), seats_fresh seen h us)

      seats_each : (us : List ℕ) → ((t : ℕ) → is_among t us ≡ true → registered t y ≡ true)
          → Ok (λ _. 0) y 0 (seats_in (events y) us)
      seats_each [] all = tt
      seats_each (u ∷ us) all = (
        all u (or_left (u == u) (is_among u us) (same_eq u u refl)),
        refl,
        refl,
        seats_each us (λ t among. all t (or_right (u == t) (is_among t us) among)),
      )

      fit : (w : H) → length w.tasks ≡ length ts → (i : ℕ) (h : H)
          → get_elem? (view_of (seats_in (events y) ts) p Stands (events y) 0 (width y) ∷ []) i ≡ some h
          → Fit (λ _. 0) p (get_or words 0 0) y 0 i h
      fit w len zero h e = subst (λ (z : H). Fit (λ _. 0) p (get_or words 0 0) y 0 0 z)
          (some-injective (view_of (seats_in (events y) ts) p Stands (events y) 0 (width y)) h e)
          ((tail_same (events y), omega arith), (let n = length_seats (events y) ts in omega arith, refl, seats_each ts there))
      fit w len (suc i) h e = absurd (some-ne-none h (sym e))

  pub opens : (tasks : S → List ℕ) (slots id : ℕ) (me : Mine) (y : S) (p new : ℕ) → me.0 ≡ opening_view
      → me.1 ≡ (0, y) ∷ [] → ready p y → new ≡ count y → count y ≡ length (tasks y) → 0 < count y
      → count y < 4294967296 → ((t : ℕ) → is_among t (tasks y) ≡ true → registered t y ≡ true) → width y ≤ 4
      → Allows Board slots id me 0 (λ _. new)
      (λ _. opened events width tasks ready (step slots 0 new 0 none) me new)
  opens tasks slots id me y p new first carried is_ready is_count long some_task small there narrow s r _ at _ =
      let w : H = view_of (seats_in (events y) (tasks y)) p Stands (events y) 0 (width y) in ⊎_elim
      (λ (u : IsUnopened s). ⊎_elim
      (λ (t : (x : S) × (s.homes ≡ some x ∷ []) × (s.views ≡ idle_view ∷ [])). absurd (not_both me.0.role
      (ap (λ (v : H). v.role) (alone_at s.views idle_view me.0 id t.2 at)) (ap (λ (v : H). v.role) first)))
      (λ (t : (s.homes ≡ none ∷ []) × (s.views ≡ opening_view ∷ [])). (
        w,
        gives,
        tt,
        inr (subst (λ (z : List (Option S) × List H). Rule record { words = set s.words 0 new; homes = z.0; views = z.1 })
            (λ k. (
              sym (ap (λ (c : List (ℕ × S)). put_back s.homes c) carried ∙ ap (λ hs. set hs 0 (some y)) t.0) k,
              sym (alone_set s.views opening_view me.0 w id t.1 at) k,
            ))
            (stands_first (set s.words 0 new) y p (tasks y) (length-set s.words 0 new ∙ u.0)
            (get_or-set_same s.words 0 new 0 (let wide = u.0 in omega arith) ∙ is_count)
            (λ i above. get_or-set_other s.words 0 i new 0 (λ e. absurd (omega arith)) ∙ u.1 i) long some_task small there
            narrow is_ready)),
        λ y' is. (let yy : y ≡ y' = ap (λ (l : List (ℕ × S)). (get_or l 0 (0, y)).1) (sym carried ∙ is) in (
          p,
          subst (λ (z : S). ready p z) yy is_ready,
          λ k. (
            view_of (seats_in (events (yy k)) (tasks (yy k))) p Stands (events (yy k)) 0 (width (yy k)),
            (ap (λ l. carried_after l gives) carried) k,
          ),
        )),
      )) u.2)
      (λ (k : Rule s). absurd (let f = fits_as events registered count width newest replies ready s k id me.0 Came at (ap (λ (v : H). v.role) first) in
      let n : length me.0.tasks ≡ 0 = ap (λ (v : H). length v.tasks) first in let q = f.0 in omega arith)) r

  seizes_open : (slots id : ℕ) (me : Mine) (old new : ℕ) → 0 < old → old < busy → new ≡ old + busy
      → me.0.role ≡ Gone → me.0.tasks ≡ [] → me.1 ≡ []
      → Allows Rule slots id me 0 (λ x. either (eqb x old) new x)
      (seized events count ready (step slots 0 old new none) me)
  seizes_open slots id me old new some_old free_old is_new gone none_of bare s r _ at _ =
      let x : ℕ = word0 s in
      let v : H = me.0 in
      let n : ℕ = total (missing r.phase) s.views in
      dite (ℕ_discrete x old)
      (λ hit.
      let w : H = with_phase v (Holder r.value) r.phase in
      let home : s.homes ≡ some r.value ∷ [] = at_home events registered count width newest replies ready x r.value s.homes (omega arith) (omega arith) r.home in
      let is_n : x ≡ n = ⊎_elim (λ (t : (x < busy) × (x ≡ n) × (r.held ≡ false)). t.1)
      (λ (t : (busy ≤ x) × (x ≡ n + busy) × (r.held ≡ true)). let q = t.0 in absurd (omega arith))
      (cases events registered count width newest replies ready s r) in
      let now : get_or (set s.words 0 new) 0 0 ≡ new = get_or-set_same s.words 0 new 0 (let wide = r.wide in
      omega arith) in
      let mv : missing r.phase v ≡ 0 = missing_as events registered count width newest replies ready v Gone r.phase gone in
      let mw : missing r.phase w ≡ length v.tasks = refl in
      let lv : length v.tasks ≡ 0 = ap length none_of in
      let most = total_le (missing r.phase) parts_of s.views (λ h. missing_le events registered count width newest replies ready h.role (length h.tasks) h.phase r.phase) in
      let parts = r.parts in
      let sum = total_set (missing r.phase) s.views id v w at in (
        w,
        takes 0 r.value,
        ap (λ hs. get_elem? hs 0) home,
        subst (λ b. Rule (stepped s 0 (either b new x) id me.1 w (takes 0 r.value))) (sym (eq-eqb x old hit))
            (after events registered count width newest replies ready s r (set s.words 0 new) (set s.homes 0 none) id v w r.phase r.value id r.seat true at
            (length-set s.words 0 new ∙ r.wide) (ap (λ (z : ℕ). z + length v.tasks) r.parts) r.small
            (now ∙ omega arith)
            (subst (λ (z : ℕ). z ≤ r.phase)
            (sym (get_or-set_other s.words 0 16 new 0 (λ e. absurd (omega arith)))) r.over)
            (shut_beside events registered count width newest replies ready s r 0 new id v w at (no_keeper v w Gone gone refl) (λ e. absurd (omega arith)))
            (inr (ap (λ hs. set hs 0 none) home, inr (omega arith)))
            ((r.each id v at).0, (refl, omega arith, refl, refl, subst (λ (cs : List SeatedTask). Ok r.seat r.value id cs) (sym none_of) tt))
            (λ i h other e. let f = r.each i h e in (
              f.0,
              none_holds events registered count width newest replies ready r.seat h.role h.tasks h.phase r.phase x _ r.value r.holder id i (omega arith)
                  (omega arith) f.1,
            ))
            r.stands
            (let k = r.rows.each id v at in rows_on (width r.value) s.words 0 new s.views id w (omega arith) r.rows
            k.0 tt k.2)
            (begins_on events registered replies ready width r.phase s.words (set s.words 0 new) s.views id w r.value r.value
            (below_folds s.words 0 new (omega arith)) (λ _. omega arith) (tail_same (events r.value)) refl r.begins
            (tt, (r.begins.each id v at).1, tt))),
        (
          (λ _. (
            r.value,
            ap (λ c. (w, (0, r.value) ∷ c)) bare,
            r.stands,
            omega arith,
            (r.each id v at).0.0,
          )),
          λ not. absurd (not hit),
        ),
      ))
      (λ miss. (
        v,
        keeps,
        tt,
        subst (λ b. Rule (stepped s 0 (either b new x) id me.1 v keeps))
            (sym (ne_eqb x old miss)) (unmoved events registered count width newest replies ready s r 0 id v at),
        ((λ hit. absurd (miss hit)), λ _. refl),
      ))

  pub seizes : (slots id : ℕ) (me : Mine) (old new : ℕ) → 0 < old → old < busy → new ≡ old + busy
      → me.0.role ≡ Gone → me.0.tasks ≡ [] → me.1 ≡ []
      → Allows Board slots id me 0 (λ x. either (eqb x old) new x)
      (seized events count ready (step slots 0 old new none) me)
  seizes slots id me old new some_old free_old is_new gone none_of bare s r sized at small = ⊎_elim
      (λ (u : IsUnopened s). absurd (not_unopened s id me.0 (is_in me.0 Gone gone tt) at u))
      (λ (k : Rule s). let m = seizes_open slots id me old new some_old free_old is_new gone none_of bare s k sized at small in
      (m.0, m.1, m.2, inr m.3, m.4)) r

  shuts_open : (slots id : ℕ) (me : Mine) (x : S) (new : ℕ) → me.0.role ≡ Holder x → me.0.tasks ≡ []
      → me.0.phase < 2 ^ 64 → new ≡ (me.0.phase + 1) % 2 ^ 64 → Allows Rule slots id me 17 (λ _. new)
      (λ _. raised events registered width newest replies ready (step slots 17 new 0 none) me new)
  shuts_open slots id me x new holds none_of low is s r _ at _ =
      let v : H = me.0 in
      let f = fits_as events registered count width newest replies ready s r id v (Holder x) at holds in
      let ws : List ℕ = set s.words 17 new in
      let same : get_or ws 0 0 ≡ word0 s = get_or-set_other s.words 17 0 new 0 (λ e. absurd (omega arith)) in
      let now : get_or ws 17 0 ≡ new = get_or-set_same s.words 17 new 0 (let wide = r.wide in omega arith) in
      let fit : (i : ℕ) (h : H) → get_elem? s.views i ≡ some h
      → Fit r.seat r.phase (get_or ws 0 0) r.value r.holder i h =
      λ i h e. subst (λ (z : ℕ). Fit r.seat r.phase z r.value r.holder i h) (sym same) (r.each i h e) in (
        v,
        keeps,
        tt,
        after events registered count width newest replies ready s r ws s.homes id v v r.phase r.value r.holder r.seat r.held at (length-set s.words 17 new
            ∙ r.wide) (ap (λ (z : ℕ). z + length v.tasks) r.parts) r.small
            (same ∙ r.word ∙ ap (λ (vs : List H). total (missing r.phase) vs + (if r.held then busy else 0))
            (sym (set_again s.views id v at)))
            (subst (λ (z : ℕ). z ≤ r.phase)
            (sym (get_or-set_other s.words 17 16 new 0 (λ e. absurd (omega arith)))) r.over)
            (dite (dec_le (v.phase + 2) (2 ^ 64))
            (λ below. inr (now ∙ (let q = f.0 in omega arith), id, v, x, set_same s.views id v v at, holds, none_of))
            (λ most. inl (now ∙ (let q = f.0 in omega arith))))
            (subst (λ (z : ℕ). House z r.value s.homes) (sym same) r.home)
            (fit id v at) (λ i h other e. fit i h e) r.stands
            (let k = r.rows.each id v at in rows_on (width r.value) s.words 17 new s.views id v (omega arith) r.rows k.0
            (found_moves s.words ws (beside s.words 17 new (omega arith)) v.role k.1) k.2)
            (begins_on events registered replies ready width r.phase s.words ws s.views id v r.value r.value
            (below_folds s.words 17 new (omega arith)) (λ (m : 0 < get_or ws 0 0). omega arith)
            (tail_same (events r.value)) refl r.begins
            (began_moves events registered replies ready r.begins.begun r.phase s.words ws (below_folds s.words 17 new (omega arith)) v
            (r.begins.each id v at))),
        refl,
      )

  pub shuts : (slots id : ℕ) (me : Mine) (x : S) (new : ℕ) → me.0.role ≡ Holder x → me.0.tasks ≡ []
      → me.0.phase < 2 ^ 64 → new ≡ (me.0.phase + 1) % 2 ^ 64 → Allows Board slots id me 17 (λ _. new)
      (λ _. raised events registered width newest replies ready (step slots 17 new 0 none) me new)
  shuts slots id me x new holds none_of low is s r sized at small = ⊎_elim
      (λ (u : IsUnopened s). absurd (not_unopened s id me.0 (is_in me.0 (Holder x) holds tt) at u))
      (λ (k : Rule s). let m = shuts_open slots id me x new holds none_of low is s k sized at small in
      (m.0, m.1, m.2, inr m.3, m.4)) r
