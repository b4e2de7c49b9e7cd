-- The last writes a fold, and who stands reads it: both keep the rule of the table.
use Rattle.std.proofs.Common.{◌*◌, ◌≡◌, ◌≢◌, ⊎_elim, ℕ, ℤ, ◌+◌, ◌<◌, ◌≤◌, List, [], ◌∷◌, Bool, true, length, Some, Ok, get_or, set, sym, refl, ap, ◌∙◌, subst, arith, length-set, get_or-set_other, get_or-set_same, if◌then◌else◌, inr}
use mathlib.Core.Logic.{dite}
use mathlib.Core.Option.{Option, some, none}
use native.Mathlib.Decide.{ℕ_discrete}
use lib.ListN.{get_elem?}
use Rattle.atomic_table.specs.Table.{State, Me, step, keeps, Allows}
use Rattle.atomic_table.proofs.Lists.{at_set}
use Rattle.level_phaser.specs.declared.view.SeatView.{SeatView}
use Rattle.level_phaser.specs.declared.view.SeatedTask.{SeatedTask}
use Rattle.level_phaser.specs.declared.view.Role.{Role}
use Rattle.level_phaser.specs.declared.view.Role.TheVariants.{Stands, Came, Last, Holder, Gone}
use Rattle.told_history.specs.Tails.{IsTail}
use Rattle.phase_model.specs.declared.history.Event.{Event}
use Rattle.phase_model.specs.declared.call.Call.{Call}
use Rattle.phase_model.specs.declared.op.Look.{Look}
use Rattle.phase_model.specs.Replies.{Reply}
use Rattle.level_phaser.specs.Views.{with_role}
use Rattle.level_phaser.specs.inner.Board.{busy, sent_in, missing, IsFound, FitsIn, Fits, Homes, IsLevel, IsUnopened, IsBoard}
use Rattle.level_phaser.specs.inner.Folds.{fold_in, IsNoted, AreFresh, Began}
use Rattle.phase_model.specs.declared.call.Call.TheVariants.{Look as look}
use Rattle.phase_model.specs.Answers.{look_result}
use Rattle.level_phaser.specs.Changes.{IsKept}
use Rattle.level_phaser.specs.Deeds.{deeds_of, with_signal, with_sends}
use Rattle.level_phaser.specs.inner.Foldings.{Folding, HasOnly}
use Rattle.level_phaser.specs.Seen.{GoneOn}
use Rattle.level_phaser.specs.inner.Plays.{folded, fetched}
use Rattle.level_phaser.proofs.Rows.{beside, rows_on}
use Rattle.level_phaser.proofs.Begins.{tail_over}
use Rattle.level_phaser.proofs.Totals.{total_set, total_at}
use Rattle.level_phaser.proofs.Keeps.{IsIn, is_in, not_unopened, no_keeper, shut_beside, tail_same, after, fits_as, missing_as, unmoved}

module _ {S : Type 0} (events : S → List Event) (registered : ℕ → S → Bool) (count : S → ℕ) (width : S → ℕ)
    (newest : S → ℕ) (replies : S → Call → Reply) (ready : ℕ → S → Type 0) where
  abbrev H : Type 0
  H = SeatView S

  abbrev Mine : Type 0
  Mine = Me S H

  abbrev Rule : State S H → Type 0
  Rule = IsLevel events registered count width replies ready

  abbrev Board : State S (SeatView S) → Type 0
  Board = IsBoard events registered count width replies ready

  abbrev Fit : (ℕ → ℕ) → ℕ → ℕ → S → ℕ → ℕ → H → Type 0
  Fit = Fits events registered count width ready

  abbrev Suits : (ℕ → ℕ) → Role S → List SeatedTask → ℕ → ℕ → ℕ → S → ℕ → ℕ → Type 0
  Suits = FitsIn events registered count width ready

  abbrev House : ℕ → S → List (Option S) → Type 0
  House = Homes events registered count width ready

  -- the words of the rows, without and with a fold
  found_beside : (words ws : List ℕ) (i n : ℕ) → i < 32
      → ((t : ℕ) → get_or words (32 + 8 * t) 0 ≡ get_or ws (32 + 8 * t) 0)
      → (t : ℕ) → get_or (set words i n) (32 + 8 * t) 0 ≡ get_or (set ws i n) (32 + 8 * t) 0
  found_beside words ws i n low k t = beside words i n low t ∙ k t ∙ sym (beside ws i n low t)

  -- and those of the folds
  noted_set : (words ws : List ℕ) (i n : ℕ) → length words ≡ 2080 → length ws ≡ 2080 → i < 4
      → ((a : ℕ) → a < 4 → get_or words (24 + a) 0 ≡ get_or ws (24 + a) 0)
      → (a : ℕ) → a < 4 → get_or (set words (24 + i) n) (24 + a) 0 ≡ get_or (set ws (24 + i) n) (24 + a) 0
  noted_set words ws i n long long' few k a low =
      dite (ℕ_discrete a i)
      (λ (here : a ≡ i). subst (λ (j : ℕ). get_or (set words (24 + i) n) (24 + j) 0 ≡ get_or (set ws (24 + i) n) (24 + j) 0)
      (sym here) (get_or-set_same words (24 + i) n 0 (omega arith) ∙ sym (get_or-set_same ws (24 + i) n 0 (omega arith))))
      (λ (there : a ≢ i). get_or-set_other words (24 + i) (24 + a) n 0 (λ e. there (omega arith)) ∙ k a low
      ∙ sym (get_or-set_other ws (24 + i) (24 + a) n 0 (λ e. there (omega arith))))

  -- nobody else is the last
  other_noted : (words : List ℕ) (seat : ℕ → ℕ) (role : Role S) (cs : List SeatedTask) (at phase word : ℕ) (x : S)
      (holder i id : ℕ) → i ≢ id → id ≡ holder → Suits seat role cs at phase word x holder i → IsNoted words role
  other_noted words seat Stands cs at phase word x holder i id other mine f = tt
  other_noted words seat Came cs at phase word x holder i id other mine f = tt
  other_noted words seat (Last u us) cs at phase word x holder i id other mine f = absurd (other (f.3 ∙ sym mine))
  other_noted words seat (Holder u) cs at phase word x holder i id other mine f = tt
  other_noted words seat Gone cs at phase word x holder i id other mine f = tt

  abbrev BeganSo : S → ℕ → List ℕ → H → Type 0
  BeganSo = Began events registered replies ready

  set_found : ℕ → ℕ → Role S → Role S
  set_found i n (Last x ws) = Last x (set ws i n)
  set_found i n role = role

  folds_open : (slots id a : ℕ) (me : Mine) (x : S) (found : List ℕ) (new : ℕ) → a < 4 → me.0.role ≡ Last x found
      → length found ≡ 2080
      → Allows Rule slots id me (24 + a) (λ _. new)
      (λ _. folded events registered width newest replies ready (step slots (24 + a) new 0 none) me new)
  unfolding set_found
  folds_open slots id a me x found new few last long s r _ at _ =
      let v : H = me.0 in
      let f = fits_as events registered count width newest replies ready s r id v (Last x found) at last in
      let w : H = with_role v (Last x (set found (24 + a) new)) in
      let k = r.rows.each id v at in
      let b = r.begins.each id v at in
      let ws : List ℕ = set s.words (24 + a) new in
      let as_found : (t : ℕ) → get_or s.words (32 + 8 * t) 0 ≡ get_or found (32 + 8 * t) 0 =
      subst (λ (z : Role S). IsFound s.words z) last k.1 in
      let noted : (i : ℕ) → i < 4 → get_or s.words (24 + i) 0 ≡ get_or found (24 + i) 0 =
      subst (λ (z : Role S). IsNoted s.words z) last b.2 in
      let same0 : get_or ws 0 0 ≡ get_or s.words 0 0 =
      get_or-set_other s.words (24 + a) 0 new 0 (λ e. absurd (omega arith)) in
      let same16 : get_or ws 16 0 ≡ get_or s.words 16 0 =
      get_or-set_other s.words (24 + a) 16 new 0 (λ e. absurd (omega arith)) in
      let mv : missing r.phase v ≡ 0 = missing_as events registered count width newest replies ready v (Last x found) r.phase last in
      let mw : missing r.phase w ≡ 0 = refl in
      let sum = total_set (missing r.phase) s.views id v w at in
      let word = r.word in (
        w,
        keeps,
        tt,
        after events registered count width newest replies ready s r ws s.homes id v w r.phase r.value r.holder r.seat
            r.held at (length-set s.words (24 + a) new ∙ r.wide) (ap (λ (z : ℕ). z + length v.tasks) r.parts) r.small
            (same0 ∙ word ∙ ap (λ (z : ℕ). z + (if r.held then busy else 0)) (omega arith))
            (subst (λ (z : ℕ). z ≤ r.phase) (sym same16) r.over)
            (shut_beside events registered count width newest replies ready s r (24 + a) new id v w at (no_keeper v w ((Last x found)) last refl) (λ e. absurd (omega arith)))
            (subst (λ (z : ℕ). House z r.value s.homes) (sym same0) r.home)
            ((r.each id v at).0, (f.0, same0 ∙ f.1, f.2, f.3, f.4))
            (λ i h other e. subst (λ (z : ℕ). Fit r.seat r.phase z r.value r.holder i h) (sym same0) (r.each i h e))
            r.stands
            (rows_on (width r.value) s.words (24 + a) new s.views id w (omega arith) r.rows k.0
            (found_beside s.words found (24 + a) new (omega arith) as_found) k.2)
            record {
              begun = r.begins.begun;
              stood = r.begins.stood;
              longer = r.begins.longer;
              wide = r.begins.wide;
              narrow = r.begins.narrow;
              folds = λ (some_missing : 0 < get_or ws 0 0). absurd (let z = f.1 in omega arith);
              each = λ i h e. ⊎_elim
                  (λ (t : (i ≡ id) × (w ≡ h)). subst (λ (z : H). BeganSo r.begins.begun r.phase ws z) t.1
                  (tt, b.1, noted_set s.words found a new r.wide long few noted))
                  (λ (t : (i ≢ id) × (get_elem? s.views i ≡ some h)). (let g = r.begins.each i h t.1 in (
                    g.0,
                    g.1,
                    other_noted ws r.seat h.role h.tasks h.phase r.phase (get_or s.words 0 0) r.value r.holder i id t.0
                        f.3 (r.each i h t.1).1,
                  )))
                  (at_set s.views id i w h e);
            },
        λ x' ws' last'. let same : Last x found ≡ Last x' ws' = sym last ∙ last' in
            λ j. (with_role v (set_found (24 + a) new (same j)), me.1),
      )

  pub folds : (slots id a : ℕ) (me : Mine) (x : S) (found : List ℕ) (new : ℕ) → a < 4 → me.0.role ≡ Last x found
      → length found ≡ 2080
      → Allows Board slots id me (24 + a) (λ _. new)
      (λ _. folded events registered width newest replies ready (step slots (24 + a) new 0 none) me new)
  folds slots id a me x found new few last long s r sized at small = ⊎_elim (λ (u : IsUnopened s). absurd (not_unopened s id me.0 (is_in me.0 (Last x found) last tt) at u))
      (λ (k : Rule s). let m = folds_open slots id a me x found new few last long s k sized at small in (m.0, m.1, m.2, inr m.3, m.4)) r

  fetches_open : (slots id a : ℕ) (me : Mine) → Allows Rule slots id me (24 + a) (λ x. x)
      (fetched events registered width newest replies ready (step slots (24 + a) 0 0 none) me)
  fetches_open slots id a me s r _ at _ = (
    me.0,
    keeps,
    tt,
    unmoved events registered count width newest replies ready s r (24 + a) id me.0 at,
    (
      refl,
      λ a' t d es l is low stands one fold.
          let v : H = me.0 in
          let b = r.begins in
          let level = fits_as events registered count width newest replies ready s r id v Stands at stands in
          let mv : missing r.phase v ≡ length v.tasks =
          missing_as events registered count width newest replies ready v Stands r.phase stands in
          let len : length v.tasks ≡ 1 = ap length one in
          let most = total_at (missing r.phase) s.views id v at in
          let word = r.word in
          let missed : 0 < get_or s.words 0 0 = omega arith in
          let same : a ≡ a' = omega arith in
          let wide = (r.rows.each id v at).2 in
          let widths = b.wide in
          let k = b.folds missed a' l (omega arith)
          (subst (λ (j : ℕ). fold_in (get_or s.words (24 + j) 0) ≡ Some l) same fold) in
          let fresh = (subst (λ (cs : List SeatedTask). AreFresh events registered replies ready b.begun v.seen cs) one
          (b.each id v at).1).0 refl in
          (k.0, tail_over v.seen (events b.begun) (events k.0) fresh.1 k.1, k.2 t fresh.0),
    ),
  )

  pub fetches : (slots id a : ℕ) (me : Mine) → IsIn me.0 → Allows Board slots id me (24 + a) (λ x. x)
      (fetched events registered width newest replies ready (step slots (24 + a) 0 0 none) me)
  fetches slots id a me inside s r sized at small = ⊎_elim (λ (u : IsUnopened s). absurd (not_unopened s id me.0 inside at u))
      (λ (k : Rule s). let m = fetches_open slots id a me s k sized at small in (m.0, m.1, m.2, inr m.3, m.4)) r

  pub kept_same : (x : S) → IsKept events registered count width x x
  kept_same x = (tail_same (events x), refl, (λ task live. (live, refl)), refl)

  kept_on : (x y z : S) → IsKept events registered count width x y → IsKept events registered count width y z
      → IsKept events registered count width x z
  kept_on x y z a b = (
    tail_over (events x) (events y) (events z) a.0 b.0,
    b.1 ∙ a.1,
    (λ task live. let t = a.2 task live in let u = b.2 task t.0 in (u.0, u.1 ∙ t.1)),
    b.3 ∙ a.3,
  )

  -- one fold more is written
  pub folding_on : (wide n phase word : ℕ) (m m' : Mine) (k : Folding events registered count width replies ready wide n phase m)
      (y : S) → n < 4 → IsKept events registered count width k.now y → ready phase y
      → ((l : Look ℤ) → fold_in word ≡ Some l → (t : ℕ) → registered t k.now ≡ true
      → look_result (replies k.now (look t n)) ≡ Ok l)
      → m' ≡ (with_role m.0 (Last k.begun (set k.found (24 + n) word)), (0, y) ∷ [])
      → Folding events registered count width replies ready wide (n + 1) phase m'
  folding_on wide n phase word m m' k y few kept stands fact is =
      let ws : List ℕ = set k.found (24 + n) word in
      record {
        begun = k.begun;
        found = ws;
        turned = k.turned;
        now = y;
        role = ap (λ q. q.0.role) is;
        has = ap (λ q. q.1) is;
        long = length-set k.found (24 + n) word ∙ k.long;
        at = ap (λ q. q.0.phase + 1) is ∙ k.at;
        told = (
          k.told.0,
          k.told.1,
          k.told.2,
          λ task live. let t = k.told.3 task live in (
            t.0,
            t.1 ∙ ap (λ (i : ℕ). with_signal (with_sends (sent_in task i) (deeds_of task (events k.begun))))
                (sym (beside k.found (24 + n) word (omega arith) task)),
          ),
        );
        stood = k.stood;
        stands = stands;
        kept = kept_on k.turned k.now y k.kept kept;
        seen = subst (λ (h : List Event). IsTail h (events k.begun)) (sym (ap (λ q. q.0.seen) is)) k.seen;
        wide = k.wide;
        folds = λ a l low fold. dite (ℕ_discrete a n)
            (λ (here : a ≡ n). (
              k.now,
              k.kept.0,
              λ t live. subst (λ (j : ℕ). look_result (replies k.now (look t j)) ≡ Ok l) (sym here)
                  (fact l (sym (ap fold_in (ap (λ (j : ℕ). get_or ws (24 + j) 0) here
                  ∙ get_or-set_same k.found (24 + n) word 0 (let long = k.long in omega arith))) ∙ fold) t
                  (k.kept.2 t live).0),
            ))
            (λ (there : a ≢ n). k.folds a l (omega arith)
            (sym (ap fold_in (get_or-set_other k.found (24 + n) (24 + a) word 0 (λ e. there (omega arith)))) ∙ fold));
      }

  -- what is lent is what the seat has
  pub folding_seat : (wide n phase : ℕ) (v : H) (held : List (ℕ × S))
      (k : Folding events registered count width replies ready wide n phase (v, held)) (z : S) → k.now ≡ z
      → {held' : List (ℕ × S)} → held' ≡ (0, z) ∷ []
      → Folding events registered count width replies ready wide n phase (v, held')
  folding_seat wide n phase v held k z same has = record {
    begun = k.begun;
    found = k.found;
    turned = k.turned;
    now = z;
    role = k.role;
    has = has;
    long = k.long;
    at = k.at;
    told = k.told;
    stood = k.stood;
    stands = subst (λ (x : S). ready phase x) same k.stands;
    kept = subst (λ (x : S). IsKept events registered count width k.turned x) same k.kept;
    seen = k.seen;
    wide = k.wide;
    folds = k.folds;
  }

  -- who goes on knows nothing of the role that it had
  pub gone_on_role : (v u w : H) → HasOnly v u → GoneOn events registered ready u w → GoneOn events registered ready v w
  gone_on_role v u w only gone = subst (λ (z : H). GoneOn events registered ready z w → GoneOn events registered ready v w)
      (sym only.1) (λ k. k) gone
