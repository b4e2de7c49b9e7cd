-- A seat that is cut or joined, and the table at the start, keep the rule of the table.
use Rattle.std.proofs.Common.{ℤ, Some, None, ◌*◌, ◌≡◌, ◌≢◌, ⊎_elim, inl, inr, ℕ, zero, suc, ◌+◌, ◌<◌, ◌≤◌, List, [], ◌∷◌, ◌++◌, Bool, true, false, map, length, get_or, set, sym, refl, ap, ◌∙◌, subst, arith, length-set, if◌then◌else◌}
use mathlib.Core.Option.{Option, some, none, some-ne-none, some-injective}
use mathlib.Core.List.{append-nil}
use lib.ListN.{get_elem?}
use Rattle.atomic_table.specs.Table.{State, Me, step, keeps, Allows, Splits, Joins, opening}
use Rattle.atomic_table.proofs.Lists.{at_set, set_else, set_again}
use Rattle.level_phaser.specs.declared.view.SeatView.{SeatView}
use Rattle.level_phaser.specs.declared.view.SeatedTask.{SeatedTask}
use Rattle.level_phaser.specs.declared.view.Role.{Role}
use Rattle.level_phaser.specs.declared.view.Role.TheVariants.{Stands, Came, Last, Holder, Gone}
use Rattle.phase_model.specs.declared.history.Event.{Event}
use Rattle.phase_model.specs.declared.call.Call.{Call}
use Rattle.phase_model.specs.Replies.{Reply}
use Rattle.told_history.specs.Tails.{IsTail}
use Rattle.level_phaser.specs.Deeds.{deeds, deeds_of}
use Rattle.level_phaser.specs.Views.{signalled, first_view, note_of, told, role_after}
use Rattle.level_phaser.specs.inner.Board.{busy, spent, parts_of, missing, missing_in, Each, FitsIn, Fits, Homes, IsLevel, IsUnopened, IsBoard}
use Rattle.level_phaser.specs.inner.Steps.{head_of, tail_of, first_of, others_of, rest_of, Without}
use Rattle.level_phaser.specs.inner.Plays.{heeded}
use Rattle.level_phaser.specs.inner.Board.{sent_in, IsSound, Knows}
use Rattle.level_phaser.proofs.Rows.{at_snoc, unchanged, shown_head, shown_tail, rows_after, rows_snoc, found_after}
use Rattle.std.proofs.lemmas.Bool.{false≢true}
use Rattle.phase_model.specs.declared.op.Look.{Look}
use Rattle.level_phaser.specs.inner.Folds.{fold_in, IsNoted, AreFresh, IsBehind, Began}
use Rattle.level_phaser.proofs.Begins.{same_folds, begins_on, begins_snoc, begins_cut, began_standing, head_fresh, tail_fresh}
use Rattle.level_phaser.proofs.Totals.{total_set, total_snoc}
use Rattle.level_phaser.proofs.Keeps.{IsIn, is_in, not_unopened, tail_same, put, put_here, put_else, after, fits_as, missing_as, unmoved, each_moves, StaysKeeper, no_keeper, shut_here, shut_snoc}

within : {A : Type 0} (l : List A) (i : ℕ) (a : A) → get_elem? l i ≡ some a → i < length l
within [] i a e = absurd (some-ne-none a (sym e))
within (x ∷ xs) zero a e = omega arith
within (x ∷ xs) (suc i) a e = let r = within xs i a e in omega arith

module _ {S : Type 0} (events : S → List Event) (registered : ℕ → S → Bool) (count : S → ℕ) (width : S → ℕ) (newest : S → ℕ) (replies : S → Call → Reply)
    (ready : ℕ → S → Type 0) where
  abbrev H : Type 0
  H = SeatView S

  abbrev St : Type 0
  St = State S H

  abbrev Mine : Type 0
  Mine = Me S H

  abbrev Rule : St → Type 0
  Rule = IsLevel events registered count width replies ready

  abbrev Board : State S (SeatView S) → Type 0
  Board = IsBoard events registered count width replies ready

  abbrev Ok : (ℕ → ℕ) → S → ℕ → List SeatedTask → Type 0
  Ok = Each events registered count width ready

  abbrev Suits : (ℕ → ℕ) → Role S → List SeatedTask → ℕ → ℕ → ℕ → S → ℕ → ℕ → Type 0
  Suits = FitsIn events registered count width ready

  abbrev Fit : (ℕ → ℕ) → ℕ → ℕ → S → ℕ → ℕ → H → Type 0
  Fit = Fits events registered count width ready

  abbrev House : ℕ → S → List (Option S) → Type 0
  House = Homes events registered count width ready

  abbrev word0 : St → ℕ
  word0 s = get_or s.words 0 0

  role_kept : (seat seat' : ℕ → ℕ) (role : Role S) (tasks : List SeatedTask) (at phase word : ℕ) (x : S)
      (holder i : ℕ)
      → ((task : ℕ) → seat task ≡ i → registered task x ≡ true → (registered task x ≡ true)
      × (seat' task ≡ i) × (deeds_of task (events x) ≡ deeds_of task (events x)))
      → Suits seat role tasks at phase word x holder i → Suits seat' role tasks at phase word x holder i
  role_kept seat seat' Stands tasks at phase word x holder i moves f =
      (f.0, f.1, each_moves events registered count width newest replies ready seat seat' x x i tasks moves f.2)
  role_kept seat seat' Came tasks at phase word x holder i moves f = (
    f.0,
    ⊎_elim
        (λ (e : (at ≡ phase) × Ok seat x i tasks). inl (e.0, each_moves events registered count width newest replies ready seat seat' x x i tasks moves e.1))
        (λ (e : (at + 1 ≡ phase) × Ok seat x i (signalled tasks)). inr
        (e.0, each_moves events registered count width newest replies ready seat seat' x x i (signalled tasks) moves e.1)) f.1,
  )
  role_kept seat seat' (Last u us) tasks at phase word x holder i moves f =
      (f.0, f.1, f.2, f.3, each_moves events registered count width newest replies ready seat seat' x x i tasks moves f.4)
  role_kept seat seat' (Holder u) tasks at phase word x holder i moves f =
      (f.0, f.1, f.2, f.3, each_moves events registered count width newest replies ready seat seat' x x i tasks moves f.4)
  role_kept seat seat' Gone tasks at phase word x holder i moves f = f

  splits_open : (id : ℕ) (v : H) (a b : SeatedTask) → v.role ≡ Stands → v.tasks ≡ a ∷ b ∷ [] → a.task ≢ b.task
      → Splits Rule id v (others_of v) (first_of v)
  splits_open id v a b stands both apart s r at =
      let l : H = others_of v in
      let n : H = first_of v in
      let vs : List H = set s.views id l in
      let fv = r.each id v at in
      let level = fits_as events registered count width newest replies ready s r id v Stands at stands in
      let end : ℕ = length vs in
      let inside = within s.views id v at in
      let long : length vs ≡ length s.views = length-set s.views id l in
      let seat' : ℕ → ℕ = put r.seat a.task end in
      let tl : l.tasks ≡ b ∷ [] = ap tail_of both in
      let tn : n.tasks ≡ a ∷ [] = ap head_of both in
      let each = subst (λ (cs : List SeatedTask). Ok r.seat r.value id cs) both level.2 in
      let mv : missing r.phase v ≡ 2 = missing_as events registered count width newest replies ready v Stands r.phase stands ∙ ap length both in
      let ml : missing r.phase l ≡ 1 = missing_as events registered count width newest replies ready l Stands r.phase stands ∙ ap length tl in
      let mn : missing r.phase n ≡ 1 = missing_as events registered count width newest replies ready n Stands r.phase stands ∙ ap length tn in
      let pv : parts_of v ≡ 2 = ap length both in
      let pl : parts_of l ≡ 1 = ap length tl in
      let pn : parts_of n ≡ 1 = ap length tn in
      let p1 = total_set parts_of s.views id v l at in
      let p2 = total_snoc parts_of vs n in
      let m1 = total_set (missing r.phase) s.views id v l at in
      let m2 = total_snoc (missing r.phase) vs n in
      let left_fits : Suits seat' Stands (b ∷ []) v.phase r.phase (word0 s) r.value r.holder id = (
        omega arith,
        level.1,
        (
          each.3.0,
          put_else r.seat a.task end b.task (λ e. apart (sym e))
              ∙ each.3.1,
          each.3.2,
          tt,
        ),
      ) in
      let new_fits : Suits seat' Stands (a ∷ []) v.phase r.phase (word0 s) r.value r.holder end =
      (omega arith, level.1, (each.0, put_here r.seat a.task end, each.2, tt)) in
      let others : (i : ℕ) (h : H) → i ≢ id → get_elem? s.views i ≡ some h
      → Fit seat' r.phase (word0 s) r.value r.holder i h =
      λ i h other e. let fs = r.each i h e in (
        fs.0,
        role_kept r.seat seat' h.role h.tasks h.phase r.phase (word0 s) r.value r.holder i
            (λ task is there. (
              there,
              put_else r.seat a.task end task
                  (λ c. other (sym is ∙ ap r.seat c ∙ each.1)) ∙ is,
              refl,
            )) fs.1,
      ) in
      record {
        phase = r.phase;
        value = r.value;
        holder = r.holder;
        seat = seat';
        held = r.held;
        wide = r.wide;
        parts = (let p = r.parts in p2 ∙ omega arith);
        small = r.small;
        word = r.word ∙ ap (λ (z : ℕ). z + (if r.held then busy else 0)) (sym (m2 ∙ omega arith));
        over = r.over;
        shut = shut_snoc (get_or s.words 17 0) r.phase vs n (shut_here events registered count width newest replies ready s r id v l at (no_keeper v l Stands stands refl));
        home = r.home;
        each = λ i h e. ⊎_elim
            (λ (old : get_elem? vs i ≡ some h). ⊎_elim
            (λ (t : (i ≡ id) × (l ≡ h)). subst
            (λ (z : ℕ × H). Fit seat' r.phase (word0 s) r.value r.holder z.0 z.1)
            (λ k. (sym t.0 k, t.1 k)) (
              fv.0,
              subst (λ (z : Role S × List SeatedTask). Suits seat' z.0 z.1 v.phase r.phase
                  (word0 s) r.value r.holder id) (λ k. (sym stands k, sym tl k)) left_fits,
            ))
            (λ (t : (i ≢ id) × (get_elem? s.views i ≡ some h)). others i h t.0 t.1)
            (at_set s.views id i l h old))
            (λ (t : (i ≡ length vs) × (n ≡ h)). subst
            (λ (z : ℕ × H). Fit seat' r.phase (word0 s) r.value r.holder z.0 z.1)
            (λ k. (sym t.0 k, t.1 k)) (
              fv.0,
              subst (λ (z : Role S × List SeatedTask). Suits seat' z.0 z.1 v.phase r.phase
                  (word0 s) r.value r.holder end) (λ k. (sym stands k, sym tn k)) new_fits,
            ))
            (at_snoc vs n h i e);
        rows = (let k = r.rows.each id v at in rows_snoc (width r.value) s.words vs n
            (rows_after (width r.value) s.words s.words s.views id l (unchanged s.words) r.rows
            (shown_tail s.words v.tasks k.0, k.1, k.2)) (shown_head s.words v.tasks k.0, k.1, k.2));
        begins = (let k = r.begins.each id v at in
            begins_cut events registered replies ready width r.phase s.words s.views id l n r.value r.begins
            (began_standing events registered replies ready r.begins.begun r.phase v.phase s.words v.role
            l.tasks v.seen stands (tail_fresh events registered replies ready r.begins.begun v.seen v.tasks k.1))
            (began_standing events registered replies ready r.begins.begun r.phase v.phase s.words v.role
            n.tasks v.seen stands (head_fresh events registered replies ready r.begins.begun v.seen v.tasks k.1)));
        stands = r.stands;
      }

  pub splits : (id : ℕ) (v : H) (a b : SeatedTask) → v.role ≡ Stands → v.tasks ≡ a ∷ b ∷ [] → a.task ≢ b.task
      → Splits Board id v (others_of v) (first_of v)
  splits id v a b stands both apart s r at = ⊎_elim (λ (u : IsUnopened s). absurd (not_unopened s id v (is_in v Stands stands (let k : length v.tasks ≡ 2 = ap length both in omega arith)) at u))
      (λ (k : Rule s). inr (splits_open id v a b stands both apart s k at)) r

  each_without : (seat : ℕ → ℕ) (t end : ℕ) (x : S) (i : ℕ) (cs : List SeatedTask) → Without t cs → Ok seat x i cs
      → Ok (put seat t end) x i cs
  each_without seat t end x i [] apart k = tt
  each_without seat t end x i (c ∷ cs) apart k =
      (k.0, put_else seat t end c.task apart.0 ∙ k.1, k.2, each_without seat t end x i cs apart.1 k.3)

  dealt_fits : (seat : ℕ → ℕ) (cs : List SeatedTask) (at phase word : ℕ) (x : S) (holder i : ℕ) → at ≡ phase
      → Ok seat x i cs → Suits seat (role_after cs) cs at phase word x holder i
      × (missing_in (role_after {S = S} cs) (length cs) at phase ≡ length cs)
  dealt_fits seat [] at phase word x holder i here k = ((omega arith, refl), refl)
  dealt_fits seat (c ∷ cs) at phase word x holder i here k = ((omega arith, here, k), refl)

  dealt_began : (b : S) (cs : List SeatedTask) (at phase : ℕ) (words : List ℕ) (seen : List Event)
      → AreFresh events registered replies ready b seen cs
      → IsBehind events registered replies ready b (role_after cs) cs at phase seen
      × AreFresh events registered replies ready b seen cs × IsNoted words (role_after {S = S} cs)
  dealt_began b [] at phase words seen k = (tt, k, tt)
  dealt_began b (c ∷ cs) at phase words seen k = (tt, k, tt)

  deals_open : (id : ℕ) (v : H) (a : SeatedTask) (cs : List SeatedTask) → v.role ≡ Stands → v.tasks ≡ a ∷ cs
      → Without a.task cs → Splits Rule id v (rest_of v) (first_of v)
  deals_open id v a cs stands all apart s r at =
      let l : H = rest_of v in
      let n : H = first_of v in
      let vs : List H = set s.views id l in
      let fv = r.each id v at in
      let level = fits_as events registered count width newest replies ready s r id v Stands at stands in
      let end : ℕ = length vs in
      let inside = within s.views id v at in
      let long : length vs ≡ length s.views = length-set s.views id l in
      let seat' : ℕ → ℕ = put r.seat a.task end in
      let tl : tail_of v.tasks ≡ cs = ap tail_of all in
      let tn : n.tasks ≡ a ∷ [] = ap head_of all in
      let each = subst (λ (us : List SeatedTask). Ok r.seat r.value id us) all level.2 in
      let rest_each : Ok seat' r.value id (tail_of v.tasks) =
      subst (λ (us : List SeatedTask). Ok seat' r.value id us) (sym tl) (each_without r.seat a.task end r.value id cs apart each.3) in
      let dealt = dealt_fits seat' (tail_of v.tasks) v.phase r.phase (word0 s) r.value r.holder id level.1 rest_each in
      let mv : missing r.phase v ≡ suc (length cs) = missing_as events registered count width newest replies ready v Stands r.phase stands ∙ ap length all in
      let ml : missing r.phase l ≡ length cs = dealt.1 ∙ ap length tl in
      let mn : missing r.phase n ≡ 1 = missing_as events registered count width newest replies ready n Stands r.phase stands ∙ ap length tn in
      let pv : parts_of v ≡ suc (length cs) = ap length all in
      let pl : parts_of l ≡ length cs = ap length tl in
      let pn : parts_of n ≡ 1 = ap length tn in
      let p1 = total_set parts_of s.views id v l at in
      let p2 = total_snoc parts_of vs n in
      let m1 = total_set (missing r.phase) s.views id v l at in
      let m2 = total_snoc (missing r.phase) vs n in
      let new_fits : Suits seat' Stands (a ∷ []) v.phase r.phase (word0 s) r.value r.holder end =
      (omega arith, level.1, (each.0, put_here r.seat a.task end, each.2, tt)) in
      let others : (i : ℕ) (h : H) → i ≢ id → get_elem? s.views i ≡ some h
      → Fit seat' r.phase (word0 s) r.value r.holder i h =
      λ i h other e. let fs = r.each i h e in (
        fs.0,
        role_kept r.seat seat' h.role h.tasks h.phase r.phase (word0 s) r.value r.holder i
            (λ task is there. (
              there,
              put_else r.seat a.task end task
                  (λ c. other (sym is ∙ ap r.seat c ∙ each.1)) ∙ is,
              refl,
            )) fs.1,
      ) in
      record {
        phase = r.phase;
        value = r.value;
        holder = r.holder;
        seat = seat';
        held = r.held;
        wide = r.wide;
        parts = (let p = r.parts in p2 ∙ omega arith);
        small = r.small;
        word = r.word ∙ ap (λ (z : ℕ). z + (if r.held then busy else 0)) (sym (m2 ∙ omega arith));
        over = r.over;
        shut = shut_snoc (get_or s.words 17 0) r.phase vs n (shut_here events registered count width newest replies ready s r id v l at (no_keeper v l Stands stands refl));
        home = r.home;
        each = λ i h e. ⊎_elim
            (λ (old : get_elem? vs i ≡ some h). ⊎_elim
            (λ (t : (i ≡ id) × (l ≡ h)). subst
            (λ (z : ℕ × H). Fit seat' r.phase (word0 s) r.value r.holder z.0 z.1)
            (λ k. (sym t.0 k, t.1 k)) (fv.0, dealt.0))
            (λ (t : (i ≢ id) × (get_elem? s.views i ≡ some h)). others i h t.0 t.1)
            (at_set s.views id i l h old))
            (λ (t : (i ≡ length vs) × (n ≡ h)). subst
            (λ (z : ℕ × H). Fit seat' r.phase (word0 s) r.value r.holder z.0 z.1)
            (λ k. (sym t.0 k, t.1 k)) (
              fv.0,
              subst (λ (z : Role S × List SeatedTask). Suits seat' z.0 z.1 v.phase r.phase
                  (word0 s) r.value r.holder end) (λ k. (sym stands k, sym tn k)) new_fits,
            ))
            (at_snoc vs n h i e);
        rows = (let k = r.rows.each id v at in rows_snoc (width r.value) s.words vs n
            (rows_after (width r.value) s.words s.words s.views id l (unchanged s.words) r.rows
            (shown_tail s.words v.tasks k.0, found_after S s.words (tail_of v.tasks), k.2))
            (shown_head s.words v.tasks k.0, k.1, k.2));
        begins = (let k = r.begins.each id v at in
            begins_cut events registered replies ready width r.phase s.words s.views id l n r.value r.begins
            (dealt_began r.begins.begun (tail_of v.tasks) v.phase r.phase s.words v.seen
            (tail_fresh events registered replies ready r.begins.begun v.seen v.tasks k.1))
            (began_standing events registered replies ready r.begins.begun r.phase v.phase s.words v.role
            n.tasks v.seen stands (head_fresh events registered replies ready r.begins.begun v.seen v.tasks k.1)));
        stands = r.stands;
      }

  -- the first of some tasks that stand gets a seat of its own
  pub deals : (id : ℕ) (v : H) (a : SeatedTask) (cs : List SeatedTask) → v.role ≡ Stands → v.tasks ≡ a ∷ cs
      → Without a.task cs → Splits Board id v (rest_of v) (first_of v)
  deals id v a cs stands all apart s r at = ⊎_elim (λ (u : IsUnopened s). absurd (not_unopened s id v
      (is_in v Stands stands (let k : length v.tasks ≡ suc (length cs) = ap length all in omega arith)) at u))
      (λ (k : Rule s). inr (deals_open id v a cs stands all apart s k at)) r

  at_most : (seat : ℕ → ℕ) (role : Role S) (tasks : List SeatedTask) (at phase word : ℕ) (value : S)
      (holder i : ℕ) → Suits seat role tasks at phase word value holder i → at ≤ phase
  at_most seat Stands tasks at phase word value holder i f = let q = f.1 in omega arith
  at_most seat Came tasks at phase word value holder i f =
      ⊎_elim (λ (e : (at ≡ phase) × Ok seat value i tasks). let q = e.0 in omega arith)
      (λ (e : (at + 1 ≡ phase) × Ok seat value i (signalled tasks)). let q = e.0 in omega arith) f.1
  at_most seat (Last x ws) tasks at phase word value holder i f = let q = f.0 in omega arith
  at_most seat (Holder x) tasks at phase word value holder i f = let q = f.0 in omega arith
  at_most seat Gone tasks at phase word value holder i f = f.0

  -- a seat of no task is in no phase
  began_gone : (b : S) (phase at : ℕ) (words : List ℕ) (role : Role S) (cs : List SeatedTask) (seen : List Event)
      → role ≡ Gone → cs ≡ [] → IsBehind events registered replies ready b role cs at phase seen × AreFresh events registered replies ready b seen cs × IsNoted words role
  began_gone b phase at words role cs seen gone none_of =
      subst (λ (z : Role S × List SeatedTask). IsBehind events registered replies ready b z.0 z.1 at phase seen × AreFresh events registered replies ready b seen z.1
      × IsNoted words z.0) (λ k. (sym gone k, sym none_of k)) (tt, tt, tt)

  -- a seat of no task may come at any time
  appended : (s : St) (r : Rule s) (n : H) → n.role ≡ Gone → n.tasks ≡ [] → IsTail n.seen (events r.value)
      → n.heard ≤ r.phase → n.phase ≤ r.phase → Knows (width r.value) s.words n
      → Rule record { words = s.words; homes = s.homes; views = s.views ++ n ∷ [] }
  appended s r n gone none_of seen heard at_phase knows =
      let p = total_snoc parts_of s.views n in
      let m = total_snoc (missing r.phase) s.views n in
      let pn : parts_of n ≡ 0 = ap length none_of in
      let mn : missing r.phase n ≡ 0 = missing_as events registered count width newest replies ready n Gone r.phase gone in
      let q = r.parts in
      record {
        phase = r.phase;
        value = r.value;
        holder = r.holder;
        seat = r.seat;
        held = r.held;
        wide = r.wide;
        parts = omega arith;
        small = r.small;
        word = r.word ∙ ap (λ (z : ℕ). z + (if r.held then busy else 0)) (sym (m ∙ omega arith));
        over = r.over;
        shut = shut_snoc (get_or s.words 17 0) r.phase s.views n r.shut;
        home = r.home;
        each = λ i h e. ⊎_elim (λ (old : get_elem? s.views i ≡ some h). r.each i h old)
            (λ (t : (i ≡ length s.views) × (n ≡ h)). subst
            (λ (z : H). Fit r.seat r.phase (word0 s) r.value r.holder i z) t.1 (
              (seen, heard),
              subst (λ (z : Role S). Suits r.seat z n.tasks n.phase r.phase
                  (word0 s) r.value r.holder i) (sym gone) (at_phase, none_of),
            ))
            (at_snoc s.views n h i e);
        rows = rows_snoc (width r.value) s.words s.views n r.rows knows;
        begins = begins_snoc events registered replies ready width r.phase s.words s.views n r.value r.begins
            (began_gone r.begins.begun r.phase n.phase s.words n.role n.tasks n.seen gone none_of);
        stands = r.stands;
      }

  notes_open : (id : ℕ) (v : H) → Splits Rule id v v (note_of v)
  notes_open id v s r at = let e = r.each id v at in
      subst (λ (vs : List H). Rule record { words = s.words; homes = s.homes; views = vs ++ note_of v ∷ [] })
      (sym (set_again s.views id v at))
      (appended s r (note_of v) refl refl e.0.0 (omega arith)
      (at_most r.seat v.role v.tasks v.phase r.phase (word0 s) r.value r.holder id e.1)
      (tt, tt, (r.rows.each id v at).2))

  pub notes : (id : ℕ) (v : H) → IsIn v → Splits Board id v v (note_of v)
  notes id v inside s r at = ⊎_elim (λ (u : IsUnopened s). absurd (not_unopened s id v inside at u))
      (λ (k : Rule s). inr (notes_open id v s k at)) r

  -- a seat's view changes, and no task of it
  viewed : (s : St) (r : Rule s) (id : ℕ) (v w : H) → get_elem? s.views id ≡ some v
      → length w.tasks ≡ length v.tasks → StaysKeeper v w → missing r.phase w ≡ missing r.phase v
      → Fit r.seat r.phase (word0 s) r.value r.holder id w → Knows (width r.value) s.words w
      → Began events registered replies ready r.begins.begun r.phase s.words w
      → Rule record { words = s.words; homes = s.homes; views = set s.views id w }
  viewed s r id v w at tasks stays same fit knows began =
      let sum = total_set (missing r.phase) s.views id v w at in
      let p = r.parts in
      after events registered count width newest replies ready s r s.words s.homes id v w r.phase r.value r.holder r.seat r.held at r.wide (omega arith) r.small
      (r.word ∙ ap (λ (z : ℕ). z + (if r.held then busy else 0)) (omega arith)) r.over
      (shut_here events registered count width newest replies ready s r id v w at stays) r.home fit
      (λ i h other e. r.each i h e) r.stands
      (rows_after (width r.value) s.words s.words s.views id w (unchanged s.words) r.rows knows)
      (begins_on events registered replies ready width r.phase s.words s.words s.views id w r.value r.value (same_folds s.words) (λ m. m)
      (tail_same (events r.value)) refl r.begins began)

  hears_open : (id : ℕ) (v : H) (other : ℕ) (w : H) → w.role ≡ Gone → w.tasks ≡ []
      → Joins Rule id v other w (told v w) spent
  hears_open id v other w gone none_of s r at apart there_w =
      let at_w : get_elem? s.views other ≡ some w = sym (set_else s.views id other (told v w) apart)
      ∙ there_w in
      let ew = r.each other w at_w in
      let fw = fits_as events registered count width newest replies ready s r other w Gone at_w gone in
      let ev = r.each id v at in
      let r2 : Rule record { words = s.words; homes = s.homes; views = set s.views id (told v w) } =
      viewed s r id v (told v w) at refl (λ x e none_of. (e, none_of)) refl ((ev.0.0, fw.0), ev.1) (r.rows.each id v at)
      (r.begins.each id v at) in
      let ph = r2.phase in
      viewed record { words = s.words; homes = s.homes; views = set s.views id (told v w) } r2 other w spent
      there_w (sym (ap length none_of)) (no_keeper w spent Gone gone refl) (sym (missing_as events registered count width newest replies ready w Gone r2.phase gone))
      (((events r2.value, sym (append-nil (events r2.value))), omega arith), (omega arith, refl)) (tt, tt, omega arith) (tt, tt, tt)

  pub hears : (id : ℕ) (v : H) (other : ℕ) (w : H) → w.role ≡ Gone → w.tasks ≡ []
      → Joins Board id v other w (told v w) spent
  hears id v other w gone none_of s r at apart there_w = ⊎_elim
      (λ (u : IsUnopened s). absurd (not_unopened s other w (is_in w Gone gone tt)
      (sym (set_else s.views id other (told v w) apart) ∙ there_w) u))
      (λ (k : Rule s). inr (hears_open id v other w gone none_of s k at apart there_w)) r

  heeds_open : (slots id : ℕ) (me : Mine) → Allows Rule slots id me 0 (λ x. x)
      (heeded events registered width newest replies ready (step slots 0 0 0 none) me)
  heeds_open slots id me s r _ at _ = (
    me.0,
    keeps,
    tt,
    unmoved events registered count width newest replies ready s r 0 id me.0 at,
    (
      refl,
      λ stands. let f = fits_as events registered count width newest replies ready s r id me.0 Stands at stands in let q = f.1 in
          let h = (r.each id me.0 at).0.1 in omega arith,
    ),
  )

  pub heeds : (slots id : ℕ) (me : Mine) → IsIn me.0 → Allows Board slots id me 0 (λ x. x)
      (heeded events registered width newest replies ready (step slots 0 0 0 none) me)
  heeds slots id me inside s r sized at small = ⊎_elim (λ (u : IsUnopened s). absurd (not_unopened s id me.0 inside at u))
      (λ (k : Rule s). let m = heeds_open slots id me s k sized at small in (m.0, m.1, m.2, inr m.3, m.4)) r

  pub starts : (words : List ℕ) (slots : List S) (task : ℕ) (value : S) (wide_is : ℕ) → length words ≡ 2080
      → get_or words 0 0 ≡ 1 → get_or words 16 0 ≡ 0 → get_or words 17 0 ≡ 0 → slots ≡ value ∷ [] → registered task value ≡ true
      → deeds_of task (events value) ≡ deeds 0 [] → count value ≡ 1 → ready 0 value
      → wide_is ≡ width value → ((t : ℕ) → get_or words (32 + 8 * t) 0 ≡ 0)
      → ((t : ℕ) → t < 4 → get_or words (24 + t) 0 ≡ 0) → width value ≤ 4
      → Board (opening words slots (first_view task wide_is))
  starts words slots task value wide_is wide one zero_over zero_shut is is_there blank counts is_ready is_wide clear blank_folds narrow = inr record {
    phase = 0;
    value = value;
    holder = 0;
    seat = λ _. 0;
    held = false;
    wide = wide;
    parts = sym counts;
    small = omega arith;
    word = one;
    over = omega arith;
    shut = inl zero_shut;
    home = inl (ap (map some) is, omega arith);
    each = λ i h e. first i h e;
    rows = record {
      sound = λ t. subst (λ (n : ℕ). IsSound (width value) n) (sym (clear t)) tt;
      each = λ i h e. known i h e;
    };
    begins = record {
      begun = value;
      stood = is_ready;
      longer = tail_same (events value);
      wide = refl;
      narrow = narrow;
      folds = λ _ a l low is. absurd (none_some l (sym (ap fold_in (blank_folds a (omega arith))) ∙ is));
      each = λ i h e. begun i h e;
    };
    stands = is_ready;
  }
    where
      first : (i : ℕ) (h : H) → get_elem? (first_view task wide_is ∷ []) i ≡ some h
          → Fit (λ _. 0) 0 (get_or words 0 0) value 0 i h
      first zero h e = subst (λ (z : H). Fit (λ _. 0) 0 (get_or words 0 0) value 0 0 z)
          (some-injective (first_view task wide_is) h e) (
            ((events value, sym (append-nil (events value))), omega arith),
            (omega arith, refl, (is_there, refl, blank, tt)),
          )
      first (suc i) h e = absurd (some-ne-none h (sym e))

      none_some : (l : Look ℤ) → None ≡ Some l → ⊥
      none_some l e = cc

      begun : (i : ℕ) (h : H) → get_elem? (first_view task wide_is ∷ []) i ≡ some h
          → Began events registered replies ready value 0 words h
      begun zero h e = subst (λ (z : H). Began events registered replies ready value 0 words z) (some-injective (first_view task wide_is) h e)
          (tt, ((λ e. absurd (false≢true e)), tt), tt)
      begun (suc i) h e = absurd (some-ne-none h (sym e))

      known : (i : ℕ) (h : H) → get_elem? (first_view task wide_is ∷ []) i ≡ some h → Knows (width value) words h
      known zero h e = subst (λ (z : H). Knows (width value) words z) (some-injective (first_view task wide_is) h e)
          ((ap (sent_in task) (clear task), tt), tt, omega arith)
      known (suc i) h e = absurd (some-ne-none h (sym e))
