-- Two whole runs come to the same report: what it counts is read off what the tasks tell, in whatever order they tell it.
use Rattle.std.proofs.Common.{◌≡◌, ℕ, ◌+◌, suc, max, Bool, true, false, ◌==◌, not, cond, List, [], ◌∷◌, ◌++◌, length, map, flat_map, Option, Some, None, refl, sym, subst, ap, ◌∙◌, inl, inr, arith}
use Rattle.std.specs.Prelude.{filter, is_some}
use Rattle.std.specs.List.{list_any, count_by, sum_by}
use Rattle.std.proofs.lemmas.Bool.{cases_Bool, eqb-true, false≢true, not-true}
use Rattle.std.proofs.lemmas.List.Sums.{sum_by-cons}
use Rattle.phase_modes.specs.Lists.{is_empty}
use Rattle.phase_modes.specs.declared.limits.Limits.{Limits}
use Rattle.phase_model.specs.declared.history.Event.{Event}
use Rattle.phase_model.specs.declared.history.Event.TheVariants as events
use Rattle.phase_model.specs.declared.op.Op.{Op}
use Rattle.phase_model.specs.declared.terms.Terms.{Terms}
use Rattle.phase_model.specs.Amounts.{amount, totals}
use Rattle.phase_model.specs.Phases.{signals, waits}
use Rattle.phase_model.specs.Tasks.{registered_by}
use Rattle.phase_model.specs.Values.{sent, fold}
use Rattle.finish_core.specs.Finish.{spawned_tasks}
use Rattle.finish_core.specs.declared.event.FinishEvent.{FinishEvent}
use Rattle.finish_core.specs.declared.event.FinishEvent.TheVariants.{Spawned}
use Rattle.job_script.specs.declared.act.Answer.{Answer}
use Rattle.world_model.specs.declared.event.Step.{Step}
use Rattle.world_model.specs.declared.event.Step.TheVariants.{Sig, Pass, Send}
use Rattle.world_model.specs.declared.event.WorldEvent.{WorldEvent}
use Rattle.world_model.specs.declared.event.WorldEvent.TheVariants.{Phaser}
use Rattle.world_model.specs.declared.report.FinishLine.{FinishLine}
use Rattle.world_model.specs.declared.report.TaskLine.{TaskLine}
use Rattle.world_model.specs.declared.report.TotalsLine.{TotalsLine}
use Rattle.world_model.specs.Numbers.{is_phaser, is_finish}
use Rattle.world_model.specs.Parts.{phaser_past, terms_of, ops_of, finish_past, event_for}
use Rattle.world_model.specs.Report.{Report, PhaserReport, below, phase_count, folds_from, phaser_lines, task_line, finish_line, totals_line, is_sig, is_pass, is_drop, is_send, report_of}
use Rattle.world_model.specs.Tasks.{is_born}
use Rattle.world_model.proofs.OpenFinishes.{filter_same}
use Rattle.world_model.proofs.PhasersLegal.{phasers_legal}
use Rattle.trace_walk.specs.Walking.{Does}
use Rattle.trace_walk.specs.Scripts.{Numbers}
use Rattle.run_laws.specs.Telling.{Told, told}
use Rattle.run_laws.specs.Determinacy.{IsRun, RunsComeToTheSame}
use Rattle.run_laws.proofs.Plain.{plus_none, swapped}
use Rattle.run_laws.proofs.Placing.{on_step, any_told, is_make, makes, make_agrees, make_own, first_maker, gave, sent_told}
use Rattle.run_laws.proofs.Shuffles.{of_key, total, same_total, fold_by_senders}
use Rattle.run_laws.proofs.Sums.{all_told, teller, with_teller, told_by, weigh, on_weight, in_weight, IsSum, sum_told, finish_told, by_registered, registered_sum, by_sig, sig_sum, by_pass, pass_sum, by_drop, drop_sum, by_send, send_sum, by_up, up_sum, by_down, down_sum}
use Rattle.run_laws.proofs.Main.{going_one, twins, born_same, told_same, unborn_tells}

-- ---- how many phases a phaser had

abbrev raised : Option ℕ → ℕ → ℕ
raised None r = r
raised (Some p) r = max (p + 1) r

abbrev reached : ℕ → Told → Option ℕ
reached n x = by_event x.event
  where
    by_event : WorldEvent → Option ℕ
    by_event (Phaser m (Sig t y)) = cond (m == n) (Some x.phase) None
    by_event (Phaser m (Pass t)) = cond (m == n) (Some x.phase) None
    by_event (Phaser m (Send t a y)) = cond (m == n) (Some x.phase) None
    by_event _ = None

raised_swap : (o d : Option ℕ) (r : ℕ) → raised o (raised d r) ≡ raised d (raised o r)
raised_swap None d r = refl
raised_swap (Some p) None r = refl
raised_swap (Some p) (Some q) r = omega arith

abbrev phases : ℕ → List (ℕ × Told) → ℕ
phases n xs =
    total teller (λ x r. raised (reached n x.1) r) (λ x y r. raised_swap (reached n x.1) (reached n y.1) r) 0 xs

raised_here : (n m p q c : ℕ) (e : Event) (h : List Event) → phase_count (e ∷ h) ≡ max (q + 1) (phase_count h)
    → ((m == n) ≡ true → p ≡ q) → phase_count h ≡ c
    → phase_count (cond (m == n) (e ∷ h) h) ≡ raised (cond (m == n) (Some p) None) c
raised_here n m p q c e h k s r =
    elim (cases_Bool (m == n)) [
      | inl y ↦ rw y (k ∙ (ap (λ i. max (i + 1) (phase_count h)) (sym (s y)) ∙ ap (λ i. max (p + 1) i) r))
      | inr y ↦ rw y r
    ]

raised_not : (b : Bool) (c : ℕ) (e : Event) (h : List Event) → phase_count (e ∷ h) ≡ phase_count h
    → phase_count h ≡ c → phase_count (cond b (e ∷ h) h) ≡ c
raised_not true c e h k r = k ∙ r
raised_not false c e h k r = r

phases_told : (n : ℕ) (w : List WorldEvent) → phase_count (phaser_past n w) ≡ phases n (all_told w)
phases_told n [] = refl
phases_told n (Phaser m (Sig t x) ∷ w) =
    raised_here n m (signals t (phaser_past m w)) (signals t (phaser_past n w)) (phases n (all_told w)) (events.Sig t x)
    (phaser_past n w) refl (λ y. ap (λ i. signals t (phaser_past i w)) (eqb-true m n y)) (phases_told n w)
phases_told n (Phaser m (Pass t) ∷ w) =
    raised_here n m (waits t (phaser_past m w)) (waits t (phaser_past n w)) (phases n (all_told w)) (events.Pass t)
    (phaser_past n w) refl (λ y. ap (λ i. waits t (phaser_past i w)) (eqb-true m n y)) (phases_told n w)
phases_told n (Phaser m (Send t a x) ∷ w) =
    raised_here n m (signals t (phaser_past m w)) (signals t (phaser_past n w)) (phases n (all_told w)) (events.Send t a x)
    (phaser_past n w) refl (λ y. ap (λ i. signals t (phaser_past i w)) (eqb-true m n y)) (phases_told n w)
phases_told n (Phaser m s ∷ w) =
    raised_not (m == n) (phases n (all_told w)) (event_for (terms_of n w) (phaser_past n w) s) (phaser_past n w) refl
    (phases_told n w)
phases_told n (e ∷ w) = phases_told n w

-- ---- lists of lines

map_same : {X Y : Type 0} (f g : X → Y) (xs : List X) → ((x : X) → f x ≡ g x) → map f xs ≡ map g xs
map_same f g [] k = refl
map_same f g (x ∷ xs) k = ap (λ y. y ∷ map f xs) (k x) ∙ ap (λ ys. g x ∷ ys) (map_same f g xs k)

map_kept : {Y : Type 0} (f g : ℕ → Y) (p : ℕ → Bool) (xs : List ℕ) → ((x : ℕ) → p x ≡ true → f x ≡ g x)
    → map f (filter p xs) ≡ map g (filter p xs)
map_kept f g p [] k = refl
map_kept f g p (x ∷ xs) k =
    let rest = map_kept f g p xs k in
    elim (cases_Bool (p x)) [
      | inl e ↦ rw e (ap (λ y. y ∷ map f (filter p xs)) (k x e) ∙ ap (λ ys. g x ∷ ys) rest)
      | inr e ↦ rw e rest
    ]

flat_same : {X Y : Type 0} (f g : X → List Y) (xs : List X) → ((x : X) → f x ≡ g x) → flat_map f xs ≡ flat_map g xs
flat_same f g [] k = refl
flat_same f g (x ∷ xs) k = ap (λ ys. ys ++ flat_map f xs) (k x) ∙ ap (λ ys. g x ++ ys) (flat_same f g xs k)

sums_same : (sum : List Event → ℕ) (f g : ℕ → List Event) (ns : List ℕ) → ((n : ℕ) → sum (f n) ≡ sum (g n))
    → sum_by sum (map f ns) ≡ sum_by sum (map g ns)
sums_same sum f g [] k = refl
sums_same sum f g (n ∷ ns) k =
    sum_by-cons sum (f n) (map f ns)
    ∙ (ap (λ i. i + sum_by sum (map f ns)) (k n)
    ∙ (ap (λ i. sum (g n) + i) (sums_same sum f g ns k) ∙ sym (sum_by-cons sum (g n) (map g ns))))

folds_same : (p a : ℕ) (ops : List Op) (g h : List Event)
    → ((a : ℕ) (op : Op) → fold op (sent a p g) ≡ fold op (sent a p h)) → folds_from p a ops g ≡ folds_from p a ops h
folds_same p a [] g h k = refl
folds_same p a (op ∷ ops) g h k =
    ap (λ x. record { phase = p; acc = a; value = x } ∷ folds_from p (a + 1) ops g) (k a op)
    ∙ ap (λ xs. record { phase = p; acc = a; value = fold op (sent a p h) } ∷ xs) (folds_same p (a + 1) ops g h k)

empty_by_length : (g h : List FinishEvent) → length g ≡ length h → is_empty g ≡ is_empty h
empty_by_length [] [] e = refl
empty_by_length (x ∷ g) (y ∷ h) e = refl
empty_by_length [] (y ∷ h) e = absurd (none (length h) e)
  where
    none : (k : ℕ) → 0 ≡ suc k → ⊥
    none k e = omega arith
empty_by_length (x ∷ g) [] e = absurd (none (length g) e)
  where
    none : (k : ℕ) → suc k ≡ 0 → ⊥
    none k e = omega arith

-- ---- two runs

abbrev one_each : FinishEvent → ℕ
one_each e = 1

abbrev one_spawned : FinishEvent → ℕ
one_spawned (Spawned t) = 1
one_spawned _ = 0

length_more : (e : FinishEvent) (h : List FinishEvent) → length (e ∷ h) ≡ 1 + length h
length_more e h = omega arith

spawned_more : (e : FinishEvent) (h : List FinishEvent)
    → length (spawned_tasks (e ∷ h)) ≡ one_spawned e + length (spawned_tasks h)
spawned_more (Spawned t) h = one_more (length (spawned_tasks h))
  where
    one_more : (k : ℕ) → suc k ≡ 1 + k
    one_more k = omega arith
spawned_more e h = plus_none (length (spawned_tasks h))

module _ {B : Type 0} (next : Answer → B → Does B) (root : B) (names : ℕ → List Told → Numbers) (l : Limits)
    (v w : List WorldEvent) (one : IsRun next root names l v) (other : IsRun next root names l w) where
  keys_same : (u : ℕ) → of_key teller u (all_told v) ≡ of_key teller u (all_told w)
  keys_same u =
      told_by u v ∙ (ap (λ xs. with_teller u xs) (told_same next root names l v w one other u) ∙ sym (told_by u w))

  weigh_same : (f : WorldEvent → ℕ) → weigh f (all_told v) ≡ weigh f (all_told w)
  weigh_same f =
      same_total teller (λ x r. f x.1.event + r) (λ x y r. swapped (f x.1.event) (f y.1.event) r) 0
      (all_told v) (all_told w) keys_same

  sum_same : (sum : List Event → ℕ) (weight : Event → ℕ) (by : Step → ℕ) → IsSum sum weight by → (n : ℕ)
      → sum (phaser_past n v) ≡ sum (phaser_past n w)
  sum_same sum weight by k n =
      sum_told sum weight by k n v ∙ (weigh_same (on_weight n by) ∙ sym (sum_told sum weight by k n w))

  finish_same : (sum : List FinishEvent → ℕ) (weight : FinishEvent → ℕ)
      → ((e : FinishEvent) (h : List FinishEvent) → sum (e ∷ h) ≡ weight e + sum h) → (f : ℕ)
      → sum (finish_past f v) ≡ sum (finish_past f w)
  finish_same sum weight more f =
      finish_told sum weight more f v
      ∙ (ap (λ x. x + sum (finish_past f [])) (weigh_same (in_weight f weight)) ∙ sym (finish_told sum weight more f w))

  phases_same : (n : ℕ) → phase_count (phaser_past n v) ≡ phase_count (phaser_past n w)
  phases_same n =
      phases_told n v
      ∙ (same_total teller (λ x r. raised (reached n x.1) r) (λ x y r. raised_swap (reached n x.1) (reached n y.1) r) 0
      (all_told v) (all_told w) keys_same
      ∙ sym (phases_told n w))

  fold_same : (n p a : ℕ) (op : Op) → fold op (sent a p (phaser_past n v)) ≡ fold op (sent a p (phaser_past n w))
  fold_same n p a op =
      fold_by_senders op a p (phaser_past n v) (phaser_past n w)
      (λ u. sent_told n a p u v
      ∙ (ap (λ xs. gave n a p xs) (told_same next root names l v w one other u) ∙ sym (sent_told n a p u w)))

-- a phaser of the one is one of the other, with the same operators
record IsShared (n : ℕ) (v w : List WorldEvent) : Type 0 where
  there : is_empty (phaser_past n w) ≡ false
  terms : terms_of n v ≡ terms_of n w

any_some : (p : Event → Bool) (h : List Event) → list_any p h ≡ true → is_empty h ≡ false
any_some p [] k = absurd (false≢true k)
any_some p (e ∷ h) k = refl

module _ {B : Type 0} (next : Answer → B → Does B) (root : B) (names : ℕ → List Told → Numbers) (l : Limits) where
  shared : (v w : List WorldEvent) → IsRun next root names l v → IsRun next root names l w → (n : ℕ)
      → is_empty (phaser_past n v) ≡ false → IsShared n v w
  shared v w one other n some =
      let gv = going_one next root names l v w one other in
      let f = first_maker l (terms_of n v) (phaser_past n v) (phasers_legal l v gv.legal n) some in
      let tells_v : list_any (on_step n (makes f.0)) (told f.0 v) ≡ true =
      sym (any_told (is_make f.0) (makes f.0) f.0 n (make_agrees f.0) (make_own f.0) v) ∙ f.1.0 in
      let tells_w : list_any (on_step n (makes f.0)) (told f.0 w) ≡ true =
      subst (λ xs. list_any (on_step n (makes f.0)) xs ≡ true) (told_same next root names l v w one other f.0) tells_v in
      let born : is_born f.0 v ≡ true = teller_born f.0 tells_v in
      record {
        there = any_some (is_make f.0) (phaser_past n w)
            (any_told (is_make f.0) (makes f.0) f.0 n (make_agrees f.0) (make_own f.0) w ∙ tells_w);
        terms = ((twins next root names l v w one other f.0 born).own.on n).terms f.1.1;
      }
    where
      teller_born : (t : ℕ) → list_any (on_step n (makes t)) (told t v) ≡ true → is_born t v ≡ true
      teller_born t h =
          let gv = going_one next root names l v w one other in
          elim (cases_Bool (is_born t v)) [
            | inl b ↦ b
            | inr b ↦
                absurd (false≢true (subst (λ xs. list_any (on_step n (makes t)) xs ≡ true)
                (unborn_tells l t v gv.legal gv.calm b) h))
          ]

  is_phaser_same : (v w : List WorldEvent) → IsRun next root names l v → IsRun next root names l w → (n : ℕ)
      → is_phaser n v ≡ is_phaser n w
  is_phaser_same v w one other n =
      ap (λ b. not b) (both (is_empty (phaser_past n v)) (is_empty (phaser_past n w))
      (λ e. (shared v w one other n e).there) (λ e. (shared w v other one n e).there))
    where
      both : (a b : Bool) → (a ≡ false → b ≡ false) → (b ≡ false → a ≡ false) → a ≡ b
      both true true f g = refl
      both false false f g = refl
      both true false f g = g refl
      both false true f g = sym (f refl)

  phaser_kept : (v w : List WorldEvent) → IsRun next root names l v → IsRun next root names l w → (n : ℕ)
      → is_phaser n w ≡ true → phaser_lines v n ≡ phaser_lines w n
  phaser_kept v w one other n h =
      let some : is_empty (phaser_past n v) ≡ false =
      not-true (is_empty (phaser_past n v)) (is_phaser_same v w one other n ∙ h) in
      let ops : ops_of n v ≡ ops_of n w = ap (λ (x : Terms). x.ops) (shared v w one other n some).terms in
      let count = phases_same next root names l v w one other n in
      ap (λ os. line os (phaser_past n v) (phase_count (phaser_past n v))) ops
      ∙ (ap (λ c. line (ops_of n w) (phaser_past n v) c) count
      ∙ ap (λ fs. record { phaser = n; phases = phase_count (phaser_past n w); folds = fs })
      (flat_same (λ p. folds_from p 0 (ops_of n w) (phaser_past n v)) (λ p. folds_from p 0 (ops_of n w) (phaser_past n w))
      (below (phase_count (phaser_past n w)))
      (λ p. folds_same p 0 (ops_of n w) (phaser_past n v) (phaser_past n w)
      (λ a op. fold_same next root names l v w one other n p a op))))
    where
      line : List Op → List Event → ℕ → PhaserReport
      line os h c = record { phaser = n; phases = c; folds = flat_map (λ p. folds_from p 0 os h) (below c) }

  reports_same : (v w : List WorldEvent) → IsRun next root names l v → IsRun next root names l w
      → report_of l v ≡ report_of l w
  reports_same v w one other =
      ap (λ ps. whole ps (map (task_line v) born_v) (map (finish_line v) open_v) (line_of v made_v)) phasers_alike
      ∙ (ap (λ ts. whole (map (phaser_lines w) made_w) ts (map (finish_line v) open_v) (line_of v made_v)) tasks_alike
      ∙ (ap (λ fs. whole (map (phaser_lines w) made_w) (map (task_line w) born_w) fs (line_of v made_v)) finishes_alike
      ∙ ap (λ x. whole (map (phaser_lines w) made_w) (map (task_line w) born_w) (map (finish_line w) open_w) x) totals_alike))
    where
      whole : List PhaserReport → List TaskLine → List FinishLine → TotalsLine → Report
      whole ps ts fs x = record { phasers = ps; tasks = ts; finishes = fs; totals = x }

      made_v : List ℕ
      made_v = filter (λ n. is_phaser n v) (below l.phasers)

      made_w : List ℕ
      made_w = filter (λ n. is_phaser n w) (below l.phasers)

      born_v : List ℕ
      born_v = filter (λ t. is_born t v) (below l.tasks)

      born_w : List ℕ
      born_w = filter (λ t. is_born t w) (below l.tasks)

      open_v : List ℕ
      open_v = filter (λ f. is_finish f v) (below l.finishes)

      open_w : List ℕ
      open_w = filter (λ f. is_finish f w) (below l.finishes)

      line_of : List WorldEvent → List ℕ → TotalsLine
      line_of u ns = totals_line (map (λ n. phaser_past n u) ns)

      made : made_v ≡ made_w
      made =
          filter_same (λ n. is_phaser n v) (λ n. is_phaser n w) (below l.phasers) (λ n h. is_phaser_same v w one other n)

      phasers_alike : map (phaser_lines v) made_v ≡ map (phaser_lines w) made_w
      phasers_alike =
          ap (λ ns. map (phaser_lines v) ns) made
          ∙ map_kept (phaser_lines v) (phaser_lines w) (λ n. is_phaser n w) (below l.phasers)
          (λ n h. phaser_kept v w one other n h)

      tasks_alike : map (task_line v) born_v ≡ map (task_line w) born_w
      tasks_alike =
          ap (λ ts. map (task_line v) ts)
          (filter_same (λ t. is_born t v) (λ t. is_born t w) (below l.tasks) (λ t h. born_same next root names l v w one other t))
          ∙ map_same (task_line v) (task_line w) born_w
          (λ t. ap (λ (o : Option ℕ). record { task = t; refused = o })
          (one.whole.smooth.unrefused t ∙ sym (other.whole.smooth.unrefused t)))

      finishes_alike : map (finish_line v) open_v ≡ map (finish_line w) open_w
      finishes_alike =
          ap (λ fs. map (finish_line v) fs)
          (filter_same (λ f. is_finish f v) (λ f. is_finish f w) (below l.finishes)
          (λ f h. ap (λ b. not b) (empty_by_length (finish_past f v) (finish_past f w)
          (finish_same next root names l v w one other (λ es. length es) one_each length_more f))))
          ∙ map_same (finish_line v) (finish_line w) open_w
          (λ f. ap (λ k. record { finish = f; tasks = k })
          (finish_same next root names l v w one other (λ h. length (spawned_tasks h)) one_spawned spawned_more f))

      summed : (sum : List Event → ℕ) (weight : Event → ℕ) (by : Step → ℕ) → IsSum sum weight by
          → sum_by sum (map (λ n. phaser_past n v) made_v) ≡ sum_by sum (map (λ n. phaser_past n w) made_w)
      summed sum weight by k =
          ap (λ ns. sum_by sum (map (λ n. phaser_past n v) ns)) made
          ∙ sums_same sum (λ n. phaser_past n v) (λ n. phaser_past n w) made_w
          (λ n. sum_same next root names l v w one other sum weight by k n)

      counts : ℕ → ℕ → ℕ → ℕ → ℕ → ℕ → ℕ → TotalsLine
      counts r s p d n u m =
          record { registered = r; signals = s; passes = p; drops = d; sends = n; up = u; down = m }

      all_counted : {r s p d n u m r' s' p' d' n' u' m' : ℕ} → r ≡ r' → s ≡ s' → p ≡ p' → d ≡ d' → n ≡ n' → u ≡ u' → m ≡ m'
          → counts r s p d n u m ≡ counts r' s' p' d' n' u' m'
      all_counted {r = r} {s = s} {p = p} {d = d} {n = n} {u = u} {m = m} a b c e f g h = rw (a, b, c, e, f, g, h) refl

      totals_alike : line_of v made_v ≡ line_of w made_w
      totals_alike =
          all_counted
          (summed (count_by (λ e. is_some (registered_by e))) (λ e. cond (is_some (registered_by e)) 1 0) by_registered registered_sum)
          (summed (count_by is_sig) (λ e. cond (is_sig e) 1 0) by_sig sig_sum)
          (summed (count_by is_pass) (λ e. cond (is_pass e) 1 0) by_pass pass_sum)
          (summed (count_by is_drop) (λ e. cond (is_drop e) 1 0) by_drop drop_sum)
          (summed (count_by is_send) (λ e. cond (is_send e) 1 0) by_send send_sum)
          (summed (λ h. (totals h).up) (λ e. (amount e).up) by_up up_sum)
          (summed (λ h. (totals h).down) (λ e. (amount e).down) by_down down_sum)

pub runs_come_to_the_same : {B : Type 0} (next : Answer → B → Does B) → RunsComeToTheSame next
runs_come_to_the_same next root names l v w one other = reports_same next root names l v w one other
