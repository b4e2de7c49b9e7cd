-- What stood for a history stands for it with one event more.
use Rattle.std.proofs.Common.{◌≡◌, ℕ, ◌+◌, ◌<◌, ◌≤◌, max, nat_lt, true, List, [], ◌∷◌, length, Option, Some, None, refl, ap, sym, subst, ◌∙◌, arith, suc, ◌-◌, ℤ, reverse, get_or}
use Rattle.std.proofs.lemmas.Bool.{ltb-true}
use Rattle.std.proofs.lemmas.Option.{same_Some}
use Rattle.std.proofs.lemmas.List.{length-set, length-replicate, length-reverse, get_or-replicate, get_or-reverse}
use Rattle.std.proofs.lemmas.List.Elements.{All-from_get_or, All-get_or}
use Rattle.phase_model.specs.declared.terms.Terms.{Terms}
use Rattle.phase_model.specs.declared.history.Event.{Event}
use Rattle.phase_model.specs.declared.history.Event.TheVariants.{Make, Reg, Sig, Claim, Did, Pass, Send, Look, Drop}
use Rattle.phase_model.specs.declared.op.Op.{Op}
use Rattle.phase_model.specs.Amounts.{totals}
use Rattle.phase_model.specs.Phases.{signals, waits}
use Rattle.phase_model.specs.Values.{sent}
use Rattle.phase_model.specs.Rules.{is_legal}
use Rattle.phase_modes.specs.declared.limits.Limits.{Limits}
use Rattle.world_model.specs.declared.report.TotalsLine.{TotalsLine}
use Rattle.world_model.specs.Report.{phase_count}
use Rattle.world_model.specs.declared.progress.Progress.{Progress}
use Rattle.world_model.specs.SumLines.{IsWithin}
use Rattle.world_model.specs.inner.Folds.{FoldState, IsPlaced, reached, value_sent, folds_noted}
use Rattle.world_model.specs.inner.Totals.{totals_with}
use Rattle.world_model.specs.inner.Tallied as tallied
use Rattle.world_model.specs.inner.Tallied.{Tallied, StandsFor, start, progress_at, fits, phase_at, no_events, noted}
use Rattle.world_model.proofs.Reaching.{signals_within, waits_within, phases_few}
use Rattle.world_model.proofs.Rows.{rows_agree}
use Rattle.world_model.proofs.FoldRows.{row_agrees}
use Rattle.world_model.proofs.Reached.{rows, reached_ops, reached_phases, reached_lines, has_place, lines_sent}
use Rattle.world_model.proofs.Known.{to_accumulator, IsKnown, all_known}
use Rattle.world_model.proofs.Progressing.{IsProgress, progress_stands}
use Rattle.world_model.proofs.Adding.{totals_stand}

-- the lines that were come to stand for the history, too
record FoldsStand (k : FoldState) (h : List Event) (n : ℕ) : Type 0 where
  phases : k.phases ≡ n
  lines : k.lines ≡ rows k.ops h n

come_to : (p : ℕ) (k : FoldState) (h : List Event) → FoldsStand k h (phase_count h) → p ≤ phase_count h → FoldsStand (reached p k) h (max (p + 1) (phase_count h))
come_to p k h st within = record {
  phases = reached_phases p (phase_count h) k st.phases within;
  lines = reached_lines p k h st.phases st.lines within ∙ ap (λ ops. rows ops h (max (p + 1) (phase_count h))) (sym (reached_ops p k));
}

-- an event that sends nothing leaves the lines
quiet : (k : FoldState) (h : List Event) (e : Event) (n : ℕ) → ((a p : ℕ) → sent a p h ≡ sent a p (e ∷ h)) → FoldsStand k h n → FoldsStand k (e ∷ h) n
quiet k h e n same st = record {
  phases = st.phases;
  lines = st.lines ∙ rows_agree _ _ n (λ p _. row_agrees p 0 k.ops h (e ∷ h) (λ a _. same a p));
}

-- the phase that is read for a signal, a pass or a value is the task's own
signals_read : (ts : List Progress) (h : List Event) (t : ℕ) → nat_lt t (length ts) ≡ true → IsProgress ts h → (progress_at ts t).signals ≡ signals t h
signals_read ts h t fit is = ap (λ (p : Progress). p.signals) (is t (ltb-true t (length ts) fit))

waits_read : (ts : List Progress) (h : List Event) (t : ℕ) → nat_lt t (length ts) ≡ true → IsProgress ts h → (progress_at ts t).waits ≡ waits t h
waits_read ts h t fit is = ap (λ (p : Progress). p.waits) (is t (ltb-true t (length ts) fit))

accumulator_known : (p a : ℕ) (k : FoldState) → nat_lt a (length k.ops) ≡ true → a < length (reached p k).ops
accumulator_known p a k known = subst (λ (ops : List Op). a < length ops) (sym (reached_ops p k)) (ltb-true a (length k.ops) known)

sent_to : (t a : ℕ) (v : ℤ) (k : FoldState) (h : List Event) → nat_lt a (length k.ops) ≡ true → FoldsStand k h (phase_count h)
    → FoldsStand (value_sent (signals t h) a v (reached (signals t h) k)) (Send t a v ∷ h) (max (signals t h + 1) (phase_count h))
sent_to t a v k h known st =
    let come = come_to (signals t h) k h st (signals_within t h) in
    record {
      phases = come.phases;
      lines = lines_sent (reached (signals t h) k) h (max (signals t h + 1) (phase_count h)) t (signals t h) a v come.lines (omega arith)
          (accumulator_known (signals t h) a k known) refl;
    }

folds_stand : (e : Event) (k : FoldState) (h : List Event) (ts : List Progress) → fits (length ts) e ≡ true → to_accumulator (length k.ops) e ≡ true → IsProgress ts h
    → FoldsStand k h (phase_count h) → FoldsStand (folds_noted e (phase_at ts e) k) (e ∷ h) (phase_count (e ∷ h))
folds_stand (Sig t x) k h ts fit known is st =
    subst (λ q. FoldsStand (reached q k) (Sig t x ∷ h) (max (signals t h + 1) (phase_count h))) (sym (signals_read ts h t fit is))
    (quiet (reached (signals t h) k) h (Sig t x) (max (signals t h + 1) (phase_count h)) (λ a p. refl) (come_to (signals t h) k h st (signals_within t h)))
folds_stand (Pass t) k h ts fit known is st =
    subst (λ q. FoldsStand (reached q k) (Pass t ∷ h) (max (waits t h + 1) (phase_count h))) (sym (waits_read ts h t fit is))
    (quiet (reached (waits t h) k) h (Pass t) (max (waits t h + 1) (phase_count h)) (λ a p. refl) (come_to (waits t h) k h st (waits_within t h)))
folds_stand (Send t a v) k h ts fit known is st =
    subst (λ q. FoldsStand (value_sent q a v (reached q k)) (Send t a v ∷ h) (max (signals t h + 1) (phase_count h))) (sym (signals_read ts h t fit is))
    (sent_to t a v k h known st)
folds_stand (Make t m) k h ts fit known is st = quiet k h (Make t m) (phase_count h) (λ a p. refl) st
folds_stand (Reg q t m) k h ts fit known is st = quiet k h (Reg q t m) (phase_count h) (λ a p. refl) st
folds_stand (Claim t) k h ts fit known is st = quiet k h (Claim t) (phase_count h) (λ a p. refl) st
folds_stand (Did t) k h ts fit known is st = quiet k h (Did t) (phase_count h) (λ a p. refl) st
folds_stand (Look t a x) k h ts fit known is st = quiet k h (Look t a x) (phase_count h) (λ a p. refl) st
folds_stand (Drop t) k h ts fit known is st = quiet k h (Drop t) (phase_count h) (λ a p. refl) st

-- a phase that was read is one of the first 65,536, and a value for it has a place
placed : (e : Event) (k : FoldState) (h : List Event) (ts : List Progress) → fits (length ts) e ≡ true → to_accumulator (length k.ops) e ≡ true → IsProgress ts h
    → FoldsStand k h (phase_count h) → length h < 65536 → (totals h).up ≤ 1000000000000000 → (totals h).down ≤ 1000000000000000
    → (p : ℕ) → phase_at ts e ≡ Some p → (p < 65536) × IsPlaced e p k
placed (Sig t x) k h ts fit known is st few up down p at =
    let here : (progress_at ts t).signals ≡ p = same_Some (progress_at ts t).signals p at in
    (omega (arith, here, signals_read ts h t fit is, signals_within t h, phases_few h, few), tt)
placed (Pass t) k h ts fit known is st few up down p at =
    let here : (progress_at ts t).waits ≡ p = same_Some (progress_at ts t).waits p at in
    (omega (arith, here, waits_read ts h t fit is, waits_within t h, phases_few h, few), tt)
placed (Send t a v) k h ts fit known is st few up down p at =
    let here : (progress_at ts t).signals ≡ p = same_Some (progress_at ts t).signals p at in
    let within : p ≤ phase_count h = omega (arith, here, signals_read ts h t fit is, signals_within t h) in (
      omega (arith, within, phases_few h, few),
      has_place (reached p k) h (max (p + 1) (phase_count h)) p a (come_to p k h st within).lines (omega arith) (accumulator_known p a k known) up down,
    )
placed (Make t m) k h ts fit known is st few up down p at = absurd cc
placed (Reg q t m) k h ts fit known is st few up down p at = absurd cc
placed (Claim t) k h ts fit known is st few up down p at = absurd cc
placed (Did t) k h ts fit known is st few up down p at = absurd cc
placed (Look t a x) k h ts fit known is st few up down p at = absurd cc
placed (Drop t) k h ts fit known is st few up down p at = absurd cc

folds_of : (k : Tallied) (h : List Event) → StandsFor k h → FoldsStand k.folds h (phase_count h)
folds_of k h st = record { phases = st.phases; lines = st.lines }

pub weaker : (m n : ℕ) (l : TotalsLine) → m ≤ n → IsWithin m l → IsWithin n l
weaker m n l more is = record {
  registered = omega (arith, is.registered);
  signals = omega (arith, is.signals);
  passes = omega (arith, is.passes);
  drops = omega (arith, is.drops);
  sends = omega (arith, is.sends);
  up = omega (arith, is.up);
  down = omega (arith, is.down);
}

-- an event that is known can be taken in
pub can_note : (e : Event) (k : Tallied) (h : List Event) → IsKnown (length k.tasks) (length k.folds.ops) e → StandsFor k h → length h < 65536 → tallied.IsNotable k e
can_note e k h known st few =
    let up : k.totals.up ≡ 0 + (totals h).up = ap (λ (l : TotalsLine). l.up) st.totals in
    let down : k.totals.down ≡ 0 + (totals h).down = ap (λ (l : TotalsLine). l.down) st.totals in
    record {
      known = known.0;
      signals = All-from_get_or (λ (p : Progress). p.signals < 65536) k.tasks start
          (λ t within. omega (arith, ap (λ (p : Progress). p.signals) (st.tasks t within), signals_within t h, phases_few h, few));
      waits = All-from_get_or (λ (p : Progress). p.waits < 65536) k.tasks start
          (λ t within. omega (arith, ap (λ (p : Progress). p.waits) (st.tasks t within), waits_within t h, phases_few h, few));
      folds = record {
        few = omega (arith, st.phases, phases_few h, few);
        placed = placed e k.folds h k.tasks known.0 known.1 st.tasks (folds_of k h st) few (omega (arith, up, st.within.up, few))
            (omega (arith, down, st.within.down, few));
      };
      totals = weaker (length h) 65536 k.totals (omega (arith, few)) st.within;
    }

pub stands_noted : (e : Event) (k new : Tallied) (h : List Event) → IsKnown (length k.tasks) (length k.folds.ops) e → StandsFor k h → new ≡ noted e k
    → IsWithin (length h + 1) new.totals → StandsFor new (e ∷ h)
stands_noted e k new h known st is within =
    let folds = folds_stand e k.folds h k.tasks known.0 known.1 st.tasks (folds_of k h st) in
    let next : length h + 1 ≡ suc (length h) = omega arith in
    let more : StandsFor (noted e k) (e ∷ h) = record {
      tasks = progress_stands e k.tasks h known.0 st.tasks;
      phases = folds.phases;
      lines = folds.lines;
      totals = ap (λ l. totals_with e l) st.totals ∙ totals_stand e h;
      within = subst (λ n. IsWithin n (totals_with e k.totals)) next (subst (λ (s : Tallied). IsWithin (length h + 1) s.totals) is within);
    }
    in
    subst (λ s. StandsFor s (e ∷ h)) (sym is) more

-- the operators and the number of tasks stay
pub same_ops : (e : Event) (k : Tallied) → (noted e k).folds.ops ≡ k.folds.ops
same_ops e k = kept (phase_at k.tasks e) e
  where
    kept : (o : Option ℕ) (x : Event) → (folds_noted x o k.folds).ops ≡ k.folds.ops
    kept None x = refl
    kept (Some p) (Send t a v) = reached_ops p k.folds
    kept (Some p) (Make t m) = reached_ops p k.folds
    kept (Some p) (Reg q t m) = reached_ops p k.folds
    kept (Some p) (Sig t x) = reached_ops p k.folds
    kept (Some p) (Claim t) = reached_ops p k.folds
    kept (Some p) (Did t) = reached_ops p k.folds
    kept (Some p) (Pass t) = reached_ops p k.folds
    kept (Some p) (Look t a x) = reached_ops p k.folds
    kept (Some p) (Drop t) = reached_ops p k.folds

pub same_tasks : (e : Event) (k : Tallied) → length (noted e k).tasks ≡ length k.tasks
same_tasks (Make t m) k = length-set k.tasks t start
same_tasks (Reg q t m) k = length-set k.tasks t (progress_at k.tasks q)
same_tasks (Sig t x) k = length-set k.tasks t (record (progress_at k.tasks t) { signals = (progress_at k.tasks t).signals + 1 })
same_tasks (Pass t) k = length-set k.tasks t (record (progress_at k.tasks t) { waits = (progress_at k.tasks t).waits + 1 })
same_tasks (Send t a v) k = refl
same_tasks (Claim t) k = refl
same_tasks (Did t) k = refl
same_tasks (Look t a x) k = refl
same_tasks (Drop t) k = refl

-- nothing has happened
pub none_noted : (n : ℕ) (ops : List Op) → StandsFor (no_events n ops) []
none_noted n ops = record {
  tasks = λ t within. get_or-replicate n t start start (omega (arith, within, length-replicate n start));
  phases = refl;
  lines = refl;
  totals = refl;
  within = record {
    registered = omega arith;
    signals = omega arith;
    passes = omega arith;
    drops = omega arith;
    sends = omega arith;
    up = omega arith;
    down = omega arith;
  };
}

-- each event of a legal history is known
pub known_at : (l : Limits) (terms : Terms) (h : List Event) → is_legal l terms h ≡ true → (xs : List Event) → reverse xs ≡ h
    → (k : Tallied) → k.folds.ops ≡ terms.ops → length k.tasks ≡ l.tasks → (i : ℕ) (d : Event) → i < length xs
    → IsKnown (length k.tasks) (length k.folds.ops) (get_or xs i d)
known_at l terms h legal xs is k same_ops same_tasks i d within =
    let size : length h ≡ length xs = ap (λ g. length g) (sym is) ∙ length-reverse xs in
    let there : length xs - 1 - (length xs - 1 - i) ≡ i = omega (arith, within) in
    let read : get_or h (length xs - 1 - i) d ≡ get_or xs i d =
    ap (λ g. get_or g (length xs - 1 - i) d) (sym is)
    ∙ (get_or-reverse xs (length xs - 1 - i) d (omega (arith, within)) ∙ ap (λ j. get_or xs j d) there)
    in
    rw (same_ops, same_tasks)
    (subst (λ e. IsKnown l.tasks (length terms.ops) e) read
    (All-get_or (IsKnown l.tasks (length terms.ops)) h (length xs - 1 - i) d (omega (arith, size, within)) (all_known l terms h legal)))
