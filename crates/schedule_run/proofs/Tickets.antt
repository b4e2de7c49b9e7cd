-- The tickets of a run's trace count from 1.
use Rattle.std.proofs.Common.{ℕ, zero, suc, ◌+◌, ◌≡◌, List, [], ◌∷◌, ◌++◌, map, reverse, length, refl, sym, subst, ap, ◌∙◌, arith}
use Rattle.std.specs.List.{range_with_len}
use Rattle.std.proofs.lemmas.List.{map-append, reverse-append, reverse-reverse, length-reverse}
use Rattle.job_script.specs.Program.{Program}
use Rattle.world_model.specs.declared.event.WorldEvent.{WorldEvent}
use Rattle.trace_model.specs.Run.{Entry}
use Rattle.schedule_run.specs.declared.runner.Runner.{Runner}
use Rattle.schedule_run.specs.inner.Records.{Counted}
use Rattle.schedule_run.specs.inner.Running.{RunStands}

-- the numbers from a on, one number more
range_more : (a n j : ℕ) → a + n ≡ j → range_with_len a (suc n) ≡ range_with_len a n ++ j ∷ []
range_more a zero j is =
    let same : a ≡ j = omega (arith, is) in
    ap (λ k. k ∷ []) same
range_more a (suc n) j is = ap (λ ks. a ∷ ks) (range_more (a + 1) n j (omega (arith, is)))

-- the tickets, the oldest first, of entries that have their places as tickets, the newest first
counted_up : (es : List Entry) → Counted es → map (λ e. e.0) (reverse es) ≡ range_with_len 1 (length es)
counted_up [] c = refl
counted_up (e ∷ es) c =
    let more = range_more 1 (length es) (suc (length es)) (omega arith) in
    ap (λ (xs : List Entry). map (λ x. x.0) xs) (reverse-append (e ∷ []) es)
    ∙ (map-append (λ (x : Entry). x.0) (reverse es) (e ∷ [])
    ∙ (by_parts (counted_up es c.1) c.0 ∙ sym more))
  where
    by_parts : {xs ys : List ℕ} {m n : ℕ} → xs ≡ ys → m ≡ n → xs ++ m ∷ [] ≡ ys ++ n ∷ []
    by_parts p q = cc

-- of a run's trace
pub said_tickets : (p : Program) (w : List WorldEvent) (r : Runner) → RunStands p w r
    → map (λ e. e.0) r.recorded.trace.events ≡ range_with_len 1 (length r.recorded.trace.events)
said_tickets p w r st =
    let es = reverse r.recorded.trace.events in
    subst (λ (xs : List Entry). map (λ e. e.0) xs ≡ range_with_len 1 (length xs)) (reverse-reverse r.recorded.trace.events)
    (counted_up es st.recorded.traced.counted ∙ ap (λ n. range_with_len 1 n) (sym (length-reverse es)))
