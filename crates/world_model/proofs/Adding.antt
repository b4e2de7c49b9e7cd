-- The totals of one history, with one event more, and those of one history more.
use Rattle.std.proofs.Common.{◌≡◌, ℕ, ◌+◌, Bool, cond, List, [], ◌∷◌, ◌++◌, refl, arith}
use Rattle.std.specs.Prelude.{sum_by, count_by, is_some}
use Rattle.std.proofs.lemmas.List.Sums.{sum_by-cons, sum_by_push}
use Rattle.phase_model.specs.declared.history.Event.{Event}
use Rattle.phase_model.specs.declared.history.Event.TheVariants.{Make, Reg, Sig, Claim, Did, Pass, Send, Look, Drop}
use Rattle.phase_model.specs.Tasks.{registered_by}
use Rattle.phase_model.specs.Amounts.{totals}
use Rattle.world_model.specs.declared.report.TotalsLine.{TotalsLine}
use Rattle.world_model.specs.Report.{is_sig, is_pass, is_drop, is_send, totals_line}
use Rattle.world_model.specs.SumLines.{plus}
use Rattle.world_model.specs.inner.Totals.{totals_with}

same_totals : (a b : TotalsLine) → a.registered ≡ b.registered → a.signals ≡ b.signals → a.passes ≡ b.passes → a.drops ≡ b.drops → a.sends ≡ b.sends → a.up ≡ b.up → a.down ≡ b.down → a ≡ b
same_totals a b registered signals passes drops sends up down =
    let whole : record { registered = a.registered; signals = a.signals; passes = a.passes; drops = a.drops; sends = a.sends; up = a.up; down = a.down }
    ≡ record { registered = b.registered; signals = b.signals; passes = b.passes; drops = b.drops; sends = b.sends; up = b.up; down = b.down }
    = cc
    in
    whole

-- an event that isn't counted, and one that is
none_more : (p : Event → Bool) (e : Event) (h : List Event) → cond {A = ℕ} (p e) 1 0 ≡ 0 → 0 + count_by p h ≡ 0 + count_by p (e ∷ h)
none_more p e h is = omega (arith, is, sum_by-cons (λ x. cond {A = ℕ} (p x) 1 0) e h)

one_more : (p : Event → Bool) (e : Event) (h : List Event) → cond {A = ℕ} (p e) 1 0 ≡ 1 → 0 + count_by p h + 1 ≡ 0 + count_by p (e ∷ h)
one_more p e h is = omega (arith, is, sum_by-cons (λ x. cond {A = ℕ} (p x) 1 0) e h)

more : (f : List Event → ℕ) (hs : List (List Event)) (h : List Event) → sum_by f hs + (0 + f h) ≡ sum_by f (hs ++ h ∷ [])
more f hs h = omega (arith, sum_by_push f hs h)

pub totals_stand : (e : Event) (h : List Event) → totals_with e (totals_line (h ∷ [])) ≡ totals_line ((e ∷ h) ∷ [])
totals_stand (Make t m) h =
    same_totals (totals_with (Make t m) (totals_line (h ∷ []))) (totals_line ((Make t m ∷ h) ∷ []))
    (one_more (λ e. is_some (registered_by e)) (Make t m) h refl) (none_more is_sig (Make t m) h refl) (none_more is_pass (Make t m) h refl)
    (none_more is_drop (Make t m) h refl) (none_more is_send (Make t m) h refl) (omega arith) (omega arith)
totals_stand (Reg q t m) h =
    same_totals (totals_with (Reg q t m) (totals_line (h ∷ []))) (totals_line ((Reg q t m ∷ h) ∷ []))
    (one_more (λ e. is_some (registered_by e)) (Reg q t m) h refl) (none_more is_sig (Reg q t m) h refl) (none_more is_pass (Reg q t m) h refl)
    (none_more is_drop (Reg q t m) h refl) (none_more is_send (Reg q t m) h refl) (omega arith) (omega arith)
totals_stand (Sig t x) h =
    same_totals (totals_with (Sig t x) (totals_line (h ∷ []))) (totals_line ((Sig t x ∷ h) ∷ []))
    (none_more (λ e. is_some (registered_by e)) (Sig t x) h refl) (one_more is_sig (Sig t x) h refl) (none_more is_pass (Sig t x) h refl)
    (none_more is_drop (Sig t x) h refl) (none_more is_send (Sig t x) h refl) (omega arith) (omega arith)
totals_stand (Claim t) h =
    same_totals (totals_with (Claim t) (totals_line (h ∷ []))) (totals_line ((Claim t ∷ h) ∷ []))
    (none_more (λ e. is_some (registered_by e)) (Claim t) h refl) (none_more is_sig (Claim t) h refl) (none_more is_pass (Claim t) h refl)
    (none_more is_drop (Claim t) h refl) (none_more is_send (Claim t) h refl) (omega arith) (omega arith)
totals_stand (Did t) h =
    same_totals (totals_with (Did t) (totals_line (h ∷ []))) (totals_line ((Did t ∷ h) ∷ []))
    (none_more (λ e. is_some (registered_by e)) (Did t) h refl) (none_more is_sig (Did t) h refl) (none_more is_pass (Did t) h refl)
    (none_more is_drop (Did t) h refl) (none_more is_send (Did t) h refl) (omega arith) (omega arith)
totals_stand (Pass t) h =
    same_totals (totals_with (Pass t) (totals_line (h ∷ []))) (totals_line ((Pass t ∷ h) ∷ []))
    (none_more (λ e. is_some (registered_by e)) (Pass t) h refl) (none_more is_sig (Pass t) h refl) (one_more is_pass (Pass t) h refl)
    (none_more is_drop (Pass t) h refl) (none_more is_send (Pass t) h refl) (omega arith) (omega arith)
totals_stand (Send t a v) h =
    same_totals (totals_with (Send t a v) (totals_line (h ∷ []))) (totals_line ((Send t a v ∷ h) ∷ []))
    (none_more (λ e. is_some (registered_by e)) (Send t a v) h refl) (none_more is_sig (Send t a v) h refl) (none_more is_pass (Send t a v) h refl)
    (none_more is_drop (Send t a v) h refl) (one_more is_send (Send t a v) h refl) (omega arith) (omega arith)
totals_stand (Look t a x) h =
    same_totals (totals_with (Look t a x) (totals_line (h ∷ []))) (totals_line ((Look t a x ∷ h) ∷ []))
    (none_more (λ e. is_some (registered_by e)) (Look t a x) h refl) (none_more is_sig (Look t a x) h refl) (none_more is_pass (Look t a x) h refl)
    (none_more is_drop (Look t a x) h refl) (none_more is_send (Look t a x) h refl) (omega arith) (omega arith)
totals_stand (Drop t) h =
    same_totals (totals_with (Drop t) (totals_line (h ∷ []))) (totals_line ((Drop t ∷ h) ∷ []))
    (none_more (λ e. is_some (registered_by e)) (Drop t) h refl) (none_more is_sig (Drop t) h refl) (none_more is_pass (Drop t) h refl)
    (one_more is_drop (Drop t) h refl) (none_more is_send (Drop t) h refl) (omega arith) (omega arith)

-- one history more
pub totals_more : (hs : List (List Event)) (h : List Event) → plus (totals_line hs) (totals_line (h ∷ [])) ≡ totals_line (hs ++ h ∷ [])
totals_more hs h =
    same_totals (plus (totals_line hs) (totals_line (h ∷ []))) (totals_line (hs ++ h ∷ []))
    (more (count_by (λ e. is_some (registered_by e))) hs h)
    (more (count_by is_sig) hs h)
    (more (count_by is_pass) hs h)
    (more (count_by is_drop) hs h)
    (more (count_by is_send) hs h)
    (more (λ g. (totals g).up) hs h)
    (more (λ g. (totals g).down) hs h)
