-- A walk over a trace's entries: those before place i were handed over, the one at i is next.
use Rattle.std.proofs.Common.{◌≡◌, ℕ, ◌+◌, ◌<◌, ◌≤◌, Bool, true, false, List, [], ◌∷◌, reverse, take, drop, get_or, length, Option, Some, None, if◌then◌else◌, refl, sym, ap, subst, ◌∙◌, arith}
use Rattle.std.proofs.lemmas.List.{drop_more, take_all, length-reverse, length-take-le, drop_all}
use Rattle.phase_modes.specs.declared.limits.Limits.{Limits}
use Rattle.phase_model.proofs.Reversed.{reverse_take_more}
use Rattle.trace_model.specs.Run.{Entry, Run}
use Rattle.trace_model.specs.Explained.{may_follow, fault_after, first_fault}
use Rattle.trace_replay.specs.declared.player.Player.{Player}
use Rattle.trace_replay.specs.inner.HandedOver.{HandedOver, HandedUpTo, HandsOver}

pub begins : (l : Limits) (es : List Entry) (s : Player) → HandedOver l [] s → HandedUpTo l es 0 s
begins l es s h = record { handed = h; fault = refl }

module _ (l : Limits) (es : List Entry) (i : ℕ) (x : Entry) (s : Player) (less : i < length es) (at : x ≡ get_or es i x)
    (so_far : HandedUpTo l es i s) where
  abbrev fault_by : Bool → Option ℕ
  fault_by b = if b then fault_after l (x ∷ reverse (take i es)) (drop (i + 1) es) else Some (length (reverse (take i es)) + 1)

  left_is : drop i es ≡ x ∷ drop (i + 1) es
  left_is = drop_more es i x less ∙ ap (λ y. y ∷ drop (i + 1) es) (sym at)

  next_before : reverse (take (i + 1) es) ≡ x ∷ reverse (take i es)
  next_before = reverse_take_more es i x less ∙ ap (λ y. y ∷ reverse (take i es)) (sym at)

  fault_is : (b : Bool) → may_follow l (reverse (take i es)) x ≡ b → fault_after l [] es ≡ fault_by b
  fault_is b h = so_far.fault ∙ ap (λ ys. fault_after l (reverse (take i es)) ys) left_is ∙ ap fault_by h

  pub stops : may_follow l (reverse (take i es)) x ≡ false → fault_after l [] es ≡ Some (i + 1)
  stops h =
      fault_is false h
      ∙ ap (λ n. Some (n + 1)) (length-reverse (take i es) ∙ length-take-le i es (omega (arith, less)))

  pub goes_on : (new : Player) → may_follow l (reverse (take i es)) x ≡ true → HandedOver l (x ∷ reverse (take i es)) new → HandedUpTo l es (i + 1) new
  goes_on new h handed = record {
    handed = subst (λ ys. HandedOver l ys new) (sym next_before) handed;
    fault = fault_is true h ∙ ap (λ ys. fault_after l ys (drop (i + 1) es)) (sym next_before);
  }

pub ends : (l : Limits) (es : List Entry) (i : ℕ) (s : Player) → length es ≤ i → HandedUpTo l es i s → HandsOver l es None s
ends l es i s over h =
    let all = take_all i es over in (
      subst (λ ys. HandedOver l (reverse ys) s) all h.handed,
      h.fault ∙ rw (all, drop_all i es over) refl,
    )

-- where all were handed over, the run's end decides
module _ (r : Run) (s : Player) (handed : HandsOver r.limits r.events None s) where
  by_end : (b : Bool) → s.over ≡ b → first_fault r ≡ (if b then None else Some (length (reverse r.events) + 1))
  by_end b is = handed.1 ∙ ap (λ o. if o then None else Some (length (reverse r.events) + 1)) (sym handed.0.over ∙ is)

  pub is_whole : s.over ≡ true → first_fault r ≡ None
  is_whole is = by_end true is

  pub is_cut : s.over ≡ false → first_fault r ≡ Some (length r.events + 1)
  is_cut is = by_end false is ∙ ap (λ n. Some (n + 1)) (length-reverse r.events)
