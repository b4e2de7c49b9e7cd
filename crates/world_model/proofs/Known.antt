-- In a legal history each event names tasks below the limit, and sends to accumulators that there are.
use Rattle.std.proofs.Common.{◌≡◌, ℕ, ◌<◌, ◌==◌, ◌&&◌, not, nat_lt, Bool, true, List, [], ◌∷◌, length, refl, subst, inl, inr}
use Rattle.std.specs.Prelude.{All}
use Rattle.std.proofs.lemmas.Bool.{cases_Bool, eqb-true, ltb-true, lt-ltb, and_parts, and_from}
use Rattle.std.proofs.lemmas.List.Elements.{All-nil, All-cons}
use Rattle.phase_modes.specs.declared.limits.Limits.{Limits}
use Rattle.phase_modes.specs.Lists.{is_empty}
use Rattle.phase_modes.specs.Mode.{can_signal}
use Rattle.phase_model.specs.declared.history.Event.{Event}
use Rattle.phase_model.specs.declared.history.Event.TheVariants.{Make, Reg, Sig, Claim, Did, Pass, Send, Look, Drop}
use Rattle.phase_model.specs.declared.terms.Terms.{Terms}
use Rattle.phase_model.specs.Tasks.{is_registered, is_dropped, is_live, has_mode}
use Rattle.phase_model.specs.Rules.{is_permitted, is_legal}
use Rattle.phase_model.proofs.Legal.{last_follows, reg_follows, sig_follows, pass_follows}
use Rattle.world_model.specs.inner.Tallied.{fits}

abbrev pub to_accumulator : ℕ → Event → Bool
to_accumulator n (Send t a v) = nat_lt a n
to_accumulator n _ = true

-- the first n tasks, and the first m accumulators
abbrev pub IsKnown : ℕ → ℕ → Event → Type 0
IsKnown n m e = (fits n e ≡ true) × (to_accumulator m e ≡ true)

-- a task that was registered at some time
pub registered_fits : (l : Limits) (terms : Terms) (h : List Event) → is_legal l terms h ≡ true → (t : ℕ) → is_registered t h ≡ true → t < l.tasks
registered_fits l terms [] k t r = absurd cc
registered_fits l terms (Make u m ∷ h) k t r =
    let f = last_follows l terms h (Make u m) k in
    elim (cases_Bool (u == t)) [
      | inl e ↦
          subst (λ (v : ℕ). v < l.tasks) (eqb-true u t e)
          (ltb-true u l.tasks (and_parts (is_empty h) (nat_lt u l.tasks) f.permitted).1)
      | inr e ↦ registered_fits l terms h f.before t (rw e at r)
    ]
registered_fits l terms (Reg q u m ∷ h) k t r =
    let f = last_follows l terms h (Reg q u m) k in
    elim (cases_Bool (u == t)) [
      | inl e ↦ subst (λ (v : ℕ). v < l.tasks) (eqb-true u t e) (reg_follows l terms h q u m f.permitted).task_fits
      | inr e ↦ registered_fits l terms h f.before t (rw e at r)
    ]
registered_fits l terms (e ∷ h) k t r = registered_fits l terms h (last_follows l terms h e k).before t r

pub live_fits : (l : Limits) (terms : Terms) (h : List Event) → is_legal l terms h ≡ true → (t : ℕ) → is_live t h ≡ true → nat_lt t l.tasks ≡ true
live_fits l terms h k t live = lt-ltb t l.tasks (registered_fits l terms h k t (and_parts (is_registered t h) (not (is_dropped t h)) live).0)

-- an event that may follow
known : (l : Limits) (terms : Terms) (h : List Event) (e : Event) → is_legal l terms h ≡ true → is_permitted l terms h e ≡ true → IsKnown l.tasks (length terms.ops) e
known l terms h (Make t m) k p = ((and_parts (is_empty h) (nat_lt t l.tasks) p).1, refl)
known l terms h (Reg q t m) k p =
    let f = reg_follows l terms h q t m p in
    (and_from (nat_lt q l.tasks) (nat_lt t l.tasks) (live_fits l terms h k q f.parent_live) (lt-ltb t l.tasks f.task_fits), refl)
known l terms h (Sig t x) k p = (live_fits l terms h k t (sig_follows l terms h t x p).live, refl)
known l terms h (Pass t) k p = (live_fits l terms h k t (pass_follows l terms h t p).live, refl)
known l terms h (Send t a v) k p =
    let outer = and_parts (is_live t h && has_mode can_signal t h) (nat_lt a (length terms.ops)) p in
    let inner = and_parts (is_live t h) (has_mode can_signal t h) outer.0 in
    (live_fits l terms h k t inner.0, outer.1)
known l terms h (Claim t) k p = (refl, refl)
known l terms h (Did t) k p = (refl, refl)
known l terms h (Look t a x) k p = (refl, refl)
known l terms h (Drop t) k p = (refl, refl)

pub all_known : (l : Limits) (terms : Terms) (h : List Event) → is_legal l terms h ≡ true → All (IsKnown l.tasks (length terms.ops)) h
all_known l terms [] k = All-nil (IsKnown l.tasks (length terms.ops))
all_known l terms (e ∷ h) k =
    let f = last_follows l terms h e k in
    All-cons (IsKnown l.tasks (length terms.ops)) e h (known l terms h e f.before f.permitted) (all_known l terms h f.before)
