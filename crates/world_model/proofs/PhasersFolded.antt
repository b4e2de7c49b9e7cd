-- Each legal history is folded: the values of a closed phase stay, and each look saw a fold of such.
use Rattle.std.proofs.Common.{◌≡◌, ℕ, ◌+◌, ◌-◌, ◌≤◌, ◌<◌, ◌==◌, nat_lt, Bool, true, false, ◌&&◌, cond, List, [], ◌∷◌, ◌++◌, length, refl, sym, subst, ap, ◌∙◌, arith}
use Rattle.std.specs.Prelude.{ℤ, slice_get}
use Rattle.std.specs.Option.{option_map_or}
use Rattle.std.proofs.lemmas.Bool.{ne_eqb, ltb-true, and_parts}
use Rattle.std.proofs.lemmas.Bool.Decides.{Decides-int_eq}
use Rattle.phase_modes.specs.declared.limits.Limits.{Limits}
use Rattle.phase_modes.specs.Lists.{is_empty}
use Rattle.phase_modes.specs.Mode.{can_signal, can_wait}
use Rattle.phase_model.specs.declared.history.Event.{Event}
use Rattle.phase_model.specs.declared.history.Event.TheVariants.{Send, Look as Looked}
use Rattle.phase_model.specs.declared.terms.Terms.{Terms}
use Rattle.phase_model.specs.declared.op.Look.{Look}
use Rattle.phase_model.specs.declared.op.Look.TheVariants.{Value, Nothing}
use Rattle.phase_model.specs.Tasks.{is_live, has_mode}
use Rattle.phase_model.specs.Phases.{waits, signals, IsClosed}
use Rattle.phase_model.specs.Values.{sent, fold}
use Rattle.phase_model.specs.Rules.{is_legal, same_look, look_of}
use Rattle.phase_model.proofs.Legal.{last_follows}
use Rattle.phase_model.proofs.Closing.{HaveSignalled, signalled_stays, over_behind, some_live}
use Rattle.phase_model.proofs.OrderingLaw.{is_legal-rest}
use Rattle.world_model.specs.Laws.{IsFolded, PhasersAreFolded}
use Rattle.world_model.specs.Parts.{terms_of, phaser_past}
use Rattle.world_model.proofs.PhasersLegal.{phasers_legal}

-- the two ways to say that a phase is closed
as_signalled : (p : ℕ) (h : List Event) → IsClosed p h → HaveSignalled (p + 1) h
as_signalled p h c t live signaller = omega (arith, c t live signaller)

as_closed : (p : ℕ) (h : List Event) → HaveSignalled (p + 1) h → IsClosed p h
as_closed p h s t live signaller = omega (arith, s t live signaller)

not_empty : (later before : List Event) → is_empty before ≡ false → is_empty (later ++ before) ≡ false
not_empty [] before some = some
not_empty (e ∷ later) before some = refl

-- a value isn't of a phase that each signaller has signalled
not_of : (b c : Bool) (v : ℤ) (vs : List ℤ) → c ≡ false → cond (b && c) (v ∷ vs) vs ≡ vs
not_of true c v vs k = rw k refl
not_of false c v vs k = refl

sent_stays : (l : Limits) (terms : Terms) (p a : ℕ) (e : Event) (h : List Event)
    → is_legal l terms (e ∷ h) ≡ true → HaveSignalled (p + 1) h → sent a p (e ∷ h) ≡ sent a p h
sent_stays l terms p a (Send u b v) h k s =
    let f = (last_follows l terms h (Send u b v) k).permitted in
    let c = and_parts (is_live u h && has_mode can_signal u h) (nat_lt b (length terms.ops)) f in
    let d = and_parts (is_live u h) (has_mode can_signal u h) c.0 in
    let ahead : p + 1 ≤ signals u h = s u d.0 d.1 in
    not_of (b == a) (signals u h == p) v (sent a p h)
    (ne_eqb (signals u h) p (λ e. absurd (omega (arith, ahead, e))))
sent_stays l terms p a e h k s = refl

-- a closed phase is closed later, and its values are the same
closed_stays : (l : Limits) (terms : Terms) (later before : List Event) (p a : ℕ)
    → is_legal l terms (later ++ before) ≡ true → is_empty before ≡ false → HaveSignalled (p + 1) before
    → HaveSignalled (p + 1) (later ++ before) × (sent a p (later ++ before) ≡ sent a p before)
closed_stays l terms [] before p a k some s = (s, refl)
closed_stays l terms (e ∷ later) before p a k some s =
    let r = closed_stays l terms later before p a (last_follows l terms (later ++ before) e k).before some s in (
      signalled_stays l terms (p + 1) e (later ++ before) k (not_empty later before some) r.0,
      sent_stays l terms p a e (later ++ before) k r.0 ∙ r.1,
    )

same_looks : (x y : Look ℤ) → same_look x y ≡ true → x ≡ y
same_looks (Value v) (Value w) k = ap (λ z. Value z) ((Decides-int_eq v w).0 k)
same_looks Nothing Nothing k = refl
same_looks x y k = absurd cc

-- what a look was allowed to see
record Saw (terms : Terms) (h : List Event) (t a : ℕ) (x : Look ℤ) : Type 0 where
  pub waiter : has_mode can_wait t h ≡ true
  pub some : is_empty h ≡ false
  pub turned : 0 < waits t h
  pub value : x ≡ look_of terms.ops a (waits t h) h

saw : (l : Limits) (terms : Terms) (h : List Event) (t a : ℕ) (x : Look ℤ)
    → is_legal l terms (Looked t a x ∷ h) ≡ true → Saw terms h t a x
saw l terms h t a x k =
    let f = (last_follows l terms h (Looked t a x) k).permitted in
    let same = same_look x (look_of terms.ops a (waits t h) h) in
    let b =
    and_parts (is_live t h && has_mode can_wait t h && nat_lt a (length terms.ops) && nat_lt 0 (waits t h)) same
    f in
    let c =
    and_parts (is_live t h && has_mode can_wait t h && nat_lt a (length terms.ops))
    (nat_lt 0 (waits t h)) b.0 in
    let d = and_parts (is_live t h && has_mode can_wait t h) (nat_lt a (length terms.ops)) c.0 in
    let e = and_parts (is_live t h) (has_mode can_wait t h) d.0 in
    record {
      waiter = e.1;
      some = some_live t h e.0;
      turned = ltb-true 0 (waits t h) c.1;
      value = same_looks x (look_of terms.ops a (waits t h) h) b.1;
    }

pub legal_is_folded : (l : Limits) (terms : Terms) (h : List Event) → is_legal l terms h ≡ true → IsFolded terms.ops h
legal_is_folded l terms h k =
    record {
      stays = λ later before p a is some c.
          let here : is_legal l terms (later ++ before) ≡ true =
          subst (λ (g : List Event). is_legal l terms g ≡ true) is k in
          let r = closed_stays l terms later before p a here some (as_signalled p before c) in (
            subst (λ (g : List Event). IsClosed p g) (sym is) (as_closed p (later ++ before) r.0),
            subst (λ (g : List Event). sent a p g ≡ sent a p before) (sym is) r.1,
          );
      seen = λ later before t a x is.
          let here : is_legal l terms (later ++ Looked t a x ∷ before) ≡ true =
          subst (λ (g : List Event). is_legal l terms g ≡ true) is k in
          let look : is_legal l terms (Looked t a x ∷ before) ≡ true =
          is_legal-rest l terms later (Looked t a x ∷ before) here in
          let s = saw l terms before t a x look in
          let p = waits t before - 1 in
          let less : p < waits t before = omega (arith, s.turned) in
          let over =
          (over_behind l terms before
          (last_follows l terms before (Looked t a x) look).before t p s.waiter less).closed in
          let r = closed_stays l terms later (Looked t a x ∷ before) p a here refl over in
          let values : sent a p h ≡ sent a p before =
          subst (λ (g : List Event). sent a p g ≡ sent a p before) (sym is) r.1 in (
            as_closed p before over,
            s.value
                ∙ sym (ap (λ vs. option_map_or (λ op. fold op vs) (slice_get terms.ops a) Nothing) values),
          );
    }

pub phasers_folded : PhasersAreFolded
phasers_folded l w k n = legal_is_folded l (terms_of n w) (phaser_past n w) (phasers_legal l w k n)
