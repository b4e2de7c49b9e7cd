-- What a `register` is answered, by what the table says.
use Rattle.std.proofs.Common.{◌≡◌, ℕ, ◌==◌, nat_lt, Bool, true, false, ◌&&◌, not, cond, List, ◌∷◌, None, Result, Ok, Err, refl, ap, sym, ◌∙◌}
use Rattle.std.proofs.lemmas.Bool.{eq-eqb, false≢true}
use Rattle.phase_modes.specs.declared.reg.Mode.{Mode}
use Rattle.phase_modes.specs.declared.reg.Reg.{Reg}
use Rattle.phase_modes.specs.declared.refusal.Refusal.{Refusal}
use Rattle.phase_modes.specs.declared.refusal.Refusal.TheVariants.{NotRegistered, MoreThanParent, TasksFull, RegisteredTwice, RegsFull}
use Rattle.phase_modes.specs.Mode.{can_signal, is_within}
use Rattle.phase_modes.specs.Reg.{child_reg}
use Rattle.phase_model.specs.declared.history.Event.{Event}
use Rattle.phase_model.specs.declared.history.Event.TheVariants.{Reg as Joined}
use Rattle.phase_model.specs.Tasks.{is_live, is_registered, has_mode, live_count}
use Rattle.phase_model.specs.Conditions.{is_within_task}
use Rattle.phase_model.specs.Rules.{Story, has_room, is_legal}
use Rattle.phase_modes.specs.Refusal.{first_refusal}
use Rattle.phase_model.specs.declared.call.Call.TheVariants.{Register as register}
use Rattle.phase_model.specs.Conditions.{conditions}
use Rattle.phase_model.specs.Replies.{reply, refused, decided}
use Rattle.phase_model.specs.Phases.{waits, signals}
use Rattle.phase_model.proofs.Replied.{reply_by}
use Rattle.phase_model.proofs.Legal.{parent_signals}
use Rattle.phase_modes.specs.declared.limits.Limits.{Limits}
use Rattle.phase_model.specs.declared.terms.Terms.{Terms}
use Rattle.phase_model.proofs.Proposals.{unknown_proposed_nothing}
use Rattle.reg_table.specs.declared.table.Entry.{Entry}
use Rattle.phase_model.specs.Registration.{reg_of}
use Rattle.phaser_engine.specs.Table.{entry_of}
use Rattle.phaser_engine.proofs.Reading.{Found, found_phase}

-- what a child's registration says
pub record ChildOk (p : Reg ℕ) (m : Mode) (r : Reg ℕ) : Type 0 where
  pub within : is_within m p.mode ≡ true
  pub is_reg : r ≡ record { mode = m; phase = p.phase; ahead = p.ahead && can_signal m }

pub child_ok : (p : Reg ℕ) (m : Mode) (r : Reg ℕ) → child_reg p m ≡ Ok r → ChildOk p m r
child_ok p m r e =
    let good : Result (Reg ℕ) Refusal =
    Ok (record { mode = m; phase = p.phase; ahead = p.ahead && can_signal m }) in
    let bad : Result (Reg ℕ) Refusal = Err MoreThanParent in
    (elim (is_within m p.mode) as (λ b. is_within m p.mode ≡ b → cond b good bad ≡ Ok r → ChildOk p m r) [
      | true ↦ λ w k. record { within = w; is_reg = cc }
      | false ↦ λ w k. absurd cc
    ]) refl e

pub child_err : (p : Reg ℕ) (m : Mode) (r : Refusal) → child_reg p m ≡ Err r
    → (is_within m p.mode ≡ false) × (r ≡ MoreThanParent)
child_err p m r e =
    let good : Result (Reg ℕ) Refusal =
    Ok (record { mode = m; phase = p.phase; ahead = p.ahead && can_signal m }) in
    let bad : Result (Reg ℕ) Refusal = Err MoreThanParent in
    (elim (is_within m p.mode) as (λ b. is_within m p.mode ≡ b → cond b good bad ≡ Err r
    → (is_within m p.mode ≡ false) × (r ≡ MoreThanParent)) [
      | true ↦ λ w k. absurd cc
      | false ↦ λ w k. (w, cc)
    ]) refl e

ahead_same : (a b x : Bool) → (b ≡ true → a ≡ true) → ((a && x) && b) ≡ (b && x)
ahead_same true true true k = refl
ahead_same true true false k = refl
ahead_same true false true k = refl
ahead_same true false false k = refl
ahead_same false true x k = absurd (false≢true (k refl))
ahead_same false false x k = refl

-- a child's line is that of its task after the event
pub child_is : (l : Limits) (terms : Terms) (h : List Event) → is_legal l terms h ≡ true
    → (q t : ℕ) (m : Mode) (p : Entry) (r : Reg ℕ) → is_registered t h ≡ false → Found h q p → ChildOk p.reg m r
    → ◌≡◌ {A = Entry} (record { task = t; reg = r; proposed = false }) (entry_of (Joined q t m ∷ h) t)
child_is l terms h legal q t m p r fresh f k =
    let phase : p.reg.phase ≡ waits q h = found_phase h q p f in
    let ahead : p.reg.ahead ≡ (has_mode can_signal q h && not (signals q h == waits q h)) =
    ap (λ x. x.reg.ahead) f.is_entry in
    let parent : can_signal m ≡ true → has_mode can_signal q h ≡ true =
    parent_signals q m h (f.mode (λ n. is_within m n) ∙ k.within) in
    let reg : r ≡ reg_of t (Joined q t m ∷ h) =
    k.is_reg
    ∙ (ap (λ n. record { mode = m; phase = n; ahead = p.reg.ahead && can_signal m }) phase
    ∙ (ap (λ b. record { mode = m; phase = waits q h; ahead = b })
    (ap (λ b. b && can_signal m) ahead
    ∙ ahead_same (has_mode can_signal q h) (can_signal m) (not (signals q h == waits q h)) parent)
    ∙ rw (eq-eqb t t refl) refl))
    in
    ap (λ x. record { task = t; reg = x; proposed = false }) reg
    ∙ ap (λ b. record { task = t; reg = reg_of t (Joined q t m ∷ h); proposed = b })
    (sym (unknown_proposed_nothing l terms h legal t (waits t (Joined q t m ∷ h)) fresh))

module _ (s : Story) (q t : ℕ) (m : Mode) where
  pub unknown : is_live q s.past ≡ false → reply s (register q t m) ≡ refused NotRegistered
  unknown a = rw a refl

  module _ (live : is_live q s.past ≡ true) where
    pub too_much : is_within_task m q s.past ≡ false → reply s (register q t m) ≡ refused MoreThanParent
    too_much a = rw (live, a) refl

    module _ (within : is_within_task m q s.past ≡ true) where
      pub tasks_full : nat_lt t s.limits.tasks ≡ false → reply s (register q t m) ≡ refused TasksFull
      tasks_full a = rw (live, within, a) refl

      module _ (fits : nat_lt t s.limits.tasks ≡ true) where
        pub twice : is_registered t s.past ≡ true → reply s (register q t m) ≡ refused RegisteredTwice
        twice a = rw (live, within, fits, a) refl

        module _ (fresh : is_registered t s.past ≡ false) where
          pub regs_full : nat_lt (live_count s.past) s.limits.regs ≡ false
              → reply s (register q t m) ≡ refused RegsFull
          regs_full a = rw (live, within, fits, fresh, a) refl

          pub free : nat_lt (live_count s.past) s.limits.regs ≡ true → reply s (register q t m)
              ≡ decided None false (has_room s.limits (Joined q t m ∷ s.past)) (Joined q t m)
          free a =
              let none : first_refusal (conditions s.limits s.terms s.past (register q t m)) ≡ None =
              rw (live, within, fits, fresh, a) refl in
              reply_by s (register q t m) None false (Joined q t m) none refl refl
