-- What is answered of an event says whether it was taken.
use Rattle.std.proofs.Common.{◌≡◌, true, false, Some, None, cond, sym, ap, subst, ◌∙◌, inl, inr}
use Rattle.std.proofs.lemmas.Bool.{cases_Bool}
use Rattle.world_model.specs.declared.event.WorldEvent.{WorldEvent}
use Rattle.run_laws.specs.declared.luck.Luck.{Luck}
use Rattle.run_laws.specs.declared.watch.Watch.{Watch}
use Rattle.run_laws.specs.Luck.{luck_of}
use Rattle.run_laws.specs.inner.Watched.{is_taken, luck_taken, IsAfter}
use Rattle.run_laws.proofs.Drawn.{untaken_is_luck}

-- where no luck is answered it was
pub luck_none : (d : Watch) (e : WorldEvent) → luck_taken d e ≡ None → is_taken d e ≡ true
luck_none d e h =
    elim (cases_Bool (is_taken d e)) [
      | inl is ↦ is
      | inr isnt ↦
          absurd (untaken_is_luck d e isnt (sym (ap (λ b. cond b None (luck_of e)) isnt) ∙ h))
    ]

-- where luck is answered it wasn't, and that is the luck
pub luck_some : (d : Watch) (e : WorldEvent) (x : Luck) → luck_taken d e ≡ Some x
    → (is_taken d e ≡ false) × (luck_of e ≡ Some x)
luck_some d e x h =
    elim (cases_Bool (is_taken d e)) [
      | inl is ↦
          let none : None ≡ Some x = sym (ap (λ b. cond b None (luck_of e)) is) ∙ h in
          cc
      | inr isnt ↦ (isnt, sym (ap (λ b. cond b None (luck_of e)) isnt) ∙ h)
    ]

pub is_now_taken : (d : Watch) (e : WorldEvent) (next : Watch) → is_taken d e ≡ true
    → IsAfter e (is_taken d e) d next → IsAfter e true d next
is_now_taken d e next is a = subst (λ b. IsAfter e b d next) is a
