-- Histories in which tasks go on as those of a kernel do: the root alone spawns and makes phasers, the others
-- alone take turns, each by a next, and nobody is refused or gives up.
use Rattle.std.proofs.Common.{◌≡◌, ℕ, ◌+◌, Bool, true, false, ◌&&◌, ◌==◌, not, if◌then◌else◌, List, [], ◌∷◌, Option, Some, None, refl, sym, subst, ap, ◌∙◌, ◌⊎◌, inl, inr}
use Rattle.std.specs.Prelude.{drop}
use Rattle.std.specs.List.{list_any, list_all}
use Rattle.std.proofs.lemmas.Bool.{and_parts, cases_Bool, eqb-true, eq-eqb, not-true, true≢false, false≢true, false_from_ne_true}
use Rattle.phase_modes.specs.Lists.{is_empty}
use Rattle.phase_modes.specs.declared.limits.Limits.{Limits}
use Rattle.world_model.specs.declared.event.Step.TheVariants.{Make}
use Rattle.world_model.specs.declared.event.Begun.TheVariants.{Async, Next, End}
use Rattle.world_model.specs.declared.event.Tried.TheVariants.{Begun as Beginning}
use Rattle.world_model.specs.declared.event.WorldEvent.{WorldEvent}
use Rattle.world_model.specs.declared.event.WorldEvent.TheVariants.{Phaser, Finish, Begin, Refuse, Fail}
use Rattle.world_model.specs.Actors.{actor}
use Rattle.world_model.specs.Due.{due, is_entry, is_idle, is_of_single}
use Rattle.world_model.specs.Tasks.{spawner}
use Rattle.world_model.specs.Replies.{is_legal_world, is_accepted}
use Rattle.world_model.specs.TaskConditions.{last_entry}
use Rattle.world_model.proofs.MadeMeans.{last_accepted, IsNext}
use Rattle.world_model.proofs.AbleComputed.{idle_in_act}
use Rattle.world_model.proofs.AbruptEnds.{continues, nothing_due}
use Rattle.world_model.proofs.OthersLeave.{last_plain, due_own}
use Rattle.world_model.proofs.SmallWords.{empty_is}
use Rattle.world_model.proofs.DueStays.{IsFirstDue, first_is}
use Rattle.world_model.proofs.TurnsStand.{how_many}
use Rattle.world_model.proofs.LeavingList.{ends_act}
use Rattle.world_model.proofs.EndingStays.{leaving}
use Rattle.world_model.proofs.LeavesAtEnds.{leaves_act}

-- ---- the words

abbrev pub is_plain : WorldEvent → Bool
is_plain (Begin u (Async c ps)) = u == 0
is_plain (Begin u Next) = not (u == 0)
is_plain (Begin u End) = true
is_plain (Begin u b) = false
is_plain (Refuse u a x) = false
is_plain (Fail u x) = false
is_plain (Phaser n (Make u m terms)) = u == 0
is_plain e = true

pub record IsPlain (l : Limits) (w : List WorldEvent) : Type 0 where
  pub legal : is_legal_world l w ≡ true
  pub plain : list_all is_plain w ≡ true

-- how many turns t has begun
abbrev pub turns : ℕ → List WorldEvent → ℕ
turns t [] = 0
turns t (Begin u Next ∷ w) = if u == t then turns t w + 1 else turns t w
turns t (_ ∷ w) = turns t w

-- how many spawns were begun
abbrev pub spawned : List WorldEvent → ℕ
spawned [] = 0
spawned (Begin u (Async c ps) ∷ w) = spawned w + 1
spawned (_ ∷ w) = spawned w

-- the child of the spawn of this place, the first has place 0
abbrev pub child_at : ℕ → List WorldEvent → Option ℕ
child_at i [] = None
child_at i (Begin u (Async c ps) ∷ w) = if spawned w == i then Some c else child_at i w
child_at i (_ ∷ w) = child_at i w

-- ---- the last event, and those before

pub record IsLast (l : Limits) (e : WorldEvent) (w : List WorldEvent) : Type 0 where
  pub accepted : is_accepted l w e ≡ true
  pub plain : is_plain e ≡ true
  pub before : IsPlain l w

pub last_of_plain : (l : Limits) (e : WorldEvent) (w : List WorldEvent) → IsPlain l (e ∷ w) → IsLast l e w
last_of_plain l e w k =
    let a = last_accepted l e w k.legal in
    let p = and_parts (is_plain e) (list_all is_plain w) k.plain in
    record { accepted = a.0; plain = p.0; before = record { legal = a.1; plain = p.1 } }

-- ---- what is due

-- an event that is no entry of t leaves what is due to it, or is the first of it
pub due_moves : (l : Limits) (w : List WorldEvent) (e : WorldEvent) (t : ℕ) → is_accepted l w e ≡ true
    → is_entry t e ≡ false → (due t (e ∷ w) ≡ due t w) ⊎ (due t w ≡ e ∷ due t (e ∷ w))
due_moves l w e t a n =
    elim (cases_Bool (actor w e == t && not (is_of_single e))) [
      | inr o ↦ inl (rw (n, o) refl)
      | inl m ↦
          let p = and_parts (actor w e == t) (not (is_of_single e)) m in
          let s : is_of_single e ≡ false = not-true (is_of_single e) p.1 in
          let mine : actor w e ≡ t = eqb-true (actor w e) t p.0 in
          let next : due t (e ∷ w) ≡ drop 1 (due t w) = due_own t e w n p.0 s in
          elim (cases_Bool (is_empty (due t w))) [
            | inl none ↦
                let gone : due t w ≡ [] = empty_is (due t w) none in
                inl (next ∙ (ap (λ ds. drop 1 ds) gone ∙ sym gone))
            | inr some ↦
                let f : IsFirstDue t w e =
                subst (λ v. IsFirstDue v w e) mine
                (first_is l w e (continues l w e a (subst (λ v. is_entry v e ≡ false) (sym mine) n)
                (subst (λ v. is_empty (due v w) ≡ false) (sym mine) some)) s) in
                inr (f.is ∙ ap (λ ds. e ∷ ds) (sym (next ∙ ap (λ ds. drop 1 ds) f.is)))
          ]
    ]

-- so it changes nothing that it adds nothing to
due_kept : {X : Type 0} (l : Limits) (w : List WorldEvent) (e : WorldEvent) (t : ℕ) (f : List WorldEvent → X)
    → is_accepted l w e ≡ true → is_entry t e ≡ false → ((ds : List WorldEvent) → f (e ∷ ds) ≡ f ds)
    → f (due t (e ∷ w)) ≡ f (due t w)
due_kept l w e t f a n none =
    elim (due_moves l w e t a n) [
      | inl s ↦ ap f s
      | inr s ↦ sym (ap f s ∙ none (due t (e ∷ w)))
    ]

pub any_kept : (l : Limits) (w : List WorldEvent) (e : WorldEvent) (t : ℕ) (p : WorldEvent → Bool)
    → is_accepted l w e ≡ true → is_entry t e ≡ false → p e ≡ false
    → list_any p (due t (e ∷ w)) ≡ list_any p (due t w)
any_kept l w e t p a n none = due_kept l w e t (λ ds. list_any p ds) a n (λ ds. rw none refl)

pub count_kept : (l : Limits) (w : List WorldEvent) (e : WorldEvent) (t : ℕ) (p : WorldEvent → Bool)
    → is_accepted l w e ≡ true → is_entry t e ≡ false → p e ≡ false
    → how_many p (due t (e ∷ w)) ≡ how_many p (due t w)
count_kept l w e t p a n none = due_kept l w e t (λ ds. how_many p ds) a n (λ ds. rw none refl)

-- an event that comes next is the first of it
pub due_next : (l : Limits) (w : List WorldEvent) (e : WorldEvent) (t : ℕ) → IsNext l w e
    → is_of_single e ≡ false
    → is_entry t e ≡ false → actor w e ≡ t → due t w ≡ e ∷ due t (e ∷ w)
due_next l w e t next s n mine =
    let f : IsFirstDue t w e = subst (λ v. IsFirstDue v w e) mine (first_is l w e next s) in
    f.is ∙ ap (λ ds. e ∷ ds)
    (sym (due_own t e w n (eq-eqb (actor w e) t mine) s ∙ ap (λ ds. drop 1 ds) f.is))

-- ---- ends

-- who is on its way to its end begins nothing any more
pub ends_never_idle : (l : Limits) (t : ℕ) (w : List WorldEvent) → is_legal_world l w ≡ true
    → ends_act (last_entry t w) ≡ true → is_idle t w ≡ false
ends_never_idle l t w k q =
    false_from_ne_true (is_idle t w) (λ i.
    let n = nothing_due t w i in
    true≢false (sym ((leaving l t w k q).over n.0).0 ∙ n.1))

entry_is_idle : (l : Limits) (w : List WorldEvent) (t : ℕ) (e : WorldEvent) → is_accepted l w e ≡ true
    → is_plain e ≡ true → is_entry t e ≡ true → is_idle t w ≡ true
entry_is_idle l w t (Begin u b) a p n =
    subst (λ v. is_idle v w ≡ true) (eqb-true u t n) (idle_in_act l w u (Beginning b) a)
entry_is_idle l w t (Refuse u b x) a p n = absurd (false≢true p)
entry_is_idle l w t (Fail u x) a p n = absurd (false≢true p)
entry_is_idle l w t (Phaser m s) a p n = absurd (false≢true n)
entry_is_idle l w t (Finish f s) a p n = absurd (false≢true n)

-- and stays on it
pub ends_stays : (l : Limits) (t : ℕ) (e : WorldEvent) (w : List WorldEvent) → IsPlain l (e ∷ w)
    → ends_act (last_entry t w) ≡ true → ends_act (last_entry t (e ∷ w)) ≡ true
ends_stays l t e w k q =
    let f = last_of_plain l e w k in
    elim (cases_Bool (is_entry t e)) [
      | inl n ↦
          absurd (true≢false (sym (entry_is_idle l w t e f.accepted f.plain n)
          ∙ ends_never_idle l t w f.before.legal q))
      | inr n ↦ subst (λ o. ends_act o ≡ true) (sym (last_plain t e w n)) q
    ]

by_entry : (t : ℕ) (e : WorldEvent) → is_plain e ≡ true → is_entry t e ≡ true
    → leaves_act (Some e) ≡ true → ends_act (Some e) ≡ true
by_entry t (Begin u End) p n q = refl
by_entry t (Begin u Next) p n q = absurd (false≢true q)
by_entry t (Begin u (Async c ps)) p n q = absurd (false≢true q)
by_entry t (Begin u b) p n q = absurd (false≢true p)
by_entry t (Refuse u b x) p n q = absurd (false≢true p)
by_entry t (Fail u x) p n q = absurd (false≢true p)
by_entry t (Phaser m s) p n q = absurd (false≢true n)
by_entry t (Finish f s) p n q = absurd (false≢true n)

-- what holds of each entry holds of the last
pub by_last : (p q : Option WorldEvent → Bool) (t : ℕ) → p None ≡ false
    → ((e : WorldEvent) → is_plain e ≡ true → is_entry t e ≡ true → p (Some e) ≡ true → q (Some e) ≡ true)
    → (w : List WorldEvent) → list_all is_plain w ≡ true → p (last_entry t w) ≡ true
    → q (last_entry t w) ≡ true
by_last p q t none each [] k h = absurd (true≢false (sym h ∙ none))
by_last p q t none each (e ∷ w) k h =
    let a = and_parts (is_plain e) (list_all is_plain w) k in
    (elim (cases_Bool (is_entry t e)) as (λ x. p (last_entry t (e ∷ w)) ≡ true
    → q (last_entry t (e ∷ w)) ≡ true) [
      | inl n ↦ rw n (λ r. each e a.0 n r)
      | inr n ↦ rw n (λ r. by_last p q t none each w a.1 r)
    ]) h

-- nobody shuts a finish of its own, so who leaves phasers ends
pub leaves_to_end : (t : ℕ) (w : List WorldEvent) → list_all is_plain w ≡ true
    → leaves_act (last_entry t w) ≡ true → ends_act (last_entry t w) ≡ true
leaves_to_end t w k q = by_last (λ o. leaves_act o) (λ o. ends_act o) t refl (by_entry t) w k q

-- ---- the root spawns all

pub spawner_is_root : (c : ℕ) (w : List WorldEvent) → list_all is_plain w ≡ true → spawner c w ≡ 0
spawner_is_root c [] k = refl
spawner_is_root c (Begin u (Async x ps) ∷ w) k =
    let p = and_parts (u == 0) (list_all is_plain w) k in
    elim (cases_Bool (x == c)) [
      | inl e ↦ rw e (eqb-true u 0 p.0)
      | inr e ↦ rw e (spawner_is_root c w p.1)
    ]
spawner_is_root c (e ∷ w) k = spawner_is_root c w (and_parts (is_plain e) (list_all is_plain w) k).1

-- and takes no turn
pub root_turns : (w : List WorldEvent) → list_all is_plain w ≡ true → turns 0 w ≡ 0
root_turns [] k = refl
root_turns (Begin u Next ∷ w) k =
    let p = and_parts (not (u == 0)) (list_all is_plain w) k in
    rw (not-true (u == 0) p.0) (root_turns w p.1)
root_turns (e ∷ w) k = root_turns w (and_parts (is_plain e) (list_all is_plain w) k).1

-- ---- numbers

pub flipped : (a b : ℕ) → (a == b) ≡ false → (b == a) ≡ false
flipped a b h = false_from_ne_true (b == a) (λ e. true≢false (sym (eq-eqb a b (sym (eqb-true b a e))) ∙ h))
