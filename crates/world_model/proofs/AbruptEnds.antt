-- A task that was refused or has failed makes nothing more but its end,
-- and a child that is named is born or given up.
use Rattle.phase_modes.specs.Lists.{is_empty}
use Rattle.std.proofs.Common.{◌≡◌, ◌⊎◌, ℕ, Bool, true, false, ◌&&◌, ◌||◌, ◌==◌, not, cond, List, [], ◌∷◌, ◌++◌, map, Some, refl, sym, subst, ◌∙◌, inl, inr}
use Rattle.std.specs.Prelude.{drop, flat_map}
use Rattle.std.specs.List.{list_any}
use Rattle.std.proofs.lemmas.Bool.{and_parts, and_from, or_cases, or_from, or_parts, or_right, or_left, cases_Bool, eqb-true, true≢false, not-true}
use Rattle.phase_modes.specs.declared.limits.Limits.{Limits}
use Rattle.finish_core.specs.declared.event.FinishEvent.TheVariants.{Opened, Spawned, Ended, Shut as Shutting}
use Rattle.world_model.specs.declared.event.Step.TheVariants.{Make, Reg, Send, Look}
use Rattle.world_model.specs.declared.event.Begun.TheVariants.{Async}
use Rattle.world_model.specs.declared.event.Tried.TheVariants.{Begun as Beginning, New, Open, Send as Sending, Look as Looking}
use Rattle.world_model.specs.declared.event.WorldEvent.{WorldEvent}
use Rattle.world_model.specs.declared.event.WorldEvent.TheVariants.{Phaser, Finish, Begin, Refuse, Fail}
use Rattle.world_model.specs.Tasks.{home, is_born, is_ended, ends, spawner, spawns}
use Rattle.world_model.specs.Scopes.{open_finishes, inner}
use Rattle.world_model.specs.Numbers.{names, is_named}
use Rattle.world_model.specs.Actors.{actor}
use Rattle.world_model.specs.Due.{due, fixed, ending, drops_due, unborn, is_entry, is_of_single, is_idle, or_single}
use Rattle.world_model.specs.Replies.{is_legal_world, is_accepted}
use Rattle.world_model.specs.TaskConditions.{last_entry}
use Rattle.world_model.specs.ClockLaws.{leads_to_end}
use Rattle.world_model.proofs.MadeMeans.{last_accepted, part_made, IsNext}
use Rattle.world_model.proofs.AbleComputed.{idle_in_act}
use Rattle.world_model.proofs.DueHolds.{due_has}
use Rattle.world_model.proofs.NextIsDue.{First, first_due}
use Rattle.world_model.proofs.SpawnUnderWay.{begins_spawn, is_reg_of, is_spawn_of, is_spawn_list, spawn_due, spawner_later}
use Rattle.world_model.proofs.SmallWords.{eq_self}

-- the last of them, if there is one, is t's end
abbrev pub is_end_list : ℕ → List WorldEvent → Bool
is_end_list t [] = true
is_end_list t (d ∷ ds) = (not (is_empty ds) || ends t d) && is_end_list t ds

not_empty : (xs : List WorldEvent) (y : WorldEvent) (ys : List WorldEvent) → is_empty (xs ++ y ∷ ys) ≡ false
not_empty [] y ys = refl
not_empty (x ∷ xs) y ys = refl

end_append : (t : ℕ) (xs : List WorldEvent) (y : WorldEvent) (ys : List WorldEvent)
    → is_end_list t (y ∷ ys) ≡ true → is_end_list t (xs ++ y ∷ ys) ≡ true
end_append t [] y ys k = k
end_append t (x ∷ xs) y ys k = rw (not_empty xs y ys) (end_append t xs y ys k)

drop_end : (t : ℕ) (ds : List WorldEvent) → is_end_list t ds ≡ true → is_end_list t (drop 1 ds) ≡ true
drop_end t [] k = refl
drop_end t (d ∷ ds) k = (and_parts (not (is_empty ds) || ends t d) (is_end_list t ds) k).1

abbrev last_of : ℕ → List WorldEvent → WorldEvent
last_of t w = cond (t == 0) (Finish 0 Shutting) (Finish (home t w) (Ended t))

one_end : (t f : ℕ) (b : Bool) → (t == 0) ≡ b
    → is_end_list t (cond b (Finish 0 Shutting) (Finish f (Ended t)) ∷ []) ≡ true
one_end t f true e = rw e refl
one_end t f false e = rw (eq_self t) refl

ending_list : (t : ℕ) (w : List WorldEvent) → is_end_list t (ending t w) ≡ true
ending_list t w =
    end_append t (drops_due t w ++ map (λ f. Finish f Shutting) (open_finishes t w)) (last_of t w) []
    (one_end t (home t w) (t == 0) refl)

-- what an end's list has before it changes nothing
before_end : (t : ℕ) (xs ys : List WorldEvent) → is_empty ys ≡ false → is_end_list t ys ≡ true
    → is_end_list t (xs ++ ys) ≡ true
before_end t xs [] n k = absurd cc
before_end t xs (y ∷ ys) n k = end_append t xs y ys k

pub ending_full : (t : ℕ) (w : List WorldEvent) → is_empty (ending t w) ≡ false
ending_full t w =
    not_empty (drops_due t w ++ map (λ f. Finish f Shutting) (open_finishes t w)) (last_of t w) []

pub full_before : (xs ys : List WorldEvent) → is_empty ys ≡ false → is_empty (xs ++ ys) ≡ false
full_before [] ys n = n
full_before (x ∷ xs) ys n = refl

abbrev IsEndFixed : ℕ → List WorldEvent → Type 0
IsEndFixed t ds = (is_end_list t ds ≡ true) × (is_empty ds ≡ false)

entry_end : (t : ℕ) (e : WorldEvent) (w : List WorldEvent) → is_entry t e ≡ true
    → leads_to_end (Some e) ≡ true → IsEndFixed t (fixed e w)
entry_end t (Refuse u a n) w e k =
    subst (λ v. IsEndFixed v (ending u w)) (eqb-true u t e) (ending_list u w, ending_full u w)
entry_end t (Fail u n) w e k =
    let xs = flat_map (λ x. drops_due x w) (unborn u w) in
    subst (λ v. IsEndFixed v (xs ++ ending u w)) (eqb-true u t e) (
      before_end u xs (ending u w)
          (ending_full u w) (ending_list u w),
      full_before xs (ending u w) (ending_full u w),
    )
entry_end t (Begin u b) w e k = absurd cc
entry_end t (Phaser n s) w e k = absurd cc
entry_end t (Finish f s) w e k = absurd cc

end_due : (l : Limits) (t : ℕ) (w : List WorldEvent) → is_legal_world l w ≡ true
    → leads_to_end (last_entry t w) ≡ true → is_end_list t (due t w) ≡ true
end_due l t w k s =
    due_has l t leads_to_end (λ ds. is_end_list t ds ≡ true) refl (drop_end t)
    (λ e v h x y. (entry_end t e v x y).0) w k s

-- an act comes where nothing is due
idle_parts : (b e d : Bool) → (b && not e && d) ≡ true → (d ≡ true) × (e ≡ false)
idle_parts true false true k = (refl, refl)
idle_parts true false false k = absurd cc
idle_parts true true d k = absurd cc
idle_parts false e d k = absurd cc

pub nothing_due : (t : ℕ) (w : List WorldEvent) → is_idle t w ≡ true
    → (is_empty (due t w) ≡ true) × (is_ended t w ≡ false)
nothing_due t w k = idle_parts (is_born t w) (is_ended t w) (is_empty (due t w)) k

-- a task's event in the middle of an act continues it, if it is no entry
pub continues : (l : Limits) (w : List WorldEvent) (e : WorldEvent) → is_accepted l w e ≡ true
    → is_entry (actor w e) e ≡ false → is_empty (due (actor w e) w) ≡ false → IsNext l w e
continues l w (Phaser n (Make t m terms)) a n' d =
    absurd (true≢false (sym (nothing_due t w (idle_in_act l w t (New n m terms) a)).0 ∙ d))
continues l w (Phaser n (Send t c v)) a n' d =
    absurd (true≢false (sym (nothing_due t w (idle_in_act l w t (Sending n c v) a)).0 ∙ d))
continues l w (Phaser n (Look t c)) a n' d =
    absurd (true≢false (sym (nothing_due t w (idle_in_act l w t (Looking n c) a)).0 ∙ d))
continues l w (Finish f (Opened t)) a n' d =
    absurd (true≢false (sym (nothing_due t w (idle_in_act l w t (Open f) a)).0 ∙ d))
continues l w (Begin t b) a n' d = absurd (true≢false (sym (eq_self t) ∙ n'))
continues l w (Refuse t b n) a n' d = absurd (true≢false (sym (eq_self t) ∙ n'))
continues l w (Fail t n) a n' d = absurd (true≢false (sym (eq_self t) ∙ n'))
continues l w (Phaser n s) a n' d = (part_made l w (Phaser n s) a).0
continues l w (Finish f s) a n' d = (part_made l w (Finish f s) a).0

ends_stands : (l : Limits) (w : List WorldEvent) (t : ℕ) (d e : WorldEvent) → ends t d ≡ true
    → or_single l w d ≡ e → ends t e ≡ true
ends_stands l w t (Finish f s) e k o = subst (λ x. ends t x ≡ true) o k
ends_stands l w t d e k o = absurd cc

pub later_ended : (t : ℕ) (e : WorldEvent) (w : List WorldEvent) → is_ended t w ≡ true
    → is_ended t (e ∷ w) ≡ true
later_ended t e w k = or_right (ends t e) (is_ended t w) k

must_be : (b : Bool) (ds : List WorldEvent) → is_empty (cond b (drop 1 ds) ds) ≡ true
    → is_empty ds ≡ false → b ≡ true
must_be true ds k n = refl
must_be false ds k n = absurd (true≢false (sym k ∙ n))

-- a task whose last entry leads to its end has ended once nothing is due
pub ended_after : (l : Limits) (t : ℕ) (w : List WorldEvent) → is_legal_world l w ≡ true
    → leads_to_end (last_entry t w) ≡ true → is_empty (due t w) ≡ true → is_ended t w ≡ true
ended_after l t [] k s d = absurd cc
ended_after l t (e ∷ w) k s d =
    let a = last_accepted l e w k in
    (elim (cases_Bool (is_entry t e)) as (λ x. leads_to_end (last_entry t (e ∷ w)) ≡ true
    → is_empty (due t (e ∷ w)) ≡ true → is_ended t (e ∷ w) ≡ true) [
      | inl n ↦ rw n (λ r f. absurd (true≢false (sym f ∙ (entry_end t e w n r).1)))
      | inr n ↦
          rw n (λ r f.
          elim (cases_Bool (is_empty (due t w))) [
            | inl none ↦ later_ended t e w (ended_after l t w a.1 r none)
            | inr some ↦ or_left (ends t e) (is_ended t w) (by_end a.0 a.1 n r some f)
          ])
    ]) s d
  where
    last_ends : (x y : Bool) → (not x || y) ≡ true → x ≡ true → y ≡ true
    last_ends true y h g = h
    last_ends false y h g = absurd cc

    by_end : is_accepted l w e ≡ true → is_legal_world l w ≡ true → is_entry t e ≡ false
        → leads_to_end (last_entry t w) ≡ true → is_empty (due t w) ≡ false
        → is_empty (cond (actor w e == t && not (is_of_single e)) (drop 1 (due t w)) (due t w))
        ≡ true → ends t e ≡ true
    by_end a kw n r some f =
        let b =
        and_parts (actor w e == t) (not (is_of_single e))
        (must_be (actor w e == t && not (is_of_single e)) (due t w) f some) in
        let mine : actor w e ≡ t = eqb-true (actor w e) t b.0 in
        let next : IsNext l w e =
        continues l w e a (subst (λ v. is_entry v e ≡ false) (sym mine) n)
        (subst (λ v. is_empty (due v w) ≡ false) (sym mine) some) in
        let first : First l w (due t w) e = subst (λ v. First l w (due v w) e) mine (first_due l w e next) in
        let shape : is_end_list t (first.due ∷ first.rest) ≡ true =
        subst (λ ds. is_end_list t ds ≡ true) first.is (end_due l t w kw r) in
        let gone : is_empty first.rest ≡ true =
        subst (λ c. is_empty (cond c first.rest (first.due ∷ first.rest)) ≡ true)
        (and_from (actor w e == t) (not (is_of_single e)) b.0 b.1)
        (subst (λ ds. is_empty (cond (actor w e == t && not (is_of_single e)) (drop 1 ds) ds) ≡ true)
        first.is f) in
        ends_stands l w t first.due e (last_ends (is_empty first.rest) (ends t first.due)
        (and_parts (not (is_empty first.rest) || ends t first.due) (is_end_list t first.rest) shape).0
        gone) first.stands

-- an entry that is no failure comes where nothing is due
entry_idle : (l : Limits) (w : List WorldEvent) (t : ℕ) (e : WorldEvent) → is_accepted l w e ≡ true
    → is_entry t e ≡ true → leads_to_end (Some e) ≡ false → is_idle t w ≡ true
entry_idle l w t (Begin u b) a n s =
    subst (λ v. is_idle v w ≡ true) (eqb-true u t n) (idle_in_act l w u (Beginning b) a)
entry_idle l w t (Refuse u b x) a n s = absurd cc
entry_idle l w t (Fail u x) a n s = absurd cc
entry_idle l w t (Phaser m r) a n s = absurd cc
entry_idle l w t (Finish f r) a n s = absurd cc

abbrev pub IsHalfSpawned : ℕ → ℕ → List WorldEvent → Type 0
IsHalfSpawned q c w =
    ((begins_spawn c (last_entry q w) ≡ true) × (is_empty (due q w) ≡ false))
    ⊎ (leads_to_end (last_entry q w) ≡ true)

module _ (l : Limits) (q c : ℕ) (e : WorldEvent) (w : List WorldEvent) (k : is_legal_world l w ≡ true)
    (a : is_accepted l w e ≡ true) (unborn_after : is_born c (e ∷ w) ≡ false) where
  after_entry : is_entry q e ≡ true → IsHalfSpawned q c w → IsHalfSpawned q c (e ∷ w)
  after_entry n h =
      elim (cases_Bool (leads_to_end (Some e))) [
        | inl s ↦ inr (rw n s)
        | inr s ↦
            let idle = nothing_due q w (entry_idle l w q e a n s) in
            elim h [
              | inl b ↦ absurd (true≢false (sym idle.0 ∙ b.1))
              | inr b ↦ absurd (true≢false (sym (ended_after l q w k b idle.0) ∙ idle.1))
            ]
      ]

  -- what is left of a spawn after one of its events
  left : begins_spawn c (last_entry q w) ≡ true → is_empty (due q w) ≡ false → is_entry q e ≡ false
      → (b : Bool) → (actor w e == q && not (is_of_single e)) ≡ b
      → is_empty (cond b (drop 1 (due q w)) (due q w)) ≡ false
  left s some n false m = some
  left s some n true m =
      let mine : actor w e ≡ q =
      eqb-true (actor w e) q (and_parts (actor w e == q) (not (is_of_single e)) m).0 in
      let next : IsNext l w e =
      continues l w e a (subst (λ v. is_entry v e ≡ false) (sym mine) n)
      (subst (λ v. is_empty (due v w) ≡ false) (sym mine) some) in
      let first : First l w (due q w) e = subst (λ v. First l w (due v w) e) mine (first_due l w e next) in
      let shape : is_spawn_list q c (first.due ∷ first.rest) ≡ true =
      subst (λ ds. is_spawn_list q c ds ≡ true) first.is (spawn_due l q c w k s) in
      subst (λ ds. is_empty (drop 1 ds) ≡ false) (sym first.is)
      (more first.due first.rest first.stands
      (and_parts ((is_reg_of q c first.due && not (is_empty first.rest))
      || (is_spawn_of c first.due && is_empty first.rest)) (is_spawn_list q c first.rest) shape).0)
    where
      not_spawned : (d : WorldEvent) → or_single l w d ≡ e → is_spawn_of c d ≡ true → ⊥
      not_spawned (Finish f (Spawned u)) o h =
          true≢false (sym (or_right (c == 0) (spawns c e || list_any (spawns c) w) (or_left (spawns c e)
          (list_any (spawns c) w) (subst (λ x. spawns c x ≡ true) o h))) ∙ unborn_after)
      not_spawned d o h = absurd cc

      more : (d : WorldEvent) (rest : List WorldEvent) → or_single l w d ≡ e
          → ((is_reg_of q c d && not (is_empty rest)) || (is_spawn_of c d && is_empty rest)) ≡ true
          → is_empty rest ≡ false
      more d rest o h =
          elim (or_cases (is_reg_of q c d && not (is_empty rest)) (is_spawn_of c d && is_empty rest) h) [
            | inl x ↦ not-true (is_empty rest) (and_parts (is_reg_of q c d) (not (is_empty rest)) x).1
            | inr x ↦ absurd (not_spawned d o (and_parts (is_spawn_of c d) (is_empty rest) x).0)
          ]

  after_part : is_entry q e ≡ false → IsHalfSpawned q c w → IsHalfSpawned q c (e ∷ w)
  after_part n h =
      elim h [
        | inl b ↦ inl (rw n b.0, rw n (left b.0 b.1 n (actor w e == q && not (is_of_single e)) refl))
        | inr b ↦ inr (rw n b)
      ]

  still_half : IsHalfSpawned q c w → IsHalfSpawned q c (e ∷ w)
  still_half h = elim (cases_Bool (is_entry q e)) [ inl n ↦ after_entry n h | inr n ↦ after_part n h ]

-- a child that is named and not born: its spawn goes on, or was given up
pub half_spawned : (l : Limits) (c : ℕ) (w : List WorldEvent) → is_legal_world l w ≡ true
    → is_named c w ≡ true → is_born c w ≡ false → IsHalfSpawned (spawner c w) c w
half_spawned l c [] k n b = absurd (true≢false (sym n ∙ b))
half_spawned l c (e ∷ w) k n b =
    let a = last_accepted l e w k in
    elim (cases_Bool (is_named c w)) [
      | inl before ↦
          subst (λ q. IsHalfSpawned q c (e ∷ w)) (sym (spawner_later l c e w a.0 before))
          (still_half l (spawner c w) c e w a.1 a.0 b (half_spawned l c w a.1 before (unborn_before e b)))
      | inr fresh ↦ at_start e n b fresh
    ]
  where
    unborn_before : (d : WorldEvent) → is_born c (d ∷ w) ≡ false → is_born c w ≡ false
    unborn_before d h =
        let p = or_parts (c == 0) (spawns c d || list_any (spawns c) w) h in
        or_from (c == 0) (list_any (spawns c) w) p.0 (or_parts (spawns c d) (list_any (spawns c) w) p.1).1

    at_start : (d : WorldEvent) → is_named c (d ∷ w) ≡ true → is_born c (d ∷ w) ≡ false → is_named c w ≡ false
        → IsHalfSpawned (spawner c (d ∷ w)) c (d ∷ w)
    at_start (Begin u (Async x ps)) h g f =
        elim (cases_Bool (x == c)) [
          | inl e ↦
              rw (e, eq_self u) (inl (
                e,
                full_before (map (λ p. Phaser p.phaser (Reg u x p.mode)) ps)
                    (Finish (inner u w) (Spawned x) ∷ []) refl,
              ))
          | inr e ↦
              absurd
              (true≢false (sym (subst (λ y. ((c == 0) || (y || list_any (names c) w)) ≡ true) e h) ∙ f))
        ]
    at_start (Begin u y) h g f = absurd (true≢false (sym h ∙ f))
    at_start (Refuse u y z) h g f = absurd (true≢false (sym h ∙ f))
    at_start (Fail u y) h g f = absurd (true≢false (sym h ∙ f))
    at_start (Phaser m y) h g f = absurd (true≢false (sym h ∙ f))
    at_start (Finish m y) h g f = absurd (true≢false (sym h ∙ f))
