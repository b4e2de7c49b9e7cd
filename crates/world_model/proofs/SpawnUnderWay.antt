-- A spawn under way: whose it is, what is due in it, and that its child isn't born.
use Rattle.phase_modes.specs.Lists.{is_empty}
use Rattle.std.proofs.Common.{◌≡◌, ℕ, Bool, true, false, ◌&&◌, ◌||◌, ◌==◌, not, List, [], ◌∷◌, ◌++◌, map, Option, Some, refl, sym, subst, ◌∙◌, inl, inr}
use Rattle.std.specs.Prelude.{drop}
use Rattle.std.specs.List.{list_any}
use Rattle.std.proofs.lemmas.Bool.{and_parts, or_cases, or_right, cases_Bool, eqb-true, true≢false}
use Rattle.phase_modes.specs.declared.limits.Limits.{Limits}
use Rattle.phase_modes.specs.declared.phased.Pair.{Pair}
use Rattle.finish_core.specs.declared.event.FinishEvent.TheVariants.{Spawned}
use Rattle.world_model.specs.declared.event.Step.TheVariants.{Reg}
use Rattle.world_model.specs.declared.event.Begun.TheVariants.{Async}
use Rattle.world_model.specs.declared.event.WorldEvent.{WorldEvent}
use Rattle.world_model.specs.declared.event.WorldEvent.TheVariants.{Phaser, Finish, Begin, Refuse, Fail}
use Rattle.world_model.specs.declared.event.Tried.TheVariants.{Begun as Beginning}
use Rattle.world_model.specs.Scopes.{inner}
use Rattle.world_model.specs.Tasks.{spawner}
use Rattle.world_model.specs.Numbers.{names, is_named}
use Rattle.world_model.specs.Due.{due, fixed, fixed_by, is_entry}
use Rattle.world_model.specs.Replies.{is_legal_world, is_accepted}
use Rattle.world_model.specs.TaskConditions.{last_entry}
use Rattle.world_model.proofs.MadeMeans.{last_accepted}
use Rattle.world_model.proofs.AbleComputed.{act_now}
use Rattle.world_model.proofs.DueHolds.{due_has}
use Rattle.world_model.proofs.SmallWords.{eq_self}

abbrev pub is_reg_of : ℕ → ℕ → WorldEvent → Bool
is_reg_of q c (Phaser n (Reg r u m)) = r == q && u == c
is_reg_of q c _ = false

abbrev pub is_spawn_of : ℕ → WorldEvent → Bool
is_spawn_of c (Finish f (Spawned u)) = u == c
is_spawn_of c _ = false

-- a registration or the spawn of c
abbrev pub is_child_event : ℕ → WorldEvent → Bool
is_child_event c (Finish f (Spawned u)) = u == c
is_child_event c (Phaser n (Reg r u m)) = u == c
is_child_event c _ = false

-- registrations of c by q, and at the end its spawn
abbrev pub is_spawn_list : ℕ → ℕ → List WorldEvent → Bool
is_spawn_list q c [] = true
is_spawn_list q c (d ∷ ds) =
    ((is_reg_of q c d && not (is_empty ds)) || (is_spawn_of c d && is_empty ds)) && is_spawn_list q c ds

-- the entry begins to spawn c
abbrev pub begins_spawn : ℕ → Option WorldEvent → Bool
begins_spawn c (Some (Begin u (Async x ps))) = x == c
begins_spawn c _ = false

regs_list : (q c f : ℕ) (ps : List Pair)
    → is_spawn_list q c (map (λ p. Phaser p.phaser (Reg q c p.mode)) ps ++ Finish f (Spawned c) ∷ []) ≡ true
regs_list q c f [] = rw (eq_self c) refl
regs_list q c f (p ∷ ps) =
    rw (eq_self q, eq_self c, more (map (λ x. Phaser x.phaser (Reg q c x.mode)) ps) (Finish f (Spawned c)))
    (regs_list q c f ps)
  where
    more : (xs : List WorldEvent) (y : WorldEvent) → is_empty (xs ++ y ∷ []) ≡ false
    more [] y = refl
    more (x ∷ xs) y = refl

drop_list : (q c : ℕ) (ds : List WorldEvent) → is_spawn_list q c ds ≡ true
    → is_spawn_list q c (drop 1 ds) ≡ true
drop_list q c [] k = refl
drop_list q c (d ∷ ds) k =
    (and_parts ((is_reg_of q c d && not (is_empty ds)) || (is_spawn_of c d && is_empty ds))
    (is_spawn_list q c ds) k).1

entry_list : (q c : ℕ) (e : WorldEvent) (w : List WorldEvent) → is_entry q e ≡ true
    → begins_spawn c (Some e) ≡ true → is_spawn_list q c (fixed e w) ≡ true
entry_list q c (Begin u (Async x ps)) w e k =
    subst (λ v. is_spawn_list v c (fixed_by u (Async x ps) w) ≡ true) (eqb-true u q e)
    (subst (λ v. is_spawn_list u v (fixed_by u (Async x ps) w) ≡ true) (eqb-true x c k)
    (regs_list u x (inner u w) ps))
entry_list q c (Begin u b) w e k = absurd cc
entry_list q c (Refuse u a x) w e k = absurd cc
entry_list q c (Fail u x) w e k = absurd cc
entry_list q c (Phaser m s) w e k = absurd cc
entry_list q c (Finish f s) w e k = absurd cc

-- what is due in a spawn
pub spawn_due : (l : Limits) (q c : ℕ) (w : List WorldEvent) → is_legal_world l w ≡ true
    → begins_spawn c (last_entry q w) ≡ true → is_spawn_list q c (due q w) ≡ true
spawn_due l q c w k s =
    due_has l q (begins_spawn c) (λ ds. is_spawn_list q c ds ≡ true) refl (drop_list q c)
    (λ e v h x y. entry_list q c e v x y) w k s

-- an act that begins to spawn c finds its number free
pub names_fresh : (l : Limits) (w : List WorldEvent) (u c : ℕ) (ps : List Pair)
    → is_accepted l w (Begin u (Async c ps)) ≡ true → is_named c w ≡ false
names_fresh l w u c ps k =
    (act_now l w u (Beginning (Async c ps)) k).1

-- a spawn under way has named its child, for its own task
abbrev pub IsNamedBy : ℕ → ℕ → List WorldEvent → Type 0
IsNamedBy q c w = (is_named c w ≡ true) × (spawner c w ≡ q)

pub named_later : (c : ℕ) (e : WorldEvent) (w : List WorldEvent) → is_named c w ≡ true
    → is_named c (e ∷ w) ≡ true
named_later c e w k =
    elim (or_cases (c == 0) (list_any (names c) w) k) [
      | inl z ↦ rw z refl
      | inr z ↦
          or_right (c == 0) (names c e || list_any (names c) w)
          (or_right (names c e) (list_any (names c) w) z)
    ]

-- a later spawn is of another child
pub spawner_later : (l : Limits) (c : ℕ) (e : WorldEvent) (w : List WorldEvent) → is_accepted l w e ≡ true
    → is_named c w ≡ true → spawner c (e ∷ w) ≡ spawner c w
spawner_later l c (Begin u (Async x ps)) w a k =
    elim (cases_Bool (x == c)) [
      | inl z ↦
          absurd (true≢false
          (sym (subst (λ v. is_named v w ≡ true) (sym (eqb-true x c z)) k) ∙ names_fresh l w u x ps a))
      | inr z ↦ rw z refl
    ]
spawner_later l c (Begin u b) w a k = refl
spawner_later l c (Refuse u b n) w a k = refl
spawner_later l c (Fail u n) w a k = refl
spawner_later l c (Phaser n s) w a k = refl
spawner_later l c (Finish f s) w a k = refl

named_now : (q c : ℕ) (e : WorldEvent) (w : List WorldEvent) → is_entry q e ≡ true
    → begins_spawn c (Some e) ≡ true → IsNamedBy q c (e ∷ w)
named_now q c (Begin u (Async x ps)) w e k =
    (or_right (c == 0) ((x == c) || list_any (names c) w) (rw k refl), rw k (eqb-true u q e))
named_now q c (Begin u b) w e k = absurd cc
named_now q c (Refuse u b n) w e k = absurd cc
named_now q c (Fail u n) w e k = absurd cc
named_now q c (Phaser n s) w e k = absurd cc
named_now q c (Finish f s) w e k = absurd cc

pub named_by_spawn : (l : Limits) (q c : ℕ) (w : List WorldEvent) → is_legal_world l w ≡ true
    → begins_spawn c (last_entry q w) ≡ true → IsNamedBy q c w
named_by_spawn l q c [] k s = absurd cc
named_by_spawn l q c (e ∷ w) k s =
    let a = last_accepted l e w k in
    (elim (cases_Bool (is_entry q e))
    as (λ x. begins_spawn c (last_entry q (e ∷ w)) ≡ true → IsNamedBy q c (e ∷ w)) [
      | inl n ↦ rw n (named_now q c e w n)
      | inr n ↦
          rw n (λ r.
          let before : IsNamedBy q c w = named_by_spawn l q c w a.1 r in
          (named_later c e w before.0, spawner_later l c e w a.0 before.0 ∙ before.1))
    ]) s
