-- A child is born in the act that named it, and not before its end.
use Rattle.phase_modes.specs.Lists.{is_empty}
use Rattle.std.proofs.Common.{◌≡◌, ℕ, Bool, true, false, ◌&&◌, ◌||◌, ◌==◌, not, cond, List, [], ◌∷◌, Some, refl, sym, subst, ap, ◌∙◌, inl, inr}
use Rattle.std.specs.Prelude.{drop}
use Rattle.std.specs.List.{list_any}
use Rattle.std.proofs.lemmas.Bool.{and_parts, or_cases, or_from, or_parts, cases_Bool, eqb-true, eq-eqb, true≢false, false_from_ne_true}
use Rattle.phase_modes.specs.declared.reg.Mode.{Mode}
use Rattle.phase_modes.specs.declared.limits.Limits.{Limits}
use Rattle.phase_model.specs.declared.history.Event.TheVariants.{Claim as Claimed, Did as Done}
use Rattle.phase_model.specs.Rules.{is_permitted}
use Rattle.finish_core.specs.declared.event.FinishEvent.{FinishEvent}
use Rattle.finish_core.specs.declared.event.FinishEvent.TheVariants.{Spawned}
use Rattle.world_model.specs.declared.event.Step.{Step}
use Rattle.world_model.specs.declared.event.Step.TheVariants.{Reg, Claim, Did, Pass}
use Rattle.world_model.specs.declared.event.Begun.TheVariants.{Async}
use Rattle.world_model.specs.declared.event.WorldEvent.{WorldEvent}
use Rattle.world_model.specs.declared.event.WorldEvent.TheVariants.{Phaser, Finish, Begin, Refuse, Fail}
use Rattle.world_model.specs.Parts.{terms_of, phaser_past}
use Rattle.world_model.specs.Tasks.{spawner, spawns, is_born}
use Rattle.world_model.specs.Numbers.{is_named}
use Rattle.world_model.specs.Actors.{actor}
use Rattle.world_model.specs.Due.{due, is_entry, is_of_single, or_single}
use Rattle.world_model.specs.Replies.{is_legal_world, is_accepted}
use Rattle.world_model.specs.TaskConditions.{last_entry}
use Rattle.world_model.proofs.MadeMeans.{last_accepted, part_made}
use Rattle.world_model.proofs.NextIsDue.{First, first_due, childless}
use Rattle.world_model.proofs.SpawnUnderWay.{begins_spawn, is_child_event, is_spawn_list, spawn_due, named_by_spawn, named_later, names_fresh}
use Rattle.world_model.proofs.SmallWords.{empty_is, eq_self}

no_finish : (b c : Bool) (n f : ℕ) (s r u : Step) (e : FinishEvent)
    → cond b (Phaser n s) (cond c (Phaser n r) (Phaser n u)) ≡ Finish f e → ⊥
no_finish true c n f s r u e k = absurd cc
no_finish false true n f s r u e k = absurd cc
no_finish false false n f s r u e k = absurd cc

-- where the event to come is a finish's, it is what is due
pub finish_due : (l : Limits) (w : List WorldEvent) (d : WorldEvent) (f : ℕ) (e : FinishEvent)
    → or_single l w d ≡ Finish f e → d ≡ Finish f e
finish_due l w (Phaser n (Pass t)) f e k =
    absurd (no_finish (is_permitted l (terms_of n w) (phaser_past n w) (Claimed t))
    (is_permitted l (terms_of n w) (phaser_past n w) (Done t)) n f (Claim t) (Did t) (Pass t) e k)
finish_due l w d f e k = k

abbrev pub IsBirth : ℕ → ℕ → List WorldEvent → Type 0
IsBirth f c w =
    (begins_spawn c (last_entry (spawner c w) w) ≡ true) × (due (spawner c w) w ≡ Finish f (Spawned c) ∷ [])

-- a birth ends the act that named the child
pub birth : (l : Limits) (w : List WorldEvent) (f c : ℕ) → is_legal_world l w ≡ true
    → is_accepted l w (Finish f (Spawned c)) ≡ true → IsBirth f c w
birth l w f c k a =
    let q = spawner c w in
    let e = Finish f (Spawned c) in
    let first : First l w (due q w) e = first_due l w e (part_made l w e a).0 in
    let here : due q w ≡ e ∷ first.rest =
    subst (λ d. due q w ≡ d ∷ first.rest)
    (finish_due l w first.due f (Spawned c) first.stands) first.is in
    let begun : begins_spawn c (last_entry q w) ≡ true =
    elim (cases_Bool (begins_spawn c (last_entry q w))) [
      | inl b ↦ b
      | inr b ↦
          absurd (true≢false (sym (eq_self c) ∙ (or_parts (c == c) (list_any (is_child_event c) first.rest)
          (subst (λ ds. list_any (is_child_event c) ds ≡ false) here
          (childless l c q w k (ap (λ x. not x) b)))).0))
    ] in
    let shape : is_spawn_list q c (e ∷ first.rest) ≡ true =
    subst (λ ds. is_spawn_list q c ds ≡ true) here (spawn_due l q c w k begun) in
    let alone =
    and_parts (c == c) (is_empty first.rest)
    (and_parts ((c == c) && is_empty first.rest) (is_spawn_list q c first.rest) shape).0 in
    (begun, here ∙ ap (λ ds. e ∷ ds) (empty_is first.rest alone.1))

-- a task that was born was named
pub born_named : (l : Limits) (c : ℕ) (w : List WorldEvent) → is_legal_world l w ≡ true → is_born c w ≡ true
    → is_named c w ≡ true
born_named l c [] k b = b
born_named l c (e ∷ w) k b =
    let a = last_accepted l e w k in
    elim (or_cases (spawns c e) (is_born c w) (swap (c == 0) (spawns c e) (list_any (spawns c) w) b)) [
      | inl s ↦ by_birth e a.0 s
      | inr o ↦ named_later c e w (born_named l c w a.1 o)
    ]
  where
    swap : (x y z : Bool) → (x || (y || z)) ≡ true → (y || (x || z)) ≡ true
    swap true true z h = refl
    swap true false z h = refl
    swap false y z h = h

    by_birth : (d : WorldEvent) → is_accepted l w d ≡ true → spawns c d ≡ true → is_named c (d ∷ w) ≡ true
    by_birth (Finish f (Spawned u)) h s =
        let same : u ≡ c = eqb-true u c s in
        let bb =
        birth l w f c (last_accepted l e w k).1
        (subst (λ v. is_accepted l w (Finish f (Spawned v)) ≡ true) same h) in
        named_later c (Finish f (Spawned u)) w
        (named_by_spawn l (spawner c w) c w (last_accepted l e w k).1 bb.0).0
    by_birth d h s = absurd cc

not_born : (l : Limits) (c : ℕ) (w : List WorldEvent) → is_legal_world l w ≡ true → is_named c w ≡ false
    → is_born c w ≡ false
not_born l c w k n =
    false_from_ne_true (is_born c w) (λ b. absurd (true≢false (sym (born_named l c w k b) ∙ n)))

full_before : (b : Bool) (ds : List WorldEvent) → is_empty (cond b (drop 1 ds) ds) ≡ false
    → is_empty ds ≡ false
full_before true [] k = absurd cc
full_before true (x ∷ xs) k = refl
full_before false ds k = k

-- where the act that begins to spawn c is entered, c isn't born
entry_unborn : (l : Limits) (q c : ℕ) (e : WorldEvent) (w : List WorldEvent) → is_legal_world l w ≡ true
    → is_accepted l w e ≡ true → is_entry q e ≡ true → begins_spawn c (Some e) ≡ true
    → is_born c (e ∷ w) ≡ false
entry_unborn l q c (Begin u (Async x ps)) w k a n s =
    subst (λ v. is_born v w ≡ false) (eqb-true x c s) (not_born l x w k (names_fresh l w u x ps a))
entry_unborn l q c (Begin u b) w k a n s = absurd cc
entry_unborn l q c (Refuse u b x) w k a n s = absurd cc
entry_unborn l q c (Fail u x) w k a n s = absurd cc
entry_unborn l q c (Phaser m r) w k a n s = absurd cc
entry_unborn l q c (Finish f r) w k a n s = absurd cc

-- as long as something is due in it, the child isn't born
pub unborn_child : (l : Limits) (q c : ℕ) (w : List WorldEvent) → is_legal_world l w ≡ true
    → begins_spawn c (last_entry q w) ≡ true → is_empty (due q w) ≡ false → is_born c w ≡ false
unborn_child l q c [] k s d = absurd cc
unborn_child l q c (e ∷ w) k s d =
    let a = last_accepted l e w k in
    (elim (cases_Bool (is_entry q e)) as (λ x. begins_spawn c (last_entry q (e ∷ w)) ≡ true
    → is_empty (due q (e ∷ w)) ≡ false → is_born c (e ∷ w) ≡ false) [
      | inl n ↦ rw n (λ r f. entry_unborn l q c e w a.1 a.0 n r)
      | inr n ↦
          rw n (λ r f.
          let was : is_empty (due q w) ≡ false =
          full_before (actor w e == q && not (is_of_single e)) (due q w) f in
          let before : is_born c w ≡ false = unborn_child l q c w a.1 r was in
          let parts = or_parts (c == 0) (list_any (spawns c) w) before in
          or_from (c == 0) (spawns c e || list_any (spawns c) w) parts.0
          (or_from (spawns c e) (list_any (spawns c) w)
          (false_from_ne_true (spawns c e) (λ b. not_now e a.0 n r f b)) parts.1))
    ]) s d
  where
    gone : (u f : ℕ) → u ≡ c → is_accepted l w (Finish f (Spawned u)) ≡ true
        → begins_spawn c (last_entry q w) ≡ true
        → is_empty (cond (actor w (Finish f (Spawned u)) == q && true) (drop 1 (due q w)) (due q w)) ≡ false
        → ⊥
    gone u f same h r full =
        let kw = (last_accepted l e w k).1 in
        let mine : spawner c w ≡ q = (named_by_spawn l q c w kw r).1 in
        let bb = birth l w f c kw (subst (λ v. is_accepted l w (Finish f (Spawned v)) ≡ true) same h) in
        let here : due q w ≡ Finish f (Spawned c) ∷ [] =
        subst (λ v. due v w ≡ Finish f (Spawned c) ∷ []) mine bb.1 in
        let by : (spawner u w == q) ≡ true = eq-eqb (spawner u w) q (ap (λ v. spawner v w) same ∙ mine) in
        true≢false
        (sym (subst (λ ds. is_empty (cond (actor w (Finish f (Spawned u)) == q && true) (drop 1 ds) ds)
        ≡ true) (sym here) (rw by refl)) ∙ full)

    not_now : (d : WorldEvent) → is_accepted l w d ≡ true → is_entry q d ≡ false
        → begins_spawn c (last_entry q w) ≡ true
        → is_empty (cond (actor w d == q && not (is_of_single d)) (drop 1 (due q w)) (due q w)) ≡ false
        → spawns c d ≡ true → ⊥
    not_now (Finish f (Spawned u)) h n r full b = gone u f (eqb-true u c b) h r full
    not_now d h n r full b = absurd cc

no_reg : (b c : Bool) (n m : ℕ) (s r u v : Step) → (s ≡ v → ⊥) → (r ≡ v → ⊥) → (u ≡ v → ⊥)
    → cond b (Phaser n s) (cond c (Phaser n r) (Phaser n u)) ≡ Phaser m v → ⊥
no_reg true c n m s r u v x y z k = x (same_step k)
  where
    same_step : {n m : ℕ} {s v : Step} → Phaser n s ≡ Phaser m v → s ≡ v
    same_step h = cc
no_reg false true n m s r u v x y z k = y (same_step k)
  where
    same_step : {n m : ℕ} {s v : Step} → Phaser n s ≡ Phaser m v → s ≡ v
    same_step h = cc
no_reg false false n m s r u v x y z k = z (same_step k)
  where
    same_step : {n m : ℕ} {s v : Step} → Phaser n s ≡ Phaser m v → s ≡ v
    same_step h = cc

-- where the event to come is a registration, it is what is due
pub reg_due : (l : Limits) (w : List WorldEvent) (d : WorldEvent) (m q c : ℕ) (mode : Mode)
    → or_single l w d ≡ Phaser m (Reg q c mode) → d ≡ Phaser m (Reg q c mode)
reg_due l w (Phaser n (Pass t)) m q c mode k =
    absurd (no_reg (is_permitted l (terms_of n w) (phaser_past n w) (Claimed t)) (is_permitted l (terms_of n w)
    (phaser_past n w) (Done t)) n m (Claim t) (Did t) (Pass t) (Reg q c mode)
    (λ e. absurd cc) (λ e. absurd cc) (λ e. absurd cc) k)
reg_due l w d m q c mode k = k

-- a registration is a part of the act that named the child, and more is due after it
pub record IsRegistering (l : Limits) (n q c : ℕ) (m : Mode) (w : List WorldEvent) : Type 0 where
  pub begun : begins_spawn c (last_entry q w) ≡ true
  pub rest : List WorldEvent
  pub here : due q w ≡ Phaser n (Reg q c m) ∷ rest
  pub more : is_empty rest ≡ false

pub registering : (l : Limits) (w : List WorldEvent) (n q c : ℕ) (m : Mode) → is_legal_world l w ≡ true
    → is_accepted l w (Phaser n (Reg q c m)) ≡ true → IsRegistering l n q c m w
registering l w n q c m k a =
    let e = Phaser n (Reg q c m) in
    let first : First l w (due q w) e = first_due l w e (part_made l w e a).0 in
    let here : due q w ≡ e ∷ first.rest =
    subst (λ d. due q w ≡ d ∷ first.rest) (reg_due l w first.due n q c m first.stands) first.is in
    let begun : begins_spawn c (last_entry q w) ≡ true =
    elim (cases_Bool (begins_spawn c (last_entry q w))) [
      | inl b ↦ b
      | inr b ↦
          absurd (true≢false (sym (eq_self c) ∙ (or_parts (c == c) (list_any (is_child_event c) first.rest)
          (subst (λ ds. list_any (is_child_event c) ds ≡ false) here
          (childless l c q w k (ap (λ x. not x) b)))).0))
    ] in
    let shape : is_spawn_list q c (e ∷ first.rest) ≡ true =
    subst (λ ds. is_spawn_list q c ds ≡ true) here (spawn_due l q c w k begun) in
    let parts =
    and_parts (((q == q && c == c) && not (is_empty first.rest)) || false)
    (is_spawn_list q c first.rest) shape in
    record {
      begun = begun;
      rest = first.rest;
      here = here;
      more = is_more (q == q && c == c) (is_empty first.rest) parts.0;
    }
  where
    is_more : (x y : Bool) → ((x && not y) || false) ≡ true → y ≡ false
    is_more true true h = absurd cc
    is_more true false h = refl
    is_more false y h = absurd cc
