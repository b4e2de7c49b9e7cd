-- The shape of what is due while a task signals or takes a turn: its signals come first, then its passes.
use Rattle.std.proofs.Common.{◌≡◌, ℕ, Bool, true, false, ◌&&◌, ◌==◌, not, cond, List, [], ◌∷◌, ◌++◌, map, length, Option, Some, None, refl, sym, subst, ap, ◌∙◌, arith}
use Rattle.std.specs.Prelude.{drop, filter}
use Rattle.std.specs.List.{list_any, list_all}
use Rattle.std.proofs.lemmas.Bool.{and_parts, and_from, eqb-true, eq-eqb, false≢true}
use Rattle.phase_modes.specs.Lists.{is_one}
use Rattle.phase_modes.specs.declared.limits.Limits.{Limits}
use Rattle.phase_modes.specs.declared.refusal.Refusal.{Refusal}
use Rattle.phase_modes.specs.declared.refusal.Refusal.TheVariants.{OnePhaserOnly, NoSingle, AlreadySignalled}
use Rattle.phase_modes.specs.Mode.{can_single}
use Rattle.phase_model.specs.Tasks.{has_mode}
use Rattle.world_model.specs.declared.event.Step.TheVariants.{Sig, Pass}
use Rattle.world_model.specs.declared.event.Begun.TheVariants.{Async, Signal, Wait, Next, NextSingle, Shut, End}
use Rattle.world_model.specs.declared.event.WorldEvent.{WorldEvent}
use Rattle.world_model.specs.declared.event.WorldEvent.TheVariants.{Phaser, Finish, Begin, Refuse, Fail}
use Rattle.world_model.specs.Parts.{phaser_past}
use Rattle.world_model.specs.Tasks.{phasers_of}
use Rattle.world_model.specs.Due.{due, fixed, fixed_by, is_entry, is_ahead, is_behind}
use Rattle.world_model.specs.Replies.{is_legal_world, is_accepted}
use Rattle.world_model.specs.TaskConditions.{last_entry}
use Rattle.world_model.proofs.MadeMeans.{last_accepted, no_refusal, begin_asked}
use Rattle.world_model.proofs.DueHolds.{due_has}

-- the entry begins to signal or to turn
abbrev pub moves_act : Option WorldEvent → Bool
moves_act (Some (Begin t Signal)) = true
moves_act (Some (Begin t Wait)) = true
moves_act (Some (Begin t Next)) = true
moves_act (Some (Begin t (NextSingle x))) = true
moves_act _ = false

abbrev pub is_any_sig : WorldEvent → Bool
is_any_sig (Phaser n (Sig t x)) = true
is_any_sig _ = false

-- a signal or a pass of t
abbrev pub is_move : ℕ → WorldEvent → Bool
is_move t (Phaser n (Sig u x)) = u == t
is_move t (Phaser n (Pass u)) = u == t
is_move t _ = false

-- no signal comes after a pass
abbrev pub sigs_first : List WorldEvent → Bool
sigs_first [] = true
sigs_first (Phaser n (Pass t) ∷ ds) = not (list_any is_any_sig ds) && sigs_first ds
sigs_first (_ ∷ ds) = sigs_first ds

abbrev pub is_lone_pass : ℕ → ℕ → List WorldEvent → Bool
is_lone_pass t n (Phaser m (Pass u) ∷ []) = m == n && u == t
is_lone_pass t n _ = false

-- after a proposal its phaser's pass is all that is left
abbrev pub lone_single : ℕ → List WorldEvent → Bool
lone_single t [] = true
lone_single t (Phaser n (Sig u (Some x)) ∷ ds) = is_lone_pass t n ds
lone_single t (_ ∷ ds) = lone_single t ds

pub record Moves (t : ℕ) (ds : List WorldEvent) : Type 0 where
  pub own : list_all (is_move t) ds ≡ true
  pub first : sigs_first ds ≡ true
  pub lone : lone_single t ds ≡ true

abbrev pub passes_of : ℕ → List ℕ → List WorldEvent
passes_of t ns = map (λ n. Phaser n (Pass t)) ns

abbrev pub sigs_of : ℕ → Option ℕ → List ℕ → List WorldEvent
sigs_of t x ns = map (λ n. Phaser n (Sig t x)) ns

no_sigs : (t : ℕ) (ns : List ℕ) → list_any is_any_sig (passes_of t ns) ≡ false
no_sigs t [] = refl
no_sigs t (n ∷ ns) = no_sigs t ns

pass_moves : (t : ℕ) (ns : List ℕ) → Moves t (passes_of t ns)
pass_moves t [] = record { own = refl; first = refl; lone = refl }
pass_moves t (n ∷ ns) =
    let p = pass_moves t ns in
    record {
      own = and_from (t == t) (list_all (is_move t) (passes_of t ns)) (eq-eqb t t refl) p.own;
      first =
          and_from (not (list_any is_any_sig (passes_of t ns))) (sigs_first (passes_of t ns))
          (ap (λ b. not b) (no_sigs t ns)) p.first;
      lone = p.lone;
    }

plain_moves : (t : ℕ) (ns ms : List ℕ) → Moves t (sigs_of t None ns ++ passes_of t ms)
plain_moves t [] ms = pass_moves t ms
plain_moves t (n ∷ ns) ms =
    let p = plain_moves t ns ms in
    record {
      own = and_from (t == t) (list_all (is_move t) (sigs_of t None ns ++ passes_of t ms))
          (eq-eqb t t refl) p.own;
      first = p.first;
      lone = p.lone;
    }

sig_moves : (t : ℕ) (ns : List ℕ) → Moves t (sigs_of t None ns)
sig_moves t [] = record { own = refl; first = refl; lone = refl }
sig_moves t (n ∷ ns) =
    let p = sig_moves t ns in
    record {
      own = and_from (t == t) (list_all (is_move t) (sigs_of t None ns)) (eq-eqb t t refl) p.own;
      first = p.first;
      lone = p.lone;
    }

single_moves : (t x : ℕ) (p : ℕ → Bool) (ns : List ℕ) → is_one ns ≡ true
    → Moves t (sigs_of t (Some x) (filter p ns) ++ passes_of t ns)
single_moves t x p [] k = absurd (false≢true k)
single_moves t x p (n ∷ m ∷ ns) k = absurd (false≢true k)
single_moves t x p (n ∷ []) k =
    let self : (t == t) ≡ true = eq-eqb t t refl in
    elim (p n) as (λ b. Moves t (sigs_of t (Some x) (cond b (n ∷ []) []) ++ passes_of t (n ∷ []))) [
      | true ↦
          record {
            own = rw self refl;
            first = refl;
            lone = and_from (n == n) (t == t) (eq-eqb n n refl) self;
          }
      | false ↦ pass_moves t (n ∷ [])
    ]

-- a list is one long where it has one item
pub one_long : {X : Type 0} → (xs : List X) → (length xs == 1) ≡ is_one xs
one_long [] = refl
one_long (x ∷ []) = refl
one_long (x ∷ y ∷ zs) = grind arith

-- what a next with a statement was asked
pub record SingleAsked (t : ℕ) (w : List WorldEvent) : Type 0 where
  pub one : is_one (phasers_of t w) ≡ true
  pub single : list_any (λ n. not (has_mode can_single t (phaser_past n w))) (phasers_of t w) ≡ false

pub single_asked : (l : Limits) (w : List WorldEvent) (t x : ℕ)
    → is_accepted l w (Begin t (NextSingle x)) ≡ true → SingleAsked t w
single_asked l w t x a =
    let ns = phasers_of t w in
    let single = list_all (λ n. has_mode can_single t (phaser_past n w)) ns in
    let ahead : Refusal × Bool = (AlreadySignalled, not (list_any (λ n. is_ahead t (phaser_past n w)) ns)) in
    let c =
    no_refusal OnePhaserOnly (length ns == 1) ((NoSingle, single) ∷ ahead ∷ [])
    (begin_asked l w t (NextSingle x) a) in
    let d = no_refusal NoSingle single (ahead ∷ []) c.1 in
    record { one = sym (one_long ns) ∙ c.0; single = none_fails (λ n. has_mode can_single t (phaser_past n w)) ns d.0 }
  where
    none_fails : (f : ℕ → Bool) (xs : List ℕ) → list_all f xs ≡ true → list_any (λ n. not (f n)) xs ≡ false
    none_fails f [] k = refl
    none_fails f (x ∷ xs) k =
        let b = and_parts (f x) (list_all f xs) k in
        rw (b.0, none_fails f xs b.1) refl

pub less_moves : (t : ℕ) (ds : List WorldEvent) → Moves t ds → Moves t (drop 1 ds)
less_moves t [] p = p
less_moves t (d ∷ ds) p =
    record {
      own = (and_parts (is_move t d) (list_all (is_move t) ds) p.own).1;
      first = later_first d (and_parts (is_move t d) (list_all (is_move t) ds) p.own).0 p.first;
      lone = later_lone d ds p.lone;
    }
  where
    later_first : (d : WorldEvent) → is_move t d ≡ true → sigs_first (d ∷ ds) ≡ true → sigs_first ds ≡ true
    later_first (Phaser n (Pass u)) m k = (and_parts (not (list_any is_any_sig ds)) (sigs_first ds) k).1
    later_first (Phaser n (Sig u x)) m k = k
    later_first d m k = absurd (false≢true m)

    after_pass : (n : ℕ) (ds : List WorldEvent) → is_lone_pass t n ds ≡ true → lone_single t ds ≡ true
    after_pass n [] k = refl
    after_pass n (Phaser m (Pass u) ∷ []) k = refl
    after_pass n ds k = absurd cc

    later_lone : (d : WorldEvent) (ds : List WorldEvent) → lone_single t (d ∷ ds) ≡ true
        → lone_single t ds ≡ true
    later_lone (Phaser n (Sig u (Some x))) ds k = after_pass n ds k
    later_lone d ds k = k

pub entry_moves : (l : Limits) (t : ℕ) (e : WorldEvent) (w : List WorldEvent) → is_legal_world l (e ∷ w) ≡ true
    → is_entry t e ≡ true → moves_act (Some e) ≡ true → Moves t (fixed e w)
entry_moves l t (Begin u Signal) w k n q =
    subst (λ v. Moves v (sigs_of u None (filter (λ m. is_behind u (phaser_past m w)) (phasers_of u w))))
    (eqb-true u t n) (sig_moves u (filter (λ m. is_behind u (phaser_past m w)) (phasers_of u w)))
entry_moves l t (Begin u Wait) w k n q =
    subst (λ v. Moves v (passes_of u (phasers_of u w))) (eqb-true u t n) (pass_moves u (phasers_of u w))
entry_moves l t (Begin u Next) w k n q =
    subst (λ v. Moves v (fixed_by u Next w)) (eqb-true u t n)
    (plain_moves u (filter (λ m. is_behind u (phaser_past m w)) (phasers_of u w)) (phasers_of u w))
entry_moves l t (Begin u (NextSingle x)) w k n q =
    subst (λ v. Moves v (fixed_by u (NextSingle x) w)) (eqb-true u t n)
    (single_moves u x (λ m. is_behind u (phaser_past m w)) (phasers_of u w)
    (single_asked l w u x (last_accepted l (Begin u (NextSingle x)) w k).0).one)
entry_moves l t (Begin u Shut) w k n q = absurd (false≢true q)
entry_moves l t (Begin u End) w k n q = absurd (false≢true q)
entry_moves l t (Begin u (Async c ps)) w k n q = absurd (false≢true q)
entry_moves l t (Refuse u b x) w k n q = absurd (false≢true q)
entry_moves l t (Fail u x) w k n q = absurd (false≢true q)
entry_moves l t (Phaser m s) w k n q = absurd (false≢true n)
entry_moves l t (Finish f s) w k n q = absurd (false≢true n)

-- what is due to a task that signals or turns
pub moves : (l : Limits) (t : ℕ) (w : List WorldEvent) → is_legal_world l w ≡ true
    → moves_act (last_entry t w) ≡ true → Moves t (due t w)
moves l t w k q =
    due_has l t moves_act (Moves t) (record { own = refl; first = refl; lone = refl }) (less_moves t)
    (λ e v h x y. entry_moves l t e v h x y) w k q
