-- How a phaser goes over to tasks that stand level: what a check of them says.
use Rattle.std.specs.Prelude.{is_some, nat_le, slice_get}
use Rattle.std.proofs.Common.{◌≡◌, ℕ, ◌+◌, ◌<◌, ◌≤◌, ◌==◌, Bool, true, false, not, ◌&&◌, if◌then◌else◌, List, [], ◌∷◌, length, inl, inr, Option, None, Some, unwrap_or, refl, sym, ap, ◌∙◌, subst, arith}
use Rattle.std.proofs.lemmas.Bool.{cases_Bool, and_parts, or_cases, eqb-true, leb-true, false≢true}
use Rattle.phase_modes.specs.Lists.{is_empty}
use Rattle.phase_model.specs.Tasks.{is_live, live_tasks, live_count}
use Rattle.phase_model.specs.Phases.{waits}
use Rattle.phase_model.specs.Rules.{Story}
use Rattle.phase_model.specs.Laws.{IsLegal}
use Rattle.phase_model.proofs.LiveTasks.{has-live_tasks}
use Rattle.long_locks.specs.declared.cell.LongCell.{LongCell}
use Rattle.long_locks.specs.declared.course.Then.{Then}
use Rattle.level_phaser.specs.Rounds.{are_level}
use Rattle.level_phaser.specs.RoundLaws.{is_among, AreApart, StandLevel}
use Rattle.level_phaser.specs.Keeping.{are_apart}
use Rattle.level_phaser.proofs.LevelTasks.{level_by, no_more}
use Rattle.phaser_c.specs.Rounds.{level_of}
use Rattle.phase_modes.specs.Limits.{is_between}
use Rattle.phase_model.specs.Ordering.{IsOrdered}
use Rattle.phase_model.specs.Rules.{is_legal}
use Rattle.phaser_core.specs.declared.parked.Parked.{Parked}
use Rattle.phaser_core.specs.Parking.{all_wait, are_parked_once}
use Rattle.phaser_core.specs.Settled.{IsSettled}
use Rattle.phaser_c.specs.LevelCalls.{LevelMember}
use Rattle.phaser_c.specs.declared.answer.ExportAnswer.{ExportAnswer}
use Rattle.phaser_c.specs.declared.answer.ExportAnswer.TheVariants.{Done}
use Rattle.phaser_c.specs.declared.level_keeper.LevelKeeper.{LevelKeeper}
use Rattle.phaser_c.specs.declared.waiting.Waiting.{Waiting}
use Rattle.phaser_c.specs.LevelOpened.{may_open, IsOpenTo, IsOpenedFor, IsKeptBy, IsOf, HasTakenFor, IsTakenFor, HasClosed, IsClosedFor}

-- none of them is there twice
apart_by : (ts : List ℕ) → are_apart ts ≡ true → AreApart ts
apart_by [] k = tt
apart_by (t ∷ ts) k =
    let parts = and_parts (not (is_among t ts)) (are_apart ts) k in (lone (is_among t ts) parts.0, apart_by ts parts.1)
  where
    lone : (b : Bool) → not b ≡ true → b ≡ false
    lone true e = absurd (false≢true e)
    lone false e = refl

-- as many tasks as are registered, none of them twice and each of them level, are all
pub all_of : (p : ℕ) (ts : List ℕ) (s : Story) → IsLegal s → are_level p s ts ≡ true → are_apart ts ≡ true
    → live_count s.past ≡ length ts → StandLevel p ts s
all_of p ts s legal level apart many = record {
  level = level;
  all = λ t lives. elim (cases_Bool (is_among t ts)) [
    | inl e ↦ e
    | inr e ↦ absurd
        (let most = no_more (t ∷ ts) (live_tasks s.past) (e, apart_by ts apart)
        (λ u among. has-live_tasks u s.past ∙ elim (or_cases (t == u) (is_among u ts) among) [
          | inl is ↦ subst (λ (v : ℕ). is_live v s.past ≡ true) (eqb-true t u is) lives
          | inr here ↦ (level_by p ts s level u here).live
        ]) in omega arith)
  ];
  apart = apart_by ts apart;
}

empty_of : {A : Type 0} (xs : List A) → is_empty xs ≡ true → xs ≡ []
empty_of [] k = refl
empty_of (x ∷ xs) k = absurd (false≢true k)

-- who stand level stand so in a phase, while nobody is parked
pub phase_of : (ts : List ℕ) (c : LongCell Then) → is_some (level_of ts c) ≡ true
    → (c.parked.items ≡ []) × (0 < length ts) × (p : ℕ) × (are_level p c.state.story ts ≡ true)
phase_of [] c k = absurd (false≢true k)
phase_of (t ∷ ts) c k =
    let p = waits t c.state.story.past in
    let both = level_if (is_empty c.parked.items && are_level p c.state.story (t ∷ ts)) p k in
    let parts = and_parts (is_empty c.parked.items) (are_level p c.state.story (t ∷ ts)) both in
    (empty_of c.parked.items parts.0, omega arith, p, parts.1)
  where
    level_if : (b : Bool) (p : ℕ) → is_some (if b then Some p else None) ≡ true → b ≡ true
    level_if true p k = refl
    level_if false p k = absurd (false≢true k)

-- what a phaser has that may go over to these tasks
pub opens_to : (ts : List ℕ) (c : LongCell Then) → IsLegal c.state.story → may_open ts c ≡ true
    → (c.parked.items ≡ []) × (0 < length ts) × (length ts ≤ 256) × (p : ℕ) × StandLevel p ts c.state.story
opens_to ts c legal k =
    let a = and_parts
    (nat_le (length ts) 256 && live_count c.state.story.past == length ts && is_some (level_of ts c)) (are_apart ts) k in
    let b = and_parts (nat_le (length ts) 256 && live_count c.state.story.past == length ts) (is_some (level_of ts c)) a.0 in
    let d = and_parts (nat_le (length ts) 256) (live_count c.state.story.past == length ts) b.0 in
    let f = phase_of ts c b.1 in (
      f.0,
      f.1,
      leb-true (length ts) 256 d.0,
      f.2,
      all_of f.2 ts c.state.story legal f.3 a.1 (eqb-true (live_count c.state.story.past) (length ts) d.1),
    )

-- a phaser that nobody waits at is as it has to be behind a lock
pub settled_alone : {T : Type 0} (s : Story) (ps : List (Parked T)) → is_between 1 s.limits.regs 256 ≡ true
    → is_legal s.limits s.terms s.past ≡ true → IsOrdered s.past → ps ≡ [] → IsSettled s ps
settled_alone s ps regs legal ordered none_of = record {
  regs = regs;
  legal = legal;
  ordered = ordered;
  waiting = ap (λ qs. all_wait s qs) none_of;
  once = ap are_parked_once none_of;
}

-- a phaser has gone over to these tasks
pub opened_for : (ts : List ℕ) (old new : Option LevelKeeper) (held held' : Option Waiting) (w : Waiting) (k : LevelKeeper)
    → is_some old ≡ false → held ≡ Some w → new ≡ Some k → held' ≡ None → may_open ts w.cell ≡ true → IsOpenTo ts w.cell k
    → IsOpenedFor ts old new held held' Done
opened_for ts (Some k) new held held' w l none_of is put empty may opens = absurd cc
opened_for ts None new None held' w l none_of is put empty may opens = absurd cc
opened_for ts None new (Some v) held' w l none_of is put empty may opens =
    let same : w ≡ v = ap (λ o. unwrap_or o w) (sym is) in
    inl (
      l,
      refl,
      subst (λ (z : Waiting). may_open ts z.cell ≡ true) same may,
      put,
      empty,
      subst (λ (z : Waiting). IsOpenTo ts z.cell l) same opens,
    )

-- a task was taken for a handle that holds none
pub has_taken : (k l : LevelKeeper) (old new : Option LevelMember) (m : LevelMember) → is_some old ≡ false → new ≡ Some m
    → IsKeptBy k l → (l.keeper.taken ≡ k.keeper.taken + 1)
    → slice_get k.keeper.numbers.items k.keeper.taken ≡ Some m.task → IsOf k m → HasTakenFor k l old new Done
has_taken k l (Some n) new m none_of put kept taken at of = absurd cc
has_taken k l None new m none_of put kept taken at of = (kept, inl (m, refl, put, taken, at, of))

-- what a keeper does is done by what holds it
pub taken_by : (old new : Option LevelKeeper) (k l : LevelKeeper) (task task' : Option LevelMember) (a : ExportAnswer)
    → old ≡ Some k → new ≡ Some l → HasTakenFor k l task task' a → IsTakenFor old new task task' a
taken_by old new k l task task' a is put how =
    subst (λ (o : Option LevelKeeper). IsTakenFor o new task task' a) (sym is) (l, put, how)

-- a table was closed, or not
pub closed_for : (old new : Option LevelKeeper) (held held' : Option Waiting) (k : LevelKeeper) (a : ExportAnswer)
    → is_some held ≡ false → old ≡ Some k → HasClosed k new held' a → IsClosedFor old new held held' a
closed_for old new (Some w) held' k a none_of is how = absurd cc
closed_for None new None held' k a none_of is how = absurd cc
closed_for (Some j) new None held' k a none_of is how =
    subst (λ (z : LevelKeeper). HasClosed z new held' a) (ap (λ o. unwrap_or o k) (sym is)) how

pub none_by : {A : Type 0} (o : Option A) → is_some o ≡ false → o ≡ None
none_by None k = refl
none_by (Some a) k = absurd cc
