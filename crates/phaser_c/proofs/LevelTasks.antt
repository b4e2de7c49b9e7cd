-- What a call of a level task does, to what a handle holds of it.
use Rattle.std.specs.Prelude.{ℤ, ◌⊎◌, MatchResult, is_some}
use Rattle.std.proofs.Common.{◌≡◌, ℕ, Bool, true, false, inl, inr, Option, None, Some, Result, Ok, Err, refl, sym, ap, ◌∙◌, subst}
use Rattle.phase_modes.specs.declared.refusal.Refusal.{Refusal}
use Rattle.phase_modes.specs.declared.refusal.Refusal.TheVariants.{Memory}
use Rattle.phase_model.specs.Rules.{Story}
use Rattle.phase_model.specs.declared.op.Look.{Look}
use Rattle.level_phaser.specs.declared.stage.Stage.{Stage}
use Rattle.level_phaser.specs.declared.stage.Stage.TheVariants.{Stands, Waits, Gone, Stuck, Closed as WasClosed}
use Rattle.phaser_c.specs.Waiting.{answer_done, answer_seen, value_seen}
use Rattle.phaser_c.specs.declared.answer.ExportAnswer.{ExportAnswer}
use Rattle.phaser_c.specs.declared.answer.ExportAnswer.TheVariants.{Done, Closed, Refused}
use Rattle.phaser_c.specs.declared.level_task.LevelTask.{LevelTask}
use Rattle.phaser_c.specs.LevelCalls.{LevelMember, IsCalledBy, IsSeenBy, HasGiven, IsGivenBy, waits, IsSame, IsKept, IfMay, HasSent, HasSeen, AskedToSend, SentSo, SeenSo, IsGiven, IsFirst, IsFirstFor, IsChild, HasJoined, HasJoinedFor, IsJoinedFor, view, stands, member_of}

-- what a task does is done by what holds it
pub called_by : (How : LevelMember → LevelMember → ExportAnswer → Type 0) (old : Option LevelMember) (m n : LevelMember)
    (a : ExportAnswer) → old ≡ Some m → How m n a → IsCalledBy How old (Some n) a
called_by How old m n a is how = subst (λ (o : Option LevelMember). IsCalledBy How o (Some n) a) (sym is) (n, refl, how)

-- so is what it sees
pub seen_by : (accumulator : ℕ) (old : Option LevelMember) (m n : LevelMember) (v w : ℤ) (a : ExportAnswer) → old ≡ Some m
    → HasSeen (stands m.stage) accumulator v w m n a → IsSeenBy accumulator old (Some n) v w a
seen_by accumulator old m n v w a is how =
    subst (λ (o : Option LevelMember). IsSeenBy accumulator o (Some n) v w a) (sym is) (n, refl, how)

-- there is one stage in which a task stands
is_standing : (s : Stage) → stands s ≡ true → s ≡ Stands
is_standing Stands k = refl
is_standing Waits k = absurd cc
is_standing Gone k = absurd cc
is_standing Stuck k = absurd cc
is_standing WasClosed k = absurd cc

-- a task that stands has made its send
pub sent_so : (accumulator : ℕ) (value : ℤ) (m n : LevelMember) (a : ExportAnswer) (r : Result (Unit {0}) Refusal)
    → stands m.stage ≡ true → IsSame m n → n.stage ≡ Stands → n.phase ≡ m.phase → a ≡ answer_done r
    → SentSo accumulator value m n r → HasSent accumulator value m n a
sent_so accumulator value m n a r may same stage phase is sent =
    subst (λ (b : Bool). IfMay b (AskedToSend accumulator value) m n a) (sym may) (same, (stage, phase, inr (r, is, sent)))

-- a task that stands has looked
pub seen_so : (accumulator : ℕ) (v w : ℤ) (m n : LevelMember) (a : ExportAnswer) (r : Result (Look ℤ) Refusal)
    → stands m.stage ≡ true → (n.seat.table_id ≡ m.seat.table_id) × (n.task ≡ m.task) × (n.phase ≡ m.phase)
    → (n.stage ≡ Stands) × (view n ≡ view m) × (n.kept ≡ m.kept) → a ≡ answer_seen r → w ≡ value_seen v r → SeenSo accumulator m r
    → HasSeen (stands m.stage) accumulator v w m n a
seen_so accumulator v w m n a r may same kept is value seen =
    let stays : n.stage ≡ m.stage = kept.0 ∙ sym (is_standing m.stage may) in
    subst (λ (b : Bool). HasSeen b accumulator v w m n a) (sym may)
    (((same.1, same.0), stays, same.2, kept.1, kept.2), inr (r, is, value, seen))

-- a handle that holds none
pub closed_at : (How : LevelMember → LevelMember → ExportAnswer → Type 0) (old new : Option LevelTask) → old ≡ None
    → new ≡ None → IsCalledBy How (member_of old) (member_of new) Closed
closed_at How old new is is' =
    subst (λ (o : Option LevelTask). IsCalledBy How (member_of o) (member_of new) Closed) (sym is)
    (refl, ap member_of is')

-- the same of a look
pub unseen_at : (accumulator : ℕ) (old new : Option LevelTask) (v : ℤ) → old ≡ None → new ≡ None
    → IsSeenBy accumulator (member_of old) (member_of new) v v Closed
unseen_at accumulator old new v is is' =
    subst (λ (o : Option LevelTask). IsSeenBy accumulator (member_of o) (member_of new) v v Closed) (sym is)
    (refl, ap member_of is', refl)

-- so is what it gives
pub given_by : (old : Option LevelMember) (m n : LevelMember) (o o' : ℕ) (v w : ℤ) (a : ExportAnswer) → old ≡ Some m
    → HasGiven (waits m.stage) o o' v w m n a → IsGivenBy old (Some n) o o' v w a
given_by old m n o o' v w a is how =
    subst (λ (x : Option LevelMember). IsGivenBy x (Some n) o o' v w a) (sym is) (n, refl, how)

-- nothing is given of a handle that holds none
pub ungiven_at : (old new : Option LevelTask) (o : ℕ) (v : ℤ) → old ≡ None → new ≡ None
    → IsGivenBy (member_of old) (member_of new) o o v v Closed
ungiven_at old new o v is is' =
    subst (λ (x : Option LevelTask). IsGivenBy (member_of x) (member_of new) o o v v Closed) (sym is)
    (refl, ap member_of is', refl, refl)

-- a handle that holds none is given the first task, or memory is refused
pub made_first : (old new : Option LevelMember) (given : Result Story ExportAnswer) (m : LevelMember) (a : ExportAnswer)
    → is_some old ≡ false → IsGiven given × IsFirst m
    → ((a ≡ Done) × (new ≡ Some m)) ⊎ ((a ≡ Refused Memory) × (new ≡ old)) → IsFirstFor old new given a
made_first (Some x) new given m a none is put = absurd cc
made_first None new (Err why) m a none is put = absurd is.0
made_first None new (Ok s) m a none is (inl put) = inl (m, put.0, put.1, is.1)
made_first None new (Ok s) m a none is (inr put) = inr put

-- the task was put in, or all is as before
pub or_kept : (old kept new : Option LevelTask) (m : LevelMember) (a : ExportAnswer) → kept ≡ old
    → ((a ≡ Done) × (member_of new ≡ Some m)) ⊎ ((a ≡ Refused Memory) × (new ≡ kept))
    → ((a ≡ Done) × (member_of new ≡ Some m)) ⊎ ((a ≡ Refused Memory) × (member_of new ≡ member_of old))
or_kept old kept new m a is (inl put) = inl put
or_kept old kept new m a is (inr none) = inr (none.0, ap member_of (none.1 ∙ is))

-- a handle that holds none holds none still
pub not_made : (old new : Option LevelMember) (given : Result Story ExportAnswer) (a : ExportAnswer) → is_some old ≡ false
    → new ≡ old → MatchResult given (λ _. a ≡ Refused Memory) (λ why. a ≡ why) → IsFirstFor old new given a
not_made (Some x) new given a none kept is = absurd cc
not_made None new (Err why) a none kept is = (is, kept)
not_made None new (Ok s) a none kept is = inr (is, kept)

-- what is the same for the parent, as `Member::join` says it
abbrev pub Stays : LevelMember → LevelMember → Type 0
Stays m n =
    ((n.seat.table_id ≡ m.seat.table_id) × (n.task ≡ m.task))
    × ((view n ≡ view m) × (n.stage ≡ Stands) × (n.phase ≡ m.phase) × (n.kept ≡ m.kept))

-- so nothing has changed for it
kept_of : (m n : LevelMember) → stands m.stage ≡ true → Stays m n → IsKept m n
kept_of m n may s = ((s.0.1, s.0.0), s.1.1 ∙ sym (is_standing m.stage may), s.1.2, s.1.0, s.1.3)

-- a task has joined
pub has_joined : (m n c : LevelMember) (old new : Option LevelMember) → is_some old ≡ false → new ≡ Some c
    → stands m.stage ≡ true → Stays m n → IsChild m c → HasJoinedFor m n old new Done
has_joined m n c (Some d) new none put may stays child = absurd cc
has_joined m n c None new none put may stays child =
    subst (λ (b : Bool). HasJoined b m n new Done) (sym may) (kept_of m n may stays, inl (c, refl, put, child))

-- what a task's join does is done by what holds it
pub joined_by : (old : Option LevelMember) (m n : LevelMember) (o o' : Option LevelMember) (a : ExportAnswer)
    → old ≡ Some m → HasJoinedFor m n o o' a → IsJoinedFor old (Some n) o o' a
joined_by old m n o o' a is how = subst (λ (x : Option LevelMember). IsJoinedFor x (Some n) o o' a) (sym is) (n, refl, how)
