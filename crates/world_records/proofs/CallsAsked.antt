-- What a phaser would refuse a call by is what it refuses the step by in the history.
use Rattle.std.proofs.Common.{◌≡◌, ℕ, zero, suc, ◌<◌, ◌≤◌, Bool, true, false, List, [], ◌∷◌, Some, Err, length, get_or, refl, sym, ap, ◌∙◌, arith}
use Rattle.phase_modes.specs.declared.refusal.Refusal.TheVariants.{NotRegistered}
use Rattle.phase_model.specs.declared.history.Event.{Event}
use Rattle.phase_model.specs.declared.history.Event.TheVariants.{Make as Made, Reg as Registered, Sig as Signalled, Claim as Claimed, Did as Reported, Pass as Passed, Send as Sent, Look as Looked, Drop as Dropped}
use Rattle.phase_model.specs.declared.call.Call.{Call}
use Rattle.phase_model.specs.declared.call.Call.TheVariants.{Make as make, Register as register, Signal as signal, Pass as pass, SingleDone as single_done, Send as send, Look as look, Drop as drop_task}
use Rattle.phase_model.specs.Rules.{Story}
use Rattle.phase_model.specs.Replies as phaser
use Rattle.phase_model.specs.Replies.{refused, not_yet, done}
use Rattle.world_model.specs.PartReplies.{returned}
use Rattle.world_model.specs.GivingUp.{is_refused_by}
use Rattle.world_records.specs.WorldState.{WorldState}
use Rattle.world_records.specs.Kept.{blank_story}
use Rattle.world_model.specs.ActConditions.{free_unless}
use Rattle.world_records.specs.inner.Refusals.{refusal_in, phaser_refusal, is_make}
use Rattle.world_records.specs.inner.Failures.{has_number}

-- a number past the table reads as a phaser that nobody made
past_reads : (xs : List Story) (n : ℕ) (d : Story) → length xs ≤ n → get_or xs n d ≡ d
past_reads [] n d h = refl
past_reads (x ∷ xs) zero d h = absurd (omega (arith, h))
past_reads (x ∷ xs) (suc n) d h = past_reads xs n d (omega (arith, h))

nobody_known : (d : Story) (c : Call) → d.past ≡ [] → is_make c ≡ false → refusal_in (phaser.returned d.past (phaser.reply d c)) ≡ Some NotRegistered
nobody_known d (make t m) e k = absurd cc
nobody_known d (register q t m) e k = rw e refl
nobody_known d (signal t x) e k = rw e refl
nobody_known d (pass t) e k = rw e refl
nobody_known d (single_done t) e k = rw e refl
nobody_known d (send t a v) e k = rw e refl
nobody_known d (look t a) e k = rw e refl
nobody_known d (drop_task t) e k = rw e refl

pub past_refused : (s : WorldState) (n : ℕ) (c : Call) → (is_make c ≡ true → n < length s.phasers) → length s.phasers ≤ n → Err NotRegistered ≡ free_unless (phaser_refusal s n c)
past_refused s n c known h = by (is_make c) refl
  where
    by : (b : Bool) → is_make c ≡ b → Err NotRegistered ≡ free_unless (phaser_refusal s n c)
    by true e = absurd (omega (arith, known e, h))
    by false e =
        sym (ap (λ (y : Story). free_unless (refusal_in (phaser.returned y.past (phaser.reply y c)))) (past_reads s.phasers n (blank_story s.limits) h) ∙ ap (λ o. free_unless o) (nobody_known (blank_story s.limits) c refl e))

-- the same refusal, as a phaser's reply and as the world's
pub same_number : (h : List Event) (r : phaser.Reply) (n : ℕ) → has_number (refusal_in (phaser.returned h r)) n ≡ is_refused_by n (returned h r)
same_number h (refused x) n = refl
same_number h not_yet n = refl
same_number h (done (Made t m)) n = refl
same_number h (done (Registered q t m)) n = refl
same_number h (done (Signalled t x)) n = refl
same_number h (done (Claimed t)) n = refl
same_number h (done (Reported t)) n = refl
same_number h (done (Passed t)) n = refl
same_number h (done (Sent t a v)) n = refl
same_number h (done (Looked t a x)) n = refl
same_number h (done (Dropped t)) n = refl
