-- A send of a level task isn't refused while there is room.
use Rattle.std.specs.Prelude.{ℤ, IfSome, slice_get}
use Rattle.std.proofs.Common.{lt-ltb, ◌≡◌, ℕ, ◌+◌, ◌≤◌, ◌<◌, true, nat_lt, List, [], ◌∷◌, length, Option, Some, None, Err, refl, sym, arith}
use Rattle.std.proofs.lemmas.Bool.{and_from}
use mathlib.Core.Logic.{dite}
use native.Mathlib.Decide.{dec_le}
use Rattle.phase_modes.specs.declared.refusal.Refusal.{Refusal}
use Rattle.phase_model.specs.declared.call.Call.TheVariants.{Send as send}
use Rattle.phase_model.specs.Tasks.{is_live}
use Rattle.phase_model.specs.Rules.{Story}
use Rattle.phase_model.specs.Replies.{Reply, refused, not_yet, done, done_result, reply}
use Rattle.level_phaser.specs.Rounds.{is_done}
use Rattle.level_phaser.specs.RoundLaws.{is_among, StandLevel, is_send_of}
use Rattle.level_phaser.specs.LevelPhasers.{IsReady, IsFull}
use Rattle.level_phaser.proofs.LevelTasks.{level_by}
use Rattle.level_phaser.proofs.LevelRounds.{begun, sends_come}
use Rattle.level_phaser.proofs.Tellings.{among_at}

-- each task of a list that stands level is registered
pub each_lives : (p : ℕ) (ts : List ℕ) (s : Story) → StandLevel p ts s → (o : Option ℕ) (n : ℕ) → o ≡ slice_get ts n
    → IfSome o (λ t. is_live t s.past ≡ true)
each_lives p ts s stand None n is = tt
each_lives p ts s stand (Some t) n is = (level_by p ts s stand.level t (among_at ts n t (sym is))).live

not_done : (r : Reply) (why : Refusal) → done_result r ≡ Err why → is_done r ≡ true → ⊥
not_done (refused x) why e k = absurd cc
not_done not_yet why e k = absurd cc
not_done (done e') why e k = absurd cc

pub full_if_refused : (p : ℕ) (ts : List ℕ) (s : Story) (t a : ℕ) (v : ℤ) (why : Refusal) → IsReady p ts s
    → is_live t s.past ≡ true → a < length s.terms.ops → length ts ≤ 256
    → done_result (reply s (send t a v)) ≡ Err why → IsFull s
full_if_refused p ts s t a v why ready live names few refusal =
    dite (dec_le (length s.past + 1024) s.limits.history)
    (λ room.
    let here = ready.1.all t live in
    let there : nat_lt a (length s.terms.ops) ≡ true = lt-ltb a (length s.terms.ops) names in
    let each = and_from (is_send_of s.terms ts (send t a v)) true
    (and_from (is_among t ts) (nat_lt a (length s.terms.ops)) here there) refl in
    let k = sends_come p ts (send t a v ∷ []) [] s each (begun p ts 1 s ready.0 ready.1 (omega arith)) in
    absurd (not_done (reply s (send t a v)) why refusal k.whole.0))
    (λ full. omega arith)
