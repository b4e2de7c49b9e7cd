-- A call's result says whether it was done.
use Rattle.std.proofs.Common.{◌≡◌, refl, ap, ◌∙◌, ℕ, Bool, true, false, if◌then◌else◌, List, [], ◌∷◌, ◌++◌}
use Rattle.std.specs.Prelude.{is_ok}
use Rattle.phase_model.specs.Rules.{Story}
use Rattle.phase_model.specs.Replies.{Reply, refused, not_yet, done, done_result, reply, after}
use Rattle.phase_model.specs.Answers.{signal_result}
use Rattle.phase_model.specs.declared.call.Call.{Call}
use Rattle.level_phaser.specs.Rounds.{is_done, is_sent, Round, with_call, with_calls}

pub sent_is_done : (r : Reply) → is_sent (signal_result r) ≡ is_done r
sent_is_done (refused r) = refl
sent_is_done not_yet = refl
sent_is_done (done e) = refl

pub ok_is_done : (r : Reply) → is_ok (done_result r) ≡ is_done r
ok_is_done (refused r) = refl
ok_is_done not_yet = refl
ok_is_done (done e) = refl

-- calls in two parts
pub calls_in_parts : (p : ℕ) (r : Round) (cs ds : List Call) → with_calls p (with_calls p r cs) ds ≡ with_calls p r (cs ++ ds)
calls_in_parts p r [] ds = refl
calls_in_parts p r (c ∷ cs) ds = calls_in_parts p (with_call p r c) cs ds

-- two calls, and then others
two_first : (p : ℕ) (r : Round) (c d : Call) (cs : List Call)
    → with_calls p (with_call p (with_call p r c) d) cs ≡ with_calls p r (c ∷ d ∷ cs)
two_first p r c d cs = refl

-- three lists of calls, and two calls before the last of them
pub in_parts : (p : ℕ) (r : Round) (xs ys zs : List Call) (c d : Call)
    → with_calls p (with_call p (with_call p (with_calls p (with_calls p r xs) ys) c) d) zs
    ≡ with_calls p r (xs ++ ys ++ c ∷ d ∷ zs)
in_parts p r xs ys zs c d =
    two_first p (with_calls p (with_calls p r xs) ys) c d zs
    ∙ (ap (λ (q : Round). with_calls p q (c ∷ d ∷ zs)) (calls_in_parts p r xs ys) ∙ calls_in_parts p r (xs ++ ys) (c ∷ d ∷ zs))

-- calls leave the limits as they are
after_limits : (s : Story) (r : Reply) → (after s r).limits ≡ s.limits
after_limits s (refused r) = refl
after_limits s not_yet = refl
after_limits s (done e) = refl

either_limits : (b : Bool) (q r : Round) → q.story.limits ≡ r.story.limits → (if b then q else r).story.limits ≡ r.story.limits
either_limits true q r k = k
either_limits false q r k = refl

pub calls_limits : (p : ℕ) (r : Round) (cs : List Call) → (with_calls p r cs).story.limits ≡ r.story.limits
calls_limits p r [] = refl
calls_limits p r (c ∷ cs) =
    calls_limits p (with_call p r c) cs ∙ either_limits r.is_whole _ r (after_limits r.story (reply r.story c))
