-- While those who are parked make their calls again, in turn.
use Rattle.std.proofs.Common.{◌≡◌, ℕ, suc, ◌+◌, ◌≤◌, ◌<◌, true, false, List, [], ◌∷◌, length, drop, refl, ap, sym, ◌∙◌, subst, arith}
use Rattle.std.proofs.lemmas.List.{length_push}
use Rattle.phase_model.specs.Rules.{Story}
use Rattle.phase_model.proofs.OrderingLaw.{legal_is_ordered}
use Rattle.phaser_core.specs.declared.parked.Parked.{Parked}
use Rattle.phaser_core.specs.Parking.{all_wait}
use Rattle.phaser_core.specs.Settled.{IsSettled}
use Rattle.long_locks.specs.declared.answer.Freed.{Freed}
use Rattle.long_locks.specs.declared.course.Then.{Then}
use Rattle.long_locks.specs.declared.course.Course.{Course}
use Rattle.long_locks.specs.declared.course.Course.TheVariants.{Over, HasSignalled, Waits}
use Rattle.long_locks.specs.Courses.{course, story_after}
use Rattle.long_locks.specs.Firsts.{first_moves}
use Rattle.long_locks.specs.Turns.{Standing, standing, to_pass, turn_of, queue_after, gone_after, IsTurned, IsSound}
use Rattle.long_locks.proofs.Steps.{sound_turn, same_count, waiting_by, weight, lighter, no_heavier}

-- what holds before each turn: all have to wait but the first n
pub record IsGoing (v w : Standing) (n : ℕ) : Type 0 where
  pub turned : IsTurned v w
  pub sound : IsSound w.story w.queue
  pub waiting : all_wait w.story (drop n w.queue) ≡ true
  pub within : n ≤ length w.queue
  pub room : length w.queue + length w.gone ≤ 256

drop-length : (ps : List (Parked Then)) → drop (length ps) ps ≡ []
drop-length [] = refl
drop-length (p ∷ ps) = drop-length ps

none_wait : (s : Story) (ps : List (Parked Then)) → all_wait s (drop (length ps) ps) ≡ true
none_wait s ps = ap (λ (l : List (Parked Then)). all_wait s l) (drop-length ps)

-- one turn more
turned_more : (v w : Standing) → IsTurned v w → IsTurned v (turn_of w.story w.queue w.gone)
turned_more v w k = (suc k.0, ap (λ (u : Standing). turn_of u.story u.queue u.gone) k.1)

-- no call makes the queue behind its task shorter
no_shorter : (c : Course) (p : Parked Then) (ps : List (Parked Then))
    → length ps ≤ length (queue_after c p ps)
no_shorter (Over e) p ps = omega arith
no_shorter HasSignalled p ps = let more = length_push ps (to_pass p.task) in omega (arith, more)
no_shorter Waits p ps = let more = length_push ps p in omega (arith, more)

-- after a turn that added an event all may go on
moved_to : (v : Standing) (s : Story) (q : List (Parked Then)) (f : List Freed) (n : ℕ) → 0 < length q
    → IsGoing v (standing s q f) n
    → IsGoing v (turn_of s q f) (length (turn_of s q f).queue)
moved_to v s [] f n some k = absurd (omega (arith, some))
moved_to v s (p ∷ ps) f n some k =
    let c = course s p.task p.call p.item in
    let count = same_count c p ps f in
    let room : suc (length ps) + length f ≤ 256 = k.room in
    record {
      turned = turned_more v (standing s (p ∷ ps) f) k.turned;
      sound = sound_turn s c p ps k.sound;
      waiting = none_wait (story_after s p.task p.call) (queue_after c p ps);
      within = omega arith;
      room = omega (arith, count, room);
    }

-- after any other those wait on who did
still_to : (v : Standing) (s : Story) (q : List (Parked Then)) (f : List Freed) (n : ℕ) → 0 < length q
    → IsGoing v (standing s q f) (suc n) → first_moves s q ≡ false
    → IsGoing v (turn_of s q f) n
still_to v s [] f n some k still = absurd (omega (arith, some))
still_to v s (p ∷ ps) f n some k still =
    let c = course s p.task p.call p.item in
    let count = same_count c p ps f in
    let room : suc (length ps) + length f ≤ 256 = k.room in
    let within : suc n ≤ suc (length ps) = k.within in
    let longer = no_shorter c p ps in
    record {
      turned = turned_more v (standing s (p ∷ ps) f) k.turned;
      sound = sound_turn s c p ps k.sound;
      waiting = waiting_by s p ps n (omega (arith, within)) still k.waiting;
      within = omega (arith, within, longer);
      room = omega (arith, count, room);
    }

-- by the names of the loop
pub on_moved : (v w w' : Standing) (n : ℕ) → 0 < length w.queue → IsGoing v w n
    → w' ≡ turn_of w.story w.queue w.gone → IsGoing v w' (length w'.queue)
on_moved v w w' n some k is =
    subst (λ (u : Standing). IsGoing v u (length u.queue)) (sym is)
    (moved_to v w.story w.queue w.gone n some k)

pub on_still : (v w w' : Standing) (m n : ℕ) → 0 < length w.queue → IsGoing v w m → m ≡ suc n
    → first_moves w.story w.queue ≡ false → w' ≡ turn_of w.story w.queue w.gone → IsGoing v w' n
on_still v w w' m n some k less still is =
    subst (λ (u : Standing). IsGoing v u n) (sym is)
    (still_to v w.story w.queue w.gone n some (subst (λ i. IsGoing v w i) less k) still)

-- what is sound, and where all wait
pub settled_of : (s : Story) (ps : List (Parked Then)) → IsSound s ps → all_wait s ps ≡ true → IsSettled s ps
settled_of s ps k waiting = record {
  regs = k.regs;
  legal = k.legal;
  ordered = legal_is_ordered s.limits s.terms s.past k.legal;
  waiting = waiting;
  once = k.once;
}

-- where nobody is left to be asked, all wait
pub settled_where : (v w : Standing) (n : ℕ) → IsGoing v w n → n ≤ 0 → IsSettled w.story w.queue
settled_where v w n k none =
    let is : n ≡ 0 = omega (arith, none) in
    settled_of w.story w.queue k.sound (subst (λ i. all_wait w.story (drop i w.queue) ≡ true) is k.waiting)

lighter_to : (s : Story) (q : List (Parked Then)) (f : List Freed) → 0 < length q → first_moves s q ≡ true
    → weight (turn_of s q f).queue + 1 ≤ weight q
lighter_to s [] f some k = absurd (omega (arith, some))
lighter_to s (p ∷ ps) f some k = lighter s p ps k

no_heavier_to : (s : Story) (q : List (Parked Then)) (f : List Freed) → 0 < length q
    → weight (turn_of s q f).queue ≤ weight q
no_heavier_to s [] f some = absurd (omega (arith, some))
no_heavier_to s (p ∷ ps) f some = no_heavier s p ps

-- a turn that adds an event leaves fewer to come
pub lighter_on : (w w' : Standing) → 0 < length w.queue → first_moves w.story w.queue ≡ true
    → w' ≡ turn_of w.story w.queue w.gone → weight w'.queue + 1 ≤ weight w.queue
lighter_on w w' some k is =
    subst (λ (u : Standing). weight u.queue + 1 ≤ weight w.queue) (sym is)
    (lighter_to w.story w.queue w.gone some k)

-- and no turn leaves more
pub no_heavier_on : (w w' : Standing) → 0 < length w.queue → w' ≡ turn_of w.story w.queue w.gone
    → weight w'.queue ≤ weight w.queue
no_heavier_on w w' some is =
    subst (λ (u : Standing). weight u.queue ≤ weight w.queue) (sym is)
    (no_heavier_to w.story w.queue w.gone some)

-- the parts of a turn, by the call of the first
pub turn_is : (s : Story) (q : List (Parked Then)) (f : List Freed) (p : Parked Then)
    (ps : List (Parked Then))
    (c : Course) (w : Standing) → q ≡ p ∷ ps → c ≡ course s p.task p.call p.item
    → w.story ≡ story_after s p.task p.call → w.queue ≡ queue_after c p ps → w.gone ≡ gone_after c p.task f
    → w ≡ turn_of s q f
turn_is s q f p ps c w is by a b d =
    let s' = story_after s p.task p.call in
    let by_course : Course → Standing = λ x. standing s' (queue_after x p ps) (gone_after x p.task f) in
    ap (λ (v : Story). standing v w.queue w.gone) a
    ∙ (ap (λ (l : List (Parked Then)). standing s' l w.gone) b
    ∙ (ap (λ (l : List Freed). standing s' (queue_after c p ps) l) d
    ∙ (ap by_course by ∙ ap (λ (l : List (Parked Then)). turn_of s l f) (sym is))))
