-- A run by picks follows its program.
use Rattle.std.proofs.Common.{ℕ, zero, suc, ◌+◌, ◌≡◌, Bool, true, false, ◌&&◌, ◌==◌, not, List, [], ◌∷◌, map, Option, Some, None, Result, Ok, Err, refl, sym, subst, if◌then◌else◌}
use Rattle.std.proofs.lemmas.Cmp.{int_eq_equiv}
use Rattle.std.proofs.lemmas.Bool.{and_from, eq-eqb}
use Rattle.phase_modes.specs.declared.reg.Mode.{Mode}
use Rattle.phase_modes.specs.declared.reg.Mode.TheVariants as modes
use Rattle.phase_modes.specs.declared.phased.Pair.{Pair}
use Rattle.phase_modes.specs.declared.refusal.Refusal.{Refusal}
use Rattle.phase_modes.specs.Refusal.{number_of}
use Rattle.phase_model.specs.declared.op.Op.{Op}
use Rattle.phase_model.specs.declared.terms.Terms.{Terms}
use Rattle.phase_model.specs.declared.op.Op.TheVariants.{Sum, Least, Greatest}
use Rattle.job_script.specs.declared.head.Head.{Head}
use Rattle.job_script.specs.declared.head.Head.TheVariants as acts
use Rattle.job_script.specs.Acts.{Act}
use Rattle.job_script.specs.Program.{Program}
use Rattle.job_script.specs.Steps.{meaning, pair_for}
use Rattle.world_model.specs.declared.event.Tried.{Tried}
use Rattle.world_model.specs.declared.event.Tried.TheVariants.{Begun as Beginning, New, Open, Send as Sending, Look as Looking}
use Rattle.world_model.specs.declared.event.WorldEvent.{WorldEvent}
use Rattle.world_model.specs.declared.event.WorldEvent.TheVariants.{Refuse}
use Rattle.world_model.specs.declared.reply.Reply.{Reply}
use Rattle.world_model.specs.Due.{is_idle, next_event}
use Rattle.world_model.specs.Continuing.{same_mode, same_number}
use Rattle.world_model.specs.Numbers.{is_named}
use Rattle.world_model.specs.Replies.{reply, is_made}
use Rattle.world_model.specs.Tasks.{is_born, is_ended}
use Rattle.world_model.specs.Drawing.{own_pairs}
use Rattle.trace_walk.specs.Scripts.{Numbers, act_of, meanings, next_act, tried_as, tried_next, tried}
use Rattle.trace_walk.specs.Follows.{same_op, same_ops, same_terms, same_pairs, same_act, drawn, is_next, follows}
use Rattle.trace_walk.specs.Picks.{Asked, unused, event_of, going_on, asked, reported_or, made, pick, picked, round_from, rounds, run_within}
use Rattle.trace_walk.proofs.NoActs.{next-continues}

-- ---- an act is the same as itself

eq_self : (n : ℕ) → n == n ≡ true
eq_self n = eq-eqb n n refl

op_self : (o : Op) → same_op o o ≡ true
op_self Sum = refl
op_self Least = refl
op_self Greatest = refl

ops_self : (os : List Op) → same_ops os os ≡ true
ops_self [] = refl
ops_self (o ∷ os) = and_from _ _ (op_self o) (ops_self os)

terms_self : (x : Terms) → same_terms x x ≡ true
terms_self x = and_from _ _ (ops_self x.ops) (number_self x.bound)
  where
    number_self : (o : Option ℕ) → same_number o o ≡ true
    number_self None = refl
    number_self (Some b) = eq_self b

mode_self : (m : Mode) → same_mode m m ≡ true
mode_self modes.Sig = refl
mode_self modes.Wait = refl
mode_self modes.SigWait = refl
mode_self modes.Single = refl

pairs_self : (ps : List Pair) → same_pairs ps ps ≡ true
pairs_self [] = refl
pairs_self (p ∷ ps) = and_from _ _ (and_from _ _ (eq_self p.phaser) (mode_self p.mode)) (pairs_self ps)

-- ---- an act that is tried by its own numbers

head_self : (w : List WorldEvent) (t : ℕ) (ms : List ℕ) (new : Numbers) (h : Head) → same_act (tried_as w t ms new h) (tried_as w t ms (drawn (tried_as w t ms new h)) h) ≡ true
head_self w t ms new (acts.New name m terms) = and_from _ _ (and_from _ _ (eq_self new.phaser) (mode_self m)) (terms_self terms)
head_self w t ms new (acts.Async xs) = and_from _ _ (eq_self new.task) (pairs_self (map (pair_for ms) xs))
head_self w t ms new acts.AsyncAll = and_from _ _ (eq_self new.task) (pairs_self (own_pairs t w))
head_self w t ms new acts.OpenFinish = eq_self new.finish
head_self w t ms new acts.ShutFinish = refl
head_self w t ms new acts.Signal = refl
head_self w t ms new acts.Wait = refl
head_self w t ms new acts.Next = refl
head_self w t ms new (acts.NextSingle n) = eq_self n
head_self w t ms new (acts.Send name a v) = and_from _ _ (and_from _ _ (eq_self (meaning ms name)) (eq_self a)) (int_eq_equiv.refl v)
head_self w t ms new (acts.Look name a) = and_from _ _ (eq_self (meaning ms name)) (eq_self a)
head_self w t ms new (acts.Repeat k) = refl

next_self : (w : List WorldEvent) (t : ℕ) (ms : List ℕ) (new : Numbers) (o : Option Act) → same_act (tried_next w t ms new o) (tried_next w t ms (drawn (tried_next w t ms new o)) o) ≡ true
next_self w t ms new None = refl
next_self w t ms new (Some a) = head_self w t ms new a.head

pub tried-is-next : (p : Program) (w : List WorldEvent) (t : ℕ) (new : Numbers) → is_next p w (Some (record { task = t; act = tried p w t new })) ≡ true
tried-is-next p w t new = next_self w t (meanings p w t) new (next_act p w t)

-- the event by which an act is made is that act
pub act-of-event : (t : ℕ) (a : Tried) → act_of (event_of t a) ≡ Some (record { task = t; act = a })
act-of-event t (New n m terms) = refl
act-of-event t (Open f) = refl
act-of-event t (Sending n a v) = refl
act-of-event t (Looking n a) = refl
act-of-event t (Beginning b) = refl

-- ---- a pick

-- whatever a task asks for is its next act or what continues one, and so is what it reports of a refusal
record AskedFollows (p : Program) (w : List WorldEvent) (a : Asked) : Type 0 where
  pub event : is_next p w (act_of a.event) ≡ true
  pub reporting : (n : ℕ) → is_next p w (act_of (a.reporting n)) ≡ true

by_reply : (p : Program) (w : List WorldEvent) (e : WorldEvent) (b : Bool) → is_next p w (act_of e) ≡ true → follows p w ≡ true → follows p (if b then e ∷ w else w) ≡ true
by_reply p w e true is h = and_from _ _ is h
by_reply p w e false is h = h

reported-follows : (p : Program) (w : List WorldEvent) (a : Asked) (r : Result Reply Refusal) → AskedFollows p w a → follows p w ≡ true → follows p (reported_or p.limits w a r) ≡ true
reported-follows p w a (Err r) k h = by_reply p w (a.reporting (number_of r)) (is_made (reply p.limits w (a.reporting (number_of r)))) (k.reporting (number_of r)) h
reported-follows p w a (Ok x) k h = by_reply p w a.event (is_made (Ok x)) k.event h

abbrev AllFollow : Program → List WorldEvent → Option Asked → Type 0
AllFollow p w o = (a : Asked) → o ≡ Some a → AskedFollows p w a

made-follows : (p : Program) (w : List WorldEvent) (o : Option Asked) → AllFollow p w o → follows p w ≡ true → follows p (made p.limits w o) ≡ true
made-follows p w None k h = h
made-follows p w (Some a) k h = reported-follows p w a (reply p.limits w a.event) (k a refl) h

beginning : (p : Program) (w : List WorldEvent) (t : ℕ) (new : Numbers) → AskedFollows p w (record { event = event_of t (tried p w t new); reporting = λ n. Refuse t (tried p w t new) n })
beginning p w t new = record {
  event = subst (λ o. is_next p w o ≡ true) (sym (act-of-event t (tried p w t new))) (tried-is-next p w t new);
  reporting = λ n. tried-is-next p w t new;
}

continuing : (p : Program) (w : List WorldEvent) (t : ℕ) (o : Option WorldEvent) → next_event p.limits t w ≡ o → AllFollow p w (going_on t o)
continuing p w t None is = λ a k. absurd cc
continuing p w t (Some e) is = λ a k.
    subst (λ x. AskedFollows p w x) (got _ a k) (record {
      event = subst (λ o. is_next p w o ≡ true) (sym (next-continues p.limits t w e is)) refl;
      reporting = λ n. refl;
    })
  where
    got : (x y : Asked) → Some x ≡ Some y → x ≡ y
    got x y h = cc

asked-follows : (p : Program) (w : List WorldEvent) (t : ℕ) → AllFollow p w (asked p w t)
asked-follows p w t = by_idle (is_idle t w) (is_born t w && not (is_ended t w))
  where
    got : (x y : Asked) → Some x ≡ Some y → x ≡ y
    got x y h = cc

    by_idle : (b c : Bool) → AllFollow p w (if b then Some (record { event = event_of t (tried p w t (unused p.limits w)); reporting = λ n. Refuse t (tried p w t (unused p.limits w)) n }) else (if c then going_on t (next_event p.limits t w) else None))
    by_idle true c = λ a k. subst (λ x. AskedFollows p w x) (got _ a k) (beginning p w t (unused p.limits w))
    by_idle false true = continuing p w t (next_event p.limits t w) refl
    by_idle false false = λ a k. absurd cc

pub pick-follows : (p : Program) (w : List WorldEvent) (t : ℕ) → follows p w ≡ true → follows p (pick p w t) ≡ true
pick-follows p w t h = made-follows p w (asked p w t) (asked-follows p w t) h

-- ---- a run

picked-follows : (p : Program) (w : List WorldEvent) (ts : List ℕ) → follows p w ≡ true → follows p (picked p w ts) ≡ true
picked-follows p w [] h = h
picked-follows p w (t ∷ ts) h = picked-follows p (pick p w t) ts (pick-follows p w t h)

either : (b : Bool) (p : Program) (v w : List WorldEvent) → follows p v ≡ true → follows p w ≡ true → follows p (if b then v else w) ≡ true
either true p v w g h = g
either false p v w g h = h

round-follows : (left t : ℕ) (p : Program) (w : List WorldEvent) → follows p w ≡ true → follows p (round_from left t p w) ≡ true
round-follows zero t p w h = h
round-follows (suc left) t p w h = either (is_named t w) p (round_from left (t + 1) p (pick p w t)) w (round-follows left (t + 1) p (pick p w t) (pick-follows p w t h)) h

rounds-follow : (most : ℕ) (p : Program) (w : List WorldEvent) → follows p w ≡ true → follows p (rounds most p w) ≡ true
rounds-follow zero p w h = h
rounds-follow (suc more) p w h = either (is_ended 0 w) p w (rounds more p (round_from p.limits.tasks 0 p w)) h (rounds-follow more p (round_from p.limits.tasks 0 p w) (round-follows p.limits.tasks 0 p w h))

pub runs-follow : (p : Program) (picks : List ℕ) (most : ℕ) → follows p (run_within most p picks) ≡ true
runs-follow p picks most = rounds-follow most p (picked p [] picks) (picked-follows p [] picks refl)
