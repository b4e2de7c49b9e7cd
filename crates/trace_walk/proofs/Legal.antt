-- Each event of a run by picks is accepted.
use Rattle.std.proofs.Common.{ℕ, zero, suc, ◌+◌, ◌≡◌, Bool, true, false, List, [], ◌∷◌, Option, Some, None, Result, Ok, Err, refl, subst, if◌then◌else◌}
use Rattle.std.proofs.lemmas.Bool.{and_from}
use Rattle.phase_modes.specs.declared.limits.Limits.{Limits}
use Rattle.phase_modes.specs.declared.refusal.Refusal.{Refusal}
use Rattle.phase_modes.specs.Refusal.{number_of}
use Rattle.job_script.specs.Program.{Program}
use Rattle.world_model.specs.declared.event.WorldEvent.{WorldEvent}
use Rattle.world_model.specs.declared.reply.Reply.{Reply}
use Rattle.world_model.specs.Replies.{after, reply, is_made, is_legal_world}
use Rattle.world_model.specs.Numbers.{is_named}
use Rattle.world_model.specs.Tasks.{is_ended}
use Rattle.trace_walk.specs.Picks.{Asked, asked, reported_or, made, pick, picked, round_from, rounds, run_within}

-- what follows an event that was made or wasn't is legal
by_reply : (l : Limits) (w : List WorldEvent) (e : WorldEvent) (b : Bool) → is_made (reply l w e) ≡ b → is_legal_world l w ≡ true → is_legal_world l (if b then e ∷ w else w) ≡ true
by_reply l w e true is h = and_from _ _ is h
by_reply l w e false is h = h

after-legal : (l : Limits) (w : List WorldEvent) (e : WorldEvent) → is_legal_world l w ≡ true → is_legal_world l (after w e (reply l w e)) ≡ true
after-legal l w e h = by_reply l w e (is_made (reply l w e)) refl h

reported-legal : (l : Limits) (w : List WorldEvent) (a : Asked) (r : Result Reply Refusal) → reply l w a.event ≡ r → is_legal_world l w ≡ true → is_legal_world l (reported_or l w a r) ≡ true
reported-legal l w a (Err r) is h = after-legal l w (a.reporting (number_of r)) h
reported-legal l w a (Ok x) is h = subst (λ s. is_legal_world l (after w a.event s) ≡ true) is (after-legal l w a.event h)

made-legal : (l : Limits) (w : List WorldEvent) (o : Option Asked) → is_legal_world l w ≡ true → is_legal_world l (made l w o) ≡ true
made-legal l w None h = h
made-legal l w (Some a) h = reported-legal l w a (reply l w a.event) refl h

pub pick-legal : (p : Program) (w : List WorldEvent) (t : ℕ) → is_legal_world p.limits w ≡ true → is_legal_world p.limits (pick p w t) ≡ true
pick-legal p w t h = made-legal p.limits w (asked p w t) h

picked-legal : (p : Program) (w : List WorldEvent) (ts : List ℕ) → is_legal_world p.limits w ≡ true → is_legal_world p.limits (picked p w ts) ≡ true
picked-legal p w [] h = h
picked-legal p w (t ∷ ts) h = picked-legal p (pick p w t) ts (pick-legal p w t h)

either : (b : Bool) (l : Limits) (v w : List WorldEvent) → is_legal_world l v ≡ true → is_legal_world l w ≡ true → is_legal_world l (if b then v else w) ≡ true
either true l v w g h = g
either false l v w g h = h

round-legal : (left t : ℕ) (p : Program) (w : List WorldEvent) → is_legal_world p.limits w ≡ true → is_legal_world p.limits (round_from left t p w) ≡ true
round-legal zero t p w h = h
round-legal (suc left) t p w h = either (is_named t w) p.limits (round_from left (t + 1) p (pick p w t)) w (round-legal left (t + 1) p (pick p w t) (pick-legal p w t h)) h

rounds-legal : (most : ℕ) (p : Program) (w : List WorldEvent) → is_legal_world p.limits w ≡ true → is_legal_world p.limits (rounds most p w) ≡ true
rounds-legal zero p w h = h
rounds-legal (suc more) p w h = either (is_ended 0 w) p.limits w (rounds more p (round_from p.limits.tasks 0 p w)) h (rounds-legal more p (round_from p.limits.tasks 0 p w) (round-legal p.limits.tasks 0 p w h))

pub runs-legal : (p : Program) (picks : List ℕ) (most : ℕ) → is_legal_world p.limits (run_within most p picks) ≡ true
runs-legal p picks most = rounds-legal most p (picked p [] picks) (picked-legal p [] picks refl)
