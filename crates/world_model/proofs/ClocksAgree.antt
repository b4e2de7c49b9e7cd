-- The clock law of each legal world.
use Rattle.std.proofs.Common.{◌≡◌, true, List, [], ◌∷◌, refl}
use Rattle.std.proofs.lemmas.Bool.{eq-eqb}
use Rattle.phase_modes.specs.declared.limits.Limits.{Limits}
use Rattle.finish_core.specs.declared.event.FinishEvent.TheVariants.{Opened, Spawned, Ended, Shut as Shutting}
use Rattle.world_model.specs.declared.event.Step.TheVariants.{Make, Reg, Sig, Claim, Did, Pass, Send, Look, Drop}
use Rattle.world_model.specs.declared.event.WorldEvent.{WorldEvent}
use Rattle.world_model.specs.declared.event.WorldEvent.TheVariants.{Phaser, Finish, Begin, Refuse, Fail}
use Rattle.world_model.specs.Replies.{is_legal_world, is_accepted}
use Rattle.world_model.specs.ClockLaws.{ClocksAgree}
use Rattle.world_model.proofs.MadeMeans.{last_accepted}
use Rattle.world_model.proofs.ClockStays.{Both, after_send, after_look, after_claim, after_did, after_sig, after_drop, after_opened, after_ended, after_shut, after_make}
use Rattle.world_model.proofs.ClockOfChild.{after_reg, after_birth}
use Rattle.world_model.proofs.ClockAfterActs.{after_pass, after_begin, abrupt}

pub both : (l : Limits) (w : List WorldEvent) → is_legal_world l w ≡ true → Both w
both l [] k = (λ t n a b c. absurd cc, λ t n a b c. absurd cc)
both l (e ∷ w) k =
    let a = last_accepted l e w k in
    by_event l e w a.1 (both l w a.1) a.0
  where
    by_event : (l : Limits) (e : WorldEvent) (w : List WorldEvent) → is_legal_world l w ≡ true → Both w
        → is_accepted l w e ≡ true → Both (e ∷ w)
    by_event l (Phaser m (Make u mode terms)) w k b h = after_make l w k b m u mode terms h
    by_event l (Phaser m (Reg q c mode)) w k b h = after_reg l w k b m q c mode h
    by_event l (Phaser m (Sig u x)) w k b h = after_sig l w k b m u x h
    by_event l (Phaser m (Claim u)) w k b h = after_claim l w k b m u
    by_event l (Phaser m (Did u)) w k b h = after_did l w k b m u
    by_event l (Phaser m (Pass u)) w k b h = after_pass l w k b m u h
    by_event l (Phaser m (Send u c v)) w k b h = after_send l w k b m u c v h
    by_event l (Phaser m (Look u c)) w k b h = after_look l w k b m u c h
    by_event l (Phaser m (Drop u)) w k b h = after_drop l w k b m u h
    by_event l (Finish f (Opened u)) w k b h = after_opened l w k b f u h
    by_event l (Finish f (Spawned c)) w k b h = after_birth l w k b f c h
    by_event l (Finish f (Ended u)) w k b h = after_ended l w k b f u h
    by_event l (Finish f Shutting) w k b h = after_shut l w k b f h
    by_event l (Begin u y) w k b h = after_begin l w k b u y h
    by_event l (Refuse u x n) w k b h =
        abrupt l w k b u (Refuse u x n) refl refl (eq-eqb u u refl) (λ n. refl) (λ n. refl)
        (λ t. refl) (λ t. refl)
    by_event l (Fail u n) w k b h =
        abrupt l w k b u (Fail u n) refl refl (eq-eqb u u refl) (λ n. refl) (λ n. refl)
        (λ t. refl) (λ t. refl)

-- the clock law
pub clocks_agree : ClocksAgree
clocks_agree l w k t n a b c = (both l w k).0 t n a b c
