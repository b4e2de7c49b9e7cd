-- A step leaves a world a world, and a world is never stuck.
use Rattle.std.proofs.Common.{◌≡◌, false, List, ◌∷◌, Result, sym, subst, inl, inr}
use Rattle.std.proofs.lemmas.Bool.{cases_Bool}
use Rattle.phase_modes.specs.declared.refusal.Refusal.{Refusal}
use Rattle.world_model.specs.declared.event.WorldEvent.{WorldEvent}
use Rattle.world_model.specs.declared.reply.Reply.{Reply}
use Rattle.world_model.specs.Replies.{is_made}
use Rattle.world_model.specs.Able.{is_stuck}
use Rattle.world_model.proofs.NeverStuck.{nobody_is_stuck}
use Rattle.world_records.specs.WorldState.{WorldState}
use Rattle.world_records.specs.StandsFor.{StandsFor, IsStep, IsWorld}

pub still_a_world : (e : WorldEvent) (old new : WorldState) (r : Result Reply Refusal) → IsStep e old new r → IsWorld old → IsWorld new
still_a_world e old new r step world =
    elim (cases_Bool (is_made r)) [
      | inl made ↦ (e ∷ world.0, step.stands world.0 world.1 made)
      | inr kept ↦ (world.0, subst (λ (s : WorldState). StandsFor world.0 s) (sym (step.unchanged kept)) world.1)
    ]

pub goes_on : (s : WorldState) → IsWorld s → (w : List WorldEvent) × StandsFor w s × (is_stuck s.limits w ≡ false)
goes_on s world = (world.0, world.1, nobody_is_stuck s.limits world.0 world.1.legal)
