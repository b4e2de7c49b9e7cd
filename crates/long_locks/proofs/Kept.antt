-- The whole history is again the phaser's, and the call has its receipt.
use Rattle.std.proofs.Common.{◌≡◌, List, Option, refl, sym, ap, ◌∙◌, subst}
use Rattle.phase_model.specs.declared.call.Call.{Call}
use Rattle.phase_model.specs.declared.history.Event.{Event}
use Rattle.phase_model.specs.declared.terms.Terms.{Terms}
use Rattle.phase_model.specs.Replies.{Reply, refused, not_yet, done, reply, after}
use Rattle.phase_model.specs.Rules.{Story}
use Rattle.told_history.specs.declared.wide.LongEvent.{LongEvent}
use Rattle.told_history.specs.Tails.{IsTail}
use Rattle.long_locks.specs.Events.{with_one}
use Rattle.long_locks.specs.Told.{story_of, IsAnswered}

-- a reply leaves the limits and the terms
same_terms : (s : Story) (r : Reply) → after s r ≡ record { limits = s.limits; terms = s.terms; past = (after s r).past }
same_terms s (refused e) = refl
same_terms s not_yet = refl
same_terms s (done e) = refl

pub kept : (terms : Terms) (h h' : List Event) (s s' : Story) (r : Reply) (o : Option LongEvent)
    → s ≡ story_of terms h → s' ≡ after s r → h' ≡ with_one o h → (after s r).past ≡ with_one o s.past → s' ≡ story_of terms h'
kept terms h h' s s' r o is now noted adds =
    let so : (after s r).past ≡ h' = adds ∙ (ap (λ (v : Story). with_one o v.past) is ∙ sym noted) in
    now ∙ (same_terms s r ∙ (ap (λ (v : Story). record { limits = v.limits; terms = v.terms; past = (after s r).past }) is ∙ ap (story_of terms) so))

pub receipt : (Is : List Event → Reply → Type 0) (terms : Terms) (c : Call) (seen h now : List Event) (s s' : Story)
    → s ≡ story_of terms h → IsTail seen h → Is s.past (reply s c) → s' ≡ after s (reply s c) → now ≡ s'.past → IsAnswered Is terms c seen now
receipt Is terms c seen h now s s' same tail is after_it all = (
  h,
  tail,
  subst (λ (v : Story). Is v.past (reply v c)) same is,
  all ∙ ap (λ (v : Story). v.past) (after_it ∙ ap (λ (v : Story). after v (reply v c)) same),
)
