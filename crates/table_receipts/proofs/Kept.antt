-- The log follows the phaser, and the call has its receipt.
use Rattle.std.proofs.Common.{◌≡◌, ℕ, List, Result, refl, sym, ap, ◌∙◌, subst}
use Rattle.phase_modes.specs.declared.reg.Mode.{Mode}
use Rattle.phase_modes.specs.declared.refusal.Refusal.{Refusal}
use Rattle.phase_model.specs.declared.call.Call.{Call}
use Rattle.phase_model.specs.declared.call.Call.TheVariants.{Make as make}
use Rattle.phase_model.specs.declared.history.Event.{Event}
use Rattle.phase_model.specs.declared.terms.Terms.{Terms}
use Rattle.phase_model.specs.Replies.{Reply, reply, after, done_result}
use Rattle.phase_model.specs.Rules.{Story}
use Rattle.phase_model.specs.Answers.{made_with}
use Rattle.told_history.specs.Stories.{GoesOn, Follows, IsAnswered, IsMade}
use Rattle.told_history.proofs.Goes.{follows_after, follows_made}
use Rattle.table_receipts.specs.Logs.{Sight}

pub follows : (log s s' : Story) (r : Reply) → log ≡ s → s' ≡ after s r → Follows log s'
follows log s s' r same now =
    subst (λ (v : Story). Follows v s') (sym same) (subst (λ (v : Story). Follows s v) (sym now) (follows_after s r))

pub made_follows : (log s s' : Story) (terms : Terms) (t : ℕ) (m : Mode) → log ≡ s → s' ≡ made_with s terms (reply s (make t m)) → Follows log s'
made_follows log s s' terms t m same now =
    subst (λ (v : Story). Follows v s') (sym same) (subst (λ (v : Story). Follows s v) (sym now) (follows_made s terms t m (reply s (make t m)) refl))

pub receipt : (Is : List Event → Reply → Type 0) (c : Call) (seen log s history : Story) (followed front : Sight)
    → log ≡ s → GoesOn seen log → Is s.past (reply s c) → history ≡ after s (reply s c) → followed.story ≡ history → front ≡ followed
    → IsAnswered Is c seen front.story
receipt Is c seen log s history followed front same goes is now follow all =
    (s, subst (λ (v : Story). GoesOn seen v) same goes, is, ap (λ (x : Sight). x.story) all ∙ (follow ∙ now))

pub made_receipt : (answer : Result (Unit {0}) Refusal) (c : Call) (terms : Terms) (seen log s history : Story) (followed front : Sight)
    → log ≡ s → GoesOn seen log → answer ≡ done_result (reply s c) → history ≡ made_with s terms (reply s c) → followed.story ≡ history → front ≡ followed
    → IsMade answer c terms seen front.story
made_receipt answer c terms seen log s history followed front same goes is now follow all =
    (s, subst (λ (v : Story). GoesOn seen v) same goes, is, ap (λ (x : Sight). x.story) all ∙ (follow ∙ now))
