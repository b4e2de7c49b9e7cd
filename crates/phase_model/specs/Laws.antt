-- What holds over every list of calls.
use Rattle.std.specs.Prelude.{◌≡◌, ◌↔◌, true, List, [], ◌∷◌}
use Rattle.phase_model.specs.Ordering.{IsOrdered}
use Rattle.phase_model.specs.declared.call.Call.{Call}
use Rattle.phase_model.specs.Replies.{reply, done, event_for, after}
use Rattle.phase_model.specs.Rules.{Story, is_allowed, is_legal}

-- the story after a list of calls
abbrev pub after_calls : Story → List Call → Story
after_calls s [] = s
after_calls s (c ∷ cs) = after_calls (after s (reply s c)) cs

-- the story's history is legal
abbrev pub IsLegal : Story → Type 0
IsLegal s = is_legal s.limits s.terms s.past ≡ true

-- from a legal history every list of calls leads to a legal one, in which phases are ordered
abbrev pub CallsKeepLegal : Type 0
CallsKeepLegal = (s : Story) (cs : List Call) → IsLegal s
    → IsLegal (after_calls s cs) × IsOrdered (after_calls s cs).past

-- in a legal story a call is done exactly if the event that it would add is allowed
abbrev pub DoneWhereAllowed : Type 0
DoneWhereAllowed = (s : Story) (c : Call) → IsLegal s
    → (reply s c ≡ done (event_for s.limits s.terms s.past c))
    ↔ (is_allowed s.limits s.terms s.past (event_for s.limits s.terms s.past c) ≡ true)
