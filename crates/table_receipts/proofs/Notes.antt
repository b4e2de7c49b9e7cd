-- A log and the story that it tells.
use Rattle.std.proofs.Common.{◌≡◌, ◌⊎◌, inl, inr, ◌<◌, ◌≤◌, false, List, [], ◌∷◌, ◌++◌, length, map, refl, ap, sym, ◌∙◌, subst, arith}
use Rattle.phase_modes.specs.declared.limits.Limits.{Limits}
use Rattle.phase_modes.specs.Lists.{is_empty}
use Rattle.phase_model.specs.declared.history.Event.{Event}
use Rattle.phase_model.specs.declared.terms.Terms.{Terms}
use Rattle.phase_model.specs.Rules.{Story}
use Rattle.told_history.specs.Tails.{IsTail}
use Rattle.long_locks.proofs.Tails.{mapped}
use Rattle.table_receipts.specs.declared.noted.Noted.{Noted}
use Rattle.table_receipts.specs.Logs.{terms_in, story_of, notes_of, with_newest}
use Rattle.told_history.specs.Stories.{GoesOn, Follows}

-- an event with what the phaser was made with
abbrev noted : Terms → Event → Noted
noted terms e = record { terms = terms; event = e }

event_of : Noted → Event
event_of n = n.event

-- each entry of a log that was made so has these terms
terms_at : (terms : Terms) (newer : List Noted) (x : Noted) (rest : List Noted) (es : List Event)
    → newer ++ x ∷ rest ≡ map (noted terms) es → x.terms ≡ terms
terms_at terms [] x rest [] k = absurd (cc k)
terms_at terms [] x rest (e ∷ es) k =
    let head : x ≡ noted terms e = cc k in
    ap (λ (n : Noted). n.terms) head
terms_at terms (n ∷ newer) x rest [] k = absurd (cc k)
terms_at terms (n ∷ newer) x rest (e ∷ es) k = terms_at terms newer x rest es (cc k)

same_terms : (a b newer : List Noted) → b ≡ newer ++ a → b ≡ map (noted (terms_in b)) (map (λ n. n.event) b) → is_empty (map (λ n. n.event) a) ≡ false → terms_in b ≡ terms_in a
same_terms [] b newer tail each some = absurd (cc some)
same_terms (x ∷ a) b newer tail each some = sym (terms_at (terms_in b) newer x a (map (λ n. n.event) b) (sym tail ∙ each))

pub goes_on : (l : Limits) (a b : List Noted) → b ≡ notes_of (story_of l b) → IsTail a b → GoesOn (story_of l a) (story_of l b)
goes_on l a b each tail = (refl, mapped (λ (n : Noted). n.event) a b tail, same_terms a b tail.0 tail.1 each)

pub either_goes_on : (l : Limits) (a b : List Noted) → a ≡ notes_of (story_of l a) → b ≡ notes_of (story_of l b) → IsTail a b ⊎ IsTail b a → GoesOn (story_of l a) (story_of l b) ⊎ GoesOn (story_of l b) (story_of l a)
either_goes_on l a b each_a each_b (inl t) = inl (goes_on l a b each_b t)
either_goes_on l a b each_a each_b (inr t) = inr (goes_on l b a each_a t)

-- the log with one event more tells the story with it
pub record Tells (l : Limits) (log : List Noted) (s : Story) : Type 0 where
  pub is : story_of l log ≡ s
  pub each : log ≡ notes_of (story_of l log)

all_noted : (a : List Noted) (terms : Terms) → a ≡ map (noted (terms_in a)) (map (λ n. n.event) a) → (is_empty (map (λ n. n.event) a) ≡ false → terms ≡ terms_in a) → a ≡ map (noted terms) (map (λ n. n.event) a)
all_noted [] terms each same = refl
all_noted (x ∷ a) terms each same = each ∙ ap (λ (t : Terms). map (noted t) (map (λ n. n.event) (x ∷ a))) (sym (same refl))

one_more : (l l' : Limits) (a : List Noted) (terms : Terms) (e : Event) (past : List Event)
    → a ≡ notes_of (story_of l a) → past ≡ e ∷ map (λ n. n.event) a → l' ≡ l → (is_empty (map (λ n. n.event) a) ≡ false → terms ≡ terms_in a)
    → Tells l (with_newest (record { limits = l'; terms = terms; past = past }) a) (record { limits = l'; terms = terms; past = past })
one_more l l' a terms e past each is limits same =
    subst (λ (h : List Event). Tells l (with_newest (record { limits = l'; terms = terms; past = h }) a) (record { limits = l'; terms = terms; past = h })) (sym is)
    (record {
      is = ap (λ (k : Limits). record { limits = k; terms = terms; past = e ∷ map (λ n. n.event) a }) (sym limits);
      each = ap (λ (r : List Noted). noted terms e ∷ r) (all_noted a terms each same);
    })

pub followed : (l : Limits) (a : List Noted) (s : Story) → a ≡ notes_of (story_of l a) → Follows (story_of l a) s → length (story_of l a).past < length s.past → Tells l (with_newest s a) s
followed l a s each (inl same) longer = absurd (omega (arith, longer, ap (λ (v : Story). length v.past) same))
followed l a s each (inr one) longer = one_more l s.limits a s.terms one.0 s.past each one.1 one.2 one.3

-- where no event was added, it is the same story
pub stayed : (s s' : Story) → Follows s s' → length s'.past ≤ length s.past → s' ≡ s
stayed s s' (inl same) short = same
stayed s s' (inr one) short = absurd (omega (arith, short, ap (λ (h : List Event). length h) one.1))
