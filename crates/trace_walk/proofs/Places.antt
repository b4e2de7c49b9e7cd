-- The place at which a trace leaves its bodies, as its entries are gone through.
use Rattle.std.proofs.Common.{ℕ, ◌+◌, ◌<◌, ◌≤◌, ◌≡◌, Bool, true, false, List, [], ◌∷◌, ◌++◌, reverse, take, drop, get_or, length, Some, None, refl, sym, ap, subst, ◌∙◌, if◌then◌else◌}
use Rattle.std.proofs.lemmas.List.{map-append, reverse-append, take_more, at_drop_more, at_drop_all}
use Rattle.job_script.specs.declared.act.Answer.{Answer}
use Rattle.world_model.specs.declared.event.WorldEvent.{WorldEvent}
use Rattle.trace_walk.specs.Scripts.{act_of}
use Rattle.trace_model.specs.Explained.{event_of, past}
use Rattle.trace_model.specs.Run.{Entry}
use Rattle.trace_model.specs.declared.event.TracedEvent.{TracedEvent}
use Rattle.trace_walk.specs.History.{history}
use Rattle.trace_walk.specs.Walking.{Does, first_astray, is_due}

-- the history of entries is that of the entries turned round
pub past_reversed : (es : List Entry) → past (reverse es) ≡ history es
past_reversed [] = refl
past_reversed (e ∷ es) =
    ap (λ (xs : List Entry). past xs) (reverse-append (e ∷ []) es)
    ∙ (map-append (λ (x : Entry). event_of x.1) (reverse es) (e ∷ [])
    ∙ (ap (λ (ws : List WorldEvent). ws ++ event_of e.1 ∷ []) (past_reversed es)
    ∙ sym (reverse-append (event_of e.1 ∷ []) (past es))))

-- the newest of one entry more
pub newest : (xs : List Entry) (i : ℕ) (d : Entry) → i < length xs
    → reverse (take (i + 1) xs) ≡ get_or xs i d ∷ reverse (take i xs)
newest xs i d h =
    ap (λ (ys : List Entry). reverse ys) (take_more xs i d h) ∙ reverse-append (take i xs) (get_or xs i d ∷ [])

module _ {B : Type 0} (next : Answer → B → Does B) (root : B) where
  next_place : (es : List Entry) (k : ℕ) (x : Entry) (xs : List Entry)
      → is_due next root es (act_of (event_of x.1)) ≡ true
      → first_astray next root es k (x ∷ xs) ≡ first_astray next root (x ∷ es) (k + 1) xs
  next_place es k x xs h =
      ap (λ (b : Bool). if b then first_astray next root (x ∷ es) (k + 1) xs else Some (k + 1)) h

  this_place : (es : List Entry) (k : ℕ) (x : Entry) (xs : List Entry)
      → is_due next root es (act_of (event_of x.1)) ≡ false
      → first_astray next root es k (x ∷ xs) ≡ Some (k + 1)
  this_place es k x xs h =
      ap (λ (b : Bool). if b then first_astray next root (x ∷ es) (k + 1) xs else Some (k + 1)) h

  -- after an event that is no act or the one due, the place is still to come
  pub goes_on : (xs : List Entry) (i : ℕ) (d : Entry) (e : TracedEvent) → i < length xs
      → e ≡ (get_or xs i d).1 → is_due next root (reverse (take i xs)) (act_of (event_of e)) ≡ true
      → first_astray next root (reverse (take i xs)) i (drop i xs)
      ≡ first_astray next root (reverse (take (i + 1) xs)) (i + 1) (drop (i + 1) xs)
  goes_on xs i d e h is due =
      at_drop_more (λ (ys : List Entry). first_astray next root (reverse (take i xs)) i ys) xs i d h
      ∙ (next_place (reverse (take i xs)) i (get_or xs i d) (drop (i + 1) xs)
      (subst (λ (v : TracedEvent). is_due next root (reverse (take i xs)) (act_of (event_of v)) ≡ true) is due)
      ∙ ap (λ (es : List Entry). first_astray next root es (i + 1) (drop (i + 1) xs)) (sym (newest xs i d h)))

  -- any other event is the place
  pub ends_here : (xs : List Entry) (i : ℕ) (d : Entry) (e : TracedEvent) → i < length xs
      → e ≡ (get_or xs i d).1 → is_due next root (reverse (take i xs)) (act_of (event_of e)) ≡ false
      → first_astray next root (reverse (take i xs)) i (drop i xs) ≡ Some (i + 1)
  ends_here xs i d e h is due =
      at_drop_more (λ (ys : List Entry). first_astray next root (reverse (take i xs)) i ys) xs i d h
      ∙ this_place (reverse (take i xs)) i (get_or xs i d) (drop (i + 1) xs)
      (subst (λ (v : TracedEvent). is_due next root (reverse (take i xs)) (act_of (event_of v)) ≡ false) is due)

  -- after the last event there is none
  pub no_place : (xs : List Entry) (i : ℕ) → length xs ≤ i
      → first_astray next root (reverse (take i xs)) i (drop i xs) ≡ None
  no_place xs i h =
      at_drop_all (λ (ys : List Entry). first_astray next root (reverse (take i xs)) i ys) xs i h
