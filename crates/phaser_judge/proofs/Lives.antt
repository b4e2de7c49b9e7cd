-- What may come is what leaves each phaser's renamed history legal.
use Rattle.std.proofs.Common.{◌≡◌, ℕ, ◌==◌, Bool, true, false, cond, List, [], ◌∷◌, ◌++◌, Option, Some, None, Result, Ok, Err, refl, ap, sym, subst, ◌∙◌, inl, inr}
use Rattle.std.specs.Option.{option_map_or}
use Rattle.std.proofs.lemmas.Bool.{and_parts, and_from, cases_Bool, eq-eqb, eqb-true, false≢true}
use Rattle.phase_modes.specs.Lists.{is_empty}
use Rattle.phase_model.specs.declared.history.Event.{Event}
use Rattle.phase_model.specs.declared.terms.Terms.{Terms}
use Rattle.phase_model.specs.Rules.{Story, is_allowed, is_legal}
use Rattle.phaser_core.specs.LongLife.{long_limits}
use Rattle.phaser_judge.specs.declared.event.Named.{Named}
use Rattle.phaser_judge.specs.declared.event.Named.TheVariants as named
use Rattle.phaser_judge.specs.declared.event.NamedEvent.{NamedEvent}
use Rattle.phaser_judge.specs.declared.refused.Refused.{Refused}
use Rattle.phaser_judge.specs.Standings.{Standing, moved, story_with, is_allowed_of, standing, may_come, stands_after, if_there}
use Rattle.phaser_judge.specs.Numbers.{numbered, names_with, next_after}
use Rattle.phaser_judge.specs.Courses.{Course}
use Rattle.phaser_judge.specs.Renaming.{next, who, terms_of, history_with, renamed, is_legal_life, life_with, since_made, AreLegal, all_come, AcceptedAreLegal}
use Rattle.phaser_judge.proofs.Moving.{same_standing}

-- how a phaser stands after these events of it, with this history
abbrev standing_of : List Event → List Named → Standing
standing_of past h = record {
  story = record { limits = long_limits; terms = terms_of h; past = past };
  names = who h;
  next = next h;
}

abbrev standing_by : Bool → Option (List Event) → List Named → Option Standing
standing_by true o h = None
standing_by false None h = None
standing_by false (Some past) h = Some (standing_of past h)

abbrev life_standing : List Named → Option Standing
life_standing h = standing_by (is_empty (who h)) (renamed h) h

-- the phaser stands as its events say, and they are legal
record Agrees (h : List Named) (o : Option Standing) : Type 0 where
  same : o ≡ life_standing h
  legal : is_legal_life h ≡ true

-- an event that makes no phaser, by its parts
record Unfolds (e : Named) (h : List Named) : Type 0 where
  history : renamed (e ∷ h) ≡ history_with (renamed h) (numbered (who h) (next h) e)
  names : who (e ∷ h) ≡ names_with (who h) (next h) e
  number : next (e ∷ h) ≡ next_after (next h) e
  terms : terms_of (e ∷ h) ≡ terms_of h

unfolds : (e : Named) (h : List Named) (x : Event) → numbered (who h) (next h) e ≡ Ok x → Unfolds e h
unfolds (named.Make t m ops b) h x k = absurd cc
unfolds (named.Reg q t m) h x k = record { history = refl; names = refl; number = refl; terms = refl }
unfolds (named.Sig t n) h x k = record { history = refl; names = refl; number = refl; terms = refl }
unfolds (named.Claim t) h x k = record { history = refl; names = refl; number = refl; terms = refl }
unfolds (named.Did t) h x k = record { history = refl; names = refl; number = refl; terms = refl }
unfolds (named.Pass t) h x k = record { history = refl; names = refl; number = refl; terms = refl }
unfolds (named.Send t a v) h x k = record { history = refl; names = refl; number = refl; terms = refl }
unfolds (named.Look t a y) h x k = record { history = refl; names = refl; number = refl; terms = refl }
unfolds (named.Drop t) h x k = record { history = refl; names = refl; number = refl; terms = refl }

-- after another event every event has its number in the same way
renamed_on : (e y : Named) (h : List Named)
    → renamed (e ∷ y ∷ h) ≡ history_with (renamed (y ∷ h)) (numbered (who (y ∷ h)) (next (y ∷ h)) e)
renamed_on (named.Make t m ops b) y h = refl
renamed_on (named.Reg q t m) y h = refl
renamed_on (named.Sig t n) y h = refl
renamed_on (named.Claim t) y h = refl
renamed_on (named.Did t) y h = refl
renamed_on (named.Pass t) y h = refl
renamed_on (named.Send t a v) y h = refl
renamed_on (named.Look t a x) y h = refl
renamed_on (named.Drop t) y h = refl

-- a phaser begins
begins : (e : Named) → may_come None e ≡ true → Agrees (e ∷ []) (stands_after None e)
begins (named.Make t m ops b) k = record { same = refl; legal = refl }
begins (named.Reg q t m) k = absurd cc
begins (named.Sig t n) k = absurd cc
begins (named.Claim t) k = absurd cc
begins (named.Did t) k = absurd cc
begins (named.Pass t) k = absurd cc
begins (named.Send t a v) k = absurd cc
begins (named.Look t a x) k = absurd cc
begins (named.Drop t) k = absurd cc

-- only a making begins one
begun : (e : Named) → is_legal_life (e ∷ []) ≡ true → may_come None e ≡ true
begun (named.Make t m ops b) k = refl
begun (named.Reg q t m) k = absurd cc
begun (named.Sig t n) k = absurd cc
begun (named.Claim t) k = absurd cc
begun (named.Did t) k = absurd cc
begun (named.Pass t) k = absurd cc
begun (named.Send t a v) k = absurd cc
begun (named.Look t a x) k = absurd cc
begun (named.Drop t) k = absurd cc

if_standing : (b : Bool) (past : List Event) (h : List Named) (s : Standing) → s ≡ standing_of past h
    → cond b None (Some s) ≡ standing_by b (Some past) h
if_standing true past h s k = refl
if_standing false past h s k = ap Some k

module _ (h : List Named) (past : List Event) (is : renamed h ≡ Some past) where
  legal_past : is_legal_life h ≡ true → is_legal long_limits (terms_of h) past ≡ true
  legal_past k = subst (λ o. option_map_or (λ q. is_legal long_limits (terms_of h) q) o false ≡ true) is k

  -- the history with one event more
  more : (e : Named) (x : Event) → numbered (who h) (next h) e ≡ Ok x → renamed (e ∷ h) ≡ Some (x ∷ past)
  more e x k =
      (unfolds e h x k).history
      ∙ (ap (λ o. history_with o (numbered (who h) (next h) e)) is ∙ ap (λ r. history_with (Some past) r) k)

  -- where the phaser stands then
  stands_so : (e : Named) (x : Event) → numbered (who h) (next h) e ≡ Ok x
      → moved (standing_of past h) e ≡ standing_of (x ∷ past) (e ∷ h)
  stands_so e x k =
      let u = unfolds e h x k in
      let story : Story = record { limits = long_limits; terms = terms_of h; past = past } in
      let f : story_with story (numbered (who h) (next h) e)
      ≡ record { limits = long_limits; terms = terms_of (e ∷ h); past = x ∷ past } =
      ap (λ r. story_with story r) k
      ∙ ap (λ (t : Terms). record { limits = long_limits; terms = t; past = x ∷ past }) (sym u.terms) in
      same_standing (moved (standing_of past h) e)
      (record { limits = long_limits; terms = terms_of (e ∷ h); past = x ∷ past }) (who (e ∷ h)) (next (e ∷ h)) f
      (sym u.names) (sym u.number)

  goes : (e : Named) (r : Result Event Refused) → numbered (who h) (next h) e ≡ r → is_legal_life h ≡ true
      → is_allowed_of (standing_of past h).story r ≡ true
      → Agrees (e ∷ h) (if_there (moved (standing_of past h) e))
  goes e (Err q) k l may = absurd cc
  goes e (Ok x) k l may =
      let u = unfolds e h x k in
      let after = more e x k in
      record {
        same =
            if_standing (is_empty (names_with (who h) (next h) e)) (x ∷ past) (e ∷ h)
            (moved (standing_of past h) e) (stands_so e x k)
            ∙ (ap (λ o. standing_by (is_empty (names_with (who h) (next h) e)) o (e ∷ h)) (sym after)
            ∙ ap (λ ns. standing_by (is_empty ns) (renamed (e ∷ h)) (e ∷ h)) (sym u.names));
        legal =
            ap (λ o. option_map_or (λ q. is_legal long_limits (terms_of (e ∷ h)) q) o false) after
            ∙ (ap (λ t. is_legal long_limits t (x ∷ past)) u.terms
            ∙ and_from (is_allowed long_limits (terms_of h) past x) (is_legal long_limits (terms_of h) past) may
            (legal_past l));
      }

  came_so : (e : Named) (r : Result Event Refused) → numbered (who h) (next h) e ≡ r
      → (renamed (e ∷ h) ≡ history_with (renamed h) (numbered (who h) (next h) e))
      → is_legal_life (e ∷ h) ≡ true → is_allowed_of (standing_of past h).story r ≡ true
  came_so e (Err q) k on l =
      let f : renamed (e ∷ h) ≡ None =
      on ∙ (ap (λ o. history_with o (numbered (who h) (next h) e)) is ∙ ap (λ r. history_with (Some past) r) k) in
      absurd (false≢true (sym (ap (λ o. option_map_or (λ q. is_legal long_limits (terms_of (e ∷ h)) q) o false) f) ∙ l))
  came_so e (Ok x) k on l =
      let u = unfolds e h x k in
      let f : is_legal long_limits (terms_of (e ∷ h)) (x ∷ past) ≡ true =
      sym (ap (λ o. option_map_or (λ q. is_legal long_limits (terms_of (e ∷ h)) q) o false) (more e x k)) ∙ l in
      let g : is_legal long_limits (terms_of h) (x ∷ past) ≡ true =
      sym (ap (λ t. is_legal long_limits t (x ∷ past)) u.terms) ∙ f in
      (and_parts (is_allowed long_limits (terms_of h) past x) (is_legal long_limits (terms_of h) past) g).0

-- a phaser with a task has a history that can be renamed
renamed_of : (h : List Named) (o : Option (List Event)) → renamed h ≡ o → is_legal_life h ≡ true
    → (past : List Event) × (renamed h ≡ Some past)
renamed_of h None k l =
    absurd (false≢true (sym (ap (λ o. option_map_or (λ q. is_legal long_limits (terms_of h) q) o false) k) ∙ l))
renamed_of h (Some past) k l = (past, k)

-- so an event leaves it
goes_on : (h : List Named) (o : Option Standing) (e : Named) → Agrees h o → may_come o e ≡ true
    → Agrees (life_with h e) (stands_after o e)
goes_on h o e a may =
    elim (cases_Bool (is_empty (who h))) [
      | inl k ↦
          let none : o ≡ None = a.same ∙ ap (λ b. standing_by b (renamed h) h) k in
          let new = begins e (subst (λ p. may_come p e ≡ true) none may) in
          subst (λ b. Agrees (cond b (e ∷ []) (e ∷ h)) (stands_after o e)) (sym k)
          (subst (λ p. Agrees (e ∷ []) (stands_after p e)) (sym none) new)
      | inr k ↦
          let r = renamed_of h (renamed h) refl a.legal in
          let some : o ≡ Some (standing_of r.0 h) =
          a.same ∙ (ap (λ b. standing_by b (renamed h) h) k ∙ ap (λ q. standing_by false q h) r.1) in
          let new =
          goes h r.0 r.1 e (numbered (who h) (next h) e) refl a.legal (subst (λ p. may_come p e ≡ true) some may) in
          subst (λ b. Agrees (cond b (e ∷ []) (e ∷ h)) (stands_after o e)) (sym k)
          (subst (λ p. Agrees (e ∷ h) (stands_after p e)) (sym some) new)
    ]

-- a phaser with a task has had an event
on_some : (h : List Named) (e : Named) → is_empty (who h) ≡ false
    → renamed (e ∷ h) ≡ history_with (renamed h) (numbered (who h) (next h) e)
on_some [] e k = absurd cc
on_some (y ∷ h) e k = renamed_on e y h

-- what leaves it legal may come
came : (h : List Named) (o : Option Standing) (e : Named) → Agrees h o → is_legal_life (life_with h e) ≡ true
    → may_come o e ≡ true
came h o e a l =
    elim (cases_Bool (is_empty (who h))) [
      | inl k ↦
          let none : o ≡ None = a.same ∙ ap (λ b. standing_by b (renamed h) h) k in
          subst (λ p. may_come p e ≡ true) (sym none)
          (begun e (subst (λ b. is_legal_life (cond b (e ∷ []) (e ∷ h)) ≡ true) k l))
      | inr k ↦
          let r = renamed_of h (renamed h) refl a.legal in
          let some : o ≡ Some (standing_of r.0 h) =
          a.same ∙ (ap (λ b. standing_by b (renamed h) h) k ∙ ap (λ q. standing_by false q h) r.1) in
          subst (λ p. may_come p e ≡ true) (sym some)
          (came_so h r.0 r.1 e (numbered (who h) (next h) e) refl (on_some h e k)
          (subst (λ b. is_legal_life (cond b (e ∷ []) (e ∷ h)) ≡ true) k l))
    ]

-- after events that came, each phaser stands as its own say
agrees : (es : List NamedEvent) → all_come es ≡ true → (p : ℕ) → Agrees (since_made p es) (standing p es)
agrees [] k p = record { same = refl; legal = refl }
agrees (e ∷ es) k p =
    let parts = and_parts (may_come (standing e.phaser es) e.event) (all_come es) k in
    let before = agrees es parts.1 p in
    elim (cases_Bool (e.phaser == p)) [
      | inl is ↦
          subst (λ b. Agrees (cond b (life_with (since_made p es) e.event) (since_made p es))
          (cond b (stands_after (standing p es) e.event) (standing p es))) (sym is)
          (goes_on (since_made p es) (standing p es) e.event before
          (subst (λ q. may_come (standing q es) e.event ≡ true) (eqb-true e.phaser p is) parts.0))
      | inr is ↦
          subst (λ b. Agrees (cond b (life_with (since_made p es) e.event) (since_made p es))
          (cond b (stands_after (standing p es) e.event) (standing p es))) (sym is) before
    ]

-- what came before did come
pub came_before : (later before : List NamedEvent) → all_come (later ++ before) ≡ true → all_come before ≡ true
came_before [] before k = k
came_before (e ∷ later) before k =
    came_before later before
    (and_parts (may_come (standing e.phaser (later ++ before)) e.event) (all_come (later ++ before)) k).1

-- events that came are legal
pub come_legal : (es : List NamedEvent) → all_come es ≡ true → AreLegal es
come_legal es k = λ later before p is.
    (agrees before (came_before later before (subst (λ xs. all_come xs ≡ true) is k)) p).legal

-- so are those with one more that may come
pub next_legal : (es xs : List NamedEvent) (e : NamedEvent) → all_come es ≡ true
    → may_come (standing e.phaser es) e.event ≡ true → xs ≡ e ∷ es → AreLegal xs
next_legal es xs e k may is =
    subst (λ ys. AreLegal ys) (sym is)
    (come_legal (e ∷ es) (and_from (may_come (standing e.phaser es) e.event) (all_come es) may k))

-- and legal ones came
pub legal_come : (es : List NamedEvent) → AreLegal es → all_come es ≡ true
legal_come [] k = refl
legal_come (e ∷ es) k =
    let rest = legal_come es (λ later before p is. k (e ∷ later) before p (ap (λ xs. e ∷ xs) is)) in
    let own : is_legal_life (life_with (since_made e.phaser es) e.event) ≡ true =
    subst (λ b. is_legal_life (cond b (life_with (since_made e.phaser es) e.event) (since_made e.phaser es)) ≡ true)
    (eq-eqb e.phaser e.phaser refl) (k [] (e ∷ es) e.phaser refl) in
    and_from (may_come (standing e.phaser es) e.event) (all_come es)
    (came (since_made e.phaser es) (standing e.phaser es) e.event (agrees es rest e.phaser) own) rest

pub accepted_are_legal : AcceptedAreLegal
accepted_are_legal es = (come_legal es, legal_come es)

-- with one that may not come they are not legal
pub illegal_more : (es : List NamedEvent) (e : NamedEvent) → may_come (standing e.phaser es) e.event ≡ false
    → AreLegal (e ∷ es) → ⊥
illegal_more es e may legal =
    false≢true (sym may
    ∙ (and_parts (may_come (standing e.phaser es) e.event) (all_come es) (legal_come (e ∷ es) legal)).0)

-- so a judge says that stands so
pub refused_illegal : (v s : Course) → v ≡ s → (e : NamedEvent)
    → may_come (standing e.phaser v.events) e.event ≡ false → AreLegal (e ∷ s.events) → ⊥
refused_illegal v s same e may =
    illegal_more s.events e
    (subst (λ (w : Course). may_come (standing e.phaser w.events) e.event ≡ false) same may)
