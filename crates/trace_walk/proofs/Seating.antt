-- The seats after an act that was due: each is as the trace tells it.
use Rattle.std.proofs.Common.{ℕ, ◌≡◌, ◌≢◌, Bool, true, false, ◌==◌, if◌then◌else◌, List, [], Option, Some, None, refl, sym, ap, subst, ◌∙◌}
use Rattle.std.proofs.lemmas.Bool.{eqb-true, eq-eqb, true≢false, false≢true}
use Rattle.std.proofs.lemmas.Option.{none-some, same_Some}
use Rattle.job_script.specs.declared.act.Act.{Act}
use Rattle.job_script.specs.declared.act.Act.TheVariants as acts
use Rattle.job_script.specs.declared.act.Answer.{Answer}
use Rattle.job_script.specs.declared.act.Answer.TheVariants.{Started}
use Rattle.world_model.specs.declared.event.Begun.TheVariants.{Async}
use Rattle.world_model.specs.declared.event.Tried.TheVariants.{Begun as Beginning}
use Rattle.world_model.specs.declared.event.WorldEvent.{WorldEvent}
use Rattle.world_model.specs.Drawing.{own_pairs}
use Rattle.trace_walk.specs.Follows.{drawn, same_act}
use Rattle.trace_walk.specs.Scripts.{Made, Numbers, act_of, is_of, parent_by}
use Rattle.trace_model.specs.Explained.{event_of, past}
use Rattle.trace_model.specs.Run.{Entry}
use Rattle.trace_model.specs.declared.event.TracedEvent.{TracedEvent}
use Rattle.trace_walk.specs.Given.{gives, tried_of}
use Rattle.trace_walk.specs.Walking.{Does, act_due, child_seat, gone_on, is_due, seat_after, seat_told, told_by}
use Rattle.trace_walk.specs.declared.seats.Seat.{Seat}
use Rattle.trace_walk.specs.inner.Seats.{child_named, body_handed, seat_given, AreTold, IsSeated}
use Rattle.trace_walk.proofs.Events.{names_nobody, no_act, no_other, of_its_task, spawned_by, spawner_of}

-- two numbers that aren't equal by their test
apart : (t u : ℕ) → (t == u) ≡ false → u ≢ t
apart t u k e = true≢false (sym (eq-eqb t u (sym e)) ∙ k)

module _ {B : Type 0} where
  abbrev seat : B → Seat B
  seat body = record { body = body; heard = Started }

  -- ---- what an act hands to a child

  hands_none : (act : Act B) (before : Option (Seat B)) → body_handed act ≡ None → child_seat act before ≡ before
  hands_none (acts.Async b pairs) before k = absurd (none-some b (sym k))
  hands_none (acts.AsyncAll b) before k = absurd (none-some b (sym k))
  hands_none acts.OpenFinish before k = refl
  hands_none acts.ShutFinish before k = refl
  hands_none (acts.New m ops bound) before k = refl
  hands_none acts.Signal before k = refl
  hands_none acts.Wait before k = refl
  hands_none acts.Next before k = refl
  hands_none (acts.NextSingle n) before k = refl
  hands_none (acts.Send n a v) before k = refl
  hands_none (acts.Look n a) before k = refl
  hands_none acts.End before k = refl

  hands_some : (act : Act B) (before : Option (Seat B)) (body : B) → body_handed act ≡ Some body
      → child_seat act before ≡ Some (seat body)
  hands_some (acts.Async b pairs) before body k = ap (λ (x : B). Some (seat x)) (same_Some b body k)
  hands_some (acts.AsyncAll b) before body k = ap (λ (x : B). Some (seat x)) (same_Some b body k)
  hands_some acts.OpenFinish before body k = absurd (none-some body k)
  hands_some acts.ShutFinish before body k = absurd (none-some body k)
  hands_some (acts.New m ops bound) before body k = absurd (none-some body k)
  hands_some acts.Signal before body k = absurd (none-some body k)
  hands_some acts.Wait before body k = absurd (none-some body k)
  hands_some acts.Next before body k = absurd (none-some body k)
  hands_some (acts.NextSingle n) before body k = absurd (none-some body k)
  hands_some (acts.Send n a v) before body k = absurd (none-some body k)
  hands_some (acts.Look n a) before body k = absurd (none-some body k)
  hands_some acts.End before body k = absurd (none-some body k)

  -- a spawn isn't the same as an act that hands no body over
  not_the_same : (c : ℕ) (pairs own : _) (new : Numbers) (act : Act B) → body_handed act ≡ None
      → same_act (Beginning (Async c pairs)) (tried_of own new act) ≡ false
  not_the_same c pairs own new (acts.Async b ps) k = absurd (none-some b (sym k))
  not_the_same c pairs own new (acts.AsyncAll b) k = absurd (none-some b (sym k))
  not_the_same c pairs own new acts.OpenFinish k = refl
  not_the_same c pairs own new acts.ShutFinish k = refl
  not_the_same c pairs own new (acts.New m ops bound) k = refl
  not_the_same c pairs own new acts.Signal k = refl
  not_the_same c pairs own new acts.Wait k = refl
  not_the_same c pairs own new acts.Next k = refl
  not_the_same c pairs own new (acts.NextSingle n) k = refl
  not_the_same c pairs own new (acts.Send n a v) k = refl
  not_the_same c pairs own new (acts.Look n a) k = refl
  not_the_same c pairs own new acts.End k = refl

  -- ---- a child's seat

  -- the event names nobody
  pub given_none : (e : TracedEvent) (act : Act B) (at : ℕ → Option (Seat B)) → child_named e ≡ None
      → (t : ℕ) → at t ≡ seat_given (parent_by t (event_of e)) act (at t)
  given_none e act at none t =
      ap (λ (o : Option ℕ). seat_given o act (at t)) (sym ((names_nobody e none).parent t))

  -- the act hands nothing over
  pub given_nothing : (o : Option ℕ) (act : Act B) (before : Option (Seat B)) → body_handed act ≡ None
      → before ≡ seat_given o act before
  given_nothing None act before none = refl
  given_nothing (Some u) act before none = sym (hands_none act before none)

  -- the child has the seat that the act of its spawn gives
  pub child_seated : (e : TracedEvent) (act : Act B) (c : ℕ) (body : B) (at : ℕ → Option (Seat B))
      → child_named e ≡ Some c → body_handed act ≡ Some body
      → IsSeated c body at (λ t. seat_given (parent_by t (event_of e)) act (at t))
  child_seated e act c body at child handed = record { own = own; others = others }
    where
      by_whom : (u : ℕ) × (parent_by c (event_of e) ≡ Some u)
      by_whom = spawner_of e c child

      own : seat_given (parent_by c (event_of e)) act (at c) ≡ Some (seat body)
      own = ap (λ (o : Option ℕ). seat_given o act (at c)) by_whom.1 ∙ hands_some act (at c) body handed

      others : (u : ℕ) → u ≢ c → seat_given (parent_by u (event_of e)) act (at u) ≡ at u
      others u k = ap (λ (o : Option ℕ). seat_given o act (at u)) (no_other e c u child k)

  -- so whoever has it is the child
  pub given_child : (e : TracedEvent) (act : Act B) (c : ℕ) (body : B) (at after : ℕ → Option (Seat B))
      → child_named e ≡ Some c → body_handed act ≡ Some body → IsSeated c body at after
      → (t : ℕ) → after t ≡ seat_given (parent_by t (event_of e)) act (at t)
  given_child e act c body at after child handed is t = by (t == c) refl
    where
      as_given : IsSeated c body at (λ u. seat_given (parent_by u (event_of e)) act (at u))
      as_given = child_seated e act c body at child handed

      by : (b : Bool) → (t == c) ≡ b → after t ≡ seat_given (parent_by t (event_of e)) act (at t)
      by true k =
          subst (λ (u : ℕ). after u ≡ seat_given (parent_by u (event_of e)) act (at u)) (sym (eqb-true t c k))
          (is.own ∙ sym as_given.own)
      by false k =
          is.others t (λ same. apart t c k (sym same)) ∙ sym (as_given.others t (λ same. apart t c k (sym same)))

  -- ---- the walk

  module _ (next : Answer → B → Does B) (root : B) where
    -- before the first event the root alone has a seat
    pub start_told : (at after : ℕ → Option (Seat B)) → ((u : ℕ) → at u ≡ None) → IsSeated 0 root at after
        → AreTold next root [] after
    start_told at after none is t = by (t == 0) refl
      where
        by : (b : Bool) → (t == 0) ≡ b → after t ≡ (if b then Some (seat root) else None)
        by true k = ap after (eqb-true t 0 k) ∙ is.own
        by false k = is.others t (λ e. apart t 0 k (sym e)) ∙ none t

    -- the event is the act that a seat gives where it is the one due
    pub due_given : (es : List Entry) (w : List WorldEvent) (m : Made) (o : Option Made) (act : Act B)
        → w ≡ past es → act ≡ act_due next (seat_told next root es m.task) → o ≡ Some m
        → gives w o act ≡ is_due next root es o
    due_given es w m o act is given some =
        subst (λ (x : Option Made). gives w x act ≡ is_due next root es x) (sym some)
        (ap (λ (v : List WorldEvent). same_act m.act (tried_of (own_pairs m.task v) (drawn m.act) act)) is
        ∙ ap (λ (a : Act B). same_act m.act (tried_of (own_pairs m.task (past es)) (drawn m.act) a)) given)

    -- no act
    pub still_told : (es : List Entry) (e : TracedEvent) (at : ℕ → Option (Seat B)) → AreTold next root es at
        → act_of (event_of e) ≡ None
        → (t : ℕ) → at t ≡ seat_after next e t (parent_by t (event_of e)) (seat_told next root es)
    still_told es e at told none t =
        told t
        ∙ sym (ap (λ (o : Option ℕ). seat_after next e t o (seat_told next root es))
        ((names_nobody e (no_act e none)).parent t)
        ∙ ap (λ (o : Option Made). if is_of t o then gone_on next (told_by e) (seat_told next root es t)
        else seat_told next root es t) none)

    -- an act that was due
    module _ (es : List Entry) (e : TracedEvent) (task : ℕ) (act : Act B) (at mid after : ℕ → Option (Seat B))
        (told : AreTold next root es at) (given : act ≡ act_due next (at task))
        (own : mid task ≡ gone_on next (told_by e) (at task)) (others : (u : ℕ) → u ≢ task → mid u ≡ at u)
        (child : (t : ℕ) → after t ≡ seat_given (parent_by t (event_of e)) act (mid t))
        (of : is_of task (act_of (event_of e)) ≡ true) (due : is_due next root es (act_of (event_of e)) ≡ true) where
      given_told : act ≡ act_due next (seat_told next root es task)
      given_told = given ∙ ap (λ (s : Option (Seat B)). act_due next s) (told task)

      moved : (t : ℕ) → mid t
          ≡ (if is_of t (act_of (event_of e)) then gone_on next (told_by e) (seat_told next root es t)
          else seat_told next root es t)
      moved t =
          by (task == t) refl
          ∙ sym (ap (λ (b : Bool). if b then gone_on next (told_by e) (seat_told next root es t)
          else seat_told next root es t) (of_its_task task (act_of (event_of e)) of t))
        where
          by : (b : Bool) → (task == t) ≡ b
              → mid t ≡ (if b then gone_on next (told_by e) (seat_told next root es t) else seat_told next root es t)
          by true k =
              subst (λ (u : ℕ). mid u ≡ gone_on next (told_by e) (seat_told next root es u)) (eqb-true task t k)
              (own ∙ ap (λ (s : Option (Seat B)). gone_on next (told_by e) s) (told task))
          by false k = others t (apart task t k) ∙ told t

      -- a spawn that was due hands a body over
      pub hands : (t u : ℕ) → parent_by t (event_of e) ≡ Some u → body_handed act ≡ None → ⊥
      hands t u k none =
          let spawn = spawned_by t u e k in
          let is_u : u ≡ task =
          eqb-true u task (subst (λ (x : TracedEvent). is_of task (act_of (event_of x)) ≡ true) spawn.is of) in
          false≢true (sym (not_the_same t spawn.pairs (own_pairs u (past es)) (drawn (Beginning (Async t spawn.pairs))) act none)
          ∙ (ap (λ (a : Act B). same_act (Beginning (Async t spawn.pairs)) (tried_of (own_pairs u (past es))
          (drawn (Beginning (Async t spawn.pairs))) a))
          (given_told ∙ ap (λ (v : ℕ). act_due next (seat_told next root es v)) (sym is_u))
          ∙ subst (λ (x : TracedEvent). is_due next root es (act_of (event_of x)) ≡ true) spawn.is due))

      spawner : (t u : ℕ) → parent_by t (event_of e) ≡ Some u → u ≡ task
      spawner t u k =
          eqb-true u task (subst (λ (x : TracedEvent). is_of task (act_of (event_of x)) ≡ true) (spawned_by t u e k).is of)

      pub act_told : (t : ℕ) → after t ≡ seat_after next e t (parent_by t (event_of e)) (seat_told next root es)
      act_told t = child t ∙ by (parent_by t (event_of e)) refl
        where
          by : (o : Option ℕ) → parent_by t (event_of e) ≡ o
              → seat_given o act (mid t) ≡ seat_after next e t o (seat_told next root es)
          by None k = moved t
          by (Some u) k = handed (body_handed act) refl
            where
              handed : (o : Option B) → body_handed act ≡ o
                  → child_seat act (mid t) ≡ child_seat (act_due next (seat_told next root es u)) (seat_told next root es t)
              handed None h = absurd (hands t u k h)
              handed (Some body) h =
                  hands_some act (mid t) body h
                  ∙ (sym (hands_some act (seat_told next root es t) body h)
                  ∙ ap (λ (a : Act B). child_seat a (seat_told next root es t))
                  (given_told ∙ ap (λ (v : ℕ). act_due next (seat_told next root es v)) (sym (spawner t u k))))
