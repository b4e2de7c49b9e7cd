-- What a task's body says, from one event of its task to the next.
use Rattle.std.proofs.Common.{ℕ, ◌≡◌, ◌⊎◌, ◌==◌, Bool, true, false, if◌then◌else◌, inl, inr, List, [], ◌∷◌, ◌++◌, Option, Some, None, Result, refl, sym, ap, subst, ◌∙◌, append-nil, drop, filter, map}
use Rattle.std.proofs.lemmas.Bool.{eqb-true, eq-eqb}
use Rattle.std.specs.Prelude.{ℤ, IfSome, is_some, find, not}
use Rattle.phase_modes.specs.declared.phased.Pair.{Pair}
use Rattle.phase_modes.specs.declared.reg.Mode.{Mode}
use Rattle.phase_modes.specs.declared.refusal.Refusal.{Refusal}
use Rattle.phase_model.specs.declared.history.Event.TheVariants as events
use Rattle.phase_model.specs.declared.op.Look.{Look}
use Rattle.phase_model.specs.declared.terms.Terms.{Terms}
use Rattle.phase_model.specs.Laws.{IsLegal}
use Rattle.phase_model.specs.Rules.{Story}
use Rattle.finish_core.specs.declared.event.FinishEvent.TheVariants.{Spawned as Born}
use Rattle.world_model.specs.declared.event.Begun.{Begun}
use Rattle.world_model.specs.declared.event.Begun.TheVariants.{Async}
use Rattle.world_model.specs.declared.event.Step.TheVariants.{Sig, Pass, Drop}
use Rattle.world_model.specs.declared.event.WorldEvent.TheVariants.{Phaser, Finish}
use Rattle.trace_model.specs.declared.event.TracedEvent.TheVariants.{Begin}
use Rattle.job_script.specs.declared.act.Act.{Act}
use Rattle.job_script.specs.declared.act.Answer.{Answer}
use Rattle.job_script.specs.declared.act.Answer.TheVariants.{Started, Done, Made, Saw}
use Rattle.job_script.specs.declared.act.Answer.TheVariants as answers
use Rattle.long_locks.specs.Told.{HasLooked}
use Rattle.told_history.specs.Stories.{GoesOn}
use Rattle.told_history.proofs.Goes.{goes_itself, goes_far}
use Rattle.task_standing.specs.declared.plan.Plan.{Plan}
use Rattle.task_standing.specs.declared.plan.Plan.TheVariants.{Idle, Signalling, Turning, Spawning, Shutting, Ending}
use Rattle.task_standing.specs.Known.{Known}
use Rattle.task_standing.specs.Noted.{plan_of}
use Rattle.task_standing.specs.Standing.{acted, begun, inner_of, marked, passed_by, registered_by, shut_by}
use Rattle.tasks_in_flight.specs.Heard as heard
use Rattle.tasks_in_flight.specs.Heard.{Asked, Seen, SeesMoreBut, make, send, look, opens, spawn, nothing, at_start, asked_by, made_by, HasMade, HasSent, HoldsNot, IsOwn, IsHeard, IsAnswerTo, IsSpawned}
use Rattle.tasks_in_flight.specs.Said.{Saying}
use Rattle.tasks_in_flight.specs.inner.Ready.{HasJustDone, HasJustPassed, IsPending, IsAskedFor, IsDue, SeesMore, answer_of, is_of_each, made_then}
use Rattle.tasks_in_flight.proofs.OnTheWay.{pending_signalled, pending_passed, pending_more, pending_left, pending_registered, pending_shut, pending_born, pending_newborn, pending_at_end, pending_begun, is_answered, sees_far, sees_itself, none_held}
use Rattle.live_tables.specs.Slots.{told_of}
use Rattle.live_rt.specs.Said.{HasSaid, StartsWell}
use Rattle.live_rt.specs.inner.Places.{Spot, story_of, in_slot, IsFurther, HaveGoneOn}
use Rattle.live_rt.specs.inner.Says.{Asks, AsksFor, AsksToSpawn, HasStepped, IsAbout, IsSeen, IsUnborn, seen_as}
use Rattle.live_rt.proofs.Seen.{put, put_here, some_map, some_at, IsPut, put_there, by_slot, placed_at, seen_further, more_of, sees_further, seen_made, seen_fewer, sees_made}

-- what was made is what is about to be heard
fits : (answer : Option Answer) (m : ℕ) → made_then answer ≡ Some m → answer ≡ Some (Made m)
fits (Some (Made n)) m is = ap (λ (o : Option ℕ). of o) is
  where
    of : Option ℕ → Option Answer
    of (Some j) = Some (Made j)
    of None = None
fits (Some Started) m is = absurd (cc is)
fits (Some Done) m is = absurd (cc is)
fits (Some (answers.Spawned c)) m is = absurd (cc is)
fits (Some (Saw x)) m is = absurd (cc is)
fits None m is = absurd (cc is)

-- ---- before it is born

-- by its place, and else this
abbrev story_or : Option Spot → Story → Story
story_or (Some p) s = story_of p
story_or None s = s

abbrev me_or : Option Spot → ℕ
me_or (Some p) = p.me
me_or None = 0

placed_by : (o : Option Spot) (s : Story) → IfSome o (λ p. (me_or o ≡ p.me) × (story_or o s ≡ story_of p))
placed_by (Some p) s = (refl, refl)
placed_by None s = tt

legal_by : (o : Option Spot) (s : Story) → IsLegal s → IfSome o (λ p. GoesOn s (story_of p) × IsLegal (story_of p)) → IsLegal (story_or o s)
legal_by (Some p) s legal is = is.1
legal_by None s legal is = legal

goes_by : (o : Option Spot) (s : Story) → IfSome o (λ p. GoesOn s (story_of p) × IsLegal (story_of p)) → GoesOn s (story_or o s)
goes_by (Some p) s is = is.0
goes_by None s is = goes_itself s

-- the one place of a list is in its slot
first : (p : Spot) → in_slot p.at.slot (p ∷ []) ≡ Some p
first p = ap (λ (b : Bool). if b then Some p else None) (eq-eqb p.at.slot p.at.slot refl)

module _ {B : Type 0} (Shows : Saying B) {b : B} where
  -- its parent has seen more
  pub unborn_known : (its : ℕ) (places parents parents' : List Spot) → HaveGoneOn parents parents'
      → IsUnborn Shows b its places parents → IsUnborn Shows b its places parents'
  unborn_known its places parents parents' goes is = record {
    stories = is.stories;
    says = is.says;
    legal = is.legal;
    handed = is.handed;
    known = λ n. some_map (λ p. (q : Spot) × (in_slot n parents ≡ Some q) × GoesOn (story_of q) (story_of p)) (λ p. GoesOn (is.stories n) (story_of p))
        (in_slot n parents')
        (λ p more. goes_far (is.stories n) (story_of more.0) (story_of p)
        (some_at (λ q. GoesOn (is.stories n) (story_of q)) (in_slot n parents) more.0 more.1 (is.known n)) more.2) (goes n);
  }

  -- of one of its parent's phasers more was seen
  pub unborn_further : (its : ℕ) (places parents : List Spot) (p old : Spot) → in_slot p.at.slot parents ≡ Some old
      → GoesOn (story_of old) (story_of p) → IsUnborn Shows b its places parents → IsUnborn Shows b its places (p ∷ [])
  unborn_further its places parents p old there goes is = record {
    stories = is.stories;
    says = is.says;
    legal = is.legal;
    handed = is.handed;
    known = λ n. by n (p.at.slot == n) refl;
  }
    where
      by : (n : ℕ) (c : Bool) → p.at.slot == n ≡ c → IfSome (if c then Some p else None) (λ q. GoesOn (is.stories n) (story_of q))
      by n true same =
          subst (λ (m : ℕ). GoesOn (is.stories m) (story_of p)) (eqb-true p.at.slot n same)
          (goes_far (is.stories p.at.slot) (story_of old) (story_of p)
          (some_at (λ q. GoesOn (is.stories p.at.slot) (story_of q)) (in_slot p.at.slot parents) old there (is.known p.at.slot)) goes)
      by n false other = tt

  -- it is handed a phaser
  pub unborn_joined : (its : ℕ) (places parents : List Spot) (p : Spot) (places' : List Spot) → IsLegal (story_of p) → IsPut p places places'
      → (is : IsUnborn Shows b its places parents) → GoesOn (is.stories p.at.slot) (story_of p) → IsUnborn Shows b its places' parents
  unborn_joined its places parents p places' legal is_put is goes = record {
    stories = is.stories;
    says = is.says;
    legal = is.legal;
    handed = by_slot p places places' is_put (λ n q. GoesOn (is.stories n) (story_of q) × IsLegal (story_of q)) (goes, legal) (λ n other. is.handed n);
    known = is.known;
  }

  -- it is taken off one
  pub unborn_parted : (its : ℕ) (places parents places' : List Spot) (n : ℕ) → in_slot n places' ≡ None
      → ((m : ℕ) → m == n ≡ false → in_slot m places' ≡ in_slot m places)
      → IsUnborn Shows b its places parents → IsUnborn Shows b its places' parents
  unborn_parted its places parents places' n gone others is = record {
    stories = is.stories;
    says = is.says;
    legal = is.legal;
    handed = λ m. by m (m == n) refl;
    known = is.known;
  }
    where
      by : (m : ℕ) (c : Bool) → m == n ≡ c → IfSome (in_slot m places') (λ q. GoesOn (is.stories m) (story_of q) × IsLegal (story_of q))
      by m true same =
          subst (λ o. IfSome o (λ q. GoesOn (is.stories m) (story_of q) × IsLegal (story_of q)))
          (sym (ap (λ i. in_slot i places') (eqb-true m n same) ∙ gone)) tt
      by m false other =
          subst (λ o. IfSome o (λ q. GoesOn (is.stories m) (story_of q) × IsLegal (story_of q))) (sym (others m other)) (is.handed m)

  -- nothing else of it has changed
  pub unborn_kept : (b' : B) (its its' : ℕ) (places parents : List Spot) → b' ≡ b → its' ≡ its
      → IsUnborn Shows b its places parents → IsUnborn Shows b' its' places parents
  unborn_kept b' its its' places parents body number is =
      subst (λ (x : B). IsUnborn Shows x its' places parents) (sym body)
      (subst (λ (t : ℕ). IsUnborn Shows b t places parents) (sym number) is)

  -- what its parent has seen is the same
  pub unborn_parents : (its : ℕ) (places parents parents' : List Spot) → parents' ≡ parents
      → IsUnborn Shows b its places parents → IsUnborn Shows b its places parents'
  unborn_parents its places parents parents' same is = subst (λ (ps : List Spot). IsUnborn Shows b its places ps) (sym same) is

  -- whether it was handed a phaser of its parent's or not
  pub unborn_whichever : (b' : B) (its its' : ℕ) (places parents places' : List Spot) (p old : Spot) → b' ≡ b → its' ≡ its
      → IsLegal (story_of p) → in_slot p.at.slot parents ≡ Some old → GoesOn (story_of old) (story_of p)
      → (in_slot p.at.slot places' ≡ Some p) ⊎ (places' ≡ places)
      → ((n : ℕ) → n == p.at.slot ≡ false → in_slot n places' ≡ in_slot n places)
      → IsUnborn Shows b its places parents → IsUnborn Shows b' its' places' parents
  unborn_whichever b' its its' places parents places' p old body number legal there goes (inl here) others is =
      unborn_kept b' its its' places' parents body number
      (unborn_joined its places parents p places' legal (put_there p places places' here others) is
      (goes_far (is.stories p.at.slot) (story_of old) (story_of p)
      (some_at (λ q. GoesOn (is.stories p.at.slot) (story_of q)) (in_slot p.at.slot parents) old there (is.known p.at.slot)) goes))
  unborn_whichever b' its its' places parents places' p old body number legal there goes (inr same) others is =
      unborn_kept b' its its' places' parents body number (subst (λ (ps : List Spot). IsUnborn Shows b its ps parents) (sym same) is)

  -- before it was handed any, whatever its parent has seen
  pub unborn_alone : (its : ℕ) (parents : List Spot) → IsUnborn Shows b its [] parents → IsUnborn Shows b its [] []
  unborn_alone its parents is = record { stories = is.stories; says = is.says; legal = is.legal; handed = is.handed; known = λ n. tt }

module _ {B : Type 0} (Shows : Saying B) (b : B) where
  -- ---- an act of one event

  pub about_sent : (places places' : List Spot) (k : Known) (p old : Spot) (a : ℕ) (v : ℤ) → IsPut p places places' → IsFurther p places
      → IsLegal (story_of p) → in_slot p.at.slot places ≡ Some old → HasSent p.me a v (story_of old) (story_of p)
      → Asks Shows b (send p.at.slot a v) places k → IsAbout Shows b (Some Done) places' (acted k)
  about_sent places places' k p old a v is_put further legal there sent asks =
      let n = p.at.slot in
      let at = placed_at places asks.own asks.stories asks.seen n old there in
      let same : old ≡ further.0 = some_same (in_slot n places) old further.0 there further.1 in record {
        own = asks.own;
        stories = put n (story_of p) asks.stories;
        log = asks.log;
        seen = seen_further places asks.own asks.stories asks.seen p places' is_put further legal;
        ready = record {
          asked = send n a v;
          seen = seen_as asks.own asks.stories asks.log k;
          says = asks.says;
          more = sees_further places asks.own asks.stories asks.seen p further asks.log k (acted k);
          pending = λ lives. (
            (
              subst (λ (s : Story). HasSent (asks.own n) a v (asks.stories n) s) (sym (put_here n (story_of p) asks.stories))
                  (subst (λ (s : Story). HasSent (asks.own n) a v s (story_of p)) (sym at.1)
                  (subst (λ (t : ℕ). HasSent t a v (story_of old) (story_of p)) (sym (at.0 ∙ ap (λ q. q.me) same ∙ sym further.3)) sent)),
              (refl, refl),
            ),
            refl,
          );
        };
        legal = asks.seen.legal;
      }
    where
      some_same : (o : Option Spot) (x y : Spot) → o ≡ Some x → o ≡ Some y → x ≡ y
      some_same o x y one two = cc (sym one ∙ two)

  pub about_looked : (places places' : List Spot) (k : Known) (p : Spot) (a : ℕ) (x : Look ℤ) → IsPut p places places' → IsFurther p places
      → IsLegal (story_of p) → HasLooked (story_of p).terms.ops p.me a (story_of p).past x
      → Asks Shows b (look p.at.slot a) places k → IsAbout Shows b (Some (Saw x)) places' (acted k)
  about_looked places places' k p a x is_put further legal looked asks =
      let n = p.at.slot in
      let at = placed_at places asks.own asks.stories asks.seen n further.0 further.1 in record {
        own = asks.own;
        stories = put n (story_of p) asks.stories;
        log = asks.log;
        seen = seen_further places asks.own asks.stories asks.seen p places' is_put further legal;
        ready = record {
          asked = look n a;
          seen = seen_as asks.own asks.stories asks.log k;
          says = asks.says;
          more = sees_further places asks.own asks.stories asks.seen p further asks.log k (acted k);
          pending = λ lives. (
            (
              subst (λ (s : Story). HasLooked s.terms.ops (asks.own n) a s.past x) (sym (put_here n (story_of p) asks.stories))
                  (subst (λ (t : ℕ). HasLooked (story_of p).terms.ops t a (story_of p).past x) (sym (at.0 ∙ sym further.3)) looked),
              (refl, refl),
            ),
            refl,
          );
        };
        legal = asks.seen.legal;
      }

  pub about_made : (places places' : List Spot) (k : Known) (p : Spot) (m : Mode) (terms : Terms) → IsPut p places places'
      → IsLegal (story_of p) → HasMade p.me m terms (story_of p) → is_some (find (λ h. h.phaser == p.at.slot) k.holding) ≡ false
      → Asks Shows b (make m terms) places k
      → IsAbout Shows b (Some (Made p.at.slot)) places' (record (acted k) {
        holding = k.holding ++ record { phaser = p.at.slot; finish = inner_of k; mode = m; ahead = false } ∷ [];
      })
  about_made places places' k p m terms is_put legal made free asks =
      let n = p.at.slot in
      let k' = record (acted k) {
        holding = k.holding ++ record { phaser = n; finish = inner_of k; mode = m; ahead = false } ∷ [];
      } in record {
        own = put n p.me asks.own;
        stories = put n (story_of p) asks.stories;
        log = asks.log;
        seen = seen_made places asks.own asks.stories asks.seen p places' is_put legal;
        ready = record {
          asked = make m terms;
          seen = seen_as asks.own asks.stories asks.log k;
          says = asks.says;
          more = sees_made n p.me (story_of p) asks.own asks.stories asks.log k k';
          pending = λ lives. (
            (
              subst (λ (s : Story). HasMade (put n p.me asks.own n) m terms s) (sym (put_here n (story_of p) asks.stories))
                  (subst (λ (t : ℕ). HasMade t m terms (story_of p)) (sym (put_here n p.me asks.own)) made),
              ((inner_of k, refl), refl),
              none_held k.holding n free,
            ),
            refl,
          );
        };
        legal = asks.seen.legal;
      }

  pub about_opened : (places : List Spot) (k : Known) (f : ℕ) → Asks Shows b opens places k
      → IsAbout Shows b (Some Done) places (record (acted k) { finishes = f ∷ k.finishes })
  about_opened places k f asks = record {
    own = asks.own;
    stories = asks.stories;
    log = asks.log;
    seen = asks.seen;
    ready = record {
      asked = opens;
      seen = seen_as asks.own asks.stories asks.log k;
      says = asks.says;
      more = sees_itself (seen_as asks.own asks.stories asks.log k);
      pending = λ lives. ((refl, refl), refl);
    };
    legal = asks.seen.legal;
  }

  -- ---- events of an act that goes on

  -- what is known of itself changes, and what it has seen, but not what it is about to hear
  moves : (answer : Option Answer) (places places' : List Spot) (k k' : Known) (is : IsAbout Shows b answer places k)
      (stories : ℕ → Story) → IsSeen places' is.own stories → k'.number ≡ k.number
      → SeesMore (seen_as is.own is.stories is.log k) (seen_as is.own stories is.log k')
      → (IsPending k.number k.plan is.ready.asked answer is.ready.seen (seen_as is.own is.stories is.log k)
      → IsPending k.number k'.plan is.ready.asked answer is.ready.seen (seen_as is.own stories is.log k'))
      → IsAbout Shows b answer places' k'
  moves answer places places' k k' is stories seen same more pending = record {
    own = is.own;
    stories = stories;
    log = is.log;
    seen = seen;
    ready = record {
      asked = is.ready.asked;
      seen = is.ready.seen;
      says = subst (λ (t : ℕ). Shows b t is.ready.asked is.ready.seen) (sym same) is.ready.says;
      more = sees_far (made_then answer) is.ready.seen (seen_as is.own is.stories is.log k) (seen_as is.own stories is.log k') is.ready.more more;
      pending = subst (λ (t : ℕ). IsPending t k'.plan is.ready.asked answer is.ready.seen (seen_as is.own stories is.log k')) (sym same)
          (pending is.ready.pending);
    };
    legal = is.legal;
  }

  pub about_begun : (places : List Spot) (k : Known) (act : Begun) → AsksFor Shows b act places k
      → IsAbout Shows b (answer_of act) places (begun (plan_of act) k)
  about_begun places k act for =
      let asks = for.asks in
      with_plan (plan_of act) (record {
        own = asks.own;
        stories = asks.stories;
        log = asks.log ++ Begin k.number act ∷ [];
        seen = asks.seen;
        ready = record {
          asked = for.asked;
          seen = seen_as asks.own asks.stories asks.log k;
          says = asks.says;
          more = ((λ n. inr (goes_itself (asks.stories n), refl)), (Begin k.number act ∷ [], refl));
          pending = pending_begun k.number k asks.own asks.stories asks.log act for.asked for.fits;
        };
        legal = asks.seen.legal;
      })
    where
      with_plan : (p : Plan) → IsAbout Shows b (answer_of act) places (record k { plan = p })
          → IsAbout Shows b (answer_of act) places (begun p k)
      with_plan Idle is =
          moves (answer_of act) places places (record k { plan = Idle }) (begun Idle k) is is.stories is.seen refl
          (sees_itself (seen_as is.own is.stories is.log k)) (λ pending. pending)
      with_plan (Signalling x turns) is =
          moves (answer_of act) places places (record k { plan = Signalling x turns }) (begun (Signalling x turns) k) is is.stories is.seen refl
          (sees_itself (seen_as is.own is.stories is.log k)) (λ pending. pending)
      with_plan (Turning next) is =
          moves (answer_of act) places places (record k { plan = Turning next }) (begun (Turning next) k) is is.stories is.seen refl
          (sees_itself (seen_as is.own is.stories is.log k)) (λ pending. pending)
      with_plan (Spawning c ps made) is =
          moves (answer_of act) places places (record k { plan = Spawning c ps made }) (begun (Spawning c ps made) k) is is.stories is.seen refl
          (sees_itself (seen_as is.own is.stories is.log k)) (λ pending. pending)
      with_plan Shutting is =
          moves (answer_of act) places places (record k { plan = Shutting }) (begun Shutting k) is is.stories is.seen refl
          (sees_itself (seen_as is.own is.stories is.log k)) (λ pending. pending)
      with_plan Ending is =
          moves (answer_of act) places places (record k { plan = Ending }) (begun Ending k) is is.stories is.seen refl
          (sees_itself (seen_as is.own is.stories is.log k)) (λ pending. pending)

  pub about_at_end : (answer : Option Answer) (places : List Spot) (k : Known) → IsAbout Shows b answer places k
      → IsAbout Shows b answer places (record k { plan = Ending })
  about_at_end answer places k is =
      moves answer places places k (record k { plan = Ending }) is is.stories is.seen refl (sees_itself (seen_as is.own is.stories is.log k))
      (λ _. pending_at_end k.number is.ready.seen (seen_as is.own is.stories is.log k) is.ready.asked answer)

  -- a place was taken away
  pub about_fewer : (answer : Option Answer) (places places' : List Spot) (k : Known) (n : ℕ) → in_slot n places' ≡ None
      → ((m : ℕ) → m == n ≡ false → in_slot m places' ≡ in_slot m places) → IsAbout Shows b answer places k → IsAbout Shows b answer places' k
  about_fewer answer places places' k n gone others is =
      moves answer places places' k k is is.stories (seen_fewer places is.own is.stories is.seen n places' gone others) refl
      (sees_itself (seen_as is.own is.stories is.log k)) (λ pending. pending)

  pub about_registered : (answer : Option Answer) (places places' : List Spot) (k : Known) (p : Spot) → IsPut p places places'
      → IsFurther p places → IsLegal (story_of p) → IsOwn p.me (story_of p).past → is_of_each answer ≡ true
      → IsAbout Shows b answer places k → IsAbout Shows b answer places' k
  about_registered answer places places' k p is_put further legal mine each is =
      let n = p.at.slot in
      let new = put n (story_of p) is.stories in
      let at = placed_at places is.own is.stories is.seen n further.0 further.1 in
      let own = subst (λ (s : Story). IsOwn (is.own n) s.past) (sym (put_here n (story_of p) is.stories))
      (subst (λ (t : ℕ). IsOwn t (story_of p).past) (sym (at.0 ∙ sym further.3)) mine) in
      moves answer places places' k k is new (seen_further places is.own is.stories is.seen p places' is_put further legal) refl
      (sees_further places is.own is.stories is.seen p further is.log k k)
      (λ pending. pending_more k.number n is.ready.seen (seen_as is.own is.stories is.log k) new
      (more_of places is.own is.stories is.seen p further) own k.plan is.ready.asked answer each pending)

  pub about_signalled : (answer : Option Answer) (places places' : List Spot) (k : Known) (p old : Spot) (x : Option ℕ) → IsPut p places places'
      → IsFurther p places → IsLegal (story_of p) → in_slot p.at.slot places ≡ Some old
      → HasJustDone (events.Sig p.me x) (story_of old) (story_of p) → IsDue (Some (Phaser p.at.slot (Sig k.number x))) k
      → IsAbout Shows b answer places k
      → IsAbout Shows b answer places' (record k { holding = map (marked p.at.slot true) k.holding })
  about_signalled answer places places' k p old x is_put further legal there mine due is =
      let n = p.at.slot in
      let new = put n (story_of p) is.stories in
      let k' = record k { holding = map (marked n true) k.holding } in
      let at = placed_at places is.own is.stories is.seen n old there in
      let first = placed_at places is.own is.stories is.seen n further.0 further.1 in
      let just = subst (λ (s : Story). HasJustDone (events.Sig (is.own n) x) (is.stories n) s) (sym (put_here n (story_of p) is.stories))
      (subst (λ (s : Story). HasJustDone (events.Sig (is.own n) x) s (story_of p)) (sym at.1)
      (subst (λ (t : ℕ). HasJustDone (events.Sig t x) (story_of old) (story_of p)) (sym (first.0 ∙ sym further.3)) mine)) in
      moves answer places places' k k' is new (seen_further places is.own is.stories is.seen p places' is_put further legal) refl
      (sees_further places is.own is.stories is.seen p further is.log k k')
      (λ pending. pending_signalled k.number (made_then answer) is.ready.seen k is.own is.stories is.log n x new
      (more_of places is.own is.stories is.seen p further) just is.ready.asked answer (fits answer) is.ready.more due pending)

  pub about_passed : (answer : Option Answer) (places places' : List Spot) (k : Known) (p old : Spot) → IsPut p places places'
      → IsFurther p places → IsLegal (story_of p) → in_slot p.at.slot places ≡ Some old
      → HasJustPassed p.me (story_of old) (story_of p) → IsDue (Some (Phaser p.at.slot (Pass k.number))) k
      → IsAbout Shows b answer places k
      → IsAbout Shows b answer places' (record k { plan = passed_by k.plan; holding = map (marked p.at.slot false) k.holding })
  about_passed answer places places' k p old is_put further legal there mine due is =
      let n = p.at.slot in
      let new = put n (story_of p) is.stories in
      let k' = record k { plan = passed_by k.plan; holding = map (marked n false) k.holding } in
      let at = placed_at places is.own is.stories is.seen n old there in
      let first = placed_at places is.own is.stories is.seen n further.0 further.1 in
      let just = subst (λ (s : Story). HasJustPassed (is.own n) (is.stories n) s) (sym (put_here n (story_of p) is.stories))
      (subst (λ (s : Story). HasJustPassed (is.own n) s (story_of p)) (sym at.1)
      (subst (λ (t : ℕ). HasJustPassed t (story_of old) (story_of p)) (sym (first.0 ∙ sym further.3)) mine)) in
      moves answer places places' k k' is new (seen_further places is.own is.stories is.seen p places' is_put further legal) refl
      (sees_further places is.own is.stories is.seen p further is.log k k')
      (λ pending. pending_passed k.number (made_then answer) is.ready.seen k is.own is.stories is.log n new
      (more_of places is.own is.stories is.seen p further) just is.ready.asked answer (fits answer) is.ready.more due pending)

  pub about_noted : (answer : Option Answer) (places : List Spot) (k : Known) → IsAbout Shows b answer places k
      → IsAbout Shows b answer places (record k { plan = registered_by k.plan })
  about_noted answer places k is =
      let now = seen_as is.own is.stories is.log k in
      moves answer places places k (record k { plan = registered_by k.plan }) is is.stories is.seen refl (sees_itself now)
      (λ pending. pending_registered k.number is.ready.seen now k.plan is.ready.asked answer pending)

  pub about_shut : (answer : Option Answer) (places : List Spot) (k : Known) → IsAbout Shows b answer places k
      → IsAbout Shows b answer places (record k { plan = shut_by k.plan; finishes = drop 1 k.finishes })
  about_shut answer places k is =
      let now = seen_as is.own is.stories is.log k in
      moves answer places places k (record k { plan = shut_by k.plan; finishes = drop 1 k.finishes }) is is.stories is.seen refl (sees_itself now)
      (λ pending. pending_shut k.number is.ready.seen now k.plan is.ready.asked answer pending)

  pub about_born : (answer : Option Answer) (places : List Spot) (k : Known) (f c : ℕ) → IsDue (Some (Finish f (Born c))) k
      → IsAbout Shows b answer places k → IsAbout Shows b answer places (record k { plan = Idle })
  about_born answer places k f c due is =
      let now = seen_as is.own is.stories is.log k in
      moves answer places places k (record k { plan = Idle }) is is.stories is.seen refl (sees_itself now)
      (λ pending. pending_born k.number is.ready.seen now k f c is.ready.asked answer due pending)

  pub about_left : (answer : Option Answer) (places places' : List Spot) (k : Known) (n : ℕ) → in_slot n places' ≡ None
      → ((m : ℕ) → m == n ≡ false → in_slot m places' ≡ in_slot m places) → IsDue (Some (Phaser n (Drop k.number))) k
      → IsAbout Shows b answer places k
      → IsAbout Shows b answer places' (record k { holding = filter (λ h. not (h.phaser == n)) k.holding })
  about_left answer places places' k n gone others due is =
      let k' = record k { holding = filter (λ h. not (h.phaser == n)) k.holding } in
      let now = seen_as is.own is.stories is.log k in
      moves answer places places' k k' is is.stories (seen_fewer places is.own is.stories is.seen n places' gone others) refl
      ((λ m. inr (goes_itself (is.stories m), refl)), ([], sym (append-nil is.log)))
      (λ pending. pending_left k.number (made_then answer) is.ready.seen k is.own is.stories is.log n k'.holding is.ready.asked answer due pending)

  -- ---- before it is born

  -- a task whose number is this, and whose places and phasers change, hears the same: that it starts
  pub about_parted : (places places' : List Spot) (k k' : Known) (n : ℕ) → in_slot n places' ≡ None
      → ((m : ℕ) → m == n ≡ false → in_slot m places' ≡ in_slot m places) → k'.number ≡ k.number → k'.plan ≡ k.plan
      → IsAbout Shows b (Some Started) places k → IsAbout Shows b (Some Started) places' k'
  about_parted places places' k k' n gone others number plan is =
      let now = seen_as is.own is.stories is.log k in
      let new = seen_as is.own is.stories is.log k' in
      moves (Some Started) places places' k k' is is.stories (seen_fewer places is.own is.stories is.seen n places' gone others) number
      ((λ m. inr (goes_itself (is.stories m), refl)), ([], sym (append-nil is.log)))
      (λ pending. subst (λ (p : Plan). IsPending k.number p is.ready.asked (Some Started) is.ready.seen new) (sym plan)
      (pending_newborn k.number is.ready.seen now new k.plan is.ready.asked refl pending))

  idle_at_start : (task : ℕ) (seen now : Seen) (p : Plan) (asked : Asked) → IsPending task p asked (Some Started) seen now
      → (p ≡ Ending → ⊥) → p ≡ Idle
  idle_at_start task seen now p nothing is lives = (is lives).1
  idle_at_start task seen now p (make m terms) is lives = absurd (is lives).0
  idle_at_start task seen now p (send n a v) is lives = absurd (is lives).0
  idle_at_start task seen now p (look n a) is lives = absurd (is lives).0
  idle_at_start task seen now p heard.signal is lives = absurd (is lives).0
  idle_at_start task seen now p heard.wait is lives = absurd (is lives).0
  idle_at_start task seen now p (heard.next x) is lives = absurd (is lives).0
  idle_at_start task seen now p (spawn to) is lives = absurd (is lives).0
  idle_at_start task seen now p opens is lives = absurd (is lives).0
  idle_at_start task seen now p heard.shuts is lives = absurd (is lives).0
  idle_at_start task seen now p heard.ends is lives = absurd (is lives).0

  -- who isn't born yet is about to hear that it starts, with what it was handed
  pub about_unborn : (places parents : List Spot) (k : Known) → ((k.plan ≡ Ending → ⊥) → k.plan ≡ Idle)
      → IsUnborn Shows b k.number places parents → IsAbout Shows b (Some Started) places k
  about_unborn places parents k idle is = record {
    own = λ n. me_or (in_slot n places);
    stories = λ n. story_or (in_slot n places) (is.stories n);
    log = [];
    seen = record {
      placed = λ n. placed_by (in_slot n places) (is.stories n);
      legal = λ n. legal_by (in_slot n places) (is.stories n) (is.legal n) (is.handed n);
    };
    ready = record {
      asked = nothing;
      seen = at_start (λ n. me_or (in_slot n places)) is.stories;
      says = is.says (λ n. me_or (in_slot n places));
      more = ((λ n. inr (goes_by (in_slot n places) (is.stories n) (is.handed n), refl)), ([], refl));
      pending = λ lives. (refl, idle lives);
    };
    legal = is.legal;
  }

  -- one more phaser is handed to it
  pub about_joined : (places : List Spot) (k k' : Known) (p : Spot) (places' : List Spot) → IsLegal (story_of p) → IsPut p places places'
      → k'.number ≡ k.number → k'.plan ≡ k.plan → IsUnborn Shows b k.number places (p ∷ [])
      → IsAbout Shows b (Some Started) places k → IsAbout Shows b (Some Started) places' k'
  about_joined places k k' p places' legal is_put number plan unborn is =
      about_unborn places' (p ∷ []) k'
      (λ lives. plan ∙ idle_at_start k.number is.ready.seen (seen_as is.own is.stories is.log k) k.plan is.ready.asked is.ready.pending
      (λ e. lives (plan ∙ e)))
      (subst (λ (t : ℕ). IsUnborn Shows b t places' (p ∷ [])) (sym number) (unborn_joined Shows k.number places (p ∷ []) p places' legal is_put unborn
      (some_at (λ r. GoesOn (unborn.stories p.at.slot) (story_of r)) (in_slot p.at.slot (p ∷ [])) p (first p) (unborn.known p.at.slot))))

  -- ---- what was asked for

  -- while nothing came of it yet
  pub about_asking : (asked : Asked) (places : List Spot) (k : Known) → Asks Shows b asked places k → IsAbout Shows b None places k
  about_asking asked places k asks = record {
    own = asks.own;
    stories = asks.stories;
    log = asks.log;
    seen = asks.seen;
    ready = record {
      asked = asked;
      seen = seen_as asks.own asks.stories asks.log k;
      says = asks.says;
      more = sees_itself (seen_as asks.own asks.stories asks.log k);
      pending = tt;
    };
    legal = asks.seen.legal;
  }

  -- by a step
  pub has_stepped : (b' : B) (act : Result (Act B) Refusal) (answer : Answer) (places : List Spot) (k : Known) → IsDue None k
      → ((task : ℕ) (asked : Asked) (seen now : Seen) → Shows b task asked seen → IsHeard task asked answer seen now → Shows b' task (asked_by act) now)
      → ((task : ℕ) (asked : Asked) (seen now : Seen) → Shows b task asked seen → IsHeard task asked answer seen now
      → (child : B) (its : ℕ) (own : ℕ → ℕ) → IsSpawned child act → Shows child its nothing (at_start own now.stories))
      → IsAbout Shows b (Some answer) places k → HasStepped Shows b' act places k
  has_stepped b' act answer places k due shows child is =
      let now = seen_as is.own is.stories is.log k in
      let hears : IsHeard k.number is.ready.asked answer is.ready.seen now =
      (is.ready.more, is_answered k.number (made_by answer) is.ready.seen k is.own is.stories is.log is.ready.asked answer due is.ready.pending) in
      record {
        asks = record {
          own = is.own;
          stories = is.stories;
          log = is.log;
          seen = is.seen;
          says = shows k.number is.ready.asked is.ready.seen now is.ready.says hears;
        };
        bears = λ c spawned its own. child k.number is.ready.asked is.ready.seen now is.ready.says hears c its own spawned;
      }

  -- by a statement of its own it says no less
  pub about_single : (b' : B) (answer : Option Answer) (places : List Spot) (k : Known)
      → ((task : ℕ) (asked : Asked) (seen : Seen) → Shows b task asked seen → Shows b' task asked seen)
      → IsAbout Shows b answer places k → IsAbout Shows b' answer places k
  about_single b' answer places k stays is = record {
    own = is.own;
    stories = is.stories;
    log = is.log;
    seen = is.seen;
    ready = record {
      asked = is.ready.asked;
      seen = is.ready.seen;
      says = stays k.number is.ready.asked is.ready.seen is.ready.says;
      more = is.ready.more;
      pending = is.ready.pending;
    };
    legal = is.legal;
  }

  -- at its end
  pub has_said : (answer : Option Answer) (places : List Spot) (k : Known) (task : ℕ) → k.number ≡ task → IsAbout Shows b answer places k
      → HasSaid Shows b task
  has_said answer places k task same is =
      (is.ready.asked, is.ready.seen, subst (λ (t : ℕ). Shows b t is.ready.asked is.ready.seen) same is.ready.says, is.legal)

  -- of what has stayed it says the same
  pub asks_kept : (b' : B) (asked : Asked) (places places' : List Spot) (k k' : Known) → b' ≡ b → places' ≡ places → k' ≡ k
      → Asks Shows b asked places k → Asks Shows b' asked places' k'
  asks_kept b' asked places places' k k' body same standing asks =
      subst (λ (x : B). Asks Shows x asked places' k') (sym body)
      (subst (λ (ps : List Spot). Asks Shows b asked ps k') (sym same)
      (subst (λ (x : Known). Asks Shows b asked places x) (sym standing) asks))

  -- who asks for what is begun by it
  pub asks_for : (places : List Spot) (k : Known) (act : Begun) (asked : Asked) → IsAskedFor act k.holding asked
      → Asks Shows b asked places k → AsksFor Shows b act places k
  asks_for places k act asked fits asks = record { asked = asked; fits = fits; asks = asks }

  -- and who asks for a child
  pub asks_to_spawn : (child : B) (pairs : List Pair) (places : List Spot) (k : Known) (its : ℕ) → AsksToSpawn Shows b child pairs places k
      → AsksFor Shows b (Async its pairs) places k
  asks_to_spawn child pairs places k its spawns = record { asked = spawn spawns.to; fits = spawns.same; asks = spawns.asks }

  pub unborn_spawned : (child : B) (pairs : List Pair) (places : List Spot) (k : Known) (its : ℕ) → AsksToSpawn Shows b child pairs places k
      → IsUnborn Shows child its [] places
  unborn_spawned child pairs places k its spawns =
      let asks = spawns.asks in record {
        stories = asks.stories;
        says = spawns.bears its;
        legal = asks.seen.legal;
        handed = λ n. tt;
        known = λ n. some_map (λ p. (asks.own n ≡ p.me) × (asks.stories n ≡ story_of p)) (λ p. GoesOn (asks.stories n) (story_of p))
            (in_slot n places) (λ p is. subst (λ (v : Story). GoesOn (asks.stories n) v) is.1 (goes_itself (asks.stories n))) (asks.seen.placed n);
      }

  -- the root
  pub unborn_root : StartsWell Shows b → IsUnborn Shows b 0 [] []
  unborn_root starts = record {
    stories = λ n. told_of 0 [];
    says = λ own. starts own (λ n. told_of 0 []);
    legal = λ n. refl;
    handed = λ n. tt;
    known = λ n. tt;
  }
