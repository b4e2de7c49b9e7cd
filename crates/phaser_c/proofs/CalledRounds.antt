-- A round ends as the single calls of its tasks do.
use Rattle.std.proofs.Common.{◌≡◌, ℕ, zero, suc, ◌+◌, ◌≤◌, ◌==◌, Bool, true, false, ◌||◌, ◌&&◌, not, cond, List, [], ◌∷◌, ◌++◌, length, append_assoc, map, None, refl, ap, sym, ◌∙◌, subst, arith, inl, inr}
use Rattle.std.specs.Option.{option_map_or}
use Rattle.std.proofs.lemmas.Bool.{eq-eqb, eqb-true, and_parts, and_from, and_left, and_right, or_cases, or_right, false≢true, false_from_ne_true}
use Rattle.std.proofs.lemmas.List.{append-nil, map-append}
use Rattle.std.proofs.lemmas.List.Folds.{list_any-append}
use Rattle.phase_modes.specs.Mode.{can_signal, can_wait}
use Rattle.phase_model.specs.declared.history.Event.TheVariants.{Sig, Pass}
use Rattle.phase_model.specs.declared.call.Call.{Call}
use Rattle.phase_model.specs.declared.call.Call.TheVariants.{Signal as signal, Pass as pass}
use Rattle.phase_model.specs.Tasks.{has_mode}
use Rattle.phase_model.specs.Phases.{waits, signals, is_closed}
use Rattle.phase_model.specs.Singles.{has_proposed, is_claimed, is_settled}
use Rattle.phase_model.specs.Rules.{Story, with_event}
use Rattle.phase_model.specs.Laws.{after_calls}
use Rattle.phase_model.specs.Replies.{Reply, refused, not_yet, done, reply, after}
use Rattle.phase_model.specs.Answers.{signal_result, pass_result}
use Rattle.phase_model.specs.Waiting.{is_not_yet, would_wait}
use Rattle.phase_model.proofs.Closing.{signalled_from_closed}
use Rattle.phase_model.proofs.Waiting.{Held, waits_where_held}
use Rattle.phaser_core.specs.Parking.{is_parked, all_wait, answered_is, signal_answered_is}
use Rattle.phaser_core.specs.declared.parked.Parked.{Parked}
use Rattle.long_locks.specs.declared.answer.Ended.TheVariants.{Passed}
use Rattle.long_locks.specs.declared.answer.Freed.{Freed}
use Rattle.long_locks.specs.declared.course.Then.{Then}
use Rattle.long_locks.specs.declared.course.Then.TheVariants.{Pass as ThenPass}
use Rattle.long_locks.specs.declared.course.Course.TheVariants.{Over, Waits}
use Rattle.long_locks.specs.Courses.{story_after, pass_course, signal_course, answer_of}
use Rattle.long_locks.specs.Turns.{Standing, standing, to_pass, turn_of, turns, queue_after, gone_after, IsTurned}
use Rattle.long_locks.specs.Calls.{to_go_on, Called, called_once, called_on, called, answer_to, standing_after}
use Rattle.level_phaser.specs.Rounds.{Round, round}
use Rattle.level_phaser.specs.RoundLaws.{is_among, AreApart}
use Rattle.phaser_c.specs.RoundCalls.{next_answer, after_next, AreParked, EndsIn, all_passed, RoundIsCalls}
use Rattle.level_phaser.proofs.LevelTasks.{first_in}
use Rattle.level_phaser.proofs.LevelRounds.{Stands, has_gone, without_second, other_goes, pass_goes, last_goes, sent_come, signals_come, after_both, level_round_is}

-- a pass by what it is answered
once_is : (s : Story) (u : ℕ) (r : Reply) → reply s (pass u) ≡ r
    → called_once s (to_pass u)
    ≡ record { course = pass_course (pass_result s.past r); story = after s r; waiter = to_pass u }
unfolding story_after
once_is s u r is =
    ap (λ x. record { course = pass_course x; story = after s (reply s (pass u)); waiter = to_pass u })
    (sym (answered_is s u))
    ∙ ap (λ x. record { course = pass_course (pass_result s.past x); story = after s x; waiter = to_pass u }) is

-- who signals asks to pass then
signals_first : (s : Story) (u : ℕ) → reply s (signal u None) ≡ done (Sig u None)
    → called s (to_go_on u None) ≡ called_once (with_event s (Sig u None)) (to_pass u)
unfolding story_after
signals_first s u is =
    ap (λ x. called_on (signal_course ThenPass x) (after s (reply s (signal u None))) (to_go_on u None))
    (sym (signal_answered_is s u None))
    ∙ ap (λ r. called_on (signal_course ThenPass (signal_result r)) (after s r) (to_go_on u None)) is

-- a pass that is made
passes_now : (s : Story) (u p : ℕ) → reply s (pass u) ≡ done (Pass u) → waits u s.past ≡ p
    → called_once s (to_pass u)
    ≡ record { course = Over (Passed p); story = with_event s (Pass u); waiter = to_pass u }
passes_now s u p is at =
    once_is s u (done (Pass u)) is
    ∙ ap (λ q. record { course = Over (Passed q); story = with_event s (Pass u); waiter = to_pass u }) at

-- the one reply that is: not yet
is_not_now : (r : Reply) → is_not_yet r ≡ true → r ≡ not_yet
is_not_now (refused r) k = absurd cc
is_not_now not_yet k = refl
is_not_now (done e) k = absurd cc

-- turns, the first of them first
turns_first : (n : ℕ) (v : Standing) → turns (suc n) v ≡ turns n (turn_of v.story v.queue v.gone)
turns_first zero v = refl
turns_first (suc n) v = ap (λ (w : Standing). turn_of w.story w.queue w.gone) (turns_first n v)

-- of three tests that fail, the first and the last
shorter : (a b c : Bool) → (a || (b || c)) ≡ false → (a || c) ≡ false
shorter true b c k = k
shorter false true c k = absurd cc
shorter false false c k = k

-- one of two tests passes, and it isn't the second
only_left : (a : Bool) → (a || false) ≡ true → a ≡ true
only_left true k = refl
only_left false k = k

-- those are parked who are parked to pass
among_tasks : (u : ℕ) (qs : List ℕ) → is_parked u (map to_pass qs) ≡ is_among u qs
among_tasks u [] = refl
among_tasks u (q ∷ qs) = ap (λ b. (q == u) || b) (among_tasks u qs)

-- all who are parked to pass have to wait
all_waits : (s : Story) (qs : List ℕ) → ((u : ℕ) → is_among u qs ≡ true → would_wait s u ≡ true)
    → all_wait s (map to_pass qs) ≡ true
all_waits s [] each = refl
all_waits s (q ∷ qs) each =
    and_from (would_wait s q) (all_wait s (map to_pass qs))
    (each q (first_in q qs))
    (all_waits s qs (λ u e. each u (or_right (q == u) (is_among u qs) e)))

-- a task's own `next`, if it isn't parked
next_is : (u : ℕ) (s : Story) (ps : List (Parked Then)) (k : Called) → is_parked u ps ≡ false
    → called s (to_go_on u None) ≡ k
    → (next_answer u (standing s ps []) ≡ answer_of k.course)
    × (after_next u (standing s ps []) ≡ standing k.story (queue_after k.course k.waiter ps) [])
next_is u s ps k out is = (
  ap (λ b. answer_to b (called s (to_go_on u None))) out ∙ ap (λ (c : Called). answer_of c.course) is,
  ap (λ b. standing_after b (called s (to_go_on u None)) s ps) out
      ∙ ap (λ (c : Called). standing c.story (queue_after c.course c.waiter ps) []) is,
)

-- where the first may pass, some turn has been made before all wait
once_more : (u : ℕ) (s : Story) (ps : List (Parked Then)) (fs : List Freed) (v : Standing)
    → would_wait s u ≡ false
    → ((n : ℕ) → turns (suc n) (standing s (to_pass u ∷ ps) fs) ≡ turns n v)
    → (x : Standing) → all_wait x.story x.queue ≡ true → IsTurned (standing s (to_pass u ∷ ps) fs) x
    → IsTurned v x
once_more u s ps fs v free step x all (zero, is) =
    let waits = and_parts (would_wait s u) (all_wait s ps)
    (ap (λ (w : Standing). all_wait w.story w.queue) is ∙ all) in
    absurd (false≢true (sym free ∙ waits.0))
once_more u s ps fs v free step x all (suc n, is) = (n, sym (step n) ∙ is)

module _ (p : ℕ) (ts : List ℕ) where
  -- while one has yet to signal, who has signalled waits
  held_back : (xs : List ℕ) (n : ℕ) (s : Story) → Stands p ts xs ts n s → (t : ℕ) → is_among t ts ≡ true
      → is_among t xs ≡ true → (u : ℕ) → is_among u ts ≡ true → is_among u xs ≡ false → would_wait s u ≡ true
  held_back xs n s k t here yet u among has_told =
      let h = s.past in
      let behind : signals t h ≡ p = k.told t here ∙ ap (λ b. cond b p (p + 1)) yet in
      let told : signals u h ≡ p + 1 = k.told u among ∙ ap (λ b. cond b p (p + 1)) has_told in
      let turns : waits u h ≡ p = k.turns u among ∙ ap (λ b. cond b p (p + 1)) among in
      let closed : is_closed p h ≡ false =
      false_from_ne_true (is_closed p h) (λ y.
      let ahead : p + 1 ≤ signals t h =
      signalled_from_closed p h y t (k.live t here) (ap (λ o. option_map_or can_signal o false) (k.mode t here)) in
      omega (arith, ahead, behind)) in
      waits_where_held s u (subst (λ q. Held u q h) (sym turns) (record {
        live = k.live u among;
        signalled =
            ap (λ b. not b) (and_right (has_mode can_signal u h) (not (signals u h == p + 1))
            (ap (λ b. not b) (eq-eqb (signals u h) (p + 1) told)));
        waiter = ap (λ o. option_map_or can_wait o false) (k.mode u among);
        not_over = ap (λ b. not b) (and_left (is_closed p h) (is_settled p h) closed);
        no_claim =
            ap (λ b. not b) (and_left (has_proposed u p h && is_closed p h) (not (is_claimed p h))
            (and_right (has_proposed u p h) (is_closed p h) closed));
      }))

  -- all but t are parked
  park_all : (t : ℕ) (xs qs : List ℕ) (cs : List Call) (s : Story) → AreApart (t ∷ xs) → is_among t ts ≡ true
      → ((u : ℕ) → is_among u xs ≡ true → is_among u ts ≡ true)
      → ((u : ℕ) → is_among u qs ≡ true → (is_among u ts ≡ true) × (is_among u (t ∷ xs) ≡ false))
      → Stands p ts (t ∷ xs) ts (length (map (λ u. signal u None) xs ++ cs)) s
      → AreParked xs (standing s (map to_pass qs) [])
      (standing (after_calls s (map (λ u. signal u None) xs)) (map to_pass (qs ++ xs)) [])
  park_all t [] qs cs s apart here those before k = ap (λ l. standing s (map to_pass l) []) (sym (append-nil qs))
  park_all t (x ∷ xs) qs cs s apart here those before k =
      let others = map (λ u. signal u None) xs in
      let x_here = those x (first_in x xs) in
      let g = other_goes p ts t x xs (length (others ++ cs)) s apart x_here k in
      let v = with_event s (Sig x None) in
      let ps = qs ++ x ∷ [] in
      let mine : (u : ℕ) → is_among u ps ≡ true → (is_among u ts ≡ true) × (is_among u (t ∷ xs) ≡ false) =
      λ u e.
      elim (or_cases (is_among u qs) ((x == u) || false) (sym (list_any-append (λ w. w == u) qs (x ∷ [])) ∙ e)) [
        | inl old ↦ ((before u old).0, shorter (t == u) (x == u) (is_among u xs) (before u old).1)
        | inr new ↦
            subst (λ w. (is_among w ts ≡ true) × (is_among w (t ∷ xs) ≡ false))
            (eqb-true x u (only_left (x == u) new)) (x_here, has_gone t x xs apart)
      ] in
      let waits : (u : ℕ) → is_among u ps ≡ true → would_wait v u ≡ true =
      λ u e.
      held_back (t ∷ xs) (length (others ++ cs)) v g.next t here (first_in t xs) u (mine u e).0 (mine u e).1 in
      let last : is_among x ps ≡ true =
      list_any-append (λ w. w == x) qs (x ∷ []) ∙ or_right (is_among x qs) ((x == x) || false) (first_in x []) in
      let called_is = signals_first s x g.is ∙ once_is v x not_yet (is_not_now (reply v (pass x)) (waits x last)) in
      let out : is_parked x (map to_pass qs) ≡ false =
      among_tasks x qs ∙ false_from_ne_true (is_among x qs) (λ y.
      false≢true (sym (before x y).1 ∙ or_right (t == x) (is_among x (x ∷ xs)) (first_in x xs))) in
      let n =
      next_is x s (map to_pass qs) (record { course = Waits; story = v; waiter = to_pass x }) out called_is in
      let now : after_next x (standing s (map to_pass qs) []) ≡ standing v (map to_pass ps) [] =
      n.1 ∙ ap (λ l. standing v l []) (sym (map-append to_pass qs (x ∷ []))) in
      let end = standing (after_calls s (signal x None ∷ others)) (map to_pass (qs ++ x ∷ xs)) [] in
      let same : standing (after_calls v others) (map to_pass (ps ++ xs)) [] ≡ end =
      ap (λ l. standing (after_calls v others) (map to_pass l) []) (append_assoc qs (x ∷ []) xs)
      ∙ ap (λ r. standing (after_calls (after s r) others) (map to_pass (qs ++ x ∷ xs)) []) (sym g.is) in
      let rest =
      park_all t xs ps cs v (without_second t x xs apart) here
      (λ u e. those u (or_right (x == u) (is_among u xs) e)) mine g.next in
      let both =
      subst (λ (w : Standing). (all_wait w.story w.queue ≡ true) × AreParked xs w end) (sym now)
      (all_waits v ps waits, subst (λ w. AreParked xs (standing v (map to_pass ps) []) w) same rest) in
      (n.0, both.0, both.1)

  -- where nobody is parked nothing happens
  idle : (n : ℕ) (s : Story) (fs : List Freed) → turns n (standing s [] fs) ≡ standing s [] fs
  idle zero s fs = refl
  idle (suc n) s fs = ap (λ (w : Standing). turn_of w.story w.queue w.gone) (idle n s fs)

  -- once all have signalled, those who are parked pass in their order
  all_go : (xs : List ℕ) (s : Story) (fs : List Freed) → AreApart xs
      → ((u : ℕ) → is_among u xs ≡ true → is_among u ts ≡ true)
      → Stands p ts [] xs (length (map (λ u. pass u) xs)) s
      → EndsIn (standing s (map to_pass xs) fs)
      (standing (after_calls s (map (λ u. pass u) xs)) [] (fs ++ all_passed p xs))
  all_go [] s fs apart those k =
      let end : standing s [] fs ≡ standing s [] (fs ++ []) = ap (λ l. standing s [] l) (sym (append-nil fs)) in
      ((zero, end), λ x turned all. sym turned.1 ∙ (idle turned.0 s fs ∙ end))
  all_go (u ∷ xs) s fs apart those k =
      let passes = map (λ v. pass v) xs in
      let g = pass_goes p ts xs (length passes) s u k (those u (first_in u xs)) apart.0 in
      let v = with_event s (Pass u) in
      let freed : Freed = record { task = u; ended = Passed p } in
      let ps = map to_pass xs in
      let turn : turn_of s (to_pass u ∷ ps) fs ≡ standing v ps (fs ++ freed ∷ []) =
      ap (λ (c : Called). standing c.story (queue_after c.course (to_pass u) ps) (gone_after c.course u fs))
      (passes_now s u p g.0.is g.1) in
      let rest =
      all_go xs v (fs ++ freed ∷ []) apart.1 (λ w e. those w (or_right (u == w) (is_among w xs) e)) g.0.next in
      let end : standing (after_calls v passes) [] ((fs ++ freed ∷ []) ++ all_passed p xs)
      ≡ standing (after_calls s (pass u ∷ passes)) [] (fs ++ freed ∷ all_passed p xs) =
      ap (λ l. standing (after_calls v passes) [] l) (append_assoc fs (freed ∷ []) (all_passed p xs))
      ∙ ap (λ r. standing (after_calls (after s r) passes) [] (fs ++ freed ∷ all_passed p xs)) (sym g.0.is) in
      let begins = standing s (to_pass u ∷ ps) fs in
      let step : (n : ℕ) → turns (suc n) begins ≡ turns n (standing v ps (fs ++ freed ∷ [])) =
      λ n. turns_first n begins ∙ ap (λ (w : Standing). turns n w) turn in
      let free : would_wait s u ≡ false = ap (λ r. is_not_yet r) g.0.is in (
        (suc rest.0.0, step rest.0.0 ∙ (rest.0.1 ∙ end)),
        λ x turned all.
            rest.1 x (once_more u s ps fs (standing v ps (fs ++ freed ∷ [])) free step x all turned) all ∙ end,
      )

pub round_is_calls : RoundIsCalls
round_is_calls p s sends t ts k stand each room =
    let all = t ∷ ts in
    let passes = map (λ u. pass u) ts in
    let others = map (λ u. signal u None) ts in
    let ends = signal t None ∷ pass t ∷ passes in
    let those : (u : ℕ) → is_among u ts ≡ true → is_among u all ≡ true =
    λ u e. or_right (t == u) (is_among u ts) e in
    let o = after_calls s sends in
    let v = after_calls o others in
    let sent = sent_come p t ts sends s k stand each room in
    let parks =
    park_all p all t ts [] ends o stand.apart (first_in t ts) those (λ u e. absurd (false≢true e)) sent.next in
    let told = signals_come p all t ts ends o stand.apart those sent.next in
    let g = last_goes p t ts (length (pass t ∷ passes)) v told.next in
    let w = with_event v (Sig t None) in
    let f = pass_goes p all ts (length passes) w t g.next (first_in t ts) stand.apart.0 in
    let x = with_event w (Pass t) in
    let n =
    next_is t v (map to_pass ts) (record { course = Over (Passed p); story = x; waiter = to_pass t })
    (among_tasks t ts ∙ stand.apart.0) (signals_first v t g.is ∙ passes_now w t p f.0.is f.1) in
    let goes = all_go p all ts x [] stand.apart.1 those f.0.next in
    let same : (round p s sends all).story ≡ after_calls x passes =
    ap (λ (r : Round). r.story) (level_round_is p s sends all k stand each room).0
    ∙ (after_both s (sends ++ others) ends
    ∙ (ap (λ y. after_calls y ends) (after_both s sends others)
    ∙ (ap (λ r. after_calls (after v r) (pass t ∷ passes)) g.is
    ∙ ap (λ r. after_calls (after w r) passes) f.0.is))) in (
      standing v (map to_pass ts) [],
      parks,
      n.0,
      subst (λ y. EndsIn y (standing (round p s sends all).story [] (all_passed p ts))) (sym n.1)
          (subst (λ y. EndsIn (standing x (map to_pass ts) []) (standing y [] (all_passed p ts))) (sym same) goes),
    )
