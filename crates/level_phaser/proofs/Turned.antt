-- A round of level tasks, as those who share the phaser see it.
use Rattle.std.proofs.Common.{◌≡◌, ℕ, suc, ◌+◌, ◌≤◌, Bool, true, false, if◌then◌else◌, List, [], ◌∷◌, ◌++◌, length, map, refl, ap, sym, ◌∙◌, subst, arith, None, ⊎_elim}
use Rattle.std.specs.List.{list_all, filter}
use Rattle.std.proofs.lemmas.Bool.{and_parts, and_from}
use Rattle.told_history.specs.Tails.{IsTail}
use Rattle.phase_model.specs.declared.history.Event.{Event}
use Rattle.phase_model.specs.declared.history.Event.TheVariants.{Claim, Pass}
use Rattle.phase_model.specs.declared.call.Call.{Call}
use Rattle.phase_model.specs.declared.call.Call.TheVariants.{Signal as signal, Pass as pass}
use Rattle.phase_modes.specs.declared.limits.Limits.{Limits}
use Rattle.phase_model.specs.declared.terms.Terms.{Terms}
use Rattle.phase_model.specs.Phases.{signals}
use Rattle.phase_model.specs.Rules.{Story, with_event, is_permitted}
use Rattle.phase_model.specs.Replies.{Reply, refused, not_yet, done, event_for, reply, after}
use Rattle.phase_model.specs.Laws.{IsLegal}
use Rattle.level_phaser.specs.Deeds.{is_sent_by, deeds}
use Rattle.level_phaser.specs.Rounds.{Round, round, with_call, with_calls, round_calls}
use Rattle.level_phaser.specs.RoundLaws.{StandLevel, HasRoomFor}
use Rattle.level_phaser.specs.LevelPhasers.{IsReady}
use Rattle.level_phaser.specs.inner.Stories.{Turned}
use Rattle.level_phaser.proofs.Answered.{either_way, same_terms, same_limits}
use Rattle.level_phaser.proofs.Keeps.{tail_on, tail_same}
use Rattle.level_phaser.proofs.LevelTasks.{level_by}
use Rattle.level_phaser.proofs.LevelRounds.{level_round}

after_longer : (s : Story) (r : Reply) → IsTail s.past (after s r).past
after_longer s (refused r) = tail_same s.past
after_longer s not_yet = tail_same s.past
after_longer s (done e) = (e ∷ [], refl)

either_longer : (b : Bool) (past : List Event) (q r : Round) → IsTail past q.story.past
    → IsTail past r.story.past → IsTail past (if b then q else r).story.past
either_longer true past q r a b = a
either_longer false past q r a b = b

pub calls_longer : (p : ℕ) (r : Round) (cs : List Call) → IsTail r.story.past (with_calls p r cs).story.past
calls_longer p r [] = tail_same r.story.past
calls_longer p r (c ∷ cs) = tail_on r.story.past (with_call p r c).story.past
    (with_calls p (with_call p r c) cs).story.past
    (either_longer r.is_whole r.story.past _ r (after_longer r.story (reply r.story c))
    (tail_same r.story.past)) (calls_longer p (with_call p r c) cs)

either_terms : (b : Bool) (t : Terms) (q r : Round) → q.story.terms ≡ t → r.story.terms ≡ t
    → (if b then q else r).story.terms ≡ t
either_terms true t q r a b = a
either_terms false t q r a b = b

either_limits : (b : Bool) (l : Limits) (q r : Round) → q.story.limits ≡ l → r.story.limits ≡ l
    → (if b then q else r).story.limits ≡ l
either_limits true l q r a b = a
either_limits false l q r a b = b

-- nor its limits
pub calls_limits : (p : ℕ) (r : Round) (cs : List Call) → (with_calls p r cs).story.limits ≡ r.story.limits
calls_limits p r [] = refl
calls_limits p r (c ∷ cs) = calls_limits p (with_call p r c) cs
    ∙ either_limits r.is_whole r.story.limits _ r (same_limits r.story (reply r.story c)) refl

calls_terms : (p : ℕ) (r : Round) (cs : List Call) → (with_calls p r cs).story.terms ≡ r.story.terms
calls_terms p r [] = refl
calls_terms p r (c ∷ cs) = calls_terms p (with_call p r c) cs
    ∙ either_terms r.is_whole r.story.terms _ r (same_terms r.story (reply r.story c)) refl

each_len : (f : ℕ → Call) (ts : List ℕ) → length (map f ts) ≡ length ts
each_len f [] = refl
each_len f (t ∷ ts) = ap suc (each_len f ts)

both_len : (xs ys : List Call) → length (xs ++ ys) ≡ length xs + length ys
both_len [] ys = omega arith
both_len (x ∷ xs) ys = let r = both_len xs ys in omega arith

pub few_calls : (ts : List ℕ) → length (round_calls [] ts) ≤ length ts + length ts
few_calls [] = omega arith
few_calls (t ∷ ts) =
    let a = both_len (map (λ u. signal u None) ts) (signal t None ∷ pass t ∷ map (λ u. pass u) ts) in
    let b = each_len (λ u. signal u None) ts in
    let c = each_len (λ u. pass u) ts in
    omega arith

-- no call of a round sends a value
abbrev is_quiet : Call → Bool
is_quiet (signal t x) = true
is_quiet (pass t) = true
is_quiet _ = false

quiet_pass : (u t : ℕ) (b : Bool) (h : List Event)
    → filter (is_sent_by u) ((if b then Claim t else Pass t) ∷ h) ≡ filter (is_sent_by u) h
quiet_pass u t true h = refl
quiet_pass u t false h = refl

quiet_event : (u : ℕ) (s : Story) (c : Call) → is_quiet c ≡ true
    → filter (is_sent_by u) (event_for s.limits s.terms s.past c ∷ s.past) ≡ filter (is_sent_by u) s.past
quiet_event u s (signal t x) quiet = refl
quiet_event u s (pass t) quiet = quiet_pass u t (is_permitted s.limits s.terms s.past (Claim t)) s.past
quiet_event u s _ quiet = absurd cc

quiet_call : (u : ℕ) (s : Story) (c : Call) → is_quiet c ≡ true
    → filter (is_sent_by u) (after s (reply s c)).past ≡ filter (is_sent_by u) s.past
quiet_call u s c quiet = ⊎_elim
    (λ (k : after s (reply s c) ≡ s). ap (λ (z : Story). filter (is_sent_by u) z.past) k)
    (λ (k : after s (reply s c) ≡ with_event s (event_for s.limits s.terms s.past c)).
    ap (λ (z : Story). filter (is_sent_by u) z.past) k ∙ quiet_event u s c quiet)
    (either_way s c)

quiet_either : (u : ℕ) (b : Bool) (q r : Round) → filter (is_sent_by u) q.story.past ≡ filter
    (is_sent_by u) r.story.past
    → filter (is_sent_by u) (if b then q else r).story.past ≡ filter (is_sent_by u) r.story.past
quiet_either u true q r k = k
quiet_either u false q r k = refl

quiet_calls : (u p : ℕ) (r : Round) (cs : List Call) → list_all is_quiet cs ≡ true
    → filter (is_sent_by u) (with_calls p r cs).story.past ≡ filter (is_sent_by u) r.story.past
quiet_calls u p r [] quiet = refl
quiet_calls u p r (c ∷ cs) quiet =
    let parts = and_parts (is_quiet c) (list_all is_quiet cs) quiet in
    quiet_calls u p (with_call p r c) cs parts.1 ∙ quiet_either u r.is_whole _ r
    (quiet_call u r.story c parts.0)

all_both : (xs ys : List Call) → list_all is_quiet xs ≡ true → list_all is_quiet ys ≡ true
    → list_all is_quiet (xs ++ ys) ≡ true
all_both [] ys a b = b
all_both (x ∷ xs) ys a b =
    let parts = and_parts (is_quiet x) (list_all is_quiet xs) a in
    and_from (is_quiet x) (list_all is_quiet (xs ++ ys)) parts.0 (all_both xs ys parts.1 b)

each_quiet : (f : ℕ → Call) (ts : List ℕ) → ((t : ℕ) → is_quiet (f t) ≡ true)
    → list_all is_quiet (map f ts) ≡ true
each_quiet f [] quiet = refl
each_quiet f (t ∷ ts) quiet = and_from (is_quiet (f t)) (list_all is_quiet (map f ts)) (quiet t)
    (each_quiet f ts quiet)

quiet_round : (ts : List ℕ) → list_all is_quiet (round_calls [] ts) ≡ true
quiet_round [] = refl
quiet_round (t ∷ ts) =
    all_both (map (λ u. signal u None) ts) (signal t None ∷ pass t ∷ map (λ u. pass u) ts)
    (each_quiet (λ u. signal u None) ts (λ u. refl))
    (each_quiet (λ u. pass u) ts (λ u. refl))

-- a round is whole, and turns all tasks
pub round_is : (p : ℕ) (s s' : Story) (ts : List ℕ) → IsReady p ts s
    → HasRoomFor (length (round_calls [] ts)) ts s → s' ≡ (round p s [] ts).story → IsLegal s'
    → ((round p s [] ts).is_whole ≡ true) × Turned p ts s s'
round_is p s s' ts ready room is legal' =
    let k = level_round p s [] ts ready.0 ready.1 refl room in
    let begun : Round = record { story = s; made = 0; is_whole = true } in
    let stand : StandLevel (p + 1) ts s' = subst (λ (z : Story). StandLevel (p + 1) ts z) (sym is) k.1 in (
      k.0,
      record {
        longer = subst (λ (z : Story). IsTail s.past z.past) (sym is)
            (calls_longer p begun (round_calls [] ts));
        terms = ap (λ (z : Story). z.terms) is ∙ calls_terms p begun (round_calls [] ts);
        ready = (legal', stand);
        each = λ u live.
            let here = ready.1.all u live in
            let a = level_by p ts s ready.1.level u here in
            let b = level_by (p + 1) ts s' stand.level u here in
            let told : signals u s'.past ≡ signals u s.past + 1 = b.told
            ∙ ap (λ (n : ℕ). n + 1) (sym a.told) in
            let sent : filter (is_sent_by u) s'.past ≡ filter (is_sent_by u) s.past =
            ap (λ (z : Story). filter (is_sent_by u) z.past) is ∙ quiet_calls u p begun (round_calls [] ts)
            (quiet_round ts) in
            (b.live, λ i. deeds (told i) (sent i));
      },
    )

-- the history has room for a round of so many tasks
pub round_has_room : (left : ℕ) (ts : List ℕ) (s : Story) → left + length s.past ≡ s.limits.history
    → 1024 ≤ left → length ts ≤ 256 → HasRoomFor (length (round_calls [] ts)) ts s
round_has_room left ts s is most few = let c = few_calls ts in omega arith
