-- Beside one whole run in which each kind of number is drawn by one task alone, in order: the least number that
-- isn't in use is the next in order, in whatever other history.
use Rattle.std.proofs.Common.{◌≡◌, ◌⊎◌, ℕ, ◌+◌, ◌<◌, ◌≤◌, Bool, true, false, ◌&&◌, ◌==◌, not, cond, List, [], ◌∷◌, ◌++◌, Some, refl, sym, ap, ◌∙◌, inl, inr, arith}
use Rattle.std.specs.List.{count_by}
use Rattle.std.proofs.lemmas.Bool.{and_parts, and_from, cases_Bool, eqb-true, eq-eqb, true≢false}
use Rattle.std.proofs.lemmas.List.Sums.{sum_by-cons}
use Rattle.phase_modes.specs.declared.limits.Limits.{Limits}
use Rattle.phase_modes.specs.declared.phased.Pair.{Pair}
use Rattle.finish_core.specs.declared.event.FinishEvent.TheVariants.{Opened}
use Rattle.job_script.specs.declared.act.Act.{Act}
use Rattle.job_script.specs.declared.act.Answer.{Answer}
use Rattle.world_model.specs.declared.event.Step.TheVariants.{Make}
use Rattle.world_model.specs.declared.event.Begun.TheVariants.{Async}
use Rattle.world_model.specs.declared.event.Tried.{Tried}
use Rattle.world_model.specs.declared.event.Tried.TheVariants.{Begun as Beginning, New, Open}
use Rattle.world_model.specs.declared.event.WorldEvent.{WorldEvent}
use Rattle.world_model.specs.declared.event.WorldEvent.TheVariants.{Phaser, Finish, Begin, Refuse}
use Rattle.world_model.specs.Actors.{actor}
use Rattle.world_model.specs.Acts.{act_reply, is_number_used}
use Rattle.world_model.specs.Drawing.{least_unused, own_pairs}
use Rattle.world_model.specs.Due.{due, is_idle}
use Rattle.world_model.specs.GivingUp.{is_refused_by, may_refuse}
use Rattle.world_model.specs.Numbers.{is_phaser, is_finish, is_named}
use Rattle.world_model.specs.Replies.{is_legal_world, is_accepted}
use Rattle.world_model.specs.Tasks.{is_ended}
use Rattle.world_model.proofs.AbleComputed.{act_now, made_done_where, refuse_idle}
use Rattle.world_model.proofs.AbruptEnds.{nothing_due}
use Rattle.world_model.proofs.DueStays.{IsFirstDue}
use Rattle.world_model.proofs.MadeMeans.{last_accepted}
use Rattle.world_model.proofs.PassesInTurns.{idle_is_born}
use Rattle.trace_walk.specs.Going.{does, is_next, goes_by}
use Rattle.trace_walk.specs.Walking.{Does}
use Rattle.trace_walk.proofs.SameActs.{act_is}
use Rattle.trace_walk.specs.Follows.{drawn}
use Rattle.trace_walk.specs.Scripts.{Numbers, act_of}
use Rattle.trace_walk.specs.Given.{tried_of}
use Rattle.run_laws.specs.Telling.{Told, told, makes, begins_child, opens, in_order, draws_by, draws_next, draws_least, draws_least_next}
use Rattle.run_laws.specs.Least.{LeastIsInOrder, LeastHangsOnMemoryAlone}
use Rattle.run_laws.specs.Memory.{has_memory, is_forced, is_roomy}
use Rattle.run_laws.proofs.Plain.{not_empty}
use Rattle.run_laws.proofs.Drawings.{drawn_is}
use Rattle.run_laws.proofs.Main.{IsNextOf, another, all_placed, beginning_of}
use Rattle.run_laws.proofs.Memory.{no_refusal_now}
use Rattle.run_laws.proofs.NextEvents.{IsGoing, IsLast, IsAct, event_by, going, kind_of, act_fixed, none_refused}
use Rattle.run_laws.proofs.OneDrawer.{IsKind, drawn_by, drawn_now, drawn_later, one_drawer, in_use, phasers_kind, tasks_kind, finishes_kind, phaser_number, child_number, finish_number, makes_alike, spawns_alike, opens_alike}
use Rattle.run_laws.proofs.Others.{is_refusal}
use Rattle.run_laws.proofs.Refusals.{last_of}
use Rattle.run_laws.proofs.Reports.{runs_come_to_the_same}
use Rattle.run_laws.proofs.Rooms.{calm_unrefused}
use Rattle.run_laws.proofs.Twins.{is_calm}

count_front : (q : Told → Bool) (xs ys : List Told) → count_by q ys ≤ count_by q (xs ++ ys)
count_front q [] ys = omega arith
count_front q (x ∷ xs) ys =
    let more : count_by q (x ∷ (xs ++ ys)) ≡ cond (q x) 1 0 + count_by q (xs ++ ys) =
    sum_by-cons (λ d. cond (q d) 1 0) x (xs ++ ys) in
    omega (arith, more, count_front q xs ys)

module _ {B : Type 0} (next : Answer → B → Does B) (root : B) (l : Limits)
    (v : List WorldEvent) (going_v : IsGoing next root in_order l v) (over : is_ended 0 v ≡ true)
    (w : List WorldEvent) (going_w : IsGoing next root in_order l w)
    (t : ℕ) (a : Tried) (idle : is_idle t w ≡ true)
    (goes : is_next next root w (Some (record { task = t; act = a })) ≡ true) where
  -- whatever number the act of a task draws, its next event in the run draws one of that kind
  like_next : (q : WorldEvent → Bool)
      → ((own mine : List Pair) (new given : Numbers) (d : Act B)
      → q (event_by t (tried_of own new d)) ≡ q (event_by t (tried_of mine given d)))
      → (f : IsNextOf next root in_order l t w v) × (q f.event ≡ q (event_by t a))
  like_next q alike =
      let f = another next root in_order l v going_v over t w (nothing_due t w idle).1
      (all_placed next root in_order l v going_v over w going_w t (idle_is_born t w idle)) in
      let b = last_of next root in_order l v going_v over w going_w t f in
      (f, by_kind f b (kind_of l t f.event f.before b.made b.calm f.plain f.mine))
    where
      by_kind : (f : IsNextOf next root in_order l t w v) → IsLast next root in_order l f.event f.before
          → IsAct t f.event f.before ⊎ IsFirstDue t f.before f.event → q f.event ≡ q (event_by t a)
      by_kind f k (inl i) =
          let there = own_pairs t f.before in
          let given = in_order t (told t f.before) in
          let here : a ≡ tried_of (own_pairs t w) (drawn a) (does next root w t).0 =
          act_is a (tried_of (own_pairs t w) (drawn a) (does next root w t).0) goes in
          ap (λ e. q e) i.is
          ∙ (ap (λ x. q (event_by t x)) (act_fixed next root in_order l t f.event f.before k i)
          ∙ (ap (λ (d : Does B). q (event_by t (tried_of there given d.0))) (sym f.twin.own.doing)
          ∙ (alike there (own_pairs t w) given (drawn a) (does next root w t).0
          ∙ ap (λ x. q (event_by t x)) (sym here))))
      by_kind f k (inr d) =
          absurd (not_empty f.event d.rest (due t w) (f.twin.own.waiting ∙ d.is) (nothing_due t w idle).0)

  -- so where it draws the least one, it draws the next in order
  next_of_kind : (q : WorldEvent → Bool) (number : WorldEvent → ℕ) (used : ℕ → List WorldEvent → Bool)
      (base limit : ℕ) → IsKind l q number used base
      → ((own mine : List Pair) (new given : Numbers) (d : Act B)
      → q (event_by t (tried_of own new d)) ≡ q (event_by t (tried_of mine given d)))
      → q (event_by t a) ≡ true → (number (event_by t a) == least_unused (λ i. used i w) limit) ≡ true
      → used (number (event_by t a)) w ≡ false → number (event_by t a) ≡ base + drawn_by q t w
  next_of_kind q number used base limit kind alike draws least free =
      let f = like_next q alike in
      let mine : (q f.0.event && actor f.0.before f.0.event == t) ≡ true =
      and_from (q f.0.event) (actor f.0.before f.0.event == t) (f.1 ∙ draws)
      (eq-eqb (actor f.0.before f.0.event) t f.0.mine) in
      let now = drawn_now l q number used base kind t f.0.event f.0.before mine in
      let part = drawn_later l q number used base kind t f.0.after (f.0.event ∷ f.0.before) in
      let whole : drawn_by q t v ≡ drawn_by q t (f.0.after ++ f.0.event ∷ f.0.before) =
      ap (λ x. drawn_by q t x) f.0.is in
      let some : 0 < drawn_by q t v = omega (arith, now, part, whole) in
      drawn_is (λ i. used i w) limit (number (event_by t a)) (base + drawn_by q t w)
      (in_use l q number used base kind t w going_w.legal going_w.draws (λ u other.
      one_drawer l q number used base kind v going_v.legal going_v.draws u t (there u other) some)) least free
    where
      there : (u : ℕ) → 0 < drawn_by q u w → 0 < drawn_by q u v
      there u other =
          let first = beginning_of next root in_order l v w going_v over going_w u in
          let more : drawn_by q u w ≤ count_by (λ (x : Told). q x.event) (first.0 ++ told u w) =
          count_front (λ (x : Told). q x.event) first.0 (told u w) in
          let is : drawn_by q u v ≡ count_by (λ (x : Told). q x.event) (first.0 ++ told u w) =
          ap (λ xs. count_by (λ (x : Told). q x.event) xs) first.1 in
          omega (arith, other, more, is)

draws_it : {B : Type 0} (next : Answer → B → Does B) (root : B) (l : Limits)
    (v : List WorldEvent) (going_v : IsGoing next root in_order l v) (over : is_ended 0 v ≡ true)
    (w : List WorldEvent) (going_w : IsGoing next root in_order l w) (t : ℕ) (a : Tried)
    → is_idle t w ≡ true → is_next next root w (Some (record { task = t; act = a })) ≡ true
    → is_number_used w a ≡ false → draws_least_next l w (Some (record { task = t; act = a })) ≡ true
    → draws_next in_order w (Some (record { task = t; act = a })) ≡ true
draws_it {B = B} next root l v going_v over w going_w t (New n m terms) idle goes free least =
    let is : n ≡ 0 + drawn_by makes t w =
    next_of_kind next root l v going_v over w going_w t (New n m terms) idle goes makes phaser_number is_phaser 0
    l.phasers (phasers_kind l) (λ own mine new given d. makes_alike {B = B} t own mine new given d) refl least free in
    eq-eqb n (drawn_by makes t w) (omega (arith, is))
draws_it {B = B} next root l v going_v over w going_w t (Open f) idle goes free least =
    let is : f ≡ 1 + drawn_by opens t w =
    next_of_kind next root l v going_v over w going_w t (Open f) idle goes opens finish_number is_finish 1
    l.finishes (finishes_kind l) (λ own mine new given d. opens_alike {B = B} t own mine new given d) refl least free in
    eq-eqb f (drawn_by opens t w + 1) (omega (arith, is))
draws_it {B = B} next root l v going_v over w going_w t (Beginning (Async c ps)) idle goes free least =
    let is : c ≡ 1 + drawn_by begins_child t w =
    next_of_kind next root l v going_v over w going_w t (Beginning (Async c ps)) idle goes begins_child
    child_number is_named 1 l.tasks (tasks_kind l)
    (λ own mine new given d. spawns_alike {B = B} t own mine new given d) refl least free in
    eq-eqb c (drawn_by begins_child t w + 1) (omega (arith, is))
draws_it next root l v going_v over w going_w t a idle goes free least = refl

-- ---- one event more

module _ {B : Type 0} (next : Answer → B → Does B) (root : B) (l : Limits)
    (v : List WorldEvent) (going_v : IsGoing next root in_order l v) (over : is_ended 0 v ≡ true)
    (w : List WorldEvent) (going_w : IsGoing next root in_order l w) where
  -- an act that is refused wants no number that is in use
  refused_free : (t n : ℕ) (a : Tried) → is_idle t w ≡ true → is_refused_by n (act_reply l w t a) ≡ true
      → not (n == 22) ≡ true → is_number_used w a ≡ false
  refused_free t n a idle h other =
      elim (cases_Bool (is_number_used w a)) [
        | inl used ↦
            let now : (22 == n) ≡ true = rw (idle, used) at h in
            absurd (true≢false (sym other ∙ ap (λ x. not x) (eq-eqb n 22 (sym (eqb-true 22 n now)))))
        | inr free ↦ free
      ]

  event_draws : (e : WorldEvent) → is_accepted l w e ≡ true → is_next next root w (act_of e) ≡ true
      → draws_least_next l w (act_of e) ≡ true → draws_next in_order w (act_of e) ≡ true
  event_draws (Phaser n (Make t m terms)) k goes least =
      let now = act_now l w t (New n m terms) k in
      draws_it next root l v going_v over w going_w t (New n m terms) now.0 goes now.1 least
  event_draws (Begin t (Async c ps)) k goes least =
      let now = act_now l w t (Beginning (Async c ps)) k in
      draws_it next root l v going_v over w going_w t (Beginning (Async c ps)) now.0 goes now.1 least
  event_draws (Finish f (Opened t)) k goes least =
      let now = act_now l w t (Open f) k in
      draws_it next root l v going_v over w going_w t (Open f) now.0 goes now.1 least
  event_draws (Refuse t a n) k goes least =
      let refused : may_refuse l w t a n ≡ true = made_done_where (may_refuse l w t a n) k in
      let p = and_parts (is_refused_by n (act_reply l w t a) && not (n == 22)) (not (n == 23)) refused in
      let q = and_parts (is_refused_by n (act_reply l w t a)) (not (n == 22)) p.0 in
      let idle : is_idle t w ≡ true = refuse_idle l w t a n refused in
      draws_it next root l v going_v over w going_w t a idle goes (refused_free t n a idle q.0 q.1) least
  event_draws e k goes least = refl

-- ---- the laws

smooth_in_order : {B : Type 0} (next : Answer → B → Does B) (root : B) (l : Limits)
    (v : List WorldEvent) (going_v : IsGoing next root in_order l v) (over : is_ended 0 v ≡ true)
    (w : List WorldEvent) → is_legal_world l w ≡ true → goes_by next root w ≡ true → is_calm w ≡ true
    → draws_least l w ≡ true
    → draws_by in_order w ≡ true
smooth_in_order next root l v going_v over [] k i c d = refl
smooth_in_order next root l v going_v over (e ∷ w) k i c d =
    let a = last_accepted l e w k in
    let b = and_parts (is_next next root w (act_of e)) (goes_by next root w) i in
    let calm = and_parts (not (is_refusal e)) (is_calm w) c in
    let least = and_parts (draws_least_next l w (act_of e)) (draws_least l w) d in
    let before = smooth_in_order next root l v going_v over w a.1 b.1 calm.1 least.1 in
    and_from (draws_next in_order w (act_of e)) (draws_by in_order w)
    (event_draws next root l v going_v over w
    (record { legal = a.1; goes = b.1; draws = before; calm = calm.1 }) e a.0 b.0 least.0) before

pub least_is_in_order : {B : Type 0} (next : Answer → B → Does B) → LeastIsInOrder next
least_is_in_order next root l v w run smooth d =
    smooth_in_order next root l v (going next root in_order l v run.whole.smooth run.draws) run.whole.ended w
    smooth.legal smooth.goes (none_refused w smooth.unrefused) d

pub all_calm : {B : Type 0} (next : Answer → B → Does B) (root : B) (l : Limits)
    (v : List WorldEvent) (going_v : IsGoing next root in_order l v) (over : is_ended 0 v ≡ true)
    (roomy : is_roomy l v ≡ true) (w : List WorldEvent)
    → is_legal_world l w ≡ true → goes_by next root w ≡ true → draws_least l w ≡ true → has_memory l w ≡ true
    → IsGoing next root in_order l w
all_calm next root l v going_v over roomy [] k i d r =
    record { legal = k; goes = i; draws = refl; calm = refl }
all_calm next root l v going_v over roomy (e ∷ w) k i d r =
    let a = last_accepted l e w k in
    let b = and_parts (is_next next root w (act_of e)) (goes_by next root w) i in
    let least = and_parts (draws_least_next l w (act_of e)) (draws_least l w) d in
    let q = and_parts (is_forced l w e) (has_memory l w) r in
    let g = all_calm next root l v going_v over roomy w a.1 b.1 least.1 q.1 in
    let now : draws_next in_order w (act_of e) ≡ true =
    event_draws next root l v going_v over w g e a.0 b.0 least.0 in
    record {
      legal = k;
      goes = i;
      draws = and_from (draws_next in_order w (act_of e)) (draws_by in_order w) now g.draws;
      calm = and_from (not (is_refusal e)) (is_calm w)
          (ap (λ x. not x) (no_refusal_now next root in_order l v going_v over roomy e w g a.0 b.0 now q.0))
          g.calm;
    }

pub least_hangs_on_memory_alone : {B : Type 0} (next : Answer → B → Does B) → LeastHangsOnMemoryAlone next
least_hangs_on_memory_alone next root l v w run roomy k i d r =
    let g =
    all_calm next root l v (going next root in_order l v run.whole.smooth run.draws) run.whole.ended roomy w
    k i d r in
    let none = calm_unrefused w g.calm in (
      none,
      λ ended. runs_come_to_the_same next root in_order l v w run
          (record {
            whole = record { smooth = record { legal = k; goes = i; unrefused = none }; ended = ended };
            draws = g.draws;
          }),
    )
