-- Of a program whose text says so the root alone draws numbers; so its report is told by its text.
use Rattle.std.proofs.Common.{◌≡◌, ℕ, zero, suc, Bool, true, false, ◌||◌, ◌==◌, not, cond, List, [], ◌∷◌, ◌++◌, None, refl, sym, subst, ap, ◌∙◌, inl, inr}
use Rattle.std.specs.Prelude.{drop, slice_get}
use Rattle.std.specs.List.{list_any, list_all}
use Rattle.std.proofs.lemmas.Bool.{and_parts, and_from, or_cases, or_left, cases_Bool, eqb-true, true≢false, false≢true, false_from_ne_true, not-true}
use Rattle.phase_modes.specs.declared.phased.Pair.{Pair}
use Rattle.finish_core.specs.declared.event.FinishEvent.TheVariants.{Opened}
use Rattle.job_script.specs.Acts as texts
use Rattle.job_script.specs.Acts.{Acts, no_acts, act, flat, written, copies}
use Rattle.job_script.specs.Program.{Program}
use Rattle.job_script.specs.declared.head.Head.{Head}
use Rattle.job_script.specs.declared.head.Head.TheVariants as heads
use Rattle.world_model.specs.declared.event.Step.TheVariants.{Make}
use Rattle.world_model.specs.declared.event.Begun.TheVariants.{Async}
use Rattle.world_model.specs.declared.event.Tried.{Tried}
use Rattle.world_model.specs.declared.event.Tried.TheVariants.{Begun as Beginning, New, Open}
use Rattle.world_model.specs.declared.event.WorldEvent.{WorldEvent}
use Rattle.world_model.specs.declared.event.WorldEvent.TheVariants.{Phaser, Finish, Begin}
use Rattle.world_model.specs.Numbers.{is_named, names}
use Rattle.world_model.specs.Replies.{is_legal_world, is_accepted}
use Rattle.world_model.proofs.MadeMeans.{last_accepted}
use Rattle.world_model.proofs.SpawnUnderWay.{names_fresh}
use Rattle.trace_walk.specs.Scripts.{Numbers, act_of, is_of, parent_by}
use Rattle.trace_walk.specs.Follows.{drawn, same_act}
use Rattle.trace_walk.specs.Scripts.{body_of, acts_left, meanings, tried_as, tried_next, tried}
use Rattle.trace_walk.specs.Follows.{is_next as is_its_next, follows}
use Rattle.run_laws.specs.Texts.{is_spawn, is_draw, draw_none, children_draw_none, root_draws_alone}
use Rattle.run_laws.specs.Telling.{in_order, is_root_draw, root_draws}
use Rattle.run_laws.specs.Programs.{IsProgramRun, IsLeastRun, TextsTellWhoDraws, TextsForetell}
use Rattle.run_laws.proofs.Scripts.{maker_named, programs_come_to_the_same}
use Rattle.world_model.specs.declared.event.Begun.TheVariants as begun
use Rattle.trace_walk.proofs.SameActs.{act_is}
use Rattle.run_laws.proofs.Drawings.{roots_draw_in_order}

-- ---- lists of acts

-- the act draws nothing
abbrev is_quiet : texts.Act → Bool
is_quiet a = not (is_draw a.head)

-- the act's child, if it has one, draws nothing
abbrev is_fair : texts.Act → Bool
is_fair a = not (is_spawn a.head) || draw_none a.body

all_both : (p : texts.Act → Bool) (xs ys : List texts.Act) → list_all p xs ≡ true → list_all p ys ≡ true
    → list_all p (xs ++ ys) ≡ true
all_both p [] ys a b = b
all_both p (x ∷ xs) ys a b =
    let c = and_parts (p x) (list_all p xs) a in
    and_from (p x) (list_all p (xs ++ ys)) c.0 (all_both p xs ys c.1 b)

all_copies : (p : texts.Act → Bool) (k : ℕ) (xs : List texts.Act) → list_all p xs ≡ true → list_all p (copies k xs) ≡ true
all_copies p zero xs a = refl
all_copies p (suc k) xs a = all_both p xs (copies k xs) a (all_copies p k xs a)

all_dropped : (p : texts.Act → Bool) (xs : List texts.Act) → list_all p xs ≡ true → list_all p (drop 1 xs) ≡ true
all_dropped p [] a = refl
all_dropped p (x ∷ xs) a = (and_parts (p x) (list_all p xs) a).1

if_false : (b c : Bool) → cond b false c ≡ true → (b ≡ false) × (c ≡ true)
if_false true c k = absurd (false≢true k)
if_false false c k = (refl, k)

-- the acts of a list that draws nothing
quiet_written : (h : Head) (body : Acts) → is_draw h ≡ false → list_all is_quiet (flat body) ≡ true
    → list_all is_quiet (written h body (flat body)) ≡ true
quiet_written (heads.Repeat k) body h b = all_copies is_quiet k (flat body) b
quiet_written heads.ShutFinish body h b = refl
quiet_written heads.Signal body h b = refl
quiet_written heads.Wait body h b = refl
quiet_written heads.Next body h b = refl
quiet_written (heads.NextSingle n) body h b = refl
quiet_written (heads.Send name a v) body h b = refl
quiet_written (heads.Look name a) body h b = refl
quiet_written (heads.New name m terms) body h b = absurd (true≢false h)
quiet_written (heads.Async xs) body h b = absurd (true≢false h)
quiet_written heads.AsyncAll body h b = absurd (true≢false h)
quiet_written heads.OpenFinish body h b = absurd (true≢false h)

quiet_flat : (xs : Acts) → draw_none xs ≡ true → list_all is_quiet (flat xs) ≡ true
quiet_flat no_acts k = refl
quiet_flat (act h body rest) k =
    let a = and_parts (cond (is_draw h) false (draw_none body)) (draw_none rest) k in
    let b = if_false (is_draw h) (draw_none body) a.0 in
    all_both is_quiet (written h body (flat body)) (flat rest)
    (quiet_written h body b.0 (quiet_flat body b.1)) (quiet_flat rest a.1)

-- the acts of a list whose children draw nothing
fair_written : (h : Head) (body : Acts) → cond (is_spawn h) (draw_none body) (children_draw_none body) ≡ true
    → (children_draw_none body ≡ true → list_all is_fair (flat body) ≡ true)
    → list_all is_fair (written h body (flat body)) ≡ true
fair_written (heads.Repeat k) body h b = all_copies is_fair k (flat body) (b h)
fair_written (heads.Async xs) body h b = and_from (draw_none body) true h refl
fair_written heads.AsyncAll body h b = and_from (draw_none body) true h refl
fair_written (heads.New name m terms) body h b = refl
fair_written heads.OpenFinish body h b = refl
fair_written heads.ShutFinish body h b = refl
fair_written heads.Signal body h b = refl
fair_written heads.Wait body h b = refl
fair_written heads.Next body h b = refl
fair_written (heads.NextSingle n) body h b = refl
fair_written (heads.Send name a v) body h b = refl
fair_written (heads.Look name a) body h b = refl

fair_flat : (xs : Acts) → children_draw_none xs ≡ true → list_all is_fair (flat xs) ≡ true
fair_flat no_acts k = refl
fair_flat (act h body rest) k =
    let a = and_parts (cond (is_spawn h) (draw_none body) (children_draw_none body)) (children_draw_none rest) k in
    all_both is_fair (written h body (flat body)) (flat rest)
    (fair_written h body a.0 (λ x. fair_flat body x)) (fair_flat rest a.1)

-- ---- what a task makes next

-- the act draws a number
abbrev pub is_drawing : Tried → Bool
is_drawing (New n m terms) = true
is_drawing (Open f) = true
is_drawing (Beginning (Async c ps)) = true
is_drawing _ = false

-- what a head that draws nothing stands for draws nothing
quiet_tried : (w : List WorldEvent) (t : ℕ) (ms : List ℕ) (new : Numbers) (h : Head) → is_draw h ≡ false
    → is_drawing (tried_as w t ms new h) ≡ false
quiet_tried w t ms new (heads.New name m terms) k = absurd (true≢false k)
quiet_tried w t ms new (heads.Async xs) k = absurd (true≢false k)
quiet_tried w t ms new heads.AsyncAll k = absurd (true≢false k)
quiet_tried w t ms new heads.OpenFinish k = absurd (true≢false k)
quiet_tried w t ms new heads.ShutFinish k = refl
quiet_tried w t ms new heads.Signal k = refl
quiet_tried w t ms new heads.Wait k = refl
quiet_tried w t ms new heads.Next k = refl
quiet_tried w t ms new (heads.NextSingle n) k = refl
quiet_tried w t ms new (heads.Send name a v) k = refl
quiet_tried w t ms new (heads.Look name a) k = refl
quiet_tried w t ms new (heads.Repeat n) k = refl

-- so a task whose acts are quiet makes no act that draws
quiet_makes : (w : List WorldEvent) (t : ℕ) (ms : List ℕ) (new : Numbers) (left : List texts.Act) (a : Tried)
    → list_all is_quiet left ≡ true → same_act a (tried_next w t ms new (slice_get left 0)) ≡ true
    → is_drawing a ≡ false
quiet_makes w t ms new [] a q k = ap is_drawing (act_is a (Beginning begun.End) k)
quiet_makes w t ms new (x ∷ xs) a q k =
    ap is_drawing (act_is a (tried_as w t ms new x.head) k)
    ∙ quiet_tried w t ms new x.head (not-true (is_draw x.head) (and_parts (is_quiet x) (list_all is_quiet xs) q).0)

-- a head that stands for a spawn is one
spawn_head : (w : List WorldEvent) (t c : ℕ) (ps : List Pair) (ms : List ℕ) (new : Numbers) (h : Head)
    → same_act (Beginning (Async c ps)) (tried_as w t ms new h) ≡ true → is_spawn h ≡ true
spawn_head w t c ps ms new (heads.Async xs) k = refl
spawn_head w t c ps ms new heads.AsyncAll k = refl
spawn_head w t c ps ms new (heads.New name m terms) k = absurd (false≢true k)
spawn_head w t c ps ms new heads.OpenFinish k = absurd (false≢true k)
spawn_head w t c ps ms new heads.ShutFinish k = absurd (false≢true k)
spawn_head w t c ps ms new heads.Signal k = absurd (false≢true k)
spawn_head w t c ps ms new heads.Wait k = absurd (false≢true k)
spawn_head w t c ps ms new heads.Next k = absurd (false≢true k)
spawn_head w t c ps ms new (heads.NextSingle n) k = absurd (false≢true k)
spawn_head w t c ps ms new (heads.Send name a v) k = absurd (false≢true k)
spawn_head w t c ps ms new (heads.Look name a) k = absurd (false≢true k)
spawn_head w t c ps ms new (heads.Repeat n) k = absurd (false≢true k)

fair_child : (w : List WorldEvent) (t c : ℕ) (ps : List Pair) (ms : List ℕ) (new : Numbers) (left : List texts.Act)
    → list_all is_fair left ≡ true
    → same_act (Beginning (Async c ps)) (tried_next w t ms new (slice_get left 0)) ≡ true
    → list_all is_quiet (flat (body_of (slice_get left 0))) ≡ true
fair_child w t c ps ms new [] q k = absurd (false≢true k)
fair_child w t c ps ms new (x ∷ xs) q k =
    quiet_flat x.body (second (is_spawn x.head) (draw_none x.body) (spawn_head w t c ps ms new x.head k)
    (and_parts (is_fair x) (list_all is_fair xs) q).0)
  where
    second : (a b : Bool) → a ≡ true → (not a || b) ≡ true → b ≡ true
    second true b e h = h
    second false b e h = absurd (false≢true e)

-- ---- in a history that follows the program

module _ (p : Program) (alone : root_draws_alone p ≡ true) where
  -- what the acts that a task has left are like
  abbrev pub IsLike : ℕ → List texts.Act → Type 0
  IsLike t left = cond (t == 0) (list_all is_fair left) (list_all is_quiet left) ≡ true

  dropped : (t : ℕ) (b : Bool) (left : List texts.Act) → IsLike t left → IsLike t (cond b (drop 1 left) left)
  dropped t false left k = k
  dropped t true left k =
      (elim (t == 0) as (λ z. cond z (list_all is_fair left) (list_all is_quiet left) ≡ true
      → cond z (list_all is_fair (drop 1 left)) (list_all is_quiet (drop 1 left)) ≡ true) [
        | true ↦ λ h. all_dropped is_fair left h
        | false ↦ λ h. all_dropped is_quiet left h
      ]) k

  fair_root : (t : ℕ) (left : List texts.Act) → (t == 0) ≡ true → IsLike t left → list_all is_fair left ≡ true
  fair_root t left z k = rw z at k

  quiet_child : (t : ℕ) (left : List texts.Act) → (t == 0) ≡ false → IsLike t left → list_all is_quiet left ≡ true
  quiet_child t left z k = rw z at k

  goes_past : (w : List WorldEvent) (t : ℕ) (e : WorldEvent) → parent_by t e ≡ None → IsLike t (acts_left p w t)
      → IsLike t (acts_left p (e ∷ w) t)
  goes_past w t e none k = rw none (dropped t (is_of t (act_of e)) (acts_left p w t) k)

  pub like : (w : List WorldEvent) → is_legal_world p.limits w ≡ true → follows p w ≡ true → (t : ℕ)
      → is_named t w ≡ true → IsLike t (acts_left p w t)
  like [] k f t n =
      elim (or_cases (t == 0) false n) [
        | inl z ↦ rw z (fair_flat p.main alone)
        | inr z ↦ absurd (false≢true z)
      ]
  like (Begin u (Async c ps) ∷ w) k f t n =
      let e = Begin u (Async c ps) in
      let a = last_accepted p.limits e w k in
      let g = and_parts (is_its_next p w (act_of e)) (follows p w) f in
      let by : IsLike u (acts_left p w u) =
      like w a.1 g.1 u (maker_named p.limits e w (record { task = u; act = Beginning (Async c ps) }) a.1 a.0 refl) in
      elim (cases_Bool (c == t)) [
        | inl s ↦ rw (s, not_root (eqb-true c t s) (names_fresh p.limits w u c ps a.0)) (handed by g.0)
        | inr s ↦ goes_past w t e (rw s refl) (like w a.1 g.1 t (subst (λ b. ((t == 0) || (b || list_any (names t) w)) ≡ true) s n))
      ]
    where
      not_root : c ≡ t → is_named c w ≡ false → (t == 0) ≡ false
      not_root s free =
          false_from_ne_true (t == 0) (λ z. true≢false
          (sym (or_left (t == 0) (list_any (names t) w) z) ∙ subst (λ x. is_named x w ≡ false) s free))

      handed : IsLike u (acts_left p w u)
          → same_act (Beginning (Async c ps)) (tried p w u (drawn (Beginning (Async c ps)))) ≡ true
          → list_all is_quiet (flat (body_of (slice_get (acts_left p w u) 0))) ≡ true
      handed by h =
          elim (cases_Bool (u == 0)) [
            | inl z ↦
                fair_child w u c ps (meanings p w u) (drawn (Beginning (Async c ps))) (acts_left p w u)
                (fair_root u (acts_left p w u) z by) h
            | inr z ↦
                absurd (true≢false
                (quiet_makes w u (meanings p w u) (drawn (Beginning (Async c ps))) (acts_left p w u) (Beginning (Async c ps))
                (quiet_child u (acts_left p w u) z by) h))
          ]
  like (e ∷ w) k f t n =
      let a = last_accepted p.limits e w k in
      let g = and_parts (is_its_next p w (act_of e)) (follows p w) f in
      goes_past w t e refl (like w a.1 g.1 t n)

  -- who draws is the root
  pub root_makes : (w : List WorldEvent) (t : ℕ) (a : Tried) → IsLike t (acts_left p w t)
      → same_act a (tried p w t (drawn a)) ≡ true → is_drawing a ≡ true → (t == 0) ≡ true
  root_makes w t a k h d =
      elim (cases_Bool (t == 0)) [
        | inl z ↦ z
        | inr z ↦
            absurd (true≢false (sym d
            ∙ quiet_makes w t (meanings p w t) (drawn a) (acts_left p w t) a (quiet_child t (acts_left p w t) z k) h))
      ]

  pub root_alone : (w : List WorldEvent) → is_legal_world p.limits w ≡ true → follows p w ≡ true → root_draws w ≡ true
  root_alone [] k f = refl
  root_alone (e ∷ w) k f =
      let a = last_accepted p.limits e w k in
      let g = and_parts (is_its_next p w (act_of e)) (follows p w) f in
      and_from (is_root_draw e) (root_draws w) (by_event e a.0 a.1 g.0 (λ t n. like w a.1 g.1 t n)) (root_alone w a.1 g.1)
    where
      by_event : (d : WorldEvent) → is_accepted p.limits w d ≡ true → is_legal_world p.limits w ≡ true
          → is_its_next p w (act_of d) ≡ true
          → ((t : ℕ) → is_named t w ≡ true → IsLike t (acts_left p w t)) → is_root_draw d ≡ true
      by_event (Phaser n (Make t m terms)) a kw h at =
          root_makes w t (New n m terms)
          (at t (maker_named p.limits (Phaser n (Make t m terms)) w (record { task = t; act = New n m terms }) kw a refl)) h refl
      by_event (Begin t (Async c ps)) a kw h at =
          root_makes w t (Beginning (Async c ps))
          (at t (maker_named p.limits (Begin t (Async c ps)) w (record { task = t; act = Beginning (Async c ps) }) kw a refl)) h refl
      by_event (Finish f (Opened t)) a kw h at =
          root_makes w t (Open f)
          (at t (maker_named p.limits (Finish f (Opened t)) w (record { task = t; act = Open f }) kw a refl)) h refl
      by_event d a kw h at = refl

pub texts_tell_who_draws : TextsTellWhoDraws
texts_tell_who_draws p w alone k f r = root_alone p alone w k f

pub least_run : (p : Program) (w : List WorldEvent) → root_draws_alone p ≡ true → IsLeastRun p w → IsProgramRun p in_order w
least_run p w alone r =
    record {
      legal = r.legal;
      follows_it = r.follows_it;
      unrefused = r.unrefused;
      ended = r.ended;
      draws = roots_draw_in_order p.limits w r.legal r.unrefused
          (root_alone p alone w r.legal r.follows_it) r.draws;
    }

pub texts_foretell : TextsForetell
texts_foretell p v w alone one other =
    programs_come_to_the_same p in_order v w (least_run p v alone one) (least_run p w alone other)
