-- Where each task stands on its phasers, between its turns and in the middle of one: it has ended as many
-- turns as it has begun, and signalled as many phases, but for the passes and signals that are due.
use Rattle.std.proofs.Common.{◌≡◌, ℕ, ◌+◌, Bool, true, false, ◌||◌, ◌==◌, not, cond, List, [], ◌∷◌, ◌++◌, Option, Some, None, refl, sym, subst, ap, ◌∙◌, inl, inr, arith}
use Rattle.std.specs.Prelude.{filter}
use Rattle.std.specs.List.{list_any}
use Rattle.std.specs.Option.{option_map_or}
use Rattle.std.proofs.lemmas.Bool.{and_parts, and_from, or_parts, cases_Bool, eqb-true, eq-eqb, true≢false, false≢true}
use Rattle.phase_modes.specs.declared.reg.Mode.{Mode}
use Rattle.phase_modes.specs.declared.limits.Limits.{Limits}
use Rattle.phase_modes.specs.Mode.{can_signal}
use Rattle.phase_model.specs.declared.history.Event.{Event}
use Rattle.phase_model.specs.declared.history.Event.TheVariants.{Make as Made, Reg as Registered, Sig as Signalled, Pass as Passed, Drop as Dropped}
use Rattle.phase_model.specs.declared.terms.Terms.{Terms}
use Rattle.phase_model.specs.Tasks.{is_live, has_mode, mode_of, is_registered, is_dropped}
use Rattle.phase_model.specs.Phases.{waits, signals}
use Rattle.phase_model.specs.Rules.{is_permitted, has_room}
use Rattle.phase_model.proofs.Legal.{RegFollows, reg_follows, parent_signals}
use Rattle.world_model.specs.declared.event.Step.{Step}
use Rattle.world_model.specs.declared.event.Step.TheVariants.{Make, Reg, Sig, Pass, Drop}
use Rattle.world_model.specs.declared.event.Begun.{Begun}
use Rattle.world_model.specs.declared.event.Begun.TheVariants.{Async, Next, End}
use Rattle.world_model.specs.declared.event.Tried.TheVariants.{Begun as Beginning, New}
use Rattle.world_model.specs.declared.event.WorldEvent.{WorldEvent}
use Rattle.world_model.specs.declared.event.WorldEvent.TheVariants.{Phaser, Finish, Begin, Refuse, Fail}
use Rattle.world_model.specs.Parts.{terms_of, phaser_past, event_for}
use Rattle.world_model.specs.Tasks.{is_born, phasers_of, spawns}
use Rattle.world_model.specs.Actors.{actor}
use Rattle.world_model.specs.Due.{due, fixed_by, is_entry, is_behind}
use Rattle.world_model.specs.ClockLaws.{is_pass_on}
use Rattle.world_model.specs.Replies.{is_legal_world, is_accepted}
use Rattle.world_model.specs.TaskConditions.{last_entry}
use Rattle.world_model.proofs.MadeMeans.{part_made}
use Rattle.world_model.proofs.AbleComputed.{idle_in_act}
use Rattle.world_model.proofs.AbruptEnds.{nothing_due}
use Rattle.world_model.proofs.OthersLeave.{due_other}
use Rattle.world_model.proofs.SmallWords.{empty_is}
use Rattle.world_model.proofs.DueHolds.{passes_on, passes_fixed}
use Rattle.world_model.proofs.MovesInTurns.{is_any_move, nobody_moves}
use Rattle.world_model.proofs.PhasersOnce.{times, times-filter, phasers_once}
use Rattle.world_model.proofs.PhasersLegal.{step_allowed}
use Rattle.world_model.proofs.PassesInTurns.{idle_is_born}
use Rattle.world_model.proofs.BornWhereNamed.{registering}
use Rattle.world_model.proofs.SpawnUnderWay.{named_by_spawn}
use Rattle.world_model.proofs.AgentOfTask.{touches, unborn_idle, reg_unborn}
use Rattle.world_model.proofs.SignalsComeFirst.{passes_of, sigs_of, moves_act}
use Rattle.world_model.proofs.TurnsStand.{is_sig_on, how_many}
use Rattle.world_model.proofs.UntouchedStays.{IsAlike, alike, alike_same}
use Rattle.job_kernels.proofs.Plain.{IsPlain, last_of_plain, turns, is_plain, count_kept, due_next, ends_never_idle, spawner_is_root, root_turns}
use Rattle.job_kernels.proofs.Endings.{dropped_ends}

-- a task in a history, with so many passes and signals due, and so many turns begun
pub record PacedAt (t : ℕ) (h : List Event) (passes sigs k : ℕ) : Type 0 where
  pub waited : waits t h + passes ≡ k
  pub signalled : has_mode can_signal t h ≡ true → signals t h + sigs ≡ k

abbrev pub Paced : ℕ → ℕ → List WorldEvent → Type 0
Paced t n w =
    PacedAt t (phaser_past n w) (how_many (is_pass_on n) (due t w)) (how_many (is_sig_on n) (due t w))
    (turns t w)

-- also where it has left since
abbrev pub PacedWhereRegistered : List WorldEvent → Type 0
PacedWhereRegistered w = (t n : ℕ) → is_registered t (phaser_past n w) ≡ true → Paced t n w

carried : (t : ℕ) (g h : List Event) (a b c d k j : ℕ) → IsAlike t g h → a ≡ b → c ≡ d → k ≡ j
    → PacedAt t h b d j → PacedAt t g a c k
carried t g h a b c d k j same p s e q =
    record {
      waited = rw (same.waited, p, e) q.waited;
      signalled = λ m.
          rw (same.signalled, s, e)
          (q.signalled (ap (λ o. option_map_or can_signal o false) (sym same.mode) ∙ m));
    }

-- ---- who isn't born has begun no turn

unborn_before : (t : ℕ) (e : WorldEvent) (w : List WorldEvent) → is_born t (e ∷ w) ≡ false
    → is_born t w ≡ false
unborn_before t e w b =
    let a = or_parts (t == 0) (spawns t e || list_any (spawns t) w) b in
    let c = or_parts (spawns t e) (list_any (spawns t) w) a.1 in
    rw (a.0, c.1) refl

pub unborn_turns : (l : Limits) (t : ℕ) (w : List WorldEvent) → IsPlain l w → is_born t w ≡ false
    → turns t w ≡ 0
unborn_turns l t [] k b = refl
unborn_turns l t (Begin u Next ∷ w) k b =
    let f = last_of_plain l (Begin u Next) w k in
    let before : is_born t w ≡ false = unborn_before t (Begin u Next) w b in
    elim (cases_Bool (u == t)) [
      | inl e ↦
          absurd (true≢false
          (sym (subst (λ v. is_born v w ≡ true) (eqb-true u t e)
          (idle_is_born u w (idle_in_act l w u (Beginning Next) f.accepted))) ∙ before))
      | inr e ↦ rw e (unborn_turns l t w f.before before)
    ]
unborn_turns l t (e ∷ w) k b = unborn_turns l t w (last_of_plain l e w k).before (unborn_before t e w b)

-- ---- what a next fixes

passes_are : (n : ℕ) (ds : List WorldEvent) → how_many (is_pass_on n) ds ≡ passes_on n ds
passes_are n [] = refl
passes_are n (d ∷ ds) = ap (λ x. cond (is_pass_on n d) (x + 1) x) (passes_are n ds)

no_sigs : (t n : ℕ) (ms : List ℕ) → how_many (is_sig_on n) (passes_of t ms) ≡ 0
no_sigs t n [] = refl
no_sigs t n (m ∷ ms) = no_sigs t n ms

sigs_counted : (t n : ℕ) (ns ms : List ℕ)
    → how_many (is_sig_on n) (sigs_of t None ns ++ passes_of t ms) ≡ times n ns
sigs_counted t n [] ms = no_sigs t n ms
sigs_counted t n (m ∷ ns) ms = ap (λ x. cond (m == n) (x + 1) x) (sigs_counted t n ns ms)

module _ (l : Limits) (w : List WorldEvent) (k : is_legal_world l w ≡ true) (t n : ℕ)
    (live : is_live t (phaser_past n w) ≡ true) where
  listed : times n (phasers_of t w) ≡ 1
  listed = phasers_once l w k t n ∙ ap (λ b. cond b 1 0) live

  pass_of_next : how_many (is_pass_on n) (fixed_by t Next w) ≡ 1
  pass_of_next = passes_are n (fixed_by t Next w) ∙ (passes_fixed t n Next w refl ∙ listed)

  sig_of_next : is_behind t (phaser_past n w) ≡ true → how_many (is_sig_on n) (fixed_by t Next w) ≡ 1
  sig_of_next b =
      sigs_counted t n (filter (λ m. is_behind t (phaser_past m w)) (phasers_of t w)) (phasers_of t w)
      ∙ (times-filter (λ m. is_behind t (phaser_past m w)) n (phasers_of t w)
      ∙ (ap (λ c. cond c (times n (phasers_of t w)) 0) b ∙ listed))

-- ---- what moves nobody

none_on : (n : ℕ) (ds : List WorldEvent) → list_any is_any_move ds ≡ false
    → (how_many (is_pass_on n) ds ≡ 0) × (how_many (is_sig_on n) ds ≡ 0)
none_on n [] k = (refl, refl)
none_on n (Phaser m (Sig u x) ∷ ds) k = absurd (true≢false k)
none_on n (Phaser m (Pass u) ∷ ds) k = absurd (true≢false k)
none_on n (Phaser m x ∷ ds) k = none_on n ds k
none_on n (e ∷ ds) k = none_on n ds k

elsewhere : (n m : ℕ) (s : Step) → (m == n) ≡ false
    → (is_pass_on n (Phaser m s) ≡ false) × (is_sig_on n (Phaser m s) ≡ false)
elsewhere n m (Pass u) o = (o, refl)
elsewhere n m (Sig u x) o = (refl, o)
elsewhere n m s o = (refl, refl)

-- ---- event by event

module _ (l : Limits) (w : List WorldEvent) (k : IsPlain l w) (all : PacedWhereRegistered w) (t n : ℕ) where
  -- an event that makes none of the moves that are counted
  still : (e : WorldEvent) → is_accepted l w e ≡ true → is_entry t e ≡ false → is_pass_on n e ≡ false
      → is_sig_on n e ≡ false → turns t (e ∷ w) ≡ turns t w
      → IsAlike t (phaser_past n (e ∷ w)) (phaser_past n w)
      → is_registered t (phaser_past n (e ∷ w)) ≡ true → Paced t n (e ∷ w)
  still e a o p s same alike v =
      carried t (phaser_past n (e ∷ w)) (phaser_past n w)
      (how_many (is_pass_on n) (due t (e ∷ w))) (how_many (is_pass_on n) (due t w))
      (how_many (is_sig_on n) (due t (e ∷ w))) (how_many (is_sig_on n) (due t w))
      (turns t (e ∷ w)) (turns t w) alike
      (count_kept l w e t (is_pass_on n) a o p) (count_kept l w e t (is_sig_on n) a o s) same
      (all t n (sym alike.registered ∙ v))

  -- an event of another task that isn't about t
  foreign : (e : WorldEvent) → (actor w e == t) ≡ false → turns t (e ∷ w) ≡ turns t w → touches t e ≡ false
      → is_registered t (phaser_past n (e ∷ w)) ≡ true → Paced t n (e ∷ w)
  foreign e o same none v =
      let kept : due t (e ∷ w) ≡ due t w = due_other t e w o in
      let a = alike t n e w none in
      carried t (phaser_past n (e ∷ w)) (phaser_past n w)
      (how_many (is_pass_on n) (due t (e ∷ w))) (how_many (is_pass_on n) (due t w))
      (how_many (is_sig_on n) (due t (e ∷ w))) (how_many (is_sig_on n) (due t w))
      (turns t (e ∷ w)) (turns t w) a
      (ap (λ ds. how_many (is_pass_on n) ds) kept) (ap (λ ds. how_many (is_sig_on n) ds) kept) same
      (all t n (sym a.registered ∙ v))

  -- a step on another phaser
  other_phaser : (m : ℕ) (s : Step) → is_accepted l w (Phaser m s) ≡ true
      → turns t (Phaser m s ∷ w) ≡ turns t w
      → (m == n) ≡ false → is_registered t (phaser_past n (Phaser m s ∷ w)) ≡ true → Paced t n (Phaser m s ∷ w)
  other_phaser m s a same o v =
      let past : phaser_past n (Phaser m s ∷ w) ≡ phaser_past n w = rw o refl in
      let none = elsewhere n m s o in
      still (Phaser m s) a refl none.0 none.1 same
      (subst (λ g. IsAlike t g (phaser_past n w)) (sym past) (alike_same t (phaser_past n w))) v

  -- a step that leaves t alike wherever it is made
  alike_either : (b : Bool) (e : Event) → IsAlike t (e ∷ phaser_past n w) (phaser_past n w)
      → IsAlike t (cond b (e ∷ phaser_past n w) (phaser_past n w)) (phaser_past n w)
  alike_either true e k = k
  alike_either false e k = alike_same t (phaser_past n w)

  at_zero : (g : List Event) (a c j : ℕ) → waits t g ≡ 0 → (has_mode can_signal t g ≡ true → signals t g ≡ 0)
      → a ≡ 0 → c ≡ 0 → j ≡ 0 → PacedAt t g a c j
  at_zero g a c j x y p s e =
      record { waited = rw (x, p, e) zero_sum; signalled = λ m. rw (y m, s, e) zero_sum }
    where
      zero_sum : ◌≡◌ {A = ℕ} (0 + 0) 0
      zero_sum = omega arith

  nothing_left : (e : WorldEvent) (p : WorldEvent → Bool) → is_accepted l w e ≡ true → is_entry t e ≡ false
      → p e ≡ false → due t w ≡ [] → how_many p (due t (e ∷ w)) ≡ 0
  nothing_left e p a o none gone = count_kept l w e t p a o none ∙ ap (λ ds. how_many p ds) gone

  -- t makes phaser n, as the root
  makes_own : (m u : ℕ) (mode : Mode) (terms : Terms) → is_accepted l w (Phaser m (Make u mode terms)) ≡ true
      → is_plain (Phaser m (Make u mode terms)) ≡ true → (u == t) ≡ true → (m == n) ≡ true
      → Paced t n (Phaser m (Make u mode terms) ∷ w)
  makes_own m u mode terms a p e o =
      let d = Phaser m (Make u mode terms) in
      let same : u ≡ t = eqb-true u t e in
      let root : t ≡ 0 = sym same ∙ eqb-true u 0 p in
      let gone : due t w ≡ [] =
      subst (λ v. due v w ≡ []) same
      (empty_is (due u w) (nothing_due u w (idle_in_act l w u (New m mode terms) a)).0) in
      let past : phaser_past n (d ∷ w) ≡ Made u mode ∷ phaser_past n w = rw o refl in
      subst (λ g. PacedAt t g (how_many (is_pass_on n) (due t (d ∷ w)))
      (how_many (is_sig_on n) (due t (d ∷ w)))
      (turns t w)) (sym past)
      (at_zero (Made u mode ∷ phaser_past n w) (how_many (is_pass_on n) (due t (d ∷ w)))
      (how_many (is_sig_on n) (due t (d ∷ w))) (turns t w) (rw e refl) (λ m. rw e refl)
      (nothing_left d (is_pass_on n) a refl refl gone) (nothing_left d (is_sig_on n) a refl refl gone)
      (subst (λ v. turns v w ≡ 0) (sym root) (root_turns w k.plain)))

  zero_part : (x y z : ℕ) → x + y ≡ z → z ≡ 0 → x ≡ 0
  zero_part x y z h g = omega arith

  -- the root registers t on phaser n
  joins_own : (m q u : ℕ) (mode : Mode) → is_accepted l w (Phaser m (Reg q u mode)) ≡ true
      → (u == t) ≡ true → (m == n) ≡ true → Paced t n (Phaser m (Reg q u mode) ∷ w)
  joins_own m q u mode a e o =
      let d = Phaser m (Reg q u mode) in
      let h = phaser_past n w in
      let same : u ≡ t = eqb-true u t e in
      let here : m ≡ n = eqb-true m n o in
      let unborn : is_born t w ≡ false =
      subst (λ v. is_born v w ≡ false) same (reg_unborn l w m q u mode k.legal a) in
      let gone : due t w ≡ [] = unborn_idle l t w k.legal unborn in
      let root : q ≡ 0 =
      sym (named_by_spawn l q u w k.legal (registering l w m q u mode k.legal a).begun).1
      ∙ spawner_is_root u w k.plain in
      let still_root : turns q w ≡ 0 = subst (λ v. turns v w ≡ 0) (sym root) (root_turns w k.plain) in
      let f : RegFollows l h q u mode =
      subst (λ v. RegFollows l (phaser_past v w) q u mode) here
      (reg_follows l (terms_of m w) (phaser_past m w) q u mode
      (and_parts (is_permitted l (terms_of m w) (phaser_past m w) (Registered q u mode))
      (has_room l (Registered q u mode ∷ phaser_past m w)) (step_allowed l w m (Reg q u mode) a)).0) in
      let parent : Paced q n w =
      all q n (and_parts (is_registered q h) (not (is_dropped q h)) f.parent_live).0 in
      let past : phaser_past n (d ∷ w) ≡ Registered q u mode ∷ h = rw o refl in
      let waited : waits q h ≡ 0 =
      zero_part (waits q h) (how_many (is_pass_on n) (due q w)) (turns q w) parent.waited still_root in
      let signalled : has_mode can_signal q h ≡ true → signals q h ≡ 0 =
      λ m. zero_part (signals q h) (how_many (is_sig_on n) (due q w)) (turns q w) (parent.signalled m)
      still_root in
      subst (λ g. PacedAt t g (how_many (is_pass_on n) (due t (d ∷ w)))
      (how_many (is_sig_on n) (due t (d ∷ w)))
      (turns t w)) (sym past)
      (at_zero (Registered q u mode ∷ h) (how_many (is_pass_on n) (due t (d ∷ w)))
      (how_many (is_sig_on n) (due t (d ∷ w))) (turns t w)
      (ap (λ b. waits (cond b q t) h) e ∙ waited)
      (λ m. ap (λ b. signals (cond b q t) h) e
      ∙ signalled (parent_signals q mode h f.within
      (subst (λ b. option_map_or can_signal (cond b (Some mode) (mode_of t h)) false ≡ true) e m)))
      (nothing_left d (is_pass_on n) a refl refl gone) (nothing_left d (is_sig_on n) a refl refl gone)
      (unborn_turns l t w k unborn))

  moved : (x y z j : ℕ) → x + y ≡ j → y ≡ z + 1 → (x + 1) + z ≡ j
  moved x y z j h g = omega arith

  -- t signals on phaser n
  signals_own : (m u : ℕ) (x : Option ℕ) → is_accepted l w (Phaser m (Sig u x)) ≡ true
      → (u == t) ≡ true → (m == n) ≡ true
      → is_registered t (phaser_past n w) ≡ true → Paced t n (Phaser m (Sig u x) ∷ w)
  signals_own m u x a e o v =
      let d = Phaser m (Sig u x) in
      let h = phaser_past n w in
      let next : due t w ≡ d ∷ due t (d ∷ w) =
      due_next l w d t (part_made l w d a).0 refl refl (eqb-true u t e) in
      let p : Paced t n w = all t n v in
      let fewer : how_many (is_sig_on n) (due t w) ≡ how_many (is_sig_on n) (due t (d ∷ w)) + 1 =
      ap (λ ds. how_many (is_sig_on n) ds) next ∙ rw o refl in
      let past : phaser_past n (d ∷ w) ≡ Signalled u x ∷ h = rw o refl in
      let passes : how_many (is_pass_on n) (due t (d ∷ w)) ≡ how_many (is_pass_on n) (due t w) =
      count_kept l w d t (is_pass_on n) a refl refl in
      subst (λ g. PacedAt t g (how_many (is_pass_on n) (due t (d ∷ w)))
      (how_many (is_sig_on n) (due t (d ∷ w)))
      (turns t w)) (sym past)
      (record {
        waited = ap (λ y. waits t h + y) passes ∙ p.waited;
        signalled = λ m.
            ap (λ b. cond b (signals t h + 1) (signals t h) + how_many (is_sig_on n) (due t (d ∷ w))) e
            ∙ moved (signals t h) (how_many (is_sig_on n) (due t w))
            (how_many (is_sig_on n) (due t (d ∷ w))) (turns t w) (p.signalled m) fewer;
      })

  -- t passes phaser n
  passes_own : (m u : ℕ) → is_accepted l w (Phaser m (Pass u)) ≡ true
      → (u == t) ≡ true → (m == n) ≡ true
      → is_registered t (phaser_past n w) ≡ true → Paced t n (Phaser m (Pass u) ∷ w)
  passes_own m u a e o v =
      let d = Phaser m (Pass u) in
      let h = phaser_past n w in
      let next : due t w ≡ d ∷ due t (d ∷ w) =
      due_next l w d t (part_made l w d a).0 refl refl (eqb-true u t e) in
      let p : Paced t n w = all t n v in
      let fewer : how_many (is_pass_on n) (due t w) ≡ how_many (is_pass_on n) (due t (d ∷ w)) + 1 =
      ap (λ ds. how_many (is_pass_on n) ds) next ∙ rw o refl in
      let past : phaser_past n (d ∷ w) ≡ Passed u ∷ h = rw o refl in
      let sigs : how_many (is_sig_on n) (due t (d ∷ w)) ≡ how_many (is_sig_on n) (due t w) =
      count_kept l w d t (is_sig_on n) a refl refl in
      subst (λ g. PacedAt t g (how_many (is_pass_on n) (due t (d ∷ w)))
      (how_many (is_sig_on n) (due t (d ∷ w)))
      (turns t w)) (sym past)
      (record {
        waited =
            ap (λ b. cond b (waits t h + 1) (waits t h) + how_many (is_pass_on n) (due t (d ∷ w))) e
            ∙ moved (waits t h) (how_many (is_pass_on n) (due t w))
            (how_many (is_pass_on n) (due t (d ∷ w))) (turns t w) p.waited fewer;
        signalled = λ m. ap (λ y. signals t h + y) sigs ∙ p.signalled m;
      })

  -- a task leaves phaser n
  drops_own : (m u : ℕ) → is_accepted l w (Phaser m (Drop u)) ≡ true → (m == n) ≡ true
      → is_registered t (phaser_past n w) ≡ true → Paced t n (Phaser m (Drop u) ∷ w)
  drops_own m u a o v =
      let d = Phaser m (Drop u) in
      let h = phaser_past n w in
      let p : Paced t n w = all t n v in
      let past : phaser_past n (d ∷ w) ≡ Dropped u ∷ h = rw o refl in
      subst (λ g. PacedAt t g (how_many (is_pass_on n) (due t (d ∷ w)))
      (how_many (is_sig_on n) (due t (d ∷ w)))
      (turns t w)) (sym past)
      (record {
        waited = ap (λ y. waits t h + y) (count_kept l w d t (is_pass_on n) a refl refl) ∙ p.waited;
        signalled = λ s. ap (λ y. signals t h + y) (count_kept l w d t (is_sig_on n) a refl refl)
            ∙ p.signalled s;
      })

  -- who begins a turn has left nothing
  live_in_act : is_accepted l w (Begin t Next) ≡ true → is_registered t (phaser_past n w) ≡ true
      → is_live t (phaser_past n w) ≡ true
  live_in_act a v =
      elim (cases_Bool (is_dropped t (phaser_past n w))) [
        | inl d ↦
            absurd (true≢false (sym (idle_in_act l w t (Beginning Next) a)
            ∙ ends_never_idle l t w k.legal (dropped_ends l t n w k d)))
        | inr d ↦ rw (v, d) refl
      ]

  next_sum : (x y c j i : ℕ) → x + y ≡ j → y ≡ 0 → c ≡ 1 → i ≡ j + 1 → x + c ≡ i
  next_sum x y c j i h z one more = omega arith

  same_sum : (x y z b c j : ℕ) → x + b ≡ j → y + c ≡ j → b ≡ 0 → c ≡ 0 → x ≡ y
  same_sum x y z b c j h g p q = omega arith

  -- t begins a next
  begins_next : is_accepted l w (Begin t Next) ≡ true → is_registered t (phaser_past n w) ≡ true
      → Paced t n (Begin t Next ∷ w)
  begins_next a v =
      let h = phaser_past n w in
      let d = Begin t Next in
      let self : (t == t) ≡ true = eq-eqb t t refl in
      let gone : due t w ≡ [] =
      empty_is (due t w) (nothing_due t w (idle_in_act l w t (Beginning Next) a)).0 in
      let p : Paced t n w = all t n v in
      let live : is_live t h ≡ true = live_in_act a v in
      let no_pass : how_many (is_pass_on n) (due t w) ≡ 0 = ap (λ ds. how_many (is_pass_on n) ds) gone in
      let no_sig : how_many (is_sig_on n) (due t w) ≡ 0 = ap (λ ds. how_many (is_sig_on n) ds) gone in
      let now : due t (d ∷ w) ≡ fixed_by t Next w = rw self refl in
      let turned : turns t (d ∷ w) ≡ turns t w + 1 = rw self refl in
      record {
        waited = next_sum (waits t h) (how_many (is_pass_on n) (due t w))
            (how_many (is_pass_on n) (due t (d ∷ w)))
            (turns t w) (turns t (d ∷ w)) p.waited no_pass
            (ap (λ ds. how_many (is_pass_on n) ds) now ∙ pass_of_next l w k.legal t n live) turned;
        signalled = λ m.
            let equal : signals t h ≡ waits t h =
            same_sum (signals t h) (waits t h) 0 (how_many (is_sig_on n) (due t w))
            (how_many (is_pass_on n) (due t w)) (turns t w) (p.signalled m) p.waited no_sig no_pass in
            let behind : is_behind t h ≡ true =
            and_from (has_mode can_signal t h) (signals t h == waits t h) m
            (eq-eqb (signals t h) (waits t h) equal) in
            next_sum (signals t h) (how_many (is_sig_on n) (due t w)) (how_many (is_sig_on n) (due t (d ∷ w)))
            (turns t w) (turns t (d ∷ w)) (p.signalled m) no_sig
            (ap (λ ds. how_many (is_sig_on n) ds) now ∙ sig_of_next l w k.legal t n live behind) turned;
      }

  -- t begins an act in which it neither signals nor passes
  begins_other : (b : Begun) → is_accepted l w (Begin t b) ≡ true → not (moves_act (Some (Begin t b))) ≡ true
      → turns t (Begin t b ∷ w) ≡ turns t w
      → is_registered t (phaser_past n w) ≡ true → Paced t n (Begin t b ∷ w)
  begins_other b a q same v =
      let h = phaser_past n w in
      let d = Begin t b in
      let self : (t == t) ≡ true = eq-eqb t t refl in
      let gone : due t w ≡ [] = empty_is (due t w) (nothing_due t w (idle_in_act l w t (Beginning b) a)).0 in
      let last : last_entry t (d ∷ w) ≡ Some d = rw self refl in
      let none =
      none_on n (due t (d ∷ w))
      (nobody_moves l t (d ∷ w) (and_from (is_accepted l w d) (is_legal_world l w) a k.legal)
      (subst (λ o. not (moves_act o) ≡ true) (sym last) q)) in
      carried t h h (how_many (is_pass_on n) (due t (d ∷ w))) (how_many (is_pass_on n) (due t w))
      (how_many (is_sig_on n) (due t (d ∷ w))) (how_many (is_sig_on n) (due t w)) (turns t (d ∷ w))
      (turns t w)
      (alike_same t h) (none.0 ∙ sym (ap (λ ds. how_many (is_pass_on n) ds) gone))
      (none.1 ∙ sym (ap (λ ds. how_many (is_sig_on n) ds) gone)) same (all t n v)

  begins_own : (b : Begun) → is_accepted l w (Begin t b) ≡ true → is_plain (Begin t b) ≡ true
      → is_registered t (phaser_past n w) ≡ true → Paced t n (Begin t b ∷ w)
  begins_own Next a p v = begins_next a v
  begins_own End a p v = begins_other End a refl refl v
  begins_own (Async c ps) a p v = begins_other (Async c ps) a refl refl v
  begins_own b a p v = absurd (false≢true p)

  turns_same : (u : ℕ) (b : Begun) → (u == t) ≡ false → turns t (Begin u b ∷ w) ≡ turns t w
  turns_same u Next o = rw o refl
  turns_same u b o = refl

  by_event : (e : WorldEvent) → is_accepted l w e ≡ true → is_plain e ≡ true
      → is_registered t (phaser_past n (e ∷ w)) ≡ true → Paced t n (e ∷ w)
  by_event (Phaser m (Drop u)) a p v =
      elim (cases_Bool (u == t)) [
        | inr o ↦ still (Phaser m (Drop u)) a refl refl refl refl (alike t n (Phaser m (Drop u)) w o) v
        | inl e ↦ elim (cases_Bool (m == n)) [
          | inr o ↦ other_phaser m (Drop u) a refl o v
          | inl o ↦
              drops_own m u a o
              (subst (λ b. is_registered t (cond b (Dropped u ∷ phaser_past n w) (phaser_past n w)) ≡ true) o v)
        ]
      ]
  by_event (Phaser m (Make u mode terms)) a p v =
      let d = Phaser m (Make u mode terms) in
      elim (cases_Bool (u == t)) [
        | inr o ↦ foreign d o refl o v
        | inl e ↦ elim (cases_Bool (m == n)) [
          | inr o ↦ other_phaser m (Make u mode terms) a refl o v
          | inl o ↦ makes_own m u mode terms a p e o
        ]
      ]
  by_event (Phaser m (Reg q u mode)) a p v =
      let d = Phaser m (Reg q u mode) in
      elim (cases_Bool (u == t)) [
        | inr o ↦ still d a refl refl refl refl (alike t n d w o) v
        | inl e ↦ elim (cases_Bool (m == n)) [
          | inr o ↦ other_phaser m (Reg q u mode) a refl o v
          | inl o ↦ joins_own m q u mode a e o
        ]
      ]
  by_event (Phaser m (Sig u x)) a p v =
      let d = Phaser m (Sig u x) in
      elim (cases_Bool (u == t)) [
        | inr o ↦ foreign d o refl o v
        | inl e ↦ elim (cases_Bool (m == n)) [
          | inr o ↦ other_phaser m (Sig u x) a refl o v
          | inl o ↦
              signals_own m u x a e o
              (subst (λ b. is_registered t (cond b (Signalled u x ∷ phaser_past n w) (phaser_past n w)) ≡ true) o v)
        ]
      ]
  by_event (Phaser m (Pass u)) a p v =
      let d = Phaser m (Pass u) in
      elim (cases_Bool (u == t)) [
        | inr o ↦ foreign d o refl o v
        | inl e ↦ elim (cases_Bool (m == n)) [
          | inr o ↦ other_phaser m (Pass u) a refl o v
          | inl o ↦
              passes_own m u a e o
              (subst (λ b. is_registered t (cond b (Passed u ∷ phaser_past n w) (phaser_past n w)) ≡ true) o v)
        ]
      ]
  by_event (Phaser m x) a p v =
      still (Phaser m x) a refl refl refl refl
      (alike_either (m == n) (event_for (terms_of n w) (phaser_past n w) x)
      (record { registered = refl; live = refl; mode = refl; waited = refl; signalled = refl })) v
  by_event (Finish f s) a p v = still (Finish f s) a refl refl refl refl (alike_same t (phaser_past n w)) v
  by_event (Begin u b) a p v =
      elim (cases_Bool (u == t)) [
        | inr o ↦ foreign (Begin u b) o (turns_same u b o) refl v
        | inl e ↦
            let same : u ≡ t = eqb-true u t e in
            subst (λ x. Paced t n (Begin x b ∷ w)) (sym same)
            (begins_own b (subst (λ x. is_accepted l w (Begin x b) ≡ true) same a)
            (subst (λ x. is_plain (Begin x b) ≡ true) same p) v)
      ]
  by_event (Refuse u b x) a p v = absurd (false≢true p)
  by_event (Fail u x) a p v = absurd (false≢true p)

-- each task where it was registered
pub paced : (l : Limits) (w : List WorldEvent) → IsPlain l w → PacedWhereRegistered w
paced l [] k t n v = absurd (false≢true v)
paced l (e ∷ w) k t n v =
    let f = last_of_plain l e w k in
    by_event l w f.before (paced l w f.before) t n e f.accepted f.plain v

-- and so where it is registered now
pub paces : (l : Limits) (w : List WorldEvent) → IsPlain l w → (t n : ℕ) → is_live t (phaser_past n w) ≡ true
    → Paced t n w
paces l w k t n v =
    paced l w k t n (and_parts (is_registered t (phaser_past n w)) (not (is_dropped t (phaser_past n w))) v).0
