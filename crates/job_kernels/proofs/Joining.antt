-- The child of each place comes to a phaser of its own, where it can signal: as long as it isn't registered
-- there, its registration is due to the root. So once the root is on its way to its end, each child is
-- registered.
use Rattle.std.proofs.Common.{◌≡◌, ℕ, Bool, true, false, ◌&&◌, ◌||◌, ◌==◌, not, cond, List, [], ◌∷◌, ◌++◌, map, Some, refl, sym, subst, ap, ◌∙◌, inl, inr}
use Rattle.std.specs.List.{list_any, list_all}
use Rattle.std.specs.Option.{option_map_or}
use Rattle.std.proofs.lemmas.Bool.{and_parts, and_from, or_cases, or_parts, or_left, or_right, cases_Bool, eqb-true, eq-eqb, true≢false, false≢true, false_from_ne_true, not-false}
use Rattle.std.proofs.lemmas.Option.{same_Some, none-some}
use Rattle.phase_modes.specs.declared.limits.Limits.{Limits}
use Rattle.phase_modes.specs.declared.phased.Pair.{Pair}
use Rattle.phase_modes.specs.declared.reg.Mode.{Mode}
use Rattle.phase_modes.specs.Mode.{can_signal}
use Rattle.phase_model.specs.Tasks.{is_registered, has_mode, mode_of, registers}
use Rattle.finish_core.specs.declared.event.FinishEvent.{FinishEvent}
use Rattle.finish_core.specs.declared.event.FinishEvent.TheVariants.{Spawned}
use Rattle.world_model.specs.declared.event.Step.{Step}
use Rattle.world_model.specs.declared.event.Step.TheVariants.{Make, Reg, Drop}
use Rattle.world_model.specs.declared.event.Begun.{Begun}
use Rattle.world_model.specs.declared.event.Begun.TheVariants.{Async, End}
use Rattle.world_model.specs.declared.event.Tried.TheVariants.{Begun as Beginning}
use Rattle.world_model.specs.declared.event.WorldEvent.{WorldEvent}
use Rattle.world_model.specs.declared.event.WorldEvent.TheVariants.{Phaser, Finish, Begin, Refuse, Fail}
use Rattle.world_model.specs.Parts.{phaser_past}
use Rattle.world_model.specs.Scopes.{inner}
use Rattle.world_model.specs.Numbers.{is_named}
use Rattle.world_model.specs.Due.{due, is_entry}
use Rattle.world_model.specs.Replies.{is_legal_world, is_accepted}
use Rattle.world_model.proofs.MadeMeans.{part_made}
use Rattle.world_model.proofs.AbleComputed.{idle_in_act}
use Rattle.world_model.proofs.AbruptEnds.{nothing_due}
use Rattle.world_model.proofs.OthersLeave.{due_other}
use Rattle.world_model.proofs.SmallWords.{empty_is}
use Rattle.world_model.proofs.PhasersLegal.{event_of}
use Rattle.world_model.proofs.RegistrationsStand.{unregistered}
use Rattle.world_model.proofs.SpawnUnderWay.{names_fresh, named_by_spawn}
use Rattle.world_model.proofs.BornWhereNamed.{registering}
use Rattle.world_model.proofs.LeavingList.{any_append_left}
use Rattle.world_model.proofs.LeavesAtEnds.{is_leave, none_in_map, none_in_both}
use Rattle.world_model.proofs.DropsStandAlways.{leaves_only}
use Rattle.job_kernels.proofs.Plain.{IsPlain, last_of_plain, is_plain, any_kept, due_next, spawned, child_at, spawner_is_root}
use Rattle.job_kernels.proofs.Children.{child_named, child_no_root}

-- a registration of c on phaser n; one in which it can't signal
abbrev pub is_reg_for : ℕ → ℕ → WorldEvent → Bool
is_reg_for n c (Phaser m (Reg q u o)) = m == n && u == c
is_reg_for n c _ = false

abbrev pub is_weak_for : ℕ → ℕ → WorldEvent → Bool
is_weak_for n c (Phaser m (Reg q u o)) = (m == n && u == c) && not (can_signal o)
is_weak_for n c _ = false

-- each spawn hands out the phasers of its place
abbrev pub SpawnsBy : (ℕ → List Pair) → List WorldEvent → Type 0
SpawnsBy pairs [] = Unit {0}
SpawnsBy pairs (Begin u (Async c ps) ∷ w) = (ps ≡ pairs (spawned w)) × SpawnsBy pairs w
SpawnsBy pairs (_ ∷ w) = SpawnsBy pairs w

abbrev pub regs_of : ℕ → ℕ → List Pair → List WorldEvent
regs_of q c ps = map (λ p. Phaser p.phaser (Reg q c p.mode)) ps

-- those of this place have a phaser on which the child can signal
pub record HasOwn (pairs : List Pair) (n : ℕ) : Type 0 where
  pub there : (c : ℕ) → list_any (is_reg_for n c) (regs_of 0 c pairs) ≡ true
  pub strong : (c : ℕ) → list_any (is_weak_for n c) (regs_of 0 c pairs) ≡ false

pub record Joined (n c : ℕ) (w : List WorldEvent) : Type 0 where
  pub there : (is_registered c (phaser_past n w) || list_any (is_reg_for n c) (due 0 w)) ≡ true
  pub strong : list_any (is_weak_for n c) (due 0 w) ≡ false
  pub mode : is_registered c (phaser_past n w) ≡ true → has_mode can_signal c (phaser_past n w) ≡ true

-- ---- what registers nobody

weak_is_reg : (n c : ℕ) (e : WorldEvent) → is_reg_for n c e ≡ false → is_weak_for n c e ≡ false
weak_is_reg n c (Phaser m (Reg q u o)) k = rw k refl
weak_is_reg n c e k = refl

-- nor does who leaves
pub no_leave_is : (p : WorldEvent → Bool) → ((m u : ℕ) → p (Phaser m (Drop u)) ≡ false)
    → ((f : ℕ) (x : FinishEvent) → p (Finish f x) ≡ false) → (ds : List WorldEvent)
    → list_all is_leave ds ≡ true
    → list_any p ds ≡ false
no_leave_is p drops ends [] k = refl
no_leave_is p drops ends (Phaser m (Drop u) ∷ ds) k = rw (drops m u) (no_leave_is p drops ends ds k)
no_leave_is p drops ends (Finish f x ∷ ds) k =
    rw (ends f x) (no_leave_is p drops ends ds (and_parts (is_leave (Finish f x)) (list_all is_leave ds) k).1)
no_leave_is p drops ends (d ∷ ds) k = absurd (false≢true k)

-- the registrations of another child
others_regs : (n c x : ℕ) (ps : List Pair) → (x == c) ≡ false
    → list_any (is_weak_for n c) (regs_of 0 x ps) ≡ false
others_regs n c x ps o =
    none_in_map (is_weak_for n c) (λ p. Phaser p.phaser (Reg 0 x p.mode)) ps
    (λ p. rw o (no_and (p.phaser == n) (not (can_signal p.mode))))
  where
    no_and : (a b : Bool) → ((a && false) && b) ≡ false
    no_and true b = refl
    no_and false b = refl

-- ---- event by event

module _ (l : Limits) (w : List WorldEvent) (k : IsPlain l w) (n c : ℕ) where
  -- an event that leaves c's registration, and what is due of it
  kept : (e : WorldEvent) → is_registered c (phaser_past n (e ∷ w)) ≡ is_registered c (phaser_past n w)
      → has_mode can_signal c (phaser_past n (e ∷ w)) ≡ has_mode can_signal c (phaser_past n w)
      → list_any (is_reg_for n c) (due 0 (e ∷ w)) ≡ list_any (is_reg_for n c) (due 0 w)
      → list_any (is_weak_for n c) (due 0 (e ∷ w)) ≡ list_any (is_weak_for n c) (due 0 w)
      → Joined n c w → Joined n c (e ∷ w)
  kept e r m d s p =
      record {
        there = ap (λ b. b || list_any (is_reg_for n c) (due 0 (e ∷ w))) r
            ∙ (ap (λ b. is_registered c (phaser_past n w) || b) d ∙ p.there);
        strong = s ∙ p.strong;
        mode = λ y. m ∙ p.mode (sym r ∙ y);
      }

  -- one that is no entry of the root and registers nobody there
  plain_kept : (e : WorldEvent) → is_accepted l w e ≡ true → is_entry 0 e ≡ false → is_reg_for n c e ≡ false
      → is_registered c (phaser_past n (e ∷ w)) ≡ is_registered c (phaser_past n w)
      → has_mode can_signal c (phaser_past n (e ∷ w)) ≡ has_mode can_signal c (phaser_past n w)
      → Joined n c w → Joined n c (e ∷ w)
  plain_kept e a o g r m p =
      kept e r m (any_kept l w e 0 (is_reg_for n c) a o g)
      (any_kept l w e 0 (is_weak_for n c) a o (weak_is_reg n c e g)) p

  -- where nothing is due to the root, c is registered
  registered_idle : due 0 w ≡ [] → Joined n c w → is_registered c (phaser_past n w) ≡ true
  registered_idle gone p =
      elim (or_cases (is_registered c (phaser_past n w)) (list_any (is_reg_for n c) (due 0 w)) p.there) [
        | inl r ↦ r
        | inr r ↦ absurd (false≢true (subst (λ ds. list_any (is_reg_for n c) ds ≡ true) gone r))
      ]

  idle_root : (b : Begun) → is_accepted l w (Begin 0 b) ≡ true → due 0 w ≡ []
  idle_root b a = empty_is (due 0 w) (nothing_due 0 w (idle_in_act l w 0 (Beginning b) a)).0

  -- an entry of the root after which no registration of c is due
  entry_kept : (b : Begun) → is_accepted l w (Begin 0 b) ≡ true
      → list_any (is_weak_for n c) (due 0 (Begin 0 b ∷ w)) ≡ false → Joined n c w → Joined n c (Begin 0 b ∷ w)
  entry_kept b a s p =
      let r = registered_idle (idle_root b a) p in
      record {
        there = or_left (is_registered c (phaser_past n w))
            (list_any (is_reg_for n c) (due 0 (Begin 0 b ∷ w))) r;
        strong = s;
        mode = p.mode;
      }

  -- a step that registers nobody
  same_by : (m : ℕ) (s : Step) → registers c (event_of n w s) ≡ false
      → mode_of c (event_of n w s ∷ phaser_past n w) ≡ mode_of c (phaser_past n w)
      → is_accepted l w (Phaser m s) ≡ true → is_reg_for n c (Phaser m s) ≡ false
      → Joined n c w → Joined n c (Phaser m s ∷ w)
  same_by m s none same a g p =
      plain_kept (Phaser m s) a refl g (registered_by_either (m == n)) (mode_by_either (m == n)) p
    where
      registered_by_either : (b : Bool)
          → is_registered c (cond b (event_of n w s ∷ phaser_past n w) (phaser_past n w))
          ≡ is_registered c (phaser_past n w)
      registered_by_either true = ap (λ y. y || is_registered c (phaser_past n w)) none
      registered_by_either false = refl

      mode_by_either : (b : Bool)
          → has_mode can_signal c (cond b (event_of n w s ∷ phaser_past n w) (phaser_past n w))
          ≡ has_mode can_signal c (phaser_past n w)
      mode_by_either true = ap (λ o. option_map_or can_signal o false) same
      mode_by_either false = refl

  -- the registration of c on n itself
  own_reg : (m q u : ℕ) (o : Mode) → is_accepted l w (Phaser m (Reg q u o)) ≡ true → (m == n) ≡ true
      → (u == c) ≡ true → Joined n c w → Joined n c (Phaser m (Reg q u o) ∷ w)
  own_reg m q u o a here mine p =
      let e = Phaser m (Reg q u o) in
      let root : q ≡ 0 =
      sym (named_by_spawn l q u w k.legal (registering l w m q u o k.legal a).begun).1
      ∙ spawner_is_root u w k.plain in
      let next : due 0 w ≡ e ∷ due 0 (e ∷ w) = due_next l w e 0 (part_made l w e a).0 refl refl root in
      let s =
      or_parts (is_weak_for n c e) (list_any (is_weak_for n c) (due 0 (e ∷ w)))
      (subst (λ ds. list_any (is_weak_for n c) ds ≡ false) next p.strong) in
      let able : can_signal o ≡ true = not-false (can_signal o) (rw (here, mine) at s.0) in
      record {
        there = or_left (is_registered c (phaser_past n (e ∷ w))) (list_any (is_reg_for n c) (due 0 (e ∷ w)))
            (rw (here, mine) refl);
        strong = s.1;
        mode = λ y. rw (here, mine) able;
      }

  -- a registration
  by_reg : (m q u : ℕ) (o : Mode) → is_accepted l w (Phaser m (Reg q u o)) ≡ true
      → Joined n c w → Joined n c (Phaser m (Reg q u o) ∷ w)
  by_reg m q u o a p =
      elim (cases_Bool (m == n)) [
        | inr i ↦ plain_kept (Phaser m (Reg q u o)) a refl (rw i refl) (rw i refl) (rw i refl) p
        | inl i ↦ elim (cases_Bool (u == c)) [
          | inl y ↦ own_reg m q u o a i y p
          | inr y ↦ same_by m (Reg q u o) y (rw y refl) a (rw (i, y) refl) p
        ]
      ]

  -- an entry of the root
  by_entry : (b : Begun) → is_accepted l w (Begin 0 b) ≡ true → is_plain (Begin 0 b) ≡ true
      → is_named c w ≡ true → Joined n c w → Joined n c (Begin 0 b ∷ w)
  by_entry End a p d j =
      entry_kept End a (no_leave_is (is_weak_for n c) (λ m u. refl) (λ f x. refl) (due 0 (Begin 0 End ∷ w))
      (leaves_only l 0 (Begin 0 End ∷ w)
      (and_from (is_accepted l w (Begin 0 End)) (is_legal_world l w) a k.legal) refl)) j
  by_entry (Async x ps) a p d j =
      let other : (x == c) ≡ false =
      false_from_ne_true (x == c) (λ s. true≢false
      (sym (subst (λ v. is_named v w ≡ true) (sym (eqb-true x c s)) d) ∙ names_fresh l w 0 x ps a)) in
      entry_kept (Async x ps) a
      (none_in_both (is_weak_for n c) (regs_of 0 x ps) (Finish (inner 0 w) (Spawned x) ∷ [])
      (others_regs n c x ps other) refl) j
  by_entry b a p d j = absurd (false≢true p)

  by_event : (e : WorldEvent) → is_accepted l w e ≡ true → is_plain e ≡ true → (c == 0) ≡ false
      → is_named c w ≡ true → Joined n c w → Joined n c (e ∷ w)
  by_event (Phaser m (Make u o terms)) a p z d j =
      let root : u ≡ 0 = eqb-true u 0 p in
      let other : (u == c) ≡ false =
      false_from_ne_true (u == c) (λ s. true≢false
      (sym (eq-eqb c 0 (sym (eqb-true u c s) ∙ root)) ∙ z)) in
      same_by m (Make u o terms) other (rw other refl) a refl j
  by_event (Phaser m (Reg q u o)) a p z d j = by_reg m q u o a j
  by_event (Phaser m x) a p z d j = same_by m x refl refl a refl j
  by_event (Finish f s) a p z d j = plain_kept (Finish f s) a refl refl refl refl j
  by_event (Begin u b) a p z d j =
      elim (cases_Bool (u == 0)) [
        | inl e ↦
            let root : u ≡ 0 = eqb-true u 0 e in
            subst (λ v. Joined n c (Begin v b ∷ w)) (sym root)
            (by_entry b (subst (λ v. is_accepted l w (Begin v b) ≡ true) root a)
            (subst (λ v. is_plain (Begin v b) ≡ true) root p) d j)
        | inr e ↦
            let same : due 0 (Begin u b ∷ w) ≡ due 0 w = due_other 0 (Begin u b) w e in
            kept (Begin u b) refl refl (ap (λ ds. list_any (is_reg_for n c) ds) same)
            (ap (λ ds. list_any (is_weak_for n c) ds) same) j
      ]
  by_event (Refuse u b x) a p z d j = absurd (false≢true p)
  by_event (Fail u x) a p z d j = absurd (false≢true p)

  -- the child that a spawn names
  new_child : (u x : ℕ) (ps : List Pair) → is_accepted l w (Begin u (Async x ps)) ≡ true → (u == 0) ≡ true
      → x ≡ c → HasOwn ps n → Joined n c (Begin u (Async x ps) ∷ w)
  new_child u x ps a z same own =
      let e = Begin u (Async x ps) in
      let root : u ≡ 0 = eqb-true u 0 z in
      let last = Finish (inner u w) (Spawned x) ∷ [] in
      let now : due 0 (e ∷ w) ≡ regs_of 0 c ps ++ last =
      rw z (ap (λ v. regs_of v x ps ++ last) root ∙ ap (λ v. regs_of 0 v ps ++ last) same) in
      let fresh : is_registered c (phaser_past n w) ≡ false =
      subst (λ v. is_registered v (phaser_past n w) ≡ false) same (unregistered l w u x ps k.legal a n) in
      record {
        there = or_right (is_registered c (phaser_past n w)) (list_any (is_reg_for n c) (due 0 (e ∷ w)))
            (subst (λ ds. list_any (is_reg_for n c) ds ≡ true) (sym now)
            (any_append_left (is_reg_for n c) (regs_of 0 c ps) last (own.there c)));
        strong = subst (λ ds. list_any (is_weak_for n c) ds ≡ false) (sym now)
            (none_in_both (is_weak_for n c) (regs_of 0 c ps) last (own.strong c) refl);
        mode = λ y. absurd (true≢false (sym y ∙ fresh));
      }

module _ (l : Limits) (pairs : ℕ → List Pair) (own : ℕ → ℕ) where
  -- each child of a place below the bound, whose spawn hands out a phaser of its own
  pub joined : (w : List WorldEvent) → IsPlain l w → SpawnsBy pairs w → (i c : ℕ) → HasOwn (pairs i) (own i)
      → child_at i w ≡ Some c → Joined (own i) c w
  joined [] k s i c o h = absurd (none-some c h)
  joined (Begin u (Async x ps) ∷ w) k s i c o h =
      let e = Begin u (Async x ps) in
      let f = last_of_plain l e w k in
      elim (cases_Bool (spawned w == i)) [
        | inl y ↦
            let same : x ≡ c = same_Some x c (rw y at h) in
            new_child l w f.before (own i) c u x ps f.accepted f.plain same
            (subst (λ qs. HasOwn qs (own i)) (sym (s.0 ∙ ap pairs (eqb-true (spawned w) i y))) o)
        | inr y ↦
            let before : child_at i w ≡ Some c = rw y at h in
            by_event l w f.before (own i) c e f.accepted f.plain (child_no_root l i c w f.before.legal before)
            (child_named i c w before) (joined w f.before s.1 i c o before)
      ]
  joined (e ∷ w) k s i c o h =
      let f = last_of_plain l e w k in
      by_event l w f.before (own i) c e f.accepted f.plain (child_no_root l i c w f.before.legal h)
      (child_named i c w h) (joined w f.before s i c o h)
