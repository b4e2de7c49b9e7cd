-- What is the same of both kernels: a root that makes phasers, then spawns a child for each place, and
-- children that send, look, end their turns and end. One proof about plans serves both.
use Rattle.std.proofs.Common.{ℕ, ℤ, zero, suc, ◌+◌, ◌≡◌, ◌≤◌, ◌<◌, ◌∙◌, ◌⊎◌, inl, inr, nat_lt, List, [], ◌∷◌, ◌++◌, map, None, refl, sym, ap, subst, arith}
use Rattle.std.specs.List.{range_with_len}
use Rattle.std.proofs.lemmas.Bool.{cases_Bool, ltb-true, ltb-false}
use Rattle.phase_modes.specs.declared.phased.Pair.{Pair}
use Rattle.phase_modes.specs.declared.reg.Mode.TheVariants.{SigWait}
use Rattle.phase_model.specs.declared.op.Look.{Look}
use Rattle.phase_model.specs.declared.op.Op.{Op}
use Rattle.phase_model.specs.Values.{fold}
use Rattle.job_script.specs.declared.act.Act.{Act}
use Rattle.job_script.specs.declared.act.Act.TheVariants as acts
use Rattle.job_script.specs.declared.act.Answer.{Answer}
use Rattle.job_script.specs.declared.act.Answer.TheVariants.{Started, Done, Made, Spawned, Saw}
use Rattle.job_kernels.specs.Tasks.{Does, Line, GoesBy}
use Rattle.job_kernels.proofs.Numbers.{le_both_ways}
use Rattle.job_kernels.proofs.Joining.{HasOwn}

-- the tasks of a kernel, place by place
pub record Shape : Type 1 where
  pub Body : Type 0
  pub next : Answer → Body → Does Body
  pub op : Op
  -- how many phasers the root makes, and how many children it spawns
  pub phasers : ℕ
  pub children : ℕ
  -- the root after so many phasers and children
  pub root : ℕ → ℕ → Body
  -- the child of a place, and the phasers that it is handed
  pub task : ℕ → Body
  pub pairs : ℕ → List Pair
  -- what it sends on the phaser of its place for a phase, and what is seen of it
  pub out : ℕ → ℕ → List ℤ
  pub seen : ℕ → ℕ → Look ℤ
  -- for how many phases it does so, and how many turns it takes
  pub phases : ℕ → ℕ
  pub turns_of : ℕ → ℕ
  -- the child of a place that has begun so many turns and is done with so many phases
  pub At : ℕ → ℕ → ℕ → Does Body → Type 0

module _ (s : Shape) where
  open s use {Body, next, op, phasers, children, root, task, pairs, out, seen, phases, turns_of, At}

  -- ---- a child

  -- what it does next
  pub data TaskStep (i k done : ℕ) (d : Does Body) : Type 0 where
    to_send : (v : ℤ) → d.0 ≡ acts.Send i 0 v → out i k ≡ v ∷ [] → done ≡ k → k + 1 ≤ phases i
        → At i k (k + 1) (next Done d.1) → TaskStep i k done d
    to_look : (j p after : ℕ) → d.0 ≡ acts.Look j 0 → j < phasers → k ≡ p + 1 → k ≤ phases j → k ≤ after
        → after ≤ phases i → (after ≡ done) ⊎ ((after ≡ done + 1) × (out i done ≡ []))
        → At i k after (next (Saw (seen j p)) d.1) → TaskStep i k done d
    to_turn : d.0 ≡ acts.Next → k + 1 ≤ done → At i (k + 1) done (next Done d.1) → TaskStep i k done d
    to_end : d.0 ≡ acts.End → phases i ≤ done → k ≡ turns_of i → TaskStep i k done d

  -- at its start
  pub record Starts (i : ℕ) : Type 0 where
    pub done : ℕ
    pub at : At i 0 done (next Started (task i))
    pub most : done ≤ phases i
    pub none : (p : ℕ) → p < done → out i p ≡ []

  -- ---- the root

  -- what it does next
  pub record Rooted : Type 0 where
    pub makes : (x : Answer) (m n : ℕ) → m < phasers
        → next x (root m n) ≡ (acts.New SigWait (op ∷ []) None, root (m + 1) n)
    pub spawns : (x : Answer) (m n : ℕ) → phasers ≤ m → n < children
        → next x (root m n) ≡ (acts.Async (task n) (pairs n), root m (n + 1))
    pub ends : (x : Answer) (m n : ℕ) → phasers ≤ m → children ≤ n → next x (root m n) ≡ (acts.End, root m n)

  -- the root after so many phasers and children, once it has heard
  pub record RootAt (m n : ℕ) (d : Does Body) : Type 0 where
    pub heard : Answer
    pub is : d ≡ next heard (root m n)
    pub within : m ≤ phasers
    pub below : n ≤ children

  -- what it does next
  pub data RootStep (m n : ℕ) (d : Does Body) : Type 0 where
    to_make : d.0 ≡ acts.New SigWait (op ∷ []) None → ((x : Answer) → RootAt (m + 1) n (next x d.1))
        → RootStep m n d
    to_spawn : n < children → d.0 ≡ acts.Async (task n) (pairs n)
        → ((x : Answer) → RootAt m (n + 1) (next x d.1))
        → RootStep m n d
    to_end : m ≡ phasers → n ≡ children → d.0 ≡ acts.End → ((x : Answer) → RootAt m n (next x d.1))
        → RootStep m n d

  -- so it does what is next by its counts
  pub root_step : Rooted → (m n : ℕ) (d : Does Body) → RootAt m n d → RootStep m n d
  root_step r m n d at =
      elim (cases_Bool (nat_lt m phasers)) [
        | inl h ↦
            let lt : m < phasers = ltb-true m phasers h in
            let e = at.is ∙ r.makes at.heard m n lt in
            RootStep.to_make (ap (λ y. y.0) e) (λ y. record {
              heard = y;
              is = ap (λ z. next y z.1) e;
              within = one_more m phasers lt;
              below = at.below;
            })
        | inr h ↦
            let all : phasers ≤ m = ltb-false m phasers h in
            elim (cases_Bool (nat_lt n children)) [
              | inl g ↦
                  let lt : n < children = ltb-true n children g in
                  let e = at.is ∙ r.spawns at.heard m n all lt in
                  RootStep.to_spawn lt (ap (λ y. y.0) e) (λ y. record {
                    heard = y;
                    is = ap (λ z. next y z.1) e;
                    within = at.within;
                    below = one_more n children lt;
                  })
              | inr g ↦
                  let full : children ≤ n = ltb-false n children g in
                  let e = at.is ∙ r.ends at.heard m n all full in
                  RootStep.to_end (le_both_ways m phasers at.within all)
                  (le_both_ways n children at.below full)
                  (ap (λ y. y.0) e) (λ y. record {
                    heard = y;
                    is = ap (λ z. next y z.1) e;
                    within = at.within;
                    below = at.below;
                  })
            ]
      ]
    where
      one_more : (x y : ℕ) → x < y → x + 1 ≤ y
      one_more x y h = omega arith

  -- the lines of the root: it makes each phaser, then does each spawn
  module _ (r : Rooted) (spawn : ℕ → Act Body) (same : (i : ℕ) → spawn i ≡ acts.Async (task i) (pairs i))
    where
      -- the lines in which it makes so many phasers
      abbrev makings : ℕ → ℕ → List (Line Body)
      makings m k = map (λ j. (acts.New SigWait (op ∷ []) None, Made j)) (range_with_len m k)

      -- the lines in which it spawns so many children
      abbrev spawnings : ℕ → ℕ → List (Line Body)
      spawnings n k = map (λ i. (spawn i, Spawned (i + 1))) (range_with_len n k)

      -- it spawns the children that are left, and ends
      spawns_go : (k n : ℕ) (x : Answer) → n + k ≡ children
          → GoesBy next (next x (root phasers n)) (spawnings n k)
      spawns_go zero n x e = ap (λ d. d.0) (r.ends x phasers n (omega arith) (omega (arith, e)))
      spawns_go (suc k) n x e =
          let P : Does Body → Type 0 = λ d. GoesBy next d (spawnings n (suc k)) in
          subst P (sym (r.spawns x phasers n (omega arith) (omega (arith, e))))
          (sym (same n), spawns_go k (n + 1) (Spawned (n + 1)) (omega (arith, e)))

      -- it makes the phasers that are left, then spawns
      makes_go : (k m : ℕ) (x : Answer) → m + k ≡ phasers
          → GoesBy next (next x (root m 0)) (makings m k ++ spawnings 0 children)
      makes_go zero m x e =
          let P : ℕ → Type 0 = λ u. GoesBy next (next x (root u 0)) (spawnings 0 children) in
          let all : phasers ≡ m = omega (arith, e) in
          subst P all (spawns_go children 0 x (omega arith))
      makes_go (suc k) m x e =
          let P : Does Body → Type 0 = λ d. GoesBy next d (makings m (suc k) ++ spawnings 0 children) in
          subst P (sym (r.makes x m 0 (omega (arith, e))))
          (refl, makes_go k (m + 1) (Made m) (omega (arith, e)))

      -- so it does from its start
      pub root_goes : GoesBy next (next Started (root 0 0)) (makings 0 phasers ++ spawnings 0 children)
      root_goes = makes_go phasers 0 Started (omega arith)

  -- ---- what a kernel has to show

  -- the laws of a plan
  pub record Plan : Type 0 where
    pub rooted : Rooted
    pub starts : (i : ℕ) → i < children → Starts i
    pub steps : (i k done : ℕ) (d : Does Body) → i < children → At i k done d → TaskStep i k done d
    -- a child for each phaser, which can signal there
    pub enough : phasers ≤ children
    pub own : (i : ℕ) → i < phasers → HasOwn (pairs i) i
    pub folds : (i p : ℕ) → i < phasers → fold op (out i p) ≡ seen i p
    -- the others send nothing
    pub silent : (i p : ℕ) → phasers ≤ i → i < children → out i p ≡ []
