-- While a task signals or turns,
-- it stands on each phaser where the signals and passes that are due say that it stands.
use Rattle.std.proofs.Common.{◌≡◌, ℕ, ◌+◌, ◌≤◌, Bool, true, false, ◌||◌, ◌==◌, cond, List, [], ◌∷◌, ◌++◌, Option, Some, None, refl, sym, subst, ap, ◌∙◌, inl, inr, arith}
use Rattle.std.specs.Prelude.{filter}
use Rattle.std.specs.List.{list_any}
use Rattle.std.proofs.lemmas.Bool.{and_parts, and_from, or_cases, or_left, or_parts, cases_Bool, eqb-true, true≢false, false≢true}
use Rattle.std.proofs.lemmas.List.Folds.{list_any-append}
use Rattle.phase_modes.specs.declared.limits.Limits.{Limits}
use Rattle.phase_modes.specs.Mode.{can_single}
use Rattle.phase_model.specs.Tasks.{is_live, has_mode}
use Rattle.phase_model.proofs.LiveTasks.{has, has-filter}
use Rattle.world_model.specs.declared.event.Step.TheVariants.{Sig}
use Rattle.world_model.specs.declared.event.WorldEvent.{WorldEvent}
use Rattle.world_model.specs.declared.event.WorldEvent.TheVariants.{Phaser}
use Rattle.world_model.specs.Parts.{phaser_past}
use Rattle.world_model.specs.Tasks.{phasers_of}
use Rattle.world_model.specs.Due.{is_behind}
use Rattle.world_model.specs.Replies.{is_legal_world}
use Rattle.world_model.specs.ClockLaws.{is_pass_on}
use Rattle.world_model.proofs.PhasersOnce.{times, times-filter, phasers_once}
use Rattle.world_model.proofs.SignalsComeFirst.{passes_of, sigs_of}

abbrev pub is_sig_on : ℕ → WorldEvent → Bool
is_sig_on n (Phaser m (Sig t x)) = m == n
is_sig_on n _ = false

abbrev pub is_single_on : ℕ → WorldEvent → Bool
is_single_on n (Phaser m (Sig t (Some x))) = m == n
is_single_on n _ = false

abbrev pub how_many : (WorldEvent → Bool) → List WorldEvent → ℕ
how_many p [] = 0
how_many p (d ∷ ds) = cond (p d) (how_many p ds + 1) (how_many p ds)

pub record Turning (t : ℕ) (w ds : List WorldEvent) : Type 0 where
  pub sigs : (n : ℕ) → list_any (is_sig_on n) ds ≡ true
      → (is_live t (phaser_past n w) ≡ true) × (is_behind t (phaser_past n w) ≡ true)
  pub once : (n : ℕ) → how_many (is_sig_on n) ds ≤ 1
  pub passes : (n : ℕ) → list_any (is_pass_on n) ds ≡ true → (is_live t (phaser_past n w) ≡ true)
      × (is_behind t (phaser_past n w) ≡ true → list_any (is_sig_on n) ds ≡ true)
  pub singles : (n : ℕ) → list_any (is_single_on n) ds ≡ true → has_mode can_single t (phaser_past n w) ≡ true

pub nothing_turns : (t : ℕ) (w : List WorldEvent) → Turning t w []
nothing_turns t w =
    record {
      sigs = λ n h. absurd (false≢true h);
      once = λ n. omega arith;
      passes = λ n h.
          absurd (false≢true h);
      singles = λ n h. absurd (false≢true h);
    }

-- what is counted at most once, and stands first, isn't there again
pub first_is_last : (p : WorldEvent → Bool) (d : WorldEvent) (ds : List WorldEvent) → how_many p (d ∷ ds) ≤ 1
    → p d ≡ true → list_any p ds ≡ false
first_is_last p d ds k h =
    none p ds (less (how_many p ds) (subst (λ b. cond b (how_many p ds + 1) (how_many p ds) ≤ 1) h k))
  where
    less : (x : ℕ) → x + 1 ≤ 1 → x ≤ 0
    less x y = omega arith

    none : (p : WorldEvent → Bool) (xs : List WorldEvent) → how_many p xs ≤ 0 → list_any p xs ≡ false
    none p [] y = refl
    none p (x ∷ xs) y =
        (elim (p x) as (λ b. cond b (how_many p xs + 1) (how_many p xs) ≤ 0 → (b || list_any p xs) ≡ false) [
          | true ↦ λ z. absurd (too_many (how_many p xs) z)
          | false ↦ λ z. none p xs z
        ]) y
      where
        too_many : (x : ℕ) → x + 1 ≤ 0 → ⊥
        too_many x h = omega arith

pub fewer : (p : WorldEvent → Bool) (d : WorldEvent) (ds : List WorldEvent) → how_many p (d ∷ ds) ≤ 1
    → how_many p ds ≤ 1
fewer p d ds k =
    (elim (p d) as (λ b. cond b (how_many p ds + 1) (how_many p ds) ≤ 1 → how_many p ds ≤ 1) [
      | true ↦ λ h. less (how_many p ds) h
      | false ↦ λ h. h
    ]) k
  where
    less : (x : ℕ) → x + 1 ≤ 1 → x ≤ 1
    less x h = omega arith

-- the lists that an entry fixes
pub sigs_there : (t n : ℕ) (x : Option ℕ) (ns : List ℕ) → list_any (is_sig_on n) (sigs_of t x ns) ≡ has n ns
sigs_there t n x [] = refl
sigs_there t n x (m ∷ ms) = ap (λ b. (m == n) || b) (sigs_there t n x ms)

pub sigs_not : (t n : ℕ) (ns : List ℕ) → list_any (is_sig_on n) (passes_of t ns) ≡ false
sigs_not t n [] = refl
sigs_not t n (m ∷ ms) = sigs_not t n ms

pub passes_there : (t n : ℕ) (ns : List ℕ) → list_any (is_pass_on n) (passes_of t ns) ≡ has n ns
passes_there t n [] = refl
passes_there t n (m ∷ ms) = ap (λ b. (m == n) || b) (passes_there t n ms)

passes_not : (t n : ℕ) (x : Option ℕ) (ns : List ℕ) → list_any (is_pass_on n) (sigs_of t x ns) ≡ false
passes_not t n x [] = refl
passes_not t n x (m ∷ ms) = passes_not t n x ms

pub singles_not : (t n : ℕ) (ns : List ℕ) → list_any (is_single_on n) (passes_of t ns) ≡ false
singles_not t n [] = refl
singles_not t n (m ∷ ms) = singles_not t n ms

pub plain_not : (t n : ℕ) (ns ms : List ℕ)
    → list_any (is_single_on n) (sigs_of t None ns ++ passes_of t ms) ≡ false
plain_not t n [] ms = singles_not t n ms
plain_not t n (y ∷ ns) ms = plain_not t n ns ms

pub singles_there : (t n x : ℕ) (ns : List ℕ) → list_any (is_single_on n) (sigs_of t (Some x) ns) ≡ has n ns
singles_there t n x [] = refl
singles_there t n x (m ∷ ms) = ap (λ b. (m == n) || b) (singles_there t n x ms)

counted : (t n : ℕ) (x : Option ℕ) (ns ms : List ℕ)
    → how_many (is_sig_on n) (sigs_of t x ns ++ passes_of t ms) ≡ times n ns
counted t n x [] [] = refl
counted t n x [] (m ∷ ms) = counted t n x [] ms
counted t n x (y ∷ ns) ms = ap (λ r. cond (y == n) (r + 1) r) (counted t n x ns ms)

has_times : (n : ℕ) (ns : List ℕ) → has n ns ≡ true → times n ns ≡ 0 → ⊥
has_times n [] h k = false≢true h
has_times n (m ∷ ms) h k =
    elim (cases_Bool (m == n)) [
      | inl e ↦ some_none (times n ms) (subst (λ b. cond b (times n ms + 1) (times n ms) ≡ 0) e k)
      | inr e ↦ has_times n ms (rw e at h) (subst (λ b. cond b (times n ms + 1) (times n ms) ≡ 0) e k)
    ]
  where
    some_none : (x : ℕ) → x + 1 ≡ 0 → ⊥
    some_none x h = omega arith

module _ (l : Limits) (t : ℕ) (w : List WorldEvent) (k : is_legal_world l w ≡ true) where
  -- a task's phasers are those on which it is live
  pub listed_live : (n : ℕ) → has n (phasers_of t w) ≡ true → is_live t (phaser_past n w) ≡ true
  listed_live n h =
      elim (cases_Bool (is_live t (phaser_past n w))) [
        | inl v ↦ v
        | inr v ↦ absurd (has_times n (phasers_of t w) h (phasers_once l w k t n ∙ ap (λ b. cond b 1 0) v))
      ]

  at_most : (b : Bool) (x : ℕ) → x ≤ 1 → cond b x 0 ≤ 1
  at_most true x h = h
  at_most false x h = omega arith

  live_once : (n : ℕ) → times n (phasers_of t w) ≤ 1
  live_once n = subst (λ x. x ≤ 1) (sym (phasers_once l w k t n)) (one (is_live t (phaser_past n w)))
    where
      one : (b : Bool) → cond b 1 0 ≤ 1
      one true = omega arith
      one false = omega arith

  abbrev pub behinds : List ℕ
  behinds = filter (λ m. is_behind t (phaser_past m w)) (phasers_of t w)

  pub behinds_are : (n : ℕ) → has n behinds ≡ true
      → (is_live t (phaser_past n w) ≡ true) × (is_behind t (phaser_past n w) ≡ true)
  behinds_are n h =
      let p =
      and_parts (is_behind t (phaser_past n w)) (has n (phasers_of t w))
      (sym (has-filter (λ m. is_behind t (phaser_past m w)) n (phasers_of t w)) ∙ h) in
      (listed_live n p.1, p.0)

  -- signals where it is behind, and perhaps a pass everywhere
  pub both_turn : (x : Option ℕ) (ms : List ℕ) → ((n : ℕ) → has n ms ≡ true → has n (phasers_of t w) ≡ true)
      → ((n : ℕ) → list_any (is_single_on n) (sigs_of t x behinds ++ passes_of t ms) ≡ true
      → has_mode can_single t (phaser_past n w) ≡ true)
      → Turning t w (sigs_of t x behinds ++ passes_of t ms)
  both_turn x ms among singles =
      record {
        sigs = λ n h. behinds_are n (
            elim (or_cases (list_any (is_sig_on n) (sigs_of t x behinds))
            (list_any (is_sig_on n) (passes_of t ms))
            (sym (list_any-append (is_sig_on n) (sigs_of t x behinds) (passes_of t ms)) ∙ h)) [
              | inl y ↦ sym (sigs_there t n x behinds) ∙ y
              | inr y ↦ absurd (true≢false (sym y ∙ sigs_not t n ms))
            ]);
        once =
            λ n. subst (λ r. r ≤ 1) (sym (counted t n x behinds ms
            ∙ times-filter (λ m. is_behind t (phaser_past m w)) n (phasers_of t w)))
            (at_most (is_behind t (phaser_past n w)) (times n (phasers_of t w)) (live_once n));
        passes = λ n h.
            elim (or_cases (list_any (is_pass_on n) (sigs_of t x behinds))
            (list_any (is_pass_on n) (passes_of t ms))
            (sym (list_any-append (is_pass_on n) (sigs_of t x behinds) (passes_of t ms)) ∙ h)) [
              | inl y ↦ absurd (true≢false (sym y ∙ passes_not t n x behinds))
              | inr y ↦
                  let listed = among n (sym (passes_there t n ms) ∙ y) in (
                    listed_live n listed,
                    λ b.
                        list_any-append (is_sig_on n) (sigs_of t x behinds) (passes_of t ms)
                        ∙ or_left (list_any (is_sig_on n) (sigs_of t x behinds))
                        (list_any (is_sig_on n) (passes_of t ms))
                        (sigs_there t n x behinds
                        ∙ (has-filter (λ m. is_behind t (phaser_past m w)) n (phasers_of t w) ∙ and_from
                        (is_behind t (phaser_past n w)) (has n (phasers_of t w)) b listed)),
                  )
            ];
        singles = singles;
      }

  -- where none is behind, the passes alone
  pub wait_turn : ((n : ℕ) → has n (phasers_of t w) ≡ true → is_behind t (phaser_past n w) ≡ false)
      → Turning t w (passes_of t (phasers_of t w))
  wait_turn none =
      record {
        sigs = λ n h. absurd (true≢false (sym h ∙ sigs_not t n (phasers_of t w)));
        once = λ n. subst (λ r. r ≤ 1) (sym (counted t n None [] (phasers_of t w))) (omega arith);
        passes =
            λ n h. let listed =
            sym (passes_there t n (phasers_of t w)) ∙ h in
            (listed_live n listed, λ b. absurd (true≢false (sym b ∙ none n listed)));
        singles = λ n h. absurd (true≢false (sym h ∙ singles_not t n (phasers_of t w)));
      }

-- what passes nowhere in the list
pub none_at : (p : ℕ → Bool) (ns : List ℕ) (n : ℕ) → list_any p ns ≡ false → has n ns ≡ true → p n ≡ false
none_at p [] n k h = absurd (false≢true h)
none_at p (m ∷ ms) n k h =
    let a = or_parts (p m) (list_any p ms) k in
    elim (or_cases (m == n) (has n ms) h) [
      | inl e ↦ subst (λ v. p v ≡ false) (eqb-true m n e) a.0
      | inr e ↦ none_at p ms n a.1 e
    ]
