-- All stand level once one of them has left.
use Rattle.std.specs.Prelude.{◌≢◌}
use Rattle.std.proofs.Common.{◌≡◌, ℕ, suc, ◌+◌, ◌==◌, Bool, true, false, ◌||◌, ◌&&◌, not, List, [], ◌∷◌, length, refl, ap, sym, ◌∙◌, arith}
use Rattle.std.specs.List.{filter}
use Rattle.std.proofs.lemmas.Bool.{eq-eqb, ne_eqb, and_parts, and_from, or_parts, eqb-true, false≢true}
use Rattle.told_history.specs.Tails.{IsTail}
use Rattle.phase_model.specs.declared.history.Event.{Event}
use Rattle.phase_model.specs.declared.history.Event.TheVariants.{Drop}
use Rattle.phase_model.specs.Tasks.{is_live, is_registered, is_dropped}
use Rattle.phase_model.specs.Rules.{Story, with_event}
use Rattle.phase_model.proofs.LiveTasks.{has-filter}
use Rattle.level_phaser.specs.Deeds.{deeds_of}
use Rattle.level_phaser.specs.RoundLaws.{is_among, AreApart, StandLevel}
use Rattle.level_phaser.proofs.LevelTasks.{Level, level_by, all_level}

-- those that aren't t
abbrev pub without : ℕ → List ℕ → List ℕ
without t ts = filter (λ u. not (u == t)) ts

not_both : (b : Bool) → (b && false) ≡ false
not_both true = refl
not_both false = refl

none_taken : (t : ℕ) (ts : List ℕ) → is_among t ts ≡ false → without t ts ≡ ts
none_taken t [] none = refl
none_taken t (x ∷ xs) none =
    let parts = or_parts (x == t) (is_among t xs) none in
    rw parts.0 (ap (λ ys. x ∷ ys) (none_taken t xs parts.1))

-- of different tasks one is taken
one_taken : (t : ℕ) (ts : List ℕ) → AreApart ts → is_among t ts ≡ true → length (without t ts) + 1 ≡ length ts
one_taken t [] apart here = absurd cc
one_taken t (x ∷ xs) apart here = by_first (x == t) refl (λ k. one_taken t xs apart.1 k)
  where
    by_first : (b : Bool) → (x == t) ≡ b → (is_among t xs ≡ true → length (without t xs) + 1 ≡ length xs)
        → length (without t (x ∷ xs)) + 1 ≡ suc (length xs)
    by_first true e rest =
        let none : is_among t xs ≡ false = ap (λ u. is_among u xs) (sym (eqb-true x t e)) ∙ apart.0 in
        let same = ap length (none_taken t xs none) in
        rw e (omega (arith, same))
    by_first false e rest =
        let fewer = rest (ap (λ b. b || is_among t xs) (sym e) ∙ here) in
        rw e (omega (arith, fewer))

still_apart : (t : ℕ) (ts : List ℕ) → AreApart ts → AreApart (without t ts)
still_apart t [] apart = tt
still_apart t (x ∷ xs) apart =
    let none : is_among x (without t xs) ≡ false =
    has-filter (λ u. not (u == t)) x xs ∙ ap (λ b. not (x == t) && b) apart.0 ∙ not_both (not (x == t)) in
    let rest = still_apart t xs apart.1 in
    by_first (x == t) refl none rest
  where
    by_first : (b : Bool) → (x == t) ≡ b → is_among x (without t xs) ≡ false → AreApart (without t xs)
        → AreApart (without t (x ∷ xs))
    by_first true e none rest = rw e rest
    by_first false e none rest = rw e (none, rest)

-- what a leave leaves
pub record LeftAt (p t : ℕ) (ts : List ℕ) (s s' : Story) : Type 0 where
  pub longer : IsTail s.past s'.past
  pub gone : is_live t s'.past ≡ false
  pub others : (u : ℕ) → u ≢ t → is_live u s.past ≡ true → (is_live u s'.past ≡ true)
      × (deeds_of u s'.past ≡ deeds_of u s.past)
  pub fewer : length (without t ts) + 1 ≡ length ts
  pub stand : StandLevel p (without t ts) s'

-- a task that isn't t stands where it stood
other_level : (p t u : ℕ) (h : List Event) → (t == u) ≡ false → Level p u h → Level p u (Drop t ∷ h)
other_level p t u h other k = record { live = rw other k.live; mode = k.mode; turns = k.turns; told = k.told }

pub left_level : (p t : ℕ) (ts : List ℕ) (s : Story) → StandLevel p ts s → is_live t s.past ≡ true
    → LeftAt p t ts s (with_event s (Drop t))
left_level p t ts s stand live =
    let h = s.past in
    let s' = with_event s (Drop t) in
    let here : (t == t) ≡ true = eq-eqb t t refl in
    record {
      longer = (Drop t ∷ [], refl);
      gone = rw here (not_both (is_registered t h));
      others = λ u other lives. let apart = ne_eqb t u (λ k. other (sym k)) in (rw apart lives, refl);
      fewer = one_taken t ts stand.apart (stand.all t live);
      stand = record {
        level = all_level p (without t ts) s' (λ u among.
            let both = and_parts (not (u == t)) (is_among u ts) (sym (has-filter (λ v. not (v == t)) u ts)
            ∙ among) in
            other_level p t u h
            (ne_eqb t u (λ k. false≢true (sym (ap (λ b. not b) (eq-eqb u t (sym k))) ∙ both.0)))
            (level_by p ts s stand.level u both.1));
        all = λ u lives.
            let parts = and_parts (is_registered u h) (not ((t == u) || is_dropped u h)) lives in
            let other = or_parts (t == u) (is_dropped u h) (not_true _ parts.1) in
            has-filter (λ v. not (v == t)) u ts
            ∙ and_from (not (u == t)) (is_among u ts)
            (ap (λ b. not b) (ne_eqb u t (λ k. false≢true (sym other.0 ∙ eq-eqb t u (sym k)))))
            (stand.all u (and_from (is_registered u h) (not (is_dropped u h)) parts.0
            (ap (λ b. not b) other.1)));
        apart = still_apart t ts stand.apart;
      };
    }
  where
    not_true : (b : Bool) → not b ≡ true → b ≡ false
    not_true true k = absurd cc
    not_true false k = refl
