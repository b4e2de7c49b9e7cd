-- A task that is registered by one of level tasks stands level with them.
use Rattle.std.proofs.Common.{◌≡◌, ℕ, ◌==◌, nat_lt, Bool, true, false, ◌||◌, ◌&&◌, not, if◌then◌else◌, List, [], ◌∷◌, ◌++◌, length, refl, ap, sym, ◌∙◌, subst, inl, inr}
use Rattle.std.specs.List.{filter}
use Rattle.std.proofs.lemmas.Bool.{cases_Bool, eq-eqb, eqb-true, ne_eqb, and_parts, or_cases, or_left, or_right, or_parts, or_from, false≢true}
use Rattle.phase_modes.specs.Mode.{can_signal}
use Rattle.phase_modes.specs.declared.reg.Mode.{Mode}
use Rattle.phase_modes.specs.declared.reg.Mode.TheVariants.{SigWait}
use Rattle.phase_modes.specs.declared.limits.Limits.{Limits}
use Rattle.phase_model.specs.declared.terms.Terms.{Terms}
use Rattle.phase_model.specs.declared.history.Event.{Event}
use Rattle.phase_model.specs.declared.history.Event.TheVariants.{Make, Reg, Send}
use Rattle.phase_model.specs.Tasks.{is_live, is_registered, is_dropped, has_mode}
use Rattle.phase_model.specs.Phases.{signals}
use Rattle.phase_model.specs.Rules.{Story, with_event, is_legal}
use Rattle.phase_model.specs.Laws.{IsLegal}
use Rattle.phase_model.proofs.Legal.{last_follows, reg_follows}
use Rattle.phase_model.proofs.LiveTasks.{fresh_not_dropped}
use Rattle.level_phaser.specs.Deeds.{is_sent_by, deeds}
use Rattle.level_phaser.specs.RoundLaws.{is_among, AreApart, StandLevel}
use Rattle.level_phaser.specs.LevelPhasers.{IsReady}
use Rattle.level_phaser.specs.inner.Stories.{Joined}
use Rattle.level_phaser.proofs.LevelTasks.{Level, level_by, all_level}

other_level : (p q t u : ℕ) (m : Mode) (h : List Event) → (t == u) ≡ false → Level p u h
    → Level p u (Reg q t m ∷ h)
other_level p q t u m h other k = record {
  live = rw other k.live;
  mode = rw other k.mode;
  turns =
      rw other k.turns;
  told = rw other k.told;
}

new_level : (p q t : ℕ) (h : List Event) → is_dropped t h ≡ false → Level p q h
    → Level p t (Reg q t SigWait ∷ h)
new_level p q t h kept k =
    let here : (t == t) ≡ true = eq-eqb t t refl in
    record {
      live = rw (here, kept) refl;
      mode = rw here refl;
      turns = rw here k.turns;
      told =
          rw here k.told;
    }

or_none : (b : Bool) → (b || false) ≡ b
or_none true = refl
or_none false = refl

or_moved : (a b c : Bool) → (a || (b || c)) ≡ ((a || b) || c)
or_moved true b c = refl
or_moved false b c = refl

among_last : (u t : ℕ) (ts : List ℕ) → is_among u (ts ++ t ∷ []) ≡ (is_among u ts || (t == u))
among_last u t [] = or_none (t == u)
among_last u t (x ∷ xs) = ap (λ b. (x == u) || b) (among_last u t xs) ∙ or_moved (x == u) (is_among u xs)
    (t == u)

turned : (a b : ℕ) → (a == b) ≡ false → (b == a) ≡ false
turned a b other = ne_eqb b a (λ e. false≢true (sym other ∙ eq-eqb a b (sym e)))

apart_last : (t : ℕ) (ts : List ℕ) → AreApart ts → is_among t ts ≡ false → AreApart (ts ++ t ∷ [])
apart_last t [] apart none = (refl, tt)
apart_last t (x ∷ xs) apart none =
    let parts = or_parts (x == t) (is_among t xs) none in (
      among_last x t xs ∙ or_from (is_among x xs) (t == x) apart.0 (turned x t parts.0),
      apart_last t xs apart.1 parts.1,
    )

-- all stand level once one more does
stand_more : (p t : ℕ) (ts : List ℕ) (s' : Story) → Level p t s'.past
    → ((u : ℕ) → is_among u ts ≡ true → Level p u s'.past)
    → ((u : ℕ) → is_live u s'.past ≡ true → (t == u) ≡ false → is_among u ts ≡ true) → AreApart (ts ++ t ∷ [])
    → StandLevel p (ts ++ t ∷ []) s'
stand_more p t ts s' new old live apart = record {
  level = all_level p (ts ++ t ∷ []) s'
      (λ u among. elim (or_cases (is_among u ts) (t == u) (sym (among_last u t ts) ∙ among)) [
        | inl e ↦ old u e
        | inr e ↦ subst (λ (v : ℕ). Level p v s'.past) (eqb-true t u e) new
      ]);
  all = λ u lives. among_last u t ts ∙ elim (cases_Bool (t == u)) [
    | inl e ↦ or_right (is_among u ts) (t == u) e
    | inr e ↦ or_left (is_among u ts) (t == u) (live u lives e)
  ];
  apart = apart;
}

not_live : (t : ℕ) (h : List Event) → is_registered t h ≡ false → is_live t h ≡ false
not_live t h none = ap (λ b. b && not (is_dropped t h)) none

known : (u : ℕ) (h : List Event) → is_live u h ≡ true → is_registered u h ≡ true
known u h live = (and_parts (is_registered u h) (not (is_dropped u h)) live).0

other_task : (t u : ℕ) (h : List Event) → is_registered t h ≡ false → is_live u h ≡ true → (t == u) ≡ false
other_task t u h none live =
    ne_eqb t u (λ e. false≢true (sym none ∙ ap (λ (v : ℕ). is_registered v h) e ∙ known u h live))

not_among : (t : ℕ) (ts : List ℕ) (b : Bool) → is_among t ts ≡ b → (b ≡ true → ⊥) → is_among t ts ≡ false
not_among t ts true is no-such = absurd (no-such refl)
not_among t ts false is no-such = is

-- who was never registered has sent nothing
fresh_not_sent : (l : Limits) (terms : Terms) (h : List Event) (t : ℕ) → is_legal l terms h ≡ true
    → is_registered t h ≡ false → filter (is_sent_by t) h ≡ []
fresh_not_sent l terms [] t k r = refl
fresh_not_sent l terms (Make u m ∷ h) t k r =
    fresh_not_sent l terms h t (last_follows l terms h (Make u m) k).before
    (or_parts (u == t) (is_registered t h) r).1
fresh_not_sent l terms (Reg q u m ∷ h) t k r =
    fresh_not_sent l terms h t (last_follows l terms h (Reg q u m) k).before
    (or_parts (u == t) (is_registered t h) r).1
fresh_not_sent l terms (Send u a v ∷ h) t k r =
    let f = last_follows l terms h (Send u a v) k in
    let may = and_parts (is_live u h && has_mode can_signal u h) (nat_lt a (length terms.ops)) f.permitted in
    let live : is_live u h ≡ true = (and_parts (is_live u h) (has_mode can_signal u h) may.0).0 in
    rw (turned t u (other_task t u h r live)) (fresh_not_sent l terms h t f.before r)
fresh_not_sent l terms (e ∷ h) t k r = fresh_not_sent l terms h t (last_follows l terms h e k).before r

-- a task that one of these registers stands level with them
pub joined_level : (p q t : ℕ) (ts : List ℕ) (s : Story) → IsReady p ts s → is_among q ts ≡ true
    → IsLegal (with_event s (Reg q t SigWait))
    → Joined p t ts s (with_event s (Reg q t SigWait))
joined_level p q t ts s ready among legal' =
    let h = s.past in
    let e = Reg q t SigWait in
    let f = last_follows s.limits s.terms h e legal' in
    let r = reg_follows s.limits s.terms h q t SigWait f.permitted in
    let kept = fresh_not_dropped s.limits s.terms h t ready.0 r.unknown in
    let parent = level_by p ts s ready.1.level q among in
    let new = new_level p q t h kept parent in
    let old : (u : ℕ) → is_among u ts ≡ true → Level p u (e ∷ h) = λ u here. let k =
    level_by p ts s ready.1.level u here in
    other_level p q t u SigWait h (other_task t u h r.unknown k.live) k in
    record {
      longer = (e ∷ [], refl);
      terms = refl;
      fresh = not_live t h r.unknown;
      there = new.live;
      did = λ k. deeds (new.told k) (fresh_not_sent s.limits s.terms h t ready.0 r.unknown k);
      others = λ u live. let other = other_task t u h r.unknown live in (
        rw other live,
        ap (λ (b : Bool). deeds (signals (if b then q else u) h) (filter (is_sent_by u) h)) other,
      );
      stand = stand_more p t ts (with_event s e) new old (λ u lives other. ready.1.all u (rw other at lives))
          (apart_last t ts ready.1.apart
          (not_among t ts (is_among t ts) refl
          (λ here. false≢true (sym (not_live t h r.unknown)
          ∙ (level_by p ts s ready.1.level t here).live))));
    }

-- before the first task joins nobody is there who might not stand level
pub none_yet : (s : Story) → s.past ≡ [] → IsReady 0 [] s
none_yet s empty = (
  ap (is_legal s.limits s.terms) empty,
  record { level = refl; all = λ t live. absurd (false≢true (sym (ap (is_live t) empty) ∙ live)); apart = tt },
)

nobody : (u p : ℕ) (s : Story) → StandLevel p [] s → is_live u s.past ≡ true → ⊥
nobody u p s stand live = false≢true (stand.all u live)

-- and the first stands at phase 0
pub made_level : (t : ℕ) (s : Story) → IsReady 0 [] s → s.past ≡ [] → IsLegal (with_event s (Make t SigWait))
    → Joined 0 t [] s (with_event s (Make t SigWait))
made_level t s ready first legal' =
    let h = s.past in
    let e = Make t SigWait in
    let here : (t == t) ≡ true = eq-eqb t t refl in
    let kept : is_dropped t h ≡ false = ap (is_dropped t) first in
    let new : Level 0 t (e ∷ h) = record {
      live = rw (here, kept) refl;
      mode = rw here refl;
      turns =
          rw here refl;
      told = rw here refl;
    } in
    record {
      longer = (e ∷ [], refl);
      terms = refl;
      fresh = ap (is_live t) first;
      there = new.live;
      did = λ k. deeds (new.told k) (filter (is_sent_by t) (first k));
      others = λ u live. absurd (nobody u 0 s ready.1 live);
      stand = stand_more 0 t [] (with_event s e) new (λ u none. absurd (false≢true none))
          (λ u lives other. ready.1.all u (rw other at lives)) (refl, tt);
    }
