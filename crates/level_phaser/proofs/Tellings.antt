-- How the last tells what the rows show.
use Rattle.std.specs.Prelude.{◌≢◌, take, slice_get}
use Rattle.std.proofs.Common.{◌*◌, ◌≡◌, ℕ, zero, suc, ◌+◌, ◌==◌, Bool, true, false, ◌||◌, if◌then◌else◌, List, [], ◌∷◌, length, Some, None, get_or, refl, ap, sym, ◌∙◌, subst, arith}
use Rattle.std.proofs.lemmas.Bool.{eq-eqb, eqb-true, ne_eqb, or_left, or_right, false≢true}
use Rattle.atomic_table.specs.Table.{Me}
use Rattle.told_history.specs.Tails.{IsTail}
use Rattle.phase_model.specs.declared.history.Event.{Event}
use Rattle.level_phaser.specs.declared.view.SeatView.{SeatView}
use Rattle.level_phaser.specs.declared.view.Role.{Role}
use Rattle.level_phaser.specs.declared.view.Role.TheVariants.{Last}
use Rattle.level_phaser.specs.Deeds.{deeds_of, with_signal, with_sends}
use Rattle.level_phaser.specs.Changes.{AllSignalled, IsSent}
use Rattle.level_phaser.specs.RoundLaws.{is_among, AreApart}
use Rattle.level_phaser.specs.inner.Board.{sent_in, AllTold}
use Rattle.level_phaser.specs.inner.Tellings.{told_of, SoFar, Tells}
use Rattle.level_phaser.proofs.Keeps.{tail_on, tail_same}

or_none : (b : Bool) → (b || false) ≡ b
or_none true = refl
or_none false = refl

or_apart : (a b d : Bool) → (a || (b || d)) ≡ ((a || b) || d)
or_apart true b d = refl
or_apart false b d = refl

some_is : (x y : ℕ) → Some x ≡ Some y → x ≡ y
some_is x y e = cc

-- one more of the first of a list
among_next : (u : ℕ) (ts : List ℕ) (n t : ℕ) → slice_get ts n ≡ Some t
    → is_among u (take (suc n) ts) ≡ (is_among u (take n ts) || (t == u))
among_next u [] n t e = absurd cc
among_next u (x ∷ xs) zero t e = or_none (x == u) ∙ ap (λ (k : ℕ). k == u) (some_is x t e)
among_next u (x ∷ xs) (suc n) t e = ap (λ b. (x == u) || b) (among_next u xs n t e)
    ∙ or_apart (x == u) (is_among u (take n xs)) (t == u)

-- there is none more
take_beyond : (ts : List ℕ) (n : ℕ) → slice_get ts n ≡ None → take (suc n) ts ≡ take n ts
take_beyond [] zero e = refl
take_beyond [] (suc n) e = refl
take_beyond (x ∷ xs) zero e = absurd cc
take_beyond (x ∷ xs) (suc n) e = ap (λ ys. x ∷ ys) (take_beyond xs n e)

pub among_at : (ts : List ℕ) (n t : ℕ) → slice_get ts n ≡ Some t → is_among t ts ≡ true
among_at [] n t e = absurd cc
among_at (x ∷ xs) zero t e = or_left (x == t) (is_among t xs) (eq-eqb x t (some_is x t e))
among_at (x ∷ xs) (suc n) t e = or_right (x == t) (is_among t xs) (among_at xs n t e)

-- of different tasks the next isn't among those before it
not_before : (ts : List ℕ) (n t : ℕ) → AreApart ts → slice_get ts n ≡ Some t → is_among t (take n ts) ≡ false
not_before [] n t apart e = absurd cc
not_before (x ∷ xs) zero t apart e = refl
not_before (x ∷ xs) (suc n) t apart e =
    let other : (x == t) ≡ false = ne_eqb x t (λ k. false≢true (sym apart.0 ∙ subst (λ u. is_among u xs ≡ true)
    (sym k) (among_at xs n t e))) in
    ap (λ b. b || is_among t (take n xs)) other ∙ not_before xs n t apart.1 e

among_all : (u : ℕ) (ts : List ℕ) → is_among u (take (length ts) ts) ≡ is_among u ts
among_all u [] = refl
among_all u (x ∷ xs) = ap (λ b. (x == u) || b) (among_all u xs)

-- a row that shows nothing tells nothing
either_none : (b : Bool) (es : List Event) → es ≡ [] → (if b then es else []) ≡ []
either_none true es e = e
either_none false es e = refl

-- what is told of a task that isn't the next one
told_other : (ws ts : List ℕ) (n t u : ℕ) → slice_get ts n ≡ Some t → t ≢ u
    → told_of ws (take (suc n) ts) u ≡ told_of ws (take n ts) u
told_other ws ts n t u e other =
    ap (λ (b : Bool). if b then sent_in u (get_or ws (32 + 8 * u) 0) else [])
    (among_next u ts n t e ∙ ap (λ b. is_among u (take n ts) || b) (ne_eqb t u other) ∙ or_none (is_among u (take n ts)))

-- and of the next one
told_next : (ws ts : List ℕ) (n t : ℕ) → slice_get ts n ≡ Some t
    → told_of ws (take (suc n) ts) t ≡ sent_in t (get_or ws (32 + 8 * t) 0)
told_next ws ts n t e =
    ap (λ (b : Bool). if b then sent_in t (get_or ws (32 + 8 * t) 0) else [])
    (among_next t ts n t e ∙ or_right (is_among t (take n ts)) (t == t) (eq-eqb t t refl))

by_task : (P : Type 0) (t u : ℕ) → (t ≡ u → P) → (t ≢ u → P) → P
by_task P t u here there = by_test (t == u) refl
  where
    by_test : (b : Bool) → (t == u) ≡ b → P
    by_test true e = here (eqb-true t u e)
    by_test false e = there (λ k. false≢true (sym e ∙ eq-eqb t u k))

begun_of : {S : Type 0} → S → Role S → S
begun_of x (Last y ws) = y
begun_of x _ = x

module _ {S : Type 0} (events : S → List Event) (registered : ℕ → S → Bool) (count : S → ℕ) (width : S → ℕ)
    (tasks : S → List ℕ) (ready : ℕ → S → Type 0) where
  abbrev Far : ℕ → List ℕ → S → S → Type 0
  Far = SoFar events registered count width tasks ready

  abbrev Told : ℕ → ℕ → Me S (SeatView S) → Type 0
  Told = Tells events registered count width tasks ready

  pub none_yet : (ws : List ℕ) (x : S) → Far 0 ws x x
  none_yet ws x = record {
    longer = tail_same (events x);
    counts = refl;
    widths = refl;
    same = refl;
    each = λ t live. (live, refl);
  }

  pub far_beyond : (n : ℕ) (ws : List ℕ) (x z : S) → slice_get (tasks z) n ≡ None → Far n ws x z → Far (suc n) ws x z
  far_beyond n ws x z none k = record {
    longer = k.longer;
    counts = k.counts;
    widths = k.widths;
    same = k.same;
    each = λ t live. (let f = k.each t live in (
      f.0,
      f.1 ∙ ap (λ (ts : List ℕ). with_sends (told_of ws ts t) (deeds_of t (events x)))
          (sym (take_beyond (tasks x) n (ap (λ (ts : List ℕ). slice_get ts n) (sym k.same) ∙ none))),
    ));
  }

  pub far_quiet : (n t : ℕ) (ws : List ℕ) (x z : S) → slice_get (tasks z) n ≡ Some t
      → sent_in t (get_or ws (32 + 8 * t) 0) ≡ [] → Far n ws x z → Far (suc n) ws x z
  far_quiet n t ws x z at none k = record {
    longer = k.longer;
    counts = k.counts;
    widths = k.widths;
    same = k.same;
    each = λ u live. (let f = k.each u live in (
      f.0,
      f.1 ∙ ap (λ (es : List Event). with_sends es (deeds_of u (events x)))
          (by_task (told_of ws (take n (tasks x)) u ≡ told_of ws (take (suc n) (tasks x)) u) t u
          (λ (e : t ≡ u). (let quiet : sent_in u (get_or ws (32 + 8 * u) 0) ≡ [] =
          subst (λ (v : ℕ). sent_in v (get_or ws (32 + 8 * v) 0) ≡ []) e none in
          either_none (is_among u (take n (tasks x))) (sent_in u (get_or ws (32 + 8 * u) 0)) quiet
          ∙ sym (either_none (is_among u (take (suc n) (tasks x))) (sent_in u (get_or ws (32 + 8 * u) 0)) quiet)))
          (λ (e : t ≢ u). sym (told_other ws (tasks x) n t u
          (ap (λ (ts : List ℕ). slice_get ts n) (sym k.same) ∙ at) e))),
    ));
  }

  pub far_sent : (n t : ℕ) (e : Event) (ws : List ℕ) (x z y : S) → slice_get (tasks z) n ≡ Some t
      → sent_in t (get_or ws (32 + 8 * t) 0) ≡ e ∷ [] → AreApart (tasks z) → tasks y ≡ tasks z
      → IsSent events registered count width t e z y → Far n ws x z → Far (suc n) ws x y
  far_sent n t e ws x z y at shows apart still sent k =
      let there : slice_get (tasks x) n ≡ Some t = ap (λ (ts : List ℕ). slice_get ts n) (sym k.same) ∙ at in
      let apart_x : AreApart (tasks x) = subst (λ (ts : List ℕ). AreApart ts) k.same apart in
      record {
        longer = tail_on (events x) (events z) (events y) k.longer (e ∷ [], sent.0);
        counts = sent.1 ∙ k.counts;
        widths = sent.4 ∙ k.widths;
        same = still ∙ k.same;
        each = λ u live. (let f = k.each u live in
            by_task ((registered u y ≡ true) × (deeds_of u (events y)
            ≡ with_sends (told_of ws (take (suc n) (tasks x)) u) (deeds_of u (events x)))) t u
            (λ (same : t ≡ u). subst (λ (v : ℕ). (registered v x ≡ true) → (registered v y ≡ true)
            × (deeds_of v (events y) ≡ with_sends (told_of ws (take (suc n) (tasks x)) v) (deeds_of v (events x))))
            same (λ here. (let g = k.each t here in let s = sent.2 g.0 in
            let before : told_of ws (take n (tasks x)) t ≡ [] =
            ap (λ (b : Bool). if b then sent_in t (get_or ws (32 + 8 * t) 0) else []) (not_before (tasks x) n t apart_x there) in (
              s.0,
              s.1 ∙ ap (λ d. with_sends (e ∷ []) d) (g.1
                  ∙ ap (λ (es : List Event). with_sends es (deeds_of t (events x))) before)
                  ∙ ap (λ (es : List Event). with_sends es (deeds_of t (events x)))
                  (sym (told_next ws (tasks x) n t there ∙ shows)),
            ))) live)
            (λ (other : t ≢ u). (let s = sent.3 u (λ k. other (sym k)) f.0 in (
              s.0,
              s.1 ∙ f.1 ∙ ap (λ (es : List Event). with_sends es (deeds_of u (events x)))
                  (sym (told_other ws (tasks x) n t u there other)),
            ))));
      }

  -- a round after all have told
  pub all_told : (n : ℕ) (ws : List ℕ) (x z y : S) → length (tasks z) ≡ n
      → ((t : ℕ) → registered t z ≡ true → is_among t (tasks z) ≡ true) → Far n ws x z
      → AllSignalled events registered count width z y → AllTold events registered count width ready ws x y
  all_told n ws x z y long all k round = (
    tail_on (events x) (events z) (events y) k.longer round.0,
    round.1 ∙ k.counts,
    round.3 ∙ k.widths,
    λ t live. (let f = k.each t live in let r = round.2 t f.0 in
        let among : is_among t (take n (tasks x)) ≡ true =
        ap (λ (m : ℕ). is_among t (take m (tasks x))) (sym long) ∙ ap (λ (ts : List ℕ). is_among t (take (length (tasks z)) ts)) (sym k.same)
        ∙ among_all t (tasks z) ∙ all t f.0 in (
          r.0,
          r.1 ∙ ap with_signal f.1 ∙ ap (λ (b : Bool). with_signal (with_sends (if b then sent_in t (get_or ws (32 + 8 * t) 0) else [])
              (deeds_of t (events x)))) among,
        )),
  )

  -- the last has told one row more, and has this
  pub tells_on : (n phase : ℕ) (m m' : Me S (SeatView S)) (k : Told n phase m) (z : S) → m' ≡ (m.0, (0, z) ∷ [])
      → ready phase z → Far (suc n) k.found k.begun z → Told (n + 1) phase m'
  tells_on n phase m m' k z is stands far =
      let more : suc n ≡ n + 1 = omega arith in
      record {
        begun = k.begun;
        found = k.found;
        now = z;
        role = ap (λ q. q.0.role) is ∙ k.role;
        has = ap (λ q. q.1) is;
        long = k.long;
        at = ap (λ q. q.0.phase) is ∙ k.at;
        stands = stands;
        seen = subst (λ (h : List Event). IsTail h (events k.begun)) (sym (ap (λ q. q.0.seen) is)) k.seen;
        so_far = subst (λ (j : ℕ). Far j k.found k.begun z) more far;
      }

  -- two seats of one view began with the same
  pub began_so : (n p m q : ℕ) (a b : Me S (SeatView S)) (k : Told n p a) (j : Told m q b) → b.0 ≡ a.0
      → j.begun ≡ k.begun
  unfolding begun_of
  began_so n p m q a b k j same = ap (λ r. begun_of j.begun r) (sym j.role ∙ ap (λ v. v.role) same ∙ k.role)
