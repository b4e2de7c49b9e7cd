-- What the events of a phaser and of a finish add up to, read off what the tasks tell, in whatever order they tell it.
use Rattle.std.proofs.Common.{◌≡◌, ℕ, ◌+◌, Bool, true, false, ◌&&◌, ◌==◌, not, cond, List, [], ◌∷◌, map, refl, sym, ap, ◌∙◌, inl, inr, arith}
use Rattle.std.specs.Prelude.{is_some}
use Rattle.std.specs.List.{count_by}
use Rattle.std.proofs.lemmas.Bool.{cases_Bool, eqb-true, false≢true, and_right}
use Rattle.std.proofs.lemmas.List.Sums.{sum_by-cons}
use Rattle.phase_model.specs.declared.history.Event.{Event}
use Rattle.phase_model.specs.declared.terms.Terms.{Terms}
use Rattle.phase_model.specs.Amounts.{amount, totals, up_of, down_of}
use Rattle.phase_model.specs.Tasks.{registered_by}
use Rattle.finish_core.specs.declared.event.FinishEvent.{FinishEvent}
use Rattle.world_model.specs.declared.event.Step.{Step}
use Rattle.world_model.specs.declared.event.Step.TheVariants.{Make, Reg, Sig, Claim, Did, Pass, Send, Drop}
use Rattle.world_model.specs.declared.event.WorldEvent.{WorldEvent}
use Rattle.world_model.specs.declared.event.WorldEvent.TheVariants.{Phaser, Finish, Begin, Refuse, Fail}
use Rattle.world_model.specs.Actors.{actor}
use Rattle.world_model.specs.Due.{is_of_single}
use Rattle.world_model.specs.Parts.{phaser_past, terms_of, finish_past, event_for}
use Rattle.world_model.specs.Report.{is_sig, is_pass, is_drop, is_send}
use Rattle.run_laws.specs.Telling.{Told, told, told_of}
use Rattle.run_laws.proofs.Plain.{plus_none, swapped}
use Rattle.run_laws.proofs.Shuffles.{of_key, total}

-- ---- all that is told, each with its teller

abbrev pub all_told : List WorldEvent → List (ℕ × Told)
all_told [] = []
all_told (e ∷ w) = cond (is_of_single e) (all_told w) ((actor w e, told_of w e) ∷ all_told w)

abbrev pub teller : ℕ × Told → ℕ
teller x = x.0

abbrev pub with_teller : ℕ → List Told → List (ℕ × Told)
with_teller u xs = map (λ (x : Told). (u, x)) xs

one_told : (u v : ℕ) (x : Told) (xs : List (ℕ × Told)) (ys : List Told) (b : Bool)
    → of_key teller u xs ≡ with_teller u ys
    → of_key teller u (cond b xs ((v, x) ∷ xs)) ≡ with_teller u (cond (v == u && not b) (x ∷ ys) ys)
one_told u v x xs ys true k =
    k ∙ ap (λ c. with_teller u (cond c (x ∷ ys) ys)) (sym (and_right (v == u) false refl))
one_told u v x xs ys false k =
    elim (cases_Bool (v == u)) [
      | inl e ↦
          let is : v ≡ u = eqb-true v u e in
          rw e (ap (λ zs. (v, x) ∷ zs) k ∙ ap (λ i. (i, x) ∷ with_teller u ys) is)
      | inr e ↦ rw e k
    ]

pub told_by : (u : ℕ) (w : List WorldEvent) → of_key teller u (all_told w) ≡ with_teller u (told u w)
told_by u [] = refl
told_by u (e ∷ w) = one_told u (actor w e) (told_of w e) (all_told w) (told u w) (is_of_single e) (told_by u w)

-- ---- sums

abbrev pub weigh : (WorldEvent → ℕ) → List (ℕ × Told) → ℕ
weigh f xs = total teller (λ x r. f x.1.event + r) (λ x y r. swapped (f x.1.event) (f y.1.event) r) 0 xs

abbrev pub on_weight : ℕ → (Step → ℕ) → WorldEvent → ℕ
on_weight n by (Phaser m s) = cond (m == n) (by s) 0
on_weight n by _ = 0

-- a sum over a phaser's events, where the weight of each is its step's
pub record IsSum (sum : List Event → ℕ) (weight : Event → ℕ) (by : Step → ℕ) : Type 0 where
  pub none : sum [] ≡ 0
  pub more : (e : Event) (h : List Event) → sum (e ∷ h) ≡ weight e + sum h
  pub agrees : (terms : Terms) (h : List Event) (s : Step) → weight (event_for terms h s) ≡ by s
  pub singles : (m : ℕ) (s : Step) → is_of_single (Phaser m s) ≡ true → by s ≡ 0

module _ (sum : List Event → ℕ) (weight : Event → ℕ) (by : Step → ℕ) (k : IsSum sum weight by) (n : ℕ) where
  here_or_not : (b : Bool) (terms : Terms) (h : List Event) (s : Step)
      → sum (cond b (event_for terms h s ∷ h) h) ≡ cond b (by s) 0 + sum h
  here_or_not true terms h s = k.more (event_for terms h s) h ∙ ap (λ i. i + sum h) (k.agrees terms h s)
  here_or_not false terms h s = plus_none (sum h)

  no_weight : (b : Bool) (i x : ℕ) → i ≡ 0 → cond b i 0 + x ≡ x
  no_weight true i x e = ap (λ j. j + x) e ∙ sym (plus_none x)
  no_weight false i x e = sym (plus_none x)

  pub sum_told : (w : List WorldEvent) → sum (phaser_past n w) ≡ weigh (on_weight n by) (all_told w)
  sum_told [] = k.none
  sum_told (Phaser m s ∷ w) =
      let rest = sum_told w in
      here_or_not (m == n) (terms_of n w) (phaser_past n w) s
      ∙ (elim (cases_Bool (is_of_single (Phaser m s))) [
        | inl e ↦ rw e (no_weight (m == n) (by s) (sum (phaser_past n w)) (k.singles m s e) ∙ rest)
        | inr e ↦ rw e (ap (λ x. cond (m == n) (by s) 0 + x) rest)
      ])
  sum_told (Finish f s ∷ w) = sum_told w ∙ plus_none (weigh (on_weight n by) (all_told w))
  sum_told (Begin u s ∷ w) = sum_told w ∙ plus_none (weigh (on_weight n by) (all_told w))
  sum_told (Refuse u s x ∷ w) = sum_told w ∙ plus_none (weigh (on_weight n by) (all_told w))
  sum_told (Fail u x ∷ w) = sum_told w ∙ plus_none (weigh (on_weight n by) (all_told w))

-- the same of a finish's events
abbrev pub in_weight : ℕ → (FinishEvent → ℕ) → WorldEvent → ℕ
in_weight f weight (Finish g d) = cond (g == f) (weight d) 0
in_weight f weight _ = 0

module _ (sum : List FinishEvent → ℕ) (weight : FinishEvent → ℕ)
    (more : (e : FinishEvent) (h : List FinishEvent) → sum (e ∷ h) ≡ weight e + sum h) (f : ℕ) where
  finish_step : (b : Bool) (d : FinishEvent) (h : List FinishEvent)
      → sum (cond b (d ∷ h) h) ≡ cond b (weight d) 0 + sum h
  finish_step true d h = more d h
  finish_step false d h = plus_none (sum h)

  grouped : (a b c : ℕ) → a + (b + c) ≡ (a + b) + c
  grouped a b c = omega arith

  pub finish_told : (w : List WorldEvent)
      → sum (finish_past f w) ≡ weigh (in_weight f weight) (all_told w) + sum (finish_past f [])
  finish_told [] = plus_none (sum (finish_past f []))
  finish_told (Finish g d ∷ w) =
      finish_step (g == f) d (finish_past f w)
      ∙ (ap (λ x. cond (g == f) (weight d) 0 + x) (finish_told w)
      ∙ grouped (cond (g == f) (weight d) 0) (weigh (in_weight f weight) (all_told w)) (sum (finish_past f [])))
  finish_told (Phaser m s ∷ w) =
      finish_told w ∙ ap (λ x. x + sum (finish_past f [])) (elim (cases_Bool (is_of_single (Phaser m s))) [
        | inl e ↦ rw e refl
        | inr e ↦ rw e (plus_none (weigh (in_weight f weight) (all_told w)))
      ])
  finish_told (Begin u s ∷ w) =
      finish_told w ∙ ap (λ x. x + sum (finish_past f [])) (plus_none (weigh (in_weight f weight) (all_told w)))
  finish_told (Refuse u s x ∷ w) =
      finish_told w ∙ ap (λ x. x + sum (finish_past f [])) (plus_none (weigh (in_weight f weight) (all_told w)))
  finish_told (Fail u x ∷ w) =
      finish_told w ∙ ap (λ x. x + sum (finish_past f [])) (plus_none (weigh (in_weight f weight) (all_told w)))

-- ---- the sums of a report

-- no event of a single weighs anything
no_single : (by : Step → ℕ) → ((t : ℕ) → by (Claim t) ≡ 0) → ((t : ℕ) → by (Did t) ≡ 0) → (m : ℕ) (s : Step)
    → is_of_single (Phaser m s) ≡ true → by s ≡ 0
no_single by claim did m (Claim t) e = claim t
no_single by claim did m (Did t) e = did t
no_single by claim did m s e = absurd (false≢true e)

-- how many events are of a kind that no single's is
counted : (p : Event → Bool) (by : Step → ℕ)
    → ((terms : Terms) (h : List Event) (s : Step) → cond (p (event_for terms h s)) 1 0 ≡ by s)
    → ((t : ℕ) → by (Claim t) ≡ 0) → ((t : ℕ) → by (Did t) ≡ 0) → IsSum (count_by p) (λ e. cond (p e) 1 0) by
counted p by agrees claim did = record {
  none = refl;
  more = λ e h. sum_by-cons (λ e. cond (p e) 1 0) e h;
  agrees = agrees;
  singles = no_single by claim did;
}

abbrev pub by_registered : Step → ℕ
by_registered (Make t m o) = 1
by_registered (Reg q t m) = 1
by_registered _ = 0

pub registered_sum : IsSum (count_by (λ e. is_some (registered_by e))) (λ e. cond (is_some (registered_by e)) 1 0) by_registered
registered_sum = counted (λ e. is_some (registered_by e)) by_registered agrees (λ t. refl) (λ t. refl)
  where
    agrees : (terms : Terms) (h : List Event) (s : Step) → cond (is_some (registered_by (event_for terms h s))) 1 0 ≡ by_registered s
    agrees terms h (Claim t) = refl
    agrees terms h s = refl

abbrev pub by_sig : Step → ℕ
by_sig (Sig t x) = 1
by_sig _ = 0

pub sig_sum : IsSum (count_by (λ e. is_sig e)) (λ e. cond (is_sig e) 1 0) by_sig
sig_sum = counted (λ e. is_sig e) by_sig agrees (λ t. refl) (λ t. refl)
  where
    agrees : (terms : Terms) (h : List Event) (s : Step) → cond (is_sig (event_for terms h s)) 1 0 ≡ by_sig s
    agrees terms h (Claim t) = refl
    agrees terms h s = refl

abbrev pub by_pass : Step → ℕ
by_pass (Pass t) = 1
by_pass _ = 0

pub pass_sum : IsSum (count_by (λ e. is_pass e)) (λ e. cond (is_pass e) 1 0) by_pass
pass_sum = counted (λ e. is_pass e) by_pass agrees (λ t. refl) (λ t. refl)
  where
    agrees : (terms : Terms) (h : List Event) (s : Step) → cond (is_pass (event_for terms h s)) 1 0 ≡ by_pass s
    agrees terms h (Claim t) = refl
    agrees terms h s = refl

abbrev pub by_drop : Step → ℕ
by_drop (Drop t) = 1
by_drop _ = 0

pub drop_sum : IsSum (count_by (λ e. is_drop e)) (λ e. cond (is_drop e) 1 0) by_drop
drop_sum = counted (λ e. is_drop e) by_drop agrees (λ t. refl) (λ t. refl)
  where
    agrees : (terms : Terms) (h : List Event) (s : Step) → cond (is_drop (event_for terms h s)) 1 0 ≡ by_drop s
    agrees terms h (Claim t) = refl
    agrees terms h s = refl

abbrev pub by_send : Step → ℕ
by_send (Send t a x) = 1
by_send _ = 0

pub send_sum : IsSum (count_by (λ e. is_send e)) (λ e. cond (is_send e) 1 0) by_send
send_sum = counted (λ e. is_send e) by_send agrees (λ t. refl) (λ t. refl)
  where
    agrees : (terms : Terms) (h : List Event) (s : Step) → cond (is_send (event_for terms h s)) 1 0 ≡ by_send s
    agrees terms h (Claim t) = refl
    agrees terms h s = refl

abbrev pub by_up : Step → ℕ
by_up (Send t a x) = up_of x
by_up _ = 0

pub up_sum : IsSum (λ h. (totals h).up) (λ e. (amount e).up) by_up
up_sum =
    record {
      none = refl;
      more = λ e h. refl;
      agrees = agrees;
      singles = no_single by_up (λ t. refl) (λ t. refl);
    }
  where
    agrees : (terms : Terms) (h : List Event) (s : Step) → (amount (event_for terms h s)).up ≡ by_up s
    agrees terms h (Claim t) = refl
    agrees terms h s = refl

abbrev pub by_down : Step → ℕ
by_down (Send t a x) = down_of x
by_down _ = 0

pub down_sum : IsSum (λ h. (totals h).down) (λ e. (amount e).down) by_down
down_sum =
    record {
      none = refl;
      more = λ e h. refl;
      agrees = agrees;
      singles = no_single by_down (λ t. refl) (λ t. refl);
    }
  where
    agrees : (terms : Terms) (h : List Event) (s : Step) → (amount (event_for terms h s)).down ≡ by_down s
    agrees terms h (Claim t) = refl
    agrees terms h s = refl
