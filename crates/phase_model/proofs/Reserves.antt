-- The room that an open single's claim and report take, and the room of a drop: there is always enough.
use Rattle.std.proofs.Common.{◌≡◌, ◌⊎◌, ℕ, suc, ◌+◌, ◌<◌, ◌≤◌, Bool, true, false, ◌==◌, not, cond, if◌then◌else◌, List, [], ◌∷◌, length, refl, sym, ap, ◌∙◌, inl, inr, subst, arith}
use Rattle.std.specs.List.{list_any, filter}
use Rattle.std.proofs.lemmas.Bool.{cases_Bool, cases_order, eqb-true, eq-eqb, leb-true, le-leb, or_cases, or_from, or_left, or_right, and_parts, false≢true, false_from_ne_true}
use Rattle.phase_modes.specs.declared.limits.Limits.{Limits}
use Rattle.phase_model.specs.declared.history.Event.{Event}
use Rattle.phase_model.specs.declared.history.Event.TheVariants.{Claim, Did, Drop}
use Rattle.phase_model.specs.declared.terms.Terms.{Terms}
use Rattle.phase_model.specs.Tasks.{is_live, live_tasks, live_count}
use Rattle.phase_model.specs.Phases.{waits}
use Rattle.phase_model.specs.Singles.{Proposal, proposals, is_proposed, is_claimed, is_done, is_settled, owes_nothing, has_unclaimed, has_undone, reserve}
use Rattle.phase_model.specs.Rules.{is_permitted, is_legal, has_room}
use Rattle.phase_model.proofs.Legal.{implied}
use Rattle.phase_model.proofs.LiveTasks.{has, has-live_tasks, live_tasks-drop, has_room_now}
use Rattle.phase_model.proofs.SingleRules.{claim_follows, did_follows}
use Rattle.phase_model.proofs.Proposers.{proposer_proposes}
use Rattle.phase_model.proofs.Proposals.{open_is_last, earlier_are_done}
use Rattle.phase_model.proofs.Claims.{claimer_claims, claimed_is_proposed, done_is_claimed}

-- where no phase that is proposed for passes the test, no proposal's phase does
none_passes : (f : ℕ → Bool) (xs : List Proposal)
    → ((q : ℕ) → list_any (λ x. x.phase == q) xs ≡ true → f q ≡ false) → list_any (λ x. f x.phase) xs ≡ false
none_passes f [] each = refl
none_passes f (x ∷ xs) each =
    or_from (f x.phase) (list_any (λ y. f y.phase) xs)
    (each x.phase (or_left (x.phase == x.phase) (list_any (λ y. y.phase == x.phase) xs)
    (eq-eqb x.phase x.phase refl)))
    (none_passes f xs (λ q k. each q (or_right (x.phase == q) (list_any (λ y. y.phase == q) xs) k)))

-- where one phase that is proposed for passes the test, a proposal's phase does
some_passes : (f : ℕ → Bool) (p : ℕ) (xs : List Proposal) → list_any (λ x. x.phase == p) xs ≡ true
    → f p ≡ true → list_any (λ x. f x.phase) xs ≡ true
some_passes f p [] s e = absurd cc
some_passes f p (x ∷ xs) s e =
    elim (or_cases (x.phase == p) (list_any (λ y. y.phase == p) xs) s) [
      | inl here ↦
          or_left (f x.phase) (list_any (λ y. f y.phase) xs)
          (subst (λ q. f q ≡ true) (sym (eqb-true x.phase p here)) e)
      | inr there ↦ or_right (f x.phase) (list_any (λ y. f y.phase) xs) (some_passes f p xs there e)
    ]

-- a history where each single is done keeps nothing back
pub reserve_none : (l : Limits) (terms : Terms) (h : List Event) → is_legal l terms h ≡ true
    → ((p : ℕ) → is_settled p h ≡ true) → reserve h ≡ 0
reserve_none l terms h k all =
    let done : (q : ℕ) → is_proposed q h ≡ true → is_done q h ≡ true =
    λ q s. implied (is_proposed q h) (is_done q h) (all q) s in
    let claimed : has_unclaimed h (proposals h) ≡ false =
    none_passes (λ q. not (is_claimed q h)) (proposals h)
    (λ q s. ap (λ b. not b) (done_is_claimed l terms h k q (done q s)))
    in
    let undone : has_undone h (proposals h) ≡ false =
    none_passes (λ q. not (is_done q h)) (proposals h) (λ q s. ap (λ b. not b) (done q s)) in
    rw (claimed, undone) refl

-- beside an open single's phase, each phase that is proposed for is done
only_open : (l : Limits) (terms : Terms) (h : List Event) → is_legal l terms h ≡ true → (p q : ℕ)
    → is_proposed p h ≡ true → is_done p h ≡ false → is_proposed q h ≡ true → (p ≡ q) ⊎ (is_done q h ≡ true)
only_open l terms h k p q s d e =
    elim (cases_order p q) [
      | inl same ↦ inl same
      | inr (inl less) ↦ absurd (false≢true (sym (open_is_last l terms h k p q s d less) ∙ e))
      | inr (inr more) ↦ inr (earlier_are_done l terms h k p q s e more)
    ]

-- where nothing but phase p may lack a claim in g, nothing lacks one where p has it
pub none_unclaimed : (l : Limits) (terms : Terms) (h g : List Event) → is_legal l terms h ≡ true → (p : ℕ)
    → is_proposed p h ≡ true → is_done p h ≡ false
    → is_claimed p g ≡ true → ((q : ℕ) → is_claimed q h ≡ true → is_claimed q g ≡ true)
    → has_unclaimed g (proposals h) ≡ false
none_unclaimed l terms h g k p s d c later =
    none_passes (λ q. not (is_claimed q g)) (proposals h) (λ q e.
    elim (only_open l terms h k p q s d e) [
      | inl same ↦ ap (λ b. not b) (subst (λ r. is_claimed r g ≡ true) same c)
      | inr done ↦ ap (λ b. not b) (later q (done_is_claimed l terms h k q done))
    ])

-- an open single is not done
is_undone : (h : List Event) (p : ℕ) → is_proposed p h ≡ true → is_done p h ≡ false
    → has_undone h (proposals h) ≡ true
is_undone h p s d = some_passes (λ q. not (is_done q h)) p (proposals h) s (ap (λ b. not b) d)

-- an open single keeps back room for its claim and its report, and for the report alone once it is claimed
pub reserve_open : (l : Limits) (terms : Terms) (h : List Event) → is_legal l terms h ≡ true → (p : ℕ)
    → is_proposed p h ≡ true → is_done p h ≡ false
    → reserve h ≡ (if is_claimed p h then 1 else 2)
reserve_open l terms h k p s d =
    elim (cases_Bool (is_claimed p h)) [
      | inl c ↦
          let claimed : has_unclaimed h (proposals h) ≡ false =
          none_unclaimed l terms h h k p s d c (λ q e. e) in
          rw (c, claimed, is_undone h p s d) refl
      | inr c ↦
          let unclaimed : has_unclaimed h (proposals h) ≡ true =
          some_passes (λ q. not (is_claimed q h)) p (proposals h) s (ap (λ b. not b) c) in
          rw (c, unclaimed) refl
    ]

-- a claim takes one event and one from what is kept back
pub claim_has_room : (l : Limits) (terms : Terms) (h : List Event) → is_legal l terms h ≡ true → (t : ℕ)
    → is_permitted l terms h (Claim t) ≡ true → has_room l (Claim t ∷ h) ≡ true
claim_has_room l terms h k t g =
    let f = claim_follows l terms h t g in
    let p = waits t h in
    let s : is_proposed p h ≡ true = proposer_proposes t p h f.proposed in
    let d : is_done p h ≡ false =
    false_from_ne_true (is_done p h)
    (λ e. false≢true (sym f.unclaimed ∙ done_is_claimed l terms h k p e)) in
    let two : reserve h ≡ 2 = reserve_open l terms h k p s d ∙ ap (λ b. if b then 1 else 2) f.unclaimed in
    let claimed : has_unclaimed (Claim t ∷ h) (proposals h) ≡ false =
    none_unclaimed l terms h (Claim t ∷ h) k p s d (or_left (p == p) (is_claimed p h) (eq-eqb p p refl))
    (λ q e. or_right (p == q) (is_claimed q h) e)
    in
    let one : reserve (Claim t ∷ h) ≡ 1 = rw (claimed, is_undone h p s d) refl in
    let now = leb-true (length h + live_count h + reserve h) l.history (has_room_now l terms h k) in
    le-leb (suc (length h) + live_count h + reserve (Claim t ∷ h)) l.history (omega (arith, now, one, two))

-- so does a report
pub did_has_room : (l : Limits) (terms : Terms) (h : List Event) → is_legal l terms h ≡ true → (t : ℕ)
    → is_permitted l terms h (Did t) ≡ true → has_room l (Did t ∷ h) ≡ true
did_has_room l terms h k t g =
    let f = did_follows l terms h t g in
    let p = waits t h in
    let c : is_claimed p h ≡ true = claimer_claims t p h f.claimed in
    let s : is_proposed p h ≡ true = claimed_is_proposed l terms h k p c in
    let one : reserve h ≡ 1 = reserve_open l terms h k p s f.undone ∙ ap (λ b. if b then 1 else 2) c in
    let claimed : has_unclaimed (Did t ∷ h) (proposals h) ≡ false =
    none_unclaimed l terms h h k p s f.undone c (λ q e. e) in
    let done : has_undone (Did t ∷ h) (proposals h) ≡ false =
    none_passes (λ q. not (is_done q (Did t ∷ h))) (proposals h) (λ q e.
    elim (only_open l terms h k p q s f.undone e) [
      | inl same ↦ ap (λ b. not b) (or_left (p == q) (is_done q h) (eq-eqb p q same))
      | inr early ↦ ap (λ b. not b) (or_right (p == q) (is_done q h) early)
    ])
    in
    let none : reserve (Did t ∷ h) ≡ 0 = rw (claimed, done) refl in
    let now = leb-true (length h + live_count h + reserve h) l.history (has_room_now l terms h k) in
    le-leb (suc (length h) + live_count h + reserve (Did t ∷ h)) l.history (omega (arith, now, none, one))

-- a filter leaves no more than there was
filter_within : (f : ℕ → Bool) (ts : List ℕ) → length (filter f ts) ≤ length ts
filter_within f [] = omega arith
filter_within f (u ∷ ts) =
    elim (f u) as (λ b. length (cond b (u ∷ filter f ts) (filter f ts)) ≤ suc (length ts)) [
      | true ↦ omega (arith, filter_within f ts)
      | false ↦ omega (arith, filter_within f ts)
    ]

-- who is taken from a list leaves it shorter
taken : (t : ℕ) (ts : List ℕ) → has t ts ≡ true → length (filter (λ u. not (t == u)) ts) < length ts
taken t [] k = absurd cc
taken t (u ∷ ts) k =
    let f : ℕ → Bool = λ v. not (t == v) in
    elim (or_cases (u == t) (has t ts) k) [
      | inl e ↦
          let gone : f u ≡ false = ap (λ b. not b) (eq-eqb t u (sym (eqb-true u t e))) in
          rw gone (omega (arith, filter_within f ts))
      | inr e ↦
          elim (f u) as (λ b. length (cond b (u ∷ filter f ts) (filter f ts)) < suc (length ts)) [
            | true ↦ omega (arith, taken t ts e)
            | false ↦ omega (arith, taken t ts e)
          ]
    ]

-- a drop takes one event and one live task
pub drop_has_room : (l : Limits) (terms : Terms) (h : List Event) → is_legal l terms h ≡ true → (t : ℕ)
    → is_permitted l terms h (Drop t) ≡ true → has_room l (Drop t ∷ h) ≡ true
drop_has_room l terms h k t g =
    let live = (and_parts (is_live t h) (owes_nothing t h) g).0 in
    let fewer : live_count (Drop t ∷ h) < live_count h =
    rw live_tasks-drop (taken t (live_tasks h) (has-live_tasks t h ∙ live)) in
    let now = leb-true (length h + live_count h + reserve h) l.history (has_room_now l terms h k) in
    le-leb (suc (length h) + live_count (Drop t ∷ h) + reserve h) l.history (omega (arith, now, fewer))
