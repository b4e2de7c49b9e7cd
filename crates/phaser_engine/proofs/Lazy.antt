-- Folding late loses nothing: what was sent is what was folded together with what live tasks still hold.
use Rattle.std.proofs.Common.{◌≡◌, ℕ, ◌+◌, ◌==◌, nat_lt, true, false, ◌&&◌, not, cond, List, [], ◌∷◌, ◌++◌, Option, Some, None, ℤ, refl, ap, sym, ◌∙◌, arith, subst, inl, inr, length}
use Rattle.std.proofs.lemmas.Bool.{cases_Bool, eq-eqb, eqb-true, ne_eqb, and_parts, and_left, false≢true, not-true}
use Rattle.phase_modes.specs.declared.limits.Limits.{Limits}
use Rattle.phase_modes.specs.Mode.{can_signal}
use Rattle.phase_modes.specs.Lists.{is_empty}
use Rattle.phase_model.specs.declared.history.Event.{Event}
use Rattle.phase_model.specs.declared.history.Event.TheVariants.{Make, Reg, Sig, Claim, Did, Pass, Send, Look as Looked, Drop}
use Rattle.std.specs.Option.{option_map}
use Rattle.phase_model.specs.declared.op.Op.{Op}
use Rattle.phase_model.specs.declared.terms.Terms.{Terms}
use Rattle.phase_model.specs.declared.op.Look.{Look}
use Rattle.phase_model.specs.Tasks.{has_mode, is_live, is_registered, is_dropped, live_tasks}
use Rattle.phase_model.specs.Phases.{signals}
use Rattle.phase_model.specs.Rules.{is_legal}
use Rattle.phase_model.specs.Singles.{owes_nothing}
use Rattle.phase_model.specs.Values.{sent, fold}
use Rattle.phase_model.proofs.Closing.{HaveSignalled, signalled_from_closed}
use Rattle.phase_model.proofs.Legal.{last_follows, reg_follows, sig_follows}
use Rattle.phase_model.proofs.LiveTasks.{has, live_apart, has-live_tasks, has-filter, live_tasks-reg, live_tasks-drop, empty_is}
use Rattle.acc_cells.specs.declared.cell.Cell.{Cell}
use Rattle.acc_cells.specs.Cells.{tally, empty_cell, cell_with, cell_joined, fold_of_cell}
use Rattle.acc_cells.proofs.Tallies.{tally-append, joined_nothing, joined_more, fold_of_cell-tally}
use Rattle.phaser_engine.specs.Lazy.{unfolded, folded, LateFoldsAreFolds}
use Rattle.phaser_engine.proofs.Joining.{pool, pool_same, pool_take, pool_empty, without, joined_first, joined_grouped}

-- what t still holds for phase p
abbrev pub share : ℕ → ℕ → List Event → ℕ → Cell
share a p h t = cond (signals t h == p) (tally (unfolded t a h)) empty_cell

-- nobody who can't signal holds a value
pub holds_nothing : (l : Limits) (terms : Terms) (h : List Event) → is_legal l terms h ≡ true → (t a : ℕ)
    → has_mode can_signal t h ≡ false → unfolded t a h ≡ []
holds_nothing l terms [] k t a m = refl
holds_nothing l terms (Make u n ∷ h) k t a m =
    elim (cases_Bool (u == t)) [
      | inl e ↦ rw e refl
      | inr e ↦ rw e (holds_nothing l terms h (last_follows l terms h (Make u n) k).before t a (rw e at m))
    ]
holds_nothing l terms (Reg q u n ∷ h) k t a m =
    elim (cases_Bool (u == t)) [
      | inl e ↦ rw e refl
      | inr e ↦ rw e (holds_nothing l terms h (last_follows l terms h (Reg q u n) k).before t a (rw e at m))
    ]
holds_nothing l terms (Sig u x ∷ h) k t a m =
    elim (u == t) as (λ b. cond b [] (unfolded t a h) ≡ []) [
      | true ↦ refl
      | false ↦ holds_nothing l terms h (last_follows l terms h (Sig u x) k).before t a m
    ]
holds_nothing l terms (Drop u ∷ h) k t a m =
    elim (u == t) as (λ b. cond b [] (unfolded t a h) ≡ []) [
      | true ↦ refl
      | false ↦ holds_nothing l terms h (last_follows l terms h (Drop u) k).before t a m
    ]
holds_nothing l terms (Send u b v ∷ h) k t a m =
    let f = last_follows l terms h (Send u b v) k in
    elim (cases_Bool (u == t)) [
      | inl e ↦
          let able : has_mode can_signal u h ≡ true =
          (and_parts (is_live u h) (has_mode can_signal u h)
          (and_parts (is_live u h && has_mode can_signal u h) (nat_lt b (length terms.ops)) f.permitted).0).1 in
          absurd (false≢true (sym m ∙ (ap (λ v. has_mode can_signal v h) (sym (eqb-true u t e)) ∙ able)))
      | inr e ↦ rw e (holds_nothing l terms h f.before t a m)
    ]
holds_nothing l terms (Claim u ∷ h) k t a m =
    holds_nothing l terms h (last_follows l terms h (Claim u) k).before t a m
holds_nothing l terms (Did u ∷ h) k t a m = holds_nothing l terms h (last_follows l terms h (Did u) k).before t a m
holds_nothing l terms (Pass u ∷ h) k t a m =
    holds_nothing l terms h (last_follows l terms h (Pass u) k).before t a m
holds_nothing l terms (Looked u b x ∷ h) k t a m =
    holds_nothing l terms h (last_follows l terms h (Looked u b x) k).before t a m

-- taking a task's share out of the pool into the folded ones changes nothing
taken_over : (a p : ℕ) (h : List Event) (u : ℕ) (rest : Cell)
    → cell_joined (cell_joined (share a p h u) rest) (tally (folded a p h))
    ≡ cell_joined rest (tally (cond (signals u h == p) (unfolded u a h ++ folded a p h) (folded a p h)))
taken_over a p h u rest =
    elim (signals u h == p) as (λ b.
    cell_joined (cell_joined (cond b (tally (unfolded u a h)) empty_cell) rest) (tally (folded a p h))
    ≡ cell_joined rest (tally (cond b (unfolded u a h ++ folded a p h) (folded a p h)))) [
      | true ↦
          joined_grouped (tally (unfolded u a h)) rest (tally (folded a p h))
          ∙ (joined_first (tally (unfolded u a h)) rest (tally (folded a p h))
          ∙ ap (λ c. cell_joined rest c) (sym (tally-append (unfolded u a h) (folded a p h))))
      | false ↦ ap (λ c. cell_joined c (tally (folded a p h))) (joined_nothing rest)
    ]

apart_from : (u t : ℕ) (ts : List ℕ) → has t (without u ts) ≡ true → (u == t) ≡ false
apart_from u t ts k =
    not-true (u == t) (and_parts (not (u == t)) (has t ts) (sym (has-filter (λ v. not (u == v)) t ts) ∙ k)).0

-- the empty pool joins to nothing
pool_of_one : (a p : ℕ) (g : List Event) (u : ℕ) → share a p g u ≡ empty_cell
    → pool (share a p g) (u ∷ []) ≡ empty_cell
pool_of_one a p g u none = ap (λ c. cell_joined c empty_cell) none ∙ joined_nothing empty_cell

-- one who holds nothing has no share
no_share : (a p : ℕ) (g : List Event) (u : ℕ) → unfolded u a g ≡ [] → share a p g u ≡ empty_cell
no_share a p g u none =
    elim (signals u g == p) as (λ b. cond b (tally (unfolded u a g)) empty_cell ≡ empty_cell) [
      | true ↦ ap (λ vs. tally vs) none
      | false ↦ refl
    ]

-- the step of a signal and of a drop: u folds what it holds, and holds nothing then
folds_now : (l : Limits) (terms : Terms) (h : List Event) (u a p : ℕ) → is_legal l terms h ≡ true
    → is_live u h ≡ true
    → tally (sent a p h) ≡ cell_joined (pool (share a p h) (live_tasks h)) (tally (folded a p h))
    → (after : Cell) → after ≡ pool (share a p h) (without u (live_tasks h))
    → tally (sent a p h)
    ≡ cell_joined after (tally (cond (signals u h == p) (unfolded u a h ++ folded a p h) (folded a p h)))
folds_now l terms h u a p k live before after is =
    let ts = live_tasks h in
    let known : has u ts ≡ true = has-live_tasks u h ∙ live in
    let rest = pool (share a p h) (without u ts) in
    before
    ∙ (ap (λ c. cell_joined c (tally (folded a p h)))
    (pool_take (share a p h) u ts (live_apart l terms h k) known)
    ∙ (taken_over a p h u rest
    ∙ ap (λ c.
    cell_joined c (tally (cond (signals u h == p) (unfolded u a h ++ folded a p h) (folded a p h))))
    (sym is)))

-- a value more in one share is a value more in the pool
sent_more : (f g : ℕ → Cell) (u : ℕ) (v : ℤ) (ts : List ℕ) (rest : Cell) → pool f ts ≡ cell_joined (f u) rest
    → pool g ts ≡ cell_joined (g u) rest → g u ≡ cell_with v (f u)
    → pool g ts ≡ cell_with v (pool f ts)
sent_more f g u v ts rest old new more =
    new ∙ (ap (λ c. cell_joined c rest) more ∙ (joined_more v (f u) rest ∙ ap (λ c. cell_with v c) (sym old)))

-- what was sent to a for p is what was folded, and what the live tasks hold
pub nothing_lost : (l : Limits) (terms : Terms) (h : List Event) → is_legal l terms h ≡ true → (a p : ℕ)
    → tally (sent a p h) ≡ cell_joined (pool (share a p h) (live_tasks h)) (tally (folded a p h))
nothing_lost l terms [] k a p = sym (joined_nothing empty_cell)
nothing_lost l terms (Make u m ∷ h) k a p =
    let f = last_follows l terms h (Make u m) k in
    let empty : h ≡ [] = empty_is h (and_parts (is_empty h) (nat_lt u l.tasks) f.permitted).0 in
    let after = Make u m ∷ [] in
    let live : live_tasks after ≡ u ∷ [] = rw (eq-eqb u u refl) refl in
    let none : share a p after u ≡ empty_cell = no_share a p after u (rw (eq-eqb u u refl) refl) in
    let pooled : pool (share a p after) (live_tasks after) ≡ empty_cell =
    ap (λ ts. pool (share a p after) ts) live ∙ pool_of_one a p after u none in
    let alone : empty_cell ≡ cell_joined (pool (share a p after) (live_tasks after)) empty_cell =
    sym (ap (λ c. cell_joined c empty_cell) pooled ∙ joined_nothing empty_cell) in
    subst (λ (g : List Event). tally (sent a p g)
    ≡ cell_joined (pool (share a p (Make u m ∷ g)) (live_tasks (Make u m ∷ g))) (tally (folded a p g)))
    (sym empty) alone
nothing_lost l terms (Reg q u m ∷ h) k a p =
    let f = last_follows l terms h (Reg q u m) k in
    let g = reg_follows l terms h q u m f.permitted in
    let after = Reg q u m ∷ h in
    let ts = live_tasks h in
    let live : live_tasks after ≡ u ∷ ts = live_tasks-reg l terms h q u m f.before g.unknown in
    let gone : has u ts ≡ false =
    has-live_tasks u h ∙ and_left (is_registered u h) (not (is_dropped u h)) g.unknown in
    let none : share a p after u ≡ empty_cell = no_share a p after u (rw (eq-eqb u u refl) refl) in
    let others : pool (share a p after) ts ≡ pool (share a p h) ts =
    pool_same (share a p after) (share a p h) ts (λ t k. let other : (u == t) ≡ false =
    ne_eqb u t (λ e. false≢true (sym gone ∙ (ap (λ v. has v ts) e ∙ k))) in rw other refl)
    in
    let pooled : pool (share a p after) (live_tasks after) ≡ pool (share a p h) ts =
    ap (λ us. pool (share a p after) us) live
    ∙ (ap (λ c. cell_joined c (pool (share a p after) ts)) none
    ∙ (joined_nothing (pool (share a p after) ts) ∙ others))
    in
    nothing_lost l terms h f.before a p ∙ ap (λ c. cell_joined c (tally (folded a p h))) (sym pooled)
nothing_lost l terms (Sig u x ∷ h) k a p =
    let f = last_follows l terms h (Sig u x) k in
    let g = sig_follows l terms h u x f.permitted in
    let ts = live_tasks h in
    let known : has u ts ≡ true = has-live_tasks u h ∙ g.live in
    let after = Sig u x ∷ h in
    let none : share a p after u ≡ empty_cell = no_share a p after u (rw (eq-eqb u u refl) refl) in
    let others : pool (share a p after) (without u ts) ≡ pool (share a p h) (without u ts) =
    pool_same (share a p after) (share a p h) (without u ts) (λ t k. rw (apart_from u t ts k) refl)
    in
    let pooled : pool (share a p after) ts ≡ pool (share a p h) (without u ts) =
    pool_take (share a p after) u ts (live_apart l terms h f.before) known
    ∙ (ap (λ c. cell_joined c (pool (share a p after) (without u ts))) none
    ∙ (joined_nothing (pool (share a p after) (without u ts)) ∙ others))
    in
    folds_now l terms h u a p f.before g.live (nothing_lost l terms h f.before a p)
    (pool (share a p after) ts) pooled
nothing_lost l terms (Drop u ∷ h) k a p =
    let f = last_follows l terms h (Drop u) k in
    let alive : is_live u h ≡ true = (and_parts (is_live u h) (owes_nothing u h) f.permitted).0 in
    let ts = live_tasks h in
    let after = Drop u ∷ h in
    let others : pool (share a p after) (without u ts) ≡ pool (share a p h) (without u ts) =
    pool_same (share a p after) (share a p h) (without u ts) (λ t k. rw (apart_from u t ts k) refl)
    in
    folds_now l terms h u a p f.before alive (nothing_lost l terms h f.before a p)
    (pool (share a p after) (live_tasks after))
    (ap (λ us. pool (share a p after) us) (live_tasks-drop h u) ∙ others)
nothing_lost l terms (Send u b v ∷ h) k a p =
    let f = last_follows l terms h (Send u b v) k in
    let allowed = and_parts (is_live u h && has_mode can_signal u h) (nat_lt b (length terms.ops)) f.permitted in
    let alive : is_live u h ≡ true = (and_parts (is_live u h) (has_mode can_signal u h) allowed.0).0 in
    let ts = live_tasks h in
    let known : has u ts ≡ true = has-live_tasks u h ∙ alive in
    let after = Send u b v ∷ h in
    let apart = live_apart l terms h f.before in
    let rest = pool (share a p h) (without u ts) in
    let others : pool (share a p after) (without u ts) ≡ rest =
    pool_same (share a p after) (share a p h) (without u ts) (λ t k. rw (apart_from u t ts k) refl)
    in
    let old : pool (share a p h) ts ≡ cell_joined (share a p h u) rest =
    pool_take (share a p h) u ts apart known in
    let new : pool (share a p after) ts ≡ cell_joined (share a p after u) rest =
    pool_take (share a p after) u ts apart known ∙ ap (λ c. cell_joined (share a p after u) c) others in
    let before = nothing_lost l terms h f.before a p in
    elim (cases_Bool (b == a && signals u h == p)) [
      | inl e ↦
          let parts = and_parts (b == a) (signals u h == p) e in
          let more : share a p after u ≡ cell_with v (share a p h u) =
          rw (eq-eqb u u refl, parts.0, parts.1) refl in
          let pooled : pool (share a p after) ts ≡ cell_with v (pool (share a p h) ts) =
          sent_more (share a p h) (share a p after) u v ts rest old new more in
          rw e
          (ap (λ c. cell_with v c) before
          ∙ (sym (joined_more v (pool (share a p h) ts) (tally (folded a p h)))
          ∙ ap (λ c. cell_joined c (tally (folded a p h))) (sym pooled)))
      | inr e ↦
          let same : share a p after u ≡ share a p h u = unmoved b a u v h p e in
          let pooled : pool (share a p after) ts ≡ pool (share a p h) ts =
          new ∙ (ap (λ c. cell_joined c rest) same ∙ sym old) in
          rw e (before ∙ ap (λ c. cell_joined c (tally (folded a p h))) (sym pooled))
    ]
  where
    unmoved : (b a u : ℕ) (v : ℤ) (h : List Event) (p : ℕ) → (b == a && signals u h == p) ≡ false
        → share a p (Send u b v ∷ h) u ≡ share a p h u
    unmoved b a u v h p e =
        elim (cases_Bool (b == a)) [
          | inl here ↦
              let far : (signals u h == p) ≡ false = sym (ap (λ c. c && (signals u h == p)) here) ∙ e in
              rw (eq-eqb u u refl, here, far) refl
          | inr there ↦ rw (eq-eqb u u refl, there) refl
        ]
nothing_lost l terms (Claim u ∷ h) k a p = nothing_lost l terms h (last_follows l terms h (Claim u) k).before a p
nothing_lost l terms (Did u ∷ h) k a p = nothing_lost l terms h (last_follows l terms h (Did u) k).before a p
nothing_lost l terms (Pass u ∷ h) k a p = nothing_lost l terms h (last_follows l terms h (Pass u) k).before a p
nothing_lost l terms (Looked u b x ∷ h) k a p =
    nothing_lost l terms h (last_follows l terms h (Looked u b x) k).before a p

-- where a phase is closed, no live task holds a value for it
pub closed_share : (l : Limits) (terms : Terms) (h : List Event) → is_legal l terms h ≡ true → (p : ℕ)
    → HaveSignalled (p + 1) h → (a t : ℕ) → is_live t h ≡ true → share a p h t ≡ empty_cell
closed_share l terms h k p past a t live =
    elim (cases_Bool (has_mode can_signal t h)) [
      | inl able ↦
          let far : (signals t h == p) ≡ false =
          ne_eqb (signals t h) p (λ e. omega (arith, e, past t live able)) in
          rw far refl
      | inr none ↦ no_share a p h t (holds_nothing l terms h k t a none)
    ]

-- what was sent for a closed phase is what was folded
pub closed_tally : (l : Limits) (terms : Terms) (h : List Event) → is_legal l terms h ≡ true → (p : ℕ)
    → HaveSignalled (p + 1) h → (a : ℕ) → tally (sent a p h) ≡ tally (folded a p h)
closed_tally l terms h k p past a =
    let none : pool (share a p h) (live_tasks h) ≡ empty_cell =
    pool_empty (share a p h) (live_tasks h)
    (λ t e. closed_share l terms h k p past a t (sym (has-live_tasks t h) ∙ e)) in
    nothing_lost l terms h k a p
    ∙ (ap (λ c. cell_joined c (tally (folded a p h))) none ∙ joined_nothing (tally (folded a p h)))

-- so a reader sees what was sent
pub folds_as_sent : (l : Limits) (terms : Terms) (h : List Event) → is_legal l terms h ≡ true → (p : ℕ)
    → HaveSignalled (p + 1) h → (a : ℕ) (op : Op) → fold op (folded a p h) ≡ fold op (sent a p h)
folds_as_sent l terms h k p past a op =
    sym (fold_of_cell-tally op (folded a p h))
    ∙ (ap (λ c. fold_of_cell op c) (sym (closed_tally l terms h k p past a))
    ∙ fold_of_cell-tally op (sent a p h))

pub same_folds : (f g : Op → Look ℤ) (o : Option Op) → ((op : Op) → f op ≡ g op)
    → option_map f o ≡ option_map g o
same_folds f g None same = refl
same_folds f g (Some op) same = ap (λ x. Some x) (same op)

pub late_folds : LateFoldsAreFolds
late_folds l terms h k p closed op a = sym (folds_as_sent l terms h k p (signalled_from_closed p h closed) a op)
