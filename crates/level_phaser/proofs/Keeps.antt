-- What each step that keeps the rule of the table is shown by.
use Rattle.std.proofs.Common.{◌≡◌, ◌≢◌, ◌⊎◌, ⊎_elim, inl, inr, ℕ, zero, suc, ◌+◌, ◌<◌, ◌≤◌, eqb, List, [], ◌∷◌, ◌++◌, Bool, true, false, length, get_or, get_or-set_other, set, sym, refl, ap, ◌∙◌, subst, arith, append_assoc, if◌then◌else◌}
use mathlib.Core.Logic.{dite}
use mathlib.Core.Option.{Option, some, none, some-injective, some-ne-none}
use native.Mathlib.Decide.{ℕ_discrete}
use lib.ListN.{get_elem?}
use lib.Seq.{set-get_or}
use Rattle.atomic_table.specs.Table.{State, Me}
use Rattle.atomic_table.proofs.Lists.{at_set, set_again, set_else}
use Rattle.level_phaser.specs.declared.view.SeatView.{SeatView}
use Rattle.level_phaser.specs.declared.view.SeatedTask.{SeatedTask}
use Rattle.level_phaser.specs.declared.view.Role.{Role}
use Rattle.level_phaser.specs.declared.view.Role.TheVariants.{Stands, Came, Last, Holder, Gone}
use Rattle.phase_model.specs.declared.history.Event.{Event}
use Rattle.phase_model.specs.declared.call.Call.{Call}
use Rattle.phase_model.specs.Replies.{Reply}
use Rattle.told_history.specs.Tails.{IsTail}
use Rattle.level_phaser.specs.Deeds.{deeds_of}
use Rattle.level_phaser.specs.Seen.{AreSeated}
use Rattle.level_phaser.specs.inner.Board.{busy, total, parts_of, missing_in, missing, Each, FitsIn, Fits, Homes, IsLevel}
use Rattle.level_phaser.specs.inner.Board.{Rows, IsShut, IsUnopened}
use Rattle.level_phaser.specs.Views.{idle_view, opening_view}
use Rattle.std.proofs.lemmas.Bool.{false≢true}
use Rattle.level_phaser.specs.inner.Folds.{Begins}
use Rattle.level_phaser.proofs.Totals.{total_set}

pub tail_on : (a b c : List Event) → IsTail a b → IsTail b c → IsTail a c
tail_on a b c p q = (q.0 ++ p.0, q.1 ∙ ap (λ (z : List Event). q.0 ++ z) p.1 ∙ sym (append_assoc q.0 p.0 a))

pub tail_same : (a : List Event) → IsTail a a
tail_same a = ([], refl)

pub total_le : {A : Type 0} (f g : A → ℕ) (l : List A) → ((x : A) → f x ≤ g x) → total f l ≤ total g l
total_le f g [] less = omega arith
total_le f g (x ∷ xs) less = let a = less x in let b = total_le f g xs less in omega arith

pub if_le : (b : Bool) (n : ℕ) → (if b then 0 else n) ≤ n
if_le true n = omega arith
if_le false n = omega arith

pub set_same : {A : Type 0} (l : List A) (i : ℕ) (a b : A) → get_elem? l i ≡ some a → get_elem? (set l i b) i ≡ some b
set_same [] i a b e = absurd (some-ne-none a (sym e))
set_same (x ∷ xs) zero a b e = refl
set_same (x ∷ xs) (suc i) a b e = set_same xs i a b e

-- the two cases of a word
pub split_word : (held : Bool) (word n : ℕ) → word ≡ n + (if held then busy else 0) → n < 4294967296
    → ((word < busy) × (word ≡ n) × (held ≡ false)) ⊎ ((busy ≤ word) × (word ≡ n + busy) × (held ≡ true))
split_word true word n is few = inr (omega arith, is, refl)
split_word false word n is few = inl (omega arith, omega arith, refl)

abbrev pick : {P : Type 0} → Dec P → ℕ → ℕ → ℕ
pick (yes _) a b = a
pick (no _) a b = b

pub put : (ℕ → ℕ) → ℕ → ℕ → ℕ → ℕ
put f i c j = pick (ℕ_discrete j i) c (f j)

pub put_here : (f : ℕ → ℕ) (i c : ℕ) → put f i c i ≡ c
unfolding put
put_here f i c = go (ℕ_discrete i i)
  where
    go : (d : Dec (i ≡ i)) → pick d c (f i) ≡ c
    go (yes _) = refl
    go (no n) = absurd (n refl)

pub put_else : (f : ℕ → ℕ) (i c j : ℕ) → j ≢ i → put f i c j ≡ f j
unfolding put
put_else f i c j other = go (ℕ_discrete j i)
  where
    go : (d : Dec (j ≡ i)) → pick d c (f j) ≡ f j
    go (yes e) = absurd (other e)
    go (no _) = refl

module _ {S : Type 0} where
  abbrev pub is_holder : Role S → Bool
  is_holder Stands = false
  is_holder Came = false
  is_holder (Last x ws) = false
  is_holder (Holder x) = true
  is_holder Gone = false

  -- if the seat is that of who has closed the table, it stays so
  abbrev pub StaysKeeper : SeatView S → SeatView S → Type 0
  StaysKeeper v w = (x : S) → v.role ≡ Holder x → v.tasks ≡ [] → (w.role ≡ Holder x) × (w.tasks ≡ [])

  pub no_keeper : (v w : SeatView S) (role : Role S) → v.role ≡ role → is_holder role ≡ false → StaysKeeper v w
  no_keeper v w role is other x e none_of = absurd (false≢true (sym other ∙ ap is_holder (sym is ∙ e)))

  pub some_tasks : (v w : SeatView S) → 0 < length v.tasks → StaysKeeper v w
  some_tasks v w some_of x e none_of = absurd (let n : length v.tasks ≡ 0 = ap length none_of in omega arith)

  -- a seat in this role is there once the table is open
  abbrev pub IsInRole : Role S → ℕ → Type 0
  IsInRole Stands parts = 0 < parts
  IsInRole Came parts = 0 < parts
  IsInRole (Last x ws) parts = Unit {0}
  IsInRole (Holder x) parts = Unit {0}
  IsInRole Gone parts = Unit {0}

  abbrev pub IsIn : SeatView S → Type 0
  IsIn v = IsInRole v.role (length v.tasks)

  pub is_in : (v : SeatView S) (role : Role S) → v.role ≡ role → IsInRole role (length v.tasks) → IsIn v
  is_in v role is k = subst (λ (z : Role S). IsInRole z (length v.tasks)) (sym is) k

  alone : (views : List (SeatView S)) (u v : SeatView S) (id : ℕ) → views ≡ u ∷ [] → get_elem? views id ≡ some v → v ≡ u
  alone views u v zero is at = some-injective v u (sym at ∙ ap (λ vs. get_elem? vs 0) is)
  alone views u v (suc i) is at = absurd (some-ne-none v (sym at ∙ ap (λ vs. get_elem? vs (suc i)) is))

  -- so the table is open
  pub not_unopened : (s : State S (SeatView S)) (id : ℕ) (v : SeatView S) → IsIn v → get_elem? s.views id ≡ some v
      → IsUnopened s → ⊥
  not_unopened s id v inside at u = ⊎_elim
      (λ (t : (x : S) × (s.homes ≡ some x ∷ []) × (s.views ≡ idle_view ∷ [])).
      (let k = subst (λ (z : SeatView S). IsIn z) (alone s.views idle_view v id t.2 at) inside in omega arith))
      (λ (t : (s.homes ≡ none ∷ []) × (s.views ≡ opening_view ∷ [])).
      (let k = subst (λ (z : SeatView S). IsIn z) (alone s.views opening_view v id t.1 at) inside in omega arith)) u.2

  -- who has closed the table has its seat while others make steps
  pub shut_on : (word word' phase : ℕ) (views : List (SeatView S)) (id : ℕ) (v w : SeatView S)
      → get_elem? views id ≡ some v → StaysKeeper v w → word' ≡ word → IsShut word phase views
      → IsShut word' phase (set views id w)
  shut_on word word' phase views id v w at stays same shut = ⊎_elim
      (λ (z : word ≡ 0). inl (same ∙ z))
      (λ (t : (word ≡ phase + 1) × (i : ℕ) × (u : SeatView S) × (x : S) × (get_elem? views i ≡ some u)
      × (u.role ≡ Holder x) × (u.tasks ≡ [])).
      dite (ℕ_discrete t.1 id)
      (λ (here : t.1 ≡ id). (let one : t.2 ≡ v = some-injective t.2 v (sym t.4 ∙ ap (get_elem? views) here ∙ at) in
      let k = stays t.3 (ap (λ (h : SeatView S). h.role) (sym one) ∙ t.5)
      (ap (λ (h : SeatView S). h.tasks) (sym one) ∙ t.6) in
      inr (same ∙ t.0, id, w, t.3, set_same views id v w at, k.0, k.1)))
      (λ (there : t.1 ≢ id).
      inr (same ∙ t.0, t.1, t.2, t.3, set_else views id t.1 w there ∙ t.4, t.5, t.6))) shut

  there_snoc : (views : List (SeatView S)) (n : SeatView S) (i : ℕ) (v : SeatView S) → get_elem? views i ≡ some v
      → get_elem? (views ++ n ∷ []) i ≡ some v
  there_snoc [] n i v e = absurd (some-ne-none v (sym e))
  there_snoc (h ∷ hs) n zero v e = e
  there_snoc (h ∷ hs) n (suc i) v e = there_snoc hs n i v e

  pub shut_snoc : (word phase : ℕ) (views : List (SeatView S)) (n : SeatView S) → IsShut word phase views
      → IsShut word phase (views ++ n ∷ [])
  shut_snoc word phase views n shut = ⊎_elim (λ (z : word ≡ 0). inl z)
      (λ (t : (word ≡ phase + 1) × (i : ℕ) × (u : SeatView S) × (x : S) × (get_elem? views i ≡ some u)
      × (u.role ≡ Holder x) × (u.tasks ≡ [])).
      inr (t.0, t.1, t.2, t.3, there_snoc views n t.1 t.2 t.4, t.5, t.6)) shut

module _ {S : Type 0} (events : S → List Event) (registered : ℕ → S → Bool) (count : S → ℕ) (width : S → ℕ) (newest : S → ℕ) (replies : S → Call → Reply)
    (ready : ℕ → S → Type 0) where
  abbrev H : Type 0
  H = SeatView S

  abbrev St : Type 0
  St = State S H

  abbrev Mine : Type 0
  Mine = Me S H

  abbrev Rule : St → Type 0
  Rule = IsLevel events registered count width replies ready

  abbrev Ok : (ℕ → ℕ) → S → ℕ → List SeatedTask → Type 0
  Ok = Each events registered count width ready

  abbrev Suits : (ℕ → ℕ) → Role S → List SeatedTask → ℕ → ℕ → ℕ → S → ℕ → ℕ → Type 0
  Suits = FitsIn events registered count width ready

  abbrev Fit : (ℕ → ℕ) → ℕ → ℕ → S → ℕ → ℕ → H → Type 0
  Fit = Fits events registered count width ready

  abbrev House : ℕ → S → List (Option S) → Type 0
  House = Homes events registered count width ready

  abbrev word0 : St → ℕ
  word0 s = get_or s.words 0 0

  -- what a step has to show, at which the seat id goes from v to w
  pub after : (s : St) (r : Rule s) (words : List ℕ) (homes : List (Option S)) (id : ℕ) (v w : H) (phase : ℕ)
      (value : S) (holder : ℕ) (seat : ℕ → ℕ) (held : Bool) → get_elem? s.views id ≡ some v
      → length words ≡ 2080 → total parts_of s.views + length w.tasks ≡ count value + length v.tasks
      → count value < 4294967296
      → get_or words 0 0 ≡ total (missing phase) (set s.views id w) + (if held then busy else 0)
      → get_or words 16 0 ≤ phase
      → IsShut (get_or words 17 0) phase (set s.views id w)
      → House (get_or words 0 0) value homes
      → Fit seat phase (get_or words 0 0) value holder id w
      → ((i : ℕ) (h : H) → i ≢ id → get_elem? s.views i ≡ some h
      → Fit seat phase (get_or words 0 0) value holder i h)
      → ready phase value → Rows (width value) words (set s.views id w)
      → Begins events registered replies ready width phase words (set s.views id w) value
      → Rule record { words = words; homes = homes; views = set s.views id w }
  after s r words homes id v w phase value holder seat held at wide parts small word over shut home mine others
      stands rows begins = record {
        phase = phase;
        value = value;
        holder = holder;
        seat = seat;
        held = held;
        wide = wide;
        parts = (let t = total_set parts_of s.views id v w at in let a : parts_of w ≡ length w.tasks = refl in
            let b : parts_of v ≡ length v.tasks = refl in omega arith);
        small = small;
        word = word;
        over = over;
        shut = shut;
        home = home;
        each =
            λ i h e. ⊎_elim
            (λ (t : (i ≡ id) × (w ≡ h)). subst (λ (z : ℕ × H). Fit seat phase (get_or words 0 0) value holder z.0
            z.1) (λ k. (sym t.0 k, t.1 k)) mine)
            (λ (t : (i ≢ id) × (get_elem? s.views i ≡ some h)). others i h t.0 t.1) (at_set s.views id i w h e);
        rows = rows;
        begins = begins;
        stands = stands;
      }

  pub fits_as : (s : St) (r : Rule s) (id : ℕ) (v : H) (role : Role S) → get_elem? s.views id ≡ some v
      → v.role ≡ role → Suits r.seat role v.tasks v.phase r.phase (word0 s) r.value r.holder id
  fits_as s r id v role at is =
      subst (λ (z : Role S). Suits r.seat z v.tasks v.phase r.phase (word0 s) r.value r.holder id) is
      (r.each id v at).1

  pub missing_as : (v : H) (role : Role S) (phase : ℕ) → v.role ≡ role → missing phase v ≡ missing_in role
      (length v.tasks) v.phase phase
  missing_as v role phase is = ap (λ z. missing_in z (length v.tasks) v.phase phase) is

  pub missing_le : (role : Role S) (parts at phase : ℕ) → missing_in role parts at phase ≤ parts
  missing_le Stands parts at phase = omega arith
  missing_le Came parts at phase = if_le (eqb at phase) parts
  missing_le (Last x ws) parts at phase = omega arith
  missing_le (Holder x) parts at phase = omega arith
  missing_le Gone parts at phase = omega arith

  pub few : (s : St) (r : Rule s) → total (missing r.phase) s.views < 4294967296
  few s r = let a = total_le (missing r.phase) parts_of s.views
      (λ h. missing_le h.role (length h.tasks) h.phase r.phase) in let b = r.parts in let c = r.small in
      omega arith

  pub cases : (s : St) (r : Rule s) → ((word0 s < busy) × (word0 s ≡ total (missing r.phase) s.views)
      × (r.held ≡ false)) ⊎ ((busy ≤ word0 s) × (word0 s ≡ total (missing r.phase) s.views + busy)
      × (r.held ≡ true))
  cases s r = split_word r.held (word0 s) (total (missing r.phase) s.views) r.word (few s r)

  -- nobody is the last or a holder while the count isn't 0 and nobody holds it
  pub none_holds : (seat : ℕ → ℕ) (role : Role S) (tasks : List SeatedTask) (at phase word word' : ℕ) (value : S)
      (holder holder' i : ℕ) → 0 < word → word < busy
      → Suits seat role tasks at phase word value holder i
      → Suits seat role tasks at phase word' value holder' i
  none_holds seat Stands tasks at phase word word' value holder holder' i some_missing free f = f
  none_holds seat Came tasks at phase word word' value holder holder' i some_missing free f = f
  none_holds seat (Last x ws) tasks at phase word word' value holder holder' i some_missing free f = let z =
      f.1 in absurd (omega arith)
  none_holds seat (Holder x) tasks at phase word word' value holder holder' i some_missing free f = let z =
      f.1 in absurd (omega arith)
  none_holds seat Gone tasks at phase word word' value holder holder' i some_missing free f = f

  pub at_home : (word : ℕ) (value : S) (homes : List (Option S)) → 0 < word → word < busy → House word value homes
      → homes ≡ some value ∷ []
  at_home word value homes some_missing free h =
      ⊎_elim (λ (t : (homes ≡ some value ∷ []) × (word < busy)). t.0)
      (λ (t : (homes ≡ none ∷ []) × ((word ≡ 0) ⊎ (busy ≤ word))). ⊎_elim
      (λ (z : word ≡ 0). absurd (omega arith)) (λ (z : busy ≤ word). absurd (omega arith)) t.1) h

  pub unmoved : (s : St) (r : Rule s) (word id : ℕ) (v : H) → get_elem? s.views id ≡ some v
      → Rule record {
        words = set s.words word (get_or s.words word 0);
        homes = s.homes;
        views =
            set s.views id v;
      }
  unmoved s r word id v at =
      subst (λ (z : List ℕ × List H). Rule record { words = z.0; homes = s.homes; views = z.1 })
      (λ k. (sym (set-get_or s.words word 0) k, sym (set_again s.views id v at) k)) r

  pub are_seated : (seat : ℕ → ℕ) (x : S) (i : ℕ) (cs : List SeatedTask) → Ok seat x i cs
      → AreSeated events registered ready cs x
  are_seated seat x i [] e = tt
  are_seated seat x i (c ∷ cs) e = (e.0, e.2, are_seated seat x i cs e.3)

  pub set_home : (word : ℕ) (value y : S) (homes : List (Option S)) → House word value homes
      → set homes 0 (some y) ≡ some y ∷ []
  set_home word value y homes h =
      ⊎_elim (λ (t : (homes ≡ some value ∷ []) × (word < busy)). ap (λ hs. set hs 0 (some y)) t.0)
      (λ (t : (homes ≡ none ∷ []) × ((word ≡ 0) ⊎ (busy ≤ word))). ap (λ hs. set hs 0 (some y)) t.0) h

  pub each_moves : (seat seat' : ℕ → ℕ) (x y : S) (i : ℕ) (cs : List SeatedTask)
      → ((task : ℕ) → seat task ≡ i → registered task x ≡ true → (registered task y ≡ true) × (seat' task ≡ i)
      × (deeds_of task (events y) ≡ deeds_of task (events x)))
      → Ok seat x i cs → Ok seat' y i cs
  each_moves seat seat' x y i [] moves e = tt
  each_moves seat seat' x y i (c ∷ cs) moves e = let t = moves c.task e.1 e.0 in
      (t.0, t.1, t.2 ∙ e.2, each_moves seat seat' x y i cs moves e.3)

  -- nobody has closed the table while nobody holds the value out of turn
  pub not_shut : (s : St) (r : Rule s) → word0 s < busy → get_or s.words 17 0 ≡ 0
  not_shut s r free = ⊎_elim (λ (z : get_or s.words 17 0 ≡ 0). z)
      (λ (t : (get_or s.words 17 0 ≡ r.phase + 1) × (i : ℕ) × (u : H) × (x : S) × (get_elem? s.views i ≡ some u)
      × (u.role ≡ Holder x) × (u.tasks ≡ [])).
      absurd (let f = fits_as s r t.1 t.2 (Holder t.3) t.4 t.5 in let q = f.1 in omega arith)) r.shut

  -- a step at another word keeps that of who closes
  pub shut_beside : (s : St) (r : Rule s) (i n id : ℕ) (v w : H) → get_elem? s.views id ≡ some v → StaysKeeper v w
      → 17 ≢ i → IsShut (get_or (set s.words i n) 17 0) r.phase (set s.views id w)
  shut_beside s r i n id v w at stays other =
      shut_on (get_or s.words 17 0) (get_or (set s.words i n) 17 0) r.phase s.views id v w at stays
      (get_or-set_other s.words i 17 n 0 other) r.shut

  -- and so does one at none
  pub shut_here : (s : St) (r : Rule s) (id : ℕ) (v w : H) → get_elem? s.views id ≡ some v → StaysKeeper v w
      → IsShut (get_or s.words 17 0) r.phase (set s.views id w)
  shut_here s r id v w at stays =
      shut_on (get_or s.words 17 0) (get_or s.words 17 0) r.phase s.views id v w at stays refl r.shut
