-- The opening of a finish: no other task's open finishes change, and their chain stays.
use Rattle.std.proofs.Common.{◌≡◌, ℕ, Bool, true, false, ◌==◌, cond, List, [], ◌∷◌, Option, Some, None, get_or, set, refl, sym, ap, ◌∙◌, inl, inr}
use Rattle.std.specs.Prelude.{filter, filter_map}
use Rattle.std.specs.List.{list_any, cons_option}
use Rattle.std.proofs.lemmas.Bool.{cases_Bool, eqb-true, eq-eqb, or_parts, false≢true}
use Rattle.std.proofs.lemmas.List.{get_or-set_other}
use Rattle.finish_core.specs.declared.event.FinishEvent.{FinishEvent}
use Rattle.finish_core.specs.declared.event.FinishEvent.TheVariants.{Opened, Spawned, Ended, Shut}
use Rattle.finish_core.specs.Finish.{is_open}
use Rattle.world_model.specs.declared.event.WorldEvent.{WorldEvent}
use Rattle.world_model.specs.declared.event.WorldEvent.TheVariants.{Phaser, Finish, Begin, Refuse, Fail}
use Rattle.world_model.specs.Parts.{finish_past}
use Rattle.world_model.specs.Scopes.{opened_by, open_finishes}
use Rattle.world_records.specs.StandsFor.{IsChain}

-- f is one of them
abbrev pub has : ℕ → List ℕ → Bool
has f xs = list_any (λ g. g == f) xs

not_in_rest : (f g : ℕ) (h : List FinishEvent) (e : FinishEvent) → cond (g == f) (e ∷ h) h ≡ [] → (g == f) ≡ false × (h ≡ [])
not_in_rest f g h e k = split (g == f) refl k
  where
    split : (b : Bool) → (g == f) ≡ b → cond b (e ∷ h) h ≡ [] → (g == f) ≡ false × (h ≡ [])
    split true a q = absurd cc
    split false a q = (a, q)

pub joined : (f g : ℕ) (b : Bool) (xs : List ℕ) → (g == f) ≡ false → has f xs ≡ false → has f (cons_option (cond b (Some g) None) xs) ≡ false
joined f g true xs e k = rw e k
joined f g false xs e k = k

-- a finish without a history was opened by nobody
pub never_opened : (u f : ℕ) (w : List WorldEvent) → finish_past f w ≡ [] → has f (filter_map (opened_by u) w) ≡ false
never_opened u f [] k = refl
never_opened u f (Finish g (Opened v) ∷ w) k =
    let p = not_in_rest f g (finish_past f w) (Opened v) k in
    joined f g (v == u) (filter_map (opened_by u) w) p.0 (never_opened u f w p.1)
never_opened u f (Finish g (Spawned v) ∷ w) k = never_opened u f w (not_in_rest f g (finish_past f w) (Spawned v) k).1
never_opened u f (Finish g (Ended v) ∷ w) k = never_opened u f w (not_in_rest f g (finish_past f w) (Ended v) k).1
never_opened u f (Finish g Shut ∷ w) k = never_opened u f w (not_in_rest f g (finish_past f w) Shut k).1
never_opened u f (Phaser n s ∷ w) k = never_opened u f w k
never_opened u f (Begin v b ∷ w) k = never_opened u f w k
never_opened u f (Refuse v a n ∷ w) k = never_opened u f w k
never_opened u f (Fail v n ∷ w) k = never_opened u f w k

-- two tests that agree but at f
pub filter_but : (p q : ℕ → Bool) (f : ℕ) (xs : List ℕ) → has f xs ≡ false → ((g : ℕ) → (g == f) ≡ false → p g ≡ q g) → filter p xs ≡ filter q xs
filter_but p q f [] k e = refl
filter_but p q f (x ∷ xs) k e =
    let parts = or_parts (x == f) (has f xs) k in
    let rest : filter p xs ≡ filter q xs = filter_but p q f xs parts.1 e in
    rw (e x parts.0) (ap (λ ys. cond (q x) (x ∷ ys) ys) rest)

none_kept : (p : ℕ → Bool) (f : ℕ) (xs : List ℕ) → has f xs ≡ false → has f (filter p xs) ≡ false
none_kept p f [] k = refl
none_kept p f (x ∷ xs) k =
    let parts = or_parts (x == f) (has f xs) k in
    let rest : has f (filter p xs) ≡ false = none_kept p f xs parts.1 in
    elim (cases_Bool (p x)) [
      | inl e ↦ rw (e, parts.0) rest
      | inr e ↦ rw e rest
    ]

-- f is none of a task's open finishes
pub not_open : (u f : ℕ) (w : List WorldEvent) → finish_past f w ≡ [] → has f (open_finishes u w) ≡ false
not_open u f w k = none_kept (λ g. is_open (finish_past g w)) f (filter_map (opened_by u) w) (never_opened u f w k)

same_elsewhere : (f t g : ℕ) (w : List WorldEvent) → (g == f) ≡ false → is_open (finish_past g (Finish f (Opened t) ∷ w)) ≡ is_open (finish_past g w)
same_elsewhere f t g w e = elim (cases_Bool (f == g)) [
  | inl k ↦ absurd (false≢true (sym e ∙ eq-eqb g f (sym (eqb-true f g k))))
  | inr k ↦ rw k refl
]

pub others_open : (u f t : ℕ) (w : List WorldEvent) → finish_past f w ≡ [] → (t == u) ≡ false → open_finishes u (Finish f (Opened t) ∷ w) ≡ open_finishes u w
others_open u f t w k e =
    rw e (filter_but (λ g. is_open (finish_past g (Finish f (Opened t) ∷ w))) (λ g. is_open (finish_past g w)) f (filter_map (opened_by u) w) (never_opened u f w k) (λ g. same_elsewhere f t g w))

pub own_open : (f t : ℕ) (w : List WorldEvent) → finish_past f w ≡ [] → open_finishes t (Finish f (Opened t) ∷ w) ≡ f ∷ open_finishes t w
own_open f t w k =
    let here : is_open (finish_past f (Finish f (Opened t) ∷ w)) ≡ true = rw (eq-eqb f f refl, k) refl in
    let rest : filter (λ g. is_open (finish_past g (Finish f (Opened t) ∷ w))) (filter_map (opened_by t) w) ≡ open_finishes t w =
    filter_but (λ g. is_open (finish_past g (Finish f (Opened t) ∷ w))) (λ g. is_open (finish_past g w)) f (filter_map (opened_by t) w) (never_opened t f w k) (λ g. same_elsewhere f t g w)
    in
    rw (eq-eqb t t refl) (ap (λ b. cond b (f ∷ filter (λ g. is_open (finish_past g (Finish f (Opened t) ∷ w))) (filter_map (opened_by t) w)) (filter (λ g. is_open (finish_past g (Finish f (Opened t) ∷ w))) (filter_map (opened_by t) w))) here ∙ ap (λ gs. f ∷ gs) rest)

-- a chain of finishes of which f is none
pub chain_set : (outers : List (Option ℕ)) (f : ℕ) (x top : Option ℕ) (fs : List ℕ) → has f fs ≡ false → IsChain outers top fs → IsChain (set outers f x) top fs
chain_set outers f x top [] k c = c
chain_set outers f x top (g ∷ gs) k c =
    let parts = or_parts (g == f) (has f gs) k in
    let other : get_or (set outers f x) g None ≡ get_or outers g None = get_or-set_other outers f g x None (λ same. false≢true (sym parts.0 ∙ eq-eqb g f same)) in
    (c.0, rw other (chain_set outers f x (get_or outers g None) gs parts.1 c.1))
