-- Numbering the names of a spawn one after the other, as a loop does.
use Rattle.std.proofs.Common.{◌≡◌, ℕ, List, [], ◌∷◌, ◌++◌, map, drop, length, get_or, ◌+◌, ◌<◌, sym, ap, ◌∙◌, append_assoc, add-one, drop-cons, refl}
use Rattle.job_script.specs.declared.head.Named.{Named}
use Rattle.job_script.specs.declared.said.NameMode as stored
use Rattle.job_script.specs.inner.SaidViews.{pair_view}
use Rattle.job_script.specs.Names.{Seen, NameMode, numbered, number_of}

-- what was numbered before, and what is still numbered
abbrev pub after_front : List Named → List Named × Seen → List Named × Seen
after_front front r = (front ++ r.0, r.1)

-- one turn: the first of the pairs left
pub goes_on : (front : List Named) (s : Seen) (p : ℕ) (x : NameMode) (xs : List NameMode) (n : ℕ) (t : Seen) (total : List Named × Seen) → number_of s p x.name ≡ (n, t)
    → after_front front (numbered s p (x ∷ xs)) ≡ total → after_front (front ++ record { name = n; mode = x.mode } ∷ []) (numbered t p xs) ≡ total
goes_on front s p x xs n t total one so_far =
    sym (ap (λ o. after_front front (record { name = o.0; mode = x.mode } ∷ (numbered o.1 p xs).0, (numbered o.1 p xs).1)) one
    ∙ ap (λ all. (all, (numbered t p xs).1)) (sym (append_assoc front (record { name = n; mode = x.mode } ∷ []) (numbered t p xs).0)))
    ∙ so_far

-- the same, as the loop has the pairs
pub pair_on : (front : List Named) (s : Seen) (p : ℕ) (pairs : List stored.NameMode) (i : ℕ) (d : stored.NameMode) (x : Named) (t : Seen) (total : List Named × Seen)
    → i < length pairs → number_of s p (get_or pairs i d).name.now ≡ (x.name, t) → x.mode ≡ (get_or pairs i d).mode
    → after_front front (numbered s p (map pair_view (drop i pairs))) ≡ total → after_front (front ++ x ∷ []) (numbered t p (map pair_view (drop (i + 1) pairs))) ≡ total
pair_on front s p pairs i d x t total lt one mode so_far =
    let turn : drop i pairs ≡ get_or pairs i d ∷ drop (i + 1) pairs = rw (add-one i, drop-cons pairs i d) refl in
    let named : ◌≡◌ {A = Named} (record { name = x.name; mode = (get_or pairs i d).mode }) x = ap (λ m. record { name = x.name; mode = m }) (sym mode) in
    ap (λ y. after_front (front ++ y ∷ []) (numbered t p (map pair_view (drop (i + 1) pairs)))) (sym named)
    ∙ goes_on front s p (pair_view (get_or pairs i d)) (map pair_view (drop (i + 1) pairs)) x.name t total one
    (ap (λ ps. after_front front (numbered s p (map pair_view ps))) (sym turn) ∙ so_far)
