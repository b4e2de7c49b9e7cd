-- A list of operators, one after the other.
use Rattle.std.proofs.Common.{◌≡◌, ℕ, zero, suc, ◌-◌, ◌<◌, List, [], ◌∷◌, ◌++◌, Some, None, sym, arith, ap, ◌∙◌}
use Rattle.json.specs.Token.{Token}
use Rattle.json.specs.Json.{after_end_array}
use Rattle.phase_model.specs.declared.op.Op.{Op}
use Rattle.judge_job.specs.Fronts.{◌>>=◌, op_front}
use Rattle.judge_job.specs.Forms.{ops_from, ops_step}

-- if there is room, it is the end of the list, or one more
pub ops_from_more : (n : ℕ) (ops : List Op) (ts : List Token) → 0 < n
    → ops_from n ops ts ≡ ops_step ops (ops_from (n - 1)) ts (after_end_array ts)
unfolding ops_from
ops_from_more zero ops ts some = absurd (omega (arith, some))
ops_from_more (suc n) ops ts some =
    let back : n ≡ suc n - 1 = omega arith in
    ap (λ k. ops_step ops (ops_from k) ts (after_end_array ts)) back

-- if there is none, it is the end of the list
pub ops_from_none : (n : ℕ) (ops : List Op) (ts : List Token) → n ≡ 0 → ops_from n ops ts ≡ ops_from 0 ops ts
ops_from_none n ops ts none = ap (λ k. ops_from k ops ts) none

-- an operator is added
pub one_more : (n : ℕ) (ops pushed : List Op) (ts rest : List Token) (o : Op) → 0 < n → after_end_array ts ≡ None
    → op_front ts ≡ Some (o, rest) → pushed ≡ ops ++ o ∷ [] → ops_from (n - 1) pushed rest ≡ ops_from n ops ts
one_more n ops pushed ts rest o some none found is =
    sym (ops_from_more n ops ts some
    ∙ ap (ops_step ops (ops_from (n - 1)) ts) none
    ∙ ap (λ f. f >>= λ p. ops_from (n - 1) (ops ++ p.0 ∷ []) p.1) found
    ∙ ap (λ l. ops_from (n - 1) l rest) (sym is))
