-- `new` begins a history under a new name. Assumes `Logic`.
use Rattle.std.proofs.Common.{◌≡◌, ℕ, List, [], ◌∷◌, refl}
use Rattle.std.proofs.raw_atomic.Walks.{proved, leaves}
use mir.Syntax.{a_type}
use mir.Val.{Val}
use mir.MapTy.{inst_fn}
use base.Logic.{SProp, emp}
use base.Fml.{ftrue, flft}
use types.Kit.{‵, raw, ◌⊛◌, some, later, ◌$◌, ◌∵◌, !, qed, by, move, keep, split, fjoin, pick, use0, await}
use types.Run.{no_more, and_then, returns, enter}
use types.ByLocal.{alloc_all, pass_all, free_all, look_at, get, sets}
use types.Part.{agg}
use contract.Monad.{fact, fact_i}
use contract.Running.{tables}
use denote.RattleType.{RattleType, owns}
use denote.Signature.{types_at}
use denote.Steps.{nothing}
use denote.Param.{param, layouts}
use denote.Triple.Walked.{Stays, walk_of}
use Rattle.told_history.specs.Owned.{whole_owns}
use Rattle.told_history.specs.contracts.log.Whole as Whole
use Rattle.told_history.proofs.Steps as steps
use Rattle.told_history.proofs.Fields.{token, Token, token_made}
use Rattle.told_history.specs.contracts.log.Whole.new.{ended, clauses}
use Rattle.told_history.specs.contracts.log.Whole.new.Key.{name as #self}
use Rattle.told_history.proofs.log.Whole.new.Statement.{statement}
use Rattle.told_history.proofs.log.Whole.new.Code as code

pub new_spec : {M : Type 1} → statement M
new_spec 𝓤 𝓛 𝓜 𝓡 wired A LA =
    let H = 𝓛.H in let 𝓣 = tables 𝓤 H 𝓜 𝓡 𝓡.env in let A' : RattleType = param 0 A in let En = ended A in
    let inst = layouts (a_type ∷ []) (A, tt) in let fn = inst_fn inst code.function in let c = clauses A 𝓛 𝓜.mem 𝓡.returns in
    let cv = A'.coded in
    let hs : Stays En.signature.params En.kept = tt in
    proved 𝓛 En hs c 𝓜 𝓡 tt (#self inst) fn (code.unfolded 𝓤 H 𝓜 𝓡 wired (A, tt))
    (λ κs. tt) (λ κs. tt) (λ κs qs bounds a gh are.
    let y : (walk_of 𝓛 En hs c).Ghost = ((κs, qs, bounds, a, tt), gh) in let Post : Val → SProp 𝓤 = (walk_of 𝓛 En hs c).post y in
    qed 𝓛 (((‵ (flft κs.0 qs.0) ⊛ ‵ ftrue) ⊛ ‵ (owns (types_at En.signature.params κs) a y.0.4)) ∷ raw ((c κs a).requires gh) ∷ []) ∵
    keep ! (0 ∷ []) $ split ! $ keep ! (0 ∷ []) $
    enter ! 𝓣.C 𝓣.Λ fn [] Post $ alloc_all ! (λ l. pass_all ! refl tt $
    use0 𝓛 (later (some (λ (η : ℕ). ‵ (whole_owns cv.code η [])))) (steps.begins 𝓛 cv) $ await ! tt $ pick ! (λ η.
    let r : (Whole.the_row A').Denot = record { of = record {}; name = η; items = [] } in
    let nil : List A'.Denot = [] in let Told : Type 0 = nil ≡ nil in
    use0 𝓛 (‵ ((Token A').own_val (record {}, tt) (token ∷ []))) (token_made A' 𝓛) $ fjoin ! $ sets ! (agg ! (no_more !)) refl (tt, tt) $ sets ! (agg ! (and_then ! (get ! refl) (no_more !))) refl (tt, (tt, tt)) $
    use0 𝓛 (raw (fact 𝓤 Told)) (fact_i 𝓤 Told (emp 𝓤) refl) $
    nothing ! $ move ! (3 ∷ 0 ∷ 2 ∷ 1 ∷ []) $
    returns ! (look_at ! 0 refl) $ free_all ! refl $ keep ! (0 ∷ 1 ∷ 2 ∷ 3 ∷ []) $ by ! (leaves 𝓛 En hs c y token r tt tt))))
