-- What proves `closed`, `of` and `into_loose` of any handle. Their code is written out: but for the name of the handle's
-- type, it is the same for each handle. So each function's own proof only says which handle it is of. Assumes `Logic`.
use Rattle.std.proofs.Common.{◌≡◌, ℕ, List, [], ◌∷◌, ◌++◌, refl, sym, ap, ◌∙◌, subst, lit<}
use seplogic.Ra.Ura.{Ura}
use mir.Syntax.{Fn, Body, Local, Callee, ty_ptr, ty_bool, local, value_local, seq, cond, assign, return, place, field, rv_opd, op2, ptr_eq, copy, int, w8, w64, aggregate}
use mir.Val.{Val, vptr, vcons, vnil}
use base.Logic.{SProp, ent, emp, id⊢}
use base.Fml.{ftrue}
use prog.Model.{Model}
use prog.Wp.{WpFn, Closed}
use types.Logic.{Logic}
use types.Kit.{‵, raw, ◌⊛◌, at_ret, ◌$◌, ◌∵◌, !, qed, by, move, keep, drop, split, fsplit, fsplit3, fjoin, suffices, use0, use1, rewrite}
use types.Run.{stop, fld, lit, of_opd, bin, no_more, and_then, first, branches, exec, returns, enter}
use types.ByLocal.{alloc_all, pass_all, free_all, look_at, get, get_in, sets, sets_last, env}
use types.Part.{agg, sub, whole}
use types.Match.{live}
use contract.Lifetimes.{Lfts}
use contract.Monad.{fact, fact_i}
use contract.Running.{Running, tables}
use denote.Exit.{yes}
use denote.RattleType.{RattleType, owns}
use denote.Signature.{types_at, plain}
use denote.RawPtr.{Ptr, block_ptr, null_ptr, tests_null}
use denote.Steps.{nothing}
use denote.Param.{layout}
use denote.Triple.Clauses.{Ended, Clauses, closing}
use denote.Triple.Entry.{Args, Res, alive}
use denote.Triple.Spec.{Meets}
use denote.Triple.Walked.{Stays, stay_dropped, walk_of, Goes-dropped}
use Rattle.std.specs.Prelude.{MatchOption}
use Rattle.std.specs.declared.option.Option.{Option}
use Rattle.std.specs.declared.option.Option.TheVariants.{None, Some}
use Rattle.std.specs.contracts.option.Option as option
use Rattle.std.proofs.alloc.Calls.{Goes-blank}
use Rattle.std.proofs.alloc.Shapes.{after}
use Rattle.std.proofs.cell.Inside.{Good, one}
use Rattle.std.proofs.option.Made.{Some-of, none_of}
use Rattle.std.specs.contracts.alloc.Global as heap
use Rattle.std.proofs.alloc.Global.TheLaws as heap_laws
use Rattle.std.specs.contracts.impls.GlobalAllocator.TheImpl.{ghosts}
use Rattle.std.proofs.ResultValues.{and_tt}
use Rattle.std.proofs.raw_atomic.Walks.{proved_at, leaves}
use Rattle.phaser_c.proofs.Values.{both, Loose, loose_good, loose_out, loose_in}
use Rattle.phaser_c.proofs.Held.{Holder, Hd, word, word_good, handle_in, handle_out, either_held}

abbrev function : ℕ → List Local → Body → Fn
function n ls b = record { lifetimes = 0; outlives = []; ty_params = []; givens = 0; params = n; locals = ls; body = b }

abbrev of_type : RattleType → Local
of_type T = local (layout T) value_local

-- a contract of one fact: what it says of the arguments and the result
abbrev Says : Ended → Type 1
Says En = (κs : Lfts En.signature.lifetimes) → Args En.signature κs → Res En.signature κs → Type 0

abbrev clauses : {M : Type 1} (𝓤 : Ura M) (En : Ended) → Says En → Clauses 𝓤 En
clauses 𝓤 En says κs a = record { ghost = Unit {0}; requires = λ g. emp 𝓤; ensures = λ g r e. fact 𝓤 (says κs a r) }

-- what runs this code meets that contract
abbrev Proved : Type 1 → (En : Ended) → Fn → Says En → Type 2
Proved M En fn says = (𝓤 : Ura M) (𝓛 : Logic 𝓤) (𝓜 : Model 𝓤 𝓛.H) (𝓡 : Running 𝓤 𝓛.H 𝓜) (k : Callee)
    → Closed 𝓤 𝓛.H (tables 𝓤 𝓛.H 𝓜 𝓡 𝓡.env).C (tables 𝓤 𝓛.H 𝓜 𝓡 𝓡.env).Λ k fn → Meets 𝓛 En.signature (𝓡.run (𝓡.env k)) (closing 𝓛 En (clauses 𝓤 En says))

abbrev Z : RattleType
Z = heap.the_row

module _ {R : RattleType} (W : Holder R) where
  abbrev H : RattleType
  H = Hd W

  abbrev Lr : RattleType
  Lr = Loose R Z heap_laws.the_row_laws ghosts

  abbrev Out : RattleType
  Out = option.the_row Lr

  abbrev none : Option R.Denot
  none = None

  -- `closed` makes the null pointer, which owns nothing
  abbrev closed_ended : Ended
  closed_ended = record { signature = record { lifetimes = 0; outlives = []; params = []; result = plain (λ κs. H) }; kept = tt }

  abbrev closed_says : Says closed_ended
  closed_says κs a r = W.state r ≡ none

  abbrev closed_code : Fn
  closed_code = function 0 (of_type H ∷ []) (seq (assign (place 0 []) (aggregate (int w64 0 ∷ []))) return)

  pub closed_met : {M : Type 1} → Proved M closed_ended closed_code closed_says
  closed_met 𝓤 𝓛 𝓜 𝓡 k unfolded =
      let 𝓣 = tables 𝓤 𝓛.H 𝓜 𝓡 𝓡.env in let En = closed_ended in let c = clauses 𝓤 En closed_says in let fn = closed_code in let hs : Stays En.signature.params En.kept = tt in
      proved_at 𝓛 En hs c 𝓜 𝓡 tt k fn unfolded (λ z are.
      let Post : Val → SProp 𝓤 = (walk_of 𝓛 En hs c).post z in let d : H.Denot = W.make null_ptr none in
      qed 𝓛 ((raw (alive 𝓛 En.signature z.0.0 z.0.1) ⊛ ‵ (owns (types_at En.signature.params z.0.0) z.0.3 z.0.4)) ∷ ‵ ftrue ∷ []) ∵ move ! (1 ∷ []) $ drop ! $ split ! $ move ! (1 ∷ []) $ drop ! $
      enter ! 𝓣.C 𝓣.Λ fn [] Post $ alloc_all ! (λ l. pass_all ! refl tt $
      sets ! (agg ! (and_then ! (lit ! tt) (no_more !))) refl (word_good W null_ptr) $
      nothing ! $ handle_in W ! null_ptr none $
      use0 𝓛 (raw (fact 𝓤 (W.state d ≡ none))) (fact_i 𝓤 (W.state d ≡ none) (emp 𝓤) (W.state_made null_ptr none)) $ nothing ! $
      returns ! (look_at ! 0 refl) $ free_all ! refl $ keep ! (3 ∷ 0 ∷ 2 ∷ 1 ∷ []) $ by ! (leaves 𝓛 En hs c z (word null_ptr) d tt tt)))

  -- `of` keeps the pointer, and owns what it leads to
  abbrev of_ended : Ended
  of_ended = record { signature = record { lifetimes = 0; outlives = []; params = plain (λ κs. Lr) ∷ []; result = plain (λ κs. H) }; kept = (yes, tt) }

  abbrev of_says : Says of_ended
  of_says κs a r = W.state r ≡ Some a.0.value

  abbrev of_code : Fn
  of_code = function 1 (of_type H ∷ of_type Lr ∷ local ty_ptr value_local ∷ local ty_ptr value_local ∷ [])
      (seq (assign (place 2 []) (rv_opd (copy (place 1 (field 0 ∷ [])))))
      (seq (assign (place 3 []) (rv_opd (copy (place 2 []))))
      (seq (assign (place 0 []) (aggregate (copy (place 3 []) ∷ []))) return)))

  pub of_met : {M : Type 1} → Proved M of_ended of_code of_says
  of_met 𝓤 𝓛 𝓜 𝓡 k unfolded =
      let 𝓣 = tables 𝓤 𝓛.H 𝓜 𝓡 𝓡.env in let En = of_ended in let c = clauses 𝓤 En of_says in let fn = of_code in let LZ = heap_laws.the_row_laws in
      let hs : Stays En.signature.params En.kept = (stay_dropped (plain (λ _. Lr)) yes, tt) in
      proved_at 𝓛 En hs c 𝓜 𝓡 (Goes-blank 𝓛 0 (plain (λ _. Lr)) yes (λ κs x f. tt), tt) k fn unfolded (λ z are.
      let Post : Val → SProp 𝓤 = (walk_of 𝓛 En hs c).post z in let Run : List Val → SProp 𝓤 = λ ws. WpFn 𝓤 𝓛.H 𝓣.C 𝓣.Λ fn ws Post in let v : Lr.Denot = z.0.3.0 in
      qed 𝓛 ((raw (alive 𝓛 En.signature z.0.0 z.0.1) ⊛ ‵ (owns (types_at En.signature.params z.0.0) z.0.3 z.0.4)) ∷ ‵ ftrue ∷ []) ∵ move ! (1 ∷ []) $ drop ! $ split ! $ move ! (1 ∷ []) $ fsplit ! $
      loose_out R Z LZ ghosts ! v z.0.4.0 (λ b o h e ws fits. let w : Val = both (vptr b o) h in let d : H.Denot = W.make (block_ptr b o) (Some v.value) in
      suffices ! (Run (w ∷ [])) (subst (λ (us : List Val). ent 𝓤 (Run (w ∷ [])) (Run us)) (sym (λ i. ws i ++ [])) (id⊢ 𝓤 (Run (w ∷ [])))) $
      enter ! 𝓣.C 𝓣.Λ fn (w ∷ []) Post $ alloc_all ! (λ l. pass_all ! refl (loose_good R Z LZ ghosts b o h fits, tt) $
      sets ! (of_opd ! (get_in ! (fld ! refl (stop !)) (sub ! 0 refl (whole !)))) refl (tt, tt) $ sets ! (of_opd ! (get ! refl)) refl (tt, tt) $
      sets ! (agg ! (and_then ! (get ! refl) (no_more !))) refl (tt, (tt, tt)) $
      handle_in W ! (block_ptr b o) (Some v.value) $
      use0 𝓛 (raw (fact 𝓤 (W.state d ≡ Some v.value))) (fact_i 𝓤 (W.state d ≡ Some v.value) (emp 𝓤) (W.state_made (block_ptr b o) (Some v.value))) $ nothing ! $ nothing ! $ fjoin ! $
      returns ! (look_at ! 0 refl) $ free_all ! refl $ keep ! (5 ∷ 0 ∷ 2 ∷ 1 ∷ []) $ by ! (leaves 𝓛 En hs c z (word (block_ptr b o)) d (tt, tt) (tt, tt)))))

  -- `into_loose` reads the pointer, and hands on what it leads to
  abbrev into_loose_ended : Ended
  into_loose_ended = record { signature = record { lifetimes = 0; outlives = []; params = plain (λ κs. H) ∷ plain (λ κs. Z) ∷ []; result = plain (λ κs. Out) }; kept = (yes, (yes, tt)) }

  abbrev into_loose_says : Says into_loose_ended
  into_loose_says κs a r = MatchOption r (W.state a.0 ≡ None) (λ l. W.state a.0 ≡ Some l.value)

  abbrev into_loose_code : Fn
  into_loose_code = function 2
      (of_type Out ∷ of_type H ∷ of_type Z ∷ local ty_ptr value_local ∷ local ty_bool value_local ∷ of_type Out ∷ local ty_ptr value_local ∷ of_type Lr ∷ [])
      (seq (assign (place 3 []) (rv_opd (copy (place 1 (field 0 ∷ [])))))
      (seq (assign (place 4 []) (op2 ptr_eq (copy (place 3 [])) (int w64 0)))
      (seq (cond (copy (place 4 []))
      (assign (place 5 []) (aggregate (int w8 0 ∷ [])))
      (seq (assign (place 6 []) (rv_opd (copy (place 3 []))))
      (seq (assign (place 7 []) (aggregate (copy (place 6 []) ∷ copy (place 2 []) ∷ [])))
      (assign (place 5 []) (aggregate (int w8 1 ∷ copy (place 7 []) ∷ []))))))
      (seq (assign (place 0 []) (rv_opd (copy (place 5 [])))) return))))

  pub into_loose_met : {M : Type 1} → Proved M into_loose_ended into_loose_code into_loose_says
  into_loose_met 𝓤 𝓛 𝓜 𝓡 k unfolded =
      let 𝓣 = tables 𝓤 𝓛.H 𝓜 𝓡 𝓡.env in let En = into_loose_ended in let c = clauses 𝓤 En into_loose_says in let fn = into_loose_code in let LZ = heap_laws.the_row_laws in
      let hs : Stays En.signature.params En.kept = (stay_dropped (plain (λ _. H)) yes, (stay_dropped (plain (λ _. Z)) yes, tt)) in
      proved_at 𝓛 En hs c 𝓜 𝓡 (Goes-blank 𝓛 0 (plain (λ _. H)) yes (λ κs x f. tt), (Goes-dropped 𝓛 0 (plain (λ _. Z)) yes (λ κs x f. refl), tt)) k fn unfolded (λ z are.
      let Post : Val → SProp 𝓤 = (walk_of 𝓛 En hs c).post z in let Run : List Val → SProp 𝓤 = λ ws. WpFn 𝓤 𝓛.H 𝓣.C 𝓣.Λ fn ws Post in
      let d : H.Denot = z.0.3.0 in let a = z.0.3.1.0 in let h = one (layout Z) z.0.4.1.0 ((LZ.lawful 𝓛).typed a z.0.4.1.0 are.1.0) in
      qed 𝓛 ((raw (alive 𝓛 En.signature z.0.0 z.0.1) ⊛ ‵ (owns (types_at En.signature.params z.0.0) z.0.3 z.0.4)) ∷ ‵ ftrue ∷ []) ∵ move ! (1 ∷ []) $ drop ! $ split ! $ move ! (1 ∷ []) $ fsplit3 ! $
      rewrite ! 1 (λ (us : List Val). ‵ (Z.own_val a us)) h.1 refl $
      handle_out W ! d z.0.4.0 (λ ws. either_held R ! a (W.at d) (W.state d)
      (λ is_null is_none. let w : Val = word null_ptr in let e : z.0.4.0 ≡ w ∷ [] = ws ∙ ap (λ (p : Ptr). word p ∷ []) is_null in let v₀ : Val = live 0 vnil in
      suffices ! (Run (w ∷ h.0 ∷ [])) (subst (λ (us : List Val). ent 𝓤 (Run (w ∷ h.0 ∷ [])) (Run us)) (sym (λ i. e i ++ (h.1 i ++ []))) (id⊢ 𝓤 (Run (w ∷ h.0 ∷ [])))) $
      enter ! 𝓣.C 𝓣.Λ fn (w ∷ h.0 ∷ []) Post $ alloc_all ! (λ l. pass_all ! refl (word_good W null_ptr, (h.2, tt)) $ let Ev = env fn.locals l in
      sets ! (of_opd ! (get_in ! (fld ! refl (stop !)) (sub ! 0 refl (whole !)))) refl (tt, record { fits = lit< tt }) $ sets ! (bin ! (get ! refl) (lit ! tt) tt) refl (tt, tt) $ first ! $ branches ! (get ! refl)
      (λ _. sets_last ! (agg ! (and_then ! (lit ! tt) (no_more !))) refl (tt, (record { fits = lit< tt }, tt)) $ exec ! 𝓣.C 𝓣.Λ Ev (after 3 fn.body) (at_ret Ev Post) $ sets ! (of_opd ! (get ! refl)) refl (tt, (record { fits = lit< tt }, tt)) $
      use0 𝓛 (‵ (Out.own_val None (v₀ ∷ []))) (none_of 𝓛 Lr) $ use0 𝓛 (raw (fact 𝓤 (W.state d ≡ None))) (fact_i 𝓤 (W.state d ≡ None) (emp 𝓤) is_none) $ nothing ! $ nothing ! $ fjoin ! $ nothing ! $ fjoin ! $
      returns ! (look_at ! 0 refl) $ free_all ! refl $ keep ! (5 ∷ 0 ∷ 2 ∷ 1 ∷ []) $ by ! (leaves 𝓛 En hs c z v₀ None (tt, (tt, tt)) (tt, (tt, tt)))) (λ wrong. absurd wrong)))
      (λ b o x is_block is_some t. let w : Val = word (block_ptr b o) in let e : z.0.4.0 ≡ w ∷ [] = ws ∙ ap (λ (p : Ptr). word p ∷ []) is_block in
      let made : Val = both (vptr b o) h.0 in let typed = loose_good R Z LZ ghosts b o h.0 h.2 in let v₁ : Val = live 1 (vcons made vnil) in let l₁ : Lr.Denot = record { at = block_ptr b o; alloc = a; value = x } in
      let good : Good (layout Out) v₁ = (and_tt _ typed.0, (record { fits = lit< tt }, (typed.1, tt))) in
      suffices ! (Run (w ∷ h.0 ∷ [])) (subst (λ (us : List Val). ent 𝓤 (Run (w ∷ h.0 ∷ [])) (Run us)) (sym (λ i. e i ++ (h.1 i ++ []))) (id⊢ 𝓤 (Run (w ∷ h.0 ∷ [])))) $
      enter ! 𝓣.C 𝓣.Λ fn (w ∷ h.0 ∷ []) Post $ alloc_all ! (λ l. pass_all ! refl (word_good W (block_ptr b o), (h.2, tt)) $ let Ev = env fn.locals l in
      sets ! (of_opd ! (get_in ! (fld ! refl (stop !)) (sub ! 0 refl (whole !)))) refl (tt, tt) $ sets ! (bin ! (get ! refl) (lit ! tt) (tests_null (block_ptr b o) t)) refl (tt, tt) $ first ! $ branches ! (get ! refl) (λ wrong. absurd wrong) (λ _.
      sets ! (of_opd ! (get ! refl)) refl (tt, tt) $ sets ! (agg ! (and_then ! (get ! refl) (and_then ! (get ! refl) (no_more !)))) refl typed $ sets_last ! (agg ! (and_then ! (lit ! tt) (and_then ! (get ! refl) (no_more !)))) refl good $
      exec ! 𝓣.C 𝓣.Λ Ev (after 3 fn.body) (at_ret Ev Post) $ sets ! (of_opd ! (get ! refl)) refl good $ loose_in R Z LZ ghosts ! b o h.0 a x $
      use1 𝓛 (‵ (Out.own_val (Some l₁) (v₁ ∷ []))) (Some-of 𝓛 Lr l₁ made) $ use0 𝓛 (raw (fact 𝓤 (W.state d ≡ Some x))) (fact_i 𝓤 (W.state d ≡ Some x) (emp 𝓤) is_some) $ nothing ! $ nothing ! $ fjoin ! $ nothing ! $ fjoin ! $
      returns ! (look_at ! 0 refl) $ free_all ! refl $ keep ! (4 ∷ 0 ∷ 2 ∷ 1 ∷ []) $ by ! (leaves 𝓛 En hs c z v₁ (Some l₁) (tt, (tt, tt)) (tt, (tt, tt))))))))
