-- A handle of any type, its machine value, and what its pointer owns. Assumes `Logic`.
use Rattle.std.proofs.Common.{◌≡◌, ℕ, List, [], ◌∷◌, ◌++◌, refl, sym, subst, lit<, None, Some}
use lib.Dec.{T}
use seplogic.Ra.Ura.{Ura}
use mir.Raw.{raw as bare}
use mir.Val.{Val, vstruct, vcons, vnil, of_list, has_ty, WT}
use base.Logic.{ent, guard, guard_i, via, fst∗, snd∗, never, never_e}
use base.Fml.{Fml, ftrue}
use types.Logic.{Logic, sem}
use types.Kit.{Item, Goal, Seq, Step, step, ‵, given, ◌$◌, drop, fsplit, fjoin, fpick, fpack, feq_i, feq_l, use1, learn, rewrite}
use contract.Monad.{fact_use}
use denote.Exit.{under, hidden}
use denote.RattleType.{RattleType, Valss}
use denote.Builtin.{RawPtr}
use denote.Memory.{lone}
use denote.Param.{layout}
use denote.RawPtr.{Ptr, block_ptr, null_ptr, ptr_val, lies_at, Testable}
use denote.Steps.{nothing}
use denote.Struct.Field.{RawPtr-field, rows}
use denote.Struct.Struct.{within, exits_of}
use denote.Struct.Values.{intos}
use denote.Struct.Owning.{Owning, row, shape}
use Rattle.std.specs.declared.option.Option.{Option}
use Rattle.std.specs.contracts.impls.GlobalAllocator.TheImpl.{ghosts}
use Rattle.std.specs.Box.Ownership.{box_owns}
use Rattle.std.specs.declared.alloc.Global.{Global}
use Rattle.std.proofs.GlobalToken.{dealloc_token-Testable}
use Rattle.phaser_c.specs.Held.{chunk, held}

-- a handle of the values of R: a struct of one pointer, which owns what `held` says. An export takes no generic struct, so
-- what C holds of each type is a struct of its own; what is proved of a `Holder` is proved of each
pub record Holder (R : RattleType) : Type 2 where
  pub the_type : Owning
  pub at : the_type.D → Ptr
  pub state : the_type.D → Option R.Denot
  pub make : Ptr → Option R.Denot → the_type.D
  pub at_made : (p : Ptr) (s : Option R.Denot) → at (make p s) ≡ p
  pub state_made : (p : Ptr) (s : Option R.Denot) → state (make p s) ≡ s

abbrev pub word : Ptr → Val
word p = vstruct (vcons (ptr_val p) vnil)

module _ {R : RattleType} (W : Holder R) where
  abbrev pub owner : Owning
  owner = record {
    name = W.the_type.name;
    args = [];
    types = [];
    parts = RawPtr-field ∷ [];
    D = W.the_type.D;
    as_values = λ d. (W.at d, tt);
    coded = W.the_type.coded;
    heap = λ d. held R (W.at d) (W.state d);
    exit = λ k. hidden (under (λ d. intos (RawPtr-field ∷ []) (W.at d, tt)) (exits_of k (rows (RawPtr-field ∷ []))));
    shr_at = W.the_type.shr_at;
  }

  abbrev pub Hd : RattleType
  Hd = row owner

  pub word_good : (p : Ptr) → T (has_ty (layout Hd) (word p)) × WT (word p)
  word_good (block_ptr b o) = (tt, (tt, tt))
  word_good null_ptr = (tt, (record { fits = lit< tt }, tt))

  module _ {M : Type 1} {𝓤 : Ura M} {𝓛 : Logic 𝓤} {K : Type 0} {Γ : List (Item 𝓤)} {G : Goal 𝓤 𝓛.H} where
    pub handle_out : K → (d : Hd.Denot) (vs : List Val) → (vs ≡ word (W.at d) ∷ [] → Seq K 𝓛 (‵ (held R (W.at d) (W.state d)) ∷ Γ) G) → Seq K 𝓛 (‵ (Hd.own_val d vs) ∷ Γ) G
    handle_out t d vs k =
        fsplit t $ fpick t (λ vss. fsplit t $ feq_l t (λ ev. fsplit t $ feq_l t (λ ep. drop t $
        k (subst (λ (ps : List Val). vs ≡ vstruct (of_list (ps ++ [])) ∷ []) ep ev))))

    pub handle_in : K → (p : Ptr) (s : Option R.Denot) → Step K 𝓛 (‵ (Hd.own_val (W.make p s) (word p ∷ [])) ∷ Γ) G (‵ (held R p s) ∷ Γ) G
    handle_in t p s = step (λ k. let d : Hd.Denot = W.make p s in let q : Ptr = W.at d in
        rewrite t 0 (λ (r : Ptr). ‵ (held R r s)) (sym (W.at_made p s)) refl $ rewrite t 0 (λ (u : Option R.Denot). ‵ (held R q u)) (sym (W.state_made p s)) refl $
        nothing t $ feq_i t (List Val) (ptr_val q ∷ []) (ptr_val q ∷ []) refl $ fjoin t $ feq_i t (List Val) (word q ∷ []) (word q ∷ []) refl $ fjoin t $
        fpack t (Valss (RawPtr ∷ [])) (within (shape owner) (q, tt) (word q ∷ [])) (ptr_val q ∷ [], tt) $ fjoin t $
        rewrite t 0 (λ (r : Ptr). ‵ (Hd.own_val d (word r ∷ []))) (W.at_made p s) refl $ k)

module _ (R : RattleType) where
  abbrev pub boxed : Ptr → R.Denot → Fml
  boxed p x = box_owns chunk R p x

  module _ {M : Type 1} {𝓤 : Ura M} (𝓛 : Logic 𝓤) (a : Global) where
    -- what is to be freed may be compared with null
    pub tested : (p : Ptr) (x : R.Denot) → ent 𝓤 (sem 𝓛 (boxed p x)) (guard 𝓤 (Testable p) (sem 𝓛 (boxed p x)))
    tested p x = fact_use 𝓤 (Testable p)
        (via 𝓤 _ (snd∗ 𝓤 (sem 𝓛 (lies_at R base.Fraction.full_share p x)) (sem 𝓛 (ghosts.dealloc_token a (bare (lone R.mir)) p))) (dealloc_token-Testable 𝓛 a (bare (lone R.mir)) p))
        (guard_i 𝓤 (Testable p) (sem 𝓛 (boxed p x)))

  module _ {M : Type 1} {𝓤 : Ura M} {𝓛 : Logic 𝓤} {K : Type 0} {Γ : List (Item 𝓤)} {G : Goal 𝓤 𝓛.H} where
    pub either_held : K → (a : Global) (p : Ptr) (s : Option R.Denot) → (p ≡ null_ptr → s ≡ None → Seq K 𝓛 Γ G)
        → ((b o : ℕ) (x : R.Denot) → p ≡ block_ptr b o → s ≡ Some x → Testable (block_ptr b o) → Seq K 𝓛 (‵ (boxed (block_ptr b o) x) ∷ Γ) G)
        → Seq K 𝓛 (‵ (held R p s) ∷ Γ) G
    either_held t a null_ptr None none one = drop t $ none refl refl
    either_held t a (block_ptr b o) None none one = use1 𝓛 (given ⊥ (‵ ftrue)) (never_e 𝓤 _) $ learn t (λ z. absurd z)
    either_held t a null_ptr (Some x) none one = use1 𝓛 (given ⊥ (‵ ftrue)) (via 𝓤 (never 𝓤) (fst∗ 𝓤 (never 𝓤) (sem 𝓛 (chunk (bare (lone R.mir)) null_ptr))) (never_e 𝓤 _)) $ learn t (λ z. absurd z)
    either_held t a (block_ptr b o) (Some x) none one = use1 𝓛 (given (Testable (block_ptr b o)) (‵ (boxed (block_ptr b o) x))) (tested 𝓛 a (block_ptr b o) x) $ learn t (λ e. one b o x refl refl e)
