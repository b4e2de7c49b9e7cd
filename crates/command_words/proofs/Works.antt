-- The work that words name.
use Rattle.std.proofs.Common.{◌≡◌, ℕ, List, option_map, Option, Some, None, Result, Ok, Err, IfOk, IfErr, MatchResult, refl, sym, ap, ◌∙◌, inl, inr}
use Rattle.std.specs.Prelude.{option_and_then}
use Rattle.command_words.specs.CommandLine.{Asked, IsNoJobFor, Work, certify, earlier, events, first_bad, judge, kernel_of, pipeline, replay, run, run_of, schedule, stencil, unless, work_for, work_of}
use Rattle.command_words.specs.declared.command_line.Job.{Job}
use Rattle.command_words.specs.declared.command_line.NoJob.{NoJob}
use Rattle.command_words.specs.declared.command_line.NoJob.TheVariants.{BadValue, Memory}
use Rattle.command_words.specs.declared.command_line.Value.{Value}

-- words that name a work ask for something
pub asked_for : (asked : Option Asked) (work : Work) → option_and_then work_for asked ≡ Some work
    → (a : Asked) × (asked ≡ Some a)
asked_for None work e = cc
asked_for (Some a) work e = (a, refl)

-- where a value is none there is no work
none_of : {X Y : Type 0} (f : X → Y) (v u : Value) (o : Option X) → unless v o ≡ Some u → option_map f o ≡ None
none_of f v u None e = refl
none_of f v u (Some x) e = cc

module _ {A : Type 0} (p q r v : Value) (work : A → ℕ → ℕ → Work) where
  none_of_kernel : (flag : Option Value) (a : Option A) (b c : Option ℕ)
      → earlier (unless p a) (earlier (unless q b) (earlier (unless r c) flag)) ≡ Some v
      → kernel_of flag a b c work ≡ None
  none_of_kernel (Some f) a b c e = refl
  none_of_kernel None None b c e = refl
  none_of_kernel None (Some x) None c e = refl
  none_of_kernel None (Some x) (Some y) None e = refl
  none_of_kernel None (Some x) (Some y) (Some z) e = cc

-- a run without workers, or with a bad flag, is none
none_of_run : (v u : Value) (flag : Option Value) (workers : Option ℕ) (work : ℕ → Work)
    → earlier (unless v workers) flag ≡ Some u → run_of flag workers work ≡ None
none_of_run v u None None work e = refl
none_of_run v u (Some f) None work e = refl
none_of_run v u (Some f) (Some n) work e = refl
none_of_run v u None (Some n) work e = cc

pub bad_works : (asked : Asked) (v : Value) → first_bad asked ≡ Some v → work_for asked ≡ None
bad_works (events file) v e = cc
bad_works (schedule file list trace) v e = none_of _ _ v _ e
bad_works (run file workers trace certain live progress) v e = none_of_run _ v _ _ _ e
bad_works (replay file upgrade) v e = cc
bad_works (certify file) v e = cc
bad_works (judge file every) v e = none_of _ _ v _ e
bad_works (stencil first steps workers live progress) v e = none_of_kernel _ _ _ v _ _ _ _ _ e
bad_works (pipeline k items workers live progress) v e = none_of_kernel _ _ _ v _ _ _ _ _ e

-- the job of what they ask for is that work
pub named_as : (o : Option Asked) (asked : Asked) (work : Work) (r : Result Job NoJob) → o ≡ Some asked
    → option_and_then work_for o ≡ Some work → IfOk r (λ job. work_for asked ≡ Some (work_of job))
    → IfErr r (IsNoJobFor asked)
    → MatchResult r (λ job. work_of job ≡ work) (λ e. e ≡ Memory)
named_as o asked work (Ok job) is named ok err =
    let whole : work_for asked ≡ Some work = ap (option_and_then work_for) (sym is) ∙ named in
    let same : Some (work_of job) ≡ Some work = sym ok ∙ whole in
    cc
named_as o asked work (Err e) is named ok err =
    let whole : work_for asked ≡ Some work = ap (option_and_then work_for) (sym is) ∙ named in
    elim err [
      | inl memory ↦ memory
      | inr b ↦ absurd (let bad : None ≡ Some work = sym (bad_works asked b.0 b.2) ∙ whole in cc)
    ]

-- a value that is named is the first of those that were asked for which is none
pub value_named : (o : Option Asked) (asked : Asked) (r : Result Job NoJob) → o ≡ Some asked
    → IfErr r (IsNoJobFor asked)
    → IfErr r (λ e. (v : Value) → e ≡ BadValue v
    → (a : Asked) × (o ≡ Some a) × (work_for a ≡ None) × (first_bad a ≡ Some v))
value_named o asked (Ok job) is err = tt
value_named o asked (Err e) is err = λ v named. elim err [
  | inl memory ↦ absurd (let bad : Memory ≡ BadValue v = sym memory ∙ named in cc)
  | inr b ↦
      let same : BadValue b.0 ≡ BadValue v = sym b.1 ∙ named in
      let first : first_bad asked ≡ Some v = b.2 ∙ ap Some (cc) in
      (asked, is, bad_works asked v first, first)
]

-- what is asked for is one thing
pub same_asked : (o : Option Asked) (a b : Asked) → o ≡ Some a → o ≡ Some b → a ≡ b
same_asked o a b p q = let same : Some a ≡ Some b = sym p ∙ q in cc

-- no value is named for want of memory
pub memory_alone_for : (r : Result Job NoJob) (e : NoJob) (asked : Asked) → r ≡ Err e → e ≡ Memory
    → IfErr r (IsNoJobFor asked)
memory_alone_for r e asked is memory = rw is (inl memory)

pub no_value_named : (X : Value → Type 0) (r : Result Job NoJob) (e : NoJob) → r ≡ Err e
    → ((v : Value) → e ≡ BadValue v → ⊥) → IfErr r (λ e. (v : Value) → e ≡ BadValue v → X v)
no_value_named X r e is never = rw is (λ v named. absurd (never v named))
