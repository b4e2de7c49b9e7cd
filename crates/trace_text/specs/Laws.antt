-- What holds of every text that is written.
use Rattle.std.specs.Prelude.{◌≡◌, ℕ, List, [], ◌∷◌, ◌++◌, None, true, false, Ok, Err, codes}
use Rattle.phase_modes.specs.Limits.{limits_fit, default_limits}
use Rattle.phase_modes.specs.declared.reg.Mode.TheVariants.{SigWait}
use Rattle.finish_core.specs.declared.event.FinishEvent.TheVariants.{Shut}
use Rattle.world_model.specs.declared.event.Begun.TheVariants as begun
use Rattle.world_model.specs.ExampleWords.{unbounded}
use Rattle.trace_model.specs.declared.event.TracedStep.TheVariants as step
use Rattle.trace_model.specs.declared.event.TracedEvent.TheVariants.{Phaser, Finish, Begin}
use Rattle.job_script.specs.Reading.{reading}
use Rattle.trace_text.specs.Form.{form_of}
use Rattle.trace_text.specs.Text.{trace_text, older_text, has_bounds, has_form}
use Rattle.trace_model.specs.Run.{Run}

-- the text of a trace is read as that trace, if its limits fit and each of its events has a form
abbrev pub TracesAreReadBack : Type 0
TracesAreReadBack =
    (r : Run) → limits_fit r.limits ≡ true → has_form r ≡ true
    → form_of (reading (trace_text r)) ≡ Ok r

-- its text in version 1 is read as that trace too, if no phaser in it is bounded
abbrev pub OlderTextsAreReadBack : Type 0
OlderTextsAreReadBack =
    (r : Run) → limits_fit r.limits ≡ true → has_form r ≡ true → has_bounds r ≡ false
    → form_of (reading (older_text r)) ≡ Ok r

-- the smallest trace: one task makes a phaser, ends one turn on it, and ends
abbrev pub smallest : Run
smallest = record {
  limits = default_limits;
  events = (1, Phaser 0 (step.Make 0 SigWait (unbounded [])))
      ∷ (2, Begin 0 begun.Next)
      ∷ (3, Phaser 0 (step.Sig 0 None))
      ∷ (4, Phaser 0 (step.Pass 0))
      ∷ (5, Begin 0 begun.End)
      ∷ (6, Phaser 0 (step.Drop 0))
      ∷ (7, Finish 0 Shut)
      ∷ [];
}

-- it has a form
abbrev pub SmallestHasForm : Type 0
SmallestHasForm = has_form smallest ≡ true

-- its text up to the number of the version
abbrev pub smallest_text : List ℕ
smallest_text = codes "{\"events\":[[1,\"p\",0,\"make\",0,\"SIG_WAIT\",[],null],[2,\"t\",0,\"begin\",[\"next\"]],[3,\"p\",0,\"sig\",0],[4,\"p\",0,\"pass\",0],[5,\"t\",0,\"begin\",[\"end\"]],[6,\"p\",0,\"drop\",0],[7,\"f\",0,\"shut\"]],\"limits\":{\"acts\":4096,\"finishes\":64,\"history\":4096,\"phasers\":64,\"regs\":256,\"tasks\":256},\"version\":"

-- its text in version 1, up to the number
abbrev pub smallest_older_text : List ℕ
smallest_older_text = codes "{\"events\":[[1,\"p\",0,\"make\",0,\"SIG_WAIT\",[]],[2,\"t\",0,\"begin\",[\"next\"]],[3,\"p\",0,\"sig\",0],[4,\"p\",0,\"pass\",0],[5,\"t\",0,\"begin\",[\"end\"]],[6,\"p\",0,\"drop\",0],[7,\"f\",0,\"shut\"]],\"limits\":{\"acts\":4096,\"finishes\":64,\"history\":4096,\"phasers\":64,\"regs\":256,\"tasks\":256},\"version\":"

-- exactly this is its text
abbrev pub SmallestTrace : Type 0
SmallestTrace = trace_text smallest ≡ smallest_text ++ codes "2}"

-- and this is its text in version 1
abbrev pub SmallestOlderTrace : Type 0
SmallestOlderTrace = older_text smallest ≡ smallest_older_text ++ codes "1}"

-- under the number 3 the text is refused as a whole
abbrev pub ThirdVersion : Type 0
ThirdVersion = form_of (reading (smallest_text ++ codes "3}")) ≡ Err 0

-- under the number 1 its first event is wrong, since it says of a bound that there is none
abbrev pub NewerUnderFirst : Type 0
NewerUnderFirst = form_of (reading (smallest_text ++ codes "1}")) ≡ Err 1

-- under the number 2 the first event of the older text is wrong, since it says nothing of a bound
abbrev pub OlderUnderSecond : Type 0
OlderUnderSecond = form_of (reading (smallest_older_text ++ codes "2}")) ≡ Err 1
