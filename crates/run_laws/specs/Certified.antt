-- What a certificate says, and why there is none.
use Rattle.std.specs.Prelude.{ℕ, ◌≡◌, true, [], ⊤}
use Rattle.job_script.specs.Program.{Program}
use Rattle.world_model.specs.Report.{Report, report_of}
use Rattle.trace_walk.specs.Picks.{run_within}
use Rattle.trace_walk.specs.History.{history}
use Rattle.trace_model.specs.Run.{Run}
use Rattle.trace_model.specs.Explained.{is_explained}
use Rattle.run_laws.specs.Memory.{is_roomy}
use Rattle.run_laws.specs.OneRun.{EachRunComesTo}
use Rattle.run_laws.specs.Programs.{IsProgramRun}
use Rattle.run_laws.specs.Telling.{in_order}
use Rattle.run_laws.specs.Luck.{IsFirstLuck}
use Rattle.run_laws.specs.declared.certificate.NoAnswer.{NoAnswer}
use Rattle.run_laws.specs.declared.certificate.NoAnswer.TheVariants.{Luck, Memory}

-- each run of the program that has memory gives this report; and there is one, by rounds: whole, with nobody refused,
-- with its numbers in order, and roomy
pub record IsCertified (p : Program) (r : Report) : Type 0 where
  pub each : EachRunComesTo p r
  pub rounds : ℕ
  pub run : IsProgramRun p in_order (run_within rounds p [])
  pub roomy : is_roomy p.limits (run_within rounds p []) ≡ true
  pub report : report_of p.limits (run_within rounds p []) ≡ r

-- a program is certified to give one report alone
abbrev pub CertificateIsOne : Type 0
CertificateIsOne = (p : Program) (r s : Report) → IsCertified p r → IsCertified p s → r ≡ s

-- the trace is one of the program's run by rounds
pub record IsByRounds (p : Program) (t : Run) : Type 0 where
  pub rounds : ℕ
  pub is : history t.events ≡ run_within rounds p []
  pub limits : t.limits ≡ p.limits
  pub explained : is_explained t ≡ true

-- memory ran out, or this is the first event of the run by rounds in which luck has a part
abbrev pub IsOfCertifying : Program → NoAnswer → Type 0
IsOfCertifying p Memory = ⊤
IsOfCertifying p (Luck at) = (t : Run) × IsByRounds p t × IsFirstLuck t at
