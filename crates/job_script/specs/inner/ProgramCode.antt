-- By which code programs differ.
use Rattle.std.specs.Prelude.{ℕ, refl}
use Rattle.std.specs.Coded.{Coded, code_by, coded×, coded_ℕ}
use Rattle.phase_modes.specs.declared.limits.Limits.{Limits}
use Rattle.job_script.specs.declared.head.Head.{Head}
use Rattle.job_script.specs.Acts.{Acts}
use Rattle.job_script.specs.inner.ActsCode.{acts_code}
use Rattle.job_script.specs.Program.{Program}

abbrev limits_code : Coded Limits
limits_code = code_by (ℕ × (ℕ × (ℕ × (ℕ × (ℕ × ℕ)))))
    (coded× coded_ℕ (coded× coded_ℕ (coded× coded_ℕ (coded× coded_ℕ (coded× coded_ℕ coded_ℕ)))))
    (λ l. (l.acts, (l.finishes, (l.history, (l.phasers, (l.regs, l.tasks))))))
    (λ p. record {
      acts = p.0;
      finishes = p.1.0;
      history = p.1.1.0;
      phasers = p.1.1.1.0;
      regs = p.1.1.1.1.0;
      tasks = p.1.1.1.1.1;
    })
    (λ _. refl)

module _ (heads : Coded Head) where
  abbrev pub program_code : Coded Program
  program_code = code_by (Limits × Acts) (coded× limits_code (acts_code heads))
      (λ p. (p.limits, p.main)) (λ q. record { limits = q.0; main = q.1 }) (λ _. refl)
