-- By which code scripts differ.
use Rattle.std.specs.Prelude.{ℕ, List, Option, refl}
use Rattle.std.specs.Coded.{Coded, code_by, coded×, coded_ℕ, coded_list, coded_option}
use Rattle.job_script.specs.declared.head.Head.{Head}
use Rattle.job_script.specs.Acts.{Act, Acts}
use Rattle.job_script.specs.inner.ActsCode.{acts_code}
use Rattle.job_script.specs.Steps.{Script}

module _ (heads : Coded Head) where
  abbrev pub act_code : Coded Act
  act_code = code_by (Head × Acts) (coded× heads (acts_code heads))
      (λ a. (a.head, a.body)) (λ p. record { head = p.0; body = p.1 }) (λ _. refl)

  abbrev pub script_code : Coded Script
  script_code = code_by (List Act × (List ℕ × Option ℕ))
      (coded× (coded_list act_code) (coded× (coded_list coded_ℕ) (coded_option coded_ℕ)))
      (λ s. (s.left, (s.meanings, s.naming)))
      (λ p. record { left = p.0; meanings = p.1.0; naming = p.1.1 }) (λ _. refl)
