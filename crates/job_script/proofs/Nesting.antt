-- An act and the acts inside it.
use Rattle.std.proofs.Common.{◌≡◌, ℕ, suc, ◌+◌, ◌-◌, ◌<◌, Some, Result, Ok, refl, ap, ◌∙◌, arith}
use Rattle.serde_json.specs.Data.{Data}
use Rattle.phase_modes.specs.declared.refusal.Refusal.{Refusal}
use Rattle.phase_modes.specs.declared.refusal.Refusal.TheVariants.{Memory, BadText}
use Rattle.job_script.specs.Reading.{Fails}
use Rattle.job_script.specs.declared.head.Head.{Head}
use Rattle.job_script.specs.Names.{Seen}
use Rattle.job_script.specs.ActForms.{Said, said_in, head_of, inner_of}
use Rattle.job_script.specs.Form.{Read, act_in, acts_in, nothing_read, one_of, one_then}

-- what an act is, once the acts inside it are known to be this
opened : (depth less p : ℕ) (s t : Seen) (d : Data) (x : Said) (h : Head) → depth ≡ suc less → said_in d ≡ Some x → head_of s p x ≡ (h, t)
    → act_in depth p s d ≡ one_then p h (acts_in less (nothing_read (p + 1) t) (inner_of x))
opened depth less p s t d x h is said head = rw (is, said, head) refl

pub read_within : (depth p : ℕ) (s t : Seen) (d : Data) (x : Said) (h : Head) (r : Read) → 0 < depth → said_in d ≡ Some x → head_of s p x ≡ (h, t)
    → acts_in (depth - 1) (nothing_read (p + 1) t) (inner_of x) ≡ Ok r → act_in depth p s d ≡ Ok (one_of p h r)
read_within depth p s t d x h r positive said head inner =
    opened depth (depth - 1) p s t d x h (omega (arith, positive)) said head ∙ ap (one_then p h) inner

fails_then : (p : ℕ) (h : Head) (e : Refusal) (r : Result Read ℕ) → Fails e r → Fails e (one_then p h r)
fails_then p h Memory r f = tt
fails_then p h (BadText q) r f = ap (one_then p h) f
fails_then p h _ r f = absurd f

pub fails_within : (depth p : ℕ) (s t : Seen) (d : Data) (x : Said) (h : Head) (e : Refusal) → 0 < depth → said_in d ≡ Some x → head_of s p x ≡ (h, t)
    → Fails e (acts_in (depth - 1) (nothing_read (p + 1) t) (inner_of x)) → Fails e (act_in depth p s d)
fails_within depth p s t d x h e positive said head f =
    rw (opened depth (depth - 1) p s t d x h (omega (arith, positive)) said head) (fails_then p h e _ f)
