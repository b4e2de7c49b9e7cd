-- The events file that a JSON value spells, or the place of its first fault.
use Rattle.std.specs.Prelude.{ℕ, not, List, [], ◌∷◌, if◌then◌else◌, Option, Some, None, Result, Ok, Err, codes}
use Rattle.std.specs.Str.{bytes_eq}
use Rattle.serde_json.specs.Data.{Data, Items}
use Rattle.serde_json.specs.Find.{get, as_array}
use Rattle.phase_modes.specs.declared.limits.Limits.{Limits}
use Rattle.phase_model.specs.declared.op.Op.{Op}
use Rattle.phase_model.specs.declared.call.Call.{Call}
use Rattle.phase_model.specs.declared.call.Call.TheVariants.{Make as make, Register as register, Signal as signal, Pass as pass, SingleDone as single_done, Send as send, Look as look, Drop as drop_task}
use Rattle.job_script.specs.Words.{◌>>=◌, ends_at, word_at, number_at, accumulator_at, value_at, mode_at, numbered_in, ops_in, bound_in, has_only, limits_of}

-- ---- what a text says

-- the limits of a phaser, the operators of its accumulators, its bound, if it has one, and the calls on it, in order
pub record Form : Type 0 where
  pub limits : Limits
  pub ops : List Op
  pub bound : Option ℕ
  pub calls : List Call

-- ---- calls

-- ["make", t, mode]
unfoldable pub make_in : Data → Option Call
make_in d =
    if not (ends_at 3 d) then None
    else (number_at 1 d >>= λ t. mode_at 2 d >>= λ m. Some (make t m))

-- ["reg", q, t, mode]
unfoldable pub register_in : Data → Option Call
register_in d =
    if not (ends_at 4 d) then None
    else (number_at 1 d >>= λ q. number_at 2 d >>= λ t. mode_at 3 d >>= λ m. Some (register q t m))

-- ["sig", t], or ["sig", t, n]
unfoldable pub signal_in : Data → Option Call
signal_in d =
    if not (ends_at 3 d) then None
    else (number_at 1 d >>= λ t.
    if ends_at 2 d then Some (signal t None) else (number_at 2 d >>= λ n. Some (signal t (Some n))))

-- ["pass", t]
unfoldable pub pass_in : Data → Option Call
pass_in d = if not (ends_at 2 d) then None else (number_at 1 d >>= λ t. Some (pass t))

-- ["did", t]
unfoldable pub did_in : Data → Option Call
did_in d = if not (ends_at 2 d) then None else (number_at 1 d >>= λ t. Some (single_done t))

-- ["send", t, a, v]
unfoldable pub send_in : Data → Option Call
send_in d =
    if not (ends_at 4 d) then None
    else (number_at 1 d >>= λ t. accumulator_at 2 d >>= λ a. value_at 3 d >>= λ v. Some (send t a v))

-- ["look", t, a]
unfoldable pub look_in : Data → Option Call
look_in d =
    if not (ends_at 3 d) then None
    else (number_at 1 d >>= λ t. accumulator_at 2 d >>= λ a. Some (look t a))

-- ["drop", t]
unfoldable pub drop_in : Data → Option Call
drop_in d = if not (ends_at 2 d) then None else (number_at 1 d >>= λ t. Some (drop_task t))

-- a call, by its name, which is its first item
unfoldable pub call_in : Data → Option Call
call_in d = word_at 0 d >>= λ name.
    if bytes_eq name (codes "make") then make_in d
    else (if bytes_eq name (codes "reg") then register_in d
    else (if bytes_eq name (codes "sig") then signal_in d
    else (if bytes_eq name (codes "pass") then pass_in d
    else (if bytes_eq name (codes "did") then did_in d
    else (if bytes_eq name (codes "send") then send_in d
    else (if bytes_eq name (codes "look") then look_in d
    else (if bytes_eq name (codes "drop") then drop_in d
    else None)))))))

-- ---- the file

-- the operators, or none if the key is absent
abbrev pub ops_or : Option Data → Option (List Op)
ops_or None = Some []
ops_or (Some d) = ops_in d

-- the bound, or none if the key is absent
abbrev pub bound_or : Option Data → Option (Option ℕ)
bound_or None = Some None
bound_or (Some d) = bound_in d >>= λ b. Some (Some b)

-- the limits, the operators, the bound and the list of the calls, if nothing is wrong outside the calls
unfoldable pub outer_in : Data → Option (Limits × List Op × Option ℕ × Items)
outer_in d =
    if not (has_only (codes "limits" ∷ codes "accs" ∷ codes "bound" ∷ codes "calls" ∷ []) d) then None
    else (limits_of d >>= λ limits.
    ops_or (get (codes "accs") d) >>= λ ops.
    bound_or (get (codes "bound") d) >>= λ bound.
    get (codes "calls") d >>= as_array >>= λ calls. Some (limits, ops, bound, calls))

abbrev pub with_outer : Limits → List Op → Option ℕ → Result (List Call) ℕ → Result Form ℕ
with_outer limits ops bound (Ok calls) =
    Ok (record { limits = limits; ops = ops; bound = bound; calls = calls })
with_outer limits ops bound (Err p) = Err p

abbrev pub form_of_outer : Option (Limits × List Op × Option ℕ × Items) → Result Form ℕ
form_of_outer None = Err 0
form_of_outer (Some o) = with_outer o.0 o.1 o.2 (numbered_in call_in 1 o.3)

-- the file that a JSON value spells, or the place of its first fault
abbrev pub form : Data → Result Form ℕ
form d = form_of_outer (outer_in d)

-- the file that a text spells; what is no JSON is at fault at 0
abbrev pub form_of : Option Data → Result Form ℕ
form_of None = Err 0
form_of (Some d) = form d
