-- A mode's and an operator's name as JSON: nothing in it is escaped.
use Rattle.std.proofs.Common.{◌≡◌, refl}
use Rattle.json.specs.Print.{escape_byte}
use Rattle.phase_modes.specs.Mode.{name_of}
use Rattle.phase_modes.specs.declared.reg.Mode.{Mode}
use Rattle.phase_modes.specs.declared.reg.Mode.TheVariants.{Sig, Wait, SigWait, Single}
use Rattle.phase_model.specs.Ops as operators
use Rattle.phase_model.specs.declared.op.Op.{Op}
use Rattle.phase_model.specs.declared.op.Op.TheVariants.{Sum, Least, Greatest}
use Rattle.serde_json.specs.Written.{compact_text}
use Rattle.trace_text.specs.Text.{mode_data, op_data}
use Rattle.trace_text.specs.inner.Writing.{quoted}

pub mode_named : (m : Mode) → quoted (name_of m) ≡ compact_text (mode_data m)
unfolding escape_byte
mode_named Sig = refl
mode_named Wait = refl
mode_named SigWait = refl
mode_named Single = refl

pub op_named : (op : Op) → quoted (operators.name_of op) ≡ compact_text (op_data op)
unfolding escape_byte
op_named Sum = refl
op_named Least = refl
op_named Greatest = refl
