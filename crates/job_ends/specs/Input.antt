-- What a clause says of each answer of reading.
use Rattle.std.specs.Prelude.{◌≡◌, ℕ, List, false, ⊤}
use Rattle.job_ends.specs.declared.input.Reads.{Reads}
use Rattle.job_ends.specs.declared.input.ReadAll.{ReadAll}
use Rattle.job_ends.specs.declared.input.ReadAll.TheVariants.{Bytes, TooLong, Fault, Memory}

-- no read was made yet
abbrev pub IsFresh : Reads → Type 0
IsFresh reads = (reads.made ≡ 0) × (reads.failed ≡ false)

-- P of the bytes, if there are bytes
abbrev pub IfBytes : ReadAll → (List ℕ → Type 0) → Type 0
IfBytes (Bytes v) P = P v.items
IfBytes TooLong P = ⊤
IfBytes Fault P = ⊤
IfBytes Memory P = ⊤

-- P, if there were too many
abbrev pub IfTooLong : ReadAll → Type 0 → Type 0
IfTooLong (Bytes v) P = ⊤
IfTooLong TooLong P = P
IfTooLong Fault P = ⊤
IfTooLong Memory P = ⊤

-- P, if reading failed
abbrev pub IfFault : ReadAll → Type 0 → Type 0
IfFault (Bytes v) P = ⊤
IfFault TooLong P = ⊤
IfFault Fault P = P
IfFault Memory P = ⊤
