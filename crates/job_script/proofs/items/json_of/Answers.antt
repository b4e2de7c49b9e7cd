use Rattle.std.proofs.Common.{rules, ap}
use Rattle.serde_json.specs.Errors.{IsMemory}
use Rattle.job_script.specs.Reading.{json_read}
use Rattle.job_script.proofs.Utf8.{is_read, is_not_read}
use Rattle.job_script.proofs.items.json_of.Goals as goal

pub returns-in-Ok : goal.returns-in-Ok
returns-in-Ok c = ap json_read (is_read c.args.bytes.now _ c.in-Ok.ensures.ok.0 c.in-Ok.ensures.ok.1)

pub returns-else-is_memory : goal.returns-else-is_memory
returns-else-is_memory c =
    let apart : ¬ (IsMemory c.in-Err.error) = search rules in
    ap json_read (is_not_read c.args.bytes.now (c.in-Err.ensures.err apart))
