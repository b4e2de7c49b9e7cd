use Rattle.std.specs.Prelude.{⊤}
use Rattle.job_script.specs.Words.{only_keys, limits_in, named_limits_in, mode_in, op_in, all_in}
use Rattle.job_script.specs.ActForms.{said_in, plain_in, new_in, single_in, send_in, look_in, pair_in, async_in, async_all_in, repeat_in}
use Rattle.job_script.specs.Form.{outer_in}

-- what is unfolded to compute the program that a JSON value spells
unfoldable pub texts : ⊤
unfolding only_keys limits_in named_limits_in mode_in op_in all_in outer_in said_in plain_in new_in single_in send_in look_in pair_in async_in async_all_in repeat_in
texts = tt
