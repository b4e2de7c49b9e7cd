-- The handles that C holds, each as a `Holder`.
use Rattle.std.proofs.Common.{refl}
use Rattle.phaser_core.specs.contracts.state.PhaserState.{the_row as phaser_row}
use Rattle.phaser_c.specs.contracts.waiting.Waiting.{the_row as waiting_row}
use Rattle.phaser_c.specs.contracts.handle.Handle.{the_type as handle_type}
use Rattle.phaser_c.specs.contracts.waiting_handle.WaitingHandle.{the_type as waiting_handle_type}
use Rattle.phaser_judge.specs.contracts.judge.Judge.{the_row as judge_row}
use Rattle.phaser_c.specs.contracts.judge_handle.JudgeHandle.{the_type as judge_handle_type}
use Rattle.phaser_c.specs.contracts.level_task.LevelTask.{the_row as level_row}
use Rattle.phaser_c.specs.contracts.level_handle.LevelHandle.{the_type as level_handle_type}
use Rattle.phaser_c.specs.contracts.level_keeper.LevelKeeper.{the_row as keeper_row}
use Rattle.phaser_c.specs.contracts.keeper_handle.KeeperHandle.{the_type as keeper_handle_type}
use Rattle.phaser_c.proofs.Held.{Holder}

abbrev pub handle : Holder phaser_row
handle = record {
  the_type = handle_type;
  at = λ d. d.at;
  state = λ d. d.state;
  make = λ p s. record { at = p; state = s };
  at_made = λ p s. refl;
  state_made = λ p s. refl;
}

abbrev pub waiting_handle : Holder waiting_row
waiting_handle = record {
  the_type = waiting_handle_type;
  at = λ d. d.at;
  state = λ d. d.state;
  make = λ p s. record { at = p; state = s };
  at_made = λ p s. refl;
  state_made = λ p s. refl;
}

abbrev pub judge_handle : Holder judge_row
judge_handle = record {
  the_type = judge_handle_type;
  at = λ d. d.at;
  state = λ d. d.state;
  make = λ p s. record { at = p; state = s };
  at_made = λ p s. refl;
  state_made = λ p s. refl;
}

abbrev pub level_handle : Holder level_row
level_handle = record {
  the_type = level_handle_type;
  at = λ d. d.at;
  state = λ d. d.state;
  make = λ p s. record { at = p; state = s };
  at_made = λ p s. refl;
  state_made = λ p s. refl;
}

abbrev pub keeper_handle : Holder keeper_row
keeper_handle = record {
  the_type = keeper_handle_type;
  at = λ d. d.at;
  state = λ d. d.state;
  make = λ p s. record { at = p; state = s };
  at_made = λ p s. refl;
  state_made = λ p s. refl;
}
