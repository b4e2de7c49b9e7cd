-- It owns no memory, and what it owns names no thread.
use denote.RattleType.{RattleType}
use denote.Param.Send.{IsSend}
use Rattle.told_history.specs.contracts.log.Whole.{the_row}
use Rattle.told_history.proofs.Fields.{whole_keyless}

pub send : (A : RattleType) → IsSend (the_row A)
send A = record { owned = λ d vs. ((λ vss. (tt, ((λ uss. (tt, tt)), tt))), whole_keyless A.coded.code d.name d.items); leaving = λ k f vs. tt }
