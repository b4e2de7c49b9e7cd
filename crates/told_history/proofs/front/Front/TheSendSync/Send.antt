-- It owns no memory, and what it owns names no thread.
use denote.RattleType.{RattleType}
use denote.Param.Send.{IsSend}
use Rattle.told_history.specs.contracts.front.Front.{the_row}
use Rattle.told_history.proofs.SeenFields.{front_keyless}

pub send : (A : RattleType) → IsSend (the_row A)
send A = record { owned = λ d vs. ((λ vss. (tt, ((λ uss. (tt, tt)), tt))), front_keyless A.coded.code d.name d.items); leaving = λ k f vs. tt }
