use Rattle.std.proofs.Common.{◌≡◌, length, map, vec_len, vec_capacity}
use Rattle.phaser_cell.specs.Telling.{ArePhaserParts}
use Rattle.table_receipts.specs.Parts.{AreLogged}
use Rattle.table_receipts.proofs.table.ReceiptTable.into_parts.Given as goal

abbrev pub invariant-loop-cell : goal.invariant-loop-cell
invariant-loop-cell g l = record {
  parts : vec_len l.parts ≡ length l.yielded;
  books : vec_len l.phasers ≡ length l.yielded;
  of_logs : vec_len l.logs ≡ length l.yielded;
  room_for_parts : vec_capacity l.parts ≡ vec_capacity l.initial.parts;
  room_for_books : vec_capacity l.phasers ≡ vec_capacity l.initial.phasers;
  room_for_logs : vec_capacity l.logs ≡ vec_capacity l.initial.logs;
  told : ArePhaserParts 0 l.parts.items (map (λ b. b.totals) l.phasers.items);
  logged : AreLogged g.K.Logs.logs 0 l.parts.items l.logs.items;
}
