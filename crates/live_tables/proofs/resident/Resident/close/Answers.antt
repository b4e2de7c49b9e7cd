use Rattle.live_tables.proofs.Projects.{none_at_all}
use Rattle.live_tables.proofs.resident.Resident.close.Goals as goal

pub after-requires-clause-gone : goal.after-requires-clause-gone
after-requires-clause-gone g c =
    let r = c.args.self in
    none_at_all r.number r.whole.items r.cell.state.story r.told c.requires r.gone
