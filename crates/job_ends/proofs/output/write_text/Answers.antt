use Rattle.std.proofs.KnownBytes.{Appends-kept}
use Rattle.job_ends.proofs.Fronts.{goes_on, stays_within}
use Rattle.job_ends.proofs.output.write_text.Goals.{in-Ok, in-Err}
use Rattle.job_ends.proofs.output.write_text.Goals as goal

pub loop-preserved : goal.loop-preserved
loop-preserved g c =
    let so_far = c.loop.invariant in
    elim c.match-write.branch [
      | in-Ok w ↦ rw w.written-is (record {
        within = stays_within _ _ _ so_far.within w.in-Ok.ensures.bound;
        front = goes_on _ _ _ _ _ _ so_far.front w.in-Ok.ensures.bytes;
      })
      | in-Err w ↦ rw w.written-is (record {
        within = so_far.within;
        front = Appends-kept _ _ _ _ so_far.front w.in-Err.ensures.bytes;
      })
    ]
