-- What a body gives is what its task makes next.
use Rattle.std.proofs.Common.{ℕ, ◌≡◌, List, Option, Some, None, refl}
use Rattle.job_script.specs.declared.head.Head.{Head}
use Rattle.job_script.specs.declared.head.Head.TheVariants as acts
use Rattle.job_script.specs.Acts.{Act, Acts}
use Rattle.job_script.specs.Program.{Program}
use Rattle.job_script.specs.Steps.{act_for, next_for}
use Rattle.world_model.specs.declared.event.WorldEvent.{WorldEvent}
use Rattle.world_model.specs.Drawing.{own_pairs}
use Rattle.trace_walk.specs.Scripts.{Numbers, meanings, next_act, tried_as, tried_next, tried}
use Rattle.trace_walk.specs.Given.{tried_of}

head_given : (w : List WorldEvent) (t : ℕ) (ms : List ℕ) (new : Numbers) (h : Head) (body : Acts)
    → tried_of (own_pairs t w) new (act_for ms h body) ≡ tried_as w t ms new h
head_given w t ms new (acts.New name m terms) body = refl
head_given w t ms new (acts.Async xs) body = refl
head_given w t ms new acts.AsyncAll body = refl
head_given w t ms new acts.OpenFinish body = refl
head_given w t ms new acts.ShutFinish body = refl
head_given w t ms new acts.Signal body = refl
head_given w t ms new acts.Wait body = refl
head_given w t ms new acts.Next body = refl
head_given w t ms new (acts.NextSingle n) body = refl
head_given w t ms new (acts.Send name a v) body = refl
head_given w t ms new (acts.Look name a) body = refl
head_given w t ms new (acts.Repeat k) body = refl

pub next_given : (w : List WorldEvent) (t : ℕ) (ms : List ℕ) (new : Numbers) (o : Option Act)
    → tried_of (own_pairs t w) new (next_for ms o) ≡ tried_next w t ms new o
next_given w t ms new None = refl
next_given w t ms new (Some a) = head_given w t ms new a.head a.body

-- the act that is given is the act that is tried
pub given-is-tried : (p : Program) (w : List WorldEvent) (t : ℕ) (new : Numbers)
    → tried_of (own_pairs t w) new (next_for (meanings p w t) (next_act p w t)) ≡ tried p w t new
given-is-tried p w t new = next_given w t (meanings p w t) new (next_act p w t)
