-- The bodies of a run once an act was made that a body gave.
use Rattle.std.proofs.Common.{ℕ, ◌≡◌, true, List, ◌∷◌, Option, refl, sym, subst, ap, ◌∙◌}
use Rattle.phase_modes.specs.declared.reg.Mode.{Mode}
use Rattle.phase_modes.specs.declared.phased.Pair.{Pair}
use Rattle.phase_model.specs.declared.op.Op.{Op}
use Rattle.job_script.specs.declared.act.Act as tasks
use Rattle.job_script.specs.declared.act.Act.TheVariants as acts
use Rattle.job_script.specs.Program.{Program}
use Rattle.job_script.specs.Steps.{Script, next_for}
use Rattle.world_model.specs.declared.event.Step.TheVariants.{Make}
use Rattle.world_model.specs.declared.event.Tried.{Tried}
use Rattle.world_model.specs.declared.event.WorldEvent.{WorldEvent}
use Rattle.world_model.specs.declared.event.WorldEvent.TheVariants.{Phaser}
use Rattle.world_model.specs.Drawing.{own_pairs}
use Rattle.trace_walk.specs.Picks.{event_of}
use Rattle.trace_walk.specs.Scripts.{Numbers, meanings, next_act, tried}
use Rattle.trace_walk.specs.Given.{tried_of}
use Rattle.trace_walk.specs.declared.seats.Seat.{Seat}
use Rattle.schedule_run.specs.inner.Bodies.{BodiesStand, IsAsked, seat_at}
use Rattle.trace_walk.proofs.Giving.{given-is-tried}
use Rattle.schedule_run.proofs.Seats.{is_plain, plain_stands}

tried_by : (p : Program) (w : List WorldEvent) (t : ℕ) (new : Numbers) (act : tasks.Act Script) → act ≡ next_for (meanings p w t) (next_act p w t) → tried_of (own_pairs t w) new act ≡ tried p w t new
tried_by p w t new act given = ap (λ (a : tasks.Act Script). tried_of (own_pairs t w) new a) given ∙ given-is-tried p w t new

-- the event by which a phaser is made
pub makes_phaser : (p : Program) (w : List WorldEvent) (t : ℕ) (new : Numbers) (act : tasks.Act Script) (m : Mode) (ops : List Op) (b : Option ℕ) → act ≡ next_for (meanings p w t) (next_act p w t) → act ≡ acts.New m ops b → Phaser new.phaser (Make t m (record { ops = ops; bound = b })) ≡ event_of t (tried p w t new)
makes_phaser p w t new act m ops b given is =
    ap (λ (a : tasks.Act Script). event_of t (tried_of (own_pairs t w) new a)) (sym is) ∙ ap (λ (a : Tried). event_of t a) (tried_by p w t new act given)

plain : (own : List Pair) (new : Numbers) (act : tasks.Act Script) → ((s : Script) (ps : List Pair) → act ≡ acts.Async s ps → ⊥) → ((s : Script) → act ≡ acts.AsyncAll s → ⊥) → ((m : Mode) (ops : List Op) (b : Option ℕ) → act ≡ acts.New m ops b → ⊥) → is_plain (tried_of own new act) ≡ true
plain own new (acts.New m ops x) a b c = absurd (c m ops x refl)
plain own new (acts.Async s ps) a b c = absurd (a s ps refl)
plain own new (acts.AsyncAll s) a b c = absurd (b s refl)
plain own new acts.OpenFinish a b c = refl
plain own new acts.ShutFinish a b c = refl
plain own new acts.Signal a b c = refl
plain own new acts.Wait a b c = refl
plain own new acts.Next a b c = refl
plain own new (acts.NextSingle n) a b c = refl
plain own new (acts.Send n i v) a b c = refl
plain own new (acts.Look n i) a b c = refl
plain own new acts.End a b c = refl

-- an act that makes no phaser and spawns nobody leaves the seats
pub plain_act : (p : Program) (w : List WorldEvent) (t : ℕ) (new : Numbers) (act : tasks.Act Script) (seats : List (Option (Seat Script))) → IsAsked p w t seats → act ≡ next_for (meanings p w t) (next_act p w t)
    → ((s : Script) (ps : List Pair) → act ≡ acts.Async s ps → ⊥) → ((s : Script) → act ≡ acts.AsyncAll s → ⊥) → ((m : Mode) (ops : List Op) (b : Option ℕ) → act ≡ acts.New m ops b → ⊥)
    → BodiesStand p (event_of t (tried p w t new) ∷ w) seats
plain_act p w t new act seats asked given a b c =
    subst (λ (x : Tried). BodiesStand p (event_of t x ∷ w) seats) (tried_by p w t new act given)
    (plain_stands p w t (seat_at seats) (tried_of (own_pairs t w) new act) (plain (own_pairs t w) new act a b c) asked)
