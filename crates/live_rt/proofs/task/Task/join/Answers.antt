use Rattle.std.proofs.Common.{◌≡◌, ◌++◌, ◌∷◌, [], length, refl, Option, List, Result, Ok, Err, sym, subst, ap, ◌∙◌}
use Rattle.std.proofs.Math.Logic.{∥∥₁_map₂}
use Rattle.std.specs.Prelude.{OnOk, OnErr}
use Rattle.phase_modes.specs.declared.refusal.Refusal.{Refusal}
use Rattle.job_script.specs.declared.act.Answer.{Answer}
use Rattle.task_standing.specs.Known.{Known}
use Rattle.live_rt.specs.inner.Places.{Spot, spot}
use Rattle.live_rt.specs.inner.Says.{IsAbout, IsUnborn}
use Rattle.live_rt.proofs.Seen.{put_there}
use Rattle.live_rt.proofs.About.{about_joined}
use Rattle.live_rt.proofs.task.Task.join.Goals as goal

-- whether it joined or not, its number and what it is about are the same
whichever : (r : Result (Unit {0}) Refusal) (old joined new : Known) (P : Type 0) → joined.number ≡ old.number → joined.plan ≡ old.plan
    → OnOk r (new ≡ joined) → OnErr r (P × (new ≡ old)) → (new.number ≡ old.number) × (new.plan ≡ old.plan)
whichever (Ok u) old joined new P number plan done full =
    (ap (λ (k : Known). k.number) done ∙ number, ap (λ (k : Known). k.plan) done ∙ plan)
whichever (Err e) old joined new P number plan done full = (ap (λ (k : Known). k.number) full.1, ap (λ (k : Known). k.plan) full.1)

pub invariant_of-self : goal.invariant_of-self
invariant_of-self g c =
    let old = c.args.self.now in record {
      end = old.end;
      about = subst (λ (ps : List Spot). ∥ (g.J.Supposing.supposed → IsAbout g.B.Body.shows old.body old.answer ps old.standing) ∥₁) (sym c.in_err-add.ensures.refused) old.about;
    }

pub invariant_of-self-2 : goal.invariant_of-self-2
invariant_of-self-2 g c =
    let old = c.args.self.now in
    let p = spot c.args.place.at c.args.place.me c.args.place.seen.items in
    let both : ∥ (g.J.Supposing.supposed → IsUnborn g.B.Body.shows old.body old.standing.number old.places (p ∷ [])
    × IsAbout g.B.Body.shows old.body old.answer old.places old.standing) ∥₁ =
    ∥∥₁_map₂ c.requires.unborn old.about (λ u f q. (u q, f q)) in
    let same = whichever c.join.result old.standing (record old.standing { holding = old.standing.holding ++ c.args.held ∷ [] }) c.join.new.self
    (length old.standing.holding ≡ 16) refl refl c.join.ensures.joined c.join.ensures.full in record {
      end = old.end;
      about = ∥∥₁_map₂ c.requires.newborn both (λ is f q. let now = f q in
          subst (λ (a : Option Answer). IsAbout g.B.Body.shows old.body a c.add.new.self c.join.new.self) (sym is)
          (about_joined g.B.Body.shows old.body old.places old.standing c.join.new.self p c.add.new.self (c.is_legal.ensures.legal c.args.place.at.number)
          (put_there p old.places c.add.new.self c.in_ok-add.ensures.here c.in_ok-add.ensures.others)
          same.0 same.1 now.0
          (subst (λ (a : Option Answer). IsAbout g.B.Body.shows old.body a old.places old.standing) is now.1)));
    }
