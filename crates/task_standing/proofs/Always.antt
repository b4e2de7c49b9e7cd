-- Who notes each event of its own knows what the history says, until it ends or gives up.
use Rattle.std.proofs.Common.{◌≡◌, ℕ, ◌==◌, Bool, true, false, ◌||◌, List, [], ◌∷◌, ◌++◌, refl, sym, subst, ◌∙◌, inl, inr}
use Rattle.std.specs.List.{list_any}
use Rattle.std.proofs.lemmas.Bool.{cases_Bool, eq-eqb, or_parts, or_right, true≢false}
use Rattle.phase_modes.specs.declared.limits.Limits.{Limits}
use Rattle.finish_core.specs.declared.event.FinishEvent.TheVariants.{Opened, Spawned, Ended, Shut as Shutting}
use Rattle.world_model.specs.declared.event.Begun.TheVariants.{Async, Signal, Wait, Next, NextSingle, Shut, End}
use Rattle.world_model.specs.declared.event.Step.TheVariants.{Make, Reg, Sig, Claim, Did, Pass, Send, Look, Drop}
use Rattle.world_model.specs.declared.event.WorldEvent.{WorldEvent}
use Rattle.world_model.specs.declared.event.WorldEvent.TheVariants.{Phaser, Finish, Begin, Refuse, Fail}
use Rattle.world_model.specs.Actors.{actor}
use Rattle.world_model.specs.Replies.{is_legal_world}
use Rattle.world_model.specs.Tasks.{is_born, is_ended, ends, spawns}
use Rattle.world_model.proofs.MadeMeans.{last_accepted}
use Rattle.task_standing.specs.Known.{Known}
use Rattle.task_standing.specs.Laws.{NamesFew}
use Rattle.task_standing.specs.Noted.{noted}
use Rattle.task_standing.specs.AfterEvents.{known_after, known_later, gives_up, fails_alone, NotesStayTrue}
use Rattle.task_standing.proofs.Few.{plans_name_few}
use Rattle.task_standing.proofs.Noted.{events_are_noted}

own_number : (e : WorldEvent) (k : Known) → (noted e k).number ≡ k.number
own_number (Phaser n (Make t m terms)) k = refl
own_number (Phaser n (Reg t c m)) k = refl
own_number (Phaser n (Sig t x)) k = refl
own_number (Phaser n (Claim t)) k = refl
own_number (Phaser n (Did t)) k = refl
own_number (Phaser n (Pass t)) k = refl
own_number (Phaser n (Send t i v)) k = refl
own_number (Phaser n (Look t i)) k = refl
own_number (Phaser n (Drop t)) k = refl
own_number (Finish f (Opened t)) k = refl
own_number (Finish f (Spawned c)) k = refl
own_number (Finish f (Ended t)) k = refl
own_number (Finish f Shutting) k = refl
own_number (Begin t (Async c ps)) k = refl
own_number (Begin t Signal) k = refl
own_number (Begin t Wait) k = refl
own_number (Begin t Next) k = refl
own_number (Begin t (NextSingle x)) k = refl
own_number (Begin t Shut) k = refl
own_number (Begin t End) k = refl
own_number (Refuse t a n) k = refl
own_number (Fail t n) k = refl

number_stays : (e : WorldEvent) (w : List WorldEvent) (k : Known) → (known_after e w k).number ≡ k.number
number_stays e w k =
    elim (cases_Bool (actor w e == k.number)) [ inl own ↦ rw own (own_number e k) | inr other ↦ rw other refl ]

number_later : (es w : List WorldEvent) (k : Known) → (known_later es w k).number ≡ k.number
number_later [] w k = refl
number_later (e ∷ es) w k = number_stays e (es ++ w) (known_later es w k) ∙ number_later es w k

born_later : (t : ℕ) (es w : List WorldEvent) → is_born t w ≡ true → is_born t (es ++ w) ≡ true
born_later t [] w b = b
born_later t (e ∷ es) w b = by (t == 0) (spawns t e) (list_any (spawns t) (es ++ w)) (born_later t es w b)
  where
    by : (x y z : Bool) → (x || z) ≡ true → (x || (y || z)) ≡ true
    by true y z h = refl
    by false y z h = or_right y z h

goes_alone : (e : WorldEvent) (k : Known) (t : ℕ) → k.number ≡ t → gives_up t e ≡ false → fails_alone e k
goes_alone (Fail u n) k t same g = λ h. absurd (true≢false (sym (eq-eqb u t (h ∙ same)) ∙ g))
goes_alone (Phaser n s) k t same g = tt
goes_alone (Finish f d) k t same g = tt
goes_alone (Begin u b) k t same g = tt
goes_alone (Refuse u a n) k t same g = tt

few_later : (l : Limits) (es w : List WorldEvent) (k : Known) → is_legal_world l (es ++ w) ≡ true → NamesFew k.plan
    → NamesFew (known_later es w k).plan
few_later l [] w k legal few = few
few_later l (e ∷ es) w k legal few =
    plans_name_few l e (es ++ w) (known_later es w k) legal
    (few_later l es w k (last_accepted l e (es ++ w) legal).1 few)

pub notes_stay_true : NotesStayTrue
notes_stay_true l w k fit born few st [] legal stays goes = st
notes_stay_true l w k fit born few st (e ∷ es) legal stays goes =
    let t = k.number in
    let v = es ++ w in
    let before = (last_accepted l e v legal).1 in
    let s = or_parts (ends t e) (is_ended t v) stays in
    let g = or_parts (gives_up t e) (list_any (gives_up t) es) goes in
    let same : (known_later es w k).number ≡ t = number_later es w k in
    events_are_noted l e v (known_later es w k) fit legal
    (subst (λ u. is_born u v ≡ true) (sym same) (born_later t es w born))
    (few_later l es w k before few)
    (subst (λ u. ends u e ≡ false) (sym same) s.0)
    (goes_alone e (known_later es w k) t same g.0)
    (notes_stay_true l w k fit born few st es before s.1 g.1)
