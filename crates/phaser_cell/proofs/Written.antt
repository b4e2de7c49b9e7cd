-- What a call leaves of the fact that a cell keeps: one step for all calls.
use Rattle.std.proofs.Common.{◌≡◌, ℕ, ◌+◌, ◌<◌, ◌≤◌, Bool, true, false, ◌&&◌, List, [], ◌∷◌, length, Option, cond, refl, ap, sym, ◌∙◌, subst, arith, ℤ}
use Rattle.std.specs.Result.{is_ok}
use Rattle.std.proofs.lemmas.Bool.{leb-true, and_parts}
use Rattle.phase_modes.specs.declared.limits.Limits.{Limits}
use Rattle.phase_modes.specs.Limits.{is_between, limits_fit}
use Rattle.phase_model.specs.declared.history.Event.{Event}
use Rattle.phase_model.specs.declared.history.Event.TheVariants.{Make, Reg, Sig, Claim, Did, Pass, Send, Look, Drop}
use Rattle.phase_model.specs.declared.op.Look.{Look as Seen}
use Rattle.phase_model.specs.declared.terms.Terms.{Terms}
use Rattle.phase_model.specs.Amounts.{Amount, amount, plus, totals}
use Rattle.phase_model.specs.Laws.{IsLegal}
use Rattle.phase_model.specs.Phases.{waits}
use Rattle.phase_model.specs.Singles.{reserve}
use Rattle.phase_model.specs.Tasks.{live_count}
use Rattle.phase_model.specs.Rules.{Story, is_permitted, is_legal, is_allowed, has_room, look_of}
use Rattle.phase_model.specs.declared.call.Call.{Call}
use Rattle.phase_model.specs.declared.call.Call.TheVariants.{Signal as signal, Pass as pass, Look as look}
use Rattle.phase_model.specs.Replies.{Reply, refused, not_yet, done, reply, after, done_result, event_for}
use Rattle.phase_model.proofs.OrderingLaw.{legal_is_ordered}
use Rattle.phase_model.proofs.Replied.{done_is_allowed, legal_after}
use Rattle.phase_model.specs.Answers.{signal_result, pass_result, look_result}
use Rattle.phaser_core.proofs.Limits.{history_fits}
use Rattle.share_book.specs.Accounts.{Entry, nothing}
use Rattle.phaser_core.specs.declared.parked.Parked.{Parked}
use Rattle.phaser_cell.specs.Amounts.{weight, amount_if, plus_nothing}
use Rattle.phaser_cell.specs.Cells.{IsKept}
use Rattle.phaser_core.specs.Parking.{all_wait, are_parked_once}
use Rattle.phaser_core.specs.Firsts.{is_made, has_gone_on}
use Rattle.phaser_core.specs.Settled.{IsSettled}
use Rattle.phaser_core.proofs.Steps.{event_is}

-- each event counts as one
pub one_event : (e : Event) → (amount e).events ≡ 1
one_event (Make t m) = refl
one_event (Reg q t m) = refl
one_event (Sig t x) = refl
one_event (Claim t) = refl
one_event (Did t) = refl
one_event (Pass t) = refl
one_event (Send t a v) = refl
one_event (Look t a x) = refl
one_event (Drop t) = refl

zero_plus : (n : ℕ) → 0 + n ≡ n
zero_plus n = omega arith

-- the story after a reply has the reply's amount more
pub record Moved (s s' : Story) (w : Amount) : Type 0 where
  pub limits : s'.limits ≡ s.limits
  pub sums : totals s'.past ≡ plus w (totals s.past)
  pub longer : length s'.past ≡ w.events + length s.past

pub moved : (s : Story) (r : Reply) → Moved s (after s r) (weight r)
moved s (refused x) = record { limits = refl; sums = plus_nothing (totals s.past); longer = sym (zero_plus (length s.past)) }
moved s not_yet = record { limits = refl; sums = plus_nothing (totals s.past); longer = sym (zero_plus (length s.past)) }
moved s (done e) = record { limits = refl; sums = refl; longer = omega (arith, one_event e) }

-- a history that takes one event more had room for it
pub within : (s : Story) (c : Call) (e : Event) → reply s c ≡ done e → length s.past < s.limits.history
within s c e k =
    let allowed : is_allowed s.limits s.terms s.past e ≡ true = done_is_allowed s c e k in
    let room : has_room s.limits (e ∷ s.past) ≡ true = (and_parts (is_permitted s.limits s.terms s.past e) (has_room s.limits (e ∷ s.past)) allowed).1 in
    omega (arith, leb-true (length (e ∷ s.past) + live_count (e ∷ s.past) + reserve (e ∷ s.past)) s.limits.history room)

pub short : (s : Story) (c : Call) (e : Event) → limits_fit s.limits ≡ true → reply s c ≡ done e → length s.past < 65536
short s c e fit k = omega (arith, history_fits s.limits fit, within s c e k)

-- whether a call has added its event, and what that amounts to
pub record Matches (s : Story) (c : Call) (added : Bool) (e : Event) : Type 0 where
  pub weighs : weight (reply s c) ≡ amount_if added e
  pub is_done : added ≡ true → reply s c ≡ done (event_for s.limits s.terms s.past c)

-- by a call's plain result
pub matches_result : (s : Story) (c : Call) (added : Bool) → added ≡ is_ok (done_result (reply s c)) → Matches s c added (event_for s.limits s.terms s.past c)
matches_result s c added k = subst (λ b. Matches s c b (event_for s.limits s.terms s.past c)) (sym k) (go (reply s c) refl)
  where
    go : (r : Reply) → reply s c ≡ r → Matches s c (is_ok (done_result r)) (event_for s.limits s.terms s.past c)
    go (refused x) e = record { weighs = ap weight e; is_done = λ n. absurd cc }
    go not_yet e = record { weighs = ap weight e; is_done = λ n. absurd cc }
    go (done f) e =
        let q : reply s c ≡ done (event_for s.limits s.terms s.past c) = e ∙ ap done (sym (event_is s c f e)) in
        record { weighs = ap weight q; is_done = λ n. q }

-- by the answer to a signal
pub matches_signal : (s : Story) (t : ℕ) (x : Option ℕ) (added : Bool) → added ≡ is_made (signal_result (reply s (signal t x))) → Matches s (signal t x) added (Sig t x)
matches_signal s t x added k = subst (λ b. Matches s (signal t x) b (Sig t x)) (sym k) (go (reply s (signal t x)) refl)
  where
    go : (r : Reply) → reply s (signal t x) ≡ r → Matches s (signal t x) (is_made (signal_result r)) (Sig t x)
    go (refused y) e = record { weighs = ap weight e; is_done = λ n. absurd cc }
    go not_yet e = record { weighs = ap weight e; is_done = λ n. absurd cc }
    go (done f) e =
        let q : reply s (signal t x) ≡ done (Sig t x) = e ∙ ap done (sym (event_is s (signal t x) f e)) in
        record { weighs = ap weight q; is_done = λ n. q }

-- by what a look saw, which its event records too
pub matches_look : (s : Story) (t a : ℕ) (x : Seen ℤ) (added : Bool) → added ≡ is_ok (look_result (reply s (look t a))) → Matches s (look t a) added (Look t a x)
matches_look s t a x added k = subst (λ b. Matches s (look t a) b (Look t a x)) (sym k) (go (reply s (look t a)) refl)
  where
    v : Seen ℤ
    v = look_of s.terms.ops a (waits t s.past) s.past

    go : (r : Reply) → reply s (look t a) ≡ r → Matches s (look t a) (is_ok (look_result r)) (Look t a x)
    go (refused y) e = record { weighs = ap weight e; is_done = λ n. absurd cc }
    go not_yet e = record { weighs = ap weight e; is_done = λ n. absurd cc }
    go (done f) e =
        let i : Look t a v ≡ f = event_is s (look t a) f e in
        let q : reply s (look t a) ≡ done (Look t a v) = e ∙ ap done (sym i) in
        subst (λ g. Matches s (look t a) (is_ok (look_result (done g))) (Look t a x)) i (record { weighs = ap weight q; is_done = λ n. q })

-- by the answer to a pass, whether it ended the turn or claimed
pub matches_pass : (s : Story) (t : ℕ) (added : Bool) → added ≡ has_gone_on (pass_result s.past (reply s (pass t))) → Matches s (pass t) added (Pass t)
matches_pass s t added k = subst (λ b. Matches s (pass t) b (Pass t)) (sym k) (go (reply s (pass t)) refl)
  where
    by_event : (f : Event) (b : Bool) → cond b (Claim t) (Pass t) ≡ f → reply s (pass t) ≡ done f → Matches s (pass t) (has_gone_on (pass_result s.past (done f))) (Pass t)
    by_event f true i e =
        let q = e ∙ ap done (sym (event_is s (pass t) f e)) in
        subst (λ g. Matches s (pass t) (has_gone_on (pass_result s.past (done g))) (Pass t)) i (record { weighs = ap weight (e ∙ ap done (sym i)); is_done = λ n. q })
    by_event f false i e =
        let q = e ∙ ap done (sym (event_is s (pass t) f e)) in
        subst (λ g. Matches s (pass t) (has_gone_on (pass_result s.past (done g))) (Pass t)) i (record { weighs = ap weight (e ∙ ap done (sym i)); is_done = λ n. q })

    go : (r : Reply) → reply s (pass t) ≡ r → Matches s (pass t) (has_gone_on (pass_result s.past r)) (Pass t)
    go (refused y) e = record { weighs = ap weight e; is_done = λ n. absurd cc }
    go not_yet e = record { weighs = ap weight e; is_done = λ n. absurd cc }
    go (done f) e = by_event f (is_permitted s.limits s.terms s.past (Claim t)) (event_is s (pass t) f e) e

-- where it hasn't, all is as before
pub unadded : (s : Story) (c : Call) (added : Bool) (e : Event) → Matches s c added e → added ≡ false → after s (reply s c) ≡ s
unadded s c added e matches n = go (reply s c) refl
  where
    go : (r : Reply) → reply s c ≡ r → after s (reply s c) ≡ s
    go (refused x) q = ap (after s) q
    go not_yet q = ap (after s) q
    go (done f) q =
        let one : 1 ≡ 0 = sym (one_event f) ∙ (ap (λ r. (weight r).events) (sym q) ∙ (ap (λ a. a.events) matches.weighs ∙ ap (λ b. (amount_if b e).events) n)) in
        absurd (omega (arith, one))

-- where a call has added its event, the phaser's book had room for it
pub has_room_left : {T : Type 0} (s : Story) (b : Entry) (ps : List (Parked T)) (c : Call) (added : Bool) (e : Event) → IsKept s b ps → Matches s c added e → added ≡ true → 0 < b.room
has_room_left s b ps c added e k matches n =
    omega (arith, k.room, short s c (event_for s.limits s.terms s.past c) k.fit (matches.is_done n))

-- a phaser's events have so many tickets, and there is room for the tickets of as many events as it may have
pub record Ticketed (s : Story) (drawn room : ℕ) : Type 0 where
  pub each : drawn ≡ length s.past
  pub fits : s.limits.history ≤ room

-- where a call has added its event, there was room for its ticket
pub ticket_fits : (s : Story) (drawn room : ℕ) (c : Call) (added : Bool) (e : Event) → drawn ≡ length s.past → s.limits.history ≤ room → Matches s c added e → added ≡ true → drawn < room
ticket_fits s drawn room c added e each fits matches n = omega (arith, each, fits, within s c (event_for s.limits s.terms s.past c) (matches.is_done n))

-- the step of all calls for the tickets: one was drawn where an event was added
pub ticketed : (s s' : Story) (drawn drawn' room room' : ℕ) (c : Call) (added : Bool) (e : Event)
    → drawn ≡ length s.past
    → s.limits.history ≤ room
    → Matches s c added e
    → s' ≡ after s (reply s c)
    → drawn' ≡ drawn + (amount_if added e).events
    → room' ≡ room
    → Ticketed s' drawn' room'
ticketed s s' drawn drawn' room room' c added e each fits matches is more same =
    let m = moved s (reply s c) in
    record {
      each = omega (arith, each, more, m.longer, ap (λ x. x.events) matches.weighs, ap (λ (v : Story). length v.past) is);
      fits = omega (arith, fits, same, ap (λ (v : Story). v.limits.history) is, ap (λ (l : Limits). l.history) m.limits);
    }

-- the step of all calls: what the cell keeps, it keeps after it
pub kept : {T : Type 0} (s s' : Story) (b b' : Entry) (ps ps' : List (Parked T)) (c : Call) (added : Bool) (e : Event)
    → IsKept s b ps
    → Matches s c added e
    → s' ≡ after s (reply s c)
    → b'.totals ≡ plus (amount_if added e) b.totals
    → b'.room + (amount_if added e).events ≡ b.room
    → all_wait s' ps' ≡ true
    → are_parked_once ps' ≡ true
    → IsKept s' b' ps'
kept s s' b b' ps ps' c added e k matches is posted room waiting once =
    let m = moved s (reply s c) in
    let w = weight (reply s c) in
    let legal : IsLegal s' = subst (λ (v : Story). IsLegal v) (sym is) (legal_after s c k.legal) in
    record {
      fit = ap (λ (v : Story). limits_fit v.limits) is ∙ (ap limits_fit m.limits ∙ k.fit);
      legal = legal;
      ordered = legal_is_ordered s'.limits s'.terms s'.past legal;
      posted = posted ∙ (ap (λ x. plus x b.totals) (sym matches.weighs) ∙ (ap (λ x. plus w x) k.posted ∙ (sym m.sums ∙ ap (λ (v : Story). totals v.past) (sym is))));
      room = omega (arith, room, k.room, m.longer, ap (λ x. x.events) matches.weighs, ap (λ (v : Story). length v.past) is);
      waiting = waiting;
      once = once;
    }

-- what is raised by the event's amount is raised by the reply's
pub raised : (s : Story) (c : Call) (added : Bool) (e : Event) (a a' : Amount) → Matches s c added e → a' ≡ plus (amount_if added e) a → a' ≡ plus (weight (reply s c)) a
raised s c added e a a' matches k = k ∙ ap (λ x. plus x a) (sym matches.weighs)

-- room for 256 registrations at most
regs_between : (l : Limits) → limits_fit l ≡ true → is_between 1 l.regs 256 ≡ true
regs_between l k =
    let a = is_between 1 l.acts 65536 in
    let b = is_between 1 l.finishes 1024 in
    let c = is_between 4 l.history 65536 in
    let d = is_between 1 l.phasers 64 in
    let e = is_between 1 l.regs 256 in
    let f = is_between 1 l.tasks 4096 in
    let k5 = and_parts (a && b && c && d && e) f k in
    (and_parts (a && b && c && d) e k5.0).1

-- what the parked ones' laws want to know of it
pub settled_of : {T : Type 0} (s : Story) (b : Entry) (ps : List (Parked T)) → IsKept s b ps → IsSettled s ps
settled_of s b ps k =
    record { regs = regs_between s.limits k.fit; legal = k.legal; ordered = k.ordered; waiting = k.waiting; once = k.once }

-- a phaser that nobody has made, and nothing posted
pub fresh_is_kept : {T : Type 0} (l : Limits) (terms : Terms) (s : Story) (b : Entry) (ps : List (Parked T)) → limits_fit l ≡ true → s ≡ record { limits = l; terms = terms; past = [] } → b.totals ≡ nothing → b.room ≡ 65536 → ps ≡ [] → IsKept s b ps
fresh_is_kept l terms s b ps fit is none room empty =
    let legal : IsLegal s = ap (λ (v : Story). is_legal v.limits v.terms v.past) is in
    record {
      fit = ap (λ (v : Story). limits_fit v.limits) is ∙ fit;
      legal = legal;
      ordered = legal_is_ordered s.limits s.terms s.past legal;
      posted = none ∙ sym (ap (λ (v : Story). totals v.past) is);
      room = omega (arith, room, ap (λ (v : Story). length v.past) is);
      waiting = ap (λ (l : List (Parked _)). all_wait s l) empty;
      once = ap (λ (l : List (Parked _)). are_parked_once l) empty;
    }
