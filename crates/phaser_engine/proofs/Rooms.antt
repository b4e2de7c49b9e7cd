-- Room for each event, as the table and the last single show it.
use Rattle.std.proofs.Common.{◌≡◌, ℕ, suc, ◌+◌, ◌<◌, ◌≤◌, nat_le, true, false, List, ◌∷◌, length, Option, Ok, refl, ap, arith}
use Rattle.phase_modes.specs.declared.reg.Mode.{Mode}
use Rattle.phase_modes.specs.Mode.{can_signal}
use Rattle.std.proofs.lemmas.Bool.{and_parts, leb-true}
use Rattle.phase_model.specs.declared.history.Event.{Event}
use Rattle.phase_model.specs.declared.history.Event.TheVariants.{Sig, Reg as Joined}
use Rattle.phase_model.specs.Tasks.{is_live, has_mode, is_registered, live_count}
use Rattle.phase_model.specs.Phases.{signals}
use Rattle.phase_model.specs.Singles.{reserve}
use Rattle.phase_modes.specs.declared.limits.Limits.{Limits}
use Rattle.phase_model.specs.declared.terms.Terms.{Terms}
use Rattle.phase_model.specs.Rules.{Story, is_permitted, is_legal, has_room}
use Rattle.phase_model.specs.declared.call.Call.{Call}
use Rattle.phase_model.specs.Replies.{reply, done}
use Rattle.phase_model.proofs.Replied.{done_is_allowed}
use Rattle.phase_model.proofs.LiveTasks.{live_tasks-reg, has_room_now}
use Rattle.single_state.specs.declared.statement.Statement.{Statement}
use Rattle.single_state.specs.Single.{reserve_of}
use Rattle.reg_table.specs.declared.table.Entry.{Entry}
use Rattle.phaser_engine.specs.Table.{Stands}
use Rattle.phaser_engine.specs.Turns.{proposing}
use Rattle.phaser_engine.proofs.Reading.{count_is}
use Rattle.phaser_engine.proofs.SinglesKept.{reserve_is}
use Rattle.phaser_engine.proofs.SinglesMoved.{reserve_signal}

-- room for one more task
pub room_reg : (s : Story) (table : List Entry) (single : Option Statement) (q t : ℕ) (m : Mode)
    → Stands s table single → is_registered t s.past ≡ false
    → has_room s.limits (Joined q t m ∷ s.past)
    ≡ nat_le (length s.past + 1 + (length table + 1) + reserve_of single) s.limits.history
room_reg s table single q t m stands fresh =
    let kept : reserve (Joined q t m ∷ s.past) ≡ reserve_of single =
    reserve_is s.limits s.terms s.past stands.legal single stands.last in
    let more : live_count (Joined q t m ∷ s.past) ≡ suc (live_count s.past) =
    ap (λ ts. length ts) (live_tasks-reg s.limits s.terms s.past q t m stands.legal fresh) in
    ap (λ n. nat_le n s.limits.history) (omega (arith, kept, more, count_is s table single stands))

-- room for a signal, and for what its proposal keeps
pub room_signal : (s : Story) (table : List Entry) (single after : Option Statement) (t : ℕ) (x : Option ℕ)
    → Stands s table single
    → is_live t s.past ≡ true → has_mode can_signal t s.past ≡ true
    → proposing single (signals t s.past) x ≡ Ok after
    → has_room s.limits (Sig t x ∷ s.past)
    ≡ nat_le (length s.past + 1 + length table + reserve_of after) s.limits.history
room_signal s table single after t x stands live signaller ok =
    let kept : reserve (Sig t x ∷ s.past) ≡ reserve_of after =
    reserve_signal s.limits s.terms s.past stands.legal t live signaller single after x stands.last ok in
    let same : live_count (Sig t x ∷ s.past) ≡ live_count s.past = refl in
    ap (λ n. nat_le n s.limits.history) (omega (arith, kept, same, count_is s table single stands))

-- a call that is done has its room
pub room_of_done : (s : Story) (c : Call) (e : Event) → reply s c ≡ done e → length s.past < s.limits.history
room_of_done s c e is =
    let parts =
    and_parts (is_permitted s.limits s.terms s.past e) (has_room s.limits (e ∷ s.past))
    (done_is_allowed s c e is) in
    let room =
    leb-true (length (e ∷ s.past) + live_count (e ∷ s.past) + reserve (e ∷ s.past)) s.limits.history
    parts.1 in
    omega (arith, room)

-- a legal history is no longer than it may be
pub past_within : (l : Limits) (terms : Terms) (h : List Event) → is_legal l terms h ≡ true
    → length h ≤ l.history
past_within l terms h k =
    let room = leb-true (length h + live_count h + reserve h) l.history (has_room_now l terms h k) in
    omega (arith, room)
