-- What the keeper of a table has.
use Rattle.std.specs.Prelude.{◌≡◌, ◌≢◌, ℕ, ◌<◌, true, List, [], ◌∷◌, map, drop}
use Rattle.atomic_table.specs.Table.{Me}
use Rattle.told_history.specs.Tails.{IsTail}
use Rattle.phase_model.specs.declared.history.Event.{Event}
use Rattle.level_phaser.specs.declared.keeper.Door.{Door}
use Rattle.level_phaser.specs.declared.keeper.Door.TheVariants.{Unopened, Open}
use Rattle.level_phaser.specs.declared.view.SeatView.{SeatView}
use Rattle.level_phaser.specs.declared.view.Role.TheVariants.{Holder, Gone}
use Rattle.level_phaser.specs.Keeping.{are_apart}
use Rattle.level_phaser.specs.Views.{seats_in, view_of, role_after, opening_view, with_phase}

-- the slots of which a seat has the values
abbrev pub slots_in : {S : Type 0} → List (ℕ × S) → List ℕ
slots_in {S} held = map (λ c. c.0) held

-- the keeper's own seat, behind such a door: while the table isn't open it has what lies in it
abbrev pub IsBehind : {S : Type 0} → Door → Me S (SeatView S) → Type 0
IsBehind {S} door me =
    (door ≡ Unopened → me.0 ≡ opening_view)
    × (door ≡ Open → (me.0.role ≡ Gone) × (me.0.tasks ≡ []) × (me.1 ≡ []))
    × (door ≢ Open → slots_in me.1 ≡ 0 ∷ [])

-- the seat of the tasks that nobody has taken: all but so many of these
abbrev pub AreUntaken : {S : Type 0} → ℕ → ℕ → ℕ → List ℕ → List Event → Me S (SeatView S) → Type 0
AreUntaken {S} phase width taken numbers seen me =
    let cs = seats_in seen (drop taken numbers) in
    (me.0 ≡ view_of cs phase (role_after cs) seen 0 width) × (me.1 ≡ []) × (are_apart (drop taken numbers) ≡ true)

-- the keeper has what was shared, in which there is a task, and all stand level
abbrev pub HasSeized : {S : Type 0} → (S → List Event) → (S → ℕ) → (ℕ → S → Type 0) → Me S (SeatView S) → Me S (SeatView S)
    → Type 0
HasSeized {S} events count ready m m' =
    (x : S) × (m' ≡ (with_phase m.0 (Holder x) m'.0.phase, (0, x) ∷ [])) × ready m'.0.phase x × (0 < count x)
    × IsTail m.0.seen (events x)
