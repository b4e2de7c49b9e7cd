-- The operators of a phaser that nobody has made may be fixed.
use Rattle.std.proofs.Common.{◌≡◌, List, [], Option, refl, ap, subst, ◌≤◌, arith, inl}
use Rattle.phase_modes.specs.declared.limits.Limits.{Limits}
use Rattle.phase_model.specs.declared.history.Event.{Event}
use Rattle.phase_model.specs.declared.terms.Terms.{Terms}
use Rattle.phase_model.specs.Rules.{Story}
use Rattle.single_state.specs.declared.statement.Statement.{Statement}
use Rattle.acc_cells.specs.declared.sums.Sums.{Sums}
use Rattle.acc_cells.specs.Cells.{Kept, StandsFor}
use Rattle.phaser_engine.specs.Line.{Lines}
use Rattle.phaser_engine.specs.Table.{IsState}

blank_with : (l : Limits) (terms new : Terms) (h : List Event) (roll : Lines)
    (single : Option Statement) (old cells : Kept) → h ≡ [] → l.history ≤ old.room
    → IsState (record { limits = l; terms = terms; past = h }) roll single old
    → cells.ops ≡ new.ops → cells.room ≡ old.room → cells.from ≡ old.from → cells.sums ≡ old.sums
    → StandsFor cells (λ a p. [])
    → IsState (record { limits = l; terms = new; past = [] }) roll single cells
blank_with l terms new h roll single old cells none whole i same room from sums stands =
    let j : IsState (record { limits = l; terms = terms; past = [] }) roll single old =
    subst (λ (g : List Event). IsState (record { limits = l; terms = terms; past = g }) roll single old)
    none i in
    record {
      stands = record {
        fit = j.stands.fit;
        legal = refl;
        last = j.stands.last;
        rows = j.stands.rows;
        who = j.stands.who;
        apart = j.stands.apart;
        count = j.stands.count;
      };
      folds = record {
        ops = same;
        room = inl (omega (arith, room, whole));
        cells = stands;
        few = omega (arith, j.folds.few, ap (λ (x : Sums). x.values) sums);
      };
      window = rw from j.window;
      partials = j.partials;
    }

-- whatever the operators were, once new ones are fixed the state is that of a phaser with these
pub blank_stands : (s : Story) (new : Terms) (roll : Lines) (single : Option Statement)
    (old cells : Kept) → s.past ≡ [] → s.limits.history ≤ old.room
    → IsState s roll single old
    → cells.ops ≡ new.ops → cells.room ≡ old.room → cells.from ≡ old.from → cells.sums ≡ old.sums
    → StandsFor cells (λ a p. [])
    → IsState (record { limits = s.limits; terms = new; past = [] }) roll single cells
blank_stands s new roll single old cells none whole i same room from sums stands =
    blank_with s.limits s.terms new s.past roll single old cells none whole i same room from sums stands
