-- What the reader's answers stand for.
use Rattle.std.specs.Prelude.{◌≡◌, ℕ, Result, Ok, Err}
use Rattle.serde_json.specs.Data.{Items}
use Rattle.serde_json.specs.View.{items_view}
use Rattle.phase_modes.specs.declared.limits.Limits.{Limits}
use Rattle.phase_modes.specs.declared.refusal.Refusal.{Refusal}
use Rattle.job_script.specs.Reading.{Fails}
use Rattle.job_script.specs.declared.reading.List as stored
use Rattle.job_script.specs.declared.reading.Outer as outers
use Rattle.job_script.specs.declared.stored.Item.{Item}
use Rattle.job_script.specs.Names.{Seen}
use Rattle.job_script.specs.Form.{Read, One}

abbrev pub list_view : stored.List → Seen → Read
list_view l s = record { acts = l.body; next = l.next; seen = s; passing = l.passing }

-- a list was read, and this was seen by its end; or it is at fault
abbrev pub GivesList : Result stored.List Refusal → Seen → Result Read ℕ → Type 0
GivesList (Ok l) s r = r ≡ Ok (list_view l s)
GivesList (Err e) s r = Fails e r

abbrev pub one_view : Item × ℕ → Seen → One
one_view x s = record { head = x.0.head; body = x.0.body; next = x.1; seen = s }

abbrev pub GivesOne : Result (Item × ℕ) Refusal → Seen → Result One ℕ → Type 0
GivesOne (Ok x) s r = r ≡ Ok (one_view x s)
GivesOne (Err e) s r = Fails e r

abbrev pub outer_view : outers.Outer → Limits × Items
outer_view o = (o.limits, items_view o.main.now.items)
