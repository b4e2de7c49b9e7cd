-- What a reader's values stand for.
use Rattle.std.specs.Prelude.{◌≤◌, length, map}
use Rattle.serde_json.specs.View.{items_view}
use Rattle.job_script.specs.declared.said.NameMode as stored
use Rattle.job_script.specs.declared.said.Said as stored_said
use Rattle.job_script.specs.declared.said.Said.TheVariants as saids
use Rattle.job_script.specs.Names.{NameMode}
use Rattle.job_script.specs.ActForms.{Said, plain, new, send, async, async_all, repeat}

abbrev pub pair_view : stored.NameMode → NameMode
pair_view x = record { name = x.name.now; mode = x.mode }

abbrev pub said_view : stored_said.Said → Said
said_view (saids.Plain h) = plain h
said_view (saids.New name m terms) = new name.now m terms
said_view (saids.At h name) = send h name.now
said_view (saids.Async xs body) = async (map pair_view xs.items) (items_view body.now.items)
said_view (saids.AsyncAll body) = async_all (items_view body.now.items)
said_view (saids.Repeat k inner) = repeat k (items_view inner.now.items)

-- a spawn names at most sixteen phasers
abbrev pub HasFew : stored_said.Said → Type 0
HasFew (saids.Async xs body) = length xs.items ≤ 16
HasFew _ = Unit {0}
