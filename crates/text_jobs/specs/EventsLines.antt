-- The text that is printed for an events file, byte for byte.
use Rattle.std.specs.Prelude.{ℕ, List, [], ◌++◌, codes, flat_map}
use Rattle.phase_model.specs.declared.call.Reply.{Reply}
use Rattle.phase_model.specs.Rules.{Story}
use Rattle.phase_model.specs.Replies.{replies}
use Rattle.phase_model.specs.ReplyLines.{line_text}
use Rattle.text_jobs.specs.EventsForm.{Form}

-- each line ends with a newline
abbrev pub text_of : List Reply → List ℕ
text_of rs = flat_map (λ r. line_text r ++ codes "\n") rs

-- the phaser of a file, before its first call
abbrev pub story_of : Form → Story
story_of f = record { limits = f.limits; terms = record { ops = f.ops; bound = f.bound }; past = [] }

-- all that is printed for a file: the replies to its calls
abbrev pub text_for : Form → List ℕ
text_for f = text_of (replies (story_of f) f.calls)
