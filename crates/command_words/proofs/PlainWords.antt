-- Words of which none looks like an option ask for what they say.
use Rattle.std.proofs.Common.{◌≡◌, ◌&&◌, true, false, Bool, List, [], Option, Some, None, ap, ◌∙◌}
use Rattle.std.specs.Prelude.{option_and_then}
use Rattle.std.specs.Option.{option_map_or}
use Rattle.std.proofs.lemmas.Bool.{and_parts}
use Rattle.clap.specs.Words.{Text}
use Rattle.command_words.specs.CommandLine.{Asked, Work, asked_in, certify, events, is_plain, is_plainly_asked, judge, pipeline, plain_words, replay, run, schedule, stencil, work_for, work_in}
use Rattle.command_words.proofs.Plain.{word}
use Rattle.command_words.proofs.PlainCommands.{as_said, command_of, flags_of, items_of, name_of, with_flag, with_option}
use Rattle.command_words.proofs.PlainEntry.{command_entered, shape_of}
use Rattle.command_words.proofs.PlainItems.{AreGood, Item, items_read, texts_of}

-- an option has a word as its value, where it has one
option_good : (name : Text) (o : Option Text) (rest : List Item) → option_map_or is_plain o true ≡ true → AreGood rest
    → AreGood (with_option name o rest)
option_good name None rest plain good = good
option_good name (Some value) rest plain good = (tt, (word value plain, good))

flag_good : (name : Text) (is_wanted : Bool) (rest : List Item) → AreGood rest
    → AreGood (with_flag name is_wanted rest)
flag_good name true rest good = (tt, good)
flag_good name false rest good = good

flags_good : (live progress : Bool) → AreGood (flags_of live progress)
flags_good live progress = flag_good _ live _ (flag_good _ progress [] tt)

three : (a b c : Bool) → (a && (b && c)) ≡ true → (a ≡ true) × (b ≡ true) × (c ≡ true)
three a b c e =
    let parts = and_parts a (b && c) e in
    let more = and_parts b c parts.1 in (parts.0, more.0, more.1)

all_good : (asked : Asked) → is_plainly_asked asked ≡ true → AreGood (items_of asked)
all_good (events file) plain = (word file plain, tt)
all_good (schedule file list out) plain =
    let parts = three _ _ _ plain in
    (word file parts.0, option_good _ list _ parts.1 (option_good _ out _ parts.2 tt))
all_good (run file workers out certain live progress) plain =
    let parts = three _ _ _ plain in
    let flags = flag_good _ certain _ (flags_good live progress) in
    (word file parts.0, option_good _ workers _ parts.1 (option_good _ out _ parts.2 flags))
all_good (replay file out) plain =
    let parts = and_parts _ _ plain in (word file parts.0, option_good _ out _ parts.1 tt)
all_good (certify file) plain = (word file plain, tt)
all_good (judge file every) plain =
    let parts = and_parts _ _ plain in (word file parts.0, option_good _ every _ parts.1 tt)
all_good (stencil first steps workers live progress) plain =
    let parts = three _ _ _ plain in
    (tt, (word first parts.0, (tt, (word steps parts.1, option_good _ workers _ parts.2 (flags_good live progress)))))
all_good (pipeline k items workers live progress) plain =
    let parts = three _ _ _ plain in
    (tt, (word k parts.0, (tt, (word items parts.1, option_good _ workers _ parts.2 (flags_good live progress)))))

pub plainly : (p : Text) (asked : Asked) → is_plainly_asked asked ≡ true
    → asked_in (plain_words p asked) ≡ Some asked
plainly p asked plain =
    ap asked_in ((as_said asked).said p)
    ∙ command_entered p (name_of asked) (texts_of (items_of asked)) (command_of asked)
    ∙ items_read (shape_of (name_of asked)) (items_of asked) (all_good asked plain)
    ∙ (as_said asked).read

pub plain_work : (p : Text) (asked : Asked) (work : Work) (words : List Text) → words ≡ plain_words p asked
    → is_plainly_asked asked ≡ true → work_for asked ≡ Some work → work_in words ≡ Some work
plain_work p asked work words said plain is =
    ap work_in said ∙ ap (option_and_then work_for) (plainly p asked plain) ∙ is
