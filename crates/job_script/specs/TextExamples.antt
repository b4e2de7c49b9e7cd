-- Worked examples of texts: the program that each spells, or the place of its first fault.
use Rattle.std.specs.Prelude.{ℕ, zero, suc, ◌+◌, ◌%◌, ◌/◌, ◌≡◌, List, [], ◌∷◌, ◌++◌, Some, None, Ok, Err, codes, replicate}
use Rattle.serde_json.specs.Data.{Data, Items, no_items, item, null, number, string, array, object, no_members, member, unsigned}
use Rattle.phase_modes.specs.Limits.{default_limits}
use Rattle.phase_modes.specs.declared.reg.Mode.TheVariants.{SigWait}
use Rattle.phase_model.specs.declared.terms.Terms.{Terms}
use Rattle.job_script.specs.declared.head.Head.TheVariants.{Next, New, Repeat}
use Rattle.job_script.specs.Acts.{no_acts, act}
use Rattle.job_script.specs.Form.{form}

-- ---- the words of the examples

abbrev pub items : List Data → Items
items [] = no_items
items (d ∷ more) = item d (items more)

abbrev pub list : List Data → Data
list ds = array (items ds)

-- {"main":[..]}
abbrev pub program : List Data → Data
program main = object (member (codes "main") (list main) no_members)

-- ["next"]
abbrev pub next_act : Data
next_act = list (string (codes "next") ∷ [])

-- ["jump"], which is no act
abbrev pub no_such_act : Data
no_such_act = list (string (codes "jump") ∷ [])

-- ["repeat", k, [..]]
abbrev pub repeated : ℕ → List Data → Data
repeated k inner = list (string (codes "repeat") ∷ number (unsigned k) ∷ list inner ∷ [])

-- ["new", name, "SIG_WAIT", []]
abbrev pub new_named : List ℕ → Data
new_named name = list (string (codes "new") ∷ string name ∷ string (codes "SIG_WAIT") ∷ list [] ∷ [])

-- the same with a bound
abbrev pub new_bounded : Data → Data
new_bounded b =
    list (string (codes "new") ∷ string (codes "p") ∷ string (codes "SIG_WAIT") ∷ list [] ∷ b ∷ [])

-- no accumulators and no bound
abbrev pub plain : Terms
plain = record { ops = []; bound = None }

-- ["async", [], [..]]
abbrev pub spawn : List Data → Data
spawn body = list (string (codes "async") ∷ list [] ∷ list body ∷ [])

-- so many acts, each with a name of its own
abbrev pub names : ℕ → List Data
names zero = []
names (suc n) = new_named ((48 + n % 10) ∷ (48 + n / 10) ∷ []) ∷ names n

-- ---- lists that are too long

-- a million acts
abbrev pub MillionActs : Type 0
MillionActs = form (program (repeated 1000 (repeated 1000 (next_act ∷ []) ∷ []) ∷ [])) ≡ Err 1

-- of two repeats that are both too long the outermost is reported
abbrev pub BothTooLong : Type 0
BothTooLong =
    form (program (next_act ∷ repeated 2 (repeated 1000 (repeated 11 (next_act ∷ []) ∷ []) ∷ []) ∷ []))
    ≡ Err 2

-- a repeat that goes no times isn't too long, and one inside it may be
abbrev pub OnlyInnerTooLong : Type 0
OnlyInnerTooLong =
    form (program (repeated 0 (repeated 1000 (repeated 11 (next_act ∷ []) ∷ []) ∷ []) ∷ []))
    ≡ Err 2

-- a list in which an act is wrong has no length
abbrev pub WrongInLong : Type 0
WrongInLong = form (program (repeated 1000 (repeated 11 (next_act ∷ no_such_act ∷ []) ∷ []) ∷ [])) ≡ Err 4

-- the act with which a body first passes ten thousand
abbrev pub BodyTooLong : Type 0
BodyTooLong =
    form (program (repeated 1000 (repeated 10 (next_act ∷ []) ∷ []) ∷ next_act ∷ next_act ∷ []))
    ≡ Err 4

-- ten thousand acts are a body
abbrev pub LongestBody : Type 0
LongestBody =
    form (program (repeated 1000 (repeated 10 (next_act ∷ []) ∷ []) ∷ []))
    ≡ Ok (record {
      limits = default_limits;
      main = act (Repeat 1000) (act (Repeat 10) (act Next no_acts no_acts) no_acts) no_acts;
    })

-- a spawn is one act, however long its body, and the body may be too long itself
abbrev pub ChildTooLong : Type 0
ChildTooLong =
    form (program (next_act ∷ spawn (next_act ∷ repeated 1000 (repeated 10 (next_act ∷ []) ∷ []) ∷ []) ∷ []))
    ≡ Err 4

-- ---- names

-- a name of 33 letters
abbrev pub LongName : Type 0
LongName = form (program (new_named (replicate 33 97) ∷ [])) ≡ Err 1

-- one of 32
abbrev pub LongestName : Type 0
LongestName =
    form (program (new_named (replicate 32 97) ∷ []))
    ≡ Ok (record { limits = default_limits; main = act (New 0 SigWait plain) no_acts no_acts })

-- names are numbered in the order in which they first stand
abbrev pub NumberedNames : Type 0
NumberedNames =
    form (program (new_named (codes "q") ∷ new_named (codes "p") ∷ new_named (codes "q") ∷ []))
    ≡ Ok (record {
      limits = default_limits;
      main = act (New 0 SigWait plain) no_acts
          (act (New 1 SigWait plain) no_acts (act (New 0 SigWait plain) no_acts no_acts));
    })

-- the act in which the sixty-fifth name first stands
abbrev pub TooManyNames : Type 0
TooManyNames = form (program (names 65)) ≡ Err 65

-- sixty-four are no fault, so a later one is reported
abbrev pub SixtyFourNames : Type 0
SixtyFourNames = form (program (next_act ∷ names 64 ++ new_named (codes "00") ∷ list [] ∷ [])) ≡ Err 67

-- a list in which a name is one too many has a length, so the repeat round it is reported
abbrev pub TooManyNamesWithin : Type 0
TooManyNamesWithin = form (program (next_act ∷ repeated 1000 (names 65) ∷ [])) ≡ Err 2

-- ---- bounds

abbrev pub LeastBound : Type 0
LeastBound =
    form (program (new_bounded (number (unsigned 1)) ∷ []))
    ≡ Ok (record {
      limits = default_limits;
      main = act (New 0 SigWait (record { ops = []; bound = Some 1 })) no_acts no_acts;
    })

abbrev pub GreatestBound : Type 0
GreatestBound =
    form (program (new_bounded (number (unsigned 65536)) ∷ []))
    ≡ Ok (record {
      limits = default_limits;
      main = act (New 0 SigWait (record { ops = []; bound = Some 65536 })) no_acts no_acts;
    })

-- no bound is out of its range, or null
abbrev pub WrongBounds : Type 0
WrongBounds =
    (form (program (next_act ∷ new_bounded (number (unsigned 0)) ∷ [])) ≡ Err 2)
    × (form (program (next_act ∷ new_bounded (number (unsigned 65537)) ∷ [])) ≡ Err 2)
    × (form (program (next_act ∷ new_bounded null ∷ [])) ≡ Err 2)

-- nothing stands after the bound
abbrev pub TwoBounds : Type 0
TwoBounds =
    form (program (list (string (codes "new") ∷ string (codes "p") ∷ string (codes "SIG_WAIT") ∷ list []
    ∷ number (unsigned 1) ∷ number (unsigned 1) ∷ []) ∷ []))
    ≡ Err 1

-- ---- the outer object

abbrev pub UnknownKey : Type 0
UnknownKey =
    form (object (member (codes "acts") (list []) (member (codes "main") (list []) no_members)))
    ≡ Err 0

abbrev pub NoMain : Type 0
NoMain = form (object no_members) ≡ Err 0

abbrev pub NullLimits : Type 0
NullLimits = form (object (member (codes "limits") null (member (codes "main") (list []) no_members))) ≡ Err 0
