-- A command with one more subcommand, and what a subcommand is asked for.
use Rattle.std.proofs.Common.{◌≡◌, Bool, true, false, if◌then◌else◌, Option, None, Some, Result, Ok, Err, IfOk, option_map, codes, refl, sym, ap, ◌∙◌}
use Rattle.std.specs.Option.{option_map_or}
use Rattle.std.specs.Str.{bytes_eq}
use Rattle.clap.specs.Words.{App, Text, AddsSubcommand, app_of, first_of, first_value, rows_of, shape_of, with_subcommand}
use Rattle.clap.specs.declared.builder.command.Command.{Command}
use Rattle.clap.specs.declared.parser.matches.Found.{Found}
use Rattle.clap.proofs.WalkLemmas.{first_value-rows}
use Rattle.clap.specs.declared.builder.command.Command.TheViews.{out-Command as fields_of}
use Rattle.command_words.specs.CommandLine.{Asked, filed_among, has_flag, of_both}

pub grown : (old sub new : Command) (a s : App) → AddsSubcommand old sub new → app_of old ≡ a → app_of sub ≡ s
    → (fields_of sub).has_globals ≡ false → app_of new ≡ with_subcommand a s.top
grown old sub new a s adds old_is sub_is local =
    adds.shape local ∙ ap (λ (x : App). with_subcommand x (shape_of sub)) old_is
    ∙ ap (λ (x : App). with_subcommand a x.top) sub_is

module _ {E : Type 0} where
  pub grown_in : (r : Result Command E) (old sub : Command) (a s : App)
      → IfOk r (λ new. AddsSubcommand old sub new) → app_of old ≡ a → app_of sub ≡ s
      → (fields_of sub).has_globals ≡ false → IfOk r (λ new. app_of new ≡ with_subcommand a s.top)
  grown_in (Ok new) old sub a s adds old_is sub_is local = grown old sub new a s adds old_is sub_is local
  grown_in (Err e) old sub a s adds old_is sub_is local = tt

-- what a command of a file is asked for, by the value of FILE
pub among_file : (asked : Text → Asked) (wanted name : Text) (f : Found) (file : Option Text) → name ≡ wanted
    → file ≡ first_value f (codes "file")
    → option_map asked (first_of (codes "file") (rows_of f)) ≡ filed_among wanted (rows_of f)
    → option_map asked file ≡ filed_among name (rows_of f)
among_file asked wanted name f file named is same = rw (named, is ∙ first_value-rows f (codes "file")) same

-- a flag, by its value
pub flag_by : (name : Text) (f : Found) (value : Option Text) → value ≡ first_value f name
    → option_map_or (λ v. bytes_eq v (codes "true")) value false ≡ has_flag name (rows_of f)
flag_by name f value is =
    ap (λ o. option_map_or (λ v. bytes_eq v (codes "true")) o false) (is ∙ first_value-rows f name)

-- where FILE isn't there no such command is asked for anything
nothing : (a b c d e f : Bool) → ◌≡◌ {A = Option Asked} None
    (if a then None else (if b then None else (if c then None else (if d then None
    else (if e then None else (if f then None else None))))))
nothing true b c d e f = refl
nothing false true c d e f = refl
nothing false false true d e f = refl
nothing false false false true e f = refl
nothing false false false false true f = refl
nothing false false false false false true = refl
nothing false false false false false false = refl

pub among_none : (name : Text) (f : Found) (file : Option Text) → file ≡ first_value f (codes "file")
    → file ≡ None → None ≡ filed_among name (rows_of f)
among_none name f file is none =
    rw (sym (is ∙ first_value-rows f (codes "file")) ∙ none)
    (nothing (bytes_eq name (codes "events")) (bytes_eq name (codes "schedule")) (bytes_eq name (codes "run"))
    (bytes_eq name (codes "replay")) (bytes_eq name (codes "certify")) (bytes_eq name (codes "judge")))

-- what a kernel is asked for, by the two values that it needs
module _ (kernel : Text → Text → Option Text → Asked) (f : Found) (first other : Text) where
  abbrev asked : Option Text → Option Text → Option Asked
  asked a b = of_both kernel a b (first_of (codes "workers") (rows_of f))

  pub both_there : (a b workers : Option Text) → a ≡ first_value f first → b ≡ first_value f other
      → workers ≡ first_value f (codes "workers")
      → of_both kernel a b workers ≡ asked (first_of first (rows_of f)) (first_of other (rows_of f))
  both_there a b workers is other_is same =
      rw (
        is ∙ first_value-rows f first,
        other_is ∙ first_value-rows f other,
        same ∙ first_value-rows f (codes "workers"),
      ) refl

  pub first_missing : (a : Option Text) → a ≡ first_value f first → a ≡ None
      → None ≡ asked (first_of first (rows_of f)) (first_of other (rows_of f))
  first_missing a is none = rw (sym (is ∙ first_value-rows f first) ∙ none) refl

  none_of : (a b : Option Text) → b ≡ None → None ≡ asked a b
  none_of None b none = refl
  none_of (Some x) b none = rw none refl

  pub other_missing : (b : Option Text) → b ≡ first_value f other → b ≡ None
      → None ≡ asked (first_of first (rows_of f)) (first_of other (rows_of f))
  other_missing b is none =
      none_of (first_of first (rows_of f)) (first_of other (rows_of f))
      (sym (is ∙ first_value-rows f other) ∙ none)
