-- What the matches of the subcommand ask for is what the arguments ask for.
use Rattle.std.proofs.Common.{◌≡◌, List, [], ◌∷◌, Option, None, Some, Box, if◌then◌else◌, option_map, refl, sym, ap, ◌∙◌, inl, inr}
use Rattle.std.specs.Prelude.{option_and_then}
use Rattle.clap.specs.Words.{Row, Text, App, HasMatchesOf, app_of, found_of, is_simple, rows_of, subcommand_name_of, subcommand_of, subcommand_rows, subcommand_rows_of, fault_of, kind_of, HasKind, Kinds}
use Rattle.clap.specs.declared.parser.matches.ArgMatches.{ArgMatches}
use Rattle.clap.specs.declared.parser.matches.ArgMatches.TheViews.{out-ArgMatches, out-SubCommand}
use Rattle.clap.specs.declared.parser.matches.SubCommand.{SubCommand}
use Rattle.clap.specs.declared.builder.command.Command.{Command}
use Rattle.clap.specs.declared.error.Error.{Error}
use Rattle.clap.specs.declared.error.kind.ErrorKind.TheVariants.{OutOfMemory}
use Rattle.phase_modes.specs.Lists.{is_empty}
use Rattle.std.specs.Box.{box_value}
use Rattle.command_words.specs.CommandLine.{Asked, asked_among, asked_in, asked_of, program_app}

-- the name that a subcommand's rows go by
module _ {Z : Type 0} where
  name_of_rows : (o : Option (Box SubCommand Z)) → option_map (λ p. p.0) (subcommand_rows o)
      ≡ option_map (λ b. (out-SubCommand (box_value b)).name.now) o
  name_of_rows None = refl
  name_of_rows (Some b) = refl

-- an entered subcommand, by its name and its rows
pair_of : (o : Option (Text × List Row)) (name : Text) (rows : List Row) → Some name ≡ option_map (λ p. p.0) o
    → Some rows ≡ option_map (λ p. p.1) o → option_and_then asked_among o ≡ asked_among (name, rows)
pair_of None name rows named entered = cc
pair_of (Some p) name rows named entered =
    let same_name : name ≡ p.0 = cc in
    let same_rows : rows ≡ p.1 = cc in
    rw (same_name, same_rows) refl

-- the matches of the program's command are those of its arguments
pub entered_at : (arguments : List Text) (command : Command) (m : ArgMatches) → app_of command ≡ program_app
    → HasMatchesOf (app_of command) arguments m → subcommand_rows_of m ≡ subcommand_of program_app arguments
entered_at arguments command m app matches =
    (matches (ap is_simple app)).1 ∙ ap (λ (a : App). subcommand_of a arguments) app

-- what the arguments name, where a subcommand was entered
pub entered_words : (arguments : List Text) (m found : ArgMatches) (name : Text)
    → subcommand_rows_of m ≡ subcommand_of program_app arguments → Some name ≡ subcommand_name_of m
    → Some (rows_of (found_of found)) ≡ option_map (λ p. p.1) (subcommand_rows_of m)
    → asked_of arguments ≡ asked_among (name, rows_of (found_of found))
unfolding asked_of
entered_words arguments m found name entered named rows =
    pair_of (subcommand_of program_app arguments) name (rows_of (found_of found))
    (named ∙ sym (name_of_rows (out-ArgMatches m).subcommand) ∙ ap (option_map (λ p. p.0)) entered)
    (rows ∙ ap (option_map (λ p. p.1)) entered)

-- arguments that ask for something have no fault
faultless_of : (faults : Kinds) (named : Option Asked) (asked : Asked)
    → (if is_empty faults then named else None) ≡ Some asked → (faults ≡ []) × (named ≡ Some asked)
faultless_of [] named asked e = (refl, e)
faultless_of (k ∷ ks) named asked e = cc

pub words_named : (arguments : List Text) (asked : Asked) → asked_in arguments ≡ Some asked
    → (fault_of program_app arguments ≡ []) × (asked_of arguments ≡ Some asked)
unfolding asked_in
words_named arguments asked e = faultless_of (fault_of program_app arguments) (asked_of arguments) asked e

-- arguments without a fault ask for what their subcommand is asked for
pub named_words : (arguments : List Text) → fault_of program_app arguments ≡ []
    → asked_in arguments ≡ asked_of arguments
unfolding asked_in
named_words arguments e = ap (λ faults. if is_empty faults then asked_of arguments else None) e

-- an error where no argument is at fault is want of memory
none_at_fault : (faults : Kinds) (e : Error) → faults ≡ [] → HasKind faults e → kind_of e ≡ OutOfMemory
none_at_fault [] e none (inl memory) = memory
none_at_fault [] e none (inr among) = absurd among
none_at_fault (k ∷ ks) e none h = cc

-- the program's command is simple, so its faults are known
pub fault_at : (arguments : List Text) (command : Command) → app_of command ≡ program_app
    → fault_of (app_of command) arguments ≡ fault_of program_app arguments
fault_at arguments command app = ap (λ (a : App). fault_of a arguments) app

pub memory_alone : (arguments : List Text) (command : Command) (e : Error) → app_of command ≡ program_app
    → fault_of program_app arguments ≡ [] → HasKind (fault_of (app_of command) arguments) e
    → kind_of e ≡ OutOfMemory
memory_alone arguments command e app none h =
    none_at_fault (fault_of (app_of command) arguments) e (fault_at arguments command app ∙ none) h
