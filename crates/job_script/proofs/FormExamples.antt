-- The worked examples of texts, computed.
use Rattle.std.specs.Prelude.{refl}
use Rattle.job_script.specs.TextExamples.{MillionActs, BothTooLong, OnlyInnerTooLong, WrongInLong, BodyTooLong, LongestBody, ChildTooLong, LongName, LongestName, NumberedNames, TooManyNames, SixtyFourNames, TooManyNamesWithin, LeastBound, GreatestBound, WrongBounds, TwoBounds, UnknownKey, NoMain, NullLimits}
use Rattle.job_script.proofs.OnTexts.{texts}

pub million_acts : MillionActs
unfolding texts
million_acts = refl

pub both_too_long : BothTooLong
unfolding texts
both_too_long = refl

pub only_inner_too_long : OnlyInnerTooLong
unfolding texts
only_inner_too_long = refl

pub wrong_in_long : WrongInLong
unfolding texts
wrong_in_long = refl

pub body_too_long : BodyTooLong
unfolding texts
body_too_long = refl

pub longest_body : LongestBody
unfolding texts
longest_body = refl

pub child_too_long : ChildTooLong
unfolding texts
child_too_long = refl

pub long_name : LongName
unfolding texts
long_name = refl

pub longest_name : LongestName
unfolding texts
longest_name = refl

pub numbered_names : NumberedNames
unfolding texts
numbered_names = refl

pub too_many_names : TooManyNames
unfolding texts
too_many_names = refl

pub sixty_four_names : SixtyFourNames
unfolding texts
sixty_four_names = refl

pub too_many_names_within : TooManyNamesWithin
unfolding texts
too_many_names_within = refl

pub least_bound : LeastBound
unfolding texts
least_bound = refl

pub greatest_bound : GreatestBound
unfolding texts
greatest_bound = refl

pub wrong_bounds : WrongBounds
unfolding texts
wrong_bounds = (refl, refl, refl)

pub two_bounds : TwoBounds
unfolding texts
two_bounds = refl

pub unknown_key : UnknownKey
unfolding texts
unknown_key = refl

pub no_main : NoMain
unfolding texts
no_main = refl

pub null_limits : NullLimits
unfolding texts
null_limits = refl
