-- A log is judged line by line: what is left goes on from what was judged.
use Rattle.std.proofs.Common.{◌≡◌, ◌⊎◌, ℕ, ◌+◌, ◌-◌, ◌<◌, ◌≤◌, Bool, true, false, cond, List, [], ◌∷◌, ◌++◌, Option, None, Some, Result, Ok, Err, IfSome, IfErr, OnOk, length, take, refl, sym, ap, subst, ◌∙◌, arith, inl, inr, append_assoc, append-nil, length-take-le}
use Rattle.std.specs.Io.BufRead.{ends_with_byte, strip_last}
use Rattle.phase_modes.specs.declared.refusal.Refusal.TheVariants.{Memory}
use Rattle.job_ends.specs.declared.failure.Failure.TheVariants.{Refused}
use Rattle.phaser_judge.specs.declared.event.NamedEvent.{NamedEvent}
use Rattle.phaser_judge.specs.Standings.{standing, may_come}
use Rattle.judge_job.specs.declared.line.Line.{Line as Spelled}
use Rattle.phaser_judge.specs.Reasons.{verdict_at}
use Rattle.judge_job.specs.declared.stop.Reason.{Reason}
use Rattle.judge_job.specs.declared.stop.Reason.TheVariants.{NoHeader, TooLong, Ticket, Event}
use Rattle.judge_job.specs.declared.stop.Stop.{Stop}
use Rattle.judge_job.specs.declared.stop.Stop.TheVariants.{Line, Failed}
use Rattle.judge_job.specs.Forms.{line_in}
use Rattle.judge_job.specs.Lines.{lines, TakesLine, IsOfLongLine}
use Rattle.judge_job.specs.Logs.{Judged, Refusing, refusing, rises, why_not, is_long, is_blank, after_event, after_spelled, after_line, and_then, at_header, judged_from, headed_from, judged_log, nothing}
use Rattle.judge_job.specs.Standing.{IsOfLine}
use Rattle.judge_job.specs.inner.Steps.{IsHeaded}
use Rattle.judge_job.specs.Endings.{GoesOn, IsBegun, IsFailing, IsOfNext, IsStop, events_in, head_from, rest_from}

-- ---- lines that are too long

-- a newline is one byte
length_stripped : (l : List ℕ) → length l ≤ length (strip_last 10 l) + 1
length_stripped l = at (ends_with_byte 10 l)
  where
    at : (b : Bool) → length l ≤ length (cond b (take (length l - 1) l) l) + 1
    at true = let n = length-take-le (length l - 1) l (omega arith) in omega (arith, n)
    at false = omega arith

long_bare : (l : List ℕ) → 65537 < length l → is_long (strip_last 10 l) ≡ true
long_bare l long = let bare = length_stripped l in grind arith

long_line : (n : ℕ) (j : Judged) (l : List ℕ) → 65537 < length l → after_line n j (strip_last 10 l) ≡ refusing n j TooLong
long_line n j l long =
    ap (λ b. cond b (refusing n j TooLong) (cond (is_blank (strip_last 10 l)) (Ok j) (after_spelled n j (line_in (strip_last 10 l)))))
    (long_bare l long)

long_header : (n : ℕ) (l : List ℕ) (skipped headed : Result Judged Refusing) → 65537 < length l
    → at_header n (strip_last 10 l) skipped headed ≡ refusing n nothing TooLong
long_header n l skipped headed long = rw (long_bare l long) refl

-- ---- what is judged later comes after what was

event_begun : (n t : ℕ) (j : Judged) (o : Option NamedEvent) → IsBegun j (after_event n t j o)
event_begun n t j None = ([], refl)
event_begun n t j (Some e) = at (may_come (standing e.phaser j.events) e.event)
  where
    why : Reason
    why = Event e (why_not (verdict_at (standing e.phaser j.events) e.event))

    at : (b : Bool) → IsBegun j (cond b (Ok (record { events = e ∷ j.events; last = Some t })) (refusing n j why))
    at true = (e ∷ [], refl)
    at false = ([], refl)

spelled_begun : (n : ℕ) (j : Judged) (o : Option Spelled) → IsBegun j (after_spelled n j o)
spelled_begun n j None = ([], refl)
spelled_begun n j (Some l) = at (rises j.last l.ticket)
  where
    at : (b : Bool) → IsBegun j (cond b (after_event n l.ticket j l.event) (refusing n j (Ticket l.ticket)))
    at true = event_begun n l.ticket j l.event
    at false = ([], refl)

line_begun : (n : ℕ) (j : Judged) (bytes : List ℕ) → IsBegun j (after_line n j bytes)
line_begun n j bytes = at (is_long bytes) (is_blank bytes)
  where
    at : (b c : Bool) → IsBegun j (cond b (refusing n j TooLong) (cond c (Ok j) (after_spelled n j (line_in bytes))))
    at true c = ([], refl)
    at false true = ([], refl)
    at false false = spelled_begun n j (line_in bytes)

then_begun : (j : Judged) (next : Judged → Result Judged Refusing) → ((k : Judged) → IsBegun k (next k)) → (r : Result Judged Refusing)
    → IsBegun j r → IsBegun j (and_then next r)
then_begun j next h (Ok k) b =
    ((h k).0 ++ b.0, (h k).1 ∙ ap (λ es. (h k).0 ++ es) b.1 ∙ sym (append_assoc (h k).0 b.0 j.events))
then_begun j next h (Err r) b = b

pub begun_after : (n : ℕ) (j : Judged) (ls : List (List ℕ)) → IsBegun j (judged_from n j ls)
begun_after n j [] = ([], refl)
begun_after n j (l ∷ ls) =
    then_begun j (λ k. judged_from (n + 1) k ls) (λ k. begun_after (n + 1) k ls) (after_line n j (strip_last 10 l))
    (line_begun n j (strip_last 10 l))

pub begun_nothing : (v : Result Judged Refusing) → IsBegun nothing v
begun_nothing v = (events_in v, sym (append-nil (events_in v)))

-- ---- one line after the other

module _ (first : List ℕ → Result Judged Refusing) where
  pub starts : (a : Option (List ℕ)) → GoesOn first a first a
  starts None = tt
  starts (Some xs) = refl

  -- a verdict `v` on lines, of which the next is taken
  module _ (v : List (List ℕ) → Result Judged Refusing) where
    pub took : (w : List (List ℕ) → Result Judged Refusing) (a b c : Option (List ℕ)) (line : List ℕ)
        → GoesOn first a (λ xs. v (lines xs)) b → TakesLine b c line → 0 < length line
        → ((ls : List (List ℕ)) → v (line ∷ ls) ≡ w ls) → GoesOn first a (λ xs. w (lines xs)) c
    took w None b c line on takes some is = tt
    took w (Some xs) None c line on takes some is = absurd on
    took w (Some xs) (Some ys) None line on takes some is = absurd takes
    took w (Some xs) (Some ys) (Some zs) [] on takes some is = absurd (omega (arith, some))
    took w (Some xs) (Some ys) (Some zs) (x ∷ l) on takes some is = on ∙ ap v takes ∙ is (lines zs)

    pub took_last : (r : Result Judged Refusing) (a b c : Option (List ℕ)) (line : List ℕ) → GoesOn first a (λ xs. v (lines xs)) b
        → TakesLine b c line → length line ≡ 0 → v [] ≡ r → IfSome a (λ xs. first xs ≡ r)
    took_last r None b c line on takes none is = tt
    took_last r (Some xs) None c line on takes none is = absurd on
    took_last r (Some xs) (Some ys) None line on takes none is = absurd takes
    took_last r (Some xs) (Some ys) (Some zs) [] on takes none is = on ∙ ap v takes.0 ∙ is
    took_last r (Some xs) (Some ys) (Some zs) (x ∷ l) on takes none is = absurd (omega (arith, none))

    took_bad : (r : Result Judged Refusing) (a b c : Option (List ℕ)) (line : List ℕ) → GoesOn first a (λ xs. v (lines xs)) b
        → TakesLine b c line → 0 < length line → ((ls : List (List ℕ)) → v (line ∷ ls) ≡ r) → IfSome a (λ xs. first xs ≡ r)
    took_bad r None b c line on takes some is = tt
    took_bad r (Some xs) None c line on takes some is = absurd on
    took_bad r (Some xs) (Some ys) None line on takes some is = absurd takes
    took_bad r (Some xs) (Some ys) (Some zs) [] on takes some is = absurd (omega (arith, some))
    took_bad r (Some xs) (Some ys) (Some zs) (x ∷ l) on takes some is = on ∙ ap v takes ∙ is (lines zs)

    took_long : (r : Result Judged Refusing) (a b : Option (List ℕ)) → GoesOn first a (λ xs. v (lines xs)) b → IfSome b (IsOfLongLine 65536)
        → ((l : List ℕ) (ls : List (List ℕ)) → 65537 < length l → v (l ∷ ls) ≡ r) → IfSome a (λ xs. first xs ≡ r)
    took_long r None b on h is = tt
    took_long r (Some xs) None on h is = absurd on
    took_long r (Some xs) (Some ys) on h is = on ∙ ap v h.first ∙ is h.line h.rest h.long

    begun_there : (j : Judged) (a b : Option (List ℕ)) → GoesOn first a (λ xs. v (lines xs)) b → ((ls : List (List ℕ)) → IsBegun j (v ls))
        → IfSome a (λ xs. IsBegun j (first xs))
    begun_there j None b on h = tt
    begun_there j (Some xs) None on h = absurd on
    begun_there j (Some xs) (Some ys) on h = subst (IsBegun j) (sym on) (h (lines ys))

    next_stops_by : (n : ℕ) (j : Judged) (a b : Option (List ℕ)) (s : Stop) → GoesOn first a (λ xs. v (lines xs)) b → IsOfNext 65536 n b s
        → ((ls : List (List ℕ)) → IsBegun j (v ls)) → ((l : List ℕ) (ls : List (List ℕ)) → 65537 < length l → v (l ∷ ls) ≡ refusing n j TooLong)
        → IsStop first a j s
    next_stops_by n j a b (Line m why) on h begun long =
        subst (λ p. IfSome a (λ xs. first xs ≡ refusing p j why)) (sym h.0)
        (subst (λ w. IfSome a (λ xs. first xs ≡ refusing n j w)) (sym h.1) (took_long (refusing n j TooLong) a b on h.2 long))
    next_stops_by n j a b (Failed f) on h begun long = (inl h, begun_there j a b on begun)

  -- the lines after the header

  pub took_line : (n : ℕ) (j k : Judged) (a b c : Option (List ℕ)) (line : List ℕ) → GoesOn first a (rest_from n j) b → TakesLine b c line
      → 0 < length line → after_line n j (strip_last 10 line) ≡ Ok k → GoesOn first a (rest_from (n + 1) k) c
  took_line n j k a b c line on takes some is =
      took (judged_from n j) (judged_from (n + 1) k) a b c line on takes some (λ ls. ap (and_then (λ k. judged_from (n + 1) k ls)) is)

  pub line_stops : (n : ℕ) (j : Judged) (a b c : Option (List ℕ)) (line : List ℕ) (s : Stop) → GoesOn first a (rest_from n j) b
      → TakesLine b c line → 0 < length line → IsOfLine (after_line n j (strip_last 10 line)) j s → IsStop first a j s
  line_stops n j a b c line (Line m why) on takes some is =
      took_bad (judged_from n j) (refusing m j why) a b c line on takes some (λ ls. ap (and_then (λ k. judged_from (n + 1) k ls)) is)
  line_stops n j a b c line (Failed f) on takes some is = (inl (inr is), begun_there (judged_from n j) j a b on (begun_after n j))

  pub next_stops : (n : ℕ) (j : Judged) (a b : Option (List ℕ)) (s : Stop) → GoesOn first a (rest_from n j) b → IsOfNext 65536 n b s
      → IsStop first a j s
  next_stops n j a b s on h =
      next_stops_by (judged_from n j) n j a b s on h (begun_after n j)
      (λ l ls long. ap (and_then (λ k. judged_from (n + 1) k ls)) (long_line n j l long))

  pub read_stops : (n : ℕ) (j : Judged) (a b : Option (List ℕ)) → GoesOn first a (rest_from n j) b → IfSome a (λ xs. IsBegun j (first xs))
  read_stops n j a b on = begun_there (judged_from n j) j a b on (begun_after n j)

  -- the lines before it

  pub header_stops : (n : ℕ) (a b c : Option (List ℕ)) (line : List ℕ) (s : Stop) → GoesOn first a (head_from n) b → TakesLine b c line
      → 0 < length line → ((skipped headed : Result Judged Refusing) → IsOfLine (at_header n (strip_last 10 line) skipped headed) nothing s)
      → IsStop first a nothing s
  header_stops n a b c line (Line m why) on takes some is =
      took_bad (headed_from n) (refusing m nothing why) a b c line on takes some (λ ls. is (headed_from (n + 1) ls) (judged_from (n + 1) nothing ls))
  header_stops n a b c line (Failed f) on takes some is =
      (inl (inr (is (Ok nothing) (Ok nothing))), begun_there (headed_from n) nothing a b on (λ ls. begun_nothing (headed_from n ls)))

  pub before_header_stops : (n : ℕ) (a b : Option (List ℕ)) (s : Stop) → GoesOn first a (head_from n) b → IsOfNext 65536 n b s
      → IsStop first a nothing s
  before_header_stops n a b s on h =
      next_stops_by (headed_from n) n nothing a b s on h (λ ls. begun_nothing (headed_from n ls))
      (λ l ls long. long_header n l (headed_from (n + 1) ls) (judged_from (n + 1) nothing ls) long)

  pub before_header_reads : (n : ℕ) (a b : Option (List ℕ)) → GoesOn first a (head_from n) b → IfSome a (λ xs. IsBegun nothing (first xs))
  before_header_reads n a b on = begun_there (headed_from n) nothing a b on (λ ls. begun_nothing (headed_from n ls))

  pub took_skipped : (n : ℕ) (a b c : Option (List ℕ)) (line : List ℕ) → GoesOn first a (head_from n) b → TakesLine b c line
      → 0 < length line → IsHeaded false n (strip_last 10 line) → GoesOn first a (head_from (n + 1)) c
  took_skipped n a b c line on takes some is =
      took (headed_from n) (headed_from (n + 1)) a b c line on takes some (λ ls. is (headed_from (n + 1) ls) (judged_from (n + 1) nothing ls))

  pub took_headed : (n : ℕ) (a b c : Option (List ℕ)) (line : List ℕ) → GoesOn first a (head_from n) b → TakesLine b c line
      → 0 < length line → IsHeaded true n (strip_last 10 line) → GoesOn first a (rest_from (n + 1) nothing) c
  took_headed n a b c line on takes some is =
      took (headed_from n) (judged_from (n + 1) nothing) a b c line on takes some (λ ls. is (headed_from (n + 1) ls) (judged_from (n + 1) nothing ls))

  pub no_header : (n : ℕ) (a b c : Option (List ℕ)) (line : List ℕ) → GoesOn first a (head_from n) b → TakesLine b c line
      → length line ≡ 0 → IfSome a (λ xs. first xs ≡ refusing n nothing NoHeader)
  no_header n a b c line on takes none = took_last (headed_from n) (refusing n nothing NoHeader) a b c line on takes none refl

  -- one verdict after another

  there : (after : List ℕ → Result Judged Refusing) (P : Result Judged Refusing → Type 0) (a b : Option (List ℕ)) → GoesOn first a after b
      → IfSome b (λ xs. P (after xs)) → IfSome a (λ xs. P (first xs))
  there after P None b on h = tt
  there after P (Some xs) None on h = absurd on
  there after P (Some xs) (Some ys) on h = subst P (sym on) h

  pub done_there : (after : List ℕ → Result Judged Refusing) (a b : Option (List ℕ)) (j : Judged) (r : Result (Unit {0}) Stop)
      → GoesOn first a after b → OnOk r (IfSome b (λ xs. after xs ≡ Ok j)) → OnOk r (IfSome a (λ xs. first xs ≡ Ok j))
  done_there after a b j (Ok u) on h = there after (λ r. r ≡ Ok j) a b on h
  done_there after a b j (Err e) on h = tt

  stop_at : (after : List ℕ → Result Judged Refusing) (a b : Option (List ℕ)) (j : Judged) (s : Stop) → GoesOn first a after b
      → IsStop after b j s → IsStop first a j s
  stop_at after a b j (Line n why) on h = there after (λ r. r ≡ refusing n j why) a b on h
  stop_at after a b j (Failed f) on h = (h.0, there after (IsBegun j) a b on h.1)

  pub stop_there : (after : List ℕ → Result Judged Refusing) (a b : Option (List ℕ)) (j : Judged) (r : Result (Unit {0}) Stop)
      → GoesOn first a after b → IfErr r (IsStop after b j) → IfErr r (IsStop first a j)
  stop_there after a b j (Ok u) on h = tt
  stop_there after a b j (Err s) on h = stop_at after a b j s on h

-- before the first event
pub starts_at : (n : ℕ) (j : Judged) (a : Option (List ℕ)) → j ≡ nothing → GoesOn (rest_from n nothing) a (rest_from n j) a
starts_at n j a is = subst (λ k. GoesOn (rest_from n nothing) a (rest_from n k) a) (sym is) (starts (rest_from n nothing) a)

-- ---- the whole log

begun_with : (a : Option (List ℕ)) (j : Judged) (r : Result Judged Refusing) → j.events ≡ events_in r → IfSome a (λ xs. head_from 1 xs ≡ r)
    → IfSome a (λ xs. IsBegun j (judged_log xs))
unfolding judged_log
begun_with None j r same is = tt
begun_with (Some xs) j r same is = ([], ap events_in is ∙ sym same)

-- all of it was judged
pub all_begun : (a : Option (List ℕ)) (j : Judged) → IfSome a (λ xs. head_from 1 xs ≡ Ok j) → IfSome a (λ xs. IsBegun j (judged_log xs))
all_begun a j is = begun_with a j (Ok j) refl is

stop_begun : (a : Option (List ℕ)) (j : Judged) (s : Stop) → IsStop (head_from 1) a j s → IfSome a (λ xs. IsBegun j (judged_log xs))
unfolding judged_log
stop_begun a j (Line n why) is = begun_with a j (refusing n j why) refl is
stop_begun a j (Failed f) is = is.1

pub none_begun : (a : Option (List ℕ)) (j : Judged) → j ≡ nothing → IfSome a (λ xs. IsBegun j (judged_log xs))
none_begun None j is = tt
none_begun (Some xs) j is = subst (λ k. IsBegun k (judged_log xs)) (sym is) (begun_nothing (judged_log xs))

pub is_failing : (a : Option (List ℕ)) (j : Judged) (s : Stop) → IsStop (head_from 1) a j s → IsFailing s
is_failing a j (Line n why) is = tt
is_failing a j (Failed f) is = is.0

-- why the job ends, if judging stopped so
pub why_stopped : (a : Option (List ℕ)) (j : Judged) (s t : Stop) → IsStop (head_from 1) a j s → (t ≡ s) ⊎ (t ≡ Failed (Refused Memory))
    → IsStop judged_log a j t
unfolding judged_log
why_stopped a j s t is (inl same) = subst (IsStop (head_from 1) a j) (sym same) is
why_stopped a j s t is (inr memory) = subst (IsStop judged_log a j) (sym memory) (inl (inr refl), stop_begun a j s is)
