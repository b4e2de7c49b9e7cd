-- A reader by pieces that has read nothing yet has left what the reader below it has.
use Rattle.std.proofs.Common.{◌≡◌, ℕ, List, [], Option, None, Some, refl}
use Rattle.std.specs.Io.KnownBytes.{prepend_known}
use Rattle.std.specs.Io.Buffered.{reader_inner, reader_buffer, reader_capacity, reader_remaining}
use Rattle.std.specs.declared.io.buffered.BufReader.{BufReader}

none_before : (o : Option (List ℕ)) → prepend_known [] o ≡ o
none_before None = refl
none_before (Some xs) = refl

pub unread : {T A : Type 0} → (remaining : T → Option (List ℕ)) (r : BufReader T A) (known : Option (List ℕ))
    → remaining (reader_inner r) ≡ known → reader_buffer r ≡ [] → reader_capacity r ≡ 65536 → reader_remaining remaining r ≡ known
unread remaining r known is empty room = rw (room, empty, is) (none_before known)
