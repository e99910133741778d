-- The program reads as far as one byte past the longest input that is good, and that is enough: a longer one gives what its first bytes give.
use mathlib.Core.Path.{◌≡◌, sym, ap, ◌∙◌}
use mathlib.Core.List.{List, [], ◌++◌, append-nil}
use Prim.Native.Nat.{ℕ, ◌<◌}
use native.Mathlib.Decide.{dec_lt}
use native.Mathlib.Omega.{arith}
use lib.ListN.{length, length-append}
use borrow.Author.Tests.{lt-ltb}
use Rattle.std.specs.Prelude.{Option, Some, None, IfSome}
use Rattle.std.specs.Io.KnownBytes.{Appends, Consumes, IsAtEnd}
use Rattle.base.proofs.Picks.{picks}
use Rattle.events.specs.Events.{front_of}
use Rattle.lines.specs.Lines.{bad_line}
use Rattle.output.specs.Output.{front_text, bench_output}

too_long : (input : List ℕ) → 65536 < length input → bench_output input ≡ bad_line
unfolding bench_output front_text front_of
too_long input h = ap (λ (f : Option ℕ). front_text f input) (picks _ _ _ (lt-ltb 65536 (length input) h))

-- what is read is all that there is, or is too long already
same_output : (read rest : List ℕ) → (length read < 65537 → rest ≡ []) → bench_output (read ++ rest) ≡ bench_output read
same_output read rest ends = go (dec_lt (length read) 65537)
  where
    go : Dec (length read < 65537) → bench_output (read ++ rest) ≡ bench_output read
    go (yes l) = rw (ends l, append-nil read)
    go (no n) = too_long (read ++ rest) (rw (length-append read rest) (omega arith)) ∙ sym (too_long read (omega arith))

-- of a reader that gave these bytes, and of a writer that took their output
pub whole_input : (before after old new : Option (List ℕ)) (read : List ℕ) → Consumes before after read → (length read < 65537 → IsAtEnd after)
    → Appends old new (bench_output read) → IfSome before (λ (input : List ℕ). Appends old new (bench_output input))
whole_input None after old new read gave ends took = tt
whole_input (Some x) None old new read gave ends took = absurd gave
whole_input (Some x) (Some y) old new read gave ends took = rw (gave, same_output read y ends) took
