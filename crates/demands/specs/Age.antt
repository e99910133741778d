-- Document 02, Ticket 8: "How old can a fix be? The biologists ask for one sentence they can cite. For a CAN source with its indicator enabled and reload
-- r above 0, prescaler p: if a take hands back a kept payload whose failure bit is 0, and that source was accepted at least once since opening, then
-- fewer than r times p unrefused ticks have passed since the last acceptance, and the frame's bits from that source are those of that acceptance. Prove
-- this over any calls." The statements are in the crate age.
use Rattle.age.specs.FailureBits.{FailureBits}
use Rattle.age.specs.AgeOfAFix.{AgeOfAFix, BitsOfAnySource, SourcesTogether}
use Rattle.age.specs.BestBound.{BestBound, NoSmallerBound, NoBound}
use Rattle.age.specs.Choosing.{NotEarly, ZeroSaysAccepted}

pub record Age : Type 0 where
  pub of_a_fix : AgeOfAFix
  -- every source with its indicator enabled has such a bit
  pub failure_bits : FailureBits
  -- of a source of any kind, on LIN too (Ticket 2), the bits are those of its last acceptance
  pub bits : BitsOfAnySource
  -- each source of a frame has its own bound
  pub together : SourcesTogether
  -- no smaller bound holds, and where the reload value is 0 or the indicator is off none does
  pub best : BestBound
  pub no_smaller : NoSmallerBound
  pub no_bound : NoBound
  -- who is heard in time is not flagged, and a bit that was 1 at first and is 0 tells of an acceptance
  pub not_early : NotEarly
  pub zero_says_accepted : ZeroSaysAccepted
