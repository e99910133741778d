-- How old a fix can be.
use Rattle.age.proofs.FailureBits.{failure_bits}
use Rattle.age.proofs.AgeOfAFix.{age_of_a_fix, bits_of_any_source, sources_together, not_early, zero_says_accepted}
use Rattle.age.proofs.BestBound.{best_bound, no_smaller_bound, no_bound}
use Rattle.demands.specs.Age.{Age}

pub age : Age
age =
    record {
      of_a_fix = age_of_a_fix;
      failure_bits = failure_bits;
      bits = bits_of_any_source;
      together = sources_together;
      best = best_bound;
      no_smaller = no_smaller_bound;
      no_bound = no_bound;
      not_early = not_early;
      zero_says_accepted = zero_says_accepted;
    }
