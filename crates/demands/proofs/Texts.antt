-- The second texts.
use Rattle.records.proofs.IdLaws.{keys_in_order}
use Rattle.encoding.proofs.Decode.{decoded_eight, decodes_encoded}
use Rattle.encoding.proofs.Encode.{encodes_good}
use Rattle.encoding.proofs.Sizes.{sizes_agree}
use Rattle.encoding.proofs.Broken.{broken_exactly}
use Rattle.encoding.proofs.KindCases.{kinds_hold}
use Rattle.claims.proofs.Said.{good_said}
use Rattle.claims.proofs.Examples.{written}
use Rattle.refusals.proofs.Exactly.{refused_exactly, good_exactly, one_refusal}
use Rattle.lin.proofs.Identifiers.{parity_bits, known_identifiers}
use Rattle.lin.proofs.Sums.{known_checksum, folded_sum}
use Rattle.lin.proofs.Worth.{appended, same_checksum, changed_byte_found}
use Rattle.restated.proofs.Bits.{bits_at_ends, bits_by_numbers}
use Rattle.restated.proofs.Copies.{copies_by_numbers}
use Rattle.restated.proofs.Clock.{counter_by_number, handled_by_number, handling}
use Rattle.restated.proofs.Owners.{owners_by_digits}
use Rattle.restated.proofs.Search.{search_by_looks}
use Rattle.demands.specs.Texts.{Texts}

pub texts : Texts
texts =
    record {
      eight = decoded_eight;
      decodes = decodes_encoded;
      encodes = encodes_good;
      sizes = sizes_agree;
      broken = broken_exactly;
      kinds = kinds_hold;
      keys = keys_in_order;
      said = good_said;
      written = written;
      refused = refused_exactly;
      good = good_exactly;
      one = one_refusal;
      ends = bits_at_ends;
      bits = bits_by_numbers;
      copies = copies_by_numbers;
      counter = counter_by_number;
      handled = handled_by_number;
      handling = handling;
      owners = owners_by_digits;
      search = search_by_looks;
      parity = parity_bits;
      identifiers = known_identifiers;
      checksum = known_checksum;
      folded = folded_sum;
      appended = appended;
      same_checksum = same_checksum;
      changed_byte = changed_byte_found;
    }
