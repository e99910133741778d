-- A plan of bytes has payloads of bytes.
use mathlib.Core.Path.{refl, sym, subst}
use mathlib.Core.List.{List, [], ◌∷◌}
use Prim.Native.Nat.{ℕ, zero, suc, ◌+◌, ◌<◌}
use native.Mathlib.Omega.{arith}
use lib.ListN.{length}
use Rattle.base.specs.Numbers.{Bytes}
use Rattle.base.proofs.Picks.{both}
use Rattle.records.specs.declared.record.TxFrame.{TxFrame}
use Rattle.records.specs.declared.record.Record.{Record}
use Rattle.records.specs.Views.{on_tx, no_tx}
use Rattle.records.specs.Ids.{behind_id}
use Rattle.records.specs.Kinds.{eight_at, tx_at, tx_record, rx_record}
use Rattle.records.specs.Records.{record_at, records_from, records_at, records, eight_bytes}
use Rattle.records.proofs.RecordLaws.{by_record}
use Rattle.records.proofs.Variants.{by_tx}
use Rattle.plan.specs.Rows.{tx_frames, tx_of}
use Rattle.facts.specs.Good.{Each}
use Rattle.facts.proofs.Lists.{each_at}
use Rattle.model.specs.Plan.{said, tx_in}
use Rattle.model.specs.Words.{Payload}

unfoldable BytesIn : Record → Type 0
BytesIn r = on_tx (Unit {0}) (λ x. Bytes (eight_bytes x.payload)) r

Bytes-eight_bytes : (plan : List ℕ) (at : ℕ) → Bytes plan → Bytes (eight_bytes (eight_at plan at))
unfolding eight_at
Bytes-eight_bytes plan at b zero = b at
Bytes-eight_bytes plan at b (suc zero) = b (at + 1)
Bytes-eight_bytes plan at b (suc (suc zero)) = b (at + 2)
Bytes-eight_bytes plan at b (suc (suc (suc zero))) = b (at + 3)
Bytes-eight_bytes plan at b (suc (suc (suc (suc zero)))) = b (at + 4)
Bytes-eight_bytes plan at b (suc (suc (suc (suc (suc zero))))) = b (at + 5)
Bytes-eight_bytes plan at b (suc (suc (suc (suc (suc (suc zero)))))) = b (at + 6)
Bytes-eight_bytes plan at b (suc (suc (suc (suc (suc (suc (suc zero))))))) = b (at + 7)
Bytes-eight_bytes plan at b (suc (suc (suc (suc (suc (suc (suc (suc i)))))))) = omega arith

record_bytes : (plan : List ℕ) → Bytes plan → (at : ℕ) → BytesIn (record_at plan at)
unfolding tx_at tx_record rx_record BytesIn
record_bytes plan b at =
    by_record BytesIn plan at (λ fault. tt) tt tt (λ id w. Bytes-eight_bytes plan (at + behind_id id + 5) b) (λ id w. tt) tt tt

from_bytes : (plan : List ℕ) → Bytes plan → (bound at : ℕ) → Each BytesIn (records_from bound plan at)
unfolding records_from Each
from_bytes plan b zero at = tt
from_bytes plan b (suc bound) at = both (Each BytesIn) _ _ _ tt (record_bytes plan b at, from_bytes plan b bound _)

frames_bytes : (rs : List Record) → Each BytesIn rs → Each (λ (x : TxFrame). Bytes (eight_bytes x.payload)) (tx_frames rs)
unfolding Each tx_frames BytesIn
frames_bytes [] h = tt
frames_bytes (r ∷ rs) h =
    by_tx (λ r. BytesIn r → Each (λ (x : TxFrame). Bytes (eight_bytes x.payload)) (tx_frames (r ∷ rs))) (λ x e. (e, frames_bytes rs h.1))
    (λ r no e. subst (Each (λ (x : TxFrame). Bytes (eight_bytes x.payload))) (sym (no.by _ _)) (frames_bytes rs h.1)) r h.0

pub plan-payload : (plan : List ℕ) → Bytes plan → (t : ℕ) → t < length (tx_of plan) → Payload (eight_bytes (tx_in (said plan) t).payload)
unfolding tx_of records records_at
plan-payload plan b t l = record { eight = refl; bytes = each_at _ _ no_tx t l (frames_bytes _ (from_bytes plan b _ 0)) }
