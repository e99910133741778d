-- The refusal table for plans: its lines in the order in which they are tried, and which record decides. Nothing of how the check goes.
use Rattle.std.specs.Prelude.{◌≡◌, List, [], ◌∷◌, ◌++◌, ℕ, length}
use Rattle.records.specs.declared.record.Record.{Record}
use Rattle.records.specs.declared.record.Record.TheVariants.{Broken}
use Rattle.records.specs.declared.record.Fault.TheVariants.{End}
use Rattle.records.specs.Records.{records}
use Rattle.refusals.specs.Before.{◌or◌, ◌and◌}
use Rattle.refusals.specs.Places.{MissingFollower, UnknownKind, RunsPast, Misplaced, CanAfterLin}
use Rattle.refusals.specs.Fields.{TooMany, OutOfRange, OutOfLinRange, NotAbove}
use Rattle.refusals.specs.Owners.{PassesData, TwoOwners, FailurePasses, FailureTaken}

-- a line: its number, when it applies, and which record it then names
pub record Line : Type 1 where
  pub number : ℕ
  pub when : Type 0
  pub names : when → ℕ

-- the first line that applies decides
unfoldable pub First : List Line → ℕ → ℕ → Type 0
First [] number named = ⊥
First (x ∷ xs) number named = ((w : x.when) × (number ≡ x.number) × (named ≡ x.names w)) or ((x.when → ⊥) and First xs number named)

-- a line that names one record, wherever it applies
abbrev pub line : ℕ → ℕ → Type 0 → Line
line named number when = record { number = number; when = when; names = λ w. named }

-- "the missing-follower half of 9 is tried first and names the Rx frame's record"
abbrev pub followers : List Record → Record → Line
followers before r = record { number = 9; when = MissingFollower before r; names = λ w. length w.rx.front }

-- "then 2, 1, 3, 4, 5, 6, 7, 8. At a destination, 7 and 8 for itself, then 9 and 8 for the failure bit, all naming the destination."
-- "Refusals: 3 for a CAN node after a LIN node; 5 for the new ranges" (document 02, Ticket 2): each stands by the line of its number.
abbrev pub table : List Record → Record → List Line
table before r =
    followers before r
    ∷ line (length before) 2 (UnknownKind r)
    ∷ line (length before) 1 (RunsPast r)
    ∷ line (length before) 3 (Misplaced before r)
    ∷ line (length before) 3 (CanAfterLin before r)
    ∷ line (length before) 4 (TooMany before r)
    ∷ line (length before) 5 (OutOfRange before r)
    ∷ line (length before) 5 (OutOfLinRange before r)
    ∷ line (length before) 6 (NotAbove before r)
    ∷ line (length before) 7 (PassesData before r)
    ∷ line (length before) 8 (TwoOwners before r)
    ∷ line (length before) 9 (FailurePasses before r)
    ∷ line (length before) 8 (FailureTaken before r)
    ∷ []

-- "At each record, or the end": there 9 as before, and then 1 where "the input is empty"
abbrev pub end_table : List Record → List Line
end_table before = followers before (Broken End) ∷ line 0 1 (before ≡ []) ∷ []

-- r is bad after the records before it
abbrev pub Bad : List Record → Record → ℕ → ℕ → Type 0
Bad before r = First (table before r)

-- no record is bad in its place
abbrev pub NoneBad : List Record → Type 0
NoneBad rs =
    (before : List Record) (r : Record) (rest : List Record) → rs ≡ before ++ r ∷ rest → (number named : ℕ) → Bad before r number named → ⊥

-- "The first bad record decides": the plan is refused with this number, and names this record
pub data Refuses (plan : List ℕ) (number named : ℕ) : Type 0 where
  at_record : (before : List Record) (r : Record) (rest : List Record) → records plan ≡ before ++ r ∷ rest → NoneBad before
      → Bad before r number named → Refuses plan number named
  at_end : NoneBad (records plan) → First (end_table (records plan)) number named → Refuses plan number named

-- a good plan: nothing refuses it
abbrev pub Unrefused : List ℕ → Type 0
Unrefused plan = (number named : ℕ) → Refuses plan number named → ⊥
