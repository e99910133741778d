-- The lookup in an area that holds a plan: it finds the plan's Rx frame of a node and an ID, and no other, or the place where such a one belongs.
use mathlib.Core.Path.{◌≡◌, sym, ap, ◌∙◌}
use mathlib.Core.Logic.{◌↔◌}
use mathlib.Core.List.{List}
use Prim.Native.Nat.{ℕ, ◌+◌, ◌-◌, ◌≤◌, ◌<◌}
use native.Mathlib.Omega.{arith}
use native.Mathlib.Decide.{dec_lt}
use lib.ListN.{length}
use Rattle.records.specs.declared.record.Id.{Id}
use Rattle.records.specs.Ids.{Before, key_of}
use Rattle.records.proofs.IdLaws.{key_before, key_one}
use Rattle.plan.specs.Rows.{rows_of}
use Rattle.facts.specs.Good.{GoodPlan}
use Rattle.facts.proofs.GoodFacts.{good_facts}
use Rattle.area.specs.Layout.{key_at, first_row, row_count}
use Rattle.reception.specs.Lookup.{looked_up}
use Rattle.reception.specs.declared.lookup.Found.TheVariants.{Nothing}
use Rattle.reception.proofs.LookupLaws.{Rising, Parts, found_only, nothing_if, found_exactly, nothing_parts}
use Rattle.tables.specs.Reads.{row_at, Reads}
use Rattle.tables.specs.Statements.{Names, Places, Finds, LookupFinds}
use Rattle.tables.proofs.RowFacts.{keys_rise, row_possible}

module _ (plan a : List ℕ) (good : GoodPlan plan) (reads : Reads plan a) (m : ℕ) (h : m < 16) where
  abbrev first : ℕ
  first = first_row a m

  abbrev count : ℕ
  count = row_count a m

  exists : (r : ℕ) → r < first + count → r < length (rows_of plan)
  exists r l = omega (arith, (reads.node m h).within)

  -- the key of a node's row is that of the ID of its Rx frame
  key_is : (r : ℕ) → r < first + count → key_at a r ≡ key_of (row_at plan r).frame.id
  key_is r l = (reads.rx r (exists r l)).key

  one_node : (r : ℕ) → first ≤ r → r < first + count → (row_at plan r).frame.node ≡ m
  one_node r b l = let back : first + (r - first) ≡ r = omega arith in rw back at ((reads.node m h).theirs (r - first) (omega arith))

  rising : Rising a count first
  rising =
      record {
        rise = λ i j b l c.
            let d : i < first + count = omega arith in
            let e : first ≤ j = omega arith in
            rw (key_is i d, key_is j c) (keys_rise plan good i j l (exists j c) (one_node i b d ∙ sym (one_node j e c)));
      }

  module _ (id : Id) where
    -- so a row's key is that of the ID exactly if it is the ID's row, and below it exactly if the row's ID comes before
    named : (r : ℕ) → first ≤ r → r < first + count → key_at a r ≡ key_of id → Names plan m id r
    named r b l e =
        record {
          exists = exists r l;
          node = one_node r b l;
          id = key_one _ id (row_possible plan good r (exists r l)) (sym (key_is r l) ∙ e);
        }

    order : (r : ℕ) → r < first + count → (key_at a r < key_of id) ↔ Before (row_at plan r).frame.id id
    order r l = rw (key_is r l) (key_before _ id (row_possible plan good r (exists r l)))

    -- the place parts the node's rows: the smaller ones are those before it
    places : (place : ℕ) → looked_up a m id ≡ Nothing place → Places plan m id place
    unfolding looked_up
    places place e =
        record {
          first = first;
          exactly = λ r. (
            (λ x.
                let b = (reads.node m h).all r x.exists x.node in
                (b.0, before r b.1 ((order r b.1).1 x.id) (dec_lt r (first + place)))),
            (λ (b, l).
                let there : r < first + count = omega (arith, parts.most) in
                record { exists = exists r there; node = one_node r b there; id = (order r there).0 (parts.smaller r (omega arith) l) }),
          );
        }
      where
        parts : Parts a first 0 count (key_of id) place
        parts = nothing_parts a first count (key_of id) rising place e

        before : (r : ℕ) → r < first + count → key_at a r < key_of id → Dec (r < first + place) → r < first + place
        before r there l (yes k) = k
        before r there l (no d) = absurd (omega (arith, parts.greater r (omega arith) (omega arith)))

    found : Finds plan a m id
    unfolding looked_up
    found =
        record {
          found = λ x e. let f = found_only a first count (key_of id) x e in named x.0 f.0 f.1 f.2;
          finds = λ r n.
              let place = (reads.node m h).all r n.exists n.node in
              (found_exactly a first count (key_of id) rising r place.0 place.1).0 (key_is r place.1 ∙ ap key_of n.id);
          nothing = λ none. nothing_if a first count (key_of id) (λ r b l e. none r (named r b l e));
          places = places;
        }

pub lookup_finds : LookupFinds
lookup_finds plan a n t r good reads m id h = found plan a (good_facts plan n t r good).0 reads m h id
