-- What a reception comes to, by what decides it: one law for each refusal, and one for what goes on to the lookup.
use mathlib.Core.Path.{◌≡◌}
use mathlib.Core.Bool.{true, false}
use mathlib.Core.List.{List}
use Prim.Native.Nat.{ℕ, ◌≤◌, ◌<◌}
use lib.ListN.{length}
use borrow.Author.Tests.{lt-ltb, le-ltb, le-leb, lt-leb}
use Rattle.std.specs.Prelude.{Result, Err}
use Rattle.base.specs.Pick.{pick}
use Rattle.records.specs.declared.record.Id.{Id}
use Rattle.records.specs.Nodes.{is_lin}
use Rattle.area.specs.Layout.{marked, node_count, type_on}
use Rattle.answers.specs.declared.Refusal.{Refusal}
use Rattle.answers.specs.declared.Refusal.TheVariants.{NotOpen, NoNode, LongPayload, WrongCall}
use Rattle.answers.specs.declared.Received.{Received}
use Rattle.reception.specs.declared.lookup.Found.{Found}
use Rattle.reception.specs.Lookup.{looked_up}
use Rattle.reception.specs.Reception.{found_answer, found_area, received_answer, received_area}

module _ (a : List ℕ) (n : ℕ) (id : Id) (payload : List ℕ) where
  abbrev pub Comes : Result Received Refusal → List ℕ → Type 0
  Comes x b = (x ≡ received_answer a n id payload) × (b ≡ received_area a n id payload)

  pub not_open : marked a ≡ false → Comes (Err NotOpen) a
  unfolding received_answer received_area pick
  not_open e = (rw e, rw e)

  module _ (opened : marked a ≡ true) where
    pub no_node : node_count a ≤ n → Comes (Err NoNode) a
    unfolding received_answer received_area pick
    no_node h = let t = le-ltb n (node_count a) h in (rw (opened, t), rw (opened, t))

    module _ (known : n < node_count a) where
      pub refused_on_lin : is_lin (type_on a n) ≡ true → Comes (Err WrongCall) a
      unfolding received_answer received_area pick
      refused_on_lin h = let t = lt-ltb n (node_count a) known in (rw (opened, t, h), rw (opened, t, h))

      module _ (can : is_lin (type_on a n) ≡ false) where
        pub long_payload : 8 < length payload → Comes (Err LongPayload) a
        unfolding received_answer received_area pick
        long_payload h =
            let t = lt-ltb n (node_count a) known in
            let u = lt-leb (length payload) 8 h in
            (rw (opened, t, can, u), rw (opened, t, can, u))

        pub goes_on :
            (r : Found) (x : Result Received Refusal) (b : List ℕ) → length payload ≤ 8 → r ≡ looked_up a n id → x ≡ found_answer a r payload
            → b ≡ found_area a r payload → Comes x b
        unfolding received_answer received_area pick
        goes_on r x b h e u v =
            let t = lt-ltb n (node_count a) known in
            let w = le-leb (length payload) 8 h in
            (rw (opened, t, can, w, ← e) u, rw (opened, t, can, w, ← e) v)
