-- `lookup::look` meets its contract: each answer is a case of the search.
use mathlib.Core.Path.{◌≡◌, sym, ◌∙◌}
use Prim.Native.Nat.{◌+◌, ◌-◌, ◌/◌}
use native.Mathlib.Omega.{arith}
use Rattle.area.specs.Layout.{key_at}
use Rattle.reception.specs.Lookup.{found_of}
use Rattle.reception.proofs.Search.{none, hit, low, high}
use Rattle.reception.proofs.lookup.+look.Goals as goal

pub returns-then-n-eq0 : goal.returns-then-n-eq0
unfolding found_of
returns-then-n-eq0 t c =
    let v = c.args in
    sym (none v.area.now v.first (v.next - v.first) v.n v.key c.if-n-eq0.true)

pub returns-then-key-k : goal.returns-then-key-k
returns-then-key-k t c =
    let v = c.args in
    let e = c.key_at-k.ensures.0 in
    let back : v.first + (v.next - v.first) ≡ v.next = omega arith in
    c.look.ensures
    ∙ sym (low v.area.now v.first (v.next - v.first) v.n v.key c.if-n-eq0.false (rw (back, ← e) c.if-key-k.true))

pub returns-then-k-key : goal.returns-then-k-key
returns-then-k-key t c =
    let v = c.args in
    let e = c.key_at-k.ensures.0 in
    let back : v.first + (v.next - v.first) ≡ v.next = omega arith in
    let left : v.next - v.first + v.n / 2 + 1 ≡ v.next + v.n / 2 + 1 - v.first = omega arith in
    c.look-then-k-key.ensures
    ∙ sym (rw left at (high v.area.now v.first (v.next - v.first) v.n v.key c.if-n-eq0.false (rw (back, ← e) c.if-k-key.true)))

pub returns : goal.returns
unfolding found_of
returns t c =
    let v = c.args in
    let e = c.key_at-k.ensures.0 in
    let back : v.first + (v.next - v.first) ≡ v.next = omega arith in
    let same : key_at v.area.now (v.next + v.n / 2) ≡ v.key = omega (arith, e, c.if-key-k.false, c.if-k-key.false) in
    sym (rw back at (hit v.area.now v.first (v.next - v.first) v.n v.key c.if-n-eq0.false (rw back same)))
