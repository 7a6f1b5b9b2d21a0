use Rattle.std.proofs.Common.{arith, rules}
use Rattle.std.proofs.lemmas.List.Elements.{same_from_all_zip}
use Rattle.exports.proofs.Copied.{parts_put}
use Rattle.exports.proofs.array.put_caches.Goals as goal

pub returns : goal.returns
returns c =
    let x = c.args in
    parts_put x.state.now _ _ _ _ x.c.now c.told-state
    (record { memory = omega arith; lines = omega arith; entries = omega arith; flags = omega arith })
    (same_from_all_zip _ _ _ c.copy_by.ensures (λ x y h. search rules))
    (same_from_all_zip _ _ _ c.copy_by-2.ensures (λ x y h. search rules))
    c.put_copies.ensures
    c.put_copies-2.ensures
