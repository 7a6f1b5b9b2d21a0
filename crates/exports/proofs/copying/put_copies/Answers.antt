use Rattle.std.proofs.Common.{◌≤◌, arith, rules, length, drop}
use Rattle.std.proofs.lemmas.List.Elements.{same_from_all_zip}
use Rattle.std.proofs.lemmas.List.{take_all, take-append-drop, length-drop}
use Rattle.exports.proofs.copying.put_copies.Goals as goal

pub returns : goal.returns
returns c =
    let l = c.args.copies.now in
    let rest : length (drop 256 l) ≤ 256 = omega (arith, length-drop 256 l) in
    let front = same_from_all_zip _ _ _ c.copy_by.ensures (λ x y h. search rules) in
    let back = same_from_all_zip _ _ _ c.copy_by-2.ensures (λ x y h. search rules) in
    rw (front, back, take_all 256 (drop 256 l) rest) (take-append-drop 256 l)
