use Rattle.std.proofs.Common.{rules, arith, ℕ, ◌<◌, length, get_or, drop, take}
use Rattle.std.proofs.lemmas.List.Elements.{same_from_all_zip}
use Rattle.exports.proofs.Copied.{parts_read}
use Rattle.exports.proofs.Tested.{held, none_above_in}
use Rattle.exports.proofs.array.read_caches.Goals as goal

pub copy_by-requires-clause-calls : goal.copy_by-requires-clause-calls
copy_by-requires-clause-calls c =
    let s = c.args.state.now in
    let narrow : (i d : ℕ) → i < length (take 256 (drop 256 s)) → get_or (take 256 (drop 256 s)) i d < 4294967296 =
    λ i d l. omega (arith, none_above_in s 4294967295 256 256 (omega arith) (held s c.requires).memory i d l) in
    search (rules, narrow)

pub copy_by-requires-4-clause-calls : goal.copy_by-requires-4-clause-calls
copy_by-requires-4-clause-calls c =
    let s = c.args.state.now in
    let narrow : (i d : ℕ) → i < length (take 16 (drop 16 s)) → get_or (take 16 (drop 16 s)) i d < 256 =
    λ i d l. omega (arith, none_above_in s 1 16 16 (omega arith) (held s c.requires).flags i d l) in
    search (rules, narrow)

pub returns : goal.returns
returns c =
    parts_read c.args.state.now _ _ _ _ (omega arith) (same_from_all_zip _ _ _ c.copy_by.ensures (λ x y h. search rules))
    (same_from_all_zip _ _ _ c.copy_by-2.ensures (λ x y h. search rules))
    (same_from_all_zip _ _ _ c.copy_by-3.ensures (λ x y h. search rules))
    (same_from_all_zip _ _ _ c.copy_by-4.ensures (λ x y h. search rules))
